use Rattle.members.proofs.sort.+halved.Given as goal

abbrev pub decreases-halved : goal.decreases-halved
decreases-halved l = l.n
