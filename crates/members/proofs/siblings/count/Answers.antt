use Rattle.members.proofs.Lineage.{siblings_walk}
use Rattle.members.proofs.Walking.{walk_yields}
use Rattle.std.proofs.lemmas.Iterator.Consumers.{count_from_yields_List}
use Rattle.members.proofs.siblings.count.Goals as goal

pub returns : goal.returns
returns c =
    let s = c.requires.1.1 in
    record { counted = rw (count_from_yields_List _ _ c.count.ensures.ran (walk_yields c.siblings.ensures s), ← siblings_walk s) s }
