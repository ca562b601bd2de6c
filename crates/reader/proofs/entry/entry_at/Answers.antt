use Rattle.reader.specs.Tokens.{EntryAt}
use Rattle.reader.proofs.entry.entry_at.Goals as goal

pub returns : goal.returns
returns c = record { read = EntryAt.element (c.requires.2 c.if-kind-eq123.false) }
