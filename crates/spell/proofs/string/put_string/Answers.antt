-- A short string is closed behind its plain bytes, and any other is written on from there.
use Prim.Native.Nat.{◌+◌}
use Rattle.spell.proofs.StringLaws.{opened, quote_ends, upto_all, upto_close, upto_last}
use mathlib.Core.Path.{◌∙◌, sym}
use Rattle.spell.proofs.string.put_string.Goals as goal

pub bounds-out-p : goal.bounds-out-p
bounds-out-p c = (upto_last (opened c.args.text.now c.args.q c.args.out.now c.requires.1 c.put_plain-n.ensures.put) (quote_ends c.args.text.now (c.args.q + 1 + c.put_plain-n.result) (sym c.byte_at.ensures ∙ c.if-byte_at-eq34.true))).1

pub returns-then-byte_at-eq34 : goal.returns-then-byte_at-eq34
returns-then-byte_at-eq34 c = record { put = upto_close (opened c.args.text.now c.args.q c.args.out.now c.requires.1 c.put_plain-n.ensures.put) (quote_ends c.args.text.now (c.args.q + 1 + c.put_plain-n.result) (sym c.byte_at.ensures ∙ c.if-byte_at-eq34.true)) }

pub returns : goal.returns
returns c = record { put = upto_all (opened c.args.text.now c.args.q c.args.out.now c.requires.1 c.put_plain-n.ensures.put) c.put_ending.ensures.put }
