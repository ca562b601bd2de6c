use Rattle.reader.proofs.Tokens.{deep_refused, empty_read, opened_read}
use mathlib.Core.Path.{◌∙◌, refl, sym}
use Rattle.reader.proofs.value.container_at.Goals as goal

pub returns-then-depth-ge-MAX_DEPTH : goal.returns-then-depth-ge-MAX_DEPTH
returns-then-depth-ge-MAX_DEPTH c = record { read = (refl, deep_refused _ c.requires.0 c.requires.1 c.if-depth-ge-MAX_DEPTH.true) }

pub returns-then-byte_at-text : goal.returns-then-byte_at-text
returns-then-byte_at-text c =
    record {
      read =
          let j = c.skip-j.ensures in
          opened_read j.dense c.requires.0 c.requires.1 c.if-depth-ge-MAX_DEPTH.false j.skipped (λ e. c.if-byte_at-text.true (c.byte_at.ensures ∙ e)) c.put.ensures;
    }

pub returns : goal.returns
returns c =
    record {
      read =
          let p = c.skip.ensures in
          empty_read p.dense c.requires.0 c.requires.1 c.if-depth-ge-MAX_DEPTH.false c.skip-j.ensures.skipped (sym c.byte_at.ensures ∙ c.if-byte_at-text.false) p.skipped c.put-2.ensures;
    }
