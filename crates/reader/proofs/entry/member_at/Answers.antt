use Rattle.reader.proofs.Tokens.{member_read, member_refused, name_missing, name_refused}
use mathlib.Core.Path.{◌∙◌, sym}
use Rattle.reader.proofs.entry.member_at.Goals as goal

pub returns-then-byte_at-ne34 : goal.returns-then-byte_at-ne34
returns-then-byte_at-ne34 c =
    record { read = let m = c.missing.ensures in name_missing m.short m.wrong c.requires.1 (λ e. c.if-byte_at-ne34.true (c.byte_at.ensures ∙ e)) }

pub returns-in-Err : goal.returns-in-Err
returns-in-Err c = record { read = name_refused (sym c.byte_at.ensures ∙ c.if-byte_at-ne34.false) c.in-Err.ensures.read }

pub returns-then-byte_at-ne58 : goal.returns-then-byte_at-ne58
returns-then-byte_at-ne58 c =
    record {
      read =
          let m = c.missing-then-byte_at-ne58.ensures in
          let j = c.skip-j.ensures in
          member_refused (sym c.byte_at.ensures ∙ c.if-byte_at-ne34.false) c.in-Ok.ensures.read j.skipped m.short m.wrong j.dense (λ e. c.if-byte_at-ne58.true (c.byte_at-2.ensures ∙ e));
    }

pub returns : goal.returns
returns c =
    record {
      read =
          let p = c.skip.ensures in
          member_read (sym c.byte_at.ensures ∙ c.if-byte_at-ne34.false) c.in-Ok.ensures.read c.skip-j.ensures.skipped (sym c.byte_at-2.ensures ∙ c.if-byte_at-ne58.false) p.skipped p.dense;
    }
