-- The entries of a container in the order in which they are written.
use Prim.Native.Char.{code}
use Rattle.std.specs.Prelude.{ℕ, eqb, length, cond, List, ◌++◌, ◌≡◌}
use Rattle.entries.specs.Answer.{over}
use Rattle.members.specs.Chains.{walk}
use Rattle.members.specs.Links.{link_of}
use Rattle.members.specs.Lists.{In}
use Rattle.members.specs.Records.{next_of}
use Rattle.text.specs.Bytes.{Bytes}
use Rattle.text.specs.Table.{Words}
use Rattle.writer.specs.Containers.{closed, closing, container, each}
use Rattle.writer.specs.Entering.{opens_object}
use Rattle.writer.specs.Writes.{Entry}

-- From an entry to the next: by links in an object, as they stand in an array.
unfoldable pub onward : Words → ℕ → ℕ → ℕ
onward w b x = cond (opens_object b) (link_of w x) (next_of w x)

-- The `n` records from `h` on inside what `b` opens.
abbrev pub entries_of : Words → ℕ → ℕ → ℕ → List ℕ
entries_of w b n h = walk (onward w b) n h

-- What stands behind an entry with `i` others behind it.
abbrev pub mark : ℕ → ℕ → ℕ
mark b i = cond (eqb i 0) (closing b) (code ",")

-- Each of the records `l`, inside `d` open containers, has a text as an entry.
pub record Texts (t : Bytes) (w : Words) (d : ℕ) (l : List ℕ) : Type 0 where
  pub text : ℕ → Bytes
  pub entries : (x : ℕ) → In x l → Entry t w x d (text x)

-- `c` is the text of the container that `b` opens, with the `n` entries from `h` on.
pub record Ready (t : Bytes) (w : Words) (d b n h : ℕ) (c : Bytes) : Type 0 where
  pub texts : Texts t w d (entries_of w b n h)
  pub whole : container b (each texts.text (entries_of w b n h)) ≡ c

-- Of the text `c` the beginning stands in the output, up to `at`, and the `i` entries from `x` on are left.
pub record Going (t : Bytes) (w : Words) (d b i x : ℕ) (o : Bytes) (at : ℕ) (o' c : Bytes) : Type 0 where
  pub texts : Texts t w d (entries_of w b i x)
  pub done : Bytes
  pub split : c ≡ done ++ closed (closing b) (each texts.text (entries_of w b i x))
  pub count : at ≡ length done
  pub now : o' ≡ over done o
