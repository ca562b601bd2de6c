-- Parts of the line that says a refusal.
use Rattle.std.specs.Prelude.{ℕ, ◌++◌}
use Rattle.console.specs.Programs.{decimal, feed}
use Rattle.text.specs.Bytes.{Bytes, ascii}

-- A number behind a word.
abbrev pub numbered : Bytes → ℕ → Bytes
numbered before x = before ++ decimal x

-- ` at P` and the line feed, and ` in I` before that.
unfoldable pub placed : ℕ → Bytes
placed p = numbered (ascii " at ") p ++ feed

unfoldable pub in_input : ℕ → ℕ → Bytes
in_input i p = numbered (ascii " in ") i ++ placed p

-- Room enough for any refusal.
abbrev pub refusal_room : ℕ
refusal_room = 64
