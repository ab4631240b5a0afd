-- What reading the content of a text line answers. Assumes nothing.
use Rattle.std.specs.Prelude.{◌≡◌, ℕ, ◌+◌, ◌<◌, List, [], length, Some, None, Ok, Err, Option as Answer, Result}
use Rattle.std.specs.Borrow.{Bor}
use Rattle.std.proofs.Math.Option.{Option, none, some}
use Rattle.trees.specs.Files.{unescape, meant, prefixed}
use Rattle.trees.specs.declared.escapes.Malformed.{Malformed}

-- the definitions' options as the code's
abbrev pub answer : {A : Type 0} → Option A → Answer A
answer none = None
answer (some a) = Some a

-- what a backslash and this byte mean
abbrev pub pair_byte : ℕ → Answer ℕ
pair_byte b = answer (meant b)

-- what a content begins with: a byte of its text and a shorter rest, or nothing, or nothing that may stand there
abbrev pub Begins : List ℕ → Result (Answer (ℕ × Bor (List ℕ))) Malformed → Type 0
Begins l (Ok None) = l ≡ []
Begins l (Ok (Some (b, rest))) = (unescape l ≡ prefixed b (unescape rest.now)) × (length rest.now < length l)
Begins l (Err _) = unescape l ≡ none

-- the length of a text that stands behind n bytes
abbrev pub counted : ℕ → Option (List ℕ) → Result ℕ Malformed
counted n none = Err (record {})
counted n (some t) = Ok (n + length t)
