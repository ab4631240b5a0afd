-- What listing a value into a lent buffer answers. Assumes nothing.
use Rattle.std.specs.Prelude.{◌≡◌, ℕ, List, ◌++◌, length, drop, Some, None, Ok, Err, MatchBool, Option as Answer, Result, nat_le}
use Rattle.std.proofs.Math.Option.{Option, none, some}
use Rattle.values.specs.Values.{Value}
use Rattle.trees.specs.Files.{listing}
use Rattle.listing.specs.declared.answers.Unlisted.{Unlisted}
use Rattle.listing.specs.declared.answers.Unlisted.TheVariants.{UnknownNumber, ShortBuffer}

-- the number of every refusal; an unknown number of the table is a mistake of the caller's, and has none
abbrev pub number : Unlisted → Answer ℕ
number UnknownNumber = None
number ShortBuffer = Some 32

-- nothing is written
abbrev pub Refuses : Unlisted → List ℕ → Result ℕ Unlisted → List ℕ → Type 0
Refuses e old r new = (r ≡ Err e) × (new ≡ old)

-- the listing stands in front, and what the buffer had behind it stays
abbrev pub Writes : List ℕ → List ℕ → Result ℕ Unlisted → List ℕ → Type 0
Writes bs old r new = (r ≡ Ok (length bs)) × (new ≡ bs ++ drop (length bs) old)

-- what is under a number, the buffer before, the answer, the buffer after
abbrev pub Lists : Option Value → List ℕ → Result ℕ Unlisted → List ℕ → Type 0
Lists none old r new = Refuses UnknownNumber old r new
Lists (some v) old r new = MatchBool (nat_le (length (listing v)) (length old)) (Writes (listing v) old r new) (Refuses ShortBuffer old r new)
