-- What putting bytes makes of a count, and of a lent buffer. Assumes nothing.
use Rattle.std.specs.Prelude.{◌≡◌, ℕ, ◌+◌, ◌-◌, List, ◌++◌, length, take, drop}
use Rattle.listing.specs.declared.output.Count.{Count}
use Rattle.listing.specs.declared.output.Fill.{Fill}

abbrev pub count_room : Count → ℕ
count_room s = s.room

abbrev pub CountGrows : Count → List ℕ → Count → Type 0
CountGrows s xs t = s.room ≡ t.room + length xs

abbrev pub fill_room : Fill → ℕ
fill_room s = length s.buffer.now - s.at

-- a buffer after bytes were put at a place
abbrev pub stored : List ℕ → ℕ → List ℕ → List ℕ
stored old at xs = take at old ++ (xs ++ drop (at + length xs) old)

pub record FillGrows (s : Fill) (xs : List ℕ) (t : Fill) : Type 0 where
  pub at_is : t.at ≡ s.at + length xs
  pub buffer_is : t.buffer.now ≡ stored s.buffer.now s.at xs
  pub long : length t.buffer.now ≡ length s.buffer.now
  pub same : t.buffer.ghost_name ≡ s.buffer.ghost_name
