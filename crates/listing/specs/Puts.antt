-- What putting bytes into a sink does: it has room for so many, and becomes something else by bytes that are put. Assumes nothing.
use Rattle.std.specs.Prelude.{◌≡◌, ℕ, ◌+◌, ◌<◌, List, [], ◌++◌, length, Ok, Err, Result}
use Rattle.listing.specs.declared.sink.NoRoom.{NoRoom}

-- all of the bytes were put, or they have no room
abbrev pub Puts : {S : Type 0} → (S → ℕ) → (S → List ℕ → S → Type 0) → S → List ℕ → Result (Unit {0}) NoRoom → S → Type 0
Puts room grows s xs (Ok u) t = grows s xs t
Puts room grows s xs (Err e) t = room s < length xs

-- putting nothing changes nothing, what is put in turn adds up, and takes of the room
pub record Adds {S : Type 0} (room : S → ℕ) (grows : S → List ℕ → S → Type 0) : Type 0 where
  pub none : (s : S) → grows s [] s
  pub both : (s t u : S) (xs ys : List ℕ) → grows s xs t → grows t ys u → grows s (xs ++ ys) u
  pub less : (s t : S) (xs : List ℕ) → grows s xs t → room s ≡ room t + length xs
