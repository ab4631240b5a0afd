-- What showing a tree file answers. Assumes nothing.
use Rattle.std.specs.Prelude.{◌≡◌, ℕ, true, List, length, take, Ok, Err, Result}
use Rattle.std.proofs.Math.Option.{none}
use Rattle.values.specs.Table.{Table}
use Rattle.trees.specs.Files.{read_tree, accepted, refused, listing}
use Rattle.trees.specs.Numbers.{number}
use Rattle.trees.specs.Accepted.{value_read}
use Rattle.entering.specs.Entries.{parts, enter_all}
use Rattle.checker.specs.declared.answers.Unshown.{Unshown}
use Rattle.checker.specs.declared.answers.Unshown.TheVariants.{Refused, Full}

-- the file, the table, the answer, the buffer afterwards: the buffer begins with the listing of the value read, which is the file itself; or
-- the file is refused by that number at that place; or the table has no room for the value and its parts
abbrev pub Shows : List ℕ → Table → Result ℕ Unshown → List ℕ → Type 0
Shows bs T (Ok n) buffer = (accepted (read_tree bs) ≡ true) × (take n buffer ≡ listing (value_read bs)) × (take n buffer ≡ bs) × (n ≡ length bs)
Shows bs T (Err (Refused e)) buffer = read_tree bs ≡ refused (number e.refusal) e.place
Shows bs T (Err Full) buffer = (accepted (read_tree bs) ≡ true) × (enter_all (parts (value_read bs)) T ≡ none)
