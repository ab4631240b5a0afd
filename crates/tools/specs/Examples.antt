-- Examples of tools. Assumes nothing.
use Rattle.std.specs.Prelude.{◌≡◌, ℕ, List, [], ◌∷◌, ◌++◌, replicate, codes}
use Rattle.std.proofs.Math.Option.{none, some}
use Rattle.tools.specs.Tools.{fetch, product, failure, asked}
use Rattle.tools.specs.Plans.{cat, first, only, cat_only, first_only, beside}

-- a text of so many bytes
abbrev long : ℕ → List ℕ
long n = replicate n 97

pub record Examples : Type 0 where
  -- `first` on `a b`, nothing at a: a, then b, then the text at b
  pub first_begins : first (codes "a b") [] ≡ fetch (codes "a")
  pub first_goes_on : first (codes "a b") (none ∷ []) ≡ fetch (codes "b")
  pub first_finds : first (codes "a b") (none ∷ some (codes "text") ∷ []) ≡ product (codes "text")
  -- what is found at a is given at once
  pub first_stops : first (codes "a b") (some (codes "text") ∷ []) ≡ product (codes "text")
  -- nothing anywhere
  pub first_fails : first (codes "a b") (none ∷ none ∷ []) ≡ failure 1
  -- a text that is too long
  pub first_long : first (codes "a b") (some (long 1025) ∷ []) ≡ failure 2
  -- `cat` on `a b`: a, then b, then both texts
  pub cat_begins : cat (codes "a b") [] ≡ fetch (codes "a")
  pub cat_goes_on : cat (codes "a b") (some (codes "one") ∷ []) ≡ fetch (codes "b")
  pub cat_joins : cat (codes "a b") (some (codes "one") ∷ some (codes "two") ∷ []) ≡ product (codes "onetwo")
  -- nothing at a: b is not asked for
  pub cat_fails : cat (codes "a b") (none ∷ []) ≡ failure 1
  -- 1,024 bytes in all pass; with one more it fails before c is asked for
  pub cat_full : cat (codes "a b") (some (long 1023) ∷ some (codes "x") ∷ []) ≡ product (long 1023 ++ codes "x")
  pub cat_long : cat (codes "a b c") (some (long 1024) ∷ some (codes "x") ∷ []) ≡ failure 2
  -- an empty command
  pub cat_empty : cat [] [] ≡ product []
  pub first_empty : first [] [] ≡ product []
  -- between two blanks there is an empty path
  pub two_blanks : cat (codes "a  b") (some [] ∷ []) ≡ fetch []
  -- a name that is not there, and a command that is too long
  pub unknown : asked cat_only (codes "first") (codes "a") [] ≡ none
  pub too_long : asked cat_only (codes "cat") (long 1025) [] ≡ none
  -- side by side: right's tool, and left's where both have the name
  pub right : asked (beside cat_only first_only) (codes "first") (codes "a") (none ∷ []) ≡ some (failure 1)
  pub left : asked (beside cat_only (only (codes "cat") first)) (codes "cat") (codes "a b") (some (codes "one") ∷ []) ≡ some (fetch (codes "b"))
