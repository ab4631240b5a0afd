-- Worked examples of values, names and the table. Assumes nothing.
use Rattle.std.specs.Prelude.{◌≡◌, ℕ, zero, suc, true, false, [], ◌∷◌, replicate, codes}
use Rattle.std.proofs.Math.Option.{none, some}
use Rattle.values.specs.Values.{Value, text, truth, binding, nil, cons, kind, texts, bindings, before, look}
use Rattle.values.specs.Limits.{fit, height, proper}
use Rattle.values.specs.Table.{Table, entered}

-- a load cell with its gain, in a head with its name
abbrev cell : Value
cell = binding (cons (codes "gain") (text (codes "2.0017")) (cons (codes "sealed") (truth true) nil))

abbrev head : Value
head = binding (cons (codes "cell") cell (cons (codes "name") (text (codes "CW3")) nil))

-- so many bindings around a value
abbrev around : ℕ → Value → Value
around zero v = v
around (suc n) v = binding (cons (codes "a") (around n v) nil)

abbrev truths : Table
truths = truth true ∷ truth false ∷ []

pub record Examples : Type 0 where
  -- what stands at a path
  pub at_path : look head (codes "cell" ∷ codes "gain" ∷ []) ≡ some (text (codes "2.0017"))
  pub at_itself : look head [] ≡ some head
  pub nothing_there : look head (codes "cell" ∷ codes "zero" ∷ []) ≡ none
  pub below_a_text : look head (codes "name" ∷ codes "x" ∷ []) ≡ none
  pub kinds : (kind head ≡ bindings) × (kind (text []) ≡ texts)
  -- byte order, a shorter name before its extensions
  pub shorter : before (codes "name") (codes "name.short") ≡ true
  pub capitals : before (codes "Zero") (codes "alpha") ≡ true
  pub itself : before (codes "name") (codes "name") ≡ false
  -- names
  pub names : (fit (codes "a-b_c.9") ≡ true) × (fit (codes "...") ≡ true)
  pub no_names : (fit [] ≡ false) × (fit (codes ".") ≡ false) × (fit (codes "..") ≡ false) × (fit (codes "a b") ≡ false)
  pub longest : (fit (replicate 32 97) ≡ true) × (fit (replicate 33 97) ≡ false)
  -- heights
  pub heights : (height (binding nil) ≡ 1) × (height head ≡ 2)
  pub high : (proper (around 16 (truth true)) ≡ true) × (proper (around 17 (truth true)) ≡ false)
  pub high_empty : (proper (around 15 (binding nil)) ≡ true) × (proper (around 16 (binding nil)) ≡ false)
  -- names in a binding ascend
  pub disordered : proper (binding (cons (codes "b") (truth true) (cons (codes "a") (truth true) nil))) ≡ false
  pub twice : proper (binding (cons (codes "a") (truth true) (cons (codes "a") (truth true) nil))) ≡ false
  -- a value is entered once, behind the others
  pub entered_new : entered cell truths ≡ some (truth true ∷ truth false ∷ cell ∷ [])
  pub entered_again : entered cell (truth true ∷ truth false ∷ cell ∷ []) ≡ some (truth true ∷ truth false ∷ cell ∷ [])
