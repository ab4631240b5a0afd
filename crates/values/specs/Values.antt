-- Values: texts, truth values, and bindings of named members. Look-up by name and by path, and tests of sameness. Assumes nothing.
use Rattle.std.specs.Prelude.{ℕ, zero, suc, Bool, true, false, cond, ◌&&◌, List, [], ◌∷◌, ◌==◌, nat_lt}
use Rattle.std.specs.Bool.{beq}
use Rattle.std.proofs.Math.Option.{Option, none, some}

-- a name is the list of its bytes
abbrev pub Name : Type 0
Name = List ℕ

-- a text is the list of its bytes; a binding's members stand in the order of their names
mutual
  pub data Value : Type 0 where
    text : List ℕ → Value
    truth : Bool → Value
    binding : Members → Value

  pub data Members : Type 0 where
    nil : Members
    cons : List ℕ → Value → Members → Members

-- the kind of a value
pub data Kind : Type 0 where
  texts truths bindings : Kind

abbrev pub kind : Value → Kind
kind (text s) = texts
kind (truth b) = truths
kind (binding ms) = bindings

-- whether two names, or any two lists of bytes, are the same
abbrev pub same_name : Name → Name → Bool
same_name [] [] = true
same_name [] (y ∷ ys) = false
same_name (x ∷ xs) [] = false
same_name (x ∷ xs) (y ∷ ys) = x == y && same_name xs ys

-- byte order, a shorter name before its extensions
abbrev pub before : Name → Name → Bool
before xs [] = false
before [] (y ∷ ys) = true
before (x ∷ xs) (y ∷ ys) = cond (nat_lt x y) true (x == y && before xs ys)

-- whether two values are the same
abbrev mutual
  pub same_value : Value → Value → Bool
  same_value (text s) (text t) = same_name s t
  same_value (text s) (truth c) = false
  same_value (text s) (binding ns) = false
  same_value (truth b) (text t) = false
  same_value (truth b) (truth c) = beq b c
  same_value (truth b) (binding ns) = false
  same_value (binding ms) (text t) = false
  same_value (binding ms) (truth c) = false
  same_value (binding ms) (binding ns) = same_members ms ns

  pub same_members : Members → Members → Bool
  same_members nil nil = true
  same_members nil (cons n v ns) = false
  same_members (cons m u ms) nil = false
  same_members (cons m u ms) (cons n v ns) = same_name m n && (same_value u v && same_members ms ns)

-- go on with what is there
abbrev pub and_then : {A B : Type 0} → Option A → (A → Option B) → Option B
and_then none f = none
and_then (some a) f = f a

-- change what is there
abbrev pub mapped : {A B : Type 0} → (A → B) → Option A → Option B
mapped f none = none
mapped f (some a) = some (f a)

-- what stands at a position, counted from 0
abbrev pub nth : {A : Type 0} → List A → ℕ → Option A
nth [] i = none
nth (x ∷ xs) zero = some x
nth (x ∷ xs) (suc i) = nth xs i

-- the member of a name
abbrev pub member : Name → Members → Option Value
member n nil = none
member n (cons m v ms) = cond (same_name n m) (some v) (member n ms)

-- the same in any value: only a binding has members
abbrev pub child : Name → Value → Option Value
child n (text s) = none
child n (truth b) = none
child n (binding ms) = member n ms

-- what stands at a path in a value; the empty path is the value itself
abbrev pub look : Value → List Name → Option Value
look v [] = some v
look v (n ∷ p) = and_then (child n v) (λ w. look w p)
