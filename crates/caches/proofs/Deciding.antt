-- Equality of places and questions decides whether their numbers are the same. Assumes nothing.
use Rattle.std.proofs.Common.{◌≡◌, ℕ, suc, Bool, false, ◌&&◌, List, [], ◌∷◌, Some, None, Decides, Option, sym, refl, ap, ◌∙◌, true≢false, arith, nat_eq, ◌==◌}
use mathlib.Core.Bool.{beq}
use Rattle.std.specs.Cmp.{booleans_Decides}
use Rattle.std.specs.Option.{option_eq}
use Rattle.std.proofs.lemmas.Bool.Decides.{Decides-eqb, Decides-like, Decides-at, Decides-and}
use Rattle.caches.specs.declared.places.Root.{Root}
use Rattle.caches.specs.declared.places.Root.TheVariants.{Dot, Param}
use Rattle.caches.specs.declared.places.Place.{Place}
use Rattle.caches.specs.declared.questions.Question.{Question}
use Rattle.caches.specs.declared.questions.Question.TheVariants.{Same, Kind, Presence, Function}
use Rattle.caches.specs.declared.questions.ValueKind.{ValueKind}
use Rattle.caches.specs.declared.questions.ValueKind.TheVariants as kinds
use Rattle.caches.specs.declared.questions.Found.{Found}
use Rattle.caches.specs.declared.questions.Found.TheVariants.{Value, Text}
use Rattle.caches.specs.declared.questions.Found.TheVariants as of
use Rattle.caches.specs.contracts.questions.ValueKindPartialEq.TheImpl as kind
use Rattle.caches.specs.contracts.questions.FoundPartialEq.TheImpl as found
use Rattle.caches.specs.contracts.places.RootPartialEq.TheImpl as root
use Rattle.caches.specs.contracts.places.PlacePartialEq.TheImpl as place
use Rattle.caches.specs.contracts.paths.PathPartialEq.TheImpl as path
use Rattle.caches.specs.contracts.questions.QuestionPartialEq.TheImpl as question
use Rattle.caches.specs.Paths.{path_names, same_path, same_path_decides}
use Rattle.caches.proofs.Derived.{path_eq_is}
use Rattle.caches.specs.Sameness.{root_number, place_numbers, question_numbers}

apart : {P : Type 0} (r : Bool) → r ≡ false → (P → ⊥) → Decides r P
apart r e n = (λ t. absurd (true≢false (sym t ∙ e)), λ p. absurd (n p))

pub root_decides : (a b : Root) (r : Bool) → (r ≡ (root.ghosts).eq a b) → Decides r (root_number a ≡ root_number b)
root_decides Dot Dot r h = (λ _. refl, λ _. h)
root_decides Dot (Param b) r h = apart r h (λ e. omega arith)
root_decides (Param a) Dot r h = apart r h (λ e. omega arith)
root_decides (Param a) (Param b) r h = Decides-like r (ap suc) (λ e. omega arith) (Decides-at r (a == b) h (Decides-eqb a b))

pub place_decides : (p q : Place) (r : Bool) → (r ≡ (place.ghosts).eq p q) → Decides r (place_numbers p ≡ place_numbers q)
place_decides p q r h =
    let roots = (root.ghosts).eq p.root q.root in
    let names = (path.ghosts).eq p.path q.path in
    Decides-like r (λ (w : (root_number p.root ≡ root_number q.root) × (path_names p.path ≡ path_names q.path)) i. w.0 i ∷ w.1 i) (λ e. (cc, cc))
    (Decides-at r (roots && names) h (Decides-and roots names (root_decides p.root q.root roots refl) (Decides-at names (same_path p.path q.path) (path_eq_is p.path q.path) (same_path_decides p.path q.path))))

-- the same first number, and the rest decides
behind : (n : ℕ) (xs ys : List ℕ) (r : Bool) → Decides r (xs ≡ ys) → Decides r (n ∷ xs ≡ n ∷ ys)
behind n xs ys r d = (λ t. ap (λ l. n ∷ l) (d.0 t), λ e. d.1 (cc))

pub question_decides : (a b : Question) (r : Bool) → (r ≡ (question.ghosts).eq a b) → Decides r (question_numbers a ≡ question_numbers b)
question_decides (Same p) (Same q) r h = behind 0 (place_numbers p) (place_numbers q) r (place_decides p q r h)
question_decides (Same p) (Kind q) r h = apart r h (λ e. cc)
question_decides (Same p) (Presence q) r h = apart r h (λ e. cc)
question_decides (Same p) (Function n) r h = apart r h (λ e. cc)
question_decides (Kind p) (Same q) r h = apart r h (λ e. cc)
question_decides (Kind p) (Kind q) r h = behind 1 (place_numbers p) (place_numbers q) r (place_decides p q r h)
question_decides (Kind p) (Presence q) r h = apart r h (λ e. cc)
question_decides (Kind p) (Function n) r h = apart r h (λ e. cc)
question_decides (Presence p) (Same q) r h = apart r h (λ e. cc)
question_decides (Presence p) (Kind q) r h = apart r h (λ e. cc)
question_decides (Presence p) (Presence q) r h = behind 2 (place_numbers p) (place_numbers q) r (place_decides p q r h)
question_decides (Presence p) (Function n) r h = apart r h (λ e. cc)
question_decides (Function m) (Same q) r h = apart r h (λ e. cc)
question_decides (Function m) (Kind q) r h = apart r h (λ e. cc)
question_decides (Function m) (Presence q) r h = apart r h (λ e. cc)
question_decides (Function m) (Function n) r h = behind 3 (m ∷ []) (n ∷ []) r (Decides-like r (ap (λ k. k ∷ [])) (λ e. cc) (Decides-at r (m == n) h (Decides-eqb m n)))

pub option_decides : {X : Type 0} (E : X → X → Bool) → ((x y : X) → Decides (E x y) (x ≡ y)) → (o p : Option X) → Decides (option_eq E o p) (o ≡ p)
option_decides E d None None = (λ _. refl, λ _. refl)
option_decides E d None (Some y) = apart false refl (λ e. cc)
option_decides E d (Some x) None = apart false refl (λ e. cc)
option_decides E d (Some x) (Some y) = Decides-like (E x y) (ap Some) (λ e. cc) (d x y)

kind_decides : (x y : ValueKind) → Decides ((kind.ghosts).eq x y) (x ≡ y)
kind_decides kinds.Text kinds.Text = (λ _. refl, λ _. refl)
kind_decides kinds.Text kinds.Truth = apart false refl (λ e. cc)
kind_decides kinds.Text kinds.Binding = apart false refl (λ e. cc)
kind_decides kinds.Truth kinds.Text = apart false refl (λ e. cc)
kind_decides kinds.Truth kinds.Truth = (λ _. refl, λ _. refl)
kind_decides kinds.Truth kinds.Binding = apart false refl (λ e. cc)
kind_decides kinds.Binding kinds.Text = apart false refl (λ e. cc)
kind_decides kinds.Binding kinds.Truth = apart false refl (λ e. cc)
kind_decides kinds.Binding kinds.Binding = (λ _. refl, λ _. refl)

-- one variant, and what it holds decides
inside : {X : Type 0} (f : X → Found) (x y : X) (r : Bool) → (f x ≡ f y → x ≡ y) → Decides r (x ≡ y) → Decides r (f x ≡ f y)
inside f x y r back d = (λ t. ap f (d.0 t), λ e. d.1 (back e))

pub found_decides : (a b : Found) (r : Bool) → (r ≡ (found.ghosts).eq a b) → Decides r (a ≡ b)
found_decides (Value x) (Value y) r h = inside Value x y r (λ e. cc) (Decides-at r (option_eq nat_eq x y) h (option_decides nat_eq Decides-eqb x y))
found_decides (Value x) (of.Kind y) r h = apart r h (λ e. cc)
found_decides (Value x) (of.Presence y) r h = apart r h (λ e. cc)
found_decides (Value x) (Text y) r h = apart r h (λ e. cc)
found_decides (of.Kind x) (Value y) r h = apart r h (λ e. cc)
found_decides (of.Kind x) (of.Kind y) r h = inside of.Kind x y r (λ e. cc) (Decides-at r (option_eq (kind.ghosts).eq x y) h (option_decides (kind.ghosts).eq kind_decides x y))
found_decides (of.Kind x) (of.Presence y) r h = apart r h (λ e. cc)
found_decides (of.Kind x) (Text y) r h = apart r h (λ e. cc)
found_decides (of.Presence x) (Value y) r h = apart r h (λ e. cc)
found_decides (of.Presence x) (of.Kind y) r h = apart r h (λ e. cc)
found_decides (of.Presence x) (of.Presence y) r h = inside of.Presence x y r (λ e. cc) (Decides-at r (beq x y) h (booleans_Decides x y))
found_decides (of.Presence x) (Text y) r h = apart r h (λ e. cc)
found_decides (Text x) (Value y) r h = apart r h (λ e. cc)
found_decides (Text x) (of.Kind y) r h = apart r h (λ e. cc)
found_decides (Text x) (of.Presence y) r h = apart r h (λ e. cc)
found_decides (Text x) (Text y) r h = inside Text x y r (λ e. cc) (Decides-at r (option_eq nat_eq x y) h (option_decides nat_eq Decides-eqb x y))
