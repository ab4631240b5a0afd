-- Every tool is sound: `cat`, `first`, and those of toolboxes side by side. Assumes nothing.
use Rattle.std.specs.Prelude.{◌≡◌, ℕ, suc, ◌≤◌, Bool, true, false, cond, List, [], ◌∷◌, ◌++◌, length, ◌==◌, nat_le, refl}
use Rattle.std.proofs.Common.{subst, arith}
use Rattle.std.proofs.Math.Option.{Option, none, some}
use Rattle.std.proofs.lemmas.Bool.{cond_both, leb-true}
use Rattle.values.specs.Values.{Name, same_name, mapped}
use Rattle.trees.specs.Files.{push, split}
use Rattle.tools.specs.Tools.{Answer, Reply, product, failure, Plan, Tool, Tools, Small, Sound, AllSound, asked}
use Rattle.tools.specs.Plans.{within, joining, choosing, cat, first, only, or_else, beside}

-- no part is longer than the bytes that were split
abbrev Short : ℕ → List (List ℕ) → Type 0
Short n [] = Unit {0}
Short n (p ∷ ps) = (length p ≤ n) × Short n ps

longer : (m n : ℕ) (ps : List (List ℕ)) → m ≤ n → Short m ps → Short n ps
longer m n [] l s = tt
longer m n (p ∷ ps) l s = (omega (arith, s.0), longer m n ps l s.1)

push_short : (b n : ℕ) (ps : List (List ℕ)) → Short n ps → Short (suc n) (push b ps)
push_short b n [] s = (omega arith, tt)
push_short b n (p ∷ ps) s = (omega (arith, s.0), longer n (suc n) ps (omega arith) s.1)

split_short : (z : ℕ) (bs : List ℕ) → Short (length bs) (split z bs)
split_short z [] = (omega arith, tt)
split_short z (b ∷ bs) = go (b == z) (split_short z bs)
  where
    go : (x : Bool) → Short (length bs) (split z bs) → Short (suc (length bs)) (cond x ([] ∷ split z bs) (push b (split z bs)))
    go true s = (omega arith, longer (length bs) (suc (length bs)) (split z bs) (omega arith) s)
    go false s = push_short b (length bs) (split z bs) s

paths_short : (command : List ℕ) → length command ≤ 1024 → Short 1024 (split 32 command)
paths_short command l = longer (length command) 1024 (split 32 command) l (split_short 32 command)

within_small : (text : List ℕ) (reply : Reply) → (length text ≤ 1024 → Small reply) → Small (within text reply)
within_small text reply s = cond_both (nat_le (length text) 1024) reply (failure 2) Small (λ e. s (leb-true (length text) 1024 e)) (λ e. (omega arith, omega arith))

joining_small : (text : List ℕ) (paths : List (List ℕ)) (given : List Answer) → length text ≤ 1024 → Short 1024 paths → Small (joining text paths given)
joining_small text [] given l s = l
joining_small text (path ∷ paths) [] l s = s.0
joining_small text (path ∷ paths) (none ∷ given) l s = (omega arith, omega arith)
joining_small text (path ∷ paths) (some piece ∷ given) l s = within_small (text ++ piece) (joining (text ++ piece) paths given) (λ m. joining_small (text ++ piece) paths given m s.1)

choosing_small : (paths : List (List ℕ)) (given : List Answer) → Short 1024 paths → Small (choosing paths given)
choosing_small [] given s = (omega arith, omega arith)
choosing_small (path ∷ paths) [] s = s.0
choosing_small (path ∷ paths) (none ∷ given) s = choosing_small paths given s.1
choosing_small (path ∷ paths) (some text ∷ given) s = within_small text (product text) (λ m. m)

pub cat_small : (command : List ℕ) (given : List Answer) → length command ≤ 1024 → Small (cat command given)
cat_small [] given l = omega arith
cat_small (b ∷ bs) given l = joining_small [] (split 32 (b ∷ bs)) given (omega arith) (paths_short (b ∷ bs) l)

pub first_small : (command : List ℕ) (given : List Answer) → length command ≤ 1024 → Small (first command given)
first_small [] given l = omega arith
first_small (b ∷ bs) given l = choosing_small (split 32 (b ∷ bs)) given (paths_short (b ∷ bs) l)

-- a toolbox of one tool, and two side by side
pub only_sound : (own : Name) (plan : Plan) → ((command : List ℕ) (given : List Answer) → length command ≤ 1024 → Small (plan command given)) → AllSound (only own plan)
only_sound own plan small name t = go (same_name name own)
  where
    go : (b : Bool) → cond b (some (record { version = 1; plan = plan })) none ≡ some t → Sound t
    go true e = let same : record { version = 1; plan = plan } ≡ t = cc in subst Sound same (record { least = omega arith; most = omega arith; small = small })
    go false e = let z : ◌≡◌ {A = ℕ} 0 1 = cc in absurd (omega arith)

pub beside_sound : (left right : Tools) → AllSound left → AllSound right → AllSound (beside left right)
beside_sound left right l r name t = go (left name) (l name t)
  where
    go : (o : Option Tool) → (o ≡ some t → Sound t) → or_else o (right name) ≡ some t → Sound t
    go none s e = r name t e
    go (some u) s e = s e

-- a reply that a toolbox gives is small
pub asked_small : (T : Tools) → AllSound T → (name : Name) (command : List ℕ) (given : List Answer) (reply : Reply) → asked T name command given ≡ some reply → Small reply
asked_small T sound name command given reply = go (nat_le (length command) 1024) refl (T name) refl
  where
    go : (b : Bool) → nat_le (length command) 1024 ≡ b → (o : Option Tool) → T name ≡ o → cond b (mapped (λ t. t.plan command given) o) none ≡ some reply → Small reply
    go true l none n e = let z : ◌≡◌ {A = ℕ} 0 1 = cc in absurd (omega arith)
    go true l (some t) n e = let same : t.plan command given ≡ reply = cc in subst Small same ((sound name t n).small command given (leb-true (length command) 1024 l))
    go false l o n e = let z : ◌≡◌ {A = ℕ} 0 1 = cc in absurd (omega arith)
