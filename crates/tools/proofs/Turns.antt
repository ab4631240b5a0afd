-- One turn over the paths of a command and the answers so far. Assumes nothing.
use Rattle.std.proofs.Common.{◌≡◌, ℕ, ◌<◌, ◌≤◌, Bool, true, false, ⊎_elim, leb, List, [], ◌∷◌, ◌++◌, length, Option as Perhaps, sym, refl, ap, ◌∙◌, Bor}
use mathlib.Core.Option.{none, some}
use Rattle.std.proofs.lemmas.Bool.{cond-true, cond-false, le-leb, lt-leb, cases_lt}
use Rattle.values.proofs.Sameness.{clash}
use Rattle.trees.specs.declared.parts.Parts.{Parts}
use Rattle.trees.specs.Cuts.{Cuts}
use Rattle.trees.specs.Files.{split}
use Rattle.trees.proofs.Cutting.{rest_parts}
use Rattle.trees.proofs.Order.{parts_of}
use Rattle.tools.specs.Tools.{Answer, Reply, fetch, product, failure}
use Rattle.tools.specs.Plans.{within, choosing, joining}

turn : (F : List (List ℕ) → List Answer → Reply) (left : List ℕ) (given given' : List Answer) (r : Parts) (o : Perhaps (Bor (List ℕ))) → Cuts 32 left r → r.rest ≡ o → given ≡ given' → F (split 32 left) given ≡ F (r.first.now ∷ rest_parts 32 o) given'
turn F left given given' r o c e g = (λ j. F (parts_of 32 left r o c e j) (g j))

-- `first`, by the next answer
pub choosing_not_yet : (left : List ℕ) (given : List Answer) (r : Parts) → Cuts 32 left r → given ≡ [] → choosing (split 32 left) given ≡ fetch r.first.now
choosing_not_yet left given r c g = turn choosing left given [] r r.rest c refl g

pub choosing_found : (left : List ℕ) (given others : List Answer) (r : Parts) (text : List ℕ) → Cuts 32 left r → given ≡ some text ∷ others → choosing (split 32 left) given ≡ within text (product text)
choosing_found left given others r text c g = turn choosing left given (some text ∷ others) r r.rest c refl g

pub choosing_missing : (left : List ℕ) (given others : List Answer) (r : Parts) (o : Perhaps (Bor (List ℕ))) → Cuts 32 left r → r.rest ≡ o → given ≡ none ∷ others → choosing (split 32 left) given ≡ choosing (rest_parts 32 o) others
choosing_missing left given others r o c e g = turn choosing left given (none ∷ others) r o c e g

-- what does not pass is over the limit
pub too_long : {n : ℕ} (b : Bool) → b ≡ false → (n ≤ 1024 → b ≡ true) → 1024 < n
too_long {n} b e f = ⊎_elim (λ l. l) (λ l. clash (sym (f l) ∙ e)) (cases_lt 1024 n)

-- `cat`, by the next answer
pub joining_not_yet : (text left : List ℕ) (given : List Answer) (r : Parts) → Cuts 32 left r → given ≡ [] → joining text (split 32 left) given ≡ fetch r.first.now
joining_not_yet text left given r c g = turn (joining text) left given [] r r.rest c refl g

pub joining_missing : (text left : List ℕ) (given others : List Answer) (r : Parts) → Cuts 32 left r → given ≡ none ∷ others → joining text (split 32 left) given ≡ failure 1
joining_missing text left given others r c g = turn (joining text) left given (none ∷ others) r r.rest c refl g

joining_found : (text left : List ℕ) (given others : List Answer) (r : Parts) (o : Perhaps (Bor (List ℕ))) (piece : List ℕ) → Cuts 32 left r → r.rest ≡ o → given ≡ some piece ∷ others → joining text (split 32 left) given ≡ within (text ++ piece) (joining (text ++ piece) (rest_parts 32 o) others)
joining_found text left given others r o piece c e g = turn (joining text) left given (some piece ∷ others) r o c e g

pub joining_more : (text left : List ℕ) (given others : List Answer) (r : Parts) (o : Perhaps (Bor (List ℕ))) (piece new : List ℕ) → Cuts 32 left r → r.rest ≡ o → given ≡ some piece ∷ others → length (text ++ piece) ≤ 1024 → new ≡ text ++ piece → joining text (split 32 left) given ≡ joining new (rest_parts 32 o) others
joining_more text left given others r o piece new c e g l n =
    joining_found text left given others r o piece c e g
    ∙ cond-true (leb (length (text ++ piece)) 1024) (joining (text ++ piece) (rest_parts 32 o) others) (failure 2) (le-leb (length (text ++ piece)) 1024 l)
    ∙ ap (λ t. joining t (rest_parts 32 o) others) (sym n)

pub joining_long : (text left : List ℕ) (given others : List Answer) (r : Parts) (piece : List ℕ) → Cuts 32 left r → given ≡ some piece ∷ others → 1024 < length (text ++ piece) → joining text (split 32 left) given ≡ failure 2
joining_long text left given others r piece c g l =
    joining_found text left given others r r.rest piece c refl g
    ∙ cond-false (leb (length (text ++ piece)) 1024) (joining (text ++ piece) (rest_parts 32 r.rest) others) (failure 2) (lt-leb (length (text ++ piece)) 1024 l)
