-- `cat` and `first` over whole lists of answers. Assumes nothing.
use Rattle.std.proofs.Common.{◌≡◌, ℕ, zero, suc, ◌<◌, ◌≤◌, leb, List, [], ◌∷◌, ◌++◌, map, length, sym, refl, ap, ◌∙◌, append_assoc, append-nil, arith, length-append}
use mathlib.Core.Option.{some}
use Rattle.std.proofs.lemmas.Bool.{cond-true, le-leb}
use Rattle.values.specs.Values.{nth}
use Rattle.trees.specs.Files.{split}
use Rattle.tools.specs.Tools.{Answer, Reply, fetch, product, failure}
use Rattle.tools.specs.Plans.{within, joining, choosing, paths_of, cat, first}
use Rattle.tools.specs.Laws.{chained, nothing}

fits : (text : List ℕ) (reply : Reply) → length text ≤ 1024 → within text reply ≡ reply
fits text reply l = cond-true (leb (length text) 1024) reply (failure 2) (le-leb (length text) 1024 l)

-- a text more, and the others behind it
front : (text t : List ℕ) (ts : List (List ℕ)) → length (text ++ chained (t ∷ ts)) ≤ 1024 → (length (text ++ t) ≤ 1024) × (length ((text ++ t) ++ chained ts) ≤ 1024)
front text t ts l =
    let e : length ((text ++ t) ++ chained ts) ≡ length (text ++ (t ++ chained ts)) = ap length (append_assoc text t (chained ts)) in
    (omega (arith, e, length-append (text ++ t) (chained ts)), omega (arith, e))

joining_asks : (text path : List ℕ) (paths texts : List (List ℕ)) → nth paths (length texts) ≡ some path → length (text ++ chained texts) ≤ 1024 → joining text paths (map some texts) ≡ fetch path
joining_asks text path [] texts e l = let z : ◌≡◌ {A = ℕ} 0 1 = cc in absurd (omega arith)
joining_asks text path (p ∷ paths) [] e l = let s : p ≡ path = cc in ap fetch s
joining_asks text path (p ∷ paths) (t ∷ ts) e l =
    let f = front text t ts l in
    fits (text ++ t) (joining (text ++ t) paths (map some ts)) f.0 ∙ joining_asks (text ++ t) path paths ts e f.1

joining_joins : (text : List ℕ) (paths texts : List (List ℕ)) → length texts ≡ length paths → length (text ++ chained texts) ≤ 1024 → joining text paths (map some texts) ≡ product (text ++ chained texts)
joining_joins text [] [] e l = ap product (sym (append-nil text))
joining_joins text [] (t ∷ ts) e l = absurd (omega arith)
joining_joins text (p ∷ paths) [] e l = absurd (omega arith)
joining_joins text (p ∷ paths) (t ∷ ts) e l =
    let f = front text t ts l in
    fits (text ++ t) (joining (text ++ t) paths (map some ts)) f.0 ∙ joining_joins (text ++ t) paths ts (omega arith) f.1 ∙ ap product (append_assoc text t (chained ts))

choosing_asks : (path : List ℕ) (paths : List (List ℕ)) (n : ℕ) → nth paths n ≡ some path → choosing paths (nothing n) ≡ fetch path
choosing_asks path [] n e = let z : ◌≡◌ {A = ℕ} 0 1 = cc in absurd (omega arith)
choosing_asks path (p ∷ paths) zero e = let s : p ≡ path = cc in ap fetch s
choosing_asks path (p ∷ paths) (suc n) e = choosing_asks path paths n e

choosing_finds : (text : List ℕ) (paths : List (List ℕ)) (n : ℕ) (given : List Answer) → n < length paths → length text ≤ 1024 → choosing paths (nothing n ++ some text ∷ given) ≡ product text
choosing_finds text [] n given h l = absurd (omega arith)
choosing_finds text (p ∷ paths) zero given h l = fits text (product text) l
choosing_finds text (p ∷ paths) (suc n) given h l = choosing_finds text paths n given (omega arith) l

choosing_fails : (paths : List (List ℕ)) → choosing paths (nothing (length paths)) ≡ failure 1
choosing_fails [] = refl
choosing_fails (p ∷ paths) = choosing_fails paths

pub cat_asks : (command path : List ℕ) (texts : List (List ℕ)) → nth (paths_of command) (length texts) ≡ some path → length (chained texts) ≤ 1024 → cat command (map some texts) ≡ fetch path
cat_asks command path texts e l = joining_asks [] path (paths_of command) texts e l

pub cat_joins : (command : List ℕ) (texts : List (List ℕ)) → length texts ≡ length (paths_of command) → length (chained texts) ≤ 1024 → cat command (map some texts) ≡ product (chained texts)
cat_joins command texts e l = joining_joins [] (paths_of command) texts e l

pub first_asks : (command path : List ℕ) (n : ℕ) → nth (paths_of command) n ≡ some path → first command (nothing n) ≡ fetch path
first_asks [] path n e = let z : ◌≡◌ {A = ℕ} 0 1 = cc in absurd (omega arith)
first_asks (b ∷ bs) path n e = choosing_asks path (split 32 (b ∷ bs)) n e

pub first_finds : (command text : List ℕ) (n : ℕ) (given : List Answer) → n < length (paths_of command) → length text ≤ 1024 → first command (nothing n ++ some text ∷ given) ≡ product text
first_finds [] text n given h l = absurd (omega arith)
first_finds (b ∷ bs) text n given h l = choosing_finds text (split 32 (b ∷ bs)) n given h l

pub first_fails : (command : List ℕ) → 0 < length command → first command (nothing (length (paths_of command))) ≡ failure 1
first_fails [] h = absurd (omega arith)
first_fails (b ∷ bs) h = choosing_fails (split 32 (b ∷ bs))
