-- A key put into a lent slice. Assumes nothing.
use Rattle.std.proofs.Common.{◌≡◌, ℕ, ◌+◌, ◌-◌, ◌<◌, ◌≤◌, List, [], ◌∷◌, ◌++◌, length, get_or, take, drop, set, sym, ap, ◌∙◌, subst, arith, length-append, length-drop, length-set, length-take}
use borrow.Rule.Slice.PartMut.{put_mid}
use Rattle.std.specs.List.{insert}
use Rattle.std.proofs.lemmas.List.{take-take, take-set, take-set-le, drop-take, drop-drop, drop-set, drop-set-lt}
use Rattle.std.proofs.lemmas.Slice.{take-put_mid, drop-put_mid}
use Rattle.std.proofs.lemmas.List.Edits.{length-insert, get_or-insert_below, get_or-insert_at, get_or-insert_above}
use Rattle.ordered.proofs.Climbs.{PutIn}

module _ {K : Type 0} (ks : List K) (len i : ℕ) (k : K) (within : len < length ks) (low : i ≤ len) where
  abbrev set_ks : List K
  set_ks = set ks len k

  abbrev mid : List K
  mid = take (len + 1 - i) (drop i set_ks)

  length_mid : length mid ≡ len + 1 - i
  length_mid = simp (length-take, length-drop, length-set) (omega arith)

  front : take (len - i) mid ≡ drop i (take len ks)
  front =
      take-take (len - i) (len + 1 - i) (drop i set_ks) (omega arith) ∙ sym (drop-take i (len - i) set_ks)
      ∙ ap (λ n. drop i (take n set_ks)) (omega arith) ∙ ap (drop i) (take-set ks len k)

  back : drop (len - i) mid ≡ k ∷ []
  back =
      ap (λ n. drop (len - i) (take n (drop i set_ks))) (omega arith) ∙ drop-take (len - i) 1 (drop i set_ks)
      ∙ ap (take 1) (drop-drop (len - i) i set_ks ∙ ap (λ n. drop n set_ks) (omega arith) ∙ drop-set ks len k within)

  pub shifted : (zs : List K) → zs ≡ drop (length mid - 1) mid ++ take (length mid - 1) mid → take (len + 1) (put_mid i (len + 1 - i) set_ks zs) ≡ insert (take len ks) i k
  shifted zs e =
      let n : length mid - 1 ≡ len - i = omega (arith, length_mid) in
      let is : zs ≡ k ∷ drop i (take len ks) = e ∙ ap (λ m. drop m mid ++ take m mid) n ∙ (λ j. back j ++ front j) in
      let long : length zs ≡ len + 1 - i = ap length is ∙ simp (length-drop, length-take) (omega arith) in
      take-put_mid i (len + 1 - i) set_ks zs (len + 1) (omega arith) (simp length-set (omega arith))
      ∙ (λ j. (take-set-le i ks len k low ∙ sym (take-take i len ks low)) j ++ is j)

  pub rest_stays : (zs : List K) → zs ≡ drop (length mid - 1) mid ++ take (length mid - 1) mid → drop (len + 1) (put_mid i (len + 1 - i) set_ks zs) ≡ drop (len + 1) ks
  rest_stays zs e =
      let long : length zs ≡ len + 1 - i = ap length e ∙ simp (length-append, length-drop, length-take, length-set) (omega arith) in
      drop-put_mid i (len + 1 - i) set_ks zs (len + 1) (omega arith) (simp length-set (omega arith)) long ∙ drop-set-lt (len + 1) ks len k (omega arith)

pub put_in : {K : Type 0} (xs ys : List K) (i : ℕ) (k : K) → i ≤ length xs → ys ≡ insert xs i k → PutIn xs i k ys
put_in xs ys i k h e = subst (PutIn xs i k) (sym e) (record {
  within = h;
  longer = length-insert xs i k h;
  here = λ d. get_or-insert_at xs i k d h;
  low = λ j d lt. get_or-insert_below xs i k d j lt h;
  high = λ j d lt. ap (λ m. get_or (insert xs i k) m d) (omega arith) ∙ get_or-insert_above xs i k d (j - 1) (omega arith) h;
})
