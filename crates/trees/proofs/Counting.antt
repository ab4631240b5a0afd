-- Counts in an array, one member more where paths part and one in each binding below. Assumes nothing.
use Rattle.std.proofs.Common.{◌≡◌, ℕ, ◌+◌, ◌-◌, ◌<◌, ◌≤◌, List, [], ◌∷◌, ◌++◌, length, take, set, replicate, ap, ◌∙◌, append_assoc, arith}
use Rattle.std.proofs.lemmas.List.{take_more_set, length-set, length-replicate}
use Rattle.std.proofs.lemmas.Slice.{take-put_mid}
use borrow.Rule.Slice.PartMut.{put_mid}

pub one_and_ones : (xs ys : List ℕ) (d names x : ℕ) → d < names → names ≤ length xs → ys ≡ replicate (names - (d + 1)) 1
    → take names (put_mid (d + 1) (names - (d + 1)) (set xs d x) ys) ≡ take d xs ++ x ∷ replicate (names - (d + 1)) 1
one_and_ones xs ys d names x l m e =
    let long : length ys ≡ names - (d + 1) = ap length e ∙ length-replicate (names - (d + 1)) 1 in
    take-put_mid (d + 1) (names - (d + 1)) (set xs d x) ys names (omega (arith, long)) (omega (arith, length-set xs d x))
    ∙ (λ j. take_more_set xs d x (omega arith) j ++ e j) ∙ append_assoc (take d xs) (x ∷ []) (replicate (names - (d + 1)) 1)
