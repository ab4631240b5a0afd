-- Putting bytes into a count, or into a lent buffer, keeps the laws of a sink. Assumes nothing.
use Rattle.std.proofs.Common.{◌≡◌, ℕ, ◌+◌, ◌≤◌, List, ◌++◌, length, take, drop, sym, refl, ap, ◌∙◌, append_assoc, add-zero, arith, length-append}
use Rattle.std.proofs.lemmas.List.{take-append-drop, take_at, drop-drop, drop_at, length-take-le}
use Rattle.listing.specs.Puts.{Adds}
use Rattle.listing.specs.Outputs.{count_room, CountGrows, fill_room, stored, FillGrows}

pub counts_add : Adds count_room CountGrows
counts_add = record {
  none = λ s. sym (add-zero s.room);
  both = λ s t u xs ys a b. omega (arith, a, b, length-append xs ys);
  less = λ s t xs a. a;
}

-- two writes in turn, over lists
twice : (front xs ys old : List ℕ) (n : ℕ) → length (front ++ xs) ≡ n → take n (front ++ (xs ++ drop n old)) ++ (ys ++ drop (n + length ys) (front ++ (xs ++ drop n old))) ≡ front ++ ((xs ++ ys) ++ drop (n + length ys) old)
twice front xs ys old n f =
    let g : front ++ (xs ++ drop n old) ≡ (front ++ xs) ++ drop n old = sym (append_assoc front xs (drop n old)) in
    let a : take n (front ++ (xs ++ drop n old)) ≡ front ++ xs = ap (take n) g ∙ take_at (front ++ xs) (drop n old) n f in
    let b : drop (n + length ys) (front ++ (xs ++ drop n old)) ≡ drop (n + length ys) old =
    sym (drop-drop (length ys) n (front ++ (xs ++ drop n old))) ∙ ap (λ l. drop (length ys) (drop n l)) g ∙ ap (drop (length ys)) (drop_at (front ++ xs) (drop n old) n f) ∙ drop-drop (length ys) n old in
    (λ j. a j ++ (ys ++ b j)) ∙ append_assoc front xs (ys ++ drop (n + length ys) old) ∙ ap (λ l. front ++ l) (sym (append_assoc xs ys (drop (n + length ys) old)))

stored_twice : (old : List ℕ) (at : ℕ) (xs ys : List ℕ) → at + length xs ≤ length old → stored (stored old at xs) (at + length xs) ys ≡ stored old at (xs ++ ys)
stored_twice old at xs ys h =
    let a : at ≤ length old = omega arith in
    let n : length (take at old ++ xs) ≡ at + length xs = length-append (take at old) xs ∙ ap (λ k. k + length xs) (length-take-le at old a) in
    let m : at + length xs + length ys ≡ at + length (xs ++ ys) = omega (arith, length-append xs ys) in
    twice (take at old) xs ys old (at + length xs) n ∙ ap (λ k. take at old ++ ((xs ++ ys) ++ drop k old)) m

pub fills_add : Adds fill_room FillGrows
fills_add = record {
  none = λ s. record { at_is = sym (add-zero s.at); buffer_is = sym (ap (λ n. take s.at s.buffer.now ++ drop n s.buffer.now) (add-zero s.at) ∙ take-append-drop s.at s.buffer.now); long = refl; same = refl };
  both = λ s t u xs ys a b. record {
    at_is = omega (arith, a.at_is, b.at_is, length-append xs ys);
    buffer_is = b.buffer_is ∙ (λ j. stored (a.buffer_is j) (a.at_is j) ys) ∙ stored_twice s.buffer.now s.at xs ys (omega (arith, a.at_is, a.long, t.within));
    long = b.long ∙ a.long;
    same = b.same ∙ a.same;
  };
  less = λ s t xs a. omega (arith, a.at_is, a.long, t.within);
}
