-- Laws of the index of a keeper. Assumes nothing.
use Rattle.std.proofs.Common.{◌≡◌, ℕ, zero, suc, ◌+◌, ◌-◌, ◌<◌, ◌≤◌, Bool, true, false, cond, List, [], ◌∷◌, ◌++◌, map, length, get_or, take, drop, is_some, Some, None, Option, Ordering, Less, Equal, Greater, sym, refl, ap, ◌∙◌, subst, ⊎_elim, append-nil, arith}
use Rattle.std.specs.List.{insert}
use Rattle.std.specs.Cmp.{IsTotalOrder, ranks, nat_cmp_is}
use Rattle.std.specs.Ordering.{is_lt, is_eq, ordering_then, MatchOrdering, nat_cmp}
use Rattle.std.proofs.str.Laws.{order}
use Rattle.std.proofs.lemmas.List.Elements.{filter-append}
use Rattle.std.proofs.lemmas.List.{get_or_default, map_push, get_or-drop, length-drop, take-append-drop}
use Rattle.ordered.specs.Climbing.{Climbs, Stands, MoreFrom, Inserts}
use Rattle.std.proofs.Math.Seq.{drop-nil, take-nil}
use Rattle.ordered.proofs.Climbs.{PutIn, less}
use Rattle.ordered.proofs.Shifts.{put_in}
use Rattle.caches.specs.declared.keys.Key.{Key}
use Rattle.caches.specs.declared.keys.Key.TheVariants.{Tool}
use Rattle.caches.specs.declared.keeper_slots.Indexed.{Indexed}
use Rattle.caches.specs.Keys.{key_order, same_key}
use Rattle.caches.specs.contracts.keeper_slots.IndexedOrd.TheImpl.{ghosts}
use Rattle.caches.specs.Lines.{line_order, line_order_total, line_at, Sorted, Below, lines_with, numbers_with, Enlists}
use Rattle.caches.proofs.Derived.{line_cmp_is}
use Rattle.caches.proofs.KeyOrders.{same_key_same}

abbrev cmp : Indexed → Indexed → Ordering
cmp = line_order

abbrev pub line : Key → ℕ → Indexed
line key n = record { key = key; entry = n }

-- ---- order

chain : (xs : List Indexed) → Sorted xs → (i n j : ℕ) → j ≡ i + n + 1 → j < length xs → cmp (line_at xs i) (line_at xs j) ≡ Less
chain xs up i zero j e lt =
    let f : i + 1 ≡ j = omega arith in
    ap (λ m. cmp (line_at xs i) (line_at xs m)) (sym f) ∙ less (cmp (line_at xs i) (line_at xs (i + 1))) (up i (omega arith))
chain xs up i (suc n) j e lt =
    let m = i + n + 1 in
    let f : m + 1 ≡ j = omega arith in
    let last : cmp (line_at xs m) (line_at xs j) ≡ Less = ap (λ k. cmp (line_at xs m) (line_at xs k)) (sym f) ∙ less (cmp (line_at xs m) (line_at xs (m + 1))) (up m (omega arith)) in
    line_order_total.trans (line_at xs i) (line_at xs m) (line_at xs j) (chain xs up i n m refl (omega arith)) last

pub climbing : (xs : List Indexed) → Sorted xs → Climbs cmp xs
climbing xs up i j d lt end =
    let none : Indexed = record { key = Tool 0 0 0; entry = 0 } in
    (λ t. cmp (get_or_default xs i d none (omega arith) t) (get_or_default xs j d none end t)) ∙ chain xs up i (j - i - 1) j (omega arith) end

pub sorted_from : (xs : List Indexed) → Climbs cmp xs → Sorted xs
sorted_from xs up i lt = ap is_lt (up i (i + 1) (record { key = Tool 0 0 0; entry = 0 }) (omega arith) lt)

-- what is said of `cmp` of lines, said of this order
pub placed : (xs ys : List Indexed) (x : Indexed) (i : ℕ) → Sorted xs → ys ≡ xs → (IsTotalOrder ghosts.cmp → Climbs ghosts.cmp ys → Stands ghosts.cmp ys x i) → Stands cmp xs x i
placed xs ys x i up same stands =
    subst (λ l. Stands cmp l x i) same (subst (λ (R : Indexed → Indexed → Ordering). IsTotalOrder R → Climbs R ys → Stands R ys x i) (sym line_cmp_is) stands line_order_total (subst (Climbs cmp) (sym same) (climbing xs up)))

pub inserted : (xs ys : List Indexed) (x : Indexed) (r : Option ℕ) (room : Type 0) → Sorted xs → (IsTotalOrder ghosts.cmp → Climbs ghosts.cmp xs → Inserts ghosts.cmp room xs x r ys) → Inserts cmp room xs x r ys
inserted xs ys x r room up inserts =
    subst (λ (R : Indexed → Indexed → Ordering). IsTotalOrder R → Climbs R xs → Inserts R room xs x r ys) (sym line_cmp_is) inserts line_order_total (climbing xs up)

-- ---- which lines have a key

below_zero : (e : ℕ) → nat_cmp e 0 ≡ Less → ⊥
below_zero e h = let lt : e < 0 = subst (λ k. MatchOrdering k (e < 0) (e ≡ 0) (0 < e)) h (ranks e 0) in omega arith

before_lacks : (x : Indexed) (key : Key) → cmp x (line key 0) ≡ Less → same_key x.key key ≡ false
before_lacks x key h = go (key_order x.key key) h
  where
    go : (r : Ordering) → ordering_then r (nat_cmp x.entry 0) ≡ Less → is_eq r ≡ false
    go Less g = refl
    go Equal g = absurd (below_zero x.entry g)
    go Greater g = refl

between_has : (x : Indexed) (key : Key) (m : ℕ) → (cmp x (line key 0) ≡ Less → ⊥) → cmp x (line key m) ≡ Less → same_key x.key key ≡ true
between_has x key m n h = go (key_order x.key key) n h
  where
    go : (r : Ordering) → (ordering_then r (nat_cmp x.entry 0) ≡ Less → ⊥) → ordering_then r (nat_cmp x.entry m) ≡ Less → is_eq r ≡ true
    go Less f g = absurd (f refl)
    go Equal f g = refl
    go Greater f g = cc

after_lacks : (x : Indexed) (key : Key) (m : ℕ) → x.entry < m → (cmp x (line key m) ≡ Less → ⊥) → same_key x.key key ≡ false
after_lacks x key m lt n = go (key_order x.key key) n
  where
    go : (r : Ordering) → (ordering_then r (nat_cmp x.entry m) ≡ Less → ⊥) → is_eq r ≡ false
    go Less f = refl
    go Equal f = absurd (f (sym (nat_cmp_is x.entry m Less lt)))
    go Greater f = refl

never_equal : (x : Indexed) (key : Key) (m : ℕ) → x.entry < m → cmp x (line key m) ≡ Equal → ⊥
never_equal x key m lt h = go (key_order x.key key) h
  where
    go : (r : Ordering) → ordering_then r (nat_cmp x.entry m) ≡ Equal → ⊥
    go Less f = cc
    go Equal f = let g = nat_cmp_is x.entry m Less lt in cc
    go Greater f = cc

-- ---- lines of a key

module _ (key : Key) where
  abbrev Lacks : List Indexed → ℕ → Type 0
  Lacks xs j = (d : Indexed) → same_key (get_or xs j d).key key ≡ false

  abbrev Has : List Indexed → ℕ → Type 0
  Has xs j = (d : Indexed) → same_key (get_or xs j d).key key ≡ true

  passes : (x : Indexed) (xs : List Indexed) → same_key x.key key ≡ false → lines_with key (x ∷ xs) ≡ lines_with key xs
  passes x xs e = ap (λ b. cond b (x ∷ lines_with key xs) (lines_with key xs)) e

  takes : (x : Indexed) (xs : List Indexed) → same_key x.key key ≡ true → lines_with key (x ∷ xs) ≡ x ∷ lines_with key xs
  takes x xs e = ap (λ b. cond b (x ∷ lines_with key xs) (lines_with key xs)) e

  pub filter_stretch : (xs : List Indexed) (s e : ℕ) → s ≤ e → ((j : ℕ) → j < s → j < length xs → Lacks xs j) → ((j : ℕ) → s ≤ j → j < e → j < length xs → Has xs j) → ((j : ℕ) → e ≤ j → j < length xs → Lacks xs j) → lines_with key xs ≡ take (e - s) (drop s xs)
  filter_stretch [] s e h a b c = sym (ap (take (e - s)) (drop-nil s) ∙ take-nil (e - s))
  filter_stretch (x ∷ xs) zero zero h a b c =
      passes x xs (c 0 (omega arith) (omega arith) x) ∙ filter_stretch xs zero zero h (λ j g. absurd (omega arith)) (λ j g l. absurd (omega arith)) (λ j g l d. c (suc j) (omega arith) (omega arith) d)
  filter_stretch (x ∷ xs) zero (suc e) h a b c =
      let n : suc (e - 0) ≡ suc e - 0 = omega arith in
      takes x xs (b 0 (omega arith) (omega arith) (omega arith) x)
      ∙ ap (λ l. x ∷ l) (filter_stretch xs zero e (omega arith) (λ j g. absurd (omega arith)) (λ j g l m d. b (suc j) (omega arith) (omega arith) (omega arith) d) (λ j g l d. c (suc j) (omega arith) (omega arith) d))
      ∙ ap (λ m. take m (x ∷ xs)) n
  filter_stretch (x ∷ xs) (suc s) zero h a b c = absurd (omega arith)
  filter_stretch (x ∷ xs) (suc s) (suc e) h a b c =
      let n : e - s ≡ suc e - suc s = omega arith in
      passes x xs (a 0 (omega arith) (omega arith) x)
      ∙ filter_stretch xs s e (omega arith) (λ j g l d. a (suc j) (omega arith) (omega arith) d) (λ j g l m d. b (suc j) (omega arith) (omega arith) (omega arith) d) (λ j g l d. c (suc j) (omega arith) (omega arith) d)
      ∙ ap (λ m. take m (drop s xs)) n

-- the lines of a key stand between the places of two lines
module _ (key : Key) (xs : List Indexed) (n m start end : ℕ) (few : n ≤ m) (below : Below n xs) (first : Stands cmp xs (line key 0) start) (last : Stands cmp xs (line key m) end) where
  -- what is less than the first line of a key is less than its later ones
  earlier : (x : Indexed) → cmp x (line key 0) ≡ Less → cmp x (line key m) ≡ Less
  earlier x h = go (key_order x.key key) h
    where
      go : (r : Ordering) → ordering_then r (nat_cmp x.entry 0) ≡ Less → ordering_then r (nat_cmp x.entry m) ≡ Less
      go Less g = refl
      go Equal g = absurd (below_zero x.entry g)
      go Greater g = cc

  pub start_before_end : start ≤ length xs → start ≤ end
  start_before_end within = ⊎_elim
      (λ lt. let d = line key 0 in absurd (last.1 end d (omega arith) (omega arith) (earlier (get_or xs end d) (first.0 end d lt))))
      (λ ge. ge)
      (order end start)

  pub lines_between : start ≤ length xs → lines_with key xs ≡ take (end - start) (drop start xs)
  lines_between within = filter_stretch key xs start end (start_before_end within)
      (λ j lt l d. before_lacks (get_or xs j d) key (first.0 j d lt))
      (λ j ge lt l d. between_has (get_or xs j d) key m (first.1 j d ge l) (last.0 j d lt))
      (λ j ge l d. after_lacks (get_or xs j d) key m (let g = below j d l in omega arith) (last.1 j d ge l))

-- ---- one line more

below_put : (key : Key) (n : ℕ) (xs ys : List Indexed) (i : ℕ) → Below n xs → PutIn xs i (line key n) ys → Below (n + 1) ys
below_put key n xs ys i below p j d lt =
    ⊎_elim
    (λ l. let e = ap (λ (x : Indexed). x.entry) (p.low j d l) in let b = below j d (omega (arith, p.within)) in omega arith)
    (λ ge. ⊎_elim
    (λ g. let e = ap (λ (x : Indexed). x.entry) (p.high j d g) in let b = below (j - 1) d (omega (arith, p.longer)) in omega arith)
    (λ le. let same : j ≡ i = omega arith in let e = ap (λ (x : Indexed). x.entry) (ap (λ m. get_or ys m d) same ∙ p.here d) in omega arith)
    (order i j))
    (order j i)

numbers_put : (key k : Key) (n : ℕ) (xs : List Indexed) (i : ℕ) → Below n xs → MoreFrom cmp xs (line key n) i → numbers_with k (insert xs i (line key n)) ≡ numbers_with k xs ++ cond (same_key key k) (n ∷ []) []
numbers_put key k n xs i below more =
    ap (map entry_of) (filter-append (λ x. same_key x.key k) (take i xs) (line key n ∷ drop i xs)) ∙ go (same_key key k) refl
  where
    entry_of : Indexed → ℕ
    entry_of x = x.entry

    whole : lines_with k xs ≡ lines_with k (take i xs) ++ lines_with k (drop i xs)
    whole = ap (lines_with k) (sym (take-append-drop i xs)) ∙ filter-append (λ x. same_key x.key k) (take i xs) (drop i xs)

    go : (b : Bool) → same_key key k ≡ b → map entry_of (lines_with k (take i xs) ++ cond b (line key n ∷ lines_with k (drop i xs)) (lines_with k (drop i xs))) ≡ map entry_of (lines_with k xs) ++ cond b (n ∷ []) []
    go true e =
        let none : lines_with k (drop i xs) ≡ [] = filter_stretch k (drop i xs) 0 0 (omega arith) (λ j g. absurd (omega arith)) (λ j g l. absurd (omega arith)) later in
        ap (λ l. map entry_of (lines_with k (take i xs) ++ line key n ∷ l)) none ∙ map_push entry_of (lines_with k (take i xs)) (line key n)
        ∙ ap (λ l. map entry_of l ++ n ∷ []) (sym (whole ∙ ap (λ l. lines_with k (take i xs) ++ l) none ∙ append-nil (lines_with k (take i xs))))
      where
        later : (j : ℕ) → 0 ≤ j → j < length (drop i xs) → (d : Indexed) → same_key (get_or (drop i xs) j d).key k ≡ false
        later j g l d =
            let in-xs : i + j < length xs = omega (arith, length-drop i xs) in
            let x = get_or xs (i + j) d in
            let past : cmp x (line key n) ≡ Less → ⊥ = λ h. let m = more (i + j) d (omega arith) in-xs in cc in
            ap (λ (y : Indexed). same_key y.key k) (get_or-drop i xs j d) ∙ ap (same_key x.key) (sym (same_key_same key k e)) ∙ after_lacks x key n (below (i + j) d in-xs) past
    go false e = ap (map entry_of) (sym whole) ∙ sym (append-nil (map entry_of (lines_with k xs)))

pub enlists : (key : Key) (n : ℕ) (xs ys : List Indexed) (r : Option ℕ) (room : Type 0) → room → Below n xs → Inserts cmp room xs (line key n) r ys → (is_some r ≡ true) × Enlists key n xs ys
enlists key n xs ys None room here below t =
    let a = t.1 here in
    let d = line key n in
    absurd (never_equal (get_or xs a.0 d) key n (below a.0 d a.1.0) (a.1.1 d))
enlists key n xs ys (Some i) room here below t = (
  refl,
  record {
    sorted = sorted_from ys t.4;
    below = below_put key n xs ys i below (put_in xs ys i (line key n) t.0 t.1);
    numbers = λ k. ap (numbers_with k) t.1 ∙ numbers_put key k n xs i below t.3;
  },
)
