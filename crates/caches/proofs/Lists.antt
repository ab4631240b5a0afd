-- Laws of entries and of what calls may answer. Assumes nothing.
use Rattle.std.specs.Prelude.{◌≡◌, ℕ, zero, suc, ◌-◌, ◌<◌, ◌≤◌, Bool, true, false, not, cond, ◌||◌, List, [], ◌∷◌, ◌++◌, length, Some, None, Option, refl}
use Rattle.std.proofs.Common.{sym, ap, subst, ◌∙◌, inl, inr, ⊎_elim, arith}
use Rattle.std.specs.List.{filter, slice_get}
use Rattle.std.proofs.lemmas.List.Elements.{filter-append}
use Rattle.std.proofs.lemmas.List.Filters.{length-filter_both}
use Rattle.std.specs.Option.{option_map}
use Rattle.caches.specs.declared.keys.Key.{Key}
use Rattle.caches.specs.declared.questions.Answered.{Answered}
use Rattle.caches.specs.Keys.{same_key}
use Rattle.caches.specs.Entries.{Entry, entry, with_key, answers_of, answers_at, product_at, Member, Within, Took, Added, AllShort}
use Rattle.caches.specs.Exact.{Looks}
use Rattle.caches.specs.Laws.{member_split}
use Rattle.caches.proofs.KeyOrders.{same_key_same}

pub filter_length : {X : Type 0} (p : X → Bool) (xs : List X) → length (filter p xs) ≤ length xs
filter_length p xs = omega (arith, length-filter_both p (λ x. not (p x)) (λ _. refl) xs)

pub with_key_append : (k : Key) (a b : List Entry) → with_key k (a ++ b) ≡ with_key k a ++ with_key k b
with_key_append k a b = filter-append (λ e. same_key e.key k) a b

pub nth_left : {X : Type 0} (a b : List X) (k : ℕ) → k < length a → slice_get (a ++ b) k ≡ slice_get a k
nth_left [] b k h = absurd (omega arith)
nth_left (x ∷ a) b zero h = refl
nth_left (x ∷ a) b (suc k) h = nth_left a b k (omega arith)

pub nth_right : {X : Type 0} (a b : List X) (k : ℕ) → length a ≤ k → slice_get (a ++ b) k ≡ slice_get b (k - length a)
nth_right [] b k h = ap (slice_get b) (omega arith)
nth_right (x ∷ a) b zero h = absurd (omega arith)
nth_right (x ∷ a) b (suc k) h = nth_right a b k (omega arith) ∙ ap (slice_get b) (omega arith)

pub member_left : (e : Entry) (a b : List Entry) → Member e a → Member e (a ++ b)
member_left e [] b h = absurd h
member_left e (x ∷ a) b (inl p) = inl p
member_left e (x ∷ a) b (inr p) = inr (member_left e a b p)

pub member_right : (e : Entry) (a b : List Entry) → Member e b → Member e (a ++ b)
member_right e [] b h = h
member_right e (x ∷ a) b h = inr (member_right e a b h)

pub within_left : (a' a b : List Entry) → Within a' a → Within (a' ++ b) (a ++ b)
within_left a' a b w x m = ⊎_elim (λ l. member_left x a b (w x l)) (λ r. member_right x a b r) (member_split x a' b m)

pub within_right : (a b b' : List Entry) → Within b' b → Within (a ++ b') (a ++ b)
within_right a b b' w x m = ⊎_elim (λ l. member_left x a b l) (λ r. member_right x a b (w x r)) (member_split x a b' m)

pub member_with_key : (key : Key) (es : List Entry) (e : Entry) → Member e (with_key key es) → Member e es
member_with_key key [] e h = h
member_with_key key (x ∷ es) e h =
    let rest = member_with_key key es e in
    let P : Bool → Type 0 = λ t. Member e (cond t (x ∷ with_key key es) (with_key key es)) → Member e (x ∷ es) in
    elim (same_key x.key key) as P [ true ↦ ⊎_elim (λ p. inl p) (λ q. inr (rest q)) | false ↦ λ q. inr (rest q) ] h

member_at : (es : List Entry) (k : ℕ) (e : Entry) → slice_get es k ≡ Some e → Member e es
member_at [] k e h = cc
member_at (x ∷ es) zero e h = inl (cc)
member_at (x ∷ es) (suc k) e h = inr (member_at es k e h)

pub member_nth : (key : Key) (es : List Entry) (k : ℕ) (e : Entry) → slice_get (with_key key es) k ≡ Some e → Member e es
member_nth key es k e h = member_with_key key es e (member_at (with_key key es) k e h)

pub at_left : (key : Key) (a b : List Entry) (k n : ℕ) → n ≡ length (with_key key a) → k < n → slice_get (with_key key (a ++ b)) k ≡ slice_get (with_key key a) k
at_left key a b k n e h = ap (λ l. slice_get l k) (with_key_append key a b) ∙ nth_left (with_key key a) (with_key key b) k (omega arith)

pub at_right : (key : Key) (a b : List Entry) (k n : ℕ) → n ≡ length (with_key key a) → n ≤ k → slice_get (with_key key (a ++ b)) k ≡ slice_get (with_key key b) (k - n)
at_right key a b k n e h = ap (λ l. slice_get l k) (with_key_append key a b) ∙ nth_right (with_key key a) (with_key key b) k (omega arith) ∙ ap (λ m. slice_get (with_key key b) (k - m)) (sym e)

pub added_both : (e : Entry) (a b a' b' : List Entry) (p q : Bool) → Added e a p a' → Added e b q b' → Added e (a ++ b) (p || q) (a' ++ b')
added_both e a b a' b' p q h k = record {
  only = λ x m. ⊎_elim
      (λ l. ⊎_elim (λ s. inl s) (λ s. inr (member_left x a b s)) (h.only x l))
      (λ r. ⊎_elim (λ s. inl s) (λ s. inr (member_right x a b s)) (k.only x r))
      (member_split x a' b' m);
  held = kept p q h.held k.held;
  long = λ over. (either_false p q (h.long over).0 (k.long over).0, λ i. (h.long over).1 i ++ (k.long over).1 i);
}
  where
    kept : (p q : Bool) → (p ≡ true → Member e a') → (q ≡ true → Member e b') → (p || q) ≡ true → Member e (a' ++ b')
    kept true q f g t = member_left e a' b' (f refl)
    kept false q f g t = member_right e a' b' (g t)

    either_false : (p q : Bool) → p ≡ false → q ≡ false → (p || q) ≡ false
    either_false true q f g = f
    either_false false q f g = g

-- the entries that have the key have it
pub has_key : (key : Key) (es : List Entry) (e : Entry) → Member e (with_key key es) → e.key ≡ key
has_key key [] e h = absurd h
has_key key (x ∷ es) e h =
    let rest = has_key key es e in
    let P : Bool → Type 0 = λ t. same_key x.key key ≡ t → Member e (cond t (x ∷ with_key key es) (with_key key es)) → e.key ≡ key in
    elim (same_key x.key key) as P [ true ↦ λ t. ⊎_elim (λ (p : e ≡ x). ap (λ (y : Entry). y.key) p ∙ same_key_same x.key key t) rest | false ↦ λ t. rest ] refl h

-- the entry that is found, put together from its parts
pub handed : (key : Key) (k p : ℕ) (qs : List Answered) (es : List Entry) (it : Entry) → qs ≡ answers_at key k es → slice_get (with_key key es) k ≡ Some it → it.product ≡ p → entry key p qs ≡ it
handed key k p qs es it told here made =
    let was = member_at (with_key key es) k it here in
    λ i. record { key = sym (has_key key es it was) i; product = sym made i; answers = (told ∙ ap answers_of here) i }

pub took_near : (key : Key) (k n : ℕ) (a b a' : List Entry) (r : Option ℕ) → n ≡ length (with_key key a) → k < n → Took key k a r a' → Took key k (a ++ b) r (a' ++ b)
took_near key k n a b a' None e h t = (at_left key a b k n e h ∙ t.0, within_left a' a b t.1)
took_near key k n a b a' (Some p) e h t =
    let f = t.0 in
    ((f.0, at_left key a b k n e h ∙ f.1, f.2, member_left f.0 a' b f.3), within_left a' a b t.1)

pub took_none : (key : Key) (k n : ℕ) (a b b' : List Entry) → n ≡ length (with_key key a) → n ≤ k → Took key (k - n) b None b' → Took key k (a ++ b) None (a ++ b')
took_none key k n a b b' e h t = (at_right key a b k n e h ∙ t.0, within_right a b b' t.1)

pub took_far : (key : Key) (k n p : ℕ) (qs : List Answered) (r : Bool) (a b a' b' : List Entry) → n ≡ length (with_key key a) → n ≤ k → qs ≡ answers_at key (k - n) b → Took key (k - n) b (Some p) b' → Added (entry key p qs) a r a' → Took key k (a ++ b) (Some p) (a' ++ b')
took_far key k n p qs r a b a' b' e h told t ad =
    let f = t.0 in
    let it = f.0 in
    let was = member_at (with_key key b) (k - n) it f.1 in
    let same : entry key p qs ≡ it = handed key (k - n) p qs b it told f.1 f.2 in (
      (it, at_right key a b k n e h ∙ f.1, f.2, member_right it a' b' f.3),
      λ x m. ⊎_elim
          (λ l. ⊎_elim (λ s. member_right x a b (subst (λ y. Member y b) (sym (s ∙ same)) (member_with_key key b it was))) (λ s. member_left x a b s) (ad.only x l))
          (λ q. member_right x a b (t.1 x q))
          (member_split x a' b' m),
    )

-- a list as it was, and one entry more behind it
pub not_added : (e : Entry) (old new : List Entry) → new ≡ old → Added e old false new
not_added e old new p = record {
  only = λ x m. inr (subst (Member x) p m);
  held = λ t. cc;
  long = λ _. (refl, p);
}

pub added_end : (e : Entry) (front old new : List Entry) → ((x : Entry) → Member x front → Member x old) → new ≡ front ++ e ∷ [] → length e.answers ≤ 64 → Added e old true new
added_end e front old new w p short = record {
  only = λ x m. ⊎_elim (λ l. inr (w x l)) (⊎_elim inl (λ z. absurd z)) (member_split x front (e ∷ []) (subst (Member x) p m));
  held = λ _. subst (Member e) (sym p) (member_right e front (e ∷ []) (inl refl));
  long = λ over. absurd (omega arith);
}

-- what looking gives is taken
pub took_looked : (key : Key) (k : ℕ) (old new : List Entry) (r : Option ℕ) → Looks key k old r new → Took key k old r new
took_looked key k old new r h = go (slice_get (with_key key old) k) refl r h.0
  where
    same : Within new old
    same x m = subst (Member x) h.1 m

    go : (o : Option Entry) → slice_get (with_key key old) k ≡ o → (r : Option ℕ) → r ≡ option_map (λ (e : Entry). e.product) (slice_get (with_key key old) k) → Took key k old r new
    go None e None f = (e, same)
    go None e (Some p) f = cc
    go (Some it) e None f = cc
    go (Some it) e (Some p) f = ((it, e, cc, subst (Member it) (sym h.1) (member_nth key old k it e)), same)

-- where all entries are short, so are the answers of the k-th
pub answers_short : (key : Key) (k : ℕ) (es : List Entry) → AllShort es → length (answers_at key k es) ≤ 64
answers_short key k es short = go (slice_get (with_key key es) k) refl
  where
    go : (o : Option Entry) → slice_get (with_key key es) k ≡ o → length (answers_of o) ≤ 64
    go None h = omega arith
    go (Some e) h = short e (member_nth key es k e h)

-- what is taken is the product of the k-th, and nothing is held that was not before
pub took_product : (key : Key) (k : ℕ) (old new : List Entry) (r : Option ℕ) → Took key k old r new → r ≡ product_at key k old
took_product key k old new None t = sym (ap (option_map (λ (e : Entry). e.product)) t.0)
took_product key k old new (Some p) t = sym (ap (option_map (λ (e : Entry). e.product)) t.0.1 ∙ ap Some t.0.2)

pub took_within : (key : Key) (k : ℕ) (old new : List Entry) (r : Option ℕ) → Took key k old r new → (e : Entry) → Member e new → Member e old
took_within key k old new None t = t.1
took_within key k old new (Some p) t = t.1
