-- A table in memory: its values, and its invariant in terms of them. Assumes nothing.
use Rattle.std.proofs.Common.{◌≡◌, ℕ, ◌+◌, ◌<◌, ◌≤◌, Bool, true, false, ltb, List, [], ◌∷◌, ◌++◌, length, get_or, take, drop, vec_items, vec_len, Decides, sym, refl, ap, ◌∙◌, subst, arith}
use mathlib.Core.Option.{some, none}
use Rattle.std.proofs.lemmas.Bool.{and_parts, ltb-true, ltb-false}
use Rattle.std.proofs.lemmas.List.{get_or_past, get_or_read_under}
use Rattle.values.specs.Limits.{proper, height}
use Rattle.values.specs.Values.{Value, truth, nth, same_value, before}
use Rattle.values.specs.Table.{under}
use Rattle.values.specs.Nodes.{node_values, sound_nodes}
use Rattle.values.specs.Index.{sound_index, all_before, all_after}
use Rattle.values.specs.Memory.{values, key_of}
use Rattle.values.specs.declared.parts.Member.{Member}
use Rattle.values.specs.declared.nodes.Span.{Span}
use Rattle.values.specs.declared.nodes.Node.{Node}
use Rattle.values.specs.declared.nodes.Node.TheVariants.{Truth, Text, Binding}
use Rattle.values.specs.declared.store.Table.{Table}
use Rattle.values.proofs.Sameness.{clash, same_is, same_self, nth_under, nth_past, under_nth}
use Rattle.values.proofs.Propers.{AllProper, low_from_proper}
use Rattle.values.proofs.Indexes.{Indexed, indexed_from_test, all_below_at, up_to, from_on}
use Rattle.values.proofs.Meanings.{Sound, sound_from_test, length_values, OneNumber, one_number, Fact, fact, TextFact, text_fact, BindingFact, binding_fact}

pub sound_of : (t : Table) → Sound (vec_items t.bytes) (vec_items t.members) (vec_items t.nodes)
sound_of t = sound_from_test (vec_items t.bytes) (vec_items t.members) (vec_items t.nodes) t.sound

pub length_of : (t : Table) → length (values t) ≡ vec_len t.nodes
unfolding values
length_of t = length_values (vec_items t.bytes) (vec_items t.members) [] (vec_items t.nodes) ∙ sym t.nodes.ok.0

pub one_number_of : (t : Table) → OneNumber (values t)
unfolding values
one_number_of t = one_number (vec_items t.bytes) (vec_items t.members) (vec_items t.nodes) (sound_of t)

pub fact_of : (t : Table) (i : ℕ) (d : Node) → i < vec_len t.nodes → Fact (vec_items t.bytes) (vec_items t.members) (values t) i (get_or (vec_items t.nodes) i d)
unfolding values
fact_of t i d h = fact (vec_items t.bytes) (vec_items t.members) (vec_items t.nodes) i d (sound_of t) (omega (arith, t.nodes.ok.0))

-- the truth values have the numbers 0 and 1
first_two : (T : List Value) → same_value (get_or T 0 (truth false)) (truth true) ≡ true → same_value (get_or T 1 (truth true)) (truth false) ≡ true → (nth T 0 ≡ some (truth true)) × (nth T 1 ≡ some (truth false))
first_two [] a b = clash (sym a)
first_two (v ∷ []) a b = clash (sym b)
first_two (v ∷ w ∷ T) a b = (ap some (same_is v (truth true) a), ap some (same_is w (truth false) b))

pub truths_of : (t : Table) → (nth (values t) 0 ≡ some (truth true)) × (nth (values t) 1 ≡ some (truth false))
unfolding values
truths_of t =
    let T = node_values (vec_items t.bytes) (vec_items t.members) (vec_items t.nodes) in
    let a = and_parts (same_value (get_or T 0 (truth false)) (truth true)) (same_value (get_or T 1 (truth true)) (truth false)) (sound_of t).truths in
    first_two T a.0 a.1

-- a new table
pub record Newly (bs : List ℕ) (ms : List Member) (ns : List Node) (is : List ℕ) : Type 0 where
  pub sound : sound_nodes bs ms ns ≡ true
  pub indexed : sound_index bs ms ns is ≡ true
  pub values : node_values bs ms ns ≡ truth true ∷ truth false ∷ []

newly_so : Newly [] [] (Truth true ∷ Truth false ∷ []) (1 ∷ 0 ∷ [])
unfolding sound_nodes sound_index
newly_so = record { sound = refl; indexed = refl; values = refl }

pub newly : (bs : List ℕ) (ms : List Member) (n0 n1 n2 : List Node) (i0 i1 i2 : List ℕ) → bs ≡ [] → ms ≡ [] → n0 ≡ [] → n1 ≡ n0 ++ Truth true ∷ [] → n2 ≡ n1 ++ Truth false ∷ [] → i0 ≡ [] → i1 ≡ i0 ++ 1 ∷ [] → i2 ≡ i1 ++ 0 ∷ [] → Newly bs ms n2 i2
newly bs ms n0 n1 n2 i0 i1 i2 a b c d e f g h =
    let p : n2 ≡ Truth true ∷ Truth false ∷ [] = e ∙ ap (λ x. x ++ Truth false ∷ []) (d ∙ ap (λ x. x ++ Truth true ∷ []) c) in
    let q : i2 ≡ 1 ∷ 0 ∷ [] = h ∙ ap (λ x. x ++ 0 ∷ []) (g ∙ ap (λ x. x ++ 1 ∷ []) f) in
    rw (a, b, p, q) newly_so

-- a read of the nodes that finds one, or none
pub record Item (t : Table) (i : ℕ) (n : Node) : Type 0 where
  pub there : i < vec_len t.nodes
  pub is : n ≡ get_or (vec_items t.nodes) i n

pub item : (t : Table) (i : ℕ) (ns : List Node) (n : Node) → ns ≡ vec_items t.nodes → true ≡ ltb i (length ns) → n ≡ get_or ns i n → Item t i n
item t i ns n e h f =
    let k = ltb-true i (length ns) (sym h) in
    record { there = omega (arith, t.nodes.ok.0, ap length e); is = f ∙ ap (λ l. get_or l i n) e }

pub item_past : (t : Table) (i : ℕ) (ns : List Node) → ns ≡ vec_items t.nodes → false ≡ ltb i (length ns) → vec_len t.nodes ≤ i
item_past t i ns e h = let k = ltb-false i (length ns) (sym h) in omega (arith, t.nodes.ok.0, ap length e)

-- the value under a number, by the node that stands there
pub fact_at : (t : Table) (i : ℕ) (n m : Node) → Item t i n → n ≡ m → Fact (vec_items t.bytes) (vec_items t.members) (values t) i m
fact_at t i n m a f = subst (λ x. Fact (vec_items t.bytes) (vec_items t.members) (values t) i x) (sym a.is ∙ f) (fact_of t i n a.there)

pub truth_at : (t : Table) (i : ℕ) (b : Bool) (n : Node) → Item t i n → n ≡ Truth b → under (values t) i ≡ truth b
truth_at t i b n a f = (fact_at t i n (Truth b) a f).value

pub text_at : (t : Table) (i : ℕ) (s : Span) (n : Node) → Item t i n → n ≡ Text s → TextFact (vec_items t.bytes) (values t) i s
text_at t i s n a f = text_fact (vec_items t.bytes) (vec_items t.members) (values t) i s (fact_at t i n (Text s) a f)

pub binding_at : (t : Table) (i : ℕ) (s : Span) (k : ℕ) (n : Node) → Item t i n → n ≡ Binding s k → BindingFact (vec_items t.members) (values t) i s k
binding_at t i s k n a f = binding_fact (vec_items t.bytes) (vec_items t.members) (values t) i s k (fact_at t i n (Binding s k) a f)

pub nth_of : (t : Table) (i : ℕ) → i < vec_len t.nodes → nth (values t) i ≡ some (under (values t) i)
nth_of t i h = nth_under (values t) i (omega (arith, length_of t))

pub nth_none : (t : Table) (i : ℕ) → vec_len t.nodes ≤ i → nth (values t) i ≡ none
nth_none t i h = nth_past (values t) i (omega (arith, length_of t))

pub proper_of : (t : Table) (i : ℕ) (v : Value) → nth (values t) i ≡ some v → proper v ≡ true
proper_of t i v e = let u = under_nth (values t) i v e in ap proper (sym u.1) ∙ (fact_of t i (Truth false) (omega (arith, u.0, length_of t))).right

-- a number that is not in the table reads as FALSE
pub under_past : (t : Table) (i : ℕ) → vec_len t.nodes ≤ i → under (values t) i ≡ truth false
under_past t i h = get_or_past (values t) i (truth false) (omega (arith, length_of t))

-- two numbers of one value are equal
pub same_of : (t : Table) (i j : ℕ) (u v : Value) → nth (values t) i ≡ some u → nth (values t) j ≡ some v → Decides (same_value u v) (i ≡ j)
same_of t i j u v e f =
    let p = under_nth (values t) i u e in
    let q = under_nth (values t) j v f in (
      λ s. one_number_of t i j p.0 q.0 (p.1 ∙ same_is u v s ∙ sym q.1),
      λ s. ap (λ w. same_value w v) (sym p.1 ∙ ap (under (values t)) s ∙ q.1) ∙ same_self v,
    )

-- the index
pub indexed_of : (t : Table) → Indexed (key_of t) (vec_len t.nodes) (vec_items t.index)
indexed_of t =
    subst (λ n. Indexed (key_of t) n (vec_items t.index)) (sym t.nodes.ok.0) (indexed_from_test (vec_items t.bytes) (vec_items t.members) (vec_items t.nodes) (vec_items t.index) t.indexed)

pub number_below : (t : Table) (m x : ℕ) → m < vec_len t.index → x ≡ get_or (vec_items t.index) m x → x < vec_len t.nodes
number_below t m x h e = subst (λ y. y < vec_len t.nodes) (sym e) (all_below_at (vec_len t.nodes) (vec_items t.index) m x (omega (arith, t.index.ok.0)) (indexed_of t).low)

-- halving at a number whose key is smaller, or larger
pub halved_up : (t : Table) (k : List ℕ) (m x : ℕ) → m < vec_len t.index → x ≡ get_or (vec_items t.index) m x → before (key_of t x) k ≡ true → all_before (key_of t) k (take (m + 1) (vec_items t.index)) ≡ true
halved_up t k m x h e b =
    up_to (key_of t) k (vec_items t.index) m (omega (arith, t.index.ok.0)) (indexed_of t).climbs (ap (λ y. before (key_of t y) k) (sym (get_or_read_under (vec_items t.index) m (vec_len t.index) x 0 e h t.index.ok.0)) ∙ b)

pub halved_down : (t : Table) (k : List ℕ) (m x : ℕ) → m < vec_len t.index → x ≡ get_or (vec_items t.index) m x → before k (key_of t x) ≡ true → all_after (key_of t) k (drop m (vec_items t.index)) ≡ true
halved_down t k m x h e b =
    from_on (key_of t) k (vec_items t.index) m (omega (arith, t.index.ok.0)) (indexed_of t).climbs (ap (λ y. before k (key_of t y)) (sym (get_or_read_under (vec_items t.index) m (vec_len t.index) x 0 e h t.index.ok.0)) ∙ b)

pub all_proper_of : (t : Table) → AllProper (values t)
all_proper_of t i h = (fact_of t i (Truth false) (omega (arith, length_of t))).right

pub low_of : (t : Table) (i : ℕ) → i < vec_len t.nodes → height (under (values t) i) ≤ 16
low_of t i h = low_from_proper (under (values t) i) (fact_of t i (Truth false) h).right
