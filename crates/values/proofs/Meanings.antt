-- What sound nodes stand for, number by number. Assumes nothing.
use Rattle.std.proofs.Common.{◌≡◌, ℕ, zero, suc, ◌+◌, ◌<◌, ◌≤◌, true, false, not, ◌&&◌, eqb, ltb, leb, List, [], ◌∷◌, ◌++◌, length, get_or, take, drop, sym, refl, ap, ◌∙◌, subst, ⊎_elim, append_assoc, append-nil, arith}
use Rattle.std.proofs.lemmas.Bool.{and_parts, and_from, eqb-true, leb-true, ltb-true, lt-ltb, eq-eqb, not-true, cases_order}
use Rattle.std.proofs.lemmas.List.{get_or_append_left, length-append, take-append-drop, length-take-le, get_or-take}
use Rattle.values.specs.Values.{Value, text, truth, binding, cons}
use Rattle.values.specs.Limits.{height, proper}
use Rattle.values.specs.Table.{holds, under, spelt, is_text, known, members_of, spent, text_bytes, own_members}
use Rattle.values.specs.Nodes.{part, node_value, node_values_on, node_values, placed, sound_node, sound_on, begins, sound_nodes}
use Rattle.values.specs.declared.parts.Member.{Member}
use Rattle.values.specs.declared.nodes.Span.{Span}
use Rattle.values.specs.declared.nodes.Node.{Node}
use Rattle.values.specs.declared.nodes.Node.TheVariants.{Truth, Text, Binding}
use Rattle.values.proofs.Sameness.{clash, holds_under}

-- the test of sound nodes, taken apart
pub record Sound (bs : List ℕ) (ms : List Member) (ns : List Node) : Type 0 where
  pub each : sound_on bs ms [] ns ≡ true
  pub texts : spent text_bytes (node_values bs ms ns) ≡ length bs
  pub members : spent own_members (node_values bs ms ns) ≡ length ms
  pub truths : begins (node_values bs ms ns) ≡ true

pub sound_from_test : (bs : List ℕ) (ms : List Member) (ns : List Node) → sound_nodes bs ms ns ≡ true → Sound bs ms ns
unfolding sound_nodes
sound_from_test bs ms ns e =
    let T = node_values bs ms ns in
    let a = and_parts (sound_on bs ms [] ns) (eqb (spent text_bytes T) (length bs) && (eqb (spent own_members T) (length ms) && begins T)) e in
    let b = and_parts (eqb (spent text_bytes T) (length bs)) (eqb (spent own_members T) (length ms) && begins T) a.1 in
    let c = and_parts (eqb (spent own_members T) (length ms)) (begins T) b.1 in
    record { each = a.0; texts = eqb-true (spent text_bytes T) (length bs) b.0; members = eqb-true (spent own_members T) (length ms) c.0; truths = c.1 }

pub test_from_sound : (bs : List ℕ) (ms : List Member) (ns : List Node) → Sound bs ms ns → sound_nodes bs ms ns ≡ true
unfolding sound_nodes
test_from_sound bs ms ns s =
    let T = node_values bs ms ns in
    and_from (sound_on bs ms [] ns) (eqb (spent text_bytes T) (length bs) && (eqb (spent own_members T) (length ms) && begins T)) s.each
    (and_from (eqb (spent text_bytes T) (length bs)) (eqb (spent own_members T) (length ms) && begins T) (eq-eqb (spent text_bytes T) (length bs) s.texts)
    (and_from (eqb (spent own_members T) (length ms)) (begins T) (eq-eqb (spent own_members T) (length ms) s.members) s.truths))

pub length_values : (bs : List ℕ) (ms : List Member) (vs : List Value) (ns : List Node) → length (node_values_on bs ms vs ns) ≡ length ns
length_values bs ms vs [] = refl
length_values bs ms vs (n ∷ ns) = ap suc (length_values bs ms (vs ++ node_value bs ms vs n ∷ []) ns)

-- a node is sound over the values before it, and has the value under its number
abbrev Stands : List ℕ → List Member → List Value → Node → Value → Type 0
Stands bs ms vs n v = (sound_node bs ms vs n ≡ true) × (v ≡ node_value bs ms vs n)

stands_on : (bs : List ℕ) (ms : List Member) (vs : List Value) (ns : List Node) (i : ℕ) (d : Node) → sound_on bs ms vs ns ≡ true → i < length ns → Stands bs ms (vs ++ take i (node_values_on bs ms vs ns)) (get_or ns i d) (under (node_values_on bs ms vs ns) i)
stands_on bs ms vs [] i d a h = absurd (omega arith)
stands_on bs ms vs (n ∷ ns) zero d a h =
    subst (λ U. Stands bs ms U n (node_value bs ms vs n)) (sym (append-nil vs)) ((and_parts (sound_node bs ms vs n) (sound_on bs ms (vs ++ node_value bs ms vs n ∷ []) ns) a).0, refl)
stands_on bs ms vs (n ∷ ns) (suc i) d a h =
    let w = node_value bs ms vs n in
    let rest = node_values_on bs ms (vs ++ w ∷ []) ns in
    subst (λ U. Stands bs ms U (get_or ns i d) (under rest i)) (append_assoc vs (w ∷ []) (take i rest))
    (stands_on bs ms (vs ++ w ∷ []) ns i d (and_parts (sound_node bs ms vs n) (sound_on bs ms (vs ++ w ∷ []) ns) a).1 (omega arith))

-- members that are known, taken apart
pub record Knows (T : List Value) (m : Member) (ms : List Member) : Type 0 where
  pub name : m.name < length T
  pub texts : is_text (under T m.name) ≡ true
  pub value : m.value < length T
  pub rest : known T ms ≡ true

pub knows : (T : List Value) (m : Member) (ms : List Member) → known T (m ∷ ms) ≡ true → Knows T m ms
knows T m ms e =
    let a = and_parts (ltb m.name (length T)) (is_text (under T m.name) && (ltb m.value (length T) && known T ms)) e in
    let b = and_parts (is_text (under T m.name)) (ltb m.value (length T) && known T ms) a.1 in
    let c = and_parts (ltb m.value (length T)) (known T ms) b.1 in
    record { name = ltb-true m.name (length T) a.0; texts = b.0; value = ltb-true m.value (length T) c.0; rest = c.1 }

known_from : (T : List Value) (m : Member) (ms : List Member) → Knows T m ms → known T (m ∷ ms) ≡ true
known_from T m ms k =
    and_from (ltb m.name (length T)) (is_text (under T m.name) && (ltb m.value (length T) && known T ms)) (lt-ltb m.name (length T) k.name)
    (and_from (is_text (under T m.name)) (ltb m.value (length T) && known T ms) k.texts
    (and_from (ltb m.value (length T)) (known T ms) (lt-ltb m.value (length T) k.value) k.rest))

-- known members mean the same in a longer table
pub still : (vs more : List Value) (ms : List Member) → known vs ms ≡ true → (known (vs ++ more) ms ≡ true) × (members_of (vs ++ more) ms ≡ members_of vs ms)
still vs more [] e = (refl, refl)
still vs more (m ∷ ms) e =
    let k = knows vs m ms e in
    let r = still vs more ms k.rest in
    let p : under (vs ++ more) m.name ≡ under vs m.name = get_or_append_left vs more (truth false) m.name k.name in
    let q : under (vs ++ more) m.value ≡ under vs m.value = get_or_append_left vs more (truth false) m.value k.value in
    let long = length-append vs more in (
      known_from (vs ++ more) m ms (record { name = omega (arith, k.name); texts = ap is_text p ∙ k.texts; value = omega (arith, k.value); rest = r.0 }),
      (λ j. cons (spelt (p j)) (q j) (r.1 j)),
    )

-- what is known of the node under a number
pub record Fact (bs : List ℕ) (ms : List Member) (T : List Value) (i : ℕ) (n : Node) : Type 0 where
  pub place : placed bs ms (take i T) n ≡ true
  pub value : under T i ≡ node_value bs ms (take i T) n
  pub first : holds (under T i) (take i T) ≡ false
  pub right : proper (under T i) ≡ true

pub fact : (bs : List ℕ) (ms : List Member) (ns : List Node) (i : ℕ) (d : Node) → Sound bs ms ns → i < length ns → Fact bs ms (node_values bs ms ns) i (get_or ns i d)
fact bs ms ns i d s h =
    let T = node_values bs ms ns in
    let n = get_or ns i d in
    let v = node_value bs ms (take i T) n in
    let st = stands_on bs ms [] ns i d s.each h in
    let a = and_parts (placed bs ms (take i T) n) (not (holds v (take i T)) && proper v) st.0 in
    let b = and_parts (not (holds v (take i T))) (proper v) a.1 in
    record { place = a.0; value = st.1; first = ap (λ w. holds w (take i T)) st.1 ∙ not-true (holds v (take i T)) b.0; right = ap proper st.1 ∙ b.1 }

-- a text's node
pub record TextFact (bs : List ℕ) (T : List Value) (i : ℕ) (s : Span) : Type 0 where
  pub start : s.start ≡ spent text_bytes (take i T)
  pub end : s.start + s.len ≤ length bs
  pub value : under T i ≡ text (part bs s)

pub text_fact : (bs : List ℕ) (ms : List Member) (T : List Value) (i : ℕ) (s : Span) → Fact bs ms T i (Text s) → TextFact bs T i s
text_fact bs ms T i s f =
    let a = and_parts (eqb s.start (spent text_bytes (take i T))) (leb (s.start + s.len) (length bs)) f.place in
    record { start = eqb-true s.start (spent text_bytes (take i T)) a.0; end = leb-true (s.start + s.len) (length bs) a.1; value = f.value }

-- a binding's node
pub record BindingFact (ms : List Member) (T : List Value) (i : ℕ) (s : Span) (h : ℕ) : Type 0 where
  pub start : s.start ≡ spent own_members (take i T)
  pub end : s.start + s.len ≤ length ms
  pub known : known T (part ms s) ≡ true
  pub value : under T i ≡ binding (members_of T (part ms s))
  pub high : h ≡ height (under T i)

pub binding_fact : (bs : List ℕ) (ms : List Member) (T : List Value) (i : ℕ) (s : Span) (h : ℕ) → Fact bs ms T i (Binding s h) → BindingFact ms T i s h
binding_fact bs ms T i s h f =
    let U = take i T in
    let p = part ms s in
    let v = height (binding (members_of U p)) in
    let a = and_parts (eqb s.start (spent own_members U)) (leb (s.start + s.len) (length ms) && (known U p && eqb h v)) f.place in
    let b = and_parts (leb (s.start + s.len) (length ms)) (known U p && eqb h v) a.1 in
    let c = and_parts (known U p) (eqb h v) b.1 in
    let k = still U (drop i T) p c.0 in
    let whole = take-append-drop i T in
    record {
      start = eqb-true s.start (spent own_members U) a.0;
      end = leb-true (s.start + s.len) (length ms) b.0;
      known = ap (λ V. known V p) (sym whole) ∙ k.0;
      value = f.value ∙ ap binding (sym k.1 ∙ ap (λ V. members_of V p) whole);
      high = eqb-true h v c.1 ∙ ap height (sym f.value);
    }

-- a value stands under one number
abbrev pub OneNumber : List Value → Type 0
OneNumber T = (i j : ℕ) → i < length T → j < length T → under T i ≡ under T j → i ≡ j

later : (bs : List ℕ) (ms : List Member) (ns : List Node) → Sound bs ms ns → (i j : ℕ) → i < j → j < length ns → under (node_values bs ms ns) i ≡ under (node_values bs ms ns) j → ⊥
later bs ms ns s i j h k e =
    let T = node_values bs ms ns in
    let f = fact bs ms ns j (Truth false) s k in
    let long : length (take j T) ≡ j = length-take-le j T (omega (arith, length_values bs ms [] ns)) in
    clash (sym (holds_under (take j T) (under T j) i (omega arith) (get_or-take j T i (truth false) h ∙ e)) ∙ f.first)

pub one_number : (bs : List ℕ) (ms : List Member) (ns : List Node) → Sound bs ms ns → OneNumber (node_values bs ms ns)
one_number bs ms ns s i j h k e =
    let l = length_values bs ms [] ns in
    ⊎_elim (λ q. q) (⊎_elim (λ q. absurd (later bs ms ns s i j q (omega arith) e)) (λ q. absurd (later bs ms ns s j i q (omega arith) (sym e)))) (cases_order i j)
