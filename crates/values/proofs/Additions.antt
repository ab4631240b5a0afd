-- A table with a value more, and a table cut back to its first values. Assumes nothing.
use Rattle.std.proofs.Common.{◌≡◌, ℕ, ◌+◌, ◌<◌, ◌≤◌, Bool, true, false, not, ◌&&◌, eqb, leb, List, [], ◌∷◌, ◌++◌, length, get_or, take, sym, refl, ap, ◌∙◌, subst, arith}
use Rattle.std.specs.List.{insert}
use Rattle.std.proofs.ByRecursion.{All-from_get_or}
use Rattle.std.proofs.lemmas.Bool.{and_from, eq-eqb, le-leb}
use Rattle.std.proofs.lemmas.List.{length-append, length-take-le, take-take, take_at, take_all, get_or-take, get_or_append_left, get_or_push, length_push}
use Rattle.values.specs.Values.{Value, truth, text, binding}
use Rattle.values.specs.Limits.{height, proper}
use Rattle.values.specs.Table.{holds, known, members_of, spent, text_bytes, own_members}
use Rattle.values.specs.Nodes.{part, node_value, node_values, placed, sound_node, begins, sound_nodes}
use Rattle.values.specs.Index.{truth_key, text_key, binding_key, node_key, key_at, sound_index, Gap}
use Rattle.values.specs.declared.parts.Member.{Member}
use Rattle.values.specs.declared.nodes.Span.{Span}
use Rattle.values.specs.declared.nodes.Node.{Node}
use Rattle.values.specs.declared.nodes.Node.TheVariants.{Truth, Text, Binding}
use Rattle.values.proofs.Meanings.{Sound, test_from_sound, length_values, fact}
use Rattle.values.proofs.Indexes.{Indexed, test_from_indexed, indexed_inserted, indexed_kept, indexed_same, gap_same, under_limit}
use Rattle.values.proofs.Changes.{Agree, SamePart, same_part, same_key_of, same_values, same_sound, values_push, sound_push, values_take, sound_take, begins_push, begins_take, spent_push, spent_front, spent_fronts, many_of, part_end}

-- the parts of a table that stands for the values T
pub record Parts (bs : List ℕ) (ms : List Member) (ns : List Node) (is : List ℕ) (T : List Value) : Type 0 where
  pub sound : sound_nodes bs ms ns ≡ true
  pub indexed : sound_index bs ms ns is ≡ true
  pub values : node_values bs ms ns ≡ T

-- a node x of the value v, and longer pools, to be added at the place p of the index
record Addition (bs cs : List ℕ) (ms ls : List Member) (ns : List Node) (is : List ℕ) (x : Node) (v : Value) (p : ℕ) : Type 0 where
  agree : Agree bs cs ms ls (length bs) (length ms)
  bytes : length cs ≡ length bs + text_bytes v
  members : length ls ≡ length ms + own_members v
  place : placed cs ls (node_values bs ms ns) x ≡ true
  value : node_value cs ls (node_values bs ms ns) x ≡ v
  fresh : holds v (node_values bs ms ns) ≡ false
  right : proper v ≡ true
  gap : Gap (key_at bs ms ns) is (node_key cs ls x) p

added : (bs cs : List ℕ) (ms ls : List Member) (ns : List Node) (is : List ℕ) (x : Node) (v : Value) (p : ℕ) → Sound bs ms ns → Indexed (key_at bs ms ns) (length ns) is → length is ≡ length ns → Addition bs cs ms ls ns is x v p → Parts cs ls (ns ++ x ∷ []) (insert is p (length ns)) (node_values bs ms ns ++ v ∷ [])
added bs cs ms ls ns is x v p s ix l a =
    let T = node_values bs ms ns in
    let n = length ns in
    let long = length_values bs ms [] ns in
    let each : (i : ℕ) → i < n → SamePart bs cs ms ls (get_or ns i (Truth false)) =
    λ i h. same_part bs cs ms ls T i (get_or ns i (Truth false)) (length bs) (length ms) a.agree (omega arith)
    (omega (arith, spent_front text_bytes (i + 1) T, s.texts)) (omega (arith, spent_front own_members (i + 1) T, s.members)) (fact bs ms ns i (Truth false) s h) in
    let all = All-from_get_or (SamePart bs cs ms ls) ns (Truth false) each in
    let same : node_values cs ls ns ≡ T = same_values bs cs ms ls [] ns all in
    let values : node_values cs ls (ns ++ x ∷ []) ≡ T ++ v ∷ [] =
    values_push cs ls [] ns x ∙ ap (λ U. U ++ node_value cs ls U x ∷ []) same ∙ ap (λ w. T ++ w ∷ []) a.value in
    let fresh : Value → Bool = λ w. not (holds w T) && proper w in
    let new : sound_node cs ls T x ≡ true =
    and_from (placed cs ls T x) (fresh (node_value cs ls T x)) a.place (ap fresh a.value ∙ and_from (not (holds v T)) (proper v) (ap not a.fresh) a.right) in
    let sound : Sound cs ls (ns ++ x ∷ []) = record {
      each = sound_push cs ls [] ns x (same_sound bs cs ms ls [] ns all s.each) (ap (λ U. sound_node cs ls U x) same ∙ new);
      texts = ap (spent text_bytes) values ∙ spent_push text_bytes T v ∙ ap (λ k. k + text_bytes v) s.texts ∙ sym a.bytes;
      members = ap (spent own_members) values ∙ spent_push own_members T v ∙ ap (λ k. k + own_members v) s.members ∙ sym a.members;
      truths = ap begins values ∙ begins_push T v s.truths;
    } in
    let key = key_at cs ls (ns ++ x ∷ []) in
    let keys : (i : ℕ) → i < n → key i ≡ key_at bs ms ns i =
    λ i h. ap (node_key cs ls) (get_or_append_left ns (x ∷ []) (Truth false) i h) ∙ same_key_of bs cs ms ls (get_or ns i (Truth false)) (each i h) in
    let last : key n ≡ node_key cs ls x = ap (node_key cs ls) (get_or_push ns x (Truth false) n refl) in
    let gap : Gap key is (key n) p = subst (λ k. Gap key is k p) (sym last) (gap_same (key_at bs ms ns) key n keys is (node_key cs ls x) p ix.low a.gap) in
    let indexed : Indexed key (n + 1) (insert is p n) = indexed_inserted key n is p (indexed_same (key_at bs ms ns) key n is keys ix) l gap in
    record {
      sound = test_from_sound cs ls (ns ++ x ∷ []) sound;
      indexed = test_from_indexed cs ls (ns ++ x ∷ []) (insert is p n) (subst (λ k. Indexed key k (insert is p n)) (sym (length_push ns x)) indexed);
      values = values;
    }

-- a truth value more
pub truth_added : (bs cs : List ℕ) (ms ls : List Member) (ns : List Node) (is : List ℕ) (b : Bool) (p : ℕ) → Sound bs ms ns → Indexed (key_at bs ms ns) (length ns) is → length is ≡ length ns → cs ≡ bs → ls ≡ ms → holds (truth b) (node_values bs ms ns) ≡ false → Gap (key_at bs ms ns) is (truth_key b) p → Parts cs ls (ns ++ Truth b ∷ []) (insert is p (length ns)) (node_values bs ms ns ++ truth b ∷ [])
truth_added bs cs ms ls ns is b p so ix l e f fresh gap =
    rw (e, f) (added bs bs ms ms ns is (Truth b) (truth b) p so ix l
    (record {
      agree = record { bytes = refl; bytes_long = omega arith; members = refl; members_long = omega arith };
      bytes = omega arith;
      members = omega arith;
      place = refl;
      value = refl;
      fresh = fresh;
      right = refl;
      gap = gap;
    }))

-- a text more
pub text_added : (bs cs : List ℕ) (ms : List Member) (ns : List Node) (is : List ℕ) (s : Span) (t : List ℕ) (p : ℕ) → Sound bs ms ns → Indexed (key_at bs ms ns) (length ns) is → length is ≡ length ns → cs ≡ bs ++ t → s.start ≡ length bs → s.len ≡ length t → holds (text t) (node_values bs ms ns) ≡ false → proper (text t) ≡ true → Gap (key_at bs ms ns) is (text_key t) p → Parts cs ms (ns ++ Text s ∷ []) (insert is p (length ns)) (node_values bs ms ns ++ text t ∷ [])
text_added bs cs ms ns is s t p so ix l e f g fresh right gap =
    let here : part cs s ≡ t = ap (λ x. part x s) e ∙ part_end bs t s f g in
    let long : length cs ≡ length bs + length t = ap length e ∙ length-append bs t in
    let T = node_values bs ms ns in
    added bs cs ms ms ns is (Text s) (text t) p so ix l
    (record {
      agree = record { bytes = take_all (length bs) bs (omega arith) ∙ sym (ap (take (length bs)) e ∙ take_at bs t (length bs) refl); bytes_long = omega arith; members = refl; members_long = omega arith };
      bytes = long;
      members = omega arith;
      place = and_from (eqb s.start (spent text_bytes T)) (leb (s.start + s.len) (length cs)) (eq-eqb s.start (spent text_bytes T) (f ∙ sym so.texts)) (le-leb (s.start + s.len) (length cs) (omega arith));
      value = ap text here;
      fresh = fresh;
      right = right;
      gap = subst (λ k. Gap (key_at bs ms ns) is (text_key k) p) (sym here) gap;
    })

-- a binding more
pub binding_added : (bs : List ℕ) (ms ls : List Member) (ns : List Node) (is : List ℕ) (s : Span) (h : ℕ) (xs : List Member) (p : ℕ) → Sound bs ms ns → Indexed (key_at bs ms ns) (length ns) is → length is ≡ length ns → ls ≡ ms ++ xs → s.start ≡ length ms → s.len ≡ length xs → known (node_values bs ms ns) xs ≡ true → h ≡ height (binding (members_of (node_values bs ms ns) xs)) → holds (binding (members_of (node_values bs ms ns) xs)) (node_values bs ms ns) ≡ false → proper (binding (members_of (node_values bs ms ns) xs)) ≡ true → Gap (key_at bs ms ns) is (binding_key xs) p → Parts bs ls (ns ++ Binding s h ∷ []) (insert is p (length ns)) (node_values bs ms ns ++ binding (members_of (node_values bs ms ns) xs) ∷ [])
binding_added bs ms ls ns is s h xs p so ix l e f g kn high fresh right gap =
    let here : part ls s ≡ xs = ap (λ x. part x s) e ∙ part_end ms xs s f g in
    let long : length ls ≡ length ms + length xs = ap length e ∙ length-append ms xs in
    let T = node_values bs ms ns in
    let many = many_of T xs in
    let rest : List Member → Bool = λ x. known T x && eqb h (height (binding (members_of T x))) in
    added bs bs ms ls ns is (Binding s h) (binding (members_of T xs)) p so ix l
    (record {
      agree = record { bytes = refl; bytes_long = omega arith; members = take_all (length ms) ms (omega arith) ∙ sym (ap (take (length ms)) e ∙ take_at ms xs (length ms) refl); members_long = omega arith };
      bytes = omega arith;
      members = omega arith;
      place = and_from (eqb s.start (spent own_members T)) (leb (s.start + s.len) (length ls) && rest (part ls s)) (eq-eqb s.start (spent own_members T) (f ∙ sym so.members))
          (and_from (leb (s.start + s.len) (length ls)) (rest (part ls s)) (le-leb (s.start + s.len) (length ls) (omega arith))
          (ap rest here ∙ and_from (known T xs) (eqb h (height (binding (members_of T xs)))) kn (eq-eqb h (height (binding (members_of T xs))) high)));
      value = ap (λ x. binding (members_of T x)) here;
      fresh = fresh;
      right = right;
      gap = subst (λ k. Gap (key_at bs ms ns) is (binding_key k) p) (sym here) gap;
    })

-- the first k values only
pub cut_back : (bs : List ℕ) (ms : List Member) (ns : List Node) (is : List ℕ) (k b m : ℕ) → Sound bs ms ns → Indexed (key_at bs ms ns) (length ns) is → 2 ≤ k → k ≤ length ns → b ≡ spent text_bytes (take k (node_values bs ms ns)) → m ≡ spent own_members (take k (node_values bs ms ns)) → Parts (take b bs) (take m ms) (take k ns) (under_limit k is) (take k (node_values bs ms ns))
cut_back bs ms ns is k b m s ix two h e f =
    let T = node_values bs ms ns in
    let cs = take b bs in
    let ls = take m ms in
    let long = length_values bs ms [] ns in
    let bytes : length cs ≡ b = length-take-le b bs (omega (arith, spent_front text_bytes k T, s.texts)) in
    let members : length ls ≡ m = length-take-le m ms (omega (arith, spent_front own_members k T, s.members)) in
    let few : length (take k ns) ≡ k = length-take-le k ns h in
    let agree : Agree bs cs ms ls b m = record { bytes = sym (take-take b b bs (omega arith)); bytes_long = omega arith; members = sym (take-take m m ms (omega arith)); members_long = omega arith } in
    let each : (i : ℕ) → i < k → SamePart bs cs ms ls (get_or ns i (Truth false)) =
    λ i l. same_part bs cs ms ls T i (get_or ns i (Truth false)) b m agree (omega arith)
    (omega (arith, spent_fronts text_bytes (i + 1) k T (omega arith))) (omega (arith, spent_fronts own_members (i + 1) k T (omega arith))) (fact bs ms ns i (Truth false) s (omega arith)) in
    let all = All-from_get_or (SamePart bs cs ms ls) (take k ns) (Truth false) (λ i l. subst (SamePart bs cs ms ls) (sym (get_or-take k ns i (Truth false) (omega arith))) (each i (omega arith))) in
    let values : node_values cs ls (take k ns) ≡ take k T = same_values bs cs ms ls [] (take k ns) all ∙ values_take bs ms [] k ns in
    let sound : Sound cs ls (take k ns) = record {
      each = same_sound bs cs ms ls [] (take k ns) all (sound_take bs ms [] k ns s.each);
      texts = ap (spent text_bytes) values ∙ sym e ∙ sym bytes;
      members = ap (spent own_members) values ∙ sym f ∙ sym members;
      truths = ap begins values ∙ begins_take T k two s.truths;
    } in
    let key = key_at cs ls (take k ns) in
    let keys : (i : ℕ) → i < k → key i ≡ key_at bs ms ns i =
    λ i l. ap (node_key cs ls) (get_or-take k ns i (Truth false) l) ∙ same_key_of bs cs ms ls (get_or ns i (Truth false)) (each i l) in
    let indexed : Indexed key k (under_limit k is) = indexed_same (key_at bs ms ns) key k (under_limit k is) keys (indexed_kept (key_at bs ms ns) (length ns) k is h ix) in
    record {
      sound = test_from_sound cs ls (take k ns) sound;
      indexed = test_from_indexed cs ls (take k ns) (under_limit k is) (subst (λ n. Indexed key n (under_limit k is)) (sym few) indexed);
      values = values;
    }
