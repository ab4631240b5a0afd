-- The parts of a table in memory after a change, and its room. Assumes nothing.
use Rattle.std.proofs.Common.{◌≡◌, ℕ, ◌+◌, ◌<◌, ◌≤◌, true, false, ◌&&◌, leb, List, [], ◌∷◌, ◌++◌, length, take, Some, vec_items, vec_len, sym, refl, ap, ◌∙◌, append-nil, arith}
use Rattle.std.specs.List.{insert}
use Rattle.std.proofs.lemmas.Bool.{and_parts, leb-true}
use Rattle.values.specs.Values.{Value}
use Rattle.values.specs.Limits.{height, proper}
use Rattle.values.specs.Table.{holds, spent, one_value, text_bytes, own_members, fits, content_value, known_content}
use Rattle.values.specs.Index.{content_key, Gap}
use Rattle.values.specs.Contents.{own_bytes, node_of, own_members as own_list_of}
use Rattle.values.specs.Memory.{values, key_of}
use Rattle.values.specs.declared.parts.Member.{Member}
use Rattle.values.specs.declared.parts.Content.{Content}
use Rattle.values.specs.declared.parts.Content.TheVariants as content
use Rattle.values.specs.declared.nodes.Node.{Node}
use Rattle.values.specs.declared.store.Table.{Table}
use Rattle.values.proofs.Changes.{spent_values, many_of}
use Rattle.values.proofs.Additions.{Parts, truth_added, text_added, binding_added, cut_back}
use Rattle.values.proofs.Indexes.{indexed_from_test, under_limit, length_kept}
use Rattle.values.proofs.Findings.{missing}
use Rattle.values.proofs.InMemory.{sound_of, length_of, indexed_of}

-- what a table has spent, in memory
pub record Spent (t : Table) : Type 0 where
  pub count : spent one_value (values t) ≡ vec_len t.nodes
  pub texts : spent text_bytes (values t) ≡ vec_len t.bytes
  pub members : spent own_members (values t) ≡ vec_len t.members

pub spent_of : (t : Table) → Spent t
unfolding values
spent_of t =
    let s = sound_of t in
    record { count = spent_values (values t) ∙ length_of t; texts = s.texts ∙ sym t.bytes.ok.0; members = s.members ∙ sym t.members.ok.0 }

fits_of : (t : Table) (v : Value) → fits v (values t) ≡ (leb (vec_len t.nodes + 1) 2048 && (leb (vec_len t.bytes + text_bytes v) 32768 && leb (vec_len t.members + own_members v) 4096))
fits_of t v = let s = spent_of t in (λ j. leb (s.count j + 1) 2048 && (leb (s.texts j + text_bytes v) 32768 && leb (s.members j + own_members v) 4096))

-- the room that a content needs
own_text : (T : List Value) (c : Content) → text_bytes (content_value T c) ≡ length (own_bytes c)
own_text T (content.Truth b) = refl
own_text T (content.Text s) = refl
own_text T (content.Binding ms) = refl

own_list : (T : List Value) (c : Content) → own_members (content_value T c) ≡ length (own_list_of c)
own_list T (content.Truth b) = refl
own_list T (content.Text s) = refl
own_list T (content.Binding ms) = many_of T ms.now

-- whether there is room for a content, in memory
pub fits_content : (t : Table) (c : Content) → fits (content_value (values t) c) (values t) ≡ (leb (vec_len t.nodes + 1) 2048 && (leb (vec_len t.bytes + length (own_bytes c)) 32768 && leb (vec_len t.members + length (own_list_of c)) 4096))
fits_content t c =
    fits_of t (content_value (values t) c)
    ∙ (λ j. leb (vec_len t.nodes + 1) 2048 && (leb (vec_len t.bytes + own_text (values t) c j) 32768 && leb (vec_len t.members + own_list (values t) c j) 4096))

pub record Room (t : Table) (c : Content) : Type 0 where
  pub count : vec_len t.nodes < 2048
  pub bytes : vec_len t.bytes + length (own_bytes c) ≤ 32768
  pub members : vec_len t.members + length (own_list_of c) ≤ 4096

pub room_of : (t : Table) (c : Content) → fits (content_value (values t) c) (values t) ≡ true → Room t c
room_of t c e =
    let n = vec_len t.nodes + 1 in
    let b = vec_len t.bytes + length (own_bytes c) in
    let m = vec_len t.members + length (own_list_of c) in
    let f = and_parts (leb n 2048) (leb b 32768 && leb m 4096) (sym (fits_content t c) ∙ e) in
    let g = and_parts (leb b 32768) (leb m 4096) f.1 in
    let h = leb-true n 2048 f.0 in
    record { count = omega arith; bytes = leb-true b 32768 g.0; members = leb-true m 4096 g.1 }

-- the parts with a value more
pub pushed : (t : Table) (c : Content) (h p n : ℕ) (cs : List ℕ) (ls : List Member) (ns : List Node) (is : List ℕ) → n ≡ vec_len t.nodes → cs ≡ vec_items t.bytes ++ own_bytes c → ls ≡ vec_items t.members ++ own_list_of c → ns ≡ vec_items t.nodes ++ node_of c h (vec_len t.bytes) (vec_len t.members) ∷ [] → is ≡ insert (vec_items t.index) p n → known_content (values t) (Some c) ≡ true → h ≡ height (content_value (values t) c) → proper (content_value (values t) c) ≡ true → Gap (key_of t) (vec_items t.index) (content_key c) p → Parts cs ls ns is (values t ++ content_value (values t) c ∷ [])
unfolding values
pushed t c h p n cs ls ns is m e f g k kn high right gap =
    let number : is ≡ insert (vec_items t.index) p (length (vec_items t.nodes)) = k ∙ ap (insert (vec_items t.index) p) (m ∙ t.nodes.ok.0) in
    rw (number, g) (go c e f kn high right gap (missing t c p kn gap))
  where
    go : (c : Content) → cs ≡ vec_items t.bytes ++ own_bytes c → ls ≡ vec_items t.members ++ own_list_of c → known_content (values t) (Some c) ≡ true → h ≡ height (content_value (values t) c) → proper (content_value (values t) c) ≡ true → Gap (key_of t) (vec_items t.index) (content_key c) p → holds (content_value (values t) c) (values t) ≡ false → Parts cs ls (vec_items t.nodes ++ node_of c h (vec_len t.bytes) (vec_len t.members) ∷ []) (insert (vec_items t.index) p (length (vec_items t.nodes))) (values t ++ content_value (values t) c ∷ [])
    go (content.Truth b) e f kn high right gap fresh = truth_added _ cs _ ls _ _ b p (sound_of t) (indexed_from_test _ _ _ _ t.indexed) (sym t.index.ok.0 ∙ t.paired ∙ t.nodes.ok.0) (e ∙ append-nil _) (f ∙ append-nil _) fresh gap
    go (content.Text s) e f kn high right gap fresh =
        rw (f ∙ append-nil _) (text_added _ cs _ _ _ (record { start = vec_len t.bytes; len = length s.now }) s.now p (sound_of t) (indexed_from_test _ _ _ _ t.indexed) (sym t.index.ok.0 ∙ t.paired ∙ t.nodes.ok.0) e t.bytes.ok.0 refl fresh right gap)
    go (content.Binding ms) e f kn high right gap fresh =
        rw (e ∙ append-nil _) (binding_added _ _ ls _ _ (record { start = vec_len t.members; len = length ms.now }) h ms.now p (sound_of t) (indexed_from_test _ _ _ _ t.indexed) (sym t.index.ok.0 ∙ t.paired ∙ t.nodes.ok.0) f t.members.ok.0 refl kn high fresh right gap)

-- the parts of the first k values
pub cut_of : (t : Table) (k b m : ℕ) (cs : List ℕ) (ls : List Member) (ns : List Node) (is : List ℕ) → 2 ≤ k → k ≤ vec_len t.nodes → b ≡ spent text_bytes (take k (values t)) → m ≡ spent own_members (take k (values t)) → cs ≡ take b (vec_items t.bytes) → ls ≡ take m (vec_items t.members) → ns ≡ take k (vec_items t.nodes) → is ≡ under_limit k (vec_items t.index) → Parts cs ls ns is (take k (values t))
unfolding values
cut_of t k b m cs ls ns is two h e f p q r s =
    rw (p, q, r, s) (cut_back (vec_items t.bytes) (vec_items t.members) (vec_items t.nodes) (vec_items t.index) k b m (sound_of t) (indexed_from_test _ _ _ _ t.indexed) two (omega (arith, t.nodes.ok.0)) e f)

pub length_cut : (t : Table) (k : ℕ) (is : List ℕ) → k ≤ vec_len t.nodes → is ≡ under_limit k (vec_items t.index) → length is ≡ k
length_cut t k is h e = ap length e ∙ length_kept (key_of t) (vec_len t.nodes) k (vec_items t.index) h (indexed_of t)
