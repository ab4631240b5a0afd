-- Where the pools end for the first values of a table. Assumes nothing.
use Rattle.std.proofs.Common.{◌≡◌, ℕ, zero, suc, ◌+◌, ◌<◌, false, List, [], ◌∷◌, length, get_or, take, drop, vec_items, vec_len, sym, ap, ◌∙◌, arith}
use Rattle.std.specs.List.{fold}
use Rattle.std.specs.Prelude.{reverse}
use Rattle.std.proofs.lemmas.List.{at_drop_more, at_drop_all, take_all, reverse-append}
use Rattle.std.proofs.lemmas.List.Sums.{fold-append}
use Rattle.values.specs.Values.{Value}
use Rattle.values.specs.Table.{spent, text_bytes, own_members}
use Rattle.values.specs.Memory.{values}
use Rattle.values.specs.declared.nodes.Node.{Node}
use Rattle.values.specs.declared.nodes.Node.TheVariants.{Truth, Text, Binding}
use Rattle.values.specs.declared.store.Table.{Table}
use Rattle.values.proofs.Meanings.{Fact, text_fact, binding_fact}
use Rattle.values.proofs.Changes.{spent_same}
use Rattle.values.proofs.InMemory.{length_of, fact_of}
use Rattle.values.proofs.Steps.{spent_of}

-- the ends before a node, given those behind it
abbrev pub before_node : ℕ × ℕ → Node → ℕ × ℕ
before_node e (Truth b) = e
before_node e (Text s) = (s.start, e.1)
before_node e (Binding s h) = (e.0, s.start)

-- where the first k values end
abbrev ends : List Value → ℕ → ℕ × ℕ
ends T k = (spent text_bytes (take k T), spent own_members (take k T))

before_one : (t : Table) (k : ℕ) (n : Node) → k < vec_len t.nodes → Fact (vec_items t.bytes) (vec_items t.members) (values t) k n → before_node (ends (values t) (k + 1)) n ≡ ends (values t) k
before_one t k (Truth b) h f =
    let l : k < length (values t) = omega (arith, length_of t) in
    (λ j. (spent_same text_bytes (values t) k l (ap text_bytes f.value) j, spent_same own_members (values t) k l (ap own_members f.value) j))
before_one t k (Text s) h f =
    let l : k < length (values t) = omega (arith, length_of t) in
    let x = text_fact _ _ (values t) k s f in
    (λ j. (x.start j, spent_same own_members (values t) k l (ap own_members x.value) j))
before_one t k (Binding s high) h f =
    let l : k < length (values t) = omega (arith, length_of t) in
    let x = binding_fact _ _ (values t) k s high f in
    (λ j. (spent_same text_bytes (values t) k l (ap text_bytes x.value) j, x.start j))

pub ends_are : (t : Table) (d k : ℕ) → k + d ≡ vec_len t.nodes → fold before_node (vec_len t.bytes, vec_len t.members) (reverse (drop k (vec_items t.nodes))) ≡ ends (values t) k
ends_are t zero k h =
    let s = spent_of t in
    let whole : take k (values t) ≡ values t = take_all k (values t) (omega (arith, length_of t)) in
    at_drop_all (λ xs. fold before_node (vec_len t.bytes, vec_len t.members) (reverse xs)) (vec_items t.nodes) k (omega (arith, t.nodes.ok.0))
    ∙ (λ j. (sym s.texts j, sym s.members j)) ∙ ap (λ T. (spent text_bytes T, spent own_members T)) (sym whole)
ends_are t (suc d) k h =
    let n = get_or (vec_items t.nodes) k (Truth false) in
    at_drop_more (λ xs. fold before_node (vec_len t.bytes, vec_len t.members) (reverse xs)) (vec_items t.nodes) k (Truth false) (omega (arith, t.nodes.ok.0))
    ∙ ap (fold before_node (vec_len t.bytes, vec_len t.members)) (reverse-append (n ∷ []) (drop (k + 1) (vec_items t.nodes)))
    ∙ fold-append before_node (vec_len t.bytes, vec_len t.members) (reverse (drop (k + 1) (vec_items t.nodes))) (n ∷ [])
    ∙ ap (λ e. before_node e n) (ends_are t d (k + 1) (omega arith))
    ∙ before_one t k n (omega arith) (fact_of t k (Truth false) (omega arith))
