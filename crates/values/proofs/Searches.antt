-- Searching the index for a content. Assumes nothing.
use Rattle.std.proofs.Common.{◌≡◌, ℕ, ◌<◌, ◌≤◌, cond, Some, None, List, vec_len, Less, true, sym, ap, ◌∙◌}
use Rattle.std.specs.Option.{option_cmp}
use Rattle.std.specs.Prelude.{Option as Answer}
use Rattle.std.proofs.lemmas.Bool.{lt-ltb, le-ltb}
use Rattle.values.specs.Values.{nth}
use Rattle.values.specs.Order.{order}
use Rattle.values.specs.Table.{shown, known_content}
use Rattle.values.specs.Index.{content_key, side}
use Rattle.values.specs.Memory.{values, key_of}
use Rattle.values.specs.declared.parts.Content.{Content}
use Rattle.values.specs.declared.store.Table.{Table}
use Rattle.values.specs.contracts.parts.ContentOrd.TheImpl as content
use Rattle.values.proofs.Contents.{ordered_by_keys}
use Rattle.values.proofs.Findings.{told, not_there}

-- a number's side, if it is in the table or not
pub side_there : (t : Table) (k : List ℕ) (i : ℕ) → i < vec_len t.nodes → side (key_of t) (vec_len t.nodes) k i ≡ order (key_of t i) k
side_there t k i h = ap (λ b. cond b (order (key_of t i) k) Less) (lt-ltb i (vec_len t.nodes) h)

side_past : (t : Table) (k : List ℕ) (i : ℕ) → vec_len t.nodes ≤ i → side (key_of t) (vec_len t.nodes) k i ≡ Less
side_past t k i h = ap (λ b. cond b (order (key_of t i) k) Less) (le-ltb i (vec_len t.nodes) h)

-- how what a number reads as compares with a content
pub sided : (t : Table) (c : Content) (i : ℕ) (o : Answer Content) → shown (values t) o ≡ nth (values t) i → known_content (values t) o ≡ true → option_cmp content.ghosts.cmp o (Some c) ≡ side (key_of t) (vec_len t.nodes) (content_key c) i
sided t c i None e k = sym (side_past t (content_key c) i (not_there t i e))
sided t c i (Some d) e k =
    let f = told t i d e k in
    ordered_by_keys d c ∙ ap (λ x. order x (content_key c)) (sym f.key) ∙ sym (side_there t (content_key c) i f.there)
