-- A whole listing, and the passes over it. Assumes nothing.
use Rattle.std.proofs.Common.{◌≡◌, ℕ, ◌≤◌, Bool, true, false, ◌&&◌, leb, List, [], ◌∷◌, map, length, refl, ap, arith}
use Rattle.values.specs.declared.parts.Content.{Content}
use Rattle.values.specs.declared.parts.Content.TheVariants.{Truth, Text, Binding}
use Rattle.values.specs.Values.{Value, binding, Members}
use Rattle.values.specs.Limits.{height, small, all_ordered, all_named, proper}
use Rattle.values.specs.Table.{content_value}
use Rattle.trees.specs.Lines.{Line, line}
use Rattle.trees.specs.Files.{listing, read_tree, done}
use Rattle.trees.proofs.Spellings.{reads}
use Rattle.listing.specs.Pieces.{ending, leaf_of, deeper}
use Rattle.listing.proofs.Walks.{line_parts}

-- no names more on the path
pub deeper_none : (ls : List Line) → map (deeper []) ls ≡ ls
deeper_none [] = refl
deeper_none (line p c ∷ ls) = ap (λ r. line p c ∷ r) (deeper_none ls)

-- a value that is no binding
pub dot_line : (T : List Value) (c : Content) → (((ms : _) → c ≡ Binding ms → ⊥)) → 46 ∷ ending (leaf_of c) ≡ listing (content_value T c)
dot_line T (Truth b) h = line_parts ((46 ∷ []) ∷ []) (leaf_of (Truth b))
dot_line T (Text s) h = line_parts ((46 ∷ []) ∷ []) (leaf_of (Text s))
dot_line T (Binding ms) h = absurd (h ms refl)

-- the listing of a proper binding reads back
pub reads_proper : (ms : Members) → proper (binding ms) ≡ true → length (listing (binding ms)) ≤ 32768 → read_tree (listing (binding ms)) ≡ done ms
reads_proper ms p h =
    go (leb (height (binding ms)) 16) (small (binding ms)) (all_ordered ms) (all_named ms) refl refl refl refl p
  where
    go : (a b c d : Bool) → leb (height (binding ms)) 16 ≡ a → small (binding ms) ≡ b → all_ordered ms ≡ c → all_named ms ≡ d → (a && (b && (c && d))) ≡ true → read_tree (listing (binding ms)) ≡ done ms
    go true true true true e f g i q = reads ms g (λ j. e j && f j) i h
    go true true true false e f g i q = let z : ◌≡◌ {A = ℕ} 0 1 = cc in absurd (omega arith)
    go true true false d e f g i q = let z : ◌≡◌ {A = ℕ} 0 1 = cc in absurd (omega arith)
    go true false c d e f g i q = let z : ◌≡◌ {A = ℕ} 0 1 = cc in absurd (omega arith)
    go false b c d e f g i q = let z : ◌≡◌ {A = ℕ} 0 1 = cc in absurd (omega arith)
