-- The index of a table in memory: the numbers of all nodes, in the order of their keys. Assumes nothing.
use Rattle.std.specs.Prelude.{◌≡◌, ℕ, zero, suc, ◌+◌, ◌<◌, ◌≤◌, Bool, true, false, cond, ◌&&◌, List, [], ◌∷◌, length, take, drop, Ok, Err, Result, ◌==◌, nat_lt, slice_index_or}
use Rattle.std.specs.declared.cmp.Ordering.TheVariants.{Less}
use Rattle.std.specs.declared.cmp.Ordering.{Ordering}
use Rattle.values.specs.Values.{before}
use Rattle.values.specs.Order.{order}
use Rattle.values.specs.Nodes.{part}
use Rattle.values.specs.declared.parts.Member.{Member}
use Rattle.values.specs.declared.parts.Content.{Content}
use Rattle.values.specs.declared.parts.Content.TheVariants as content
use Rattle.values.specs.declared.nodes.Node.{Node}
use Rattle.values.specs.declared.nodes.Node.TheVariants.{Truth, Text, Binding}

-- the numbers of members, one after the other
abbrev pub numbers : List Member → List ℕ
numbers [] = []
numbers (m ∷ ms) = m.name ∷ m.value ∷ numbers ms

-- the keys of truth values, texts and bindings begin with 0, 1 and 2
abbrev pub truth_key : Bool → List ℕ
truth_key b = 0 ∷ cond b 1 0 ∷ []

abbrev pub text_key : List ℕ → List ℕ
text_key s = 1 ∷ s

abbrev pub binding_key : List Member → List ℕ
binding_key ms = 2 ∷ numbers ms

-- the key of a content
abbrev pub content_key : Content → List ℕ
content_key (content.Truth b) = truth_key b
content_key (content.Text s) = text_key s.now
content_key (content.Binding ms) = binding_key ms.now

-- the key of a node
abbrev pub node_key : List ℕ → List Member → Node → List ℕ
node_key bs ms (Truth b) = truth_key b
node_key bs ms (Text s) = text_key (part bs s)
node_key bs ms (Binding s h) = binding_key (part ms s)

-- the key of the node under a number
abbrev pub key_at : List ℕ → List Member → List Node → ℕ → List ℕ
key_at bs ms ns i = node_key bs ms (slice_index_or ns i (Truth false))

-- the keys of all numbers stand before a key, or after it
abbrev pub all_before : (ℕ → List ℕ) → List ℕ → List ℕ → Bool
all_before key k [] = true
all_before key k (i ∷ is) = before (key i) k && all_before key k is

abbrev pub all_after : (ℕ → List ℕ) → List ℕ → List ℕ → Bool
all_after key k [] = true
all_after key k (i ∷ is) = before k (key i) && all_after key k is

-- keys ascend strictly
abbrev pub climbs : (ℕ → List ℕ) → List ℕ → Bool
climbs key [] = true
climbs key (i ∷ is) = all_after key (key i) is && climbs key is

-- every number is below a limit
abbrev pub all_below : ℕ → List ℕ → Bool
all_below n [] = true
all_below n (i ∷ is) = nat_lt i n && all_below n is

-- how many numbers are below a limit
abbrev pub below : ℕ → List ℕ → ℕ
below n [] = 0
below n (i ∷ is) = cond (nat_lt i n) 1 0 + below n is

-- for each k up to n, exactly k numbers are below k: so each number below n is there once
abbrev pub counted : ℕ → List ℕ → Bool
counted zero is = true
counted (suc n) is = below (suc n) is == suc n && counted n is

-- an index of the nodes: each number once, and no other, in the order of keys
unfoldable pub sound_index : List ℕ → List Member → List Node → List ℕ → Bool
sound_index bs ms ns is = climbs (key_at bs ms ns) is && (all_below (length ns) is && counted (length ns) is)

-- how the key of a number stands to a key; a number that no node has comes first
abbrev pub side : (ℕ → List ℕ) → ℕ → List ℕ → ℕ → Ordering
side key n k i = cond (nat_lt i n) (order (key i) k) Less

-- the place of a key that no number of the index has
pub record Gap (key : ℕ → List ℕ) (is : List ℕ) (k : List ℕ) (p : ℕ) : Type 0 where
  pub within : p ≤ length is
  pub front : all_before key k (take p is) ≡ true
  pub back : all_after key k (drop p is) ≡ true

-- what looking for a key among n nodes answers: a number that has it, or the place where it is missing
abbrev pub Finds : (ℕ → List ℕ) → ℕ → List ℕ → List ℕ → Result ℕ ℕ → Type 0
Finds key n is k (Ok i) = (i < n) × (key i ≡ k)
Finds key n is k (Err p) = Gap key is k p
