-- What the nodes of a table in memory stand for, over a pool of bytes and a pool of members, and when they are sound. Assumes nothing.
use Rattle.std.specs.Prelude.{ℕ, ◌+◌, Bool, true, false, not, ◌&&◌, List, [], ◌∷◌, ◌++◌, length, take, drop, ◌==◌, nat_le, slice_index_or}
use Rattle.values.specs.Values.{Value, text, truth, binding, same_value}
use Rattle.values.specs.Limits.{height, proper}
use Rattle.values.specs.Table.{holds, known, members_of, spent, text_bytes, own_members}
use Rattle.values.specs.declared.parts.Member.{Member}
use Rattle.values.specs.declared.nodes.Span.{Span}
use Rattle.values.specs.declared.nodes.Node.{Node}
use Rattle.values.specs.declared.nodes.Node.TheVariants.{Truth, Text, Binding}

-- a stretch of a pool
abbrev pub part : {A : Type 0} → List A → Span → List A
part xs s = take s.len (drop s.start xs)

-- a node's value, over those of the nodes before it
abbrev pub node_value : List ℕ → List Member → List Value → Node → Value
node_value bs ms vs (Truth b) = truth b
node_value bs ms vs (Text s) = text (part bs s)
node_value bs ms vs (Binding s h) = binding (members_of vs (part ms s))

-- the values of nodes that follow the values vs, each over those before it
abbrev pub node_values_on : List ℕ → List Member → List Value → List Node → List Value
node_values_on bs ms vs [] = []
node_values_on bs ms vs (n ∷ ns) = node_value bs ms vs n ∷ node_values_on bs ms (vs ++ node_value bs ms vs n ∷ []) ns

-- the values of all nodes
abbrev pub node_values : List ℕ → List Member → List Node → List Value
node_values bs ms ns = node_values_on bs ms [] ns

-- a node's stretch begins where those of the values vs before it end, and lies in its pool;
-- its members are known, and the height that it holds is that of its value
abbrev pub placed : List ℕ → List Member → List Value → Node → Bool
placed bs ms vs (Truth b) = true
placed bs ms vs (Text s) = s.start == spent text_bytes vs && nat_le (s.start + s.len) (length bs)
placed bs ms vs (Binding s h) =
    (s.start == spent own_members vs)
    && (nat_le (s.start + s.len) (length ms) && (known vs (part ms s) && h == height (binding (members_of vs (part ms s)))))

-- besides, its value is new and proper
abbrev pub sound_node : List ℕ → List Member → List Value → Node → Bool
sound_node bs ms vs n = placed bs ms vs n && (not (holds (node_value bs ms vs n) vs) && proper (node_value bs ms vs n))

-- nodes that follow the values vs are sound, each over those before it
abbrev pub sound_on : List ℕ → List Member → List Value → List Node → Bool
sound_on bs ms vs [] = true
sound_on bs ms vs (n ∷ ns) = sound_node bs ms vs n && sound_on bs ms (vs ++ node_value bs ms vs n ∷ []) ns

-- the first two values are TRUE and FALSE
abbrev pub begins : List Value → Bool
begins vs = same_value (slice_index_or vs 0 (truth false)) (truth true) && same_value (slice_index_or vs 1 (truth true)) (truth false)

-- all nodes are sound, they use up the pools, and they begin with the truth values
unfoldable pub sound_nodes : List ℕ → List Member → List Node → Bool
sound_nodes bs ms ns =
    sound_on bs ms [] ns
    && (spent text_bytes (node_values bs ms ns) == length bs
    && (spent own_members (node_values bs ms ns) == length ms && begins (node_values bs ms ns)))
