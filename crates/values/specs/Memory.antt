-- The values that a table in memory stands for. Assumes nothing.
use Rattle.std.specs.Prelude.{ℕ, List, vec_items}
use Rattle.values.specs.Values.{Value}
use Rattle.values.specs.Nodes.{node_values}
use Rattle.values.specs.Index.{key_at}
use Rattle.values.specs.declared.store.Table.{Table}

-- the values that a table in memory stands for
unfoldable pub values : Table → List Value
values t = node_values (vec_items t.bytes) (vec_items t.members) (vec_items t.nodes)

-- the key of the value under a number
abbrev pub key_of : Table → ℕ → List ℕ
key_of t = key_at (vec_items t.bytes) (vec_items t.members) (vec_items t.nodes)
