-- What a content has of its own, and the node under which it is kept. Assumes nothing.
use Rattle.std.specs.Prelude.{ℕ, List, [], length}
use Rattle.values.specs.declared.parts.Member.{Member}
use Rattle.values.specs.declared.parts.Content.{Content}
use Rattle.values.specs.declared.parts.Content.TheVariants as content
use Rattle.values.specs.declared.nodes.Node.{Node}
use Rattle.values.specs.declared.nodes.Node.TheVariants.{Truth, Text, Binding}

-- only a text has bytes
abbrev pub own_bytes : Content → List ℕ
own_bytes (content.Truth b) = []
own_bytes (content.Text s) = s.now
own_bytes (content.Binding ms) = []

-- only a binding has members
abbrev pub own_members : Content → List Member
own_members (content.Truth b) = []
own_members (content.Text s) = []
own_members (content.Binding ms) = ms.now

-- the node of a content, given its height, and where the pools end that its bytes or its members are appended to
abbrev pub node_of : Content → ℕ → ℕ → ℕ → Node
node_of (content.Truth b) h x y = Truth b
node_of (content.Text s) h x y = Text (record { start = x; len = length s.now })
node_of (content.Binding ms) h x y = Binding (record { start = y; len = length ms.now }) h
