-- Tools: what they reply, when they are sound, and toolboxes, which have tools by name. Assumes nothing.
use Rattle.std.specs.Prelude.{◌≡◌, ℕ, ◌≤◌, cond, List, length, nat_le}
use Rattle.std.proofs.Math.Option.{Option, none, some}
use Rattle.values.specs.Values.{Name, mapped}

-- the answer to a fetch: a text, or none
abbrev pub Answer : Type 0
Answer = Option (List ℕ)

-- fetch this path, or this product, or failure with this code
pub data Reply : Type 0 where
  fetch : List ℕ → Reply
  product : List ℕ → Reply
  failure : ℕ → Reply

-- what is replied to a command and the answers so far
abbrev pub Plan : Type 0
Plan = List ℕ → List Answer → Reply

pub record Tool : Type 0 where
  pub version : ℕ
  pub plan : Plan

-- tools by name
abbrev pub Tools : Type 0
Tools = Name → Option Tool

-- a path and a product have at most 1,024 bytes, a code is 1 to 255
abbrev pub Small : Reply → Type 0
Small (fetch path) = length path ≤ 1024
Small (product text) = length text ≤ 1024
Small (failure code) = (1 ≤ code) × (code ≤ 255)

-- a version is 1 to 65,535, and every reply to a command of at most 1,024 bytes is small
pub record Sound (t : Tool) : Type 0 where
  pub least : 1 ≤ t.version
  pub most : t.version ≤ 65535
  pub small : (command : List ℕ) (given : List Answer) → length command ≤ 1024 → Small (t.plan command given)

abbrev pub AllSound : Tools → Type 0
AllSound T = (name : Name) (t : Tool) → T name ≡ some t → Sound t

-- what a tool of a toolbox replies; there is no reply from an unknown name, or to a command of over 1,024 bytes
abbrev pub asked : Tools → Name → List ℕ → List Answer → Option Reply
asked T name command given = cond (nat_le (length command) 1024) (mapped (λ t. t.plan command given) (T name)) none
