use Rattle.std.proofs.Common.{◌∷◌, take}
use Rattle.std.specs.List.{flat_map as flat}
use Rattle.values.specs.Memory.{values}
use Rattle.listing.specs.Pieces.{spelling}
use Rattle.listing.proofs.walk.Walk.put_steps.Given as goal

abbrev pub invariant-loop-name : goal.invariant-loop-name
invariant-loop-name g l = g.S.Sink.grows l.initial.out (flat (λ n. 47 ∷ spelling (values l.self.table.now) n) (take l.name-index l.names)) l.out
