use Rattle.std.proofs.Common.{[], ◌∷◌, take}
use Rattle.std.specs.List.{flat_map as flat}
use Rattle.trees.specs.Files.{escape}
use Rattle.listing.proofs.pieces.put_text.Given as goal

abbrev pub invariant-loop-byte : goal.invariant-loop-byte
invariant-loop-byte g l = g.S.Sink.grows l.initial.out (flat (λ b. escape (b ∷ [])) (take l.byte-index l.text)) l.out
