use Rattle.std.proofs.Common.{◌<◌, [], ◌∷◌, length, subst}
use Rattle.trees.specs.Files.{escape}
use Rattle.listing.proofs.Growing.{stops}
use Rattle.listing.proofs.Loops.{lacks, all, escape_flat}
use Rattle.listing.proofs.pieces.put_text.Goals as goal

pub returns : goal.returns
returns g c =
    let xs = c.args.text.now in
    subst (λ l. g.S.Sink.grows c.args.out.now l c.loop-byte.out) (escape_flat xs)
    (all (λ b. escape (b ∷ [])) xs g.met.S.Sink.adds c.loop-byte.byte-index c.loop-byte-test.false c.loop-byte.invariant)

pub returns-in_err-put : goal.returns-in_err-put
returns-in_err-put g c =
    let xs = c.args.text.now in
    stops g.met.S.Sink.adds c.put.new.self (escape xs) c.from_residual.result c.from_residual.ensures.0
    (subst (λ l. g.S.Sink.room c.args.out.now < length l) (escape_flat xs)
    (lacks (λ b. escape (b ∷ [])) xs g.met.S.Sink.adds c.loop-byte.byte-index 0 c.loop-byte-test.true c.loop-byte.invariant (subst (λ l. g.S.Sink.room c.loop-byte.out < length l) c.escaped.ensures c.in_err-put.ensures)))
