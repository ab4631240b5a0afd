use Rattle.std.proofs.Common.{◌≡◌, ℕ, ◌<◌, List, [], ◌∷◌, ◌++◌, length, get_or, refl, ap, subst}
use Rattle.std.specs.List.{flat_map as flat}
use Rattle.values.specs.Memory.{values}
use Rattle.values.specs.Values.{Value}
use Rattle.listing.specs.Pieces.{spelling, spellings, steps}
use Rattle.listing.proofs.Growing.{front_lacks, back_lacks, stops}
use Rattle.listing.proofs.Loops.{more, lacks, all}
use Rattle.listing.proofs.walk.Walk.put_steps.Goals as goal

abbrev step : List Value → ℕ → List ℕ
step T n = 47 ∷ spelling T n

flat_steps : (T : List Value) (ns : List ℕ) → flat (step T) ns ≡ steps (spellings T ns)
flat_steps T [] = refl
flat_steps T (n ∷ ns) = ap (λ l. step T n ++ l) (flat_steps T ns)

pub loop-name-preserved : goal.loop-name-preserved
loop-name-preserved g c =
    let T = values c.args.self.now.table.now in
    let ns = c.args.names.now in
    let i = c.loop-name.name-index in
    more (step T) ns g.met.S.Sink.adds {s = c.args.out.now} {t = c.loop-name.out} {u = c.put-in-loop-name.new.self} i 0 c.loop-name-test.true c.loop-name.invariant
    (subst (λ l. g.S.Sink.grows c.loop-name.out (47 ∷ l) c.put-in-loop-name.new.self) c.text.ensures
    (g.met.S.Sink.adds.both c.loop-name.out c.put.new.self c.put-in-loop-name.new.self (47 ∷ []) c.text.result.now c.in_ok-put.ensures c.in_ok-put-2.ensures))

pub returns : goal.returns
returns g c =
    let T = values c.args.self.now.table.now in
    let ns = c.args.names.now in
    subst (λ l. g.S.Sink.grows c.args.out.now l c.loop-name.out) (flat_steps T ns)
    (all (step T) ns g.met.S.Sink.adds c.loop-name.name-index c.loop-name-test.false c.loop-name.invariant)

pub returns-in_err-put : goal.returns-in_err-put
returns-in_err-put g c =
    let T = values c.args.self.now.table.now in
    let ns = c.args.names.now in
    let i = c.loop-name.name-index in
    let s = c.args.out.now in
    stops g.met.S.Sink.adds c.put.new.self (steps (spellings T ns)) c.from_residual.result c.from_residual.ensures.0
    (subst (λ l. g.S.Sink.room s < length l) (flat_steps T ns)
    (lacks (step T) ns g.met.S.Sink.adds {s = s} {t = c.loop-name.out} i 0 c.loop-name-test.true c.loop-name.invariant
    (front_lacks g.met.S.Sink.adds {s = c.loop-name.out} (47 ∷ []) (spelling T (get_or ns i 0)) c.in_err-put.ensures)))

pub returns-in_err-put-2 : goal.returns-in_err-put-2
returns-in_err-put-2 g c =
    let T = values c.args.self.now.table.now in
    let ns = c.args.names.now in
    let i = c.loop-name.name-index in
    let s = c.args.out.now in
    stops g.met.S.Sink.adds c.put-in-loop-name.new.self (steps (spellings T ns)) c.from_residual-in_err-put-2.result c.from_residual-in_err-put-2.ensures.0
    (subst (λ l. g.S.Sink.room s < length l) (flat_steps T ns)
    (lacks (step T) ns g.met.S.Sink.adds {s = s} {t = c.loop-name.out} i 0 c.loop-name-test.true c.loop-name.invariant
    (subst (λ l. g.S.Sink.room c.loop-name.out < length (47 ∷ l)) c.text.ensures
    (back_lacks g.met.S.Sink.adds {s = c.loop-name.out} {t = c.put.new.self} (47 ∷ []) c.text.result.now c.in_ok-put.ensures c.in_err-put-2.ensures))))
