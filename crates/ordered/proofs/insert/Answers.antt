use Rattle.std.proofs.Common.{◌≡◌, ◌<◌, Err, vec_items, vec_len, vec_capacity, sym, subst, arith}
use Rattle.std.specs.List.{insert}
use Rattle.ordered.specs.Climbing.{Climbs, Found}
use Rattle.std.proofs.ResultArms.{chosen}
use Rattle.ordered.proofs.Shifts.{put_in}
use Rattle.ordered.proofs.Climbs.{climbs_put}
use Rattle.ordered.proofs.insert.Goals as goal

pub returns-clause-inserted : goal.returns-clause-inserted
returns-clause-inserted g c o up =
    let room : vec_len c.args.keys.now < vec_capacity c.args.keys.now = omega (arith, c.if-len-capacity.false, c.len.ensures, c.capacity.ensures) in
    let same = c.deref.ensures.value in
    let xs = vec_items c.args.keys.now in
    let i = c.in-Err.i in
    let k = c.args.key in
    let f = subst (λ l. Found g.K.Ord.cmp l k (Err i)) same (c.in-Err.ensures.found o (subst (Climbs g.K.Ord.cmp) (sym same) up)) in
    let ys = vec_items c.insert.new.self in
    let items : ys ≡ insert xs i k = chosen _ _ _ _ c.insert.ensures.items (c.insert.ensures.succeeds room) in
    (f.0, items, f.1, f.2, climbs_put o xs ys i k (put_in xs ys i k f.0 items) up f.1 f.2)
