use Rattle.std.proofs.Common.{◌+◌, ◌-◌, ◌≤◌, take, set, arith, length-take}
use borrow.Rule.Slice.PartMut.{put_mid}
use Rattle.ordered.proofs.Climbs.{climbs_put}
use Rattle.ordered.proofs.Shifts.{shifted, rest_stays, put_in}
use Rattle.ordered.proofs.insert_lent.Goals as goal

pub returns-clause-inserted : goal.returns-clause-inserted
returns-clause-inserted g c o up =
    let ks = c.args.keys.now in
    let len = c.args.len in
    let i = c.in-Err.i in
    let k = c.args.key in
    let xs = take len ks in
    let low : i ≤ len = omega (arith, c.in-Err.ensures.bound, length-take len ks) in
    let zs = c.rotate_right.new.self in
    let f = c.in-Err.ensures.found o up in
    let ys = take (len + 1) (put_mid i (len + 1 - i) (set ks len k) zs) in
    let items = shifted ks len i k c.if-len-keys.false low zs c.rotate_right.ensures.after in
    (f.0, items, f.1, f.2, climbs_put o xs ys i k (put_in xs ys i k f.0 items) up f.1 f.2)

pub returns-clause-rest : goal.returns-clause-rest
returns-clause-rest g c =
    let ks = c.args.keys.now in
    let len = c.args.len in
    let low : c.in-Err.i ≤ len = omega (arith, c.in-Err.ensures.bound, length-take len ks) in
    rest_stays ks len c.in-Err.i c.args.key c.if-len-keys.false low c.rotate_right.new.self c.rotate_right.ensures.after
