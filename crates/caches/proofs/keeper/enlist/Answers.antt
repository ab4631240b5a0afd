use Rattle.std.proofs.Common.{◌+◌, cond, vec_items, vec_len, vec_capacity, ap, ◌∙◌}
use Rattle.ordered.specs.Climbing.{Room}
use Rattle.caches.proofs.Indexes.{line, inserted, enlists}
use Rattle.caches.proofs.keeper.enlist.Goals as goal

pub returns : goal.returns
returns c =
    let old = c.args.index.now in
    let xs = vec_items old in
    let ys = vec_items c.insert.new.keys in
    let room = Room (vec_len old) (vec_capacity old) in
    let put = inserted xs ys (line c.args.key c.args.entry) c.insert.result room c.requires.sorted c.insert.ensures.inserted in
    let t = enlists c.args.key c.args.entry xs ys c.insert.result room c.requires.room c.requires.below put in
    record { enlists = t.1; len = c.insert.ensures.len ∙ ap (λ b. vec_len old + cond b 1 0) t.0; capacity = c.insert.ensures.capacity }
