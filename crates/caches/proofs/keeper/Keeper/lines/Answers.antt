use Rattle.std.proofs.Common.{◌-◌, take, drop, vec_items, vec_len, sym, ap, ◌∙◌, arith}
use Rattle.caches.proofs.Indexes.{line, placed, start_before_end, lines_between}
use Rattle.caches.proofs.keeper.Keeper.lines.Goals as goal

pub slice_bounds-result-count : goal.slice_bounds-result-count
slice_bounds-result-count c =
    let s = c.args.self.now in
    let xs = vec_items s.index in
    let start = c.place-start.result in
    let end = c.place-end.result in
    let first = placed xs c.deref.result.now (line c.args.key 0) start s.sorted c.deref.ensures.value c.place-start.ensures.stands in
    let last = placed xs c.deref-2.result.now (line c.args.key 65535) end s.sorted c.deref-2.ensures.value c.place-end.ensures.stands in
    start_before_end c.args.key xs (vec_len s.slots) 65535 start end (omega (arith, s.few.0)) s.below first last (omega (arith, c.place-start.ensures.bound, c.deref.ensures.len, s.index.ok.0))

pub slice_bounds-result-start : goal.slice_bounds-result-start
slice_bounds-result-start c = slice_bounds-result-count c

pub returns : goal.returns
returns c =
    let s = c.args.self.now in
    let xs = vec_items s.index in
    let start = c.place-start.result in
    let end = c.place-end.result in
    let first = placed xs c.deref.result.now (line c.args.key 0) start s.sorted c.deref.ensures.value c.place-start.ensures.stands in
    let last = placed xs c.deref-2.result.now (line c.args.key 65535) end s.sorted c.deref-2.ensures.value c.place-end.ensures.stands in
    ap (λ l. take (end - start) (drop start l)) c.deref-3.ensures.value
    ∙ sym (lines_between c.args.key xs (vec_len s.slots) 65535 start end (omega (arith, s.few.0)) s.below first last (omega (arith, c.place-start.ensures.bound, c.deref.ensures.len, s.index.ok.0)))
