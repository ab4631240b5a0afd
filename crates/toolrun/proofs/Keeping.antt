-- Room for one answer more. Assumes nothing.
use Rattle.std.proofs.Common.{◌≡◌, ℕ, ◌+◌, ◌&&◌, ltb, leb, length, vec_items, vec_len, sym, ap, ◌∙◌}
use Rattle.std.proofs.lemmas.List.{length-map}
use Rattle.tools.specs.Tools.{Answer}
use Rattle.tools.specs.Calls.{meant}
use Rattle.toolrun.specs.Runs.{size, sizes, has_room}
use Rattle.toolrun.specs.Told.{all_within}
use Rattle.toolrun.specs.Kept.{answers}
use Rattle.toolrun.specs.declared.store.ToolRun.{ToolRun}
use Rattle.toolrun.proofs.Telling.{all_sizes}

pub room_is : (s : ToolRun) (a : Answer) (n : ℕ) → size a ≡ n → (ltb (vec_len s.told) 16 && leb (vec_len s.pool + n) 4096) ≡ has_room (answers s) a
room_is s a n e =
    let many : vec_len s.told ≡ length (answers s) = s.told.ok.0 ∙ sym (length-map (vec_items s.told) (meant (vec_items s.pool))) in
    let bytes : vec_len s.pool ≡ sizes (answers s) = sym (all_sizes (vec_items s.pool) (vec_items s.told) (ap (λ k. all_within k (vec_items s.told)) (sym s.pool.ok.0) ∙ s.within) ∙ s.filled) in
    (λ j. ltb (many j) 16 && leb (bytes j + sym e j) 4096)
