use Rattle.std.proofs.Common.{◌≡◌, ◌-◌, ◌≤◌, length, take}
use Rattle.caches.specs.Entries.{answers_at}
use Rattle.caches.proofs.pair.recall.Given as goal

abbrev pub invariant-loop-key : goal.invariant-loop-key
invariant-loop-key g l = record {
  within : length l.answers.items ≤ length (answers_at l.key l.k (g.C.Cache.held l.cache));
  so_far : l.answers.items ≡ take (length l.answers.items) (answers_at l.key l.k (g.C.Cache.held l.cache));
}

abbrev pub decreases-loop-key : goal.decreases-loop-key
decreases-loop-key g l = 64 - length l.answers.items
