use Rattle.std.proofs.Common.{rules}
use Rattle.caches.specs.Entries.{answers_at}
use Rattle.caches.proofs.Copies.{copied_full}
use Rattle.caches.proofs.Lists.{answers_short}
use Rattle.caches.proofs.pair.recall.Goals as goal

pub returns-clause-recalled : goal.returns-clause-recalled
returns-clause-recalled g c =
    let es = g.C.Cache.held c.args.cache.now in
    copied_full c.loop-key.answers.items (answers_at c.args.key c.args.k es) (search rules) (answers_short c.args.key c.args.k es (g.met.C.Cache.short c.args.cache.now)) (search rules)
