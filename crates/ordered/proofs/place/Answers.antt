use Rattle.std.proofs.Common.{rules}
use Rattle.std.specs.Ordering.{partial_lt}
use Rattle.std.proofs.lemmas.List.Sorted.{IsPartitionPoint-from_clause}
use Rattle.ordered.proofs.Climbs.{parted, stands_from}
use Rattle.ordered.proofs.place.Goals as goal

pub returns-clause-stands : goal.returns-clause-stands
returns-clause-stands g c o up =
    let xs = c.args.keys.now in
    let k = c.args.key.now in
    let agrees = g.met.K.Ord.matches_partial_cmp in
    stands_from o agrees xs up k c.partition_point.result
    (IsPartitionPoint-from_clause (λ y. partial_lt g.K.PartialOrd.partial_cmp y k) xs c.partition_point.result c.partition_point.ensures.partitioned (parted o agrees xs up k) (λ a r f' called. search rules))
