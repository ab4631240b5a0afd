use Rattle.std.proofs.Common.{rules, ◌≡◌, ◌+◌, ◌-◌, length, replicate, arith}
use Rattle.trees.proofs.Counting.{one_and_ones}
use Rattle.trees.proofs.progress.Progress.count_member.Goals as goal

pub returns-clause-counts : goal.returns-clause-counts
returns-clause-counts c =
    let xs = c.args.self.now.counts in
    let long : length xs ≡ 16 = search rules in
    let ones : c.fill.new.self ≡ replicate (c.args.names - (c.args.shared + 1)) 1 = search rules in
    one_and_ones xs _ c.args.shared c.args.names _ c.requires.parted (omega (arith, long, c.requires.few)) ones
