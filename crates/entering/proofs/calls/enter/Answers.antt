use Rattle.std.proofs.Common.{max, [], take, ap, ◌∙◌}
use Rattle.values.specs.Memory.{values}
use Rattle.trees.specs.Accepted.{tree_members}
use Rattle.values.proofs.InMemory.{truths_of}
use Rattle.entering.proofs.Growing.{two, back}
use Rattle.entering.proofs.Written.{tree_level}
use Rattle.entering.proofs.calls.enter.Goals as goal

pub enter_members-requires : goal.enter_members-requires
enter_members-requires c = let t = c.args.tree.now in (tree_members t, [], tree_level t)

pub returns-in-Ok : goal.returns-in-Ok
returns-in-Ok c =
    let t = c.args.tree.now in
    let h = c.in-Ok.ensures (tree_members t) [] (tree_level t) in
    (h.0, h.1)

pub returns-in-Err : goal.returns-in-Err
returns-in-Err c =
    let t = c.args.tree.now in
    let T = values c.args.table.now in
    let T' = values c.enter_members.new.table in
    let h = c.in-Err.ensures (tree_members t) [] (tree_level t) in
    let truths = truths_of c.args.table.now in
    (h.0, c.truncate.ensures ∙ ap (λ n. take (max 2 n) T') c.len-len.ensures ∙ back T T' h.1 (two T 0 1 truths.0 truths.1))
