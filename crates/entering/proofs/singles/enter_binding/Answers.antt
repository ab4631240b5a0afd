use Rattle.std.proofs.Common.{rules}
use Rattle.values.specs.Memory.{values}
use Rattle.entering.proofs.Standing.{entering, told}
use Rattle.entering.proofs.singles.enter_binding.Goals as goal

pub returns : goal.returns
returns c = λ ms s.
    let T = values c.args.table.now in
    let T' = values c.enter_binding.new.self in
    told T ms c.enter_binding.result c.map_err.result T' (search rules) (entering T c.args.members.now c.requires.0 ms c.requires.1 s c.enter_binding.result T' c.enter_binding.ensures)
