use Rattle.std.proofs.Common.{◌≡◌, ◌≤◌, Err, length, sym, ap, ◌∙◌, subst, arith, rules}
use Rattle.values.specs.Memory.{values}
use Rattle.trees.proofs.Accepting.{tree_is, tree_listed, accepted_short}
use Rattle.entering.specs.Entries.{parts, enter_all}
use Rattle.checker.specs.Shows.{Shows}
use Rattle.checker.specs.declared.answers.Unshown.TheVariants.{Full}
use Rattle.checker.proofs.Showing.{is_listed, not_listed, front_is, taken_back}
use Rattle.checker.proofs.desk.Checker.show.Goals as goal

pub returns-in_err-number-clause-shown : goal.returns-in_err-number-clause-shown
returns-in_err-number-clause-shown c =
    let T = values c.args.self.now.table in
    let told : c.from_residual-in_err-number.result ≡ Err Full = search rules in
    subst (λ r. Shows c.args.bytes.now T r c.args.self.now.buffer.items) (sym told) (c.in_ok-check.ensures.judged, ap (λ v. enter_all (parts v) T) (sym (tree_is _)) ∙ c.in_err-number.ensures.0)

pub unreachable-requires : goal.unreachable-requires
unreachable-requires c =
    let bs = c.args.bytes.now in
    let short = accepted_short bs c.in_ok-check.ensures.judged in
    let room : length bs ≤ length c.deref_mut.result.now = omega (arith, c.args.self.now.long, c.deref_mut.ensures.len) in
    not_listed _ bs _ _ _ _ c.in_ok-number.ensures.1 (tree_listed _) room c.in-Err.ensures.written

pub returns-clause-shown : goal.returns-clause-shown
returns-clause-shown c =
    let bs = c.args.bytes.now in
    let short = accepted_short bs c.in_ok-check.ensures.judged in
    let room : length bs ≤ length c.deref_mut.result.now = omega (arith, c.args.self.now.long, c.deref_mut.ensures.len) in
    let l = is_listed _ bs _ _ _ _ c.in_ok-number.ensures.1 (tree_listed _) room c.in-Ok.ensures.written in
    let told = l.0 in
    let many : c.in-Ok.end ≡ length bs = cc in
    let front = front_is bs c.list-listed.new.buffer _ c.in-Ok.end c.args.self.now.buffer.len many (omega (arith, c.args.self.now.long)) l.1 in
    (c.in_ok-check.ensures.judged, front ∙ sym c.in_ok-check.ensures.listed, front, many)

pub returns-clause-kept : goal.returns-clause-kept
returns-clause-kept c = taken_back c.args.self.now.table _ _ _ c.len-len.result c.in_ok-number.ensures.0 c.len-len.ensures c.truncate.ensures
