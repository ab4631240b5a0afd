use Rattle.std.proofs.Common.{◌≡◌, ◌-◌, Ok, Err, length, subst, sym, ap, ◌∙◌, rules}
use Rattle.trees.specs.Files.{read_tree, refused}
use Rattle.trees.specs.Following.{Reads}
use Rattle.trees.specs.Numbers.{number}
use Rattle.trees.specs.Accepted.{Judges}
use Rattle.trees.proofs.Checking.{goes_on, stops, ends, unended}
use Rattle.trees.proofs.Taking.{lines_ascend}
use Rattle.trees.proofs.Accepting.{accepts, lines_agree}
use Rattle.trees.proofs.checks.check.Goals as goal

pub returns-then-is_empty : goal.returns-then-is_empty
returns-then-is_empty c =
    let none : length c.cut-lines.result.first.now ≡ 0 = search rules in
    let a = accepts c.args.bytes.now _ (ends c.args.bytes.now c.loop-rest.left.now c.loop-rest.progress c.cut-lines.result c.loop-rest.invariant c.cut-lines.ensures c.in_default.is none) in
    record { judged = a.judged; listed = a.listed; proper = a.proper; ascend = lines_ascend; agree = lines_agree }

pub returns-in_default-clause-judged : goal.returns-in_default-clause-judged
returns-in_default-clause-judged c =
    let some_there : (length c.cut-lines.result.first.now ≡ 0 → ⊥) = λ z. search rules in
    unended c.args.bytes.now c.loop-rest.left.now c.loop-rest.progress c.cut-lines.result c.loop-rest.invariant c.cut-lines.ensures c.in_default.is some_there

pub returns-in_err-map_err-clause-judged : goal.returns-in_err-map_err-clause-judged
returns-in_err-map_err-clause-judged c =
    let g = c.loop-rest.invariant in
    let e = c.in_err-map_err.field-0.0 in
    let told : c.from_residual.result ≡ Err e = search rules in
    let at : e.place ≡ length c.args.bytes.now - length c.loop-rest.left.now = search rules in
    let why : c.read.result ≡ Err e.refusal = search rules in
    let read = subst (λ r. Reads c.cut-lines.result.first.now g.so_far r c.read.new.self) why (c.read.ensures g.so_far g.follows) in
    subst (Judges (read_tree c.args.bytes.now)) (sym told) (stops c.args.bytes.now c.loop-rest.left.now c.loop-rest.progress c.cut-lines.result c.in-Some.rest _ g c.cut-lines.ensures c.in-Some.is read ∙ ap (refused (number e.refusal)) (sym at))

pub loop-rest-preserved : goal.loop-rest-preserved
loop-rest-preserved c =
    let g = c.loop-rest.invariant in
    let went : c.read.result ≡ Ok c.in_ok-map_err.field-0 = search rules in
    let read = subst (λ r. Reads c.cut-lines.result.first.now g.so_far r c.read.new.self) went (c.read.ensures g.so_far g.follows) in
    goes_on c.args.bytes.now c.loop-rest.left.now c.loop-rest.progress c.read.new.self c.cut-lines.result c.in-Some.rest g c.cut-lines.ensures c.in-Some.is read
