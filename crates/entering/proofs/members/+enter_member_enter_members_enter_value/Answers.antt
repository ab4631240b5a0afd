use Rattle.std.proofs.Common.{length, sym, refl, ap, subst, arith, rules}
use Rattle.std.proofs.lemmas.Result.{err_from_is_err_and}
use Rattle.values.specs.Memory.{values}
use Rattle.trees.proofs.Splits.{no}
use Rattle.entering.specs.Steps.{ValueEntered}
use Rattle.entering.proofs.Levelling.{behind_prefix, cut_out, inside, at_slash, at_tab}
use Rattle.entering.proofs.Turning.{Turn, next, done, ready, bound, unbound, no_name, no_value, named_value}
use Rattle.entering.proofs.members.+enter_member_enter_members_enter_value.Goals as goal

-- one member: the name is cut out, whatever member it is
pub enter_member-slice_bounds-name_len-count : goal.enter_member-slice_bounds-name_len-count
enter_member-slice_bounds-name_len-count t c = let k = behind_prefix c.args.prefix.now c.args.bytes.now c.args.levels c.requires.0 c.requires.1 c.requires.2 c.requires.3 in omega arith

pub enter_member-slice_bounds-name_len-start : goal.enter_member-slice_bounds-name_len-start
enter_member-slice_bounds-name_len-start t c = let k = behind_prefix c.args.prefix.now c.args.bytes.now c.args.levels c.requires.0 c.requires.1 c.requires.2 c.requires.3 in search rules

pub enter_member-overflow_add-end : goal.enter_member-overflow_add-end
enter_member-overflow_add-end t c =
    let k = (cut_out c.args.prefix.now c.args.bytes.now c.args.levels c.requires.0 c.requires.1 c.requires.2 c.name_len.result c.requires.3 c.name_len.ensures).within in
    search rules

pub enter_member-slice_bounds-enter_text-end : goal.enter_member-slice_bounds-enter_text-end
enter_member-slice_bounds-enter_text-end t c =
    let k = (cut_out c.args.prefix.now c.args.bytes.now c.args.levels c.requires.0 c.requires.1 c.requires.2 c.name_len.result c.requires.3 c.name_len.ensures).within in
    search rules

pub enter_member-enter_text-requires : goal.enter_member-enter_text-requires
enter_member-enter_text-requires t c =
    let k = cut_out c.args.prefix.now c.args.bytes.now c.args.levels c.requires.0 c.requires.1 c.requires.2 c.name_len.result c.requires.3 c.name_len.ensures in
    omega (arith, ap length k.name, k.short)

pub enter_member-returns-in_err-name : goal.enter_member-returns-in_err-name
enter_member-returns-in_err-name t c = λ n v after s.
    let k = cut_out c.args.prefix.now c.args.bytes.now c.args.levels n v after c.name_len.result s c.name_len.ensures in
    let p = err_from_is_err_and c.from_residual.result c.from_residual.ensures.1 in
    rw p.1 (no_name _ n v (values c.args.table.now) (values c.enter_text.new.table) k.name c.in_err-name.ensures)

pub enter_member-slice_bounds-enter_value-end : goal.enter_member-slice_bounds-enter_value-end
enter_member-slice_bounds-enter_value-end t c =
    let k = (cut_out c.args.prefix.now c.args.bytes.now c.args.levels c.requires.0 c.requires.1 c.requires.2 c.name_len.result c.requires.3 c.name_len.ensures).within in
    search rules

pub enter_member-enter_value-requires : goal.enter_member-enter_value-requires
enter_member-enter_value-requires t c =
    let k = cut_out c.args.prefix.now c.args.bytes.now c.args.levels c.requires.0 c.requires.1 c.requires.2 c.name_len.result c.requires.3 c.name_len.ensures in
    (omega (arith, c.decreases), (c.requires.1, c.requires.2, k.placed))

pub enter_member-returns-in_err-value : goal.enter_member-returns-in_err-value
enter_member-returns-in_err-value t c = λ n v after s.
    let k = cut_out c.args.prefix.now c.args.bytes.now c.args.levels n v after c.name_len.result s c.name_len.ensures in
    let p = err_from_is_err_and c.from_residual-in_err-value.result c.from_residual-in_err-value.ensures.1 in
    rw p.1 (no_value _ n v (values c.args.table.now) (values c.enter_text.new.table) (values c.enter_value.new.table) k.name c.in_ok-name.ensures.0 (c.in_err-value.ensures v after k.placed))

pub enter_member-returns : goal.enter_member-returns
enter_member-returns t c = λ n v after s.
    let k = cut_out c.args.prefix.now c.args.bytes.now c.args.levels n v after c.name_len.result s c.name_len.ensures in
    let e = c.in_ok-value.ensures v after k.placed in
    let h = named_value _ n v (values c.args.table.now) (values c.enter_text.new.table) (values c.enter_value.new.table) c.in_ok-name.name k.name c.in_ok-name.ensures e.0 in
    (h.0, h.1, e.1, e.2)

-- all members: one turn after the other
pub enter_members-enter_member-requires : goal.enter_members-enter_member-requires
enter_members-enter_member-requires t c =
    let h = c.requires.2 in
    let k = next (values c.args.table.now) c.args.prefix.now c.loop-table.left.now c.args.levels (values c.loop-table.table) c.loop-table.members.items c.requires.0 c.requires.1 h.shallow h.ends (c.loop-table-test.ensures.0 refl) (c.loop-table.invariant c.requires.0 c.requires.1 h) in
    (omega (arith, c.decreases), (k.name, k.value, k.rest, k.single))

pub enter_members-returns-in_err-member : goal.enter_members-returns-in_err-member
enter_members-returns-in_err-member t c = λ ms after h.
    let k = next (values c.args.table.now) c.args.prefix.now c.loop-table.left.now c.args.levels (values c.loop-table.table) c.loop-table.members.items ms after h.shallow h.ends (c.loop-table-test.ensures.0 refl) (c.loop-table.invariant ms after h) in
    let p = err_from_is_err_and c.from_residual.result c.from_residual.ensures.1 in
    rw p.1 (k.full c.in_err-member.field-0.0 (values c.enter_member.new.table) (c.in_err-member.ensures k.name k.value k.rest k.single))

pub enter_members-push-requires : goal.enter_members-push-requires
enter_members-push-requires t c =
    let h = c.requires.2 in
    let k = next (values c.args.table.now) c.args.prefix.now c.loop-table.left.now c.args.levels (values c.loop-table.table) c.loop-table.members.items c.requires.0 c.requires.1 h.shallow h.ends (c.loop-table-test.ensures.0 refl) (c.loop-table.invariant c.requires.0 c.requires.1 h) in
    (omega arith, omega (arith, k.room, h.few))

pub enter_members-loop-table-smaller : goal.enter_members-loop-table-smaller
enter_members-loop-table-smaller t c =
    let h = c.requires.2 in
    let k = next (values c.args.table.now) c.args.prefix.now c.loop-table.left.now c.args.levels (values c.loop-table.table) c.loop-table.members.items c.requires.0 c.requires.1 h.shallow h.ends (c.loop-table-test.ensures.0 refl) (c.loop-table.invariant c.requires.0 c.requires.1 h) in
    let e = (c.in_ok-member.ensures k.name k.value k.rest k.single).3 in
    omega (arith, ap length e, k.shorter)

pub enter_members-loop-table-preserved : goal.enter_members-loop-table-preserved
enter_members-loop-table-preserved t c = λ ms after h.
    let k = next (values c.args.table.now) c.args.prefix.now c.loop-table.left.now c.args.levels (values c.loop-table.table) c.loop-table.members.items ms after h.shallow h.ends (c.loop-table-test.ensures.0 refl) (c.loop-table.invariant ms after h) in
    subst (λ l. Turn (values c.args.table.now) c.args.prefix.now c.in_ok-member.rest.now c.args.levels (values c.enter_member.new.table) l ms after)
    (sym c.push.ensures.items)
    (k.more (c.in_ok-member.member, c.in_ok-member.rest) (values c.enter_member.new.table) (c.in_ok-member.ensures k.name k.value k.rest k.single))

pub enter_members-enter_binding-requires : goal.enter_members-enter_binding-requires
enter_members-enter_binding-requires t c =
    let T = values c.args.table.now in
    let U = values c.loop-table.table in
    let left = c.loop-table.left.now in
    let l = c.deref.result.now in
    let turn = subst (λ l. Turn T c.args.prefix.now left c.args.levels U l c.requires.0 c.requires.1) (sym c.deref.ensures.0) (c.loop-table.invariant c.requires.0 c.requires.1 c.requires.2) in
    let d = done T c.args.prefix.now left c.args.levels U l c.requires.0 c.requires.1 (λ g. no (sym (c.loop-table-test.ensures.1 g))) turn in
    (c.requires.0, ready c.args.prefix.now c.args.bytes.now left c.args.levels T U l c.requires.0 c.requires.1 c.requires.2 d)

pub enter_members-returns-in_err-number : goal.enter_members-returns-in_err-number
enter_members-returns-in_err-number t c = λ ms after h.
    let T = values c.args.table.now in
    let U = values c.loop-table.table in
    let left = c.loop-table.left.now in
    let l = c.deref.result.now in
    let turn = subst (λ l. Turn T c.args.prefix.now left c.args.levels U l ms after) (sym c.deref.ensures.0) (c.loop-table.invariant ms after h) in
    let d = done T c.args.prefix.now left c.args.levels U l ms after (λ g. no (sym (c.loop-table-test.ensures.1 g))) turn in
    let p = err_from_is_err_and c.from_residual-in_err-number.result c.from_residual-in_err-number.ensures.1 in
    rw p.1 (unbound T U (values c.enter_binding.new.table) left l ms after c.in_err-number.field-0.0 d c.in_err-number.ensures)

pub enter_members-returns : goal.enter_members-returns
enter_members-returns t c = λ ms after h.
    let T = values c.args.table.now in
    let U = values c.loop-table.table in
    let left = c.loop-table.left.now in
    let l = c.deref.result.now in
    let turn = subst (λ l. Turn T c.args.prefix.now left c.args.levels U l ms after) (sym c.deref.ensures.0) (c.loop-table.invariant ms after h) in
    let d = done T c.args.prefix.now left c.args.levels U l ms after (λ g. no (sym (c.loop-table-test.ensures.1 g))) turn in
    bound T U (values c.enter_binding.new.table) left l ms after c.in_ok-number.number d c.in_ok-number.ensures

-- a value: a slash or a tab stands behind its path
pub enter_value-bounds-bytes-end : goal.enter_value-bounds-bytes-end
enter_value-bounds-bytes-end t c = inside c.args.path.now c.args.bytes.now c.args.levels c.requires.0 c.requires.1 c.requires.2

pub enter_value-enter_members-requires : goal.enter_value-enter_members-requires
enter_value-enter_members-requires t c =
    let d = at_slash c.args.path.now c.args.bytes.now c.args.levels c.requires.0 c.requires.1 c.requires.2 c.if-bytes-end-eq47.true in
    (omega (arith, c.decreases, c.requires.2.low), (d.below, c.requires.1, d.level))

pub enter_value-returns-then-bytes-end-eq47 : goal.enter_value-returns-then-bytes-end-eq47
enter_value-returns-then-bytes-end-eq47 t c = λ v after s.
    let d = at_slash c.args.path.now c.args.bytes.now c.args.levels v after s c.if-bytes-end-eq47.true in
    subst (λ w. ValueEntered w after (values c.args.table.now) c.enter_members.result (values c.enter_members.new.table)) (sym d.is) (c.enter_members.ensures d.below after d.level)

pub enter_value-slice_bounds-enter_line-count : goal.enter_value-slice_bounds-enter_line-count
enter_value-slice_bounds-enter_line-count t c = let k = inside c.args.path.now c.args.bytes.now c.args.levels c.requires.0 c.requires.1 c.requires.2 in omega arith

pub enter_value-slice_bounds-enter_line-start : goal.enter_value-slice_bounds-enter_line-start
enter_value-slice_bounds-enter_line-start t c = let k = inside c.args.path.now c.args.bytes.now c.args.levels c.requires.0 c.requires.1 c.requires.2 in search rules

pub enter_value-enter_line-requires : goal.enter_value-enter_line-requires
enter_value-enter_line-requires t c =
    let d = at_tab c.args.path.now c.args.bytes.now c.args.levels c.requires.0 c.requires.1 c.requires.2 c.if-bytes-end-eq47.false in
    (d.end, c.requires.1, d.line, d.is_small)

pub enter_value-returns : goal.enter_value-returns
enter_value-returns t c = λ v after s.
    let d = at_tab c.args.path.now c.args.bytes.now c.args.levels v after s c.if-bytes-end-eq47.false in
    subst (λ w. ValueEntered w after (values c.args.table.now) c.enter_line.result (values c.enter_line.new.table)) (sym d.is) (c.enter_line.ensures d.end after d.line)
