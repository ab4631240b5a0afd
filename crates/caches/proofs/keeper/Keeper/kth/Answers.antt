use Rattle.std.proofs.Common.{◌≡◌, ◌+◌, ◌≤◌, get_or, Some, None, vec_items, vec_len, sym, ap, ◌∙◌, subst, arith}
use Rattle.std.specs.Borrow.{Bor}
use Rattle.std.specs.List.{slice_get}
use Rattle.std.specs.Option.{option_map}
use Rattle.caches.specs.declared.keeper_slots.Indexed.{Indexed}
use Rattle.caches.specs.declared.keeper_slots.Slot.{Slot}
use Rattle.caches.specs.Lines.{lines_with}
use Rattle.caches.specs.Slots.{slot_entry}
use Rattle.caches.proofs.Rows.{found, kth_is, line_below}
use Rattle.caches.proofs.keeper.Keeper.kth.Goals as goal
use Rattle.caches.proofs.keeper.Keeper.kth.Goals.{After-get}

-- the k-th line of the key, if there is one
here : (c : After-get) → slice_get (lines_with c.args.key (vec_items c.args.self.now.index)) c.args.k ≡ option_map (λ (x : Bor Indexed). x.now) c.get.result
here c = ap (slice_get _) (sym c.from.ensures) ∙ ap (λ l. slice_get l c.from.result) (sym c.lines.ensures) ∙ sym (found c.lines.result.now c.from.result c.get.result c.get.ensures.lookup)

pub returns-in_err-line-clause-entry : goal.returns-in_err-line-clause-entry
returns-in_err-line-clause-entry c =
    let s = c.args.self.now in
    let any : Slot = record { key = c.args.key; product = 0; from = 0; len = 0; few = omega arith } in
    let at = here ((goal.at.returns-in_err-line-clause-entry c).After-get) ∙ ap (option_map (λ (x : Bor Indexed). x.now)) c.in_err-line.was in
    ap (option_map _) c.from_residual.ensures ∙ sym (kth_is c.args.key (vec_items s.answers) (vec_items s.slots) any (vec_items s.index) c.args.k None (s.linked c.args.key) at)

pub index-requires : goal.index-requires
index-requires c =
    let s = c.args.self.now in
    let at = here ((goal.at.index-requires c).After-get) ∙ ap (option_map (λ (x : Bor Indexed). x.now)) c.in_ok-line.was in
    omega (arith, line_below c.args.key (vec_items s.index) (vec_items s.slots) c.args.k c.in_ok-line.line.now (s.linked c.args.key) at, c.from-2.ensures, s.slots.ok.0)

pub returns-clause-entry : goal.returns-clause-entry
returns-clause-entry c =
    let s = c.args.self.now in
    let slots = vec_items s.slots in
    let row = vec_items s.answers in
    let slot = c.index.result.now in
    let at = here ((goal.at.returns-clause-entry c).After-get) ∙ ap (option_map (λ (x : Bor Indexed). x.now)) c.in_ok-line.was in
    ap (λ x. Some (slot_entry row x)) (c.index.ensures ∙ ap (λ i. get_or slots i slot) c.from-2.ensures) ∙ sym (kth_is c.args.key row slots slot (vec_items s.index) c.args.k (Some c.in_ok-line.line.now) (s.linked c.args.key) at)

pub returns-clause-fits : goal.returns-clause-fits
returns-clause-fits c =
    let s = c.args.self.now in
    let at = here ((goal.at.returns-clause-fits c).After-get) ∙ ap (option_map (λ (x : Bor Indexed). x.now)) c.in_ok-line.was in
    let below = line_below c.args.key (vec_items s.index) (vec_items s.slots) c.args.k c.in_ok-line.line.now (s.linked c.args.key) at in
    subst (λ (x : Slot). x.from + x.len ≤ vec_len s.answers) (sym c.index.ensures) (s.fit c.from-2.result c.index.result.now (omega (arith, c.from-2.ensures)))
