use Rattle.std.proofs.Common.{◌≡◌, ◌+◌, suc, [], ◌∷◌, ◌++◌, eqb, length, drop, Some, sym, ap, ◌∙◌, length-append, arith, rules}
use Rattle.std.proofs.lemmas.Iterator.{YieldsList-from_zip}
use Rattle.std.proofs.lemmas.Iterator.Consumers.{YieldsList-from_enumerate, YieldsList-at}
use Rattle.std.proofs.lemmas.Iterator.Splits.{YieldsList-from_slice_split}
use Rattle.values.proofs.Orders.{compared}
use Rattle.trees.specs.Files.{split}
use Rattle.trees.specs.Contents.{answer}
use Rattle.trees.specs.Paths.{shared}
use Rattle.trees.proofs.Names.{parted, turn, past}
use Rattle.trees.proofs.Order.{ahead, ahead_none, ahead_more, shared_less, shared_greater, shared_equal}
use Rattle.trees.proofs.paths.shared_names.Goals as goal

pub loop-count-init : goal.loop-count-init
loop-count-init c = (
  parted c.args.before.now c.args.path.now (YieldsList-at c.into_iter-count-iterator.ensures.into_iter_gives
      (YieldsList-from_enumerate (YieldsList-at c.enumerate-count-items.ensures.source (YieldsList-from_zip
      (YieldsList-at c.zip.ensures.first (YieldsList-from_slice_split _ (λ b. eqb b 47) c.args.before.now c.split-old_names.ensures.rest c.split-old_names.ensures.done c.split-old_names.ensures.closure (λ x b q k. search rules)))
      (YieldsList-at c.zip.ensures.second (YieldsList-from_slice_split _ (λ b. eqb b 47) c.args.path.now c.split-new_names.ensures.rest c.split-new_names.ensures.done c.split-new_names.ensures.closure (λ x b q k. search rules)))))
      c.enumerate-count-items.ensures.count)),
  ahead_none (shared (split 47 c.args.before.now) (split 47 c.args.path.now)),
)

pub returns-in-Less : goal.returns-in-Less
returns-in-Less c =
    let n = length c.loop-count.yielded in
    let old = split 47 c.args.before.now in
    let new = split 47 c.args.path.now in
    let t = turn c.next.new.self old new c.loop-count.yielded c.next.result c.loop-count.invariant.0 c.loop-count.yielded_by _ c.in-Some.is c.next.ensures.steps in
    let less = compared c.in-Some.old.now c.in-Some.new.now _ c.in-Less.ensures in
    let same : c.in-Some.count ≡ n + 0 = omega (arith, t.0) in
    ap Some same ∙ ap answer (ap (ahead n) (sym (t.1 ∙ shared_less c.in-Some.old.now c.in-Some.new.now (drop (suc n) old) (drop (suc n) new) less)) ∙ c.loop-count.invariant.1)

pub loop-count-preserved : goal.loop-count-preserved
loop-count-preserved c =
    let xs = c.loop-count.yielded in
    let n = length xs in
    let old = split 47 c.args.before.now in
    let new = split 47 c.args.path.now in
    let on = shared (drop (suc n) old) (drop (suc n) new) in
    let t = turn c.next.new.self old new xs c.next.result c.loop-count.invariant.0 c.loop-count.yielded_by _ c.in-Some.is c.next.ensures.steps in
    let equal = compared c.in-Some.old.now c.in-Some.new.now _ c.in-Equal.ensures in
    let longer : length (xs ++ (c.in-Some.count, (c.in-Some.old, c.in-Some.new)) ∷ []) ≡ suc n = length-append xs _ ∙ omega arith in
    let suc_is : suc n ≡ n + 1 = omega arith in (
      c.loop-count.invariant.0,
      ap (λ k. ahead k (shared (drop k old) (drop k new))) longer ∙ ap (λ k. ahead k on) suc_is ∙ sym (ahead_more n on)
          ∙ ap (ahead n) (sym (t.1 ∙ shared_equal c.in-Some.old.now c.in-Some.new.now (drop (suc n) old) (drop (suc n) new) equal)) ∙ c.loop-count.invariant.1,
    )

pub returns-in-Greater : goal.returns-in-Greater
returns-in-Greater c =
    let n = length c.loop-count.yielded in
    let old = split 47 c.args.before.now in
    let new = split 47 c.args.path.now in
    let t = turn c.next.new.self old new c.loop-count.yielded c.next.result c.loop-count.invariant.0 c.loop-count.yielded_by _ c.in-Some.is c.next.ensures.steps in
    let greater = compared c.in-Some.old.now c.in-Some.new.now _ c.in-Greater.ensures in
    ap answer (ap (ahead n) (sym (t.1 ∙ shared_greater c.in-Some.old.now c.in-Some.new.now (drop (suc n) old) (drop (suc n) new) greater)) ∙ c.loop-count.invariant.1)

pub returns : goal.returns
returns c =
    let over = past c.next.new.self (split 47 c.args.before.now) (split 47 c.args.path.now) c.loop-count.yielded c.next.result c.loop-count.invariant.0 c.loop-count.yielded_by c.in-None.is c.next.ensures.steps in
    ap answer (ap (ahead (length c.loop-count.yielded)) (sym over) ∙ c.loop-count.invariant.1)
