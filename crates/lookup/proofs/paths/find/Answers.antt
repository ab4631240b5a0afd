use Rattle.std.proofs.Common.{eqb, subst, arith, rules}
use Rattle.std.proofs.lemmas.Iterator.Splits.{YieldsList-from_slice_split}
use Rattle.std.proofs.lemmas.List.Splits.{length-slice_split}
use Rattle.values.specs.Values.{nth}
use Rattle.values.specs.Table.{Numbered}
use Rattle.values.specs.Memory.{values}
use Rattle.trees.proofs.Names.{split_is}
use Rattle.lookup.specs.Finds.{looked}
use Rattle.lookup.proofs.Following.{found}
use Rattle.lookup.proofs.paths.find.Goals as goal

pub returns : goal.returns
returns c =
    let T = values c.args.table.now in
    let bytes = c.args.path.now in
    subst (λ p. Numbered T (looked (nth T c.args.root) p) c.try_fold.result) (split_is 47 bytes)
    (found T _ c.args.root c.try_fold.result c.try_fold.ensures.ran
    (YieldsList-from_slice_split _ (λ b. eqb b 47) bytes c.split.ensures.rest c.split.ensures.done c.split.ensures.closure (λ x b q k. search rules)) (omega (arith, length-slice_split (λ b. eqb b 47) bytes))
    (λ at x v h k. search rules))
