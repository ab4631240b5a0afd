use Rattle.std.proofs.Common.{◌≡◌, length, eqb, ap, ◌∙◌, arith, rules}
use Rattle.std.proofs.lemmas.Iterator.Consumers.{count_from_yields_List}
use Rattle.std.proofs.lemmas.Iterator.Splits.{YieldsList-from_slice_split}
use Rattle.trees.specs.Files.{split}
use Rattle.trees.proofs.Names.{split_is}
use Rattle.trees.proofs.paths.count_names.Goals as goal

pub returns : goal.returns
returns c =
    let names : c.count.result ≡ length (split 47 c.args.path.now)
    = count_from_yields_List _ c.count.result c.count.ensures.ran (YieldsList-from_slice_split _ (λ b. eqb b 47) c.args.path.now c.split.ensures.rest c.split.ensures.done c.split.ensures.closure (λ x b q k. search rules))
    ∙ ap length (split_is 47 c.args.path.now) in
    omega (arith, names)
