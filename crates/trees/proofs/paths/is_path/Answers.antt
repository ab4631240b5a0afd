use Rattle.std.proofs.Common.{◌≡◌, true, false, eqb, ap, ◌∙◌, rules}
use borrow.Author.Tests.{tests}
use Rattle.std.proofs.lemmas.Iterator.{cases_from_all}
use Rattle.std.proofs.lemmas.Iterator.Splits.{YieldsList-from_slice_split}
use Rattle.values.specs.Limits.{fit}
use Rattle.trees.specs.Files.{all_fit}
use Rattle.trees.proofs.Names.{split_is, fit_is}
use Rattle.trees.proofs.paths.is_path.Goals as goal

pub returns : goal.returns
returns c =
    fit_is c.all.result _ (cases_from_all _ _ c.all.result (λ n. fit n ≡ true) (λ n. fit n ≡ false) c.all.ensures.ran
    (YieldsList-from_slice_split _ (λ b. eqb b 47) c.args.path.now c.split.ensures.rest c.split.ensures.done c.split.ensures.closure (λ x b q k. search rules)) (λ x q k. search (rules, tests)) (λ x q k. search (rules, tests)))
    ∙ ap all_fit (split_is 47 c.args.path.now)
