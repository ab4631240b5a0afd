use Rattle.std.proofs.Common.{◌≡◌, ℕ, not, ◌&&◌, eqb, List, [], ◌∷◌, refl, ap, ◌∙◌, rules}
use borrow.Author.Tests.{tests}
use Rattle.std.specs.List.{list_all}
use Rattle.std.proofs.lemmas.Iterator.{YieldsList-from_slice}
use Rattle.std.proofs.lemmas.Iterator.Search.{all_from_yields_List}
use Rattle.trees.specs.Cuts.{free}
use Rattle.entering.proofs.leaves.is_plain.Goals as goal

all_are : (s : List ℕ) → list_all (λ b. not (eqb b 92)) s ≡ free 92 s
all_are [] = refl
all_are (b ∷ s) = ap (λ r. not (eqb b 92) && r) (all_are s)

pub returns : goal.returns
returns c = all_from_yields_List (λ b. not (eqb b 92)) _ _ c.all.result c.all.ensures.ran (YieldsList-from_slice c.args.content.now cc) (λ x b q k. search (rules, tests)) ∙ all_are c.args.content.now
