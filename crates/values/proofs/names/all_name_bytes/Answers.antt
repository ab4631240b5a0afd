use Rattle.std.proofs.Common.{◌≡◌, ◌&&◌, List, [], ◌∷◌, refl, ap, ◌∙◌, rules}
use borrow.Author.Tests.{tests}
use Rattle.std.specs.List.{list_all}
use Rattle.std.proofs.lemmas.Iterator.{YieldsList-from_slice}
use Rattle.std.proofs.lemmas.Iterator.Search.{all_from_yields_List}
use Rattle.values.specs.Limits.{name_byte, name_bytes}
use Rattle.values.proofs.names.all_name_bytes.Goals as goal

all_are : (s : List _) → list_all name_byte s ≡ name_bytes s
all_are [] = refl
all_are (b ∷ s) = ap (λ r. name_byte b && r) (all_are s)

pub returns : goal.returns
returns c = all_from_yields_List name_byte _ _ c.all.result c.all.ensures.ran (YieldsList-from_slice c.args.bytes.now cc) (λ x b q k. search (rules, tests)) ∙ all_are c.args.bytes.now
