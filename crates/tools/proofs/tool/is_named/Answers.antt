use Rattle.std.proofs.Common.{ap, ◌∙◌}
use Rattle.std.proofs.lemmas.Slice.Eq.{slice_eq-Decides}
use Rattle.std.proofs.lemmas.Bool.Decides.{Decides-eqb}
use Rattle.values.specs.Values.{same_name}
use Rattle.values.proofs.Sameness.{decided}
use Rattle.tools.proofs.tool.is_named.Goals as goal

pub returns : goal.returns
returns g c = decided c.eq.result c.args.name.now c.name.result.now (slice_eq-Decides Decides-eqb _ _ _ c.eq.ensures) ∙ ap (same_name c.args.name.now) c.name.ensures
