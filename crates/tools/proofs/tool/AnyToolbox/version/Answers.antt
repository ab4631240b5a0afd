use Rattle.std.proofs.Common.{sym}
use Rattle.tools.proofs.Named.{version_known, version_unknown}
use Rattle.tools.proofs.tool.AnyToolbox.version.Goals as goal

pub returns-then-is_named : goal.returns-then-is_named
returns-then-is_named g c = sym (version_known g.T.Tool.own g.T.Tool.plan c.args.name.now (sym c.if-is_named.ensures))

pub returns-else-is_named : goal.returns-else-is_named
returns-else-is_named g c = sym (version_unknown g.T.Tool.own g.T.Tool.plan c.args.name.now (sym c.if-is_named.ensures))
