-- What a toolbox of one tool answers, by whether the name is that tool's. Assumes nothing.
use Rattle.std.proofs.Common.{◌≡◌, ◌<◌, ◌≤◌, Bool, true, false, cond, leb, List, length, Some, None, refl, ap, ◌∙◌}
use mathlib.Core.Option.{Option, none, some}
use Rattle.std.proofs.lemmas.Bool.{le-leb, lt-leb}
use Rattle.values.specs.Values.{Name, same_name, mapped}
use Rattle.trees.specs.Contents.{answer}
use Rattle.tools.specs.Tools.{Answer, Reply, Plan, Tool}
use Rattle.tools.specs.Plans.{only}
use Rattle.tools.specs.Calls.{version_of, called}
use Rattle.tools.specs.declared.toolbox.Call.{Call}

-- the tool, if the name is its own
abbrev if_named : Plan → Bool → Option Tool
if_named plan b = cond b (some (record { version = 1; plan = plan })) none

pub version_known : (own : Name) (plan : Plan) (name : Name) → same_name name own ≡ true → version_of (only own plan) name ≡ Some 1
version_known own plan name e = ap (λ b. answer (mapped (λ t. t.version) (if_named plan b))) e

pub version_unknown : (own : Name) (plan : Plan) (name : Name) → same_name name own ≡ false → version_of (only own plan) name ≡ None
version_unknown own plan name e = ap (λ b. answer (mapped (λ t. t.version) (if_named plan b))) e

pub called_known : (own : Name) (plan : Plan) (c : Call) (given : List Answer) → same_name c.name.now own ≡ true → length c.command.now ≤ 1024 → called (only own plan) c given ≡ some (plan c.command.now given)
called_known own plan c given e l = (λ j. cond (le-leb (length c.command.now) 1024 l j) (mapped (λ t. t.plan c.command.now given) (if_named plan (e j))) none)

pub called_unknown : (own : Name) (plan : Plan) (c : Call) (given : List Answer) → same_name c.name.now own ≡ false → called (only own plan) c given ≡ none
called_unknown own plan c given e = ap (λ b. cond (leb (length c.command.now) 1024) (mapped (λ t. t.plan c.command.now given) (if_named plan b)) none) e ∙ nothing (leb (length c.command.now) 1024)
  where
    nothing : (b : Bool) → cond {A = Option Reply} b none none ≡ none
    nothing true = refl
    nothing false = refl

pub called_long : (own : Name) (plan : Plan) (c : Call) (given : List Answer) → 1024 < length c.command.now → called (only own plan) c given ≡ none
called_long own plan c given l = ap (λ b. cond b (mapped (λ t. t.plan c.command.now given) (only own plan c.name.now)) none) (lt-leb (length c.command.now) 1024 l)
