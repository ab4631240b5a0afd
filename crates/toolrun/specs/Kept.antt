-- The answers that a run in memory has, and what its calls answer. Assumes nothing.
use Rattle.std.specs.Prelude.{◌≡◌, ℕ, true, false, List, [], ◌∷◌, ◌++◌, codes, map, Some, None, Option as Perhaps, Ok, Err, Result, vec_items}
use Rattle.std.proofs.Math.Option.{Option}
use Rattle.values.specs.Values.{Value, nth}
use Rattle.values.specs.Memory.{values}
use Rattle.tools.specs.Tools.{Answer, fetch, product, failure}
use Rattle.tools.specs.Calls.{meant}
use Rattle.tools.specs.Lent.{says}
use Rattle.tools.specs.declared.replies.Reply.{Reply}
use Rattle.toolrun.specs.Runs.{Event, fetched, gives, fails, faults, unknown, has_room}
use Rattle.toolrun.specs.declared.faults.Fault.{Fault}
use Rattle.toolrun.specs.declared.faults.Fault.TheVariants.{BadPath, NoRoom, Unknown}
use Rattle.toolrun.specs.declared.scope.Scope.{Scope}
use Rattle.toolrun.specs.declared.store.ToolRun.{ToolRun}

-- the answers so far
abbrev pub answers : ToolRun → List Answer
answers r = map (meant (vec_items r.pool)) (vec_items r.told)

-- the value that a tool runs over
abbrev pub standing : Scope → Option Value
standing s = nth (values s.table.now) s.root

-- the number of a fault; a call of what is not there has none
abbrev pub fault_number : Fault → Perhaps ℕ
fault_number BadPath = Some 27
fault_number NoRoom = Some 28
fault_number Unknown = None

-- what is printed for a fault
abbrev pub sentence : Fault → List ℕ
sentence BadPath = codes "a path that is fetched has 1 to 8 names"
sentence NoRoom = codes "a run has at most 16 fetches, and answers of 4,096 bytes in all"
sentence Unknown = codes "no such command of a tool: it has over 1,024 bytes"

-- the answers before, one more, whether it is kept, the answers after
abbrev pub Keeps : List Answer → Answer → Result Unit Fault → List Answer → Type 0
Keeps given a (Ok _) after = (has_room given a ≡ true) × (after ≡ given ++ a ∷ [])
Keeps given a (Err f) after = (has_room given a ≡ false) × (f ≡ NoRoom) × (after ≡ given)

-- what a fetch is defined to be, the answers before, what is answered, the answers after
abbrev pub Fetches : Event → List Answer → Result Unit Fault → List Answer → Type 0
Fetches (fetched path a) given r after = (r ≡ Ok tt) × (after ≡ given ++ a ∷ [])
Fetches (faults n) given (Err f) after = (fault_number f ≡ Some n) × (after ≡ given)
Fetches e given r after = ⊥

-- what is defined to happen next, the answers before, what is told, the answers after
abbrev pub Goes : Event → List Answer → Result Reply Fault → List Answer → Type 0
Goes (fetched path a) given (Ok r) after = (says r ≡ fetch path) × (after ≡ given ++ a ∷ [])
Goes (gives s) given (Ok r) after = (says r ≡ product s) × (after ≡ given)
Goes (fails code) given (Ok r) after = (says r ≡ failure code) × (after ≡ given)
Goes (faults n) given (Err f) after = (fault_number f ≡ Some n) × (after ≡ given)
Goes unknown given (Err f) after = (f ≡ Unknown) × (after ≡ given)
Goes e given r after = ⊥
