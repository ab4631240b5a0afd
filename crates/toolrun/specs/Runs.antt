-- A tool's run over a value: what its plan asks for is fetched and answered, until there is a product or a failure. Assumes nothing.
use Rattle.std.specs.Prelude.{ℕ, ◌+◌, Bool, cond, ◌&&◌, List, [], ◌∷◌, length, nat_le, nat_lt}
use Rattle.std.proofs.Math.Option.{Option, none, some}
use Rattle.values.specs.Values.{Name, Value, text, truth, binding, look}
use Rattle.trees.specs.Files.{split, all_fit}
use Rattle.tools.specs.Tools.{Answer, Reply, fetch, product, failure, Tools, asked}

-- what happens next: a path is fetched and answered, or the run ends in a product, a failure, or a fault by its number; or there is no
-- such tool or command
pub data Event : Type 0 where
  fetched : List ℕ → Answer → Event
  gives : List ℕ → Event
  fails : ℕ → Event
  faults : ℕ → Event
  unknown : Event

-- what is told of what may stand at a path: only a text is told
abbrev pub told : Option Value → Answer
told none = none
told (some (text s)) = some s
told (some (truth b)) = none
told (some (binding ms)) = none

-- a path that may be fetched has 1 to 8 names
abbrev pub fetchable : List ℕ → Bool
fetchable path = all_fit (split 47 path) && nat_le (length (split 47 path)) 8

-- how many bytes answers have
abbrev pub size : Answer → ℕ
size none = 0
size (some s) = length s

abbrev pub sizes : List Answer → ℕ
sizes [] = 0
sizes (a ∷ more) = size a + sizes more

-- one answer more: at most 16, of 4,096 bytes in all
abbrev pub has_room : List Answer → Answer → Bool
has_room given a = nat_lt (length given) 16 && nat_le (sizes given + size a) 4096

-- a fetch: a path that is none is fault 27, an answer without room 28
abbrev pub fetching : Value → List Answer → List ℕ → Event
fetching v given path =
    cond (fetchable path) (cond (has_room given (told (look v (split 47 path)))) (fetched path (told (look v (split 47 path)))) (faults 28)) (faults 27)

abbrev pub event_of : Value → List Answer → Option Reply → Event
event_of v given none = unknown
event_of v given (some (fetch path)) = fetching v given path
event_of v given (some (product s)) = gives s
event_of v given (some (failure code)) = fails code

-- the next event of a tool's run, by its command, the value that it fetches from, and the answers so far
abbrev pub event : Tools → Name → List ℕ → Value → List Answer → Event
event T name command v given = event_of v given (asked T name command given)
