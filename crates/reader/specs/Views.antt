-- What a reading means, and what its calls give. Assumes nothing.
use Rattle.std.specs.Prelude.{◌≡◌, Bool, true, false, Some, None, Ok, Err, Option as Answer, Result}
use Rattle.std.proofs.Math.Option.{Option, none, some}
use Rattle.grammar.specs.Readers.{Stand, Outcome, ok, no, Reader}
use Rattle.grammar.specs.Grammar as grammar
use Rattle.scanner.specs.Views.{ahead}
use Rattle.reader.specs.Refusals.{rule_number}
use Rattle.reader.specs.declared.refusals.Refusal.{Refusal}
use Rattle.reader.specs.declared.starts.Start.{Start}
use Rattle.reader.specs.declared.starts.Start.TheVariants as start
use Rattle.reader.specs.declared.starts.Way.{Way}
use Rattle.reader.specs.declared.starts.Way.TheVariants as way
use Rattle.reader.specs.declared.reading.Reading.{Reading}

-- where a reading stands
abbrev pub stand : Reading → Stand
stand s = record { index = s.index; size = s.size; rest = ahead s.scanner }

-- a refusal as the definitions tell it
abbrev pub refused : {A : Type 0} → Refusal → Outcome A
refused e = no (rule_number e.rule) e.place

-- a call reads what the definition reads, by what its answer says, and stands behind it; or it refuses as the definition does
abbrev pub Gives : {A B : Type 0} → (A → B) → Reader B → Reading → Result A Refusal → Reading → Type 0
Gives f r s (Ok a) s' = r (stand s) ≡ ok (f a) (stand s')
Gives f r s (Err e) s' = r (stand s) ≡ refused e

-- the way on that an answer says: true asks
abbrev pub asks : Way → Bool
asks way.Pick = false
asks way.Has = true

abbrev pub way_of : Answer Way → Option Bool
way_of None = none
way_of (Some w) = some (asks w)

-- the first token of an atom
abbrev pub begun : Start → grammar.Start
begun (start.Text t) = grammar.text_start t.now
begun (start.Truth b) = grammar.truth_start b
begun start.Dot = grammar.dot_start
begun start.Tool = grammar.tool_start
begun (start.Name w) = grammar.name_start w.now
begun start.Open = grammar.open_start
begun start.Bracket = grammar.bracket_start

abbrev pub start_of : Answer Start → Option grammar.Start
start_of None = none
start_of (Some s) = some (begun s)
