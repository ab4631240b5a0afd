-- Progress in memory. Assumes nothing.
use Rattle.std.specs.Prelude.{◌≡◌, ℕ, true, List, length, take, Some, None, Ok, Err, Option as Answer, Result}
use Rattle.std.proofs.Math.Option.{Option, none, some}
use Rattle.std.specs.Borrow.{Bor}
use Rattle.values.specs.Values.{Name, Members, nil}
use Rattle.trees.specs.Lines.{at_end, Line, Read, ok, bad, step, within}
use Rattle.trees.specs.Files.{split, line_of}
use Rattle.trees.specs.Paths.{shared}
use Rattle.trees.specs.Progress.{last_path, counts}
use Rattle.trees.specs.Numbers.{number}
use Rattle.trees.specs.declared.answers.Refusal.{Refusal}
use Rattle.trees.specs.declared.progress.Progress.{Progress}

-- how many names a path shares with the last one, if it may stand behind it
abbrev pub placed : Answer (Bor (List ℕ)) → List Name → Option ℕ
placed None p = some 0
placed (Some l) p = shared (split 47 l.now) p

-- the last path is that of the members read so far
abbrev pub Last : Members → Answer (Bor (List ℕ)) → Type 0
Last ms None = ms ≡ nil
Last ms (Some l) = (◌≡◌ {A = ℕ} (at_end ms 0 1) 1) × (split 47 l.now ≡ last_path ms)

-- what is kept of the members read so far
pub record Follows (ms : Members) (kept : Progress) : Type 0 where
  pub last : Last ms kept.last
  pub counted : take (length (counts ms)) kept.counts ≡ counts ms
  pub in_limits : within ms ≡ true

-- what comes of a line, and what is kept then
abbrev pub Comes : Read → Result (Unit {0}) Refusal → Progress → Type 0
Comes r (Ok _) kept = (ws : Members) × (r ≡ ok ws) × Follows ws kept
Comes r (Err e) kept = r ≡ bad (number e)

-- a line taken up behind the members read so far, or refused
abbrev pub Takes : Line → Members → Result (Unit {0}) Refusal → Progress → Type 0
Takes l ms r kept = Comes (step l ms) r kept

-- the same of the bytes of a line
abbrev pub step_read : Option Line → Members → Read
step_read none ms = bad 8
step_read (some l) ms = step l ms

abbrev pub Reads : List ℕ → Members → Result (Unit {0}) Refusal → Progress → Type 0
Reads bs ms r kept = Comes (step_read (line_of bs) ms) r kept
