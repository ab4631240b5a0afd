-- Answers in a pool. Assumes nothing.
use Rattle.std.specs.Prelude.{ℕ, ◌+◌, Bool, true, ◌&&◌, List, [], ◌∷◌, Some, None, Option as Perhaps, nat_le}
use Rattle.tools.specs.declared.answers.Span.{Span}

-- an answer's text lies in a pool of n bytes
abbrev pub lies_within : ℕ → Perhaps Span → Bool
lies_within n None = true
lies_within n (Some s) = nat_le (s.start + s.len) n

abbrev pub all_within : ℕ → List (Perhaps Span) → Bool
all_within n [] = true
all_within n (t ∷ ts) = lies_within n t && all_within n ts

-- the bytes that answers have
abbrev pub bytes_of : Perhaps Span → ℕ
bytes_of None = 0
bytes_of (Some s) = s.len

abbrev pub told_bytes : List (Perhaps Span) → ℕ
told_bytes [] = 0
told_bytes (t ∷ ts) = bytes_of t + told_bytes ts
