-- The value table: the values held, oldest first, each once. A number is a position in it. Assumes nothing.
use Rattle.std.specs.Prelude.{◌≡◌, ℕ, ◌+◌, ◌<◌, Bool, true, false, cond, ◌&&◌, List, [], ◌∷◌, ◌++◌, length, Some, None, Ok, Err, MatchBool, Option as Answer, Result, nat_le, nat_lt, slice_index_or}
use Rattle.std.proofs.Math.Option.{Option, none, some}
use Rattle.values.specs.Values.{Name, Value, text, truth, binding, Members, nil, cons, same_value, before, nth}
use Rattle.values.specs.Limits.{fit, many, height}
use Rattle.values.specs.declared.parts.Member.{Member}
use Rattle.values.specs.declared.parts.Content.{Content}
use Rattle.values.specs.declared.parts.Content.TheVariants.{Truth, Text, Binding}
use Rattle.values.specs.declared.parts.Unentered.{Unentered}
use Rattle.values.specs.declared.parts.Unentered.TheVariants.{TooLong, TooMany, TooHigh, Unfit, Full}

abbrev pub Table : Type 0
Table = List Value

abbrev pub holds : Value → Table → Bool
holds v [] = false
holds v (w ∷ ws) = cond (same_value v w) true (holds v ws)

-- what a value takes of each of the three budgets: values, bytes of text, members
abbrev pub one_value : Value → ℕ
one_value v = 1

abbrev pub text_bytes : Value → ℕ
text_bytes (text s) = length s
text_bytes (truth b) = 0
text_bytes (binding ms) = 0

abbrev pub own_members : Value → ℕ
own_members (text s) = 0
own_members (truth b) = 0
own_members (binding ms) = many ms

-- what a table has spent of a budget
abbrev pub spent : (Value → ℕ) → Table → ℕ
spent w [] = 0
spent w (v ∷ vs) = w v + spent w vs

-- there is room for one value more
abbrev pub fits : Value → Table → Bool
fits v T =
    nat_le (spent one_value T + one_value v) 2048
    && (nat_le (spent text_bytes T + text_bytes v) 32768 && nat_le (spent own_members T + own_members v) 4096)

-- the table with a value: as it is if it holds it, else with the value behind the others; none where there is no room
abbrev pub entered : Value → Table → Option Table
entered v T = cond (holds v T) (some T) (cond (fits v T) (some (T ++ v ∷ [])) none)

-- what entering a proper value answers: its number in the table afterwards, or that the table is full and as it was
abbrev pub Enters : Value → Table → Result ℕ Unentered → Table → Type 0
Enters v T (Ok i) T' = (entered v T ≡ some T') × (nth T' i ≡ some v)
Enters v T (Err e) T' = (entered v T ≡ none) × (e ≡ Full) × (T' ≡ T)

-- a refusal leaves the table as it was
abbrev pub Refuses : Unentered → Table → Result ℕ Unentered → Table → Type 0
Refuses e T r T' = (r ≡ Err e) × (T' ≡ T)

-- entering a text
abbrev pub EntersText : List ℕ → Table → Result ℕ Unentered → Table → Type 0
EntersText s T r T' = MatchBool (nat_le (length s) 1024) (Enters (text s) T r T') (Refuses TooLong T r T')

-- the value under a number; a number that is not in the table reads as FALSE
abbrev pub under : Table → ℕ → Value
under T i = slice_index_or T i (truth false)

-- the bytes of a text; other values have none
abbrev pub spelt : Value → Name
spelt (text s) = s
spelt (truth b) = []
spelt (binding ms) = []

abbrev pub is_text : Value → Bool
is_text (text s) = true
is_text (truth b) = false
is_text (binding ms) = false

-- the members that numbers of names and of values stand for
abbrev pub members_of : Table → List Member → Members
members_of T [] = nil
members_of T (m ∷ ms) = cons (spelt (under T m.name)) (under T m.value) (members_of T ms)

-- every number of the members is in the table, and the names are texts
abbrev pub known : Table → List Member → Bool
known T [] = true
known T (m ∷ ms) = nat_lt m.name (length T) && (is_text (under T m.name) && (nat_lt m.value (length T) && known T ms))

-- the names are fit, and ascend
abbrev pub next_after : Table → Name → List Member → Bool
next_after T n [] = true
next_after T n (m ∷ ms) = before n (spelt (under T m.name))

abbrev pub well_named : Table → List Member → Bool
well_named T [] = true
well_named T (m ∷ ms) = fit (spelt (under T m.name)) && (next_after T (spelt (under T m.name)) ms && well_named T ms)

-- entering a binding that is given by its members: the first rule that it breaks, or as any proper value
abbrev pub EntersBinding : List Member → Table → Result ℕ Unentered → Table → Type 0
EntersBinding ms T r T' =
    MatchBool (nat_le (length ms) 64)
    (MatchBool (known T ms && well_named T ms)
    (MatchBool (nat_le (height (binding (members_of T ms))) 16) (Enters (binding (members_of T ms)) T r T') (Refuses TooHigh T r T'))
    (Refuses Unfit T r T'))
    (Refuses TooMany T r T')

-- the value that a content read from the table stands for
abbrev pub content_value : Table → Content → Value
content_value T (Truth b) = truth b
content_value T (Text s) = text s.now
content_value T (Binding ms) = binding (members_of T ms.now)

-- what reading a number answers: the value under it, or that there is none
abbrev pub shown : Table → Answer Content → Option Value
shown T None = none
shown T (Some c) = some (content_value T c)

-- the members that a content has are known
abbrev pub known_content : Table → Answer Content → Bool
known_content T None = true
known_content T (Some (Truth b)) = true
known_content T (Some (Text s)) = true
known_content T (Some (Binding ms)) = known T ms.now

-- what looking for the number of what may be there answers: its number, or that there is nothing
abbrev pub Numbered : Table → Option Value → Answer ℕ → Type 0
Numbered T o None = o ≡ none
Numbered T o (Some i) = (nth T i ≡ o) × (i < length T)
