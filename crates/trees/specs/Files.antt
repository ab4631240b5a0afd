-- Tree files as bytes: how a line is written and read, a file read line by line, a value listed. Assumes nothing.
-- Bytes by their numbers: tab 9, line feed 10, `.` 46, `/` 47, backslash 92; the kinds `b` 98, `e` 101, `t` 116.
use Rattle.std.specs.Prelude.{ℕ, ◌+◌, Bool, true, false, cond, ◌&&◌, List, [], ◌∷◌, ◌++◌, length, ◌==◌, nat_le}
use Rattle.std.proofs.Math.Option.{Option, none, some}
use Rattle.values.specs.Values.{Name, Value, text, truth, binding, Members, nil, same_name, and_then, mapped}
use Rattle.values.specs.Limits.{fit}
use Rattle.trees.specs.Lines.{Leaf, text_leaf, truth_leaf, empty_leaf, Line, line, lines_of, Read, ok, bad, step}

-- one byte more at the front of the first part
abbrev pub push : ℕ → List (List ℕ) → List (List ℕ)
push b [] = (b ∷ []) ∷ []
push b (p ∷ ps) = (b ∷ p) ∷ ps

-- the parts between separators; there is always one, perhaps empty
abbrev pub split : ℕ → List ℕ → List (List ℕ)
split z [] = [] ∷ []
split z (b ∷ bs) = cond (b == z) ([] ∷ split z bs) (push b (split z bs))

-- parts with a separator between each two
abbrev pub joined : ℕ → List (List ℕ) → List ℕ
joined z [] = []
joined z (p ∷ []) = p
joined z (p ∷ q ∷ ps) = p ++ z ∷ joined z (q ∷ ps)

-- the content of a text: line feed, tab and backslash are written as the pairs `\n`, `\t` and `\\`
abbrev pub escape : List ℕ → List ℕ
escape [] = []
escape (b ∷ bs) = cond (b == 10) (92 ∷ 110 ∷ escape bs) (cond (b == 9) (92 ∷ 116 ∷ escape bs) (cond (b == 92) (92 ∷ 92 ∷ escape bs) (b ∷ escape bs)))

-- what a byte behind a backslash means: `n` (110), `t` (116) or a backslash
abbrev pub meant : ℕ → Option ℕ
meant b = cond (b == 110) (some 10) (cond (b == 116) (some 9) (cond (b == 92) (some 92) none))

-- a byte that stands for itself
abbrev pub plain : ℕ → Bool
plain b = cond (b == 10) false (cond (b == 9) false (cond (b == 92) false true))

-- one byte in front of a text, if there is one
abbrev pub prefixed : ℕ → Option (List ℕ) → Option (List ℕ)
prefixed b none = none
prefixed b (some t) = some (b ∷ t)

-- the text that a content stands for, or none if it is malformed; `paired` goes on behind a backslash
abbrev mutual
  pub unescape : List ℕ → Option (List ℕ)
  unescape [] = some []
  unescape (b ∷ bs) = cond (b == 92) (paired bs) (cond (plain b) (prefixed b (unescape bs)) none)

  pub paired : List ℕ → Option (List ℕ)
  paired [] = none
  paired (b ∷ bs) = and_then (meant b) (λ m. prefixed m (unescape bs))

-- every name of a path is fit
abbrev pub all_fit : List Name → Bool
all_fit [] = true
all_fit (n ∷ ns) = fit n && all_fit ns

-- the kind of a leaf
abbrev pub kind_mark : Leaf → List ℕ
kind_mark (text_leaf s) = 116 ∷ []
kind_mark (truth_leaf b) = 98 ∷ []
kind_mark empty_leaf = 101 ∷ []

-- TRUE and FALSE
abbrev pub true_word : List ℕ
true_word = 84 ∷ 82 ∷ 85 ∷ 69 ∷ []

abbrev pub false_word : List ℕ
false_word = 70 ∷ 65 ∷ 76 ∷ 83 ∷ 69 ∷ []

-- the content of a leaf
abbrev pub content : Leaf → List ℕ
content (text_leaf s) = escape s
content (truth_leaf b) = cond b true_word false_word
content empty_leaf = []

-- a line without its line feed: path, tab, kind, tab, content
abbrev pub line_bytes : Line → List ℕ
line_bytes (line p c) = joined 9 (joined 47 p ∷ kind_mark c ∷ content c ∷ [])

-- an option under a condition
abbrev pub when : {A : Type 0} → Bool → Option A → Option A
when b o = cond b o none

-- the truth value that a content stands for
abbrev pub truth_of : List ℕ → Option Leaf
truth_of c = cond (same_name c true_word) (some (truth_leaf true)) (when (same_name c false_word) (some (truth_leaf false)))

-- the empty binding has no content
abbrev pub empty_of : List ℕ → Option Leaf
empty_of c = when (same_name c []) (some empty_leaf)

-- what a kind and a content stand for
abbrev pub leaf_of : List ℕ → List ℕ → Option Leaf
leaf_of k c =
    cond (same_name k (116 ∷ [])) (mapped text_leaf (unescape c))
    (cond (same_name k (98 ∷ [])) (truth_of c) (when (same_name k (101 ∷ [])) (empty_of c)))

-- a line has exactly three parts, and fit names on its path
abbrev pub line_from : List (List ℕ) → Option Line
line_from [] = none
line_from (p ∷ []) = none
line_from (p ∷ k ∷ []) = none
line_from (p ∷ k ∷ c ∷ []) = when (all_fit (split 47 p)) (mapped (line (split 47 p)) (leaf_of k c))
line_from (p ∷ k ∷ c ∷ d ∷ ds) = none

-- the line that bytes are, or none if they are malformed
abbrev pub line_of : List ℕ → Option Line
line_of bs = line_from (split 9 bs)

-- a file: the members read, or a refusal by its number, at a place
pub data File : Type 0 where
  done : Members → File
  refused : ℕ → ℕ → File

abbrev pub accepted : File → Bool
accepted (done ms) = true
accepted (refused e at) = false

-- what was read; a refused file gives nothing
abbrev pub members_read : File → Members
members_read (done ms) = ms
members_read (refused e at) = nil

-- go on with what a line made, or refuse at its place
abbrev pub on_step : ℕ → Read → (Members → File) → File
on_step at (ok ws) k = k ws
on_step at (bad e) k = refused e at

-- a malformed line is refused by 8
abbrev pub on_line : ℕ → Option Line → Members → (Members → File) → File
on_line at none ms k = refused 8 at
on_line at (some l) ms k = on_step at (step l ms) k

-- lines read from a place on, behind the members so far; what stands behind the last line feed is no line
abbrev pub read_from : ℕ → Members → List (List ℕ) → File
read_from at ms [] = refused 8 at
read_from at ms ([] ∷ []) = done ms
read_from at ms ((b ∷ bs) ∷ []) = refused 8 at
read_from at ms (l ∷ m ∷ ls) = on_line at (line_of l) ms (λ ws. read_from (at + length l + 1) ws (m ∷ ls))

-- a file of over 32,768 bytes is refused by 1
abbrev pub read_tree : List ℕ → File
read_tree bs = cond (nat_le (length bs) 32768) (read_from 0 nil (split 10 bs)) (refused 1 0)

-- lines, each with its line feed
abbrev pub written : List Line → List ℕ
written [] = []
written (l ∷ ls) = line_bytes l ++ 10 ∷ written ls

-- a binding in its lines, another value as a single line with path `.`
abbrev pub listing : Value → List ℕ
listing (text s) = line_bytes (line ((46 ∷ []) ∷ []) (text_leaf s)) ++ 10 ∷ []
listing (truth b) = line_bytes (line ((46 ∷ []) ∷ []) (truth_leaf b)) ++ 10 ∷ []
listing (binding ms) = written (lines_of ms)
