-- How readings of tokens are put together: each token is judged fully before the next is looked at. Assumes nothing.
use Rattle.std.specs.Prelude.{ℕ, zero, suc, ◌+◌, Bool, cond, length, nat_le, nat_lt}
use Rattle.std.proofs.Math.Option.{Option, none, some}
use Rattle.grammar.specs.Tokens.{Token, written, Tokens, end, no_token, next}

-- where a reading stands: how many tokens of its function were read, how many bytes these have with a blank
-- before each, and what is left
pub record Stand : Type 0 where
  pub index : ℕ
  pub size : ℕ
  pub rest : Tokens

-- in front of a function
abbrev pub fresh : Tokens → Stand
fresh c = record { index = 0; size = 0; rest = c }

-- something read, and where that leads; or the number and the place of a refusal
pub data Outcome (A : Type 0) : Type 0 where
  ok : A → Stand → Outcome A
  no : ℕ → ℕ → Outcome A

-- a reading, from where it begins
abbrev pub Reader : Type 0 → Type 0
Reader A = Stand → Outcome A

-- go on with what was read
abbrev pub after : {A B : Type 0} → Outcome A → (A → Reader B) → Outcome B
after (ok a s) k = k a s
after (no n p) k = no n p

infixl 20 ◌>>=◌
infixl 20 ◌>>◌
-- one reading, and then another
unfoldable pub ◌>>=◌ : {A B : Type 0} → Reader A → (A → Reader B) → Reader B
(r >>= k) s = after (r s) k

-- the same, where what was read first does not matter
abbrev pub ◌>>◌ : {A B : Type 0} → Reader A → Reader B → Reader B
r >> q = r >>= (λ _. q)

-- nothing is read
abbrev pub give : {A : Type 0} → A → Reader A
give a s = ok a s

-- one of two readings, by a test
abbrev pub when : {A : Type 0} → Bool → Reader A → Reader A → Reader A
when b x y s = cond b (x s) (y s)

-- one of two readings, by whether something is there
abbrev pub if_some : {A B : Type 0} → Option A → (A → Reader B) → Reader B → Reader B
if_some none f r = r
if_some (some a) f r = f a

-- the index of the next token in its function
abbrev pub here : Reader ℕ
here s = ok s.index s

-- what is left
abbrev pub left : Reader Tokens
left s = ok s.rest s

-- a token is passed over; the one with which a function's text has over 1,024 bytes passes a limit
-- (the text has one blank less than there are tokens, so 1,025 counts all that `size` counts)
abbrev pub passes : {A : Type 0} → A → Token → ℕ → Stand → Tokens → Outcome A
passes a t p s c =
    cond (nat_le (s.size + suc (length (written t))) 1025)
    (ok a (record { index = s.index + 1; size = s.size + suc (length (written t)); rest = c }))
    (no 4 p)

-- A kind of token is a function that gives what a token of that kind says, and none for others. Of some kinds
-- only so many may stand somewhere: n are there, and one more would pass the limit.

-- a token that has to be of a kind, by what it says as one of that kind
abbrev pub take_token : {A : Type 0} → ℕ → ℕ → Option A → Token → ℕ → Stand → Tokens → Outcome A
take_token n limit none t p s c = no 3 p
take_token n limit (some a) t p s c = cond (nat_lt n limit) (passes a t p s c) (no 4 p)

-- the same of the first of some tokens
abbrev pub take_next : {A : Type 0} → ℕ → ℕ → (Token → Option A) → Stand → Tokens → Outcome A
take_next n limit f s (end p) = no 3 p
take_next n limit f s (no_token p) = no 2 p
take_next n limit f s (next p t c) = take_token n limit (f t) t p s c

-- a token of this kind has to be next
unfoldable pub takes_of : {A : Type 0} → ℕ → ℕ → (Token → Option A) → Reader A
takes_of n limit f s = take_next n limit f s s.rest

-- the same with no such limit
abbrev pub takes : {A : Type 0} → (Token → Option A) → Reader A
takes = takes_of 0 1

-- a token that may be of a kind: another stays
abbrev pub skip_token : {A : Type 0} → ℕ → ℕ → Option A → Token → ℕ → Stand → Tokens → Outcome (Option A)
skip_token n limit none t p s c = ok none s
skip_token n limit (some a) t p s c = cond (nat_lt n limit) (passes (some a) t p s c) (no 4 p)

-- the same of the first of some tokens, if there is one
abbrev pub skip_next : {A : Type 0} → ℕ → ℕ → (Token → Option A) → Stand → Tokens → Outcome (Option A)
skip_next n limit f s (end p) = ok none s
skip_next n limit f s (no_token p) = no 2 p
skip_next n limit f s (next p t c) = skip_token n limit (f t) t p s c

-- a token of this kind is passed over if it is next
unfoldable pub skips_of : {A : Type 0} → ℕ → ℕ → (Token → Option A) → Reader (Option A)
skips_of n limit f s = skip_next n limit f s s.rest

-- the same with no such limit
abbrev pub skips : {A : Type 0} → (Token → Option A) → Reader (Option A)
skips = skips_of 0 1

-- at the end, and nowhere else
abbrev pub at_end : Stand → Tokens → Outcome (Unit {0})
at_end s (end p) = ok tt s
at_end s (no_token p) = no 2 p
at_end s (next p t c) = no 3 p

-- nothing may be left
unfoldable pub ends : Reader (Unit {0})
ends s = at_end s s.rest

-- the next function begins
abbrev pub afresh : Reader (Unit {0})
afresh s = ok tt (fresh s.rest)

-- no rounds are left: no model comes to this, since none is refused by 0
abbrev pub no_rounds : {A : Type 0} → Reader A
no_rounds s = no 0 0

-- as long as a token of this kind is next: that token, and more; at most so many rounds
unfoldable pub chain : {A B : Type 0} → (Token → Option B) → (B → A → Reader A) → ℕ → A → Reader A
chain f more zero a = no_rounds
chain f more (suc n) a = do
  t ← skips f
  if_some t (λ b. more b a >>= chain f more n) (give a)

-- {token more}: each round has a token, and a function's text has at most 1,024 bytes
abbrev pub many : {A B : Type 0} → (Token → Option B) → (B → A → Reader A) → A → Reader A
many f more = chain f more 1026
