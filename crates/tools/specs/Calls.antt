-- What the code's answers, replies with memory of their own, and calls mean. Assumes nothing.
use Rattle.std.specs.Prelude.{◌≡◌, ℕ, List, [], ◌∷◌, map, take, drop, Some, None, Option as Perhaps, Ok, Err, Result}
use Rattle.std.specs.Borrow.{Bor}
use Rattle.std.proofs.Math.Option.{Option, none, some}
use Rattle.values.specs.Values.{Name, mapped}
use Rattle.trees.specs.Contents.{answer}
use Rattle.tools.specs.Tools.{Answer, Reply, fetch, product, failure, Tools, asked}
use Rattle.tools.specs.declared.answers.Span.{Span}
use Rattle.tools.specs.declared.answers.Answers.{Answers}
use Rattle.tools.specs.declared.owned.Reply.{Reply as Replied}
use Rattle.tools.specs.declared.owned.Reply.TheVariants.{Fetch, Product, Failure}
use Rattle.tools.specs.declared.replies.Failed.{Failed}
use Rattle.tools.specs.declared.replies.Failed.TheVariants.{NothingFound, TooLong}
use Rattle.tools.specs.declared.toolbox.Call.{Call}

-- an answer in a pool: a stretch past the pool's end has what is left of it
abbrev pub meant : List ℕ → Perhaps Span → Answer
meant pool None = none
meant pool (Some s) = some (take s.len (drop s.start pool))

abbrev pub answers_of : Answers → List Answer
answers_of a = map (meant a.pool.now) a.told.now

-- what an answer tells: a text, or that nothing was found
abbrev pub told : Perhaps (Bor (List ℕ)) → Answer
told None = none
told (Some text) = some text.now

-- an answer that was looked up, if there is one
abbrev pub heard : Perhaps (Perhaps (Bor (List ℕ))) → Option Answer
heard None = none
heard (Some a) = some (told a)

-- answers, the first of them and the others
abbrev pub Splits : List Answer → Perhaps (Perhaps (Bor (List ℕ)) × Answers) → Type 0
Splits given None = given ≡ []
Splits given (Some (a, others)) = given ≡ told a ∷ answers_of others

-- what a reply with memory of its own says
abbrev pub says : Replied → Reply
says (Fetch path) = fetch path.items
says (Product text) = product text.items
says (Failure code) = failure code

-- what a toolbox replies to a call and the answers so far
abbrev pub called : Tools → Call → List Answer → Option Reply
called T c given = asked T c.name.now c.command.now given

-- what is replied, if anything is
abbrev pub replied : Perhaps Replied → Option Reply
replied None = none
replied (Some r) = some (says r)

-- the codes of `cat` and `first`
abbrev pub code : Failed → ℕ
code NothingFound = 1
code TooLong = 2

-- how a step of a `Tool` ends
abbrev pub ends : Result Replied Failed → Reply
ends (Ok r) = says r
ends (Err failed) = failure (code failed)

-- the version under a name
abbrev pub version_of : Tools → Name → Perhaps ℕ
version_of T name = answer (mapped (λ t. t.version) (T name))

-- the path that is fetched, if one is
abbrev pub path_of : Option Reply → Perhaps (List ℕ)
path_of none = None
path_of (some (fetch path)) = Some path
path_of (some (product text)) = None
path_of (some (failure code)) = None
