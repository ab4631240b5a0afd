-- The numbers and the sentences of refusals. Assumes nothing.
use Rattle.std.specs.Prelude.{ℕ, List, codes}
use Rattle.trees.specs.declared.answers.Refusal.{Refusal}
use Rattle.trees.specs.declared.answers.Refusal.TheVariants.{TooLong, Malformed, Disordered, LimitPassed}

abbrev pub number : Refusal → ℕ
number TooLong = 1
number Malformed = 8
number Disordered = 9
number LimitPassed = 10

-- what is printed for a rule
abbrev pub sentence : Refusal → List ℕ
sentence TooLong = codes "the file is longer than 32,768 bytes"
sentence Malformed = codes "this is no line of a tree file, or a name in it is no name"
sentence Disordered = codes "this line does not stand behind the one before it, or goes on below an earlier path"
sentence LimitPassed = codes "a path, a text or the members of a binding pass their limit"
