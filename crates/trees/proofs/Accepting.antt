-- Laws of accepted trees. Assumes nothing.
use Rattle.std.proofs.Common.{◌≡◌, ℕ, ◌≤◌, Bool, true, false, cond, ◌&&◌, leb, List, length, sym, refl, ap, ◌∙◌, arith}
use Rattle.std.proofs.lemmas.Bool.{and_parts, and_from}
use Rattle.std.proofs.lemmas.Bool.Decides.{nat_tests}
use Rattle.values.specs.Values.{Members, nil, binding}
use Rattle.values.specs.Limits.{proper as is_proper, height, small, all_ordered, all_named}
use Rattle.trees.specs.Files.{File, done, refused, accepted, members_read, split, read_from, read_tree, listing}
use Rattle.trees.specs.Accepted.{tree_members, tree_value, value_read}
use Rattle.trees.specs.declared.tree.Tree.{Tree}
use Rattle.trees.proofs.Splits.{no}
use Rattle.trees.specs.Laws.{LinesAgree}
use Rattle.trees.proofs.Listed.{fill_lines}
use Rattle.trees.proofs.Made.{read_back}
use Rattle.trees.proofs.Spellings as spelling
use Rattle.trees.proofs.Exact as exact

is_done : (f : File) → accepted f ≡ true → f ≡ done (members_read f)
is_done (done ms) e = refl
is_done (refused n at) e = no (sym e)

-- the file reads as the tree's members
pub tree_reads : (t : Tree) → read_tree t.bytes.now ≡ done (tree_members t)
unfolding tree_members
tree_reads t = is_done (read_tree t.bytes.now) t.read

-- the file is the listing of the tree's value
pub tree_listed : (t : Tree) → listing (tree_value t) ≡ t.bytes.now
tree_listed t = spelling.accepted t.bytes.now (tree_members t) (tree_reads t)

-- what is read is a value by the rules
pub read_proper : (bs : List ℕ) (ms : Members) → read_tree bs ≡ done ms → is_proper (binding ms) ≡ true
read_proper bs ms e =
    let p = exact.proper bs ms e in
    let w = and_parts (leb (height (binding ms)) 16) (small (binding ms)) p.1 in
    and_from (leb (height (binding ms)) 16) (small (binding ms) && (all_ordered ms && all_named ms)) w.0
    (and_from (small (binding ms)) (all_ordered ms && all_named ms) w.1 (and_from (all_ordered ms) (all_named ms) p.0 p.2))

pub tree_proper : (t : Tree) → is_proper (tree_value t) ≡ true
tree_proper t = read_proper t.bytes.now (tree_members t) (tree_reads t)

-- what is promised of a file that reads
pub record Accepts (bs : List ℕ) : Type 0 where
  pub judged : accepted (read_tree bs) ≡ true
  pub listed : listing (value_read bs) ≡ bs
  pub proper : is_proper (value_read bs) ≡ true

pub accepts : (bs : List ℕ) (ms : Members) → read_tree bs ≡ done ms → Accepts bs
accepts bs ms e =
    let same : members_read (read_tree bs) ≡ ms = ap members_read e in
    record {
      judged = ap accepted e;
      listed = ap (λ us. listing (binding us)) same ∙ spelling.accepted bs ms e;
      proper = ap (λ us. is_proper (binding us)) same ∙ read_proper bs ms e;
    }

pub lines_agree : LinesAgree
lines_agree = record { listed = λ ls ms e. fill_lines nil ls ms e; read = read_back }

-- a tree's value is the one read from its bytes
pub tree_is : (t : Tree) → tree_value t ≡ value_read t.bytes.now
unfolding tree_members
tree_is t = refl

-- an accepted file is not too long
pub accepted_short : (bs : List ℕ) → accepted (read_tree bs) ≡ true → length bs ≤ 32768
accepted_short bs = go (leb (length bs) 32768) refl
  where
    go : (b : Bool) → leb (length bs) 32768 ≡ b → accepted (cond b (read_from 0 nil (split 10 bs)) (refused 1 0)) ≡ true → length bs ≤ 32768
    go true e h = grind (arith, nat_tests)
    go false e h = no (sym h)
