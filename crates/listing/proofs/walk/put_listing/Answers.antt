use Rattle.std.proofs.Common.{[], ◌∷◌, map, sym, ap, ◌∙◌, subst}
use Rattle.values.specs.Memory.{values}
use Rattle.values.specs.Table.{members_of, content_value}
use Rattle.trees.specs.Lines.{lines_of}
use Rattle.trees.specs.Files.{written, listing}
use Rattle.listing.specs.Puts.{Puts}
use Rattle.listing.specs.Pieces.{spellings, deeper, ending, leaf_of}
use Rattle.listing.proofs.Growing.{last}
use Rattle.listing.proofs.Listings.{deeper_none, dot_line}
use Rattle.listing.proofs.walk.put_listing.Goals as goal

pub returns-in-Binding : goal.returns-in-Binding
returns-in-Binding g c =
    let T = values c.args.table.now in
    let ls = lines_of (members_of T c.in-Binding.members.now) in
    subst (λ l. Puts g.S.Sink.room g.S.Sink.grows c.args.out.now l c.put_members.result c.put_members.new.out)
    (ap (λ l. written (map (deeper (spellings T l)) ls)) c.new.ensures ∙ ap written (deeper_none ls) ∙ ap (λ l. listing (content_value T l)) (sym c.in-Binding.is))
    c.put_members.ensures.puts

pub returns-in_ok-put-in_default : goal.returns-in_ok-put-in_default
returns-in_ok-put-in_default g c =
    let T = values c.args.table.now in
    let a = c.args.content in
    last g.met.S.Sink.adds {s = c.args.out.now} {t = c.put.new.self} c.put_end.new.out (46 ∷ []) (ending (leaf_of a)) (listing (content_value T a)) c.put_end.result
    (dot_line T a c.in_default.not-Binding) c.in_ok-put-in_default.ensures c.put_end.ensures
