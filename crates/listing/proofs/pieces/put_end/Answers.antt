use Rattle.std.proofs.Common.{[], ◌∷◌, ◌++◌, sym, refl, subst}
use Rattle.trees.specs.Files.{escape}
use Rattle.listing.specs.Puts.{Puts}
use Rattle.listing.specs.Pieces.{ending, leaf_of}
use Rattle.listing.proofs.Growing.{last}
use Rattle.listing.proofs.pieces.put_end.Goals as goal

pub returns-in_ok-put_text-in-Text : goal.returns-in_ok-put_text-in-Text
returns-in_ok-put_text-in-Text g c =
    let s = c.args.out.now in
    let m = c.put-in-Text.new.self in
    let t = c.put_text.new.out in
    let u = c.put-in-Text-2.new.self in
    let text = c.in-Text.text.now in
    subst (λ l. Puts g.S.Sink.room g.S.Sink.grows s (ending (leaf_of l)) c.put-in-Text-2.result u) (sym c.in-Text.is)
    (last g.met.S.Sink.adds {s = s} {t = t} u (9 ∷ 116 ∷ 9 ∷ escape text) (10 ∷ []) (9 ∷ 116 ∷ 9 ∷ (escape text ++ 10 ∷ [])) c.put-in-Text-2.result refl
    (g.met.S.Sink.adds.both s m t (9 ∷ 116 ∷ 9 ∷ []) (escape text) c.in_ok-put-in-Text.ensures c.in_ok-put_text-in-Text.ensures) c.put-in-Text-2.ensures)
