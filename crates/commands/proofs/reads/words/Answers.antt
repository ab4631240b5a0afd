use Rattle.std.proofs.Common.{◌≡◌, [], ◌∷◌, ◌++◌, map, vec_items, subst, refl, ap, ◌∙◌, append-nil, sym, rules}
use borrow.Author.Tests.{tests}
use Rattle.std.proofs.lemmas.List.{map-append}
use Rattle.std.proofs.lemmas.Iterator.{IsFirst-from_position, YieldsList-from_slice}
use Rattle.commands.specs.Words.{words_of}
use Rattle.commands.proofs.Parting.{Starts, all_blank, word_more}
use Rattle.commands.proofs.reads.words.Goals as goal

pub loop-start-preserved : goal.loop-start-preserved
loop-start-preserved c =
    let left = c.loop-start.left.now in
    let h = IsFirst-from_position _ _ c.position.result (λ b. b ≡ 32 → ⊥) (λ b. b ≡ 32) c.position.ensures.ran (YieldsList-from_slice left c.iter.ensures.rest) (λ x q k. search (rules, tests)) (λ x q k. search (rules, tests)) in
    let starts = subst (Starts left) c.in-Some.is h in
    let parts = c.cut-parts.result in
    let items : vec_items c.push.new.self ≡ vec_items c.loop-start.words ++ parts.first ∷ [] = search rules in
    ap (λ ws. ws ++ words_of c.unwrap_or-left.result.now) (ap (map (λ x. x.now)) items ∙ map-append (λ x. x.now) (vec_items c.loop-start.words) (parts.first ∷ []))
    ∙ word_more _ _ left _ c.in-Some.start parts.first.now parts.rest _ c.unwrap_or-left.result starts (search rules) c.cut-parts.ensures.0 c.cut-parts.ensures.1 refl c.unwrap_or-left.ensures c.loop-start.invariant

pub returns : goal.returns
returns c =
    let left = c.loop-start.left.now in
    let h = IsFirst-from_position _ _ c.position.result (λ b. b ≡ 32 → ⊥) (λ b. b ≡ 32) c.position.ensures.ran (YieldsList-from_slice left c.iter.ensures.rest) (λ x q k. search (rules, tests)) (λ x q k. search (rules, tests)) in
    let starts = subst (Starts left) c.in_default.is h in
    sym (append-nil _) ∙ ap (λ l. map (λ x. x.now) (vec_items c.loop-start.words) ++ l) (sym (all_blank left starts)) ∙ c.loop-start.invariant
