use Rattle.std.proofs.Common.{rules, ◌∙◌}
use Rattle.std.specs.VecDeque.{deque_items}
use Rattle.std.proofs.lemmas.List.{take_all}
use Rattle.std.proofs.lemmas.Iterator.Consumers.{YieldsList-from_deque, YieldsList-from_filter, count_from_yields_List}
use Rattle.caches.specs.declared.ring_slots.RingSlot.{RingSlot}
use Rattle.caches.specs.Keys.{same_key}
use Rattle.caches.proofs.Derived.{key_eq_is}
use Rattle.caches.proofs.Rings.{ring_count}
use Rattle.caches.proofs.ring.RingCache.count.Goals as goal

pub returns : goal.returns
returns c =
    let slots = deque_items c.args.self.now.slots in
    let key = c.args.key in
    count_from_yields_List c.filter.result c.count.result c.count.ensures.ran
    (YieldsList-from_filter _ (λ (t : RingSlot). same_key t.key key) (YieldsList-from_deque slots (search (rules, take_all))) c.filter.ensures.closure (λ x b q k. (search rules, search rules ∙ key_eq_is x.now.key key))) ∙ ring_count key slots
