use Rattle.std.proofs.Common.{[], ◌∷◌, ◌++◌, length, vec_items, sym, ap, ◌∙◌, arith, rules, length-append}
use Rattle.std.proofs.ResultArms.{chosen}
use Rattle.values.specs.Contents.{own_bytes, own_members}
use Rattle.values.specs.Memory.{values}
use Rattle.values.proofs.InMemory.{length_of}
use Rattle.values.proofs.Steps.{pushed, room_of}
use Rattle.values.proofs.store.Table.push.Goals as goal

pub store-node-requires-clause-bytes : goal.store-node-requires-clause-bytes
store-node-requires-clause-bytes c = (room_of c.args.self.now c.args.content c.requires.room).bytes

pub store-node-requires-clause-members : goal.store-node-requires-clause-members
store-node-requires-clause-members c = (room_of c.args.self.now c.args.content c.requires.room).members

pub push_reserved-requires : goal.push_reserved-requires
push_reserved-requires c = let r = room_of c.args.self.now c.args.content c.requires.room in omega (arith, r.count, c.args.self.now.room.0)

pub invariant_of-self : goal.invariant_of-self
invariant_of-self c =
    let t = c.args.self.now in
    let r = room_of t c.args.content c.requires.room in
    let parts = pushed t c.args.content c.args.height c.args.place c.len-number.result _ _ _ _ c.len-number.ensures c.store-node.ensures.bytes c.store-node.ensures.members
    (c.push_reserved.ensures.items ∙ ap (λ x. vec_items t.nodes ++ x ∷ []) c.store-node.ensures.node)
    (chosen _ _ _ _ c.insert.ensures.items (c.insert.ensures.succeeds (omega arith)))
    c.requires.known c.requires.height c.requires.right c.requires.gap in
    record {
      room = search rules;
      few = (
        omega (arith, r.count),
        omega (arith, r.bytes, ap length c.store-node.ensures.bytes, length-append (vec_items t.bytes) (own_bytes c.args.content), c.store-node.new.bytes.ok.0, t.bytes.ok.0),
        omega (arith, r.members, ap length c.store-node.ensures.members, length-append (vec_items t.members) (own_members c.args.content), c.store-node.new.members.ok.0, t.members.ok.0),
      );
      paired = search rules;
      sound = parts.sound;
      indexed = parts.indexed;
    }

pub returns : goal.returns
unfolding values
returns c =
    let t = c.args.self.now in
    let parts = pushed t c.args.content c.args.height c.args.place c.len-number.result _ _ _ _ c.len-number.ensures c.store-node.ensures.bytes c.store-node.ensures.members
    (c.push_reserved.ensures.items ∙ ap (λ x. vec_items t.nodes ++ x ∷ []) c.store-node.ensures.node)
    (chosen _ _ _ _ c.insert.ensures.items (c.insert.ensures.succeeds (omega arith)))
    c.requires.known c.requires.height c.requires.right c.requires.gap in
    record { number = c.len-number.ensures ∙ sym (length_of t); after = parts.values }
