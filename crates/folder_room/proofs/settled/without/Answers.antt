use Rattle.std.proofs.Common.{rules, subst, ◌++◌, ◌∷◌, []}
use Rattle.folder_room.proofs.Slotting.{LacksOnly, kept_more, kept_same}
use Rattle.folder_room.proofs.settled.without.Goals as goal

pub loop-slot-preserved-in-Continue-1 : goal.loop-slot-preserved-in-Continue-1
loop-slot-preserved-in-Continue-1 c =
    let more : LacksOnly c.args.name.now (c.loop-slot.kept.items ++ c.in-Some.slot ∷ []) (c.loop-slot.yielded ++ c.in-Some.slot ∷ []) =
    kept_more c.args.name.now c.loop-slot.kept.items c.loop-slot.yielded c.in-Some.slot c.loop-slot.invariant (search rules) in
    subst (λ l. LacksOnly c.args.name.now l (c.loop-slot.yielded ++ c.in-Some.slot ∷ [])) (search rules) more

pub loop-slot-preserved : goal.loop-slot-preserved
loop-slot-preserved c = kept_same c.args.name.now c.loop-slot.kept.items c.loop-slot.yielded c.in-Some.slot c.loop-slot.invariant (search rules)
