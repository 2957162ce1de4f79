use Rattle.std.proofs.Common.{ap, map}
use Rattle.std.proofs.lemmas.Result.{IfOk-weaker}
use Rattle.folder_files.specs.Worlds.{slot_of}
use Rattle.folder_room.specs.Closing.{asked_of}
use Rattle.folder_room.proofs.Closed.{kept_step, left_step}
use Rattle.folder_room.proofs.images.+kept.Goals as goal

pub returns-then-not-is_kept : goal.returns-then-not-is_kept
returns-then-not-is_kept n c =
    IfOk-weaker c.kept.result _ _
    (λ r h x. left_step (slot_of c.args.slots.items) c.args.pending.now c.in-Some.older.now c.in-Some.change.now (asked_of c.args.asked) (map (λ k. k.now) c.args.names.items) (map (λ k. k.now) c.deref.result.now) x (slot_of r.items x) c.in-Some.ensures.cases.0
    (ap (map (λ k. k.now)) c.deref.ensures.value) c.if-not-is_kept.ensures (h x))
    c.kept.ensures

pub returns-in_ok-before-in-Some : goal.returns-in_ok-before-in-Some
returns-in_ok-before-in-Some n c =
    IfOk-weaker c.changed.result _ _
    (λ r h x. kept_step (slot_of c.args.slots.items) (slot_of c.in_ok-before-in-Some.before.items) c.args.pending.now c.in-Some.older.now c.in-Some.change.now (asked_of c.args.asked) (map (λ k. k.now) c.args.names.items) (map (λ k. k.now) c.deref.result.now) (map (λ k. k.now) c.push_touched.new.names.items) x (slot_of r.items x) c.in-Some.ensures.cases.0
    (ap (map (λ k. k.now)) c.deref.ensures.value) c.if-not-is_kept.ensures (c.in_ok-push_touched-in-Some.ensures) c.in_ok-before-in-Some.ensures (h x))
    c.changed.ensures
