use Rattle.std.proofs.Common.{◌+◌, ◌∷◌, ◌++◌, take, drop, refl, arith, ◌∙◌, ap}
use Rattle.mh_sequences.proofs.Bools.{ok_then}
use Rattle.mh_sequences.proofs.SlotRuns.{put_after}
use Rattle.mh_sequences.proofs.run_list.RunList.put_behind.Goals as goal

pub returns-clause-ok : goal.returns-clause-ok
returns-clause-ok c =
    let at = c.args.at in
    let run = c.args.run in
    let room = c.room_behind-self-inside in
    ok_then _ _ c.put.result
    (λ e. ap (drop room.result) e
    ∙ put_after room.result at (room.result + at) room.new.slots.items run refl (omega arith)
    ∙ ap (λ l. take at l ++ (run ∷ drop at l)) room.ensures.runs
    ∙ ap (λ v. take at v.runs ++ (run ∷ drop at v.runs)) c.self.view_is)
    c.put.ensures.ok
