use Rattle.std.proofs.Common.{◌≡◌, [], map, rules, ◌∙◌, ap, reverse}
use Rattle.folder_files.specs.Directory.{kept_lead}
use Rattle.folder_files.specs.Worlds.{slot_of}
use Rattle.folder_room.specs.Closing.{asked_of, kept_set}
use Rattle.folder_room.proofs.Crashed.{directory_cut}
use Rattle.folder_room.proofs.images.cut_directory.Goals as goal

pub returns-clause-image : goal.returns-clause-image
returns-clause-image c =
    directory_cut (asked_of c.args.asked) c.args.directory.now (record { place = c.in_ok-duplicate.field-0; safe = c.from_vec.result; pending = c.new-2.result })
    (λ x. let e1 : c.from_vec.result ≡ c.in_ok-slots.slots.items = search rules in let e2 : c.into_vec.result.items ≡ c.args.directory.now.safe = search rules in let e3 : c.as_slice.result.now ≡ c.args.directory.now.pending = search rules in
    let e4 : map (λ n. n.now) c.new.result.items ≡ [] = ap (map (λ n. n.now)) c.new.ensures.items in
    (λ i. slot_of (e1 i) x) ∙ c.in_ok-slots.ensures x ∙ (λ i. kept_lead (slot_of (e2 i)) (reverse (e3 i)) (kept_set (reverse (e3 i)) (asked_of c.args.asked) (e4 i)) x)) (search rules)
