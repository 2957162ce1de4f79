use Rattle.std.proofs.Common.{rules, sym, ◌∙◌, reverse}
use Rattle.folder_files.specs.Directory.{lead}
use Rattle.folder_files.specs.Worlds.{slot_of}
use Rattle.folder_room.proofs.Leading.{lead_last, lead_none}
use Rattle.folder_room.proofs.slots.+led.Goals as goal

pub returns-in-None : goal.returns-in-None
returns-in-None t c = sym (lead_none (slot_of c.args.slots.now) c.args.pending.now c.args.name.now (search rules) ∙ search rules)

pub returns-in-File : goal.returns-in-File
returns-in-File t c =
    sym (lead_last (slot_of c.args.slots.now) c.args.pending.now c.in-Some.older.now c.in-Some.change.now c.args.name.now (search rules) ∙ (c.leads_by.ensures (lead (slot_of c.args.slots.now) (reverse c.in-Some.older.now)) ∙ search rules))

pub returns-in-Nowhere : goal.returns-in-Nowhere
returns-in-Nowhere t c =
    sym (lead_last (slot_of c.args.slots.now) c.args.pending.now c.in-Some.older.now c.in-Some.change.now c.args.name.now (search rules) ∙ (c.leads_by.ensures (lead (slot_of c.args.slots.now) (reverse c.in-Some.older.now)) ∙ search rules))

pub returns-in-As : goal.returns-in-As
returns-in-As t c =
    sym (lead_last (slot_of c.args.slots.now) c.args.pending.now c.in-Some.older.now c.in-Some.change.now c.args.name.now (search rules) ∙ (c.leads_by.ensures (lead (slot_of c.args.slots.now) (reverse c.in-Some.older.now)) ∙ search rules))
