use Rattle.std.proofs.Common.{◌<◌, None, Some, length, ap, subst, sym, ◌∙◌}
use Rattle.mh_profile.specs.Lines.{folded_lines}
use Rattle.mh_profile.specs.Reading.{IsEntryOf, entries_in, listed}
use Rattle.mh_profile.proofs.EntryLists.{more_of, more_of-none}
use Rattle.mh_profile.proofs.LineByLine.{ended, fewer, some_left, step_none, step_some}
use Rattle.mh_profile.proofs.entries.Entries.read.Goals as goal

pub loop-rest-init : goal.loop-rest-init
unfolding entries_in
loop-rest-init c =
    ap (λ es. more_of es (listed (folded_lines c.args.bytes.now))) c.new-entries.ensures ∙ more_of-none (listed (folded_lines c.args.bytes.now))

pub loop-rest-smaller-in_ok-note : goal.loop-rest-smaller-in_ok-note
loop-rest-smaller-in_ok-note c =
    let some : 0 < length c.loop-rest.rest.now = some_left (length c.loop-rest.rest.now) (sym c.is_empty.ensures ∙ c.loop-rest-test.true) in
    fewer c.loop-rest.rest.now c.split_at.result.0.now c.split_at.result.1.now c.folded_line_len.result c.folded_line_len.ensures.value c.split_at.ensures.front c.split_at.ensures.back some

pub loop-rest-preserved-in_ok-note : goal.loop-rest-preserved-in_ok-note
loop-rest-preserved-in_ok-note c =
    let some : 0 < length c.loop-rest.rest.now = some_left (length c.loop-rest.rest.now) (sym c.is_empty.ensures ∙ c.loop-rest-test.true) in
    let found : IsEntryOf c.split_at.result.0.now (Some c.in-Some.entry) = subst (IsEntryOf c.split_at.result.0.now) c.in-Some.is c.in_ok-entry.ensures.entry in
    step_some c.loop-rest.rest.now c.split_at.result.0.now c.split_at.result.1.now c.folded_line_len.result c.folded_line_len.ensures.value c.split_at.ensures.front c.split_at.ensures.back some c.loop-rest.entries c.note.new.self (entries_in c.args.bytes.now) c.in-Some.entry found c.in_ok-note.ensures c.loop-rest.invariant

pub loop-rest-smaller : goal.loop-rest-smaller
loop-rest-smaller c =
    let some : 0 < length c.loop-rest.rest.now = some_left (length c.loop-rest.rest.now) (sym c.is_empty.ensures ∙ c.loop-rest-test.true) in
    fewer c.loop-rest.rest.now c.split_at.result.0.now c.split_at.result.1.now c.folded_line_len.result c.folded_line_len.ensures.value c.split_at.ensures.front c.split_at.ensures.back some

pub loop-rest-preserved : goal.loop-rest-preserved
loop-rest-preserved c =
    let some : 0 < length c.loop-rest.rest.now = some_left (length c.loop-rest.rest.now) (sym c.is_empty.ensures ∙ c.loop-rest-test.true) in
    let none : IsEntryOf c.split_at.result.0.now None = subst (IsEntryOf c.split_at.result.0.now) c.in_default.is c.in_ok-entry.ensures.entry in
    step_none c.loop-rest.rest.now c.split_at.result.0.now c.split_at.result.1.now c.folded_line_len.result c.folded_line_len.ensures.value c.split_at.ensures.front c.split_at.ensures.back some c.loop-rest.entries (entries_in c.args.bytes.now) none c.loop-rest.invariant

pub returns : goal.returns
returns c = ended c.loop-rest.rest.now c.loop-rest.entries (entries_in c.args.bytes.now) (sym c.is_empty.ensures ∙ c.loop-rest-test.false) c.loop-rest.invariant
