use Rattle.std.proofs.Common.{map, ap, ◌∙◌}
use Rattle.std.specs.List.{All, list_all}
use Rattle.mail_headers.specs.Lines.{is_name_byte}
use Rattle.mh_profile.specs.Validity.{IsEntry}
use Rattle.mh_sequences.specs.Printing.{private_entries}
use Rattle.mh_sequences.specs.Sequences.{told_entry}
use Rattle.mh_sequences.proofs.Bools.{of_one}
use Rattle.mh_sequences.proofs.ContextEntries.{valid_entries}
use Rattle.mh_sequences.proofs.sequences.Sequences.context_entries.Goals as goal

pub returns-clause-valid : goal.returns-clause-valid
returns-clause-valid c =
    of_one (All IsEntry) (private_entries c.as_slice.result.now (map told_entry c.self.inside.users.entries)) c.private_list.result c.private_list.ensures
    (valid_entries c.as_slice.result.now (map told_entry c.self.inside.users.entries) (ap (list_all is_name_byte) c.as_slice.ensures ∙ c.in_ok-ending.ensures.clean)
    c.self.invariant)
