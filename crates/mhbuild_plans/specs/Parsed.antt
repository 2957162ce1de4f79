-- The draft that a text is, or its first wrong line.
use Rattle.std.specs.Prelude.{ℕ, List, Option, None, Some, Result, Ok, Err}
use Rattle.mail_headers.specs.Message.{body_of}
use Rattle.folder_files.specs.declared.refusal.Refusal.TheVariants as refusal
use Rattle.step_plans.specs.declared.command_fault.CommandFault.{CommandFault}
use Rattle.step_plans.specs.declared.command_fault.CommandFault.TheVariants as fault
use Rattle.mh_drafts.specs.Drafted.{Drafted}
use Rattle.mh_drafts.specs.Drafts.{first_wrong_line}
use Rattle.mh_drafts.specs.Headers.{fields_in}
use Rattle.mh_drafts.specs.Items.{items_of, wants_of}
use Rattle.mh_drafts.specs.Marks.{marks_in}

-- its fields, its items and its wants
abbrev pub drafted : List ℕ → Drafted
drafted text =
    record {
      fields = fields_in text;
      items = items_of (marks_in (body_of text));
      wants = wants_of (marks_in (body_of text));
    }

abbrev pub unless_wrong : List ℕ → Option ℕ → Result Drafted CommandFault
unless_wrong text (Some line) = Err (fault.Refused (refusal.BadDraft line))
unless_wrong text None = Ok (drafted text)

abbrev pub parsed : List ℕ → Result Drafted CommandFault
parsed text = unless_wrong text (first_wrong_line text)
