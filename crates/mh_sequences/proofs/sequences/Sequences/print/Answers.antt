use Rattle.std.proofs.Common.{subst, sym, List, ℕ}
use Rattle.mh_profile.specs.declared.named_value.NamedValue.{NamedValue}
use Rattle.mh_sequences.specs.Printing.{private_entries, HasJust}
use Rattle.mh_sequences.specs.Reading.{suffix, IsReading}
use Rattle.mh_sequences.proofs.Bools.{if_ok_then}
use Rattle.mh_sequences.proofs.ContextEntries.{reads_with}
use Rattle.mh_sequences.proofs.sequences.Sequences.print.Goals as goal

pub returns-clause-reads_back : goal.returns-clause-reads_back
returns-clause-reads_back c =
    if_ok_then _ _ (λ text. (folder : List ℕ) (context : List NamedValue) → HasJust (suffix folder) (private_entries (suffix folder) c.args.self.now.users) context → IsReading text context folder c.args.self.now) c.text.result
    (λ text is range folder context just. subst (λ t. IsReading t context folder c.args.self.now) (sym is) (reads_with c.args.self.now c.text.ensures.valid range folder context just))
    c.text.ensures.text c.text.ensures.range
