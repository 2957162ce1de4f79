use Rattle.std.proofs.Common.{◌≡◌, ◌++◌, [], ap, append-nil, subst, sym, ◌∙◌}
use Rattle.mh_profile.specs.Printing.{printed}
use Rattle.mh_profile.specs.Reading.{entries_in}
use Rattle.mh_profile.specs.Validity.{AreEntries}
use Rattle.mh_profile.proofs.PrintedBack.{reads_back}
use Rattle.mh_profile.proofs.entries.Entries.print.Goals as goal

pub returns-clause-reads_back : goal.returns-clause-reads_back
returns-clause-reads_back c =
    let all : c.loop-entry.entry-iterator ≡ [] = c.in-None.ensures.steps.0 in
    let text : c.loop-entry.text ≡ printed c.args.self.now =
    sym (append-nil c.loop-entry.text) ∙ ap (λ l. c.loop-entry.text ++ printed l) (sym all) ∙ c.loop-entry.invariant in
    ap entries_in text ∙ reads_back c.args.self.now (subst AreEntries c.self.view_is c.self.invariant.1)
