-- What `pick` makes of sequences.
use Rattle.std.specs.Prelude.{ℕ, Bool, List, map, Option}
use Rattle.mh_sequences.specs.declared.mark.Mark.{Mark}
use Rattle.mh_sequences.specs.declared.mark.Mark.TheVariants.{Add, Set}
use Rattle.mh_sequences.specs.declared.run.Run.{Run}
use Rattle.mh_sequences.specs.Runs.{set_of}
use Rattle.mh_sequences.specs.Sequences.{Marked}
use Rattle.sequence_commits.specs.Marking.{marked_by_all}
use Rattle.sequence_commits.specs.RunsOfAll.{set_among}
use Rattle.pick_plans.specs.declared.job.PickAct.{PickAct}
use Rattle.pick_plans.specs.declared.job.PickAct.TheVariants as act
use Rattle.pick_plans.specs.declared.job.PickMarks.{PickMarks}

-- the mark on the sequence of this name: it has just these numbers, or they come to it
abbrev pub mark_with : PickAct → Option Bool → List Run → List ℕ → Mark
mark_with act.Set public runs name = Set name (set_of runs 0) public
mark_with act.Add public runs name = Add name (set_of runs 0) public

-- a mark on each of these sequences
abbrev pub marks_for : PickMarks → List Run → List Mark
marks_for p runs = map (mark_with p.act p.public runs) p.names

-- the sequences then, where these messages match
abbrev pub marked_for : PickMarks → List ℕ → Marked → Marked
marked_for p found m = marked_by_all (marks_for p (set_among found)) m
