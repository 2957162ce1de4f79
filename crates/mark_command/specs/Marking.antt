-- What `mark` makes of sequences.
use Rattle.std.specs.Prelude.{ℕ, ◌&&◌, Bool, not, List, map, Option}
use Rattle.mh_sequences.specs.declared.mark.Mark.{Mark}
use Rattle.mh_sequences.specs.declared.mark.Mark.TheVariants.{Add, Delete, Set}
use Rattle.mh_sequences.specs.declared.run.Run.{Run}
use Rattle.mh_sequences.specs.Runs.{has, set_of}
use Rattle.mh_sequences.specs.Sequences.{Marked}
use Rattle.sequence_commits.specs.Marking.{marked_by_all}
use Rattle.sequence_commits.specs.RunsOfAll.{runs_of_all, set_among}
use Rattle.mark_command.specs.declared.job.MarkAct.{MarkAct}
use Rattle.mark_command.specs.declared.job.MarkAct.TheVariants as act
use Rattle.mark_command.specs.declared.job.MarkJob.{MarkJob}

-- the folder's numbers but for these
abbrev pub all_but : List Run → List Run → List Run
all_but listing chosen = runs_of_all (λ n. has listing n && not (has chosen n))

-- the numbers of which a mark speaks: the chosen ones, or those of the folder that were not chosen
abbrev pub numbers_marked : MarkAct → List Run → List Run → List Run
numbers_marked act.Add listing chosen = chosen
numbers_marked act.Delete listing chosen = chosen
numbers_marked act.Set listing chosen = chosen
numbers_marked act.SetOthers listing chosen = all_but listing chosen

-- the mark on the sequence of this name: these numbers come to it, or leave it, or it has just these
abbrev pub mark_with : MarkAct → Option Bool → List Run → List ℕ → Mark
mark_with act.Add public runs name = Add name (set_of runs 0) public
mark_with act.Delete public runs name = Delete name (set_of runs 0) public
mark_with act.Set public runs name = Set name (set_of runs 0) public
mark_with act.SetOthers public runs name = Set name (set_of runs 0) public

-- a mark on each of the job's sequences
abbrev pub marks_for : MarkJob → MarkAct → List Run → List Run → List Mark
marks_for job a listing chosen = map (mark_with a job.public (numbers_marked a listing chosen)) job.names

-- the sequences then
abbrev pub marked_for : MarkJob → MarkAct → List Run → List ℕ → Marked → Marked
marked_for job a listing numbers m = marked_by_all (marks_for job a listing (set_among numbers)) m
