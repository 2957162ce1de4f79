-- A command keeps the marks of messages.
use Rattle.std.proofs.Common.{◌≡◌, ◌<◌, ◌^◌, ◌∷◌, [], ℕ, List, Option, Some, None, Result, map, refl, sym, subst}
use Rattle.std.specs.Str.{chars}
use Rattle.mh_profile.specs.declared.named_value.NamedValue.{NamedValue}
use Rattle.mh_profile.specs.Reading.{entries_in}
use Rattle.folder_files.specs.Deeds.{Deed}
use Rattle.folder_files.specs.declared.step.Answer.{Answer}
use Rattle.folder_files.specs.declared.step.Step.{Step}
use Rattle.file_plans.specs.Asking.{reading_of}
use Rattle.file_plans.specs.Follows.{Follows, State, deeds_in}
use Rattle.file_plans.specs.Plan.{Hand, bind, lifted, ◌>>=◌}
use Rattle.file_plans.specs.Runs.{exit_of}
use Rattle.file_plans.specs.declared.answers.Reading.{Reading}
use Rattle.step_plans.specs.Hands.{knowing}
use Rattle.sequence_marks.specs.KeepsSequencesOf.{KeepsSequencesOf}
use Rattle.command_stages.specs.Texts.{too_large}
use Rattle.refile_plans.specs.HeldLeft.{RemovesUnheld}
use Rattle.refile_plans.specs.RefileHeld.{TakesUnheld}
use Rattle.command_words.specs.Ended.{ended_cause, plain}
use Rattle.folder_words.specs.MarkWords.{mark_said}
use Rattle.folder_words.specs.RefileWords.{refile_said}
use Rattle.folder_words.specs.RmmWords.{rmm_said}
use Rattle.folder_words.specs.TellWords.{tell_said}
use Rattle.command_words.specs.declared.ended.Ended.{Ended}
use Rattle.anno_words.proofs.Said.{anno_annotates, anno_valid}
use Rattle.sort_words.proofs.Said.{sort_valid}
use Rattle.list_words.proofs.Said.{list_valid}
use Rattle.list_words.specs.ListWords.{list_said}
use Rattle.store_words.proofs.Said.{store_valid}
use Rattle.store_words.specs.StoreWords.{store_said}
use Rattle.sort_words.specs.SortWords.{sort_said}
use Rattle.command_plans.specs.Command.{annotated_by, command, picked_by, build_job, refile_job}
use Rattle.command_pledges.specs.CommandMarks.{IsTextName, KeepsCommandMarks, KeepsWhere}
use Rattle.command_plans.specs.CommandNames.{command_of, named}
use Rattle.command_plans.specs.Profile.{entries_by, path_of}
use Rattle.command_plans.specs.declared.name.CommandName.{CommandName}
use Rattle.command_plans.specs.declared.name.CommandName.TheVariants.{Anno, Folder as FolderCommand, Inc, Mark, Mhbuild, Mhlist, Mhstore, Pick, Refile, Rmm, Scan, Sortm}
use Rattle.command_plans.specs.declared.caller.Caller.{Caller}
use Rattle.command_pledges.proofs.MindsMarks.{command_keeps_sequences, minds_sequences, found_minds}
use Rattle.command_plans.proofs.FolderChars.{AreUtf8, anno_chars, chars_texts, mark_chars, pick_chars, refile_chars, rmm_chars, tell_chars, list_chars, sort_chars, store_chars, AreTexts}
use Rattle.command_plans.proofs.SaidFolder.{mark_valid, refile_words_valid, rmm_words_valid, tell_words_valid}
use Rattle.command_plans.proofs.SaidPick.{pick_valid}
use Rattle.command_pledges.proofs.Begun.{start_same}
use Rattle.sequence_marks.specs.KeepsSequences.{KeepsSequences}
use Rattle.sequence_marks.proofs.Sequences.{MindsSequences}
use Rattle.mhbuild_plans.proofs.BuildMinds.{build_minds}
use Rattle.build_words.specs.BuildWords.{build_said}
use Rattle.look_words.specs.IncWords.{inc_said}
use Rattle.command_plans.specs.Incorporating.{job_by}
use Rattle.command_plans.proofs.SaidInc.{job_chars, job_valid}
use Rattle.command_pledges.proofs.MindingPlans.{Minding, NothingMore, all_kept, ended_minding, minding_where}
use Rattle.command_pledges.proofs.MindingWork.{entries_minded, folder_minding, words_minding}
use Rattle.command_pledges.proofs.Pledging.{Answered, answers, onward_by, plan_by}
use Rattle.command_pledges.proofs.ByWords.{inc_acts, named_onward, word_onward, word_plan}
use Rattle.command_pledges.proofs.TwoAnswers.{follows_so}
use Rattle.command_pledges.specs.CommandPledge.{word_pledge}
use Rattle.command_pledges.proofs.FolderMarks.{anno_minded, list_minded, mark_minded, pick_minded, rmm_minded, sort_minded, store_minded, tell_minded}
use Rattle.command_pledges.proofs.IncMarks.{inc_minded}
use Rattle.command_pledges.proofs.RefileMarks.{refile_minded}
use Rattle.file_plans.specs.declared.answers.Reading.TheVariants as reading

module _ (run : ℕ) (few : run < 2 ^ 128) (caller : Caller) (x y : State) (result : Result Unit Ended) (word : List ℕ) (words : List (List ℕ)) (f : Follows run ended_cause (command run caller (word ∷ words)) x y result) where
  -- by a plan of its words that minds them, where each own step meets this besides
  module _ (B : List Deed → Step → Type 0) (name : Option CommandName) (is : named word ≡ name) (minding : (profile : List NamedValue) (b : Answer) → Minding run B x.hand (word_plan run profile caller word words name b)) where
    named_minding : (profile : List NamedValue) (b : Answer) → Minding run B x.hand (word_plan run profile caller word words (named word) b)
    named_minding profile b = subst (λ z. Minding run B x.hand (word_plan run profile caller word words z b)) (sym is) (minding profile b)

    read_minding : (r : Reading) (b : Answer) → Minding run B x.hand (plan_by run few caller (word ∷ words) r b)
    unfolding onward_by named_onward lifted bind ◌>>=◌
    read_minding (reading.Content bytes) b = named_minding (entries_in bytes) b
    read_minding (reading.Long l) b = ended_minding run (entries_in []) B x.hand (plain (too_large l))
    read_minding reading.Gone b = named_minding (entries_in []) b

    kept_where : KeepsWhere B run x.files.story y.files.story
    kept_where = go (answers run few caller (word ∷ words) x y result f)
      where
        go : Answered run few caller (word ∷ words) x.hand y.hand (deeds_in f.went.log) (exit_of ended_cause result) → KeepsWhere B run x.files.story y.files.story
        go t =
            minding_where run B (plan_by run few caller (word ∷ words) (reading_of t.first) t.second) x y result (read_minding (reading_of t.first) t.second)
            (follows_so run ended_cause (command run caller (word ∷ words)) (plan_by run few caller (word ∷ words) (reading_of t.first) t.second) x y result f t.runs) (start_same run ended_cause (command run caller (word ∷ words)) x y result f)

  -- by a pledge that minds those of all sequences
  kept_all : (name : Option CommandName) → named word ≡ name → ((profile context : List NamedValue) → MindsSequences (word_pledge run caller profile context words name)) → KeepsSequences run x.files.story y.files.story
  kept_all name is minds = command_keeps_sequences run few caller (word ∷ words) (λ profile context. subst (λ z. MindsSequences (word_pledge run caller profile context words z)) (sym is) (minds profile context)) x y result f

  -- whatever is asked of its steps
  kept : (name : Option CommandName) → named word ≡ name → ((profile : List NamedValue) (b : Answer) → Minding run NothingMore x.hand (word_plan run profile caller word words name b)) → KeepsSequencesOf IsTextName run x.files.story y.files.story
  kept name is minding = all_kept run x.files.story y.files.story (kept_where NothingMore name is minding)

  -- the hand, once the context is known
  abbrev entered : Answer → Hand
  entered b = knowing (entries_by b) x.hand

  by_name : AreTexts (map chars words) → (name : Option CommandName) → named word ≡ name → KeepsCommandMarks name run x.files.story y.files.story
  unfolding word_onward
  by_name texts None is = kept_all None is (λ profile context. minds_sequences run (path_of profile))
  by_name texts (Some Inc) is =
      kept (Some Inc) is (λ profile b. words_minding run profile NothingMore _ _ _ x.hand b (job_by caller profile (inc_said profile (map chars words)))
      (λ asked e. entries_minded run profile NothingMore x.hand b (inc_acts run profile asked) (inc_minded run few profile (entered b) asked (job_valid caller profile (map chars words) asked e) (job_chars caller profile (map chars words) asked texts e))))
  by_name texts (Some Scan) is = kept_all (Some Scan) is (λ profile context. minds_sequences run (path_of profile))
  by_name texts (Some Mark) is =
      kept (Some Mark) is (λ profile b. folder_minding run profile NothingMore _ _ _ _ x.hand b (mark_said profile (map chars words)) (mark_valid profile (map chars words)) (λ said e. mark_chars profile (map chars words) said texts e)
      (λ said e folder real text. mark_minded run few profile (entered b) folder real text said))
  by_name texts (Some Pick) is =
      kept (Some Pick) is (λ profile b. folder_minding run profile NothingMore _ _ _ _ x.hand b (picked_by caller profile (map chars words)) (pick_valid caller.clock.moment caller.clock.offset profile (map chars words))
      (λ said e. pick_chars caller.clock.moment caller.clock.offset profile (map chars words) said texts e) (λ said e folder real text. pick_minded run few profile (entered b) folder real text said))
  by_name texts (Some Refile) is =
      kept_where TakesUnheld (Some Refile) is (λ profile b. folder_minding run profile TakesUnheld _ _ _ _ x.hand b (refile_said profile (map chars words)) (λ said e. (refile_words_valid profile (map chars words) said e).0)
      (λ said e. (refile_chars profile (map chars words) said texts e).0) (λ said e folder real text. refile_minded run few profile (entered b) (refile_job folder said profile) real text (refile_chars profile (map chars words) said texts e).1))
  by_name texts (Some Rmm) is =
      kept_where RemovesUnheld (Some Rmm) is (λ profile b. folder_minding run profile RemovesUnheld _ _ _ _ x.hand b (rmm_said profile (map chars words)) (rmm_words_valid profile (map chars words)) (λ said e. rmm_chars profile (map chars words) said texts e)
      (λ said e folder real text. rmm_minded run few profile (entered b) folder real text said))
  by_name texts (Some FolderCommand) is =
      kept (Some FolderCommand) is (λ profile b. folder_minding run profile NothingMore _ _ _ _ x.hand b (tell_said profile (map chars words)) (tell_words_valid profile (map chars words)) (λ said e. tell_chars profile (map chars words) said texts e)
      (λ said e folder real text. tell_minded run few profile (entered b) folder real text said said.pack))
  by_name texts (Some Anno) is =
      kept_where TakesUnheld (Some Anno) is (λ profile b. folder_minding run profile TakesUnheld _ _ _ _ x.hand b (annotated_by caller profile (map chars words)) (anno_valid caller.clock.moment caller.clock.offset profile (map chars words))
      (λ said e. anno_chars caller.clock.moment caller.clock.offset profile (map chars words) said texts e)
      (λ said e folder real text. anno_minded run few profile (entered b) folder real text said (anno_annotates caller.clock.moment caller.clock.offset profile (map chars words) said e)))
  by_name texts (Some Sortm) is =
      kept (Some Sortm) is (λ profile b. folder_minding run profile NothingMore _ _ _ _ x.hand b (sort_said profile (map chars words)) (sort_valid profile (map chars words)) (λ said e. sort_chars profile (map chars words) said texts e)
      (λ said e folder real text. sort_minded run few profile (entered b) folder real text said))
  by_name texts (Some Mhlist) is =
      kept (Some Mhlist) is (λ profile b. folder_minding run profile NothingMore _ _ _ _ x.hand b (list_said profile (map chars words)) (list_valid profile (map chars words)) (λ said e. list_chars profile (map chars words) said texts e)
      (λ said e folder real text. list_minded run few profile (entered b) folder real text said))
  by_name texts (Some Mhstore) is =
      kept (Some Mhstore) is (λ profile b. folder_minding run profile NothingMore _ _ _ _ x.hand b (store_said profile (map chars words)) (store_valid profile (map chars words)) (λ said e. store_chars profile (map chars words) said texts e)
      (λ said e folder real text. store_minded run few profile (entered b) folder real text said))
  by_name texts (Some Mhbuild) is =
      kept_all (Some Mhbuild) is (λ profile context. found_minds run profile _ (build_said profile (map chars words)) (λ said. build_minds run (path_of profile) (build_job said context profile)))

pub command_keeps_marks : (run : ℕ) (few : run < 2 ^ 128) (caller : Caller) (x y : State) (result : Result Unit Ended) (words : List (List ℕ)) → AreUtf8 words → Follows run ended_cause (command run caller words) x y result → KeepsCommandMarks (command_of words) run x.files.story y.files.story
command_keeps_marks run few caller x y result [] texts f = command_keeps_sequences run few caller [] (λ profile context. minds_sequences run (path_of profile)) x y result f
command_keeps_marks run few caller x y result (word ∷ words) texts f = by_name run few caller x y result word words f (chars_texts words texts.1) (named word) refl
