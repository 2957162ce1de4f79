use Rattle.std.proofs.Common.{rules, refl, map}
use Rattle.std.specs.Prelude.{Some}
use Rattle.std.specs.Str.{chars}
use Rattle.std.specs.String.{string_bytes}
use Rattle.file_plans.specs.Plan.{fresh}
use Rattle.file_plans.proofs.Following.{beside, no_room, whole}
use Rattle.look_words.specs.IncWords.{inc_said}
use Rattle.folder_words.specs.MarkWords.{mark_said}
use Rattle.folder_words.specs.RefileWords.{refile_said}
use Rattle.folder_words.specs.RmmWords.{rmm_said}
use Rattle.look_words.specs.ScanWords.{scan_said}
use Rattle.folder_words.specs.TellWords.{tell_said}
use Rattle.sort_words.specs.SortWords.{sort_said}
use Rattle.list_words.specs.ListWords.{list_said}
use Rattle.store_words.specs.StoreWords.{store_said}
use Rattle.command_plans.specs.Command.{annotated_by, anno_begun, by_words, folder_begun, inc_begun, list_begun, mark_begun, pick_begun, picked_by, refile_begun, rmm_begun, scan_begun, sort_begun, store_begun}
use Rattle.command_plans.specs.CommandNames.{named}
use Rattle.command_plans.specs.Incorporating.{job_by}
use Rattle.command_plans.specs.Looking.{scan_asked}
use Rattle.command_plans.specs.Profile.{path_of}
use Rattle.command_plans.specs.declared.name.CommandName.TheVariants.{Anno, Folder, Inc, Mark, Mhlist, Mhstore, Pick, Refile, Rmm, Scan, Sortm}
use Rattle.command_plans.proofs.Plans.{hand_unsourced, memory_unsourced, none_unsourced, unsourced, word_none, word_on}
use Rattle.command_line.proofs.command.run_word.Goals as goal

pub returns-in_err-word-in-None-clause-plan : goal.returns-in_err-word-in-None-clause-plan
returns-in_err-word-in-None-clause-plan g c = (fresh, no_room _ c.from_residual.ensures refl)

pub returns-in_ok-word-in-None-clause-plan : goal.returns-in_ok-word-in-None-clause-plan
returns-in_ok-word-in-None-clause-plan g c = (fresh, word_none c.args.caller.now c.args.profile.now c.args.word.now (map string_bytes c.args.rest.now) (named c.args.word.now) _ (search rules) (search rules))

pub returns-in-Some-Inc-clause-plan : goal.returns-in-Some-Inc-clause-plan
returns-in-Some-Inc-clause-plan g c =
    let f = c.run_inc.ensures in (
      f.0,
      word_on c.args.caller.now c.args.profile.now c.args.word.now (map string_bytes c.args.rest.now) (named c.args.word.now) (Some Inc) (search rules)
          (beside {p = by_words (inc_begun c.args.run (path_of c.args.profile.now)) (job_by c.args.caller.now c.args.profile.now (inc_said c.args.profile.now (map chars (map string_bytes c.args.rest.now))))} f.1),
    )

pub returns-in-Some-Scan-clause-plan : goal.returns-in-Some-Scan-clause-plan
returns-in-Some-Scan-clause-plan g c =
    let f = c.run_scan.ensures in (
      f.0,
      word_on c.args.caller.now c.args.profile.now c.args.word.now (map string_bytes c.args.rest.now) (named c.args.word.now) (Some Scan) (search rules)
          (beside {p = by_words (scan_begun c.args.run c.args.profile.now) (scan_asked c.args.caller.now (scan_said c.args.profile.now (map chars (map string_bytes c.args.rest.now))))} f.1),
    )

pub returns-in-Some-Pick-clause-plan : goal.returns-in-Some-Pick-clause-plan
returns-in-Some-Pick-clause-plan g c =
    let f = c.run_pick.ensures in (
      f.0,
      word_on c.args.caller.now c.args.profile.now c.args.word.now (map string_bytes c.args.rest.now) (named c.args.word.now) (Some Pick) (search rules)
          (beside {p = by_words (pick_begun c.args.run c.args.profile.now) (picked_by c.args.caller.now c.args.profile.now (map chars (map string_bytes c.args.rest.now)))} f.1),
    )

pub returns-in-Some-Mark-clause-plan : goal.returns-in-Some-Mark-clause-plan
returns-in-Some-Mark-clause-plan g c =
    let f = c.run_mark.ensures in (
      f.0,
      word_on c.args.caller.now c.args.profile.now c.args.word.now (map string_bytes c.args.rest.now) (named c.args.word.now) (Some Mark) (search rules)
          (beside {p = by_words (mark_begun c.args.run c.args.profile.now) (mark_said c.args.profile.now (map chars (map string_bytes c.args.rest.now)))} f.1),
    )

pub returns-in-Some-Refile-clause-plan : goal.returns-in-Some-Refile-clause-plan
returns-in-Some-Refile-clause-plan g c =
    let f = c.run_refile.ensures in (
      f.0,
      word_on c.args.caller.now c.args.profile.now c.args.word.now (map string_bytes c.args.rest.now) (named c.args.word.now) (Some Refile) (search rules)
          (beside {p = by_words (refile_begun c.args.run c.args.profile.now) (refile_said c.args.profile.now (map chars (map string_bytes c.args.rest.now)))} (whole {p = by_words (refile_begun c.args.run c.args.profile.now) (refile_said c.args.profile.now (map chars (map string_bytes c.args.rest.now)))} f.1)),
    )

pub returns-in-Some-Rmm-clause-plan : goal.returns-in-Some-Rmm-clause-plan
returns-in-Some-Rmm-clause-plan g c =
    let f = c.run_rmm.ensures in (
      f.0,
      word_on c.args.caller.now c.args.profile.now c.args.word.now (map string_bytes c.args.rest.now) (named c.args.word.now) (Some Rmm) (search rules)
          (beside {p = by_words (rmm_begun c.args.run c.args.profile.now) (rmm_said c.args.profile.now (map chars (map string_bytes c.args.rest.now)))} (whole {p = by_words (rmm_begun c.args.run c.args.profile.now) (rmm_said c.args.profile.now (map chars (map string_bytes c.args.rest.now)))} f.1)),
    )

pub returns-in-Some-Folder-clause-plan : goal.returns-in-Some-Folder-clause-plan
returns-in-Some-Folder-clause-plan g c =
    let f = c.run_folder.ensures in (
      f.0,
      word_on c.args.caller.now c.args.profile.now c.args.word.now (map string_bytes c.args.rest.now) (named c.args.word.now) (Some Folder) (search rules)
          (beside {p = by_words (folder_begun c.args.run c.args.profile.now) (tell_said c.args.profile.now (map chars (map string_bytes c.args.rest.now)))} f.1),
    )

pub returns-in-Some-Anno-clause-plan : goal.returns-in-Some-Anno-clause-plan
returns-in-Some-Anno-clause-plan g c =
    let f = c.run_anno.ensures in (
      f.0,
      word_on c.args.caller.now c.args.profile.now c.args.word.now (map string_bytes c.args.rest.now) (named c.args.word.now) (Some Anno) (search rules)
          (beside {p = by_words (anno_begun c.args.run c.args.profile.now) (annotated_by c.args.caller.now c.args.profile.now (map chars (map string_bytes c.args.rest.now)))} (whole {p = by_words (anno_begun c.args.run c.args.profile.now) (annotated_by c.args.caller.now c.args.profile.now (map chars (map string_bytes c.args.rest.now)))} f.1)),
    )

pub returns-in-Some-Sortm-clause-plan : goal.returns-in-Some-Sortm-clause-plan
returns-in-Some-Sortm-clause-plan g c =
    let f = c.run_sortm.ensures in (
      f.0,
      word_on c.args.caller.now c.args.profile.now c.args.word.now (map string_bytes c.args.rest.now) (named c.args.word.now) (Some Sortm) (search rules)
          (beside {p = by_words (sort_begun c.args.run c.args.profile.now) (sort_said c.args.profile.now (map chars (map string_bytes c.args.rest.now)))} (whole {p = by_words (sort_begun c.args.run c.args.profile.now) (sort_said c.args.profile.now (map chars (map string_bytes c.args.rest.now)))} f.1)),
    )

pub returns-in-Some-Mhlist-clause-plan : goal.returns-in-Some-Mhlist-clause-plan
returns-in-Some-Mhlist-clause-plan g c =
    let f = c.run_mhlist.ensures in (
      f.0,
      word_on c.args.caller.now c.args.profile.now c.args.word.now (map string_bytes c.args.rest.now) (named c.args.word.now) (Some Mhlist) (search rules)
          (beside {p = by_words (list_begun c.args.run c.args.profile.now) (list_said c.args.profile.now (map chars (map string_bytes c.args.rest.now)))} f.1),
    )

pub returns-in-Some-Mhstore-clause-plan : goal.returns-in-Some-Mhstore-clause-plan
returns-in-Some-Mhstore-clause-plan g c =
    let f = c.run_mhstore.ensures in (
      f.0,
      word_on c.args.caller.now c.args.profile.now c.args.word.now (map string_bytes c.args.rest.now) (named c.args.word.now) (Some Mhstore) (search rules)
          (beside {p = by_words (store_begun c.args.run c.args.profile.now) (store_said c.args.profile.now (map chars (map string_bytes c.args.rest.now)))} f.1),
    )

pub returns-in_err-word-in-None-clause-input : goal.returns-in_err-word-in-None-clause-input
returns-in_err-word-in-None-clause-input g c = λ other. (refl, memory_unsourced _ _ c.from_residual.ensures refl)

pub returns-in_ok-word-in-None-clause-input : goal.returns-in_ok-word-in-None-clause-input
returns-in_ok-word-in-None-clause-input g c = λ other. (refl, none_unsourced c.no_command.result (Some c.args.word.now) (search rules))

pub returns-in-Some-Mhbuild-clause-input : goal.returns-in-Some-Mhbuild-clause-input
returns-in-Some-Mhbuild-clause-input g c = λ other. absurd (other (search rules))

pub returns-in-Some-Inc-clause-input : goal.returns-in-Some-Inc-clause-input
returns-in-Some-Inc-clause-input g c = λ other. (refl, unsourced c.run_inc.ensures.1)

pub returns-in-Some-Scan-clause-input : goal.returns-in-Some-Scan-clause-input
returns-in-Some-Scan-clause-input g c = λ other. (refl, unsourced c.run_scan.ensures.1)

pub returns-in-Some-Pick-clause-input : goal.returns-in-Some-Pick-clause-input
returns-in-Some-Pick-clause-input g c = λ other. (refl, unsourced c.run_pick.ensures.1)

pub returns-in-Some-Mark-clause-input : goal.returns-in-Some-Mark-clause-input
returns-in-Some-Mark-clause-input g c = λ other. (refl, unsourced c.run_mark.ensures.1)

pub returns-in-Some-Refile-clause-input : goal.returns-in-Some-Refile-clause-input
returns-in-Some-Refile-clause-input g c = λ other. (refl, hand_unsourced {p = by_words (refile_begun c.args.run c.args.profile.now) (refile_said c.args.profile.now (map chars (map string_bytes c.args.rest.now)))} c.run_refile.ensures.1)

pub returns-in-Some-Rmm-clause-input : goal.returns-in-Some-Rmm-clause-input
returns-in-Some-Rmm-clause-input g c = λ other. (refl, hand_unsourced {p = by_words (rmm_begun c.args.run c.args.profile.now) (rmm_said c.args.profile.now (map chars (map string_bytes c.args.rest.now)))} c.run_rmm.ensures.1)

pub returns-in-Some-Folder-clause-input : goal.returns-in-Some-Folder-clause-input
returns-in-Some-Folder-clause-input g c = λ other. (refl, unsourced c.run_folder.ensures.1)

pub returns-in-Some-Anno-clause-input : goal.returns-in-Some-Anno-clause-input
returns-in-Some-Anno-clause-input g c = λ other. (refl, hand_unsourced {p = by_words (anno_begun c.args.run c.args.profile.now) (annotated_by c.args.caller.now c.args.profile.now (map chars (map string_bytes c.args.rest.now)))} c.run_anno.ensures.1)

pub returns-in-Some-Sortm-clause-input : goal.returns-in-Some-Sortm-clause-input
returns-in-Some-Sortm-clause-input g c = λ other. (refl, hand_unsourced {p = by_words (sort_begun c.args.run c.args.profile.now) (sort_said c.args.profile.now (map chars (map string_bytes c.args.rest.now)))} c.run_sortm.ensures.1)

pub returns-in-Some-Mhlist-clause-input : goal.returns-in-Some-Mhlist-clause-input
returns-in-Some-Mhlist-clause-input g c = λ other. (refl, unsourced c.run_mhlist.ensures.1)

pub returns-in-Some-Mhstore-clause-input : goal.returns-in-Some-Mhstore-clause-input
returns-in-Some-Mhstore-clause-input g c = λ other. (refl, unsourced c.run_mhstore.ensures.1)
