-- `scan` goes as it pledges.
use Rattle.std.proofs.Common.{◌≡◌, ◌⊎◌, inl, inr, ◌<◌, ◌^◌, ℕ, true, List, refl, sym, subst}
use Rattle.mh_base.specs.Entries.{entry_text}
use Rattle.mh_base.specs.Folders.{is_folder_name}
use Rattle.mh_base.specs.declared.entry.Entry.TheVariants.{Sequences}
use Rattle.folder_files.specs.Deeds.{Deed, now, on}
use Rattle.folder_files.specs.declared.place.Place.{Place}
use Rattle.folder_files.specs.declared.place.Place.TheVariants.{Folder, Mail}
use Rattle.file_plans.specs.Plan.{Hand, lifted}
use Rattle.file_plans.proofs.Framing.{AnyStep}
use Rattle.step_plans.specs.ContextCommit.{commit_context, context_name, settled}
use Rattle.step_plans.specs.Finished.{HasCommitted, OnlyLooked}
use Rattle.step_plans.specs.Pledges.{Pledge}
use Rattle.step_plans.specs.Settled.{AreSettled}
use Rattle.step_plans.proofs.Facts.{once_kept}
use Rattle.step_plans.proofs.Going.{okay, Goes, goes_then, goes_lifted, goes_more, okay_more}
use Rattle.step_plans.proofs.Pledged.{HasMarked, IsPledged, Known, Of, commit_goes}
use Rattle.step_plans.proofs.Stepping.{goes_return}
use Rattle.step_plans.proofs.Written.{Serves}
use Rattle.command_stages.specs.Endings.{of_plan}
use Rattle.command_stages.specs.Listed.{folder_listed}
use Rattle.command_stages.specs.Texts.{text_read}
use Rattle.command_stages.specs.Current.{current_change, made_current}
use Rattle.mh_looks.specs.Scan.{all_shown, chosen_by, lined_by, ordered, scan}
use Rattle.mh_looks.specs.ScanPledge.{HasListed, scan_pledge}
use Rattle.mh_looks.specs.ScanJob.{ScanJob}
use Rattle.mh_looks.proofs.LooksLeave.{Looked, Looks, Lists, more_looked, goes_chosen, goes_recall, listed_goes, text_goes, all_goes}
use Rattle.mh_profile.specs.Reading.{entries_seen}

-- after a command that keeps the context: what was settled is, and the context was committed or nothing was changed
pub record Noted (mail : List ℕ) (own later : List Deed) : Type 0 where
  pub settled : AreSettled own → AreSettled later
  pub done : HasCommitted (Mail mail) context_name later ⊎ (OnlyLooked own → OnlyLooked later)

pub noted_after : (mail : List ℕ) (own later last : List Deed) → Looked own later → Noted mail later last → Noted mail own last
noted_after mail own later last f g = record { settled = λ x. g.settled (f.settled x); done = parts g.done }
  where
    parts : HasCommitted (Mail mail) context_name last ⊎ (OnlyLooked later → OnlyLooked last) → HasCommitted (Mail mail) context_name last ⊎ (OnlyLooked own → OnlyLooked last)
    parts (inl c) = inl c
    parts (inr o) = inr (λ x. o (f.looked x))

module _ (run : ℕ) (few : run < 2 ^ 128) (mail : List ℕ) where
  committed_of : (own : List Deed) → HasMarked (scan_pledge run mail) (Mail mail) context_name own → HasCommitted (Mail mail) context_name own
  committed_of _ (now m) = now (m.0, m.1)
  committed_of _ (on {own = own} m) = on (committed_of own m)

  serves_current : Serves (scan_pledge run mail) (Mail mail)
  serves_current = record { serves = λ own kind s k m. (k, m); make = λ own. tt; create = λ own temp bytes is. tt; clear = λ own temp is. tt }

  pledges_current : (folder : List ℕ) → is_folder_name folder ≡ true → IsPledged (scan_pledge run mail) (Mail mail) (current_change folder) AnyStep (HasListed (Folder mail folder))
  pledges_current folder valid = record {
    asks = record {
      make = tt;
      lock = tt;
      list = tt;
      clear = λ temp is. tt;
      read = tt;
      create = λ temp bytes. tt;
      sync_file = λ temp. tt;
      rename = λ temp. tt;
      sync = tt;
      unlock = tt;
    };
    keeps = once_kept _ AnyStep;
    may = λ later old f. (folder, valid, f, (refl, refl, refl));
    lets = λ later temp f lock m. tt;
  }

  noted_by : (folder : List ℕ) (own later : List Deed) (h : Hand) → Known (scan_pledge run mail) own (Mail mail) (current_change folder) h later → Noted mail own later
  noted_by folder own later h k = record { settled = k.settled_still; done = parts k.done }
    where
      parts : ((settled (current_change folder) h.context ≡ true) × (later ≡ own)) ⊎ HasMarked (scan_pledge run mail) (Mail mail) context_name later → HasCommitted (Mail mail) context_name later ⊎ (OnlyLooked own → OnlyLooked later)
      parts (inl e) = inr (λ x. subst OnlyLooked (sym e.1) x)
      parts (inr m) = inl (committed_of later m)

  -- a folder that was listed becomes the current one
  pub current_goes : (own : List Deed) (h : Hand) (folder : List ℕ) → is_folder_name folder ≡ true → HasListed (Folder mail folder) own → Goes (scan_pledge run mail) own h (made_current run mail folder) (okay (Of (Noted mail own)))
  unfolding made_current
  current_goes own h folder valid listed =
      goes_then (scan_pledge run mail) own h (lifted (of_plan folder) (commit_context run (Mail mail) (current_change folder))) _ (Of (Known (scan_pledge run mail) own (Mail mail) (current_change folder) h)) (Of (Noted mail own))
      (goes_lifted (scan_pledge run mail) own h (of_plan folder) (commit_context run (Mail mail) (current_change folder)) (Of (Known (scan_pledge run mail) own (Mail mail) (current_change folder) h))
      (commit_goes (scan_pledge run mail) few mail serves_current (current_change folder) AnyStep (HasListed (Folder mail folder)) (pledges_current folder valid) own h listed))
      (λ later j u k. goes_return (scan_pledge run mail) later j tt (okay (Of (Noted mail own))) (noted_by folder own later h k))

  current_after : (own later : List Deed) (j : Hand) (folder : List ℕ) → is_folder_name folder ≡ true → Looked own later → HasListed (Folder mail folder) later → Goes (scan_pledge run mail) later j (made_current run mail folder) (okay (Of (Noted mail own)))
  current_after own later j folder valid f listed =
      goes_more (scan_pledge run mail) later j (made_current run mail folder) (okay (Of (Noted mail later))) (okay (Of (Noted mail own))) (okay_more (Of (Noted mail later)) (Of (Noted mail own)) (λ last i u g. noted_after mail own later last f g))
      (current_goes later j folder valid listed)

  -- whatever was answered, `scan` goes as pledged
  pub scan_goes : (own : List Deed) (h : Hand) (job : ScanJob) → is_folder_name job.folder ≡ true → Goes (scan_pledge run mail) own h (scan run mail job) (okay (Of (Noted mail own)))
  unfolding scan
  scan_goes own h job valid =
      goes_then w own h (folder_listed place job.folder) _ (Lists w tells place own) (Of (Noted mail own)) (listed_goes w tells own h place job.folder) (λ later j names f.
      goes_then w later j (text_read place (entry_text Sequences)) _ (Looks later) (Of (Noted mail own)) (text_goes w tells later j place (entry_text Sequences)) (λ next i text g.
      goes_chosen w next i (λ k. chosen_by job names text (entries_seen k.context)) _ (Of (Noted mail own)) (λ numbers is.
      goes_recall w next i (λ k. all_shown (lined_by job text (entries_seen k.context)) place (ordered job.reverse numbers)) _ (okay (Of (Noted mail own)))
      (goes_then w next i (all_shown (lined_by job text (entries_seen i.context)) place (ordered job.reverse numbers)) _ (Looks next) (Of (Noted mail own))
      (all_goes w tells (lined_by job text (entries_seen i.context)) next i place (ordered job.reverse numbers)) (λ last k u s.
      current_after own last k job.folder valid (more_looked own next last (more_looked own later next f.0 g) s) (s.listed place (g.listed place f.1)))))))
    where
      w : Pledge
      w = scan_pledge run mail

      place : Place
      place = Folder mail job.folder

      tells : (deeds : List Deed) (piece : List ℕ) → Unit {0}
      tells deeds piece = tt
