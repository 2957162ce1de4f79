-- What the pledge of `refile` lets be: that the source and the destinations are begun, and that messages that the words choose go there.
use Rattle.std.proofs.Common.{◌≡◌, ◌⊎◌, inl, inr, ◌<◌, ◌^◌, ℕ, Bool, true, false, List, None, refl, sym, ◌∙◌, ap, subst, arith}
use Rattle.std.specs.Prelude.{Contains, decimal}
use Rattle.mh_base.specs.Entries.{entry_text, kind_of}
use Rattle.mh_base.specs.Numbers.{IsMsgNum}
use Rattle.mh_base.specs.declared.entry.Entry.TheVariants.{Held, Number}
use Rattle.mh_base.proofs.EntryKinds.{kind_of-entry_text}
use Rattle.mh_sequences.specs.Sequences.{Marked}
use Rattle.mh_sequences.specs.declared.run.Run.{Run}
use Rattle.folder_files.specs.Careful.{Discards, IsRead, Kind, Puts, Takes, WasGivenAway, WasReady, WasTaken}
use Rattle.folder_files.specs.Commands.{HasReadChosen, HasReadHeld, IsChosen, KeepsFolder, MakesStep}
use Rattle.folder_files.specs.Deeds.{Deed, did, now, on}
use Rattle.folder_files.specs.Named.{is_committed, is_held, is_temp}
use Rattle.folder_files.specs.Standing.{is_standing}
use Rattle.folder_files.specs.declared.place.Place.{Place}
use Rattle.folder_files.specs.declared.place.Place.TheVariants.{Folder, Mail}
use Rattle.folder_files.specs.declared.step.Answer.TheVariants as answer
use Rattle.folder_files.specs.declared.step.Step.{Step}
use Rattle.folder_files.specs.declared.step.Step.TheVariants as step
use Rattle.folder_files.proofs.Names.{held_stands, is_committed_quiet, is_held_any, is_temp_unheld, not_both}
use Rattle.file_plans.specs.Plan.{Hand}
use Rattle.file_plans.proofs.Framing.{AnyStep}
use Rattle.step_plans.specs.ContextCommit.{LIMIT_BYTES}
use Rattle.step_plans.specs.Pledges.{Pledge}
use Rattle.step_plans.proofs.Going.{Goes, okay}
use Rattle.step_plans.proofs.Lasting.{KeptBy}
use Rattle.step_plans.proofs.Past.{once_map}
use Rattle.message_puts.proofs.PutPledged.{PutsMessages}
use Rattle.message_moves.specs.Copied.{HasCopied}
use Rattle.message_moves.proofs.CopyPledged.{IsOpenTo}
use Rattle.message_moves.proofs.MovePledged.{LetsDiscard, LetsTake, is_held_so, taking}
use Rattle.message_moves.proofs.RefilePledged.{LetsRefile}
use Rattle.message_moves.proofs.StayPledged.{LetsCopy}
use Rattle.opening_plans.specs.Making.{made_begun}
use Rattle.opening_plans.proofs.FolderPledged.{HasBegun, seen_kept}
use Rattle.opening_plans.proofs.WorkPledged.{LetsBegin}
use Rattle.refile_plans.specs.Refile.{targets_of}
use Rattle.refile_plans.specs.RefilePledge.{HasReadOf, IsOfChosen, MakesNothing, RefilesSo, WasChosen, WasTakenAndCopied, Withdraws, WritesOf, destinations_of, folders_of, manner_by, name_read, refile_pledge}
use Rattle.refile_plans.specs.RmmPledge.{every_message}
use Rattle.refile_plans.specs.declared.job.RefileJob.{RefileJob}
use Rattle.refile_plans.proofs.FolderMarks as folder_marks
use Rattle.refile_plans.proofs.FolderNames.{destinations_other, folder_there}
use Rattle.refile_plans.proofs.RmmPledged.{in_up}

-- a temporary name, and one that is committed, holds no message aside
pub temp_unheld : (temp held : List ℕ) → is_temp (kind_of temp) ≡ true → temp ≡ held → is_held (kind_of held) ≡ true → ⊥
temp_unheld temp held is same other = not_both (is_held (kind_of held)) other (subst (λ z. is_held (kind_of z) ≡ false) same (is_temp_unheld temp is))

pub committed_unheld : (q : Place) (name held : List ℕ) → is_committed q name ≡ true → name ≡ held → is_held (kind_of held) ≡ true → ⊥
committed_unheld q name held is same other = let e = is_committed_quiet q name is in let f = held_stands held other in absurd (let no : true ≡ false = sym f ∙ (ap (λ z. is_standing z) (sym same) ∙ e) in cc (no))

module _ (run : ℕ) (few : run < 2 ^ 128) (path : List ℕ) (job : RefileJob) where
  abbrev pub w : Pledge
  w = refile_pledge run path job

  abbrev pub p : Place
  p = Folder path job.source

  -- what was chosen once stays so
  pub chosen_kept : (n : ℕ) → KeptBy AnyStep (WasChosen run path job n)
  chosen_kept n own s a any f = record { listing = f.listing; text = f.text; context = f.context; seen = seen_kept run p (Mail path) f.listing f.text f.context own s a tt f.seen; numbers = f.numbers; chosen = f.chosen; one = f.one }

  -- a folder may be begun, where the manner has it so
  lets_of : (folder : List ℕ) → ((own : List Deed) (kind : Kind) (s : Step) → KeepsFolder path folder kind s → MakesStep (manner_by job.link path job) own kind s) → LetsBegin path folder (manner_by job.link path job) (RefilesSo run path job)
  lets_of folder kinds = record {
    kinds = kinds;
    makes = λ own q. ((λ held e h. absurd (cc (e))), (λ number held n e k h. absurd (cc (e))), (λ r temp number e is. absurd (cc (e))));
    creates = λ own q name bytes. ((λ held e h. absurd (cc (e))), (λ number held n e k h. absurd (cc (e))), (λ r temp number e is. absurd (cc (e))));
    clears = λ own q temp is. (
      (λ held e h. absurd (let same : temp ≡ held = cc (e) in temp_unheld temp held is same h)),
      (λ number held n e k h. absurd (cc (e))),
      (λ r other number e is_temp_. absurd (cc (e))),
    );
    gives = λ own q held number is. (
      (λ other e h. absurd (cc (e))),
      (λ from other n e k h. absurd (cc (e))),
      (λ r temp other e is_temp_. absurd (let same : temp ≡ held = cc (e) in temp_unheld temp held is_temp_ same is)),
    );
    drops = λ own q held is away. (
      (λ other e h. inl (let same : q ≡ p = cc (e) in let alike : held ≡ other = cc (e) in subst (λ z. WasGivenAway z other own) same (subst (λ z. WasGivenAway q z own) alike away))),
      (λ number other n e k h. absurd (cc (e))),
      (λ r temp number e is_temp_. absurd (cc (e))),
    );
    commits = λ own q temp name is. (
      (λ held e h. absurd (cc (e))),
      (λ number held n e k h. absurd (let same : name ≡ held = cc (e) in committed_unheld q name held is same h)),
      (λ r other number e is_temp_. absurd (cc (e))),
    );
  }

  keeps_source : (b : Bool) (own : List Deed) (kind : Kind) (s : Step) → KeepsFolder path job.source kind s → MakesStep (manner_by b path job) own kind s
  keeps_source true own kind s k = inl k
  keeps_source false own kind s k = inl k

  keeps_destination : (b : Bool) (name : List ℕ) → Contains (destinations_of job) name → (own : List Deed) (kind : Kind) (s : Step) → KeepsFolder path name kind s → MakesStep (manner_by b path job) own kind s
  keeps_destination true name c own kind s k = inr (inl (name, c, k))
  keeps_destination false name c own kind s k = inr (inl (name, c, k))

  -- the source
  pub lets_source : LetsBegin path job.source (manner_by job.link path job) (RefilesSo run path job)
  lets_source = lets_of job.source (keeps_source job.link)

  pub withdraws_kept : (listing : List Run) (m new : Marked) → KeptBy AnyStep (λ own. Withdraws run path job own listing m new)
  withdraws_kept listing m new own s a any f = (f.0, f.1, f.2, (λ n e. on (f.3 n e)), f.4)

  pub marks_source : (own : List Deed) (q : Place) (name old text : List ℕ) → WritesOf run path job.source (Withdraws run path job) (job.set_current ≡ true) own q name old text → w.may_mark own q name old text
  marks_source own q name old text f = inl f

  -- a destination
  module _ (name : List ℕ) (c : Contains (destinations_of job) name) where
    abbrev q : Place
    q = Folder path name

    lets_destination : LetsBegin path name (manner_by job.link path job) (RefilesSo run path job)
    lets_destination = lets_of name (keeps_destination job.link name c)

    nothing_kept : (listing : List Run) (m new : Marked) → KeptBy AnyStep (λ own. MakesNothing own listing m new)
    nothing_kept listing m new own s a any f = f

    marks_destination : (own : List Deed) (r : Place) (n old text : List ℕ) → WritesOf run path name MakesNothing ⊥ own r n old text → w.may_mark own r n old text
    marks_destination own r n old text f = inr (name, c, f)

    pub destination_goes : (own : List Deed) (h : Hand) → Goes w own h (made_begun run q (Mail path) name) (okay (λ later j o. HasBegun w own path name later o))
    destination_goes own h = folder_marks.made_goes w few path name MakesNothing ⊥ lets_destination nothing_kept marks_destination own h

  -- a message that the words choose was read, and had these bytes
  pub record HasReadOne (bytes : List ℕ) (own : List Deed) : Type 0 where
    pub number : ℕ
    pub ok : IsMsgNum number
    pub chosen : WasChosen run path job number own
    pub read : HasReadOf run path job number bytes own

  pub read_one_kept : (bytes : List ℕ) → KeptBy AnyStep (HasReadOne bytes)
  read_one_kept bytes own s a any f = record { number = f.number; ok = f.ok; chosen = chosen_kept f.number own s a any f.chosen; read = on f.read }

  -- the folders of which the run has the locks
  abbrev pub In : Place → Type 0
  In q = (q ≡ p) ⊎ ((name : List ℕ) × Contains (destinations_of job) name × (q ≡ Folder path name))

  -- nothing is asked of numbers
  abbrev pub Known : Place → ℕ → List Deed → Type 0
  Known q n own = Unit {0}

  chosen_number : (n : ℕ) → IsMsgNum n → IsChosen every_message (entry_text (Number n))
  chosen_number n ok = (n, kind_of-entry_text (Number n) ok, in_up 1 999999 n ok.0 (let l = ok.1 in omega (arith, l)))

  held_any : (n : ℕ) → IsMsgNum n → is_held (kind_of (entry_text (Held run n))) ≡ true
  held_any n ok = is_held_any run (entry_text (Held run n)) (is_held_so run few n ok)

  read_held : job.link ≡ false → (bytes : List ℕ) (own : List Deed) → HasReadOne bytes own → HasReadHeld p bytes own
  read_held link bytes own f = once_map (λ d older r. (entry_text (Held run f.number), held_any f.number f.ok, subst (λ b. IsRead p (name_read b run f.number) bytes d) link r)) f.read

  read_chosen : job.link ≡ true → (bytes : List ℕ) (own : List Deed) → HasReadOne bytes own → HasReadChosen p every_message bytes own
  read_chosen link bytes own f = once_map (λ d older r. (entry_text (Number f.number), chosen_number f.number f.ok, subst (λ b. IsRead p (name_read b run f.number) bytes d) link r)) f.read

  -- a message may be put into a destination once it was read
  module _ (name : List ℕ) (c : Contains (destinations_of job) name) (bytes : List ℕ) where
    puts_by : (b : Bool) → job.link ≡ b → (own : List Deed) (temp number : List ℕ) → WasReady (Folder path name) temp bytes own → HasReadOne bytes own → MakesStep (manner_by b path job) own Puts (step.Link (Folder path name) temp number)
    puts_by true link own temp number ready f = inr (inr (name, c, bytes, read_chosen link bytes own f, (refl, temp, number, refl, ready)))
    puts_by false link own temp number ready f = inr (inr (inr (inl (name, c, bytes, read_held link bytes own f, (refl, temp, number, refl, ready)))))

    pub puts : PutsMessages w (Folder path name) bytes (Known (Folder path name)) None (HasReadOne bytes)
    puts = record {
      serves = folder_marks.serves_folder w few path name MakesNothing ⊥ (lets_destination name c) (nothing_kept name c) (marks_destination name c);
      puts = λ own temp number ready f. puts_by job.link refl own temp number ready f;
      link = λ own temp n is_own is_number_ reach ready f. (
        (λ held e h. absurd (cc (e))),
        (λ number held k e kind h. absurd (cc (e))),
        (λ r other number e is_temp_.
            let same : Folder path name ≡ r = cc (e) in
            let alike : temp ≡ other = cc (e) in (
              subst (λ z. Contains (folders_of path (destinations_of job)) z) same (folder_there path (destinations_of job) name c),
              subst (λ z. IsOfChosen run path job z other own) same (subst (λ z. IsOfChosen run path job (Folder path name) z own) alike (record { number = f.number; chosen = f.chosen; bytes = bytes; read = f.read; ready = ready })),
            )),
      );
      kept = λ n own s a any f. tt;
      linked = λ own temp n. tt;
      met = λ own temp n. tt;
      made_now = λ own temp f. read_one_kept bytes _ (step.SyncFile (Folder path name) temp) answer.Done tt (read_one_kept bytes own (step.Create (Folder path name) temp bytes) answer.Done tt f);
      met_now = λ own temp n f. read_one_kept bytes own (step.Link (Folder path name) temp (decimal n)) answer.Exists tt f;
    }

  pub open_to : (name : List ℕ) (c : Contains (destinations_of job) name) → IsOpenTo w few p In Known HasReadOne read_one_kept (Folder path name)
  open_to name c = record {
    is_there = refl;
    is_in = inr (name, c, refl);
    apart = λ e. destinations_other job name c (cc (e));
    lets = λ bytes. puts name c bytes;
  }

  -- messages leave
  module _ (link : job.link ≡ false) where
    by_manner : (own : List Deed) (kind : Kind) (s : Step) → MakesStep (manner_by false path job) own kind s → MakesStep (manner_by job.link path job) own kind s
    by_manner own kind s f = subst (λ b. MakesStep (manner_by b path job) own kind s) (sym link) f

    takes_one : (n : ℕ) (own : List Deed) → IsMsgNum n → WasChosen run path job n own → LetsTake w p n own
    takes_one n own ok may = record {
      makes = by_manner own Takes (taking run p n) (inr (inr (inl (refl, entry_text (Number n), chosen_number n ok, entry_text (Held run n), refl))));
      may = (
        (λ held e h. absurd (cc (e))),
        (λ number held k e kind h.
            let from : entry_text (Number n) ≡ number = cc (e) in
            let same : Number n ≡ Number k = sym (kind_of-entry_text (Number n) ok) ∙ (ap kind_of from ∙ kind) in
            let alike : n ≡ k = cc (same) in (link, subst (λ z. WasChosen run path job z own) alike may)),
        (λ r temp number e is. absurd (cc (e))),
      );
    }

    discards_one : (n : ℕ) (own : List Deed) → IsMsgNum n → (copied : HasCopied run p (entry_text (Held run n)) (folders_of path (targets_of job)) own) → WasTaken run p (entry_text (Held run n)) copied.before → LetsDiscard w p (entry_text (Held run n)) own
    discards_one n own ok copied taken = record {
      makes = by_manner own Discards (step.Unlink p (entry_text (Held run n))) (inr (inr (inr (inr (refl, refl)))));
      may = (
        (λ held e h.
            let same : entry_text (Held run n) ≡ held = cc (e) in inr (link, subst (λ z. WasTakenAndCopied run p z (folders_of path (targets_of job)) own) same (record { copied = copied; taken = taken }))),
        (λ number held k e kind h. absurd (cc (e))),
        (λ r temp number e is. absurd (cc (e))),
      );
    }

    pub lets_refile : LetsRefile w few p refl In (inl refl) Known HasReadOne read_one_kept (folders_of path (targets_of job)) (WasChosen run path job)
    lets_refile = record {
      takes = takes_one;
      reads = λ n bytes own ok may. record {
        number = n;
        ok = ok;
        chosen = chosen_kept n own (step.Read p (entry_text (Held run n)) LIMIT_BYTES) (answer.Content bytes) tt may;
        read = now (LIMIT_BYTES, subst (λ b. did (step.Read p (entry_text (Held run n)) LIMIT_BYTES) (answer.Content bytes) ≡ did (step.Read p (name_read b run n) LIMIT_BYTES) (answer.Content bytes)) (sym link) refl);
      };
      discards = discards_one;
      lasts = chosen_kept;
    }

  -- or are copied and stay
  module _ (link : job.link ≡ true) where
    -- a message number that the words choose
    abbrev pub MayCopy : ℕ → List Deed → Type 0
    MayCopy n own = IsMsgNum n × WasChosen run path job n own

    pub lets_copy : LetsCopy w few p In Known HasReadOne read_one_kept MayCopy
    lets_copy = record {
      reads = λ n bytes own may. record {
        number = n;
        ok = may.0;
        chosen = chosen_kept n own (step.Read p (entry_text (Number n)) LIMIT_BYTES) (answer.Content bytes) tt may.1;
        read = now (LIMIT_BYTES, subst (λ b. did (step.Read p (entry_text (Number n)) LIMIT_BYTES) (answer.Content bytes) ≡ did (step.Read p (name_read b run n) LIMIT_BYTES) (answer.Content bytes)) (sym link) refl);
      };
      lasts = λ n own s a any may. (may.0, chosen_kept n own s a any may.1);
    }
