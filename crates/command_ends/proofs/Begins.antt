-- How a command goes on by its words, whatever it may say and however it is to end: it reads the profile, and then the
-- context.
use Rattle.std.proofs.Common.{◌≡◌, inl, [], ℕ, List, Option, Result, Ok, Err, refl, sym, ◌∙◌, subst}
use Rattle.mh_profile.specs.Reading.{entries_in}
use Rattle.folder_files.specs.Deeds.{Deed}
use Rattle.folder_files.specs.declared.place.Place.TheVariants.{Home, Mail}
use Rattle.folder_files.specs.declared.step.Answer.{Answer}
use Rattle.file_plans.specs.Text.{said_of}
use Rattle.file_plans.specs.Plan.{Hand, Plan, Return, after, converted, fresh, lifted, ◌>>=◌}
use Rattle.file_plans.specs.Rules.{Keeps, Rules}
use Rattle.file_plans.specs.Runs as runs
use Rattle.file_plans.proofs.Acting.{acts}
use Rattle.file_plans.proofs.Keeping.{keeps_bind}
use Rattle.step_plans.specs.Hands.{knowing}
use Rattle.step_plans.specs.declared.command_fault.CommandFault.{CommandFault}
use Rattle.step_plans.proofs.Coming.{Comes, NoneFailed, OfActs, anything, comes_clean, comes_keeps}
use Rattle.step_plans.proofs.Going.{Outcome}
use Rattle.command_stages.specs.Texts.{Commanded, text_read}
use Rattle.opening_plans.specs.Endings.{IsToldBy}
use Rattle.opening_plans.proofs.EndedKept.{keeps_more}
use Rattle.opening_plans.proofs.Speaking.{keeps_both, keeps_holding, silence, silent_told, silently, speaking, speaks_more}
use Rattle.command_words.specs.Ended.{plain}
use Rattle.command_words.specs.declared.ended.Ended.{Ended}
use Rattle.command_plans.specs.Command.{by_words, command, command_by, context_entered, folder_found}
use Rattle.command_plans.specs.Profile.{entries_by, folder_of, path_by, profile_name}
use Rattle.command_plans.specs.declared.caller.Caller.{Caller}
use Rattle.command_ends.specs.BegunCauses.{ShowsEarly}
use Rattle.command_ends.specs.Causes.{ShowsLongEntries}
use Rattle.command_ends.proofs.BegunParts.{Enters, Found, Profile, after_context, after_profile, entered_comes, entered_silent, found_comes, found_silent, none_lasts, none_told, profile_comes, profile_silent}

module _ (Spoken : List ℕ → List Deed → Type 0) where
  abbrev Speech : Rules
  Speech = speaking Spoken

  -- a plan that ends at once, where nothing was said
  pub returns : {R : Type 0} (past : List runs.Deed) (h : Hand) (r : R) (Q : List runs.Deed → Hand → R → Type 0) → said_of past ≡ [] → Q past h r → Keeps Speech past h (Return r) Q
  unfolding Keeps
  returns past h r Q silent f = (inl silent, f)

  -- a part that is silent, where nothing was said before
  in_silence : {R : Type 0} (past : List runs.Deed) (h : Hand) (p : Plan R) (P : List runs.Deed → Hand → R → Type 0) → said_of past ≡ [] → Keeps silence past h p (λ later j r. Unit {0}) → Keeps anything past h p P
      → Keeps Speech past h p (λ later j r. (said_of later ≡ []) × P later j r)
  in_silence past h p P silent f g =
      keeps_more Speech past h p (λ later j r. ((said_of later ≡ said_of past) × IsToldBy none_told (said_of later) (acts later)) × P later j r) (λ later j r. (said_of later ≡ []) × P later j r) (λ later j r q. (q.0.0 ∙ silent, q.1))
      (speaks_more none_told Spoken (λ text own t. absurd t) past h p (λ later j r. ((said_of later ≡ said_of past) × IsToldBy none_told (said_of later) (acts later)) × P later j r)
      (keeps_both (speaking none_told) anything past h p (λ later j r. (said_of later ≡ said_of past) × IsToldBy none_told (said_of later) (acts later)) P
      (silently none_told none_lasts past h p (silent_told none_told none_lasts past silent) f) g))

  -- and what follows it
  pub silent_then : {A B E : Type 0} (past : List runs.Deed) (h : Hand) (p : Plan (Result A E)) (k : A → Plan (Result B E)) (P : Outcome (Result A E)) (Q : List runs.Deed → Hand → Result B E → Type 0)
      → said_of past ≡ [] → NoneFailed (acts past) → Keeps silence past h p (λ later j r. Unit {0}) → Comes (acts past) h p P
      → ((later : List runs.Deed) (j : Hand) (x : A) → said_of later ≡ [] → NoneFailed (acts later) → P (acts later) j (Ok x) → Keeps Speech later j (k x) Q)
      → ((later : List runs.Deed) (j : Hand) (e : E) → said_of later ≡ [] → NoneFailed (acts later) → P (acts later) j (Err e) → Q later j (Err e))
      → Keeps Speech past h (p >>= k) Q
  unfolding ◌>>=◌
  silent_then {A = A} {B = B} {E = E} past h p k P Q silent clean quiet comes good bad =
      keeps_bind Speech past h p (after k) (λ later j r. (said_of later ≡ []) × OfActs Cleanly later j r) Q
      (in_silence past h p (OfActs Cleanly) silent quiet (comes_keeps past (acts past) h p Cleanly refl (comes_clean (acts past) h p P clean comes))) go
    where
      Cleanly : Outcome (Result A E)
      Cleanly own j r = NoneFailed own × P own j r

      go : (later : List runs.Deed) (j : Hand) (r : Result A E) → (said_of later ≡ []) × OfActs Cleanly later j r → Keeps Speech later j (after k r) Q
      go later j (Ok x) q = good later j x q.0 q.1.0 q.1.1
      go later j (Err e) q = returns later j (Err e) Q q.0 (bad later j e q.0 q.1.0 q.1.1)

-- how the command ends
module _ (Spoken : List ℕ → List Deed → Type 0) (Ends : List runs.Deed → Hand → Result Unit Ended → Type 0) where
  abbrev Says : Rules
  Says = speaking Spoken

  -- and so the plan that its words ask for, whose faults speak of no word
  abbrev pub Plainly : List runs.Deed → Hand → Result Unit CommandFault → Type 0
  Plainly past h r = Ends past h (converted plain r)

  plain_keeps : (past : List runs.Deed) (h : Hand) (q : Commanded Unit) → Keeps Says past h q Plainly → Keeps Says past h (lifted plain q) Ends
  unfolding lifted Keeps
  plain_keeps past h q k =
      keeps_bind Says past h q (λ r. Return (converted plain r)) (λ later j r. Says.holds later j × Plainly later j r) Ends (keeps_holding Says past h q Plainly k) (λ later j r s. s)

  -- the whole, by what follows the profile
  pub command_keeps : (run : ℕ) (caller : Caller) (words : List (List ℕ))
      → ((past : List runs.Deed) (h : Hand) (x : Ended) → said_of past ≡ [] → NoneFailed (acts past) → ShowsLongEntries x.fault (acts past) → Ends past h (Err x))
      → ((a : Answer) (past : List runs.Deed) → acts past ≡ after_profile a → NoneFailed (acts past) → said_of past ≡ [] → Keeps Says past fresh (command_by run caller (entries_by a) words) Ends)
      → Keeps Says [] fresh (command run caller words) Ends
  unfolding command
  command_keeps run caller words long follows =
      silent_then Spoken [] fresh (lifted plain (text_read Home profile_name)) (λ text. command_by run caller (entries_in text) words) Profile Ends refl (λ m. m) (profile_silent [] fresh) profile_comes
      (λ later j text silent clean q.
      subst (λ i. Keeps Says later i (command_by run caller (entries_in text) words) Ends) (sym q.2)
      (subst (λ t. Keeps Says later fresh (command_by run caller (entries_in t) words) Ends) (sym q.3) (follows q.0 later q.1 clean silent)))
      long

  -- the profile was read
  module _ (a : Answer) (past : List runs.Deed) (is : acts past ≡ after_profile a) (clean : NoneFailed (acts past)) (silent : said_of past ≡ []) where
    -- what the words ask for, or their refusal
    pub words_keep : {W : Type 0} (starts : W → Commanded Unit) (value : Result W Ended) → ((said : W) → value ≡ Ok said → Keeps Says past fresh (starts said) Plainly) → ((x : Ended) → value ≡ Err x → Ends past fresh (Err x))
        → Keeps Says past fresh (by_words starts value) Ends
    words_keep starts (Ok said) keeps refused = plain_keeps past fresh (starts said) (keeps said refl)
    words_keep starts (Err x) keeps refused = returns Spoken past fresh (Err x) Ends silent (refused x refl)

    -- the context, and what follows it
    pub context_then : (act : Commanded Unit) → ((later : List runs.Deed) (j : Hand) (e : CommandFault) → said_of later ≡ [] → NoneFailed (acts later) → ShowsLongEntries e (acts later) → Plainly later j (Err e))
        → ((later : List runs.Deed) (b : Answer) → acts later ≡ after_context (path_by a) a b → NoneFailed (acts later) → said_of later ≡ [] → Keeps Says later (knowing (entries_by b) fresh) act Plainly)
        → Keeps Says past fresh (context_entered (Mail (path_by a)) >>= (λ entered. act)) Plainly
    context_then act long follows =
        silent_then Spoken past fresh (context_entered (Mail (path_by a))) (λ entered. act) (Enters a) Plainly silent clean (entered_silent past fresh (Mail (path_by a)))
        (subst (λ o. Comes o fresh (context_entered (Mail (path_by a))) (Enters a)) (sym is) (entered_comes a))
        (λ later j u quiet live q. subst (λ i. Keeps Says later i act Plainly) (sym q.2) (follows later q.0 q.1 live quiet)) long

    -- the folder that is acted on, and what follows
    pub folder_then : (named_in : Option (List ℕ)) (act : List ℕ → Commanded Unit)
        → ((later : List runs.Deed) (j : Hand) (e : CommandFault) → said_of later ≡ [] → NoneFailed (acts later) → ShowsEarly e (acts later) → Plainly later j (Err e))
        → ((later : List runs.Deed) (b : Answer) (folder : List ℕ) → acts later ≡ after_context (path_by a) a b → folder_of named_in (entries_by b) (entries_by a) ≡ Ok folder → NoneFailed (acts later) → said_of later ≡ []
        → Keeps Says later (knowing (entries_by b) fresh) (act folder) Plainly)
        → Keeps Says past fresh (folder_found (entries_by a) named_in >>= act) Plainly
    folder_then named_in act early follows =
        silent_then Spoken past fresh (folder_found (entries_by a) named_in) act (Found a named_in) Plainly silent clean (found_silent past fresh (entries_by a) named_in)
        (subst (λ o. Comes o fresh (folder_found (entries_by a) named_in) (Found a named_in)) (sym is) (found_comes a named_in))
        (λ later j folder quiet live q. subst (λ i. Keeps Says later i (act folder) Plainly) (sym q.2) (follows later q.0 folder q.1 q.3 live quiet)) early
