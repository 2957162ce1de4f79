-- What the code looks by is what the words, the profile and who calls name.
use Rattle.std.proofs.Common.{◌≡◌, ◌⊎◌, inl, inr, ℕ, List, [], Result, Ok, refl, ap, sym, subst}
use Rattle.std.specs.Prelude.{Err, IsErr, IsErrAnd}
use Rattle.format_compiler.specs.declared.instruction.Instruction.{Instruction}
use Rattle.format_compiler.specs.Grammar.{Format}
use Rattle.mh_profile.specs.declared.named_value.NamedValue.{NamedValue}
use Rattle.step_plans.specs.CommandFaults.{command_cause}
use Rattle.step_plans.specs.declared.command_fault.CommandFault.{CommandFault}
use Rattle.step_plans.specs.declared.command_fault.CommandFault.TheVariants as fault
use Rattle.command_stages.specs.Texts.{Commanded}
use Rattle.command_stages.specs.Values.{IsErrorOf}
use Rattle.folder_files.specs.declared.place.FilePath.{FilePath}
use Rattle.file_plans.specs.Follows.{Follows, State}
use Rattle.file_plans.specs.Plan.{Return}
use Rattle.file_plans.proofs.Following.{done, no_room_at}
use Rattle.message_lines.specs.Finding.{Finds, file_read, IsIn}
use Rattle.message_lines.specs.MessageText.{Sight, coded, formed, Writing}
use Rattle.message_lines.specs.declared.standing.Standing.{Standing}
use Rattle.message_lines.proofs.FormatFinds.{finds_off, finds_on}
use Rattle.message_lines.proofs.Texts.{all_formed}
use Rattle.command_words.specs.Ended.{plain}
use Rattle.command_words.specs.declared.ended.Ended.{Ended}
use Rattle.look_words.specs.declared.inc.IncWords.{IncWords}
use Rattle.look_words.specs.declared.look.LookWords.{LookWords}
use Rattle.look_words.specs.declared.scan.ScanWords.{ScanWords}
use Rattle.command_plans.specs.Incorporating.{IncAsked, drop_of, inc_job, job_looked, unseen_of}
use Rattle.command_plans.specs.Looking.{InFile, Known, ScanAsked, Telling, asked_by, known_by, look_found, scan_asked, sight_by, telling_of}
use Rattle.command_plans.specs.Profile.{folder_of}
use Rattle.command_plans.specs.declared.caller.Caller.{Caller}
use Rattle.look_commands.specs.declared.look.LookSaid.{LookSaid}
use Rattle.look_commands.specs.Asked.{asked_of}
use Rattle.look_commands.specs.Looks.{IsSource, telling_said}
use Rattle.look_commands.specs.Results.{FollowsAs, IsNamedAs, IsSaidAs}

-- what the format that is named makes of messages is what its program makes
pub known_is : (sight : Sight) (program : List Instruction) (value : Result Format CommandFault) → IsIn value (Ok program) → known_by sight value ≡ Ok (Known (coded program sight))
known_is sight program value (f, is, code) =
    rw is (ap (λ (spoken : Standing → Writing). let r : Result Telling CommandFault = Ok (Known spoken) in r) (sym (all_formed program f sight code)))

pub scan_looked : (caller : Caller) (words : ScanWords) (look : LookSaid) → telling_of caller words.look ≡ Ok (telling_said caller look)
    → asked_by words (telling_of caller words.look) ≡ Ok (asked_of caller (record { words = words; look = look }))
scan_looked caller words look is = ap (asked_by words) is

pub look_ended : (caller : Caller) (words : LookWords) (e : CommandFault) (r : Result LookSaid CommandFault) → IsSource words.format (Err e) → IsErr r × IsErrAnd r (λ f. f ≡ e) → IsNamedAs (telling_said caller) (telling_of caller words) r
look_ended caller words e (Ok l) found is = absurd (let none = is.0 in cc)
look_ended caller words e (Err f) found is = rw is.1 (found (sight_by caller words))

-- a format that is refused, or for which there was no memory
asked_ended : (words : ScanWords) (t : Result Telling CommandFault) (e : CommandFault) → IsErrorOf t e → (asked_by words t ≡ Err (plain e)) ⊎ (e ≡ fault.Memory)
asked_ended words t (fault.Refused r) is = inl (ap (asked_by words) is)
asked_ended words t (fault.Faulted which) is = absurd is
asked_ended words t (fault.Locked p) is = absurd is
asked_ended words t (fault.Meddled p x) is = absurd is
asked_ended words t fault.Memory is = inr refl

pub scan_ended : {B : Type 0} (view : B → ScanAsked) (caller : Caller) (words : ScanWords) (value : Result ScanWords Ended) (e : CommandFault) (r : Result B Ended) → value ≡ Ok words → IsErrorOf (telling_of caller words.look) e
    → IsErr r × IsErrAnd r (λ f. f ≡ plain e) → IsSaidAs view (scan_asked caller value) r
scan_ended view caller words value e (Ok b) said found is = absurd (let none = is.0 in cc)
scan_ended view caller words value e (Err f) said found is = rw (said, is.1) (asked_ended words (telling_of caller words.look) e found)

job_ended : (caller : Caller) (profile : List NamedValue) (words : IncWords) (unseen : List (List ℕ)) (folder : List ℕ) (t : Result Telling CommandFault) (e : CommandFault) → IsErrorOf t e → IsErrorOf (job_looked caller profile words unseen folder t) e
job_ended caller profile words unseen folder t (fault.Refused r) is = ap (job_looked caller profile words unseen folder) is
job_ended caller profile words unseen folder t (fault.Faulted which) is = is
job_ended caller profile words unseen folder t (fault.Locked p) is = is
job_ended caller profile words unseen folder t (fault.Meddled p x) is = is
job_ended caller profile words unseen folder t fault.Memory is = tt

pub inc_ended : {B : Type 0} (view : B → IncAsked) (caller : Caller) (profile : List NamedValue) (words : IncWords) (unseen : List (List ℕ)) (folder : List ℕ) (e : CommandFault) (r : Result B CommandFault) → unseen_of profile ≡ Ok unseen
    → folder_of words.folder [] profile ≡ Ok folder → IsErrorOf (telling_of caller words.look) e → IsErr r × IsErrAnd r (λ f. f ≡ e) → IsNamedAs view (inc_job caller profile words) r
inc_ended view caller profile words unseen folder e (Ok b) unseen_is folder_is found is = absurd (let none = is.0 in cc)
inc_ended view caller profile words unseen folder e (Err f) unseen_is folder_is found is = rw (unseen_is, folder_is, is.1) (job_ended caller profile words unseen folder (telling_of caller words.look) e found)

abbrev inc_telling : IncWords → List (List ℕ) → List ℕ → FilePath → Telling → IncAsked
inc_telling words unseen folder drop telling = record {
  folder = folder;
  drop = drop;
  truncate = words.truncate;
  silent = words.silent;
  change_cur = words.change_cur;
  unseen = unseen;
  telling = telling;
}

pub inc_named : (caller : Caller) (profile : List NamedValue) (words : IncWords) (unseen : List (List ℕ)) (folder : List ℕ) (drop : FilePath) (look : LookSaid)
    → unseen_of profile ≡ Ok unseen
    → folder_of words.folder [] profile ≡ Ok folder
    → drop ≡ drop_of caller.user profile words.file
    → telling_of caller words.look ≡ Ok (telling_said caller look)
    → inc_job caller profile words ≡ Ok (inc_telling words unseen folder drop (telling_said caller look))
inc_named caller profile words unseen folder drop look unseen_is folder_is drop_is look_is = rw (unseen_is, folder_is, drop_is, look_is)

-- the format of the file is read
pub look_read : (run : ℕ) (path : FilePath) (sight : Sight) (x y : State) (program : List Instruction) → Finds run (file_read path) x y (Ok program)
    → Follows run command_cause (look_found (InFile path sight)) x y (Ok (coded program sight))
unfolding look_found
look_read run path sight x y program found =
    finds_on run (file_read path) (λ f. Return (Ok (formed f sight))) x y y program (Ok (coded program sight)) found
    (λ f code. subst (λ (s : Standing → Writing). Follows run command_cause (Return (Ok (formed f sight))) y y (Ok s)) (sym (all_formed program f sight code)) done)

pub look_unread : {B : Type 0} (view : B → Standing → Writing) (run : ℕ) (path : FilePath) (sight : Sight) (x y : State) (e : CommandFault) (r : Result B CommandFault) → Finds run (file_read path) x y (Err e) → IsErr r × IsErrAnd r (λ f. f ≡ e)
    → FollowsAs view run command_cause (look_found (InFile path sight)) x y r
unfolding look_found
look_unread view run path sight x y e (Ok b) found is = absurd (let none = is.0 in cc)
look_unread view run path sight x y e (Err f) found is = rw is.1 (finds_off run (file_read path) (λ f. Return (Ok (formed f sight))) x y e (Err e) found (refl, refl))

-- whatever reading it gave
pub look_file : (run : ℕ) (path : FilePath) (sight : Sight) (x y : State) (r : Result (List Instruction) CommandFault) → Finds run (file_read path) x y r
    → FollowsAs (λ program. coded program sight) run command_cause (look_found (InFile path sight)) x y r
look_file run path sight x y (Ok program) found = look_read run path sight x y program found
look_file run path sight x y (Err e) found = look_unread (λ program. coded program sight) run path sight x y e (Err e) found (refl, refl)

pub look_stopped : {B : Type 0} (view : B → Standing → Writing) (run : ℕ) (plan : Commanded (Standing → Writing)) (x y : State) (e : CommandFault) (r : Result B CommandFault) → Follows run command_cause plan x y (Err e) → IsErr r × IsErrAnd r (λ f. f ≡ e)
    → FollowsAs view run command_cause plan x y r
look_stopped view run plan x y e (Ok b) f is = absurd (let none = is.0 in cc)
look_stopped view run plan x y e (Err d) f is = rw is.1 f

-- there was no memory for it
pub look_unready : {B : Type 0} (view : B → Standing → Writing) (run : ℕ) (plan : Commanded (Standing → Writing)) (x : State) (r : Result B CommandFault) → IsErr r × IsErrAnd r (λ f. f ≡ fault.Memory) → FollowsAs view run command_cause plan x x r
look_unready view run plan x (Ok b) is = absurd (let none = is.0 in cc)
look_unready view run plan x (Err e) is = rw is.1 (no_room_at refl)

-- or it is known
pub look_known : (run : ℕ) (spoken : Standing → Writing) (x : State) → Follows run command_cause (look_found (Known spoken)) x x (Ok spoken)
unfolding look_found
look_known run spoken x = done
