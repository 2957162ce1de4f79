-- The format that is found, and the plan that goes on with it.
use Rattle.std.proofs.Common.{◌≡◌, ℕ, List, refl, sym, ap}
use Rattle.std.specs.Prelude.{Result, Ok, Err, IsErr, IsErrAnd}
use Rattle.format_compiler.specs.declared.fault.FormatFault.{FormatFault}
use Rattle.format_compiler.specs.declared.fault.FormatFault.TheVariants.{Bad, Memory}
use Rattle.format_compiler.specs.declared.instruction.Instruction.{Instruction}
use Rattle.format_compiler.specs.Code.{IsCodeOf}
use Rattle.format_compiler.specs.FormatOf.{IsRead}
use Rattle.format_compiler.specs.Grammar.{Format}
use Rattle.folder_files.specs.declared.refusal.Refusal.TheVariants as refusal
use Rattle.file_plans.specs.Follows.{State, Follows}
use Rattle.file_plans.specs.Plan.{◌>>=◌, Return}
use Rattle.folder_files.specs.declared.place.FilePath.{FilePath}
use Rattle.file_plans.specs.Asking.{read_file, stop_cause}
use Rattle.file_plans.specs.declared.answers.Reading.{Reading}
use Rattle.file_plans.specs.declared.asking.Stop.{Stop}
use Rattle.file_plans.proofs.Following.{done, go, go_from, no_room_at, refuses, stop, stop_from}
use Rattle.step_plans.specs.CommandFaults.{command_cause, of_stop}
use Rattle.command_stages.proofs.Causes.{stop_same}
use Rattle.step_plans.specs.declared.command_fault.CommandFault.{CommandFault}
use Rattle.step_plans.specs.declared.command_fault.CommandFault.TheVariants as fault
use Rattle.command_stages.specs.Texts.{Commanded}
use Rattle.command_stages.specs.Values.{IsErrorOf}
use Rattle.message_lines.specs.Finding.{file_read, Finds, format_by, IsIn, LIMIT_FORMAT, wrong_at}

-- a text that was read is a format, or is refused
pub read_ok : (value : Result Format ℕ) (program : List Instruction) → IsRead value (Ok program) → IsIn (wrong_at value) (Ok program)
read_ok (Ok f) program is = (f, refl, is)
read_ok (Err at) program is = absurd is

pub read_bad : (value : Result Format ℕ) (at : ℕ) → IsRead value (Err (Bad at)) → IsIn (wrong_at value) (Err (fault.Refused (refusal.BadFormat at)))
read_bad (Ok f) at is = absurd is
read_bad (Err place) at is = ap (λ (n : ℕ). let e : Result Format CommandFault = Err (fault.Refused (refusal.BadFormat n)) in e) (sym is)

-- a value that is found by no step
ended_so : (run : ℕ) (x : State) (value : Result Format CommandFault) (e : CommandFault) → IsErrorOf value e → Follows run command_cause (Return value) x x (Err e)
ended_so run x value (fault.Refused r) is = rw is (refuses _ refl)
ended_so run x value (fault.Faulted w) is = absurd is
ended_so run x value (fault.Locked p) is = absurd is
ended_so run x value (fault.Meddled p y) is = absurd is
ended_so run x value fault.Memory is = no_room_at refl

pub finds_value : (run : ℕ) (x : State) (value : Result Format CommandFault) (r : Result (List Instruction) CommandFault) → IsIn value r → Finds run (Return value) x x r
finds_value run x value (Ok program) (f, is, code) = (f, code, rw is done)
finds_value run x value (Err e) is = ended_so run x value e is

pub finds_stopped : (run : ℕ) (plan : Commanded Format) (x y : State) (e : CommandFault) (r : Result (List Instruction) CommandFault) → Follows run command_cause plan x y (Err e)
    → IsErr r × IsErrAnd r (λ f. f ≡ e) → Finds run plan x y r
finds_stopped run plan x y e (Ok program) f is = absurd (let no = is.0 in cc)
finds_stopped run plan x y e (Err other) f is = rw is.1 f

-- the format of a file that was read
pub finds_file : (run : ℕ) (path : FilePath) (x y : State) (reading : Reading) (r : Result (List Instruction) CommandFault)
    → Follows run stop_cause (read_file path LIMIT_FORMAT) x y (Ok reading) → IsIn (format_by path reading) r → Finds run (file_read path) x y r
unfolding file_read
finds_file run path x y reading (Ok program) read (f, is, code) = (f, code, go_from _ _ read (rw is done))
finds_file run path x y reading (Err e) read is = go_from _ _ read (ended_so run y (format_by path reading) e is)

err_is : (e : CommandFault) → IsErr {T = Format} {E = CommandFault} (Err e) × IsErrAnd {T = Format} {E = CommandFault} (Err e) (λ f. f ≡ e)
err_is e = (refl, refl)

pub finds_none : (run : ℕ) (path : FilePath) (x y : State) (e : Stop) (r : Result (List Instruction) CommandFault) → Follows run stop_cause (read_file path LIMIT_FORMAT) x y (Err e)
    → IsErr r × IsErrAnd r (λ f. f ≡ of_stop e) → Finds run (file_read path) x y r
unfolding file_read
finds_none run path x y e r read is = finds_stopped run (file_read path) x y (of_stop e) r (stop_from _ stop_same read (err_is (of_stop e))) is

-- the plan goes on with the format that was found
pub finds_on : {A : Type 0} (run : ℕ) (plan : Commanded Format) (k : Format → Commanded A) (x y z : State) (program : List Instruction) (r : Result A CommandFault)
    → Finds run plan x y (Ok program) → ((f : Format) → IsCodeOf program f → Follows run command_cause (k f) y z r) → Follows run command_cause (plan >>= k) x z r
finds_on run plan k x y z program r (f, code, found) on = go k found (on f code)

pub finds_off : {A : Type 0} (run : ℕ) (plan : Commanded Format) (k : Format → Commanded A) (x y : State) (e : CommandFault) (r : Result A CommandFault)
    → Finds run plan x y (Err e) → IsErr r × IsErrAnd r (λ f. f ≡ e) → Follows run command_cause (plan >>= k) x y r
finds_off run plan k x y e r found is = stop k found is
