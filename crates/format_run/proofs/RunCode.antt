-- Instructions and the trees that they are the code of.
use Rattle.std.proofs.Common.{◌≡◌, ℕ, zero, suc, Bool, true, false, List, [], ◌∷◌, ◌++◌, length, drop, refl, sym, ap, ◌∙◌, arith, append_assoc}
use Rattle.std.specs.Prelude.{if◌then◌else◌}
use Rattle.std.proofs.lemmas.List.{append-nil}
use Rattle.format_compiler.specs.Code.{code_of, jump_over}
use Rattle.format_compiler.specs.Grammar.{Format, Done, Then, Choice}
use Rattle.format_compiler.specs.declared.instruction.Instruction.{Instruction}
use Rattle.format_compiler.specs.declared.instruction.Instruction.TheVariants.{Print, Unless, Skip}
use Rattle.format_compiler.specs.declared.one_test.Test.{Test}
use Rattle.format_compiler.specs.declared.piece.Piece.{Piece}
use Rattle.format_run.specs.declared.state.LineState.{LineState}
use Rattle.format_run.specs.Viewed.{Viewed}
use Rattle.format_run.specs.Meaning.{Progress, meaning}
use Rattle.format_run.specs.Meaning as meant
use Rattle.format_run.specs.Stepping.{holds, printed, tested}
use Rattle.format_run.proofs.HeldStates.{at, printed_at, tested_at}
use Rattle.format_run.specs.Running.{run}

-- nothing is left to run
pub ran_out : (view : Viewed) (skipped : ℕ) (s : LineState) → run view skipped [] s ≡ s
unfolding run
ran_out view zero s = refl
ran_out view (suc skipped) s = refl

passed : (view : Viewed) (skipped : ℕ) (i : Instruction) (code : List Instruction) (s : LineState) → run view (suc skipped) (i ∷ code) s ≡ run view skipped code s
unfolding run
passed view skipped i code s = refl

pub ran_print : (view : Viewed) (piece : Piece) (code : List Instruction) (s : LineState) → run view 0 (Print piece ∷ code) s ≡ run view 0 code (printed view piece s)
unfolding run
ran_print view piece code s = refl

pub ran_unless : (view : Viewed) (test : Test) (count : ℕ) (code : List Instruction) (s : LineState)
    → run view 0 (Unless test count ∷ code) s ≡ run view (if holds (tested view test s) then 0 else count) code (tested view test s)
unfolding run
ran_unless view test count code s = refl

pub ran_skip : (view : Viewed) (count : ℕ) (code : List Instruction) (s : LineState) → run view 0 (Skip count ∷ code) s ≡ run view count code s
unfolding run
ran_skip view count code s = refl

-- what is skipped doesn't count
pub skipping : (view : Viewed) (skipped : ℕ) (code : List Instruction) (s : LineState) → run view skipped code s ≡ run view 0 (drop skipped code) s
skipping view zero code s = refl
skipping view (suc skipped) [] s = ran_out view (suc skipped) s ∙ sym (ran_out view 0 s)
skipping view (suc skipped) (i ∷ code) s = passed view skipped i code s ∙ skipping view skipped code s

-- a whole part is skipped
skipped_part : (view : Viewed) (part code : List Instruction) (s : LineState) → run view (length part) (part ++ code) s ≡ run view 0 code s
skipped_part view [] code s = refl
skipped_part view (i ∷ part) code s = ap (λ n. run view n (i ∷ (part ++ code)) s) (omega arith) ∙ passed view (length part) i (part ++ code) s ∙ skipped_part view part code s

-- the jump over a part skips it
jumped : (view : Viewed) (part code : List Instruction) (s : LineState) → run view 0 (jump_over part ++ (part ++ code)) s ≡ run view 0 code s
jumped view [] code s = refl
jumped view (i ∷ part) code s = ran_skip view (length (i ∷ part)) ((i ∷ part) ++ code) s ∙ skipped_part view (i ∷ part) code s

abbrev Ran : Viewed → Format → Type 0
Ran view f = (rest : List Instruction) (p : Progress) → run view 0 (code_of f ++ rest) (at p) ≡ run view 0 rest (at (meaning view f p))

-- the code of a conditional, where its test holds or doesn't
choice_by : (view : Viewed) (t : Bool) (taken other f : Format) → Ran view taken → Ran view other → Ran view f
    → (rest : List Instruction) (p : Progress)
    → run view (if t then 0 else length (code_of taken ++ jump_over (code_of other))) ((code_of taken ++ jump_over (code_of other) ++ code_of other ++ code_of f) ++ rest) (at p)
    ≡ run view 0 rest (at (meaning view f (if t then meaning view taken p else meaning view other p)))
choice_by view true taken other f ran_taken ran_other ran_f rest p =
    let T = code_of taken in let J = jump_over (code_of other) in let O = code_of other in let F = code_of f in
    let regroup : (T ++ J ++ O ++ F) ++ rest ≡ T ++ (J ++ (O ++ (F ++ rest))) = simp append_assoc in
    ap (λ code. run view 0 code (at p)) regroup ∙ ran_taken (J ++ (O ++ (F ++ rest))) p ∙ jumped view O (F ++ rest) (at (meaning view taken p))
    ∙ ran_f rest (meaning view taken p)
choice_by view false taken other f ran_taken ran_other ran_f rest p =
    let T = code_of taken in let J = jump_over (code_of other) in let O = code_of other in let F = code_of f in
    let regroup : (T ++ J ++ O ++ F) ++ rest ≡ (T ++ J) ++ (O ++ (F ++ rest)) = simp append_assoc in
    ap (λ code. run view (length (T ++ J)) code (at p)) regroup ∙ skipped_part view (T ++ J) (O ++ (F ++ rest)) (at p)
    ∙ ran_other (F ++ rest) p ∙ ran_f rest (meaning view other p)

-- behind the test
behind_test : (view : Viewed) (count : ℕ) (code : List Instruction) (test : Test) (p : Progress)
    → run view (if holds (tested view test (at p)) then 0 else count) code (tested view test (at p))
    ≡ run view (if meant.holds (meant.tested view test p) then 0 else count) code (at (meant.tested view test p))
behind_test view count code test p = ap (λ s. run view (if holds s then 0 else count) code s) (tested_at view test p)

-- the code of a format does what the format means
ran : (view : Viewed) (f : Format) → Ran view f
ran view Done rest p = refl
ran view (Then piece f) rest p =
    ran_print view piece (code_of f ++ rest) (at p) ∙ ap (run view 0 (code_of f ++ rest)) (printed_at view piece p) ∙ ran view f rest (meant.printed view piece p)
ran view (Choice test taken other f) rest p =
    ran_unless view test (length (code_of taken ++ jump_over (code_of other))) ((code_of taken ++ jump_over (code_of other) ++ code_of other ++ code_of f) ++ rest) (at p)
    ∙ behind_test view _ _ test p
    ∙ choice_by view (meant.holds (meant.tested view test p)) taken other f (ran view taken) (ran view other) (ran view f) rest (meant.tested view test p)

-- and nothing else
pub run_code : (view : Viewed) (f : Format) (p : Progress) → run view 0 (code_of f) (at p) ≡ at (meaning view f p)
run_code view f p = ap (λ code. run view 0 code (at p)) (sym (append-nil (code_of f))) ∙ ran view f [] p ∙ ran_out view 0 (at (meaning view f p))
