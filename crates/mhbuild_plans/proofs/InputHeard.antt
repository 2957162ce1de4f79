-- What was heard of the input, by a run of the plan that hears it whole.
use Rattle.std.proofs.Common.{◌≡◌, ◌⊎◌, ◌<◌, ◌+◌, ◌++◌, ◌∷◌, [], ℕ, zero, suc, Bool, true, false, List, Result, Ok, Err, length, refl, sym, ◌∙◌, ap, subst, nat_lt, append_assoc, append-nil, arith}
use Rattle.std.specs.Prelude.{if◌then◌else◌}
use Rattle.std.proofs.lemmas.Bool.Decides.{nat_tests}
use Rattle.std.proofs.lemmas.List.{length-append}
use Rattle.folder_files.specs.Deeds as deeds
use Rattle.folder_files.specs.Deeds.{did}
use Rattle.folder_files.specs.Story.{Mine, Theirs}
use Rattle.file_plans.specs.Follows.{Filed, Spoke, TakesAll, Took, Turn, deeds_in, heard_in}
use Rattle.file_plans.specs.Plan.{Hand, Plan, after, bind, hear, lifted, ◌>>=◌}
use Rattle.file_plans.specs.Runs.{Deed, Did, Exit, Heard, InFailed, NoMemory, Runs, Said}
use Rattle.file_plans.specs.Text.{said_of}
use Rattle.file_plans.proofs.Acting.{acts, acts_over}
use Rattle.step_plans.specs.ContextCommit.{LIMIT_BYTES}
use Rattle.step_plans.specs.declared.command_fault.CommandFault.{CommandFault}
use Rattle.command_stages.specs.Texts.{too_large}
use Rattle.draft_files.specs.Hearing.{PIECES, all_heard, heard_behind, piece_heard}
use Rattle.mhbuild_plans.specs.BuildAlone.{IsHeard}
use Rattle.mhbuild_plans.specs.Heard.{Heard as HeardText, TooMuch, Whole, heard_text}

-- the pieces among deeds
abbrev pub heard_of : List Deed → List (List ℕ)
heard_of [] = []
heard_of (Did s a ∷ ds) = heard_of ds
heard_of (Said piece ∷ ds) = heard_of ds
heard_of (Heard piece ∷ ds) = piece ∷ heard_of ds

pub heard_are : (ts : List Turn) → heard_in ts ≡ heard_of (deeds_in ts)
heard_are [] = refl
heard_are (Filed (Mine s a f) ∷ ts) = heard_are ts
heard_are (Filed (Theirs e) ∷ ts) = heard_are ts
heard_are (Spoke piece ∷ ts) = heard_are ts
heard_are (Took piece ∷ ts) = ap (λ ps. piece ∷ ps) (heard_are ts)

-- of nothing nothing is taken
front_none : (p rest : List ℕ) → [] ≡ p ++ rest → rest ≡ []
front_none [] rest e = sym e
front_none (x ∷ p) rest e = cc (e)

none_taken : (old new : List ℕ) (ps : List (List ℕ)) → old ≡ [] → TakesAll old new ps → new ≡ []
none_taken old new [] e t = t ∙ e
none_taken old new (p ∷ ps) e t = none_taken t.0 new ps (front_none p t.0 (sym e ∙ t.1)) t.3

-- the deeds but for what was heard
abbrev pub without_heard : List Deed → List Deed
without_heard [] = []
without_heard (Did s a ∷ ds) = Did s a ∷ without_heard ds
without_heard (Said piece ∷ ds) = Said piece ∷ without_heard ds
without_heard (Heard piece ∷ ds) = without_heard ds

said_without : (ds : List Deed) → said_of (without_heard ds) ≡ said_of ds
said_without [] = refl
said_without (Did s a ∷ ds) = said_without ds
said_without (Said piece ∷ ds) = ap (λ t. piece ++ t) (said_without ds)
said_without (Heard piece ∷ ds) = said_without ds

acts_without : (past : List deeds.Deed) (ds : List Deed) → acts_over past (without_heard ds) ≡ acts_over past ds
acts_without past [] = refl
acts_without past (Did s a ∷ ds) = acts_without (did s a ∷ past) ds
acts_without past (Said piece ∷ ds) = acts_without past ds
acts_without past (Heard piece ∷ ds) = acts_without past ds

-- deeds that are the same but for what was heard
pub same_said : (ds es : List Deed) → without_heard ds ≡ without_heard es → said_of ds ≡ said_of es
same_said ds es same = sym (said_without ds) ∙ ap said_of same ∙ said_without es

pub same_acts : (ds es : List Deed) → without_heard ds ≡ without_heard es → acts ds ≡ acts es
same_acts ds es same = sym (acts_without [] ds) ∙ ap acts same ∙ acts_without [] es

-- what was heard behind these bytes
abbrev pub IsBehind : List ℕ → List ℕ → List ℕ → Result (List ℕ) CommandFault → Type 0
IsBehind bytes old new (Ok text) = (text ≡ bytes ++ old) × (new ≡ []) × (nat_lt LIMIT_BYTES (length text) ≡ false)
IsBehind bytes old new (Err e) = (front : List ℕ) × (front ++ new ≡ bytes ++ old) × (e ≡ too_large (length front)) × (nat_lt LIMIT_BYTES (length front) ≡ true)

abbrev pub HeardBehind : List ℕ → List (List ℕ) → Result (List ℕ) CommandFault → Type 0
HeardBehind bytes pieces heard = (old new : List ℕ) → TakesAll old new pieces → IsBehind bytes old new heard

-- how a plan that hears the input whole and then goes on came to its end
pub data HeardSo {R : Type 0} (M : Result (List ℕ) CommandFault → Plan R) (h j : Hand) (x : Exit R) (bytes : List ℕ) (ds : List Deed) : Type 0 where
  -- the input failed, or memory was wanting
  stopped : (x ≡ InFailed) ⊎ (x ≡ NoMemory) → said_of ds ≡ [] → HeardSo M h j x bytes ds
  -- this was heard, and then the plan went on
  went : (heard : HeardText) (rest : List Deed) → Runs (M (heard_text heard)) h rest j x → without_heard ds ≡ without_heard rest → HeardBehind bytes (heard_of ds) (heard_text heard) → HeardSo M h j x bytes ds

module _ {R : Type 0} (M : Result (List ℕ) CommandFault → Plan R) (h j : Hand) (x : Exit R) (deaf : (e : CommandFault) (ds : List Deed) → Runs (M (Err e)) h ds j x → heard_of ds ≡ []) where
  -- the last piece was empty
  at_end : (bytes : List ℕ) (ds : List Deed) → nat_lt LIMIT_BYTES (length bytes) ≡ false → Runs (M (Ok bytes)) h ds j x → HeardSo M h j x bytes (Heard [] ∷ ds)
  at_end bytes ds short runs = went (Whole bytes) ds runs refl is
    where
      is : HeardBehind bytes ([] ∷ heard_of ds) (Ok bytes)
      is old new t =
          let none : old ≡ [] = t.2 refl in
          (sym (append-nil bytes) ∙ ap (λ l. bytes ++ l) (sym none), none_taken t.0 new (heard_of ds) (front_none [] t.0 (sym none ∙ t.1)) t.3, short)

  -- a piece made it too long
  at_limit : (bytes piece : List ℕ) (ds : List Deed) → nat_lt LIMIT_BYTES (length (bytes ++ piece)) ≡ true → Runs (M (Err (too_large (length (bytes ++ piece))))) h ds j x → HeardSo M h j x bytes (Heard piece ∷ ds)
  at_limit bytes piece ds big runs = went (TooMuch (length (bytes ++ piece))) ds runs refl is
    where
      is : HeardBehind bytes (piece ∷ heard_of ds) (Err (too_large (length (bytes ++ piece))))
      is old new t =
          let last : new ≡ t.0 = subst (λ ps. TakesAll t.0 new ps) (deaf (too_large (length (bytes ++ piece))) ds runs) t.3 in
          (bytes ++ piece, append_assoc bytes piece new ∙ ap (λ l. bytes ++ l) (ap (λ l. piece ++ l) last ∙ sym t.1), refl, big)

  -- a piece more
  behind_more : (bytes piece old new rest : List ℕ) (heard : Result (List ℕ) CommandFault) → old ≡ piece ++ rest → IsBehind (bytes ++ piece) rest new heard → IsBehind bytes old new heard
  behind_more bytes piece old new rest (Ok text) is (same, last, short) = (same ∙ append_assoc bytes piece rest ∙ ap (λ l. bytes ++ l) (sym is), last, short)
  behind_more bytes piece old new rest (Err e) is (front, same, at, big) = (front, same ∙ append_assoc bytes piece rest ∙ ap (λ l. bytes ++ l) (sym is), at, big)

  one_more : (bytes piece : List ℕ) (ds : List Deed) → HeardSo M h j x (bytes ++ piece) ds → HeardSo M h j x bytes (Heard piece ∷ ds)
  one_more bytes piece ds (stopped e silent) = stopped e silent
  one_more bytes piece ds (went heard rest runs same is) = went heard rest runs same (λ old new t. behind_more bytes piece old new t.0 (heard_text heard) t.1 (is t.0 new t.3))

  room_left : (k c : ℕ) (bytes piece : List ℕ) → LIMIT_BYTES < suc k + length bytes → LIMIT_BYTES < k + length (bytes ++ c ∷ piece)
  room_left k c bytes piece e = let size = length-append bytes (c ∷ piece) in omega (arith, e, size)

  no_room_left : (bytes : List ℕ) → nat_lt LIMIT_BYTES (length bytes) ≡ false → LIMIT_BYTES < 0 + length bytes → ⊥
  no_room_left bytes short e = grind (arith, nat_tests, short, e)

  heard_so : (k : ℕ) (bytes : List ℕ) (ds : List Deed) → nat_lt LIMIT_BYTES (length bytes) ≡ false → LIMIT_BYTES < k + length bytes → Runs (bind (heard_behind k bytes) M) h ds j x → HeardSo M h j x bytes ds
  unfolding Runs heard_behind piece_heard hear lifted bind ◌>>=◌
  heard_so zero bytes ds short room runs = absurd (no_room_left bytes short room)
  heard_so (suc k) bytes [] short room runs = stopped runs.1 refl
  heard_so (suc k) bytes (Did s a ∷ ds) short room runs = absurd runs
  heard_so (suc k) bytes (Said piece ∷ ds) short room runs = absurd runs
  heard_so (suc k) bytes (Heard [] ∷ ds) short room runs = at_end bytes ds short runs.1
  heard_so (suc k) bytes (Heard (c ∷ piece) ∷ ds) short room runs =
      more (nat_lt LIMIT_BYTES (length (bytes ++ c ∷ piece))) refl runs.1 (λ e r. heard_so k (bytes ++ c ∷ piece) ds e (room_left k c bytes piece room) r)
    where
      more : (b : Bool) → nat_lt LIMIT_BYTES (length (bytes ++ c ∷ piece)) ≡ b
          → Runs (bind (after (λ t. heard_behind k t) (if b then Err (too_large (length (bytes ++ c ∷ piece))) else Ok (bytes ++ c ∷ piece))) M) h ds j x
          → (nat_lt LIMIT_BYTES (length (bytes ++ c ∷ piece)) ≡ false → Runs (bind (heard_behind k (bytes ++ c ∷ piece)) M) h ds j x → HeardSo M h j x (bytes ++ c ∷ piece) ds) → HeardSo M h j x bytes (Heard (c ∷ piece) ∷ ds)
      more true e r again = at_limit bytes (c ∷ piece) ds e r
      more false e r again = one_more bytes (c ∷ piece) ds (again e r)

pub is_heard : (old new : List ℕ) (heard : Result (List ℕ) CommandFault) → IsBehind [] old new heard → IsHeard old new heard
is_heard old new (Ok text) f = f
is_heard old new (Err e) f = f

-- from its begin
pub all_heard_so : {R : Type 0} (M : Result (List ℕ) CommandFault → Plan R) (h j : Hand) (x : Exit R) → ((e : CommandFault) (ds : List Deed) → Runs (M (Err e)) h ds j x → heard_of ds ≡ []) → (ds : List Deed) → Runs (bind all_heard M) h ds j x → HeardSo M h j x [] ds
unfolding all_heard
all_heard_so M h j x deaf ds runs = heard_so M h j x deaf PIECES [] ds refl (omega arith) runs
