-- Each step of `inc` over its drop minds the marks of all sequences.
use Rattle.std.proofs.Common.{◌≡◌, ◌≤◌, ◌+◌, ◌-◌, ◌==◌, ◌++◌, ◌∷◌, [], ℕ, zero, suc, Bool, true, false, List, Option, Result, Ok, Err, length, min, nat_lt, nat_le, arith}
use Rattle.std.specs.Prelude.{if◌then◌else◌}
use Rattle.mh_sequences.specs.Runs.{has}
use Rattle.mh_sequences.specs.declared.run.Run.{Run}
use Rattle.folder_files.specs.Deeds.{Deed, did}
use Rattle.folder_files.specs.declared.place.Place.{Place}
use Rattle.folder_files.specs.declared.place.Place.TheVariants.{Folder}
use Rattle.folder_files.specs.declared.refusal.Refusal.TheVariants as refusal
use Rattle.folder_files.specs.declared.step.Step.{Step}
use Rattle.folder_files.specs.declared.step.Step.TheVariants as step
use Rattle.file_plans.specs.Asking.{drop_piece_of, read_drop}
use Rattle.file_plans.specs.Plan.{Hand, Plan, Return, ask, bind, lifted, ◌>>=◌}
use Rattle.file_plans.specs.declared.answers.DropPiece.{DropPiece}
use Rattle.file_plans.specs.declared.answers.DropPiece.TheVariants as drop_piece
use Rattle.file_plans.specs.declared.asking.Stop.{Stop}
use Rattle.step_plans.specs.CommandFaults.{of_sink, of_stop}
use Rattle.step_plans.specs.Pledges.{MayAsk, Pledge}
use Rattle.step_plans.specs.declared.command_fault.CommandFault.{CommandFault}
use Rattle.step_plans.specs.declared.command_fault.CommandFault.TheVariants as fault
use Rattle.step_plans.proofs.Going.{Outcome, okay}
use Rattle.sequence_marks.specs.SequenceMarks.{says_public}
use Rattle.command_stages.specs.Endings.{of_plan, if_room}
use Rattle.opening_plans.proofs.AllMarks.{look_minds}
use Rattle.opening_plans.proofs.CommitMinds.{IsTold}
use Rattle.opening_plans.proofs.Meeting.{Meets, meets_end, meets_lifted, meets_on, meets_return, meets_say, meets_stop, meets_then}
use Rattle.inc_plans.specs.Counting.{PIECE, counted_by, drop_counted, drop_read, empty_if, head_by, head_if, head_read, long_if, piece_by, piece_read, rest_read, whole_if}
use Rattle.inc_plans.specs.Cutting.{changed, given_by, last_by}
use Rattle.inc_plans.specs.DropTaken.{Read, Where, as_counted, drop_taken, ended_taken, into, listed, piece_taken, rest_taken, where_of}
use Rattle.inc_plans.specs.Inc.{heading, heading_told, room_counted, top_of}
use Rattle.inc_plans.specs.IncPledge.{inc_pledge}
use Rattle.inc_plans.specs.Intake.{all_taken, with_number}
use Rattle.message_puts.specs.Putting.{message_stored}
use Rattle.inc_plans.specs.Taking.{message_taken, message_told, Telling, told_if}
use Rattle.inc_plans.specs.declared.size.DropSize.{DropSize}
use Rattle.inc_plans.specs.declared.taken.Taken.{Taken}
use Rattle.inc_plans.specs.IncJob.{IncJob}
use Rattle.inc_plans.proofs.NewWithin.{numbers_more}
use Rattle.inc_plans.proofs.PutMinds.{A as Minding, Known as KnownOf, Numbered, known_kept, stored_meets}
use Rattle.mh_base.proofs.NumberTests.{AreNumbers}

module _ (run : ℕ) (path : List ℕ) (job : IncJob) (names : List (List ℕ)) (listing : List Run) (old : List ℕ) (marks : (sequence : List ℕ) (n : ℕ) → says_public sequence old n ≡ true → has listing n ≡ true) where
  abbrev w : Pledge
  w = inc_pledge run path job

  abbrev p : Place
  p = Folder path job.folder

  abbrev A : List Deed → Step → Type 0
  A own s = Minding run path job own s

  abbrev M : {R : Type 0} → List Deed → Hand → Plan R → Outcome R → Type 0
  M own h plan Q = Meets (MayAsk w) A own h plan Q

  abbrev Known : List ℕ → List Deed → Type 0
  Known numbers own = KnownOf run path job names listing old marks numbers own

  -- a piece of the drop, and then the rest
  drop_meets : {B F : Type 0} (numbers : List ℕ) (own : List Deed) (h : Hand) (from_ : Stop → F) (from most : ℕ) (k : DropPiece → Plan (Result B F)) (Q : Outcome (Result B F)) → Known numbers own
      → ((later : List Deed) → Known numbers later → (piece : DropPiece) → M later h (k piece) Q) → M own h (lifted from_ (read_drop job.drop from most) >>= k) Q
  unfolding Meets read_drop ask lifted bind ◌>>=◌
  drop_meets numbers own h from_ from most k Q f next = λ may. (
    look_minds (λ other. IsTold job.folder other) run own (step.ReadDrop job.drop from most) tt,
    λ a row live. next (did (step.ReadDrop job.drop from most) a ∷ own) (known_kept run path job names listing old marks numbers own (step.ReadDrop job.drop from most) a may tt (λ t e. cc (e)) tt f) (drop_piece_of a),
  )

  abbrev Still : {B : Type 0} → List ℕ → Outcome B
  Still numbers later j b = Known numbers later

  piece_meets : (numbers : List ℕ) (from asked : ℕ) (own : List Deed) (h : Hand) → Known numbers own → M own h (piece_read job.drop from asked) (okay (Still numbers))
  unfolding piece_read
  piece_meets numbers from asked own h f = drop_meets numbers own h of_stop from asked (λ piece. piece_by asked piece) (okay (Still numbers)) f by
    where
      whole : (later : List Deed) → Known numbers later → (b : Bool) (bytes : List ℕ) → M later h (whole_if b bytes) (okay (Still numbers))
      whole later g true bytes = meets_return (MayAsk w) A later h bytes (okay (Still numbers)) g
      whole later g false bytes = meets_end (MayAsk w) A later h changed (Still numbers)

      by : (later : List Deed) → Known numbers later → (piece : DropPiece) → M later h (piece_by asked piece) (okay (Still numbers))
      by later g (drop_piece.Piece bytes l) = whole later g (length bytes == asked) bytes
      by later g drop_piece.Gone = meets_end (MayAsk w) A later h changed (Still numbers)

  -- the first pass
  head_meets : (numbers : List ℕ) (own : List Deed) (h : Hand) → Known numbers own → M own h (head_read job.drop) (okay (Still numbers))
  unfolding head_read
  head_meets numbers own h f = drop_meets numbers own h of_stop 0 PIECE (λ piece. head_by piece) (okay (Still numbers)) f by
    where
      headed : (later : List Deed) → Known numbers later → (b : Bool) (l : ℕ) (bytes : List ℕ) → M later h (head_if b l bytes) (okay (Still numbers))
      headed later g true l bytes = meets_return (MayAsk w) A later h (record { length = l; bytes = bytes }) (okay (Still numbers)) g
      headed later g false l bytes = meets_end (MayAsk w) A later h changed (Still numbers)

      short : (later : List Deed) → Known numbers later → (b : Bool) (l : ℕ) (bytes : List ℕ) → M later h (long_if b l bytes) (okay (Still numbers))
      short later g true l bytes = meets_end (MayAsk w) A later h _ (Still numbers)
      short later g false l bytes = headed later g (length bytes == min l PIECE) l bytes

      some : (later : List Deed) → Known numbers later → (b : Bool) (l : ℕ) (bytes : List ℕ) → M later h (empty_if b l bytes) (okay (Still numbers))
      some later g true l bytes = meets_end (MayAsk w) A later h (fault.Refused refusal.NoMail) (Still numbers)
      some later g false l bytes = short later g _ l bytes

      by : (later : List Deed) → Known numbers later → (piece : DropPiece) → M later h (head_by piece) (okay (Still numbers))
      by later g (drop_piece.Piece bytes l) = some later g (l == 0) l bytes
      by later g drop_piece.Gone = meets_end (MayAsk w) A later h (fault.Refused refusal.NoMail) (Still numbers)

  rest_meets : (numbers : List ℕ) (l fuel : ℕ) (d : List ℕ) (own : List Deed) (h : Hand) → Known numbers own → M own h (rest_read job.drop l fuel d) (okay (Still numbers))
  unfolding rest_read
  rest_meets numbers l zero d own h f = meets_return (MayAsk w) A own h d (okay (Still numbers)) f
  rest_meets numbers l (suc fuel) d own h f = go (nat_lt (length d) l) (λ bytes later j g. rest_meets numbers l fuel (d ++ bytes) later j g)
    where
      go : (b : Bool) → ((bytes : List ℕ) (later : List Deed) (j : Hand) → Known numbers later → M later j (rest_read job.drop l fuel (d ++ bytes)) (okay (Still numbers)))
          → M own h (if b then (piece_read job.drop (length d) (min (l - length d) PIECE) >>= (λ bytes. rest_read job.drop l fuel (d ++ bytes))) else Return (Ok d)) (okay (Still numbers))
      go true next =
          meets_then (MayAsk w) A own h (piece_read job.drop (length d) (min (l - length d) PIECE)) (λ bytes. rest_read job.drop l fuel (d ++ bytes)) (Still numbers) (Still numbers)
          (piece_meets numbers (length d) (min (l - length d) PIECE) own h f) (λ later j bytes g. next bytes later j g)
      go false next = meets_return (MayAsk w) A own h d (okay (Still numbers)) f

  read_meets : (numbers : List ℕ) (own : List Deed) (h : Hand) → Known numbers own → M own h (drop_read job.drop) (okay (Still numbers))
  unfolding drop_read
  read_meets numbers own h f =
      meets_then (MayAsk w) A own h (head_read job.drop) (λ head. rest_read job.drop head.length head.length head.bytes) (Still numbers) (Still numbers) (head_meets numbers own h f)
      (λ later j head g. rest_meets numbers head.length head.length head.bytes later j g)

  counted_meets : (numbers : List ℕ) (own : List Deed) (h : Hand) → Known numbers own → M own h (drop_counted job.drop) (okay (Still numbers))
  unfolding drop_counted
  counted_meets numbers own h f =
      meets_then (MayAsk w) A own h (drop_read job.drop) (λ d. Return (counted_by d)) (Still numbers) (Still numbers) (read_meets numbers own h f) (λ later j d g. sized (counted_by d) later j g)
    where
      sized : (r : Result DropSize CommandFault) (later : List Deed) (j : Hand) → Known numbers later → M later j (Return r) (okay (Still numbers))
      sized (Ok size) later j g = meets_return (MayAsk w) A later j size (okay (Still numbers)) g
      sized (Err e) later j g = meets_end (MayAsk w) A later j e (Still numbers)

  pub room_meets : (numbers : List ℕ) (top : ℕ) (own : List Deed) (h : Hand) → Known numbers own → M own h (room_counted job.folder job.drop top) (okay (Still numbers))
  unfolding room_counted
  room_meets numbers top own h f =
      meets_then (MayAsk w) A own h (drop_counted job.drop) (λ size. if_room (nat_le (top + size.messages) 999999) job.folder >>= (λ room. Return (Ok size))) (Still numbers) (Still numbers) (counted_meets numbers own h f)
      (λ later j size g. by_room (nat_le (top + size.messages) 999999) size later j g)
    where
      by_room : (b : Bool) (size : DropSize) (later : List Deed) (j : Hand) → Known numbers later → M later j (if_room b job.folder >>= (λ room. Return (Ok size))) (okay (Still numbers))
      by_room true size later j g = meets_on (MayAsk w) A later j tt (λ room. Return (Ok size)) (okay (Still numbers)) (meets_return (MayAsk w) A later j size (okay (Still numbers)) g)
      by_room false size later j g = meets_stop (MayAsk w) A later j (fault.Refused (refusal.Full job.folder)) (λ room. Return (Ok size)) (Still numbers)

  -- a message is taken in
  told_meets : {R : Type 0} (b : Bool) (line : List ℕ) (own : List Deed) (h : Hand) (k : Unit {0} → Plan (Result R CommandFault)) (Q : Outcome (Result R CommandFault)) → M own h (k tt) Q → M own h (told_if b line >>= k) Q
  told_meets true line own h k Q f = meets_on (MayAsk w) A own h tt k Q f
  told_meets false line own h k Q f = meets_say (MayAsk w) A own h of_sink Q line k f

  abbrev NumberedSo : List ℕ → ℕ → Outcome ℕ
  NumberedSo numbers top later j n = Numbered run path job names listing old marks numbers top later j n

  taken_meets : (telling : Telling) (numbers : List ℕ) (top : ℕ) → top_of listing ≤ top → top ≤ 999999 → (bytes : List ℕ) (own : List Deed) (h : Hand) → Known numbers own
      → M own h (message_taken run job.folder p telling numbers top bytes) (okay (NumberedSo numbers top))
  unfolding message_taken
  taken_meets telling numbers top low small bytes own h f =
      meets_then (MayAsk w) A own h (lifted (of_plan job.folder) (message_stored run p top bytes)) (λ number. message_told telling numbers number bytes >>= (λ told. Return (Ok number))) (NumberedSo numbers top) (NumberedSo numbers top)
      (meets_lifted (MayAsk w) A own h (of_plan job.folder) (message_stored run p top bytes) (NumberedSo numbers top) (stored_meets run path job names listing old marks numbers top low small bytes own h f))
      (λ later j number q. told_meets telling.silent _ later j (λ told. Return (Ok number)) (okay (NumberedSo numbers top)) (meets_return (MayAsk w) A later j number (okay (NumberedSo numbers top)) q))

  -- what was taken in stands at numbers above those that were listed
  pub record HasTaken (own : List Deed) (t : Taken) : Type 0 where
    pub low : top_of listing ≤ t.highest
    pub small : t.highest ≤ 999999
    pub numbers : AreNumbers t.numbers
    pub known : Known t.numbers own

  abbrev pub Takes : Outcome Taken
  Takes later j t = HasTaken later t

  all_meet : (telling : Telling) (messages : List (List ℕ)) (t : Taken) (own : List Deed) (h : Hand) → HasTaken own t → M own h (all_taken run job.folder p telling t messages) (okay Takes)
  unfolding all_taken
  all_meet telling [] t own h f = meets_return (MayAsk w) A own h t (okay Takes) f
  all_meet telling (message ∷ messages) t own h f =
      meets_then (MayAsk w) A own h (message_taken run job.folder p telling t.numbers t.highest message) (λ n. all_taken run job.folder p telling (with_number n t) messages) (NumberedSo t.numbers t.highest) Takes
      (taken_meets telling t.numbers t.highest f.low f.small message own h f.known)
      (λ later j n q.
      all_meet telling messages (with_number n t) later j
      (record { low = (let up = q.0 in let low = f.low in omega (arith, up, low)); small = q.1; numbers = numbers_more t.numbers n f.numbers (let up = q.0 in omega (arith, up), q.1); known = q.2 }))

  -- the second pass
  module _ (telling : Telling) where
    abbrev where_ : Where
    where_ = where_of run job.folder p telling

    abbrev Reads : Outcome Read
    Reads later j s = HasTaken later s.taken

    with_piece : (t : Taken) (own : List Deed) → HasTaken own t → (later : List Deed) → Known t.numbers later → HasTaken later t
    with_piece t own f later g = record { low = f.low; small = f.small; numbers = f.numbers; known = g }

    piece_taken_meets : (l : ℕ) (s : Read) (own : List Deed) (h : Hand) → HasTaken own s.taken → M own h (piece_taken where_ job.drop l s.bytes s.taken) (okay Reads)
    unfolding piece_taken
    piece_taken_meets l s own h f =
        meets_then (MayAsk w) A own h (piece_read job.drop (length s.bytes) (min (l - length s.bytes) PIECE)) (λ bytes. Return (given_by s.bytes bytes) >>= (λ given. into where_ s.taken given >>= (λ taken. Return (Ok (record { bytes = s.bytes ++ bytes; taken = taken })))))
        (Still s.taken.numbers) Reads (piece_meets s.taken.numbers (length s.bytes) (min (l - length s.bytes) PIECE) own h f.known)
        (λ later j bytes g. by_given bytes later j (with_piece s.taken own f later g) (given_by s.bytes bytes))
      where
        by_given : (bytes : List ℕ) (later : List Deed) (j : Hand) → HasTaken later s.taken → (r : Result (List (List ℕ)) CommandFault) → M later j (Return r >>= (λ given. into where_ s.taken given >>= (λ taken. Return (Ok (record { bytes = s.bytes ++ bytes; taken = taken }))))) (okay Reads)
        by_given bytes later j g (Ok given) =
            meets_on (MayAsk w) A later j given (λ given_. into where_ s.taken given_ >>= (λ taken. Return (Ok (record { bytes = s.bytes ++ bytes; taken = taken })))) (okay Reads)
            (meets_then (MayAsk w) A later j (into where_ s.taken given) (λ taken. Return (Ok (record { bytes = s.bytes ++ bytes; taken = taken }))) Takes Reads (all_meet telling given s.taken later j g)
            (λ last i t q. meets_return (MayAsk w) A last i (record { bytes = s.bytes ++ bytes; taken = t }) (okay Reads) q))
        by_given bytes later j g (Err e) = meets_stop (MayAsk w) A later j e (λ given. into where_ s.taken given >>= (λ taken. Return (Ok (record { bytes = s.bytes ++ bytes; taken = taken })))) Reads

    rest_taken_meets : (l fuel : ℕ) (s : Read) (own : List Deed) (h : Hand) → HasTaken own s.taken → M own h (rest_taken where_ job.drop l fuel s) (okay Reads)
    unfolding rest_taken
    rest_taken_meets l zero s own h f = meets_return (MayAsk w) A own h s (okay Reads) f
    rest_taken_meets l (suc fuel) s own h f = go (nat_lt (length s.bytes) l) (λ more later j g. rest_taken_meets l fuel more later j g)
      where
        go : (b : Bool) → ((more : Read) (later : List Deed) (j : Hand) → HasTaken later more.taken → M later j (rest_taken where_ job.drop l fuel more) (okay Reads))
            → M own h (if b then (piece_taken where_ job.drop l s.bytes s.taken >>= (λ more. rest_taken where_ job.drop l fuel more)) else Return (Ok s)) (okay Reads)
        go true next =
            meets_then (MayAsk w) A own h (piece_taken where_ job.drop l s.bytes s.taken) (λ more. rest_taken where_ job.drop l fuel more) Reads Reads (piece_taken_meets l s own h f) (λ later j more g. next more later j g)
        go false next = meets_return (MayAsk w) A own h s (okay Reads) f

    ended_meets : (s : Read) (own : List Deed) (h : Hand) → HasTaken own s.taken → M own h (ended_taken where_ s) (okay Takes)
    unfolding ended_taken
    ended_meets s own h f = by_last (last_by s.bytes)
      where
        by_last : (r : Result (Option (List ℕ)) CommandFault) → M own h (Return r >>= (λ last. into where_ s.taken (listed last))) (okay Takes)
        by_last (Ok last) = meets_on (MayAsk w) A own h last (λ last_. into where_ s.taken (listed last_)) (okay Takes) (all_meet telling (listed last) s.taken own h f)
        by_last (Err e) = meets_stop (MayAsk w) A own h e (λ last. into where_ s.taken (listed last)) Takes

    -- all of it
    pub pass_meets : (l count top : ℕ) → top_of listing ≤ top → top ≤ 999999 → (own : List Deed) (h : Hand) → Known [] own → M own h (drop_taken where_ job.drop l count top) (okay Takes)
    unfolding drop_taken
    pass_meets l count top low small own h f =
        meets_then (MayAsk w) A own h (rest_taken where_ job.drop l l start) (λ s. ended_taken where_ s >>= (λ taken. as_counted (length taken.numbers == count) taken)) Reads Takes
        (rest_taken_meets l l start own h (record { low = low; small = small; numbers = tt; known = f }))
        (λ later j s q.
        meets_then (MayAsk w) A later j (ended_taken where_ s) (λ taken. as_counted (length taken.numbers == count) taken) Takes Takes (ended_meets s later j q) (λ last i t g. counted (length t.numbers == count) t last i g))
      where
        start : Read
        start = record { bytes = []; taken = record { numbers = []; highest = top } }

        counted : (b : Bool) (t : Taken) (own : List Deed) (h : Hand) → HasTaken own t → M own h (as_counted b t) (okay Takes)
        counted true t own h g = meets_return (MayAsk w) A own h t (okay Takes) g
        counted false t own h g = meets_end (MayAsk w) A own h changed Takes

  -- the heading
  pub headed_meets : {R : Type 0} (b : Bool) (own : List Deed) (h : Hand) (k : Unit {0} → Plan (Result R CommandFault)) (Q : Outcome (Result R CommandFault)) → M own h (k tt) Q → M own h (heading_told b job.folder >>= k) Q
  headed_meets true own h k Q f = meets_on (MayAsk w) A own h tt k Q f
  headed_meets false own h k Q f = meets_say (MayAsk w) A own h of_sink Q (heading job.folder) k f
