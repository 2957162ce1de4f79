-- What a message that takes its draft's place makes of the mailbox, alone.
use Rattle.std.proofs.Common.{◌≡◌, ℕ, ◌<◌, ◌^◌, ◌+◌, ◌++◌, Bool, true, false, List, Option, Some, None, Result, length, refl, sym, ◌∙◌, ap, subst, nat_lt, arith}
use Rattle.std.specs.Prelude.{◌&&◌, bytes_eq, codes, is_some, if◌then◌else◌}
use Rattle.folder_files.specs.Places.{same_place}
use Rattle.std.proofs.lemmas.List.{length-append}
use Rattle.mh_base.specs.Entries.{kind_of, number_by}
use Rattle.mh_base.specs.Numbers.{number_of}
use Rattle.mh_base.specs.declared.entry.Entry.{Entry}
use Rattle.mh_base.specs.declared.entry.Entry.TheVariants.{Backup, Other}
use Rattle.folder_files.specs.Named.{is_other, is_temp, original_of}
use Rattle.folder_files.specs.declared.place.Place.{Place}
use Rattle.folder_files.specs.declared.place.Place.TheVariants.{Folder, Home, Mail, Work}
use Rattle.folder_files.proofs.Names.{bytes_true}
use Rattle.file_plans.specs.Contents.{Contents, is_at, mailbox_in, with_moved, with_text}
use Rattle.file_plans.specs.Giving.{Gives}
use Rattle.file_plans.specs.Plan.{Hand, ◌>>=◌}
use Rattle.file_plans.specs.Views.{View, by_view}
use Rattle.file_plans.proofs.Existing.{at_name, at_self, bytes_turned}
use Rattle.file_plans.proofs.Giving.{gives_on}
use Rattle.file_plans.proofs.Onward.{Is, temp_apart}
use Rattle.step_plans.specs.Hands.{temp_name, used}
use Rattle.step_plans.specs.PlanFaults.{Planned}
use Rattle.step_plans.specs.Replacing.{renamed, synced, written}
use Rattle.step_plans.specs.declared.fault.PlanFault.{PlanFault}
use Rattle.step_plans.proofs.Named.{temp_is}
use Rattle.step_plans.proofs.Replaced.{Fails, Leaves, Wrote, Writes, gives_next, renamed_gives, synced_gives, written_gives}
use Rattle.draft_files.specs.DraftNames.{is_draft_name}
use Rattle.draft_files.specs.Replacing.{set_in_place}
use Rattle.draft_files.proofs.Names.{parts_of}
use Rattle.mhbuild_plans.specs.BuildOutcome.{with_message}

-- a name of no kind is no temporary one
other_temp : (e : Entry) → is_other e ≡ true → is_temp e ≡ false
other_temp Other is = refl
other_temp _ is = cc (is)

not_temp : (o : Option ℕ) → is_temp (number_by Backup o) ≡ false
not_temp None = refl
not_temp (Some n) = refl

original_temp : (name : List ℕ) → is_temp (kind_of (original_of name)) ≡ false
unfolding kind_of
original_temp name = not_temp (number_of (name ++ codes ".orig"))

-- a name is not that of its original
longer : (name : List ℕ) → length (original_of name) ≡ length name + 6
longer name = let size = length-append name (codes ".orig") in omega (arith, size)

original_apart : (name : List ℕ) → bytes_eq name (original_of name) ≡ false
original_apart name = go (bytes_eq name (original_of name)) refl
  where
    go : (b : Bool) → bytes_eq name (original_of name) ≡ b → b ≡ false
    go false e = refl
    go true e = let same = ap (λ (l : List ℕ). length l) (bytes_true name (original_of name) e) in let size = longer name in absurd (omega (arith, same, size))

moved_apart : (c : Contents) (q : Place) (a b : List ℕ) → bytes_eq a b ≡ false → with_moved c q a b ≡ with_text (with_text c q a None) q b (c.texts q a)
moved_apart c q a b e = ap (λ (v : Bool). if v then c else with_text (with_text c q a None) q b (c.texts q a)) e

not_at : (q : Place) (a b : List ℕ) → bytes_eq a b ≡ false → is_at q a q b ≡ false
not_at q a b e = go (same_place q q)
  where
    go : (v : Bool) → v && bytes_eq a b ≡ false
    go true = e
    go false = refl

-- the message has the draft's name, and the draft that of its original
abbrev pub placed : Contents → List ℕ → List ℕ → List ℕ → Contents
placed c name draft message = with_text (with_text c Work (original_of name) (Some draft)) Work name (Some message)

module _ (c : Contents) (temp name draft message : List ℕ) (new : c.texts Work temp ≡ None) (old : c.texts Work name ≡ Some draft)
    (temp_name_ : bytes_eq temp name ≡ false) (temp_original : bytes_eq temp (original_of name) ≡ false) where
  abbrev original : List ℕ
  original = original_of name

  abbrev pub made : Contents
  made = with_text c Work temp (Some message)

  abbrev pub aside : Contents
  aside = with_moved made Work name original

  abbrev last : Contents
  last = with_moved aside Work temp name

  pub name_made : made.texts Work name ≡ Some draft
  name_made = rw (not_at Work temp name temp_name_) old

  pub aside_is : aside ≡ with_text (with_text made Work name None) Work original (Some draft)
  aside_is = moved_apart made Work name original (original_apart name) ∙ ap (λ t. with_text (with_text made Work name None) Work original t) name_made

  turned : (a b : List ℕ) → bytes_eq a b ≡ false → bytes_eq b a ≡ false
  turned a b e = bytes_turned a b e

  pub temp_there : (with_text (with_text made Work name None) Work original (Some draft)).texts Work temp ≡ Some message
  temp_there = rw (not_at Work original temp (turned temp original temp_original), not_at Work name temp (turned temp name temp_name_), at_self Work temp) refl

  abbrev set : Contents
  set = with_text (with_text (with_text (with_text made Work name None) Work original (Some draft)) Work temp None) Work name (Some message)

  last_is : last ≡ set
  last_is =
      ap (λ d. with_moved d Work temp name) aside_is
      ∙ moved_apart (with_text (with_text made Work name None) Work original (Some draft)) Work temp name temp_name_
      ∙ ap (λ t. with_text (with_text (with_text (with_text made Work name None) Work original (Some draft)) Work temp None) Work name t) temp_there

  each : (q : Place) (x : List ℕ) → set.texts q x ≡ (placed c name draft message).texts q x
  each = at_name Work temp (λ q x. set.texts q x ≡ (placed c name draft message).texts q x) here there
    where
      here : set.texts Work temp ≡ (placed c name draft message).texts Work temp
      here = rw (not_at Work name temp (turned temp name temp_name_), not_at Work original temp (turned temp original temp_original), at_self Work temp) (sym new)

      there : (q : Place) (x : List ℕ) → is_at Work temp q x ≡ false → set.texts q x ≡ (placed c name draft message).texts q x
      there q x e = rw e (by (is_at Work name q x))
        where
          by : (b : Bool) → (if b then Some message else (if is_at Work original q x then Some draft else (if b then None else c.texts q x))) ≡ (if b then Some message else (if is_at Work original q x then Some draft else c.texts q x))
          by true = refl
          by false = refl

  pub placed_is : last ≡ placed c name draft message
  placed_is = last_is ∙ (λ i. record { there = c.there; texts = λ q x. each q x i; outside = c.outside })

module _ (c : Contents) (name draft message : List ℕ) where
  folders_same : (p : Place) → (mailbox_in (placed c name draft message)).folders p ≡ (mailbox_in c).folders p
  unfolding mailbox_in
  folders_same Home = refl
  folders_same Work = refl
  folders_same (Mail path) = refl
  folders_same (Folder path folder) = refl

  context_same : (p : Place) → (mailbox_in (placed c name draft message)).context p ≡ (mailbox_in c).context p
  unfolding mailbox_in
  context_same Home = refl
  context_same Work = refl
  context_same (Mail path) = refl
  context_same (Folder path folder) = refl

  pub placed_shown : mailbox_in (placed c name draft message) ≡ with_message (mailbox_in c) name draft message
  unfolding mailbox_in
  placed_shown = λ i. record {
    folders = λ p. folders_same p i;
    home = (mailbox_in c).home;
    work = (with_message (mailbox_in c) name draft message).work;
    context = λ p. context_same p i;
    outside = c.outside;
  }

module _ (ns : List ℕ) (run : ℕ) (few : run < 2 ^ 128) (name : List ℕ) (valid : is_draft_name name ≡ true) (c : Contents) (h : Hand) (draft message : List ℕ)
    (there : c.there Work ≡ true) (free : c.texts Work (temp_name run h.next) ≡ None) (old : c.texts Work name ≡ Some draft) where
  abbrev Set : View → Hand → List ℕ → Result Unit PlanFault → Type 0
  Set = Leaves true ns (placed c name draft message) (used h) (Fails true h)

  abbrev temp_ : List ℕ
  temp_ = temp_name run h.next

  abbrev then_moved : List ℕ → Planned Unit
  then_moved temp = renamed Work name (original_of name) >>= (λ aside. renamed Work temp name >>= (λ moved. synced Work name))

  module _ (low : nat_lt h.next (2 ^ 64) ≡ true) where
    is_temp_ : is_temp (kind_of temp_) ≡ true
    is_temp_ = temp_is run h.next few low

    by_name : bytes_eq temp_ name ≡ false
    by_name = temp_apart temp_ is_temp_ name (other_temp (kind_of name) (parts_of name valid).other)

    by_original : bytes_eq temp_ (original_of name) ≡ false
    by_original = temp_apart temp_ is_temp_ (original_of name) (original_temp name)

    abbrev made_ : Contents
    made_ = made c temp_ name draft message free old by_name by_original

    abbrev aside_ : Contents
    aside_ = aside c temp_ name draft message free old by_name by_original

    after_made : (z : View) (left : List ℕ) → Is true ns z made_ → Gives (by_view true) z (used h) left (then_moved temp_) Set
    after_made z left at_ =
        gives_next true ns aside_ (used h) (Fails true h) z (used h) left (renamed Work name (original_of name)) (λ aside. renamed Work temp_ name >>= (λ moved. synced Work name)) Set
        (renamed_gives true ns Work h name (original_of name) z made_ (used h) left at_ (λ e. rw (name_made c temp_ name draft message free old by_name by_original) refl))
        (λ y rest u beside.
        gives_next true ns (with_moved aside_ Work temp_ name) (used h) (Fails true h) y (used h) rest (renamed Work temp_ name) (λ moved. synced Work name) Set
        (renamed_gives true ns Work h temp_ name y aside_ (used h) rest beside (λ e. ap (λ (d : Contents). is_some (d.texts Work temp_)) (aside_is c temp_ name draft message free old by_name by_original) ∙ ap is_some (temp_there c temp_ name draft message free old by_name by_original)))
        (λ x end v last. synced_gives true ns Work h name x (placed c name draft message) (used h) end ((λ e. last.0 e ∙ placed_is c temp_ name draft message free old by_name by_original), last.1) (λ e. there)) (λ x j end e f. f))
        (λ y j rest e f. f)

  pub set_gives : (v : View) (text : List ℕ) → Is true ns v c → Gives (by_view true) v h text (set_in_place run name message) Set
  unfolding set_in_place
  set_gives v text is =
      gives_on (by_view true) v h text (written run Work message) then_moved (Writes true ns run Work message c h) Set (written_gives true ns run Work message v c h text is (λ low e. (there, free))) moves (λ z j left e f. f)
    where
      moves : (z : View) (j : Hand) (left temp : List ℕ) → Wrote true ns run Work message c h z j temp → Gives (by_view true) z j left (then_moved temp) Set
      moves z j left temp w =
          subst (λ t. Gives (by_view true) z j left (then_moved t) Set) (sym w.name)
          (subst (λ i. Gives (by_view true) z i left (then_moved temp_) Set) (sym w.left.hand) (after_made w.low z left w.left.is))
