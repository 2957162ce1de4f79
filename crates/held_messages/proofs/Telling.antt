-- What a listing tells of a folder's numbers and of what it holds aside.
use Rattle.std.proofs.Common.{◌≡◌, ◌⊎◌, inl, inr, ◌&&◌, ◌||◌, ◌==◌, ℕ, ◌≤◌, ◌^◌, Bool, true, false, List, [], ◌∷◌, Option, Some, None, refl, sym, ◌∙◌, ap, arith, nat_lt}
use Rattle.std.specs.Prelude.{is_some, decimal, not, if◌then◌else◌}
use Rattle.std.proofs.lemmas.Bool.Decides.{Decides-ltb}
use Rattle.mh_base.specs.Entries.{kind_of, entry_text}
use Rattle.mh_base.specs.Numbers.{IsMsgNum, number_of}
use Rattle.mh_base.specs.declared.entry.Entry.TheVariants.{Held}
use Rattle.mh_base.proofs.EntryKinds.{kind_of-entry_text}
use Rattle.folder_files.specs.Named.{is_held}
use Rattle.folder_files.specs.Steps.{has_text}
use Rattle.folder_files.specs.declared.place.Place.{Place}
use Rattle.folder_files.specs.declared.step.Step.TheVariants as step
use Rattle.folder_files.specs.declared.step.Answer.TheVariants as answer
use Rattle.file_plans.specs.Mailboxes.{numbered, is_message_number}
use Rattle.file_plans.specs.Sightings.{has_number}
use Rattle.file_plans.proofs.NumberTexts.{number_is}
use Rattle.folder_files.specs.Standing.{is_standing}
use Rattle.folder_files.proofs.Names.{bytes_false, not_both, or_left, held_stands}
use Rattle.file_plans.specs.Contents.{Contents, folder_at, IsListingIn}
use Rattle.held_messages.specs.Highest.{above, highest, IsTop}
use Rattle.file_plans.specs.Views.{Unseen, Listed, View, view_after, fits_view, in_listing}
use Rattle.folder_files.proofs.Sameness.{place_is}
use Rattle.held_messages.proofs.Tops.{highest_above, highest_there, list_told}
use Rattle.file_plans.proofs.Showing.{is_number_of, number_kind, number_ok}
use Rattle.held_messages.specs.declared.held.HeldPair.{HeldPair}
use Rattle.held_messages.specs.HeldPairs.{held_name, held_pairs, AreHeld}
use Rattle.held_messages.specs.Settle.{given_in, linked_in, dropped_of, dropped_in, settled_in}
use Rattle.held_messages.proofs.ListedPairs.{IsPair, ArePairs, IsListedPair, All, has_held, pairs_ordered}
use Rattle.held_messages.proofs.Linking.{IsEnd, AreListed, AreUnread, held_is}
use Rattle.held_messages.proofs.Homecoming.{AreEnds, AllThere, AreTaken}

-- of each held name the listing tells whether it is there
abbrev pub TellsHeld : Contents → Place → List (List ℕ) → Type 0
TellsHeld c p names = (x : List ℕ) → is_held (kind_of x) ≡ true → is_some (c.texts p x) ≡ has_text x names

pub folder_holds : (own : ℕ) (c : Contents) (p : Place) (names : List (List ℕ)) → TellsHeld c p names → AreHeld own (folder_at c p) (held_pairs own names)
folder_holds own c p names told = record { in_order = pairs_ordered own names; all = λ r n. has_held own r n names ∙ ap (λ b. not (r == own) && b) (by r n (nat_lt r (2 ^ 128)) (is_message_number n) refl refl) }
  where
    by : (r n : ℕ) (a b : Bool) → nat_lt r (2 ^ 128) ≡ a → is_message_number n ≡ b
        → a && (b && has_text (entry_text (Held r n)) names) ≡ a && is_some (if a then (if b then c.texts p (entry_text (Held r n)) else None) else None)
    by r n true true e f =
        let kind : kind_of (entry_text (Held r n)) ≡ Held r n = kind_of-entry_text (Held r n) ((Decides-ltb r (2 ^ 128)).0 e, number_ok n f) in
        sym (told (entry_text (Held r n)) (rw kind refl))
    by r n true false e f = refl
    by r n false b e f = refl

pub all_there : (c : Contents) (p : Place) (names : List (List ℕ)) → TellsHeld c p names → (hs : List HeldPair) → All (IsListedPair names) hs → AllThere c p hs
all_there c p names told [] all = tt
all_there c p names told (h ∷ hs) all = (told (held_name h) (held_is h all.0.0) ∙ all.0.1, all_there c p names told hs all.1)

pub all_unread : (p : Place) (names : List (List ℕ)) (v : View) → ((x : List ℕ) → is_held (kind_of x) ≡ true → has_text x names ≡ true → v.seen.names p x ≡ Listed) → (hs : List HeldPair) → All (IsListedPair names) hs → AreUnread p hs v
all_unread p names v seen [] all = tt
all_unread p names v seen (h ∷ hs) all = (seen (held_name h) (held_is h all.0.0) all.0.1, all_unread p names v seen hs all.1)

-- numbers
abbrev pub taken_in : Contents → Place → ℕ → Bool
taken_in c p k = is_some ((folder_at c p).messages k)

some_numbered : (k : ℕ) (o : Option (List ℕ)) → IsMsgNum k → is_some (numbered k o) ≡ is_some o
some_numbered k o ok = rw (is_number_of k ok) refl

pub folder_taken : (c : Contents) (p : Place) (names : List (List ℕ)) → IsListingIn c p names → AreTaken c p (taken_in c p) (highest names)
unfolding entry_text
folder_taken c p names l = record { told = λ k ok. some_numbered k (c.texts p (decimal k)) ok; below = λ k ok e. highest_above names k (sym (list_told c p names l k) ∙ e) }

pub folder_top : (c : Contents) (p : Place) (names : List (List ℕ)) → IsListingIn c p names → IsTop (folder_at c p) (highest names)
unfolding entry_text
folder_top c p names l = record { above = λ k e. highest_above names k (sym (list_told c p names l k) ∙ e); attained = by (highest_there names) }
  where
    by : (highest names ≡ 0) ⊎ (has_number (highest names) names ≡ true) → (highest names ≡ 0) ⊎ (is_some (numbered (highest names) (c.texts p (decimal (highest names)))) ≡ true)
    by (inl e) = inl e
    by (inr e) = inr (list_told c p names l (highest names) ∙ e)

pub highest_small : (names : List (List ℕ)) → highest names ≤ 999999
unfolding highest
highest_small [] = omega arith
highest_small (x ∷ names) = go (number_of x) refl (highest_small names)
  where
    go : (o : Option ℕ) → number_of x ≡ o → highest names ≤ 999999 → above o (highest names) ≤ 999999
    go None e l = l
    go (Some n) e l = let m : n ≤ 999999 = (number_ok n (number_is x n e).1).1 in omega (arith, l, m)

-- names that settling leaves alone
plain_given : (c : Contents) (p : Place) (h : HeldPair) (end : Option ℕ) (x : List ℕ) → IsEnd end → is_standing x ≡ false → (given_in c p h end).texts p x ≡ c.texts p x
plain_given c p h None x ok e = refl
plain_given c p h (Some m) x ok e = rw (place_is p, bytes_false (decimal m) x (λ f. not_both (is_standing x) (ap is_standing (sym f) ∙ (rw (number_kind m ok) refl)) e)) refl

plain_dropped : (c : Contents) (p : Place) (h : HeldPair) (end : Option ℕ) (x : List ℕ) → IsPair h → is_standing x ≡ false → (dropped_of c p h end).texts p x ≡ c.texts p x
plain_dropped c p h None x ok e = refl
plain_dropped c p h (Some m) x ok e = rw (place_is p, bytes_false (held_name h) x (λ f. not_both (is_standing x) (ap is_standing (sym f) ∙ held_stands (held_name h) (held_is h ok)) e)) refl

plain_linked : (c : Contents) (p : Place) (hs : List HeldPair) (ends : List (Option ℕ)) (x : List ℕ) → AreEnds hs ends → is_standing x ≡ false → (linked_in c p hs ends).texts p x ≡ c.texts p x
unfolding linked_in
plain_linked c p [] ends x ok e = refl
plain_linked c p (h ∷ hs) [] x ok e = refl
plain_linked c p (h ∷ hs) (end ∷ ends) x ok e = plain_linked (given_in c p h end) p hs ends x ok.1 e ∙ plain_given c p h end x ok.0 e

plain_drops : (c : Contents) (p : Place) (hs : List HeldPair) (ends : List (Option ℕ)) (x : List ℕ) → ArePairs hs → is_standing x ≡ false → (dropped_in c p hs ends).texts p x ≡ c.texts p x
unfolding dropped_in
plain_drops c p [] ends x ok e = refl
plain_drops c p (h ∷ hs) [] x ok e = refl
plain_drops c p (h ∷ hs) (end ∷ ends) x ok e = plain_drops (dropped_of c p h end) p hs ends x ok.1 e ∙ plain_dropped c p h end x ok.0 e

pub plain_settled : (c : Contents) (p : Place) (hs : List HeldPair) (ends : List (Option ℕ)) (x : List ℕ) → ArePairs hs → AreEnds hs ends → is_standing x ≡ false → (settled_in c p hs ends).texts p x ≡ c.texts p x
plain_settled c p hs ends x pairs ok e = plain_drops (linked_in c p hs ends) p hs ends x pairs e ∙ plain_linked c p hs ends x ok e

-- what a listing tells where nothing of the folder was seen before
abbrev pub Lists : Bool → View → Place → List (List ℕ) → List ℕ → Type 0
Lists true v p names x = is_some (v.contents.texts p x) ≡ has_text x names
Lists false v p names x = is_some (v.contents.texts p x) ≡ has_text x names || v.met p x

pub list_tells : (alone : Bool) (v : View) (p : Place) (names : List (List ℕ)) → ((x : List ℕ) → v.seen.names p x ≡ Unseen) → fits_view alone v (step.List p) (answer.Names names) → (x : List ℕ) → is_standing x ≡ true → Lists alone v p names x
list_tells true v p names fresh f x s = sym (f.0.1.all x)
list_tells false v p names fresh f x s = rw (fresh x) at (f.0.1 x s)

pub held_told : (alone : Bool) (v : View) (p : Place) (names : List (List ℕ)) → ((x : List ℕ) → is_standing x ≡ true → Lists alone v p names x) → ((x : List ℕ) → is_held (kind_of x) ≡ true → v.met p x ≡ false) → TellsHeld v.contents p names
held_told true v p names told unmet x e = told x (held_stands x e)
held_told false v p names told unmet x e = told x (held_stands x e) ∙ (rw (unmet x e) (by (has_text x names)))
  where
    by : (b : Bool) → b || false ≡ b
    by true = refl
    by false = refl

listed_sight : (b : Bool) → b ≡ true → in_listing b Unseen ≡ Listed
listed_sight true e = refl
listed_sight false e = cc

pub sight_of : (v : View) (p : Place) (names : List (List ℕ)) (x : List ℕ) → v.seen.names p x ≡ Unseen → is_standing x ≡ true → has_text x names || v.met p x ≡ true → (view_after v (step.List p) (answer.Names names)).seen.names p x ≡ Listed
sight_of v p names x fresh s e = rw (place_is p, s, fresh) (listed_sight (has_text x names || v.met p x) e)

pub lists_listed : (alone : Bool) (v : View) (p : Place) (names : List (List ℕ)) → ((x : List ℕ) → v.seen.names p x ≡ Unseen) → ((x : List ℕ) → is_standing x ≡ true → Lists alone v p names x) → AreListed p (view_after v (step.List p) (answer.Names names))
lists_listed alone v p names fresh told k ok some = sight_of v p names (decimal k) (fresh (decimal k)) stands (by alone (told (decimal k) stands))
  where
    stands : is_standing (decimal k) ≡ true
    stands = rw (number_kind k ok) refl

    by : (a : Bool) → Lists a v p names (decimal k) → has_text (decimal k) names || v.met p (decimal k) ≡ true
    by true t = or_left (has_text (decimal k) names) (v.met p (decimal k)) (sym t ∙ some)
    by false t = sym t ∙ some
