-- The folders that the items of `refile` name, one item after another.
use Rattle.std.proofs.Common.{◌≡◌, ◌==◌, ◌⊎◌, inl, inr, Bool, true, false, if◌then◌else◌, ◌++◌, ◌∷◌, [], ℕ, ◌+◌, ◌<◌, ◌≤◌, List, Option, None, Some, Result, Ok, Err, refl, sym, ◌∙◌, ap, subst, drop, get_or, length, append_assoc, append-nil}
use Rattle.std.specs.Prelude.{IsErr, IsErrAnd}
use Rattle.std.specs.List.{flat_map}
use Rattle.std.proofs.lemmas.List.{drop_all}
use Rattle.mh_base.specs.Folders.{is_folder_name, without_plus}
use Rattle.mh_words.specs.Whole.{Wrong}
use Rattle.mh_words.specs.declared.item.Item.{Item}
use Rattle.mh_words.specs.declared.item.Item.TheVariants.{Folder, Message, Switch, Component}
use Rattle.folder_files.specs.declared.refusal.Refusal.TheVariants as refusal
use Rattle.step_plans.specs.declared.command_fault.CommandFault.{CommandFault}
use Rattle.step_plans.specs.declared.command_fault.CommandFault.TheVariants as fault
use Rattle.step_plans.proofs.Rounds.{next}
use Rattle.command_words.specs.Ended.{plain, wrong_at, missing_after}
use Rattle.command_words.specs.FolderWords.{FolderWord, folders, named_folder, one_folder}
use Rattle.folder_words.specs.RefileFolders.{AreBehind, AreNamed, AreTargets, IsFirstWrong, IsNoted, IsTargetNoted, IsUnchanged, IsValueNoted, IsWordNoted}
use Rattle.folder_words.specs.RefileWords.{refile_items, last_or, source_of, targets, targets_in, targets_said, unless_wrong, words_of, wrong_in, wrong_names}
use Rattle.command_words.specs.Results.{IsNamed, IsSaid}
use Rattle.command_words.specs.Switches.{value_in}
use Rattle.command_words.specs.declared.ended.Ended.{Ended}
use Rattle.folder_words.specs.declared.refile.FoldersNamed.{FoldersNamed}
use Rattle.folder_words.specs.declared.refile.RefileWords.{RefileWords}
use Rattle.folder_words.specs.declared.table.TheConstants.{SRC}
use Rattle.command_words.proofs.SaidFolder.{no_ok, ok_same}

last_append : (before : Option (List ℕ)) (xs ys : List (List ℕ)) → last_or before (xs ++ ys) ≡ last_or (last_or before xs) ys
last_append before [] ys = refl
last_append before (x ∷ xs) ys = last_append (Some (without_plus x)) xs ys

-- what a folder's name is
pub name_is : (word name : List ℕ) → named_folder word ≡ Ok name → (name ≡ without_plus word) × (is_folder_name (without_plus word) ≡ true)
name_is word name e = go (is_folder_name (without_plus word)) refl e
  where
    go : (b : Bool) → is_folder_name (without_plus word) ≡ b → ◌≡◌ {A = Result (List ℕ) CommandFault} (if b then Ok (without_plus word) else Err (fault.Refused (refusal.BadFolder word))) (Ok name) → (name ≡ without_plus word) × (is_folder_name (without_plus word) ≡ true)
    go true is f = (sym (ok_same (without_plus word) name f), is)
    go false is f = no_ok (fault.Refused (refusal.BadFolder word)) name f

pub not_named : (word : List ℕ) (e : CommandFault) → named_folder word ≡ Err e → (is_folder_name (without_plus word) ≡ false) × (e ≡ fault.Refused (refusal.BadFolder word))
not_named word e f = go (is_folder_name (without_plus word)) refl f
  where
    go : (b : Bool) → is_folder_name (without_plus word) ≡ b → ◌≡◌ {A = Result (List ℕ) CommandFault} (if b then Ok (without_plus word) else Err (fault.Refused (refusal.BadFolder word))) (Err e) → (is_folder_name (without_plus word) ≡ false) × (e ≡ fault.Refused (refusal.BadFolder word))
    go true is f = cc (f)
    go false is f = (is, cc (f))

-- a word that is a folder was noted
pub word_noted : (old new : FoldersNamed) (text name : List ℕ) (u : Unit) → named_folder text ≡ Ok name → IsTargetNoted old name new → IsWordNoted old text new (Ok u)
word_noted old new text name u named noted = (subst (λ n. IsTargetNoted old n new) (name_is text name named).0 noted, (name_is text name named).1)

-- one that is none is refused
pub word_left : (old new : FoldersNamed) (text : List ℕ) (e : CommandFault) (r : Result Unit CommandFault) → IsNamed {A = List ℕ} (named_folder text) (Err e) → IsErr r × IsErrAnd r (λ f. f ≡ e) → IsWordNoted old text new r
word_left old new text e (Ok u) named is = absurd (let wrong = is.0 in cc (wrong))
word_left old new text e (Err f) named is = subst (λ z. IsWordNoted old text new (Err z)) (sym is.1) (by_fault e named)
  where
    by_fault : (e : CommandFault) → IsNamed {A = List ℕ} (named_folder text) (Err e) → IsWordNoted old text new (Err e)
    by_fault (fault.Refused r) named = inl (not_named text (fault.Refused r) named)
    by_fault (fault.Faulted w) named = absurd named
    by_fault (fault.Locked p) named = absurd named
    by_fault (fault.Meddled p x) named = absurd named
    by_fault fault.Memory named = inr refl

-- what it means that an item was noted: the folder that messages leave, those to which they go, and no wrong word; or it is the first wrong one
abbrev Means : FoldersNamed → Item → FoldersNamed → Result Unit CommandFault → Type 0
Means old item new (Ok u) =
    (new.source ≡ last_or old.source (value_in SRC item)) × ((names : List (List ℕ)) → AreTargets old names → AreTargets new (names ++ targets_in item)) × (wrong_in item ≡ [])
Means old item new (Err e) = IsFirstWrong e (wrong_in item) ⊎ (e ≡ fault.Memory)

same_targets : (old new : FoldersNamed) → new ≡ old → (names : List (List ℕ)) → AreTargets old names → AreTargets new (names ++ [])
same_targets old new same names f = subst (AreTargets new) (sym (append-nil names)) (subst (λ n. AreTargets n names) (sym same) f)

word_means : (old new : FoldersNamed) (text : List ℕ) (place : ℕ) (r : Result Unit CommandFault) → IsWordNoted old text new r → Means old (Folder text place) new r
word_means old new text place (Ok u) f = (f.0.0, f.0.1, none)
  where
    none : wrong_in (Folder text place) ≡ []
    none = rw f.1 refl
word_means old new text place (Err e) (inr m) = inr m
word_means old new text place (Err e) (inl w) = inl (text, [], one, w.1)
  where
    one : wrong_in (Folder text place) ≡ text ∷ []
    one = rw w.0 refl

value_means : (old new : FoldersNamed) (index : ℕ) (value : List ℕ) (place : ℕ) (r : Result Unit CommandFault) (b : Bool) → (index == SRC) ≡ b → IsValueNoted b old value new r → Means old (Switch index (Some value) place) new r
value_means old new index value place (Ok u) false at f = (rw (at, f) refl, same, rw at refl)
  where
    same : (names : List (List ℕ)) → AreTargets old names → AreTargets new (names ++ [])
    same = same_targets old new f
value_means old new index value place (Err e) false at f = inr f
value_means old new index value place (Ok u) true at f = (rw at f.0, same, rw at (rw f.3 refl))
  where
    same : (names : List (List ℕ)) → AreTargets old names → AreTargets new (names ++ [])
    same names g = subst (AreTargets new) (sym (append-nil names)) (subst (λ t. AreBehind t new.others names) (sym f.1) (subst (λ o. AreBehind old.target o names) (sym f.2) g))
value_means old new index value place (Err e) true at (inr m) = inr m
value_means old new index value place (Err e) true at (inl w) = inl (value, [], one, w.1)
  where
    one : wrong_in (Switch index (Some value) place) ≡ value ∷ []
    one = rw at (rw w.0 refl)

noted_means : (old new : FoldersNamed) (item : Item) (r : Result Unit CommandFault) → IsNoted old item new r → Means old item new r
noted_means old new (Folder text place) r f = word_means old new text place r f
noted_means old new (Message text place) r f = by_result r f
  where
    by_result : (r : Result Unit CommandFault) → IsUnchanged old new r → Means old (Message text place) new r
    by_result (Ok u) f = (ap (λ n. n.source) f, same_targets old new f, refl)
    by_result (Err e) f = inr f
noted_means old new (Switch index None place) r f = by_result r f
  where
    by_result : (r : Result Unit CommandFault) → IsUnchanged old new r → Means old (Switch index None place) new r
    by_result (Ok u) f = (ap (λ n. n.source) f, same_targets old new f, refl)
    by_result (Err e) f = inr f
noted_means old new (Switch index (Some value) place) r f = value_means old new index value place r (index == SRC) refl f
noted_means old new (Component name value place) r f = by_result r f
  where
    by_result : (r : Result Unit CommandFault) → IsUnchanged old new r → Means old (Component name value place) new r
    by_result (Ok u) f = (ap (λ n. n.source) f, same_targets old new f, refl)
    by_result (Err e) f = inr f

-- what the items before this index name was noted, and none of their words is wrong
pub record AreNoted (items : List Item) (i : ℕ) (named : FoldersNamed) : Type 0 where
  pub source : last_or named.source (flat_map (value_in SRC) (drop i items)) ≡ source_of items
  pub front : List (List ℕ)
  pub to : AreTargets named front
  pub rest : front ++ targets (drop i items) ≡ targets items
  pub right : wrong_names (drop i items) ≡ wrong_names items

module _ (items : List Item) (i : ℕ) where
  module _ (item : Item) (lt : i < length items) (is : item ≡ get_or items i item) where
    left : drop i items ≡ item ∷ drop (i + 1) items
    left = next items i item lt is

    pub noted_next : (old new : FoldersNamed) (u : Unit) → IsNoted old item new (Ok u) → AreNoted items i old → AreNoted items (i + 1) new
    noted_next old new u noted f = next_so (noted_means old new item (Ok u) noted) f
      where
        next_so : Means old item new (Ok u) → AreNoted items i old → AreNoted items (i + 1) new
        next_so noted f = record {
          source = ap (λ o. last_or o (flat_map (value_in SRC) (drop (i + 1) items))) noted.0
              ∙ (sym (last_append old.source (value_in SRC item) (flat_map (value_in SRC) (drop (i + 1) items))) ∙ (ap (λ l. last_or old.source (flat_map (value_in SRC) l)) (sym left) ∙ f.source));
          front = f.front ++ targets_in item;
          to = noted.1 f.front f.to;
          rest = append_assoc f.front (targets_in item) (targets (drop (i + 1) items)) ∙ (ap (λ l. f.front ++ targets l) (sym left) ∙ f.rest);
          right = ap (λ l. l ++ wrong_names (drop (i + 1) items)) (sym noted.2) ∙ (ap wrong_names (sym left) ∙ f.right);
        }

    pub noted_wrong : (old new : FoldersNamed) (e : CommandFault) → IsNoted old item new (Err e) → AreNoted items i old → AreNamed items (Err e)
    noted_wrong old new e noted f = wrong_so (noted_means old new item (Err e) noted) f
      where
        wrong_so : Means old item new (Err e) → AreNoted items i old → AreNamed items (Err e)
        wrong_so (inl w) f = inl (w.0, w.1 ++ wrong_names (drop (i + 1) items), sym f.right ∙ (ap wrong_names left ∙ ap (λ l. l ++ wrong_names (drop (i + 1) items)) w.2), w.3)
        wrong_so (inr m) f = inr m

  pub noted_all : (named : FoldersNamed) → length items ≤ i → AreNoted items i named → AreNamed items (Ok named)
  noted_all named le f = (
    ap (λ l. last_or named.source (flat_map (value_in SRC) l)) (sym (drop_all i items le)) ∙ f.source,
    subst (AreTargets named) (sym (append-nil f.front) ∙ (ap (λ l. f.front ++ targets l) (sym (drop_all i items le)) ∙ f.rest)) f.to,
    sym f.right ∙ ap wrong_names (drop_all i items le),
  )

-- at the begin
pub none_noted : (items : List Item) (named : FoldersNamed) → named.source ≡ None → named.target ≡ None → named.others ≡ [] → AreNoted items 0 named
none_noted items named s t o = record { source = ap (λ z. last_or z (flat_map (value_in SRC) items)) s; front = []; to = subst (λ z. AreBehind z named.others []) (sym t) (o, refl); rest = refl; right = refl }

-- the words, where the folders are these
pub named_said : (words : List (List ℕ)) (items : List Item) (source : Option (List ℕ)) (target : List ℕ) (others : List (List ℕ)) (said : RefileWords)
    → AreNamed items (Ok (record { source = source; target = Some target; others = others })) → said ≡ words_of source target others items → IsSaid (refile_items words items) (Ok said)
named_said words items source target others said f is =
    subst (λ names. IsSaid (targets_said words items names) (Ok said)) (sym f.1)
    (subst (λ wrong. IsSaid (unless_wrong (words_of (source_of items) target others items) wrong) (Ok said)) (sym f.2) (ap Ok (ap (λ s. words_of s target others items) (sym f.0) ∙ sym is)))

-- the refusal of a word that names no folder, where one folder at least is named
pub wrong_said : (words : List (List ℕ)) (items : List Item) (e : CommandFault) → (targets items ≡ [] → ⊥) → AreNamed items (Err e) → IsSaid (refile_items words items) (Err (plain e))
wrong_said words items e some (inr m) = inr m
wrong_said words items e some (inl w) = inl (go (targets items) some)
  where
    refused : (wrong : List (List ℕ)) → wrong ≡ w.0 ∷ w.1 → (all : RefileWords) → unless_wrong all wrong ≡ Err (plain e)
    refused wrong is all = rw is (ap (λ x. Err (plain x)) (sym w.3))

    go : (names : List (List ℕ)) → (names ≡ [] → ⊥) → targets_said words items names ≡ Err (plain e)
    go [] is = absurd (is refl)
    go (target ∷ others) is = refused (wrong_names items) w.2 (words_of (source_of items) target others items)

-- a folder among the items is one for messages to go to
no_folders : (items : List Item) → targets items ≡ [] → folders items ≡ []
no_folders [] e = refl
no_folders (Folder text place ∷ items) e = cc (e)
no_folders (Message text place ∷ items) e = no_folders items e
no_folders (Switch index value place ∷ items) e = no_folders items e
no_folders (Component name value place ∷ items) e = no_folders items e

no_targets : (items : List Item) → folders items ≡ [] → targets items ≡ []
no_targets [] e = refl
no_targets (Folder text place ∷ items) e = cc (e)
no_targets (Message text place ∷ items) e = no_targets items e
no_targets (Switch index value place ∷ items) e = no_targets items e
no_targets (Component name value place ∷ items) e = no_targets items e

none_found : (fs : List FolderWord) → one_folder fs ≡ Ok None → fs ≡ []
none_found [] e = refl
none_found (f ∷ []) e = cc (e)
none_found (f ∷ (g ∷ fs)) e = cc (e)

pub none_named : (items : List Item) → one_folder (folders items) ≡ Ok None → targets items ≡ []
none_named items e = no_targets items (none_found (folders items) e)

pub some_named : (items : List Item) (word : List ℕ) → one_folder (folders items) ≡ Ok (Some word) → targets items ≡ [] → ⊥
some_named items word some e = absurd (let both : one_folder [] ≡ Ok (Some word) = ap one_folder (sym (no_folders items e)) ∙ some in cc (both))

pub wrong_named : (items : List Item) (w : Wrong) → one_folder (folders items) ≡ Err w → targets items ≡ [] → ⊥
wrong_named items w some e = absurd (let both : one_folder [] ≡ Err w = ap one_folder (sym (no_folders items e)) ∙ some in cc (both))

-- none is named
pub missing_said : (words : List (List ℕ)) (items : List Item) (e : Ended) → targets items ≡ [] → e ≡ wrong_at words (missing_after words) → IsSaid (refile_items words items) (Err e)
missing_said words items e none is = inl (subst (λ names. targets_said words items names ≡ Err e) (sym none) (ap Err (sym is)))

-- a result that is this error
pub named_fault : (items : List Item) (e : CommandFault) (r : Result FoldersNamed CommandFault) → IsErr r × IsErrAnd r (λ f. f ≡ e) → AreNamed items (Err e) → AreNamed items r
named_fault items e (Ok named) is f = absurd (let wrong = is.0 in cc (wrong))
named_fault items e (Err x) is f = subst (λ z. AreNamed items (Err z)) (sym is.1) f
