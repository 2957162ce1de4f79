-- What a step makes of known contents, and the answers that it doesn't have there.
use Rattle.std.proofs.Common.{◌≡◌, ℕ, Bool, true, false, List, [], Option, Some, None, refl, sym, ◌∙◌, ap, subst, bytes_eq}
use Rattle.std.specs.Prelude.{length, nat_lt, is_none, is_some, if◌then◌else◌}
use Rattle.mh_base.specs.Entries.{kind_of}
use Rattle.folder_files.specs.Named.{is_temp}
use Rattle.folder_files.specs.Steps.{read_file_answer, there_answer}
use Rattle.folder_files.specs.declared.place.Place.{Place}
use Rattle.folder_files.specs.declared.step.Step.{Step}
use Rattle.folder_files.specs.declared.step.Answer.{Answer}
use Rattle.folder_files.specs.declared.step.Answer.TheVariants as answer
use Rattle.folder_files.proofs.Names.{bytes_true, not_both}
use Rattle.file_plans.specs.Contents.{Contents, filled, FitsIn, changed_by, is_at, with_text, with_moved, name_answer, link_answer}
use Rattle.file_plans.specs.Views.{View, view_after, number_put, left_of, fits_view}
use Rattle.file_plans.proofs.Existing.{at_name, at_self}
use Rattle.file_plans.proofs.Viewing.{fits_alone}

-- the contents are these, where the call runs alone, and these are the numbers of the puts to come
abbrev pub Is : Bool → List ℕ → View → Contents → Type 0
Is alone ns v c = (alone ≡ true → v.contents ≡ c) × (v.numbers ≡ ns)

pub onward : (alone : Bool) (ns : List ℕ) (v : View) (c : Contents) (s : Step) (a : Answer) → Is alone ns v c → number_put s a ≡ None → Is alone ns (view_after v s a) (changed_by c s a)
onward alone ns v c s a is none = ((λ e. ap (λ z. changed_by z s a) (is.0 e)), ap (λ o. left_of o v.numbers) none ∙ is.1)

pub fits_at : (alone : Bool) (ns : List ℕ) (v : View) (c : Contents) (s : Step) (a : Answer) → Is alone ns v c → fits_view alone v s a → alone ≡ true → FitsIn c s a
fits_at alone ns v c s a is f e = subst (λ z. FitsIn z s a) (is.0 e) (fits_alone alone v s a e f)

-- answers that a name or a directory that is there doesn't have
pub not_gone : (o : Option (List ℕ)) → is_some o ≡ true → answer.Gone ≡ name_answer o → ⊥
not_gone None s e = cc
not_gone (Some text) s e = cc

pub not_gone_there : (b : Bool) → b ≡ true → answer.Gone ≡ there_answer b → ⊥
not_gone_there true s e = cc
not_gone_there false s e = cc

pub not_busy_there : (b : Bool) → answer.Busy ≡ there_answer b → ⊥
not_busy_there true e = cc
not_busy_there false e = cc

abbrev pub creating : Bool → Option (List ℕ) → Answer
creating there o = if there then (if is_none o then answer.Done else answer.Exists) else answer.Gone

pub not_exists : (b : Bool) (o : Option (List ℕ)) → o ≡ None → answer.Exists ≡ creating b o → ⊥
not_exists true None n e = cc
not_exists true (Some text) n e = cc
not_exists false o n e = cc

pub not_gone_created : (b : Bool) (o : Option (List ℕ)) → b ≡ true → o ≡ None → answer.Gone ≡ creating b o → ⊥
not_gone_created true None t n e = cc
not_gone_created true (Some text) t n e = cc
not_gone_created false o t n e = cc

-- a name that is made and then renamed
pub made_moved : (c : Contents) (p : Place) (temp name bytes : List ℕ) → c.texts p temp ≡ None → bytes_eq temp name ≡ false → with_moved (with_text c p temp (Some bytes)) p temp name ≡ with_text c p name (Some bytes)
made_moved c p temp name bytes new apart = (λ i. if apart i then with_text c p temp (Some bytes) else moved) ∙ (λ i. record { there = c.there; texts = λ q x. each q x i; outside = c.outside })
  where
    moved : Contents
    moved = with_text (with_text (with_text c p temp (Some bytes)) p temp None) p name ((with_text c p temp (Some bytes)).texts p temp)

    other : (q : Place) (x : List ℕ) → is_at p name q x ≡ false → moved.texts q x ≡ c.texts q x
    other = at_name p temp (λ q x. is_at p name q x ≡ false → moved.texts q x ≡ c.texts q x) (λ e. rw (e, at_self p temp) (sym new)) (λ q x f e. rw (e, f) refl)

    each : (q : Place) (x : List ℕ) → moved.texts q x ≡ (with_text c p name (Some bytes)).texts q x
    each = at_name p name (λ q x. moved.texts q x ≡ (with_text c p name (Some bytes)).texts q x) (rw (at_self p name, at_self p temp) refl) (λ q x e. other q x e ∙ rw e refl)

-- a text that is read is at most so long
abbrev pub IsShort : ℕ → Option (List ℕ) → Type 0
IsShort limit None = Unit {0}
IsShort limit (Some text) = nat_lt limit (length text) ≡ false

pub content_is : (limit : ℕ) (o : Option (List ℕ)) (b : List ℕ) → answer.Content b ≡ read_file_answer limit o → b ≡ filled o
content_is limit None b e = cc
content_is limit (Some text) b e = go (nat_lt limit (length text)) e
  where
    go : (v : Bool) → answer.Content b ≡ (if v then answer.Long (length text) else answer.Content text) → b ≡ text
    go true e = cc
    go false e = cc

pub gone_is : (limit : ℕ) (o : Option (List ℕ)) → answer.Gone ≡ read_file_answer limit o → [] ≡ filled o
gone_is limit None e = refl
gone_is limit (Some text) e = go (nat_lt limit (length text)) e
  where
    go : (v : Bool) → answer.Gone ≡ (if v then answer.Long (length text) else answer.Content text) → [] ≡ text
    go true e = cc
    go false e = cc

pub long_not : (limit : ℕ) (o : Option (List ℕ)) (l : ℕ) → IsShort limit o → answer.Long l ≡ read_file_answer limit o → ⊥
long_not limit None l short e = cc
long_not limit (Some text) l short e = go (nat_lt limit (length text)) short e
  where
    go : (v : Bool) → v ≡ false → answer.Long l ≡ (if v then answer.Long (length text) else answer.Content text) → ⊥
    go true s e = cc (s)
    go false s e = cc

pub temp_apart : (temp : List ℕ) → is_temp (kind_of temp) ≡ true → (name : List ℕ) → is_temp (kind_of name) ≡ false → bytes_eq temp name ≡ false
temp_apart temp is name isnt = go (bytes_eq temp name) refl
  where
    go : (v : Bool) → bytes_eq temp name ≡ v → v ≡ false
    go true e = absurd (not_both (is_temp (kind_of name)) (ap (λ z. is_temp (kind_of z)) (sym (bytes_true temp name e)) ∙ is) isnt)
    go false e = refl

-- a Link
pub exists_some : (o u : Option (List ℕ)) → answer.Exists ≡ link_answer o u → is_some u ≡ true
exists_some None u e = cc
exists_some (Some t) None e = cc
exists_some (Some t) (Some w) e = refl

pub done_none : (o u : Option (List ℕ)) → answer.Done ≡ link_answer o u → u ≡ None
done_none None u e = cc
done_none (Some t) None e = refl
done_none (Some t) (Some w) e = cc

pub not_linked_gone : (o u : Option (List ℕ)) → is_some o ≡ true → answer.Gone ≡ link_answer o u → ⊥
not_linked_gone None u s e = cc
not_linked_gone (Some t) None s e = cc
not_linked_gone (Some t) (Some w) s e = cc
