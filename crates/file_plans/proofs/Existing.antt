-- Whatever a call was answered beside other runs, there are contents that agree.
use Rattle.std.proofs.Common.{◌≡◌, ◌≢◌, ◌&&◌, ◌||◌, ℕ, Bool, true, false, List, [], ◌∷◌, Option, Some, None, refl, sym, ◌∙◌, ap, subst, bytes_eq}
use Rattle.std.specs.Prelude.{is_some, if◌then◌else◌}
use Rattle.folder_files.specs.Directory.{now_in}
use Rattle.folder_files.specs.Places.{same_place, same_path, is_parent}
use Rattle.folder_files.specs.Steps.{Fits, cut_at, has_text, read_file_answer}
use Rattle.folder_files.specs.Worlds.{WorldMap}
use Rattle.folder_files.specs.declared.place.Place.{Place}
use Rattle.folder_files.specs.declared.place.FilePath.{FilePath}
use Rattle.folder_files.specs.declared.step.Step.{Step}
use Rattle.folder_files.specs.declared.step.Step.TheVariants as step
use Rattle.folder_files.specs.declared.step.Answer.{Answer}
use Rattle.folder_files.specs.declared.step.Answer.TheVariants.{Done, Names, Content, Piece, Long, Gone, Exists, Busy, Grown, Failed}
use Rattle.file_plans.specs.Giving.{FitAll}
use Rattle.file_plans.specs.Mailboxes.{text_in}
use Rattle.file_plans.specs.Runs.{Deed, Did, Said, Heard}
use Rattle.folder_files.specs.Standing.{is_standing}
use Rattle.folder_files.proofs.Names.{or_false, bytes_true, bytes_self}
use Rattle.folder_files.proofs.Sameness.{at_all}
use Rattle.file_plans.specs.Contents.{Contents, filled, is_at, with_text, where_done, changed_by}
use Rattle.file_plans.specs.Views.{Spied, Spent, spied_by, Sight, Unseen, Listed, Known, Seen, nothing_seen, noticed, sight_listed, with_sight, sight_moved, with_place, seen_by, IsThere, ReadTells, ListingTells, PlaceTells, is_gone, is_exists, Tells, number_put, IsNextOf, left_of, View, first_view, by_view}
use Rattle.file_plans.specs.Agreeing.{with_number}
use Rattle.file_plans.proofs.Spying.{FileAgrees, IsDropSound, drop_back, file_told, path_self, at_path}
use Rattle.folder_files.proofs.Sameness.{place_is}
use Rattle.file_plans.proofs.Contents.{map_read}

-- the text is that one, as far as it is still to be seen
abbrev TextAgrees : Sight → Option (List ℕ) → Option (List ℕ) → Type 0
TextAgrees Unseen o u = o ≡ u
TextAgrees Listed o u = o ≡ Some (filled u)
TextAgrees Known o u = Unit {0}

record AgreesOn (k : Seen) (c t : Contents) : Type 0 where
  names : (p : Place) (x : List ℕ) → TextAgrees (k.names p x) (c.texts p x) (t.texts p x)
  places : (p : Place) → k.places p ≡ false → c.there p ≡ t.there p
  files : (f : FilePath) → FileAgrees (k.files f) (c.outside f) (t.outside f)

-- contents before a step, by those after it
record Back (met : Place → List ℕ → Bool) (k : Seen) (s : Step) (a : Answer) (later : Contents) : Type 0 where
  now : Contents
  tells : (c : Contents) → AgreesOn k c now → a ≢ Failed → Tells met c k s a
  agrees : (c : Contents) → AgreesOn k c now → AgreesOn (seen_by met k s a) (changed_by c s a) later

-- what holds of one name of one place, and of all others, holds of all
pub at_name : (q : Place) (n : List ℕ) (P : Place → List ℕ → Type 0) → P q n → ((p : Place) (x : List ℕ) → is_at q n p x ≡ false → P p x) → (p : Place) (x : List ℕ) → P p x
at_name q n P here elsewhere p x = at_all q (λ p. (x : List ℕ) → P p x) (λ x. same x (bytes_eq n x) refl) (λ p f x. elsewhere p x (rw f refl)) p x
  where
    same : (x : List ℕ) (v : Bool) → bytes_eq n x ≡ v → P q x
    same x true e = subst (λ z. P q z) (bytes_true n x e) here
    same x false e = elsewhere q x (rw (place_is q, e) refl)

pub at_self : (q : Place) (n : List ℕ) → is_at q n q n ≡ true
at_self q n = rw (place_is q, bytes_self n) refl

pub bytes_turned : (a b : List ℕ) → bytes_eq a b ≡ false → bytes_eq b a ≡ false
bytes_turned a b e = go (bytes_eq b a) refl
  where
    go : (v : Bool) → bytes_eq b a ≡ v → v ≡ false
    go true f = sym (bytes_self b) ∙ (ap (λ z. bytes_eq z b) (bytes_true b a f) ∙ e)
    go false f = refl

pub at_turned : (p : Place) (a b : List ℕ) → is_at p a p b ≡ false → is_at p b p a ≡ false
at_turned p a b e = rw (place_is p) (bytes_turned a b (rw (place_is p) at e))

-- nothing is told and nothing changes
same_back : (met : Place → List ℕ → Bool) (k : Seen) (s : Step) (a : Answer) (t : Contents) → seen_by met k s a ≡ k → ((c : Contents) → changed_by c s a ≡ c) → ((c : Contents) → Tells met c k s a) → Back met k s a t
same_back met k s a t same kept told = record {
  now = t;
  tells = λ c g live. told c;
  agrees = λ c g. subst (λ j. AgreesOn j (changed_by c s a) t) (sym same) (subst (λ d. AgreesOn k d t) (sym (kept c)) g);
}

-- directories
abbrev placed : Contents → Place → Bool → Contents
placed t p v = record { there = λ q. if same_place p q then v else t.there q; texts = t.texts; outside = t.outside }

place_told : (k : Seen) (c t : Contents) (p : Place) (v : Bool) → AgreesOn k c (placed t p v) → PlaceTells (k.places p) (c.there p) v
place_told k c t p v g = go (k.places p) refl
  where
    go : (u : Bool) → k.places p ≡ u → PlaceTells u (c.there p) v
    go true e = tt
    go false e = rw (place_is p) at (g.places p e)

placed_later : (k : Seen) (c t : Contents) (p q : Place) (v : Bool) → AgreesOn k c (placed t p v) → (same_place p q || k.places q) ≡ false → c.there q ≡ t.there q
placed_later k c t p q v g e = let s : (same_place p q ≡ false) × (k.places q ≡ false) = or_false (same_place p q) (k.places q) e in rw s.0 at (g.places q s.1)

placed_agrees : (k : Seen) (c t : Contents) (p : Place) (v : Bool) → AgreesOn k c (placed t p v) → AgreesOn (with_place k p) c t
placed_agrees k c t p v g = record { names = g.names; places = λ q e. placed_later k c t p q v g e; files = g.files }

-- listings
abbrev listed_text : Bool → Bool → Sight → Option (List ℕ) → Option (List ℕ)
listed_text true true Unseen u = Some (filled u)
listed_text true false Unseen u = None
listed_text true b Listed u = u
listed_text true b Known u = u
listed_text false b s u = u

listed_later : (v b : Bool) (s : Sight) (o u : Option (List ℕ)) → TextAgrees s o (listed_text v b s u) → TextAgrees (sight_listed v b s) o u
listed_later true true Unseen o u g = g
listed_later true false Unseen o u g = tt
listed_later true b Listed o u g = g
listed_later true b Known o u g = tt
listed_later false b s o u g = g

listed_told : (b : Bool) (s : Sight) (o u : Option (List ℕ)) → TextAgrees s o (listed_text true b s u) → ListingTells s o b
listed_told true Unseen o u g = ap is_some g
listed_told false Unseen o u g = ap is_some g
listed_told b Listed o u g = tt
listed_told b Known o u g = tt

abbrev listed : (Place → List ℕ → Bool) → Seen → Contents → Place → List (List ℕ) → Contents
listed met k t p names = record { there = λ q. if same_place p q then true else t.there q; texts = λ q x. listed_text (same_place p q && is_standing x) (has_text x names || met q x) (k.names q x) (t.texts q x); outside = t.outside }

list_back : (met : Place → List ℕ → Bool) (k : Seen) (p : Place) (a : Answer) (t : Contents) → Back met k (step.List p) a t
list_back met k p (Names names) t = record {
  now = listed met k t p names;
  tells = λ c g live. (
    place_told k c (listed met k t p names) p true (record { names = g.names; places = λ q e. g.places q e ∙ twice (same_place p q) (t.there q); files = g.files }),
    λ x standing. listed_told (has_text x names || met p x) (k.names p x) (c.texts p x) (t.texts p x) (rw (place_is p, standing) at (g.names p x)),
  );
  agrees = λ c g. record {
    names = λ q x. listed_later (same_place p q && is_standing x) (has_text x names || met q x) (k.names q x) (c.texts q x) (t.texts q x) (g.names q x);
    places = λ q e. (let s : (same_place p q ≡ false) × (k.places q ≡ false) = or_false (same_place p q) (k.places q) e in rw s.0 at (g.places q s.1));
    files = g.files;
  };
}
  where
    twice : (v u : Bool) → (if v then true else u) ≡ (if v then true else (if v then true else u))
    twice true u = refl
    twice false u = refl
list_back met k p Gone t = record { now = placed t p false; tells = λ c g live. place_told k c t p false g; agrees = λ c g. placed_agrees k c t p false g }
list_back met k p Done t = same_back met k (step.List p) Done t refl (λ c. refl) (λ c. tt)
list_back met k p (Content b) t = same_back met k (step.List p) (Content b) t refl (λ c. refl) (λ c. tt)
list_back met k p (Piece b l) t = same_back met k (step.List p) (Piece b l) t refl (λ c. refl) (λ c. tt)
list_back met k p (Long l) t = same_back met k (step.List p) (Long l) t refl (λ c. refl) (λ c. tt)
list_back met k p Exists t = same_back met k (step.List p) Exists t refl (λ c. refl) (λ c. tt)
list_back met k p Busy t = same_back met k (step.List p) Busy t refl (λ c. refl) (λ c. tt)
list_back met k p Grown t = same_back met k (step.List p) Grown t refl (λ c. refl) (λ c. tt)
list_back met k p Failed t = same_back met k (step.List p) Failed t refl (λ c. refl) (λ c. tt)

-- reads
pub there_by : (c : Option (List ℕ)) (limit : ℕ) (a : Answer) → a ≡ read_file_answer limit c → IsThere c limit a
there_by c limit Gone e = tt
there_by c limit Done e = e
there_by c limit (Names names) e = e
there_by c limit (Content b) e = e
there_by c limit (Piece b l) e = e
there_by c limit (Long l) e = e
there_by c limit Exists e = e
there_by c limit Busy e = e
there_by c limit Grown e = e
there_by c limit Failed e = e

read_told : (s : Sight) (c o : Option (List ℕ)) (limit : ℕ) (a : Answer) → a ≡ read_file_answer limit o → TextAgrees s c o → ReadTells s c limit a
read_told Unseen c o limit a e g = e ∙ ap (read_file_answer limit) (sym g)
read_told Listed c None limit a e g = rw e tt
read_told Listed c (Some b) limit a e g = there_by c limit a (e ∙ ap (read_file_answer limit) (sym g))
read_told Known c o limit a e g = tt

set_later : (v : Bool) (s : Sight) (c o u : Option (List ℕ)) → TextAgrees s c (if v then o else u) → TextAgrees (if v then Known else s) c u
set_later true s c o u g = tt
set_later false s c o u g = g

abbrev pub IsReadSound : ℕ → Answer → Type 0
IsReadSound limit a = (o : Option (List ℕ)) × (a ≢ Failed → a ≡ read_file_answer limit o)

read_back : (met : Place → List ℕ → Bool) (k : Seen) (p : Place) (n : List ℕ) (limit : ℕ) (a : Answer) (t : Contents) → IsReadSound limit a → Back met k (step.Read p n limit) a t
read_back met k p n limit a t s = record {
  now = with_text t p n s.0;
  tells = λ c g live. read_told (k.names p n) (c.texts p n) s.0 limit a (s.1 live) (rw (at_self p n) at (g.names p n));
  agrees = λ c g. record { names = λ q x. set_later (is_at p n q x) (k.names q x) (c.texts q x) s.0 (t.texts q x) (g.names q x); places = g.places; files = g.files };
}

-- changes
pub where_both : {A B : Type 0} (P : A → B → Type 0) (a : Answer) (x z : A) (y w : B) → P x y → P z w → P (where_done a x z) (where_done a y w)
where_both P Done x z y w f g = f
where_both P (Names names) x z y w f g = g
where_both P (Content b) x z y w f g = g
where_both P (Piece b l) x z y w f g = g
where_both P (Long l) x z y w f g = g
where_both P Gone x z y w f g = g
where_both P Exists x z y w f g = g
where_both P Busy x z y w f g = g
where_both P Grown x z y w f g = g
where_both P Failed x z y w f g = g

written : (v : Bool) (s : Sight) (c o u : Option (List ℕ)) → TextAgrees s c u → TextAgrees (if v then Known else s) (if v then o else c) u
written true s c o u g = tt
written false s c o u g = g

write_agrees : (k : Seen) (c t : Contents) (p : Place) (n : List ℕ) (o : Option (List ℕ)) → AgreesOn k c t → AgreesOn (with_sight k p n Known) (with_text c p n o) t
write_agrees k c t p n o g = record { names = λ q x. written (is_at p n q x) (k.names q x) (c.texts q x) o (t.texts q x) (g.names q x); places = g.places; files = g.files }

-- a name that is moved, or that another is linked to
abbrev moved_text : Contents → Place → List ℕ → List ℕ → Contents
moved_text t p a b = record { there = t.there; texts = λ q x. if is_at p b q x then None else (if is_at p a q x then t.texts p b else t.texts q x); outside = t.outside }

moved_names : (k : Seen) (c t : Contents) (p : Place) (a b : List ℕ) (d : Place → List ℕ → Option (List ℕ)) → AgreesOn k c (moved_text t p a b) → d p b ≡ c.texts p a
    → ((q : Place) (x : List ℕ) → is_at p a q x ≡ false → is_at p b q x ≡ false → d q x ≡ c.texts q x) → (q : Place) (x : List ℕ) → TextAgrees ((sight_moved k p a b).names q x) (d q x) (t.texts q x)
moved_names k c t p a b d g to_b others = at_name p a (λ q x. TextAgrees ((sight_moved k p a b).names q x) (d q x) (t.texts q x)) (rw (at_self p a) tt) (λ q x e. rw e (second q x e))
  where
    at_b : is_at p a p b ≡ false → TextAgrees (k.names p a) (c.texts p a) (t.texts p b)
    at_b e = rw (at_turned p a b e, at_self p a) at (g.names p a)

    second : (q : Place) (x : List ℕ) → is_at p a q x ≡ false → TextAgrees (if is_at p b q x then k.names p a else k.names q x) (d q x) (t.texts q x)
    second = at_name p b (λ q x. is_at p a q x ≡ false → TextAgrees (if is_at p b q x then k.names p a else k.names q x) (d q x) (t.texts q x)) (λ e. rw (at_self p b, to_b) (at_b e)) (λ q x f e. rw (f, others q x e f) (rw (f, e) at (g.names q x)))

abbrev noticed_text : Sight → Option (List ℕ) → Option (List ℕ)
noticed_text Unseen u = Some (filled u)
noticed_text Listed u = u
noticed_text Known u = u

noticed_later : (s : Sight) (c u : Option (List ℕ)) → TextAgrees s c (noticed_text s u) → TextAgrees (noticed s) c u
noticed_later Unseen c u g = g
noticed_later Listed c u g = g
noticed_later Known c u g = tt

noticed_told : (s : Sight) (c u : Option (List ℕ)) → TextAgrees s c (noticed_text s u) → ListingTells s c true
noticed_told Unseen c u g = ap is_some g
noticed_told Listed c u g = tt
noticed_told Known c u g = tt

free_told : (s : Sight) (c : Option (List ℕ)) → TextAgrees s c None → ListingTells s c false
free_told Unseen c g = ap is_some g
free_told Listed c g = tt
free_told Known c g = tt

link_back : (met : Place → List ℕ → Bool) (k : Seen) (p : Place) (a b : List ℕ) (x : Answer) (t : Contents) → Back met k (step.Link p a b) x t
link_back met k p a b Done t = record {
  now = moved_text t p a b;
  tells = λ c g live. free_told (k.names p b) (c.texts p b) (rw (at_self p b) at (g.names p b));
  agrees = λ c g. record {
    names = moved_names k c t p a b (λ q x. if is_at p b q x then c.texts p a else c.texts q x) g (rw (at_self p b) refl) (λ q x e f. rw f refl);
    places = g.places;
    files = g.files;
  };
}
link_back met k p a b Exists t = record {
  now = with_text t p b (noticed_text (k.names p b) (t.texts p b));
  tells = λ c g live. noticed_told (k.names p b) (c.texts p b) (t.texts p b) (rw (at_self p b) at (g.names p b));
  agrees = λ c g. record {
    names = at_name p b (λ q x. TextAgrees (if is_at p b q x then noticed (k.names p b) else k.names q x) (c.texts q x) (t.texts q x))
        (rw (at_self p b) (noticed_later (k.names p b) (c.texts p b) (t.texts p b) (rw (at_self p b) at (g.names p b)))) (λ q x f. rw f (rw f at (g.names q x)));
    places = g.places;
    files = g.files;
  };
}
link_back met k p a b (Names names) t = same_back met k (step.Link p a b) (Names names) t refl (λ c. refl) (λ c. tt)
link_back met k p a b (Content z) t = same_back met k (step.Link p a b) (Content z) t refl (λ c. refl) (λ c. tt)
link_back met k p a b (Piece z l) t = same_back met k (step.Link p a b) (Piece z l) t refl (λ c. refl) (λ c. tt)
link_back met k p a b (Long l) t = same_back met k (step.Link p a b) (Long l) t refl (λ c. refl) (λ c. tt)
link_back met k p a b Gone t = same_back met k (step.Link p a b) Gone t refl (λ c. refl) (λ c. tt)
link_back met k p a b Busy t = same_back met k (step.Link p a b) Busy t refl (λ c. refl) (λ c. tt)
link_back met k p a b Grown t = same_back met k (step.Link p a b) Grown t refl (λ c. refl) (λ c. tt)
link_back met k p a b Failed t = same_back met k (step.Link p a b) Failed t refl (λ c. refl) (λ c. tt)

rename_back : (met : Place → List ℕ → Bool) (k : Seen) (p : Place) (a b : List ℕ) (x : Answer) (t : Contents) → Back met k (step.Rename p a b) x t
rename_back met k p a b x t = go (bytes_eq a b) refl
  where
    moves : bytes_eq a b ≡ false → (c : Contents) → AgreesOn k c (moved_text t p a b) → AgreesOn (sight_moved k p a b) (with_text (with_text c p a None) p b (c.texts p a)) t
    moves e c g = record {
      names = moved_names k c t p a b (with_text (with_text c p a None) p b (c.texts p a)).texts g (rw (at_self p b) refl) (λ q y f h. rw (h, f) refl);
      places = g.places;
      files = g.files;
    }

    go : (v : Bool) → bytes_eq a b ≡ v → Back met k (step.Rename p a b) x t
    go true e = record {
      now = t;
      tells = λ c g live. tt;
      agrees = λ c g. rw e (where_both (λ j d. AgreesOn j d t) x k k c c g g);
    }
    go false e = by_answer x
      where
        by_answer : (y : Answer) → Back met k (step.Rename p a b) y t
        by_answer Done = record { now = moved_text t p a b; tells = λ c g live. tt; agrees = λ c g. rw e (moves e c g) }
        by_answer (Names names) = same_back met k (step.Rename p a b) (Names names) t refl (λ c. refl) (λ c. tt)
        by_answer (Content z) = same_back met k (step.Rename p a b) (Content z) t refl (λ c. refl) (λ c. tt)
        by_answer (Piece z l) = same_back met k (step.Rename p a b) (Piece z l) t refl (λ c. refl) (λ c. tt)
        by_answer (Long l) = same_back met k (step.Rename p a b) (Long l) t refl (λ c. refl) (λ c. tt)
        by_answer Gone = same_back met k (step.Rename p a b) Gone t refl (λ c. refl) (λ c. tt)
        by_answer Exists = same_back met k (step.Rename p a b) Exists t refl (λ c. refl) (λ c. tt)
        by_answer Busy = same_back met k (step.Rename p a b) Busy t refl (λ c. refl) (λ c. tt)
        by_answer Grown = same_back met k (step.Rename p a b) Grown t refl (λ c. refl) (λ c. tt)
        by_answer Failed = same_back met k (step.Rename p a b) Failed t refl (λ c. refl) (λ c. tt)

-- an answer that the step has in some world
abbrev pub IsSound : Step → Answer → Type 0
IsSound (step.Read p n limit) a = IsReadSound limit a
IsSound (step.ReadFile path limit) a = IsReadSound limit a
IsSound (step.ReadDrop path from most) a = IsDropSound from most a
IsSound s a = Unit {0}

made_places : (v w u : Bool) → (v || w) || u ≡ false → (v ≡ false) × (w ≡ false) × (u ≡ false)
made_places v w u e = let a = or_false (v || w) u e in let b = or_false v w a.0 in (b.0, b.1, a.1)

spent_after : (v : Bool) (s : Spied) (x o u : Option (List ℕ)) → FileAgrees s x (if v then o else u) → FileAgrees (if v then Spent else s) x u
spent_after true s x o u g = tt
spent_after false s x o u g = g

spent_cut : (v : Bool) (s : Spied) (y x u : Option (List ℕ)) → FileAgrees s x u → FileAgrees (if v then Spent else s) (if v then y else x) u
spent_cut true s y x u g = tt
spent_cut false s y x u g = g

back : (met : Place → List ℕ → Bool) (k : Seen) (s : Step) (a : Answer) (t : Contents) → IsSound s a → Back met k s a t
back met k (step.List p) a t s = list_back met k p a t
back met k (step.Read p n limit) a t s = read_back met k p n limit a t s
back met k (step.MakeFolder p) a t s = record {
  now = placed t p (is_exists a);
  tells = λ c g live. place_told k c t p (is_exists a) g;
  agrees = λ c g. record {
    names = g.names;
    places = λ q e. (let z = made_places (same_place p q) (is_parent q p) (k.places q) e in rw (z.0, z.1) (rw z.0 at (g.places q z.2)));
    files = g.files;
  };
}
back met k (step.Create p n b) a t s = record {
  now = t;
  tells = λ c g live. tt;
  agrees = λ c g. where_both (λ j d. AgreesOn j d t) a (with_sight k p n Known) k (with_text c p n (Some b)) c (write_agrees k c t p n (Some b) g) g;
}
back met k (step.SyncFile p n) a t s = same_back met k (step.SyncFile p n) a t refl (λ c. refl) (λ c. tt)
back met k (step.SyncFolder p) a t s = same_back met k (step.SyncFolder p) a t refl (λ c. refl) (λ c. tt)
back met k (step.Link p x y) a t s = link_back met k p x y a t
back met k (step.Rename p x y) a t s = rename_back met k p x y a t
back met k (step.Unlink p n) a t s = record {
  now = t;
  tells = λ c g live. tt;
  agrees = λ c g. where_both (λ j d. AgreesOn j d t) a (with_sight k p n Known) k (with_text c p n None) c (write_agrees k c t p n None g) g;
}
back met k (step.Lock p) a t s = record {
  now = placed t p (if is_gone a then false else true);
  tells = λ c g live. place_told k c t p (if is_gone a then false else true) g;
  agrees = λ c g. placed_agrees k c t p (if is_gone a then false else true) g;
}
back met k (step.Unlock p) a t s = same_back met k (step.Unlock p) a t refl (λ c. refl) (λ c. tt)
back met k (step.ReadFile path limit) a t s = record {
  now = record { there = t.there; texts = t.texts; outside = λ f. if same_path path f then s.0 else t.outside f };
  tells = λ c g live. file_told (k.files path) (c.outside path) s.0 limit a (rw (path_self path) at (g.files path)) (s.1 live);
  agrees = λ c g. record { names = g.names; places = g.places; files = λ f. spent_after (same_path path f) (k.files f) (c.outside f) s.0 (t.outside f) (g.files f) };
}
back met k (step.ReadDrop path from most) a t s =
    let d = drop_back (k.files path) from most a (t.outside path) s in
    record {
      now = record { there = t.there; texts = t.texts; outside = λ f. if same_path path f then d.now else t.outside f };
      tells = λ c g live. d.tells (c.outside path) (rw (path_self path) at (g.files path));
      agrees = λ c g. record {
        names = g.names;
        places = g.places;
        files = at_path path (λ f. FileAgrees (if same_path path f then spied_by (k.files f) from a else k.files f) (c.outside f) (t.outside f))
            (rw (path_self path) (d.agrees (c.outside path) (rw (path_self path) at (g.files path)))) (λ f e. rw e (rw e at (g.files f)));
      };
    }
back met k (step.CutDrop path n) a t s = record {
  now = t;
  tells = λ c g live. tt;
  agrees = λ c g. record { names = g.names; places = g.places; files = λ f. spent_cut (same_path path f) (k.files f) (cut_at n (c.outside f)) (c.outside f) (t.outside f) (g.files f) };
}

abbrev pub AreSound : List Deed → Type 0
AreSound [] = Unit {0}
AreSound (Did s a ∷ ds) = IsSound s a × AreSound ds
AreSound (Said piece ∷ ds) = AreSound ds
AreSound (Heard piece ∷ ds) = AreSound ds

-- the numbers of the puts among deeds
abbrev pub puts_in : List Deed → List ℕ
puts_in [] = []
puts_in (Did s a ∷ ds) = with_number (number_put s a) (puts_in ds)
puts_in (Said piece ∷ ds) = puts_in ds
puts_in (Heard piece ∷ ds) = puts_in ds

pub next_is : (o : Option ℕ) (ns : List ℕ) → IsNextOf o (with_number o ns)
next_is None ns = tt
next_is (Some n) ns = refl

pub left_is : (o : Option ℕ) (ns : List ℕ) → left_of o (with_number o ns) ≡ ns
left_is None ns = refl
left_is (Some n) ns = refl

-- contents with which all answers agree, and where the call's own steps bring them
record Met (met : Place → List ℕ → Bool) (k : Seen) (ds : List Deed) : Type 0 where
  now : Contents
  fit : (c : Contents) → AgreesOn k c now → (z : View) × FitAll (by_view false) (record { contents = c; seen = k; numbers = puts_in ds; met = met }) ds z

meet : (met : Place → List ℕ → Bool) (k : Seen) (ds : List Deed) → AreSound ds → Met met k ds
meet met k [] s = record { now = record { there = λ p. false; texts = λ p x. None; outside = λ f. None }; fit = λ c g. (record { contents = c; seen = k; numbers = []; met = met }, refl) }
meet met k (Did step a ∷ ds) s =
    let rest = meet met (seen_by met k step a) ds s.1 in
    let b = back met k step a rest.now s.0 in
    record {
      now = b.now;
      fit = λ c g. (let f = rest.fit (changed_by c step a) (b.agrees c g) in (
        f.0,
        (
          (λ live. (b.tells c g live, next_is (number_put step a) (puts_in ds))),
          subst (λ ns. FitAll (by_view false) (record { contents = changed_by c step a; seen = seen_by met k step a; numbers = ns; met = met }) ds f.0) (sym (left_is (number_put step a) (puts_in ds))) f.1,
        ),
      ));
    }
meet met k (Said piece ∷ ds) s = let rest = meet met k ds s in record { now = rest.now; fit = rest.fit }
meet met k (Heard piece ∷ ds) s = let rest = meet met k ds s in record { now = rest.now; fit = rest.fit }

-- some contents agree with whatever was answered
pub some_contents : (met : Place → List ℕ → Bool) (ds : List Deed) → AreSound ds → (c : Contents) × (z : View) × FitAll (by_view false) (first_view c (puts_in ds) met) ds z
some_contents met ds s =
    let m = meet met nothing_seen ds s in
    let f = m.fit m.now (record { names = λ p x. refl; places = λ p e. refl; files = λ f. refl }) in
    (m.now, f.0, f.1)

-- what a world answers is sound
pub world_sound : (w : WorldMap) (run : ℕ) (s : Step) (a : Answer) → Fits w run s a → IsSound s a
world_sound w run (step.List p) a f = tt
world_sound w run (step.Read p n limit) a f = (text_in w (w.directories p) n, λ live. f ∙ map_read w limit (now_in (w.directories p) n))
world_sound w run (step.MakeFolder p) a f = tt
world_sound w run (step.Create p n b) a f = tt
world_sound w run (step.SyncFile p n) a f = tt
world_sound w run (step.SyncFolder p) a f = tt
world_sound w run (step.Link p x y) a f = tt
world_sound w run (step.Rename p x y) a f = tt
world_sound w run (step.Unlink p n) a f = tt
world_sound w run (step.Lock p) a f = tt
world_sound w run (step.Unlock p) a f = tt
world_sound w run (step.ReadFile path limit) a f = (w.outside path, λ live. f)
world_sound w run (step.ReadDrop path from most) a f = (w.outside path, λ live. f)
world_sound w run (step.CutDrop path n) a f = tt

pub failed_sound : (s : Step) → IsSound s Failed
failed_sound (step.List p) = tt
failed_sound (step.Read p n limit) = (None, λ live. absurd (live refl))
failed_sound (step.MakeFolder p) = tt
failed_sound (step.Create p n b) = tt
failed_sound (step.SyncFile p n) = tt
failed_sound (step.SyncFolder p) = tt
failed_sound (step.Link p x y) = tt
failed_sound (step.Rename p x y) = tt
failed_sound (step.Unlink p n) = tt
failed_sound (step.Lock p) = tt
failed_sound (step.Unlock p) = tt
failed_sound (step.ReadFile path limit) = (None, λ live. absurd (live refl))
failed_sound (step.ReadDrop path from most) = (None, λ live. absurd (live refl))
failed_sound (step.CutDrop path n) = tt
