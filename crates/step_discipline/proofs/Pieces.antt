-- The pieces of an outside file, deed by deed.
use Rattle.std.proofs.Common.{◌≡◌, ◌≢◌, ◌⊎◌, inl, inr, ◌++◌, ℕ, List, [], ◌∷◌, length, refl, sym, ◌∙◌, ap, subst, MatchOption, Option, Some, None}
use Rattle.folder_files.specs.Careful.{IsPiece, IsNoPiece, HasPieces, first, more, on}
use Rattle.folder_files.specs.Deeds.{Deed}
use Rattle.folder_files.specs.Giving.{GivesPieces}
use Rattle.step_discipline.specs.Seen.{seen, seen_all}
use Rattle.step_discipline.specs.declared.deed.DeedRef.{DeedRef}
use Rattle.folder_files.specs.declared.place.FilePath.{FilePath}
use Rattle.folder_files.specs.declared.step.Step.TheVariants as step
use Rattle.folder_files.specs.declared.step.Answer.TheVariants as answer

-- a deed is at most one piece
same_from : (f : FilePath) (a b n m : ℕ) (x y : List ℕ) (d : Deed) → IsPiece f a x n d → IsPiece f b y m d → a ≡ b
same_from f a b n m x y d p q = from (ap (λ e. e.step) (sym p.1 ∙ q.1))
  where
    from : step.ReadDrop f a p.0 ≡ step.ReadDrop f b q.0 → a ≡ b
    from e = cc (e)

same_bytes : (f : FilePath) (a b n m : ℕ) (x y : List ℕ) (d : Deed) → IsPiece f a x n d → IsPiece f b y m d → x ≡ y
same_bytes f a b n m x y d p q = from (ap (λ e. e.answer) (sym p.1 ∙ q.1))
  where
    from : answer.Piece x n ≡ answer.Piece y m → x ≡ y
    from e = cc (e)

apart : (f : FilePath) (a n : ℕ) (x : List ℕ) (d : Deed) → IsPiece f a x n d → IsNoPiece f d → ⊥
apart f a n x d p no_piece = no_piece a p.0 (ap (λ e. e.step) p.1)

-- what the newest deed has to do with the bytes
abbrev pub Firstly : FilePath → List ℕ → Deed → Type 0
Firstly f b d = (n : ℕ) × IsPiece f 0 b n d

abbrev pub Later : FilePath → List ℕ → Deed → List Deed → Type 0
Later f b d own = (before : List ℕ) × (piece : List ℕ) × (n : ℕ) × (length before ≢ 0) × IsPiece f (length before) piece n d × HasPieces f before own × (b ≡ before ++ piece)

abbrev pub Aside : FilePath → List ℕ → Deed → List Deed → Type 0
Aside f b d own = IsNoPiece f d × HasPieces f b own

cases : (f : FilePath) (b : List ℕ) (d : Deed) (own : List Deed) → HasPieces f b (d ∷ own) → Firstly f b d ⊎ (Later f b d own ⊎ Aside f b d own)
cases f b d own (first {length_ = n} p) = inl (n, p)
cases f b d own (more {bytes = x} {piece = y} {length_ = n} nz p h) = inr (inl (x, y, n, nz, p, h, refl))
cases f b d own (on n h) = inr (inr (n, h))

same_first : (f : FilePath) (a b : List ℕ) (n : ℕ) (d : Deed) (own : List Deed) → IsPiece f 0 a n d → Firstly f b d ⊎ (Later f b d own ⊎ Aside f b d own) → a ≡ b
same_first f a b n d own p (inl q) = same_bytes f 0 0 n q.0 a b d p q.1
same_first f a b n d own p (inr (inl l)) = absurd (l.3 (sym (same_from f 0 (length l.0) n l.2 a l.1 d p l.4)))
same_first f a b n d own p (inr (inr s)) = absurd (apart f 0 n a d p s.0)

same_later : (f : FilePath) (x y b : List ℕ) (n : ℕ) (d : Deed) (own : List Deed) → ((z : List ℕ) → HasPieces f z own → x ≡ z) → length x ≢ 0 → IsPiece f (length x) y n d
    → Firstly f b d ⊎ (Later f b d own ⊎ Aside f b d own) → x ++ y ≡ b
same_later f x y b n d own same nz p (inl q) = absurd (nz (same_from f (length x) 0 n q.0 y b d p q.1))
same_later f x y b n d own same nz p (inr (inl l)) = ap (λ z. z ++ y) (same l.0 l.5) ∙ ap (λ z. l.0 ++ z) (same_bytes f (length x) (length l.0) n l.2 y l.1 d p l.4) ∙ sym l.6
same_later f x y b n d own same nz p (inr (inr s)) = absurd (apart f (length x) n y d p s.0)

same_aside : (f : FilePath) (a b : List ℕ) (d : Deed) (own : List Deed) → ((z : List ℕ) → HasPieces f z own → a ≡ z) → IsNoPiece f d → Firstly f b d ⊎ (Later f b d own ⊎ Aside f b d own) → a ≡ b
same_aside f a b d own same n (inl q) = absurd (apart f 0 q.0 b d q.1 n)
same_aside f a b d own same n (inr (inl l)) = absurd (apart f (length l.0) l.2 l.1 d l.4 n)
same_aside f a b d own same n (inr (inr s)) = same b s.1

-- pieces give one text
pub only : (f : FilePath) (a b : List ℕ) (own : List Deed) → HasPieces f a own → HasPieces f b own → a ≡ b
only f a b [] h k = elim h [ ]
only f a b (d ∷ own) (first {length_ = n} p) k = same_first f a b n d own p (cases f b d own k)
only f a b (d ∷ own) (more {bytes = x} {piece = y} {length_ = n} nz p h) k = same_later f x y b n d own (λ z g. only f x z own h g) nz p (cases f b d own k)
only f a b (d ∷ own) (on no_piece h) k = same_aside f a b d own (λ z g. only f a z own h g) no_piece (cases f b d own k)

aside : (f : FilePath) (d : Deed) (own : List Deed) (r : Option (List ℕ)) → IsNoPiece f d → GivesPieces f own r → GivesPieces f (d ∷ own) r
aside f d own (Some b) n g = on n g
aside f d own None n g = λ b h. go b (cases f b d own h)
  where
    go : (b : List ℕ) → Firstly f b d ⊎ (Later f b d own ⊎ Aside f b d own) → ⊥
    go b (inl q) = apart f 0 q.0 b d q.1 n
    go b (inr (inl l)) = apart f (length l.0) l.2 l.1 d l.4 n
    go b (inr (inr s)) = g b s.1

odd : (f : FilePath) (d : Deed) (own : List Deed) → (IsNoPiece f d → ⊥) → ((from n : ℕ) (x : List ℕ) → IsPiece f from x n d → ⊥) → GivesPieces f (d ∷ own) None
odd f d own asked none_of b h = go (cases f b d own h)
  where
    go : Firstly f b d ⊎ (Later f b d own ⊎ Aside f b d own) → ⊥
    go (inl q) = none_of 0 q.0 b q.1
    go (inr (inl l)) = none_of (length l.0) l.2 l.1 l.4
    go (inr (inr s)) = asked s.0

joins : (f : FilePath) (d : Deed) (own : List Deed) (from n : ℕ) (x before : List ℕ) (r : Option (List ℕ)) → from ≢ 0 → IsPiece f from x n d → HasPieces f before own
    → MatchOption r (length before ≢ from) (λ b. (length before ≡ from) × (b ≡ before ++ x)) → GivesPieces f (d ∷ own) r
joins f d own from n x before None nz p h gap = λ b k. go b (cases f b d own k)
  where
    go : (b : List ℕ) → Firstly f b d ⊎ (Later f b d own ⊎ Aside f b d own) → ⊥
    go b (inl q) = nz (same_from f from 0 n q.0 x b d p q.1)
    go b (inr (inl l)) = gap (ap length (only f before l.0 own h l.5) ∙ sym (same_from f from (length l.0) n l.2 x l.1 d p l.4))
    go b (inr (inr s)) = apart f from n x d p s.0
joins f d own from n x before (Some b) nz p h j =
    subst (λ z. HasPieces f z (d ∷ own)) (sym j.1) (more (λ e. nz (sym j.0 ∙ e)) (subst (λ k. IsPiece f k x n d) (sym j.0) p) h)

none_before : (f : FilePath) (d : Deed) (own : List Deed) (from n : ℕ) (x : List ℕ) → from ≢ 0 → IsPiece f from x n d → GivesPieces f own None → GivesPieces f (d ∷ own) None
none_before f d own from n x nz p g b h = go (cases f b d own h)
  where
    go : Firstly f b d ⊎ (Later f b d own ⊎ Aside f b d own) → ⊥
    go (inl q) = nz (same_from f from 0 n q.0 x b d p q.1)
    go (inr (inl l)) = g l.0 l.5
    go (inr (inr s)) = apart f from n x d p s.0

-- the same of the code's deeds
pub pieces_aside : (f : FilePath) (own older : List DeedRef) (d : DeedRef) → own ≡ d ∷ older → IsNoPiece f (seen d) → (r : Option (List ℕ)) → GivesPieces f (seen_all older) r → GivesPieces f (seen_all own) r
pieces_aside f own older d e n r g = rw e (aside f (seen d) (seen_all older) r n g)

pub pieces_odd : (f : FilePath) (own older : List DeedRef) (d : DeedRef) → own ≡ d ∷ older → ((from : ℕ) × (most : ℕ) × ((seen d).step ≡ step.ReadDrop f from most))
    → ((from n : ℕ) (x : List ℕ) → IsPiece f from x n (seen d) → ⊥) → GivesPieces f (seen_all own) None
pieces_odd f own older d e asked p = rw e (odd f (seen d) (seen_all older) (λ n. n asked.0 asked.1 asked.2) p)

pub pieces_first : (f : FilePath) (own older : List DeedRef) (d : DeedRef) (from n : ℕ) (x : List ℕ) → own ≡ d ∷ older → from ≡ 0 → IsPiece f from x n (seen d) → HasPieces f x (seen_all own)
pieces_first f own older d from n x e z p = rw e (first (subst (λ k. IsPiece f k x n (seen d)) z p))

pub pieces_joined : (f : FilePath) (own older : List DeedRef) (d : DeedRef) (from n : ℕ) (x before : List ℕ) → own ≡ d ∷ older → from ≢ 0 → IsPiece f from x n (seen d) → HasPieces f before (seen_all older)
    → (r : Option (List ℕ)) → MatchOption r (length before ≢ from) (λ b. (length before ≡ from) × (b ≡ before ++ x)) → GivesPieces f (seen_all own) r
pieces_joined f own older d from n x before e nz p h r j = rw e (joins f (seen d) (seen_all older) from n x before r nz p h j)

pub pieces_gone : (f : FilePath) (own older : List DeedRef) (d : DeedRef) (from n : ℕ) (x : List ℕ) → own ≡ d ∷ older → from ≢ 0 → IsPiece f from x n (seen d) → GivesPieces f (seen_all older) None → GivesPieces f (seen_all own) None
pieces_gone f own older d from n x e nz p g = rw e (none_before f (seen d) (seen_all older) from n x nz p g)
