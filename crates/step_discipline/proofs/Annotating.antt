-- Annotation lines by their last byte.
use Rattle.std.proofs.Common.{◌≡◌, ◌++◌, ◌==◌, ◌&&◌, ℕ, List, [], ◌∷◌, refl, sym, ◌∙◌, ap}
use Rattle.std.proofs.Math.Seq.{take-append_seam, get_or-append_seam}
use Rattle.std.specs.List.{list_all, slice_split}
use Rattle.folder_files.specs.Annotations.{is_annotation, are_annotations}
use Rattle.folder_files.proofs.Noting.{last_place, some}

-- a text with a last byte is annotation lines where that byte is LF and all lines before it are such
pub last_line : (rest : List ℕ) (x : ℕ) → are_annotations (rest ++ x ∷ []) ≡ (x == 10 && list_all is_annotation (slice_split (λ b. b == 10) rest))
last_line rest x = rw (some rest x, last_place rest x, get_or-append_seam rest x [] 0, take-append_seam rest (x ∷ [])) refl

pub lines_feed : (text rest : List ℕ) (x : ℕ) → text ≡ rest ++ x ∷ [] → x ≡ 10 → list_all is_annotation (slice_split (λ b. b == 10) rest) ≡ are_annotations text
lines_feed text rest x e f = sym (ap are_annotations e ∙ last_line rest x ∙ ap (λ y. y == 10 && list_all is_annotation (slice_split (λ b. b == 10) rest)) f)
