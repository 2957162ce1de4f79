-- Names of drafts are names of directory entries, and so are those of their originals.
use Rattle.std.proofs.Common.{◌≡◌, ℕ, ◌≤◌, ◌&&◌, true, List, length, ◌∙◌, ap, arith}
use Rattle.std.specs.Prelude.{nat_le, codes}
use Rattle.std.specs.List.{list_all}
use Rattle.std.proofs.lemmas.Bool.{and_parts, leb-true}
use Rattle.std.proofs.lemmas.List.{length-append}
use Rattle.std.proofs.lemmas.List.Folds.{list_all-append}
use Rattle.mh_base.specs.Entries.{kind_of}
use Rattle.mh_base.specs.Names.{IsName, is_name_byte}
use Rattle.folder_files.specs.Named.{is_other, original_of}
use Rattle.draft_files.specs.DraftNames.{has_draft_length, is_draft_name}

pub record Parts (name : List ℕ) : Type 0 where
  pub some : 1 ≤ length name
  pub short : length name ≤ 249
  pub clean : list_all is_name_byte name ≡ true
  pub other : is_other (kind_of name) ≡ true

-- what the name of a draft is
pub parts_of : (name : List ℕ) → is_draft_name name ≡ true → Parts name
unfolding is_draft_name
parts_of name e =
    let both = and_parts (has_draft_length name) (list_all is_name_byte name && is_other (kind_of name)) e in
    let size = and_parts (nat_le 1 (length name)) (nat_le (length name) 249) both.0 in
    let rest = and_parts (list_all is_name_byte name) (is_other (kind_of name)) both.1 in
    record { some = leb-true 1 (length name) size.0; short = leb-true (length name) 249 size.1; clean = rest.0; other = rest.1 }

-- it is a directory entry's
pub named : (name : List ℕ) → is_draft_name name ≡ true → IsName name
named name e = let p = parts_of name e in let s = p.short in record { some = p.some; short = omega (arith, s); clean = p.clean }

-- and so is that of its original
pub original_named : (name : List ℕ) → is_draft_name name ≡ true → IsName (original_of name)
original_named name e =
    let p = parts_of name e in
    let s = p.short in
    let size = length-append name (codes ".orig") in
    record { some = omega (arith, size); short = omega (arith, size, s); clean = list_all-append is_name_byte name (codes ".orig") ∙ ap (λ b. b && true) p.clean }
