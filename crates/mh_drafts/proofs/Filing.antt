-- Files as parts.
use Rattle.std.proofs.Common.{◌≡◌, ℕ, true, false, List, refl}
use Rattle.mh_drafts.specs.declared.directive.Directive.TheVariants.{Part, Wrong}
use Rattle.mh_drafts.specs.declared.item.Leaf.TheVariants.{File as file_leaf}
use Rattle.mh_drafts.specs.declared.label.Label.{Label}
use Rattle.mh_drafts.specs.declared.want.Want.TheVariants.{File as file_want}
use Rattle.mh_drafts.specs.PartLines.{is_no_file, labelled}

pub no_file : (label : Label) (file : List ℕ) → is_no_file label file ≡ true → Wrong ≡ labelled label file
unfolding labelled
no_file label file e = rw e refl

pub some_file : (label : Label) (file : List ℕ) → is_no_file label file ≡ false → Part (file_leaf label) (file_want (record { home = false; text = file })) ≡ labelled label file
unfolding labelled
some_file label file e = rw e refl
