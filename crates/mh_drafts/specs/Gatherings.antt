-- What the code has gathered, before the lines that are left.
use Rattle.std.specs.Prelude.{List, ◌++◌, map}
use Rattle.mh_drafts.specs.declared.gathering.Gathering.{Gathering}
use Rattle.mh_drafts.specs.Items.{Whole, all_of, gathered, prepended, wants_of}
use Rattle.mh_drafts.specs.Marks.{Mark}
use Rattle.mh_drafts.specs.Signs.{sign_of}

unfoldable pub completed : Gathering → List Mark → Whole
completed g marks = record {
  items = g.items ++ all_of (prepended g.text g.said (gathered marks));
  wants = g.wants ++ wants_of marks;
  signs = g.signs ++ map sign_of marks;
}
