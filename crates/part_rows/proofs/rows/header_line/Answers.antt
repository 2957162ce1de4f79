use Rattle.std.specs.Str.{chars}
use Rattle.part_rows.specs.Rows.{header}
use Rattle.part_rows.proofs.rows.header_line.Goals as goal

pub returns : goal.returns
unfolding header chars
returns c = rw (c.in_ok-from_str.ensures, c.in_ok-from_str-2.ensures, c.in_ok-from_str-3.ensures, c.in_ok-from_str-4.ensures, c.in_ok-from_str-5.ensures) at c.line.ensures
