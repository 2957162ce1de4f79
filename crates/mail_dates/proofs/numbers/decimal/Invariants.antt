use Rattle.std.proofs.Common.{◌≡◌, ◌<◌, ◌≤◌, Some, drop}
use Rattle.mail_dates.specs.Numbers.{decimal_behind}
use Rattle.mail_dates.proofs.numbers.decimal.Given as goal

abbrev pub invariant-loop-byte : goal.invariant-loop-byte
invariant-loop-byte l = record {
  none : l.byte-index ≤ 0 → l.number < 1;
  one : l.byte-index ≤ 1 → l.number < 10;
  two : l.byte-index ≤ 2 → l.number < 100;
  three : l.byte-index ≤ 3 → l.number < 1000;
  all : l.number < 10000;
  value : decimal_behind (Some l.number) (drop l.byte-index l.word) ≡ decimal_behind (Some 0) l.word;
}
