use Rattle.std.proofs.Common.{◌≡◌, length, ap, arith}
use Rattle.std.proofs.lemmas.Bool.Decides.{nat_tests}
use Rattle.std.proofs.lemmas.List.{nil_from_length}
use Rattle.mail_dates.proofs.Parting.{none_cut, word_parted}
use Rattle.mail_dates.proofs.blanks.next_word.Goals as goal
use Rattle.mh_base.specs.Characters.{is_blank}

pub returns-then-is_empty : goal.returns-then-is_empty
returns-then-is_empty c =
    let test = c.if-is_empty.ensures in
    let none : length c.split_at.result.1.now ≡ 0 = grind (arith, nat_tests, test) in
    none_cut is_blank c.args.text.now c.split_at.result.1.now _ c.blank_len.ensures.value c.split_at.ensures.back (nil_from_length c.split_at.result.1.now none)

pub returns : goal.returns
returns c =
    let test = c.if-is_empty.ensures in
    let some : length c.split_at.result.1.now ≡ 0 → ⊥ = grind (arith, nat_tests, test) in
    word_parted is_blank c.args.text.now c.split_at.result.1.now c.split_at-2.result.0.now c.split_at-2.result.1.now _ _ c.blank_len.ensures.value c.split_at.ensures.back (λ e. some (ap length e)) c.word_len.ensures.value c.split_at-2.ensures.front c.split_at-2.ensures.back
