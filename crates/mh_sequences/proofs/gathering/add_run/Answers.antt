use Rattle.std.proofs.Common.{map, refl}
use Rattle.mh_sequences.specs.Placing.{IsAt, IsBefore}
use Rattle.mh_sequences.specs.Sequences.{told}
use Rattle.mh_sequences.proofs.Gathered.{added_there, added_new}
use Rattle.mh_sequences.proofs.gathering.add_run.Goals as goal

pub returns-in_ok-insert_run-in-At : goal.returns-in_ok-insert_run-in-At
returns-in_ok-insert_run-in-At c =
    let at : IsAt c.args.name.now (map told c.args.users.now.items) c.in-At.at = rw (← c.deref.ensures.value) c.in-At.ensures in
    record { added = added_there c.args.users.now.items c.in-At.at c.args.name.now c.args.run c.index_mut-user.result.now (record { name = c.index_mut-user.result.now.name; numbers = c.insert_run.new.self; public = c.args.public }) at c.index_mut-user.ensures.value refl c.requires.run c.insert_run.ensures.valid c.in_ok-insert_run-in-At.ensures.ok }

pub returns-in_ok-insert-in-Before : goal.returns-in_ok-insert-in-Before
returns-in_ok-insert-in-Before c =
    let at : IsBefore c.args.name.now (map told c.args.users.now.items) c.in-Before.at = rw (← c.deref.ensures.value) c.in-Before.ensures in
    record { added = rw c.in_ok-insert-in-Before.ensures.items (rw (← c.in_ok-user-in-Before.ensures.public) (added_new c.args.users.now.items c.in-Before.at c.args.name.now c.args.run c.in_ok-user-in-Before.user at c.in_ok-user-in-Before.ensures.name c.requires.run c.in_ok-user-in-Before.ensures.valid c.in_ok-user-in-Before.ensures.numbers)) }
