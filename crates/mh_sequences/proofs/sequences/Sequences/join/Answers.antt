use Rattle.std.proofs.Common.{◌≡◌, map, sym, ◌∙◌, ap, subst, ℕ}
use Rattle.mh_sequences.specs.Runs.{has}
use Rattle.mh_sequences.specs.Joins.{joins}
use Rattle.mh_sequences.specs.Changes.{IsJoined}
use Rattle.mh_sequences.specs.Sequences.{told_entry, member, marked_of, public_of}
use Rattle.mh_sequences.specs.Marks.{set_to}
use Rattle.mh_sequences.specs.Placing.{placed}
use Rattle.mh_sequences.proofs.Bools.{ok_then}
use Rattle.mh_sequences.proofs.Joined.{is_joined}
use Rattle.mh_sequences.proofs.sequences.Sequences.join.Goals as goal

pub returns-clause-ok : goal.returns-clause-ok
returns-clause-ok c =
    let set : (n : ℕ) → has c.in_ok-numbers.numbers.runs n ≡ joins c.args.how (member (map told_entry c.self.inside.users.entries) c.args.name.now n) (has c.args.numbers.now.runs n) =
    λ n. c.in_ok-numbers.ensures n ∙ ap (λ v. joins c.args.how (member v.users c.args.name.now n) (has c.args.numbers.now.runs n)) (sym c.self.view_is) in
    let state = c.state-public.ensures ∙ ap (λ v. set_to c.args.public (public_of v.users c.args.name.now)) (sym c.self.view_is) in
    ok_then _ _ c.put.result
    (λ e. subst (λ old. IsJoined c.args.name.now c.args.numbers.now.runs c.args.how c.args.public old (marked_of (map told_entry c.put.new.users.entries) c.self.inside.cur)) c.self.view_is
    (is_joined c.args.name.now c.args.numbers.now.runs c.args.how c.args.public c.state-public.result c.in_ok-numbers.numbers.runs (map told_entry c.self.inside.users.entries) (map told_entry c.put.new.users.entries) c.self.inside.cur c.self.invariant set state
    (e ∙ ap (λ n. placed n c.state-public.result c.in_ok-numbers.numbers.runs (map told_entry c.self.inside.users.entries)) c.in_ok-name.ensures.value)))
    c.put.ensures.ok
