use Rattle.mhbuild_compose.proofs.Keying.{digits_more}
use Rattle.mhbuild_compose.proofs.keys.Keys.insert.Goals as goal

pub returns : goal.returns
returns c = λ d. digits_more d c.args.digits.now c.args.self.now.digits.keys c.insert.new.self.keys c.in_ok-to_vec.field-0 c.in_ok-insert.ensures.keys (c.in_ok-to_vec.ensures.items_if_clones_equal (λ x y e. e))
