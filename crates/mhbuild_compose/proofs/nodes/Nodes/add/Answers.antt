use Rattle.mhbuild_compose.proofs.Noding.{adds_begin, adds_end}
use Rattle.mhbuild_compose.proofs.nodes.Nodes.add.Goals as goal

pub returns-in_ok-push-in-Begin : goal.returns-in_ok-push-in-Begin
returns-in_ok-push-in-Begin c = adds_begin _ c.args.item.now c.args.self.now.list.items c.push.new.self.items c.args.self.now.givens.now c.in-Begin.is c.in_ok-push-in-Begin.ensures.items

pub returns-in_ok-push-in-End : goal.returns-in_ok-push-in-End
returns-in_ok-push-in-End c = adds_end c.args.item.now c.args.self.now.list.items c.push-in-End.new.self.items c.args.self.now.givens.now c.in-End.is c.in_ok-push-in-End.ensures.items
