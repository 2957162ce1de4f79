use Rattle.mhbuild_compose.proofs.Noding.{adds_file, adds_forward, adds_text}
use Rattle.mhbuild_compose.proofs.nodes.Nodes.add_leaf.Goals as goal

pub returns-in_ok-label-in-Text : goal.returns-in_ok-label-in-Text
returns-in_ok-label-in-Text c =
    adds_text c.push_file.result c.args.self.now.list.items c.push_file.new.list.items c.args.leaf.now _ _ c.as_slice.result.now c.args.self.now.givens.now c.in-Text.is c.as_slice.ensures c.in_ok-label-in-Text.ensures c.push_file.ensures

pub returns-in_ok-push_file-in-File : goal.returns-in_ok-push_file-in-File
returns-in_ok-push_file-in-File c =
    adds_file c.args.self.now.list.items c.push_file-in-File.new.list.items c.args.leaf.now _ c.file_given.result.now c.args.self.now.givens.now c.given_left-self.result.now c.in-File.is c.file_given.ensures c.given_left-self.ensures c.in_ok-push_file-in-File.ensures

pub returns-in_ok-push_forward-in-Messages : goal.returns-in_ok-push_forward-in-Messages
returns-in_ok-push_forward-in-Messages c =
    adds_forward c.args.self.now.list.items c.push_forward.new.list.items c.args.leaf.now c.messages_given.result.now c.args.self.now.givens.now c.given_left-self-in-Messages.result.now c.in-Messages.is c.messages_given.ensures c.given_left-self-in-Messages.ensures
    c.in_ok-push_forward-in-Messages.ensures
