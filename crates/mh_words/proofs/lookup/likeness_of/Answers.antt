use Rattle.mh_words.proofs.Texts.{begins_by_bytes, goes_on}
use Rattle.mh_words.proofs.lookup.likeness_of.Goals as goal

pub returns-in-None : goal.returns-in-None
returns-in-None c = begins_by_bytes c.args.name.now c.args.text.now c.utf8.name c.utf8.text c.in-None.ensures.cases

pub returns-else-is_empty : goal.returns-else-is_empty
returns-else-is_empty c =
    let found = c.in-Some.ensures.cases in
    goes_on c.args.name.now c.args.text.now c.in-Some.rest.now found.0 c.is_empty.result c.utf8.name c.utf8.text found.1.1 found.2 c.is_empty.ensures c.if-is_empty.false
