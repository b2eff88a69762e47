use Rattle.if1_reach.proofs.Searches.{start-from}
use Rattle.if1_reach.proofs.search.begun.Goals as goal

pub returns : goal.returns
returns c = start-from c.args.lists.now c.args.to c.new.result c.in_ok-unseen.field-0 c.new.ensures c.in_ok-unseen.ensures
