use Rattle.port_feeds.proofs.Feeding.{lenders-feed}
use Rattle.port_feeds.proofs.laws.lenders_feed_operands.Goals as goal

pub returns : goal.returns
returns c = lenders-feed
