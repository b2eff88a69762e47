use Rattle.bench_pool.proofs.Lent.{may_return, all_same}
use Rattle.bench_pool.proofs.pooled.lend_and_read.Goals as goal

pub give_back-requires : goal.give_back-requires
give_back-requires c = let e = c.lend-lease.ensures in record { of = may_return c.args.pool.now c.lend-lease.new.self c.args.key.number c.lend-lease.result c.requires.holds e.lease e.one_more }

pub returns : goal.returns
returns c = let e = c.lend-lease.ensures in record { entries = all_same c.args.pool.now c.lend-lease.new.self c.args.key.number c.lend-lease.result c.requires.holds e.lease e.one_more c.give_back.new.self c.give_back.ensures.one_fewer }
