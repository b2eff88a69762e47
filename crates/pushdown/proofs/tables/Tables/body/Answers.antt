use Rattle.pushdown.specs.Rows.{rows_of}
use Rattle.pushdown.proofs.RowTests.{bounds}
use Rattle.pushdown.proofs.tables.Tables.body.Goals as goal

pub part-requires-clause-order : goal.part-requires-clause-order
part-requires-clause-order c = (bounds (rows_of c.args.self.now) c.args.production c.requires.bounds c.requires.within).order

pub part-requires-clause-within : goal.part-requires-clause-within
part-requires-clause-within c = (bounds (rows_of c.args.self.now) c.args.production c.requires.bounds c.requires.within).within
