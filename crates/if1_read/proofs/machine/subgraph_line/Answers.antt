use Rattle.std.proofs.Common.{rules}
use Rattle.if1_read.proofs.Beginning.{subgraph_begins}
use Rattle.if1_read.proofs.Beginnings.{part_said}
use Rattle.if1_read.proofs.machine.subgraph_line.Goals as goal

pub returns-clause-begins : goal.returns-clause-begins
returns-clause-begins c =
    subgraph_begins c.args.known.now c.args.machine c.new_part.result c.part_line.result c.args.name (search rules) c.new_part.ensures.fresh c.part_line.ensures.begins

pub returns-clause-turns : goal.returns-clause-turns
returns-clause-turns c =
    part_said c.args.known.now c.args.machine c.args.line c.new_part.result c.part_line.result c.args.name (search rules) c.new_part.ensures.page c.part_line.ensures.sheets
    c.part_line.ensures.found
