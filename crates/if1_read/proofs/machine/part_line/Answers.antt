use Rattle.if1_read.specs.Pages.{sheet_faults}
use Rattle.if1_read.specs.Rulings.{rules_of}
use Rattle.if1_read.specs.Sheets.{sheet_of}
use Rattle.if1_read.proofs.Turning.{graph_then}
use Rattle.if1_read.proofs.machine.part_line.Goals as goal

pub returns-clause-found : goal.returns-clause-found
returns-clause-found c = λ sound.
    graph_then c.args.machine.first c.in_ok-graphs.first c.after.result (sheet_faults (rules_of c.args.known.now) (sheet_of c.args.machine.level)) c.args.line c.args.wrong
    (c.in_ok-graphs.ensures.found sound) c.after.ensures.found
