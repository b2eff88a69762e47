use Rattle.std.proofs.Common.{refl}
use Rattle.if1_read.specs.Sheets.{marks_of}
use Rattle.if1_read.proofs.Turning.{node_turns}
use Rattle.if1_read.proofs.machine.node_line.Goals as goal

pub returns-clause-adds : goal.returns-clause-adds
returns-clause-adds c = λ clean. record {
  around = record { imports = refl; outer = refl };
  gains = c.in_ok-level.ensures.gains (c.after.ensures.none clean);
}

pub returns-clause-turns : goal.returns-clause-turns
returns-clause-turns c = λ k before name.
    node_turns k c.args.machine _ c.args.line (marks_of c.args.node).0 (marks_of c.args.node).1 before name c.in_ok-level.wrong refl c.in_ok-level.ensures.sheet
    c.in_ok-level.ensures.wrong c.after.ensures.found
