use Rattle.std.proofs.Common.{refl}
use Rattle.if1_read.proofs.Turning.{edge_turns}
use Rattle.if1_read.proofs.machine.edge_line.Goals as goal

pub returns-clause-adds : goal.returns-clause-adds
returns-clause-adds c = λ clean sound. record {
  around = record { imports = refl; outer = refl };
  gains = c.in_ok-level.ensures.gains (c.after.ensures.none clean) sound;
}

pub returns-clause-turns : goal.returns-clause-turns
returns-clause-turns c = λ sound.
    edge_turns c.args.known.now c.args.machine _ c.args.line c.args.edge c.in_ok-level.wrong refl c.in_ok-level.ensures.sheet (c.in_ok-level.ensures.wrong sound)
    c.after.ensures.found
