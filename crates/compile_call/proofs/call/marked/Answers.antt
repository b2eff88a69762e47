use Rattle.std.proofs.Common.{subst}
use Rattle.if1_graph.specs.Normal.{IsNormal}
use Rattle.if1_graph.specs.Ready.{IsReady}
use Rattle.if1_marks.specs.Sound.{IsSound}
use Rattle.compile_call.proofs.call.marked.Goals as goal

pub returns-clause-marked : goal.returns-clause-marked
returns-clause-marked c =
    let made = c.in_ok-marked.ensures in
    record {
      unit = c.in_ok-ready.ready;
      has = record {
        within = c.in_ok-ready.ensures.within;
        translated = c.in_ok-ready.ensures.unit;
        ready = subst IsReady made.unit made.ready;
        normal = subst IsNormal made.unit made.normal;
        sound = subst IsSound made.unit made.sound;
      };
      marks = made.unit;
      notes = made.notes;
    }
