-- The pass over a whole unit.
use Rattle.std.proofs.Common.{◌≡◌, ◌∙◌, [], map, drop, sym, append-nil}
use Rattle.if1_graph.specs.declared.graph.Unit1.{Unit1}
use Rattle.if1_graph.specs.Normal.{IsNormal}
use Rattle.if1_graph.specs.Ready.{IsReady}
use Rattle.if1_graph.specs.Units.{Function, places, most_levels}
use Rattle.may_take.specs.Looked.{flags_at}
use Rattle.take_marks.proofs.Shapes.{graphs-markable}
use Rattle.mark_units.specs.Walked.{AllFlags, AreNext, PartsNext}

pub all-next : (u : Unit1) → IsReady u → IsNormal u → (flags : AllFlags) → flags ≡ map (flags_at u) (places u) → AreNext u (places u) (drop 0 flags) []
all-next u ready normal flags e =
    record {
      are = e ∙ sym (append-nil (map (flags_at u) (places u)));
      shapes = λ p c. (graphs-markable u ready normal p c).0;
      markable = λ p c. (graphs-markable u ready normal p c).1;
    }

pub whole-next : (u : Unit1) → IsReady u → IsNormal u → (flags : AllFlags) → flags ≡ map (flags_at u) (places u) → PartsNext u.graphs (drop 0 flags)
whole-next u ready normal flags e =
    record {
      unit = u;
      more = most_levels;
      home = Function;
      first = 0;
      rest = [];
      deep = ready.formed.nesting;
      next = all-next u ready normal flags e;
    }
