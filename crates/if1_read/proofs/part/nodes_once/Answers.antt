use Rattle.std.proofs.Common.{◌∷◌, ◌++◌, [], List, Option, None, Some, map, sym, ap, subst, ◌∙◌}
use Rattle.std.proofs.lemmas.List.{map-append}
use Rattle.if1_graph.specs.declared.graph.Node.{Node}
use Rattle.if1_graph.specs.Units.{label_of}
use Rattle.if1_read.specs.declared.fault.Fault.{Fault}
use Rattle.if1_read.proofs.Onely.{RisesTo, Turn, rises_more, turn_none, turn_past, turn_new}
use Rattle.if1_read.proofs.part.nodes_once.Goals as goal

pub loop-line-init : goal.loop-line-init
loop-line-init c = record {
  rise = ap (map label_of) c.in_ok-once.ensures;
  clean = λ h. h;
  all = λ h. c.in_ok-once.ensures;
  turn = subst (Turn label_of c.args.first [] None c.args.first) (sym c.in_ok-once.ensures) (turn_none label_of c.args.first);
}

pub loop-line-preserved-then-is_past : goal.loop-line-preserved-then-is_past
loop-line-preserved-then-is_past c =
    let inv = c.loop-line.invariant in
    let past = sym c.is_past.ensures ∙ c.if-is_past.true in
    record {
      rise = inv.rise;
      clean = λ h. absurd (c.sooner-first.ensures.some h);
      all = λ h. absurd (c.sooner-first.ensures.some h);
      turn = subst (λ (o : Option Fault). Turn label_of c.args.first (c.loop-line.yielded ++ (c.in-Some.line, c.in-Some.node) ∷ []) c.loop-line.last o c.loop-line.once)
          (sym c.sooner-first.ensures.found)
          (turn_past label_of c.args.first c.loop-line.yielded c.loop-line.last c.loop-line.first c.loop-line.once inv.turn (c.in-Some.line, c.in-Some.node) past);
    }

pub loop-line-preserved : goal.loop-line-preserved
loop-line-preserved c =
    let n = c.in-Some.node in
    let inv = c.loop-line.invariant in
    let new = sym c.is_past.ensures ∙ c.if-is_past.false in
    record {
      rise =
          subst (RisesTo (Some (label_of n))) (sym (ap (map label_of) c.in_ok-add.ensures.ok ∙ map-append label_of c.loop-line.once (n ∷ [])))
          (rises_more c.loop-line.last (label_of n) (map label_of c.loop-line.once) inv.rise new);
      clean = inv.clean;
      all = λ h.
          c.in_ok-add.ensures.ok
          ∙ ap (λ ns. ns ++ n ∷ []) (inv.all h)
          ∙ sym (map-append (λ x. x.1) c.loop-line.yielded ((c.in-Some.line, n) ∷ []));
      turn = subst (Turn label_of c.args.first (c.loop-line.yielded ++ (c.in-Some.line, n) ∷ []) (Some (label_of n)) c.loop-line.first) (sym c.in_ok-add.ensures.ok)
          (turn_new label_of c.args.first c.loop-line.yielded c.loop-line.last c.loop-line.first c.loop-line.once inv.turn (c.in-Some.line, n) new);
    }
