use Rattle.std.proofs.Common.{inl, inr, refl, subst}
use Rattle.if1_order.specs.declared.walk.Move.{Move}
use Rattle.if1_order.specs.Walks.{Moves, GoesOn, Ends}
use Rattle.if1_order.proofs.walk.visit.Goals as goal

pub loop-next-preserved : goal.loop-next-preserved
loop-next-preserved c =
    let g : GoesOn c.args.lists.now c.loop-next.walk c.take_step.new.walk c.loop-next.at c.in-To.next =
    subst (λ (m : Move). Moves c.args.lists.now c.loop-next.walk c.take_step.new.walk c.loop-next.at m) c.in-To.is c.in_ok-next.ensures in
    (g.walk, λ t h. g.met t (c.loop-next.invariant.1 t h))

pub returns-in-End : goal.returns-in-End
returns-in-End c =
    let e : Ends c.args.lists.now c.loop-next.walk c.take_step.new.walk c.loop-next.at =
    subst (λ (m : Move). Moves c.args.lists.now c.loop-next.walk c.take_step.new.walk c.loop-next.at m) c.in-End.is c.in_ok-next.ensures in
    record {
      walk = e.walk;
      path = e.path;
      kept = λ t h. e.met t (c.loop-next.invariant.1 t (inl h));
      done = e.met c.args.root (c.loop-next.invariant.1 c.args.root (inr refl));
    }
