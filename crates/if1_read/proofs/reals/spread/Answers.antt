use Rattle.std.proofs.Common.{Some, refl, sym, subst}
use Rattle.std.specs.Prelude.{All}
use Rattle.std.proofs.lemmas.List.Elements.{All-pop}
use Rattle.if1_read.specs.Spread.{IsRealAt, AreTrue, LeadsTo}
use Rattle.if1_read.proofs.Truly.{keeps_both}
use Rattle.if1_read.proofs.reals.spread.Goals as goal

pub loop-init : goal.loop-init
loop-init c = record {
  keeps = record { fit = refl; still = λ k h. h };
  real = λ is up are. are;
  todo = λ is up are. c.in_ok-todo.ensures c.args.types.now (subst (AreTrue c.args.types.now) (sym c.as_slice.ensures) are);
}

pub loop-preserved : goal.loop-preserved
loop-preserved c = record {
  keeps = keeps_both c.args.marks.now c.loop.marks c.mark_holders.new.marks c.loop.invariant.keeps c.in_ok-mark_holders-in-Some.ensures.keeps;
  real = λ is up are.
      let ts = c.args.types.now in
      let popped = All-pop (IsRealAt ts) c.loop.todo.items c.pop.new.self.items (Some c.in-Some.place) c.in-Some.ensures.items (c.loop.invariant.todo is up are) in
      let leads = subst (All (LeadsTo ts)) (sym c.as_slice-in-Some.ensures.value) (c.in_ok-pairs.ensures is up) in
      c.in_ok-mark_holders-in-Some.ensures.real ts leads popped.1 (c.loop.invariant.real is up are);
  todo = λ is up are.
      let ts = c.args.types.now in
      let popped = All-pop (IsRealAt ts) c.loop.todo.items c.pop.new.self.items (Some c.in-Some.place) c.in-Some.ensures.items (c.loop.invariant.todo is up are) in
      let leads = subst (All (LeadsTo ts)) (sym c.as_slice-in-Some.ensures.value) (c.in_ok-pairs.ensures is up) in
      c.in_ok-mark_holders-in-Some.ensures.todo ts leads popped.1 popped.0;
}
