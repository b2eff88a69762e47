use Rattle.std.proofs.Common.{length, ap, subst, arith}
use Rattle.take_marks.specs.Applied.{IsListedAt}
use Rattle.take_marks.proofs.Listed.{one-less, one-listed}
use Rattle.take_marks.proofs.apply.set_lists.Goals as goal

pub loop-labels-preserved : goal.loop-labels-preserved
loop-labels-preserved c =
    let r = one-less c.args.befores.items c.loop-labels.befores.items c.pop.new.self.items c.in-Some.labels c.loop-labels.invariant.left c.in-Some.ensures.items in
    record {
      listed = one-listed c.args.nodes.now.items c.loop-labels.nodes.items c.set_list.new.nodes.items c.args.befores.items (length c.loop-labels.befores.items) (length c.pop.new.self.items) c.in-Some.labels
          c.loop-labels.invariant.listed r.2 (omega (arith, r.2, c.loop-labels.invariant.left.short, c.requires)) r.1
          (subst (λ n. IsListedAt c.loop-labels.nodes.items n c.in-Some.labels c.set_list.new.nodes.items) (ap length c.as_slice-index.ensures.value) c.set_list.ensures);
      left = r.0;
    }
