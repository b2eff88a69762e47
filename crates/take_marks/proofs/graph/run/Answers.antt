use Rattle.std.proofs.Common.{◌∙◌, ◌<◌, ◌+◌, length, slice_index_or, false, subst, sym, ap}
use Rattle.std.proofs.lemmas.List.{length_push}
use Rattle.if1_graph.specs.declared.graph.Graph.TheViews.{out-Graph}
use Rattle.if1_reach.proofs.Labelled.{same-default}
use Rattle.take_marks.proofs.Runs.{run-start, run-next, nth-is}
use Rattle.take_marks.proofs.graph.run.Goals as goal

pub loop-index-init : goal.loop-index-init
loop-index-init c =
    record {
      inside = c.requires.inside;
      fit = c.requires.fit;
      ranked = c.requires.ranked;
      weights = c.requires.weights;
      befores = c.requires.befores;
      count = ap length c.new-whys.ensures;
      run = run-start c.args.graph.now c.args.flags.now c.args.lists.now.items c.args.befores.now.items c.requires.shape c.new-whys.result c.new-whys.ensures;
    }

pub loop-index-preserved : goal.loop-index-preserved
loop-index-preserved c =
    let n = c.loop-index.index in
    let h : n < length (out-Graph c.args.graph.now).edges = subst (λ es. n < length es) c.as_slice-edge-items.ensures c.loop-index-test.true in
    let e = c.in_ok-why.ensures in
    record {
      inside = e.inside;
      fit = e.fit ∙ c.loop-index.invariant.fit;
      ranked = e.ranked;
      weights = e.weights;
      befores = e.befores;
      count = ap length c.in_ok-add.ensures.ok ∙ (length_push c.loop-index.whys c.in_ok-why.why ∙ ap (λ k. k + 1) c.loop-index.invariant.count);
      run = run-next c.args.graph.now c.args.flags.now c.args.lists.now.items c.args.befores.now.items c.requires.shape n c.edge-item.result h
          (λ d. nth-is (out-Graph c.args.graph.now).edges c.as_slice-edge-items.result.now n c.edge-item.result d c.as_slice-edge-items.ensures c.loop-index-test.true c.edge-item.is)
          (slice_index_or c.args.flags.now n false) (λ d. same-default c.args.flags.now n d false (subst (λ k. n < k) (sym c.requires.flags) h))
          c.loop-index.lists.items c.note.new.lists.items c.loop-index.befores.items c.note.new.befores.items c.loop-index.whys c.add.new.self c.in_ok-why.why c.loop-index.invariant.run e.noted c.in_ok-add.ensures.ok;
    }
