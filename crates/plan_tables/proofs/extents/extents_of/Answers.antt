use Rattle.std.proofs.Common.{◌≡◌, ℕ, ◌-◌, List, Some, length, slice_get, refl, sym, ap, ◌∙◌, subst, arith}
use Rattle.std.proofs.lemmas.List.{length-set}
use Rattle.std.proofs.lemmas.Option.{slice_get-get_or}
use Rattle.plan_data.specs.declared.plan.PlanGraph.{PlanGraph}
use Rattle.plan_data.specs.Parts.{nodes_cells, nodes_of, table_of}
use Rattle.plan_tables.specs.Above.{roomed}
use Rattle.plan_tables.proofs.Tables.{cells-same, cells-past, table-more}
use Rattle.plan_tables.proofs.extents.extents_of.Goals as goal

pub loop-graph-init : goal.loop-graph-init
loop-graph-init c = record { inside = omega arith; long = c.in_ok-extents.ensures; right = λ k le. cells-past c.args.graphs.now c.in_ok-extents.extents k le (let e = c.in_ok-extents.ensures in omega (arith, e, le)) }

pub loop-graph-preserved : goal.loop-graph-preserved
loop-graph-preserved c =
    let graphs = c.args.graphs.now in
    let xs = c.loop-graph.extents in
    let F = λ (ys : List ℕ) (k : ℕ). nodes_cells (roomed graphs ys) (nodes_of (slice_get graphs k)) in
    let g = c.loop-graph.graph - 1 in
    let some = c.loop-graph-test.true in
    let inside = c.loop-graph.invariant.inside in
    let long = c.loop-graph.invariant.long in
    let found : slice_get graphs g ≡ Some c.index-graphs-graph.result = slice_get-get_or graphs g c.index-graphs-graph.result (omega (arith, some, inside)) ∙ ap Some (sym c.index-graphs-graph.is) in
    let now : c.in_ok-cells.cells ≡ F xs g =
    c.in_ok-cells.ensures
    ∙ (ap (λ x. nodes_cells (roomed graphs x) c.as_slice-in-loop-graph.result.now) c.as_slice.ensures
    ∙ (ap (λ x. nodes_cells (roomed graphs xs) x) c.as_slice-in-loop-graph.ensures
    ∙ (ap (λ (x : PlanGraph). nodes_cells (roomed graphs xs) x.nodes) (sym c.index-graphs-graph.is) ∙ ap (λ x. nodes_cells (roomed graphs xs) (nodes_of x)) (sym found)))) in
    let all = table-more F (λ k ys zs same. cells-same (roomed graphs ys) (roomed graphs zs) refl k same (nodes_of (slice_get graphs k)) (c.requires k)) xs g c.in_ok-cells.cells (omega (arith, some, inside, long))
    (λ k le. c.loop-graph.invariant.right k (omega (arith, le, some))) now in
    record {
      inside = omega (arith, inside);
      long = ap length c.set.ensures ∙ (length-set xs g c.in_ok-cells.cells ∙ long);
      right = λ k le. subst (λ x. table_of x k ≡ F x k) (sym c.set.ensures) (all k le);
    }

pub returns : goal.returns
returns c =
    λ D graphs_are extents_are g.
    let graphs = c.args.graphs.now in
    let xs = c.loop-graph.extents in
    let none = c.loop-graph-test.false in
    ap (λ x. table_of x g) extents_are
    ∙ (c.loop-graph.invariant.right g (omega (arith, none))
    ∙ (cells-same (roomed graphs xs) D (sym graphs_are) g (λ h up. ap (λ x. table_of x h) (sym extents_are)) (nodes_of (slice_get graphs g)) (c.requires g)
    ∙ ap (λ x. nodes_cells D (nodes_of (slice_get x g))) (sym graphs_are)))
