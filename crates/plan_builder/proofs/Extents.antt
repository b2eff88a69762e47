-- The outputs of nodes stand in the cells that these take.
use Rattle.std.proofs.Common.{◌≤◌, ℕ, ◌+◌, map, List, [], ◌∷◌, arith}
use Rattle.std.proofs.Math.Nat.{le-max_right}
use Rattle.graph_meaning.specs.Demand.{Vertex}
use Rattle.run_code.specs.Made.{Plan}
use Rattle.plan_data.specs.Settings.{Shares}
use Rattle.plan_data.specs.declared.plan.PlanNode.{PlanNode}
use Rattle.plan_data.specs.declared.plan.PlanData.{PlanData}
use Rattle.plan_data.specs.Parts.{count_true, nodes_cells, picks_of, work_cells}
use Rattle.plan_data.specs.Stands.{AreNodes}
use Rattle.plan_builder.specs.declared.outlets.Outlets.{Outlets}
use Rattle.plan_builder.specs.Laws.{AreOutputsInExtents}
use Rattle.plan_builder.specs.Outlets.{AreNodesAt, cells_of}

module _ (D : PlanData) (P : Plan) (S : Shares) (g : ℕ) (x : Outlets) where
  inside : (os : List ℕ) (ns : List PlanNode) (vs : List Vertex) → AreNodes D P S g ns vs → AreNodesAt P x os vs → cells_of x.widths os ≤ nodes_cells D ns
  inside [] [] [] a h = omega arith
  inside [] [] (v ∷ vs) a h = absurd a
  inside [] (n ∷ ns) [] a h = absurd a
  inside [] (n ∷ ns) (v ∷ vs) a h = absurd h
  inside (o ∷ os) [] [] a h = absurd h
  inside (o ∷ os) [] (v ∷ vs) a h = absurd a
  inside (o ∷ os) (n ∷ ns) [] a h = absurd a
  inside (o ∷ os) (n ∷ ns) (v ∷ vs) a h =
      let rest = inside os ns vs a.1 h.2 in
      let wide = a.0.width in
      let own = h.1 in
      let up = le-max_right (n.width + (count_true (map picks_of n.ins) + work_cells D n.work)) (n.width + nodes_cells D ns) in
      omega (arith, rest, wide, own, up)

pub outputs-inside : AreOutputsInExtents
outputs-inside D P S g x ns vs a h = inside D P S g x x.order ns vs a h
