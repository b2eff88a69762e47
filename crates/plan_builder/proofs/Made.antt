-- Nodes that are made stand for vertices with these ports.
use Rattle.std.proofs.Common.{◌≡◌, ℕ, Bool, false, List, [], ap, ◌∙◌}
use Rattle.flow_value.specs.declared.operands.Shape.{Shape}
use Rattle.if1_graph.specs.Rows.{row_of}
use Rattle.if1_graph.specs.declared.op.Simple.{Simple}
use Rattle.graph_meaning.specs.Demand.{Vertex}
use Rattle.graph_meaning.specs.Demand as demand
use Rattle.graph_meaning.specs.Forms as form
use Rattle.graph_meaning.specs.Laws.{outputs_by}
use Rattle.step_code.specs.Operands.{shape_of}
use Rattle.run_code.specs.Taking.{first_port}
use Rattle.run_code.specs.Made.{Plan}
use Rattle.step_code.specs.Ports.{modes_of, picks_of}
use Rattle.plan_data.specs.Settings.{Shares}
use Rattle.step_code.specs.declared.step.Counted.{Counted}
use Rattle.step_code.specs.declared.step.Written.{Written}
use Rattle.plan_data.specs.declared.plan.Port.{Port}
use Rattle.plan_data.specs.declared.plan.Work.{Work}
use Rattle.plan_data.specs.declared.plan.Work.TheVariants as work
use Rattle.plan_data.specs.declared.plan.PlanData.{PlanData}
use Rattle.plan_data.specs.Parts.{IsWhole, kind_of}
use Rattle.plan_data.specs.Stands.{AreFed, IsNode}
use Rattle.plan_builder.specs.Nodes.{AreHandled, given_by, handled_by, made_node}
use Rattle.plan_builder.proofs.Handling.{given-so, modes-are}

module _ (D : PlanData) (P : Plan) (S : Shares) (g : ℕ) (v : Vertex) where
  pub simple-stands : (row : Simple) (shape : Shape) (writes : Written) (copies : Counted) (xs : List Port) → v.kind ≡ demand.Plain row (shape_of shape) → P.width v ≡ outputs_by (row_of row).gives (shape_of shape)
      → AreFed D P S g xs v.ins → AreHandled handled_by (S.takes g v.label) (S.copies g v.label) 1 xs → IsNode D P S g (made_node (work.Plain row shape writes copies) (outputs_by (row_of row).gives (shape_of shape)) xs) v
  simple-stands row shape writes copies xs kind wide fed handled =
      record {
        width = wide;
        kind = kind;
        fed = fed;
        handled = ap (λ k. modes_of (S.takes g v.label) (S.copies g v.label) (first_port k) v.ins) kind ∙ modes-are D P S g (S.takes g v.label) (S.copies g v.label) 1 xs v.ins fed handled;
      }

  pub call-stands : (f w : ℕ) (xs : List Port) → v.kind ≡ demand.Whole (form.Call f) → P.width v ≡ w
      → AreFed D P S g xs v.ins → AreHandled handled_by (S.takes g v.label) (S.copies g v.label) 2 xs → IsNode D P S g (made_node (work.Call f) w xs) v
  call-stands f w xs kind wide fed handled =
      record {
        width = wide;
        kind = kind;
        fed = fed;
        handled = ap (λ k. modes_of (S.takes g v.label) (S.copies g v.label) (first_port k) v.ins) kind ∙ modes-are D P S g (S.takes g v.label) (S.copies g v.label) 2 xs v.ins fed handled;
      }

  pub compound-stands : (y : Work) (w : ℕ) (xs : List Port) (copies : (port : ℕ) → Bool) → IsWhole y → v.kind ≡ kind_of y w → P.width v ≡ w → P.picks g v ≡ picks_of copies 1 v.ins → (v.ins ≡ [] → S.takes g v.label 1 ≡ false)
      → AreFed D P S g xs v.ins → AreHandled given_by (S.takes g v.label) copies 1 xs → IsNode D P S g (made_node y w xs) v
  compound-stands y w xs copies whole kind wide picked none fed handled =
      record {
        width = wide;
        kind = kind;
        fed = fed;
        handled = given-so D P S g v copies picked none y whole xs fed handled;
      }
