-- Nodes that a step of few operands can fire.
use Rattle.std.specs.Prelude.{◌≡◌, ℕ, ◌+◌, ◌-◌, ◌^◌, ◌≤◌, length}
use Rattle.flow_value.specs.declared.operands.Shape.{Shape}
use Rattle.if1_graph.specs.declared.op.Simple.{Simple}
use Rattle.node_ops.specs.Operands.{shape_of}
use Rattle.step_code.specs.declared.step.Counted.{Counted}
use Rattle.step_code.specs.declared.step.Written.{Written}
use Rattle.step_code.specs.declared.step.Written.TheVariants as written
use Rattle.step_code.specs.Laid.{counted_by, row_of, shape_in}
use Rattle.plan_data.specs.declared.plan.Feed.TheVariants as feed
use Rattle.plan_data.specs.declared.plan.Handled.TheVariants as handled
use Rattle.plan_data.specs.declared.plan.Port.{Port}
use Rattle.code_maker.specs.declared.sparse.SparseNode.{SparseNode}

-- the node is that of such a step
pub record IsSparseNode (row : Simple) (shape : Shape) (x : Written) (counted : Counted) (width : ℕ) (n : SparseNode) : Type 0 where
  pub row_is : row ≡ row_of n.row
  pub shape_is : shape_of shape ≡ shape_in n.row
  pub writes_none : x ≡ written.Nothing
  pub counts : counted ≡ counted_by n.copies
  pub single : width ≡ 1

-- nothing fills the port
pub record IsUnfilled (x : Port) : Type 0 where
  pub literal : x.feed ≡ feed.Literal 0
  pub looked : x.handled ≡ handled.Looks
