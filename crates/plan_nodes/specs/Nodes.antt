-- Nodes, by what is known of them, and what is collected for them.
use Rattle.std.specs.Prelude.{ℕ, Bool, List, [], map, drop, Option, Some, None}
use Rattle.flow_value.specs.declared.operands.Shape.{Shape}
use Rattle.if1_graph.specs.Rows.{row_of}
use Rattle.if1_graph.specs.declared.op.Simple.{Simple}
use Rattle.if1_graph.specs.declared.op.Simple.TheVariants as simple
use Rattle.graph_meaning.specs.Laws.{outputs_by}
use Rattle.node_ops.specs.Operands.{shape_of}
use Rattle.row_counts.specs.Counts.{counted_by_row, written_by_row}
use Rattle.step_code.specs.declared.step.Collect.{Collect}
use Rattle.plan_data.specs.declared.plan.PlanNode.{PlanNode}
use Rattle.plan_data.specs.declared.plan.Port.{Port}
use Rattle.plan_data.specs.declared.plan.Work.{Work}
use Rattle.plan_data.specs.declared.plan.Work.TheVariants as work
use Rattle.plan_builder.specs.declared.ways.Reading.{Reading}
use Rattle.plan_builder.specs.Collects.{collects_of}
use Rattle.plan_builder.specs.Nodes.{made_node}
use Rattle.plan_builder.specs.Ways.{multiple_port, reading_by}
use Rattle.port_feeds.specs.declared.filled.Filled.{Filled}
use Rattle.node_works.specs.declared.task.Task.{Task}
use Rattle.node_works.specs.declared.task.Task.TheVariants as task
use Rattle.plan_nodes.specs.declared.parts.NodeParts.{NodeParts}
use Rattle.plan_nodes.specs.Ports.{given_port_by, left_at, port_by, read_ports, row_read, told_in}

-- ---- a Call or compound node

abbrev pub callee_in : Work → Option ℕ
callee_in (work.Call f) = Some f
callee_in _ = None

abbrev pub whole_by : Option ℕ → Work → (width : ℕ) → List Filled → PlanNode
whole_by (Some f) y w fs = made_node (work.Call f) w (map port_by (drop 1 fs))
whole_by None y w fs = made_node y w (map given_port_by fs)

abbrev pub whole_node : Work → (width : ℕ) → List Filled → PlanNode
whole_node y w fs = whole_by (callee_in y) y w fs

-- ---- a simple node

-- of whose ports few may be filled
abbrev pub IsSparse : Simple → Type 0
IsSparse simple.RBuild = Unit {0}
IsSparse simple.RReplace = Unit {0}
IsSparse _ = ⊥

module _ (fs : List Filled) (joined : Bool) (marks : ℕ) where
  -- of a row, with these ports, in place of one of its own row
  abbrev pub simple_by : (row own : Simple) → Shape → List Port → PlanNode
  simple_by row own shape ins = made_node (work.Plain row shape (written_by_row own joined) (counted_by_row own (told_in fs own) marks)) (outputs_by (row_of row).gives (shape_of shape)) ins

-- how it reads multiples in a returns
abbrev pub reading_in : (plain : ℕ) → Simple → List Filled → Reading
reading_in plain row fs = reading_by plain (left_at fs (multiple_port row)) row (map port_by fs)

module _ (fs : List Filled) (joined : Bool) (marks : ℕ) where
  -- where the first collection for it has this number
  abbrev pub plain_node : Option ℕ → (number : ℕ) → Simple → Shape → PlanNode
  plain_node None k row shape = simple_by fs joined marks row row shape (map port_by fs)
  plain_node (Some plain) k row shape = simple_by fs joined marks (row_read (reading_in plain row fs) row) row shape (read_ports (reading_in plain row fs) plain k fs)

abbrev pub plain_collects : Option ℕ → Simple → List Filled → List Collect
plain_collects None row fs = []
plain_collects (Some plain) row fs = collects_of (reading_in plain row fs) plain (map port_by fs)

-- ---- a node

abbrev pub task_node : Option ℕ → (number : ℕ) → NodeParts → Task → PlanNode
task_node plain k x (task.Plain row shape) = plain_node x.ports x.joined x.marks plain k row shape
task_node plain k x (task.Whole y) = whole_node y x.width x.ports

abbrev pub task_collects : Option ℕ → NodeParts → Task → List Collect
task_collects plain x (task.Plain row shape) = plain_collects plain row x.ports
task_collects plain x (task.Whole y) = []

abbrev pub node_by : Option ℕ → (number : ℕ) → NodeParts → PlanNode
node_by plain k x = task_node plain k x x.task

abbrev pub collects_by : Option ℕ → NodeParts → List Collect
collects_by plain x = task_collects plain x x.task
