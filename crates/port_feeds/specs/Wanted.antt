-- What a port wants, and what a literal carries there.
use Rattle.std.specs.Prelude.{ℕ, Bool, true, false, List, Option, Some}
use Rattle.flow_value.specs.declared.value.Val.{Val}
use Rattle.if1_graph.specs.declared.graph.Node.{Node, out-Node}
use Rattle.if1_graph.specs.declared.graph.TypeEntry.{TypeEntry}
use Rattle.if1_graph.specs.declared.op.Simple.{Simple}
use Rattle.if1_graph.specs.declared.row.Want.{Want}
use Rattle.if1_graph.specs.declared.row.Want.TheVariants as want
use Rattle.if1_graph.specs.Kinds.{kind_at}
use Rattle.if1_graph.specs.Ops.{simple_at}
use Rattle.if1_graph.specs.Rows.{operand_of}
use Rattle.if1_graph.specs.Tables.{◌>>=◌}
use Rattle.graph_meaning.specs.Networks.{of_basic}

abbrev pub want_by : Option Simple → (port : ℕ) → Option Want
want_by op port = op >>= λ op. operand_of op port >>= λ operand. Some operand.1

abbrev pub want_in : Option Node → (port : ℕ) → Option Want
want_in n port = n >>= λ n. want_by (simple_at (out-Node n).op) port

-- the name of a function or of a reduction
abbrev pub is_name : Option Want → Bool
is_name (Some want.Function) = true
is_name (Some want.Reduction) = true
is_name _ = false

-- the value of a literal of this type
abbrev pub value_by : Option TypeEntry → List ℕ → Option Val
value_by t text = t >>= λ t. of_basic (kind_at t.code) t text
