-- The operands of a node stand for what is carried into its ports.
use Rattle.std.specs.Prelude.{◌≡◌, List, map}
use Rattle.if1_graph.specs.declared.op.Simple.{Simple}
use Rattle.graph_meaning.specs.Carried.{Carried}
use Rattle.graph_meaning.specs.Strict.{IsFit}
use Rattle.node_ops.specs.Operands.{operand_for, carried_by}

-- where what is carried fits the row
abbrev pub DoOperandsStand : Type 0
DoOperandsStand = (o : Simple) (cs : List Carried) → IsFit o cs → carried_by o (map operand_for cs) ≡ cs
