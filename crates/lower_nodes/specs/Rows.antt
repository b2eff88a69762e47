-- Rows of operations, and the tags of arms.
use Rattle.std.specs.Prelude.{ℕ, zero, suc, nat_eq, List, [], ◌∷◌, Option, Some, None, if◌then◌else◌}
use Rattle.if1_graph.specs.declared.op.Simple.{Simple}
use Rattle.if1_graph.specs.declared.op.Simple.TheVariants as simple
use Rattle.typed_tree.specs.declared.expr.Choice.{Choice}
use Rattle.value_ops.specs.declared.operation.Operation.{Operation}
use Rattle.value_ops.specs.declared.operation.Operation.TheVariants as operation
use Rattle.sisal_tree.specs.declared.expr.Constant.{Constant}
use Rattle.lowering.specs.declared.feed.Feed.TheVariants.{Literal}
use Rattle.lowering.specs.declared.feed.Carried.TheVariants.{One}
use Rattle.lowering.specs.Feeds.{wire}
use Rattle.lowering.specs.Graphs.{Lowering, only}
use Rattle.lowering.specs.Operations.{boolean}
use Rattle.lowering.specs.Choices.{tag_named}

-- the row of an operation whose operands fill its ports from one on
abbrev pub plain_row : Operation → Option Simple
plain_row (operation.Unary f) = Some (simple.One f)
plain_row (operation.Binary f) = Some (simple.Two f)
plain_row operation.Error = Some simple.Error
plain_row operation.Array = Some simple.ABuild
plain_row operation.Fill = Some simple.AFill
plain_row operation.Element = Some simple.AElement
plain_row operation.Update = Some simple.AReplace
plain_row operation.AddHigh = Some simple.AAddH
plain_row operation.AddLow = Some simple.AAddL
plain_row operation.RemoveHigh = Some simple.ARemH
plain_row operation.RemoveLow = Some simple.ARemL
plain_row operation.SetLow = Some simple.ASetL
plain_row operation.Adjust = Some simple.AAdjust
plain_row operation.LimitLow = Some simple.ALimL
plain_row operation.LimitHigh = Some simple.ALimH
plain_row operation.Size = Some simple.ASize
plain_row operation.IsEmpty = Some simple.AIsEmpty
plain_row operation.Catenate = Some simple.ACatenate
plain_row operation.First = Some simple.FirstValue
plain_row operation.Rest = Some simple.RestValues
plain_row operation.Record = Some simple.RBuild
plain_row _ = None

-- the first tag of each of so many arms from one on
abbrev pub tags_named : ℕ → ℕ → List Choice → List ℕ
tags_named arm zero cs = []
tags_named arm (suc count) cs = tag_named arm cs ∷ tags_named (suc arm) count cs

-- the arm of each of so many tags from one on: the first for this tag, the second for all others
abbrev pub first_or_second : ℕ → ℕ → ℕ → List ℕ
first_or_second tag from zero = []
first_or_second tag from (suc count) = (if nat_eq from tag then 0 else 1) ∷ first_or_second tag (suc from) count

-- a graph that gives a truth value
abbrev pub truth_of : Constant → Lowering
truth_of c = only (wire (Literal c) (One boolean) ∷ [])
