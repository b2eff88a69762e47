-- A simple node has as many outputs as its row of the table.
use Rattle.std.proofs.Common.{◌≡◌, ℕ, zero, suc, List, [], ◌∷◌, map, length, refl, ap}
use Rattle.loop_folds.specs.Scalar1.TheVariants as one
use Rattle.loop_folds.specs.Scalar2.TheVariants as two
use Rattle.loop_folds.specs.Val.{Val}
use Rattle.loop_folds.specs.Val.TheOpen.{Val-F}
use Rattle.loop_folds.specs.Val.TheViews.{out-Val}
use Rattle.if1_graph.specs.Ports.{count_from}
use Rattle.if1_graph.specs.declared.op.Simple.TheVariants as simple
use Rattle.value_ops.specs.Operations.{op_value}
use Rattle.value_ops.specs.declared.operation.Operation.TheVariants as operation
use Rattle.graph_meaning.specs.Carried.{Carried, Value, vals}
use Rattle.graph_meaning.specs.NodeValues.{Shape, scatter_in, scatter_of}
use Rattle.graph_meaning.specs.NodeValues as shape
use Rattle.graph_meaning.specs.Laws.{AreOutputsCounted}

counted : (f : ℕ → Carried) (first n : ℕ) → length (map f (count_from first n)) ≡ n
counted f first zero = refl
counted f first (suc n) = ap suc (counted f (suc first) n)

two-in : (w : Val-F Val) → length (scatter_in w) ≡ 2
two-in (Val-F.Err c) = refl
two-in (Val-F.Int n) = refl
two-in (Val-F.Bool p) = refl
two-in (Val-F.Char c) = refl
two-in Val-F.Null = refl
two-in (Val-F.Arr a) = refl
two-in (Val-F.Rec vs) = refl
two-in (Val-F.Uni t v) = refl
two-in (Val-F.Stream vs) = refl

two-of : (vs : List Val) → length (scatter_of vs) ≡ 2
two-of [] = refl
two-of (v ∷ []) = two-in (out-Val v)
two-of (v ∷ w ∷ vs) = refl

pub outputs-counted : AreOutputsCounted
outputs-counted (simple.One one.Neg) s cs = refl
outputs-counted (simple.One one.Abs) s cs = refl
outputs-counted (simple.One one.Not) s cs = refl
outputs-counted (simple.One one.Int) s cs = refl
outputs-counted (simple.One one.Bool) s cs = refl
outputs-counted (simple.One one.Char) s cs = refl
outputs-counted (simple.One one.IsError) s cs = refl
outputs-counted (simple.Two two.Plus) s cs = refl
outputs-counted (simple.Two two.Minus) s cs = refl
outputs-counted (simple.Two two.Times) s cs = refl
outputs-counted (simple.Two two.Div) s cs = refl
outputs-counted (simple.Two two.Mod) s cs = refl
outputs-counted (simple.Two two.Max) s cs = refl
outputs-counted (simple.Two two.Min) s cs = refl
outputs-counted (simple.Two two.Equal) s cs = refl
outputs-counted (simple.Two two.NotEqual) s cs = refl
outputs-counted (simple.Two two.Less) s cs = refl
outputs-counted (simple.Two two.LessEqual) s cs = refl
outputs-counted simple.NoOp s cs = refl
outputs-counted simple.Error s cs = refl
outputs-counted simple.Call s cs = refl
outputs-counted simple.ABuild s cs = refl
outputs-counted simple.AFill s cs = refl
outputs-counted simple.AElement s cs = refl
outputs-counted simple.AReplace s cs = refl
outputs-counted simple.AAddH s cs = refl
outputs-counted simple.AAddL s cs = refl
outputs-counted simple.ARemH s cs = refl
outputs-counted simple.ARemL s cs = refl
outputs-counted simple.ASetL s cs = refl
outputs-counted simple.AAdjust s cs = refl
outputs-counted simple.ALimL s cs = refl
outputs-counted simple.ALimH s cs = refl
outputs-counted simple.ASize s cs = refl
outputs-counted simple.AIsEmpty s cs = refl
outputs-counted simple.ACatenate s cs = refl
outputs-counted simple.FirstValue s cs = refl
outputs-counted simple.RestValues s cs = refl
outputs-counted simple.RBuild s cs = refl
outputs-counted simple.RReplace s cs = refl
outputs-counted simple.RangeGenerate s cs = refl
outputs-counted simple.AGather s cs = refl
outputs-counted simple.FinalValue s cs = refl
outputs-counted simple.RElements (shape.Fields n) cs = counted (λ f. Value (op_value (operation.Field f) (vals cs))) 0 n
outputs-counted simple.RElements shape.Plain cs = refl
outputs-counted simple.RElements shape.Stream cs = refl
outputs-counted simple.RElements shape.Union cs = refl
outputs-counted simple.AScatter s cs = two-of (vals cs)
outputs-counted (simple.Reduce grouping) s cs = refl
