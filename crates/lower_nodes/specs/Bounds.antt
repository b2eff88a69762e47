-- The parts of loops, as the code names them.
use Rattle.std.specs.Prelude.{ℕ, List, [], ◌∷◌, if◌then◌else◌}
use Rattle.if1_graph.specs.declared.op.Simple.TheVariants as simple
use Rattle.sisal_tree.specs.declared.expr.Direction.{Direction}
use Rattle.loop_folds.specs.declared.folding.Folding.{Folding}
use Rattle.type_table.specs.declared.form.Form.{Form}
use Rattle.typed_tree.specs.declared.expr.Source.{Source}
use Rattle.lowering.specs.declared.feed.Feed.TheVariants.{Named}
use Rattle.lowering.specs.declared.feed.Carried.TheVariants.{One}
use Rattle.lowering.specs.declared.feed.Wire.{Wire}
use Rattle.lowering.specs.Feeds.{wire}
use Rattle.lowering.specs.Graphs.{Lowering}
use Rattle.lowering.specs.Operations.{integer, one, row_lowered}
use Rattle.lowering.specs.Choices.{is_array, type_of}
use Rattle.lowering.specs.Loops.{Bound, Wired, Limit, with_bound, bound_of, grouping_of, reducer_name}
use Rattle.lower_nodes.specs.declared.loops.Bound.{Bound as Kept}
use Rattle.lower_nodes.specs.declared.loops.Bound.TheVariants as kept

-- the lower bound of an `array of`, as the code keeps it
abbrev pub plain : Kept → Bound
plain (kept.Wired w) = Wired w
plain (kept.Limit w) = Limit w

abbrev pub first_bound : List Form → Source → List Wire → Bound
first_bound forms s ws = bound_of forms (s ∷ []) ws

abbrev pub limit_or_one : List Form → Wire → Bound
limit_or_one forms w = if is_array forms (type_of w.ty) then Limit w else Wired one

abbrev pub gathered : Bound → List Wire → ℕ → Lowering
gathered b ms t = with_bound b (λ w. row_lowered simple.AGather (w ∷ ms) (t ∷ []))

abbrev pub reduced : Folding → Direction → List Wire → ℕ → Lowering
reduced f d ms t = row_lowered (simple.Reduce (grouping_of d)) (wire (Named (reducer_name f)) (One integer) ∷ ms) (t ∷ [])
