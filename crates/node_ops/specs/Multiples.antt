-- Multiples and names, as folds take them.
use Rattle.std.specs.Prelude.{◌≡◌, ℤ, List, map, Option, None, Result, Ok, Err}
use Rattle.flow_value.specs.declared.cause.Cause.{Cause}
use Rattle.flow_value.specs.declared.value.Val.{Val}
use Rattle.flow_value.specs.declared.value.Val.TheVariants as val
use Rattle.loop_folds.specs.Clauses.{Cell}
use Rattle.loop_folds.specs.declared.folding.Folding.{Folding}
use Rattle.loop_folds.specs.declared.masking.Keep.TheVariants.{Kept}
use Rattle.if1_graph.specs.Ops.{reducer_at}
use Rattle.if1_graph.specs.declared.op.Reducer.{Reducer}
use Rattle.graph_meaning.specs.Carried.{Carried, Many, Name}
use Rattle.graph_meaning.specs.NodeValues.{folded}

-- the elements of a multiple, or the cause of the error that every fold makes of what is no multiple
abbrev pub AreElements : Result (List Val) Cause → Carried → Type 0
AreElements (Ok vs) c = c ≡ Many vs
AreElements (Err e) c = (f : Folding) (lo : ℤ) (mask : Carried) → folded f lo c mask ≡ val.Err e

-- each value, where there is no mask
abbrev pub each_kept : List Val → List Cell
each_kept vs = map (λ v. (v, Kept)) vs

-- the reduction that is named
abbrev pub reducer_in : Carried → Option Reducer
reducer_in (Name text) = reducer_at text
reducer_in _ = None
