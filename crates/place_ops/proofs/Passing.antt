-- The rows of nodes whose first operand is taken, by the values of the operands.
use Rattle.std.proofs.Common.{◌≡◌, List, [], ◌∷◌, map, Option, Some}
use Rattle.flow_value.specs.declared.operands.Shape.TheVariants as shape
use Rattle.flow_value.specs.declared.value.Val.{Val}
use Rattle.value_ops.specs.Given.{values_in}
use Rattle.value_ops.specs.Operations.{op_value}
use Rattle.value_ops.specs.declared.operation.Operation.TheVariants as operation
use Rattle.if1_graph.specs.declared.op.Simple.TheVariants as simple
use Rattle.graph_meaning.specs.Carried.{filled_from}
use Rattle.node_ops.proofs.Resolving.{node_row}
use Rattle.node_ops.specs.Operands.{plain}
use Rattle.place_ops.specs.Taken.{values_taken}

pub update_taken : (v : Val) (ins : List (Option Val)) → values_taken simple.AReplace v ins ≡ op_value operation.Update (v ∷ values_in ins) ∷ []
update_taken v ins = node_row simple.AReplace shape.Plain (Some v ∷ ins)

pub remove_high_taken : (v : Val) (ins : List (Option Val)) → values_taken simple.ARemH v ins ≡ op_value operation.RemoveHigh (v ∷ values_in ins) ∷ []
remove_high_taken v ins = node_row simple.ARemH shape.Plain (Some v ∷ ins)

pub remove_low_taken : (v : Val) (ins : List (Option Val)) → values_taken simple.ARemL v ins ≡ op_value operation.RemoveLow (v ∷ values_in ins) ∷ []
remove_low_taken v ins = node_row simple.ARemL shape.Plain (Some v ∷ ins)

pub set_low_taken : (v : Val) (ins : List (Option Val)) → values_taken simple.ASetL v ins ≡ op_value operation.SetLow (v ∷ values_in ins) ∷ []
set_low_taken v ins = node_row simple.ASetL shape.Plain (Some v ∷ ins)

pub adjust_taken : (v : Val) (ins : List (Option Val)) → values_taken simple.AAdjust v ins ≡ op_value operation.Adjust (v ∷ values_in ins) ∷ []
adjust_taken v ins = node_row simple.AAdjust shape.Plain (Some v ∷ ins)

pub rest_taken : (v : Val) (ins : List (Option Val)) → values_taken simple.RestValues v ins ≡ op_value operation.Rest (v ∷ values_in ins) ∷ []
rest_taken v ins = node_row simple.RestValues shape.Plain (Some v ∷ ins)

pub change_taken : (v : Val) (ins : List (Option Val)) → values_taken simple.RReplace v ins ≡ op_value (operation.Change (filled_from 0 (map plain ins))) (v ∷ values_in ins) ∷ []
change_taken v ins = node_row simple.RReplace shape.Plain (Some v ∷ ins)

pub add_high_taken : (v : Val) (ins : List (Option Val)) → values_taken simple.AAddH v ins ≡ op_value operation.AddHigh (v ∷ values_in ins) ∷ []
add_high_taken v ins = node_row simple.AAddH shape.Plain (Some v ∷ ins)

pub add_low_taken : (v : Val) (ins : List (Option Val)) → values_taken simple.AAddL v ins ≡ op_value operation.AddLow (v ∷ values_in ins) ∷ []
add_low_taken v ins = node_row simple.AAddL shape.Plain (Some v ∷ ins)

pub catenate_taken : (v : Val) (ins : List (Option Val)) → values_taken simple.ACatenate v ins ≡ op_value operation.Catenate (v ∷ values_in ins) ∷ []
catenate_taken v ins = node_row simple.ACatenate shape.Plain (Some v ∷ ins)
