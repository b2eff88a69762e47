use Rattle.std.proofs.Common.{map, length, ap, ◌∙◌, arith}
use Rattle.flow_value.specs.Lent.{operand_value}
use Rattle.sequential_fire.proofs.TakeSteps.{remade-is}
use Rattle.sequential_fire.proofs.taking.made_anew.Goals as goal

pub fire_one-requires-clause-ports : goal.fire_one-requires-clause-ports
fire_one-requires-clause-ports c =
    let same = ap length c.as_mut_slice.ensures.value in
    let long = c.in_ok-ins.ensures.long in
    let ports = c.requires.ports in
    omega (arith, same, long, ports)

pub returns : goal.returns
returns c =
    remade-is c.args.row c.args.shape c.args.loaded.now.items (map operand_value c.as_mut_slice.result.now) c.in_ok-value.value c.in_ok-cell.cell
    (λ ks are. ap (map operand_value) c.as_mut_slice.ensures.value ∙ c.in_ok-ins.ensures.given ks are) c.in_ok-value.ensures c.in_ok-cell.ensures
