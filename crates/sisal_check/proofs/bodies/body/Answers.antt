use Rattle.std.proofs.Common.{◌≡◌, ◌∙◌, ap, arith, length}
use Rattle.typing_laws.specs.Bodies.{define_params}
use Rattle.sisal_check.proofs.Items.{params_height}
use Rattle.sisal_check.proofs.Functions.{params_left}
use Rattle.sisal_check.proofs.bodies.body.Goals as goal

pub returns-clause-names : goal.returns-clause-names
returns-clause-names c =
    params_left c.as_slice.result.now c.as_slice-2.result.now c.args.walk.now.names c.all.new.walk.names c.leave.new.self c.mark-outer.result c.leave.ensures c.mark-outer.ensures
    (c.in_ok-exprs.ensures.names ∙ c.in_ok-parameters.ensures)

pub parameters-requires : goal.parameters-requires
parameters-requires c =
    let none : c.args.walk.now.names.height ≡ 0 = ap (λ s. s.height) c.requires.none in
    let same : length c.as_slice.result.now ≡ length c.args.header.now.parameters = ap length c.as_slice.ensures in
    let few = c.requires.few in
    omega (arith, none, same, few)

pub all-requires : goal.all-requires
all-requires c =
    let xs = c.as_slice.result.now in
    let none : c.args.walk.now.names.height ≡ 0 = ap (λ s. s.height) c.requires.none in
    let same : length xs ≡ length c.args.header.now.parameters = ap length c.as_slice.ensures in
    let few = c.requires.few in
    let is : c.parameters.new.names.height ≡ (define_params xs c.as_slice-2.result.now c.args.walk.now.names).height = ap (λ s. s.height) c.in_ok-parameters.ensures in
    let least = params_height xs c.as_slice-2.result.now c.args.walk.now.names in
    record { spelled = c.requires.spelled c.parameters.new.names.height (omega (arith, none, same, few, is, least)) }
