use Rattle.std.proofs.Common.{sym, drop, length, ◌-◌, arith}
use Rattle.unit_types.proofs.Steps.{begins_name}
use Rattle.unit_types.proofs.step.begin_by_name.Goals as goal

pub returns-then-ty-len-clause-leads : goal.returns-then-ty-len-clause-leads
returns-then-ty-len-clause-leads c = λ os t w. begins_name (drop (length c.args.named.now - c.args.known) c.args.named.now) c.args.types.now os t c.args.name c.in-Some.ty w (sym c.in-Some.ensures) (omega arith)
