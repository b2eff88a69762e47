use Rattle.std.proofs.Common.{◌∙◌, ◌<◌, length, ap, drop, ◌-◌, rules}
use Rattle.name_scope.proofs.Chains.{shorter}
use Rattle.name_scope.proofs.Scope.leave.Goals as goal

pub loop-self-preserved : goal.loop-self-preserved
loop-self-preserved g c =
    let more : c.args.n < length c.loop-self.self = search rules in
    ap (λ s. drop (length s - c.args.n) s) c.end_newest.ensures ∙ shorter c.loop-self.self c.args.n more ∙ c.loop-self.invariant
