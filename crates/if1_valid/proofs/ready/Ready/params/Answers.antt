use Rattle.std.proofs.Common.{ap, subst, ◌∙◌}
use Rattle.if1_graph.specs.Ready.{IsReady}
use Rattle.if1_valid.proofs.Headers.{none_is_absurd}
use Rattle.if1_valid.proofs.ready.Ready.params.Goals as goal

pub unreachable-requires : goal.unreachable-requires
unreachable-requires c =
    none_is_absurd c.args.self.now c.args.graph c.as_slice-types.result.now c.as_slice.result.now c.in_ok-types.field-0
    (subst IsReady c.self.view_is c.self.invariant.0) c.requires
    (c.as_slice-types.ensures ∙ ap (λ u. u.types) c.self.view_is) (c.as_slice.ensures ∙ ap (λ u. u.graphs) c.self.view_is)
    c.in_ok-types.ensures c.in-None.is
