use Rattle.std.proofs.Common.{◌==◌, ◌∙◌, filter, ap, sym, subst}
use Rattle.if1_graph.specs.declared.graph.Edge.{Edge}
use Rattle.if1_fits.specs.Views.{AreUp}
use Rattle.if1_typing.proofs.Ports.{into_up}
use Rattle.if1_typing.proofs.fed.edges_of.Goals as goal

pub returns-clause-up : goal.returns-clause-up
returns-clause-up c =
    subst (λ es. AreUp es) (sym (c.edges_into.ensures ∙ ap (filter (λ (e : Edge). e.node == c.args.label)) c.as_slice.ensures)) (into_up c.args.graph.now c.args.label c.requires)
