use Rattle.std.proofs.Common.{◌∙◌, ◌∷◌, ap}
use Rattle.lowered_units.specs.Units.{inner_graph}
use Rattle.unit_build.specs.Nesting.{listings}
use Rattle.unit_build.proofs.Nesting.{hold-first, listing-first}
use Rattle.unit_build.proofs.maker.Maker.put_graph.Goals as goal

pub inner_graph-requires-clause-hold : goal.inner_graph-requires-clause-hold
inner_graph-requires-clause-hold c = hold-first (inner_graph c.args.self.now.program.now c.args.number c.args.graph) c.args.made.now.items c.requires.next.nesting

pub returns : goal.returns
returns c =
    ap listings c.in_ok-push_front.ensures.items
    ∙ (listing-first c.in_ok-graph.graph c.args.made.now.items c.inner_graph.new.made.items c.in_ok-graph.ensures.inside
    ∙ ap (λ x. x ∷ listings c.args.made.now.items) c.in_ok-graph.ensures.head)
