use Rattle.std.proofs.Common.{◌++◌, ◌∙◌, ap, sym}
use Rattle.lowered_units.specs.Units.{edges_into}
use Rattle.unit_build.proofs.Blocks.{edges-last}
use Rattle.unit_build.proofs.maker.Maker.body_of.Goals as goal

pub returns-clause-edges : goal.returns-clause-edges
returns-clause-edges c =
    let p = c.args.self.now.program.now in
    let results = c.args.graph.results in
    c.in_ok-put_edges.ensures ∙ (ap (λ l. l ++ edges_into p 0 1 results) c.in_ok-body.ensures.edges ∙ sym (edges-last p 1 c.args.graph.nodes results))
