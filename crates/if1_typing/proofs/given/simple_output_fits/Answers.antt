use Rattle.std.proofs.Common.{◌∙◌, None, Option, ap, sym}
use Rattle.if1_graph.specs.declared.op.Simple.{Simple}
use Rattle.if1_graph.specs.Rows.{output_of}
use Rattle.if1_typing.specs.Tables.{table_of}
use Rattle.if1_typing.specs.Ends.{output_as, output_fits}
use Rattle.if1_typing.proofs.given.simple_output_fits.Goals as goal

pub returns-in-Some : goal.returns-in-Some
returns-in-Some c =
    let t = table_of c.args.known.now in
    let n = c.args.node.now in
    c.output_as.ensures ∙ ap (λ w. output_as t c.edges_of-edges.result.now w c.args.number) c.output_of.ensures
    ∙ ap (λ es. output_as t es (output_of c.in-Some.op c.args.port) c.args.number) c.edges_of-edges.ensures.are
    ∙ ap (λ (op : Option Simple). output_fits t c.args.graph.now n None op c.args.port c.args.number) (sym c.in-Some.is)
