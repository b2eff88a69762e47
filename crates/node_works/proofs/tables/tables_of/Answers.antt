use Rattle.std.proofs.Common.{◌∙◌, All, length, sym, ap, subst, arith}
use Rattle.if1_graph.specs.declared.graph.Unit1.{Unit1}
use Rattle.node_works.proofs.Ordered.{IsOrdered, functions-ordered}
use Rattle.node_works.proofs.tables.tables_of.Goals as goal

pub types_of-requires-clause-few : goal.types_of-requires-clause-few
types_of-requires-clause-few c =
    omega (arith, ap length (c.as_slice.ensures ∙ ap (λ (u : Unit1). u.types) c.unit-whole.ensures.unit), c.unit-whole.ensures.ready.formed.types.few)

pub functions_of-requires : goal.functions_of-requires
functions_of-requires c =
    subst (All IsOrdered) (sym (c.as_slice-2.ensures ∙ ap (λ (u : Unit1). u.graphs) c.unit-whole.ensures.unit))
    (functions-ordered c.args.unit.now c.unit-whole.ensures.ready c.unit-whole.ensures.normal)
