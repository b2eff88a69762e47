use Rattle.std.proofs.Common.{◌≡◌, ◌∙◌, suc, ◌-◌, ap, sym, subst, arith, Some, false}
use Rattle.if1_graph.specs.declared.graph.Origin.TheVariants.{Port}
use Rattle.if1_typing.specs.Tables.{table_of, number}
use Rattle.if1_typing.specs.Ends.{is_function_name}
use Rattle.if1_typing.specs.Given.{port_gives}
use Rattle.if1_typing.proofs.ends.is_ungiven.Goals as goal

pub returns-in-Port : goal.returns-in-Port
returns-in-Port c = λ h.
    let t = table_of c.args.known.now in
    let g = c.args.graph.now in
    let e = c.args.edge.now in
    let node = c.in-Port.node in
    let port = c.in-Port.port in
    let some : node ≡ suc (node - 1) = omega (arith, c.if-node-ne0.true) in
    let answer = c.noted.ensures false (c.is_refuted.ensures h) in
    let refuted : false ≡ port_gives t g node port c.number.result = c.requires.noted.sound node port c.number.result false answer in
    record {
      node = node - 1;
      port = port;
      from = c.in-Port.is ∙ ap (λ n. Port n port) some;
      ungiven = ap (λ n. port_gives t g n port (number t e.ty)) (sym some) ∙ ap (port_gives t g node port) (sym c.number.ensures) ∙ sym refuted;
      no_name = ap (λ d. is_function_name t d e) (sym c.doing_at.ensures) ∙ sym c.is_function_name.ensures ∙ c.if-is_function_name.false;
    }
