use Rattle.std.proofs.Common.{◌≡◌, ◌∙◌, ℕ, suc, List, ap}
use Rattle.if1_graph.specs.declared.graph.Origin.{Origin}
use Rattle.if1_graph.specs.declared.graph.Origin.TheVariants.{Port, Lit}
use Rattle.if1_typing.specs.Tables.{table_of}
use Rattle.if1_typing.specs.Given.{noted_at, is_noted_as}
use Rattle.if1_typing.proofs.Seeing.{told, nowhere}
use Rattle.if1_typing.proofs.agree.agrees.Goals as goal

pub returns-in-Port : goal.returns-in-Port
returns-in-Port c =
    let m = c.args.given.now.map in
    told (table_of c.args.known.now) m c.args.edge.now c.in-Port.node c.in-Port.port c.if-node-ne0.true c.in-Port.is c.is_noted_as.result
    (c.is_noted_as.ensures ∙ ap (λ o. is_noted_as o c.number.result) c.get.ensures.value ∙ ap (is_noted_as (noted_at m c.in-Port.node c.in-Port.port)) c.number.ensures)

boundary : (o : Origin) (node port : ℕ) → o ≡ Port node port → node ≡ 0 → (l p : ℕ) → o ≡ Port (suc l) p → ⊥
boundary o node port is z l p e = cc

literal : (o : Origin) (text : List ℕ) → o ≡ Lit text → (l p : ℕ) → o ≡ Port (suc l) p → ⊥
literal o text is l p e = cc

pub returns-in_default : goal.returns-in_default
returns-in_default c =
    nowhere (table_of c.args.known.now) c.args.given.now.map c.args.edge.now (boundary c.args.edge.now.from c.in-Port.node c.in-Port.port c.in-Port.is c.if-node-ne0.false)

pub returns-in_default-2 : goal.returns-in_default-2
returns-in_default-2 c =
    nowhere (table_of c.args.known.now) c.args.given.now.map c.args.edge.now (literal c.args.edge.now.from c.in_default.field-0 c.in_default.is)
