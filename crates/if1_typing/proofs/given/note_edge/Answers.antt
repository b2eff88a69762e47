use Rattle.std.proofs.Common.{◌≡◌, ℕ, suc, List, sym}
use Rattle.std.proofs.lemmas.Result.{IfOk-weaker}
use Rattle.if1_graph.specs.declared.graph.Origin.{Origin}
use Rattle.if1_graph.specs.declared.graph.Origin.TheVariants.{Port, Lit}
use Rattle.if1_typing.specs.Tables.{table_of}
use Rattle.if1_typing.proofs.Seeing.{passed}
use Rattle.if1_typing.proofs.given.note_edge.Goals as goal

boundary : (o : Origin) (node port : ℕ) → o ≡ Port node port → node ≡ 0 → (l p : ℕ) → o ≡ Port (suc l) p → ⊥
boundary o node port is z l p e = cc

literal : (o : Origin) (text : List ℕ) → o ≡ Lit text → (l p : ℕ) → o ≡ Port (suc l) p → ⊥
literal o text is l p e = cc

pub returns-in_default-clause-seen : goal.returns-in_default-clause-seen
returns-in_default-clause-seen c = λ es seen.
    passed (table_of c.args.known.now) es c.args.edge.now c.args.map.now (boundary c.args.edge.now.from c.in-Port.node c.in-Port.port c.in-Port.is c.if-node-ne0.false) seen

pub returns-in_default-2-clause-seen : goal.returns-in_default-2-clause-seen
returns-in_default-2-clause-seen c = λ es seen.
    passed (table_of c.args.known.now) es c.args.edge.now c.args.map.now (literal c.args.edge.now.from c.in_default.field-0 c.in_default.is) seen

pub returns-in-Port-clause-seen : goal.returns-in-Port-clause-seen
returns-in-Port-clause-seen c =
    IfOk-weaker c.note.result _ _ (λ u h es seen. h es c.args.edge.now c.in-Port.is (sym c.number.ensures) seen) c.note.ensures.seen
