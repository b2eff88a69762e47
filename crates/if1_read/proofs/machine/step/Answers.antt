use Rattle.if1_read.proofs.Leading.{told, node_leads, edge_leads, literal_leads, function_leads, subgraph_leads, import_leads, open_leads, close_leads}
use Rattle.if1_read.proofs.Saying.{is_said, node_said, open_said, close_said}
use Rattle.if1_read.proofs.machine.step.Goals as goal

pub returns-in-Node-clause-goes : goal.returns-in-Node-clause-goes
returns-in-Node-clause-goes c =
    let l = c.in-Node in
    let e = c.node_line.ensures in
    told c.args.known.now c.args.machine c.node_line.result _ c.args.says l.is
    (node_leads c.args.known.now c.args.machine c.node_line.result l.label l.op c.new.result c.new-in-Node.result l.before l.name e.clean c.new.ensures c.new-in-Node.ensures e.adds)

pub returns-in-Edge-clause-goes : goal.returns-in-Edge-clause-goes
returns-in-Edge-clause-goes c =
    let l = c.in-Edge in
    let e = c.edge_line.ensures in
    told c.args.known.now c.args.machine c.edge_line.result _ c.args.says l.is
    (edge_leads c.args.known.now c.args.machine c.edge_line.result l.from l.out l.node l.port l.ty l.takes l.name e.clean e.adds)

pub returns-in-Literal-clause-goes : goal.returns-in-Literal-clause-goes
returns-in-Literal-clause-goes c =
    let l = c.in-Literal in
    let e = c.edge_line-in-Literal.ensures in
    told c.args.known.now c.args.machine c.edge_line-in-Literal.result _ c.args.says l.is
    (literal_leads c.args.known.now c.args.machine c.edge_line-in-Literal.result l.node l.port l.ty l.text l.name e.clean e.adds)

pub returns-in-Function-clause-goes : goal.returns-in-Function-clause-goes
returns-in-Function-clause-goes c =
    let l = c.in-Function in
    let e = c.function_line.ensures in
    told c.args.known.now c.args.machine c.function_line.result _ c.args.says l.is
    (function_leads c.args.known.now c.args.machine c.function_line.result l.exported l.fun l.name e.clean e.begins)

pub returns-in-Subgraph-clause-goes : goal.returns-in-Subgraph-clause-goes
returns-in-Subgraph-clause-goes c =
    let l = c.in-Subgraph in
    let e = c.subgraph_line.ensures in
    told c.args.known.now c.args.machine c.subgraph_line.result _ c.args.says l.is
    (subgraph_leads c.args.known.now c.args.machine c.subgraph_line.result l.name e.clean e.begins)

pub returns-in-Import-clause-goes : goal.returns-in-Import-clause-goes
returns-in-Import-clause-goes c =
    let l = c.in-Import in
    let e = c.import_line.ensures in
    told c.args.known.now c.args.machine c.import_line.result _ c.args.says l.is
    (import_leads c.args.known.now c.args.machine c.import_line.result l.ty l.name e.clean e.imports)

pub returns-in-Open-clause-goes : goal.returns-in-Open-clause-goes
returns-in-Open-clause-goes c =
    let l = c.in-Open in
    let e = c.open_line.ensures in
    told c.args.known.now c.args.machine c.open_line.result _ c.args.says l.is
    (open_leads c.args.known.now c.args.machine c.open_line.result l.rest e.clean e.opens)

pub returns-clause-goes : goal.returns-clause-goes
returns-clause-goes c =
    let l = c.in-Close in
    let e = c.close_line.ensures in
    told c.args.known.now c.args.machine c.close_line.result _ c.args.says l.is
    (close_leads c.args.known.now c.args.machine c.close_line.result l.label l.op l.count c.new-in-Close.result l.assoc l.before l.name e.clean e.closes)

pub returns-in-Node-clause-turns : goal.returns-in-Node-clause-turns
returns-in-Node-clause-turns c =
    let l = c.in-Node in
    is_said c.args.known.now c.args.machine c.args.line c.node_line.result _ c.args.says l.is
    (node_said c.args.known.now c.args.machine c.args.line c.node_line.result l.label l.op c.new.result c.new-in-Node.result l.before l.name c.node_line.ensures.turns)

pub returns-in-Edge-clause-turns : goal.returns-in-Edge-clause-turns
returns-in-Edge-clause-turns c = is_said c.args.known.now c.args.machine c.args.line c.edge_line.result _ c.args.says c.in-Edge.is c.edge_line.ensures.turns

pub returns-in-Literal-clause-turns : goal.returns-in-Literal-clause-turns
returns-in-Literal-clause-turns c =
    is_said c.args.known.now c.args.machine c.args.line c.edge_line-in-Literal.result _ c.args.says c.in-Literal.is c.edge_line-in-Literal.ensures.turns

pub returns-in-Function-clause-turns : goal.returns-in-Function-clause-turns
returns-in-Function-clause-turns c =
    is_said c.args.known.now c.args.machine c.args.line c.function_line.result _ c.args.says c.in-Function.is c.function_line.ensures.turns

pub returns-in-Subgraph-clause-turns : goal.returns-in-Subgraph-clause-turns
returns-in-Subgraph-clause-turns c =
    is_said c.args.known.now c.args.machine c.args.line c.subgraph_line.result _ c.args.says c.in-Subgraph.is c.subgraph_line.ensures.turns

pub returns-in-Import-clause-turns : goal.returns-in-Import-clause-turns
returns-in-Import-clause-turns c = is_said c.args.known.now c.args.machine c.args.line c.import_line.result _ c.args.says c.in-Import.is c.import_line.ensures.turns

pub returns-in-Open-clause-turns : goal.returns-in-Open-clause-turns
returns-in-Open-clause-turns c =
    let l = c.in-Open in
    is_said c.args.known.now c.args.machine c.args.line c.open_line.result _ c.args.says l.is
    (open_said c.args.known.now c.args.machine c.args.line c.open_line.result l.rest c.open_line.ensures.turns)

pub returns-clause-turns : goal.returns-clause-turns
returns-clause-turns c =
    let l = c.in-Close in
    is_said c.args.known.now c.args.machine c.args.line c.close_line.result _ c.args.says l.is
    (close_said c.args.known.now c.args.machine c.args.line c.close_line.result l.label l.op l.count c.new-in-Close.result l.assoc l.before l.name c.close_line.ensures.turns)
