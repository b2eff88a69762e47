use Rattle.std.proofs.Common.{ℕ, refl, sym, ap, ◌∙◌, append-nil, arith}
use Rattle.std.proofs.lemmas.List.{length-map}
use Rattle.if1_graph.specs.declared.graph.Node.{Node}
use Rattle.if1_read.specs.Made.{lined_nodes, edges_of}
use Rattle.if1_read.specs.Sheets.{marks_of}
use Rattle.if1_read.proofs.Paging.{node_kept, node_ruled}
use Rattle.if1_read.proofs.Pushing.{seconds_push}
use Rattle.if1_read.proofs.level.with_node.Goals as goal

pub returns-clause-gains : goal.returns-clause-gains
returns-clause-gains c = λ clean. record {
  gains = record {
    old = c.in-Some.part;
    new = _;
    was = c.in-Some.is;
    now = refl;
    graphs = refl;
    nodes = ap lined_nodes c.in_ok-push.ensures.items ∙ seconds_push c.in-Some.part.nodes.items (c.args.line, c.args.node);
    edges = sym (append-nil (edges_of c.in-Some.part));
    exported_is = refl;
    fun_is = refl;
    name_is = refl;
  };
  op = c.wrong_node-wrong.ensures.op clean;
  room = omega (arith, length-map c.in-Some.part.nodes.items (λ (n : ℕ × Node). n.1), c.len.ensures, c.wrong_node-wrong.ensures.room clean);
}

pub returns-clause-sheet : goal.returns-clause-sheet
returns-clause-sheet c =
    let level = c.args.level in
    node_kept level.graphs level.part c.in-Some.part c.in-Some.is c.args.line c.args.node c.in_ok-push.ensures.items

pub returns-clause-wrong : goal.returns-clause-wrong
returns-clause-wrong c =
    let level = c.args.level in
    node_ruled level.graphs level.part c.in-Some.part c.in-Some.is c.wrong_node-wrong.result (marks_of c.args.node).1 c.len.result (omega (arith, c.len.ensures)) c.wrong_node-wrong.ensures.is
