use Rattle.std.proofs.Common.{refl, sym, ap, ◌∙◌, append-nil}
use Rattle.if1_read.specs.Made.{lined_edges, nodes_of}
use Rattle.if1_read.specs.Rulings.{rules_of}
use Rattle.if1_read.proofs.Paging.{edge_kept, edge_ruled}
use Rattle.if1_read.proofs.Pushing.{seconds_push}
use Rattle.if1_read.proofs.level.with_edge.Goals as goal

pub returns-clause-gains : goal.returns-clause-gains
returns-clause-gains c = λ clean sound. record {
  gains = record {
    old = c.in-Some.part;
    new = _;
    was = c.in-Some.is;
    now = refl;
    graphs = refl;
    nodes = sym (append-nil (nodes_of c.in-Some.part));
    edges = ap lined_edges c.in_ok-push.ensures.items ∙ seconds_push c.in-Some.part.edges.items (c.args.line, c.args.edge);
    exported_is = refl;
    fun_is = refl;
    name_is = refl;
  };
  clear = c.wrong-wrong.ensures.clear clean sound;
}

pub returns-clause-sheet : goal.returns-clause-sheet
returns-clause-sheet c =
    let level = c.args.level in
    edge_kept level.graphs level.part c.in-Some.part c.in-Some.is c.args.line c.args.edge c.in_ok-push.ensures.items

pub returns-clause-wrong : goal.returns-clause-wrong
returns-clause-wrong c = λ sound.
    let level = c.args.level in
    edge_ruled level.graphs level.part c.in-Some.part c.in-Some.is c.wrong-wrong.result (rules_of c.args.known.now) c.args.edge.ty (c.wrong-wrong.ensures.is sound)
