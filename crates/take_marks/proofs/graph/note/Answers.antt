use Rattle.std.proofs.Common.{◌∙◌, subst, sym, refl, Contains}
use Rattle.std.proofs.lemmas.Result.{IfOk-weaker}
use Rattle.if1_graph.specs.declared.graph.Graph.TheViews.{out-Graph}
use Rattle.take_marks.specs.Judged.{IsRow}
use Rattle.take_marks.proofs.Arranged.{users-row, users-there}
use Rattle.take_marks.proofs.graph.note.Goals as goal

pub judge-requires-clause-node : goal.judge-requires-clause-node
judge-requires-clause-node c ne = subst (λ ls. Contains ls c.args.edge.now.node) (sym c.requires.labels) (c.requires.shape.there c.args.edge.now c.requires.there ne)

pub judge-requires-clause-users : goal.judge-requires-clause-users
judge-requires-clause-users c =
    users-there c.args.graph.now c.args.labels.now c.users_of-port.result.now c.args.edge.now.from c.requires.shape c.requires.labels (c.users_of-port.ensures (out-Graph c.args.graph.now).edges c.requires.users)

pub returns-clause-noted : goal.returns-clause-noted
returns-clause-noted c =
    let is = c.users_of-port.ensures (out-Graph c.args.graph.now).edges c.requires.users in
    IfOk-weaker c.judge.result _ _
    (λ y h may os ok flag sound stands.
    h c.args.graph.now may os c.args.edge.now c.requires.labels
    (record {
      markable = ok;
      rising = c.requires.shape.rising;
      sources = c.requires.shape.sources;
      sound = sound;
      there = c.requires.there;
      may_take = flag ∙ c.if-not-may.false;
      leads = refl;
      users_are = is;
      row = subst IsRow (sym is) (users-row (out-Graph c.args.graph.now).edges c.args.edge.now.from c.requires.shape.arranged);
    })
    stands)
    c.judge.ensures.judged
