use Rattle.std.proofs.Common.{◌≡◌, ◌≤◌, ◌<◌, ◌+◌, take, All, List, Contains, length, get_or, MatchBool, false, true, subst, sym}
use Rattle.std.proofs.lemmas.List.{take_all}
use Rattle.std.proofs.lemmas.List.Elements.{All-more}
use Rattle.if1_graph.specs.declared.graph.Graph.TheViews.{out-Graph}
use Rattle.if1_graph.specs.declared.graph.Edge.{Edge}
use Rattle.if1_typing.specs.Tables.{table_of}
use Rattle.if1_typing.specs.Given.{IsApart, IsAsNoted}
use Rattle.if1_typing.proofs.Seeing.{all_agreed, one_apart}
use Rattle.if1_typing.proofs.agree.disagreeing.Goals as goal

pub returns-then-not-agrees : goal.returns-then-not-agrees
returns-then-not-agrees c =
    let t = table_of c.args.known.now in
    let m = c.args.given.now.map in
    let es = (out-Graph c.args.graph.now).edges in
    let e = c.edge-item.result in
    let there : Contains es e = subst (λ (es : List Edge). Contains es e) c.as_slice-edge-items.ensures (c.loop-edge.edge-index, c.loop-edge-test.true, sym c.edge-item.is) in
    one_apart t es m c.requires.seen e there (subst (λ b. MatchBool b (IsAsNoted t m e) (IsApart t m e)) c.if-not-agrees.true c.agrees.ensures)

pub loop-edge-preserved : goal.loop-edge-preserved
loop-edge-preserved c =
    let t = table_of c.args.known.now in
    let m = c.args.given.now.map in
    let P = IsAsNoted t m in
    let here : P c.edge-item.result = subst (λ b. MatchBool b (P c.edge-item.result) (IsApart t m c.edge-item.result)) c.if-not-agrees.false c.agrees.ensures in
    subst (λ (es : List Edge). All P (take c.loop-edge.edge-index es) → All P (take (c.loop-edge.edge-index + 1) es)) c.as_slice-edge-items.ensures
    (λ first. All-more P c.as_slice-edge-items.result.now c.loop-edge.edge-index c.edge-item.result c.loop-edge-test.true first (subst P c.edge-item.is here)) c.loop-edge.invariant

pub returns : goal.returns
returns c =
    let t = table_of c.args.known.now in
    let m = c.args.given.now.map in
    let es = (out-Graph c.args.graph.now).edges in
    all_agreed t es m c.requires.seen
    (subst (λ (es : List Edge). All (IsAsNoted t m) es)
    (take_all c.loop-edge.edge-index es
    (subst (λ (es : List Edge). length es ≤ c.loop-edge.edge-index) c.as_slice-edge-items.ensures c.loop-edge-test.false)) c.loop-edge.invariant)
