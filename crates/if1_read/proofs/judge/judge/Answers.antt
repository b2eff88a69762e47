use Rattle.std.proofs.Common.{◌≡◌, subst}
use Rattle.std.proofs.lemmas.Result.{IfOk-weaker}
use Rattle.if1_graph.specs.Kinds.{kind_at, basic_at}
use Rattle.if1_read.specs.Faults.{literal_fault}
use Rattle.if1_read.specs.Known.{IsJudgedAs, IsJudged}
use Rattle.if1_read.specs.Verdicts.{verdict}
use Rattle.if1_read.proofs.Judging.{judged}
use Rattle.if1_read.proofs.Verdicts.{found_there, found_not_clear}
use Rattle.if1_read.proofs.judge.judge.Goals as goal

pub returns-in-Some-clause-right : goal.returns-in-Some-clause-right
returns-in-Some-clause-right c =
    let k = c.args.known.now in
    let e = c.in-Some.entry.now in
    let w = c.want_of-want.result in
    IfOk-weaker _ (λ j. IsJudgedAs k.names w c.args.text (kind_at e.code) (basic_at e.first) j) _
    (λ j as_it_is sound is up. subst (λ w. IsJudged k w c.args.ty c.args.text j) (c.want_of-want.ensures is up) (judged k w c.args.ty c.args.text e j (c.in-Some.ensures sound) as_it_is))
    c.of_type.ensures.right

pub returns-then-not-is_clear-clause-found : goal.returns-then-not-is_clear-clause-found
returns-then-not-is_clear-clause-found c = λ sound _ _.
    found_not_clear c.args.known.now c.args.nodes.now (record { node = c.args.node; port = c.args.port; ty = c.args.ty; text = c.args.text })
    c.is_clear.result sound c.is_clear.ensures c.if-not-is_clear.true

pub returns-in-Some-clause-found : goal.returns-in-Some-clause-found
returns-in-Some-clause-found c =
    let k = c.args.known.now in
    let e = c.in-Some.entry.now in
    let w = c.want_of-want.result in
    IfOk-weaker _ (λ j. verdict j ≡ literal_fault k.names w c.args.text (kind_at e.code) (basic_at e.first)) _
    (λ j is_so sound is up.
    found_there k c.args.nodes.now w (record { node = c.args.node; port = c.args.port; ty = c.args.ty; text = c.args.text }) e j
    ((c.is_clear.ensures sound).0 c.if-not-is_clear.false) (c.want_of-want.ensures is up) (c.in-Some.ensures sound) is_so)
    c.of_type.ensures.found
