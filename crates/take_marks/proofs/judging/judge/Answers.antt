use Rattle.std.proofs.Common.{◌∙◌, subst, sym, refl, Contains, false, arith}
use Rattle.if1_marks.proofs.Tests.{no-both}
use Rattle.take_marks.proofs.Weighed.{nth}
use Rattle.std.proofs.lemmas.Result.{IfOk-weaker}
use Rattle.take_marks.proofs.Answered.{judged-twice, judged-last, judged-stopped, judged-tried, are-others, others-there, others-other}
use Rattle.take_marks.proofs.judging.judge.Goals as goal

pub returns-then-is_twice-clause-judged : goal.returns-then-is_twice-clause-judged
returns-then-is_twice-clause-judged c = λ g may os e same w stands.
    judged-twice g may os e c.args.users.now c.args.node w c.args.lists.now.items c.args.befores.now.items (sym c.is_twice.ensures ∙ c.if-is_twice.true) stands

pub returns-then-node-eq0-clause-judged : goal.returns-then-node-eq0-clause-judged
returns-then-node-eq0-clause-judged c = λ g may os e same w stands.
    judged-last g may os e c.args.users.now c.args.node w c.args.lists.now.items c.args.befores.now.items (sym c.is_twice.ensures ∙ c.if-is_twice.false) c.if-node-eq0.true stands

pub returns-then-has_boundary-clause-judged : goal.returns-then-has_boundary-clause-judged
returns-then-has_boundary-clause-judged c = λ g may os e same w stands.
    judged-stopped g may os e c.args.users.now c.args.node w c.args.lists.now.items c.args.befores.now.items (sym c.is_twice.ensures ∙ c.if-is_twice.false) c.if-node-eq0.false c.as_slice.result.now c.in_ok-path.path
    (c.as_slice.ensures ∙ c.in_ok-others.ensures) (c.if-has_boundary.ensures.0 refl) c.in_ok-path.ensures stands

pub try_node-requires-clause-others : goal.try_node-requires-clause-others
try_node-requires-clause-others c =
    others-there c.args.labels.now c.args.users.now c.as_slice-2.result.now c.args.node c.requires.users (c.as_slice-2.ensures ∙ c.in_ok-others.ensures)
    (λ x. no-both false (c.if-has_boundary.ensures.1 (subst (λ xs. Contains xs 0) (c.as_slice-2.ensures ∙ sym c.as_slice.ensures) x)) refl)

pub try_node-requires-clause-another : goal.try_node-requires-clause-another
try_node-requires-clause-another c = others-other c.args.users.now c.as_slice-2.result.now c.args.node (c.as_slice-2.ensures ∙ c.in_ok-others.ensures)

pub returns-clause-judged : goal.returns-clause-judged
returns-clause-judged c =
    IfOk-weaker c.try_node.result _ _
    (λ y h g may os e same w stands.
    let tw = sym c.is_twice.ensures ∙ c.if-is_twice.false in
    let is = c.as_slice-2.ensures ∙ c.in_ok-others.ensures in
    let none : ¬ Contains c.as_slice-2.result.now 0 = λ x. no-both false (c.if-has_boundary.ensures.1 (subst (λ xs. Contains xs 0) (c.as_slice-2.ensures ∙ sym c.as_slice.ensures) x)) refl in
    judged-tried g may os e c.args.users.now c.args.node w tw c.if-node-eq0.false c.as_slice-2.result.now is none c.try_node.new.lists.items c.try_node.new.befores.items y
    (h g may os same w.markable
    (are-others g may os e c.args.users.now c.args.node w tw c.if-node-eq0.false c.as_slice-2.result.now is none (λ l i. let n = nth c.args.users.now l i in let f = c.type_inv.users n.0 in omega (arith, f, n.2))) stands))
    c.try_node.ensures.tried
