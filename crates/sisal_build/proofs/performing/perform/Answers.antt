-- Each arm is one topic.
use Rattle.std.proofs.Common.{◌≡◌, sym}
use Rattle.sisal_expr_acts.specs.Actions.{case_action, compound_action, expr_action, selector_action}
use Rattle.sisal_unit_acts.specs.Actions.{clause_action, def_action, loop_action, type_action, unit_action}
use Rattle.sisal_build.proofs.performing.perform.Goals as goal

pub returns-in-Unit : goal.returns-in-Unit
returns-in-Unit c =
    let same : c.args.action ≡ unit_action c.in-Unit.act = sym c.in-Unit.ensures in
    rw same c.perform_unit.ensures

pub returns-in-Type : goal.returns-in-Type
returns-in-Type c =
    let same : c.args.action ≡ type_action c.in-Type.act = sym c.in-Type.ensures in
    rw same c.perform_type.ensures

pub returns-in-Def : goal.returns-in-Def
returns-in-Def c =
    let same : c.args.action ≡ def_action c.in-Def.act = sym c.in-Def.ensures in
    rw same c.perform_def.ensures

pub returns-in-Loop : goal.returns-in-Loop
returns-in-Loop c =
    let same : c.args.action ≡ loop_action c.in-Loop.act = sym c.in-Loop.ensures in
    rw same c.perform_loop.ensures

pub returns-in-Clause : goal.returns-in-Clause
returns-in-Clause c =
    let same : c.args.action ≡ clause_action c.in-Clause.act = sym c.in-Clause.ensures in
    rw same c.perform_clause.ensures

pub returns-in-Expr : goal.returns-in-Expr
returns-in-Expr c =
    let same : c.args.action ≡ expr_action c.in-Expr.act = sym c.in-Expr.ensures in
    rw same c.perform_expr.ensures

pub returns-in-Selector : goal.returns-in-Selector
returns-in-Selector c =
    let same : c.args.action ≡ selector_action c.in-Selector.act = sym c.in-Selector.ensures in
    rw same c.perform_selector.ensures

pub returns-in-Compound : goal.returns-in-Compound
returns-in-Compound c =
    let same : c.args.action ≡ compound_action c.in-Compound.act = sym c.in-Compound.ensures in
    rw same c.perform_compound.ensures

pub returns-in-Case : goal.returns-in-Case
returns-in-Case c =
    let same : c.args.action ≡ case_action c.in-Case.act = sym c.in-Case.ensures in
    rw same c.perform_case.ensures
