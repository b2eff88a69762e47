-- Which action each task is.
use Rattle.sisal_grammar.specs.declared.action.Action.{Action}
use Rattle.sisal_expr_acts.specs.Actions.{case_action, compound_action, expr_action, selector_action}
use Rattle.sisal_unit_acts.specs.Actions.{clause_action, def_action, loop_action, type_action, unit_action}
use Rattle.sisal_build.specs.declared.task.Task.{Task}
use Rattle.sisal_build.specs.declared.task.Task.TheVariants as task

abbrev pub task_action : Task → Action
task_action (task.Unit a) = unit_action a
task_action (task.Type a) = type_action a
task_action (task.Def a) = def_action a
task_action (task.Loop a) = loop_action a
task_action (task.Clause a) = clause_action a
task_action (task.Expr a) = expr_action a
task_action (task.Selector a) = selector_action a
task_action (task.Compound a) = compound_action a
task_action (task.Case a) = case_action a
