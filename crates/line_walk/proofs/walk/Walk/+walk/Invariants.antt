use Rattle.std.proofs.Common.{◌≡◌, ◌++◌, ◌+◌, ◌*◌, drop}
use Rattle.lowering.specs.Loops.{loop_name}
use Rattle.line_types.specs.Traces.{graph_lines}
use Rattle.line_labels.specs.Needs.{added}
use Rattle.line_walk.specs.Met.{exprs_met, defs_met, arms_met, clauses_met, extras_met}
use Rattle.line_walk.proofs.walk.Walk.+walk.Given as goal

abbrev pub decreases-expr : goal.decreases-expr
decreases-expr l = 8 * goal.size-expr l + 1

abbrev pub decreases-kind : goal.decreases-kind
decreases-kind l = 8 * goal.size-kind l + 0

abbrev pub decreases-exprs : goal.decreases-exprs
decreases-exprs l = 8 * goal.size-exprs l + 2

abbrev pub decreases-operands : goal.decreases-operands
decreases-operands l = 8 * goal.size-operands l + 3

abbrev pub decreases-graph : goal.decreases-graph
decreases-graph l = 8 * goal.size-graph l + 4

abbrev pub decreases-selector : goal.decreases-selector
decreases-selector l = 8 * goal.size-selector l + 5

abbrev pub decreases-call : goal.decreases-call
decreases-call l = 8 * goal.size-call l + 4

abbrev pub decreases-apply : goal.decreases-apply
decreases-apply l = 8 * goal.size-apply l + 4

abbrev pub decreases-def : goal.decreases-def
decreases-def l = 8 * goal.size-def l + 4

abbrev pub decreases-defs : goal.decreases-defs
decreases-defs l = 8 * goal.size-defs l + 5

-- what is still to be met decides the whole
abbrev pub invariant-exprs-loop-e : goal.invariant-exprs-loop-e
invariant-exprs-loop-e l = record {
  needs : added l.self.needs (exprs_met l.types (drop l.e-index l.es) l.self.names).lines ≡ added l.fn.self.needs (exprs_met l.types l.es l.fn.self.names).lines;
  values : l.values ++ (exprs_met l.types (drop l.e-index l.es) l.self.names).values ≡ l.fn.values ++ (exprs_met l.types l.es l.fn.self.names).values;
  names : l.self.names ≡ l.fn.self.names;
}

abbrev pub invariant-defs-loop-def : goal.invariant-defs-loop-def
invariant-defs-loop-def l = record {
  needs : added l.self.needs (defs_met l.types (drop l.def-index l.defs) l.self.names).lines ≡ added l.fn.self.needs (defs_met l.types l.defs l.fn.self.names).lines;
  names : (defs_met l.types (drop l.def-index l.defs) l.self.names).values ≡ (defs_met l.types l.defs l.fn.self.names).values;
}

abbrev pub decreases-arm : goal.decreases-arm
decreases-arm l = 8 * goal.size-arm l + 5

abbrev pub decreases-arms : goal.decreases-arms
decreases-arms l = 8 * goal.size-arms l + 6

abbrev pub decreases-clauses : goal.decreases-clauses
decreases-clauses l = 8 * goal.size-clauses l + 4

abbrev pub decreases-clause : goal.decreases-clause
decreases-clause l = 8 * goal.size-clause l + 3

abbrev pub decreases-with_not : goal.decreases-with_not
decreases-with_not l = 8 * goal.size-with_not l + 2

abbrev pub invariant-arms-loop-at : goal.invariant-arms-loop-at
invariant-arms-loop-at l = record {
  needs : added l.self.needs (graph_lines (arms_met l.types l.case l.ty l.at (drop l.at l.arms) l.self.names)) ≡ added l.fn.self.needs (graph_lines (arms_met l.types l.case l.ty 0 l.arms l.fn.self.names));
  names : l.self.names ≡ l.fn.self.names;
}

abbrev pub invariant-clauses-loop-e : goal.invariant-clauses-loop-e
invariant-clauses-loop-e l = record {
  needs : added l.self.needs (clauses_met l.types l.left (drop l.e-index l.es) l.self.names).lines ≡ added l.fn.self.needs (clauses_met l.types l.masks l.es l.fn.self.names).lines;
  values : l.values ++ (clauses_met l.types l.left (drop l.e-index l.es) l.self.names).values ≡ (clauses_met l.types l.masks l.es l.fn.self.names).values;
  names : l.self.names ≡ l.fn.self.names;
}

abbrev pub decreases-row : goal.decreases-row
decreases-row l = 8 * goal.size-row l + 5

abbrev pub decreases-extras : goal.decreases-extras
decreases-extras l = 8 * goal.size-extras l + 4

abbrev pub decreases-extra : goal.decreases-extra
decreases-extra l = 8 * goal.size-extra l + 3

abbrev pub decreases-test : goal.decreases-test
decreases-test l = 8 * goal.size-test l + 5

abbrev pub decreases-again : goal.decreases-again
decreases-again l = 8 * goal.size-again l + 6

abbrev pub invariant-extras-loop-e : goal.invariant-extras-loop-e
invariant-extras-loop-e l = record {
  needs : added l.self.needs (extras_met l.types (loop_name l.around l.count) l.left (drop l.e-index l.es) l.self.names).lines ≡ added l.fn.self.needs (extras_met l.types (loop_name l.around l.count) l.masks l.es l.fn.self.names).lines;
  values : l.values ++ (extras_met l.types (loop_name l.around l.count) l.left (drop l.e-index l.es) l.self.names).values ≡ l.fn.values ++ (extras_met l.types (loop_name l.around l.count) l.masks l.es l.fn.self.names).values;
  names : l.self.names ≡ l.fn.self.names;
}
