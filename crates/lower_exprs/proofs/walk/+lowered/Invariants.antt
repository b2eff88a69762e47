use Rattle.std.proofs.Common.{◌≡◌, ◌+◌, ◌*◌, drop}
use Rattle.lowering.specs.Operations.{all_lowered}
use Rattle.lowering.specs.Loops.{clauses_lowered, loop_name, extras}
use Rattle.lowering.specs.Phrases.{each}
use Rattle.lower_exprs.specs.Phrased.{phrases, alls, all_defs, arms_in, Grows}
use Rattle.lower_nodes.proofs.Walks.{Going, Defining}
use Rattle.lower_exprs.proofs.Arms.{Listing}
use Rattle.lower_exprs.proofs.walk.+lowered.Given as goal

abbrev pub decreases-expr : goal.decreases-expr
decreases-expr l = 8 * goal.size-expr l + 2

abbrev pub decreases-kind : goal.decreases-kind
decreases-kind l = 8 * goal.size-kind l + 1

abbrev pub decreases-expressions : goal.decreases-expressions
decreases-expressions l = 8 * goal.size-expressions l + 3

abbrev pub decreases-call : goal.decreases-call
decreases-call l = 8 * goal.size-call l + 4

abbrev pub decreases-apply : goal.decreases-apply
decreases-apply l = 8 * goal.size-apply l + 4

abbrev pub decreases-defined : goal.decreases-defined
decreases-defined l = 8 * goal.size-defined l + 4

abbrev pub decreases-let_in : goal.decreases-let_in
decreases-let_in l = 8 * goal.size-let_in l + 0

abbrev pub decreases-part : goal.decreases-part
decreases-part l = 8 * goal.size-part l + 4

abbrev pub decreases-selector : goal.decreases-selector
decreases-selector l = 8 * goal.size-selector l + 4

abbrev pub decreases-if_else : goal.decreases-if_else
decreases-if_else l = 8 * goal.size-if_else l + 0

abbrev pub decreases-arm : goal.decreases-arm
decreases-arm l = 8 * goal.size-arm l + 4

abbrev pub decreases-arms : goal.decreases-arms
decreases-arms l = 8 * goal.size-arms l + 5

abbrev pub decreases-tag_case : goal.decreases-tag_case
decreases-tag_case l = 8 * goal.size-tag_case l + 0

-- with the phrases that are left all are made
abbrev pub invariant-expressions-loop-e : goal.invariant-expressions-loop-e
invariant-expressions-loop-e l = record {
  names : l.names ≡ l.fn.names;
  going : Going (alls l.forms l.parts l.fn.names.here) (alls l.forms (drop l.e-index l.parts) l.fn.names.here) l.fn.made l.made l.values;
}

abbrev pub invariant-defined-loop-def : goal.invariant-defined-loop-def
invariant-defined-loop-def l = record {
  names : Grows l.fn.names l.names;
  going : Defining (all_defs l.forms l.defs l.fn.names.here) (all_defs l.forms (drop l.def-index l.defs) l.names.here) l.fn.made l.made;
}

abbrev pub invariant-arms-loop-at : goal.invariant-arms-loop-at
invariant-arms-loop-at l = record {
  names : l.names ≡ l.fn.names;
  parts : Listing (arms_in l.forms l.case l.ty 0 l.parts l.fn.names.here) (arms_in l.forms l.case l.ty l.at (drop l.at l.parts) l.fn.names.here) l.fn.made l.made l.places;
}

abbrev pub decreases-value : goal.decreases-value
decreases-value l = 8 * goal.size-value l + 3

abbrev pub decreases-clause_values : goal.decreases-clause_values
decreases-clause_values l = 8 * goal.size-clause_values l + 4

abbrev pub decreases-product : goal.decreases-product
decreases-product l = 8 * goal.size-product l + 0

abbrev pub invariant-clause_values-loop-at : goal.invariant-clause_values-loop-at
invariant-clause_values-loop-at l = record {
  names : l.names ≡ l.fn.names;
  going : Going (all_lowered (clauses_lowered l.negated (each (phrases l.forms l.parts))) l.fn.names.here)
      (all_lowered (clauses_lowered (drop l.at l.negated) (each (phrases l.forms (drop l.at l.parts)))) l.fn.names.here) l.fn.made l.made l.values;
}

abbrev pub decreases-extra : goal.decreases-extra
decreases-extra l = 8 * goal.size-extra l + 4

abbrev pub decreases-extras : goal.decreases-extras
decreases-extras l = 8 * goal.size-extras l + 5

abbrev pub decreases-turned : goal.decreases-turned
decreases-turned l = 8 * goal.size-turned l + 6

abbrev pub decreases-tested : goal.decreases-tested
decreases-tested l = 8 * goal.size-tested l + 4

abbrev pub decreases-test_part : goal.decreases-test_part
decreases-test_part l = 8 * goal.size-test_part l + 5

abbrev pub decreases-initial : goal.decreases-initial
decreases-initial l = 8 * goal.size-initial l + 0

abbrev pub invariant-extras-loop-at : goal.invariant-extras-loop-at
invariant-extras-loop-at l = record {
  names : l.names ≡ l.fn.names;
  going : Going (all_lowered (extras (loop_name l.around l.count) l.negated (phrases l.forms l.parts)) l.fn.names.here)
      (all_lowered (extras (loop_name l.around l.count) (drop l.at l.negated) (phrases l.forms (drop l.at l.parts))) l.fn.names.here) l.fn.made l.made l.values;
}
