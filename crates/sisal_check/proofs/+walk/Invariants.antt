-- The depth of what is walked, and below it how often that is still passed on whole.
use Rattle.std.proofs.Common.{◌≡◌, ◌≤◌, ◌+◌, ◌*◌, drop, length, map, take}
use Rattle.std.specs.Prelude.{IfSome, IsSomeAnd}
use Rattle.text_trees.specs.Spelled.{AreDefs, AreGroups, groups_levels}
use Rattle.typed_tree.specs.Breaks.{generators_in}
use Rattle.typing_laws.specs.Casing.{AddsArms}
use Rattle.typing_laws.specs.Defining.{AllDefined, targets_in}
use Rattle.typing_laws.specs.Judged.{Adds, AllOnes, AllTyped, IsUsedIn}
use Rattle.typing_laws.specs.Looping.{AllGenerated, AllValues, GroupsTyped}
use Rattle.breaking_laws.specs.Parts.{AddsResults}
use Rattle.sisal_check.specs.Walked.{given_of, parts_of, arms_of, group_of}
use Rattle.sisal_check.proofs.+walk.Given as goal

abbrev pub decreases-cases::each_arm : goal.decreases-cases::each_arm
decreases-cases::each_arm l = 5 * goal.size-cases::each_arm l + 2

abbrev pub decreases-cases::last : goal.decreases-cases::last
decreases-cases::last l = 5 * goal.size-cases::last l + 4

abbrev pub decreases-cases::one_arm : goal.decreases-cases::one_arm
decreases-cases::one_arm l = 5 * goal.size-cases::one_arm l + 1

abbrev pub decreases-cases::tag_case : goal.decreases-cases::tag_case
decreases-cases::tag_case l = 5 * goal.size-cases::tag_case l + 1

abbrev pub decreases-clauses::clause_value : goal.decreases-clauses::clause_value
decreases-clauses::clause_value l = 5 * goal.size-clauses::clause_value l + 1

abbrev pub decreases-clauses::clause_values : goal.decreases-clauses::clause_values
decreases-clauses::clause_values l = 5 * goal.size-clauses::clause_values l + 2

abbrev pub decreases-defs::def : goal.decreases-defs::def
decreases-defs::def l = 5 * goal.size-defs::def l + 1

abbrev pub decreases-defs::defs : goal.decreases-defs::defs
decreases-defs::defs l = 5 * goal.size-defs::defs l + 2

abbrev pub decreases-generators::generator : goal.decreases-generators::generator
decreases-generators::generator l = 5 * goal.size-generators::generator l + 1

abbrev pub decreases-generators::groups : goal.decreases-generators::groups
decreases-generators::groups l = 5 * goal.size-generators::groups l + 3

abbrev pub decreases-generators::one_group : goal.decreases-generators::one_group
decreases-generators::one_group l = 5 * goal.size-generators::one_group l + 2

abbrev pub decreases-lists::all : goal.decreases-lists::all
decreases-lists::all l = 5 * goal.size-lists::all l + 3

abbrev pub decreases-lists::fields : goal.decreases-lists::fields
decreases-lists::fields l = 5 * goal.size-lists::fields l + 1

abbrev pub decreases-lists::many : goal.decreases-lists::many
decreases-lists::many l = 5 * goal.size-lists::many l + 2

abbrev pub decreases-lists::one : goal.decreases-lists::one
decreases-lists::one l = 5 * goal.size-lists::one l + 2

abbrev pub decreases-lists::only : goal.decreases-lists::only
decreases-lists::only l = 5 * goal.size-lists::only l + 3

abbrev pub decreases-loops::looped : goal.decreases-loops::looped
decreases-loops::looped l = 5 * goal.size-loops::looped l + 1

abbrev pub decreases-turns::turn_defs : goal.decreases-turns::turn_defs
decreases-turns::turn_defs l = 5 * goal.size-turns::turn_defs l + 3

abbrev pub decreases-turns::turn_of : goal.decreases-turns::turn_of
decreases-turns::turn_of l = 5 * goal.size-turns::turn_of l + 1

abbrev pub decreases-typed::applied : goal.decreases-typed::applied
decreases-typed::applied l = 5 * goal.size-typed::applied l + 2

abbrev pub decreases-typed::elements_of : goal.decreases-typed::elements_of
decreases-typed::elements_of l = 5 * goal.size-typed::elements_of l + 1

abbrev pub decreases-typed::operands : goal.decreases-typed::operands
decreases-typed::operands l = 5 * goal.size-typed::operands l + 1

abbrev pub decreases-typed::plain : goal.decreases-typed::plain
decreases-typed::plain l = 5 * goal.size-typed::plain l + 0

abbrev pub decreases-typed::typed : goal.decreases-typed::typed
decreases-typed::typed l = 5 * goal.size-typed::typed l + 1

-- ---- what the loops keep

abbrev pub invariant-lists::many-loop-e : goal.invariant-lists::many-loop-e
invariant-lists::many-loop-e l = record {
  used : IsUsedIn (given_of l.given) l.fn.walk.types l.walk.types;
  names : l.walk.names ≡ l.fn.walk.names;
  adds : Adds (parts_of l.fn.parts) (parts_of l.parts) (AllTyped (given_of l.given) l.walk.types l.fn.walk.names (take l.e-index l.es));
  some : length l.fn.parts.types + l.e-index ≤ length l.parts.types;
}

abbrev pub invariant-lists::fields-loop-v : goal.invariant-lists::fields-loop-v
invariant-lists::fields-loop-v l = record {
  used : IsUsedIn (given_of l.given) l.fn.walk.types l.walk.types;
  names : l.walk.names ≡ l.fn.walk.names;
  adds : Adds (parts_of l.fn.parts) (parts_of l.parts) (AllOnes (given_of l.given) l.walk.types l.fn.walk.names (map (λ v. v.value) (take l.v-index l.vs)));
}

abbrev pub invariant-clauses::clause_values-loop-c : goal.invariant-clauses::clause_values-loop-c
invariant-clauses::clause_values-loop-c l = record {
  used : IsUsedIn (given_of l.given) l.fn.walk.types l.walk.types;
  names : l.walk.names ≡ l.fn.walk.names;
  typed : AllValues (given_of l.given) l.walk.types l.fn.walk.names (take l.c-index l.cs) l.values.exprs l.values.types;
  count : length l.values.types ≡ l.c-index;
}

-- the names of definitions so far came into force
abbrev pub invariant-defs::defs-loop-d : goal.invariant-defs::defs-loop-d
invariant-defs::defs-loop-d l = record {
  used : IsUsedIn (given_of l.given) l.fn.walk.types l.walk.types;
  typed : AllDefined (given_of l.given) l.walk.types l.fn.walk.names l.walk.names l.turn (take l.d-index l.ds) l.defined.exprs l.defined.types;
  targets : l.defined.targets ≡ targets_in l.ds;
  height : l.walk.names.height ≡ l.fn.walk.names.height + length l.defined.types;
  spelled : AreDefs l.given.tokens.now (length l.given.spellings.now) l.walk.names.height (drop l.d-index l.ds);
}

abbrev pub invariant-generators::groups-loop-g : goal.invariant-generators::groups-loop-g
invariant-generators::groups-loop-g l = record {
  used : IsUsedIn (given_of l.given) l.fn.walk.types l.walk.types;
  typed : GroupsTyped (given_of l.given) l.walk.types l.fn.walk.names (take l.g-index l.gs) (map group_of l.goes) l.walk.names;
  spelled : AreGroups l.given.tokens.now (length l.given.spellings.now) l.walk.names.height (drop l.g-index l.gs);
  height : l.walk.names.height + groups_levels (drop l.g-index l.gs) ≡ l.fn.walk.names.height + groups_levels l.gs;
}

-- the names of generators so far are the first ones
abbrev pub invariant-generators::one_group-loop-g : goal.invariant-generators::one_group-loop-g
invariant-generators::one_group-loop-g l = record {
  used : IsUsedIn (given_of l.given) l.fn.walk.types l.walk.types;
  names : l.walk.names ≡ l.fn.walk.names;
  typed : AllGenerated (given_of l.given) l.walk.types l.fn.walk.names (take l.g-index l.gs) (group_of l.made);
  front : l.made.names ≡ generators_in (take l.g-index l.gs);
  even : length l.made.types ≡ length l.made.names;
}

abbrev pub invariant-cases::each_arm-loop-arm : goal.invariant-cases::each_arm-loop-arm
invariant-cases::each_arm-loop-arm l = record {
  used : IsUsedIn (given_of l.given) l.fn.walk.types l.walk.types;
  names : l.walk.names ≡ l.fn.walk.names;
  adds : AddsArms (given_of l.given) l.fn.walk.types l.walk.types l.fn.walk.names (take l.arm-index l.arms) (arms_of l.fn.done) (arms_of l.done);
  results : AddsResults (given_of l.given) l.fn.walk.types l.walk.types l.fn.walk.names (take l.arm-index l.arms) (arms_of l.fn.done) (arms_of l.done);
  some : IfSome l.fn.done.types (λ ns. 1 ≤ length ns) → IfSome l.done.types (λ ns. 1 ≤ length ns) × (1 ≤ l.arm-index → IsSomeAnd l.done.types (λ ns. 1 ≤ length ns));
  count : length l.done.results ≡ length l.fn.done.results + l.arm-index;
}
