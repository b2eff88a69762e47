use Rattle.std.proofs.Common.{◌≡◌, ◌++◌, List, drop}
use Rattle.sisal_tree.specs.declared.unit.Named.{Named}
use Rattle.typed_tree.specs.Typing.{names_of}
use Rattle.unit_types.proofs.name_set.first_twice.Given as goal

-- the names so far, with those that are left
abbrev pub invariant-loop-named : goal.invariant-loop-named
invariant-loop-named l = record {
  names : l.seen ++ names_of (drop l.named-index l.names) ≡ l.fn.seen ++ names_of l.names;
  named : (before : List Named) → names_of before ≡ l.fn.seen → (xs : List Named) × (names_of xs ≡ l.seen) × (xs ++ drop l.named-index l.names ≡ before ++ l.names);
}
