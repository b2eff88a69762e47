use Rattle.std.proofs.Common.{◌≡◌, ◌++◌, map, drop, take}
use Rattle.unit_types.specs.Headings.{has_body, given_functions}
use Rattle.value_names.specs.Scopes.{no_names}
use Rattle.typing_laws.specs.Judged.{IsUsedIn}
use Rattle.sisal_check.specs.Walked.{AreBodies, given_of}
use Rattle.sisal_check.specs.Headed.{HaveFirst, is_defined}
use Rattle.sisal_check.proofs.bodies.functions.Given as goal

-- what has a body, with what is left, is all; the functions so far are those of the items so far
abbrev pub invariant-loop-item : goal.invariant-loop-item
invariant-loop-item l = record {
  heads : HaveFirst l.given.functions.now l.all;
  bodies : map is_defined l.all ++ map (λ f. has_body f.kind) (given_functions (drop l.item-index l.items)) ≡ map (λ f. has_body f.kind) (given_functions l.items);
  used : IsUsedIn (given_of l.given) l.fn.walk.types l.walk.types;
  names : l.walk.names ≡ l.fn.walk.names;
  typed : l.fn.walk.names ≡ no_names → AreBodies l.given l.walk.types (map (λ f. f.kind) (given_functions (take l.item-index l.items))) l.given.functions.now l.all;
}
