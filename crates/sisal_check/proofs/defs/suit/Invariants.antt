use Rattle.std.proofs.Common.{◌≡◌, ◌-◌, List, drop, length}
use Rattle.type_table.specs.declared.form.Form.{Form}
use Rattle.type_rules.specs.Applies.{Grows}
use Rattle.typed_tree.specs.Typing.{names_in}
use Rattle.typing_laws.specs.Defining.{AreDeclaredAs, KeepsTurn}
use Rattle.typing_laws.specs.Judged.{IsUsedIn}
use Rattle.sisal_check.specs.Walked.{given_of}
use Rattle.sisal_check.proofs.defs.suit.Given as goal

-- what is still to be tested decides the whole
abbrev pub invariant-loop-place : goal.invariant-loop-place
invariant-loop-place l = record {
  used : IsUsedIn (given_of l.given) l.fn.walk.types l.walk.types;
  names : l.walk.names ≡ l.fn.walk.names;
  declared : (t : List Form) → Grows l.walk.types t → AreDeclaredAs (given_of l.given) t (drop l.place l.targets) (drop l.place l.types) → AreDeclaredAs (given_of l.given) t l.targets l.types;
  kept : KeepsTurn l.turn l.fn.walk.names (names_in (drop l.place l.targets)) (drop l.place l.types) → KeepsTurn l.turn l.fn.walk.names (names_in l.targets) l.types;
}

abbrev pub decreases-loop-place : goal.decreases-loop-place
decreases-loop-place l = length l.targets - l.place
