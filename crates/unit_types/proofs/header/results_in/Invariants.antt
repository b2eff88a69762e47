use Rattle.std.proofs.Common.{◌≡◌, ◌≤◌, ◌-◌, ℕ, List, drop, length}
use Rattle.flow_value.specs.declared.ty.Ty.{Ty}
use Rattle.sisal_tree.specs.declared.unit.Unit as tree
use Rattle.unit_types.specs.Headers.{AreResultsTo}
use Rattle.unit_types.specs.Rests.{AreTokensSpelled, HasNames, IsUsed}
use Rattle.unit_types.proofs.header.results_in.Given as goal

-- the types so far, with those that are left
abbrev pub invariant-loop-ty : goal.invariant-loop-ty
invariant-loop-ty l = record {
  many : l.ty-index ≤ length l.results;
  used : IsUsed l.tokens l.fn.types l.types;
  are : (u : tree.Unit) (known_types : List (ℕ × Ty)) → u.tokens.list ≡ l.tokens → AreTokensSpelled u.tokens.names l.tokens
      → HasNames u.tokens.names l.fn.types (drop (length l.named - l.known) l.named) known_types → AreResultsTo u known_types l.types l.written l.ty-index l.results;
}
