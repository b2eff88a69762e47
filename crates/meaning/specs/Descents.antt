-- A second way to bound the depth of a loop: the parts of each turn go one depth less than those of the turn before, as the body
-- of a function goes one depth less than its call.
use Rattle.std.specs.Prelude.{ℕ, zero, suc, Bool, List, ◌++◌, map, None}
use Rattle.flow_value.specs.declared.value.Val.{Val}
use Rattle.typed_tree.specs.declared.expr.TypedExpr.{TypedExpr}
use Rattle.typed_tree.specs.declared.expr.Turns.{Turns}
use Rattle.typed_tree.specs.declared.program.Function.{Function}
use Rattle.meaning.specs.Timed.{Timed, andthen}
use Rattle.meaning.specs.Words.{test_of, goes_on}
use Rattle.meaning.specs.Meaning.{Gives, Members, turned, turn, turns, meaning, meanings}

-- the turns of a loop, with what its test and its definitions give at each depth
abbrev pub descending : ℕ → Bool → (ℕ → Gives) → (ℕ → List Val → Gives) → List Val → List Val → Timed Members
descending zero u tests next env l = None
descending (suc n) u tests next env l = andthen (tests n (env ++ l)) (λ ts. turn (descending n u tests next env) (next n env) l (goes_on u (test_of ts)))

-- the turns of a loop with this test and these definitions, at most n and their parts to a depth
abbrev pub turns_to : ℕ → ℕ → List Function → Turns → List TypedExpr → List (List TypedExpr) → List Val → List Val → Timed Members
turns_to n depth p t test defs env l = turns n t.is_until (meanings depth p test) (turned t (map (map (meaning depth p)) defs)) env l

-- the same turns with parts that go one depth less at each turn
abbrev pub turns_down : ℕ → List Function → Turns → List TypedExpr → List (List TypedExpr) → List Val → List Val → Timed Members
turns_down n p t test defs env l = descending n t.is_until (λ d. meanings d p test) (λ d. turned t (map (map (meaning d p)) defs)) env l
