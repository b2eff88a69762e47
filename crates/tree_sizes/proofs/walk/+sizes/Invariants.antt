use Rattle.std.proofs.Common.{◌≡◌, ℕ, ◌+◌, ◌*◌, ◌≤◌, length, drop, map}
use Rattle.lowered_sizes.specs.declared.sizes.Sizes.{Sizes}
use Rattle.lowered_sizes.specs.Counting.{beside, parts}
use Rattle.lowered_sizes.specs.Forms.{all_sized, arms_sized, defs_sized, clauses_sized, extras_sized, phrase_sized}
use Rattle.tree_sizes.specs.Capped.{Keeps, KeepsSizes}
use Rattle.tree_sizes.specs.Phrases.{phrases, lists}
use Rattle.tree_sizes.specs.Clauses.{places_left}
use Rattle.lowering.specs.Loops.{loop_name, unless_places}
use Rattle.tree_sizes.proofs.walk.+sizes.Given as goal

abbrev pub decreases-expr : goal.decreases-expr
decreases-expr l = 8 * goal.size-expr l + 2

abbrev pub decreases-kind : goal.decreases-kind
decreases-kind l = 8 * goal.size-kind l + 1

abbrev pub decreases-generators_loop : goal.decreases-generators_loop
decreases-generators_loop l = 8 * goal.size-generators_loop l + 0

abbrev pub decreases-turns_loop : goal.decreases-turns_loop
decreases-turns_loop l = 8 * goal.size-turns_loop l + 0

abbrev pub decreases-exprs : goal.decreases-exprs
decreases-exprs l = 8 * goal.size-exprs l + 3

abbrev pub decreases-defs : goal.decreases-defs
decreases-defs l = 8 * goal.size-defs l + 4

abbrev pub decreases-follow : goal.decreases-follow
decreases-follow l = 8 * goal.size-follow l + 4

abbrev pub decreases-arms : goal.decreases-arms
decreases-arms l = 8 * goal.size-arms l + 4

abbrev pub decreases-clauses : goal.decreases-clauses
decreases-clauses l = 8 * goal.size-clauses l + 3

abbrev pub decreases-collect : goal.decreases-collect
decreases-collect l = 8 * goal.size-collect l + 4

abbrev pub decreases-row : goal.decreases-row
decreases-row l = 8 * goal.size-row l + 3

-- the expressions from this place on have their sizes
abbrev pub invariant-exprs-loop-at : goal.invariant-exprs-loop-at
invariant-exprs-loop-at l = (l.at ≤ length l.parts) × ((n : ℕ) → Keeps l.names n → KeepsSizes l.all (all_sized (phrases l.types (drop l.at l.parts)) n))

abbrev pub decreases-exprs-loop-at : goal.decreases-exprs-loop-at
decreases-exprs-loop-at l = l.at

-- the definitions so far have sizes, and those that are left decide the whole
abbrev pub invariant-defs-loop-list : goal.invariant-defs-loop-list
invariant-defs-loop-list l =
    (n : ℕ) → Keeps l.names n
    → (s : Sizes) × KeepsSizes l.all s × (defs_sized (lists l.types l.definitions) n ≡ beside s (defs_sized (lists l.types (drop l.list-index l.definitions)) (n + s.values)))

-- the arms from this place on have their sizes
abbrev pub invariant-arms-loop-at : goal.invariant-arms-loop-at
invariant-arms-loop-at l = (l.at ≤ length l.bodies) × ((n : ℕ) → Keeps l.names n → KeepsSizes l.all (parts (arms_sized l.case l.at (lists l.types (drop l.at l.bodies)) n)))

abbrev pub decreases-arms-loop-at : goal.decreases-arms-loop-at
decreases-arms-loop-at l = l.at

-- the clauses so far have sizes, and those that are left decide the whole
abbrev pub invariant-clauses-loop-e : goal.invariant-clauses-loop-e
invariant-clauses-loop-e l =
    (n : ℕ) → Keeps l.names n
    → (s : Sizes) × KeepsSizes l.all s
    × (all_sized (clauses_sized (unless_places l.forms) (phrases l.types l.parts)) n ≡ beside s (all_sized (clauses_sized (places_left l.forms l.place) (phrases l.types (drop l.e-index l.parts))) n))

-- what was collected so far has sizes, and what is left decides the whole
abbrev pub invariant-row-loop-e : goal.invariant-row-loop-e
invariant-row-loop-e l =
    (n k : ℕ) → Keeps l.around n → Keeps l.count k
    → (s : Sizes) × KeepsSizes l.all s
    × (all_sized (extras_sized (loop_name n k) (unless_places l.forms) (map (phrase_sized l.types) l.parts)) (n + k)
    ≡ beside s (all_sized (extras_sized (loop_name n k) (places_left l.forms l.place) (map (phrase_sized l.types) (drop l.e-index l.parts))) (n + k)))
