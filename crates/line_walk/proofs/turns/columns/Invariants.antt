use Rattle.std.proofs.Common.{◌≡◌, ℕ, ◌++◌, map, drop}
use Rattle.lowering.specs.Loops.{loop_name}
use Rattle.line_types.specs.Traces.{carried_at, collected, phrase}
use Rattle.line_walk.proofs.turns.columns.Given as goal

-- those that are left are those from some place on
abbrev pub invariant-loop-e : goal.invariant-loop-e
invariant-loop-e l =
    (next : ℕ) × (l.left ≡ drop next l.multiples)
    × (l.columns ++ map (carried_at l.multiples) (collected (loop_name l.around l.count) next l.flags (map (phrase l.types) (drop l.e-index l.es)))
    ≡ map (carried_at l.multiples) (collected (loop_name l.around l.count) l.count l.masks (map (phrase l.types) l.es)))
