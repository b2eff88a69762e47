use Rattle.std.proofs.Common.{◌≡◌, ℕ, ◌+◌, ◌-◌, ◌≤◌, None, get_or, vec_len}
use Rattle.name_scope.proofs.make_place.Given as goal

abbrev pub invariant-loop-newest : goal.invariant-loop-newest
invariant-loop-newest l = ((x : ℕ) → get_or l.newest.items x None ≡ get_or l.initial.newest.items x None) × (vec_len l.initial.newest ≤ vec_len l.newest)

abbrev pub decreases-loop-newest : goal.decreases-loop-newest
decreases-loop-newest l = l.name + 1 - vec_len l.newest
