use Rattle.std.proofs.Common.{◌≡◌, ◌≢◌, ◌≤◌, ℕ, drop, length}
use Rattle.type_table.specs.Forms.{first_member}
use Rattle.type_table.specs.Kept.{place_of}
use Rattle.type_table.proofs.Members.{IsNoted}
use Rattle.type_table.proofs.store.note.Given as goal

abbrev pub invariant-loop-at : goal.invariant-loop-at
invariant-loop-at l = record {
  within : l.at ≤ length l.members;
  here : (name : ℕ) → IsNoted (place_of l.places l.ty name) (first_member name l.at (drop l.at l.members));
  others : (k name : ℕ) → k ≢ l.ty → place_of l.places k name ≡ place_of l.initial.places k name;
}

abbrev pub decreases-loop-at : goal.decreases-loop-at
decreases-loop-at l = l.at
