-- Who gets an ordering edge to a taker, told user by user.
use Rattle.std.specs.Prelude.{ℕ, suc, Bool, ◌||◌, List, [], ◌∷◌, ◌==◌, nat_lt, slice_index, if◌then◌else◌}
use Rattle.std.specs.List.{list_any}
use Rattle.marks_made.specs.Made.{Orders}

abbrev pub is_in : List ℕ → ℕ → Bool
is_in ls l = list_any (λ m. m == l) ls

-- an ordering edge from each user that was not looked at before and is not passed over
abbrev pub told : (ℕ → Bool) → ℕ → List ℕ → List ℕ → Orders → Orders
told skips t earlier [] new = new
told skips t earlier (l ∷ ls) new = told skips t (l ∷ earlier) ls (if is_in earlier l || skips l then new else (l, t) ∷ new)

-- the place of a label
abbrev pub place_in : List ℕ → ℕ → ℕ
place_in [] l = 0
place_in (k ∷ ks) l = if k == l then 0 else suc (place_in ks l)

-- what it leads to weighs less than its label
abbrev pub is_light : List ℕ → List ℕ → ℕ → Bool
is_light labels weights l = nat_lt (slice_index weights (place_in labels l)) l
