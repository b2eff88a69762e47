-- A list in another order.
use Rattle.std.specs.Prelude.{◌≡◌, ℕ, ◌==◌, List, filter}
use Rattle.std.specs.List.Sorted.{IsPermutation}

-- the same, where those of each key stand in the order that they had
pub record IsArranged {X : Type 0} (key : X → ℕ) (xs ys : List X) : Type 0 where
  pub these : IsPermutation xs ys
  pub same : (l : ℕ) → filter (λ x. key x == l) ys ≡ filter (λ x. key x == l) xs
