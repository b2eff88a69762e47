-- The order of edges by the nodes to which they lead.
use Rattle.std.specs.Prelude.{ℕ, ◌==◌, ◌&&◌, ◌||◌, not, Bool, nat_lt}

-- labels rise, and the boundary, 0, is last
abbrev pub stands_before : ℕ → ℕ → Bool
stands_before a b = not (a == 0) && ((b == 0) || nat_lt a b)
