-- Rising numbers of ports, tested from the first one on.
use Rattle.std.specs.Prelude.{ℕ, suc, Bool, true, ◌&&◌, ◌==◌, nat_le, List, [], ◌∷◌}

-- the numbers are this one and those after it, without a gap
abbrev pub are_counted : ℕ → List ℕ → Bool
are_counted n [] = true
are_counted n (p ∷ ps) = (p == n) && are_counted (suc n) ps

-- each number is above the one before it, and the first one at least this
abbrev pub are_rising : ℕ → List ℕ → Bool
are_rising least [] = true
are_rising least (p ∷ ps) = nat_le least p && are_rising (suc p) ps
