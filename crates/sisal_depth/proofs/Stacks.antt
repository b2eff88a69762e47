-- What lies on a stack of sizes.
use Rattle.std.proofs.Common.{◌≡◌, ℕ, zero, suc, ◌+◌, max, List, [], ◌∷◌, take, drop, refl, ◌∙◌, ap, arith}
use Rattle.sisal_depth.specs.declared.sizes.Growth.{Growth}
use Rattle.sisal_depth.specs.Sizes.{at, deepest}

none_of : {A : Type 0} (k : ℕ) → drop {A = A} k [] ≡ []
none_of zero = refl
none_of (suc k) = refl

from : (k : ℕ) (z : List Growth) → deepest (drop k z) ≡ max (at k z).least (deepest (drop (suc k) z))
from k [] = ap deepest (none_of k)
from zero (x ∷ z) = refl
from (suc k) (x ∷ z) = from k z

pub deepest_from : (k : ℕ) (z : List Growth) → deepest (drop k z) ≡ max (at k z).least (deepest (drop (k + 1) z))
deepest_from k z = let e : suc k ≡ k + 1 = omega arith in from k z ∙ ap (λ n. max (at k z).least (deepest (drop n z))) e

pub none_left : {A : Type 0} (k : ℕ) (z : List A) → drop k (take k z) ≡ []
none_left zero z = refl
none_left (suc k) [] = refl
none_left (suc k) (x ∷ z) = none_left k z
