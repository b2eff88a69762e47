-- What it means that a part of an array is within it.
use Rattle.std.proofs.Common.{◌≡◌, ◌+◌, ◌≤◌, ℤ, pos, negsuc, ◌+ℤ◌, ◌-ℤ◌, ◌≤ℤ◌, int_le, Bool, true, false, ◌&&◌, length, refl, arith}
use Rattle.std.proofs.lemmas.Int.{ints}
use Rattle.std.proofs.lemmas.Float.{T_from_true}
use Rattle.std.specs.Int.Signed.{le_z_yes}
use Rattle.flow_value.specs.declared.value.Val.{Val}
use Rattle.flow_value.specs.Bounds.{Bounded}
use Rattle.value_ops.specs.Aggregates.{natural, last_place, places, are_places}

both : (x y : Bool) → x && y ≡ true → (x ≡ true) × (y ≡ true)
both true true e = (refl, refl)
both true false e = cc
both false y e = cc

at_most : (m n : ℤ) → int_le m n ≡ true → m ≤ℤ n
at_most m n e = le_z_yes (T_from_true (int_le m n) e)

natural-is : (z : ℤ) → pos 0 ≤ℤ z → pos (natural z) ≡ z
natural-is (pos n) h = refl
natural-is (negsuc n) h = absurd (omega (arith, ints))

module _ (a : Bounded Val) (lo hi : ℤ) (within : are_places a lo hi ≡ true) where
  reach : (int_le a.lo lo && int_le hi (last_place a) ≡ true) × (int_le lo (hi +ℤ pos 1) ≡ true)
  reach = both (int_le a.lo lo && int_le hi (last_place a)) (int_le lo (hi +ℤ pos 1)) within

  ends : (int_le a.lo lo ≡ true) × (int_le hi (last_place a) ≡ true)
  ends = both (int_le a.lo lo) (int_le hi (last_place a)) reach.0

  low : a.lo ≤ℤ lo
  low = at_most a.lo lo ends.0

  high : hi ≤ℤ last_place a
  high = at_most hi (last_place a) ends.1

  order : lo ≤ℤ (hi +ℤ pos 1)
  order = at_most lo (hi +ℤ pos 1) reach.1

  pub part-length : ((hi +ℤ pos 1) -ℤ lo) ≤ℤ pos (length a.items)
  part-length = omega (arith, ints, low, high)

  pub part-within : natural (lo -ℤ a.lo) + places lo hi ≤ length a.items
  part-within =
      let from : pos (natural (lo -ℤ a.lo)) ≡ lo -ℤ a.lo = natural-is (lo -ℤ a.lo) (omega (arith, ints, low)) in
      let count : pos (places lo hi) ≡ (hi +ℤ pos 1) -ℤ lo = natural-is ((hi +ℤ pos 1) -ℤ lo) (omega (arith, ints, order)) in
      omega (arith, ints, low, high, order)
