-- What is said of an entry that is a room.
use Rattle.std.proofs.Common.{◌≡◌, ℕ, List, [], Option, Some, None, is_some, true, refl, sym, subst}
use Rattle.segment.specs.Places.{RoomView}
use Rattle.flow_value.specs.declared.value.Val.{Val}
use Rattle.agg_pool.specs.Pools.{PoolView, entry_at, BuildsAnd, IfBuilds, IsIdleIfAny}
use Rattle.agg_pool.specs.declared.entry.Entry.{Entry}
use Rattle.agg_pool.specs.declared.entry.Entry.TheVariants as entry

pub builds_is : (o : Option Entry) (P : RoomView Val → Type 0) → BuildsAnd o P → is_some o ≡ true
builds_is (Some (entry.Parts r)) P p = refl
builds_is (Some (entry.Whole w)) P p = absurd p
builds_is None P p = absurd p

pub if_builds : (o : Option Entry) (P : RoomView Val → Type 0) (r : RoomView Val) → o ≡ Some (entry.Parts r) → P r → IfBuilds o P
if_builds o P r is p = subst (λ (x : Option Entry). IfBuilds x P) (sym is) p

-- a pool of no entries is idle
pub nothing_is_idle : (pool : PoolView) → pool.entries ≡ [] → (number : ℕ) → IsIdleIfAny (entry_at pool number)
nothing_is_idle pool none number = subst (λ (l : List (Option Entry)). IsIdleIfAny (entry_at (record { entries = l; spare = pool.spare }) number)) (sym none) tt
