-- What a contract sees of a pool, and what it says of the entry of a number.
use Rattle.std.specs.Coded.{Coded, code_by, coded×, coded_ℕ, coded_list, coded_option}
use Rattle.std.specs.Prelude.{refl, ℕ, List, Option, Some, None, slice_index_or}
use Rattle.lease.specs.Lending.{Lending}
use Rattle.segment.specs.Places.{RoomView}
use Rattle.flow_value.specs.declared.value.Val.{Val}
use Rattle.agg_pool.specs.declared.entry.Entry.{Entry}
use Rattle.agg_pool.specs.declared.entry.Entry.TheVariants as entry
use Rattle.agg_pool.specs.Entries.{IsIdle}

-- the entries by their numbers, and how many more values can be put in with no memory
pub record PoolView : Type 0 where
  pub entries : List (Option Entry)
  pub spare : ℕ

-- it is stored as the pair of its fields
abbrev pub pool_code : Coded Entry → Coded PoolView
pool_code c = code_by (List (Option Entry) × ℕ) (coded× (coded_list (coded_option c)) coded_ℕ)
    (λ v. (v.entries, v.spare)) (λ p. record { entries = p.0; spare = p.1 }) (λ _. refl)

-- the entry of a number, if there is one
abbrev pub entry_at : PoolView → ℕ → Option Entry
entry_at pool number = slice_index_or pool.entries number None

-- there is an entry, it is a whole value, and P holds of it
abbrev pub HoldsAnd : Option Entry → (Lending Val → Type 0) → Type 0
HoldsAnd (Some (entry.Whole w)) P = P w
HoldsAnd (Some (entry.Parts r)) P = ⊥
HoldsAnd None P = ⊥

abbrev pub IfHolds : Option Entry → (Lending Val → Type 0) → Type 0
IfHolds (Some (entry.Whole w)) P = P w
IfHolds (Some (entry.Parts r)) P = Unit {0}
IfHolds None P = Unit {0}

-- there is an entry, it is a room, and P holds of it
abbrev pub BuildsAnd : Option Entry → (RoomView Val → Type 0) → Type 0
BuildsAnd (Some (entry.Whole w)) P = ⊥
BuildsAnd (Some (entry.Parts r)) P = P r
BuildsAnd None P = ⊥

abbrev pub IfBuilds : Option Entry → (RoomView Val → Type 0) → Type 0
IfBuilds (Some (entry.Whole w)) P = Unit {0}
IfBuilds (Some (entry.Parts r)) P = P r
IfBuilds None P = Unit {0}

-- there is no entry, or no lease and no part of it is out
abbrev pub IsIdleIfAny : Option Entry → Type 0
IsIdleIfAny (Some e) = IsIdle e
IsIdleIfAny None = Unit {0}
