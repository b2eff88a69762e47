-- A pool that holds one value, before and after a request for an array of one place.
use Rattle.std.proofs.Common.{◌≡◌, ◌≢◌, ℕ, [], ◌∷◌, Option, Some, None, inl, inr, refl, sym, subst, ◌∙◌, ap}
use Rattle.std.proofs.lemmas.Bool.Decides.{eqb_tells}
use denote.RawPtr.{Ptr}
use Rattle.flow_value.specs.declared.value.Val.{Val}
use Rattle.segment.specs.Places.{unwritten}
use Rattle.agg_pool.specs.Pools.{PoolView, entry_at, HoldsAnd, IsIdleIfAny}
use Rattle.agg_pool.specs.declared.entry.Entry.{Entry}
use Rattle.agg_pool.specs.declared.entry.Entry.TheVariants as entry

-- a value that is not lent
abbrev pub Held : Option Entry → Type 0
Held o = HoldsAnd o (λ w. w.out ≡ 0)

abbrev pub whole : Val → ℕ → Option Entry
whole v id = Some (entry.Whole (record { value = v; out = 0; id = id }))

abbrev pub blank : Ptr → Option Entry
blank start = Some (entry.Parts (record { start = start; places = unwritten ∷ [] }))

pub held_is : (o : Option Entry) (v : Val) (id : ℕ) → o ≡ whole v id → Held o
held_is o v id is = subst Held (sym is) refl

pub held_idle : (o : Option Entry) → Held o → IsIdleIfAny o
held_idle (Some (entry.Whole w)) h = h
held_idle (Some (entry.Parts r)) h = absurd h
held_idle None h = absurd h

-- all are idle, where one is and the others are
pub all_idle : (p : PoolView) (k : ℕ) → IsIdleIfAny (entry_at p k) → ((n : ℕ) → n ≢ k → IsIdleIfAny (entry_at p n)) → (n : ℕ) → IsIdleIfAny (entry_at p n)
all_idle p k one others n = elim (eqb_tells n k) [
  | inl same ↦ subst (λ m. IsIdleIfAny (entry_at p m)) (sym same.1) one
  | inr other ↦ others n other.1
]

-- one value alone is idle
pub one_idle : (p : PoolView) (k : ℕ) → Held (entry_at p k) → ((n : ℕ) → n ≢ k → entry_at p n ≡ None) → (n : ℕ) → IsIdleIfAny (entry_at p n)
one_idle p k held others = all_idle p k (held_idle (entry_at p k) held) (λ n other. subst IsIdleIfAny (sym (others n other)) tt)

-- the value is still held, where an array begins under a number that had no entry
pub still_held : (before after : PoolView) (k room : ℕ) → Held (entry_at before k) → entry_at before room ≡ None → ((n : ℕ) → n ≢ room → entry_at after n ≡ entry_at before n) → Held (entry_at after k)
still_held before after k room held vacant others =
    let apart : k ≢ room = λ e. subst Held (ap (λ n. entry_at before n) e ∙ vacant) held in
    subst Held (sym (others k apart)) held

-- all are idle, where the array is new
pub room_idle : (before after : PoolView) (room : ℕ) (start : Ptr) → ((n : ℕ) → IsIdleIfAny (entry_at before n)) → entry_at after room ≡ blank start → ((n : ℕ) → n ≢ room → entry_at after n ≡ entry_at before n) → (n : ℕ) → IsIdleIfAny (entry_at after n)
room_idle before after room start idle new others = all_idle after room (subst IsIdleIfAny (sym new) refl) (λ n other. subst IsIdleIfAny (sym (others n other)) (idle n))
