-- A value that is lent and given back leaves each entry as it was.
use Rattle.std.proofs.Common.{◌≡◌, ◌≢◌, ℕ, ◌+◌, ◌-◌, ◌<◌, length, set, Option, Some, None, is_some, refl, sym, ap, subst, ◌∙◌, arith, length-set}
use Rattle.std.proofs.lemmas.List.{get_or-set_same, get_or-set_other}
use mathlib.Core.Logic.{dite}
use native.Mathlib.Decide.{ℕ_discrete}
use Rattle.lease.specs.Lending.{Lending}
use Rattle.flow_value.specs.declared.value.Val.{Val}
use Rattle.agg_pool.specs.Parts.{Lent}
use Rattle.agg_pool.specs.Pools.{PoolView, entry_at, HoldsAnd, IfHolds}
use Rattle.agg_pool.specs.declared.entry.Entry.{Entry}
use Rattle.agg_pool.specs.declared.entry.Entry.TheVariants as entry
use Rattle.agg_pool.proofs.Tables.{within}

holds_is : (o : Option Entry) (P : Lending Val → Type 0) → HoldsAnd o P → (w : Lending Val) × (o ≡ Some (entry.Whole w)) × P w
holds_is (Some (entry.Whole w)) P p = (w, refl, p)
holds_is (Some (entry.Parts r)) P p = absurd p
holds_is None P p = absurd p

if_holds : (o : Option Entry) (P : Lending Val → Type 0) (w : Lending Val) → o ≡ Some (entry.Whole w) → IfHolds o P → P w
if_holds o P w is p = subst (λ (x : Option Entry). IfHolds x P) is p

abbrev out_is : Lending Val → ℕ → Option Entry
out_is w n = Some (entry.Whole (record w { out = n }))

module _ (before lent : PoolView) (k : ℕ) (lease : Lent) (whole : HoldsAnd (entry_at before k) (λ w. w.out ≡ 0))
    (names : IfHolds (entry_at before k) (λ w. lease ≡ record { number = k; value = w.value; id = w.id }))
    (more : IfHolds (entry_at before k) (λ w. lent ≡ record before { entries = set before.entries k (out_is w (w.out + 1)) })) where
  found : (w : Lending Val) × (entry_at before k ≡ Some (entry.Whole w)) × (w.out ≡ 0)
  found = holds_is (entry_at before k) (λ w. w.out ≡ 0) whole

  near : k < length before.entries
  near = within before.entries k (ap is_some found.1)

  lease_is : lease ≡ record { number = k; value = found.0.value; id = found.0.id }
  lease_is = if_holds (entry_at before k) (λ w. lease ≡ record { number = k; value = w.value; id = w.id }) found.0 found.1 names

  lent_is : lent ≡ record before { entries = set before.entries k (out_is found.0 (found.0.out + 1)) }
  lent_is = if_holds (entry_at before k) (λ w. lent ≡ record before { entries = set before.entries k (out_is w (w.out + 1)) }) found.0 found.1 more

  then : entry_at lent k ≡ out_is found.0 (found.0.out + 1)
  then = ap (λ p. entry_at p k) lent_is ∙ get_or-set_same before.entries k (out_is found.0 (found.0.out + 1)) None near

  pub may_return : HoldsAnd (entry_at lent lease.number) (λ w. lease.id ≡ w.id)
  may_return = subst (λ (l : Lent). HoldsAnd (entry_at lent l.number) (λ w. l.id ≡ w.id)) (sym lease_is)
      (subst (λ (o : Option Entry). HoldsAnd o (λ w. found.0.id ≡ w.id)) (sym then) refl)

  module _ (after : PoolView) (fewer : IfHolds (entry_at lent lease.number) (λ w. after ≡ record lent { entries = set lent.entries lease.number (out_is w (w.out - 1)) })) where
    after_is : after ≡ record lent { entries = set lent.entries k (out_is found.0 (found.0.out + 1 - 1)) }
    after_is = if_holds (entry_at lent k) (λ w. after ≡ record lent { entries = set lent.entries k (out_is w (w.out - 1)) }) (record found.0 { out = found.0.out + 1 }) then
        (subst (λ (n : ℕ). IfHolds (entry_at lent n) (λ w. after ≡ record lent { entries = set lent.entries n (out_is w (w.out - 1)) })) (ap (λ l. l.number) lease_is) fewer)

    long : length lent.entries ≡ length before.entries
    long = ap (λ p. length p.entries) lent_is ∙ length-set before.entries k (out_is found.0 (found.0.out + 1))

    here : entry_at after k ≡ entry_at before k
    here = ap (λ p. entry_at p k) after_is ∙ get_or-set_same lent.entries k (out_is found.0 (found.0.out + 1 - 1)) None (subst (λ (n : ℕ). k < n) (sym long) near)
        ∙ ap (out_is found.0) (omega arith) ∙ sym found.1

    elsewhere : (m : ℕ) → m ≢ k → entry_at after m ≡ entry_at before m
    elsewhere m other = ap (λ p. entry_at p m) after_is ∙ get_or-set_other lent.entries k m (out_is found.0 (found.0.out + 1 - 1)) None other
        ∙ ap (λ p. entry_at p m) lent_is ∙ get_or-set_other before.entries k m (out_is found.0 (found.0.out + 1)) None other

    pub all_same : (m : ℕ) → entry_at after m ≡ entry_at before m
    all_same m = dite (ℕ_discrete m k) (λ same. ap (entry_at after) same ∙ here ∙ ap (entry_at before) (sym same)) (λ other. elsewhere m other)
