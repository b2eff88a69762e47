-- Of a key that no port owns no node has a lease.
use Rattle.std.proofs.Common.{◌≡◌, ℕ, zero, suc, ◌<◌, length, Option, Some, None, refl, sym, ap, subst, arith}
use Rattle.graph_meaning.specs.Entered.{IsIn}
use Rattle.graph_meaning.specs.Histories.{Run}
use Rattle.run_states.specs.Standing.{Test, Live, Table, TableStands}
use Rattle.run_states.specs.Storing.{Owning, Owned, Lent, Store, IsAtWork, StoresStand, Holds}
use Rattle.run_states.specs.Moving.{IsUnowned}
use Rattle.run_states.specs.Leasing.{node_leases, graph_leases, leases}
use Rattle.run_states.proofs.Leasing.{no-sum, by-work, none-with, none-lease}
use Rattle.run_events.specs.Hands.{AreUnownedNotLeased}

module _ (run : Run) (c m : Test) (table : Table) (root : ℕ) (stores : ℕ → Store) (key : ℕ) (stands : TableStands run c m table root) (kept : StoresStand table stores) (free : IsUnowned table stores key) where
  by-owning : (d f : ℕ) (x : Live) → table f ≡ Some x → length x.path < suc d → (l : ℕ) (h : Holds x (stores f) l key) → (o : Owning) → (stores f).owning h.port ≡ o
      → ((g : ℕ) (y : Live) → table g ≡ Some y → length y.path < d → (n : ℕ) → Holds y (stores g) n key → ⊥) → ⊥
  by-owning d f x at lt l h Owned is rec = free f x h.port at h.kept is
  by-owning d f x at lt l h Lent is rec =
      let from = kept.lent f x h.port key at h.kept is in
      let up = stands.parent f x from.0 from.1 from.2 at from.3 in
      let b = from.5 up in
      rec up.at up.live up.found (let e = ap length from.3 in let p = ap length up.path in omega (arith, lt, e, p)) from.0
      (record { inside = up.inside; work = subst IsAtWork (sym up.state) tt; port = from.4; reads = b.0; kept = b.1 })

  none-below : (d f : ℕ) (x : Live) → table f ≡ Some x → length x.path < d → (l : ℕ) → Holds x (stores f) l key → ⊥
  none-below zero f x at lt l h = omega (arith, lt)
  none-below (suc d) f x at lt l h = by-owning d f x at lt l h ((stores f).owning h.port) refl (none-below d)

  pub nobody : (f : ℕ) (x : Live) → table f ≡ Some x → (l : ℕ) → Holds x (stores f) l key → ⊥
  nobody f x at l h = none-below (suc (length x.path)) f x at (omega arith) l h

pub unowned-not-leased : AreUnownedNotLeased
unowned-not-leased run c m table root stores key stands kept free zero = refl
unowned-not-leased run c m table root stores key stands kept free (suc n) =
    no-sum (leases key table stores n) (graph_leases key (stores n) (table n)) (unowned-not-leased run c m table root stores key stands kept free n) (go (table n) refl)
  where
    node : (y : Live) → table n ≡ Some y → (l : ℕ) → IsIn l y.labels → node_leases key (stores n) y l ≡ 0
    node y is l i =
        by-work key (stores n) ((stores n).reads l) (y.states l)
        (λ work. none-with key (stores n) ((stores n).reads l) (λ b r e. nobody run c m table root stores key stands kept free n y is l (record { inside = i; work = work; port = b; reads = r; kept = e })))

    go : (o : Option Live) → table n ≡ o → graph_leases key (stores n) o ≡ 0
    go None is = refl
    go (Some y) is = none-lease key (stores n) y y.labels (node y is)
