-- The leases that AScatters keep, and the claim of a taker.
use Rattle.std.proofs.Common.{◌≡◌, ℕ, Bool, true, false, ◌&&◌, ◌∷◌, Contains, Some, None, inl, inr, sym, ap, ◌∙◌, subst}
use native.Mathlib.Decide.{ℕ_discrete}
use Rattle.if1_graph.specs.declared.graph.Edge.{Edge}
use Rattle.if1_graph.specs.declared.graph.Graph.TheViews.{out-Graph}
use Rattle.if1_graph.specs.declared.graph.Origin.TheVariants as origin
use Rattle.if1_graph.specs.Ports.{leaves}
use Rattle.if1_graph.specs.Units.{Place}
use Rattle.if1_marks.proofs.Taken.{itself}
use Rattle.if1_marks.proofs.Tests.{any-there, both}
use Rattle.graph_meaning.specs.Entered.{IsIn}
use Rattle.graph_meaning.specs.Histories.{is_claimed, is_made}
use Rattle.graph_meaning.specs.Laws.{run_of}
use Rattle.graph_meaning.specs.Networks.{network}
use Rattle.run_states.specs.Standing.{Path, Within, Live, Table, IsParent, put}
use Rattle.run_states.specs.Storing.{Kept, Port, Owned, Store, IsRead, IsAtWork, NoReader, Holds}
use Rattle.run_states.specs.Moving.{DifferAt, IsUnowned}
use Rattle.run_states.proofs.Lookups.{put-other, some-same, some-none}
use Rattle.run_events.specs.Scattering.{Takers, Scatters, lent, of_generator, of_left}
use Rattle.run_events.proofs.Marked.{takers-alone, takers-lease-nothing}
use Rattle.run_events.proofs.Hands.{none-cell}
use Rattle.run_events.specs.Scattered.{is_taken_from, takers_of, DoScattersKeep, AreAllScattersKeptOn, AreTakersFree}
use Rattle.run_events.proofs.Leases.{nothing-out}

same-head : (a b : ℕ × ℕ) (p q : Path) → a ∷ p ≡ b ∷ q → a ≡ b
same-head a b p q e = cc

same-rest : (a b : ℕ × ℕ) (p q : Path) → a ∷ p ≡ b ∷ q → p ≡ q
same-rest a b p q e = cc

step-same : (l k n j : ℕ) (p q : Path) → (l, k) ∷ p ≡ (n, j) ∷ q → (l ≡ n) × (k ≡ j) × (p ≡ q)
step-same l k n j p q e =
    let h = same-head (l, k) (n, j) p q e in
    (ap (λ (z : ℕ × ℕ). z.0) h, ap (λ (z : ℕ × ℕ). z.1) h, same-rest (l, k) (n, j) p q e)

true-false : {P : Type 0} (b : Bool) → b ≡ true → b ≡ false → P
true-false b x y = absurd (clash (sym x ∙ y))
  where
    clash : true ≡ false → ⊥
    clash e = cc

-- ---- an AScatter is done

pub scatters-keep : DoScattersKeep
scatters-keep run c m table root stores takers f g l k x y a key stands kept at there in-x inside path cell (inr own) = of_generator g y a there cell own.0 own.1
scatters-keep run c m table root stores takers f g l k x y a key stands kept at there in-x inside path cell (inl own) = lent (by (kept.lent g y a key there cell own))
  where
    by : (n j : ℕ) × (p : Path) × (y.path ≡ (n, j) ∷ p) × (b : Port) × ((up : IsParent table g p n j) → IsRead b ((stores up.at).reads n) × ((stores up.at).cell b ≡ Some (Kept key))) → Holds x (stores f) l key
    by z =
        let same = step-same z.0 z.1 l k z.2 x.path (sym z.3 ∙ path) in
        let up : IsParent table g z.2 z.0 z.1 =
        record { at = f; live = x; found = at; path = sym same.2; inside = subst (λ n. IsIn n x.labels) (sym same.0) in-x; state = ap x.states same.0 ∙ (inside ∙ ap (λ n. Within n g) (sym same.1)) } in
        let r = z.5 up in
        record { inside = in-x; work = subst IsAtWork (sym inside) tt; port = z.4; reads = subst (λ n. IsRead z.4 ((stores f).reads n)) same.0 r.0; kept = r.1 }

-- ---- what a lease stays beside

module _ (table : Table) (stores : ℕ → Store) (takers : Takers) (g n key : ℕ) (y : Live) (there : table g ≡ Some y) where
  module _ (others : ℕ → Store) (f : ℕ) (x : Live) (a : Port) (differ : DifferAt stores others f a) (at : table f ≡ Some x) (empty : (others f).cell a ≡ None) (takes : takers f a ≡ true) (none : NoReader table stores f x a) where
    not-empty : (h : ℕ) (b : Port) (k : ℕ) → (others h).cell b ≡ Some (Kept k) → ¬ ((h ≡ f) × (b ≡ a))
    not-empty h b k full q = none-cell (Kept k) (sym empty ∙ (sym (ap (λ z. (others z).cell b) q.0 ∙ ap (others f).cell q.1) ∙ full))

    -- who holds it reads another port
    held-still : Holds y (stores g) n key → Holds y (others g) n key
    held-still h =
        record { inside = h.inside; work = h.work; port = h.port; reads = subst (IsRead h.port) (sym (differ.reads g n)) h.reads; kept = (differ.cells g h.port other).0 ∙ h.kept }
      where
        other : ¬ ((g ≡ f) × (h.port ≡ a))
        other q =
            let live : y ≡ x = some-same y x (sym there ∙ (ap table q.0 ∙ at)) in
            none n (subst (λ z. IsIn n z.labels) live h.inside) (subst (λ z. IsRead a ((stores z).reads n)) q.0 (subst (λ z. IsRead z ((stores g).reads n)) q.1 h.reads)) (subst (λ z. IsAtWork (z.states n)) live h.work)

    scatters-emptied : Scatters table stores takers y g n key → Scatters table others takers y g n key
    scatters-emptied (lent h) = lent (held-still h)
    scatters-emptied (of_generator h w b is cell own not-taken) =
        let d = differ.cells h b (λ q. true-false (takers f a) takes (sym (ap (λ z. takers z a) q.0) ∙ (ap (takers h) (sym q.1) ∙ not-taken))) in
        of_generator h w b is (d.0 ∙ cell) (d.1 ∙ own) not-taken
    scatters-emptied (of_left un) =
        of_left (λ h w b is cell own. let d = differ.cells h b (not-empty h b key cell) in un h w b is (sym d.0 ∙ cell) (sym d.1 ∙ own))

  module _ (others : ℕ → Store) (later : Takers) (f : ℕ) (x : Live) (vacant : table f ≡ None) (same : (h : ℕ) → ¬ (h ≡ f) → (others h ≡ stores h) × ((a : Port) → later h a ≡ takers h a))
      (free : (a : Port) → (others f).cell a ≡ Some (Kept key) → ¬ ((others f).owning a ≡ Owned))
    where
      apart : (h : ℕ) (w : Live) → table h ≡ Some w → ¬ (h ≡ f)
      apart h w is e = some-none w is (ap table e ∙ vacant)

      scatters-added : Scatters table stores takers y g n key → Scatters (put table f (Some x)) others later y g n key
      scatters-added (lent h) =
          let s = (same g (apart g y there)).0 in
          lent (record { inside = h.inside; work = h.work; port = h.port; reads = subst (λ z. IsRead h.port (z.reads n)) (sym s) h.reads; kept = ap (λ z. z.cell h.port) s ∙ h.kept })
      scatters-added (of_generator h w b is cell own not-taken) =
          let ne = apart h w is in
          let s = same h ne in
          of_generator h w b (put-other table f (Some x) h ne ∙ is) (ap (λ z. z.cell b) s.0 ∙ cell) (ap (λ z. z.owning b) s.0 ∙ own) (s.1 b ∙ not-taken)
      scatters-added (of_left un) = of_left still
        where
          still : IsUnowned (put table f (Some x)) others key
          still h w b is cell own = go (ℕ_discrete h f)
            where
              go : Dec (h ≡ f) → ⊥
              go (yes e) = free b (sym (ap (λ z. (others z).cell b) e) ∙ cell) (sym (ap (λ z. (others z).owning b) e) ∙ own)
              go (no ne) =
                  let s = (same h ne).0 in
                  un h w b (sym (put-other table f (Some x) h ne) ∙ is) (sym (ap (λ z. z.cell b) s) ∙ cell) (sym (ap (λ z. z.owning b) s) ∙ own)

pub scatters-kept-on : AreAllScattersKeptOn
scatters-kept-on table stores takers g n key y there sc =
    record {
      emptied = λ others f x a differ at empty takes none. scatters-emptied table stores takers g n key y there others f x a differ at empty takes none sc;
      added = λ others later f x vacant same free. scatters-added table stores takers g n key y there others later f x vacant same free sc;
    }

-- ---- the claim of a taker

pub taken-told : (p : Place) (e : Edge) (a : Port) → Contains (out-Graph p.graph).edges e → e.takes ≡ true → e.from ≡ origin.Port a.0 a.1 → is_taken_from p a ≡ true
taken-told p e a c takes from =
    any-there (λ e. e.takes && leaves a.0 a.1 e.from) (out-Graph p.graph).edges e c (both e.takes (leaves a.0 a.1 e.from) takes (ap (leaves a.0 a.1) from ∙ itself a.0 a.1))

pub takers-free : AreTakersFree
takers-free cut u g ins is limit h table root f x stores hands homes leases is-cut ready sound stands st is-lent at there graph marked e a key in-edges takes from not-0 in-x begun cell =
    let own = (takers-lease-nothing cut u g ins is limit h table root f x stores (homes f) is-cut ready sound stands st.ports at there graph marked e a key in-edges takes from not-0 in-x begun cell).0 in
    let alone = takers-alone cut u g ins is limit h table root f x stores (homes f) is-cut ready sound stands at there graph marked.reads e a in-edges takes from not-0 in-x begun in
    (own, λ n. nothing-out (run_of cut (network u) g ins) (is_claimed h) (is_made h) table root stores hands (takers_of homes) leases f x a key stands.stands st is-lent at cell own (taken-told (homes f) e a in-edges takes from) alone n)
