-- Of what is taken no AScatter keeps a lease.
use Rattle.std.proofs.Common.{◌≡◌, ℕ, true, false, Some, None, sym, ap, ◌∙◌, subst}
use native.Mathlib.Decide.{ℕ_discrete}
use Rattle.run_states.specs.Standing.{State, Live, Table, with_state, put}
use Rattle.run_states.specs.Storing.{Kept, Port, Store, IsRead, IsAtWork, StoresStand, Holds}
use Rattle.run_states.specs.Moving.{DifferAt, IsUnowned}
use Rattle.run_states.proofs.Lookups.{put-same, put-other, set-same, set-other, some-same}
use Rattle.run_states.proofs.Taking.{no-holder}
use Rattle.run_events.specs.Scattering.{Takers, Scatters, lent, of_generator, of_left, IsNoneScattered, AreAllScattersKept}
use Rattle.run_events.proofs.Carrying.{none-some}

true-false : true ≡ false → ⊥
true-false e = cc

pub none-scattered : IsNoneScattered
none-scattered run c m table root stores takers f x a key stands kept at cell own takes none g y l there (lent holds) =
    no-holder run c m table root stands stores kept f x at a key cell own none g y there l holds
none-scattered run c m table root stores takers f x a key stands kept at cell own takes none g y l there (of_generator h z b at-z cell-b own-b not-taken) =
    let same = kept.one_owner f h x z a b key at at-z cell cell-b own own-b in
    true-false (sym takes ∙ (ap (λ n. takers n a) same.0 ∙ (ap (takers h) same.1 ∙ not-taken)))
none-scattered run c m table root stores takers f x a key stands kept at cell own takes none g y l there (of_left unowned) = unowned f x a at cell own

-- ---- the events

module _ (table : Table) (stores : ℕ → Store) (takers : Takers) (key : ℕ) where
  -- where one state changes
  module _ (f l : ℕ) (x : Live) (s : State) (at : table f ≡ Some x) (work : IsAtWork s) where
    there : (h : ℕ) (w : Live) → table h ≡ Some w → (z : Live) × (put table f (Some (with_state x l s)) h ≡ Some z)
    there h w is = go (ℕ_discrete h f)
      where
        go : Dec (h ≡ f) → (z : Live) × (put table f (Some (with_state x l s)) h ≡ Some z)
        go (yes e) = (with_state x l s, ap (put table f (Some (with_state x l s))) e ∙ put-same table f (Some (with_state x l s)))
        go (no ne) = (w, put-other table f (Some (with_state x l s)) h ne ∙ is)

    before : (h : ℕ) (w : Live) → put table f (Some (with_state x l s)) h ≡ Some w → (z : Live) × (table h ≡ Some z)
    before h w is = go (ℕ_discrete h f)
      where
        go : Dec (h ≡ f) → (z : Live) × (table h ≡ Some z)
        go (yes e) = (x, ap table e ∙ at)
        go (no ne) = (w, sym (put-other table f (Some (with_state x l s)) h ne) ∙ is)

    still-unowned : IsUnowned table stores key → IsUnowned (put table f (Some (with_state x l s))) stores key
    still-unowned un h w a is cell own = let z = before h w is in un h z.0 a z.1 cell own

    still-at-work : (n : ℕ) → IsAtWork (x.states n) → IsAtWork ((with_state x l s).states n)
    still-at-work n w = go (ℕ_discrete n l)
      where
        go : Dec (n ≡ l) → IsAtWork ((with_state x l s).states n)
        go (yes e) = subst IsAtWork (sym (ap (with_state x l s).states e ∙ set-same x.states l s)) work
        go (no ne) = subst IsAtWork (sym (set-other x.states l s n ne)) w

    same-holds : (g n : ℕ) → Holds x (stores g) n key → Holds (with_state x l s) (stores g) n key
    same-holds g n h = record { inside = h.inside; work = still-at-work n h.work; port = h.port; reads = h.reads; kept = h.kept }

    moved-scatters : (g n : ℕ) (y z : Live) → (Holds y (stores g) n key → Holds z (stores g) n key) → Scatters table stores takers y g n key → Scatters (put table f (Some (with_state x l s))) stores takers z g n key
    moved-scatters g n y z same (lent h) = lent (same h)
    moved-scatters g n y z same (of_generator h w a is cell own not-taken) = let v = there h w is in of_generator h v.0 a v.1 cell own not-taken
    moved-scatters g n y z same (of_left un) = of_left (still-unowned un)

    pub scatters-moved : (g n : ℕ) (y : Live) → table g ≡ Some y → Scatters table stores takers y g n key → (z : Live) × (put table f (Some (with_state x l s)) g ≡ Some z) × Scatters (put table f (Some (with_state x l s))) stores takers z g n key
    scatters-moved g n y is sc = go (ℕ_discrete g f)
      where
        go : Dec (g ≡ f) → (z : Live) × (put table f (Some (with_state x l s)) g ≡ Some z) × Scatters (put table f (Some (with_state x l s))) stores takers z g n key
        go (yes e) =
            let own : y ≡ x = some-same y x (sym is ∙ (ap table e ∙ at)) in
            (with_state x l s, ap (put table f (Some (with_state x l s))) e ∙ put-same table f (Some (with_state x l s)), moved-scatters g n y (with_state x l s) (λ h. same-holds g n (subst (λ v. Holds v (stores g) n key) own h)) sc)
        go (no ne) = (y, put-other table f (Some (with_state x l s)) g ne ∙ is, moved-scatters g n y y (λ h. h) sc)

  -- where a port is filled
  module _ (others : ℕ → Store) (f : ℕ) (a : Port) (differ : DifferAt stores others f a) (empty : (stores f).cell a ≡ None) (new : ¬ ((others f).cell a ≡ Some (Kept key))) where
    -- a port that had the key has it
    has-still : (g : ℕ) (b : Port) → (stores g).cell b ≡ Some (Kept key) → ¬ ((g ≡ f) × (b ≡ a))
    has-still g b cell q = none-some (Kept key) (sym empty ∙ (sym (ap (λ z. (stores z).cell b) q.0 ∙ ap (stores f).cell q.1) ∙ cell))

    had-then : (g : ℕ) (b : Port) → (others g).cell b ≡ Some (Kept key) → ¬ ((g ≡ f) × (b ≡ a))
    had-then g b cell q = new (sym (ap (λ z. (others z).cell b) q.0 ∙ ap (others f).cell q.1) ∙ cell)

    pub scatters-filled : (g n : ℕ) (y : Live) → Scatters table stores takers y g n key → Scatters table others takers y g n key
    scatters-filled g n y (lent h) =
        lent (record { inside = h.inside; work = h.work; port = h.port; reads = subst (IsRead h.port) (sym (differ.reads g n)) h.reads; kept = (differ.cells g h.port (has-still g h.port h.kept)).0 ∙ h.kept })
    scatters-filled g n y (of_generator h w b is cell own not-taken) =
        let c = differ.cells h b (has-still h b cell) in
        of_generator h w b is (c.0 ∙ cell) (c.1 ∙ own) not-taken
    scatters-filled g n y (of_left un) = of_left (λ h w b is cell own. let c = differ.cells h b (had-then h b cell) in un h w b is (sym c.0 ∙ cell) (sym c.1 ∙ own))

  -- where a graph is left
  module _ (stand : StoresStand table stores) (f : ℕ) where
    was-there : (h : ℕ) (w : Live) → put table f None h ≡ Some w → (¬ (h ≡ f)) × (table h ≡ Some w)
    was-there h w is = go (ℕ_discrete h f)
      where
        go : Dec (h ≡ f) → (¬ (h ≡ f)) × (table h ≡ Some w)
        go (yes e) = none-some w (sym (ap (put table f None) e ∙ put-same table f None) ∙ is)
        go (no ne) = (ne, sym (put-other table f None h ne) ∙ is)

    pub scatters-left : (g n : ℕ) (y : Live) → Scatters table stores takers y g n key → Scatters (put table f None) stores takers y g n key
    scatters-left g n y (lent h) = lent h
    scatters-left g n y (of_generator h w b is cell own not-taken) = go (ℕ_discrete h f)
      where
        go : Dec (h ≡ f) → Scatters (put table f None) stores takers y g n key
        go (yes e) = of_left (λ k v c there cell-c own-c.
            let q = was-there k v there in
            let same = stand.one_owner k h v w c b key q.1 is cell-c cell own-c own in
            absurd (q.0 (same.0 ∙ e)))
        go (no ne) = of_generator h w b (put-other table f None h ne ∙ is) cell own not-taken
    scatters-left g n y (of_left un) = of_left (λ k v c there cell own. let q = was-there k v there in un k v c q.1 cell own)

pub scatters-kept : AreAllScattersKept
scatters-kept table stores takers g n key y stand is sc =
    record {
      moved = λ f l x s at work. scatters-moved table stores takers key f l x s at work g n y is sc;
      filled = λ others f a differ empty new. scatters-filled table stores takers key others f a differ empty new g n y sc;
      left = λ f ne. scatters-left table stores takers key stand f g n y sc;
    }
