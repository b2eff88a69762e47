-- Filled ports hold what they carry, after each event.
use Rattle.std.proofs.Common.{◌≡◌, ℕ, ◌+◌, ◌-◌, List, [], ◌∷◌, Some, None, get_or, sym, ap, ◌∙◌, subst, arith}
use native.Mathlib.Decide.{ℕ_discrete}
use Rattle.graph_meaning.specs.Carried.{Carried, Unfilled}
use Rattle.graph_meaning.specs.Demand.{Source, Port as Out, Fixed, Network, and_then}
use Rattle.graph_meaning.specs.Plain.{Carries, fixed, input, output, CarryAll, no_port, port}
use Rattle.graph_meaning.proofs.PlainDepths.{all-on}
use Rattle.run_states.specs.Standing.{Path, State, Live, Table, with_state, put, changed, closed}
use Rattle.run_states.specs.Storing.{Cell, Plain, Kept, Port, Store}
use Rattle.run_states.specs.Moving.{DifferAt}
use Rattle.run_states.specs.Paths.{LeadsTo, here, CarriesAt}
use Rattle.run_states.proofs.Lookups.{put-same, put-other, some-same}
use Rattle.run_states.proofs.Deeper.{carries-on}
use Rattle.run_states.proofs.Paths.{path-once}
use Rattle.run_events.specs.Carrying.{Pool, Opened, content_of, contents, Tells, ArePortsRight, HasInputs, AreAllPortsKept, IsTold, AreTold, AreAllToldCarried, AreContentsTold}

pub none-some : {A P : Type 0} (a : A) → None ≡ Some a → P
none-some a e = absurd (clash e)
  where
    clash : None ≡ Some a → ⊥
    clash e = cc

same-pair : (a b : Port) → a.0 ≡ b.0 → a.1 ≡ b.1 → a ≡ b
same-pair (a, c) (b, d) p q = ap (λ z. (z, c)) p ∙ ap (λ z. (b, z)) q

-- the port is this one of this graph, or another
pub this-port : (f g : ℕ) (a b : Port) → Dec ((g ≡ f) × (b ≡ a))
this-port f g a b = go (ℕ_discrete g f) (ℕ_discrete b.0 a.0) (ℕ_discrete b.1 a.1)
  where
    go : Dec (g ≡ f) → Dec (b.0 ≡ a.0) → Dec (b.1 ≡ a.1) → Dec ((g ≡ f) × (b ≡ a))
    go (no n) y z = no (λ e. n e.0)
    go (yes e) (no n) z = no (λ q. n (ap (λ w. w.0) q.1))
    go (yes e) (yes p) (no n) = no (λ q. n (ap (λ w. w.1) q.1))
    go (yes e) (yes p) (yes q) = yes (e, same-pair b a p q)

module _ (u : Network) (g : ℕ) (ins : List Carried) where
  -- a port holds what it carries
  abbrev Holds : Pool → ℕ → Path → Port → Cell → Type 0
  Holds pool n p a c = (d : Carried) × Tells pool n c d × CarriesAt u g ins p (Out a.0 a.1) d

  input-holds : (pool : Pool) (n : ℕ) (p : Path) (h : ℕ) (is : List Carried) (a : Port) (c : Cell) → LeadsTo u g ins p h is → a.0 ≡ 0 → Tells pool n c (get_or is (a.1 - 1) Unfilled) → Holds pool n p a c
  input-holds pool n p h is a c to zero tells =
      (get_or is (a.1 - 1) Unfilled, tells, (h, is, to, (0, subst (λ z. Carries u 0 h is (Out z a.1) (get_or is (a.1 - 1) Unfilled)) (sym zero) (input 0 h is a.1))))

  -- a row of the table is another one of the same graph
  put-right : (pool : Pool) (unions : Opened) (table : Table) (stores : ℕ → Store) (f : ℕ) (y : Live) → ((h : ℕ) (x : Live) (a : Port) (c : Cell) → ¬ (h ≡ f) → table h ≡ Some x → (stores h).cell a ≡ Some c → Holds pool (unions h a) x.path a c)
      → ((a : Port) (c : Cell) → (stores f).cell a ≡ Some c → Holds pool (unions f a) y.path a c) → ArePortsRight u g ins pool unions (put table f (Some y)) stores
  put-right pool unions table stores f y others own h x a c is full = go (ℕ_discrete h f)
    where
      go : Dec (h ≡ f) → Holds pool (unions h a) x.path a c
      go (yes e) =
          let same : y ≡ x = some-same y x (sym (ap (put table f (Some y)) e ∙ put-same table f (Some y)) ∙ is) in
          subst (λ z. Holds pool (unions h a) z.path a c) same (subst (λ z. Holds pool (unions z a) y.path a c) (sym e) (own a c (sym (ap (λ z. (stores z).cell a) e) ∙ full)))
      go (no n) = others h x a c n (sym (put-other table f (Some y) h n) ∙ is) full

  none-right : (pool : Pool) (unions : Opened) (table : Table) (stores : ℕ → Store) (n : ℕ) → ArePortsRight u g ins pool unions table stores → ArePortsRight u g ins pool unions (put table n None) stores
  none-right pool unions table stores n right h x a c is full = go (ℕ_discrete h n)
    where
      go : Dec (h ≡ n) → Holds pool (unions h a) x.path a c
      go (yes e) = none-some x (sym (ap (put table n None) e ∙ put-same table n None) ∙ is)
      go (no ne) = right h x a c (sym (put-other table n None h ne) ∙ is) full

  moved-right : (pool : Pool) (unions : Opened) (table : Table) (stores : ℕ → Store) (f l : ℕ) (x : Live) (s : State) → ((h : ℕ) (y : Live) (a : Port) (c : Cell) → ¬ (h ≡ f) → table h ≡ Some y → (stores h).cell a ≡ Some c → Holds pool (unions h a) y.path a c)
      → ((a : Port) (c : Cell) → (stores f).cell a ≡ Some c → Holds pool (unions f a) x.path a c) → ArePortsRight u g ins pool unions (put table f (Some (with_state x l s))) stores
  moved-right pool unions table stores f l x s others own = put-right pool unions table stores f (with_state x l s) others own

  ports-moved : (pool : Pool) (unions : Opened) (table : Table) (stores : ℕ → Store) (f l : ℕ) (x : Live) (s : State) → ArePortsRight u g ins pool unions table stores → table f ≡ Some x
      → ArePortsRight u g ins pool unions (changed table f x l s 0 None) stores × ((n : ℕ) → ArePortsRight u g ins pool unions (closed table f x l s n) stores)
  ports-moved pool unions table stores f l x s right at = (
    moved-right pool unions table stores f l x s (λ h y a c ne is full. right h y a c is full) (λ a c full. right f x a c at full),
    λ n. moved-right pool unions (put table n None) stores f l x s (λ h y a c ne is full. none-right pool unions table stores n right h y a c is full) (λ a c full. right f x a c at full),
  )

  ports-filled : (pool : Pool) (unions later : Opened) (table : Table) (stores others : ℕ → Store) (f : ℕ) (x : Live) (a : Port) (c : Cell) (d : Carried) → ArePortsRight u g ins pool unions table stores → table f ≡ Some x → DifferAt stores others f a
      → ((h : ℕ) (b : Port) → ¬ ((h ≡ f) × (b ≡ a)) → later h b ≡ unions h b) → (others f).cell a ≡ Some c → Tells pool (later f a) c d → CarriesAt u g ins x.path (Out a.0 a.1) d → ArePortsRight u g ins pool later table others
  ports-filled pool unions later table stores others f x a c d right at differ same full tells carries h y b e is filled = go (this-port f h a b)
    where
      go : Dec ((h ≡ f) × (b ≡ a)) → Holds pool (later h b) y.path b e
      go (no n) = subst (λ z. Holds pool z y.path b e) (sym (same h b n)) (right h y b e is (sym (differ.cells h b n).0 ∙ filled))
      go (yes q) =
          let live : x ≡ y = some-same x y (sym at ∙ (sym (ap table q.0) ∙ is)) in
          let cell : c ≡ e = some-same c e (sym full ∙ (sym (ap (λ z. (others z).cell b) q.0 ∙ ap (others f).cell q.1) ∙ filled)) in
          let depth : later f a ≡ later h b = sym (ap (λ z. later z b) q.0 ∙ ap (later f) q.1) in
          subst (λ z. Holds pool (later h b) z.path b e) live (subst (λ z. Holds pool (later h b) x.path b z) cell (subst (λ z. Holds pool (later h b) x.path z c) (sym q.1) (d, subst (λ z. Tells pool z c d) depth tells, carries)))

  ports-emptied : (pool : Pool) (unions : Opened) (table : Table) (stores others : ℕ → Store) (f : ℕ) (a : Port) → ArePortsRight u g ins pool unions table stores → DifferAt stores others f a → (others f).cell a ≡ None → ArePortsRight u g ins pool unions table others
  ports-emptied pool unions table stores others f a right differ empty h y b e is filled = go (this-port f h a b)
    where
      go : Dec ((h ≡ f) × (b ≡ a)) → Holds pool (unions h b) y.path b e
      go (no n) = right h y b e is (sym (differ.cells h b n).0 ∙ filled)
      go (yes q) = none-some e (sym empty ∙ (sym (ap (λ z. (others z).cell b) q.0 ∙ ap (others f).cell q.1) ∙ filled))

  ports-entered : (pool : Pool) (unions later : Opened) (table : Table) (stores others : ℕ → Store) (f l n : ℕ) (x y : Live) (s : State) (h : ℕ) (is : List Carried) → ArePortsRight u g ins pool unions table stores → table f ≡ Some x → table n ≡ None → LeadsTo u g ins y.path h is
      → ((m : ℕ) → ¬ (m ≡ n) → (others m ≡ stores m) × (later m ≡ unions m)) → HasInputs pool (later n) (others n) is → ArePortsRight u g ins pool later (changed table f x l s n (Some y)) others
  ports-entered pool unions later table stores others f l n x y s h is right at vacant to same has =
      moved-right pool later (put table n (Some y)) others f l x s (λ m z a c ne there full. entered m z a c there full) (λ a c full. as-before f x a c apart at full)
    where
      apart : ¬ (f ≡ n)
      apart e = none-some x (sym (ap table e ∙ vacant) ∙ at)

      as-before : (m : ℕ) (z : Live) (a : Port) (c : Cell) → ¬ (m ≡ n) → table m ≡ Some z → (others m).cell a ≡ Some c → Holds pool (later m a) z.path a c
      as-before m z a c ne there full =
          let q = same m ne in
          subst (λ v. Holds pool (v a) z.path a c) (sym q.1) (right m z a c there (sym (ap (λ w. w.cell a) q.0) ∙ full))

      entered : ArePortsRight u g ins pool later (put table n (Some y)) others
      entered = put-right pool later table others n y (λ m z a c ne there full. as-before m z a c ne there full) (λ a c full. let q = has a c full in input-holds pool (later n a) y.path h is a c to q.0 q.1)

  ports-pooled : (pool other : Pool) (unions : Opened) (table : Table) (stores : ℕ → Store) → ArePortsRight u g ins pool unions table stores
      → ((f : ℕ) (x : Live) (a : Port) (key : ℕ) → table f ≡ Some x → (stores f).cell a ≡ Some (Kept key) → other key ≡ pool key) → ArePortsRight u g ins other unions table stores
  ports-pooled pool other unions table stores right same f x a (Plain e) is full = right f x a (Plain e) is full
  ports-pooled pool other unions table stores right same f x a (Kept key) is full =
      let r = right f x a (Kept key) is full in
      (r.0, (r.1.0, same f x a key is full ∙ r.1.1, r.1.2), r.2)

  -- ---- what is read

  tells-once : (pool : Pool) (n : ℕ) (c : Cell) (d e : Carried) → Tells pool n c d → Tells pool n c e → d ≡ e
  tells-once pool n (Plain c) d e p q = sym p ∙ q
  tells-once pool n (Kept key) d e p q =
      let same = some-same p.0 q.0 (sym p.1 ∙ q.1) in
      some-same d e (sym p.2 ∙ (ap (contents n) same ∙ q.2))

  module _ (pool : Pool) (unions : Opened) (table : Table) (stores : ℕ → Store) (f : ℕ) (x : Live) (h : ℕ) (is : List Carried) (right : ArePortsRight u g ins pool unions table stores) (at : table f ≡ Some x) (to : LeadsTo u g ins x.path h is) where
    one-told : (o : Source) (k : Carried) → IsTold pool (unions f) (stores f) o k → (d : ℕ) × Carries u d h is o k
    one-told (Fixed c) k e = (0, subst (Carries u 0 h is (Fixed c)) e (fixed 0 h is c))
    one-told (Out l p) k t =
        let r = right f x (l, p) t.0 at t.1 in
        let same : r.0 ≡ k = tells-once pool (unions f (l, p)) t.0 r.0 k r.1 t.2 in
        let w = r.2 in
        let path = path-once u g ins x.path w.0 h w.1 is w.2 to in
        let c = w.3 in
        let moved = subst (λ z. Carries u c.0 h z (Out l p) r.0) path.1 (subst (λ z. Carries u c.0 z w.1 (Out l p) r.0) path.0 c.1) in
        (c.0, subst (Carries u c.0 h is (Out l p)) same moved)

    all-told : (os : List Source) (ks : List Carried) → AreTold pool (unions f) (stores f) os ks → (d : ℕ) × CarryAll u d h is os ks
    all-told [] [] t = (0, no_port 0 h is)
    all-told [] (k ∷ ks) t = absurd t
    all-told (o ∷ os) [] t = absurd t
    all-told (o ∷ os) (k ∷ ks) t =
        let a = one-told o k t.0 in
        let b = all-told os ks t.1 in
        let d = a.0 + b.0 in
        (d, port d h is o os k ks (carries-on u a.0 h is o k a.1 d (omega arith)) (all-on u b.0 h is os ks b.1 d (omega arith)))

pub ports-kept : AreAllPortsKept
ports-kept u g ins =
    record {
      begun = λ pool unions stores x path has. put-right u g ins pool unions (λ f. None) stores 0 x (λ h y a c ne is full. none-some y is)
          (λ a c full. let q = has a c full in subst (λ p. Holds u g ins pool (unions 0 a) p a c) (sym path) (input-holds u g ins pool (unions 0 a) [] g ins a c here q.0 q.1));
      moved = ports-moved u g ins;
      filled = ports-filled u g ins;
      emptied = ports-emptied u g ins;
      entered = ports-entered u g ins;
      pooled = ports-pooled u g ins;
    }

pub told-carried : AreAllToldCarried
told-carried u g ins =
    record {
      operands = λ pool unions table stores f x h is os ks right at to told. all-told u g ins pool unions table stores f x h is right at to os ks told;
      outputs = λ p h l i is rs v to at o. (h, is, to, (o.0, output o.0 h is l i v o.1 rs at o.2 o.3));
    }

pub contents-told : AreContentsTold
contents-told pool n key c d t e = (t.0, t.1, ap (λ o. and_then o content_of) t.2 ∙ e)
