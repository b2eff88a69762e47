-- Where aggregates are kept, after each event.
use Rattle.std.proofs.Common.{◌≡◌, ℕ, ◌∷◌, Option, Some, None, inl, inr, refl, sym, ap, ◌∙◌, subst}
use native.Mathlib.Decide.{ℕ_discrete}
use Rattle.graph_meaning.specs.Entered.{IsIn}
use Rattle.graph_meaning.specs.Histories.{Run}
use Rattle.run_states.specs.Standing.{Path, Test, State, Within, Live, Table, IsParent, TableStands, set_state, with_state, put, changed, closed}
use Rattle.run_states.specs.Storing.{Cell, Kept, Port, Owning, Owned, Lent, Store, IsRead, IsAtWork, StoresStand}
use Rattle.run_states.specs.Moving.{IsNotWithin, DoStoresBegin, AreStoresKept, DifferAt, IsUnowned, IsFillingKept, IsTakingKept, IsInput, IsEnteringKept}
use Rattle.run_states.proofs.Lookups.{put-same, put-other, set-same, set-other, some-same, some-none}
use Rattle.run_states.proofs.Changes.{within-same}

owned-lent : {P : Type 0} (o : Owning) → o ≡ Owned → o ≡ Lent → P
owned-lent o a b = absurd (cannot (sym a ∙ b))
  where
    cannot : Owned ≡ Lent → ⊥
    cannot e = cc

-- ---- the beginning

pub stores-begin : DoStoresBegin
stores-begin stores x own =
    record {
      one_owner = λ f g y z a b key at-y at-z ca cb oa ob.
          let p = only f y at-y in
          let q = only g z at-z in
          (p ∙ sym q, (own a key (sym (ap (λ h. (stores h).cell a) p) ∙ ca)).1 b (sym (ap (λ h. (stores h).cell b) q) ∙ cb));
      lent = λ f y a key at-y ca oa.
          let p = only f y at-y in
          owned-lent ((stores 0).owning a) (own a key (sym (ap (λ h. (stores h).cell a) p) ∙ ca)).0 (sym (ap (λ h. (stores h).owning a) p) ∙ oa);
    }
  where
    none-some : (y : Live) → None ≡ Some y → ⊥
    none-some y e = cc

    only : (f : ℕ) (y : Live) → put (λ f. None) 0 (Some x) f ≡ Some y → f ≡ 0
    only f y is = go (ℕ_discrete f 0)
      where
        go : Dec (f ≡ 0) → f ≡ 0
        go (yes e) = e
        go (no ne) = absurd (none-some y (sym (put-other (λ f. None) 0 (Some x) f ne) ∙ is))

-- ---- tables with the same graphs, or fewer

-- each live graph of the second table is one of the first, and each node that has entered one is the same there
record IsFewer (table other : Table) : Type 0 where
  pub lives : (f : ℕ) (y : Live) → other f ≡ Some y → (x : Live) × (table f ≡ Some x) × (x.path ≡ y.path)
  pub above : (f : ℕ) (p : Path) (l k : ℕ) (up : IsParent other f p l k) → (old : IsParent table f p l k) × (old.at ≡ up.at)

fewer-stores : (table other : Table) (stores : ℕ → Store) → StoresStand table stores → IsFewer table other → StoresStand other stores
fewer-stores table other stores st fewer =
    record {
      one_owner = λ f g x y a b key at-x at-y ca cb oa ob.
          let p = fewer.lives f x at-x in
          let q = fewer.lives g y at-y in st.one_owner f g p.0 q.0 a b key p.1 q.1 ca cb oa ob;
      lent = λ f x a key at-x ca oa. let p = fewer.lives f x at-x in moved f x p.0 a key p.2 (st.lent f p.0 a key p.1 ca oa);
    }
  where
    moved : (f : ℕ) (x y : Live) (a : Port) (key : ℕ) → y.path ≡ x.path
        → (l k : ℕ) × (p : Path) × (y.path ≡ (l, k) ∷ p) × (b : Port) × ((up : IsParent table f p l k) → IsRead b ((stores up.at).reads l) × ((stores up.at).cell b ≡ Some (Kept key)))
        → (l k : ℕ) × (p : Path) × (x.path ≡ (l, k) ∷ p) × (b : Port) × ((up : IsParent other f p l k) → IsRead b ((stores up.at).reads l) × ((stores up.at).cell b ≡ Some (Kept key)))
    moved f x y a key same z = (
      z.0,
      z.1,
      z.2,
      sym same ∙ z.3,
      z.4,
      λ up.
          let old = fewer.above f z.2 z.0 z.1 up in
          subst (λ h. IsRead z.4 ((stores h).reads z.0) × ((stores h).cell z.4 ≡ Some (Kept key))) old.1 (z.5 old.0),
    )

-- a node above in a table where one state changed
module _ (table : Table) (f l : ℕ) (x : Live) (s : State) (at : table f ≡ Some x) where
  -- a graph of the table with the change is one of the table before
  put-lives : (h : ℕ) (y : Live) → put table f (Some (with_state x l s)) h ≡ Some y → (z : Live) × (table h ≡ Some z) × (z.path ≡ y.path)
  put-lives h y is = go (ℕ_discrete h f)
    where
      go : Dec (h ≡ f) → (z : Live) × (table h ≡ Some z) × (z.path ≡ y.path)
      go (yes e) =
          let same : with_state x l s ≡ y = some-same (with_state x l s) y (sym (ap (put table f (Some (with_state x l s))) e ∙ put-same table f (Some (with_state x l s))) ∙ is) in
          (x, ap table e ∙ at, ap (λ z. z.path) same)
      go (no ne) = (y, sym (put-other table f (Some (with_state x l s)) h ne) ∙ is, refl)

  put-above : (h : ℕ) (p : Path) (n k : ℕ) → ((s ≡ Within k h) → n ≡ l → ⊥) → (up : IsParent (put table f (Some (with_state x l s))) h p n k) → (old : IsParent table h p n k) × (old.at ≡ up.at)
  put-above h p n k other up = go (ℕ_discrete up.at f)
    where
      own : up.at ≡ f → with_state x l s ≡ up.live
      own e = some-same (with_state x l s) up.live (sym (ap (put table f (Some (with_state x l s))) e ∙ put-same table f (Some (with_state x l s))) ∙ up.found)

      state : (e : up.at ≡ f) → Dec (n ≡ l) → x.states n ≡ Within k h
      state e (yes q) =
          absurd (other (sym (ap (set_state x.states l s) q ∙ set-same x.states l s) ∙ (ap (λ z. z.states n) (own e) ∙ up.state)) q)
      state e (no ne) = sym (set-other x.states l s n ne) ∙ (ap (λ z. z.states n) (own e) ∙ up.state)

      go : Dec (up.at ≡ f) → (old : IsParent table h p n k) × (old.at ≡ up.at)
      go (yes e) = (
        record {
          at = up.at;
          live = x;
          found = ap table e ∙ at;
          path = ap (λ z. z.path) (own e) ∙ up.path;
          inside = subst (λ z. IsIn n z.labels) (sym (own e)) up.inside;
          state = state e (ℕ_discrete n l);
        },
        refl,
      )
      go (no ne) = (
        record {
          at = up.at;
          live = up.live;
          found = sym (put-other table f (Some (with_state x l s)) up.at ne) ∙ up.found;
          path = up.path;
          inside = up.inside;
          state = up.state;
        },
        refl,
      )

-- without one graph
none-fewer : (table : Table) (g : ℕ) → IsFewer table (put table g None)
none-fewer table g = record { lives = lives; above = above }
  where
    there : (h : ℕ) (y : Live) → put table g None h ≡ Some y → table h ≡ Some y
    there h y is = go (ℕ_discrete h g)
      where
        go : Dec (h ≡ g) → table h ≡ Some y
        go (yes e) = some-none y is (ap (put table g None) e ∙ put-same table g None)
        go (no ne) = sym (put-other table g None h ne) ∙ is

    lives : (f : ℕ) (y : Live) → put table g None f ≡ Some y → (x : Live) × (table f ≡ Some x) × (x.path ≡ y.path)
    lives f y is = (y, there f y is, refl)

    above : (f : ℕ) (p : Path) (l k : ℕ) (up : IsParent (put table g None) f p l k) → (old : IsParent table f p l k) × (old.at ≡ up.at)
    above f p l k up = (record { at = up.at; live = up.live; found = there up.at up.live up.found; path = up.path; inside = up.inside; state = up.state }, refl)

put-fewer : (table : Table) (f l : ℕ) (x : Live) (s : State) → table f ≡ Some x → IsNotWithin s → IsFewer table (put table f (Some (with_state x l s)))
put-fewer table f l x s at out =
    record { lives = put-lives table f l x s at; above = λ h p n k up. put-above table f l x s at h p n k (λ e q. out k h e) up }

pub stores-kept : AreStoresKept
stores-kept table stores f l x s st at out = (
  fewer-stores table (changed table f x l s 0 None) stores st (put-fewer table f l x s at out),
  λ g. left g (ℕ_discrete f g),
)
  where
    -- the graph that the node is in is the one that was left: its row was written again
    again : (g : ℕ) → f ≡ g → IsFewer table (put (put table g None) f (Some (with_state x l s)))
    again g e = record { lives = lives; above = above }
      where
        same : (h : ℕ) → put (put table g None) f (Some (with_state x l s)) h ≡ put table f (Some (with_state x l s)) h
        same h = go (ℕ_discrete h f)
          where
            go : Dec (h ≡ f) → put (put table g None) f (Some (with_state x l s)) h ≡ put table f (Some (with_state x l s)) h
            go (yes q) =
                ap (put (put table g None) f (Some (with_state x l s))) q
                ∙ (put-same (put table g None) f (Some (with_state x l s))
                ∙ (sym (put-same table f (Some (with_state x l s))) ∙ sym (ap (put table f (Some (with_state x l s))) q)))
            go (no ne) =
                put-other (put table g None) f (Some (with_state x l s)) h ne
                ∙ (put-other table g None h (λ q. ne (q ∙ sym e))
                ∙ sym (put-other table f (Some (with_state x l s)) h ne))

        lives : (h : ℕ) (y : Live) → put (put table g None) f (Some (with_state x l s)) h ≡ Some y → (z : Live) × (table h ≡ Some z) × (z.path ≡ y.path)
        lives h y is = put-lives table f l x s at h y (sym (same h) ∙ is)

        above : (h : ℕ) (p : Path) (n k : ℕ) (up : IsParent (put (put table g None) f (Some (with_state x l s))) h p n k) → (old : IsParent table h p n k) × (old.at ≡ up.at)
        above h p n k up =
            put-above table f l x s at h p n k (λ e q. out k h e)
            (record { at = up.at; live = up.live; found = sym (same up.at) ∙ up.found; path = up.path; inside = up.inside; state = up.state })

    left : (g : ℕ) → Dec (f ≡ g) → StoresStand (closed table f x l s g) stores
    left g (yes e) = fewer-stores table (closed table f x l s g) stores st (again g e)
    left g (no ne) =
        fewer-stores (put table g None) (closed table f x l s g) stores (fewer-stores table (put table g None) stores st (none-fewer table g))
        (put-fewer (put table g None) f l x s (put-other table g None f ne ∙ at) out)

-- ---- one port

pair-same : (b a : Port) → b.0 ≡ a.0 → b.1 ≡ a.1 → b ≡ a
pair-same (b, d) (a, c) p q = ap (λ z. (z, d)) p ∙ ap (λ z. (a, z)) q

same-port : (g f : ℕ) (b a : Port) → Dec ((g ≡ f) × (b ≡ a))
same-port g f b a = go (ℕ_discrete g f) (ℕ_discrete b.0 a.0) (ℕ_discrete b.1 a.1)
  where
    go : Dec (g ≡ f) → Dec (b.0 ≡ a.0) → Dec (b.1 ≡ a.1) → Dec ((g ≡ f) × (b ≡ a))
    go (no n) y z = no (λ e. n e.0)
    go (yes e) (no n) z = no (λ q. n (ap (λ w. w.0) q.1))
    go (yes e) (yes p) (no n) = no (λ q. n (ap (λ w. w.1) q.1))
    go (yes e) (yes p) (yes q) = yes (e, pair-same b a p q)

module _ (table : Table) (stores others : ℕ → Store) (f : ℕ) (a : Port) (st : StoresStand table stores) (differ : DifferAt stores others f a) where
  -- what another port has is what it had
  was : (g : ℕ) (b : Port) (o : Option Cell) → ¬ ((g ≡ f) × (b ≡ a)) → (others g).cell b ≡ o → (stores g).cell b ≡ o
  was g b o ne e = sym (differ.cells g b ne).0 ∙ e

  owned-before : (g : ℕ) (b : Port) (o : Owning) → ¬ ((g ≡ f) × (b ≡ a)) → (others g).owning b ≡ o → (stores g).owning b ≡ o
  owned-before g b o ne e = sym (differ.cells g b ne).1 ∙ e

  at-port : (o : Option Cell) (g : ℕ) (b : Port) → (others f).cell a ≡ o → (g ≡ f) × (b ≡ a) → (others g).cell b ≡ o
  at-port o g b e q = ap (λ z. (others z).cell b) q.0 ∙ (ap (others f).cell q.1 ∙ e)

  abbrev Lends : ℕ → Path → ℕ → ℕ → ℕ → Port → Type 0
  Lends g p l k key b = (up : IsParent table g p l k) → IsRead b ((others up.at).reads l) × ((others up.at).cell b ≡ Some (Kept key))

  -- a port lends what it lent, where it is another one
  lends : (g : ℕ) (p : Path) (l k key : ℕ) (b : Port) → ((up : IsParent table g p l k) → IsRead b ((stores up.at).reads l) × ((stores up.at).cell b ≡ Some (Kept key)))
      → ((up : IsParent table g p l k) → IsRead b ((stores up.at).reads l) → (stores up.at).cell b ≡ Some (Kept key) → ¬ ((up.at ≡ f) × (b ≡ a)))
      → Lends g p l k key b
  lends g p l k key b old other up =
      let q = old up in
      (subst (IsRead b) (sym (differ.reads up.at l)) q.0, (differ.cells up.at b (other up q.0 q.1)).0 ∙ q.1)

pub filling-kept : IsFillingKept
filling-kept table stores others f a c st differ empty full new =
    record {
      one_owner = λ g h x y b d key at-x at-y cb cd ob od. owner g h x y b d key at-x at-y cb cd ob od (same-port g f b a) (same-port h f d a);
      lent = λ g x b key at-x cb ob. lent g x b key at-x cb ob (same-port g f b a);
    }
  where
    is-kept : (g : ℕ) (b : Port) (key : ℕ) → (g ≡ f) × (b ≡ a) → (others g).cell b ≡ Some (Kept key) → c ≡ Kept key
    is-kept g b key q e = some-same c (Kept key) (sym (at-port table stores others f a st differ (Some c) g b full q) ∙ e)

    owner : (g h : ℕ) (x y : Live) (b d : Port) (key : ℕ) → table g ≡ Some x → table h ≡ Some y → (others g).cell b ≡ Some (Kept key) → (others h).cell d ≡ Some (Kept key) → (others g).owning b ≡ Owned → (others h).owning d ≡ Owned
        → Dec ((g ≡ f) × (b ≡ a)) → Dec ((h ≡ f) × (d ≡ a)) → (g ≡ h) × (b ≡ d)
    owner g h x y b d key at-x at-y cb cd ob od (yes p) (yes q) = (p.0 ∙ sym q.0, p.1 ∙ sym q.1)
    owner g h x y b d key at-x at-y cb cd ob od (yes p) (no q) =
        absurd ((new key (is-kept g b key p cb)).1 h y d at-y (was table stores others f a st differ h d (Some (Kept key)) q cd) (owned-before table stores others f a st differ h d Owned q od))
    owner g h x y b d key at-x at-y cb cd ob od (no p) (yes q) =
        absurd ((new key (is-kept h d key q cd)).1 g x b at-x (was table stores others f a st differ g b (Some (Kept key)) p cb) (owned-before table stores others f a st differ g b Owned p ob))
    owner g h x y b d key at-x at-y cb cd ob od (no p) (no q) =
        st.one_owner g h x y b d key at-x at-y (was table stores others f a st differ g b (Some (Kept key)) p cb) (was table stores others f a st differ h d (Some (Kept key)) q cd)
        (owned-before table stores others f a st differ g b Owned p ob) (owned-before table stores others f a st differ h d Owned q od)

    lent : (g : ℕ) (x : Live) (b : Port) (key : ℕ) → table g ≡ Some x → (others g).cell b ≡ Some (Kept key) → (others g).owning b ≡ Lent → Dec ((g ≡ f) × (b ≡ a))
        → (l k : ℕ) × (p : Path) × (x.path ≡ (l, k) ∷ p) × (d : Port) × ((up : IsParent table g p l k) → IsRead d ((others up.at).reads l) × ((others up.at).cell d ≡ Some (Kept key)))
    lent g x b key at-x cb ob (yes p) =
        owned-lent ((others f).owning a) (new key (is-kept g b key p cb)).0 (sym (ap (λ z. (others z).owning b) p.0 ∙ ap (others f).owning p.1) ∙ ob)
    lent g x b key at-x cb ob (no p) =
        let z = st.lent g x b key at-x (was table stores others f a st differ g b (Some (Kept key)) p cb) (owned-before table stores others f a st differ g b Lent p ob) in
        (z.0, z.1, z.2, z.3, z.4, lends table stores others f a st differ g z.2 z.0 z.1 key z.4 z.5 (λ up r e q. none-some key (sym empty ∙ (sym (ap (λ w. (stores w).cell z.4) q.0 ∙ ap (stores f).cell q.1) ∙ e))))
      where
        none-some : (key : ℕ) → None ≡ Some (Kept key) → ⊥
        none-some key e = cc

pub taking-kept : IsTakingKept
taking-kept table stores others f x a st differ at empty none =
    record {
      one_owner = λ g h y z b d key at-y at-z cb cd ob od.
          st.one_owner g h y z b d key at-y at-z
          (was table stores others f a st differ g b (Some (Kept key)) (other g b key cb) cb) (was table stores others f a st differ h d (Some (Kept key)) (other h d key cd) cd)
          (owned-before table stores others f a st differ g b Owned (other g b key cb) ob) (owned-before table stores others f a st differ h d Owned (other h d key cd) od);
      lent = λ g y b key at-y cb ob. lent g y b key at-y cb ob;
    }
  where
    none-some : (key : ℕ) → None ≡ Some (Kept key) → ⊥
    none-some key e = cc

    other : (g : ℕ) (b : Port) (key : ℕ) → (others g).cell b ≡ Some (Kept key) → ¬ ((g ≡ f) × (b ≡ a))
    other g b key e q = none-some key (sym (at-port table stores others f a st differ None g b empty q) ∙ e)

    lent : (g : ℕ) (y : Live) (b : Port) (key : ℕ) → table g ≡ Some y → (others g).cell b ≡ Some (Kept key) → (others g).owning b ≡ Lent
        → (l k : ℕ) × (p : Path) × (y.path ≡ (l, k) ∷ p) × (d : Port) × ((up : IsParent table g p l k) → IsRead d ((others up.at).reads l) × ((others up.at).cell d ≡ Some (Kept key)))
    lent g y b key at-y cb ob =
        let z = st.lent g y b key at-y (was table stores others f a st differ g b (Some (Kept key)) (other g b key cb) cb) (owned-before table stores others f a st differ g b Lent (other g b key cb) ob) in
        (z.0, z.1, z.2, z.3, z.4, lends table stores others f a st differ g z.2 z.0 z.1 key z.4 z.5 (λ up r e q. at-work z.2 z.0 z.1 z.4 up r q))
      where
        -- the node above is at work on what it lends
        at-work : (p : Path) (l k : ℕ) (d : Port) (up : IsParent table g p l k) → IsRead d ((stores up.at).reads l) → ¬ ((up.at ≡ f) × (d ≡ a))
        at-work p l k d up r q =
            let live : up.live ≡ x = some-same up.live x (sym up.found ∙ (ap table q.0 ∙ at)) in
            none l (subst (λ w. IsIn l w.labels) live up.inside)
            (subst (λ w. IsRead a ((stores w).reads l)) q.0 (subst (λ w. IsRead w ((stores up.at).reads l)) q.1 r))
            (subst IsAtWork (sym (sym (ap (λ w. w.states l) live) ∙ up.state)) tt)

-- ---- a graph is entered

module _ (run : Run) (c m : Test) (table : Table) (root f l k g : ℕ) (x y : Live) (stores others : ℕ → Store)
    (stands : TableStands run c m (changed table f x l (Within k g) g (Some y)) root) (st : StoresStand table stores) (at : table f ≡ Some x) (vacant : table g ≡ None)
    (path : y.path ≡ (l, k) ∷ x.path) (fresh : (n : ℕ) → IsNotWithin (y.states n))
    (same : (h : ℕ) → ¬ (h ≡ g) → others h ≡ stores h) (inputs : (a : Port) (key : ℕ) → (others g).cell a ≡ Some (Kept key) → IsInput table stores f l (others g) a key)
  where
    new : Table
    new = put table g (Some y)

    not-f : ¬ (f ≡ g)
    not-f e = some-none x at (ap table e ∙ vacant)

    at-new : put table g (Some y) f ≡ Some x
    at-new = put-other table g (Some y) f not-f ∙ at

    found-f : put (put table g (Some y)) f (Some (with_state x l (Within k g))) f ≡ Some (with_state x l (Within k g))
    found-f = put-same (put table g (Some y)) f (Some (with_state x l (Within k g)))

    -- a live graph is the new one, or was there
    data Placed (h : ℕ) (z : Live) : Type 0 where
      is_new : h ≡ g → z ≡ y → Placed h z
      was_there : ¬ (h ≡ g) → (w : Live) → table h ≡ Some w → w.path ≡ z.path → Placed h z

    place : (h : ℕ) (z : Live) → put (put table g (Some y)) f (Some (with_state x l (Within k g))) h ≡ Some z → Placed h z
    place h z is = go (put-lives (put table g (Some y)) f l x (Within k g) at-new h z is) (ℕ_discrete h g)
      where
        of-new : (w : Live) → put table g (Some y) h ≡ Some w → w.path ≡ z.path → Dec (h ≡ f) → h ≡ g → z ≡ y
        of-new w there p (yes q) e = absurd (not-f (sym q ∙ e))
        of-new w there p (no ne) e =
            some-same z y (sym (sym (put-other (put table g (Some y)) f (Some (with_state x l (Within k g))) h ne) ∙ is) ∙ (ap (put table g (Some y)) e ∙ put-same table g (Some y)))

        go : (w : Live) × (put table g (Some y) h ≡ Some w) × (w.path ≡ z.path) → Dec (h ≡ g) → Placed h z
        go w (yes e) = is_new e (of-new w.0 w.1 w.2 (ℕ_discrete h f) e)
        go w (no ne) = was_there ne w.0 (sym (put-other table g (Some y) h ne) ∙ w.1) w.2

    stored : (h : ℕ) (b : Port) (o : Option Cell) → ¬ (h ≡ g) → (others h).cell b ≡ o → (stores h).cell b ≡ o
    stored h b o ne e = sym (ap (λ w. w.cell b) (same h ne)) ∙ e

    owns : (h : ℕ) (b : Port) (o : Owning) → ¬ (h ≡ g) → (others h).owning b ≡ o → (stores h).owning b ≡ o
    owns h b o ne e = sym (ap (λ w. w.owning b) (same h ne)) ∙ e

    -- an owned input has a key that no port there before owns
    unowned : (a : Port) (key : ℕ) → IsInput table stores f l (others g) a key → (others g).owning a ≡ Owned
        → IsUnowned table stores key × ((b : Port) → (others g).cell b ≡ Some (Kept key) → (others g).owning b ≡ Owned → a ≡ b)
    unowned a key (inl i) o = (i.1, i.2)
    unowned a key (inr i) o = owned-lent ((others g).owning a) o i.0

    owner : (h i : ℕ) (z w : Live) (a b : Port) (key : ℕ) → Placed h z → Placed i w → (others h).cell a ≡ Some (Kept key) → (others i).cell b ≡ Some (Kept key) → (others h).owning a ≡ Owned → (others i).owning b ≡ Owned → (h ≡ i) × (a ≡ b)
    owner h i z w a b key (is_new p _) (is_new q _) ca cb oa ob =
        let ca' = sym (ap (λ v. (others v).cell a) p) ∙ ca in
        let cb' = sym (ap (λ v. (others v).cell b) q) ∙ cb in
        let oa' = sym (ap (λ v. (others v).owning a) p) ∙ oa in
        let ob' = sym (ap (λ v. (others v).owning b) q) ∙ ob in
        (p ∙ sym q, (unowned a key (inputs a key ca') oa').1 b cb' ob')
    owner h i z w a b key (is_new p _) (was_there ne v there _) ca cb oa ob =
        let ca' = sym (ap (λ v. (others v).cell a) p) ∙ ca in
        let oa' = sym (ap (λ v. (others v).owning a) p) ∙ oa in
        absurd ((unowned a key (inputs a key ca') oa').0 i v b there (stored i b (Some (Kept key)) ne cb) (owns i b Owned ne ob))
    owner h i z w a b key (was_there ne v there _) (is_new q _) ca cb oa ob =
        let cb' = sym (ap (λ v. (others v).cell b) q) ∙ cb in
        let ob' = sym (ap (λ v. (others v).owning b) q) ∙ ob in
        absurd ((unowned b key (inputs b key cb') ob').0 h v a there (stored h a (Some (Kept key)) ne ca) (owns h a Owned ne oa))
    owner h i z w a b key (was_there ne v there _) (was_there me u here _) ca cb oa ob =
        st.one_owner h i v u a b key there here (stored h a (Some (Kept key)) ne ca) (stored i b (Some (Kept key)) me cb) (owns h a Owned ne oa) (owns i b Owned me ob)

    abbrev Lender : ℕ → Live → ℕ → Type 0
    Lender h z key =
        (n j : ℕ) × (p : Path) × (z.path ≡ (n, j) ∷ p) × (b : Port)
        × ((up : IsParent (put (put table g (Some y)) f (Some (with_state x l (Within k g)))) h p n j) → IsRead b ((others up.at).reads n) × ((others up.at).cell b ≡ Some (Kept key)))

    -- of the new graph: the node that entered it
    new-lender : (h : ℕ) (z : Live) (a : Port) (key : ℕ) → z ≡ y → IsInput table stores f l (others g) a key → (others g).owning a ≡ Lent → Lender h z key
    new-lender h z a key e (inl i) o = owned-lent ((others g).owning a) i.0 o
    new-lender h z a key e (inr i) o = (l, k, x.path, ap (λ w. w.path) e ∙ path, i.1.0, λ up. from up)
      where
        from : (up : IsParent (put (put table g (Some y)) f (Some (with_state x l (Within k g)))) h x.path l k) → IsRead i.1.0 ((others up.at).reads l) × ((others up.at).cell i.1.0 ≡ Some (Kept key))
        from up =
            let at-f : up.at ≡ f = stands.once up.at f up.live (with_state x l (Within k g)) up.found found-f up.path in
            let store : others up.at ≡ stores f = ap others at-f ∙ same f not-f in
            (subst (λ w. IsRead i.1.0 (w.reads l)) (sym store) i.1.1, ap (λ w. w.cell i.1.0) store ∙ i.1.2)

    -- of another graph: the one that it was
    old-lender : (h : ℕ) (z w : Live) (a : Port) (key : ℕ) → ¬ (h ≡ g) → table h ≡ Some w → w.path ≡ z.path → (stores h).cell a ≡ Some (Kept key) → (stores h).owning a ≡ Lent → Lender h z key
    old-lender h z w a key ne there p ca oa = go (st.lent h w a key there ca oa)
      where
        go : (n j : ℕ) × (q : Path) × (w.path ≡ (n, j) ∷ q) × (b : Port) × ((up : IsParent table h q n j) → IsRead b ((stores up.at).reads n) × ((stores up.at).cell b ≡ Some (Kept key))) → Lender h z key
        go o = (o.0, o.1, o.2, sym p ∙ o.3, o.4, λ up. from up)
          where
            from : (up : IsParent (put (put table g (Some y)) f (Some (with_state x l (Within k g)))) h o.2 o.0 o.1) → IsRead o.4 ((others up.at).reads o.0) × ((others up.at).cell o.4 ≡ Some (Kept key))
            from up = by (put-above (put table g (Some y)) f l x (Within k g) at-new h o.2 o.0 o.1 (λ e q. ne (sym (within-same k g o.1 h e).1)) up)
              where
                in-old : (mid : IsParent (put table g (Some y)) h o.2 o.0 o.1) → mid.at ≡ up.at → Dec (mid.at ≡ g) → IsRead o.4 ((others up.at).reads o.0) × ((others up.at).cell o.4 ≡ Some (Kept key))
                in-old mid e (yes q) =
                    let live : mid.live ≡ y = some-same mid.live y (sym mid.found ∙ (ap (put table g (Some y)) q ∙ put-same table g (Some y))) in
                    absurd (fresh o.0 o.1 h (sym (ap (λ v. v.states o.0) live) ∙ mid.state))
                in-old mid e (no nq) =
                    let old : IsParent table h o.2 o.0 o.1 =
                    record { at = mid.at; live = mid.live; found = sym (put-other table g (Some y) mid.at nq) ∙ mid.found; path = mid.path; inside = mid.inside; state = mid.state } in
                    let r = o.5 old in
                    let store : stores mid.at ≡ others up.at = sym (same mid.at nq) ∙ ap others e in
                    (subst (λ v. IsRead o.4 (v.reads o.0)) store r.0, sym (ap (λ v. v.cell o.4) store) ∙ r.1)

                by : (old : IsParent (put table g (Some y)) h o.2 o.0 o.1) × (old.at ≡ up.at) → IsRead o.4 ((others up.at).reads o.0) × ((others up.at).cell o.4 ≡ Some (Kept key))
                by mid = in-old mid.0 mid.1 (ℕ_discrete mid.0.at g)

    lender : (h : ℕ) (z : Live) (a : Port) (key : ℕ) → Placed h z → (others h).cell a ≡ Some (Kept key) → (others h).owning a ≡ Lent → Lender h z key
    lender h z a key (is_new e q) ca oa = new-lender h z a key q (inputs a key (sym (ap (λ v. (others v).cell a) e) ∙ ca)) (sym (ap (λ v. (others v).owning a) e) ∙ oa)
    lender h z a key (was_there ne w there p) ca oa = old-lender h z w a key ne there p (stored h a (Some (Kept key)) ne ca) (owns h a Lent ne oa)

    pub entered-stores : StoresStand (put (put table g (Some y)) f (Some (with_state x l (Within k g)))) others
    entered-stores =
        record {
          one_owner = λ h i z w a b key at-z at-w ca cb oa ob. owner h i z w a b key (place h z at-z) (place i w at-w) ca cb oa ob;
          lent = λ h z a key at-z ca oa. lender h z a key (place h z at-z) ca oa;
        }

pub entering-kept : IsEnteringKept
entering-kept run c m table root f l k g x y stores others stands st at vacant path fresh same inputs =
    entered-stores run c m table root f l k g x y stores others stands st at vacant path fresh same inputs
