-- Each aggregate has one place, after each event.
use Rattle.std.proofs.Common.{◌≡◌, ℕ, Bool, true, false, ◌∷◌, ◌⊎◌, Option, Some, None, inl, inr, refl, sym, ap, ◌∙◌, subst}
use native.Mathlib.Decide.{ℕ_discrete}
use Rattle.graph_meaning.specs.Entered.{IsIn}
use Rattle.graph_meaning.specs.Histories.{Run}
use Rattle.run_states.specs.Standing.{Path, Test, State, Within, Live, Table, TableStands, IsParent, with_state, put, changed, closed}
use Rattle.run_states.specs.Storing.{Cell, Kept, Port, Owning, Owned, Lent, Store, IsRead, IsAtWork, StoresStand, NoReader}
use Rattle.run_states.specs.Moving.{IsNotWithin, DifferAt, IsUnowned, IsInput}
use Rattle.run_states.proofs.Lookups.{put-same, put-other, set-same, set-other, some-same, some-none}
use Rattle.run_states.proofs.Moving.{stores-begin, stores-kept, taking-kept, entering-kept}
use Rattle.run_events.specs.Hands.{Hand, Hands, HasInHand, IsFree, HandsStand, IsAtHand, IsRegrasped, AreFilled, IsEntered, IsTakenOver, AreAllHandsKept, DoHandsBegin}

pub none-key : {P : Type 0} (key : ℕ) → None ≡ Some key → P
none-key key e = absurd (clash e)
  where
    clash : None ≡ Some key → ⊥
    clash e = cc

pub none-cell : {P : Type 0} (c : Cell) → None ≡ Some c → P
none-cell c e = absurd (clash e)
  where
    clash : None ≡ Some c → ⊥
    clash e = cc

pub owned-lent : {P : Type 0} (o : Owning) → o ≡ Owned → o ≡ Lent → P
owned-lent o a b = absurd (cannot (sym a ∙ b))
  where
    cannot : Owned ≡ Lent → ⊥
    cannot e = cc

-- whether this is that node
this-node : (g f n l : ℕ) → Dec ((g ≡ f) × (n ≡ l))
this-node g f n l = go (ℕ_discrete g f) (ℕ_discrete n l)
  where
    go : Dec (g ≡ f) → Dec (n ≡ l) → Dec ((g ≡ f) × (n ≡ l))
    go (no a) q = no (λ e. a e.0)
    go (yes a) (no b) = no (λ e. b e.1)
    go (yes a) (yes b) = yes (a, b)

-- ---- who has a key

module _ (table : Table) (stores : ℕ → Store) (hands : Hands) (st : HandsStand table stores hands) where
  pub at-hand-unowned : (f l key : ℕ) → IsAtHand table stores hands f l key → IsUnowned table stores key
  at-hand-unowned f l key (inl free) = free.unowned
  at-hand-unowned f l key (inr h) = st.unowned f l h.0 key h.1

  -- another node does not have in its hands what is free, or in the hands of this one
  pub not-another : (f l g n : ℕ) (i : Hand) (key : ℕ) → IsAtHand table stores hands f l key → HasInHand table hands g n i key → ¬ ((g ≡ f) × (n ≡ l)) → ⊥
  not-another f l g n i key (inl free) h ne = free.in_no_hand g n i h
  not-another f l g n i key (inr o) h ne = let q = st.once g n i f l o.0 key h o.1 in ne (q.0, q.1)

  -- the same of what a port of a graph owns
  not-owned : (g n : ℕ) (i : Hand) (key : ℕ) → HasInHand table hands g n i key → (f : ℕ) (x : Live) (a : Port) → table f ≡ Some x → (stores f).cell a ≡ Some (Kept key) → (stores f).owning a ≡ Owned → ⊥
  not-owned g n i key h f x a at cell own = st.unowned g n i key h f x a at cell own

-- ---- a state changes

module _ (table : Table) (f l : ℕ) (x : Live) (s : State) (at : table f ≡ Some x) where
  abbrev now : Table
  now = put table f (Some (with_state x l s))

  data Was (g : ℕ) (y : Live) : Type 0 where
    was_here : g ≡ f → with_state x l s ≡ y → Was g y
    was_there : ¬ (g ≡ f) → table g ≡ Some y → Was g y

  was : (g : ℕ) (y : Live) → now g ≡ Some y → Was g y
  was g y is = go (ℕ_discrete g f)
    where
      go : Dec (g ≡ f) → Was g y
      go (yes e) = was_here e (some-same (with_state x l s) y (sym (ap now e ∙ put-same table f (Some (with_state x l s))) ∙ is))
      go (no ne) = was_there ne (sym (put-other table f (Some (with_state x l s)) g ne) ∙ is)

  -- the same node had it before
  before : (hands : Hands) (g n : ℕ) (i : Hand) (key : ℕ) → HasInHand now hands g n i key → HasInHand table hands g n i key
  before hands g n i key h = go (was g h.live h.found)
    where
      go : Was g h.live → HasInHand table hands g n i key
      go (was_here e q) = record { live = x; found = ap table e ∙ at; inside = subst (λ z. IsIn n z.labels) (sym q) h.inside; has = h.has }
      go (was_there ne is) = record { live = h.live; found = is; inside = h.inside; has = h.has }

  lived : (g : ℕ) (y : Live) → now g ≡ Some y → (z : Live) × (table g ≡ Some z)
  lived g y is = go (was g y is)
    where
      go : Was g y → (z : Live) × (table g ≡ Some z)
      go (was_here e q) = (x, ap table e ∙ at)
      go (was_there ne is) = (y, is)

  -- who was at work is, but for this node
  works : (hands : Hands) → ((g n : ℕ) (i : Hand) (key : ℕ) (h : HasInHand table hands g n i key) → ¬ ((g ≡ f) × (n ≡ l)) → IsAtWork (h.live.states n)) → (IsAtWork s ⊎ ((i : Hand) → hands f l i ≡ None))
      → (g n : ℕ) (i : Hand) (key : ℕ) (h : HasInHand now hands g n i key) → IsAtWork (h.live.states n)
  works hands old still g n i key h = go (was g h.live h.found)
    where
      here : g ≡ f → n ≡ l → (IsAtWork s ⊎ ((i : Hand) → hands f l i ≡ None)) → IsAtWork ((with_state x l s).states n)
      here e q (inl w) = subst IsAtWork (sym (ap (with_state x l s).states q ∙ set-same x.states l s)) w
      here e q (inr none) = none-key key (sym (none i) ∙ (sym (ap (λ z. hands z l i) e) ∙ (sym (ap (λ z. hands g z i) q) ∙ h.has)))

      own : g ≡ f → with_state x l s ≡ h.live → Dec (n ≡ l) → IsAtWork (h.live.states n)
      own e q (yes p) = subst (λ z. IsAtWork (z.states n)) q (here e p still)
      own e q (no p) =
          subst (λ z. IsAtWork (z.states n)) q
          (subst IsAtWork (sym (set-other x.states l s n p))
          (old g n i key (record { live = x; found = ap table e ∙ at; inside = subst (λ z. IsIn n z.labels) (sym q) h.inside; has = h.has }) (λ w. p w.1)))

      go : Was g h.live → IsAtWork (h.live.states n)
      go (was_here e q) = own e q (ℕ_discrete n l)
      go (was_there ne is) = old g n i key (record { live = h.live; found = is; inside = h.inside; has = h.has }) (λ w. ne w.0)

module _ (table : Table) (stores : ℕ → Store) (hands : Hands) (st : HandsStand table stores hands) where
  hands-moved : (f l : ℕ) (x : Live) (s : State) → table f ≡ Some x → IsNotWithin s → (IsAtWork s ⊎ ((i : Hand) → hands f l i ≡ None)) → HandsStand (changed table f x l s 0 None) stores hands
  hands-moved f l x s at out still =
      record {
        ports = (stores-kept table stores f l x s st.ports at out).0;
        unowned = λ g n i key h h' y a is cell own. let w = lived table f l x s at h' y is in st.unowned g n i key (before table f l x s at hands g n i key h) h' w.0 a w.1 cell own;
        once = λ g n i h m j key p q. st.once g n i h m j key (before table f l x s at hands g n i key p) (before table f l x s at hands h m j key q);
        at_work = works table f l x s at hands (λ g n i key h ne. st.at_work g n i key h) still;
      }

  -- ---- a port is emptied

  hands-taken : (others : ℕ → Store) (f : ℕ) (x : Live) (a : Port) → DifferAt stores others f a → table f ≡ Some x → (others f).cell a ≡ None → NoReader table stores f x a
      → HandsStand table others hands × ((key : ℕ) → (stores f).cell a ≡ Some (Kept key) → (stores f).owning a ≡ Owned → IsFree table others hands key)
  hands-taken others f x a differ at empty none = (
    record {
      ports = taking-kept table stores others f x a st.ports differ at empty none;
      unowned = λ g n i key h. still key (st.unowned g n i key h);
      once = st.once;
      at_work = st.at_work;
    },
    λ key cell own.
        record {
          unowned = λ g y b is kept owned.
              let ne = other g b key kept in
              let same = st.ports.one_owner g f y x b a key is at (sym (differ.cells g b ne).0 ∙ kept) cell (sym (differ.cells g b ne).1 ∙ owned) own in
              absurd (ne same);
          in_no_hand = λ g n i h. st.unowned g n i key h f x a at cell own;
        },
  )
    where
      other : (g : ℕ) (b : Port) (key : ℕ) → (others g).cell b ≡ Some (Kept key) → ¬ ((g ≡ f) × (b ≡ a))
      other g b key kept q = none-cell (Kept key) (sym empty ∙ (sym (ap (λ z. (others z).cell b) q.0 ∙ ap (others f).cell q.1) ∙ kept))

      still : (key : ℕ) → IsUnowned table stores key → IsUnowned table others key
      still key un g y b is kept owned =
          let ne = other g b key kept in
          un g y b is (sym (differ.cells g b ne).0 ∙ kept) (sym (differ.cells g b ne).1 ∙ owned)

  -- ---- a node changes what it has in its hands

  module _ (after : Hands) (f l : ℕ) (x : Live) (at : table f ≡ Some x) (work : IsAtWork (x.states l)) (r : IsRegrasped table stores hands after f l) where
    same-hand : (g n : ℕ) (i : Hand) (key : ℕ) → ¬ ((g ≡ f) × (n ≡ l)) → HasInHand table after g n i key → HasInHand table hands g n i key
    same-hand g n i key ne h = record { live = h.live; found = h.found; inside = h.inside; has = sym (r.same g n i ne) ∙ h.has }

    here : (g n : ℕ) (i : Hand) (key : ℕ) → (g ≡ f) × (n ≡ l) → HasInHand table after g n i key → after f l i ≡ Some key
    here g n i key q h = sym (ap (λ z. after z n i) q.0 ∙ ap (λ z. after f z i) q.1) ∙ h.has

    unowned-now : (g n : ℕ) (i : Hand) (key : ℕ) → HasInHand table after g n i key → Dec ((g ≡ f) × (n ≡ l)) → IsUnowned table stores key
    unowned-now g n i key h (yes q) = at-hand-unowned table stores hands st f l key (r.has i key (here g n i key q h))
    unowned-now g n i key h (no ne) = st.unowned g n i key (same-hand g n i key ne h)

    once-now : (g n : ℕ) (i : Hand) (h m : ℕ) (j : Hand) (key : ℕ) → HasInHand table after g n i key → HasInHand table after h m j key → Dec ((g ≡ f) × (n ≡ l)) → Dec ((h ≡ f) × (m ≡ l)) → (g ≡ h) × (n ≡ m) × (i ≡ j)
    once-now g n i h m j key p q (yes a) (yes b) = (a.0 ∙ sym b.0, a.1 ∙ sym b.1, r.once i j key (here g n i key a p) (here h m j key b q))
    once-now g n i h m j key p q (yes a) (no b) = absurd (not-another table stores hands st f l h m j key (r.has i key (here g n i key a p)) (same-hand h m j key b q) b)
    once-now g n i h m j key p q (no a) (yes b) = absurd (not-another table stores hands st f l g n i key (r.has j key (here h m j key b q)) (same-hand g n i key a p) a)
    once-now g n i h m j key p q (no a) (no b) = st.once g n i h m j key (same-hand g n i key a p) (same-hand h m j key b q)

    work-now : (g n : ℕ) (i : Hand) (key : ℕ) (h : HasInHand table after g n i key) → Dec ((g ≡ f) × (n ≡ l)) → IsAtWork (h.live.states n)
    unfolding same-hand
    work-now g n i key h (yes q) =
        let live : x ≡ h.live = some-same x h.live (sym at ∙ (sym (ap table q.0) ∙ h.found)) in
        subst (λ z. IsAtWork (z.states n)) live (subst (λ z. IsAtWork (x.states z)) (sym q.1) work)
    work-now g n i key h (no ne) = st.at_work g n i key (same-hand g n i key ne h)

    hands-regrasped : HandsStand table stores after
    hands-regrasped =
        record {
          ports = st.ports;
          unowned = λ g n i key h. unowned-now g n i key h (this-node g f n l);
          once = λ g n i h m j key p q. once-now g n i h m j key p q (this-node g f n l) (this-node h f m l);
          at_work = λ g n i key h. work-now g n i key h (this-node g f n l);
        }

  -- ---- ports are filled

  module _ (others : ℕ → Store) (after : Hands) (f l : ℕ) (x : Live) (new : Port → Bool) (at : table f ≡ Some x) (w : AreFilled table stores others hands after f l new) where
    is-new : (g : ℕ) (b : Port) → Dec ((g ≡ f) × (new b ≡ true))
    is-new g b = go (ℕ_discrete g f) (new b) refl
      where
        false-true : false ≡ true → ⊥
        false-true e = cc

        go : Dec (g ≡ f) → (t : Bool) → new b ≡ t → Dec ((g ≡ f) × (new b ≡ true))
        go (no a) t q = no (λ e. a e.0)
        go (yes a) true q = yes (a, q)
        go (yes a) false q = no (λ e. false-true (sym q ∙ e.1))

    old-cell : (g : ℕ) (b : Port) (o : Option Cell) → ¬ ((g ≡ f) × (new b ≡ true)) → (others g).cell b ≡ o → (stores g).cell b ≡ o
    old-cell g b o ne e = sym (w.cells g b ne).0 ∙ e

    old-owning : (g : ℕ) (b : Port) (o : Owning) → ¬ ((g ≡ f) × (new b ≡ true)) → (others g).owning b ≡ o → (stores g).owning b ≡ o
    old-owning g b o ne e = sym (w.cells g b ne).1 ∙ e

    new-cell : (g : ℕ) (b : Port) (o : Option Cell) → (g ≡ f) × (new b ≡ true) → (others g).cell b ≡ o → (others f).cell b ≡ o
    new-cell g b o q e = sym (ap (λ z. (others z).cell b) q.0) ∙ e

    owner : (g h : ℕ) (y z : Live) (b d : Port) (key : ℕ) → table g ≡ Some y → table h ≡ Some z → (others g).cell b ≡ Some (Kept key) → (others h).cell d ≡ Some (Kept key) → (others g).owning b ≡ Owned → (others h).owning d ≡ Owned
        → Dec ((g ≡ f) × (new b ≡ true)) → Dec ((h ≡ f) × (new d ≡ true)) → (g ≡ h) × (b ≡ d)
    owner g h y z b d key at-y at-z cb cd ob od (yes p) (yes q) = (p.0 ∙ sym q.0, w.each_own b d key p.1 q.1 (new-cell g b (Some (Kept key)) p cb) (new-cell h d (Some (Kept key)) q cd))
    owner g h y z b d key at-y at-z cb cd ob od (yes p) (no q) =
        absurd (at-hand-unowned table stores hands st f l key (w.own b key p.1 (new-cell g b (Some (Kept key)) p cb)).1 h z d at-z (old-cell h d (Some (Kept key)) q cd) (old-owning h d Owned q od))
    owner g h y z b d key at-y at-z cb cd ob od (no p) (yes q) =
        absurd (at-hand-unowned table stores hands st f l key (w.own d key q.1 (new-cell h d (Some (Kept key)) q cd)).1 g y b at-y (old-cell g b (Some (Kept key)) p cb) (old-owning g b Owned p ob))
    owner g h y z b d key at-y at-z cb cd ob od (no p) (no q) =
        st.ports.one_owner g h y z b d key at-y at-z (old-cell g b (Some (Kept key)) p cb) (old-cell h d (Some (Kept key)) q cd) (old-owning g b Owned p ob) (old-owning h d Owned q od)

    abbrev Lender : ℕ → Live → ℕ → Type 0
    Lender g y key = (n k : ℕ) × (p : Path) × (y.path ≡ (n, k) ∷ p) × (d : Port) × ((up : IsParent table g p n k) → IsRead d ((others up.at).reads n) × ((others up.at).cell d ≡ Some (Kept key)))

    lender : (g : ℕ) (y : Live) (b : Port) (key : ℕ) → table g ≡ Some y → (others g).cell b ≡ Some (Kept key) → (others g).owning b ≡ Lent → Dec ((g ≡ f) × (new b ≡ true)) → Lender g y key
    lender g y b key at-y cb ob (yes p) =
        owned-lent ((others f).owning b) (w.own b key p.1 (new-cell g b (Some (Kept key)) p cb)).0 (sym (ap (λ z. (others z).owning b) p.0) ∙ ob)
    lender g y b key at-y cb ob (no p) =
        let z = st.ports.lent g y b key at-y (old-cell g b (Some (Kept key)) p cb) (old-owning g b Lent p ob) in
        (z.0, z.1, z.2, z.3, z.4, λ up. let q = z.5 up in (subst (IsRead z.4) (sym (w.reads up.at z.0)) q.0, (w.cells up.at z.4 (was-full up.at z.4 key q.1)).0 ∙ q.1))
      where
        was-full : (h : ℕ) (d : Port) (key : ℕ) → (stores h).cell d ≡ Some (Kept key) → ¬ ((h ≡ f) × (new d ≡ true))
        was-full h d key full q = none-cell (Kept key) (sym (w.empty d q.1) ∙ (sym (ap (λ z. (stores z).cell d) q.0) ∙ full))

    had : (g n : ℕ) (i : Hand) (key : ℕ) → HasInHand table after g n i key → Dec ((g ≡ f) × (n ≡ l)) → hands g n i ≡ Some key
    had g n i key h (yes q) =
        let e = sym (ap (λ z. after z n i) q.0 ∙ ap (λ z. after f z i) q.1) ∙ h.has in
        ap (λ z. hands z n i) q.0 ∙ (ap (λ z. hands f z i) q.1 ∙ (w.hands_left i key e).0)
    had g n i key h (no ne) = sym (w.hands_same g n i ne) ∙ h.has

    old-hand : (g n : ℕ) (i : Hand) (key : ℕ) → HasInHand table after g n i key → HasInHand table hands g n i key
    old-hand g n i key h = record { live = h.live; found = h.found; inside = h.inside; has = had g n i key h (this-node g f n l) }

    not-new : (g n : ℕ) (i : Hand) (key : ℕ) (b : Port) → HasInHand table after g n i key → new b ≡ true → (others f).cell b ≡ Some (Kept key) → Dec ((g ≡ f) × (n ≡ l)) → ⊥
    not-new g n i key b h is-one full (yes q) = (w.hands_left i key (sym (ap (λ z. after z n i) q.0 ∙ ap (λ z. after f z i) q.1) ∙ h.has)).1 b is-one full
    not-new g n i key b h is-one full (no ne) = not-another table stores hands st f l g n i key (w.own b key is-one full).1 (old-hand g n i key h) ne

    filled-unowned : (g n : ℕ) (i : Hand) (key : ℕ) → HasInHand table after g n i key → (h : ℕ) (y : Live) (b : Port) → table h ≡ Some y → (others h).cell b ≡ Some (Kept key) → (others h).owning b ≡ Owned → Dec ((h ≡ f) × (new b ≡ true)) → ⊥
    filled-unowned g n i key hand h y b is cb ob (yes q) = not-new g n i key b hand q.1 (new-cell h b (Some (Kept key)) q cb) (this-node g f n l)
    filled-unowned g n i key hand h y b is cb ob (no q) = st.unowned g n i key (old-hand g n i key hand) h y b is (old-cell h b (Some (Kept key)) q cb) (old-owning h b Owned q ob)

    hands-filled : HandsStand table others after
    unfolding old-hand
    hands-filled =
        record {
          ports =
              record {
                one_owner = λ g h y z b d key at-y at-z cb cd ob od. owner g h y z b d key at-y at-z cb cd ob od (is-new g b) (is-new h d);
                lent = λ g y b key at-y cb ob. lender g y b key at-y cb ob (is-new g b);
              };
          unowned = λ g n i key hand h y b is cb ob. filled-unowned g n i key hand h y b is cb ob (is-new h b);
          once = λ g n i h m j key p q. st.once g n i h m j key (old-hand g n i key p) (old-hand h m j key q);
          at_work = λ g n i key h. st.at_work g n i key (old-hand g n i key h);
        }

  -- ---- a graph is entered

  module _ (run : Run) (c m : Test) (root : ℕ) (others : ℕ → Store) (after : Hands) (f l k g : ℕ) (x y : Live) (stands : TableStands run c m (changed table f x l (Within k g) g (Some y)) root)
      (at : table f ≡ Some x) (vacant : table g ≡ None) (path : y.path ≡ (l, k) ∷ x.path) (fresh : (n : ℕ) → IsNotWithin (y.states n)) (w : IsEntered table stores others hands after f l g)
    where
      input : (a : Port) (key : ℕ) → (others g).cell a ≡ Some (Kept key) → (o : Owning) → (others g).owning a ≡ o → IsInput table stores f l (others g) a key
      input a key ca Owned oa = inl (oa, at-hand-unowned table stores hands st f l key (w.own a key ca oa), λ b cb ob. w.each_own a b key ca cb oa ob)
      input a key ca Lent oa = inr (oa, w.lent a key ca oa)

      ports-entered : StoresStand (changed table f x l (Within k g) g (Some y)) others
      ports-entered = entering-kept run c m table root f l k g x y stores others stands st.ports at vacant path fresh w.stores_same (λ a key ca. input a key ca ((others g).owning a) refl)

      not-g : ¬ (f ≡ g)
      not-g e = some-none x at (ap table e ∙ vacant)

      at-mid : put table g (Some y) f ≡ Some x
      at-mid = put-other table g (Some y) f not-g ∙ at

      -- where nothing is in the hands of the new graph's nodes, another one's had it
      not-there : (h n : ℕ) (i : Hand) (key : ℕ) → after h n i ≡ Some key → ¬ (h ≡ g)
      not-there h n i key has e = none-key key (sym (w.empty_hands n i) ∙ (sym (ap (λ z. after z n i) e) ∙ has))

      had-in : (h n : ℕ) (i : Hand) (key : ℕ) → after h n i ≡ Some key → Dec ((h ≡ f) × (n ≡ l)) → hands h n i ≡ Some key
      had-in h n i key has (yes q) =
          let e = sym (ap (λ z. after z n i) q.0 ∙ ap (λ z. after f z i) q.1) ∙ has in
          ap (λ z. hands z n i) q.0 ∙ (ap (λ z. hands f z i) q.1 ∙ (w.hands_left i key e).0)
      had-in h n i key has (no ne) = sym (w.hands_same h n i (not-there h n i key has) ne) ∙ has

      old-in : (h n : ℕ) (i : Hand) (key : ℕ) → HasInHand (changed table f x l (Within k g) g (Some y)) after h n i key → HasInHand table hands h n i key
      old-in h n i key hand =
          let b = before (put table g (Some y)) f l x (Within k g) at-mid after h n i key hand in
          record { live = b.live; found = sym (put-other table g (Some y) h (not-there h n i key hand.has)) ∙ b.found; inside = b.inside; has = had-in h n i key hand.has (this-node h f n l) }

      own-input : (h n : ℕ) (i : Hand) (key : ℕ) (b : Port) → HasInHand (changed table f x l (Within k g) g (Some y)) after h n i key → (others g).cell b ≡ Some (Kept key) → (others g).owning b ≡ Owned → Dec ((h ≡ f) × (n ≡ l)) → ⊥
      own-input h n i key b hand cb ob (yes q) = (w.hands_left i key (sym (ap (λ z. after z n i) q.0 ∙ ap (λ z. after f z i) q.1) ∙ hand.has)).1 b cb ob
      own-input h n i key b hand cb ob (no ne) = not-another table stores hands st f l h n i key (w.own b key cb ob) (old-in h n i key hand) ne

      entered-unowned : (h n : ℕ) (i : Hand) (key : ℕ) → HasInHand (changed table f x l (Within k g) g (Some y)) after h n i key → (d : ℕ) (z : Live) (b : Port) → changed table f x l (Within k g) g (Some y) d ≡ Some z → (others d).cell b ≡ Some (Kept key) → (others d).owning b ≡ Owned → Dec (d ≡ g) → ⊥
      entered-unowned h n i key hand d z b is cb ob (yes e) =
          own-input h n i key b hand (sym (ap (λ q. (others q).cell b) e) ∙ cb) (sym (ap (λ q. (others q).owning b) e) ∙ ob) (this-node h f n l)
      entered-unowned h n i key hand d z b is cb ob (no ne) =
          let v = lived (put table g (Some y)) f l x (Within k g) at-mid d z is in
          st.unowned h n i key (old-in h n i key hand) d v.0 b (sym (put-other table g (Some y) d ne) ∙ v.1) (sym (ap (λ q. q.cell b) (w.stores_same d ne)) ∙ cb) (sym (ap (λ q. q.owning b) (w.stores_same d ne)) ∙ ob)

      work-mid : (h n : ℕ) (i : Hand) (key : ℕ) (hand : HasInHand (put table g (Some y)) after h n i key) → ¬ ((h ≡ f) × (n ≡ l)) → IsAtWork (hand.live.states n)
      work-mid h n i key hand ne =
          st.at_work h n i key
          (record { live = hand.live; found = sym (put-other table g (Some y) h (not-there h n i key hand.has)) ∙ hand.found; inside = hand.inside; has = had-in h n i key hand.has (no ne) })

      hands-entered : HandsStand (changed table f x l (Within k g) g (Some y)) others after
      hands-entered =
          record {
            ports = ports-entered;
            unowned = λ h n i key hand d z b is cb ob. entered-unowned h n i key hand d z b is cb ob (ℕ_discrete d g);
            once = λ h n i d j o key p q. st.once h n i d j o key (old-in h n i key p) (old-in d j o key q);
            at_work = works (put table g (Some y)) f l x (Within k g) at-mid after work-mid (inl tt);
          }

  -- ---- a graph is left

  module _ (after : Hands) (f l g : ℕ) (x y : Live) (s : State) (at : table f ≡ Some x) (there : table g ≡ Some y) (apart : ¬ (f ≡ g)) (out : IsNotWithin s) (work : IsAtWork s) (w : IsTakenOver table stores hands after f l g) where
    at-rest : put table g None f ≡ Some x
    at-rest = put-other table g None f apart ∙ at

    rest : (h : ℕ) (z : Live) → put table g None h ≡ Some z → (¬ (h ≡ g)) × (table h ≡ Some z)
    rest h z is = go (ℕ_discrete h g)
      where
        go : Dec (h ≡ g) → (¬ (h ≡ g)) × (table h ≡ Some z)
        go (yes e) = some-none z is (ap (put table g None) e ∙ put-same table g None)
        go (no ne) = (ne, sym (put-other table g None h ne) ∙ is)

    -- a hand of the table after is one of a graph that was there
    live-before : (h n : ℕ) (i : Hand) (key : ℕ) → HasInHand (closed table f x l s g) after h n i key → HasInHand table after h n i key
    live-before h n i key hand =
        let b = before (put table g None) f l x s at-rest after h n i key hand in
        record { live = b.live; found = (rest h b.live b.found).1; inside = b.inside; has = b.has }

    other-hand : (h n : ℕ) (i : Hand) (key : ℕ) → HasInHand table after h n i key → ¬ ((h ≡ f) × (n ≡ l)) → HasInHand table hands h n i key
    other-hand h n i key hand ne = record { live = hand.live; found = hand.found; inside = hand.inside; has = sym (w.same h n i ne) ∙ hand.has }

    own-hand : (h n : ℕ) (i : Hand) (key : ℕ) → HasInHand table after h n i key → (h ≡ f) × (n ≡ l) → after f l i ≡ Some key
    own-hand h n i key hand q = sym (ap (λ z. after z n i) q.0 ∙ ap (λ z. after f z i) q.1) ∙ hand.has

    abbrev Came : ℕ → Type 0
    Came key = IsAtHand table stores hands f l key ⊎ ((a : Port) × ((stores g).cell a ≡ Some (Kept key)) × ((stores g).owning a ≡ Owned))

    came-unowned : (key : ℕ) → Came key → (d : ℕ) (z : Live) (b : Port) → ¬ (d ≡ g) → table d ≡ Some z → (stores d).cell b ≡ Some (Kept key) → (stores d).owning b ≡ Owned → ⊥
    came-unowned key (inl a) d z b ne is cb ob = at-hand-unowned table stores hands st f l key a d z b is cb ob
    came-unowned key (inr a) d z b ne is cb ob = ne (st.ports.one_owner d g z y b a.0 key is there cb a.1 ob a.2).0

    left-unowned : (h n : ℕ) (i : Hand) (key : ℕ) → HasInHand table after h n i key → Dec ((h ≡ f) × (n ≡ l)) → (d : ℕ) (z : Live) (b : Port) → ¬ (d ≡ g) → table d ≡ Some z → (stores d).cell b ≡ Some (Kept key) → (stores d).owning b ≡ Owned → ⊥
    left-unowned h n i key hand (yes q) d z b ne is cb ob = came-unowned key (w.has i key (own-hand h n i key hand q)) d z b ne is cb ob
    left-unowned h n i key hand (no p) d z b ne is cb ob = st.unowned h n i key (other-hand h n i key hand p) d z b is cb ob

    came-apart : (h n : ℕ) (i : Hand) (key : ℕ) → Came key → HasInHand table hands h n i key → ¬ ((h ≡ f) × (n ≡ l)) → ⊥
    came-apart h n i key (inl a) hand ne = not-another table stores hands st f l h n i key a hand ne
    came-apart h n i key (inr a) hand ne = st.unowned h n i key hand g y a.0 there a.1 a.2

    left-once : (h n : ℕ) (i : Hand) (d m : ℕ) (j : Hand) (key : ℕ) → HasInHand table after h n i key → HasInHand table after d m j key → Dec ((h ≡ f) × (n ≡ l)) → Dec ((d ≡ f) × (m ≡ l)) → (h ≡ d) × (n ≡ m) × (i ≡ j)
    left-once h n i d m j key p q (yes a) (yes b) = (a.0 ∙ sym b.0, a.1 ∙ sym b.1, w.once i j key (own-hand h n i key p a) (own-hand d m j key q b))
    left-once h n i d m j key p q (yes a) (no b) = absurd (came-apart d m j key (w.has i key (own-hand h n i key p a)) (other-hand d m j key q b) b)
    left-once h n i d m j key p q (no a) (yes b) = absurd (came-apart h n i key (w.has j key (own-hand d m j key q b)) (other-hand h n i key p a) a)
    left-once h n i d m j key p q (no a) (no b) = st.once h n i d m j key (other-hand h n i key p a) (other-hand d m j key q b)

    work-rest : (h n : ℕ) (i : Hand) (key : ℕ) (hand : HasInHand (put table g None) after h n i key) → ¬ ((h ≡ f) × (n ≡ l)) → IsAtWork (hand.live.states n)
    work-rest h n i key hand ne =
        st.at_work h n i key (record { live = hand.live; found = (rest h hand.live hand.found).1; inside = hand.inside; has = sym (w.same h n i ne) ∙ hand.has })

    hands-left : HandsStand (closed table f x l s g) stores after
    hands-left =
        record {
          ports = (stores-kept table stores f l x s st.ports at out).1 g;
          unowned = λ h n i key hand d z b is cb ob.
              let v = lived (put table g None) f l x s at-rest d z is in
              let r = rest d v.0 v.1 in left-unowned h n i key (live-before h n i key hand) (this-node h f n l) d v.0 b r.0 r.1 cb ob;
          once = λ h n i d m j key p q. left-once h n i d m j key (live-before h n i key p) (live-before d m j key q) (this-node h f n l) (this-node d f m l);
          at_work = works (put table g None) f l x s at-rest after work-rest (inl work);
        }

pub hands-kept : AreAllHandsKept
hands-kept run c m table root stores hands st =
    record {
      moved = hands-moved table stores hands st;
      taken = hands-taken table stores hands st;
      regrasped = hands-regrasped table stores hands st;
      filled = hands-filled table stores hands st;
      entered = λ others after f l k g x y stands at vacant path fresh w. hands-entered table stores hands st run c m root others after f l k g x y stands at vacant path fresh w;
      left = hands-left table stores hands st;
    }

pub hands-begin : DoHandsBegin
hands-begin stores x own =
    record {
      ports = stores-begin stores x own;
      unowned = λ f l i key h. none-key key h.has;
      once = λ f l i g n j key h o. none-key key h.has;
      at_work = λ f l i key h. none-key key h.has;
    }
