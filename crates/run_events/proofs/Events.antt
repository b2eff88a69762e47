-- What is kept of a run stands after each event.
use Rattle.std.proofs.Common.{◌≡◌, ◌≢◌, ℕ, true, List, [], ◌∷◌, ◌⊎◌, Some, None, inl, inr, refl, sym, ap, ◌∙◌, subst}
use native.Mathlib.Decide.{ℕ_discrete}
use Rattle.if1_graph.specs.declared.graph.Unit1.{Unit1}
use Rattle.if1_graph.specs.declared.graph.Origin.TheVariants as origin
use Rattle.if1_graph.specs.Units.{Place}
use Rattle.if1_marks.specs.Owned.{is_owned}
use Rattle.graph_meaning.specs.Carried.{Carried}
use Rattle.graph_meaning.specs.Demand.{Port as Out, Cut}
use Rattle.graph_meaning.specs.Entered.{IsIn}
use Rattle.graph_meaning.specs.Histories.{Run}
use Rattle.graph_meaning.specs.Networks.{network}
use Rattle.run_states.specs.Standing.{Test, State, Waiting, Claimed, Within, GoingOn, Done, Live, Table, TableStands, with_state, put, changed, closed}
use Rattle.run_states.specs.Storing.{Cell, Kept, Port, Owned, Store, IsRead, IsAtWork, NoReader}
use Rattle.run_states.specs.Moving.{IsNotWithin}
use Rattle.run_states.specs.Paths.{CarriesAt}
use Rattle.run_states.proofs.Lookups.{put-same, put-other, set-same, set-other, some-same, some-none}
use Rattle.run_events.specs.Carrying.{Pool, Tells, ArePortsRight}
use Rattle.run_events.specs.Marked.{IsMarkedStore}
use Rattle.run_events.specs.Scattering.{Takers, Scatters, lent, of_generator, of_left}
use Rattle.run_events.proofs.Carrying.{ports-kept}
use Rattle.run_events.proofs.Scattering.{scatters-moved, scatters-left}
use Rattle.run_events.specs.Hands.{Hand, Hands, HasInHand, IsTakenOver, IsRegrasped}
use Rattle.run_events.proofs.Hands.{hands-kept, none-cell}
use Rattle.run_events.specs.There.{IsTaker, WasTaken}
use Rattle.run_events.proofs.Handing.{outputs-filled}
use Rattle.run_events.proofs.There.{there-kept}
use Rattle.run_events.specs.Leases.{Lent, IsKeyIn, IsLent}
use Rattle.run_events.specs.Scattered.{takers_of, is_taken_from}
use Rattle.run_events.proofs.Scattered.{scatters-kept-on, taken-told}
use Rattle.run_events.specs.Kept.{Keeping, IsAtHome, KeptStands}
use Rattle.run_events.specs.Events.{IsEmptied, IsFinished, IsOpened, AreAllEventsKept}

-- ---- states, lists and ports

at-work : (s : State) → Dec (IsAtWork s)
at-work Waiting = no (λ h. h)
at-work Claimed = yes tt
at-work (Within k g) = yes tt
at-work (GoingOn k os) = yes tt
at-work Done = no (λ h. h)

work-done : (s : State) → IsAtWork s → s ≢ Done
work-done s w e = subst IsAtWork e w

work-waiting : (s : State) → IsAtWork s → s ≢ Waiting
work-waiting s w e = subst IsAtWork e w

done-within : IsNotWithin Done
done-within k g e = absurd (clash e)
  where
    clash : Done ≡ Within k g → ⊥
    clash e = cc

waiting-within : (s : State) → s ≡ Waiting → IsNotWithin s
waiting-within s w k g e = absurd (clash (sym w ∙ e))
  where
    clash : Waiting ≡ Within k g → ⊥
    clash e = cc

pub no-key : {P : Type 0} (key : ℕ) (ks : List ℕ) → ks ≡ [] → IsKeyIn key ks → P
no-key key ks e i = absurd (subst (IsKeyIn key) e i)

this-node : (g f n l : ℕ) → Dec ((g ≡ f) × (n ≡ l))
this-node g f n l = go (ℕ_discrete g f) (ℕ_discrete n l)
  where
    go : Dec (g ≡ f) → Dec (n ≡ l) → Dec ((g ≡ f) × (n ≡ l))
    go (no a) q = no (λ e. a e.0)
    go (yes a) (no b) = no (λ e. b e.1)
    go (yes a) (yes b) = yes (a, b)

at-label : (a : Port) (l : ℕ) → a.0 ≡ l → a ≡ (l, a.1)
at-label (m, i) l e = ap (λ z. (z, i)) e

-- a store with the same readers, which owns what the rules say
marked-by : (u : Unit1) (p : Place) (s t : Store) → ((l : ℕ) → t.reads l ≡ s.reads l) → ((a : Port) → is_owned u p (origin.Port a.0 a.1) ≡ true → t.owning a ≡ Owned) → IsMarkedStore u p s → IsMarkedStore u p t
marked-by u p s t reads owning marked =
    record {
      reads = record { only = λ l a r. marked.reads.only l a (subst (IsRead a) (reads l) r); all = λ l a r. subst (IsRead a) (sym (reads l)) (marked.reads.all l a r) };
      owned = owning;
    }

-- ---- one state changes

-- a row of the table with the change: the graph of the node, or another one as it was
data Row (table : Table) (f l : ℕ) (x : Live) (s : State) (h : ℕ) (y : Live) : Type 0 where
  row_here : h ≡ f → with_state x l s ≡ y → Row table f l x s h y
  row_there : ¬ (h ≡ f) → table h ≡ Some y → Row table f l x s h y

module _ (table : Table) (f l : ℕ) (x : Live) (s : State) (at : table f ≡ Some x) where
  row : (h : ℕ) (y : Live) → put table f (Some (with_state x l s)) h ≡ Some y → Row table f l x s h y
  row h y is = go (ℕ_discrete h f)
    where
      go : Dec (h ≡ f) → Row table f l x s h y
      go (yes e) = row_here e (some-same (with_state x l s) y (sym (ap (put table f (Some (with_state x l s))) e ∙ put-same table f (Some (with_state x l s))) ∙ is))
      go (no ne) = row_there ne (sym (put-other table f (Some (with_state x l s)) h ne) ∙ is)

  -- the graph as it was before
  record IsOld (h : ℕ) (y : Live) : Type 0 where
    pub live : Live
    pub found : table h ≡ Some live
    pub labels : (n : ℕ) → IsIn n y.labels → IsIn n live.labels
    pub states : (n : ℕ) → ¬ ((h ≡ f) × (n ≡ l)) → y.states n ≡ live.states n

  old : (h : ℕ) (y : Live) → put table f (Some (with_state x l s)) h ≡ Some y → IsOld h y
  old h y is = go (row h y is)
    where
      go : Row table f l x s h y → IsOld h y
      go (row_here e q) =
          record {
            live = x;
            found = ap table e ∙ at;
            labels = λ n i. subst (λ z. IsIn n z.labels) (sym q) i;
            states = λ n ne. ap (λ z. z.states n) (sym q) ∙ set-other x.states l s n (λ p. ne (e, p));
          }
      go (row_there ne there) = record { live = y; found = there; labels = λ n i. i; states = λ n p. refl }

  -- what a node has in its hands it has still
  still-has : (hands : Hands) (h n : ℕ) (i : Hand) (key : ℕ) → HasInHand table hands h n i key → HasInHand (put table f (Some (with_state x l s))) hands h n i key
  still-has hands h n i key hand = go (ℕ_discrete h f)
    where
      go : Dec (h ≡ f) → HasInHand (put table f (Some (with_state x l s))) hands h n i key
      go (yes e) =
          let same : hand.live ≡ x = some-same hand.live x (sym hand.found ∙ (ap table e ∙ at)) in
          record { live = with_state x l s; found = ap (put table f (Some (with_state x l s))) e ∙ put-same table f (Some (with_state x l s)); inside = subst (λ z. IsIn n z.labels) same hand.inside; has = hand.has }
      go (no ne) = record { live = hand.live; found = put-other table f (Some (with_state x l s)) h ne ∙ hand.found; inside = hand.inside; has = hand.has }

  homes-moved : (cut : Cut) (u : Unit1) (homes : ℕ → Place) → ((h : ℕ) (y : Live) → table h ≡ Some y → IsAtHome cut u y (homes h)) → (h : ℕ) (y : Live) → put table f (Some (with_state x l s)) h ≡ Some y → IsAtHome cut u y (homes h)
  homes-moved cut u homes all h y is = go (row h y is)
    where
      moved : IsAtHome cut u x (homes f) → IsAtHome cut u (with_state x l s) (homes f)
      moved a = let g = a.1.1 in (a.0, (a.1.0, record { run = g.run; labels = g.labels; waits = g.waits; last = g.last }))

      go : Row table f l x s h y → IsAtHome cut u y (homes h)
      go (row_here e q) = subst (λ z. IsAtHome cut u z (homes h)) q (subst (λ z. IsAtHome cut u (with_state x l s) (homes z)) (sym e) (moved (all f x at)))
      go (row_there ne there) = all h y there

  by-place : (P : ℕ → Type 0) → ((h : ℕ) (y : Live) → table h ≡ Some y → P h) → (h : ℕ) (y : Live) → put table f (Some (with_state x l s)) h ≡ Some y → P h
  by-place P all h y is = let o = old h y is in all h o.live o.found

  -- of nodes that lend nothing
  abbrev Idle : Table → Lent → Type 0
  Idle t e = (h : ℕ) (y : Live) (n : ℕ) → t h ≡ Some y → IsIn n y.labels → ¬ IsAtWork (y.states n) → (e.to_slices h n ≡ []) × (e.scattered h n ≡ [])

  idle-moved : (e : Lent) → Idle table e → IsAtWork s → Idle (put table f (Some (with_state x l s))) e
  idle-moved e idle work h y n is i out = go (this-node h f n l)
    where
      o : IsOld h y
      o = old h y is

      here : h ≡ f → n ≡ l → Row table f l x s h y → IsAtWork (y.states n)
      here p q (row_here a b) = subst (λ z. IsAtWork (z.states n)) b (subst IsAtWork (sym (ap (with_state x l s).states q ∙ set-same x.states l s)) work)
      here p q (row_there ne there) = absurd (ne p)

      go : Dec ((h ≡ f) × (n ≡ l)) → (e.to_slices h n ≡ []) × (e.scattered h n ≡ [])
      go (yes q) = absurd (out (here q.0 q.1 (row h y is)))
      go (no ne) = idle h o.live n o.found (o.labels n i) (λ w. out (subst IsAtWork (sym (o.states n ne)) w))

  -- what is lent, where the node is at work then
  lent-moved : (stores : ℕ → Store) (hands : Hands) (takers : Takers) (e : Lent) → IsLent table stores hands takers e → Idle table e → IsAtWork s → IsLent (put table f (Some (with_state x l s))) stores hands takers e
  lent-moved stores hands takers e is-lent idle work =
      record {
        to_slices = λ h y n key is i k. let o = old h y is in in-hand h n key (is-lent.to_slices h o.live n key o.found (o.labels n i) k);
        scattered = λ h y n key is i w k. by-work h y n key is i k (at-work ((old h y is).live.states n));
      }
    where
      in-hand : (h n key : ℕ) → ((j : Hand) × HasInHand table hands h n j key) ⊎ IsKeyIn key (e.scattered h n) → ((j : Hand) × HasInHand (put table f (Some (with_state x l s))) hands h n j key) ⊎ IsKeyIn key (e.scattered h n)
      in-hand h n key (inl a) = inl (a.0, still-has hands h n a.0 key a.1)
      in-hand h n key (inr a) = inr a

      by-work : (h : ℕ) (y : Live) (n key : ℕ) (is : put table f (Some (with_state x l s)) h ≡ Some y) → IsIn n y.labels → IsKeyIn key (e.scattered h n) → Dec (IsAtWork ((old h y is).live.states n)) → Scatters (put table f (Some (with_state x l s))) stores takers y h n key
      by-work h y n key is i k (no out) = let o = old h y is in no-key key (e.scattered h n) (idle h o.live n o.found (o.labels n i) out).1 k
      by-work h y n key is i k (yes w) =
          let o = old h y is in
          let r = scatters-moved table stores takers key f l x s at work h n o.live o.found (is-lent.scattered h o.live n key o.found (o.labels n i) w k) in
          subst (λ z. Scatters (put table f (Some (with_state x l s))) stores takers z h n key) (some-same r.0 y (sym r.1 ∙ is)) r.2

-- ---- the events

module _ (cut : Cut) (u : Unit1) (g : ℕ) (ins : List Carried) (table : Table) (k : Keeping) (st : KeptStands cut u g ins table k) where
  kept-moved : (run : Run) (c m : Test) (root f l : ℕ) (x : Live) (s : State) → table f ≡ Some x → IsNotWithin s → IsAtWork s → KeptStands cut u g ins (changed table f x l s 0 None) k
  kept-moved run c m root f l x s at out work =
      record {
        hands = (hands-kept run c m table root k.stores k.hands st.hands).moved f l x s at out (inl work);
        homes = homes-moved table f l x s at cut u k.homes st.homes;
        marked = by-place table f l x s at (λ h. IsMarkedStore u (k.homes h) (k.stores h)) st.marked;
        there = (there-kept table k.stores k.homes k.wanted st.there).moved f l x s at (work-done s work) (work-waiting s work);
        right = ((ports-kept (network u) g ins).moved k.pool k.unions table k.stores f l x s st.right at).0;
        lent = lent-moved table f l x s at k.stores k.hands (takers_of k.homes) k.lent st.lent st.idle work;
        idle = idle-moved table f l x s at k.lent st.idle work;
      }

  -- ---- a port is taken

  module _ (run : Run) (c m : Test) (root : ℕ) (others : ℕ → Store) (f l : ℕ) (x : Live) (a : Port) (at : table f ≡ Some x) (e : IsEmptied k.stores others f a) (taker : IsTaker (k.homes f) x a l) (begun : x.states l ≢ Waiting) (none : NoReader table k.stores f x a) where
    same-owning : (h : ℕ) (b : Port) → (others h).owning b ≡ (k.stores h).owning b
    same-owning h b = go (ℕ_discrete h f) (ℕ_discrete b.0 a.0) (ℕ_discrete b.1 a.1)
      where
        pair : (p q : Port) → p.0 ≡ q.0 → p.1 ≡ q.1 → p ≡ q
        pair (p, r) (q, t) d w = ap (λ z. (z, r)) d ∙ ap (λ z. (q, z)) w

        go : Dec (h ≡ f) → Dec (b.0 ≡ a.0) → Dec (b.1 ≡ a.1) → (others h).owning b ≡ (k.stores h).owning b
        go (no n) p q = (e.differ.cells h b (λ z. n z.0)).1
        go (yes w) (no n) q = (e.differ.cells h b (λ z. n (ap (λ v. v.0) z.1))).1
        go (yes w) (yes p) (no n) = (e.differ.cells h b (λ z. n (ap (λ v. v.1) z.1))).1
        go (yes w) (yes p) (yes q) =
            let same = pair b a p q in
            ap (λ z. (others z).owning b) w ∙ (ap (others f).owning same ∙ (e.owning ∙ (sym (ap (k.stores f).owning same) ∙ sym (ap (λ z. (k.stores z).owning b) w))))

    cell-or-taken : (b : Port) → ((others f).cell b ≡ (k.stores f).cell b) ⊎ WasTaken (k.homes f) x b
    cell-or-taken b = go (ℕ_discrete b.0 a.0) (ℕ_discrete b.1 a.1)
      where
        pair : (p q : Port) → p.0 ≡ q.0 → p.1 ≡ q.1 → p ≡ q
        pair (p, r) (q, t) d w = ap (λ z. (z, r)) d ∙ ap (λ z. (q, z)) w

        go : Dec (b.0 ≡ a.0) → Dec (b.1 ≡ a.1) → ((others f).cell b ≡ (k.stores f).cell b) ⊎ WasTaken (k.homes f) x b
        go (no n) q = inl (e.differ.cells f b (λ z. n (ap (λ v. v.0) z.1))).0
        go (yes p) (no n) = inl (e.differ.cells f b (λ z. n (ap (λ v. v.1) z.1))).0
        go (yes p) (yes q) = inr (subst (WasTaken (k.homes f) x) (sym (pair b a p q)) (l, taker, begun))

    kept-taken : KeptStands cut u g ins table (record k { stores = others })
    kept-taken =
        record {
          hands = ((hands-kept run c m table root k.stores k.hands st.hands).taken others f x a e.differ at e.empty none).0;
          homes = st.homes;
          marked = λ h y is.
              let w = st.marked h y is in
              marked-by u (k.homes h) (k.stores h) (others h) (λ n. e.differ.reads h n) (λ b o. same-owning h b ∙ w.owned b o) w;
          there = (there-kept table k.stores k.homes k.wanted st.there).taken others f x at (λ h b ne. (e.differ.cells h b (λ z. ne z.0)).0) cell-or-taken;
          right = (ports-kept (network u) g ins).emptied k.pool k.unions table k.stores others f a st.right e.differ e.empty;
          lent =
              record {
                to_slices = st.lent.to_slices;
                scattered = λ h y n key is i w q.
                    (scatters-kept-on table k.stores (takers_of k.homes) h n key y is (st.lent.scattered h y n key is i w q)).emptied others f x a e.differ at e.empty
                    (taken-told (k.homes f) taker.edge a taker.there taker.takes taker.from) none;
              };
          idle = st.idle;
        }

  -- ---- a node is done

  module _ (run : Run) (c m : Test) (root : ℕ) (others : ℕ → Store) (after : Hands) (less : Lent) (f l : ℕ) (x : Live) (at : table f ≡ Some x) (d : IsFinished cut u g ins table k others after less f l x) where
    is-output : (h : ℕ) (b : Port) → Dec ((h ≡ f) × (b.0 ≡ l))
    is-output h b = this-node h f b.0 l

    owning-now : (h : ℕ) (y : Live) → table h ≡ Some y → (b : Port) → is_owned u (k.homes h) (origin.Port b.0 b.1) ≡ true → (others h).owning b ≡ Owned
    owning-now h y is b o = go (is-output h b)
      where
        go : Dec ((h ≡ f) × (b.0 ≡ l)) → (others h).owning b ≡ Owned
        go (yes q) = ap (λ z. (others z).owning b) q.0 ∙ (ap (others f).owning (at-label b l q.1) ∙ d.own b.1)
        go (no ne) = (d.outputs.cells h b ne).1 ∙ (st.marked h y is).owned b o

    right-filled : ArePortsRight (network u) g ins k.pool k.unions table others
    right-filled h y b w is full = go (is-output h b)
      where
        abbrev-holds : (h ≡ f) × (b.0 ≡ l) → (e : Carried) × Tells k.pool (k.unions h b) w e × CarriesAt (network u) g ins y.path (Out b.0 b.1) e
        abbrev-holds q =
            let live : x ≡ y = some-same x y (sym at ∙ (sym (ap table q.0) ∙ is)) in
            let label = at-label b l q.1 in
            let cell : (others f).cell (l, b.1) ≡ Some w = sym (ap (others f).cell label) ∙ (sym (ap (λ z. (others z).cell b) q.0) ∙ full) in
            let r = d.told b.1 w cell in
            let depth : k.unions f (l, b.1) ≡ k.unions h b = sym (ap (λ z. k.unions z b) q.0 ∙ ap (k.unions f) label) in
            (r.0, subst (λ z. Tells k.pool z w r.0) depth r.1, subst (λ z. CarriesAt (network u) g ins y.path (Out z b.1) r.0) (sym q.1) (subst (λ z. CarriesAt (network u) g ins z.path (Out l b.1) r.0) live r.2))

        go : Dec ((h ≡ f) × (b.0 ≡ l)) → (e : Carried) × Tells k.pool (k.unions h b) w e × CarriesAt (network u) g ins y.path (Out b.0 b.1) e
        go (yes q) = abbrev-holds q
        go (no ne) = st.right h y b w is (sym (d.outputs.cells h b ne).0 ∙ full)

    -- what others keep they keep
    still-kept : (h : ℕ) (y z : Live) (n key : ℕ) → table h ≡ Some y → IsIn n y.labels → IsAtWork (y.states n) → (ne : ¬ ((h ≡ f) × (n ≡ l))) → IsKeyIn key (k.lent.scattered h n) → (IsIn n y.labels → IsIn n z.labels) → z.states n ≡ y.states n
        → Scatters table k.stores (takers_of k.homes) y h n key → Scatters (put table f (Some (with_state x l Done))) others (takers_of k.homes) z h n key
    still-kept h y z n key is i w ne q labels same (lent held) =
        let full : ¬ ((h ≡ f) × (held.port.0 ≡ l)) = λ p. none-cell (Kept key) (sym (d.outputs.empty held.port.1) ∙ (sym (ap (k.stores f).cell (at-label held.port l p.1)) ∙ (sym (ap (λ v. (k.stores v).cell held.port) p.0) ∙ held.kept))) in
        lent
        (record {
          inside = labels held.inside;
          work = subst IsAtWork (sym same) held.work;
          port = held.port;
          reads = subst (IsRead held.port) (sym (d.outputs.reads h n)) held.reads;
          kept = (d.outputs.cells h held.port full).0 ∙ held.kept;
        })
    still-kept h y z n key is i w ne q labels same (of_generator r v b there cell own not-taken) =
        let full : ¬ ((r ≡ f) × (b.0 ≡ l)) = λ p. none-cell (Kept key) (sym (d.outputs.empty b.1) ∙ (sym (ap (k.stores f).cell (at-label b l p.1)) ∙ (sym (ap (λ v. (k.stores v).cell b) p.0) ∙ cell))) in
        let now = moved-row r v there in
        of_generator r now.0 b now.1 ((d.outputs.cells r b full).0 ∙ cell) ((d.outputs.cells r b full).1 ∙ own) not-taken
      where
        moved-row : (r : ℕ) (v : Live) → table r ≡ Some v → (v' : Live) × (put table f (Some (with_state x l Done)) r ≡ Some v')
        moved-row r v there = go (ℕ_discrete r f)
          where
            go : Dec (r ≡ f) → (v' : Live) × (put table f (Some (with_state x l Done)) r ≡ Some v')
            go (yes e) = (with_state x l Done, ap (put table f (Some (with_state x l Done))) e ∙ put-same table f (Some (with_state x l Done)))
            go (no ne) = (v, put-other table f (Some (with_state x l Done)) r ne ∙ there)
    still-kept h y z n key is i w ne q labels same (of_left un) =
        of_left
        (λ r v b there cell own.
        let o = old table f l x Done at r v there in
        unowned-now r o.live b o.found cell own (is-output r b))
      where
        unowned-now : (r : ℕ) (v : Live) (b : Port) → table r ≡ Some v → (others r).cell b ≡ Some (Kept key) → (others r).owning b ≡ Owned → Dec ((r ≡ f) × (b.0 ≡ l)) → ⊥
        unowned-now r v b there cell own (yes p) =
            d.new h y n b.1 key is i w ne q (sym (ap (others f).cell (at-label b l p.1)) ∙ (sym (ap (λ v. (others v).cell b) p.0) ∙ cell))
        unowned-now r v b there cell own (no p) = un r v b there (sym (d.outputs.cells r b p).0 ∙ cell) (sym (d.outputs.cells r b p).1 ∙ own)

    lent-done : IsLent (put table f (Some (with_state x l Done))) others after (takers_of k.homes) less
    lent-done =
        record {
          to_slices = λ h y n key is i q. slices h y n key is i q (this-node h f n l);
          scattered = λ h y n key is i w q. kept-on h y n key is i w q (this-node h f n l);
        }
      where
        slices : (h : ℕ) (y : Live) (n key : ℕ) → put table f (Some (with_state x l Done)) h ≡ Some y → IsIn n y.labels → IsKeyIn key (less.to_slices h n) → Dec ((h ≡ f) × (n ≡ l)) → ((j : Hand) × HasInHand (put table f (Some (with_state x l Done))) after h n j key) ⊎ IsKeyIn key (less.scattered h n)
        slices h y n key is i q (yes p) = no-key key (less.to_slices h n) (ap (λ z. less.to_slices z n) p.0 ∙ (ap (less.to_slices f) p.1 ∙ d.lends.0)) q
        slices h y n key is i q (no ne) = go (st.lent.to_slices h o.live n key o.found (o.labels n i) (subst (IsKeyIn key) (d.same h n ne).0 q))
          where
            o : IsOld table f l x Done at h y
            o = old table f l x Done at h y is

            go : ((j : Hand) × HasInHand table k.hands h n j key) ⊎ IsKeyIn key (k.lent.scattered h n) → ((j : Hand) × HasInHand (put table f (Some (with_state x l Done))) after h n j key) ⊎ IsKeyIn key (less.scattered h n)
            go (inl a) =
                inl (a.0, still-has table f l x Done at after h n a.0 key (record { live = a.1.live; found = a.1.found; inside = a.1.inside; has = d.outputs.same h n a.0 ne ∙ a.1.has }))
            go (inr a) = inr (subst (IsKeyIn key) (sym (d.same h n ne).1) a)

        kept-on : (h : ℕ) (y : Live) (n key : ℕ) → put table f (Some (with_state x l Done)) h ≡ Some y → IsIn n y.labels → IsAtWork (y.states n) → IsKeyIn key (less.scattered h n) → Dec ((h ≡ f) × (n ≡ l)) → Scatters (put table f (Some (with_state x l Done))) others (takers_of k.homes) y h n key
        kept-on h y n key is i w q (yes p) = no-key key (less.scattered h n) (ap (λ z. less.scattered z n) p.0 ∙ (ap (less.scattered f) p.1 ∙ d.lends.1)) q
        kept-on h y n key is i w q (no ne) =
            let o = old table f l x Done at h y is in
            let work = subst IsAtWork (o.states n ne) w in
            let q' = subst (IsKeyIn key) (d.same h n ne).1 q in
            still-kept h o.live y n key o.found (o.labels n i) work ne q' (λ j. i) (o.states n ne) (st.lent.scattered h o.live n key o.found (o.labels n i) work q')

    idle-done : (h : ℕ) (y : Live) (n : ℕ) → put table f (Some (with_state x l Done)) h ≡ Some y → IsIn n y.labels → ¬ IsAtWork (y.states n) → (less.to_slices h n ≡ []) × (less.scattered h n ≡ [])
    idle-done h y n is i out = go (this-node h f n l)
      where
        go : Dec ((h ≡ f) × (n ≡ l)) → (less.to_slices h n ≡ []) × (less.scattered h n ≡ [])
        go (yes p) = (ap (λ z. less.to_slices z n) p.0 ∙ (ap (less.to_slices f) p.1 ∙ d.lends.0), ap (λ z. less.scattered z n) p.0 ∙ (ap (less.scattered f) p.1 ∙ d.lends.1))
        go (no ne) =
            let o = old table f l x Done at h y is in
            let r = st.idle h o.live n o.found (o.labels n i) (λ w. out (subst IsAtWork (sym (o.states n ne)) w)) in
            ((d.same h n ne).0 ∙ r.0, (d.same h n ne).1 ∙ r.1)

    kept-done : KeptStands cut u g ins (changed table f x l Done 0 None) (record k { stores = others; hands = after; lent = less })
    kept-done =
        let filled = (hands-kept run c m table root k.stores k.hands st.hands).filled others after f l x _ at (outputs-filled table k.stores others k.hands after f l st.hands d.outputs) in
        record {
          hands = (hands-kept run c m table root others after filled).moved f l x Done at done-within (inr d.outputs.given);
          homes = homes-moved table f l x Done at cut u k.homes st.homes;
          marked = by-place table f l x Done at (λ h. IsMarkedStore u (k.homes h) (others h))
              (λ h y is. marked-by u (k.homes h) (k.stores h) (others h) (λ n. d.outputs.reads h n) (owning-now h y is) (st.marked h y is));
          there = (there-kept table k.stores k.homes k.wanted st.there).done others f l x at (λ h b ne. (d.outputs.cells h b (λ q. ne q.0)).0) (λ b ne. (d.outputs.cells f b (λ q. ne q.1)).0)
              (λ b e want. filled-at b e want);
          right = ((ports-kept (network u) g ins).moved k.pool k.unions table others f l x Done right-filled at).0;
          lent = lent-done;
          idle = idle-done;
        }
      where
        filled-at : (b : Port) → b.0 ≡ l → k.wanted f b ≡ true → (w : Cell) × ((others f).cell b ≡ Some w)
        filled-at b e want =
            let label = at-label b l e in
            let r = d.filled b.1 (sym (ap (k.wanted f) label) ∙ want) in
            (r.0, ap (others f).cell label ∙ r.1)

  -- ---- an AScatter's lease is kept

  kept-scattered : (more : Lent) (f l key : ℕ) (x : Live) → table f ≡ Some x → IsAtWork (x.states l) → Scatters table k.stores (takers_of k.homes) x f l key → more.to_slices ≡ k.lent.to_slices → more.scattered f l ≡ key ∷ k.lent.scattered f l
      → ((h n : ℕ) → ¬ ((h ≡ f) × (n ≡ l)) → more.scattered h n ≡ k.lent.scattered h n) → KeptStands cut u g ins table (record k { lent = more })
  kept-scattered more f l key x at work sc slices one same =
      record {
        hands = st.hands;
        homes = st.homes;
        marked = st.marked;
        there = st.there;
        right = st.right;
        lent =
            record {
              to_slices = λ h y n q is i t. go-slices h n q (st.lent.to_slices h y n q is i (subst (λ z. IsKeyIn q (z h n)) slices t));
              scattered = λ h y n q is i w t. go-scattered h y n q is i w t (this-node h f n l);
            };
        idle = λ h y n is i out. go-idle h y n is i out (this-node h f n l);
      }
    where
      in-more : (h n q : ℕ) → IsKeyIn q (k.lent.scattered h n) → Dec ((h ≡ f) × (n ≡ l)) → IsKeyIn q (more.scattered h n)
      in-more h n q i (yes p) =
          subst (IsKeyIn q) (sym (ap (λ z. more.scattered z n) p.0 ∙ (ap (more.scattered f) p.1 ∙ one)))
          (inr (subst (IsKeyIn q) (ap (λ z. k.lent.scattered z n) p.0 ∙ ap (k.lent.scattered f) p.1) i))
      in-more h n q i (no ne) = subst (IsKeyIn q) (sym (same h n ne)) i

      go-slices : (h n q : ℕ) → ((j : Hand) × HasInHand table k.hands h n j q) ⊎ IsKeyIn q (k.lent.scattered h n) → ((j : Hand) × HasInHand table k.hands h n j q) ⊎ IsKeyIn q (more.scattered h n)
      go-slices h n q (inl a) = inl a
      go-slices h n q (inr a) = inr (in-more h n q a (this-node h f n l))

      go-scattered : (h : ℕ) (y : Live) (n q : ℕ) → table h ≡ Some y → IsIn n y.labels → IsAtWork (y.states n) → IsKeyIn q (more.scattered h n) → Dec ((h ≡ f) × (n ≡ l)) → Scatters table k.stores (takers_of k.homes) y h n q
      go-scattered h y n q is i w t (no ne) = st.lent.scattered h y n q is i w (subst (IsKeyIn q) (same h n ne) t)
      go-scattered h y n q is i w t (yes p) = by (subst (IsKeyIn q) (ap (λ z. more.scattered z n) p.0 ∙ (ap (more.scattered f) p.1 ∙ one)) t)
        where
          by : IsKeyIn q (key ∷ k.lent.scattered f l) → Scatters table k.stores (takers_of k.homes) y h n q
          by (inl e) =
              let live : x ≡ y = some-same x y (sym at ∙ (sym (ap table p.0) ∙ is)) in
              subst (λ z. Scatters table k.stores (takers_of k.homes) y h n z) (sym e)
              (subst (λ z. Scatters table k.stores (takers_of k.homes) y h z key) (sym p.1) (subst (λ z. Scatters table k.stores (takers_of k.homes) y z l key) (sym p.0) (subst (λ z. Scatters table k.stores (takers_of k.homes) z f l key) live sc)))
          by (inr a) = st.lent.scattered h y n q is i w (subst (IsKeyIn q) (sym (ap (λ z. k.lent.scattered z n) p.0 ∙ ap (k.lent.scattered f) p.1)) a)

      go-idle : (h : ℕ) (y : Live) (n : ℕ) → table h ≡ Some y → IsIn n y.labels → ¬ IsAtWork (y.states n) → Dec ((h ≡ f) × (n ≡ l)) → (more.to_slices h n ≡ []) × (more.scattered h n ≡ [])
      go-idle h y n is i out (yes p) =
          let live : x ≡ y = some-same x y (sym at ∙ (sym (ap table p.0) ∙ is)) in
          absurd (out (subst (λ z. IsAtWork (z.states n)) live (subst (λ z. IsAtWork (x.states z)) (sym p.1) work)))
      go-idle h y n is i out (no ne) = let r = st.idle h y n is i out in (ap (λ z. z h n) slices ∙ r.0, same h n ne ∙ r.1)

  -- ---- a graph is entered

  module _ (run : Run) (c m : Test) (root : ℕ) (later : Keeping) (f l step n : ℕ) (x y : Live) (stands : TableStands run c m (changed table f x l (Within step n) n (Some y)) root) (at : table f ≡ Some x) (in-x : IsIn l x.labels) (work : IsAtWork (x.states l)) (vacant : table n ≡ None)
      (path : y.path ≡ (l, step) ∷ x.path) (o : IsOpened cut u g ins table k later f l n y)
    where
      not-n : ¬ (f ≡ n)
      not-n e = some-none x at (ap table e ∙ vacant)

      at-mid : put table n (Some y) f ≡ Some x
      at-mid = put-other table n (Some y) f not-n ∙ at

      -- a graph that was there, or the new one
      mid : (P : ℕ → Live → Type 0) → P n y → ((h : ℕ) (z : Live) → ¬ (h ≡ n) → table h ≡ Some z → P h z) → (h : ℕ) (z : Live) → put table n (Some y) h ≡ Some z → P h z
      mid P new was h z is = go (ℕ_discrete h n)
        where
          go : Dec (h ≡ n) → P h z
          go (yes e) =
              let live : y ≡ z = some-same y z (sym (ap (put table n (Some y)) e ∙ put-same table n (Some y)) ∙ is) in
              subst (λ v. P v z) (sym e) (subst (P n) live new)
          go (no ne) = was h z ne (sym (put-other table n (Some y) h ne) ∙ is)

      same-store : (h : ℕ) → ¬ (h ≡ n) → later.stores h ≡ k.stores h
      same-store h ne = o.entered.stores_same h ne

      homes-mid : (h : ℕ) (z : Live) → put table n (Some y) h ≡ Some z → IsAtHome cut u z (later.homes h)
      homes-mid = mid (λ h z. IsAtHome cut u z (later.homes h)) o.home (λ h z ne is. subst (IsAtHome cut u z) (sym (o.same h ne).0) (st.homes h z is))

      marked-mid : (h : ℕ) (z : Live) → put table n (Some y) h ≡ Some z → IsMarkedStore u (later.homes h) (later.stores h)
      marked-mid =
          mid (λ h z. IsMarkedStore u (later.homes h) (later.stores h)) o.marked
          (λ h z ne is. subst (λ p. IsMarkedStore u p (later.stores h)) (sym (o.same h ne).0) (subst (IsMarkedStore u (k.homes h)) (sym (same-store h ne)) (st.marked h z is)))

      hand-mid : (h q : ℕ) (j : Hand) (key : ℕ) → ¬ (h ≡ n) → HasInHand table k.hands h q j key → later.hands h q j ≡ Some key → HasInHand (put table n (Some y)) later.hands h q j key
      hand-mid h q j key ne hand has = record { live = hand.live; found = put-other table n (Some y) h ne ∙ hand.found; inside = hand.inside; has = has }

      lent-mid : IsLent (put table n (Some y)) later.stores later.hands (takers_of later.homes) later.lent
      lent-mid =
          record {
            to_slices = λ h z q key is i t. slices h z is q key i t;
            scattered = λ h z q key is i w t. scattered h z is q key i w t;
          }
        where
          slices : (h : ℕ) (z : Live) → put table n (Some y) h ≡ Some z → (q key : ℕ) → IsIn q z.labels → IsKeyIn key (later.lent.to_slices h q) → ((j : Hand) × HasInHand (put table n (Some y)) later.hands h q j key) ⊎ IsKeyIn key (later.lent.scattered h q)
          slices =
              mid (λ h z. (q key : ℕ) → IsIn q z.labels → IsKeyIn key (later.lent.to_slices h q) → ((j : Hand) × HasInHand (put table n (Some y)) later.hands h q j key) ⊎ IsKeyIn key (later.lent.scattered h q))
              (λ q key i t. no-key key (later.lent.to_slices n q) (o.none q).0 t)
              (λ h z ne is q key i t. was h z ne is q key i (subst (IsKeyIn key) (o.others h q ne).0 t))
            where
              was : (h : ℕ) (z : Live) → ¬ (h ≡ n) → table h ≡ Some z → (q key : ℕ) → IsIn q z.labels → IsKeyIn key (k.lent.to_slices h q) → ((j : Hand) × HasInHand (put table n (Some y)) later.hands h q j key) ⊎ IsKeyIn key (later.lent.scattered h q)
              was h z ne is q key i t = go (st.lent.to_slices h z q key is i t)
                where
                  go : ((j : Hand) × HasInHand table k.hands h q j key) ⊎ IsKeyIn key (k.lent.scattered h q) → ((j : Hand) × HasInHand (put table n (Some y)) later.hands h q j key) ⊎ IsKeyIn key (later.lent.scattered h q)
                  go (inl a) = inl (a.0, hand-mid h q a.0 key ne a.1 (o.lends h q key t a.0 a.1.has))
                  go (inr a) = inr (subst (IsKeyIn key) (sym (o.others h q ne).1) a)

          scattered : (h : ℕ) (z : Live) → put table n (Some y) h ≡ Some z → (q key : ℕ) → IsIn q z.labels → IsAtWork (z.states q) → IsKeyIn key (later.lent.scattered h q) → Scatters (put table n (Some y)) later.stores (takers_of later.homes) z h q key
          scattered =
              mid (λ h z. (q key : ℕ) → IsIn q z.labels → IsAtWork (z.states q) → IsKeyIn key (later.lent.scattered h q) → Scatters (put table n (Some y)) later.stores (takers_of later.homes) z h q key)
              (λ q key i w t. no-key key (later.lent.scattered n q) (o.none q).1 t)
              (λ h z ne is q key i w t.
              let t' = subst (IsKeyIn key) (o.others h q ne).1 t in
              (scatters-kept-on table k.stores (takers_of k.homes) h q key z is (st.lent.scattered h z q key is i w t')).added later.stores (takers_of later.homes) n y vacant
              (λ r nr. (same-store r nr, λ a. ap (λ p. is_taken_from p a) (o.same r nr).0)) (λ a cell. o.apart h z q key a is i w t' cell))

      idle-mid : (h : ℕ) (z : Live) (q : ℕ) → put table n (Some y) h ≡ Some z → IsIn q z.labels → ¬ IsAtWork (z.states q) → (later.lent.to_slices h q ≡ []) × (later.lent.scattered h q ≡ [])
      idle-mid h z q is =
          mid (λ h z. (q : ℕ) → IsIn q z.labels → ¬ IsAtWork (z.states q) → (later.lent.to_slices h q ≡ []) × (later.lent.scattered h q ≡ [])) (λ q i out. o.none q)
          (λ h z ne is q i out. let r = st.idle h z q is i out in ((o.others h q ne).0 ∙ r.0, (o.others h q ne).1 ∙ r.1)) h z is q

      inside : IsAtWork (Within step n)
      inside = tt

      kept-entered : KeptStands cut u g ins (changed table f x l (Within step n) n (Some y)) later
      kept-entered =
          record {
            hands = (hands-kept run c m table root k.stores k.hands st.hands).entered later.stores later.hands f l step n x y stands at vacant path (λ q. waiting-within (y.states q) (o.fresh q)) o.entered;
            homes = homes-moved (put table n (Some y)) f l x (Within step n) at-mid cut u later.homes homes-mid;
            marked = by-place (put table n (Some y)) f l x (Within step n) at-mid (λ h. IsMarkedStore u (later.homes h) (later.stores h)) marked-mid;
            there =
                (there-kept (put table n (Some y)) later.stores later.homes later.wanted
                ((there-kept table k.stores k.homes k.wanted st.there).added later.stores later.homes later.wanted n y
                (λ h ne. (same-store h ne, (o.same h ne).0, λ a w. sym (ap (λ z. z a) (o.same h ne).1) ∙ w)) o.fresh o.filled)).moved f l x (Within step n) at-mid (work-done (Within step n) inside) (work-waiting (Within step n) inside);
            right =
                (ports-kept (network u) g ins).entered later.pool k.unions later.unions table k.stores later.stores f l n x y (Within step n) o.graph o.inputs
                (subst (λ p. ArePortsRight (network u) g ins p k.unions table k.stores) (sym o.pool) st.right) at vacant o.leads (λ h ne. (same-store h ne, (o.same h ne).2)) o.told;
            lent = lent-moved (put table n (Some y)) f l x (Within step n) at-mid later.stores later.hands (takers_of later.homes) later.lent lent-mid idle-mid inside;
            idle = idle-moved (put table n (Some y)) f l x (Within step n) at-mid later.lent idle-mid inside;
          }

  -- ---- a graph is left

  module _ (run : Run) (c m : Test) (root : ℕ) (after : Hands) (f l n : ℕ) (x y : Live) (s : State) (at : table f ≡ Some x) (there : table n ≡ Some y) (apart : ¬ (f ≡ n)) (out : IsNotWithin s) (work : IsAtWork s) (over : IsTakenOver table k.stores k.hands after f l n)
      (lends : (key : ℕ) → IsKeyIn key (k.lent.to_slices f l) → (i : Hand) → k.hands f l i ≡ Some key → after f l i ≡ Some key)
    where
      at-rest : put table n None f ≡ Some x
      at-rest = put-other table n None f apart ∙ at

      rest : (h : ℕ) (z : Live) → put table n None h ≡ Some z → (¬ (h ≡ n)) × (table h ≡ Some z)
      rest h z is = go (ℕ_discrete h n)
        where
          go : Dec (h ≡ n) → (¬ (h ≡ n)) × (table h ≡ Some z)
          go (yes e) = some-none z is (ap (put table n None) e ∙ put-same table n None)
          go (no ne) = (ne, sym (put-other table n None h ne) ∙ is)

      lent-rest : IsLent (put table n None) k.stores after (takers_of k.homes) k.lent
      lent-rest =
          record {
            to_slices = λ h z q key is i t. let r = rest h z is in slices h z q key r.0 r.1 i t;
            scattered = λ h z q key is i w t. let r = rest h z is in scatters-left table k.stores (takers_of k.homes) key st.hands.ports n h q z (st.lent.scattered h z q key r.1 i w t);
          }
        where
          slices : (h : ℕ) (z : Live) (q key : ℕ) → ¬ (h ≡ n) → table h ≡ Some z → IsIn q z.labels → IsKeyIn key (k.lent.to_slices h q) → ((j : Hand) × HasInHand (put table n None) after h q j key) ⊎ IsKeyIn key (k.lent.scattered h q)
          slices h z q key ne is i t = go (st.lent.to_slices h z q key is i t)
            where
              has-still : (j : Hand) → k.hands h q j ≡ Some key → Dec ((h ≡ f) × (q ≡ l)) → after h q j ≡ Some key
              has-still j has (yes p) =
                  ap (λ v. after v q j) p.0
                  ∙ (ap (λ v. after f v j) p.1
                  ∙ lends key (subst (IsKeyIn key) (ap (λ v. k.lent.to_slices v q) p.0 ∙ ap (k.lent.to_slices f) p.1) t) j (sym (ap (λ v. k.hands v q j) p.0 ∙ ap (λ v. k.hands f v j) p.1) ∙ has))
              has-still j has (no p) = over.same h q j p ∙ has

              go : ((j : Hand) × HasInHand table k.hands h q j key) ⊎ IsKeyIn key (k.lent.scattered h q) → ((j : Hand) × HasInHand (put table n None) after h q j key) ⊎ IsKeyIn key (k.lent.scattered h q)
              go (inl a) = inl (a.0, record { live = a.1.live; found = put-other table n None h ne ∙ a.1.found; inside = a.1.inside; has = has-still a.0 a.1.has (this-node h f q l) })
              go (inr a) = inr a

      idle-rest : (h : ℕ) (z : Live) (q : ℕ) → put table n None h ≡ Some z → IsIn q z.labels → ¬ IsAtWork (z.states q) → (k.lent.to_slices h q ≡ []) × (k.lent.scattered h q ≡ [])
      idle-rest h z q is i o = st.idle h z q (rest h z is).1 i o

      kept-left : KeptStands cut u g ins (closed table f x l s n) (record k { hands = after })
      kept-left =
          record {
            hands = (hands-kept run c m table root k.stores k.hands st.hands).left after f l n x y s at there apart out work over;
            homes = homes-moved (put table n None) f l x s at-rest cut u k.homes (λ h z is. st.homes h z (rest h z is).1);
            marked = by-place (put table n None) f l x s at-rest (λ h. IsMarkedStore u (k.homes h) (k.stores h)) (λ h z is. st.marked h z (rest h z is).1);
            there = (there-kept (put table n None) k.stores k.homes k.wanted ((there-kept table k.stores k.homes k.wanted st.there).left n)).moved f l x s at-rest (work-done s work) (work-waiting s work);
            right = ((ports-kept (network u) g ins).moved k.pool k.unions table k.stores f l x s st.right at).1 n;
            lent = lent-moved (put table n None) f l x s at-rest k.stores after (takers_of k.homes) k.lent lent-rest idle-rest work;
            idle = idle-moved (put table n None) f l x s at-rest k.lent idle-rest work;
          }

  -- ---- a node changes what it has in its hands

  module _ (run : Run) (c m : Test) (root : ℕ) (after : Hands) (f l : ℕ) (x : Live) (at : table f ≡ Some x) (work : IsAtWork (x.states l)) (r : IsRegrasped table k.stores k.hands after f l)
      (lends : (key : ℕ) → IsKeyIn key (k.lent.to_slices f l) → (i : Hand) → k.hands f l i ≡ Some key → after f l i ≡ Some key)
    where
      in-hand-still : (h q key : ℕ) → IsKeyIn key (k.lent.to_slices h q) → ((j : Hand) × HasInHand table k.hands h q j key) ⊎ IsKeyIn key (k.lent.scattered h q) → ((j : Hand) × HasInHand table after h q j key) ⊎ IsKeyIn key (k.lent.scattered h q)
      in-hand-still h q key t (inr a) = inr a
      in-hand-still h q key t (inl a) = inl (a.0, record { live = a.1.live; found = a.1.found; inside = a.1.inside; has = has-still (this-node h f q l) })
        where
          has-still : Dec ((h ≡ f) × (q ≡ l)) → after h q a.0 ≡ Some key
          has-still (yes p) =
              ap (λ v. after v q a.0) p.0
              ∙ (ap (λ v. after f v a.0) p.1
              ∙ lends key (subst (IsKeyIn key) (ap (λ v. k.lent.to_slices v q) p.0 ∙ ap (k.lent.to_slices f) p.1) t) a.0 (sym (ap (λ v. k.hands v q a.0) p.0 ∙ ap (λ v. k.hands f v a.0) p.1) ∙ a.1.has))
          has-still (no p) = r.same h q a.0 p ∙ a.1.has

      kept-regrasped : KeptStands cut u g ins table (record k { hands = after })
      kept-regrasped =
          record {
            hands = (hands-kept run c m table root k.stores k.hands st.hands).regrasped after f l x at work r;
            homes = st.homes;
            marked = st.marked;
            there = st.there;
            right = st.right;
            lent = record { to_slices = λ h y q key is i t. in-hand-still h q key t (st.lent.to_slices h y q key is i t); scattered = st.lent.scattered };
            idle = st.idle;
          }

  kept-pooled : (other : Pool) → ((f : ℕ) (x : Live) (a : Port) (key : ℕ) → table f ≡ Some x → (k.stores f).cell a ≡ Some (Kept key) → other key ≡ k.pool key) → KeptStands cut u g ins table (record k { pool = other })
  kept-pooled other same =
      record { hands = st.hands; homes = st.homes; marked = st.marked; there = st.there; right = (ports-kept (network u) g ins).pooled k.pool other k.unions table k.stores st.right same; lent = st.lent; idle = st.idle }

pub events-kept : AreAllEventsKept
events-kept cut u g ins run c m table root k st =
    record {
      moved = kept-moved cut u g ins table k st run c m root;
      taken = kept-taken cut u g ins table k st run c m root;
      done = kept-done cut u g ins table k st run c m root;
      scattered = kept-scattered cut u g ins table k st;
      entered = kept-entered cut u g ins table k st run c m root;
      left = λ after f l n x y s at there apart out work before over lends. kept-left cut u g ins table k st run c m root after f l n x y s at there apart out work over lends;
      regrasped = kept-regrasped cut u g ins table k st run c m root;
      pooled = kept-pooled cut u g ins table k st;
    }
