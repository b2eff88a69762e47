-- Graphs that are entered and left, by the modes and the marks.
use Rattle.std.proofs.Common.{◌≡◌, ◌≢◌, ℕ, zero, suc, ◌≤◌, ◌<◌, eqb, true, false, Contains, ◌⊎◌, Some, inl, inr, refl, sym, ap, ◌∙◌, subst, arith, ◌==◌, ◌&&◌}
use Rattle.std.proofs.lemmas.Bool.{eqb-true, eq-eqb}
use Rattle.std.proofs.lemmas.List.Elements.{All-contains}
use Rattle.if1_graph.specs.declared.graph.Graph.TheViews.{out-Graph}
use Rattle.if1_graph.specs.declared.graph.Origin.TheVariants as origin
use Rattle.if1_graph.specs.declared.graph.Unit1.{Unit1}
use Rattle.if1_graph.specs.declared.op.Part.{Part}
use Rattle.if1_graph.specs.declared.op.Part.TheVariants as part
use Rattle.if1_graph.specs.Units.{label_of, edge_into, width, Place, places, number_of, Function, Inside}
use Rattle.if1_marks.specs.Owned.{is_owned}
use Rattle.if1_marks.specs.Sound.{IsSound, IsTakerRight, AreMarksRight}
use Rattle.if1_marks.proofs.Taken.{taken-once}
use Rattle.if1_marks.proofs.Tests.{same-number}
use Rattle.graph_meaning.specs.StorageUnits.{storage_of, takes}
use Rattle.graph_meaning.proofs.Lists.{found-in}
use Rattle.run_states.specs.Standing.{Live, Table}
use Rattle.run_states.specs.Storing.{Kept, Port, Owned, Lent, Store, IsRead}
use Rattle.run_events.specs.Marked.{AreReadsOf, IsReader, IsEnteredWith}
use Rattle.run_events.proofs.Owning.{and-right, true-not-false}
use Rattle.run_events.specs.Hands.{Hand, Hands, HasInHand, IsFree, HandsStand, IsAtHand, AreFilled, IsTakenOver}
use Rattle.run_events.proofs.Hands.{none-cell, none-key, owned-lent, at-hand-unowned}
use Rattle.run_events.specs.Modes.{Mode, Takes, Input, Own, Borrowed, Gone, into_owner, into_selector, into_later, into_part, mode_of, AreModesRight}
use Rattle.run_events.specs.Handing.{IsFromPort, AreInputsBy, AreHandsLeft, IsEnteredRight, AreAllEnteredByModes, IsResultTaken, CameFrom, had, of_result, of_input, copied, AreResultsBy, AreLeftByMarks, AreOutputsBy, AreOutputsFilled, AreAllEnteredWith}
use Rattle.run_events.proofs.Modes.{modes-right, borrowed-gone, and-left}

own-borrowed : {P : Type 0} → Own ≡ Borrowed → P
own-borrowed e = absurd (clash e)
  where
    clash : Own ≡ Borrowed → ⊥
    clash e = cc

not-by-owner : (m : Mode) → into_owner m ≡ Borrowed → m ≢ Takes
not-by-owner m e q = own-borrowed (sym (ap into_owner q) ∙ e)

not-by-selector : (m : Mode) → into_selector m ≡ Borrowed → m ≢ Takes
not-by-selector m e q = own-borrowed (sym (ap into_selector q) ∙ e)

not-by-later : (m : Mode) → into_later m ≡ Borrowed → m ≢ Takes
not-by-later m e q = borrowed-gone (sym e ∙ ap into_later q)

-- what is lent is not taken
not-taken : (x : Part) (m : Mode) → into_part x m ≡ Borrowed → m ≢ Takes
not-taken part.Selector m e = not-by-selector m e
not-taken part.Alternative m e = not-by-owner m e
not-taken part.Arm m e = not-by-owner m e
not-taken part.Initialization m e = not-by-owner m e
not-taken part.Test m e = not-by-later m e
not-taken part.Body m e = not-by-later m e
not-taken part.Returns m e = not-by-later m e
not-taken part.Generator m e = not-by-later m e

pub at-most : (i first : ℕ) → (i ≤ first) ⊎ (first < i)
at-most zero first = inl (omega arith)
at-most (suc i) zero = inr (omega arith)
at-most (suc i) (suc first) = go (at-most i first)
  where
    go : (i ≤ first) ⊎ (first < i) → (suc i ≤ suc first) ⊎ (suc first < suc i)
    go (inl a) = inl (omega (arith, a))
    go (inr a) = inr (omega (arith, a))

-- ---- a graph is entered

module _ (u : Unit1) (p : Place) (l first : ℕ) (port : ℕ → ℕ) (how : ℕ → Input) (table : Table) (stores others : ℕ → Store) (hands after : Hands) (f g : ℕ) (q : Place)
    (reads : AreReadsOf p (stores f)) (same : (h : ℕ) → ¬ (h ≡ g) → others h ≡ stores h) (left : AreHandsLeft others hands after f l g)
    (w : AreInputsBy p l first port how table stores hands f (others g)) (untaken : (i : ℕ) → how i ≡ Borrowed → takes (edge_into p.graph l (port i)) ≡ false)
    (marked : (i : ℕ) → i ≤ first → is_owned u q (origin.Port 0 i) ≡ true → how i ≡ Own)
  where
    -- the port from which an input is lent is read by the node
    lender : (i key : ℕ) → how i ≡ Borrowed → IsFromPort p (stores f) l (port i) key → (b : Port) × IsRead b ((stores f).reads l) × ((stores f).cell b ≡ Some (Kept key))
    lender i key e s =
        let found = found-in (λ z. (z.node == l) && (z.port == port i)) (out-Graph p.graph).edges s.edge s.into in (
          s.from,
          reads.all l s.from
              (record {
                edge = s.edge;
                there = found.0;
                node = same-number s.edge.node l (and-left (s.edge.node == l) (s.edge.port == port i) found.1);
                from = s.origin;
                takes = sym (ap takes s.into) ∙ untaken i e;
              }),
          s.kept,
        )

    own-at : (a : Port) (key : ℕ) → (others g).cell a ≡ Some (Kept key) → (others g).owning a ≡ Owned → IsAtHand table stores hands f l key
    own-at (suc m, i) key ca oa = none-cell (Kept key) (sym (w.outputs m i).0 ∙ ca)
    own-at (zero, i) key ca oa = go (at-most i first)
      where
        by-how : i ≤ first → (h : Input) → how i ≡ h → IsAtHand table stores hands f l key
        by-how below Own e = (w.own i below e).1 key ca
        by-how below Borrowed e = owned-lent ((others g).owning (0, i)) oa (w.borrowed i below e).0
        by-how below Gone e = none-cell (Kept key) (sym (w.gone i below e) ∙ ca)

        go : (i ≤ first) ⊎ (first < i) → IsAtHand table stores hands f l key
        go (inl below) = by-how below (how i) refl
        go (inr above) = (w.further i above).1 key ca

    lent-at : (a : Port) (key : ℕ) → (others g).cell a ≡ Some (Kept key) → (others g).owning a ≡ Lent → (b : Port) × IsRead b ((stores f).reads l) × ((stores f).cell b ≡ Some (Kept key))
    lent-at (suc m, i) key ca oa = none-cell (Kept key) (sym (w.outputs m i).0 ∙ ca)
    lent-at (zero, i) key ca oa = go (at-most i first)
      where
        by-how : i ≤ first → (h : Input) → how i ≡ h → (b : Port) × IsRead b ((stores f).reads l) × ((stores f).cell b ≡ Some (Kept key))
        by-how below Own e = owned-lent ((others g).owning (0, i)) (w.own i below e).0 oa
        by-how below Borrowed e = lender i key e ((w.borrowed i below e).1 key ca)
        by-how below Gone e = none-cell (Kept key) (sym (w.gone i below e) ∙ ca)

        go : (i ≤ first) ⊎ (first < i) → (b : Port) × IsRead b ((stores f).reads l) × ((stores f).cell b ≡ Some (Kept key))
        go (inl below) = by-how below (how i) refl
        go (inr above) = owned-lent ((others g).owning (0, i)) (w.further i above).0 oa

    once-at : (a b : Port) (key : ℕ) → (others g).cell a ≡ Some (Kept key) → (others g).cell b ≡ Some (Kept key) → (others g).owning a ≡ Owned → (others g).owning b ≡ Owned → a ≡ b
    once-at (suc m, i) b key ca cb oa ob = none-cell (Kept key) (sym (w.outputs m i).0 ∙ ca)
    once-at (zero, i) (suc m, j) key ca cb oa ob = none-cell (Kept key) (sym (w.outputs m j).0 ∙ cb)
    once-at (zero, i) (zero, j) key ca cb oa ob = ap (λ z. (0, z)) (w.once i j key ca cb oa ob)

    owned-at : (a : Port) → is_owned u q (origin.Port a.0 a.1) ≡ true → (others g).owning a ≡ Owned
    owned-at (suc m, i) o = (w.outputs m i).1
    owned-at (zero, i) o = go (at-most i first)
      where
        go : (i ≤ first) ⊎ (first < i) → (others g).owning (0, i) ≡ Owned
        go (inl below) = (w.own i below (marked i below o)).0
        go (inr above) = (w.further i above).0

    pub entered-right : IsEnteredRight u q table stores others hands after f l g
    entered-right = (
      record {
        stores_same = same;
        own = own-at;
        each_own = once-at;
        lent = lent-at;
        empty_hands = left.empty;
        hands_same = left.same;
        hands_left = left.left;
      },
      owned-at,
    )

pub entered-by-modes : AreAllEnteredByModes
entered-by-modes u p l n table stores others hands after f g found there not-0 at reads same left =
    record {
      of_part = λ c x k sub is e w.
          entered-right u p l (width p.graph (label_of n)) (λ i. i) (λ i. into_part x (mode_of (storage_of u) (number_of p) l i)) table stores others hands after f g
          (record { graph = sub; home = Inside p.graph n k }) reads same left w
          (λ i h. modes.untaken i (not-taken x (mode_of (storage_of u) (number_of p) l i) h))
          (λ i below o. modes.part_owned c x k i sub is e below o);
      of_function = λ k first fun is names w.
          entered-right u p l first (λ i. suc i) (λ i. into_owner (mode_of (storage_of u) (number_of p) l (suc i))) table stores others hands after f g
          (record { graph = fun; home = Function k }) reads same left w
          (λ i h. modes.untaken (suc i) (not-by-owner (mode_of (storage_of u) (number_of p) l (suc i)) h))
          (λ i below o. modes.argument_owned k i fun is names o);
    }
  where
    modes : AreModesRight u p l n
    modes = modes-right u p l n found there not-0 at

-- ---- what it is entered with

module _ (p : Place) (l first : ℕ) (port : ℕ → ℕ) (how : ℕ → Input) (table : Table) (stores : ℕ → Store) (hands : Hands) (f : ℕ) (store : Store) (st : HandsStand table stores hands) (w : AreInputsBy p l first port how table stores hands f store)
    (untaken : (i : ℕ) → how i ≡ Borrowed → takes (edge_into p.graph l (port i)) ≡ false)
  where
    at-hand : (a : Port) (key : ℕ) → store.cell a ≡ Some (Kept key) → store.owning a ≡ Owned → IsAtHand table stores hands f l key
    at-hand (suc m, i) key ca oa = none-cell (Kept key) (sym (w.outputs m i).0 ∙ ca)
    at-hand (zero, i) key ca oa = go (at-most i first)
      where
        by-how : i ≤ first → (h : Input) → how i ≡ h → IsAtHand table stores hands f l key
        by-how below Own e = (w.own i below e).1 key ca
        by-how below Borrowed e = owned-lent (store.owning (0, i)) oa (w.borrowed i below e).0
        by-how below Gone e = none-cell (Kept key) (sym (w.gone i below e) ∙ ca)

        go : (i ≤ first) ⊎ (first < i) → IsAtHand table stores hands f l key
        go (inl below) = by-how below (how i) refl
        go (inr above) = (w.further i above).1 key ca

    same-input : (a b : Port) (key : ℕ) → store.cell a ≡ Some (Kept key) → store.cell b ≡ Some (Kept key) → store.owning a ≡ Owned → store.owning b ≡ Owned → a ≡ b
    same-input (suc m, i) b key ca cb oa ob = none-cell (Kept key) (sym (w.outputs m i).0 ∙ ca)
    same-input (zero, i) (suc m, j) key ca cb oa ob = none-cell (Kept key) (sym (w.outputs m j).0 ∙ cb)
    same-input (zero, i) (zero, j) key ca cb oa ob = ap (λ z. (0, z)) (w.once i j key ca cb oa ob)

    reader : (a : Port) (key : ℕ) → store.cell a ≡ Some (Kept key) → store.owning a ≡ Lent → (b : Port) × IsReader p l b × ((stores f).cell b ≡ Some (Kept key))
    reader (suc m, i) key ca oa = none-cell (Kept key) (sym (w.outputs m i).0 ∙ ca)
    reader (zero, i) key ca oa = go (at-most i first)
      where
        from : how i ≡ Borrowed → IsFromPort p (stores f) l (port i) key → (b : Port) × IsReader p l b × ((stores f).cell b ≡ Some (Kept key))
        from e s =
            let found = found-in (λ z. (z.node == l) && (z.port == port i)) (out-Graph p.graph).edges s.edge s.into in (
              s.from,
              record {
                edge = s.edge;
                there = found.0;
                node = same-number s.edge.node l (and-left (s.edge.node == l) (s.edge.port == port i) found.1);
                from = s.origin;
                takes = sym (ap takes s.into) ∙ untaken i e;
              },
              s.kept,
            )

        by-how : i ≤ first → (h : Input) → how i ≡ h → (b : Port) × IsReader p l b × ((stores f).cell b ≡ Some (Kept key))
        by-how below Own e = owned-lent (store.owning (0, i)) (w.own i below e).0 oa
        by-how below Borrowed e = from e ((w.borrowed i below e).1 key ca)
        by-how below Gone e = none-cell (Kept key) (sym (w.gone i below e) ∙ ca)

        go : (i ≤ first) ⊎ (first < i) → (b : Port) × IsReader p l b × ((stores f).cell b ≡ Some (Kept key))
        go (inl below) = by-how below (how i) refl
        go (inr above) = owned-lent (store.owning (0, i)) (w.further i above).0 oa

    entered-with-these : IsEnteredWith p table stores f l store
    entered-with-these =
        record {
          owned = λ a key ca oa. (at-hand-unowned table stores hands st f l key (at-hand a key ca oa), λ b cb ob. same-input a b key ca cb oa ob);
          lent = reader;
        }

pub entered-with : AreAllEnteredWith
entered-with u p l n table stores hands f store found there not-0 at st =
    record {
      of_part = λ c x k is e w.
          entered-with-these p l (width p.graph (label_of n)) (λ i. i) (λ i. into_part x (mode_of (storage_of u) (number_of p) l i)) table stores hands f store st w
          (λ i h. modes.untaken i (not-taken x (mode_of (storage_of u) (number_of p) l i) h));
      of_function = λ first w.
          entered-with-these p l first (λ i. suc i) (λ i. into_owner (mode_of (storage_of u) (number_of p) l (suc i))) table stores hands f store st w
          (λ i h. modes.untaken (suc i) (not-by-owner (mode_of (storage_of u) (number_of p) l (suc i)) h));
    }
  where
    modes : AreModesRight u p l n
    modes = modes-right u p l n found there not-0 at

-- ---- a graph is left

pair-same : (a b : ℕ × ℕ) → a.0 ≡ b.0 → a.1 ≡ b.1 → a ≡ b
pair-same (a, c) (b, d) x y = ap (λ z. (z, c)) x ∙ ap (λ z. (b, z)) y

module _ (u : Unit1) (q : Place) (table : Table) (stores : ℕ → Store) (hands after : Hands) (f l g : ℕ) (y : Live) (hand_for : ℕ → Hand) (sound : IsSound u) (there : Contains (places u) q) (st : HandsStand table stores hands)
    (at : table g ≡ Some y) (marked : (a : Port) → is_owned u q (origin.Port a.0 a.1) ≡ true → (stores g).owning a ≡ Owned) (w : AreResultsBy u q table stores hands after f l g hand_for)
  where
    taken-edge : (i key : ℕ) (r : IsResultTaken q (stores g) i key) → Contains (out-Graph q.graph).edges r.edge × (r.edge.port ≡ i)
    taken-edge i key r =
        let found = found-in (λ z. (z.node == 0) && (z.port == i)) (out-Graph q.graph).edges r.edge r.into in
        (found.0, same-number r.edge.port i (and-right (r.edge.node == 0) (r.edge.port == i) found.1))

    -- a result that is taken is owned
    taken-marked : (i key : ℕ) (r : IsResultTaken q (stores g) i key) → is_owned u q (origin.Port r.from.0 r.from.1) ≡ true
    taken-marked i key r =
        let right = All-contains (AreMarksRight u) (places u) q sound there in
        let taker = All-contains (λ e. e.takes ≡ true → IsTakerRight u q e) (out-Graph q.graph).edges r.edge right.takers (taken-edge i key r).0 r.takes in
        subst (λ o. is_owned u q o ≡ true) r.origin taker.may.1

    taken-owned : (i key : ℕ) (r : IsResultTaken q (stores g) i key) → (stores g).owning r.from ≡ Owned
    taken-owned i key r = marked r.from (taken-marked i key r)

    abbrev Came : Hand → ℕ → Type 0
    Came i key = CameFrom u q table stores hands f l g hand_for i key

    -- what a port of the graph owned is in no hand, and not free
    owned-apart : (i : Hand) (key : ℕ) (a : Port) → IsAtHand table stores hands f l key → (stores g).cell a ≡ Some (Kept key) → (stores g).owning a ≡ Owned → ⊥
    owned-apart i key a (inl free) cell own = free.unowned g y a at cell own
    owned-apart i key a (inr h) cell own = st.unowned f l h.0 key h.1 g y a at cell own

    port-of : (i : Hand) (key : ℕ) → Came i key → IsAtHand table stores hands f l key ⊎ ((a : Port) × ((stores g).cell a ≡ Some (Kept key)) × ((stores g).owning a ≡ Owned))
    port-of i key (had h) = inl (inr (i, h))
    port-of i key (of_result j e r) = inr (r.from, r.kept, taken-owned j key r)
    port-of i key (of_input j e lent cell own) = inr ((0, j), cell, own)
    port-of i key (copied free) = inl (inl free)

    same-ports : (a b : Port) (key : ℕ) → (stores g).cell a ≡ Some (Kept key) → (stores g).cell b ≡ Some (Kept key) → (stores g).owning a ≡ Owned → (stores g).owning b ≡ Owned → a ≡ b
    same-ports a b key ca cb oa ob = (st.ports.one_owner g g y y a b key at at ca cb oa ob).1

    same-results : (j k key : ℕ) (r : IsResultTaken q (stores g) j key) (s : IsResultTaken q (stores g) k key) → j ≡ k
    same-results j k key r s =
        let ports = same-ports r.from s.from key r.kept s.kept (taken-owned j key r) (taken-owned k key s) in
        let a = taken-edge j key r in
        let b = taken-edge k key s in
        let edges = taken-once u q r.edge s.edge sound there a.0 b.0 r.takes s.takes (s.origin ∙ (ap (λ z. origin.Port z.0 z.1) (sym ports) ∙ sym r.origin)) in
        sym a.1 ∙ (ap (λ z. z.port) (sym edges) ∙ b.1)

    result-no-input : {P : Type 0} (j k key : ℕ) (r : IsResultTaken q (stores g) j key) → is_owned u q (origin.Port 0 k) ≡ false → (stores g).cell (0, k) ≡ Some (Kept key) → (stores g).owning (0, k) ≡ Owned → P
    result-no-input j k key r lent cell own =
        let ports = same-ports r.from (0, k) key r.kept cell (taken-owned j key r) own in
        true-not-false (is_owned u q (origin.Port 0 k)) (subst (λ z. is_owned u q (origin.Port z.0 z.1) ≡ true) ports (taken-marked j key r)) lent

    once-by : (i j : Hand) (key : ℕ) → after f l i ≡ Some key → after f l j ≡ Some key → Came i key → Came j key → i ≡ j
    once-by i j key a b (copied free) c = w.copies_once i j key a b free
    once-by i j key a b (had h) (copied free) = w.copies_once i j key a b free
    once-by i j key a b (had h) (had k) = (st.once f l i f l j key h k).2
    once-by i j key a b (had h) (of_result m e r) = absurd (owned-apart i key r.from (inr (i, h)) r.kept (taken-owned m key r))
    once-by i j key a b (had h) (of_input m e lent cell own) = absurd (owned-apart i key (0, m) (inr (i, h)) cell own)
    once-by i j key a b (of_result m e r) (copied free) = w.copies_once i j key a b free
    once-by i j key a b (of_result m e r) (had k) = absurd (owned-apart j key r.from (inr (j, k)) r.kept (taken-owned m key r))
    once-by i j key a b (of_result m e r) (of_result o d s) = e ∙ (ap (λ z. (1, z)) (same-results m o key r s) ∙ sym d)
    once-by i j key a b (of_result m e r) (of_input o d lent cell own) = result-no-input m o key r lent cell own
    once-by i j key a b (of_input m e lent cell own) (copied free) = w.copies_once i j key a b free
    once-by i j key a b (of_input m e lent cell own) (had k) = absurd (owned-apart j key (0, m) (inr (j, k)) cell own)
    once-by i j key a b (of_input m e lent cell own) (of_result o d s) = result-no-input o m key s lent cell own
    once-by i j key a b (of_input m e lent cell own) (of_input o d lent' cell' own') = e ∙ (ap (λ (z : Port). hand_for z.1) (same-ports (0, m) (0, o) key cell cell' own own') ∙ sym d)

    taken-over : IsTakenOver table stores hands after f l g
    taken-over =
        record {
          same = w.same;
          has = λ i key e. port-of i key (w.came i key e);
          once = λ i j key a b. once-by i j key a b (w.came i key a) (w.came j key b);
        }

pub left-by-marks : AreLeftByMarks
left-by-marks u q table stores hands after f l g y hand_for sound there st at marked w = taken-over u q table stores hands after f l g y hand_for sound there st at marked w

-- ---- a node is done

module _ (table : Table) (stores others : ℕ → Store) (hands after : Hands) (f l : ℕ) (st : HandsStand table stores hands) (w : AreOutputsBy table stores others hands after f l) where
  at-label : (a : Port) → a.0 ≡ l → a ≡ (l, a.1)
  at-label a e = pair-same a (l, a.1) e refl

  own-output : (a : Port) (key : ℕ) → a.0 ≡ l → (others f).cell a ≡ Some (Kept key) → (others f).cell (l, a.1) ≡ Some (Kept key)
  own-output a key e full = sym (ap (others f).cell (at-label a e)) ∙ full

  hand-of : (i key : ℕ) → IsFree table stores hands key ⊎ HasInHand table hands f l (1, i) key → IsAtHand table stores hands f l key
  hand-of i key (inl free) = inl free
  hand-of i key (inr h) = inr ((1, i), h)

  same-number-in : (a b : Hand) → a ≡ b → a.1 ≡ b.1
  same-number-in a b e = ap (λ (z : Hand). z.1) e

  once-of : (i j key : ℕ) → (others f).cell (l, i) ≡ Some (Kept key) → (others f).cell (l, j) ≡ Some (Kept key) → IsFree table stores hands key ⊎ HasInHand table hands f l (1, i) key → IsFree table stores hands key ⊎ HasInHand table hands f l (1, j) key → i ≡ j
  once-of i j key a b (inl free) c = w.copies_once i j key a b free
  once-of i j key a b (inr h) (inl free) = w.copies_once i j key a b free
  once-of i j key a b (inr h) (inr k) = same-number-in (1, i) (1, j) (st.once f l (1, i) f l (1, j) key h k).2

  outputs-filled-here : AreFilled table stores others hands after f l (λ a. eqb a.0 l)
  outputs-filled-here =
      record {
        cells = λ g a ne. w.cells g a (λ q. ne (q.0, eq-eqb a.0 l q.1));
        reads = w.reads;
        empty = λ a t. ap (stores f).cell (at-label a (eqb-true a.0 l t)) ∙ w.empty a.1;
        own = λ a key t full.
            let e = eqb-true a.0 l t in
            (ap (others f).owning (at-label a e) ∙ w.owned a.1 key (own-output a key e full), hand-of a.1 key (w.came a.1 key (own-output a key e full)));
        each_own = λ a b key t s full other.
            let e = eqb-true a.0 l t in
            let d = eqb-true b.0 l s in
            let same = once-of a.1 b.1 key (own-output a key e full) (own-output b key d other) (w.came a.1 key (own-output a key e full)) (w.came b.1 key (own-output b key d other)) in
            pair-same a b (e ∙ sym d) same;
        hands_same = w.same;
        hands_left = λ i key e. none-key key (sym (w.given i) ∙ e);
      }

pub outputs-filled : AreOutputsFilled
outputs-filled table stores others hands after f l st w = outputs-filled-here table stores others hands after f l st w
