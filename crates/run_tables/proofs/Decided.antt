-- The work on each item has an outcome, since costs are decided, limit by limit; and so one worker comes to an end.
use Rattle.std.proofs.Common.{◌≡◌, ◌≢◌, ℕ, zero, suc, ◌+◌, ◌-◌, ◌*◌, ◌≤◌, ◌<◌, true, false, List, [], ◌∷◌, Some, ◌⊎◌, inl, inr, refl, sym, ap, ◌∙◌, subst, arith}
use Rattle.graph_meaning.specs.Carried.{Carried}
use Rattle.graph_meaning.specs.Entered.{Item, Node, Entry, Slice, Leave, Inside, cost}
use Rattle.graph_meaning.specs.Demand.{Network, IsCut, AreOrderly, tree}
use Rattle.graph_meaning.specs.Histories.{Run, Exists, OwnFirings, History, Legal, Made, OverLimit, NoMemory, EndKind, Results as HasResults, TurnLimit, OutOfMemory, Ended, Outcome, HasEnded, IsOn, IsSettled, IsComplete, MadeWith, Gives, is_slice}
use Rattle.graph_meaning.specs.Laws.{run_of}
use Rattle.graph_meaning.specs.Plain.{Costs}
use Rattle.graph_meaning.proofs.PlainCosts.{plain-costs}
use Rattle.graph_meaning.proofs.Ranks.{ranked}
use Rattle.graph_meaning.proofs.Theorems.{costs-stable, cost-the-sum, runs-never-stuck, runs-confluent}
use Rattle.run_tables.specs.Bounds.{claims_in}
use Rattle.run_tables.proofs.Bounded.{workers-bounded}
use Rattle.run_states.specs.Sliced.{sliced}
use Rattle.run_states.specs.Standing.{Path, plug, IsOuter}
use Rattle.run_states.specs.Paths.{IsItem, a_node, an_entry, a_slice, a_leaving, LeadsTo}
use Rattle.run_states.proofs.Lookups.{some-same}
use Rattle.run_states.proofs.Paths.{paths-exact}
use Rattle.run_states.proofs.Sliced.{slices-cut}
use Rattle.run_states.proofs.Slices.{RowsCost, no_row, a_row, slice-firings, firings-cost}
use Rattle.run_tables.specs.Followed.{HasTable, Rounds, ComesToEnd, DoRunsEnd, AreCostsDecided}
use Rattle.run_tables.proofs.Alone.{rounds-legal, rounds-claim, comes-to-end}
use Rattle.run_tables.proofs.Histories.{plug-slice, tables-there}

not-memory : (n : ℕ) → Made n ≡ NoMemory → ⊥
not-memory n e = cc

over-memory : OverLimit ≡ NoMemory → ⊥
over-memory e = cc

memory-limit : OutOfMemory ≡ TurnLimit → ⊥
memory-limit e = cc

-- an item is one of the graph that a path leads to
record IsPlugged (q : Path) (i : Item) : Type 0 where
  pub path : Path
  pub item : Item
  pub outer : IsOuter item
  pub same : plug q i ≡ plug path item

plugged : (q : Path) (i : Item) → IsPlugged q i
plugged q (Node l) = record { path = q; item = Node l; outer = tt; same = refl }
plugged q (Entry t l k) = record { path = q; item = Entry t l k; outer = tt; same = refl }
plugged q (Slice l k r) = record { path = q; item = Slice l k r; outer = tt; same = refl }
plugged q (Leave l) = record { path = q; item = Leave l; outer = tt; same = refl }
plugged q (Inside l k i) = let r = plugged ((l, k) ∷ q) i in record { path = r.path; item = r.item; outer = r.outer; same = r.same }

module _ (workers : ℕ) (some : 0 < workers) (u : Network) (orderly : AreOrderly u) where
  abbrev HasCost : ℕ → List Carried → ℕ → Type 0
  HasCost j ins c = (n : ℕ) × (cost (tree (sliced workers) n u j ins) ≡ Some c)

  abbrev Decides : ℕ → Type 0
  Decides limit = (j : ℕ) (ins : List Carried) → ((c : ℕ) × HasCost j ins c × (c ≤ limit)) ⊎ ((c : ℕ) → HasCost j ins c → limit < c)

  abbrev RowsDecided : ℕ → ℕ → List (List Carried) → Type 0
  RowsDecided limit j rows = ((c : ℕ) × RowsCost (sliced workers) u j rows c × (c ≤ limit)) ⊎ ((c : ℕ) → RowsCost (sliced workers) u j rows c → limit < c)

  cost-one : (j : ℕ) (ins : List Carried) (c d : ℕ) → HasCost j ins c → HasCost j ins d → c ≡ d
  cost-one j ins c d a b =
      let m = a.0 + b.0 in
      some-same c d (sym (costs-stable (sliced workers) u j ins c a.0 m (omega arith) a.1) ∙ costs-stable (sliced workers) u j ins d b.0 m (omega arith) b.1)

  -- the cost of iterations is that of the first and those of the others
  record IsParted (j : ℕ) (row : List Carried) (rows : List (List Carried)) (n : ℕ) : Type 0 where
    pub first : ℕ
    pub others : ℕ
    pub of_first : HasCost j row first
    pub of_others : RowsCost (sliced workers) u j rows others
    pub sum : n ≡ 1 + first + others

  parted : (j : ℕ) (row : List Carried) (rows : List (List Carried)) (n : ℕ) → RowsCost (sliced workers) u j (row ∷ rows) n → IsParted j row rows n
  parted j row rows _ (a_row {c = c} {d = d} a r) = record { first = c; others = d; of_first = a; of_others = r; sum = refl }

  above-first : (l c d n : ℕ) → l < c → n ≡ 1 + c + d → suc l < n
  above-first l c d n a e = omega (arith, a, e)

  above-others : (l c d n : ℕ) → c ≤ l → l - c < d → n ≡ 1 + c + d → suc l < n
  above-others l c d n a b e = omega (arith, a, b, e)

  within-both : (l c d : ℕ) → c ≤ l → d ≤ l - c → 1 + c + d ≤ suc l
  within-both l c d a b = omega (arith, a, b)

  rows-decide : (j : ℕ) (rows : List (List Carried)) (limit : ℕ) → ((m : ℕ) → m < limit → Decides m) → RowsDecided limit j rows
  rows-decide j [] limit below = inl (0, no_row, omega arith)
  rows-decide j (row ∷ rows) zero below = inr (λ n r. let p = parted j row rows n r in let e = p.sum in omega (arith, e))
  rows-decide j (row ∷ rows) (suc l) below = go (below l (omega arith) j row) (λ m lt. rows-decide j rows m lt)
    where
      others : (c : ℕ) → HasCost j row c → c ≤ l → RowsDecided (l - c) j rows → RowsDecided (suc l) j (row ∷ rows)
      others c a le (inl d) = inl (1 + c + d.0, a_row a d.1, within-both l c d.0 le d.2)
      others c a le (inr over) =
          inr
          (λ n r.
          let p = parted j row rows n r in
          let same = cost-one j row p.first c p.of_first a in
          above-others l c p.others n le (over p.others p.of_others) (p.sum ∙ ap (λ z. 1 + z + p.others) same))

      lower : (c m : ℕ) → m < l - c → m < suc l
      lower c m lt = omega (arith, lt)

      go : ((c : ℕ) × HasCost j row c × (c ≤ l)) ⊎ ((c : ℕ) → HasCost j row c → l < c) → ((m : ℕ) → ((q : ℕ) → q < m → Decides q) → RowsDecided m j rows) → RowsDecided (suc l) j (row ∷ rows)
      go (inr over) rec = inr (λ n r. let p = parted j row rows n r in above-first l p.first p.others n (over p.first p.of_first) p.sum)
      go (inl c) rec = others c.0 c.1 c.2 (rec (l - c.0) (λ q lt. below q (lower c.0 q lt)))

  -- ---- the outcome of an item

  module _ (limit : ℕ) (below : (m : ℕ) → m < limit → Decides m) (g : ℕ) (ins : List Carried) where
    abbrev run : Run
    run = run_of (sliced workers) u g ins

    abbrev Outcomes : Item → Type 0
    Outcomes i = (o : Outcome) × Gives run limit i o × (o ≢ NoMemory)

    no-slice : (i : Item) → is_slice i ≡ false → Outcomes i
    no-slice i e = (Made 0, subst (MadeWith run limit i 0) (sym e) refl, not-memory 0)

    at-path : (p : Path) (h : ℕ) (is : List Carried) (e : Item) → LeadsTo u g ins p h is → IsItem (sliced workers) u h is e → Outcomes (plug p e)
    at-path p h is _ to (a_node l v at) = no-slice (plug p (Node l)) (plug-slice p (Node l))
    at-path p h is _ to (an_entry l k form ks t j js stage w c) = no-slice (plug p (Entry t l (suc k))) (plug-slice p (Entry t l (suc k)))
    at-path p h is _ to (a_leaving l k form ks rs w c) = no-slice (plug p (Leave l)) (plug-slice p (Leave l))
    at-path p h is _ to (a_slice l k r form ks j row rows ms part w c at) = go (rows-decide j part limit below)
      where
        i : Item
        i = Slice l (suc k) r

        exact : (n : ℕ) → (OwnFirings (run_of (sliced workers) u h is) (Slice l (suc k) r) n → OwnFirings run (plug p (Slice l (suc k) r)) n) × (OwnFirings run (plug p (Slice l (suc k) r)) n → OwnFirings (run_of (sliced workers) u h is) (Slice l (suc k) r) n)
        exact n = let x = (paths-exact (sliced workers) u g ins (slices-cut workers some) orderly).firings p h is (Slice l (suc k) r) n to in (x.0, x.1)

        go : RowsDecided limit j part → Outcomes (plug p (Slice l (suc k) r))
        go (inl q) =
            let own = slice-firings (sliced workers) u (slices-cut workers some) (ranked u orderly) h is w.node l w.found form ks w.kind w.given k j row rows ms c r part at q.0 q.1 in
            (Made q.0, subst (MadeWith run limit (plug p (Slice l (suc k) r)) q.0) (sym (plug-slice p (Slice l (suc k) r))) ((exact q.0).0 own, q.2), not-memory q.0)
        go (inr over) = (
          OverLimit,
          (
            plug-slice p (Slice l (suc k) r),
            λ n f. over n (firings-cost (sliced workers) u (slices-cut workers some) (ranked u orderly) h is w.node l w.found form ks w.kind w.given k j row rows ms c r part at n ((exact n).1 f)),
          ),
          over-memory,
        )

    pub outcome : (i : Item) → Exists run i → Outcomes i
    outcome i ex =
        let q = plugged [] i in
        let x = (paths-exact (sliced workers) u g ins (slices-cut workers some) orderly).known q.path q.item q.outer (subst (Exists run) q.same ex) in
        subst Outcomes (sym q.same) (at-path q.path x.0 x.1 q.item x.2 x.3)

    few : (k : History) → Legal run limit k → claims_in k ≤ (4 * workers + 3) * limit
    few k l = (workers-bounded workers u g ins limit k some orderly l).limited

    decided : (k : History) → Legal run limit k → ((e : EndKind) × HasEnded run limit k e) ⊎ IsOn run limit k
    decided k l = go (tables-there (sliced workers) u g ins limit k (slices-cut workers some) orderly l)
      where
        go : ((e : EndKind) × HasEnded run limit k e) ⊎ HasTable (sliced workers) u g ins limit k → ((e : EndKind) × HasEnded run limit k e) ⊎ IsOn run limit k
        go (inl e) = inl e
        go (inr T) = inr T.stands.on

    -- ---- its end tells the cost

    abbrev Decided-here : Type 0
    Decided-here = ((c : ℕ) × HasCost g ins c × (c ≤ limit)) ⊎ ((c : ℕ) → HasCost g ins c → limit < c)

    told : (k : History) → Legal run limit k → IsComplete run limit k → (HasEnded run limit k OutOfMemory → ⊥) → Decided-here
    told k legal complete memory = go complete.0.0 complete.0.1
      where
        go : (e : EndKind) → HasEnded run limit k e → Decided-here
        go HasResults e =
            let c = ((runs-confluent (sliced workers) u g ins limit (slices-cut workers some) orderly).results k legal complete memory).0 e in
            inl (c.0, (cost-the-sum (sliced workers) u g ins c.0).0 c.1, c.2)
        go TurnLimit e =
            inr (λ c h. ((runs-confluent (sliced workers) u g ins limit (slices-cut workers some) orderly).turn_limit k legal complete memory).0 e c ((cost-the-sum (sliced workers) u g ins c).1 h))
        go OutOfMemory e = absurd (memory e)

    nothing-claimed : IsSettled []
    nothing-claimed i e = absurd (clash e)
      where
        clash : false ≡ true → ⊥
        clash e = cc

    not-ended : HasEnded run limit [] OutOfMemory → ⊥
    not-ended e = clash e.0
      where
        clash : OutOfMemory ≡ HasResults → ⊥
        clash e = cc

    decide-here : Decided-here
    decide-here =
        go
        (comes-to-end run limit 0 [] tt (runs-never-stuck (sliced workers) u g ins limit (slices-cut workers some) orderly) decided (λ i ex. let o = outcome i ex in (o.0, o.1))
        ((4 * workers + 3) * limit) few nothing-claimed)
      where
        go : (n : ℕ) × (k : History) × Rounds run limit 0 [] n k × ComesToEnd run limit 0 k × ((((i : Item) (e : Exists run i) → ¬ ((outcome i e).0 ≡ NoMemory)) × (HasEnded run limit [] OutOfMemory → ⊥)) → HasEnded run limit k OutOfMemory → ⊥) → Decided-here
        go r = by r.3
          where
            clean : HasEnded run limit r.1 OutOfMemory → ⊥
            clean = r.4 ((λ i e. (outcome i e).2), not-ended)

            clean-end : HasEnded run limit (Ended 0 TurnLimit ∷ r.1) OutOfMemory → ⊥
            clean-end (inl e) = clean e
            clean-end (inr e) = memory-limit e.1

            by : ComesToEnd run limit 0 r.1 → Decided-here
            by (inl complete) = told r.1 (rounds-legal run limit 0 [] tt r.0 r.1 r.2) complete clean
            by (inr x) = told (Ended 0 TurnLimit ∷ r.1) x.0 x.1 clean-end

  -- ---- all limits

  decides-below : (bound m : ℕ) → m < bound → Decides m
  decides-below zero m lt = absurd (omega (arith, lt))
  decides-below (suc b) m lt = λ j ins. decide-here m (λ q l. decides-below b q (omega (arith, l, lt))) j ins

  pub decides : (limit : ℕ) → Decides limit
  decides limit = decides-below (suc limit) limit (omega arith)

pub costs-decided : AreCostsDecided
costs-decided u g ins limit orderly = go (decides 1 (omega arith) u orderly limit g ins)
  where
    is-cut : IsCut (sliced 1)
    is-cut = slices-cut 1 (omega arith)

    go : ((c : ℕ) × ((n : ℕ) × (cost (tree (sliced 1) n u g ins) ≡ Some c)) × (c ≤ limit)) ⊎ ((c : ℕ) → ((n : ℕ) × (cost (tree (sliced 1) n u g ins) ≡ Some c)) → limit < c) → ((c : ℕ) × ((n : ℕ) × Costs u n g ins c) × (c ≤ limit)) ⊎ ((n c : ℕ) → Costs u n g ins c → limit < c)
    go (inl c) = inl (c.0, (plain-costs (sliced 1) u g ins c.0 is-cut).1 c.1, c.2)
    go (inr over) = inr (λ n c h. over c ((plain-costs (sliced 1) u g ins c is-cut).0 (n, h)))

pub runs-end : DoRunsEnd
runs-end workers u g ins limit w h some orderly legal settled =
    record {
      ends = λ gives.
          let r = comes-to-end (run_of (sliced workers) u g ins) limit w h legal (runs-never-stuck (sliced workers) u g ins limit (slices-cut workers some) orderly) (decided workers some u orderly limit (λ m lt. decides workers some u orderly m) g ins) gives
          ((4 * workers + 3) * limit) (few workers some u orderly limit (λ m lt. decides workers some u orderly m) g ins) settled in
          (r.0, r.1, r.2, r.3);
      gives = λ i ex. outcome workers some u orderly limit (λ m lt. decides workers some u orderly m) g ins i ex;
      few = λ n k r.
          let a = rounds-claim (run_of (sliced workers) u g ins) limit w h legal n k r in
          let b = few workers some u orderly limit (λ m lt. decides workers some u orderly m) g ins k (rounds-legal (run_of (sliced workers) u g ins) limit w h legal n k r) in
          omega (arith, a, b);
    }
