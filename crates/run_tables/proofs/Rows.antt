-- An item that was claimed and is not made is one by which a node of the table goes on, or its own.
use Rattle.std.proofs.Common.{◌≡◌, ℕ, suc, true, false, [], ◌∷◌, Some, ◌⊎◌, inl, inr, refl, sym, ap, ◌∙◌, subst, arith}
use Rattle.graph_meaning.specs.Entered.{Item, Node, Entry, Slice, Leave, Inside, IsIn}
use Rattle.graph_meaning.specs.Histories.{Run, Exists, dec_item}
use Rattle.run_states.specs.Standing.{plug, label_of, AtLeast, IsOuter, IsWithin, Test, Status, Open, Taken, Finished, Opens, State, Waiting, Claimed, Within, GoingOn, Done, Stands, IsAmong, IsStep, GoesOn, StatusIs, NodeStands, Live, Table, tests_at, IsChild, TableStands}
use Rattle.run_states.proofs.Ready.{at-least, clash}

pub record OpenRow (table : Table) (i : Item) : Type 0 where
  pub at : ℕ
  pub live : Live
  pub label : ℕ
  pub item : Item
  pub found : table at ≡ Some live
  pub inside : IsIn label live.labels
  pub outer : IsOuter item
  pub own : label_of item ≡ label
  pub state : ((live.states label ≡ Claimed) × (item ≡ Node label)) ⊎ ((k : ℕ) × (os : Opens) × (live.states label ≡ GoingOn k os) × Stands item Taken os)
  pub same : plug live.path item ≡ i

pub among? : (e : Item) (os : Opens) → Dec (IsAmong e os)
among? e [] = no (λ a. a.1)
among? e (o ∷ os) = go (dec_item e o.0) (among? e os)
  where
    go : Dec (e ≡ o.0) → Dec (IsAmong e os) → Dec (IsAmong e (o ∷ os))
    go (yes q) d = yes (o.1, inl (q, refl))
    go (no n) (yes a) = yes (a.0, inr a.1)
    go (no n) (no m) = no (λ a. out a.0 a.1)
      where
        out : (s : Status) → Stands e s (o ∷ os) → ⊥
        out s (inl b) = n b.0
        out s (inr b) = m (s, b)

module _ (run : Run) (c m : Test) (table : Table) (root : ℕ) (stands : TableStands run c m table root) where
  abbrev Rows : Item → Type 0
  Rows i = (f : ℕ) (x : Live) → table f ≡ Some x → Exists x.run i → tests_at x.path c i ≡ true → tests_at x.path m i ≡ false → OpenRow table (plug x.path i)

  abbrev RowsInside : Item → Type 0
  RowsInside (Inside l k i) = Rows i
  RowsInside _ = Unit {0}

  module _ (f : ℕ) (x : Live) (at : table f ≡ Some x) (i : Item) (inner : RowsInside i) (ex : Exists x.run i) (claimed : tests_at x.path c i ≡ true) (not-made : tests_at x.path m i ≡ false) where
    unclaimed : {P : Type 0} → tests_at x.path c i ≡ false → P
    unclaimed h = clash (c (plug x.path i)) claimed h

    made : {P : Type 0} → tests_at x.path m i ≡ true → P
    made h = clash (m (plug x.path i)) h not-made

    module _ (l : ℕ) (labelled : label_of i ≡ l) (in-x : IsIn l x.labels) where
      own-or-inner : (i ≡ Node l) ⊎ AtLeast 0 i
      own-or-inner = go i labelled
        where
          go : (i : Item) → label_of i ≡ l → (i ≡ Node l) ⊎ AtLeast 0 i
          go (Node n) e = inl (ap Node e)
          go (Entry t n k) e = inr (omega arith)
          go (Slice n k r) e = inr (omega arith)
          go (Leave n) e = inr tt
          go (Inside n k j) e = inr (omega arith)

      in-claimed : x.states l ≡ Claimed → NodeStands x.run (tests_at x.path c) (tests_at x.path m) l x.last Claimed → (i ≡ Node l) ⊎ AtLeast 0 i → OpenRow table (plug x.path i)
      in-claimed is st (inl own) = record { at = f; live = x; label = l; item = Node l; found = at; inside = in-x; outer = tt; own = refl; state = inl (is, refl); same = ap (plug x.path) (sym own) }
      in-claimed is st (inr later) = unclaimed (st.2 i labelled later)

      in-going : (k : ℕ) (os : Opens) → x.states l ≡ GoingOn k os → NodeStands x.run (tests_at x.path c) (tests_at x.path m) l x.last (GoingOn k os) → Dec (AtLeast k i) → Dec (IsAmong i os) → OpenRow table (plug x.path i)
      in-going k os is st (no less) d = made (st.0 i ex labelled less)
      in-going k os is st (yes from) (no out) = unclaimed (st.3 i labelled from out)
      in-going k os is st (yes from) (yes a) = of-status a.0 a.1 (st.2 i a.0 a.1)
        where
          goes : GoesOn x.run l k os
          goes = st.1

          of-status : (s : Status) → Stands i s os → StatusIs (tests_at x.path c) (tests_at x.path m) i s → OpenRow table (plug x.path i)
          of-status Open in-os st' = unclaimed st'
          of-status Finished in-os st' = made st'
          of-status Taken in-os st' =
              record { at = f; live = x; label = l; item = i; found = at; inside = in-x; outer = (goes.exists i (Taken, in-os)).3; own = labelled; state = inr (k, os, is, in-os); same = refl }

      in-within : (k g : ℕ) → x.states l ≡ Within k g → NodeStands x.run (tests_at x.path c) (tests_at x.path m) l x.last (Within k g) → Dec (AtLeast k i) → OpenRow table (plug x.path i)
      in-within k g is st (no less) = made (st.0 i ex labelled less)
      in-within k g is st (yes from) = go (step.here i ex labelled from)
        where
          ch : (y : Live) × (table g ≡ Some y) × IsChild m x y l k
          ch = stands.child f x l k g at in-x is

          step : IsStep x.run ch.0.run l k ch.2.entry
          step = ch.2.step

          deeper : (z : Item) → i ≡ z → RowsInside z → IsWithin k z → OpenRow table (plug x.path i)
          deeper (Node n) e fi w = absurd w
          deeper (Entry t n q) e fi w = absurd w
          deeper (Slice n q r) e fi w = absurd w
          deeper (Leave n) e fi w = absurd w
          deeper (Inside n q j) e fi w =
              let same : i ≡ Inside l k j = e ∙ (ap (λ z. Inside z q j) (sym (ap label_of e) ∙ labelled) ∙ ap (λ z. Inside l z j) w) in
              let y = ch.0 in
              let path-is : plug y.path j ≡ plug x.path i = ap (λ p. plug p j) ch.2.path ∙ ap (plug x.path) (sym same) in
              subst (OpenRow table) path-is (fi g y ch.1 (step.inward j (subst (Exists x.run) same ex)) (ap c path-is ∙ claimed) (ap m path-is ∙ not-made))

          go : AtLeast (suc k) i ⊎ ((i ≡ ch.2.entry) ⊎ IsWithin k i) → OpenRow table (plug x.path i)
          go (inl le) = unclaimed (st.1 i labelled le)
          go (inr (inl e)) = made (ap (λ z. m (plug x.path z)) e ∙ ch.2.entered)
          go (inr (inr w)) = deeper i refl inner w

      by-state : (s : State) → x.states l ≡ s → NodeStands x.run (tests_at x.path c) (tests_at x.path m) l x.last s → OpenRow table (plug x.path i)
      by-state Waiting is st = unclaimed (st.0 i labelled)
      by-state Claimed is st = in-claimed is st own-or-inner
      by-state (Within k g) is st = in-within k g is st (at-least k i)
      by-state (GoingOn k os) is st = in-going k os is st (at-least k i) (among? i os)
      by-state Done is st = made (st.0 i ex labelled)

    row-here : OpenRow table (plug x.path i)
    row-here =
        let lives = stands.lives f x at in
        let l = label_of i in
        let in-x = lives.labelled i ex in
        by-state l refl in-x (x.states l) refl (lives.state l in-x)

  rows : (i : Item) → Rows i
  rows (Node l) f x at ex a b = row-here f x at (Node l) tt ex a b
  rows (Entry t l k) f x at ex a b = row-here f x at (Entry t l k) tt ex a b
  rows (Slice l k r) f x at ex a b = row-here f x at (Slice l k r) tt ex a b
  rows (Leave l) f x at ex a b = row-here f x at (Leave l) tt ex a b
  rows (Inside l k i) f x at ex a b = row-here f x at (Inside l k i) (rows i) ex a b

  pub open-row : (i : Item) → Exists run i → c i ≡ true → m i ≡ false → OpenRow table i
  open-row i ex a b =
      let first = stands.first.0 in
      let run-is : first.run ≡ run = stands.top root first stands.first.1 stands.first.2 in
      let at-root : plug first.path i ≡ i = ap (λ p. plug p i) stands.first.2 in
      subst (OpenRow table) at-root (rows i root first stands.first.1 (subst (λ r. Exists r i) (sym run-is) ex) (ap c at-root ∙ a) (ap m at-root ∙ b))
