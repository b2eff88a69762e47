-- No more leases are out than so many for each claim: nodes at work are distinct claimed items.
use Rattle.std.proofs.Common.{◌≡◌, ℕ, zero, suc, ◌+◌, ◌*◌, ◌≤◌, ◌<◌, if◌then◌else◌, Bool, true, false, List, [], ◌∷◌, ◌++◌, length, ◌⊎◌, Option, Some, None, inl, inr, refl, sym, ap, ◌∙◌, subst, arith}
use Rattle.graph_meaning.specs.Entered.{Item, Node, Inside, IsIn}
use Rattle.graph_meaning.specs.Histories.{Run, History, Claim, Idle, Ended, Finish, is_claimed, dec_item}
use Rattle.run_states.specs.Standing.{Path, plug, State, Waiting, Claimed, Within, GoingOn, Done, Live, Table}
use Rattle.run_states.specs.Storing.{Store, IsAtWork}
use Rattle.run_states.specs.Leasing.{is_at_work, one_if, ports_with}
use Rattle.run_states.specs.Runs.{RunStands}
use Rattle.run_states.proofs.Items.{or-cases}
use Rattle.run_states.proofs.Matching.{Matches, at_once, deeper, matching}
use Rattle.run_states.proofs.Users.{was-claimed}
use Rattle.run_tables.specs.Bounds.{claims_in}
use Rattle.run_tables.proofs.Bounded.{times-add, times-mono}
use Rattle.run_events.specs.Sums.{PerNode, nodes_sum, graph_sum, table_sum}
use Rattle.run_events.specs.Leases.{Lent, times, slices_out, all_of_node}
use Rattle.run_events.specs.Few.{AreOnce, HaveLabelsOnce, AreLeasesFew}

-- ---- lists of items

abbrev IsThere : Item → List Item → Type 0
IsThere i [] = ⊥
IsThere i (j ∷ js) = (i ≡ j) ⊎ IsThere i js

abbrev AreDistinct : List Item → Type 0
AreDistinct [] = Unit {0}
AreDistinct (j ∷ js) = (¬ IsThere j js) × AreDistinct js

there-or : (xs ys : List Item) (i : Item) → IsThere i (xs ++ ys) → IsThere i xs ⊎ IsThere i ys
there-or [] ys i h = inr h
there-or (x ∷ xs) ys i (inl e) = inl (inl e)
there-or (x ∷ xs) ys i (inr h) = go (there-or xs ys i h)
  where
    go : IsThere i xs ⊎ IsThere i ys → IsThere i (x ∷ xs) ⊎ IsThere i ys
    go (inl a) = inl (inr a)
    go (inr a) = inr a

distinct-both : (xs ys : List Item) → AreDistinct xs → AreDistinct ys → ((i : Item) → IsThere i xs → IsThere i ys → ⊥) → AreDistinct (xs ++ ys)
distinct-both [] ys a b apart = b
distinct-both (x ∷ xs) ys a b apart = (out, distinct-both xs ys a.1 b (λ i h k. apart i (inr h) k))
  where
    go : IsThere x xs ⊎ IsThere x ys → ⊥
    go (inl h) = a.0 h
    go (inr h) = apart x (inl refl) h

    out : ¬ IsThere x (xs ++ ys)
    out h = go (there-or xs ys x h)

length-both : (xs ys : List Item) → length (xs ++ ys) ≡ length xs + length ys
length-both [] ys = omega arith
length-both (x ∷ xs) ys = let a = length-both xs ys in omega (arith, a)

-- ---- without one item

abbrev keep : {j i : Item} → Dec (i ≡ j) → List Item → Item → List Item
keep (yes e) js i = js
keep (no n) js i = i ∷ js

abbrev without : Item → List Item → List Item
without j [] = []
without j (i ∷ is) = keep (dec_item i j) (without j is) i

in-without : (j : Item) (is : List Item) (i : Item) → IsThere i (without j is) → IsThere i is × ¬ (i ≡ j)
in-without j [] i h = absurd h
in-without j (k ∷ is) i h = go (dec_item k j) h (in-without j is i)
  where
    go : (d : Dec (k ≡ j)) → IsThere i (keep d (without j is) k) → (IsThere i (without j is) → IsThere i is × ¬ (i ≡ j)) → IsThere i (k ∷ is) × ¬ (i ≡ j)
    go (yes e) h rec = let r = rec h in (inr r.0, r.1)
    go (no n) (inl e) rec = (inl e, λ q. n (sym e ∙ q))
    go (no n) (inr h) rec = let r = rec h in (inr r.0, r.1)

distinct-without : (j : Item) (is : List Item) → AreDistinct is → AreDistinct (without j is)
distinct-without j [] a = tt
distinct-without j (k ∷ is) a = go (dec_item k j) (distinct-without j is a.1)
  where
    go : (d : Dec (k ≡ j)) → AreDistinct (without j is) → AreDistinct (keep d (without j is) k)
    go (yes e) r = r
    go (no n) r = ((λ h. a.0 (in-without j is k h).0), r)

none-without : (j : Item) (is : List Item) → ¬ IsThere j is → length is ≤ length (without j is)
none-without j [] out = omega arith
none-without j (k ∷ is) out = go (dec_item k j) (none-without j is (λ h. out (inr h)))
  where
    go : (d : Dec (k ≡ j)) → length is ≤ length (without j is) → length (k ∷ is) ≤ length (keep d (without j is) k)
    go (yes e) r = absurd (out (inl (sym e)))
    go (no n) r = omega (arith, r)

length-without : (j : Item) (is : List Item) → AreDistinct is → length is ≤ 1 + length (without j is)
length-without j [] a = omega arith
length-without j (k ∷ is) a = go (dec_item k j) (length-without j is a.1) (none-without j is)
  where
    go : (d : Dec (k ≡ j)) → length is ≤ 1 + length (without j is) → (¬ IsThere j is → length is ≤ length (without j is)) → length (k ∷ is) ≤ 1 + length (keep d (without j is) k)
    go (yes e) r alone = let b = alone (λ h. a.0 (subst (λ z. IsThere z is) (sym e) h)) in omega (arith, b)
    go (no n) r alone = omega (arith, r)

-- ---- distinct claimed items are no more than claims

never : {P : Type 0} → false ≡ true → P
never e = absurd (clash e)
  where
    clash : false ≡ true → ⊥
    clash e = cc

claimed-few : (h : History) (is : List Item) → AreDistinct is → ((i : Item) → IsThere i is → is_claimed h i ≡ true) → length is ≤ claims_in h
claimed-few [] [] a c = omega arith
claimed-few [] (i ∷ is) a c = never (c i (inl refl))
claimed-few (Claim w j ∷ h) is a c =
    let r = claimed-few h (without j is) (distinct-without j is a) (λ i t. before i t (or-cases j (is_claimed h) i (c i (in-without j is i t).0))) in
    let b = length-without j is a in
    omega (arith, r, b)
  where
    before : (i : Item) → IsThere i (without j is) → (j ≡ i) ⊎ (is_claimed h i ≡ true) → is_claimed h i ≡ true
    before i t (inl e) = absurd ((in-without j is i t).1 (sym e))
    before i t (inr e) = e
claimed-few (Idle w ∷ h) is a c = claimed-few h is a c
claimed-few (Ended w k ∷ h) is a c = claimed-few h is a c
claimed-few (Finish w j o ∷ h) is a c = claimed-few h is a c

-- ---- the items of nodes at work

same-node : (p q : Path) (l m : ℕ) → plug p (Node l) ≡ plug q (Node m) → (p ≡ q) × (m ≡ l)
same-node p q l m e = go (matching p q (Node l) (Node m) tt e)
  where
    node-label : Node m ≡ Node l → m ≡ l
    node-label e = cc

    node-inside : (n k : ℕ) (j : Item) → Node m ≡ Inside n k j → ⊥
    node-inside n k j e = cc

    go : Matches p q (Node l) (Node m) → (p ≡ q) × (m ≡ l)
    go (at_once a b) = (a, node-label b)
    go (deeper r n k j a b) = absurd (node-inside n k j b)

abbrev at_work_items : Path → (ℕ → State) → List ℕ → List Item
at_work_items p states [] = []
at_work_items p states (l ∷ ls) = (if is_at_work (states l) then plug p (Node l) ∷ at_work_items p states ls else at_work_items p states ls)

abbrev graph_items : Option Live → List Item
graph_items None = []
graph_items (Some x) = at_work_items x.path x.states x.labels

abbrev table_items : Table → ℕ → List Item
table_items table zero = []
table_items table (suc n) = graph_items (table n) ++ table_items table n

-- such an item is one of a node at work
record IsOfNode (p : Path) (states : ℕ → State) (ls : List ℕ) (i : Item) : Type 0 where
  pub label : ℕ
  pub inside : IsIn label ls
  pub work : is_at_work (states label) ≡ true
  pub same : i ≡ plug p (Node label)

of-node : (p : Path) (states : ℕ → State) (ls : List ℕ) (i : Item) → IsThere i (at_work_items p states ls) → IsOfNode p states ls i
of-node p states [] i h = absurd h
of-node p states (l ∷ ls) i h = go (is_at_work (states l)) refl h (of-node p states ls i)
  where
    later : IsOfNode p states ls i → IsOfNode p states (l ∷ ls) i
    later r = record { label = r.label; inside = inr r.inside; work = r.work; same = r.same }

    go : (b : Bool) → is_at_work (states l) ≡ b → IsThere i (if b then plug p (Node l) ∷ at_work_items p states ls else at_work_items p states ls) → (IsThere i (at_work_items p states ls) → IsOfNode p states ls i) → IsOfNode p states (l ∷ ls) i
    go true e (inl q) rec = record { label = l; inside = inl refl; work = e; same = q }
    go true e (inr h) rec = later (rec h)
    go false e h rec = later (rec h)

distinct-graph : (p : Path) (states : ℕ → State) (ls : List ℕ) → AreOnce ls → AreDistinct (at_work_items p states ls)
distinct-graph p states [] once = tt
distinct-graph p states (l ∷ ls) once = go (is_at_work (states l)) (distinct-graph p states ls once.1)
  where
    out : IsThere (plug p (Node l)) (at_work_items p states ls) → ⊥
    out h =
        let r = of-node p states ls (plug p (Node l)) h in
        once.0 (subst (λ z. IsIn z ls) (same-node p p l r.label r.same).1 r.inside)

    go : (b : Bool) → AreDistinct (at_work_items p states ls) → AreDistinct (if b then plug p (Node l) ∷ at_work_items p states ls else at_work_items p states ls)
    go true r = (out, r)
    go false r = r

length-graph : (p : Path) (states : ℕ → State) (ls : List ℕ) → length (at_work_items p states ls) ≡ nodes_sum (λ l. one_if (is_at_work (states l))) ls
length-graph p states [] = refl
length-graph p states (l ∷ ls) = go (is_at_work (states l)) (length-graph p states ls)
  where
    go : (b : Bool) → length (at_work_items p states ls) ≡ nodes_sum (λ l. one_if (is_at_work (states l))) ls
        → length (if b then plug p (Node l) ∷ at_work_items p states ls else at_work_items p states ls) ≡ one_if b + nodes_sum (λ l. one_if (is_at_work (states l))) ls
    go true r = omega (arith, r)
    go false r = omega (arith, r)

-- an item of the table, with its place
record IsOfTable (table : Table) (n : ℕ) (i : Item) : Type 0 where
  pub at : ℕ
  pub below : at < n
  pub live : Live
  pub found : table at ≡ Some live
  pub node : IsOfNode live.path live.states live.labels i

of-graph : (table : Table) (n : ℕ) (o : Option Live) (i : Item) → table n ≡ o → IsThere i (graph_items o) → (x : Live) × (table n ≡ Some x) × IsOfNode x.path x.states x.labels i
of-graph table n None i e h = absurd h
of-graph table n (Some x) i e h = (x, e, of-node x.path x.states x.labels i h)

of-table : (table : Table) (n : ℕ) (i : Item) → IsThere i (table_items table n) → IsOfTable table n i
of-table table zero i h = absurd h
of-table table (suc n) i h = go (there-or (graph_items (table n)) (table_items table n) i h) (of-table table n i)
  where
    go : IsThere i (graph_items (table n)) ⊎ IsThere i (table_items table n) → (IsThere i (table_items table n) → IsOfTable table n i) → IsOfTable table (suc n) i
    go (inl a) rec = let r = of-graph table n (table n) i refl a in record { at = n; below = omega arith; live = r.0; found = r.1; node = r.2 }
    go (inr a) rec = let r = rec a in record { at = r.at; below = let b = r.below in omega (arith, b); live = r.live; found = r.found; node = r.node }

module _ (run : Run) (limit : ℕ) (h : History) (table : Table) (root : ℕ) (stands : RunStands run limit h table root) (once : HaveLabelsOnce table) where
  distinct-table : (n : ℕ) → AreDistinct (table_items table n)
  distinct-table zero = tt
  distinct-table (suc n) = distinct-both (graph_items (table n)) (table_items table n) (graph (table n) refl) (distinct-table n) apart
    where
      graph : (o : Option Live) → table n ≡ o → AreDistinct (graph_items o)
      graph None e = tt
      graph (Some x) e = distinct-graph x.path x.states x.labels (once n x e)

      apart : (i : Item) → IsThere i (graph_items (table n)) → IsThere i (table_items table n) → ⊥
      apart i a b =
          let r = of-graph table n (table n) i refl a in
          let t = of-table table n i b in
          let paths = (same-node r.0.path t.live.path r.2.label t.node.label (sym r.2.same ∙ t.node.same)).0 in
          let places = stands.stands.once n t.at r.0 t.live r.1 t.found paths in
          let lt = t.below in
          omega (arith, places, lt)

  working : (s : State) → is_at_work s ≡ true → ¬ (s ≡ Waiting)
  working s e q = never (sym (ap is_at_work q) ∙ e)

  claimed-table : (n : ℕ) (i : Item) → IsThere i (table_items table n) → is_claimed h i ≡ true
  claimed-table n i t =
      let r = of-table table n i t in
      ap (is_claimed h) r.node.same
      ∙ was-claimed run limit h table root r.at r.live stands r.found r.node.label r.node.inside (r.live.states r.node.label) ((stands.stands.lives r.at r.live r.found).state r.node.label r.node.inside) (working (r.live.states r.node.label) r.node.work)

  length-table : (n : ℕ) → length (table_items table n) ≡ table_sum (λ f x l. one_if (is_at_work (x.states l))) table n
  length-table zero = refl
  length-table (suc n) =
      let a = length-both (graph_items (table n)) (table_items table n) in
      let b = length-table n in
      let c = graph (table n) in
      omega (arith, a, b, c)
    where
      graph : (o : Option Live) → length (graph_items o) ≡ graph_sum (λ x l. one_if (is_at_work (x.states l))) o
      graph None = refl
      graph (Some x) = length-graph x.path x.states x.labels

  at-work-few : (n : ℕ) → table_sum (λ f x l. one_if (is_at_work (x.states l))) table n ≤ claims_in h
  at-work-few n =
      let a = length-table n in
      let b = claimed-few h (table_items table n) (distinct-table n) (claimed-table n) in
      omega (arith, a, b)

-- ---- the sum

both-few : (a b c d e : ℕ) → a ≤ c → b ≤ d → c + d ≡ e → a + b ≤ e
both-few a b c d e p q r = omega (arith, p, q, r)

none-few : (most : ℕ) → 0 ≤ most * 0
none-few most = omega arith

nodes-few : (most : ℕ) (φ : ℕ → ℕ) (states : ℕ → State) (ls : List ℕ) → ((l : ℕ) → IsIn l ls → φ l ≤ most * one_if (is_at_work (states l))) → nodes_sum φ ls ≤ most * nodes_sum (λ l. one_if (is_at_work (states l))) ls
nodes-few most φ states [] h = none-few most
nodes-few most φ states (l ∷ ls) h =
    both-few (φ l) (nodes_sum φ ls) (most * one_if (is_at_work (states l))) (most * nodes_sum (λ l. one_if (is_at_work (states l))) ls) (most * (one_if (is_at_work (states l)) + nodes_sum (λ l. one_if (is_at_work (states l))) ls))
    (h l (inl refl)) (nodes-few most φ states ls (λ m i. h m (inr i))) (sym (times-add most (one_if (is_at_work (states l))) (nodes_sum (λ l. one_if (is_at_work (states l))) ls)))

table-few : (most : ℕ) (φ : PerNode) (table : Table) → ((f : ℕ) (x : Live) (l : ℕ) → table f ≡ Some x → IsIn l x.labels → φ f x l ≤ most * one_if (is_at_work (x.states l))) → (n : ℕ) → table_sum φ table n ≤ most * table_sum (λ f x l. one_if (is_at_work (x.states l))) table n
table-few most φ table h zero = none-few most
table-few most φ table h (suc n) =
    both-few (table_sum φ table n) (graph_sum (φ n) (table n)) (most * table_sum (λ f x l. one_if (is_at_work (x.states l))) table n) (most * graph_sum (λ x l. one_if (is_at_work (x.states l))) (table n))
    (most * (table_sum (λ f x l. one_if (is_at_work (x.states l))) table n + graph_sum (λ x l. one_if (is_at_work (x.states l))) (table n)))
    (table-few most φ table h n) (graph (table n) refl) (sym (times-add most (table_sum (λ f x l. one_if (is_at_work (x.states l))) table n) (graph_sum (λ x l. one_if (is_at_work (x.states l))) (table n))))
  where
    graph : (o : Option Live) → table n ≡ o → graph_sum (φ n) o ≤ most * graph_sum (λ x l. one_if (is_at_work (x.states l))) o
    graph None e = none-few most
    graph (Some x) e = nodes-few most (φ n x) x.states x.labels (λ l i. h n x l e i)

one-few : (most a : ℕ) → a ≤ most → a ≤ most * 1
one-few most a le = omega (arith, le)

-- what is counted of a node by its state alone
abbrev pub all_as : ℕ → (ℕ → Store) → Lent → ℕ → ℕ → State → ℕ
all_as key stores lent f l s =
    (if is_at_work s then ports_with key (stores f) ((stores f).reads l) else 0)
    + (slices_out s * (ports_with key (stores f) ((stores f).reads l) + times key (lent.to_slices f l)) + (if is_at_work s then times key (lent.scattered f l) else 0))

none-at-all : (a most : ℕ) → 0 + (0 * a + 0) ≤ most * 0
none-at-all a most = omega arith

pub leases-few : AreLeasesFew
leases-few run limit h table root stores lent key most stands once each n =
    let a = table-few most (all_of_node key stores lent) table by-state n in
    let b = times-mono most (table_sum (λ f x l. one_if (is_at_work (x.states l))) table n) (claims_in h) (at-work-few run limit h table root stands once n) in
    omega (arith, a, b)
  where
    -- a node that is not at work has none
    idle : (f : ℕ) (x : Live) (l : ℕ) (s : State) → x.states l ≡ s → all_as key stores lent f l s ≤ most * one_if (is_at_work s) → all_of_node key stores lent f x l ≤ most * one_if (is_at_work (x.states l))
    idle f x l s e le = subst (λ z. all_as key stores lent f l z ≤ most * one_if (is_at_work z)) (sym e) le

    node : (f : ℕ) (x : Live) (l : ℕ) → (s : State) → x.states l ≡ s → (IsAtWork (x.states l) → all_of_node key stores lent f x l ≤ most) → all_of_node key stores lent f x l ≤ most * one_if (is_at_work (x.states l))
    node f x l Waiting e le = idle f x l Waiting e (none-at-all (ports_with key (stores f) ((stores f).reads l) + times key (lent.to_slices f l)) most)
    node f x l Claimed e le = subst (λ z. all_of_node key stores lent f x l ≤ most * one_if (is_at_work z)) (sym e) (one-few most (all_of_node key stores lent f x l) (le (subst IsAtWork (sym e) tt)))
    node f x l (Within k g) e le = subst (λ z. all_of_node key stores lent f x l ≤ most * one_if (is_at_work z)) (sym e) (one-few most (all_of_node key stores lent f x l) (le (subst IsAtWork (sym e) tt)))
    node f x l (GoingOn k os) e le = subst (λ z. all_of_node key stores lent f x l ≤ most * one_if (is_at_work z)) (sym e) (one-few most (all_of_node key stores lent f x l) (le (subst IsAtWork (sym e) tt)))
    node f x l Done e le = idle f x l Done e (none-at-all (ports_with key (stores f) ((stores f).reads l) + times key (lent.to_slices f l)) most)

    by-state : (f : ℕ) (x : Live) (l : ℕ) → table f ≡ Some x → IsIn l x.labels → all_of_node key stores lent f x l ≤ most * one_if (is_at_work (x.states l))
    by-state f x l at i = node f x l (x.states l) refl (each f x l at i)
