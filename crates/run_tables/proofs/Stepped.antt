-- What each finish leaves.
use Rattle.std.proofs.Common.{◌≡◌, ℕ, suc, ◌≤◌, Bool, true, false, if◌then◌else◌, List, [], ◌∷◌, map, length, Some, None, ◌⊎◌, inl, inr, refl, sym, ap, ◌∙◌, subst, arith}
use Rattle.if1_graph.specs.declared.op.Simple.{Simple}
use Rattle.graph_meaning.specs.Carried.{Carried}
use Rattle.graph_meaning.specs.NodeValues.{Shape}
use Rattle.graph_meaning.specs.Entered.{Item, Node, Entry, Slice, Leave, Inside, IsIn, Has}
use Rattle.graph_meaning.specs.Forms.{Form, First, Next, Enter, Iterate, Leave as Leaves, Begins, Skips, Stage, first, gather}
use Rattle.graph_meaning.specs.Demand.{Kind, Plain, Whole, Vertex, Network, Cut, IsCut, AreOrderly, IsLabel, at_label, waits, waits_of, data_labels, all, dem, operands, of_node, leads_to, nodes_tree, tree_from, tree}
use Rattle.graph_meaning.specs.Histories.{Exists, OwnFirings, dec_item}
use Rattle.graph_meaning.specs.Laws.{run_of}
use Rattle.run_states.specs.Standing.{plug, label_of, AtLeast, IsOuter, IsWithin, Test, Status, Open, Taken, Finished, Opens, State, Waiting, Claimed, Within, GoingOn, Done, Stands, IsAmong, IsStep, GoesOn, StatusIs, IsMadeTo, NodeStands, Live, Table, tests_at, IsNew, TableStands, AreBusy, mark, with_state, put, changed}
use Rattle.run_states.specs.Events.{also, AreFinishesKept}
use Rattle.run_states.specs.Paths.{IsWhole, EntersAt, at_first, at_step, inside}
use Rattle.run_states.specs.Phases.{Results, Operands, Comes, skips, iterates, ranges, opens_of, last_by, last_of, labels_of, entered_live}
use Rattle.run_states.specs.Values.{OutputsOf}
use Rattle.run_states.proofs.Graphs.{entered-new, entered-step}
use Rattle.run_states.proofs.Items.{or-same, or-more, item-other}
use Rattle.run_states.proofs.Kept.{finishes-kept, busy-kept}
use Rattle.run_states.proofs.Lookups.{put-other, set-same, some-same, some-none}
use Rattle.run_states.proofs.Ready.{at-least}
use Rattle.run_states.proofs.Stated.{nodes-of-runs, steps-of-runs}
use Rattle.run_states.proofs.Values.{whole-leaves}
use Rattle.run_tables.specs.Known.{HaveSameItems, IsGoingOn, IsKnownAs, IsKnown, AreKnown}
use Rattle.run_tables.proofs.Owned.{Kind as KindOf, kind, among-ranges, only-leaving, only-own, among-slices}
use Rattle.run_tables.proofs.Carried.{operands-of, results-of, fired}
use Rattle.run_tables.proofs.Sliced.{all-gathered}
use Rattle.run_tables.proofs.Followed.{After, after-done, vertex-of, in-labels, left-of, put-known, entered-known, state-known, beyond-put, after-graph, alone-stands, unfinished, range-slice, opens-open, opens-some, same-items, mark-items, items-among, among-items, going-done, within-done, claimed-within, going-within, ready}

-- another item stands as it did
unmarked-stands : (i : Item) (s : Status) {e : Item} (os : Opens) → ¬ (i ≡ e) → Stands i s os → Stands i s (mark e Finished os)
unmarked-stands i s [] ne h = h
unmarked-stands i s {e = e} (o ∷ os) ne (inl h) = inl (h.0, h.1 ∙ sym (ap (λ b. if b then Finished else o.1) (item-other o.0 e (λ q. ne (h.0 ∙ q)))))
unmarked-stands i s {e = e} (o ∷ os) ne (inr h) = inr (unmarked-stands i s os ne h)

-- no item is in a graph without nodes
no-items : (cut : Cut) (u : Network) (j : ℕ) (js : List Carried) → (u j).nodes ≡ [] → (i : Item) → Exists (λ n. tree cut n u j js) i → ⊥
no-items cut u j js e i ex = subst (λ vs. Has (nodes_tree (tree_from cut ex.0 u) (λ v. operands (of_node (leads_to ex.0 u)) (u j) js v.ins) vs) i ex.1) e ex.2

node-leave : (l n : ℕ) → Node l ≡ Leave n → ⊥
node-leave l n e = cc

entry-leave : (t : Bool) (l k n : ℕ) → Entry t l k ≡ Leave n → ⊥
entry-leave t l k n e = cc

slice-leave : (l k r n : ℕ) → Slice l k r ≡ Leave n → ⊥
slice-leave l k r n e = cc

inside-entry : (l k : ℕ) (i : Item) (t : Bool) (n q : ℕ) → Inside l k i ≡ Entry t n q → ⊥
inside-entry l k i t n q e = cc

module _ (cut : Cut) (u : Network) (g : ℕ) (ins : List Carried) (is-cut : IsCut cut) (orderly : AreOrderly u) (c m : Test) (table : Table) (root : ℕ) (stands : TableStands (run_of cut u g ins) c m table root) (busy : AreBusy table) (known : AreKnown cut u g ins table)
    (bound : ℕ) (beyond : (h : ℕ) → bound ≤ h → table h ≡ None) (f : ℕ) (x : Live) (l : ℕ) (e : Item) (at : table f ≡ Some x) (in-x : IsIn l x.labels) (outer : IsOuter e) (own : label_of e ≡ l) (was : tests_at x.path c e ≡ true)
  where
    abbrev K : IsKnown cut u g ins x
    K = known f x at

    abbrev V : (v : Vertex) × (at_label (u (known f x at).graph).nodes l ≡ Some v) × ((n : ℕ) → IsIn n (waits v) → IsLabel (u (known f x at).graph).nodes n)
    V = vertex-of cut u g ins is-cut orderly x (known f x at) l in-x

    same-vertex : (v : Vertex) → at_label (u K.graph).nodes l ≡ Some v → V.0 ≡ v
    same-vertex v e = some-same V.0 v (sym V.1 ∙ e)

    kept : AreFinishesKept (run_of cut u g ins) c m table root f l x e
    kept = finishes-kept (run_of cut u g ins) c m table root f l x e stands (record { found = at; inside = in-x; outer = outer; own = own }) was

    stood : NodeStands x.run (tests_at x.path c) (tests_at x.path m) l x.last (x.states l)
    stood = (stands.lives f x at).state l in-x

    stood-as : (s : State) → x.states l ≡ s → NodeStands x.run (tests_at x.path c) (tests_at x.path m) l x.last s
    stood-as s is = subst (NodeStands x.run (tests_at x.path c) (tests_at x.path m) l x.last) is stood

    to-run : (i : Item) → Exists x.run i → Exists (λ n. tree cut n u K.graph K.inputs) i
    to-run i ex = subst (λ r. Exists r i) K.live.run ex

    last-is : (k : Kind) → V.0.kind ≡ k → x.last l ≡ last_by k l
    last-is k q = ap (λ z. z l) K.live.last ∙ (ap (λ o. last_of o l) V.1 ∙ ap (λ z. last_by z l) q)

    abbrev Next-of : Type 0
    Next-of = After cut u g ins is-cut orderly c (also x e m) root

    made-own : (i : Item) → i ≡ e → tests_at x.path (also x e m) i ≡ true
    made-own i q = ap (λ z. also x e m (plug x.path z)) q ∙ or-same (plug x.path e) m

    made-before : (i : Item) → tests_at x.path m i ≡ true → tests_at x.path (also x e m) i ≡ true
    made-before i h = or-more (plug x.path e) m (plug x.path i) h

    -- the node goes on at the next step by these items
    module _ (k : ℕ) (form : Form) (ks : List Carried) (w : IsWhole u K.graph K.inputs l form ks) (next : Next) (comes : Comes u form ks k next) (not-inside : (n h : ℕ) → x.states l ≡ Within n h → ⊥)
        (to-here : IsMadeTo x.run (tests_at x.path (also x e m)) l (suc k)) (later : (i : Item) → label_of i ≡ l → AtLeast (suc k) i → tests_at x.path c i ≡ false)
        (last-open : tests_at x.path m (x.last l) ≡ false) (not-last : ¬ (e ≡ x.last l))
      where
        goes : GoesOn x.run l (suc k) (opens_of cut l (suc k) next)
        goes = subst (λ r. GoesOn r l (suc k) (opens_of cut l (suc k) next)) (sym K.live.run) ((steps-of-runs cut u K.graph K.inputs l form ks is-cut orderly w).openings k next comes)

        going-after : Next-of
        going-after =
            let some = opens-some cut is-cut l (suc k) next in
            record {
              table = put table f (Some (with_state x l (GoingOn (suc k) (opens_of cut l (suc k) next))));
              stands = kept.goes_on k (opens_of cut l (suc k) next) not-inside to-here later last-open not-last goes (opens-open cut l (suc k) next) some.0 some.1;
              busy = (busy-kept table f l x (GoingOn (suc k) (opens_of cut l (suc k) next)) busy (λ n. (l, in-x, λ q. going-done (suc k) (opens_of cut l (suc k) next) (sym (set-same x.states l (GoingOn (suc k) (opens_of cut l (suc k) next))) ∙ q)))).0;
              known =
                  put-known cut u g ins table f (with_state x l (GoingOn (suc k) (opens_of cut l (suc k) next))) known
                  (state-known cut u g ins x l (GoingOn (suc k) (opens_of cut l (suc k) next)) (known f x at)
                  (λ v at-v. record { form = form; operands = ks; whole = w; before = k; step = refl; next = next; comes = comes; items = same-items (opens_of cut l (suc k) next) }));
              bound = bound;
              beyond = beyond-put cut u g ins table f bound x (with_state x l (GoingOn (suc k) (opens_of cut l (suc k) next))) at beyond;
            }

    -- the node enters a graph at this step
    module _ (k : ℕ) (form : Form) (ks : List Carried) (w : IsWhole u K.graph K.inputs l form ks) (j : ℕ) (js : List Carried) (enters : EntersAt u form ks l k e j js) (not-inside : (n h : ℕ) → x.states l ≡ Within n h → ⊥)
        (before : (i : Item) → Exists x.run i → label_of i ≡ l → ¬ AtLeast k i → tests_at x.path (also x e m) i ≡ true) (later : (i : Item) → label_of i ≡ l → AtLeast (suc k) i → tests_at x.path c i ≡ false)
        (fresh : (i : Item) → tests_at x.path c (Inside l k i) ≡ false) (last-open : tests_at x.path m (x.last l) ≡ false) (not-last : ¬ (e ≡ x.last l))
        (law : (y : Live) → IsNew c (also x e m) table x l k bound y → TableStands (run_of cut u g ins) c (also x e m) (changed table f x l (Within k bound) bound (Some y)) root)
      where
        step : IsStep x.run (λ n. tree cut n u j js) l k e
        step = subst (λ r. IsStep r (λ n. tree cut n u j js) l k e) (sym K.live.run) (entered-step cut u is-cut (ready cut u g ins is-cut orderly) K.graph K.inputs l form ks w k e j js enters)

        -- a graph without nodes is over at once
        module _ (none : (u j).nodes ≡ []) where
          no-label : {P : Type 0} (n : ℕ) → IsLabel (u j).nodes n → P
          no-label n i = absurd (subst (λ vs. IsLabel vs n) none i)

          no-state : (n : ℕ) (v : Vertex) → at_label (u j).nodes n ≡ Some v → IsKnownAs cut u j js n v Waiting
          no-state n v i = tt

          results : (rs : List Carried) × Results u j js rs
          results = results-of cut u j js (λ n. Waiting) no-state (λ n i. no-label n ((orderly j).results_named n i))

          after : (next : Next) × Comes u form ks k next
          after = after-graph u form ks l k e j js results.0 enters results.1

          to-here : IsMadeTo x.run (tests_at x.path (also x e m)) l (suc k)
          to-here i ex lab less = go (at-least k i)
            where
              within : (z : Item) → i ≡ z → IsWithin k z → tests_at x.path (also x e m) i ≡ true
              within (Node n) q h = absurd h
              within (Entry t n p) q h = absurd h
              within (Slice n p r) q h = absurd h
              within (Leave n) q h = absurd h
              within (Inside n p z) q h =
                  let same : i ≡ Inside l k z = q ∙ (ap (λ y. Inside y p z) (sym (ap label_of q) ∙ lab) ∙ ap (λ y. Inside l y z) h) in
                  absurd (no-items cut u j js none z (step.inward z (subst (Exists x.run) same ex)))

              by : AtLeast (suc k) i ⊎ ((i ≡ e) ⊎ IsWithin k i) → tests_at x.path (also x e m) i ≡ true
              by (inl more) = absurd (less more)
              by (inr (inl q)) = made-own i q
              by (inr (inr h)) = within i refl h

              go : Dec (AtLeast k i) → tests_at x.path (also x e m) i ≡ true
              go (no n) = before i ex lab n
              go (yes from) = by (step.here i ex lab from)

          passes : Next-of
          passes = going-after k form ks w after.0 after.1 not-inside to-here later last-open not-last

        -- another one is added to the table
        module _ (v : Vertex) (vs : List Vertex) (some : (u j).nodes ≡ v ∷ vs) where
          new : IsNew c (also x e m) table x l k bound (entered_live cut u j js ((l, k) ∷ x.path))
          new = entered-new cut u is-cut orderly (run_of cut u g ins) c m table root f l k bound x K.graph j K.inputs js form ks e stands at (beyond bound (omega arith)) K.live w enters was fresh

          waiting-done : Waiting ≡ Done → ⊥
          waiting-done q = cc

          enters-after : Next-of
          enters-after =
              record {
                table = changed table f x l (Within k bound) bound (Some (entered_live cut u j js ((l, k) ∷ x.path)));
                stands = law (entered_live cut u j js ((l, k) ∷ x.path)) new;
                busy =
                    (busy-kept table f l x (Within k bound) busy (λ n. (l, in-x, λ q. within-done k bound (sym (set-same x.states l (Within k bound)) ∙ q)))).1 bound (entered_live cut u j js ((l, k) ∷ x.path))
                    (v.label, subst (λ z. IsIn v.label (labels_of z)) (sym some) (inl refl), waiting-done);
                known =
                    put-known cut u g ins (put table bound (Some (entered_live cut u j js ((l, k) ∷ x.path)))) f (with_state x l (Within k bound))
                    (put-known cut u g ins table bound (entered_live cut u j js ((l, k) ∷ x.path)) known
                    (entered-known cut u g ins ((l, k) ∷ x.path) j js (inside l k e x.path K.graph K.inputs form ks j js K.leads w enters)))
                    (state-known cut u g ins x l (Within k bound) (known f x at) (λ v at-v. record { form = form; operands = ks; whole = w; entry = e; graph = j; inputs = js; enters = enters }));
                bound = suc bound;
                beyond =
                    beyond-put cut u g ins (put table bound (Some (entered_live cut u j js ((l, k) ∷ x.path)))) f (suc bound) x (with_state x l (Within k bound))
                    (put-other table bound (Some (entered_live cut u j js ((l, k) ∷ x.path))) f (λ q. some-none x at (ap table q ∙ beyond bound (omega arith))) ∙ at)
                    (λ h le. put-other table bound (Some (entered_live cut u j js ((l, k) ∷ x.path))) h (λ q. omega (arith, le, q)) ∙ beyond h (omega (arith, le)));
              }

        by-nodes : (vs : List Vertex) → (u j).nodes ≡ vs → Next-of
        by-nodes [] q = passes q
        by-nodes (v ∷ vs) q = enters-after v vs q

    -- the node is done
    module _ (done : TableStands (run_of cut u g ins) c (also x e m) (put table f (Some (with_state x l Done))) root)
        (outputs : (v : Vertex) → at_label (u K.graph).nodes l ≡ Some v → (rs : List Carried) × OutputsOf u K.graph K.inputs v rs)
      where
        done-after : Next-of
        done-after = after-done cut u g ins is-cut orderly c (also x e m) table root f l x at done busy known bound beyond outputs

    -- ---- its own item

    module _ (is : x.states l ≡ Claimed) (item : e ≡ Node l) (waited : (n : ℕ) → IsIn n (x.waits l) → x.states n ≡ Done) where
      sources-done : (n : ℕ) → IsIn n (data_labels V.0.ins) → (v : Vertex) × (at_label (u K.graph).nodes n ≡ Some v) × (x.states n ≡ Done)
      sources-done n i =
          let w = left-of cut u g ins is-cut orderly (data_labels V.0.ins) V.0.before n i in
          let lab = subst (IsIn n) (sym K.live.labels) (in-labels cut u g ins is-cut orderly (u K.graph).nodes n (V.2 n w)) in
          let v = vertex-of cut u g ins is-cut orderly x (known f x at) n lab in
          (v.0, v.1, waited n (subst (λ z. IsIn n (z l)) (sym K.live.waits) (subst (λ o. IsIn n (waits_of o)) (sym V.1) w)))

      simple-after : (row : Simple) (shape : Shape) → V.0.kind ≡ Plain row shape → Next-of
      simple-after row shape plain =
          done-after
          (kept.simple_node is item (last-is (Plain row shape) plain) (λ i ex lab. ((nodes-of-runs cut u K.graph K.inputs V.0 l is-cut orderly V.1).alone row shape plain).1 i (to-run i ex) lab))
          (λ v at-v. subst (λ z. (rs : List Carried) × OutputsOf u K.graph K.inputs z rs) (same-vertex v at-v) (fired cut u K.graph K.inputs x.states K.nodes V.0 row shape plain sources-done))

      module _ (form : Form) (compound : V.0.kind ≡ Whole form) where
        given : (ks : List Carried) × Operands u K.graph K.inputs V.0 ks
        given = operands-of cut u K.graph K.inputs x.states K.nodes V.0 sources-done

        whole : IsWhole u K.graph K.inputs l form given.0
        whole = record { node = V.0; found = V.1; kind = compound; given = given.1 }

        claimed-as : NodeStands x.run (tests_at x.path c) (tests_at x.path m) l x.last Claimed
        claimed-as = stood-as Claimed is

        not-last : ¬ (e ≡ x.last l)
        not-last q = node-leave l l (sym item ∙ (q ∙ last-is (Whole form) compound))

        not-inside : (n h : ℕ) → x.states l ≡ Within n h → ⊥
        not-inside n h q = claimed-within n h (sym is ∙ q)

        -- before its first step there is its own item
        before : (i : Item) → label_of i ≡ l → ¬ AtLeast 0 i → i ≡ e
        before (Node n) lab less = ap Node lab ∙ sym item
        before (Entry t n k) lab less = absurd (less (omega arith))
        before (Slice n k r) lab less = absurd (less (omega arith))
        before (Leave n) lab less = absurd (less tt)
        before (Inside n k i) lab less = absurd (less (omega arith))

        at-first-step : (k : ℕ) (i : Item) → AtLeast k i → AtLeast 0 i
        at-first-step k (Node n) a = absurd a
        at-first-step k (Entry t n q) a = omega arith
        at-first-step k (Slice n q r) a = omega arith
        at-first-step k (Leave n) a = tt
        at-first-step k (Inside n q i) a = omega arith

        unclaimed : (i : Item) → label_of i ≡ l → AtLeast 1 i → tests_at x.path c i ≡ false
        unclaimed i lab a = claimed-as.2 i lab (at-first-step 1 i a)

        skips-after : (rs : List Carried) → first form given.0 ≡ Skips rs → Next-of
        skips-after rs q =
            going-after 0 form given.0 whole (Leaves rs) (skips rs q) not-inside
            (λ i ex lab less. made-own i (only-own cut u (ready cut u g ins is-cut orderly) K.graph K.inputs l form given.0 whole rs q i (kind cut u (ready cut u g ins is-cut orderly) K.graph K.inputs l form given.0 whole i (to-run i ex) lab) less ∙ sym item))
            unclaimed claimed-as.3 not-last

        begins-after : (j : ℕ) (js : List Carried) (stage : Stage) → first form given.0 ≡ Begins j js stage → Next-of
        begins-after j js stage q =
            by-nodes 0 form given.0 whole j js (subst (λ z. EntersAt u form given.0 l 0 z j js) (sym item) (at_first j js stage q)) not-inside (λ i ex lab less. made-own i (before i lab less)) unclaimed
            (λ i. claimed-as.2 (Inside l 0 i) refl (omega arith)) claimed-as.3 not-last (λ y n. kept.first_graph bound y is item not-last n) (u j).nodes refl

        by-first : (a : First) → first form given.0 ≡ a → Next-of
        by-first (Skips rs) q = skips-after rs q
        by-first (Begins j js stage) q = begins-after j js stage q

      pub by-kind : (k : Kind) → V.0.kind ≡ k → Next-of
      by-kind (Plain row shape) q = simple-after row shape q
      by-kind (Whole form) q = by-first form q (first form (given form q).0) refl

    -- ---- a further item

    module _ (k : ℕ) (os : Opens) (is : x.states l ≡ GoingOn k os) (taken : Stands e Taken os) where
      G : IsGoingOn cut u K.graph K.inputs l k os
      G = subst (IsKnownAs cut u K.graph K.inputs l V.0) is (K.nodes l V.0 V.1)

      goes-as : NodeStands x.run (tests_at x.path c) (tests_at x.path m) l x.last (GoingOn k os)
      goes-as = stood-as (GoingOn k os) is

      compound-last : x.last l ≡ Leave l
      compound-last = last-is (Whole G.form) (ap (λ z. z.kind) (same-vertex G.whole.node G.whole.found) ∙ G.whole.kind)

      no-inside : (n h : ℕ) → x.states l ≡ Within n h → ⊥
      no-inside n h q = going-within k os n h (sym is ∙ q)

      further : (i : Item) → AtLeast (suc k) i → AtLeast k i
      further (Node n) a = a
      further (Entry t n q) a = omega (arith, a)
      further (Slice n q r) a = omega (arith, a)
      further (Leave n) a = tt
      further (Inside n q i) a = omega (arith, a)

      kinds : (i : Item) → Exists x.run i → label_of i ≡ l → KindOf cut u (ready cut u g ins is-cut orderly) K.graph K.inputs l G.form G.operands G.whole i
      kinds i ex lab = kind cut u (ready cut u g ins is-cut orderly) K.graph K.inputs l G.form G.operands G.whole i (to-run i ex) lab

      -- it leaves
      leaving-after : (rs : List Carried) → Comes u G.form G.operands G.before (Leaves rs) → HaveSameItems os ((Leave l, Open) ∷ []) → Next-of
      leaving-after rs came items =
          let one = alone-stands e (Leave l) Open Taken os items taken in
          done-after
          (kept.leaving k os is (one.0 ∙ sym compound-last)
          (λ i ex lab a. only-leaving cut u (ready cut u g ins is-cut orderly) K.graph K.inputs l G.form G.operands G.whole G.before rs came i (kinds i ex lab) (subst (λ z. AtLeast z i) G.step a) ∙ sym one.0))
          (λ v at-v.
          let same : G.whole.node ≡ v = some-same G.whole.node v (sym G.whole.found ∙ at-v) in
          subst (λ z. (rs : List Carried) × OutputsOf u K.graph K.inputs z rs) same (rs, whole-leaves u K.graph K.inputs G.whole.node G.form G.operands rs G.before G.whole.kind G.whole.given came))

      -- it enters a further graph
      entering-after : (t : Bool) (j : ℕ) (js : List Carried) (stage : Stage) → Comes u G.form G.operands G.before (Enter t j js stage) → HaveSameItems os ((Entry t l k, Open) ∷ []) → Next-of
      entering-after t j js stage came items =
          by-nodes k G.form G.operands G.whole j js
          (subst (λ z. EntersAt u G.form G.operands l z e j js) (sym G.step) (subst (λ z. EntersAt u G.form G.operands l (suc G.before) z j js) (sym (one.0 ∙ ap (Entry t l) G.step)) (at_step G.before t j js stage came)))
          no-inside (λ i ex lab less. made-before i (goes-as.0 i ex lab less)) later fresh goes-as.5 not-last
          (λ y n. kept.next_graph k bound y (is ∙ ap (GoingOn k) one.1) not-further not-last n) (u j).nodes refl
        where
          one : (e ≡ Entry t l k) × (os ≡ (e, Taken) ∷ [])
          one = let a = alone-stands e (Entry t l k) Open Taken os items taken in (a.0, a.1 ∙ ap (λ z. (z, Taken) ∷ []) (sym a.0))

          not-last : ¬ (e ≡ x.last l)
          not-last q = entry-leave t l k l (sym one.0 ∙ (q ∙ compound-last))

          not-further : ¬ AtLeast (suc k) e
          not-further a = too-far (subst (AtLeast (suc k)) one.0 a)
            where
              too-far : suc k ≤ k → ⊥
              too-far a = omega (arith, a)

          among-one : (i : Item) → IsAmong i os → i ≡ e
          among-one i a = (only-one (subst (IsAmong i) one.1 a))
            where
              only-one : IsAmong i ((e, Taken) ∷ []) → i ≡ e
              only-one (s, inl b) = b.0
              only-one (s, inr b) = absurd b

          later : (i : Item) → label_of i ≡ l → AtLeast (suc k) i → tests_at x.path c i ≡ false
          later i lab a = goes-as.3 i lab (further i a) (λ b. not-further (subst (AtLeast (suc k)) (among-one i b) a))

          fresh : (i : Item) → tests_at x.path c (Inside l k i) ≡ false
          fresh i = goes-as.3 (Inside l k i) refl (omega arith) (λ b. inside-entry l k i t l k (among-one (Inside l k i) b ∙ one.0))

      -- a slice
      module _ (j : ℕ) (row : List Carried) (rows : List (List Carried)) (ms : List Carried) (came : Comes u G.form G.operands G.before (Iterate j row rows ms)) (items : HaveSameItems os (ranges l k 0 (length (cut (row ∷ rows)))))
          (fired-slices : (r n : ℕ) → tests_at x.path (also x e m) (Slice l k r) ≡ true → (q : ℕ) × OwnFirings (λ d. tree cut d u K.graph K.inputs) (Slice l k r) q)
        where
          a-slice : (i : Item) → IsAmong i os → (q : ℕ) × (i ≡ Slice l k q)
          a-slice i a = range-slice l k 0 (length (cut (row ∷ rows))) i (among-items os (ranges l k 0 (length (cut (row ∷ rows)))) items i a)

          slice-not-last : ¬ (e ≡ x.last l)
          slice-not-last q = let s = a-slice e (Taken, taken) in slice-leave l k s.0 l (sym s.1 ∙ (q ∙ compound-last))

          too-far : suc k ≤ k → ⊥
          too-far a = omega (arith, a)

          later : (i : Item) → label_of i ≡ l → AtLeast (suc k) i → tests_at x.path c i ≡ false
          later i lab a = goes-as.3 i lab (further i a) (λ b. let s = a-slice i b in too-far (subst (AtLeast (suc k)) s.1 a))

          -- another one is not finished
          more-after : ((i : Item) × ((s : Status) × Stands i s (mark e Finished os) × ¬ (s ≡ Finished))) → Next-of
          more-after some =
              record {
                table = put table f (Some (with_state x l (GoingOn k (mark e Finished os))));
                stands = kept.a_slice k os is (Taken, taken) slice-not-last some;
                busy = (busy-kept table f l x (GoingOn k (mark e Finished os)) busy (λ n. (l, in-x, λ q. going-done k (mark e Finished os) (sym (set-same x.states l (GoingOn k (mark e Finished os))) ∙ q)))).0;
                known =
                    put-known cut u g ins table f (with_state x l (GoingOn k (mark e Finished os))) known
                    (state-known cut u g ins x l (GoingOn k (mark e Finished os)) (known f x at)
                    (λ v at-v. record { form = G.form; operands = G.operands; whole = G.whole; before = G.before; step = G.step; next = G.next; comes = G.comes; items = mark-items e Finished os (opens_of cut l k G.next) G.items }));
                bound = bound;
                beyond = beyond-put cut u g ins table f bound x (with_state x l (GoingOn k (mark e Finished os))) at beyond;
              }

          -- it was the last one
          module _ (every : (i : Item) (s : Status) → Stands i s (mark e Finished os) → s ≡ Finished) where
            made-among : (i : Item) → IsAmong i os → tests_at x.path (also x e m) i ≡ true
            made-among i a = go (dec_item i e)
              where
                finished : (s : Status) → Stands i s os → Stands i s (mark e Finished os) → tests_at x.path (also x e m) i ≡ true
                finished s b d = made-before i (subst (StatusIs (tests_at x.path c) (tests_at x.path m) i) (every i s d) (goes-as.2 i s b))

                go : Dec (i ≡ e) → tests_at x.path (also x e m) i ≡ true
                go (yes q) = made-own i q
                go (no ne) = finished a.0 a.1 (unmarked-stands i a.0 os ne a.1)

            slices-to-here : IsMadeTo x.run (tests_at x.path (also x e m)) l (suc k)
            slices-to-here i ex lab less = go (at-least k i)
              where
                go : Dec (AtLeast k i) → tests_at x.path (also x e m) i ≡ true
                go (no n) = made-before i (goes-as.0 i ex lab n)
                go (yes from) =
                    let among = among-slices cut u (ready cut u g ins is-cut orderly) K.graph K.inputs l G.form G.operands G.whole G.before j row rows ms came i (kinds i ex lab)
                    (subst (λ z. AtLeast z i) G.step from) (λ a. less (subst (λ z. AtLeast (suc z) i) (sym G.step) a)) in
                    made-among i (items-among os (ranges l k 0 (length (cut (row ∷ rows)))) items i (subst (λ z. IsAmong i (ranges l z 0 (length (cut (row ∷ rows))))) (sym G.step) among))

            lists : (ls : List (List Carried)) × ((d : ℕ) × (all (map (λ ins. dem d u j ins) (row ∷ rows)) ≡ Some ls))
            lists =
                all-gathered cut u is-cut orderly K.graph K.inputs l G.form G.operands G.whole G.before j row rows ms came
                (λ r part at-r.
                let among = items-among os (ranges l k 0 (length (cut (row ∷ rows)))) items (Slice l k r) (among-ranges l k 0 (cut (row ∷ rows)) r r part at-r (omega arith)) in
                let own-f = fired-slices r 0 (made-among (Slice l k r) among) in
                (own-f.0, subst (λ z. OwnFirings (λ d. tree cut d u K.graph K.inputs) (Slice l z r) own-f.0) G.step own-f.1))

            last-after : Next-of
            last-after =
                going-after k G.form G.operands G.whole (gather G.form G.operands ms lists.0) (subst (λ z. Comes u G.form G.operands z (gather G.form G.operands ms lists.0)) (sym G.step) (iterates G.before j row rows ms lists.0 came lists.1))
                no-inside slices-to-here later goes-as.5 slice-not-last

          slice-after : Next-of
          slice-after = go (unfinished (mark e Finished os))
            where
              go : ((i : Item) × ((s : Status) × Stands i s (mark e Finished os) × ¬ (s ≡ Finished))) ⊎ ((i : Item) (s : Status) → Stands i s (mark e Finished os) → s ≡ Finished) → Next-of
              go (inl some) = more-after some
              go (inr all) = last-after all

      pub further-after : ((r n : ℕ) → tests_at x.path (also x e m) (Slice l k r) ≡ true → (q : ℕ) × OwnFirings (λ d. tree cut d u K.graph K.inputs) (Slice l k r) q) → Next-of
      further-after fired-slices = go G.next G.comes G.items
        where
          go : (next : Next) → Comes u G.form G.operands G.before next → HaveSameItems os (opens_of cut l k next) → Next-of
          go (Enter t j js stage) came items = entering-after t j js stage came items
          go (Leaves rs) came items = leaving-after rs came items
          go (Iterate j row rows ms) came items = slice-after j row rows ms came items fired-slices
