-- Each legal history has ended, or has a table: by each claim and each finish.
use Rattle.std.proofs.Common.{◌≡◌, ◌≢◌, ℕ, zero, suc, ◌≤◌, List, [], ◌∷◌, ◌++◌, length, Some, None, ◌⊎◌, inl, inr, refl, sym, ap, ◌∙◌, subst}
use native.Mathlib.Decide.{ℕ_discrete}
use Rattle.graph_meaning.specs.Carried.{Carried}
use Rattle.graph_meaning.specs.Entered.{Item, Entry, Slice, Leave, IsIn}
use Rattle.graph_meaning.specs.Forms.{Form, Next, Enter, Iterate, Leave as Leaves, follow}
use Rattle.graph_meaning.specs.Demand.{Vertex, Network, Cut, IsCut, AreOrderly, IsLabel, at_label, waits, data_labels}
use Rattle.graph_meaning.specs.Histories.{Run}
use Rattle.graph_meaning.specs.Laws.{run_of}
use Rattle.graph_meaning.proofs.Ranks.{AreRanked, ranked}
use Rattle.run_states.specs.Standing.{Path, Test, Status, Open, Taken, Finished, Opens, State, Waiting, Claimed, Within, GoingOn, Done, Stands, IsAmong, GoesOn, Live, Table, IsBusy, TableStands, AreBusy, mark, taken, with_state, set_state, put, closed, IsParent}
use Rattle.run_states.specs.Paths.{EntersAt, at_first, at_step, LeadsTo, inside}
use Rattle.run_states.specs.Phases.{Results, Comes, begins, enters, ranges, opens_of, labels_of, entered_live}
use Rattle.run_states.specs.Values.{OutputsOf}
use Rattle.run_states.proofs.Entering.{vertex-at}
use Rattle.run_states.proofs.Kept.{closing-kept, busy-kept}
use Rattle.run_states.proofs.Lookups.{put-same, put-other, set-same, set-other, some-same, some-none}
use Rattle.run_states.proofs.Paths.{path-once}
use Rattle.run_states.proofs.Stated.{steps-of-runs}
use Rattle.run_tables.specs.Known.{HaveSameItems, IsInside, IsKnownAs, IsKnown, AreKnown}
use Rattle.run_tables.proofs.Carried.{results-of}

-- ---- states

pub claimed-taken : (s : State) (e : Item) → taken s e ≢ Done
claimed-taken Waiting e q = absurd (clash' q)
  where
    clash' : Claimed ≡ Done → ⊥
    clash' q = cc
claimed-taken Claimed e q = absurd (clash' q)
  where
    clash' : Claimed ≡ Done → ⊥
    clash' q = cc
claimed-taken (Within k g) e q = absurd (clash' q)
  where
    clash' : Claimed ≡ Done → ⊥
    clash' q = cc
claimed-taken (GoingOn k os) e q = absurd (clash' q)
  where
    clash' : GoingOn k (mark e Taken os) ≡ Done → ⊥
    clash' q = cc
claimed-taken Done e q = absurd (clash' q)
  where
    clash' : Claimed ≡ Done → ⊥
    clash' q = cc

pub going-done : (k : ℕ) (os : Opens) → GoingOn k os ≢ Done
going-done k os q = cc

pub within-done : (k g : ℕ) → Within k g ≢ Done
within-done k g q = cc

pub claimed-within : (n h : ℕ) → Claimed ≡ Within n h → ⊥
claimed-within n h q = cc

pub going-within : (k : ℕ) (os : Opens) (n h : ℕ) → GoingOn k os ≡ Within n h → ⊥
going-within k os n h q = cc

is-done : (s : State) → Dec (s ≡ Done)
is-done Waiting = no (λ q. cc)
is-done Claimed = no (λ q. cc)
is-done (Within k g) = no (λ q. cc)
is-done (GoingOn k os) = no (λ q. cc)
is-done Done = yes refl

-- all of these nodes are done, or one is not
pub all-done : (states : ℕ → State) (ls : List ℕ) → ((l : ℕ) → IsIn l ls → states l ≡ Done) ⊎ ((l : ℕ) × IsIn l ls × ¬ (states l ≡ Done))
all-done states [] = inl (λ l i. absurd i)
all-done states (m ∷ ms) = go (is-done (states m)) (all-done states ms)
  where
    go : Dec (states m ≡ Done) → ((l : ℕ) → IsIn l ms → states l ≡ Done) ⊎ ((l : ℕ) × IsIn l ms × ¬ (states l ≡ Done)) → ((l : ℕ) → IsIn l (m ∷ ms) → states l ≡ Done) ⊎ ((l : ℕ) × IsIn l (m ∷ ms) × ¬ (states l ≡ Done))
    go (no n) r = inr (m, inl refl, n)
    go (yes d) (inr r) = inr (r.0, inr r.1, r.2)
    go (yes d) (inl r) = inl (λ l i. each l i)
      where
        each : (l : ℕ) → IsIn l (m ∷ ms) → states l ≡ Done
        each l (inl e) = ap states e ∙ d
        each l (inr i) = r l i

-- ---- openings

pub same-items : (os : Opens) → HaveSameItems os os
same-items [] = tt
same-items (o ∷ os) = (refl, same-items os)

pub mark-items : (e : Item) (s : Status) (os qs : Opens) → HaveSameItems os qs → HaveSameItems (mark e s os) qs
mark-items e s [] [] h = tt
mark-items e s [] (q ∷ qs) h = absurd h
mark-items e s (o ∷ os) [] h = absurd h
mark-items e s (o ∷ os) (q ∷ qs) h = (h.0, mark-items e s os qs h.1)

pub items-among : (os qs : Opens) → HaveSameItems os qs → (i : Item) → IsAmong i qs → IsAmong i os
items-among [] [] h i a = a
items-among [] (q ∷ qs) h i a = absurd h
items-among (o ∷ os) [] h i a = absurd h
items-among (o ∷ os) (q ∷ qs) h i (s, inl a) = (o.1, inl (a.0 ∙ sym h.0, refl))
items-among (o ∷ os) (q ∷ qs) h i (s, inr a) = let r = items-among os qs h.1 i (s, a) in (r.0, inr r.1)

pub among-items : (os qs : Opens) → HaveSameItems os qs → (i : Item) → IsAmong i os → IsAmong i qs
among-items [] [] h i a = a
among-items [] (q ∷ qs) h i a = absurd h
among-items (o ∷ os) [] h i a = absurd h
among-items (o ∷ os) (q ∷ qs) h i (s, inl a) = (q.1, inl (a.0 ∙ h.0, refl))
among-items (o ∷ os) (q ∷ qs) h i (s, inr a) = let r = among-items os qs h.1 i (s, a) in (r.0, inr r.1)

ranges-open : (l k r n : ℕ) (e : Item) (s : Status) → Stands e s (ranges l k r n) → s ≡ Open
ranges-open l k r zero e s h = absurd h
ranges-open l k r (suc n) e s (inl h) = h.1
ranges-open l k r (suc n) e s (inr h) = ranges-open l k (suc r) n e s h

pub opens-open : (cut : Cut) (l k : ℕ) (next : Next) (e : Item) (s : Status) → Stands e s (opens_of cut l k next) → s ≡ Open
opens-open cut l k (Enter t g ins stage) e s (inl h) = h.1
opens-open cut l k (Enter t g ins stage) e s (inr h) = absurd h
opens-open cut l k (Leaves rs) e s (inl h) = h.1
opens-open cut l k (Leaves rs) e s (inr h) = absurd h
opens-open cut l k (Iterate g row rows ms) e s h = ranges-open l k 0 (length (cut (row ∷ rows))) e s h

pub opens-some : (cut : Cut) → IsCut cut → (l k : ℕ) (next : Next) → (e : Item) × Stands e Open (opens_of cut l k next)
opens-some cut is-cut l k (Enter t g ins stage) = (Entry t l k, inl (refl, refl))
opens-some cut is-cut l k (Leaves rs) = (Leave l, inl (refl, refl))
opens-some cut is-cut l k (Iterate g row rows ms) =
    let c = is-cut.some row rows in
    (Slice l k 0, subst (λ z. Stands (Slice l k 0) Open (ranges l k 0 (length z))) (sym c.2) (inl (refl, refl)))

-- an item of slices is a slice of the step
pub range-slice : (l k r n : ℕ) (i : Item) → IsAmong i (ranges l k r n) → (q : ℕ) × (i ≡ Slice l k q)
range-slice l k r zero i a = absurd a.1
range-slice l k r (suc n) i (s, inl a) = (r, a.0)
range-slice l k r (suc n) i (s, inr a) = range-slice l k (suc r) n i (s, a)

-- some opening is not finished, or all are
pub unfinished : (os : Opens) → ((j : Item) × ((s : Status) × Stands j s os × ¬ (s ≡ Finished))) ⊎ ((j : Item) (s : Status) → Stands j s os → s ≡ Finished)
unfinished [] = inr (λ j s h. absurd h)
unfinished (o ∷ os) = go o.1 refl (unfinished os)
  where
    abbrev-of : ((j : Item) × ((s : Status) × Stands j s os × ¬ (s ≡ Finished))) ⊎ ((j : Item) (s : Status) → Stands j s os → s ≡ Finished) → o.1 ≡ Finished → ((j : Item) × ((s : Status) × Stands j s (o ∷ os) × ¬ (s ≡ Finished))) ⊎ ((j : Item) (s : Status) → Stands j s (o ∷ os) → s ≡ Finished)
    abbrev-of (inl r) e = inl (r.0, (r.1.0, inr r.1.1, r.1.2))
    abbrev-of (inr r) e = inr each
      where
        each : (j : Item) (s : Status) → Stands j s (o ∷ os) → s ≡ Finished
        each j s (inl h) = h.1 ∙ e
        each j s (inr h) = r j s h

    open-finished : Open ≡ Finished → ⊥
    open-finished q = cc

    taken-finished : Taken ≡ Finished → ⊥
    taken-finished q = cc

    go : (s : Status) → o.1 ≡ s → ((j : Item) × ((s : Status) × Stands j s os × ¬ (s ≡ Finished))) ⊎ ((j : Item) (s : Status) → Stands j s os → s ≡ Finished) → ((j : Item) × ((s : Status) × Stands j s (o ∷ os) × ¬ (s ≡ Finished))) ⊎ ((j : Item) (s : Status) → Stands j s (o ∷ os) → s ≡ Finished)
    go Open e r = inl (o.0, (o.1, inl (refl, refl), λ q. open-finished (sym e ∙ q)))
    go Taken e r = inl (o.0, (o.1, inl (refl, refl), λ q. taken-finished (sym e ∙ q)))
    go Finished e r = abbrev-of r e

same-opening : (o q : Item × Status) → o.0 ≡ q.0 → o.1 ≡ q.1 → o ≡ q
same-opening (a, c) (b, d) x y = ap (λ z. (z, c)) x ∙ ap (λ z. (b, z)) y

-- where one item is to stand, it is the one
pub alone-stands : (i e : Item) (s t : Status) (os : Opens) → HaveSameItems os ((e, s) ∷ []) → Stands i t os → (i ≡ e) × (os ≡ (e, t) ∷ [])
alone-stands i e s t [] h a = absurd a
alone-stands i e s t (o ∷ []) h (inl a) = (a.0 ∙ h.0, ap (λ z. z ∷ []) (same-opening o (e, t) h.0 (sym a.1)))
alone-stands i e s t (o ∷ []) h (inr a) = absurd a
alone-stands i e s t (o ∷ (q ∷ os)) h a = absurd h.1

-- ---- after the graphs of a step

pub after-graph : (u : Network) (form : Form) (ks : List Carried) (l k : ℕ) (e : Item) (j : ℕ) (js rs : List Carried) → EntersAt u form ks l k e j js → Results u j js rs → (next : Next) × Comes u form ks k next
after-graph u form ks l _ _ _ _ rs (at_first j js stage e) res = (follow form ks stage rs, begins j js stage rs e res)
after-graph u form ks l _ _ _ _ rs (at_step k t j js stage c) res = (follow form ks stage rs, enters k t j js stage rs c res)

-- ---- tables

module _ (cut : Cut) (u : Network) (g : ℕ) (ins : List Carried) where
  pub put-known : (table : Table) (f : ℕ) (x : Live) → AreKnown cut u g ins table → IsKnown cut u g ins x → AreKnown cut u g ins (put table f (Some x))
  put-known table f x all own h y is = go (ℕ_discrete h f)
    where
      go : Dec (h ≡ f) → IsKnown cut u g ins y
      go (yes e) = subst (IsKnown cut u g ins) (some-same x y (sym (ap (put table f (Some x)) e ∙ put-same table f (Some x)) ∙ is)) own
      go (no ne) = all h y (sym (put-other table f (Some x) h ne) ∙ is)

  pub none-known : (table : Table) (f : ℕ) → AreKnown cut u g ins table → AreKnown cut u g ins (put table f None)
  none-known table f all h y is = go (ℕ_discrete h f)
    where
      go : Dec (h ≡ f) → IsKnown cut u g ins y
      go (yes e) = some-none y is (ap (put table f None) e ∙ put-same table f None)
      go (no ne) = all h y (sym (put-other table f None h ne) ∙ is)

  pub entered-known : (p : Path) (h : ℕ) (is : List Carried) → LeadsTo u g ins p h is → IsKnown cut u g ins (entered_live cut u h is p)
  entered-known p h is a = record { graph = h; inputs = is; leads = a; live = record { run = refl; labels = refl; waits = refl; last = refl }; nodes = λ l v at. tt }

  pub state-known : (x : Live) (l : ℕ) (s : State) (K : IsKnown cut u g ins x) → ((v : Vertex) → at_label (u K.graph).nodes l ≡ Some v → IsKnownAs cut u K.graph K.inputs l v s) → IsKnown cut u g ins (with_state x l s)
  state-known x l s K own =
      record {
        graph = K.graph;
        inputs = K.inputs;
        leads = K.leads;
        live = record { run = K.live.run; labels = K.live.labels; waits = K.live.waits; last = K.live.last };
        nodes = λ n v at. go n v at (ℕ_discrete n l);
      }
    where
      go : (n : ℕ) (v : Vertex) → at_label (u K.graph).nodes n ≡ Some v → Dec (n ≡ l) → IsKnownAs cut u K.graph K.inputs n v (set_state x.states l s n)
      go n v at (yes e) =
          subst (IsKnownAs cut u K.graph K.inputs n v) (sym (ap (set_state x.states l s) e ∙ set-same x.states l s))
          (subst (λ z. IsKnownAs cut u K.graph K.inputs z v s) (sym e) (own v (sym (ap (at_label (u K.graph).nodes) e) ∙ at)))
      go n v at (no ne) = subst (IsKnownAs cut u K.graph K.inputs n v) (sym (set-other x.states l s n ne)) (K.nodes n v at)

  pub beyond-put : (table : Table) (f bound : ℕ) (x z : Live) → table f ≡ Some x → ((h : ℕ) → bound ≤ h → table h ≡ None) → (h : ℕ) → bound ≤ h → put table f (Some z) h ≡ None
  beyond-put table f bound x z at beyond h le = put-other table f (Some z) h (λ e. some-none x at (sym (ap table e) ∙ beyond h le)) ∙ beyond h le

-- ---- an event

module _ (cut : Cut) (u : Network) (g : ℕ) (ins : List Carried) (is-cut : IsCut cut) (orderly : AreOrderly u) where
  abbrev run : Run
  run = run_of cut u g ins

  pub ready : AreRanked u
  ready = ranked u orderly

  -- what a claim or a finish leaves
  pub record After (c m : Test) (root : ℕ) : Type 0 where
    pub table : Table
    pub stands : TableStands (run_of cut u g ins) c m table root
    pub busy : AreBusy table
    pub known : AreKnown cut u g ins table
    pub bound : ℕ
    pub beyond : (f : ℕ) → bound ≤ f → table f ≡ None

  -- the vertex of a label of a live graph
  pub vertex-of : (x : Live) (K : IsKnown cut u g ins x) (l : ℕ) → IsIn l x.labels → (v : Vertex) × (at_label (u K.graph).nodes l ≡ Some v) × ((n : ℕ) → IsIn n (waits v) → IsLabel (u K.graph).nodes n)
  vertex-of x K l i = vertex-at (λ v. (n : ℕ) → IsIn n (waits v) → IsLabel (u K.graph).nodes n) (u K.graph).nodes (ready K.graph).named l (subst (IsIn l) K.live.labels i)

  pub in-labels : (vs : List Vertex) (n : ℕ) → IsLabel vs n → IsIn n (labels_of vs)
  in-labels [] n h = h
  in-labels (v ∷ vs) n (inl e) = inl e
  in-labels (v ∷ vs) n (inr h) = inr (in-labels vs n h)

  pub left-of : (xs ys : List ℕ) (n : ℕ) → IsIn n xs → IsIn n (xs ++ ys)
  left-of [] ys n i = absurd i
  left-of (x ∷ xs) ys n (inl e) = inl e
  left-of (x ∷ xs) ys n (inr i) = inr (left-of xs ys n i)

  -- ---- after a node of a graph is done

  module _ (c m : Test) (table : Table) (root f l : ℕ) (x : Live) (at : table f ≡ Some x) (stands : TableStands run c m (put table f (Some (with_state x l Done))) root) (busy : AreBusy table)
      (known : AreKnown cut u g ins table) (bound : ℕ) (beyond : (h : ℕ) → bound ≤ h → table h ≡ None)
      (outputs : (v : Vertex) → at_label (u (known f x at).graph).nodes l ≡ Some v → (rs : List Carried) × OutputsOf u (known f x at).graph (known f x at).inputs v rs)
    where
      at' : put table f (Some (with_state x l Done)) f ≡ Some (with_state x l Done)
      at' = put-same table f (Some (with_state x l Done))

      known' : IsKnown cut u g ins (with_state x l Done)
      known' = state-known cut u g ins x l Done (known f x at) outputs

      all-known : AreKnown cut u g ins (put table f (Some (with_state x l Done)))
      all-known = put-known cut u g ins table f (with_state x l Done) known known'

      beyond' : (h : ℕ) → bound ≤ h → put table f (Some (with_state x l Done)) h ≡ None
      beyond' = beyond-put cut u g ins table f bound x (with_state x l Done) at beyond

      -- the graph goes on
      stays : (¬ (x.path ≡ []) → IsBusy (with_state x l Done)) → After c m root
      stays own = record { table = put table f (Some (with_state x l Done)); stands = stands; busy = (busy-kept table f l x Done busy own).0; known = all-known; bound = bound; beyond = beyond' }

      -- all its nodes are done, and the node above goes on
      module _ (all : (n : ℕ) → IsIn n x.labels → (with_state x l Done).states n ≡ Done) (k' : ℕ) (l' : ℕ) (p : Path) (path : x.path ≡ (l', k') ∷ p) where
        up : IsParent (put table f (Some (with_state x l Done))) f p l' k'
        up = stands.parent f (with_state x l Done) l' k' p at' path

        Kp : IsKnown cut u g ins up.live
        Kp = all-known up.at up.live up.found

        vp : (v : Vertex) × (at_label (u Kp.graph).nodes l' ≡ Some v) × ((n : ℕ) → IsIn n (waits v) → IsLabel (u Kp.graph).nodes n)
        vp = vertex-of up.live Kp l' up.inside

        in-graph : IsInside u Kp.graph Kp.inputs l' k'
        in-graph = subst (IsKnownAs cut u Kp.graph Kp.inputs l' vp.0) up.state (Kp.nodes l' vp.0 vp.1)

        same-graph : (in-graph.graph ≡ known'.graph) × (in-graph.inputs ≡ known'.inputs)
        same-graph =
            path-once u g ins ((l', k') ∷ p) in-graph.graph known'.graph in-graph.inputs known'.inputs
            (inside l' k' in-graph.entry p Kp.graph Kp.inputs in-graph.form in-graph.operands in-graph.graph in-graph.inputs (subst (λ q. LeadsTo u g ins q Kp.graph Kp.inputs) up.path Kp.leads) in-graph.whole in-graph.enters)
            (subst (λ q. LeadsTo u g ins q known'.graph known'.inputs) path known'.leads)

        results-done : (n : ℕ) → IsIn n (data_labels (u known'.graph).results) → (v : Vertex) × (at_label (u known'.graph).nodes n ≡ Some v) × ((with_state x l Done).states n ≡ Done)
        results-done n i =
            let lab = subst (IsIn n) (sym known'.live.labels) (in-labels (u known'.graph).nodes n ((orderly known'.graph).results_named n i)) in
            let v = vertex-of (with_state x l Done) known' n lab in (v.0, v.1, all n lab)

        given : (rs : List Carried) × Results u known'.graph known'.inputs rs
        given = results-of cut u known'.graph known'.inputs (with_state x l Done).states known'.nodes results-done

        given-inside : Results u in-graph.graph in-graph.inputs given.0
        given-inside = subst (λ z. Results u in-graph.graph z given.0) (sym same-graph.1) (subst (λ z. Results u z known'.inputs given.0) (sym same-graph.0) given.1)

        after : (next : Next) × Comes u in-graph.form in-graph.operands k' next
        after = after-graph u in-graph.form in-graph.operands l' k' in-graph.entry in-graph.graph in-graph.inputs given.0 in-graph.enters given-inside

        goes : GoesOn up.live.run l' (suc k') (opens_of cut l' (suc k') after.0)
        goes = subst (λ r. GoesOn r l' (suc k') (opens_of cut l' (suc k') after.0)) (sym Kp.live.run) ((steps-of-runs cut u Kp.graph Kp.inputs l' in-graph.form in-graph.operands is-cut orderly in-graph.whole).openings k' after.0 after.1)

        not-f : ¬ (up.at ≡ f)
        not-f e =
            let same : up.live ≡ with_state x l Done = some-same up.live (with_state x l Done) (sym up.found ∙ (ap (put table f (Some (with_state x l Done))) e ∙ at')) in
            absurd (within-done k' f (sym up.state ∙ (ap (λ z. z.states l') same ∙ all l' (subst (λ z. IsIn l' z.labels) same up.inside))))

        rest-busy : AreBusy (put (put table f (Some (with_state x l Done))) f None)
        rest-busy h y is no-first = go (ℕ_discrete h f)
          where
            go : Dec (h ≡ f) → IsBusy y
            go (yes e) = some-none y is (ap (put (put table f (Some (with_state x l Done))) f None) e ∙ put-same (put table f (Some (with_state x l Done))) f None)
            go (no ne) = busy h y (sym (put-other table f (Some (with_state x l Done)) h ne) ∙ (sym (put-other (put table f (Some (with_state x l Done))) f None h ne) ∙ is)) no-first

        going : IsBusy (with_state up.live l' (GoingOn (suc k') (opens_of cut l' (suc k') after.0)))
        going = (l', up.inside, λ q. going-done (suc k') (opens_of cut l' (suc k') after.0) (sym (set-same up.live.states l' (GoingOn (suc k') (opens_of cut l' (suc k') after.0))) ∙ q))

        is-going : (v : Vertex) → at_label (u Kp.graph).nodes l' ≡ Some v → IsKnownAs cut u Kp.graph Kp.inputs l' v (GoingOn (suc k') (opens_of cut l' (suc k') after.0))
        is-going v at-v = record { form = in-graph.form; operands = in-graph.operands; whole = in-graph.whole; before = k'; step = refl; next = after.0; comes = after.1; items = same-items (opens_of cut l' (suc k') after.0) }

        beyond-left : (h : ℕ) → bound ≤ h → put (put table f (Some (with_state x l Done))) f None h ≡ None
        beyond-left h le = go (ℕ_discrete h f)
          where
            go : Dec (h ≡ f) → put (put table f (Some (with_state x l Done))) f None h ≡ None
            go (yes e) = ap (put (put table f (Some (with_state x l Done))) f None) e ∙ put-same (put table f (Some (with_state x l Done))) f None
            go (no ne) = put-other (put table f (Some (with_state x l Done))) f None h ne ∙ beyond' h le

        closes : After c m root
        closes =
            record {
              table = closed (put table f (Some (with_state x l Done))) up.at up.live l' (GoingOn (suc k') (opens_of cut l' (suc k') after.0)) f;
              stands =
                  closing-kept run c m (put table f (Some (with_state x l Done))) root up.at l' k' f up.live (with_state x l Done) (opens_of cut l' (suc k') after.0) stands up.found up.inside up.state at' all goes
                  (opens-open cut l' (suc k') after.0) (opens-some cut is-cut l' (suc k') after.0);
              busy = (busy-kept (put (put table f (Some (with_state x l Done))) f None) up.at l' up.live (GoingOn (suc k') (opens_of cut l' (suc k') after.0)) rest-busy (λ n. going)).0;
              known =
                  put-known cut u g ins (put (put table f (Some (with_state x l Done))) f None) up.at (with_state up.live l' (GoingOn (suc k') (opens_of cut l' (suc k') after.0)))
                  (none-known cut u g ins (put table f (Some (with_state x l Done))) f all-known) (state-known cut u g ins up.live l' (GoingOn (suc k') (opens_of cut l' (suc k') after.0)) Kp is-going);
              bound = bound;
              beyond =
                  beyond-put cut u g ins (put (put table f (Some (with_state x l Done))) f None) up.at bound up.live (with_state up.live l' (GoingOn (suc k') (opens_of cut l' (suc k') after.0)))
                  (put-other (put table f (Some (with_state x l Done))) f None up.at not-f ∙ up.found) beyond-left;
            }

      by-path : (q : Path) → x.path ≡ q → ((n : ℕ) → IsIn n x.labels → (with_state x l Done).states n ≡ Done) → After c m root
      by-path [] e all = stays (λ n. absurd (n e))
      by-path ((l', k') ∷ p) e all = closes all k' l' p e

      pub after-done : After c m root
      after-done = go (all-done (with_state x l Done).states x.labels)
        where
          go : ((n : ℕ) → IsIn n x.labels → (with_state x l Done).states n ≡ Done) ⊎ ((n : ℕ) × IsIn n x.labels × ¬ ((with_state x l Done).states n ≡ Done)) → After c m root
          go (inl all) = by-path x.path refl all
          go (inr some) = stays (λ n. some)
