-- What a ready node reads is there.
use Rattle.std.proofs.Common.{◌≡◌, ◌≢◌, ℕ, zero, suc, Bool, true, ◌⊎◌, List, All, Contains, Some, None, inl, inr, refl, sym, ap, ◌∙◌, subst, arith, ◌==◌}
use Rattle.std.proofs.lemmas.List.Elements.{All-contains}
use native.Mathlib.Decide.{ℕ_discrete}
use Rattle.if1_graph.specs.declared.graph.Edge.{Edge}
use Rattle.if1_graph.specs.declared.graph.Graph.TheViews.{out-Graph}
use Rattle.if1_graph.specs.declared.graph.Node.{Node, out-Node}
use Rattle.if1_graph.specs.declared.graph.Origin.{Origin}
use Rattle.if1_graph.specs.declared.graph.Origin.TheVariants as origin
use Rattle.if1_graph.specs.declared.graph.Unit1.{Unit1}
use Rattle.if1_graph.specs.Cycles.{IsFrom}
use Rattle.if1_graph.specs.Formed.{IsGraph, IsNode}
use Rattle.if1_graph.specs.Ports.{ArePortsRight}
use Rattle.if1_graph.specs.Ready.{IsReady}
use Rattle.if1_graph.specs.Units.{label_of, node_at, Place, places, number_of, ends}
use Rattle.if1_graph.specs.Spelling.{IsLabel}
use Rattle.if1_marks.specs.Orders.{Precedes, fed, listed, between}
use Rattle.if1_marks.specs.Sound.{IsSound}
use Rattle.if1_marks.proofs.Taken.{taker-last}
use Rattle.graph_meaning.specs.Carried.{Carried}
use Rattle.graph_meaning.specs.Demand.{Net, Cut, WaitsFor}
use Rattle.graph_meaning.specs.Entered.{IsIn}
use Rattle.graph_meaning.specs.Histories.{History}
use Rattle.graph_meaning.specs.Laws.{run_of}
use Rattle.graph_meaning.specs.Networks.{network}
use Rattle.graph_meaning.proofs.Lists.{found-in}
use Rattle.graph_meaning.proofs.Numbers.{found-by-number}
use Rattle.graph_meaning.proofs.UnitWaits.{waits as unit-waits}
use Rattle.run_states.specs.Standing.{State, Waiting, Done, Live, Table, with_state, put}
use Rattle.run_states.specs.Storing.{Cell, Port, Store}
use Rattle.run_states.specs.Runs.{RunStands}
use Rattle.run_states.specs.Graphs.{IsGraphOf}
use Rattle.run_states.specs.Waiting.{WaitsIn, HasBegun}
use Rattle.run_states.proofs.Lookups.{put-same, put-other, set-same, set-other, some-same, some-none}
use Rattle.run_states.proofs.Users.{users-done}
use Rattle.run_events.proofs.Marked.{waits-in}
use Rattle.run_events.specs.There.{IsGiven, IsTaker, WasTaken, ArePortsThere, AreEndsThere, AreOperandsThere, IsAllThereKept}

waiting-done : {P : Type 0} → Waiting ≡ Done → P
waiting-done e = absurd (clash e)
  where
    clash : Waiting ≡ Done → ⊥
    clash e = cc

-- ---- the boundary comes before none

from-boundary : (m : ℕ) (o : Origin) → IsFrom m o → m ≢ 0
from-boundary m (origin.Port zero i) f = absurd f
from-boundary m (origin.Port (suc l) i) f = λ e. not-zero l (sym f ∙ e)
  where
    not-zero : (l : ℕ) → suc l ≡ 0 → ⊥
    not-zero l e = omega (arith, e)
from-boundary m (origin.Lit text) f = absurd f

module _ (u : Unit1) (p : Place) (formed : IsGraph u p) where
  listed-label : (n : Node) (m l : ℕ) → node_at (out-Graph p.graph).nodes m ≡ Some n → Contains (out-Node n).before l → l ≢ 0
  listed-label n m l found c e =
      let node = All-contains IsNode (out-Graph p.graph).nodes n formed.nodes (found-in (λ z. label_of z == m) (out-Graph p.graph).nodes n found).0 in
      let right = (All-contains IsLabel (out-Node n).before l node.before c).0 in
      omega (arith, right, e)

  first-of-none : {l m : ℕ} → Precedes p.graph l m → l ≢ 0
  first-of-none {l = l} (fed f) = from-boundary l f.edge.from f.source
  first-of-none {l = l} {m = m} (listed n e c) = listed-label n m l e c
  first-of-none (between a b) = first-of-none a

module _ (cut : Cut) (u : Unit1) (g : ℕ) (ins is : List Carried) (limit : ℕ) (h : History) (table : Table) (root f : ℕ) (x : Live) (p : Place) (ready : IsReady u) (sound : IsSound u)
    (stands : RunStands (run_of cut (network u) g ins) limit h table root) (at : table f ≡ Some x) (there : Contains (places u) p) (graph : IsGraphOf cut (network u) (number_of p) is x)
  where
    waits-for : {l m : ℕ} → Precedes p.graph l m → WaitsIn x m l
    waits-for {l = l} {m = m} before =
        let ports = All-contains (λ p. All (ArePortsRight u p) (ends p.graph)) (places u) p ready.ports there in
        let w = unit-waits u p (All-contains (IsGraph u) (places u) p ready.formed.graphs there) ports before in
        waits-in cut (network u) (number_of p) is x graph (subst (λ (net : Net). WaitsFor net.nodes m l) (sym (found-by-number u ready.formed p there)) w)

    -- what a node waits for that is ready or was claimed is done
    done-before : {l m : ℕ} → Precedes p.graph l m → IsIn m x.labels → HasBegun x m → x.states l ≡ Done
    done-before {l = l} {m = m} before in-x begun = users-done (run_of cut (network u) g ins) limit h table root f m l x stands at in-x begun (waits-for before)

    module _ (e : Edge) (a : Port) (in-edges : Contains (out-Graph p.graph).edges e) (from : e.from ≡ origin.Port a.0 a.1) where
      -- another node's taking edge from the port leads to a node behind this one's
      taker-behind : (l : ℕ) (t : IsTaker p x a l) → e.node ≢ l → Precedes p.graph e.node l
      taker-behind l t ne =
          subst (Precedes p.graph e.node) t.node
          (taker-last u p t.edge e sound there t.there in-edges t.takes (from ∙ sym t.from) (λ q. ne (ap (λ z. z.node) q ∙ t.node)) (λ q. t.no_boundary (sym t.node ∙ q))).0

      begun-by : (l : ℕ) → ¬ (x.states l ≡ Waiting) → HasBegun x l
      begun-by l ne w = absurd (ne w)

      not-taken-before : x.states e.node ≡ Waiting → ¬ WasTaken p x a
      not-taken-before waiting w = go (ℕ_discrete e.node w.0)
        where
          go : Dec (e.node ≡ w.0) → ⊥
          go (yes q) = w.2 (sym (ap x.states q) ∙ waiting)
          go (no ne) = waiting-done (sym waiting ∙ done-before (taker-behind w.0 w.1 ne) w.1.inside (begun-by w.0 w.2))

      given-by : (b : Port) → e.from ≡ origin.Port b.0 b.1 → e.node ≢ 0 → IsIn e.node x.labels → HasBegun x e.node → IsGiven x b
      given-by (zero, i) q ne in-x begun = tt
      given-by (suc m, i) q ne in-x begun =
          done-before (fed (record { edge = e; there = in-edges; source = subst (IsFrom (suc m)) (sym q) refl; target = refl; no_boundary = ne })) in-x begun

      given-end : (b : Port) → ((l : ℕ) → IsIn l x.labels → x.states l ≡ Done) → (b.0 ≡ 0) ⊎ IsIn b.0 x.labels → IsGiven x b
      given-end (zero, i) all s = tt
      given-end (suc m, i) all (inl s) = absurd (not-zero m s)
        where
          not-zero : (l : ℕ) → suc l ≡ 0 → ⊥
          not-zero l e = omega (arith, e)
      given-end (suc m, i) all (inr s) = all (suc m) s

      not-taken-end : e.node ≡ 0 → ¬ WasTaken p x a
      not-taken-end zero-is w =
          let before = taker-behind w.0 w.1 (λ q. w.1.no_boundary (sym q ∙ zero-is)) in
          first-of-none u p (All-contains (IsGraph u) (places u) p ready.formed.graphs there) before zero-is

      ends-there : AreEndsThere p x e a
      ends-there =
          record {
            of_node = λ ne in-x waiting begun. (given-by a from ne in-x begun, not-taken-before waiting);
            of_result = λ zero-is all s. (given-end a all s, not-taken-end zero-is);
          }

pub operands-there : AreOperandsThere
operands-there cut u g ins is limit h table root f x p is-cut ready sound stands at there graph e a in-edges from =
    ends-there cut u g ins is limit h table root f x p ready sound stands at there graph e a in-edges from

-- ---- the events

module _ (table : Table) (stores : ℕ → Store) (homes : ℕ → Place) (wanted : ℕ → Port → Bool) (ports : ArePortsThere table stores homes wanted) where
  -- where a state changes, the taker of a port was claimed as before
  module _ (f l : ℕ) (x : Live) (s : State) (at : table f ≡ Some x) (not-waiting : s ≢ Waiting) where
    still-taken : (p : Place) (a : Port) → WasTaken p x a → WasTaken p (with_state x l s) a
    still-taken p a w =
        (w.0, record { edge = w.1.edge; there = w.1.there; takes = w.1.takes; from = w.1.from; node = w.1.node; no_boundary = w.1.no_boundary; inside = w.1.inside }, go (ℕ_discrete w.0 l))
      where
        go : Dec (w.0 ≡ l) → ¬ ((with_state x l s).states w.0 ≡ Waiting)
        go (yes q) e = not-waiting (sym (ap (with_state x l s).states q ∙ set-same x.states l s) ∙ e)
        go (no ne) e = w.2 (sym (set-other x.states l s w.0 ne) ∙ e)

    was-given : (a : Port) → ¬ (a.0 ≡ l) ⊎ (s ≢ Done) → IsGiven (with_state x l s) a → IsGiven x a
    was-given (zero, i) o given = tt
    was-given (suc m, i) o given = go o (ℕ_discrete (suc m) l)
      where
        go : ¬ (suc m ≡ l) ⊎ (s ≢ Done) → Dec (suc m ≡ l) → x.states (suc m) ≡ Done
        go (inl ne) (yes q) = absurd (ne q)
        go (inr ne) (yes q) = absurd (ne (sym (ap (with_state x l s).states q ∙ set-same x.states l s) ∙ given))
        go o (no ne) = sym (set-other x.states l s (suc m) ne) ∙ given

    -- the row that changed, or another one
    row : (h : ℕ) (y : Live) → put table f (Some (with_state x l s)) h ≡ Some y → ((h ≡ f) × (with_state x l s ≡ y)) ⊎ ((¬ (h ≡ f)) × (table h ≡ Some y))
    row h y is = go (ℕ_discrete h f)
      where
        go : Dec (h ≡ f) → ((h ≡ f) × (with_state x l s ≡ y)) ⊎ ((¬ (h ≡ f)) × (table h ≡ Some y))
        go (yes e) = inl (e, some-same (with_state x l s) y (sym (ap (put table f (Some (with_state x l s))) e ∙ put-same table f (Some (with_state x l s))) ∙ is))
        go (no ne) = inr (ne, sym (put-other table f (Some (with_state x l s)) h ne) ∙ is)

    -- what the ports of the changed graph have
    there-now : (others : ℕ → Store) → ((h : ℕ) (a : Port) → ¬ (h ≡ f) → (others h).cell a ≡ (stores h).cell a) → ((a : Port) → wanted f a ≡ true → IsGiven (with_state x l s) a → ¬ WasTaken (homes f) (with_state x l s) a → (c : Cell) × ((others f).cell a ≡ Some c))
        → ArePortsThere (put table f (Some (with_state x l s))) others homes wanted
    there-now others same own h y a is want given taken = go (row h y is)
      where
        go : ((h ≡ f) × (with_state x l s ≡ y)) ⊎ ((¬ (h ≡ f)) × (table h ≡ Some y)) → (c : Cell) × ((others h).cell a ≡ Some c)
        go (inl q) =
            let c = own a (subst (λ z. wanted z a ≡ true) q.0 want) (subst (λ z. IsGiven z a) (sym q.1) given) (λ w. taken (subst (λ z. WasTaken (homes h) z a) q.1 (subst (λ z. WasTaken (homes z) (with_state x l s) a) (sym q.0) w))) in
            (c.0, ap (λ z. (others z).cell a) q.0 ∙ c.1)
        go (inr q) = let c = ports h y a q.1 want given taken in (c.0, same h a q.0 ∙ c.1)

  there-moved : (f l : ℕ) (x : Live) (s : State) → table f ≡ Some x → s ≢ Done → s ≢ Waiting → ArePortsThere (put table f (Some (with_state x l s))) stores homes wanted
  there-moved f l x s at not-done not-waiting =
      there-now f l x s at not-waiting stores (λ h a ne. refl)
      (λ a want given taken. ports f x a at want (was-given f l x s at not-waiting a (inr not-done) given) (λ w. taken (still-taken f l x s at not-waiting (homes f) a w)))

  done-waiting : Done ≢ Waiting
  done-waiting e = waiting-done (sym e)

  there-done : (others : ℕ → Store) (f l : ℕ) (x : Live) → table f ≡ Some x → ((h : ℕ) (a : Port) → ¬ (h ≡ f) → (others h).cell a ≡ (stores h).cell a) → ((a : Port) → ¬ (a.0 ≡ l) → (others f).cell a ≡ (stores f).cell a)
      → ((a : Port) → a.0 ≡ l → wanted f a ≡ true → (c : Cell) × ((others f).cell a ≡ Some c)) → ArePortsThere (put table f (Some (with_state x l Done))) others homes wanted
  there-done others f l x at same cells filled = there-now f l x Done at done-waiting others same own
    where
      own : (a : Port) → wanted f a ≡ true → IsGiven (with_state x l Done) a → ¬ WasTaken (homes f) (with_state x l Done) a → (c : Cell) × ((others f).cell a ≡ Some c)
      own a want given taken = go (ℕ_discrete a.0 l)
        where
          go : Dec (a.0 ≡ l) → (c : Cell) × ((others f).cell a ≡ Some c)
          go (yes e) = filled a e want
          go (no ne) =
              let c = ports f x a at want (was-given f l x Done at done-waiting a (inl ne) given) (λ w. taken (still-taken f l x Done at done-waiting (homes f) a w)) in
              (c.0, cells a ne ∙ c.1)

  there-taken : (others : ℕ → Store) (f : ℕ) (x : Live) → table f ≡ Some x → ((h : ℕ) (a : Port) → ¬ (h ≡ f) → (others h).cell a ≡ (stores h).cell a) → ((a : Port) → ((others f).cell a ≡ (stores f).cell a) ⊎ WasTaken (homes f) x a) → ArePortsThere table others homes wanted
  there-taken others f x at same cells h y a is want given taken = go (ℕ_discrete h f)
    where
      go : Dec (h ≡ f) → (c : Cell) × ((others h).cell a ≡ Some c)
      go (yes e) = by-cell (cells a)
        where
          by-cell : ((others f).cell a ≡ (stores f).cell a) ⊎ WasTaken (homes f) x a → (c : Cell) × ((others h).cell a ≡ Some c)
          by-cell (inl q) = let c = ports h y a is want given taken in (c.0, ap (λ z. (others z).cell a) e ∙ (q ∙ (sym (ap (λ z. (stores z).cell a) e) ∙ c.1)))
          by-cell (inr w) =
              let live : x ≡ y = some-same x y (sym at ∙ (sym (ap table e) ∙ is)) in
              absurd (taken (subst (λ z. WasTaken (homes h) z a) live (subst (λ z. WasTaken (homes z) x a) (sym e) w)))
      go (no ne) = let c = ports h y a is want given taken in (c.0, same h a ne ∙ c.1)

  there-added : (others : ℕ → Store) (later : ℕ → Place) (more : ℕ → Port → Bool) (g : ℕ) (y : Live) → ((h : ℕ) → ¬ (h ≡ g) → (others h ≡ stores h) × (later h ≡ homes h) × ((a : Port) → more h a ≡ true → wanted h a ≡ true))
      → ((l : ℕ) → y.states l ≡ Waiting) → ((i : ℕ) → more g (0, i) ≡ true → (c : Cell) × ((others g).cell (0, i) ≡ Some c)) → ArePortsThere (put table g (Some y)) others later more
  there-added others later more g y same fresh inputs h z a is want given taken = go (ℕ_discrete h g)
    where
      own : (b : Port) → more g b ≡ true → IsGiven y b → (c : Cell) × ((others g).cell b ≡ Some c)
      own (zero, i) want given = inputs i want
      own (suc m, i) want given = waiting-done (sym (fresh (suc m)) ∙ given)

      go : Dec (h ≡ g) → (c : Cell) × ((others h).cell a ≡ Some c)
      go (yes e) =
          let live : y ≡ z = some-same y z (sym (ap (put table g (Some y)) e ∙ put-same table g (Some y)) ∙ is) in
          let c = own a (subst (λ z. more z a ≡ true) e want) (subst (λ z. IsGiven z a) (sym live) given) in
          (c.0, ap (λ z. (others z).cell a) e ∙ c.1)
      go (no ne) =
          let q = same h ne in
          let c = ports h z a (sym (put-other table g (Some y) h ne) ∙ is) (q.2 a want) given (λ w. taken (subst (λ p. WasTaken p z a) (sym q.1) w)) in
          (c.0, ap (λ z. z.cell a) q.0 ∙ c.1)

  there-left : (g : ℕ) → ArePortsThere (put table g None) stores homes wanted
  there-left g h y a is want given taken = go (ℕ_discrete h g)
    where
      go : Dec (h ≡ g) → (c : Cell) × ((stores h).cell a ≡ Some c)
      go (yes e) = some-none y is (ap (put table g None) e ∙ put-same table g None)
      go (no ne) = ports h y a (sym (put-other table g None h ne) ∙ is) want given taken

pub there-kept : IsAllThereKept
there-kept table stores homes wanted ports =
    record {
      moved = there-moved table stores homes wanted ports;
      taken = there-taken table stores homes wanted ports;
      done = there-done table stores homes wanted ports;
      added = there-added table stores homes wanted ports;
      left = there-left table stores homes wanted ports;
    }
