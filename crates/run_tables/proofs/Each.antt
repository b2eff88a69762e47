-- Each item of a whole tree adds some number.
use Rattle.std.proofs.Common.{◌≡◌, ℕ, zero, suc, ◌+◌, List, [], ◌∷◌, map, slice_get, Option, Some, None, inl, inr, refl, sym, ap, ◌∙◌, subst, arith}
use Rattle.graph_meaning.specs.Carried.{Carried}
use Rattle.graph_meaning.specs.NodeValues.{op}
use Rattle.graph_meaning.specs.Entered.{Entered, Item, Node, Entry, Slice, Leave, Inside, Has, StepsHave, IsSlice, IsWhole as IsGiven, AreWhole, all_given}
use Rattle.graph_meaning.specs.Forms.{Form, First, Begins, Skips, Next, Enter, Iterate, Leave as Leaves, next_of, first, follow, gather}
use Rattle.graph_meaning.specs.Demand.{Kind, Plain, Whole, Vertex, Network, Cut, IsCut, AreOrderly, at_label, all, operands, of_kind, of_node, leads_to, dem, compound, node_tree, nodes_tree, on_results, slice_cost, tree_from, tree, EachNode}
use Rattle.graph_meaning.specs.Storage.{Weights}
use Rattle.graph_meaning.proofs.Given.{Facts, Full, facts, nodes-full, each-both}
use Rattle.graph_meaning.proofs.PlainValues.{and-then-some, operands-stand}
use Rattle.graph_meaning.proofs.Ranks.{AreRanked, ranked}
use Rattle.run_states.specs.Phases.{Operands, Comes, skips, begins, enters, iterates}
use Rattle.run_states.specs.Paths.{IsWhole, EntersAt, at_first, at_step}
use Rattle.run_tables.specs.Adds.{KindAdds, ItemAdds, DoItemsAdd}
use Rattle.run_tables.proofs.Items.{rows-add, whole-own}

module _ (cut : Cut) (u : Network) (is-cut : IsCut cut) (orderly : AreOrderly u) (w : Weights) where
  abbrev Adds : ℕ → List Carried → Item → Type 0
  Adds g ins i = (c : ℕ) × ItemAdds cut u w g ins i c

  same-item : (g : ℕ) (ins : List Carried) (i j : Item) → i ≡ j → Adds g ins j → Adds g ins i
  same-item g ins i j e a = subst (Adds g ins) (sym e) a

  abbrev GraphItems : ℕ → Type 0
  GraphItems m = (g : ℕ) (ins : List Carried) → IsGiven (tree cut m u g ins) → (i : Item) (o : Option ℕ) → Has (tree cut m u g ins) i o → Adds g ins i

  abbrev LaterItems : ℕ → Type 0
  LaterItems m = (g : ℕ) (ins : List Carried) (l : ℕ) (form : Form) (ks : List Carried) → IsWhole u g ins l form ks → (k : ℕ) (next : Next) (rs : List Carried) → Comes u form ks k next → AreWhole (tree_from cut m u form ks next) → leads_to m u form ks next ≡ Some rs
      → (i : Item) (o : Option ℕ) → StepsHave l (suc k) (tree_from cut m u form ks next) i o → Adds g ins i

  given-first : (o : Option ℕ) (cs : List (Option ℕ)) → all_given (o ∷ cs) → ((c : ℕ) × (o ≡ Some c)) × all_given cs
  given-first None cs h = absurd h
  given-first (Some c) cs h = ((c, refl), h)

  module _ (g : ℕ) (ins : List Carried) (l : ℕ) (form : Form) (ks : List Carried) (x : IsWhole u g ins l form ks) where
    inside-adds : (k : ℕ) (e : Item) (h : ℕ) (is : List Carried) → EntersAt u form ks l k e h is → (i j : Item) → i ≡ Inside l k j → Adds h is j → Adds g ins i
    inside-adds k e h is at i j same y =
        same-item g ins i (Inside l k j) same (y.0, record { form = form; operands = ks; whole = x; entry = e; graph = h; inputs = is; enters = at; adds = y.1 })

    slice-items : (k m h : ℕ) (row : List Carried) (rows : List (List Carried)) (ms : List Carried) → Comes u form ks k (Iterate h row rows ms) → (parts : List (List (List Carried))) (r : ℕ) → ((q : ℕ) → slice_get (cut (row ∷ rows)) (r + q) ≡ slice_get parts q)
        → all_given (map (slice_cost (λ is. tree cut m u h is)) parts) → (i : Item) (o : Option ℕ) → IsSlice l (suc k) r (map (slice_cost (λ is. tree cut m u h is)) parts) i o → Adds g ins i
    slice-items k m h row rows ms came [] r at given i o y = absurd y
    slice-items k m h row rows ms came (part ∷ parts) r at given i o (inl y) =
        let known = given-first (slice_cost (λ is. tree cut m u h is) part) (map (slice_cost (λ is. tree cut m u h is)) parts) given in
        let s = rows-add cut u is-cut orderly w m h part known.0.0 known.0.1 in
        let here-at : slice_get (cut (row ∷ rows)) r ≡ Some part = ap (slice_get (cut (row ∷ rows))) (plus-none r) ∙ at 0 in
        same-item g ins i (Slice l (suc k) r) y.0
        (s.sum, record { form = form; operands = ks; whole = x; graph = h; row = row; rows = rows; multiples = ms; comes = came; part = part; at = here-at; depth = s.far; adds = s.adds s.far (omega arith) })
      where
        plus-none : (r : ℕ) → r ≡ r + 0
        plus-none r = omega arith
    slice-items k m h row rows ms came (part ∷ parts) r at given i o (inr y) =
        let known = given-first (slice_cost (λ is. tree cut m u h is) part) (map (slice_cost (λ is. tree cut m u h is)) parts) given in
        slice-items k m h row rows ms came parts (suc r) (λ q. ap (slice_get (cut (row ∷ rows))) (shift r q) ∙ at (suc q)) known.1 i o y
      where
        shift : (r q : ℕ) → suc r + q ≡ r + suc q
        shift r q = omega arith

  from-none : (q : ℕ) → 0 + q ≡ q
  from-none q = omega arith

  later-next : (m : ℕ) → GraphItems m → LaterItems m → LaterItems (suc m)
  later-next m graphs laters g ins l form ks x k (Leaves os) rs came whole led i o y =
      same-item g ins i (Leave l) y.0 (w.of_node g x.node ks os, record { form = form; operands = ks; whole = x; step = k; outputs = os; comes = came; adds = refl })
  later-next m graphs laters g ins l form ks x k (Enter t h is stage) rs came whole led i o (inl y) =
      let given = and-then-some (dem m u h is) (λ ms. leads_to m u form ks (follow form ks stage ms)) rs led in
      same-item g ins i (Entry t l (suc k)) y.0
      (w.of_results h given.0, record { form = form; operands = ks; whole = x; graph = h; inputs = is; stage = stage; comes = came; adds = record { results = given.0; given = (m, given.1); adds = refl } })
  later-next m graphs laters g ins l form ks x k (Enter t h is stage) rs came whole led i o (inr (inl y)) =
      inside-adds g ins l form ks x (suc k) (Entry t l (suc k)) h is (at_step k t h is stage came) i y.0 y.1 (graphs h is whole.0 y.0 o y.2)
  later-next m graphs laters g ins l form ks x k (Enter t h is stage) rs came whole led i o (inr (inr y)) =
      let given = and-then-some (dem m u h is) (λ ms. leads_to m u form ks (follow form ks stage ms)) rs led in
      let ms = given.0 in
      let rest : on_results (dem m u h is) (λ ms. tree_from cut m u form ks (follow form ks stage ms)) ≡ tree_from cut m u form ks (follow form ks stage ms) = ap (λ o. on_results o (λ ms. tree_from cut m u form ks (follow form ks stage ms))) given.1 in
      laters g ins l form ks x (suc k) (follow form ks stage ms) rs (enters k t h is stage ms came (m, given.1)) (subst AreWhole rest whole.1) given.2 i o (subst (λ q. StepsHave l (suc (suc k)) q i o) rest y)
  later-next m graphs laters g ins l form ks x k (Iterate h row rows ms) rs came whole led i o (inl y) =
      slice-items g ins l form ks x k m h row rows ms came (cut (row ∷ rows)) 0 (λ q. ap (slice_get (cut (row ∷ rows))) (from-none q)) whole.0 i o y
  later-next m graphs laters g ins l form ks x k (Iterate h row rows ms) rs came whole led i o (inr y) =
      let given = and-then-some (all (map (λ is. dem m u h is) (row ∷ rows))) (λ lists. leads_to m u form ks (gather form ks ms lists)) rs led in
      let lists = given.0 in
      let rest : on_results (all (map (λ is. dem m u h is) (row ∷ rows))) (λ lists. tree_from cut m u form ks (gather form ks ms lists)) ≡ tree_from cut m u form ks (gather form ks ms lists) = ap (λ o. on_results o (λ lists. tree_from cut m u form ks (gather form ks ms lists))) given.1 in
      laters g ins l form ks x (suc k) (gather form ks ms lists) rs (iterates k h row rows ms lists came (m, given.1)) (subst AreWhole rest whole.1) given.2 i o (subst (λ q. StepsHave l (suc (suc k)) q i o) rest y)

  -- ---- a node, and those behind it

  abbrev OrRest : ℕ → List Carried → Entered → Item → Option ℕ → Type 0
  OrRest g ins rest i o = IsGiven rest → (Has rest i o → Adds g ins i) → Adds g ins i

  abbrev BegunItems : ℕ → Type 0
  BegunItems m = (g : ℕ) (ins : List Carried) (v : Vertex) (form : Form) (ks rs : List Carried) (rest : Entered) → at_label (u g).nodes v.label ≡ Some v → v.kind ≡ Whole form → Operands u g ins v ks
      → leads_to m u form ks (next_of (first form ks)) ≡ Some rs
      → IsGiven (compound v (tree_from cut m u form ks (next_of (first form ks))) rest)
      → (i : Item) (o : Option ℕ) → Has (compound v (tree_from cut m u form ks (next_of (first form ks))) rest) i o → OrRest g ins rest i o

  begun-zero : BegunItems 0
  begun-zero g ins v form ks rs rest at kind given led whole i o y rest-given more = absurd (none led)
    where
      none : {A : Type 0} {a : A} → None ≡ Some a → ⊥
      none e = cc

  module _ (m : ℕ) (graphs : GraphItems m) (laters : LaterItems m) (g : ℕ) (ins : List Carried) (v : Vertex) (form : Form) (ks rs : List Carried) (rest : Entered) (at : at_label (u g).nodes v.label ≡ Some v) (kind : v.kind ≡ Whole form) (given : Operands u g ins v ks) where
    abbrev this : IsWhole u g ins v.label form ks
    this = record { node = v; found = at; kind = kind; given = given }

    begun-by : (f : First) → first form ks ≡ f → leads_to (suc m) u form ks (next_of f) ≡ Some rs → IsGiven (compound v (tree_from cut (suc m) u form ks (next_of f)) rest)
        → (i : Item) (o : Option ℕ) → Has (compound v (tree_from cut (suc m) u form ks (next_of f)) rest) i o → OrRest g ins rest i o
    begun-by (Skips os) e led whole i o (inl y) rest-given more = same-item g ins i (Node v.label) y.0 (0, whole-own cut u is-cut orderly w g ins v form ks at kind given (Skips os) e 0 refl)
    begun-by (Skips os) e led whole i o (inr (inl y)) rest-given more = absurd y.2
    begun-by (Skips os) e led whole i o (inr (inr (inl y))) rest-given more =
        same-item g ins i (Leave v.label) y.0 (w.of_node g v ks os, record { form = form; operands = ks; whole = this; step = 0; outputs = os; comes = skips os e; adds = refl })
    begun-by (Skips os) e led whole i o (inr (inr (inr y))) rest-given more = more y
    begun-by (Begins h is stage) e led whole i o (inl y) rest-given more =
        let found = and-then-some (dem m u h is) (λ ms. leads_to m u form ks (follow form ks stage ms)) rs led in
        same-item g ins i (Node v.label) y.0
        (w.of_results h found.0, whole-own cut u is-cut orderly w g ins v form ks at kind given (Begins h is stage) e (w.of_results h found.0) (record { results = found.0; given = (m, found.1); adds = refl }))
    begun-by (Begins h is stage) e led whole i o (inr (inl y)) rest-given more =
        inside-adds g ins v.label form ks this 0 (Node v.label) h is (at_first h is stage e) i y.0 y.1 (graphs h is whole.0 y.0 o y.2)
    begun-by (Begins h is stage) e led whole i o (inr (inr (inl y))) rest-given more =
        let found = and-then-some (dem m u h is) (λ ms. leads_to m u form ks (follow form ks stage ms)) rs led in
        let ms = found.0 in
        let tail : on_results (dem m u h is) (λ ms. tree_from cut m u form ks (follow form ks stage ms)) ≡ tree_from cut m u form ks (follow form ks stage ms) = ap (λ o. on_results o (λ ms. tree_from cut m u form ks (follow form ks stage ms))) found.1 in
        laters g ins v.label form ks this 0 (follow form ks stage ms) rs (begins h is stage ms e (m, found.1)) (subst AreWhole tail whole.1) found.2 i o (subst (λ q. StepsHave v.label 1 q i o) tail y)
    begun-by (Begins h is stage) e led whole i o (inr (inr (inr y))) rest-given more = more y

  begun-next : (m : ℕ) → GraphItems m → LaterItems m → BegunItems (suc m)
  begun-next m graphs laters g ins v form ks rs rest at kind given led whole i o y rest-given more =
      begun-by m graphs laters g ins v form ks rs rest at kind given (first form ks) refl led whole i o y rest-given more

  compound-rest : (v : Vertex) (form : Form) (ks : List Carried) (m : ℕ) (f : First) (rest : Entered) → IsGiven (compound v (tree_from cut m u form ks (next_of f)) rest) → IsGiven rest
  compound-rest v form ks zero (Skips os) rest h = h.2
  compound-rest v form ks zero (Begins g is stage) rest h = h.2
  compound-rest v form ks (suc m) (Skips os) rest h = h.2
  compound-rest v form ks (suc m) (Begins g is stage) rest h = h.2

  module _ (ready : AreRanked u) (m : ℕ) (begun : BegunItems m) (g : ℕ) (ins : List Carried) where
    abbrev known : Vertex → Option (List Carried)
    known v = operands (of_node (leads_to m u)) (u g) ins v.ins

    node-item : (v : Vertex) (k : Kind) (ks rs : List Carried) (rest : Entered) → v.kind ≡ k → at_label (u g).nodes v.label ≡ Some v → known v ≡ Some ks → of_kind (leads_to m u) k ks ≡ Some rs
        → IsGiven (node_tree (tree_from cut m u) v k (Some ks) rest)
        → (i : Item) (o : Option ℕ) → Has (node_tree (tree_from cut m u) v k (Some ks) rest) i o → (IsGiven rest → Has rest i o → Adds g ins i) → Adds g ins i
    node-item v (Plain row shape) ks rs rest kind at given led whole i o (inl y) more =
        same-item g ins i (Node v.label) y.0
        (w.of_node g v ks (op row shape ks), record { node = v; found = at; adds = subst (λ z. KindAdds cut u w g ins v z (w.of_node g v ks (op row shape ks))) (sym kind) (record { operands = ks; depth = m; carried = operands-stand u m m (omega arith) g ins v.ins ks given; adds = refl }) })
    node-item v (Plain row shape) ks rs rest kind at given led whole i o (inr y) more = more whole y
    node-item v (Whole form) ks rs rest kind at given led whole i o y more =
        let rest-given = compound-rest v form ks m (first form ks) rest whole in
        begun g ins v form ks rs rest at kind (m, given) led whole i o y rest-given (more rest-given)

    nodes-items : (vs : List Vertex) → EachNode (λ v. Facts cut u m (u g) (ready g) ins v × Full cut u m (u g) (ready g) ins v) vs → IsGiven (nodes_tree (tree_from cut m u) known vs)
        → (i : Item) (o : Option ℕ) → Has (nodes_tree (tree_from cut m u) known vs) i o → Adds g ins i
    nodes-items [] each whole i o y = absurd y
    nodes-items (v ∷ vs) each whole i o y =
        let full = each.0.1 in
        let rest = nodes_tree (tree_from cut m u) known vs in
        let e = full.2 in
        node-item v v.kind full.0 full.1 rest refl each.0.0.0 e full.3
        (subst (λ z. IsGiven (node_tree (tree_from cut m u) v v.kind z rest)) e whole) i o
        (subst (λ z. Has (node_tree (tree_from cut m u) v v.kind z rest) i o) e y)
        (λ given z. nodes-items vs each.1 given i o z)

  module _ (ready : AreRanked u) where
    graphs-from : (m : ℕ) → BegunItems m → GraphItems m
    graphs-from m begun g ins whole i o y =
        nodes-items ready m begun g ins (u g).nodes (each-both _ _ (u g).nodes (facts cut u m (u g) (ready g) ins) (nodes-full cut u m (u g) (ready g) ins whole)) whole i o y

    record Level (m : ℕ) : Type 0 where
      graphs : GraphItems m
      laters : LaterItems m

    level : (m : ℕ) → Level m
    level zero = record { graphs = graphs-from 0 begun-zero; laters = λ g ins l form ks x k next rs came whole led i o y. absurd whole }
    level (suc m) =
        let x = level m in
        record { graphs = graphs-from (suc m) (begun-next m x.graphs x.laters); laters = later-next m x.graphs x.laters }

pub items-add : DoItemsAdd
items-add cut u w g ins n is-cut orderly whole i o y = (level cut u is-cut orderly w (ranked u orderly) n).graphs g ins whole i o y
