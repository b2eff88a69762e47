-- A depth of calls and turns gives the cost that a depth of steps gives.
use Rattle.std.proofs.Common.{◌≡◌, ℕ, zero, suc, ◌+◌, ◌≤◌, Bool, true, false, List, [], ◌∷◌, ◌++◌, map, Option, Some, None, refl, sym, ap, ◌∙◌, subst, arith}
use Rattle.graph_meaning.specs.Entered.{Entered, Steps, Left, Unshown, GraphStep, SliceStep, cost, steps_cost, plus, entry_fires}
use Rattle.graph_meaning.specs.Carried.{Carried}
use Rattle.graph_meaning.specs.Forms.{Form, First, Begins, Skips, Next, Stage, Enter, Iterate, Leave, next_of, first, follow, gather}
use Rattle.graph_meaning.specs.Demand.{Source, Kind, Plain, Whole, Vertex, Network, Cut, IsCut, all, operands, of_node, leads_to, dem, compound, steps_of, node_tree, nodes_tree, on_results, slice_cost, tree_from}
use Rattle.graph_meaning.specs.Plain.{is_deeper, NodesFire, no_node, a_node, InnerFires, of_simple, of_whole, LaterFires, of_leaving, of_graph, of_deeper, of_iterations, RowsFire, of_no_row, of_row}
use Rattle.graph_meaning.specs.Laws.{AreDepthsOfOneCost}
use Rattle.graph_meaning.proofs.Depths.{all-below, node-below, dem-below, operands-below}
use Rattle.graph_meaning.proofs.PlainValues.{operands-stand, rows-stand, operands-given, rows-given}
use Rattle.graph_meaning.proofs.Slicing.{same-cost}

-- all iterations of a ForAll in one slice
abbrev pub one : Cut
one rows = rows ∷ []

append-none : (rows : List (List Carried)) → rows ++ [] ≡ rows
append-none [] = refl
append-none (r ∷ rows) = ap (λ x. r ∷ x) (append-none rows)

pub is-one-cut : IsCut one
is-one-cut = record { joins = λ rows. append-none rows; some = λ row rows. (row ∷ rows, [], refl) }

some-same : (a b : ℕ) → Some a ≡ Some b → a ≡ b
some-same a b e = cc

plus-both : (a b : Option ℕ) (c : ℕ) → plus a b ≡ Some c → (x : ℕ) × (y : ℕ) × (a ≡ Some x) × (b ≡ Some y) × (x + y ≡ c)
plus-both None b c e = absurd cc
plus-both (Some x) None c e = absurd cc
plus-both (Some x) (Some y) c e = (x, y, refl, refl, some-same (x + y) c e)

plus-none : (o : Option ℕ) → plus (Some 0) o ≡ o
plus-none None = refl
plus-none (Some x) = ap Some (omega arith)

none-plus : (o : Option ℕ) → plus o (Some 0) ≡ o
none-plus None = refl
none-plus (Some x) = ap Some (omega arith)

plus-these : (a b : Option ℕ) (x y : ℕ) → a ≡ Some x → b ≡ Some y → plus a b ≡ Some (x + y)
plus-these a b x y e f = ap (λ o. plus o b) e ∙ ap (plus (Some x)) f

-- what a node enters with its own item is no turn
abbrev IsNoTurn : Steps → Type 0
IsNoTurn (GraphStep true inside next) = ⊥
IsNoTurn _ = Unit {0}

compound-cost : (v : Vertex) (p : Steps) (rest : Entered) → IsNoTurn p → cost (compound v p rest) ≡ plus (Some 1) (plus (steps_cost p) (cost rest))
compound-cost v Left rest h = ap (plus (Some 1)) (plus-none (plus (Some 0) (cost rest)))
compound-cost v Unshown rest h = refl
compound-cost v (GraphStep true inside next) rest h = absurd h
compound-cost v (GraphStep false inside next) rest h = ap (plus (Some 1)) (go (cost inside) (steps_cost next) (cost rest))
  where
    go : (a b c : Option ℕ) → plus a (plus b c) ≡ plus (plus (Some 0) (plus a b)) c
    go None b c = refl
    go (Some x) None c = refl
    go (Some x) (Some y) None = refl
    go (Some x) (Some y) (Some z) = ap Some (omega arith)
compound-cost v (SliceStep cs next) rest h = ap (plus (Some 1)) (plus-none (plus (steps_cost (SliceStep cs next)) (cost rest)))

begins-no-turn : (u : Network) (n : ℕ) (form : Form) (ks : List Carried) (f : First) → IsNoTurn (tree_from one n u form ks (next_of f))
begins-no-turn u zero form ks f = tt
begins-no-turn u (suc n) form ks (Begins g ins stage) = tt
begins-no-turn u (suc n) form ks (Skips rs) = tt

abbrev known-of : Network → ℕ → ℕ → List Carried → List Source → Option (List Carried)
known-of u m g ins os = operands (of_node (leads_to m u)) (u g) ins os

abbrev nodes-of : Network → ℕ → ℕ → List Carried → List Vertex → Entered
nodes-of u m g ins vs = nodes_tree (tree_from one m u) (λ v. known-of u m g ins v.ins) vs

-- ---- the cost of a tree of steps stands at that depth of calls and turns

-- what m steps show of the cost of a node stands at each depth from m on
abbrev FiresFrom : Network → ℕ → Type 0
FiresFrom u m = (n : ℕ) → m ≤ n → (form : Form) (ks : List Carried) (next : Next) (c : ℕ) → steps_cost (tree_from one m u form ks next) ≡ Some c → LaterFires u n form ks next c

module _ (u : Network) (m : ℕ) (h : FiresFrom u m) (n : ℕ) (le : m ≤ n) where
  whole-fires : (g : ℕ) (ins : List Carried) (v : Vertex) (form : Form) (o : Option (List Carried)) → known-of u m g ins v.ins ≡ o → (rest : Entered) (c : ℕ) → cost (compound v (steps_of (tree_from one m u) form o) rest) ≡ Some c
      → (a d : ℕ) × InnerFires u n g ins (Whole form) v.ins a × (cost rest ≡ Some d) × (1 + (a + d) ≡ c)
  whole-fires g ins v form None k rest c e = absurd cc
  whole-fires g ins v form (Some ks) k rest c e =
      let p = steps_of (tree_from one m u) form (Some ks) in
      let x = plus-both (Some 1) (plus (steps_cost p) (cost rest)) c (sym (compound-cost v p rest (begins-no-turn u m form ks (first form ks))) ∙ e) in
      let y = plus-both (steps_cost p) (cost rest) x.1 x.3 in (
        y.0,
        y.1,
        of_whole n g ins form v.ins ks y.0 (operands-stand u m n le g ins v.ins ks k) (h n le form ks (next_of (first form ks)) y.0 y.2),
        y.3,
        omega (arith, some-same 1 x.0 x.2, x.4, y.4),
      )

  node-fires : (g : ℕ) (ins : List Carried) (v : Vertex) (k : Kind) (rest : Entered) (c : ℕ) → cost (node_tree (tree_from one m u) v k (known-of u m g ins v.ins) rest) ≡ Some c
      → (a d : ℕ) × InnerFires u n g ins k v.ins a × (cost rest ≡ Some d) × (1 + (a + d) ≡ c)
  node-fires g ins v (Plain row shape) rest c e =
      let x = plus-both (Some 1) (cost rest) c e in
      (0, x.1, of_simple n g ins row shape v.ins, x.3, omega (arith, some-same 1 x.0 x.2, x.4))
  node-fires g ins v (Whole form) rest c e = whole-fires g ins v form (known-of u m g ins v.ins) refl rest c e

  nodes-fire : (g : ℕ) (ins : List Carried) (vs : List Vertex) (c : ℕ) → cost (nodes-of u m g ins vs) ≡ Some c → NodesFire u n g ins vs c
  nodes-fire g ins [] c e = subst (NodesFire u n g ins []) (some-same 0 c e) (no_node n g ins)
  nodes-fire g ins (v ∷ vs) c e =
      let x = node-fires g ins v v.kind (nodes-of u m g ins vs) c e in
      subst (NodesFire u n g ins (v ∷ vs)) x.4 (a_node n g ins v vs x.0 x.1 x.2 (nodes-fire g ins vs x.1 x.3))

  rows-fire : (g : ℕ) (rows : List (List Carried)) (c : ℕ) → slice_cost (λ ins. nodes-of u m g ins (u g).nodes) rows ≡ Some c → RowsFire u n g rows c
  rows-fire g [] c e = subst (RowsFire u n g []) (some-same 0 c e) (of_no_row n g)
  rows-fire g (ins ∷ rows) c e =
      let x = plus-both (plus (Some 1) (cost (nodes-of u m g ins (u g).nodes))) (slice_cost (λ ins. nodes-of u m g ins (u g).nodes) rows) c e in
      let y = plus-both (Some 1) (cost (nodes-of u m g ins (u g).nodes)) x.0 x.2 in
      let s : 1 + (y.1 + x.1) ≡ c = omega (arith, some-same 1 y.0 y.2, y.4, x.4) in
      subst (RowsFire u n g (ins ∷ rows)) s (of_row n g ins rows y.1 x.1 (nodes-fire g ins (u g).nodes y.1 y.3) (rows-fire g rows x.1 x.3))

results-cost : {A : Type 0} (o : Option A) (f : A → Steps) (c : ℕ) → steps_cost (on_results o f) ≡ Some c → (a : A) × (o ≡ Some a) × (steps_cost (f a) ≡ Some c)
results-cost None f c e = absurd cc
results-cost (Some a) f c e = (a, refl, e)

entered : (u : Network) (m : ℕ) → FiresFrom u m → (form : Form) (ks : List Carried) (t : Bool) (g : ℕ) (ins : List Carried) (stage : Stage) (ms : List Carried) (c d : ℕ)
    → cost (nodes-of u m g ins (u g).nodes) ≡ Some c → dem m u g ins ≡ Some ms → steps_cost (tree_from one m u form ks (follow form ks stage ms)) ≡ Some d
    → (n : ℕ) → suc m ≤ n → (b : Bool) → is_deeper form t ≡ b → LaterFires u n form ks (Enter t g ins stage) (entry_fires t + (c + d))
entered u m h form ks t g ins stage ms c d e f k n le false b =
    let w : m ≤ n = omega (arith, le) in
    of_graph n form ks t g ins stage ms c d b (nodes-fire u m h n w g ins (u g).nodes c e) (operands-stand u m n w g ins (u g).results ms f) (h n w form ks (follow form ks stage ms) d k)
entered u m h form ks t g ins stage ms c d e f k zero le true b = absurd (omega (arith, le))
entered u m h form ks t g ins stage ms c d e f k (suc n) le true b =
    let w : m ≤ n = omega (arith, le) in
    of_deeper n form ks t g ins stage ms c d b (nodes-fire u m h n w g ins (u g).nodes c e) (operands-stand u m n w g ins (u g).results ms f) (h n w form ks (follow form ks stage ms) d k)

later-fires : (u : Network) (m : ℕ) → FiresFrom u m
later-fires u zero n le form ks next c e = absurd cc
later-fires u (suc m) n le form ks (Leave rs) c e = subst (LaterFires u n form ks (Leave rs)) (some-same 0 c e) (of_leaving n form ks rs)
later-fires u (suc m) n le form ks (Enter t g ins stage) c e =
    let inside = cost (nodes-of u m g ins (u g).nodes) in
    let next = on_results (dem m u g ins) (λ rs. tree_from one m u form ks (follow form ks stage rs)) in
    let x = plus-both (Some (entry_fires t)) (plus inside (steps_cost next)) c e in
    let y = plus-both inside (steps_cost next) x.1 x.3 in
    let r = results-cost (dem m u g ins) (λ rs. tree_from one m u form ks (follow form ks stage rs)) y.1 y.3 in
    let s : entry_fires t + (y.0 + y.1) ≡ c = omega (arith, some-same (entry_fires t) x.0 x.2, x.4, y.4) in
    subst (LaterFires u n form ks (Enter t g ins stage)) s (entered u m (later-fires u m) form ks t g ins stage r.0 y.0 y.1 y.2 r.1 r.2 n le (is_deeper form t) refl)
later-fires u (suc m) n le form ks (Iterate g row rows ms) c e =
    let w : m ≤ n = omega (arith, le) in
    let lists = all (map (λ ins. dem m u g ins) (row ∷ rows)) in
    let next = on_results lists (λ rs. tree_from one m u form ks (gather form ks ms rs)) in
    let slice = slice_cost (λ ins. nodes-of u m g ins (u g).nodes) (row ∷ rows) in
    let x = plus-both (plus slice (Some 0)) (steps_cost next) c e in
    let f : slice ≡ Some x.0 = sym (none-plus slice) ∙ x.2 in
    let r = results-cost lists (λ rs. tree_from one m u form ks (gather form ks ms rs)) x.1 x.3 in
    subst (LaterFires u n form ks (Iterate g row rows ms)) x.4
    (of_iterations n form ks g row rows ms r.0 x.0 x.1 (rows-fire u m (later-fires u m) n w g (row ∷ rows) x.0 f) (rows-stand u m n w g (row ∷ rows) r.0 r.1) (later-fires u m n w form ks (gather form ks ms r.0) x.1 r.2))

-- ---- the cost at a depth of calls and turns is that of some tree of steps, and of all deeper ones

module _ (u : Network) where
  abbrev NodesFrom : ℕ → List Carried → List Vertex → ℕ → Type 0
  NodesFrom g ins vs c = (m : ℕ) × ((k : ℕ) → m ≤ k → cost (nodes-of u k g ins vs) ≡ Some c)

  -- a node enters so many firings, whatever stands behind it
  abbrev InnerFrom : ℕ → List Carried → Kind → List Source → ℕ → Type 0
  InnerFrom g ins kind os c = (m : ℕ) × ((k : ℕ) → m ≤ k → (v : Vertex) (rest : Entered) (d : ℕ) → cost rest ≡ Some d → cost (node_tree (tree_from one k u) v kind (known-of u k g ins os) rest) ≡ Some (1 + (c + d)))

  abbrev LaterFrom : Form → List Carried → Next → ℕ → Type 0
  LaterFrom form ks next c = (m : ℕ) × ((k : ℕ) → m ≤ k → steps_cost (tree_from one k u form ks next) ≡ Some c)

  abbrev RowsFrom : ℕ → List (List Carried) → ℕ → Type 0
  RowsFrom g rows c = (m : ℕ) × ((k : ℕ) → m ≤ k → slice_cost (λ ins. nodes-of u k g ins (u g).nodes) rows ≡ Some c)

  operands-on : (g : ℕ) (ins : List Carried) (os : List Source) (cs : List Carried) (m k : ℕ) → m ≤ k → known-of u m g ins os ≡ Some cs → known-of u k g ins os ≡ Some cs
  operands-on g ins os cs m k le e = operands-below (of_node (leads_to m u)) (of_node (leads_to k u)) (node-below m k le u) (u g) ins os cs e

  a-node-from : (g : ℕ) (ins : List Carried) (v : Vertex) (vs : List Vertex) (c d : ℕ) → InnerFrom g ins v.kind v.ins c → NodesFrom g ins vs d → NodesFrom g ins (v ∷ vs) (1 + (c + d))
  a-node-from g ins v vs c d a b = (a.0 + b.0, λ k le. a.1 k (omega (arith, le)) v (nodes-of u k g ins vs) d (b.1 k (omega (arith, le))))

  of-simple-from : (g : ℕ) (ins : List Carried) (kind : Kind) (os : List Source) → ((k : ℕ) (v : Vertex) (rest : Entered) → cost (node_tree (tree_from one k u) v kind (known-of u k g ins os) rest) ≡ plus (Some 1) (cost rest)) → InnerFrom g ins kind os 0
  of-simple-from g ins kind os h = (0, λ k le v rest d e. h k v rest ∙ (ap (plus (Some 1)) e ∙ ap Some (omega arith)))

  of-whole-from : (g : ℕ) (ins : List Carried) (form : Form) (os : List Source) (ks : List Carried) (c : ℕ) → (m : ℕ) × (known-of u m g ins os ≡ Some ks) → LaterFrom form ks (next_of (first form ks)) c → InnerFrom g ins (Whole form) os c
  of-whole-from g ins form os ks c a b = (
    a.0 + b.0,
    λ k le v rest d e.
        let p = steps_of (tree_from one k u) form (Some ks) in
        let f = operands-on g ins os ks a.0 k (omega (arith, le)) a.1 in
        ap (λ o. cost (compound v (steps_of (tree_from one k u) form o) rest)) f
        ∙ (compound-cost v p rest (begins-no-turn u k form ks (first form ks))
        ∙ ap (plus (Some 1)) (plus-these (steps_cost p) (cost rest) c d (b.1 k (omega (arith, le))) e)),
  )

  of-graph-from : (form : Form) (ks : List Carried) (t : Bool) (g : ℕ) (ins : List Carried) (stage : Stage) (ms : List Carried) (c d : ℕ)
      → NodesFrom g ins (u g).nodes c → (m : ℕ) × (known-of u m g ins (u g).results ≡ Some ms) → LaterFrom form ks (follow form ks stage ms) d → LaterFrom form ks (Enter t g ins stage) (entry_fires t + (c + d))
  of-graph-from form ks t g ins stage ms c d a b r = (suc (a.0 + (b.0 + r.0)), go)
    where
      go : (k : ℕ) → suc (a.0 + (b.0 + r.0)) ≤ k → steps_cost (tree_from one k u form ks (Enter t g ins stage)) ≡ Some (entry_fires t + (c + d))
      go zero le = absurd (omega (arith, le))
      go (suc k) le =
          let next : List Carried → Steps = λ rs. tree_from one k u form ks (follow form ks stage rs) in
          let f = ap (λ o. steps_cost (on_results o next)) (operands-on g ins (u g).results ms b.0 k (omega (arith, le)) b.1) ∙ r.1 k (omega (arith, le)) in
          ap (plus (Some (entry_fires t))) (plus-these (cost (nodes-of u k g ins (u g).nodes)) (steps_cost (on_results (dem k u g ins) next)) c d (a.1 k (omega (arith, le))) f)

  of-iterations-from : (form : Form) (ks : List Carried) (g : ℕ) (row : List Carried) (rows : List (List Carried)) (ms : List Carried) (lists : List (List Carried)) (c d : ℕ)
      → RowsFrom g (row ∷ rows) c → (m : ℕ) × (all (map (λ ins. dem m u g ins) (row ∷ rows)) ≡ Some lists) → LaterFrom form ks (gather form ks ms lists) d → LaterFrom form ks (Iterate g row rows ms) (c + d)
  of-iterations-from form ks g row rows ms lists c d a b r = (suc (a.0 + (b.0 + r.0)), go)
    where
      go : (k : ℕ) → suc (a.0 + (b.0 + r.0)) ≤ k → steps_cost (tree_from one k u form ks (Iterate g row rows ms)) ≡ Some (c + d)
      go zero le = absurd (omega (arith, le))
      go (suc k) le =
          let next : List (List Carried) → Steps = λ rs. tree_from one k u form ks (gather form ks ms rs) in
          let given = all-below (λ ins. dem b.0 u g ins) (λ ins. dem k u g ins) (dem-below b.0 k (omega (arith, le)) u g) (row ∷ rows) lists b.1 in
          let f = ap (λ o. steps_cost (on_results o next)) given ∙ r.1 k (omega (arith, le)) in
          let slice = slice_cost (λ ins. nodes-of u k g ins (u g).nodes) (row ∷ rows) in
          plus-these (plus slice (Some 0)) (steps_cost (on_results (all (map (λ ins. dem k u g ins) (row ∷ rows))) next)) c d (none-plus slice ∙ a.1 k (omega (arith, le))) f

  of-row-from : (g : ℕ) (ins : List Carried) (rows : List (List Carried)) (c d : ℕ) → NodesFrom g ins (u g).nodes c → RowsFrom g rows d → RowsFrom g (ins ∷ rows) (1 + (c + d))
  of-row-from g ins rows c d a b = (
    a.0 + b.0,
    λ k le.
        plus-these (plus (Some 1) (cost (nodes-of u k g ins (u g).nodes))) (slice_cost (λ ins. nodes-of u k g ins (u g).nodes) rows) (1 + c) d
        (ap (plus (Some 1)) (a.1 k (omega (arith, le)))) (b.1 k (omega (arith, le))) ∙ ap Some (omega arith),
  )

  mutual
    pub nodes-from : (n g : ℕ) (ins : List Carried) (vs : List Vertex) (c : ℕ) → NodesFire u n g ins vs c → NodesFrom g ins vs c
    nodes-from _ _ _ _ _ (no_node n g ins) = (0, λ k le. refl)
    nodes-from _ _ _ _ _ (a_node n g ins v vs c d a b) = a-node-from g ins v vs c d (inner-from n g ins v.kind v.ins c a) (nodes-from n g ins vs d b)

    inner-from : (n g : ℕ) (ins : List Carried) (kind : Kind) (os : List Source) (c : ℕ) → InnerFires u n g ins kind os c → InnerFrom g ins kind os c
    inner-from _ _ _ _ _ _ (of_simple n g ins row shape os) = of-simple-from g ins (Plain row shape) os (λ k v rest. refl)
    inner-from _ _ _ _ _ _ (of_whole n g ins form os ks c a b) = of-whole-from g ins form os ks c (operands-given u n g ins os ks a) (later-from n form ks (next_of (first form ks)) c b)

    later-from : (n : ℕ) (form : Form) (ks : List Carried) (next : Next) (c : ℕ) → LaterFires u n form ks next c → LaterFrom form ks next c
    later-from _ _ _ _ _ (of_leaving n form ks rs) = (1, go)
      where
        go : (k : ℕ) → 1 ≤ k → steps_cost (tree_from one k u form ks (Leave rs)) ≡ Some 0
        go zero le = absurd (omega (arith, le))
        go (suc k) le = refl
    later-from _ _ _ _ _ (of_graph n form ks t g ins stage ms c d x a b r) = of-graph-from form ks t g ins stage ms c d (nodes-from n g ins (u g).nodes c a) (operands-given u n g ins (u g).results ms b) (later-from n form ks (follow form ks stage ms) d r)
    later-from _ _ _ _ _ (of_deeper n form ks t g ins stage ms c d x a b r) = of-graph-from form ks t g ins stage ms c d (nodes-from n g ins (u g).nodes c a) (operands-given u n g ins (u g).results ms b) (later-from n form ks (follow form ks stage ms) d r)
    later-from _ _ _ _ _ (of_iterations n form ks g row rows ms lists c d a b r) = of-iterations-from form ks g row rows ms lists c d (rows-from n g (row ∷ rows) c a) (rows-given u n g (row ∷ rows) lists b) (later-from n form ks (gather form ks ms lists) d r)

    rows-from : (n g : ℕ) (rows : List (List Carried)) (c : ℕ) → RowsFire u n g rows c → RowsFrom g rows c
    rows-from _ _ _ _ (of_no_row n g) = (0, λ k le. refl)
    rows-from _ _ _ _ (of_row n g ins rows c d a b) = of-row-from g ins rows c d (nodes-from n g ins (u g).nodes c a) (rows-from n g rows d b)

pub plain-costs : AreDepthsOfOneCost
plain-costs cut u g ins c is_cut = (
  λ k. let x = nodes-from u k.0 g ins (u g).nodes c k.1 in
      (x.0, same-cost cut one is_cut is-one-cut x.0 u g ins ∙ x.1 x.0 (omega arith)),
  λ k. (k.0, nodes-fire u k.0 (later-fires u k.0) k.0 (omega arith) g ins (u g).nodes c (same-cost one cut is-one-cut is_cut k.0 u g ins ∙ k.1)),
)
