-- The sum over the items of a whole tree.
use Rattle.std.proofs.Common.{◌≡◌, ℕ, zero, suc, ◌+◌, ◌≤◌, Bool, true, false, List, [], ◌∷◌, ◌++◌, map, slice_get, Option, Some, None, inl, inr, refl, sym, ap, ◌∙◌, subst, arith}
use Rattle.graph_meaning.specs.Carried.{Carried}
use Rattle.graph_meaning.specs.NodeValues.{op}
use Rattle.graph_meaning.specs.Entered.{Entered, Steps, Item, Node, Entry, Slice, Leave, Inside, entry_fires, Has, StepsHave, IsSlice, IsWhole as IsGiven, AreWhole, all_given, total, total_steps, total_slices, cost, plus}
use Rattle.graph_meaning.specs.Forms.{Form, First, Begins, Skips, Next, Enter, Iterate, Leave as Leaves, Stage, next_of, first, follow, gather}
use Rattle.graph_meaning.specs.Demand.{Kind, Plain, Whole, Vertex, Network, Cut, IsCut, AreOrderly, at_label, all, operands, of_kind, of_node, leads_to, dem, compound, node_tree, nodes_tree, on_results, slice_cost, tree_from, tree, flatten, EachNode}
use Rattle.graph_meaning.specs.Plain.{is_deeper, CarryAll}
use Rattle.graph_meaning.specs.Storage.{Weights, NodesAdd, no_node, a_node, InnerAdds, of_simple, of_whole, LaterAdds, of_leaving, of_graph, of_deeper, of_iterations, RowsAdd, of_no_row, of_row, GraphAdds, of_nodes}
use Rattle.graph_meaning.proofs.Depths.{plus-left, plus-right}
use Rattle.graph_meaning.proofs.Given.{Facts, Full, facts, nodes-full, each-both}
use Rattle.graph_meaning.proofs.PlainAdds.{sum-stable}
use Rattle.graph_meaning.proofs.PlainCosts.{plain-costs}
use Rattle.graph_meaning.proofs.PlainValues.{and-then-some, leads, node-outputs, operands-stand, rows-stand}
use Rattle.graph_meaning.proofs.Ranks.{AreRanked, ranked}
use Rattle.graph_meaning.proofs.Sums.{sums-defined}
use Rattle.run_states.specs.Phases.{Operands, Comes, skips, begins, enters, iterates}
use Rattle.run_states.specs.Paths.{IsWhole, EntersAt, at_first, at_step, here, inside}
use Rattle.run_states.proofs.Lookups.{some-same}
use Rattle.run_states.proofs.Paths.{path-once}
use Rattle.run_tables.specs.Adds.{FirstAdds, KindAdds, ItemAdds, AreSumsOfItems}
use Rattle.run_tables.proofs.Once.{adds-once}

from-none : (q : ℕ) → 0 + q ≡ q
from-none q = omega arith

-- ---- rows

module _ (u : Network) (w : Weights) where
  -- from this depth on the rows add so much
  pub record RowsSum (h : ℕ) (rows : List (List Carried)) : Type 0 where
    pub sum : ℕ
    pub far : ℕ
    pub adds : (n : ℕ) → far ≤ n → RowsAdd u w n h rows sum

  pub rows-join : (n h : ℕ) (xs ys : List (List Carried)) (s t : ℕ) → RowsAdd u w n h xs s → RowsAdd u w n h ys t → RowsAdd u w n h (xs ++ ys) (s + t)
  rows-join _ _ _ ys _ t (of_no_row n h) b = subst (RowsAdd u w n h ys) (none-more t) b
    where
      none-more : (t : ℕ) → t ≡ 0 + t
      none-more t = omega arith
  rows-join _ _ _ ys _ t (of_row n h is rows c d a r) b =
      subst (RowsAdd u w n h (is ∷ (rows ++ ys))) (regroup c d t) (of_row n h is (rows ++ ys) c (d + t) a (rows-join n h rows ys d t r b))
    where
      regroup : (c d t : ℕ) → c + (d + t) ≡ c + d + t
      regroup c d t = omega arith

module _ (cut : Cut) (u : Network) (is-cut : IsCut cut) (orderly : AreOrderly u) (w : Weights) where
  -- iterations whose cost a depth gives add some number
  pub rows-add : (m h : ℕ) (rows : List (List Carried)) (c : ℕ) → slice_cost (λ is. tree cut m u h is) rows ≡ Some c → RowsSum u w h rows
  rows-add m h [] c e = record { sum = 0; far = 0; adds = λ n le. of_no_row n h }
  rows-add m h (is ∷ rows) c e =
      let a = plus-left (plus (Some 1) (cost (tree cut m u h is))) (slice_cost (λ is. tree cut m u h is) rows) c e in
      let b = plus-right (plus (Some 1) (cost (tree cut m u h is))) (slice_cost (λ is. tree cut m u h is) rows) c e in
      let d = plus-right (Some 1) (cost (tree cut m u h is)) a.0 a.1 in
      let costs = (plain-costs cut u h is d.0 is-cut).1 (m, d.1) in
      let own = sums-defined u w h is d.0 costs.0 orderly costs.1 in
      let more = rows-add m h rows b.0 b.1 in
      record {
        sum = own.1 + more.sum;
        far = own.0 + more.far;
        adds = λ n le. of_row n h is rows own.1 more.sum (sum-stable u w h is own.1 own.0 n (omega (arith, le)) own.2) (more.adds n (omega (arith, le)));
      }

  -- what all slices of a step add
  module _ (g : ℕ) (ins : List Carried) (l k : ℕ) (form : Form) (ks : List Carried) (x : IsWhole u g ins l form ks) (m h : ℕ) (row : List Carried) (rows : List (List Carried)) (ms : List Carried) (came : Comes u form ks k (Iterate h row rows ms)) (adds : Item → ℕ) where
    record SlicesSum (parts : List (List (List Carried))) (r : ℕ) (costs : List (Option ℕ)) : Type 0 where
      sum : ℕ
      far : ℕ
      all-add : (n : ℕ) → far ≤ n → RowsAdd u w n h (flatten parts) sum
      same : total_slices (λ i o. adds i) l (suc k) r costs ≡ sum

    one-slice : (part : List (List Carried)) (r : ℕ) (c : ℕ) → slice_cost (λ is. tree cut m u h is) part ≡ Some c → slice_get (cut (row ∷ rows)) r ≡ Some part → ItemAdds cut u w g ins (Slice l (suc k) r) (adds (Slice l (suc k) r))
        → (y : RowsSum u w h part) × (adds (Slice l (suc k) r) ≡ y.sum)
    one-slice part r c e at own =
        let y = rows-add m h part c e in (
          y,
          adds-once cut u w g ins (Slice l (suc k) r) (adds (Slice l (suc k) r)) y.sum own
              (record { form = form; operands = ks; whole = x; graph = h; row = row; rows = rows; multiples = ms; comes = came; part = part; at = at; depth = y.far; adds = y.adds y.far (omega arith) }),
        )

    given-here : (o : Option ℕ) (cs : List (Option ℕ)) → all_given (o ∷ cs) → ((c : ℕ) × (o ≡ Some c)) × all_given cs
    given-here None cs h = absurd h
    given-here (Some c) cs h = ((c, refl), h)

    -- the slices from the r-th on
    slices-sum : (parts : List (List (List Carried))) (r : ℕ) → ((q : ℕ) → slice_get (cut (row ∷ rows)) (r + q) ≡ slice_get parts q) → all_given (map (slice_cost (λ is. tree cut m u h is)) parts)
        → ((i : Item) (o : Option ℕ) → IsSlice l (suc k) r (map (slice_cost (λ is. tree cut m u h is)) parts) i o → ItemAdds cut u w g ins i (adds i))
        → SlicesSum parts r (map (slice_cost (λ is. tree cut m u h is)) parts)
    slices-sum [] r at given own = record { sum = 0; far = 0; all-add = λ n le. of_no_row n h; same = refl }
    slices-sum (part ∷ parts) r at given own =
        let known = given-here (slice_cost (λ is. tree cut m u h is) part) (map (slice_cost (λ is. tree cut m u h is)) parts) given in
        let here-at : slice_get (cut (row ∷ rows)) r ≡ Some part = ap (slice_get (cut (row ∷ rows))) (plus-none r) ∙ at 0 in
        let a = one-slice part r known.0.0 known.0.1 here-at (own (Slice l (suc k) r) (slice_cost (λ is. tree cut m u h is) part) (inl (refl, refl))) in
        let b = slices-sum parts (suc r) (λ q. ap (slice_get (cut (row ∷ rows))) (shift r q) ∙ at (suc q)) known.1 (λ i o y. own i o (inr y)) in
        let y = a.0 in
        let z = a.1 in
        let t = b.same in
        record {
          sum = y.sum + b.sum;
          far = y.far + b.far;
          all-add = λ n le. rows-join u w n h part (flatten parts) y.sum b.sum (y.adds n (omega (arith, le))) (b.all-add n (omega (arith, le)));
          same = omega (arith, z, t);
        }
      where
        plus-none : (r : ℕ) → r ≡ r + 0
        plus-none r = omega arith

        shift : (r q : ℕ) → suc r + q ≡ r + suc q
        shift r q = omega arith

  -- ---- the steps of a node, and the nodes of a graph

  -- from here on the node adds so much, with its leaving
  record LaterSum (g : ℕ) (v : Vertex) (form : Form) (ks : List Carried) (next : Next) (rs : List Carried) (l k : ℕ) (p : Steps) (adds : Item → ℕ) : Type 0 where
    sum : ℕ
    far : ℕ
    later-add : (n : ℕ) → far ≤ n → LaterAdds u w n form ks next sum
    same : total_steps p l k (λ i o. adds i) ≡ sum + w.of_node g v ks rs

  record NodesSum (g : ℕ) (ins : List Carried) (vs : List Vertex) (f : Entered) (adds : Item → ℕ) : Type 0 where
    sum : ℕ
    far : ℕ
    nodes-add : (n : ℕ) → far ≤ n → NodesAdd u w n g ins vs sum
    same : total f (λ i o. adds i) ≡ sum

  abbrev Graphs : ℕ → Type 0
  Graphs m = (g : ℕ) (ins : List Carried) (adds : Item → ℕ) → IsGiven (tree cut m u g ins) → ((i : Item) (o : Option ℕ) → Has (tree cut m u g ins) i o → ItemAdds cut u w g ins i (adds i)) → NodesSum g ins (u g).nodes (tree cut m u g ins) adds

  abbrev Laters : ℕ → Type 0
  Laters m = (g : ℕ) (ins : List Carried) (l : ℕ) (form : Form) (ks : List Carried) (x : IsWhole u g ins l form ks) (k : ℕ) (next : Next) (rs : List Carried) (adds : Item → ℕ) → Comes u form ks k next → AreWhole (tree_from cut m u form ks next) → leads_to m u form ks next ≡ Some rs
      → ((i : Item) (o : Option ℕ) → StepsHave l (suc k) (tree_from cut m u form ks next) i o → ItemAdds cut u w g ins i (adds i))
      → LaterSum g x.node form ks next rs l (suc k) (tree_from cut m u form ks next) adds

  deeper-adds : (form : Form) (ks : List Carried) (t : Bool) (h : ℕ) (is : List Carried) (stage : Stage) (ms : List Carried) (c d far : ℕ)
      → ((n : ℕ) → far ≤ n → CarryAll u n h is (u h).results ms × GraphAdds u w n h is c × LaterAdds u w n form ks (follow form ks stage ms) d)
      → (b : Bool) → is_deeper form t ≡ b → (n : ℕ) → suc far ≤ n → LaterAdds u w n form ks (Enter t h is stage) (c + d)
  deeper-adds form ks t h is stage ms c d far a false e n le = let x = a n (omega (arith, le)) in of_graph n form ks t h is stage ms c d e x.0 x.1 x.2
  deeper-adds form ks t h is stage ms c d far a true e zero le = absurd (omega (arith, le))
  deeper-adds form ks t h is stage ms c d far a true e (suc n) le = let x = a n (omega (arith, le)) in of_deeper n form ks t h is stage ms c d e x.0 x.1 x.2

  module _ (m : ℕ) (graphs : Graphs m) (laters : Laters m) (g : ℕ) (ins : List Carried) (l : ℕ) (form : Form) (ks : List Carried) (x : IsWhole u g ins l form ks) (adds : Item → ℕ) where
    -- a graph that the node enters, and what follows
    record EnteredSum (k : ℕ) (t : Bool) (h : ℕ) (is : List Carried) (stage : Stage) (ms rs : List Carried) : Type 0 where
      sum : ℕ
      far : ℕ
      enter-add : (n : ℕ) → far ≤ n → LaterAdds u w n form ks (Enter t h is stage) sum
      same : w.of_results h ms + (total (tree cut m u h is) (λ i o. adds (Inside l k i)) + total_steps (tree_from cut m u form ks (follow form ks stage ms)) l (suc k) (λ i o. adds i)) ≡ sum + w.of_node g x.node ks rs

    entered : (k : ℕ) (e : Item) (t : Bool) (h : ℕ) (is : List Carried) (stage : Stage) (ms rs : List Carried) → EntersAt u form ks l k e h is → dem m u h is ≡ Some ms → Comes u form ks k (follow form ks stage ms)
        → IsGiven (tree cut m u h is) → AreWhole (tree_from cut m u form ks (follow form ks stage ms)) → leads_to m u form ks (follow form ks stage ms) ≡ Some rs
        → ((i : Item) (o : Option ℕ) → Has (tree cut m u h is) i o → ItemAdds cut u w g ins (Inside l k i) (adds (Inside l k i)))
        → ((i : Item) (o : Option ℕ) → StepsHave l (suc k) (tree_from cut m u form ks (follow form ks stage ms)) i o → ItemAdds cut u w g ins i (adds i))
        → EnteredSum k t h is stage ms rs
    entered k e t h is stage ms rs at meant came given whole led own more =
        let a = graphs h is (λ i. adds (Inside l k i)) given (λ i o y. there i (own i o y)) in
        let b = laters g ins l form ks x k (follow form ks stage ms) rs adds came whole led more in
        let s = a.same in
        let q = b.same in
        record {
          sum = w.of_results h ms + a.sum + b.sum;
          far = suc (m + (a.far + b.far));
          enter-add = deeper-adds form ks t h is stage ms (w.of_results h ms + a.sum) b.sum (m + (a.far + b.far)) (λ n le. (
            operands-stand u m n (omega (arith, le)) h is (u h).results ms meant,
            of_nodes n h is ms a.sum (operands-stand u m n (omega (arith, le)) h is (u h).results ms meant) (a.nodes-add n (omega (arith, le))),
            b.later-add n (omega (arith, le)),
          )) (is_deeper form t) refl;
          same = omega (arith, s, q);
        }
      where
        there : (i : Item) → ItemAdds cut u w g ins (Inside l k i) (adds (Inside l k i)) → ItemAdds cut u w h is i (adds (Inside l k i))
        there i y =
            let p = path-once u g ins ((l, k) ∷ []) y.graph h y.inputs is
            (inside l k y.entry [] g ins y.form y.operands y.graph y.inputs here y.whole y.enters)
            (inside l k e [] g ins form ks h is here x at) in
            subst (λ z. ItemAdds cut u w h z i (adds (Inside l k i))) p.1 (subst (λ z. ItemAdds cut u w z y.inputs i (adds (Inside l k i))) p.0 y.adds)

    leave-adds : (k : ℕ) (rs : List Carried) → Comes u form ks k (Leaves rs) → ItemAdds cut u w g ins (Leave l) (adds (Leave l)) → adds (Leave l) ≡ w.of_node g x.node ks rs
    leave-adds k rs came own = adds-once cut u w g ins (Leave l) (adds (Leave l)) (w.of_node g x.node ks rs) own (record { form = form; operands = ks; whole = x; step = k; outputs = rs; comes = came; adds = refl })

    next-sum : (k : ℕ) (next : Next) (rs : List Carried) → Comes u form ks k next → AreWhole (tree_from cut (suc m) u form ks next) → leads_to (suc m) u form ks next ≡ Some rs
        → ((i : Item) (o : Option ℕ) → StepsHave l (suc k) (tree_from cut (suc m) u form ks next) i o → ItemAdds cut u w g ins i (adds i))
        → LaterSum g x.node form ks next rs l (suc k) (tree_from cut (suc m) u form ks next) adds
    next-sum k (Leaves os) rs came whole led own =
        let e = some-same os rs led in
        let a = leave-adds k os came (own (Leave l) (Some 0) (refl, refl)) in
        let b = a ∙ ap (w.of_node g x.node ks) e in
        record { sum = 0; far = 0; later-add = λ n le. of_leaving n form ks os; same = omega (arith, b) }
    next-sum k (Enter t h is stage) rs came whole led own =
        let given = and-then-some (dem m u h is) (λ ms. leads_to m u form ks (follow form ks stage ms)) rs led in
        let ms = given.0 in
        let rest : on_results (dem m u h is) (λ ms. tree_from cut m u form ks (follow form ks stage ms)) ≡ tree_from cut m u form ks (follow form ks stage ms) = ap (λ o. on_results o (λ ms. tree_from cut m u form ks (follow form ks stage ms))) given.1 in
        let a = entered (suc k) (Entry t l (suc k)) t h is stage ms rs (at_step k t h is stage came) given.1 (enters k t h is stage ms came (m, given.1)) whole.0 (subst AreWhole rest whole.1) given.2
        (λ i o y. own (Inside l (suc k) i) o (inr (inl (i, refl, y))))
        (λ i o y. own i o (inr (inr (subst (λ q. StepsHave l (suc (suc k)) q i o) (sym rest) y)))) in
        let entry = adds-once cut u w g ins (Entry t l (suc k)) (adds (Entry t l (suc k))) (w.of_results h ms) (own (Entry t l (suc k)) (Some (entry_fires t)) (inl (refl, refl)))
        (record { form = form; operands = ks; whole = x; graph = h; inputs = is; stage = stage; comes = came; adds = record { results = ms; given = (m, given.1); adds = refl } }) in
        let after = ap (λ q. total_steps q l (suc (suc k)) (λ i o. adds i)) rest in
        let s = a.same in
        record { sum = a.sum; far = a.far; later-add = a.enter-add; same = omega (arith, entry, after, s) }
    next-sum k (Iterate h row rows ms) rs came whole led own =
        let given = and-then-some (all (map (λ is. dem m u h is) (row ∷ rows))) (λ lists. leads_to m u form ks (gather form ks ms lists)) rs led in
        let lists = given.0 in
        let rest : on_results (all (map (λ is. dem m u h is) (row ∷ rows))) (λ lists. tree_from cut m u form ks (gather form ks ms lists)) ≡ tree_from cut m u form ks (gather form ks ms lists) = ap (λ o. on_results o (λ lists. tree_from cut m u form ks (gather form ks ms lists))) given.1 in
        let a = slices-sum g ins l k form ks x m h row rows ms came adds (cut (row ∷ rows)) 0 (λ q. ap (slice_get (cut (row ∷ rows))) (from-none q)) whole.0 (λ i o y. own i o (inl y)) in
        let b = laters g ins l form ks x (suc k) (gather form ks ms lists) rs adds (iterates k h row rows ms lists came (m, given.1)) (subst AreWhole rest whole.1) given.2
        (λ i o y. own i o (inr (subst (λ q. StepsHave l (suc (suc k)) q i o) (sym rest) y))) in
        let after = ap (λ q. total_steps q l (suc (suc k)) (λ i o. adds i)) rest in
        let s = a.same in
        let q = b.same in
        record {
          sum = a.sum + b.sum;
          far = m + (a.far + b.far);
          later-add = λ n le. of_iterations n form ks h row rows ms lists a.sum b.sum (rows-stand u m n (omega (arith, le)) h (row ∷ rows) lists given.1)
              (subst (λ z. RowsAdd u w n h z a.sum) (is-cut.joins (row ∷ rows)) (a.all-add n (omega (arith, le)))) (b.later-add n (omega (arith, le)));
          same = omega (arith, after, s, q);
        }

  -- ---- a node of a graph

  -- the outputs of a node, its own item and all behind it: apart from the nodes that follow
  record NodeSum (g : ℕ) (v : Vertex) (k : Kind) (ks rs : List Carried) (f rest : Entered) (adds : Item → ℕ) : Type 0 where
    sum : ℕ
    far : ℕ
    inner-add : (n : ℕ) → far ≤ n → InnerAdds u w n k ks sum
    whole : IsGiven rest
    others : (i : Item) (o : Option ℕ) → Has rest i o → Has f i o
    same : total f (λ i o. adds i) ≡ w.of_node g v ks rs + (sum + total rest (λ i o. adds i))

  -- how a compound node begins, at a depth
  abbrev Begun : ℕ → Type 0
  Begun m = (g : ℕ) (ins : List Carried) (v : Vertex) (form : Form) (ks rs : List Carried) (rest : Entered) (adds : Item → ℕ) → at_label (u g).nodes v.label ≡ Some v → v.kind ≡ Whole form → Operands u g ins v ks
      → leads_to m u form ks (next_of (first form ks)) ≡ Some rs
      → IsGiven (compound v (tree_from cut m u form ks (next_of (first form ks))) rest)
      → ((i : Item) (o : Option ℕ) → Has (compound v (tree_from cut m u form ks (next_of (first form ks))) rest) i o → ItemAdds cut u w g ins i (adds i))
      → NodeSum g v (Whole form) ks rs (compound v (tree_from cut m u form ks (next_of (first form ks))) rest) rest adds

  begun-zero : Begun 0
  begun-zero g ins v form ks rs rest adds at kind given led whole own = absurd (none led)
    where
      none : {A : Type 0} {a : A} → None ≡ Some a → ⊥
      none e = cc

  -- what the own item of a compound node adds
  pub whole-own : (g : ℕ) (ins : List Carried) (v : Vertex) (form : Form) (ks : List Carried) → at_label (u g).nodes v.label ≡ Some v → v.kind ≡ Whole form → Operands u g ins v ks → (f : First) → first form ks ≡ f → (c : ℕ) → FirstAdds cut u w f c → ItemAdds cut u w g ins (Node v.label) c
  whole-own g ins v form ks at kind given f e c adds =
      record { node = v; found = at; adds = subst (λ z. KindAdds cut u w g ins v z c) (sym kind) (record { operands = ks; given = given; adds = subst (λ z. FirstAdds cut u w z c) (sym e) adds }) }

  first-whole : (form : Form) (ks : List Carried) (f : First) (n c : ℕ) → first form ks ≡ f → LaterAdds u w n form ks (next_of f) c → InnerAdds u w n (Whole form) ks c
  first-whole form ks f n c e a = of_whole n form ks c (subst (λ z. LaterAdds u w n form ks (next_of z) c) (sym e) a)

  module _ (m : ℕ) (graphs : Graphs m) (laters : Laters m) (g : ℕ) (ins : List Carried) (v : Vertex) (form : Form) (ks rs : List Carried) (rest : Entered) (adds : Item → ℕ) (at : at_label (u g).nodes v.label ≡ Some v) (kind : v.kind ≡ Whole form) (given : Operands u g ins v ks) where
    abbrev this : IsWhole u g ins v.label form ks
    this = record { node = v; found = at; kind = kind; given = given }

    begun-by : (f : First) → first form ks ≡ f → leads_to (suc m) u form ks (next_of f) ≡ Some rs
        → IsGiven (compound v (tree_from cut (suc m) u form ks (next_of f)) rest)
        → ((i : Item) (o : Option ℕ) → Has (compound v (tree_from cut (suc m) u form ks (next_of f)) rest) i o → ItemAdds cut u w g ins i (adds i))
        → NodeSum g v (Whole form) ks rs (compound v (tree_from cut (suc m) u form ks (next_of f)) rest) rest adds
    begun-by (Skips os) e led whole own =
        let q = some-same os rs led in
        let entry = adds-once cut u w g ins (Node v.label) (adds (Node v.label)) 0 (own (Node v.label) (Some 1) (inl (refl, refl))) (whole-own g ins v form ks at kind given (Skips os) e 0 refl) in
        let left = leave-adds m graphs laters g ins v.label form ks this adds 0 os (skips os e) (own (Leave v.label) (Some 0) (inr (inr (inl (refl, refl))))) in
        let out = left ∙ ap (w.of_node g v ks) q in
        record {
          sum = 0;
          far = 0;
          inner-add = λ n le. first-whole form ks (Skips os) n 0 e (of_leaving n form ks os);
          whole = whole.2;
          others = λ i o y. inr (inr (inr y));
          same = omega (arith, entry, out);
        }
    begun-by (Begins h is stage) e led whole own =
        let found = and-then-some (dem m u h is) (λ ms. leads_to m u form ks (follow form ks stage ms)) rs led in
        let ms = found.0 in
        let tail : on_results (dem m u h is) (λ ms. tree_from cut m u form ks (follow form ks stage ms)) ≡ tree_from cut m u form ks (follow form ks stage ms) = ap (λ o. on_results o (λ ms. tree_from cut m u form ks (follow form ks stage ms))) found.1 in
        let a = entered m graphs laters g ins v.label form ks this adds 0 (Node v.label) false h is stage ms rs (at_first h is stage e) found.1 (begins h is stage ms e (m, found.1)) whole.0 (subst AreWhole tail whole.1) found.2
        (λ i o y. own (Inside v.label 0 i) o (inr (inl (i, refl, y))))
        (λ i o y. own i o (inr (inr (inl (subst (λ q. StepsHave v.label 1 q i o) (sym tail) y))))) in
        let entry = adds-once cut u w g ins (Node v.label) (adds (Node v.label)) (w.of_results h ms) (own (Node v.label) (Some 1) (inl (refl, refl)))
        (whole-own g ins v form ks at kind given (Begins h is stage) e (w.of_results h ms) (record { results = ms; given = (m, found.1); adds = refl })) in
        let after = ap (λ q. total_steps q v.label 1 (λ i o. adds i)) tail in
        let s = a.same in
        record {
          sum = a.sum;
          far = a.far;
          inner-add = λ n le. first-whole form ks (Begins h is stage) n a.sum e (a.enter-add n le);
          whole = whole.2;
          others = λ i o y. inr (inr (inr y));
          same = omega (arith, entry, after, s);
        }

  begun-next : (m : ℕ) → Graphs m → Laters m → Begun (suc m)
  begun-next m graphs laters g ins v form ks rs rest adds at kind given led whole own =
      begun-by m graphs laters g ins v form ks rs rest adds at kind given (first form ks) refl led whole own

  -- ---- all nodes of a graph

  module _ (ready : AreRanked u) (m : ℕ) (begun : Begun m) (g : ℕ) (ins : List Carried) (adds : Item → ℕ) where
    abbrev known : Vertex → Option (List Carried)
    known v = operands (of_node (leads_to m u)) (u g) ins v.ins

    one-node : (v : Vertex) (k : Kind) (ks rs : List Carried) (rest : Entered) → v.kind ≡ k → at_label (u g).nodes v.label ≡ Some v → known v ≡ Some ks → of_kind (leads_to m u) k ks ≡ Some rs
        → IsGiven (node_tree (tree_from cut m u) v k (Some ks) rest)
        → ((i : Item) (o : Option ℕ) → Has (node_tree (tree_from cut m u) v k (Some ks) rest) i o → ItemAdds cut u w g ins i (adds i))
        → NodeSum g v k ks rs (node_tree (tree_from cut m u) v k (Some ks) rest) rest adds
    one-node v (Plain row shape) ks rs rest kind at given led whole own =
        let q = some-same (op row shape ks) rs led in
        let entry = adds-once cut u w g ins (Node v.label) (adds (Node v.label)) (w.of_node g v ks (op row shape ks)) (own (Node v.label) (Some 1) (inl (refl, refl)))
        (record { node = v; found = at; adds = subst (λ z. KindAdds cut u w g ins v z (w.of_node g v ks (op row shape ks))) (sym kind) (record { operands = ks; depth = m; carried = operands-stand u m m (omega arith) g ins v.ins ks given; adds = refl }) }) in
        let out = entry ∙ ap (w.of_node g v ks) q in
        record { sum = 0; far = 0; inner-add = λ n le. of_simple n row shape ks; whole = whole; others = λ i o y. inr y; same = omega (arith, out) }
    one-node v (Whole form) ks rs rest kind at given led whole own = begun g ins v form ks rs rest adds at kind (m, given) led whole own

    abbrev IsKnown : Vertex → Type 0
    IsKnown v = Facts cut u m (u g) (ready g) ins v × Full cut u m (u g) (ready g) ins v

    nodes-sum : (vs : List Vertex) → EachNode IsKnown vs → IsGiven (nodes_tree (tree_from cut m u) known vs)
        → ((i : Item) (o : Option ℕ) → Has (nodes_tree (tree_from cut m u) known vs) i o → ItemAdds cut u w g ins i (adds i))
        → NodesSum g ins vs (nodes_tree (tree_from cut m u) known vs) adds
    nodes-sum [] each whole own = record { sum = 0; far = 0; nodes-add = λ n le. no_node n g ins; same = refl }
    nodes-sum (v ∷ vs) each whole own =
        let full = each.0.1 in
        let ks = full.0 in
        let rs = full.1 in
        let rest = nodes_tree (tree_from cut m u) known vs in
        let e = full.2 in
        let a = one-node v v.kind ks rs rest refl each.0.0.0 e full.3
        (subst (λ o. IsGiven (node_tree (tree_from cut m u) v v.kind o rest)) e whole)
        (λ i o y. own i o (subst (λ z. Has (node_tree (tree_from cut m u) v v.kind z rest) i o) (sym e) y)) in
        let b = nodes-sum vs each.1 a.whole (λ i o y. own i o (subst (λ z. Has (node_tree (tree_from cut m u) v v.kind z rest) i o) (sym e) (a.others i o y))) in
        let tree-same = ap (λ o. total (node_tree (tree_from cut m u) v v.kind o rest) (λ i o. adds i)) e in
        let s = a.same in
        let q = b.same in
        record {
          sum = w.of_node g v ks rs + (a.sum + b.sum);
          far = m + (a.far + b.far);
          nodes-add = λ n le. a_node n g ins v vs ks rs a.sum b.sum (operands-stand u m n (omega (arith, le)) g ins v.ins ks e) (node-outputs u m (leads u m) n (omega (arith, le)) v ks rs full.3)
              (a.inner-add n (omega (arith, le))) (b.nodes-add n (omega (arith, le)));
          same = omega (arith, tree-same, s, q);
        }

  module _ (ready : AreRanked u) where
    graphs-from : (m : ℕ) → Begun m → Graphs m
    graphs-from m begun g ins adds whole own =
        nodes-sum ready m begun g ins adds (u g).nodes (each-both _ _ (u g).nodes (facts cut u m (u g) (ready g) ins) (nodes-full cut u m (u g) (ready g) ins whole)) whole own

    laters-zero : Laters 0
    laters-zero g ins l form ks x k next rs adds came whole led own = absurd whole

    record Level (m : ℕ) : Type 0 where
      graphs : Graphs m
      laters : Laters m

    level : (m : ℕ) → Level m
    level zero = record { graphs = graphs-from 0 begun-zero; laters = laters-zero }
    level (suc m) =
        let x = level m in
        record {
          graphs = graphs-from (suc m) (begun-next m x.graphs x.laters);
          laters = λ g ins l form ks y k next rs adds came whole led own. next-sum m x.graphs x.laters g ins l form ks y adds k next rs came whole led own;
        }

pub sums-of-items : AreSumsOfItems
sums-of-items cut u w g ins rs n adds is-cut orderly whole results own =
    let a = (level cut u is-cut orderly w (ranked u orderly) n).graphs g ins adds whole own in
    let d = results.0 + a.far in
    let s = a.same in
    (d, subst (λ z. GraphAdds u w d g ins (w.of_results g rs + z)) (sym s) (of_nodes d g ins rs a.sum (operands-stand u results.0 d (omega arith) g ins (u g).results rs results.1) (a.nodes-add d (omega arith))))
