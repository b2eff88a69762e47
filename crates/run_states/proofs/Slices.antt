-- The firings of a slice in the trees of a run are what its iterations cost.
use Rattle.std.proofs.Common.{◌≡◌, ℕ, zero, suc, ◌+◌, ◌≤◌, true, false, List, [], ◌∷◌, map, slice_get, Option, Some, inl, inr, refl, sym, ap, ◌∙◌, subst, arith}
use Rattle.graph_meaning.specs.Carried.{Carried}
use Rattle.graph_meaning.specs.Entered.{Item, Slice, Inside, IsSlice, plus, cost}
use Rattle.graph_meaning.specs.Histories.{OwnFirings, is_slice}
use Rattle.graph_meaning.specs.Forms.{Form, Iterate}
use Rattle.graph_meaning.specs.Demand.{Whole, Vertex, Network, Cut, IsCut, at_label, slice_cost, graph_tree, tree_from, tree, of_node, leads_to}
use Rattle.graph_meaning.proofs.Depths.{plus-left, plus-right, cost-below, tree-grows}
use Rattle.graph_meaning.specs.Plain.{RowsFire, of_no_row, of_row}
use Rattle.graph_meaning.proofs.PlainCosts.{plain-costs}
use Rattle.graph_meaning.proofs.PlainFires.{plain-cost-stable}
use Rattle.graph_meaning.proofs.Ranks.{AreRanked}
use Rattle.run_states.specs.Phases.{Operands, Comes}
use Rattle.run_states.proofs.Nodes.{node-has}
use Rattle.run_states.specs.Paths.{IsWhole}
use Rattle.run_states.proofs.Lookups.{some-same}
use Rattle.run_states.proofs.Phases.{Phase, phase, own, node-at}
use Rattle.run_states.proofs.Found.{Found, of_graph, of_slice, of_inner, found}
use Rattle.run_states.proofs.Paths.{whole-once, iterate-same, comes-once}

-- these iterations of a graph cost so many firings: 1 for each, and those of the graph
pub data RowsCost (cut : Cut) (u : Network) (g : ℕ) : List (List Carried) → ℕ → Type 0 where
  no_row : RowsCost cut u g [] 0
  a_row : {row : List Carried} {rows : List (List Carried)} {c d : ℕ} → ((n : ℕ) × (cost (tree cut n u g row) ≡ Some c)) → RowsCost cut u g rows d → RowsCost cut u g (row ∷ rows) (1 + c + d)

module _ (cut : Cut) (u : Network) (g : ℕ) where
  -- what iterations cost, every great depth gives
  rows-up : (rows : List (List Carried)) (n : ℕ) → RowsCost cut u g rows n → (m : ℕ) × ((k : ℕ) → m ≤ k → slice_cost (λ ins. tree cut k u g ins) rows ≡ Some n)
  rows-up _ _ no_row = (0, λ k le. refl)
  rows-up _ _ (a_row {row = row} {rows = rows} {c = c} {d = d} a r) =
      let x = rows-up rows d r in
      let m = a.0 + x.0 in (
        m,
        λ k le.
            let one = cost-below (tree cut a.0 u g row) (tree cut k u g row) (tree-grows cut a.0 k (omega (arith, le)) u g row) c a.1 in
            let more = x.1 k (omega (arith, le)) in
            ap (λ o. plus (plus (Some 1) o) (slice_cost (λ ins. tree cut k u g ins) rows)) one ∙ ap (plus (Some (1 + c))) more,
      )

  -- and what one depth gives is the cost
  rows-down : (k : ℕ) (rows : List (List Carried)) (n : ℕ) → slice_cost (λ ins. tree cut k u g ins) rows ≡ Some n → RowsCost cut u g rows n
  rows-down k [] n e = subst (RowsCost cut u g []) (some-same 0 n e) no_row
  rows-down k (row ∷ rows) n e =
      let a = plus-left (plus (Some 1) (cost (tree cut k u g row))) (slice_cost (λ ins. tree cut k u g ins) rows) n e in
      let b = plus-right (plus (Some 1) (cost (tree cut k u g row))) (slice_cost (λ ins. tree cut k u g ins) rows) n e in
      let c = plus-right (Some 1) (cost (tree cut k u g row)) a.0 a.1 in
      let total : Some (1 + c.0 + b.0) ≡ Some n = sym (ap (λ o. plus (plus (Some 1) o) (slice_cost (λ ins. tree cut k u g ins) rows)) c.1 ∙ ap (plus (Some (1 + c.0))) b.1) ∙ e in
      subst (RowsCost cut u g (row ∷ rows)) (some-same (1 + c.0 + b.0) n total) (a_row (k, c.1) (rows-down k rows b.0 b.1))

-- ---- the firings of iterations by the definition of record

fires-on : (u : Network) (n g : ℕ) (rows : List (List Carried)) (c : ℕ) → RowsFire u n g rows c → (m : ℕ) → n ≤ m → RowsFire u m g rows c
fires-on u _ _ _ _ (of_no_row n g) m le = of_no_row m g
fires-on u _ _ _ _ (of_row n g ins rows c d a b) m le = of_row m g ins rows c d (plain-cost-stable u g ins c n m le a) (fires-on u n g rows d b m le)

pub rows-fire : (cut : Cut) → IsCut cut → (u : Network) (g : ℕ) (rows : List (List Carried)) (n : ℕ) → RowsCost cut u g rows n → (d : ℕ) × RowsFire u d g rows n
rows-fire cut is-cut u g _ _ no_row = (0, of_no_row 0 g)
rows-fire cut is-cut u g _ _ (a_row {row = row} {rows = rows} {c = c} {d = d} a r) =
    let one = (plain-costs cut u g row c is-cut).1 a in
    let more = rows-fire cut is-cut u g rows d r in
    let m = one.0 + more.0 in
    let e : 1 + (c + d) ≡ 1 + c + d = omega arith in
    (m, subst (RowsFire u m g (row ∷ rows)) e (of_row m g row rows c d (plain-cost-stable u g row c one.0 m (omega arith) one.1) (fires-on u more.0 g rows d more.1 m (omega arith))))

pub fire-rows : (cut : Cut) → IsCut cut → (u : Network) (d g : ℕ) (rows : List (List Carried)) (n : ℕ) → RowsFire u d g rows n → RowsCost cut u g rows n
fire-rows cut is-cut u _ _ _ _ (of_no_row n g) = no_row
fire-rows cut is-cut u _ _ _ _ (of_row n g ins rows c d a b) =
    let e : 1 + c + d ≡ 1 + (c + d) = omega arith in
    subst (RowsCost cut u g (ins ∷ rows)) e (a_row ((plain-costs cut u g ins c is-cut).0 (n, a)) (fire-rows cut is-cut u n g rows d b))

mapped : {A B : Type 0} (f : A → B) (xs : List A) (r : ℕ) (x : A) → slice_get xs r ≡ Some x → slice_get (map f xs) r ≡ Some (f x)
mapped f [] r x e = absurd cc
mapped f (y ∷ xs) zero x e = ap (λ z. Some (f z)) (some-same y x e)
mapped f (y ∷ xs) (suc r) x e = mapped f xs r x e

slice-there : (l k r s : ℕ) (cs : List (Option ℕ)) (w : Option ℕ) (q : ℕ) → q ≡ s + r → slice_get cs r ≡ Some w → IsSlice l k s cs (Slice l k q) w
slice-there l k r s [] w q e g = absurd cc
slice-there l k zero s (c ∷ cs) w q e g = inl (ap (Slice l k) (omega (arith, e)), sym (some-same c w g))
slice-there l k (suc r) s (c ∷ cs) w q e g = inr (slice-there l k r (suc s) cs w q (omega (arith, e)) g)

module _ (cut : Cut) (u : Network) (is-cut : IsCut cut) (ready : AreRanked u) (g : ℕ) (ins : List Carried) (v : Vertex) (l : ℕ) (at-l : at_label (u g).nodes l ≡ Some v) (form : Form) (ks : List Carried) (is-whole : v.kind ≡ Whole form) (given : Operands u g ins v ks) where
  -- a slice whose iterations cost so much has so many firings of its own
  pub slice-firings : (k h : ℕ) (row : List Carried) (rows : List (List Carried)) (ms : List Carried) → Comes u form ks k (Iterate h row rows ms) → (r : ℕ) (part : List (List Carried)) → slice_get (cut (row ∷ rows)) r ≡ Some part → (n : ℕ) → RowsCost cut u h part n → OwnFirings (λ n. tree cut n u g ins) (Slice l (suc k) r) n
  slice-firings k h row rows ms c r part at n costs = by (phase cut u is-cut ready g ins v l at-l form ks is-whole given k (Iterate h row rows ms) c)
    where
      by : Phase cut u is-cut ready g ins v l at-l form ks k (Iterate h row rows ms) → OwnFirings (λ n. tree cut n u g ins) (Slice l (suc k) r) n
      by p =
          let x = rows-up cut u h part n costs in
          let m = p.far + x.0 in
          let f : List (List Carried) → Option ℕ = slice_cost (λ is. graph_tree (tree_from cut m u) (of_node (leads_to m u)) is (u h)) in
          let there = slice-there l (suc k) r 0 (map f (cut (row ∷ rows))) (Some n) r (omega arith) (mapped f (cut (row ∷ rows)) r part at ∙ ap Some (x.1 m (omega arith))) in
          let fb = p.followed (suc m) (omega arith) in
          (p.at (suc m), node-has (tree cut (p.at (suc m)) u g ins) l (own cut u is-cut ready g ins v l at-l (p.at (suc m))) (node-at cut u is-cut ready g ins v l at-l (p.at (suc m))) (Slice l (suc k) r) (Some n) (fb.out (Slice l (suc k) r) (Some n) (inl there)))

  -- and the firings of its own that it has are what they cost
  pub firings-cost : (k h : ℕ) (row : List Carried) (rows : List (List Carried)) (ms : List Carried) → Comes u form ks k (Iterate h row rows ms) → (r : ℕ) (part : List (List Carried)) → slice_get (cut (row ∷ rows)) r ≡ Some part → (n : ℕ) → OwnFirings (λ n. tree cut n u g ins) (Slice l (suc k) r) n → RowsCost cut u h part n
  firings-cost k h row rows ms c r part at n x = go (Slice l (suc k) r) (Some n) (found cut u ready g ins x.0 (Slice l (suc k) r) (Some n) x.1) refl refl
    where
      own-node : IsWhole u g ins l form ks
      own-node = record { node = v; found = at-l; kind = is-whole; given = given }

      same-slice : (l k r a b d : ℕ) → Slice l (suc k) r ≡ Slice a (suc b) d → (l ≡ a) × (k ≡ b) × (r ≡ d)
      same-slice l k r a b d e = (cc, cc, cc)

      by-slice : (form' : Form) (ks' : List Carried) (h' : ℕ) (row' : List Carried) (rows' : List (List Carried)) (ms' : List Carried) (part' : List (List Carried)) (m : ℕ)
          → IsWhole u g ins l form' ks' → Comes u form' ks' k (Iterate h' row' rows' ms') → slice_get (cut (row' ∷ rows')) r ≡ Some part' → slice_cost (λ is. tree cut m u h' is) part' ≡ Some n → RowsCost cut u h part n
      by-slice form' ks' h' row' rows' ms' part' m w c' at' costs =
          let one = whole-once u g ins l form' form ks' ks w own-node in
          let came = subst (λ z. Comes u form z k (Iterate h' row' rows' ms')) one.1 (subst (λ z. Comes u z ks' k (Iterate h' row' rows' ms')) one.0 c') in
          let same = iterate-same h' h row' row rows' rows ms' ms (comes-once u form ks k (Iterate h' row' rows' ms') (Iterate h row rows ms) came c) in
          let parts : part' ≡ part = some-same part' part (sym at' ∙ (ap (λ z. slice_get (cut z) r) same.1 ∙ at)) in
          subst (λ z. RowsCost cut u h z n) parts (subst (λ z. RowsCost cut u z part' n) same.0 (rows-down cut u h' m part' n costs))

      go : (z : Item) (w : Option ℕ) → Found cut u g ins z w → z ≡ Slice l (suc k) r → w ≡ Some n → RowsCost cut u h part n
      go _ _ (of_graph z w x) e q = absurd (clash (sym x.0 ∙ ap is_slice e))
        where
          clash : false ≡ true → ⊥
          clash e = cc
      go _ _ (of_slice l' k' r' form' ks' h' row' rows' ms' part' m w c' at') e q =
          let s = same-slice l' k' r' l k r e in
          by-slice form' ks' h' row' rows' ms' part' m (subst (λ z. IsWhole u g ins z form' ks') s.0 w) (subst (λ z. Comes u form' ks' z (Iterate h' row' rows' ms')) s.1 c') (subst (λ z. slice_get (cut (row' ∷ rows')) z ≡ Some part') s.2 at') q
      go _ _ (of_inner n' m' z form' ks' j js d y w a b x) e q = absurd (clash e)
        where
          clash : Inside n' m' y ≡ Slice l (suc k) r → ⊥
          clash e = cc
