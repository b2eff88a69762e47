-- The edges into a node of a translated unit are those of its block, and what fills its ports is what the lowered node says.
use Rattle.std.proofs.Common.{◌≡◌, ℕ, zero, suc, ◌+◌, ◌<◌, ◌≤◌, inl, inr, Bool, true, false, cond, ◌&&◌, List, [], ◌∷◌, ◌++◌, map, length, slice_get, Option, Some, None, refl, sym, ap, subst, ◌∙◌, arith}
use Rattle.std.specs.Prelude.{◌==◌, find, filter}
use Rattle.std.proofs.lemmas.Bool.Decides.{eqb_tells}
use Rattle.if1_graph.specs.declared.graph.Edge.{Edge}
use Rattle.if1_graph.specs.declared.graph.Origin.{Origin}
use Rattle.if1_graph.specs.declared.graph.Origin.TheVariants as origin
use Rattle.if1_graph.specs.declared.graph.Unit1.{Unit1}
use Rattle.if1_graph.specs.declared.row.Want.{Want}
use Rattle.if1_graph.specs.Units.{greatest}
use Rattle.if1_graph.specs.Ports.{count_from}
use Rattle.graph_meaning.specs.Demand.{Source, Fixed}
use Rattle.graph_meaning.specs.Networks.{source_by}
use Rattle.typed_tree.specs.declared.program.Program.{Program}
use Rattle.lowering.specs.declared.feed.Feed.{Feed}
use Rattle.lowering.specs.declared.feed.Feed.TheVariants.{Literal, Named, Absent, Port}
use Rattle.lowering.specs.declared.feed.Carried.{Carried}
use Rattle.lowering.specs.declared.feed.Carried.TheVariants.{One, Many, Callee}
use Rattle.lowering.specs.declared.feed.Wire.{Wire}
use Rattle.lowering.specs.declared.graph.Action.{Action}
use Rattle.lowering.specs.declared.graph.Action.TheVariants.{Row, Call, Whole}
use Rattle.lowering.specs.declared.graph.LoweredNode.{LoweredNode}
use Rattle.lowering.specs.Types.{table, label_of}
use Rattle.lowered_units.specs.Networks.{source_of, sources_of}
use Rattle.lowered_units.specs.Units.{constant_text, origin_of, edge, edge_if, edges_into, node_edges, edges_of, entries_from}
use Rattle.lowered_units.proofs.Built.{IsGap, IsGoodFeed, AreFilled}
use Rattle.lowered_units.proofs.Literals.{IsValueWant, literal-value}

abbrev pub to_node : ℕ → Edge → Bool
to_node l e = e.node == l

abbrev pub to_port : ℕ → Edge → Bool
to_port port e = e.port == port

filter-both : (f : Edge → Bool) (xs ys : List Edge) → filter f (xs ++ ys) ≡ filter f xs ++ filter f ys
filter-both f [] ys = refl
filter-both f (x ∷ xs) ys = ap (λ l. cond (f x) (x ∷ l) l) (filter-both f xs ys) ∙ by (f x)
  where
    by : (b : Bool) → cond b (x ∷ (filter f xs ++ filter f ys)) (filter f xs ++ filter f ys) ≡ cond b (x ∷ filter f xs) (filter f xs) ++ filter f ys
    by true = refl
    by false = refl

-- the edge into a port of a node, by the edges into the node
pub find-filtered : (l port : ℕ) (es : List Edge) → find (λ e. (e.node == l) && (e.port == port)) es ≡ find (to_port port) (filter (to_node l) es)
find-filtered l port [] = refl
find-filtered l port (e ∷ es) = ap (λ o. cond ((e.node == l) && (e.port == port)) (Some e) o) (find-filtered l port es) ∙ by (e.node == l)
  where
    by : (b : Bool) → cond (b && (e.port == port)) (Some e) (find (to_port port) (filter (to_node l) es)) ≡ find (to_port port) (cond b (e ∷ filter (to_node l) es) (filter (to_node l) es))
    by true = refl
    by false = refl

-- all into one node
abbrev AreInto : ℕ → List Edge → Type 0
AreInto n [] = Unit {0}
AreInto n (e ∷ es) = (e.node ≡ n) × AreInto n es

into-both : (n : ℕ) (xs ys : List Edge) → AreInto n xs → AreInto n ys → AreInto n (xs ++ ys)
into-both n [] ys a b = b
into-both n (x ∷ xs) ys a b = (a.0, into-both n xs ys a.1 b)

filter-same : (n : ℕ) (es : List Edge) → AreInto n es → filter (to_node n) es ≡ es
filter-same n [] h = refl
filter-same n (e ∷ es) h =
    elim (eqb_tells e.node n) [
      | inl t ↦ ap (λ b. cond b (e ∷ filter (to_node n) es) (filter (to_node n) es)) t.0 ∙ ap (λ l. e ∷ l) (filter-same n es h.1)
      | inr f ↦ absurd (f.1 h.0)
    ]

filter-other : (n l : ℕ) (es : List Edge) → AreInto n es → (n ≡ l → ⊥) → filter (to_node l) es ≡ []
filter-other n l [] h d = refl
filter-other n l (e ∷ es) h d =
    elim (eqb_tells e.node l) [
      | inl t ↦ absurd (d (sym h.0 ∙ t.1))
      | inr f ↦ ap (λ b. cond b (e ∷ filter (to_node l) es) (filter (to_node l) es)) f.0 ∙ filter-other n l es h.1 d
    ]

module _ (p : Program) where
  block-into : (node port : ℕ) (ws : List Wire) → AreInto node (edges_into p node port ws)
  block-into node port [] = tt
  block-into node port (w ∷ ws) = into-both node (edge_if node port (label_of p w.ty) (origin_of w.feed)) (edges_into p node (suc port) ws) (one (origin_of w.feed)) (block-into node (suc port) ws)
    where
      one : (o : Option Origin) → AreInto node (edge_if node port (label_of p w.ty) o)
      one None = tt
      one (Some o) = (refl, tt)

  node-into : (label : ℕ) (a : Action) (ws : List Wire) → AreInto label (node_edges p label a ws)
  node-into label (Row op) ws = block-into label 1 ws
  node-into label (Call f) ws = (refl, block-into label 2 ws)
  node-into label (Whole c gs arms given outs) ws = block-into label 1 ws

  -- the edges into a node
  pub edges-at : (label : ℕ) (vs : List LoweredNode) (results : List Wire) (i : ℕ) (v : LoweredNode) → 1 ≤ label → slice_get vs i ≡ Some v
      → filter (to_node (label + i)) (edges_of p label vs results) ≡ node_edges p (label + i) v.action v.ins
  edges-at label [] results i v one e = absurd cc
  edges-at label (x ∷ vs) results zero v one e =
      let n = label + 0 in
      filter-both (to_node n) (node_edges p label x.action x.ins) (edges_of p (suc label) vs results)
      ∙ (ap (λ l. l ++ filter (to_node n) (edges_of p (suc label) vs results)) (subst (λ m. filter (to_node m) (node_edges p label x.action x.ins) ≡ node_edges p m x.action x.ins) (omega arith) (filter-same label (node_edges p label x.action x.ins) (node-into label x.action x.ins)))
      ∙ (ap (λ l. node_edges p n x.action x.ins ++ l) (none-later (suc label) vs n (omega arith) (omega (arith, one)))
      ∙ (nil-right (node_edges p n x.action x.ins) ∙ ap (λ (y : LoweredNode). node_edges p n y.action y.ins) (same e))))
    where
      same : Some x ≡ Some v → x ≡ v
      same e = cc

      nil-right : (es : List Edge) → es ++ [] ≡ es
      nil-right [] = refl
      nil-right (e ∷ es) = ap (λ l. e ∷ l) (nil-right es)

      none-later : (from : ℕ) (vs : List LoweredNode) (n : ℕ) → n < from → 1 ≤ n → filter (to_node n) (edges_of p from vs results) ≡ []
      none-later from [] n h one = filter-other 0 n (edges_into p 0 1 results) (block-into 0 1 results) (λ e. omega (arith, e, one))
      none-later from (x ∷ vs) n h one =
          filter-both (to_node n) (node_edges p from x.action x.ins) (edges_of p (suc from) vs results)
          ∙ (ap (λ l. l ++ filter (to_node n) (edges_of p (suc from) vs results)) (filter-other from n (node_edges p from x.action x.ins) (node-into from x.action x.ins) (λ e. omega (arith, e, h)))
          ∙ none-later (suc from) vs n (omega (arith, h)) one)
  edges-at label (x ∷ vs) results (suc i) v one e =
      let n = label + suc i in
      filter-both (to_node n) (node_edges p label x.action x.ins) (edges_of p (suc label) vs results)
      ∙ (ap (λ l. l ++ filter (to_node n) (edges_of p (suc label) vs results)) (filter-other label n (node_edges p label x.action x.ins) (node-into label x.action x.ins) (λ e. omega (arith, e)))
      ∙ subst (λ m. filter (to_node m) (edges_of p (suc label) vs results) ≡ node_edges p m v.action v.ins) (omega arith) (edges-at (suc label) vs results i v (omega arith) e))

  -- the edges into the boundary
  pub results-at : (label : ℕ) (vs : List LoweredNode) (results : List Wire) → 1 ≤ label → filter (to_node 0) (edges_of p label vs results) ≡ edges_into p 0 1 results
  results-at label [] results one = filter-same 0 (edges_into p 0 1 results) (block-into 0 1 results)
  results-at label (x ∷ vs) results one =
      filter-both (to_node 0) (node_edges p label x.action x.ins) (edges_of p (suc label) vs results)
      ∙ (ap (λ l. l ++ filter (to_node 0) (edges_of p (suc label) vs results)) (filter-other label 0 (node_edges p label x.action x.ins) (node-into label x.action x.ins) (λ e. omega (arith, e, one)))
      ∙ results-at (suc label) vs results (omega arith))

  -- ---- ports of a block

  abbrev pub port_of : Edge → ℕ
  port_of e = e.port

  find-skips : (o : Option Origin) (node k ty j : ℕ) (es : List Edge) → k < j → find (to_port j) (edge_if node k ty o ++ es) ≡ find (to_port j) es
  find-skips None node k ty j es h = refl
  find-skips (Some o) node k ty j es h =
      elim (eqb_tells k j) [
        | inl t ↦ absurd (omega (arith, t.1, h))
        | inr f ↦ ap (λ b. cond b (Some (edge node k ty o)) (find (to_port j) es)) f.0
      ]

  find-here : (node k ty : ℕ) (o : Origin) (es : List Edge) → find (to_port k) (edge node k ty o ∷ es) ≡ Some (edge node k ty o)
  find-here node k ty o es =
      elim (eqb_tells k k) [
        | inl t ↦ ap (λ b. cond b (Some (edge node k ty o)) (find (to_port k) es)) t.0
        | inr f ↦ absurd (f.1 refl)
      ]

  find-below : (node m j : ℕ) (ws : List Wire) → j < m → find (to_port j) (edges_into p node m ws) ≡ None
  find-below node m j [] h = refl
  find-below node m j (w ∷ ws) h = skip (origin_of w.feed) ∙ find-below node (suc m) j ws (omega (arith, h))
    where
      skip : (o : Option Origin) → find (to_port j) (edge_if node m (label_of p w.ty) o ++ edges_into p node (suc m) ws) ≡ find (to_port j) (edges_into p node (suc m) ws)
      skip None = refl
      skip (Some o) =
          elim (eqb_tells m j) [
            | inl t ↦ absurd (omega (arith, t.1, h))
            | inr f ↦ ap (λ b. cond b (Some (edge node m (label_of p w.ty) o)) (find (to_port j) (edges_into p node (suc m) ws))) f.0
          ]

  pub over-ports : (f g : ℕ → Source) (k n : ℕ) → ((j : ℕ) → k ≤ j → f j ≡ g j) → map f (count_from k n) ≡ map g (count_from k n)
  over-ports f g k zero h = refl
  over-ports f g k (suc n) h = ap (λ x. x ∷ map f (count_from (suc k) n)) (h k (omega arith)) ∙ ap (λ l. g k ∷ l) (over-ports f g (suc k) n (λ j l. h j (omega (arith, l))))

  module _ (u : Unit1) (is : u.types ≡ entries_from p 1 (table p)) (functions : ℕ) where
    abbrev pub source_for : (ℕ → Option Want) → List Edge → ℕ → Source
    source_for want es port = source_by u (want port) (find (to_port port) es)

    good-source : (w : Option Want) (f : Feed) (t : Carried) (node k : ℕ) → IsValueWant w → IsGoodFeed p.types functions f t → (es : List Edge)
        → source_by u w (find (to_port k) (edge_if node k (label_of p t) (origin_of f) ++ es)) ≡ source_of f
    good-source w (Literal c) (One t) node k v h es =
        ap (source_by u w) (find-here node k (label_of p (One t)) (origin.Lit (constant_text c)) es) ∙ ap Fixed (literal-value p u is w c t v h.1)
    good-source w (Literal c) (Many t) node k v h es = absurd h
    good-source w (Literal c) (Callee f) node k v h es = absurd h
    good-source w (Named s) t node k v h es = absurd h
    good-source w Absent t node k v h es = absurd h
    good-source w (Port up n q) t node k v h es = ap (source_by u w) (find-here node k (label_of p t) (origin.Port n q) es)

    gap-source : (w : Option Want) (f : Feed) (t : Carried) (node k : ℕ) → IsGap f → (ws : List Wire) → source_by u w (find (to_port k) (edge_if node k (label_of p t) (origin_of f) ++ edges_into p node (suc k) ws)) ≡ source_of f
    gap-source w Absent t node k h ws = ap (source_by u w) (find-below node (suc k) k ws (omega arith))
    gap-source w (Literal c) t node k h ws = absurd h
    gap-source w (Named s) t node k h ws = absurd h
    gap-source w (Port up n q) t node k h ws = absurd h

    later-ports : (want : ℕ → Option Want) (w : Wire) (node k : ℕ) (es : List Edge) (n : ℕ) → map (source_for want (edge_if node k (label_of p w.ty) (origin_of w.feed) ++ es)) (count_from (suc k) n) ≡ map (source_for want es) (count_from (suc k) n)
    later-ports want w node k es n =
        over-ports (source_for want (edge_if node k (label_of p w.ty) (origin_of w.feed) ++ es)) (source_for want es) (suc k) n
        (λ j h. ap (source_by u (want j)) (find-skips (origin_of w.feed) node k (label_of p w.ty) j es (omega (arith, h))))

    pub block-sources : (want : ℕ → Option Want) (node k : ℕ) (ws : List Wire) → AreFilled p.types functions ws → ((j : ℕ) → k ≤ j → IsValueWant (want j))
        → map (source_for want (edges_into p node k ws)) (count_from k (length ws)) ≡ sources_of ws
    block-sources want node k [] h v = refl
    block-sources want node k (w ∷ []) h v = ap (λ x. x ∷ []) (good-source (want k) w.feed w.ty node k (v k (omega arith)) h [])
    block-sources want node k (w ∷ x ∷ ws) h v =
        ap (λ s. s ∷ map (source_for want (edges_into p node k (w ∷ x ∷ ws))) (count_from (suc k) (length (x ∷ ws))))
        (elim h.0 [
          | inl g ↦ good-source (want k) w.feed w.ty node k (v k (omega arith)) g (edges_into p node (suc k) (x ∷ ws))
          | inr g ↦ gap-source (want k) w.feed w.ty node k g (x ∷ ws)
        ])
        ∙ ap (λ l. source_of w.feed ∷ l) (later-ports want w node k (edges_into p node (suc k) (x ∷ ws)) (length (x ∷ ws)) ∙ block-sources want node (suc k) (x ∷ ws) h.1 (λ j l. v j (omega (arith, l))))

    -- behind an edge into port 1
    pub behind-sources : (want : ℕ → Option Want) (node ty : ℕ) (o : Origin) (ws : List Wire) → AreFilled p.types functions ws → ((j : ℕ) → 2 ≤ j → IsValueWant (want j))
        → map (source_for want (edge node 1 ty o ∷ edges_into p node 2 ws)) (count_from 2 (length ws)) ≡ sources_of ws
    behind-sources want node ty o ws h v =
        over-ports (source_for want (edge node 1 ty o ∷ edges_into p node 2 ws)) (source_for want (edges_into p node 2 ws)) 2 (length ws)
        (λ j l. ap (source_by u (want j)) (find-skips (Some o) node 1 ty j (edges_into p node 2 ws) (omega (arith, l))))
        ∙ block-sources want node 2 ws h v

  -- ---- the greatest port

  filled-width : (functions node k : ℕ) (w : Wire) (ws : List Wire) → AreFilled p.types functions (w ∷ ws) → greatest (map port_of (edges_into p node (suc k) (w ∷ ws))) ≡ k + length (w ∷ ws)
  filled-width functions node k w [] h = one w.feed h
    where
      one : (f : Feed) → IsGoodFeed p.types functions f w.ty → greatest (map port_of (edge_if node (suc k) (label_of p w.ty) (origin_of f) ++ [])) ≡ k + 1
      one (Literal c) g = omega arith
      one (Named s) g = absurd g
      one Absent g = absurd g
      one (Port up n q) g = omega arith
  filled-width functions node k w (x ∷ ws) h =
      more (origin_of w.feed) (edges_into p node (suc (suc k)) (x ∷ ws)) (filled-width functions node (suc k) x ws h.1)
    where
      more : (o : Option Origin) (es : List Edge) → greatest (map port_of es) ≡ suc k + length (x ∷ ws) → greatest (map port_of (edge_if node (suc k) (label_of p w.ty) o ++ es)) ≡ k + length (w ∷ x ∷ ws)
      more None es e = omega (arith, e)
      more (Some o) es e = omega (arith, e)

  pub block-width : (functions node : ℕ) (ws : List Wire) → AreFilled p.types functions ws → greatest (map port_of (edges_into p node 1 ws)) ≡ length ws
  block-width functions node [] h = refl
  block-width functions node (w ∷ ws) h = filled-width functions node 0 w ws h ∙ omega arith

  pub behind-width : (functions node ty : ℕ) (o : Origin) (ws : List Wire) → AreFilled p.types functions ws → greatest (map port_of (edge node 1 ty o ∷ edges_into p node 2 ws)) ≡ suc (length ws)
  behind-width functions node ty o [] h = omega arith
  behind-width functions node ty o (w ∷ ws) h = omega (arith, filled-width functions node 1 w ws h)
