-- Graphs inside of a node: what the names carry there, and that what is lowered is what the graph gives and fires.
use Rattle.std.proofs.Common.{◌≡◌, ℕ, suc, ◌+◌, ◌-◌, ◌<◌, ◌≤◌, zero, slice_get, Bool, true, false, List, [], ◌∷◌, ◌++◌, map, length, get_or, Some, inl, inr, refl, sym, ap, ◌∙◌, subst, arith, if◌then◌else◌, eq-eqb, ne_eqb}
use Rattle.flow_value.specs.declared.value.Val.{Val}
use Rattle.graph_meaning.specs.Carried.{Carried, Value, Unfilled}
use Rattle.lowering_meaning.proofs.Told.{Telling, AreInner, opened}
use Rattle.graph_meaning.specs.Demand.{Source, Fixed, Vertex, Network, at_label}
use Rattle.graph_meaning.specs.Demand as demand
use Rattle.graph_meaning.specs.Plain.{CarryAll, no_port, port, fixed, input, NodesFire}
use Rattle.graph_meaning.specs.Plain as plain
use Rattle.graph_meaning.proofs.PlainValues.{carried-once}
use Rattle.lowering.specs.declared.feed.Feed.{Feed}
use Rattle.lowering.specs.declared.feed.Feed.TheVariants.{Literal, Named, Absent, Port}
use Rattle.lowering.specs.declared.feed.Carried as wired
use Rattle.lowering.specs.declared.feed.Wire.{Wire}
use Rattle.if1_graph.specs.declared.op.Compound.TheVariants as compound
use Rattle.lowering.specs.Feeds.{wire, is_port, inside, into, has, place}
use Rattle.lowering.specs.declared.graph.Action.{Action}
use Rattle.lowering.specs.declared.graph.Action.TheVariants.{Row, Call, Whole}
use Rattle.lowering.specs.declared.graph.LoweredNode.{LoweredNode}
use Rattle.lowering.specs.declared.graph.Lowered.{Lowered}
use Rattle.lowering.specs.Graphs.{ports, closed, closed_wire, closed_wires, closed_nodes, closed_graphs, used_by, used, uses, size}
use Rattle.lowered_units.specs.Networks.{source_of, sources_of, kind_of, net_of}
use Rattle.lowered_units.specs.Networks as lowered
use Rattle.lowering_meaning.proofs.From.{From, always}
use Rattle.lowering_meaning.proofs.Wires.{AllWires, In, in-all, in-left, in-right, wire-in, is_there, IsThere, is-port-same, is-port-self}
use Rattle.lowering_meaning.proofs.Sites.{Site, at_site, sources, is_seen, SeenIn, Seen, Held, Carries, AllCarry, AllCarried, Placed, StandIn, IsAt, AreAt, vertex, vertices, all-held, Made, are-left, are-right}

-- a graph inside of a node
abbrev pub inner : ℕ → List Wire → ℕ → ℕ → List Carried → Site
inner q ks first own ins = record { graph = q; ins = ins; keys = ks; first = first; own = own }

module _ (u : Network) (number : ℕ → ℕ) (shape : Telling) where
  -- ---- no two depths differ

  pub held-once : (s : Site) (o : Source) (c d : Carried) → Held u number shape s o c → Held u number shape s o d → c ≡ d
  held-once s o c d a b =
      let n = a.least in
      let m = b.least in
      heads (carried-once u s.graph s.ins (o ∷ []) (c ∷ []) (d ∷ []) n m
      (port n s.graph s.ins o [] c [] (a.holds n (omega arith)) (no_port n s.graph s.ins))
      (port m s.graph s.ins o [] d [] (b.holds m (omega arith)) (no_port m s.graph s.ins)))
    where
      heads : (c ∷ []) ≡ (d ∷ []) → c ≡ d
      heads e = cc

  -- ---- the inputs of a node

  known-in : (s : Site) (env : List Wire) (vals : List Val) (w : Wire) → AllCarry u number shape s env vals → In w env → (v : Val) × Carries u number shape s w (Value v)
  known-in s [] vals w a n = absurd n
  known-in s (x ∷ ws) [] w a n = absurd a
  known-in s (x ∷ ws) (v ∷ vs) w a (inl e) = (v, subst (λ w. Carries u number shape s w (Value v)) e a.0)
  known-in s (x ∷ ws) (v ∷ vs) w a (inr n) = known-in s ws vs w a.1 n

  -- those that come from the names have values
  pub keys-carry : (s : Site) (env : List Wire) (vals : List Val) → AllCarry u number shape s env vals → (ks : List Wire) → AllWires (λ w. In w env) ks → (vs : List Val) × AllCarry u number shape s ks vs
  keys-carry s env vals a [] h = ([], tt)
  keys-carry s env vals a (k ∷ ks) h =
      let x = known-in s env vals k a h.0 in
      let y = keys-carry s env vals a ks h.1 in
      (x.0 ∷ y.0, (x.1, y.1))

  -- ---- what names carry inside

  -- a port of the graph around, as it is given to the graph inside
  record AtPlace (s : Site) (ks : List Wire) (vs : List Val) (f : Feed) : Type 0 where
    pub value : Val
    pub is : get_or (map Value vs) (place ks f) Unfilled ≡ Value value
    pub within : place ks f < length vs
    pub held : Held u number shape s (at_site s f) (Value value)

  at-place : (s : Site) (ks : List Wire) (vs : List Val) (f : Feed) → AllCarry u number shape s ks vs → AllWires (Seen shape s) ks → has ks f ≡ true → AtPlace s ks vs f
  at-place s [] vs f a t h = absurd cc
  at-place s (k ∷ ks) [] f a t h = absurd a
  at-place s (k ∷ ks) (v ∷ vs) f a t h = go (at-place s ks vs f a.1 t.1) (is_port k.feed f) refl
    where
      Goal : ℕ → Type 0
      Goal i = (w : Val) × (get_or (map Value (v ∷ vs)) i Unfilled ≡ Value w) × (i < length (v ∷ vs)) × Held u number shape s (at_site s f) (Value w)

      from : Goal (place (k ∷ ks) f) → AtPlace s (k ∷ ks) (v ∷ vs) f
      from g = record { value = g.0; is = g.1; within = g.2; held = g.3 }

      go : (has ks f ≡ true → AtPlace s ks vs f) → (b : Bool) → is_port k.feed f ≡ b → AtPlace s (k ∷ ks) (v ∷ vs) f
      go rest true e =
          from (subst (λ b. Goal (if b then 0 else suc (place ks f))) (sym e)
          (v, refl, omega arith, subst (λ f. Held u number shape s (at_site s f) (Value v)) (is-port-same k.feed f e) (a.0 t.0)))
      go rest false e =
          let x = rest (ap (λ b. if b then true else has ks f) (sym e) ∙ h) in
          from (subst (λ b. Goal (if b then 0 else suc (place ks f))) (sym e) (x.value, x.is, omega (arith, x.within), x.held))

  -- a port that is one of these
  has-of : (ks : List Wire) (x : Wire) (up n p : ℕ) → In x ks → x.feed ≡ Port up n p → has ks (Port up n p) ≡ true
  has-of [] x up n p i e = absurd i
  has-of (k ∷ ks) x up n p (inl h) e =
      ap (λ b. if b then true else has ks (Port up n p)) (ap (λ f. is_port f (Port up n p)) (ap (λ (w : Wire). w.feed) h ∙ e) ∙ is-port-self up n p)
  has-of (k ∷ ks) x up n p (inr i) e = by (is_port k.feed (Port up n p)) (has-of ks x up n p i e)
    where
      by : (b : Bool) → has ks (Port up n p) ≡ true → (if b then true else has ks (Port up n p)) ≡ true
      by true r = refl
      by false r = r

  -- of another type that shows the same
  seen-like : (ks us : List Wire) (f : Feed) (a b : wired.Carried) → shape.shows a ≡ shape.shows b → is_seen shape.shows ks us f a → is_seen shape.shows ks us f b
  seen-like ks us (Port (suc up) n p) a b e h = (h.0, h.1, h.2, h.3 ∙ e)
  seen-like ks us (Port zero (suc n) p) a b e h = (h.0, h.1, h.2, h.3 ∙ e)
  seen-like ks us (Port zero zero p) a b e h = tt
  seen-like ks us (Literal c) a b e h = tt
  seen-like ks us (Named x) a b e h = tt
  seen-like ks us Absent a b e h = tt

  fixed-is : (m g : ℕ) (ins : List Carried) (c d : Carried) → plain.Carries u m g ins (Fixed c) d → c ≡ d
  fixed-is m g ins c _ (fixed _ _ _ _) = refl

  -- the values of the inputs stand behind those before them
  abbrev pub AreGiven : ℕ → List Carried → List Val → Type 0
  AreGiven first ins vs = (i : ℕ) → i < length vs → get_or ins (first + i) Unfilled ≡ get_or (map Value vs) i Unfilled

  -- the names carry the same inside
  pub entered : (s : Site) (q : ℕ) (ks : List Wire) (vs : List Val) (first own : ℕ) (ins : List Carried) → AllCarry u number shape s ks vs → AllWires (Seen shape s) ks → AreGiven first ins vs
      → (env : List Wire) (vals : List Val) → AllCarry u number shape s env vals → AllCarry u number shape (inner q ks first own ins) (map into env) vals
  entered s q ks vs first own ins a t g [] [] b = tt
  entered s q ks vs first own ins a t g [] (v ∷ vals) b = absurd b
  entered s q ks vs first own ins a t g (w ∷ env) [] b = absurd b
  entered s q ks vs first own ins a t g (w ∷ env) (v ∷ vals) b = (go w.feed w.ty b.0, entered s q ks vs first own ins a t g env vals b.1)
    where
      site : Site
      site = inner q ks first own ins

      same : (c : Carried) → Held u number shape s (Fixed c) (Value v) → Held u number shape site (Fixed c) (Value v)
      same c h = always _ (λ m. subst (plain.Carries u m site.graph site.ins (Fixed c)) (fixed-is h.least s.graph s.ins c (Value v) (h.holds h.least (omega arith))) (fixed m site.graph site.ins c))

      go : (f : Feed) (ty : wired.Carried) → (Seen shape s (record { feed = f; ty = ty }) → Held u number shape s (at_site s f) (Value v)) → Seen shape site (record { feed = inside f; ty = ty }) → Held u number shape site (at_site site (inside f)) (Value v)
      go (Literal c) ty h e = same _ (h tt)
      go (Named text) ty h e = same _ (h tt)
      go Absent ty h e = same _ (h tt)
      go (Port up n p) ty h e =
          let key : Wire = e.0 in
          let x = at-place s ks vs (Port up n p) a t (has-of ks key up n p e.1 e.2) in
          let seen = subst (λ f. is_seen shape.shows s.keys (shape.used s.graph) f key.ty) e.2 (wire-in (Seen shape s) ks key t e.1) in
          let z : Value x.value ≡ Value v = held-once s _ (Value x.value) (Value v) x.held (h (seen-like s.keys (shape.used s.graph) (Port up n p) key.ty ty e.3 seen)) in
          let i : suc (first + place ks (Port up n p)) - 1 ≡ first + place ks (Port up n p) = omega arith in
          always _ (λ m. subst (plain.Carries u m site.graph site.ins _) (ap (λ j. get_or ins j Unfilled) i ∙ g (place ks (Port up n p)) x.within ∙ x.is ∙ z) (input m site.graph site.ins (suc (first + place ks (Port up n p)))))

  -- ---- a closed graph

  closed-sources : (s : Site) (ws : List Wire) → sources_of (closed_wires s.keys s.first s.own ws) ≡ sources s ws
  closed-sources s [] = refl
  closed-sources s (w ∷ ws) = ap (λ os. at_site s w.feed ∷ os) (closed-sources s ws)

  closed-vertices : (s : Site) (n : ℕ) (vs : List LoweredNode) → lowered.vertices (shape.row s.graph) number (suc n) (closed_nodes s.keys s.first s.own vs) ≡ vertices u number shape s n vs
  closed-vertices s n [] = refl
  closed-vertices s n (v ∷ vs) =
      ap (λ os. record { label = suc n; kind = kind_of (shape.row s.graph) number (suc n) v.action; ins = os; before = [] } ∷ lowered.vertices (shape.row s.graph) number (suc (suc n)) (closed_nodes s.keys s.first s.own vs)) (closed-sources s v.ins)
      ∙ ap (λ xs. vertex u number shape s n v ∷ xs) (closed-vertices s (suc n) vs)

  -- nodes stand where they are made
  later : (x : Vertex) (xs : List Vertex) (s : Site) (n m : ℕ) (vs : List LoweredNode) → x.label ≡ suc n → n < m → StandIn u number shape xs s m vs → StandIn u number shape (x ∷ xs) s m vs
  later x xs s n m [] l h a = tt
  later x xs s n m (v ∷ vs) l h a =
      (ap (λ b. if b then Some x else at_label xs (suc m)) (ne_eqb x.label (suc m) (λ e. absurd (omega (arith, l, e, h)))) ∙ a.0, later x xs s n (suc m) vs l (omega (arith, h)) a.1)

  stands : (s : Site) (n : ℕ) (vs : List LoweredNode) → StandIn u number shape (vertices u number shape s n vs) s n vs
  stands s n [] = tt
  stands s n (v ∷ vs) = (
    ap (λ b. if b then Some (vertex u number shape s n v) else at_label (vertices u number shape s (suc n) vs) (suc n)) (eq-eqb (suc n) (suc n) refl),
    later (vertex u number shape s n v) (vertices u number shape s (suc n) vs) s n (suc n) vs refl (omega arith) (stands s (suc n) vs),
  )

  -- what stands at the number of a graph inside
  abbrev pub Net : Site → Lowered → Type 0
  Net s m = IsAt u number shape s.graph (closed s.keys s.first s.own m)

  pub nodes-are : (s : Site) (m : Lowered) → Net s m → (u s.graph).nodes ≡ vertices u number shape s 0 m.nodes
  nodes-are s m e = ap (λ g. g.nodes) e.0 ∙ closed-vertices s 0 m.nodes

  pub results-are : (s : Site) (m : Lowered) → Net s m → (u s.graph).results ≡ sources s m.values
  results-are s m e = ap (λ g. g.results) e.0 ∙ closed-sources s m.values

  pub placed-inside : (s : Site) (m : Lowered) → Net s m → AreAt u number shape (suc s.graph) m.graphs → AllWires (Seen shape s) (used m.nodes) → Placed u number shape s 0 (suc s.graph) m
  placed-inside s m e a t = record {
    nodes = subst (λ xs. StandIn u number shape xs s 0 m.nodes) (sym (nodes-are s m e)) (stands s 0 m.nodes);
    graphs = a;
    told = opened shape s.graph 0 s.keys s.first s.own m.nodes e.1;
    there = t;
  }

  -- what a graph gives on inputs, and how often it fires at most
  pub record Gives (q : ℕ) (ins rs : List Carried) (limit : ℕ) : Type 0 where
    pub cost : ℕ
    pub fires : From (λ m. NodesFire u m q ins (u q).nodes cost)
    pub bound : cost ≤ limit
    pub means : From (λ m. CarryAll u m q ins (u q).results rs)

  pub graph-gives : (s : Site) (m : Lowered) (cs : List Carried) (limit : ℕ) → Net s m → AllWires (Seen shape s) m.values → Made u number shape s 0 m cs limit → Gives s.graph s.ins cs limit
  graph-gives s m cs limit e t d = record {
    cost = d.cost;
    fires = subst (λ ns. From (λ k. NodesFire u k s.graph s.ins ns d.cost)) (sym (nodes-are s m e)) d.fires;
    bound = d.bound;
    means = subst (λ os. From (λ k. CarryAll u k s.graph s.ins os cs)) (sym (results-are s m e)) (all-held u number shape s m.values cs t d.held);
  }

  -- ---- what graphs inside use

  closed-in : (ks : List Wire) (first own : ℕ) (w : Wire) (ws : List Wire) → In w ws → In (closed_wire ks first own w) (closed_wires ks first own ws)
  closed-in ks first own w [] n = absurd n
  closed-in ks first own w (x ∷ ws) (inl e) = inl (ap (closed_wire ks first own) e)
  closed-in ks first own w (x ∷ ws) (inr n) = inr (closed-in ks first own w ws n)

  either-in : {A : Type 0} (w : Wire) (ws xs : List Wire) → In w (ws ++ xs) → (In w ws → A) → (In w xs → A) → A
  either-in w [] xs n f g = g n
  either-in w (x ∷ ws) xs (inl e) f g = f (inl e)
  either-in w (x ∷ ws) xs (inr n) f g = either-in w ws xs n (λ k. f (inr k)) g

  used-by-in : (ks : List Wire) (first own : ℕ) (a : Action) (w : Wire) (ws : List Wire) → In w (used_by a ws) → In (closed_wire ks first own w) (used_by a (closed_wires ks first own ws))
  used-by-in ks first own (Row op) w ws n = closed-in ks first own w ws n
  used-by-in ks first own (Call f) w ws n = closed-in ks first own w ws n
  used-by-in ks first own (Whole compound.ForAll gs arms given outs) w ws n = closed-in ks first own w ws n
  used-by-in ks first own (Whole compound.Select gs arms given outs) w ws n = closed-in ks first own w ws n
  used-by-in ks first own (Whole compound.LoopA gs arms given outs) w ws n = closed-in ks first own w ws n
  used-by-in ks first own (Whole compound.LoopB gs arms given outs) w ws n = closed-in ks first own w ws n
  used-by-in ks first own (Whole compound.TagCase gs arms given outs) w [] n = absurd n
  used-by-in ks first own (Whole compound.TagCase gs arms given outs) w (x ∷ ws) n =
      let c = closed_wire ks first own w in
      let cs = closed_wires ks first own ws in
      let y = closed_wire ks first own x in
      either-in w ws (x ∷ []) n (λ k. in-left c cs (y ∷ []) (closed-in ks first own w ws k)) (λ k. in-right c cs (y ∷ []) (closed-in ks first own w (x ∷ []) k))

  used-in : (ks : List Wire) (first own : ℕ) (w : Wire) (vs : List LoweredNode) → In w (used vs) → In (closed_wire ks first own w) (used (closed_nodes ks first own vs))
  used-in ks first own w [] n = absurd n
  used-in ks first own w (v ∷ vs) n =
      let c = closed_wire ks first own w in
      let here = used_by v.action (closed_wires ks first own v.ins) in
      let others = used (closed_nodes ks first own vs) in
      either-in w (used_by v.action v.ins) (used vs) n (λ k. in-left c here others (used-by-in ks first own v.action w v.ins k)) (λ k. in-right c here others (used-in ks first own w vs k))

  uses-in : (q : ℕ) (ks : List Wire) (first own : ℕ) (m : Lowered) → IsAt u number shape q (closed ks first own m) → (w : Wire) → In w (uses m) → In (closed_wire ks first own w) (shape.used q)
  uses-in q ks first own m e w n =
      let c = closed_wire ks first own w in
      let here = used (closed_nodes ks first own m.nodes) in
      let ends = closed_wires ks first own m.values in
      subst (In c) (sym e.2) (either-in w (used m.nodes) m.values n (λ k. in-left c here ends (used-in ks first own w m.nodes k)) (λ k. in-right c here ends (closed-in ks first own w m.values k)))

  -- the first input with a feed
  key-of : (ks : List Wire) (f : Feed) → has ks f ≡ true → (x : Wire) × In x ks × (x.feed ≡ f) × (slice_get ks (place ks f) ≡ Some x)
  key-of [] f h = absurd cc
  key-of (k ∷ ks) f h = by (is_port k.feed f) refl (key-of ks f)
    where
      Goal : ℕ → Type 0
      Goal i = (x : Wire) × In x (k ∷ ks) × (x.feed ≡ f) × (slice_get (k ∷ ks) i ≡ Some x)

      by : (b : Bool) → is_port k.feed f ≡ b → (has ks f ≡ true → (x : Wire) × In x ks × (x.feed ≡ f) × (slice_get ks (place ks f) ≡ Some x)) → Goal (place (k ∷ ks) f)
      by true e rest = subst (λ b. Goal (if b then 0 else suc (place ks f))) (sym e) (k, inl refl, is-port-same k.feed f e, refl)
      by false e rest =
          let x = rest (ap (λ b. if b then true else has ks f) (sym e) ∙ h) in
          subst (λ b. Goal (if b then 0 else suc (place ks f))) (sym e) (x.0, inr x.1, x.2, x.3)

  -- what a graph inside uses is seen there
  pub seen-inside : (gs : List ℕ) (i q : ℕ) (ks : List Wire) (first own : ℕ) (m : Lowered) → AreInner shape first gs ks → slice_get gs i ≡ Some q → IsAt u number shape q (closed ks first own m)
      → AllWires (IsThere ks) (uses m) → AllWires (SeenIn shape q ks) (uses m)
  seen-inside gs i q ks first own m h g e t = in-all (uses m) (SeenIn shape q ks) (λ w n. by w.feed w.ty n (wire-in (IsThere ks) (uses m) w t n))
    where
      by : (f : Feed) (c : wired.Carried) → In (wire f c) (uses m) → is_there ks f → is_seen shape.shows ks (shape.used q) f c
      by (Port (suc up) n p) c k t =
          let x = key-of ks (Port up n p) t in
          let y = wire (Port (suc up) n p) c in
          (x.0, x.1, x.2, h i q (place ks (Port up n p)) (closed_wire ks first own y) x.0 g (uses-in q ks first own m e y k) refl x.3)
      by (Port zero (suc n) p) c k t =
          let y = wire (Port 0 (suc n) p) c in
          (closed_wire ks first own y, uses-in q ks first own m e y k, refl, refl)
      by (Port zero zero p) c k t = tt
      by (Literal x) c k t = tt
      by (Named x) c k t = tt
      by Absent c k t = tt

  -- one of the graphs inside a node, and the others
  pub record PartAt (q : ℕ) (ks : List Wire) (first own : ℕ) (m : Lowered) (ms : List Lowered) : Type 0 where
    pub net : IsAt u number shape q (closed ks first own m)
    pub graphs : AreAt u number shape (suc q) m.graphs
    pub others : AreAt u number shape (q + size m) (closed_graphs ks first own ms)

  pub part-at : (q : ℕ) (ks : List Wire) (first own : ℕ) (m : Lowered) (ms : List Lowered) → AreAt u number shape q (closed_graphs ks first own (m ∷ ms)) → PartAt q ks first own m ms
  part-at q ks first own m ms h = record {
    net = h.0;
    graphs = are-left u number shape (suc q) m.graphs (closed_graphs ks first own ms) h.1;
    others = subst (λ n. AreAt u number shape n (closed_graphs ks first own ms)) (omega arith) (are-right u number shape (suc q) m.graphs (closed_graphs ks first own ms) h.1);
  }

  -- ---- own inputs

  -- own inputs carry what the graph is given
  pub own-carry : (s : Site) (j : ℕ) (ts : List wired.Carried) (cs : List Carried) → length ts ≡ length cs
      → ((i : ℕ) → i < length cs → get_or s.ins (s.own + j + i) Unfilled ≡ get_or cs i Unfilled) → AllCarried u number shape s (ports 0 (suc j) ts) cs
  own-carry s j [] [] l h = tt
  own-carry s j [] (c ∷ cs) l h = absurd (omega (arith, l))
  own-carry s j (t ∷ ts) [] l h = absurd (omega (arith, l))
  own-carry s j (t ∷ ts) (c ∷ cs) l h =
      let x : s.own + suc j - 1 ≡ s.own + j + 0 = omega arith in (
        (λ _. always _ (λ m. subst (plain.Carries u m s.graph s.ins (demand.Port 0 (s.own + suc j))) (ap (λ i. get_or s.ins i Unfilled) x ∙ h 0 (omega arith)) (input m s.graph s.ins (s.own + suc j)))),
        own-carry s (suc j) ts cs (omega (arith, l)) (λ i k. let y : s.own + suc j + i ≡ s.own + j + suc i = omega arith in ap (λ k. get_or s.ins k Unfilled) y ∙ h (suc i) (omega (arith, k))),
      )
