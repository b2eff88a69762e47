-- Where the lowered graphs of a program keep the rules, the types of its unit are right.
use Rattle.std.proofs.Common.{◌≡◌, ℕ, zero, suc, inl, inr, Bool, true, false, cond, ◌&&◌, List, [], ◌∷◌, ◌++◌, slice_get, Some, None, refl, sym, ap, subst, ◌∙◌, arith}
use Rattle.std.specs.Prelude.{All, filter, MatchOption, ◌==◌}
use Rattle.std.proofs.lemmas.Bool.{eqb-true}
use Rattle.std.proofs.lemmas.List.Elements.{All-nil, All-cons, All-head, All-tail, All-append}
use Rattle.if1_graph.specs.declared.graph.Edge.{Edge}
use Rattle.if1_graph.specs.declared.graph.Graph.{Graph}
use Rattle.if1_graph.specs.declared.graph.Graph.TheViews.{out-Graph}
use Rattle.if1_graph.specs.declared.graph.Node.{Node, out-Node}
use Rattle.if1_graph.specs.declared.graph.Origin.{Origin}
use Rattle.if1_graph.specs.declared.graph.Origin.TheVariants as origin
use Rattle.if1_graph.specs.declared.graph.Unit1.{Unit1}
use Rattle.if1_graph.specs.declared.op.Compound.{Compound}
use Rattle.if1_graph.specs.declared.op.Simple.{Simple}
use Rattle.if1_graph.specs.declared.op.Simple.TheVariants as simple
use Rattle.if1_graph.specs.Ops.{simple_at, compound_at}
use Rattle.if1_graph.specs.Ports.{leaves}
use Rattle.if1_graph.specs.Ready.{TypesHold}
use Rattle.if1_graph.specs.Rows.{operand_of}
use Rattle.if1_graph.specs.Types.{Sort, Function as FunctionOf, sort_at}
use Rattle.if1_graph.specs.Typing.{known, Fits, FitsCompound, FitsNode, FitsBoundary, IsTyped, IsGiven, IsWanted, AgreesWith, home_part, StandsRight, IsEndTyped, AreTypesRight}
use Rattle.if1_graph.specs.Units.{node_at, edges_into, ends, Place, places}
use Rattle.typed_tree.specs.declared.program.Program.{Program}
use Rattle.lowering.specs.declared.feed.Feed.{Feed}
use Rattle.lowering.specs.declared.feed.Feed.TheVariants.{Literal, Named, Absent, Port}
use Rattle.lowering.specs.declared.feed.Carried.{Carried}
use Rattle.lowering.specs.declared.feed.Carried.TheVariants.{Callee}
use Rattle.lowering.specs.declared.feed.Wire.{Wire}
use Rattle.lowering.specs.declared.graph.Action.{Action}
use Rattle.lowering.specs.declared.graph.Action.TheVariants.{Row, Call, Whole}
use Rattle.lowering.specs.declared.graph.LoweredNode.{LoweredNode}
use Rattle.lowering.specs.Feeds.{one_carried, carried}
use Rattle.lowering.specs.Graphs.{callee}
use Rattle.lowering.specs.Programs.{graph_at}
use Rattle.lowering.specs.Types.{label_of as type_label_of}
use Rattle.lowered_units.specs.Fitting.{IsFitting}
use Rattle.lowered_units.specs.Units.{constant_text, origin_of, called_name, edge, edge_if, edges_into as block, node_edges, edges_of, simple_code, compound_code, IsTranslated}
use Rattle.lowered_units.proofs.Blocks.{to_node}
use Rattle.lowered_units.proofs.Codes.{simple-is, no-compound, compound-is, no-simple}
use Rattle.lowered_ready.specs.Sorts.{sort_of}
use Rattle.lowered_ready.specs.SortLaws.{HasSort, IsReadBack}
use Rattle.lowered_ready.proofs.Told.{read-back}
use Rattle.lowered_ready.specs.Ports.{Outs, type_at, AreWanted, IsWanted as IsRowWanted, IsSimple}
use Rattle.lowered_ready.specs.Parts.{AreInputs}
use Rattle.lowered_ready.specs.Rules.{IsFrom, AreFrom, IsNode, AreNodes, AreRight}
use Rattle.lowered_ready.specs.Shapes.{IsShaped}
use Rattle.lowered_ready.proofs.Ends.{IsAtNode, IsNowhere, end-at, no-boundary-node, boundary-edges}
use Rattle.lowered_ready.proofs.Places.{all-shaped}
use Rattle.lowered_ready.proofs.Known.{all-right, node-sorted, results-sorted}
use Rattle.lowered_ready.proofs.TypeSources.{ruled-node, simple-known, op-is, output-fits}
use Rattle.lowered_ready.proofs.Homes.{IfFilled, if-filled, AllFit, fit-map, IsRuledPlace, place-ruled}

-- ---- lists

filtered : {A : Type 0} (Q P : A → Type 0) (f : A → Bool) → ((x : A) → Q x → f x ≡ true → P x) → (xs : List A) → All Q xs → All P (filter f xs)
filtered Q P f h [] a = All-nil P
filtered Q P f h (x ∷ xs) a = by (f x) refl (filtered Q P f h xs (All-tail Q x xs a))
  where
    by : (b : Bool) → f x ≡ b → All P (filter f xs) → All P (cond b (x ∷ filter f xs) (filter f xs))
    by true e r = All-cons P x (filter f xs) (h x (All-head Q x xs a) e) r
    by false e r = r

first-true : (a b : Bool) → (a && b) ≡ true → (a ≡ true) × (b ≡ true)
first-true true b e = (refl, e)
first-true false b e = absurd cc

all-of : {A : Type 0} (P : A → Type 0) (xs : List A) → ((x : A) → P x) → All P xs
all-of P [] h = All-nil P
all-of P (x ∷ xs) h = All-cons P x xs (h x) (all-of P xs h)

some-sort : (a b : Sort) → Some a ≡ Some b → a ≡ b
some-sort a b e = cc

-- ---- edges by what they carry

-- an edge from an output has the label of what the node gives there
abbrev IsSourced : Program → List Outs → ℕ → Origin → Type 0
IsSourced p outs ty (origin.Port (suc n) q) = (o : Outs) × (slice_get outs n ≡ Some o) × ((c : Carried) × (type_at o q ≡ Some c) × (ty ≡ type_label_of p c))
IsSourced p outs ty o = Unit {0}

module _ (p : Program) (u : Unit1) (fit : IsFitting p) (t : IsTranslated p u) (right : AreRight (sort_of p) p) where
  abbrev sort : Carried → Sort
  sort c = sort_of p c

  back : IsReadBack p u
  back = read-back p fit u t

  module _ (x : Place) (shaped : IsShaped p x) (r : IsRuledPlace p u fit t back right x.home x.graph) where
    abbrev g : Graph
    g = x.graph

    abbrev From : Feed → Carried → Type 0
    From f c = IsFrom sort (graph_at p) r.In r.graph.outs f c

    abbrev AllFrom : List Wire → Type 0
    AllFrom ws = AreFrom sort (graph_at p) r.In r.graph.outs ws

    -- ---- sources

    given : (f : Feed) (c : Carried) → From f c → (o : Origin) → origin_of f ≡ Some o → IsGiven u x o (sort c)
    given f c h o e = subst (λ z. MatchOption z (Unit {0}) (λ o. IsGiven u x o (sort c))) e (by f h)
      where
        by : (f : Feed) → From f c → MatchOption (origin_of f) (Unit {0}) (λ o. IsGiven u x o (sort c))
        by Absent h = tt
        by (Literal k) h = tt
        by (Named s) h = tt
        by (Port zero zero q) h = r.inputs q (sort c) h
        by (Port zero (suc n) q) h = output-fits p u fit t back g r.lowered r.is r.part r.In r.graph.outs r.graph.nodes shaped.inside n h.0 h.1 q c h.2
        by (Port (suc up) n q) h = absurd h

    abbrev Sourced : Edge → Type 0
    Sourced e = IsSourced p r.graph.outs e.ty e.from

    sourced-block : (node port : ℕ) (ws : List Wire) → AllFrom ws → All Sourced (block p node port ws)
    sourced-block node port [] h = All-nil Sourced
    sourced-block node port (w ∷ ws) h = All-append Sourced (edge_if node port (type_label_of p w.ty) (origin_of w.feed)) (block p node (suc port) ws) (one w.feed w.ty h.0) (sourced-block node (suc port) ws h.1)
      where
        one : (f : Feed) (c : Carried) → From f c → All Sourced (edge_if node port (type_label_of p c) (origin_of f))
        one Absent c h = All-nil Sourced
        one (Literal k) c h = All-cons Sourced (edge node port (type_label_of p c) (origin.Lit (constant_text k))) [] tt (All-nil Sourced)
        one (Named s) c h = All-cons Sourced (edge node port (type_label_of p c) (origin.Lit s)) [] tt (All-nil Sourced)
        one (Port zero zero q) c h = All-cons Sourced (edge node port (type_label_of p c) (origin.Port zero q)) [] tt (All-nil Sourced)
        one (Port zero (suc n) q) c h = All-cons Sourced (edge node port (type_label_of p c) (origin.Port (suc n) q)) [] (h.0, h.1, (c, h.2, refl)) (All-nil Sourced)
        one (Port (suc up) n q) c h = absurd h

    sourced-node : (l : ℕ) (a : Action) (ws : List Wire) → AllFrom ws → All Sourced (node_edges p l a ws)
    sourced-node l (Row op) ws h = sourced-block l 1 ws h
    sourced-node l (Call f) ws h = All-cons Sourced (edge l 1 (type_label_of p (Callee f)) (origin.Lit (called_name p (slice_get p.functions f)))) (block p l 2 ws) tt (sourced-block l 2 ws h)
    sourced-node l (Whole c gs arms given outs) ws h = sourced-block l 1 ws h

    sourced-all : (l : ℕ) (vs : List LoweredNode) (os : List Outs) (rs : List Wire) → AreNodes sort (graph_at p) r.part r.In r.graph.outs vs os → AllFrom rs → All Sourced (edges_of p l vs rs)
    sourced-all l [] [] rs h k = sourced-block 0 1 rs k
    sourced-all l [] (o ∷ os) rs h k = absurd h
    sourced-all l (v ∷ vs) [] rs h k = absurd h
    sourced-all l (v ∷ vs) (o ∷ os) rs h k = All-append Sourced (node_edges p l v.action v.ins) (edges_of p (suc l) vs rs) (sourced-node l v.action v.ins h.0.1) (sourced-all (suc l) vs os rs h.1 k)

    graph-sourced : All Sourced (out-Graph g).edges
    graph-sourced = subst (All Sourced) (sym r.is.edges) (sourced-all 1 r.lowered.nodes r.graph.outs r.lowered.results r.graph.nodes r.graph.results)

    -- edges from one output carry the same
    agrees : (e : Edge) → Sourced e → AgreesWith u g e e.from
    agrees e s = by e.from s
      where
        outs-same : (a b : Outs) → Some a ≡ Some b → a ≡ b
        outs-same a b e = cc

        carried-same : (a b : Carried) → Some a ≡ Some b → a ≡ b
        carried-same a b e = cc

        other-same : (n q : ℕ) → IsSourced p r.graph.outs e.ty (origin.Port (suc n) q) → (y : Edge) (from : Origin) → IsSourced p r.graph.outs y.ty from → leaves (suc n) q from ≡ true → sort_at u.types y.ty ≡ sort_at u.types e.ty
        other-same n q s y (origin.Lit text) k l = absurd cc
        other-same n q s y (origin.Port zero m) k l = absurd (never (first-true (0 == suc n) (m == q) l).0)
          where
            never : (0 == suc n) ≡ true → ⊥
            never e = let z = eqb-true 0 (suc n) e in omega (arith, z)
        other-same n q s y (origin.Port (suc i) m) k l =
            let both = first-true (suc i == suc n) (m == q) l in
            let node : i ≡ n = let z = eqb-true (suc i) (suc n) both.0 in omega (arith, z) in
            let port : m ≡ q = eqb-true m q both.1 in
            let same-outs : k.0 ≡ s.0 = outs-same k.0 s.0 (sym k.1 ∙ (ap (slice_get r.graph.outs) node ∙ s.1)) in
            let same : k.2.0 ≡ s.2.0 = carried-same k.2.0 s.2.0 (sym k.2.1 ∙ (ap (λ (o : Outs). type_at o m) same-outs ∙ (ap (type_at s.0) port ∙ s.2.1))) in
            ap (sort_at u.types) (k.2.2 ∙ (ap (type_label_of p) same ∙ sym s.2.2))

        by : (o : Origin) → IsSourced p r.graph.outs e.ty o → AgreesWith u g e o
        by (origin.Lit text) s = tt
        by (origin.Port zero q) s = tt
        by (origin.Port (suc n) q) s = filtered Sourced (λ (y : Edge). sort_at u.types y.ty ≡ sort_at u.types e.ty) (λ (y : Edge). leaves (suc n) q y.from) (λ y k l. other-same n q s y y.from k l) (out-Graph g).edges graph-sourced

    agree-at : (l : ℕ) → All (λ e. AgreesWith u g e e.from) (edges_into g l)
    agree-at l = filtered Sourced (λ (e : Edge). AgreesWith u g e e.from) (to_node l) (λ e s k. agrees e s) (out-Graph g).edges graph-sourced

    -- ---- edges into an end

    abbrev Typed : Edge → Type 0
    Typed e = IsTyped u x e

    abbrev Wanted : ℕ → ℕ → Sort → Type 0
    Wanted l port s = IsWanted u x l (node_at (out-Graph g).nodes l) port s

    typed-edge : (l port : ℕ) (c : Carried) (o : Origin) → HasSort p u c → Wanted l port (sort c) → IsGiven u x o (sort c) → Typed (edge l port (type_label_of p c) o)
    typed-edge l port c o h w k = inr (sort c, h, w, k)

    typed-block : (l port : ℕ) (ws : List Wire) → AllFit sort (Wanted l) port ws → AllFrom ws → All (HasSort p u) (carried ws) → All Typed (block p l port ws)
    typed-block l port [] w f h = All-nil Typed
    typed-block l port (y ∷ ws) w f h =
        All-append Typed (edge_if l port (type_label_of p y.ty) (origin_of y.feed)) (block p l (suc port) ws) (one y.feed y.ty w.0 f.0 h)
        (typed-block l (suc port) ws w.1 f.1 (all-right (HasSort p u) (one_carried y.feed y.ty) (carried ws) h))
      where
        one : (f : Feed) (c : Carried) → IfFilled f (Wanted l port (sort c)) → From f c → All (HasSort p u) (one_carried f c ++ carried ws) → All Typed (edge_if l port (type_label_of p c) (origin_of f))
        one Absent c w k h = All-nil Typed
        one (Literal z) c w k h = All-cons Typed (edge l port (type_label_of p c) (origin.Lit (constant_text z))) [] (typed-edge l port c (origin.Lit (constant_text z)) (All-head (HasSort p u) c (carried ws) h) w tt) (All-nil Typed)
        one (Named s) c w k h = All-cons Typed (edge l port (type_label_of p c) (origin.Lit s)) [] (typed-edge l port c (origin.Lit s) (All-head (HasSort p u) c (carried ws) h) w tt) (All-nil Typed)
        one (Port up n q) c w k h =
            All-cons Typed (edge l port (type_label_of p c) (origin.Port n q)) []
            (typed-edge l port c (origin.Port n q) (All-head (HasSort p u) c (carried ws) h) w (given (Port up n q) c k (origin.Port n q) refl)) (All-nil Typed)

    -- ---- nodes

    module _ (i : ℕ) (n : Node) (v : LoweredNode) (h : IsAtNode p g r.lowered r.is i n v) where
      abbrev l : ℕ
      l = suc i

      abbrev RowWants : Simple → ℕ → Sort → Type 0
      RowWants op port s = MatchOption (operand_of op port) ⊥ (λ operand. Fits (known u g l) operand.1 s)

      abbrev NodeWants : ℕ → ℕ → Sort → Type 0
      NodeWants op port s = FitsNode u g l (compound_at op) (simple_at op) port s

      to-wanted : (port : ℕ) (s : Sort) → NodeWants (out-Node n).op port s → Wanted l port s
      to-wanted port s w = subst (λ o. IsWanted u x l o port s) (sym h.stands.found) w

      row-wanted : (op : Simple) → (out-Node n).op ≡ simple_code op → (port : ℕ) (s : Sort) → RowWants op port s → Wanted l port s
      row-wanted op e port s w =
          to-wanted port s
          (subst (λ k. NodeWants k port s) (sym e)
          (subst (λ k. FitsNode u g l k (simple_at (simple_code op)) port s) (sym (no-compound op)) (subst (λ k. FitsNode u g l None k port s) (sym (simple-is op)) w)))

      whole-wanted : (c : Compound) → (out-Node n).op ≡ compound_code c → (port : ℕ) (s : Sort) → FitsCompound c port s → Wanted l port s
      whole-wanted c e port s w = to-wanted port s (subst (λ k. NodeWants k port s) (sym e) (subst (λ k. FitsNode u g l k (simple_at (compound_code c)) port s) (sym (compound-is c)) w))

      wants-fit : (op : Simple) (port : ℕ) (ws : List Wire) → AreWanted sort (known u g l) op port ws → AllFit sort (RowWants op) port ws
      wants-fit op port [] w = tt
      wants-fit op port (y ∷ ws) w = (one y.feed w.0, wants-fit op (suc port) ws w.1)
        where
          one : (f : Feed) → IsRowWanted sort (known u g l) op port f y.ty → IfFilled f (RowWants op port (sort y.ty))
          one Absent w = tt
          one (Literal c) w = w
          one (Named s) w = w
          one (Port up n q) w = w

      inputs-fit : (c : Compound) (port : ℕ) (ws : List Wire) → AreInputs sort c port ws → AllFit sort (FitsCompound c) port ws
      inputs-fit c port [] w = tt
      inputs-fit c port (y ∷ ws) w = (if-filled y.feed w.0.1, inputs-fit c (suc port) ws w.1)

      abbrev Does : Action → Type 0
      Does b = All Typed (node_edges p l b v.ins) × IsEndTyped u x (Some n)

      place-right : (b : Action) (op : Simple) → v.action ≡ b → (out-Node n).op ≡ simple_code op → (o : Outs) → IsSimple sort r.part b op v.ins o → IsEndTyped u x (Some n)
      place-right b op e k o s =
          subst (λ z. StandsRight (home_part x.home) (simple_at z)) (sym k) (subst (λ z. StandsRight (home_part x.home) z) (sym (simple-is op)) (subst (λ z. StandsRight z (Some op)) (sym r.stands) s.place))

      node-typed : (b : Action) → v.action ≡ b → (o : Outs) → IsNode sort (graph_at p) r.part b v.ins o → AllFrom v.ins → All (HasSort p u) (callee b ++ carried v.ins) → Does b
      node-typed (Row op) e o s f k =
          let code : (out-Node n).op ≡ simple_code op = op-is p u fit t back g r.lowered r.is r.part r.In i n v h (Row op) e in
          let wants = s.wanted (known u g l) (simple-known p u fit t back g r.lowered r.is r.part r.In i n v h (Row op) e s.name) in
          (typed-block l 1 v.ins (fit-map sort (RowWants op) (Wanted l) (row-wanted op code) 1 v.ins (wants-fit op 1 v.ins wants)) f k, place-right (Row op) op e code o s)
      node-typed (Call y) e o s f k =
          let code : (out-Node n).op ≡ simple_code simple.Call = op-is p u fit t back g r.lowered r.is r.part r.In i n v h (Call y) e in
          let own = simple-known p u fit t back g r.lowered r.is r.part r.In i n v h (Call y) e s.name in
          let wants = s.wanted (known u g l) own in
          let name = origin.Lit (called_name p (slice_get p.functions y)) in
          let type = s.name in (
            All-cons Typed (edge l 1 (type_label_of p (Callee y)) name) (block p l 2 v.ins)
                (typed-edge l 1 (Callee y) name (All-head (HasSort p u) (Callee y) (carried v.ins) k) (row-wanted simple.Call code 1 (sort (Callee y)) (type.0, type.1, some-sort (sort (Callee y)) (FunctionOf type.0 type.1) type.2, own.name)) tt)
                (typed-block l 2 v.ins (fit-map sort (RowWants simple.Call) (Wanted l) (row-wanted simple.Call code) 2 v.ins (wants-fit simple.Call 2 v.ins wants)) f (All-tail (HasSort p u) (Callee y) (carried v.ins) k)),
            place-right (Call y) simple.Call e code o s,
          )
      node-typed (Whole c numbers arms given outs) e o s f k =
          let code : (out-Node n).op ≡ compound_code c = op-is p u fit t back g r.lowered r.is r.part r.In i n v h (Whole c numbers arms given outs) e in
          (typed-block l 1 v.ins (fit-map sort (FitsCompound c) (Wanted l) (whole-wanted c code) 1 v.ins (inputs-fit c 1 v.ins s.2.inputs)) f k, subst (λ z. StandsRight (home_part x.home) (simple_at z)) (sym code) (subst (λ z. StandsRight (home_part x.home) z) (sym (no-simple c)) tt))

    -- ---- ends

    node-right : (i : ℕ) (n : Node) (v : LoweredNode) → IsAtNode p g r.lowered r.is i n v → AreTypesRight u x (suc i)
    node-right i n v h =
        let ruled = ruled-node sort (graph_at p) r.part r.In r.graph.outs r.lowered.nodes r.graph.outs r.graph.nodes i v h.lowered in
        let does = node-typed i n v h v.action refl ruled.0 ruled.2.node ruled.2.from (node-sorted p u back g r.lowered r.is i n v h) in
        record { place = subst (IsEndTyped u x) (sym h.stands.found) does.1; edges = subst (All Typed) (sym h.edges) does.0; agree = agree-at (suc i) }

    nowhere-right : (i : ℕ) → IsNowhere p g r.lowered r.is (suc i) → AreTypesRight u x (suc i)
    nowhere-right i h = record { place = subst (IsEndTyped u x) (sym h.no_node) r.header; edges = subst (All Typed) (sym h.no_edges) (All-nil Typed); agree = agree-at (suc i) }

    boundary-right : AreTypesRight u x 0
    boundary-right =
        let none = no-boundary-node p g r.lowered r.is in
        let wanted : AllFit sort (Wanted 0) 1 r.lowered.results =
        fit-map sort (FitsBoundary u g x.home) (Wanted 0) (λ port s w. subst (λ o. IsWanted u x 0 o port s) (sym none) w) 1 r.lowered.results r.results in
        record {
          place = subst (IsEndTyped u x) (sym none) r.header;
          edges = subst (All Typed) (sym (boundary-edges p g r.lowered r.is)) (typed-block 0 1 r.lowered.results wanted r.graph.results (results-sorted p u back g r.lowered r.is));
          agree = agree-at 0;
        }

    end-right : (l : ℕ) → AreTypesRight u x l
    end-right zero = boundary-right
    end-right (suc i) = elim (end-at p g r.lowered r.is i) [ inl h ↦ node-right i h.0 h.1 h.2 | inr h ↦ nowhere-right i h ]

  place-typed : (x : Place) → IsShaped p x → All (AreTypesRight u x) (ends x.graph)
  place-typed x s = all-of (AreTypesRight u x) (ends x.graph) (end-right x s (place-ruled p u fit t back right x.home x.graph s.graph s.is s.home))

  each-right : (xs : List Place) → All (IsShaped p) xs → All (λ x. All (AreTypesRight u x) (ends x.graph)) xs
  each-right [] h = All-nil (λ x. All (AreTypesRight u x) (ends x.graph))
  each-right (x ∷ xs) h = All-cons (λ x. All (AreTypesRight u x) (ends x.graph)) x xs (place-typed x (All-head (IsShaped p) x xs h)) (each-right xs (All-tail (IsShaped p) x xs h))

pub types-hold : (p : Program) (u : Unit1) → IsFitting p → IsTranslated p u → AreRight (sort_of p) p → TypesHold u
types-hold p u fit t right = each-right p u fit t right (places u) (all-shaped p u t)
