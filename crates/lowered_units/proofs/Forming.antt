-- Each graph of a translated unit is formed, but for its number and header.
use Rattle.std.proofs.Common.{◌≡◌, ℕ, zero, suc, ◌+◌, ◌<◌, ◌≤◌, ◌⊎◌, inl, inr, Bool, true, false, ◌||◌, List, [], ◌∷◌, ◌++◌, length, slice_get, Option, Some, None, refl, sym, ap, subst, ◌∙◌, arith}
use Rattle.std.specs.Prelude.{All, IsSome, is_some, nat_lt, ◌^◌, if◌then◌else◌}
use Rattle.std.specs.List.{list_any}
use Rattle.std.proofs.lemmas.Bool.{ltb-false}
use Rattle.std.proofs.lemmas.List.{length-map}
use Rattle.std.proofs.lemmas.List.Elements.{All-nil, All-cons, All-head, All-tail, All-append}
use Rattle.flow_value.specs.declared.operation.Scalar1.TheVariants as unary
use Rattle.flow_value.specs.declared.operation.Scalar2.TheVariants as two
use Rattle.if1_graph.specs.Spelling.{IsNumber, IsLabel, IsName}
use Rattle.if1_graph.specs.declared.graph.Edge.{Edge}
use Rattle.if1_graph.specs.declared.graph.Graph.{Graph}
use Rattle.if1_graph.specs.declared.graph.Graph.TheViews.{out-Graph}
use Rattle.if1_graph.specs.declared.graph.Node.{Node, out-Node}
use Rattle.if1_graph.specs.declared.graph.Origin.TheVariants as origin
use Rattle.if1_graph.specs.declared.graph.Unit1.{Unit1}
use Rattle.if1_graph.specs.declared.op.Compound.{Compound}
use Rattle.if1_graph.specs.declared.op.Compound.TheVariants as compound
use Rattle.if1_graph.specs.declared.op.Grouping.{Grouping}
use Rattle.if1_graph.specs.declared.op.Grouping.TheVariants as grouping
use Rattle.if1_graph.specs.declared.op.Simple.{Simple}
use Rattle.if1_graph.specs.declared.op.Simple.TheVariants as simple
use Rattle.if1_graph.specs.Formed.{function_named, want_at, IsOpcode, IsNode, IsWholeType, IsEdge}
use Rattle.if1_graph.specs.Rows.{operand_of}
use Rattle.typed_tree.specs.declared.program.Function.{Function}
use Rattle.typed_tree.specs.declared.program.Program.{Program}
use Rattle.lowering.specs.declared.feed.Feed.{Feed}
use Rattle.lowering.specs.declared.feed.Feed.TheVariants.{Literal, Named, Absent, Port}
use Rattle.lowering.specs.declared.feed.Carried.{Carried}
use Rattle.lowering.specs.declared.feed.Carried.TheVariants.{One, Many, Callee}
use Rattle.lowering.specs.declared.feed.Wire.{Wire}
use Rattle.lowering.specs.Feeds.{wire}
use Rattle.lowering.specs.declared.graph.Action.{Action}
use Rattle.lowering.specs.declared.graph.Action.TheVariants.{Row, Call, Whole}
use Rattle.lowering.specs.declared.graph.LoweredNode.{LoweredNode}
use Rattle.lowering.specs.declared.graph.LoweredGraph.{LoweredGraph}
use Rattle.lowering.specs.declared.graph.Lowered.{Lowered}
use Rattle.lowering.specs.Graphs.{node, size, closed_graphs, graph_lines}
use Rattle.lowering.specs.Operations.{integer}
use Rattle.lowering.specs.Programs.{functions_lowered, graph_at}
use Rattle.lowering.specs.TooMany.{most_nodes, most_graphs, most_ports, is_large, graph_ports, graphs_over, or_else, too_many}
use Rattle.lowering.specs.Types.{label_of as type_label_of}
use Rattle.lowered_units.specs.Fitting.{HaveMembers, IsFitting}
use Rattle.lowered_units.specs.Listed.{ListedNode}
use Rattle.lowered_units.specs.Small.{IsSmallFeed, AreSmall}
use Rattle.lowered_units.specs.Units.{constant_text, simple_code, compound_code, edge, edge_if, edges_into, node_edges, called_name, listed_node, origin_of, IsTranslated}
use Rattle.lowered_units.proofs.Built.{IsGap, IsGoodFeed, AreGood, AreFilled, Fills, fills_row, fills_reduction, fills_call}
use Rattle.lowered_units.proofs.Built as built
use Rattle.lowered_units.proofs.Codes.{simple-is, compound-is, wanted, plain-want, call-want, reduce-want, number_in}
use Rattle.lowered_units.proofs.Edges.{FitsAt, constant-origin, reduction-origin, callee-origin, called-quotable}
use Rattle.lowered_units.proofs.Heads.{In}
use Rattle.lowered_units.proofs.Lined.{WiresIn, IsCalleeIn}
use Rattle.lowered_units.proofs.Literals.{IsValueWant}
use Rattle.lowered_units.proofs.Named.{row_of, Match, label-at, Standing}
use Rattle.lowered_units.proofs.Nets.{op-of, before-of, assoc-of, parts-of, row-is, row-wants, whole-wants}
use Rattle.lowered_units.proofs.Programs.{functions, basics as basic_types}
use Rattle.lowered_units.proofs.Rights.{IsRightNode}
use Rattle.lowered_units.proofs.Whole.{whole-line}

-- ---- opcodes

simple-small : (op : Simple) → simple_code op < 2 ^ 32
simple-small (simple.One unary.Neg) = omega arith
simple-small (simple.One unary.Abs) = omega arith
simple-small (simple.One unary.Not) = omega arith
simple-small (simple.One unary.Int) = omega arith
simple-small (simple.One unary.Bool) = omega arith
simple-small (simple.One unary.Char) = omega arith
simple-small (simple.One unary.IsError) = omega arith
simple-small (simple.Two two.Plus) = omega arith
simple-small (simple.Two two.Minus) = omega arith
simple-small (simple.Two two.Times) = omega arith
simple-small (simple.Two two.Div) = omega arith
simple-small (simple.Two two.Mod) = omega arith
simple-small (simple.Two two.Max) = omega arith
simple-small (simple.Two two.Min) = omega arith
simple-small (simple.Two two.Equal) = omega arith
simple-small (simple.Two two.NotEqual) = omega arith
simple-small (simple.Two two.Less) = omega arith
simple-small (simple.Two two.LessEqual) = omega arith
simple-small (simple.Reduce grouping.Free) = omega arith
simple-small (simple.Reduce grouping.Left) = omega arith
simple-small (simple.Reduce grouping.Right) = omega arith
simple-small (simple.Reduce grouping.Tree) = omega arith
simple-small op = omega arith

compound-small : (c : Compound) → compound_code c < 2 ^ 32
compound-small compound.ForAll = omega arith
compound-small compound.Select = omega arith
compound-small compound.TagCase = omega arith
compound-small compound.LoopA = omega arith
compound-small compound.LoopB = omega arith

-- ---- at most so many nodes

abbrev pub AreFew : List LoweredGraph → Type 0
AreFew [] = Unit {0}
AreFew (d ∷ ds) = (length d.nodes ≤ most_nodes) × AreFew ds

few-both : (ds es : List LoweredGraph) → AreFew ds → AreFew es → AreFew (ds ++ es)
few-both [] es a b = b
few-both (d ∷ ds) es a b = (a.0, few-both ds es a.1 b)

few-left : (ds es : List LoweredGraph) → AreFew (ds ++ es) → AreFew ds
few-left [] es h = tt
few-left (d ∷ ds) es h = (h.0, few-left ds es h.1)

pub or-false : (a b : Bool) → (a || b) ≡ false → (a ≡ false) × (b ≡ false)
or-false true b e = absurd cc
or-false false b e = (refl, e)

not-large : (ds : List LoweredGraph) → list_any (λ (d : LoweredGraph). nat_lt most_nodes (length d.nodes)) ds ≡ false → AreFew ds
not-large [] e = tt
not-large (d ∷ ds) e =
    let r = or-false (nat_lt most_nodes (length d.nodes)) (list_any (λ (d : LoweredGraph). nat_lt most_nodes (length d.nodes)) ds) e in
    (ltb-false most_nodes (length d.nodes) r.0, not-large ds r.1)

-- what is known of a function in which nothing shows to be too many
pub record IsFew (fs : List Function) (m : Lowered) (ms : List Lowered) (before ports : ℕ) : Type 0 where
  pub small : is_large m ≡ false
  pub few_graphs : before + size m ≤ most_graphs
  pub few_ports : ports + graph_ports (closed_graphs [] 0 0 (m ∷ [])) ≤ most_ports
  pub rest : graphs_over fs ms (before + size m) (ports + graph_ports (closed_graphs [] 0 0 (m ∷ []))) ≡ None

pub few-over : (f : Function) (fs : List Function) (m : Lowered) (ms : List Lowered) (before ports : ℕ) → graphs_over (f ∷ fs) (m ∷ ms) before ports ≡ None → IsFew fs m ms before ports
few-over f fs m ms before ports e = by (before + size m) (ports + graph_ports (closed_graphs [] 0 0 (m ∷ []))) (λ x y z w. record { small = x; few_graphs = y; few_ports = z; rest = w }) e
  where
    by : (g k : ℕ) → {A : Type 0} → (is_large m ≡ false → g ≤ most_graphs → k ≤ most_ports → graphs_over fs ms g k ≡ None → A) → (if is_large m || (nat_lt most_graphs g || nat_lt most_ports k) then Some f.line else graphs_over fs ms g k) ≡ None → A
    by g k {A = A} make e = told (is_large m || (nat_lt most_graphs g || nat_lt most_ports k)) refl e
      where
        told : (b : Bool) → (is_large m || (nat_lt most_graphs g || nat_lt most_ports k)) ≡ b → (if b then Some f.line else graphs_over fs ms g k) ≡ None → A
        told true b e = absurd cc
        told false b e =
            let both = or-false (is_large m) (nat_lt most_graphs g || nat_lt most_ports k) b in
            let counts = or-false (nat_lt most_graphs g) (nat_lt most_ports k) both.1 in
            make both.0 (ltb-false most_graphs g counts.0) (ltb-false most_ports k counts.1) e

pub few-graphs : (fs : List Function) (ms : List Lowered) (before ports : ℕ) → length fs ≡ length ms → graphs_over fs ms before ports ≡ None → AreFew (closed_graphs [] 0 0 ms)
few-graphs [] [] before ports l e = tt
few-graphs [] (m ∷ ms) before ports l e = absurd (omega (arith, l))
few-graphs (f ∷ fs) [] before ports l e = absurd (omega (arith, l))
few-graphs (f ∷ fs) (m ∷ ms) before ports l e =
    let all = few-over f fs m ms before ports e in
    let here = not-large (closed_graphs [] 0 0 (m ∷ [])) all.small in
    (here.0, few-both m.graphs (closed_graphs [] 0 0 ms) (few-left m.graphs [] here.1) (few-graphs fs ms (before + size m) (ports + graph_ports (closed_graphs [] 0 0 (m ∷ []))) (omega (arith, l)) all.rest))

pub or-right : (a b : Option ℕ) → or_else a b ≡ None → b ≡ None
or-right None b e = e
or-right (Some l) b e = absurd cc

-- ---- nodes

names-none : (l : ℕ) (a : Action) → (listed_node l a).name ≡ []
names-none l (Row op) = refl
names-none l (Call f) = refl
names-none l (Whole c gs arms given outs) = refl

before-none : (l : ℕ) (a : Action) → (listed_node l a).before ≡ []
before-none l (Row op) = refl
before-none l (Call f) = refl
before-none l (Whole c gs arms given outs) = refl

-- at most so many graphs inside, and arms of such numbers
abbrev pub IsSmallAction : Action → Type 0
IsSmallAction (Whole c gs arms given outs) = (length gs < 2 ^ 32) × All (λ k. k < 2 ^ 32) arms
IsSmallAction a = Unit {0}

abbrev pub HasSmallAction : LoweredNode → Type 0
HasSmallAction v = IsSmallAction v.action

node-formed : (n : Node) (l : ℕ) (v : LoweredNode) → row_of n ≡ listed_node l v.action → 1 ≤ l → l ≤ most_nodes → IsSmallAction v.action → IsNode n
node-formed n l v e one few small = record {
  label = subst IsLabel (sym (label-at l n v e)) (one, omega (arith, few));
  op = subst IsOpcode (sym (op-of n (listed_node l v.action) e)) (code v.action);
  op_number = subst IsNumber (sym (op-of n (listed_node l v.action) e)) (number v.action);
  count = omega (arith, sym (length-map (out-Node n).subs number_in) ∙ ap length (parts-of n (listed_node l v.action) e), parts v.action small);
  assoc = subst (All IsNumber) (sym (assoc-of n (listed_node l v.action) e)) (arm-numbers v.action small);
  before = subst (All IsLabel) (sym (before-of n (listed_node l v.action) e ∙ before-none l v.action)) (All-nil IsLabel);
  name = subst IsName (sym (ap (λ (y : ListedNode). y.name) (sym (row-is n) ∙ e) ∙ names-none l v.action)) refl;
}
  where
    code : (a : Action) → IsOpcode (listed_node l a).op
    code (Row op) = inl (ap is_some (simple-is op))
    code (Call f) = inl (ap is_some (simple-is simple.Call))
    code (Whole c gs arms given outs) = inr (ap is_some (compound-is c))

    number : (a : Action) → (listed_node l a).op < 2 ^ 32
    number (Row op) = simple-small op
    number (Call f) = simple-small simple.Call
    number (Whole c gs arms given outs) = compound-small c

    parts : (a : Action) → IsSmallAction a → length (listed_node l a).parts < 2 ^ 32
    parts (Row op) s = omega arith
    parts (Call f) s = omega arith
    parts (Whole c gs arms given outs) s = s.0

    arm-numbers : (a : Action) → IsSmallAction a → All IsNumber (listed_node l a).assoc
    arm-numbers (Row op) s = All-nil IsNumber
    arm-numbers (Call f) s = All-nil IsNumber
    arm-numbers (Whole c gs arms given outs) s = s.1

pub nodes-formed : (label : ℕ) (ns : List Node) (vs : List LoweredNode) → Match label ns vs → 1 ≤ label → label + length vs ≤ suc most_nodes → All HasSmallAction vs → All IsNode ns
nodes-formed label [] [] m one few s = All-nil IsNode
nodes-formed label [] (v ∷ vs) m one few s = absurd m
nodes-formed label (n ∷ ns) [] m one few s = absurd m
nodes-formed label (n ∷ ns) (v ∷ vs) m one few s =
    All-cons IsNode n ns (node-formed n label v m.0 one (omega (arith, few)) (All-head HasSmallAction v vs s))
    (nodes-formed (suc label) ns vs m.1 (omega arith) (omega (arith, few)) (All-tail HasSmallAction v vs s))

-- ---- edges

module _ (p : Program) (u : Unit1) (fit : IsFitting p) (members : HaveMembers p.types) (t : IsTranslated p u) (within : too_many p ≡ None)
    (found : (f : ℕ) → f < functions p fit → IsSome (function_named u.graphs (called_name p (slice_get p.functions f)))) where
  abbrev count : ℕ
  count = functions p fit

  abbrev lines : List Carried
  lines = graph_lines (functions_lowered p)

  whole : (c : Carried) → In c lines → IsWholeType u.types (type_label_of p c)
  whole c i = subst (λ ts. IsWholeType ts (type_label_of p c)) (sym t.types) (whole-line p fit members within c i)

  module _ (g : Graph) where
    abbrev IsFormedEdge : Edge → Type 0
    IsFormedEdge e = IsEdge u g e

    one-formed : (f : Feed) (ty : Carried) (l k : ℕ) → l < 2 ^ 32 → 1 ≤ k → k < 2 ^ 32 → IsGoodFeed p.types count f ty → In ty lines → IsSmallFeed f → IsValueWant (want_at g l k) → All IsFormedEdge (edge_if l k (type_label_of p ty) (origin_of f))
    one-formed (Literal c) (One x) l k s one few h i small v =
        let o = constant-origin p u t.types (want_at g l k) c x v h.1 in
        All-cons IsFormedEdge (edge l k (type_label_of p (One x)) (origin.Lit (constant_text c))) [] (record { source = (o.0, refl, o.1); node = s; port = (one, few); ty = whole (One x) i; name = refl }) (All-nil IsFormedEdge)
    one-formed (Literal c) (Many x) l k s one few h i small v = absurd h
    one-formed (Literal c) (Callee x) l k s one few h i small v = absurd h
    one-formed (Named x) ty l k s one few h i small v = absurd h
    one-formed Absent ty l k s one few h i small v = absurd h
    one-formed (Port up n q) ty l k s one few h i small v =
        All-cons IsFormedEdge (edge l k (type_label_of p ty) (origin.Port n q)) [] (record { source = (small.0, (h.0, small.1)); node = s; port = (one, few); ty = whole ty i; name = refl }) (All-nil IsFormedEdge)

    gap-formed : (f : Feed) (ty : Carried) (l k : ℕ) → IsGap f → All IsFormedEdge (edge_if l k (type_label_of p ty) (origin_of f))
    gap-formed Absent ty l k h = All-nil IsFormedEdge
    gap-formed (Literal c) ty l k h = absurd h
    gap-formed (Named s) ty l k h = absurd h
    gap-formed (Port up n q) ty l k h = absurd h

    no-gap : (f : Feed) (ty : Carried) → IsGoodFeed p.types count f ty → IsGap f → ⊥
    no-gap (Literal c) ty h k = k
    no-gap (Named s) ty h k = k
    no-gap Absent ty h k = h
    no-gap (Port up n q) ty h k = k

    good-formed : (w : Wire) (l k : ℕ) → l < 2 ^ 32 → 1 ≤ k → k < 2 ^ 32 → IsGoodFeed p.types count w.feed w.ty → IsGap w.feed ⊎ In w.ty lines → IsSmallFeed w.feed → IsValueWant (want_at g l k) → All IsFormedEdge (edge_if l k (type_label_of p w.ty) (origin_of w.feed))
    good-formed w l k s one few h (inl y) small v = absurd (no-gap w.feed w.ty h y)
    good-formed w l k s one few h (inr i) small v = one-formed w.feed w.ty l k s one few h i small v

    pub block-formed : (l k : ℕ) (ws : List Wire) → l < 2 ^ 32 → 1 ≤ k → k + length ws ≤ 2 ^ 32 → AreFilled p.types count ws → WiresIn lines ws → All (λ w. IsSmallFeed w.feed) ws → ((j : ℕ) → k ≤ j → IsValueWant (want_at g l j)) → All IsFormedEdge (edges_into p l k ws)
    block-formed l k [] s one few h i small v = All-nil IsFormedEdge
    block-formed l k (w ∷ []) s one few h i small v =
        All-append IsFormedEdge (edge_if l k (type_label_of p w.ty) (origin_of w.feed)) [] (good-formed w l k s one (omega (arith, few)) h i.0 (All-head (λ w. IsSmallFeed w.feed) w [] small) (v k (omega arith))) (All-nil IsFormedEdge)
    block-formed l k (w ∷ x ∷ ws) s one few h i small v =
        All-append IsFormedEdge (edge_if l k (type_label_of p w.ty) (origin_of w.feed)) (edges_into p l (suc k) (x ∷ ws))
        (elim h.0 [
          | inl y ↦ good-formed w l k s one (omega (arith, few)) y i.0 (All-head (λ w. IsSmallFeed w.feed) w (x ∷ ws) small) (v k (omega arith))
          | inr y ↦ gap-formed w.feed w.ty l k y
        ])
        (block-formed l (suc k) (x ∷ ws) s (omega arith) (omega (arith, few)) h.1 i.1 (All-tail (λ w. IsSmallFeed w.feed) w (x ∷ ws) small) (λ j y. v j (omega (arith, y))))

    pub node-edges-formed : (n : Node) (l : ℕ) (a : Action) (ws : List Wire) → Standing (out-Graph g).nodes l n (node a ws) → l < 2 ^ 32 → IsRightNode p.types count (graph_at p) a ws → IsCalleeIn lines a → WiresIn lines ws → AreSmall ws → All IsFormedEdge (node_edges p l a ws)
    node-edges-formed n l (Row op) ws s small h c i k = filling op ws (Row op) h refl (row-wants p u t.types count g l n op s.found (op-of n (listed_node l (Row op)) s.listed)) i k
      where
        filling : (op : Simple) (ws : List Wire) (a : Action) → Fills p.types count a ws → a ≡ Row op → ((port : ℕ) → want_at g l port ≡ wanted (operand_of op port)) → WiresIn lines ws → AreSmall ws → All IsFormedEdge (edges_into p l 1 ws)
        filling op _ _ (fills_row x ws h k) e w i m =
            block-formed l 1 ws small (omega arith) (omega (arith, m.few)) k i m.feeds (λ j y. subst IsValueWant (sym (w j ∙ ap (λ o. wanted (operand_of o j)) (sym (same-row x op e)))) (plain-want x j h))
          where
            same-row : (x y : Simple) → Row x ≡ Row y → x ≡ y
            same-row x y e = cc
        filling op _ _ (fills_reduction r name ws h k) e w i m =
            let wants : (port : ℕ) → want_at g l port ≡ wanted (operand_of (simple.Reduce r) port) = λ port. w port ∙ ap (λ o. wanted (operand_of o port)) (sym (same-row (simple.Reduce r) op e)) in
            let o = reduction-origin p u t.types (basic_types p fit).integers name h in
            All-cons IsFormedEdge (edge l 1 (type_label_of p (One integer)) (origin.Lit name)) (edges_into p l 2 ws)
            (record {
              source = (o.0, refl, subst (λ x. FitsAt p u t.types x name (type_label_of p (One integer))) (sym (wants 1)) o.1);
              node = small;
              port = (omega arith, omega arith);
              ty = whole (One integer) (there i.0);
              name = refl;
            })
            (block-formed l 2 ws small (omega arith) (omega (arith, m.few)) (built.good-filled p.types count ws k) i.1 (All-tail (λ w. IsSmallFeed w.feed) (wire (Named name) (One integer)) ws m.feeds) (λ j y. subst IsValueWant (sym (wants j)) (later r j y)))
          where
            same-row : (x y : Simple) → Row x ≡ Row y → x ≡ y
            same-row x y e = cc

            there : ⊥ ⊎ In (One integer) lines → In (One integer) lines
            there (inl y) = absurd y
            there (inr y) = y

            later : (r : Grouping) (j : ℕ) → 2 ≤ j → IsValueWant (wanted (operand_of (simple.Reduce r) j))
            later r zero i = absurd (omega (arith, i))
            later r (suc zero) i = absurd (omega (arith, i))
            later r (suc (suc j)) i = reduce-want r j
        filling op _ _ (fills_call f ws h k) e w i m = absurd cc
    node-edges-formed n l (Call f) ws s small h c i k = filling ws (Call f) h refl (row-wants p u t.types count g l n simple.Call s.found (op-of n (listed_node l (Call f)) s.listed)) i k
      where
        filling : (ws : List Wire) (a : Action) → Fills p.types count a ws → a ≡ Call f → ((port : ℕ) → want_at g l port ≡ wanted (operand_of simple.Call port)) → WiresIn lines ws → AreSmall ws → All IsFormedEdge (node_edges p l (Call f) ws)
        filling _ _ (fills_row x ws h k) e w i m = absurd cc
        filling _ _ (fills_reduction r name ws h k) e w i m = absurd cc
        filling _ _ (fills_call x ws h k) e w i m =
            let name = called_name p (slice_get p.functions f) in
            let below : f < count = subst (λ y. y < count) (same-call x f e) h in
            All-cons IsFormedEdge (edge l 1 (type_label_of p (Callee f)) (origin.Lit name)) (edges_into p l 2 ws)
            (record {
              source = (called-quotable p fit.quotable (slice_get p.functions f), refl, subst (λ x. FitsAt p u t.types x name (type_label_of p (Callee f))) (sym (w 1)) (callee-origin p u t.types f (found f below)));
              node = small;
              port = (omega arith, omega arith);
              ty = whole (Callee f) c;
              name = refl;
            })
            (block-formed l 2 ws small (omega arith) (omega (arith, m.few)) (built.good-filled p.types count ws k) i m.feeds (λ j y. subst IsValueWant (sym (w j)) (later j y)))
          where
            same-call : (x y : ℕ) → Call x ≡ Call y → x ≡ y
            same-call x y e = cc

            later : (j : ℕ) → 2 ≤ j → IsValueWant (wanted (operand_of simple.Call j))
            later zero i = absurd (omega (arith, i))
            later (suc zero) i = absurd (omega (arith, i))
            later (suc (suc j)) i = call-want j
    node-edges-formed n l (Whole x gs arms given outs) ws s small h c i k =
        let w = whole-wants p u t.types count g l n x s.found (op-of n (listed_node l (Whole x gs arms given outs)) s.listed) in
        block-formed l 1 ws small (omega arith) (omega (arith, k.few)) (built.good-filled p.types count ws h.0) i k.feeds (λ j y. subst IsValueWant (sym (w j)) tt)
