-- The ports of a unit hold, at each place: what stands there obeys the rules as a function or as a part of a node.
use Rattle.std.proofs.Common.{◌≡◌, ℕ, zero, suc, ◌+◌, ◌<◌, ◌≤◌, List, [], ◌∷◌, ◌++◌, map, length, slice_get, Option, Some, None, refl, sym, ap, subst, ◌∙◌, arith, option_map, ◌==◌}
use Rattle.std.specs.Prelude.{All, unwrap_or}
use Rattle.std.proofs.lemmas.List.{length-map}
use Rattle.std.proofs.lemmas.List.Elements.{All-nil, All-cons, All-append, All-map, All-weaker, All-filter}
use Rattle.if1_graph.specs.declared.graph.Edge.{Edge}
use Rattle.if1_graph.specs.declared.graph.Graph.{Graph}
use Rattle.if1_graph.specs.declared.graph.Graph.TheViews.{out-Graph}
use Rattle.if1_graph.specs.declared.graph.Node.{Node, out-Node}
use Rattle.if1_graph.specs.declared.graph.Origin.{Origin}
use Rattle.if1_graph.specs.declared.graph.Origin.TheVariants as origin
use Rattle.if1_graph.specs.declared.graph.Unit1.{Unit1}
use Rattle.if1_graph.specs.declared.op.Compound.{Compound}
use Rattle.if1_graph.specs.declared.op.Compound.TheVariants as compound
use Rattle.if1_graph.specs.declared.op.Part.{Part}
use Rattle.if1_graph.specs.declared.op.Part.TheVariants as role
use Rattle.if1_graph.specs.Parts.{part_at}
use Rattle.if1_graph.specs.Ports.{count_from, AreFirst, IsUpTo, arguments_of, results_of, part_of, inputs, IsThere, wanted_results, IsEndFilled, ArePortsRight}
use Rattle.if1_graph.specs.Ports as unit_ports
use Rattle.if1_graph.specs.Ready.{PortsHold}
use Rattle.if1_graph.specs.Tables.{◌>>=◌, at_port}
use Rattle.if1_graph.specs.Types.{Sort, sort_at}
use Rattle.if1_graph.specs.Typing.{IsListed}
use Rattle.if1_graph.specs.Units as units
use Rattle.if1_graph.specs.Units.{greatest, label_of, node_at, width, results, ports_into, Home, Function, Inside, Place, places, ends}
use Rattle.flow_value.specs.declared.ty.Ty.{Ty}
use Rattle.typed_tree.specs.declared.program.Program.{Program}
use Rattle.lowering.specs.declared.feed.Feed.{Feed}
use Rattle.lowering.specs.declared.feed.Feed.TheVariants.{Literal, Named, Absent, Port}
use Rattle.lowering.specs.declared.feed.Carried.{Carried}
use Rattle.lowering.specs.declared.feed.Carried.TheVariants.{Callee}
use Rattle.lowering.specs.declared.feed.Wire.{Wire}
use Rattle.lowering.specs.declared.graph.Action.{Action}
use Rattle.lowering.specs.declared.graph.Action.TheVariants.{Row, Call, Whole}
use Rattle.lowering.specs.declared.graph.LoweredNode.{LoweredNode}
use Rattle.lowering.specs.declared.graph.LoweredGraph.{LoweredGraph}
use Rattle.lowering.specs.Programs.{graph_at}
use Rattle.lowering.specs.Types.{label_of as type_label}
use Rattle.type_table.specs.declared.form.Form.{Form}
use Rattle.lowered_units.specs.Fitting.{IsFitting}
use Rattle.lowered_units.specs.Units.{origin_of, edge_if, edges_into, node_edges, edges_of, listed_node, IsTranslated}
use Rattle.lowered_units.proofs.Built.{IsGoodFeed, AreGood, AreParts}
use Rattle.lowered_units.proofs.Codes.{number_in}
use Rattle.lowered_units.proofs.Named.{match}
use Rattle.lowered_units.proofs.Ordered.{labels-are}
use Rattle.lowered_units.proofs.Programs.{functions, right-of}
use Rattle.lowered_units.proofs.Rights.{count, IsRightNode, AreRight as AreRightNodes}
use Rattle.lowered_ready.specs.Ports.{filled}
use Rattle.lowered_ready.specs.Parts.{IsShown, IsPartInput, part_inputs, part_results}
use Rattle.lowered_ready.specs.Rules.{IsGraph, ArePartsRight as PartsObey, HasPartsRight, AreRight}
use Rattle.lowered_ready.specs.Shapes.{IsGraphOf, ArePartsLowered, IsPartOf, IsShaped}
use Rattle.lowered_ready.proofs.Ends.{IsAtNode, lowered-node, own-node, no-boundary-node}
use Rattle.lowered_ready.proofs.Places.{all-shaped}
use Rattle.lowered_ready.proofs.Reading.{AreShown, shown-ports, greatest-first, IsGraphSorted, results-ports, results-are, node-filled}
use Rattle.lowered_ready.proofs.Nodes.{row-node, call-node, whole-node, are-of, of-at, AllShown, inputs-same, wanted-same}
use Rattle.lowered_ready.proofs.Knowing.{AreHeadersSorted}
use Rattle.lowered_ready.proofs.Lists.{first-count, all-at, below-length, one-some}
use Rattle.lowered_ready.proofs.PortSources.{Gives, IsSourced}
use Rattle.lowered_ready.proofs.Filling.{outs-node, node-outs, edges-sourced, its-filled, its-outputs}

-- ---- wires that are shown

good-shown : (forms : List Form) (n : ℕ) (ws : List Wire) → AreGood forms n ws → AreShown ws
good-shown forms n [] h = tt
good-shown forms n (w ∷ ws) h = (one w.feed w.ty h.0, good-shown forms n ws h.1)
  where
    one : (f : Feed) (c : Carried) → IsGoodFeed forms n f c → IsShown f
    one (Literal x) c h = tt
    one (Port up m q) c h = tt
    one (Named s) c h = absurd h
    one Absent c h = absurd h

-- ---- labels are no more than there are nodes

abbrev IsUpToNode : ℕ → ℕ → Type 0
IsUpToNode most l = l ≤ most

counted-within : (most k n : ℕ) → k + n ≤ suc most → All (IsUpToNode most) (count_from k n)
counted-within most k zero h = All-nil (IsUpToNode most)
counted-within most k (suc n) h = All-cons (IsUpToNode most) k (count_from (suc k) n) (omega (arith, h)) (counted-within most (suc k) n (omega (arith, h)))

module _ (p : Program) (most : ℕ) where
  abbrev Leads : Edge → Type 0
  Leads e = e.node ≤ most

  block-leads : (node port : ℕ) (ws : List Wire) → node ≤ most → All Leads (edges_into p node port ws)
  block-leads node port [] l = All-nil Leads
  block-leads node port (w ∷ ws) l = All-append Leads (edge_if node port (type_label p w.ty) (origin_of w.feed)) (edges_into p node (suc port) ws) (one (origin_of w.feed)) (block-leads node (suc port) ws l)
    where
      one : (o : Option Origin) → All Leads (edge_if node port (type_label p w.ty) o)
      one None = All-nil Leads
      one (Some o) = All-cons Leads _ [] l (All-nil Leads)

  node-leads : (label : ℕ) (a : Action) (ws : List Wire) → label ≤ most → All Leads (node_edges p label a ws)
  node-leads label (Row op) ws l = block-leads label 1 ws l
  node-leads label (Call f) ws l = All-cons Leads _ (edges_into p label 2 ws) l (block-leads label 2 ws l)
  node-leads label (Whole c gs arms given outs) ws l = block-leads label 1 ws l

  edges-lead : (label : ℕ) (vs : List LoweredNode) (rs : List Wire) → label + length vs ≤ suc most → All Leads (edges_of p label vs rs)
  edges-lead label [] rs l = block-leads 0 1 rs (omega arith)
  edges-lead label (v ∷ vs) rs l =
      All-append Leads (node_edges p label v.action v.ins) (edges_of p (suc label) vs rs) (node-leads label v.action v.ins (omega (arith, l))) (edges-lead (suc label) vs rs (omega (arith, l)))

ends-within : (p : Program) (g : Graph) (d : LoweredGraph) → IsGraphOf p g d → All (IsUpToNode (length d.nodes)) (ends g)
ends-within p g d is =
    let most = length d.nodes in
    let labels = labels-are 1 (out-Graph g).nodes d.nodes (match 1 (out-Graph g).nodes d.nodes is.nodes) in
    All-cons (IsUpToNode most) 0 (map label_of (out-Graph g).nodes ++ map (λ (e : Edge). e.node) (out-Graph g).edges) (omega arith)
    (All-append (IsUpToNode most) (map label_of (out-Graph g).nodes) (map (λ (e : Edge). e.node) (out-Graph g).edges)
    (subst (All (IsUpToNode most)) (sym labels) (counted-within most 1 most (omega arith)))
    (All-map (IsUpToNode most) (λ (e : Edge). e.node) (out-Graph g).edges (subst (All (Leads p most)) (sym is.edges) (edges-lead p most 1 d.nodes d.results (omega arith)))))

node-there : (vs : List LoweredNode) (i : ℕ) → suc i ≤ length vs → (v : LoweredNode) × (slice_get vs i ≡ Some v)
node-there [] i l = absurd (omega (arith, l))
node-there (v ∷ vs) zero l = (v, refl)
node-there (v ∷ vs) (suc i) l = node-there vs i (omega (arith, l))

listed-up : (ts : Option (List Ty)) (q : ℕ) (t : Ty) → (ts >>= at_port q) ≡ Some t → IsUpTo (option_map length ts) q
listed-up None q t e = tt
listed-up (Some l) zero t e = omega arith
listed-up (Some l) (suc q) t e = below-length l q t e

-- the graphs of a compound node are parts of it
part-there : (c : Compound) (ks : List ℕ) (given outs k : ℕ) → AreParts c ks given outs → k < length ks → (x : Part) × (part_at c k ≡ Some x)
part-there compound.TagCase ks given outs k h l = (role.Arm, refl)
part-there compound.Select (a ∷ b ∷ c ∷ []) given outs zero h l = (role.Selector, refl)
part-there compound.Select (a ∷ b ∷ c ∷ []) given outs (suc k) h l = (role.Alternative, refl)
part-there compound.ForAll (a ∷ b ∷ c ∷ []) given outs zero h l = (role.Generator, refl)
part-there compound.ForAll (a ∷ b ∷ c ∷ []) given outs (suc zero) h l = (role.Body, refl)
part-there compound.ForAll (a ∷ b ∷ c ∷ []) given outs (suc (suc zero)) h l = (role.Returns, refl)
part-there compound.ForAll (a ∷ b ∷ c ∷ []) given outs (suc (suc (suc k))) h l = absurd (omega (arith, l))
part-there compound.LoopA (a ∷ b ∷ c ∷ e ∷ []) given outs zero h l = (role.Initialization, refl)
part-there compound.LoopA (a ∷ b ∷ c ∷ e ∷ []) given outs (suc zero) h l = (role.Test, refl)
part-there compound.LoopA (a ∷ b ∷ c ∷ e ∷ []) given outs (suc (suc zero)) h l = (role.Body, refl)
part-there compound.LoopA (a ∷ b ∷ c ∷ e ∷ []) given outs (suc (suc (suc zero))) h l = (role.Returns, refl)
part-there compound.LoopA (a ∷ b ∷ c ∷ e ∷ []) given outs (suc (suc (suc (suc k)))) h l = absurd (omega (arith, l))
part-there compound.LoopB (a ∷ b ∷ c ∷ e ∷ []) given outs zero h l = (role.Initialization, refl)
part-there compound.LoopB (a ∷ b ∷ c ∷ e ∷ []) given outs (suc zero) h l = (role.Test, refl)
part-there compound.LoopB (a ∷ b ∷ c ∷ e ∷ []) given outs (suc (suc zero)) h l = (role.Body, refl)
part-there compound.LoopB (a ∷ b ∷ c ∷ e ∷ []) given outs (suc (suc (suc zero))) h l = (role.Returns, refl)
part-there compound.LoopB (a ∷ b ∷ c ∷ e ∷ []) given outs (suc (suc (suc (suc k)))) h l = absurd (omega (arith, l))
part-there c ks given outs k h l = absurd h

module _ (p : Program) (u : Unit1) (fit : IsFitting p) (t : IsTranslated p u) (sort : Carried → Sort) (headers : AreHeadersSorted p u sort)
    (sorted : (q : ℕ) (d : LoweredGraph) → graph_at p q ≡ Some d → IsGraphSorted p u sort d) (rules : AreRight sort p) where
  abbrev at : ℕ → Option LoweredGraph
  at = graph_at p

  right-node : (vs : List LoweredNode) (i : ℕ) (v : LoweredNode) → AreRightNodes p.types (functions p fit) at vs → slice_get vs i ≡ Some v → IsRightNode p.types (functions p fit) at v.action v.ins
  right-node [] i v h e = absurd cc
  right-node (x ∷ vs) zero v h e = subst (λ (y : LoweredNode). IsRightNode p.types (functions p fit) at y.action y.ins) (one-some x v e) h.0
  right-node (x ∷ vs) (suc i) v h e = right-node vs i v h.1 e

  results-shown : (q : ℕ) (d : LoweredGraph) → at q ≡ Some d → AreShown d.results
  results-shown q d e = good-shown p.types (functions p fit) d.results (right-of p fit q d e).1

  all-shown : (gs : List LoweredGraph) (numbers : List ℕ) → map at numbers ≡ map Some gs → AllShown p gs
  all-shown [] ns e = tt
  all-shown (d ∷ gs) [] e = absurd cc
  all-shown (d ∷ gs) (n ∷ ns) e = (results-shown n d (first e), all-shown gs ns (others e))
    where
      first : (at n ∷ map at ns) ≡ (Some d ∷ map Some gs) → at n ≡ Some d
      first e = cc

      others : (at n ∷ map at ns) ≡ (Some d ∷ map Some gs) → map at ns ≡ map Some gs
      others e = cc

  -- ---- the ends of a graph

  module _ (home : Home) (g : Graph) (d : LoweredGraph) (is : IsGraphOf p g d) (inside : (i : ℕ) (n : Node) → slice_get (out-Graph g).nodes i ≡ Some n → ArePartsLowered p n)
      (part : Option (Compound × Part)) (In : ℕ → Sort → Type 0) (obeys : IsGraph sort at part In d)
      (up : (q : ℕ) (s : Sort) → In q s → IsUpTo (inputs u (record { graph = g; home = home })) q)
      (wanted : wanted_results u (record { graph = g; home = home }) ≡ length d.results) where
    abbrev place : Place
    place = record { graph = g; home = home }

    abbrev sorts : IsGraphSorted p u sort d
    sorts = sorted (out-Graph g).number d is.there

    abbrev Source : Edge → Type 0
    Source e = IsSourced p u sort at In obeys.outs e

    node-obeys : (i : ℕ) (v : LoweredNode) → slice_get d.nodes i ≡ Some v → IsRightNode p.types (functions p fit) at v.action v.ins
    node-obeys i v e = right-node d.nodes i v (right-of p fit (out-Graph g).number d is.there).0 e

    there-is : (o : Origin) (c : Carried) → Gives p u sort at In obeys.outs o c → IsThere u place o
    there-is (origin.Lit text) c h = tt
    there-is (origin.Port zero q) c h = up q (sort c) h
    there-is (origin.Port (suc i) q) c h =
        let v = node-outs sort at part In obeys.outs d.nodes obeys.outs obeys.nodes i h.0 h.1 in
        let n = own-node p g d is i v.0 v.1 in
        (n.0, n.1.stands.found, its-outputs p u fit t sort headers g d is sorts part In obeys.outs obeys.nodes obeys.results i n.0 v.0 n.1 (node-obeys i v.0 v.1) h.0 h.1 (inside i n.0 n.1.own) all-shown v.2 q c h.2)

    all-there : (l : ℕ) → All (λ e. IsThere u place e.from) (units.edges_into g l)
    all-there l =
        All-weaker Source (λ (e : Edge). IsThere u place e.from) (λ e s. there-is e.from s.carried s.gives) (units.edges_into g l)
        (All-filter (λ (e : Edge). e.node == l) Source (out-Graph g).edges (edges-sourced p u fit t sort headers g d is sorts part In obeys.outs obeys.nodes obeys.results))

    end-right : (l : ℕ) → l ≤ length d.nodes → ArePortsRight u place l
    end-right zero few =
        let count : ports_into g 0 ≡ count_from 1 (length d.results) = results-ports p g d is ∙ shown-ports 1 d.results (results-shown (out-Graph g).number d is.there) in
        record {
          filled = subst (IsEndFilled u place 0) (sym (no-boundary-node p g d is))
              (subst (λ k. AreFirst k (ports_into g 0)) (sym wanted) (subst (AreFirst (length d.results)) (sym count) (first-count (length d.results))));
          sources = all-there 0;
        }
    end-right (suc i) few =
        let v = node-there d.nodes i few in
        let n = own-node p g d is i v.0 v.1 in
        let o = outs-node sort at part In obeys.outs d.nodes obeys.outs obeys.nodes i v.0 v.1 in
        record {
          filled = subst (IsEndFilled u place (suc i)) (sym n.1.stands.found)
              (its-filled p u fit t sort headers g d is sorts part In obeys.outs obeys.nodes obeys.results i n.0 v.0 n.1 (node-obeys i v.0 v.1) o.0 o.1 (inside i n.0 n.1.own) o.2);
          sources = all-there (suc i);
        }

    ends-right : All (ArePortsRight u place) (ends g)
    ends-right = All-weaker (IsUpToNode (length d.nodes)) (ArePortsRight u place) end-right (ends g) (ends-within p g d is)

  -- ---- a function

  function-right : (k : ℕ) (g : Graph) → IsShaped p (record { graph = g; home = Function k }) → All (ArePortsRight u (record { graph = g; home = Function k })) (ends g)
  function-right k g h =
      let f = h.home.0 in
      let stood = h.home.1 in
      let d = h.graph in
      let r = rules.functions k f d stood.there (sym (ap at stood.number) ∙ h.is.there) in
      let header : sort_at u.types (out-Graph g).fun ≡ Some (sort (Callee k)) = ap (sort_at u.types) stood.fun ∙ headers k f stood.there in
      ends-right (Function k) g d h.is h.inside None (IsListed (arguments_of (Some (sort (Callee k))))) r.graph
      (λ q s y. subst (λ o. IsUpTo (option_map length (arguments_of o)) q) (sym header) (listed-up (arguments_of (Some (sort (Callee k)))) q y.0 y.1))
      (ap (λ o. unwrap_or (option_map length (results_of o)) (results g)) (header ∙ ap Some r.header) ∙ sym r.count)

  -- ---- a part of a node

  module _ (outer : Graph) (n : Node) (k : ℕ) (g : Graph) (inside : (i : ℕ) (m : Node) → slice_get (out-Graph g).nodes i ≡ Some m → ArePartsLowered p m) (stood : IsPartOf p outer n k g) where
    abbrev inner : Place
    inner = record { graph = g; home = Inside outer n k }

    no-part : (out-Node n).subs ≡ [] → All (ArePortsRight u inner) (ends g)
    no-part e = absurd (none (sym (ap (λ gs. slice_get gs k) e) ∙ stood.part))
      where
        none : None ≡ Some g → ⊥
        none e = cc

    part-right : (v : LoweredNode) → IsAtNode p outer stood.around stood.is stood.place n v → (c : Compound) (numbers arms : List ℕ) (given many : ℕ) → v.action ≡ Whole c numbers arms given many
        → AreGood p.types (functions p fit) v.ins → AreParts c (map (count p.types (functions p fit) at) numbers) given many → PartsObey sort at (Whole c numbers arms given many) v.ins → All (ArePortsRight u inner) (ends g)
    part-right v s c numbers arms given many e good counts obey =
        let gs = obey.0 in
        let ss = (out-Node n).subs in
        let m = whole-node n (suc stood.place) c numbers arms given many (s.stands.listed ∙ ap (listed_node (suc stood.place)) e) in
        let are = are-of p ss stood.parts gs (ap (map at) m.parts ∙ obey.1) in
        let mine = of-at p ss gs are k g stood.part in
        let d = mine.graph in
        let size : length ss ≡ length numbers = sym (length-map ss number_in) ∙ ap length m.parts in
        let few : k < length (map (count p.types (functions p fit) at) numbers) = omega (arith, below-length ss k g stood.part, size, length-map numbers (count p.types (functions p fit) at)) in
        let use_of = part-there c (map (count p.types (functions p fit) at) numbers) given many k counts few in
        let r = obey.2 k use_of.0 d use_of.1 mine.there in
        let shown = all-shown gs numbers obey.1 in
        let kind : part_of n k ≡ Some (c, use_of.0) = ap (λ o. o >>= λ c. part_at c k >>= λ x. Some (c, x)) m.kind ∙ ap (λ o. o >>= λ x. Some (c, x)) use_of.1 in
        let wide : width outer (label_of n) ≡ length v.ins =
        ap (width outer) s.label ∙ (ap greatest (node-filled p outer stood.around stood.is stood.place n v s ∙ ap (λ a. filled a v.ins) e ∙ shown-ports 1 v.ins (good-shown p.types (functions p fit) v.ins good)) ∙ greatest-first (length v.ins)) in
        let ins : inputs u inner ≡ Some (part_inputs c use_of.0 (length v.ins) gs) =
        ap (λ o. option_map (λ (cp : Compound × Part). unit_ports.part_inputs cp.0 cp.1 (width outer (label_of n)) ss) o) kind
        ∙ ap Some (ap (λ w. unit_ports.part_inputs c use_of.0 w ss) wide ∙ inputs-same p c use_of.0 (length v.ins) ss gs are shown) in
        let own : results g ≡ length d.results = results-are p g d mine.is (results-shown (out-Graph g).number d mine.is.there) in
        let want : wanted_results u inner ≡ length d.results =
        ap (λ o. unwrap_or (option_map (λ (cp : Compound × Part). unit_ports.part_results cp.0 cp.1 ss (results g)) o) (results g)) kind
        ∙ (wanted-same p c use_of.0 (results g) ss gs are shown ∙ (ap (λ i. part_results c use_of.0 gs i) own ∙ sym r.count)) in
        ends-right (Inside outer n k) g d mine.is inside (Some (c, use_of.0)) (IsPartInput sort c use_of.0 v.ins arms gs k) r.graph
        (λ q x y. subst (λ o. IsUpTo o q) (sym ins) y.1)
        want

    inner-right : All (ArePortsRight u inner) (ends g)
    inner-right =
        let v = lowered-node p outer stood.around stood.is stood.place n stood.node in
        let right = right-node stood.around.nodes stood.place v.0 (right-of p fit (out-Graph outer).number stood.around stood.is.there).0 v.1.lowered in
        let obey = all-at (HasPartsRight sort at) stood.around.nodes (rules.parts (out-Graph outer).number stood.around stood.is.there) stood.place v.0 v.1.lowered in
        by v.0 v.1 v.0.action refl right obey
      where
        by : (v : LoweredNode) → IsAtNode p outer stood.around stood.is stood.place n v → (a : Action) → v.action ≡ a → IsRightNode p.types (functions p fit) at v.action v.ins → PartsObey sort at v.action v.ins → All (ArePortsRight u inner) (ends g)
        by v s (Row op) e r o = no-part (row-node n (suc stood.place) op (s.stands.listed ∙ ap (listed_node (suc stood.place)) e)).no_graphs
        by v s (Call f) e r o = no-part (call-node n (suc stood.place) f (s.stands.listed ∙ ap (listed_node (suc stood.place)) e)).no_graphs
        by v s (Whole c numbers arms given many) e r o =
            let x = subst (λ a. IsRightNode p.types (functions p fit) at a v.ins) e r in
            part-right v s c numbers arms given many e x.0 x.1 (subst (λ a. PartsObey sort at a v.ins) e o)

  -- ---- the unit

  place-right : (home : Home) (g : Graph) → IsShaped p (record { graph = g; home = home }) → All (ArePortsRight u (record { graph = g; home = home })) (ends g)
  place-right (Function k) g h = function-right k g h
  place-right (Inside outer n k) g h = inner-right outer n k g h.inside h.home

  pub ports-hold : PortsHold u
  ports-hold = All-weaker (IsShaped p) (λ (x : Place). All (ArePortsRight u x) (ends x.graph)) (λ x h. place-right x.home x.graph h) (places u) (all-shaped p u t)
