-- What is known of the graph at a place of a unit: the rules of lowered graphs, with its inputs and results.
use Rattle.std.proofs.Common.{◌≡◌, ℕ, zero, suc, ◌<◌, List, [], ◌∷◌, map, length, slice_get, Option, Some, None, refl, sym, ap, subst, ◌∙◌, arith}
use Rattle.std.specs.Prelude.{MatchOption}
use Rattle.std.proofs.lemmas.List.{length-map}
use Rattle.std.proofs.lemmas.Option.{slice_get_within}
use Rattle.if1_graph.specs.declared.graph.Graph.{Graph}
use Rattle.if1_graph.specs.declared.graph.Graph.TheViews.{out-Graph}
use Rattle.if1_graph.specs.declared.graph.Node.{Node, out-Node}
use Rattle.if1_graph.specs.declared.graph.Unit1.{Unit1}
use Rattle.if1_graph.specs.declared.op.Compound.{Compound}
use Rattle.if1_graph.specs.declared.op.Compound.TheVariants as compound
use Rattle.if1_graph.specs.declared.op.Part.{Part}
use Rattle.if1_graph.specs.declared.op.Part.TheVariants as part
use Rattle.if1_graph.specs.Ops.{compound_at}
use Rattle.if1_graph.specs.Parts.{part_at}
use Rattle.if1_graph.specs.Ports.{part_of, arguments_of, results_of, carried as carried_in}
use Rattle.if1_graph.specs.Tables.{◌>>=◌}
use Rattle.if1_graph.specs.Types.{Sort, sort_at}
use Rattle.if1_graph.specs.Typing.{IsListed, home_part, function_type, FitsInput, FitsBoundary, IsHeaderTyped, IsFunctionType}
use Rattle.if1_graph.specs.Typing as typing
use Rattle.if1_graph.specs.Units.{label_of, greatest, width, Home, Function, Inside}
use Rattle.typed_tree.specs.declared.program.Function as typed
use Rattle.typed_tree.specs.declared.program.Program.{Program}
use Rattle.lowering.specs.declared.feed.Feed.{Feed}
use Rattle.lowering.specs.declared.feed.Feed.TheVariants.{Literal, Named, Absent, Port}
use Rattle.lowering.specs.declared.feed.Carried.{Carried}
use Rattle.lowering.specs.declared.feed.Carried.TheVariants.{Callee}
use Rattle.lowering.specs.declared.feed.Wire.{Wire}
use Rattle.lowering.specs.declared.graph.Action.{Action}
use Rattle.lowering.specs.declared.graph.Action.TheVariants.{Row, Call, Whole}
use Rattle.lowering.specs.declared.graph.LoweredNode.{LoweredNode}
use Rattle.lowering.specs.declared.graph.LoweredGraph.{LoweredGraph}
use Rattle.lowering.specs.Programs.{graph_at}
use Rattle.lowered_units.specs.Fitting.{IsFitting}
use Rattle.lowered_units.specs.Units.{node_edges, listed_node, IsTranslated}
use Rattle.lowered_units.proofs.Blocks.{port_of, block-width}
use Rattle.lowered_units.proofs.Built.{AreParts, AreGood}
use Rattle.lowered_units.proofs.Built as built
use Rattle.lowered_units.proofs.Codes.{compound-is, number_in}
use Rattle.lowered_units.proofs.Nets.{parts-of, assoc-of}
use Rattle.lowered_units.proofs.Programs.{functions}
use Rattle.lowered_units.proofs.Rights.{IsRightNode, count}
use Rattle.lowered_ready.specs.Sorts.{callee_sort, sort_of}
use Rattle.lowered_ready.specs.SortLaws.{HasHeaderSort, IsReadBack}
use Rattle.lowered_ready.specs.Ports.{sort_in, sort_into}
use Rattle.lowered_ready.specs.Parts.{AreResults, IsPartInput}
use Rattle.lowered_ready.specs.Rules.{IsGraph, ArePartsRight, HasPartsRight, AreListed, AreRight}
use Rattle.lowered_ready.specs.Shapes.{IsGraphOf, IsFunctionOf, IsPartOf, StandsAt}
use Rattle.lowered_ready.proofs.Ends.{IsAtNode, lowered-node}
use Rattle.lowered_ready.proofs.Known.{all-at, node-carries}
use Rattle.lowered_ready.proofs.Parts.{ArePaired, pairs, pair-at, fits-result, fits-input}
use Rattle.lowered_ready.proofs.TypeSources.{right-node, op-is}

-- ---- wires that fit, from a port on

abbrev pub IfFilled : Feed → Type 0 → Type 0
IfFilled Absent A = Unit {0}
IfFilled f A = A

pub if-filled : {A : Type 0} (f : Feed) → A → IfFilled f A
if-filled Absent a = tt
if-filled (Literal c) a = a
if-filled (Named s) a = a
if-filled (Port up n q) a = a

module _ (sort : Carried → Sort) where
  abbrev pub AllFit : (ℕ → Sort → Type 0) → ℕ → List Wire → Type 0
  AllFit W port [] = Unit {0}
  AllFit W port (w ∷ ws) = IfFilled w.feed (W port (sort w.ty)) × AllFit W (suc port) ws

  pub fit-map : (V W : ℕ → Sort → Type 0) → ((port : ℕ) (s : Sort) → V port s → W port s) → (port : ℕ) (ws : List Wire) → AllFit V port ws → AllFit W port ws
  fit-map V W f port [] h = tt
  fit-map V W f port (w ∷ ws) h = (one w.feed h.0, fit-map V W f (suc port) ws h.1)
    where
      one : (x : Feed) → IfFilled x (V port (sort w.ty)) → IfFilled x (W port (sort w.ty))
      one Absent k = tt
      one (Literal c) k = f port (sort w.ty) k
      one (Named s) k = f port (sort w.ty) k
      one (Port up n q) k = f port (sort w.ty) k

-- ---- the part at a place

part-there : (c : Compound) (ks : List ℕ) (given outs : ℕ) → AreParts c ks given outs → (k : ℕ) → k < length ks → (x : Part) × (part_at c k ≡ Some x)
part-there compound.Select (s ∷ a ∷ b ∷ []) given outs h zero l = (part.Selector, refl)
part-there compound.Select (s ∷ a ∷ b ∷ []) given outs h (suc k) l = (part.Alternative, refl)
part-there compound.TagCase (g ∷ gs) given outs h k l = (part.Arm, refl)
part-there compound.ForAll (g ∷ b ∷ r ∷ []) given outs h zero l = (part.Generator, refl)
part-there compound.ForAll (g ∷ b ∷ r ∷ []) given outs h (suc zero) l = (part.Body, refl)
part-there compound.ForAll (g ∷ b ∷ r ∷ []) given outs h (suc (suc zero)) l = (part.Returns, refl)
part-there compound.ForAll (g ∷ b ∷ r ∷ []) given outs h (suc (suc (suc k))) l = absurd (omega (arith, l))
part-there compound.LoopA (i ∷ x ∷ b ∷ r ∷ []) given outs h zero l = (part.Initialization, refl)
part-there compound.LoopA (i ∷ x ∷ b ∷ r ∷ []) given outs h (suc zero) l = (part.Test, refl)
part-there compound.LoopA (i ∷ x ∷ b ∷ r ∷ []) given outs h (suc (suc zero)) l = (part.Body, refl)
part-there compound.LoopA (i ∷ x ∷ b ∷ r ∷ []) given outs h (suc (suc (suc zero))) l = (part.Returns, refl)
part-there compound.LoopA (i ∷ x ∷ b ∷ r ∷ []) given outs h (suc (suc (suc (suc k)))) l = absurd (omega (arith, l))
part-there compound.LoopB (i ∷ x ∷ b ∷ r ∷ []) given outs h zero l = (part.Initialization, refl)
part-there compound.LoopB (i ∷ x ∷ b ∷ r ∷ []) given outs h (suc zero) l = (part.Test, refl)
part-there compound.LoopB (i ∷ x ∷ b ∷ r ∷ []) given outs h (suc (suc zero)) l = (part.Body, refl)
part-there compound.LoopB (i ∷ x ∷ b ∷ r ∷ []) given outs h (suc (suc (suc zero))) l = (part.Returns, refl)
part-there compound.LoopB (i ∷ x ∷ b ∷ r ∷ []) given outs h (suc (suc (suc (suc k)))) l = absurd (omega (arith, l))
part-there c ks given outs h k l = absurd h

module _ (p : Program) (u : Unit1) (fit : IsFitting p) (t : IsTranslated p u) (back : IsReadBack p u) (right : AreRight (sort_of p) p) where
  abbrev sort : Carried → Sort
  sort c = sort_of p c

  -- the rules of the lowered graph at a place
  pub record IsRuledPlace (home : Home) (g : Graph) : Type 1 where
    pub lowered : LoweredGraph
    pub is : IsGraphOf p g lowered
    pub part : Option (Compound × Part)
    pub stands : home_part home ≡ part
    pub In : ℕ → Sort → Type 0
    pub graph : IsGraph sort (graph_at p) part In lowered
    pub inputs : (q : ℕ) (s : Sort) → In q s → FitsInput u g home q s
    pub results : AllFit sort (FitsBoundary u g home) 1 lowered.results
    pub header : IsHeaderTyped u g home

  -- ---- functions

  listed-results : (f : Option Sort) (port : ℕ) (ws : List Wire) → AreListed sort (graph_at p) f port ws → AllFit sort (IsListed (results_of f)) port ws
  listed-results f port [] h = tt
  listed-results f port (w ∷ ws) h = (if-filled w.feed h.0.1, listed-results f (suc port) ws h.1)

  function-ruled : (k : ℕ) (g : Graph) (d : LoweredGraph) → IsGraphOf p g d → (f : typed.Function) → IsFunctionOf p k f g → IsRuledPlace (Function k) g
  function-ruled k g d a f h =
      let r = right.functions k f d h.there (ap (graph_at p) (sym h.number) ∙ a.there) in
      let type : function_type u g ≡ Some (sort (Callee k)) =
      ap (sort_at u.types) h.fun ∙ (all-at (HasHeaderSort p u) p.functions k f back.headers h.there ∙ ap (λ o. Some (callee_sort p o)) (sym h.there)) in
      record {
        lowered = d;
        is = a;
        part = None;
        stands = refl;
        In = IsListed (arguments_of (Some (sort (Callee k))));
        graph = r.graph;
        inputs = λ q s i. subst (λ o. IsListed (arguments_of o) q s) (sym type) i;
        results = subst (λ o. AllFit sort (IsListed (results_of o)) 1 d.results) (sym type) (listed-results (Some (sort (Callee k))) 1 d.results r.results);
        header = (r.arguments, r.given, type ∙ ap Some r.header);
      }

  -- ---- parts of nodes

  module _ (outer : Graph) (n : Node) (k : ℕ) (g : Graph) (h : IsPartOf p outer n k g) where
    around : (v : LoweredNode) × IsAtNode p outer h.around h.is h.place n v
    around = lowered-node p outer h.around h.is h.place n h.node

    at : IsAtNode p outer h.around h.is h.place n around.0
    at = around.1

    no-graph : (numbers : List ℕ) → map number_in (out-Node n).subs ≡ numbers → numbers ≡ [] → ⊥
    no-graph numbers e none = by (out-Node n).subs (e ∙ none) h.part
      where
        by : (ss : List Graph) → map number_in ss ≡ [] → slice_get ss k ≡ Some g → ⊥
        by [] e s = absurd cc
        by (x ∷ ss) e s = absurd cc

    parts-are : (b : Action) → around.0.action ≡ b → map number_in (out-Node n).subs ≡ (listed_node (suc h.place) b).parts
    parts-are b e = parts-of n (listed_node (suc h.place) around.0.action) at.stands.listed ∙ ap (λ (y : Action). (listed_node (suc h.place) y).parts) e

    fit-results : (c : Compound) (x : Part) (gs : List LoweredGraph) → ArePaired p (out-Node n).subs gs → (port : ℕ) (ws : List Wire) → AreResults sort c x gs port ws → AllFit sort (typing.FitsResult u c x (out-Node n).subs) port ws
    fit-results c x gs paired port [] r = tt
    fit-results c x gs paired port (w ∷ ws) r = (if-filled w.feed (fits-result p u fit back (out-Node n).subs gs paired c x port (sort w.ty) r.0.1), fit-results c x gs paired (suc port) ws r.1)

    whole-ruled : (c : Compound) (numbers arms : List ℕ) (given outs : ℕ) → around.0.action ≡ Whole c numbers arms given outs → ArePartsRight sort (graph_at p) (Whole c numbers arms given outs) around.0.ins
        → IsRightNode p.types (functions p fit) (graph_at p) (Whole c numbers arms given outs) around.0.ins → IsRuledPlace (Inside outer n k) g
    whole-ruled c numbers arms given outs e r q =
        let are = parts-are (Whole c numbers arms given outs) e in
        let gs = r.0 in
        let paired = pairs p n numbers gs h.parts are r.1 in
        let here = pair-at p (out-Node n).subs gs paired k g h.part in
        let within : k < length (map (count p.types (functions p fit) (graph_at p)) numbers) =
        omega (arith, slice_get_within (out-Node n).subs k g h.part, length-map (out-Node n).subs number_in, ap length are, length-map numbers (count p.types (functions p fit) (graph_at p))) in
        let x = part-there c (map (count p.types (functions p fit) (graph_at p)) numbers) given outs q.1 k within in
        let own = r.2 k x.0 here.0 x.1 here.1 in
        let code : (out-Node n).op ≡ (listed_node (suc h.place) (Whole c numbers arms given outs)).op = op-is p u fit t back outer h.around h.is None (λ q s. Unit {0}) h.place n around.0 at (Whole c numbers arms given outs) e in
        let role : part_of n k ≡ Some (c, x.0) =
        ap (λ o. o >>= λ c. part_at c k >>= λ z. Some (c, z)) (ap compound_at code ∙ compound-is c) ∙ ap (λ o. o >>= λ z. Some (c, z)) x.1 in
        let carries : (port : ℕ) → carried_in u outer (label_of n) port ≡ sort_in sort around.0.ins port =
        λ port. ap (λ l. carried_in u outer l port) at.label ∙ (node-carries p u back outer h.around h.is h.place n around.0 at port ∙ ap (λ (b : Action). sort_into sort b around.0.ins port) e) in
        let wide : width outer (label_of n) ≡ length around.0.ins =
        ap (λ l. width outer l) at.label
        ∙ (ap (λ es. greatest (map (port_of p) es)) (at.edges ∙ ap (λ (b : Action). node_edges p (suc h.place) b around.0.ins) e)
        ∙ block-width p (functions p fit) (suc h.place) around.0.ins (built.good-filled p.types (functions p fit) around.0.ins q.0)) in
        let list = assoc-of n (listed_node (suc h.place) around.0.action) at.stands.listed ∙ ap (λ (y : Action). (listed_node (suc h.place) y).assoc) e in
        record {
          lowered = here.0;
          is = here.2;
          part = Some (c, x.0);
          stands = role;
          In = IsPartInput sort c x.0 around.0.ins arms gs k;
          graph = own.graph;
          inputs = λ port s f. subst (λ o. MatchOption o ⊥ (λ cp. typing.FitsPartInput u outer n cp k port s)) (sym role)
              (fits-input p u fit back (out-Node n).subs gs paired outer n around.0.ins arms carries wide list refl c x.0 k port s f.2);
          results = subst (λ o. AllFit sort (λ port s. MatchOption o ⊥ (λ cp. typing.FitsResult u cp.0 cp.1 (out-Node n).subs port s)) 1 here.0.results) (sym role) (fit-results c x.0 gs paired 1 here.0.results own.results);
          header = tt;
        }

    -- only a compound node has graphs inside
    record IsWhole : Type 0 where
      compound : Compound
      numbers : List ℕ
      arms : List ℕ
      given : ℕ
      outs : ℕ
      is : around.0.action ≡ Whole compound numbers arms given outs

    whole : IsWhole
    whole = by around.0.action refl
      where
        by : (b : Action) → around.0.action ≡ b → IsWhole
        by (Row op) e = absurd (no-graph (listed_node (suc h.place) (Row op)).parts (parts-are (Row op) e) refl)
        by (Call f) e = absurd (no-graph (listed_node (suc h.place) (Call f)).parts (parts-are (Call f) e) refl)
        by (Whole c numbers arms given outs) e = record { compound = c; numbers = numbers; arms = arms; given = given; outs = outs; is = e }

    part-ruled : IsRuledPlace (Inside outer n k) g
    part-ruled =
        let w = whole in
        let own = all-at (HasPartsRight sort (graph_at p)) h.around.nodes h.place around.0 (right.parts (out-Graph outer).number h.around h.is.there) at.lowered in
        let good = right-node p u fit t back outer h.around h.is None (λ q s. Unit {0}) h.place n around.0 at in
        whole-ruled w.compound w.numbers w.arms w.given w.outs w.is
        (subst (λ (b : Action). ArePartsRight sort (graph_at p) b around.0.ins) w.is own)
        (subst (λ (b : Action). IsRightNode p.types (functions p fit) (graph_at p) b around.0.ins) w.is good)

  pub place-ruled : (home : Home) (g : Graph) (d : LoweredGraph) → IsGraphOf p g d → StandsAt p home g → IsRuledPlace home g
  place-ruled (Function k) g d a h = function-ruled k g d a h.0 h.1
  place-ruled (Inside outer n k) g d a h = part-ruled outer n k g h
