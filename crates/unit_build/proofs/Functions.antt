-- A function's graphs are put together from the last to the first, and then those that are left are inside of its own nodes.
use Rattle.std.proofs.Common.{◌≡◌, ℕ, suc, ◌+◌, List, [], ◌∷◌, ◌++◌, length, refl, sym, ap, subst, ◌∙◌, arith, append_assoc}
use Rattle.std.proofs.lemmas.List.{append-nil, length-append, nil_from_length}
use Rattle.if1_graph.specs.declared.graph.Graph.{Graph}
use Rattle.if1_graph.specs.declared.graph.Graph.TheViews.{out-Graph, roll-Graph, out-roll-Graph}
use Rattle.if1_graph.specs.declared.graph.Graph.TheOpen.{Graph-F}
use Rattle.if1_graph.specs.declared.graph.Node.{Node}
use Rattle.typed_tree.specs.declared.program.Function.{Function}
use Rattle.typed_tree.specs.declared.program.Program.{Program}
use Rattle.lowering.specs.declared.graph.LoweredGraph.{LoweredGraph}
use Rattle.lowering.specs.declared.graph.Lowered.{Lowered}
use Rattle.lowering.specs.Graphs.{closed_nodes}
use Rattle.lowered_units.specs.Listed.{ListedGraph, listing}
use Rattle.lowered_units.specs.Units.{listed_nodes, inner_graph, inner_graphs, function_listings}
use Rattle.lowered_units.proofs.Entries.{inner-both}
use Rattle.lowered_units.proofs.Heads.{listing-is}
use Rattle.lowered_units.proofs.Nested.{closed-listed}
use Rattle.lowered_units.proofs.OneUnit.{inside_in}
use Rattle.unit_build.specs.Nesting.{listings, listed, head, parts, IsNesting, IsNext, Hold, IsNested}
use Rattle.unit_build.proofs.Nesting.{inside-parts, same-graphs, nesting-behind, as-many-parts}

module _ (p : Program) where
  -- ---- the graph before those that are made

  one-behind : (first : ℕ) (gs : List LoweredGraph) (d : LoweredGraph) (made : List Graph) → inner_graphs p first (gs ++ d ∷ []) ++ listings made ≡ inner_graphs p first gs ++ (inner_graph p (first + length gs) d ∷ listings made)
  one-behind first gs d made =
      ap (λ l. l ++ listings made) (inner-both p first gs (d ∷ []))
      ∙ append_assoc (inner_graphs p first gs) (inner_graph p (first + length gs) d ∷ []) (listings made)

  pub nesting-before : (first : ℕ) (gs all : List LoweredGraph) (d : LoweredGraph) (made : List Graph) → inner_graphs p first (gs ++ d ∷ []) ++ listings made ≡ inner_graphs p first all
      → IsNesting (inner_graphs p first all) → IsNext p (first + length gs) d made
  nesting-before first gs all d made e h = record {
    nesting =
        nesting-behind (inner_graphs p first gs) (inner_graph p (first + length gs) d ∷ listings made)
        (subst IsNesting (sym e ∙ one-behind first gs d made) h);
  }

  pub listed-more : (first : ℕ) (gs all : List LoweredGraph) (d : LoweredGraph) (made more : List Graph) → inner_graphs p first (gs ++ d ∷ []) ++ listings made ≡ inner_graphs p first all
      → listings more ≡ inner_graph p (first + length gs) d ∷ listings made → inner_graphs p first gs ++ listings more ≡ inner_graphs p first all
  listed-more first gs all d made more e m = ap (λ l. inner_graphs p first gs ++ l) m ∙ (sym (one-behind first gs d made) ∙ e)

  -- ---- the graph of a function

  module _ (number : ℕ) (m : Lowered) (h : IsNested p number m) where
    pub nesting-inside : IsNesting (inner_graphs p (suc number) m.graphs)
    nesting-inside = record { graphs = parts h.nodes; same = h.inside }

    module _ (made : List Graph) (e : listings made ≡ inner_graphs p (suc number) m.graphs) where
      all-inside : parts h.nodes ≡ made
      all-inside = same-graphs (parts h.nodes) made (h.inside ∙ sym e)

      pub hold-all : Hold (listed_nodes 1 (closed_nodes [] 0 0 m.nodes)) made
      hold-all = record {
        nodes = h.nodes;
        rest = [];
        same = h.same ∙ sym (closed-listed [] 0 0 1 m.nodes);
        inside = append-nil (parts h.nodes) ∙ all-inside;
      }

      pub function-listed : (x : ListedGraph) (g : Graph) (rest : List Graph) → head g ≡ x → listed (out-Graph g).nodes ≡ listed_nodes 1 (closed_nodes [] 0 0 m.nodes)
          → parts (out-Graph g).nodes ++ rest ≡ made → listing g ≡ x ∷ inner_graphs p (suc number) m.graphs
      function-listed x g rest top same inside =
          let ns = (out-Graph g).nodes in
          let size = as-many-parts ns h.nodes (same ∙ (closed-listed [] 0 0 1 m.nodes ∙ sym h.same)) in
          let both = length-append (parts ns) rest in
          let whole : length (parts ns ++ rest) ≡ length (parts h.nodes) = ap length (inside ∙ sym all-inside) in
          let none : rest ≡ [] = nil_from_length rest (omega (arith, size, both, whole)) in
          let all : parts ns ≡ made = sym (append-nil (parts ns)) ∙ (ap (λ l. parts ns ++ l) (sym none) ∙ inside) in
          listing-is g ∙ (ap (λ y. y ∷ inside_in ns) top ∙ ap (λ l. x ∷ l) (inside-parts ns ∙ (ap listings all ∙ e)))

      -- a graph of these fields
      pub graph-listed : (x : ListedGraph) (y : Graph-F Graph Node) (rest : List Graph) → y.number ≡ x.number → y.exported ≡ x.exported → y.name ≡ x.name → y.fun ≡ x.fun
          → listed y.nodes ≡ listed_nodes 1 (closed_nodes [] 0 0 m.nodes) → y.edges ≡ x.edges → parts y.nodes ++ rest ≡ made
          → x.nodes ≡ listed_nodes 1 (closed_nodes [] 0 0 m.nodes) → listing (roll-Graph y) ≡ x ∷ inner_graphs p (suc number) m.graphs
      graph-listed x y rest num exported name fun nodes edges inside own =
          let same = out-roll-Graph y in
          function-listed x (roll-Graph y) rest
          (ap (λ (z : Graph-F Graph Node). record { number = z.number; exported = z.exported; name = z.name; fun = z.fun; nodes = listed z.nodes; edges = z.edges }) same
          ∙ (λ j. record { number = num j; exported = exported j; name = name j; fun = fun j; nodes = (nodes ∙ sym own) j; edges = edges j }))
          (ap (λ (z : Graph-F Graph Node). listed z.nodes) same ∙ nodes)
          (ap (λ (z : Graph-F Graph Node). parts z.nodes ++ rest) same ∙ inside)

-- ---- no function is left

pub no-listings : (p : Program) (place number : ℕ) (fs : List Function) → function_listings p place number fs [] ≡ []
no-listings p place number [] = refl
no-listings p place number (f ∷ fs) = refl
