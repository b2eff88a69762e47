-- The graphs of a translated unit run as they are lowered.
use Rattle.std.proofs.Common.{◌≡◌, ℕ, zero, suc, ◌<◌, inl, List, [], ◌∷◌, map, length, slice_get, Option, Some, None, refl, sym, ap, subst, ◌∙◌, arith}
use Rattle.std.specs.Prelude.{filter, All}
use Rattle.std.proofs.lemmas.Option.{get_or_from_slice_get}
use Rattle.std.proofs.lemmas.List.{length-map}
use Rattle.if1_graph.specs.declared.graph.Graph.{Graph}
use Rattle.if1_graph.specs.declared.graph.Graph.TheViews.{out-Graph}
use Rattle.if1_graph.specs.declared.graph.Unit1.{Unit1}
use Rattle.if1_graph.specs.Units.{greatest, most_levels, places, results}
use Rattle.if1_graph.specs.Formed.{function_named}
use Rattle.graph_meaning.specs.Networks as net
use Rattle.graph_meaning.specs.Networks.{network, number_or_zero, shape_of}
use Rattle.typed_tree.specs.declared.program.Function.{Function}
use Rattle.typed_tree.specs.declared.program.Program.{Program}
use Rattle.lowering.specs.declared.graph.LoweredGraph.{LoweredGraph}
use Rattle.lowering.specs.Programs.{function_lowered, functions_lowered, graph_at, number_of}
use Rattle.lowered_units.specs.Fitting.{HasName, IsFitting}
use Rattle.lowered_units.specs.Listed.{ListedGraph, all_of}
use Rattle.lowered_units.specs.Networks.{net_of, shape_in, shapes}
use Rattle.lowered_units.specs.Units.{called_name, listed_nodes, edges_of, name_of, IsTranslated}
use Rattle.lowered_units.proofs.Built as built
use Rattle.lowered_units.proofs.Blocks.{port_of, to_node, results-at, block-width}
use Rattle.lowered_units.proofs.Entries.{length-new, whole_listing, IsEntry, entry, numbered}
use Rattle.lowered_units.proofs.Heads.{In, listing-is, Lie, unit-heads, unit-lies, all-within, part-within, find-place}
use Rattle.lowered_units.proofs.OneUnit.{nodes_in, head_of}
use Rattle.lowered_units.proofs.Named.{Called, called}
use Rattle.lowered_units.proofs.Nested.{AreNested}
use Rattle.lowered_units.proofs.Nets.{Agrees, AreCalled, net-is}
use Rattle.lowered_units.proofs.Programs.{functions, function-count, right-of}
use Rattle.lowered_units.proofs.Rights.{results_in, count}

module _ (p : Program) (u : Unit1) (fit : IsFitting p) (t : IsTranslated p u) (nests : AreNested u) where
  -- ---- the functions by their names

  has-name : (j : ℕ) (h : Function) → slice_get p.functions j ≡ Some h → HasName p j (name_of p h)
  has-name j h e =
      let named = here p.functions fit.named j e in
      record { function = h; there = e; spelled = named.1 ∙ ap Some (sym (get_or_from_slice_get p.names h.name named.0 [] named.1)) }
    where
      here : (fs : List Function) → All (λ f. (name : List ℕ) × (slice_get p.names f.name ≡ Some name)) fs → (j : ℕ) → slice_get fs j ≡ Some h → (name : List ℕ) × (slice_get p.names h.name ≡ Some name)
      here [] a j e = absurd cc
      here (x ∷ fs) a zero e = subst (λ (y : Function). (name : List ℕ) × (slice_get p.names y.name ≡ Some name)) (same e) (a 0 x (omega arith))
        where
          same : Some x ≡ Some h → x ≡ h
          same e = cc
      here (x ∷ fs) a (suc j) e = here fs (λ k d i. a (suc k) d (omega (arith, i))) j e

  function-at : (f : ℕ) → f < length p.functions → (h : Function) × (slice_get p.functions f ≡ Some h)
  function-at f i = by (slice_get p.functions f) refl
    where
      by : (o : Option Function) → slice_get p.functions f ≡ o → (h : Function) × (slice_get p.functions f ≡ Some h)
      by None e = absurd (past p.functions f i e)
        where
          past : (fs : List Function) (f : ℕ) → f < length fs → slice_get fs f ≡ None → ⊥
          past [] f i e = omega (arith, i)
          past (x ∷ fs) zero i e = absurd cc
          past (x ∷ fs) (suc f) i e = past fs f (omega (arith, i)) e
      by (Some h) e = (h, e)

  pub found-function : (f : ℕ) → f < functions p fit → (h : Function) × (slice_get p.functions f ≡ Some h) × Called p u.graphs h (number_of p f)
  found-function f i =
      let h = function-at f (omega (arith, i, function-count p fit)) in (
        h.0,
        h.1,
        called p 0 1 p.functions (functions_lowered p) u.graphs (sym (length-new p 1 (map (function_lowered p.types) p.functions) ∙ length-map p.functions (function_lowered p.types))) t.graphs f h.0 h.1
            (λ j x e s. fit.once j f (name_of p x) (has-name j x e) (subst (HasName p f) (sym s) (has-name f h.0 h.1))),
      )

  calls : AreCalled p u t.types (functions p fit)
  calls f i =
      let h = found-function f i in
      ap (λ o. number_or_zero (function_named u.graphs (called_name p o))) h.1 ∙ (ap number_or_zero h.2.found ∙ h.2.number)

  -- ---- the graphs by their numbers

  heads : map (λ x. head_of x.graph) (places u) ≡ whole_listing p
  heads = unit-heads most_levels 0 u.graphs nests ∙ ap all_of t.graphs

  lies : Lie (whole_listing p) (places u)
  lies = unit-lies most_levels 0 (whole_listing p) u.graphs (λ g i x k. subst (In x) (ap all_of t.graphs) (all-within u.graphs g i x k))

  same-graph : (x : ListedGraph) (e : IsEntry p x) (q : ℕ) (d : LoweredGraph) → x.number ≡ q → graph_at p q ≡ Some d → e.graph ≡ d
  same-graph x e q d n h = some-same e.graph d (sym e.there ∙ (ap (graph_at p) n ∙ h))
    where
      some-same : (a b : LoweredGraph) → Some a ≡ Some b → a ≡ b
      some-same a b e = cc

  -- the results of a graph are those of the lowered graph of its number
  results-are : (s : Graph) → In (head_of s) (whole_listing p) → results s ≡ count p.types (functions p fit) (graph_at p) (out-Graph s).number
  results-are s h =
      let e = entry p (head_of s) h in
      let right = right-of p fit (out-Graph s).number e.graph e.there in
      ap (λ es. greatest (map (port_of p) (filter (to_node 0) es))) e.edges
      ∙ (ap (λ es. greatest (map (port_of p) es)) (results-at p 1 e.graph.nodes e.graph.results (omega arith))
      ∙ (block-width p (functions p fit) 0 e.graph.results (built.good-filled p.types (functions p fit) e.graph.results right.1)
      ∙ sym (ap results_in e.there)))

  pub runs-as-lowered : (q : ℕ) (d : LoweredGraph) → graph_at p q ≡ Some d → network u q ≡ net_of (shapes u q) (number_of p) d
  runs-as-lowered q d h =
      let x = numbered p q d h in
      let f = find-place (whole_listing p) (places u) q x.0 lies (subst (In x.0) (sym heads) x.1) x.2 in
      let g = f.place.graph in
      let e = entry p (head_of g) (f.lies (head_of g) (subst (In (head_of g)) (sym (listing-is g)) (inl refl))) in
      let same = same-graph (head_of g) e q d f.number h in
      let agrees : Agrees p u t.types (functions p fit) g d q = record {
        nodes = subst (λ (y : LoweredGraph). nodes_in (out-Graph g).nodes ≡ listed_nodes 1 y.nodes) same e.nodes;
        edges = subst (λ (y : LoweredGraph). (out-Graph g).edges ≡ edges_of p 1 y.nodes y.results) same e.edges;
        right = right-of p fit q d h;
        parts = λ n s i j. results-are s (f.lies (head_of s) (part-within g n s i j (head_of s) (subst (In (head_of s)) (sym (listing-is s)) (inl refl))));
        shape = λ l op. sym (ap (λ o. shape_in u o l op) f.found);
      } in
      ap (net.net_at u) f.found ∙ net-is p u t.types (functions p fit) g d q agrees calls
