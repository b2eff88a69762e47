-- The graphs of a translated unit, by number: each is listed as the lowered graph of its number.
use Rattle.std.proofs.Common.{◌≡◌, ℕ, zero, suc, ◌+◌, inl, inr, false, List, [], ◌∷◌, ◌++◌, map, length, slice_get, Some, refl, sym, ap, subst, ◌∙◌, arith}
use Rattle.std.proofs.lemmas.List.{length-map}
use Rattle.typed_tree.specs.declared.program.Function.{Function}
use Rattle.typed_tree.specs.declared.program.Program.{Program}
use Rattle.lowering.specs.declared.graph.LoweredGraph.{LoweredGraph}
use Rattle.lowering.specs.declared.graph.Lowered.{Lowered}
use Rattle.lowering.specs.Graphs.{Lowering, size, closed, closed_graphs, new_graph, new_graphs}
use Rattle.lowering.specs.Programs.{function_lowered, functions_lowered, graphs, graph_at}
use Rattle.lowered_units.specs.Listed.{ListedGraph, Listing, all_of}
use Rattle.lowered_units.specs.Units.{listed_nodes, edges_of, inner_graph, inner_graphs, function_listings}
use Rattle.lowered_units.proofs.Heads.{In}

-- without its header
abbrev pub strip : ListedGraph → ListedGraph
strip x = record x { exported = false; name = []; fun = 0 }

pub map-both : {A B : Type 0} (f : A → B) (xs ys : List A) → map f (xs ++ ys) ≡ map f xs ++ map f ys
map-both f [] ys = refl
map-both f (x ∷ xs) ys = ap (λ l. f x ∷ l) (map-both f xs ys)

in-map : {A B : Type 0} (f : A → B) (x : A) (xs : List A) → In x xs → In (f x) (map f xs)
in-map f x [] h = absurd h
in-map f x (y ∷ xs) (inl e) = inl (ap f e)
in-map f x (y ∷ xs) (inr h) = inr (in-map f x xs h)

from-map : {A B : Type 0} (f : A → B) (y : B) (xs : List A) → In y (map f xs) → (x : A) × In x xs × (y ≡ f x)
from-map f y [] h = absurd h
from-map f y (x ∷ xs) (inl e) = (x, inl refl, e)
from-map f y (x ∷ xs) (inr h) = let r = from-map f y xs h in (r.0, inr r.1, r.2)

module _ (p : Program) where
  inner-strips : (q : ℕ) (ds : List LoweredGraph) → map strip (inner_graphs p q ds) ≡ inner_graphs p q ds
  inner-strips q [] = refl
  inner-strips q (d ∷ ds) = ap (λ l. inner_graph p q d ∷ l) (inner-strips (suc q) ds)

  pub inner-both : (q : ℕ) (ds es : List LoweredGraph) → inner_graphs p q (ds ++ es) ≡ inner_graphs p q ds ++ inner_graphs p (q + length ds) es
  inner-both q [] es = ap (λ i. inner_graphs p i es) (omega arith)
  inner-both q (d ∷ ds) es = ap (λ l. inner_graph p q d ∷ l) (inner-both (suc q) ds es ∙ ap (λ i. inner_graphs p (suc q) ds ++ inner_graphs p i es) (omega arith))

  stripped : (place q : ℕ) (fs : List Function) (ms : List Lowered) → length fs ≡ length ms → map strip (all_of (function_listings p place q fs ms)) ≡ inner_graphs p q (closed_graphs [] 0 0 ms)
  stripped place q [] [] e = refl
  stripped place q [] (m ∷ ms) e = absurd (omega (arith, e))
  stripped place q (f ∷ fs) [] e = absurd (omega (arith, e))
  stripped place q (f ∷ fs) (m ∷ ms) e =
      ap (λ l. inner_graph p q (closed [] 0 0 m) ∷ l)
      (map-both strip (inner_graphs p (suc q) m.graphs) (all_of (function_listings p (suc place) (q + size m) fs ms))
      ∙ (ap (λ l. l ++ map strip (all_of (function_listings p (suc place) (q + size m) fs ms))) (inner-strips (suc q) m.graphs)
      ∙ (ap (λ l. inner_graphs p (suc q) m.graphs ++ l) (stripped (suc place) (q + size m) fs ms (omega (arith, e)) ∙ ap (λ i. inner_graphs p i (closed_graphs [] 0 0 ms)) (omega arith))
      ∙ sym (inner-both (suc q) m.graphs (closed_graphs [] 0 0 ms)))))

  pub length-new : (q : ℕ) (fs : List Lowering) → length (new_graphs q fs) ≡ length fs
  length-new q [] = refl
  length-new q (f ∷ fs) = ap suc (length-new (q + size (new_graph f q)) fs)

  -- all graphs of the unit, as the text lists them
  abbrev pub whole_listing : Listing
  whole_listing = all_of (function_listings p 0 1 p.functions (functions_lowered p))

  pub whole-strips : map strip whole_listing ≡ inner_graphs p 1 (graphs p)
  whole-strips = stripped 0 1 p.functions (functions_lowered p) (sym (length-new 1 (map (function_lowered p.types) p.functions) ∙ length-map p.functions (function_lowered p.types)))

  listed-in : (q : ℕ) (ds : List LoweredGraph) (x : ListedGraph) → In x (inner_graphs p q ds) → (i : ℕ) × (d : LoweredGraph) × (slice_get ds i ≡ Some d) × (x ≡ inner_graph p (q + i) d)
  listed-in q [] x h = absurd h
  listed-in q (d ∷ ds) x (inl e) = (0, d, refl, e ∙ ap (λ i. inner_graph p i d) (omega arith))
  listed-in q (d ∷ ds) x (inr h) = let r = listed-in (suc q) ds x h in (suc r.0, r.1, r.2, r.3 ∙ ap (λ i. inner_graph p i r.1) (omega arith))

  listed-there : (q : ℕ) (ds : List LoweredGraph) (i : ℕ) (d : LoweredGraph) → slice_get ds i ≡ Some d → In (inner_graph p (q + i) d) (inner_graphs p q ds)
  listed-there q [] i d e = absurd cc
  listed-there q (x ∷ ds) zero d e = inl (ap (λ i. inner_graph p i d) (omega arith) ∙ ap (inner_graph p q) (same e))
    where
      same : Some x ≡ Some d → d ≡ x
      same e = cc
  listed-there q (x ∷ ds) (suc i) d e = inr (subst (λ j. In (inner_graph p j d) (inner_graphs p (suc q) ds)) (omega arith) (listed-there (suc q) ds i d e))

  -- a graph of the unit, by the lowered graph of its number
  pub record IsEntry (x : ListedGraph) : Type 0 where
    pub graph : LoweredGraph
    pub there : graph_at p x.number ≡ Some graph
    pub nodes : x.nodes ≡ listed_nodes 1 graph.nodes
    pub edges : x.edges ≡ edges_of p 1 graph.nodes graph.results

  pub entry : (x : ListedGraph) → In x whole_listing → IsEntry x
  entry x h =
      let r = listed-in 1 (graphs p) (strip x) (subst (In (strip x)) whole-strips (in-map strip x whole_listing h)) in
      let number : x.number ≡ suc r.0 = ap (λ (y : ListedGraph). y.number) r.3 ∙ omega arith in
      record {
        graph = r.1;
        there = ap (graph_at p) number ∙ r.2;
        nodes = ap (λ (y : ListedGraph). y.nodes) r.3;
        edges = ap (λ (y : ListedGraph). y.edges) r.3;
      }

  pub numbered : (q : ℕ) (d : LoweredGraph) → graph_at p q ≡ Some d → (x : ListedGraph) × In x whole_listing × (x.number ≡ q)
  numbered zero d e = absurd cc
  numbered (suc q) d e =
      let r = from-map strip (inner_graph p (1 + q) d) whole_listing (subst (In (inner_graph p (1 + q) d)) (sym whole-strips) (listed-there 1 (graphs p) q d e)) in
      (r.0, r.1, sym (ap (λ (y : ListedGraph). y.number) r.2) ∙ omega arith)
