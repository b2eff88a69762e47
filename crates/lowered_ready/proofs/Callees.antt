-- A function that a node calls is found by its name.
use Rattle.std.proofs.Common.{◌≡◌, ℕ, zero, suc, ◌<◌, Bool, true, false, List, [], ◌∷◌, Some, slice_get, refl, sym, ap, subst, ◌∙◌, arith}
use Rattle.std.specs.Prelude.{All, find, bytes_eq, if◌then◌else◌}
use Rattle.std.proofs.lemmas.Option.{get_or_from_slice_get}
use Rattle.std.proofs.lemmas.Slice.Eq.{bytes_eq-Decides}
use Rattle.if1_graph.specs.declared.graph.Edge.{Edge}
use Rattle.if1_graph.specs.declared.graph.Graph.{Graph}
use Rattle.if1_graph.specs.declared.graph.Graph.TheViews.{out-Graph}
use Rattle.if1_graph.specs.declared.graph.Node.{Node}
use Rattle.if1_graph.specs.declared.graph.Unit1.{Unit1}
use Rattle.if1_graph.specs.Formed.{function_named}
use Rattle.if1_graph.specs.Ports.{literal_at, text_of}
use Rattle.if1_graph.specs.Tables.{◌>>=◌}
use Rattle.typed_tree.specs.declared.program.Function as typed
use Rattle.typed_tree.specs.declared.program.Program.{Program}
use Rattle.lowering.specs.declared.graph.Action.{Action}
use Rattle.lowering.specs.declared.graph.Action.TheVariants.{Call}
use Rattle.lowering.specs.declared.graph.LoweredNode.{LoweredNode}
use Rattle.lowering.specs.declared.graph.LoweredGraph.{LoweredGraph}
use Rattle.lowered_units.specs.Fitting.{HasName, IsFitting}
use Rattle.lowered_units.specs.Units.{called_name, name_of, node_edges, IsTranslated}
use Rattle.lowered_units.proofs.Blocks.{to_port, find-filtered}
use Rattle.lowered_units.proofs.NestedTrees.{is-nested}
use Rattle.lowered_units.proofs.Programs.{functions}
use Rattle.lowered_units.proofs.Running.{found-function}
use Rattle.lowered_ready.specs.Shapes.{IsGraphOf, IsFunctionOf}
use Rattle.lowered_ready.proofs.Ends.{IsAtNode}
use Rattle.lowered_ready.proofs.Places.{graph-head}

-- what a search finds stands in the list, and passes
found-at : {A : Type 0} (f : A → Bool) (xs : List A) (x : A) → find f xs ≡ Some x → (i : ℕ) × (slice_get xs i ≡ Some x) × (f x ≡ true)
found-at f [] x e = absurd cc
found-at f (y ∷ xs) x e = by (f y) refl e (λ k. found-at f xs x k)
  where
    by : (b : Bool) → f y ≡ b → (if b then Some y else find f xs) ≡ Some x → (find f xs ≡ Some x → (i : ℕ) × (slice_get xs i ≡ Some x) × (f x ≡ true)) → (i : ℕ) × (slice_get (y ∷ xs) i ≡ Some x) × (f x ≡ true)
    by true h e later = (0, e, ap f (sym (same e)) ∙ h)
      where
        same : Some y ≡ Some x → y ≡ x
        same e = cc
    by false h e later = let r = later e in (suc r.0, r.1, r.2)

module _ (p : Program) (u : Unit1) (fit : IsFitting p) (t : IsTranslated p u) where
  -- the graph of the function of a place, which its name finds
  pub record IsFound (place : ℕ) (g : Graph) : Type 0 where
    pub function : typed.Function
    pub is : IsFunctionOf p place function g
    pub found : function_named u.graphs (called_name p (slice_get p.functions place)) ≡ Some g

  has-name : (j : ℕ) (f : typed.Function) → slice_get p.functions j ≡ Some f → HasName p j (name_of p f)
  has-name j f e =
      let named = here p.functions fit.named j e in
      record { function = f; there = e; spelled = named.1 ∙ ap Some (sym (get_or_from_slice_get p.names f.name named.0 [] named.1)) }
    where
      here : (fs : List typed.Function) → All (λ f. (name : List ℕ) × (slice_get p.names f.name ≡ Some name)) fs → (j : ℕ) → slice_get fs j ≡ Some f → (name : List ℕ) × (slice_get p.names f.name ≡ Some name)
      here [] a j e = absurd cc
      here (x ∷ fs) a zero e = subst (λ (y : typed.Function). (name : List ℕ) × (slice_get p.names y.name ≡ Some name)) (same e) (a 0 x (omega arith))
        where
          same : Some x ≡ Some f → x ≡ f
          same e = cc
      here (x ∷ fs) a (suc j) e = here fs (λ k d i. a (suc k) d (omega (arith, i))) j e

  pub called-graph : (place : ℕ) → place < functions p fit → (g : Graph) × IsFound place g
  called-graph place i =
      let h = found-function p u fit t (is-nested p u fit t) place i in
      let k = found-at (λ (g : Graph). bytes_eq (out-Graph g).name (name_of p h.0)) u.graphs h.2.graph h.2.found in
      let head = graph-head p u t k.0 h.2.graph k.1 in
      let name : name_of p head.0 ≡ name_of p h.0 = sym head.1.name ∙ (bytes_eq-Decides (out-Graph h.2.graph).name (name_of p h.0)).0 k.2 in
      let same : k.0 ≡ place = fit.once k.0 place (name_of p h.0) (subst (HasName p k.0) name (has-name k.0 head.0 head.1.there)) (has-name place h.0 h.1) in
      (h.2.graph, record { function = head.0; is = subst (λ j. IsFunctionOf p j head.0 h.2.graph) same head.1; found = ap (λ o. function_named u.graphs (called_name p o)) h.1 ∙ h.2.found })

module _ (p : Program) (g : Graph) (d : LoweredGraph) (a : IsGraphOf p g d) where
  -- the name that a call has at port 1
  pub call-name : (i : ℕ) (n : Node) (v : LoweredNode) → IsAtNode p g d a i n v → (f : ℕ) → v.action ≡ Call f → literal_at g (suc i) 1 ≡ Some (called_name p (slice_get p.functions f))
  call-name i n v h f e =
      ap (λ o. o >>= λ (e : Edge). text_of e.from)
      (find-filtered (suc i) 1 (out-Graph g).edges ∙ (ap (find (to_port 1)) h.edges ∙ ap (λ (b : Action). find (to_port 1) (node_edges p (suc i) b v.ins)) e))
