-- The graphs inside of a node of a translated unit, by the lowered graphs of their numbers.
use Rattle.std.proofs.Common.{◌≡◌, ℕ, zero, suc, ◌-◌, Bool, true, false, List, [], ◌∷◌, map, length, slice_get, Some, refl, sym, ap, subst, ◌∙◌}
use Rattle.std.specs.Prelude.{nat_le, MatchBool}
use Rattle.if1_graph.specs.declared.graph.Graph.{Graph}
use Rattle.if1_graph.specs.declared.graph.Graph.TheViews.{out-Graph}
use Rattle.if1_graph.specs.declared.graph.Node.{Node, out-Node}
use Rattle.if1_graph.specs.declared.graph.Unit1.{Unit1}
use Rattle.if1_graph.specs.declared.op.Compound.{Compound}
use Rattle.if1_graph.specs.declared.op.Compound.TheVariants as compound
use Rattle.if1_graph.specs.declared.op.Part.{Part}
use Rattle.if1_graph.specs.declared.op.Part.TheVariants as part
use Rattle.if1_graph.specs.Ports.{carried as carried_in, tags_of}
use Rattle.if1_graph.specs.Ports as ports
use Rattle.if1_graph.specs.Types.{Sort}
use Rattle.if1_graph.specs.Typing as typing
use Rattle.if1_graph.specs.Units.{label_of, greatest, width, results}
use Rattle.typed_tree.specs.declared.program.Program.{Program}
use Rattle.lowering.specs.declared.feed.Carried.{Carried}
use Rattle.lowering.specs.declared.feed.Wire.{Wire}
use Rattle.lowering.specs.declared.graph.LoweredGraph.{LoweredGraph}
use Rattle.lowering.specs.Programs.{graph_at}
use Rattle.lowered_units.specs.Fitting.{IsFitting}
use Rattle.lowered_units.proofs.Blocks.{port_of, block-width}
use Rattle.lowered_units.proofs.Built as built
use Rattle.lowered_units.proofs.Built.{AreGood}
use Rattle.lowered_units.proofs.Codes.{number_in}
use Rattle.lowered_units.proofs.Programs.{functions, right-of}
use Rattle.lowered_ready.specs.Sorts.{sort_of}
use Rattle.lowered_ready.specs.SortLaws.{IsReadBack}
use Rattle.lowered_ready.specs.Ports.{sort_in}
use Rattle.lowered_ready.specs.Parts.{FitsReturned, FitsOwnInput, FitsNodeInput, FitsPartInput, FitsResult}
use Rattle.lowered_ready.specs.Parts as rules
use Rattle.lowered_ready.specs.Shapes.{IsGraphOf, ArePartsLowered}
use Rattle.lowered_ready.proofs.Ends.{boundary-edges}
use Rattle.lowered_ready.proofs.Known.{result-carries}

-- ---- graphs by number

-- graphs, each with its lowered graph
abbrev pub ArePaired : Program → List Graph → List LoweredGraph → Type 0
ArePaired p [] [] = Unit {0}
ArePaired p (s ∷ ss) (d ∷ ds) = IsGraphOf p s d × ArePaired p ss ds
ArePaired p _ _ = ⊥

some-same : {A : Type 0} (x y : A) → Some x ≡ Some y → x ≡ y
some-same x y e = cc

module _ (p : Program) where
  pair-all : (ss : List Graph) (ds : List LoweredGraph) → ((k : ℕ) (s : Graph) → slice_get ss k ≡ Some s → (d : LoweredGraph) × IsGraphOf p s d) → map (graph_at p) (map number_in ss) ≡ map Some ds → ArePaired p ss ds
  pair-all [] [] f e = tt
  pair-all [] (d ∷ ds) f e = absurd cc
  pair-all (s ∷ ss) [] f e = absurd cc
  pair-all (s ∷ ss) (d ∷ ds) f e =
      let k = f 0 s refl in
      (subst (IsGraphOf p s) (some-same k.0 d (sym k.1.there ∙ first e)) k.1, pair-all ss ds (λ j x i. f (suc j) x i) (others e))
    where
      first : graph_at p (number_in s) ∷ map (graph_at p) (map number_in ss) ≡ Some d ∷ map Some ds → graph_at p (number_in s) ≡ Some d
      first e = cc

      others : graph_at p (number_in s) ∷ map (graph_at p) (map number_in ss) ≡ Some d ∷ map Some ds → map (graph_at p) (map number_in ss) ≡ map Some ds
      others e = cc

  pub pair-at : (ss : List Graph) (ds : List LoweredGraph) → ArePaired p ss ds → (k : ℕ) (s : Graph) → slice_get ss k ≡ Some s → (d : LoweredGraph) × (slice_get ds k ≡ Some d) × IsGraphOf p s d
  pair-at [] ds h k s e = absurd cc
  pair-at (x ∷ ss) [] h k s e = absurd h
  pair-at (x ∷ ss) (d ∷ ds) h zero s e = (d, refl, subst (λ y. IsGraphOf p y d) (some-same x s e) h.0)
  pair-at (x ∷ ss) (d ∷ ds) h (suc k) s e = pair-at ss ds h.1 k s e

  pub pairs : (n : Node) (numbers : List ℕ) (ds : List LoweredGraph) → ArePartsLowered p n → map number_in (out-Node n).subs ≡ numbers → map (graph_at p) numbers ≡ map Some ds → ArePaired p (out-Node n).subs ds
  pairs n numbers ds f e k = pair-all (out-Node n).subs ds f (ap (map (graph_at p)) e ∙ k)

  -- these lists of graphs are one
  pub same-graphs : (ds es : List LoweredGraph) → map Some ds ≡ map Some es → ds ≡ es
  same-graphs [] [] e = refl
  same-graphs [] (y ∷ es) e = absurd cc
  same-graphs (x ∷ ds) [] e = absurd cc
  same-graphs (x ∷ ds) (y ∷ es) e = ap (λ z. z ∷ ds) (first e) ∙ ap (λ l. y ∷ l) (same-graphs ds es (others e))
    where
      first : Some x ∷ map Some ds ≡ Some y ∷ map Some es → x ≡ y
      first e = cc

      others : Some x ∷ map Some ds ≡ Some y ∷ map Some es → map Some ds ≡ map Some es
      others e = cc

  module _ (u : Unit1) (fit : IsFitting p) (back : IsReadBack p u) where
    abbrev sort : Carried → Sort
    sort c = sort_of p c

    -- ---- results

    pub results-count : (s : Graph) (d : LoweredGraph) → IsGraphOf p s d → results s ≡ length d.results
    results-count s d a =
        ap (λ es. greatest (map (port_of p) es)) (boundary-edges p s d a)
        ∙ block-width p (functions p fit) 0 d.results (built.good-filled p.types (functions p fit) d.results (right-of p fit (out-Graph s).number d a.there).1)

    pub results-same : (ss : List Graph) (ds : List LoweredGraph) → ArePaired p ss ds → (k : ℕ) → ports.results_at ss k ≡ rules.results_at ds k
    results-same [] [] h k = refl
    results-same [] (d ∷ ds) h k = absurd h
    results-same (s ∷ ss) [] h k = absurd h
    results-same (s ∷ ss) (d ∷ ds) h zero = results-count s d h.0
    results-same (s ∷ ss) (d ∷ ds) h (suc k) = results-same ss ds h.1 k

    pub result-same : (ss : List Graph) (ds : List LoweredGraph) → ArePaired p ss ds → (k port : ℕ) → typing.result_of u ss k port ≡ rules.result_of sort ds k port
    result-same [] [] h k port = refl
    result-same [] (d ∷ ds) h k port = absurd h
    result-same (s ∷ ss) [] h k port = absurd h
    result-same (s ∷ ss) (d ∷ ds) h zero port = result-carries p u back s d h.0 port
    result-same (s ∷ ss) (d ∷ ds) h (suc k) port = result-same ss ds h.1 k port

    -- ---- what a part must give

    module _ (ss : List Graph) (ds : List LoweredGraph) (h : ArePaired p ss ds) where
      result : (k port : ℕ) (s : Sort) → rules.result_of sort ds k port ≡ Some s → typing.result_of u ss k port ≡ Some s
      result k port s e = result-same ss ds h k port ∙ e

      pub fits-result : (c : Compound) (x : Part) (port : ℕ) (s : Sort) → FitsResult sort c x ds port s → typing.FitsResult u c x ss port s
      fits-result c part.Selector port s f = f
      fits-result c part.Test port s f = f
      fits-result c part.Generator port s f = f
      fits-result c part.Alternative port s f = (f.0, result 1 port s f.1)
      fits-result c part.Arm port s f = (f.0, result 0 port s f.1)
      fits-result compound.ForAll part.Body port s f = f
      fits-result compound.Select part.Body port s f = (f.0, result 0 port s f.1)
      fits-result compound.TagCase part.Body port s f = (f.0, result 0 port s f.1)
      fits-result compound.LoopA part.Body port s f = (f.0, result 0 port s f.1)
      fits-result compound.LoopB part.Body port s f = (f.0, result 0 port s f.1)
      fits-result c part.Initialization port s f = f
      fits-result c part.Returns port s f = f

      -- ---- what the inputs of a part are

      multiple : (k port : ℕ) (s : Sort) → typing.IsMultiple (rules.result_of sort ds k port) s → typing.IsMultiple (typing.result_of u ss k port) s
      multiple k port s f = subst (λ o. typing.IsMultiple o s) (sym (result-same ss ds h k port)) f

      fits-returned : (c : Compound) (n : ℕ) (s : Sort) → FitsReturned sort c ds n s → typing.FitsReturned u c ss n s
      fits-returned compound.ForAll n s f =
          subst (λ k. MatchBool (nat_le n k) (typing.result_of u ss 0 n ≡ Some s) (typing.IsMultiple (typing.result_of u ss 1 (n - k)) s)) (sym (results-same ss ds h 0))
          (by (nat_le n (rules.results_at ds 0)) f)
        where
          by : (b : Bool) → MatchBool b (rules.result_of sort ds 0 n ≡ Some s) (typing.IsMultiple (rules.result_of sort ds 1 (n - rules.results_at ds 0)) s)
              → MatchBool b (typing.result_of u ss 0 n ≡ Some s) (typing.IsMultiple (typing.result_of u ss 1 (n - rules.results_at ds 0)) s)
          by true f = result 0 n s f
          by false f = multiple 1 (n - rules.results_at ds 0) s f
      fits-returned compound.Select n s f = multiple 0 n s f
      fits-returned compound.TagCase n s f = multiple 0 n s f
      fits-returned compound.LoopA n s f = multiple 0 n s f
      fits-returned compound.LoopB n s f = multiple 0 n s f

      abbrev FitsOwn : Compound → Part → ℕ → Sort → Type 0
      FitsOwn c x n s = FitsOwnInput sort c x ds n s → typing.FitsOwnInput u c x ss n s

      forall-own : (x : Part) (n : ℕ) (s : Sort) → FitsOwn compound.ForAll x n s
      forall-own part.Body n s f = subst (λ o. typing.IsElement o s) (sym (result-same ss ds h 0 n)) f
      forall-own part.Test n s f = result 0 n s f
      forall-own part.Returns n s f = fits-returned compound.ForAll n s f
      forall-own x n s f = absurd f

      select-own : (x : Part) (n : ℕ) (s : Sort) → FitsOwn compound.Select x n s
      select-own part.Body n s f = result 0 n s f
      select-own part.Test n s f = result 0 n s f
      select-own part.Returns n s f = fits-returned compound.Select n s f
      select-own x n s f = absurd f

      tag-own : (x : Part) (n : ℕ) (s : Sort) → FitsOwn compound.TagCase x n s
      tag-own part.Body n s f = result 0 n s f
      tag-own part.Test n s f = result 0 n s f
      tag-own part.Returns n s f = fits-returned compound.TagCase n s f
      tag-own x n s f = absurd f

      while-own : (x : Part) (n : ℕ) (s : Sort) → FitsOwn compound.LoopA x n s
      while-own part.Body n s f = result 0 n s f
      while-own part.Test n s f = result 0 n s f
      while-own part.Returns n s f = fits-returned compound.LoopA n s f
      while-own x n s f = absurd f

      until-own : (x : Part) (n : ℕ) (s : Sort) → FitsOwn compound.LoopB x n s
      until-own part.Body n s f = result 0 n s f
      until-own part.Test n s f = result 0 n s f
      until-own part.Returns n s f = fits-returned compound.LoopB n s f
      until-own x n s f = absurd f

      fits-own : (c : Compound) (x : Part) (n : ℕ) (s : Sort) → FitsOwn c x n s
      fits-own compound.ForAll x n s f = forall-own x n s f
      fits-own compound.Select x n s f = select-own x n s f
      fits-own compound.TagCase x n s f = tag-own x n s f
      fits-own compound.LoopA x n s f = while-own x n s f
      fits-own compound.LoopB x n s f = until-own x n s f

      module _ (outer : Graph) (n : Node) (ws : List Wire) (arms : List ℕ)
          (carries : (port : ℕ) → carried_in u outer (label_of n) port ≡ sort_in sort ws port) (wide : width outer (label_of n) ≡ length ws) (list : (out-Node n).assoc ≡ arms) (are : (out-Node n).subs ≡ ss) where
        fits-node : (x : Part) (k port : ℕ) (s : Sort) → FitsNodeInput sort ws arms x k port s → typing.FitsNodeInput u outer n x k port s
        fits-node part.Arm k zero s f = carries 0 ∙ f
        fits-node part.Arm k (suc zero) s f = (f.0, subst (λ o. typing.FitsContent (tags_of o) (out-Node n).assoc k s) (sym (carries 1)) (subst (λ l. typing.FitsContent (tags_of (sort_in sort ws 1)) l k s) (sym list) f.1))
        fits-node part.Arm k (suc (suc m)) s f = carries (suc (suc m)) ∙ f
        fits-node part.Selector k port s f = carries port ∙ f
        fits-node part.Alternative k port s f = carries port ∙ f
        fits-node part.Generator k port s f = carries port ∙ f
        fits-node part.Initialization k port s f = carries port ∙ f
        fits-node part.Test k port s f = carries port ∙ f
        fits-node part.Body k port s f = carries port ∙ f
        fits-node part.Returns k port s f = carries port ∙ f

        pub fits-input : (c : Compound) (x : Part) (k port : ℕ) (s : Sort) → FitsPartInput sort c x ws arms ds k port s → typing.FitsPartInput u outer n (c, x) k port s
        fits-input c x k port s f =
            subst (λ (w : ℕ). MatchBool (nat_le port w) (typing.FitsNodeInput u outer n x k port s) (typing.FitsOwnInput u c x (out-Node n).subs (port - w) s)) (sym wide)
            (subst (λ (l : List Graph). MatchBool (nat_le port (length ws)) (typing.FitsNodeInput u outer n x k port s) (typing.FitsOwnInput u c x l (port - length ws) s)) (sym are) (by (nat_le port (length ws)) f))
          where
            by : (b : Bool) → MatchBool b (FitsNodeInput sort ws arms x k port s) (FitsOwnInput sort c x ds (port - length ws) s)
                → MatchBool b (typing.FitsNodeInput u outer n x k port s) (typing.FitsOwnInput u c x ss (port - length ws) s)
            by true f = fits-node x k port s f
            by false f = fits-own c x (port - length ws) s f
