-- Types that are right stay right with other marks.
use Rattle.std.proofs.Common.{◌≡◌, ℕ, zero, suc, ◌-◌, Bool, true, false, List, map, Option, Some, None, inl, inr, refl, sym, ap, subst, ◌∙◌}
use Rattle.std.specs.Prelude.{nat_le, MatchBool, MatchOption}
use Rattle.if1_graph.specs.declared.graph.Edge.{Edge}
use Rattle.if1_graph.specs.declared.graph.Graph.{Graph}
use Rattle.if1_graph.specs.declared.graph.Graph.TheViews.{out-Graph}
use Rattle.if1_graph.specs.declared.graph.Node.{Node, out-Node}
use Rattle.if1_graph.specs.declared.graph.Origin.{Origin}
use Rattle.if1_graph.specs.declared.graph.Origin.TheVariants.{Port, Lit}
use Rattle.if1_graph.specs.declared.graph.Unit1.{Unit1}
use Rattle.if1_graph.specs.declared.op.Compound.{Compound}
use Rattle.if1_graph.specs.declared.op.Compound.TheVariants as compound
use Rattle.if1_graph.specs.declared.op.Part.{Part}
use Rattle.if1_graph.specs.declared.op.Part.TheVariants as part
use Rattle.if1_graph.specs.declared.op.Simple.{Simple}
use Rattle.if1_graph.specs.Formed.{want_at}
use Rattle.if1_graph.specs.Ops.{simple_at, compound_at}
use Rattle.if1_graph.specs.Ports.{carried, arguments_of, results_of, tags_of, edges_from, part_of, results_at}
use Rattle.if1_graph.specs.Rows.{operand_of, output_of}
use Rattle.if1_graph.specs.Types.{Sort, sort_at}
use Rattle.if1_graph.specs.Typing.{known, IsListed, Fits, result_of, FitsResult, IsElement, IsMultiple, FitsReturned, FitsOwnInput, FitsContent, FitsNodeInput, FitsPartInput, function_type, FitsInput, giving_part, FitsOutputAs, FitsOutput, IsGiven, FitsBoundary, FitsNode, IsWanted, IsFunctionName, kind_of, IsTyped, AgreesWith, home_part, StandsRight, IsFunctionType, IsHeaderTyped, IsEndTyped, AreTypesRight}
use Rattle.if1_graph.specs.Units.{label_of, node_at, edges_into, width, Home, Place}
use Rattle.if1_marks.specs.Unmarked.{untaken, unmarked, unmarked_node, unmarked_place}
use Rattle.if1_marks.proofs.AlikeLists.{Matched, neither, both, matched, all-matched}
use Rattle.if1_marks.proofs.AlikeGraphs.{Bare, BareNode, Alike, over-graph, over-node, over-both, over-list, op-same, assoc-same, fun-same, subs-like, into-like, from-like, node-at-like, known-same, result-of-same, results-at-same, HomesAlike, functions, insides, homes-alike}
use Rattle.if1_marks.proofs.AlikePorts.{types-are, carried-like, want-like, graphs-alike}
use Rattle.if1_marks.proofs.Unmarked.{label-same, part-same, width-same}

-- what holds of what is there, for the same thing
optional : {A : Type 0} (N : Type 0) (P Q : A → Type 0) (o other : Option A) → o ≡ other → ((x : A) → P x → Q x) → MatchOption o N P → MatchOption other N Q
optional N P Q o other e h a = subst (λ z. MatchOption z N Q) e (go o a)
  where
    go : (o : Option _) → MatchOption o N P → MatchOption o N Q
    go None x = x
    go (Some y) x = h y x

module _ (u v : Unit1) (alike : Alike u v) where
  function-like : (g h : Graph) → Bare g h → function_type u g ≡ function_type v h
  function-like g h like = over-both function_type (λ u g. ap (sort_at u.types) (fun-same g)) u v alike g h like

  known-like : (g h : Graph) → Bare g h → (l : ℕ) → known u g l ≡ known v h l
  known-like g h like l = over-both (λ u g. known u g l) (λ u g. known-same l u g) u v alike g h like

  -- ---- the parts of compound nodes

  module _ (gs hs : List Graph) (like : map unmarked gs ≡ map unmarked hs) where
    result-like : (k port : ℕ) → result_of u gs k port ≡ result_of v hs k port
    result-like k port = over-list (λ u gs. result_of u gs k port) (λ u gs. result-of-same k port u gs) u v alike gs hs like

    results-like : (k : ℕ) → results_at gs k ≡ results_at hs k
    results-like k = over-list (λ u gs. results_at gs k) (λ u gs. results-at-same gs k) u v alike gs hs like

    fits-result : (c : Compound) (p : Part) (port : ℕ) (s : Sort) → FitsResult u c p gs port s → FitsResult v c p hs port s
    fits-result c part.Selector port s a = a
    fits-result c part.Test port s a = a
    fits-result c part.Generator port s a = a
    fits-result c part.Alternative port s a = (a.0, sym (result-like 1 port) ∙ a.1)
    fits-result c part.Arm port s a = (a.0, sym (result-like 0 port) ∙ a.1)
    fits-result compound.ForAll part.Body port s a = a
    fits-result compound.Select part.Body port s a = (a.0, sym (result-like 0 port) ∙ a.1)
    fits-result compound.TagCase part.Body port s a = (a.0, sym (result-like 0 port) ∙ a.1)
    fits-result compound.LoopA part.Body port s a = (a.0, sym (result-like 0 port) ∙ a.1)
    fits-result compound.LoopB part.Body port s a = (a.0, sym (result-like 0 port) ∙ a.1)
    fits-result c part.Initialization port s a = a
    fits-result c part.Returns port s a = a

    fits-returned : (c : Compound) (n : ℕ) (s : Sort) → FitsReturned u c gs n s → FitsReturned v c hs n s
    fits-returned compound.ForAll n s a =
        go (nat_le n (results_at hs 0)) (subst (λ k. MatchBool (nat_le n k) (result_of u gs 0 n ≡ Some s) (IsMultiple (result_of u gs 1 (n - k)) s)) (results-like 0) a)
      where
        go : (b : Bool) → MatchBool b (result_of u gs 0 n ≡ Some s) (IsMultiple (result_of u gs 1 (n - results_at hs 0)) s)
            → MatchBool b (result_of v hs 0 n ≡ Some s) (IsMultiple (result_of v hs 1 (n - results_at hs 0)) s)
        go true x = sym (result-like 0 n) ∙ x
        go false x = subst (λ m. IsMultiple m s) (result-like 1 (n - results_at hs 0)) x
    fits-returned compound.Select n s a = subst (λ m. IsMultiple m s) (result-like 0 n) a
    fits-returned compound.TagCase n s a = subst (λ m. IsMultiple m s) (result-like 0 n) a
    fits-returned compound.LoopA n s a = subst (λ m. IsMultiple m s) (result-like 0 n) a
    fits-returned compound.LoopB n s a = subst (λ m. IsMultiple m s) (result-like 0 n) a

    fits-own : (c : Compound) (p : Part) (n : ℕ) (s : Sort) → FitsOwnInput u c p gs n s → FitsOwnInput v c p hs n s
    fits-own compound.ForAll part.Body n s a = subst (λ m. IsElement m s) (result-like 0 n) a
    fits-own compound.Select part.Body n s a = sym (result-like 0 n) ∙ a
    fits-own compound.TagCase part.Body n s a = sym (result-like 0 n) ∙ a
    fits-own compound.LoopA part.Body n s a = sym (result-like 0 n) ∙ a
    fits-own compound.LoopB part.Body n s a = sym (result-like 0 n) ∙ a
    fits-own c part.Test n s a = sym (result-like 0 n) ∙ a
    fits-own c part.Returns n s a = fits-returned c n s a
    fits-own _ _ n s a = absurd a

  module _ (outer other : Graph) (outers : Bare outer other) (n m : Node) (same : BareNode n m) where
    label-here : label_of n ≡ label_of m
    label-here = over-node label_of label-same n m same

    part-here : (k : ℕ) → part_of n k ≡ part_of m k
    part-here k = over-node (λ n. part_of n k) (λ n. part-same n k) n m same

    assoc-here : (out-Node n).assoc ≡ (out-Node m).assoc
    assoc-here = over-node (λ n. (out-Node n).assoc) assoc-same n m same

    subs-here : map unmarked (out-Node n).subs ≡ map unmarked (out-Node m).subs
    subs-here = subs-like n m same

    width-like : width outer (label_of n) ≡ width other (label_of m)
    width-like = ap (width outer) label-here ∙ over-graph (λ g. width g (label_of m)) (λ g. width-same g (label_of m)) outer other outers

    carried-here : (port : ℕ) → carried u outer (label_of n) port ≡ carried v other (label_of m) port
    carried-here port = ap (λ l. carried u outer l port) label-here ∙ carried-like u v alike outer other outers (label_of m) port

    fits-node-input : (p : Part) (k port : ℕ) (s : Sort) → FitsNodeInput u outer n p k port s → FitsNodeInput v other m p k port s
    fits-node-input part.Arm k (suc zero) s a =
        (a.0, subst (λ xs. FitsContent (tags_of (carried v other (label_of m) 1)) xs k s) assoc-here (subst (λ c. FitsContent (tags_of c) (out-Node n).assoc k s) (carried-here 1) a.1))
    fits-node-input part.Arm k zero s a = sym (carried-here 0) ∙ a
    fits-node-input part.Arm k (suc (suc port)) s a = sym (carried-here (suc (suc port))) ∙ a
    fits-node-input part.Selector k port s a = sym (carried-here port) ∙ a
    fits-node-input part.Alternative k port s a = sym (carried-here port) ∙ a
    fits-node-input part.Generator k port s a = sym (carried-here port) ∙ a
    fits-node-input part.Initialization k port s a = sym (carried-here port) ∙ a
    fits-node-input part.Test k port s a = sym (carried-here port) ∙ a
    fits-node-input part.Body k port s a = sym (carried-here port) ∙ a
    fits-node-input part.Returns k port s a = sym (carried-here port) ∙ a

    fits-part-input : (cp : Compound × Part) (k port : ℕ) (s : Sort) → FitsPartInput u outer n cp k port s → FitsPartInput v other m cp k port s
    fits-part-input cp k port s a =
        go (nat_le port (width other (label_of m)))
        (subst (λ w. MatchBool (nat_le port w) (FitsNodeInput u outer n cp.1 k port s) (FitsOwnInput u cp.0 cp.1 (out-Node n).subs (port - w) s)) width-like a)
      where
        go : (b : Bool) → MatchBool b (FitsNodeInput u outer n cp.1 k port s) (FitsOwnInput u cp.0 cp.1 (out-Node n).subs (port - width other (label_of m)) s)
            → MatchBool b (FitsNodeInput v other m cp.1 k port s) (FitsOwnInput v cp.0 cp.1 (out-Node m).subs (port - width other (label_of m)) s)
        go true x = fits-node-input cp.1 k port s x
        go false x = fits-own (out-Node n).subs (out-Node m).subs subs-here cp.0 cp.1 (port - width other (label_of m)) s x

  module _ (g h : Graph) (like : Bare g h) where
    fits-input : (a b : Home) → HomesAlike a b → (port : ℕ) (s : Sort) → FitsInput u g a port s → FitsInput v h b port s
    fits-input _ _ (functions k) port s x = subst (λ t. IsListed (arguments_of t) port s) (function-like g h like) x
    fits-input _ _ (insides outer other n m k outers same) port s x =
        optional ⊥ (λ cp. FitsPartInput u outer n cp k port s) (λ cp. FitsPartInput v other m cp k port s) (part_of n k) (part_of m k) (part-here outer other outers n m same k)
        (λ cp y. fits-part-input outer other outers n m same cp k port s y) x

    fits-boundary : (a b : Home) → HomesAlike a b → (port : ℕ) (s : Sort) → FitsBoundary u g a port s → FitsBoundary v h b port s
    fits-boundary _ _ (functions k) port s x = subst (λ t. IsListed (results_of t) port s) (function-like g h like) x
    fits-boundary _ _ (insides outer other n m k outers same) port s x =
        optional ⊥ (λ (cp : Compound × Part). FitsResult u cp.0 cp.1 (out-Node n).subs port s) (λ (cp : Compound × Part). FitsResult v cp.0 cp.1 (out-Node m).subs port s) (part_of n k) (part_of m k) (part-here outer other outers n m same k)
        (λ cp y. fits-result (out-Node n).subs (out-Node m).subs (subs-like n m same) cp.0 cp.1 port s y) x

    fits-output-as : (n m : Node) → BareNode n m → (c : Option Compound) (op : Option Simple) (port : ℕ) (s : Sort) → FitsOutputAs u g n c op port s → FitsOutputAs v h m c op port s
    fits-output-as n m same (Some c) op port s x = sym (result-like (out-Node n).subs (out-Node m).subs (subs-like n m same) (giving_part c) port) ∙ x
    fits-output-as n m same None (Some op) port s x =
        optional ⊥ (λ w. Fits (known u g (label_of n)) w s) (λ w. Fits (known v h (label_of m)) w s) (output_of op port) (output_of op port) refl
        (λ w y. subst (λ k. Fits k w s) (ap (known u g) (over-node label_of label-same n m same) ∙ known-like g h like (label_of m)) y) x
    fits-output-as n m same None None port s x = x

    fits-output : (n m : Option Node) → Matched unmarked_node n m → (port : ℕ) (s : Sort) → FitsOutput u g n port s → FitsOutput v h m port s
    fits-output _ _ neither port s x = x
    fits-output _ _ (both n m same) port s x =
        subst (λ o. FitsOutputAs v h m (compound_at o) (simple_at o) port s) (over-node (λ n. (out-Node n).op) op-same n m same)
        (fits-output-as n m same (compound_at (out-Node n).op) (simple_at (out-Node n).op) port s x)

    fits-node : (l : ℕ) (c : Option Compound) (op : Option Simple) (port : ℕ) (s : Sort) → FitsNode u g l c op port s → FitsNode v h l c op port s
    fits-node l (Some c) op port s x = x
    fits-node l None (Some op) port s x =
        optional ⊥ (λ operand. Fits (known u g l) operand.1 s) (λ operand. Fits (known v h l) operand.1 s) (operand_of op port) (operand_of op port) refl
        (λ operand y. subst (λ k. Fits k operand.1 s) (known-like g h like l) y) x
    fits-node l None None port s x = x

    agrees : (e : Edge) (from : Origin) → AgreesWith u g e from → AgreesWith v h e from
    agrees e (Lit text) x = tt
    agrees e (Port zero port) x = tt
    agrees e (Port (suc l) port) x =
        all-matched untaken (λ other. sort_at u.types other.ty ≡ sort_at u.types e.ty) (λ other. sort_at v.types other.ty ≡ sort_at v.types e.ty)
        (λ a b same y. subst (λ ts. sort_at ts b.ty ≡ sort_at ts e.ty) (types-are u v alike) (subst (λ (z : Edge). sort_at u.types z.ty ≡ sort_at u.types e.ty) same y))
        (edges_from g (suc l) port) (edges_from h (suc l) port) (from-like g h like (suc l) port) x

module _ (u v : Unit1) (alike : Alike u v) (p q : Place) (like : unmarked_place p ≡ unmarked_place q) where
  graphs : Bare p.graph q.graph
  graphs = graphs-alike u v alike p q like

  homes : HomesAlike p.home q.home
  homes = homes-alike p.home q.home (ap (λ (x : Place). x.home) like)

  nodes : (l : ℕ) → Matched unmarked_node (node_at (out-Graph p.graph).nodes l) (node_at (out-Graph q.graph).nodes l)
  nodes l = matched unmarked_node _ _ (node-at-like p.graph q.graph graphs l)

  given : (from : Origin) (s : Sort) → IsGiven u p from s → IsGiven v q from s
  given (Lit text) s x = tt
  given (Port zero port) s x = fits-input u v alike p.graph q.graph graphs p.home q.home homes port s x
  given (Port (suc l) port) s x = fits-output u v alike p.graph q.graph graphs _ _ (nodes (suc l)) port s x

  wanted : (l : ℕ) (n m : Option Node) → Matched unmarked_node n m → (port : ℕ) (s : Sort) → IsWanted u p l n port s → IsWanted v q l m port s
  wanted l _ _ neither port s x = fits-boundary u v alike p.graph q.graph graphs p.home q.home homes port s x
  wanted l _ _ (both n m same) port s x =
      subst (λ o. FitsNode v q.graph l (compound_at o) (simple_at o) port s) (over-node (λ n. (out-Node n).op) op-same n m same)
      (fits-node u v alike p.graph q.graph graphs l (compound_at (out-Node n).op) (simple_at (out-Node n).op) port s x)

  typed : (e : Edge) → IsTyped u p e → IsTyped v q e
  typed e (inl x) =
      inl (subst (λ w. IsFunctionName w (kind_of v e.ty)) (want-like u v alike p.graph q.graph graphs e.node e.port)
      (subst (λ (w : Unit1). IsFunctionName (want_at p.graph e.node e.port) (kind_of w e.ty)) alike x))
  typed e (inr x) =
      inr (x.0, subst (λ ts. sort_at ts e.ty ≡ Some x.0) (types-are u v alike) x.1, wanted e.node _ _ (nodes e.node) e.port x.0 x.2, given e.from x.0 x.3)

  home-part-like : (a b : Home) → HomesAlike a b → home_part a ≡ home_part b
  home-part-like _ _ (functions k) = refl
  home-part-like _ _ (insides outer other n m k outers same) = over-node (λ n. part_of n k) (λ n. part-same n k) n m same

  header : (a b : Home) → HomesAlike a b → IsHeaderTyped u p.graph a → IsHeaderTyped v q.graph b
  header _ _ (functions k) x = subst IsFunctionType (function-like u v alike p.graph q.graph graphs) x
  header _ _ (insides outer other n m k outers same) x = tt

  end-typed : (n m : Option Node) → Matched unmarked_node n m → IsEndTyped u p n → IsEndTyped v q m
  end-typed _ _ neither x = header p.home q.home homes x
  end-typed _ _ (both n m same) x =
      subst (λ o. StandsRight (home_part q.home) (simple_at o)) (over-node (λ n. (out-Node n).op) op-same n m same)
      (subst (λ c. StandsRight c (simple_at (out-Node n).op)) (home-part-like p.home q.home homes) x)

  pub types-right : (l : ℕ) → AreTypesRight u p l → AreTypesRight v q l
  types-right l a =
      record {
        place = end-typed _ _ (nodes l) a.place;
        edges = all-matched untaken (IsTyped u p) (IsTyped v q) (λ x y same b. typed y (subst (IsTyped u p) same b)) (edges_into p.graph l) (edges_into q.graph l) (into-like p.graph q.graph graphs l) a.edges;
        agree = all-matched untaken (λ e. AgreesWith u p.graph e e.from) (λ e. AgreesWith v q.graph e e.from)
            (λ x y same b. agrees u v alike p.graph q.graph graphs y y.from (subst (λ (z : Edge). AgreesWith u p.graph z z.from) same b)) (edges_into p.graph l) (edges_into q.graph l) (into-like p.graph q.graph graphs l) a.agree;
      }
