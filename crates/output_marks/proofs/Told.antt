-- The marks of a node tell of its outputs.
use Rattle.std.proofs.Common.{◌≡◌, ℕ, ◌-◌, ◌≤◌, ◌&&◌, Bool, true, false, List, ◌++◌, map, get_or, length, replicate, Option, Some, None, Contains, refl, sym, ap, ◌∙◌, subst}
use Rattle.std.proofs.lemmas.List.{length-replicate}
use Rattle.std.specs.List.{list_any}
use Rattle.if1_graph.specs.declared.graph.Edge.{Edge}
use Rattle.if1_graph.specs.declared.graph.Graph.{Graph}
use Rattle.if1_graph.specs.declared.graph.Graph.TheViews.{out-Graph}
use Rattle.if1_graph.specs.declared.graph.Node.{Node, out-Node}
use Rattle.if1_graph.specs.declared.graph.Unit1.{Unit1}
use Rattle.if1_graph.specs.declared.op.Compound.{Compound}
use Rattle.if1_graph.specs.declared.op.Simple.{Simple}
use Rattle.if1_graph.specs.declared.op.Simple.TheVariants as simple
use Rattle.if1_graph.specs.Ops.{compound_at, simple_at}
use Rattle.if1_graph.specs.Ports.{count_from, leaves}
use Rattle.if1_graph.specs.Ready.{IsReady}
use Rattle.if1_graph.specs.Tables.{◌>>=◌}
use Rattle.if1_graph.specs.Units.{Place, edge_into, label_of, number_of, places}
use Rattle.if1_marks.specs.Aggregates.{is_aggregate}
use Rattle.if1_marks.specs.Given.{is_call_as}
use Rattle.graph_meaning.proofs.StorageUnits.{call-kind, plain-kind}
use Rattle.graph_meaning.specs.Demand.{Kind, Plain, Whole}
use Rattle.graph_meaning.specs.Forms as form
use Rattle.graph_meaning.specs.Networks.{callee_number, kind_as, kind_of, shape_of, simple_kind}
use Rattle.graph_meaning.specs.NodeValues.{Shape}
use Rattle.graph_meaning.specs.StorageUnits.{carries_elements, gives_aggregate, operation, storage_of, test_in}
use Rattle.unit_laws.proofs.TypedNodes.{node-found}
use Rattle.storage_flags.proofs.UnitPlanFound.{place-found}
use Rattle.storage_flags.proofs.Filtered.{any-filtered}
use Rattle.row_counts.specs.Counts.{AreMarked, AreOutputsTold, hands_out}
use Rattle.output_marks.proofs.Lists.{any-both, at-alike, at-each, behind, counted-long}
use Rattle.output_marks.specs.Marks.{AreTold, marks_of}
use Rattle.output_marks.specs.Outputs.{hands_aggregate}

-- ---- what a node does, where it stands as a simple one

module _ (u : Unit1) (g : Graph) (n : Node) where
  -- an error is no row that hands anything out
  abbrev IsDone : Kind → Type 0
  IsDone k = (row : Simple) (shape : Shape) → k ≡ Plain row shape → (row ≡ simple.Error → ⊥) → simple_at (out-Node n).op ≡ Some row

  no-whole : (f : form.Form) (row : Simple) (shape : Shape) → Whole f ≡ Plain row shape → ⊥
  no-whole f row shape e = cc

  same-row : (op row : Simple) (own shape : Shape) → Plain op own ≡ Plain row shape → op ≡ row
  same-row op row own shape e = cc

  by-simple : (op : Simple) → simple_at (out-Node n).op ≡ Some op → (b : Bool) → is_call_as None (Some op) ≡ b → IsDone (simple_kind u g (label_of n) op)
  by-simple op at true is = subst IsDone (sym (call-kind u g (label_of n) op is)) (λ row shape e not. absurd (no-whole (form.Call (callee_number u g (label_of n))) row shape e))
  by-simple op at false is = subst IsDone (sym (plain-kind u g (label_of n) op is)) (λ row shape e not. at ∙ ap Some (same-row op row (shape_of u g (label_of n) op) shape e))

  by-kind : (c : Option Compound) (o : Option Simple) → simple_at (out-Node n).op ≡ o → IsDone (kind_as u g n c o)
  by-kind (Some c) o at = λ row shape e not. absurd (no-whole _ row shape e)
  by-kind None (Some op) at = by-simple op at (is_call_as None (Some op)) refl
  by-kind None None at = λ row shape e not. absurd (not (sym (same-row simple.Error row _ shape e)))

  done : IsDone (kind_of u g n)
  done = by-kind (compound_at (out-Node n).op) (simple_at (out-Node n).op) refl

module _ (u : Unit1) (ready : IsReady u) (p : Place) (there : Contains (places u) p) (n : Node) (inside : Contains (out-Graph p.graph).nodes n) (shape : Shape) where
  abbrev l : ℕ
  l = label_of n

  does : (row : Simple) → kind_of u p.graph n ≡ Plain row shape → (row ≡ simple.Error → ⊥) → operation p.graph l ≡ Some row
  does row e not = ap (λ o. o >>= λ n. simple_at (out-Node n).op) (node-found u ready p there n inside) ∙ done u p.graph n row shape e not

  -- whether an output is an aggregate
  made : (row : Simple) → kind_of u p.graph n ≡ Plain row shape → (row ≡ simple.Error → ⊥) → (port : ℕ) → (storage_of u).is_made (number_of p) l port ≡ gives_aggregate u p.graph l port (Some row)
  made row e not port =
      ap (λ o. test_in o (λ g. gives_aggregate u g l port (operation g l))) (place-found u ready.formed p there) ∙ ap (gives_aggregate u p.graph l port) (does row e not)

  used : (port : ℕ) → (storage_of u).is_used (number_of p) l port ≡ list_any (λ e. leaves l port e.from) (out-Graph p.graph).edges
  used port = ap (λ o. test_in o (λ g. list_any (λ e. leaves l port e.from) (out-Graph g).edges)) (place-found u ready.formed p there)

  handed : kind_of u p.graph n ≡ Plain simple.RElements shape → (port : ℕ) → hands_aggregate u.types p.graph l port ≡ hands_out (storage_of u) (number_of p) l simple.RElements port
  handed e port =
      let es = (out-Graph p.graph).edges in
      let leaving : Edge → Bool = λ e. leaves l port e.from in
      let whole : Edge → Bool = λ e. is_aggregate u.types e.ty in
      sym (any-both leaving whole es)
      ∙ (ap (λ b. b && list_any leaving es) (any-filtered leaving whole es ∙ sym (made simple.RElements e (λ x. cc) port))
      ∙ ap (λ b. (storage_of u).is_made (number_of p) l port && b) (sym (used port)))

  module _ (old more : List Bool) (w : ℕ) where
    -- the marks of a row that are so at each port tell of it
    marked : (row : Simple) (new : List Bool) → length new ≡ w → ((port : ℕ) → 1 ≤ port → port ≤ w → get_or new (port - 1) true ≡ hands_out (storage_of u) (number_of p) l row port)
        → AreMarked (storage_of u) (number_of p) l ((old ++ new) ++ more) w (length old) row
    marked row new long h port one le = ap (λ xs. get_or xs (port - 1) true) (behind old new more w long) ∙ h port one le

    alike : (row : Simple) → ((port : ℕ) → carries_elements u (edge_into p.graph l 1) ≡ hands_out (storage_of u) (number_of p) l row port)
        → AreMarked (storage_of u) (number_of p) l ((old ++ replicate w (carries_elements u (edge_into p.graph l 1))) ++ more) w (length old) row
    alike row h = marked row (replicate w (carries_elements u (edge_into p.graph l 1))) (length-replicate w _) (λ port one le. at-alike (carries_elements u (edge_into p.graph l 1)) w port one le ∙ h port)

    pub row-told : (row : Simple) → kind_of u p.graph n ≡ Plain row shape → AreOutputsTold (storage_of u) (number_of p) l ((old ++ marks_of u p.graph l w row) ++ more) w (length old) row
    row-told simple.AElement e = alike simple.AElement (λ port. sym (made simple.AElement e (λ x. cc) port))
    row-told simple.FirstValue e = alike simple.FirstValue (λ port. sym (made simple.FirstValue e (λ x. cc) port))
    row-told simple.RElements e =
        let f = hands_aggregate u.types p.graph l in
        marked simple.RElements (map f (count_from 1 w)) (counted-long f 1 w) (λ port one le. at-each f w port one le ∙ handed e port)
    row-told (simple.One a) e = tt
    row-told (simple.Two a) e = tt
    row-told simple.NoOp e = tt
    row-told simple.Error e = tt
    row-told simple.Call e = tt
    row-told simple.ABuild e = tt
    row-told simple.AFill e = tt
    row-told simple.AReplace e = tt
    row-told simple.AAddH e = tt
    row-told simple.AAddL e = tt
    row-told simple.ARemH e = tt
    row-told simple.ARemL e = tt
    row-told simple.ASetL e = tt
    row-told simple.AAdjust e = tt
    row-told simple.ALimL e = tt
    row-told simple.ALimH e = tt
    row-told simple.ASize e = tt
    row-told simple.AIsEmpty e = tt
    row-told simple.ACatenate e = tt
    row-told simple.RestValues e = tt
    row-told simple.RBuild e = tt
    row-told simple.RReplace e = tt
    row-told simple.RangeGenerate e = tt
    row-told simple.AScatter e = tt
    row-told simple.AGather e = tt
    row-told simple.FinalValue e = tt
    row-told (simple.Reduce grouping) e = tt

pub marks-told : (u : Unit1) (g : Graph) (l w : ℕ) (row : Simple) (old new : List Bool) (first : ℕ) → first ≡ length old → new ≡ old ++ marks_of u g l w row → AreTold u g l w row new first
marks-told u g l w row old new first at put ready p there same n inside label shape kind more =
    let within : Contains (out-Graph p.graph).nodes n = subst (λ (h : Graph). Contains (out-Graph h).nodes n) (sym same) inside in
    let does : kind_of u p.graph n ≡ Plain row shape = ap (λ (h : Graph). kind_of u h n) same ∙ kind in
    let own = row-told u ready p there n within shape old more w row does in
    let here = subst (λ (h : Graph). AreOutputsTold (storage_of u) (number_of p) (label_of n) ((old ++ marks_of u h (label_of n) w row) ++ more) w (length old) row) same own in
    let labelled = subst (λ k. AreOutputsTold (storage_of u) (number_of p) k ((old ++ marks_of u g k w row) ++ more) w (length old) row) label here in
    let told = subst (λ (xs : List Bool). AreOutputsTold (storage_of u) (number_of p) l (xs ++ more) w (length old) row) (sym put) labelled in
    subst (λ k. AreOutputsTold (storage_of u) (number_of p) l (new ++ more) w k row) (sym at) told
