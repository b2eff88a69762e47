-- What is kept of a level that gains a node or an edge.
use Rattle.std.proofs.Common.{◌≡◌, ℕ, suc, List, [], ◌∷◌, ◌++◌, map, length, Option, Some, None, refl, sym, ap, ◌∙◌, append-nil}
use Rattle.std.proofs.lemmas.List.{map-append, length-map}
use Rattle.if1_graph.specs.declared.graph.Graph.{Graph}
use Rattle.if1_graph.specs.declared.graph.Node.{Node}
use Rattle.if1_graph.specs.declared.graph.Edge.{Edge}
use Rattle.if1_read.specs.declared.fault.Kind.{Kind}
use Rattle.if1_read.specs.declared.part.Part.{Part}
use Rattle.if1_read.specs.Faults.{with_some}
use Rattle.if1_read.specs.Pages.{Lit, Page, Rules, wrong_node}
use Rattle.if1_read.specs.Rows.{by_line}
use Rattle.if1_read.specs.Sheets.{marks_of, lined_marks, lit_of, lined_lits, page_of, sheet_with, sheet_with_node, node_wrong, page_with_lit, sheet_with_edge, edge_wrong}

marks_push : (ns : List (ℕ × Node)) (x : ℕ × Node) → lined_marks (ns ++ x ∷ []) ≡ lined_marks ns ++ (x.0, marks_of x.1) ∷ []
marks_push ns x = map-append (λ (n : ℕ × Node). (n.0, marks_of n.1)) ns (x ∷ [])

some_append : {A : Type 0} (o : Option A) (xs ys : List A) → with_some o (xs ++ ys) ≡ with_some o xs ++ ys
some_append None xs ys = refl
some_append (Some a) xs ys = refl

lits_push : (es : List (ℕ × Edge)) (x : ℕ × Edge) → lined_lits (es ++ x ∷ []) ≡ lined_lits es ++ with_some (by_line x.0 (lit_of x.1)) []
lits_push [] x = refl
lits_push (e ∷ es) x =
    ap (with_some (by_line e.0 (lit_of e.1))) (lits_push es x) ∙ some_append (by_line e.0 (lit_of e.1)) (lined_lits es) (with_some (by_line x.0 (lit_of x.1)) [])

page_lits : (ns : List (ℕ × (ℕ × ℕ))) (ls : List (ℕ × Lit)) (n : ℕ) (o : Option Lit) →
    record { nodes = ns; lits = ls ++ with_some (by_line n o) [] } ≡ page_with_lit n o (record { nodes = ns; lits = ls })
page_lits ns ls n None = λ i. record { nodes = ns; lits = append-nil ls i }
page_lits ns ls n (Some l) = refl

module _ (gs : List Graph) (o : Option Part) (p : Part) (is : o ≡ Some p) (n : ℕ) where
  pub node_kept : {ns : List (ℕ × Node)} (node : Node) → ns ≡ p.nodes.items ++ (n, node) ∷ [] →
      (Some (record { nodes = lined_marks ns; lits = lined_lits p.edges.items }), suc (length gs)) ≡ sheet_with_node n (marks_of node) (sheet_with gs o)
  node_kept {ns = ns} node nodes =
      let marks : lined_marks ns ≡ lined_marks p.nodes.items ++ (n, marks_of node) ∷ [] = ap lined_marks nodes ∙ marks_push p.nodes.items (n, node) in
      (λ i. (Some (record { nodes = marks i; lits = lined_lits p.edges.items }), suc (length gs)))
      ∙ ap (λ (x : Option Part). sheet_with_node n (marks_of node) (sheet_with gs x)) (sym is)

  pub edge_kept : {es : List (ℕ × Edge)} (e : Edge) → es ≡ p.edges.items ++ (n, e) ∷ [] →
      (Some (record { nodes = lined_marks p.nodes.items; lits = lined_lits es }), suc (length gs)) ≡ sheet_with_edge n (lit_of e) (sheet_with gs o)
  edge_kept {es = es} e edges =
      let lits : lined_lits es ≡ lined_lits p.edges.items ++ with_some (by_line n (lit_of e)) [] = ap lined_lits edges ∙ lits_push p.edges.items (n, e) in
      let page : record { nodes = lined_marks p.nodes.items; lits = lined_lits es } ≡ page_with_lit n (lit_of e) (page_of p) =
      (λ i. record { nodes = lined_marks p.nodes.items; lits = lits i }) ∙ page_lits (lined_marks p.nodes.items) (lined_lits p.edges.items) n (lit_of e) in
      ap (λ (x : Page). (Some x, suc (length gs))) page
      ∙ ap (λ (x : Option Part). sheet_with_edge n (lit_of e) (sheet_with gs x)) (sym is)

module _ (gs : List Graph) (o : Option Part) (p : Part) (is : o ≡ Some p) (wrong : Option Kind) where
  pub node_ruled : (op before : ℕ) → before ≡ length p.nodes.items → wrong ≡ wrong_node op before → wrong ≡ node_wrong op (sheet_with gs o)
  node_ruled op before count w =
      w ∙ (ap (wrong_node op) (count ∙ sym (length-map p.nodes.items (λ (n : ℕ × Node). (n.0, marks_of n.1))))
      ∙ ap (λ (x : Option Part). node_wrong op (sheet_with gs x)) (sym is))

  pub edge_ruled : (r : Rules) (ty : ℕ) → wrong ≡ r.type_wrong ty → wrong ≡ edge_wrong r ty (sheet_with gs o)
  edge_ruled r ty w = w ∙ ap (λ (x : Option Part). edge_wrong r ty (sheet_with gs x)) (sym is)
