-- Lines that give a formed unit are without a fault.
use Rattle.std.proofs.Common.{◌≡◌, ℕ, suc, ◌<◌, List, [], ◌∷◌, ◌++◌, map, length, refl, sym, ap, subst, ◌∙◌}
use Rattle.std.specs.Prelude.{All, false}
use Rattle.std.proofs.lemmas.List.Elements.{All-head, All-tail}
use Rattle.if1_graph.specs.declared.line.Line.{Line}
use Rattle.if1_graph.specs.declared.line.Line.TheVariants as line
use Rattle.if1_graph.specs.declared.graph.Graph.{Graph}
use Rattle.if1_graph.specs.declared.graph.Graph.TheViews.{out-Graph}
use Rattle.if1_graph.specs.declared.graph.Node.{Node, out-Node}
use Rattle.if1_graph.specs.declared.graph.Edge.{Edge}
use Rattle.if1_graph.specs.declared.graph.Origin.TheVariants.{Port, Lit as Text}
use Rattle.if1_graph.specs.declared.graph.Unit1.{Unit1}
use Rattle.if1_graph.specs.Formed.{IsOpcode, IsImport}
use Rattle.if1_graph.specs.Reads.{GivesBody, GivesParts, GivesUnit, IsGraphOf, edge_of, no_line, simple, compound, edge, literal, no_part, part, no_graph, import, function}
use Rattle.if1_read.proofs.Walking.{Lined}
use Rattle.if1_read.proofs.Faultless.{Bears, IsGraphRight, IsBody, AreParts, AreFunctions, no_line as no_lines, simple as simple_line, compound as compound_lines, edge as edge_line, literal as literal_line, no_part as no_parts, part as part_lines, no_function, import as import_line, function as function_lines}
use Rattle.if1_read.proofs.Same.{all_here}
use Rattle.if1_read.proofs.Good.{IsGood, AreGood, IsFunctionGood, graph as good_graph, more as good_more}
use Rattle.if1_read.proofs.Rightly.{said, lits_of, name_of, functions_of, node_there, opcode, bears, right}

-- ---- numbered lines

abbrev pub said_by : List Lined → List Line
said_by ls = map (λ l. l.1) ls

pub data Rises : ℕ → List Lined → ℕ → Type 0 where
  flat : (n : ℕ) → Rises n [] n
  rise : {hi : ℕ} {ls : List Lined} (lo k : ℕ) (l : Line) → lo < k → Rises k ls hi → Rises lo ((k, l) ∷ ls) hi

record First (l : Line) (ls : List Line) (lo : ℕ) (fs : List Lined) (hi : ℕ) : Type 0 where
  number : ℕ
  rest : List Lined
  is : fs ≡ (number, l) ∷ rest
  above : lo < number
  lines : said_by rest ≡ ls
  rises : Rises number rest hi

first : (l : Line) (ls : List Line) (lo : ℕ) (fs : List Lined) (hi : ℕ) → said_by fs ≡ l ∷ ls → Rises lo fs hi → First l ls lo fs hi
first l ls lo fs hi e (flat n) = absurd cc
first l ls lo fs hi e (rise {hi = h2} {ls = rest} n k m lt r) =
    let same : m ≡ l = cc in
    let others : said_by rest ≡ ls = cc in
    record { number = k; rest = rest; is = ap (λ x. (k, x) ∷ rest) same; above = lt; lines = others; rises = r }

record Parted (xs ys : List Line) (lo : ℕ) (fs : List Lined) (hi : ℕ) : Type 0 where
  left : List Lined
  right : List Lined
  mid : ℕ
  is : fs ≡ left ++ right
  lines : said_by left ≡ xs
  others : said_by right ≡ ys
  rises : Rises lo left mid
  goes_on : Rises mid right hi

parted : (xs ys : List Line) (lo : ℕ) (fs : List Lined) (hi : ℕ) → said_by fs ≡ xs ++ ys → Rises lo fs hi → Parted xs ys lo fs hi
parted [] ys lo fs hi e r = record { left = []; right = fs; mid = lo; is = refl; lines = refl; others = e; rises = flat lo; goes_on = r }
parted (x ∷ xs) ys lo fs hi e r =
    let v = first x (xs ++ ys) lo fs hi e r in
    let p = parted xs ys v.number v.rest hi v.lines v.rises in
    record {
      left = (v.number, x) ∷ p.left;
      right = p.right;
      mid = p.mid;
      is = v.is ∙ ap (λ gs. (v.number, x) ∷ gs) p.is;
      lines = ap (λ ms. x ∷ ms) p.lines;
      others = p.others;
      rises = rise lo v.number x v.above p.rises;
      goes_on = p.goes_on;
    }

ends_there : (lo : ℕ) (fs : List Lined) (hi : ℕ) → said_by fs ≡ [] → Rises lo fs hi → (lo ≡ hi) × ([] ≡ fs)
ends_there lo fs hi e (flat n) = (refl, refl)
ends_there lo fs hi e (rise {hi = h2} {ls = rest} n k m lt r) = absurd cc

joined : (fs : List Lined) (x : Lined) (rest front back : List Lined) → fs ≡ x ∷ rest → rest ≡ front ++ back → fs ≡ x ∷ front ++ back
joined fs x rest front back e f = e ∙ ap (λ gs. x ∷ gs) f

closed : (fs : List Lined) (x : Lined) (front back : List Lined) (y : Lined) (last : List Lined) → fs ≡ x ∷ front ++ back → back ≡ y ∷ last → fs ≡ x ∷ front ++ y ∷ last
closed fs x front back y last e f = e ∙ ap (λ gs. x ∷ front ++ gs) f

-- ---- graphs

module _ (u : Unit1) where
  abbrev IsNodeGood : Node → Type 0
  IsNodeGood n = IsOpcode (out-Node n).op × AreGood u (out-Node n).subs

  abbrev IsEdgeGood : Edge → Type 0
  IsEdgeGood e = Bears u.types e.ty

  record Told (g : Graph) (ns : List Node) (es : List Edge) : Type 0 where
    nodes : All IsNodeGood ns
    edges : All IsEdgeGood es
    right : IsGraphRight u.types (functions_of u) (map said ns) (lits_of es)

  told : (g : Graph) (ns : List Node) (es : List Edge) → IsGraphOf u g ns es → IsGood u g → Told g ns es
  told g ns es of (good_graph h home formed inner) = record {
    nodes = all_here IsNodeGood ns (λ n c. (opcode u h home formed ns es of n c, inner n (node_there u h home formed ns es of n c)));
    edges = all_here IsEdgeGood es (λ e c. bears u h home formed ns es of e c);
    right = right u h home formed ns es of;
  }

  first_good : (g : Graph) (gs : List Graph) → AreGood u (g ∷ gs) → IsGood u g × AreGood u gs
  first_good g gs (good_more h hs x xs) = (x, xs)

  abbrev Body : ℕ → List Lined → ℕ → List Node → List Edge → Type 0
  Body lo fs hi ns es = IsBody u.types (functions_of u) lo fs hi (map said ns) (lits_of es)

  abbrev Parts : ℕ → List Lined → ℕ → ℕ → Type 0
  Parts lo fs hi count = AreParts u.types (functions_of u) lo fs hi count

  body_moved : (lo : ℕ) (fs gs : List Lined) (hi : ℕ) (ns : List Node) (es : List Edge) → fs ≡ gs → Body lo gs hi ns es → Body lo fs hi ns es
  body_moved lo fs gs hi ns es e b = subst (λ (hs : List Lined). Body lo hs hi ns es) (sym e) b

  node_moved : (lo : ℕ) (fs gs : List Lined) (hi : ℕ) (m : ℕ × ℕ) (n : Node) (ns : List Node) (es : List Edge) → fs ≡ gs → m ≡ said n →
      IsBody u.types (functions_of u) lo gs hi (m ∷ map said ns) (lits_of es) → Body lo fs hi (n ∷ ns) es
  node_moved lo fs gs hi m n ns es e f b =
      body_moved lo fs gs hi (n ∷ ns) es e (subst (λ (x : ℕ × ℕ). IsBody u.types (functions_of u) lo gs hi (x ∷ map said ns) (lits_of es)) f b)

  mutual
    body_made : (ls : List Line) (ns : List Node) (es : List Edge) → GivesBody u ls ns es → (lo : ℕ) (fs : List Lined) (hi : ℕ) → said_by fs ≡ ls → Rises lo fs hi →
        All IsNodeGood ns → All IsEdgeGood es → Body lo fs hi ns es
    body_made ls ns es no_line lo fs hi e r nodes edges =
        let t = ends_there lo fs hi e r in
        subst (λ (gs : List Lined). Body lo gs hi [] []) t.1 (subst (λ (h : ℕ). Body lo [] h [] []) t.0 (no_lines lo))
    body_made ls ns es (simple {ls = ls2} {ns = ns2} {es = es2} n label op before name is g) lo fs hi e r nodes edges =
        let x = line.Node label op before name in
        let v = first x ls2 lo fs hi e r in
        let here = All-head IsNodeGood n ns2 nodes in
        let known : IsOpcode op = subst IsOpcode is.op_is here.0 in
        let rest = body_made ls2 ns2 es2 g v.number v.rest hi v.lines v.rises (All-tail IsNodeGood n ns2 nodes) edges in
        let made = simple_line lo v.number label op before name v.above known rest in
        let same : (label, op) ≡ said n = λ i. (sym is.label_is i, sym is.op_is i) in
        node_moved lo fs ((v.number, x) ∷ v.rest) hi (label, op) n ns2 es2 v.is same made
    body_made ls ns es (compound {ps = ps} {ls = ls2} {ns = ns2} {es = es2} n rest label op gs assoc before name is p g) lo fs hi e r nodes edges =
        let x = line.Open rest in
        let y = line.Close label op (length gs) assoc before name in
        let v = first x (ps ++ y ∷ ls2) lo fs hi e r in
        let q = parted ps (y ∷ ls2) v.number v.rest hi v.lines v.rises in
        let w = first y ls2 q.mid q.right hi q.others q.goes_on in
        let here = All-head IsNodeGood n ns2 nodes in
        let known : IsOpcode op = subst IsOpcode is.op_is here.0 in
        let parts = parts_made ps gs p v.number q.left q.mid q.lines q.rises (subst (AreGood u) is.graphs_are here.1) in
        let body = body_made ls2 ns2 es2 g w.number w.rest hi w.lines w.rises (All-tail IsNodeGood n ns2 nodes) edges in
        let made = compound_lines lo v.number w.number rest label op assoc before name v.above known parts w.above body in
        let same : (label, op) ≡ said n = λ i. (sym is.label_is i, sym is.op_is i) in
        let whole = closed fs (v.number, x) q.left q.right (w.number, y) w.rest (joined fs (v.number, x) v.rest q.left q.right v.is q.is) w.is in
        node_moved lo fs ((v.number, x) ∷ q.left ++ (w.number, y) ∷ w.rest) hi (label, op) n ns2 es2 whole same made
    body_made ls ns es (edge {ls = ls2} {ns = ns2} {es = es2} from out node port ty takes name g) lo fs hi e r nodes edges =
        let x = line.Edge from out node port ty takes name in
        let v = first x ls2 lo fs hi e r in
        let f = edge_of (Port from out) node port ty takes name in
        let rest = body_made ls2 ns2 es2 g v.number v.rest hi v.lines v.rises nodes (All-tail IsEdgeGood f es2 edges) in
        body_moved lo fs ((v.number, x) ∷ v.rest) hi ns2 (f ∷ es2) v.is
        (edge_line lo v.number from out node port ty takes name v.above (All-head IsEdgeGood f es2 edges) rest)
    body_made ls ns es (literal {ls = ls2} {ns = ns2} {es = es2} node port ty text name g) lo fs hi e r nodes edges =
        let x = line.Literal node port ty text name in
        let v = first x ls2 lo fs hi e r in
        let f = edge_of (Text text) node port ty false name in
        let rest = body_made ls2 ns2 es2 g v.number v.rest hi v.lines v.rises nodes (All-tail IsEdgeGood f es2 edges) in
        body_moved lo fs ((v.number, x) ∷ v.rest) hi ns2 (f ∷ es2) v.is
        (literal_line lo v.number node port ty text name v.above (All-head IsEdgeGood f es2 edges) rest)

    parts_made : (ls : List Line) (gs : List Graph) → GivesParts u ls gs → (lo : ℕ) (fs : List Lined) (hi : ℕ) → said_by fs ≡ ls → Rises lo fs hi → AreGood u gs →
        Parts lo fs hi (length gs)
    parts_made ls gs no_part lo fs hi e r good =
        let t = ends_there lo fs hi e r in
        subst (λ (gs : List Lined). Parts lo gs hi 0) t.1 (subst (λ (h : ℕ). Parts lo [] h 0) t.0 (no_parts lo))
    parts_made ls gs (part {ls = bs} {ps = ps} {ns = ns} {es = es} {gs = gs2} g b of p) lo fs hi e r good =
        let name = (out-Graph g).name in
        let x = line.Subgraph name in
        let v = first x (bs ++ ps) lo fs hi e r in
        let q = parted bs ps v.number v.rest hi v.lines v.rises in
        let goods = first_good g gs2 good in
        let t = told g ns es of goods.0 in
        let body = body_made bs ns es b v.number q.left q.mid q.lines q.rises t.nodes t.edges in
        let parts = parts_made ps gs2 p q.mid q.right hi q.others q.goes_on goods.1 in
        let whole = joined fs (v.number, x) v.rest q.left q.right v.is q.is in
        subst (λ (hs : List Lined). Parts lo hs hi (suc (length gs2))) (sym whole) (part_lines lo v.number name v.above body t.right parts)

  abbrev Functions : ℕ → List Lined → ℕ → List Graph → Type 0
  Functions lo fs hi gs = AreFunctions u.types (functions_of u) lo fs hi (map name_of gs)

  pub functions_made : (ls : List Line) (is : List (ℕ × List ℕ)) (gs : List Graph) → GivesUnit u ls is gs → (lo : ℕ) (fs : List Lined) (hi : ℕ) → said_by fs ≡ ls → Rises lo fs hi →
      All (IsImport u.types) is → All (IsFunctionGood u) gs → Functions lo fs hi gs
  functions_made ls is gs no_graph lo fs hi e r imports good =
      let t = ends_there lo fs hi e r in
      subst (λ (gs : List Lined). Functions lo gs hi []) t.1 (subst (λ (h : ℕ). Functions lo [] h []) t.0 (no_function lo))
  functions_made ls is gs (import {ls = ls2} {is = is2} {gs = gs2} ty name g) lo fs hi e r imports good =
      let x = line.Import ty name in
      let v = first x ls2 lo fs hi e r in
      let known = (All-head (IsImport u.types) (ty, name) is2 imports).1 in
      let rest = functions_made ls2 is2 gs2 g v.number v.rest hi v.lines v.rises (All-tail (IsImport u.types) (ty, name) is2 imports) good in
      subst (λ (hs : List Lined). Functions lo hs hi gs2) (sym v.is) (import_line lo v.number ty name v.above known rest)
  functions_made ls is gs (function {bs = bs} {ls = ls2} {ns = ns} {es = es} {is = is2} {gs = gs2} g b of rest) lo fs hi e r imports good =
      let exported = (out-Graph g).exported in
      let fun = (out-Graph g).fun in
      let name = (out-Graph g).name in
      let x = line.Function exported fun name in
      let v = first x (bs ++ ls2) lo fs hi e r in
      let q = parted bs ls2 v.number v.rest hi v.lines v.rises in
      let here = All-head (IsFunctionGood u) g gs2 good in
      let t = told g ns es of here.good in
      let body = body_made bs ns es b v.number q.left q.mid q.lines q.rises t.nodes t.edges in
      let others = functions_made ls2 is2 gs2 rest q.mid q.right hi q.others q.goes_on imports (All-tail (IsFunctionGood u) g gs2 good) in
      let whole = joined fs (v.number, x) v.rest q.left q.right v.is q.is in
      subst (λ (hs : List Lined). Functions lo hs hi (g ∷ gs2)) (sym whole)
      (function_lines lo v.number exported fun name v.above (record { there = here.fun.1; free = here.fun.2 }) body t.right others)
