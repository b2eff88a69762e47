-- One more line of a graph.
use Rattle.std.proofs.Common.{◌≡◌, ℕ, zero, suc, ◌^◌, ◌<◌, Bool, true, ◌&&◌, ltb, List, [], ◌∷◌, ◌++◌, length, get_or, refl, sym, ap, subst, ◌∙◌, arith, append-nil}
use Rattle.std.specs.Prelude.{All, IsTrue}
use Rattle.std.specs.List.Sorted.{IsStrictlyIncreasing}
use Rattle.std.proofs.lemmas.Bool.{ltb-true}
use Rattle.std.proofs.lemmas.List.Elements.{All-nil, All-cons, All-append}
use Rattle.if1_graph.specs.declared.line.Line.{Line}
use Rattle.if1_graph.specs.declared.line.Line.TheVariants as line
use Rattle.if1_graph.specs.Spelling.{IsSpelled, IsNumber, IsLabel, IsName, IsQuotable, AreBefore, are_numbers, rises_from}
use Rattle.if1_graph.proofs.Decimals.{and_parts}
use Rattle.if1_graph.specs.declared.graph.Graph.{Graph}
use Rattle.if1_graph.specs.declared.graph.Graph.TheViews.{out-Graph}
use Rattle.if1_graph.specs.declared.graph.Node.{Node, out-Node}
use Rattle.if1_graph.specs.declared.graph.Edge.{Edge}
use Rattle.if1_graph.specs.declared.graph.Origin.{Origin}
use Rattle.if1_graph.specs.declared.graph.Origin.TheVariants.{Port, Lit}
use Rattle.if1_graph.specs.declared.graph.Unit1.{Unit1}
use Rattle.if1_graph.specs.Units.{label_of}
use Rattle.if1_graph.specs.Formed.{most, IsOpcode, IsWholeType, IsImport}
use Rattle.if1_graph.specs.Lines.{edge_line, origin_line}
use Rattle.if1_graph.specs.Reads.{GivesBody, GivesParts, GivesUnit, IsSimpleNode, IsCompoundNode, edge_of, no_line, simple, compound, edge, literal, no_part, part, no_graph, import, function}
use Rattle.if1_read.specs.declared.judge.Known.{Known}
use Rattle.if1_read.specs.declared.part.Part.{Part}
use Rattle.if1_read.specs.Like.{IsSameNode, IsSameGraph, IsLike, AreLike, graph as like_graph}
use Rattle.if1_read.specs.Known.{IsTableSound, IsClear, Fits}
use Rattle.if1_read.specs.Fine.{IsNodeFine, IsPartHeader, AreFineWithin, no_part as fine_none, part as fine_part}
use Rattle.if1_read.specs.Made.{nodes_of, edges_of, Ends, NoLiteralTakes, IsEdgeMade, IsInner, IsOuter, NodesMade, IsBodyMade, PartsMade, ArePartsMade, IsFunctionFine, FunctionsMade, AreFunctionsMade}
use Rattle.if1_read.proofs.Giving.{body_more, parts_more, unit_more}
use Rattle.if1_read.proofs.Likeness.{last_node, last_graph, none_like, no_node_like, length_like}
use Rattle.if1_read.proofs.Marking.{clear_there, clear_free}
use Rattle.if1_read.proofs.Ending.{graph_made}

-- ---- lists of numbers

is_so : (b : Bool) → IsTrue b → b ≡ true
is_so b h = h

numbers_all : (ns : List ℕ) → are_numbers ns ≡ true → All IsNumber ns
numbers_all [] h = All-nil IsNumber
numbers_all (n ∷ ns) h =
    let e = and_parts (ltb n (2 ^ 32)) (are_numbers ns) h in
    All-cons IsNumber n ns (ltb-true n (2 ^ 32) e.0) (numbers_all ns e.1)

record Rises (least : ℕ) (ns : List ℕ) : Type 0 where
  labels : All IsLabel ns
  up : IsStrictlyIncreasing ns
  first : (k : ℕ) → k < length ns → least < get_or ns k 0

rising_more : (n : ℕ) (ns : List ℕ) → IsStrictlyIncreasing ns → ((k : ℕ) → k < length ns → n < get_or ns k 0) → IsStrictlyIncreasing (n ∷ ns)
rising_more n ns up above zero h = above 0 (omega (arith, h))
rising_more n ns up above (suc k) h = grind (arith, up k)

first_more : (least n : ℕ) (ns : List ℕ) → least < n → ((k : ℕ) → k < length ns → n < get_or ns k 0) → (k : ℕ) → k < length (n ∷ ns) → least < get_or (n ∷ ns) k 0
first_more least n ns lt above zero h = lt
first_more least n ns lt above (suc k) h = omega (arith, lt, above k (omega (arith, h)))

rises : (least : ℕ) (ns : List ℕ) → are_numbers ns ≡ true → rises_from least ns ≡ true → Rises least ns
rises least [] a r = record { labels = All-nil IsLabel; up = λ k h. absurd (omega (arith, h)); first = λ k h. absurd (omega (arith, h)) }
rises least (n ∷ ns) a r =
    let x = and_parts (ltb n (2 ^ 32)) (are_numbers ns) a in
    let y = and_parts (ltb least n) (rises_from n ns) r in
    let t = rises n ns x.1 y.1 in
    let lt : least < n = ltb-true least n y.0 in
    record {
      labels = All-cons IsLabel n ns (omega (arith, lt), ltb-true n (2 ^ 32) x.0) t.labels;
      up = rising_more n ns t.up t.first;
      first = first_more least n ns lt t.first;
    }

before_rises : (ns : List ℕ) → AreBefore ns → Rises 0 ns
before_rises ns h = let e = and_parts (are_numbers ns) (rises_from 0 ns) (is_so (are_numbers ns && rises_from 0 ns) h) in rises 0 ns e.0 e.1

-- ---- lines of a graph

pub body_none : (k : Known) (m : ℕ) → IsBodyMade k m [] [] []
body_none k m = record {
  nodes = λ u fits ms like.
      subst (NodesMade u m [] []) (sym (no_node_like ms like))
      (record { gives = no_line; nodes = All-nil IsNodeFine; parts = All-nil (λ n. AreFineWithin u m (out-Node n).subs) });
  edges = All-nil (IsEdgeMade k);
  few = omega arith;
}

-- what the lines of one node give
pub record NodeGiven (u : Unit1) (m : ℕ) (js : List Line) (n : Node) : Type 0 where
  pub gives : GivesBody u js (n ∷ []) []
  pub node : IsNodeFine n
  pub parts : AreFineWithin u m (out-Node n).subs

abbrev pub IsGiven : Known → ℕ → List Line → Node → Type 0
IsGiven k m js n = (u : Unit1) → Fits k u → (x : Node) → IsSameNode n x → AreLike (out-Node n).subs (out-Node x).subs → NodeGiven u m js x

length_more : {A : Type 0} (xs : List A) (x : A) → length (xs ++ x ∷ []) ≡ suc (length xs)
length_more [] x = refl
length_more (y ∷ xs) x = ap suc (length_more xs x)

pub body_node : (k : Known) (m : ℕ) (ls js : List Line) (ns : List Node) (n : Node) (es : List Edge) → IsBodyMade k m ls ns es → IsGiven k m js n → length ns < most →
    IsBodyMade k m (ls ++ js) (ns ++ n ∷ []) es
body_node k m ls js ns n es made given few = record {
  nodes = λ u fits ms like.
      let t = last_node ns n ms like in
      let front = made.nodes u fits t.front t.like in
      let last = given u fits t.last t.same t.subs in
      subst (NodesMade u m (ls ++ js) es) (sym t.is)
      (record {
        gives = subst (GivesBody u (ls ++ js) (t.front ++ t.last ∷ [])) (append-nil es) (body_more u ls js t.front (t.last ∷ []) es [] front.gives last.gives);
        nodes = All-append IsNodeFine t.front (t.last ∷ []) front.nodes (All-cons IsNodeFine t.last [] last.node (All-nil IsNodeFine));
        parts =
            All-append (λ n. AreFineWithin u m (out-Node n).subs) t.front (t.last ∷ []) front.parts
            (All-cons (λ n. AreFineWithin u m (out-Node n).subs) t.last [] last.parts (All-nil (λ n. AreFineWithin u m (out-Node n).subs)));
      });
  edges = made.edges;
  few = omega (arith, few, length_more ns n);
}

node_fine : (x : Node) (label op : ℕ) (before name : List ℕ) → label_of x ≡ label → (out-Node x).op ≡ op → (out-Node x).before ≡ before → (out-Node x).name ≡ name →
    IsLabel label → IsNumber op → AreBefore before → IsName name → IsOpcode op → IsNumber (length (out-Node x).subs) → All IsNumber (out-Node x).assoc → IsNodeFine x
node_fine x label op before name el eo eb en l o b n is count assoc =
    let r = before_rises before b in
    record {
      node = record {
        label = subst IsLabel (sym el) l;
        op = subst IsOpcode (sym eo) is;
        op_number = subst IsNumber (sym eo) o;
        count = count;
        assoc = assoc;
        before = subst (All IsLabel) (sym eb) r.labels;
        name = subst IsName (sym en) n;
      };
      before = subst IsStrictlyIncreasing (sym eb) r.up;
    }

pub simple_given : (k : Known) (m : ℕ) (n : Node) (label op : ℕ) (before name : List ℕ) → IsSimpleNode n label op before name → IsSpelled (line.Node label op before name) →
    IsOpcode op → IsGiven k m (line.Node label op before name ∷ []) n
simple_given k m n label op before name is sp known u fits x same subs =
    let none : (out-Node x).subs ≡ [] = none_like (out-Node x).subs (subst (λ (gs : List Graph). AreLike gs (out-Node x).subs) is.no_graphs subs) in
    let list : (out-Node x).assoc ≡ [] = same.list_is ∙ is.no_list in
    let el : label_of x ≡ label = same.label_is ∙ is.label_is in
    let eo : (out-Node x).op ≡ op = same.op_is ∙ is.op_is in
    let eb : (out-Node x).before ≡ before = same.before_is ∙ is.before_is in
    let en : (out-Node x).name ≡ name = same.name_is ∙ is.name_is in
    record {
      gives = simple x label op before name (record { label_is = el; op_is = eo; no_graphs = none; no_list = list; before_is = eb; name_is = en }) no_line;
      node =
          node_fine x label op before name el eo eb en sp.0 sp.1 sp.2 sp.3 known
          (subst (λ (gs : List Graph). IsNumber (length gs)) (sym none) (omega arith)) (subst (All IsNumber) (sym list) (All-nil IsNumber));
      parts = subst (AreFineWithin u m) (sym none) (fine_none m);
    }

pub compound_given : (k : Known) (m : ℕ) (n : Node) (rest : List ℕ) (label op count : ℕ) (gs : List Graph) (assoc before name : List ℕ) (ps : List Line) →
    IsCompoundNode n label op gs assoc before name → IsSpelled (line.Close label op count assoc before name) → IsOpcode op → count ≡ length gs → ArePartsMade k m ps gs →
    IsGiven k m ((line.Open rest ∷ ps) ++ line.Close label op count assoc before name ∷ []) n
compound_given k m n rest label op count gs assoc before name ps is sp known counted made u fits x same subs =
    let like : AreLike gs (out-Node x).subs = subst (λ (gs : List Graph). AreLike gs (out-Node x).subs) is.graphs_are subs in
    let parts = made u fits (out-Node x).subs like in
    let list : (out-Node x).assoc ≡ assoc = same.list_is ∙ is.list_is in
    let el : label_of x ≡ label = same.label_is ∙ is.label_is in
    let eo : (out-Node x).op ≡ op = same.op_is ∙ is.op_is in
    let eb : (out-Node x).before ≡ before = same.before_is ∙ is.before_is in
    let en : (out-Node x).name ≡ name = same.name_is ∙ is.name_is in
    let size : length (out-Node x).subs ≡ count = length_like gs (out-Node x).subs like ∙ sym counted in
    record {
      gives =
          subst (λ (c : ℕ). GivesBody u ((line.Open rest ∷ ps) ++ line.Close label op c assoc before name ∷ []) (x ∷ []) []) size
          (compound x rest label op (out-Node x).subs assoc before name
          (record { label_is = el; op_is = eo; graphs_are = refl; list_is = list; before_is = eb; name_is = en }) parts.gives no_line);
      node =
          node_fine x label op before name el eo eb en sp.0 sp.1 sp.4 sp.5 known
          (subst IsNumber (sym size) sp.2) (subst (All IsNumber) (sym list) (numbers_all assoc (is_so (are_numbers assoc) sp.3)));
      parts = parts.fine;
    }

origin_gives : (u : Unit1) (e : Edge) (o : Origin) → NoLiteralTakes e o → GivesBody u (origin_line e o ∷ []) [] (edge_of o e.node e.port e.ty e.takes e.name ∷ [])
origin_gives u e (Port node port) takes = edge node port e.node e.port e.ty e.takes e.name no_line
origin_gives u e (Lit text) takes =
    subst (λ (takes : Bool). GivesBody u (line.Literal e.node e.port e.ty text e.name ∷ []) [] (edge_of (Lit text) e.node e.port e.ty takes e.name ∷ []))
    (sym takes) (literal e.node e.port e.ty text e.name no_line)

pub body_edge : (k : Known) (m : ℕ) (ls : List Line) (ns : List Node) (es : List Edge) (e : Edge) → IsBodyMade k m ls ns es → IsEdgeMade k e →
    IsBodyMade k m (ls ++ edge_line e ∷ []) ns (es ++ e ∷ [])
body_edge k m ls ns es e made is = record {
  nodes = λ u fits ms like.
      let front = made.nodes u fits ms like in
      record {
        gives =
            subst (λ (xs : List Node). GivesBody u (ls ++ edge_line e ∷ []) xs (es ++ e ∷ [])) (append-nil ms)
            (body_more u ls (edge_line e ∷ []) ms [] es (e ∷ []) front.gives (origin_gives u e e.from is.takes));
        nodes = front.nodes;
        parts = front.parts;
      };
  edges = All-append (IsEdgeMade k) es (e ∷ []) made.edges (All-cons (IsEdgeMade k) e [] is (All-nil (IsEdgeMade k)));
  few = made.few;
}

-- ---- graphs in a node

fine_more : (u : Unit1) (m : ℕ) (gs hs : List Graph) → AreFineWithin u m gs → AreFineWithin u m hs → AreFineWithin u m (gs ++ hs)
fine_more u m gs hs (fine_none m0) h = h
fine_more u m gs hs (fine_part l g gs0 header within rest) h = fine_part l g (gs0 ++ hs) header within (fine_more u (suc l) gs0 hs rest h)

pub parts_none : (k : Known) (m : ℕ) → ArePartsMade k m [] []
parts_none k m u fits hs like = subst (PartsMade u m []) (sym (none_like hs like)) (record { gives = no_part; fine = fine_none m })

same_of : (g h : Graph) → IsLike g h → IsSameGraph g h
same_of g h (like_graph g0 h0 same like) = same

pub parts_part : (k : Known) (m : ℕ) (ls b : List Line) (gs : List Graph) (p : Part) (g : Graph) → IsTableSound k.table → ArePartsMade k (suc m) ls gs → IsInner p →
    IsBodyMade k m b (nodes_of p) (edges_of p) → Ends k p g → ArePartsMade k (suc m) (ls ++ (line.Subgraph p.name ∷ b)) (gs ++ g ∷ [])
parts_part k m ls b gs p g sound made inner body ends u fits hs like =
    let t = last_graph gs g hs like in
    let front = made u fits t.front t.like in
    let last = graph_made k u m b p g t.last sound fits body ends t.same in
    let same = same_of g t.last t.same in
    let name : (out-Graph t.last).name ≡ p.name = same.name_is ∙ ends.name_is in
    let here : GivesParts u (line.Subgraph p.name ∷ b) (t.last ∷ []) =
    subst (λ (ls : List Line). GivesParts u ls (t.last ∷ [])) (append-nil (line.Subgraph p.name ∷ b))
    (subst (λ (x : List ℕ). GivesParts u ((line.Subgraph x ∷ b) ++ []) (t.last ∷ [])) name (part t.last last.gives last.same no_part)) in
    let header : IsPartHeader t.last = record {
      fun = same.fun_is ∙ ends.fun_is ∙ inner.fun;
      inner = same.exported_is ∙ ends.exported_is ∙ inner.inner;
      name = subst IsName (sym name) inner.name;
    } in
    subst (PartsMade u (suc m) (ls ++ (line.Subgraph p.name ∷ b))) (sym t.is)
    (record {
      gives = parts_more u ls (line.Subgraph p.name ∷ b) t.front (t.last ∷ []) front.gives here;
      fine = fine_more u (suc m) t.front (t.last ∷ []) front.fine (fine_part m t.last [] header last.fine (fine_none (suc m)));
    })

-- ---- functions

pub functions_none : (k : Known) (m : ℕ) → AreFunctionsMade k m [] [] []
functions_none k m u fits hs like =
    subst (FunctionsMade u m [] []) (sym (none_like hs like))
    (record { gives = no_graph; imports = All-nil (IsImport u.types); fine = All-nil (IsFunctionFine u m) })

pub functions_import : (k : Known) (m : ℕ) (ls : List Line) (is : List (ℕ × List ℕ)) (gs : List Graph) (ty : ℕ) (name : List ℕ) → AreFunctionsMade k m ls is gs →
    ((u : Unit1) → Fits k u → IsImport u.types (ty, name)) → AreFunctionsMade k m (ls ++ line.Import ty name ∷ []) (is ++ (ty, name) ∷ []) gs
functions_import k m ls is gs ty name made fit u fits hs like =
    let front = made u fits hs like in
    record {
      gives =
          subst (GivesUnit u (ls ++ line.Import ty name ∷ []) (is ++ (ty, name) ∷ [])) (append-nil hs)
          (unit_more u ls (line.Import ty name ∷ []) is ((ty, name) ∷ []) hs [] front.gives (import ty name no_graph));
      imports = All-append (IsImport u.types) is ((ty, name) ∷ []) front.imports (All-cons (IsImport u.types) (ty, name) [] (fit u fits) (All-nil (IsImport u.types)));
      fine = front.fine;
    }

whole_type : (k : Known) (u : Unit1) (l : ℕ) → IsTableSound k.table → Fits k u → IsLabel l → IsClear k.table l → IsWholeType u.types l
whole_type k u l sound fits label clear =
    subst (λ ts. IsWholeType ts l) (sym fits.types) (label, clear_there k.table l clear, clear_free k.table l sound clear)

pub functions_function : (k : Known) (m : ℕ) (ls b : List Line) (is : List (ℕ × List ℕ)) (gs : List Graph) (p : Part) (g : Graph) → IsTableSound k.table →
    AreFunctionsMade k m ls is gs → IsOuter k p → IsBodyMade k m b (nodes_of p) (edges_of p) → Ends k p g →
    AreFunctionsMade k m (ls ++ (line.Function p.exported p.fun p.name ∷ b)) is (gs ++ g ∷ [])
functions_function k m ls b is gs p g sound made outer body ends u fits hs like =
    let t = last_graph gs g hs like in
    let front = made u fits t.front t.like in
    let last = graph_made k u m b p g t.last sound fits body ends t.same in
    let same = same_of g t.last t.same in
    let name : (out-Graph t.last).name ≡ p.name = same.name_is ∙ ends.name_is in
    let fun : (out-Graph t.last).fun ≡ p.fun = same.fun_is ∙ ends.fun_is in
    let exported : (out-Graph t.last).exported ≡ p.exported = same.exported_is ∙ ends.exported_is in
    let whole : GivesUnit u ((line.Function (out-Graph t.last).exported (out-Graph t.last).fun (out-Graph t.last).name ∷ b) ++ []) [] (t.last ∷ []) =
    function t.last last.gives last.same no_graph in
    let named = subst (λ (x : List ℕ). GivesUnit u ((line.Function (out-Graph t.last).exported (out-Graph t.last).fun x ∷ b) ++ []) [] (t.last ∷ [])) name whole in
    let typed = subst (λ (x : ℕ). GivesUnit u ((line.Function (out-Graph t.last).exported x p.name ∷ b) ++ []) [] (t.last ∷ [])) fun named in
    let told = subst (λ (x : Bool). GivesUnit u ((line.Function x p.fun p.name ∷ b) ++ []) [] (t.last ∷ [])) exported typed in
    let here : GivesUnit u (line.Function p.exported p.fun p.name ∷ b) [] (t.last ∷ []) =
    subst (λ (ls : List Line). GivesUnit u ls [] (t.last ∷ [])) (append-nil (line.Function p.exported p.fun p.name ∷ b)) told in
    let header : IsFunctionFine u m t.last = record {
      fun = subst (IsWholeType u.types) (sym fun) (whole_type k u p.fun sound fits outer.fun outer.clear);
      name = subst IsQuotable (sym name) outer.name;
      within = last.fine;
    } in
    subst (FunctionsMade u m (ls ++ (line.Function p.exported p.fun p.name ∷ b)) is) (sym t.is)
    (record {
      gives =
          subst (λ js. GivesUnit u (ls ++ (line.Function p.exported p.fun p.name ∷ b)) js (t.front ++ t.last ∷ [])) (append-nil is)
          (unit_more u ls (line.Function p.exported p.fun p.name ∷ b) is [] t.front (t.last ∷ []) front.gives here);
      imports = front.imports;
      fine = All-append (IsFunctionFine u m) t.front (t.last ∷ []) front.fine (All-cons (IsFunctionFine u m) t.last [] header (All-nil (IsFunctionFine u m)));
    })
