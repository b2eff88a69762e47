-- What lines of graphs without a fault give, graphs inside graphs.
use Rattle.std.proofs.Common.{◌≡◌, ℕ, zero, suc, ◌+◌, ◌<◌, ◌≤◌, Bool, true, false, ◌||◌, List, [], ◌∷◌, ◌++◌, map, length, length-append, append-nil, append_assoc, Option, Some, None, ◌⊎◌, inl, inr, rules, refl, sym, ap, subst, ◌∙◌, arith, true≢false}
use Rattle.std.specs.Prelude.{◌==◌, is_some, nat_le, if◌then◌else◌}
use Rattle.std.proofs.lemmas.Bool.{eqb-true, leb-false}
use Rattle.std.proofs.lemmas.List.{map-append, length-map}
use Rattle.if1_graph.specs.declared.line.Line.{Line}
use Rattle.if1_graph.specs.declared.line.Line.TheVariants as line
use Rattle.if1_graph.specs.Spelling.{IsSpelled}
use Rattle.if1_graph.specs.declared.graph.Graph.{Graph}
use Rattle.if1_graph.specs.declared.graph.Graph.TheViews as views
use Rattle.if1_graph.specs.declared.graph.Node.{Node}
use Rattle.if1_graph.specs.declared.graph.Edge.{Edge}
use Rattle.if1_graph.specs.declared.graph.Origin.TheVariants.{Port, Lit as Text}
use Rattle.if1_graph.specs.declared.graph.TypeEntry.{TypeEntry}
use Rattle.if1_graph.specs.declared.graph.Unit1.{Unit1}
use Rattle.if1_graph.specs.Ops.{simple_at, compound_at}
use Rattle.if1_graph.specs.Types.{entry_at}
use Rattle.if1_graph.specs.Formed.{most, IsOpcode, IsType, IsImport}
use Rattle.if1_graph.specs.Reads.{IsSimpleNode, IsCompoundNode, edge_of}
use Rattle.if1_read.specs.declared.fault.Kind.TheVariants.{Bad, Unknown, Real, TooMany}
use Rattle.if1_read.specs.declared.judge.Known.{Known}
use Rattle.if1_read.specs.declared.table.Table.{Table}
use Rattle.if1_read.specs.Known.{IsTableSound, IsClear, Fits}
use Rattle.if1_read.specs.Least.{noted}
use Rattle.if1_read.specs.Made.{IsEdgeMade, IsBodyMade, ArePartsMade, AreFunctionsMade}
use Rattle.if1_read.specs.Marks.{is_marked}
use Rattle.if1_read.specs.Pages.{Page, Sheet, Rules, no_lines, with_node, with_lit, wrong_node, wrong_count}
use Rattle.if1_read.specs.Rulings.{type_absent, type_wrong, rules_of}
use Rattle.if1_read.specs.Sheets.{marks_of, lit_of}
use Rattle.if1_read.specs.Faults.{with_some}
use Rattle.if1_read.proofs.Walking.{Lined}
use Rattle.if1_read.proofs.Accepted.{said_by}
use Rattle.if1_read.proofs.Bodies.{body_none, body_node, body_edge, simple_given, compound_given, parts_none, functions_none, functions_import}
use Rattle.if1_read.proofs.Leading.{node_of}
use Rattle.if1_read.proofs.Saying.{marks_are}
use Rattle.if1_read.proofs.TypeLabels.{clear_here}
use Rattle.if1_given.proofs.Clean.{no_first, no_second, not_noted}
use Rattle.if1_given.proofs.Literals.{lits_of, IsPageOf}
use Rattle.if1_given.proofs.Ended.{parts_more_made, functions_more_made}
use Rattle.if1_given.proofs.Closed.{ended}
use Rattle.if1_given.proofs.Runs.{Runs, here, line_read, behind, none_noted, Stops, ended_at, room}

-- ---- what a line without a fault says

-- an opcode that is known, and room for its node
known_op : (a b c : Bool) → (if a || b then (if c then Some TooMany else None) else Some Unknown) ≡ None → ((a ≡ true) ⊎ (b ≡ true)) × (c ≡ false)
known_op true b true e = absurd cc
known_op true b false e = (inl refl, refl)
known_op false true true e = absurd cc
known_op false true false e = (inr refl, refl)
known_op false false c e = absurd cc

node_right : (op before : ℕ) → wrong_node op before ≡ None → IsOpcode op × (before < most)
node_right op before e =
    let t = known_op (is_some (simple_at op)) (is_some (compound_at op)) (nat_le most before) e in
    (t.0, leb-false most before t.1)

same_count : (b : Bool) → (if b then None else Some Bad) ≡ None → b ≡ true
same_count true e = refl
same_count false e = absurd cc

count_right : (count graphs : ℕ) → wrong_count count graphs ≡ None → count ≡ graphs
count_right count graphs e = eqb-true count graphs (same_count (count == graphs) e)

type_if : (there marked : Bool) → (if there then (if marked then Some Real else None) else Some Unknown) ≡ None → (there ≡ true) × (marked ≡ false)
type_if true true e = absurd cc
type_if true false e = (refl, refl)
type_if false marked e = absurd cc

type_clear : (t : Table) (ty : ℕ) → IsTableSound t → type_wrong t ty ≡ None → IsClear t ty
type_clear t ty sound e =
    let h = type_if (is_some (entry_at t.types ty)) (is_marked t.types t.reals ty) e in
    clear_here t.types t.reals ty sound.marks.fit h.0 h.1

there_if : (b : Bool) → (if b then None else Some Unknown) ≡ None → b ≡ true
there_if true e = refl
there_if false e = absurd cc

-- ---- nodes by their fields

simple_is : (label op : ℕ) (before name : List ℕ) → IsSimpleNode (node_of label op [] [] before name) label op before name
simple_is label op before name = record {
  label_is = search (rules, views.the_lemmas);
  op_is = search (rules, views.the_lemmas);
  no_graphs = search (rules, views.the_lemmas);
  no_list = search (rules, views.the_lemmas);
  before_is = search (rules, views.the_lemmas);
  name_is = search (rules, views.the_lemmas);
}

compound_is : (label op : ℕ) (gs : List Graph) (assoc before name : List ℕ) → IsCompoundNode (node_of label op gs assoc before name) label op gs assoc before name
compound_is label op gs assoc before name = record {
  label_is = search (rules, views.the_lemmas);
  op_is = search (rules, views.the_lemmas);
  graphs_are = search (rules, views.the_lemmas);
  list_is = search (rules, views.the_lemmas);
  before_is = search (rules, views.the_lemmas);
  name_is = search (rules, views.the_lemmas);
}

-- ---- pages

page_none : IsPageOf no_lines [] []
page_none = record { nodes = refl; lits = refl }

page_node : (p : Page) (ns : List Node) (es : List Edge) (k label op : ℕ) (gs : List Graph) (assoc before name : List ℕ) → IsPageOf p ns es →
    IsPageOf (with_node k label op p) (ns ++ node_of label op gs assoc before name ∷ []) es
page_node p ns es k label op gs assoc before name page = record {
  nodes =
      map-append (λ (n : ℕ × (ℕ × ℕ)). n.1) p.nodes ((k, (label, op)) ∷ [])
      ∙ ap (λ (ms : List (ℕ × ℕ)). ms ++ (label, op) ∷ []) page.nodes
      ∙ ap (λ (m : ℕ × ℕ). map marks_of ns ++ m ∷ []) (sym (marks_are label op gs assoc before name))
      ∙ sym (map-append marks_of ns (node_of label op gs assoc before name ∷ []));
  lits = page.lits;
}

some_more : {A : Type 0} (o : Option A) (xs ys : List A) → with_some o (xs ++ ys) ≡ with_some o xs ++ ys
some_more None xs ys = refl
some_more (Some x) xs ys = refl

lits_more : (es : List Edge) (e : Edge) → lits_of (es ++ e ∷ []) ≡ lits_of es ++ with_some (lit_of e) []
lits_more [] e = refl
lits_more (x ∷ es) e = ap (with_some (lit_of x)) (lits_more es e) ∙ some_more (lit_of x) (lits_of es) (with_some (lit_of e) [])

page_edge : (p : Page) (ns : List Node) (es : List Edge) (from out node port ty : ℕ) (takes : Bool) (name : List ℕ) → IsPageOf p ns es →
    IsPageOf p ns (es ++ edge_of (Port from out) node port ty takes name ∷ [])
page_edge p ns es from out node port ty takes name page = record {
  nodes = page.nodes;
  lits = page.lits ∙ sym (append-nil (lits_of es)) ∙ sym (lits_more es (edge_of (Port from out) node port ty takes name));
}

page_lit : (p : Page) (ns : List Node) (es : List Edge) (k node port ty : ℕ) (text name : List ℕ) → IsPageOf p ns es →
    IsPageOf (with_lit k (record { node = node; port = port; ty = ty; text = text }) p) ns (es ++ edge_of (Text text) node port ty false name ∷ [])
page_lit p ns es k node port ty text name page = record {
  nodes = page.nodes;
  lits =
      map-append (λ l. l.1) p.lits ((k, record { node = node; port = port; ty = ty; text = text }) ∷ [])
      ∙ ap (λ ls. ls ++ record { node = node; port = port; ty = ty; text = text } ∷ []) page.lits
      ∙ sym (lits_more es (edge_of (Text text) node port ty false name));
}

nodes_count : (p : Page) (ns : List Node) (es : List Edge) → IsPageOf p ns es → length p.nodes ≡ length ns
nodes_count p ns es page =
    sym (length-map p.nodes (λ (n : ℕ × (ℕ × ℕ)). n.1)) ∙ ap length page.nodes ∙ length-map ns marks_of

-- ---- lines behind those that were read

line_split : (done : List Line) (x : Line) (ls : List Line) → done ++ x ∷ ls ≡ (done ++ x ∷ []) ++ ls
line_split done x ls = sym (append_assoc done (x ∷ []) ls)

graph_split : (done whole : List Line) (x : Line) (ls rest : List Line) → ls ≡ whole ++ rest → done ++ x ∷ ls ≡ (done ++ (x ∷ whole)) ++ rest
graph_split done whole x ls rest e = ap (λ (xs : List Line). done ++ x ∷ xs) e ∙ sym (append_assoc done (x ∷ whole) rest)

node_split : (done whole : List Line) (x y : Line) (ls rest : List Line) → ls ≡ whole ++ y ∷ rest → done ++ x ∷ ls ≡ (done ++ ((x ∷ whole) ++ y ∷ [])) ++ rest
node_split done whole x y ls rest e =
    ap (λ (xs : List Line). done ++ xs) (ap (λ (xs : List Line). x ∷ xs) e ∙ sym (append_assoc (x ∷ whole) (y ∷ []) rest))
    ∙ sym (append_assoc done ((x ∷ whole) ++ y ∷ []) rest)

one_more : (gs : List Graph) (g : Graph) (count : ℕ) → count ≡ length gs → suc count ≡ length (gs ++ g ∷ [])
one_more gs g count e = omega (arith, e, length-append gs (g ∷ []))

module _ (k : Known) (sound : IsTableSound k.table) where
  -- ---- what lines give up to where their graph ends

  -- behind these lines of a graph
  record BodyEnds (m count : ℕ) (ss : List Sheet) (done : List Line) (ls : List Lined) : Type 0 where
    whole : List Line
    nodes : List Node
    edges : List Edge
    page : Page
    tail : List Lined
    split : done ++ said_by ls ≡ whole ++ said_by tail
    made : IsBodyMade k m whole nodes edges
    paged : IsPageOf page nodes edges
    runs : Runs (rules_of k) ((Some page, count) ∷ ss) tail
    stops : Stops tail
    shorter : length tail ≤ length ls

  -- behind these lines of graphs in a node
  record PartsEnd (m : ℕ) (p : Page) (around : ℕ) (ss : List Sheet) (done : List Line) (ls : List Lined) : Type 0 where
    whole : List Line
    graphs : List Graph
    number : ℕ
    label : ℕ
    op : ℕ
    count : ℕ
    assoc : List ℕ
    before : List ℕ
    name : List ℕ
    tail : List Lined
    split : done ++ said_by ls ≡ whole ++ line.Close label op count assoc before name ∷ said_by tail
    made : ArePartsMade k (suc m) whole graphs
    counted : count ≡ length graphs
    right : wrong_node op (length p.nodes) ≡ None
    spelled : IsSpelled (line.Close label op count assoc before name)
    runs : Runs (rules_of k) ((Some (with_node number label op p), around) ∷ ss) tail
    shorter : length tail ≤ length ls

  record FunctionsEnd (done : List Line) (ls : List Lined) : Type 0 where
    imports : List (ℕ × List ℕ)
    graphs : List Graph
    made : AreFunctionsMade k 200 (done ++ said_by ls) imports graphs

  -- the same from later lines on
  body_on : (m count : ℕ) (ss : List Sheet) (done more : List Line) (ls rest : List Lined) → done ++ said_by ls ≡ more ++ said_by rest → length rest ≤ length ls →
      BodyEnds m count ss more rest → BodyEnds m count ss done ls
  body_on m count ss done more ls rest same short e = record {
    whole = e.whole;
    nodes = e.nodes;
    edges = e.edges;
    page = e.page;
    tail = e.tail;
    split = same ∙ e.split;
    made = e.made;
    paged = e.paged;
    runs = e.runs;
    stops = e.stops;
    shorter = omega (arith, short, e.shorter);
  }

  parts_on : (m : ℕ) (p : Page) (around : ℕ) (ss : List Sheet) (done more : List Line) (ls rest : List Lined) → done ++ said_by ls ≡ more ++ said_by rest → length rest ≤ length ls →
      PartsEnd m p around ss more rest → PartsEnd m p around ss done ls
  parts_on m p around ss done more ls rest same short e = record {
    whole = e.whole;
    graphs = e.graphs;
    number = e.number;
    label = e.label;
    op = e.op;
    count = e.count;
    assoc = e.assoc;
    before = e.before;
    name = e.name;
    tail = e.tail;
    split = same ∙ e.split;
    made = e.made;
    counted = e.counted;
    right = e.right;
    spelled = e.spelled;
    runs = e.runs;
    shorter = omega (arith, short, e.shorter);
  }

  abbrev r : Rules
  r = rules_of k

  body_here : (m count : ℕ) (ss : List Sheet) (done : List Line) (ns : List Node) (es : List Edge) (p : Page) (ls : List Lined) → IsBodyMade k m done ns es → IsPageOf p ns es →
      Runs (rules_of k) ((Some p, count) ∷ ss) ls → Stops ls → BodyEnds m count ss done ls
  body_here m count ss done ns es p ls made page runs stops = record {
    whole = done;
    nodes = ns;
    edges = es;
    page = p;
    tail = ls;
    split = refl;
    made = made;
    paged = page;
    runs = runs;
    stops = stops;
    shorter = omega arith;
  }

  -- ---- the recursion, by a bound on how many lines are left

  mutual
    body : (f m count : ℕ) (ss : List Sheet) → m + length ss ≡ 200 → (done : List Line) (ns : List Node) (es : List Edge) (p : Page) → IsBodyMade k m done ns es → IsPageOf p ns es →
        (ls : List Lined) → length ls ≤ f → Runs (rules_of k) ((Some p, count) ∷ ss) ls → BodyEnds m count ss done ls
    body f m count ss deep done ns es p made page [] le runs = body_here m count ss done ns es p [] made page runs tt
    body zero m count ss deep done ns es p made page (x ∷ ls) le runs = absurd (omega (arith, le))
    body (suc f) m count ss deep done ns es p made page ((n, line.Node label op before name) ∷ ls) le runs =
        let x : Lined = (n, line.Node label op before name) in
        let right = node_right op (length p.nodes) (not_noted n (wrong_node op (length p.nodes)) (here r ((Some p, count) ∷ ss) x ls runs)) in
        let node = node_of label op [] [] before name in
        let spelled = (line_read r ((Some p, count) ∷ ss) x ls runs).spelled in
        let given = simple_given k m node label op before name (simple_is label op before name) spelled right.0 in
        let more = body_node k m done (line.Node label op before name ∷ []) ns node es made given (omega (arith, right.1, nodes_count p ns es page)) in
        body_on m count ss done (done ++ line.Node label op before name ∷ []) (x ∷ ls) ls (line_split done (line.Node label op before name) (said_by ls)) (omega arith)
        (body f m count ss deep (done ++ line.Node label op before name ∷ []) (ns ++ node ∷ []) es (with_node n label op p) more (page_node p ns es n label op [] [] before name page)
        ls (omega (arith, le)) (behind r ((Some p, count) ∷ ss) x ls runs))
    body (suc f) m count ss deep done ns es p made page ((n, line.Edge from out node port ty takes name) ∷ ls) le runs =
        let l = line.Edge from out node port ty takes name in
        let x : Lined = (n, l) in
        let clear = type_clear k.table ty sound (not_noted n (type_wrong k.table ty) (here r ((Some p, count) ∷ ss) x ls runs)) in
        let e = edge_of (Port from out) node port ty takes name in
        let is : IsEdgeMade k e = record { spelled = (line_read r ((Some p, count) ∷ ss) x ls runs).spelled; takes = tt; ty = clear } in
        body_on m count ss done (done ++ l ∷ []) (x ∷ ls) ls (line_split done l (said_by ls)) (omega arith)
        (body f m count ss deep (done ++ l ∷ []) ns (es ++ e ∷ []) p (body_edge k m done ns es e made is) (page_edge p ns es from out node port ty takes name page)
        ls (omega (arith, le)) (behind r ((Some p, count) ∷ ss) x ls runs))
    body (suc f) m count ss deep done ns es p made page ((n, line.Literal node port ty text name) ∷ ls) le runs =
        let l = line.Literal node port ty text name in
        let x : Lined = (n, l) in
        let clear = type_clear k.table ty sound (not_noted n (type_wrong k.table ty) (here r ((Some p, count) ∷ ss) x ls runs)) in
        let e = edge_of (Text text) node port ty false name in
        let is : IsEdgeMade k e = record { spelled = (line_read r ((Some p, count) ∷ ss) x ls runs).spelled; takes = refl; ty = clear } in
        body_on m count ss done (done ++ l ∷ []) (x ∷ ls) ls (line_split done l (said_by ls)) (omega arith)
        (body f m count ss deep (done ++ l ∷ []) ns (es ++ e ∷ []) (with_lit n (record { node = node; port = port; ty = ty; text = text }) p) (body_edge k m done ns es e made is)
        (page_lit p ns es n node port ty text name page) ls (omega (arith, le)) (behind r ((Some p, count) ∷ ss) x ls runs))
    body (suc f) zero count ss deep done ns es p made page ((n, line.Open rest) ∷ ls) le runs =
        absurd (omega (arith, deep, room n (suc (length ss)) (here r ((Some p, count) ∷ ss) (n, line.Open rest) ls runs)))
    body (suc f) (suc m) count ss deep done ns es p made page ((n, line.Open rest) ∷ ls) le runs =
        let x : Lined = (n, line.Open rest) in
        let e = parts f m 0 p count ss (omega (arith, deep)) [] [] (parts_none k (suc m)) refl ls (omega (arith, le)) (behind r ((Some p, count) ∷ ss) x ls runs) in
        let close = line.Close e.label e.op e.count e.assoc e.before e.name in
        let js = (line.Open rest ∷ e.whole) ++ close ∷ [] in
        let right = node_right e.op (length p.nodes) e.right in
        let node = node_of e.label e.op e.graphs e.assoc e.before e.name in
        let given = compound_given k (suc m) node rest e.label e.op e.count e.graphs e.assoc e.before e.name e.whole
        (compound_is e.label e.op e.graphs e.assoc e.before e.name) e.spelled right.0 e.counted e.made in
        let more = body_node k (suc m) done js ns node es made given (omega (arith, right.1, nodes_count p ns es page)) in
        let same = node_split done e.whole (line.Open rest) close (said_by ls) (said_by e.tail) e.split in
        body_on (suc m) count ss done (done ++ js) (x ∷ ls) e.tail same (omega (arith, e.shorter))
        (body f (suc m) count ss deep (done ++ js) (ns ++ node ∷ []) es (with_node e.number e.label e.op p) more (page_node p ns es e.number e.label e.op e.graphs e.assoc e.before e.name page)
        e.tail (omega (arith, le, e.shorter)) e.runs)
    body (suc f) m count ss deep done ns es p made page ((n, line.Function exported fun name) ∷ ls) le runs =
        body_here m count ss done ns es p ((n, line.Function exported fun name) ∷ ls) made page runs refl
    body (suc f) m count ss deep done ns es p made page ((n, line.Import ty name) ∷ ls) le runs =
        body_here m count ss done ns es p ((n, line.Import ty name) ∷ ls) made page runs refl
    body (suc f) m count ss deep done ns es p made page ((n, line.Subgraph name) ∷ ls) le runs =
        body_here m count ss done ns es p ((n, line.Subgraph name) ∷ ls) made page runs refl
    body (suc f) m count ss deep done ns es p made page ((n, line.Close label op graphs assoc before name) ∷ ls) le runs =
        body_here m count ss done ns es p ((n, line.Close label op graphs assoc before name) ∷ ls) made page runs refl
    body (suc f) m count ss deep done ns es p made page ((n, l) ∷ ls) le runs =
        absurd (true≢false (sym (line_read r ((Some p, count) ∷ ss) (n, l) ls runs).of_graph))

    parts : (f m count : ℕ) (p : Page) (around : ℕ) (ss : List Sheet) → suc m + length ss ≡ 200 → (done : List Line) (gs : List Graph) → ArePartsMade k (suc m) done gs → count ≡ length gs →
        (ls : List Lined) → length ls ≤ f → Runs (rules_of k) ((None, count) ∷ (Some p, around) ∷ ss) ls → PartsEnd m p around ss done ls
    parts f m count p around ss deep done gs made counted [] le runs = absurd (omega (arith, runs.closed))
    parts zero m count p around ss deep done gs made counted (x ∷ ls) le runs = absurd (omega (arith, le))
    parts (suc f) m count p around ss deep done gs made counted ((n, line.Subgraph name) ∷ ls) le runs =
        let x : Lined = (n, line.Subgraph name) in
        let os : List Sheet = (None, count) ∷ (Some p, around) ∷ ss in
        let b = body f m (suc count) ((Some p, around) ∷ ss) (omega (arith, deep)) [] [] [] no_lines (body_none k m) page_none ls (omega (arith, le)) (behind r os x ls runs) in
        let e = ended_at r b.page (suc count) ((Some p, around) ∷ ss) b.tail b.stops b.runs in
        let g = ended k b.nodes b.edges b.page b.paged e.page false 0 name b.made.edges in
        let lines = line.Subgraph name ∷ b.whole in
        let more = parts_more_made k m done b.whole gs name b.nodes b.edges g.graph sound made (line_read r os x ls runs).spelled b.made g.ends in
        let same = graph_split done b.whole (line.Subgraph name) (said_by ls) (said_by b.tail) b.split in
        parts_on m p around ss done (done ++ lines) (x ∷ ls) b.tail same (omega (arith, b.shorter))
        (parts f m (suc count) p around ss deep (done ++ lines) (gs ++ g.graph ∷ []) more (one_more gs g.graph count counted) b.tail (omega (arith, le, b.shorter)) e.runs)
    parts (suc f) m count p around ss deep done gs made counted ((n, line.Close label op graphs assoc before name) ∷ ls) le runs =
        let x : Lined = (n, line.Close label op graphs assoc before name) in
        let os : List Sheet = (None, count) ∷ (Some p, around) ∷ ss in
        let faults = here r os x ls runs in
        let number = not_noted n (wrong_count graphs count) (no_first (noted n (wrong_count graphs count)) (noted n (wrong_node op (length p.nodes))) faults) in
        record {
          whole = done;
          graphs = gs;
          number = n;
          label = label;
          op = op;
          count = graphs;
          assoc = assoc;
          before = before;
          name = name;
          tail = ls;
          split = refl;
          made = made;
          counted = count_right graphs count number ∙ counted;
          right = not_noted n (wrong_node op (length p.nodes)) (no_second (noted n (wrong_count graphs count)) (noted n (wrong_node op (length p.nodes))) faults);
          spelled = (line_read r os x ls runs).spelled;
          runs = behind r os x ls runs;
          shorter = omega arith;
        }
    parts (suc f) m count p around ss deep done gs made counted ((n, line.Blank) ∷ ls) le runs =
        absurd (true≢false (sym (line_read r ((None, count) ∷ (Some p, around) ∷ ss) (n, line.Blank) ls runs).of_graph))
    parts (suc f) m count p around ss deep done gs made counted ((n, line.Entry label code first second name) ∷ ls) le runs =
        absurd (true≢false (sym (line_read r ((None, count) ∷ (Some p, around) ∷ ss) (n, line.Entry label code first second name) ls runs).of_graph))
    parts (suc f) m count p around ss deep done gs made counted ((n, l) ∷ ls) le runs =
        absurd (none_noted n Bad (here r ((None, count) ∷ (Some p, around) ∷ ss) (n, l) ls runs))

  -- ---- functions

  functions_on : (done more : List Line) (ls rest : List Lined) → done ++ said_by ls ≡ more ++ said_by rest → FunctionsEnd more rest → FunctionsEnd done ls
  functions_on done more ls rest same e = record {
    imports = e.imports;
    graphs = e.graphs;
    made = subst (λ (xs : List Line). AreFunctionsMade k 200 xs e.imports e.graphs) (sym same) e.made;
  }

  functions : (f count : ℕ) (done : List Line) (is : List (ℕ × List ℕ)) (gs : List Graph) → AreFunctionsMade k 200 done is gs → (ls : List Lined) → length ls ≤ f →
      Runs (rules_of k) ((None, count) ∷ []) ls → FunctionsEnd done ls
  functions f count done is gs made [] le runs = record {
    imports = is;
    graphs = gs;
    made = subst (λ (xs : List Line). AreFunctionsMade k 200 xs is gs) (sym (append-nil done)) made;
  }
  functions zero count done is gs made (x ∷ ls) le runs = absurd (omega (arith, le))
  functions (suc f) count done is gs made ((n, line.Import ty name) ∷ ls) le runs =
      let l = line.Import ty name in
      let x : Lined = (n, l) in
      let os : List Sheet = (None, count) ∷ [] in
      let there : IsType k.table.types ty = there_if (is_some (entry_at k.table.types ty)) (not_noted n (type_absent k.table ty) (here r os x ls runs)) in
      let sp = (line_read r os x ls runs).spelled in
      let fit : (u : Unit1) → Fits k u → IsImport u.types (ty, name) = λ u fits. (sp.0, subst (λ (ts : List TypeEntry). IsType ts ty) (sym fits.types) there, sp.1) in
      functions_on done (done ++ l ∷ []) (x ∷ ls) ls (line_split done l (said_by ls))
      (functions f count (done ++ l ∷ []) (is ++ (ty, name) ∷ []) gs (functions_import k 200 done is gs ty name made fit) ls (omega (arith, le)) (behind r os x ls runs))
  functions (suc f) count done is gs made ((n, line.Function exported fun name) ∷ ls) le runs =
      let x : Lined = (n, line.Function exported fun name) in
      let os : List Sheet = (None, count) ∷ [] in
      let clear = type_clear k.table fun sound (not_noted n (type_wrong k.table fun) (here r os x ls runs)) in
      let sp = (line_read r os x ls runs).spelled in
      let b = body f 200 (suc count) [] (omega arith) [] [] [] no_lines (body_none k 200) page_none ls (omega (arith, le)) (behind r os x ls runs) in
      let e = ended_at r b.page (suc count) [] b.tail b.stops b.runs in
      let g = ended k b.nodes b.edges b.page b.paged e.page exported fun name b.made.edges in
      let lines = line.Function exported fun name ∷ b.whole in
      let more = functions_more_made k 200 done b.whole is gs exported fun name b.nodes b.edges g.graph sound made sp.0 sp.1 clear b.made g.ends in
      let same = graph_split done b.whole (line.Function exported fun name) (said_by ls) (said_by b.tail) b.split in
      functions_on done (done ++ lines) (x ∷ ls) b.tail same
      (functions f (suc count) (done ++ lines) is (gs ++ g.graph ∷ []) more b.tail (omega (arith, le, b.shorter)) e.runs)
  functions (suc f) count done is gs made ((n, line.Blank) ∷ ls) le runs = absurd (true≢false (sym (line_read r ((None, count) ∷ []) (n, line.Blank) ls runs).of_graph))
  functions (suc f) count done is gs made ((n, line.Entry label code first second name) ∷ ls) le runs =
      absurd (true≢false (sym (line_read r ((None, count) ∷ []) (n, line.Entry label code first second name) ls runs).of_graph))
  functions (suc f) count done is gs made ((n, l) ∷ ls) le runs = absurd (none_noted n Bad (here r ((None, count) ∷ []) (n, l) ls runs))

  pub record AllGiven (ls : List Line) : Type 0 where
    pub imports : List (ℕ × List ℕ)
    pub graphs : List Graph
    pub made : AreFunctionsMade k 200 ls imports graphs

  pub all_given : (ls : List Lined) → Runs (rules_of k) ((None, 0) ∷ []) ls → AllGiven (said_by ls)
  all_given ls runs =
      let e = functions (length ls) 0 [] [] [] (functions_none k 200) ls (omega arith) runs in
      record { imports = e.imports; graphs = e.graphs; made = e.made }
