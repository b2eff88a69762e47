-- A text that gives a unit has no fault.
use Rattle.std.proofs.Common.{◌≡◌, ℕ, ◌<◌, ◌≤◌, Bool, true, false, List, [], ◌∷◌, ◌++◌, map, length, Option, Some, None, inl, inr, refl, sym, ap, subst, ◌∙◌, arith, true≢false, if◌then◌else◌}
use Rattle.std.specs.Prelude.{filter, Contains, All, ◌==◌}
use Rattle.std.proofs.lemmas.Bool.{eq-eqb}
use Rattle.std.proofs.lemmas.List.{map-append}
use Rattle.std.proofs.lemmas.List.Elements.{All-contains}
use Rattle.if1_graph.specs.declared.line.Line.{Line}
use Rattle.if1_graph.specs.declared.line.Line.TheVariants as line
use Rattle.if1_graph.specs.TextLines.{lines_in}
use Rattle.if1_graph.specs.Spelling.{IsSpelled}
use Rattle.if1_graph.specs.declared.graph.TypeEntry.{TypeEntry}
use Rattle.if1_graph.specs.declared.graph.Unit1.{Unit1}
use Rattle.if1_graph.specs.Kinds.{kind_at, basic_at}
use Rattle.if1_graph.specs.Types.{entry_at}
use Rattle.if1_graph.specs.Units.{most_levels}
use Rattle.if1_graph.specs.Formed.{IsType, IsOnce, IsEntry, most}
use Rattle.if1_graph.specs.Reads.{ReadsIf1, LinesGive, is_of_graph, entries_in, deepest}
use Rattle.if1_read.specs.declared.fault.Kind.{Kind}
use Rattle.if1_read.specs.Entries.{HasTypes}
use Rattle.if1_read.specs.Faults.{Layer, numbered, next, layers, unit_alone, is_placed, is_reading, home, told, is_line, own, with_some, node_on, name_on, nodes_of, functions, types, want_of, literal_fault, IsFault, HasNoFault, IsUnclosed, misplaced, miscounted, type_again, node_again, wrong_literal, no_opcode, no_type, no_import_type, no_part, real_type, too_many_types, too_many_nodes, too_deep, unread, unclosing, read, rows_of}
use Rattle.if1_read.specs.Pages.{Lit, lit_on}
use Rattle.if1_read.proofs.Entered.{spelled_lines, lines_are_rows}
use Rattle.if1_read.proofs.Likeness.{filter_mapped, rising_once}
use Rattle.if1_read.proofs.Walking.{Lined, told_append, EachAt, each_at, of_graph, graph_lines, layers_kept, told_kept, kept_at}
use Rattle.if1_read.proofs.Faultless.{IsLitRight, IsGraphRight, AreFunctions}
use Rattle.if1_read.proofs.Standing.{Stands, known_opcode, known_type, functions_stand}
use Rattle.if1_read.proofs.Owning.{Inside, graph_none}
use Rattle.if1_read.proofs.Graphs.{functions_tell}
use Rattle.if1_read.proofs.Nesting.{IsShallow, nests, functions_names}
use Rattle.if1_read.proofs.Same.{same_find, same_length, same_once, same_contains, contains_none}
use Rattle.if1_read.proofs.Good.{functions_good}
use Rattle.if1_read.proofs.Rightly.{functions_of}
use Rattle.if1_read.proofs.Accepted.{said_by, functions_made}
use Rattle.if1_read.proofs.Splits.{all_read, said_numbered, no_unread, no_unclosing, graphs_rise, deepest_kept, node_of_graph, type_of_graph, others_placed, once_middle, contains_middle, less_middle, types_append, type_moved, numbers_moved, real_moved}

-- ---- what is told of a graph

node_quiet : (g : ℕ) (l : Line) (os : List Layer) → is_of_graph l ≡ false → own node_on g l os ≡ None
node_quiet g line.Blank os e = refl
node_quiet g (line.Entry label code first second name) os e = refl
node_quiet g _ os e = absurd (true≢false e)

name_quiet : (l : Line) (os : List Layer) → is_of_graph l ≡ false → name_on l os ≡ None
name_quiet line.Blank os e = refl
name_quiet (line.Entry label code first second name) os e = refl
name_quiet _ os e = absurd (true≢false e)

told_middle : {A : Type 0} (f : Line → Option A) (g : ℕ) (xs : List Lined) (x : Lined) (ys : List Lined) (a : A) → home x.1 (layers xs) ≡ Some g → f x.1 ≡ Some a →
    (rest : List A) × (told (own f g) unit_alone (xs ++ x ∷ ys) ≡ told (own f g) unit_alone xs ++ a ∷ rest)
told_middle f g xs x ys a h e =
    let os = layers xs in
    let rest = told (own f g) (next x.0 x.1 os) ys in
    let here : own f g x.1 os ≡ Some a =
    ap (λ o. if is_line g o then f x.1 else None) h
    ∙ (ap (λ b. if b then f x.1 else None) (eq-eqb g g refl) ∙ e) in
    (rest, told_append (own f g) unit_alone xs (x ∷ ys) ∙ ap (λ o. told (own f g) unit_alone xs ++ with_some o rest) here)

-- where a graph is read, its line is known
reading : (os : List Layer) (node port ty : ℕ) (text name : List ℕ) → is_reading os ≡ true → (g : ℕ) × (home (line.Literal node port ty text name) os ≡ Some g)
reading [] node port ty text name e = absurd (true≢false (sym e))
reading ((None, c) ∷ os) node port ty text name e = absurd (true≢false (sym e))
reading ((Some g, c) ∷ os) node port ty text name e = (g, refl)

module _ (ls : List Line) (u : Unit1) (give : LinesGive ls u) where
  abbrev all : List Lined
  all = numbered 1 (all_read ls)

  abbrev graphs : List Lined
  graphs = graph_lines all

  abbrev names : List (List ℕ)
  names = functions_of u

  said_graphs : said_by graphs ≡ filter is_of_graph ls
  said_graphs =
      sym (filter_mapped of_graph is_of_graph (λ (l : Lined). l.1) all (λ l. refl)) ∙ ap (filter is_of_graph) (said_numbered 1 ls)

  abbrev top : ℕ
  top = (graphs_rise ls).0

  made : AreFunctions u.types names 0 graphs top names
  made = functions_made u (filter is_of_graph ls) u.imports u.graphs give.graphs 0 graphs top said_graphs (graphs_rise ls).1 give.formed.imports (functions_good u give.formed)

  -- ---- types

  types_said : types all ≡ entries_in ls
  types_said = ap entries_in (said_numbered 1 ls)

  same_types : (l : ℕ) → filter (λ e. e.label == l) u.types ≡ filter (λ e. e.label == l) (types all)
  same_types l = give.types l ∙ ap (filter (λ e. e.label == l)) (sym types_said)

  entry_same : (l : ℕ) → entry_at u.types l ≡ entry_at (types all) l
  entry_same l = same_find (λ (e : TypeEntry). e.label) u.types (types all) same_types l

  entry_back : (l : ℕ) → entry_at (types all) l ≡ entry_at u.types l
  entry_back l = sym (entry_same l)

  types_once : IsOnce (map (λ e. e.label) (types all))
  types_once = same_once (λ (e : TypeEntry). e.label) u.types (types all) same_types (rising_once (map (λ e. e.label) u.types) give.formed.types.rising)

  types_few : length (types all) ≤ most
  types_few = omega (arith, same_length (λ (e : TypeEntry). e.label) u.types (types all) same_types, give.formed.types.few)

  entry_formed : (e : TypeEntry) → Contains (types all) e → IsEntry u.types e
  entry_formed e c = All-contains (IsEntry u.types) u.types e give.formed.types.entries (same_contains (λ (e : TypeEntry). e.label) (types all) u.types (λ l. sym (same_types l)) e c)

  -- ---- graphs

  right_from : (g : ℕ) → Inside u.types names 0 g top unit_alone graphs → IsGraphRight u.types names (nodes_of (Some g) graphs) (told (own lit_on g) unit_alone graphs)
  right_from g (inl t) =
      subst (λ ns. IsGraphRight u.types names ns (told (own lit_on g) unit_alone graphs)) (sym t.nodes)
      (subst (λ es. IsGraphRight u.types names [] es) (sym t.lits) (graph_none u.types names))
  right_from g (inr i) =
      subst (λ ns. IsGraphRight u.types names ns (told (own lit_on g) unit_alone graphs)) (sym i.tells.nodes)
      (subst (λ es. IsGraphRight u.types names i.ns es) (sym i.tells.lits) i.right)

  right_graph : (g : ℕ) → IsGraphRight u.types names (nodes_of (Some g) graphs) (told (own lit_on g) unit_alone graphs)
  right_graph g = right_from g ((functions_tell u.types names 0 graphs top names made (None, 0)).each g)

  functions_all : functions all ≡ names
  functions_all = sym (told_kept name_on name_quiet unit_alone all) ∙ functions_names u.types names 0 graphs top names made (None, 0)

  -- ---- one line

  module _ (before : List Lined) (n : ℕ) (l : Line) (after : List Lined) (is : all ≡ before ++ (n, l) ∷ after) where
    split : is_of_graph l ≡ true → graphs ≡ graph_lines before ++ (n, l) ∷ graph_lines after
    split e = ap graph_lines is ∙ kept_at before (n, l) after e

    stands : is_of_graph l ≡ true → Stands u.types l (layers before)
    stands e =
        let each = (functions_stand u.types names 0 graphs top names made (None, 0)).each in
        subst (Stands u.types l) (layers_kept unit_alone before)
        (each_at (Stands u.types) unit_alone (graph_lines before) (n, l) (graph_lines after)
        (subst (λ (xs : List Lined). EachAt (Stands u.types) unit_alone xs) (split e) each))

    shallow : is_of_graph l ≡ true → IsShallow l (layers before)
    shallow e =
        let each = (functions_stand u.types names 0 graphs top names made (None, 0)).each in
        let low : deepest 0 (said_by graphs) ≤ most_levels =
        omega (arith, ap (deepest 0) said_graphs, deepest_kept 0 ls, give.nesting) in
        subst (IsShallow l) (layers_kept unit_alone before)
        (each_at IsShallow unit_alone (graph_lines before) (n, l) (graph_lines after)
        (subst (λ (xs : List Lined). EachAt IsShallow unit_alone xs) (split e) (nests u.types unit_alone graphs each low)))

    -- a node among those of its graph
    record NodeAmong (m : ℕ × ℕ) (o : Option ℕ) : Type 0 where
      free : Contains (map (λ x. x.0) (nodes_of o before)) m.0 → ⊥
      room : length (nodes_of o before) < most

    node_among : (m : ℕ × ℕ) → node_on l ≡ Some m → (o : Option ℕ) → home l (layers before) ≡ o → NodeAmong m o
    node_among m e None h = record { free = λ c. contains_none m.0 c; room = omega arith }
    node_among m e (Some g) h =
        let yes = node_of_graph l m e in
        let here : home l (layers (graph_lines before)) ≡ Some g = ap (home l) (layers_kept unit_alone before) ∙ h in
        let t = told_middle node_on g (graph_lines before) (n, l) (graph_lines after) m here e in
        let sofar : nodes_of (Some g) (graph_lines before) ≡ nodes_of (Some g) before = told_kept (own node_on g) (node_quiet g) unit_alone before in
        let whole : nodes_of (Some g) graphs ≡ nodes_of (Some g) before ++ m ∷ t.0 =
        ap (told (own node_on g) unit_alone) (split yes) ∙ (t.1 ∙ ap (λ xs. xs ++ m ∷ t.0) sofar) in
        let r = right_graph g in
        record {
          free = once_middle (map (λ x. x.0) (nodes_of (Some g) before)) m.0 (map (λ x. x.0) t.0)
              (subst IsOnce (ap (map (λ (x : ℕ × ℕ). x.0)) whole ∙ map-append (λ (x : ℕ × ℕ). x.0) (nodes_of (Some g) before) (m ∷ t.0)) r.once);
          room = omega (arith, r.few, ap length whole, less_middle (nodes_of (Some g) before) m t.0);
        }

    -- a literal among those of its graph
    literal_right : (node port ty : ℕ) (text name : List ℕ) → l ≡ line.Literal node port ty text name → (e : TypeEntry) → entry_at (types all) ty ≡ Some e →
        literal_fault (functions all) (want_of (nodes_of (home (line.Literal node port ty text name) (layers before)) all) node port) text (kind_at e.code) (basic_at e.first) ≡ None
    literal_right node port ty text name eq e found =
        let x = line.Literal node port ty text name in
        let lit : Lit = record { node = node; port = port; ty = ty; text = text } in
        let yes : is_of_graph l ≡ true = ap is_of_graph eq in
        let placed : is_placed x (layers before) ≡ true = subst (λ (y : Line). is_placed y (layers before) ≡ true) eq (stands yes).placed in
        let r = reading (layers before) node port ty text name placed in
        let g = r.0 in
        let says : lit_on l ≡ Some lit = ap lit_on eq in
        let here : home l (layers (graph_lines before)) ≡ Some g = ap (home l) (layers_kept unit_alone before) ∙ (ap (λ y. home y (layers before)) eq ∙ r.1) in
        let t = told_middle lit_on g (graph_lines before) (n, l) (graph_lines after) lit here says in
        let there : Contains (told (own lit_on g) unit_alone graphs) lit =
        subst (λ xs. Contains xs lit) (sym (ap (told (own lit_on g) unit_alone) (split yes) ∙ t.1)) (contains_middle (told (own lit_on g) unit_alone (graph_lines before)) lit t.0) in
        let right = All-contains (IsLitRight u.types names (nodes_of (Some g) graphs)) (told (own lit_on g) unit_alone graphs) lit (right_graph g).lits there e (entry_same ty ∙ found) in
        let nodes : nodes_of (Some g) graphs ≡ nodes_of (home x (layers before)) all =
        told_kept (own node_on g) (node_quiet g) unit_alone all ∙ ap (λ o. nodes_of o all) (sym r.1) in
        subst (λ (ms : List (ℕ × ℕ)). literal_fault (functions all) (want_of ms node port) text (kind_at e.code) (basic_at e.first) ≡ None) nodes
        (subst (λ (fs : List (List ℕ)). literal_fault fs (want_of (nodes_of (Some g) graphs) node port) text (kind_at e.code) (basic_at e.first) ≡ None) (sym functions_all) right)

    -- a type among the others
    record TypeAmong (e : TypeEntry) : Type 0 where
      free : Contains (map (λ x. x.label) (types before)) e.label → ⊥
      room : length (types before) < most
      parts : HasTypes (types all) (kind_at e.code) e.first e.second

    type_among : (label code first second : ℕ) (name : List ℕ) → l ≡ line.Entry label code first second name →
        TypeAmong (record { label = label; code = code; first = first; second = second; name = name })
    type_among label code first second name eq =
        let e : TypeEntry = record { label = label; code = code; first = first; second = second; name = name } in
        let rest = types after in
        let whole : types all ≡ types before ++ e ∷ rest =
        ap types is ∙ (types_append before ((n, l) ∷ after) ∙ ap (λ (y : Line). types before ++ types ((n, y) ∷ after)) eq) in
        let formed = entry_formed e (subst (λ xs. Contains xs e) (sym whole) (contains_middle (types before) e rest)) in
        record {
          free = once_middle (map (λ x. x.label) (types before)) label (map (λ x. x.label) rest)
              (subst IsOnce (ap (map (λ (x : TypeEntry). x.label)) whole ∙ map-append (λ (x : TypeEntry). x.label) (types before) (e ∷ rest)) types_once);
          room = omega (arith, types_few, ap length whole, less_middle (types before) e rest);
          parts = numbers_moved u.types (types all) entry_same (kind_at code) first second formed.numbers;
        }

    placed_all : (b : Bool) → is_of_graph l ≡ b → is_placed l (layers before) ≡ true
    placed_all true e = (stands e).placed
    placed_all false e = others_placed l (layers before) e

  type_back : (ty : ℕ) → IsType u.types ty → IsType (types all) ty
  type_back ty h = type_moved u.types (types all) entry_same ty h

  -- ---- no fault

  no_fault : (before : List Lined) (n : ℕ) (l : Line) (after : List Lined) (k : Kind) → all ≡ before ++ (n, l) ∷ after → IsFault all before l k → ⊥
  no_fault before n l after k is (misplaced e) = true≢false (sym (placed_all before n l after is (is_of_graph l) refl) ∙ e)
  no_fault before n l after k is (miscounted ne) = ne (stands before n l after is refl).counted
  no_fault before n l after k is (type_again {label = label} {code = code} {first = first} {second = second} {name = name} c) =
      (type_among before n l after is label code first second name refl).free c
  no_fault before n l after k is (node_again {n = m} e c) = (node_among before n l after is m e (home l (layers before)) refl).free c
  no_fault before n l after k is (wrong_literal {node = node} {port = port} {ty = ty} {text = text} {name = name} {e = e} found free wrong) =
      let right = literal_right before n l after is node port ty text name refl e found in
      absurd cc
  no_fault before n l after k is (no_opcode {n = m} e none) = none (known_opcode u.types l m (stands before n l after is (node_of_graph l m e)).known e)
  no_fault before n l after k is (no_type {ty = ty} e none) =
      none (type_back ty (known_type u.types l ty (stands before n l after is (type_of_graph l ty e)).known e).there)
  no_fault before n l after k is (no_import_type {ty = ty} none) = none (type_back ty (stands before n l after is refl).known)
  no_fault before n l after k is (no_part {label = label} {code = code} {first = first} {second = second} {name = name} none) =
      none (type_among before n l after is label code first second name refl).parts
  no_fault before n l after k is (real_type {ty = ty} e real) =
      (known_type u.types l ty (stands before n l after is (type_of_graph l ty e)).known e).free (real_moved (types all) u.types entry_back ty real)
  no_fault before n l after k is (too_many_types {label = label} {code = code} {first = first} {second = second} {name = name} many) =
      absurd (omega (arith, many, (type_among before n l after is label code first second name refl).room))
  no_fault before n l after k is (too_many_nodes {n = m} e many) =
      absurd (omega (arith, many, (node_among before n l after is m e (home l (layers before)) refl).room))
  no_fault before n l after k is (too_deep deep) = absurd (omega (arith, deep, shallow before n l after is refl))

  clean : All IsSpelled ls → HasNoFault (all_read ls)
  clean spelled n k (unread before after e) = no_unread ls before after e
  clean spelled n k (unclosing before after l x e) = no_unclosing ls spelled before after l x e
  clean spelled n k (read before after m l j e f) = no_fault before m l after j e f

  closed : IsUnclosed (all_read ls) → ⊥
  closed h =
      let s = functions_stand u.types names 0 graphs top names made (None, 0) in
      let one : layers all ≡ s.last ∷ [] = sym (layers_kept unit_alone all) ∙ s.ends in
      absurd (omega (arith, h.unclosed, ap length one))

  pub clean_and_closed : All IsSpelled ls → HasNoFault (all_read ls) × (¬ IsUnclosed (all_read ls))
  clean_and_closed spelled = (clean spelled, closed)

pub accepted : (text : List ℕ) (u : Unit1) → ReadsIf1 text u → HasNoFault (rows_of text) × (¬ IsUnclosed (rows_of text))
accepted text u h =
    subst (λ (rows : List (Option Line)). HasNoFault rows × (¬ IsUnclosed rows)) (sym (lines_are_rows (lines_in text) h.lines h.read))
    (clean_and_closed h.lines u h.give (spelled_lines (lines_in text) h.lines h.read))
