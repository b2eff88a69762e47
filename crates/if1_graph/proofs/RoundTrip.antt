-- A line is read from its spelling.
use Rattle.std.proofs.Common.{◌≡◌, ℕ, ◌≤◌, Bool, true, false, eqb, List, [], ◌∷◌, ◌++◌, map, Option, Some, None, option_map, refl, sym, ap, ◌∙◌, inl, inr, arith, append-nil}
use Rattle.std.specs.Prelude.{if◌then◌else◌}
use Rattle.std.specs.List.{list_all}
use Rattle.std.proofs.lemmas.Bool.{le-leb}
use Rattle.std.proofs.lemmas.Bool.Decides.{eqb_tells}
use Rattle.if1_graph.specs.LineParts.{◌>>=◌, is_blank, is_line_byte, Part, Word, Quoted, parts_of}
use Rattle.if1_graph.specs.Entries.{entry_form, entry_numbers}
use Rattle.if1_graph.specs.Pragmas.{named}
use Rattle.if1_graph.specs.Reading.{entry_line, node_line, edge_line, literal_line, typed_name, graph_line, close_line, letter_first, line_by, line_begun, line_of}
use Rattle.if1_graph.specs.Spelling.{number, name_part, take_part, node_pragmas, entry_parts, after_blanks, spaced, is_visible, line_text, IsLabel, AreEntryNumbers, IsSpelled}
use Rattle.if1_graph.specs.declared.line.EntryForm.{EntryForm}
use Rattle.if1_graph.specs.declared.line.EntryForm.TheVariants as form
use Rattle.if1_graph.specs.declared.line.Line.{Line}
use Rattle.if1_graph.specs.declared.line.Line.TheVariants as line
use Rattle.if1_graph.proofs.Decimals.{and_parts, number_is}
use Rattle.if1_graph.proofs.Spelled.{ArePlain, both_plain, visible_no_blank, spaced_bytes, spaced_parts}
use Rattle.if1_graph.proofs.Pieces.{named_alone, named_node, named_edge, takes_edge, preceded_node, numbers_are, number_plain, numbers_plain, name_plain, take_plain, pragmas_plain}

-- a line that begins with a letter says what that letter makes of its parts
begun_by : (c : ℕ) (s : List ℕ) → is_blank c ≡ false → eqb c 67 ≡ false → eqb c 123 ≡ false
    → line_begun (c ∷ s) ≡ (letter_first (parts_of (c ∷ s)) >>= λ letter. line_by letter.0 letter.1)
begun_by c s b p q = rw (b, p, q) refl

read_by : (c : ℕ) (ps : List Part) (l : Line) → ArePlain (Word (c ∷ []) ∷ ps) → eqb c 67 ≡ false → eqb c 123 ≡ false → line_by c ps ≡ Some l
    → line_of (spaced (Word (c ∷ []) ∷ ps)) ≡ Some l
read_by c ps l h a b e =
    let visible = (and_parts (is_visible c) true h.0.1).0 in
    ap (λ (t : Bool). if t then line_begun (spaced (Word (c ∷ []) ∷ ps)) else None) (spaced_bytes (Word (c ∷ []) ∷ ps) h)
    ∙ begun_by c (after_blanks ps) (visible_no_blank c visible) a b
    ∙ ap (λ t. letter_first t >>= λ letter. line_by letter.0 letter.1) (spaced_parts (Word (c ∷ []) ∷ ps) h)
    ∙ e

-- ---- T

entry_at : (f : Option EntryForm) (label code first second : ℕ) (name : List ℕ) → AreEntryNumbers f first second
    → (f >>= λ g. entry_numbers g (entry_parts f first second ++ name_part name) >>= λ numbers. named numbers.1 >>= λ found. Some (line.Entry label code numbers.0.0 numbers.0.1 found))
    ≡ Some (line.Entry label code first second name)
entry_at (Some form.OneLabel) label code first second name h =
    rw (number_is 1 first (name_part name) h.0.0 h.0.1, named_alone name) (ap (λ k. Some (line.Entry label code first k name)) (sym h.1))
entry_at (Some form.Basic) label code first second name h =
    rw (number_is 0 first (name_part name) (omega arith) (omega (arith, h.0)), le-leb first 6 h.0, named_alone name) (ap (λ k. Some (line.Entry label code first k name)) (sym h.1))
entry_at (Some form.Member) label code first second name h =
    rw (number_is 1 first (number second ∷ name_part name) h.0.0 h.0.1, number_is 0 second (name_part name) (omega arith) h.1, named_alone name) refl
entry_at (Some form.Function) label code first second name h =
    rw (number_is 0 first (number second ∷ name_part name) (omega arith) h.0, number_is 1 second (name_part name) h.1.0 h.1.1, named_alone name) refl
entry_at None label code first second name h = absurd h

entry_plain : (f : Option EntryForm) (first second : ℕ) → AreEntryNumbers f first second → ArePlain (entry_parts f first second)
entry_plain (Some form.OneLabel) first second h = (number_plain first h.0.1, tt)
entry_plain (Some form.Basic) first second h = (number_plain first (omega (arith, h.0)), tt)
entry_plain (Some form.Member) first second h = (number_plain first h.0.1, (number_plain second h.1, tt))
entry_plain (Some form.Function) first second h = (number_plain first h.0, (number_plain second h.1.1, tt))
entry_plain None first second h = absurd h

entry_is : (label code first second : ℕ) (name : List ℕ) → IsSpelled (line.Entry label code first second name)
    → entry_line (number label ∷ number code ∷ entry_parts (entry_form code) first second ++ name_part name) ≡ Some (line.Entry label code first second name)
entry_is label code first second name h =
    let rest = entry_parts (entry_form code) first second ++ name_part name in
    rw (number_is 1 label (number code ∷ rest) h.0.0 h.0.1, number_is 0 code rest (omega arith) h.1)
    (entry_at (entry_form code) label code first second name h.2)

-- ---- N, E, L

node_is : (label op : ℕ) (before name : List ℕ) → IsSpelled (line.Node label op before name)
    → node_line (number label ∷ number op ∷ node_pragmas name before) ≡ Some (line.Node label op before name)
node_is label op before name h =
    rw (
      number_is 1 label (number op ∷ node_pragmas name before) h.0.0 h.0.1,
      number_is 0 op (node_pragmas name before) (omega arith) h.1,
      named_node name before,
      preceded_node name before h.2,
    ) refl

edge_is : (source out node port ty : ℕ) (takes : Bool) (name : List ℕ) → IsSpelled (line.Edge source out node port ty takes name)
    → edge_line (number source ∷ number out ∷ number node ∷ number port ∷ number ty ∷ name_part name ++ take_part takes) ≡ Some (line.Edge source out node port ty takes name)
edge_is source out node port ty takes name h =
    let rest = name_part name ++ take_part takes in
    rw (
      number_is 0 source (number out ∷ number node ∷ number port ∷ number ty ∷ rest) (omega arith) h.0,
      number_is 1 out (number node ∷ number port ∷ number ty ∷ rest) h.1.0 h.1.1,
      number_is 0 node (number port ∷ number ty ∷ rest) (omega arith) h.2,
      number_is 1 port (number ty ∷ rest) h.3.0 h.3.1,
      number_is 1 ty rest h.4.0 h.4.1,
      named_edge name takes,
      takes_edge name takes,
    ) refl

literal_is : (node port ty : ℕ) (text name : List ℕ) → IsSpelled (line.Literal node port ty text name)
    → literal_line (number node ∷ number port ∷ number ty ∷ Quoted text ∷ name_part name) ≡ Some (line.Literal node port ty text name)
literal_is node port ty text name h =
    let rest = Quoted text ∷ name_part name in
    rw (
      number_is 0 node (number port ∷ number ty ∷ rest) (omega arith) h.0,
      number_is 1 port (number ty ∷ rest) h.1.0 h.1.1,
      number_is 1 ty rest h.2.0 h.2.1,
      named_alone name,
    ) refl

-- ---- X, G, I

typed_is : (ty : ℕ) (name : List ℕ) → IsLabel ty → typed_name (number ty ∷ Quoted name ∷ []) ≡ Some (ty, name)
typed_is ty name h = rw (number_is 1 ty (Quoted name ∷ []) h.0 h.1) refl

not_zero : (n : ℕ) → 1 ≤ n → eqb n 0 ≡ false
not_zero n h = elim (eqb_tells n 0) [ inl p ↦ absurd (let e : n ≡ 0 = p.1 in omega (arith, h, e)) | inr p ↦ p.0 ]

graph_is : (fun : ℕ) (name : List ℕ) → IsLabel fun → graph_line (number fun ∷ Quoted name ∷ []) ≡ Some (line.Function false fun name)
graph_is fun name h =
    rw (number_is 0 fun (Quoted name ∷ []) (omega arith) h.1, not_zero fun h.0) (ap (λ t. t >>= λ f. Some (line.Function false f.0 f.1)) (typed_is fun name h))

subgraph_is : (name : List ℕ) → graph_line (number 0 ∷ name_part name) ≡ Some (line.Subgraph name)
subgraph_is name = rw (number_is 0 0 (name_part name) (omega arith) (omega arith)) (ap (option_map line.Subgraph) (named_alone name))

function_reads : (exported : Bool) (fun : ℕ) (name : List ℕ) → IsSpelled (line.Function exported fun name) → line_of (line_text (line.Function exported fun name)) ≡ Some (line.Function exported fun name)
function_reads true fun name h =
    read_by 88 (number fun ∷ Quoted name ∷ []) (line.Function true fun name) ((refl, refl), (number_plain fun h.0.1, (h.1, tt))) refl refl
    (ap (λ t. t >>= λ f. Some (line.Function true f.0 f.1)) (typed_is fun name h.0))
function_reads false fun name h =
    read_by 71 (number fun ∷ Quoted name ∷ []) (line.Function false fun name) ((refl, refl), (number_plain fun h.0.1, (h.1, tt))) refl refl (graph_is fun name h.0)

-- ---- {, }

open_reads : (rest : List ℕ) → list_all is_line_byte rest ≡ true → line_of (line_text (line.Open rest)) ≡ Some (line.Open rest)
open_reads rest h = ap line_of (append-nil (123 ∷ rest)) ∙ ap (λ (t : Bool). if t then Some (line.Open rest) else None) h

close_is : (label op count : ℕ) (assoc before name : List ℕ) → IsSpelled (line.Close label op count assoc before name)
    → close_line (number label ∷ number op ∷ number count ∷ map number assoc ++ node_pragmas name before) ≡ Some (line.Close label op count assoc before name)
close_is label op count assoc before name h =
    let rest = map number assoc ++ node_pragmas name before in
    rw (
      number_is 1 label (number op ∷ number count ∷ rest) h.0.0 h.0.1,
      number_is 0 op (number count ∷ rest) (omega arith) h.1,
      number_is 0 count rest (omega arith) h.2,
      numbers_are assoc name before h.3,
      named_node name before,
      preceded_node name before h.4,
    ) refl

pub written_reads : (l : Line) → IsSpelled l → line_of (line_text l) ≡ Some l
written_reads line.Blank h = refl
written_reads (line.Entry label code first second name) h =
    read_by 84 (number label ∷ number code ∷ entry_parts (entry_form code) first second ++ name_part name) (line.Entry label code first second name)
    ((refl, refl), (number_plain label h.0.1, (number_plain code h.1, both_plain (entry_parts (entry_form code) first second) (name_part name) (entry_plain (entry_form code) first second h.2) (name_plain name h.3)))) refl refl
    (entry_is label code first second name h)
written_reads (line.Node label op before name) h =
    read_by 78 (number label ∷ number op ∷ node_pragmas name before) (line.Node label op before name)
    ((refl, refl), (number_plain label h.0.1, (number_plain op h.1, pragmas_plain name before h.3 h.2))) refl refl
    (node_is label op before name h)
written_reads (line.Edge source out node port ty takes name) h =
    read_by 69 (number source ∷ number out ∷ number node ∷ number port ∷ number ty ∷ name_part name ++ take_part takes) (line.Edge source out node port ty takes name)
    ((refl, refl), (number_plain source h.0, (number_plain out h.1.1, (number_plain node h.2, (number_plain port h.3.1, (number_plain ty h.4.1, both_plain (name_part name) (take_part takes) (name_plain name h.5) (take_plain takes))))))) refl refl
    (edge_is source out node port ty takes name h)
written_reads (line.Literal node port ty text name) h =
    read_by 76 (number node ∷ number port ∷ number ty ∷ Quoted text ∷ name_part name) (line.Literal node port ty text name)
    ((refl, refl), (number_plain node h.0, (number_plain port h.1.1, (number_plain ty h.2.1, (h.3, name_plain name h.4))))) refl refl
    (literal_is node port ty text name h)
written_reads (line.Function exported fun name) h = function_reads exported fun name h
written_reads (line.Subgraph name) h =
    read_by 71 (number 0 ∷ name_part name) (line.Subgraph name) ((refl, refl), (number_plain 0 (omega arith), name_plain name h)) refl refl (subgraph_is name)
written_reads (line.Import ty name) h =
    read_by 73 (number ty ∷ Quoted name ∷ []) (line.Import ty name) ((refl, refl), (number_plain ty h.0.1, (h.1, tt))) refl refl
    (ap (λ t. t >>= λ f. Some (line.Import f.0 f.1)) (typed_is ty name h.0))
written_reads (line.Open rest) h = open_reads rest h
written_reads (line.Close label op count assoc before name) h =
    read_by 125 (number label ∷ number op ∷ number count ∷ map number assoc ++ node_pragmas name before) (line.Close label op count assoc before name)
    ((refl, refl), (number_plain label h.0.1, (number_plain op h.1, (number_plain count h.2, both_plain (map number assoc) (node_pragmas name before) (numbers_plain assoc h.3) (pragmas_plain name before h.5 h.4))))) refl refl
    (close_is label op count assoc before name h)
