-- What a line of IF1 text says (M-170, text form). Labels and ports are at least 1, but for node 0, the boundary.
use Rattle.std.specs.Prelude.{ℕ, Bool, true, false, ◌==◌, List, [], ◌∷◌, length, slice_index, option_map, Option, Some, None, if◌then◌else◌}
use Rattle.std.specs.List.{list_all}
use Rattle.if1_graph.specs.LineParts.{◌>>=◌, is_blank, is_line_byte, Part, Word, Quoted, Broken, word_of, parts_of}
use Rattle.if1_graph.specs.Numbers.{numeral, number_first}
use Rattle.if1_graph.specs.Pragmas.{is_pragma, named, takes_in, preceded}
use Rattle.if1_graph.specs.Entries.{entry_form, entry_numbers}
use Rattle.if1_graph.specs.declared.line.Line.{Line}
use Rattle.if1_graph.specs.declared.line.Line.TheVariants as line

-- the text in quotes at the front of these parts, and the parts behind it
abbrev pub quoted_first : List Part → Option (List ℕ × List Part)
quoted_first [] = None
quoted_first (Word w ∷ ps) = None
quoted_first (Quoted t ∷ ps) = Some (t, ps)
quoted_first (Broken ∷ ps) = None

-- the numbers up to the first pragma
abbrev pub numbers_first : List Part → Option (List ℕ × List Part)
numbers_first [] = Some ([], [])
numbers_first (p ∷ ps) =
    if is_pragma p then Some ([], p ∷ ps)
    else numeral 0 (word_of p) >>= λ n. option_map (λ more. (n ∷ more.0, more.1)) (numbers_first ps)

-- T: label, code, and the numbers of that code
abbrev pub entry_line : List Part → Option Line
entry_line ps =
    number_first 1 ps >>= λ label.
    number_first 0 label.1 >>= λ code.
    entry_form code.0 >>= λ form.
    entry_numbers form code.1 >>= λ numbers.
    named numbers.1 >>= λ name.
    Some (line.Entry label.0 code.0 numbers.0.0 numbers.0.1 name)

-- N: label, opcode
abbrev pub node_line : List Part → Option Line
node_line ps =
    number_first 1 ps >>= λ label.
    number_first 0 label.1 >>= λ op.
    named op.1 >>= λ name.
    preceded op.1 >>= λ before.
    Some (line.Node label.0 op.0 before name)

-- E: node, port, node, port, type
abbrev pub edge_line : List Part → Option Line
edge_line ps =
    number_first 0 ps >>= λ source.
    number_first 1 source.1 >>= λ out.
    number_first 0 out.1 >>= λ node.
    number_first 1 node.1 >>= λ port.
    number_first 1 port.1 >>= λ ty.
    named ty.1 >>= λ name.
    Some (line.Edge source.0 out.0 node.0 port.0 ty.0 (takes_in ty.1) name)

-- L: node, port, type, text
abbrev pub literal_line : List Part → Option Line
literal_line ps =
    number_first 0 ps >>= λ node.
    number_first 1 node.1 >>= λ port.
    number_first 1 port.1 >>= λ ty.
    quoted_first ty.1 >>= λ text.
    named text.1 >>= λ name.
    Some (line.Literal node.0 port.0 ty.0 text.0 name)

-- X, I and the G of a function: type, name
abbrev pub typed_name : List Part → Option (ℕ × List ℕ)
typed_name ps =
    number_first 1 ps >>= λ ty.
    quoted_first ty.1 >>= λ name.
    if list_all is_pragma name.1 then Some (ty.0, name.0) else None

abbrev pub function_line : Bool → List Part → Option Line
function_line exported ps = typed_name ps >>= λ f. Some (line.Function exported f.0 f.1)

abbrev pub import_line : List Part → Option Line
import_line ps = typed_name ps >>= λ f. Some (line.Import f.0 f.1)

-- G: 0 in a compound node
abbrev pub graph_line : List Part → Option Line
graph_line ps =
    number_first 0 ps >>= λ ty.
    if ty.0 == 0 then option_map line.Subgraph (named ty.1) else function_line false ps

-- }: label, opcode, number of subgraphs, association list
abbrev pub close_line : List Part → Option Line
close_line ps =
    number_first 1 ps >>= λ label.
    number_first 0 label.1 >>= λ op.
    number_first 0 op.1 >>= λ count.
    numbers_first count.1 >>= λ assoc.
    named assoc.1 >>= λ name.
    preceded assoc.1 >>= λ before.
    Some (line.Close label.0 op.0 count.0 assoc.0 before name)

-- the letter that stands alone at the front of a line, and the parts behind it
abbrev pub letter_first : List Part → Option (ℕ × List Part)
letter_first [] = None
letter_first (p ∷ ps) = if length (word_of p) == 1 then Some (slice_index (word_of p) 0, ps) else None

-- by the letter: T 84, N 78, E 69, L 76, X 88, G 71, I 73, } 125
abbrev pub line_by : ℕ → List Part → Option Line
line_by c ps =
    if c == 84 then entry_line ps
    else (if c == 78 then node_line ps
    else (if c == 69 then edge_line ps
    else (if c == 76 then literal_line ps
    else (if c == 88 then function_line true ps
    else (if c == 71 then graph_line ps
    else (if c == 73 then import_line ps
    else (if c == 125 then close_line ps
    else None)))))))

-- the line behind its first blanks: a comment begins with C, 67, and a compound node with {, 123
abbrev pub line_begun : List ℕ → Option Line
line_begun [] = Some line.Blank
line_begun (c ∷ s) =
    if is_blank c then line_begun s
    else (if c == 67 then Some line.Blank
    else (if c == 123 then Some (line.Open s)
    else letter_first (parts_of (c ∷ s)) >>= λ letter. line_by letter.0 letter.1))

-- What a line says, given without the line feed, or carriage return and line feed, that end it; None where it is no
-- line of IF1 text.
abbrev pub line_of : List ℕ → Option Line
line_of s = if list_all is_line_byte s then line_begun s else None
