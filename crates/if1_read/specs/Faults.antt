-- What is at fault in a text, and which fault is named (IF1 manual M-170, text form): that of the first line, and of
-- several in one line that of the least number.
use Rattle.std.specs.Prelude.{◌≡◌, ℕ, suc, ◌≤◌, ◌<◌, ◌==◌, ◌⊎◌, Bool, true, false, List, [], ◌∷◌, ◌++◌, map, length, Contains, find, bytes_eq, is_some, Option, Some, None, if◌then◌else◌}
use Rattle.std.specs.List.{list_any}
use Rattle.if1_graph.specs.declared.line.Line.{Line}
use Rattle.if1_graph.specs.declared.line.Line.TheVariants as line
use Rattle.if1_graph.specs.TextLines.{lines_in}
use Rattle.if1_graph.specs.LineParts.{is_blank}
use Rattle.if1_graph.specs.Reading.{line_of}
use Rattle.if1_graph.specs.declared.graph.TypeEntry.{TypeEntry}
use Rattle.if1_graph.specs.declared.fault.If1Fault.{If1Fault}
use Rattle.if1_graph.specs.declared.fault.If1Fault.TheVariants as refusal
use Rattle.if1_graph.specs.declared.kind.TypeKind.{TypeKind}
use Rattle.if1_graph.specs.declared.kind.TypeKind.TheVariants as kind
use Rattle.if1_graph.specs.declared.kind.Basic.{Basic}
use Rattle.if1_graph.specs.declared.kind.Basic.TheVariants as basic
use Rattle.if1_graph.specs.declared.row.Want.{Want}
use Rattle.if1_graph.specs.declared.row.Want.TheVariants as want
use Rattle.if1_graph.specs.Tables.{◌>>=◌}
use Rattle.if1_graph.specs.Ops.{simple_at, reducer_at}
use Rattle.if1_graph.specs.Rows.{operand_of}
use Rattle.if1_graph.specs.Kinds.{kind_at, basic_at}
use Rattle.if1_graph.specs.Types.{entry_at}
use Rattle.if1_graph.specs.Literals.{literal}
use Rattle.if1_graph.specs.Units.{most_levels}
use Rattle.if1_graph.specs.Formed.{IsType, HasReal, IsOpcode, most}
use Rattle.if1_graph.specs.Reads.{entries_in}
use Rattle.if1_read.specs.declared.fault.Kind.{Kind}
use Rattle.if1_read.specs.declared.fault.Kind.TheVariants.{Bad, Unknown, Real, TooMany}
use Rattle.if1_read.specs.Entries.{HasTypes}

-- ---- rows

-- whether a line begins with `}`, 125, behind its blanks
abbrev pub closes : List ℕ → Bool
closes [] = false
closes (c ∷ s) = if is_blank c then closes s else c == 125

-- A line that begins with `}` and does not read closes its node all the same, as one without a label, so that what stands
-- behind it stands where its author put it.
abbrev pub row_by : Option Line → Bool → Option Line
row_by (Some l) b = Some l
row_by None true = Some (line.Close 0 0 0 [] [] [])
row_by None false = None

abbrev pub row_of : List ℕ → Option Line
row_of s = row_by (line_of s) (closes s)

-- what each line says
abbrev pub rows_of : List ℕ → List (Option Line)
rows_of text = map row_of (lines_in text)

-- no line that reads has none, but for one that does not close rightly
abbrev pub is_unlabelled : Line → Bool
is_unlabelled (line.Close label op count assoc before name) = label == 0
is_unlabelled _ = false

-- the lines that read, with their numbers, where the first line has this one
abbrev pub numbered : ℕ → List (Option Line) → List (ℕ × Line)
numbered n [] = []
numbered n (None ∷ rows) = numbered (suc n) rows
numbered n (Some l ∷ rows) = (n, l) ∷ numbered (suc n) rows

-- ---- where a line stands

-- the unit or an open compound node: the line that began the graph whose lines are read there, and how many graphs have begun
abbrev pub Layer : Type 0
Layer = Option ℕ × ℕ

-- The layers behind a line, from the innermost one to the unit, by those before it. A line that is out of place changes nothing.
abbrev pub next : ℕ → Line → List Layer → List Layer
next n (line.Function exported fun name) (unit ∷ []) = (Some n, suc unit.1) ∷ []
next n (line.Import ty name) (unit ∷ []) = (None, unit.1) ∷ []
next n (line.Subgraph name) (here ∷ around ∷ os) = (Some n, suc here.1) ∷ around ∷ os
next n (line.Open rest) ((Some g, count) ∷ os) = (None, 0) ∷ (Some g, count) ∷ os
next n (line.Close label op count assoc before name) (here ∷ around ∷ os) = around ∷ os
next n l os = os

abbrev pub layers_from : List Layer → List (ℕ × Line) → List Layer
layers_from os [] = os
layers_from os (l ∷ ls) = layers_from (next l.0 l.1 os) ls

abbrev pub unit_alone : List Layer
unit_alone = (None, 0) ∷ []

-- the layers behind these lines
abbrev pub layers : List (ℕ × Line) → List Layer
layers ls = layers_from unit_alone ls

abbrev pub is_unit : List Layer → Bool
is_unit (unit ∷ []) = true
is_unit _ = false

abbrev pub is_inside : List Layer → Bool
is_inside (here ∷ around ∷ os) = true
is_inside _ = false

-- whether the lines of a graph are read
abbrev pub is_reading : List Layer → Bool
is_reading ((Some g, count) ∷ os) = true
is_reading _ = false

-- whether a line stands where it may
abbrev pub is_placed : Line → List Layer → Bool
is_placed line.Blank os = true
is_placed (line.Entry label code first second name) os = true
is_placed (line.Function exported fun name) os = is_unit os
is_placed (line.Import ty name) os = is_unit os
is_placed (line.Subgraph name) os = is_inside os
is_placed (line.Close label op count assoc before name) os = is_inside os
is_placed _ os = is_reading os

-- how many graphs have begun in the innermost layer
abbrev pub graphs_in : List Layer → ℕ
graphs_in [] = 0
graphs_in (here ∷ os) = here.1

-- the line that began the graph to which a line belongs: the graph whose lines are read, and for a `}` line the one around
abbrev pub home : Line → List Layer → Option ℕ
home (line.Node label op before name) (here ∷ os) = here.0
home (line.Edge source out node port ty takes name) (here ∷ os) = here.0
home (line.Literal node port ty text name) (here ∷ os) = here.0
home (line.Close label op count assoc before name) (here ∷ around ∷ os) = around.0
home l os = None

-- ---- what lines say

abbrev pub with_some : {A : Type 0} → Option A → List A → List A
with_some None xs = xs
with_some (Some x) xs = x ∷ xs

-- what lines say where they stand, one after another
abbrev pub told : {A : Type 0} → (Line → List Layer → Option A) → List Layer → List (ℕ × Line) → List A
told f os [] = []
told f os (l ∷ ls) = with_some (f l.1 os) (told f (next l.0 l.1 os) ls)

abbrev pub is_line : ℕ → Option ℕ → Bool
is_line g None = false
is_line g (Some h) = h == g

-- what a line says in the graph that line g began
abbrev pub own : {A : Type 0} → (Line → Option A) → ℕ → Line → List Layer → Option A
own f g l os = if is_line g (home l os) then f l else None

-- the label and the opcode of a node
abbrev pub node_on : Line → Option (ℕ × ℕ)
node_on (line.Node label op before name) = Some (label, op)
node_on (line.Close label op count assoc before name) = Some (label, op)
node_on _ = None

-- the nodes of a graph, by the line that began it
abbrev pub nodes_of : Option ℕ → List (ℕ × Line) → List (ℕ × ℕ)
nodes_of None ls = []
nodes_of (Some g) ls = told (own node_on g) unit_alone ls

-- what a port of a simple node wants
abbrev pub want_of : List (ℕ × ℕ) → ℕ → ℕ → Option Want
want_of ns label port =
    find (λ n. n.0 == label) ns >>= λ n. simple_at n.1 >>= λ op. operand_of op port >>= λ operand. Some operand.1

abbrev pub name_on : Line → List Layer → Option (List ℕ)
name_on (line.Function exported fun name) (unit ∷ []) = Some name
name_on l os = None

-- the names of the functions
abbrev pub functions : List (ℕ × Line) → List (List ℕ)
functions ls = told name_on unit_alone ls

abbrev pub types : List (ℕ × Line) → List TypeEntry
types ls = entries_in (map (λ l. l.1) ls)

-- the type of an edge, a literal or a function
abbrev pub type_on : Line → Option ℕ
type_on (line.Edge source out node port ty takes name) = Some ty
type_on (line.Literal node port ty text name) = Some ty
type_on (line.Function exported fun name) = Some fun
type_on _ = None

-- ---- faults

abbrev pub unless : Bool → Kind → Option Kind
unless b k = if b then None else Some k

-- What is wrong with a literal, by the names of the functions, by what its port wants and by its type: it is the name of a
-- function or of a reduction, or a literal of its basic type; another port's literal of a function type is any name.
abbrev pub literal_fault : List (List ℕ) → Option Want → List ℕ → Option TypeKind → Option Basic → Option Kind
literal_fault names (Some want.Function) text (Some kind.Function) b = unless (list_any (λ n. bytes_eq n text) names) Unknown
literal_fault names (Some want.Reduction) text (Some kind.Function) b = unless (is_some (reducer_at text)) Unknown
literal_fault names w text (Some kind.Function) b = None
literal_fault names (Some want.Reduction) text (Some kind.Basic) (Some basic.Integer) = unless (is_some (reducer_at text)) Unknown
literal_fault names w text (Some kind.Basic) (Some b) = unless (is_some (literal b text)) Bad
literal_fault names w text _ _ = Some Bad

-- the faults of a line among all lines, behind those before it
module _ (all before : List (ℕ × Line)) where
  pub data IsFault : Line → Kind → Type 0 where
    -- it is out of place
    misplaced : {l : Line} → is_placed l (layers before) ≡ false → IsFault l Bad
    -- the node has another number of graphs
    miscounted : {label op count : ℕ} {assoc lasts name : List ℕ} → (count ≡ graphs_in (layers before) → ⊥) →
        IsFault (line.Close label op count assoc lasts name) Bad
    -- a type has the label of an earlier one
    type_again : {label code first second : ℕ} {name : List ℕ} → Contains (map (λ e. e.label) (types before)) label →
        IsFault (line.Entry label code first second name) Bad
    -- a node has the label of an earlier one of its graph
    node_again : {l : Line} {n : ℕ × ℕ} → node_on l ≡ Some n → Contains (map (λ m. m.0) (nodes_of (home l (layers before)) before)) n.0 →
        IsFault l Bad
    -- a literal is not one of its type, or names no function or no reduction
    wrong_literal : {node port ty : ℕ} {text name : List ℕ} {e : TypeEntry} {k : Kind} → entry_at (types all) ty ≡ Some e → ¬ HasReal (types all) ty →
        literal_fault (functions all) (want_of (nodes_of (home (line.Literal node port ty text name) (layers before)) all) node port) text (kind_at e.code) (basic_at e.first) ≡ Some k →
        IsFault (line.Literal node port ty text name) k
    -- a node has an opcode that is not known
    no_opcode : {l : Line} {n : ℕ × ℕ} → node_on l ≡ Some n → ¬ IsOpcode n.1 → IsFault l Unknown
    -- an edge, a literal, a function, a function of another unit or a type names a type that is not there
    no_type : {l : Line} {ty : ℕ} → type_on l ≡ Some ty → ¬ IsType (types all) ty → IsFault l Unknown
    no_import_type : {ty : ℕ} {name : List ℕ} → ¬ IsType (types all) ty → IsFault (line.Import ty name) Unknown
    no_part : {label code first second : ℕ} {name : List ℕ} → ¬ HasTypes (types all) (kind_at code) first second →
        IsFault (line.Entry label code first second name) Unknown
    -- an edge, a literal or a function has a type that holds reals
    real_type : {l : Line} {ty : ℕ} → type_on l ≡ Some ty → HasReal (types all) ty → IsFault l Real
    -- it passes a limit on types, on nodes of a graph, or on compound nodes around it
    too_many_types : {label code first second : ℕ} {name : List ℕ} → most ≤ length (types before) →
        IsFault (line.Entry label code first second name) TooMany
    too_many_nodes : {l : Line} {n : ℕ × ℕ} → node_on l ≡ Some n → most ≤ length (nodes_of (home l (layers before)) before) → IsFault l TooMany
    too_deep : {rest : List ℕ} → most_levels < length (layers before) → IsFault (line.Open rest) TooMany

-- the line of this number is at fault
pub data FaultAt (rows : List (Option Line)) : ℕ → Kind → Type 0 where
  -- it does not read
  unread : (before after : List (Option Line)) → rows ≡ before ++ None ∷ after → FaultAt rows (suc (length before)) Bad
  unclosing : (before after : List (Option Line)) (l : Line) → is_unlabelled l ≡ true → rows ≡ before ++ Some l ∷ after →
      FaultAt rows (suc (length before)) Bad
  -- or it has a fault among the lines
  read : (before after : List (ℕ × Line)) (n : ℕ) (l : Line) (k : Kind) → numbered 1 rows ≡ before ++ (n, l) ∷ after →
      IsFault (numbered 1 rows) before l k → FaultAt rows n k

-- ---- the fault that is named

abbrev pub rank : Kind → ℕ
rank Bad = 1
rank Unknown = 2
rank Real = 3
rank TooMany = 9

-- no fault comes before it
pub record NamesFault (rows : List (Option Line)) (n : ℕ) (k : Kind) : Type 0 where
  pub fault : FaultAt rows n k
  pub first : (m : ℕ) (j : Kind) → FaultAt rows m j → (n < m) ⊎ ((n ≡ m) × (rank k ≤ rank j))

abbrev pub HasNoFault : List (Option Line) → Type 0
HasNoFault rows = (n : ℕ) (k : Kind) → ¬ FaultAt rows n k

-- the lines have no fault, and end in a compound node
pub record IsUnclosed (rows : List (Option Line)) : Type 0 where
  pub clean : HasNoFault rows
  pub unclosed : 1 < length (layers (numbered 1 rows))

-- a refusal of a text; want of memory says nothing of it
abbrev pub IsFaultOf : List ℕ → If1Fault → Type 0
IsFaultOf text (refusal.BadLine n) = NamesFault (rows_of text) n Bad
IsFaultOf text (refusal.Unknown n) = NamesFault (rows_of text) n Unknown
IsFaultOf text (refusal.Real n) = NamesFault (rows_of text) n Real
IsFaultOf text (refusal.TooMany n) = NamesFault (rows_of text) n TooMany
IsFaultOf text refusal.Unclosed = IsUnclosed (rows_of text)
IsFaultOf text refusal.NoMemory = Unit {0}
IsFaultOf text _ = ⊥
