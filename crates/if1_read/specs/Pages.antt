-- What is kept of the lines of graphs so far to find their faults: of each level, from the innermost to the unit, the graph
-- whose lines are read, with its nodes and literals, and how many graphs have begun.
use Rattle.std.specs.Prelude.{ℕ, suc, ◌==◌, nat_le, nat_lt, Bool, ◌||◌, List, [], ◌∷◌, ◌++◌, map, length, is_some, Option, Some, None, if◌then◌else◌}
use Rattle.std.specs.List.{list_any, flat_map}
use Rattle.if1_graph.specs.declared.line.Line.{Line}
use Rattle.if1_graph.specs.declared.line.Line.TheVariants as line
use Rattle.if1_graph.specs.Ops.{simple_at, compound_at}
use Rattle.if1_graph.specs.Units.{most_levels}
use Rattle.if1_graph.specs.Formed.{most}
use Rattle.if1_read.specs.declared.fault.Kind.{Kind}
use Rattle.if1_read.specs.declared.fault.Kind.TheVariants.{Bad, Unknown, TooMany}
use Rattle.if1_read.specs.declared.fault.Fault.{Fault}
use Rattle.if1_read.specs.Faults.{with_some}
use Rattle.if1_read.specs.Least.{noted, found}

-- a literal by its port, its type and its text
pub record Lit : Type 0 where
  pub node : ℕ
  pub port : ℕ
  pub ty : ℕ
  pub text : List ℕ

abbrev pub lit_on : Line → Option Lit
lit_on (line.Literal node port ty text name) = Some (record { node = node; port = port; ty = ty; text = text })
lit_on _ = None

-- a graph whose lines are read: its nodes by label and opcode, and its literals, each with its line
pub record Page : Type 0 where
  pub nodes : List (ℕ × (ℕ × ℕ))
  pub lits : List (ℕ × Lit)

abbrev pub no_lines : Page
no_lines = record { nodes = []; lits = [] }

abbrev pub with_node : ℕ → ℕ → ℕ → Page → Page
with_node n label op p = record { nodes = p.nodes ++ (n, (label, op)) ∷ []; lits = p.lits }

abbrev pub with_lit : ℕ → Lit → Page → Page
with_lit n l p = record { nodes = p.nodes; lits = p.lits ++ (n, l) ∷ [] }

abbrev pub Sheet : Type 0
Sheet = Option Page × ℕ

-- what is wrong with types, with those of other units' functions, and with literals by the nodes of their graph
pub record Rules : Type 0 where
  pub type_wrong : ℕ → Option Kind
  pub import_wrong : ℕ → Option Kind
  pub lit_wrong : List (ℕ × ℕ) → Lit → Option Kind

-- ---- faults of a graph that ends

abbrev pub is_among : ℕ → List ℕ → Bool
is_among l ls = list_any (λ m. m == l) ls

-- labels that stand a second time
abbrev pub again : {A : Type 0} → (A → ℕ) → List ℕ → List (ℕ × A) → List Fault
again f seen [] = []
again f seen (x ∷ xs) = if is_among (f x.1) seen then record { line = x.0; kind = Bad } ∷ again f seen xs else again f (f x.1 ∷ seen) xs

abbrev pub wrong_lits : Rules → List (ℕ × ℕ) → List (ℕ × Lit) → List Fault
wrong_lits r ns [] = []
wrong_lits r ns (x ∷ xs) = with_some (found x.0 (r.lit_wrong ns x.1)) (wrong_lits r ns xs)

abbrev pub page_faults : Rules → Page → List Fault
page_faults r p = again (λ n. n.0) [] p.nodes ++ wrong_lits r (map (λ n. n.1) p.nodes) p.lits

abbrev pub sheet_faults : Rules → Sheet → List Fault
sheet_faults r (None, count) = []
sheet_faults r (Some p, count) = page_faults r p

-- ---- faults of a line

-- the opcode and the number of a node that is added behind so many
abbrev pub wrong_node : ℕ → ℕ → Option Kind
wrong_node op before = if is_some (simple_at op) || is_some (compound_at op) then (if nat_le most before then Some TooMany else None) else Some Unknown

abbrev pub wrong_count : ℕ → ℕ → Option Kind
wrong_count count graphs = if count == graphs then None else Some Bad

-- a compound node with so many open ones around it, the unit among them
abbrev pub too_deep : ℕ → Option Kind
too_deep levels = if nat_lt most_levels levels then Some TooMany else None

abbrev pub line_faults : Rules → ℕ → Line → List Sheet → List Fault
line_faults r n line.Blank ss = []
line_faults r n (line.Entry label code first second name) ss = []
line_faults r n (line.Function exported fun name) (unit ∷ []) = sheet_faults r unit ++ noted n (r.type_wrong fun)
line_faults r n (line.Import ty name) (unit ∷ []) = sheet_faults r unit ++ noted n (r.import_wrong ty)
line_faults r n (line.Subgraph name) (here ∷ around ∷ ss) = sheet_faults r here
line_faults r n (line.Open rest) ((Some p, count) ∷ ss) = noted n (too_deep (suc (length ss)))
line_faults r n (line.Close label op count assoc before name) (here ∷ (Some p, graphs) ∷ ss) =
    sheet_faults r here ++ (noted n (wrong_count count here.1) ++ noted n (wrong_node op (length p.nodes)))
line_faults r n (line.Close label op count assoc before name) (here ∷ (None, graphs) ∷ ss) =
    sheet_faults r here ++ (noted n (wrong_count count here.1) ++ noted n (Some Bad))
line_faults r n (line.Node label op before name) ((Some p, count) ∷ ss) = noted n (wrong_node op (length p.nodes))
line_faults r n (line.Edge from out node port ty takes name) ((Some p, count) ∷ ss) = noted n (r.type_wrong ty)
line_faults r n (line.Literal node port ty text name) ((Some p, count) ∷ ss) = noted n (r.type_wrong ty)
line_faults r n l ss = noted n (Some Bad)

-- what is kept behind a line
abbrev pub sheets_next : ℕ → Line → List Sheet → List Sheet
sheets_next n (line.Function exported fun name) (unit ∷ []) = (Some no_lines, suc unit.1) ∷ []
sheets_next n (line.Import ty name) (unit ∷ []) = (None, unit.1) ∷ []
sheets_next n (line.Subgraph name) (here ∷ around ∷ ss) = (Some no_lines, suc here.1) ∷ around ∷ ss
sheets_next n (line.Open rest) ((Some p, count) ∷ ss) = (None, 0) ∷ (Some p, count) ∷ ss
sheets_next n (line.Close label op count assoc before name) (here ∷ (Some p, graphs) ∷ ss) = (Some (with_node n label op p), graphs) ∷ ss
sheets_next n (line.Close label op count assoc before name) (here ∷ (None, graphs) ∷ ss) = (None, graphs) ∷ ss
sheets_next n (line.Node label op before name) ((Some p, count) ∷ ss) = (Some (with_node n label op p), count) ∷ ss
sheets_next n (line.Literal node port ty text name) ((Some p, count) ∷ ss) =
    (Some (with_lit n (record { node = node; port = port; ty = ty; text = text }) p), count) ∷ ss
sheets_next n l ss = ss

-- the faults of the lines from here to the end
abbrev pub run_faults : Rules → List Sheet → List (ℕ × Line) → List Fault
run_faults r ss [] = flat_map (sheet_faults r) ss
run_faults r ss (l ∷ ls) = line_faults r l.0 l.1 ss ++ run_faults r (sheets_next l.0 l.1 ss) ls

-- what is kept behind these lines
abbrev pub sheets_after : List Sheet → List (ℕ × Line) → List Sheet
sheets_after ss [] = ss
sheets_after ss (l ∷ ls) = sheets_after (sheets_next l.0 l.1 ss) ls
