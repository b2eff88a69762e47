-- What is kept of the lines of graphs to find their faults, in what they have given.
use Rattle.std.specs.Prelude.{◌≡◌, ℕ, suc, List, [], ◌∷◌, ◌++◌, map, reverse, length, Option, Some, None}
use Rattle.if1_graph.specs.declared.line.Line.{Line}
use Rattle.if1_graph.specs.declared.line.Line.TheVariants as line
use Rattle.if1_graph.specs.declared.graph.Graph.{Graph}
use Rattle.if1_graph.specs.declared.graph.Node.{Node, out-Node}
use Rattle.if1_graph.specs.declared.graph.Edge.{Edge}
use Rattle.if1_graph.specs.declared.graph.Origin.{Origin}
use Rattle.if1_graph.specs.declared.graph.Origin.TheVariants.{Port, Lit}
use Rattle.if1_graph.specs.Units.{label_of}
use Rattle.if1_read.specs.declared.fault.Kind.{Kind}
use Rattle.if1_read.specs.declared.fault.Kind.TheVariants.{Bad}
use Rattle.if1_read.specs.declared.fault.Fault.{Fault}
use Rattle.if1_read.specs.declared.judge.Known.{Known}
use Rattle.if1_read.specs.declared.part.Part.{Part}
use Rattle.if1_read.specs.declared.level.Level.{Level}
use Rattle.if1_read.specs.declared.machine.Machine.{Machine}
use Rattle.if1_read.specs.Faults.{with_some}
use Rattle.if1_read.specs.Least.{earlier, least}
use Rattle.if1_read.specs.Pages as pages
use Rattle.if1_read.specs.Pages.{Page, Sheet, Rules, wrong_node, line_faults, sheets_next}
use Rattle.if1_read.specs.Rows.{by_line}
use Rattle.if1_read.specs.Rulings.{rules_of}

-- ---- a graph whose lines are read

-- the label and the opcode of a node
abbrev pub marks_of : Node → ℕ × ℕ
marks_of n = (label_of n, (out-Node n).op)

abbrev pub lined_marks : List (ℕ × Node) → List (ℕ × (ℕ × ℕ))
lined_marks ns = map (λ n. (n.0, marks_of n.1)) ns

abbrev pub lit_from : Edge → Origin → Option pages.Lit
lit_from e (Port node port) = None
lit_from e (Lit text) = Some (record { node = e.node; port = e.port; ty = e.ty; text = text })

-- the literal of an edge, if it is one
abbrev pub lit_of : Edge → Option pages.Lit
lit_of e = lit_from e e.from

abbrev pub lined_lits : List (ℕ × Edge) → List (ℕ × pages.Lit)
lined_lits [] = []
lined_lits (e ∷ es) = with_some (by_line e.0 (lit_of e.1)) (lined_lits es)

abbrev pub page_of : Part → Page
page_of p = record { nodes = lined_marks p.nodes.items; lits = lined_lits p.edges.items }

-- ---- levels

-- a graph whose lines are read has begun too
abbrev pub sheet_with : List Graph → Option Part → Sheet
sheet_with gs None = (None, length gs)
sheet_with gs (Some p) = (Some (page_of p), suc (length gs))

abbrev pub sheet_of : Level → Sheet
sheet_of l = sheet_with l.graphs l.part

-- levels from the unit to the innermost one, from the innermost one to the unit
abbrev pub sheets_around : List Level → List Sheet
sheets_around ls = map sheet_of (reverse ls)

abbrev pub sheets_of : Machine → List Sheet
sheets_of m = sheet_of m.level ∷ sheets_around m.outer.items

-- ---- a node or an edge more

abbrev pub sheet_with_node : ℕ → ℕ × ℕ → Sheet → Sheet
sheet_with_node n node (None, count) = (None, count)
sheet_with_node n node (Some p, count) = (Some (pages.with_node n node.0 node.1 p), count)

abbrev pub node_wrong : ℕ → Sheet → Option Kind
node_wrong op (None, count) = Some Bad
node_wrong op (Some p, count) = wrong_node op (length p.nodes)

abbrev pub page_with_lit : ℕ → Option pages.Lit → Page → Page
page_with_lit n None p = p
page_with_lit n (Some l) p = pages.with_lit n l p

abbrev pub sheet_with_edge : ℕ → Option pages.Lit → Sheet → Sheet
sheet_with_edge n l (None, count) = (None, count)
sheet_with_edge n l (Some p, count) = (Some (page_with_lit n l p), count)

abbrev pub edge_wrong : Rules → ℕ → Sheet → Option Kind
edge_wrong r ty (None, count) = Some Bad
edge_wrong r ty (Some p, count) = r.type_wrong ty

-- ---- a line

abbrev pub node_says : ℕ × ℕ → List ℕ → List ℕ → Line
node_says n before name = line.Node n.0 n.1 before name

-- what is kept behind a line, and which fault is named
pub record Turns (k : Known) (m : Machine) (n : ℕ) (l : Line) (after : Machine) : Type 0 where
  pub sheets : sheets_of after ≡ sheets_next n l (sheets_of m)
  pub found : after.first ≡ earlier m.first (least (line_faults (rules_of k) n l (sheets_of m)))
