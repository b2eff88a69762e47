-- The unit of a text whose lines had no fault.
use Rattle.std.proofs.Common.{◌≡◌, ℕ, ◌≤◌, List, map, get_or, Option, Some, bytes_eq, sym, ap, subst, ◌∙◌, arith}
use Rattle.std.specs.Prelude.{◌==◌, All, filter}
use Rattle.std.specs.List.{list_any}
use Rattle.std.proofs.lemmas.List.Elements.{All-weaker}
use Rattle.if1_graph.specs.declared.line.Line.{Line}
use Rattle.if1_graph.specs.TextLines.{lines_in}
use Rattle.if1_graph.specs.Reading.{line_of}
use Rattle.if1_graph.specs.Spelling.{IsSpelled}
use Rattle.if1_graph.specs.declared.graph.Graph.TheViews.{out-Graph}
use Rattle.if1_graph.specs.declared.graph.TypeEntry.{TypeEntry}
use Rattle.if1_graph.specs.declared.graph.Unit1.{Unit1}
use Rattle.if1_graph.specs.Units.{label_of, most_levels, Place, places}
use Rattle.if1_graph.specs.Formed.{IsNode, IsTable, IsImport, IsGraph}
use Rattle.if1_graph.specs.Normal.{IsNormalGraph}
use Rattle.if1_graph.specs.Reads.{entries_in, is_of_graph, GivesUnit, deepest, LinesGive, ReadsIf1}
use Rattle.if1_read.specs.declared.judge.Known.{Known}
use Rattle.if1_read.specs.declared.machine.Machine.{Machine}
use Rattle.if1_read.specs.Entries.{IsTableOf}
use Rattle.if1_read.specs.Faults.{rows_of}
use Rattle.if1_read.specs.Fine.{IsNodeFine}
use Rattle.if1_read.specs.Known.{IsTableSound, Fits}
use Rattle.if1_read.specs.Made.{AreFunctionsMade}
use Rattle.if1_read.specs.Putting.{AreSorted}
use Rattle.if1_read.specs.Sorting.{SortsOut, has_name}
use Rattle.if1_read.specs.Whole.{IsWhole}
use Rattle.if1_read.specs.Stands.{IsRead, Runs}
use Rattle.if1_read.proofs.Entered.{spelled_lines, rows_read, lines_read, table_right}
use Rattle.if1_read.proofs.Going.{runs_to_functions, runs_nesting}
use Rattle.if1_read.proofs.Likeness.{rising_once}
use Rattle.if1_read.proofs.Naming.{named_unit, named_fits, given_named}
use Rattle.if1_read.proofs.Levels.{graph_levels, deepest_of_graphs}
use Rattle.if1_read.proofs.Placing.{IsRight, all_right}

pub formed_at : (u : Unit1) (p : Place) → IsRight u p → IsGraph u p
formed_at u p r = record {
  number = r.numbered;
  header = r.header;
  nodes = All-weaker IsNodeFine IsNode (λ n x. x.node) (out-Graph p.graph).nodes r.fine.nodes;
  labels = rising_once (map label_of (out-Graph p.graph).nodes) r.fine.rising;
  few = r.fine.few;
  edges = r.fine.edges;
}

pub normal_at : (u : Unit1) (p : Place) → IsRight u p → IsNormalGraph u p
normal_at u p r = record {
  nodes = r.fine.rising;
  lists = λ k d i. (r.fine.nodes k d i).before;
  edges = r.fine.order;
  literals = r.fine.literals;
}

-- the names are those of the functions
fits : (k : Known) (m : Machine) (u : Unit1) (gs : List Line) (w : IsWhole k m u) → ((t : List ℕ) → list_any (λ n. bytes_eq n t) k.names ≡ has_name t gs) →
    AreFunctionsMade k 200 gs m.imports w.read → Fits k u
fits k m u gs w names made = record {
  types = w.types;
  names = given_named k gs m.imports u.graphs names (made (named_unit k) (named_fits k) u.graphs w.like).gives;
}

pub lines_give : (ls : List Line) (es : List TypeEntry) (gs : List Line) (k : Known) (m : Machine) (u : Unit1) (w : IsWhole k m u) → All IsSpelled ls →
    SortsOut ls es gs → ((t : List ℕ) → list_any (λ n. bytes_eq n t) k.names ≡ has_name t gs) → IsTableSound k.table → IsTableOf k.table es →
    AreFunctionsMade k 200 gs m.imports w.read → deepest 0 gs ≤ most_levels → LinesGive ls u
lines_give ls es gs k m u w spelled sorts names sound table made depth =
    let f = made u (fits k m u gs w names made) u.graphs w.like in
    let right = all_right u 200 w.counted f.fine in
    let of_lines : IsTableOf k.table (entries_in ls) = subst (IsTableOf k.table) sorts.entries table in
    record {
      types = λ l. ap (filter (λ (e : TypeEntry). e.label == l)) w.types ∙ of_lines.same l;
      graphs = subst (λ (is : List (ℕ × List ℕ)). GivesUnit u (filter is_of_graph ls) is u.graphs) (sym w.imports)
          (subst (λ (gs : List Line). GivesUnit u gs m.imports u.graphs) sorts.lines f.gives);
      nesting = omega (arith, depth, ap (deepest 0) sorts.lines, deepest_of_graphs 0 ls);
      formed = record {
        types = subst IsTable (sym w.types) (table_right k.table ls sound of_lines spelled sorts.few);
        imports = subst (All (IsImport u.types)) (sym w.imports) f.imports;
        nesting = λ i d h. graph_levels u 200 (get_or u.graphs i d) (f.fine i d h).within;
        graphs = All-weaker (IsRight u) (IsGraph u) (formed_at u) (places u) right;
      };
      normal = All-weaker (IsRight u) (IsNormalGraph u) (normal_at u) (places u) right;
    }

-- each of the sorted lines was read
pub all_read : (text : List ℕ) (os : List (Option Line)) (es : List TypeEntry) (gs : List Line) → os ≡ rows_of text → AreSorted os es gs → All IsRead gs
all_read text os es gs are sorted =
    let read : map line_of (lines_in text) ≡ map (λ l. Some l) sorted.lines = rows_read (lines_in text) sorted.lines (sym are ∙ sorted.are) sorted.labelled in
    subst (All IsRead) (sym sorted.sorts.lines) (lines_read sorted.lines (spelled_lines (lines_in text) sorted.lines read))

-- sorted lines that ran without a fault are those of the unit
pub assembled : (text : List ℕ) (os : List (Option Line)) (es : List TypeEntry) (gs : List Line) (k : Known) (m : Machine) (u : Unit1) →
    os ≡ rows_of text → AreSorted os es gs → ((t : List ℕ) → list_any (λ n. bytes_eq n t) k.names ≡ has_name t gs) →
    IsTableSound k.table → IsTableOf k.table es → (All IsRead gs → Runs k gs m) → IsWhole k m u → ReadsIf1 text u
assembled text os es gs k m u are sorted names sound table ran w =
    let read : map line_of (lines_in text) ≡ map (λ l. Some l) sorted.lines = rows_read (lines_in text) sorted.lines (sym are ∙ sorted.are) sorted.labelled in
    let spelled = spelled_lines (lines_in text) sorted.lines read in
    let runs = ran (all_read text os es gs are sorted) in
    record {
      lines = sorted.lines;
      read = read;
      give =
          lines_give sorted.lines es gs k m u w spelled sorted.sorts names sound table
          (runs_to_functions k gs m w.read sound runs w.closed w.ends) (runs_nesting k gs m runs w.closed);
    }
