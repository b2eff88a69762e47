-- The unit of a text without a fault.
use Rattle.std.proofs.Common.{◌≡◌, ℕ, zero, suc, ◌<◌, ◌≤◌, List, [], ◌∷◌, ◌++◌, map, length, get_or, Option, Some, None, refl, sym, ap, subst, ◌∙◌, arith}
use Rattle.std.specs.Prelude.{All, Contains, filter}
use Rattle.std.proofs.lemmas.List.Elements.{All-weaker}
use Rattle.if1_graph.specs.declared.line.Line.{Line}
use Rattle.if1_graph.specs.TextLines.{lines_in}
use Rattle.if1_graph.specs.Reading.{line_of}
use Rattle.if1_graph.specs.Spelling.{IsSpelled}
use Rattle.if1_graph.specs.declared.graph.Unit1.{Unit1}
use Rattle.if1_graph.specs.Units.{places}
use Rattle.if1_graph.specs.Formed.{IsGraph}
use Rattle.if1_graph.specs.Normal.{IsNormalGraph}
use Rattle.if1_graph.specs.Reads.{entries_in, is_of_graph, GivesUnit, deepest, LinesGive, ReadsIf1}
use Rattle.if1_read.specs.declared.fault.Fault.{Fault}
use Rattle.if1_read.specs.declared.judge.Known.{Known}
use Rattle.if1_read.specs.Entries.{IsTableOf}
use Rattle.if1_read.specs.Faults.{rows_of, numbered, types, HasNoFault, IsUnclosed, read}
use Rattle.if1_read.specs.Known.{Fits}
use Rattle.if1_read.specs.Least.{least}
use Rattle.if1_read.specs.Pages.{Sheet, run_faults, sheets_after}
use Rattle.if1_read.specs.Rows.{typed, row_faults, table_faults, all_faults}
use Rattle.if1_read.specs.Rulings.{rules_of}
use Rattle.if1_read.specs.Stands.{IsRead}
use Rattle.if1_read.proofs.Accepted.{said_by}
use Rattle.if1_read.proofs.Assembly.{formed_at, normal_at}
use Rattle.if1_read.proofs.Entered.{spelled_lines, rows_read, lines_read, table_right}
use Rattle.if1_read.proofs.Levels.{graph_levels, deepest_of_graphs}
use Rattle.if1_read.proofs.Naming.{named_unit, named_fits, given_named}
use Rattle.if1_read.proofs.Placing.{IsRight, all_right}
use Rattle.if1_read.proofs.Refusing.{unclosed_named}
use Rattle.if1_read.proofs.Rowwise.{rows_sound}
use Rattle.if1_read.proofs.Same.{contains_here}
use Rattle.if1_read.proofs.Tablewise.{table_sound}
use Rattle.if1_read.proofs.Walking.{Lined, graph_lines}
use Rattle.if1_given.proofs.Clean.{AreLines, no_faults, no_second, lines_are, graphs_said}
use Rattle.if1_given.proofs.Counting.{AllNumbered, all_numbered}
use Rattle.if1_given.proofs.Runs.{Runs, not_deeper}
use Rattle.if1_given.proofs.Tables.{table_sound as sound_table, table_is, known, names_are, rules_are}
use Rattle.if1_given.proofs.Trees.{AllGiven, all_given}

none_among : (fs : List Fault) → ((f : Fault) → Contains fs f → ⊥) → fs ≡ []
none_among [] h = refl
none_among (f ∷ fs) h = absurd (h f (contains_here f fs))

one_left : (n : ℕ) → (1 < n → ⊥) → n ≤ 1
one_left zero h = omega arith
one_left (suc zero) h = omega arith
one_left (suc (suc n)) h = absurd (h (omega arith))

abbrev start : List Sheet
start = (None, 0) ∷ []

module _ (text : List ℕ) (clean : HasNoFault (rows_of text)) (closed : ¬ IsUnclosed (rows_of text)) where
  abbrev rows : List (Option Line)
  rows = rows_of text

  abbrev all : List Lined
  all = numbered 1 rows

  abbrev graphs_of : List Lined
  graphs_of = graph_lines all

  -- ---- lines

  lines : AreLines 1 0 rows
  lines = lines_are 1 0 rows (omega arith) (none_among (row_faults 1 0 rows) (λ f c. clean f.line f.kind (rows_sound rows f c)))

  reads : map line_of (lines_in text) ≡ map (λ l. Some l) lines.lines
  reads = rows_read (lines_in text) lines.lines lines.are lines.labelled

  spelled : All IsSpelled lines.lines
  spelled = spelled_lines (lines_in text) lines.lines reads

  said : said_by graphs_of ≡ filter is_of_graph lines.lines
  said = graphs_said all ∙ ap (filter is_of_graph) lines.said

  -- ---- what is known

  no_wrong_type : table_faults (types all) (typed all) ≡ []
  no_wrong_type =
      none_among (table_faults (types all) (typed all))
      (λ f c. let x = table_sound all f c in clean f.line f.kind (read x.before x.after f.line x.line f.kind x.is x.fault))

  abbrev k : Known
  k = known all no_wrong_type

  no_fault : all_faults (rules_of k) rows ≡ []
  no_fault = no_faults rows (rules_of k) (rules_are all no_wrong_type) clean

  runs : Runs (rules_of k) start graphs_of
  runs = record {
    clean =
        no_second (table_faults (types all) (typed all)) (run_faults (rules_of k) start graphs_of)
        (no_second (row_faults 1 0 rows) (table_faults (types all) (typed all) ++ run_faults (rules_of k) start graphs_of) no_fault);
    closed =
        one_left (length (sheets_after start graphs_of))
        (λ open_ones. closed (unclosed_named text (rules_of k) (rules_are all no_wrong_type) (ap least no_fault) open_ones));
    read = subst (All IsRead) (sym said) (lines_read lines.lines spelled);
  }

  -- ---- the unit

  given : AllGiven k (sound_table all no_wrong_type) (said_by graphs_of)
  given = all_given k (sound_table all no_wrong_type) graphs_of runs

  counted : AllNumbered given.graphs 1
  counted = all_numbered given.graphs 1

  abbrev the_unit : Unit1
  the_unit = record { types = k.table.types; imports = given.imports; graphs = counted.graphs }

  fits : Fits k the_unit
  fits = record {
    types = refl;
    names = given_named k (said_by graphs_of) given.imports counted.graphs (names_are all no_wrong_type) (given.made (named_unit k) (named_fits k) counted.graphs counted.like).gives;
  }

  of_lines : IsTableOf k.table (entries_in lines.lines)
  of_lines = subst (λ (ls : List Line). IsTableOf k.table (entries_in ls)) lines.said (table_is all no_wrong_type)

  lines_give : LinesGive lines.lines the_unit
  lines_give =
      let u = the_unit in
      let f = given.made u fits counted.graphs counted.like in
      let right = all_right u 200 counted.counted f.fine in
      record {
        types = of_lines.same;
        graphs = subst (λ (ls : List Line). GivesUnit u ls given.imports counted.graphs) said f.gives;
        nesting =
            omega (arith, not_deeper (rules_of k) 0 start graphs_of refl (omega arith) runs, ap (deepest 0) said, deepest_of_graphs 0 lines.lines);
        formed = record {
          types = table_right k.table lines.lines (sound_table all no_wrong_type) of_lines spelled (omega (arith, lines.few));
          imports = f.imports;
          nesting = λ i d h. graph_levels u 200 (get_or counted.graphs i d) (f.fine i d h).within;
          graphs = All-weaker (IsRight u) (IsGraph u) (formed_at u) (places u) right;
        };
        normal = All-weaker (IsRight u) (IsNormalGraph u) (normal_at u) (places u) right;
      }

  pub gives : (u : Unit1) × ReadsIf1 text u
  gives = (the_unit, record { lines = lines.lines; read = reads; give = lines_give })
