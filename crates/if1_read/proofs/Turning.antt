-- What is kept behind a line, and which fault is named.
use Rattle.std.proofs.Common.{◌≡◌, ℕ, zero, suc, Bool, List, [], ◌∷◌, ◌++◌, map, reverse, length, length-append, Option, Some, None, refl, sym, ap, ◌∙◌, append-nil, arith}
use Rattle.std.proofs.lemmas.List.{reverse-append, length-reverse, length-map, nil_from_length}
use Rattle.if1_graph.specs.declared.line.Line.{Line}
use Rattle.if1_graph.specs.declared.line.Line.TheVariants as line
use Rattle.if1_graph.specs.declared.graph.Edge.{Edge}
use Rattle.if1_graph.specs.declared.graph.Origin.{Origin}
use Rattle.if1_graph.specs.declared.graph.Origin.TheVariants.{Port, Lit}
use Rattle.if1_graph.specs.Lines.{edge_line, origin_line}
use Rattle.if1_read.specs.declared.fault.Kind.{Kind}
use Rattle.if1_read.specs.declared.fault.Kind.TheVariants.{Bad}
use Rattle.if1_read.specs.declared.fault.Fault.{Fault}
use Rattle.if1_read.specs.declared.judge.Known.{Known}
use Rattle.if1_read.specs.declared.level.Level.{Level}
use Rattle.if1_read.specs.declared.machine.Machine.{Machine}
use Rattle.if1_read.specs.Least.{earlier, least, found, noted}
use Rattle.if1_read.specs.Pages.{Sheet, Rules, no_lines, sheet_faults, wrong_count, too_deep, line_faults, sheets_next}
use Rattle.if1_read.specs.Rulings.{rules_of}
use Rattle.if1_read.specs.Sheets.{sheet_of, sheets_around, sheets_of, lit_from, lit_of, sheet_with_node, node_wrong, sheet_with_edge, edge_wrong, Turns}
use Rattle.if1_read.proofs.Firsts.{earlier_none, least_noted, least_append, first_then}

-- ---- levels around

pub around_last : (ls : List Level) (l : Level) → sheets_around (ls ++ l ∷ []) ≡ sheet_of l ∷ sheets_around ls
around_last ls l = ap (map sheet_of) (reverse-append ls (l ∷ []))

pub around_count : (ls : List Level) → length (sheets_around ls) ≡ length ls
around_count ls = length-map (reverse ls) sheet_of ∙ length-reverse ls

pub around_none : (ls : List Level) → sheets_around ls ≡ [] → ls ≡ []
around_none ls e = nil_from_length ls (sym (around_count ls) ∙ ap length e)

-- ---- of one kind of line

node_next : (n label op : ℕ) (before name : List ℕ) (s : Sheet) (ss : List Sheet) →
    sheets_next n (line.Node label op before name) (s ∷ ss) ≡ sheet_with_node n (label, op) s ∷ ss
node_next n label op before name (None, count) ss = refl
node_next n label op before name (Some p, count) ss = refl

node_faults : (r : Rules) (n label op : ℕ) (before name : List ℕ) (s : Sheet) (ss : List Sheet) →
    line_faults r n (line.Node label op before name) (s ∷ ss) ≡ noted n (node_wrong op s)
node_faults r n label op before name (None, count) ss = refl
node_faults r n label op before name (Some p, count) ss = refl

edge_next : (n : ℕ) (e : Edge) (o : Origin) (s : Sheet) (ss : List Sheet) → sheets_next n (origin_line e o) (s ∷ ss) ≡ sheet_with_edge n (lit_from e o) s ∷ ss
edge_next n e (Port from out) (None, count) ss = refl
edge_next n e (Port from out) (Some p, count) ss = refl
edge_next n e (Lit text) (None, count) ss = refl
edge_next n e (Lit text) (Some p, count) ss = refl

edge_faults : (r : Rules) (n : ℕ) (e : Edge) (o : Origin) (s : Sheet) (ss : List Sheet) →
    line_faults r n (origin_line e o) (s ∷ ss) ≡ noted n (edge_wrong r e.ty s)
edge_faults r n e (Port from out) (None, count) ss = refl
edge_faults r n e (Port from out) (Some p, count) ss = refl
edge_faults r n e (Lit text) (None, count) ss = refl
edge_faults r n e (Lit text) (Some p, count) ss = refl

pub close_next : (n label op count : ℕ) (assoc before name : List ℕ) (here s : Sheet) (ss : List Sheet) →
    sheets_next n (line.Close label op count assoc before name) (here ∷ s ∷ ss) ≡ sheet_with_node n (label, op) s ∷ ss
close_next n label op count assoc before name here (None, graphs) ss = refl
close_next n label op count assoc before name here (Some p, graphs) ss = refl

pub close_faults : (r : Rules) (n label op count : ℕ) (assoc before name : List ℕ) (here s : Sheet) (ss : List Sheet) →
    line_faults r n (line.Close label op count assoc before name) (here ∷ s ∷ ss)
    ≡ sheet_faults r here ++ (noted n (wrong_count count here.1) ++ noted n (node_wrong op s))
close_faults r n label op count assoc before name here (None, graphs) ss = refl
close_faults r n label op count assoc before name here (Some p, graphs) ss = refl

-- ---- what is found

pub found_noted : (first : Option Fault) (n : ℕ) (o : Option Kind) (fs : List Fault) → fs ≡ noted n o → earlier first (found n o) ≡ earlier first (least fs)
found_noted first n o fs same = ap (earlier first) (sym (least_noted n o) ∙ sym (ap least same))

-- one more behind others
pub then_noted : (first : Option Fault) (fs : List Fault) (n : ℕ) (o : Option Kind) → earlier (earlier first (least fs)) (found n o) ≡ earlier first (least (fs ++ noted n o))
then_noted first fs n o = ap (earlier (earlier first (least fs))) (sym (least_noted n o)) ∙ first_then first fs (noted n o)

pub graph_then : (first one last : Option Fault) (fs : List Fault) (n : ℕ) (o : Option Kind) → one ≡ earlier first (least fs) → last ≡ earlier one (found n o) →
    last ≡ earlier first (least (fs ++ noted n o))
graph_then first one last fs n o before is = is ∙ (ap (λ (x : Option Fault). earlier x (found n o)) before ∙ then_noted first fs n o)

module _ (k : Known) (m after : Machine) (n : ℕ) where
  -- a line that says nothing
  pub nothing_turns : (l : Line) → after ≡ m → sheets_next n l (sheets_of m) ≡ sheets_of m → line_faults (rules_of k) n l (sheets_of m) ≡ [] → Turns k m n l after
  nothing_turns l same next none = record {
    sheets = ap sheets_of same ∙ sym next;
    found = ap (λ (x : Machine). x.first) same ∙ (sym (earlier_none m.first) ∙ ap (λ (fs : List Fault). earlier m.first (least fs)) (sym none));
  }

  -- one that is out of place
  pub bad_turns : (l : Line) → sheets_of after ≡ sheets_of m → after.first ≡ earlier m.first (found n (Some Bad)) →
      line_faults (rules_of k) n l (sheets_of m) ≡ noted n (Some Bad) → sheets_next n l (sheets_of m) ≡ sheets_of m → Turns k m n l after
  bad_turns l same first bad next = record { sheets = same ∙ sym next; found = first ∙ found_noted m.first n (Some Bad) (line_faults (rules_of k) n l (sheets_of m)) bad }

  -- one that changes the innermost level
  here_turns : (l : Line) (s : Sheet) (wrong said : Option Kind) → after.outer.items ≡ m.outer.items → sheet_of after.level ≡ s →
      sheets_next n l (sheets_of m) ≡ s ∷ sheets_around m.outer.items → wrong ≡ said → after.first ≡ earlier m.first (found n wrong) →
      line_faults (rules_of k) n l (sheets_of m) ≡ noted n said → Turns k m n l after
  here_turns l s wrong said outer level next is first faults = record {
    sheets = (λ i. level i ∷ sheets_around (outer i)) ∙ sym next;
    found =
        first ∙ (ap (λ (o : Option Kind). earlier m.first (found n o)) is ∙ found_noted m.first n said (line_faults (rules_of k) n l (sheets_of m)) faults);
  }

  pub node_turns : (label op : ℕ) (before name : List ℕ) (wrong : Option Kind) → after.outer.items ≡ m.outer.items →
      sheet_of after.level ≡ sheet_with_node n (label, op) (sheet_of m.level) → wrong ≡ node_wrong op (sheet_of m.level) →
      after.first ≡ earlier m.first (found n wrong) → Turns k m n (line.Node label op before name) after
  node_turns label op before name wrong outer level is first =
      here_turns (line.Node label op before name) (sheet_with_node n (label, op) (sheet_of m.level)) wrong (node_wrong op (sheet_of m.level)) outer level
      (node_next n label op before name (sheet_of m.level) (sheets_around m.outer.items)) is first
      (node_faults (rules_of k) n label op before name (sheet_of m.level) (sheets_around m.outer.items))

  pub edge_turns : (e : Edge) (wrong : Option Kind) → after.outer.items ≡ m.outer.items →
      sheet_of after.level ≡ sheet_with_edge n (lit_of e) (sheet_of m.level) → wrong ≡ edge_wrong (rules_of k) e.ty (sheet_of m.level) →
      after.first ≡ earlier m.first (found n wrong) → Turns k m n (edge_line e) after
  edge_turns e wrong outer level is first =
      here_turns (edge_line e) (sheet_with_edge n (lit_of e) (sheet_of m.level)) wrong (edge_wrong (rules_of k) e.ty (sheet_of m.level)) outer level
      (edge_next n e e.from (sheet_of m.level) (sheets_around m.outer.items)) is first
      (edge_faults (rules_of k) n e e.from (sheet_of m.level) (sheets_around m.outer.items))
