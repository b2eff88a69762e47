-- Why a text is refused, by what its lines have given.
use Rattle.std.proofs.Common.{◌≡◌, ℕ, suc, ◌<◌, List, [], ◌∷◌, map, reverse, length, Option, Some, None, Result, Ok, Err, IsErrAnd, IfErr, bytes_eq, refl, sym, ap, subst, ◌∙◌, arith}
use Rattle.std.specs.List.{list_any}
use Rattle.std.proofs.lemmas.List.{length-map, length-reverse}
use Rattle.if1_graph.specs.declared.line.Line.{Line}
use Rattle.if1_graph.specs.declared.fault.If1Fault.{If1Fault}
use Rattle.if1_graph.specs.declared.fault.If1Fault.TheVariants as refusal
use Rattle.if1_graph.specs.declared.graph.TypeEntry.{TypeEntry}
use Rattle.if1_graph.specs.Types.{entry_at}
use Rattle.if1_read.specs.declared.fault.Fault.{Fault}
use Rattle.if1_read.specs.declared.judge.Known.{Known}
use Rattle.if1_read.specs.declared.level.Level.{Level}
use Rattle.if1_read.specs.declared.machine.Machine.{Machine}
use Rattle.if1_read.specs.declared.read.Sorted.{Sorted}
use Rattle.if1_read.specs.Entries.{entries_of}
use Rattle.if1_read.specs.Faults.{numbered, functions, types, rows_of, IsFaultOf}
use Rattle.if1_read.specs.Least.{earlier, least}
use Rattle.if1_read.specs.Pages.{Sheet, sheets_after, run_faults}
use Rattle.if1_read.specs.Putting.{AreSortedOut}
use Rattle.if1_read.specs.Rows.{row_faults, typed, table_faults, all_faults}
use Rattle.if1_read.specs.Ruled.{AreRules}
use Rattle.if1_read.specs.Rulings.{rules_of}
use Rattle.if1_read.specs.Sheets.{sheet_of, sheets_around, sheets_of}
use Rattle.if1_read.specs.Sorting.{has_name}
use Rattle.if1_read.specs.Stands.{lines_of}
use Rattle.if1_read.specs.Whole.{named_at_end, IsRefused, fault, unclosed, no_memory}
use Rattle.if1_read.proofs.Walking.{Lined, graph_lines}
use Rattle.if1_read.proofs.Spots.{names_right}
use Rattle.if1_read.proofs.Tablewise.{types_typed}
use Rattle.if1_read.proofs.Ruling.{rulings}
use Rattle.if1_read.proofs.Refusing.{rules_moved, all_first, fault_named, unclosed_named}

abbrev pub start : List Sheet
start = (None, 0) ∷ []

-- what is known when the lines of a text have ended
pub record IsAtEnd (text : List ℕ) (k : Known) (s : Sorted) (named : Option Fault) (m : Machine) : Type 0 where
  pub sorted : AreSortedOut (rows_of text) s
  pub table : named ≡ earlier s.first (least (table_faults (entries_of s.entries.items) s.entries.items))
  pub entry : (l : ℕ) → entry_at k.table.types l ≡ entry_at (entries_of s.entries.items) l
  pub rules : AreRules k.table.types k.names (rules_of k)
  pub names : (t : List ℕ) → list_any (λ n. bytes_eq n t) k.names ≡ has_name t (lines_of s.lines.items)
  pub sheets : sheets_of m ≡ sheets_after start s.lines.items
  pub found : named_at_end k m ≡ earlier named (least (run_faults (rules_of k) start s.lines.items))

module _ (text : List ℕ) (k : Known) (s : Sorted) (named : Option Fault) (m : Machine) (h : IsAtEnd text k s named m) where
  abbrev all : List Lined
  all = numbered 1 (rows_of text)

  entries : entries_of s.entries.items ≡ types all
  entries = ap entries_of h.sorted.entries ∙ sym (types_typed all)

  rules : AreRules (types all) (functions all) (rules_of k)
  rules =
      rules_moved k.table.types (types all) k.names (functions all) (rules_of k) (λ l. h.entry l ∙ ap (λ (es : List TypeEntry). entry_at es l) entries)
      (λ t. h.names t ∙ (ap (λ (ls : List Lined). has_name t (lines_of ls)) h.sorted.lines ∙ names_right t all)) h.rules

  first_of_all : named_at_end k m ≡ least (all_faults (rules_of k) (rows_of text))
  first_of_all =
      let r = rules_of k in
      let before : named ≡ earlier (least (row_faults 1 0 (rows_of text))) (least (table_faults (types all) (typed all))) =
      h.table
      ∙ (ap (λ (o : Option Fault). earlier o (least (table_faults (entries_of s.entries.items) s.entries.items))) h.sorted.first
      ∙ (ap (λ (ts : List TypeEntry). earlier (least (row_faults 1 0 (rows_of text))) (least (table_faults ts s.entries.items))) entries
      ∙ ap (λ es. earlier (least (row_faults 1 0 (rows_of text))) (least (table_faults (types all) es))) h.sorted.entries)) in
      h.found
      ∙ (ap (λ (o : Option Fault). earlier o (least (run_faults r start s.lines.items))) before
      ∙ (ap (λ ls. earlier (earlier (least (row_faults 1 0 (rows_of text))) (least (table_faults (types all) (typed all)))) (least (run_faults r start ls))) h.sorted.lines
      ∙ all_first (row_faults 1 0 (rows_of text)) (table_faults (types all) (typed all)) (run_faults r start (graph_lines all))))

  some_open : (ls : List Level) → (ls ≡ [] → ⊥) → 0 < length ls
  some_open [] ne = absurd (ne refl)
  some_open (l ∷ ls) ne = omega arith

  deep : (m.outer.items ≡ [] → ⊥) → 1 < length (sheets_after start (graph_lines all))
  deep ne =
      let count : length (sheets_around m.outer.items) ≡ length m.outer.items = length-map (reverse m.outer.items) sheet_of ∙ length-reverse m.outer.items in
      let same : length (sheets_of m) ≡ length (sheets_after start (graph_lines all)) = ap length (h.sheets ∙ ap (sheets_after start) h.sorted.lines) in
      omega (arith, some_open m.outer.items ne, count, same)

  pub refused : (e : If1Fault) → IsRefused k m e → IsFaultOf text e
  refused e (fault f is) = fault_named text (rules_of k) rules f (sym first_of_all ∙ is)
  refused e (unclosed none ne) = unclosed_named text (rules_of k) rules (sym first_of_all ∙ none) (deep ne)
  refused e no_memory = tt

-- ---- results

pub given_up : {A : Type 0} (P : If1Fault → Type 0) (r : Result A If1Fault) → IsErrAnd r (λ e. e ≡ refusal.NoMemory) → P refusal.NoMemory → IfErr r P
given_up P (Ok a) h p = tt
given_up P (Err e) h p = subst P (sym h) p
