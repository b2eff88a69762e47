-- What is kept behind lines, and which fault is named.
use Rattle.std.proofs.Common.{◌≡◌, ℕ, List, [], ◌∷◌, ◌++◌, Option, Some, None, Result, Ok, Err, refl, sym, ap, subst, ◌∙◌, append_assoc, append-nil}
use Rattle.std.specs.Prelude.{IfOk}
use Rattle.std.specs.List.{flat_map}
use Rattle.if1_graph.specs.declared.line.Line.{Line}
use Rattle.if1_read.specs.declared.fault.Fault.{Fault}
use Rattle.if1_read.specs.declared.judge.Known.{Known}
use Rattle.if1_read.specs.declared.machine.Machine.{Machine}
use Rattle.if1_read.specs.Known.{IsTableSound}
use Rattle.if1_read.specs.Least.{earlier, least}
use Rattle.if1_read.specs.Pages.{Sheet, Rules, sheet_faults, line_faults, sheets_next, run_faults, sheets_after}
use Rattle.if1_read.specs.Rulings.{rules_of}
use Rattle.if1_read.specs.Sheets.{sheets_of, Turns}
use Rattle.if1_read.proofs.Firsts.{earlier_none, first_then}

-- the faults of lines, before their graphs end
abbrev pub lines_faults : Rules → List Sheet → List (ℕ × Line) → List Fault
lines_faults r ss [] = []
lines_faults r ss (l ∷ ls) = line_faults r l.0 l.1 ss ++ lines_faults r (sheets_next l.0 l.1 ss) ls

abbrev pub unit_sheet : List Sheet
unit_sheet = (None, 0) ∷ []

sheets_push : (ss : List Sheet) (ls : List (ℕ × Line)) (x : ℕ × Line) → sheets_after ss (ls ++ x ∷ []) ≡ sheets_next x.0 x.1 (sheets_after ss ls)
sheets_push ss [] x = refl
sheets_push ss (l ∷ ls) x = sheets_push (sheets_next l.0 l.1 ss) ls x

faults_push : (r : Rules) (ss : List Sheet) (ls : List (ℕ × Line)) (x : ℕ × Line) →
    lines_faults r ss (ls ++ x ∷ []) ≡ lines_faults r ss ls ++ line_faults r x.0 x.1 (sheets_after ss ls)
faults_push r ss [] x = append-nil (line_faults r x.0 x.1 ss)
faults_push r ss (l ∷ ls) x =
    ap (λ (fs : List Fault). line_faults r l.0 l.1 ss ++ fs) (faults_push r (sheets_next l.0 l.1 ss) ls x)
    ∙ sym (append_assoc (line_faults r l.0 l.1 ss) (lines_faults r (sheets_next l.0 l.1 ss) ls) (line_faults r x.0 x.1 (sheets_after (sheets_next l.0 l.1 ss) ls)))

-- the graphs end behind the lines
run_lines : (r : Rules) (ss : List Sheet) (ls : List (ℕ × Line)) → lines_faults r ss ls ++ flat_map (sheet_faults r) (sheets_after ss ls) ≡ run_faults r ss ls
run_lines r ss [] = refl
run_lines r ss (l ∷ ls) =
    append_assoc (line_faults r l.0 l.1 ss) (lines_faults r (sheets_next l.0 l.1 ss) ls) (flat_map (sheet_faults r) (sheets_after (sheets_next l.0 l.1 ss) ls))
    ∙ ap (λ (fs : List Fault). line_faults r l.0 l.1 ss ++ fs) (run_lines r (sheets_next l.0 l.1 ss) ls)

-- ---- the lines so far

pub record HasTurned (k : Known) (first : Option Fault) (m : Machine) (ls : List (ℕ × Line)) : Type 0 where
  pub sheets : sheets_of m ≡ sheets_after unit_sheet ls
  pub found : m.first ≡ earlier first (least (lines_faults (rules_of k) unit_sheet ls))

pub none_turned : (k : Known) (first : Option Fault) (m : Machine) → sheets_of m ≡ unit_sheet → m.first ≡ first → HasTurned k first m []
none_turned k first m sheets same = record { sheets = sheets; found = same ∙ sym (earlier_none first) }

pub more_turned : (k : Known) (first : Option Fault) (m n : Machine) (ls : List (ℕ × Line)) (x : ℕ × Line) → HasTurned k first m ls → Turns k m x.0 x.1 n →
    HasTurned k first n (ls ++ x ∷ [])
more_turned k first m n ls x h t =
    let r = rules_of k in
    let so_far = lines_faults r unit_sheet ls in
    record {
      sheets = t.sheets ∙ (ap (sheets_next x.0 x.1) h.sheets ∙ sym (sheets_push unit_sheet ls x));
      found =
          t.found ∙ ((λ i. earlier (h.found i) (least (line_faults r x.0 x.1 (h.sheets i)))) ∙ (first_then first so_far (line_faults r x.0 x.1 (sheets_after unit_sheet ls))
          ∙ ap (λ (fs : List Fault). earlier first (least fs)) (sym (faults_push r unit_sheet ls x))));
    }

pub all_turned : (k : Known) (first : Option Fault) (m : Machine) (ls : List (ℕ × Line)) → HasTurned k first m ls →
    earlier m.first (least (flat_map (sheet_faults (rules_of k)) (sheets_of m))) ≡ earlier first (least (run_faults (rules_of k) unit_sheet ls))
all_turned k first m ls h =
    let r = rules_of k in
    (λ i. earlier (h.found i) (least (flat_map (sheet_faults r) (h.sheets i))))
    ∙ (first_then first (lines_faults r unit_sheet ls) (flat_map (sheet_faults r) (sheets_after unit_sheet ls))
    ∙ ap (λ (fs : List Fault). earlier first (least fs)) (run_lines r unit_sheet ls))
