-- What is kept behind a line with which a graph or a node begins or ends, and which fault is named.
use Rattle.std.proofs.Common.{◌≡◌, ℕ, suc, Bool, List, [], ◌∷◌, ◌++◌, length, length-append, Option, Some, None, Result, Ok, Err, refl, sym, ap, ◌∙◌, append-nil, append_assoc, arith}
use Rattle.std.specs.Prelude.{IfOk}
use Rattle.if1_graph.specs.declared.line.Line.{Line}
use Rattle.if1_graph.specs.declared.line.Line.TheVariants as line
use Rattle.if1_read.specs.declared.fault.Kind.{Kind}
use Rattle.if1_read.specs.declared.fault.Kind.TheVariants.{Bad}
use Rattle.if1_read.specs.declared.fault.Fault.{Fault}
use Rattle.if1_read.specs.declared.judge.Known.{Known}
use Rattle.if1_read.specs.declared.part.Part.{Part}
use Rattle.if1_read.specs.declared.level.Level.{Level}
use Rattle.if1_read.specs.declared.machine.Machine.{Machine}
use Rattle.if1_read.specs.Known.{IsTableSound}
use Rattle.if1_read.specs.Least.{earlier, least, found, noted}
use Rattle.if1_read.specs.Pages.{Page, Sheet, Rules, no_lines, sheet_faults, wrong_count, too_deep, line_faults, sheets_next}
use Rattle.if1_read.specs.Rulings.{rules_of}
use Rattle.if1_read.specs.Sheets.{page_of, sheet_with, sheet_of, sheets_around, sheets_of, sheet_with_node, node_wrong, Turns}
use Rattle.if1_read.proofs.Turning.{around_last, around_count, around_none, close_next, close_faults, found_noted, then_noted, bad_turns}

-- ---- outside of compound nodes, and inside

module _ (r : Rules) (n : ℕ) (u : Sheet) where
  function_next : (exported : Bool) (fun : ℕ) (name : List ℕ) (ss : List Sheet) → ss ≡ [] →
      sheets_next n (line.Function exported fun name) (u ∷ ss) ≡ (Some no_lines, suc u.1) ∷ ss
  function_next exported fun name [] e = refl
  function_next exported fun name (s ∷ ss) e = absurd cc

  function_faults : (exported : Bool) (fun : ℕ) (name : List ℕ) (ss : List Sheet) → ss ≡ [] →
      line_faults r n (line.Function exported fun name) (u ∷ ss) ≡ sheet_faults r u ++ noted n (r.type_wrong fun)
  function_faults exported fun name [] e = refl
  function_faults exported fun name (s ∷ ss) e = absurd cc

  function_same : (exported : Bool) (fun : ℕ) (name : List ℕ) (ss : List Sheet) → ¬ (ss ≡ []) → sheets_next n (line.Function exported fun name) (u ∷ ss) ≡ u ∷ ss
  function_same exported fun name [] e = absurd (e refl)
  function_same exported fun name (s ∷ ss) e = refl

  function_bad : (exported : Bool) (fun : ℕ) (name : List ℕ) (ss : List Sheet) → ¬ (ss ≡ []) →
      line_faults r n (line.Function exported fun name) (u ∷ ss) ≡ noted n (Some Bad)
  function_bad exported fun name [] e = absurd (e refl)
  function_bad exported fun name (s ∷ ss) e = refl

  import_next : (ty : ℕ) (name : List ℕ) (ss : List Sheet) → ss ≡ [] → sheets_next n (line.Import ty name) (u ∷ ss) ≡ (None, u.1) ∷ ss
  import_next ty name [] e = refl
  import_next ty name (s ∷ ss) e = absurd cc

  import_faults : (ty : ℕ) (name : List ℕ) (ss : List Sheet) → ss ≡ [] →
      line_faults r n (line.Import ty name) (u ∷ ss) ≡ sheet_faults r u ++ noted n (r.import_wrong ty)
  import_faults ty name [] e = refl
  import_faults ty name (s ∷ ss) e = absurd cc

  import_same : (ty : ℕ) (name : List ℕ) (ss : List Sheet) → ¬ (ss ≡ []) → sheets_next n (line.Import ty name) (u ∷ ss) ≡ u ∷ ss
  import_same ty name [] e = absurd (e refl)
  import_same ty name (s ∷ ss) e = refl

  import_bad : (ty : ℕ) (name : List ℕ) (ss : List Sheet) → ¬ (ss ≡ []) → line_faults r n (line.Import ty name) (u ∷ ss) ≡ noted n (Some Bad)
  import_bad ty name [] e = absurd (e refl)
  import_bad ty name (s ∷ ss) e = refl

  part_next : (name : List ℕ) (ss : List Sheet) → ¬ (ss ≡ []) → sheets_next n (line.Subgraph name) (u ∷ ss) ≡ (Some no_lines, suc u.1) ∷ ss
  part_next name [] e = absurd (e refl)
  part_next name (s ∷ ss) e = refl

  part_faults : (name : List ℕ) (ss : List Sheet) → ¬ (ss ≡ []) → line_faults r n (line.Subgraph name) (u ∷ ss) ≡ sheet_faults r u
  part_faults name [] e = absurd (e refl)
  part_faults name (s ∷ ss) e = refl

-- ---- a graph begins

module _ (k : Known) (m : Machine) (n : ℕ) where
  abbrev pub here : Sheet
  here = sheet_of m.level

  abbrev pub around : List Sheet
  around = sheets_around m.outer.items

  abbrev pub here_faults : List Fault
  here_faults = sheet_faults (rules_of k) here

  inside : ¬ (m.outer.items ≡ []) → ¬ (around ≡ [])
  inside h e = h (around_none m.outer.items e)

  module _ (after : Machine) where
    -- out of place
    pub function_out : (exported : Bool) (fun : ℕ) (name : List ℕ) → ¬ (m.outer.items ≡ []) → sheets_of after ≡ sheets_of m →
        after.first ≡ earlier m.first (found n (Some Bad)) → Turns k m n (line.Function exported fun name) after
    function_out exported fun name h same first =
        bad_turns k m after n (line.Function exported fun name) same first (function_bad (rules_of k) n here exported fun name around (inside h))
        (function_same (rules_of k) n here exported fun name around (inside h))

    pub import_out : (ty : ℕ) (name : List ℕ) → ¬ (m.outer.items ≡ []) → sheets_of after ≡ sheets_of m →
        after.first ≡ earlier m.first (found n (Some Bad)) → Turns k m n (line.Import ty name) after
    import_out ty name h same first =
        bad_turns k m after n (line.Import ty name) same first (import_bad (rules_of k) n here ty name around (inside h))
        (import_same (rules_of k) n here ty name around (inside h))

    part_sheet : (p : Part) → page_of p ≡ no_lines → sheets_of after ≡ (Some (page_of p), suc here.1) ∷ around → sheets_of after ≡ (Some no_lines, suc here.1) ∷ around
    part_sheet p fresh next = next ∙ ap (λ (x : Page). (Some x, suc here.1) ∷ around) fresh

    pub function_turns : (exported : Bool) (fun : ℕ) (name : List ℕ) (p : Part) (wrong : Option Kind) → m.outer.items ≡ [] → page_of p ≡ no_lines →
        sheets_of after ≡ (Some (page_of p), suc here.1) ∷ around → wrong ≡ (rules_of k).type_wrong fun →
        after.first ≡ earlier m.first (least (here_faults ++ noted n wrong)) → Turns k m n (line.Function exported fun name) after
    function_turns exported fun name p wrong alone fresh next is first = record {
      sheets = part_sheet p fresh next ∙ sym (function_next (rules_of k) n here exported fun name around (ap sheets_around alone));
      found =
          first ∙ (ap (λ (o : Option Kind). earlier m.first (least (here_faults ++ noted n o))) is
          ∙ ap (λ (fs : List Fault). earlier m.first (least fs)) (sym (function_faults (rules_of k) n here exported fun name around (ap sheets_around alone))));
    }

    pub part_turns : (name : List ℕ) (p : Part) → ¬ (m.outer.items ≡ []) → page_of p ≡ no_lines →
        sheets_of after ≡ (Some (page_of p), suc here.1) ∷ around → after.first ≡ earlier m.first (least (here_faults ++ [])) → Turns k m n (line.Subgraph name) after
    part_turns name p h fresh next first = record {
      sheets = part_sheet p fresh next ∙ sym (part_next (rules_of k) n here name around (inside h));
      found =
          first ∙ (ap (λ (fs : List Fault). earlier m.first (least fs)) (append-nil here_faults)
          ∙ ap (λ (fs : List Fault). earlier m.first (least fs)) (sym (part_faults (rules_of k) n here name around (inside h))));
    }

    pub import_turns : (ty : ℕ) (name : List ℕ) (first : Option Fault) (wrong : Option Kind) → m.outer.items ≡ [] → after.outer.items ≡ m.outer.items →
        sheet_of after.level ≡ (None, here.1) → wrong ≡ (rules_of k).import_wrong ty → first ≡ earlier m.first (least here_faults) →
        after.first ≡ earlier first (found n wrong) → Turns k m n (line.Import ty name) after
    import_turns ty name first wrong alone outer level is before last = record {
      sheets = (λ i. level i ∷ sheets_around (outer i)) ∙ sym (import_next (rules_of k) n here ty name around (ap sheets_around alone));
      found =
          last ∙ ((λ i. earlier (before i) (found n (is i))) ∙ (then_noted m.first here_faults n ((rules_of k).import_wrong ty)
          ∙ ap (λ (fs : List Fault). earlier m.first (least fs)) (sym (import_faults (rules_of k) n here ty name around (ap sheets_around alone)))));
    }

    -- ---- a node begins and ends

    pub open_out : (rest : List ℕ) → m.level.part ≡ None → sheets_of after ≡ sheets_of m → after.first ≡ earlier m.first (found n (Some Bad)) →
        Turns k m n (line.Open rest) after
    open_out rest none same first =
        bad_turns k m after n (line.Open rest) same first
        (ap (λ (o : Option Part). line_faults (rules_of k) n (line.Open rest) (sheet_with m.level.graphs o ∷ around)) none)
        (ap (λ (o : Option Part). sheets_next n (line.Open rest) (sheet_with m.level.graphs o ∷ around)) none ∙ ap (λ (o : Option Part). sheet_with m.level.graphs o ∷ around) (sym none))

    pub open_turns : (rest : List ℕ) (p : Part) (wrong : Option Kind) (levels : ℕ) → m.level.part ≡ Some p → after.outer.items ≡ m.outer.items ++ m.level ∷ [] →
        sheet_of after.level ≡ (None, 0) → levels ≡ length after.outer.items → wrong ≡ too_deep levels → after.first ≡ earlier m.first (found n wrong) →
        Turns k m n (line.Open rest) after
    open_turns rest p wrong levels is outer level count w first =
        let count_is : levels ≡ suc (length around) = omega (arith, count, ap length outer, length-append m.outer.items (m.level ∷ []), around_count m.outer.items) in
        record {
          sheets =
              (λ i. level i ∷ sheets_around (outer i)) ∙ (ap (λ (ss : List Sheet). (None, 0) ∷ ss) (around_last m.outer.items m.level)
              ∙ (ap (λ (o : Option Part). (None, 0) ∷ sheet_with m.level.graphs o ∷ around) is
              ∙ ap (λ (o : Option Part). sheets_next n (line.Open rest) (sheet_with m.level.graphs o ∷ around)) (sym is)));
          found =
              first ∙ (ap (λ (o : Option Kind). earlier m.first (found n o)) (w ∙ ap too_deep count_is)
              ∙ (found_noted m.first n (too_deep (suc (length around))) (noted n (too_deep (suc (length around)))) refl
              ∙ ap (λ (o : Option Part). earlier m.first (least (line_faults (rules_of k) n (line.Open rest) (sheet_with m.level.graphs o ∷ around)))) (sym is)));
        }

    pub close_out : (label op count : ℕ) (assoc before name : List ℕ) → m.outer.items ≡ [] → sheets_of after ≡ sheets_of m →
        after.first ≡ earlier m.first (found n (Some Bad)) → Turns k m n (line.Close label op count assoc before name) after
    close_out label op count assoc before name none same first =
        let l = line.Close label op count assoc before name in
        bad_turns k m after n l same first
        (ap (λ (ls : List Level). line_faults (rules_of k) n l (here ∷ sheets_around ls)) none)
        (ap (λ (ls : List Level). sheets_next n l (here ∷ sheets_around ls)) none ∙ ap (λ (ls : List Level). here ∷ sheets_around ls) (sym none))

    pub close_turns : (label op count : ℕ) (assoc before name : List ℕ) (o : Level) (graphs : ℕ) (one two : Option Fault) (wrong : Option Kind) →
        m.outer.items ≡ after.outer.items ++ o ∷ [] → graphs ≡ here.1 → one ≡ earlier m.first (least here_faults) → two ≡ earlier one (found n (wrong_count count graphs)) →
        sheet_of after.level ≡ sheet_with_node n (label, op) (sheet_of o) → wrong ≡ node_wrong op (sheet_of o) → after.first ≡ earlier two (found n wrong) →
        Turns k m n (line.Close label op count assoc before name) after
    close_turns label op count assoc before name o graphs one two wrong outer counted first second level is last =
        let l = line.Close label op count assoc before name in
        let a = sheet_of o in
        let ss = sheets_around after.outer.items in
        let stack : around ≡ a ∷ ss = ap sheets_around outer ∙ around_last after.outer.items o in
        let counts = noted n (wrong_count count here.1) in
        let nodes = noted n (node_wrong op a) in
        record {
          sheets =
              ap (λ (s : Sheet). s ∷ ss) level ∙ (sym (close_next n label op count assoc before name here a ss)
              ∙ ap (λ (xs : List Sheet). sheets_next n l (here ∷ xs)) (sym stack));
          found =
              last ∙ ((λ i. earlier (second i) (found n (is i))) ∙ ((λ i. earlier (earlier (first i) (found n (wrong_count count (counted i)))) (found n (node_wrong op a)))
              ∙ (ap (λ (x : Option Fault). earlier x (found n (node_wrong op a))) (then_noted m.first here_faults n (wrong_count count here.1))
              ∙ (then_noted m.first (here_faults ++ counts) n (node_wrong op a)
              ∙ (ap (λ (fs : List Fault). earlier m.first (least fs)) (append_assoc here_faults counts nodes ∙ sym (close_faults (rules_of k) n label op count assoc before name here a ss))
              ∙ ap (λ (xs : List Sheet). earlier m.first (least (line_faults (rules_of k) n l (here ∷ xs)))) (sym stack))))));
        }

-- where the part begins, if at all
pub part_said : {E : Type 0} (k : Known) (m : Machine) (n : ℕ) (p : Part) (r : Result Machine E) (name : List ℕ) → ¬ (m.outer.items ≡ []) → page_of p ≡ no_lines →
    IfOk r (λ after. sheets_of after ≡ (Some (page_of p), suc (sheet_of m.level).1) ∷ sheets_around m.outer.items) →
    IfOk r (λ after. IsTableSound k.table → after.first ≡ earlier m.first (least (sheet_faults (rules_of k) (sheet_of m.level) ++ []))) →
    IfOk r (λ after. IsTableSound k.table → Turns k m n (line.Subgraph name) after)
part_said k m n p (Ok after) name h fresh next first = λ sound. part_turns k m n after name p h fresh next (first sound)
part_said k m n p (Err e) name h fresh next first = tt
