-- The fault that is named is the first one.
use Rattle.std.proofs.Common.{◌≡◌, ℕ, suc, ◌+◌, ◌<◌, ◌≤◌, Bool, true, false, cond, List, [], ◌∷◌, ◌++◌, length, Option, Some, None, ◌⊎◌, inl, inr, refl, sym, ap, subst, ◌∙◌, arith, true≢false}
use Rattle.std.specs.Prelude.{Contains, filter}
use Rattle.std.proofs.lemmas.List.Elements.{Contains-append_left, Contains-append_right, Contains-append_cases}
use Rattle.if1_graph.specs.declared.line.Line.{Line}
use Rattle.if1_graph.specs.declared.line.Line.TheVariants as line
use Rattle.if1_graph.specs.Formed.{most}
use Rattle.if1_graph.specs.Reads.{is_of_graph}
use Rattle.if1_read.specs.declared.fault.Kind.{Kind}
use Rattle.if1_read.specs.declared.fault.Kind.TheVariants.{Bad, Unknown, Real, TooMany}
use Rattle.if1_read.specs.declared.fault.Fault.{Fault}
use Rattle.if1_read.specs.Faults.{numbered, functions, types, layers, is_placed, rank, IsFault, misplaced, miscounted, type_again, node_again, wrong_literal, no_opcode, no_type, no_import_type, no_part, real_type, too_many_types, too_many_nodes, too_deep, FaultAt, unread, unclosing, read, NamesFault, HasNoFault}
use Rattle.if1_read.specs.Least.{least}
use Rattle.if1_read.specs.Pages.{Rules, Sheet, line_faults, sheets_next, run_faults}
use Rattle.if1_read.specs.Rows.{row_faults, typed, table_faults, all_faults}
use Rattle.if1_read.specs.Ruled.{AreRules}
use Rattle.if1_read.proofs.Walking.{Lined, of_graph, graph_lines}
use Rattle.if1_read.proofs.Same.{contains_none}
use Rattle.if1_read.proofs.Accepted.{Rises, flat, rise}
use Rattle.if1_read.proofs.Splits.{node_of_graph, type_of_graph, others_placed}
use Rattle.if1_read.proofs.Fitting.{IsFound}
use Rattle.if1_read.proofs.Finding.{all_found}
use Rattle.if1_read.proofs.Covered.{covered}
use Rattle.if1_read.proofs.Firsts.{NotAfter, not_after, least_none, least_is}
use Rattle.if1_read.proofs.Rowwise.{rows_sound, unread_found, unclosing_found, row_of, many_found}
use Rattle.if1_read.proofs.Tablewise.{table_sound, again_has, wrong_has}

-- ---- numbers

abbrev Rising : ℕ → List Lined → Type 0
Rising lo ls = (hi : ℕ) × Rises lo ls hi

rises_lower : (m k : ℕ) (ls : List Lined) (hi : ℕ) → m ≤ k → Rises k ls hi → Rising m ls
rises_lower m k ls hi le (flat n) = (m, flat m)
rises_lower m k ls hi le (rise {hi = h2} {ls = rest} lo n l lt r) = (h2, rise m n l (omega (arith, le, lt)) r)

rows_rise : (n : ℕ) (rows : List (Option Line)) → Rising n (numbered (suc n) rows)
rows_rise n [] = (n, flat n)
rows_rise n (None ∷ rows) = let r = rows_rise (suc n) rows in rises_lower n (suc n) (numbered (suc (suc n)) rows) r.0 (omega arith) r.1
rows_rise n (Some l ∷ rows) = let r = rows_rise (suc n) rows in (r.0, rise n (suc n) l (omega arith) r.1)

-- ---- lines that say nothing of graphs

faultless : (r : Rules) (n : ℕ) (l : Line) (ss : List Sheet) → is_of_graph l ≡ false → (line_faults r n l ss ≡ []) × (sheets_next n l ss ≡ ss)
faultless r n line.Blank ss e = (refl, refl)
faultless r n (line.Entry label code first second name) ss e = (refl, refl)
faultless r n _ ss e = absurd (true≢false e)

run_if : (b : Bool) (r : Rules) (x : Lined) (ss : List Sheet) (ls : List Lined) → of_graph x ≡ b →
    run_faults r ss (cond b (x ∷ ls) ls) ≡ line_faults r x.0 x.1 ss ++ run_faults r (sheets_next x.0 x.1 ss) ls
run_if true r x ss ls e = refl
run_if false r x ss ls e =
    let t = faultless r x.0 x.1 ss e in
    ap (λ fs. fs ++ run_faults r ss ls) (sym t.0) ∙ ap (λ ts. line_faults r x.0 x.1 ss ++ run_faults r ts ls) (sym t.1)

pub run_kept : (r : Rules) (ss : List Sheet) (ls : List Lined) → run_faults r ss (graph_lines ls) ≡ run_faults r ss ls
run_kept r ss [] = refl
run_kept r ss (x ∷ ls) =
    run_if (of_graph x) r x ss (graph_lines ls) refl ∙ ap (λ fs. line_faults r x.0 x.1 ss ++ fs) (run_kept r (sheets_next x.0 x.1 ss) ls)

abbrev start : List Sheet
start = (None, 0) ∷ []

module _ (rows : List (Option Line)) (r : Rules) (rules : AreRules (types (numbered 1 rows)) (functions (numbered 1 rows)) r) where
  abbrev all : List Lined
  all = numbered 1 rows

  abbrev tabled : List Fault
  tabled = table_faults (types all) (typed all)

  abbrev run : List Fault
  run = run_faults r start (graph_lines all)

  at_row : (f : Fault) → IsFound all f → FaultAt rows f.line f.kind
  at_row f x = read x.before x.after f.line x.line f.kind x.is x.fault

  sound : (f : Fault) → Contains (all_faults r rows) f → FaultAt rows f.line f.kind
  sound f c = elim (Contains-append_cases (row_faults 1 0 rows) (tabled ++ run) f c) [
    | inl d ↦ rows_sound rows f d
    | inr d ↦ elim (Contains-append_cases tabled run f d) [
      | inl e ↦ at_row f (table_sound all f e)
      | inr e ↦ let up = rows_rise 0 rows in at_row f (all_found all r rules up.0 up.1 f (subst (λ (fs : List Fault). Contains fs f) (run_kept r start all) e))
    ]
  ]

  record IsIn (n : ℕ) (k : Kind) : Type 0 where
    kind : Kind
    low : rank kind ≤ rank k
    among : Contains (all_faults r rows) (record { line = n; kind = kind })

  in_rows : (n : ℕ) (k : Kind) → Contains (row_faults 1 0 rows) (record { line = n; kind = k }) → IsIn n k
  in_rows n k c = record { kind = k; low = omega arith; among = Contains-append_left (row_faults 1 0 rows) (tabled ++ run) (record { line = n; kind = k }) c }

  in_table : (n : ℕ) (j k : Kind) → rank j ≤ rank k → Contains tabled (record { line = n; kind = j }) → IsIn n k
  in_table n j k le c = record {
    kind = j;
    low = le;
    among = Contains-append_right (row_faults 1 0 rows) (tabled ++ run) (record { line = n; kind = j }) (Contains-append_left tabled run (record { line = n; kind = j }) c);
  }

  in_run : (before : List Lined) (n : ℕ) (l : Line) (after : List Lined) (k : Kind) → all ≡ before ++ (n, l) ∷ after → is_of_graph l ≡ true → IsFault all before l k → IsIn n k
  in_run before n l after k is g f =
      let up = rows_rise 0 rows in
      let x = covered all r rules up.0 up.1 before n l after k is g f in
      let e : Fault = record { line = n; kind = x.kind } in
      record {
        kind = x.kind;
        low = x.low;
        among = Contains-append_right (row_faults 1 0 rows) (tabled ++ run) e
            (Contains-append_right tabled run e (subst (λ (fs : List Fault). Contains fs e) (sym (run_kept r start all)) x.found));
      }

  out_of_place : (before : List Lined) (n : ℕ) (l : Line) (after : List Lined) → all ≡ before ++ (n, l) ∷ after →
      is_placed l (layers before) ≡ false → (b : Bool) → is_of_graph l ≡ b → IsIn n Bad
  out_of_place before n l after is e true g = in_run before n l after Bad is g (misplaced e)
  out_of_place before n l after is e false g = absurd (true≢false (sym (others_placed l (layers before) g) ∙ e))

  at_line : (before : List Lined) (n : ℕ) (l : Line) (after : List Lined) (k : Kind) → all ≡ before ++ (n, l) ∷ after → IsFault all before l k → IsIn n k
  at_line before n l after k is (misplaced e) = out_of_place before n l after is e (is_of_graph l) refl
  at_line before n l after k is (miscounted ne) = in_run before n l after Bad is refl (miscounted ne)
  at_line before n l after k is (type_again {label = label} {code = code} {first = first} {second = second} {name = name} c) =
      in_table n Bad Bad (omega arith)
      (again_has all before n l after is (record { label = label; code = code; first = first; second = second; name = name }) refl c)
  at_line before n l after k is (node_again {n = x} e c) = in_run before n l after Bad is (node_of_graph l x e) (node_again e c)
  at_line before n l after k is (wrong_literal found free wrong) = in_run before n l after k is refl (wrong_literal found free wrong)
  at_line before n l after k is (no_opcode {n = x} e none) = in_run before n l after Unknown is (node_of_graph l x e) (no_opcode e none)
  at_line before n l after k is (no_type {ty = ty} e none) = in_run before n l after Unknown is (type_of_graph l ty e) (no_type e none)
  at_line before n l after k is (no_import_type none) = in_run before n l after Unknown is refl (no_import_type none)
  at_line before n l after k is (no_part {label = label} {code = code} {first = first} {second = second} {name = name} none) =
      let t = wrong_has all before n l after is (record { label = label; code = code; first = first; second = second; name = name }) refl none in
      in_table n t.kind Unknown t.low t.found
  at_line before n l after k is (real_type {ty = ty} e real) = in_run before n l after Real is (type_of_graph l ty e) (real_type e real)
  at_line before n l after k is (too_many_types {label = label} {code = code} {first = first} {second = second} {name = name} many) =
      let x = line.Entry label code first second name in
      let w = row_of 1 rows before n x after is in
      in_rows n TooMany
      (subst (λ (rs : List (Option Line)). Contains (row_faults 1 0 rs) (record { line = n; kind = TooMany })) (sym w.is)
      (many_found w.front w.back 1 0 n label code first second name (sym w.number) (omega (arith, many, ap (λ (ls : List Lined). length (types ls)) w.lines))))
  at_line before n l after k is (too_many_nodes {n = x} e many) = in_run before n l after TooMany is (node_of_graph l x e) (too_many_nodes e many)
  at_line before n l after k is (too_deep deep) = in_run before n l after TooMany is refl (too_deep deep)

  complete : (n : ℕ) (k : Kind) → FaultAt rows n k → IsIn n k
  complete n k (unread before after e) =
      in_rows (suc (length before)) Bad
      (subst (λ (rs : List (Option Line)). Contains (row_faults 1 0 rs) (record { line = suc (length before); kind = Bad })) (sym e)
      (unread_found before after 1 0 (suc (length before)) (omega arith)))
  complete n k (unclosing before after l u e) =
      in_rows (suc (length before)) Bad
      (subst (λ (rs : List (Option Line)). Contains (row_faults 1 0 rs) (record { line = suc (length before); kind = Bad })) (sym e)
      (unclosing_found before after l 1 0 (suc (length before)) u (omega arith)))
  complete n k (read before after m l j e f) = at_line before m l after j e f

  -- ---- the first one

  pub none_named : least (all_faults r rows) ≡ None → HasNoFault rows
  none_named e n k f =
      let x = complete n k f in
      let empty = least_none (all_faults r rows) e in
      contains_none (record { line = n; kind = x.kind }) (subst (λ (fs : List Fault). Contains fs (record { line = n; kind = x.kind })) empty x.among)

  pub some_named : (f : Fault) → least (all_faults r rows) ≡ Some f → NamesFault rows f.line f.kind
  some_named f e =
      let x = least_is (all_faults r rows) f e in
      record {
        fault = sound f x.among;
        first = λ m j g.
            let y = complete m j g in
            elim (x.first (record { line = m; kind = y.kind }) y.among) [ inl lt ↦ inl lt | inr t ↦ inr (t.0, omega (arith, t.1, y.low)) ];
      }
