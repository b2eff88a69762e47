-- Each fault of a line of graphs is found, or one of the same line and of no greater number: all lines.
use Rattle.std.proofs.Common.{◌≡◌, ℕ, suc, ◌<◌, ◌≤◌, Bool, true, false, List, [], ◌∷◌, ◌++◌, map, length, Option, Some, None, ◌⊎◌, inl, inr, refl, sym, ap, subst, ◌∙◌, arith, append_assoc, append-nil, true≢false}
use Rattle.std.specs.Prelude.{Contains}
use Rattle.std.proofs.lemmas.List.{length-map}
use Rattle.std.proofs.lemmas.List.Elements.{Contains-append_left, Contains-append_right}
use Rattle.if1_graph.specs.declared.line.Line.{Line}
use Rattle.if1_graph.specs.declared.line.Line.TheVariants as line
use Rattle.if1_graph.specs.Units.{most_levels}
use Rattle.if1_graph.specs.Reads.{is_of_graph}
use Rattle.if1_read.specs.declared.fault.Kind.{Kind}
use Rattle.if1_read.specs.declared.fault.Kind.TheVariants.{Bad, Unknown, Real, TooMany}
use Rattle.if1_read.specs.declared.fault.Fault.{Fault}
use Rattle.if1_read.specs.Faults.{Layer, next, layers, layers_from, unit_alone, is_placed, graphs_in, home, own, node_on, type_on, nodes_of, functions, types, rank, IsFault, misplaced, miscounted, type_again, node_again, wrong_literal, no_opcode, no_type, no_import_type, no_part, real_type, too_many_types, too_many_nodes, too_deep as deep_fault}
use Rattle.if1_read.specs.Least.{noted}
use Rattle.if1_read.specs.Pages.{Lit, lit_on, Page, Sheet, Rules, again, wrong_lits, page_faults, sheet_faults, wrong_node, wrong_count, too_deep, line_faults, sheets_next, run_faults}
use Rattle.if1_read.specs.Ruled.{IsLitWrong, AreRules}
use Rattle.if1_read.proofs.Walking.{Lined}
use Rattle.if1_read.proofs.Same.{contains_here, contains_none}
use Rattle.if1_read.proofs.Accepted.{Rises, flat, rise}
use Rattle.if1_read.proofs.Splits.{contains_middle}
use Rattle.if1_read.proofs.Lining.{lined, lined_told, lined_middle, own_mine}
use Rattle.if1_read.proofs.Keeping.{Mark, layer_of, sheet_of, layers_of, sheets_of, marks_next, sheets_keep, Falls, around_tail, IsPage, ArePages}
use Rattle.if1_read.proofs.Kept.{Keeps, keeps_next, first_marks, keeps_none}
use Rattle.if1_read.proofs.Repeats.{noted_has, labels, repeated, lit_wrongly}
use Rattle.if1_read.proofs.Fitting.{map_twice, nodes_so_far}
use Rattle.if1_read.proofs.Ended.{final, ends, of_marks}
use Rattle.if1_read.proofs.Covering.{at_line, misplaced_noted, NodeLine, node_line, TypeLine, type_line, LitLine, lit_line, Lower, unknown_node, many_nodes, other_count, deep_level, missing_type, real_type_is, missing_import, IsNoted}

module _ (all : List Lined) (r : Rules) (rules : AreRules (types all) (functions all) r) where
  -- a fault of its graph, found when that ends
  record IsLate (n : ℕ) (ms : List Mark) (j : Kind) : Type 0 where
    page : ℕ × Page
    count : ℕ
    among : Contains ms (Some page, count)
    fault : Contains (page_faults r (final all r page.0)) (at_line n j)

  late_node : (done : List Lined) (n : ℕ) (l : Line) (rest : List Lined) → all ≡ done ++ (n, l) ∷ rest → (g : ℕ) → home l (layers done) ≡ Some g → (x : ℕ × ℕ) → node_on l ≡ Some x →
      Contains (map (λ m. m.0) (nodes_of (home l (layers done)) done)) x.0 → Contains (page_faults r (final all r g)) (at_line n Bad)
  late_node done n l rest is g h x e c =
      let p = final all r g in
      let front = lined (own node_on g) unit_alone done in
      let back = lined (own node_on g) (next n l (layers done)) rest in
      let whole : p.nodes ≡ front ++ (n, x) ∷ back =
      ap (lined (own node_on g) unit_alone) is ∙ lined_middle (own node_on g) unit_alone done n l rest x (own_mine node_on g l (layers done) h ∙ e) in
      let names : map (λ m. m.0) (nodes_of (home l (layers done)) done) ≡ labels (λ (n : ℕ × ℕ). n.0) front =
      ap (λ o. map (λ m. m.0) (nodes_of o done)) h
      ∙ (ap (map (λ (m : ℕ × ℕ). m.0)) (sym (lined_told (own node_on g) unit_alone done)) ∙ sym (map_twice (λ (n : ℕ × ℕ). n.0) (λ (n : ℕ × (ℕ × ℕ)). n.1) front)) in
      let among : Contains (labels (λ (n : ℕ × ℕ). n.0) front) x.0 = subst (λ (ls : List ℕ). Contains ls x.0) names c in
      Contains-append_left (again (λ n. n.0) [] p.nodes) (wrong_lits r (map (λ n. n.1) p.nodes) p.lits) (at_line n Bad)
      (subst (λ (ns : List (ℕ × (ℕ × ℕ))). Contains (again (λ n. n.0) [] ns) (at_line n Bad)) (sym whole) (repeated (λ (n : ℕ × ℕ). n.0) front (n, x) back [] (inr among)))

  late_lit : (done : List Lined) (n : ℕ) (l : Line) (rest : List Lined) → all ≡ done ++ (n, l) ∷ rest → (g : ℕ) → home l (layers done) ≡ Some g → (a : Lit) → lit_on l ≡ Some a →
      (j : Kind) → IsLitWrong (types all) (functions all) (nodes_of (home l (layers done)) all) a j → Contains (page_faults r (final all r g)) (at_line n j)
  late_lit done n l rest is g h a e j w =
      let p = final all r g in
      let front = lined (own lit_on g) unit_alone done in
      let back = lined (own lit_on g) (next n l (layers done)) rest in
      let whole : p.lits ≡ front ++ (n, a) ∷ back =
      ap (lined (own lit_on g) unit_alone) is ∙ lined_middle (own lit_on g) unit_alone done n l rest a (own_mine lit_on g l (layers done) h ∙ e) in
      let nodes : nodes_of (home l (layers done)) all ≡ map (λ n. n.1) p.nodes = ap (λ o. nodes_of o all) h ∙ sym (lined_told (own node_on g) unit_alone all) in
      let wrong = rules.lits_all (map (λ n. n.1) p.nodes) a j (subst (λ (ns : List (ℕ × ℕ)). IsLitWrong (types all) (functions all) ns a j) nodes w) in
      let there : Contains p.lits (n, a) = subst (λ (xs : List (ℕ × Lit)). Contains xs (n, a)) (sym whole) (contains_middle front (n, a) back) in
      Contains-append_right (again (λ n. n.0) [] p.nodes) (wrong_lits r (map (λ n. n.1) p.nodes) p.lits) (at_line n j)
      (lit_wrongly r (map (λ n. n.1) p.nodes) p.lits (n, a) j there wrong)

  module _ (done : List Lined) (ms : List Mark) (m n : ℕ) (k : Keeps done ms m) where
    abbrev Found : Line → Kind → Type 0
    Found l j = IsNoted r n l ms j ⊎ IsLate n ms j

    -- a line that is out of place
    bad : (l : Line) (j : Kind) → is_placed l (layers_of ms) ≡ false → Found l j
    bad l j e = inl (record { kind = Bad; low = least_rank j; noted = misplaced_noted r (suc m) n l ms k.falls e })
      where
        least_rank : (j : Kind) → rank Bad ≤ rank j
        least_rank Bad = omega arith
        least_rank Unknown = omega arith
        least_rank Real = omega arith
        least_rank TooMany = omega arith

    so_far : (l : Line) (x : ℕ × Page) (c : ℕ) → Contains ms (Some x, c) → home l (layers_of ms) ≡ Some x.0 → length x.1.nodes ≡ length (nodes_of (home l (layers done)) done)
    so_far l x c h e =
        let p = of_marks all r ms done k.pages x c h in
        let at : home l (layers done) ≡ Some x.0 = sym (ap (home l) k.layers_are) ∙ e in
        sym (length-map x.1.nodes (λ (n : ℕ × (ℕ × ℕ)). n.1)) ∙ ap length (nodes_so_far done x p ∙ ap (λ o. nodes_of o done) (sym at))

    of_node : (l : Line) (op : ℕ) (j : Kind) → NodeLine r n l ms op → ((before : ℕ) → before ≡ length (nodes_of (home l (layers done)) done) → Lower (wrong_node op before) j) → Found l j
    of_node l op j x h =
        let w = h (length x.page.1.nodes) (so_far l x.page x.count x.among x.place) in
        inl (record { kind = w.kind; low = w.low; noted = x.finds (at_line n w.kind) (noted_has n (wrong_node op (length x.page.1.nodes)) w.kind w.is) })

    of_type : (l : Line) (ty : ℕ) (j : Kind) → type_on l ≡ Some ty → r.type_wrong ty ≡ Some j → Found l j
    of_type l ty j e w = elim (type_line r (suc m) n l ms k.falls ty e) [
      | inl b ↦ bad l j b
      | inr f ↦ inl (record { kind = j; low = omega arith; noted = f (at_line n j) (noted_has n (r.type_wrong ty) j w) })
    ]

    close_found : (label op count : ℕ) (assoc before name : List ℕ) (ps : List Mark) → ms ≡ ps → Falls (suc m) ps → layers_of ps ≡ layers done → (count ≡ graphs_in (layers done) → ⊥) →
        Found (line.Close label op count assoc before name) Bad
    close_found label op count assoc before name [] shape low is ne = absurd low
    close_found label op count assoc before name (u ∷ []) shape low is ne =
        let l = line.Close label op count assoc before name in
        bad l Bad (ap (λ (qs : List Mark). is_placed l (layers_of qs)) shape)
    close_found label op count assoc before name (a ∷ (None, c) ∷ ps) shape low is ne = absurd (around_tail (suc m) a.0 a.1 ((None, c) ∷ ps) low)
    close_found label op count assoc before name (a ∷ (Some x, c) ∷ ps) shape low is ne =
        let l = line.Close label op count assoc before name in
        let wrong = other_count count a.1 (λ e. ne (e ∙ ap graphs_in is)) in
        let here : Contains (line_faults r n l (sheets_of (a ∷ (Some x, c) ∷ ps))) (at_line n Bad) =
        Contains-append_right (sheet_faults r (sheet_of a)) (noted n (wrong_count count a.1) ++ noted n (wrong_node op (length x.1.nodes))) (at_line n Bad)
        (Contains-append_left (noted n (wrong_count count a.1)) (noted n (wrong_node op (length x.1.nodes))) (at_line n Bad) (noted_has n (wrong_count count a.1) Bad wrong)) in
        inl (record { kind = Bad; low = omega arith; noted = subst (λ (qs : List Mark). Contains (line_faults r n l (sheets_of qs)) (at_line n Bad)) (sym shape) here })

    import_found : (ty : ℕ) (name : List ℕ) (ps : List Mark) → ms ≡ ps → Falls (suc m) ps → r.import_wrong ty ≡ Some Unknown → Found (line.Import ty name) Unknown
    import_found ty name [] shape low w = absurd low
    import_found ty name (u ∷ []) shape low w =
        let l = line.Import ty name in
        let here : Contains (line_faults r n l (sheets_of (u ∷ []))) (at_line n Unknown) =
        Contains-append_right (sheet_faults r (sheet_of u)) (noted n (r.import_wrong ty)) (at_line n Unknown) (noted_has n (r.import_wrong ty) Unknown w) in
        inl (record { kind = Unknown; low = omega arith; noted = subst (λ (qs : List Mark). Contains (line_faults r n l (sheets_of qs)) (at_line n Unknown)) (sym shape) here })
    import_found ty name (a ∷ b ∷ ps) shape low w = let l = line.Import ty name in bad l Unknown (ap (λ (qs : List Mark). is_placed l (layers_of qs)) shape)

    deep_found : (rest : List ℕ) (ps : List Mark) → ms ≡ ps → Falls (suc m) ps → layers_of ps ≡ layers done → most_levels < length (layers done) → Found (line.Open rest) TooMany
    deep_found rest [] shape low is h = absurd low
    deep_found rest ((None, c) ∷ ps) shape low is h = let l = line.Open rest in bad l TooMany (ap (λ (qs : List Mark). is_placed l (layers_of qs)) shape)
    deep_found rest ((Some x, c) ∷ ps) shape low is h =
        let l = line.Open rest in
        let count : suc (length (sheets_of ps)) ≡ length (layers done) = ap suc (length-map ps sheet_of ∙ sym (length-map ps layer_of)) ∙ ap length is in
        let here : Contains (line_faults r n l (sheets_of ((Some x, c) ∷ ps))) (at_line n TooMany) =
        noted_has n (too_deep (suc (length (sheets_of ps)))) TooMany (deep_level (suc (length (sheets_of ps))) (omega (arith, h, count))) in
        inl (record { kind = TooMany; low = omega arith; noted = subst (λ (qs : List Mark). Contains (line_faults r n l (sheets_of qs)) (at_line n TooMany)) (sym shape) here })

    placed_back : (l : Line) → is_placed l (layers done) ≡ false → is_placed l (layers_of ms) ≡ false
    placed_back l e = ap (is_placed l) k.layers_are ∙ e

    home_there : (l : Line) (x : ℕ × Page) → home l (layers_of ms) ≡ Some x.0 → home l (layers done) ≡ Some x.0
    home_there l x e = sym (ap (home l) k.layers_are) ∙ e

    found_or_late : (l : Line) (rest : List Lined) → all ≡ done ++ (n, l) ∷ rest → (j : Kind) → is_of_graph l ≡ true → IsFault all done l j → Found l j
    found_or_late l rest is j g (misplaced e) = bad l Bad (placed_back l e)
    found_or_late l rest is j g (miscounted {label = label} {op = op} {count = count} {assoc = assoc} {lasts = lasts} {name = name} ne) =
        close_found label op count assoc lasts name ms refl k.falls k.layers_are ne
    found_or_late l rest is j g (type_again c) = absurd (true≢false (sym g))
    found_or_late l rest is j g (node_again {n = x} e c) = elim (node_line r (suc m) n l ms k.falls x e) [
      | inl b ↦ bad l Bad b
      | inr y ↦ inr (record { page = y.page; count = y.count; among = y.among; fault = late_node done n l rest is y.page.0 (home_there l y.page y.place) x e c })
    ]
    found_or_late l rest is j g (wrong_literal {node = node} {port = port} {ty = ty} {text = text} {name = name} {e = e} found free wrong) =
        elim (lit_line (suc m) ms k.falls node port ty text name) [
          | inl b ↦ bad l j b
          | inr y ↦ inr (record {
            page = y.page;
            count = y.count;
            among = y.among;
            fault = late_lit done n l rest is y.page.0 (home_there l y.page y.place) (record { node = node; port = port; ty = ty; text = text }) refl j
                (record { entry = e; found = found; free = free; wrong = wrong });
          })
        ]
    found_or_late l rest is j g (no_opcode {n = x} e none) = elim (node_line r (suc m) n l ms k.falls x e) [
      | inl b ↦ bad l Unknown b
      | inr y ↦ of_node l x.1 Unknown y (λ before s. record { kind = Unknown; is = unknown_node x.1 before none; low = omega arith })
    ]
    found_or_late l rest is j g (no_type {ty = ty} e none) = of_type l ty Unknown e (missing_type (types all) ty (r.type_wrong ty) (rules.on_types ty) none)
    found_or_late l rest is j g (no_import_type {ty = ty} {name = name} none) =
        import_found ty name ms refl k.falls (missing_import (types all) ty (r.import_wrong ty) (rules.on_imports ty) none)
    found_or_late l rest is j g (no_part none) = absurd (true≢false (sym g))
    found_or_late l rest is j g (real_type {ty = ty} e real) = of_type l ty Real e (real_type_is (types all) ty (r.type_wrong ty) (rules.on_types ty) real)
    found_or_late l rest is j g (too_many_types many) = absurd (true≢false (sym g))
    found_or_late l rest is j g (too_many_nodes {n = x} e many) = elim (node_line r (suc m) n l ms k.falls x e) [
      | inl b ↦ bad l TooMany b
      | inr y ↦ of_node l x.1 TooMany y (λ before s. many_nodes x.1 before (omega (arith, s, many)))
    ]
    found_or_late l rest is j g (deep_fault {rest = text} h) = deep_found text ms refl k.falls k.layers_are h

  -- ---- all lines

  abbrev marks_from : List Mark → List Lined → List Mark
  marks_from ms [] = ms
  marks_from ms (x ∷ xs) = marks_from (marks_next x.0 x.1 ms) xs

  record Comes (done : List Lined) (ms : List Mark) (before rest : List Lined) (hi : ℕ) : Type 0 where
    last : ℕ
    keeps : Keeps (done ++ before) (marks_from ms before) last
    rises : Rises last rest hi

  comes : (before : List Lined) (done : List Lined) (ms : List Mark) (m : ℕ) (rest : List Lined) (hi : ℕ) → Keeps done ms m → Rises m (before ++ rest) hi → Comes done ms before rest hi
  comes [] done ms m rest hi k up =
      record { last = m; keeps = subst (λ (xs : List Lined). Keeps xs ms m) (sym (append-nil done)) k; rises = up }
  comes (x ∷ before) done ms m rest hi k up =
      let v = step m x (before ++ rest) hi up in
      let t = comes before (done ++ x ∷ []) (marks_next x.0 x.1 ms) x.0 rest hi (keeps_next done ms m x.0 x.1 k v.0) v.1 in
      record {
        last = t.last;
        keeps = subst (λ (xs : List Lined). Keeps xs (marks_from (marks_next x.0 x.1 ms) before) t.last) (append_assoc done (x ∷ []) before) t.keeps;
        rises = t.rises;
      }
    where
      step : (m : ℕ) (x : Lined) (xs : List Lined) (hi : ℕ) → Rises m (x ∷ xs) hi → (m < x.0) × Rises x.0 xs hi
      step m x xs hi (rise {hi = h2} {ls = ls} lo n l lt up) = (lt, up)

  carried : (before : List Lined) (ms : List Mark) (rest : List Lined) (f : Fault) → Contains (run_faults r (sheets_of (marks_from ms before)) rest) f →
      Contains (run_faults r (sheets_of ms) (before ++ rest)) f
  carried [] ms rest f c = c
  carried (x ∷ before) ms rest f c =
      Contains-append_right (line_faults r x.0 x.1 (sheets_of ms)) (run_faults r (sheets_next x.0 x.1 (sheets_of ms)) (before ++ rest)) f
      (subst (λ (ss : List Sheet). Contains (run_faults r ss (before ++ rest)) f) (sheets_keep x.0 x.1 ms) (carried before (marks_next x.0 x.1 ms) rest f c))

  pub record IsCovered (n : ℕ) (j : Kind) : Type 0 where
    pub kind : Kind
    pub low : rank kind ≤ rank j
    pub found : Contains (run_faults r ((None, 0) ∷ []) all) (at_line n kind)

  pub covered : (hi : ℕ) → Rises 0 all hi → (before : List Lined) (n : ℕ) (l : Line) (after : List Lined) (j : Kind) → all ≡ before ++ (n, l) ∷ after → is_of_graph l ≡ true →
      IsFault all before l j → IsCovered n j
  covered hi up before n l after j is g f =
      let rest = (n, l) ∷ after in
      let here = comes before [] first_marks 0 rest hi keeps_none (subst (λ (xs : List Lined). Rises 0 xs hi) is up) in
      let ms = marks_from first_marks before in
      let back = λ (f : Fault) (c : Contains (run_faults r (sheets_of ms) rest) f). subst (λ (xs : List Lined). Contains (run_faults r ((None, 0) ∷ []) xs) f) (sym is) (carried before first_marks rest f c) in
      elim (found_or_late before ms here.last n here.keeps l after is j g f) [
        | inl x ↦ record {
          kind = x.kind;
          low = x.low;
          found = back (at_line n x.kind)
              (Contains-append_left (line_faults r n l (sheets_of ms)) (run_faults r (sheets_next n l (sheets_of ms)) after) (at_line n x.kind) x.noted);
        }
        | inr x ↦ record {
          kind = j;
          low = omega arith;
          found = back (at_line n j) (ends all r before ms here.last rest hi here.keeps here.rises is x.page x.count x.among (at_line n j) x.fault);
        }
      ]
