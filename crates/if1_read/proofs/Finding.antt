-- Each fault that is found is one.
use Rattle.std.proofs.Common.{◌≡◌, ℕ, suc, ◌<◌, ◌≤◌, Bool, true, false, ◌||◌, List, [], ◌∷◌, ◌++◌, map, length, Option, Some, None, IsSome, inl, inr, if◌then◌else◌, refl, sym, ap, subst, ◌∙◌, arith, append_assoc, append-nil, true≢false}
use Rattle.std.specs.Prelude.{Contains, is_some, nat_le, nat_lt, ◌==◌}
use Rattle.std.specs.List.{flat_map}
use Rattle.std.proofs.lemmas.Bool.{ltb-true, leb-true, eq-eqb}
use Rattle.std.proofs.lemmas.List.{length-map}
use Rattle.std.proofs.lemmas.List.Elements.{Contains-append_cases}
use Rattle.if1_graph.specs.declared.line.Line.{Line}
use Rattle.if1_graph.specs.declared.line.Line.TheVariants as line
use Rattle.if1_graph.specs.declared.graph.TypeEntry.{TypeEntry}
use Rattle.if1_graph.specs.Ops.{simple_at, compound_at}
use Rattle.if1_graph.specs.Units.{most_levels}
use Rattle.if1_graph.specs.Formed.{IsOpcode, most}
use Rattle.if1_read.specs.declared.fault.Kind.{Kind}
use Rattle.if1_read.specs.declared.fault.Kind.TheVariants.{Bad, Unknown, Real, TooMany}
use Rattle.if1_read.specs.declared.fault.Fault.{Fault}
use Rattle.if1_read.specs.Faults.{Layer, next, layers, unit_alone, is_placed, graphs_in, home, told, own, node_on, type_on, nodes_of, functions, types, IsFault, misplaced, miscounted, no_opcode, no_type, no_import_type, real_type, too_many_nodes, too_deep as deep_fault}
use Rattle.if1_read.specs.Least.{noted}
use Rattle.if1_read.specs.Pages.{Page, Sheet, Rules, page_faults, sheet_faults, wrong_node, wrong_count, too_deep, line_faults, sheets_next, run_faults}
use Rattle.if1_read.specs.Ruled.{TypeSays, ImportSays, AreRules}
use Rattle.if1_read.proofs.Walking.{Lined, layers_append}
use Rattle.if1_read.proofs.Same.{contains_none}
use Rattle.if1_read.proofs.Accepted.{Rises, flat, rise}
use Rattle.if1_read.proofs.Lining.{Free, NoNumber, not_before}
use Rattle.if1_read.proofs.Keeping.{Mark, layer_of, sheet_of, layers_of, sheets_of, marks_next, sheets_keep, Around, Falls, around_tail, IsPage, ArePages, pages_tail}
use Rattle.if1_read.proofs.Kept.{Keeps, keeps_next, first_marks, keeps_none}
use Rattle.if1_read.proofs.Repeats.{noted_is}
use Rattle.if1_read.proofs.Fitting.{IsFound, nodes_so_far, page_found, ended_by}

-- ---- what is said of a node, of a count and of a depth

-- a node of this opcode behind so many
abbrev pub NodeSays : ℕ → ℕ → Kind → Type 0
NodeSays op before Unknown = ¬ IsOpcode op
NodeSays op before TooMany = most ≤ before
NodeSays op before _ = ⊥

neither : (a b : Bool) → (a || b) ≡ false → (a ≡ true → ⊥) × (b ≡ true → ⊥)
neither true b e = absurd cc
neither false true e = absurd cc
neither false false e = (λ h. cc, λ h. cc)

node_if : (b c : Bool) (op before : ℕ) (k : Kind) → (is_some (simple_at op) || is_some (compound_at op)) ≡ b → nat_le most before ≡ c →
    (if b then (if c then Some TooMany else None) else Some Unknown) ≡ Some k → NodeSays op before k
node_if true true op before k e f h = let same : TooMany ≡ k = cc in subst (NodeSays op before) same (leb-true most before f)
node_if true false op before k e f h = absurd cc
node_if false c op before k e f h =
    let same : Unknown ≡ k = cc in
    let no2 = neither (is_some (simple_at op)) (is_some (compound_at op)) e in
    let none : ¬ IsOpcode op = λ i. elim i [ inl a ↦ no2.0 a | inr b ↦ no2.1 b ] in
    subst (NodeSays op before) same none

pub node_says : (op before : ℕ) (k : Kind) → wrong_node op before ≡ Some k → NodeSays op before k
node_says op before k h = node_if (is_some (simple_at op) || is_some (compound_at op)) (nat_le most before) op before k refl refl h

count_if : (b : Bool) (count graphs : ℕ) (k : Kind) → (count == graphs) ≡ b → (if b then None else Some Bad) ≡ Some k → (Bad ≡ k) × (count ≡ graphs → ⊥)
count_if true count graphs k e h = absurd cc
count_if false count graphs k e h = (cc, λ s. true≢false (sym (eq-eqb count graphs s) ∙ e))

deep_if : (b : Bool) (levels : ℕ) (k : Kind) → nat_lt most_levels levels ≡ b → (if b then Some TooMany else None) ≡ Some k → (TooMany ≡ k) × (most_levels < levels)
deep_if true levels k e h = (cc, ltb-true most_levels levels e)
deep_if false levels k e h = absurd cc

free_around : (m g : ℕ) (ms : List Mark) → m ≤ g → Around m ms → Free g (layers_of ms)
free_around m g [] le h = tt
free_around m g ((None, c) ∷ ms) le h = absurd h
free_around m g ((Some x, c) ∷ ms) le h = (λ e. absurd (omega (arith, e, le, h.0)), free_around x.0 g ms (omega (arith, le, h.0)) h.1)

type_fault : (all done : List Lined) (l : Line) (ty : ℕ) → type_on l ≡ Some ty → (o : Option Kind) → TypeSays (types all) ty o → (j : Kind) → o ≡ Some j → IsFault all done l j
type_fault all done l ty e None says j s = absurd cc
type_fault all done l ty e (Some Unknown) says j s = let same : Unknown ≡ j = cc in subst (IsFault all done l) same (no_type e says)
type_fault all done l ty e (Some Real) says j s = let same : Real ≡ j = cc in subst (IsFault all done l) same (real_type e says)
type_fault all done l ty e (Some _) says j s = absurd says

import_fault : (all done : List Lined) (ty : ℕ) (name : List ℕ) → (o : Option Kind) → ImportSays (types all) ty o → (j : Kind) → o ≡ Some j → IsFault all done (line.Import ty name) j
import_fault all done ty name None says j s = absurd cc
import_fault all done ty name (Some Unknown) says j s = let same : Unknown ≡ j = cc in subst (IsFault all done (line.Import ty name)) same (no_import_type says)
import_fault all done ty name (Some _) says j s = absurd says

node_fault : (all done : List Lined) (l : Line) (label op : ℕ) → node_on l ≡ Some (label, op) → (j : Kind) → NodeSays op (length (nodes_of (home l (layers done)) done)) j → IsFault all done l j
node_fault all done l label op e Unknown says = no_opcode e says
node_fault all done l label op e TooMany says = too_many_nodes e says
node_fault all done l label op e _ says = absurd says

pub some_same : (g h : ℕ) → Some g ≡ Some h → g ≡ h
some_same g h e = cc

pub id_low : (m : ℕ) (o : Option (ℕ × Page)) (c : ℕ) (ms : List Mark) → Falls m ((o, c) ∷ ms) → (x : ℕ × Page) → o ≡ Some x → x.0 < m
id_low m None c ms low x e = absurd cc
id_low m (Some y) c ms low x e = let same : y ≡ x = cc in subst (λ (z : ℕ × Page). z.0 < m) same low.0

-- the ids around the innermost level are others
pub below_here : (m : ℕ) (o : Option (ℕ × Page)) (c : ℕ) (ms : List Mark) → Falls m ((o, c) ∷ ms) → (x : ℕ × Page) → o ≡ Some x → Free x.0 (layers_of ms)
below_here m None c ms low x e = absurd cc
below_here m (Some y) c ms low x e = let same : y ≡ x = cc in subst (λ (z : ℕ × Page). Free z.0 (layers_of ms)) same (free_around y.0 y.0 ms (omega arith) low.1)

module _ (all : List Lined) (r : Rules) (rules : AreRules (types all) (functions all) r) where
  -- ---- a line behind those that are done

  module _ (done : List Lined) (ms : List Mark) (m n : ℕ) (l : Line) (rest : List Lined) (hi : ℕ) (k : Keeps done ms m) (lt : m < n) (is : all ≡ done ++ (n, l) ∷ rest) (up : Rises n rest hi) where
    here : (f : Fault) → f.line ≡ n → IsFault all done l f.kind → IsFound all f
    here f e w = record { before = done; line = l; after = rest; is = is ∙ ap (λ (x : ℕ). done ++ (x, l) ∷ rest) (sym e); fault = w }

    noted_found : (o : Option Kind) → ((j : Kind) → o ≡ Some j → IsFault all done l j) → (f : Fault) → Contains (noted n o) f → IsFound all f
    noted_found o h f c = let t = noted_is n o f c in here f t.1 (h f.kind t.0)

    bad_found : is_placed l (layers_of ms) ≡ false → (f : Fault) → Contains (noted n (Some Bad)) f → IsFound all f
    bad_found e f c =
        noted_found (Some Bad)
        (λ j s. let same : Bad ≡ j = cc in subst (IsFault all done l) same (misplaced (sym (ap (is_placed l) k.layers_are) ∙ e))) f c

    type_found : (ty : ℕ) → type_on l ≡ Some ty → (f : Fault) → Contains (noted n (r.type_wrong ty)) f → IsFound all f
    type_found ty e f c = noted_found (r.type_wrong ty) (λ j s. type_fault all done l ty e (r.type_wrong ty) (rules.on_types ty) j s) f c

    node_found : (label op : ℕ) (x : ℕ × Page) → IsPage done x → node_on l ≡ Some (label, op) → home l (layers_of ms) ≡ Some x.0 →
        (f : Fault) → Contains (noted n (wrong_node op (length x.1.nodes))) f → IsFound all f
    node_found label op x p e h f c =
        let at : home l (layers done) ≡ Some x.0 = sym (ap (home l) k.layers_are) ∙ h in
        let count : length x.1.nodes ≡ length (nodes_of (home l (layers done)) done) =
        sym (length-map x.1.nodes (λ (n : ℕ × (ℕ × ℕ)). n.1)) ∙ ap length (nodes_so_far done x p ∙ ap (λ o. nodes_of o done) (sym at)) in
        noted_found (wrong_node op (length x.1.nodes))
        (λ j s. node_fault all done l label op e j (subst (λ (b : ℕ). NodeSays op b j) count (node_says op (length x.1.nodes) j s))) f c

    -- the graph of the innermost level, which ends
    sheet_found : (o : Option (ℕ × Page)) (c : ℕ) (ps : List Mark) → ms ≡ (o, c) ∷ ps → ((x : ℕ × Page) → o ≡ Some x → (home l (layers_of ms) ≡ Some x.0 → ⊥) × Free x.0 (next n l (layers_of ms))) →
        (f : Fault) → Contains (sheet_faults r (sheet_of (o, c))) f → IsFound all f
    sheet_found None c ps shape ends f d = absurd (contains_none f d)
    sheet_found (Some x) c ps shape ends f d =
        let pages : ArePages done ((Some x, c) ∷ ps) = subst (ArePages done) shape k.pages in
        let falls : Falls (suc m) ((Some x, c) ∷ ps) = subst (Falls (suc m)) shape k.falls in
        let e = ends x refl in
        let apart = λ (h : home l (layers done) ≡ Some x.0). e.0 (ap (home l) k.layers_are ∙ h) in
        let free : Free x.0 (next n l (layers done)) = subst (λ (os : List Layer). Free x.0 (next n l os)) k.layers_are e.1 in
        let closed = ended_by x.0 n l (layers done) rest apart free (not_before x.0 n rest hi (omega (arith, lt, falls.0)) up) in
        page_found all r rules done ((n, l) ∷ rest) is x pages.0 closed f d

  -- ---- by the line

  line_found : (done : List Lined) (ms : List Mark) (m n : ℕ) (l : Line) (rest : List Lined) (hi : ℕ) → Keeps done ms m → m < n → all ≡ done ++ (n, l) ∷ rest → Rises n rest hi →
      (f : Fault) → Contains (line_faults r n l (sheets_of ms)) f → IsFound all f
  line_found done ms m n line.Blank rest hi k lt is up f c = absurd (contains_none f c)
  line_found done ms m n (line.Entry label code first second name) rest hi k lt is up f c = absurd (contains_none f c)
  line_found done (u ∷ []) m n (line.Function exported fun name) rest hi k lt is up f c =
      let l = line.Function exported fun name in
      elim (Contains-append_cases (sheet_faults r (sheet_of u)) (noted n (r.type_wrong fun)) f c) [
        | inl d ↦ sheet_found done (u ∷ []) m n l rest hi k lt is up u.0 u.1 [] refl (λ x e. (λ h. absurd cc, (λ s. absurd (omega (arith, s, lt, id_low (suc m) u.0 u.1 [] k.falls x e)), tt))) f d
        | inr d ↦ type_found done (u ∷ []) m n l rest hi k lt is up fun refl f d
      ]
  line_found done (u ∷ []) m n (line.Import ty name) rest hi k lt is up f c =
      let l = line.Import ty name in
      elim (Contains-append_cases (sheet_faults r (sheet_of u)) (noted n (r.import_wrong ty)) f c) [
        | inl d ↦ sheet_found done (u ∷ []) m n l rest hi k lt is up u.0 u.1 [] refl (λ x e. (λ h. absurd cc, tt)) f d
        | inr d ↦ noted_found done (u ∷ []) m n l rest hi k lt is up (r.import_wrong ty) (λ j s. import_fault all done ty name (r.import_wrong ty) (rules.on_imports ty) j s) f d
      ]
  line_found done (a ∷ b ∷ ms) m n (line.Subgraph name) rest hi k lt is up f c =
      sheet_found done (a ∷ b ∷ ms) m n (line.Subgraph name) rest hi k lt is up a.0 a.1 (b ∷ ms) refl
      (λ x e. (λ h. absurd cc, (λ s. absurd (omega (arith, s, lt, id_low (suc m) a.0 a.1 (b ∷ ms) k.falls x e)), below_here (suc m) a.0 a.1 (b ∷ ms) k.falls x e))) f c
  line_found done ((Some x, count) ∷ ms) m n (line.Open rest2) rest hi k lt is up f c =
      noted_found done ((Some x, count) ∷ ms) m n (line.Open rest2) rest hi k lt is up (too_deep (suc (length (sheets_of ms))))
      (λ j s.
      let t = deep_if (nat_lt most_levels (suc (length (sheets_of ms)))) (suc (length (sheets_of ms))) j refl s in
      let count2 : suc (length (sheets_of ms)) ≡ length (layers done) =
      ap suc (length-map ms sheet_of ∙ sym (length-map ms layer_of)) ∙ ap length k.layers_are in
      subst (IsFault all done (line.Open rest2)) t.0 (deep_fault (omega (arith, t.1, count2)))) f c
  line_found done (a ∷ (Some x, graphs) ∷ ms) m n (line.Close label op count assoc before name) rest hi k lt is up f c =
      let l = line.Close label op count assoc before name in
      let all_marks : List Mark = a ∷ (Some x, graphs) ∷ ms in
      let low = around_tail (suc m) a.0 a.1 ((Some x, graphs) ∷ ms) k.falls in
      elim (Contains-append_cases (sheet_faults r (sheet_of a)) (noted n (wrong_count count a.1) ++ noted n (wrong_node op (length x.1.nodes))) f c) [
        | inl d ↦ sheet_found done all_marks m n l rest hi k lt is up a.0 a.1 ((Some x, graphs) ∷ ms) refl
            (λ y e.
            let free = below_here (suc m) a.0 a.1 ((Some x, graphs) ∷ ms) k.falls y e in
            (λ h. free.0 (some_same x.0 y.0 h), free)) f d
        | inr d ↦ elim (Contains-append_cases (noted n (wrong_count count a.1)) (noted n (wrong_node op (length x.1.nodes))) f d) [
          | inl e ↦ noted_found done all_marks m n l rest hi k lt is up (wrong_count count a.1)
              (λ j s.
              let t = count_if (count == a.1) count a.1 j refl s in
              subst (IsFault all done l) t.0 (miscounted (λ q. t.1 (q ∙ sym (ap graphs_in k.layers_are))))) f e
          | inr e ↦ node_found done all_marks m n l rest hi k lt is up label op x (pages_tail done a.0 a.1 ((Some x, graphs) ∷ ms) k.pages).0 refl refl f e
        ]
      ]
  line_found done (a ∷ (None, graphs) ∷ ms) m n (line.Close label op count assoc before name) rest hi k lt is up f c =
      absurd (around_tail (suc m) a.0 a.1 ((None, graphs) ∷ ms) k.falls)
  line_found done ((Some x, count) ∷ ms) m n (line.Node label op before name) rest hi k lt is up f c =
      node_found done ((Some x, count) ∷ ms) m n (line.Node label op before name) rest hi k lt is up label op x k.pages.0 refl refl f c
  line_found done ((Some x, count) ∷ ms) m n (line.Edge from out node port ty takes name) rest hi k lt is up f c =
      type_found done ((Some x, count) ∷ ms) m n (line.Edge from out node port ty takes name) rest hi k lt is up ty refl f c
  line_found done ((Some x, count) ∷ ms) m n (line.Literal node port ty text name) rest hi k lt is up f c =
      type_found done ((Some x, count) ∷ ms) m n (line.Literal node port ty text name) rest hi k lt is up ty refl f c
  line_found done ms m n l rest hi k lt is up f c = bad_found done ms m n l rest hi k lt is up refl f c

  -- ---- all lines

  marks_end : (done : List Lined) (ms : List Mark) → all ≡ done ++ [] → ArePages done ms → (f : Fault) → Contains (flat_map (sheet_faults r) (sheets_of ms)) f → IsFound all f
  marks_end done [] is p f c = absurd (contains_none f c)
  marks_end done ((None, count) ∷ ms) is p f c = marks_end done ms is p f c
  marks_end done ((Some x, count) ∷ ms) is p f c =
      elim (Contains-append_cases (page_faults r x.1) (flat_map (sheet_faults r) (sheets_of ms)) f c) [
        | inl d ↦ page_found all r rules done [] is x p.0 refl f d
        | inr d ↦ marks_end done ms is p.1 f d
      ]

  one_on : (done : List Lined) (n : ℕ) (l : Line) (rest : List Lined) → all ≡ done ++ (n, l) ∷ rest → all ≡ (done ++ (n, l) ∷ []) ++ rest
  one_on done n l rest is = is ∙ sym (append_assoc done ((n, l) ∷ []) rest)

  run_found : (done : List Lined) (ms : List Mark) (m : ℕ) (rest : List Lined) (hi : ℕ) → Keeps done ms m → Rises m rest hi → all ≡ done ++ rest →
      (f : Fault) → Contains (run_faults r (sheets_of ms) rest) f → IsFound all f
  run_found done ms m rest hi k (flat n) is f c = marks_end done ms is k.pages f c
  run_found done ms m rest hi k (rise {hi = h2} {ls = ls} lo n l lt up) is f c =
      elim (Contains-append_cases (line_faults r n l (sheets_of ms)) (run_faults r (sheets_next n l (sheets_of ms)) ls) f c) [
        | inl d ↦ line_found done ms m n l ls hi k lt is up f d
        | inr d ↦ run_found (done ++ (n, l) ∷ []) (marks_next n l ms) n ls h2 (keeps_next done ms m n l k lt) up (one_on done n l ls is) f
            (subst (λ (ss : List Sheet). Contains (run_faults r ss ls) f) (sym (sheets_keep n l ms)) d)
      ]

  pub all_found : (hi : ℕ) → Rises 0 all hi → (f : Fault) → Contains (run_faults r ((None, 0) ∷ []) all) f → IsFound all f
  all_found hi up f c = run_found [] first_marks 0 all hi keeps_none up refl f c
