-- The faults of each graph are found when it ends.
use Rattle.std.proofs.Common.{◌≡◌, ℕ, suc, ◌<◌, ◌≤◌, List, [], ◌∷◌, ◌++◌, map, length, Option, Some, None, ◌⊎◌, inl, inr, refl, sym, ap, subst, ◌∙◌, arith, append_assoc, append-nil}
use Rattle.std.specs.Prelude.{Contains}
use Rattle.std.specs.List.{flat_map}
use Rattle.std.proofs.lemmas.List.Elements.{Contains-append_left, Contains-append_right}
use Rattle.if1_graph.specs.declared.line.Line.{Line}
use Rattle.if1_graph.specs.declared.line.Line.TheVariants as line
use Rattle.if1_read.specs.declared.fault.Fault.{Fault}
use Rattle.if1_read.specs.Faults.{Layer, next, layers, unit_alone, home, own, node_on, with_some}
use Rattle.if1_read.specs.Least.{noted}
use Rattle.if1_read.specs.Pages.{lit_on, Lit, Page, Sheet, Rules, with_node, with_lit, page_faults, sheet_faults, wrong_node, wrong_count, line_faults, sheets_next, run_faults}
use Rattle.if1_read.specs.Rows.{by_line}
use Rattle.if1_read.proofs.Walking.{Lined}
use Rattle.if1_read.proofs.Same.{contains_here, contains_later, contains_cases, contains_none}
use Rattle.if1_read.proofs.Accepted.{Rises, flat, rise}
use Rattle.if1_read.proofs.Lining.{lined, lined_append, own_other, Free, NoNumber, not_before, free_lined}
use Rattle.if1_read.proofs.Keeping.{Mark, sheet_of, layers_of, sheets_of, marks_next, sheets_keep, Around, Falls, around_tail, IsPage, ArePages}
use Rattle.if1_read.proofs.Kept.{Keeps, keeps_next}
use Rattle.if1_read.proofs.Finding.{some_same, id_low, below_here}

-- what becomes of a graph with a line: its lines go on, or it ends
record Ends (r : Rules) (n : ℕ) (l : Line) (ms : List Mark) (x : ℕ × Page) : Type 0 where
  finds : (f : Fault) → Contains (page_faults r x.1) f → Contains (line_faults r n l (sheets_of ms)) f
  apart : home l (layers_of ms) ≡ Some x.0 → ⊥
  free : Free x.0 (next n l (layers_of ms))

record GoesOn (n : ℕ) (l : Line) (ms : List Mark) (x : ℕ × Page) : Type 0 where
  page : Page
  count : ℕ
  among : Contains (marks_next n l ms) (Some (x.0, page), count)

abbrev Goes : Rules → ℕ → Line → List Mark → ℕ × Page → Type 0
Goes r n l ms x = GoesOn n l ms x ⊎ Ends r n l ms x

of_here : (r : Rules) (m : Mark) (x : ℕ × Page) (c : ℕ) → m ≡ (Some x, c) → (f : Fault) → Contains (page_faults r x.1) f → Contains (sheet_faults r (sheet_of m)) f
of_here r m x c e f d = subst (λ (y : Mark). Contains (sheet_faults r (sheet_of y)) f) (sym e) d

id_of : (m : Mark) (x : ℕ × Page) (c : ℕ) → m ≡ (Some x, c) → m.0 ≡ Some x
id_of m x c e = ap (λ (y : Mark). y.0) e

abbrev mark : ℕ × Page → ℕ → Mark
mark x c = (Some x, c)

page_of_mark : (y x : ℕ × Page) (d c : ℕ) → mark y d ≡ mark x c → y ≡ x
page_of_mark y x d c e = let e2 : Some y ≡ Some x = ap (λ (m : Mark). m.0) e in cc

goes : (r : Rules) (m n : ℕ) (l : Line) (ms : List Mark) → m ≤ n → Falls m ms → (x : ℕ × Page) (c : ℕ) → Contains ms (Some x, c) → Goes r n l ms x
goes r m n (line.Function exported fun name) (u ∷ []) le low x c h = elim (contains_cases u [] (Some x, c) h) [
  | inl e ↦ inr (record {
    finds = λ f d. Contains-append_left (sheet_faults r (sheet_of u)) (noted n (r.type_wrong fun)) f (of_here r u x c e f d);
    apart = λ s. absurd cc;
    free = (λ s. absurd (omega (arith, s, le, id_low m u.0 u.1 [] low x (id_of u x c e))), tt);
  })
  | inr d ↦ absurd (contains_none (Some x, c) d)
]
goes r m n (line.Import ty name) (u ∷ []) le low x c h = elim (contains_cases u [] (Some x, c) h) [
  | inl e ↦ inr (record {
    finds = λ f d. Contains-append_left (sheet_faults r (sheet_of u)) (noted n (r.import_wrong ty)) f (of_here r u x c e f d);
    apart = λ s. absurd cc;
    free = tt;
  })
  | inr d ↦ absurd (contains_none (Some x, c) d)
]
goes r m n (line.Subgraph name) (a ∷ b ∷ ms) le low x c h = elim (contains_cases a (b ∷ ms) (Some x, c) h) [
  | inl e ↦ inr (record {
    finds = λ f d. of_here r a x c e f d;
    apart = λ s. absurd cc;
    free = (λ s. absurd (omega (arith, s, le, id_low m a.0 a.1 (b ∷ ms) low x (id_of a x c e))), below_here m a.0 a.1 (b ∷ ms) low x (id_of a x c e));
  })
  | inr d ↦ inl (record { page = x.1; count = c; among = contains_later _ (b ∷ ms) (Some x, c) d })
]
goes r m n (line.Open rest) ((Some y, k) ∷ ms) le low x c h = inl (record { page = x.1; count = c; among = contains_later _ ((Some y, k) ∷ ms) (Some x, c) h })
goes r m n (line.Close label op count assoc before name) (a ∷ (Some y, k) ∷ ms) le low x c h = elim (contains_cases a ((Some y, k) ∷ ms) (Some x, c) h) [
  | inl e ↦
      let free = below_here m a.0 a.1 ((Some y, k) ∷ ms) low x (id_of a x c e) in
      inr (record {
        finds = λ f d. Contains-append_left (sheet_faults r (sheet_of a)) (noted n (wrong_count count a.1) ++ noted n (wrong_node op (length y.1.nodes))) f (of_here r a x c e f d);
        apart = λ s. free.0 (some_same y.0 x.0 s);
        free = free;
      })
  | inr d ↦ elim (contains_cases (Some y, k) ms (Some x, c) d) [
    | inl e ↦
        let same = page_of_mark y x k c e in
        inl (record {
          page = with_node n label op y.1;
          count = k;
          among = subst (λ (g : ℕ). Contains ((Some (y.0, with_node n label op y.1), k) ∷ ms) (Some (g, with_node n label op y.1), k)) (ap (λ (z : ℕ × Page). z.0) same)
              (contains_here (Some (y.0, with_node n label op y.1), k) ms);
        })
    | inr t ↦ inl (record { page = x.1; count = c; among = contains_later _ ms (Some x, c) t })
  ]
]
goes r m n (line.Close label op count assoc before name) (a ∷ (None, k) ∷ ms) le low x c h = absurd (around_tail m a.0 a.1 ((None, k) ∷ ms) low)
goes r m n (line.Node label op before name) ((Some y, k) ∷ ms) le low x c h = elim (contains_cases (Some y, k) ms (Some x, c) h) [
  | inl e ↦
      let same = page_of_mark y x k c e in
      inl (record {
        page = with_node n label op y.1;
        count = k;
        among = subst (λ (g : ℕ). Contains ((Some (y.0, with_node n label op y.1), k) ∷ ms) (Some (g, with_node n label op y.1), k)) (ap (λ (z : ℕ × Page). z.0) same)
            (contains_here (Some (y.0, with_node n label op y.1), k) ms);
      })
  | inr t ↦ inl (record { page = x.1; count = c; among = contains_later _ ms (Some x, c) t })
]
goes r m n (line.Literal node port ty text name) ((Some y, k) ∷ ms) le low x c h = elim (contains_cases (Some y, k) ms (Some x, c) h) [
  | inl e ↦
      let same = page_of_mark y x k c e in
      let p = with_lit n (record { node = node; port = port; ty = ty; text = text }) y.1 in
      inl (record {
        page = p;
        count = k;
        among = subst (λ (g : ℕ). Contains ((Some (y.0, p), k) ∷ ms) (Some (g, p), k)) (ap (λ (z : ℕ × Page). z.0) same) (contains_here (Some (y.0, p), k) ms);
      })
  | inr t ↦ inl (record { page = x.1; count = c; among = contains_later _ ms (Some x, c) t })
]
goes r m n l ms le low x c h = inl (record { page = x.1; count = c; among = h })

-- the line that began a graph is one of those so far
low_around : (ms : List Mark) (m : ℕ) → Around m ms → (x : ℕ × Page) (c : ℕ) → Contains ms (Some x, c) → x.0 < m
low_around [] m low x c h = absurd (contains_none (Some x, c) h)
low_around ((None, k) ∷ ms) m low x c h = absurd low
low_around ((Some y, k) ∷ ms) m low x c h = elim (contains_cases (Some y, k) ms (Some x, c) h) [
  | inl e ↦ subst (λ (z : ℕ × Page). z.0 < m) (page_of_mark y x k c e) low.0
  | inr d ↦ omega (arith, low.0, low_around ms y.0 low.1 x c d)
]

low_of : (ms : List Mark) (m : ℕ) → Falls m ms → (x : ℕ × Page) (c : ℕ) → Contains ms (Some x, c) → x.0 < m
low_of [] m low x c h = absurd low
low_of (a ∷ ms) m low x c h = elim (contains_cases a ms (Some x, c) h) [
  | inl e ↦ id_low m a.0 a.1 ms low x (id_of a x c e)
  | inr d ↦ low_around ms m (around_tail m a.0 a.1 ms low) x c d
]

-- ---- all lines

module _ (all : List Lined) (r : Rules) where
  -- a graph with all of its lines
  abbrev pub final : ℕ → Page
  final g = record { nodes = lined (own node_on g) unit_alone all; lits = lined (own lit_on g) unit_alone all }

  -- no further line belongs to it
  complete : (done rest : List Lined) (x : ℕ × Page) → all ≡ done ++ rest → IsPage done x → lined (own node_on x.0) (layers done) rest ≡ [] → lined (own lit_on x.0) (layers done) rest ≡ [] →
      final x.0 ≡ x.1
  complete done rest x is p e f =
      let nodes : lined (own node_on x.0) unit_alone all ≡ x.1.nodes =
      ap (lined (own node_on x.0) unit_alone) is
      ∙ (lined_append (own node_on x.0) unit_alone done rest
      ∙ (ap (λ ns. lined (own node_on x.0) unit_alone done ++ ns) e ∙ (append-nil (lined (own node_on x.0) unit_alone done) ∙ sym p.nodes))) in
      let lits : lined (own lit_on x.0) unit_alone all ≡ x.1.lits =
      ap (lined (own lit_on x.0) unit_alone) is
      ∙ (lined_append (own lit_on x.0) unit_alone done rest
      ∙ (ap (λ ns. lined (own lit_on x.0) unit_alone done ++ ns) f ∙ (append-nil (lined (own lit_on x.0) unit_alone done) ∙ sym p.lits))) in
      λ i. record { nodes = nodes i; lits = lits i }

  closed : {A : Type 0} (f : Line → Option A) (g n : ℕ) (l : Line) (os : List Layer) (rest : List Lined) → (home l os ≡ Some g → ⊥) → Free g (next n l os) → NoNumber g rest →
      lined (own f g) os ((n, l) ∷ rest) ≡ []
  closed f g n l os rest ne free not =
      ap (λ o. with_some (by_line n o) (lined (own f g) (next n l os) rest)) (own_other f g l os ne) ∙ free_lined f g (next n l os) rest free not

  pub of_marks : (ms : List Mark) (done : List Lined) → ArePages done ms → (x : ℕ × Page) (c : ℕ) → Contains ms (Some x, c) → IsPage done x
  of_marks [] done p x c h = absurd (contains_none (Some x, c) h)
  of_marks ((None, k) ∷ ms) done p x c h = elim (contains_cases (None, k) ms (Some x, c) h) [
    | inl e ↦ let bad : None ≡ Some x = ap (λ (m : Mark). m.0) e in absurd cc
    | inr d ↦ of_marks ms done p x c d
  ]
  of_marks ((Some y, k) ∷ ms) done p x c h = elim (contains_cases (Some y, k) ms (Some x, c) h) [
    | inl e ↦ subst (IsPage done) (page_of_mark y x k c e) p.0
    | inr d ↦ of_marks ms done p.1 x c d
  ]

  among_sheets : (ms : List Mark) (x : ℕ × Page) (c : ℕ) → Contains ms (Some x, c) → (f : Fault) → Contains (page_faults r x.1) f → Contains (flat_map (sheet_faults r) (sheets_of ms)) f
  among_sheets [] x c h f d = absurd (contains_none (Some x, c) h)
  among_sheets (m ∷ ms) x c h f d = elim (contains_cases m ms (Some x, c) h) [
    | inl e ↦ Contains-append_left (sheet_faults r (sheet_of m)) (flat_map (sheet_faults r) (sheets_of ms)) f (of_here r m x c e f d)
    | inr t ↦ Contains-append_right (sheet_faults r (sheet_of m)) (flat_map (sheet_faults r) (sheets_of ms)) f (among_sheets ms x c t f d)
  ]

  pub ends : (done : List Lined) (ms : List Mark) (m : ℕ) (rest : List Lined) (hi : ℕ) → Keeps done ms m → Rises m rest hi → all ≡ done ++ rest → (x : ℕ × Page) (c : ℕ) →
      Contains ms (Some x, c) → (f : Fault) → Contains (page_faults r (final x.0)) f → Contains (run_faults r (sheets_of ms) rest) f
  ends done ms m rest hi k (flat n) is x c h f d =
      among_sheets ms x c h f (subst (λ (p : Page). Contains (page_faults r p) f) (complete done [] x is (of_marks ms done k.pages x c h) refl refl) d)
  ends done ms m rest hi k (rise {hi = h2} {ls = ls} lo n l lt up) is x c h f d =
      let first = line_faults r n l (sheets_of ms) in
      let then = run_faults r (sheets_next n l (sheets_of ms)) ls in
      elim (goes r (suc m) n l ms (omega (arith, lt)) k.falls x c h) [
        | inl g ↦ Contains-append_right first then f
            (subst (λ (ss : List Sheet). Contains (run_faults r ss ls) f) (sheets_keep n l ms)
            (ends (done ++ (n, l) ∷ []) (marks_next n l ms) n ls h2 (keeps_next done ms m n l k lt) up (is ∙ sym (append_assoc done ((n, l) ∷ []) ls)) (x.0, g.page) g.count g.among f d))
        | inr e ↦
            let page = of_marks ms done k.pages x c h in
            let apart = λ (s : home l (layers done) ≡ Some x.0). e.apart (ap (home l) k.layers_are ∙ s) in
            let free : Free x.0 (next n l (layers done)) = subst (λ (os : List Layer). Free x.0 (next n l os)) k.layers_are e.free in
            let no_more = not_before x.0 n ls h2 (omega (arith, low_of ms (suc m) k.falls x c h, lt)) up in
            let whole = complete done ((n, l) ∷ ls) x is page (closed node_on x.0 n l (layers done) ls apart free no_more) (closed lit_on x.0 n l (layers done) ls apart free no_more) in
            Contains-append_left first then f (e.finds f (subst (λ (p : Page). Contains (page_faults r p) f) whole d))
      ]
