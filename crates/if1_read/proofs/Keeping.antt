-- What is kept of the lines so far, with the line that began each graph, and what is true of it.
use Rattle.std.proofs.Common.{◌≡◌, ℕ, suc, ◌<◌, ◌≤◌, List, [], ◌∷◌, ◌++◌, map, length, Option, Some, None, refl, sym, ap, subst, ◌∙◌, arith, append-nil}
use Rattle.if1_graph.specs.declared.line.Line.{Line}
use Rattle.if1_graph.specs.declared.line.Line.TheVariants as line
use Rattle.if1_read.specs.Faults.{Layer, next, layers, layers_from, unit_alone, home, own, node_on, with_some}
use Rattle.if1_read.specs.Pages.{Lit, lit_on, Page, no_lines, with_node, with_lit, Sheet, sheets_next}
use Rattle.if1_read.specs.Rows.{by_line}
use Rattle.if1_read.proofs.Walking.{Lined, layers_append}
use Rattle.if1_read.proofs.Lining.{lined, lined_append, own_other, own_mine}

abbrev pub Mark : Type 0
Mark = Option (ℕ × Page) × ℕ

abbrev pub id_in : Option (ℕ × Page) → Option ℕ
id_in None = None
id_in (Some x) = Some x.0

abbrev pub page_in : Option (ℕ × Page) → Option Page
page_in None = None
page_in (Some x) = Some x.1

abbrev pub layer_of : Mark → Layer
layer_of m = (id_in m.0, m.1)

abbrev pub sheet_of : Mark → Sheet
sheet_of m = (page_in m.0, m.1)

abbrev pub layers_of : List Mark → List Layer
layers_of ms = map layer_of ms

abbrev pub sheets_of : List Mark → List Sheet
sheets_of ms = map sheet_of ms

abbrev pub marks_next : ℕ → Line → List Mark → List Mark
marks_next n (line.Function exported fun name) (unit ∷ []) = (Some (n, no_lines), suc unit.1) ∷ []
marks_next n (line.Import ty name) (unit ∷ []) = (None, unit.1) ∷ []
marks_next n (line.Subgraph name) (here ∷ around ∷ ms) = (Some (n, no_lines), suc here.1) ∷ around ∷ ms
marks_next n (line.Open rest) ((Some x, count) ∷ ms) = (None, 0) ∷ (Some x, count) ∷ ms
marks_next n (line.Close label op count assoc before name) (here ∷ (Some x, graphs) ∷ ms) = (Some (x.0, with_node n label op x.1), graphs) ∷ ms
marks_next n (line.Close label op count assoc before name) (here ∷ (None, graphs) ∷ ms) = (None, graphs) ∷ ms
marks_next n (line.Node label op before name) ((Some x, count) ∷ ms) = (Some (x.0, with_node n label op x.1), count) ∷ ms
marks_next n (line.Literal node port ty text name) ((Some x, count) ∷ ms) =
    (Some (x.0, with_lit n (record { node = node; port = port; ty = ty; text = text }) x.1), count) ∷ ms
marks_next n l ms = ms

pub layers_next : (n : ℕ) (l : Line) (ms : List Mark) → layers_of (marks_next n l ms) ≡ next n l (layers_of ms)
layers_next n (line.Function exported fun name) [] = refl
layers_next n (line.Function exported fun name) (u ∷ []) = refl
layers_next n (line.Function exported fun name) (a ∷ b ∷ ms) = refl
layers_next n (line.Import ty name) [] = refl
layers_next n (line.Import ty name) (u ∷ []) = refl
layers_next n (line.Import ty name) (a ∷ b ∷ ms) = refl
layers_next n (line.Subgraph name) [] = refl
layers_next n (line.Subgraph name) (u ∷ []) = refl
layers_next n (line.Subgraph name) (a ∷ b ∷ ms) = refl
layers_next n (line.Open rest) [] = refl
layers_next n (line.Open rest) ((Some x, c) ∷ ms) = refl
layers_next n (line.Open rest) ((None, c) ∷ ms) = refl
layers_next n (line.Close label op count assoc before name) [] = refl
layers_next n (line.Close label op count assoc before name) (u ∷ []) = refl
layers_next n (line.Close label op count assoc before name) (a ∷ (Some x, c) ∷ ms) = refl
layers_next n (line.Close label op count assoc before name) (a ∷ (None, c) ∷ ms) = refl
layers_next n (line.Node label op before name) [] = refl
layers_next n (line.Node label op before name) ((Some x, c) ∷ ms) = refl
layers_next n (line.Node label op before name) ((None, c) ∷ ms) = refl
layers_next n (line.Literal node port ty text name) [] = refl
layers_next n (line.Literal node port ty text name) ((Some x, c) ∷ ms) = refl
layers_next n (line.Literal node port ty text name) ((None, c) ∷ ms) = refl
layers_next n _ ms = refl

pub sheets_keep : (n : ℕ) (l : Line) (ms : List Mark) → sheets_of (marks_next n l ms) ≡ sheets_next n l (sheets_of ms)
sheets_keep n (line.Function exported fun name) [] = refl
sheets_keep n (line.Function exported fun name) (u ∷ []) = refl
sheets_keep n (line.Function exported fun name) (a ∷ b ∷ ms) = refl
sheets_keep n (line.Import ty name) [] = refl
sheets_keep n (line.Import ty name) (u ∷ []) = refl
sheets_keep n (line.Import ty name) (a ∷ b ∷ ms) = refl
sheets_keep n (line.Subgraph name) [] = refl
sheets_keep n (line.Subgraph name) (u ∷ []) = refl
sheets_keep n (line.Subgraph name) (a ∷ b ∷ ms) = refl
sheets_keep n (line.Open rest) [] = refl
sheets_keep n (line.Open rest) ((Some x, c) ∷ ms) = refl
sheets_keep n (line.Open rest) ((None, c) ∷ ms) = refl
sheets_keep n (line.Close label op count assoc before name) [] = refl
sheets_keep n (line.Close label op count assoc before name) (u ∷ []) = refl
sheets_keep n (line.Close label op count assoc before name) (a ∷ (Some x, c) ∷ ms) = refl
sheets_keep n (line.Close label op count assoc before name) (a ∷ (None, c) ∷ ms) = refl
sheets_keep n (line.Node label op before name) [] = refl
sheets_keep n (line.Node label op before name) ((Some x, c) ∷ ms) = refl
sheets_keep n (line.Node label op before name) ((None, c) ∷ ms) = refl
sheets_keep n (line.Literal node port ty text name) [] = refl
sheets_keep n (line.Literal node port ty text name) ((Some x, c) ∷ ms) = refl
sheets_keep n (line.Literal node port ty text name) ((None, c) ∷ ms) = refl
sheets_keep n _ ms = refl

-- ---- ids

-- around the innermost one graphs are read, and each began before the one inside it
abbrev pub Around : ℕ → List Mark → Type 0
Around m [] = Unit {0}
Around m ((None, c) ∷ ms) = ⊥
Around m ((Some x, c) ∷ ms) = (x.0 < m) × Around x.0 ms

abbrev pub Falls : ℕ → List Mark → Type 0
Falls m [] = ⊥
Falls m ((None, c) ∷ ms) = Around m ms
Falls m ((Some x, c) ∷ ms) = (x.0 < m) × Around x.0 ms

around_more : (m n : ℕ) (ms : List Mark) → m ≤ n → Around m ms → Around n ms
around_more m n [] le h = tt
around_more m n ((None, c) ∷ ms) le h = h
around_more m n ((Some x, c) ∷ ms) le h = (omega (arith, le, h.0), h.1)

falls_more : (m n : ℕ) (ms : List Mark) → m ≤ n → Falls m ms → Falls n ms
falls_more m n [] le h = h
falls_more m n ((None, c) ∷ ms) le h = around_more m n ms le h
falls_more m n ((Some x, c) ∷ ms) le h = (omega (arith, le, h.0), h.1)

pub around_tail : (m : ℕ) (o : Option (ℕ × Page)) (c : ℕ) (ms : List Mark) → Falls m ((o, c) ∷ ms) → Around m ms
around_tail m None c ms h = h
around_tail m (Some x) c ms h = around_more x.0 m ms (omega (arith, h.0)) h.1

around_falls : (m : ℕ) (o : Option (ℕ × Page)) (c : ℕ) (ms : List Mark) → Around m ((o, c) ∷ ms) → Falls m ((o, c) ∷ ms)
around_falls m None c ms h = absurd h
around_falls m (Some x) c ms h = h

pub falls_next : (m n : ℕ) (l : Line) (ms : List Mark) → m ≤ n → Falls m ms → Falls (suc n) (marks_next n l ms)
falls_next m n (line.Function exported fun name) (u ∷ []) le h = (omega arith, tt)
falls_next m n (line.Import ty name) (u ∷ []) le h = tt
falls_next m n (line.Subgraph name) (a ∷ b ∷ ms) le h = (omega arith, around_more m n (b ∷ ms) le (around_tail m a.0 a.1 (b ∷ ms) h))
falls_next m n (line.Open rest) ((Some x, c) ∷ ms) le h = (omega (arith, le, h.0), h.1)
falls_next m n (line.Close label op count assoc before name) (a ∷ (Some x, c) ∷ ms) le h =
    let t = around_tail m a.0 a.1 ((Some x, c) ∷ ms) h in (omega (arith, le, t.0), t.1)
falls_next m n (line.Close label op count assoc before name) (a ∷ (None, c) ∷ ms) le h = absurd (around_tail m a.0 a.1 ((None, c) ∷ ms) h)
falls_next m n (line.Node label op before name) ((Some x, c) ∷ ms) le h = (omega (arith, le, h.0), h.1)
falls_next m n (line.Literal node port ty text name) ((Some x, c) ∷ ms) le h = (omega (arith, le, h.0), h.1)
falls_next m n l ms le h = falls_more m (suc n) ms (omega (arith, le)) h

-- ---- pages

pub record IsPage (done : List Lined) (x : ℕ × Page) : Type 0 where
  pub nodes : x.1.nodes ≡ lined (own node_on x.0) unit_alone done
  pub lits : x.1.lits ≡ lined (own lit_on x.0) unit_alone done

abbrev pub ArePages : List Lined → List Mark → Type 0
ArePages done [] = Unit {0}
ArePages done ((None, c) ∷ ms) = ArePages done ms
ArePages done ((Some x, c) ∷ ms) = IsPage done x × ArePages done ms

pub pages_tail : (done : List Lined) (o : Option (ℕ × Page)) (c : ℕ) (ms : List Mark) → ArePages done ((o, c) ∷ ms) → ArePages done ms
pages_tail done None c ms h = h
pages_tail done (Some x) c ms h = h.1

-- one more line
one_more : {A : Type 0} (f : Line → Option A) (g : ℕ) (done : List Lined) (n : ℕ) (l : Line) (o : Option A) → own f g l (layers done) ≡ o →
    lined (own f g) unit_alone (done ++ (n, l) ∷ []) ≡ lined (own f g) unit_alone done ++ with_some (by_line n o) []
one_more f g done n l o e =
    lined_append (own f g) unit_alone done ((n, l) ∷ []) ∙ ap (λ o. lined (own f g) unit_alone done ++ with_some (by_line n o) []) e

same_more : {A : Type 0} (f : Line → Option A) (g : ℕ) (done : List Lined) (n : ℕ) (l : Line) → own f g l (layers done) ≡ None →
    lined (own f g) unit_alone done ≡ lined (own f g) unit_alone (done ++ (n, l) ∷ [])
same_more f g done n l e = sym (one_more f g done n l None e ∙ append-nil (lined (own f g) unit_alone done))

module _ (done : List Lined) (n : ℕ) (l : Line) where
  abbrev more : List Lined
  more = done ++ (n, l) ∷ []

  pub page_stays : (x : ℕ × Page) → IsPage done x → own node_on x.0 l (layers done) ≡ None → own lit_on x.0 l (layers done) ≡ None → IsPage more x
  page_stays x p e f = record {
    nodes = p.nodes ∙ same_more node_on x.0 done n l e;
    lits = p.lits ∙ same_more lit_on x.0 done n l f;
  }

  pub page_node : (x : ℕ × Page) (label op : ℕ) → IsPage done x → home l (layers done) ≡ Some x.0 → node_on l ≡ Some (label, op) → lit_on l ≡ None →
      IsPage more (x.0, with_node n label op x.1)
  page_node x label op p h e f = record {
    nodes = ap (λ ns. ns ++ (n, (label, op)) ∷ []) p.nodes ∙ sym (one_more node_on x.0 done n l (Some (label, op)) (own_mine node_on x.0 l (layers done) h ∙ e));
    lits = p.lits ∙ same_more lit_on x.0 done n l (own_mine lit_on x.0 l (layers done) h ∙ f);
  }

  pub page_lit : (x : ℕ × Page) (a : Lit) → IsPage done x → home l (layers done) ≡ Some x.0 → lit_on l ≡ Some a → node_on l ≡ None → IsPage more (x.0, with_lit n a x.1)
  page_lit x a p h e f = record {
    nodes = p.nodes ∙ same_more node_on x.0 done n l (own_mine node_on x.0 l (layers done) h ∙ f);
    lits = ap (λ ns. ns ++ (n, a) ∷ []) p.lits ∙ sym (one_more lit_on x.0 done n l (Some a) (own_mine lit_on x.0 l (layers done) h ∙ e));
  }

  -- all below a number
  pub pages_stay : (m : ℕ) (ms : List Mark) → Around m ms → ((h : ℕ) → home l (layers done) ≡ Some h → m ≤ h) → ArePages done ms → ArePages more ms
  pages_stay m [] low ne p = tt
  pages_stay m ((None, c) ∷ ms) low ne p = absurd low
  pages_stay m ((Some x, c) ∷ ms) low ne p =
      let other = λ (e : home l (layers done) ≡ Some x.0). absurd (omega (arith, low.0, ne x.0 e)) in (
        page_stays x p.0 (own_other node_on x.0 l (layers done) other) (own_other lit_on x.0 l (layers done) other),
        pages_stay x.0 ms low.1 (λ h e. omega (arith, low.0, ne h e)) p.1,
      )

  -- all where the line belongs to no graph, or says no node and no literal
  pub pages_same : (ms : List Mark) → ((g : ℕ) → (own node_on g l (layers done) ≡ None) × (own lit_on g l (layers done) ≡ None)) → ArePages done ms → ArePages more ms
  pages_same [] e p = tt
  pages_same ((None, c) ∷ ms) e p = pages_same ms e p
  pages_same ((Some x, c) ∷ ms) e p = (page_stays x p.0 (e x.0).0 (e x.0).1, pages_same ms e p.1)
