-- What is kept stays true with each line.
use Rattle.std.proofs.Common.{◌≡◌, ℕ, suc, ◌<◌, ◌≤◌, Bool, true, false, List, [], ◌∷◌, ◌++◌, map, Option, Some, None, if◌then◌else◌, refl, sym, ap, subst, ◌∙◌, arith}
use Rattle.if1_graph.specs.declared.line.Line.{Line}
use Rattle.if1_graph.specs.declared.line.Line.TheVariants as line
use Rattle.if1_read.specs.Faults.{Layer, next, layers, layers_from, unit_alone, home, own, node_on, is_line}
use Rattle.if1_read.specs.Pages.{Lit, lit_on, Page, no_lines, with_node, with_lit}
use Rattle.if1_read.proofs.Walking.{Lined, layers_append}
use Rattle.if1_read.proofs.Lining.{lined, own_other, Free, NoNumber, free_lined}
use Rattle.if1_read.proofs.Keeping.{Mark, layer_of, layers_of, marks_next, layers_next, Around, Falls, around_tail, falls_next, IsPage, ArePages, pages_tail, page_stays, page_node, page_lit, pages_stay, pages_same}

silent_if : {A : Type 0} (b : Bool) (o : Option A) → o ≡ None → (if b then o else None) ≡ None
silent_if true o e = e
silent_if false o e = refl

own_silent : {A : Type 0} (f : Line → Option A) (g : ℕ) (l : Line) (os : List Layer) → f l ≡ None → own f g l os ≡ None
own_silent f g l os e = silent_if (is_line g (home l os)) (f l) e

nowhere : {A : Type 0} (f : Line → Option A) (g : ℕ) (l : Line) (os : List Layer) → home l os ≡ None → own f g l os ≡ None
nowhere f g l os e = own_other f g l os (λ h. let no : None ≡ Some g = sym e ∙ h in absurd cc)

-- lines of lower numbers
pub record Keeps (done : List Lined) (ms : List Mark) (m : ℕ) : Type 0 where
  pub layers_are : layers_of ms ≡ layers done
  pub pages : ArePages done ms
  pub falls : Falls (suc m) ms
  pub above : (h : ℕ) → m < h → NoNumber h done

no_append : (h : ℕ) (xs ys : List Lined) → NoNumber h xs → NoNumber h ys → NoNumber h (xs ++ ys)
no_append h [] ys f g = g
no_append h (x ∷ xs) ys f g = (f.0, no_append h xs ys f.1 g)

module _ (done : List Lined) (n : ℕ) where
  abbrev more : Line → List Lined
  more l = done ++ (n, l) ∷ []

  -- a graph that begins has no lines yet
  page_new : (l : Line) → NoNumber n done → home l (layers done) ≡ None → IsPage (more l) (n, no_lines)
  page_new l f e =
      let none : IsPage done (n, no_lines) =
      record { nodes = sym (free_lined node_on n unit_alone done tt f); lits = sym (free_lined lit_on n unit_alone done tt f) } in
      page_stays done n l (n, no_lines) none (nowhere node_on n l (layers done) e) (nowhere lit_on n l (layers done) e)

  quiet : (l : Line) (ms : List Mark) → node_on l ≡ None → lit_on l ≡ None → ArePages done ms → ArePages (more l) ms
  quiet l ms e f p = pages_same done n l ms (λ g. (own_silent node_on g l (layers done) e, own_silent lit_on g l (layers done) f)) p

  outside : (l : Line) (ms : List Mark) → layers_of ms ≡ layers done → home l (layers_of ms) ≡ None → ArePages done ms → ArePages (more l) ms
  outside l ms is e p =
      let none = sym (ap (home l) is) ∙ e in
      pages_same done n l ms (λ g. (nowhere node_on g l (layers done) none, nowhere lit_on g l (layers done) none)) p

  lower : (l : Line) (x : ℕ × Page) (ms : List Mark) → Around x.0 ms → home l (layers done) ≡ Some x.0 → ArePages done ms → ArePages (more l) ms
  lower l x ms low e p = pages_stay done n l x.0 ms low (λ h f. let same : Some x.0 ≡ Some h = sym e ∙ f in let is : x.0 ≡ h = cc in omega (arith, is)) p

  pages_next : (m : ℕ) (l : Line) (ms : List Mark) → layers_of ms ≡ layers done → Falls m ms → NoNumber n done → ArePages done ms → ArePages (more l) (marks_next n l ms)
  pages_next m (line.Function exported fun name) (u ∷ []) is low f p = (page_new (line.Function exported fun name) f refl, tt)
  pages_next m (line.Import ty name) (u ∷ []) is low f p = tt
  pages_next m (line.Subgraph name) (a ∷ b ∷ ms) is low f p =
      (page_new (line.Subgraph name) f refl, quiet (line.Subgraph name) (b ∷ ms) refl refl (pages_tail done a.0 a.1 (b ∷ ms) p))
  pages_next m (line.Open rest) ((Some x, c) ∷ ms) is low f p = quiet (line.Open rest) ((Some x, c) ∷ ms) refl refl p
  pages_next m (line.Close label op count assoc before name) (a ∷ (Some x, c) ∷ ms) is low f p =
      let l = line.Close label op count assoc before name in
      let here : home l (layers done) ≡ Some x.0 = sym (ap (home l) is) in
      let ps = pages_tail done a.0 a.1 ((Some x, c) ∷ ms) p in
      let t = around_tail m a.0 a.1 ((Some x, c) ∷ ms) low in
      (page_node done n l x label op ps.0 here refl refl, lower l x ms t.1 here ps.1)
  pages_next m (line.Close label op count assoc before name) (a ∷ (None, c) ∷ ms) is low f p = absurd (around_tail m a.0 a.1 ((None, c) ∷ ms) low)
  pages_next m (line.Close label op count assoc before name) (u ∷ []) is low f p = outside (line.Close label op count assoc before name) (u ∷ []) is refl p
  pages_next m (line.Close label op count assoc before name) [] is low f p = absurd low
  pages_next m (line.Node label op before name) ((Some x, c) ∷ ms) is low f p =
      let l = line.Node label op before name in
      let here : home l (layers done) ≡ Some x.0 = sym (ap (home l) is) in
      (page_node done n l x label op p.0 here refl refl, lower l x ms low.1 here p.1)
  pages_next m (line.Node label op before name) ((None, c) ∷ ms) is low f p = outside (line.Node label op before name) ((None, c) ∷ ms) is refl p
  pages_next m (line.Node label op before name) [] is low f p = absurd low
  pages_next m (line.Literal node port ty text name) ((Some x, c) ∷ ms) is low f p =
      let l = line.Literal node port ty text name in
      let here : home l (layers done) ≡ Some x.0 = sym (ap (home l) is) in (
        page_lit done n l x (record { node = node; port = port; ty = ty; text = text }) p.0 here refl refl,
        lower l x ms low.1 here p.1,
      )
  pages_next m (line.Literal node port ty text name) ((None, c) ∷ ms) is low f p = outside (line.Literal node port ty text name) ((None, c) ∷ ms) is refl p
  pages_next m (line.Literal node port ty text name) [] is low f p = absurd low
  pages_next m l ms is low f p = quiet l ms refl refl p

pub keeps_next : (done : List Lined) (ms : List Mark) (m n : ℕ) (l : Line) → Keeps done ms m → m < n → Keeps (done ++ (n, l) ∷ []) (marks_next n l ms) n
keeps_next done ms m n l k lt = record {
  layers_are = layers_next n l ms ∙ (ap (next n l) k.layers_are ∙ sym (layers_append unit_alone done ((n, l) ∷ [])));
  pages = pages_next done n (suc m) l ms k.layers_are k.falls (k.above n lt) k.pages;
  falls = falls_next (suc m) n l ms (omega (arith, lt)) k.falls;
  above = λ h over. no_append h done ((n, l) ∷ []) (k.above h (omega (arith, lt, over))) ((λ e. absurd (omega (arith, e, over))), tt);
}

abbrev pub first_marks : List Mark
first_marks = (None, 0) ∷ []

pub keeps_none : Keeps [] first_marks 0
keeps_none = record { layers_are = refl; pages = tt; falls = tt; above = λ h over. tt }
