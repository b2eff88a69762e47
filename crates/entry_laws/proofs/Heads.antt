-- The heads of the graphs of a translated unit, by the functions of its program.
use Rattle.std.proofs.Common.{◌≡◌, ℕ, zero, suc, ◌+◌, ◌<◌, ◌≤◌, List, [], ◌∷◌, map, length, get_or, Some, slice_get, nat_eq, refl, sym, ap, subst, ◌∙◌, arith}
use Rattle.std.specs.List.{list_any}
use Rattle.std.proofs.lemmas.List.{length-map}
use Rattle.std.proofs.lemmas.Option.{slice_get_within}
use Rattle.if1_graph.specs.declared.graph.Graph.{Graph}
use Rattle.if1_graph.specs.declared.graph.Graph.TheOpen.{Graph-F}
use Rattle.if1_graph.specs.declared.graph.Graph.TheViews.{out-Graph}
use Rattle.if1_graph.specs.declared.graph.Node.{Node}
use Rattle.if1_graph.specs.declared.graph.Unit1.{Unit1}
use Rattle.if1_marks.specs.Unmarked.{unmarked}
use Rattle.if1_marks.proofs.Unmarked.{unmarked-at}
use Rattle.marks_made.specs.Units.{marks_of}
use Rattle.typed_tree.specs.declared.program.Function.{Function}
use Rattle.typed_tree.specs.declared.program.Program.{Program}
use Rattle.lowering.specs.declared.graph.Lowered.{Lowered}
use Rattle.lowering.specs.Graphs.{size, closed, numbers}
use Rattle.lowering.specs.Programs.{function_lowered, functions_lowered, number_of}
use Rattle.lowering.specs.Types.{header_label}
use Rattle.lowered_units.specs.Listed.{ListedGraph, Listing, listing}
use Rattle.lowered_units.specs.Units.{name_of, inner_graphs, function_graph, function_listings, IsTranslated}
use Rattle.lowered_units.proofs.Entries.{length-new}
use Rattle.lowered_units.proofs.Heads.{listing-is}
use Rattle.lowered_units.proofs.OneUnit.{inside_in, head_of, nil-is-no-cons, cons-is-no-nil, heads, tails}
use Rattle.lowering_meaning.proofs.Bare.{unit-bare}

module _ (p : Program) where
  -- the graph is that of the function of a place
  pub record IsHead (place own : ℕ) (f : Function) (g : Graph) : Type 0 where
    pub number : (out-Graph g).number ≡ own
    pub exported : (out-Graph g).exported ≡ list_any (nat_eq place) p.defines
    pub name : (out-Graph g).name ≡ name_of p f
    pub fun : (out-Graph g).fun ≡ header_label p f

  head-is : (place q : ℕ) (f : Function) (m : Lowered) (rest : Listing) (h : Graph) → listing h ≡ function_graph p place f q (closed [] 0 0 m) ∷ rest → IsHead place q f h
  head-is place q f m rest h e =
      let own = function_graph p place f q (closed [] 0 0 m) in
      let head : head_of h ≡ own = heads (head_of h) own (inside_in (out-Graph h).nodes) rest (sym (listing-is h) ∙ e) in
      record {
        number = ap (λ (y : ListedGraph). y.number) head;
        exported = ap (λ (y : ListedGraph). y.exported) head;
        name = ap (λ (y : ListedGraph). y.name) head;
        fun = ap (λ (y : ListedGraph). y.fun) head;
      }

  -- marks are no matter
  head-bare : (place q : ℕ) (f : Function) (g h : Graph) → unmarked g ≡ unmarked h → IsHead place q f h → IsHead place q f g
  head-bare place q f g h e k =
      let views : out-Graph (unmarked g) ≡ out-Graph (unmarked h) = ap out-Graph e in
      record {
        number = sym (ap (λ (x : Graph-F Graph Node). x.number) (unmarked-at g)) ∙ (ap (λ (x : Graph-F Graph Node). x.number) views ∙ (ap (λ (x : Graph-F Graph Node). x.number) (unmarked-at h) ∙ k.number));
        exported = sym (ap (λ (x : Graph-F Graph Node). x.exported) (unmarked-at g)) ∙ (ap (λ (x : Graph-F Graph Node). x.exported) views ∙ (ap (λ (x : Graph-F Graph Node). x.exported) (unmarked-at h) ∙ k.exported));
        name = sym (ap (λ (x : Graph-F Graph Node). x.name) (unmarked-at g)) ∙ (ap (λ (x : Graph-F Graph Node). x.name) views ∙ (ap (λ (x : Graph-F Graph Node). x.name) (unmarked-at h) ∙ k.name));
        fun = sym (ap (λ (x : Graph-F Graph Node). x.fun) (unmarked-at g)) ∙ (ap (λ (x : Graph-F Graph Node). x.fun) views ∙ (ap (λ (x : Graph-F Graph Node). x.fun) (unmarked-at h) ∙ k.fun));
      }

  -- each graph is that of a function
  graphs-headed : (place q : ℕ) (fs : List Function) (ms : List Lowered) (gs hs : List Graph) → map listing hs ≡ function_listings p place q fs ms → map unmarked gs ≡ map unmarked hs
      → (i j : ℕ) (g : Graph) → j ≡ place + i → slice_get gs i ≡ Some g → (f : Function) × (slice_get fs i ≡ Some f) × IsHead j (get_or (numbers q ms) i 0) f g
  graphs-headed place q fs ms [] hs e b i j g k s = absurd cc
  graphs-headed place q fs ms (x ∷ gs) [] e b i j g k s = cons-is-no-nil (unmarked x) (map unmarked gs) b
  graphs-headed place q [] ms (x ∷ gs) (h ∷ hs) e b i j g k s = cons-is-no-nil (listing h) (map listing hs) e
  graphs-headed place q (f ∷ fs) [] (x ∷ gs) (h ∷ hs) e b i j g k s = cons-is-no-nil (listing h) (map listing hs) e
  graphs-headed place q (f ∷ fs) (m ∷ ms) (x ∷ gs) (h ∷ hs) e b zero j g k s =
      let own = function_graph p place f q (closed [] 0 0 m) ∷ inner_graphs p (suc q) m.graphs in
      let rest = function_listings p (suc place) (q + size m) fs ms in
      let head = head-is place q f m (inner_graphs p (suc q) m.graphs) h (heads (listing h) own (map listing hs) rest e) in
      let bare = head-bare place q f x h (heads (unmarked x) (unmarked h) (map unmarked gs) (map unmarked hs) b) head in
      let at : j ≡ place = omega (arith, k) in
      (f, refl, subst (λ y. IsHead j q f y) (same s) (subst (λ n. IsHead n q f x) (sym at) bare))
    where
      same : Some x ≡ Some g → x ≡ g
      same s = cc
  graphs-headed place q (f ∷ fs) (m ∷ ms) (x ∷ gs) (h ∷ hs) e b (suc i) j g k s =
      let own = function_graph p place f q (closed [] 0 0 m) ∷ inner_graphs p (suc q) m.graphs in
      let rest = function_listings p (suc place) (q + size m) fs ms in
      graphs-headed (suc place) (q + size m) fs ms gs hs (tails (listing h) own (map listing hs) rest e) (tails (unmarked x) (unmarked h) (map unmarked gs) (map unmarked hs) b) i j g (omega (arith, k)) s

  -- and each function has one
  functions-headed : (place q : ℕ) (fs : List Function) (ms : List Lowered) (gs hs : List Graph) → length ms ≡ length fs → map listing hs ≡ function_listings p place q fs ms → map unmarked gs ≡ map unmarked hs
      → (i : ℕ) (f : Function) → slice_get fs i ≡ Some f → (g : Graph) × (slice_get gs i ≡ Some g)
  functions-headed place q [] ms gs hs l e b i f s = absurd cc
  functions-headed place q (x ∷ fs) [] gs hs l e b i f s = absurd (omega (arith, l))
  functions-headed place q (x ∷ fs) (m ∷ ms) gs [] l e b i f s =
      nil-is-no-cons (function_graph p place x q (closed [] 0 0 m) ∷ inner_graphs p (suc q) m.graphs) (function_listings p (suc place) (q + size m) fs ms) e
  functions-headed place q (x ∷ fs) (m ∷ ms) [] (h ∷ hs) l e b i f s = nil-is-no-cons (unmarked h) (map unmarked hs) b
  functions-headed place q (x ∷ fs) (m ∷ ms) (g ∷ gs) (h ∷ hs) l e b zero f s = (g, refl)
  functions-headed place q (x ∷ fs) (m ∷ ms) (g ∷ gs) (h ∷ hs) l e b (suc i) f s =
      let own = function_graph p place x q (closed [] 0 0 m) ∷ inner_graphs p (suc q) m.graphs in
      let rest = function_listings p (suc place) (q + size m) fs ms in
      functions-headed (suc place) (q + size m) fs ms gs hs (omega (arith, l)) (tails (listing h) own (map listing hs) rest e) (tails (unmarked g) (unmarked h) (map unmarked gs) (map unmarked hs) b) i f s

  -- ---- numbers

  number-from : (q : ℕ) (ms : List Lowered) (i : ℕ) → i < length ms → q ≤ get_or (numbers q ms) i 0
  number-from q [] i h = absurd (omega (arith, h))
  number-from q (m ∷ ms) zero h = omega arith
  number-from q (m ∷ ms) (suc i) h = omega (arith, number-from (q + size m) ms i (omega (arith, h)))

  -- no two graphs have one number
  numbers-apart : (q : ℕ) (ms : List Lowered) (i j : ℕ) → i < length ms → j < length ms → get_or (numbers q ms) i 0 ≡ get_or (numbers q ms) j 0 → i ≡ j
  numbers-apart q [] i j a b e = absurd (omega (arith, a))
  numbers-apart q (m ∷ ms) zero zero a b e = refl
  numbers-apart q (m ∷ ms) zero (suc j) a b e = absurd (omega (arith, e, number-from (q + size m) ms j (omega (arith, b))))
  numbers-apart q (m ∷ ms) (suc i) zero a b e = absurd (omega (arith, e, number-from (q + size m) ms i (omega (arith, a))))
  numbers-apart q (m ∷ ms) (suc i) (suc j) a b e = ap suc (numbers-apart (q + size m) ms i j (omega (arith, a)) (omega (arith, b)) e)

-- ---- a unit, with the marks that are made

module _ (p : Program) (v : Unit1) (t : IsTranslated p v) where
  bare : map unmarked (marks_of v).graphs ≡ map unmarked v.graphs
  bare = ap (λ (u : Unit1). u.graphs) (unit-bare v)

  count : length (functions_lowered p) ≡ length p.functions
  count = length-new p 1 (map (function_lowered p.types) p.functions) ∙ length-map p.functions (function_lowered p.types)

  pub graph-head : (i : ℕ) (g : Graph) → slice_get (marks_of v).graphs i ≡ Some g → (f : Function) × (slice_get p.functions i ≡ Some f) × IsHead p i (number_of p i) f g
  graph-head i g s = graphs-headed p 0 1 p.functions (functions_lowered p) (marks_of v).graphs v.graphs t.graphs bare i i g (omega arith) s

  pub function-head : (i : ℕ) (f : Function) → slice_get p.functions i ≡ Some f → (g : Graph) × (slice_get (marks_of v).graphs i ≡ Some g) × IsHead p i (number_of p i) f g
  function-head i f s =
      let g = functions-headed p 0 1 p.functions (functions_lowered p) (marks_of v).graphs v.graphs count t.graphs bare i f s in
      let h = graph-head i g.0 g.1 in
      (g.0, g.1, subst (λ f. IsHead p i (number_of p i) f g.0) (same h.0 (sym h.1 ∙ s)) h.2)
    where
      same : (x : Function) → Some x ≡ Some f → x ≡ f
      same x e = cc

  pub number-once : (i j : ℕ) (f d : Function) → slice_get p.functions i ≡ Some f → slice_get p.functions j ≡ Some d → number_of p i ≡ number_of p j → i ≡ j
  number-once i j f d a b e =
      numbers-apart p 1 (functions_lowered p) i j (omega (arith, count, slice_get_within p.functions i f a)) (omega (arith, count, slice_get_within p.functions j d b)) e
