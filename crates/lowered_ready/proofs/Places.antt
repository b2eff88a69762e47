-- At each place of a translated unit stands a lowered graph.
use Rattle.std.proofs.Common.{◌≡◌, ℕ, zero, suc, ◌+◌, ◌<◌, inl, inr, List, [], ◌∷◌, map, length, get_or, Some, slice_get, refl, sym, ap, subst, ◌∙◌, arith}
use Rattle.std.specs.Prelude.{All}
use Rattle.std.specs.List.{flat_map}
use Rattle.std.proofs.lemmas.List.Elements.{All-nil, All-cons, All-append}
use Rattle.if1_graph.specs.declared.graph.Graph.{Graph}
use Rattle.if1_graph.specs.declared.graph.Graph.TheViews.{out-Graph}
use Rattle.if1_graph.specs.declared.graph.Node.{Node, out-Node}
use Rattle.if1_graph.specs.declared.graph.Unit1.{Unit1}
use Rattle.if1_graph.specs.Units.{most_levels, Home, Function, Inside, Place, each_from, places_of, places}
use Rattle.typed_tree.specs.declared.program.Function as typed
use Rattle.typed_tree.specs.declared.program.Program.{Program}
use Rattle.lowering.specs.declared.graph.Lowered.{Lowered}
use Rattle.lowering.specs.Graphs.{size, numbers, closed}
use Rattle.lowering.specs.Programs.{functions_lowered, number_of}
use Rattle.lowered_units.specs.Listed.{ListedGraph, Listing, all_of, listing}
use Rattle.lowered_units.specs.Units.{inner_graphs, function_graph, function_listings, IsTranslated}
use Rattle.lowered_units.proofs.Entries.{whole_listing, entry}
use Rattle.lowered_units.proofs.Heads.{In, listing-is, Within, part-within, all-within}
use Rattle.lowered_units.proofs.OneUnit.{inside_in, head_of, nil-is-no-cons, heads, tails}
use Rattle.lowered_ready.specs.Shapes.{IsLowered, IsFunctionOf, ArePartsLowered, StandsAt, IsShaped}

pub in-at : {A : Type 0} (xs : List A) (i : ℕ) (x : A) → slice_get xs i ≡ Some x → In x xs
in-at [] i x e = absurd cc
in-at (y ∷ xs) zero x e = inl (same e)
  where
    same : Some y ≡ Some x → x ≡ y
    same e = cc
in-at (y ∷ xs) (suc i) x e = inr (in-at xs i x e)

-- these stand in the list from a place on
abbrev From : {A : Type 0} → List A → ℕ → List A → Type 0
From {A = A} whole k xs = (j : ℕ) (x : A) → slice_get xs j ≡ Some x → slice_get whole (k + j) ≡ Some x

from-all : {A : Type 0} (xs : List A) → From xs 0 xs
from-all xs j x e = subst (λ i. slice_get xs i ≡ Some x) (omega arith) e

from-head : {A : Type 0} (whole : List A) (k : ℕ) (x : A) (xs : List A) → From whole k (x ∷ xs) → slice_get whole k ≡ Some x
from-head whole k x xs f = subst (λ i. slice_get whole i ≡ Some x) (omega arith) (f 0 x refl)

from-tail : {A : Type 0} (whole : List A) (k : ℕ) (x : A) (xs : List A) → From whole k (x ∷ xs) → From whole (suc k) xs
from-tail whole k x xs f j y e = subst (λ i. slice_get whole i ≡ Some y) (omega arith) (f (suc j) y e)

abbrev at : Home → Graph → Place
at home g = record { graph = g; home = home }

module _ (p : Program) where
  abbrev Lies : Graph → Type 0
  Lies g = Within (listing g) (whole_listing p)

  pub lies-lowered : (g : Graph) → Lies g → IsLowered p g
  lies-lowered g w =
      let e = entry p (head_of g) (w (head_of g) (subst (In (head_of g)) (sym (listing-is g)) (inl refl))) in
      (e.graph, record { there = e.there; nodes = e.nodes; edges = e.edges })

  part-lies : (g : Graph) → Lies g → (i : ℕ) (n : Node) → slice_get (out-Graph g).nodes i ≡ Some n → (k : ℕ) (s : Graph) → slice_get (out-Node n).subs k ≡ Some s → Lies s
  part-lies g w i n e k s h x j = w x (part-within g n s (in-at (out-Graph g).nodes i n e) (in-at (out-Node n).subs k s h) x j)

  parts-lowered : (g : Graph) → Lies g → (i : ℕ) (n : Node) → slice_get (out-Graph g).nodes i ≡ Some n → ArePartsLowered p n
  parts-lowered g w i n e k s h = lies-lowered s (part-lies g w i n e k s h)

  shaped : (home : Home) (g : Graph) → Lies g → StandsAt p home g → IsShaped p (at home g)
  shaped home g w s = let d = lies-lowered g w in record { graph = d.0; is = d.1; home = s; inside = parts-lowered g w }

  abbrev Walks : ℕ → Type 0
  Walks more = (home : Home) (g : Graph) → Lies g → StandsAt p home g → All (IsShaped p) (places_of more home g)

  walk-parts : (more : ℕ) → Walks more → (outer : Graph) → Lies outer → (i : ℕ) (n : Node) → slice_get (out-Graph outer).nodes i ≡ Some n → (k : ℕ) (gs : List Graph) → From (out-Node n).subs k gs
      → All (IsShaped p) (each_from (λ k s. places_of more (Inside outer n k) s) k gs)
  walk-parts more walk outer w i n e k [] f = All-nil (IsShaped p)
  walk-parts more walk outer w i n e k (s ∷ gs) f =
      let here = from-head (out-Node n).subs k s gs f in
      let d = lies-lowered outer w in
      All-append (IsShaped p) (places_of more (Inside outer n k) s) (each_from (λ k s. places_of more (Inside outer n k) s) (suc k) gs)
      (walk (Inside outer n k) s (part-lies outer w i n e k s here) (record { around = d.0; is = d.1; place = i; node = e; part = here; parts = parts-lowered outer w i n e }))
      (walk-parts more walk outer w i n e (suc k) gs (from-tail (out-Node n).subs k s gs f))

  walk-nodes : (more : ℕ) → Walks more → (g : Graph) → Lies g → (i : ℕ) (ns : List Node) → From (out-Graph g).nodes i ns
      → All (IsShaped p) (flat_map (λ n. each_from (λ k s. places_of more (Inside g n k) s) 0 (out-Node n).subs) ns)
  walk-nodes more walk g w i [] f = All-nil (IsShaped p)
  walk-nodes more walk g w i (n ∷ ns) f =
      All-append (IsShaped p) (each_from (λ k s. places_of more (Inside g n k) s) 0 (out-Node n).subs) (flat_map (λ n. each_from (λ k s. places_of more (Inside g n k) s) 0 (out-Node n).subs) ns)
      (walk-parts more walk g w i n (from-head (out-Graph g).nodes i n ns f) 0 (out-Node n).subs (from-all (out-Node n).subs))
      (walk-nodes more walk g w (suc i) ns (from-tail (out-Graph g).nodes i n ns f))

  walk : (more : ℕ) → Walks more
  walk zero home g w s = All-cons (IsShaped p) (at home g) [] (shaped home g w s) (All-nil (IsShaped p))
  walk (suc more) home g w s =
      All-cons (IsShaped p) (at home g) (flat_map (λ n. each_from (λ k s. places_of more (Inside g n k) s) 0 (out-Node n).subs) (out-Graph g).nodes) (shaped home g w s)
      (walk-nodes more (walk more) g w 0 (out-Graph g).nodes (from-all (out-Graph g).nodes))

  -- ---- functions

  abbrev HeadAt : ℕ → Graph → Type 0
  HeadAt place g = (f : typed.Function) × IsFunctionOf p place f g

  abbrev Numbered : ℕ → ℕ → List Lowered → Type 0
  Numbered place q ms = (j : ℕ) → j < length ms → get_or (numbers q ms) j 0 ≡ number_of p (place + j)

  head-at : (place q : ℕ) (f : typed.Function) (m : Lowered) (rest : Listing) (g : Graph) → slice_get p.functions place ≡ Some f → q ≡ number_of p place
      → listing g ≡ function_graph p place f q (closed [] 0 0 m) ∷ rest → IsFunctionOf p place f g
  head-at place q f m rest g there number e =
      let own = function_graph p place f q (closed [] 0 0 m) in
      let head : head_of g ≡ own = heads (head_of g) own (inside_in (out-Graph g).nodes) rest (sym (listing-is g) ∙ e) in
      record {
        there = there;
        number = ap (λ (y : ListedGraph). y.number) head ∙ number;
        exported = ap (λ (y : ListedGraph). y.exported) head;
        name = ap (λ (y : ListedGraph). y.name) head;
        fun = ap (λ (y : ListedGraph). y.fun) head;
      }

  heads-at : (place q : ℕ) (fs : List typed.Function) (ms : List Lowered) (gs : List Graph) → map listing gs ≡ function_listings p place q fs ms → From p.functions place fs → Numbered place q ms
      → (i : ℕ) (g : Graph) → slice_get gs i ≡ Some g → HeadAt (place + i) g
  heads-at place q fs ms [] e f n i g s = absurd cc
  heads-at place q [] ms (x ∷ gs) e f n i g s = nil-is-no-cons (listing x) (map listing gs) (sym e)
  heads-at place q (y ∷ fs) [] (x ∷ gs) e f n i g s = nil-is-no-cons (listing x) (map listing gs) (sym e)
  heads-at place q (y ∷ fs) (m ∷ ms) (x ∷ gs) e f n zero g s =
      let own = function_graph p place y q (closed [] 0 0 m) ∷ inner_graphs p (suc q) m.graphs in
      let rest = function_listings p (suc place) (q + size m) fs ms in
      let here = head-at place q y m (inner_graphs p (suc q) m.graphs) x (from-head p.functions place y fs f) (n 0 (omega arith) ∙ ap (number_of p) (omega arith)) (heads (listing x) own (map listing gs) rest e) in
      subst (λ k. HeadAt k g) (omega arith) (subst (HeadAt place) (same s) (y, here))
    where
      same : Some x ≡ Some g → x ≡ g
      same s = cc
  heads-at place q (y ∷ fs) (m ∷ ms) (x ∷ gs) e f n (suc i) g s =
      let own = function_graph p place y q (closed [] 0 0 m) ∷ inner_graphs p (suc q) m.graphs in
      let rest = function_listings p (suc place) (q + size m) fs ms in
      subst (λ k. HeadAt k g) (omega arith)
      (heads-at (suc place) (q + size m) fs ms gs (tails (listing x) own (map listing gs) rest e) (from-tail p.functions place y fs f) (λ j l. n (suc j) (omega (arith, l)) ∙ ap (number_of p) (omega arith)) i g s)

  walk-functions : (k : ℕ) (gs : List Graph) → ((j : ℕ) (g : Graph) → slice_get gs j ≡ Some g → HeadAt (k + j) g) → ((g : Graph) → In g gs → Lies g)
      → All (IsShaped p) (each_from (λ k g. places_of most_levels (Function k) g) k gs)
  walk-functions k [] h w = All-nil (IsShaped p)
  walk-functions k (g ∷ gs) h w =
      All-append (IsShaped p) (places_of most_levels (Function k) g) (each_from (λ k g. places_of most_levels (Function k) g) (suc k) gs)
      (walk most_levels (Function k) g (w g (inl refl)) (subst (λ j. HeadAt j g) (omega arith) (h 0 g refl)))
      (walk-functions (suc k) gs (λ j x e. subst (λ i. HeadAt i x) (omega arith) (h (suc j) x e)) (λ x i. w x (inr i)))

  module _ (u : Unit1) (t : IsTranslated p u) where
    -- the graphs of a unit are those of the functions
    pub graph-head : (i : ℕ) (g : Graph) → slice_get u.graphs i ≡ Some g → HeadAt i g
    graph-head i g s =
        subst (λ k. HeadAt k g) (omega arith)
        (heads-at 0 1 p.functions (functions_lowered p) u.graphs t.graphs (from-all p.functions) (λ j l. ap (number_of p) (omega arith)) i g s)

    pub all-shaped : All (IsShaped p) (places u)
    all-shaped =
        walk-functions 0 u.graphs (λ j g e. subst (λ k. HeadAt k g) (omega arith) (graph-head j g e)) (λ g i x k. subst (In x) (ap all_of t.graphs) (all-within u.graphs g i x k))
