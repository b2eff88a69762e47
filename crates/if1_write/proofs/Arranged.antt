-- The edges of a graph in the order of its lines are the same edges, port by port.
use Rattle.std.proofs.Common.{◌≡◌, ℕ, zero, suc, ◌<◌, ◌≤◌, Bool, true, false, ◌&&◌, cond, List, [], ◌∷◌, ◌++◌, map, length, get_or, Option, Some, None, if◌then◌else◌, ◌⊎◌, inl, inr, refl, sym, ap, subst, ◌∙◌, arith, eqb, true≢false, append-nil}
use Rattle.std.specs.Prelude.{All, Contains, filter, find, ◌==◌}
use Rattle.std.specs.List.{flat_map}
use Rattle.std.proofs.lemmas.Option.{none-some}
use Rattle.std.proofs.lemmas.Bool.{eq-eqb}
use Rattle.std.proofs.lemmas.Bool.Decides.{eqb_tells}
use Rattle.std.proofs.lemmas.List.Elements.{All-nil, All-cons, All-head, All-tail, All-filter, filter-append, filter_passes}
use Rattle.if1_graph.specs.declared.graph.Graph.{Graph}
use Rattle.if1_graph.specs.declared.graph.Graph.TheViews.{out-Graph}
use Rattle.if1_graph.specs.declared.graph.Node.{Node}
use Rattle.if1_graph.specs.declared.graph.Edge.{Edge}
use Rattle.if1_graph.specs.declared.graph.Unit1.{Unit1}
use Rattle.if1_graph.specs.Units.{label_of, node_at}
use Rattle.if1_graph.specs.Formed.{IsOnce}
use Rattle.if1_graph.specs.Normal.{canonical_edge}
use Rattle.if1_graph.specs.Reads.{AreEdges}
use Rattle.if1_write.proofs.Alls.{none_pass, same_each}

abbrev pub into : List Edge → ℕ → List Edge
into es l = filter (λ e. e.node == l) es

-- those that lead into each of these nodes
abbrev pub groups : List Edge → List Node → List Edge
groups es ns = flat_map (λ n. into es (label_of n)) ns

-- the edges of a graph in the order of its lines
abbrev pub arranged : Graph → List Edge
arranged g = groups (out-Graph g).edges (out-Graph g).nodes ++ into (out-Graph g).edges 0

abbrev fills : ℕ → ℕ → Edge → Bool
fills l port e = (e.node == l) && (e.port == port)

pub differs : (a b : ℕ) → (a ≡ b → ⊥) → (a == b) ≡ false
differs a b h = elim (eqb_tells a b) [ inl e ↦ absurd (h e.1) | inr e ↦ e.0 ]

not_there : (l port : ℕ) (e : Edge) → (e.node ≡ l → ⊥) → fills l port e ≡ false
not_there l port e h = ap (λ b. b && (e.port == port)) (differs e.node l h)

kept : (b c : Bool) (e : Edge) (xs ys : List Edge) (q : Edge → Bool) → q e ≡ (b && c) → filter q xs ≡ ys →
    filter q (if b then e ∷ xs else xs) ≡ (if (b && c) then e ∷ ys else ys)
kept true c e xs ys q h ih = ap (λ b. if b then e ∷ filter q xs else filter q xs) h ∙ ap (λ zs. if c then e ∷ zs else zs) ih
kept false c e xs ys q h ih = ih

-- what fills a port of a node leads into this node
of_node : (l port : ℕ) (es : List Edge) → filter (fills l port) (into es l) ≡ filter (fills l port) es
of_node l port [] = refl
of_node l port (e ∷ es) = kept (e.node == l) (e.port == port) e (into es l) (filter (fills l port) es) (fills l port) refl (of_node l port es)

of_other : (l port m : ℕ) → (m ≡ l → ⊥) → (es : List Edge) → filter (fills l port) (into es m) ≡ []
of_other l port m h es =
    none_pass (fills l port) (into es m)
    (λ k d i. not_there l port (get_or (into es m) k d)
    (λ e. h (sym (at_node (get_or (into es m) k d) (filter_passes (λ (f : Edge). f.node == m) es k d i)) ∙ e)))
  where
    at_node : (f : Edge) → (f.node == m) ≡ true → f.node ≡ m
    at_node f t = elim (eqb_tells f.node m) [ inl p ↦ p.1 | inr p ↦ absurd (true≢false (sym t ∙ p.0)) ]

absent : (l port : ℕ) (es : List Edge) (ns : List Node) → All (λ n. label_of n ≡ l → ⊥) ns → filter (fills l port) (groups es ns) ≡ []
absent l port es [] h = refl
absent l port es (n ∷ ns) h =
    filter-append (fills l port) (into es (label_of n)) (groups es ns)
    ∙ ap (λ t. t ++ filter (fills l port) (groups es ns)) (of_other l port (label_of n) (All-head (λ m. label_of m ≡ l → ⊥) n ns h) es)
    ∙ absent l port es ns (All-tail (λ m. label_of m ≡ l → ⊥) n ns h)

-- a label that stands once
pub others : (ns : List Node) (a : ℕ) → (Contains (map label_of ns) a → ⊥) → All (λ n. label_of n ≡ a → ⊥) ns
others [] a h = All-nil (λ n. label_of n ≡ a → ⊥)
others (n ∷ ns) a h =
    All-cons (λ m. label_of m ≡ a → ⊥) n ns
    (λ e. h (0, omega arith, e))
    (others ns a (λ c. h (suc c.0, omega (arith, c.1), c.2)))

named_first : (n : Node) (ns : List Node) (l : ℕ) (o : Option Node) → (label_of n == l) ≡ false → node_at (n ∷ ns) l ≡ o → node_at ns l ≡ o
named_first n ns l o e h = sym (ap (λ (b : Bool). cond b (Some n) (node_at ns l)) e) ∙ h

this_one : (l port : ℕ) (es : List Edge) (ns : List Node) (a : ℕ) → a ≡ l → All (λ n. label_of n ≡ a → ⊥) ns →
    filter (fills l port) (into es a) ++ filter (fills l port) (groups es ns) ≡ filter (fills l port) es
this_one l port es ns a e h =
    ap (λ t. t ++ filter (fills l port) (groups es ns)) (ap (λ k. filter (fills l port) (into es k)) e ∙ of_node l port es)
    ∙ ap (λ t. filter (fills l port) es ++ t) (absent l port es ns (subst (λ (k : ℕ). All (λ (n : Node). label_of n ≡ k → ⊥) ns) e h))
    ∙ append-nil (filter (fills l port) es)

present : (l port : ℕ) (es : List Edge) (ns : List Node) (m : Node) → IsOnce (map label_of ns) → node_at ns l ≡ Some m →
    filter (fills l port) (groups es ns) ≡ filter (fills l port) es
present l port es [] m o h = absurd (none-some m h)
present l port es (n ∷ ns) m o h =
    let both : filter (fills l port) (into es (label_of n)) ++ filter (fills l port) (groups es ns) ≡ filter (fills l port) es =
    elim (eqb_tells (label_of n) l) [
      | inl p ↦ this_one l port es ns (label_of n) p.1 (others ns (label_of n) o.0)
      | inr p ↦
          ap (λ t. t ++ filter (fills l port) (groups es ns)) (of_other l port (label_of n) p.1 es)
          ∙ present l port es ns m o.1 (named_first n ns l (Some m) p.0 h)
    ] in
    filter-append (fills l port) (into es (label_of n)) (groups es ns) ∙ both

missing : (ns : List Node) (l : ℕ) → node_at ns l ≡ None → All (λ n. label_of n ≡ l → ⊥) ns
missing [] l h = All-nil (λ n. label_of n ≡ l → ⊥)
missing (n ∷ ns) l h =
    elim (eqb_tells (label_of n) l) [
      | inl p ↦ absurd (none-some n (sym h ∙ ap (λ (b : Bool). cond b (Some n) (node_at ns l)) p.0))
      | inr p ↦ All-cons (λ m. label_of m ≡ l → ⊥) n ns p.1 (missing ns l (named_first n ns l None p.0 h))
    ]

-- an edge leads into the boundary or to a node that is there
abbrev pub Present : List Node → ℕ → Type 0
Present ns l = (l ≡ 0) ⊎ ((n : Node) × (node_at ns l ≡ Some n))

no_edge : (ns : List Node) (l : ℕ) (e : Edge) → (0 ≡ l → ⊥) → node_at ns l ≡ None → Present ns e.node → e.node ≡ l → ⊥
no_edge ns l e z none h is =
    elim h [
      | inl first ↦ z (sym first ∙ is)
      | inr found ↦ none-some found.0 (sym none ∙ (ap (node_at ns) (sym is) ∙ found.1))
    ]

at_nodes : (l port : ℕ) (es : List Edge) (ns : List Node) → IsOnce (map label_of ns) → All (λ e. Present ns e.node) es → (0 ≡ l → ⊥) →
    (o : Option Node) → node_at ns l ≡ o → filter (fills l port) (groups es ns) ≡ filter (fills l port) es
at_nodes l port es ns once there z (Some m) e = present l port es ns m once e
at_nodes l port es ns once there z None e =
    absent l port es ns (missing ns l e)
    ∙ sym (none_pass (fills l port) es (λ k d i. not_there l port (get_or es k d) (no_edge ns l (get_or es k d) z e (there k d i))))

whole : (l port : ℕ) (es : List Edge) (ns : List Node) → IsOnce (map label_of ns) → All (λ n. 1 ≤ label_of n) ns → All (λ e. Present ns e.node) es →
    filter (fills l port) (groups es ns ++ into es 0) ≡ filter (fills l port) es
whole l port es ns once ones there =
    let both : filter (fills l port) (groups es ns) ++ filter (fills l port) (into es 0) ≡ filter (fills l port) es =
    elim (eqb_tells 0 l) [
      | inl p ↦
          ap (λ t. t ++ filter (fills l port) (into es 0)) (absent l port es ns (λ k d i e. none_zero (label_of (get_or ns k d)) (ones k d i) (e ∙ sym p.1)))
          ∙ (ap (λ k. filter (fills l port) (into es k)) p.1 ∙ of_node l port es)
      | inr p ↦
          ap (λ t. filter (fills l port) (groups es ns) ++ t) (of_other l port 0 p.1 es)
          ∙ append-nil (filter (fills l port) (groups es ns))
          ∙ at_nodes l port es ns once there p.1 (node_at ns l) refl
    ] in
    filter-append (fills l port) (groups es ns) (into es 0) ∙ both
  where
    none_zero : (n : ℕ) → 1 ≤ n → n ≡ 0 → ⊥
    none_zero n h e = omega (arith, h, e)

pub are_edges : (u : Unit1) (g : Graph) → IsOnce (map label_of (out-Graph g).nodes) → All (λ n. 1 ≤ label_of n) (out-Graph g).nodes →
    All (λ e. Present (out-Graph g).nodes e.node) (out-Graph g).edges → All (λ e. canonical_edge u g e ≡ e) (out-Graph g).edges →
    AreEdges u g (out-Graph g).edges (arranged g)
are_edges u g once ones there literals l port =
    let es = (out-Graph g).edges in
    sym (ap (map (canonical_edge u g)) (whole l port es (out-Graph g).nodes once ones there)
    ∙ same_each (canonical_edge u g) (filter (fills l port) es) (All-filter (fills l port) (λ e. canonical_edge u g e ≡ e) es literals))
