-- What is lowered has the sizes that are told of it.
use Rattle.std.proofs.Common.{◌≡◌, ℕ, suc, ◌+◌, max, List, [], ◌∷◌, ◌++◌, map, length, refl, ap, ◌∙◌, arith}
use Rattle.std.proofs.lemmas.List.{length-append, length-map}
use Rattle.if1_graph.specs.declared.op.Compound.{Compound}
use Rattle.lowering.specs.declared.feed.Carried.{Carried}
use Rattle.lowering.specs.declared.feed.Carried.TheVariants.{One}
use Rattle.lowering.specs.declared.feed.Wire.{Wire}
use Rattle.lowering.specs.declared.graph.Action.{Action}
use Rattle.lowering.specs.declared.graph.LoweredNode.{LoweredNode}
use Rattle.lowering.specs.declared.graph.LoweredGraph.{LoweredGraph}
use Rattle.lowering.specs.declared.graph.Lowered.{Lowered}
use Rattle.lowering.specs.Graphs.{Lowering, only as only_wires, joined as joined_graphs, andthen, ports, a_node as a_lowered_node, inputs, closed_nodes, closed_graphs, size, whole as whole_node, tag_case_on, new_graph, new_graphs}
use Rattle.lowering.specs.TooMany.{node_ports}
use Rattle.lowered_units.proofs.Kept.{weight, inner, inner-is, weight-joined}
use Rattle.lowered_sizes.specs.declared.sizes.Sizes.{Sizes}
use Rattle.lowered_sizes.specs.Counting.{only, joined, beside, a_node, parts, whole}

abbrev pub largest_in : List LoweredGraph → ℕ
largest_in [] = 0
largest_in (d ∷ ds) = max (length d.nodes) (largest_in ds)

largest-both : (ds es : List LoweredGraph) → largest_in (ds ++ es) ≡ max (largest_in ds) (largest_in es)
largest-both [] es = omega arith
largest-both (d ∷ ds) es = let rest = largest-both ds es in omega (arith, rest)

-- these sizes, and what is known of the values
pub record IsSized (P : List Wire → Type 0) (s : Sizes) (m : Lowered) : Type 0 where
  pub nodes : length m.nodes ≡ s.nodes
  pub graphs : length m.graphs ≡ s.graphs
  pub largest : largest_in m.graphs ≡ s.largest
  pub ports : weight m ≡ s.ports
  pub values : length m.values ≡ s.values
  pub known : P m.values

-- nothing is known of the values
abbrev pub Any : List Wire → Type 0
Any ws = Unit {0}

pub plainly : (P : List Wire → Type 0) (s : Sizes) (m : Lowered) → IsSized P s m → IsSized Any s m
plainly P s m h = record { nodes = h.nodes; graphs = h.graphs; largest = h.largest; ports = h.ports; values = h.values; known = tt }

abbrev pub Gives : (List Wire → Type 0) → Sizes → Lowering → Type 0
Gives P s f = (n q : ℕ) → IsSized P s (f n q)

-- sizes that are the same
pub record AreSame (s t : Sizes) : Type 0 where
  pub nodes : s.nodes ≡ t.nodes
  pub graphs : s.graphs ≡ t.graphs
  pub largest : s.largest ≡ t.largest
  pub ports : s.ports ≡ t.ports
  pub values : s.values ≡ t.values

pub resized : (P : List Wire → Type 0) (s t : Sizes) (f : Lowering) → AreSame s t → Gives P s f → Gives P t f
resized P s t f e h n q =
    let m = h n q in
    record { nodes = m.nodes ∙ e.nodes; graphs = m.graphs ∙ e.graphs; largest = m.largest ∙ e.largest; ports = m.ports ∙ e.ports; values = m.values ∙ e.values; known = m.known }

pub only-gives : (P : List Wire → Type 0) (ws : List Wire) → P ws → Gives P (only (length ws)) (only_wires ws)
only-gives P ws h n q = record { nodes = refl; graphs = refl; largest = refl; ports = refl; values = refl; known = h }

joined-sized : (P Q : List Wire → Type 0) (s t : Sizes) (a b : Lowered) → IsSized P s a → IsSized Q t b → IsSized Q (joined s t) (joined_graphs a b)
joined-sized P Q s t a b x y = record {
  nodes = let l = length-append a.nodes b.nodes in omega (arith, l, x.nodes, y.nodes);
  graphs = let l = length-append a.graphs b.graphs in omega (arith, l, x.graphs, y.graphs);
  largest = let l = largest-both a.graphs b.graphs in omega (arith, l, x.largest, y.largest);
  ports = let l = weight-joined a b in omega (arith, l, x.ports, y.ports);
  values = y.values;
  known = y.known;
}

pub then-gives : (P Q : List Wire → Type 0) (s t : Sizes) (f : Lowering) (h : List Wire → Lowering) → Gives P s f → ((ws : List Wire) → P ws → length ws ≡ s.values → Gives Q t (h ws)) → Gives Q (joined s t) (andthen f h)
then-gives P Q s t f h a b n q =
    let m = f n q in
    let x = a n q in
    joined-sized P Q s t m (h m.values (n + length m.nodes) (q + length m.graphs)) x (b m.values x.known x.values (n + length m.nodes) (q + length m.graphs))

-- one behind the other, with the values of both
pub beside-gives : (P Q R : List Wire → Type 0) (s t : Sizes) (f g : Lowering) → ((vs ws : List Wire) → P vs → Q ws → R (vs ++ ws)) → Gives P s f → Gives Q t g → Gives R (beside s t) (andthen f (λ vs. andthen g (λ ws. only_wires (vs ++ ws))))
beside-gives P Q R s t f g k a b =
    resized R (joined s (joined t (only (s.values + t.values)))) (beside s t) (andthen f (λ vs. andthen g (λ ws. only_wires (vs ++ ws))))
    (record { nodes = omega arith; graphs = omega arith; largest = omega arith; ports = omega arith; values = refl })
    (then-gives P R s (joined t (only (s.values + t.values))) f (λ vs. andthen g (λ ws. only_wires (vs ++ ws))) a
    (λ vs pv lv. then-gives Q R t (only (s.values + t.values)) g (λ ws. only_wires (vs ++ ws)) b
    (λ ws qw lw. resized R (only (length (vs ++ ws))) (only (s.values + t.values)) (only_wires (vs ++ ws))
    (record { nodes = refl; graphs = refl; largest = refl; ports = refl; values = let l = length-append vs ws in omega (arith, l, lv, lw) })
    (only-gives R (vs ++ ws) (k vs ws pv qw)))))

length-ports : (n port : ℕ) (ts : List Carried) → length (ports n port ts) ≡ length ts
length-ports n port [] = refl
length-ports n port (t ∷ ts) = ap suc (length-ports n (suc port) ts)

-- a node without graphs inside
pub row-gives : (P : List Wire → Type 0) (a : Action) (ins : List Wire) (port : ℕ) (ts : List Carried) → node_ports a ins ≡ suc (length ins) → ((n : ℕ) → P (ports n port ts)) → Gives P (a_node (length ins) (length ts)) (a_lowered_node a ins port ts)
row-gives P a ins port ts e h n q = record { nodes = refl; graphs = refl; largest = refl; ports = omega (arith, e); values = length-ports (suc n) port ts; known = h (suc n) }

-- ---- compound nodes

pub data AreSized : List Sizes → List Lowered → Type 0 where
  no_part : AreSized [] []
  a_part : (s : Sizes) (ss : List Sizes) (m : Lowered) (ms : List Lowered) → IsSized Any s m → AreSized ss ms → AreSized (s ∷ ss) (m ∷ ms)

pub record HasParts (s : Sizes) (ds : List LoweredGraph) (ms : List Lowered) : Type 0 where
  pub graphs : length ds ≡ s.graphs
  pub largest : largest_in ds ≡ s.largest
  pub ports : inner ms ≡ s.ports
  pub none : s.nodes ≡ 0

closed-nodes : (ks : List Wire) (first own : ℕ) (vs : List LoweredNode) → length (closed_nodes ks first own vs) ≡ length vs
closed-nodes ks first own [] = refl
closed-nodes ks first own (v ∷ vs) = ap suc (closed-nodes ks first own vs)

pub closed-parts : (ks : List Wire) (first own : ℕ) (ss : List Sizes) (ms : List Lowered) → AreSized ss ms → HasParts (parts ss) (closed_graphs ks first own ms) ms
closed-parts ks first own _ _ no_part = record { graphs = refl; largest = refl; ports = refl; none = refl }
closed-parts ks first own _ _ (a_part s ss m ms x r) =
    let rest = closed-parts ks first own ss ms r in
    let same = closed-nodes ks first own m.nodes in
    record {
      graphs = let l = length-append m.graphs (closed_graphs ks first own ms) in omega (arith, l, x.graphs, rest.graphs);
      largest = let l = largest-both m.graphs (closed_graphs ks first own ms) in omega (arith, l, same, x.nodes, x.largest, rest.largest);
      ports = omega (arith, x.ports, x.values, rest.ports);
      none = omega (arith, rest.none);
    }

pub whole-sized : (P : List Wire → Type 0) (n q : ℕ) (c : Compound) (ss : List Sizes) (ms : List Lowered) (arms : List ℕ) (given : ℕ) (ts : List ℕ) → AreSized ss ms → P (ports (suc n) 1 (map One ts)) → IsSized P (whole ss (length ts)) (whole_node c ms arms given ts n q)
whole-sized P n q c ss ms arms given ts h k =
    let ks = inputs ms in
    let r = closed-parts ks 0 (length ks) ss ms h in
    let i = inner-is ks 0 (length ks) ms in
    record {
      nodes = omega (arith, r.none);
      graphs = omega (arith, r.graphs);
      largest = omega (arith, r.largest);
      ports = omega (arith, r.ports, i);
      values = length-ports (suc n) 1 (map One ts) ∙ length-map ts One;
      known = k;
    }

pub tag-sized : (P : List Wire → Type 0) (n q : ℕ) (u : Wire) (ss : List Sizes) (ms : List Lowered) (arms ts : List ℕ) → AreSized ss ms → P (ports (suc n) 1 (map One ts)) → IsSized P (whole ss (length ts)) (tag_case_on u ms arms ts n q)
tag-sized P n q u ss ms arms ts h k =
    let ks = inputs ms in
    let r = closed-parts ks 1 0 ss ms h in
    let i = inner-is ks 1 0 ms in
    record {
      nodes = omega (arith, r.none);
      graphs = omega (arith, r.graphs);
      largest = omega (arith, r.largest);
      ports = omega (arith, r.ports, i);
      values = length-ports (suc n) 1 (map One ts) ∙ length-map ts One;
      known = k;
    }

pub data AllGive : List Sizes → List Lowering → Type 0 where
  gives_none : AllGive [] []
  gives_more : (s : Sizes) (ss : List Sizes) (f : Lowering) (fs : List Lowering) → Gives Any s f → AllGive ss fs → AllGive (s ∷ ss) (f ∷ fs)

pub new-sized : (q : ℕ) (ss : List Sizes) (fs : List Lowering) → AllGive ss fs → AreSized ss (new_graphs q fs)
new-sized q _ _ gives_none = no_part
new-sized q _ _ (gives_more s ss f fs h r) = a_part s ss (new_graph f q) (new_graphs (q + size (new_graph f q)) fs) (h 0 (suc q)) (new-sized (q + size (new_graph f q)) ss fs r)
