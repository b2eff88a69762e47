-- The graphs in nodes of lower labels are those in the nodes that stand before.
use Rattle.std.proofs.Common.{◌≡◌, ℕ, zero, suc, ◌+◌, ◌<◌, Bool, cond, ltb, List, [], ◌∷◌, ◌++◌, map, length, get_or, refl, ap, ◌∙◌, arith, append-nil}
use Rattle.std.specs.Prelude.{All, filter}
use Rattle.std.specs.List.{flat_map}
use Rattle.std.specs.List.Sorted.{IsStrictlyIncreasing}
use Rattle.std.proofs.lemmas.Bool.{le-ltb, lt-ltb}
use Rattle.std.proofs.lemmas.Grind.{flat_map-append}
use Rattle.std.proofs.lemmas.List.Elements.{All-head, All-tail}
use Rattle.std.proofs.lemmas.List.Sums.{sum-map, sum_by-append}
use Rattle.if1_graph.specs.declared.graph.Graph.{Graph}
use Rattle.if1_graph.specs.declared.graph.Node.{Node, out-Node}
use Rattle.if1_graph.specs.Units.{size, sizes, size_before, label_of}
use Rattle.if1_read.proofs.Likeness.{label_at}

-- ---- nodes by rising label

abbrev IsBelow : Node → Node → Type 0
IsBelow n m = label_of n < label_of m

abbrev pub Rise : List Node → Type 0
Rise [] = Unit {0}
Rise (n ∷ ns) = All (IsBelow n) ns × Rise ns

above : (n : ℕ) (ns : List ℕ) (k : ℕ) → IsStrictlyIncreasing (n ∷ ns) → k < length ns → n < get_or ns k 0
above n ns zero up h = grind (arith, up 0)
above n ns (suc k) up h = grind (arith, above n ns k up, up (suc k))

rising_rest : (n : ℕ) (ns : List ℕ) → IsStrictlyIncreasing (n ∷ ns) → IsStrictlyIncreasing ns
rising_rest n ns up k h = grind (arith, up (suc k))

length_labels : (ns : List Node) → length (map label_of ns) ≡ length ns
length_labels [] = refl
length_labels (n ∷ ns) = ap suc (length_labels ns)

pub rise : (ns : List Node) → IsStrictlyIncreasing (map label_of ns) → Rise ns
rise [] up = tt
rise (n ∷ ns) up = (
  λ k d i. omega (arith, above (label_of n) (map label_of ns) k up (omega (arith, i, length_labels ns)), label_at ns k d i),
  rise ns (rising_rest (label_of n) (map label_of ns) up),
)

-- ---- nodes of a lower label

abbrev lower : Node → Node → Bool
lower n m = ltb (label_of m) (label_of n)

none_lower : (n : Node) (ns : List Node) → All (IsBelow n) ns → filter (lower n) ns ≡ []
none_lower n [] h = refl
none_lower n (m ∷ ns) h =
    let here : label_of n < label_of m = All-head (IsBelow n) m ns h in
    ap (λ (b : Bool). cond b (m ∷ filter (lower n) ns) (filter (lower n) ns)) (le-ltb (label_of m) (label_of n) (omega (arith, here)))
    ∙ none_lower n ns (All-tail (IsBelow n) m ns h)

in_front : (front : List Node) (n m : Node) (back : List Node) → All (IsBelow m) (front ++ n ∷ back) → IsBelow m n
in_front [] n m back h = All-head (IsBelow m) n back h
in_front (f ∷ front) n m back h = in_front front n m back (All-tail (IsBelow m) f (front ++ n ∷ back) h)

before : (front : List Node) (n : Node) (back : List Node) → Rise (front ++ n ∷ back) → filter (lower n) (front ++ n ∷ back) ≡ front
before [] n back r =
    ap (λ (b : Bool). cond b (n ∷ filter (lower n) back) (filter (lower n) back)) (le-ltb (label_of n) (label_of n) (omega arith))
    ∙ none_lower n back r.0
before (f ∷ front) n back r =
    ap (λ (b : Bool). cond b (f ∷ filter (lower n) (front ++ n ∷ back)) (filter (lower n) (front ++ n ∷ back)))
    (lt-ltb (label_of f) (label_of n) (in_front front n f back r.0))
    ∙ ap (λ ns. f ∷ ns) (before front n back r.1)

-- ---- the graphs inside nodes

abbrev pub inside : List Node → List Graph
inside ns = flat_map (λ n. (out-Node n).subs) ns

pub size_before_is : (front : List Node) (n : Node) (back : List Node) → Rise (front ++ n ∷ back) →
    size_before (front ++ n ∷ back) (label_of n) ≡ sizes (inside front)
size_before_is front n back r = ap (λ ns. sizes (inside ns)) (before front n back r)

pub sizes_append : (gs hs : List Graph) → sizes (gs ++ hs) ≡ sizes gs + sizes hs
sizes_append gs hs =
    omega (arith, sum-map size (gs ++ hs), sum_by-append size gs hs, sum-map size gs, sum-map size hs)

pub inside_push : (front : List Node) (n : Node) → sizes (inside (front ++ n ∷ [])) ≡ sizes (inside front) + sizes (out-Node n).subs
inside_push front n =
    ap sizes (flat_map-append (λ (n : Node). (out-Node n).subs) front (n ∷ []) ∙ ap (λ gs. inside front ++ gs) (append-nil (out-Node n).subs))
    ∙ sizes_append (inside front) (out-Node n).subs
