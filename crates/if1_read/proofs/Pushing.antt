-- Lists that gain one more.
use Rattle.std.proofs.Common.{◌≡◌, ℕ, zero, suc, ◌<◌, ◌≤◌, List, [], ◌∷◌, ◌++◌, map, arith}
use Rattle.std.specs.Prelude.{All}
use Rattle.std.specs.List.Sorted.{IsStrictlyIncreasing}
use Rattle.std.proofs.lemmas.List.{map-append}
use Rattle.std.proofs.lemmas.List.Elements.{All-nil, All-cons, All-head, All-tail, All-append, All-weaker}
use Rattle.if1_graph.specs.declared.graph.Node.{Node}
use Rattle.if1_graph.specs.declared.graph.TypeEntry.{TypeEntry}
use Rattle.if1_graph.specs.Units.{label_of}
use Rattle.if1_read.specs.Marks.{labels_in}
use Rattle.if1_read.specs.Made.{Each, none, more}

rising_rest : (n : ℕ) (ns : List ℕ) → IsStrictlyIncreasing (n ∷ ns) → IsStrictlyIncreasing ns
rising_rest n ns up k h = grind (arith, up (suc k))

rising_cons : (n m : ℕ) (ns : List ℕ) → n < m → IsStrictlyIncreasing (m ∷ ns) → IsStrictlyIncreasing (n ∷ m ∷ ns)
rising_cons n m ns lt up zero h = lt
rising_cons n m ns lt up (suc k) h = grind (arith, up k)

rising_one : (n : ℕ) → IsStrictlyIncreasing (n ∷ [])
rising_one n k h = absurd (omega (arith, h))

pub rising_push : (xs : List ℕ) (last n : ℕ) → IsStrictlyIncreasing xs → All (λ x. x ≤ last) xs → last < n → IsStrictlyIncreasing (xs ++ n ∷ [])
rising_push [] last n up below lt = rising_one n
rising_push (x ∷ []) last n up below lt = rising_cons x n [] (omega (arith, lt, All-head (λ x. x ≤ last) x [] below)) (rising_one n)
rising_push (x ∷ y ∷ xs) last n up below lt =
    rising_cons x y (xs ++ n ∷ []) (grind (arith, up 0)) (rising_push (y ∷ xs) last n (rising_rest x (y ∷ xs) up) (All-tail (λ x. x ≤ last) x (y ∷ xs) below) lt)

pub below_push : (xs : List ℕ) (last n : ℕ) → All (λ x. x ≤ last) xs → last < n → All (λ x. x ≤ n) (xs ++ n ∷ [])
below_push xs last n below lt =
    All-append (λ x. x ≤ n) xs (n ∷ []) (All-weaker (λ x. x ≤ last) (λ x. x ≤ n) (λ x h. omega (arith, h, lt)) xs below)
    (All-cons (λ x. x ≤ n) n [] (omega arith) (All-nil (λ x. x ≤ n)))

pub labels_push : (ts : List TypeEntry) (e : TypeEntry) → labels_in (ts ++ e ∷ []) ≡ labels_in ts ++ e.label ∷ []
labels_push ts e = map-append (λ (e : TypeEntry). e.label) ts (e ∷ [])

pub node_labels_push : (ns : List Node) (n : Node) → map label_of (ns ++ n ∷ []) ≡ map label_of ns ++ label_of n ∷ []
node_labels_push ns n = map-append label_of ns (n ∷ [])

-- the second parts of pairs
pub seconds_push : {A B : Type 0} (xs : List (A × B)) (x : A × B) → map (λ (p : A × B). p.1) (xs ++ x ∷ []) ≡ map (λ (p : A × B). p.1) xs ++ x.1 ∷ []
seconds_push {A = A} {B = B} xs x = map-append (λ (p : A × B). p.1) xs (x ∷ [])

pub each_push : {A B : Type 0} (R : A → B → Type 0) (xs : List A) (ys : List B) (x : A) (y : B) → Each R xs ys → R x y → Each R (xs ++ x ∷ []) (ys ++ y ∷ [])
each_push R xs ys x y none r = more x y [] [] r none
each_push R xs ys x y (more a b xs0 ys0 s h) r = more a b (xs0 ++ x ∷ []) (ys0 ++ y ∷ []) s (each_push R xs0 ys0 x y h r)
