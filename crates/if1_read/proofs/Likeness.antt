-- Graphs that differ in their numbers alone.
use Rattle.std.proofs.Common.{◌≡◌, ℕ, zero, suc, ◌<◌, Bool, true, false, cond, List, [], ◌∷◌, ◌++◌, map, length, get_or, Option, Some, refl, sym, ap, subst, ◌∙◌, arith}
use Rattle.std.specs.Prelude.{◌==◌, filter, All}
use Rattle.std.specs.List.Sorted.{IsStrictlyIncreasing}
use Rattle.std.proofs.lemmas.Bool.{eq-eqb, eqb-true}
use Rattle.std.proofs.lemmas.List.Elements.{All-nil, All-cons, All-head, All-tail, All-weaker}
use Rattle.if1_graph.specs.declared.graph.Graph.{Graph}
use Rattle.if1_graph.specs.declared.graph.Node.{Node, out-Node}
use Rattle.if1_graph.specs.declared.row.Want.{Want}
use Rattle.if1_graph.specs.Tables.{◌>>=◌}
use Rattle.if1_graph.specs.Ops.{simple_at}
use Rattle.if1_graph.specs.Rows.{operand_of}
use Rattle.if1_graph.specs.Units.{label_of, node_at}
use Rattle.if1_graph.specs.Formed.{IsOnce}
use Rattle.if1_graph.specs.Reads.{AreNodes}
use Rattle.if1_read.specs.Like.{IsSameNode, IsLike, AreNodesLike, AreLike, no_node, node, no_graph, more}
use Rattle.if1_read.specs.Known.{want_in}

-- ---- the last of a list

pub record LastNode (ns : List Node) (n : Node) (ms : List Node) : Type 0 where
  pub front : List Node
  pub last : Node
  pub is : ms ≡ front ++ last ∷ []
  pub like : AreNodesLike ns front
  pub same : IsSameNode n last
  pub subs : AreLike (out-Node n).subs (out-Node last).subs

last_one : (n m : Node) (ms : List Node) → IsSameNode n m → AreLike (out-Node n).subs (out-Node m).subs → AreNodesLike [] ms → LastNode [] n (m ∷ ms)
last_one n m ms s l no_node = record { front = []; last = m; is = refl; like = no_node; same = s; subs = l }

pub last_node : (ns : List Node) (n : Node) (ms : List Node) → AreNodesLike (ns ++ n ∷ []) ms → LastNode ns n ms
last_node [] n ms (node n0 m ns0 ms0 s l r) = last_one n m ms0 s l r
last_node (k ∷ ns) n ms (node k0 m ns0 ms0 s l r) =
    let t = last_node ns n ms0 r in
    record { front = m ∷ t.front; last = t.last; is = ap (λ xs. m ∷ xs) t.is; like = node k m ns t.front s l t.like; same = t.same; subs = t.subs }

pub record LastGraph (gs : List Graph) (g : Graph) (hs : List Graph) : Type 0 where
  pub front : List Graph
  pub last : Graph
  pub is : hs ≡ front ++ last ∷ []
  pub like : AreLike gs front
  pub same : IsLike g last

last_of_one : (g h : Graph) (hs : List Graph) → IsLike g h → AreLike [] hs → LastGraph [] g (h ∷ hs)
last_of_one g h hs l no_graph = record { front = []; last = h; is = refl; like = no_graph; same = l }

pub last_graph : (gs : List Graph) (g : Graph) (hs : List Graph) → AreLike (gs ++ g ∷ []) hs → LastGraph gs g hs
last_graph [] g hs (more g0 h gs0 hs0 l r) = last_of_one g h hs0 l r
last_graph (k ∷ gs) g hs (more k0 h gs0 hs0 l r) =
    let t = last_graph gs g hs0 r in
    record { front = h ∷ t.front; last = t.last; is = ap (λ xs. h ∷ xs) t.is; like = more k h gs t.front l t.like; same = t.same }

pub none_like : (hs : List Graph) → AreLike [] hs → hs ≡ []
none_like hs no_graph = refl

pub no_node_like : (ms : List Node) → AreNodesLike [] ms → ms ≡ []
no_node_like ms no_node = refl

pub length_like : (gs hs : List Graph) → AreLike gs hs → length hs ≡ length gs
length_like gs hs no_graph = refl
length_like gs hs (more g h gs0 hs0 l r) = ap suc (length_like gs0 hs0 r)

-- ---- what nodes keep

pub labels_like : (ns ms : List Node) → AreNodesLike ns ms → map label_of ms ≡ map label_of ns
labels_like ns ms no_node = refl
labels_like ns ms (node n m ns0 ms0 s l r) = ap (λ x. x ∷ map label_of ms0) s.label_is ∙ ap (λ xs. label_of n ∷ xs) (labels_like ns0 ms0 r)

pub count_like : (ns ms : List Node) → AreNodesLike ns ms → length ms ≡ length ns
count_like ns ms no_node = refl
count_like ns ms (node n m ns0 ms0 s l r) = ap suc (count_like ns0 ms0 r)

abbrev want_of : Option Node → ℕ → Option Want
want_of o port = o >>= λ n. simple_at (out-Node n).op >>= λ op. operand_of op port >>= λ operand. Some operand.1

want_pick : (b : Bool) (n m : Node) (x y : Option Node) (port : ℕ) → (out-Node m).op ≡ (out-Node n).op → want_of y port ≡ want_of x port →
    want_of (cond b (Some m) y) port ≡ want_of (cond b (Some n) x) port
want_pick true n m x y port e r = ap (λ (o : ℕ). simple_at o >>= λ op. operand_of op port >>= λ operand. Some operand.1) e
want_pick false n m x y port e r = r

pub want_like : (ns ms : List Node) → AreNodesLike ns ms → (l port : ℕ) → want_in ms l port ≡ want_in ns l port
want_like ns ms no_node l port = refl
want_like ns ms (node n m ns0 ms0 s k r) l port =
    ap (λ (x : ℕ). want_of (cond (x == l) (Some m) (node_at ms0 l)) port) s.label_is
    ∙ want_pick (label_of n == l) n m (node_at ns0 l) (node_at ms0 l) port s.op_is (want_like ns0 ms0 r l port)

-- ---- nodes by their labels

-- a function from nodes to the like ones, where no label stands twice
abbrev pub Pairs : Node → Node → Type 0
Pairs n m = IsSameNode n m × AreLike (out-Node n).subs (out-Node m).subs

pub record Renaming (ns ms : List Node) : Type 0 where
  pub to : Node → Node
  pub keeps : (n : Node) → label_of (to n) ≡ label_of n
  pub is : map to ns ≡ ms
  pub pairs : All (λ n. Pairs n (to n)) ns

abbrev swapped : Node → Node → (Node → Node) → Node → Node
swapped x h r n = cond (label_of n == label_of x) h (r n)

keeps_if : (b : Bool) (n h m : Node) (l : ℕ) → (label_of n == l) ≡ b → label_of h ≡ l → label_of m ≡ label_of n → label_of (cond b h m) ≡ label_of n
keeps_if true n h m l e f g = f ∙ sym (eqb-true (label_of n) l e)
keeps_if false n h m l e f g = g

pub map_same : {A B : Type 0} (f g : A → B) (xs : List A) → All (λ x. f x ≡ g x) xs → map f xs ≡ map g xs
map_same f g [] h = refl
map_same f g (x ∷ xs) h =
    ap (λ y. y ∷ map f xs) (All-head (λ x. f x ≡ g x) x xs h) ∙ ap (λ ys. g x ∷ ys) (map_same f g xs (All-tail (λ x. f x ≡ g x) x xs h))

differs_if : (b : Bool) (h m : Node) → (b ≡ true → ⊥) → cond b h m ≡ m
differs_if true h m ne = absurd (ne refl)
differs_if false h m ne = refl

-- no label of the rest is that of the first
abbrev pub IsAlone : Node → List Node → Type 0
IsAlone x ns = All (λ n. label_of n ≡ label_of x → ⊥) ns

abbrev pub AreAlone : List Node → Type 0
AreAlone [] = Unit {0}
AreAlone (n ∷ ns) = IsAlone n ns × AreAlone ns

same_here : (x h : Node) (r : Node → Node) → swapped x h r x ≡ h
same_here x h r = ap (λ (b : Bool). cond b h (r x)) (eq-eqb (label_of x) (label_of x) refl)

same_there : (x h : Node) (r : Node → Node) (n : Node) → (label_of n ≡ label_of x → ⊥) → swapped x h r n ≡ r n
same_there x h r n ne = differs_if (label_of n == label_of x) h (r n) (λ e. ne (eqb-true (label_of n) (label_of x) e))

pub renaming : (ns ms : List Node) → AreNodesLike ns ms → AreAlone ns → Renaming ns ms
renaming ns ms no_node alone = record { to = λ n. n; keeps = λ n. refl; is = refl; pairs = All-nil (λ n. Pairs n n) }
renaming ns ms (node x h ns0 ms0 s l r) alone =
    let t = renaming ns0 ms0 r alone.1 in
    let to : Node → Node = swapped x h t.to in
    let there : All (λ n. to n ≡ t.to n) ns0 = All-weaker (λ n. label_of n ≡ label_of x → ⊥) (λ n. to n ≡ t.to n) (λ n ne. same_there x h t.to n ne) ns0 alone.0 in
    record {
      to = to;
      keeps = λ n. keeps_if (label_of n == label_of x) n h (t.to n) (label_of x) refl s.label_is (t.keeps n);
      is = ap (λ y. y ∷ map to ns0) (same_here x h t.to) ∙ ap (λ ys. h ∷ ys) (map_same to t.to ns0 there ∙ t.is);
      pairs =
          All-cons (λ n. Pairs n (to n)) x ns0 (subst (λ (y : Node). Pairs x y) (sym (same_here x h t.to)) (s, l))
          (λ k d i. subst (λ (y : Node). Pairs (get_or ns0 k d) y) (sym (there k d i)) (t.pairs k d i));
    }

filter_if : {A B : Type 0} (b : Bool) (f : A → B) (x : A) (ys : List B) (xs : List A) → ys ≡ map f xs → cond b (f x ∷ ys) ys ≡ map f (cond b (x ∷ xs) xs)
filter_if true f x ys xs e = ap (λ zs. f x ∷ zs) e
filter_if false f x ys xs e = e

pub filter_mapped : {A B : Type 0} (p : A → Bool) (q : B → Bool) (f : A → B) (xs : List A) → ((x : A) → q (f x) ≡ p x) → filter q (map f xs) ≡ map f (filter p xs)
filter_mapped p q f [] e = refl
filter_mapped p q f (x ∷ xs) e =
    ap (λ (b : Bool). cond b (f x ∷ filter q (map f xs)) (filter q (map f xs))) (e x)
    ∙ filter_if (p x) f x (filter q (map f xs)) (filter p xs) (filter_mapped p q f xs e)

-- the same nodes in another order are the like ones in that order
pub nodes_renamed : (ns ys ms : List Node) (r : Renaming ys ms) → AreNodes ys ns → AreNodes ms (map r.to ns)
nodes_renamed ns ys ms r same l =
    let e : (n : Node) → (label_of (r.to n) == l) ≡ (label_of n == l) = λ n. ap (λ (x : ℕ). x == l) (r.keeps n) in
    let p : Node → Bool = λ n. label_of n == l in
    ap (filter p) (sym r.is) ∙ filter_mapped p p r.to ys e ∙ ap (map r.to) (same l) ∙ sym (filter_mapped p p r.to ns e)

pub like_renamed : (ns : List Node) (to : Node → Node) → All (λ n. Pairs n (to n)) ns → AreNodesLike ns (map to ns)
like_renamed [] to h = no_node
like_renamed (n ∷ ns) to h =
    let here = All-head (λ n. Pairs n (to n)) n ns h in
    node n (to n) ns (map to ns) here.0 here.1 (like_renamed ns to (All-tail (λ n. Pairs n (to n)) n ns h))

-- ---- rising labels stand once

above : (n : ℕ) (ns : List ℕ) (k : ℕ) → IsStrictlyIncreasing (n ∷ ns) → k < length ns → n < get_or ns k 0
above n ns zero up h = grind (arith, up 0)
above n ns (suc k) up h = grind (arith, above n ns k up, up (suc k))

rising_rest : (n : ℕ) (ns : List ℕ) → IsStrictlyIncreasing (n ∷ ns) → IsStrictlyIncreasing ns
rising_rest n ns up k h = grind (arith, up (suc k))

pub label_at : (ns : List Node) (k : ℕ) (d : Node) → k < length ns → get_or (map label_of ns) k 0 ≡ label_of (get_or ns k d)
label_at [] k d h = absurd (omega (arith, h))
label_at (n ∷ ns) zero d h = refl
label_at (n ∷ ns) (suc k) d h = label_at ns k d (omega (arith, h))

length_labels : (ns : List Node) → length (map label_of ns) ≡ length ns
length_labels [] = refl
length_labels (n ∷ ns) = ap suc (length_labels ns)

pub rising_alone : (ns : List Node) → IsStrictlyIncreasing (map label_of ns) → AreAlone ns
rising_alone [] up = tt
rising_alone (n ∷ ns) up = (
  λ k d i e. omega (arith, above (label_of n) (map label_of ns) k up (omega (arith, i, length_labels ns)), label_at ns k d i, e),
  rising_alone ns (rising_rest (label_of n) (map label_of ns) up),
)

pub rising_once : (ls : List ℕ) → IsStrictlyIncreasing ls → IsOnce ls
rising_once [] up = tt
rising_once (l ∷ ls) up = (λ (k, h, e). omega (arith, above l ls k up h, get_or_default ls k 0 l h, e), rising_once ls (rising_rest l ls up))
  where
    get_or_default : (ls : List ℕ) (k c d : ℕ) → k < length ls → get_or ls k c ≡ get_or ls k d
    get_or_default [] k c d h = absurd (omega (arith, h))
    get_or_default (x ∷ xs) zero c d h = refl
    get_or_default (x ∷ xs) (suc k) c d h = get_or_default xs k c d (omega (arith, h))
