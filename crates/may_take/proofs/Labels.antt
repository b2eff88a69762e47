-- What stands beside the label of a node.
use Rattle.std.proofs.Common.{◌≡◌, ◌∙◌, ℕ, zero, suc, ◌<◌, Bool, true, false, List, [], ◌∷◌, map, find, length, get_or, slice_get, slice_index, Option, Some, None, option_map, refl, ap, arith, cond, if◌then◌else◌, ◌==◌, ◌++◌, bytes_eq, ◌-◌}
use Rattle.std.specs.List.Sorted.{IsStrictlyIncreasing}
use Rattle.if1_graph.specs.declared.graph.Graph.{Graph}
use Rattle.if1_graph.specs.declared.graph.Graph.TheViews.{out-Graph}
use Rattle.if1_graph.specs.declared.graph.Node.{Node}
use Rattle.if1_graph.specs.declared.graph.TypeEntry.{TypeEntry}
use Rattle.if1_graph.specs.declared.graph.Unit1.{Unit1}
use Rattle.if1_graph.specs.Formed.{function_named}
use Rattle.if1_graph.specs.Units.{label_of, node_at}
use Rattle.if1_marks.specs.Given.{Inside, Operands, inside, operands, is_given_to_called}
use Rattle.if1_marks.proofs.Consumed.{label-at}
use Rattle.if1_graph.specs.Tables.{or_else}
use Rattle.if1_ports.proofs.Tables.{rising_rest, above, or_else_map, if_map}
use Rattle.may_take.specs.declared.inputs.Inputs.{Inputs}
use Rattle.may_take.specs.declared.uses.NodeUse.{NodeUse}
use Rattle.may_take.specs.Ports.{inside_by}
use Rattle.may_take.specs.Uses.{use_at, is_given_at, place_named}

pub first-same : {A : Type 0} {x y : A} {xs ys : List A} → x ∷ xs ≡ y ∷ ys → x ≡ y
first-same {x = x} e = ap (λ zs. get_or zs 0 x) e

pub rest-same : {A : Type 0} {x y : A} {xs ys : List A} → x ∷ xs ≡ y ∷ ys → xs ≡ ys
rest-same {A = A} e = ap tail e
  where
    tail : List A → List A
    tail [] = []
    tail (z ∷ zs) = zs

-- ---- by place

pub use-found : (xs : List ℕ) (us : List NodeUse) (k l : ℕ) → IsStrictlyIncreasing xs → k < length xs → slice_index xs k ≡ l → use_at xs us l ≡ slice_get us k
use-found [] us k l up h is = absurd (omega (arith, h))
use-found (x ∷ xs) [] k l up h is = refl
use-found (x ∷ xs) (u ∷ us) zero l up h is = grind (arith, is)
use-found (x ∷ xs) (u ∷ us) (suc k) l up h is = grind (arith, above x xs k up, use-found xs us k l (rising_rest x xs up))

pub use-none : (xs : List ℕ) (us : List NodeUse) (l : ℕ) → ((k : ℕ) → k < length xs → slice_index xs k ≡ l → ⊥) → use_at xs us l ≡ None
use-none [] us l none = refl
use-none (x ∷ xs) [] l none = refl
use-none (x ∷ xs) (u ∷ us) l none = grind (arith, none 0, use-none xs us l (λ k h is. none (suc k) (omega (arith, h)) is))

-- ---- by label

abbrev pub optioned : {A : Type 0} → (A → ℕ → Bool) → Option A → ℕ → Bool
optioned f None port = false
optioned f (Some x) port = f x port

module _ (f : NodeUse → ℕ → Bool) (p : Node → ℕ → Bool) where
  chosen : (b : Bool) (v : NodeUse) (n : Node) (o : Option NodeUse) (m : Option Node) (port : ℕ) → f v ≡ p n → optioned f o port ≡ optioned p m port →
      optioned f (cond b (Some v) o) port ≡ optioned p (cond b (Some n) m) port
  chosen true v n o m port one other = ap (λ (q : ℕ → Bool). q port) one
  chosen false v n o m port one other = other

  pub at-label : (ns : List Node) (us : List NodeUse) → map f us ≡ map p ns → (l port : ℕ) → optioned f (use_at (map label_of ns) us l) port ≡ optioned p (node_at ns l) port
  at-label [] us e l port = refl
  at-label (n ∷ ns) [] e l port = absurd (let z : length (map f []) ≡ length (map p (n ∷ ns)) = ap length e in omega (arith, z))
  at-label (n ∷ ns) (v ∷ us) e l port =
      chosen (label_of n == l) v n (use_at (map label_of ns) us l) (node_at ns l) port (first-same e) (at-label ns us (rest-same e) l port)

-- ---- operands by label

picked : {A B : Type 0} (f : A → B) (b : Bool) (x : A) (o : Option A) → cond b (Some (f x)) (option_map f o) ≡ option_map f (cond b (Some x) o)
picked f true x o = refl
picked f false x o = refl

pub found-operands : (ts : List TypeEntry) (ns : List Node) (l : ℕ) → find (λ n. n.label == l) (map (operands ts) ns) ≡ option_map (operands ts) (node_at ns l)
found-operands ts [] l = refl
found-operands ts (n ∷ ns) l =
    ap (λ k. cond (k == l) (Some (operands ts n)) (find (λ (o : Operands). o.label == l) (map (operands ts) ns))) (label-at ts n)
    ∙ (ap (λ o. cond (label_of n == l) (Some (operands ts n)) o) (found-operands ts ns l)
    ∙ picked (operands ts) (label_of n == l) n (node_at ns l))

-- ---- functions by name

abbrev given_of : List TypeEntry → Option Graph → ℕ → Bool
given_of ts None port = false
given_of ts (Some g) port = (inside ts g).is_given port

pub given-named : (ts : List TypeEntry) (gs : List Graph) (fs : List Inputs) → map inside_by fs ≡ map (inside ts) gs → (name : List ℕ) (port : ℕ) →
    is_given_at fs (place_named gs name) port ≡ given_of ts (function_named gs name) port
given-named ts [] fs e name port = refl
given-named ts (g ∷ gs) [] e name port = absurd (let z : length (map inside_by []) ≡ length (map (inside ts) (g ∷ gs)) = ap length e in omega (arith, z))
given-named ts (g ∷ gs) (i ∷ fs) e name port = split (bytes_eq (out-Graph g).name name) (given-named ts gs fs (rest-same e) name port)
  where
    later : (o : Option ℕ) → is_given_at (i ∷ fs) (option_map suc o) port ≡ is_given_at fs o port
    later None = refl
    later (Some k) = refl

    split : (b : Bool) → is_given_at fs (place_named gs name) port ≡ given_of ts (function_named gs name) port →
        is_given_at (i ∷ fs) (cond b (Some 0) (option_map suc (place_named gs name))) port ≡ given_of ts (cond b (Some g) (function_named gs name)) port
    split true other = ap (λ (x : Inside). x.is_given port) (first-same e)
    split false other = later (place_named gs name) ∙ other

pub given-called : (u : Unit1) (o : Option Graph) (port : ℕ) → given_of u.types o (port - 1) ≡ is_given_to_called u o port
given-called u None port = refl
given-called u (Some g) port = refl

pub named-more : (gs : List Graph) (g : Graph) (text : List ℕ) (n : ℕ) → n ≡ length gs →
    or_else (place_named gs text) (if bytes_eq (out-Graph g).name text then Some n else None) ≡ place_named (gs ++ g ∷ []) text
named-more [] g text n e = ap (λ k. if bytes_eq (out-Graph g).name text then Some k else None) e
named-more (h ∷ gs) g text n e = split (bytes_eq (out-Graph h).name text) (named-more gs g text (length gs) refl)
  where
    later : or_else (place_named gs text) (if bytes_eq (out-Graph g).name text then Some (length gs) else None) ≡ place_named (gs ++ g ∷ []) text →
        or_else (option_map suc (place_named gs text)) (if bytes_eq (out-Graph g).name text then Some n else None) ≡ option_map suc (place_named (gs ++ g ∷ []) text)
    later rest =
        ap (λ k. or_else (option_map suc (place_named gs text)) (if bytes_eq (out-Graph g).name text then Some k else None)) e
        ∙ (ap (or_else (option_map suc (place_named gs text))) (if_map suc (bytes_eq (out-Graph g).name text) (length gs))
        ∙ (or_else_map suc (place_named gs text) (if bytes_eq (out-Graph g).name text then Some (length gs) else None)
        ∙ ap (option_map suc) rest))

    split : (b : Bool) → or_else (place_named gs text) (if bytes_eq (out-Graph g).name text then Some (length gs) else None) ≡ place_named (gs ++ g ∷ []) text →
        or_else (if b then Some 0 else option_map suc (place_named gs text)) (if bytes_eq (out-Graph g).name text then Some n else None) ≡ (if b then Some 0 else option_map suc (place_named (gs ++ g ∷ []) text))
    split true rest = refl
    split false rest = later rest
