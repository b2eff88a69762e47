-- How many compound nodes are open at once within lines.
use Rattle.std.proofs.Common.{◌≡◌, ℕ, suc, ◌+◌, ◌-◌, ◌≤◌, max, List, [], ◌∷◌, ◌++◌, map, refl, sym, ap, ◌∙◌, arith, append_assoc, append-nil}
use Rattle.std.specs.Prelude.{All}
use Rattle.std.specs.List.{flat_map}
use Rattle.std.proofs.lemmas.List.Elements.{All-head, All-tail}
use Rattle.if1_graph.specs.declared.line.Line.{Line}
use Rattle.if1_graph.specs.declared.line.Line.TheVariants as line
use Rattle.if1_graph.specs.declared.graph.Edge.{Edge}
use Rattle.if1_graph.specs.declared.graph.Origin.{Origin}
use Rattle.if1_graph.specs.declared.graph.Origin.TheVariants.{Port, Lit}
use Rattle.if1_graph.specs.Lines.{edge_line, origin_line}
use Rattle.if1_graph.specs.Reads.{deepest}

-- lines that open at most so many more, and close what they open
abbrev pub Shallow : ℕ → List Line → Type 0
Shallow m ks = (open_ones : ℕ) (ls : List Line) → deepest open_ones (ks ++ ls) ≤ max (open_ones + m) (deepest open_ones ls)

pub shallow_nil : (m : ℕ) → Shallow m []
shallow_nil m k ls = omega arith

pub shallow_both : (m : ℕ) (js ks : List Line) → Shallow m js → Shallow m ks → Shallow m (js ++ ks)
shallow_both m js ks f g k ls =
    let e : deepest k ((js ++ ks) ++ ls) ≡ deepest k (js ++ (ks ++ ls)) = ap (deepest k) (append_assoc js ks ls) in
    omega (arith, e, f k (ks ++ ls), g k ls)

pub shallow_parts : {A : Type 0} (m : ℕ) (f : A → List Line) (xs : List A) → All (λ x. Shallow m (f x)) xs → Shallow m (flat_map f xs)
shallow_parts m f [] h = shallow_nil m
shallow_parts m f (x ∷ xs) h =
    shallow_both m (f x) (flat_map f xs) (All-head (λ x. Shallow m (f x)) x xs h) (shallow_parts m f xs (All-tail (λ x. Shallow m (f x)) x xs h))

-- a line that neither opens nor closes
abbrev pub IsFlat : Line → Type 0
IsFlat l = (k : ℕ) (ls : List Line) → deepest k (l ∷ ls) ≡ deepest k ls

pub shallow_flat : (m : ℕ) (l : Line) (ks : List Line) → IsFlat l → Shallow m ks → Shallow m (l ∷ ks)
shallow_flat m l ks e f k ls = omega (arith, e k (ks ++ ls), f k ls)

pub shallow_map : {A : Type 0} (m : ℕ) (f : A → Line) (xs : List A) → ((x : A) → IsFlat (f x)) → Shallow m (map f xs)
shallow_map m f [] e = shallow_nil m
shallow_map m f (x ∷ xs) e = shallow_flat m (f x) (map f xs) (e x) (shallow_map m f xs e)

origin_flat : (e : Edge) (o : Origin) → IsFlat (origin_line e o)
origin_flat e (Port node port) k ls = refl
origin_flat e (Lit text) k ls = refl

pub edge_flat : (e : Edge) → IsFlat (edge_line e)
edge_flat e = origin_flat e e.from

-- a compound node opens one more
pub shallow_compound : (m : ℕ) (rest : List ℕ) (ps : List Line) (label op count : ℕ) (assoc before name : List ℕ) → Shallow m ps →
    Shallow (suc m) ((line.Open rest ∷ ps) ++ line.Close label op count assoc before name ∷ [])
shallow_compound m rest ps label op count assoc before name f k ls =
    let close = line.Close label op count assoc before name in
    let e : deepest (suc k) ((ps ++ close ∷ []) ++ ls) ≡ deepest (suc k) (ps ++ close ∷ ls) = ap (deepest (suc k)) (append_assoc ps (close ∷ []) ls) in
    let one : suc k - 1 ≡ k = omega arith in
    let closed : deepest (suc k) (close ∷ ls) ≡ max (suc k) (deepest k ls) = ap (λ n. max (suc k) (deepest n ls)) one in
    omega (arith, e, closed, f (suc k) (close ∷ ls))

pub shallow_all : (m : ℕ) (ks : List Line) → Shallow m ks → deepest 0 ks ≤ m
shallow_all m ks f =
    let e : deepest 0 (ks ++ []) ≡ deepest 0 ks = ap (deepest 0) (append-nil ks) in
    omega (arith, e, f 0 [])
