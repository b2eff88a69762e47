-- What is noted of the outputs of nodes.
use Rattle.std.proofs.Common.{◌≡◌, ℕ, ◌==◌, ◌&&◌, Bool, true, false, cond, if◌then◌else◌, List, [], ◌∷◌, map, Option, Some, None, refl, sym, ap, ◌∙◌, eqb-true}
use Rattle.if1_graph.specs.declared.graph.Graph.{Graph}
use Rattle.if1_graph.specs.declared.graph.Node.{Node}
use Rattle.if1_graph.specs.Tables.{or_else}
use Rattle.if1_graph.specs.Units.{label_of, node_at}
use Rattle.if1_types.specs.Tables.{number_at}
use Rattle.indexmap.specs.IndexMap.{IndexMap}
use Rattle.if1_typing.specs.Tables.{Table}
use Rattle.if1_typing.specs.Given.{port_gives, noted_at, IsSound}

-- the number beside the label of a node
pub number_beside : (h : ℕ → ℕ) (ns : List Node) (l : ℕ) (n : Node) → node_at ns l ≡ Some n → number_at (map label_of ns) (map (λ n. h (label_of n)) ns) l ≡ h (label_of n)
number_beside h [] l n e = absurd cc
number_beside h (m ∷ ns) l n e = by (label_of m == l) e (number_beside h ns l n)
  where
    by : (b : Bool) → cond b (Some m) (node_at ns l) ≡ Some n → (node_at ns l ≡ Some n → number_at (map label_of ns) (map (λ n. h (label_of n)) ns) l ≡ h (label_of n)) →
        (if b then h (label_of m) else number_at (map label_of ns) (map (λ n. h (label_of n)) ns) l) ≡ h (label_of n)
    by true e rest = let same : m ≡ n = cc in ap (λ n. h (label_of n)) same
    by false e rest = rest e

both_true : (a b : Bool) → (a && b) ≡ true → (a ≡ true) × (b ≡ true)
both_true true b h = (refl, h)
both_true false b h = absurd cc

abbrev pair : ℕ → Bool → ℕ × Bool
pair n b = (n, b)

-- one note more
pub sound_more : {A : Type 0} (t : Table) (g : Graph) (old new : IndexMap (ℕ × ℕ) (ℕ × Bool) A) (node port number : ℕ) (gives : Bool) → IsSound t g old →
    gives ≡ port_gives t g node port number →
    ((l p : ℕ) → noted_at new l p ≡ or_else (noted_at old l p) (if (l == node) && (p == port) then Some (pair number gives) else None)) → IsSound t g new
sound_more t g old new node port number gives sound right each l p n b h = by (noted_at old l p) refl (sym (each l p) ∙ h)
  where
    here : (c : Bool) → ((l == node) && (p == port)) ≡ c → (if c then Some (pair number gives) else None) ≡ Some (pair n b) → b ≡ port_gives t g l p n
    here true is e =
        let q : pair number gives ≡ pair n b = cc in
        let s = both_true (l == node) (p == port) is in
        let x : node ≡ l = sym (eqb-true l node s.0) in
        let y : port ≡ p = sym (eqb-true p port s.1) in
        sym (ap (λ (r : ℕ × Bool). r.1) q) ∙ right ∙ (λ i. port_gives t g (x i) (y i) (q i).0)
    here false is e = absurd cc

    by : (o : Option (ℕ × Bool)) → noted_at old l p ≡ o → or_else o (if (l == node) && (p == port) then Some (pair number gives) else None) ≡ Some (pair n b) → b ≡ port_gives t g l p n
    by (Some x) is e = sound l p n b (is ∙ e)
    by None is e = here ((l == node) && (p == port)) refl e
