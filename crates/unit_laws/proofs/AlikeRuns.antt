-- Graphs that differ in ordering lists alone mean and cost the same.
use Rattle.std.proofs.Common.{◌≡◌, ℕ, suc, Bool, true, false, List, [], ◌∷◌, map, Some, refl, sym, ap, subst, ◌∙◌}
use Rattle.std.specs.Prelude.{eqb, if◌then◌else◌}
use Rattle.graph_meaning.specs.Carried.{Carried}
use Rattle.graph_meaning.specs.Forms.{Form, Next, next_of, first, follow, gather}
use Rattle.graph_meaning.specs.Demand.{Source, Kind, Vertex, Network, at_label}
use Rattle.graph_meaning.specs.Networks.{network}
use Rattle.graph_meaning.specs.Plain.{Carries, fixed, input, output, CarryAll, no_port, port, Outputs, simple, whole, Leads, leaves, enters, enters_deeper, iterates, MeanAll, no_row, a_row, NodesFire, no_node, a_node, InnerFires, of_simple, of_whole, LaterFires, of_leaving, of_graph, of_deeper, of_iterations, RowsFire, of_no_row, of_row}
use Rattle.unit_laws.specs.Laws.{AreAlikeMeant, AreAlikeCosted}
use Rattle.unit_laws.proofs.AlikeNets.{unlisted, NetsAlike, nets-alike}

first-same : {A : Type 0} (x y : A) (xs ys : List A) → x ∷ xs ≡ y ∷ ys → x ≡ y
first-same x y xs ys e = cc

rest-same : {A : Type 0} (x y : A) (xs ys : List A) → x ∷ xs ≡ y ∷ ys → xs ≡ ys
rest-same x y xs ys e = cc

some-same : {A : Type 0} (x y : A) → Some x ≡ Some y → x ≡ y
some-same x y e = cc

-- the node of a label, but for its ordering list
at-same : (vs ws : List Vertex) → map unlisted vs ≡ map unlisted ws → (l : ℕ) (x : Vertex) → at_label vs l ≡ Some x → (y : Vertex) × (at_label ws l ≡ Some y) × (unlisted x ≡ unlisted y)
at-same [] [] e l x f = absurd cc
at-same [] (w ∷ ws) e l x f = absurd cc
at-same (v ∷ vs) [] e l x f = absurd cc
at-same (v ∷ vs) (w ∷ ws) e l x f =
    go (eqb v.label l) (eqb w.label l) (ap (λ (z : Vertex). eqb z.label l) heads) f (at-same vs ws (rest-same (unlisted v) (unlisted w) (map unlisted vs) (map unlisted ws) e) l x)
  where
    heads : unlisted v ≡ unlisted w
    heads = first-same (unlisted v) (unlisted w) (map unlisted vs) (map unlisted ws) e

    go : (a b : Bool) → a ≡ b → (if a then Some v else at_label vs l) ≡ Some x → (at_label vs l ≡ Some x → (y : Vertex) × (at_label ws l ≡ Some y) × (unlisted x ≡ unlisted y))
        → (y : Vertex) × ((if b then Some w else at_label ws l) ≡ Some y) × (unlisted x ≡ unlisted y)
    go true true same f later = (w, refl, ap unlisted (sym (some-same v x f)) ∙ heads)
    go true false same f later = absurd cc
    go false true same f later = absurd cc
    go false false same f later = later f

module _ (u v : Network) (alike : (k : ℕ) → NetsAlike (u k) (v k)) where
  mutual
    carries : (n g : ℕ) (ins : List Carried) (o : Source) (c : Carried) → Carries u n g ins o c → Carries v n g ins o c
    carries _ _ _ _ _ (fixed n g ins c) = fixed n g ins c
    carries _ _ _ _ _ (input n g ins p) = input n g ins p
    carries _ _ _ _ _ (output n g ins l p x ks rs f a b) =
        let r = at-same (u g).nodes (v g).nodes (alike g).nodes (suc l) x f in
        output n g ins l p r.0 ks rs r.1 (subst (λ (z : Vertex). CarryAll v n g ins z.ins ks) r.2 (carry-all n g ins x.ins ks a)) (subst (λ (z : Vertex). Outputs v n z.kind ks rs) r.2 (outputs n x.kind ks rs b))

    carry-all : (n g : ℕ) (ins : List Carried) (os : List Source) (cs : List Carried) → CarryAll u n g ins os cs → CarryAll v n g ins os cs
    carry-all _ _ _ _ _ (no_port n g ins) = no_port n g ins
    carry-all _ _ _ _ _ (port n g ins o os c cs a b) = port n g ins o os c cs (carries n g ins o c a) (carry-all n g ins os cs b)

    outputs : (n : ℕ) (k : Kind) (ks rs : List Carried) → Outputs u n k ks rs → Outputs v n k ks rs
    outputs _ _ _ _ (simple n row shape ks) = simple n row shape ks
    outputs _ _ _ _ (whole n form ks rs a) = whole n form ks rs (leads n form ks (next_of (first form ks)) rs a)

    leads : (n : ℕ) (form : Form) (ks : List Carried) (next : Next) (rs : List Carried) → Leads u n form ks next rs → Leads v n form ks next rs
    leads _ _ _ _ _ (leaves n form ks rs) = leaves n form ks rs
    leads _ _ _ _ _ (enters n form ks t g ins stage ms rs d a b) =
        enters n form ks t g ins stage ms rs d (subst (λ os. CarryAll v n g ins os ms) (alike g).results (carry-all n g ins (u g).results ms a)) (leads n form ks (follow form ks stage ms) rs b)
    leads _ _ _ _ _ (enters_deeper n form ks t g ins stage ms rs d a b) =
        enters_deeper n form ks t g ins stage ms rs d (subst (λ os. CarryAll v n g ins os ms) (alike g).results (carry-all n g ins (u g).results ms a)) (leads n form ks (follow form ks stage ms) rs b)
    leads _ _ _ _ _ (iterates n form ks g row rows ms lists rs a b) = iterates n form ks g row rows ms lists rs (mean-all n g (row ∷ rows) lists a) (leads n form ks (gather form ks ms lists) rs b)

    mean-all : (n g : ℕ) (rows lists : List (List Carried)) → MeanAll u n g rows lists → MeanAll v n g rows lists
    mean-all _ _ _ _ (no_row n g) = no_row n g
    mean-all _ _ _ _ (a_row n g ins rs rows lists a b) = a_row n g ins rs rows lists (subst (λ os. CarryAll v n g ins os rs) (alike g).results (carry-all n g ins (u g).results rs a)) (mean-all n g rows lists b)

  means : (n g : ℕ) (ins rs : List Carried) → CarryAll u n g ins (u g).results rs → CarryAll v n g ins (v g).results rs
  means n g ins rs a = subst (λ os. CarryAll v n g ins os rs) (alike g).results (carry-all n g ins (u g).results rs a)

  mutual
    nodes-fire : (n g : ℕ) (ins : List Carried) (vs : List Vertex) (c : ℕ) → NodesFire u n g ins vs c → (ws : List Vertex) → map unlisted vs ≡ map unlisted ws → NodesFire v n g ins ws c
    nodes-fire _ _ _ _ _ (no_node n g ins) [] e = no_node n g ins
    nodes-fire _ _ _ _ _ (no_node n g ins) (w ∷ ws) e = absurd cc
    nodes-fire _ _ _ _ _ (a_node n g ins x vs c d a b) [] e = absurd cc
    nodes-fire _ _ _ _ _ (a_node n g ins x vs c d a b) (w ∷ ws) e =
        a_node n g ins w ws c d
        (subst (λ (z : Vertex). InnerFires v n g ins z.kind z.ins c) (first-same (unlisted x) (unlisted w) (map unlisted vs) (map unlisted ws) e) (inner-fires n g ins x.kind x.ins c a))
        (nodes-fire n g ins vs d b ws (rest-same (unlisted x) (unlisted w) (map unlisted vs) (map unlisted ws) e))

    inner-fires : (n g : ℕ) (ins : List Carried) (kind : Kind) (os : List Source) (c : ℕ) → InnerFires u n g ins kind os c → InnerFires v n g ins kind os c
    inner-fires _ _ _ _ _ _ (of_simple n g ins row shape os) = of_simple n g ins row shape os
    inner-fires _ _ _ _ _ _ (of_whole n g ins form os ks c a b) = of_whole n g ins form os ks c (carry-all n g ins os ks a) (later-fires n form ks (next_of (first form ks)) c b)

    later-fires : (n : ℕ) (form : Form) (ks : List Carried) (next : Next) (c : ℕ) → LaterFires u n form ks next c → LaterFires v n form ks next c
    later-fires _ _ _ _ _ (of_leaving n form ks rs) = of_leaving n form ks rs
    later-fires _ _ _ _ _ (of_graph n form ks t g ins stage ms c d p a b e) =
        of_graph n form ks t g ins stage ms c d p (nodes-fire n g ins (u g).nodes c a (v g).nodes (alike g).nodes) (means n g ins ms b) (later-fires n form ks (follow form ks stage ms) d e)
    later-fires _ _ _ _ _ (of_deeper n form ks t g ins stage ms c d p a b e) =
        of_deeper n form ks t g ins stage ms c d p (nodes-fire n g ins (u g).nodes c a (v g).nodes (alike g).nodes) (means n g ins ms b) (later-fires n form ks (follow form ks stage ms) d e)
    later-fires _ _ _ _ _ (of_iterations n form ks g row rows ms lists c d a b e) =
        of_iterations n form ks g row rows ms lists c d (rows-fire n g (row ∷ rows) c a) (mean-all n g (row ∷ rows) lists b) (later-fires n form ks (gather form ks ms lists) d e)

    rows-fire : (n g : ℕ) (rows : List (List Carried)) (c : ℕ) → RowsFire u n g rows c → RowsFire v n g rows c
    rows-fire _ _ _ _ (of_no_row n g) = of_no_row n g
    rows-fire _ _ _ _ (of_row n g ins rows c d a b) = of_row n g ins rows c d (nodes-fire n g ins (u g).nodes c a (v g).nodes (alike g).nodes) (rows-fire n g rows d b)

pub alike-meant : AreAlikeMeant
alike-meant u v alike n g ins rs m = means (network u) (network v) (nets-alike u v alike) n g ins rs m

pub alike-costed : AreAlikeCosted
alike-costed u v alike n g ins c m = nodes-fire (network u) (network v) (nets-alike u v alike) n g ins (network u g).nodes c m (network v g).nodes (nets-alike u v alike g).nodes
