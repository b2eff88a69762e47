-- Tables and levels where numbers rise inside.
use Rattle.std.proofs.Common.{◌≡◌, ℕ, zero, suc, ◌+◌, ◌<◌, ◌≤◌, max, List, [], ◌∷◌, length, refl, sym, ap, ◌∙◌, arith}
use Rattle.run_laws.specs.Forms as form
use Rattle.run_laws.specs.Demand.{EachNode, Kind, Network, Plain, Vertex, Whole}
use Rattle.run_laws.specs.Cells.{picked}
use Rattle.run_laws.specs.Made.{Plan, arms_size, greatest_extent, kind_size, loop_extent, loop_size, nodes_extent, nodes_size, parts_extent}
use Rattle.run_made.specs.Plans.{All, CanLay, IsInner, IsKindRight, IsLoopRight, Weighing}
use Rattle.run_made.specs.Tables.{AreLevelsEnough, AreTablesThere, InnersAre, with_sizes}

-- ---- levels

all-as : (A B : ℕ → Type 0) → ((g : ℕ) → A g → B g) → (gs : List ℕ) → All A gs → All B gs
all-as A B f [] h = tt
all-as A B f (g ∷ gs) h = (f g h.0, all-as A B f gs h.1)

module _ (P : Plan) (W : Weighing) (u : Network) (order : ℕ → List Vertex) (functions : List ℕ) (A B : ℕ → Type 0) (f : (g : ℕ) → A g → B g) where
  inner-as : (g : ℕ) → IsInner P W u order functions A g → IsInner P W u order functions B g
  inner-as g h = (h.0, f g h.1)

  loop-as : (g : ℕ) (v : Vertex) (i t b r w : ℕ) → IsLoopRight P W u order functions A g v i t b r w → IsLoopRight P W u order functions B g v i t b r w
  loop-as g v i t b r w h = (h.0, h.1, inner-as i h.2, inner-as t h.3, h.4, inner-as b h.5, h.6, f (P.refolded r) h.7, h.8)

  kind-as : (g : ℕ) (v : Vertex) (k : Kind) → IsKindRight P W u order functions A g v k → IsKindRight P W u order functions B g v k
  kind-as g v (Plain row shape) h = tt
  kind-as g v (Whole (form.Call x)) h = h
  kind-as g v (Whole (form.Select s gs w)) h = (h.0, h.1, inner-as s h.2, h.3, all-as (IsInner P W u order functions A) (IsInner P W u order functions B) inner-as gs h.4)
  kind-as g v (Whole (form.TagCase gs w)) h = (h.0, h.1, h.2, all-as (IsInner P W u order functions A) (IsInner P W u order functions B) inner-as gs h.3)
  kind-as g v (Whole (form.LoopA i t b r w)) h = loop-as g v i t b r w h
  kind-as g v (Whole (form.LoopB i t b r w)) h = loop-as g v i t b r w h
  kind-as g v (Whole (form.ForAll e b r m w)) h = (h.0, h.1, inner-as e h.2, inner-as b h.3, h.4, f (P.refolded r) h.5, h.6)

  kinds-as : (g : ℕ) (vs : List Vertex) → EachNode (λ v. IsKindRight P W u order functions A g v v.kind) vs → EachNode (λ v. IsKindRight P W u order functions B g v v.kind) vs
  kinds-as g [] h = tt
  kinds-as g (v ∷ vs) h = (kind-as g v v.kind h.0, kinds-as g vs h.1)

pub levels-enough : AreLevelsEnough
levels-enough P W u order functions count right zero g lt le = absurd (omega (arith, lt, le))
levels-enough P W u order functions count right (suc n) g lt le =
    let r = right g lt in
    record {
      readable = r.readable;
      once = r.once;
      kinds = kinds-as P W u order functions (λ h. (g < h) × (h < count)) (CanLay P W u order functions n)
          (λ h rises. let up = rises.0 in levels-enough P W u order functions count right n h rises.1 (omega (arith, up, le))) g (P.nodes g) r.kinds;
    }

-- ---- tables

module _ (P : Plan) (s e s' e' : ℕ → ℕ) where
  abbrev A : Plan
  A = with_sizes P s e

  abbrev B : Plan
  B = with_sizes P s' e'

  -- the tables are the same there
  abbrev Same : ℕ → Type 0
  Same h = (s h ≡ s' h) × (e h ≡ e' h)

  arms-same : (gs : List ℕ) → All Same gs → arms_size A gs ≡ arms_size B gs
  arms-same [] h = refl
  arms-same (g ∷ gs) h =
      let x = h.0.0 in
      let y = arms-same gs h.1 in
      ap (λ z. suc z + arms_size A gs) x ∙ ap (λ z. suc (s' g) + z) y

  greatest-same : (gs : List ℕ) → All Same gs → greatest_extent A gs ≡ greatest_extent B gs
  greatest-same [] h = refl
  greatest-same (g ∷ gs) h = ap (λ z. max z (greatest_extent A gs)) h.0.1 ∙ ap (λ z. max (e' g) z) (greatest-same gs h.1)

  loop-same : (i t b r : ℕ) → Same i → Same t → Same b → Same (P.refolded r) → loop_size A i t b r ≡ loop_size B i t b r
  loop-same i t b r x y z w =
      ap (λ m. suc m + (suc (s b) + (suc (s t) + suc (s (P.refolded r))))) x.0
      ∙ (ap (λ m. suc (s' i) + (suc m + (suc (s t) + suc (s (P.refolded r))))) z.0 ∙ (ap (λ m. suc (s' i) + (suc (s' b) + (suc m + suc (s (P.refolded r))))) y.0 ∙ ap (λ m. suc (s' i) + (suc (s' b) + (suc (s' t) + suc m))) w.0))

  loop-room : (i t b r : ℕ) → Same i → Same t → Same b → Same (P.refolded r) → loop_extent A i t b r ≡ loop_extent B i t b r
  loop-room i t b r x y z w =
      ap (λ m. max m (length (P.results i) + (length (P.collects r) + greatest_extent A (t ∷ b ∷ P.refolded r ∷ [])))) x.1
      ∙ ap (λ m. max (e' i) (length (P.results i) + (length (P.collects r) + m))) (greatest-same (t ∷ b ∷ P.refolded r ∷ []) (y, (z, (w, tt))))

  kind-same : (k : Kind) → InnersAre P Same k → (kind_size A k ≡ kind_size B k) × (parts_extent A k ≡ parts_extent B k)
  kind-same (Plain row shape) h = (refl, refl)
  kind-same (Whole (form.Call f)) h = (refl, refl)
  kind-same (Whole (form.Select x gs w)) h = (
    ap (λ z. 2 + (suc z + arms_size A gs)) h.0.0 ∙ ap (λ z. 2 + (suc (s' x) + z)) (arms-same gs h.1),
    ap (λ z. max z (greatest_extent A gs)) h.0.1 ∙ ap (λ z. max (e' x) z) (greatest-same gs h.1),
  )
  kind-same (Whole (form.TagCase gs w)) h = (ap (λ z. 2 + suc z) (arms-same gs h), ap suc (greatest-same gs h))
  kind-same (Whole (form.LoopA i t b r w)) h = (ap (λ z. 2 + suc z) (loop-same i t b r h.0 h.1 h.2 h.3), loop-room i t b r h.0 h.1 h.2 h.3)
  kind-same (Whole (form.LoopB i t b r w)) h = (ap (λ z. 2 + z) (loop-same i t b r h.0 h.1 h.2 h.3), loop-room i t b r h.0 h.1 h.2 h.3)
  kind-same (Whole (form.ForAll x b r m w)) h = (
    ap (λ z. 2 + (suc z + (suc (s b) + suc (suc (s (P.refolded r)))))) h.0.0 ∙ (ap (λ z. 2 + (suc (s' x) + (suc z + suc (suc (s (P.refolded r)))))) h.1.0 ∙ ap (λ z. 2 + (suc (s' x) + (suc (s' b) + suc (suc z)))) h.2.0),
    ap (λ z. max z (length (P.results x) + (length (P.collects r) + max (suc (length (P.results x)) + e b) (e (P.refolded r))))) h.0.1
        ∙ (ap (λ z. max (e' x) (length (P.results x) + (length (P.collects r) + max (suc (length (P.results x)) + z) (e (P.refolded r))))) h.1.1
        ∙ ap (λ z. max (e' x) (length (P.results x) + (length (P.collects r) + max (suc (length (P.results x)) + e' b) z))) h.2.1),
  )

  nodes-same : (g : ℕ) (vs : List Vertex) → EachNode (λ v. InnersAre P Same v.kind) vs → (nodes_size A vs ≡ nodes_size B vs) × (nodes_extent A g vs ≡ nodes_extent B g vs)
  nodes-same g [] h = (refl, refl)
  nodes-same g (v ∷ vs) h =
      let x = kind-same v.kind h.0 in
      let y = nodes-same g vs h.1 in (
        ap (λ z. z + nodes_size A vs) x.0 ∙ ap (λ z. kind_size B v.kind + z) y.0,
        ap (λ z. max (P.width v + (length (picked (P.picks g v) v.ins) + z)) (P.width v + nodes_extent A g vs)) x.1 ∙ ap (λ z. max (P.width v + (length (picked (P.picks g v) v.ins) + parts_extent B v.kind)) (P.width v + z)) y.1,
      )

inner-of : (P : Plan) (Q R : ℕ → Type 0) → ((h : ℕ) → Q h → R h) → (k : Kind) → InnersAre P Q k → InnersAre P R k
inner-of P Q R f (Plain row shape) h = tt
inner-of P Q R f (Whole (form.Call x)) h = tt
inner-of P Q R f (Whole (form.Select s gs w)) h = (f s h.0, all-as Q R f gs h.1)
inner-of P Q R f (Whole (form.TagCase gs w)) h = all-as Q R f gs h
inner-of P Q R f (Whole (form.LoopA i t b r w)) h = (f i h.0, f t h.1, f b h.2, f (P.refolded r) h.3)
inner-of P Q R f (Whole (form.LoopB i t b r w)) h = (f i h.0, f t h.1, f b h.2, f (P.refolded r) h.3)
inner-of P Q R f (Whole (form.ForAll e b r m w)) h = (f e h.0, f b h.1, f (P.refolded r) h.2)

inners-of : (P : Plan) (Q R : ℕ → Type 0) → ((h : ℕ) → Q h → R h) → (vs : List Vertex) → EachNode (λ v. InnersAre P Q v.kind) vs → EachNode (λ v. InnersAre P R v.kind) vs
inners-of P Q R f [] h = tt
inners-of P Q R f (v ∷ vs) h = (inner-of P Q R f v.kind h.0, inners-of P Q R f vs h.1)

module _ (P : Plan) where
  -- tables that are right of graphs with so many levels inside
  abbrev tables : ℕ → (ℕ → ℕ) × (ℕ → ℕ)
  tables zero = ((λ g. 0), λ g. 0)
  tables (suc n) = ((λ g. nodes_size (with_sizes P (tables n).0 (tables n).1) (P.nodes g)), λ g. nodes_extent (with_sizes P (tables n).0 (tables n).1) g (P.nodes g))

  module _ (count : ℕ) (rises : (g : ℕ) → EachNode (λ v. InnersAre P (λ h. g < h) v.kind) (P.nodes g)) (last : (g : ℕ) → count ≤ g → P.nodes g ≡ []) where
    settled : (n g : ℕ) → count ≤ n + g → ((tables (suc n)).0 g ≡ (tables n).0 g) × ((tables (suc n)).1 g ≡ (tables n).1 g)
    settled zero g le =
        let e = last g (omega (arith, le)) in
        (ap (λ vs. nodes_size (with_sizes P (tables 0).0 (tables 0).1) vs) e, ap (λ vs. nodes_extent (with_sizes P (tables 0).0 (tables 0).1) g vs) e)
    settled (suc n) g le =
        nodes-same P (tables (suc n)).0 (tables (suc n)).1 (tables n).0 (tables n).1 g (P.nodes g)
        (inners-of P (λ h. g < h) (λ h. ((tables (suc n)).0 h ≡ (tables n).0 h) × ((tables (suc n)).1 h ≡ (tables n).1 h)) (λ h lt. settled n h (omega (arith, lt, le))) (P.nodes g) (rises g))

pub tables-there : AreTablesThere
tables-there P count rises last = ((tables P count).0, (tables P count).1, λ g. let x = settled P count rises last count g (omega arith) in (sym x.0, sym x.1))
