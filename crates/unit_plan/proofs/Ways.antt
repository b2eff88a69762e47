-- A returns goes on what is collected as other nodes.
use Rattle.std.proofs.Common.{◌≡◌, ℕ, zero, suc, ◌+◌, ◌-◌, ◌<◌, ◌≤◌, ltb, if◌then◌else◌, Bool, true, false, List, [], ◌∷◌, ◌++◌, length, get_or, slice_get, Option, Some, None, inl, inr, refl, sym, ap, ◌∙◌, subst, arith}
use Rattle.if1_graph.specs.declared.op.Grouping.{Grouping}
use Rattle.if1_graph.specs.declared.op.Simple.{Simple}
use Rattle.if1_graph.specs.declared.op.Simple.TheVariants as simple
use Rattle.graph_meaning.specs.Carried.{Carried, Unfilled}
use Rattle.if1_graph.specs.Rows.{row_of}
use Rattle.graph_meaning.specs.Demand.{Source, Port, Fixed, IsLabel, Kind, LabelsOnce, Plain, Whole, Vertex, EachNode}
use Rattle.graph_meaning.specs.Forms.{columns}
use Rattle.graph_meaning.specs.Laws.{outputs_by}
use Rattle.graph_meaning.specs.NodeValues.{Shape}
use Rattle.graph_meaning.specs.Storage.{Weights}
use Rattle.made_store.proofs.Collecting.{lasts, nodes-same}
use Rattle.made_store.proofs.Refolding.{sum-none}
use Rattle.made_store.specs.Collections.{AreWithin, Collect, Final, IsWithin, Sifts, made}
use Rattle.made_store.specs.Known.{AreReadable, IsReadable, Known, Knows, KnowsAll, known_after}
use Rattle.made_store.specs.Refolds.{AllPlain, AreRefolded, AreWhole, Refolded, a_fold, a_whole, none_refolded, one_refolded, ports_of, reads, rows_sum, unchanged}
use Rattle.unit_plan.specs.Returns.{Keeping, Lasts, Way, Wholly, behind_way, collected_port, collects_by, ins_by, keeping_way, last_way, multiple, node_collects, nodes_collects, refolded_node, refolded_nodes, row_by, way_of, whole_in, whole_ins, whole_of, wholes}

-- ---- the ways of nodes

-- how a node of this row reads these sources
pub data WayIs (plain : ℕ) (left : (port : ℕ) → Bool) : Simple → List Source → Way → Type 0 where
  is_last : (x : Source) (j : ℕ) → multiple plain x ≡ Some j → WayIs plain left simple.FinalValue (x ∷ []) (Lasts j)
  is_final : (x y : Source) (j q : ℕ) → left 1 ≡ false → multiple plain x ≡ Some j → multiple plain y ≡ Some q → WayIs plain left simple.FinalValue (x ∷ y ∷ []) (Keeping [] j q)
  is_gather : (o x y : Source) (j q : ℕ) → left 2 ≡ false → multiple plain o ≡ None → multiple plain x ≡ Some j → multiple plain y ≡ Some q → WayIs plain left simple.AGather (o ∷ x ∷ y ∷ []) (Keeping (o ∷ []) j q)
  is_reduce : (g : Grouping) (o x y : Source) (j q : ℕ) → left 2 ≡ false → multiple plain o ≡ None → multiple plain x ≡ Some j → multiple plain y ≡ Some q → WayIs plain left (simple.Reduce g) (o ∷ x ∷ y ∷ []) (Keeping (o ∷ []) j q)
  is_whole : (row : Simple) (os : List Source) → WayIs plain left row os Wholly

last-is : (L : Way → Type 0) (x : Option ℕ) → L Wholly → ((j : ℕ) → x ≡ Some j → L (Lasts j)) → L (last_way x)
last-is L None w k = w
last-is L (Some j) w k = k j refl

keeping-is : (L : Way → Type 0) (b : Bool) (before : List Source) (x y : Option ℕ) → L Wholly → ((j q : ℕ) → b ≡ false → x ≡ Some j → y ≡ Some q → L (Keeping before j q)) → L (keeping_way b before x y)
keeping-is L false before (Some j) (Some q) w k = k j q refl refl refl
keeping-is L false before (Some j) None w k = w
keeping-is L false before None y w k = w
keeping-is L true before x y w k = w

behind-is : (L : Way → Type 0) (b : Bool) (o : Source) (i x y : Option ℕ) → L Wholly → ((j q : ℕ) → b ≡ false → i ≡ None → x ≡ Some j → y ≡ Some q → L (Keeping (o ∷ []) j q)) → L (behind_way b o i x y)
behind-is L b o None x y w k = keeping-is L b (o ∷ []) x y w (λ j q e f g. k j q e refl f g)
behind-is L b o (Some i) x y w k = w

pub way-is : (plain : ℕ) (left : ℕ → Bool) (row : Simple) (os : List Source) → WayIs plain left row os (way_of plain left row os)
way-is plain left simple.FinalValue (x ∷ []) = last-is (WayIs plain left simple.FinalValue (x ∷ [])) (multiple plain x) (is_whole simple.FinalValue (x ∷ [])) (λ j e. is_last x j e)
way-is plain left simple.FinalValue (x ∷ y ∷ []) =
    keeping-is (WayIs plain left simple.FinalValue (x ∷ y ∷ [])) (left 1) [] (multiple plain x) (multiple plain y) (is_whole simple.FinalValue (x ∷ y ∷ [])) (λ j q e f g. is_final x y j q e f g)
way-is plain left simple.AGather (o ∷ x ∷ y ∷ []) =
    behind-is (WayIs plain left simple.AGather (o ∷ x ∷ y ∷ [])) (left 2) o (multiple plain o) (multiple plain x) (multiple plain y) (is_whole simple.AGather (o ∷ x ∷ y ∷ [])) (λ j q e i f g. is_gather o x y j q e i f g)
way-is plain left (simple.Reduce r) (o ∷ x ∷ y ∷ []) =
    behind-is (WayIs plain left (simple.Reduce r) (o ∷ x ∷ y ∷ [])) (left 2) o (multiple plain o) (multiple plain x) (multiple plain y) (is_whole (simple.Reduce r) (o ∷ x ∷ y ∷ [])) (λ j q e i f g. is_reduce r o x y j q e i f g)
way-is plain left row os = is_whole row os

-- ---- sources

-- inputs that are read are there
abbrev pub AreInputs : (many : ℕ) → List Source → Type 0
AreInputs n [] = Unit {0}
AreInputs n (Fixed c ∷ os) = AreInputs n os
AreInputs n (Port zero p ∷ os) = (1 ≤ p) × (p ≤ n) × AreInputs n os
AreInputs n (Port (suc l) p ∷ os) = AreInputs n os

no-some : {A P : Type 0} (a : A) → None ≡ Some a → P
no-some a e = absurd (let x : None ≡ Some a = e in cc)

same-some : (a b : ℕ) → Some a ≡ Some b → a ≡ b
same-some a b e = cc

from-ltb : (a b : ℕ) → ltb a b ≡ false → b ≤ a
from-ltb a b e = grind (arith, e)

to-ltb : (a b : ℕ) → ltb a b ≡ true → a < b
to-ltb a b e = grind (arith, e)

-- what reads a multiple
pub multiple-is : (plain : ℕ) (o : Source) (j : ℕ) → multiple plain o ≡ Some j → o ≡ collected_port plain j
multiple-is plain (Fixed c) j e = no-some j e
multiple-is plain (Port zero zero) j e = no-some j e
multiple-is plain (Port (suc l) p) j e = no-some j e
multiple-is plain (Port zero (suc p)) j e = go (ltb p plain) refl e
  where
    go : (b : Bool) → ltb p plain ≡ b → (if b then None else Some (p - plain)) ≡ Some j → Port zero (suc p) ≡ collected_port plain j
    go true f e = no-some j e
    go false f e = let le = from-ltb p plain f in let s = same-some (p - plain) j e in let same : p ≡ plain + j = omega (arith, le, s) in ap (λ z. Port 0 (suc z)) same

pub multiple-below : (plain m : ℕ) (o : Source) (j : ℕ) → AreInputs (plain + m) (o ∷ []) → multiple plain o ≡ Some j → j < m
multiple-below plain m o j h e =
    let x = subst (λ z. AreInputs (plain + m) (z ∷ [])) (multiple-is plain o j e) h in
    let le = x.1 in omega (arith, le)

pub single-plain : (plain n : ℕ) (o : Source) → AreInputs n (o ∷ []) → multiple plain o ≡ None → AllPlain plain (o ∷ [])
single-plain plain n (Fixed c) h e = tt
single-plain plain n (Port (suc l) p) h e = tt
single-plain plain n (Port zero zero) h e = absurd (let le = h.0 in omega (arith, le))
single-plain plain n (Port zero (suc p)) h e = (go (ltb p plain) refl e, tt)
  where
    go : (b : Bool) → ltb p plain ≡ b → (if b then None else Some (p - plain)) ≡ None → suc p - 1 < plain
    go true f e = let lt = to-ltb p plain f in omega (arith, lt)
    go false f e = no-some (p - plain) (sym e)

pub first-input : (n : ℕ) (o : Source) (os : List Source) → AreInputs n (o ∷ os) → AreInputs n (o ∷ [])
first-input n (Fixed c) os h = tt
first-input n (Port zero p) os h = (h.0, h.1, tt)
first-input n (Port (suc l) p) os h = tt

pub other-inputs : (n : ℕ) (o : Source) (os : List Source) → AreInputs n (o ∷ os) → AreInputs n os
other-inputs n (Fixed c) os h = h
other-inputs n (Port zero p) os h = h.2
other-inputs n (Port (suc l) p) os h = h

-- ---- where collections stand

-- these collections stand behind so many others
abbrev pub Stand : List Collect → (k : ℕ) → List Collect → Type 0
Stand cs k [] = Unit {0}
Stand cs k (d ∷ ds) = (slice_get cs k ≡ Some d) × Stand cs (suc k) ds

pub stand-first : (cs : List Collect) (k : ℕ) (ds es : List Collect) → Stand cs k (ds ++ es) → Stand cs k ds
stand-first cs k [] es h = tt
stand-first cs k (d ∷ ds) es h = (h.0, stand-first cs (suc k) ds es h.1)

pub stand-second : (cs : List Collect) (k : ℕ) (ds es : List Collect) → Stand cs k (ds ++ es) → Stand cs (k + length ds) es
stand-second cs k [] es h = let same : k ≡ k + 0 = omega arith in subst (λ z. Stand cs z es) same h
stand-second cs k (d ∷ ds) es h = let same : suc k + length ds ≡ k + suc (length ds) = omega arith in subst (λ z. Stand cs z es) same (stand-second cs (suc k) ds es h.1)

stand-behind : (c : Collect) (cs : List Collect) (k : ℕ) (ds : List Collect) → Stand cs k ds → Stand (c ∷ cs) (suc k) ds
stand-behind c cs k [] h = tt
stand-behind c cs k (d ∷ ds) h = (h.0, stand-behind c cs (suc k) ds h.1)

pub stand-all : (cs : List Collect) → Stand cs 0 cs
stand-all [] = tt
stand-all (c ∷ cs) = (refl, stand-behind c cs 0 cs (stand-all cs))

-- ---- weights

-- Weights of simple nodes by label and row: a last value weighs by its output alone, and what is kept where no copy is counted weighs the
-- same where it is read as a collection.
pub record AreWaysWeighed (left : (node port : ℕ) → Bool) (by_row : (label : ℕ) → Simple → List Carried → List Carried → ℕ) : Type 0 where
  pub last : (l : ℕ) (ks : List Carried) (a b : Carried) (rs : List Carried) → length ks ≡ 0 → by_row l simple.FinalValue (ks ++ a ∷ []) rs ≡ by_row l simple.FinalValue (ks ++ b ∷ []) rs
  pub final : (l : ℕ) → left l 1 ≡ false → (ks : List Carried) (a b c : Carried) (rs : List Carried) → length ks ≡ 0 → by_row l simple.FinalValue (ks ++ a ∷ b ∷ []) rs ≡ by_row l simple.FinalValue (ks ++ c ∷ []) rs
  pub gather : (l : ℕ) → left l 2 ≡ false → (ks : List Carried) (a b c : Carried) (rs : List Carried) → length ks ≡ 1 → by_row l simple.AGather (ks ++ a ∷ b ∷ []) rs ≡ by_row l simple.AGather (ks ++ c ∷ []) rs
  pub reduce : (g : Grouping) (l : ℕ) → left l 2 ≡ false → (ks : List Carried) (a b c : Carried) (rs : List Carried) → length ks ≡ 1 → by_row l (simple.Reduce g) (ks ++ a ∷ b ∷ []) rs ≡ by_row l (simple.Reduce g) (ks ++ c ∷ []) rs

-- ---- one node

module _ (W : Weights) (left : (node port : ℕ) → Bool) (by_row : (label : ℕ) → Simple → List Carried → List Carried → ℕ) (ways : AreWaysWeighed left by_row) (plain m r : ℕ) (cs : List Collect) where
  whole-ins : (k : ℕ) (os : List Source) → AreInputs (plain + m) os → Stand cs k (wholes plain os) → AreWhole plain m cs os (whole_ins plain k os)
  whole-ins k [] h st = tt
  whole-ins k (o ∷ os) h st = go (multiple plain o) refl st (λ i. whole-ins i os (other-inputs (plain + m) o os h))
    where
      go : (x : Option ℕ) → multiple plain o ≡ x → Stand cs k (whole_of x (wholes plain os)) → ((i : ℕ) → Stand cs i (wholes plain os) → AreWhole plain m cs os (whole_ins plain i os)) → AreWhole plain m cs (o ∷ os) (whole_in plain k o x (λ i. whole_ins plain i os))
      go None e st rest = (inl (refl, single-plain plain (plain + m) o (first-input (plain + m) o os h) e), rest k st)
      go (Some j) e st rest = (inr (j, k, multiple-is plain o j e, refl, st.0, multiple-below plain m o j (first-input (plain + m) o os h) e), rest (suc k) st.1)

  -- its node on what is collected, by its way
  abbrev node_by : (k : ℕ) → Vertex → Simple → Shape → Way → Vertex
  node_by k v row shape way = record { label = v.label; kind = Plain (row_by way row) shape; ins = ins_by way plain k v.ins; before = v.before }

  -- weights of nodes of this label go by this row
  abbrev pub WeighsAs : Vertex → Simple → Type 0
  WeighsAs v row = (w : Vertex) → w.label ≡ v.label → (ks rs : List Carried) → W.of_node r w ks rs ≡ by_row v.label row ks rs

  same-ports : (x y : Source) (j q : ℕ) → multiple plain x ≡ Some j → multiple plain y ≡ Some q → x ∷ y ∷ [] ≡ ports_of plain (Sifts j (Some q))
  same-ports x y j q f g = ap (λ z. z ∷ y ∷ []) (multiple-is plain x j f) ∙ ap (λ z. collected_port plain j ∷ z ∷ []) (multiple-is plain y q g)

  -- with nothing for its rows
  with-none : (a b : ℕ) (rows : List (List Carried)) → a ≡ b → a ≡ b + rows_sum (λ row. 0) rows
  with-none a b rows e = let z = sum-none rows in omega (arith, z, e)

  plain-node : (k : ℕ) (v : Vertex) (l : ℕ) (row : Simple) (shape : Shape) → v.label ≡ suc l → v.kind ≡ Plain row shape → AreInputs (plain + m) v.ins → WeighsAs v row
      → (os : List Source) (way : Way) → v.ins ≡ os → WayIs plain (left v.label) row os way → Stand cs k (collects_by way plain os)
      → Refolded W plain m cs r r v (record { label = v.label; kind = Plain (row_by way row) shape; ins = ins_by way plain k os; before = v.before }) (λ row. 0)
  plain-node k v l _ shape label kind h weighs _ _ ins (is_last x j e) st =
      let v' : Vertex = record { label = v.label; kind = Plain simple.NoOp shape; ins = collected_port plain k ∷ []; before = v.before } in
      let below = multiple-below plain m x j (subst (AreInputs (plain + m)) ins h) e in
      a_fold v v' l [] simple.FinalValue simple.NoOp shape shape (Final j) k (λ row. 0) label refl kind refl (ins ∙ ap (λ z. z ∷ []) (multiple-is plain x j e)) refl tt st.0
      (λ ks rows long all. lasts shape shape m j ks rows below all long)
      (λ ks rs rows long all. with-none (W.of_node r v (ks ++ reads (Final j) (columns m rows)) rs) (W.of_node r v' (ks ++ made (Final j) rows ∷ []) rs) rows
      (weighs v refl (ks ++ reads (Final j) (columns m rows)) rs ∙ (ways.last v.label ks (get_or (columns m rows) j Unfilled) (made (Final j) rows) rs long ∙ sym (weighs v' refl (ks ++ made (Final j) rows ∷ []) rs))))
  plain-node k v l _ shape label kind h weighs _ _ ins (is_final x y j q kept e f) st =
      let v' : Vertex = record { label = v.label; kind = Plain simple.FinalValue shape; ins = collected_port plain k ∷ []; before = v.before } in
      let i = subst (AreInputs (plain + m)) ins h in
      let below : IsWithin m (Sifts j (Some q)) = (multiple-below plain m x j (first-input (plain + m) x (y ∷ []) i) e, multiple-below plain m y q (other-inputs (plain + m) x (y ∷ []) i) f) in
      a_fold v v' l [] simple.FinalValue simple.FinalValue shape shape (Sifts j (Some q)) k (λ row. 0) label refl kind refl (ins ∙ same-ports x y j q e f) refl tt st.0
      (λ ks rows long all. (nodes-same m j (Some q) ks rows below all).2 shape long)
      (λ ks rs rows long all. with-none (W.of_node r v (ks ++ reads (Sifts j (Some q)) (columns m rows)) rs) (W.of_node r v' (ks ++ made (Sifts j (Some q)) rows ∷ []) rs) rows
      (weighs v refl (ks ++ reads (Sifts j (Some q)) (columns m rows)) rs ∙ (ways.final v.label kept ks (get_or (columns m rows) j Unfilled) (get_or (columns m rows) q Unfilled) (made (Sifts j (Some q)) rows) rs long ∙ sym (weighs v' refl (ks ++ made (Sifts j (Some q)) rows ∷ []) rs))))
  plain-node k v l _ shape label kind h weighs _ _ ins (is_gather o x y j q kept plainly e f) st =
      let v' : Vertex = record { label = v.label; kind = Plain simple.AGather shape; ins = o ∷ collected_port plain k ∷ []; before = v.before } in
      let i = subst (AreInputs (plain + m)) ins h in
      let i' = other-inputs (plain + m) o (x ∷ y ∷ []) i in
      let below : IsWithin m (Sifts j (Some q)) = (multiple-below plain m x j (first-input (plain + m) x (y ∷ []) i') e, multiple-below plain m y q (other-inputs (plain + m) x (y ∷ []) i') f) in
      a_fold v v' l (o ∷ []) simple.AGather simple.AGather shape shape (Sifts j (Some q)) k (λ row. 0) label refl kind refl (ins ∙ ap (λ z. o ∷ z) (same-ports x y j q e f)) refl (single-plain plain (plain + m) o (first-input (plain + m) o (x ∷ y ∷ []) i) plainly) st.0
      (λ ks rows long all. (nodes-same m j (Some q) ks rows below all).0 shape long)
      (λ ks rs rows long all. with-none (W.of_node r v (ks ++ reads (Sifts j (Some q)) (columns m rows)) rs) (W.of_node r v' (ks ++ made (Sifts j (Some q)) rows ∷ []) rs) rows
      (weighs v refl (ks ++ reads (Sifts j (Some q)) (columns m rows)) rs ∙ (ways.gather v.label kept ks (get_or (columns m rows) j Unfilled) (get_or (columns m rows) q Unfilled) (made (Sifts j (Some q)) rows) rs long ∙ sym (weighs v' refl (ks ++ made (Sifts j (Some q)) rows ∷ []) rs))))
  plain-node k v l _ shape label kind h weighs _ _ ins (is_reduce g o x y j q kept plainly e f) st =
      let v' : Vertex = record { label = v.label; kind = Plain (simple.Reduce g) shape; ins = o ∷ collected_port plain k ∷ []; before = v.before } in
      let i = subst (AreInputs (plain + m)) ins h in
      let i' = other-inputs (plain + m) o (x ∷ y ∷ []) i in
      let below : IsWithin m (Sifts j (Some q)) = (multiple-below plain m x j (first-input (plain + m) x (y ∷ []) i') e, multiple-below plain m y q (other-inputs (plain + m) x (y ∷ []) i') f) in
      a_fold v v' l (o ∷ []) (simple.Reduce g) (simple.Reduce g) shape shape (Sifts j (Some q)) k (λ row. 0) label refl kind refl (ins ∙ ap (λ z. o ∷ z) (same-ports x y j q e f)) refl (single-plain plain (plain + m) o (first-input (plain + m) o (x ∷ y ∷ []) i) plainly) st.0
      (λ ks rows long all. (nodes-same m j (Some q) ks rows below all).1 g shape long)
      (λ ks rs rows long all. with-none (W.of_node r v (ks ++ reads (Sifts j (Some q)) (columns m rows)) rs) (W.of_node r v' (ks ++ made (Sifts j (Some q)) rows ∷ []) rs) rows
      (weighs v refl (ks ++ reads (Sifts j (Some q)) (columns m rows)) rs ∙ (ways.reduce g v.label kept ks (get_or (columns m rows) j Unfilled) (get_or (columns m rows) q Unfilled) (made (Sifts j (Some q)) rows) rs long ∙ sym (weighs v' refl (ks ++ made (Sifts j (Some q)) rows ∷ []) rs))))
  plain-node k v l _ shape label kind h weighs _ _ ins (is_whole row os) st =
      let v' : Vertex = record { label = v.label; kind = Plain row shape; ins = whole_ins plain k os; before = v.before } in
      a_whole v v' l row shape label refl kind refl (subst (λ z. AreWhole plain m cs z (whole_ins plain k os)) (sym ins) (whole-ins k os (subst (AreInputs (plain + m)) ins h) st))
      (λ ks rs. weighs v refl ks rs ∙ sym (weighs v' refl ks rs))

  -- what is asked of a node by its kind: compound nodes and Calls read no multiple
  abbrev pub IsKept : Vertex → Kind → Type 0
  IsKept v (Plain row shape) = WeighsAs v row
  IsKept v (Whole form) = AllPlain plain v.ins

  pub record IsReturned (v : Vertex) : Type 0 where
    pub label : (l : ℕ) × (v.label ≡ suc l)
    pub inputs : AreInputs (plain + m) v.ins
    pub kept : IsKept v v.kind

  one-node : (k : ℕ) (v : Vertex) (kind : Kind) → v.kind ≡ kind → IsReturned v → IsKept v kind → Stand cs k (node_collects plain left v kind) → Refolded W plain m cs r r v (refolded_node plain left k v kind) (λ row. 0)
  one-node k v (Plain row shape) e h kept st = plain-node k v h.label.0 row shape h.label.1 e h.inputs kept v.ins (way_of plain (left v.label) row v.ins) refl (way-is plain (left v.label) row v.ins) st
  one-node k v (Whole form) e h kept st = unchanged v h.label.0 h.label.1 kept (λ ks rs. refl)

  pub all-nodes : (k : ℕ) (vs : List Vertex) → EachNode IsReturned vs → Stand cs k (nodes_collects plain left vs)
      → (extra : List Carried → ℕ) × AreRefolded W plain m cs r r vs (refolded_nodes plain left k vs) extra × ((row : List Carried) → extra row ≡ 0)
  all-nodes k [] h st = ((λ row. 0), none_refolded, λ row. refl)
  all-nodes k (v ∷ vs) h st =
      let x = all-nodes (k + length (node_collects plain left v v.kind)) vs h.1 (stand-second cs k (node_collects plain left v v.kind) (nodes_collects plain left vs) st) in
      let one = one-node k v v.kind refl h.0 h.0.kept (stand-first cs k (node_collects plain left v v.kind) (nodes_collects plain left vs) st) in (
        (λ row. 0 + x.0 row),
        one_refolded v (refolded_node plain left k v v.kind) vs (refolded_nodes plain left (k + length (node_collects plain left v v.kind)) vs) (λ row. 0) x.0 one x.1,
        λ row. let z = x.2 row in omega (arith, z),
      )

  -- ---- what is collected is there

  within-more : (ds es : List Collect) → AreWithin m ds → AreWithin m es → AreWithin m (ds ++ es)
  within-more [] es a b = b
  within-more (d ∷ ds) es a b = (a.0, within-more ds es a.1 b)

  wholes-within : (os : List Source) → AreInputs (plain + m) os → AreWithin m (wholes plain os)
  wholes-within [] h = tt
  wholes-within (o ∷ os) h = go (multiple plain o) refl (wholes-within os (other-inputs (plain + m) o os h))
    where
      go : (x : Option ℕ) → multiple plain o ≡ x → AreWithin m (wholes plain os) → AreWithin m (whole_of x (wholes plain os))
      go None e rest = rest
      go (Some j) e rest = ((multiple-below plain m o j (first-input (plain + m) o os h) e, tt), rest)

  way-within : (l : ℕ) (row : Simple) (os : List Source) (way : Way) → WayIs plain (left l) row os way → AreInputs (plain + m) os → AreWithin m (collects_by way plain os)
  way-within l _ _ _ (is_last x j e) h = (multiple-below plain m x j h e, tt)
  way-within l _ _ _ (is_final x y j q kept e f) h = ((multiple-below plain m x j (first-input (plain + m) x (y ∷ []) h) e, multiple-below plain m y q (other-inputs (plain + m) x (y ∷ []) h) f), tt)
  way-within l _ _ _ (is_gather o x y j q kept plainly e f) h =
      let i = other-inputs (plain + m) o (x ∷ y ∷ []) h in
      ((multiple-below plain m x j (first-input (plain + m) x (y ∷ []) i) e, multiple-below plain m y q (other-inputs (plain + m) x (y ∷ []) i) f), tt)
  way-within l _ _ _ (is_reduce g o x y j q kept plainly e f) h =
      let i = other-inputs (plain + m) o (x ∷ y ∷ []) h in
      ((multiple-below plain m x j (first-input (plain + m) x (y ∷ []) i) e, multiple-below plain m y q (other-inputs (plain + m) x (y ∷ []) i) f), tt)
  way-within l _ _ _ (is_whole row os) h = wholes-within os h

  node-within : (v : Vertex) (kind : Kind) → AreInputs (plain + m) v.ins → AreWithin m (node_collects plain left v kind)
  node-within v (Plain row shape) h = way-within v.label row v.ins (way_of plain (left v.label) row v.ins) (way-is plain (left v.label) row v.ins) h
  node-within v (Whole form) h = tt

  pub all-within : (vs : List Vertex) → EachNode IsReturned vs → AreWithin m (nodes_collects plain left vs)
  all-within [] h = tt
  all-within (v ∷ vs) h = within-more (node_collects plain left v v.kind) (nodes_collects plain left vs) (node-within v v.kind h.0.inputs) (all-within vs h.1)

-- ---- what is read is known

module _ (plain : ℕ) (left : (node port : ℕ) → Bool) (width : Vertex → ℕ)
    (outputs : (v : Vertex) (row : Simple) (shape : Shape) → v.kind ≡ Plain row shape → width v ≡ outputs_by (row_of row).gives shape) where
  knows-whole : (known : Known) (k : ℕ) (os : List Source) → KnowsAll known os → KnowsAll known (whole_ins plain k os)
  knows-whole known k [] h = tt
  knows-whole known k (o ∷ os) h = go (multiple plain o) (λ i. knows-whole known i os (other-known known o os h))
    where
      first-known : (known : Known) (o : Source) (os : List Source) → KnowsAll known (o ∷ os) → (qs : List Source) → KnowsAll known qs → KnowsAll known (o ∷ qs)
      first-known known (Fixed c) os h qs r = r
      first-known known (Port zero p) os h qs r = r
      first-known known (Port (suc l) p) os h qs r = (h.0, r)

      other-known : (known : Known) (o : Source) (os : List Source) → KnowsAll known (o ∷ os) → KnowsAll known os
      other-known known (Fixed c) os h = h
      other-known known (Port zero p) os h = h
      other-known known (Port (suc l) p) os h = h.1

      go : (x : Option ℕ) → ((i : ℕ) → KnowsAll known (whole_ins plain i os)) → KnowsAll known (whole_in plain k o x (λ i. whole_ins plain i os))
      go None rest = first-known known o os h (whole_ins plain k os) (rest k)
      go (Some j) rest = rest (suc k)

  first-knows : (known : Known) (o : Source) (os : List Source) (k : ℕ) → KnowsAll known (o ∷ os) → KnowsAll known (o ∷ collected_port plain k ∷ [])
  first-knows known (Fixed c) os k h = tt
  first-knows known (Port zero p) os k h = tt
  first-knows known (Port (suc l) p) os k h = (h.0, tt)

  way-knows : (known : Known) (l k : ℕ) (row : Simple) (os : List Source) (way : Way) → WayIs plain (left l) row os way → KnowsAll known os → KnowsAll known (ins_by way plain k os)
  way-knows known l k _ _ _ (is_last x j e) h = tt
  way-knows known l k _ _ _ (is_final x y j q kept e f) h = tt
  way-knows known l k _ _ _ (is_gather o x y j q kept plainly e f) h = first-knows known o (x ∷ y ∷ []) k h
  way-knows known l k _ _ _ (is_reduce g o x y j q kept plainly e f) h = first-knows known o (x ∷ y ∷ []) k h
  way-knows known l k _ _ _ (is_whole row os) h = knows-whole known k os h

  way-outputs : (l : ℕ) (row : Simple) (os : List Source) (way : Way) (shape : Shape) → WayIs plain (left l) row os way → outputs_by (row_of (row_by way row)).gives shape ≡ outputs_by (row_of row).gives shape
  way-outputs l _ _ _ shape (is_last x j e) = refl
  way-outputs l _ _ _ shape (is_final x y j q kept e f) = refl
  way-outputs l _ _ _ shape (is_gather o x y j q kept plainly e f) = refl
  way-outputs l _ _ _ shape (is_reduce g o x y j q kept plainly e f) = refl
  way-outputs l _ _ _ shape (is_whole row os) = refl

  node-as-wide : (k : ℕ) (v : Vertex) (kind : Kind) → v.kind ≡ kind → width (refolded_node plain left k v kind) ≡ width v
  node-as-wide k v (Plain row shape) e =
      outputs (refolded_node plain left k v (Plain row shape)) (row_by (way_of plain (left v.label) row v.ins) row) shape refl
      ∙ (way-outputs v.label row v.ins (way_of plain (left v.label) row v.ins) shape (way-is plain (left v.label) row v.ins) ∙ sym (outputs v row shape e))
  node-as-wide k v (Whole form) e = refl

  pub label-same : (k : ℕ) (v : Vertex) (kind : Kind) → (refolded_node plain left k v kind).label ≡ v.label
  label-same k v (Plain row shape) = refl
  label-same k v (Whole form) = refl

  node-knows : (known : Known) (k : ℕ) (v : Vertex) (kind : Kind) → KnowsAll known v.ins → KnowsAll known (refolded_node plain left k v kind).ins
  node-knows known k v (Plain row shape) h = way-knows known v.label k row v.ins (way_of plain (left v.label) row v.ins) (way-is plain (left v.label) row v.ins) h
  node-knows known k v (Whole form) h = h

  -- what is known behind a node is the same
  known-same : (known : Known) (k : ℕ) (v : Vertex) → ((v.label, width v) ∷ known) ≡ (((refolded_node plain left k v v.kind).label, width (refolded_node plain left k v v.kind)) ∷ known)
  known-same known k v = ap (λ l. (l, width v) ∷ known) (sym (label-same k v v.kind)) ∙ ap (λ n. ((refolded_node plain left k v v.kind).label, n) ∷ known) (sym (node-as-wide k v v.kind refl))

  readable : (known : Known) (k : ℕ) (vs : List Vertex) → IsReadable width known vs → IsReadable width known (refolded_nodes plain left k vs)
  readable known k [] h = tt
  readable known k (v ∷ vs) h = (
    (λ e. h.0 (sym (label-same k v v.kind) ∙ e)),
    (λ p x. h.1 p (subst (λ l. Knows known l p) (label-same k v v.kind) x)),
    node-knows known k v v.kind h.2,
    subst (λ z. IsReadable width z (refolded_nodes plain left (k + length (node_collects plain left v v.kind)) vs)) (known-same known k v) (readable ((v.label, width v) ∷ known) (k + length (node_collects plain left v v.kind)) vs h.3),
  )

  after-same : (known : Known) (k : ℕ) (vs : List Vertex) → known_after width known vs ≡ known_after width known (refolded_nodes plain left k vs)
  after-same known k [] = refl
  after-same known k (v ∷ vs) =
      after-same ((v.label, width v) ∷ known) (k + length (node_collects plain left v v.kind)) vs
      ∙ ap (λ z. known_after width z (refolded_nodes plain left (k + length (node_collects plain left v v.kind)) vs)) (known-same known k v)

  pub all-readable : (vs : List Vertex) (results : List Source) → AreReadable width vs results → AreReadable width (refolded_nodes plain left 0 vs) results
  all-readable vs results h = (readable [] 0 vs h.0, subst (λ z. KnowsAll z results) (after-same [] 0 vs) h.1)

  labelled : (k : ℕ) (vs : List Vertex) (l : ℕ) → IsLabel (refolded_nodes plain left k vs) l → IsLabel vs l
  labelled k [] l h = h
  labelled k (v ∷ vs) l (inl e) = inl (e ∙ label-same k v v.kind)
  labelled k (v ∷ vs) l (inr h) = inr (labelled (k + length (node_collects plain left v v.kind)) vs l h)

  pub labels-once : (k : ℕ) (vs : List Vertex) → LabelsOnce vs → LabelsOnce (refolded_nodes plain left k vs)
  labels-once k [] h = tt
  labels-once k (v ∷ vs) h = (
    (λ x. h.0 (labelled (k + length (node_collects plain left v v.kind)) vs v.label (subst (IsLabel (refolded_nodes plain left (k + length (node_collects plain left v v.kind)) vs)) (label-same k v v.kind) x))),
    labels-once (k + length (node_collects plain left v v.kind)) vs h.1,
  )

-- compound nodes and Calls stay, and what holds of simple nodes whatever they do holds of all
pub each-refolded : (Q : Vertex → Kind → Type 0) (plain : ℕ) (left : (node port : ℕ) → Bool) → ((v : Vertex) (row : Simple) (shape : Shape) → Q v (Plain row shape)) → (k : ℕ) (vs : List Vertex)
    → EachNode (λ v. Q v v.kind) vs → EachNode (λ v. Q v v.kind) (refolded_nodes plain left k vs)
each-refolded Q plain left simple k [] h = tt
each-refolded Q plain left simple k (v ∷ vs) h = (one v.kind refl h.0, each-refolded Q plain left simple (k + length (node_collects plain left v v.kind)) vs h.1)
  where
    one : (kind : Kind) → v.kind ≡ kind → Q v kind → Q (refolded_node plain left k v kind) (refolded_node plain left k v kind).kind
    one (Plain row shape) e h = simple (refolded_node plain left k v (Plain row shape)) (row_by (way_of plain (left v.label) row v.ins) row) shape
    one (Whole form) e h = subst (Q v) (sym e) h
