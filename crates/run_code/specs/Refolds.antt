-- The returns as another graph, whose inputs are what is collected in place of the multiples. Its nodes are those of the first one,
-- but a node that reads a multiple there reads one collection here.
use Rattle.std.specs.Prelude.{◌≡◌, ℕ, zero, suc, ◌+◌, ◌-◌, ◌<◌, ◌⊎◌, List, [], ◌∷◌, ◌++◌, length, get_or, slice_get, Some, None}
use Rattle.ordered_meaning.specs.Simple.{Simple}
use Rattle.ordered_meaning.specs.Carried.{Carried, Unfilled}
use Rattle.ordered_meaning.specs.NodeValues.{Shape, op}
use Rattle.ordered_meaning.specs.Forms.{columns}
use Rattle.ordered_meaning.specs.Demand.{Source, Port, Fixed, Plain, Vertex}
use Rattle.ordered_meaning.specs.Storage.{Weights}
use Rattle.run_code.specs.Collections.{Collect, Final, Sifts, made}

-- no input past so many
abbrev pub AllPlain : ℕ → List Source → Type 0
AllPlain plain [] = Unit {0}
AllPlain plain (Fixed c ∷ os) = AllPlain plain os
AllPlain plain (Port zero p ∷ os) = (p - 1 < plain) × AllPlain plain os
AllPlain plain (Port (suc l) p ∷ os) = AllPlain plain os

-- what a node reads that makes this of the multiples behind so many inputs
abbrev pub ports_of : ℕ → Collect → List Source
ports_of plain (Sifts j None) = Port 0 (suc (plain + j)) ∷ []
ports_of plain (Sifts j (Some q)) = Port 0 (suc (plain + j)) ∷ Port 0 (suc (plain + q)) ∷ []
ports_of plain (Final j) = Port 0 (suc (plain + j)) ∷ []

abbrev pub reads : Collect → List Carried → List Carried
reads (Sifts j None) cols = get_or cols j Unfilled ∷ []
reads (Sifts j (Some q)) cols = get_or cols j Unfilled ∷ get_or cols q Unfilled ∷ []
reads (Final j) cols = get_or cols j Unfilled ∷ []

abbrev pub rows_sum : (List Carried → ℕ) → List (List Carried) → ℕ
rows_sum e [] = 0
rows_sum e (r ∷ rs) = e r + rows_sum e rs

abbrev pub AllLong : ℕ → List (List Carried) → Type 0
AllLong m [] = Unit {0}
AllLong m (r ∷ rs) = (length r ≡ m) × AllLong m rs

module _ (plain m : ℕ) (cs : List Collect) where
  -- one source is read in place of another: it is the same one, or the whole of a multiple
  abbrev pub IsWhole : Source → Source → Type 0
  IsWhole o o' =
      ((o' ≡ o) × AllPlain plain (o ∷ []))
      ⊎ ((j : ℕ) × (k : ℕ) × (o ≡ Port 0 (suc (plain + j))) × (o' ≡ Port 0 (suc (plain + k))) × (slice_get cs k ≡ Some (Sifts j None)) × (j < m))

  abbrev pub AreWhole : List Source → List Source → Type 0
  AreWhole [] [] = Unit {0}
  AreWhole [] (o ∷ os) = ⊥
  AreWhole (o ∷ os) [] = ⊥
  AreWhole (o ∷ os) (q ∷ qs) = IsWhole o q × AreWhole os qs

module _ (W : Weights) (plain m : ℕ) (cs : List Collect) (r r' : ℕ) where
  -- this node of the one graph is that one of the other, and adds so much for each row more
  pub data Refolded : Vertex → Vertex → (List Carried → ℕ) → Type 0 where
    unchanged : (v : Vertex) (l : ℕ) → v.label ≡ suc l → AllPlain plain v.ins → ((ks rs : List Carried) → W.of_node r v ks rs ≡ W.of_node r' v ks rs) → Refolded v v (λ row. 0)
    a_fold : (v v' : Vertex) (l : ℕ) (before : List Source) (row row' : Simple) (shape shape' : Shape) (c : Collect) (k : ℕ) (e : List Carried → ℕ)
        → v.label ≡ suc l → v'.label ≡ v.label
        → v.kind ≡ Plain row shape → v'.kind ≡ Plain row' shape'
        → v.ins ≡ before ++ ports_of plain c → v'.ins ≡ before ++ Port 0 (suc (plain + k)) ∷ []
        → AllPlain plain before → slice_get cs k ≡ Some c
        → ((ks : List Carried) (rows : List (List Carried)) → length ks ≡ length before → AllLong m rows → op row shape (ks ++ reads c (columns m rows)) ≡ op row' shape' (ks ++ made c rows ∷ []))
        → ((ks rs : List Carried) (rows : List (List Carried)) → length ks ≡ length before → AllLong m rows
        → W.of_node r v (ks ++ reads c (columns m rows)) rs ≡ W.of_node r' v' (ks ++ made c rows ∷ []) rs + rows_sum e rows)
        → Refolded v v' e
    -- each multiple that the node reads is collected whole
    a_whole : (v v' : Vertex) (l : ℕ) (row : Simple) (shape : Shape)
        → v.label ≡ suc l → v'.label ≡ v.label
        → v.kind ≡ Plain row shape → v'.kind ≡ Plain row shape
        → AreWhole plain m cs v.ins v'.ins
        → ((ks rs : List Carried) → W.of_node r v ks rs ≡ W.of_node r' v' ks rs)
        → Refolded v v' (λ row. 0)

  pub data AreRefolded : List Vertex → List Vertex → (List Carried → ℕ) → Type 0 where
    none_refolded : AreRefolded [] [] (λ row. 0)
    one_refolded : (v v' : Vertex) (vs vs' : List Vertex) (e es : List Carried → ℕ) → Refolded v v' e → AreRefolded vs vs' es → AreRefolded (v ∷ vs) (v' ∷ vs') (λ row. e row + es row)

  pub record Refolds (vs : List Vertex) (outs : List Source) (vs' : List Vertex) (outs' : List Source) (extra : List Carried → ℕ) : Type 0 where
    pub nodes : AreRefolded vs vs' extra
    pub results : outs' ≡ outs
    pub plainly : AllPlain plain outs
    pub weighs : (rs : List Carried) → W.of_results r rs ≡ W.of_results r' rs
