-- What is asked of the weights of a unit's plan, and that copies and writes meet it.
use Rattle.std.proofs.Common.{◌≡◌, ℕ, ◌&&◌, if◌then◌else◌, Bool, true, false, List, [], ◌∷◌, ◌++◌, length, refl, sym, ap, ◌∙◌, arith}
use Rattle.if1_graph.specs.declared.graph.Graph.{Graph}
use Rattle.if1_graph.specs.declared.graph.Unit1.{Unit1}
use Rattle.if1_graph.specs.declared.op.Compound.{Compound}
use Rattle.if1_graph.specs.declared.op.Compound.TheVariants as compound
use Rattle.if1_graph.specs.declared.op.Grouping.{Grouping}
use Rattle.if1_graph.specs.declared.op.Simple.{Simple}
use Rattle.if1_graph.specs.declared.op.Simple.TheVariants as simple
use Rattle.graph_meaning.specs.Carried.{Carried, Many, Name, Spoiled, Unfilled, Value}
use Rattle.graph_meaning.specs.Demand.{Plain, Source, Vertex, Whole}
use Rattle.graph_meaning.specs.Forms as form
use Rattle.graph_meaning.specs.Networks.{form_of, network}
use Rattle.graph_meaning.specs.NodeValues.{Shape}
use Rattle.graph_meaning.specs.Storage.{Storage, copied_by, is_left, node_written, written_by}
use Rattle.graph_meaning.specs.StorageUnits.{storage_of}
use Rattle.made_store.specs.Cells.{picked}
use Rattle.made_store.specs.Made.{Plan}
use Rattle.made_store.specs.Plans.{Weighing}
use Rattle.made_store.specs.Ports.{mode_of, modes_of}
use Rattle.made_store.specs.Stored.{copied}
use Rattle.made_store.specs.Settings.{Shares}
use Rattle.made_store.specs.Weights.{node_weight}
use Rattle.unit_plan.proofs.Ways.{AreWaysWeighed}
use Rattle.unit_plan.specs.Plans.{Tables, plan_of}
use Rattle.unit_plan.specs.Shares.{kind_there, shares_of, weighing, writing_of}

-- Simple nodes weigh by label and row, Calls by their operands, and compound nodes as the inputs that are copied for their parts. A
-- result that is no aggregate adds nothing, where it is the only one, and nothing is added where rows are put.
pub record IsWeighed (u : Unit1) (order : ℕ → List Vertex) (t : Tables) (W : Weighing) (by_row : (graph label : ℕ) → Simple → List Carried → List Carried → ℕ) : Type 0 where
  pub simple_nodes : (g : ℕ) (v : Vertex) (row : Simple) (shape : Shape) → kind_there (network u g) v ≡ Plain row shape → (ks rs : List Carried) → W.weights.of_node g v ks rs ≡ by_row g v.label row ks rs
  pub calls : (g : ℕ) (v : Vertex) (f : ℕ) → kind_there (network u g) v ≡ Whole (form.Call f) → (ks rs : List Carried) → W.weights.of_node g v ks [] ≡ W.weights.of_node g v ks rs
  pub wholes : (g : ℕ) (v : Vertex) (c : Compound) (gs : List Graph) (arms : List ℕ) → kind_there (network u g) v ≡ Whole (form_of c gs arms) → (ks rs : List Carried) → W.inputs g v (picked ((plan_of u order t).picks g v) ks) ≡ W.weights.of_node g v ks rs
  pub choices : (h : ℕ) → length (network u h).results ≡ 1 → (storage_of u).is_aggregate h 0 1 ≡ false → (ks : List Carried) → W.weights.of_results h ks ≡ 0
  pub rows : (r : ℕ) → W.rows r ≡ (λ row. 0)
  pub ways : (g : ℕ) → AreWaysWeighed (is_left (storage_of u) g) (by_row g)

-- ---- copies

and-false : (b : Bool) → b && false ≡ false
and-false true = refl
and-false false = refl

-- what is looked at or taken is not copied
uncopied-rest : (ks : List Carried) → copied [] ks ≡ 0
uncopied-rest [] = refl
uncopied-rest (k ∷ ks) = let x = uncopied-rest ks in omega (arith, x)

mode-uncopied : (b : Bool) (ks : List Carried) → copied (mode_of b false ∷ []) ks ≡ 0
mode-uncopied b [] = refl
mode-uncopied true (k ∷ ks) = let x = uncopied-rest ks in omega (arith, x)
mode-uncopied false (k ∷ ks) = let x = uncopied-rest ks in omega (arith, x)

alone-uncopied : (takes copies : ℕ → Bool) (os : List Source) (ks : List Carried) → length os ≡ 1 → copies 1 ≡ false → copied (modes_of takes copies 1 os) ks ≡ 0
alone-uncopied takes copies [] ks long e = absurd (omega (arith, long))
alone-uncopied takes copies (o ∷ x ∷ os) ks long e = absurd (omega (arith, long))
alone-uncopied takes copies (o ∷ []) ks long e = ap (λ b. copied (mode_of (takes 1) b ∷ []) ks) e ∙ mode-uncopied (takes 1) ks

none-left : (b : Bool) (a c : ℕ) → b ≡ false → (if b then a else 0) ≡ (if b then c else 0)
none-left true a c e = absurd (let x : true ≡ false = e in cc)
none-left false a c e = refl

copies-final : (s : Storage) (g l : ℕ) → is_left s g l 1 ≡ false → (ks : List Carried) (a b c : Carried) (rs : List Carried) → length ks ≡ 0 → copied_by s g l simple.FinalValue (ks ++ a ∷ b ∷ []) rs ≡ copied_by s g l simple.FinalValue (ks ++ c ∷ []) rs
copies-final s g l kept [] a b c rs long = none-left (is_left s g l 1) _ _ kept
copies-final s g l kept (k ∷ ks) a b c rs long = absurd (omega (arith, long))

copies-last : (s : Storage) (g l : ℕ) (ks : List Carried) (a b : Carried) (rs : List Carried) → length ks ≡ 0 → copied_by s g l simple.FinalValue (ks ++ a ∷ []) rs ≡ copied_by s g l simple.FinalValue (ks ++ b ∷ []) rs
copies-last s g l [] a b rs long = refl
copies-last s g l (k ∷ ks) a b rs long = absurd (omega (arith, long))

module _ (u : Unit1) (order : ℕ → List Vertex) (t : Tables) where
  abbrev s : Storage
  s = storage_of u

  abbrev P : Plan
  P = plan_of u order t

  abbrev S : Shares
  S = shares_of u order

  copies-whole : (g : ℕ) (v : Vertex) (c : Compound) (gs : List Graph) (arms : List ℕ) → kind_there (network u g) v ≡ Whole (form_of c gs arms) → (ks rs : List Carried)
      → (weighing u order t).inputs g v (picked (P.picks g v) ks) ≡ (weighing u order t).weights.of_node g v ks rs
  copies-whole g v compound.Select gs arms e ks rs = sym (ap (λ k. node_weight P S s g v k ks rs) e)
  copies-whole g v compound.TagCase gs arms e ks rs = sym (ap (λ k. node_weight P S s g v k ks rs) e)
  copies-whole g v compound.LoopA gs arms e ks rs = sym (ap (λ k. node_weight P S s g v k ks rs) e)
  copies-whole g v compound.LoopB gs arms e ks rs = sym (ap (λ k. node_weight P S s g v k ks rs) e)
  copies-whole g v compound.ForAll gs arms e ks rs = sym (ap (λ k. node_weight P S s g v k ks rs) e)

  pub copies-weighed : IsWeighed u order t (weighing u order t) (λ g l row ks rs. copied_by (storage_of u) g l row ks rs)
  copies-weighed =
      record {
        simple_nodes = λ g v row shape e ks rs. ap (λ k. node_weight P S s g v k ks rs) e;
        calls = λ g v f e ks rs. ap (λ k. node_weight P S s g v k ks []) e ∙ sym (ap (λ k. node_weight P S s g v k ks rs) e);
        wholes = copies-whole;
        choices = λ h long e ks. alone-uncopied (S.takes h 0) (S.copies h 0) (P.results h) ks long (ap (λ b. s.is_given h 0 1 && b) e ∙ and-false (s.is_given h 0 1));
        rows = λ r. refl;
        ways = λ g.
            record {
              last = λ l ks a b rs long. copies-last s g l ks a b rs long;
              final = λ l kept ks a b c rs long. copies-final s g l kept ks a b c rs long;
              gather = λ l kept ks a b c rs long. none-left (is_left s g l 2) _ _ kept;
              reduce = λ r l kept ks a b c rs long. none-left (is_left s g l 2) _ _ kept;
            };
      }

  -- ---- writes

  written-reduce : (r : Grouping) (g l : ℕ) (ks : List Carried) (a b c : Carried) (rs : List Carried) → length ks ≡ 1 → written_by s g l (simple.Reduce r) (ks ++ a ∷ b ∷ []) rs ≡ written_by s g l (simple.Reduce r) (ks ++ c ∷ []) rs
  written-reduce r g l [] a b c rs long = absurd (omega (arith, long))
  written-reduce r g l (k ∷ x ∷ ks) a b c rs long = absurd (omega (arith, long))
  written-reduce r g l (Name text ∷ []) a b c rs long = refl
  written-reduce r g l (Value v ∷ []) a b c rs long = refl
  written-reduce r g l (Many vs ∷ []) a b c rs long = refl
  written-reduce r g l (Spoiled d ∷ []) a b c rs long = refl
  written-reduce r g l (Unfilled ∷ []) a b c rs long = refl

  pub writes-weighed : IsWeighed u order t (writing_of u) (λ g l row ks rs. written_by (storage_of u) g l row ks rs)
  writes-weighed =
      record {
        simple_nodes = λ g v row shape e ks rs. ap (λ k. node_written s g v.label k ks rs) e;
        calls = λ g v f e ks rs. ap (λ k. node_written s g v.label k ks []) e ∙ sym (ap (λ k. node_written s g v.label k ks rs) e);
        wholes = λ g v c gs arms e ks rs. sym (ap (λ k. node_written s g v.label k ks rs) e);
        choices = λ h long e ks. refl;
        rows = λ r. refl;
        ways = λ g.
            record {
              last = λ l ks a b rs long. refl;
              final = λ l kept ks a b c rs long. refl;
              gather = λ l kept ks a b c rs long. refl;
              reduce = λ r l kept ks a b c rs long. written-reduce r g l ks a b c rs long;
            };
      }
