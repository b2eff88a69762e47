-- What is told by rows is what the plan of the unit weighs.
use Rattle.std.proofs.Common.{◌≡◌, ℕ, Bool, List, length, map, refl, sym, ap, ◌∙◌, subst}
use Rattle.if1_graph.specs.declared.graph.Unit1.{Unit1}
use Rattle.graph_meaning.specs.Carried.{Carried}
use Rattle.graph_meaning.specs.Demand.{Kind, Plain, Vertex, Whole}
use Rattle.graph_meaning.specs.Networks.{network}
use Rattle.graph_meaning.specs.Storage.{node_written}
use Rattle.graph_meaning.specs.StorageUnits.{storage_of}
use Rattle.run_code.specs.Made.{Plan}
use Rattle.unit_plan.specs.Settings.{Shares}
use Rattle.unit_plan.specs.Weights.{node_weight}
use Rattle.code_weights.specs.Code.{Code}
use Rattle.code_weights.specs.Counted.{Counted}
use Rattle.code_weights.specs.Written.{Written}
use Rattle.code_weights.specs.Laid.{copied_at, written_at}
use Rattle.row_counts.specs.Counts.{IsTold}
use Rattle.row_counts.proofs.Weighed.{counted-is, written-is}
use Rattle.code_weights.specs.PlanData.{PlanData}
use Rattle.code_weights.specs.PlanNode.{PlanNode}
use Rattle.code_weights.specs.Work.{Work}
use Rattle.code_weights.specs.Work.TheVariants as work
use Rattle.code_weights.specs.Parts.{mode_of}
use Rattle.unit_plan.specs.Plans.{Tables, plan_of}
use Rattle.unit_plan.specs.Shares.{kind_there, shares_of, weighing, writing_of}
use Rattle.code_weights.specs.Weights.{IsCopiedSo, IsWrittenSo}
use Rattle.told_rows.specs.Rows.{AreUnitCopiesTold, AreUnitWritesTold, IsCountedByRow, IsCountedOf, IsFiredByRow, IsFiredOf, IsWrittenByRow, IsWrittenOf}

module _ (D : PlanData) (u : Unit1) where
  kind-written : (g l : ℕ) (writes : Written) (k : Kind) → IsWrittenOf D u g l writes k → (ks rs : List Carried) → written_at writes ks rs ≡ node_written (storage_of u) g l k ks rs
  kind-written g l writes (Plain row shape) e ks rs = ap (λ x. written_at x ks rs) e ∙ written-is (storage_of u) g l row ((storage_of u).is_joined g l) refl ks rs
  kind-written g l writes (Whole form) e ks rs = absurd e

  work-written : (order : ℕ → List Vertex) (t : Tables) (g : ℕ) (v : Vertex) (x : Work) → IsWrittenByRow D u g v x → IsWrittenSo D (plan_of u order t) (writing_of u) g v x
  work-written order t g v (work.Plain row shape writes copies) e = λ ks rs. kind-written g v.label writes (kind_there (network u g) v) e ks rs
  work-written order t g v (work.Call f) e = tt
  work-written order t g v (work.Select s gs) e = tt
  work-written order t g v (work.TagCase gs) e = tt
  work-written order t g v (work.LoopA p) e = tt
  work-written order t g v (work.LoopB p) e = tt
  work-written order t g v (work.ForAll x b r m) e = tt

  kind-counted : (P : Plan) (S : Shares) (g : ℕ) (v : Vertex) (n : PlanNode) (copies : Counted) (k : Kind) → IsCountedOf D u g v.label n copies k → IsFiredOf D u g v.label n k → (code : Code) → code.marks ≡ D.marks
      → (ks rs : List Carried) → length rs ≡ n.width → copied_at code copies (map mode_of n.ins) n.width ks rs ≡ node_weight P S (storage_of u) g v k ks rs
  kind-counted P S g v n copies (Plain row shape) e f code marks ks rs long =
      ap (λ x. copied_at code x (map mode_of n.ins) n.width ks rs) e.2
      ∙ counted-is (storage_of u) g v.label code (map mode_of n.ins) n.width ks rs e.0 e.1 row (subst (λ (bits : List Bool). IsTold (storage_of u) g v.label bits n.width e.0 e.1 row) (sym marks) e.3) (f ks rs long)
  kind-counted P S g v n copies (Whole form) e f code marks ks rs long = absurd e

  work-counted : (order : ℕ → List Vertex) (t : Tables) (g : ℕ) (v : Vertex) (n : PlanNode) (x : Work) → IsCountedByRow D u g v n x → IsFiredByRow D u g v n x → IsCopiedSo D (plan_of u order t) (weighing u order t) g v n x
  work-counted order t g v n (work.Plain row shape writes copies) e f = λ code marks ks rs. kind-counted (plan_of u order t) (shares_of u order) g v n copies (kind_there (network u g) v) e f code marks ks rs
  work-counted order t g v n (work.Call callee) e f = tt
  work-counted order t g v n (work.Select s gs) e f = tt
  work-counted order t g v n (work.TagCase gs) e f = tt
  work-counted order t g v n (work.LoopA p) e f = tt
  work-counted order t g v n (work.LoopB p) e f = tt
  work-counted order t g v n (work.ForAll x b r m) e f = tt

pub writes-told : AreUnitWritesTold
writes-told D u order t by_rows g n v pair = work-written D u order t g v n.work (by_rows g n v pair)

pub copies-told : AreUnitCopiesTold
copies-told D u order t by_rows fired g n v pair = work-counted D u order t g v n n.work (by_rows g n v pair) (fired g n v pair)
