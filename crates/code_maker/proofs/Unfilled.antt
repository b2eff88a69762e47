-- Steps of nodes of whose ports few are filled.
use Rattle.std.proofs.Common.{◌≡◌, ℕ, zero, suc, Bool, List, [], ◌∷◌, ◌++◌, map, replicate, length, refl, sym, ap, ◌∙◌, subst, arith}
use Rattle.flow_value.specs.declared.operands.Shape.{Shape}
use Rattle.gapped.specs.Spread.{spread}
use Rattle.if1_graph.specs.declared.op.Simple.{Simple}
use Rattle.node_ops.specs.Operands.{shape_of}
use Rattle.run_code.specs.Made.{Origin, Plan, line}
use Rattle.run_code.specs.Steps as made
use Rattle.plan_data.specs.Settings.{Cells_of}
use Rattle.plan_data.specs.Settled.{setting}
use Rattle.step_code.specs.declared.step.Counted.{Counted}
use Rattle.step_code.specs.declared.step.Written.{Written}
use Rattle.step_code.specs.declared.step.Written.TheVariants as written
use Rattle.step_code.specs.Laid.{counted_by, row_of, shape_in}
use Rattle.plan_data.specs.declared.plan.Port.{Port}
use Rattle.plan_data.specs.declared.plan.PlanData.{PlanData}
use Rattle.plan_data.specs.Parts.{AreBelow, mode_of}
use Rattle.code_maker.specs.declared.draft.Draft.{Draft}
use Rattle.code_maker.specs.declared.seats.Seat.{Seat}
use Rattle.code_maker.specs.declared.sparse.SparseNode.{SparseNode}
use Rattle.code_maker.specs.Grows.{Grows, IsToldOf}
use Rattle.code_maker.specs.Seats.{at_seats, seats_at}
use Rattle.code_maker.specs.Sparse.{IsSparseNode}

behind-below : (cells n : ℕ) (f : Port) (ys : List Port) → AreBelow cells (replicate n f ++ ys) → AreBelow cells ys
behind-below cells zero f ys h = h
behind-below cells (suc n) f ys h = behind-below cells n f ys h.1

pub items-below : (cells : ℕ) (f : Port) (ks : List ℕ) (xs : List Port) → length ks ≡ length xs → AreBelow cells (spread f ks xs) → AreBelow cells xs
items-below cells f [] xs e h = h
items-below cells f (k ∷ ks) [] e h = tt
items-below cells f (k ∷ ks) (x ∷ xs) e h = let r = behind-below cells k f (x ∷ spread f ks xs) h in (r.0, items-below cells f ks xs (omega (arith, e)) r.1)

pub sparse-as : (D : PlanData) (P : Plan) (a b : Draft) (o : Origin) (lives owns : Cells_of) (args : List Seat) (first out : ℕ) (row : Simple) (shape : Shape) (x : Written) (k : Counted) (w : ℕ) (n : SparseNode) → IsSparseNode row shape x k w n
    → (xs ys : List Port) → xs ≡ ys
    → (IsToldOf D P (row_of n.row) written.Nothing (counted_by n.copies) 1 (map mode_of ys) o → Grows D P a b (line o (made.Fire (row_of n.row) (shape_in n.row) (at_seats D (seats_at args first ys)) out 1) ∷ []) (setting (map mode_of ys) [] lives owns ∷ []))
    → IsToldOf D P row x k w (map mode_of xs) o → Grows D P a b (line o (made.Fire row (shape_of shape) (at_seats D (seats_at args first xs)) out w) ∷ []) (setting (map mode_of xs) [] lives owns ∷ [])
sparse-as D P a b o lives owns args first out row shape x k w n h xs ys same f told =
    subst (λ z. Grows D P a b (line o (made.Fire row (shape_of shape) (at_seats D (seats_at args first z)) out w) ∷ []) (setting (map mode_of z) [] lives owns ∷ [])) (sym same)
    (subst (λ z. Grows D P a b (line o (made.Fire row (shape_of shape) (at_seats D (seats_at args first ys)) out z) ∷ []) (setting (map mode_of ys) [] lives owns ∷ [])) (sym h.single)
    (subst (λ z. Grows D P a b (line o (made.Fire row z (at_seats D (seats_at args first ys)) out 1) ∷ []) (setting (map mode_of ys) [] lives owns ∷ [])) (sym h.shape_is)
    (subst (λ z. Grows D P a b (line o (made.Fire z (shape_in n.row) (at_seats D (seats_at args first ys)) out 1) ∷ []) (setting (map mode_of ys) [] lives owns ∷ [])) (sym h.row_is)
    (f
    (subst (λ z. IsToldOf D P (row_of n.row) written.Nothing (counted_by n.copies) 1 (map mode_of z) o) same
    (subst (λ z. IsToldOf D P (row_of n.row) written.Nothing (counted_by n.copies) z (map mode_of xs) o) h.single
    (subst (λ z. IsToldOf D P (row_of n.row) written.Nothing z w (map mode_of xs) o) h.counts
    (subst (λ z. IsToldOf D P (row_of n.row) z k w (map mode_of xs) o) h.writes_none
    (subst (λ z. IsToldOf D P z x k w (map mode_of xs) o) h.row_is told)))))))))
