-- How many cells the graphs of a plan take, by the table of the data in which it stands.
use Rattle.std.proofs.Common.{◌≡◌, ℕ, suc, ◌+◌, max, Bool, List, [], ◌∷◌, length, map, refl, sym, ap, ◌∙◌, subst}
use Rattle.std.proofs.Math.Nat.{max-zero}
use Rattle.graph_meaning.specs.Demand.{Source, Vertex}
use Rattle.run_code.specs.Cells.{picked}
use Rattle.run_code.specs.Made.{Plan, greatest_extent, loop_extent, nodes_extent, parts_extent}
use Rattle.made_store.specs.Settings.{Shares}
use Rattle.made_store.specs.UnitWeights.{ArePicksForParts, IsUnpicked}
use Rattle.step_code.specs.Laid.{collect_in}
use Rattle.plan_data.specs.declared.plan.Handled.{Handled}
use Rattle.plan_data.specs.declared.plan.Handled.TheVariants as handled
use Rattle.plan_data.specs.declared.plan.PlanData.{PlanData}
use Rattle.plan_data.specs.declared.plan.PlanNode.{PlanNode}
use Rattle.plan_data.specs.declared.plan.Port.{Port}
use Rattle.plan_data.specs.declared.plan.Work.{Work}
use Rattle.plan_data.specs.declared.plan.Work.TheVariants as work
use Rattle.plan_data.specs.Parts.{count_true, extent_in, graph_collects, graph_nodes, graph_refolded, graph_results, greatest_of, kind_of, nodes_cells, own_copies, picks_by, picks_of, work_cells}
use Rattle.plan_data.specs.Stands.{AreFed, AreNodes, IsHandled, Stands}
use Rattle.plan_tables.proofs.Plans.{tables-are}
use Rattle.plan_tables.specs.Laws.{AreSizedByTables}

map-many : {A B : Type 0} (f : A → B) (xs : List A) → length (map f xs) ≡ length xs
map-many f [] = refl
map-many f (x ∷ xs) = ap suc (map-many f xs)

module _ (D : PlanData) (P : Plan) (S : Shares) (stands : Stands D P S) where
  fed-many : (g : ℕ) (xs : List Port) (os : List Source) → AreFed D P S g xs os → length os ≡ length xs
  fed-many g [] [] h = refl
  fed-many g [] (o ∷ os) h = absurd h
  fed-many g (x ∷ xs) [] h = absurd h
  fed-many g (x ∷ xs) (o ∷ os) h = ap suc (fed-many g xs os h.1)

  -- so many are picked
  pick-many : (h : Handled) (o : Source) (os : List Source) (bs : List Bool) → length (picked bs os) ≡ count_true bs → length (picked (picks_by h ∷ bs) (o ∷ os)) ≡ count_true (picks_by h ∷ bs)
  pick-many handled.Looks o os bs e = e
  pick-many handled.Takes o os bs e = e
  pick-many handled.Copies o os bs e = ap suc e

  picked-many : (g : ℕ) (xs : List Port) (os : List Source) → AreFed D P S g xs os → length (picked (map picks_of xs) os) ≡ count_true (map picks_of xs)
  picked-many g [] [] h = refl
  picked-many g [] (o ∷ os) h = absurd h
  picked-many g (x ∷ xs) [] h = absurd h
  picked-many g (x ∷ xs) (o ∷ os) h = pick-many x.handled o os (map picks_of xs) (picked-many g xs os h.1)

  none-picked : (bs : List Bool) (os : List Source) → bs ≡ [] → length (picked bs os) ≡ 0
  none-picked bs os e = ap (λ q. length (picked q os)) e

  own-many : (g : ℕ) (xs : List Port) (v : Vertex) (x : Work) (w : ℕ) → v.kind ≡ kind_of x w → AreFed D P S g xs v.ins → IsHandled D P S g xs v x → IsUnpicked v.kind (P.picks g v) → length (picked (P.picks g v) v.ins) ≡ own_copies x xs
  own-many g xs v (work.Plain row shape writes copies) w is fed h none = none-picked (P.picks g v) v.ins (subst (λ k. IsUnpicked k (P.picks g v)) is none)
  own-many g xs v (work.Call f) w is fed h none = none-picked (P.picks g v) v.ins (subst (λ k. IsUnpicked k (P.picks g v)) is none)
  own-many g xs v (work.Select s gs) w is fed h none = ap (λ bs. length (picked bs v.ins)) h.0 ∙ picked-many g xs v.ins fed
  own-many g xs v (work.TagCase gs) w is fed h none = ap (λ bs. length (picked bs v.ins)) h.0 ∙ picked-many g xs v.ins fed
  own-many g xs v (work.LoopA p) w is fed h none = ap (λ bs. length (picked bs v.ins)) h.0 ∙ picked-many g xs v.ins fed
  own-many g xs v (work.LoopB p) w is fed h none = ap (λ bs. length (picked bs v.ins)) h.0 ∙ picked-many g xs v.ins fed
  own-many g xs v (work.ForAll e b r m) w is fed h none = ap (λ bs. length (picked bs v.ins)) h.0 ∙ picked-many g xs v.ins fed

  -- ---- parts

  greatest-are : (gs : List ℕ) → greatest_extent P gs ≡ greatest_of D gs
  greatest-are [] = refl
  greatest-are (g ∷ gs) = ap (λ x. max x (greatest_extent P gs)) (stands.extents g) ∙ ap (λ x. max (extent_in D g) x) (greatest-are gs)

  results-many : (g : ℕ) → length (P.results g) ≡ length (graph_results D g)
  results-many g = fed-many g (graph_results D g) (P.results g) (stands.results g)

  collects-many : (r : ℕ) → length (P.collects r) ≡ length (graph_collects D r)
  collects-many r = ap length (stands.collects r) ∙ map-many collect_in (graph_collects D r)

  last-extent : (r : ℕ) → P.extent (P.refolded r) ≡ extent_in D (graph_refolded D r)
  last-extent r = ap P.extent (stands.refolded r) ∙ stands.extents (graph_refolded D r)

  loop-are : (i t b r : ℕ) → loop_extent P i t b r ≡ max (extent_in D i) (length (graph_results D i) + (length (graph_collects D r) + max (extent_in D t) (max (extent_in D b) (extent_in D (graph_refolded D r)))))
  loop-are i t b r =
      let all = λ (p q n k : ℕ). max p (n + (k + q)) in
      ap (λ q. all (P.extent i) q (length (P.results i)) (length (P.collects r))) (greatest-are (t ∷ b ∷ P.refolded r ∷ [])
      ∙ ap (λ x. max (extent_in D t) (max (extent_in D b) x)) (max-zero (extent_in D (P.refolded r)) ∙ ap (extent_in D) (stands.refolded r)))
      ∙ (ap (λ p. all p (max (extent_in D t) (max (extent_in D b) (extent_in D (graph_refolded D r)))) (length (P.results i)) (length (P.collects r))) (stands.extents i)
      ∙ (ap (λ n. all (extent_in D i) (max (extent_in D t) (max (extent_in D b) (extent_in D (graph_refolded D r)))) n (length (P.collects r))) (results-many i)
      ∙ ap (λ k. all (extent_in D i) (max (extent_in D t) (max (extent_in D b) (extent_in D (graph_refolded D r)))) (length (graph_results D i)) k) (collects-many r)))

  parts-are : (x : Work) (w : ℕ) → parts_extent P (kind_of x w) ≡ work_cells D x
  parts-are (work.Plain row shape writes copies) w = refl
  parts-are (work.Call f) w = refl
  parts-are (work.Select s gs) w = greatest-are (s ∷ gs)
  parts-are (work.TagCase gs) w = ap suc (greatest-are gs)
  parts-are (work.LoopA p) w = loop-are p.init p.test p.body p.returns
  parts-are (work.LoopB p) w = loop-are p.init p.test p.body p.returns
  parts-are (work.ForAll g b r m) w =
      let all = λ (p q z n k : ℕ). max p (n + (k + max (suc n + q) z)) in
      ap (λ p. all p (P.extent b) (P.extent (P.refolded r)) (length (P.results g)) (length (P.collects r))) (stands.extents g)
      ∙ (ap (λ q. all (extent_in D g) q (P.extent (P.refolded r)) (length (P.results g)) (length (P.collects r))) (stands.extents b)
      ∙ (ap (λ z. all (extent_in D g) (extent_in D b) z (length (P.results g)) (length (P.collects r))) (last-extent r)
      ∙ (ap (λ n. all (extent_in D g) (extent_in D b) (extent_in D (graph_refolded D r)) n (length (P.collects r))) (results-many g)
      ∙ ap (λ k. all (extent_in D g) (extent_in D b) (extent_in D (graph_refolded D r)) (length (graph_results D g)) k) (collects-many r))))

  -- ---- nodes

  module _ (unpicked : ArePicksForParts P) where
    cells-are : (g : ℕ) (ns : List PlanNode) (vs : List Vertex) → AreNodes D P S g ns vs → nodes_extent P g vs ≡ nodes_cells D ns
    cells-are g [] [] h = refl
    cells-are g [] (v ∷ vs) h = absurd h
    cells-are g (n ∷ ns) [] h = absurd h
    cells-are g (n ∷ ns) (v ∷ vs) h =
        let all = λ (w c k y : ℕ). max (w + (c + k)) (w + y) in
        ap (λ w. all w (length (picked (P.picks g v) v.ins)) (parts_extent P v.kind) (nodes_extent P g vs)) h.0.width
        ∙ (ap (λ c. all n.width c (parts_extent P v.kind) (nodes_extent P g vs)) (own-many g n.ins v n.work n.width h.0.kind h.0.fed h.0.handled (unpicked g v))
        ∙ (ap (λ k. all n.width (own_copies n.work n.ins) k (nodes_extent P g vs)) (ap (parts_extent P) h.0.kind ∙ parts-are n.work n.width)
        ∙ ap (λ y. all n.width (own_copies n.work n.ins) (work_cells D n.work) y) (cells-are g ns vs h.1)))

pub sized-by-tables : AreSizedByTables
sized-by-tables D P S formed stands unpicked exact g = (
  (tables-are D P S [] formed stands (λ f no. absurd no)).0 g,
  stands.extents g ∙ (exact g ∙ sym (cells-are D P S stands unpicked g (graph_nodes D g) (P.nodes g) (stands.nodes g))),
)
