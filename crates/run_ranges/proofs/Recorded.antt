-- Rows on which a graph has results and a cost of record go in an order.
use Rattle.std.proofs.Common.{◌≡◌, ℕ, ◌+◌, List, [], ◌∷◌, refl, sym, ap, ◌∙◌, subst, arith}
use Rattle.graph_meaning.specs.Carried.{Carried}
use Rattle.graph_meaning.specs.Demand.{Network, Vertex}
use Rattle.graph_meaning.specs.Plain.{CarryAll, MeanAll, RowsFire, a_row, no_row, of_no_row, of_row}
use Rattle.graph_meaning.proofs.PlainValues.{one-meaning}
use Rattle.ordered_meaning.specs.Ordered.{RowsYield, Total, Yields, nothing, with_both}
use Rattle.ordered_meaning.specs.Laws.{counting}
use Rattle.graph_meaning.specs.Storage.{Weights}
use Rattle.ordered_meaning.proofs.Complete.{yields-where-costed}
use Rattle.ordered_meaning.proofs.Growing.{graph-on, rows-on, yields-on}
use Rattle.ordered_meaning.proofs.Recorded.{recorded}
use Rattle.ordered_meaning.proofs.Same.{itself}
use Rattle.ordered_meaning.proofs.Shuffled.{IsListed, all-listed}
use Rattle.run_ranges.proofs.Going.{ranges-go}
use Rattle.run_ranges.specs.Ranges.{DoRangesOfRecordGo, Goes, rows_from}

module _ (W : Weights) (u : Network) (order : ℕ → List Vertex) (ok : (g : ℕ) → IsListed (u g) (order g)) where
  -- what the results of several rows consist of
  abbrev MeanIn : ℕ → ℕ → List (List Carried) → List (List Carried) → Type 0
  MeanIn d g [] lists = lists ≡ []
  MeanIn d g (row ∷ rows) lists = (rs : List Carried) × (more : List (List Carried)) × CarryAll u d g row (u g).results rs × MeanAll u d g rows more × (lists ≡ rs ∷ more)

  mean-in : (d g : ℕ) (rows lists : List (List Carried)) → MeanAll u d g rows lists → MeanIn d g rows lists
  mean-in _ _ _ _ (no_row d g) = refl
  mean-in _ _ _ _ (a_row d g ins rs rows lists a b) = (rs, lists, a, b, refl)

  pub rows-to : (e g : ℕ) (rows : List (List Carried)) (cost : ℕ) → RowsFire u e g rows cost → (d : ℕ) (lists : List (List Carried)) → MeanAll u d g rows lists
      → (n : ℕ) × (t : Total (counting W)) × RowsYield (counting W) u order (Yields (counting W) u order n) g rows lists t × (t.fires ≡ cost)
  rows-to _ _ _ _ (of_no_row e g) d lists b = (0, nothing (counting W), (mean-in d g [] lists b, refl), refl)
  rows-to _ _ _ _ (of_row e g ins rows c c' a more) d lists b =
      let z = mean-in d g (ins ∷ rows) lists b in
      let x = yields-where-costed (counting W) u order ok e g ins c a in
      let r = recorded (counting W) u order ok x.0 g ins x.1 x.2 x.3 W (itself W) in
      let same = one-meaning u g ins x.1 z.0 r.0 d r.1 z.2 in
      let y = rows-to e g rows c' more d z.1 z.3 in
      let k = x.0 + y.0 in
      let p = x.4 in
      let q = y.3 in (
        k,
        with_both (counting W) 1 0 x.2 y.1,
        (
          x.1,
          z.1,
          x.2,
          y.1,
          graph-on (counting W) u order (Yields (counting W) u order x.0) (Yields (counting W) u order k) (yields-on (counting W) u order x.0 k (omega arith)) g ins x.1 x.2 x.3,
          rows-on (counting W) u order (Yields (counting W) u order y.0) (Yields (counting W) u order k) (yields-on (counting W) u order y.0 k (omega arith)) g rows z.1 y.1 y.2,
          z.4 ∙ ap (λ rs. rs ∷ z.1) (sym same),
          refl,
        ),
        omega (arith, p, q),
      )

pub ranges-of-record-go : DoRangesOfRecordGo
ranges-of-record-go X limit coded orderly inorder f base now calls fires ks ms cols i k before long full results cost rows le =
    let y = rows-to X.weights X.network X.order (all-listed X.network X.order orderly inorder) rows.1 f.body (rows_from i k ks ms) cost rows.3 rows.0 results rows.2 in
    let same = y.3 in
    subst (λ c. Goes X limit f base now calls fires c ks ms cols i k results) same
    (ranges-go X limit coded f base now calls fires ks ms cols i k before long full y.0 results y.1 y.2 (omega (arith, same, le)))
