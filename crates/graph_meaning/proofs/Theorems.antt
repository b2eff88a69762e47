-- The theorem on the machine.
use Rattle.std.proofs.Common.{◌≡◌, ℕ, suc, ◌+◌, List, [], ◌∷◌, Option, Some, None, refl, sym, ap, ◌∙◌, arith}
use Rattle.graph_meaning.specs.Entered.{Entered, NoNode, SimpleNode, WholeNode, Steps, Left, Unshown, GraphStep, SliceStep, Item, Node, Entry, Slice, Leave, Inside, IsWhole, AreWhole, all_given, total, total_steps, total_slices, firings, all_firings, cost, steps_cost, slices_cost, plus, entry_fires}
use Rattle.graph_meaning.specs.Demand.{tree}
use Rattle.graph_meaning.specs.Laws.{run_of, AreValuesStable, AreCostsStable, DoTreesGrow, IsCostTheSum, IsCostOfAnyCut, IsMeantWhereCosted, AreRunsConfluent, AreRunsNeverStuck}
use Rattle.graph_meaning.proofs.Ranks.{ranked}
use Rattle.graph_meaning.proofs.ItemSums.{Number}
use Rattle.graph_meaning.proofs.Depths.{dem-below, cost-below, cost-whole, tree-grows}
use Rattle.graph_meaning.proofs.Executions.{execution, whole-dem}
use Rattle.graph_meaning.proofs.Slicing.{same-cost}
use Rattle.graph_meaning.proofs.Confluent.{confluent, never_stuck}

-- a sum of firings, under whatever names the items have
slices-sum : (l k r : ℕ) (cs : List (Option ℕ)) (φ : Number) → ((i : Item) (w : Option ℕ) → φ i w ≡ firings i w) → all_given cs → slices_cost cs ≡ Some (total_slices φ l k r cs)
slices-sum l k r [] φ h g = refl
slices-sum l k r (None ∷ cs) φ h g = absurd g
slices-sum l k r (Some n ∷ cs) φ h g = ap (plus (Some n)) (slices-sum l k (suc r) cs φ h g) ∙ ap (λ x. Some (x + total_slices φ l k (suc r) cs)) (sym (h (Slice l k r) (Some n)))

mutual
  cost-sum : (f : Entered) (φ : Number) → ((i : Item) (w : Option ℕ) → φ i w ≡ firings i w) → IsWhole f → cost f ≡ Some (total f φ)
  cost-sum NoNode φ h w = refl
  cost-sum (SimpleNode l ws rest) φ h w = ap (plus (Some 1)) (cost-sum rest φ h w) ∙ ap (λ x. Some (x + total rest φ)) (sym (h (Node l) (Some 1)))
  cost-sum (WholeNode l ws first next rest) φ h w =
      let a = cost-sum first (λ i. φ (Inside l 0 i)) (λ i v. h (Inside l 0 i) v) w.0 in
      let b = parts-sum next l 1 φ h w.1 in
      let c = cost-sum rest φ h w.2 in
      ap (λ x. plus (Some 1) (plus x (plus (steps_cost next) (cost rest)))) a
      ∙ (ap (λ x. plus (Some 1) (plus (Some (total first (λ i. φ (Inside l 0 i)))) (plus x (cost rest)))) b
      ∙ (ap (λ x. plus (Some 1) (plus (Some (total first (λ i. φ (Inside l 0 i)))) (plus (Some (total_steps next l 1 φ)) x))) c
      ∙ ap (λ x. Some (x + (total first (λ i. φ (Inside l 0 i)) + (total_steps next l 1 φ + total rest φ)))) (sym (h (Node l) (Some 1)))))

  parts-sum : (p : Steps) (l k : ℕ) (φ : Number) → ((i : Item) (w : Option ℕ) → φ i w ≡ firings i w) → AreWhole p → steps_cost p ≡ Some (total_steps p l k φ)
  parts-sum Left l k φ h w = ap Some (sym (h (Leave l) (Some 0)))
  parts-sum Unshown l k φ h w = absurd w
  parts-sum (GraphStep t inside next) l k φ h w =
      let a = cost-sum inside (λ i. φ (Inside l k i)) (λ i v. h (Inside l k i) v) w.0 in
      let b = parts-sum next l (suc k) φ h w.1 in
      ap (λ x. plus (Some (entry_fires t)) (plus x (steps_cost next))) a
      ∙ (ap (λ x. plus (Some (entry_fires t)) (plus (Some (total inside (λ i. φ (Inside l k i)))) x)) b
      ∙ ap (λ x. Some (x + (total inside (λ i. φ (Inside l k i)) + total_steps next l (suc k) φ))) (sym (h (Entry t l k) (Some (entry_fires t)))))
  parts-sum (SliceStep cs next) l k φ h w =
      ap (λ x. plus x (steps_cost next)) (slices-sum l k 0 cs φ h w.0) ∙ ap (plus (Some (total_slices φ l k 0 cs))) (parts-sum next l (suc k) φ h w.1)

some-same : (a b : ℕ) → Some a ≡ Some b → a ≡ b
some-same a b e = grind (arith, e)

pub values-stable : AreValuesStable
values-stable u g ins rs n m le e = dem-below n m le u g ins rs e

pub costs-stable : AreCostsStable
costs-stable cut u g ins c n m le e = cost-below (tree cut n u g ins) (tree cut m u g ins) (tree-grows cut n m le u g ins) c e

pub trees-grow : DoTreesGrow
trees-grow cut u g ins n m le = tree-grows cut n m le u g ins

pub cost-the-sum : IsCostTheSum
cost-the-sum cut u g ins c = (
  λ k. (k.0, cost-sum (tree cut k.0 u g ins) firings (λ i w. refl) k.1 ∙ ap Some k.2),
  λ k. let w = cost-whole (tree cut k.0 u g ins) c k.1 in
      (k.0, w, some-same (all_firings (tree cut k.0 u g ins)) c (sym (cost-sum (tree cut k.0 u g ins) firings (λ i w. refl) w) ∙ k.1)),
)

pub cost-of-any-cut : IsCostOfAnyCut
cost-of-any-cut cut other u g ins n is_cut is_other = same-cost cut other is_cut is_other n u g ins

pub meant-where-costed : IsMeantWhereCosted
meant-where-costed cut u g ins c n is_cut ready e = whole-dem cut is_cut u (ranked u ready) n g ins (cost-whole (tree cut n u g ins) c e)

pub runs-confluent : AreRunsConfluent
runs-confluent cut u g ins limit is_cut ready = confluent (run_of cut u g ins) limit (execution cut is_cut u (ranked u ready) g ins)

pub runs-never-stuck : AreRunsNeverStuck
runs-never-stuck cut u g ins limit is_cut ready = never_stuck (run_of cut u g ins) limit (execution cut is_cut u (ranked u ready) g ins)
