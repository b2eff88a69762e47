-- Totals of two parts, part by part.
use Rattle.std.proofs.Common.{◌≡◌, ℕ, ◌+◌, ap}
use Rattle.ordered_meaning.specs.Storage.{Weights}
use Rattle.ordered_meaning.specs.Laws.{counting}
use Rattle.ordered_meaning.specs.Ordered.{Total, and_results, nothing, with_both}

module _ (W : Weights) where
  pub nothing-fires : (c : Total (counting W)) → c ≡ nothing (counting W) → c.fires ≡ 0
  nothing-fires c e = ap (λ (x : Total (counting W)). x.fires) e

  pub nothing-sum : (c : Total (counting W)) → c ≡ nothing (counting W) → c.sum ≡ 0
  nothing-sum c e = ap (λ (x : Total (counting W)). x.sum) e

  pub both-fire : (c a b : Total (counting W)) (f s : ℕ) → c ≡ with_both (counting W) f s a b → c.fires ≡ f + (a.fires + b.fires)
  both-fire c a b f s e = ap (λ (x : Total (counting W)). x.fires) e

  pub both-sum : (c a b : Total (counting W)) (f s : ℕ) → c ≡ with_both (counting W) f s a b → c.sum ≡ s + (a.sum + b.sum)
  both-sum c a b f s e = ap (λ (x : Total (counting W)). x.sum) e

  pub results-fire : (c a : Total (counting W)) (s : ℕ) → c ≡ and_results (counting W) a s → c.fires ≡ a.fires
  results-fire c a s e = ap (λ (x : Total (counting W)). x.fires) e

  pub results-sum : (c a : Total (counting W)) (s : ℕ) → c ≡ and_results (counting W) a s → c.sum ≡ a.sum + s
  results-sum c a s e = ap (λ (x : Total (counting W)). x.sum) e
