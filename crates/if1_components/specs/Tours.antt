-- A walk along links, of which nothing is said but that its places are there.
use Rattle.std.specs.Prelude.{◌≡◌, ℕ, ◌<◌, length, All}
use Rattle.if1_components.specs.declared.tour.Tour.{Tour}

pub record IsTour (places : ℕ) (t : Tour) : Type 0 where
  pub met : length t.met ≡ places
  pub next : length t.next ≡ places
  pub path : All (λ x. x < places) t.path
  pub order : All (λ x. x < places) t.order
