-- A walk has places that are there.
use Rattle.std.proofs.Common.{◌≡◌, ◌∙◌, ℕ, ◌<◌, List, [], ◌∷◌, ◌++◌, Option, Some, None, MatchOption, IfSome, All, sym, ap}
use Rattle.std.proofs.lemmas.List.Elements.{All-pop}

pub popped-in : (n : ℕ) (old new : List ℕ) (r : Option ℕ) → All (λ x. x < n) old → MatchOption r ((old ≡ []) × (new ≡ [])) (λ last. old ≡ new ++ last ∷ []) → All (λ x. x < n) new × IfSome r (λ x. x < n)
popped-in n old new None h e = All-pop (λ x. x < n) old new None (e.0 ∙ sym (ap (λ ys. ys ++ []) e.1)) h
popped-in n old new (Some x) h e = All-pop (λ x. x < n) old new (Some x) e h
