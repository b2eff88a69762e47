-- Derivations with their values, and what the tokens of each symbol say of its value.
use Rattle.std.specs.Prelude.{◌≡◌, ℕ, ◌<◌, List, [], ◌∷◌, ◌++◌, Some, map}
use Rattle.pushdown.specs.declared.Symbol.{Symbol}
use Rattle.pushdown.specs.declared.Symbol.TheVariants.{Want, Rule}
use Rattle.pushdown.specs.declared.Step.{Step}
use Rattle.pushdown.specs.Grammar.{Grammar, Derives}
use Rattle.pushdown.specs.Meaning.{Meaning, Scheme, perform, run}

-- The symbols derive the tokens, with these values.
pub record Built (g : Grammar) (m : Meaning) (h : Scheme m) (s : List Symbol) (ts : List m.Token) (xs : List m.Value) : Type 0 where
  pub steps : List Step
  pub derived : Derives g s (map m.class ts) steps
  pub means : run m h steps ts ≡ Some xs

-- The tokens are those of the symbols in turn, and the values theirs, where `says` tells which
-- values a rule's tokens have.
abbrev pub Said : (m : Meaning) → (ℕ → List m.Token → m.Value → Type 0) → List Symbol → List m.Token → List m.Value → Type 0
Said m says [] ts xs = (ts ≡ []) × (xs ≡ [])
Said m says (Want c ∷ s) ts xs = (t : m.Token) × (us : List m.Token) × (ys : List m.Value)
    × (ts ≡ t ∷ us) × (xs ≡ m.into m.token (m.of_token t) ∷ ys) × (m.class t ≡ c) × Said m says s us ys
Said m says (Rule n ∷ s) ts xs = (ws : List m.Token) × (us : List m.Token) × (x : m.Value) × (ys : List m.Value)
    × (ts ≡ ws ++ us) × (xs ≡ x ∷ ys) × says n ws x × Said m says s us ys

-- Each production keeps what `says` says: the value of its action, for its rule.
abbrev pub Keeps : (g : Grammar) (m : Meaning) (h : Scheme m) → (ℕ → List m.Token → m.Value → Type 0) → Type 0
Keeps g m h says = (p : ℕ) → p < g.productions → (ts : List m.Token) (xs rest ys : List m.Value)
    → Said m says (g.body p) ts xs → perform m (h.action p) (xs ++ rest) ≡ Some ys
    → (y : m.Value) × (ys ≡ y ∷ rest) × says (g.head p) ts y
