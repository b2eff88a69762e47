-- A grammar, and what it derives.
use Rattle.std.specs.Prelude.{◌≡◌, ℕ, ◌<◌, List, [], ◌∷◌, ◌++◌}
use Rattle.pushdown.specs.declared.Symbol.{Symbol}
use Rattle.pushdown.specs.declared.Symbol.TheVariants.{Want, Rule}
use Rattle.pushdown.specs.declared.Step.{Step}
use Rattle.pushdown.specs.declared.Step.TheVariants.{Read, Open}

-- Productions and rules go by number. A production says which rule it is of (its head), and which
-- symbols stand for that rule (its body).
pub record Grammar : Type 0 where
  pub productions : ℕ
  pub head : ℕ → ℕ
  pub body : ℕ → List Symbol

-- The symbols stand for tokens of these classes, by these steps in the order of the text, a
-- production before what stands for its symbols.
pub data Derives (g : Grammar) : List Symbol → List ℕ → List Step → Type 0 where
  end : Derives g [] [] []
  read : {c : ℕ} {s : List Symbol} {cs : List ℕ} {ps : List Step} → Derives g s cs ps
      → Derives g (Want c ∷ s) (c ∷ cs) (Read ∷ ps)
  expand : {n p : ℕ} {s : List Symbol} {cs : List ℕ} {ps : List Step} → p < g.productions → g.head p ≡ n
      → Derives g (g.body p ++ s) cs ps → Derives g (Rule n ∷ s) cs (Open p ∷ ps)
