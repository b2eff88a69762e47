-- Bodies that keep to themselves: the steps of a ForAll's body stay among its places, read no cell in which the ForAll keeps its
-- multiples, its collections and its count, and write none.
use Rattle.std.specs.Prelude.{◌≡◌, ℕ, suc, ◌<◌, ◌≤◌, ◌⊎◌, List, [], ◌∷◌}
use Rattle.run_code.specs.Cells.{At, Lit, Operand}
use Rattle.run_code.specs.Coded.{Layout}
use Rattle.run_code.specs.Steps.{Add, Call, Return, Step}
use Rattle.run_code.specs.Collections.{Collect}
use Rattle.run_store.specs.Effects.{IsOneOf, leads, reads_of}
use Rattle.run_ranges.specs.Ranges.{Iterations, count_of}

-- a cell that is none of these, from one to another
abbrev pub IsApart : (first last : ℕ) → Operand → Type 0
IsApart first last (Lit c) = Unit {0}
IsApart first last (At i) = (i < first) ⊎ (last < i)

abbrev pub AreApart : (first last : ℕ) → List Operand → Type 0
AreApart first last [] = Unit {0}
AreApart first last (a ∷ args) = IsApart first last a × AreApart first last args

-- a call goes on behind it, and its block and what it gives lie behind these cells; none leaves its block
abbrev pub CallsApart : (last turned pc : ℕ) → Step → Type 0
CallsApart last turned pc (Call entry size args out w) = (suc pc ≤ turned) × (last < size) × (last < out)
CallsApart last turned pc (Return froms) = ⊥
CallsApart last turned pc _ = Unit {0}

-- a step leads to one of these places, and reads and writes no cell of these
pub record StepsApart (turn turned first last pc : ℕ) (x : Step) : Type 0 where
  pub reads : AreApart first last (reads_of x)
  pub leads_on : (next out w : ℕ) → IsOneOf next out w (leads x pc) → (turn ≤ next) × (next ≤ turned) × ((last < out) ⊎ (w ≡ 0))
  pub calls : CallsApart last turned pc x

-- so it is with each step of the body, whose results are others than these cells, and behind which the Each stands
pub record KeepsApart (X : Layout) (r : Iterations) : Type 0 where
  pub ahead : r.turn ≤ r.turned
  pub behind : r.turned < r.each
  pub body : (pc : ℕ) → r.turn ≤ pc → pc < r.turned → StepsApart r.turn r.turned r.first (count_of r) pc (X.code pc)
  pub results : (cs : List Collect) (froms : List Operand) (out next : ℕ) → X.code r.turned ≡ Add cs froms out next → AreApart r.first (count_of r) froms
