-- Literals in code are looked at.
use Rattle.std.proofs.Common.{ℕ, zero, suc, ◌+◌, true, false, List, [], ◌∷◌, ◌++◌, map, length}
use Rattle.run_code.specs.Cells as cells
use Rattle.run_store.specs.Effects.{reads_of}
use Rattle.run_store.specs.Stored.{Looks, Mode, tail}
use Rattle.step_code.specs.declared.code.Code.{Code}
use Rattle.step_code.specs.declared.code.Operand.{Operand}
use Rattle.step_code.specs.declared.code.Operand.TheVariants as operand
use Rattle.step_code.specs.declared.step.Step.{Step}
use Rattle.step_code.specs.declared.step.Step.TheVariants as step
use Rattle.step_code.specs.Laid.{collects_in, handling_in, step_in, taken_all}
use Rattle.step_code.specs.Reading.{gapped, listed, mode_in, modes_in, operand_in, operands_in}
use Rattle.unit_runs.specs.Alike.{AreLiteralsBare}

pub cells-bare : (ms : List Mode) (i n : ℕ) → AreLiteralsBare ms (cells.cells_at i n)
cells-bare ms i zero = tt
cells-bare ms i (suc n) = cells-bare (tail ms) (suc i) n

module _ (code : Code) where
  one-bare : (a : Operand) → AreLiteralsBare (mode_in code a ∷ []) (operand_in code a ∷ [])
  one-bare (operand.Literal n) = (tt, tt)
  one-bare (operand.Looks i) = tt
  one-bare (operand.Copies i) = tt
  one-bare (operand.Takes i) = tt
  one-bare (operand.LooksAt r) = tt
  one-bare (operand.CopiesOf r) = tt

  first-bare : (a : Operand) (ms : List Mode) (os : List cells.Operand) → AreLiteralsBare ms os → AreLiteralsBare (mode_in code a ∷ ms) (operand_in code a ∷ os)
  first-bare (operand.Literal n) ms os b = (tt, b)
  first-bare (operand.Looks i) ms os b = b
  first-bare (operand.Copies i) ms os b = b
  first-bare (operand.Takes i) ms os b = b
  first-bare (operand.LooksAt r) ms os b = b
  first-bare (operand.CopiesOf r) ms os b = b

  all-bare : (as₁ : List Operand) (ms : List Mode) → AreLiteralsBare (map (mode_in code) as₁ ++ ms) (map (operand_in code) as₁)
  all-bare [] ms = tt
  all-bare (a ∷ as₁) ms = first-bare a (map (mode_in code) as₁ ++ ms) (map (operand_in code) as₁) (all-bare as₁ ms)

  alone-bare : (as₁ : List Operand) → AreLiteralsBare (map (mode_in code) as₁) (map (operand_in code) as₁)
  alone-bare [] = tt
  alone-bare (a ∷ as₁) = first-bare a (map (mode_in code) as₁) (map (operand_in code) as₁) (alone-bare as₁)

  behind-bare : (as₁ : List Operand) (ms : List Mode) (i n : ℕ) → AreLiteralsBare (map (mode_in code) as₁ ++ ms) (map (operand_in code) as₁ ++ cells.cells_at i n)
  behind-bare [] ms i n = cells-bare ms i n
  behind-bare (a ∷ as₁) ms i n = first-bare a (map (mode_in code) as₁ ++ ms) (map (operand_in code) as₁ ++ cells.cells_at i n) (behind-bare as₁ ms i n)

  pub step-bare : (x : Step) → AreLiteralsBare (handling_in code x).modes (reads_of (step_in code x))
  step-bare (step.One o a out) = one-bare a
  step-bare (step.Two o a b out) = first-bare a (mode_in code b ∷ []) (operand_in code b ∷ []) (one-bare b)
  step-bare (step.Int i out) = one-bare (operand.Looks i)
  step-bare (step.Cells o i j out) = first-bare (operand.Looks i) (Looks ∷ []) (cells.At j ∷ []) (one-bare (operand.Looks j))
  step-bare (step.Number o i l n out) = first-bare (operand.Looks i) (Looks ∷ []) (operand_in code (operand.Literal l) ∷ []) (one-bare (operand.Literal l))
  step-bare (step.Element ins i p out kept k) = alone-bare (listed code ins 2)
  step-bare (step.Replace ins i p e out kept k) = alone-bare (listed code ins 3)
  step-bare (step.Carry true cs froms n out next) = all-bare (listed code froms n) []
  step-bare (step.Carry false cs froms n out next) = behind-bare (listed code froms n) (taken_all 0) (out + length (operands_in code froms n)) (length (collects_in code cs 0))
  step-bare (step.Fire row x shape ins n out w kept k) = alone-bare (listed code ins n)
  step-bare (step.Sparse row g ins n out copies) = alone-bare (gapped code g ins n)
  step-bare step.Count = tt
  step-bare (step.Bring a out next) = one-bare a
  step-bare (step.Move froms n out w next) = alone-bare (listed code froms n)
  step-bare (step.Tag a ts n content keeps out w next) = one-bare a
  step-bare (step.Branch a ts n out w next) = one-bare a
  step-bare (step.Test a turn leave out w next) = one-bare a
  step-bare (step.Keep true cs k froms n out next) = all-bare (listed code froms n) []
  step-bare (step.Keep false cs k froms n out next) = behind-bare (listed code froms n) (taken_all k) (out + length (operands_in code froms n)) (length (collects_in code cs k))
  step-bare (step.Spread froms n cs k to turns out w next) = alone-bare (listed code froms n)
  step-bare (step.Each ms n from count kept turn leave) = cells-bare (modes_in code ms n) from n
  step-bare (step.Add cs k froms n out next) = behind-bare (listed code froms n) (taken_all k) out (length (collects_in code cs k))
  step-bare (step.Push cs froms i out next) = behind-bare (listed code froms 1) (taken_all 1) out (length (collects_in code cs 1))
  step-bare (step.Call entry size room args n out w) = alone-bare (listed code args n)
  step-bare (step.Return froms n) = alone-bare (listed code froms n)
