-- Handlings that agree by what a step reads.
use Rattle.std.specs.Prelude.{◌≡◌, ℕ, false, List, [], ◌∷◌, get_or}
use Rattle.graph_meaning.specs.Carried.{Carried}
use Rattle.graph_meaning.specs.NodeValues.{op}
use Rattle.graph_meaning.specs.Storage.{leaves_of}
use Rattle.run_code.specs.Cells.{Operand, At, Lit}
use Rattle.run_code.specs.Machine.{Weigh}
use Rattle.run_code.specs.Steps.{Code, Fire, Step}
use Rattle.run_store.specs.Effects.{reads_of}
use Rattle.run_store.specs.Stored.{Copies, Handling, Looks, Mode, Stored, Takes, mode_at, step_stored, tail}
use Rattle.code_maker.specs.Grows.{read_as}

-- ---- literals

abbrev pub IsOfLiteral : Mode → Carried → Type 0
IsOfLiteral Looks k = Unit {0}
IsOfLiteral Takes k = Unit {0}
IsOfLiteral Copies k = leaves_of k ≡ 0
IsOfLiteral _ k = ⊥

-- no literal that has leaves is copied, and none is read through a path
abbrev pub AreLiteralsBare : List Mode → List Operand → Type 0
AreLiteralsBare ms [] = Unit {0}
AreLiteralsBare ms (At c ∷ os) = AreLiteralsBare (tail ms) os
AreLiteralsBare ms (Lit k ∷ os) = IsOfLiteral (mode_at ms) k × AreLiteralsBare (tail ms) os

-- what is read is as much as is told, and literals are themselves
abbrev pub AreRead : List Operand → List Carried → Type 0
AreRead [] [] = Unit {0}
AreRead (At c ∷ os) (k ∷ ks) = AreRead os ks
AreRead (Lit l ∷ os) (k ∷ ks) = (k ≡ l) × AreRead os ks
AreRead _ _ = ⊥

-- ---- a step

-- the same operands are looked at, copied and taken, the same cells kept, and the same collections copied to
pub record IsHandledAlike (x : Step) (H J : Handling) : Type 0 where
  pub modes : read_as H.modes (reads_of x) ≡ read_as J.modes (reads_of x)
  pub puts : (i : ℕ) → get_or H.puts i false ≡ get_or J.puts i false
  pub keeps : (c : ℕ) → H.keeps c ≡ J.keeps c
  pub bare : AreLiteralsBare H.modes (reads_of x)
  pub bare_too : AreLiteralsBare J.modes (reads_of x)

-- a simple node adds as much by the one as by the other, by what it may read and by what it gives then
abbrev pub AddsAlike : (weigh other : Weigh) → (pc : ℕ) → Step → Type 0
AddsAlike weigh other pc (Fire row shape ins out w) = (ks : List Carried) → AreRead ins ks → weigh pc ks (op row shape ks) ≡ other pc ks (op row shape ks)
AddsAlike weigh other pc _ = Unit {0}

-- The code has the same steps. Each is handled alike, and adds the same.
pub record AreAlike (weigh other : Weigh) (code same : Code) (handling as_well : (place : ℕ) → Handling) : Type 0 where
  pub steps : (pc : ℕ) → code pc ≡ same pc
  pub handled : (pc : ℕ) → IsHandledAlike (code pc) (handling pc) (as_well pc)
  pub adds : (pc : ℕ) → AddsAlike weigh other pc (code pc)

-- so each step of the machine whose cells own their values is the same
abbrev pub DoAlike : Type 0
DoAlike = (weigh other : Weigh) (limit : ℕ) (code same : Code) (handling as_well : (place : ℕ) → Handling) → AreAlike weigh other code same handling as_well
    → (s : Stored) → step_stored weigh limit code handling s ≡ step_stored other limit same as_well s
