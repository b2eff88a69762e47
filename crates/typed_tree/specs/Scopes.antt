-- The names in force at a place of a function (SISAL Language Reference Manual 1.2, scope): an inner name hides an outer one.
use Rattle.std.specs.Prelude.{◌≡◌, ℕ, suc, ◌-◌, List, [], ◌∷◌, ◌++◌, map, flat_map, Option, Some, None, Contains}
use Rattle.loop_folds.specs.Ty.{Ty}
use Rattle.name_scope.specs.Newest.{newest}
use Rattle.sisal_tree.specs.declared.expr.Def.{Def, out-Def}

-- what a name stands for: the value at a level, of a type; or nothing yet, where it is a loop name that the turn defines later
pub data Meaning : Type 0 where
  At : (level : ℕ) (t : Ty) → Meaning
  Later : Meaning

pub record Scope : Type 0 where
  -- the names, the newest first
  pub names : List (ℕ × Meaning)
  -- the loop names before which `old` may stand, those of the innermost loop first
  pub olds : List (ℕ × Meaning)
  -- how many levels are in use
  pub height : ℕ

abbrev pub no_names : Scope
no_names = record { names = []; olds = []; height = 0 }

-- a name comes into force at the next level
abbrev pub define : ℕ → Ty → Scope → Scope
define x t s = record { names = (x, At s.height t) ∷ s.names; olds = s.olds; height = suc s.height }

-- names of these types come into force, one after another
abbrev pub define_all : List ℕ → List Ty → Scope → Scope
define_all [] ts s = s
define_all (x ∷ xs) [] s = s
define_all (x ∷ xs) (t ∷ ts) s = define_all xs ts (define x t s)

-- the names that a list of definitions defines, in order
abbrev pub targets : List Def → List ℕ
targets ds = flat_map (λ d. map (λ t. t.name.name) (out-Def d).targets) ds

-- no number stands twice
abbrev pub AreDistinct : List ℕ → Type 0
AreDistinct [] = Unit {0}
AreDistinct (x ∷ xs) = (Contains xs x → ⊥) × AreDistinct xs

-- ---- turns of a loop

-- the names that come into force from these definitions on, with what they stand for, the newest first
abbrev pub loop_names : ℕ → List ℕ → List Ty → List (ℕ × Meaning)
loop_names level [] ts = []
loop_names level (x ∷ xs) [] = []
loop_names level (x ∷ xs) (t ∷ ts) = loop_names (suc level) xs ts ++ (x, At level t) ∷ []

-- a name that the turn defines stands for nothing until then, if it is a loop name
abbrev pub not_yet : List (ℕ × Meaning) → List ℕ → List (ℕ × Meaning)
not_yet loop xs = flat_map (λ x. hidden x (newest x loop)) xs
  where
    hidden : ℕ → Option Meaning → List (ℕ × Meaning)
    hidden x None = []
    hidden x (Some m) = (x, Later) ∷ []

-- what a turn sees before its definitions: the loop names are those of the turn before, also by `old`
abbrev pub in_turn : List (ℕ × Meaning) → List ℕ → Scope → Scope
in_turn loop defined s = record { names = not_yet loop defined ++ s.names; olds = loop ++ s.olds; height = s.height }

-- a name that the turn defines at a level, and that is a loop name, has this type there
abbrev pub KeepsType : Ty → Option Meaning → Type 0
KeepsType t (Some (At level before)) = t ≡ before
KeepsType t _ = Unit {0}

abbrev pub KeepTypes : List (ℕ × Meaning) → List ℕ → List Ty → Type 0
KeepTypes loop [] ts = Unit {0}
KeepTypes loop (x ∷ xs) [] = Unit {0}
KeepTypes loop (x ∷ xs) (t ∷ ts) = KeepsType t (newest x loop) × KeepTypes loop xs ts

-- for each name that the turn defines the place, among the loop names from the level of their first, of the one that it
-- renews, where it is one
abbrev pub renewals : List (ℕ × Meaning) → ℕ → List ℕ → List (Option ℕ)
renewals loop first xs = map (λ x. place (newest x loop)) xs
  where
    place : Option Meaning → Option ℕ
    place (Some (At level t)) = Some (level - first)
    place _ = None
