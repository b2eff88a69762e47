-- What a turn of a loop sees before its definitions (SISAL Language Reference Manual 1.2, `old`): the loop names stand for the
-- values of the turn before, by `old` too, and those that the turn defines for nothing until then.
use Rattle.std.specs.Prelude.{◌≡◌, ℕ, ◌+◌, ◌<◌, List, [], ◌∷◌, ◌++◌, map, flat_map, Option, Some, None}
use Rattle.name_scope.specs.Newest.{newest}
use Rattle.sisal_tree.specs.declared.unit.Named.{Named}
use Rattle.value_names.specs.declared.value.Meaning.{Meaning}
use Rattle.value_names.specs.declared.value.Meaning.TheVariants.{Later}
use Rattle.value_names.specs.declared.value.Value.{Value}
use Rattle.value_names.specs.Names.{Names}
use Rattle.value_names.specs.Scopes.{place_from}

-- the names that come into force from a level on, with their values, the newest first
abbrev pub loop_names : ℕ → List Named → List ℕ → List (ℕ × Value)
loop_names level [] ts = []
loop_names level (x ∷ xs) [] = []
loop_names level (x ∷ xs) (t ∷ ts) = loop_names (level + 1) xs ts ++ (x.name, record { level = level; ty = t }) ∷ []

abbrev pub later : ℕ → Option Value → List (ℕ × Meaning)
later x None = []
later x (Some v) = (x, Later) ∷ []

-- those of the names that are loop names, which stand for nothing yet
abbrev pub later_names : List (ℕ × Value) → List Named → List (ℕ × Meaning)
later_names loop xs = flat_map (λ x. later x.name (newest x.name loop)) xs

abbrev pub in_turn : List (ℕ × Value) → List Named → Names → Names
in_turn loop defined s = record { names = later_names loop defined ++ s.names; olds = loop ++ s.olds; height = s.height }

-- for each name that a turn defines the place, among the loop names from the level of their first, of the one that it renews
abbrev pub renewals : ℕ → List (ℕ × Value) → List Named → List (Option ℕ)
renewals first loop xs = map (λ x. place_from first (newest x.name loop)) xs

-- the values have lower levels, as those of loops outside of the one whose first name has this level
abbrev pub AreBelow : ℕ → List (ℕ × Value) → Type 0
AreBelow first [] = Unit {0}
AreBelow first (o ∷ olds) = (o.1.level < first) × AreBelow first olds

-- the old names are those of the loop, and behind them those of loops outside of it
pub record IsInTurn (first : ℕ) (loop : List (ℕ × Value)) (s : Names) : Type 0 where
  pub names : List Named
  pub types : List ℕ
  pub outer : List (ℕ × Value)
  pub is_loop : loop ≡ loop_names first names types
  pub olds : s.olds ≡ loop ++ outer
  pub below : AreBelow first outer
