-- How names come into force and end (SISAL Language Reference Manual 1.2, scope).
use Rattle.std.specs.Prelude.{ℕ, ◌+◌, ◌-◌, List, [], ◌∷◌, drop, length, Option, Some, None, if◌then◌else◌, ltb}
use Rattle.name_scope.specs.Newest.{newest}
use Rattle.sisal_tree.specs.declared.unit.Named.{Named}
use Rattle.value_names.specs.declared.value.Meaning.{Meaning}
use Rattle.value_names.specs.declared.value.Meaning.TheVariants.{At, Later}
use Rattle.value_names.specs.declared.value.Value.{Value}
use Rattle.value_names.specs.declared.in_force.Mark.{Mark}
use Rattle.value_names.specs.Names.{Names}

abbrev pub no_names : Names
no_names = record { names = []; olds = []; height = 0 }

-- the value that a name stands for
abbrev pub seen : Option Meaning → Option Value
seen (Some (At v)) = Some v
seen _ = None

-- a name comes into force at the next level
abbrev pub define : ℕ → ℕ → Names → Names
define x t s = record { names = (x, At (record { level = s.height; ty = t })) ∷ s.names; olds = s.olds; height = s.height + 1 }

-- names of these types come into force, one after another
abbrev pub define_all : List Named → List ℕ → Names → Names
define_all [] ts s = s
define_all (x ∷ xs) [] s = s
define_all (x ∷ xs) (t ∷ ts) s = define_all xs ts (define x.name t s)

-- ---- ends

abbrev pub mark_of : Names → Mark
mark_of s = record { names = length s.names; olds = length s.olds; height = s.height }

-- as many names, old names and levels are left as there were at the mark
abbrev pub left : Mark → Names → Names
left m s = record { names = drop (length s.names - m.names) s.names; olds = drop (length s.olds - m.olds) s.olds; height = m.height }

-- ---- turns of a loop

-- a loop name comes under `old`
abbrev pub old_name : ℕ → ℕ → ℕ → Names → Names
old_name level x t s = record { names = s.names; olds = (x, record { level = level; ty = t }) ∷ s.olds; height = s.height }

-- loop names from a level on come under `old`
abbrev pub under_old : ℕ → List Named → List ℕ → Names → Names
under_old level [] ts s = s
under_old level (x ∷ xs) [] s = s
under_old level (x ∷ xs) (t ∷ ts) s = under_old (level + 1) xs ts (old_name level x.name t s)

-- what an old name stands for, if it is of the loop whose first name has this level
abbrev pub loop_value : ℕ → Option Value → Option Value
loop_value first None = None
loop_value first (Some v) = if ltb v.level first then None else Some v

abbrev pub hidden_if : Option Value → ℕ → Names → Names
hidden_if None x s = s
hidden_if (Some v) x s = record { names = (x, Later) ∷ s.names; olds = s.olds; height = s.height }

-- a name stands for nothing yet, if it is a loop name
abbrev pub hidden : ℕ → ℕ → Names → Names
hidden first x s = hidden_if (loop_value first (newest x s.olds)) x s

-- the names that a turn defines stand for nothing yet, where they are loop names
abbrev pub not_yet : ℕ → List Named → Names → Names
not_yet first [] s = s
not_yet first (x ∷ xs) s = hidden first x.name (not_yet first xs s)

abbrev pub place_from : ℕ → Option Value → Option ℕ
place_from first None = None
place_from first (Some v) = Some (v.level - first)

-- the place of a name among the loop names, if it is one
abbrev pub place_in_loop : ℕ → ℕ → Names → Option ℕ
place_in_loop first x s = place_from first (loop_value first (newest x s.olds))

-- ---- names that stand twice

abbrev pub twice_if : Option (Unit {0}) → ℕ → Option ℕ → Option ℕ
twice_if None line rest = rest
twice_if (Some u) line rest = Some line

-- the line of the first name that stands before it, in a list behind these names
abbrev pub twice_onto : List (ℕ × Unit {0}) → List Named → Option ℕ
twice_onto before [] = None
twice_onto before (n ∷ ns) = twice_if (newest n.name before) n.line (twice_onto ((n.name, tt) ∷ before) ns)

abbrev pub twice_in : List Named → Option ℕ
twice_in ns = twice_onto [] ns
