-- The definitions on small types and literals.
use Rattle.std.proofs.Common.{◌≡◌, ℕ, List, [], ◌∷◌, Some, None, refl, pos, negsuc}
use Rattle.std.specs.Prelude.{codes}
use Rattle.flow_value.specs.declared.ty.Ty.TheVariants as ty
use Rattle.flow_value.specs.declared.value.Val.TheVariants as val
use Rattle.if1_graph.specs.declared.graph.TypeEntry.{TypeEntry}
use Rattle.if1_graph.specs.declared.kind.Basic.TheVariants as basic
use Rattle.if1_graph.specs.Types.{Function, Many, sort_at, ty_at}
use Rattle.if1_graph.specs.Literals.{literal, literal_text}

abbrev entry : ℕ → ℕ → ℕ → ℕ → TypeEntry
entry label code first second = record { label = label; code = code; first = first; second = second; name = [] }

-- integer; a tuple of it; a function of that; an array of itself; a multiple; an array of that; a record with an integer and
-- a boolean; an array of a tuple
abbrev types : List TypeEntry
types =
    entry 1 1 3 0 ∷ entry 2 8 1 0 ∷ entry 3 3 2 2 ∷ entry 4 0 4 0 ∷ entry 5 4 1 0 ∷ entry 6 0 5 0
    ∷ entry 7 5 8 0 ∷ entry 8 2 1 9 ∷ entry 9 2 10 0 ∷ entry 10 1 0 0 ∷ entry 11 0 2 0 ∷ []

function : sort_at types 3 ≡ Some (Function (ty.Int ∷ []) (ty.Int ∷ []))
function = refl

array_of_itself : ty_at types 4 ≡ None
array_of_itself = refl

multiple : sort_at types 5 ≡ Some (Many ty.Int)
multiple = refl

array_of_multiples : sort_at types 6 ≡ None
array_of_multiples = refl

record_of_two : ty_at types 7 ≡ Some (ty.Rec (([], ty.Int) ∷ ([], ty.Bool) ∷ []))
record_of_two = refl

array_of_a_tuple : sort_at types 11 ≡ None
array_of_a_tuple = refl

zeros_before : literal basic.Integer (codes "-007") ≡ Some (val.Int (negsuc 6))
zeros_before = refl

too_large : literal basic.Integer (codes "9223372036854775808") ≡ None
too_large = refl

any_case : literal basic.Boolean (codes "tRUE") ≡ literal basic.Boolean (codes "T")
any_case = refl

line_feed : literal basic.Character (codes "'\\x0a'") ≡ literal basic.Character (codes "'\\n'")
line_feed = refl

no_real : literal basic.Real (codes "1") ≡ None
no_real = refl
