-- What the table of types tells, and the forms that choose: `if` and `tagcase` (SISAL Language Reference Manual 1.2, conditional
-- expressions; IF1 manual M-170, Select and TagCase).
use Rattle.std.specs.Prelude.{ℕ, zero, suc, ◌+◌, Bool, true, false, nat_eq, nat_lt, List, [], ◌∷◌, ◌++◌, map, length, slice_get, Option, Some, None, if◌then◌else◌}
use Rattle.flow_value.specs.declared.operation.Scalar1.TheVariants as unary
use Rattle.if1_graph.specs.declared.op.Simple.TheVariants as simple
use Rattle.if1_graph.specs.declared.op.Compound.TheVariants as compound
use Rattle.typed_tree.specs.Constant.{Constant}
use Rattle.typed_tree.specs.Constant.TheVariants as constant
use Rattle.typed_tree.specs.Form.{Form}
use Rattle.typed_tree.specs.Form.TheVariants as form
use Rattle.typed_tree.specs.Member.{Member}
use Rattle.typed_tree.specs.Tables.{members_at}
use Rattle.typed_tree.specs.declared.expr.Case.{Case}
use Rattle.typed_tree.specs.declared.expr.Choice.{Choice}
use Rattle.meaning.specs.Meaning.{arm_place}
use Rattle.typed_tree.specs.Operation.{Operation}
use Rattle.typed_tree.specs.Operation.TheVariants as operation
use Rattle.lowering.specs.declared.feed.Feed.TheVariants.{Literal, Port}
use Rattle.lowering.specs.declared.feed.Carried.{Carried}
use Rattle.lowering.specs.declared.feed.Carried.TheVariants.{One, Many, Callee}
use Rattle.lowering.specs.declared.feed.Wire.{Wire}
use Rattle.lowering.specs.Feeds.{wire, into}
use Rattle.lowering.specs.Graphs.{Lowering, only, andthen, whole, tag_case_on, new_graph, new_graphs, size}
use Rattle.lowering.specs.Operations.{Lowers, boolean, integer, all_lowered, wire_at, row_lowered, operation_lowered}

-- ---- types by number

abbrev pub element_in : Option Form → ℕ
element_in (Some (form.Array t)) = t
element_in (Some (form.Stream t)) = t
element_in _ = 0

abbrev pub is_array_form : Option Form → Bool
is_array_form (Some (form.Array t)) = true
is_array_form _ = false

abbrev pub type_in : Option Member → ℕ
type_in None = 0
type_in (Some m) = m.ty

-- the elements of an array or a stream
abbrev pub element_of : List Form → ℕ → ℕ
element_of forms t = element_in (slice_get forms t)

abbrev pub is_array : List Form → ℕ → Bool
is_array forms t = is_array_form (slice_get forms t)

-- how many tags a union has, and the content of one
abbrev pub tag_count : List Form → ℕ → ℕ
tag_count forms t = length (members_at forms t)

abbrev pub content_of : List Form → ℕ → ℕ → ℕ
content_of forms t tag = type_in (slice_get (members_at forms t) tag)

-- the type of a value or of the values of a multiple
abbrev pub type_of : Carried → ℕ
type_of (One t) = t
type_of (Many t) = t
type_of (Callee f) = 0

-- ---- `if`: alternative 0 is the `else` part, 1 the other

-- the test, as the number of the alternative
abbrev pub selector_lowered : List Lowers → Lowers
selector_lowered ts env = andthen (all_lowered ts env) (λ ws. row_lowered (simple.One unary.Int) ws (integer ∷ []))

abbrev pub if_lowered : List Lowers → List Lowers → List Lowers → List ℕ → Lowers
if_lowered test one_arm other ts env n q =
    let s = new_graph (selector_lowered test (map into env)) q in
    let a = new_graph (all_lowered other (map into env)) (q + size s) in
    let b = new_graph (all_lowered one_arm (map into env)) (q + size s + size a) in
    whole compound.Select (s ∷ a ∷ b ∷ []) (0 ∷ 1 ∷ 2 ∷ []) 0 ts n q

-- ---- `tagcase` and `is t(u)`

abbrev pub tag_case : Wire → List Lowering → List ℕ → List ℕ → Lowering
tag_case u fs arms ts n q = tag_case_on u (new_graphs q fs) arms ts n q

-- the arm of each of so many tags from one on
abbrev pub arms_from_tag : Case → ℕ → ℕ → List ℕ
arms_from_tag c tag zero = []
arms_from_tag c tag (suc count) = arm_place c.choices c.others tag ∷ arms_from_tag c (suc tag) count

-- the arm of each of the tags of the union, which has so many
abbrev pub arms_of : Case → ℕ → List ℕ
arms_of c tags = arms_from_tag c 0 tags

-- the first tag that these choices name for an arm
abbrev pub tag_named : ℕ → List Choice → ℕ
tag_named arm [] = 0
tag_named arm (x ∷ xs) = if nat_eq x.arm arm then x.tag else tag_named arm xs

-- the first tag of an arm
abbrev pub first_tag : Case → ℕ → ℕ
first_tag c arm = tag_named arm c.choices

module _ (forms : List Form) where
  -- the names in an arm: the content of the union is in force in the first so many
  abbrev pub arm_names : Case → ℕ → ℕ → List Wire → List Wire
  arm_names c type arm env =
      if nat_lt arm c.named then map into env ++ wire (Port 0 0 1) (One (content_of forms type (first_tag c arm))) ∷ [] else map into env

  abbrev pub arms_from : Case → ℕ → ℕ → List Lowers → List Wire → List Lowering
  arms_from c type arm [] env = []
  arms_from c type arm (g ∷ gs) env = g (arm_names c type arm env) ∷ arms_from c type (suc arm) gs env

  -- the arms in order, `otherwise` last, on a union
  abbrev pub case_lowered : Case → List (List Lowers) → List ℕ → List Wire → Lowers
  case_lowered c arms ts ws env =
      let type = type_of (wire_at ws 0).ty in
      tag_case (wire_at ws 0) (arms_from c type 0 (map all_lowered arms) env) (arms_of c (tag_count forms type)) ts

  -- the arm of each of so many tags from one on: the first for this tag, the second for all others
  abbrev pub two_arms : ℕ → ℕ → ℕ → List ℕ
  two_arms tag from zero = []
  two_arms tag from (suc count) = (if nat_eq from tag then 0 else 1) ∷ two_arms tag (suc from) count

  abbrev pub truth : Constant → Lowering
  truth c = only (wire (Literal c) (One boolean) ∷ [])

  abbrev pub is_tag_lowered : ℕ → List Wire → List ℕ → Lowering
  is_tag_lowered tag ws ts =
      tag_case (wire_at ws 0) (truth constant.True ∷ truth constant.False ∷ []) (two_arms tag 0 (tag_count forms (type_of (wire_at ws 0).ty))) ts

  abbrev pub applied : Operation → List Wire → List ℕ → Lowering
  applied (operation.IsTag tag) ws ts = is_tag_lowered tag ws ts
  applied op ws ts = operation_lowered op ws ts
