-- What wires carry, by the types of a program and its headers (IF1 manual M-170, types without names).
use Rattle.std.specs.Prelude.{◌≡◌, ℕ, List, [], map, slice_get, Some}
use Rattle.flow_value.specs.declared.ty.Ty.{Ty}
use Rattle.flow_value.specs.declared.ty.Ty.TheVariants as ty
use Rattle.if1_graph.specs.Types.{Sort, Plain, Many, Function}
use Rattle.type_table.specs.declared.form.Form.{Form}
use Rattle.typed_tree.specs.Types.{Member, IsNumber}
use Rattle.lowering_meaning.specs.FittingTreesFitting.{Header}
use Rattle.lowering.specs.declared.feed.Carried.{Carried}
use Rattle.lowering.specs.declared.feed.Carried.TheVariants.{One, Many as Multiple, Callee}

-- a field or tag without its name
abbrev pub unnamed : (Ty → Ty) → Member → Member
unnamed bare m = ([], bare m.1)

-- A wire carries the type of its number, or of the header of its function, without the names of fields and tags, which the first
-- function leaves out.
pub record IsSorting (forms : List Form) (names : List (List ℕ)) (hs : List Header) (bare : Ty → Ty) (sort : Carried → Sort) : Type 0 where
  pub bool : bare ty.Bool ≡ ty.Bool
  pub char : bare ty.Char ≡ ty.Char
  pub int : bare ty.Int ≡ ty.Int
  pub null : bare ty.Null ≡ ty.Null
  pub array : (t : Ty) → bare (ty.Arr t) ≡ ty.Arr (bare t)
  pub stream : (t : Ty) → bare (ty.Stream t) ≡ ty.Stream (bare t)
  pub record_of : (ms : List Member) → bare (ty.Rec ms) ≡ ty.Rec (map (unnamed bare) ms)
  pub union_of : (ms : List Member) → bare (ty.Uni ms) ≡ ty.Uni (map (unnamed bare) ms)
  pub values : (n : ℕ) (t : Ty) → IsNumber forms names n t → sort (One n) ≡ Plain (bare t)
  pub multiples : (n : ℕ) (t : Ty) → IsNumber forms names n t → sort (Multiple n) ≡ Many (bare t)
  pub callees : (f : ℕ) (h : Header) → slice_get hs f ≡ Some h → sort (Callee f) ≡ Function (map bare h.params) (map bare h.results)
