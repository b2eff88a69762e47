-- What stands for a type is made of types of the table, and what has members has one.
use Rattle.std.proofs.Common.{◌≡◌, ◌≤◌, ◌<◌, ℕ, Bool, true, false, List, [], ◌∷◌, All, map, length, get_or, refl, sym, subst, arith}
use Rattle.std.proofs.lemmas.List.{length-append, length-map, get_or-map}
use Rattle.std.proofs.lemmas.Option.{slice_get_within}
use Rattle.flow_value.specs.declared.ty.Ty.{Ty}
use Rattle.type_table.specs.declared.form.Form.{Form}
use Rattle.type_table.specs.declared.form.Form.TheVariants as form
use Rattle.type_table.specs.declared.form.Member.{Member as NumberedMember}
use Rattle.type_table.specs.Tables.{HasMember, IsOver}
use Rattle.sisal_tree.specs.declared.unit.Named.{Named}
use Rattle.sisal_grammar.specs.declared.value.Placed.{Placed}
use Rattle.typed_tree.specs.Types.{Member, IsNumber, boolean, character, integer, null, array, stream, a_record, a_union, AreMembers, no_member, a_member}
use Rattle.typed_tree.specs.Written.{AreOf, HasMembers, HasType}
use Rattle.typed_tree.specs.Written as written
use Rattle.unit_types.specs.Rests.{sequence_form, members_form}
use Rattle.unit_types.proofs.Lists.{all_first}

module _ (forms : List Form) (names : List (List ℕ)) where
  pub number_there : (n : ℕ) (t : Ty) → IsNumber forms names n t → n < length forms
  number_there n _ (boolean e) = slice_get_within forms n form.Boolean e
  number_there n _ (character e) = slice_get_within forms n form.Character e
  number_there n _ (integer e) = slice_get_within forms n form.Integer e
  number_there n _ (null e) = slice_get_within forms n form.Null e
  number_there n _ (array {m = m} e p) = slice_get_within forms n (form.Array m) e
  number_there n _ (stream {m = m} e p) = slice_get_within forms n (form.Stream m) e
  number_there n _ (a_record {ms = ms} e p) = slice_get_within forms n (form.Record ms) e
  number_there n _ (a_union {ms = ms} e p) = slice_get_within forms n (form.Union ms) e

  no_types : (n : ℕ) → All (λ t. t < n) []
  no_types n k d within = absurd (omega arith)

  members_there : (ms : List NumberedMember) (fs : List Member) → AreMembers forms names ms fs → All (λ t. t < length forms) (map (λ m. m.ty) ms)
  members_there _ _ no_member = no_types (length forms)
  members_there _ _ (a_member {n = n} {t = t} {ms = ms} {fs = fs} s p r) = all_first (λ t. t < length forms) n (map (λ m. m.ty) ms) (number_there n t p) (members_there ms fs r)

  as_many : (ms : List NumberedMember) (fs : List Member) → AreMembers forms names ms fs → length ms ≡ length fs
  as_many _ _ no_member = refl
  as_many _ _ (a_member {ms = ms} {fs = fs} s p r) = let more = as_many ms fs r in omega (arith, more)

  -- the parts of a sequence and of members are in the table
  pub sequence_over : (b : Bool) (n : ℕ) (t : Ty) → IsNumber forms names n t → IsOver (length forms) (sequence_form b n)
  sequence_over true n t p = all_first (λ t. t < length forms) n [] (number_there n t p) (no_types (length forms))
  sequence_over false n t p = all_first (λ t. t < length forms) n [] (number_there n t p) (no_types (length forms))

  pub members_over : (b : Bool) (ms : List NumberedMember) (fs : List Member) → AreMembers forms names ms fs → IsOver (length forms) (members_form b ms)
  members_over true ms fs p = members_there ms fs p
  members_over false ms fs p = members_there ms fs p

  has_member : (b : Bool) (ms : List NumberedMember) → 1 ≤ length ms → HasMember (members_form b ms)
  has_member true ms h = h
  has_member false ms h = h

  module _ (types : List (ℕ × Ty)) where
    of_one : (a : Ty) (n : Named) (ns : List Named) (ms : List Member) → AreOf names types a (n ∷ ns) ms → 1 ≤ length ms
    of_one a n ns _ (written.a_name {ms = ms} e d) = omega arith

    type_one : (without : Bool) (ts : List Placed) (ns : List Named) (ms : List Member) → HasType names types without ts ns ms → 1 ≤ length ms
    type_one without _ _ ms (written.of_type {t = t} {ns = ns} {a = a} x d s e of) = of_one a _ ns ms of
    type_one _ _ _ ms (written.of_null {t = t} {ns = ns} x d of) = of_one _ _ ns ms of

    members_one : (without : Bool) (ts : List Placed) (ns : List Named) (ms : List Member) → HasMembers names types without ts ns ms → 1 ≤ length ms
    members_one without _ ns ms (written.last {ts = ts} h s) = type_one without ts ns ms h
    members_one without _ _ _ (written.more {ts = ts} {ns = ns} {ms = ms} {others = others} h s r) =
        let one : 1 ≤ length ms = type_one without ts ns ms h in omega (arith, one, length-append ms others)

    -- members that were read are one at least
    pub members_some : (b without : Bool) (ts : List Placed) (ns : List Named) (numbers : List NumberedMember) (fs : List Member)
        → AreMembers forms names numbers fs → HasMembers names types without ts ns fs → HasMember (members_form b numbers)
    members_some b without ts ns numbers fs p h =
        let one : 1 ≤ length fs = members_one without ts ns fs h in
        let many : length numbers ≡ length fs = as_many numbers fs p in
        has_member b numbers (omega (arith, one, many))

-- the type of a member is below a number, where all are
pub type_below : (ms : List NumberedMember) (n k : ℕ) (d : NumberedMember) → k < length ms → All (λ t. t < n) (map (λ m. m.ty) ms) → (get_or ms k d).ty < n
type_below ms n k d within all =
    let there : k < length (map (λ m. m.ty) ms) = subst (λ l. k < l) (sym (length-map ms (λ m. m.ty))) within in
    subst (λ t. t < n) (get_or-map (λ m. m.ty) ms k d d.ty within) (all k d.ty there)
