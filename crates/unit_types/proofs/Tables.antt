-- Tables that grow by a form.
use Rattle.std.proofs.Common.{◌≡◌, ◌<◌, ◌≤◌, ℕ, suc, Bool, true, false, List, [], ◌∷◌, ◌++◌, All, map, length, Some, slice_get, refl, sym, ap, subst, ◌∙◌, arith, ◌⊎◌, inl, inr, not, ◌&&◌, nat_eq}
use Rattle.std.specs.List.{list_any}
use Rattle.std.proofs.lemmas.List.{append-nil, length-append}
use Rattle.std.proofs.lemmas.List.Elements.{All-push}
use Rattle.std.proofs.lemmas.Option.{slice_get_within}
use Rattle.std.proofs.lemmas.Bool.Decides.{leb_tells}
use Rattle.std.proofs.Math.Dec.{leb}
use Rattle.flow_value.specs.declared.ty.Ty.{Ty}
use Rattle.flow_value.specs.declared.ty.Ty.TheVariants as ty
use Rattle.type_table.specs.declared.form.Form.{Form}
use Rattle.type_table.specs.declared.form.Form.TheVariants as form
use Rattle.type_table.specs.declared.form.Member.{Member as NumberedMember}
use Rattle.type_table.specs.Tables.{IsTable, IsOver, AddsAtMost}
use Rattle.type_rules.specs.Records.{are_distinct}
use Rattle.typed_tree.specs.Scopes.{AreDistinct}
use Rattle.typed_tree.specs.Types.{Member, IsNumber, boolean, character, integer, null, array, stream, a_record, a_union, AreMembers, no_member, a_member}
use Rattle.unit_types.specs.Rests.{sequence_of, members_of, IsLater, AreSpelled, HasEachOnce, AreStanding, IsGrown, sequence_form, members_form}
use Rattle.unit_types.proofs.Names.{any_contains}
use Rattle.unit_types.proofs.Standing.{left, number_later}

pub stays : (old : List Form) → IsGrown old old
stays old = record { more = []; is = sym (append-nil old) }

-- a table with one form more, or as it was
pub grown_by : (old new : List Form) (f : Form) → AddsAtMost old f new → IsGrown old new
grown_by old new f (inl same) = record { more = []; is = same ∙ sym (append-nil old) }
grown_by old new f (inr added) = record { more = f ∷ []; is = added }

-- a type of the table that was there first
pub basic : (forms : List Form) (n : ℕ) (f : Form) → IsTable forms → ((rest : List Form) → slice_get (form.Boolean ∷ form.Character ∷ form.Integer ∷ form.Null ∷ form.Array 1 ∷ rest) n ≡ Some f) → slice_get forms n ≡ Some f
basic forms n f table h = ap (λ l. slice_get l n) table.basics ∙ h table.rest

pub basic_there : (forms : List Form) (n : ℕ) (f : Form) → IsTable forms → ((rest : List Form) → slice_get (form.Boolean ∷ form.Character ∷ form.Integer ∷ form.Null ∷ form.Array 1 ∷ rest) n ≡ Some f) → n < length forms
basic_there forms n f table h = slice_get_within forms n f (basic forms n f table h)

pub later_there : (new table : List Form) (n : ℕ) (f : Form) → IsLater new table → slice_get new n ≡ Some f → slice_get table n ≡ Some f
later_there new table n f l h = ap (λ l. slice_get l n) l.grown ∙ left new l.more n f h

-- ---- names that stand once

is_false : (b : Bool) → (b ≡ true → ⊥) → b ≡ false
is_false true h = absurd (h refl)
is_false false h = refl

pub distinct_tells : (xs : List ℕ) → AreDistinct xs → are_distinct xs ≡ true
distinct_tells [] h = refl
distinct_tells (x ∷ xs) h =
    ap (λ b. not b && are_distinct xs) (is_false (list_any (nat_eq x) xs) (λ e. h.0 (any_contains x xs e))) ∙ distinct_tells xs h.1

-- ---- what a form stands for

-- a form with names that are spelled stands for a type, where its parts do
abbrev pub IsFormSpelled : List (List ℕ) → Form → Type 0
IsFormSpelled sp (form.Record ms) = AreSpelled sp (map (λ m. m.name) ms)
IsFormSpelled sp (form.Union ms) = AreSpelled sp (map (λ m. m.name) ms)
IsFormSpelled sp _ = Unit {0}

module _ (sp : List (List ℕ)) (old : List Form) (f : Form) (stands : (n : ℕ) → n < length old → (t : Ty) × IsNumber old sp n t) where
  abbrev new_forms : List Form
  new_forms = old ++ f ∷ []

  standing_members : (ms : List NumberedMember) → AreSpelled sp (map (λ m. m.name) ms) → All (λ t. t < length old) (map (λ m. m.ty) ms) → (fs : List Member) × AreMembers new_forms sp ms fs
  standing_members [] s over = ([], no_member)
  standing_members (m ∷ ms) s over =
      let t : (t : Ty) × IsNumber old sp m.ty t = stands m.ty (over 0 0 (omega arith)) in
      let r : (fs : List Member) × AreMembers new_forms sp ms fs = standing_members ms s.1 (λ k d h. over (suc k) d (omega arith)) in
      ((s.0.spelling, t.0) ∷ r.0, a_member s.0.is (number_later old (f ∷ []) sp t.1) r.1)

  standing_form : (n : ℕ) → (g : Form) → g ≡ f → slice_get new_forms n ≡ Some g → IsFormSpelled sp g → IsOver (length old) g → (t : Ty) × IsNumber new_forms sp n t
  standing_form n form.Boolean e h s over = (ty.Bool, boolean h)
  standing_form n form.Character e h s over = (ty.Char, character h)
  standing_form n form.Integer e h s over = (ty.Int, integer h)
  standing_form n form.Null e h s over = (ty.Null, null h)
  standing_form n (form.Array m) e h s over = let t : (t : Ty) × IsNumber old sp m t = stands m (over 0 0 (omega arith)) in (ty.Arr t.0, array h (number_later old (f ∷ []) sp t.1))
  standing_form n (form.Stream m) e h s over = let t : (t : Ty) × IsNumber old sp m t = stands m (over 0 0 (omega arith)) in (ty.Stream t.0, stream h (number_later old (f ∷ []) sp t.1))
  standing_form n (form.Record ms) e h s over = let r = standing_members ms s over in (ty.Rec r.0, a_record h r.1)
  standing_form n (form.Union ms) e h s over = let r = standing_members ms s over in (ty.Uni r.0, a_union h r.1)

seam : (xs : List Form) (x : Form) → slice_get (xs ++ x ∷ []) (length xs) ≡ Some x
seam [] x = refl
seam (y ∷ xs) x = seam xs x

pub standing_more : (sp : List (List ℕ)) (old new : List Form) (f : Form) → IsFormSpelled sp f → HasEachOnce f → IsOver (length old) f → AddsAtMost old f new → AreStanding sp old → AreStanding sp new
standing_more sp old new f s once over (inl same) h = subst (AreStanding sp) (sym same) h
standing_more sp old new f s once over (inr added) h = subst (AreStanding sp) (sym added) (record {
  stands = λ n below. by n (leb_tells (suc n) (length old)) below;
  once = All-push HasEachOnce old f h.once once;
})
  where
    by : (n : ℕ) → ((leb (suc n) (length old) ≡ true) × (suc n ≤ length old)) ⊎ ((leb (suc n) (length old) ≡ false) × (length old < suc n))
        → n < length (old ++ f ∷ []) → (t : Ty) × IsNumber (old ++ f ∷ []) sp n t
    by n (inl less) below = let t : (t : Ty) × IsNumber old sp n t = h.stands n less.1 in (t.0, number_later old (f ∷ []) sp t.1)
    by n (inr other) below =
        let e : length old ≡ n = omega (arith, other.1, length-append old (f ∷ [])) in
        standing_form sp old f h.stands n f refl (ap (slice_get (old ++ f ∷ [])) (sym e) ∙ seam old f) s over

-- ---- forms of sequences and of members

pub sequence_number : (table : List Form) (sp : List (List ℕ)) (b : Bool) (n m : ℕ) (t : Ty) → slice_get table n ≡ Some (sequence_form b m) → IsNumber table sp m t → IsNumber table sp n (sequence_of b t)
sequence_number table sp true n m t h p = stream h p
sequence_number table sp false n m t h p = array h p

pub members_number : (table : List Form) (sp : List (List ℕ)) (b : Bool) (n : ℕ) (ms : List NumberedMember) (fs : List Member) → slice_get table n ≡ Some (members_form b ms) → AreMembers table sp ms fs → IsNumber table sp n (members_of b fs)
members_number table sp true n ms fs h p = a_union h p
members_number table sp false n ms fs h p = a_record h p

pub sequence_stands : (sp : List (List ℕ)) (b : Bool) (m : ℕ) (old new : List Form) → IsOver (length old) (sequence_form b m) → AddsAtMost old (sequence_form b m) new → AreStanding sp old → AreStanding sp new
sequence_stands sp true m old new over adds h = standing_more sp old new (form.Stream m) tt tt over adds h
sequence_stands sp false m old new over adds h = standing_more sp old new (form.Array m) tt tt over adds h

pub members_stand : (sp : List (List ℕ)) (b : Bool) (ms : List NumberedMember) (names : List ℕ) (old new : List Form) → map (λ m. m.name) ms ≡ names → AreSpelled sp names → AreDistinct names
    → IsOver (length old) (members_form b ms) → AddsAtMost old (members_form b ms) new → AreStanding sp old → AreStanding sp new
members_stand sp b ms names old new e s d over adds h =
    by b over adds (subst (AreSpelled sp) (sym e) s) (ap are_distinct e ∙ distinct_tells names d)
  where
    by : (b : Bool) → IsOver (length old) (members_form b ms) → AddsAtMost old (members_form b ms) new → AreSpelled sp (map (λ m. m.name) ms) → are_distinct (map (λ m. m.name) ms) ≡ true → AreStanding sp new
    by true over adds s once = standing_more sp old new (form.Union ms) s once over adds h
    by false over adds s once = standing_more sp old new (form.Record ms) s once over adds h
