-- Two typed trees of one unit: in a table with the types of both they are one tree.
use Rattle.std.proofs.Common.{◌≡◌, ◌∙◌, ℕ, List, [], ◌∷◌, map, Some, option_map, slice_get, sym, ap, subst}
use Rattle.flow_value.specs.declared.ty.Ty.{Ty}
use Rattle.type_table.specs.declared.form.Form.{Form}
use Rattle.type_table.specs.declared.form.Form.TheVariants as form
use Rattle.type_table.specs.declared.form.Member.{Member as NumberedMember}
use Rattle.typed_tree.specs.Types.{Member, IsNumber, AreMembers, boolean, character, integer, null, array, stream, a_record, a_union, no_member, a_member}
use Rattle.typed_tree.specs.declared.program.Program.{Program}
use Rattle.type_rules.proofs.Standing.{at_bool, at_char, at_int, at_null, at_array, at_stream, at_record, at_union, listed}
use Rattle.typing_unique.specs.Bare.{renumbered_program, OneRenumberedLaw}
use Rattle.typing_unique.specs.UnitLaws.{AreSpelledOnce}
use Rattle.one_lowering.specs.Moves.{moved_member, moved_form, Moves}
use Rattle.one_lowering.specs.Laws.{AreLoweredAlike, AreNumbersNothing, IsOneLowering}
use Rattle.one_lowering.proofs.Merged.{Once, AreBoth, both_in}

-- ---- a number stands for the type that it moved from

module _ (to : ℕ → ℕ) (forms others : List Form) (moves : Moves to forms others) (names : List (List ℕ)) where
  moved-at : (n : ℕ) (f : Form) → slice_get forms n ≡ Some f → slice_get others (to n) ≡ Some (moved_form to f)
  moved-at n f e = moves.form n ∙ ap (option_map (moved_form to)) e

  mutual
    number-moved : (n : ℕ) (t : Ty) → IsNumber forms names n t → IsNumber others names (to n) t
    number-moved n _ (boolean e) = boolean (moved-at n form.Boolean e)
    number-moved n _ (character e) = character (moved-at n form.Character e)
    number-moved n _ (integer e) = integer (moved-at n form.Integer e)
    number-moved n _ (null e) = null (moved-at n form.Null e)
    number-moved n _ (array {m = m} {t = t} e p) = array (moved-at n (form.Array m) e) (number-moved m t p)
    number-moved n _ (stream {m = m} {t = t} e p) = stream (moved-at n (form.Stream m) e) (number-moved m t p)
    number-moved n _ (a_record {ms = ms} {fs = fs} e p) = a_record (moved-at n (form.Record ms) e) (members-moved ms fs p)
    number-moved n _ (a_union {ms = ms} {fs = fs} e p) = a_union (moved-at n (form.Union ms) e) (members-moved ms fs p)

    members-moved : (ms : List NumberedMember) (fs : List Member) → AreMembers forms names ms fs → AreMembers others names (map (moved_member to) ms) fs
    members-moved _ _ no_member = no_member
    members-moved _ _ (a_member {n = n} {t = t} {ms = ms} {fs = fs} s p r) = a_member s (number-moved n t p) (members-moved ms fs r)

-- ---- in a table without a form twice each type has one number

module _ (forms : List Form) (names : List (List ℕ)) (once : Once forms) (spelled : AreSpelledOnce names) where
  mutual
    one-number : (n m : ℕ) (t : Ty) → IsNumber forms names n t → IsNumber forms names m t → n ≡ m
    one-number n m _ (boolean e) q = once n m form.Boolean e (at_bool forms names m q)
    one-number n m _ (character e) q = once n m form.Character e (at_char forms names m q)
    one-number n m _ (integer e) q = once n m form.Integer e (at_int forms names m q)
    one-number n m _ (null e) q = once n m form.Null e (at_null forms names m q)
    one-number n m _ (array {m = j} {t = t} e p) q =
        let s = at_array forms names m t q in
        once n m (form.Array j) e (s.1 ∙ ap (λ k. Some (form.Array k)) (sym (one-number j s.0 t p s.2)))
    one-number n m _ (stream {m = j} {t = t} e p) q =
        let s = at_stream forms names m t q in
        once n m (form.Stream j) e (s.1 ∙ ap (λ k. Some (form.Stream k)) (sym (one-number j s.0 t p s.2)))
    one-number n m _ (a_record {ms = ms} {fs = fs} e p) q =
        let s = at_record forms names m fs q in
        once n m (form.Record ms) e (s.1 ∙ ap (λ l. Some (form.Record l)) (sym (one-list ms s.0 fs p s.2)))
    one-number n m _ (a_union {ms = ms} {fs = fs} e p) q =
        let s = at_union forms names m fs q in
        once n m (form.Union ms) e (s.1 ∙ ap (λ l. Some (form.Union l)) (sym (one-list ms s.0 fs p s.2)))

    one-list : (ms os : List NumberedMember) (fs : List Member) → AreMembers forms names ms fs → AreMembers forms names os fs → ms ≡ os
    one-list _ os _ no_member q = sym (listed forms names os [] q)
    one-list _ os _ (a_member {x = x} {n = n} {name = name} {t = t} {ms = ms} {fs = fs} s p r) q =
        let f = listed forms names os ((name, t) ∷ fs) q in
        ap (λ y. record { name = y; ty = n } ∷ ms) (spelled x f.name name s f.spelled)
        ∙ ap (λ k. record { name = f.name; ty = k } ∷ ms) (one-number n f.number t p f.typed)
        ∙ ap (λ l. record { name = f.name; ty = f.number } ∷ l) (one-list ms f.rest fs r f.others)
        ∙ sym f.is

-- ---- units

alike-then : (p r q : Program) → AreLoweredAlike p r → AreLoweredAlike r q → AreLoweredAlike p q
alike-then p r q a b = record { limits = a.limits ∙ b.limits; units = λ u t. b.units u (a.units u t) }

pub one_lowering : OneRenumberedLaw → AreNumbersNothing → IsOneLowering
one_lowering renumbered nothing u p q once s t a b =
    let both : AreBoth p.types q.types = both_in p.types q.types a b in
    let names = u.tokens.names in
    let same : renumbered_program both.first both.all p ≡ renumbered_program both.second both.all q =
    renumbered u p q both.first both.second both.all once s t
    (λ n m c x y. one-number both.all names both.once once (both.first n) (both.second m) c
    (number-moved both.first p.types both.all both.moves names n c x) (number-moved both.second q.types both.all both.other names m c y)) in
    let one = (nothing p both.first both.all both.moves).0 in
    let two = (nothing q both.second both.all both.other).1 in
    alike-then p (renumbered_program both.first both.all p) q one (subst (λ r. AreLoweredAlike r q) (sym same) two)
