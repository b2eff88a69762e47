-- In a union that stands in the table no tag stands twice, so what `tagcase` keeps of its tags fits.
use Rattle.std.proofs.Common.{◌≡◌, ℕ, zero, suc, ◌+◌, ◌≤◌, List, [], ◌∷◌, ◌++◌, map, Contains, All, Option, Some, None, slice_get, length, refl, sym, ap, subst, ◌∙◌, arith, rules}
use Rattle.std.proofs.lemmas.Option.{same_Some, none-some}
use Rattle.std.proofs.lemmas.List.{length-append}
use Rattle.flow_value.specs.declared.ty.Ty.{Ty}
use Rattle.flow_value.specs.declared.ty.Ty.TheOpen.{Ty-F}
use Rattle.flow_value.specs.declared.ty.Ty.TheVariants as ty
use Rattle.flow_value.specs.declared.ty.Ty.TheViews as types
use Rattle.flow_value.specs.declared.ty.Ty.TheViews.{out-Ty}
use Rattle.type_table.specs.declared.form.Form.{Form}
use Rattle.type_table.specs.declared.form.Form.TheVariants as form
use Rattle.type_table.specs.declared.form.Member.{Member as NumberedMember}
use Rattle.typed_tree.specs.Scopes.{AreDistinct}
use Rattle.typed_tree.specs.Types.{Member, IsNumber, AreMembers}
use Rattle.typed_tree.specs.Types as number
use Rattle.fitting_units.specs.Leaves.{AreTagsOnce, AreNamesOnce}
use Rattle.sisal_tree.specs.declared.unit.Written.{Written}
use Rattle.sisal_tree.specs.declared.expr.Arm.{Arm}
use Rattle.typed_tree.specs.Typing.{Known, named_arms, tags_from}
use Rattle.fitting_trees.specs.Fitting.{TagsFit, IsChosen}
use Rattle.fitting_units.proofs.Walk.{AreTagsFit}
use Rattle.fitting_units.proofs.Choices.{first, further, arms_counted, reach, last_counted, each_chosen, tags_below, choice_for, each_fits}

record UnionAt (forms : List Form) (spellings : List (List ℕ)) (n : ℕ) (ms : List Member) : Type 0 where
  members : List NumberedMember
  there : slice_get forms n ≡ Some (form.Union members)
  stands : AreMembers forms spellings members ms

out_union : (ms : List Member) → out-Ty (ty.Uni ms) ≡ Ty-F.Uni ms
out_union ms = search (rules, types.the_lemmas)

union_at : (forms : List Form) (spellings : List (List ℕ)) (n : ℕ) (t : Ty) → IsNumber forms spellings n t → (ms : List Member) → out-Ty t ≡ Ty-F.Uni ms → UnionAt forms spellings n ms
union_at forms spellings n _ (number.boolean h) ms e = let o : out-Ty ty.Bool ≡ Ty-F.Bool = search (rules, types.the_lemmas) in let z = sym o ∙ e in absurd cc
union_at forms spellings n _ (number.character h) ms e = let o : out-Ty ty.Char ≡ Ty-F.Char = search (rules, types.the_lemmas) in let z = sym o ∙ e in absurd cc
union_at forms spellings n _ (number.integer h) ms e = let o : out-Ty ty.Int ≡ Ty-F.Int = search (rules, types.the_lemmas) in let z = sym o ∙ e in absurd cc
union_at forms spellings n _ (number.null h) ms e = let o : out-Ty ty.Null ≡ Ty-F.Null = search (rules, types.the_lemmas) in let z = sym o ∙ e in absurd cc
union_at forms spellings n _ (number.array {t = t} h p) ms e = let o : out-Ty (ty.Arr t) ≡ Ty-F.Arr t = search (rules, types.the_lemmas) in let z = sym o ∙ e in absurd cc
union_at forms spellings n _ (number.stream {t = t} h p) ms e = let o : out-Ty (ty.Stream t) ≡ Ty-F.Stream t = search (rules, types.the_lemmas) in let z = sym o ∙ e in absurd cc
union_at forms spellings n _ (number.a_record {fs = fs} h p) ms e = let o : out-Ty (ty.Rec fs) ≡ Ty-F.Rec fs = search (rules, types.the_lemmas) in let z = sym o ∙ e in absurd cc
union_at forms spellings n _ (number.a_union {ms = ns} {fs = fs} h p) ms e =
    let z = sym (out_union fs) ∙ e in let same : fs ≡ ms = cc in record { members = ns; there = h; stands = subst (λ l. AreMembers forms spellings ns l) same p }

spelled_at : (forms : List Form) (spellings : List (List ℕ)) (ns : List NumberedMember) (ms : List Member) → AreMembers forms spellings ns ms → (j : ℕ) (s : List ℕ) (b : Ty) → slice_get ms j ≡ Some (s, b)
    → (y : ℕ) × Contains (map (λ m. m.name) ns) y × (slice_get spellings y ≡ Some s)
spelled_at forms spellings _ _ number.no_member j s b e = absurd (none-some (s, b) e)
spelled_at forms spellings _ _ (number.a_member {x = x} {name = name} {t = t} {ms = ns} sp num p) zero s b e =
    (x, first (map (λ m. m.name) ns) x, sp ∙ ap (λ m. Some m.0) (same_Some (name, t) (s, b) e))
spelled_at forms spellings _ _ (number.a_member {x = x} {ms = ns} {fs = fs} sp num p) (suc j) s b e =
    let r = spelled_at forms spellings ns fs p j s b e in (r.0, further x (map (λ m. m.name) ns) r.0 r.1, r.2)

one_place : (forms : List Form) (spellings : List (List ℕ)) → AreNamesOnce spellings → (ns : List NumberedMember) (ms : List Member) → AreMembers forms spellings ns ms → AreDistinct (map (λ m. m.name) ns)
    → (i j : ℕ) (s : List ℕ) (a b : Ty) → slice_get ms i ≡ Some (s, a) → slice_get ms j ≡ Some (s, b) → i ≡ j
one_place forms spellings once _ _ number.no_member d i j s a b e f = absurd (none-some (s, a) e)
one_place forms spellings once _ _ (number.a_member sp num p) d zero zero s a b e f = refl
one_place forms spellings once _ _ (number.a_member {x = x} {name = name} {t = t} {ms = ns} {fs = fs} sp num p) d zero (suc j) s a b e f =
    let r = spelled_at forms spellings ns fs p j s b f in
    absurd (d.0 (subst (λ z. Contains (map (λ m. m.name) ns) z) (once r.0 x s r.2 (sp ∙ ap (λ m. Some m.0) (same_Some (name, t) (s, a) e))) r.1))
one_place forms spellings once _ _ (number.a_member {x = x} {name = name} {t = t} {ms = ns} {fs = fs} sp num p) d (suc i) zero s a b e f =
    let r = spelled_at forms spellings ns fs p i s a e in
    absurd (d.0 (subst (λ z. Contains (map (λ m. m.name) ns) z) (once r.0 x s r.2 (sp ∙ ap (λ m. Some m.0) (same_Some (name, t) (s, b) f))) r.1))
one_place forms spellings once _ _ (number.a_member {ms = ns} {fs = fs} sp num p) d (suc i) (suc j) s a b e f = ap suc (one_place forms spellings once ns fs p d.1 i j s a b e f)

pub union_once : (forms : List Form) (spellings : List (List ℕ)) → AreNamesOnce spellings → AreTagsOnce forms → (n : ℕ) (ms : List Member) → IsNumber forms spellings n (ty.Uni ms)
    → (i j : ℕ) (s : List ℕ) (a b : Ty) → slice_get ms i ≡ Some (s, a) → slice_get ms j ≡ Some (s, b) → i ≡ j
union_once forms spellings once tags n ms p =
    let u = union_at forms spellings n (ty.Uni ms) p ms (out_union ms) in one_place forms spellings once u.members ms u.stands (tags n u.members u.there)

module _ (k : Known) (denotes : Written → Ty → Type 0) (once : AreNamesOnce k.spellings) (tags_once : AreTagsOnce k.forms) where
  pub tags_fit : AreTagsFit k denotes
  tags_fit s x ms tys contents arms us last tags other choices [] num q d all o c told = absurd num
  tags_fit s x ms tys contents arms us last tags other choices (n ∷ ns) num q d all o c told =
      let counts = arms_counted k denotes s x ms tys arms us tags q in
      let a = counts.0 in let b = counts.1 in
      let both = length-append us last in
      let one = union_once k.forms k.spellings once tags_once n ms num.0 in
      record {
        each = subst (λ m. TagsFit (length (us ++ last)) contents (record { named = named_arms x arms; choices = choices; others = m }) 0 ms) (sym b)
            (each_fits k denotes x ms one tags contents told choices c.each other (length (us ++ last)) (omega (arith, a, both))
            (λ es e. let l = last_counted k denotes s tys es other last o e in omega (arith, a, l, both)) (named_arms x arms) 0 ms (λ t j e. ap (slice_get ms) (same_index t j e)) all);
        reached = λ i h. let r = reach k denotes s x ms tys arms us tags q 0 i i (omega arith) (let l = named_within x arms in omega (arith, h, l, b)) in choice_for k ms (tags_from 0 tags) choices c.each r.0 i r.1;
        there = subst (λ m. All (IsChosen (record { named = named_arms x arms; choices = choices; others = m }) (length (us ++ last)) (length ms)) choices) (sym b)
            (each_chosen k ms one once tags d choices c.each (length tags) (named_arms x arms) (length (us ++ last)) (tags_from 0 tags) choices c.each (λ y i m. m) (tags_below 0 (length (us ++ last)) tags (omega (arith, a, both))));
        last = omega (arith, a, b, both);
      }
    where
      same_index : (t j : ℕ) → j ≡ 0 + t → j ≡ t
      same_index t j e = omega (arith, e)

      named_within : (x : Option ℕ) (arms : List Arm) → named_arms x arms ≤ length arms
      named_within None arms = omega arith
      named_within (Some y) arms = omega arith
