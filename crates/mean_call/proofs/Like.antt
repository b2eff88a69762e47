-- A number of a program's table stands for its type, whatever the names are.
use Rattle.std.proofs.Common.{◌≡◌, ℕ, zero, suc, List, [], ◌∷◌, map, sym, ap, subst, rules}
use Rattle.flow_value.specs.declared.ty.Ty.{Ty}
use Rattle.flow_value.specs.declared.ty.Ty.TheVariants as ty
use Rattle.flow_value.specs.declared.ty.Ty.TheOpen.{Ty-F}
use Rattle.flow_value.specs.declared.ty.Ty.TheViews.{out-Ty, the_lemmas}
use Rattle.type_table.specs.declared.form.Form.{Form}
use Rattle.type_table.specs.declared.form.Member.{Member as NumberedMember}
use Rattle.mean_call.specs.Table.{form_of, numbered}
use Rattle.type_table.specs.Tables.{members_if}
use Rattle.value_text.specs.Numbered.{AreLike, HasForm, IsLike, StandForAll}
use Rattle.typed_tree.specs.Types.{Member, IsNumber, boolean, character, integer, null, array, stream, a_record, a_union, AreMembers, no_member, a_member, AreNumbers}

out-bool : out-Ty ty.Bool ≡ Ty-F.Bool
out-bool = search (rules, the_lemmas)

out-char : out-Ty ty.Char ≡ Ty-F.Char
out-char = search (rules, the_lemmas)

out-int : out-Ty ty.Int ≡ Ty-F.Int
out-int = search (rules, the_lemmas)

out-null : out-Ty ty.Null ≡ Ty-F.Null
out-null = search (rules, the_lemmas)

out-array : (t : Ty) → out-Ty (ty.Arr t) ≡ Ty-F.Arr t
out-array t = search (rules, the_lemmas)

out-stream : (t : Ty) → out-Ty (ty.Stream t) ≡ Ty-F.Stream t
out-stream t = search (rules, the_lemmas)

out-record : (fs : List Member) → out-Ty (ty.Rec fs) ≡ Ty-F.Rec fs
out-record fs = search (rules, the_lemmas)

out-union : (fs : List Member) → out-Ty (ty.Uni fs) ≡ Ty-F.Uni fs
out-union fs = search (rules, the_lemmas)

module _ (forms : List Form) (names : List (List ℕ)) where
  members_like : (k : ℕ) → ((n : ℕ) (t : Ty) → IsNumber forms names n t → IsLike (numbered forms) k n t) → (ms : List NumberedMember) (fs : List Member) → AreMembers forms names ms fs → AreLike (IsLike (numbered forms) k) (map (λ m. m.ty) ms) fs
  members_like k like _ _ no_member = tt
  members_like k like _ _ (a_member {n = n} {t = t} {ms = ms} {fs = fs} s p q) = (like n t p, members_like k like ms fs q)

  like : (k n : ℕ) (t : Ty) → IsNumber forms names n t → IsLike (numbered forms) k n t
  like zero n t p = tt
  like (suc k) n _ (boolean e) = subst (HasForm (numbered forms) (IsLike (numbered forms) k) n) (sym out-bool) (ap form_of e)
  like (suc k) n _ (character e) = subst (HasForm (numbered forms) (IsLike (numbered forms) k) n) (sym out-char) (ap form_of e)
  like (suc k) n _ (integer e) = subst (HasForm (numbered forms) (IsLike (numbered forms) k) n) (sym out-int) (ap form_of e)
  like (suc k) n _ (null e) = subst (HasForm (numbered forms) (IsLike (numbered forms) k) n) (sym out-null) (ap form_of e)
  like (suc k) n _ (array {m = m} {t = t} e p) = subst (HasForm (numbered forms) (IsLike (numbered forms) k) n) (sym (out-array t)) (m, ap form_of e, like k m t p)
  like (suc k) n _ (stream {m = m} {t = t} e p) = subst (HasForm (numbered forms) (IsLike (numbered forms) k) n) (sym (out-stream t)) (m, ap form_of e, like k m t p)
  like (suc k) n _ (a_record {ms = ms} {fs = fs} e p) =
      subst (HasForm (numbered forms) (IsLike (numbered forms) k) n) (sym (out-record fs))
      (ap form_of e, subst (λ l. AreLike (IsLike (numbered forms) k) l fs) (sym (ap (λ o. map (λ m. m.ty) (members_if o)) e)) (members_like k (like k) ms fs p))
  like (suc k) n _ (a_union {ms = ms} {fs = fs} e p) =
      subst (HasForm (numbered forms) (IsLike (numbered forms) k) n) (sym (out-union fs))
      (ap form_of e, subst (λ l. AreLike (IsLike (numbered forms) k) l fs) (sym (ap (λ o. map (λ m. m.ty) (members_if o)) e)) (members_like k (like k) ms fs p))

  pub stand_for_all : (ns : List ℕ) (ts : List Ty) → AreNumbers forms names ns ts → StandForAll (numbered forms) ns ts
  stand_for_all [] [] p = tt
  stand_for_all [] (t ∷ ts) p = absurd p
  stand_for_all (n ∷ ns) [] p = absurd p
  stand_for_all (n ∷ ns) (t ∷ ts) p = ((λ k. like k n t p.0), stand_for_all ns ts p.1)
