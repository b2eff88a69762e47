-- Types as they are written out.
use Rattle.std.proofs.Common.{◌≡◌, ◌≢◌, ℕ, zero, suc, Bool, true, false, List, [], ◌∷◌, ◌++◌, map, length, Option, Some, None, option_map, refl, sym, ap, ◌∙◌, append_assoc, if◌then◌else◌}
use Rattle.std.proofs.lemmas.Option.{same_Some}
use Rattle.flow_value.specs.declared.ty.Ty.{Ty}
use Rattle.if1_graph.specs.declared.graph.TypeEntry.{TypeEntry}
use Rattle.if1_graph.specs.declared.kind.TypeKind.{TypeKind}
use Rattle.if1_graph.specs.declared.kind.TypeKind.TheVariants as kind
use Rattle.if1_graph.specs.Kinds.{kind_at}
use Rattle.if1_graph.specs.Tables.{◌>>=◌}
use Rattle.if1_graph.specs.Types.{Member, entry_at, is_tuple, with_names, without_names, members, most_deep, ty_of, ty_within, ty_at, params_of, params_at}
use Rattle.if1_types.specs.Tables.{entry_on}

pub label_step : (depth below : ℕ) (ts : List TypeEntry) (l : ℕ) (e : TypeEntry) → suc below ≡ depth → Some e ≡ entry_at ts l
    → ty_of with_names (ty_within with_names below ts) ts e (kind_at e.code) ≡ ty_within with_names depth ts l
label_step depth below ts l e is h =
    ap (λ o. o >>= λ e. ty_of with_names (ty_within with_names below ts) ts e (kind_at e.code)) h ∙ ap (λ depth. ty_within with_names depth ts l) is

module _ (part : ℕ → Option Ty) (is : Option TypeKind → Bool) (ts : List TypeEntry) where
  -- the members from a line on
  first_member : (far : ℕ) (o : Option TypeEntry) (e : TypeEntry) (t : Ty) → Some e ≡ (o >>= λ d. if is (kind_at d.code) then Some d else None) → Some t ≡ part e.first
      → (o >>= λ d. (if is (kind_at d.code) then part d.first else None) >>= λ t. members with_names part is ts far d.second >>= λ others. Some ((d.name, t) ∷ others))
      ≡ (members with_names part is ts far e.second >>= λ others. Some ((e.name, t) ∷ others))
  first_member far None e t h p = cc
  first_member far (Some d) e t h p = by (is (kind_at d.code)) h
    where
      by : (b : Bool) → Some e ≡ (if b then Some d else None)
          → ((if b then part d.first else None) >>= λ t. members with_names part is ts far d.second >>= λ others. Some ((d.name, t) ∷ others))
          ≡ (members with_names part is ts far e.second >>= λ others. Some ((e.name, t) ∷ others))
      by true h =
          let same = same_Some e d h in
          ap (λ d. part d.first >>= λ t. members with_names part is ts far d.second >>= λ others. Some ((d.name, t) ∷ others)) (sym same)
          ∙ ap (λ o. o >>= λ t. members with_names part is ts far e.second >>= λ others. Some ((e.name, t) ∷ others)) (sym p)
      by false h = cc

  behind : (x : Option (List Member)) (done : List Member) (m : Member) → ((x >>= λ others. Some (m ∷ others)) >>= λ others. Some (done ++ others)) ≡ (x >>= λ others. Some ((done ++ m ∷ []) ++ others))
  behind None done m = refl
  behind (Some others) done m = ap Some (sym (append_assoc done (m ∷ []) others))

  pub member_step : (f : Option (List Member)) (left fewer label : ℕ) (e : TypeEntry) (t : Ty) (name : List ℕ) (done new : List Member) → label ≢ 0 → left ≡ suc fewer
      → Some e ≡ entry_on is ts label → Some t ≡ part e.first → name ≡ e.name
      → f ≡ (members with_names part is ts left label >>= λ others. Some (done ++ others)) → new ≡ done ++ (name, t) ∷ []
      → f ≡ (members with_names part is ts fewer e.second >>= λ others. Some (new ++ others))
  member_step f left fewer zero e t name done new some more h p n before is_new = absurd (some refl)
  member_step f left fewer (suc l) e t name done new some more h p n before is_new =
      before
      ∙ ap (λ left. members with_names part is ts left (suc l) >>= λ others. Some (done ++ others)) more
      ∙ ap (λ x. x >>= λ others. Some (done ++ others)) (first_member fewer (entry_at ts (suc l)) e t h p)
      ∙ behind (members with_names part is ts fewer e.second) done (e.name, t)
      ∙ ap (λ new. members with_names part is ts fewer e.second >>= λ others. Some (new ++ others)) (ap (λ name. done ++ (name, t) ∷ []) (sym n) ∙ sym is_new)

  -- ---- names of members

  abbrev types_in : Option (List Member) → Option (List Ty)
  types_in o = option_map (λ ms. map (λ m. m.1) ms) o

  unnamed : (n : TypeEntry → List ℕ) (far l : ℕ) → types_in (members n part is ts far l) ≡ types_in (members without_names part is ts far l)
  unnamed n far zero = refl
  unnamed n zero (suc l) = refl
  unnamed n (suc far) (suc l) = by (entry_at ts (suc l)) (unnamed n far)
    where
      more : (e d : List ℕ) (t : Ty) (x y : Option (List Member)) → types_in x ≡ types_in y → types_in (x >>= λ others. Some ((e, t) ∷ others)) ≡ types_in (y >>= λ others. Some ((d, t) ∷ others))
      more e d t None None h = refl
      more e d t None (Some y) h = cc
      more e d t (Some x) None h = cc
      more e d t (Some x) (Some y) h = ap (λ ts. Some (t ∷ ts)) (same_Some (map (λ m. m.1) x) (map (λ m. m.1) y) h)

      at : (e : TypeEntry) (o : Option Ty) → ((l : ℕ) → types_in (members n part is ts far l) ≡ types_in (members without_names part is ts far l))
          → types_in (o >>= λ t. members n part is ts far e.second >>= λ others. Some ((n e, t) ∷ others))
          ≡ types_in (o >>= λ t. members without_names part is ts far e.second >>= λ others. Some (([], t) ∷ others))
      at e None rest = refl
      at e (Some t) rest = more (n e) [] t (members n part is ts far e.second) (members without_names part is ts far e.second) (rest e.second)

      by : (o : Option TypeEntry) → ((l : ℕ) → types_in (members n part is ts far l) ≡ types_in (members without_names part is ts far l))
          → types_in (o >>= λ e. (if is (kind_at e.code) then part e.first else None) >>= λ t. members n part is ts far e.second >>= λ others. Some ((n e, t) ∷ others))
          ≡ types_in (o >>= λ e. (if is (kind_at e.code) then part e.first else None) >>= λ t. members without_names part is ts far e.second >>= λ others. Some (([], t) ∷ others))
      by None rest = refl
      by (Some e) rest = at e (if is (kind_at e.code) then part e.first else None) rest

  mapped : (o : Option (List Member)) → types_in o ≡ (o >>= λ ms. Some (map (λ m. m.1) ms))
  mapped None = refl
  mapped (Some ms) = refl

  pub tuple_is : (far l : ℕ) → types_in (members with_names part is ts far l) ≡ (members without_names part is ts far l >>= λ ms. Some (map (λ m. m.1) ms))
  tuple_is far l = unnamed with_names far l ∙ mapped (members without_names part is ts far l)

pub params_is : (ts : List TypeEntry) (l : ℕ) (e : TypeEntry) → Some e ≡ entry_at ts l → kind_at e.code ≡ Some kind.Function
    → option_map (λ ms. map (λ m. m.1) ms) (members with_names (ty_within with_names most_deep ts) is_tuple ts (length ts) e.first) ≡ params_at ts l
params_is ts l e h k =
    tuple_is (ty_at ts) is_tuple ts (length ts) e.first
    ∙ ap (params_of ts e) (sym k)
    ∙ ap (λ o. o >>= λ e. params_of ts e (kind_at e.code)) h
