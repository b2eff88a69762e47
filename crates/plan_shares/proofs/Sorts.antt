-- Whether an edge carries an aggregate goes by the sort of its type.
use Rattle.std.proofs.Common.{◌≡◌, ℕ, suc, length, Bool, true, false, List, Option, Some, None, refl, sym, ap, ◌∙◌}
use Rattle.flow_value.specs.declared.ty.Ty.{Ty}
use Rattle.flow_value.specs.declared.ty.Ty.TheOpen.{Ty-F}
use Rattle.flow_value.specs.declared.ty.Ty.TheVariants as ty
use Rattle.flow_value.specs.declared.ty.Ty.TheViews.{out-Ty}
use Rattle.if1_graph.specs.declared.graph.TypeEntry.{TypeEntry}
use Rattle.if1_graph.specs.declared.kind.Basic.{Basic}
use Rattle.if1_graph.specs.declared.kind.Basic.TheVariants as basic
use Rattle.if1_graph.specs.declared.kind.TypeKind.{TypeKind}
use Rattle.if1_graph.specs.declared.kind.TypeKind.TheVariants as kind
use Rattle.if1_graph.specs.Kinds.{kind_at, basic_at}
use Rattle.if1_graph.specs.Tables.{◌>>=◌}
use Rattle.if1_graph.specs.Types.{Sort, Plain, Many, Function, bare_at, entry_at, is_field, is_tag, members, scalar, sort_at, sort_of, tuple_at, ty_of, ty_within, without_names}
use Rattle.if1_marks.specs.Aggregates.{has_parts, is_aggregate, is_carried_by, is_carrying, kind_in}
use Rattle.unit_laws.proofs.TypedEdges.{bound}
use Rattle.unit_laws.proofs.TypeLists.{out_arr, out_bool, out_char, out_int, out_null, out_rec, out_stream, out_uni, some-same}

abbrev ty-parts : Ty-F Ty → Bool
ty-parts (Ty-F.Arr t) = true
ty-parts (Ty-F.Stream t) = true
ty-parts (Ty-F.Rec ms) = true
ty-parts (Ty-F.Uni ms) = true
ty-parts _ = false

abbrev pub sort-parts : Sort → Bool
sort-parts (Plain t) = ty-parts (out-Ty t)
sort-parts (Many t) = ty-parts (out-Ty t)
sort-parts (Function args rs) = false

-- ---- types of values

scalar-parts : (b : Option Basic) (t : Ty) → scalar b ≡ Some t → false ≡ ty-parts (out-Ty t)
scalar-parts (Some basic.Boolean) t h = sym (ap ty-parts out_bool) ∙ ap (λ z. ty-parts (out-Ty z)) (some-same ty.Bool t h)
scalar-parts (Some basic.Character) t h = sym (ap ty-parts out_char) ∙ ap (λ z. ty-parts (out-Ty z)) (some-same ty.Char t h)
scalar-parts (Some basic.Integer) t h = sym (ap ty-parts out_int) ∙ ap (λ z. ty-parts (out-Ty z)) (some-same ty.Int t h)
scalar-parts (Some basic.Null) t h = sym (ap ty-parts out_null) ∙ ap (λ z. ty-parts (out-Ty z)) (some-same ty.Null t h)
scalar-parts (Some basic.Double) t h = absurd cc
scalar-parts (Some basic.Real) t h = absurd cc
scalar-parts (Some basic.Wild) t h = absurd cc
scalar-parts None t h = absurd cc

module _ (ts : List TypeEntry) where
  module _ (part : ℕ → Option Ty) (e : TypeEntry) (t : Ty) where
    of-kind : (k : Option TypeKind) → ty_of without_names part ts e k ≡ Some t → has_parts k ≡ ty-parts (out-Ty t)
    of-kind (Some kind.Basic) h = scalar-parts (basic_at e.first) t h
    of-kind (Some kind.Array) h =
        let x = bound (part e.first) (λ t. Some (ty.Arr t)) t h in
        sym (ap ty-parts (out_arr x.0)) ∙ ap (λ z. ty-parts (out-Ty z)) (some-same (ty.Arr x.0) t x.2)
    of-kind (Some kind.Stream) h =
        let x = bound (part e.first) (λ t. Some (ty.Stream t)) t h in
        sym (ap ty-parts (out_stream x.0)) ∙ ap (λ z. ty-parts (out-Ty z)) (some-same (ty.Stream x.0) t x.2)
    of-kind (Some kind.Record) h =
        let x = bound (members without_names part is_field ts (length ts) e.first) (λ fs. Some (ty.Rec fs)) t h in
        sym (ap ty-parts (out_rec x.0)) ∙ ap (λ z. ty-parts (out-Ty z)) (some-same (ty.Rec x.0) t x.2)
    of-kind (Some kind.Union) h =
        let x = bound (members without_names part is_tag ts (length ts) e.first) (λ fs. Some (ty.Uni fs)) t h in
        sym (ap ty-parts (out_uni x.0)) ∙ ap (λ z. ty-parts (out-Ty z)) (some-same (ty.Uni x.0) t x.2)
    of-kind _ h = absurd cc

  ty-kind : (l d : ℕ) (t : Ty) → ty_within without_names (suc d) ts l ≡ Some t → has_parts (kind_in ts l) ≡ ty-parts (out-Ty t)
  ty-kind l d t h = go (entry_at ts l) h
    where
      go : (o : Option TypeEntry) → (o >>= λ e. ty_of without_names (ty_within without_names d ts) ts e (kind_at e.code)) ≡ Some t → has_parts (o >>= λ e. kind_at e.code) ≡ ty-parts (out-Ty t)
      go None h = absurd cc
      go (Some e) h = of-kind (ty_within without_names d ts) e t (kind_at e.code) h

  -- ---- what edges carry

  of-carrying : (l : ℕ) (s : Sort) (e : TypeEntry) (k : Option TypeKind) → kind_in ts l ≡ k → sort_of ts l e k ≡ Some s → is_carrying ts e k ≡ sort-parts s
  of-carrying l s e (Some kind.Multiple) is h =
      let x = bound (bare_at ts e.first) (λ t. Some (Many t)) s h in
      ty-kind e.first 63 x.0 x.1 ∙ ap sort-parts (some-same (Many x.0) s x.2)
  of-carrying l s e (Some kind.Function) is h =
      let a = bound (tuple_at (bare_at ts) ts e.first) (λ args. tuple_at (bare_at ts) ts e.second >>= λ rs. Some (Function args rs)) s h in
      let b = bound (tuple_at (bare_at ts) ts e.second) (λ rs. Some (Function a.0 rs)) s a.2 in
      ap sort-parts (some-same (Function a.0 b.0) s b.2)
  of-carrying l s e k is h =
      let x = bound (bare_at ts l) (λ t. Some (Plain t)) s h in
      sym (ap has_parts is) ∙ (ty-kind l 63 x.0 x.1 ∙ ap sort-parts (some-same (Plain x.0) s x.2))

  pub aggregate-sort : (l : ℕ) (s : Sort) → sort_at ts l ≡ Some s → is_aggregate ts l ≡ sort-parts s
  aggregate-sort l s h = go (entry_at ts l) refl h
    where
      go : (o : Option TypeEntry) → entry_at ts l ≡ o → (o >>= λ e. sort_of ts l e (kind_at e.code)) ≡ Some s → is_carried_by ts o ≡ sort-parts s
      go None f h = absurd cc
      go (Some e) f h = of-carrying l s e (kind_at e.code) (ap (λ o. o >>= λ e. kind_at e.code) f) h

-- edges of one sort carry aggregates alike
pub aggregates-same : (ts : List TypeEntry) (l m : ℕ) (s : Sort) → sort_at ts l ≡ Some s → sort_at ts m ≡ Some s → is_aggregate ts l ≡ is_aggregate ts m
aggregates-same ts l m s f h = aggregate-sort ts l s f ∙ sym (aggregate-sort ts m s h)
