-- Edges that carry no aggregate.
use Rattle.std.proofs.Common.{◌≡◌, ℕ, Bool, true, false, List, Option, Some, None, refl, sym, ap, ◌∙◌}
use Rattle.flow_value.specs.declared.ty.Ty.{Ty}
use Rattle.flow_value.specs.declared.ty.Ty.TheVariants as ty
use Rattle.flow_value.specs.declared.ty.Ty.TheOpen.{Ty-F}
use Rattle.flow_value.specs.declared.ty.Ty.TheViews.{out-Ty}
use Rattle.if1_graph.specs.declared.graph.TypeEntry.{TypeEntry}
use Rattle.if1_graph.specs.declared.kind.TypeKind.{TypeKind}
use Rattle.if1_graph.specs.declared.kind.TypeKind.TheVariants as kind
use Rattle.if1_graph.specs.Kinds.{kind_at}
use Rattle.if1_graph.specs.Tables.{◌>>=◌}
use Rattle.if1_graph.specs.Types.{Many, Plain, bare_at, entry_at, is_field, is_tag, members, sort_at, sort_of, ty_of, ty_within, without_names}
use Rattle.graph_meaning.specs.Aggregates.{is_aggregate, is_carried_by, is_carrying}
use Rattle.unit_laws.proofs.TypeLists.{out_arr, out_rec, out_stream, out_uni, some-same}
use Rattle.unit_laws.proofs.TypedEdges.{bound}

-- values of this type have parts
abbrev pub has_parts_in : Ty-F Ty → Bool
has_parts_in (Ty-F.Arr t) = true
has_parts_in (Ty-F.Stream t) = true
has_parts_in (Ty-F.Rec fs) = true
has_parts_in (Ty-F.Uni ts) = true
has_parts_in _ = false

no-both : (b : Bool) → b ≡ true → b ≡ false → ⊥
no-both true h e = absurd (let x : true ≡ false = e in cc)
no-both false h e = absurd (let x : false ≡ true = h in cc)

-- a type of values without parts is no aggregate's
pub no-aggregate : (ts : List TypeEntry) (l : ℕ) (t : Ty) → sort_at ts l ≡ Some (Plain t) → has_parts_in (out-Ty t) ≡ false → is_aggregate ts l ≡ false
no-aggregate ts l t e none =
    let x = bound (entry_at ts l) (λ e. sort_of ts l e (kind_at e.code)) (Plain t) e in
    ap (is_carried_by ts) x.1 ∙ go x.0 x.1 (kind_at (x.0).code) refl x.2
  where
    bare : (r : TypeEntry) (k : Option TypeKind) → entry_at ts l ≡ Some r → kind_at r.code ≡ k → bare_at ts l ≡ ty_of without_names (ty_within without_names 63 ts) ts r k
    bare r k at is = ap (λ o. o >>= λ e. ty_of without_names (ty_within without_names 63 ts) ts e (kind_at e.code)) at ∙ ap (ty_of without_names (ty_within without_names 63 ts) ts r) is

    plain : (o : Option Ty) → (o >>= λ t. Some (Plain t)) ≡ Some (Plain t) → o ≡ Some t
    plain None e = absurd (let x : None ≡ Some (Plain t) = e in cc)
    plain (Some a) e = let x : a ≡ t = cc in ap Some x

    some-ty : (a b : Ty) → Some a ≡ Some b → a ≡ b
    some-ty a b e = cc

    clash : (a : Ty) → a ≡ t → has_parts_in (out-Ty a) ≡ true → ⊥
    clash a e h = no-both (has_parts_in (out-Ty t)) (ap (λ z. has_parts_in (out-Ty z)) (sym e) ∙ h) none

    go : (r : TypeEntry) → entry_at ts l ≡ Some r → (k : Option TypeKind) → kind_at r.code ≡ k → sort_of ts l r k ≡ Some (Plain t) → is_carrying ts r k ≡ false
    go r at (Some kind.Array) is h =
        let b = sym (bare r (Some kind.Array) at is) ∙ plain (bare_at ts l) h in
        let y = bound (ty_within without_names 63 ts r.first) (λ t. Some (ty.Arr t)) t b in
        absurd (clash (ty.Arr y.0) (some-ty (ty.Arr y.0) t y.2) (rw (out_arr y.0) refl))
    go r at (Some kind.Stream) is h =
        let b = sym (bare r (Some kind.Stream) at is) ∙ plain (bare_at ts l) h in
        let y = bound (ty_within without_names 63 ts r.first) (λ t. Some (ty.Stream t)) t b in
        absurd (clash (ty.Stream y.0) (some-ty (ty.Stream y.0) t y.2) (rw (out_stream y.0) refl))
    go r at (Some kind.Record) is h =
        let b = sym (bare r (Some kind.Record) at is) ∙ plain (bare_at ts l) h in
        let y = bound (members without_names (ty_within without_names 63 ts) is_field ts _ r.first) (λ fs. Some (ty.Rec fs)) t b in
        absurd (clash (ty.Rec y.0) (some-ty (ty.Rec y.0) t y.2) (rw (out_rec y.0) refl))
    go r at (Some kind.Union) is h =
        let b = sym (bare r (Some kind.Union) at is) ∙ plain (bare_at ts l) h in
        let y = bound (members without_names (ty_within without_names 63 ts) is_tag ts _ r.first) (λ fs. Some (ty.Uni fs)) t b in
        absurd (clash (ty.Uni y.0) (some-ty (ty.Uni y.0) t y.2) (rw (out_uni y.0) refl))
    go r at (Some kind.Multiple) is h =
        let y = bound (bare_at ts r.first) (λ t. Some (Many t)) (Plain t) h in
        let z : Many y.0 ≡ Plain t = some-same (Many y.0) (Plain t) y.2 in
        absurd cc
    go r at (Some kind.Function) is h = refl
    go r at (Some kind.Basic) is h = refl
    go r at (Some kind.Field) is h = refl
    go r at (Some kind.Tag) is h = refl
    go r at (Some kind.Tuple) is h = refl
    go r at None is h = refl
