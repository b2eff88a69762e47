-- A record has no more fields than the unit has types, and only a Reduce names a reduction.
use Rattle.std.proofs.Common.{◌≡◌, ℕ, zero, suc, ◌≤◌, Bool, true, false, ◌&&◌, not, List, [], ◌∷◌, length, option_map, Option, Some, None, refl, sym, ap, subst, ◌∙◌, if◌then◌else◌, arith}
use Rattle.std.specs.Prelude.{slice_get}
use Rattle.std.proofs.lemmas.Bool.{and_parts}
use Rattle.flow_value.specs.declared.operation.Scalar1.TheVariants as one
use Rattle.flow_value.specs.declared.operation.Scalar2.TheVariants as two
use Rattle.flow_value.specs.declared.ty.Ty.{Ty}
use Rattle.flow_value.specs.declared.ty.Ty.TheVariants as ty
use Rattle.flow_value.specs.declared.ty.Ty.TheOpen.{Ty-F}
use Rattle.flow_value.specs.declared.ty.Ty.TheViews.{out-Ty}
use Rattle.if1_graph.specs.declared.graph.TypeEntry.{TypeEntry}
use Rattle.if1_graph.specs.declared.kind.Basic.{Basic}
use Rattle.if1_graph.specs.declared.kind.Basic.TheVariants as basic
use Rattle.if1_graph.specs.declared.kind.TypeKind.{TypeKind}
use Rattle.if1_graph.specs.declared.kind.TypeKind.TheVariants as kind
use Rattle.if1_graph.specs.declared.op.Simple.{Simple}
use Rattle.if1_graph.specs.declared.op.Simple.TheVariants as simple
use Rattle.if1_graph.specs.declared.row.Rest.{Rest}
use Rattle.if1_graph.specs.declared.row.Rest.TheVariants.{Nothing, Mask, More, Arguments, Fields, NewFields}
use Rattle.if1_graph.specs.declared.row.Want.{Want}
use Rattle.if1_graph.specs.declared.row.Want.TheVariants as want
use Rattle.if1_graph.specs.Kinds.{kind_at, basic_at}
use Rattle.if1_graph.specs.Rows.{Operand, row_of, of_rest, operand_of}
use Rattle.if1_graph.specs.Tables.{◌>>=◌, or_else}
use Rattle.if1_graph.specs.Types.{Member, Naming, Sort, Plain, Many, Function, entry_at, is_field, is_tag, members, scalar, ty_of, ty_within, without_names, bare_at, tuple_at, sort_of, sort_at}
use Rattle.unit_laws.proofs.TypeLists.{some-same, plain-is, out_int, out_bool, out_char, out_null, out_arr, out_stream, out_rec, out_uni, rec-same}
use Rattle.unit_laws.proofs.TypedEdges.{bound}

-- ---- fields

abbrev rank : Ty-F Ty → ℕ
rank Ty-F.Int = 0
rank Ty-F.Bool = 1
rank Ty-F.Char = 2
rank Ty-F.Null = 3
rank (Ty-F.Arr t) = 4
rank (Ty-F.Stream t) = 5
rank (Ty-F.Rec ms) = 6
rank (Ty-F.Uni ms) = 7

abbrev form : Ty → ℕ
form t = rank (out-Ty t)

rec-form : (ms : List Member) → form (ty.Rec ms) ≡ 6
rec-form ms = ap rank (out_rec ms)

-- a type of another form is no record
other-form : (ms : List Member) (t : Ty) (n : ℕ) → form t ≡ n → (n ≡ 6 → ⊥) → t ≡ ty.Rec ms → ⊥
other-form ms t n f ne e = ne (sym f ∙ (ap form e ∙ rec-form ms))

module _ (name : Naming) (part : ℕ → Option Ty) (ts : List TypeEntry) where
  members-few : (is : Option TypeKind → Bool) (far l : ℕ) (ms : List Member) → members name part is ts far l ≡ Some ms → length ms ≤ far
  members-few is far zero ms e = subst (λ xs. length xs ≤ far) (some-same [] ms e) (omega arith)
  members-few is zero (suc l) ms e = absurd cc
  members-few is (suc far) (suc l) ms e =
      let a = bound (entry_at ts (suc l)) (λ e. (if is (kind_at e.code) then part e.first else None) >>= λ t. members name part is ts far e.second >>= λ others. Some ((name e, t) ∷ others)) ms e in
      let b = bound (if is (kind_at (a.0).code) then part (a.0).first else None) (λ t. members name part is ts far (a.0).second >>= λ others. Some ((name a.0, t) ∷ others)) ms a.2 in
      let c = bound (members name part is ts far (a.0).second) (λ others. Some ((name a.0, b.0) ∷ others)) ms b.2 in
      let few = members-few is far (a.0).second c.0 c.1 in
      subst (λ xs. length xs ≤ suc far) (some-same ((name a.0, b.0) ∷ c.0) ms c.2) (omega (arith, few))

  record-few : (e : TypeEntry) (k : Option TypeKind) (ms : List Member) (t : Ty) → ty_of name part ts e k ≡ Some t → t ≡ ty.Rec ms → length ms ≤ length ts
  record-few e (Some kind.Basic) ms t f same = absurd (scalar-not (basic_at e.first) f)
    where
      scalar-not : (b : Option Basic) → scalar b ≡ Some t → ⊥
      scalar-not (Some basic.Boolean) g = other-form ms t 1 (ap form (sym (some-same ty.Bool t g)) ∙ ap rank out_bool) (λ z. absurd (omega (arith, z))) same
      scalar-not (Some basic.Character) g = other-form ms t 2 (ap form (sym (some-same ty.Char t g)) ∙ ap rank out_char) (λ z. absurd (omega (arith, z))) same
      scalar-not (Some basic.Integer) g = other-form ms t 0 (ap form (sym (some-same ty.Int t g)) ∙ ap rank out_int) (λ z. absurd (omega (arith, z))) same
      scalar-not (Some basic.Null) g = other-form ms t 3 (ap form (sym (some-same ty.Null t g)) ∙ ap rank out_null) (λ z. absurd (omega (arith, z))) same
      scalar-not (Some basic.Double) g = absurd cc
      scalar-not (Some basic.Real) g = absurd cc
      scalar-not (Some basic.Wild) g = absurd cc
      scalar-not None g = absurd cc
  record-few e (Some kind.Array) ms t f same = let a = bound (part e.first) (λ t. Some (ty.Arr t)) t f in absurd (other-form ms t 4 (ap form (sym (some-same (ty.Arr a.0) t a.2)) ∙ ap rank (out_arr a.0)) (λ z. absurd (omega (arith, z))) same)
  record-few e (Some kind.Stream) ms t f same = let a = bound (part e.first) (λ t. Some (ty.Stream t)) t f in absurd (other-form ms t 5 (ap form (sym (some-same (ty.Stream a.0) t a.2)) ∙ ap rank (out_stream a.0)) (λ z. absurd (omega (arith, z))) same)
  record-few e (Some kind.Union) ms t f same =
      let a = bound (members name part is_tag ts (length ts) e.first) (λ fs. Some (ty.Uni fs)) t f in absurd (other-form ms t 7 (ap form (sym (some-same (ty.Uni a.0) t a.2)) ∙ ap rank (out_uni a.0)) (λ z. absurd (omega (arith, z))) same)
  record-few e (Some kind.Record) ms t f same =
      let a = bound (members name part is_field ts (length ts) e.first) (λ fs. Some (ty.Rec fs)) t f in
      subst (λ xs. length xs ≤ length ts) (rec-same a.0 ms (some-same (ty.Rec a.0) t a.2 ∙ same)) (members-few is_field (length ts) e.first a.0 a.1)
  record-few e (Some kind.Field) ms t f same = absurd cc
  record-few e (Some kind.Tag) ms t f same = absurd cc
  record-few e (Some kind.Tuple) ms t f same = absurd cc
  record-few e (Some kind.Function) ms t f same = absurd cc
  record-few e (Some kind.Multiple) ms t f same = absurd cc
  record-few e None ms t f same = absurd cc

no-many : (x t : Ty) → Many x ≡ Plain t → ⊥
no-many x t e = cc

no-function : (xs ys : List Ty) (t : Ty) → Function xs ys ≡ Plain t → ⊥
no-function xs ys t e = cc

pub record-of-few : (ts : List TypeEntry) (l : ℕ) (s : Sort) (ms : List Member) → sort_at ts l ≡ Some s → s ≡ Plain (ty.Rec ms) → length ms ≤ length ts
record-of-few ts l s ms e same =
    let a = bound (entry_at ts l) (λ e. sort_of ts l e (kind_at e.code)) s e in
    go a.0 (kind_at (a.0).code) a.2
  where
    plain : bare_at ts l >>= (λ t. Some (Plain t)) ≡ Some s → length ms ≤ length ts
    plain f =
        let b = bound (bare_at ts l) (λ t. Some (Plain t)) s f in
        let c = bound (entry_at ts l) (λ e. ty_of without_names (ty_within without_names 63 ts) ts e (kind_at e.code)) b.0 b.1 in
        record-few without_names (ty_within without_names 63 ts) ts c.0 (kind_at (c.0).code) ms b.0 c.2 (plain-is b.0 (ty.Rec ms) (some-same (Plain b.0) s b.2 ∙ same))

    go : (x : TypeEntry) (k : Option TypeKind) → sort_of ts l x k ≡ Some s → length ms ≤ length ts
    go x (Some kind.Multiple) f = let b = bound (bare_at ts x.first) (λ t. Some (Many t)) s f in absurd (no-many b.0 (ty.Rec ms) (some-same (Many b.0) s b.2 ∙ same))
    go x (Some kind.Function) f =
        let b = bound (tuple_at (bare_at ts) ts x.first) (λ args. tuple_at (bare_at ts) ts x.second >>= λ rs. Some (Function args rs)) s f in
        let c = bound (tuple_at (bare_at ts) ts x.second) (λ rs. Some (Function b.0 rs)) s b.2 in
        absurd (no-function b.0 c.0 (ty.Rec ms) (some-same (Function b.0 c.0) s c.2 ∙ same))
    go x _ f = plain f

-- ---- reductions

abbrev is_reduction : Want → Bool
is_reduction want.Reduction = true
is_reduction _ = false

abbrev clean : List Operand → Bool
clean [] = true
clean (x ∷ xs) = not (is_reduction x.1) && clean xs

abbrev clean_rest : Rest → Bool
clean_rest (More how w) = not (is_reduction w)
clean_rest _ = true

abbrev pub IsNoReduce : Simple → Type 0
IsNoReduce (simple.Reduce grouping) = ⊥
IsNoReduce _ = Unit {0}

row-clean : (o : Simple) → IsNoReduce o → (clean (row_of o).operands ≡ true) × (clean_rest (row_of o).rest ≡ true)
row-clean (simple.Two two.Plus) h = (refl, refl)
row-clean (simple.Two two.Minus) h = (refl, refl)
row-clean (simple.Two two.Times) h = (refl, refl)
row-clean (simple.Two two.Div) h = (refl, refl)
row-clean (simple.Two two.Mod) h = (refl, refl)
row-clean (simple.Two two.Max) h = (refl, refl)
row-clean (simple.Two two.Min) h = (refl, refl)
row-clean (simple.Two two.Equal) h = (refl, refl)
row-clean (simple.Two two.NotEqual) h = (refl, refl)
row-clean (simple.Two two.Less) h = (refl, refl)
row-clean (simple.Two two.LessEqual) h = (refl, refl)
row-clean (simple.One one.Neg) h = (refl, refl)
row-clean (simple.One one.Abs) h = (refl, refl)
row-clean (simple.One one.Not) h = (refl, refl)
row-clean (simple.One one.Int) h = (refl, refl)
row-clean (simple.One one.Bool) h = (refl, refl)
row-clean (simple.One one.Char) h = (refl, refl)
row-clean (simple.One one.IsError) h = (refl, refl)
row-clean (simple.Reduce grouping) h = absurd h
row-clean _ h = (refl, refl)

clean-at : (xs : List Operand) (i : ℕ) (x : Operand) → clean xs ≡ true → slice_get xs i ≡ Some x → x.1 ≡ want.Reduction → ⊥
clean-at [] i x h e r = cc
clean-at (y ∷ xs) zero x h e r = let q = (and_parts (not (is_reduction y.1)) (clean xs) h).0 in no-red x.1 (ap (λ (z : Operand). not (is_reduction z.1)) (sym (some-same y x e)) ∙ q) r
  where
    no-red : (w : Want) → not (is_reduction w) ≡ true → w ≡ want.Reduction → ⊥
    no-red w h e = let b : false ≡ true = ap (λ w. not (is_reduction w)) (sym e) ∙ h in cc
clean-at (y ∷ xs) (suc i) x h e r = clean-at xs i x (and_parts (not (is_reduction y.1)) (clean xs) h).1 e r

rest-at : (r : Rest) (port : ℕ) (x : Operand) → clean_rest r ≡ true → of_rest r port ≡ Some x → x.1 ≡ want.Reduction → ⊥
rest-at Nothing port x h e q = cc
rest-at Mask port x h e q = let b : true ≡ false = ap is_reduction (sym q) ∙ ap (λ (z : Operand). is_reduction z.1) (sym (some-same _ x e)) in cc
rest-at (More how w) port x h e q = let b : false ≡ true = ap (λ w. not (is_reduction w)) (sym q) ∙ (ap (λ (z : Operand). not (is_reduction z.1)) (sym (some-same _ x e)) ∙ h) in cc
rest-at Arguments port x h e q = let b : true ≡ false = ap is_reduction (sym q) ∙ ap (λ (z : Operand). is_reduction z.1) (sym (some-same _ x e)) in cc
rest-at Fields port x h e q = let b : true ≡ false = ap is_reduction (sym q) ∙ ap (λ (z : Operand). is_reduction z.1) (sym (some-same _ x e)) in cc
rest-at NewFields port x h e q = let b : true ≡ false = ap is_reduction (sym q) ∙ ap (λ (z : Operand). is_reduction z.1) (sym (some-same _ x e)) in cc

either-at : (a b : Option Operand) → ((x : Operand) → a ≡ Some x → x.1 ≡ want.Reduction → ⊥) → ((x : Operand) → b ≡ Some x → x.1 ≡ want.Reduction → ⊥) → (w : Want) → option_map (λ (x : Operand). x.1) (or_else a b) ≡ Some w → w ≡ want.Reduction → ⊥
either-at (Some x) b f g w e r = f x refl (some-same x.1 w e ∙ r)
either-at None (Some x) f g w e r = g x refl (some-same x.1 w e ∙ r)
either-at None None f g w e r = cc

pub no-reduction : (o : Simple) → IsNoReduce o → (i : ℕ) → option_map (λ (x : Operand). x.1) (operand_of o (suc i)) ≡ Some want.Reduction → ⊥
no-reduction o h i e =
    let c = row-clean o h in
    either-at (slice_get (row_of o).operands i) (of_rest (row_of o).rest (suc i)) (λ x f r. clean-at (row_of o).operands i x c.0 f r) (λ x f r. rest-at (row_of o).rest (suc i) x c.1 f r) want.Reduction e refl
