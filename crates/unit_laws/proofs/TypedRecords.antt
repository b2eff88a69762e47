-- Records and unions that are built or changed are of the types that their rows give.
use Rattle.std.proofs.Common.{◌≡◌, ◌≢◌, ℕ, zero, suc, ◌+◌, ◌<◌, ◌≤◌, List, [], ◌∷◌, map, length, get_or, Option, Some, None, ◌⊎◌, inl, inr, refl, sym, ap, subst, ◌∙◌, arith}
use Rattle.std.specs.Prelude.{slice_get}
use Rattle.flow_value.specs.declared.ty.Ty.{Ty}
use Rattle.flow_value.specs.declared.ty.Ty.TheVariants as ty
use Rattle.flow_value.specs.declared.value.Val.{Val}
use Rattle.flow_value.specs.declared.value.Val.TheVariants as val
use Rattle.if1_graph.specs.Ports.{fields_of, tags_of}
use Rattle.if1_graph.specs.Tables.{◌>>=◌, at_port}
use Rattle.if1_graph.specs.Types.{Member, Sort, Plain}
use Rattle.if1_graph.specs.Typing.{Known, IsCarried, IsMember, Fits}
use Rattle.if1_graph.specs.declared.row.Want.TheVariants as want
use Rattle.value_ops.specs.Operations.{op_value}
use Rattle.value_ops.specs.declared.operation.Operation.TheVariants as op
use Rattle.graph_meaning.specs.Carried.{Carried, Value, Unfilled, vals, filled_from}
use Rattle.graph_meaning.specs.NodeValues.{Shape, built, union_of, replaced}
use Rattle.graph_meaning.specs.NodeValues as shape
use Rattle.graph_meaning.specs.Networks.{union_shape}
use Rattle.typed_rows.specs.Rows.{Of, AreOf, AreFields}
use Rattle.typed_rows.specs.Rows as row
use Rattle.typed_rows.proofs.Rows.{row_well, union_well}
use Rattle.unit_laws.specs.Typed.{Belongs, Fills}
use Rattle.unit_laws.proofs.TypeLists.{out_rec, out_uni}
use Rattle.unit_laws.proofs.TypedRows.{Operand, at-type, again, AllPlain, plain-at, by-row}
use Rattle.unit_laws.proofs.TypedLists.{value-of, of-value}

-- ---- one filled port

all-unfilled : (cs : List Carried) → ((j : ℕ) → get_or cs j Unfilled ≡ Unfilled) → (n : ℕ) → (filled_from n cs ≡ []) × (vals cs ≡ [])
all-unfilled [] h n = (refl, refl)
all-unfilled (c ∷ cs) h n =
    let r = all-unfilled cs (λ j. h (suc j)) (suc n) in
    (subst (λ z. filled_from n (z ∷ cs) ≡ []) (sym (h 0)) r.0, subst (λ z. vals (z ∷ cs) ≡ []) (sym (h 0)) r.1)

pub one-filled : (cs : List Carried) (i : ℕ) (v : Val) → get_or cs i Unfilled ≡ Value v → ((j : ℕ) → j ≢ i → get_or cs j Unfilled ≡ Unfilled) → (n : ℕ) → (filled_from n cs ≡ (n + i) ∷ []) × (vals cs ≡ v ∷ [])
one-filled [] i v e h n = absurd cc
one-filled (c ∷ cs) zero v e h n =
    let r = all-unfilled cs (λ j. h (suc j) (λ z. absurd (omega (arith, z)))) (suc n) in
    let here : n + 0 ≡ n = omega arith in (
      subst (λ z. filled_from n (z ∷ cs) ≡ (n + 0) ∷ []) (sym e) (ap (λ ps. n ∷ ps) r.0 ∙ ap (λ m. m ∷ []) (sym here)),
      subst (λ z. vals (z ∷ cs) ≡ v ∷ []) (sym e) (ap (λ vs. v ∷ vs) r.1),
    )
one-filled (c ∷ cs) (suc i) v e h n =
    let r = one-filled cs i v e (λ j ne. h (suc j) (λ z. ne (omega (arith, z)))) (suc n) in
    let first = h 0 (λ z. absurd (omega (arith, z))) in
    let here : suc n + i ≡ n + suc i = omega arith in (
      subst (λ z. filled_from n (z ∷ cs) ≡ (n + suc i) ∷ []) (sym first) (r.0 ∙ ap (λ m. m ∷ []) here),
      subst (λ z. vals (z ∷ cs) ≡ v ∷ []) (sym first) r.1,
    )

-- ---- what is built

fields-plain : (ms : List Member) (cs : List Carried) → length cs ≡ length ms → ((j : ℕ) (m : Member) → slice_get ms j ≡ Some m → Belongs (Plain m.1) (get_or cs j Unfilled)) → AllPlain (map (λ m. m.1) ms) cs
fields-plain [] [] e h = tt
fields-plain [] (c ∷ cs) e h = absurd (omega (arith, e))
fields-plain (m ∷ ms) [] e h = absurd (omega (arith, e))
fields-plain (m ∷ ms) (c ∷ cs) e h = (h 0 m refl, fields-plain ms cs (omega (arith, e)) (λ j n f. h (suc j) n f))

no-shape : (ms : List Member) (s : Sort) → s ≡ Plain (ty.Rec ms) → union_shape (tags_of (Some s)) ≡ shape.Plain
no-shape ms s e = ap (λ z. union_shape (tags_of (Some z))) e ∙ rw (out_rec ms) refl

a-shape : (ms : List Member) (s : Sort) → s ≡ Plain (ty.Uni ms) → union_shape (tags_of (Some s)) ≡ shape.Union
a-shape ms s e = ap (λ z. union_shape (tags_of (Some z))) e ∙ rw (out_uni ms) refl

-- what is known of the ports of a node that builds a record or union of this type
pub record IsFilledFor (k : Known) (s : Sort) (cs : List Carried) : Type 0 where
  pub fills : Fills (λ i. k.at (suc i)) cs
  -- a record has a port for each field, and at most so many
  pub all : (ms : List Member) → s ≡ Plain (ty.Rec ms) → (length cs ≡ length ms) × (length ms ≤ 4194304)
  -- a union has one filled port
  pub one : (ms : List Member) → s ≡ Plain (ty.Uni ms) → (i : ℕ) (t : Sort) → k.at (suc i) ≡ Some t → (j : ℕ) → j ≢ i → get_or cs j Unfilled ≡ Unfilled

module _ (k : Known) where
  record-built : (s : Sort) (cs : List Carried) → IsFilledFor k s cs → (ms : List Member) → s ≡ Plain (ty.Rec ms) → ((n : ℕ) → 1 ≤ n → n ≤ length ms → IsCarried (k.at n) (IsMember (Some ms) n)) → Belongs s (Value (op_value op.Record (vals cs)))
  record-built s cs f ms e h =
      by-row op.Record (map (λ m. m.1) ms) (ty.Rec ms) cs (row.a_record ms (f.all ms e).1) (fields-plain ms cs (f.all ms e).0 each) s e
    where
      below : (ms : List Member) (j : ℕ) (m : Member) → slice_get ms j ≡ Some m → j < length ms
      below [] j m e = absurd cc
      below (n ∷ ms) zero m e = omega arith
      below (n ∷ ms) (suc j) m e = let l = below ms j m e in omega (arith, l)

      member : (o : Option Sort) (j : ℕ) → IsCarried o (IsMember (Some ms) (suc j)) → (t : Sort) × (o ≡ Some t) × IsMember (Some ms) (suc j) t
      member None j h = absurd h
      member (Some t) j h = (t, refl, h)

      each : (j : ℕ) (m : Member) → slice_get ms j ≡ Some m → Belongs (Plain m.1) (get_or cs j Unfilled)
      each j m e =
          let b = below ms j m e in
          let r = member (k.at (suc j)) j (h (suc j) (omega arith) (omega (arith, b))) in
          at-type (get_or cs j Unfilled) r.0 (Plain m.1) (r.2.2 ∙ ap (λ (x : Member). Plain x.1) (same-member r.2.0 m (sym r.2.1 ∙ e))) (f.fills j r.0 r.1)
        where
          same-member : (x y : Member) → Some x ≡ Some y → x ≡ y
          same-member x y e = cc

  union-built : (s : Sort) (cs : List Carried) → IsFilledFor k s cs → (ms : List Member) (n : ℕ) → s ≡ Plain (ty.Uni ms) → IsCarried (k.at n) (IsMember (Some ms) n) → Belongs s (Value (union_of (filled_from 0 cs) (vals cs)))
  union-built s cs f ms n e h = go n (member (k.at n) h)
    where
      member : (o : Option Sort) → IsCarried o (IsMember (Some ms) n) → (t : Sort) × (o ≡ Some t) × IsMember (Some ms) n t
      member None h = absurd h
      member (Some t) h = (t, refl, h)

      go : (n : ℕ) → (t : Sort) × (k.at n ≡ Some t) × IsMember (Some ms) n t → Belongs s (Value (union_of (filled_from 0 cs) (vals cs)))
      go zero r = absurd (let x = r.2.1 in cc)
      go (suc i) r =
          let v = value-of (r.2.0).1 (get_or cs i Unfilled) (at-type (get_or cs i Unfilled) r.0 (Plain (r.2.0).1) r.2.2 (f.fills i r.0 r.1)) in
          let one = one-filled cs i v.value v.is (f.one ms e i r.0 r.1) 0 in
          let zero-plus : 0 + i ≡ i = omega arith in
          subst (λ ps. Belongs s (Value (union_of ps (vals cs)))) (sym one.0)
          (subst (λ vs. Belongs s (Value (union_of ((0 + i) ∷ []) vs))) (sym one.1)
          (subst (λ m. Belongs s (Value (val.Uni m v.value))) (sym zero-plus)
          (of-value (ty.Uni ms) s (val.Uni i v.value) e (union_well ms i r.2.0 v.value r.2.1 v.of))))

  pub built-right : (s : Sort) (cs : List Carried) → IsFilledFor k s cs → Fits k want.Built s → Belongs s (Value (built (union_shape (tags_of (Some s))) cs))
  built-right s cs f (inl x) = subst (λ p. Belongs s (Value (built p cs))) (sym (no-shape x.0 s x.1)) (record-built s cs f x.0 x.1 x.2)
  built-right s cs f (inr x) = subst (λ p. Belongs s (Value (built p cs))) (sym (a-shape x.0 s x.2)) (union-built s cs f x.0 x.1 x.2 x.3)

  -- ---- what is changed

  -- each is nothing, or belongs to the type of its field
  abbrev pub MayChange : ℕ → List Carried → Type 0
  MayChange i [] = Unit {0}
  MayChange i (c ∷ cs) = ((c ≡ Unfilled) ⊎ Operand k (suc (suc i)) (want.FieldOf (suc i)) c) × MayChange (suc i) cs

  pub record AreChanged (ms : List Member) (i : ℕ) (cs : List Carried) : Type 0 where
    pub types : List Ty
    pub fields : AreFields ms (filled_from i cs) types
    pub values : AreOf types (vals cs)

  changed : (ms : List Member) → fields_of (k.at 1) ≡ Some ms → (i : ℕ) (cs : List Carried) → MayChange i cs → AreChanged ms i cs
  changed ms e i [] h = record { types = []; fields = tt; values = tt }
  changed ms e i (c ∷ cs) h = go h.0 (changed ms e (suc i) cs h.1)
    where
      go : (c ≡ Unfilled) ⊎ Operand k (suc (suc i)) (want.FieldOf (suc i)) c → AreChanged ms (suc i) cs → AreChanged ms i (c ∷ cs)
      go (inl none) later = subst (λ z. AreChanged ms i (z ∷ cs)) (sym none) (record { types = later.types; fields = later.fields; values = later.values })
      go (inr x) later =
          let m = x.fits.0 in
          let found : slice_get ms i ≡ Some m = sym (ap (λ o. o >>= at_port (suc i)) e) ∙ x.fits.1 in
          let v = value-of m.1 c (plain-at x m.1 x.fits.2) in
          subst (λ z. AreChanged ms i (z ∷ cs)) (sym v.is) (record { types = m.1 ∷ later.types; fields = ((m.0, found), later.fields); values = (v.of, later.values) })

  pub changed-right : (x : Carried) (cs : List Carried) → Operand k 1 want.Record x → MayChange 0 cs → (s : Sort) → Fits k (want.Same 1) s → Belongs s (Value (replaced (x ∷ cs)))
  changed-right x cs a h s out =
      let ms = a.fits.0 in
      let known : fields_of (k.at 1) ≡ Some ms = ap fields_of a.known ∙ (ap (λ z. fields_of (Some z)) a.fits.1 ∙ rw (out_rec ms) refl) in
      let r = changed ms known 0 cs h in
      let v = value-of (ty.Rec ms) x (plain-at a (ty.Rec ms) a.fits.1) in
      subst (λ z. Belongs s (Value (replaced (z ∷ cs)))) (sym v.is)
      (of-value (ty.Rec ms) s _ (again (k.at 1) a.sort s a.known out.1 ∙ a.fits.1)
      (row_well (op.Change (filled_from 0 cs)) (ty.Rec ms ∷ r.types) (ty.Rec ms) (row.change ms (filled_from 0 cs) r.types r.fields) (v.value ∷ vals cs) (v.of, r.values)))
