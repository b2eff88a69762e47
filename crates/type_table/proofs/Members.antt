-- The first member of a name.
use Rattle.std.proofs.Common.{◌≡◌, ℕ, ◌+◌, ◌<◌, ◌≢◌, length, get_or, drop, drop-cons, add-one, zero, suc, Bool, true, false, ◌&&◌, cond, nat_eq, ◌⊎◌, inl, inr, List, [], ◌∷◌, slice_get, Option, Some, None, IfSome, refl, sym, ap, ◌∙◌, subst, arith, if◌then◌else◌}
use Rattle.std.proofs.lemmas.Bool.Decides.{eqb_tells}
use Rattle.std.proofs.lemmas.Bool.{eq-eqb}
use Rattle.std.proofs.lemmas.Option.{same_Some, none-some}
use Rattle.std.specs.HashMap.{HashMap, Updates}
use Rattle.type_table.specs.declared.form.Form.{Form}
use Rattle.type_table.specs.declared.form.Member.{Member}
use Rattle.type_table.specs.Forms.{first_member, members_of}
use Rattle.type_table.specs.Tables.{members_at, member_at}
use Rattle.type_table.specs.Kept.{place_of, pair_eq, named_at}

-- the first member of a name has it, at the place that is told
pub record IsMember (name at : ℕ) (ms : List Member) (r : ℕ × ℕ) : Type 0 where
  pub i : ℕ
  pub member : Member
  pub place : r.0 ≡ at + i
  pub is : slice_get ms i ≡ Some member
  pub named : member.name ≡ name
  pub typed : member.ty ≡ r.1

pub is_member : (name at : ℕ) (ms : List Member) (r : ℕ × ℕ) → first_member name at ms ≡ Some r → IsMember name at ms r
is_member name at [] r h = cc
is_member name at (m ∷ ms) r h = elim (eqb_tells name m.name) [
  | inl same ↦
      let e : Some (at, m.ty) ≡ Some r = sym (ap (λ b. if b then Some (at, m.ty) else first_member name (at + 1) ms) same.0) ∙ h in
      let q = same_Some (at, m.ty) r e in
      record { i = 0; member = m; place = sym (ap (λ p. p.0) q) ∙ omega arith; is = refl; named = sym same.1; typed = ap (λ p. p.1) q }
  | inr other ↦
      let e : first_member name (at + 1) ms ≡ Some r = sym (ap (λ b. if b then Some (at, m.ty) else first_member name (at + 1) ms) other.0) ∙ h in
      let q = is_member name (at + 1) ms r e in
      record { i = suc q.i; member = q.member; place = omega (arith, q.place); is = q.is; named = q.named; typed = q.typed }
]

abbrev pub IsNoted : Option ℕ → Option (ℕ × ℕ) → Type 0
IsNoted place o = IfSome o (λ m. place ≡ Some m.0)

-- a name that a member has is found
pub is_named : (name at : ℕ) (ms : List Member) (i : ℕ) (m : Member) → slice_get ms i ≡ Some m → m.name ≡ name → (r : ℕ × ℕ) × (first_member name at ms ≡ Some r)
is_named name at [] i m h n = cc
is_named name at (x ∷ ms) zero m h n =
    let e : nat_eq name x.name ≡ true = eq-eqb name x.name (sym n ∙ ap (λ m. m.name) (sym (same_Some x m h))) in
    ((at, x.ty), ap (λ b. if b then Some (at, x.ty) else first_member name (at + 1) ms) e)
is_named name at (x ∷ ms) (suc i) m h n = elim (eqb_tells name x.name) [
  | inl same ↦ ((at, x.ty), ap (λ b. if b then Some (at, x.ty) else first_member name (at + 1) ms) same.0)
  | inr other ↦
      let q = is_named name (at + 1) ms i m h n in
      (q.0, ap (λ b. if b then Some (at, x.ty) else first_member name (at + 1) ms) other.0 ∙ q.1)
]

-- where the place that is noted has a member of the name, it is the first one; where it has none, there is none
pub named_first : (name p : ℕ) (ms : List Member) (place : Option ℕ) → IsNoted place (first_member name 0 ms) → place ≡ Some p → named_at ms p name ≡ first_member name 0 ms
named_first name p ms place noted h = by (slice_get ms p) refl
  where
    absent : ((m : Member) → slice_get ms p ≡ Some m → m.name ≢ name) → (o : Option (ℕ × ℕ)) → first_member name 0 ms ≡ o → IsNoted place o → None ≡ o
    absent other None e noted = refl
    absent other (Some r) e noted =
        let q = is_member name 0 ms r e in
        let same : r.0 ≡ p = same_Some r.0 p (sym noted ∙ h) in
        let at : q.i ≡ p = omega (arith, q.place, same) in
        absurd (other q.member (sym (ap (slice_get ms) at) ∙ q.is) q.named)

    first : (m : Member) → slice_get ms p ≡ Some m → m.name ≡ name → Some (p, m.ty) ≡ first_member name 0 ms
    first m is n =
        let r = is_named name 0 ms p m is n in
        let q = is_member name 0 ms r.0 r.1 in
        let there : place ≡ Some r.0.0 = subst (IsNoted place) r.1 noted in
        let same : r.0.0 ≡ p = same_Some r.0.0 p (sym there ∙ h) in
        let at : q.i ≡ p = omega (arith, q.place, same) in
        let one : q.member ≡ m = same_Some q.member m (sym q.is ∙ ap (slice_get ms) at ∙ is) in
        let ty : r.0.1 ≡ m.ty = sym q.typed ∙ ap (λ m. m.ty) one in
        let both : ◌≡◌ {A = ℕ × ℕ} r.0 (p, m.ty) = λ j. (same j, ty j) in
        sym (r.1 ∙ ap Some both)

    by : (o : Option Member) → slice_get ms p ≡ o → (elim o [ None ↦ None | Some m ↦ if nat_eq m.name name then Some (p, m.ty) else None ]) ≡ first_member name 0 ms
    by None e = absent (λ m is. absurd (none-some m (sym e ∙ is))) (first_member name 0 ms) refl noted
    by (Some m) e = elim (eqb_tells m.name name) [
      | inl same ↦ ap (λ b. if b then Some (p, m.ty) else None) same.0 ∙ first m e same.1
      | inr other ↦
          ap (λ b. if b then Some (p, m.ty) else None) other.0
          ∙ absent (λ n is h. other.1 (ap (λ m. m.name) (same_Some m n (sym e ∙ is)) ∙ h)) (first_member name 0 ms) refl noted
    ]

module _ {S : Type 0} (old new : HashMap (ℕ × ℕ) ℕ S) (ty key at : ℕ) (u : Updates pair_eq old new (ty, key) (Some at)) where
  pub noted_here : (name : ℕ) → nat_eq key name ≡ true → place_of new ty name ≡ Some at
  noted_here name e = u.0 (ty, name) ∙ ap (λ b. cond b (Some at) (place_of old ty name)) (ap (λ a. a && nat_eq key name) (eq-eqb ty ty refl) ∙ e)

  pub noted_before : (name : ℕ) → nat_eq key name ≡ false → place_of new ty name ≡ place_of old ty name
  noted_before name e = u.0 (ty, name) ∙ ap (λ b. cond b (Some at) (place_of old ty name)) (ap (λ a. a && nat_eq key name) (eq-eqb ty ty refl) ∙ e)

  pub noted_elsewhere : (k name : ℕ) → k ≢ ty → place_of new k name ≡ place_of old k name
  noted_elsewhere k name ne = elim (eqb_tells ty k) [
    | inl same ↦ absurd (ne (sym same.1))
    | inr other ↦ u.0 (k, name) ∙ ap (λ b. cond b (Some at) (place_of old k name)) (ap (λ a. a && nat_eq key name) other.0)
  ]

-- one member more, at the front
pub noted_more : {S : Type 0} (old new : HashMap (ℕ × ℕ) ℕ S) (ty at : ℕ) (m : Member) (ms : List Member) → Updates pair_eq old new (ty, m.name) (Some at)
    → ((name : ℕ) → IsNoted (place_of old ty name) (first_member name (at + 1) ms)) → (name : ℕ) → IsNoted (place_of new ty name) (first_member name at (m ∷ ms))
noted_more old new ty at m ms u before name = elim (eqb_tells name m.name) [
  | inl same ↦
      subst (IsNoted (place_of new ty name)) (sym (ap (λ b. if b then Some (at, m.ty) else first_member name (at + 1) ms) same.0))
      (noted_here old new ty m.name at u name (eq-eqb m.name name (sym same.1)))
  | inr other ↦
      subst (IsNoted (place_of new ty name)) (sym (ap (λ b. if b then Some (at, m.ty) else first_member name (at + 1) ms) other.0))
      (subst (λ o. IsNoted o (first_member name (at + 1) ms)) (sym (noted_before old new ty m.name at u name (turned (eqb_tells m.name name) other.1))) (before name))
]
  where
    turned : ((nat_eq m.name name ≡ true) × (m.name ≡ name)) ⊎ ((nat_eq m.name name ≡ false) × (m.name ≢ name)) → name ≢ m.name → nat_eq m.name name ≡ false
    turned (inl same) ne = absurd (ne (sym same.1))
    turned (inr other) ne = other.0

-- and so from place to place
pub noted_step : {S : Type 0} (old new : HashMap (ℕ × ℕ) ℕ S) (ty at n p : ℕ) (ms : List Member) (d : Member) → n ≡ at + 1 → p ≡ at → at < length ms
    → Updates pair_eq old new (ty, (get_or ms at d).name) (Some p)
    → ((name : ℕ) → IsNoted (place_of old ty name) (first_member name n (drop n ms))) → (name : ℕ) → IsNoted (place_of new ty name) (first_member name at (drop at ms))
noted_step old new ty at n p ms d next same within u before name =
    let m = get_or ms at d in
    let u : Updates pair_eq old new (ty, m.name) (Some at) = subst (λ p. Updates pair_eq old new (ty, m.name) (Some p)) same u in
    let cut : drop at ms ≡ m ∷ drop (at + 1) ms = drop-cons ms at d within ∙ ap (λ k. m ∷ drop k ms) (sym (add-one at)) in
    let before : (name : ℕ) → IsNoted (place_of old ty name) (first_member name (at + 1) (drop (at + 1) ms)) =
    subst (λ n. (name : ℕ) → IsNoted (place_of old ty name) (first_member name n (drop n ms))) next before in
    subst (λ ms. IsNoted (place_of new ty name) (first_member name at ms)) (sym cut) (noted_more old new ty at m (drop (at + 1) ms) u before name)
