-- The ends of lists and their members.
use Rattle.std.proofs.Common.{◌≡◌, ℕ, zero, suc, ◌+◌, ◌-◌, ◌<◌, ◌≤◌, ◌⊎◌, inl, inr, Bool, true, false, nat_eq, ◌==◌, List, [], ◌∷◌, ◌++◌, length, Option, Some, None, if◌then◌else◌, refl, sym, ap, ◌∙◌, subst, arith, IsSome, true≢false, eqb-true, ne_eqb}
use Rattle.std.proofs.lemmas.Bool.{eq-eqb}
use Rattle.type_table.proofs.Lists.{IsEarlier, IsLast, which}
use Rattle.if1_graph.specs.Tables.{◌>>=◌, beside}
use Rattle.if1_types.specs.declared.kind.Kind.{Kind}
use Rattle.if1_types.specs.declared.kind.Kind.TheVariants as shape
use Rattle.if1_types.specs.declared.forms.ListForm.{ListForm}
use Rattle.if1_types.specs.declared.forms.ListForm.TheVariants as list
use Rattle.if1_types.specs.Shapes.{Key, members_in, key_at, HasKeys, IsKeyOf}
use Rattle.if1_types.specs.Forms.{list_form_of, list_form, list_form_at}
use Rattle.if1_types.specs.Skips.{first_in, rest_in, member_at, members_at, members_by, behind, end_at, AreCountedBy, IsFurther, AreFurther}

-- whether a number is that of members, and the form of the list
pub list_of_kind : (k first second : ℕ) → list_form k first second ≡ (if nat_eq k 9 then list.Member first second else list.End)
list_of_kind k first second = by (nat_eq k 9) refl
  where
    other : (b : Bool) (kind : Kind) (o : Option Kind) → list_form_of (Some kind) first second ≡ list.End → list_form_of o first second ≡ list.End →
        list_form_of (if b then Some kind else o) first second ≡ list.End
    other true kind o h i = h
    other false kind o h i = i

    differs : nat_eq k 9 ≡ false → 9 ≡ k → ⊥
    differs h e = true≢false (sym (eq-eqb k 9 (sym e)) ∙ h)

    by : (b : Bool) → nat_eq k 9 ≡ b → list_form k first second ≡ (if b then list.Member first second else list.End)
    by true h = ap (λ k. list_form k first second) (eqb-true k 9 h)
    by false h =
        other (0 == k) shape.Boolean _ refl
        (other (1 == k) shape.Character _ refl
        (other (2 == k) shape.Integer _ refl
        (other (3 == k) shape.Null _ refl
        (other (4 == k) shape.Array _ refl
        (other (5 == k) shape.Stream _ refl
        (other (6 == k) shape.Record _ refl
        (other (7 == k) shape.Union _ refl
        (other (8 == k) shape.End _ refl
        (ap (λ b. list_form_of (if b then Some shape.Member else beside k after) first second) (ne_eqb 9 k (differs h))
        ∙ other (10 == k) shape.Value _ refl (other (11 == k) shape.Multiple _ refl (other (12 == k) shape.Function _ refl refl)))))))))))
      where
        after : List (ℕ × Kind)
        after = (10, shape.Value) ∷ (11, shape.Multiple) ∷ (12, shape.Function) ∷ []

module _ (ks : List Key) where
  pub are_told : HasKeys ks → AreCountedBy ks
  are_told keys l = by (key_at ks l) (keys l)
    where
      split : (k : Key) (b : Bool) → nat_eq k.0 9 ≡ b → (if nat_eq k.0 9 then suc (members_at ks k.2) else 0) ≡ members_by ks (list_form k.0 k.1 k.2)
      split k true h =
          ap (λ b. if b then suc (members_at ks k.2) else 0) h
          ∙ sym (ap (members_by ks) (list_of_kind k.0 k.1 k.2) ∙ ap (λ b. members_by ks (if b then list.Member k.1 k.2 else list.End)) h)
      split k false h =
          ap (λ b. if b then suc (members_at ks k.2) else 0) h
          ∙ sym (ap (members_by ks) (list_of_kind k.0 k.1 k.2) ∙ ap (λ b. members_by ks (if b then list.Member k.1 k.2 else list.End)) h)

      by : (o : Option Key) → IsKeyOf ks l o → members_at ks l ≡ members_by ks (elim o [ None ↦ list.End | Some k ↦ list_form k.0 k.1 k.2 ])
      by None h = ap members_in h
      by (Some k) h = ap members_in h.0 ∙ split k (nat_eq k.0 9) refl

  behind_members : AreCountedBy ks → (l d : ℕ) → members_at ks (behind (list_form_at ks l)) - d ≡ members_at ks l - suc d
  behind_members told l d = by (list_form_at ks l) (told l)
    where
      by : (f : ListForm) → members_at ks l ≡ members_by ks f → members_at ks (behind f) - d ≡ members_at ks l - suc d
      by (list.Member k r) h = omega (arith, h)
      by list.End h = let none : members_at ks 0 ≡ 0 = refl in omega (arith, h, none)

  pub end_members : AreCountedBy ks → (d l : ℕ) → members_at ks (end_at ks d l) ≡ members_at ks l - d
  end_members told zero l = omega arith
  end_members told (suc d) l = end_members told d (behind (list_form_at ks l)) ∙ behind_members told l d

  pub end_then : (e d l : ℕ) → end_at ks d (end_at ks e l) ≡ end_at ks (e + d) l
  end_then zero d l = let s : d ≡ zero + d = omega arith in ap (λ n. end_at ks n l) s
  end_then (suc e) d l = end_then e d (behind (list_form_at ks l)) ∙ (let s : suc (e + d) ≡ suc e + d = omega arith in ap (λ n. end_at ks n l) s)

  none_behind : (d : ℕ) → end_at ks d 0 ≡ 0
  none_behind zero = refl
  none_behind (suc d) = none_behind d

  pub member_end : (i l : ℕ) → member_at ks l i ≡ first_in (list_form_at ks (end_at ks i l))
  member_end zero l = refl
  member_end (suc i) l = by (member_end i) (list_form_at ks l)
    where
      by : ((r : ℕ) → member_at ks r i ≡ first_in (list_form_at ks (end_at ks i r))) → (f : ListForm) →
          (rest_in f >>= λ rest. member_at ks rest i) ≡ first_in (list_form_at ks (end_at ks i (behind f)))
      by more (list.Member k r) = more r
      by more list.End = sym (ap (λ n. first_in (list_form_at ks n)) (none_behind i))

  pub no_member : AreCountedBy ks → (l i : ℕ) → members_at ks l ≤ i → member_at ks l i ≡ None
  no_member told l i h =
      member_end i l ∙ by (list_form_at ks (end_at ks i l)) (told (end_at ks i l)) (end_members told i l)
    where
      by : (f : ListForm) → members_at ks (end_at ks i l) ≡ members_by ks f → members_at ks (end_at ks i l) ≡ members_at ks l - i → first_in f ≡ None
      by (list.Member k r) is left = absurd (omega (arith, is, left, h))
      by list.End is left = refl

  pub some_member : AreCountedBy ks → (l i : ℕ) → IsSome (member_at ks l i) → i < members_at ks l
  some_member told l i h = by (nat_le_or (members_at ks l) i)
    where
      nat_le_or : (a b : ℕ) → (a ≤ b) ⊎ (b < a)
      nat_le_or a b = grind arith

      by : (members_at ks l ≤ i) ⊎ (i < members_at ks l) → i < members_at ks l
      by (inl x) = absurd (true≢false (sym (subst (λ o. IsSome o) (no_member told l i x) h)))
      by (inr x) = x

  pub behind_less : AreCountedBy ks → (l : ℕ) → 0 < members_at ks l → members_at ks l ≡ suc (members_at ks (behind (list_form_at ks l)))
  behind_less told l h = by (list_form_at ks l) (told l)
    where
      by : (f : ListForm) → members_at ks l ≡ members_by ks f → members_at ks l ≡ suc (members_at ks (behind f))
      by (list.Member k r) is = is
      by list.End is = absurd (omega (arith, is, h))

  pub behind_further : AreCountedBy ks → (l : ℕ) → IsFurther ks l (behind (list_form_at ks l))
  behind_further told l h =
      let less = behind_less told l h in
      let one : 1 ≡ members_at ks l - members_at ks (behind (list_form_at ks l)) = omega (arith, less) in
      (ap (λ d. end_at ks d l) one, omega (arith, less))

  -- an end of an end
  further_on : (l m n : ℕ) → m ≡ end_at ks (members_at ks l - members_at ks m) l → members_at ks m ≤ members_at ks l
      → n ≡ end_at ks (members_at ks m - members_at ks n) m → members_at ks n ≤ members_at ks m
      → n ≡ end_at ks (members_at ks l - members_at ks n) l
  further_on l m n a b c d =
      let sum : (members_at ks l - members_at ks m) + (members_at ks m - members_at ks n) ≡ members_at ks l - members_at ks n = omega (arith, b, d) in
      c ∙ ap (end_at ks (members_at ks m - members_at ks n)) a ∙ end_then (members_at ks l - members_at ks m) (members_at ks m - members_at ks n) l
      ∙ ap (λ d. end_at ks d l) sum

  some_or_none : (n : ℕ) → (0 < n) ⊎ (n ≡ 0)
  some_or_none n = grind arith

  -- what is further on from an end that is further on; past the members there is nothing more to say
  pub further_then : (l m n : ℕ) → IsFurther ks l m → (0 < members_at ks m → IsFurther ks m n) → 0 < members_at ks m → IsFurther ks l n
  further_then l m n f g some h =
      let x = f h in
      let y = g some some in
      (further_on l m n x.0 (omega (arith, x.1)) y.0 (omega (arith, y.1)), omega (arith, x.1, y.1))

  pub behind_left : AreCountedBy ks → (l left : ℕ) → left < members_at ks l → left ≤ members_at ks (behind (list_form_at ks l))
  behind_left told l left h = let m = behind_less told l (omega (arith, h)) in omega (arith, m, h)

  -- one step along the way to an end
  pub goes_on : (l at next : ℕ) → at ≡ end_at ks (members_at ks l - members_at ks at) l → members_at ks at ≤ members_at ks l → 0 < members_at ks at → IsFurther ks at next
      → (next ≡ end_at ks (members_at ks l - members_at ks next) l) × (members_at ks next < members_at ks at)
  goes_on l at next is within some f =
      let x = f some in
      (further_on l at next is within x.0 (omega (arith, x.1)), x.1)

  -- the ends of lists with one more
  pub further_more : (ss : List ℕ) (n : ℕ) → AreFurther ks ss → IsFurther ks (length ss) n → AreFurther ks (ss ++ n ∷ [])
  further_more ss n are is l m h = by (which ss n l m h)
    where
      by : IsEarlier ss l m ⊎ IsLast ss n l m → IsFurther ks l m
      by (inl x) = are l m x.is
      by (inr x) = subst (λ m. IsFurther ks l m) x.is (subst (λ l. IsFurther ks l n) (sym x.place) is)
