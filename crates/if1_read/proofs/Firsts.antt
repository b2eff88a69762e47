-- The first of faults.
use Rattle.std.proofs.Common.{◌≡◌, ℕ, ◌<◌, ◌≤◌, Bool, true, false, ◌&&◌, ◌||◌, ltb, List, [], ◌∷◌, ◌++◌, Option, Some, None, ◌⊎◌, inl, inr, if◌then◌else◌, refl, sym, ap, subst, ◌∙◌, arith}
use Rattle.std.specs.Prelude.{Contains, nat_lt, ◌==◌}
use Rattle.std.proofs.lemmas.Bool.{ltb-true, ltb-false, eqb-true, eqb-false}
use Rattle.if1_read.specs.declared.fault.Kind.{Kind}
use Rattle.if1_read.specs.declared.fault.Kind.TheVariants.{Bad, Unknown, Real, TooMany}
use Rattle.if1_read.specs.declared.fault.Fault.{Fault}
use Rattle.if1_read.specs.Faults.{rank}
use Rattle.if1_read.specs.Least.{is_before, earlier_of, earlier, least, found, noted}
use Rattle.if1_read.proofs.Same.{contains_here, contains_later, contains_cases, contains_none}

-- the first one is not behind the second
abbrev pub NotAfter : Fault → Fault → Type 0
NotAfter f g = (f.line < g.line) ⊎ ((f.line ≡ g.line) × (rank f.kind ≤ rank g.kind))

before_if : (a b c : Bool) (f g : Fault) → nat_lt f.line g.line ≡ a → (f.line == g.line) ≡ b → nat_lt (rank f.kind) (rank g.kind) ≡ c → (a || (b && c)) ≡ true → NotAfter f g
before_if true b c f g e h k s = inl (ltb-true f.line g.line e)
before_if false true true f g e h k s = inr (eqb-true f.line g.line h, omega (arith, ltb-true (rank f.kind) (rank g.kind) k))
before_if false true false f g e h k s = absurd cc
before_if false false c f g e h k s = absurd cc

not_if : (a b c : Bool) (f g : Fault) → nat_lt f.line g.line ≡ a → (f.line == g.line) ≡ b → nat_lt (rank f.kind) (rank g.kind) ≡ c → (a || (b && c)) ≡ false → NotAfter g f
not_if true b c f g e h k s = absurd cc
not_if false true true f g e h k s = absurd cc
not_if false true false f g e h k s = inr (sym (eqb-true f.line g.line h), ltb-false (rank f.kind) (rank g.kind) k)
not_if false false c f g e h k s =
    let le = ltb-false f.line g.line e in
    let ne = eqb-false f.line g.line h in
    inl (omega (arith, le, ne))

is_first : (f g : Fault) → is_before f g ≡ true → NotAfter f g
is_first f g e = before_if (nat_lt f.line g.line) (f.line == g.line) (nat_lt (rank f.kind) (rank g.kind)) f g refl refl refl e

is_not : (f g : Fault) → is_before f g ≡ false → NotAfter g f
is_not f g e = not_if (nat_lt f.line g.line) (f.line == g.line) (nat_lt (rank f.kind) (rank g.kind)) f g refl refl refl e

pub not_after : (f g h : Fault) → NotAfter f g → NotAfter g h → NotAfter f h
not_after f g h (inl a) (inl b) = inl (omega (arith, a, b))
not_after f g h (inl a) (inr b) = inl (omega (arith, a, b.0))
not_after f g h (inr a) (inl b) = inl (omega (arith, a.0, b))
not_after f g h (inr a) (inr b) = inr (a.0 ∙ b.0, omega (arith, a.1, b.1))

pub itself : (f : Fault) → NotAfter f f
itself f = inr (refl, omega arith)

-- ---- of two

record Chosen (f g h : Fault) : Type 0 where
  one : (h ≡ f) ⊎ (h ≡ g)
  first : NotAfter h f
  second : NotAfter h g

chosen_if : (b : Bool) (f g : Fault) → is_before g f ≡ b → Chosen f g (if b then g else f)
chosen_if true f g e = record { one = inr refl; first = is_first g f e; second = itself g }
chosen_if false f g e = record { one = inl refl; first = itself f; second = is_not g f e }

chosen : (f g : Fault) → Chosen f g (earlier_of f g)
chosen f g = chosen_if (is_before g f) f g refl

-- ---- of a list

pub record IsLeast (fs : List Fault) (f : Fault) : Type 0 where
  pub among : Contains fs f
  pub first : (g : Fault) → Contains fs g → NotAfter f g

least_if : (f : Fault) (fs : List Fault) (o : Option Fault) → least fs ≡ o → (o ≡ None → fs ≡ []) → ((g : Fault) → o ≡ Some g → IsLeast fs g) → (h : Fault) → earlier (Some f) o ≡ Some h → IsLeast (f ∷ fs) h
least_if f fs None e none some h s =
    let same : f ≡ h = cc in
    let empty = none refl in
    subst (IsLeast (f ∷ fs)) same (record {
      among = contains_here f fs;
      first = λ g c. elim (contains_cases f fs g c) [
        | inl t ↦ subst (NotAfter f) t (itself f)
        | inr d ↦ absurd (contains_none g (subst (λ (xs : List Fault). Contains xs g) empty d))
      ];
    })
least_if f fs (Some m) e none some h s =
    let same : earlier_of f m ≡ h = cc in
    let c = chosen f m in
    let rest = some m refl in
    subst (IsLeast (f ∷ fs)) same (record {
      among = elim c.one [
        | inl t ↦ subst (Contains (f ∷ fs)) (sym t) (contains_here f fs)
        | inr t ↦ subst (Contains (f ∷ fs)) (sym t) (contains_later f fs m rest.among)
      ];
      first = λ g d. elim (contains_cases f fs g d) [
        | inl t ↦ subst (NotAfter (earlier_of f m)) t c.first
        | inr t ↦ not_after (earlier_of f m) m g c.second (rest.first g t)
      ];
    })

some_earlier : (f : Fault) (o : Option Fault) → earlier (Some f) o ≡ None → ⊥
some_earlier f None e = cc
some_earlier f (Some g) e = cc

pub least_none : (fs : List Fault) → least fs ≡ None → fs ≡ []
least_none [] e = refl
least_none (f ∷ fs) e = absurd (some_earlier f (least fs) e)

pub least_is : (fs : List Fault) (h : Fault) → least fs ≡ Some h → IsLeast fs h
least_is [] h e = absurd cc
least_is (f ∷ fs) h e = least_if f fs (least fs) refl (least_none fs) (λ g s. least_is fs g s) h e

-- ---- the same faults have one first

same_rank : (j k : Kind) → rank j ≡ rank k → j ≡ k
same_rank Bad Bad e = refl
same_rank Unknown Unknown e = refl
same_rank Real Real e = refl
same_rank TooMany TooMany e = refl
same_rank j k e = absurd (omega (arith, e))

both_first : (f g : Fault) → NotAfter f g → NotAfter g f → f ≡ g
both_first f g (inl a) (inl b) = absurd (omega (arith, a, b))
both_first f g (inl a) (inr b) = absurd (omega (arith, a, b.0))
both_first f g (inr a) (inl b) = absurd (omega (arith, a.0, b))
both_first f g (inr a) (inr b) =
    let line = a.0 in
    let kind = same_rank f.kind g.kind (omega (arith, a.1, b.1)) in
    λ i. record { line = line i; kind = kind i }

abbrev pub AreIn : List Fault → List Fault → Type 0
AreIn fs gs = (f : Fault) → Contains fs f → Contains gs f

same_if : (fs gs : List Fault) (o p : Option Fault) → least fs ≡ o → least gs ≡ p → AreIn fs gs → AreIn gs fs → o ≡ p
same_if fs gs None None e h a b = refl
same_if fs gs None (Some g) e h a b =
    absurd (contains_none g (subst (λ (xs : List Fault). Contains xs g) (least_none fs e) (b g (least_is gs g h).among)))
same_if fs gs (Some f) None e h a b =
    absurd (contains_none f (subst (λ (xs : List Fault). Contains xs f) (least_none gs h) (a f (least_is fs f e).among)))
same_if fs gs (Some f) (Some g) e h a b =
    let x = least_is fs f e in
    let y = least_is gs g h in
    ap Some (both_first f g (x.first g (b g y.among)) (y.first f (a f x.among)))

pub same_least : (fs gs : List Fault) → AreIn fs gs → AreIn gs fs → least fs ≡ least gs
same_least fs gs a b = same_if fs gs (least fs) (least gs) refl refl a b

-- ---- one after another

three_first : (f g h : Fault) → earlier_of f (earlier_of g h) ≡ earlier_of (earlier_of f g) h
three_first f g h =
    let a = chosen f (earlier_of g h) in
    let b = chosen g h in
    let c = chosen (earlier_of f g) h in
    let d = chosen f g in
    let x = earlier_of f (earlier_of g h) in
    let y = earlier_of (earlier_of f g) h in
    let to_g = not_after x (earlier_of g h) g a.second b.first in
    let to_h = not_after x (earlier_of g h) h a.second b.second in
    let from_f = not_after y (earlier_of f g) f c.first d.first in
    let from_g = not_after y (earlier_of f g) g c.first d.second in
    let forth : NotAfter x y = elim c.one [
      | inl e ↦ subst (NotAfter x) (sym e) (elim d.one [ inl t ↦ subst (NotAfter x) (sym t) a.first | inr t ↦ subst (NotAfter x) (sym t) to_g ])
      | inr e ↦ subst (NotAfter x) (sym e) to_h
    ] in
    let back : NotAfter y x = elim a.one [
      | inl e ↦ subst (NotAfter y) (sym e) from_f
      | inr e ↦ subst (NotAfter y) (sym e) (elim b.one [ inl t ↦ subst (NotAfter y) (sym t) from_g | inr t ↦ subst (NotAfter y) (sym t) c.second ])
    ] in
    both_first x y forth back

pub earlier_assoc : (a b c : Option Fault) → earlier a (earlier b c) ≡ earlier (earlier a b) c
earlier_assoc None b c = refl
earlier_assoc (Some f) None c = refl
earlier_assoc (Some f) (Some g) None = refl
earlier_assoc (Some f) (Some g) (Some h) = ap Some (three_first f g h)

pub earlier_none : (a : Option Fault) → earlier a None ≡ a
earlier_none None = refl
earlier_none (Some f) = refl

pub least_append : (fs gs : List Fault) → least (fs ++ gs) ≡ earlier (least fs) (least gs)
least_append [] gs = refl
least_append (f ∷ fs) gs = ap (earlier (Some f)) (least_append fs gs) ∙ earlier_assoc (Some f) (least fs) (least gs)

pub least_noted : (n : ℕ) (o : Option Kind) → least (noted n o) ≡ found n o
least_noted n None = refl
least_noted n (Some k) = refl

-- what is found later, behind what was found
pub first_then : (first : Option Fault) (fs gs : List Fault) → earlier (earlier first (least fs)) (least gs) ≡ earlier first (least (fs ++ gs))
first_then first fs gs = sym (earlier_assoc first (least fs) (least gs)) ∙ ap (earlier first) (sym (least_append fs gs))
