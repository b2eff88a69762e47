-- Names of types with their numbers and with their types.
use Rattle.std.proofs.Common.{◌≡◌, ℕ, Bool, true, false, List, [], ◌∷◌, Option, Some, None, nat_eq, refl, subst, if◌then◌else◌}
use Rattle.name_scope.specs.Newest.{newest}
use Rattle.flow_value.specs.declared.ty.Ty.{Ty}
use Rattle.type_table.specs.declared.form.Form.{Form}
use Rattle.typed_tree.specs.Types.{IsNumber}
use Rattle.unit_types.specs.Rests.{AreKnown}

-- the type of a name with a number
pub known_newest : (forms : List Form) (spellings : List (List ℕ)) (x k : ℕ) (ns : List (ℕ × ℕ)) (ts : List (ℕ × Ty)) → AreKnown forms spellings ns ts → newest x ns ≡ Some k
    → (a : Ty) × (newest x ts ≡ Some a) × IsNumber forms spellings k a
known_newest forms spellings x k [] [] h e = cc
known_newest forms spellings x k [] (t ∷ ts) h e = absurd h
known_newest forms spellings x k (n ∷ ns) [] h e = absurd h
known_newest forms spellings x k (n ∷ ns) (t ∷ ts) h e =
    subst (λ y. (a : Ty) × ((if nat_eq x y then Some t.1 else newest x ts) ≡ Some a) × IsNumber forms spellings k a) h.0 (by (nat_eq x n.0) e (known_newest forms spellings x k ns ts h.2))
  where
    by : (b : Bool) → (if b then Some n.1 else newest x ns) ≡ Some k → (newest x ns ≡ Some k → (a : Ty) × (newest x ts ≡ Some a) × IsNumber forms spellings k a)
        → (a : Ty) × ((if b then Some t.1 else newest x ts) ≡ Some a) × IsNumber forms spellings k a
    by true e rest = let q : n.1 ≡ k = cc in (t.1, refl, subst (λ m. IsNumber forms spellings m t.1) q h.1)
    by false e rest = rest e

-- a name without a number has no type
pub none_known : (forms : List Form) (sp : List (List ℕ)) (x : ℕ) (ns : List (ℕ × ℕ)) (ts : List (ℕ × Ty)) → AreKnown forms sp ns ts → newest x ns ≡ None → newest x ts ≡ None
none_known forms sp x [] [] h e = refl
none_known forms sp x [] (t ∷ ts) h e = absurd h
none_known forms sp x (n ∷ ns) [] h e = absurd h
none_known forms sp x (n ∷ ns) (t ∷ ts) h e = subst (λ y. (if nat_eq x y then Some t.1 else newest x ts) ≡ None) h.0 (by (nat_eq x n.0) e (none_known forms sp x ns ts h.2))
  where
    by : (b : Bool) → (if b then Some n.1 else newest x ns) ≡ None → (newest x ns ≡ None → newest x ts ≡ None) → (if b then Some t.1 else newest x ts) ≡ None
    by true e rest = cc
    by false e rest = rest e

-- and one with a number has one
pub some_known : (forms : List Form) (sp : List (List ℕ)) (x : ℕ) (ns : List (ℕ × ℕ)) (ts : List (ℕ × Ty)) → AreKnown forms sp ns ts → (newest x ns ≡ None → ⊥) → (a : Ty) × (newest x ts ≡ Some a)
some_known forms sp x ns ts h there = by (newest x ns) refl there
  where
    by : (o : Option ℕ) → newest x ns ≡ o → (o ≡ None → ⊥) → (a : Ty) × (newest x ts ≡ Some a)
    by None e there = absurd (there refl)
    by (Some k) e there = let a : (a : Ty) × (newest x ts ≡ Some a) × IsNumber forms sp k a = known_newest forms sp x k ns ts h e in (a.0, a.1)
