-- The type of a name among the first definitions.
use Rattle.std.proofs.Common.{◌≡◌, ℕ, suc, ◌-◌, ◌<◌, ◌≤◌, Bool, true, false, List, [], ◌∷◌, length, drop, Option, Some, None, option_map, nat_eq, nat_lt, if◌then◌else◌, refl, sym, ap, is_some, ◌∙◌, arith}
use Rattle.std.proofs.Math.Seq.{drop-nil}
use Rattle.std.proofs.lemmas.Bool.Decides.{nat_tests}
use Rattle.name_scope.specs.Newest.{newest}
use Rattle.unit_types.specs.declared.type_names.Definition.{Definition}
use Rattle.unit_types.specs.Placing.{plain, IsPlaced, known_type, known_in}

pub newest_plain : (x : ℕ) (ds : List (ℕ × Definition)) → newest x (plain ds) ≡ option_map (λ d. d.ty) (newest x ds)
newest_plain x [] = refl
newest_plain x (d ∷ ds) = by (nat_eq x d.0) (newest_plain x ds)
  where
    by : (b : Bool) → newest x (plain ds) ≡ option_map (λ e. e.ty) (newest x ds)
        → (if b then Some d.1.ty else newest x (plain ds)) ≡ option_map (λ e. e.ty) (if b then Some d.1 else newest x ds)
    by true e = refl
    by false e = e

is_known : (d : Definition) (known : ℕ) → d.place < known → known_type d known ≡ Some d.ty
is_known d known h = grind (arith, nat_tests)

is_unknown : (d : Definition) (known : ℕ) → known ≤ d.place → known_type d known ≡ None
is_unknown d known h = grind (arith, nat_tests)

same_known : (b : Bool) (d : Definition) (known : ℕ) (o : Option Definition) (p : Option ℕ) → d.place < known → known_in o known ≡ p
    → known_in (if b then Some d else o) known ≡ (if b then Some d.ty else p)
same_known true d known o p h e = is_known d known h
same_known false d known o p h e = e

all_known : (x known : ℕ) (ds : List (ℕ × Definition)) → IsPlaced ds → length (plain ds) ≤ known → known_in (newest x ds) known ≡ newest x (plain ds)
all_known x known [] h le = refl
all_known x known (d ∷ ds) h le =
    let below : d.1.place < known = omega (arith, h.0) in
    same_known (nat_eq x d.0) d.1 known (newest x ds) (newest x (plain ds)) below (all_known x known ds h.2 (omega arith))

later_unknown : (b : Bool) (x : ℕ) (d : ℕ × Definition) (known : ℕ) (o : Option Definition) (p : Option ℕ) → (b ≡ true → x ≡ d.0) → known ≤ d.1.place
    → (x ≡ d.0 → o ≡ None) → known_in o known ≡ p → known_in (if b then Some d.1 else o) known ≡ p
later_unknown true x d known o p same h none e = is_unknown d.1 known h ∙ ap (λ o. known_in o known) (sym (none (same refl))) ∙ e
later_unknown false x d known o p same h none e = e

pub find_known : (x known : ℕ) (ds : List (ℕ × Definition)) → IsPlaced ds → known_in (newest x ds) known ≡ newest x (drop (length (plain ds) - known) (plain ds))
find_known x known [] h = ap (newest x) (sym (drop-nil (0 - known)))
find_known x known (d ∷ ds) h = by (nat_lt (length (plain ds)) known) refl (find_known x known ds h.2)
  where
    by : (b : Bool) → nat_lt (length (plain ds)) known ≡ b → known_in (newest x ds) known ≡ newest x (drop (length (plain ds) - known) (plain ds))
        → known_in (newest x (d ∷ ds)) known ≡ newest x (drop (length (plain (d ∷ ds)) - known) (plain (d ∷ ds)))
    by true t before =
        let below : length (plain ds) < known = grind (arith, nat_tests) in
        let none : length (plain (d ∷ ds)) - known ≡ 0 = omega arith in
        all_known x known (d ∷ ds) h (omega arith) ∙ ap (λ k. newest x (drop k (plain (d ∷ ds)))) (sym none)
    by false t before =
        let above : known ≤ length (plain ds) = grind (arith, nat_tests) in
        let some : length (plain (d ∷ ds)) - known ≡ suc (length (plain ds) - known) = omega arith in
        later_unknown (nat_eq x d.0) x d known (newest x ds) (newest x (drop (length (plain ds) - known) (plain ds)))
        (λ t. grind (arith, nat_tests)) (omega (arith, h.0)) (λ e. ap (λ y. newest y ds) e ∙ h.1) before
        ∙ ap (λ k. newest x (drop k (plain (d ∷ ds)))) (sym some)

-- whether a name has a type
pub some_plain : (x : ℕ) (ds : List (ℕ × Definition)) (o : Option Definition) → o ≡ newest x ds → is_some o ≡ true → newest x (plain ds) ≡ None → ⊥
some_plain x ds None e h n = cc
some_plain x ds (Some d) e h n = let k : Some d.ty ≡ None = ap (option_map (λ d. d.ty)) e ∙ sym (newest_plain x ds) ∙ n in cc

pub none_plain : (x : ℕ) (ds : List (ℕ × Definition)) (o : Option Definition) → o ≡ newest x ds → is_some o ≡ false → newest x (plain ds) ≡ None
none_plain x ds None e h = newest_plain x ds ∙ ap (option_map (λ d. d.ty)) (sym e)
none_plain x ds (Some d) e h = cc
