-- A port among those that are kept is found by its key.
use Rattle.std.proofs.Common.{◌≡◌, ◌<◌, ◌≤◌, ◌+◌, ℕ, suc, Bool, true, false, cond, nat_eq, ◌&&◌, List, [], ◌∷◌, ◌++◌, map, length, take, slice_get, Some, None, refl, sym, ap, ap₂, ◌∙◌, arith, position, if◌then◌else◌}
use Rattle.std.specs.List.{position_or_len}
use Rattle.std.specs.Option.{option_map}
use Rattle.std.proofs.lemmas.List.{length-map, take_more}
use Rattle.std.proofs.lemmas.Option.{same_Some, none-some, slice_get-map, slice_get_within, get_or_from_slice_get}
use Rattle.std.proofs.lemmas.Bool.{lt-ltb, le-ltb}
use mathlib.Core.Logic.{dite}
use native.Mathlib.Decide.{dec_le}
use Rattle.std.proofs.lemmas.Bool.Decides.{same_from_decides, Decides-eqb, Decides-like}
use Rattle.indexmap.specs.IndexMap.{insert_entry}
use Rattle.lowering.specs.declared.feed.Feed.{Feed}
use Rattle.lowering.specs.declared.feed.Feed.TheVariants.{Port}
use Rattle.lowering.specs.declared.feed.Carried.{Carried}
use Rattle.lowering.specs.Feeds.{is_port, has, place}
use Rattle.lowered_data.specs.Keyed.{keyed}

abbrev pub Key : Type 0
Key = ℕ × ℕ × ℕ

abbrev pub Entry : Type 0
Entry = Key × Carried

-- the test by which a key is found
abbrev pub same : Key → Key → Bool
same v k = (nat_eq v.0 k.0 && nat_eq v.1 k.1) && nat_eq v.2 k.2

abbrev pub keys_in : List Entry → List Key
keys_in es = map (λ e. e.0) es

abbrev port : Key → Feed
port v = Port v.0 v.1 v.2

numbers_turn : (a b : ℕ) → nat_eq a b ≡ nat_eq b a
numbers_turn a b = same_from_decides (nat_eq a b) (nat_eq b a) (Decides-eqb a b) (Decides-like (nat_eq b a) sym sym (Decides-eqb b a))

as_both : (a b c : Bool) → (if a then (if b then c else false) else false) ≡ ((a && b) && c)
as_both false b c = refl
as_both true false c = refl
as_both true true c = refl

tells : (v : Key) (e : Entry) → is_port (keyed e).feed (port v) ≡ same v e.0
tells v e =
    as_both (nat_eq e.0.0 v.0) (nat_eq e.0.1 v.1) (nat_eq e.0.2 v.2)
    ∙ ap₂ (λ (x y : Bool). x && y) (ap₂ (λ (x y : Bool). x && y) (numbers_turn e.0.0 v.0) (numbers_turn e.0.1 v.1)) (numbers_turn e.0.2 v.2)

here : (v k : Key) (ks : List Key) → same v k ≡ true → position_or_len (same v) (k ∷ ks) ≡ 0
here v k ks is = rw is refl

later : (v k : Key) (ks : List Key) → same v k ≡ false → position_or_len (same v) (k ∷ ks) ≡ suc (position_or_len (same v) ks)
later v k ks is = rw is (omega arith)

pub within : (v : Key) (ks : List Key) → position_or_len (same v) ks ≤ length ks
within v [] = omega arith
within v (k ∷ ks) = by (same v k) refl (within v ks)
  where
    by : (b : Bool) → same v k ≡ b → position_or_len (same v) ks ≤ length ks → position_or_len (same v) (k ∷ ks) ≤ suc (length ks)
    by true is rest = let z = here v k ks is in omega (arith, z)
    by false is rest = let z = later v k ks is in omega (arith, z, rest)

place_is : (v : Key) (es : List Entry) → place (map keyed es) (port v) ≡ position_or_len (same v) (keys_in es)
place_is v [] = refl
place_is v (e ∷ es) = by (same v e.0) refl (place_is v es)
  where
    by : (b : Bool) → same v e.0 ≡ b → place (map keyed es) (port v) ≡ position_or_len (same v) (keys_in es)
        → place (keyed e ∷ map keyed es) (port v) ≡ position_or_len (same v) (e.0 ∷ keys_in es)
    by true is rest = ap (λ (b : Bool). if b then 0 else suc (place (map keyed es) (port v))) (tells v e ∙ is) ∙ sym (here v e.0 (keys_in es) is)
    by false is rest = ap (λ (b : Bool). if b then 0 else suc (place (map keyed es) (port v))) (tells v e ∙ is) ∙ ap suc rest ∙ sym (later v e.0 (keys_in es) is)

there : (v : Key) (es : List Entry) → position_or_len (same v) (keys_in es) < length es → has (map keyed es) (port v) ≡ true
there v [] lt = absurd (omega (arith, lt))
there v (e ∷ es) lt = by (same v e.0) refl (there v es)
  where
    by : (b : Bool) → same v e.0 ≡ b → (position_or_len (same v) (keys_in es) < length es → has (map keyed es) (port v) ≡ true) → has (keyed e ∷ map keyed es) (port v) ≡ true
    by true is rest = ap (λ (b : Bool). if b then true else has (map keyed es) (port v)) (tells v e ∙ is)
    by false is rest = let z = later v e.0 (keys_in es) is in ap (λ (b : Bool). if b then true else has (map keyed es) (port v)) (tells v e ∙ is) ∙ rest (omega (arith, lt, z))

absent : (v : Key) (es : List Entry) → length es ≤ position_or_len (same v) (keys_in es) → has (map keyed es) (port v) ≡ false
absent v [] le = refl
absent v (e ∷ es) le = by (same v e.0) refl (absent v es)
  where
    by : (b : Bool) → same v e.0 ≡ b → (length es ≤ position_or_len (same v) (keys_in es) → has (map keyed es) (port v) ≡ false) → has (keyed e ∷ map keyed es) (port v) ≡ false
    by true is rest = let z = here v e.0 (keys_in es) is in absurd (omega (arith, le, z))
    by false is rest = let z = later v e.0 (keys_in es) is in ap (λ (b : Bool). if b then true else has (map keyed es) (port v)) (tells v e ∙ is) ∙ rest (omega (arith, le, z))

-- what is found, and what is not
pub found : (v : Key) (es : List Entry) (p : ℕ) → Some p ≡ position (same v) (keys_in es) → (place (map keyed es) (port v) ≡ p) × (has (map keyed es) (port v) ≡ true)
found v es p is = dite (dec_le (length (keys_in es)) n) outside inside
  where
    n : ℕ
    n = position_or_len (same v) (keys_in es)

    Is : Type 0
    Is = (place (map keyed es) (port v) ≡ p) × (has (map keyed es) (port v) ≡ true)

    outside : length (keys_in es) ≤ n → Is
    outside ge = absurd (none-some p (ap (λ (b : Bool). cond b (Some n) None) (sym (le-ltb n (length (keys_in es)) ge)) ∙ sym is))

    inside : (length (keys_in es) ≤ n → ⊥) → Is
    inside lt =
        let near : n < length (keys_in es) = omega (arith, lt) in
        let same_place : p ≡ n = same_Some p n (is ∙ ap (λ (b : Bool). cond b (Some n) None) (lt-ltb n (length (keys_in es)) near)) in
        (place_is v es ∙ sym same_place, there v es (let l = length-map es (λ (e : Entry). e.0) in omega (arith, near, l)))

pub missed : (v : Key) (es : List Entry) → None ≡ position (same v) (keys_in es) → (place (map keyed es) (port v) ≡ length es) × (has (map keyed es) (port v) ≡ false)
missed v es is = dite (dec_le (length (keys_in es)) n) outside inside
  where
    n : ℕ
    n = position_or_len (same v) (keys_in es)

    Is : Type 0
    Is = (place (map keyed es) (port v) ≡ length es) × (has (map keyed es) (port v) ≡ false)

    outside : length (keys_in es) ≤ n → Is
    outside ge =
        let w = within v (keys_in es) in
        let l = length-map es (λ (e : Entry). e.0) in
        (place_is v es ∙ omega (arith, w, ge, l), absent v es (omega (arith, ge, l)))

    inside : (length (keys_in es) ≤ n → ⊥) → Is
    inside lt =
        let near : n < length (keys_in es) = omega (arith, lt) in
        absurd (none-some n (is ∙ ap (λ (b : Bool). cond b (Some n) None) (lt-ltb n (length (keys_in es)) near)))

-- a new port stands behind the others
pub inserted : (v : Key) (c : Carried) (es : List Entry) → has (map keyed es) (port v) ≡ false → insert_entry same es v c ≡ es ++ (v, c) ∷ []
inserted v c [] h = refl
inserted v c (e ∷ es) h = by (same v e.0) refl (inserted v c es)
  where
    by : (b : Bool) → same v e.0 ≡ b → (has (map keyed es) (port v) ≡ false → insert_entry same es v c ≡ es ++ (v, c) ∷ []) → insert_entry same (e ∷ es) v c ≡ e ∷ (es ++ (v, c) ∷ [])
    by true is rest = absurd (wrong (sym h ∙ ap (λ (b : Bool). if b then true else has (map keyed es) (port v)) (tells v e ∙ is)))
      where
        wrong : false ≡ true → ⊥
        wrong e = cc
    by false is rest =
        ap (λ (b : Bool). if b then (e.0, c) ∷ es else e ∷ insert_entry same es v c) is
        ∙ ap (λ r. e ∷ r) (rest (sym (ap (λ (b : Bool). if b then true else has (map keyed es) (port v)) (tells v e ∙ is)) ∙ h))

-- the next port
pub keyed_more : (es : List Entry) (i : ℕ) (e : Entry) → Some e ≡ slice_get es i → take i (map keyed es) ++ keyed e ∷ [] ≡ take (i + 1) (map keyed es)
keyed_more es i e is =
    let at : slice_get (map keyed es) i ≡ Some (keyed e) = slice_get-map keyed es i ∙ ap (option_map keyed) (sym is) in
    let lt = slice_get_within (map keyed es) i (keyed e) at in
    ap (λ w. take i (map keyed es) ++ w ∷ []) (sym (get_or_from_slice_get (map keyed es) i (keyed e) (keyed e) at)) ∙ sym (take_more (map keyed es) i (keyed e) lt)
