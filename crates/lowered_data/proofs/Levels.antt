-- Names as they are kept, seen from graphs of different levels.
use Rattle.std.proofs.Common.{◌≡◌, ℕ, suc, ◌-◌, List, [], ◌∷◌, ◌++◌, map, length, take, All, refl, sym, ap, ap₂, ◌∙◌, subst, arith}
use Rattle.std.proofs.lemmas.List.{take_at, length-map, length-append, take-map}
use Rattle.std.proofs.lemmas.List.Elements.{All-nil, All-cons, All-take}
use Rattle.lowering.specs.declared.feed.Feed.{Feed}
use Rattle.lowering.specs.declared.feed.Feed.TheVariants.{Literal, Named, Absent, Port}
use Rattle.lowering.specs.declared.feed.Wire.{Wire}
use Rattle.lowering.specs.Feeds.{wire, inside, into}
use Rattle.lowered_data.specs.Scopes.{Scopes, scopes, with_names, entered, seen_feed, seen, IsAround}

Around : ℕ → List Wire → Type 0
Around level ws = All (λ w. IsAround level w.feed) ws

-- the tail of such a list
rest_around : (level : ℕ) (w : Wire) (ws : List Wire) → All (λ w. IsAround level w.feed) (w ∷ ws) → All (λ w. IsAround level w.feed) ws
rest_around level w ws h = λ k d lt. h (suc k) d (omega (arith, lt))

-- ---- a graph begins

in_feed : (level : ℕ) (f : Feed) → IsAround level f → seen_feed (suc level) f ≡ inside (seen_feed level f)
in_feed level (Port at n p) h = let e : suc level - at ≡ suc (level - at) = omega (arith, h) in ap (λ up. Port up n p) e
in_feed level (Literal c) h = refl
in_feed level (Named s) h = refl
in_feed level Absent h = refl

seen_inside : (level : ℕ) (ws : List Wire) → All (λ w. IsAround level w.feed) ws → map (seen (suc level)) ws ≡ map into (map (seen level) ws)
seen_inside level [] h = refl
seen_inside level (w ∷ ws) h =
    ap₂ (λ f vs. wire f w.ty ∷ vs) (in_feed level w.feed (h 0 w (omega arith))) (seen_inside level ws (rest_around level w ws h))

pub entered_is : (ws : List Wire) (ms : List ℕ) (n : ℕ) → All (λ w. IsAround (length ms) w.feed) ws → n ≡ length ws
    → scopes (map (seen (length (ms ++ n ∷ []))) ws) (ms ++ n ∷ []) ≡ entered (scopes (map (seen (length ms)) ws) ms)
entered_is ws ms n h e =
    let more : length (ms ++ n ∷ []) ≡ suc (length ms) = let l = length-append ms (n ∷ []) in omega (arith, l) in
    let count : n ≡ length (map (seen (length ms)) ws) = e ∙ sym (length-map ws (seen (length ms))) in
    ap (λ l. scopes (map (seen l) ws) (ms ++ n ∷ [])) more
    ∙ ap₂ (λ here k. scopes here (ms ++ k ∷ [])) (seen_inside (length ms) ws h) count

-- ---- a graph ends

-- a port that is seen from inside is around
record Outer (level : ℕ) (f g : Feed) : Type 0 where
  sees : seen_feed level f ≡ g
  stands : IsAround level f

out_feed : (level : ℕ) (f g : Feed) → IsAround (suc level) f → seen_feed (suc level) f ≡ inside g → Outer level f g
out_feed level (Port at n p) (Port up m q) h e =
    let a : suc level - at ≡ suc up = cc in
    let b : n ≡ m = cc in
    let c : p ≡ q = cc in
    let d : level - at ≡ up = omega (arith, a, h) in
    record { sees = ap (λ k. Port k n p) d ∙ ap₂ (λ k l. Port up k l) b c; stands = omega (arith, a, h) }
out_feed level (Port at n p) (Literal c) h e = absurd cc
out_feed level (Port at n p) (Named s) h e = absurd cc
out_feed level (Port at n p) Absent h e = absurd cc
out_feed level (Literal c) (Port up m q) h e = absurd cc
out_feed level (Literal c) (Literal d) h e = record { sees = e; stands = tt }
out_feed level (Literal c) (Named s) h e = record { sees = e; stands = tt }
out_feed level (Literal c) Absent h e = record { sees = e; stands = tt }
out_feed level (Named s) (Port up m q) h e = absurd cc
out_feed level (Named s) (Literal d) h e = record { sees = e; stands = tt }
out_feed level (Named s) (Named t) h e = record { sees = e; stands = tt }
out_feed level (Named s) Absent h e = record { sees = e; stands = tt }
out_feed level Absent (Port up m q) h e = absurd cc
out_feed level Absent (Literal d) h e = record { sees = e; stands = tt }
out_feed level Absent (Named t) h e = record { sees = e; stands = tt }
out_feed level Absent Absent h e = record { sees = e; stands = tt }

record Outers (level : ℕ) (ws vs : List Wire) : Type 0 where
  see : map (seen level) ws ≡ vs
  stand : All (λ w. IsAround level w.feed) ws

out_all : (level : ℕ) (ws vs : List Wire) → All (λ w. IsAround (suc level) w.feed) ws → map (seen (suc level)) ws ≡ map into vs → Outers level ws vs
out_all level [] [] h e = record { see = refl; stand = All-nil (λ w. IsAround level w.feed) }
out_all level [] (v ∷ vs) h e = absurd cc
out_all level (w ∷ ws) [] h e = absurd cc
out_all level (w ∷ ws) (v ∷ vs) h e =
    let heads : seen (suc level) w ≡ into v = cc in
    let tails : map (seen (suc level)) ws ≡ map into vs = cc in
    let one = out_feed level w.feed v.feed (h 0 w (omega arith)) (ap (λ (x : Wire). x.feed) heads) in
    let all = out_all level ws vs (rest_around (suc level) w ws h) tails in
    let types : w.ty ≡ v.ty = ap (λ (x : Wire). x.ty) heads in
    record {
      see = ap₂ (λ f us. wire f w.ty ∷ us) one.sees all.see ∙ ap (λ t. wire v.feed t ∷ vs) types;
      stand = All-cons (λ w. IsAround level w.feed) w ws one.stands all.stand;
    }

snoc_same : (xs ys : List ℕ) (x y : ℕ) → xs ++ x ∷ [] ≡ ys ++ y ∷ [] → (xs ≡ ys) × (x ≡ y)
snoc_same [] [] x y e = (refl, cc)
snoc_same [] (z ∷ ys) x y e = absurd (let l = ap (λ (k : List ℕ). length k) e in let m = length-append ys (y ∷ []) in omega (arith, l, m))
snoc_same (z ∷ xs) [] x y e = absurd (let l = ap (λ (k : List ℕ). length k) e in let m = length-append xs (x ∷ []) in omega (arith, l, m))
snoc_same (u ∷ xs) (v ∷ ys) x y e =
    let tails : xs ++ x ∷ [] ≡ ys ++ y ∷ [] = cc in
    let heads : u ≡ v = cc in
    let r = snoc_same xs ys x y tails in
    (ap₂ (λ k l. k ∷ l) heads r.0, r.1)

pub record Left (ws : List Wire) (ms : List ℕ) (before : Scopes) : Type 0 where
  pub names : scopes (map (seen (length ms)) ws) ms ≡ before
  pub stand : All (λ w. IsAround (length ms) w.feed) ws

pub left_is : (ws : List Wire) (ms rest : List ℕ) (k : ℕ) (before : Scopes) (more : List Wire) → All (λ w. IsAround (length ms) w.feed) ws
    → scopes (map (seen (length ms)) ws) ms ≡ with_names (entered before) more → ms ≡ rest ++ k ∷ [] → Left (take k ws) rest before
left_is ws ms rest k before more h e p =
    let marks : rest ++ k ∷ [] ≡ before.marks ++ length before.here ∷ [] = sym p ∙ ap (λ (s : Scopes). s.marks) e in
    let both = snoc_same rest before.marks k (length before.here) marks in
    let level : length ms ≡ suc (length rest) = let l = length-append rest (k ∷ []) in let m = ap (λ (k : List ℕ). length k) p in omega (arith, l, m) in
    let kept : All (λ w. IsAround (suc (length rest)) w.feed) (take k ws) =
    All-take (λ w. IsAround (suc (length rest)) w.feed) k ws (subst (λ (n : ℕ). All (λ w. IsAround n w.feed) ws) level h) in
    let all : map (seen (suc (length rest))) ws ≡ map into before.here ++ more = ap (λ n. map (seen n) ws) (sym level) ∙ ap (λ (s : Scopes). s.here) e in
    let count : length (map into before.here) ≡ k = length-map before.here into ∙ sym both.1 in
    let first : map (seen (suc (length rest))) (take k ws) ≡ map into before.here =
    sym (take-map (seen (suc (length rest))) k ws) ∙ ap (take k) all ∙ take_at (map into before.here) more k count in
    let out = out_all (length rest) (take k ws) before.here kept first in
    record { names = ap₂ scopes out.see both.0; stand = out.stand }
