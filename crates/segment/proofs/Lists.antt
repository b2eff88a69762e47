-- A part of a list, and another list in its place.
use Rattle.std.proofs.Common.{◌≡◌, ℕ, zero, suc, ◌+◌, ◌-◌, ◌≤◌, ◌<◌, List, [], ◌∷◌, ◌++◌, length, take, drop, refl, sym, ap, ◌∙◌, arith, Option, Some, None, slice_get, slice_set, map, replicate, true≢false, length-append, length-drop, length-take-le, take-append-drop, drop-drop}
use Rattle.std.proofs.lemmas.List.{length-map, length-replicate, append_assoc, replicate-append-replicate}
use Rattle.std.specs.Prelude.{IsTrue}
use Rattle.std.specs.List.{list_all}
use Rattle.segment.specs.Places.{Place, away, unwritten, written, is_written}
use Rattle.segment.specs.Runs.{part, spliced}

module _ {X : Type 0} where
  pub part_long : (xs : List X) (a n : ℕ) → a + n ≤ length xs → length (part xs a n) ≡ n
  part_long xs a n fits = let rest = length-drop a xs in length-take-le n (drop a xs) (omega arith)

  -- a part put in its own place changes nothing
  pub spliced-part : (xs : List X) (a n : ℕ) → take a xs ++ (part xs a n ++ drop (a + n) xs) ≡ xs
  spliced-part xs a n =
      ap (λ (l : List X). take a xs ++ (part xs a n ++ l)) (sym (drop-drop n a xs))
      ∙ ap (λ (l : List X). take a xs ++ l) (take-append-drop n (drop a xs))
      ∙ take-append-drop a xs

  pub spliced_long : (xs : List X) (a : ℕ) (ws : List X) → a + length ws ≤ length xs → length (spliced xs a ws) ≡ length xs
  spliced_long xs a ws fits =
      let front = length-take-le a xs (omega arith) in
      let back = length-drop (a + length ws) xs in
      let all = length-append (take a xs) (ws ++ drop (a + length ws) xs) in
      let rest = length-append ws (drop (a + length ws) xs) in
      omega arith

  -- one element is a part of its own
  pub found : (xs : List X) (i : ℕ) (x : X) → slice_get xs i ≡ Some x → i + 1 ≤ length xs
  found [] i x is = absurd (none-some (sym is))
    where
      is_none : Option X → Type 0
      is_none None = ⊥
      is_none (Some y) = Unit {0}

      none-some : Some x ≡ None → ⊥
      none-some e = Rattle.std.proofs.Common.subst is_none e tt
  found (y ∷ ys) zero x is = omega arith
  found (y ∷ ys) (suc i) x is = let rest = found ys i x is in omega arith

  pub single : (xs : List X) (i : ℕ) (x : X) → slice_get xs i ≡ Some x → part xs i 1 ≡ x ∷ []
  single [] i x is = let none = found [] i x is in absurd (omega arith)
  single (y ∷ ys) zero x is = ap (λ (o : Option X). or_self o) is
    where
      or_self : Option X → List X
      or_self None = y ∷ []
      or_self (Some z) = z ∷ []
  single (y ∷ ys) (suc i) x is = single ys i x is

  pub set-spliced : (xs : List X) (i : ℕ) (x : X) → i + 1 ≤ length xs → take i xs ++ (x ∷ drop (i + 1) xs) ≡ slice_set xs i x
  set-spliced [] i x fits = absurd (omega arith)
  set-spliced (y ∷ ys) zero x fits = refl
  set-spliced (y ∷ ys) (suc i) x fits =
      let next : suc i + 1 ≡ suc (i + 1) = omega arith in
      ap (λ (n : ℕ). y ∷ (take i ys ++ (x ∷ drop n (y ∷ ys)))) next ∙ ap (λ (l : List X). y ∷ l) (set-spliced ys i x (omega arith))

-- places that are all written have values
pub values : {X : Type 0} (ps : List (Place X)) → IsTrue (list_all is_written ps) → (xs : List X) × (map written xs ≡ ps)
values [] all = ([], refl)
values (away ∷ ps) all = absurd (true≢false (sym all))
values (unwritten ∷ ps) all = absurd (true≢false (sym all))
values (written x ∷ ps) all = let rest = values ps all in (x ∷ rest.0, ap (λ l. written x ∷ l) rest.1)

-- the first of n places hold xs, and are as many with more of them behind
module _ {X : Type 0} where
  abbrev blank : ℕ → List (Place X)
  blank n = replicate n unwritten

  blank_both : (m n : ℕ) → blank m ++ blank n ≡ blank (m + n)
  blank_both m n = replicate-append-replicate m n unwritten

  pub blank_more : (n c : ℕ) → n ≤ c → blank n ++ blank (c - n) ≡ blank c
  blank_more n c fits = let all : n + (c - n) ≡ c = omega arith in blank_both n (c - n) ∙ ap blank all

  pub begun_long : (xs : List X) (n : ℕ) → length xs ≤ n → length (map written xs ++ blank (n - length xs)) ≡ n
  begun_long xs n fewer =
      let both = length-append (map written xs) (blank (n - length xs)) in
      let first = length-map xs written in
      let rest = length-replicate (n - length xs) (let z : Place X = unwritten in z) in
      omega arith

  pub begun_more : (xs : List X) (n c : ℕ) → length xs ≤ n → n ≤ c → (map written xs ++ blank (n - length xs)) ++ blank (c - n) ≡ map written xs ++ blank (c - length xs)
  begun_more xs n c fewer fits =
      let all : n - length xs + (c - n) ≡ c - length xs = omega arith in
      append_assoc (map written xs) (blank (n - length xs)) (blank (c - n)) ∙ ap (λ l. map written xs ++ l) (blank_both (n - length xs) (c - n) ∙ ap blank all)
