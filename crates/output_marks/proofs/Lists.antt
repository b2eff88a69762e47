-- Flags one after another, and what passes two tests.
use Rattle.std.proofs.Common.{◌≡◌, ℕ, zero, suc, ◌+◌, ◌-◌, ◌<◌, ◌≤◌, ◌&&◌, ◌||◌, Bool, true, false, cond, List, [], ◌∷◌, ◌++◌, map, filter, find, take, drop, get_or, length, replicate, Some, refl, sym, ap, ◌∙◌, arith, append_assoc}
use Rattle.std.proofs.Math.Seq.{drop-append_seam, take-append_seam}
use Rattle.std.proofs.lemmas.List.{get_or-replicate}
use Rattle.std.specs.List.{list_any}
use Rattle.if1_graph.specs.Ports.{count_from}
use Rattle.step_code.specs.Reading.{so_many}

-- ---- so many from the end of others on

pub behind : (old new more : List Bool) (w : ℕ) → length new ≡ w → so_many (length old) w ((old ++ new) ++ more) ≡ new
behind old new more w long =
    ap (λ xs. take w (drop (length old) xs)) (append_assoc old new more)
    ∙ (ap (take w) (drop-append_seam old (new ++ more))
    ∙ (ap (λ n. take n (new ++ more)) (sym long) ∙ take-append_seam new more))

counted : (f : ℕ → Bool) (w first i : ℕ) → i < w → get_or (map f (count_from first w)) i true ≡ f (first + i)
counted f zero first i lt = absurd (omega (arith, lt))
counted f (suc w) first zero lt = ap f (omega arith)
counted f (suc w) first (suc i) lt = counted f w (suc first) i (omega (arith, lt)) ∙ ap f (omega arith)

pub counted-long : (f : ℕ → Bool) (first w : ℕ) → length (map f (count_from first w)) ≡ w
counted-long f first zero = refl
counted-long f first (suc w) = ap suc (counted-long f (suc first) w)

pub at-each : (f : ℕ → Bool) (w port : ℕ) → 1 ≤ port → port ≤ w → get_or (map f (count_from 1 w)) (port - 1) true ≡ f port
at-each f w port one le = counted f w 1 (port - 1) (omega (arith, one, le)) ∙ ap f (omega (arith, one))

pub at-alike : (b : Bool) (w port : ℕ) → 1 ≤ port → port ≤ w → get_or (replicate w b) (port - 1) true ≡ b
at-alike b w port one le = get_or-replicate w (port - 1) b true (omega (arith, one, le))

-- ---- the next port

pub next-port : (f : ℕ → Bool) (first n : ℕ) → map f (count_from first n) ++ (f (first + n) ∷ []) ≡ map f (count_from first (suc n))
next-port f first zero = ap (λ k. f k ∷ []) (omega arith)
next-port f first (suc n) =
    let e : first + suc n ≡ suc first + n = omega arith in
    ap (λ k. f first ∷ (map f (count_from (suc first) n) ++ (f k ∷ []))) e ∙ ap (λ xs. f first ∷ xs) (next-port f (suc first) n)

pub next-alike : (b : Bool) (n : ℕ) → replicate n b ++ (b ∷ []) ≡ replicate (suc n) b
next-alike b zero = refl
next-alike b (suc n) = ap (λ xs. b ∷ xs) (next-alike b n)

pub same-map : (f g : ℕ → Bool) → ((k : ℕ) → f k ≡ g k) → (ks : List ℕ) → map f ks ≡ map g ks
same-map f g e [] = refl
same-map f g e (k ∷ ks) = ap (λ b. b ∷ map f ks) (e k) ∙ ap (λ bs. g k ∷ bs) (same-map f g e ks)

-- ---- two tests

pub found-filtered : {A : Type 0} (p q : A → Bool) (xs : List A) → find q (filter p xs) ≡ find (λ x. p x && q x) xs
found-filtered p q [] = refl
found-filtered p q (x ∷ xs) = go (p x) (found-filtered p q xs)
  where
    go : (b : Bool) → find q (filter p xs) ≡ find (λ x. p x && q x) xs → find q (cond b (x ∷ filter p xs) (filter p xs)) ≡ cond (b && q x) (Some x) (find (λ x. p x && q x) xs)
    go true rest = ap (cond (q x) (Some x)) rest
    go false rest = rest

-- what passes both passes the first
pub any-both : {A : Type 0} (p f : A → Bool) (xs : List A) → list_any (λ x. p x && f x) xs && list_any p xs ≡ list_any (λ x. p x && f x) xs
any-both p f [] = refl
any-both p f (x ∷ xs) = go (p x) (f x) (list_any (λ x. p x && f x) xs) (list_any p xs) (any-both p f xs)
  where
    go : (a b c d : Bool) → c && d ≡ c → ((a && b) || c) && (a || d) ≡ (a && b) || c
    go true true c d e = refl
    go true false true d e = refl
    go true false false d e = refl
    go false b c d e = e
