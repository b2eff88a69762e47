-- Items with fillers before them, one after another.
use Rattle.std.proofs.Common.{◌≡◌, ℕ, zero, suc, ◌+◌, ◌≤◌, List, [], ◌∷◌, ◌++◌, map, drop, replicate, length, get_or, refl, sym, ap, ◌∙◌, arith}
use Rattle.std.proofs.lemmas.List.{append-nil, append_assoc, map-append}
use Rattle.gapped.specs.Spread.{AreNone, spread}

all-dropped : {A : Type 0} (i : ℕ) (xs : List A) → length xs ≤ i → drop i xs ≡ []
all-dropped zero [] le = refl
all-dropped (suc i) [] le = refl
all-dropped zero (x ∷ xs) le = absurd (omega (arith, le))
all-dropped (suc i) (x ∷ xs) le = all-dropped i xs (omega (arith, le))

module _ {A : Type 0} (f : A) where
  pub spread-none : (ks : List ℕ) → spread f ks [] ≡ []
  spread-none [] = refl
  spread-none (k ∷ ks) = refl

  -- the next item, with the fillers before it
  pub spread-next : (ks : List ℕ) (i : ℕ) (x : A) (xs : List A) → spread f (drop i ks) (x ∷ xs) ≡ replicate (get_or ks i 0) f ++ (x ∷ spread f (drop (suc i) ks) xs)
  spread-next [] zero x xs = refl
  spread-next [] (suc i) x xs = refl
  spread-next (k ∷ ks) zero x xs = refl
  spread-next (k ∷ ks) (suc i) x xs = spread-next ks i x xs

  -- with one more item, all that is still to come is what it was
  pub spread-step : (ks : List ℕ) (xs : List A) (i : ℕ) (old mid new : List A) (x : A) (k : ℕ) → drop i xs ≡ x ∷ drop (i + 1) xs → mid ≡ old ++ replicate k f → new ≡ mid ++ x ∷ [] → k ≡ get_or ks i 0
      → old ++ spread f (drop i ks) (drop i xs) ≡ spread f ks xs → new ++ spread f (drop (i + 1) ks) (drop (i + 1) xs) ≡ spread f ks xs
  spread-step ks xs i old mid new x k here a b e inv =
      let rest = spread f (drop (i + 1) ks) (drop (i + 1) xs) in
      let s : i + 1 ≡ suc i = omega arith in
      ap (λ z. z ++ rest) b
      ∙ (append_assoc mid (x ∷ []) rest
      ∙ (ap (λ z. z ++ (x ∷ rest)) a
      ∙ (append_assoc old (replicate k f) (x ∷ rest)
      ∙ (ap (λ z. old ++ z)
      (ap (λ z. replicate z f ++ (x ∷ rest)) e
      ∙ (ap (λ z. replicate (get_or ks i 0) f ++ (x ∷ spread f (drop z ks) (drop (i + 1) xs))) s
      ∙ (sym (spread-next ks i x (drop (i + 1) xs)) ∙ ap (spread f (drop i ks)) (sym here))))
      ∙ inv))))

  pub spread-end : (ks : List ℕ) (xs : List A) (i : ℕ) (list : List A) → length xs ≤ i → list ++ spread f (drop i ks) (drop i xs) ≡ spread f ks xs → list ≡ spread f ks xs
  spread-end ks xs i list le inv = sym (append-nil list) ∙ (ap (λ z. list ++ z) (sym (ap (spread f (drop i ks)) (all-dropped i xs le) ∙ spread-none (drop i ks))) ∙ inv)

  pub spread_of_none : (ks : List ℕ) (xs : List A) → AreNone ks → xs ≡ spread f ks xs
  spread_of_none [] xs h = refl
  spread_of_none (k ∷ ks) [] h = refl
  spread_of_none (k ∷ ks) (x ∷ xs) h = ap (λ z. x ∷ z) (spread_of_none ks xs h.1) ∙ ap (λ n. replicate n f ++ (x ∷ spread f ks xs)) (sym h.0)

  -- one more behind them
  pub spread-more : (ks : List ℕ) (xs : List A) (k : ℕ) (x : A) → length ks ≡ length xs → spread f (ks ++ k ∷ []) (xs ++ x ∷ []) ≡ spread f ks xs ++ (replicate k f ++ (x ∷ []))
  spread-more [] [] k x e = refl
  spread-more [] (y ∷ ys) k x e = absurd (omega (arith, e))
  spread-more (j ∷ ks) [] k x e = absurd (omega (arith, e))
  spread-more (j ∷ ks) (y ∷ ys) k x e =
      ap (λ z. replicate j f ++ (y ∷ z)) (spread-more ks ys k x (omega (arith, e)))
      ∙ sym (append_assoc (replicate j f) (y ∷ spread f ks ys) (replicate k f ++ (x ∷ [])))

map-replicate : {A B : Type 0} (g : A → B) (f : A) (n : ℕ) → map g (replicate n f) ≡ replicate n (g f)
map-replicate g f zero = refl
map-replicate g f (suc n) = ap (λ z. g f ∷ z) (map-replicate g f n)

-- what is made of each
pub map-spread : {A B : Type 0} (g : A → B) (f : A) (ks : List ℕ) (xs : List A) → map g (spread f ks xs) ≡ spread (g f) ks (map g xs)
map-spread g f [] xs = refl
map-spread g f (k ∷ ks) [] = refl
map-spread g f (k ∷ ks) (x ∷ xs) =
    map-append g (replicate k f) (x ∷ spread f ks xs)
    ∙ (ap (λ z. z ++ (g x ∷ map g (spread f ks xs))) (map-replicate g f k) ∙ ap (λ z. replicate k (g f) ++ (g x ∷ z)) (map-spread g f ks xs))
