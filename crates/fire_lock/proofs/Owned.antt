-- The entries that a range of numbers has.
use Rattle.std.proofs.Common.{◌≡◌, ℕ, ◌+◌, ◌<◌, ◌≤◌, Bool, true, false, cond, ltb, ltb-true, List, [], ◌∷◌, ◌++◌, length, sym, refl, ap, ◌∙◌, subst, arith, append_assoc, append-nil, true≢false, length-append}
use Rattle.std.proofs.lemmas.List.Elements.{filter-append}
use Rattle.std.proofs.lemmas.Bool.Decides.{nat_tests}
use Rattle.fire_lock.specs.declared.entry.Entry.{Entry}
use Rattle.fire_lock.specs.History.{inside, entry, own, longer, Continues, Reached}
use Rattle.fire_lock.proofs.Lists.{later, no_length}

is_inside : (a b n : ℕ) → a ≤ n → n < b → inside a b n ≡ true
is_inside a b n l r = grind (arith, nat_tests)

not_inside : (a b n : ℕ) → ¬ ((a ≤ n) × (n < b)) → inside a b n ≡ false
not_inside a b n out = grind (arith, nat_tests)

module _ {E R : Type 0} where
  pub own_append : (a b : ℕ) (xs ys : List (Entry E R)) → own a b (xs ++ ys) ≡ own a b xs ++ own a b ys
  own_append a b xs ys = filter-append (λ e. inside a b e.number) xs ys

  own_none : (a b n : ℕ) (e : E) (r : R) → ¬ ((a ≤ n) × (n < b)) → own a b (entry n e r ∷ []) ≡ []
  own_none a b n e r out = ap (λ t. cond t (entry n e r ∷ []) []) (not_inside a b n out)

  pub own_one : (a b n : ℕ) (e : E) (r : R) → a ≤ n → n < b → own a b (entry n e r ∷ []) ≡ entry n e r ∷ []
  own_one a b n e r l h = ap (λ t. cond t (entry n e r ∷ []) []) (is_inside a b n l h)

  -- where entries have none of the numbers from a up to b, they have none of those among them
  pub own_within : (a b c d : ℕ) → a ≤ c → d ≤ b → (xs : List (Entry E R)) → own a b xs ≡ [] → own c d xs ≡ []
  own_within a b c d l h [] e = refl
  own_within a b c d l h (x ∷ xs) e = by (own_within a b c d l h xs) (inside a b x.number) refl
    where
      by : (own a b xs ≡ [] → own c d xs ≡ []) → (t : Bool) → inside a b x.number ≡ t → own c d (x ∷ xs) ≡ []
      by more true is = let z = ap length (subst (λ (t : Bool). cond t (x ∷ own a b xs) (own a b xs) ≡ []) is e) in absurd (omega arith)
      by more false is = let tail : own a b xs ≡ [] = subst (λ (t : Bool). cond t (x ∷ own a b xs) (own a b xs) ≡ []) is e in
          let out : inside c d x.number ≡ false = not_inside c d x.number (λ p. true≢false (sym (is_inside a b x.number (omega (arith, p.0)) (omega (arith, p.1))) ∙ is)) in
          ap (λ (t : Bool). cond t (x ∷ own c d xs) (own c d xs)) out ∙ more tail

  -- two ranges side by side
  own_beside : (a b c : ℕ) (xs : List (Entry E R)) → own a b xs ≡ [] → own b c xs ≡ [] → own a c xs ≡ []
  own_beside a b c [] e f = refl
  own_beside a b c (x ∷ xs) e f = by (own_beside a b c xs) (inside a b x.number) (inside b c x.number) refl refl
    where
      T : ℕ → ℕ → Bool → Type 0
      T a b t = cond t (x ∷ own a b xs) (own a b xs) ≡ []

      by : (own a b xs ≡ [] → own b c xs ≡ [] → own a c xs ≡ []) → (t u : Bool) → inside a b x.number ≡ t → inside b c x.number ≡ u → own a c (x ∷ xs) ≡ []
      by more true u is _ = let z = ap length (subst (T a b) is e) in absurd (omega arith)
      by more false true _ is = let z = ap length (subst (T b c) is f) in absurd (omega arith)
      by more false false is is' = let out : inside a c x.number ≡ false = grind (arith, nat_tests) in
          ap (λ (t : Bool). cond t (x ∷ own a c xs) (own a c xs)) out ∙ more (subst (T a b) is e) (subst (T b c) is' f)

  pub own_nobody : (a : ℕ) (xs : List (Entry E R)) → own a a xs ≡ []
  own_nobody a [] = refl
  own_nobody a (x ∷ xs) = ap (λ (t : Bool). cond t (x ∷ own a a xs) (own a a xs)) (not_inside a a x.number (λ p. let q = p.0 in let r = p.1 in omega arith)) ∙ own_nobody a xs

  own_shorter : (a b : ℕ) (xs : List (Entry E R)) → length (own a b xs) ≤ length xs
  own_shorter a b [] = omega arith
  own_shorter a b (x ∷ xs) = let r = own_shorter a b xs in by (inside a b x.number) r
    where
      by : (t : Bool) → length (own a b xs) ≤ length xs → length (cond t (x ∷ own a b xs) (own a b xs)) ≤ length (x ∷ xs)
      by true r = omega arith
      by false r = omega arith

  -- where a list has none of the numbers, neither part has
  parts_none : (a b : ℕ) (xs ys : List (Entry E R)) → own a b (xs ++ ys) ≡ [] → (own a b xs ≡ []) × (own a b ys ≡ [])
  parts_none a b xs ys e = let n = ap length (sym (own_append a b xs ys) ∙ e) in let m = length-append (own a b xs) (own a b ys) in
      (no_length (own a b xs) (omega arith), no_length (own a b ys) (omega arith))

  -- what was seen is all, where what is left has none of the numbers
  pub none_left : (a b : ℕ) (xs log : List (Entry E R)) → Continues a b xs log → own a b log ≡ log → xs ≡ log
  none_left a b xs log c all = by c.0 c.1 c.2
    where
      by : (rest : List (Entry E R)) → xs ++ rest ≡ log → own a b rest ≡ [] → xs ≡ log
      by [] e nothing = sym (append-nil xs) ∙ e
      by (x ∷ rest) e nothing =
          let n : length (own a b log) ≡ length log = ap length all in
          let m : length log ≡ length xs + length (x ∷ rest) = ap length (sym e) ∙ length-append xs (x ∷ rest) in
          let o : own a b log ≡ own a b xs = ap (own a b) (sym e) ∙ (own_append a b xs (x ∷ rest) ∙ (ap (λ l. own a b xs ++ l) nothing ∙ append-nil (own a b xs))) in
          let k : length (own a b log) ≡ length (own a b xs) = ap length o in let h = own_shorter a b xs in absurd (omega arith)

  pub seen_all : (a b : ℕ) (xs : List (Entry E R)) → Continues a b xs xs
  seen_all a b xs = ([], append-nil xs, refl)

  pub within : (a b c d : ℕ) → a ≤ c → d ≤ b → (xs ys : List (Entry E R)) → Continues a b xs ys → Continues c d xs ys
  within a b c d l h xs ys t = (t.0, t.1, own_within a b c d l h t.0 t.2)

  -- an entry of another's number
  pub goes_on : (a b : ℕ) (xs ys : List (Entry E R)) (n : ℕ) (e : E) (r : R) → ¬ ((a ≤ n) × (n < b)) → Continues a b xs ys → Continues a b xs (ys ++ entry n e r ∷ [])
  goes_on a b xs ys n e r out c = let new : List (Entry E R) = entry n e r ∷ [] in (
    c.0 ++ new,
    sym (append_assoc xs c.0 new) ∙ ap (λ l. l ++ new) c.1,
    own_append a b c.0 new ∙ (λ i. c.2 i ++ own_none a b n e r out i),
  )

  -- of two beginnings of a history, each finds itself in the longer, and that is a beginning too
  pub longer_continues : (xs ys log : List (Entry E R)) (a b c : ℕ) → Continues a b xs log → Continues b c ys log
      → Continues a b xs (longer xs ys) × Continues b c ys (longer xs ys) × Continues a c (longer xs ys) log
  longer_continues xs ys log a b c f g = by (ltb (length xs) (length ys)) refl
    where
      by : (t : Bool) → ltb (length xs) (length ys) ≡ t → Continues a b xs (cond t ys xs) × Continues b c ys (cond t ys xs) × Continues a c (cond t ys xs) log
      by true is =
          let less : length xs < length ys = ltb-true _ _ is in
          let d = later xs ys f.0 g.0 (omega arith) (f.1 ∙ sym g.1) in
          let parts = parts_none a b d.0 g.0 (ap (own a b) (sym d.2) ∙ f.2) in
          ((d.0, sym d.1, parts.0), seen_all b c ys, (g.0, g.1, own_beside a b c g.0 parts.1 g.2))
      by false is =
          let less : length ys ≤ length xs = grind (arith, nat_tests) in
          let d = later ys xs g.0 f.0 less (g.1 ∙ sym f.1) in
          let parts = parts_none b c d.0 f.0 (ap (own b c) (sym d.2) ∙ g.2) in
          (seen_all a b xs, (d.0, sym d.1, parts.0), (f.0, f.1, own_beside a b c f.0 f.2 parts.1))

module _ {M E R : Type 0} (plays : M → ℕ → E → R → M → Type 0) where
  pub reached_more : (m : M) (xs : List (Entry E R)) (k : M) (n : ℕ) (e : E) (r : R) (l : M) → Reached plays m xs k → plays k n e r l → Reached plays m (xs ++ entry n e r ∷ []) l
  reached_more m [] k n e r l h p = (l, subst (λ z. plays z n e r l) (sym h) p, refl)
  reached_more m (x ∷ xs) k n e r l h p = (h.0, h.1, reached_more h.0 xs k n e r l h.2 p)
