-- Functions that a `u32` counts.
use Rattle.std.proofs.Common.{◌≡◌, ◌≢◌, ℕ, ◌+◌, ◌<◌, ◌^◌, Bool, true, false, eqb, List, [], ◌∷◌, ◌++◌, All, length, map, get_or, Some, None, nat_eq, if◌then◌else◌, refl, sym, ap, subst, ◌∙◌, arith, true≢false, ◌⊎◌, inl, inr, zero, suc}
use Rattle.std.proofs.lemmas.Map.Steps.{length-le_from_distinct_below}
use Rattle.std.proofs.lemmas.Map.Keys.{IsDistinct-from_apart}
use Rattle.std.proofs.lemmas.Bool.{eqb-true, cases_lt}
use Rattle.std.proofs.lemmas.Bool.Decides.{nat_tests}
use Rattle.std.proofs.lemmas.List.{map-append, length-map, length-append}
use Rattle.std.proofs.lemmas.List.Elements.{All-nil, All-cons, All-push, All-contains}
use Rattle.std.proofs.lemmas.Option.{same_Some, none-some}
use Rattle.name_scope.specs.Newest.{newest}
use Rattle.unit_types.specs.declared.header.Signature.{Signature}
use Rattle.unit_types.specs.Headings.{AreCounted}
use Rattle.unit_types.proofs.Names.{any_contains}

module _ (functions : List Signature) (numbers : List (ℕ × ℕ)) (c : AreCounted functions numbers) where
  long : length (map (λ (s : Signature). s.name) functions) ≡ length functions
  long = length-map functions (λ s. s.name)

  -- no two of the names are the same, nor is one that has no number among them
  apart : (x : ℕ) → newest x numbers ≡ None → (i j d : ℕ) → i < j → j < length (x ∷ map (λ s. s.name) functions) → eqb (get_or (x ∷ map (λ s. s.name) functions) i d) (get_or (x ∷ map (λ s. s.name) functions) j d) ≡ false
  apart x new i j d less inside = by (eqb (get_or (x ∷ map (λ s. s.name) functions) i d) (get_or (x ∷ map (λ s. s.name) functions) j d)) refl
    where
      differ : (i j : ℕ) → i < j → j < length (x ∷ map (λ s. s.name) functions) → get_or (x ∷ map (λ s. s.name) functions) i d ≢ get_or (x ∷ map (λ s. s.name) functions) j d
      differ i zero less inside e = absurd (omega (arith, less))
      differ zero (suc j) less inside e =
          let n = c.numbered j d (omega (arith, inside, long)) in
          absurd (none-some j (sym new ∙ ap (λ y. newest y numbers) e ∙ n))
      differ (suc i) (suc j) less inside e =
          let n = c.numbered i d (omega (arith, less, inside, long)) in
          let m = c.numbered j d (omega (arith, inside, long)) in
          let same : i ≡ j = same_Some i j (sym n ∙ ap (λ y. newest y numbers) e ∙ m) in
          absurd (omega (arith, less, same))

      by : (b : Bool) → eqb (get_or (x ∷ map (λ s. s.name) functions) i d) (get_or (x ∷ map (λ s. s.name) functions) j d) ≡ b → b ≡ false
      by false is = refl
      by true is = absurd (differ i j less inside (eqb-true _ _ is))

  -- there is a number for one more
  pub one_more : (x : ℕ) → newest x numbers ≡ None → x < 2 ^ 32 → length functions < 2 ^ 32
  one_more x new small =
      let ns : List ℕ = x ∷ map (λ s. s.name) functions in
      let all : All (λ y. y < 2 ^ 32) ns = All-cons (λ y. y < 2 ^ 32) x (map (λ s. s.name) functions) small c.small in
      let few = length-le_from_distinct_below ns (2 ^ 32) (IsDistinct-from_apart eqb ns (apart x new)) (λ q h. All-contains (λ y. y < 2 ^ 32) ns q all (any_contains q ns h)) in
      omega (arith, few, long)

  -- a number more
  pub counted_numbers : (x n : ℕ) → newest x numbers ≡ None → AreCounted functions ((x, n) ∷ numbers)
  counted_numbers x n new = record { small = c.small; numbered = λ i d l. by i d l (nat_eq (get_or (map (λ s. s.name) functions) i d) x) refl }
    where
      by : (i d : ℕ) → i < length functions → (b : Bool) → nat_eq (get_or (map (λ s. s.name) functions) i d) x ≡ b → (if b then Some n else newest (get_or (map (λ s. s.name) functions) i d) numbers) ≡ Some i
      by i d l true e = absurd (none-some i (sym new ∙ ap (λ y. newest y numbers) (sym (eqb-true _ _ e)) ∙ c.numbered i d l))
      by i d l false e = c.numbered i d l

pub counted_none : (functions : List Signature) (numbers : List (ℕ × ℕ)) → functions ≡ [] → AreCounted functions numbers
counted_none functions numbers none = subst (λ fs. AreCounted fs numbers) (sym none) (record { small = All-nil (λ x. x < 2 ^ 32); numbered = λ i d l. absurd (omega (arith, l)) })

at_append : (xs : List ℕ) (x i d : ℕ) → i < length xs → get_or (xs ++ x ∷ []) i d ≡ get_or xs i d
at_append [] x i d l = absurd (omega (arith, l))
at_append (y ∷ ys) x zero d l = refl
at_append (y ∷ ys) x (suc i) d l = at_append ys x i d (omega (arith, l))

at_end : (xs : List ℕ) (x i d : ℕ) → i ≡ length xs → get_or (xs ++ x ∷ []) i d ≡ x
at_end [] x zero d e = refl
at_end [] x (suc i) d e = absurd (omega (arith, e))
at_end (y ∷ ys) x zero d e = absurd (omega (arith, e))
at_end (y ∷ ys) x (suc i) d e = at_end ys x i d (omega (arith, e))

-- a function more, with its number
pub counted_more : (functions : List Signature) (numbers : List (ℕ × ℕ)) (s : Signature) (n : ℕ) → AreCounted functions numbers → newest s.name numbers ≡ None → s.name < 2 ^ 32 → n ≡ length functions
    → AreCounted (functions ++ s ∷ []) ((s.name, n) ∷ numbers)
counted_more functions numbers s n c new small count =
    let ns : List ℕ = map (λ s. s.name) functions in
    let all : map (λ (s : Signature). s.name) (functions ++ s ∷ []) ≡ ns ++ s.name ∷ [] = map-append (λ s. s.name) functions (s ∷ []) in
    let before = counted_numbers functions numbers c s.name n new in
    let long : length ns ≡ length functions = length-map functions (λ s. s.name) in
    record {
      numbered = λ i d l. subst (λ l. newest (get_or l i d) ((s.name, n) ∷ numbers) ≡ Some i) (sym all) (elim (place i (length-append functions (s ∷ [])) l) [
        | inl old ↦ ap (λ y. newest y ((s.name, n) ∷ numbers)) (at_append ns s.name i d (omega (arith, long, old))) ∙ before.numbered i d old
        | inr last ↦
            let there : i ≡ length ns = omega (arith, long, last) in
            let same : n ≡ i = omega (arith, count, last) in
            ap (λ y. newest y ((s.name, n) ∷ numbers)) (at_end ns s.name i d there) ∙ here (nat_eq s.name s.name) refl ∙ ap Some same
      ]);
      small = subst (All (λ x. x < 2 ^ 32)) (sym all) (All-push (λ x. x < 2 ^ 32) ns s.name c.small small);
    }
  where
    here : (b : Bool) → nat_eq s.name s.name ≡ b → (if b then Some n else newest s.name numbers) ≡ Some n
    here true is = refl
    here false is = let t : nat_eq s.name s.name ≡ true = grind (arith, nat_tests) in absurd (true≢false (sym t ∙ is))

    place : (i : ℕ) → length (functions ++ s ∷ []) ≡ length functions + 1 → i < length (functions ++ s ∷ []) → (i < length functions) ⊎ (i ≡ length functions)
    place i e l = elim (cases_lt i (length functions)) [ inl below ↦ inl below | inr above ↦ inr (omega (arith, above, e, l)) ]
