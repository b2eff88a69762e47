-- Facts on chains of entries, with the newest first.
use Rattle.std.proofs.Common.{◌≡◌, ℕ, ◌-◌, ◌<◌, zero, suc, slice_set, get_or, subst, All, inl, inr, Bool, true, false, List, [], ◌∷◌, ◌++◌, length, map, reverse, Option, Some, None, option_map, nat_eq, if◌then◌else◌, refl, sym, ◌∙◌, ap, arith, rules, slice_get, drop}
use Rattle.std.proofs.lemmas.List.{reverse-append, length-reverse, get_or-set_same, get_or-set_other}
use Rattle.std.proofs.lemmas.Grind.{reverse_onto}
use Rattle.std.proofs.lemmas.Bool.Decides.{eqb_tells}
use Rattle.name_scope.specs.declared.Entry.{Entry}
use Rattle.name_scope.specs.Newest.{newest}
use Rattle.name_scope.specs.Chain.{place_of, IsChained, IsIndexed}

some_is : {A : Type 0} {x y : A} → Some x ≡ Some y → x ≡ y
some_is h = cc

below_next : (b : Bool) (n m i : ℕ) (o : Option ℕ) → (if b then Some n else o) ≡ Some i → n < m → (o ≡ Some i → i < m) → i < m
below_next true n m i o h more rest = let e : n ≡ i = some_is h in omega arith
below_next false n m i o h more rest = rest h

pub place_below : {T : Type 0} (x i : ℕ) (es : List (Entry T)) → place_of x es ≡ Some i → i < length es
place_below x i [] h = cc
place_below x i (e ∷ es) h =
    below_next (nat_eq x e.name) (length es) (length (e ∷ es)) i (place_of x es) h (omega arith) (λ q. let n : i < length es = place_below x i es q in omega arith)

seam : {X : Type 0} (xs : List X) (x : X) → slice_get (xs ++ x ∷ []) (length xs) ≡ Some x
seam [] x = refl
seam (y ∷ xs) x = seam xs x

left : {X : Type 0} (xs ys : List X) (i : ℕ) → i < length xs → slice_get (xs ++ ys) i ≡ slice_get xs i
left [] ys i h = absurd (omega arith)
left (x ∷ xs) ys zero h = refl
left (x ∷ xs) ys (suc i) h = left xs ys i (omega arith)

newest_next : {T : Type 0} (b : Bool) (n i : ℕ) (o : Option ℕ) (v : T) (w got : Option T) → (if b then Some n else o) ≡ Some i
    → (n ≡ i → Some v ≡ got) → (o ≡ Some i → w ≡ got) → (if b then Some v else w) ≡ got
newest_next true n i o v w got h here rest = here (some_is h)
newest_next false n i o v w got h here rest = rest h

at_seam : {X : Type 0} (xs : List X) (x : X) (i : ℕ) → length xs ≡ i → slice_get (reverse (x ∷ xs)) i ≡ Some x
at_seam xs x i q =
    ap (λ ys. slice_get ys i) (reverse_onto xs x [])
    ∙ ap (λ n. slice_get (reverse xs ++ x ∷ []) n) (sym q ∙ sym (length-reverse xs))
    ∙ seam (reverse xs) x

before : {X : Type 0} (xs : List X) (x : X) (i : ℕ) → i < length xs → slice_get (reverse (x ∷ xs)) i ≡ slice_get (reverse xs) i
before xs x i h =
    let n : length (reverse xs) ≡ length xs = length-reverse xs in
    ap (λ ys. slice_get ys i) (reverse_onto xs x []) ∙ left (reverse xs) (x ∷ []) i (omega (arith, n, h))

none_next : {T : Type 0} (b : Bool) (n : ℕ) (o : Option ℕ) (v : T) (w : Option T) → (if b then Some n else o) ≡ None → (o ≡ None → w ≡ None) → (if b then Some v else w) ≡ None
none_next true n o v w h rest = cc
none_next false n o v w h rest = rest h

pub found : {T : Type 0} (x i : ℕ) (es : List (Entry T)) → place_of x es ≡ Some i
    → newest x (map (λ e. (e.name, e.value)) es) ≡ option_map (λ e. e.value) (slice_get (reverse es) i)
found x i [] h = cc
found {T} x i (e ∷ es) h =
    newest_next (nat_eq x e.name) (length es) i (place_of x es) e.value _ _ h
    (λ q. ap (option_map (λ e. e.value)) (sym (at_seam es e i q)))
    (λ q. found x i es q ∙ ap (option_map (λ e. e.value)) (sym (before es e i (place_below x i es q))))

pub not_found : {T : Type 0} (x : ℕ) (es : List (Entry T)) → place_of x es ≡ None → newest x (map (λ e. (e.name, e.value)) es) ≡ None
not_found x [] h = refl
not_found {T} x (e ∷ es) h = none_next (nat_eq x e.name) (length es) (place_of x es) e.value _ h (not_found x es)

-- what is left when the newest entry ends
pub record Ends {T : Type 0} (rest : List (Entry T)) (e : Entry T) (places : List (Option ℕ)) : Type 0 where
  pub fits : e.name < length places
  pub indexed : IsIndexed rest (slice_set places e.name e.hidden)

turned : {X : Type 0} (xs rest : List X) (x : X) → xs ≡ rest ++ x ∷ [] → reverse xs ≡ x ∷ reverse rest
turned xs rest x h = ap reverse h ∙ reverse-append rest (x ∷ [])

hidden_again : {T : Type 0} (e : Entry T) (rest : List (Entry T)) (places : List (Option ℕ)) → e.name < length places → e.hidden ≡ place_of e.name rest
    → ((x : ℕ) → get_or places x None ≡ place_of x (e ∷ rest)) → (x : ℕ) → get_or (slice_set places e.name e.hidden) x None ≡ place_of x rest
hidden_again {T} e rest places fits h placed x = elim (eqb_tells x e.name) [
  | inl same ↦ ap (λ n. get_or (slice_set places e.name e.hidden) n None) same.1 ∙ get_or-set_same places e.name e.hidden None fits ∙ h ∙ ap (λ n. place_of n rest) (sym same.1)
  | inr other ↦ get_or-set_other places e.name x e.hidden None other.1 ∙ placed x ∙ ap (λ b. if b then Some (length rest) else place_of x rest) other.0
]

pub ends : {T : Type 0} (es rest : List (Entry T)) (e : Entry T) (places : List (Option ℕ)) → es ≡ rest ++ e ∷ [] → IsIndexed es places → Ends rest e places
ends {T} es rest e places h i =
    let turn : reverse es ≡ e ∷ reverse rest = turned es rest e h in
    let chain : IsChained (e ∷ reverse rest) = subst IsChained turn i.chained in
    let P : List (Entry T) → Type 0 = λ xs. All (λ d. d.name < length places) xs in
    let fit : All (λ d. d.name < length places) (e ∷ reverse rest) = subst P turn i.fits in
    let first : e.name < length places = fit 0 e (omega arith) in
    let Q : List (Entry T) → Type 0 = λ xs. (x : ℕ) → get_or places x None ≡ place_of x xs in
    let long : length (slice_set places e.name e.hidden) ≡ length places = search rules in
    record {
      fits = first;
      indexed = record {
        chained = chain.1;
        fits = λ k d n. let m : (get_or (reverse rest) k d).name < length places = fit (suc k) d (omega (arith, n)) in subst (λ q. (get_or (reverse rest) k d).name < q) (sym long) m;
        placed = hidden_again e (reverse rest) places first chain.0 (subst Q turn i.placed);
      };
    }

pub shorter : {X : Type 0} (xs : List X) (n : ℕ) → n < length xs → drop (length (drop 1 xs) - n) (drop 1 xs) ≡ drop (length xs - n) xs
shorter [] n h = absurd (omega arith)
shorter (x ∷ xs) n h = let e : length (x ∷ xs) - n ≡ suc (length xs - n) = omega arith in ap (λ k. drop k (x ∷ xs)) (sym e)
