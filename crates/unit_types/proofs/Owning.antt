-- Names of functions that are given.
use Rattle.std.proofs.Common.{◌≡◌, ℕ, ◌+◌, Bool, true, false, List, [], ◌∷◌, ◌++◌, map, Some, None, Option, nat_eq, slice_get, Contains, if◌then◌else◌, sym, ap, subst, ◌∙◌, arith, inl, inr, Result, Ok, Err, OnOk, is_some, true≢false}
use Rattle.sisal_lex.specs.Words.{beside}
use Rattle.std.proofs.lemmas.List.{map-append}
use Rattle.std.proofs.lemmas.Bool.Decides.{nat_tests}
use Rattle.name_scope.specs.Newest.{newest}
use Rattle.unit_types.specs.Headings.{numbering, IsOwnName, IsFree, AreOwnNames, AreOwn}
use Rattle.unit_types.proofs.Names.{contains_none, contains_cases, distinct_more}

-- a name that has a number keeps one
kept : (x n : ℕ) (before : List (ℕ × ℕ)) (xs : List ℕ) → (newest x before ≡ None → ⊥) → newest x (numbering n before xs) ≡ None → ⊥
kept x n before [] h e = h e
kept x n before (y ∷ ys) h e = kept x (n + 1) ((y, n) ∷ before) ys (by (nat_eq x y)) e
  where
    by : (b : Bool) → (if b then Some n else newest x before) ≡ None → ⊥
    by true q = cc
    by false q = h q

-- each name has a number
numbered_in : (x n : ℕ) (before : List (ℕ × ℕ)) (xs : List ℕ) → Contains xs x → newest x (numbering n before xs) ≡ None → ⊥
numbered_in x n before [] c e = contains_none x c
numbered_in x n before (y ∷ ys) c e = elim (contains_cases y ys x c) [
  | inl same ↦ kept x (n + 1) ((y, n) ∷ before) ys (here same) e
  | inr there ↦ numbered_in x (n + 1) ((y, n) ∷ before) ys there e
]
  where
    at : (b : Bool) → b ≡ true → (if b then Some n else newest x before) ≡ None → ⊥
    at true s q = cc
    at false s q = cc

    here : y ≡ x → newest x ((y, n) ∷ before) ≡ None → ⊥
    here same q = at (nat_eq x y) (grind (arith, nat_tests)) q

own_append : (sp : List (List ℕ)) (xs : List ℕ) (x : ℕ) → AreOwnNames sp xs → IsOwnName sp x → AreOwnNames sp (xs ++ x ∷ [])
own_append sp [] x h k = (k, tt)
own_append sp (y ∷ ys) x h k = (h.0, own_append sp ys x h.1 k)

own_more : (sp : List (List ℕ)) (numbers : List (ℕ × ℕ)) (names : List ℕ) (x : ℕ) → numbers ≡ numbering 0 [] names → IsFree sp numbers x → AreOwn sp names → AreOwn sp (names ++ x ∷ [])
own_more sp numbers names x e f o = record {
  distinct = distinct_more x names (λ c. numbered_in x 0 [] names c (ap (newest x) (sym e) ∙ f.new)) o.distinct;
  own = own_append sp names x o.own f.own;
}

-- a function more
pub owned_more : {A R F : Type 0} (name : A → ℕ) (sp : List (List ℕ)) (numbers : List (ℕ × ℕ)) (old new : List A) (x : A) (r : Result R F) → OnOk r (new ≡ old ++ x ∷ []) → OnOk r (IsFree sp numbers (name x))
    → numbers ≡ numbering 0 [] (map name old) → AreOwn sp (map name old) → OnOk r (AreOwn sp (map name new))
owned_more name sp numbers old new x (Ok v) e f n o =
    subst (AreOwn sp) (sym (ap (map name) e ∙ map-append name old (x ∷ []))) (own_more sp numbers (map name old) (name x) n f o)
owned_more name sp numbers old new x (Err v) e f n o = tt

some_is : {A : Type 0} {x y : A} → Some x ≡ Some y → x ≡ y
some_is h = cc

-- a name beside which something stands in a table
pub built_name : {B : Type 0} (table : List (List ℕ × B)) (spellings : List (List ℕ)) (x : ℕ) (s : List ℕ) (o : Option B) (b : Bool) → Some s ≡ slice_get spellings x → o ≡ beside s table → b ≡ is_some o → b ≡ true
    → (spelling : List ℕ) × (slice_get spellings x ≡ Some spelling) × ((v : B) × (beside spelling table ≡ Some v))
built_name table spellings x s None b there is some holds = absurd (true≢false (sym holds ∙ some))
built_name table spellings x s (Some v) b there is some holds = (s, sym there, (v, sym is))

-- a name beside which nothing stands in a table
pub own_name : {B : Type 0} (table : List (List ℕ × B)) (spellings : List (List ℕ)) (x : ℕ) (s : List ℕ) (o : Option B) (b : Bool) → Some s ≡ slice_get spellings x → o ≡ beside s table → b ≡ is_some o → b ≡ false
    → (spelling : List ℕ) → slice_get spellings x ≡ Some spelling → beside spelling table ≡ None
own_name table spellings x s None b there is some none spelling e = let q : s ≡ spelling = some_is (there ∙ e) in ap (λ l. beside l table) (sym q) ∙ sym is
own_name table spellings x s (Some v) b there is some none spelling e = absurd (true≢false (sym some ∙ none))
