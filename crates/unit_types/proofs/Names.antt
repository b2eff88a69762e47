-- Names that stand twice.
use Rattle.std.proofs.Common.{◌≡◌, ℕ, zero, suc, ◌+◌, Bool, true, false, not, List, [], ◌∷◌, ◌++◌, drop, flat_map, Option, Some, IfSome, nat_eq, Contains, refl, sym, ap, subst, ◌∙◌, arith, append_assoc, ◌⊎◌, inl, inr, true≢false, if◌then◌else◌}
use Rattle.std.specs.List.{list_any}
use Rattle.std.proofs.lemmas.List.{map-append}
use Rattle.std.proofs.lemmas.List.Elements.{Contains-push_cases, Contains-append_left, Contains-append_right}
use Rattle.std.proofs.lemmas.Bool.Decides.{nat_tests}
use Rattle.indexmap.specs.IndexSet.{insert_key}
use Rattle.indexmap.proofs.CallerLemmas.{Contains-list_any}
use Rattle.sisal_tree.specs.declared.unit.Field.{Field}
use Rattle.sisal_tree.specs.declared.unit.Named.{Named}
use Rattle.typed_tree.specs.Scopes.{AreDistinct}
use Rattle.typed_tree.specs.Typing.{names_of}
use Rattle.typed_tree.specs.Breaks.{IsTwice, twice, later}

pub not_false : (b : Bool) → not b ≡ false → b ≡ true
not_false true h = refl
not_false false h = cc

pub not_true : (b : Bool) → not b ≡ true → b ≡ false
not_true true h = cc
not_true false h = refl

pub same_number : (x y : ℕ) → nat_eq x y ≡ true → x ≡ y
same_number x y h = grind (arith, nat_tests)

pub any_contains : (x : ℕ) (xs : List ℕ) → list_any (nat_eq x) xs ≡ true → Contains xs x
any_contains x xs h = Contains-list_any nat_eq same_number xs x h

pub contains_none : {P : Type 0} (y : ℕ) → Contains [] y → P
contains_none y h = absurd (omega (arith, h.1))

pub contains_cases : {A : Type 0} (x : A) (xs : List A) (y : A) → Contains (x ∷ xs) y → (x ≡ y) ⊎ Contains xs y
contains_cases x xs y (zero, h, e) = inl e
contains_cases x xs y (suc k, h, e) = inr (k, omega (arith, h), e)

-- one more name
pub distinct_more : (x : ℕ) (xs : List ℕ) → (Contains xs x → ⊥) → AreDistinct xs → AreDistinct (xs ++ x ∷ [])
distinct_more x [] absent h = ((λ c. contains_none x c), tt)
distinct_more x (y ∷ ys) absent h = (
  (λ c. elim (Contains-push_cases ys x y c) [ inl there ↦ h.0 there | inr same ↦ absent (subst (Contains (y ∷ ys)) (sym same) (0, omega arith, refl)) ]),
  distinct_more x ys (λ c. absent (suc c.0, omega (arith, c.1), c.2)) h.1,
)

any_here : (x : ℕ) (xs : List ℕ) → Contains xs x → list_any (nat_eq x) xs ≡ true
any_here x [] h = contains_none x h
any_here x (y ∷ ys) h = by (nat_eq x y) (contains_cases y ys x h) (λ c. any_here x ys c)
  where
    by : (b : Bool) → (y ≡ x) ⊎ Contains ys x → (Contains ys x → list_any (nat_eq x) ys ≡ true) → list_any (nat_eq x) (y ∷ ys) ≡ true
    by b (inl same) rest = grind (arith, nat_tests)
    by b (inr there) rest = let r : list_any (nat_eq x) ys ≡ true = rest there in grind (arith, nat_tests)

pub distinct_inserted : (x : ℕ) (xs : List ℕ) → AreDistinct xs → AreDistinct (insert_key nat_eq xs x)
distinct_inserted x xs h = by (list_any (nat_eq x) xs) refl
  where
    by : (b : Bool) → list_any (nat_eq x) xs ≡ b → AreDistinct (if b then xs else xs ++ x ∷ [])
    by true e = h
    by false e = distinct_more x xs (λ c. true≢false (sym (any_here x xs c) ∙ e)) h

-- a name that stands before it
pub twice_at : (xs : List Named) (n : Named) (ys : List Named) → Contains (names_of xs) n.name → IsTwice (xs ++ n ∷ ys) n.line
twice_at [] n ys h = contains_none n.name h
twice_at (x ∷ xs) n ys h = elim (contains_cases x.name (names_of xs) n.name h) [
  | inl same ↦ twice (Contains-append_right xs (n ∷ ys) n (0, omega arith, refl)) same
  | inr there ↦ later (twice_at xs n ys there)
]

-- the name at a place of a list stands among those before it
pub twice_in : (before names rest : List Named) (seen : List ℕ) (n : Named) → (xs : List Named) × (names_of xs ≡ seen) × (xs ++ (n ∷ rest) ≡ before ++ names) → Contains seen n.name → IsTwice (before ++ names) n.line
twice_in before names rest seen n h c = subst (λ l. IsTwice l n.line) h.2 (twice_at h.0 n rest (subst (λ l. Contains l n.name) (sym h.1) c))

-- one name more
pub more_before : (all rest : List Named) (seen : List ℕ) (n : Named) → (xs : List Named) × (names_of xs ≡ seen) × (xs ++ (n ∷ rest) ≡ all)
    → (xs : List Named) × (names_of xs ≡ seen ++ n.name ∷ []) × (xs ++ rest ≡ all)
more_before all rest seen n h = (h.0 ++ n ∷ [], map-append (λ n. n.name) h.0 (n ∷ []) ∙ ap (λ l. l ++ n.name ∷ []) h.1, append_assoc h.0 (n ∷ []) rest ∙ h.2)

-- ---- names of parameters

-- the names of the fields up to a place are these
abbrev pub AreNamesTo : List Field → ℕ → List ℕ → Type 0
AreNamesTo fields i seen = (xs : List Named) × (names_of xs ≡ seen) × (xs ++ flat_map (λ f. f.names) (drop i fields) ≡ flat_map (λ f. f.names) fields)

pub names_more : (fields : List Field) (i : ℕ) (f : Field) (seen later : List ℕ) → drop i fields ≡ f ∷ drop (i + 1) fields → later ≡ seen ++ names_of f.names → AreNamesTo fields i seen → AreNamesTo fields (i + 1) later
names_more fields i f seen all e adds h = (
  h.0 ++ f.names,
  map-append (λ n. n.name) h.0 f.names ∙ ap (λ l. l ++ names_of f.names) h.1 ∙ sym adds,
  append_assoc h.0 f.names (flat_map (λ f. f.names) (drop (i + 1) fields)) ∙ ap (λ l. h.0 ++ flat_map (λ f. f.names) l) (sym e) ∙ h.2,
)

-- what stands twice in a list stands twice in a longer one
pub twice_append : {xs : List Named} {line : ℕ} (ys : List Named) → IsTwice xs line → IsTwice (xs ++ ys) line
twice_append ys (twice {m = m} {ns = ns} c e) = twice (Contains-append_left ns ys m c) e
twice_append ys (later t) = later (twice_append ys t)

pub twice_in_fields : (fields : List Field) (i : ℕ) (f : Field) (names : List Named) (seen : List ℕ) (o : Option ℕ) (line : ℕ) → drop i fields ≡ f ∷ drop (i + 1) fields → names ≡ f.names → AreNamesTo fields i seen
    → IfSome o (λ line. (before : List Named) → names_of before ≡ seen → IsTwice (before ++ names) line) → o ≡ Some line → IsTwice (flat_map (λ f. f.names) fields) line
twice_in_fields fields i f names seen o line e same h told is =
    let t : IsTwice (h.0 ++ names) line = subst (λ o. IfSome o (λ line. (before : List Named) → names_of before ≡ seen → IsTwice (before ++ names) line)) is told h.0 h.1 in
    let whole : (h.0 ++ names) ++ flat_map (λ f. f.names) (drop (i + 1) fields) ≡ flat_map (λ f. f.names) fields
    = append_assoc h.0 names (flat_map (λ f. f.names) (drop (i + 1) fields)) ∙ ap (λ l. h.0 ++ (l ++ flat_map (λ f. f.names) (drop (i + 1) fields))) same ∙ ap (λ l. h.0 ++ flat_map (λ f. f.names) l) (sym e) ∙ h.2 in
    subst (λ l. IsTwice l line) whole (twice_append (flat_map (λ f. f.names) (drop (i + 1) fields)) t)
