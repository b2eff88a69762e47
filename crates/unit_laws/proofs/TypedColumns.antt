-- Rows of typed values make typed multiples, and typed multiples rows of typed values.
use Rattle.std.proofs.Common.{◌≡◌, ℕ, zero, suc, ◌+◌, ◌<◌, ◌≤◌, Bool, true, false, ◌&&◌, List, [], ◌∷◌, ◌++◌, map, length, drop, get_or, Option, Some, refl, sym, ap, subst, ◌∙◌, arith}
use Rattle.std.specs.Prelude.{replicate, nat_eq}
use Rattle.std.specs.List.{list_all}
use Rattle.std.proofs.lemmas.Bool.{eqb-true}
use Rattle.flow_value.specs.declared.ty.Ty.{Ty}
use Rattle.flow_value.specs.declared.value.Val.{Val}
use Rattle.flow_value.specs.Well.{is_well}
use Rattle.if1_graph.specs.Types.{Sort, Plain, Many}
use Rattle.graph_meaning.specs.Carried.{Carried, Value, Spoiled, Name, Unfilled, val_of}
use Rattle.graph_meaning.specs.Carried as carried
use Rattle.graph_meaning.specs.Forms.{before, add_row, columns, columns_after, turn_columns, items, are_as_long, heads, rows_of, places_of}
use Rattle.typed_rows.proofs.Rows.{and_two}
use Rattle.unit_laws.specs.Typed.{Belongs, Fills}
use Rattle.unit_laws.proofs.TypedLists.{value-of}

-- ---- lists behind one another

pub first-part : (xs ys : List Carried) (i : ℕ) → i < length xs → get_or (xs ++ ys) i Unfilled ≡ get_or xs i Unfilled
first-part [] ys i lt = absurd (omega (arith, lt))
first-part (x ∷ xs) ys zero lt = refl
first-part (x ∷ xs) ys (suc i) lt = first-part xs ys i (omega (arith, lt))

pub second-part : (xs ys : List Carried) (j : ℕ) → get_or (xs ++ ys) (length xs + j) Unfilled ≡ get_or ys j Unfilled
second-part [] ys j = let same : 0 + j ≡ j = omega arith in ap (λ q. get_or ys q Unfilled) same
second-part (x ∷ xs) ys j = let same : suc (length xs) + j ≡ suc (length xs + j) = omega arith in ap (λ q. get_or (x ∷ (xs ++ ys)) q Unfilled) same ∙ second-part xs ys j

-- ---- rows into columns

-- the plain types at places
abbrev pub Plains : Type 0
Plains = ℕ → Option Sort

-- a multiple at each place that has a plain type, of values of that type
abbrev pub AreColumns : Plains → List Carried → Type 0
AreColumns at ms = (i : ℕ) (t : Ty) → at i ≡ Some (Plain t) → Belongs (Many t) (get_or ms i Unfilled)

before-well : (t : Ty) (v m : Carried) → Belongs (Plain t) v → Belongs (Many t) m → Belongs (Many t) (before (val_of v) m)
before-well t v (carried.Many vs) h k = let w = value-of t v h in subst (λ z. list_all (is_well t) (val_of z ∷ vs) ≡ true) (sym w.is) (rw (w.of, k) refl)
before-well t v (Spoiled c) h k = tt
before-well t v (Value w) h k = absurd k
before-well t v (Name text) h k = absurd k
before-well t v Unfilled h k = absurd k

pub row-added : (at : Plains) (row ms : List Carried) → length row ≡ length ms → Fills at row → AreColumns at ms → AreColumns at (add_row row ms)
row-added at [] ms e h k i t f = k i t f
row-added at (v ∷ vs) [] e h k i t f = absurd (omega (arith, e))
row-added at (v ∷ vs) (m ∷ ms) e h k zero t f = before-well t v m (h 0 (Plain t) f) (k 0 t f)
row-added at (v ∷ vs) (m ∷ ms) e h k (suc i) t f = row-added (λ i. at (suc i)) vs ms (omega (arith, e)) (λ i s g. h (suc i) s g) (λ i t g. k (suc i) t g) i t f

row-added-count : (row ms : List Carried) → length row ≡ length ms → length (add_row row ms) ≡ length ms
row-added-count [] ms e = refl
row-added-count (v ∷ vs) [] e = absurd (omega (arith, e))
row-added-count (v ∷ vs) (m ∷ ms) e = ap suc (row-added-count vs ms (omega (arith, e)))

empty-column : (n i : ℕ) (t : Ty) → i < n → Belongs (Many t) (get_or (replicate n (carried.Many [])) i Unfilled)
empty-column zero i t lt = absurd (omega (arith, lt))
empty-column (suc n) zero t lt = refl
empty-column (suc n) (suc i) t lt = empty-column n i t (omega (arith, lt))

copies-count : (n : ℕ) (c : Carried) → length (replicate n c) ≡ n
copies-count zero c = refl
copies-count (suc n) c = ap suc (copies-count n c)

-- each row has so many values of these types
abbrev pub AreRows : Plains → ℕ → List (List Carried) → Type 0
AreRows at n [] = Unit {0}
AreRows at n (row ∷ rows) = ((length row ≡ n) × Fills at row) × AreRows at n rows

-- only so many places have a type
abbrev pub IsBounded : Plains → ℕ → Type 0
IsBounded at n = (i : ℕ) (s : Sort) → at i ≡ Some s → i < n

pub columns-count : (n : ℕ) (rows : List (List Carried)) (at : Plains) → AreRows at n rows → length (columns n rows) ≡ n
columns-count n [] at h = copies-count n (carried.Many [])
columns-count n (row ∷ rows) at h = let c = columns-count n rows at h.1 in row-added-count row (columns n rows) (h.0.0 ∙ sym c) ∙ c

pub columns-well : (at : Plains) (n : ℕ) (rows : List (List Carried)) → IsBounded at n → AreRows at n rows → AreColumns at (columns n rows)
columns-well at n [] b h i t e = empty-column n i t (b i (Plain t) e)
columns-well at n (row ∷ rows) b h i t e = row-added at row (columns n rows) (h.0.0 ∙ sym (columns-count n rows at h.1)) h.0.1 (columns-well at n rows b h.1) i t e

columns-after-well : (at : Plains) (n : ℕ) (rows : List (List Carried)) (ms : List Carried) → AreRows at n rows → length ms ≡ n → AreColumns at ms → AreColumns at (columns_after rows ms)
columns-after-well at n [] ms h e k = k
columns-after-well at n (row ∷ rows) ms h e k = columns-after-well at n rows (add_row row ms) h.1 (row-added-count row ms (h.0.0 ∙ sym e) ∙ e) (row-added at row ms (h.0.0 ∙ sym e) h.0.1 k)

pub turns-well : (at : Plains) (n : ℕ) (row : List Carried) (rows : List (List Carried)) → IsBounded at n → AreRows at n (row ∷ rows) → AreColumns at (turn_columns (row ∷ rows))
turns-well at n row rows b h =
    columns-after-well at n (row ∷ rows) (replicate (length row) (carried.Many [])) h (copies-count (length row) (carried.Many []) ∙ h.0.0)
    (λ i t e. let lt = b i (Plain t) e in let same = h.0.0 in empty-column (length row) i t (omega (arith, lt, same)))

-- ---- columns into rows

-- a multiple of values, with so many at least
pub record IsColumn (t : Ty) (n : ℕ) (vs : List Val) : Type 0 where
  pub well : list_all (is_well t) vs ≡ true
  pub long : n ≤ length vs

-- a list of values at each place that has the type of a multiple, and so many lists
pub record AreLists (at : Plains) (n : ℕ) (ls : List (List Val)) : Type 0 where
  pub longs : (i : ℕ) → i < length ls → n ≤ length (get_or ls i [])
  pub wells : (i : ℕ) (t : Ty) → at i ≡ Some (Many t) → list_all (is_well t) (get_or ls i []) ≡ true

-- the values of one place after another belong to the elements' types
abbrev pub AreElements : Plains → List Carried → Type 0
AreElements at row = (i : ℕ) (t : Ty) → at i ≡ Some (Many t) → i < length row → Belongs (Plain t) (get_or row i Unfilled)

heads-right : (at : Plains) (n : ℕ) (ls : List (List Val)) → AreLists at (suc n) ls → (length (heads ls) ≡ length ls) × AreElements at (heads ls)
heads-right at n [] h = (refl, λ i t e lt. absurd (omega (arith, lt)))
heads-right at n ([] ∷ ls) h = absurd (let x = h.longs 0 (omega arith) in omega (arith, x))
heads-right at n ((v ∷ vs) ∷ ls) h =
    let r = heads-right (λ i. at (suc i)) n ls (record { longs = λ i lt. h.longs (suc i) (omega (arith, lt)); wells = λ i t e. h.wells (suc i) t e }) in
    (ap suc r.0, each r.1)
  where
    each : AreElements (λ i. at (suc i)) (heads ls) → AreElements at (Value v ∷ heads ls)
    each rest zero t e lt = (and_two (is_well t v) (list_all (is_well t) vs) (h.wells 0 t e)).0
    each rest (suc i) t e lt = rest i t e (omega (arith, lt))

all-dropped : (t : Ty) (vs : List Val) → list_all (is_well t) vs ≡ true → list_all (is_well t) (drop 1 vs) ≡ true
all-dropped t [] h = refl
all-dropped t (v ∷ vs) h = (and_two (is_well t v) (list_all (is_well t) vs) h).1

dropped-long : (n : ℕ) (vs : List Val) → suc n ≤ length vs → n ≤ length (drop 1 vs)
dropped-long n [] h = omega (arith, h)
dropped-long n (v ∷ vs) h = omega (arith, h)

dropped-at : (ls : List (List Val)) (i : ℕ) → get_or (map (drop 1) ls) i [] ≡ drop 1 (get_or ls i [])
dropped-at [] i = refl
dropped-at (l ∷ ls) zero = refl
dropped-at (l ∷ ls) (suc i) = dropped-at ls i

dropped-count : (ls : List (List Val)) → length (map (drop 1) ls) ≡ length ls
dropped-count [] = refl
dropped-count (l ∷ ls) = ap suc (dropped-count ls)

dropped : (at : Plains) (n : ℕ) (ls : List (List Val)) → AreLists at (suc n) ls → AreLists at n (map (drop 1) ls)
dropped at n ls h =
    record {
      longs = λ i lt. let c = dropped-count ls in subst (λ z. n ≤ length z) (sym (dropped-at ls i)) (dropped-long n (get_or ls i []) (h.longs i (omega (arith, lt, c))));
      wells = λ i t e. subst (λ z. list_all (is_well t) z ≡ true) (sym (dropped-at ls i)) (all-dropped t (get_or ls i []) (h.wells i t e));
    }

abbrev pub AreElementRows : Plains → ℕ → List (List Carried) → Type 0
AreElementRows at n [] = Unit {0}
AreElementRows at n (row ∷ rows) = ((length row ≡ n) × AreElements at row) × AreElementRows at n rows

pub rows-right : (at : Plains) (n : ℕ) (ls : List (List Val)) → AreLists at n ls → AreElementRows at (length ls) (rows_of n ls)
rows-right at zero ls h = tt
rows-right at (suc n) ls h =
    (heads-right at n ls h, subst (λ k. AreElementRows at k (rows_of n (map (drop 1) ls))) (dropped-count ls) (rows-right at n (map (drop 1) ls) (dropped at n ls h)))

-- ---- multiples without an error

items-count : (ms : List Carried) → length (map items ms) ≡ length ms
items-count [] = refl
items-count (m ∷ ms) = ap suc (items-count ms)

items-at : (ms : List Carried) (i : ℕ) → i < length ms → get_or (map items ms) i [] ≡ items (get_or ms i Unfilled)
items-at [] i lt = absurd (omega (arith, lt))
items-at (m ∷ ms) zero lt = refl
items-at (m ∷ ms) (suc i) lt = items-at ms i (omega (arith, lt))

items-well : (t : Ty) (m : Carried) → Belongs (Many t) m → list_all (is_well t) (items m) ≡ true
items-well t (carried.Many vs) h = h
items-well t (Spoiled c) h = refl
items-well t (Value v) h = absurd h
items-well t (Name text) h = absurd h
items-well t Unfilled h = absurd h

all-long : (n : ℕ) (ms : List Carried) (i : ℕ) → i < length ms → list_all (λ o. nat_eq (length (items o)) n) ms ≡ true → length (items (get_or ms i Unfilled)) ≡ n
all-long n [] i lt h = absurd (omega (arith, lt))
all-long n (m ∷ ms) zero lt h = eqb-true (length (items m)) n (left (nat_eq (length (items m)) n) h)
  where
    left : (b : Bool) → (b && list_all (λ o. nat_eq (length (items o)) n) ms) ≡ true → b ≡ true
    left true e = refl
    left false e = absurd cc
all-long n (m ∷ ms) (suc i) lt h = all-long n ms i (omega (arith, lt)) (right (nat_eq (length (items m)) n) h)
  where
    right : (b : Bool) → (b && list_all (λ o. nat_eq (length (items o)) n) ms) ≡ true → list_all (λ o. nat_eq (length (items o)) n) ms ≡ true
    right true e = e
    right false e = absurd cc

as-long : (ms : List Carried) (i : ℕ) → i < length ms → are_as_long ms ≡ true → length (items (get_or ms i Unfilled)) ≡ places_of ms
as-long [] i lt h = absurd (omega (arith, lt))
as-long (m ∷ ms) zero lt h = refl
as-long (m ∷ ms) (suc i) lt h = all-long (length (items m)) ms i (omega (arith, lt)) h

pub lists-right : (at : Plains) (ms : List Carried) → IsBounded at (length ms) → Fills at ms → are_as_long ms ≡ true → AreLists at (places_of ms) (map items ms)
lists-right at ms b h long =
    record {
      longs = λ i lt.
          let c = items-count ms in
          let l = as-long ms i (omega (arith, lt, c)) long in
          subst (λ z. places_of ms ≤ length z) (sym (items-at ms i (omega (arith, lt, c)))) (omega (arith, l));
      wells = λ i t e. subst (λ z. list_all (is_well t) z ≡ true) (sym (items-at ms i (b i (Many t) e))) (items-well t (get_or ms i Unfilled) (h i (Many t) e));
    }

pub items-many : (ms : List Carried) → length (map items ms) ≡ length ms
items-many = items-count
