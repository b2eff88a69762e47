-- Cells in a row, columns and elements.
use Rattle.std.proofs.Common.{◌≡◌, ℕ, zero, suc, ◌+◌, ◌-◌, ◌<◌, ◌≤◌, ◌&&◌, Bool, true, false, if◌then◌else◌, List, [], ◌∷◌, ◌++◌, length, map, drop, replicate, get_or, nat_eq, refl, sym, ap, ◌∙◌, subst, arith, ltb}
use Rattle.std.specs.List.{list_all}
use Rattle.std.proofs.lemmas.Bool.{le-ltb, le-leb}
use Rattle.run_code.specs.Val.{Val}
use Rattle.run_code.specs.Carried.{Carried, Value, Many, Spoiled, Name, Unfilled, val_of}
use Rattle.run_code.specs.Forms.{before, add_row, columns, turn_columns, items, are_as_long, places_of, heads}
use Rattle.run_code.proofs.Columns.{get-first, get-second, more-turns}
use Rattle.run_code.specs.Cells.{Cells, cells_at, write}
use Rattle.run_code.specs.Collections.{alone, behind, behind_all}
use Rattle.run_code.specs.Machine.{begun, counter, elements}
use Rattle.run_code.specs.Refolds.{AllLong}
use Rattle.run_laws.proofs.Cells.{HoldsAll, as-many, held-cells, write-in}
use Rattle.run_laws.specs.Facts.{AreLong}

pub write-above : (out w : ℕ) (rs : List Carried) (cells : Cells) (j : ℕ) → out + w ≤ j → write out w rs cells j ≡ cells j
write-above out w rs cells j le =
    ap (λ b. if b && ltb j (out + w) then get_or rs (j - out) Unfilled else cells j) (le-leb out j (omega (arith, le)))
    ∙ ap (λ b. if b then get_or rs (j - out) Unfilled else cells j) (le-ltb j (out + w) le)

pub cells-length : (i n : ℕ) → length (cells_at i n) ≡ n
cells-length i zero = refl
cells-length i (suc n) = ap suc (cells-length (suc i) n)

pub map-length : {A B : Type 0} (f : A → B) (xs : List A) → length (map f xs) ≡ length xs
map-length f [] = refl
map-length f (x ∷ xs) = ap suc (map-length f xs)

pub row-length : (cells : Cells) (base lo i n : ℕ) (ks : List Carried) → HoldsAll cells base lo (cells_at i n) ks → length ks ≡ n
row-length cells base lo i n ks h = sym (as-many cells base lo (cells_at i n) ks h) ∙ cells-length i n

-- a row that is written
pub row-held : (cells : Cells) (base out n : ℕ) (ks : List Carried) (top : ℕ) → length ks ≡ n → out + n ≤ top → HoldsAll (write (base + out) n ks cells) base top (cells_at out n) ks
row-held cells base out n ks top e le =
    subst (λ x. HoldsAll (write (base + out) n ks cells) base top (cells_at out x) ks) e
    (held-cells (write (base + out) n ks cells) base top out ks (omega (arith, e, le))
    (λ j lt. ap (write (base + out) n ks cells) (omega arith) ∙ write-in (base + out) n ks cells j (omega (arith, lt, e))))

pub append-length : (xs ys : List Carried) → length (xs ++ ys) ≡ length xs + length ys
append-length [] ys = omega arith
append-length (x ∷ xs) ys = let e = append-length xs ys in step (length xs) (length ys) (length (xs ++ ys)) e
  where
    step : (a b c : ℕ) → c ≡ a + b → suc c ≡ suc a + b
    step a b c e = omega (arith, e)

-- two rows that are written, one behind the other
pub rows-held : (cells : Cells) (base out n m : ℕ) (ks ms : List Carried) (top : ℕ) → length ks ≡ n → length ms ≡ m → (out + n) + m ≤ top
    → HoldsAll (write (base + out) (n + m) (ks ++ ms) cells) base top (cells_at out n) ks × HoldsAll (write (base + out) (n + m) (ks ++ ms) cells) base top (cells_at (out + n) m) ms
rows-held cells base out n m ks ms top e f le = (
  subst (λ x. HoldsAll now base top (cells_at out x) ks) e (held-cells now base top out ks (omega (arith, e, le))
      (λ j lt. ap now (omega arith) ∙ (write-in (base + out) (n + m) (ks ++ ms) cells j (omega (arith, lt, e)) ∙ get-first ks ms j lt))),
  subst (λ x. HoldsAll now base top (cells_at (out + n) x) ms) f (held-cells now base top (out + n) ms (omega (arith, f, le))
      (λ j lt. ap now (omega arith) ∙ (write-in (base + out) (n + m) (ks ++ ms) cells (n + j) (omega (arith, lt, f))
      ∙ (ap (λ x. get_or (ks ++ ms) (x + j) Unfilled) (sym e) ∙ get-second ks ms j)))),
)
  where
    now : Cells
    now = write (base + out) (n + m) (ks ++ ms) cells

pub alone-length : (ks : List Carried) → length (map alone ks) ≡ length ks
alone-length [] = refl
alone-length (k ∷ ks) = ap suc (alone-length ks)

pub behind-length : (ms ks : List Carried) → length ms ≡ length ks → length (behind_all ms ks) ≡ length ks
behind-length [] [] e = refl
behind-length [] (k ∷ ks) e = absurd (omega (arith, e))
behind-length (m ∷ ms) [] e = refl
behind-length (m ∷ ms) (k ∷ ks) e = ap suc (behind-length ms ks (omega (arith, e)))

pub replicate-length : (m : ℕ) (k : Carried) → length (replicate m k) ≡ m
replicate-length zero k = refl
replicate-length (suc m) k = ap suc (replicate-length m k)

-- ---- columns of rows that come one after another

-- the columns with these rows behind them
abbrev pub with_rows : List (List Carried) → List Carried → List Carried
with_rows [] cols = cols
with_rows (r ∷ rs) cols = with_rows rs (behind_all cols r)

before-behind : (v : Val) (m k : Carried) → before v (behind m k) ≡ behind (before v m) k
before-behind v (Value x) k = refl
before-behind v (Many vs) k = refl
before-behind v (Spoiled c) k = refl
before-behind v (Name t) k = refl
before-behind v Unfilled k = refl

row-behind : (row ms ks : List Carried) → add_row row (behind_all ms ks) ≡ behind_all (add_row row ms) ks
row-behind [] ms ks = refl
row-behind (v ∷ row) [] ks = refl
row-behind (v ∷ row) (m ∷ ms) [] = refl
row-behind (v ∷ row) (m ∷ ms) (k ∷ ks) = ap (λ x. x ∷ add_row row (behind_all ms ks)) (before-behind (val_of v) m k) ∙ ap (λ xs. behind (before (val_of v) m) k ∷ xs) (row-behind row ms ks)

rows-row : (row ms : List Carried) (rs : List (List Carried)) → with_rows rs (add_row row ms) ≡ add_row row (with_rows rs ms)
rows-row row ms [] = refl
rows-row row ms (r ∷ rs) = ap (with_rows rs) (sym (row-behind row ms r)) ∙ rows-row row (behind_all ms r) rs

begun-row : (ks : List Carried) → behind_all (replicate (length ks) (Many [])) ks ≡ add_row ks (replicate (length ks) (Many []))
begun-row [] = refl
begun-row (k ∷ ks) = ap (λ xs. alone k ∷ xs) (begun-row ks)

pub rows-columns : (m : ℕ) (rs : List (List Carried)) → AllLong m rs → with_rows rs (replicate m (Many [])) ≡ columns m rs
rows-columns m [] h = refl
rows-columns m (r ∷ rs) h =
    ap (with_rows rs) (subst (λ x. behind_all (replicate x (Many [])) r ≡ add_row r (replicate x (Many []))) h.0 (begun-row r))
    ∙ (rows-row r (replicate m (Many [])) rs ∙ ap (add_row r) (rows-columns m rs h.1))

-- a row more
pub columns-more : (n : ℕ) (rows : List (List Carried)) (new : List Carried) → AllLong n rows → length new ≡ n → columns n (rows ++ new ∷ []) ≡ behind_all (columns n rows) new
columns-more n [] new h e = sym (subst (λ x. behind_all (replicate x (Many [])) new ≡ add_row new (replicate x (Many []))) e (begun-row new))
columns-more n (r ∷ rs) new h e = ap (add_row r) (columns-more n rs new h.1 e) ∙ row-behind r (columns n rs) new

pub all-more : (n : ℕ) (rows : List (List Carried)) (new : List Carried) → AllLong n rows → length new ≡ n → AllLong n (rows ++ new ∷ [])
all-more n [] new h e = (e, tt)
all-more n (r ∷ rs) new h e = (h.0, all-more n rs new h.1 e)

-- the rows of turns, the first one first
abbrev pub forth : List (List Carried) → List (List Carried)
forth [] = []
forth (r ∷ rs) = forth rs ++ r ∷ []

last-long : (n : ℕ) (rows : List (List Carried)) (r : List Carried) → AllLong n (rows ++ r ∷ []) → AllLong n rows × (length r ≡ n)
last-long n [] r h = (tt, h.0)
last-long n (x ∷ rows) r h = let y = last-long n rows r h.1 in ((h.0, y.0), y.1)

pub turns-columns : (n : ℕ) (ls : List Carried) (turns : List (List Carried)) → AllLong n (forth (ls ∷ turns)) → turn_columns (ls ∷ turns) ≡ columns n (forth (ls ∷ turns))
turns-columns n ls [] h = ap (λ x. add_row ls (replicate x (Many []))) h.0
turns-columns n ls (l ∷ turns) h =
    let s = last-long n (forth (l ∷ turns)) ls h in
    let t = last-long n (forth turns) l s.0 in
    more-turns ls l turns (s.1 ∙ sym t.1) ∙ (ap (λ z. behind_all z ls) (turns-columns n l turns s.0) ∙ sym (columns-more n (forth (l ∷ turns)) ls s.0 s.1))

-- ---- elements at a place

drop-next : {A : Type 0} (i : ℕ) (xs : List A) → drop 1 (drop i xs) ≡ drop (suc i) xs
drop-next zero [] = refl
drop-next zero (x ∷ xs) = refl
drop-next (suc i) [] = refl
drop-next (suc i) (x ∷ xs) = drop-next i xs

pub all-next : {A : Type 0} (i : ℕ) (ls : List (List A)) → map (drop 1) (map (drop i) ls) ≡ map (drop (suc i)) ls
all-next i [] = refl
all-next i (l ∷ ls) = ap (λ x. x ∷ map (drop 1) (map (drop i) ls)) (drop-next i l) ∙ ap (λ xs. drop (suc i) l ∷ xs) (all-next i ls)

pub drop-none : {A : Type 0} (ls : List (List A)) → map (drop 0) ls ≡ ls
drop-none [] = refl
drop-none (l ∷ ls) = ap (λ xs. l ∷ xs) (drop-none ls)

one-head : (i : ℕ) (vs : List Val) (ls : List (List Val)) → i < length vs → length (heads (drop i vs ∷ ls)) ≡ suc (length (heads ls))
one-head i [] ls lt = absurd (omega (arith, lt))
one-head zero (v ∷ vs) ls lt = refl
one-head (suc i) (v ∷ vs) ls lt = one-head i vs ls (omega (arith, lt))

pub elements-length : (i k : ℕ) (ms : List Carried) → AreLong k ms → i < k → length (elements i ms) ≡ length ms
elements-length i k [] h lt = refl
elements-length i k (m ∷ ms) h lt = let e = h.0 in one-head i (items m) (map (drop i) (map items ms)) (omega (arith, e, lt)) ∙ ap suc (elements-length i k ms h.1 lt)

pub counted-is : (i : ℕ) → begun (counter i) ≡ i
counted-is i = refl

-- ---- multiples that are as long as one another

nat-same : (a b : ℕ) → nat_eq a b ≡ true → a ≡ b
nat-same a b e = grind (e, arith)

no-false : false ≡ true → ⊥
no-false e = cc

one-long : (m o : Carried) (ms : List Carried) (b : Bool) → nat_eq (length (items o)) (length (items m)) ≡ b → (list_all (λ o. nat_eq (length (items o)) (length (items m))) ms ≡ true → AreLong (length (items m)) ms)
    → (b && list_all (λ o. nat_eq (length (items o)) (length (items m))) ms) ≡ true → (length (items o) ≡ length (items m)) × AreLong (length (items m)) ms
one-long m o ms true f more e = (nat-same (length (items o)) (length (items m)) f, more e)
one-long m o ms false f more e = absurd (no-false e)

long-as : (m : Carried) (ms : List Carried) → list_all (λ o. nat_eq (length (items o)) (length (items m))) ms ≡ true → AreLong (length (items m)) ms
long-as m [] e = tt
long-as m (o ∷ ms) e = one-long m o ms (nat_eq (length (items o)) (length (items m))) refl (long-as m ms) e

pub are-long : (ms : List Carried) → are_as_long ms ≡ true → AreLong (places_of ms) ms
are-long [] e = tt
are-long (m ∷ ms) e = (refl, long-as m ms e)
