-- What is collected of one row after another is what is made of the whole columns.
use Rattle.std.proofs.Common.{◌≡◌, ℕ, zero, suc, ◌<◌, ◌≤◌, List, [], ◌∷◌, ◌++◌, length, map, replicate, get_or, pos, Option, Some, None, refl, sym, ap, ◌∙◌, arith}
use Rattle.ordered_meaning.specs.Cause.{Cause}
use Rattle.ordered_meaning.specs.Val.{Val}
use Rattle.ordered_meaning.specs.Folds.{last_fold, last_of, later_of, or_empty}
use Rattle.ordered_meaning.specs.Clauses.{Cell, first_failure, kept_values, gathered, unless_failed}
use Rattle.ordered_meaning.specs.Masks.{keep_of}
use Rattle.ordered_meaning.specs.Folding.{Folding}
use Rattle.ordered_meaning.specs.Folding.TheVariants as folding
use Rattle.ordered_meaning.specs.Keep.{Keep}
use Rattle.ordered_meaning.specs.Keep.TheVariants.{Kept, Dropped, Failed}
use Rattle.ordered_meaning.specs.Masking.TheVariants as masking
use Rattle.ordered_meaning.specs.Carried.{Carried, Value, Many, Spoiled, Name, Unfilled, val_of}
use Rattle.ordered_meaning.specs.Forms.{before, add_row, columns}
use Rattle.ordered_meaning.specs.NodeValues.{masked, cells_of, folded}
use Rattle.run_code.specs.Collections.{Collect, Final, IsWithin, Sifts, behind_where, collected, made, made_of, none_in, nothing_in, put_all, put_in, puts, sift, sifted, sifts_in}
use Rattle.run_code.specs.Refolds.{AllLong}

-- ---- columns

abbrev pub column : ℕ → List (List Carried) → List Val
column j [] = []
column j (r ∷ rs) = val_of (get_or r j Unfilled) ∷ column j rs

row-long : (row ms : List Carried) → length row ≡ length ms → length (add_row row ms) ≡ length row
row-long [] [] e = refl
row-long [] (m ∷ ms) e = absurd (omega (arith, e))
row-long (v ∷ row) [] e = absurd (omega (arith, e))
row-long (v ∷ row) (m ∷ ms) e = ap suc (row-long row ms (omega (arith, e)))

none-long : (m : ℕ) (k : Carried) → length (replicate m k) ≡ m
none-long zero k = refl
none-long (suc m) k = ap suc (none-long m k)

columns-long : (m : ℕ) (rows : List (List Carried)) → AllLong m rows → length (columns m rows) ≡ m
columns-long m [] h = none-long m (Many [])
columns-long m (r ∷ rs) h = row-long r (columns m rs) (h.0 ∙ sym (columns-long m rs h.1)) ∙ h.0

get-row : (row ms : List Carried) (j : ℕ) → j < length row → length row ≡ length ms → get_or (add_row row ms) j Unfilled ≡ before (val_of (get_or row j Unfilled)) (get_or ms j Unfilled)
get-row [] ms j lt e = absurd (omega (arith, lt))
get-row (v ∷ row) [] j lt e = absurd (omega (arith, e))
get-row (v ∷ row) (m ∷ ms) zero lt e = refl
get-row (v ∷ row) (m ∷ ms) (suc j) lt e = get-row row ms j (omega (arith, lt)) (omega (arith, e))

get-none : (m j : ℕ) → j < m → get_or (replicate m (Many [])) j Unfilled ≡ Many []
get-none zero j lt = absurd (omega (arith, lt))
get-none (suc m) zero lt = refl
get-none (suc m) (suc j) lt = get-none m j (omega (arith, lt))

pub get-column : (m j : ℕ) (rows : List (List Carried)) → AllLong m rows → j < m → get_or (columns m rows) j Unfilled ≡ Many (column j rows)
get-column m j [] h lt = get-none m j lt
get-column m j (r ∷ rs) h lt =
    let e = h.0 in
    get-row r (columns m rs) j (omega (arith, e, lt)) (h.0 ∙ sym (columns-long m rs h.1)) ∙ ap (before (val_of (get_or r j Unfilled))) (get-column m j rs h.1 lt)

-- ---- one collection

pub one-more : {A : Type 0} (xs : List A) (x : A) (ys : List A) → (xs ++ x ∷ []) ++ ys ≡ xs ++ x ∷ ys
one-more [] x ys = refl
one-more (z ∷ xs) x ys = ap (λ zs. z ∷ zs) (one-more xs x ys)

pub no-more : {A : Type 0} (xs : List A) → xs ++ [] ≡ xs
no-more [] = refl
no-more (x ∷ xs) = ap (λ zs. x ∷ zs) (no-more xs)

puts-all : (j : ℕ) (rows : List (List Carried)) (vs : List Val) → puts (Sifts j None) rows (Many vs) ≡ Many (vs ++ column j rows)
puts-all j [] vs = ap Many (sym (no-more vs))
puts-all j (r ∷ rs) vs = puts-all j rs (vs ++ val_of (get_or r j Unfilled) ∷ []) ∙ ap Many (one-more vs (val_of (get_or r j Unfilled)) (column j rs))

pub where-spoiled : (keep : Keep) (c : Cause) (k : Carried) → behind_where keep (Spoiled c) k ≡ Spoiled c
where-spoiled Kept c k = refl
where-spoiled Dropped c k = refl
where-spoiled (Failed d) c k = refl

puts-spoiled : (j q : ℕ) (rows : List (List Carried)) (c : Cause) → puts (Sifts j (Some q)) rows (Spoiled c) ≡ Spoiled c
puts-spoiled j q [] c = refl
puts-spoiled j q (r ∷ rs) c = ap (puts (Sifts j (Some q)) rs) (where-spoiled (keep_of masking.When (val_of (get_or r q Unfilled))) c (get_or r j Unfilled)) ∙ puts-spoiled j q rs c

abbrev both : ℕ → ℕ → List (List Carried) → List Cell
both j q rows = masked (column j rows) (column q rows)

puts-where : (j q : ℕ) (rows : List (List Carried)) (vs : List Val) → puts (Sifts j (Some q)) rows (Many vs) ≡ sift (first_failure (both j q rows)) (vs ++ kept_values (both j q rows))
puts-where j q [] vs = ap Many (sym (no-more vs))
puts-where j q (r ∷ rs) vs = go (keep_of masking.When (val_of (get_or r q Unfilled))) (λ ws. puts-where j q rs ws)
  where
    v : Val
    v = val_of (get_or r j Unfilled)

    go : (keep : Keep) → ((ws : List Val) → puts (Sifts j (Some q)) rs (Many ws) ≡ sift (first_failure (both j q rs)) (ws ++ kept_values (both j q rs)))
        → puts (Sifts j (Some q)) rs (behind_where keep (Many vs) (get_or r j Unfilled))
        ≡ sift (first_failure ((val_of (get_or r j Unfilled), keep) ∷ both j q rs)) (vs ++ kept_values ((val_of (get_or r j Unfilled), keep) ∷ both j q rs))
    go Kept more = more (vs ++ val_of (get_or r j Unfilled) ∷ []) ∙ ap (sift (first_failure (both j q rs))) (one-more vs (val_of (get_or r j Unfilled)) (kept_values (both j q rs)))
    go Dropped more = more vs
    go (Failed c) more = puts-spoiled j q rs c

last-more : (ws : List Val) (v : Val) → last_of (ws ++ v ∷ []) ≡ Some v
last-more [] v = refl
last-more (w ∷ ws) v = ap (later_of (Some w)) (last-more ws v)

-- the last value, raw
puts-last : (j : ℕ) (rows : List (List Carried)) (k : Carried) (ws : List Val) → val_of k ≡ last_fold ws → val_of (puts (Final j) rows k) ≡ last_fold (ws ++ column j rows)
puts-last j [] k ws e = e ∙ ap last_fold (sym (no-more ws))
puts-last j (r ∷ rs) k ws e =
    puts-last j rs (get_or r j Unfilled) (ws ++ val_of (get_or r j Unfilled) ∷ []) (ap or_empty (sym (last-more ws (val_of (get_or r j Unfilled)))))
    ∙ ap last_fold (one-more ws (val_of (get_or r j Unfilled)) (column j rs))

pub last-made : (j : ℕ) (rows : List (List Carried)) → val_of (made (Final j) rows) ≡ last_fold (column j rows)
last-made j rows = puts-last j rows (Value (last_fold [])) [] refl

all-kept : (vs : List Val) → kept_values (map (λ v. (v, Kept)) vs) ≡ vs
all-kept [] = refl
all-kept (v ∷ vs) = ap (λ xs. v ∷ xs) (all-kept vs)

none-fails : (vs : List Val) → first_failure (map (λ v. (v, Kept)) vs) ≡ None
none-fails [] = refl
none-fails (v ∷ vs) = none-fails vs

-- a fold of values without a mask
pub whole-fold : (f : Folding) (lo : _) (vs : List Val) → folded f lo (Many vs) Unfilled ≡ gathered f lo vs
whole-fold f lo vs = ap (λ x. unless_failed x (gathered f lo (kept_values (map (λ v. (v, Kept)) vs)))) (none-fails vs) ∙ ap (gathered f lo) (all-kept vs)

-- is one of what a mask keeps
pub by-sift : (f : Folding) (lo : _) (e : Option Cause) (vs : List Val) → folded f lo (sift e vs) Unfilled ≡ unless_failed e (gathered f lo vs)
by-sift f lo None vs = whole-fold f lo vs
by-sift f lo (Some c) vs = refl

pub sifted-fold : (f : Folding) (lo : _) (m mask : Carried) → folded f lo (sifted m mask) Unfilled ≡ folded f lo m mask
sifted-fold f lo (Value v) mask = refl
sifted-fold f lo (Spoiled c) mask = refl
sifted-fold f lo (Name t) mask = refl
sifted-fold f lo Unfilled mask = refl
sifted-fold f lo (Many vs) (Spoiled c) = refl
sifted-fold f lo (Many vs) (Value v) = by-sift f lo (first_failure (cells_of vs (Value v))) (kept_values (cells_of vs (Value v)))
sifted-fold f lo (Many vs) (Many ms) = by-sift f lo (first_failure (cells_of vs (Many ms))) (kept_values (cells_of vs (Many ms)))
sifted-fold f lo (Many vs) (Name t) = by-sift f lo (first_failure (cells_of vs (Name t))) (kept_values (cells_of vs (Name t)))
sifted-fold f lo (Many vs) Unfilled = by-sift f lo (first_failure (cells_of vs Unfilled)) (kept_values (cells_of vs Unfilled))

-- what is put one after another is made of the columns
pub sifts-made : (m j : ℕ) (mask : Option ℕ) (rows : List (List Carried)) → IsWithin m (Sifts j mask) → AllLong m rows → made (Sifts j mask) rows ≡ made_of (Sifts j mask) (columns m rows)
sifts-made m j None rows within h = puts-all j rows [] ∙ sym (get-column m j rows h within.0)
sifts-made m j (Some q) rows within h =
    puts-where j q rows [] ∙ (ap (λ x. sifted x (Many (column q rows))) (sym (get-column m j rows h within.0)) ∙ ap (sifted (get_or (columns m rows) j Unfilled)) (sym (get-column m q rows h within.1)))

pub finals-made : (m j : ℕ) (rows : List (List Carried)) → j < m → AllLong m rows → Value (val_of (made (Final j) rows)) ≡ made_of (Final j) (columns m rows)
finals-made m j rows within h =
    ap Value (last-made j rows) ∙ (ap Value (sym (whole-fold folding.Last (pos 1) (column j rows))) ∙ ap (λ x. Value (folded folding.Last (pos 1) x Unfilled)) (sym (get-column m j rows h within)))

-- ---- all collections

abbrev pub puts_all : List Collect → List (List Carried) → List Carried → List Carried
puts_all cs [] ks = ks
puts_all cs (r ∷ rs) ks = puts_all cs rs (put_all cs r ks)

pub put-long : (cs : List Collect) (row ks : List Carried) → length ks ≡ length cs → length (put_all cs row ks) ≡ length cs
put-long [] row [] e = refl
put-long [] row (k ∷ ks) e = refl
put-long (c ∷ cs) row [] e = absurd (omega (arith, e))
put-long (c ∷ cs) row (k ∷ ks) e = ap suc (put-long cs row ks (omega (arith, e)))

pub nothing-long : (cs : List Collect) → length (nothing_in cs) ≡ length cs
nothing-long [] = refl
nothing-long (c ∷ cs) = ap suc (nothing-long cs)

puts-empty : (rows : List (List Carried)) → puts_all [] rows [] ≡ []
puts-empty [] = refl
puts-empty (r ∷ rs) = puts-empty rs

puts-head : (c : Collect) (cs : List Collect) (rows : List (List Carried)) (k : Carried) (ks : List Carried) → puts_all (c ∷ cs) rows (k ∷ ks) ≡ puts c rows k ∷ puts_all cs rows ks
puts-head c cs [] k ks = refl
puts-head c cs (r ∷ rs) k ks = puts-head c cs rs (put_in c r k) (put_all cs r ks)

pub all-made : (cs : List Collect) (rows : List (List Carried)) → puts_all cs rows (nothing_in cs) ≡ collected cs rows
all-made [] rows = puts-empty rows
all-made (c ∷ cs) rows = puts-head c cs rows (none_in c) (nothing_in cs) ∙ ap (λ xs. made c rows ∷ xs) (all-made cs rows)

pub puts-more : (cs : List Collect) (rows : List (List Carried)) (r ks : List Carried) → puts_all cs (rows ++ r ∷ []) ks ≡ put_all cs r (puts_all cs rows ks)
puts-more cs [] r ks = refl
puts-more cs (x ∷ rows) r ks = puts-more cs rows r (put_all cs x ks)

-- a loop keeps no more than is collected
pub sifts-fewer : (cs : List Collect) → length (sifts_in cs) ≤ length cs
sifts-fewer [] = omega arith
sifts-fewer (Sifts j mask ∷ cs) = let le = sifts-fewer cs in omega (arith, le)
sifts-fewer (Final j ∷ cs) = let le = sifts-fewer cs in omega (arith, le)
