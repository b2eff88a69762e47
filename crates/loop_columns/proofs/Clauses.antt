-- What clauses make of the rows of all places is what their nodes make of the columns of these rows.
use Rattle.std.proofs.Common.{◌≡◌, ℕ, zero, suc, ◌+◌, ℤ, Bool, List, [], ◌∷◌, ◌++◌, map, length, take, drop, fold, refl, sym, ap, ◌∙◌, arith, append_assoc, append-nil}
use Rattle.flow_value.specs.declared.operation.Scalar1.TheVariants as unary
use Rattle.flow_value.specs.declared.value.Val.{Val}
use Rattle.value_ops.specs.Operations.{op_value}
use Rattle.value_ops.specs.declared.operation.Operation.TheVariants as operation
use Rattle.loop_folds.specs.declared.masking.Masking.{Masking}
use Rattle.loop_folds.specs.declared.masking.Masking.TheVariants as masking
use Rattle.loop_folds.specs.declared.masking.Keep.TheVariants.{Kept}
use Rattle.loop_folds.specs.declared.folding.Folding.{Folding}
use Rattle.loop_folds.specs.Clauses.{Cell, ClauseCells, no_cells, fold_value}
use Rattle.loop_folds.specs.Masks.{keep_of}
use Rattle.typed_tree.specs.declared.expr.ClauseForm.{ClauseForm}
use Rattle.meaning.specs.Words.{value_at}
use Rattle.meaning.specs.Rows.{span, with_cell, no_rows, with_row, with_rows, made}
use Rattle.graph_meaning.specs.Carried.{Carried, Value, Many}
use Rattle.graph_meaning.specs.NodeValues.{masked, fold_of}
use Rattle.graph_meaning.specs.Forms.{columns, add_row}
use Rattle.lowering.specs.Loops.{mask_places, unless_places}
use Rattle.loop_columns.specs.Clauses.{spans, noted, shown, folds_of, AreWide, AreFoldedByColumns}
use Rattle.loop_columns.proofs.Forms.{says-unless}

-- ---- in the source

-- the cells of a clause, and what is left of the rows
abbrev cells_at : Masking → List (List Val) → List Cell
cells_at m rows = map (λ r. (value_at r 0, keep_of m (value_at r 1))) rows

abbrev left : ℕ → List (List Val) → List (List Val)
left n rows = map (drop n) rows

abbrev with_more : ClauseCells → List Cell → ClauseCells
with_more f xs = record f { cells = f.cells ++ xs }

one-clause : (c : ClauseForm) (cs : List ClauseForm) (rows : List (List Val)) (f : ClauseCells) (fs : List ClauseCells)
    → fold (with_row (c ∷ cs)) (f ∷ fs) rows ≡ with_more f (cells_at c.masking rows) ∷ fold (with_row cs) fs (left (span c.masking) rows)
one-clause c cs [] f fs = ap (λ xs. record f { cells = xs } ∷ fs) (sym (append-nil f.cells))
one-clause c cs (r ∷ rows) f fs =
    one-clause c cs rows (with_cell f (value_at r 0, keep_of c.masking (value_at r 1))) (with_row cs fs (drop (span c.masking) r))
    ∙ ap (λ xs. record f { cells = xs } ∷ fold (with_row cs) (with_row cs fs (drop (span c.masking) r)) (left (span c.masking) rows))
    (append_assoc f.cells ((value_at r 0, keep_of c.masking (value_at r 1)) ∷ []) (cells_at c.masking rows))

no-clause : (rows : List (List Val)) → fold (with_row []) [] rows ≡ []
no-clause [] = refl
no-clause (r ∷ rows) = no-clause rows

-- ---- in the graph

-- the first column, and the others
pub column : (n : ℕ) (f : List Val → Val) (g : List Val → List Carried) (rows : List (List Val)) → columns (suc n) (map (λ r. Value (f r) ∷ g r) rows) ≡ Many (map f rows) ∷ columns n (map g rows)
column n f g [] = refl
column n f g (r ∷ rows) = ap (λ ms. add_row (Value (f r) ∷ g r) ms) (column n f g rows)

-- the same rows
same-rows : (n : ℕ) (f g : List Val → List Carried) → ((r : List Val) → length r ≡ n → f r ≡ g r) → (rows : List (List Val)) → AreWide n rows → map f rows ≡ map g rows
same-rows n f g h [] w = refl
same-rows n f g h (r ∷ rows) w = ap (λ x. x ∷ map f rows) (h r w.0) ∙ ap (λ xs. g r ∷ xs) (same-rows n f g h rows w.1)

pub left-wide : (k n : ℕ) (rows : List (List Val)) → AreWide (k + n) rows → AreWide n (left k rows)
left-wide k n [] w = tt
left-wide k n (r ∷ rows) w = (dropped k r w.0, left-wide k n rows w.1)
  where
    dropped : (k : ℕ) (r : List Val) → length r ≡ k + n → length (drop k r) ≡ n
    dropped zero r e = omega (arith, e)
    dropped (suc k) [] e = absurd (omega (arith, e))
    dropped (suc k) (v ∷ r) e = dropped k r (omega (arith, e))

map-map : (f : List Val → List Carried) (k : ℕ) (rows : List (List Val)) → map (λ r. f (drop k r)) rows ≡ map f (left k rows)
map-map f k [] = refl
map-map f k (r ∷ rows) = ap (λ xs. f (drop k r) ∷ xs) (map-map f k rows)

-- a row, where the first clause has such a mask
abbrev row_by : Masking → List Bool → List Val → List Carried
row_by m bs r = map Value (noted (mask_places m ++ bs) r)

abbrev rest_of : List Bool → List Val → List Carried
rest_of bs r = map Value (noted bs r)

abbrev not_of : Val → Val
not_of v = op_value (operation.Unary unary.Not) (v ∷ [])

row-all : (bs : List Bool) (n : ℕ) (r : List Val) → length r ≡ 1 + n → row_by masking.All bs r ≡ Value (value_at r 0) ∷ rest_of bs (drop 1 r)
row-all bs n [] e = absurd (omega (arith, e))
row-all bs n (v ∷ r) e = refl

row-when : (bs : List Bool) (n : ℕ) (r : List Val) → length r ≡ 2 + n → row_by masking.When bs r ≡ Value (value_at r 0) ∷ Value (value_at r 1) ∷ rest_of bs (drop 2 r)
row-when bs n [] e = absurd (omega (arith, e))
row-when bs n (v ∷ []) e = absurd (omega (arith, e))
row-when bs n (v ∷ w ∷ r) e = refl

row-unless : (bs : List Bool) (n : ℕ) (r : List Val) → length r ≡ 2 + n → row_by masking.Unless bs r ≡ Value (value_at r 0) ∷ Value (not_of (value_at r 1)) ∷ rest_of bs (drop 2 r)
row-unless bs n [] e = absurd (omega (arith, e))
row-unless bs n (v ∷ []) e = absurd (omega (arith, e))
row-unless bs n (v ∷ w ∷ r) e = refl

-- cells of a column, and of two
kept-cells : (rows : List (List Val)) → map (λ v. (v, Kept)) (map (λ r. value_at r 0) rows) ≡ cells_at masking.All rows
kept-cells [] = refl
kept-cells (r ∷ rows) = ap (λ xs. (value_at r 0, Kept) ∷ xs) (kept-cells rows)

when-cells : (rows : List (List Val)) → masked (map (λ r. value_at r 0) rows) (map (λ r. value_at r 1) rows) ≡ cells_at masking.When rows
when-cells [] = refl
when-cells (r ∷ rows) = ap (λ xs. (value_at r 0, keep_of masking.When (value_at r 1)) ∷ xs) (when-cells rows)

unless-cells : (rows : List (List Val)) → masked (map (λ r. value_at r 0) rows) (map (λ r. not_of (value_at r 1)) rows) ≡ cells_at masking.Unless rows
unless-cells [] = refl
unless-cells (r ∷ rows) =
    ap (λ k. (value_at r 0, k) ∷ masked (map (λ r. value_at r 0) rows) (map (λ r. not_of (value_at r 1)) rows)) (says-unless (value_at r 1))
    ∙ ap (λ xs. (value_at r 0, keep_of masking.Unless (value_at r 1)) ∷ xs) (unless-cells rows)

-- ---- one clause more

-- the multiples of a clause with such a mask, and those behind them
pub record AreMultiples (m : Masking) (f : Folding) (lower : ℤ) (n : ℕ) (bs : List Bool) (rows : List (List Val)) : Type 0 where
  pub own : fold_of f lower (take (span m) (columns (span m + n) (map (row_by m bs) rows))) ≡ fold_value f lower (cells_at m rows)
  pub others : drop (span m) (columns (span m + n) (map (row_by m bs) rows)) ≡ columns n (map (rest_of bs) (left (span m) rows))

all-multiples : (f : Folding) (lower : ℤ) (n : ℕ) (bs : List Bool) (rows : List (List Val)) → AreWide (1 + n) rows → AreMultiples masking.All f lower n bs rows
all-multiples f lower n bs rows w =
    let width : 1 + n ≡ suc n = omega arith in
    let e : columns (1 + n) (map (row_by masking.All bs) rows) ≡ Many (map (λ r. value_at r 0) rows) ∷ columns n (map (λ r. rest_of bs (drop 1 r)) rows) =
    ap (columns (1 + n)) (same-rows (1 + n) _ (λ r. Value (value_at r 0) ∷ rest_of bs (drop 1 r)) (row-all bs n) rows w)
    ∙ ap (λ k. columns k (map (λ r. Value (value_at r 0) ∷ rest_of bs (drop 1 r)) rows)) width
    ∙ column n (λ r. value_at r 0) (λ r. rest_of bs (drop 1 r)) rows in
    record {
      own = ap (λ ms. fold_of f lower (take 1 ms)) e ∙ ap (fold_value f lower) (kept-cells rows);
      others = ap (drop 1) e ∙ ap (columns n) (map-map (rest_of bs) 1 rows);
    }

two-multiples : (n : ℕ) (bs : List Bool) (rows : List (List Val)) (m : Masking) (g : List Val → Val) → AreWide (2 + n) rows
    → ((r : List Val) → length r ≡ 2 + n → row_by m bs r ≡ Value (value_at r 0) ∷ Value (g r) ∷ rest_of bs (drop 2 r))
    → columns (2 + n) (map (row_by m bs) rows) ≡ Many (map (λ r. value_at r 0) rows) ∷ Many (map g rows) ∷ columns n (map (rest_of bs) (left 2 rows))
two-multiples n bs rows m g w h =
    let width : 2 + n ≡ suc (suc n) = omega arith in
    ap (columns (2 + n)) (same-rows (2 + n) _ (λ r. Value (value_at r 0) ∷ Value (g r) ∷ rest_of bs (drop 2 r)) h rows w)
    ∙ ap (λ k. columns k (map (λ r. Value (value_at r 0) ∷ Value (g r) ∷ rest_of bs (drop 2 r)) rows)) width
    ∙ column (suc n) (λ r. value_at r 0) (λ r. Value (g r) ∷ rest_of bs (drop 2 r)) rows
    ∙ ap (λ ms. Many (map (λ r. value_at r 0) rows) ∷ ms) (column n g (λ r. rest_of bs (drop 2 r)) rows)
    ∙ ap (λ ms. Many (map (λ r. value_at r 0) rows) ∷ Many (map g rows) ∷ columns n ms) (map-map (rest_of bs) 2 rows)

multiples : (m : Masking) (f : Folding) (lower : ℤ) (n : ℕ) (bs : List Bool) (rows : List (List Val)) → AreWide (span m + n) rows → AreMultiples m f lower n bs rows
multiples masking.All f lower n bs rows w = all-multiples f lower n bs rows w
multiples masking.When f lower n bs rows w =
    let e = two-multiples n bs rows masking.When (λ r. value_at r 1) w (row-when bs n) in
    record { own = ap (λ ms. fold_of f lower (take 2 ms)) e ∙ ap (fold_value f lower) (when-cells rows); others = ap (drop 2) e }
multiples masking.Unless f lower n bs rows w =
    let e = two-multiples n bs rows masking.Unless (λ r. not_of (value_at r 1)) w (row-unless bs n) in
    record { own = ap (λ ms. fold_of f lower (take 2 ms)) e ∙ ap (fold_value f lower) (unless-cells rows); others = ap (drop 2) e }

pub folded-by-columns : AreFoldedByColumns
folded-by-columns [] lower rows w = ap (made lower) (no-clause rows)
folded-by-columns (c ∷ cs) lower rows w =
    let x = multiples c.masking c.folding lower (spans cs) (unless_places cs) rows w in
    ap (made lower) (one-clause c cs rows (no_cells c.folding) (no_rows cs))
    ∙ ap (λ v. v ∷ made lower (with_rows cs (no_rows cs) (left (span c.masking) rows))) (sym x.own)
    ∙ ap (λ vs. fold_of c.folding lower (take (span c.masking) (columns (spans (c ∷ cs)) (map (shown (c ∷ cs)) rows))) ∷ vs)
    (folded-by-columns cs lower (left (span c.masking) rows) (left-wide (span c.masking) (spans cs) rows w) ∙ ap (folds_of cs lower) (sym x.others))
