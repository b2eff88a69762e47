-- The nodes of a returns that read multiples make the same of what is collected, and what they copy by the definition of record is
-- the sum of what is put. The Rust type of a clause stands for a collection.
use Rattle.std.proofs.Common.{◌≡◌, ℕ, ◌+◌, ◌<◌, ℤ, Bool, true, false, if◌then◌else◌, List, [], ◌∷◌, ◌++◌, length, map, sum, get_or, pos, Option, Some, None, refl, sym, ap, ◌∙◌, arith}
use Rattle.std.proofs.lemmas.List.Sums.{sum_by_from}
use Rattle.ordered_meaning.specs.Leaves.{leaf_count}
use Rattle.ordered_meaning.specs.Scalar.{unless_error}
use Rattle.ordered_meaning.specs.Val.{Val}
use Rattle.ordered_meaning.specs.Val.TheOpen.{Val-F}
use Rattle.ordered_meaning.specs.Val.TheViews as values
use Rattle.ordered_meaning.specs.Views.{on_integer}
use Rattle.ordered_meaning.specs.Clauses.{Cell, first_failure, kept_values, fold_value}
use Rattle.ordered_meaning.specs.Masks.{keep_of}
use Rattle.ordered_meaning.specs.Folding.{Folding}
use Rattle.ordered_meaning.specs.Folding.TheVariants as folding
use Rattle.ordered_meaning.specs.Keep.{Keep}
use Rattle.ordered_meaning.specs.Keep.TheVariants.{Kept, Dropped, Failed}
use Rattle.ordered_meaning.specs.Masking.TheVariants as masking
use Rattle.ordered_meaning.specs.Ops.{reducer_at}
use Rattle.ordered_meaning.specs.Reducer.{Reducer}
use Rattle.ordered_meaning.specs.Grouping.{Grouping}
use Rattle.ordered_meaning.specs.Simple.TheVariants as simple
use Rattle.ordered_meaning.specs.Carried.{Carried, Value, Many, Spoiled, Name, Unfilled, val_of}
use Rattle.ordered_meaning.specs.NodeValues.{Shape, masked, cells_of, folded, fold_of, gathering, reduction, reduced, op}
use Rattle.ordered_meaning.specs.Forms.{columns}
use Rattle.ordered_meaning.specs.Storage.{Storage, leaves_where, leaves_kept, kept_of, leaves_at, is_left, where_left, copied_by}
use Rattle.run_code.proofs.Folding.{by-sift, column, finals-made, get-column, one-more, sifted-fold, sifts-made, where-spoiled}
use Rattle.run_code.proofs.Refolding.{sum-none}
use Rattle.run_code.proofs.Values.{by-form}
use Rattle.run_code.specs.Collecting.{ClausesStand, CopiesArePut, IsMadeOfColumns, NodesGiveTheSame, of_clause, put_leaves, row_copied, says}
use Rattle.run_code.specs.Collections.{Collect, Final, IsWithin, Sifts, behind_where, made, made_of, put_in, sift}
use Rattle.run_code.specs.Refolds.{AllLong, reads, rows_sum}

on-form : (f g : ℤ → Val) → ((l : ℤ) → f l ≡ g l) → (y : Val-F Val) → on_integer f (values.roll-Val y) ≡ on_integer g (values.roll-Val y)
unfolding values.roll-Val denote.Hole.Carrier.roll
on-form f g e (Val-F.Err d) = refl
on-form f g e (Val-F.Int n) = e n
on-form f g e (Val-F.Bool b) = refl
on-form f g e (Val-F.Char n) = refl
on-form f g e Val-F.Null = refl
on-form f g e (Val-F.Arr a) = refl
on-form f g e (Val-F.Rec vs) = refl
on-form f g e (Val-F.Uni t v) = refl
on-form f g e (Val-F.Stream vs) = refl

same-integer : (f g : ℤ → Val) → ((l : ℤ) → f l ≡ g l) → (v : Val) → on_integer f v ≡ on_integer g v
same-integer f g e v = by-form (λ v. on_integer f v ≡ on_integer g v) (on-form f g e) v

-- ---- a node gives the same

fold-made : (f : Folding) (l : ℤ) (j : ℕ) (mask : Option ℕ) (cols : List Carried) → fold_of f l (reads (Sifts j mask) cols) ≡ fold_of f l (made_of (Sifts j mask) cols ∷ [])
fold-made f l j None cols = refl
fold-made f l j (Some q) cols = sym (sifted-fold f l (get_or cols j Unfilled) (get_or cols q Unfilled))

pub gathers : (s : Shape) (j : ℕ) (mask : Option ℕ) (ks cols : List Carried) → length ks ≡ 1 → op simple.AGather s (ks ++ reads (Sifts j mask) cols) ≡ op simple.AGather s (ks ++ made_of (Sifts j mask) cols ∷ [])
gathers s j mask [] cols e = absurd (omega (arith, e))
gathers s j mask (k ∷ x ∷ ks) cols e = absurd (omega (arith, e))
gathers s j mask (k ∷ []) cols e =
    ap (λ v. Value (unless_error (val_of k) v) ∷ []) (same-integer (λ l. fold_of (gathering s) l (reads (Sifts j mask) cols)) (λ l. fold_of (gathering s) l (made_of (Sifts j mask) cols ∷ [])) (λ l. fold-made (gathering s) l j mask cols) (val_of k))

by-reducer : (s : Shape) (r : Option Reducer) (j : ℕ) (mask : Option ℕ) (cols : List Carried) → reduced s r (reads (Sifts j mask) cols) ≡ reduced s r (made_of (Sifts j mask) cols ∷ [])
by-reducer s None j mask cols = refl
by-reducer s (Some r) j mask cols = fold-made (reduction s r) (pos 1) j mask cols

pub reduces : (g : Grouping) (s : Shape) (j : ℕ) (mask : Option ℕ) (ks cols : List Carried) → length ks ≡ 1 → op (simple.Reduce g) s (ks ++ reads (Sifts j mask) cols) ≡ op (simple.Reduce g) s (ks ++ made_of (Sifts j mask) cols ∷ [])
reduces g s j mask [] cols e = absurd (omega (arith, e))
reduces g s j mask (k ∷ x ∷ ks) cols e = absurd (omega (arith, e))
reduces g s j mask (Name text ∷ []) cols e = ap (λ v. Value v ∷ []) (by-reducer s (reducer_at text) j mask cols)
reduces g s j mask (Value v ∷ []) cols e = refl
reduces g s j mask (Many vs ∷ []) cols e = refl
reduces g s j mask (Spoiled c ∷ []) cols e = refl
reduces g s j mask (Unfilled ∷ []) cols e = refl

pub finals : (s : Shape) (j : ℕ) (mask : Option ℕ) (ks cols : List Carried) → length ks ≡ 0 → op simple.FinalValue s (ks ++ reads (Sifts j mask) cols) ≡ op simple.FinalValue s (ks ++ made_of (Sifts j mask) cols ∷ [])
finals s j mask [] cols e = ap (λ v. Value v ∷ []) (fold-made folding.Last (pos 1) j mask cols)
finals s j mask (k ∷ ks) cols e = absurd (omega (arith, e))

-- the last value alone is only passed on, as it is
passed-on : (s : Shape) (k : Carried) → op simple.NoOp s (k ∷ []) ≡ Value (val_of k) ∷ []
passed-on s (Value v) = refl
passed-on s (Many vs) = refl
passed-on s (Spoiled c) = refl
passed-on s (Name t) = refl
passed-on s Unfilled = refl

pub lasts : (s s' : Shape) (m j : ℕ) (ks : List Carried) (rows : List (List Carried)) → j < m → AllLong m rows → length ks ≡ 0 → op simple.FinalValue s (ks ++ reads (Final j) (columns m rows)) ≡ op simple.NoOp s' (ks ++ made (Final j) rows ∷ [])
lasts s s' m j [] rows within h e = ap (λ k. k ∷ []) (sym (finals-made m j rows within h)) ∙ sym (passed-on s' (made (Final j) rows))
lasts s s' m j (k ∷ ks) rows within h e = absurd (omega (arith, e))

-- ---- what is copied

sum-first : (x : ℕ) (xs : List ℕ) → sum (x ∷ xs) ≡ x + sum xs
sum-first x xs = omega (arith, sum_by_from (λ y. y) (0 + x) xs)

all-leaves : (j : ℕ) (rows : List (List Carried)) → sum (map leaves_where (cells_of (column j rows) Unfilled)) ≡ rows_sum (put_leaves (Sifts j None)) rows
all-leaves j [] = refl
all-leaves j (r ∷ rs) =
    sum-first (leaf_count (val_of (get_or r j Unfilled))) (map leaves_where (cells_of (column j rs) Unfilled))
    ∙ ap (λ n. leaf_count (val_of (get_or r j Unfilled)) + n) (all-leaves j rs)

where-leaves : (j q : ℕ) (rows : List (List Carried)) → sum (map leaves_where (cells_of (column j rows) (Many (column q rows)))) ≡ rows_sum (put_leaves (Sifts j (Some q))) rows
where-leaves j q [] = refl
where-leaves j q (r ∷ rs) =
    sum-first (leaves_where (val_of (get_or r j Unfilled), keep_of masking.When (val_of (get_or r q Unfilled)))) (map leaves_where (masked (column j rs) (column q rs)))
    ∙ ap (λ n. leaves_where (val_of (get_or r j Unfilled), keep_of masking.When (val_of (get_or r q Unfilled))) + n) (where-leaves j q rs)

-- the kept leaves of a multiple, as a gather or a reduction counts them, are those that the rows put
pub kept-rows : (m j : ℕ) (mask : Option ℕ) (rows : List (List Carried)) → IsWithin m (Sifts j mask) → AllLong m rows → kept_of (reads (Sifts j mask) (columns m rows)) ≡ rows_sum (put_leaves (Sifts j mask)) rows
kept-rows m j None rows within h = ap (λ k. leaves_kept k Unfilled) (get-column m j rows h within.0) ∙ all-leaves j rows
kept-rows m j (Some q) rows within h =
    ap (λ k. leaves_kept k (get_or (columns m rows) q Unfilled)) (get-column m j rows h within.0)
    ∙ (ap (λ k. leaves_kept (Many (column j rows)) k) (get-column m q rows h within.1) ∙ where-leaves j q rows)

-- ---- clauses

put-after : (cells : List Cell) (keep : Keep) (k : Carried) (ws : List Val)
    → sift (first_failure (cells ++ (val_of k, keep) ∷ [])) (ws ++ kept_values (cells ++ (val_of k, keep) ∷ [])) ≡ behind_where keep (sift (first_failure cells) (ws ++ kept_values cells)) k
put-after [] Kept k ws = ap (λ z. Many (z ++ val_of k ∷ [])) (sym (none-more ws))
  where
    none-more : (xs : List Val) → xs ++ [] ≡ xs
    none-more [] = refl
    none-more (x ∷ xs) = ap (λ zs. x ∷ zs) (none-more xs)
put-after [] Dropped k ws = refl
put-after [] (Failed c) k ws = refl
put-after ((v, Kept) ∷ cells) keep k ws =
    ap (λ z. sift (first_failure (cells ++ (val_of k, keep) ∷ [])) z) (sym (one-more ws v (kept_values (cells ++ (val_of k, keep) ∷ []))))
    ∙ (put-after cells keep k (ws ++ v ∷ []) ∙ ap (λ z. behind_where keep (sift (first_failure cells) z) k) (one-more ws v (kept_values cells)))
put-after ((v, Dropped) ∷ cells) keep k ws = put-after cells keep k ws
put-after ((v, Failed c) ∷ cells) keep k ws = sym (where-spoiled keep c k)

-- what is put to a clause is put to the collection
pub clause-put : (cells : List Cell) (keep : Keep) (k : Carried) → of_clause (cells ++ (val_of k, keep) ∷ []) ≡ behind_where keep (of_clause cells) k
clause-put cells keep k = put-after cells keep k []

-- and its value is the fold of the collection
pub clause-done : (f : Folding) (lo : ℤ) (cells : List Cell) → fold_value f lo cells ≡ folded f lo (of_clause cells) Unfilled
clause-done f lo cells = sym (by-sift f lo (first_failure cells) (kept_values cells))

-- a row is put to a collection as a value and what its mask says are put to a clause
pub clause-row : (j : ℕ) (mask : Option ℕ) (row : List Carried) (cells : List Cell)
    → of_clause (cells ++ (val_of (get_or row j Unfilled), says mask row) ∷ []) ≡ put_in (Sifts j mask) row (of_clause cells)
clause-row j None row cells = clause-put cells Kept (get_or row j Unfilled)
clause-row j (Some q) row cells = clause-put cells (keep_of masking.When (val_of (get_or row q Unfilled))) (get_or row j Unfilled)

-- ---- the copies of record, by what is put

module _ (s : Storage) (g l : ℕ) where
  left-rows : (c : Collect) (rows : List (List Carried)) (n : ℕ) (b : Bool) → n ≡ rows_sum (put_leaves c) rows → (if b then n else 0) ≡ rows_sum (λ row. if b then put_leaves c row else 0) rows
  left-rows c rows n true e = e
  left-rows c rows n false e = sym (sum-none rows)

  kept-left : (m port j : ℕ) (mask : Option ℕ) (rows : List (List Carried)) → IsWithin m (Sifts j mask) → AllLong m rows
      → where_left s g l port (kept_of (reads (Sifts j mask) (columns m rows))) ≡ rows_sum (row_copied s g l port (Sifts j mask)) rows
  kept-left m port j mask rows within h = left-rows (Sifts j mask) rows (kept_of (reads (Sifts j mask) (columns m rows))) (is_left s g l port) (kept-rows m j mask rows within h)

  -- a gather, a reduction, and a last value with a mask: at the node in the definition of record, row by row where it is put
  pub gather-copies : (m j : ℕ) (mask : Option ℕ) (lo : Carried) (rs : List Carried) (rows : List (List Carried)) → IsWithin m (Sifts j mask) → AllLong m rows
      → copied_by s g l simple.AGather (lo ∷ reads (Sifts j mask) (columns m rows)) rs ≡ rows_sum (row_copied s g l 2 (Sifts j mask)) rows
  gather-copies m j mask lo rs rows within h = kept-left m 2 j mask rows within h

  pub reduce-copies : (gr : Grouping) (m j : ℕ) (mask : Option ℕ) (name : Carried) (rs : List Carried) (rows : List (List Carried)) → IsWithin m (Sifts j mask) → AllLong m rows
      → copied_by s g l (simple.Reduce gr) (name ∷ reads (Sifts j mask) (columns m rows)) rs ≡ rows_sum (row_copied s g l 2 (Sifts j mask)) rows
  reduce-copies gr m j mask name rs rows within h = kept-left m 2 j mask rows within h

  pub final-copies : (m j q : ℕ) (rs : List Carried) (rows : List (List Carried)) → IsWithin m (Sifts j (Some q)) → AllLong m rows
      → copied_by s g l simple.FinalValue (reads (Sifts j (Some q)) (columns m rows)) rs ≡ rows_sum (row_copied s g l 1 (Sifts j (Some q))) rows
  final-copies m j q rs rows within h = kept-left m 1 j (Some q) rows within h

  -- a last value without a mask: of its result alone, so nothing where it is put
  pub last-copies : (j : ℕ) (cols rs : List Carried) → copied_by s g l simple.FinalValue (reads (Final j) cols) rs ≡ where_left s g l 1 (leaves_at (λ port. true) 1 rs)
  last-copies j cols rs = refl

-- ---- the laws

pub made-of-columns : IsMadeOfColumns
made-of-columns = (sifts-made, finals-made)

pub nodes-same : NodesGiveTheSame
nodes-same m j mask ks rows within h =
    let e = sifts-made m j mask rows within h in (
      (λ s many. gathers s j mask ks (columns m rows) many ∙ ap (λ k. op simple.AGather s (ks ++ k ∷ [])) (sym e)),
      (λ g s many. reduces g s j mask ks (columns m rows) many ∙ ap (λ k. op (simple.Reduce g) s (ks ++ k ∷ [])) (sym e)),
      (λ s many. finals s j mask ks (columns m rows) many ∙ ap (λ k. op simple.FinalValue s (ks ++ k ∷ [])) (sym e)),
      (λ s s' many. lasts s s' m j ks rows within.0 h many),
    )

pub copies-put : CopiesArePut
copies-put s g l m j mask k rs rows within h =
    (gather-copies s g l m j mask k rs rows within h, (λ gr. reduce-copies s g l gr m j mask k rs rows within h), by-mask mask within, last-copies s g l j (columns m rows) rs)
  where
    by-mask : (mask : Option ℕ) → IsWithin m (Sifts j mask) → (q : ℕ) → mask ≡ Some q → copied_by s g l simple.FinalValue (reads (Sifts j mask) (columns m rows)) rs ≡ rows_sum (row_copied s g l 1 (Sifts j mask)) rows
    by-mask None within q e = absurd (no e)
      where
        no : None ≡ Some q → ⊥
        no e = cc
    by-mask (Some q) within q' e = final-copies s g l m j q rs rows within h

pub clauses-stand : ClausesStand
clauses-stand = (clause-row, clause-done)
