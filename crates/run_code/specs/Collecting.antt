-- What is collected stands for the multiples: for the nodes that read them, for the copies of record, and for the Rust type of a clause.
use Rattle.std.specs.Prelude.{◌≡◌, ℕ, ◌<◌, ℤ, true, List, [], ◌∷◌, ◌++◌, length, get_or, Option, Some, None}
use Rattle.ordered_meaning.specs.Leaves.{leaf_count}
use Rattle.ordered_meaning.specs.Clauses.{Cell, first_failure, kept_values, fold_value}
use Rattle.ordered_meaning.specs.Masks.{keep_of}
use Rattle.ordered_meaning.specs.Folding.{Folding}
use Rattle.ordered_meaning.specs.Keep.{Keep}
use Rattle.ordered_meaning.specs.Keep.TheVariants.{Kept}
use Rattle.ordered_meaning.specs.Masking.TheVariants as masking
use Rattle.ordered_meaning.specs.Grouping.{Grouping}
use Rattle.ordered_meaning.specs.Simple.TheVariants as simple
use Rattle.ordered_meaning.specs.Carried.{Carried, Value, Unfilled, val_of}
use Rattle.ordered_meaning.specs.NodeValues.{Shape, folded, op}
use Rattle.ordered_meaning.specs.Forms.{columns}
use Rattle.ordered_meaning.specs.Storage.{Storage, leaves_where, leaves_at, where_left, copied_by}
use Rattle.run_code.specs.Collections.{Collect, Final, IsWithin, Sifts, made, made_of, put_in, sift}
use Rattle.run_code.specs.Refolds.{AllLong, reads, rows_sum}

-- what is put row by row is made of the columns; a last value is kept as it is
abbrev pub IsMadeOfColumns : Type 0
IsMadeOfColumns =
    ((m j : ℕ) (mask : Option ℕ) (rows : List (List Carried)) → IsWithin m (Sifts j mask) → AllLong m rows → made (Sifts j mask) rows ≡ made_of (Sifts j mask) (columns m rows))
    × ((m j : ℕ) (rows : List (List Carried)) → j < m → AllLong m rows → Value (val_of (made (Final j) rows)) ≡ made_of (Final j) (columns m rows))

-- a gather, a reduction and a last value give the same on what is collected; a last value without a mask is only passed on
abbrev pub NodesGiveTheSame : Type 0
NodesGiveTheSame =
    (m j : ℕ) (mask : Option ℕ) (ks : List Carried) (rows : List (List Carried)) → IsWithin m (Sifts j mask) → AllLong m rows
    → ((s : Shape) → length ks ≡ 1 → op simple.AGather s (ks ++ reads (Sifts j mask) (columns m rows)) ≡ op simple.AGather s (ks ++ made (Sifts j mask) rows ∷ []))
    × ((g : Grouping) (s : Shape) → length ks ≡ 1 → op (simple.Reduce g) s (ks ++ reads (Sifts j mask) (columns m rows)) ≡ op (simple.Reduce g) s (ks ++ made (Sifts j mask) rows ∷ []))
    × ((s : Shape) → length ks ≡ 0 → op simple.FinalValue s (ks ++ reads (Sifts j mask) (columns m rows)) ≡ op simple.FinalValue s (ks ++ made (Sifts j mask) rows ∷ []))
    × ((s s' : Shape) → length ks ≡ 0 → op simple.FinalValue s (ks ++ reads (Final j) (columns m rows)) ≡ op simple.NoOp s' (ks ++ made (Final j) rows ∷ []))

-- the leaves of what a row puts
abbrev pub put_leaves : Collect → List Carried → ℕ
put_leaves (Sifts j None) row = leaf_count (val_of (get_or row j Unfilled))
put_leaves (Sifts j (Some q)) row = leaves_where (val_of (get_or row j Unfilled), keep_of masking.When (val_of (get_or row q Unfilled)))
put_leaves (Final j) row = 0

-- what a row puts adds, where the multiple at this port of a node is left
abbrev pub row_copied : Storage → (graph node port : ℕ) → Collect → List Carried → ℕ
row_copied s g l port c row = where_left s g l port (put_leaves c row)

-- what a gather, a reduction, and a last value with a mask copy by the definition of record is the sum of what the rows put; a last
-- value without a mask copies its result alone
abbrev pub CopiesArePut : Type 0
CopiesArePut = (s : Storage) (g l m j : ℕ) (mask : Option ℕ) (k : Carried) (rs : List Carried) (rows : List (List Carried)) → IsWithin m (Sifts j mask) → AllLong m rows
    → (copied_by s g l simple.AGather (k ∷ reads (Sifts j mask) (columns m rows)) rs ≡ rows_sum (row_copied s g l 2 (Sifts j mask)) rows)
    × ((gr : Grouping) → copied_by s g l (simple.Reduce gr) (k ∷ reads (Sifts j mask) (columns m rows)) rs ≡ rows_sum (row_copied s g l 2 (Sifts j mask)) rows)
    × ((q : ℕ) → mask ≡ Some q → copied_by s g l simple.FinalValue (reads (Sifts j mask) (columns m rows)) rs ≡ rows_sum (row_copied s g l 1 (Sifts j mask)) rows)
    × (copied_by s g l simple.FinalValue (reads (Final j) (columns m rows)) rs ≡ where_left s g l 1 (leaves_at (λ port. true) 1 rs))

-- the collection that the cells of a clause stand for
abbrev pub of_clause : List Cell → Carried
of_clause cells = sift (first_failure cells) (kept_values cells)

-- what a mask of a row says
abbrev pub says : Option ℕ → List Carried → Keep
says None row = Kept
says (Some q) row = keep_of masking.When (val_of (get_or row q Unfilled))

-- a clause to which values are put, with what their masks say, stands for the collection, and its value is the fold of that
abbrev pub ClausesStand : Type 0
ClausesStand =
    ((j : ℕ) (mask : Option ℕ) (row : List Carried) (cells : List Cell) → of_clause (cells ++ (val_of (get_or row j Unfilled), says mask row) ∷ []) ≡ put_in (Sifts j mask) row (of_clause cells))
    × ((f : Folding) (lo : ℤ) (cells : List Cell) → fold_value f lo cells ≡ folded f lo (of_clause cells) Unfilled)
