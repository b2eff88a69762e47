-- What is kept of the cells of a clause once a cell was added.
use Rattle.std.proofs.Common.{◌≡◌, ◌≤◌, List, [], ◌∷◌, ◌++◌, length, Option, Some, None, refl, sym, ◌∙◌, ap, subst, append-nil, arith}
use Rattle.flow_value.specs.declared.cause.Cause.{Cause}
use Rattle.flow_value.specs.declared.value.Val.{Val}
use Rattle.loop_folds.specs.Elements.{or_else}
use Rattle.loop_folds.specs.Clauses.{Cell, first_failure, kept_values}
use Rattle.loop_folds.specs.Makings.{Stands, counted, IsMaking}
use Rattle.loop_folds.specs.declared.making.Making.{Making}
use Rattle.loop_folds.specs.declared.making.Making.TheVariants as making
use Rattle.loop_folds.specs.declared.masking.Keep.TheVariants.{Kept, Dropped, Failed}

first_failure-append : (xs ys : List Cell) → first_failure (xs ++ ys) ≡ or_else (first_failure xs) (first_failure ys)
first_failure-append [] ys = refl
first_failure-append ((v, Failed c) ∷ xs) ys = refl
first_failure-append ((v, Kept) ∷ xs) ys = first_failure-append xs ys
first_failure-append ((v, Dropped) ∷ xs) ys = first_failure-append xs ys

kept_values-append : (xs ys : List Cell) → kept_values (xs ++ ys) ≡ kept_values xs ++ kept_values ys
kept_values-append [] ys = refl
kept_values-append ((v, Kept) ∷ xs) ys = ap (λ vs. v ∷ vs) (kept_values-append xs ys)
kept_values-append ((v, Dropped) ∷ xs) ys = kept_values-append xs ys
kept_values-append ((v, Failed c) ∷ xs) ys = kept_values-append xs ys

first-added : (f : Option Cause) (xs ys : List Cell) → f ≡ first_failure xs → or_else f (first_failure ys) ≡ first_failure (xs ++ ys)
first-added f xs ys e = ap (λ g. or_else g (first_failure ys)) e ∙ sym (first_failure-append xs ys)

-- past a mask that is an error nothing changes
pub added-late : (c : Cause) (m : Making) (cells : List Cell) (cell : Cell) → IsMaking (Some c) m cells → IsMaking (Some c) m (cells ++ cell ∷ [])
added-late c m cells cell is = record {
  first = first-added (Some c) cells (cell ∷ []) is.first;
  stands = λ e. cc;
}

pub added-kept : (m n : Making) (cells : List Cell) (v : Val) → ((vs : List Val) → Stands m vs → Stands n (vs ++ v ∷ [])) → IsMaking None m cells → IsMaking None n (cells ++ (v, Kept) ∷ [])
added-kept m n cells v added is = record {
  first = first-added None cells ((v, Kept) ∷ []) is.first;
  stands = λ e. subst (λ vs. Stands n vs) (sym (kept_values-append cells ((v, Kept) ∷ []))) (added (kept_values cells) (is.stands e));
}

pub added-dropped : (m : Making) (cells : List Cell) (v : Val) → IsMaking None m cells → IsMaking None m (cells ++ (v, Dropped) ∷ [])
added-dropped m cells v is =
    let same : kept_values cells ≡ kept_values (cells ++ (v, Dropped) ∷ []) = sym (kept_values-append cells ((v, Dropped) ∷ []) ∙ append-nil (kept_values cells)) in
    record {
      first = first-added None cells ((v, Dropped) ∷ []) is.first;
      stands = λ e. subst (λ vs. Stands m vs) same (is.stands e);
    }

pub added-failed : (m : Making) (cells : List Cell) (v : Val) (c : Cause) → IsMaking None m cells → IsMaking (Some c) m (cells ++ (v, Failed c) ∷ [])
added-failed m cells v c is = record {
  first = first-added None cells ((v, Failed c) ∷ []) is.first;
  stands = λ e. cc;
}

kept_values-length : (cells : List Cell) → length (kept_values cells) ≤ length cells
kept_values-length [] = omega arith
kept_values-length ((v, Kept) ∷ cells) = omega (arith, kept_values-length cells)
kept_values-length ((v, Dropped) ∷ cells) = omega (arith, kept_values-length cells)
kept_values-length ((v, Failed c) ∷ cells) = omega (arith, kept_values-length cells)

counted-most : (m : Making) (vs : List Val) → Stands m vs → counted m ≤ length vs
counted-most (making.Array items) vs s = omega arith
counted-most (making.Stream items) vs s = omega arith
counted-most (making.Last t) vs s = rw s (omega arith)
counted-most (making.Sum t) vs s = rw s (omega arith)
counted-most (making.Product t) vs s = rw s (omega arith)
counted-most (making.Least t) vs s = rw s (omega arith)
counted-most (making.Greatest t) vs s = rw s (omega arith)
counted-most (making.CatenateArrays t) vs s = rw s (omega arith)
counted-most (making.CatenateStreams first t) vs s = rw s.1 (omega arith)

-- a reduction has counted no more than there are cells
pub counted-few : (f : Option Cause) (m : Making) (cells : List Cell) → IsMaking f m cells → f ≡ None → counted m ≤ length cells
counted-few f m cells is e =
    let most = counted-most m (kept_values cells) (is.stands e) in
    let few = kept_values-length cells in
    omega arith
