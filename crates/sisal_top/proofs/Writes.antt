-- What a sink has taken, whether it took all or failed.
use Rattle.std.proofs.Common.{ℕ, ◌+◌, ◌≤◌, List, ◌++◌, length, take, Option, Some, Result, Ok, Err, true≢false, sym, subst, ap, ◌∙◌, arith, append_assoc}
use Rattle.std.proofs.Math.Seq.{take-append-add, take-length}
use Rattle.std.proofs.lemmas.List.{take-append-le, length-append}
use Rattle.std.specs.Result.{IsErr, OnOk, OnErr}
use Rattle.flow_io.specs.Bytes.{AddsOn}
use Rattle.flow_io.specs.declared.failed.Failed.{Failed}
use Rattle.sisal_top.specs.Lines.{Takes}

-- the clauses of one write as one fact
pub takes : (r : Result (Unit {0}) Failed) (before after : Option (List ℕ)) (bytes : List ℕ)
    → OnOk r (AddsOn before bytes after) → OnErr r ((n : ℕ) × (n ≤ length bytes) × AddsOn before (take n bytes) after)
    → Takes r before bytes after
takes (Ok u) before after bytes all some = all
takes (Err e) before after bytes all some = some

-- a write that failed at the first of two
pub takes_first : (e : Failed) (before after : Option (List ℕ)) (xs ys : List ℕ)
    → Takes (Err e) before xs after → Takes (Err e) before (xs ++ ys) after
takes_first e before after xs ys f =
    (f.0, omega (arith, f.1, length-append xs ys), subst (λ bs. AddsOn before bs after) (sym (take-append-le f.0 xs ys f.1)) f.2)

pub takes_failed : (r : Result (Unit {0}) Failed) (e : Failed) (before after : Option (List ℕ)) (xs ys : List ℕ)
    → IsErr r → Takes (Err e) before xs after → Takes r before (xs ++ ys) after
takes_failed (Ok u) e before after xs ys is f = absurd (true≢false (sym is))
takes_failed (Err x) e before after xs ys is f = takes_first x before after xs ys f

-- a second write behind a first one
pub takes_then : (r : Result (Unit {0}) Failed) (before mid after : Option (List ℕ)) (xs ys : List ℕ)
    → AddsOn before xs mid → Takes r mid ys after → Takes r before (xs ++ ys) after
takes_then (Ok u) before mid after xs ys f s = λ told is. s (told ++ xs) (f told is) ∙ ap Some (append_assoc told xs ys)
takes_then (Err e) before mid after xs ys f s = (
  length xs + s.0,
  omega (arith, s.1, length-append xs ys),
  λ told is. s.2 (told ++ xs) (f told is) ∙ ap Some (append_assoc told xs (take s.0 ys) ∙ ap (λ bs. told ++ bs) (sym (take-append-add xs ys s.0))),
)

-- whatever came of a line, a prefix of it was taken
pub takes_prefix : (r : Result (Unit {0}) Failed) (before after : Option (List ℕ)) (bytes : List ℕ)
    → Takes r before bytes after → (n : ℕ) × AddsOn before (take n bytes) after
takes_prefix (Ok u) before after bytes all = (length bytes, subst (λ bs. AddsOn before bs after) (sym (take-length bytes)) all)
takes_prefix (Err e) before after bytes some = (some.0, some.2)
