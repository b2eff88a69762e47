-- What a fold has seen of two lists in a row.
use Rattle.std.specs.Prelude.{◌≡◌, Bool, List, [], ◌∷◌, ◌++◌, refl, Option, None, Some}
use Rattle.std.proofs.Common.{sym, ◌∙◌, ap, length-append}
use Rattle.std.proofs.lemmas.List.Folds.{list_any-append}
use Rattle.flow_value.specs.declared.value.Val.{Val}
use Rattle.flow_value.specs.declared.cause.Cause.{Cause}
use Rattle.loop_folds.specs.Elements.{or_else, error_of, first_error}
use Rattle.loop_folds.specs.Seen.{seen, seen_of, seen_joined}

or_else_assoc : (a b c : Option Cause) → or_else (or_else a b) c ≡ or_else a (or_else b c)
or_else_assoc None b c = refl
or_else_assoc (Some a) b c = refl

first_error-append : (xs ys : List Val) → first_error (xs ++ ys) ≡ or_else (first_error xs) (first_error ys)
first_error-append [] ys = refl
first_error-append (x ∷ xs) ys =
    ap (λ c. or_else (error_of x) c) (first_error-append xs ys) ∙ sym (or_else_assoc (error_of x) (first_error xs) (first_error ys))

pub seen_of-append : (p : Val → Bool) (xs ys : List Val) → seen_of p (xs ++ ys) ≡ seen_joined (seen_of p xs) (seen_of p ys)
seen_of-append p xs ys = λ i. seen (length-append xs ys i) (first_error-append xs ys i) (list_any-append p xs ys i)
