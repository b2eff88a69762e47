-- What the ports from a place on hold, once that place is taken.
use Rattle.std.proofs.Common.{◌≡◌, ℕ, suc, ◌+◌, ◌<◌, List, length, get_or, drop, Option, Some, None, refl, slice_get, slice_set, ap, sym, ◌∙◌, add-one, arith}
use Rattle.std.specs.List.{cons_option}
use Rattle.std.proofs.Math.Seq.{drop-cons}
use Rattle.std.proofs.lemmas.List.{drop-set-lt}
use Rattle.std.proofs.lemmas.Option.{slice_get_within, get_or_from_slice_get}
use Rattle.flow_value.specs.declared.value.Val.{Val}
use Rattle.value_ops.specs.Given.{values_in}

pub next_port : (os : List (Option Val)) (p : ℕ) (x : Option Val) → slice_get os p ≡ Some x → values_in (drop p os) ≡ cons_option x (values_in (drop (p + 1) (slice_set os p None)))
next_port os p x e =
    let within : p < length os = slice_get_within os p x e in
    let here : get_or os p None ≡ x = get_or_from_slice_get os p x None e in
    let rest : drop (suc p) os ≡ drop (p + 1) (slice_set os p None) = sym (rw add-one (drop-set-lt (suc p) os p None (omega arith))) in
    ap values_in (drop-cons os p None within)
    ∙ ap (λ y. cons_option y (values_in (drop (suc p) os))) here
    ∙ ap (λ ys. cons_option x (values_in ys)) rest

pub next_given : (os ns : List (Option Val)) (p : ℕ) (x : Option Val) → slice_get os p ≡ Some x → ns ≡ slice_set os p None → values_in (drop p os) ≡ cons_option x (values_in (drop (p + 1) ns))
next_given os ns p x e n = next_port os p x e ∙ ap (λ ys. cons_option x (values_in (drop (p + 1) ys))) (sym n)

given_at : (os : List (Option Val)) (p : ℕ) (x : Option Val) → slice_get os p ≡ Some x → values_in (drop p os) ≡ cons_option x (values_in (drop (p + 1) os))
given_at os p x e =
    let within : p < length os = slice_get_within os p x e in
    let here : get_or os p None ≡ x = get_or_from_slice_get os p x None e in
    let rest : drop (suc p) os ≡ drop (p + 1) os = sym (rw add-one refl) in
    ap values_in (drop-cons os p None within)
    ∙ ap (λ y. cons_option y (values_in (drop (suc p) os))) here
    ∙ ap (λ ys. cons_option x (values_in ys)) rest

pub counted : (os : List (Option Val)) (p : ℕ) (v : Val) → slice_get os p ≡ Some (Some v) → length (values_in (drop p os)) ≡ length (values_in (drop (p + 1) os)) + 1
counted os p v e = ap length (given_at os p (Some v) e) ∙ sym (add-one (length (values_in (drop (p + 1) os))))

pub passed : (os : List (Option Val)) (p : ℕ) → slice_get os p ≡ Some None → length (values_in (drop p os)) ≡ length (values_in (drop (p + 1) os))
passed os p e = ap length (given_at os p None e)
