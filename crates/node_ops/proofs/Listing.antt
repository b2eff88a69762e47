-- Lists that grow by one.
use Rattle.std.proofs.Common.{◌≡◌, ℕ, zero, suc, ◌+◌, ◌≤◌, ℤ, pos, negsuc, ◌+ℤ◌, ◌-ℤ◌, ◌≤ℤ◌, true, if◌then◌else◌, List, [], ◌∷◌, ◌++◌, map, length, drop, refl, ap, sym, ◌∙◌, add-one, arith}
use Rattle.std.proofs.lemmas.Int.{ints}
use Rattle.std.proofs.lemmas.Bool.Decides.{nat_tests}
use Rattle.std.proofs.lemmas.List.{append-nil}
use Rattle.flow_value.specs.declared.value.Val.{Val}
use Rattle.flow_value.specs.declared.value.Val.TheVariants as val
use Rattle.flow_value.specs.Bounds.{is_few}
use Rattle.flow_value.specs.declared.cause.Cause.TheVariants as cause
use Rattle.value_ops.specs.Aggregates.{natural, places}
use Rattle.value_ops.specs.Arity.{explicit, of_one}
use Rattle.value_ops.specs.Operations.{op_value}
use Rattle.value_ops.specs.declared.operation.Operation.TheVariants as operation
use Rattle.loop_folds.specs.Clauses.{Cell}
use Rattle.if1_graph.specs.Ports.{count_from}
use Rattle.graph_meaning.specs.Carried.{Many, Spoiled}
use Rattle.graph_meaning.specs.NodeValues.{rising, range, masked, union_of, scatter_of, spoiled_twice}
use Rattle.node_ops.specs.Operands.{output_value}
use Rattle.node_ops.specs.Rows.{field_values}

rising-more' : (lo at : ℤ) (n : ℕ) → at ≡ lo +ℤ pos n → rising lo (suc n) ≡ rising lo n ++ val.Int at ∷ []
rising-more' lo at zero e = let same : lo ≡ at = omega (arith, ints) in ap (λ z. val.Int z ∷ []) same
rising-more' lo at (suc n) e = ap (λ vs. val.Int lo ∷ vs) (rising-more' (lo +ℤ pos 1) at n (omega (arith, ints)))

pub rising_more : (lo at : ℤ) (n : ℕ) → at ≡ lo +ℤ pos n → rising lo (n + 1) ≡ rising lo n ++ val.Int at ∷ []
rising_more lo at n e = ap (rising lo) (add-one n) ∙ rising-more' lo at n e

fields-more' : (first n at : ℕ) (vs : List Val) → at ≡ first + n
    → map (λ f. op_value (operation.Field f) vs) (count_from first (suc n)) ≡ map (λ f. op_value (operation.Field f) vs) (count_from first n) ++ op_value (operation.Field at) vs ∷ []
fields-more' first zero at vs e = let same : first ≡ at = omega arith in ap (λ f. op_value (operation.Field f) vs ∷ []) same
fields-more' first (suc n) at vs e = ap (λ ws. op_value (operation.Field first) vs ∷ ws) (fields-more' (suc first) n at vs (omega arith))

pub fields_more : (n : ℕ) (vs : List Val) → field_values (n + 1) vs ≡ field_values n vs ++ op_value (operation.Field n) vs ∷ []
fields_more n vs = ap (λ m. field_values m vs) (add-one n) ∙ fields-more' 0 n n vs (omega arith)

drop-over : (xs : List Val) (i : ℕ) → length xs ≤ i → drop i xs ≡ []
drop-over [] zero h = refl
drop-over [] (suc i) h = refl
drop-over (x ∷ xs) zero h = absurd (omega arith)
drop-over (x ∷ xs) (suc i) h = drop-over xs i (omega arith)

masked-none : (vs : List Val) → masked vs [] ≡ []
masked-none [] = refl
masked-none (v ∷ vs) = refl

-- behind the last mask no value is kept
pub masked-end : (cells all : List Cell) (vs masks : List Val) (i : ℕ) → length masks ≤ i → cells ++ masked vs (drop i masks) ≡ all → cells ≡ all
masked-end cells all vs masks i h e =
    sym (append-nil cells) ∙ ap (λ ds. cells ++ ds) (sym (ap (masked vs) (drop-over masks i h) ∙ masked-none vs)) ∙ e

-- where there is not exactly one operand, nothing is scattered
pub scattered-none : (vs : List Val) → ((f : Val → Val) → of_one f vs ≡ explicit) → scatter_of vs ≡ spoiled_twice cause.Explicit
scattered-none [] h = refl
scattered-none (v ∷ []) h = absurd (no-error (h (λ w. val.Null)))
  where
    no-error : val.Null ≡ val.Err cause.Explicit → ⊥
    no-error e = cc
scattered-none (v ∷ w ∷ vs) h = refl

-- how many places there are from a bound to a bound
pub natural_below : (z lo : ℤ) → (lo +ℤ z) ≤ℤ pos 9223372036854775808 → lo ≤ℤ pos 9223372036854775808 → (lo +ℤ pos (natural z)) ≤ℤ pos 9223372036854775808
natural_below (pos n) lo h k = h
natural_below (negsuc n) lo h k = omega (arith, ints)

few-natural : (z : ℤ) → z ≤ℤ pos 4194304 → is_few (natural z) ≡ true
few-natural (pos n) h = let few : n ≤ 4194304 = omega (arith, ints) in grind (arith, nat_tests)
few-natural (negsuc n) h = refl

pub few-range : (lo hi : ℤ) → ((hi +ℤ pos 1) -ℤ lo) ≤ℤ pos 4194304 → output_value (range lo hi) ≡ val.Stream (rising lo (places lo hi))
few-range lo hi h = ap (λ b. output_value (if b then Many (rising lo (places lo hi)) else Spoiled cause.Size)) (few-natural ((hi +ℤ pos 1) -ℤ lo) h)

-- a union of one value
pub union_of_one : (tag : ℕ) (vs : List Val) → union_of (tag ∷ []) vs ≡ of_one (val.Uni tag) vs
union_of_one tag [] = refl
union_of_one tag (v ∷ []) = refl
union_of_one tag (v ∷ w ∷ vs) = refl
