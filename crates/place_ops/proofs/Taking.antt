-- The further operands of a node, by port.
use Rattle.std.proofs.Common.{◌≡◌, ℕ, suc, List, [], ◌∷◌, map, length, Option, Some, None, drop, get_or, refl, sym, ap, ◌∙◌, ◌+◌, add-one, ◌<◌, arith, eq-eqb, nat_eq, nat_lt, Bool, true, false, ◌&&◌, if◌then◌else◌}
use Rattle.std.specs.List.{list_all}
use Rattle.std.proofs.Math.Seq.{drop-cons}
use Rattle.std.proofs.lemmas.Bool.Decides.{nat_tests}
use Rattle.flow_value.specs.declared.value.Val.{Val}
use Rattle.flow_value.specs.declared.value.Val.TheVariants as val
use Rattle.value_ops.specs.Aggregates.{changed, replaced}
use Rattle.value_ops.specs.Arity.{explicit}
use Rattle.value_ops.specs.Given.{values_in}
use Rattle.graph_meaning.specs.Carried.{filled_from}
use Rattle.node_ops.specs.Operands.{plain}

-- as many values as ports that have one
values-filled : (n : ℕ) (ins : List (Option Val)) → length (values_in ins) ≡ length (filled_from n (map plain ins))
values-filled n [] = refl
values-filled n (None ∷ ins) = values-filled (suc n) ins
values-filled n (Some v ∷ ins) = ap suc (values-filled (suc n) ins)

-- a change by ports needs no look at how many values there are
pub change_ports : (ins : List (Option Val)) (fields : List Val)
    → changed (filled_from 0 (map plain ins)) (values_in ins) fields
    ≡ (if list_all (λ p. nat_lt p (length fields)) (filled_from 0 (map plain ins)) then val.Rec (replaced (filled_from 0 (map plain ins)) (values_in ins) fields) else explicit)
change_ports ins fields =
    let ps = filled_from 0 (map plain ins) in
    let vs = values_in ins in
    let same : nat_eq (length vs) (length ps) ≡ true = eq-eqb (length vs) (length ps) (values-filled 0 ins) in
    ap (λ b. if b && list_all (λ p. nat_lt p (length fields)) ps then val.Rec (replaced ps vs fields) else explicit) same

abbrev pub below : ℕ → List ℕ → Bool
below count ps = list_all (λ p. nat_lt p count) ps

-- the ports from one on are below a number, if this one is and those behind it are
below-from : (count p : ℕ) (x : Option Val) (ins : List (Option Val)) → p < length ins → x ≡ get_or ins p x
    → below count (filled_from p (map plain (drop p ins))) ≡ below count (filled_from p (plain x ∷ [])) && below count (filled_from (p + 1) (map plain (drop (p + 1) ins)))
below-from count p x ins within e =
    let behind : drop (suc p) ins ≡ drop (p + 1) ins = ap (λ n. drop n ins) (sym (add-one p)) in
    ap (λ xs. below count (filled_from p (map plain xs))) (drop-cons ins p x within ∙ ap (λ y. y ∷ drop (suc p) ins) (sym e) ∙ ap (λ xs. x ∷ xs) behind)
    ∙ first x
  where
    first : (y : Option Val) → below count (filled_from p (plain y ∷ map plain (drop (p + 1) ins))) ≡ below count (filled_from p (plain y ∷ [])) && below count (filled_from (p + 1) (map plain (drop (p + 1) ins)))
    first None = ap (λ n. below count (filled_from n (map plain (drop (p + 1) ins)))) (sym (add-one p))
    first (Some v) = elim (nat_lt p count) as (λ b. b && below count (filled_from (suc p) (map plain (drop (p + 1) ins))) ≡ (b && true) && below count (filled_from (p + 1) (map plain (drop (p + 1) ins)))) [
      | true ↦ ap (λ n. below count (filled_from n (map plain (drop (p + 1) ins)))) (sym (add-one p))
      | false ↦ refl
    ]

-- where this one is below it, those behind it decide
pub below-behind : (count p : ℕ) (x : Option Val) (ins : List (Option Val)) (all : Bool) → p < length ins → x ≡ get_or ins p x → below count (filled_from p (plain x ∷ [])) ≡ true
    → all ≡ below count (filled_from p (map plain (drop p ins))) → all ≡ below count (filled_from (p + 1) (map plain (drop (p + 1) ins)))
below-behind count p x ins all within e here h =
    h ∙ below-from count p x ins within e ∙ ap (λ b. b && below count (filled_from (p + 1) (map plain (drop (p + 1) ins)))) here

pub below-none : (count p : ℕ) (x : Option Val) → x ≡ None → below count (filled_from p (plain x ∷ [])) ≡ true
below-none count p x e = ap (λ y. below count (filled_from p (plain y ∷ []))) e

pub below-some : (count p : ℕ) (x : Option Val) (v : Val) → x ≡ Some v → p < count → below count (filled_from p (plain x ∷ [])) ≡ true
below-some count p x v e h =
    let yes : nat_lt p count ≡ true = grind (arith, nat_tests) in
    ap (λ y. below count (filled_from p (plain y ∷ []))) e ∙ ap (λ b. b && true) yes
