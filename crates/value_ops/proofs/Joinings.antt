-- The rows of catenation and of change, part by part.
use Rattle.std.proofs.Common.{◌≡◌, ◌≢◌, ℕ, ◌<◌, true, List, [], ◌∷◌, ◌++◌, map, length, drop, Option, Some, None, refl, ap, ◌∙◌, rules}
use Rattle.std.specs.Option.{is_some, option_map, unwrap_or}
use Rattle.std.specs.List.{flat_map}
use Rattle.std.proofs.Math.Seq.{drop-cons}
use Rattle.flow_value.specs.declared.value.Val.{Val}
use Rattle.flow_value.specs.declared.value.Val.TheOpen.{Val-F}
use Rattle.flow_value.specs.declared.value.Val.TheVariants as val
use Rattle.flow_value.specs.declared.value.Val.TheViews as values
use Rattle.flow_value.specs.Aggregates.{array_val, stream_val}
use Rattle.flow_value.specs.Bounds.{Bounded}
use Rattle.value_ops.specs.Arity.{unless_errors}
use Rattle.value_ops.specs.Aggregates.{array_items_in, stream_items_in, joined, all_items, or_explicit, unless_alone, catenated, replaced}
use Rattle.value_ops.specs.Views.{list_in}
use Rattle.value_ops.specs.Operand.{value_of}
use Rattle.value_ops.specs.declared.values.Value.{Value}
use Rattle.value_ops.specs.Catenation.{part_in, items_in, all_in}
use Rattle.value_ops.specs.declared.catenate.Joining.{Joining}
use Rattle.value_ops.specs.declared.catenate.Joining.TheVariants as joining

pub replaced-short : (ps : List ℕ) (i : ℕ) (fields : List Val) → i < length ps → replaced (drop i ps) [] fields ≡ fields
replaced-short ps i fields h = ap (λ qs. replaced qs [] fields) (drop-cons ps i 0 h)

-- one more of a kind, in an option
more : (x y : Option (List Val)) (ys : List Val) → is_some (joined x y) ≡ true → (is_some y ≡ true → y ≡ Some ys) → joined x y ≡ Some (unwrap_or x [] ++ ys)
more None y ys some rest = cc
more (Some xs) None ys some rest = cc
more (Some xs) (Some zs) ys some rest = ap (λ y. joined (Some xs) y) (rest refl)

-- where all are of the kind, their elements in order
pub all_in-is : (j : Joining) (vs : List Val) → is_some (all_in j vs) ≡ true → all_in j vs ≡ Some (flat_map (items_in j) vs)
all_in-is (joining.Arrays lo) [] some = refl
all_in-is (joining.Arrays lo) (v ∷ vs) some =
    more (part_in (joining.Arrays lo) v) (all_in (joining.Arrays lo) vs) _ some (all_in-is (joining.Arrays lo) vs)
all_in-is joining.Streams [] some = refl
all_in-is joining.Streams (v ∷ vs) some =
    more (part_in joining.Streams v) (all_in joining.Streams vs) _ some (all_in-is joining.Streams vs)

unless_alone-several : (vs : List Val) (w : Val) → vs ≢ [] → unless_alone vs w ≡ w
unless_alone-several [] w several = absurd (several refl)
unless_alone-several (v ∷ vs) w several = refl

pub several-values : (vs : List Value) → vs ≢ [] → map value_of vs ≢ []
several-values [] several e = absurd (several refl)
several-values (v ∷ vs) several e = cc

module _ (vs : List Val) (several : vs ≢ []) (none : (w : Val) → unless_errors vs w ≡ w) where
  abbrev arrays : Bounded Val → Val
  arrays x = or_explicit (option_map (array_val x.lo) (joined (Some x.items) (all_items array_items_in vs)))

  abbrev streams : List Val → Val
  streams xs = or_explicit (option_map stream_val (joined (Some xs) (all_items stream_items_in vs)))

  pub catenated-arrays : (x : Bounded Val) → catenated (val.Arr x ∷ vs) ≡ arrays x
  catenated-arrays x =
      let out : values.out-Val (val.Arr x) ≡ Val-F.Arr x = search (rules, values.the_lemmas) in
      unless_alone-several vs _ several ∙ none _ ∙ ap (list_in arrays streams) out

  pub catenated-streams : (xs : List Val) → catenated (val.Stream xs ∷ vs) ≡ streams xs
  catenated-streams xs =
      let out : values.out-Val (val.Stream xs) ≡ Val-F.Stream xs = search (rules, values.the_lemmas) in
      unless_alone-several vs _ several ∙ none _ ∙ ap (list_in arrays streams) out
