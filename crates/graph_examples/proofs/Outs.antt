-- One layer of a value whose outermost form is known.
use Rattle.std.proofs.Common.{◌≡◌, ℕ, ℤ, List, rules}
use Rattle.flow_value.specs.Bounds.{Bounded}
use Rattle.flow_value.specs.declared.cause.Cause.{Cause}
use Rattle.flow_value.specs.declared.value.Val.{Val}
use Rattle.flow_value.specs.declared.value.Val.TheOpen.{Val-F}
use Rattle.flow_value.specs.declared.value.Val.TheVariants as val
use Rattle.flow_value.specs.declared.value.Val.TheViews as values

pub out-int : (n : ℤ) → values.out-Val (val.Int n) ≡ Val-F.Int n
out-int n = search (rules, values.the_lemmas)

pub out-error : (c : Cause) → values.out-Val (val.Err c) ≡ Val-F.Err c
out-error c = search (rules, values.the_lemmas)

pub out-array : (a : Bounded Val) → values.out-Val (val.Arr a) ≡ Val-F.Arr a
out-array a = search (rules, values.the_lemmas)

pub out-stream : (vs : List Val) → values.out-Val (val.Stream vs) ≡ Val-F.Stream vs
out-stream vs = search (rules, values.the_lemmas)

pub out-record : (vs : List Val) → values.out-Val (val.Rec vs) ≡ Val-F.Rec vs
out-record vs = search (rules, values.the_lemmas)

pub out-union : (tag : ℕ) (v : Val) → values.out-Val (val.Uni tag v) ≡ Val-F.Uni tag v
out-union tag v = search (rules, values.the_lemmas)

-- the layers of arrays and streams
pub ruleset lists = (out-array, out-stream)
