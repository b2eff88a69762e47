-- Values by their outermost form.
use Rattle.std.proofs.Common.{◌≡◌, [], ◌∷◌, true, false, refl, sym, ap, ◌∙◌, subst, rules}
use Rattle.flow_value.specs.Bounds.{Bounded}
use Rattle.flow_value.specs.Scalar.{unless_error}
use Rattle.flow_value.specs.declared.value.Val.{Val}
use Rattle.flow_value.specs.declared.value.Val.TheOpen.{Val-F}
use Rattle.flow_value.specs.declared.value.Val.TheVariants as val
use Rattle.flow_value.specs.declared.value.Val.TheViews as values
use Rattle.flow_value.specs.declared.operation.Scalar1.TheVariants as unary
use Rattle.value_ops.specs.Operations.{op_value}
use Rattle.value_ops.specs.declared.operation.Operation.TheVariants as operation
use Rattle.loop_folds.specs.Masks.{keep_of}
use Rattle.loop_folds.specs.declared.masking.Masking.TheVariants as masking
use Rattle.typed_rows.proofs.ValueKinds.{out_arr}

rolled : (v : Val) → v ≡ values.roll-Val (values.out-Val v)
rolled v = search (rules, values.the_lemmas)

by-form : (P : Val → Type 0) → ((y : Val-F Val) → P (values.roll-Val y)) → (v : Val) → P v
by-form P f v = subst P (sym (rolled v)) (f (values.out-Val v))

-- a mask of `unless` says what its Not says as a mask of `when`
abbrev SaysUnless : Val → Type 0
SaysUnless v = keep_of masking.When (op_value (operation.Unary unary.Not) (v ∷ [])) ≡ keep_of masking.Unless v

says-form : (y : Val-F Val) → SaysUnless (values.roll-Val y)
unfolding values.roll-Val denote.Hole.Carrier.roll
says-form (Val-F.Bool true) = refl
says-form (Val-F.Bool false) = refl
says-form (Val-F.Err c) = refl
says-form (Val-F.Int n) = refl
says-form (Val-F.Char n) = refl
says-form Val-F.Null = refl
says-form (Val-F.Arr a) = refl
says-form (Val-F.Rec vs) = refl
says-form (Val-F.Uni t v) = refl
says-form (Val-F.Stream vs) = refl

pub says-unless : (v : Val) → SaysUnless v
says-unless v = by-form SaysUnless says-form v

-- an array is no error
passes-form : (a : Bounded Val) (w : Val) → unless_error (values.roll-Val (Val-F.Arr a)) w ≡ w
unfolding values.roll-Val denote.Hole.Carrier.roll
passes-form a w = refl

pub passes-array : (a : Bounded Val) (w : Val) → unless_error (val.Arr a) w ≡ w
passes-array a w = ap (λ v. unless_error v w) (rolled (val.Arr a) ∙ ap values.roll-Val (out_arr a)) ∙ passes-form a w
