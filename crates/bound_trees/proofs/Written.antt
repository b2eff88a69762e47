-- Operations, records, changes and choices of typed trees have as many parts as their texts, and so such as a text can write.
use Rattle.std.proofs.Common.{◌≡◌, ◌≤◌, ℕ, suc, List, ◌++◌, Option, length, refl, ap, arith}
use Rattle.std.proofs.lemmas.List.{length-append}
use Rattle.flow_value.specs.declared.ty.Ty.{Ty}
use Rattle.sisal_tree.specs.declared.expr.Arm.{Arm}
use Rattle.sisal_tree.specs.declared.expr.BinaryOperator.{BinaryOperator}
use Rattle.sisal_tree.specs.declared.expr.BinaryOperator.TheVariants as binary
use Rattle.sisal_tree.specs.declared.expr.FieldValue.{FieldValue}
use Rattle.sisal_tree.specs.declared.expr.PrefixOperator.{PrefixOperator}
use Rattle.sisal_tree.specs.declared.expr.PrefixOperator.TheVariants as prefix
use Rattle.sisal_tree.specs.declared.expr.Scalar.{Scalar}
use Rattle.sisal_tree.specs.declared.expr.Scalar.TheVariants as scalar
use Rattle.sisal_tree.specs.declared.unit.Written.{Written}
use Rattle.typed_tree.specs.declared.built_in.BuiltIn.{BuiltIn}
use Rattle.typed_tree.specs.declared.built_in.BuiltIn.TheVariants as call
use Rattle.typed_tree.specs.declared.expr.TypedExpr.{TypedExpr}
use Rattle.typed_tree.specs.Operations.{prefix_operation, binary_operation, convert_operation, built_in_operation}
use Rattle.typed_tree.specs.Scopes.{Scope}
use Rattle.typed_tree.specs.Types.{Member}
use Rattle.typed_tree.specs.Typing as rule
use Rattle.typed_tree.specs.Typing.{Known, Replaces, HasFields, AreArms}
use Rattle.bound_trees.specs.Bound.{IsWrittenApply}

pub prefix_written : (o : PrefixOperator) (n : ℕ) → IsWrittenApply (prefix_operation o) n
prefix_written prefix.Negate n = tt
prefix_written prefix.Not n = tt

pub convert_written : (s : Scalar) (n : ℕ) → IsWrittenApply (convert_operation s) n
convert_written scalar.Integer n = tt
convert_written scalar.Boolean n = tt
convert_written scalar.Character n = tt

pub binary_written : (o : BinaryOperator) (n : ℕ) → IsWrittenApply (binary_operation o) n
binary_written binary.Or n = tt
binary_written binary.And n = tt
binary_written binary.Equal n = tt
binary_written binary.NotEqual n = tt
binary_written binary.Less n = tt
binary_written binary.LessEqual n = tt
binary_written binary.Greater n = tt
binary_written binary.GreaterEqual n = tt
binary_written binary.Catenate n = tt
binary_written binary.Plus n = tt
binary_written binary.Minus n = tt
binary_written binary.Times n = tt
binary_written binary.Divide n = tt

pub built_in_written : (b : BuiltIn) (n : ℕ) → IsWrittenApply (built_in_operation b) n
built_in_written call.Mod n = tt
built_in_written call.Abs n = tt
built_in_written call.Max n = tt
built_in_written call.Min n = tt
built_in_written call.ArrayFill n = tt
built_in_written call.ArrayAddHigh n = tt
built_in_written call.ArrayAddLow n = tt
built_in_written call.ArrayRemoveHigh n = tt
built_in_written call.ArrayRemoveLow n = tt
built_in_written call.ArraySetLow n = tt
built_in_written call.ArrayAdjust n = tt
built_in_written call.ArrayLimitLow n = tt
built_in_written call.ArrayLimitHigh n = tt
built_in_written call.ArraySize n = tt
built_in_written call.StreamAppend n = tt
built_in_written call.StreamSize n = tt
built_in_written call.StreamEmpty n = tt
built_in_written call.StreamFirst n = tt
built_in_written call.StreamRest n = tt

module _ (k : Known) (denotes : Written → Ty → Type 0) where
  pub replaced_counted : (s : Scope) (ms : List Member) (vs : List FieldValue) (places : List ℕ) (us : List TypedExpr) → Replaces k denotes s ms vs places us → length places ≡ length vs
  replaced_counted s ms _ _ _ rule.no_field = refl
  replaced_counted s ms _ _ _ (rule.a_field {vs = vs} {places = places} {us = us} h p q) = ap suc (replaced_counted s ms vs places us q)

  pub fields_counted : (s : Scope) (vs : List FieldValue) (ts : List TypedExpr) (ms : List Member) → HasFields k denotes s vs ts ms → length ts ≡ length vs
  fields_counted s _ _ _ rule.no_member = refl
  fields_counted s _ _ _ (rule.a_member {vs = vs} {ts = ts} {ms = ms} h p q) = ap suc (fields_counted s vs ts ms q)

  arms_even : (s : Scope) (x : Option ℕ) (ms : List Member) (tys : List Ty) (arms : List Arm) (us : List (List TypedExpr)) (tags : List (List ℕ)) → AreArms k denotes s x ms tys arms us tags → length us ≡ length arms
  arms_even s x ms tys _ _ _ rule.no_arm = refl
  arms_even s x ms tys _ _ _ (rule.an_arm l content names {arms = arms} {typed_arms = us} {tags = tags} o t p q) = ap suc (arms_even s x ms tys arms us tags q)

  pub arms_there : (s : Scope) (x : Option ℕ) (ms : List Member) (tys : List Ty) (arms : List Arm) (us last : List (List TypedExpr)) (tags : List (List ℕ))
      → AreArms k denotes s x ms tys arms us tags → 1 ≤ length arms → 1 ≤ length (us ++ last)
  arms_there s x ms tys arms us last tags p some = let same = arms_even s x ms tys arms us tags p in let all = length-append us last in omega (arith, some, same, all)
