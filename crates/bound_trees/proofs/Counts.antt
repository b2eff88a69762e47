-- How many values typed expressions have, and how many names come into force.
use Rattle.std.proofs.Common.{◌≡◌, ℕ, suc, ◌+◌, List, [], ◌∷◌, ◌++◌, map, length, refl, sym, ap, ◌∙◌, arith}
use Rattle.std.proofs.lemmas.List.{length-append}
use Rattle.flow_value.specs.declared.ty.Ty.{Ty}
use Rattle.type_table.specs.declared.form.Form.{Form}
use Rattle.sisal_tree.specs.declared.unit.Written.{Written}
use Rattle.sisal_tree.specs.declared.expr.Expr.{Expr}
use Rattle.sisal_tree.specs.declared.expr.Def.{Def, roll-Def, out-roll-Def}
use Rattle.sisal_tree.specs.declared.expr.Target.{Target}
use Rattle.sisal_tree.specs.declared.expr.Generator.{Generator}
use Rattle.sisal_tree.specs.declared.expr.Clause.{Clause}
use Rattle.typed_tree.specs.declared.expr.TypedExpr.{TypedExpr}
use Rattle.typed_tree.specs.declared.expr.Source.{Source}
use Rattle.typed_tree.specs.Scopes.{Scope, targets}
use Rattle.typed_tree.specs.Types.{AreNumbers}
use Rattle.typed_tree.specs.Typing as rule
use Rattle.typed_tree.specs.Typing.{Known, Number, names_in, AreTargets, Types, AreTyped, Defines, Crosses, Generates}
use Rattle.bound_trees.specs.Bound.{values_in, levels_in, levels_over}

pub numbers_counted : (forms : List Form) (spellings : List (List ℕ)) (ns : List ℕ) (tys : List Ty) → AreNumbers forms spellings ns tys → length ns ≡ length tys
numbers_counted forms spellings [] [] p = refl
numbers_counted forms spellings [] (a ∷ tys) p = absurd p
numbers_counted forms spellings (n ∷ ns) [] p = absurd p
numbers_counted forms spellings (n ∷ ns) (a ∷ tys) p = ap suc (numbers_counted forms spellings ns tys p.1)

pub targets_counted : (denotes : Written → Ty → Type 0) (xs : List Target) (tys : List Ty) → AreTargets denotes xs tys → length (names_in xs) ≡ length tys
targets_counted denotes [] [] p = refl
targets_counted denotes [] (a ∷ tys) p = absurd p
targets_counted denotes (x ∷ xs) [] p = absurd p
targets_counted denotes (x ∷ xs) (a ∷ tys) p = ap suc (targets_counted denotes xs tys p.1)

targets_first : (xs : List Target) (es : List Expr) (ds : List Def) → targets (roll-Def (record { targets = xs; values = es }) ∷ ds) ≡ names_in xs ++ targets ds
targets_first xs es ds = ap (λ d. map (λ t. t.name.name) d.targets ++ targets ds) (out-roll-Def (record { targets = xs; values = es }))

module _ (k : Known) (denotes : Written → Ty → Type 0) where
  counted : (ns : List ℕ) (tys : List Ty) → Number k ns tys → length ns ≡ length tys
  counted ns tys n = numbers_counted k.forms k.spellings ns tys n.each

  -- a typed expression has as many values as types
  mutual
    pub type_counted : (s : Scope) (e : Expr) (t : TypedExpr) (tys : List Ty) → Types k denotes s e t tys → length t.types ≡ length tys
    type_counted s _ _ tys (rule.constant {ns = ns} n) = counted ns tys n
    type_counted s _ _ tys (rule.name {ns = ns} h n) = counted ns tys n
    type_counted s _ _ tys (rule.old {ns = ns} h n) = counted ns tys n
    type_counted s _ _ tys (rule.group {ns = ns} p n) = counted ns tys n
    type_counted s _ _ tys (rule.call {ns = ns} h p n) = counted ns tys n
    type_counted s _ _ tys (rule.built_in {ns = ns} h p g d n) = counted ns tys n
    type_counted s _ _ tys (rule.convert {ns = ns} p h n) = counted ns tys n
    type_counted s _ _ tys (rule.error_of {ns = ns} h n) = counted ns tys n
    type_counted s _ _ tys (rule.is_error {ns = ns} p n) = counted ns tys n
    type_counted s _ _ tys (rule.is_tag {ns = ns} p h n) = counted ns tys n
    type_counted s _ _ tys (rule.prefix {ns = ns} p n) = counted ns tys n
    type_counted s _ _ tys (rule.binary {ns = ns} p q h n) = counted ns tys n
    type_counted s _ _ tys (rule.select {ns = ns} p q n) = counted ns tys n
    type_counted s _ _ tys (rule.update {ns = ns} p q r n) = counted ns tys n
    type_counted s _ _ tys (rule.field {ns = ns} p h n) = counted ns tys n
    type_counted s _ _ tys (rule.replace {ns = ns} p q d n) = counted ns tys n
    type_counted s _ _ tys (rule.empty_array a {ns = ns} h n) = counted ns tys n
    type_counted s _ _ tys (rule.array {ns = ns} p q same h d n) = counted ns tys n
    type_counted s _ _ tys (rule.empty_stream a {ns = ns} h n) = counted ns tys n
    type_counted s _ _ tys (rule.stream {ns = ns} q same h d n) = counted ns tys n
    type_counted s _ _ tys (rule.a_record {ns = ns} p d h deep n) = counted ns tys n
    type_counted s _ _ tys (rule.union {ns = ns} h has p n) = counted ns tys n
    type_counted s _ _ tys (rule.let_in {ns = ns} p d q n) = counted ns tys n
    type_counted s _ _ tys (rule.if_else {ns = ns} p q r n) = counted ns tys n
    type_counted s _ _ tys (rule.tag_case {ns = ns} p q d all o c n) = counted ns tys n
    type_counted s _ _ tys (rule.for_product {l = l} {gs = gs} {ds = ds} {cs = cs} {t = t} p) = crossed_counted s l gs ds cs t tys p
    type_counted s _ _ tys (rule.for_initial {ns = ns} is_first is_until p d q r e keeps c n) = counted ns tys n

    crossed_counted : (s : Scope) (l : ℕ) (gs : List (List Generator)) (ds : List Def) (cs : List Clause) (t : TypedExpr) (tys : List Ty) → Crosses k denotes s l gs ds cs t tys → length t.types ≡ length tys
    crossed_counted s l _ ds cs _ tys (rule.one_group {ns = ns} p d q e c n) = counted ns tys n
    crossed_counted s l _ ds cs _ tys (rule.a_group {ns = ns} p d q f n) = counted ns tys n

  pub all_counted : (s : Scope) (es : List Expr) (ts : List TypedExpr) (tys : List Ty) → AreTyped k denotes s es ts tys → values_in ts ≡ length tys
  all_counted s _ _ _ rule.no_more = refl
  all_counted s _ _ _ (rule.more {e = e} {t = t} {tys = tys} {others = others} {es = es} {ts = ts} p q) =
      let first = type_counted s e t tys p in
      let rest = all_counted s es ts others q in
      omega (arith, first, rest, length-append tys others)

  -- definitions bring as many names into force as they have values, and as many as they have targets
  pub levels_counted : (s : Scope) (ds : List Def) (us : List (List TypedExpr)) (tys : List Ty) (after : Scope) → Defines k denotes s ds us tys after → levels_in us ≡ length tys
  levels_counted s _ _ _ _ rule.no_def = refl
  levels_counted s _ _ _ after (rule.a_def xs {es = es} {ts = ts} {tys = tys} {others = others} {ds = ds} {us = us} p t q) =
      let first = all_counted s es ts tys p in
      let rest = levels_counted _ ds us others after q in
      omega (arith, first, rest, length-append tys others)

  pub defined_counted : (s : Scope) (ds : List Def) (us : List (List TypedExpr)) (tys : List Ty) (after : Scope) → Defines k denotes s ds us tys after → length (targets ds) ≡ length tys
  defined_counted s _ _ _ _ rule.no_def = refl
  defined_counted s _ _ _ after (rule.a_def xs {es = es} {ts = ts} {tys = tys} {others = others} {ds = ds} {us = us} p t q) =
      let first = targets_counted denotes xs tys t in
      let rest = defined_counted _ ds us others after q in
      ap length (targets_first xs es ds) ∙ length-append (names_in xs) (targets ds) ∙ ap (λ n. n + length (targets ds)) first ∙ ap (λ n. length tys + n) rest ∙ sym (length-append tys others)

  -- generators bring each of their names into force
  pub generated_counted : (s : Scope) (gs : List Generator) (sources : List Source) (bounds : List TypedExpr) (names : List ℕ) (tys : List Ty) → Generates k denotes s gs sources bounds names tys
      → (length names ≡ length tys) × (levels_over sources ≡ length tys)
  generated_counted s _ _ _ _ _ rule.no_generator = (refl, refl)
  generated_counted s _ _ _ _ _ (rule.range n {names = names} {tys = tys} {gs = gs} {sources = sources} {bounds = bounds} p q r) =
      let rest = generated_counted s gs sources bounds names tys r in (ap suc rest.0, let more = rest.1 in omega (arith, more))
  generated_counted s _ _ _ _ _ (rule.elements n {names = names} {tys = tys} {gs = gs} {sources = sources} {bounds = bounds} p q r) =
      let rest = generated_counted s gs sources bounds names tys r in (ap suc rest.0, let more = rest.1 in omega (arith, more))
  generated_counted s _ _ _ _ _ (rule.indexed n {names = names} {tys = tys} {gs = gs} {sources = sources} {bounds = bounds} p q r) =
      let rest = generated_counted s gs sources bounds names tys r in (ap (λ m. suc (suc m)) rest.0, let more = rest.1 in omega (arith, more))
