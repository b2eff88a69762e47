-- A typed expression fits where the names in force have the types of their levels, and its constants and records are those of a text.
use Rattle.std.proofs.Common.{◌≡◌, ◌⊎◌, inl, inr, ℕ, zero, suc, ◌+◌, ◌<◌, ◌≤◌, Bool, true, false, List, [], ◌∷◌, ◌++◌, map, flat_map, All, Contains, Option, Some, None, slice_get, length, refl, sym, ap, subst, ◌∙◌, arith, append_assoc}
use Rattle.std.specs.Prelude.{option_map}
use Rattle.std.proofs.lemmas.List.{length-append, length-map}
use Rattle.std.proofs.lemmas.List.Elements.{All-head, All-tail}
use Rattle.flow_value.specs.declared.ty.Ty.{Ty}
use Rattle.flow_value.specs.declared.ty.Ty.TheVariants as ty
use Rattle.sisal_tree.specs.declared.unit.Written.{Written}
use Rattle.sisal_tree.specs.declared.unit.Named.{Named}
use Rattle.sisal_tree.specs.declared.expr.Expr.{Expr}
use Rattle.sisal_tree.specs.declared.expr.FieldValue.{FieldValue}
use Rattle.sisal_tree.specs.declared.expr.Def.{Def, roll-Def, out-roll-Def}
use Rattle.sisal_tree.specs.declared.expr.Target.{Target}
use Rattle.sisal_tree.specs.declared.expr.Arm.{Arm}
use Rattle.sisal_tree.specs.declared.expr.Generator.{Generator}
use Rattle.sisal_tree.specs.declared.expr.Clause.{Clause}
use Rattle.value_ops.specs.declared.operation.Operation.{Operation}
use Rattle.value_ops.specs.declared.operation.Operation.TheVariants as op
use Rattle.flow_value.specs.declared.operation.Scalar1.TheVariants as one
use Rattle.loop_folds.specs.declared.masking.Masking.TheVariants as masking
use Rattle.typed_tree.specs.declared.expr.TypedExpr.{TypedExpr}
use Rattle.typed_tree.specs.declared.expr.TypedKind.{TypedKind}
use Rattle.typed_tree.specs.declared.expr.TypedKind.TheVariants as typed
use Rattle.typed_tree.specs.declared.expr.TypedKind.TheViews.{roll-TypedKind}
use Rattle.typed_tree.specs.declared.expr.TypedKind.TheOpen.{TypedKind-F}
use Rattle.typed_tree.specs.declared.expr.TypedKind.TheFolds.{map-TypedKind, fold-TypedKind, fold-roll-TypedKind, fold-roll-TypedExpr}
use Rattle.typed_tree.specs.declared.expr.Case.{Case}
use Rattle.typed_tree.specs.declared.expr.Choice.{Choice}
use Rattle.typed_tree.specs.declared.expr.Product.{Product}
use Rattle.typed_tree.specs.declared.expr.Turns.{Turns}
use Rattle.typed_tree.specs.declared.expr.Source.{Source}
use Rattle.typed_tree.specs.declared.expr.Source.TheVariants as source
use Rattle.typed_tree.specs.declared.expr.ClauseForm.{ClauseForm}
use Rattle.typed_tree.specs.Scopes.{Scope, At, define_all, targets, in_turn, renewals, AreDistinct}
use Rattle.typed_tree.specs.Types.{Member, AreNumbers, prefix_type}
use Rattle.typed_tree.specs.Operations.{prefix_operation, binary_operation, convert_operation, built_in_operation, masking_of}
use Rattle.typed_tree.specs.Typing as rule
use Rattle.typed_tree.specs.Typing.{Signature, Known, Number, Has, IsTag, Chooses, AreAllNamed, with, names_in, names_of, loop_of, named_arms, with_content, AreTargets, Folds, Types, AreTyped, Replaces, HasFields, Defines, Crosses, Generates, AreClauses, IsMask, AreArms, IsOtherwise}
use Rattle.fitting_trees.specs.Fitting.{Row, Header, Goes, AreAll, AreFields, AreMade, Fits, AllFit, DefsFit, ArmsFit, TagsFit, IsChosen}
use Rattle.fitting_trees.specs.Fitting as is
use Rattle.fitting_units.specs.Leaves.{Leaf, AreWritten, all_in, in_apply, in_kind, leaves}
use Rattle.fitting_units.specs.Laws.{header, headers}
use Rattle.fitting_units.proofs.Tables.{operands_row, built_in_row, prefix_row, convert_row, makes_folding}
use Rattle.fitting_units.proofs.Levels.{IsScope, newest_at, define_scope, define_all_scope, nil_right, turn_scope, loop_renews}

-- ---- what a text can write

left : (xs ys : List Leaf) → AreWritten (xs ++ ys) → AreWritten xs
left [] ys h = tt
left (x ∷ xs) ys h = (h.0, left xs ys h.1)

right : (xs ys : List Leaf) → AreWritten (xs ++ ys) → AreWritten ys
right [] ys h = h
right (x ∷ xs) ys h = right xs ys h.1

abbrev kind_leaves : TypedKind → List Leaf
kind_leaves = fold-TypedKind (List Leaf) (List Leaf) in_kind (λ e. e.kind)

level : (x : TypedKind-F TypedKind TypedExpr) (y : TypedKind) (l : ℕ) (ns : List ℕ) → y ≡ roll-TypedKind x → AreWritten (leaves (with l ns y)) → AreWritten (in_kind (map-TypedKind TypedKind TypedExpr (List Leaf) (List Leaf) kind_leaves leaves x))
level x y l ns e h =
    subst AreWritten
    (fold-roll-TypedExpr (List Leaf) (List Leaf) in_kind (λ e. e.kind) (record { line = l; types = ns; kind = y })
    ∙ ap kind_leaves e ∙ fold-roll-TypedKind (List Leaf) (List Leaf) in_kind (λ e. e.kind) x) h

abbrev exprs_leaves : List TypedExpr → List Leaf
exprs_leaves ts = all_in (map leaves ts)

abbrev defs_leaves : List (List TypedExpr) → List Leaf
defs_leaves us = all_in (map all_in (map (map leaves) us))

of_operands : (o : Operation) (n : ℕ) (xs : List Leaf) → AreWritten (in_apply o n xs) → AreWritten xs
of_operands op.Record n xs h = h.1
of_operands (op.Change places) n xs h = h.1
of_operands _ n xs h = h

small_operands : (l : ℕ) (ns : List ℕ) (o : Operation) (ts : List TypedExpr) → AreWritten (leaves (with l ns (typed.Apply o ts))) → AreWritten (exprs_leaves ts)
small_operands l ns o ts h = of_operands o (length (map leaves ts)) (exprs_leaves ts) (level (TypedKind-F.Apply o ts) (typed.Apply o ts) l ns (sym (typed.rolls-Apply o ts)) h)

split : (ts us : List TypedExpr) → exprs_leaves (ts ++ us) ≡ exprs_leaves ts ++ exprs_leaves us
split [] us = refl
split (t ∷ ts) us = ap (λ xs. leaves t ++ xs) (split ts us) ∙ sym (append_assoc (leaves t) (exprs_leaves ts) (exprs_leaves us))

-- ---- lists of types

targets_counted : (denotes : Written → Ty → Type 0) (xs : List Target) (tys : List Ty) → AreTargets denotes xs tys → length (names_in xs) ≡ length tys
targets_counted denotes [] [] p = refl
targets_counted denotes [] (a ∷ tys) p = absurd p
targets_counted denotes (x ∷ xs) [] p = absurd p
targets_counted denotes (x ∷ xs) (a ∷ tys) p = ap suc (targets_counted denotes xs tys p.1)

targets_first : (xs : List Target) (es : List Expr) (ds : List Def) → targets (roll-Def (record { targets = xs; values = es }) ∷ ds) ≡ names_in xs ++ targets ds
targets_first xs es ds = ap (λ d. map (λ t. t.name.name) d.targets ++ targets ds) (out-roll-Def (record { targets = xs; values = es }))

all_one : (a : Ty) (tys : List Ty) → All (λ b. b ≡ a) tys → AreAll a tys
all_one a [] h = tt
all_one a (t ∷ tys) h = (All-head (λ b. b ≡ a) t tys h, all_one a tys (All-tail (λ b. b ≡ a) t tys h))

pub header_there : (fs : List Signature) (n : ℕ) (f : Signature) → slice_get fs n ≡ Some f → slice_get (headers fs) n ≡ Some (header f)
header_there [] n f e = absurd cc
header_there (g ∷ fs) zero f e = ap (option_map header) e
header_there (g ∷ fs) (suc n) f e = header_there fs n f e

-- the content that arms see, where it has a name
abbrev pub Contents : Known → Option ℕ → List Member → List (List ℕ) → List Ty → Type 0
Contents k None ms tags [] = Unit {0}
Contents k (Some x) ms [] [] = Unit {0}
Contents k (Some x) ms (arm ∷ tags) (a ∷ contents) = All (λ tag. IsTag k ms tag a) arm × Contents k (Some x) ms tags contents
Contents k _ ms _ _ = ⊥

module _ (k : Known) (denotes : Written → Ty → Type 0) where
  abbrev pub Numbers : List ℕ → List Ty → Type 0
  Numbers = AreNumbers k.forms k.spellings

  abbrev pub Hs : List Header
  Hs = headers k.functions

  defined_counted : (s : Scope) (ds : List Def) (us : List (List TypedExpr)) (tys : List Ty) (after : Scope) → Defines k denotes s ds us tys after → length (targets ds) ≡ length tys
  defined_counted s _ _ _ _ rule.no_def = refl
  defined_counted s _ _ _ after (rule.a_def xs {es = es} {ts = ts} {tys = tys} {others = others} {ds = ds} {us = us} p t q) =
      let first = targets_counted denotes xs tys t in
      let rest = defined_counted _ ds us others after q in
      ap length (targets_first xs es ds) ∙ length-append (names_in xs) (targets ds) ∙ ap (λ n. n + length (targets ds)) first ∙ ap (λ n. length tys + n) rest ∙ sym (length-append tys others)

  -- what `tagcase` keeps of its tags, by what it says of them
  pub record FitsTags (x : Option ℕ) (ms : List Member) (contents : List Ty) (arms : List Arm) (all : List (List TypedExpr)) (choices : List Choice) : Type 0 where
    pub each : TagsFit (length all) contents (record { named = named_arms x arms; choices = choices; others = length arms }) 0 ms
    pub reached : (i : ℕ) → i < named_arms x arms → Contains (map (λ c. c.arm) choices) i
    pub there : All (IsChosen (record { named = named_arms x arms; choices = choices; others = length arms }) (length all) (length ms)) choices
    pub last : length arms ≤ length all

  abbrev pub AreTagsFit : Type 0
  AreTagsFit = (s : Scope) (x : Option ℕ) (ms : List Member) (tys contents : List Ty) (arms : List Arm) (us last : List (List TypedExpr)) (tags : List (List ℕ)) (other : Option (List Expr)) (choices : List Choice) (ns : List ℕ)
      → Numbers ns (ty.Uni ms ∷ []) → AreArms k denotes s x ms tys arms us tags → AreDistinct (flat_map (λ names. names) tags) → AreAllNamed k tags ms other → IsOtherwise k denotes s tys other last
      → Chooses k tags ms choices → Contents k x ms tags contents → FitsTags x ms contents arms (us ++ last) choices

  abbrev Fit : List Ty → TypedExpr → List Ty → Type 0
  Fit = Fits Numbers Hs

  numbered : (γ : List Ty) (t : TypedExpr) (tys : List Ty) → Fit γ t tys → Numbers t.types tys
  numbered γ _ _ (is.a_constant h n) = n
  numbered γ _ _ (is.a_value h n) = n
  numbered γ _ _ (is.group h n) = n
  numbered γ _ _ (is.call l h n) = n
  numbered γ _ _ (is.apply h r n) = n
  numbered γ _ _ (is.let_in d h n) = n
  numbered γ _ _ (is.if_else h i j n) = n
  numbered γ _ _ (is.tag_case ms cs h i j l x y m n) = n
  numbered γ _ _ (is.product h i j l m n) = n
  numbered γ _ _ (is.initial h i j l m o n) = n

  joined : (γ : List Ty) (ts us : List TypedExpr) (tys others : List Ty) → AllFit Numbers Hs γ ts tys → AllFit Numbers Hs γ us others → AllFit Numbers Hs γ (ts ++ us) (tys ++ others)
  joined γ _ us _ others is.no_more q = q
  joined γ _ us _ others (is.more {tys = tys} {others = rest} {t = t} {ts = ts} h p) q =
      subst (λ z. AllFit Numbers Hs γ (t ∷ (ts ++ us)) z) (sym (append_assoc tys rest others)) (is.more h (joined γ ts us rest others p q))

  -- what definitions lead to
  record Leads (γ : List Ty) (us : List (List TypedExpr)) (δ : List Ty) (after : Scope) : Type 0 where
    fit : DefsFit Numbers Hs γ us δ
    scope : IsScope (γ ++ δ) after

  record Bounds (γ : List Ty) (sources : List Source) (bounds : List TypedExpr) (names : List ℕ) (tys : List Ty) : Type 0 where
    types : List Ty
    fit : AllFit Numbers Hs γ bounds types
    goes : Goes sources types tys
    many : length names ≡ length tys

  record Made (γ : List Ty) (forms : List ClauseForm) (ts : List TypedExpr) (tys : List Ty) : Type 0 where
    row : List Ty
    fit : AllFit Numbers Hs γ ts row
    makes : AreMade forms row tys

  record InArms (γ : List Ty) (x : Option ℕ) (ms : List Member) (named : ℕ) (arms : List (List TypedExpr)) (tags : List (List ℕ)) (tys : List Ty) : Type 0 where
    contents : List Ty
    fit : ArmsFit Numbers Hs γ named arms contents tys
    told : Contents k x ms tags contents

  folds_made : (cs : List Clause) (tys : List Ty) (forms : List ClauseForm) (made : List Ty) → Folds cs tys forms made → AreMade forms tys made
  folds_made _ _ _ _ rule.no_clause = is.no_clause
  folds_made _ _ _ _ (rule.a_clause l {kind = kind} {a = a} {b = b} e m {cs = cs} {tys = tys} {made = made} {forms = forms} h d f) = is.unmasked refl (makes_folding kind a b h) (folds_made cs tys forms made f)

  sequence_goes : (a b : Ty) (ss : List Source) (bounds names : List Ty) → (a ≡ ty.Arr b) ⊎ (a ≡ ty.Stream b) → Goes ss bounds names → Goes (source.Elements ∷ ss) (a ∷ bounds) (b ∷ names)
  sequence_goes a b ss bounds names (inl e) g = subst (λ z. Goes (source.Elements ∷ ss) (z ∷ bounds) (b ∷ names)) (sym e) (is.over_array b g)
  sequence_goes a b ss bounds names (inr e) g = subst (λ z. Goes (source.Elements ∷ ss) (z ∷ bounds) (b ∷ names)) (sym e) (is.over_stream b g)

  indexed_goes : (a b : Ty) (ss : List Source) (bounds names : List Ty) → (a ≡ ty.Arr b) ⊎ (a ≡ ty.Stream b) → Goes ss bounds names → Goes (source.Indexed ∷ ss) (a ∷ bounds) (b ∷ ty.Int ∷ names)
  indexed_goes a b ss bounds names (inl e) g = subst (λ z. Goes (source.Indexed ∷ ss) (z ∷ bounds) (b ∷ ty.Int ∷ names)) (sym e) (is.over_array_at b g)
  indexed_goes a b ss bounds names (inr e) g = subst (λ z. Goes (source.Indexed ∷ ss) (z ∷ bounds) (b ∷ ty.Int ∷ names)) (sym e) (is.over_stream_at b g)

  fields_counted : (s : Scope) (vs : List FieldValue) (ts : List TypedExpr) (ms : List Member) → HasFields k denotes s vs ts ms → length ts ≡ length ms
  fields_counted s _ _ _ rule.no_member = refl
  fields_counted s _ _ _ (rule.a_member {vs = vs} {ts = ts} {ms = ms} h p q) = ap suc (fields_counted s vs ts ms q)

  changed : (ms : List Member) (places : List ℕ) (tys : List Ty) (γ : List Ty) (l : ℕ) (ns : List ℕ) (t : TypedExpr) (us : List TypedExpr) → (1 ≤ length places) → Fit γ t (ty.Rec ms ∷ []) → AllFit Numbers Hs γ us tys → AreFields ms places tys → Number k ns (ty.Rec ms ∷ [])
      → Fit γ (with l ns (typed.Apply (op.Change places) (t ∷ us))) (ty.Rec ms ∷ [])
  changed ms [] tys γ l ns t us some p q f n = absurd (omega (arith, some))
  changed ms (place ∷ places) tys γ l ns t us some p q f n = is.apply (is.more p q) (is.change ms place places tys f) n.each

  record Changed (γ : List Ty) (ms : List Member) (places : List ℕ) (us : List TypedExpr) : Type 0 where
    types : List Ty
    fit : AllFit Numbers Hs γ us types
    fields : AreFields ms places types

  unseen : (γ : List Ty) (ms : List Member) (names : List Named) (arms : List (List TypedExpr)) (tags : List (List ℕ)) (tys : List Ty) (ts : List TypedExpr) → AllFit Numbers Hs γ ts tys → InArms γ None ms 0 arms tags tys
      → InArms γ None ms 0 (ts ∷ arms) (names_of names ∷ tags) tys
  unseen γ ms names arms tags tys ts h more = by more.contents more.fit more.told
    where
      by : (contents : List Ty) → ArmsFit Numbers Hs γ 0 arms contents tys → Contents k None ms tags contents → InArms γ None ms 0 (ts ∷ arms) (names_of names ∷ tags) tys
      by [] f t = record { contents = []; fit = is.an_arm h f; told = tt }
      by (a ∷ contents) f t = absurd t

  masking_told : (is_unless : Bool) (f : Expr) → (masking_of (Some (record { is_unless = is_unless; test = f })) ≡ masking.When) ⊎ (masking_of (Some (record { is_unless = is_unless; test = f })) ≡ masking.Unless)
  masking_told true f = inr refl
  masking_told false f = inl refl

  one_fit : (γ : List Ty) (t : TypedExpr) (a : Ty) → (AreWritten (leaves t) → Fit γ t (a ∷ [])) → AreWritten (exprs_leaves (t ∷ [])) → AllFit Numbers Hs γ (t ∷ []) (a ∷ [])
  one_fit γ t a f w = is.more (f (left (leaves t) [] w)) is.no_more

  two_fit : (γ : List Ty) (t u : TypedExpr) (a b : Ty) → (AreWritten (leaves t) → Fit γ t (a ∷ [])) → (AreWritten (leaves u) → Fit γ u (b ∷ [])) → AreWritten (exprs_leaves (t ∷ u ∷ [])) → AllFit Numbers Hs γ (t ∷ u ∷ []) (a ∷ b ∷ [])
  two_fit γ t u a b f g w = is.more (f (left (leaves t) (exprs_leaves (u ∷ [])) w)) (is.more (g (left (leaves u) [] (right (leaves t) (exprs_leaves (u ∷ [])) w))) is.no_more)

  module _ (tags_fit : AreTagsFit) where
    mutual
      pub fits : (s : Scope) (e : Expr) (t : TypedExpr) (tys : List Ty) → Types k denotes s e t tys → (γ : List Ty) → IsScope γ s → AreWritten (leaves t) → Fit γ t tys
      fits s _ _ _ (rule.constant {l = l} {c = c} {ns = ns} n) γ sc w = is.a_constant (level (TypedKind-F.Constant c) (typed.Constant c) l ns (sym (typed.rolls-Constant c)) w).0 n.each
      fits s _ _ _ (rule.name {x = x} {level = i} {a = a} h n) γ sc w = is.a_value (newest_at γ x s.names (At i a) sc.names h) n.each
      fits s _ _ _ (rule.old {x = x} {level = i} {a = a} h n) γ sc w = is.a_value (newest_at γ x s.olds (At i a) sc.olds h) n.each
      fits s _ _ tys (rule.group {l = l} {e = e} {t = t} {ns = ns} p n) γ sc w =
          let q = level (TypedKind-F.Group (t ∷ [])) (typed.Group (t ∷ [])) l ns (sym (typed.rolls-Group (t ∷ []))) w in
          is.group (subst (λ z. AllFit Numbers Hs γ (t ∷ []) z) (nil_right tys) (is.more (fits s e t tys p γ sc (left (leaves t) [] q)) is.no_more)) n.each
      fits s _ _ _ (rule.call {l = l} {n = i} {f = f} {es = es} {ts = ts} {ns = ns} h p n) γ sc w =
          is.call (header_there k.functions i f h.there) (all_fit s es ts f.params p γ sc (level (TypedKind-F.Call i ts) (typed.Call i ts) l ns (sym (typed.rolls-Call i ts)) w)) n.each
      fits s _ _ _ (rule.built_in {l = l} {a = a} {b = b} {es = es} {ts = ts} {tys = tys} {ns = ns} h p g d n) γ sc w =
          is.apply (all_fit s es ts tys p γ sc (small_operands l ns (built_in_operation b) ts w)) (built_in_row b tys a g) n.each
      fits s _ _ _ (rule.convert {l = l} {a = a} {c = c} {e = e} {t = t} {ns = ns} p h n) γ sc w =
          is.apply (one_fit γ t a (λ y. fits s e t (a ∷ []) p γ sc y) (small_operands l ns (convert_operation c) (t ∷ []) w)) (convert_row c a h) n.each
      fits s _ _ _ (rule.error_of {a = a} h n) γ sc w = is.apply is.no_more (is.an_error a) n.each
      fits s _ _ _ (rule.is_error {l = l} {a = a} {e = e} {t = t} {ns = ns} p n) γ sc w =
          is.apply (one_fit γ t a (λ y. fits s e t (a ∷ []) p γ sc y) (small_operands l ns (op.Unary one.IsError) (t ∷ []) w)) (is.is_error a) n.each
      fits s _ _ _ (rule.is_tag {l = l} {place = place} {content = content} {ms = ms} {e = e} {t = t} {ns = ns} p h n) γ sc w =
          is.apply (one_fit γ t (ty.Uni ms) (λ y. fits s e t ((ty.Uni ms) ∷ []) p γ sc y) (small_operands l ns (op.IsTag place) (t ∷ []) w)) (is.is_tag ms place (h.spelling, content) h.member) n.each
      fits s _ _ _ (rule.prefix {l = l} {o = o} {e = e} {t = t} {ns = ns} p n) γ sc w =
          is.apply (one_fit γ t (prefix_type o) (λ y. fits s e t ((prefix_type o) ∷ []) p γ sc y) (small_operands l ns (prefix_operation o) (t ∷ []) w)) (prefix_row o) n.each
      fits s _ _ _ (rule.binary {l = l} {a = a} {o = o} {e = e} {f = f} {t = t} {u = u} {ns = ns} p q h n) γ sc w =
          is.apply (two_fit γ t u a a (λ y. fits s e t (a ∷ []) p γ sc y) (λ y. fits s f u (a ∷ []) q γ sc y) (small_operands l ns (binary_operation o) (t ∷ u ∷ []) w)) (operands_row o a h) n.each
      fits s _ _ _ (rule.select {l = l} {a = a} {e = e} {i = i} {t = t} {u = u} {ns = ns} p q n) γ sc w =
          is.apply (two_fit γ t u (ty.Arr a) ty.Int (λ y. fits s e t ((ty.Arr a) ∷ []) p γ sc y) (λ y. fits s i u (ty.Int ∷ []) q γ sc y) (small_operands l ns op.Element (t ∷ u ∷ []) w)) (is.element a) n.each
      fits s _ _ _ (rule.update {l = l} {a = a} {e = e} {i = i} {f = f} {t = t} {u = u} {v = v} {ns = ns} p q r n) γ sc w =
          let parts = small_operands l ns op.Update (t ∷ u ∷ v ∷ []) w in
          is.apply (is.more (fits s e t (ty.Arr a ∷ []) p γ sc (left (leaves t) (exprs_leaves (u ∷ v ∷ [])) parts)) (two_fit γ u v ty.Int a (λ y. fits s i u (ty.Int ∷ []) q γ sc y) (λ y. fits s f v (a ∷ []) r γ sc y) (right (leaves t) (exprs_leaves (u ∷ v ∷ [])) parts))) (is.update a) n.each
      fits s _ _ _ (rule.field {l = l} {place = place} {content = content} {ms = ms} {e = e} {t = t} {ns = ns} p h n) γ sc w =
          is.apply (one_fit γ t (ty.Rec ms) (λ y. fits s e t ((ty.Rec ms) ∷ []) p γ sc y) (small_operands l ns (op.Field place) (t ∷ []) w)) (is.field ms place (h.spelling, content) h.member) n.each
      fits s _ _ _ (rule.replace {l = l} {ms = ms} {e = e} {t = t} {vs = vs} {places = places} {us = us} {ns = ns} p q d n) γ sc w =
          let parts = level (TypedKind-F.Apply (op.Change places) (t ∷ us)) (typed.Apply (op.Change places) (t ∷ us)) l ns (sym (typed.rolls-Apply (op.Change places) (t ∷ us))) w in
          let c = replaced_fit s ms vs places us q γ sc (right (leaves t) (exprs_leaves us) parts.1) in
          changed ms places c.types γ l ns t us parts.0 (fits s e t (ty.Rec ms ∷ []) p γ sc (left (leaves t) (exprs_leaves us) parts.1)) c.fit c.fields n
      fits s _ _ _ (rule.empty_array a h n) γ sc w = is.apply is.no_more (is.empty_array a) n.each
      fits s _ _ _ (rule.array {l = l} {a = a} {tys = tys} {low = low} {t = t} {es = es} {ts = ts} {ns = ns} p q same h d n) γ sc w =
          let parts = small_operands l ns op.Array (t ∷ ts) w in
          is.apply (is.more (fits s low t (ty.Int ∷ []) p γ sc (left (leaves t) (exprs_leaves ts) parts)) (all_fit s es ts (a ∷ tys) q γ sc (right (leaves t) (exprs_leaves ts) parts)))
          (is.array a (a ∷ tys) (refl, all_one a tys same)) n.each
      fits s _ _ _ (rule.empty_stream a h n) γ sc w = is.apply is.no_more (is.stream a [] tt) n.each
      fits s _ _ _ (rule.stream {l = l} {a = a} {tys = tys} {es = es} {ts = ts} {ns = ns} q same h d n) γ sc w =
          is.apply (all_fit s es ts (a ∷ tys) q γ sc (small_operands l ns op.Stream ts w)) (is.stream a (a ∷ tys) (refl, all_one a tys same)) n.each
      fits s _ _ _ (rule.a_record {l = l} {ms = ms} {vs = vs} {ts = ts} {ns = ns} p d h deep n) γ sc w =
          let parts = level (TypedKind-F.Apply op.Record ts) (typed.Apply op.Record ts) l ns (sym (typed.rolls-Apply op.Record ts)) w in
          let few = parts.0 in let same = fields_counted s vs ts ms p in
          is.apply (fields_fit s vs ts ms p γ sc parts.1) (is.a_record ms (omega (arith, few, same, length-map ts leaves))) n.each
      fits s _ _ _ (rule.union {l = l} {place = place} {content = content} {ms = ms} {e = e} {t = t} {ns = ns} h has p n) γ sc w =
          is.apply (one_fit γ t content (λ y. fits s e t (content ∷ []) p γ sc y) (small_operands l ns (op.Union place) (t ∷ []) w)) (is.union ms place (has.spelling, content) has.member) n.each
      fits s _ _ _ (rule.let_in {after = after} {l = l} {ds = ds} {us = us} {made = made} {tys = tys} {es = es} {ts = ts} {ns = ns} p d q n) γ sc w =
          let parts = level (TypedKind-F.Let us ts) (typed.Let us ts) l ns (sym (typed.rolls-Let us ts)) w in
          let begin = defs_fit s ds us made after p γ sc (left (defs_leaves us) (exprs_leaves ts) parts) in
          is.let_in begin.fit (all_fit after es ts tys q (γ ++ made) begin.scope (right (defs_leaves us) (exprs_leaves ts) parts)) n.each
      fits s _ _ _ (rule.if_else {l = l} {c = c} {t = t} {es = es} {fs = fs} {ts = ts} {us = us} {tys = tys} {ns = ns} p q r n) γ sc w =
          let parts = level (TypedKind-F.If (t ∷ []) ts us) (typed.If (t ∷ []) ts us) l ns (sym (typed.rolls-If (t ∷ []) ts us)) w in
          let rest = right (exprs_leaves (t ∷ [])) (exprs_leaves ts ++ exprs_leaves us) parts in
          is.if_else (one_fit γ t ty.Bool (λ y. fits s c t (ty.Bool ∷ []) p γ sc y) (left (exprs_leaves (t ∷ [])) (exprs_leaves ts ++ exprs_leaves us) parts)) (all_fit s es ts tys q γ sc (left (exprs_leaves ts) (exprs_leaves us) rest))
          (all_fit s fs us tys r γ sc (right (exprs_leaves ts) (exprs_leaves us) rest)) n.each
      fits s _ _ _ (rule.tag_case {l = l} {ms = ms} {x = x} {e = e} {t = t} {arms = arms} {typed_arms = us} {last = last} {tags = tags} {choices = choices} {ns = ns} {tys = tys} {other = other} p q d all o c n) γ sc w =
          let case : Case = record { named = named_arms x arms; choices = choices; others = length arms } in
          let parts = level (TypedKind-F.Case case (t ∷ []) (us ++ last)) (typed.Case case (t ∷ []) (us ++ last)) l ns (sym (typed.rolls-Case case (t ∷ []) (us ++ last))) w in
          let subject = fits s e t (ty.Uni ms ∷ []) p γ sc (left (leaves t) [] (left (exprs_leaves (t ∷ [])) (defs_leaves (us ++ last)) parts.1)) in
          let seen = arms_fit s x ms tys arms us tags q γ sc last (last_fit s tys other last o γ sc) (right (exprs_leaves (t ∷ [])) (defs_leaves (us ++ last)) parts.1) in
          let told = tags_fit s x ms tys seen.contents arms us last tags other choices t.types (numbered γ t (ty.Uni ms ∷ []) subject) q d all o c seen.told in
          let some = parts.0 in
          is.tag_case ms seen.contents (is.more subject is.no_more) seen.fit told.each told.reached told.there told.last (omega (arith, some, length-map (us ++ last) (map leaves))) n.each
      fits s _ _ tys (rule.for_product {l = l} {gs = gs} {ds = ds} {cs = cs} {t = t} p) γ sc w = crossed_fit s l gs ds cs t tys p γ sc w
      fits s _ _ tys (rule.for_initial {started = started} {turned = turned} {l = l} {first = first} {later = later} {ns = ns} is_first is_until {test = test} {t = t} {ds = ds} {es = es} {us = us} {vs = vs} {cs = cs} {forms = clauses} {ts = ts} p d q r e keeps c n) γ sc w =
          let turns : Turns = record { is_first = is_first; is_until = is_until; renewed = renewals (loop_of s ds first) s.height (targets es); clauses = clauses } in
          let parts = level (TypedKind-F.Initial turns us (t ∷ []) vs ts) (typed.Initial turns us (t ∷ []) vs ts) l ns (sym (typed.rolls-Initial turns us (t ∷ []) vs ts)) w in
          let begin = defs_fit s ds us first started p γ sc (left (defs_leaves us) (exprs_leaves (t ∷ []) ++ (defs_leaves vs ++ exprs_leaves ts)) parts) in
          let rest = right (defs_leaves us) (exprs_leaves (t ∷ []) ++ (defs_leaves vs ++ exprs_leaves ts)) parts in
          let more = right (exprs_leaves (t ∷ [])) (defs_leaves vs ++ exprs_leaves ts) rest in
          let scope = in_turn (loop_of s ds first) (targets es) started in
          let turn = defs_fit scope es vs later turned r (γ ++ first) (turn_scope γ first s started ds (targets es) sc.height begin.scope) (left (defs_leaves vs) (exprs_leaves ts) more) in
          let made = clauses_fit started cs clauses ts tys c (γ ++ first) begin.scope (right (defs_leaves vs) (exprs_leaves ts) more) in
          is.initial begin.fit (one_fit (γ ++ first) t ty.Bool (λ y. fits started test t (ty.Bool ∷ []) q (γ ++ first) begin.scope y) (left (exprs_leaves (t ∷ [])) (defs_leaves vs ++ exprs_leaves ts) rest)) turn.fit
          (loop_renews s ds first (targets es) later (defined_counted scope es vs later turned r) keeps) made.fit made.makes n.each

      pub all_fit : (s : Scope) (es : List Expr) (ts : List TypedExpr) (tys : List Ty) → AreTyped k denotes s es ts tys → (γ : List Ty) → IsScope γ s → AreWritten (exprs_leaves ts) → AllFit Numbers Hs γ ts tys
      all_fit s _ _ _ rule.no_more γ sc w = is.no_more
      all_fit s _ _ _ (rule.more {e = e} {t = t} {tys = tys} {others = others} {es = es} {ts = ts} p q) γ sc w =
          is.more (fits s e t tys p γ sc (left (leaves t) (exprs_leaves ts) w)) (all_fit s es ts others q γ sc (right (leaves t) (exprs_leaves ts) w))

      replaced_fit : (s : Scope) (ms : List Member) (vs : List FieldValue) (places : List ℕ) (us : List TypedExpr) → Replaces k denotes s ms vs places us → (γ : List Ty) → IsScope γ s → AreWritten (exprs_leaves us) → Changed γ ms places us
      replaced_fit s ms _ _ _ rule.no_field γ sc w = record { types = []; fit = is.no_more; fields = tt }
      replaced_fit s ms _ _ _ (rule.a_field {n = n} {place = place} {a = a} {e = e} {t = t} {vs = vs} {places = places} {us = us} h p q) γ sc w =
          let rest = replaced_fit s ms vs places us q γ sc (right (leaves t) (exprs_leaves us) w) in
          record { types = a ∷ rest.types; fit = is.more (fits s e t (a ∷ []) p γ sc (left (leaves t) (exprs_leaves us) w)) rest.fit; fields = ((h.spelling, h.member), rest.fields) }

      fields_fit : (s : Scope) (vs : List FieldValue) (ts : List TypedExpr) (ms : List Member) → HasFields k denotes s vs ts ms → (γ : List Ty) → IsScope γ s → AreWritten (exprs_leaves ts) → AllFit Numbers Hs γ ts (map (λ m. m.1) ms)
      fields_fit s _ _ _ rule.no_member γ sc w = is.no_more
      fields_fit s _ _ _ (rule.a_member {a = a} {e = e} {t = t} {vs = vs} {ts = ts} {ms = ms} h p q) γ sc w =
          is.more (fits s e t (a ∷ []) p γ sc (left (leaves t) (exprs_leaves ts) w)) (fields_fit s vs ts ms q γ sc (right (leaves t) (exprs_leaves ts) w))

      defs_fit : (s : Scope) (ds : List Def) (us : List (List TypedExpr)) (tys : List Ty) (after : Scope) → Defines k denotes s ds us tys after → (γ : List Ty) → IsScope γ s → AreWritten (defs_leaves us) → Leads γ us tys after
      defs_fit s _ _ _ _ rule.no_def γ sc w = record { fit = is.no_def; scope = subst (λ z. IsScope z s) (sym (nil_right γ)) sc }
      defs_fit s _ _ _ after (rule.a_def xs {es = es} {ts = ts} {tys = tys} {others = others} {ds = ds} {us = us} p t q) γ sc w =
          let rest = defs_fit (define_all (names_in xs) tys s) ds us others after q (γ ++ tys) (define_all_scope (names_in xs) tys γ s (targets_counted denotes xs tys t) sc) (right (exprs_leaves ts) (defs_leaves us) w) in
          record { fit = is.a_def (all_fit s es ts tys p γ sc (left (exprs_leaves ts) (defs_leaves us) w)) rest.fit; scope = subst (λ z. IsScope z after) (append_assoc γ tys others) rest.scope }

      crossed_fit : (s : Scope) (l : ℕ) (gs : List (List Generator)) (ds : List Def) (cs : List Clause) (t : TypedExpr) (tys : List Ty) → Crosses k denotes s l gs ds cs t tys → (γ : List Ty) → IsScope γ s → AreWritten (leaves t) → Fit γ t tys
      crossed_fit s l _ ds cs _ tys (rule.one_group {inside = inside} {names = names} {ns = ns} {tys = us} {made = made} {g = g} {sources = sources} {bounds = bounds} {us = values} {forms = clauses} {ts = ts} p d q e c n) γ sc w =
          let product : Product = record { sources = sources; clauses = clauses } in
          let parts = level (TypedKind-F.Product product bounds values ts) (typed.Product product bounds values ts) l ns (sym (typed.rolls-Product product bounds values ts)) w in
          let rest = right (exprs_leaves bounds) (defs_leaves values ++ exprs_leaves ts) parts in
          let gen = generated_fit s g sources bounds names us p γ sc (left (exprs_leaves bounds) (defs_leaves values ++ exprs_leaves ts) parts) in
          let begin = defs_fit (define_all names us s) ds values made inside q (γ ++ us) (define_all_scope names us γ s gen.many sc) (left (defs_leaves values) (exprs_leaves ts) rest) in
          let row = clauses_fit inside cs clauses ts tys c ((γ ++ us) ++ made) begin.scope (right (defs_leaves values) (exprs_leaves ts) rest) in
          is.product gen.fit gen.goes begin.fit row.fit row.makes n.each
      crossed_fit s l _ ds cs _ tys (rule.a_group {names = names} {ns = ns} {tys = us} {inner = inner} {g = g} {gs = gs} {sources = sources} {bounds = bounds} {forms = clauses} {t = t} p d q f n) γ sc w =
          let product : Product = record { sources = sources; clauses = clauses } in
          let parts = level (TypedKind-F.Product product bounds [] (t ∷ [])) (typed.Product product bounds [] (t ∷ [])) l ns (sym (typed.rolls-Product product bounds [] (t ∷ []))) w in
          let gen = generated_fit s g sources bounds names us p γ sc (left (exprs_leaves bounds) (exprs_leaves (t ∷ [])) parts) in
          let inner_fit = crossed_fit (define_all names us s) l gs ds cs t inner q (γ ++ us) (define_all_scope names us γ s gen.many sc) (left (leaves t) [] (right (exprs_leaves bounds) (exprs_leaves (t ∷ [])) parts)) in
          is.product gen.fit gen.goes is.no_def
          (subst (λ z. AllFit Numbers Hs z (t ∷ []) inner) (sym (nil_right (γ ++ us))) (subst (λ z. AllFit Numbers Hs (γ ++ us) (t ∷ []) z) (nil_right inner) (is.more inner_fit is.no_more)))
          (folds_made cs inner clauses tys f) n.each

      generated_fit : (s : Scope) (gs : List Generator) (sources : List Source) (bounds : List TypedExpr) (names : List ℕ) (tys : List Ty) → Generates k denotes s gs sources bounds names tys → (γ : List Ty) → IsScope γ s
          → AreWritten (exprs_leaves bounds) → Bounds γ sources bounds names tys
      generated_fit s _ _ _ _ _ rule.no_generator γ sc w = record { types = []; fit = is.no_more; goes = is.no_source; many = refl }
      generated_fit s _ _ _ _ _ (rule.range n {e = e} {f = f} {t = t} {u = u} {names = names} {tys = tys} {gs = gs} {sources = sources} {bounds = bounds} p q r) γ sc w =
          let more = right (leaves t) (exprs_leaves (u ∷ bounds)) w in
          let rest = generated_fit s gs sources bounds names tys r γ sc (right (leaves u) (exprs_leaves bounds) more) in
          record { types = ty.Int ∷ ty.Int ∷ rest.types; fit = is.more (fits s e t (ty.Int ∷ []) p γ sc (left (leaves t) (exprs_leaves (u ∷ bounds)) w)) (is.more (fits s f u (ty.Int ∷ []) q γ sc (left (leaves u) (exprs_leaves bounds) more)) rest.fit); goes = is.over_range rest.goes; many = ap suc rest.many }
      generated_fit s _ _ _ _ _ (rule.elements n {a = a} {b = b} {e = e} {t = t} {names = names} {tys = tys} {gs = gs} {sources = sources} {bounds = bounds} p q r) γ sc w =
          let rest = generated_fit s gs sources bounds names tys r γ sc (right (leaves t) (exprs_leaves bounds) w) in
          record { types = a ∷ rest.types; fit = is.more (fits s e t (a ∷ []) p γ sc (left (leaves t) (exprs_leaves bounds) w)) rest.fit; goes = sequence_goes a b sources rest.types tys q rest.goes; many = ap suc rest.many }
      generated_fit s _ _ _ _ _ (rule.indexed n {i = i} {a = a} {b = b} {e = e} {t = t} {names = names} {tys = tys} {gs = gs} {sources = sources} {bounds = bounds} p q r) γ sc w =
          let rest = generated_fit s gs sources bounds names tys r γ sc (right (leaves t) (exprs_leaves bounds) w) in
          record { types = a ∷ rest.types; fit = is.more (fits s e t (a ∷ []) p γ sc (left (leaves t) (exprs_leaves bounds) w)) rest.fit; goes = indexed_goes a b sources rest.types tys q rest.goes; many = ap (λ m. suc (suc m)) rest.many }

      clauses_fit : (s : Scope) (cs : List Clause) (clauses : List ClauseForm) (ts : List TypedExpr) (tys : List Ty) → AreClauses k denotes s cs clauses ts tys → (γ : List Ty) → IsScope γ s → AreWritten (exprs_leaves ts) → Made γ clauses ts tys
      clauses_fit s _ _ _ _ rule.no_clause γ sc w = record { row = []; fit = is.no_more; makes = is.no_clause }
      clauses_fit s _ _ _ _ (rule.a_clause l {kind = kind} {a = a} {b = b} {e = e} {t = t} {cs = cs} {forms = clauses} {ts = ts} {tys = tys} p h d rule.no_mask r) γ sc w =
          let rest = clauses_fit s cs clauses ts tys r γ sc (right (leaves t) (exprs_leaves ts) w) in
          record { row = a ∷ rest.row; fit = is.more (fits s e t (a ∷ []) p γ sc (left (leaves t) (exprs_leaves ts) w)) rest.fit; makes = is.unmasked refl (makes_folding kind a b h) rest.makes }
      clauses_fit s _ _ _ _ (rule.a_clause l {kind = kind} {a = a} {b = b} {e = e} {t = t} {cs = cs} {forms = clauses} {ts = ts} {tys = tys} p h d (rule.a_mask {is_unless = is_unless} {e = f} {t = u} m) r) γ sc w =
          let more = right (leaves t) (exprs_leaves (u ∷ ts)) w in
          let rest = clauses_fit s cs clauses ts tys r γ sc (right (leaves u) (exprs_leaves ts) more) in
          record {
            row = a ∷ ty.Bool ∷ rest.row;
            fit = is.more (fits s e t (a ∷ []) p γ sc (left (leaves t) (exprs_leaves (u ∷ ts)) w)) (is.more (fits s f u (ty.Bool ∷ []) m γ sc (left (leaves u) (exprs_leaves ts) more)) rest.fit);
            makes = is.masked (masking_told is_unless f) (makes_folding kind a b h) rest.makes;
          }

      -- arms before `otherwise`
      arms_fit : (s : Scope) (x : Option ℕ) (ms : List Member) (tys : List Ty) (arms : List Arm) (us : List (List TypedExpr)) (tags : List (List ℕ)) → AreArms k denotes s x ms tys arms us tags → (γ : List Ty) → IsScope γ s
          → (last : List (List TypedExpr)) → (AreWritten (defs_leaves last) → ArmsFit Numbers Hs γ 0 last [] tys) → AreWritten (defs_leaves (us ++ last)) → InArms γ x ms (named_arms x arms) (us ++ last) tags tys
      arms_fit s None ms tys _ _ _ rule.no_arm γ sc last rest w = record { contents = []; fit = rest w; told = tt }
      arms_fit s (Some x) ms tys _ _ _ rule.no_arm γ sc last rest w = record { contents = []; fit = rest w; told = tt }
      arms_fit s None ms tys _ _ _ (rule.an_arm l content names {es = es} {ts = ts} {arms = arms} {typed_arms = us} {tags = tags} o t p q) γ sc last rest w =
          let more = arms_fit s None ms tys arms us tags q γ sc last rest (right (exprs_leaves ts) (defs_leaves (us ++ last)) w) in
          unseen γ ms names (us ++ last) tags tys ts (all_fit s es ts tys p γ sc (left (exprs_leaves ts) (defs_leaves (us ++ last)) w)) more
      arms_fit s (Some x) ms tys _ _ _ (rule.an_arm l content names {es = es} {ts = ts} {arms = arms} {typed_arms = us} {tags = tags} o t p q) γ sc last rest w =
          let more = arms_fit s (Some x) ms tys arms us tags q γ sc last rest (right (exprs_leaves ts) (defs_leaves (us ++ last)) w) in
          record { contents = content ∷ more.contents; fit = is.a_named_arm content (all_fit (with_content (Some x) content s) es ts tys p (γ ++ content ∷ []) (define_scope x content γ s sc) (left (exprs_leaves ts) (defs_leaves (us ++ last)) w)) more.fit; told = (t, more.told) }

      last_fit : (s : Scope) (tys : List Ty) (other : Option (List Expr)) (last : List (List TypedExpr)) → IsOtherwise k denotes s tys other last → (γ : List Ty) → IsScope γ s → AreWritten (defs_leaves last) → ArmsFit Numbers Hs γ 0 last [] tys
      last_fit s tys _ _ rule.no_otherwise γ sc w = is.no_arm
      last_fit s tys _ _ (rule.otherwise {es = es} {ts = ts} p) γ sc w = is.an_arm (all_fit s es ts tys p γ sc (left (exprs_leaves ts) [] w)) is.no_arm
