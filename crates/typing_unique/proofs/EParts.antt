-- Parts of typed phrases, and what holds of lists of them.
use Rattle.std.proofs.Common.{◌≡◌, ◌⊎◌, inl, inr, ℕ, suc, ◌+◌, List, [], ◌∷◌, ◌++◌, map, flat_map, length, Option, Some, None, All, refl, sym, ap, subst, ◌∙◌, arith, rules}
use Rattle.std.specs.Prelude.{Contains}
use Rattle.std.proofs.lemmas.List.{length-append, append_assoc}
use Rattle.std.proofs.lemmas.List.Elements.{Contains-push_cases, Contains-append_cases, Contains-append_right}
use Rattle.flow_value.specs.declared.ty.Ty.{Ty}
use Rattle.flow_value.specs.declared.ty.Ty.TheVariants as ty
use Rattle.type_table.specs.declared.form.Form.{Form}
use Rattle.sisal_tree.specs.declared.unit.Named.{Named}
use Rattle.sisal_tree.specs.declared.unit.Written.{Written}
use Rattle.sisal_tree.specs.declared.expr.Expr.{Expr}
use Rattle.sisal_tree.specs.declared.expr.ExprKind.TheViews as kinds
use Rattle.sisal_tree.specs.declared.expr.FieldValue.{FieldValue}
use Rattle.sisal_tree.specs.declared.expr.Def.{Def, out-Def, roll-Def}
use Rattle.sisal_tree.specs.declared.expr.Target.{Target}
use Rattle.sisal_tree.specs.declared.expr.Arm.{Arm, out-Arm}
use Rattle.sisal_tree.specs.declared.expr.Generator.{Generator, out-Generator}
use Rattle.sisal_tree.specs.declared.expr.Clause.{Clause, out-Clause}
use Rattle.sisal_tree.specs.declared.expr.ClauseKind.{ClauseKind}
use Rattle.sisal_tree.specs.declared.expr.Mask.{Mask}
use Rattle.typed_tree.specs.declared.expr.TypedExpr.{TypedExpr}
use Rattle.typed_tree.specs.declared.expr.Source.{Source}
use Rattle.typed_tree.specs.declared.expr.ClauseForm.{ClauseForm}
use Rattle.typed_tree.specs.Scopes.{Meaning, Scope, define_all, targets, AreDistinct, KeepsType, KeepTypes}
use Rattle.typed_tree.specs.Types.{Member, IsShallow, Makes, MakesThrough}
use Rattle.typed_tree.specs.Types as types
use Rattle.typed_tree.specs.Typing as rule
use Rattle.typed_tree.specs.Typing.{Known, Has, IsTag, names_of, AreTargets, names_in, with_content, Folds, Types, AreTyped, Replaces, HasFields, Defines, Generates, AreClauses, AreArms, IsOtherwise}
use Rattle.typed_tree.specs.Breaks.{IsTwice, twice, later, targets_in, named_in, index_in, generators_in, IsMistyped, IsPair, IsRetyped}
use Rattle.typed_tree.specs.Breaks as breaks
use Rattle.typing_unique.specs.Inverted.{at_table, index_names, IsGenerator, IsRange, IsNoGenerator, MaskIn, IsFirst, IsNewField, IsChanged, IsClause, IsArm, IsDefinition, IsNoDefinition}
use Rattle.text_trees.proofs.Views.{out_def, out_clause}
use Rattle.typing_unique.proofs.EInverted.{first_of, fields_of, changed_of, mask_of, generated_of, clauses_of, arms_of, definitions_of}

-- ---- lists

pub contains_cases : {A : Type 0} (y : A) (ys : List A) (x : A) → Contains (y ∷ ys) x → (y ≡ x) ⊎ Contains ys x
contains_cases y ys x c = elim (Contains-append_cases (y ∷ []) ys x c) [
  | inl p ↦ elim (Contains-push_cases [] y x p) [ inl q ↦ absurd (let n = q.1 in omega (arith, n)) | inr e ↦ inl e ]
  | inr p ↦ inr p
]

pub contains_none : {A : Type 0} (x : A) → Contains [] x → ⊥
contains_none x c = let n = c.1 in omega (arith, n)

contains_here : {A : Type 0} (xs : List A) (x : A) → Contains (x ∷ xs) x
contains_here xs x = (0, omega arith, refl)

-- the name of what stands in a list stands among the names
pub named_in_list : (ns : List Named) (n : Named) → Contains ns n → Contains (names_of ns) n.name
named_in_list [] n c = absurd (contains_none n c)
named_in_list (m ∷ ns) n c = elim (contains_cases m ns n c) [
  | inl e ↦ subst (λ x. Contains (m.name ∷ names_of ns) x.name) e (contains_here (names_of ns) m.name)
  | inr p ↦ Contains-append_right (m.name ∷ []) (names_of ns) n.name (named_in_list ns n p)
]

-- what stands twice is not distinct
pub twice_not_distinct : (ns : List Named) (line : ℕ) → IsTwice ns line → AreDistinct (names_of ns) → ⊥
twice_not_distinct _ _ (twice {n = n} {m = m} {ns = ns} c e) d = d.0 (subst (λ x. Contains (names_of ns) x) (sym e) (named_in_list ns m c))
twice_not_distinct _ line (later {n = n} {ns = ns} t) d = twice_not_distinct ns line t d.1

pub distinct_after : (xs ys : List ℕ) → AreDistinct (xs ++ ys) → AreDistinct ys
distinct_after [] ys d = d
distinct_after (x ∷ xs) ys d = distinct_after xs ys d.1

names_append : (ms ns : List Named) → names_of (ms ++ ns) ≡ names_of ms ++ names_of ns
names_append [] ns = refl
names_append (m ∷ ms) ns = ap (λ l. m.name ∷ l) (names_append ms ns)

-- ---- definitions

target_names : (xs : List Target) → names_of (named_in xs) ≡ names_in xs
target_names [] = refl
target_names (x ∷ xs) = ap (λ l. x.name.name ∷ l) (target_names xs)

named_append : (xs ys : List Target) → named_in (xs ++ ys) ≡ named_in xs ++ named_in ys
named_append [] ys = refl
named_append (x ∷ xs) ys = ap (λ l. x.name ∷ l) (named_append xs ys)

pub names_of_targets : (ds : List Def) → names_of (named_in (targets_in ds)) ≡ targets ds
names_of_targets [] = refl
names_of_targets (d ∷ ds) =
    ap names_of (named_append (out-Def d).targets (targets_in ds)) ∙ names_append (named_in (out-Def d).targets) (named_in (targets_in ds))
    ∙ ap (λ l. l ++ names_of (named_in (targets_in ds))) (target_names (out-Def d).targets) ∙ ap (λ l. names_in (out-Def d).targets ++ l) (names_of_targets ds)

pub targets_after : (xs : List Target) (es : List Expr) (ds : List Def) → AreDistinct (targets (roll-Def (record { targets = xs; values = es }) ∷ ds)) → AreDistinct (targets ds)
targets_after xs es ds d = distinct_after (names_in xs) (targets ds) (subst (λ r. AreDistinct (names_in r.targets ++ targets ds)) (out_def xs es) d)

module _ (denotes : Written → Ty → Type 0) where
  pub as_many_targets : (xs : List Target) (tys : List Ty) → AreTargets denotes xs tys → length tys ≡ length xs
  as_many_targets [] [] p = refl
  as_many_targets [] (a ∷ tys) p = absurd p
  as_many_targets (x ∷ xs) [] p = absurd p
  as_many_targets (x ∷ xs) (a ∷ tys) p = ap suc (as_many_targets xs tys p.1)

  declared_here : (x : Target) (xs : List Target) (a : Ty) (tys : List Ty) (w : Written) → x.ty ≡ Some w → AreTargets denotes (x ∷ xs) (a ∷ tys) → denotes w a
  declared_here x xs a tys w e p =
      let is : x ≡ record { name = x.name; ty = Some w } = ap (λ o. record { name = x.name; ty = o }) e in
      let q : AreTargets denotes (record { name = x.name; ty = Some w } ∷ xs) (a ∷ tys) = subst (λ y. AreTargets denotes (y ∷ xs) (a ∷ tys)) is p in
      q.0

  pub declared_in : (xs : List Target) (tys : List Ty) (x : Target) (w : Written) → AreTargets denotes xs tys → Contains xs x → x.ty ≡ Some w → (a : Ty) × denotes w a
  declared_in [] tys x w p c e = absurd (contains_none x c)
  declared_in (y ∷ xs) [] x w p c e = absurd p
  declared_in (y ∷ xs) (a ∷ tys) x w p c e = by (contains_cases y xs x c) (λ d. declared_in xs tys x w p.1 d e)
    where
      by : (y ≡ x) ⊎ Contains xs x → (Contains xs x → (a : Ty) × denotes w a) → (a : Ty) × denotes w a
      by (inl i) rest = (a, declared_here y xs a tys w (ap (λ z. z.ty) i ∙ e) p)
      by (inr d) rest = rest d

  pub declared_at : (xs : List Target) (tys : List Ty) (x : Target) (a : Ty) (w : Written) → AreTargets denotes xs tys → IsPair xs tys x a → x.ty ≡ Some w → denotes w a
  declared_at _ _ x a w p (breaks.first {xs = xs} {tys = tys}) e = declared_here x xs a tys w e p
  declared_at _ _ x a w p (breaks.later {xs = xs} {tys = tys} q) e = declared_at xs tys x a w p.1 q e

-- a name that a turn defines keeps its type
kept_at : (loop : List (ℕ × Meaning)) (xs : List Target) (tys : List Ty) (ys : List ℕ) (us : List Ty) (x : Target) (a : Ty) → IsPair xs tys x a → KeepTypes loop (names_in xs ++ ys) (tys ++ us)
    → IsRetyped loop x.name.name a → ⊥
kept_at loop _ _ ys us x a (breaks.first {xs = xs} {tys = tys}) p r = r.3 (subst (λ o. KeepsType a o) r.2 p.0)
kept_at loop _ _ ys us x a (breaks.later {xs = xs} {tys = tys} q) p r = kept_at loop xs tys ys us x a q p.1 r

keeps_after : (loop : List (ℕ × Meaning)) (ys : List ℕ) (us : List Ty) (xs : List ℕ) (tys : List Ty) → length ys ≡ length us → KeepTypes loop (ys ++ xs) (us ++ tys) → KeepTypes loop xs tys
keeps_after loop [] [] xs tys e p = p
keeps_after loop [] (u ∷ us) xs tys e p = absurd cc
keeps_after loop (y ∷ ys) [] xs tys e p = absurd cc
keeps_after loop (y ∷ ys) (u ∷ us) xs tys e p = keeps_after loop ys us xs tys (suc-injective (length ys) (length us) e) p.1
  where
    suc-injective : (n m : ℕ) → suc n ≡ suc m → n ≡ m
    suc-injective n m e = omega (arith, e)

targets_append : (ds es : List Def) → targets (ds ++ es) ≡ targets ds ++ targets es
targets_append [] es = refl
targets_append (d ∷ ds) es = ap (λ l. names_in (out-Def d).targets ++ l) (targets_append ds es) ∙ sym (append_assoc (names_in (out-Def d).targets) (targets ds) (targets es))

rolled_def : (d : Def) → roll-Def (record { targets = (out-Def d).targets; values = (out-Def d).values }) ≡ d
rolled_def d = search (rules, kinds.the_lemmas)

-- ---- what clauses come to behind more groups

abbrev pub Ends : ℕ → List Clause → List Ty → Type 0
Ends m [] tys = Unit {0}
Ends m (c ∷ cs) [] = ⊥
Ends m (c ∷ cs) (a ∷ tys) = ((b : Ty) × MakesThrough (out-Clause c).kind m a b × IsShallow b) × Ends m cs tys

pub ends_folded : (cs : List Clause) (inner : List Ty) (clauses : List ClauseForm) (tys : List Ty) → Folds cs inner clauses tys → Ends 0 cs tys
ends_folded _ _ _ _ rule.no_clause = tt
ends_folded _ _ _ _ (rule.a_clause l {kind = kind} {a = a} {b = b} e m {cs = cs} {tys = tys} {made = made} {forms = clauses} h d q) = ((b, types.no_group, d), ends_folded cs tys clauses made q)

pub ends_more : (n : ℕ) (cs : List Clause) (inner : List Ty) (clauses : List ClauseForm) (tys : List Ty) → Folds cs inner clauses tys → Ends n cs tys → Ends (suc n) cs inner
ends_more n _ _ _ _ rule.no_clause p = tt
ends_more n _ _ _ _ (rule.a_clause l {kind = kind} {a = a} {b = b} e m {cs = cs} {tys = tys} {made = made} {forms = clauses} h d q) p =
    ((p.0.0, types.through (subst (λ r. Makes r.kind a b) (sym (out_clause l kind e m)) h) p.0.1, p.0.2), ends_more n cs tys clauses made q p.1)

-- ---- parts of lists

module _ (k : Known) (forms : List Form) (denotes : Written → Ty → Type 0) where
  pub expr_at : (s : Scope) (es : List Expr) (ts : List TypedExpr) (tys : List Ty) (e : Expr) → AreTyped (at_table k forms) denotes s es ts tys → Contains es e
      → (t : TypedExpr) × (us : List Ty) × Types (at_table k forms) denotes s e t us
  expr_at s [] ts tys e p c = absurd (contains_none e c)
  expr_at s (f ∷ es) ts tys e p c =
      let v : IsFirst k forms denotes s f es tys = first_of k forms denotes s (f ∷ es) ts tys p in
      by v (contains_cases f es e c) (λ d. expr_at s es v.trees v.others e v.later d)
    where
      by : (v : IsFirst k forms denotes s f es tys) → (f ≡ e) ⊎ Contains es e → (Contains es e → (t : TypedExpr) × (us : List Ty) × Types (at_table k forms) denotes s e t us)
          → (t : TypedExpr) × (us : List Ty) × Types (at_table k forms) denotes s e t us
      by v (inl i) rest = (v.tree, v.made, subst (λ z. Types (at_table k forms) denotes s z v.tree v.made) i v.typed)
      by v (inr d) rest = rest d

  pub record IsValueAt (s : Scope) (v : FieldValue) : Type 0 where
    pub type : Ty
    pub tree : TypedExpr
    pub typed : Types (at_table k forms) denotes s v.value tree (type ∷ [])

  pub field_at : (s : Scope) (vs : List FieldValue) (ts : List TypedExpr) (ms : List Member) (v : FieldValue) → HasFields (at_table k forms) denotes s vs ts ms → Contains vs v → IsValueAt s v
  field_at s [] ts ms v p c = absurd (contains_none v c)
  field_at s (w ∷ vs) ts ms v p c =
      let f : IsNewField k forms denotes s w vs ms = fields_of k forms denotes s (w ∷ vs) ts ms p in
      by f (contains_cases w vs v c) (λ d. field_at s vs f.trees f.others v f.later d)
    where
      by : IsNewField k forms denotes s w vs ms → (w ≡ v) ⊎ Contains vs v → (Contains vs v → IsValueAt s v) → IsValueAt s v
      by f (inl i) rest = subst (λ z. IsValueAt s z) i (record { type = f.type; tree = f.tree; typed = f.typed })
      by f (inr d) rest = rest d

  pub record IsChangeAt (s : Scope) (ms : List Member) (v : FieldValue) : Type 0 where
    pub place : ℕ
    pub type : Ty
    pub tree : TypedExpr
    pub has : Has k ms v.field.name place type
    pub typed : Types (at_table k forms) denotes s v.value tree (type ∷ [])

  pub change_at : (s : Scope) (ms : List Member) (vs : List FieldValue) (places : List ℕ) (us : List TypedExpr) (v : FieldValue) → Replaces (at_table k forms) denotes s ms vs places us → Contains vs v → IsChangeAt s ms v
  change_at s ms [] places us v p c = absurd (contains_none v c)
  change_at s ms (w ∷ vs) places us v p c =
      let f : IsChanged k forms denotes s ms w vs = changed_of k forms denotes s ms (w ∷ vs) places us p in
      by f (contains_cases w vs v c) (λ d. change_at s ms vs f.places f.trees v f.later d)
    where
      by : IsChanged k forms denotes s ms w vs → (w ≡ v) ⊎ Contains vs v → (Contains vs v → IsChangeAt s ms v) → IsChangeAt s ms v
      by f (inl i) rest = subst (λ z. IsChangeAt s ms z) i (record { place = f.place; type = f.type; tree = f.tree; has = f.has; typed = f.typed })
      by f (inr d) rest = rest d

  -- ---- generators

  record IsBehind (s : Scope) (n : Named) (i : Option ℕ) (gs : List Generator) (names : List ℕ) : Type 0 where
    others : List ℕ
    types : List Ty
    sources : List Source
    bounds : List TypedExpr
    later : Generates (at_table k forms) denotes s gs sources bounds others types
    is_names : names ≡ n.name ∷ (index_names i ++ others)

  behind : (s : Scope) (n : Named) (e : Expr) (to : Option Expr) (i : Option ℕ) (gs : List Generator) (names : List ℕ) (tys : List Ty) → IsGenerator k forms denotes s n e to i gs names tys → IsBehind s n i gs names
  behind s n e (Some f) None gs names tys v = record { others = v.others; types = v.types; sources = v.sources; bounds = v.bounds; later = v.later; is_names = v.is_names }
  behind s n e (Some f) (Some i) gs names tys v = absurd v
  behind s n e None i gs names tys v = record { others = v.others; types = v.types; sources = v.sources; bounds = v.bounds; later = v.later; is_names = v.is_names }

  -- a generator among others
  pub record IsGeneratorAt (s : Scope) (n : Named) (e : Expr) (to : Option Expr) (i : Option ℕ) : Type 0 where
    pub rest : List Generator
    pub names : List ℕ
    pub types : List Ty
    pub is : IsGenerator k forms denotes s n e to i rest names types

  pub generator_at : (s : Scope) (gs : List Generator) (sources : List Source) (bounds : List TypedExpr) (names : List ℕ) (tys : List Ty) (g : Generator) → Generates (at_table k forms) denotes s gs sources bounds names tys
      → Contains gs g → IsGeneratorAt s (out-Generator g).name (out-Generator g).from (out-Generator g).to (out-Generator g).at
  generator_at s [] sources bounds names tys g p c = absurd (contains_none g c)
  generator_at s (h ∷ gs) sources bounds names tys g p c =
      let v = generated_of k forms denotes s (h ∷ gs) sources bounds names tys p in
      let r = behind s (out-Generator h).name (out-Generator h).from (out-Generator h).to (out-Generator h).at gs names tys v in
      by (record { rest = gs; names = names; types = tys; is = v }) (contains_cases h gs g c) (λ d. generator_at s gs r.sources r.bounds r.others r.types g r.later d)
    where
      by : IsGeneratorAt s (out-Generator h).name (out-Generator h).from (out-Generator h).to (out-Generator h).at → (h ≡ g) ⊎ Contains gs g
          → (Contains gs g → IsGeneratorAt s (out-Generator g).name (out-Generator g).from (out-Generator g).to (out-Generator g).at)
          → IsGeneratorAt s (out-Generator g).name (out-Generator g).from (out-Generator g).to (out-Generator g).at
      by v (inl i) rest = subst (λ z. IsGeneratorAt s (out-Generator z).name (out-Generator z).from (out-Generator z).to (out-Generator z).at) i v
      by v (inr d) rest = rest d

  index_named : (line : ℕ) (i : Option ℕ) (ns : List Named) → index_names i ++ names_of ns ≡ names_of (index_in line i ++ ns)
  index_named line None ns = refl
  index_named line (Some i) ns = refl

  pub names_generated : (s : Scope) (gs : List Generator) (sources : List Source) (bounds : List TypedExpr) (names : List ℕ) (tys : List Ty) → Generates (at_table k forms) denotes s gs sources bounds names tys
      → names ≡ names_of (generators_in gs)
  names_generated s [] sources bounds names tys p = let v : IsNoGenerator k forms denotes names tys = generated_of k forms denotes s [] sources bounds names tys p in v.is_names
  names_generated s (h ∷ gs) sources bounds names tys p =
      let v = generated_of k forms denotes s (h ∷ gs) sources bounds names tys p in
      let r = behind s (out-Generator h).name (out-Generator h).from (out-Generator h).to (out-Generator h).at gs names tys v in
      r.is_names ∙ ap (λ l. (out-Generator h).name.name ∷ (index_names (out-Generator h).at ++ l)) (names_generated s gs r.sources r.bounds r.others r.types r.later)
      ∙ ap (λ l. (out-Generator h).name.name ∷ l) (index_named (out-Generator h).name.line (out-Generator h).at (generators_in gs))

  pub record IsFrom (s : Scope) (e : Expr) : Type 0 where
    pub type : Ty
    pub tree : TypedExpr
    pub typed : Types (at_table k forms) denotes s e tree (type ∷ [])

  pub from_of : (s : Scope) (n : Named) (e : Expr) (to : Option Expr) (i : Option ℕ) (gs : List Generator) (names : List ℕ) (tys : List Ty) → IsGenerator k forms denotes s n e to i gs names tys → IsFrom s e
  from_of s n e (Some f) None gs names tys v = record { type = ty.Int; tree = v.from; typed = v.typed_from }
  from_of s n e (Some f) (Some i) gs names tys v = absurd v
  from_of s n e None i gs names tys v = record { type = v.whole; tree = v.tree; typed = v.typed }

  pub range_of : (s : Scope) (n : Named) (e f : Expr) (i : Option ℕ) (gs : List Generator) (names : List ℕ) (tys : List Ty) → IsGenerator k forms denotes s n e (Some f) i gs names tys → IsRange k forms denotes s n e f gs names tys
  range_of s n e f None gs names tys v = v
  range_of s n e f (Some i) gs names tys v = absurd v

  -- ---- clauses

  pub ends_begin : (s : Scope) (cs : List Clause) (clauses : List ClauseForm) (ts : List TypedExpr) (tys : List Ty) → AreClauses (at_table k forms) denotes s cs clauses ts tys → Ends 0 cs tys
  ends_begin s _ _ _ _ rule.no_clause = tt
  ends_begin s _ _ _ _ (rule.a_clause l {b = b} {cs = cs} {forms = clauses} {ts = ts} {tys = tys} p h d q r) = ((b, types.no_group, d), ends_begin s cs clauses ts tys r)

  -- a clause of a loop over so many groups
  pub record IsClauseAt (s : Scope) (n : ℕ) (kind : ClauseKind) (e : Expr) (m : Option Mask) : Type 0 where
    pub value : Ty
    pub made : Ty
    pub tree : TypedExpr
    pub typed : Types (at_table k forms) denotes s e tree (value ∷ [])
    pub mask : MaskIn k forms denotes s m
    pub through : MakesThrough kind n value made
    pub shallow : IsShallow made

  pub clause_at : (s : Scope) (n : ℕ) (cs : List Clause) (clauses : List ClauseForm) (ts : List TypedExpr) (tys : List Ty) (c : Clause) → AreClauses (at_table k forms) denotes s cs clauses ts tys → Ends n cs tys
      → Contains cs c → IsClauseAt s (suc n) (out-Clause c).kind (out-Clause c).value (out-Clause c).mask
  clause_at s n [] clauses ts tys c p ends d = absurd (contains_none c d)
  clause_at s n (b ∷ cs) clauses ts tys c p ends d =
      let v : IsClause k forms denotes s (out-Clause b).kind (out-Clause b).value (out-Clause b).mask cs tys = clauses_of k forms denotes s (b ∷ cs) clauses ts tys p in
      let e : Ends n (b ∷ cs) (v.made ∷ v.others) = subst (λ l. Ends n (b ∷ cs) l) v.types ends in
      by (record { value = v.value; made = e.0.0; tree = v.tree; typed = v.typed; mask = mask_of k forms denotes s (out-Clause b).mask v.masks v.mask; through = types.through v.makes e.0.1; shallow = e.0.2 })
      (contains_cases b cs c d) (λ d. clause_at s n cs v.clauses v.exprs v.others c v.later e.1 d)
    where
      by : IsClauseAt s (suc n) (out-Clause b).kind (out-Clause b).value (out-Clause b).mask → (b ≡ c) ⊎ Contains cs c → (Contains cs c → IsClauseAt s (suc n) (out-Clause c).kind (out-Clause c).value (out-Clause c).mask)
          → IsClauseAt s (suc n) (out-Clause c).kind (out-Clause c).value (out-Clause c).mask
      by v (inl i) rest = subst (λ z. IsClauseAt s (suc n) (out-Clause z).kind (out-Clause z).value (out-Clause z).mask) i v
      by v (inr d) rest = rest d

  -- ---- arms

  pub record IsArmAt (s : Scope) (x : Option ℕ) (ms : List Member) (tys : List Ty) (names : List Named) (es : List Expr) : Type 0 where
    pub content : Ty
    pub exprs : List TypedExpr
    pub tagged : names ≡ [] → ⊥
    pub contents : All (λ tag. IsTag k ms tag content) (names_of names)
    pub typed : AreTyped (at_table k forms) denotes (with_content x content s) es exprs tys

  pub arm_at : (s : Scope) (x : Option ℕ) (ms : List Member) (tys : List Ty) (arms : List Arm) (us : List (List TypedExpr)) (tags : List (List ℕ)) (a : Arm) → AreArms (at_table k forms) denotes s x ms tys arms us tags
      → Contains arms a → IsArmAt s x ms tys (out-Arm a).tags (out-Arm a).results
  arm_at s x ms tys [] us tags a p c = absurd (contains_none a c)
  arm_at s x ms tys (b ∷ arms) us tags a p c =
      let v : IsArm k forms denotes s x ms tys (out-Arm b).tags (out-Arm b).results arms tags = arms_of k forms denotes s x ms tys (b ∷ arms) us tags p in
      by (record { content = v.content; exprs = v.exprs; tagged = v.tagged; contents = v.contents; typed = v.typed }) (contains_cases b arms a c) (λ d. arm_at s x ms tys arms v.typed_arms v.others a v.later d)
    where
      by : IsArmAt s x ms tys (out-Arm b).tags (out-Arm b).results → (b ≡ a) ⊎ Contains arms a → (Contains arms a → IsArmAt s x ms tys (out-Arm a).tags (out-Arm a).results) → IsArmAt s x ms tys (out-Arm a).tags (out-Arm a).results
      by v (inl i) rest = subst (λ z. IsArmAt s x ms tys (out-Arm z).tags (out-Arm z).results) i v
      by v (inr d) rest = rest d

  pub tags_are : (s : Scope) (x : Option ℕ) (ms : List Member) (tys : List Ty) (arms : List Arm) (us : List (List TypedExpr)) (tags : List (List ℕ)) → AreArms (at_table k forms) denotes s x ms tys arms us tags
      → tags ≡ map (λ arm. names_of (out-Arm arm).tags) arms
  tags_are s x ms tys [] us tags p = let e : tags ≡ [] = arms_of k forms denotes s x ms tys [] us tags p in e
  tags_are s x ms tys (b ∷ arms) us tags p =
      let v : IsArm k forms denotes s x ms tys (out-Arm b).tags (out-Arm b).results arms tags = arms_of k forms denotes s x ms tys (b ∷ arms) us tags p in
      v.is_tags ∙ ap (λ l. names_of (out-Arm b).tags ∷ l) (tags_are s x ms tys arms v.typed_arms v.others v.later)

  abbrev pub OtherIn : Scope → List Ty → Option (List Expr) → Type 0
  OtherIn s tys None = Unit {0}
  OtherIn s tys (Some es) = (ts : List TypedExpr) × AreTyped (at_table k forms) denotes s es ts tys

  pub other_in : (s : Scope) (tys : List Ty) (other : Option (List Expr)) (last : List (List TypedExpr)) → IsOtherwise (at_table k forms) denotes s tys other last → OtherIn s tys other
  other_in s tys _ _ rule.no_otherwise = tt
  other_in s tys _ _ (rule.otherwise {ts = ts} p) = (ts, p)

  -- ---- definitions

  pub record IsSplit (s : Scope) (before rest : List Def) (tys : List Ty) (after : Scope) : Type 0 where
    pub middle : Scope
    pub made : List Ty
    pub others : List Ty
    pub values : List (List TypedExpr)
    pub trees : List (List TypedExpr)
    pub first : Defines (at_table k forms) denotes s before values made middle
    pub second : Defines (at_table k forms) denotes middle rest trees others after
    pub types : tys ≡ made ++ others

  pub split : (s : Scope) (before rest : List Def) (us : List (List TypedExpr)) (tys : List Ty) (after : Scope) → Defines (at_table k forms) denotes s (before ++ rest) us tys after → IsSplit s before rest tys after
  split s [] rest us tys after p = record { middle = s; made = []; others = tys; values = []; trees = us; first = rule.no_def; second = p; types = refl }
  split s (d ∷ ds) rest us tys after p =
      let v : IsDefinition k forms denotes s (out-Def d).targets (out-Def d).values (ds ++ rest) us tys after = definitions_of k forms denotes s (d ∷ (ds ++ rest)) us tys after p in
      let q = split (define_all (names_in (out-Def d).targets) v.made s) ds rest v.rest v.others after v.later in
      record {
        middle = q.middle;
        made = v.made ++ q.made;
        others = q.others;
        values = v.exprs ∷ q.values;
        trees = q.trees;
        first = subst (λ b. Defines (at_table k forms) denotes s (b ∷ ds) (v.exprs ∷ q.values) (v.made ++ q.made) q.middle) (rolled_def d) (rule.a_def (out-Def d).targets v.typed v.declared q.first);
        second = q.second;
        types = v.types ∙ ap (λ l. v.made ++ l) q.types ∙ sym (append_assoc v.made q.made q.others);
      }

  many_names : (xs : List Target) → length (names_in xs) ≡ length xs
  many_names [] = refl
  many_names (x ∷ xs) = ap suc (many_names xs)

  as_many_defined : (s : Scope) (ds : List Def) (us : List (List TypedExpr)) (tys : List Ty) (after : Scope) → Defines (at_table k forms) denotes s ds us tys after → length (targets ds) ≡ length tys
  as_many_defined s [] us tys after p = let v : IsNoDefinition k forms denotes s tys after = definitions_of k forms denotes s [] us tys after p in sym (ap length v.types)
  as_many_defined s (d ∷ ds) us tys after p =
      let v : IsDefinition k forms denotes s (out-Def d).targets (out-Def d).values ds us tys after = definitions_of k forms denotes s (d ∷ ds) us tys after p in
      length-append (names_in (out-Def d).targets) (targets ds)
      ∙ ap (λ n. n + length (targets ds)) (many_names (out-Def d).targets ∙ sym (as_many_targets denotes (out-Def d).targets v.made v.declared))
      ∙ ap (λ n. length v.made + n) (as_many_defined (define_all (names_in (out-Def d).targets) v.made s) ds v.rest v.others after v.later)
      ∙ sym (length-append v.made v.others) ∙ sym (ap length v.types)

  -- a name that a definition of a turn defines keeps its type
  pub kept : (loop : List (ℕ × Meaning)) (s : Scope) (before : List Def) (xs : List Target) (es : List Expr) (after : List Def) (us : List (List TypedExpr)) (made tys others all : List Ty) (end : Scope) (x : Target) (a : Ty)
      → Defines (at_table k forms) denotes s before us made end → all ≡ made ++ (tys ++ others)
      → KeepTypes loop (targets (before ++ roll-Def (record { targets = xs; values = es }) ∷ after)) all → IsPair xs tys x a → IsRetyped loop x.name.name a → ⊥
  kept loop s before xs es after us made tys others whole end x a p e keeps pair r =
      let d = roll-Def (record { targets = xs; values = es }) in
      let names : targets (before ++ d ∷ after) ≡ targets before ++ (names_in xs ++ targets after) =
      targets_append before (d ∷ after) ∙ ap (λ r. targets before ++ (names_in r.targets ++ targets after)) (out_def xs es) in
      let here : KeepTypes loop (targets before ++ (names_in xs ++ targets after)) (made ++ (tys ++ others)) =
      subst (λ l. KeepTypes loop (targets before ++ (names_in xs ++ targets after)) l) e (subst (λ l. KeepTypes loop l whole) names keeps) in
      kept_at loop xs tys (targets after) others x a pair
      (keeps_after loop (targets before) made (names_in xs ++ targets after) (tys ++ others) (as_many_defined s before us made end p) here) r

-- the tags of arms, one after another
pub flat_tags : (arms : List Arm) → flat_map (λ names. names) (map (λ arm. names_of (out-Arm arm).tags) arms) ≡ names_of (flat_map (λ arm. (out-Arm arm).tags) arms)
flat_tags [] = refl
flat_tags (a ∷ arms) = ap (λ l. names_of (out-Arm a).tags ++ l) (flat_tags arms) ∙ sym (names_append (out-Arm a).tags (flat_map (λ arm. (out-Arm arm).tags) arms))
