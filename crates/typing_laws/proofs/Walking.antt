-- What a walk over an expression makes step by step, from what it makes of the parts.
use Rattle.std.proofs.Common.{◌≡◌, ℕ, ◌+◌, ◌<◌, ◌≤◌, ◌-◌, List, [], ◌∷◌, ◌++◌, take, drop, length, get_or, map, Option, Some, None, Result, Ok, Err, IfOk, OnOk, refl, sym, ap, subst, ◌∙◌, arith}
use Rattle.std.specs.Prelude.{Contains}
use Rattle.std.proofs.lemmas.List.{append_cancel_left, append_cancel_right, length-append, take_more, take_all, map-append, append_assoc, append-nil}
use Rattle.std.proofs.lemmas.List.Elements.{Contains-get_or}
use Rattle.type_table.specs.declared.form.Form.{Form}
use Rattle.sisal_tree.specs.declared.expr.Arm.{Arm}
use Rattle.sisal_tree.specs.declared.expr.BinaryOperator.{BinaryOperator}
use Rattle.sisal_tree.specs.declared.expr.Clause.{Clause, out-Clause}
use Rattle.sisal_tree.specs.declared.expr.Def.{Def, out-Def}
use Rattle.sisal_tree.specs.declared.expr.FieldValue.{FieldValue}
use Rattle.sisal_tree.specs.declared.expr.Generator.{Generator, out-Generator}
use Rattle.sisal_tree.specs.declared.expr.Loop.{Loop}
use Rattle.sisal_tree.specs.declared.expr.Mask.{Mask}
use Rattle.sisal_tree.specs.declared.expr.TagCase.{TagCase}
use Rattle.sisal_tree.specs.declared.expr.Turn.{Turn}
use Rattle.sisal_tree.specs.declared.expr.Elements.{Elements, out-Elements}
use Rattle.sisal_tree.specs.declared.expr.Expr.{Expr}
use Rattle.sisal_tree.specs.declared.expr.ExprKind.{ExprKind}
use Rattle.sisal_tree.specs.declared.expr.ExprKind.TheOpen.{ExprKind-F}
use Rattle.sisal_tree.specs.declared.expr.ExprKind.TheViews.{out-ExprKind}
use Rattle.sisal_tree.specs.declared.expr.ExprKind.TheVariants as tree
use Rattle.typed_tree.specs.declared.expr.TypedExpr.{TypedExpr}
use Rattle.sisal_tree.specs.declared.unit.Named.{Named}
use Rattle.typed_tree.specs.Breaks.{generators_in, index_in}
use Rattle.typed_tree.specs.Typing.{at}
use Rattle.type_rules.specs.Applies.{Grows}
use Rattle.value_names.specs.declared.in_force.Mark.{Mark}
use Rattle.value_names.specs.Names.{Names}
use Rattle.value_names.specs.Scopes.{define_all, mark_of, left}
use Rattle.typing_laws.specs.Given.{Given, Group, Parts}
use Rattle.typing_laws.specs.Defining.{AllDefined}
use Rattle.typing_laws.specs.Judged.{Adds, AddsSingle, AllElements, AllOnes, AllTyped, IsAbove, IsUsedIn, Typed}
use Rattle.typing_laws.specs.Forming.{AreElements, NoOperands, Operands, OperandsIn}
use Rattle.typing_laws.specs.Looping.{AddsGenerator, AllValues, GroupsTyped, no_group, a_group, IsAround, KeepsGenerator, index_names, up_to}
use Rattle.typing_laws.proofs.Crossed.{a_clause_value, a_masked_value, all_values_append, values_later}
use Rattle.typing_laws.proofs.Leaving.{drop_back, left_above}
use Rattle.typing_laws.proofs.Entering.{above_on, defined_above, same_above}
use Rattle.typing_laws.proofs.Generated.{one_more_generated}
use Rattle.typing_laws.proofs.Later.{agrees_before, all_later, ones_later, used_same}
use Rattle.typing_laws.proofs.Listing.{adds_more, adds_ones}
use Rattle.typing_laws.proofs.Formed.{out_array, out_binary, out_replace, out_select, out_stream, out_update}

-- ---- results

pub ok_both : {T E Q : Type 0} {P R : T → Type 0} (r : Result T E) → ((x : T) → P x → Q → R x) → IfOk r P → OnOk r Q → IfOk r R
ok_both (Ok x) f h q = f x h q
ok_both (Err e) f h q = tt

pub ok_two : {T E Q S R : Type 0} (r : Result T E) → (Q → S → R) → OnOk r Q → OnOk r S → OnOk r R
ok_two (Ok x) f h q = f h q
ok_two (Err e) f h q = tt

pub ok_three : {T E Q S U R : Type 0} (r : Result T E) → (Q → S → U → R) → OnOk r Q → OnOk r S → OnOk r U → OnOk r R
ok_three (Ok x) f h q s = f h q s
ok_three (Err e) f h q s = tt

-- ---- places of a list

pub here : {A : Type 0} (xs : List A) (i : ℕ) (x : A) → i < length xs → x ≡ get_or xs i x → Contains xs x
here xs i x h e = subst (Contains xs) (sym e) (Contains-get_or xs i x h)

pub taken : {A : Type 0} (xs : List A) (i : ℕ) (x : A) → i < length xs → x ≡ get_or xs i x → take i xs ++ x ∷ [] ≡ take (i + 1) xs
taken xs i x h e = ap (λ y. take i xs ++ y ∷ []) e ∙ sym (take_more xs i x h)

-- ---- expressions

pub kind_typed : (g : Given) (f : List Form) (names : Names) (e : Expr) (kind : ExprKind) (t : TypedExpr) → e.kind ≡ kind → Typed g f names (at e.line kind) t → Typed g f names e t
kind_typed g f names e kind t is p = subst (λ k. Typed g f names (at e.line k) t) (sym is) p

pub let_left : (old inside after new : Names) (m : Mark) → new ≡ left m after → m ≡ mark_of old → after ≡ inside → IsAbove old inside → new ≡ old
let_left old inside after new m e q r a = e ∙ ap (λ m. left m after) q ∙ ap (left (mark_of old)) r ∙ left_above old inside a

-- ---- names that end

pub around_above : (old mid new : Names) → IsAround old mid → IsAbove mid new → IsAround old new
around_above old mid new p q = record {
  more = q.more ++ p.more;
  others = p.others;
  names = q.names ∙ ap (λ l. q.more ++ l) p.names ∙ sym (append_assoc q.more p.more old.names);
  olds = q.olds ∙ p.olds;
}

pub left_around : (old new : Names) → IsAround old new → left (mark_of old) new ≡ old
left_around old new p =
    ap (λ l. record { names = l; olds = drop (length new.olds - length old.olds) new.olds; height = old.height }) (drop_back new.names p.more old.names p.names)
    ∙ ap (λ l. record { names = old.names; olds = l; height = old.height }) (drop_back new.olds p.others old.olds p.olds)

pub turn_left : (old mid inside new : Names) (m : Mark) → new ≡ left m inside → m ≡ mark_of old → IsAround old mid → IsAbove mid inside → new ≡ old
turn_left old mid inside new m e q p a = e ∙ ap (λ m. left m inside) q ∙ left_around old inside (around_above old mid inside p a)

-- a value of an expression that has one
only_one : (ns : List ℕ) → length ns ≡ 1 → (n : ℕ) × (ns ≡ n ∷ [])
only_one [] e = absurd (omega (arith, e))
only_one (n ∷ []) e = (n, refl)
only_one (n ∷ m ∷ ns) e = absurd (omega (arith, e))

pub single_added : (t : TypedExpr) (old new : Parts) → length t.types ≡ 1 → new.exprs ≡ old.exprs ++ t ∷ [] → new.types ≡ old.types ++ t.types → AddsSingle old new
single_added t old new one exprs types =
    let n = only_one t.types one in
    record { expr = t; type = n.0; exprs = exprs; types = types ∙ ap (λ l. old.types ++ l) n.1 }

-- ---- lists of expressions

module _ (g : Given) (names : Names) where
  pub many_more : (f0 f1 : List Form) (now : Names) (es : List Expr) (i : ℕ) (e : Expr) (t : TypedExpr) (first old new : Parts) → i < length es → e ≡ get_or es i e → IsUsedIn g f0 f1 → now ≡ names
      → Adds first old (AllTyped g f0 names (take i es)) → Typed g f1 now e t → new.exprs ≡ old.exprs ++ t ∷ [] → new.types ≡ old.types ++ t.types → Adds first new (AllTyped g f1 names (take (i + 1) es))
  many_more f0 f1 now es i e t first old new h is u same p q exprs types =
      subst (λ l. Adds first new (AllTyped g f1 names l)) (taken es i e h is)
      (adds_more g f0 f1 names (take i es) e t first old new u.grows p (subst (λ n. Typed g f1 n e t) same q) exprs types)

  pub ones_more : (f0 f1 : List Form) (now : Names) {A : Type 0} (of : A → Expr) (vs : List A) (i : ℕ) (v : A) (first old new : Parts) → i < length vs → v ≡ get_or vs i v → IsUsedIn g f0 f1 → now ≡ names
      → Adds first old (AllOnes g f0 names (map of (take i vs))) → Adds old new (AllOnes g f1 now (of v ∷ [])) → Adds first new (AllOnes g f1 names (map of (take (i + 1) vs)))
  ones_more f0 f1 now of vs i v first old new h is u same p q =
      subst (λ l. Adds first new (AllOnes g f1 names l)) (sym (map-append of (take i vs) (v ∷ [])) ∙ ap (map of) (taken vs i v h is))
      (adds_ones g f0 f1 names (map of (take i vs)) (of v ∷ []) first old new u.grows p (subst (λ n. Adds old new (AllOnes g f1 n (of v ∷ []))) same q))

  pub two_ones : (f0 f1 : List Form) (now : Names) (e f : Expr) (first mid last : Parts) → IsUsedIn g f0 f1 → now ≡ names
      → Adds first mid (AllOnes g f0 names (e ∷ [])) → Adds mid last (AllOnes g f1 now (f ∷ [])) → Adds first last (AllOnes g f1 names (e ∷ f ∷ []))
  two_ones f0 f1 now e f first mid last u same p q = adds_ones g f0 f1 names (e ∷ []) (f ∷ []) first mid last u.grows p (subst (λ n. Adds mid last (AllOnes g f1 n (f ∷ []))) same q)

  pub more_ones : (f0 f1 : List Form) (now : Names) (es fs : List Expr) (first mid last : Parts) → IsUsedIn g f0 f1 → now ≡ names
      → Adds first mid (AllOnes g f0 names es) → Adds mid last (AllOnes g f1 now fs) → Adds first last (AllOnes g f1 names (es ++ fs))
  more_ones f0 f1 now es fs first mid last u same p q = adds_ones g f0 f1 names es fs first mid last u.grows p (subst (λ n. Adds mid last (AllOnes g f1 n fs)) same q)

  -- the operands of a form that is known
  pub operands_of : (f : List Form) (kind known : ExprKind) (first last : Parts) → kind ≡ known → Adds first last (Operands g f names known) → Adds first last (Operands g f names kind)
  operands_of f kind known first last is p = subst (λ k. Adds first last (Operands g f names k)) (sym is) p

  operands_in : (f : List Form) (kind : ExprKind) (layer : ExprKind-F ExprKind Loop Arm Clause Def Elements Expr FieldValue Generator Mask TagCase Turn) (first last : Parts) → out-ExprKind kind ≡ layer
      → Adds first last (OperandsIn g f names layer) → Adds first last (Operands g f names kind)
  operands_in f kind layer first last e p = record {
    exprs = p.exprs;
    types = p.types;
    is_exprs = p.is_exprs;
    is_types = p.is_types;
    holds = record { is = subst (λ l. OperandsIn g f names l p.exprs p.types) (sym e) p.holds };
  }

  pub binary_operands : (f : List Form) (o : BinaryOperator) (a b : Expr) (first last : Parts) → Adds first last (AllOnes g f names (a ∷ b ∷ [])) → Adds first last (Operands g f names (tree.Binary o a b))
  binary_operands f o a b first last p = operands_in f (tree.Binary o a b) _ first last (out_binary o a b) p

  pub select_operands : (f : List Form) (a b : Expr) (first last : Parts) → Adds first last (AllOnes g f names (a ∷ b ∷ [])) → Adds first last (Operands g f names (tree.Select a b))
  select_operands f a b first last p = operands_in f (tree.Select a b) _ first last (out_select a b) p

  pub update_operands : (f : List Form) (a b d : Expr) (first last : Parts) → Adds first last (AllOnes g f names (a ∷ b ∷ d ∷ [])) → Adds first last (Operands g f names (tree.Update a b d))
  update_operands f a b d first last p = operands_in f (tree.Update a b d) _ first last (out_update a b d) p

  pub replace_operands : (f : List Form) (a : Expr) (vs : List FieldValue) (first last : Parts) → Adds first last (AllOnes g f names (a ∷ map (λ v. v.value) vs)) → Adds first last (Operands g f names (tree.Replace a vs))
  replace_operands f a vs first last p = operands_in f (tree.Replace a vs) _ first last (out_replace a vs) p

  -- elements that have some value, if there are any
  pub stream_operands : (f : List Form) (x : Option ℕ) (es : List Expr) (first last : Parts) → Adds first last (AllTyped g f names es) → (length last.types ≡ length first.types → es ≡ [])
      → Adds first last (Operands g f names (tree.Stream x es))
  stream_operands f x es first last p some = operands_in f (tree.Stream x es) _ first last (out_stream x es) (record {
    exprs = p.exprs;
    types = p.types;
    is_exprs = p.is_exprs;
    is_types = p.is_types;
    holds = record { typed = p.holds; some = λ none. some (ap length (p.is_types ∙ ap (λ l. first.types ++ l) none ∙ append-nil first.types)) };
  })

  -- a lower bound, and elements
  pub array_operands : (f0 f1 : List Form) (now : Names) (x : Option ℕ) (els : Elements) (first mid last : Parts) → IsUsedIn g f0 f1 → now ≡ names
      → Adds first mid (AllOnes g f0 names ((out-Elements els).lower ∷ [])) → AddsSingle first mid → Adds mid last (AllTyped g f1 now (out-Elements els).values)
      → Adds first last (Operands g f1 names (tree.Array x (Some els)))
  array_operands f0 f1 now x els first mid last u same p s q =
      let e : p.exprs ≡ s.expr ∷ [] = append_cancel_left first.exprs p.exprs (s.expr ∷ []) (sym p.is_exprs ∙ s.exprs) in
      let n : p.types ≡ s.type ∷ [] = append_cancel_left first.types p.types (s.type ∷ []) (sym p.is_types ∙ s.types) in
      let lower : AllOnes g f0 names ((out-Elements els).lower ∷ []) (s.expr ∷ []) (s.type ∷ []) =
      subst (λ l. AllOnes g f0 names ((out-Elements els).lower ∷ []) (s.expr ∷ []) l) n (subst (λ l. AllOnes g f0 names ((out-Elements els).lower ∷ []) l p.types) e p.holds) in
      operands_in f1 (tree.Array x (Some els)) _ first last (out_array x els) (record {
        exprs = p.exprs ++ q.exprs;
        types = p.types ++ q.types;
        is_exprs = q.is_exprs ∙ ap (λ l. l ++ q.exprs) p.is_exprs ∙ append_assoc first.exprs p.exprs q.exprs;
        is_types = q.is_types ∙ ap (λ l. l ++ q.types) p.is_types ∙ append_assoc first.types p.types q.types;
        holds = record {
          low = s.expr;
          bound = s.type;
          exprs = q.exprs;
          types = q.types;
          is_exprs = ap (λ l. l ++ q.exprs) e;
          is_types = ap (λ l. l ++ q.types) n;
          lower = ones_later g f0 f1 names ((out-Elements els).lower ∷ []) (s.expr ∷ []) (s.type ∷ []) u.grows lower;
          elements = subst (λ m. AllTyped g f1 m (out-Elements els).values q.exprs q.types) same q.holds;
        };
      })

-- ---- clauses

push_same : (xs ys : List ℕ) (a b : ℕ) → xs ++ a ∷ [] ≡ ys ++ b ∷ [] → (xs ≡ ys) × (a ≡ b)
push_same [] [] a b e = (refl, (let h : a ≡ b = cc in h))
push_same [] (y ∷ ys) a b e = absurd (let l = ap length e in let m = length-append ys (b ∷ []) in omega (arith, l, m))
push_same (x ∷ xs) [] a b e = absurd (let l = ap length e in let m = length-append xs (a ∷ []) in omega (arith, l, m))
push_same (x ∷ xs) (y ∷ ys) a b e =
    let same : x ≡ y = cc in
    let rest : xs ++ a ∷ [] ≡ ys ++ b ∷ [] = cc in
    let r = push_same xs ys a b rest in
    (ap (λ z. z ∷ xs) same ∙ ap (λ l. y ∷ l) r.0, r.1)

module _ (g : Given) (names : Names) where
  pub values_more : (f0 f1 : List Form) (now : Names) (cs : List Clause) (i : ℕ) (x : Clause) (old new : Parts) → i < length cs → x ≡ get_or cs i x → IsUsedIn g f0 f1 → now ≡ names
      → AllValues g f0 names (take i cs) old.exprs old.types → Adds old new (AllValues g f1 now (x ∷ [])) → AllValues g f1 names (take (i + 1) cs) new.exprs new.types
  values_more f0 f1 now cs i x old new h is u same p q =
      subst (λ l. AllValues g f1 names l new.exprs new.types) (taken cs i x h is)
      (subst (λ l. AllValues g f1 names (take i cs ++ x ∷ []) l new.types) (sym q.is_exprs)
      (subst (λ l. AllValues g f1 names (take i cs ++ x ∷ []) (old.exprs ++ q.exprs) l) (sym q.is_types)
      (all_values_append g f1 names (take i cs) (x ∷ []) old.exprs q.exprs old.types q.types (values_later g f0 f1 names (take i cs) old.exprs old.types u.grows p)
      (subst (λ n. AllValues g f1 n (x ∷ []) q.exprs q.types) same q.holds))))

  pub clause_alone : (f : List Form) (c : Clause) (first last : Parts) → (out-Clause c).mask ≡ None → Adds first last (AllOnes g f names ((out-Clause c).value ∷ [])) → Adds first last (AllValues g f names (c ∷ []))
  clause_alone f c first last none p = record { exprs = p.exprs; types = p.types; is_exprs = p.is_exprs; is_types = p.is_types; holds = a_clause_value g f names c p.exprs p.types none p.holds }

  pub clause_masked : (f0 f1 : List Form) (now : Names) (c : Clause) (m : Mask) (first mid late last : Parts) → (out-Clause c).mask ≡ Some m → IsUsedIn g f0 f1 → now ≡ names
      → Adds first mid (AllOnes g f0 names ((out-Clause c).value ∷ [])) → Adds mid late (AllOnes g f1 now (m.test ∷ [])) → AddsSingle mid late → late.types ≡ last.types ++ 0 ∷ [] → last.exprs ≡ late.exprs
      → Adds first last (AllValues g f1 names (c ∷ []))
  clause_masked f0 f1 now c m first mid late last some u same p q s ends exprs =
      let n : q.types ≡ s.type ∷ [] = append_cancel_left mid.types q.types (s.type ∷ []) (sym q.is_types ∙ s.types) in
      let both = push_same mid.types last.types s.type 0 (sym s.types ∙ ends) in
      record {
        exprs = p.exprs ++ q.exprs;
        types = p.types;
        is_exprs = exprs ∙ q.is_exprs ∙ ap (λ l. l ++ q.exprs) p.is_exprs ∙ append_assoc first.exprs p.exprs q.exprs;
        is_types = sym both.0 ∙ p.is_types;
        holds = a_masked_value g f0 f1 names c m p.exprs q.exprs p.types q.types u.grows some p.holds (subst (λ n. AllOnes g f1 n (m.test ∷ []) q.exprs q.types) same q.holds) (n ∙ ap (λ k. k ∷ []) both.1);
      }

pub used_as : (g : Given) (a b : List Form) → b ≡ a → IsUsedIn g a b
used_as g a b e = subst (IsUsedIn g a) (sym e) (used_same g a)

-- ---- definitions, generators and loops

pub defined_on : (g : Given) (f0 f1 : List Form) (before after : Names) (turn : Option ℕ) (ds : List Def) (us : List (List TypedExpr)) (ns : List ℕ) → IsUsedIn g f0 f1
    → AllDefined g f0 before after turn ds us ns → AllDefined g f1 before after turn ds us ns
defined_on g f0 f1 before after turn ds us ns u p = record {
  holds = λ k s a st. p.holds k s (agrees_before g f0 f1 k u.grows a) st;
  count = p.count;
  kept = p.kept;
  above = p.above;
}

pub generator_added : (g : Given) (f0 f1 : List Form) (names : Names) (one : Generator) (parts : Parts) (old new : Group) → IsUsedIn g f0 f1
    → AllOnes g f1 names ((out-Generator one).from ∷ up_to (out-Generator one).to) parts.exprs parts.types → KeepsGenerator f1 (out-Generator one).name (out-Generator one).at parts old new
    → AddsGenerator g f0 f1 names one old new
generator_added g f0 f1 names one parts old new u p k = record { holds = λ others q. one_more_generated g f0 f1 names others one parts old new u.grows q p k }

pub groups_above : (g : Given) (f : List Form) (names after : Names) (gs : List (List Generator)) (ms : List Group) → GroupsTyped g f names gs ms after → IsAbove names after
groups_above g f names _ _ _ no_group = same_above names
groups_above g f names after _ _ (a_group {m = m} {groups = groups} {ms = ms} p r) =
    above_on names (define_all m.names m.types names) after (defined_above m.names m.types names) (groups_above g f (define_all m.names m.types names) after groups ms r)

pub ok_now : {T E P : Type 0} (r : Result T E) (x : T) → r ≡ Ok x → OnOk r P → P
ok_now {P = P} r x e h = subst (λ r. OnOk r P) e h

same_index : (line : ℕ) (x : Option ℕ) → index_in line x ≡ index_names x line
same_index line None = refl
same_index line (Some x) = refl

pub generators_more : (gs : List Generator) (x : Generator) → generators_in (gs ++ x ∷ []) ≡ generators_in gs ++ ((out-Generator x).name ∷ index_names (out-Generator x).at (out-Generator x).name.line)
generators_more [] x = append-nil (generators_here x) ∙ ap (λ l. (out-Generator x).name ∷ l) (same_index (out-Generator x).name.line (out-Generator x).at)
  where
    generators_here : Generator → List Named
    generators_here x = (out-Generator x).name ∷ index_in (out-Generator x).name.line (out-Generator x).at
generators_more (y ∷ gs) x =
    let first : List Named = (out-Generator y).name ∷ index_in (out-Generator y).name.line (out-Generator y).at in
    ap (λ l. first ++ l) (generators_more gs x) ∙ sym (append_assoc first (generators_in gs) ((out-Generator x).name ∷ index_names (out-Generator x).at (out-Generator x).name.line))
