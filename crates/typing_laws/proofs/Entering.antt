-- Names that come into force by number stand for those by type; definitions in order.
use Rattle.std.proofs.Common.{◌≡◌, ℕ, suc, ◌+◌, List, [], ◌∷◌, ◌++◌, map, length, Option, Some, None, refl, sym, ap, subst, ◌∙◌, arith, rules}
use Rattle.std.proofs.lemmas.List.{append_assoc, append-nil, length-append}
use Rattle.std.proofs.lemmas.Grind.{flat_map-append}
use Rattle.std.proofs.lemmas.Option.{same_Some}
use Rattle.flow_value.specs.declared.ty.Ty.{Ty}
use Rattle.type_table.specs.declared.form.Form.{Form}
use Rattle.sisal_tree.specs.declared.unit.Named.{Named}
use Rattle.sisal_tree.specs.declared.unit.Written.{Written}
use Rattle.sisal_tree.specs.declared.expr.Def.{Def, out-Def, roll-Def}
use Rattle.sisal_tree.specs.declared.expr.ExprKind.TheViews as kinds
use Rattle.sisal_tree.specs.declared.expr.Target.{Target}
use Rattle.typed_tree.specs.declared.expr.TypedExpr.{TypedExpr}
use Rattle.typed_tree.specs.Scopes as scopes
use Rattle.typed_tree.specs.Scopes.{targets}
use Rattle.typed_tree.specs.Types.{IsNumber, AreNumbers}
use Rattle.typed_tree.specs.Typing.{Known, AreTyped, AreTargets, Defines, no_def, a_def, names_of, names_in}
use Rattle.type_rules.specs.Applies.{Grows}
use Rattle.type_rules.proofs.Standing.{one_type}
use Rattle.value_names.specs.declared.value.Value.{Value}
use Rattle.value_names.specs.declared.value.Meaning.TheVariants as means
use Rattle.value_names.specs.Names.{Names}
use Rattle.value_names.specs.Scopes.{define, define_all}
use Rattle.typing_laws.specs.Turns.{AreBelow, IsInTurn}
use Rattle.typing_laws.specs.Given.{Given, Defined}
use Rattle.typing_laws.specs.Judged.{Agrees, Stands, denotes_in, IsAbove}
use Rattle.typing_laws.specs.Defining.{named_targets, IsDeclaredAs, AreDeclaredAs, AreKept, AddsDef, AllDefined}
use Rattle.typing_laws.proofs.Later.{agrees_before}
use Rattle.typing_laws.proofs.Unique.{number_append, no_numbers}

-- ---- names

below_more : (n m : ℕ) (olds : List (ℕ × Value)) → m ≡ n + 1 → AreBelow n olds → AreBelow m olds
below_more n m [] e p = tt
below_more n m (o ∷ olds) e p = ((let q = p.0 in omega (arith, q, e)), below_more n m olds e p.1)

pub stands_with : (k : Known) (names : Names) (s : scopes.Scope) (x n : ℕ) (t : Ty) → Stands k names s → IsNumber k.forms k.spellings n t
    → Stands k (define x n names) (scopes.define x t s)
stands_with k names s x n t st number = record {
  names = (refl, (st.height, number), st.names);
  olds = st.olds;
  height = (let e = st.height in omega (arith, e));
  below = below_more names.height (names.height + 1) names.olds refl st.below;
}

pub stands_with_all : (k : Known) (xs : List Named) (ns : List ℕ) (ts : List Ty) (names : Names) (s : scopes.Scope) → Stands k names s → AreNumbers k.forms k.spellings ns ts
    → Stands k (define_all xs ns names) (scopes.define_all (names_of xs) ts s)
stands_with_all k [] ns ts names s st p = st
stands_with_all k (x ∷ xs) [] [] names s st p = st
stands_with_all k (x ∷ xs) [] (t ∷ ts) names s st p = absurd p
stands_with_all k (x ∷ xs) (n ∷ ns) [] names s st p = absurd p
stands_with_all k (x ∷ xs) (n ∷ ns) (t ∷ ts) names s st p =
    stands_with_all k xs ns ts (define x.name n names) (scopes.define x.name t s) (stands_with k names s x.name n t st p.0) p.1

pub same_above : (names : Names) → IsAbove names names
same_above names = record { more = []; names = refl; olds = refl }

pub above_on : (a b c : Names) → IsAbove a b → IsAbove b c → IsAbove a c
above_on a b c p q = record {
  more = q.more ++ p.more;
  names = q.names ∙ ap (λ l. q.more ++ l) p.names ∙ sym (append_assoc q.more p.more a.names);
  olds = q.olds ∙ p.olds;
}

define_above : (x n : ℕ) (names : Names) → IsAbove names (define x n names)
define_above x n names = record { more = (x, means.At (record { level = names.height; ty = n })) ∷ []; names = refl; olds = refl }

pub defined_above : (xs : List Named) (ns : List ℕ) (names : Names) → IsAbove names (define_all xs ns names)
defined_above [] ns names = same_above names
defined_above (x ∷ xs) [] names = same_above names
defined_above (x ∷ xs) (n ∷ ns) names =
    above_on names (define x.name n names) (define_all xs ns (define x.name n names)) (define_above x.name n names) (defined_above xs ns (define x.name n names))

-- ---- targets

pub target_names : (xs : List Target) → names_of (named_targets xs) ≡ names_in xs
target_names [] = refl
target_names (x ∷ xs) = ap (λ l. x.name.name ∷ l) (target_names xs)

module _ (k : Known) (denotes : Written → Ty → Type 0) where
  a_target : (x : Target) (xs : List Target) (t : Ty) (ts : List Ty) (o : Option Written) → x.ty ≡ o → ((w : Written) → o ≡ Some w → denotes w t) → AreTargets denotes xs ts → AreTargets denotes (x ∷ xs) (t ∷ ts)
  a_target x xs t ts None e p q = subst (λ y. AreTargets denotes (record { name = x.name; ty = y } ∷ xs) (t ∷ ts)) (sym e) (tt, q)
  a_target x xs t ts (Some w) e p q = subst (λ y. AreTargets denotes (record { name = x.name; ty = y } ∷ xs) (t ∷ ts)) (sym e) (p w refl, q)

denoted_as : (g : Given) (f : List Form) (k : Known) (o : Option Written) (n : ℕ) (t : Ty) → Agrees g f k → IsDeclaredAs g f o n → IsNumber k.forms k.spellings n t
    → (w : Written) → o ≡ Some w → denotes_in g k w t
denoted_as g f k None n t agrees p number w e = absurd cc
denoted_as g f k (Some v) n t agrees p number w e =
    let d = p.holds k agrees in
    subst (λ u. denotes_in g k u t) (same_Some v w e) (subst (λ u. denotes_in g k v u) (one_type k.forms k.spellings n d.0 t d.2 number) d.1)

pub declared_targets : (g : Given) (f : List Form) (k : Known) → Agrees g f k → (xs : List Target) (ns : List ℕ) (ts : List Ty) → AreDeclaredAs g f xs ns → AreNumbers k.forms k.spellings ns ts
    → length ns ≡ length xs → AreTargets (denotes_in g k) xs ts
declared_targets g f k agrees [] [] [] p q e = tt
declared_targets g f k agrees [] [] (t ∷ ts) p q e = absurd q
declared_targets g f k agrees [] (n ∷ ns) ts p q e = absurd cc
declared_targets g f k agrees (x ∷ xs) [] ts p q e = absurd cc
declared_targets g f k agrees (x ∷ xs) (n ∷ ns) [] p q e = absurd q
declared_targets g f k agrees (x ∷ xs) (n ∷ ns) (t ∷ ts) p q e =
    a_target k (denotes_in g k) x xs t ts x.ty refl (denoted_as g f k x.ty n t agrees p.0 q.0) (declared_targets g f k agrees xs ns ts p.1 q.1 (omega (arith, e)))

-- ---- definitions in order

module _ (k : Known) (denotes : Written → Ty → Type 0) where
  one_def : (s : scopes.Scope) (d : Def) (ts : List TypedExpr) (tys : List Ty) → AreTyped k denotes s (out-Def d).values ts tys → AreTargets denotes (out-Def d).targets tys
      → Defines k denotes s (d ∷ []) (ts ∷ []) tys (scopes.define_all (names_in (out-Def d).targets) tys s)
  one_def s d ts tys p q =
      subst (λ e. Defines k denotes s (e ∷ []) (ts ∷ []) tys (scopes.define_all (names_in (out-Def d).targets) tys s)) (rolled d)
      (subst (λ l. Defines k denotes s (roll-Def (record { targets = (out-Def d).targets; values = (out-Def d).values }) ∷ []) (ts ∷ []) l (scopes.define_all (names_in (out-Def d).targets) tys s)) (append-nil tys)
      (a_def (out-Def d).targets p q no_def))
    where
      rolled : (d : Def) → roll-Def (record { targets = (out-Def d).targets; values = (out-Def d).values }) ≡ d
      rolled d = search (rules, kinds.the_lemmas)

  pub defines_append : (s : scopes.Scope) (ds es : List Def) (us vs : List (List TypedExpr)) (xs ys : List Ty) (between after : scopes.Scope)
      → Defines k denotes s ds us xs between → Defines k denotes between es vs ys after → Defines k denotes s (ds ++ es) (us ++ vs) (xs ++ ys) after
  defines_append s _ es _ vs _ ys between after no_def q = q
  defines_append s _ es _ vs _ ys between after (a_def xs {es = values} {ts = ts} {tys = tys} {others = others} {ds = ds} {us = us} p t r) q =
      subst (λ l. Defines k denotes s (roll-Def (record { targets = xs; values = values }) ∷ (ds ++ es)) (ts ∷ (us ++ vs)) l after) (sym (append_assoc tys others ys))
      (a_def xs p t (defines_append (scopes.define_all (names_in xs) tys s) ds es us vs others ys between after r q))

pub targets_append : (ds es : List Def) → targets (ds ++ es) ≡ targets ds ++ targets es
targets_append ds es = flat_map-append (λ d. map (λ t. t.name.name) (out-Def d).targets) ds es

targets_of_one : (d : Def) → targets (d ∷ []) ≡ names_in (out-Def d).targets
targets_of_one d = append-nil (names_in (out-Def d).targets)

many_names : (xs : List Target) → length (names_in xs) ≡ length xs
many_names [] = refl
many_names (x ∷ xs) = ap suc (many_names xs)

kept_append : (loop : List (ℕ × Value)) (xs ys ns ms : List ℕ) → length ns ≡ length xs → AreKept loop xs ns → AreKept loop ys ms → AreKept loop (xs ++ ys) (ns ++ ms)
kept_append loop [] ys [] ms e p q = q
kept_append loop [] ys (n ∷ ns) ms e p q = absurd cc
kept_append loop (x ∷ xs) ys [] ms e p q = absurd cc
kept_append loop (x ∷ xs) ys (n ∷ ns) ms e p q = (p.0, kept_append loop xs ys ns ms (omega (arith, e)) p.1 q)

pub in_turn_above : (first : ℕ) (loop : List (ℕ × Value)) (old new : Names) → IsAbove old new → IsInTurn first loop old → IsInTurn first loop new
in_turn_above first loop old new above p = record { names = p.names; types = p.types; outer = p.outer; is_loop = p.is_loop; olds = above.olds ∙ p.olds; below = p.below }

pub none_defined : (g : Given) (f : List Form) (names : Names) (turn : Option ℕ) → AllDefined g f names names turn [] [] []
none_defined g f names turn = record {
  holds = λ k s agrees stands. record { made = []; inside = s; defines = no_def; number = no_numbers k; stands = stands };
  count = refl;
  kept = record { holds = λ first loop e p. tt };
  above = same_above names;
}

-- one more definition
pub one_more_defined : (g : Given) (f0 f1 : List Form) (start now after : Names) (turn : Option ℕ) (ds : List Def) (d : Def) (old new : Defined) → Grows f0 f1
    → AllDefined g f0 start now turn ds old.exprs old.types → AddsDef g f1 now after turn d old new → AllDefined g f1 start after turn (ds ++ (d ∷ [])) new.exprs new.types
one_more_defined g f0 f1 start now after turn ds d old new grows p q =
    let xs : List Target = (out-Def d).targets in
    subst (λ l. AllDefined g f1 start after turn (ds ++ (d ∷ [])) l new.types) (sym q.enters.exprs)
    (subst (λ l. AllDefined g f1 start after turn (ds ++ (d ∷ [])) (old.exprs ++ (q.exprs ∷ [])) l) (sym q.enters.types) (record {
      holds = λ k s agrees stands.
          let before = p.holds k s (agrees_before g f0 f1 k grows agrees) stands in
          let values = q.typed.holds k before.inside agrees before.stands in
          let many : length q.types ≡ length xs = q.enters.count in
          let declared : AreTargets (denotes_in g k) xs values.tys = declared_targets g f1 k agrees xs q.types values.tys q.enters.declared values.number.each many in
          record {
            made = before.made ++ values.tys;
            inside = scopes.define_all (names_in xs) values.tys before.inside;
            defines = defines_append k (denotes_in g k) s ds (d ∷ []) old.exprs (q.exprs ∷ []) before.made values.tys before.inside (scopes.define_all (names_in xs) values.tys before.inside) before.defines
                (one_def k (denotes_in g k) before.inside d q.exprs values.tys values.typed declared);
            number = number_append k old.types q.types before.made values.tys before.number values.number;
            stands = subst (λ n. Stands k n (scopes.define_all (names_in xs) values.tys before.inside)) (sym q.enters.names)
                (subst (λ l. Stands k (define_all (named_targets xs) q.types now) (scopes.define_all l values.tys before.inside)) (target_names xs)
                (stands_with_all k (named_targets xs) q.types values.tys now before.inside before.stands values.number.each));
          };
      count = length-append old.types q.types ∙ ap (λ n. n + length q.types) p.count ∙ ap (λ n. length (targets ds) + n) (q.enters.count ∙ sym (many_names xs))
          ∙ sym (length-append (targets ds) (names_in xs)) ∙ ap (λ l. length (targets ds ++ l)) (sym (targets_of_one d)) ∙ ap length (sym (targets_append ds (d ∷ [])));
      kept = record {
        holds = λ first loop e turned.
            subst (λ l. AreKept loop l (old.types ++ q.types)) (sym (targets_append ds (d ∷ []) ∙ ap (λ l. targets ds ++ l) (targets_of_one d)))
            (kept_append loop (targets ds) (names_in xs) old.types q.types p.count (p.kept.holds first loop e turned)
            (q.enters.kept.holds first loop e (in_turn_above first loop start now p.above turned)));
      };
      above = above_on start now after p.above (subst (λ n. IsAbove now n) (sym q.enters.names) (defined_above (named_targets xs) q.types now));
    }))
