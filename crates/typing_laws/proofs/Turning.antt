-- Turns of loops: the loop names under `old`, and what a turn renews.
use Rattle.std.proofs.Common.{◌≡◌, ℕ, suc, ◌+◌, ◌-◌, ◌≤◌, Bool, true, false, nat_eq, List, [], ◌∷◌, ◌++◌, length, Option, Some, None, refl, sym, ap, subst, ◌∙◌, arith, rules}
use Rattle.std.specs.Prelude.{if◌then◌else◌}
use Rattle.std.proofs.lemmas.List.{length-append}
use Rattle.name_scope.specs.Newest.{newest}
use Rattle.flow_value.specs.declared.ty.Ty.{Ty}
use Rattle.type_table.specs.declared.form.Form.{Form}
use Rattle.sisal_tree.specs.declared.unit.Named.{Named}
use Rattle.sisal_tree.specs.declared.expr.Clause.{Clause}
use Rattle.sisal_tree.specs.declared.expr.Def.{Def, out-Def}
use Rattle.sisal_tree.specs.declared.expr.Target.{Target}
use Rattle.sisal_tree.specs.declared.unit.Written.{Written}
use Rattle.sisal_tree.specs.declared.expr.Expr.{Expr}
use Rattle.sisal_tree.specs.declared.expr.ExprKind.TheVariants as tree
use Rattle.sisal_tree.specs.declared.expr.ExprKind.TheViews as kinds
use Rattle.sisal_tree.specs.declared.expr.Loop.TheVariants as loop
use Rattle.sisal_tree.specs.declared.expr.Turn.{Turn, out-Turn, roll-Turn}
use Rattle.typed_tree.specs.declared.expr.TypedExpr.{TypedExpr}
use Rattle.typed_tree.specs.declared.expr.TypedKind.TheVariants as typed
use Rattle.typed_tree.specs.Scopes as scopes
use Rattle.typed_tree.specs.Scopes.{AreDistinct, targets}
use Rattle.typed_tree.specs.Types.{IsNumber, AreNumbers}
use Rattle.typed_tree.specs.Typing as rule
use Rattle.typed_tree.specs.Typing.{Known, Number, Types, AreTargets, Defines, at, with, names_of, names_in}
use Rattle.type_rules.specs.Applies.{Grows}
use Rattle.type_rules.proofs.Standing.{one_type}
use Rattle.value_names.specs.declared.value.Value.{Value}
use Rattle.value_names.specs.declared.value.Meaning.{Meaning}
use Rattle.value_names.specs.declared.value.Meaning.TheVariants as means
use Rattle.value_names.specs.Names.{Names}
use Rattle.value_names.specs.Scopes.{place_from}
use Rattle.typing_laws.specs.Turns.{AreBelow, IsInTurn, loop_names, later_names, in_turn, renewals}
use Rattle.typing_laws.specs.Given.{Given, Defined, Turned}
use Rattle.typing_laws.specs.Given as given
use Rattle.typing_laws.specs.Judged.{Stands, IsValue, AreMeanings, AreValues, denotes_in, IsTypedAs, Typed, AllOnes}
use Rattle.typing_laws.specs.Defining.{named_targets, targets_in, IsKept, AreKept, AllDefined}
use Rattle.typing_laws.specs.Looping.{AllValues, AllMade, IsStarted, loop_in, AllRenewed, IsTest, TurnTyped, initial_of}
use Rattle.typing_laws.proofs.Later.{agrees_before}
use Rattle.typing_laws.proofs.Unique.{as_many}
use Rattle.typing_laws.proofs.Called.{one_of}
use Rattle.typing_laws.proofs.Crossed.{truth_of, clauses_of}
use Rattle.typing_laws.proofs.Entering.{target_names}

-- ---- loop names

values_append : (k : Known) (ns os : List (ℕ × Value)) (ms ps : List (ℕ × scopes.Meaning)) → AreValues k ns ms → AreValues k os ps → AreValues k (ns ++ os) (ms ++ ps)
values_append k [] os [] ps p q = q
values_append k [] os (m ∷ ms) ps p q = absurd p
values_append k (n ∷ ns) os [] ps p q = absurd p
values_append k (n ∷ ns) os (m ∷ ms) ps p q = (p.0, p.1, values_append k ns os ms ps p.2 q)

pub loop_stands : (k : Known) (xs : List Named) (ns : List ℕ) (ts : List Ty) (level l : ℕ) → level ≡ l → AreNumbers k.forms k.spellings ns ts → AreValues k (loop_names level xs ns) (scopes.loop_names l (names_of xs) ts)
loop_stands k [] ns ts level l e p = tt
loop_stands k (x ∷ xs) [] [] level l e p = tt
loop_stands k (x ∷ xs) [] (t ∷ ts) level l e p = absurd p
loop_stands k (x ∷ xs) (n ∷ ns) [] level l e p = absurd p
loop_stands k (x ∷ xs) (n ∷ ns) (t ∷ ts) level l e p =
    values_append k (loop_names (level + 1) xs ns) ((x.name, record { level = level; ty = n }) ∷ []) (scopes.loop_names (suc l) (names_of xs) ts) ((x.name, scopes.At l t) ∷ [])
    (loop_stands k xs ns ts (level + 1) (suc l) (omega (arith, e)) p.1) (refl, (e, p.0), tt)

below_append : (n : ℕ) (xs ys : List (ℕ × Value)) → AreBelow n xs → AreBelow n ys → AreBelow n (xs ++ ys)
below_append n [] ys p q = q
below_append n (x ∷ xs) ys p q = (p.0, below_append n xs ys p.1 q)

pub loop_below : (top : ℕ) (xs : List Named) (ns : List ℕ) (level : ℕ) → level + length ns ≤ top → AreBelow top (loop_names level xs ns)
loop_below top [] ns level e = tt
loop_below top (x ∷ xs) [] level e = tt
loop_below top (x ∷ xs) (n ∷ ns) level e =
    below_append top (loop_names (level + 1) xs ns) ((x.name, record { level = level; ty = n }) ∷ []) (loop_below top xs ns (level + 1) (omega (arith, e))) (omega (arith, e), tt)

below_top : (first top : ℕ) (olds : List (ℕ × Value)) → first ≤ top → AreBelow first olds → AreBelow top olds
below_top first top [] e p = tt
below_top first top (o ∷ olds) e p = ((let q = p.0 in omega (arith, e, q)), below_top first top olds e p.1)

-- what a name is in a loop, by number and by type
abbrev pub AreSame : Known → Option Value → Option scopes.Meaning → Type 0
AreSame k None None = Unit {0}
AreSame k (Some v) (Some m) = IsValue k v m
AreSame k _ _ = ⊥

same_by : (k : Known) (x : ℕ) (n : ℕ × Value) (ns : List (ℕ × Value)) (m : ℕ × scopes.Meaning) (ms : List (ℕ × scopes.Meaning)) → n.0 ≡ m.0 → IsValue k n.1 m.1 → AreSame k (newest x ns) (newest x ms)
    → (b : Bool) → nat_eq x n.0 ≡ b → AreSame k (newest x (n ∷ ns)) (newest x (m ∷ ms))
same_by k x n ns m ms e p q true t =
    subst (λ c. AreSame k (if c then Some n.1 else newest x ns) (newest x (m ∷ ms))) (sym t)
    (subst (λ c. AreSame k (Some n.1) (if c then Some m.1 else newest x ms)) (sym (ap (nat_eq x) (sym e) ∙ t)) p)
same_by k x n ns m ms e p q false t =
    subst (λ c. AreSame k (if c then Some n.1 else newest x ns) (newest x (m ∷ ms))) (sym t)
    (subst (λ c. AreSame k (newest x ns) (if c then Some m.1 else newest x ms)) (sym (ap (nat_eq x) (sym e) ∙ t)) q)

pub same_in_loop : (k : Known) (x : ℕ) (ns : List (ℕ × Value)) (ms : List (ℕ × scopes.Meaning)) → AreValues k ns ms → AreSame k (newest x ns) (newest x ms)
same_in_loop k x [] [] p = tt
same_in_loop k x [] (m ∷ ms) p = absurd p
same_in_loop k x (n ∷ ns) [] p = absurd p
same_in_loop k x (n ∷ ns) (m ∷ ms) p = same_by k x n ns m ms p.0 p.1 (same_in_loop k x ns ms p.2) (nat_eq x n.0) refl

-- ---- names that a turn defines later

not_yet_none : (ms : List (ℕ × scopes.Meaning)) (x : ℕ) (xs : List ℕ) → newest x ms ≡ None → scopes.not_yet ms (x ∷ xs) ≡ scopes.not_yet ms xs
not_yet_none ms x xs e = rw e refl

not_yet_some : (ms : List (ℕ × scopes.Meaning)) (x : ℕ) (xs : List ℕ) (m : scopes.Meaning) → newest x ms ≡ Some m → scopes.not_yet ms (x ∷ xs) ≡ (x, scopes.Later) ∷ scopes.not_yet ms xs
not_yet_some ms x xs m e = rw e refl

renewals_none : (ms : List (ℕ × scopes.Meaning)) (first x : ℕ) (xs : List ℕ) → newest x ms ≡ None → scopes.renewals ms first (x ∷ xs) ≡ None ∷ scopes.renewals ms first xs
renewals_none ms first x xs e = rw e refl

renewals_some : (ms : List (ℕ × scopes.Meaning)) (first x level : ℕ) (t : Ty) (xs : List ℕ) → newest x ms ≡ Some (scopes.At level t) → scopes.renewals ms first (x ∷ xs) ≡ Some (level - first) ∷ scopes.renewals ms first xs
renewals_some ms first x level t xs e = rw e refl

later_none : (ns : List (ℕ × Value)) (x : Named) (xs : List Named) → newest x.name ns ≡ None → later_names ns (x ∷ xs) ≡ later_names ns xs
later_none ns x xs e = rw e refl

later_some : (ns : List (ℕ × Value)) (x : Named) (xs : List Named) (v : Value) → newest x.name ns ≡ Some v → later_names ns (x ∷ xs) ≡ (x.name, means.Later) ∷ later_names ns xs
later_some ns x xs v e = rw e refl

module _ (k : Known) (ns : List (ℕ × Value)) (ms : List (ℕ × scopes.Meaning)) (loop : AreValues k ns ms) where
  later_by : (x : Named) (xs : List Named) (o : Option Value) (p : Option scopes.Meaning) → newest x.name ns ≡ o → newest x.name ms ≡ p → AreSame k o p
      → AreMeanings k (later_names ns xs) (scopes.not_yet ms (names_of xs)) → AreMeanings k (later_names ns (x ∷ xs)) (scopes.not_yet ms (x.name ∷ names_of xs))
  later_by x xs None None e f same rest =
      subst (λ l. AreMeanings k l (scopes.not_yet ms (x.name ∷ names_of xs))) (sym (later_none ns x xs e))
      (subst (λ l. AreMeanings k (later_names ns xs) l) (sym (not_yet_none ms x.name (names_of xs) f)) rest)
  later_by x xs (Some v) (Some m) e f same rest =
      subst (λ l. AreMeanings k l (scopes.not_yet ms (x.name ∷ names_of xs))) (sym (later_some ns x xs v e))
      (subst (λ l. AreMeanings k ((x.name, means.Later) ∷ later_names ns xs) l) (sym (not_yet_some ms x.name (names_of xs) m f)) (refl, tt, rest))
  later_by x xs None (Some m) e f same rest = absurd same
  later_by x xs (Some v) None e f same rest = absurd same

  later_stand : (xs : List Named) → AreMeanings k (later_names ns xs) (scopes.not_yet ms (names_of xs))
  later_stand [] = tt
  later_stand (x ∷ xs) = later_by x xs (newest x.name ns) (newest x.name ms) refl refl (same_in_loop k x.name ns ms loop) (later_stand xs)

  renewed_by : (first : ℕ) (x : Named) (xs : List Named) (o : Option Value) (p : Option scopes.Meaning) → newest x.name ns ≡ o → newest x.name ms ≡ p → AreSame k o p
      → renewals first ns xs ≡ scopes.renewals ms first (names_of xs) → renewals first ns (x ∷ xs) ≡ scopes.renewals ms first (x.name ∷ names_of xs)
  renewed_by first x xs None None e f same rest = ap (λ o. place_from first o ∷ renewals first ns xs) e ∙ ap (λ l. None ∷ l) rest ∙ sym (renewals_none ms first x.name (names_of xs) f)
  renewed_by first x xs (Some v) (Some (scopes.At level t)) e f same rest =
      ap (λ o. place_from first o ∷ renewals first ns xs) e ∙ ap (λ l. Some (v.level - first) ∷ l) rest ∙ ap (λ n. Some (n - first) ∷ scopes.renewals ms first (names_of xs)) same.0
      ∙ sym (renewals_some ms first x.name level t (names_of xs) f)
  renewed_by first x xs (Some v) (Some scopes.Later) e f same rest = absurd same
  renewed_by first x xs None (Some m) e f same rest = absurd same
  renewed_by first x xs (Some v) None e f same rest = absurd same

  renewed_are : (first : ℕ) (xs : List Named) → renewals first ns xs ≡ scopes.renewals ms first (names_of xs)
  renewed_are first [] = refl
  renewed_are first (x ∷ xs) = renewed_by first x xs (newest x.name ns) (newest x.name ms) refl refl (same_in_loop k x.name ns ms loop) (renewed_are first xs)

  keeps_by : (n : ℕ) (t : Ty) (o : Option Value) (p : Option scopes.Meaning) → AreSame k o p → IsKept n o → IsNumber k.forms k.spellings n t → scopes.KeepsType t p
  keeps_by n t None None same kept number = tt
  keeps_by n t (Some v) (Some (scopes.At level u)) same kept number = one_type k.forms k.spellings v.ty t u (subst (λ i. IsNumber k.forms k.spellings i t) kept number) same.1
  keeps_by n t (Some v) (Some scopes.Later) same kept number = absurd same
  keeps_by n t None (Some m) same kept number = absurd same
  keeps_by n t (Some v) None same kept number = absurd same

  keeps_types : (xs os : List ℕ) (ts : List Ty) → AreKept ns xs os → AreNumbers k.forms k.spellings os ts → scopes.KeepTypes ms xs ts
  keeps_types [] os ts p q = tt
  keeps_types (x ∷ xs) [] [] p q = tt
  keeps_types (x ∷ xs) [] (t ∷ ts) p q = absurd q
  keeps_types (x ∷ xs) (o ∷ os) [] p q = absurd q
  keeps_types (x ∷ xs) (o ∷ os) (t ∷ ts) p q = (keeps_by o t (newest x ns) (newest x ms) (same_in_loop k x ns ms loop) p.0 q.0, keeps_types xs os ts p.1 q.1)

meanings_append : (k : Known) (ns os : List (ℕ × Meaning)) (ms ps : List (ℕ × scopes.Meaning)) → AreMeanings k ns ms → AreMeanings k os ps → AreMeanings k (ns ++ os) (ms ++ ps)
meanings_append k [] os [] ps p q = q
meanings_append k [] os (m ∷ ms) ps p q = absurd p
meanings_append k (n ∷ ns) os [] ps p q = absurd p
meanings_append k (n ∷ ns) os (m ∷ ms) ps p q = (p.0, p.1, meanings_append k ns os ms ps p.2 q)

pub turn_stands : (k : Known) (ns : List (ℕ × Value)) (ms : List (ℕ × scopes.Meaning)) (xs : List Named) (names : Names) (s : scopes.Scope) → AreValues k ns ms → AreBelow names.height ns → Stands k names s
    → Stands k (in_turn ns xs names) (scopes.in_turn ms (names_of xs) s)
turn_stands k ns ms xs names s loop below st = record {
  names = meanings_append k (later_names ns xs) names.names (scopes.not_yet ms (names_of xs)) s.names (later_stand k ns ms loop xs) st.names;
  olds = values_append k ns names.olds ms s.olds loop st.olds;
  height = st.height;
  below = below_append names.height ns names.olds below st.below;
}

-- ---- the definitions of a turn

names_append : (xs ys : List Named) → names_of (xs ++ ys) ≡ names_of xs ++ names_of ys
names_append [] ys = refl
names_append (x ∷ xs) ys = ap (λ l. x.name ∷ l) (names_append xs ys)

pub names_in_order : (ds : List Def) → names_of (targets_in ds) ≡ targets ds
names_in_order [] = refl
names_in_order (d ∷ ds) = names_append (named_targets (out-Def d).targets) (targets_in ds) ∙ ap (λ l. l ++ names_of (targets_in ds)) (target_names (out-Def d).targets) ∙ ap (λ l. names_in (out-Def d).targets ++ l) (names_in_order ds)

pub renewed_typed : (g : Given) (f : List Form) (names inside after : Names) (first : ℕ) (started : Defined) (ds : List Def) (us : List (List TypedExpr)) (ns : List ℕ) (renewed : List (Option ℕ))
    → (AreBelow first names.olds → inside ≡ in_turn (loop_names first started.targets started.types) (targets_in ds) names)
    → (AreBelow first names.olds → renewed ≡ renewals first (loop_names first started.targets started.types) (targets_in ds))
    → AllDefined g f inside after (Some first) ds us ns → AreDistinct (targets ds) → AllRenewed g f names first started ds renewed us
renewed_typed g f names inside after first started ds us ns renewed begun places defined distinct = record {
  distinct = distinct;
  holds = λ begins k s tys agrees stands number.
      let loop : List (ℕ × Value) = loop_names first started.targets started.types in
      let types : List (ℕ × scopes.Meaning) = loop_in first started tys in
      let values : AreValues k loop types = loop_stands k started.targets started.types tys first first refl number.each in
      let top : first + length started.types ≤ names.height = (let h = begins.height in omega (arith, h)) in
      let turned : Stands k (in_turn loop (targets_in ds) names) (scopes.in_turn types (names_of (targets_in ds)) s) =
      turn_stands k loop types (targets_in ds) names s values (loop_below names.height started.targets started.types first top) stands in
      let here : Stands k inside (scopes.in_turn types (targets ds) s) =
      subst (λ n. Stands k n (scopes.in_turn types (targets ds) s)) (sym (begun begins.below))
      (subst (λ l. Stands k (in_turn loop (targets_in ds) names) (scopes.in_turn types l s)) (names_in_order ds) turned) in
      let d = defined.holds k (scopes.in_turn types (targets ds) s) agrees here in
      let is_turn : IsInTurn first loop inside =
      subst (λ n. IsInTurn first loop n) (sym (begun begins.below)) (record { names = started.targets; types = started.types; outer = names.olds; is_loop = refl; olds = refl; below = begins.below }) in
      record {
        later = d.made;
        inside = d.inside;
        defines = d.defines;
        keeps = keeps_types k loop types values (targets ds) ns d.made (defined.kept.holds first loop refl is_turn) d.number.each;
        renewals = places begins.below ∙ renewed_are k loop types values first (targets_in ds) ∙ ap (scopes.renewals types first) (names_in_order ds);
      };
}

pub renewed_later : (g : Given) (f0 f1 : List Form) (names : Names) (first : ℕ) (started : Defined) (ds : List Def) (renewed : List (Option ℕ)) (us : List (List TypedExpr)) → Grows f0 f1
    → AllRenewed g f0 names first started ds renewed us → AllRenewed g f1 names first started ds renewed us
renewed_later g f0 f1 names first started ds renewed us grows p = record {
  distinct = p.distinct;
  holds = λ begins k s tys agrees stands number. p.holds begins k s tys (agrees_before g f0 f1 k grows agrees) stands number;
}

-- ---- tests

pub test_typed : (g : Given) (f : List Form) (names : Names) (e : Expr) (ts : List TypedExpr) (ns : List ℕ) → AllOnes g f names (e ∷ []) ts ns → ns ≡ 0 ∷ [] → IsTest g f names e ts
test_typed g f names e ts ns p truth = record {
  holds = λ k s agrees stands.
      let x = p.holds k s agrees stands in
      let one = one_of k (denotes_in g k) s e ts x.tys x.typed in
      record {
        test = one.0;
        is = one.2;
        typed = subst (λ l. Types k (denotes_in g k) s e one.0 l) (sym one.3 ∙ truth_of k agrees.table ns x.tys x.number truth) one.4;
      };
}

pub test_later : (g : Given) (f0 f1 : List Form) (names : Names) (e : Expr) (ts : List TypedExpr) → Grows f0 f1 → IsTest g f0 names e ts → IsTest g f1 names e ts
test_later g f0 f1 names e ts grows p = record { holds = λ k s agrees stands. p.holds k s (agrees_before g f0 f1 k grows agrees) stands }

pub turn_later : (g : Given) (f0 f1 : List Form) (names : Names) (first : ℕ) (started : Defined) (turn : Turn) (t : Turned) → Grows f0 f1 → TurnTyped g f0 names first started turn t → TurnTyped g f1 names first started turn t
turn_later g f0 f1 names first started turn t grows p = record {
  is_first = p.is_first;
  is_until = p.is_until;
  test = test_later g f0 f1 names (out-Turn turn).test t.test grows p.test;
  renewed = renewed_later g f0 f1 names first started (out-Turn turn).defs t.renewed t.exprs grows p.renewed;
}

-- ---- the whole loop

define_height : (xs : List ℕ) (ts : List Ty) (s : scopes.Scope) → length xs ≡ length ts → (scopes.define_all xs ts s).height ≡ s.height + length ts
define_height [] [] s e = omega arith
define_height [] (t ∷ ts) s e = absurd cc
define_height (x ∷ xs) [] s e = absurd cc
define_height (x ∷ xs) (t ∷ ts) s e = (let h = define_height xs ts (scopes.define x t s) (omega (arith, e)) in omega (arith, h))

targets_many : (denotes : Written → Ty → Type 0) (xs : List Target) (ts : List Ty) → AreTargets denotes xs ts → length (names_in xs) ≡ length ts
targets_many denotes [] [] p = refl
targets_many denotes [] (t ∷ ts) p = absurd p
targets_many denotes (x ∷ xs) [] p = absurd p
targets_many denotes (x ∷ xs) (t ∷ ts) p = ap suc (targets_many denotes xs ts p.1)

pub defines_height : (k : Known) (denotes : Written → Ty → Type 0) (s : scopes.Scope) (ds : List Def) (us : List (List TypedExpr)) (tys : List Ty) (after : scopes.Scope) → Defines k denotes s ds us tys after
    → after.height ≡ s.height + length tys
defines_height k denotes s _ _ _ _ rule.no_def = omega arith
defines_height k denotes s _ _ _ after (rule.a_def xs {tys = tys} {others = others} {ds = ds} {us = us} p t r) =
    let here = define_height (names_in xs) tys s (targets_many denotes xs tys t) in
    let rest = defines_height k denotes (scopes.define_all (names_in xs) tys s) ds us others after r in
    let both : length (tys ++ others) ≡ length tys + length others = length-append tys others in
    omega (arith, here, rest, both)

rolled : (turn : Turn) → roll-Turn (record { is_first = (out-Turn turn).is_first; is_until = (out-Turn turn).is_until; test = (out-Turn turn).test; defs = (out-Turn turn).defs }) ≡ turn
rolled turn = search (rules, kinds.the_lemmas)

pub many_names : (xs : List Named) → length (names_of xs) ≡ length xs
many_names [] = refl
many_names (x ∷ xs) = ap suc (many_names xs)

pub initial_typed : (g : Given) (f0 f1 : List Form) (names after : Names) (line : ℕ) (ds : List Def) (started : Defined) (turn : Turn) (turned : Turned) (cs : List Clause) (ts : List TypedExpr) (ms : List ℕ)
    (folds : given.Folds) (t : TypedExpr) → Grows f0 f1 → AllDefined g f0 names after None ds started.exprs started.types → AreDistinct (targets ds) → started.targets ≡ targets_in ds
    → TurnTyped g f0 after names.height started turn turned → AllValues g f0 after cs ts ms → AllMade f1 cs true ms folds → t ≡ initial_of line started turned ts folds
    → Typed g f1 names (at line (tree.For (loop.Initial ds turn cs))) t
initial_typed g f0 f1 names after line ds started turn turned cs ts ms folds t grows defined distinct same_targets turns values folded is = record {
  holds = λ k s agrees stands.
      let before = agrees_before g f0 f1 k grows agrees in
      let d = defined.holds k s before stands in
      let same_names : names_of started.targets ≡ targets ds = ap names_of same_targets ∙ names_in_order ds in
      let begins : IsStarted names.height started after = record {
        below = subst (λ l. AreBelow names.height l) (sym defined.above.olds) stands.below;
        height = (let h = defines_height k (denotes_in g k) s ds started.exprs d.made d.inside d.defines in
            let many = as_many k.forms k.spellings started.types d.made d.number.each in
            let a = d.stands.height in let b = stands.height in omega (arith, h, many, a, b));
        count = defined.count ∙ ap length (sym same_names) ∙ many_names started.targets;
      } in
      let r = turns.renewed.holds begins k d.inside d.made before d.stands d.number in
      let test = turns.test.holds k d.inside before d.stands in
      let v = values.holds k d.inside before d.stands in
      let w = folded.holds k agrees.grows agrees.table v.tys v.number in
      let loop_types : List (ℕ × scopes.Meaning) = rule.loop_of s ds d.made in
      let same_loop : loop_in names.height started d.made ≡ loop_types = ap (λ n. scopes.loop_names n (names_of started.targets) d.made) stands.height ∙ ap (λ l. scopes.loop_names s.height l d.made) same_names in
      let es : List Def = (out-Turn turn).defs in
      let defines : Defines k (denotes_in g k) (scopes.in_turn loop_types (targets es) d.inside) es turned.exprs r.later r.inside =
      subst (λ l. Defines k (denotes_in g k) (scopes.in_turn l (targets es) d.inside) es turned.exprs r.later r.inside) same_loop r.defines in
      let keeps : scopes.KeepTypes loop_types (targets es) r.later = subst (λ l. scopes.KeepTypes l (targets es) r.later) same_loop r.keeps in
      let renewed : turned.renewed ≡ scopes.renewals loop_types s.height (targets es) =
      r.renewals ∙ ap (λ l. scopes.renewals l names.height (targets es)) same_loop ∙ ap (λ n. scopes.renewals loop_types n (targets es)) stands.height in
      let whole = rule.for_initial {l = line} (out-Turn turn).is_first (out-Turn turn).is_until d.defines distinct test.typed defines turns.renewed.distinct keeps
      (clauses_of k (denotes_in g k) d.inside cs ts v.tys folds.forms w.made v.typed w.each) w.number in
      subst (λ u. IsTypedAs k g s (at line (tree.For (loop.Initial ds turn cs))) u) (sym (is
      ∙ ap (λ b. with line folds.types (typed.Initial (record { is_first = b; is_until = turned.is_until; renewed = turned.renewed; clauses = folds.forms }) started.exprs turned.test turned.exprs ts)) turns.is_first
      ∙ ap (λ b. with line folds.types (typed.Initial (record { is_first = (out-Turn turn).is_first; is_until = b; renewed = turned.renewed; clauses = folds.forms }) started.exprs turned.test turned.exprs ts)) turns.is_until
      ∙ ap (λ l. with line folds.types (typed.Initial (record { is_first = (out-Turn turn).is_first; is_until = (out-Turn turn).is_until; renewed = l; clauses = folds.forms }) started.exprs turned.test turned.exprs ts)) renewed
      ∙ ap (λ l. with line folds.types (typed.Initial (record { is_first = (out-Turn turn).is_first; is_until = (out-Turn turn).is_until; renewed = scopes.renewals loop_types s.height (targets es); clauses = folds.forms }) started.exprs l turned.exprs ts)) test.is))
      (record {
        tys = w.made;
        number = w.number;
        typed = subst (λ u. Types k (denotes_in g k) s (at line (tree.For (loop.Initial ds u cs)))
            (with line folds.types (typed.Initial (record { is_first = (out-Turn turn).is_first; is_until = (out-Turn turn).is_until; renewed = scopes.renewals loop_types s.height (targets es); clauses = folds.forms })
            started.exprs (test.test ∷ []) turned.exprs ts)) w.made) (rolled turn) whole;
      });
}
