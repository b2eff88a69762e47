-- The clauses of loops, and loops over groups of generators.
use Rattle.std.proofs.Common.{◌≡◌, ◌⊎◌, inl, inr, ℕ, suc, zero, ◌≤◌, Bool, true, false, List, [], ◌∷◌, ◌++◌, length, take, Some, None, refl, sym, ap, subst, ◌∙◌, arith, rules}
use Rattle.std.proofs.lemmas.List.{append_assoc}
use Rattle.flow_value.specs.declared.ty.Ty.{Ty}
use Rattle.flow_value.specs.declared.ty.Ty.TheVariants as ty
use Rattle.type_table.specs.declared.form.Form.{Form}
use Rattle.type_table.specs.Tables.{IsTable}
use Rattle.sisal_tree.specs.declared.unit.Written.{Written}
use Rattle.sisal_tree.specs.declared.expr.Clause.{Clause, out-Clause, roll-Clause}
use Rattle.sisal_tree.specs.declared.expr.Def.{Def}
use Rattle.sisal_tree.specs.declared.expr.ExprKind.TheVariants as tree
use Rattle.sisal_tree.specs.declared.expr.ExprKind.TheViews as kinds
use Rattle.sisal_tree.specs.declared.expr.Generator.{Generator}
use Rattle.sisal_tree.specs.declared.expr.Loop.TheVariants as loop
use Rattle.sisal_tree.specs.declared.expr.Mask.{Mask}
use Rattle.typed_tree.specs.declared.expr.ClauseForm.{ClauseForm}
use Rattle.typed_tree.specs.declared.expr.TypedExpr.{TypedExpr}
use Rattle.typed_tree.specs.declared.expr.TypedKind.TheVariants as typed
use Rattle.typed_tree.specs.Scopes as scopes
use Rattle.typed_tree.specs.Scopes.{AreDistinct, targets}
use Rattle.typed_tree.specs.Types.{IsNumber, AreNumbers}
use Rattle.typed_tree.specs.Operations.{clause_form}
use Rattle.typed_tree.specs.Typing as rule
use Rattle.typed_tree.specs.Typing.{Known, Number, Types, Folds, AreClauses, IsMask, Crosses, at, with, names_of}
use Rattle.type_rules.specs.Applies.{Grows}
use Rattle.type_rules.proofs.Standing.{one_type}
use Rattle.type_rules.proofs.Grown.{boolean_is}
use Rattle.value_names.specs.Names.{Names}
use Rattle.value_names.specs.Scopes.{define_all}
use Rattle.typing_laws.specs.Given.{Given, Parts, Group}
use Rattle.typing_laws.specs.Given as given
use Rattle.typing_laws.specs.Judged.{denotes_in, Typed, AreOnes, no_one, a_one, AllOnes}
use Rattle.typing_laws.specs.Defining.{AllDefined}
use Rattle.typing_laws.specs.Looping.{AreValuesOf, no_value, a_value, AllValues, mask_if, mask_of, AreMade, AreMadeAs, AllMade, FoldAdded, GroupTyped, IsCrossedAs, IsCrossed}
use Rattle.typing_laws.specs.Looping as made
use Rattle.typing_laws.proofs.Later.{agrees_before, grows_on}
use Rattle.typing_laws.proofs.Unique.{number_append, no_numbers, a_number, as_many}
use Rattle.typing_laws.proofs.Entering.{stands_with_all}
use Rattle.typing_laws.proofs.Rules.{made_typed}

-- ---- values of clauses

pub no_values : (g : Given) (f : List Form) (names : Names) → AllValues g f names [] [] []
no_values g f names = record { holds = λ k s agrees stands. record { tys = []; number = no_numbers k; typed = no_value } }

module _ (k : Known) (denotes : Written → Ty → Type 0) (s : scopes.Scope) where
  values_append : (cs ds : List Clause) (ts us : List TypedExpr) (xs ys : List Ty) → AreValuesOf k denotes s cs ts xs → AreValuesOf k denotes s ds us ys → AreValuesOf k denotes s (cs ++ ds) (ts ++ us) (xs ++ ys)
  values_append _ ds _ us _ ys no_value q = q
  values_append _ ds _ us _ ys (a_value c {a = a} {t = t} {masks = masks} {cs = cs} {ts = ts} {tys = tys} p m r) q =
      subst (λ l. AreValuesOf k denotes s (c ∷ (cs ++ ds)) (t ∷ l) (a ∷ (tys ++ ys))) (sym (append_assoc masks ts us)) (a_value c p m (values_append cs ds ts us tys ys r q))

  value_alone : (c : Clause) (ts : List TypedExpr) (tys : List Ty) → (out-Clause c).mask ≡ None → AreOnes k denotes s ((out-Clause c).value ∷ []) ts tys → AreValuesOf k denotes s (c ∷ []) ts tys
  value_alone c _ _ none (a_one p no_one) = a_value c p (subst (λ m. IsMask k denotes s m []) (sym none) rule.no_mask) no_value

  value_masked : (c : Clause) (m : Mask) (ts us : List TypedExpr) (tys others : List Ty) → (out-Clause c).mask ≡ Some m → AreOnes k denotes s ((out-Clause c).value ∷ []) ts tys
      → AreOnes k denotes s (m.test ∷ []) us others → others ≡ ty.Bool ∷ [] → AreValuesOf k denotes s (c ∷ []) (ts ++ us) tys
  value_masked c m _ _ _ _ some (a_one {t = t} p no_one) (a_one {t = u} {a = b} q no_one) truth =
      let bool : b ≡ ty.Bool = cc in
      a_value c p (subst (λ o. IsMask k denotes s o (u ∷ [])) (sym some) (rule.a_mask (subst (λ x. Types k denotes s m.test u (x ∷ [])) bool q))) no_value

pub values_later : (g : Given) (f0 f1 : List Form) (names : Names) (cs : List Clause) (ts : List TypedExpr) (ns : List ℕ) → Grows f0 f1 → AllValues g f0 names cs ts ns → AllValues g f1 names cs ts ns
values_later g f0 f1 names cs ts ns grows p = record { holds = λ k s agrees stands. p.holds k s (agrees_before g f0 f1 k grows agrees) stands }

pub all_values_append : (g : Given) (f : List Form) (names : Names) (cs ds : List Clause) (ts us : List TypedExpr) (ns ms : List ℕ) → AllValues g f names cs ts ns → AllValues g f names ds us ms
    → AllValues g f names (cs ++ ds) (ts ++ us) (ns ++ ms)
all_values_append g f names cs ds ts us ns ms p q = record {
  holds = λ k s agrees stands. let x = p.holds k s agrees stands in let y = q.holds k s agrees stands in record {
    tys = x.tys ++ y.tys;
    number = number_append k ns ms x.tys y.tys x.number y.number;
    typed = values_append k (denotes_in g k) s cs ds ts us x.tys y.tys x.typed y.typed;
  };
}

pub a_clause_value : (g : Given) (f : List Form) (names : Names) (c : Clause) (ts : List TypedExpr) (ns : List ℕ) → (out-Clause c).mask ≡ None → AllOnes g f names ((out-Clause c).value ∷ []) ts ns
    → AllValues g f names (c ∷ []) ts ns
a_clause_value g f names c ts ns none p = record {
  holds = λ k s agrees stands. let x = p.holds k s agrees stands in record { tys = x.tys; number = x.number; typed = value_alone k (denotes_in g k) s c ts x.tys none x.typed };
}

pub truth_of : (k : Known) → IsTable k.forms → (ns : List ℕ) (tys : List Ty) → Number k ns tys → ns ≡ 0 ∷ [] → tys ≡ ty.Bool ∷ []
truth_of k table ns tys p e = only tys (subst (λ l. AreNumbers k.forms k.spellings l tys) e p.each)
  where
    only : (tys : List Ty) → AreNumbers k.forms k.spellings (0 ∷ []) tys → tys ≡ ty.Bool ∷ []
    only [] p = absurd p
    only (t ∷ []) p = ap (λ u. u ∷ []) (one_type k.forms k.spellings 0 t ty.Bool p.0 (boolean_is k.forms k.spellings table))
    only (t ∷ u ∷ ts) p = absurd p.1

pub a_masked_value : (g : Given) (f0 f1 : List Form) (names : Names) (c : Clause) (m : Mask) (ts us : List TypedExpr) (ns ms : List ℕ) → Grows f0 f1 → (out-Clause c).mask ≡ Some m
    → AllOnes g f0 names ((out-Clause c).value ∷ []) ts ns → AllOnes g f1 names (m.test ∷ []) us ms → ms ≡ 0 ∷ [] → AllValues g f1 names (c ∷ []) (ts ++ us) ns
a_masked_value g f0 f1 names c m ts us ns ms grows some p q truth = record {
  holds = λ k s agrees stands.
      let x = p.holds k s (agrees_before g f0 f1 k grows agrees) stands in
      let y = q.holds k s agrees stands in
      record { tys = x.tys; number = x.number; typed = value_masked k (denotes_in g k) s c m ts us x.tys y.tys some x.typed y.typed (truth_of k agrees.table ms y.tys y.number truth) };
}

-- ---- what clauses make

pub none_made : (f : List Form) (is_masked : Bool) (m : given.Folds) → m ≡ record { forms = []; types = [] } → AllMade f [] is_masked [] m
none_made f is_masked m e = subst (λ m. AllMade f [] is_masked [] m) (sym e) (record { holds = λ k grows table tys p. record { made = []; number = no_numbers k; each = made.no_clause tys } })

-- what one clause more makes
made_append : (is_masked : Bool) (cs : List Clause) (c : Clause) (tys : List Ty) (a b : Ty) (forms : List ClauseForm) (form : ClauseForm) (made_before : List Ty) → length cs ≡ length tys
    → AreMade is_masked cs tys forms made_before → AreMade is_masked (c ∷ []) (a ∷ []) (form ∷ []) (b ∷ []) → AreMade is_masked (cs ++ (c ∷ [])) (tys ++ (a ∷ [])) (forms ++ (form ∷ [])) (made_before ++ (b ∷ []))
made_append is_masked _ c [] a b _ form _ e (made.no_clause _) q = q
made_append is_masked _ c (t ∷ tys) a b _ form _ e (made.no_clause _) q = absurd cc
made_append is_masked [] c _ a b _ form _ e (made.no_value _) q = q
made_append is_masked (d ∷ cs) c _ a b _ form _ e (made.no_value _) q = absurd cc
made_append is_masked _ c _ a b _ form _ e (made.a_clause d {cs = cs} {tys = tys} {made = made_before} {forms = forms} p shallow r) q =
    made.a_clause d p shallow (made_append is_masked cs c tys a b forms form made_before (omega (arith, e)) r q)

numbers_more : (k : Known) (ns : List ℕ) (n : ℕ) (tys : List Ty) → Number k (ns ++ (n ∷ [])) tys → (ts : List Ty) × (t : Ty) × (tys ≡ ts ++ (t ∷ [])) × Number k ns ts × IsNumber k.forms k.spellings n t
numbers_more k [] n [] p = absurd p.each
numbers_more k [] n (t ∷ []) p = ([], t, refl, no_numbers k, p.each.0)
numbers_more k [] n (t ∷ u ∷ ts) p = absurd p.each.1
numbers_more k (m ∷ ns) n [] p = absurd p.each
numbers_more k (m ∷ ns) n (t ∷ tys) p =
    let r = numbers_more k ns n tys (record { each = p.each.1 }) in
    (t ∷ r.0, r.1, ap (λ l. t ∷ l) r.2, record { each = (p.each.0, r.3.each) }, r.4)

pub one_more_made : (f0 f1 : List Form) (is_masked : Bool) (cs : List Clause) (c : Clause) (ns : List ℕ) (n : ℕ) (old new : given.Folds) → Grows f0 f1 → length cs ≡ length ns
    → AllMade f0 cs is_masked ns old → FoldAdded f0 f1 c is_masked n old new → AllMade f1 (cs ++ (c ∷ [])) is_masked (ns ++ (n ∷ [])) new
one_more_made f0 f1 is_masked cs c ns n old new grows many p q = record {
  holds = λ k after table tys number.
      let r = numbers_more k ns n tys number in
      let before = p.holds k (grows_on f0 f1 k.forms grows after) table r.0 r.3 in
      let last = made_typed k f0 f1 table grows after (out-Clause c).kind (mask_if is_masked (out-Clause c).mask) n r.1 r.4 q.made q.is_made in
      let size : length cs ≡ length r.0 = many ∙ as_many k.forms k.spellings ns r.0 r.3.each in
      record {
        made = before.made ++ (last.type ∷ []);
        number = subst (λ l. Number k l (before.made ++ (last.type ∷ []))) (sym q.types) (number_append k old.types (q.made.ty ∷ []) before.made (last.type ∷ []) before.number (a_number k q.made.ty last.type last.number));
        each = subst (λ l. AreMade is_masked (cs ++ (c ∷ [])) l new.forms (before.made ++ (last.type ∷ []))) (sym r.2)
            (subst (λ l. AreMade is_masked (cs ++ (c ∷ [])) (r.0 ++ (r.1 ∷ [])) l (before.made ++ (last.type ∷ []))) (sym q.forms)
            (made_append is_masked cs c r.0 r.1 last.type old.forms q.made.form before.made size before.each
            (subst (λ x. AreMade is_masked (c ∷ []) (r.1 ∷ []) (x ∷ []) (last.type ∷ [])) (sym last.form) (made.a_clause c last.makes last.shallow (made.no_clause [])))));
      };
}

-- the others of two lists of which one ends make nothing
taken : (k : Known) (i : ℕ) (ns : List ℕ) (tys : List Ty) → AreNumbers k.forms k.spellings ns tys → AreNumbers k.forms k.spellings (take i ns) (take i tys)
taken k zero ns tys p = tt
taken k (suc i) [] [] p = tt
taken k (suc i) [] (t ∷ tys) p = absurd p
taken k (suc i) (n ∷ ns) [] p = absurd p
taken k (suc i) (n ∷ ns) (t ∷ tys) p = (p.0, taken k i ns tys p.1)

made_whole : (is_masked : Bool) (i : ℕ) (cs : List Clause) (tys : List Ty) (forms : List ClauseForm) (made_types : List Ty) → (length cs ≤ i) ⊎ (length tys ≤ i)
    → AreMade is_masked (take i cs) (take i tys) forms made_types → AreMade is_masked cs tys forms made_types
made_whole is_masked zero [] tys _ _ e (made.no_clause _) = made.no_clause tys
made_whole is_masked zero (c ∷ cs) [] _ _ e (made.no_clause _) = made.no_value (c ∷ cs)
made_whole is_masked zero (c ∷ cs) (t ∷ tys) _ _ e (made.no_clause _) = absurd (elim e [ inl h ↦ omega (arith, h) | inr h ↦ omega (arith, h) ])
made_whole is_masked zero [] tys _ _ e (made.no_value _) = made.no_clause tys
made_whole is_masked zero (c ∷ cs) [] _ _ e (made.no_value _) = made.no_value (c ∷ cs)
made_whole is_masked zero (c ∷ cs) (t ∷ tys) _ _ e (made.no_value _) = absurd (elim e [ inl h ↦ omega (arith, h) | inr h ↦ omega (arith, h) ])
made_whole is_masked (suc i) [] [] _ _ e (made.no_clause _) = made.no_clause []
made_whole is_masked (suc i) [] [] _ _ e (made.no_value _) = made.no_clause []
made_whole is_masked (suc i) [] (t ∷ tys) _ _ e (made.no_clause _) = made.no_clause (t ∷ tys)
made_whole is_masked (suc i) (c ∷ cs) [] _ _ e (made.no_value _) = made.no_value (c ∷ cs)
made_whole is_masked (suc i) (c ∷ cs) (t ∷ tys) _ _ e (made.a_clause _ {made = made_types} {forms = forms} p shallow r) =
    made.a_clause c p shallow (made_whole is_masked i cs tys forms made_types (elim e [ inl h ↦ inl (omega (arith, h)) | inr h ↦ inr (omega (arith, h)) ]) r)

pub all_made : (f : List Form) (is_masked : Bool) (i : ℕ) (cs : List Clause) (ns : List ℕ) (m : given.Folds) → (length cs ≤ i) ⊎ (length ns ≤ i) → AllMade f (take i cs) is_masked (take i ns) m
    → AllMade f cs is_masked ns m
all_made f is_masked i cs ns m e p = record {
  holds = λ k grows table tys number.
      let r = p.holds k grows table (take i tys) (record { each = taken k i ns tys number.each }) in
      let many : length ns ≡ length tys = as_many k.forms k.spellings ns tys number.each in
      record {
        made = r.made;
        number = r.number;
        each = made_whole is_masked i cs tys m.forms r.made (elim e [ inl h ↦ inl h | inr h ↦ inr (omega (arith, h, many)) ]) r.each;
      };
}

-- ---- clauses with their values

rolled : (c : Clause) → roll-Clause (record { line = (out-Clause c).line; kind = (out-Clause c).kind; value = (out-Clause c).value; mask = (out-Clause c).mask }) ≡ c
rolled c = search (rules, kinds.the_lemmas)

module _ (k : Known) (denotes : Written → Ty → Type 0) (s : scopes.Scope) where
  pub clauses_of : (cs : List Clause) (ts : List TypedExpr) (tys : List Ty) (forms : List ClauseForm) (made_types : List Ty) → AreValuesOf k denotes s cs ts tys → AreMade true cs tys forms made_types
      → AreClauses k denotes s cs forms ts made_types
  clauses_of _ _ _ _ _ no_value (made.no_clause _) = rule.no_clause
  clauses_of _ _ _ _ _ no_value (made.no_value _) = rule.no_clause
  clauses_of _ _ _ _ _ (a_value c {t = t} {masks = masks} {cs = cs} {ts = ts} {tys = tys} p m r) (made.a_clause _ {a = a} {b = b} {made = made_types} {forms = forms} makes shallow q) =
      subst (λ d. AreClauses k denotes s (d ∷ cs) (clause_form_of c a ∷ forms) (t ∷ (masks ++ ts)) (b ∷ made_types)) (rolled c)
      (rule.a_clause (out-Clause c).line p makes shallow m (clauses_of cs ts tys forms made_types r q))
    where
      clause_form_of : Clause → Ty → ClauseForm
      clause_form_of c a = clause_form (out-Clause c).kind a (out-Clause c).mask

folds_of : (cs : List Clause) (tys : List Ty) (forms : List ClauseForm) (made_types : List Ty) → length cs ≡ length tys → AreMade false cs tys forms made_types → Folds cs tys forms made_types
folds_of _ [] _ _ e (made.no_clause _) = rule.no_clause
folds_of _ (t ∷ tys) _ _ e (made.no_clause _) = absurd cc
folds_of [] _ _ _ e (made.no_value _) = rule.no_clause
folds_of (c ∷ cs) _ _ _ e (made.no_value _) = absurd cc
folds_of _ _ _ _ e (made.a_clause c {a = a} {b = b} {cs = cs} {tys = tys} {made = made_types} {forms = forms} makes shallow q) =
    subst (λ d. Folds (d ∷ cs) (a ∷ tys) (clause_form (out-Clause c).kind a None ∷ forms) (b ∷ made_types)) (rolled c)
    (rule.a_clause (out-Clause c).line (out-Clause c).value (out-Clause c).mask makes shallow (folds_of cs tys forms made_types (omega (arith, e)) q))

-- ---- loops over groups

clauses_many : (k : Known) (denotes : Written → Ty → Type 0) (s : scopes.Scope) (cs : List Clause) (forms : List ClauseForm) (ts : List TypedExpr) (tys : List Ty) → AreClauses k denotes s cs forms ts tys → length cs ≡ length tys
clauses_many k denotes s _ _ _ _ rule.no_clause = refl
clauses_many k denotes s _ _ _ _ (rule.a_clause l {cs = cs} {forms = forms} {ts = ts} {tys = tys} p makes shallow m r) = ap suc (clauses_many k denotes s cs forms ts tys r)

folds_many : (cs : List Clause) (tys : List Ty) (forms : List ClauseForm) (made_types : List Ty) → Folds cs tys forms made_types → length cs ≡ length made_types
folds_many _ _ _ _ rule.no_clause = refl
folds_many _ _ _ _ (rule.a_clause l e m {cs = cs} {tys = tys} {made = made_types} {forms = forms} makes shallow r) = ap suc (folds_many cs tys forms made_types r)

crossed_many : (k : Known) (denotes : Written → Ty → Type 0) (s : scopes.Scope) (l : ℕ) (gs : List (List Generator)) (ds : List Def) (cs : List Clause) (t : TypedExpr) (tys : List Ty)
    → Crosses k denotes s l gs ds cs t tys → length cs ≡ length tys
crossed_many k denotes s l _ ds cs _ tys (rule.one_group {inside = inside} {forms = forms} {ts = ts} g distinct d once c n) = clauses_many k denotes inside cs forms ts tys c
crossed_many k denotes s l _ ds cs _ tys (rule.a_group {inner = inner} {forms = forms} g distinct r f n) = folds_many cs inner forms tys f

-- the loop over the last group
pub over_typed : (g : Given) (f0 f1 : List Form) (names after : Names) (line : ℕ) (gs : List Generator) (m : Group) (ds : List Def) (us : List (List TypedExpr)) (ns : List ℕ) (cs : List Clause)
    (ts : List TypedExpr) (ms : List ℕ) (folds : given.Folds) (t : TypedExpr) → Grows f0 f1 → GroupTyped g f0 names gs m → AllDefined g f0 (define_all m.names m.types names) after None ds us ns → AreDistinct (targets ds)
    → AllValues g f0 after cs ts ms → AllMade f1 cs true ms folds → t ≡ with line folds.types (typed.Product (record { sources = m.sources; clauses = folds.forms }) m.bounds us ts)
    → IsCrossed g f1 names line (gs ∷ []) ds cs t
over_typed g f0 f1 names after line gs m ds us ns cs ts ms folds t grows group defined distinct values folded is = record {
  holds = λ k s agrees stands.
      let before = agrees_before g f0 f1 k grows agrees in
      let x = group.generated.holds k s before stands in
      let d = defined.holds k (scopes.define_all (names_of m.names) x.tys s) before (stands_with_all k m.names m.types x.tys names s stands x.number.each) in
      let v = values.holds k d.inside before d.stands in
      let w = folded.holds k agrees.grows agrees.table v.tys v.number in
      subst (λ u. IsCrossedAs k g s line (gs ∷ []) ds cs u) (sym is) (record {
        tys = w.made;
        number = w.number;
        typed = rule.one_group x.typed group.distinct d.defines distinct (clauses_of k (denotes_in g k) d.inside cs ts v.tys folds.forms w.made v.typed w.each) w.number;
      });
}

-- the loop over a group around another one
pub around_typed : (g : Given) (f0 f1 : List Form) (names : Names) (line : ℕ) (gs : List Generator) (m : Group) (others : List (List Generator)) (ds : List Def) (cs : List Clause)
    (inner : TypedExpr) (folds : given.Folds) (t : TypedExpr) → Grows f0 f1 → GroupTyped g f0 names gs m → IsCrossed g f0 (define_all m.names m.types names) line others ds cs inner
    → AllMade f1 cs false inner.types folds → t ≡ with line folds.types (typed.Product (record { sources = m.sources; clauses = folds.forms }) m.bounds [] (inner ∷ []))
    → IsCrossed g f1 names line (gs ∷ others) ds cs t
around_typed g f0 f1 names line gs m others ds cs inner folds t grows group crossed folded is = record {
  holds = λ k s agrees stands.
      let before = agrees_before g f0 f1 k grows agrees in
      let x = group.generated.holds k s before stands in
      let inside : scopes.Scope = scopes.define_all (names_of m.names) x.tys s in
      let c = crossed.holds k inside before (stands_with_all k m.names m.types x.tys names s stands x.number.each) in
      let w = folded.holds k agrees.grows agrees.table c.tys c.number in
      let many : length cs ≡ length c.tys = crossed_many k (denotes_in g k) inside line others ds cs inner c.tys c.typed in
      subst (λ u. IsCrossedAs k g s line (gs ∷ others) ds cs u) (sym is) (record {
        tys = w.made;
        number = w.number;
        typed = rule.a_group x.typed group.distinct c.typed (folds_of cs c.tys folds.forms w.made many w.each) w.number;
      });
}

pub crossed_later : (g : Given) (f0 f1 : List Form) (names : Names) (line : ℕ) (gs : List (List Generator)) (ds : List Def) (cs : List Clause) (t : TypedExpr) → Grows f0 f1
    → IsCrossed g f0 names line gs ds cs t → IsCrossed g f1 names line gs ds cs t
crossed_later g f0 f1 names line gs ds cs t grows p = record { holds = λ k s agrees stands. p.holds k s (agrees_before g f0 f1 k grows agrees) stands }

pub product_typed : (g : Given) (f : List Form) (names : Names) (line : ℕ) (gs : List (List Generator)) (ds : List Def) (cs : List Clause) (t : TypedExpr) → IsCrossed g f names line gs ds cs t
    → Typed g f names (at line (tree.For (loop.Product gs ds cs))) t
product_typed g f names line gs ds cs t p = record {
  holds = λ k s agrees stands. let x = p.holds k s agrees stands in record { tys = x.tys; number = x.number; typed = rule.for_product x.typed };
}
