-- A unit that breaks a rule is no program, where its functions' bodies have one list of types and none where they break a rule.
use Rattle.std.proofs.Common.{◌≡◌, ◌≢◌, ℕ, zero, suc, true, List, [], ◌∷◌, map, Contains, All, refl, sym, ap, subst, ◌∙◌, ◌⊎◌, inl, inr, Option, Some, slice_get, option_map}
use Rattle.std.proofs.lemmas.Option.{slice_get-map}
use Rattle.std.proofs.lemmas.List.Elements.{All-map, All-contains}
use Rattle.flow_value.specs.declared.ty.Ty.{Ty}
use Rattle.type_table.specs.declared.form.Form.{Form}
use Rattle.sisal_tree.specs.declared.unit.Named.{Named}
use Rattle.sisal_tree.specs.declared.unit.FunKind.{FunKind}
use Rattle.sisal_tree.specs.declared.unit.FunKind.TheVariants as fun
use Rattle.sisal_tree.specs.declared.unit.FunDef.{FunDef}
use Rattle.sisal_tree.specs.declared.unit.Unit as tree
use Rattle.sisal_tree.specs.declared.expr.Expr.{Expr}
use Rattle.typed_tree.specs.declared.built_in.BuiltIn.{BuiltIn}
use Rattle.typed_tree.specs.declared.expr.TypedExpr.{TypedExpr}
use Rattle.typed_tree.specs.declared.program.Function.{Function}
use Rattle.typed_tree.specs.declared.program.Program.{Program}
use Rattle.typed_tree.specs.Scopes.{AreDistinct}
use Rattle.typed_tree.specs.Typing.{Signature, Known, IsBuiltIn, names_of, AreTyped}
use Rattle.typed_tree.specs.Breaks.{NoBuiltIn, BreaksIn}
use Rattle.typed_tree.specs.Units.{is_given, Declared, given, signatures, parameters, denotes, known, AreDeclared, HasBody, global, defined, IsFunctionOf, AreFunctionsOf, no_function, a_function, IsDefined, AreDefined, no_name, a_name, IsTyped}
use Rattle.typed_tree.specs.Faults.{functions, given_names, misnames, BreaksUnit}
use Rattle.typed_tree.specs.Faults as faults
use Rattle.typing_unique.specs.UnitLaws.{AreAlike, SameProgram}
use Rattle.typing_unique.specs.UnitLaws as laws
use Rattle.typing_unique.proofs.UDeclared.{there_cases, none_there, got_there, filter_there, kept_there, map_there, same_named, one_declares, names_are, is_declared, is_function}
use Rattle.typing_unique.proofs.UHeaders.{twice_distinct, no_items}

-- ---- parts of a program

is_given_defined : (f : FunDef) (es : List Expr) → f.kind ≡ fun.Defined es → is_given f ≡ true
is_given_defined f es e = ap (λ k. is_given (record { line = f.line; header = f.header; kind = k })) e

-- the function that is declared so
record HasFunction (u : tree.Unit) (forms : List Form) (ds : List Declared) (d : Declared) : Type 0 where
  function : Function
  is : IsFunctionOf u forms ds d function

function_of : (u : tree.Unit) (forms : List Form) (ds es : List Declared) (fs : List Function) (d : Declared) → AreFunctionsOf u forms ds es fs → Contains es d → HasFunction u forms ds d
function_of u forms ds _ _ d no_function c = absurd (none_there d c)
function_of u forms ds _ _ d (a_function {d = g} {f = f} {es = es} {fs = fs} p ps) c = by (there_cases d g es c) (function_of u forms ds es fs d ps)
  where
    by : (g ≡ d) ⊎ Contains es d → (Contains es d → HasFunction u forms ds d) → HasFunction u forms ds d
    by (inl e) rest = record { function = f; is = subst (λ x. IsFunctionOf u forms ds x f) e p }
    by (inr k) rest = rest k

record IsBody (u : tree.Unit) (k : Known) (s : Signature) (es : List Expr) : Type 0 where
  trees : List TypedExpr
  typed : AreTyped k (denotes u k.types) (parameters s) es trees s.results

body_of : (u : tree.Unit) (k : Known) (s : Signature) (kind : FunKind) (o : Option (List TypedExpr)) (es : List Expr) → HasBody u k s kind o → kind ≡ fun.Defined es → IsBody u k s es
body_of u k s _ _ es global e = cc
body_of u k s _ _ es (defined {es = fs} {ts = ts} p) e =
    let same : fs ≡ es = cc in
    record { trees = ts; typed = subst (λ l. AreTyped k (denotes u k.types) (parameters s) l ts s.results) same p }

record HasDefined (u : tree.Unit) (ds : List Declared) (name : ℕ) : Type 0 where
  number : ℕ
  is : IsDefined u ds name number

defined_of : (u : tree.Unit) (ds : List Declared) (ns : List Named) (ms : List ℕ) (n : Named) → AreDefined u ds ns ms → Contains ns n → HasDefined u ds n.name
defined_of u ds _ _ n no_name c = absurd (none_there n c)
defined_of u ds _ _ n (a_name {name = m} {n = i} {names = ns} {ns = ms} p ps) c = by (there_cases n m ns c) (defined_of u ds ns ms n ps)
  where
    by : (m ≡ n) ⊎ Contains ns n → (Contains ns n → HasDefined u ds n.name) → HasDefined u ds n.name
    by (inl e) rest = record { number = i; is = subst (λ x. IsDefined u ds x.name i) e p }
    by (inr k) rest = rest k

pub one_declared : (u : tree.Unit) (ds es : List Declared) → AreDeclared u ds → AreDeclared u es → ds ≡ es
one_declared u ds es p q = one_declares u [] u.items ds es p.declares q.declares

-- the parts of a typed unit, at another name of its list of functions
pub record IsTypedAt (u : tree.Unit) (p : Program) (ds : List Declared) : Type 0 where
  pub forward : All (λ d. Contains (signatures ds) d.signature) ds
  pub functions : AreFunctionsOf u p.types ds (given ds) p.functions
  pub defines : AreDefined u ds u.defines p.defines

pub typed_at : (u : tree.Unit) (p : Program) (ds : List Declared) (t : IsTyped u p) → t.declared ≡ ds → IsTypedAt u p ds
typed_at u p ds t e = subst (IsTypedAt u p) e (record { forward = t.forward; functions = t.functions; defines = t.defines })

-- ---- names of functions

module _ (u : tree.Unit) (ds : List Declared) (are : AreDeclared u ds) where
  given_distinct : AreDistinct (names_of (given_names u.items))
  given_distinct = subst AreDistinct (names_are u [] u.items ds are.declares) are.distinct

  no_built_in : (n : Named) (b : BuiltIn) → Contains (given_names u.items) n → IsBuiltIn (known u [] [] []) n.name b → ⊥
  no_built_in n b c q =
      All-contains (λ x. NoBuiltIn (known u [] ds []) x) (map (λ s. s.name) (signatures ds)) n.name
      (All-map (λ x. NoBuiltIn (known u [] ds []) x) (λ s. s.name) (signatures ds) are.own)
      (subst (λ l. Contains l n.name) (sym (names_are u [] u.items ds are.declares)) (map_there (λ m. m.name) n (given_names u.items) c)) b
      (record { spelling = q.spelling; spelled = q.spelled; named = q.named })

  signature_there : (e : Declared) → Contains (given ds) e → Contains (signatures ds) e.signature
  signature_there e c = map_there (λ d. d.signature) e (given ds) c

  module _ (p : Program) (t : IsTypedAt u p ds) where
    no_other_header : (d e : Declared) → Contains ds d → Contains (given ds) e → d.signature.name ≡ e.signature.name → d.signature ≢ e.signature → ⊥
    no_other_header d e c k same other =
        other (same_named (signatures ds) d.signature e.signature are.distinct (All-contains (λ d. Contains (signatures ds) d.signature) ds d t.forward c) (signature_there e k) same)

    is_there : (f : FunDef) → Contains (functions u.items) f → Contains (map (λ n. n.name) (given_names u.items)) f.header.name.name
    is_there f c =
        let d = is_declared u [] u.items ds f are.declares c in
        subst (λ l. Contains l f.header.name.name) (names_are u [] u.items ds are.declares)
        (subst (Contains (map (λ s. s.name) (signatures ds))) d.named
        (map_there (λ s. s.name) d.declared.signature (signatures ds) (All-contains (λ d. Contains (signatures ds) d.signature) ds d.declared t.forward d.there)))

    is_defined : (n : Named) → Contains u.defines n → ((f : FunDef) (es : List Expr) → Contains (functions u.items) f → f.header.name.name ≡ n.name → f.kind ≡ fun.Defined es → ⊥) → ⊥
    is_defined n c none =
        let d = defined_of u ds u.defines p.defines n t.defines c in
        let i = is_function u [] u.items ds d.is.function are.declares
        (filter_there (λ d. is_given d.function) d.is.function ds (got_there d.is.function (given ds) d.number d.is.there)) in
        none d.is.function.function d.is.body i.0 (sym i.1 ∙ d.is.named) d.is.defined

    body_there : (d : Declared) (es : List Expr) → Contains ds d → d.function.kind ≡ fun.Defined es → IsBody u (known u p.types ds d.types) d.signature es
    body_there d es c kind =
        let f = function_of u p.types ds (given ds) p.functions d t.functions (kept_there (λ d. is_given d.function) d ds (is_given_defined d.function es kind) c) in
        body_of u (known u p.types ds d.types) d.signature d.function.kind f.function.body es f.is.body kind

-- ---- bodies

-- what is so of the results of functions: they have one list of types, and none where they break a rule
pub record AreBodiesFair (u : tree.Unit) (ds : List Declared) : Type 0 where
  pub one : (forms others : List Form) (d : Declared) → Contains ds d → (es : List Expr) (ts us : List TypedExpr) (tys more : List Ty)
      → AreTyped (known u forms ds d.types) (denotes u d.types) (parameters d.signature) es ts tys
      → AreTyped (known u others ds d.types) (denotes u d.types) (parameters d.signature) es us more → tys ≡ more
  pub none : (forms others : List Form) (d : Declared) → Contains ds d → (es : List Expr) (rule line : ℕ) (us : List TypedExpr) (more : List Ty)
      → BreaksIn (known u forms ds d.types) (denotes u d.types) (misnames u d.types) (parameters d.signature) es rule line
      → AreTyped (known u others ds d.types) (denotes u d.types) (parameters d.signature) es us more → ⊥

-- ---- units

pub no_program : (u : tree.Unit) (rule line : ℕ) (p : Program) → ((ds : List Declared) → AreDeclared u ds → AreBodiesFair u ds) → BreaksUnit u rule line → IsTyped u p → ⊥
no_program u _ _ p bodies (faults.in_items {rule = rule} {line = line} b) t = no_items u [] u.items t.declared rule line b t.declares.declares
no_program u _ _ p bodies (faults.two_functions {line = line} tw) t = twice_distinct (given_names u.items) line tw (given_distinct u t.declared t.declares)
no_program u _ _ p bodies (faults.built_in {n = n} b c q) t = no_built_in u t.declared t.declares n b c q
no_program u _ _ p bodies (faults.another_header {ds = ds} {d = d} {e = e} decl cd kind ce same other) t =
    let eq = one_declares u [] u.items t.declared ds t.declares.declares decl in
    no_other_header u ds (subst (AreDeclared u) eq t.declares) p (typed_at u p ds t eq) d e cd ce same other
no_program u _ _ p bodies (faults.no_function {f = f} c kind none) t = none (is_there u t.declared t.declares p (typed_at u p t.declared t refl) f c)
no_program u _ _ p bodies (faults.not_defined {n = n} c none) t = is_defined u t.declared t.declares p (typed_at u p t.declared t refl) n c none
no_program u _ _ p bodies (faults.in_body {ds = ds} {d = d} {es = es} {rule = rule} {line = line} forms are cd kind b) t =
    let body = body_there u ds are p (typed_at u p ds t (one_declared u t.declared ds t.declares are)) d es cd kind in
    (bodies ds are).none forms p.types d cd es rule line body.trees d.signature.results b body.typed
no_program u _ _ p bodies (faults.other_results {ds = ds} {d = d} {es = es} {ts = ts} {tys = tys} forms are cd kind typed other) t =
    let body = body_there u ds are p (typed_at u p ds t (one_declared u t.declared ds t.declares are)) d es cd kind in
    other ((bodies ds are).one forms p.types d cd es ts body.trees tys d.signature.results typed body.typed)

-- ---- two typed trees

alike : (u : tree.Unit) (forms others : List Form) (ds es : List Declared) (fs gs : List Function) → AreFunctionsOf u forms ds es fs → AreFunctionsOf u others ds es gs
    → AreAlike u.tokens.names forms others fs gs
alike u forms others ds _ _ _ no_function no_function = laws.no_function
alike u forms others ds _ _ _ (a_function {d = d} {f = f} {es = es} {fs = fs} p ps) (a_function {f = g} {fs = gs} q qs) =
    laws.a_function (record {
      line = p.line ∙ sym q.line;
      name = p.name ∙ sym q.name;
      parameters = p.parameters ∙ sym q.parameters;
      params = (d.signature.params, p.params, q.params);
      results = (d.signature.results, p.results, q.results);
    }) (alike u forms others ds es fs gs ps qs)

-- a name is that of one function, by its number
pub one_signature : (ss : List Signature) (f g : Signature) (n m : ℕ) → AreDistinct (map (λ s. s.name) ss) → slice_get ss n ≡ Some f → slice_get ss m ≡ Some g → f.name ≡ g.name → n ≡ m
one_signature [] f g n m d p q e = cc
one_signature (x ∷ ss) f g zero zero d p q e = refl
one_signature (x ∷ ss) f g zero (suc m) d p q e =
    let same : x ≡ f = cc in
    absurd (d.0 (subst (Contains (map (λ s. s.name) ss)) (sym e ∙ ap (λ s. s.name) (sym same)) (map_there (λ s. s.name) g ss (got_there g ss m q))))
one_signature (x ∷ ss) f g (suc n) zero d p q e =
    let same : x ≡ g = cc in
    absurd (d.0 (subst (Contains (map (λ s. s.name) ss)) (e ∙ ap (λ s. s.name) (sym same)) (map_there (λ s. s.name) f ss (got_there f ss n p))))
one_signature (x ∷ ss) f g (suc n) (suc m) d p q e = ap suc (one_signature ss f g n m d.1 p q e)

signature_at : (es : List Declared) (d : Declared) (n : ℕ) → slice_get es n ≡ Some d → slice_get (map (λ d. d.signature) es) n ≡ Some d.signature
signature_at es d n e = slice_get-map (λ d. d.signature) es n ∙ ap (λ o. option_map (λ d. d.signature) o) e

one_defines : (u : tree.Unit) (ds : List Declared) (ns : List Named) (ms others : List ℕ) → AreDistinct (map (λ s. s.name) (signatures ds)) → AreDefined u ds ns ms → AreDefined u ds ns others
    → ms ≡ others
one_defines u ds _ _ _ d no_name no_name = refl
one_defines u ds _ _ _ d (a_name {n = n} {names = ns} {ns = ms} p ps) (a_name {n = m} {ns = others} q qs) =
    ap (λ k. k ∷ ms)
    (one_signature (signatures ds) p.function.signature q.function.signature n m d (signature_at (given ds) p.function n p.there) (signature_at (given ds) q.function m q.there)
    (p.named ∙ sym q.named))
    ∙ ap (λ l. m ∷ l) (one_defines u ds ns ms others d ps qs)

pub same_program : (u : tree.Unit) (p q : Program) → IsTyped u p → IsTyped u q → SameProgram u p q
same_program u p q s t =
    let at = typed_at u q s.declared t (one_declared u t.declared s.declared t.declares s.declares) in
    record {
      names = s.names ∙ sym t.names;
      functions = alike u p.types q.types s.declared (given s.declared) p.functions q.functions s.functions at.functions;
      defines = one_defines u s.declared u.defines p.defines q.defines s.declares.distinct s.defines at.defines;
    }
