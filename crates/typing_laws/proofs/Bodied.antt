-- The results of functions, and functions one after another.
use Rattle.std.proofs.Common.{◌≡◌, ℕ, List, [], ◌∷◌, ◌++◌, Some, slice_range, refl, sym, ap, subst, ◌∙◌}
use Rattle.flow_value.specs.declared.ty.Ty.{Ty}
use Rattle.type_table.specs.declared.form.Form.{Form}
use Rattle.sisal_lex.specs.declared.token.Token.{Token}
use Rattle.sisal_tree.specs.declared.unit.Written.{Written}
use Rattle.sisal_tree.specs.declared.unit.FunKind.TheVariants as fun
use Rattle.sisal_tree.specs.declared.unit.Unit as text
use Rattle.sisal_tree.specs.declared.expr.Expr.{Expr}
use Rattle.sisal_grammar.specs.Placed.{placed}
use Rattle.typed_tree.specs.declared.expr.TypedExpr.{TypedExpr}
use Rattle.typed_tree.specs.declared.program.Function.{Function}
use Rattle.typed_tree.specs.Scopes as scopes
use Rattle.typed_tree.specs.Types.{AreNumbers}
use Rattle.typed_tree.specs.Typing.{Known, Number, AreTyped}
use Rattle.typed_tree.specs.Units as units
use Rattle.typed_tree.specs.Units.{Declared, known, denotes, HasBody, defined, IsFunctionOf, AreFunctionsOf, no_function, a_function}
use Rattle.typed_tree.specs.Written.{Denotes}
use Rattle.value_names.specs.Names.{Names}
use Rattle.value_names.specs.Scopes.{define, no_names}
use Rattle.typing_laws.specs.Given.{Header, Given}
use Rattle.typing_laws.specs.Judged.{IsSignature, Agrees, Stands, denotes_in, AllTyped}
use Rattle.typing_laws.specs.Bodies.{define_params, parameters_in}
use Rattle.typing_laws.proofs.Unique.{same_types}
use Rattle.typing_laws.proofs.Entering.{stands_with}

nothing_stands : (k : Known) → Stands k no_names scopes.no_names
nothing_stands k = record { names = tt; olds = tt; height = refl; below = tt }

params_stand : (k : Known) (xs ns : List ℕ) (ts : List Ty) (names : Names) (s : scopes.Scope) → Stands k names s → AreNumbers k.forms k.spellings ns ts → Stands k (define_params xs ns names) (scopes.define_all xs ts s)
params_stand k [] ns ts names s st p = st
params_stand k (x ∷ xs) [] [] names s st p = st
params_stand k (x ∷ xs) [] (t ∷ ts) names s st p = absurd p
params_stand k (x ∷ xs) (n ∷ ns) [] names s st p = absurd p
params_stand k (x ∷ xs) (n ∷ ns) (t ∷ ts) names s st p = params_stand k xs ns ts (define x n names) (scopes.define x t s) (stands_with k names s x n t st p.0) p.1

-- the results of a function are those of its header
pub body_typed : (u : text.Unit) (forms f : List Form) (ds : List Declared) (d : Declared) (g : Given) (h : Header) (es : List Expr) (ts : List TypedExpr) (ns : List ℕ) → g.tokens ≡ u.tokens.list
    → Agrees g f (known u forms ds d.types) → IsSignature (known u forms ds d.types) h d.signature → AllTyped g f (parameters_in h) es ts ns → ns ≡ h.results
    → HasBody u (known u forms ds d.types) d.signature (fun.Defined es) (Some ts)
body_typed u forms f ds d g h es ts ns tokens agrees said typed same =
    let k : Known = known u forms ds d.types in
    let inside : Stands k (parameters_in h) (units.parameters d.signature) =
    subst (λ l. Stands k (parameters_in h) (scopes.define_all l d.signature.params scopes.no_names)) said.parameters
    (params_stand k h.parameters h.params d.signature.params no_names scopes.no_names (nothing_stands k) said.params.each) in
    let r = typed.holds k (units.parameters d.signature) agrees inside in
    let is : r.tys ≡ d.signature.results = same_types k ns r.tys d.signature.results r.number (subst (λ l. Number k l d.signature.results) (sym same) said.results) in
    defined (subst (λ l. AreTyped k (λ w a. Denotes u.tokens.names d.types (slice_range (placed 0 l) w.from w.to) a) (units.parameters d.signature) es ts d.signature.results) tokens
    (subst (λ l. AreTyped k (denotes_in g k) (units.parameters d.signature) es ts l) is r.typed))

pub one_more_function : (u : text.Unit) (forms : List Form) (ds es : List Declared) (fs : List Function) (d : Declared) (f : Function) → AreFunctionsOf u forms ds es fs → IsFunctionOf u forms ds d f
    → AreFunctionsOf u forms ds (es ++ (d ∷ [])) (fs ++ (f ∷ []))
one_more_function u forms ds _ _ d f no_function q = a_function q no_function
one_more_function u forms ds _ _ d f (a_function {es = es} {fs = fs} p r) q = a_function p (one_more_function u forms ds es fs d f r q)
