-- The results of a function that break a rule, or are of other types than its header says.
use Rattle.std.proofs.Common.{◌≡◌, ℕ, List, [], ◌∷◌, slice_range, refl, sym, subst}
use Rattle.flow_value.specs.declared.ty.Ty.{Ty}
use Rattle.type_table.specs.declared.form.Form.{Form}
use Rattle.type_table.specs.Tables.{IsTable}
use Rattle.sisal_tree.specs.declared.expr.Expr.{Expr}
use Rattle.typed_tree.specs.declared.expr.TypedExpr.{TypedExpr}
use Rattle.sisal_grammar.specs.Placed.{placed}
use Rattle.typed_tree.specs.Scopes as scopes
use Rattle.typed_tree.specs.Types.{AreNumbers}
use Rattle.typed_tree.specs.Typing.{Known, AreTyped}
use Rattle.typed_tree.specs.Breaks.{BreaksIn}
use Rattle.typed_tree.specs.Units as units
use Rattle.typed_tree.specs.Units.{Declared, known}
use Rattle.typed_tree.specs.Faults as faults
use Rattle.typed_tree.specs.Faults.{BreaksUnit}
use Rattle.typed_tree.specs.Written.{Denotes, Misnames}
use Rattle.value_names.specs.Names.{Names}
use Rattle.value_names.specs.Scopes.{define, no_names}
use Rattle.typing_laws.specs.Given.{Header, Given}
use Rattle.typing_laws.specs.Judged.{IsUsedIn, IsSignature, Stands, AllTyped, denotes_in}
use Rattle.typing_laws.specs.Bodies.{define_params, parameters_in}
use Rattle.typing_laws.proofs.Entering.{stands_with}
use Rattle.breaking_laws.specs.Broken.{misnames_in, BrokenIn, BreaksInAt}
use Rattle.breaking_laws.specs.FormLaws.{BreaksBodyAt, inside, other, BrokenBody, BodyLaw}
use Rattle.breaking_laws.proofs.FPassing.{reach_later, reach_more, reach_here}
use Rattle.breaking_laws.proofs.FTables.{known_of}
use Rattle.breaking_laws.proofs.FCalls.{same_numbers}

params_stand : (k : Known) (xs ns : List ℕ) (ts : List Ty) (names : Names) (s : scopes.Scope) → Stands k names s → AreNumbers k.forms k.spellings ns ts → Stands k (define_params xs ns names) (scopes.define_all xs ts s)
params_stand k [] ns ts names s st p = st
params_stand k (x ∷ xs) [] [] names s st p = st
params_stand k (x ∷ xs) [] (t ∷ ts) names s st p = absurd p
params_stand k (x ∷ xs) (n ∷ ns) [] names s st p = absurd p
params_stand k (x ∷ xs) (n ∷ ns) (t ∷ ts) names s st p = params_stand k xs ns ts (define x n names) (scopes.define x t s) (stands_with k names s x n t st p.0) p.1

-- the parameters by number are those of the header by type
header_stands : (k : Known) (h : Header) (d : Declared) → IsSignature k h d.signature → Stands k (parameters_in h) (units.parameters d.signature)
header_stands k h d said =
    subst (λ l. Stands k (parameters_in h) (scopes.define_all l d.signature.params scopes.no_names)) said.parameters
    (params_stand k h.parameters h.params d.signature.params no_names scopes.no_names (record { names = tt; olds = tt; height = refl; below = tt }) said.params.each)

pub body_breaks : BodyLaw
body_breaks u forms ds d g h es rule line tokens declared there is whole said (inside p) =
    let k : Known = known u forms ds d.types in
    let q : BreaksIn k (denotes_in g k) (misnames_in g k) (units.parameters d.signature) es rule line = p.holds k (units.parameters d.signature) whole (header_stands k h d said) in
    faults.in_body forms declared there is
    (subst (λ l. BreaksIn k (λ w a. Denotes u.tokens.names d.types (slice_range (placed 0 l) w.from w.to) a) (λ w r n. Misnames u.tokens.names d.types (slice_range (placed 0 l) w.from w.to) r n) (units.parameters d.signature) es rule line) tokens q)
body_breaks u forms ds d g h es rule line tokens declared there is whole said (other r at_line p) =
    let k : Known = known u forms ds d.types in
    let z = p.typed.holds k (units.parameters d.signature) whole.agrees (header_stands k h d said) in
    subst (λ n. BreaksUnit u n line) (sym r)
    (subst (λ n. BreaksUnit u 13 n) (sym at_line)
    (faults.other_results forms declared there is
    (subst (λ l. AreTyped k (λ w a. Denotes u.tokens.names d.types (slice_range (placed 0 l) w.from w.to) a) (units.parameters d.signature) es p.exprs z.tys) tokens z.typed)
    (λ e. p.other (same_numbers k (known_of g forms k whole.agrees) p.types h.results z.tys d.signature.results z.number said.results e))))

-- ---- by number

pub body_inside : (g : Given) (f : List Form) (names : Names) (h : Header) (l : ℕ) (es : List Expr) (rule line : ℕ) → names ≡ parameters_in h → BrokenIn g f names es rule line → BrokenBody g f h l es rule line
body_inside g f names h l es rule line is p =
    reach_more g f (BreaksInAt g (parameters_in h) es rule line) (BreaksBodyAt g h l es rule line) (λ forms q. inside q) (subst (λ n. BrokenIn g f n es rule line) is p)

pub other_results_break : (g : Given) (f0 f1 : List Form) (names : Names) (h : Header) (l : ℕ) (es : List Expr) (ts : List TypedExpr) (ns : List ℕ) → IsUsedIn g f0 f1 → IsTable f1 → names ≡ parameters_in h
    → AllTyped g f1 names es ts ns → (ns ≡ h.results → ⊥) → BrokenBody g f0 h l es 13 l
other_results_break g f0 f1 names h l es ts ns used table is typed differ =
    reach_later g f0 f1 (BreaksBodyAt g h l es 13 l) used
    (reach_here g f1 (BreaksBodyAt g h l es 13 l) table (other refl refl (record { exprs = ts; types = ns; typed = subst (λ n. AllTyped g f1 n es ts ns) is typed; other = differ })))
