-- The program of a typed unit is bound.
use Rattle.std.proofs.Common.{◌≡◌, ℕ, suc, ◌+◌, ◌<◌, ◌≤◌, List, [], ◌∷◌, map, Option, Some, All, length, refl, sym, ap, subst, ◌∙◌, arith}
use Rattle.std.proofs.lemmas.Option.{slice_get_within}
use Rattle.std.proofs.lemmas.List.{length-append, length-map}
use Rattle.std.proofs.lemmas.List.Elements.{All-nil, All-cons, All-head, All-tail, All-filter}
use Rattle.flow_value.specs.declared.ty.Ty.{Ty}
use Rattle.type_table.specs.declared.form.Form.{Form}
use Rattle.sisal_tree.specs.declared.unit.Field.{Field}
use Rattle.sisal_tree.specs.declared.unit.FunKind.{FunKind}
use Rattle.sisal_tree.specs.declared.unit.Header.{Header}
use Rattle.sisal_tree.specs.declared.unit.Item.{Item}
use Rattle.sisal_tree.specs.declared.unit.Written.{Written}
use Rattle.sisal_tree.specs.declared.unit.Named.{Named}
use Rattle.sisal_tree.specs.declared.unit.Unit as tree
use Rattle.sisal_lex.specs.declared.token.Token.{Token as Told}
use Rattle.sisal_grammar.specs.Phrases.{unit}
use Rattle.sisal_grammar.specs.Placed.{placed}
use Rattle.typed_tree.specs.declared.expr.TypedExpr.{TypedExpr}
use Rattle.typed_tree.specs.declared.program.Function.{Function}
use Rattle.typed_tree.specs.declared.program.Program.{Program}
use Rattle.typed_tree.specs.Scopes.{no_names}
use Rattle.typed_tree.specs.Typing.{Signature, names_of}
use Rattle.typed_tree.specs.Units as units
use Rattle.typed_tree.specs.Units.{Declared, is_given, given, signatures, parameters, denotes, known, HasParams, HasResults, IsHeader, Declares, AreDeclared, HasBody, IsFunctionOf, AreFunctionsOf, AreDefined, IsTyped}
use Rattle.bound_trees.specs.Bound.{HasHeader, IsBoundBody, IsBoundIn}
use Rattle.bound_trees.proofs.Counts.{numbers_counted}
use Rattle.bound_trees.specs.Laws.{BoundLaw, TextLaw}
use Rattle.bound_trees.proofs.Levels.{no_names_low, defined_low, defined_height}
use Rattle.bound_trees.proofs.Bound.{all_bound}
use Rattle.bound_trees.proofs.Every.{Each}
use Rattle.bound_trees.proofs.Literals.{IsFineKind, IsFineHeader, IsFineItem}
use Rattle.bound_trees.specs.Tokens.{IsOfText}
use Rattle.bound_trees.proofs.Tokens.{AreTold}
use Rattle.bound_trees.proofs.Spelled.{fine}
use Rattle.bound_trees.proofs.Told.{tokens_sound}

-- a function has as many parameters as types of parameters, what its results write is such as a text can write, and it has a name
-- and a result
abbrev IsFit : ℕ → Declared → Type 0
IsFit names d = (length d.signature.parameters ≡ length d.signature.params) × IsFineKind d.function.kind × (d.signature.name < names) × (1 ≤ length d.signature.results)

results_even : (u : tree.Unit) (types : List (ℕ × Ty)) (ws : List Written) (tys : List Ty) → HasResults u types ws tys → length ws ≡ length tys
results_even u types _ _ units.no_result = refl
results_even u types _ _ (units.a_result {ws = ws} {tys = tys} h p) = ap suc (results_even u types ws tys p)

params_even : (u : tree.Unit) (types : List (ℕ × Ty)) (fs : List Field) (xs : List ℕ) (tys : List Ty) → HasParams u types fs xs tys → length xs ≡ length tys
params_even u types _ _ _ units.no_field = refl
params_even u types _ _ _ (units.a_field {f = f} {a = a} {fs = fs} {xs = xs} {tys = tys} h p) =
    length-append (names_of f.names) xs ∙ ap (λ n. n + length xs) (length-map f.names (λ n. n.name) ∙ sym (length-map f.names (λ n. a)))
    ∙ ap (λ n. length (map (λ n. a) f.names) + n) (params_even u types fs xs tys p) ∙ sym (length-append (map (λ n. a) f.names) tys)

header_fit : (u : tree.Unit) (types : List (ℕ × Ty)) (names : ℕ) (h : Header) (s : Signature) → IsHeader u types h s → IsFineHeader names h → (s.name < names) × (1 ≤ length s.results)
header_fit u types names h s p f =
    let same = results_even u types h.results s.results p.results in let some = f.0 in
    (subst (λ n. n < names) (sym p.named) f.1, omega (arith, same, some))

declared_fit : (u : tree.Unit) (names : ℕ) (types : List (ℕ × Ty)) (items : List Item) (ds : List Declared) → Declares u types items ds → Each (IsFineItem names) items → All (IsFit names) ds
declared_fit u names types _ _ units.no_item lit = All-nil (IsFit names)
declared_fit u names types _ ds (units.a_type {d = d} {a = a} {items = items} h e p) lit = declared_fit u names ((d.name, a) ∷ types) items ds p lit.1
declared_fit u names types _ _ (units.a_function {f = f} {s = s} {items = items} {ds = ds} h p) lit =
    All-cons (IsFit names) (record { function = f; types = types; signature = s }) ds
    (let told = header_fit u types names f.header s h lit.0.1 in (params_even u types f.header.params s.parameters s.params h.params, lit.0.0, told.0, told.1)) (declared_fit u names types items ds p lit.1)

functions_counted : (u : tree.Unit) (forms : List Form) (ds es : List Declared) (fs : List Function) → AreFunctionsOf u forms ds es fs → length es ≡ length fs
functions_counted u forms ds _ _ units.no_function = refl
functions_counted u forms ds _ _ (units.a_function {es = es} {fs = fs} p ps) = ap suc (functions_counted u forms ds es fs ps)

module _ (u : tree.Unit) (names : ℕ) (forms : List Form) (ds : List Declared) (functions : ℕ) (many : length (given ds) ≡ functions) where
  as_many : length (signatures ds) ≡ functions
  as_many = length-map (given ds) (λ d. d.signature) ∙ many

  body_bound : (d : Declared) → length d.signature.parameters ≡ length d.signature.params → (kind : FunKind) (o : Option (List TypedExpr)) → IsFineKind kind → HasBody u (known u forms ds d.types) d.signature kind o
      → IsBoundBody functions (length d.signature.parameters) o
  body_bound d even _ _ lit units.global = tt
  body_bound d even _ _ lit (units.defined {es = es} {ts = ts} p) =
      let height = defined_height d.signature.parameters d.signature.params no_names even in
      let same : (parameters d.signature).height ≡ length d.signature.parameters = omega (arith, height, even) in
      subst (λ n. IsBoundBody functions n (Some ts)) same
      (all_bound (known u forms ds d.types) (denotes u d.types) functions as_many (parameters d.signature) es ts d.signature.results p
      (defined_low d.signature.parameters d.signature.params no_names no_names_low) lit)

  function_bound : (d : Declared) (f : Function) → IsFit names d → IsFunctionOf u forms ds d f → IsBoundIn functions f
  function_bound d f fit p = subst (λ xs. IsBoundBody functions (length xs) f.body) (sym p.parameters) (body_bound d fit.0 d.function.kind f.body fit.1 p.body)

  functions_bound : (es : List Declared) (fs : List Function) → All (IsFit names) es → AreFunctionsOf u forms ds es fs → All (IsBoundIn functions) fs
  functions_bound _ _ fit units.no_function = All-nil (IsBoundIn functions)
  functions_bound _ _ fit (units.a_function {d = d} {f = f} {es = es} {fs = fs} p ps) =
      All-cons (IsBoundIn functions) f fs (function_bound d f (All-head (IsFit names) d es fit) p) (functions_bound es fs (All-tail (IsFit names) d es fit) ps)

  headers_there : (p : Program) → length p.names ≡ names → (es : List Declared) (fs : List Function) → All (IsFit names) es → AreFunctionsOf u forms ds es fs → All (HasHeader p) fs
  headers_there p same _ _ fit units.no_function = All-nil (HasHeader p)
  headers_there p same _ _ fit (units.a_function {d = d} {f = f} {es = es} {fs = fs} q qs) =
      let here = All-head (IsFit names) d es fit in let low = here.2 in let some = here.3 in let even = numbers_counted forms u.tokens.names f.results d.signature.results q.results in
      All-cons (HasHeader p) f fs (subst (λ n. f.name < n) (sym same) (subst (λ n. n < names) (sym q.name) low), omega (arith, some, even))
      (headers_there p same es fs (All-tail (IsFit names) d es fit) qs)

  defines_bound : (called : List Named) (ns : List ℕ) → AreDefined u ds called ns → All (λ n. n < functions) ns
  defines_bound _ _ units.no_name = All-nil (λ n. n < functions)
  defines_bound _ _ (units.a_name {n = n} {names = called} {ns = ns} p ps) =
      let there = slice_get_within (given ds) n p.function p.there in
      All-cons (λ n. n < functions) n ns (omega (arith, there, many)) (defines_bound called ns ps)

placed_counted : (n : ℕ) (ts : List Told) → length (placed n ts) ≡ length ts
placed_counted n [] = refl
placed_counted n (t ∷ ts) = ap suc (placed_counted (n + 1) ts)

-- the tokens of a text with their places
tokens_told : (names n : ℕ) (ts : List Told) → length ts ≤ 4194304 → All (λ (t : Told). IsOfText names t.kind) ts → AreTold names (placed n ts)
tokens_told names n [] few p = tt
tokens_told names n (t ∷ ts) few p =
    let same = placed_counted (n + 1) ts in
    ((All-head (λ (t : Told). IsOfText names t.kind) t ts p, omega (arith, few, same)), tokens_told names (n + 1) ts (omega (arith, few)) (All-tail (λ (t : Told). IsOfText names t.kind) t ts p))

pub unit_bound : BoundLaw
unit_bound u p sound spells t =
    let names = length u.tokens.names in
    let lit = fine names unit (placed 0 u.tokens.list) (record { defines = u.defines; items = u.items }) spells (tokens_told names 0 u.tokens.list sound.few sound.sound) in
    let many = functions_counted u p.types t.declared (given t.declared) p.functions t.functions in
    let fit = All-filter (λ d. is_given d.function) (IsFit names) t.declared (declared_fit u names [] u.items t.declared t.declares.declares lit) in
    record {
      headers = headers_there u names p.types t.declared (length p.functions) many p (ap length t.names) (given t.declared) p.functions fit t.functions;
      functions = functions_bound u names p.types t.declared (length p.functions) many (given t.declared) p.functions fit t.functions;
      defines = defines_bound u names p.types t.declared (length p.functions) many u.defines p.defines t.defines;
    }

pub text_bound : TextLaw
text_bound bytes u p lexed spells t = unit_bound u p (tokens_sound bytes u.tokens lexed) spells t
