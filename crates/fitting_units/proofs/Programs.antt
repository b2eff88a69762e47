-- The program of a typed unit fits, where the choices of its `tagcase`s do.
use Rattle.std.proofs.Common.{◌≡◌, ℕ, ◌+◌, List, [], ◌∷◌, map, Option, All, length, refl, sym, ap, ◌∙◌}
use Rattle.std.proofs.lemmas.List.{length-append, length-map}
use Rattle.std.proofs.lemmas.List.Elements.{All-nil, All-cons, All-head, All-tail, All-filter}
use Rattle.flow_value.specs.declared.ty.Ty.{Ty}
use Rattle.type_table.specs.declared.form.Form.{Form}
use Rattle.sisal_tree.specs.declared.unit.Field.{Field}
use Rattle.sisal_tree.specs.declared.unit.FunKind.{FunKind}
use Rattle.sisal_tree.specs.declared.unit.Item.{Item}
use Rattle.sisal_tree.specs.declared.unit.Unit as tree
use Rattle.typed_tree.specs.declared.expr.TypedExpr.{TypedExpr}
use Rattle.typed_tree.specs.declared.program.Function.{Function}
use Rattle.typed_tree.specs.declared.program.Program.{Program}
use Rattle.typed_tree.specs.Scopes.{no_names}
use Rattle.typed_tree.specs.Types.{AreNumbers}
use Rattle.typed_tree.specs.Typing.{Signature, names_of}
use Rattle.typed_tree.specs.Units as units
use Rattle.typed_tree.specs.Units.{Declared, is_given, given, signatures, parameters, denotes, known, HasParams, Declares, HasBody, IsFunctionOf, AreFunctionsOf, IsTyped}
use Rattle.fitting_trees.specs.Fitting.{Header, BodyFits, FunctionFits, FunctionsFit, IsFittingTree}
use Rattle.fitting_units.specs.Leaves.{IsWrittenBody, IsWrittenProgram}
use Rattle.fitting_units.proofs.Levels.{IsScope, define_all_scope}
use Rattle.fitting_units.specs.Laws.{header, headers, UnitsFit}
use Rattle.fitting_units.proofs.Walk.{AreTagsFit, all_fit}
use Rattle.fitting_units.proofs.Tags.{tags_fit}

-- a function has as many parameters as types of parameters
abbrev IsEven : Declared → Type 0
IsEven d = length d.signature.parameters ≡ length d.signature.params

params_even : (u : tree.Unit) (types : List (ℕ × Ty)) (fs : List Field) (xs : List ℕ) (tys : List Ty) → HasParams u types fs xs tys → length xs ≡ length tys
params_even u types _ _ _ units.no_field = refl
params_even u types _ _ _ (units.a_field {f = f} {a = a} {fs = fs} {xs = xs} {tys = tys} h p) =
    length-append (names_of f.names) xs ∙ ap (λ n. n + length xs) (length-map f.names (λ n. n.name) ∙ sym (length-map f.names (λ n. a)))
    ∙ ap (λ n. length (map (λ n. a) f.names) + n) (params_even u types fs xs tys p) ∙ sym (length-append (map (λ n. a) f.names) tys)

declared_even : (u : tree.Unit) (types : List (ℕ × Ty)) (items : List Item) (ds : List Declared) → Declares u types items ds → All IsEven ds
declared_even u types _ _ units.no_item = All-nil IsEven
declared_even u types _ ds (units.a_type {d = d} {a = a} {items = items} h e p) = declared_even u ((d.name, a) ∷ types) items ds p
declared_even u types _ _ (units.a_function {f = f} {s = s} {items = items} {ds = ds} h p) =
    All-cons IsEven (record { function = f; types = types; signature = s }) ds (params_even u types f.header.params s.parameters s.params h.params) (declared_even u types items ds p)

module _ (u : tree.Unit) (forms : List Form) (ds : List Declared) (tags_fit : (types : List (ℕ × Ty)) → AreTagsFit (known u forms ds types) (denotes u types)) where
  abbrev Hs : List Header
  Hs = headers (signatures ds)

  abbrev Numbers : List ℕ → List Ty → Type 0
  Numbers = AreNumbers forms u.tokens.names

  parameters_scope : (s : Signature) → length s.parameters ≡ length s.params → IsScope s.params (parameters s)
  parameters_scope s e = define_all_scope s.parameters s.params [] no_names e (record { height = refl; names = tt; olds = tt })

  body_fits : (d : Declared) → IsEven d → (kind : FunKind) (o : Option (List TypedExpr)) → IsWrittenBody o → HasBody u (known u forms ds d.types) d.signature kind o → BodyFits Numbers Hs (header d.signature) o
  body_fits d even _ _ w units.global = tt
  body_fits d even _ _ w (units.defined {es = es} {ts = ts} p) =
      all_fit (known u forms ds d.types) (denotes u d.types) (tags_fit d.types) (parameters d.signature) es ts d.signature.results p d.signature.params (parameters_scope d.signature even) w

  function_fits : (d : Declared) (f : Function) → IsEven d → IsWrittenBody f.body → IsFunctionOf u forms ds d f → FunctionFits Numbers Hs (header d.signature) f
  function_fits d f even w p = record { params = p.params; results = p.results; body = body_fits d even d.function.kind f.body w p.body }

  functions_fit : (es : List Declared) (fs : List Function) → All IsEven es → IsWrittenProgram fs → AreFunctionsOf u forms ds es fs → FunctionsFit Numbers Hs (headers (map (λ d. d.signature) es)) fs
  functions_fit _ _ even w units.no_function = tt
  functions_fit _ _ even w (units.a_function {d = d} {f = f} {es = es} {fs = fs} p ps) = (
    function_fits d f (All-head IsEven d es even) (All-head (λ (f : Function). IsWrittenBody f.body) f fs w) p,
    functions_fit es fs (All-tail IsEven d es even) (All-tail (λ (f : Function). IsWrittenBody f.body) f fs w) ps,
  )

pub program_fits : (u : tree.Unit) (p : Program) (t : IsTyped u p) → ((types : List (ℕ × Ty)) → AreTagsFit (known u p.types t.declared types) (denotes u types)) → IsWrittenProgram p.functions
    → IsFittingTree p.types u.tokens.names (headers (signatures t.declared)) p.functions
program_fits u p t tags w = record {
  fits = functions_fit u p.types t.declared tags (given t.declared) p.functions (All-filter (λ d. is_given d.function) IsEven t.declared (declared_even u [] u.items t.declared t.declares.declares)) w t.functions;
}

pub units_fit : UnitsFit
units_fit u p once tags w t = program_fits u p t (λ types. tags_fit (known u p.types t.declared types) (denotes u types) once tags) w
