-- A unit has one typed tree over a table in which each type has one number.
use Rattle.std.proofs.Common.{◌≡◌, ℕ, List, ◌∷◌, Contains, refl, sym, ap, subst, ◌∙◌, Option, Some}
use Rattle.flow_value.specs.declared.ty.Ty.{Ty}
use Rattle.type_table.specs.declared.form.Form.{Form}
use Rattle.sisal_tree.specs.declared.unit.FunKind.{FunKind}
use Rattle.sisal_tree.specs.declared.unit.Unit as tree
use Rattle.typed_tree.specs.declared.expr.TypedExpr.{TypedExpr}
use Rattle.typed_tree.specs.declared.program.Function.{Function}
use Rattle.typed_tree.specs.declared.program.Program.{Program}
use Rattle.typed_tree.specs.Units.{is_given, Declared, given, signatures, parameters, denotes, known, AreDeclared, HasBody, global, defined, IsFunctionOf, AreFunctionsOf, no_function, a_function}
use Rattle.typed_tree.specs.Faults.{misnames}
use Rattle.typing_unique.specs.InvertedTree.{AreNumbered}
use Rattle.typing_unique.specs.UnitLaws.{AreSpelledOnce, IsEachOnce, OneTreeLaw}
use Rattle.typing_unique.proofs.UDeclared.{first_there, later_there, filter_there}
use Rattle.typing_unique.proofs.UFair.{fair}
use Rattle.typing_unique.proofs.UPrograms.{typed_at, one_declared, one_signature, same_program}
use Rattle.typing_unique.proofs.UBodies.{parameters_proper}
use Rattle.typing_unique.proofs.ETreeParts.{numbers_one}
use Rattle.typing_unique.proofs.ETree.{all_trees}

pub same_function : (f g : Function) → f.line ≡ g.line → f.name ≡ g.name → f.parameters ≡ g.parameters → f.params ≡ g.params → f.results ≡ g.results → f.body ≡ g.body → f ≡ g
same_function f g a b c d e h =
    made (λ z. record { line = z; name = f.name; parameters = f.parameters; params = f.params; results = f.results; body = f.body }) f.line g.line a
    ∙ made (λ z. record { line = g.line; name = z; parameters = f.parameters; params = f.params; results = f.results; body = f.body }) f.name g.name b
    ∙ made (λ z. record { line = g.line; name = g.name; parameters = z; params = f.params; results = f.results; body = f.body }) f.parameters g.parameters c
    ∙ made (λ z. record { line = g.line; name = g.name; parameters = g.parameters; params = z; results = f.results; body = f.body }) f.params g.params d
    ∙ made (λ z. record { line = g.line; name = g.name; parameters = g.parameters; params = g.params; results = z; body = f.body }) f.results g.results e
    ∙ made (λ z. record { line = g.line; name = g.name; parameters = g.parameters; params = g.params; results = g.results; body = z }) f.body g.body h
  where
    made : {A : Type 0} (f : A → Function) (x y : A) → x ≡ y → f x ≡ f y
    made f x y e = ap f e

pub same_parts : (p q : Program) → p.names ≡ q.names → p.types ≡ q.types → p.functions ≡ q.functions → p.defines ≡ q.defines → p ≡ q
same_parts p q a b c d =
    made (λ z. record { names = z; types = p.types; functions = p.functions; defines = p.defines }) p.names q.names a
    ∙ made (λ z. record { names = q.names; types = z; functions = p.functions; defines = p.defines }) p.types q.types b
    ∙ made (λ z. record { names = q.names; types = q.types; functions = z; defines = p.defines }) p.functions q.functions c
    ∙ made (λ z. record { names = q.names; types = q.types; functions = q.functions; defines = z }) p.defines q.defines d
  where
    made : {A : Type 0} (f : A → Program) (x y : A) → x ≡ y → f x ≡ f y
    made f x y e = ap f e

module _ (u : tree.Unit) (once : AreSpelledOnce u.tokens.names) (ds : List Declared) (are : AreDeclared u ds) (forms : List Form) (each : IsEachOnce forms u.tokens.names) where
  -- a name of a function has one number
  numbered : (types : List (ℕ × Ty)) → AreNumbered (known u forms ds types)
  numbered types = record {
    types = each;
    functions = λ x n m f g p q. one_signature (signatures ds) f g n m are.distinct p.there q.there (p.named ∙ sym q.named);
  }

  one_body : (d : Declared) → Contains ds d → (kind : FunKind) (o r : Option (List TypedExpr)) → HasBody u (known u forms ds d.types) d.signature kind o
      → HasBody u (known u forms ds d.types) d.signature kind r → o ≡ r
  one_body d c _ _ _ global global = refl
  one_body d c _ _ _ (defined {es = es} {ts = ts} p) (defined {ts = us} q) =
      ap Some (all_trees (known u forms ds d.types) (denotes u d.types) (misnames u d.types) (fair u once ds are forms d c) (numbered d.types)
      (parameters d.signature) es ts d.signature.results p (parameters_proper u once ds are d c) us d.signature.results q)

  one_function : (d : Declared) → Contains ds d → (f g : Function) → IsFunctionOf u forms ds d f → IsFunctionOf u forms ds d g → f ≡ g
  one_function d c f g p q =
      same_function f g (p.line ∙ sym q.line) (p.name ∙ sym q.name) (p.parameters ∙ sym q.parameters)
      (numbers_one (known u forms ds d.types) (numbered d.types) f.params g.params d.signature.params p.params q.params)
      (numbers_one (known u forms ds d.types) (numbered d.types) f.results g.results d.signature.results p.results q.results)
      (one_body d c d.function.kind f.body g.body p.body q.body)

  one_functions : (es : List Declared) → ((d : Declared) → Contains es d → Contains ds d) → (fs gs : List Function) → AreFunctionsOf u forms ds es fs → AreFunctionsOf u forms ds es gs → fs ≡ gs
  one_functions _ there _ _ no_function no_function = refl
  one_functions _ there _ _ (a_function {d = d} {f = f} {es = es} {fs = fs} p ps) (a_function {f = g} {fs = gs} q qs) =
      ap (λ h. h ∷ fs) (one_function d (there d (first_there d es)) f g p q)
      ∙ ap (λ l. g ∷ l) (one_functions es (λ e c. there e (later_there e d es c)) fs gs ps qs)

pub one_tree_law : OneTreeLaw
one_tree_law u p q once s t e each =
    let at = typed_at u q s.declared t (one_declared u t.declared s.declared t.declares s.declares) in
    let same = same_program u p q s t in
    let others : AreFunctionsOf u p.types s.declared (given s.declared) q.functions = subst (λ f. AreFunctionsOf u f s.declared (given s.declared) q.functions) (sym e) at.functions in
    same_parts p q same.names e
    (one_functions u once s.declared s.declares p.types each (given s.declared) (λ d c. filter_there (λ d. is_given d.function) d s.declared c) p.functions q.functions s.functions others)
    same.defines
