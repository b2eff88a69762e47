-- Two typed trees of one unit are one where numbers of one type are given one number.
use Rattle.std.proofs.Common.{◌≡◌, ℕ, List, [], ◌∷◌, map, Contains, refl, sym, ap, ◌∙◌, Option, Some}
use Rattle.flow_value.specs.declared.ty.Ty.{Ty}
use Rattle.type_table.specs.declared.form.Form.{Form}
use Rattle.sisal_tree.specs.declared.unit.FunKind.{FunKind}
use Rattle.sisal_tree.specs.declared.unit.Unit as tree
use Rattle.typed_tree.specs.declared.expr.TypedExpr.{TypedExpr}
use Rattle.typed_tree.specs.declared.program.Function.{Function}
use Rattle.typed_tree.specs.Typing.{Signature, IsFunction}
use Rattle.typed_tree.specs.Units.{is_given, Declared, given, signatures, parameters, denotes, known, AreDeclared, HasBody, global, defined, IsFunctionOf, AreFunctionsOf, no_function, a_function}
use Rattle.typed_tree.specs.Faults.{misnames}
use Rattle.typing_unique.specs.UnitLaws.{AreSpelledOnce}
use Rattle.typing_unique.specs.Bare.{renumbered_body, renumbered_function, renumbered_program, OneShapeLaw, OneRenumberedLaw}
use Rattle.typing_unique.proofs.UDeclared.{first_there, later_there, filter_there}
use Rattle.typing_unique.proofs.UFair.{fair}
use Rattle.typing_unique.proofs.UPrograms.{typed_at, one_declared, one_signature, same_program}
use Rattle.typing_unique.proofs.UBodies.{parameters_proper}
use Rattle.typing_unique.proofs.UTree.{same_function, same_parts}
use Rattle.typing_unique.proofs.EBareParts.{Agree, same_numbers}
use Rattle.typing_unique.proofs.EBare.{all_shapes}

module _ (u : tree.Unit) (once : AreSpelledOnce u.tokens.names) (ds : List Declared) (are : AreDeclared u ds) (f1 f2 : List Form) (to other : ℕ → ℕ) (agree : Agree to other f1 f2 u.tokens.names) where
  -- a name of a function has one number
  one_number : (types : List (ℕ × Ty)) (x n m : ℕ) (f g : Signature) → IsFunction (known u f1 ds types) x n f → IsFunction (known u f1 ds types) x m g → n ≡ m
  one_number types x n m f g p q = one_signature (signatures ds) f g n m are.distinct p.there q.there (p.named ∙ sym q.named)

  one_body : (d : Declared) → Contains ds d → (kind : FunKind) (o r : Option (List TypedExpr)) → HasBody u (known u f1 ds d.types) d.signature kind o
      → HasBody u (known u f2 ds d.types) d.signature kind r → renumbered_body to o ≡ renumbered_body other r
  one_body d c _ _ _ global global = refl
  one_body d c _ _ _ (defined {es = es} {ts = ts} p) (defined {ts = us} q) =
      ap Some (all_shapes (known u f1 ds d.types) f1 f2 (denotes u d.types) (misnames u d.types) (fair u once ds are f1 d c) to other agree (one_number d.types)
      (parameters d.signature) es ts d.signature.results p (parameters_proper u once ds are d c) us d.signature.results q)

  one_function : (d : Declared) → Contains ds d → (f g : Function) → IsFunctionOf u f1 ds d f → IsFunctionOf u f2 ds d g → renumbered_function to f ≡ renumbered_function other g
  one_function d c f g p q =
      same_function (renumbered_function to f) (renumbered_function other g) (p.line ∙ sym q.line) (p.name ∙ sym q.name) (p.parameters ∙ sym q.parameters)
      (same_numbers to other f1 f2 u.tokens.names agree f.params g.params d.signature.params p.params q.params)
      (same_numbers to other f1 f2 u.tokens.names agree f.results g.results d.signature.results p.results q.results)
      (one_body d c d.function.kind f.body g.body p.body q.body)

  one_functions : (es : List Declared) → ((d : Declared) → Contains es d → Contains ds d) → (fs gs : List Function) → AreFunctionsOf u f1 ds es fs → AreFunctionsOf u f2 ds es gs
      → map (renumbered_function to) fs ≡ map (renumbered_function other) gs
  one_functions _ there _ _ no_function no_function = refl
  one_functions _ there _ _ (a_function {d = d} {f = f} {es = es} {fs = fs} p ps) (a_function {f = g} {fs = gs} q qs) =
      ap (λ h. h ∷ map (renumbered_function to) fs) (one_function d (there d (first_there d es)) f g p q)
      ∙ ap (λ l. renumbered_function other g ∷ l) (one_functions es (λ e c. there e (later_there e d es c)) fs gs ps qs)

pub one_renumbered_law : OneRenumberedLaw
one_renumbered_law u p q to other forms once s t agree =
    let at = typed_at u q s.declared t (one_declared u t.declared s.declared t.declares s.declares) in
    let same = same_program u p q s t in
    same_parts (renumbered_program to forms p) (renumbered_program other forms q) same.names refl
    (one_functions u once s.declared s.declares p.types q.types to other agree (given s.declared) (λ d c. filter_there (λ d. is_given d.function) d s.declared c) p.functions q.functions s.functions at.functions)
    same.defines

pub one_shape_law : OneShapeLaw
one_shape_law u p q once s t = one_renumbered_law u p q (λ n. 0) (λ n. 0) [] once s t (λ n m a x y. refl)
