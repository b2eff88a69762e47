-- What the lines of a function carry, by its body.
use Rattle.std.proofs.Common.{◌≡◌, List, [], ◌∷◌, map, Option, Some, None, refl, sym, ap, ◌∙◌}
use Rattle.type_table.specs.declared.form.Form.{Form}
use Rattle.typed_tree.specs.declared.expr.TypedExpr.{TypedExpr}
use Rattle.typed_tree.specs.declared.program.Function.{Function}
use Rattle.line_types.specs.Traces.{Traces, ones, each, phrase, traces, all_traced, graph_lines, body_lines, function_lines}
use Rattle.line_walk.specs.Met.{exprs_met}

module _ (forms : List Form) where
  each-traces : (es : List TypedExpr) → each (map (phrase forms) es) ≡ map (traces forms) es
  each-traces [] = refl
  each-traces (e ∷ es) = ap (λ (l : List Traces). traces forms e ∷ l) (each-traces es)

  pub body-is : (f : Function) (es : List TypedExpr) → f.body ≡ Some es → graph_lines (exprs_met forms es (ones f.params) ∷ []) ≡ function_lines forms f
  body-is f es is =
      ap (λ (l : List Traces). graph_lines (all_traced l (ones f.params) ∷ [])) (each-traces es)
      ∙ sym (ap (λ (o : Option (List TypedExpr)). body_lines forms o f.params f.results) is)

  pub stub-is : (f : Function) → f.body ≡ None → ones f.results ≡ function_lines forms f
  stub-is f is = sym (ap (λ (o : Option (List TypedExpr)). body_lines forms o f.params f.results) is)
