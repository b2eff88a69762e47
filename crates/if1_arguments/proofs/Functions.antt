-- The arguments of the function of a number.
use Rattle.std.proofs.Common.{◌≡◌, ℕ, List, map, Option, Some, None, is_some, option_map, true, refl, sym, ap, subst, ◌∙◌}
use Rattle.flow_value.specs.declared.ty.Ty.{Ty}
use Rattle.if1_graph.specs.declared.graph.Graph.{Graph}
use Rattle.if1_graph.specs.declared.graph.Graph.TheViews.{out-Graph}
use Rattle.if1_graph.specs.declared.graph.Unit1.{Unit1}
use Rattle.if1_graph.specs.Tables.{◌>>=◌}
use Rattle.if1_graph.specs.Ready.{IsReady}
use Rattle.if1_graph.specs.Types.{params_at}
use Rattle.if1_types.specs.declared.numbered.Sorts.{Sorts}
use Rattle.if1_types.specs.declared.parameters.Parameter.{Parameter}
use Rattle.if1_types.specs.Numbering.{IsNumbering}
use Rattle.if1_types.specs.Parameters.{params_at as labelled}
use Rattle.if1_valid.specs.Params.{function_of, params_of}
use Rattle.if1_valid.proofs.Headers.{has_params}
use Rattle.if1_arguments.specs.Arguments.{AreArgumentsOf}
use Rattle.value_text.specs.Numbered.{StandForAll}
use Rattle.if1_arguments.specs.Numbered.{numbered}
use Rattle.if1_arguments.proofs.Reading.{parameters_stand, parameters_there}

-- the types of a function's arguments, by the label of its type
record HasTypes (u : Unit1) (function label : ℕ) : Type 0 where
  types : List Ty
  are : params_of u function ≡ Some types
  by_label : params_at u.types label ≡ Some types

has_types : (u : Unit1) (function label : ℕ) → IsReady u → is_some (function_of u function) ≡ true → Some label ≡ option_map (λ g. (out-Graph g).fun) (function_of u function) → HasTypes u function label
has_types u function label ready there is = by (function_of u function) refl is (params_of u function) refl (has_params u ready function there)
  where
    by : (o : Option Graph) → function_of u function ≡ o → Some label ≡ option_map (λ g. (out-Graph g).fun) o → (p : Option (List Ty)) → params_of u function ≡ p → is_some p ≡ true → HasTypes u function label
    by None e is p f some = cc
    by (Some g) e is None f some = cc
    by (Some g) e is (Some types) f some =
        let same : label ≡ (out-Graph g).fun = cc in
        record { types = types; are = f; by_label = ap (params_at u.types) same ∙ (sym (ap (λ o. o >>= λ g. params_at u.types (out-Graph g).fun) e) ∙ f) }

pub label_there : (u : Unit1) (function : ℕ) → is_some (function_of u function) ≡ true → None ≡ option_map (λ g. (out-Graph g).fun) (function_of u function) → ⊥
label_there u function there is = by (function_of u function) there is
  where
    by : (o : Option Graph) → is_some o ≡ true → None ≡ option_map (λ g. (out-Graph g).fun) o → ⊥
    by None some is = cc
    by (Some g) some is = cc

module _ (u : Unit1) (s : Sorts) (ready : IsReady u) (n : IsNumbering u.types s) where
  pub arguments_are : (function label : ℕ) (ps : List Parameter) (ns : List ℕ) → is_some (function_of u function) ≡ true → Some label ≡ option_map (λ g. (out-Graph g).fun) (function_of u function)
      → Some ps ≡ labelled u.types s label → ns ≡ map (λ p. p.ty) ps → AreArgumentsOf u function (numbered s.shapes) ns
  arguments_are function label ps ns there is found numbers =
      let h = has_types u function label ready there is in
      record { arguments = h.types; are = h.are; stand = subst (λ ns. StandForAll (numbered s.shapes) ns h.types) (sym numbers) (parameters_stand u.types s n h.types label ps h.by_label found) }

  pub arguments_there : (function label : ℕ) → is_some (function_of u function) ≡ true → Some label ≡ option_map (λ g. (out-Graph g).fun) (function_of u function) → None ≡ labelled u.types s label → ⊥
  arguments_there function label there is found =
      let h = has_types u function label ready there is in
      parameters_there u.types s n h.types label h.by_label found
