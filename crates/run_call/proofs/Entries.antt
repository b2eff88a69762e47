-- The entry of a unit is one of its functions, and words that are read are as many as its arguments.
use Rattle.std.proofs.Common.{◌≡◌, ℕ, suc, List, [], ◌∷◌, length, Bool, true, false, Option, Some, None, is_some, option_map, find, cond, eqb, refl, sym, ap, ◌∙◌}
use Rattle.std.proofs.lemmas.Bool.{eq-eqb}
use Rattle.std.proofs.lemmas.Option.{same_Some}
use Rattle.std.proofs.lemmas.Result.{IfErr-weaker, IfOk-weaker}
use Rattle.std.specs.Prelude.{Result, IfOk, IfErr}
use Rattle.flow_value.specs.declared.ty.Ty.{Ty}
use Rattle.flow_value.specs.declared.value.Val.{Val}
use Rattle.if1_graph.specs.declared.graph.Graph.{Graph}
use Rattle.if1_graph.specs.declared.graph.Graph.TheViews.{out-Graph}
use Rattle.if1_graph.specs.declared.graph.Unit1.{Unit1}
use Rattle.unit_entry.specs.Entries.{entry_of, first_lacking, is_called}
use Rattle.if1_valid.specs.Params.{function_in, function_of}
use Rattle.mean_call.specs.Words.{AreRead, AreRefused}
use Rattle.mean_call.specs.declared.fault.ArgumentFault.TheVariants as argument
use Rattle.mean_call.specs.declared.fault.Refusal.{Refusal}
use Rattle.mean_call.specs.declared.fault.Refusal.TheVariants as refusal
use Rattle.run_words.specs.declared.command.RunSet.{RunSet}
use Rattle.unit_code.specs.Runs.{AreArguments}
use Rattle.run_call.specs.Calls.{IsCall, IsEntry, IsRefused}

-- one of these graphs has the number that this one has
by_number : (g : Graph) (gs : List Graph) (number : ℕ) (b : Bool) → eqb (out-Graph g).number number ≡ b → (b ≡ false → is_some (function_in gs number) ≡ true) → is_some (cond b (Some g) (function_in gs number)) ≡ true
by_number g gs number true e others = refl
by_number g gs number false e others = others refl

passed : (g : Graph) (number : ℕ) (b : Bool) (others : Option Graph) → eqb (out-Graph g).number number ≡ false → option_map (λ g. (out-Graph g).number) (cond b (Some g) others) ≡ Some number → option_map (λ g. (out-Graph g).number) others ≡ Some number
passed g number true others other e =
    let same : (out-Graph g).number ≡ number = same_Some (out-Graph g).number number e in
    let no : true ≡ false = sym (eq-eqb (out-Graph g).number number same) ∙ other in
    cc
passed g number false others other e = e

found : (test : Graph → Bool) (gs : List Graph) (number : ℕ) → option_map (λ g. (out-Graph g).number) (find test gs) ≡ Some number → is_some (function_in gs number) ≡ true
found test [] number e = cc
found test (g ∷ gs) number e = by_number g gs number (eqb (out-Graph g).number number) refl (λ other. found test gs number (passed g number (test g) (find test gs) other e))

pub is_function : (u : Unit1) (word : List ℕ) (function : ℕ) → entry_of u word ≡ Some function → is_some (function_of u function) ≡ true
is_function u word function e = found (is_called word) u.graphs function e

as_many : (words : List (List ℕ)) (types : List Ty) (values : List Val) → AreRead words types values → length values ≡ length types
as_many [] [] [] r = refl
as_many [] [] (v ∷ vs) r = absurd r
as_many [] (t ∷ ts) vs r = absurd r
as_many (w ∷ ws) [] vs r = absurd r
as_many (w ∷ ws) (t ∷ ts) [] r = absurd r
as_many (w ∷ ws) (t ∷ ts) (v ∷ vs) r = ap suc (as_many ws ts vs r.1)

-- the arguments of a call are as many as its function has
pub are_arguments : (u : Unit1) (set : RunSet) (function : ℕ) (args : List Val) → IsCall u set function args → AreArguments u function args
are_arguments u set function args c = (c.types, c.entry.arguments, as_many set.values c.types args c.read)

-- the words are no values of the entry's arguments
pub refused_words : (u : Unit1) (set : RunSet) (function : ℕ) (types : List Ty) (e : Refusal) → first_lacking u ≡ None → IsEntry u set.entry function types → AreRefused set.values types e → IsRefused u set e
refused_words u set function types (refusal.Unlinked name) linked entry r = absurd r
refused_words u set function types (refusal.Argument argument.Entry) linked entry r = absurd r
refused_words u set function types (refusal.Argument (argument.Count wanted given)) linked entry r = record { linked = linked; function = function; types = types; entry = entry; refused = r }
refused_words u set function types (refusal.Argument (argument.Value k fault)) linked entry r = record { linked = linked; function = function; types = types; entry = entry; refused = r }
refused_words u set function types refusal.TurnLimit linked entry r = absurd r
refused_words u set function types refusal.NoMemory linked entry r = tt

-- words at the types of the entry's arguments: the arguments of a call, or why there is none
module _ (u : Unit1) (set : RunSet) (function : ℕ) (types : List Ty) (linked : first_lacking u ≡ None) (entry : IsEntry u set.entry function types) (r : Result (List Val) Refusal) where
  pub called_with : IfOk r (AreRead set.values types) → IfOk r (IsCall u set function)
  called_with = IfOk-weaker r (AreRead set.values types) (IsCall u set function) (λ vs read. record { linked = linked; types = types; entry = entry; read = read })

  pub not_called : IfErr r (AreRefused set.values types) → IfErr r (IsRefused u set)
  not_called = IfErr-weaker r (AreRefused set.values types) (IsRefused u set) (λ e. refused_words u set function types e linked entry)
