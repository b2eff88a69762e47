-- What the source gives within the limit, a run gives.
use Rattle.std.proofs.Common.{◌≡◌, ◌≤◌, ◌<◌, ◌*◌, ◌∙◌, ℕ, List, map, Option, Some, None, refl, sym, ap, subst, arith}
use Rattle.std.proofs.lemmas.Option.{same_Some}
use Rattle.flow_value.specs.declared.ty.Ty.{Ty}
use Rattle.flow_value.specs.declared.value.Val.{Val}
use Rattle.if1_graph.specs.declared.graph.Unit1.{Unit1}
use Rattle.if1_valid.specs.Params.{params_of}
use Rattle.unit_entry.specs.Entries.{entry_of, first_lacking}
use Rattle.marks_made.specs.Units.{marks_of}
use Rattle.graph_meaning.specs.Carried.{Value}
use Rattle.graph_meaning.specs.Networks.{network}
use Rattle.graph_meaning.specs.Plain.{Costs}
use Rattle.sisal_tree.specs.declared.unit.Unit as tree
use Rattle.typed_tree.specs.declared.program.Program.{Program}
use Rattle.lowering.specs.Programs.{number_of}
use Rattle.lowering_meaning.specs.Laws.{IsMeant}
use Rattle.lowering_meaning.proofs.Runs.{runs-meant}
use Rattle.meaning.specs.Plain.{plain_calls}
use Rattle.meaning_laws.specs.Laws.{IsCallOne}
use Rattle.mean_call.specs.Calls.{Gives as HasValues}
use Rattle.mean_call.specs.Words.{AreRead, AreRefused}
use Rattle.mean_call.specs.declared.fault.ArgumentFault.{ArgumentFault}
use Rattle.mean_call.specs.declared.fault.ArgumentFault.TheVariants as argument
use Rattle.mean_call.specs.declared.fault.Refusal.{Refusal}
use Rattle.mean_call.specs.declared.fault.Refusal.TheVariants as refusal
use Rattle.mean_call.proofs.One.{one_entry, one_reading}
use Rattle.one_meaning.specs.Laws.{AreWordsOnce}
use Rattle.run_words.specs.declared.command.RunSet.{RunSet}
use Rattle.run_call.specs.Calls.{Gives as GivesRun, IsEntry, HasWrongWords, PassesLimit, IsRefused}
use Rattle.run_call.specs.Totals.{Totals}
use Rattle.entry_laws.proofs.Entries.{programs-entries, unit-lacks}
use Rattle.run_meaning.specs.Laws.{IsRunUnit, meant, AreSourcesRun}
use Rattle.run_meaning.proofs.Sourced.{call, runs-of-sources}

absent : (o : Option (List ℕ)) (name : List ℕ) → o ≡ None → o ≡ Some name → ⊥
absent o name a b = let e : None ≡ Some name = sym a ∙ b in cc

missing : (o : Option ℕ) (n : ℕ) → o ≡ Some n → o ≡ None → ⊥
missing o n a b = let e : Some n ≡ None = sym a ∙ b in cc

-- a program gives one list of values on words, in one number of steps
pub given-once : IsCallOne → (p : Program) (set : RunSet) (l m : ℕ) (vs ws : List Val) (a : HasValues p (meant set l) vs) (b : HasValues p (meant set m) ws) → (vs ≡ ws) × (a.steps ≡ b.steps)
given-once calls p set l m vs ws a b =
    let e = one_entry p set.entry a.function b.function a.types b.types a.entry b.entry in
    let args : a.args ≡ b.args = one_reading set.values b.types a.args b.args (subst (λ ts. AreRead set.values ts a.args) e.1 a.read) b.read in
    let moved : plain_calls a.depth p.functions b.function b.args ≡ Some (vs, a.steps) =
    sym (ap (λ f. plain_calls a.depth p.functions f a.args) e.0 ∙ ap (λ xs. plain_calls a.depth p.functions b.function xs) args) ∙ a.given in
    let same : (vs, a.steps) ≡ (ws, b.steps) = calls p.functions b.function b.args a.depth b.depth (vs, a.steps) (ws, b.steps) moved b.given in
    (ap (λ (x : List Val × ℕ). x.0) same, ap (λ (x : List Val × ℕ). x.1) same)

module _ (calls : IsCallOne) (words : AreWordsOnce) where
  module _ (bytes : List ℕ) (u : tree.Unit) (p : Program) (v : Unit1) (h : IsRunUnit bytes u p v) (set : RunSet) (values : List Val) (limit : ℕ) (g : HasValues p (meant set limit) values) where
    abbrev w : Unit1
    w = marks_of v

    entry : (entry_of w set.entry ≡ Some (number_of p g.function)) × (params_of w (number_of p g.function) ≡ Some g.types)
    entry = programs-entries bytes u p v set.entry g.function g.types h.source g.entry

    linked : first_lacking w ≡ None
    linked = (unit-lacks bytes u p v h.source).1 g.linked

    cost : IsMeant (network w) (number_of p g.function) g.args values g.steps
    cost = runs-meant p v g.function g.args values g.steps (call bytes u p v h set g.function g.types g.args g.entry g.read) (g.depth, g.given)

    -- what the word names in the unit has these types
    function-is : (function : ℕ) (types : List Ty) → IsEntry w set.entry function types → number_of p g.function ≡ function
    function-is function types e = same_Some (number_of p g.function) function (sym entry.0 ∙ e.called)

    types-are : (function : ℕ) (types : List Ty) → IsEntry w set.entry function types → types ≡ g.types
    types-are function types e = same_Some types g.types (sym e.arguments ∙ (sym (ap (params_of w) (function-is function types e)) ∙ entry.1))

    no-fault : (fault : ArgumentFault) → HasWrongWords w set fault → ⊥
    no-fault fault x = words.either set.values g.types g.args fault g.read (subst (λ ts. AreRefused set.values ts (refusal.Argument fault)) (types-are x.function x.types x.entry) x.refused)

    within : 8 * g.steps ≤ set.limit → PassesLimit w set → ⊥
    within le x =
        let function = function-is x.function x.call.types x.call.entry in
        let types = types-are x.function x.call.types x.call.entry in
        let args : x.args ≡ g.args = one_reading set.values g.types x.args g.args (subst (λ ts. AreRead set.values ts x.args) types x.call.read) g.read in
        let costs : Costs (network w) cost.depth x.function (map Value x.args) cost.cost =
        subst (λ vs. Costs (network w) cost.depth x.function (map Value vs) cost.cost) (sym args) (subst (λ n. Costs (network w) cost.depth n (map Value g.args) cost.cost) function cost.costs) in
        let over : set.limit < cost.cost = x.longer cost.depth cost.cost costs in
        let bound : cost.cost ≤ 8 * g.steps = cost.bound in
        absurd (omega (arith, over, bound, le))

    not-refused : 8 * g.steps ≤ set.limit → (r : Refusal) → IsRefused w set r → r ≡ refusal.NoMemory
    not-refused le (refusal.Unlinked name) x = absurd (absent (first_lacking w) name linked x)
    not-refused le (refusal.Argument argument.Entry) x = absurd (missing (entry_of w set.entry) (number_of p g.function) entry.0 x.none)
    not-refused le (refusal.Argument (argument.Count wanted given)) x = absurd (no-fault (argument.Count wanted given) x)
    not-refused le (refusal.Argument (argument.Value k fault)) x = absurd (no-fault (argument.Value k fault) x)
    not-refused le refusal.TurnLimit x = absurd (within le x)
    not-refused le refusal.NoMemory x = refl

    values-are : (t : Totals) → GivesRun w set t → (t.results ≡ values) × (t.fires ≤ 8 * g.steps)
    values-are t r =
        let s = runs-of-sources bytes u p v set t h r in
        let same = given-once calls p set s.limit limit t.results values s.given g in
        (same.0, subst (λ n. t.fires ≤ 8 * n) same.1 s.bound)

  pub sources-run : AreSourcesRun
  sources-run bytes u p v set values limit h g le =
      record { values_are = values-are bytes u p v h set values limit g; not_refused = not-refused bytes u p v h set values limit g le }
