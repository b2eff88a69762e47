-- Words are one call, and a call has one run.
use Rattle.std.proofs.Common.{◌≡◌, ◌<◌, ◌≤◌, ◌∙◌, ℕ, List, map, ap, sym, subst, arith}
use Rattle.std.proofs.lemmas.Option.{same_Some}
use Rattle.flow_value.specs.declared.value.Val.{Val}
use Rattle.run_words.specs.declared.command.RunSet.{RunSet}
use Rattle.if1_graph.specs.declared.graph.Unit1.{Unit1}
use Rattle.if1_valid.specs.Params.{params_of}
use Rattle.graph_meaning.specs.Carried.{Carried, Value, val_of}
use Rattle.graph_meaning.specs.Laws.{AreUnitCopiesOne, IsCostOne, IsMeaningOne}
use Rattle.graph_meaning.specs.Networks.{network}
use Rattle.graph_meaning.specs.Storage.{capped}
use Rattle.mean_call.specs.Words.{AreRead}
use Rattle.mean_call.proofs.One.{one_reading}
use Rattle.unit_code.specs.Runs.{AreTotalsOf}
use Rattle.unit_code.specs.declared.runs.Totals.{Totals}
use Rattle.run_call.specs.Calls.{IsCall, PassesOn}
use Rattle.run_call.specs.Laws.{IsNoneBeyond, IsOneRun}

record IsSame (f g : ℕ) (vs ws : List Val) : Type 0 where
  function : f ≡ g
  args : vs ≡ ws

one_call : (u : Unit1) (set : RunSet) (f g : ℕ) (vs ws : List Val) → IsCall u set f vs → IsCall u set g ws → IsSame f g vs ws
one_call u set f g vs ws a b =
    let same : f ≡ g = same_Some f g (sym a.entry.called ∙ b.entry.called) in
    let types : a.types ≡ b.types = same_Some a.types b.types (sym a.entry.arguments ∙ (ap (params_of u) same ∙ b.entry.arguments)) in
    record { function = same; args = one_reading set.values b.types vs ws (subst (λ ts. AreRead set.values ts vs) types a.read) b.read }

one_total : (s t : Totals) → s.results ≡ t.results → s.fires ≡ t.fires → s.copies ≡ t.copies → s.writes ≡ t.writes → s ≡ t
one_total s t values fires copies writes =
    let made : List Val → ℕ → ℕ → ℕ → Totals = λ r f c w. record { results = r; fires = f; copies = c; writes = w } in
    ap (λ r. made r s.fires s.copies s.writes) values
    ∙ (ap (λ f. made t.results f s.copies s.writes) fires ∙ (ap (λ c. made t.results t.fires c s.writes) copies ∙ ap (λ w. made t.results t.fires t.copies w) writes))

module _ (meaning : IsMeaningOne) (cost : IsCostOne) (copies : AreUnitCopiesOne) where
  one_run_of : (u : Unit1) (f limit : ℕ) (ins : List Carried) (s t : Totals) → AreTotalsOf u f limit ins s → AreTotalsOf u f limit ins t → s ≡ t
  one_run_of u f limit ins s t a b =
      let x = a.of_record in
      let y = b.of_record in
      let results = meaning (network u) f ins a.results b.results (x.0).0 (y.0).0 (x.0).1 (y.0).1 in
      let fires = cost (network u) f ins (x.0).0 (y.0).0 s.fires t.fires (x.0).2 (y.0).2 in
      let copied = (copies u f ins (capped a.copied) (capped b.copied)).0 x.1 y.1 in
      one_total s t (a.values ∙ (ap (map val_of) results ∙ sym b.values)) fires (a.copies ∙ (copied ∙ sym b.copies))
      ((copies u f ins s.writes t.writes).1 a.writes b.writes)

  pub one_run : IsOneRun
  one_run u set s t a b =
      let same = one_call u set a.function b.function a.args b.args a.call b.call in
      let moved : AreTotalsOf u b.function set.limit (map Value b.args) s =
      subst (λ vs. AreTotalsOf u b.function set.limit (map Value vs) s) same.args (subst (λ f. AreTotalsOf u f set.limit (map Value a.args) s) same.function a.run) in
      one_run_of u b.function set.limit (map Value b.args) s t moved b.run

pub none_beyond : IsNoneBeyond
none_beyond u set t a b =
    let same = one_call u set a.function b.function a.args b.args a.call b.call in
    let x = a.run.of_record in
    let longer : PassesOn u a.function a.args set.limit =
    subst (λ vs. PassesOn u a.function vs set.limit) (sym same.args) (subst (λ f. PassesOn u f b.args set.limit) (sym same.function) b.longer) in
    let over : set.limit < t.fires = longer (x.0).0 t.fires (x.0).2 in
    let within : t.fires ≤ set.limit = a.run.within in
    absurd (omega (arith, over, within))
