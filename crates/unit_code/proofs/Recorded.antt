-- Runs of the code of a unit, as values.
use Rattle.std.proofs.Common.{◌≡◌, ℕ, ◌≤◌, List, map, sym, ap, subst, ◌∙◌}
use Rattle.std.proofs.lemmas.List.{length-map}
use Rattle.flow_value.specs.declared.value.Val.{Val}
use Rattle.if1_graph.specs.declared.graph.Unit1.{Unit1}
use Rattle.if1_graph.specs.Ready.{IsReady}
use Rattle.if1_marks.specs.Sound.{IsSound}
use Rattle.graph_meaning.specs.Carried.{Carried, Value, val_of}
use Rattle.run_store.specs.Whole.{IsOfUnit}
use Rattle.unit_whole.specs.Parts.{table_of}
use Rattle.unit_whole.specs.RunFault.{RunFault}
use Rattle.unit_whole.specs.RunFault.TheVariants as fault
use Rattle.unit_whole.specs.Totalled.{Totalled}
use Rattle.unit_whole.specs.Runs.{IsFault}
use Rattle.unit_whole.specs.Totals.{CanEnter, HasTotals, entered_at}
use Rattle.unit_counts.proofs.Runs.{runs-recorded}
use Rattle.unit_counts.proofs.WritesOf.{writes-recorded}
use Rattle.unit_counts.specs.Runs.{IsRunOf}
use Rattle.unit_whole.specs.Writes.{EndsWriting}
use Rattle.graph_meaning.specs.Storage.{capped}
use Rattle.graph_meaning.specs.StorageUnits.{UnitWrites}
use Rattle.unit_code.specs.declared.code.UnitCode.{UnitCode}
use Rattle.unit_code.specs.declared.runs.Totals.{Totals}
use Rattle.unit_code.specs.Codes.{IsCodeOfUnit}
use Rattle.unit_code.specs.Runs.{AreArguments, AreLeft, AreTotalsOf, IsFaultOf}
use Rattle.unit_code.proofs.Arguments.{function-in, inputs-many}

module _ (u : Unit1) (ready : IsReady u) (sound : IsSound u) (c : UnitCode) (made : IsCodeOfUnit u c) (f : ℕ) (args : List Val) (are : AreArguments u f args) (limit : ℕ) where
  abbrev ins : List Carried
  ins = map Value args

  abbrev entry : ℕ
  entry = table_of c.entries f

  pub can-enter : CanEnter c.code (table_of c.entries f) (table_of c.rooms f)
  can-enter = made.enters f (function-in u ready f are.0 are.1)

  pub run-is : IsRunOf u c.code limit f (table_of c.entries f) (map Value args)
  run-is =
      let own = made.code in
      subst (λ n. IsRunOf u c.code limit f n ins) (own.entries f)
      (runs-recorded u own.order own.tables c.code limit ready sound own.in_order own.sized own.made own.counts f ins (function-in u ready f are.0 are.1)
      (length-map args Value ∙ (are.2 ∙ sym (inputs-many u ready f are.0 are.1))))

  -- what it writes is of record
  writes-are : (rs : List Carried) (cost copies n : ℕ) → EndsWriting c.code limit (entered_at entry ins) rs cost copies n → UnitWrites u f ins (capped n)
  writes-are rs cost copies n h =
      let own = made.code in
      writes-recorded u own.order own.tables c.code limit ready sound own.in_order own.sized own.made own.counts own.writes f ins rs cost copies n (function-in u ready f are.0 are.1)
      (length-map args Value ∙ (are.2 ∙ sym (inputs-many u ready f are.0 are.1)))
      (subst (λ e. EndsWriting c.code limit (entered_at e ins) rs cost copies n) (sym (own.entries f)) h)

  pub totals-are : (run : Totalled) (t : Totals) → HasTotals c.code limit (entered_at (table_of c.entries f) (map Value args)) run → AreLeft run t → AreTotalsOf u f limit (map Value args) t
  totals-are run t h left =
      let x = run-is.ends h.0 h.1 h.2 h.3 in
      let fires : h.1 ≡ t.fires = h.4.fires ∙ sym left.fires in
      record {
        results = h.0;
        copied = h.2;
        of_record = subst (λ n. IsOfUnit u f ins h.0 n h.2) fires x.0;
        values = left.results ∙ ap (map val_of) (sym h.4.results);
        copies = left.copies ∙ sym h.4.copies;
        within = subst (λ n. n ≤ limit) fires x.1;
        writes = subst (UnitWrites u f ins) (h.5.2 ∙ sym left.writes) (writes-are h.0 h.1 h.2 h.5.0 h.5.1);
      }

  pub fault-is : (e : RunFault) → IsFault c.code limit (entered_at (table_of c.entries f) (map Value args)) e → IsFaultOf u f limit (map Value args) e
  fault-is fault.TurnLimit h = run-is.stops h
  fault-is fault.NoMemory h = tt
