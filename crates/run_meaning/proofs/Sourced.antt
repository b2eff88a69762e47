-- What a run gives, the source gives.
use Rattle.std.proofs.Common.{◌≤◌, ◌∙◌, ℕ, List, map, Some, sym, ap, subst, arith}
use Rattle.flow_value.specs.declared.ty.Ty.{Ty}
use Rattle.flow_value.specs.declared.value.Val.{Val}
use Rattle.if1_graph.specs.declared.graph.Unit1.{Unit1}
use Rattle.marks_made.specs.Units.{marks_of}
use Rattle.graph_meaning.specs.Carried.{Value, val_of}
use Rattle.graph_meaning.specs.Networks.{network}
use Rattle.graph_meaning.specs.Plain.{Means, Costs}
use Rattle.sisal_tree.specs.declared.unit.Unit as tree
use Rattle.typed_tree.specs.declared.program.Program.{Program}
use Rattle.typed_rows.specs.Rows.{AreOf}
use Rattle.fitting_texts.proofs.Names.{names_once}
use Rattle.lowering.specs.Programs.{number_of}
use Rattle.lowering_meaning.specs.Laws.{IsRun, IsSourced}
use Rattle.lowering_meaning.proofs.Alone.{typed-covered}
use Rattle.lowering_meaning.proofs.Runs.{runs-sourced}
use Rattle.mean_call.specs.Calls.{IsEntry}
use Rattle.mean_call.specs.Words.{AreRead}
use Rattle.run_words.specs.declared.command.RunSet.{RunSet}
use Rattle.run_call.specs.Calls.{Gives as GivesRun}
use Rattle.run_call.specs.Totals.{Totals}
use Rattle.word_values.proofs.Read.{words_of}
use Rattle.entry_laws.proofs.Entries.{units-entries, headers-of-entries, unit-lacks}
use Rattle.run_meaning.specs.Laws.{IsRunUnit, IsOfSource, AreRunsOfSources}

as-many : (n : ℕ) → n ≤ n
as-many n = omega arith

module _ (bytes : List ℕ) (u : tree.Unit) (p : Program) (v : Unit1) (h : IsRunUnit bytes u p v) (set : RunSet) where
  -- the entry on the values of words is a call that the laws on lowered programs speak of
  pub call : (place : ℕ) (types : List Ty) (args : List Val) → IsEntry p set.entry place types → AreRead set.values types args → IsRun p v place args
  call place types args e r =
      let s = h.source in
      let d = headers-of-entries bytes u p v set.entry place types s e in
      record {
        fits = s.fits;
        forms = typed-covered u p (names_once bytes u.tokens s.lexed) s.typed;
        unit = s.unit;
        ready = h.ready;
        header = d.0;
        there = d.1;
        typed = subst (λ ts. AreOf ts args) (sym d.2) (words_of set.values types args r);
      }

  sourced : (t : Totals) → GivesRun (marks_of v) set t → IsOfSource p set t.results t.fires
  sourced t g =
      let s = h.source in
      let e = units-entries bytes u p v set.entry g.function g.call.types s g.call.entry.called g.call.entry.arguments in
      let x = g.run.of_record.0 in
      let costs : Costs (network (marks_of v)) x.0 (number_of p e.0) (map Value g.args) t.fires = subst (λ n. Costs (network (marks_of v)) x.0 n (map Value g.args) t.fires) (sym e.1) x.2 in
      let means : Means (network (marks_of v)) x.0 (number_of p e.0) (map Value g.args) g.run.results = subst (λ n. Means (network (marks_of v)) x.0 n (map Value g.args) g.run.results) (sym e.1) x.1 in
      let y : IsSourced p e.0 g.args (map val_of g.run.results) t.fires = runs-sourced p v e.0 g.args g.run.results x.0 t.fires (call e.0 g.call.types g.args e.2 g.call.read) costs means in
      record {
        limit = y.steps;
        given = record {
          linked = (unit-lacks bytes u p v s).0 g.call.linked;
          function = e.0;
          types = g.call.types;
          entry = e.2;
          args = g.args;
          read = g.call.read;
          depth = y.given.0;
          steps = y.steps;
          given = y.given.1 ∙ ap (λ vs. Some (vs, y.steps)) (sym g.run.values);
          within = as-many y.steps;
        };
        bound = y.bound;
      }

pub runs-of-sources : AreRunsOfSources
runs-of-sources bytes u p v set t h g = sourced bytes u p v h set t g
