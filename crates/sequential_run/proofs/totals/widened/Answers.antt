use Rattle.std.proofs.Common.{sym, ap, ◌∙◌, subst}
use Rattle.run_store.specs.Whole.{first_cells}
use Rattle.run_fuller.specs.Fuller.{IsWithin}
use Rattle.run_cells.specs.Held.{heap_of}
use Rattle.sequential.specs.declared.machine.Machine.{Machine}
use Rattle.sequential.specs.Agrees.{frames_of}
use Rattle.sequential_run.proofs.Entering.{firsts-within}
use Rattle.sequential_run.proofs.totals.widened.Goals as goal

pub returns-in-Ok-clause-at : goal.returns-in-Ok-clause-at
returns-in-Ok-clause-at c = λ ins e.
    let st = c.standing.ensures in
    record {
      pc = sym (ap (λ (m : Machine). m.pc) st);
      base = sym (ap (λ (m : Machine). m.base) st);
      calls = sym (ap (λ (m : Machine). frames_of m.calls) st ∙ ap frames_of c.requires);
      fires = sym (ap (λ (m : Machine). m.fires) st);
      copies = sym (ap (λ (m : Machine). m.copies) st);
      within = subst (IsWithin (first_cells ins)) (sym (ap (λ (m : Machine). heap_of m.cells.items) st ∙ c.in-Ok.ensures.heap)) (firsts-within c.args.args.items ins e);
    }
