use Rattle.std.proofs.Common.{◌≡◌, ◌∙◌, ℕ, ◌+◌, ◌-◌, ◌^◌, ◌<◌, ◌≤◌, List, Bool, length, refl, sym, ap, subst}
use Rattle.plan_data.specs.declared.plan.PlanData.{PlanData}
use Rattle.plan_data.specs.declared.plan.PlanGraph.{PlanGraph}
use Rattle.plan_data.specs.Parts.{arms_steps, extent_in, graph_nodes, nodes_cells, table_of}
use Rattle.plan_tables.specs.Above.{tabled}
use Rattle.unit_data.proofs.Tabled.{rooms-fit, steps-fit}
use Rattle.unit_data.proofs.tables.data_with.Goals as goal

pub entries_of-requires : goal.entries_of-requires
entries_of-requires c = λ f h. subst (λ (gs : List PlanGraph). f < length gs) (sym c.as_slice-3.ensures) (c.requires.inside f h)

pub returns-clause-tabled : goal.returns-clause-tabled
returns-clause-tabled c =
    let D : PlanData =
    record { graphs = c.args.made.graphs; sizes = c.in_ok-sizes.sizes; extents = c.in_ok-extents.extents; entries = c.in_ok-entries.entries; params = c.args.params; literals = c.args.made.literals; marks = c.args.made.marks } in
    let fs = c.args.functions.now in
    let exact : (g : ℕ) → extent_in D g ≡ nodes_cells D (graph_nodes D g) = λ g. c.in_ok-extents.ensures D (sym c.as_slice-2.ensures) refl g in
    record {
      sizes = λ g. c.in_ok-sizes.ensures D (sym c.as_slice.ensures) refl g;
      extents = exact;
      entries = λ f h. c.in_ok-entries.ensures D (sym c.as_slice-4.ensures) f h;
      rooms = rooms-fit D c.requires.long exact
          (subst (λ (es : List ℕ). (f : ℕ) → f < length D.params → table_of D.params f + table_of es f ≤ 2 ^ 32 - 1) c.as_slice-8.ensures
          (subst (λ (ps : List ℕ). (f : ℕ) → f < length ps → table_of ps f + table_of c.as_slice-8.result.now f ≤ 2 ^ 32 - 1) c.as_slice-7.ensures c.in_ok-count_rooms.ensures));
      marks = subst (λ (ms : List Bool). length ms ≤ 2 ^ 32 - 1) c.as_slice-9.ensures c.in_ok-count_marks.ensures;
      steps = steps-fit D fs c.in_ok-steps.steps c.is_counted.ensures
          (c.in_ok-steps.ensures ∙ (ap (λ gs. arms_steps (tabled gs c.as_slice-6.result.now) fs) c.as_slice-5.ensures ∙ ap (λ ss. arms_steps (tabled D.graphs ss) fs) c.as_slice-6.ensures));
    }
