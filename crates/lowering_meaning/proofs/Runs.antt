-- The unit with the marks that are made, which is the one that runs, means what the source does.
use Rattle.std.proofs.Common.{◌≡◌, ℕ, ◌*◌, ◌≤◌, List, [], ◌∷◌, map, refl, sym, ap, ◌∙◌, subst}
use Rattle.flow_value.specs.declared.value.Val.{Val}
use Rattle.if1_graph.specs.declared.graph.Unit1.{Unit1}
use Rattle.marks_made.specs.Units.{marks_of}
use Rattle.typed_tree.specs.declared.program.Program.{Program}
use Rattle.graph_meaning.specs.Carried.{Value, val_of}
use Rattle.graph_meaning.specs.Networks.{network}
use Rattle.graph_meaning.proofs.PlainValues.{one-meaning}
use Rattle.graph_meaning.proofs.SumsOnce.{cost-one}
use Rattle.unit_laws.proofs.AlikeRuns.{alike-meant, alike-costed}
use Rattle.meaning.specs.Plain.{plain_calls}
use Rattle.meaning_laws.specs.Laws.{IsGiven}
use Rattle.lowering.specs.Programs.{number_of}
use Rattle.lowering_meaning.specs.Laws.{IsCalled, IsRun, AreRunsMeant, AreRunsSourced}
use Rattle.lowering_meaning.proofs.Bare.{unit-bare}
use Rattle.lowering_meaning.proofs.Unmarked.{ready-unmarked}
use Rattle.lowering_meaning.proofs.Theorem.{values-kept, costs-there}

values-are : (vs : List Val) → map val_of (map Value vs) ≡ vs
values-are [] = refl
values-are (v ∷ vs) = ap (λ ws. v ∷ ws) (values-are vs)

module _ (p : Program) (u : Unit1) (f : ℕ) (args : List Val) (c : IsRun p u f args) where
  called : IsCalled p u f args
  called = record { fits = c.fits; forms = c.forms; unit = c.unit; ready = ready-unmarked p u c.fits c.unit (marks_of u) (unit-bare u) c.ready; header = c.header; there = c.there; typed = c.typed }

pub runs-meant : AreRunsMeant
runs-meant p u f args values steps c g =
    let m = values-kept p u f args values steps (called p u f args c) g in
    let alike = sym (unit-bare u) in
    record {
      cost = m.cost;
      depth = m.depth;
      costs = alike-costed u (marks_of u) alike m.depth (number_of p f) (map Value args) m.cost m.costs;
      bound = m.bound;
      means = alike-meant u (marks_of u) alike m.depth (number_of p f) (map Value args) (map Value values) m.means;
    }

pub runs-sourced : AreRunsSourced
runs-sourced p u f args results depth cost c k h =
    let g = number_of p f in
    let ins = map Value args in
    let call = called p u f args c in
    let costs = alike-costed (marks_of u) u (unit-bare u) depth g ins cost k in
    let means = alike-meant (marks_of u) u (unit-bare u) depth g ins results h in
    let x = costs-there p u f args depth cost call costs in
    let m = values-kept p u f args x.0 x.1 call x.2 in
    let same = one-meaning (network u) g ins results (map Value x.0) depth m.depth means m.means in
    let once = cost-one (network u) g ins depth m.depth cost m.cost costs m.costs in
    record {
      steps = x.1;
      given = subst (λ vs. IsGiven (λ n. plain_calls n p.functions f args) vs x.1) (sym (ap (map val_of) same ∙ values-are x.0)) x.2;
      bound = subst (λ n. n ≤ 8 * x.1) (sym once) m.bound;
    }
