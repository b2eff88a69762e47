-- The laws, as they are stated.
use Rattle.std.proofs.Common.{ℕ, ◌≤◌, arith}
use Rattle.graph_meaning.specs.Forms.{Stage, Called, Selecting, Chosen, Starting, Testing, Turning, Generating, Returning}
use Rattle.graph_meaning.specs.Entered.{IsIn}
use Rattle.graph_meaning.specs.Demand.{waits, IsLabel}
use Rattle.graph_meaning.proofs.Ranks.{ranked}
use Rattle.run_states.specs.Pacing.{to_come}
use Rattle.run_states.specs.Laws.{IsReadyExact, AreAllClaimsLegal, AreFinishesLegal, AreEndsSeen, AreNodesOfRuns, AreAllStepsOfRuns, DoEnteredStand, AreSlicesCosted, DoAllPacesFall, AreAllValuesRead, IsNoLeaseOut}
use Rattle.run_states.proofs.Ready.{ready-can}
use Rattle.run_states.proofs.Complete.{can-ready}
use Rattle.run_states.proofs.Runs.{may-claim, may-idle, may-end, may-finish, ends-with-results, goes-on-after}
use Rattle.run_states.proofs.Phases.{first-is-step, entered-is-step, goes-on, is-node, only-node, last-node}
use Rattle.run_states.proofs.Entering.{entered-lives}
use Rattle.run_states.proofs.Paths.{each-found}
use Rattle.run_states.proofs.Slices.{slice-firings, firings-cost, rows-fire, fire-rows}
use Rattle.run_states.proofs.Pacing.{follow-pace, gather-pace}
use Rattle.run_states.proofs.Values.{simple-fires, operands-read, whole-leaves, results-read}
use Rattle.run_states.proofs.Taking.{no-holder}

pub ready-exact : IsReadyExact
ready-exact run c m table root stands busy i = (ready-can run c m table root stands i, can-ready run c m table root stands busy i)

pub claims-legal : AreAllClaimsLegal
claims-legal run limit h table root stands = record { claim = may-claim run limit h table root stands; idle = may-idle run limit h table root stands; ends = may-end run limit h table root stands }

pub finishes-legal : AreFinishesLegal
finishes-legal run limit h table root stands = may-finish run limit h table root stands

pub ends-seen : AreEndsSeen
ends-seen run limit h old table root w n i before stands busy le =
    (ends-with-results run limit h old table root w n i before stands busy le, goes-on-after run limit h old table root w n i before stands busy le)

pub nodes-of-runs : AreNodesOfRuns
nodes-of-runs cut u g ins v l is-cut orderly at-l =
    let ready = ranked u orderly in
    let named = each-found (λ z. (n : ℕ) → IsIn n (waits z) → IsLabel (u g).nodes n) (u g).nodes (ready g).named l v at-l in
    record {
      node = is-node cut u is-cut ready g ins v l at-l named;
      alone = λ row shape is. (last-node cut u is-cut ready g ins v l at-l named row shape is, only-node cut u is-cut ready g ins v l at-l named row shape is);
    }

pub steps-of-runs : AreAllStepsOfRuns
steps-of-runs cut u g ins l form ks is-cut orderly w =
    record {
      first_graph = first-is-step cut u is-cut (ranked u orderly) g ins w.node l w.found form ks w.kind w.given;
      next_graph = entered-is-step cut u is-cut (ranked u orderly) g ins w.node l w.found form ks w.kind w.given;
      openings = goes-on cut u is-cut (ranked u orderly) g ins w.node l w.found form ks w.kind w.given;
    }

pub entered-stand : DoEnteredStand
entered-stand cut u g ins p c m is-cut orderly made fresh = entered-lives cut u is-cut (ranked u orderly) g ins p c m made fresh

pub slices-costed : AreSlicesCosted
slices-costed cut u g ins l form ks is-cut orderly w k h row rows ms came r part at n = (
  (λ x. rows-fire cut is-cut u h part n (firings-cost cut u is-cut (ranked u orderly) g ins w.node l w.found form ks w.kind w.given k h row rows ms came r part at n x)),
  λ x. slice-firings cut u is-cut (ranked u orderly) g ins w.node l w.found form ks w.kind w.given k h row rows ms came r part at n (fire-rows cut is-cut u x.0 h part n x.1),
)

few-to-come : (s : Stage) → to_come s ≤ 3
few-to-come Called = omega arith
few-to-come Selecting = omega arith
few-to-come Chosen = omega arith
few-to-come Starting = omega arith
few-to-come (Testing turns) = omega arith
few-to-come (Turning turns) = omega arith
few-to-come Generating = omega arith
few-to-come Returning = omega arith

pub paces-fall : DoAllPacesFall
paces-fall form ks = record { followed = follow-pace form ks; gathered = gather-pace form ks; at_most = few-to-come }

pub values-read : AreAllValuesRead
values-read u g ins outs = record { fires = simple-fires u g ins outs; enters = operands-read u g ins outs; leaves = whole-leaves u g ins; ends = results-read u g ins outs }

pub no-lease : IsNoLeaseOut
no-lease run c m table root stores f x a key stands kept at cell own none g y there l = no-holder run c m table root stands stores kept f x at a key cell own none g y there l
