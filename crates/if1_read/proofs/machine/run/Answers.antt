use Rattle.std.proofs.Common.{◌≡◌, ℕ, List, sym, subst, ◌∙◌}
use Rattle.std.proofs.lemmas.List.{map-id}
use Rattle.std.proofs.lemmas.Iterator.Adapters.{YieldsList-from_vec}
use Rattle.std.proofs.lemmas.Iterator.Consumers.{YieldsList-end}
use Rattle.if1_graph.specs.declared.line.Line.{Line}
use Rattle.if1_read.proofs.Leading.{run_more}
use Rattle.if1_read.proofs.Running.{HasTurned, none_turned, more_turned, all_turned}
use Rattle.if1_read.proofs.machine.run.Goals as goal

pub loop-line-init : goal.loop-line-init
loop-line-init c = record {
  clean = λ none. sym c.begun-machine.ensures.first ∙ none;
  runs = λ none sound read. c.begun-machine.ensures.runs c.args.known.now;
  turned = λ sound. none_turned c.args.known.now c.args.first c.begun-machine.result c.begun-machine.ensures.sheets c.begun-machine.ensures.first;
}

pub loop-line-preserved : goal.loop-line-preserved
loop-line-preserved c =
    let before = c.loop-line.invariant in
    let after = c.in_ok-machine.ensures in
    let line : ℕ × Line = (c.in-Some.line, c.in-Some.says) in
    record {
      clean = λ none. before.clean (after.clean none);
      runs = run_more c.args.known.now c.loop-line.machine c.in_ok-machine.machine c.loop-line.yielded line after.goes before.runs;
      turned = λ sound.
          more_turned c.args.known.now c.args.first c.loop-line.machine c.in_ok-machine.machine c.loop-line.yielded line (before.turned sound) (after.turns sound);
    }

pub returns-clause-found : goal.returns-clause-found
returns-clause-found c = λ sound.
    let begun = c.into_iter-line-iterator.ensures.into_iter_gives in
    let all : c.loop-line.yielded ≡ c.args.lines.items =
    sym (map-id c.loop-line.yielded)
    ∙ (YieldsList-end (YieldsList-from_vec c.args.lines.items begun.0 (begun.1 ∙ c.args.lines.ok.0)) c.loop-line.yielded c.loop-line.line-iterator c.loop-line.yielded_by
    c.next.result c.next.new.self c.in-None.is c.next.ensures.steps).0 in
    all_turned c.args.known.now c.args.first c.loop-line.machine c.args.lines.items
    (subst (λ (ls : List (ℕ × Line)). HasTurned c.args.known.now c.args.first c.loop-line.machine ls) all (c.loop-line.invariant.turned sound))
