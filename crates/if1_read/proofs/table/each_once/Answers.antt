use Rattle.std.proofs.Common.{◌≡◌, ◌++◌, ◌∷◌, [], List, Option, None, Some, sym, ap, subst, ◌∙◌}
use Rattle.std.proofs.lemmas.List.{map-append}
use Rattle.if1_graph.specs.declared.graph.TypeEntry.{TypeEntry}
use Rattle.if1_read.specs.declared.fault.Fault.{Fault}
use Rattle.if1_read.specs.Entries.{entries_of}
use Rattle.if1_read.specs.Marks.{labels_in}
use Rattle.if1_read.proofs.Onely.{RisesTo, Turn, lines_of, rises_more, rises_increase, turn_none, turn_past, turn_new, lines_past, lines_new}
use Rattle.if1_read.proofs.table.each_once.Goals as goal

pub loop-line-init : goal.loop-line-init
loop-line-init c = record {
  labels = c.in_ok-with_room-2.ensures ∙ sym (ap labels_in c.in_ok-with_room.ensures);
  rise = c.in_ok-with_room-2.ensures;
  clean = λ h. h;
  all = λ h. c.in_ok-with_room.ensures;
  turn = subst (Turn (λ (e : TypeEntry). e.label) c.args.first [] None c.args.first) (sym c.in_ok-with_room.ensures) (turn_none (λ (e : TypeEntry). e.label) c.args.first);
  lines = c.in_ok-with_room-3.ensures;
}

pub loop-line-preserved-then-is_past : goal.loop-line-preserved-then-is_past
loop-line-preserved-then-is_past c =
    let old = c.loop-line.once in
    let inv = c.loop-line.invariant in
    let past = sym c.is_past.ensures ∙ c.if-is_past.true in
    record {
      labels = inv.labels;
      rise = inv.rise;
      clean = λ h. absurd (c.sooner-once.ensures.some h);
      all = λ h. absurd (c.sooner-once.ensures.some h);
      turn = subst (λ (o : Option Fault). Turn (λ (e : TypeEntry). e.label) c.args.first (c.loop-line.yielded ++ (c.in-Some.line, c.in-Some.entry) ∷ []) c.loop-line.last o old.types)
          (sym c.sooner-once.ensures.found)
          (turn_past (λ (e : TypeEntry). e.label) c.args.first c.loop-line.yielded c.loop-line.last old.first old.types inv.turn (c.in-Some.line, c.in-Some.entry) past);
      lines = lines_past (λ (e : TypeEntry). e.label) c.args.first c.loop-line.yielded c.loop-line.last old.first old.types inv.turn (c.in-Some.line, c.in-Some.entry) old.lines inv.lines past;
    }

pub loop-line-preserved : goal.loop-line-preserved
loop-line-preserved c =
    let e = c.in-Some.entry in
    let old = c.loop-line.once in
    let inv = c.loop-line.invariant in
    let new = sym c.is_past.ensures ∙ c.if-is_past.false in
    let turn = turn_new (λ (e : TypeEntry). e.label) c.args.first c.loop-line.yielded c.loop-line.last old.first old.types inv.turn (c.in-Some.line, e) new in
    record {
      labels =
          c.in_ok-add.ensures.ok
          ∙ ap (λ ls. ls ++ e.label ∷ []) inv.labels
          ∙ sym (map-append (λ (e : TypeEntry). e.label) old.types (e ∷ []))
          ∙ ap labels_in (sym c.in_ok-add-3.ensures.ok);
      rise = subst (RisesTo (Some e.label)) (sym c.in_ok-add.ensures.ok) (rises_more c.loop-line.last e.label old.labels inv.rise new);
      clean = inv.clean;
      all = λ h.
          c.in_ok-add-3.ensures.ok
          ∙ ap (λ es. es ++ e ∷ []) (inv.all h)
          ∙ sym (map-append (λ x. x.1) c.loop-line.yielded ((c.in-Some.line, e) ∷ []));
      turn = subst (Turn (λ (e : TypeEntry). e.label) c.args.first (c.loop-line.yielded ++ (c.in-Some.line, e) ∷ []) (Some e.label) old.first) (sym c.in_ok-add-3.ensures.ok) turn;
      lines =
          c.in_ok-add-2.ensures.ok
          ∙ lines_new (λ (e : TypeEntry). e.label) c.args.first c.loop-line.yielded c.loop-line.last old.first old.types inv.turn (c.in-Some.line, e) old.lines inv.lines new;
    }
