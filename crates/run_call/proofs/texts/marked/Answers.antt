use Rattle.std.proofs.Common.{◌≡◌, ◌∙◌, Bool, true, if◌then◌else◌, sym, ap, subst}
use Rattle.if1_graph.specs.declared.graph.Unit1.{Unit1}
use Rattle.if1_marks.specs.Sound.{IsSound}
use Rattle.marks_made.specs.Units.{marks_of}
use Rattle.unit_entry.specs.Marks.{has_marks}
use Rattle.run_call.specs.Texts.{with_marks}
use Rattle.run_call.proofs.Refusals.{unsound_unit}
use Rattle.run_call.proofs.texts.marked.Goals as goal

-- a unit with marks keeps them
kept : (u : Unit1) → has_marks u ≡ true → u ≡ with_marks u
kept u e = sym (ap (λ (b : Bool). if b then u else marks_of u) e)

pub returns-in_ok-sound-clause-unit : goal.returns-in_ok-sound-clause-unit
returns-in_ok-sound-clause-unit c =
    let u = c.args.unit in
    let e : has_marks u ≡ true = ap has_marks (sym c.unit.ensures.unit) ∙ (sym c.has_marks.ensures ∙ c.if-has_marks.true) in
    let s = c.in_ok-sound.ensures.sound in
    (s.0 ∙ kept u e, subst IsSound (sym s.0) s.1)

pub returns-in_err-sound-clause-refused : goal.returns-in_err-sound-clause-refused
returns-in_err-sound-clause-refused c =
    unsound_unit c.args.unit c.in_err-sound.field-0.0 c.from_residual.result c.in_err-sound.ensures.fault c.in_err-sound.ensures.unsound c.from_residual.ensures.1
