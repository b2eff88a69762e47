use Rattle.std.proofs.Common.{sym, refl, None, arith}
use Rattle.std.specs.Prelude.{vec_len}
use Rattle.std.proofs.lemmas.Bool.{eqb-true}
use Rattle.std.proofs.lemmas.List.{nil_from_length}
use Rattle.if1_read.proofs.Beginnings.{import_turns}
use Rattle.if1_read.proofs.machine.import_line.Goals as goal

pub returns-clause-turns : goal.returns-clause-turns
returns-clause-turns c = λ sound.
    let outer = c.args.machine.outer in
    let none = eqb-true (vec_len outer) 0 (sym c.if-not-is_empty.ensures) in
    import_turns c.args.known.now c.args.machine c.args.line _ c.args.ty c.args.name c.in_ok-graphs.first c.absent.result
    (nil_from_length outer.items (omega (arith, none, outer.ok.0))) refl (λ i. (None, c.in_ok-graphs.ensures.begun i)) (c.absent.ensures.is sound)
    (c.in_ok-graphs.ensures.found sound) c.after.ensures.found
