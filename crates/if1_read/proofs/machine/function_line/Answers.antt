use Rattle.std.proofs.Common.{sym, arith}
use Rattle.std.specs.Prelude.{vec_len}
use Rattle.std.proofs.lemmas.Bool.{eqb-true}
use Rattle.std.proofs.lemmas.List.{nil_from_length}
use Rattle.if1_read.proofs.Beginning.{function_begins}
use Rattle.if1_read.proofs.machine.function_line.Goals as goal

pub returns-clause-begins : goal.returns-clause-begins
returns-clause-begins c =
    let outer = c.args.machine.outer in
    let none = eqb-true (vec_len outer) 0 (sym c.if-not-is_empty.ensures) in
    function_begins c.args.known.now c.args.machine c.new_part.result c.part_line.result c.wrong-wrong.result c.args.exported c.args.fun c.args.name
    (nil_from_length outer.items (omega (arith, none, outer.ok.0))) c.new_part.ensures.fresh c.wrong-wrong.ensures.clear c.part_line.ensures.right c.part_line.ensures.begins
