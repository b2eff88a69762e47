-- The operand of a port by its place in the row.
use Rattle.std.proofs.Common.{◌≡◌, ℕ, zero, suc, ◌-◌, ◌≤◌, slice_get, List, Option, arith, ap, sym, ◌∙◌}
use Rattle.if1_graph.specs.declared.op.Simple.{Simple}
use Rattle.if1_graph.specs.declared.row.Rest.{Rest}
use Rattle.if1_graph.specs.Tables.{or_else}
use Rattle.if1_graph.specs.Rows.{Operand, row_of, of_rest, operand_of}

pub operand_at : (op : Simple) (port : ℕ) → 1 ≤ port →
    operand_of op port ≡ or_else (slice_get (row_of op).operands (port - 1)) (of_rest (row_of op).rest port)
operand_at op zero h = grind arith
operand_at op (suc place) h =
    let e : place ≡ suc place - 1 = omega arith in
    ap (λ k. or_else (slice_get (row_of op).operands k) (of_rest (row_of op).rest (suc place))) e

-- the operand by what was found on the way
pub found : (op : Simple) (port : ℕ) (operands : List Operand) (first : Option Operand) (rest : Rest) (other result : Option Operand) → 1 ≤ port →
    operands ≡ (row_of op).operands → first ≡ slice_get operands (port - 1) → rest ≡ (row_of op).rest →
    other ≡ of_rest rest port → result ≡ or_else first other → result ≡ operand_of op port
found op port operands first rest other result h e f r o is =
    is ∙ (ap (λ a. or_else a other) (f ∙ ap (λ os. slice_get os (port - 1)) e)
    ∙ (ap (or_else (slice_get (row_of op).operands (port - 1))) (o ∙ ap (λ q. of_rest q port) r)
    ∙ sym (operand_at op port h)))
