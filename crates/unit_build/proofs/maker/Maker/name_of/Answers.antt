use Rattle.std.proofs.Common.{◌≡◌, ◌∙◌, None, slice_get, [], ap, sym}
use Rattle.unit_build.proofs.Blocks.{no-name}
use Rattle.unit_build.proofs.maker.Maker.name_of.Goals as goal

pub returns-in-None : goal.returns-in-None
returns-in-None c =
    let names = c.args.self.now.program.now.names in
    let name = c.args.function.now.name in
    let none : slice_get names name ≡ None = ap (λ l. slice_get l name) (sym c.as_slice.ensures) ∙ sym c.in-None.ensures in
    c.new.ensures ∙ sym (no-name names name [] none)
