use Rattle.std.proofs.Common.{◌∙◌, ap}
use Rattle.lowering.specs.TooMany.{header_ports}
use Rattle.lowered_sizes.specs.Counting.{capped}
use Rattle.lowered_sizes.specs.Programs.{sizes_over}
use Rattle.tree_sizes.proofs.program.graphs_over.Goals as goal

pub returns : goal.returns
returns c =
    let p = c.args.program.now in
    let ports = c.headers.ensures ∙ ap (λ l. capped (header_ports l)) c.as_slice-functions.ensures in
    c.over.ensures (header_ports p.functions) ports
    ∙ ap (λ l. sizes_over p.types l 0 (header_ports p.functions)) c.as_slice-functions.ensures
    ∙ c.sizes_are_exact.ensures p c.requires.fits
