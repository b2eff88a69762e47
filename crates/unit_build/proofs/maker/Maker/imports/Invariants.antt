use Rattle.std.proofs.Common.{◌≡◌, ◌++◌, drop}
use Rattle.lowered_units.specs.Units.{imports_of}
use Rattle.unit_build.proofs.maker.Maker.imports.Given as goal

abbrev pub invariant-loop-place : goal.invariant-loop-place
invariant-loop-place l =
    let p = l.self.program.now in
    l.imports ++ imports_of p (drop l.place p.functions) ≡ imports_of p p.functions
