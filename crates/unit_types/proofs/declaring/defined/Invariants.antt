use Rattle.std.proofs.Common.{◌≡◌, ◌++◌, [], map, drop, slice_get, Some, true, All}
use Rattle.unit_types.specs.Headings.{numbering}
use Rattle.unit_types.proofs.declaring.defined.Given as goal

-- the numbers so far are those of the names so far
abbrev pub invariant-loop-named : goal.invariant-loop-named
invariant-loop-named l = record {
  named : l.declaring.numbers ≡ numbering 0 [] (map (λ s. s.name) l.declaring.functions)
      → map (λ k. slice_get (map (λ s. s.name) l.declaring.functions) k) l.defines ++ map (λ n. Some n.name) (drop l.named-index l.names) ≡ map (λ n. Some n.name) l.names;
  bodies : All (λ k. slice_get l.declaring.bodies k ≡ Some true) l.defines;
}
