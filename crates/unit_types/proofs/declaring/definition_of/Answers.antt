use Rattle.std.proofs.Common.{sym, ap, ◌∙◌, map}
use Rattle.name_scope.specs.Newest.{newest}
use Rattle.unit_types.proofs.Numbered.{numbering_finds}
use Rattle.unit_types.proofs.declaring.definition_of.Goals as goal

pub returns-in-Some-clause-named : goal.returns-in-Some-clause-named
returns-in-Some-clause-named c = λ h. numbering_finds (map (λ s. s.name) c.args.declaring.now.functions) c.args.named.name c.in-Some.number (ap (newest c.args.named.name) (sym h) ∙ c.in-Some.ensures.number)
