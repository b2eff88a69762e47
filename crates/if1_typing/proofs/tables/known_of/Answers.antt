use Rattle.std.proofs.Common.{◌∙◌, ◌==◌, ℕ, List, ap}
use Rattle.if1_types.specs.Tables.{number_at, labels_in}
use Rattle.if1_typing.proofs.Names.{function_code}
use Rattle.if1_typing.proofs.tables.known_of.Goals as goal

pub returns-clause-tells : goal.returns-clause-tells
returns-clause-tells c = record {
  sorts = c.requires.numbers.sorts;
  stand = c.requires.numbers.stand;
  once = c.requires.numbers.once;
  read = c.requires.numbers.read;
  callees = c.in_ok-callees.ensures;
  functions = λ l.
      ap (λ (ls : List ℕ). number_at ls c.in_ok-codes.codes l == 3) c.requires.numbers.labels
      ∙ ap (λ (cs : List ℕ). number_at (labels_in c.args.types.now) cs l == 3) c.in_ok-codes.ensures
      ∙ function_code c.args.types.now l;
}
