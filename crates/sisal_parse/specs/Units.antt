-- A unit without its tokens.
use Rattle.sisal_tree.specs.declared.unit.Unit as tree
use Rattle.sisal_grammar.specs.declared.value.Outline.{Outline}

abbrev pub outline : tree.Unit → Outline
outline u = record { defines = u.defines; items = u.items }
