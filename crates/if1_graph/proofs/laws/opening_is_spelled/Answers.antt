use Rattle.std.proofs.Common.{◌∙◌, ◌∷◌, ◌++◌, decimal}
use Rattle.std.specs.Prelude.{codes}
use Rattle.std.specs.List.{list_all}
use Rattle.std.proofs.lemmas.List.Folds.{list_all-append}
use Rattle.if1_graph.specs.LineParts.{is_line_byte}
use Rattle.if1_graph.specs.Spelling.{is_visible}
use Rattle.if1_graph.proofs.Decimals.{and_true, each_so, decimal_visible}
use Rattle.if1_graph.proofs.Spelled.{visible_line_byte}
use Rattle.if1_graph.proofs.laws.opening_is_spelled.Goals as goal

pub returns : goal.returns
returns c label op a b =
    let x = each_so is_visible is_line_byte visible_line_byte (decimal label) (decimal_visible label a) in
    let y = each_so is_visible is_line_byte visible_line_byte (decimal op) (decimal_visible op b) in
    list_all-append is_line_byte (codes " Compound " ++ decimal label) (32 ∷ decimal op)
    ∙ and_true (list_all is_line_byte (codes " Compound " ++ decimal label)) (list_all is_line_byte (32 ∷ decimal op)) x y
