use Rattle.std.proofs.Common.{◌≡◌, ◌∷◌, ◌∙◌, ap, map, take}
use Rattle.std.specs.Char.{to_ascii_lowercase}
use Rattle.sisal_lex.specs.Tokens.{word_or_name, name_at}
use Rattle.sisal_lex.specs.declared.head.Head.TheVariants.{Found}
use Rattle.sisal_lex.proofs.head.name_at.Goals as goal

pub returns : goal.returns
returns c =
    let n = c.bytes_in_name-more.result in
    ap (λ x. Found x n) (c.word_or_name.ensures ∙ ap word_or_name c.in_ok-name.ensures)
    ∙ ap (λ k. Found (word_or_name (map to_ascii_lowercase (c.args.first ∷ take k c.args.after.now))) k) c.bytes_in_name-more.ensures
