-- The unit of a text.
use Rattle.std.proofs.Common.{◌≡◌, ◌∙◌, ℕ, ◌≤◌, ap, sym, subst, List, Ok}
use Rattle.sisal_lex.specs.Tokens.{tokens_of}
use Rattle.sisal_lex.specs.declared.token.Tokens.{Tokens}
use Rattle.sisal_grammar.specs.Phrases.{unit}
use Rattle.sisal_grammar.specs.Placed.{placed}
use Rattle.sisal_grammar.specs.Spells.{Spells}
use Rattle.sisal_parse.specs.Units.{outline}
use Rattle.sisal_tree.specs.Depth.{depth_of}
use Rattle.sisal_tree.specs.declared.unit.Unit as tree
use Rattle.sisal_top.specs.Program.{IsUnitOf}

-- what the parser makes of the tokens of a text is its unit
pub is_unit : (bytes : List ℕ) (tokens : Tokens) (u : tree.Unit) → tokens_of bytes ≡ Ok tokens → u.tokens ≡ tokens → Spells unit (placed 0 tokens.list) (outline u) → depth_of u.items ≤ 200
    → IsUnitOf bytes u
is_unit bytes tokens u lexed same spelled shallow = record {
  lexed = lexed ∙ ap Ok (sym same);
  spelled = subst (λ (t : Tokens). Spells unit (placed 0 t.list) (outline u)) (sym same) spelled;
  shallow = shallow;
}
