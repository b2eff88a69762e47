-- What the laws say.
use Rattle.std.specs.Prelude.{ℕ, ◌+◌, ◌≤◌, List, ◌∷◌, All, length}
use Rattle.sisal_lex.specs.declared.token.Token.{Token}
use Rattle.sisal_tree.specs.declared.expr.Expr.{Expr}
use Rattle.sisal_tree.specs.declared.expr.ExprKind.TheViews.{out-ExprKind, out-Loop}
use Rattle.sisal_tree.specs.declared.expr.Arm.{Arm, out-Arm}
use Rattle.sisal_tree.specs.declared.expr.Clause.{Clause, out-Clause}
use Rattle.sisal_tree.specs.declared.expr.Def.{Def, out-Def}
use Rattle.sisal_tree.specs.declared.expr.Elements.{Elements, out-Elements}
use Rattle.sisal_tree.specs.declared.expr.Generator.{Generator, out-Generator}
use Rattle.sisal_tree.specs.declared.expr.Loop.{Loop}
use Rattle.sisal_tree.specs.declared.expr.TagCase.{TagCase, out-TagCase}
use Rattle.sisal_tree.specs.declared.expr.Turn.{Turn, out-Turn}
use Rattle.sisal_grammar.specs.declared.value.Outline.{Outline}
use Rattle.sisal_grammar.specs.Phrases.{unit}
use Rattle.sisal_grammar.specs.Placed.{placed}
use Rattle.sisal_grammar.specs.Spells.{Spells}
use Rattle.text_trees.specs.Spelled.{IsItem, AreNamed, IsTarget, IsSpelled, AreSpelled, AreElements, IsDef, AreDefs, IsArm, IsTagCase, IsLoop, AreGroups, IsGenerator, IsTurn, IsClause, group_levels}
use Rattle.text_trees.specs.Parts.{HasParts, HasLoopParts, HasEachArm, AreLast, IsEnd, IsMask}

-- the items that tokens spell, no more than a text can have, are such as a text has
abbrev pub SpelledLaw : Type 0
SpelledLaw = (tokens : List Token) (names : ℕ) (u : Outline) → AreNamed names tokens → length tokens ≤ 4194304 → Spells unit (placed 0 tokens) u → All (IsItem tokens names) u.items

-- parts of what is spelled are spelled
pub record PartsLaw : Type 0 where
  pub exprs : (tokens : List Token) (names h : ℕ) (es : List Expr) → AreSpelled tokens names h es → All (IsSpelled tokens names h) es
  pub expr : (tokens : List Token) (names h : ℕ) (e : Expr) → IsSpelled tokens names h e → HasParts tokens names h (out-ExprKind e.kind)
  pub elements : (tokens : List Token) (names h : ℕ) (els : Elements) → AreElements tokens names h els
      → IsSpelled tokens names h (out-Elements els).lower × All (IsSpelled tokens names h) (out-Elements els).values × (1 ≤ length (out-Elements els).values)
  pub def : (tokens : List Token) (names h : ℕ) (d : Def) → IsDef tokens names h d
      → All (IsTarget tokens names) (out-Def d).targets × (1 ≤ length (out-Def d).targets) × (h + length (out-Def d).targets ≤ 4294967295) × All (IsSpelled tokens names h) (out-Def d).values × (1 ≤ length (out-Def d).values)
  pub defs : (tokens : List Token) (names h : ℕ) (d : Def) (ds : List Def) → AreDefs tokens names h (d ∷ ds)
      → IsDef tokens names h d × AreDefs tokens names (h + length (out-Def d).targets) ds
  pub arm : (tokens : List Token) (names h : ℕ) (a : Arm) → IsArm tokens names h a
      → (1 ≤ length (out-Arm a).tags) × All (IsSpelled tokens names h) (out-Arm a).results × (1 ≤ length (out-Arm a).results)
  pub tag_case : (tokens : List Token) (names h : ℕ) (c : TagCase) → IsTagCase tokens names h c
      → IsSpelled tokens names h (out-TagCase c).subject × HasEachArm tokens names h (out-TagCase c).name (out-TagCase c).arms × AreLast tokens names h (out-TagCase c).otherwise
  pub loop : (tokens : List Token) (names h : ℕ) (p : Loop) → IsLoop tokens names h p → HasLoopParts tokens names h (out-Loop p)
  pub groups : (tokens : List Token) (names h : ℕ) (g : List Generator) (gs : List (List Generator)) → AreGroups tokens names h (g ∷ gs)
      → All (IsGenerator tokens names h) g × (1 ≤ length g) × (h + group_levels g ≤ 4294967295) × AreGroups tokens names (h + group_levels g) gs
  pub generator : (tokens : List Token) (names h : ℕ) (g : Generator) → IsGenerator tokens names h g → IsSpelled tokens names h (out-Generator g).from × IsEnd tokens names h (out-Generator g).to
  pub turn : (tokens : List Token) (names h : ℕ) (t : Turn) → IsTurn tokens names h t
      → IsSpelled tokens names h (out-Turn t).test × AreDefs tokens names h (out-Turn t).defs × (1 ≤ length (out-Turn t).defs)
  pub clause : (tokens : List Token) (names h : ℕ) (c : Clause) → IsClause tokens names h c → IsSpelled tokens names h (out-Clause c).value × IsMask tokens names h (out-Clause c).mask
