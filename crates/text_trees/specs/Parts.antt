-- What a spelled expression consists of, form by form, where so many names are in force.
use Rattle.std.specs.Prelude.{ℕ, ◌+◌, ◌<◌, ◌≤◌, List, All, length, Option, Some, None}
use Rattle.sisal_lex.specs.declared.token.Token.{Token}
use Rattle.sisal_tree.specs.declared.expr.Expr.{Expr}
use Rattle.sisal_tree.specs.declared.expr.ExprKind.{ExprKind}
use Rattle.sisal_tree.specs.declared.expr.ExprKind.TheOpen.{ExprKind-F, Loop-F}
use Rattle.sisal_tree.specs.declared.expr.Arm.{Arm}
use Rattle.sisal_tree.specs.declared.expr.Clause.{Clause}
use Rattle.sisal_tree.specs.declared.expr.Def.{Def}
use Rattle.sisal_tree.specs.declared.expr.Elements.{Elements}
use Rattle.sisal_tree.specs.declared.expr.FieldValue.{FieldValue}
use Rattle.sisal_tree.specs.declared.expr.Generator.{Generator}
use Rattle.sisal_tree.specs.declared.expr.Loop.{Loop}
use Rattle.sisal_tree.specs.declared.expr.Mask.{Mask}
use Rattle.sisal_tree.specs.declared.expr.TagCase.{TagCase}
use Rattle.sisal_tree.specs.declared.expr.Turn.{Turn}
use Rattle.text_trees.specs.Spelled.{IsType, IsSpelled, AreElements, AreDefs, IsArm, IsTagCase, IsLoop, AreGroups, IsTurn, IsClause, defs_levels, groups_levels, content_levels}

module _ (tokens : List Token) (names : ℕ) (h : ℕ) where
  -- the value of a field
  pub record IsValue (v : FieldValue) : Type 0 where
    pub named : v.field.name < names
    pub value : IsSpelled tokens names h v.value

  abbrev pub HasParts : ExprKind-F ExprKind Loop Arm Clause Def Elements Expr FieldValue Generator Mask TagCase Turn → Type 0
  HasParts (ExprKind-F.Constant c) = Unit {0}
  HasParts (ExprKind-F.Name x) = x < names
  HasParts (ExprKind-F.Old x) = x < names
  HasParts (ExprKind-F.Group e) = IsSpelled tokens names h e
  HasParts (ExprKind-F.Call x es) = All (IsSpelled tokens names h) es
  HasParts (ExprKind-F.Convert s e) = IsSpelled tokens names h e
  HasParts (ExprKind-F.ErrorOf w) = IsType tokens w
  HasParts (ExprKind-F.IsError e) = IsSpelled tokens names h e
  HasParts (ExprKind-F.IsTag x e) = IsSpelled tokens names h e
  HasParts (ExprKind-F.Prefix o e) = IsSpelled tokens names h e
  HasParts (ExprKind-F.Binary o e f) = IsSpelled tokens names h e × IsSpelled tokens names h f
  HasParts (ExprKind-F.Select e i) = IsSpelled tokens names h e × IsSpelled tokens names h i
  HasParts (ExprKind-F.Update e i f) = IsSpelled tokens names h e × IsSpelled tokens names h i × IsSpelled tokens names h f
  HasParts (ExprKind-F.Field e x) = IsSpelled tokens names h e
  HasParts (ExprKind-F.Replace e vs) = IsSpelled tokens names h e × All IsValue vs × (1 ≤ length vs)
  HasParts (ExprKind-F.Array x None) = Unit {0}
  HasParts (ExprKind-F.Array x (Some els)) = AreElements tokens names h els
  HasParts (ExprKind-F.Stream x es) = All (IsSpelled tokens names h) es
  HasParts (ExprKind-F.Record x vs) = All IsValue vs × (1 ≤ length vs)
  HasParts (ExprKind-F.Union x t e) = IsSpelled tokens names h e
  HasParts (ExprKind-F.Let ds es) = AreDefs tokens names h ds × All (IsSpelled tokens names (h + defs_levels ds)) es × (1 ≤ length es)
  HasParts (ExprKind-F.If e es fs) = IsSpelled tokens names h e × All (IsSpelled tokens names h) es × (1 ≤ length es) × All (IsSpelled tokens names h) fs × (1 ≤ length fs)
  HasParts (ExprKind-F.TagCase c) = IsTagCase tokens names h c
  HasParts (ExprKind-F.For p) = IsLoop tokens names h p

  -- the results of `otherwise`
  abbrev pub AreLast : Option (List Expr) → Type 0
  AreLast None = Unit {0}
  AreLast (Some es) = All (IsSpelled tokens names h) es × (1 ≤ length es)

  -- the last number of a range
  abbrev pub IsEnd : Option Expr → Type 0
  IsEnd None = Unit {0}
  IsEnd (Some e) = IsSpelled tokens names h e

  abbrev pub IsMask : Option Mask → Type 0
  IsMask None = Unit {0}
  IsMask (Some m) = IsSpelled tokens names h m.test

  -- the arms of a `tagcase`, which see the content where it has a name
  pub record HasEachArm (x : Option ℕ) (bs : List Arm) : Type 0 where
    pub each : All (IsArm tokens names (h + content_levels x)) bs
    pub room : h + content_levels x ≤ 4294967295
    pub some : 1 ≤ length bs
    pub few : length bs ≤ 4294967295

  abbrev pub HasLoopParts : Loop-F ExprKind Loop Arm Clause Def Elements Expr FieldValue Generator Mask TagCase Turn → Type 0
  HasLoopParts (Loop-F.Product gs ds cs) =
      AreGroups tokens names h gs × (1 ≤ length gs) × AreDefs tokens names (h + groups_levels gs) ds × All (IsClause tokens names (h + groups_levels gs + defs_levels ds)) cs × (1 ≤ length cs)
  HasLoopParts (Loop-F.Initial ds t cs) =
      AreDefs tokens names h ds × (1 ≤ length ds) × IsTurn tokens names (h + defs_levels ds) t × All (IsClause tokens names (h + defs_levels ds)) cs × (1 ≤ length cs)
