-- What the laws on bound trees say.
use Rattle.std.specs.Prelude.{ℕ, ◌+◌, ◌<◌, ◌≤◌, ◌≡◌, List, All, length, Ok}
use Rattle.sisal_tree.specs.declared.unit.Unit as tree
use Rattle.typed_tree.specs.declared.expr.TypedExpr.{TypedExpr}
use Rattle.typed_tree.specs.declared.expr.TypedKind.{TypedKind}
use Rattle.typed_tree.specs.declared.expr.TypedKind.TheOpen.{TypedKind-F}
use Rattle.typed_tree.specs.declared.expr.TypedKind.TheViews.{out-TypedKind}
use Rattle.typed_tree.specs.declared.program.Program.{Program}
use Rattle.typed_tree.specs.Units.{IsTyped}
use Rattle.bound_trees.specs.Tokens.{AreOfText}
use Rattle.sisal_lex.specs.Tokens.{tokens_of}
use Rattle.sisal_grammar.specs.Phrases.{unit}
use Rattle.sisal_grammar.specs.Placed.{placed}
use Rattle.sisal_grammar.specs.Spells.{Spells}
use Rattle.bound_trees.specs.Leaves.{IsLiteral, IsWritten, a_case}
use Rattle.sisal_tree.specs.Depth.{depth_of}
use Rattle.bound_trees.specs.Depths.{AreWithin}
use Rattle.bound_trees.specs.Bound.{levels_in, levels_over, IsWrittenApply, IsRenewal, IsBound, AreBound, AreDefined, AreArms, IsBoundProgram}

-- a typed unit of the tokens of a text is bound
abbrev pub BoundLaw : Type 0
BoundLaw = (u : tree.Unit) (p : Program) → AreOfText (length u.tokens.names) u.tokens.list
    → Spells unit (placed 0 u.tokens.list) (record { defines = u.defines; items = u.items }) → IsTyped u p → IsBoundProgram p

-- so is that of a text, whose tokens keep to this by themselves
abbrev pub TextLaw : Type 0
TextLaw = (bytes : List ℕ) (u : tree.Unit) (p : Program) → tokens_of bytes ≡ Ok u.tokens
    → Spells unit (placed 0 u.tokens.list) (record { defines = u.defines; items = u.items }) → IsTyped u p → IsBoundProgram p

-- the results of the functions of a typed unit nest no deeper than the unit
abbrev pub DepthLaw : Type 0
DepthLaw = (u : tree.Unit) (p : Program) (n : ℕ) → depth_of u.items ≤ n → IsTyped u p → All (λ f. AreWithin n f.body) p.functions

-- what a bound expression consists of
abbrev pub HasBoundParts : ℕ → ℕ → TypedKind-F TypedKind TypedExpr → Type 0
HasBoundParts functions n (TypedKind-F.Constant c) = IsLiteral c
HasBoundParts functions n (TypedKind-F.Value level) = level < n
HasBoundParts functions n (TypedKind-F.Group ts) = AreBound functions n ts
HasBoundParts functions n (TypedKind-F.Call f ts) = (f < functions) × AreBound functions n ts
HasBoundParts functions n (TypedKind-F.Apply op ts) = AreBound functions n ts × IsWrittenApply op (length ts)
HasBoundParts functions n (TypedKind-F.Let us ts) = AreDefined functions n us × AreBound functions (n + levels_in us) ts
HasBoundParts functions n (TypedKind-F.If ts us vs) = AreBound functions n ts × AreBound functions n us × AreBound functions n vs
HasBoundParts functions n (TypedKind-F.Case c ts arms) = AreBound functions n ts × AreArms functions n c.named arms × All (λ x. x.arm < length arms) c.choices × IsWritten (a_case (length arms))
HasBoundParts functions n (TypedKind-F.Product p bounds us ts) =
    let m = n + levels_over p.sources in AreBound functions n bounds × AreDefined functions m us × AreBound functions (m + levels_in us) ts × (1 ≤ length p.sources)
HasBoundParts functions n (TypedKind-F.Initial t us test vs ts) =
    let m = n + levels_in us in
    AreDefined functions n us × AreBound functions m test × AreDefined functions m vs × AreBound functions m ts × (length t.renewed ≡ levels_in vs) × All (IsRenewal (levels_in us)) t.renewed

abbrev pub PartsLaw : Type 0
PartsLaw = (functions n : ℕ) (e : TypedExpr) → IsBound functions n e → HasBoundParts functions n (out-TypedKind e.kind)

-- expressions are bound one by one
abbrev pub EachLaw : Type 0
EachLaw = (functions n : ℕ) (ts : List TypedExpr) → AreBound functions n ts → All (IsBound functions n) ts
