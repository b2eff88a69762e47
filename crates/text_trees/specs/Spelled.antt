-- What the tree of a text has beyond the kinds of its nodes: wherever the grammar asks for an item at least there is one, names are
-- numbers of names of the text, what stands for a written type are tokens that are a type, and the names that come into force have
-- levels of 32 bits (SISAL Language Reference Manual 1.2, syntax and scope).
use Rattle.std.specs.Prelude.{◌≡◌, ℕ, ◌+◌, ◌<◌, ◌≤◌, List, [], ◌∷◌, All, length, Option, Some, None, slice_range, Bool}
use Rattle.sisal_lex.specs.declared.token.Token.{Token}
use Rattle.sisal_lex.specs.declared.token.Kind.TheVariants as kind
use Rattle.sisal_tree.specs.declared.unit.Named.{Named}
use Rattle.sisal_tree.specs.declared.unit.Written.{Written}
use Rattle.sisal_tree.specs.declared.unit.Field.{Field}
use Rattle.sisal_tree.specs.declared.unit.Header.{Header}
use Rattle.sisal_tree.specs.declared.unit.FunKind.{FunKind}
use Rattle.sisal_tree.specs.declared.unit.FunKind.TheVariants as fun
use Rattle.sisal_tree.specs.declared.unit.Item.{Item}
use Rattle.sisal_tree.specs.declared.unit.Item.TheVariants as item
use Rattle.sisal_tree.specs.declared.expr.Expr.{Expr}
use Rattle.sisal_tree.specs.declared.expr.ExprKind.TheVariants as tree
use Rattle.sisal_tree.specs.declared.expr.Constant.{Constant}
use Rattle.sisal_tree.specs.declared.expr.Scalar.{Scalar}
use Rattle.sisal_tree.specs.declared.expr.PrefixOperator.{PrefixOperator}
use Rattle.sisal_tree.specs.declared.expr.BinaryOperator.{BinaryOperator}
use Rattle.sisal_tree.specs.declared.expr.FieldValue.{FieldValue}
use Rattle.sisal_tree.specs.declared.expr.Elements.{Elements, roll-Elements}
use Rattle.sisal_tree.specs.declared.expr.Def.{Def, out-Def, roll-Def}
use Rattle.sisal_tree.specs.declared.expr.Target.{Target}
use Rattle.sisal_tree.specs.declared.expr.TagCase.{TagCase, roll-TagCase}
use Rattle.sisal_tree.specs.declared.expr.Arm.{Arm, roll-Arm}
use Rattle.sisal_tree.specs.declared.expr.Loop.{Loop}
use Rattle.sisal_tree.specs.declared.expr.Loop.TheVariants as loop
use Rattle.sisal_tree.specs.declared.expr.Generator.{Generator, out-Generator, roll-Generator}
use Rattle.sisal_tree.specs.declared.expr.Turn.{Turn, roll-Turn}
use Rattle.sisal_tree.specs.declared.expr.Clause.{Clause, roll-Clause}
use Rattle.sisal_tree.specs.declared.expr.ClauseKind.{ClauseKind}
use Rattle.sisal_grammar.specs.Acts.{at}
use Rattle.sisal_grammar.specs.Phrases.{ty}
use Rattle.sisal_grammar.specs.Placed.{placed}
use Rattle.sisal_grammar.specs.Spells.{Spells}

-- tokens that are a type
pub record IsType (tokens : List Token) (w : Written) : Type 0 where
  pub ordered : w.from ≤ w.to
  pub within : w.to ≤ length tokens
  pub spelled : Spells ty (slice_range (placed 0 tokens) w.from w.to) w

abbrev pub IsTypeIf : List Token → Option Written → Type 0
IsTypeIf tokens None = Unit {0}
IsTypeIf tokens (Some w) = IsType tokens w

-- ---- how many names come into force

abbrev pub defs_levels : List Def → ℕ
defs_levels [] = 0
defs_levels (d ∷ ds) = length (out-Def d).targets + defs_levels ds

abbrev pub index_levels : Option ℕ → ℕ
index_levels None = 0
index_levels (Some x) = 1

-- one for each generator, and one more for an index
abbrev pub group_levels : List Generator → ℕ
group_levels [] = 0
group_levels (g ∷ gs) = 1 + index_levels (out-Generator g).at + group_levels gs

abbrev pub groups_levels : List (List Generator) → ℕ
groups_levels [] = 0
groups_levels (g ∷ gs) = group_levels g + groups_levels gs

-- that of the content, in each arm of a `tagcase`
abbrev pub content_levels : Option ℕ → ℕ
content_levels None = 0
content_levels (Some x) = 1

abbrev pub params_levels : List Field → ℕ
params_levels [] = 0
params_levels (f ∷ fs) = length f.names + params_levels fs

-- ---- trees

-- in a text of these tokens and so many names
module _ (tokens : List Token) (names : ℕ) where
  abbrev pub IsTarget : Target → Type 0
  IsTarget x = (x.name.name < names) × IsTypeIf tokens x.ty

  mutual
    -- where so many names are in force
    pub data IsSpelled : ℕ → Expr → Type 0 where
      constant : {h l : ℕ} {c : Constant} → IsSpelled h (at l (tree.Constant c))
      name : {h l x : ℕ} → x < names → IsSpelled h (at l (tree.Name x))
      old : {h l x : ℕ} → x < names → IsSpelled h (at l (tree.Old x))
      group : {h l : ℕ} {e : Expr} → IsSpelled h e → IsSpelled h (at l (tree.Group e))
      call : {h l x : ℕ} {es : List Expr} → x < names → AreSpelled h es → IsSpelled h (at l (tree.Call x es))
      convert : {h l : ℕ} {s : Scalar} {e : Expr} → IsSpelled h e → IsSpelled h (at l (tree.Convert s e))
      error_of : {h l : ℕ} {w : Written} → IsType tokens w → IsSpelled h (at l (tree.ErrorOf w))
      is_error : {h l : ℕ} {e : Expr} → IsSpelled h e → IsSpelled h (at l (tree.IsError e))
      is_tag : {h l x : ℕ} {e : Expr} → x < names → IsSpelled h e → IsSpelled h (at l (tree.IsTag x e))
      prefix : {h l : ℕ} {o : PrefixOperator} {e : Expr} → IsSpelled h e → IsSpelled h (at l (tree.Prefix o e))
      binary : {h l : ℕ} {o : BinaryOperator} {e f : Expr} → IsSpelled h e → IsSpelled h f → IsSpelled h (at l (tree.Binary o e f))
      select : {h l : ℕ} {e i : Expr} → IsSpelled h e → IsSpelled h i → IsSpelled h (at l (tree.Select e i))
      update : {h l : ℕ} {e i f : Expr} → IsSpelled h e → IsSpelled h i → IsSpelled h f → IsSpelled h (at l (tree.Update e i f))
      field : {h l x : ℕ} {e : Expr} → x < names → IsSpelled h e → IsSpelled h (at l (tree.Field e x))
      replace : {h l : ℕ} {e : Expr} {vs : List FieldValue} → IsSpelled h e → AreValues h vs → 1 ≤ length vs → IsSpelled h (at l (tree.Replace e vs))
      no_elements : {h l : ℕ} {x : Option ℕ} → IsSpelled h (at l (tree.Array x None))
      array : {h l : ℕ} {x : Option ℕ} {els : Elements} → AreElements h els → IsSpelled h (at l (tree.Array x (Some els)))
      stream : {h l : ℕ} {x : Option ℕ} {es : List Expr} → AreSpelled h es → IsSpelled h (at l (tree.Stream x es))
      a_record : {h l : ℕ} {x : Option ℕ} {vs : List FieldValue} → AreValues h vs → 1 ≤ length vs → IsSpelled h (at l (tree.Record x vs))
      union : {h l x t : ℕ} {e : Expr} → x < names → t < names → IsSpelled h e → IsSpelled h (at l (tree.Union x t e))
      let_in : {h l : ℕ} {ds : List Def} {es : List Expr} → AreDefs h ds → AreSpelled (h + defs_levels ds) es → 1 ≤ length es → IsSpelled h (at l (tree.Let ds es))
      if_else : {h l : ℕ} {e : Expr} {es fs : List Expr} → IsSpelled h e → AreSpelled h es → 1 ≤ length es → AreSpelled h fs → 1 ≤ length fs → IsSpelled h (at l (tree.If e es fs))
      tag_case : {h l : ℕ} {c : TagCase} → IsTagCase h c → IsSpelled h (at l (tree.TagCase c))
      for_all : {h l : ℕ} {p : Loop} → IsLoop h p → IsSpelled h (at l (tree.For p))

    pub data AreSpelled : ℕ → List Expr → Type 0 where
      no_expr : {h : ℕ} → AreSpelled h []
      an_expr : {h : ℕ} {e : Expr} {es : List Expr} → IsSpelled h e → AreSpelled h es → AreSpelled h (e ∷ es)

    -- values of fields
    pub data AreValues : ℕ → List FieldValue → Type 0 where
      no_value : {h : ℕ} → AreValues h []
      a_value : {h : ℕ} {n : Named} {e : Expr} {vs : List FieldValue} → n.name < names → IsSpelled h e → AreValues h vs → AreValues h (record { field = n; value = e } ∷ vs)

    pub data AreElements : ℕ → Elements → Type 0 where
      elements : {h : ℕ} {e : Expr} {es : List Expr} → IsSpelled h e → AreSpelled h es → 1 ≤ length es → AreElements h (roll-Elements (record { lower = e; values = es }))

    -- definitions, each of which sees the names of the earlier ones
    pub data IsDef : ℕ → Def → Type 0 where
      def : {h : ℕ} (xs : List Target) {es : List Expr} → All IsTarget xs → 1 ≤ length xs → h + length xs ≤ 4294967295 → AreSpelled h es → 1 ≤ length es → IsDef h (roll-Def (record { targets = xs; values = es }))

    pub data AreDefs : ℕ → List Def → Type 0 where
      no_def : {h : ℕ} → AreDefs h []
      a_def : {h : ℕ} {d : Def} {ds : List Def} → IsDef h d → AreDefs (h + length (out-Def d).targets) ds → AreDefs h (d ∷ ds)

    pub data IsArm : ℕ → Arm → Type 0 where
      arm : {h : ℕ} (l : ℕ) (ts : List Named) {es : List Expr} → All (λ n. n.name < names) ts → 1 ≤ length ts → AreSpelled h es → 1 ≤ length es → IsArm h (roll-Arm (record { line = l; tags = ts; results = es }))

    pub data AreArms : ℕ → List Arm → Type 0 where
      no_arm : {h : ℕ} → AreArms h []
      an_arm : {h : ℕ} {a : Arm} {bs : List Arm} → IsArm h a → AreArms h bs → AreArms h (a ∷ bs)

    -- arms of a `tagcase`, which see the content where it has a name
    pub data HasArms : ℕ → Option ℕ → List Arm → Type 0 where
      arms : {h : ℕ} (x : Option ℕ) {bs : List Arm} → AreArms (h + content_levels x) bs → h + content_levels x ≤ 4294967295 → 1 ≤ length bs → length bs ≤ 4294967295 → HasArms h x bs

    pub data IsTagCase : ℕ → TagCase → Type 0 where
      all_named : {h : ℕ} (x : Option ℕ) {e : Expr} {bs : List Arm} → IsSpelled h e → HasArms h x bs → IsTagCase h (roll-TagCase (record { name = x; subject = e; arms = bs; otherwise = None }))
      otherwise : {h : ℕ} (x : Option ℕ) {e : Expr} {bs : List Arm} {es : List Expr} → IsSpelled h e → HasArms h x bs → AreSpelled h es → 1 ≤ length es
          → IsTagCase h (roll-TagCase (record { name = x; subject = e; arms = bs; otherwise = Some es }))

    -- loops
    pub data IsLoop : ℕ → Loop → Type 0 where
      product : {h : ℕ} {gs : List (List Generator)} {ds : List Def} {cs : List Clause} → AreGroups h gs → 1 ≤ length gs → AreDefs (h + groups_levels gs) ds → AreClauses (h + groups_levels gs + defs_levels ds) cs → 1 ≤ length cs
          → IsLoop h (loop.Product gs ds cs)
      initial : {h : ℕ} {ds : List Def} {t : Turn} {cs : List Clause} → AreDefs h ds → 1 ≤ length ds → IsTurn (h + defs_levels ds) t → AreClauses (h + defs_levels ds) cs → 1 ≤ length cs → IsLoop h (loop.Initial ds t cs)

    -- groups of generators, each of which sees the names of the earlier ones
    pub data AreGroups : ℕ → List (List Generator) → Type 0 where
      no_group : {h : ℕ} → AreGroups h []
      a_group : {h : ℕ} {g : List Generator} {gs : List (List Generator)} → AreGenerators h g → 1 ≤ length g → h + group_levels g ≤ 4294967295 → AreGroups (h + group_levels g) gs → AreGroups h (g ∷ gs)

    pub data AreGenerators : ℕ → List Generator → Type 0 where
      no_generator : {h : ℕ} → AreGenerators h []
      a_generator : {h : ℕ} {g : Generator} {gs : List Generator} → IsGenerator h g → AreGenerators h gs → AreGenerators h (g ∷ gs)

    pub data IsGenerator : ℕ → Generator → Type 0 where
      over : {h : ℕ} (n : Named) {e : Expr} (x : Option ℕ) → n.name < names → IsSpelled h e → IsGenerator h (roll-Generator (record { name = n; from = e; to = None; at = x }))
      range : {h : ℕ} (n : Named) {e f : Expr} (x : Option ℕ) → n.name < names → IsSpelled h e → IsSpelled h f → IsGenerator h (roll-Generator (record { name = n; from = e; to = Some f; at = x }))

    pub data IsTurn : ℕ → Turn → Type 0 where
      turn : {h : ℕ} (f u : Bool) {e : Expr} {ds : List Def} → IsSpelled h e → AreDefs h ds → 1 ≤ length ds → IsTurn h (roll-Turn (record { is_first = f; is_until = u; test = e; defs = ds }))

    pub data IsClause : ℕ → Clause → Type 0 where
      all_kept : {h : ℕ} (l : ℕ) (k : ClauseKind) {e : Expr} → IsSpelled h e → IsClause h (roll-Clause (record { line = l; kind = k; value = e; mask = None }))
      masked : {h : ℕ} (l : ℕ) (k : ClauseKind) (u : Bool) {e f : Expr} → IsSpelled h e → IsSpelled h f → IsClause h (roll-Clause (record { line = l; kind = k; value = e; mask = Some (record { is_unless = u; test = f }) }))

    pub data AreClauses : ℕ → List Clause → Type 0 where
      no_clause : {h : ℕ} → AreClauses h []
      a_clause : {h : ℕ} {c : Clause} {cs : List Clause} → IsClause h c → AreClauses h cs → AreClauses h (c ∷ cs)

  -- headers and items
  pub record IsHeader (h : Header) : Type 0 where
    pub params : All (λ f. IsType tokens f.ty) h.params
    pub results : All (IsType tokens) h.results
    pub some : 1 ≤ length h.results
    pub few : params_levels h.params ≤ 4194304

  -- wherever no more names are in force than a text can have
  abbrev pub IsBody : FunKind → Type 0
  IsBody (fun.Defined es) = ((h : ℕ) → h ≤ 4194304 → AreSpelled h es) × (1 ≤ length es)
  IsBody _ = Unit {0}

  abbrev pub IsItem : Item → Type 0
  IsItem (item.Alias d) = IsType tokens d.ty
  IsItem (item.Function f) = IsHeader f.header × IsBody f.kind

-- each name among the tokens is one of so many
abbrev pub AreNamed : ℕ → List Token → Type 0
AreNamed names tokens = All (λ t. (x : ℕ) → t.kind ≡ kind.Id x → x < names) tokens
