-- What each form of phrase becomes (SISAL Language Reference Manual 1.2, expressions). Names, `let` and parentheses make no node, and
-- every definition is lowered, used or not.
use Rattle.std.specs.Prelude.{ℕ, List, [], ◌∷◌, map, Option, Some, None}
use Rattle.typed_tree.specs.Form.{Form}
use Rattle.typed_tree.specs.declared.expr.TypedExpr.{TypedExpr}
use Rattle.typed_tree.specs.declared.expr.TypedKind.{TypedKind}
use Rattle.typed_tree.specs.declared.expr.TypedKind.TheOpen.{TypedKind-F, TypedExpr-F}
use Rattle.typed_tree.specs.declared.expr.TypedKind.TheFolds.{fold-TypedExpr, fold-TypedKind}
use Rattle.lowering.specs.declared.feed.Carried.TheVariants.{One}
use Rattle.lowering.specs.declared.graph.Action.TheVariants.{Call}
use Rattle.lowering.specs.Graphs.{only, andthen, a_node}
use Rattle.lowering.specs.Operations.{Lowers, all_lowered, body_lowered, wire_at, constant_lowered}
use Rattle.lowering.specs.Choices.{if_lowered, case_lowered, applied}
use Rattle.lowering.specs.Loops.{Phrase, product_lowered, initial_lowered}

-- a phrase by the types of its values
pub record Kind : Type 0 where
  pub name : Option ℕ
  pub lowers : List ℕ → Lowers

abbrev pub is_named : ℕ → (List ℕ → Lowers) → Kind
is_named x f = record { name = Some x; lowers = f }

abbrev pub unnamed : (List ℕ → Lowers) → Kind
unnamed f = record { name = None; lowers = f }

abbrev pub each : List Phrase → List Lowers
each ps = map (λ p. p.lowers) ps

abbrev pub expr_lowered : TypedExpr-F Kind Phrase → Phrase
expr_lowered e = record { name = e.kind.name; lowers = e.kind.lowers e.types }

abbrev pub call_lowered : ℕ → List Lowers → List ℕ → Lowers
call_lowered f gs ts env = andthen (all_lowered gs env) (λ ws. a_node (Call f) ws 1 (map One ts))

-- in a program of these types
module _ (forms : List Form) where
  abbrev pub kind_lowered : TypedKind-F Kind Phrase → Kind
  kind_lowered (TypedKind-F.Constant c) = unnamed (λ ts env. constant_lowered c ts)
  kind_lowered (TypedKind-F.Value x) = is_named x (λ ts env. only (wire_at env x ∷ []))
  kind_lowered (TypedKind-F.Group gs) = unnamed (λ ts env. all_lowered (each gs) env)
  kind_lowered (TypedKind-F.Call f gs) = unnamed (λ ts env. call_lowered f (each gs) ts env)
  kind_lowered (TypedKind-F.Apply op gs) = unnamed (λ ts env. andthen (all_lowered (each gs) env) (λ ws. applied forms op ws ts))
  kind_lowered (TypedKind-F.Let ds gs) = unnamed (λ ts env. body_lowered (map each ds) (each gs) env)
  kind_lowered (TypedKind-F.If test arm other) = unnamed (λ ts env. if_lowered (each test) (each arm) (each other) ts env)
  kind_lowered (TypedKind-F.Case c us arms) =
      unnamed (λ ts env. andthen (all_lowered (each us) env) (λ ws. case_lowered forms c (map each arms) ts ws env))
  kind_lowered (TypedKind-F.Product p bs ds gs) =
      unnamed (λ ts env. andthen (all_lowered (each bs) env) (λ ws. product_lowered forms p (map each ds) (each gs) ts ws env))
  kind_lowered (TypedKind-F.Initial t fs test ds gs) =
      unnamed (λ ts env. initial_lowered t (map each fs) (each test) (map each ds) gs ts env)

  abbrev pub phrase : TypedExpr → Phrase
  phrase = fold-TypedExpr Kind Phrase kind_lowered expr_lowered

  abbrev pub phrase_kind : TypedKind → Kind
  phrase_kind = fold-TypedKind Kind Phrase kind_lowered expr_lowered

  -- what an expression becomes
  abbrev pub lowers : TypedExpr → Lowers
  lowers e = (phrase e).lowers
