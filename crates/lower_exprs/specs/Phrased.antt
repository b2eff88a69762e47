-- Lists of phrases, and which form an expression has.
use Rattle.std.specs.Prelude.{◌≡◌, ℕ, nat_lt, Bool, true, false, List, [], ◌∷◌, ◌++◌, map, Option, Some, None, if◌then◌else◌}
use Rattle.type_table.specs.declared.form.Form.{Form}
use Rattle.typed_tree.specs.declared.expr.TypedExpr.{TypedExpr}
use Rattle.typed_tree.specs.declared.expr.TypedKind.{TypedKind}
use Rattle.typed_tree.specs.declared.expr.TypedKind.TheVariants as typed
use Rattle.typed_tree.specs.declared.expr.Case.{Case}
use Rattle.typed_tree.specs.declared.expr.Product.{Product}
use Rattle.typed_tree.specs.declared.expr.Turns.{Turns}
use Rattle.value_ops.specs.declared.operation.Operation.{Operation}
use Rattle.lowering.specs.declared.feed.Feed.TheVariants.{Port}
use Rattle.lowering.specs.declared.feed.Carried.TheVariants.{One}
use Rattle.lowering.specs.declared.feed.Wire.{Wire}
use Rattle.lowering.specs.Feeds.{wire}
use Rattle.lowering.specs.Graphs.{Lowering, andthen}
use Rattle.lowering.specs.Choices.{selector_lowered, arms_from, content_of, applied}
use Rattle.lowering.specs.Operations.{Lowers, all_lowered, defs_lowered}
use Rattle.lowering.specs.Loops.{Phrase, with_not}
use Rattle.lowering.specs.Phrases.{each, phrase, phrase_kind, call_lowered}
use Rattle.lowered_data.specs.Scopes.{Scopes, with_names}

module _ (forms : List Form) where
  -- a form of expression whose values have these types
  abbrev pub kind_of : TypedKind → List ℕ → Lowers
  kind_of k ts = (phrase_kind forms k).lowers ts

  abbrev pub phrases : List TypedExpr → List Phrase
  phrases es = map (phrase forms) es

  abbrev pub alls : List TypedExpr → Lowers
  alls es = all_lowered (each (phrases es))

  abbrev pub lists : List (List TypedExpr) → List (List Lowers)
  lists ds = map each (map phrases ds)

  abbrev pub all_defs : List (List TypedExpr) → Lowers
  all_defs ds = defs_lowered (lists ds)

  abbrev pub call_of : ℕ → List TypedExpr → List ℕ → Lowers
  call_of f es ts = call_lowered f (each (phrases es)) ts

  abbrev pub apply_of : Operation → List TypedExpr → List ℕ → Lowers
  apply_of op es ts env = andthen (alls es env) (λ ws. applied forms op ws ts)

  abbrev pub selector_of : List TypedExpr → Lowers
  selector_of es = selector_lowered (each (phrases es))

  -- the arms of a `tagcase` from one on
  abbrev pub arms_in : Case → ℕ → ℕ → List (List TypedExpr) → List Wire → List Lowering
  arms_in c type arm arms env = arms_from forms c type arm (map all_lowered (lists arms)) env

  -- the type of the content that an arm sees, where this is its first tag
  abbrev pub content_at : ℕ → ℕ → ℕ → ℕ → Option ℕ
  content_at type named tag arm = if nat_lt arm named then Some (content_of forms type tag) else None

-- the content of a union comes into force, where it has a name
abbrev pub with_content : Option ℕ → List Wire → List Wire
with_content None env = env
with_content (Some t) env = env ++ wire (Port 0 0 1) (One t) ∷ []

-- a phrase, or its Not
abbrev pub maybe_not : Bool → Lowers → Lowers
maybe_not true g = with_not g
maybe_not false g = g

-- names came into force
pub record Grows (before after : Scopes) : Type 0 where
  pub more : List Wire
  pub is : after ≡ with_names before more

abbrev pub IsLet : TypedKind → Type 0
IsLet k = (ds : List (List TypedExpr)) × (es : List TypedExpr) × (k ≡ typed.Let ds es)

abbrev pub IsIf : TypedKind → Type 0
IsIf k = (test arm other : List TypedExpr) × (k ≡ typed.If test arm other)

abbrev pub IsCase : TypedKind → Type 0
IsCase k = (c : Case) × (us : List TypedExpr) × (arms : List (List TypedExpr)) × (k ≡ typed.Case c us arms)

abbrev pub IsProduct : TypedKind → Type 0
IsProduct k = (p : Product) × (bs : List TypedExpr) × (ds : List (List TypedExpr)) × (es : List TypedExpr) × (k ≡ typed.Product p bs ds es)

abbrev pub IsInitial : TypedKind → Type 0
IsInitial k =
    (t : Turns) × (fs : List (List TypedExpr)) × (test : List TypedExpr) × (ds : List (List TypedExpr)) × (es : List TypedExpr)
    × (k ≡ typed.Initial t fs test ds es)
