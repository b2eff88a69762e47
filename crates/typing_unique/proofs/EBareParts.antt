-- Trees that are one where numbers of one type are given one number, form by form.
use Rattle.std.proofs.Common.{◌≡◌, ℕ, List, [], ◌∷◌, ◌++◌, map, refl, sym, ap, subst, ◌∙◌}
use Rattle.flow_value.specs.declared.ty.Ty.{Ty}
use Rattle.type_table.specs.declared.form.Form.{Form}
use Rattle.sisal_tree.specs.declared.unit.Written.{Written}
use Rattle.sisal_tree.specs.declared.expr.Constant.{Constant}
use Rattle.value_ops.specs.declared.operation.Operation.{Operation}
use Rattle.typed_tree.specs.declared.expr.TypedExpr.{TypedExpr}
use Rattle.typed_tree.specs.declared.expr.TypedKind.{TypedKind}
use Rattle.typed_tree.specs.declared.expr.TypedKind.TheVariants as node
use Rattle.typed_tree.specs.declared.expr.TypedKind.TheViews.{roll-TypedKind}
use Rattle.typed_tree.specs.declared.expr.TypedKind.TheOpen.{TypedKind-F}
use Rattle.typed_tree.specs.declared.expr.TypedKind.TheFolds.{map-TypedKind, fold-roll-TypedKind, fold-roll-TypedExpr}
use Rattle.typed_tree.specs.declared.expr.Case.{Case}
use Rattle.typed_tree.specs.declared.expr.Product.{Product}
use Rattle.typed_tree.specs.declared.expr.Turns.{Turns}
use Rattle.typed_tree.specs.Types.{IsNumber, AreNumbers}
use Rattle.typed_tree.specs.Typing.{Known, Number, with}
use Rattle.typing_unique.specs.Inverted.{at_table}
use Rattle.typing_unique.specs.InvertedTree.{HasTree}
use Rattle.typing_unique.specs.Bare.{renumbered, renumbered_expr, renumbered_kind, renumbered_all, renumbered_lists}

-- ---- layers

renumbered_is : (to : ℕ → ℕ) (l : ℕ) (ns : List ℕ) (c : TypedKind) → renumbered to (with l ns c) ≡ with l (map to ns) (renumbered_kind to c)
renumbered_is to l ns c = fold-roll-TypedExpr TypedKind TypedExpr roll-TypedKind (renumbered_expr to) (record { line = l; types = ns; kind = c })

layer_is : (to : ℕ → ℕ) (x : TypedKind-F TypedKind TypedExpr) → renumbered_kind to (roll-TypedKind x) ≡ roll-TypedKind (map-TypedKind TypedKind TypedExpr TypedKind TypedExpr (renumbered_kind to) (renumbered to) x)
layer_is to x = fold-roll-TypedKind TypedKind TypedExpr roll-TypedKind (renumbered_expr to) x

appended : (to : ℕ → ℕ) (es fs : List TypedExpr) → renumbered_all to (es ++ fs) ≡ renumbered_all to es ++ renumbered_all to fs
appended to [] fs = refl
appended to (e ∷ es) fs = ap (λ l. renumbered to e ∷ l) (appended to es fs)

lists_appended : (to : ℕ → ℕ) (ds es : List (List TypedExpr)) → renumbered_lists to (ds ++ es) ≡ renumbered_lists to ds ++ renumbered_lists to es
lists_appended to [] es = refl
lists_appended to (d ∷ ds) es = ap (λ l. renumbered_all to d ∷ l) (lists_appended to ds es)

-- by what takes the place of numbers in the one tree and in the other
module _ (to other : ℕ → ℕ) where
  -- ---- numbers

  -- numbers of one type are given one number
  abbrev pub Agree : List Form → List Form → List (List ℕ) → Type 0
  Agree f1 f2 names = (n m : ℕ) (a : Ty) → IsNumber f1 names n a → IsNumber f2 names m a → to n ≡ other m

  pub same_numbers : (f1 f2 : List Form) (names : List (List ℕ)) → Agree f1 f2 names → (ns ms : List ℕ) (tys : List Ty) → AreNumbers f1 names ns tys → AreNumbers f2 names ms tys → map to ns ≡ map other ms
  same_numbers f1 f2 names agree [] [] [] p q = refl
  same_numbers f1 f2 names agree [] (m ∷ ms) [] p q = absurd q
  same_numbers f1 f2 names agree (n ∷ ns) ms [] p q = absurd p
  same_numbers f1 f2 names agree [] ms (a ∷ tys) p q = absurd p
  same_numbers f1 f2 names agree (n ∷ ns) [] (a ∷ tys) p q = absurd q
  same_numbers f1 f2 names agree (n ∷ ns) (m ∷ ms) (a ∷ tys) p q =
      ap (λ i. i ∷ map to ns) (agree n m a p.0 q.0) ∙ ap (λ l. other m ∷ l) (same_numbers f1 f2 names agree ns ms tys p.1 q.1)

  -- trees of one kind on one line, of expressions of the same types
  pub same_bare : (k : Known) (f1 f2 : List Form) → Agree f1 f2 k.spellings → (denotes : Written → Ty → Type 0) (l : ℕ) (ns : List ℕ) (c d : TypedKind) (u : TypedExpr) (tys others : List Ty)
      → Number (at_table k f1) ns tys → tys ≡ others → HasTree (at_table k f2) denotes l d u others → renumbered_kind to c ≡ renumbered_kind other d → renumbered to (with l ns c) ≡ renumbered other u
  same_bare k f1 f2 agree denotes l ns c d u tys others n e q f =
      renumbered_is to l ns c
      ∙ ap (λ x. with l x (renumbered_kind to c)) (same_numbers f1 f2 k.spellings agree ns q.numbers others (subst (AreNumbers f1 k.spellings ns) e n.each) q.number.each)
      ∙ ap (λ x. with l (map other q.numbers) x) f
      ∙ sym (renumbered_is other l q.numbers d)
      ∙ ap (renumbered other) (sym q.is)

  alike : (c d : TypedKind) (x y : TypedKind-F TypedKind TypedExpr) → roll-TypedKind x ≡ c → roll-TypedKind y ≡ d
      → map-TypedKind TypedKind TypedExpr TypedKind TypedExpr (renumbered_kind to) (renumbered to) x ≡ map-TypedKind TypedKind TypedExpr TypedKind TypedExpr (renumbered_kind other) (renumbered other) y
      → renumbered_kind to c ≡ renumbered_kind other d
  alike c d x y p q e = ap (renumbered_kind to) (sym p) ∙ layer_is to x ∙ ap roll-TypedKind e ∙ sym (layer_is other y) ∙ ap (renumbered_kind other) q

  -- ---- lists

  abbrev pub Same : TypedExpr → TypedExpr → Type 0
  Same t u = renumbered to t ≡ renumbered other u

  abbrev pub AllSame : List TypedExpr → List TypedExpr → Type 0
  AllSame ts us = renumbered_all to ts ≡ renumbered_all other us

  abbrev pub ListsSame : List (List TypedExpr) → List (List TypedExpr) → Type 0
  ListsSame ds es = renumbered_lists to ds ≡ renumbered_lists other es

  abbrev pub KindsSame : TypedKind → TypedKind → Type 0
  KindsSame c d = renumbered_kind to c ≡ renumbered_kind other d

  pub more : (t u : TypedExpr) (ts us : List TypedExpr) → Same t u → AllSame ts us → AllSame (t ∷ ts) (u ∷ us)
  more t u ts us e f = ap (λ z. z ∷ renumbered_all to ts) e ∙ ap (λ l. renumbered other u ∷ l) f

  pub single : (t u : TypedExpr) → Same t u → AllSame (t ∷ []) (u ∷ [])
  single t u e = ap (λ z. z ∷ []) e

  pub pair : (t u v w : TypedExpr) → Same t v → Same u w → AllSame (t ∷ u ∷ []) (v ∷ w ∷ [])
  pair t u v w e f = more t v (u ∷ []) (w ∷ []) e (single u w f)

  pub more_lists : (es fs : List TypedExpr) (ds gs : List (List TypedExpr)) → AllSame es fs → ListsSame ds gs → ListsSame (es ∷ ds) (fs ∷ gs)
  more_lists es fs ds gs e f = ap (λ z. z ∷ renumbered_lists to ds) e ∙ ap (λ l. renumbered_all other fs ∷ l) f

  pub both : (es fs gs hs : List TypedExpr) → AllSame es fs → AllSame gs hs → AllSame (es ++ gs) (fs ++ hs)
  both es fs gs hs p q = appended to es gs ∙ ap (λ l. l ++ renumbered_all to gs) p ∙ ap (λ l. renumbered_all other fs ++ l) q ∙ sym (appended other fs hs)

  pub both_lists : (ds es fs gs : List (List TypedExpr)) → ListsSame ds es → ListsSame fs gs → ListsSame (ds ++ fs) (es ++ gs)
  both_lists ds es fs gs p q = lists_appended to ds fs ∙ ap (λ l. l ++ renumbered_lists to fs) p ∙ ap (λ l. renumbered_lists other es ++ l) q ∙ sym (lists_appended other es gs)

  -- ---- forms

  pub constant : (c : Constant) → KindsSame (node.Constant c) (node.Constant c)
  constant c = alike (node.Constant c) (node.Constant c) (TypedKind-F.Constant c) (TypedKind-F.Constant c) (node.rolls-Constant c) (node.rolls-Constant c) refl

  pub value : (i j : ℕ) → i ≡ j → KindsSame (node.Value i) (node.Value j)
  value i j e = alike (node.Value i) (node.Value j) (TypedKind-F.Value i) (TypedKind-F.Value j) (node.rolls-Value i) (node.rolls-Value j) (ap (λ z. TypedKind-F.Value z) e)

  pub group : (es fs : List TypedExpr) → AllSame es fs → KindsSame (node.Group es) (node.Group fs)
  group es fs e = alike (node.Group es) (node.Group fs) (TypedKind-F.Group es) (TypedKind-F.Group fs) (node.rolls-Group es) (node.rolls-Group fs) (ap (λ z. TypedKind-F.Group z) e)

  pub call : (i j : ℕ) (es fs : List TypedExpr) → i ≡ j → AllSame es fs → KindsSame (node.Call i es) (node.Call j fs)
  call i j es fs h e =
      alike (node.Call i es) (node.Call j fs) (TypedKind-F.Call i es) (TypedKind-F.Call j fs) (node.rolls-Call i es) (node.rolls-Call j fs)
      (ap (λ n. TypedKind-F.Call n (renumbered_all to es)) h ∙ ap (λ z. TypedKind-F.Call j z) e)

  pub apply : (o p : Operation) (es fs : List TypedExpr) → o ≡ p → AllSame es fs → KindsSame (node.Apply o es) (node.Apply p fs)
  apply o p es fs h e =
      alike (node.Apply o es) (node.Apply p fs) (TypedKind-F.Apply o es) (TypedKind-F.Apply p fs) (node.rolls-Apply o es) (node.rolls-Apply p fs)
      (ap (λ n. TypedKind-F.Apply n (renumbered_all to es)) h ∙ ap (λ z. TypedKind-F.Apply p z) e)

  pub let_in : (ds gs : List (List TypedExpr)) (es fs : List TypedExpr) → ListsSame ds gs → AllSame es fs → KindsSame (node.Let ds es) (node.Let gs fs)
  let_in ds gs es fs h e =
      alike (node.Let ds es) (node.Let gs fs) (TypedKind-F.Let ds es) (TypedKind-F.Let gs fs) (node.rolls-Let ds es) (node.rolls-Let gs fs)
      (ap (λ n. TypedKind-F.Let n (renumbered_all to es)) h ∙ ap (λ z. TypedKind-F.Let (renumbered_lists other gs) z) e)

  pub choice : (ts us es fs gs hs : List TypedExpr) → AllSame ts us → AllSame es fs → AllSame gs hs → KindsSame (node.If ts es gs) (node.If us fs hs)
  choice ts us es fs gs hs t e g =
      alike (node.If ts es gs) (node.If us fs hs) (TypedKind-F.If ts es gs) (TypedKind-F.If us fs hs) (node.rolls-If ts es gs) (node.rolls-If us fs hs)
      (ap (λ z. TypedKind-F.If z (renumbered_all to es) (renumbered_all to gs)) t ∙ ap (λ z. TypedKind-F.If (renumbered_all other us) z (renumbered_all to gs)) e ∙ ap (λ z. TypedKind-F.If (renumbered_all other us) (renumbered_all other fs) z) g)

  pub tags_case : (c d : Case) (us vs : List TypedExpr) (ds gs : List (List TypedExpr)) → c ≡ d → AllSame us vs → ListsSame ds gs → KindsSame (node.Case c us ds) (node.Case d vs gs)
  tags_case c d us vs ds gs h e f =
      alike (node.Case c us ds) (node.Case d vs gs) (TypedKind-F.Case c us ds) (TypedKind-F.Case d vs gs) (node.rolls-Case c us ds) (node.rolls-Case d vs gs)
      (ap (λ z. TypedKind-F.Case z (renumbered_all to us) (renumbered_lists to ds)) h ∙ ap (λ z. TypedKind-F.Case d z (renumbered_lists to ds)) e ∙ ap (λ z. TypedKind-F.Case d (renumbered_all other vs) z) f)

  pub product : (p q : Product) (bs cs : List TypedExpr) (ds gs : List (List TypedExpr)) (es fs : List TypedExpr) → p ≡ q → AllSame bs cs → ListsSame ds gs → AllSame es fs
      → KindsSame (node.Product p bs ds es) (node.Product q cs gs fs)
  product p q bs cs ds gs es fs h b d e =
      alike (node.Product p bs ds es) (node.Product q cs gs fs) (TypedKind-F.Product p bs ds es) (TypedKind-F.Product q cs gs fs) (node.rolls-Product p bs ds es) (node.rolls-Product q cs gs fs)
      (ap (λ z. TypedKind-F.Product z (renumbered_all to bs) (renumbered_lists to ds) (renumbered_all to es)) h ∙ ap (λ z. TypedKind-F.Product q z (renumbered_lists to ds) (renumbered_all to es)) b
      ∙ ap (λ z. TypedKind-F.Product q (renumbered_all other cs) z (renumbered_all to es)) d ∙ ap (λ z. TypedKind-F.Product q (renumbered_all other cs) (renumbered_lists other gs) z) e)

  pub initial : (t u : Turns) (ks ls : List (List TypedExpr)) (ts us : List TypedExpr) (ds gs : List (List TypedExpr)) (es fs : List TypedExpr) → t ≡ u → ListsSame ks ls → AllSame ts us
      → ListsSame ds gs → AllSame es fs → KindsSame (node.Initial t ks ts ds es) (node.Initial u ls us gs fs)
  initial t u ks ls ts us ds gs es fs h a c d e =
      alike (node.Initial t ks ts ds es) (node.Initial u ls us gs fs) (TypedKind-F.Initial t ks ts ds es) (TypedKind-F.Initial u ls us gs fs) (node.rolls-Initial t ks ts ds es) (node.rolls-Initial u ls us gs fs)
      (ap (λ z. TypedKind-F.Initial z (renumbered_lists to ks) (renumbered_all to ts) (renumbered_lists to ds) (renumbered_all to es)) h ∙ ap (λ z. TypedKind-F.Initial u z (renumbered_all to ts) (renumbered_lists to ds) (renumbered_all to es)) a
      ∙ ap (λ z. TypedKind-F.Initial u (renumbered_lists other ls) z (renumbered_lists to ds) (renumbered_all to es)) c ∙ ap (λ z. TypedKind-F.Initial u (renumbered_lists other ls) (renumbered_all other us) z (renumbered_all to es)) d
      ∙ ap (λ z. TypedKind-F.Initial u (renumbered_lists other ls) (renumbered_all other us) (renumbered_lists other gs) z) e)
