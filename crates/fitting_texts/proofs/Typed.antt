-- What functions of texts give and meet.
use Rattle.std.proofs.Common.{◌≡◌, ℕ, zero, suc, List, [], ◌∷◌, Some, slice_get, subst}
use Rattle.flow_value.specs.declared.ty.Ty.{Ty}
use Rattle.typed_tree.specs.declared.expr.TypedExpr.{TypedExpr}
use Rattle.typed_tree.specs.declared.program.Function.{Function}
use Rattle.typed_tree.specs.Types.{AreNumbers}
use Rattle.typed_tree.specs.Units.{signatures}
use Rattle.fitting_trees.specs.Fitting as is
use Rattle.fitting_trees.specs.Fitting.{Header, Fits, AllFit, BodyFits, FunctionFits, FunctionsFit}
use Rattle.fitting_units.specs.Laws.{header, headers}
use Rattle.fitting_units.proofs.Walk.{header_there}
use Rattle.typed_values.proofs.Values.{calls_typed}
use Rattle.typed_values.proofs.Runs.{runs_right}
use Rattle.fitting_texts.specs.Laws.{DoTextsGiveTypes, DoTextsMeetWhatTheyTake}
use Rattle.fitting_texts.proofs.Texts.{tree_fits}

pub texts_typed : DoTextsGiveTypes
texts_typed bytes u p t f s there n vs r h g =
    let ss = signatures t.typed.declared in
    calls_typed p.types u.tokens.names (headers ss) p.functions (tree_fits bytes u p t) f (header s) (header_there ss f s there) n vs r h g

module _ (numbers : List ℕ → List Ty → Type 0) (all : List Header) where
  function_fits : (hs : List Header) (fs : List Function) → FunctionsFit numbers all hs fs → (f : ℕ) (h : Header) (d : Function) → slice_get hs f ≡ Some h → slice_get fs f ≡ Some d → FunctionFits numbers all h d
  function_fits [] [] p f h d e q = cc
  function_fits [] (g ∷ fs) p f h d e q = absurd p
  function_fits (k ∷ hs) [] p f h d e q = absurd p
  function_fits (k ∷ hs) (g ∷ fs) p zero h d e q =
      let a : k ≡ h = cc in let b : g ≡ d = cc in
      subst (λ x. FunctionFits numbers all h x) b (subst (λ x. FunctionFits numbers all x g) a p.0)
  function_fits (k ∷ hs) (g ∷ fs) p (suc f) h d e q = function_fits hs fs p.1 f h d e q

  -- one of some expressions
  expression_fits : (γ : List Ty) (es : List TypedExpr) (tys : List Ty) → AllFit numbers all γ es tys → (k : ℕ) (e : TypedExpr) → slice_get es k ≡ Some e → (own : List Ty) × Fits numbers all γ e own
  expression_fits γ _ _ is.no_more k e q = cc
  expression_fits γ _ _ (is.more {tys = tys} {t = t} p ps) zero e q = let s : t ≡ e = cc in (tys, subst (λ x. Fits numbers all γ x tys) s p)
  expression_fits γ _ _ (is.more {others = others} {ts = ts} p ps) (suc k) e q = expression_fits γ ts others ps k e q

pub texts_right : DoTextsMeetWhatTheyTake
texts_right bytes u p t f s there d es k e function body at n vs a h m =
    let ss = signatures t.typed.declared in
    let tree = tree_fits bytes u p t in
    let numbers = AreNumbers p.types u.tokens.names in
    let fits = function_fits numbers (headers ss) (headers ss) p.functions tree.fits f (header s) d (header_there ss f s there) function in
    let one = expression_fits numbers (headers ss) s.params es s.results (subst (BodyFits numbers (headers ss) (header s)) body fits.body) k e at in
    runs_right p.types u.tokens.names (headers ss) p.functions tree s.params one.0 e one.1 n vs a h m
