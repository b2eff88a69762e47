-- Each operation on operands of its types obeys the rules.
use Rattle.std.proofs.Common.{◌≡◌, ℕ, inl, inr, List, [], ◌∷◌, refl}
use Rattle.flow_value.specs.declared.ty.Ty.{Ty}
use Rattle.flow_value.specs.declared.ty.Ty.TheVariants as ty
use Rattle.flow_value.specs.declared.operation.Scalar1.TheVariants as unary
use Rattle.flow_value.specs.declared.operation.Scalar2.{Scalar2}
use Rattle.flow_value.specs.declared.operation.Scalar2.TheVariants as two
use Rattle.if1_graph.specs.declared.op.Simple.TheVariants as simple
use Rattle.if1_graph.specs.Types.{Sort, Plain}
use Rattle.typed_tree.specs.Types.{IsNumber}
use Rattle.value_ops.specs.declared.operation.Operation.{Operation}
use Rattle.lowering_meaning.specs.FittingTreesFitting.{Row}
use Rattle.lowering_meaning.specs.FittingTreesFitting as is
use Rattle.lowering.specs.declared.feed.Carried.{Carried}
use Rattle.lowering.specs.declared.feed.Wire.{Wire}
use Rattle.lowering.specs.Operations.{one, reversed, row_lowered}
use Rattle.lowering.specs.Choices.{applied}
use Rattle.lowered_ready.specs.Ports.{Outs}
use Rattle.lowered_ready.proofs.Scopes.{Level}
use Rattle.lowered_ready.proofs.Rows.{Takes}
use Rattle.lowered_ready.proofs.Rows as rows
use Rattle.lowered_ready.proofs.World.{World, Which, Of, Does}
use Rattle.lowered_ready.proofs.RuleForms as forms_are
use Rattle.lowered_ready.proofs.Operations.{IsOrdinary, Scope, Sorts, int-sort, bool-sort, char-sort, array-sort, stream-sort, scalar-sort, ordered-sort, row, array-does, stream-does, swapped-typed}
use Rattle.lowered_ready.proofs.Members.{record-does, union-does, field-does, change-does}
use Rattle.lowered_ready.proofs.CaseForms.{is-tag-does}

module _ (x : World) (p : Which) (own : List Carried) (before : List Outs) (ls : List Level) where
  abbrev Fit : Operation → Ty → ℕ → List Wire → Type 0
  Fit o a n ws = Does x p own before ls (Of x (a ∷ [])) (applied x.forms o ws (n ∷ []))

  two_of : (f : Scalar2) (ss : List Sort) (ws : List Wire) (tys : List Ty) (n : ℕ) (a : Ty) (s : Sort) → Takes (simple.Two f) ss s → Sorts x tys ss → Plain (x.bare a) ≡ s → IsNumber x.forms x.names n a → Of x tys ws → Scope x p own before ls ws
      → Does x p own before ls (Of x (a ∷ [])) (row_lowered (simple.Two f) ws (n ∷ []))
  two_of f ss ws tys n a s k e g num t i = row x p own before ls (simple.Two f) ws tys ss n a s (ordinary f) k e g num t i
    where
      ordinary : (f : Scalar2) → IsOrdinary (simple.Two f)
      ordinary f = tt

  pub applied-does : (o : Operation) (tys : List Ty) (a : Ty) → Row o tys a → (ws : List Wire) (n : ℕ) → IsNumber x.forms x.names n a → Of x tys ws → Scope x p own before ls ws → Fit o a n ws
  applied-does _ _ _ is.negated ws n num t i = row x p own before ls (simple.One unary.Neg) ws (ty.Int ∷ []) (Plain ty.Int ∷ []) n ty.Int (Plain ty.Int) tt rows.negated (int-sort x, tt) (int-sort x) num t i
  applied-does _ _ _ is.absolute ws n num t i = row x p own before ls (simple.One unary.Abs) ws (ty.Int ∷ []) (Plain ty.Int ∷ []) n ty.Int (Plain ty.Int) tt rows.absolute (int-sort x, tt) (int-sort x) num t i
  applied-does _ _ _ is.inverted ws n num t i = row x p own before ls (simple.One unary.Not) ws (ty.Bool ∷ []) (Plain ty.Bool ∷ []) n ty.Bool (Plain ty.Bool) tt rows.inverted (bool-sort x, tt) (bool-sort x) num t i
  applied-does _ _ _ is.int_of_int ws n num t i = row x p own before ls (simple.One unary.Int) ws (ty.Int ∷ []) (Plain ty.Int ∷ []) n ty.Int (Plain ty.Int) tt rows.int-of-int (int-sort x, tt) (int-sort x) num t i
  applied-does _ _ _ is.int_of_bool ws n num t i = row x p own before ls (simple.One unary.Int) ws (ty.Bool ∷ []) (Plain ty.Bool ∷ []) n ty.Int (Plain ty.Int) tt rows.int-of-bool (bool-sort x, tt) (int-sort x) num t i
  applied-does _ _ _ is.int_of_char ws n num t i = row x p own before ls (simple.One unary.Int) ws (ty.Char ∷ []) (Plain ty.Char ∷ []) n ty.Int (Plain ty.Int) tt rows.int-of-char (char-sort x, tt) (int-sort x) num t i
  applied-does _ _ _ is.bool_of_bool ws n num t i = row x p own before ls (simple.One unary.Bool) ws (ty.Bool ∷ []) (Plain ty.Bool ∷ []) n ty.Bool (Plain ty.Bool) tt rows.bool-of-bool (bool-sort x, tt) (bool-sort x) num t i
  applied-does _ _ _ is.bool_of_int ws n num t i = row x p own before ls (simple.One unary.Bool) ws (ty.Int ∷ []) (Plain ty.Int ∷ []) n ty.Bool (Plain ty.Bool) tt rows.bool-of-int (int-sort x, tt) (bool-sort x) num t i
  applied-does _ _ _ is.char_of_char ws n num t i = row x p own before ls (simple.One unary.Char) ws (ty.Char ∷ []) (Plain ty.Char ∷ []) n ty.Char (Plain ty.Char) tt rows.char-of-char (char-sort x, tt) (char-sort x) num t i
  applied-does _ _ _ is.char_of_int ws n num t i = row x p own before ls (simple.One unary.Char) ws (ty.Int ∷ []) (Plain ty.Int ∷ []) n ty.Char (Plain ty.Char) tt rows.char-of-int (int-sort x, tt) (char-sort x) num t i
  applied-does _ _ _ (is.is_error a) ws n num t i = row x p own before ls (simple.One unary.IsError) ws (a ∷ []) (Plain (x.bare a) ∷ []) n ty.Bool (Plain ty.Bool) tt (rows.is-error (x.bare a)) (refl, tt) (bool-sort x) num t i
  applied-does _ _ _ (is.arithmetic f h) ws n num t i = two_of f (Plain ty.Int ∷ Plain ty.Int ∷ []) ws (ty.Int ∷ ty.Int ∷ []) n ty.Int (Plain ty.Int) (rows.arithmetic f h) (int-sort x, (int-sort x, tt)) (int-sort x) num t i
  applied-does _ _ _ is.either ws n num t i = row x p own before ls (simple.Two two.Plus) ws (ty.Bool ∷ ty.Bool ∷ []) (Plain ty.Bool ∷ Plain ty.Bool ∷ []) n ty.Bool (Plain ty.Bool) tt rows.either (bool-sort x, (bool-sort x, tt)) (bool-sort x) num t i
  applied-does _ _ _ is.both ws n num t i = row x p own before ls (simple.Two two.Times) ws (ty.Bool ∷ ty.Bool ∷ []) (Plain ty.Bool ∷ Plain ty.Bool ∷ []) n ty.Bool (Plain ty.Bool) tt rows.both (bool-sort x, (bool-sort x, tt)) (bool-sort x) num t i
  applied-does _ _ _ (is.equality f a e h) ws n num t i = two_of f (Plain (x.bare a) ∷ Plain (x.bare a) ∷ []) ws (a ∷ a ∷ []) n ty.Bool (Plain ty.Bool) (rows.equality f (x.bare a) e (scalar-sort x a h)) (refl, (refl, tt)) (bool-sort x) num t i
  applied-does _ _ _ (is.order f a e h) ws n num t i = two_of f (Plain (x.bare a) ∷ Plain (x.bare a) ∷ []) ws (a ∷ a ∷ []) n ty.Bool (Plain ty.Bool) (rows.order f (x.bare a) e (ordered-sort x a h)) (refl, (refl, tt)) (bool-sort x) num t i
  applied-does _ _ _ (is.swapped f a e h) ws n num t i =
      let r = swapped-typed x p own before ls ws a t i in
      two_of f (Plain (x.bare a) ∷ Plain (x.bare a) ∷ []) (reversed ws) (a ∷ a ∷ []) n ty.Bool (Plain ty.Bool) (rows.order f (x.bare a) e (ordered-sort x a h)) (refl, (refl, tt)) (bool-sort x) num r.0 r.1
  applied-does _ _ _ (is.an_error a) ws n num t i = row x p own before ls simple.Error ws [] [] n a (Plain (x.bare a)) tt (rows.an-error (x.bare a)) tt refl num t i
  applied-does _ _ _ (is.array a tys h) ws n num t i = array-does x p own before ls ws tys n a h num t i
  applied-does _ _ _ (is.empty_array a) ws n num t i = array-does x p own before ls (one ∷ ws) [] n a tt num ((forms_are.one-typed x).0, t) (tt, i)
  applied-does _ _ _ (is.stream a tys h) ws n num t i = stream-does x p own before ls ws tys n a h num t i
  applied-does _ _ _ (is.fill a) ws n num t i = row x p own before ls simple.AFill ws (ty.Int ∷ ty.Int ∷ a ∷ []) (Plain ty.Int ∷ Plain ty.Int ∷ Plain (x.bare a) ∷ []) n (ty.Arr a) (Plain (ty.Arr (x.bare a))) tt (rows.fill (x.bare a)) (int-sort x, (int-sort x, (refl, tt))) (array-sort x a) num t i
  applied-does _ _ _ (is.element a) ws n num t i = row x p own before ls simple.AElement ws (ty.Arr a ∷ ty.Int ∷ []) (Plain (ty.Arr (x.bare a)) ∷ Plain ty.Int ∷ []) n a (Plain (x.bare a)) tt (rows.element (x.bare a)) (array-sort x a, (int-sort x, tt)) refl num t i
  applied-does _ _ _ (is.update a) ws n num t i = row x p own before ls simple.AReplace ws (ty.Arr a ∷ ty.Int ∷ a ∷ []) (Plain (ty.Arr (x.bare a)) ∷ Plain ty.Int ∷ Plain (x.bare a) ∷ []) n (ty.Arr a) (Plain (ty.Arr (x.bare a))) tt (rows.update (x.bare a)) (array-sort x a, (int-sort x, (refl, tt))) (array-sort x a) num t i
  applied-does _ _ _ (is.add_high a) ws n num t i = row x p own before ls simple.AAddH ws (ty.Arr a ∷ a ∷ []) (Plain (ty.Arr (x.bare a)) ∷ Plain (x.bare a) ∷ []) n (ty.Arr a) (Plain (ty.Arr (x.bare a))) tt (rows.add-high (x.bare a)) (array-sort x a, (refl, tt)) (array-sort x a) num t i
  applied-does _ _ _ (is.append a) ws n num t i = row x p own before ls simple.AAddH ws (ty.Stream a ∷ a ∷ []) (Plain (ty.Stream (x.bare a)) ∷ Plain (x.bare a) ∷ []) n (ty.Stream a) (Plain (ty.Stream (x.bare a))) tt (rows.append (x.bare a)) (stream-sort x a, (refl, tt)) (stream-sort x a) num t i
  applied-does _ _ _ (is.add_low a) ws n num t i = row x p own before ls simple.AAddL ws (ty.Arr a ∷ a ∷ []) (Plain (ty.Arr (x.bare a)) ∷ Plain (x.bare a) ∷ []) n (ty.Arr a) (Plain (ty.Arr (x.bare a))) tt (rows.add-low (x.bare a)) (array-sort x a, (refl, tt)) (array-sort x a) num t i
  applied-does _ _ _ (is.remove_high a) ws n num t i = row x p own before ls simple.ARemH ws (ty.Arr a ∷ []) (Plain (ty.Arr (x.bare a)) ∷ []) n (ty.Arr a) (Plain (ty.Arr (x.bare a))) tt (rows.remove-high (x.bare a)) (array-sort x a, tt) (array-sort x a) num t i
  applied-does _ _ _ (is.remove_low a) ws n num t i = row x p own before ls simple.ARemL ws (ty.Arr a ∷ []) (Plain (ty.Arr (x.bare a)) ∷ []) n (ty.Arr a) (Plain (ty.Arr (x.bare a))) tt (rows.remove-low (x.bare a)) (array-sort x a, tt) (array-sort x a) num t i
  applied-does _ _ _ (is.set_low a) ws n num t i = row x p own before ls simple.ASetL ws (ty.Arr a ∷ ty.Int ∷ []) (Plain (ty.Arr (x.bare a)) ∷ Plain ty.Int ∷ []) n (ty.Arr a) (Plain (ty.Arr (x.bare a))) tt (rows.set-low (x.bare a)) (array-sort x a, (int-sort x, tt)) (array-sort x a) num t i
  applied-does _ _ _ (is.adjust a) ws n num t i = row x p own before ls simple.AAdjust ws (ty.Arr a ∷ ty.Int ∷ ty.Int ∷ []) (Plain (ty.Arr (x.bare a)) ∷ Plain ty.Int ∷ Plain ty.Int ∷ []) n (ty.Arr a) (Plain (ty.Arr (x.bare a))) tt (rows.adjust (x.bare a)) (array-sort x a, (int-sort x, (int-sort x, tt))) (array-sort x a) num t i
  applied-does _ _ _ (is.limit_low a) ws n num t i = row x p own before ls simple.ALimL ws (ty.Arr a ∷ []) (Plain (ty.Arr (x.bare a)) ∷ []) n ty.Int (Plain ty.Int) tt (rows.limit-low (x.bare a)) (array-sort x a, tt) (int-sort x) num t i
  applied-does _ _ _ (is.limit_high a) ws n num t i = row x p own before ls simple.ALimH ws (ty.Arr a ∷ []) (Plain (ty.Arr (x.bare a)) ∷ []) n ty.Int (Plain ty.Int) tt (rows.limit-high (x.bare a)) (array-sort x a, tt) (int-sort x) num t i
  applied-does _ _ _ (is.size a) ws n num t i = row x p own before ls simple.ASize ws (ty.Arr a ∷ []) (Plain (ty.Arr (x.bare a)) ∷ []) n ty.Int (Plain ty.Int) tt (rows.size (x.bare a) (Plain (ty.Arr (x.bare a))) (inl refl)) (array-sort x a, tt) (int-sort x) num t i
  applied-does _ _ _ (is.length_of a) ws n num t i = row x p own before ls simple.ASize ws (ty.Stream a ∷ []) (Plain (ty.Stream (x.bare a)) ∷ []) n ty.Int (Plain ty.Int) tt (rows.size (x.bare a) (Plain (ty.Stream (x.bare a))) (inr refl)) (stream-sort x a, tt) (int-sort x) num t i
  applied-does _ _ _ (is.is_empty a) ws n num t i = row x p own before ls simple.AIsEmpty ws (ty.Stream a ∷ []) (Plain (ty.Stream (x.bare a)) ∷ []) n ty.Bool (Plain ty.Bool) tt (rows.is-empty (x.bare a)) (stream-sort x a, tt) (bool-sort x) num t i
  applied-does _ _ _ (is.first a) ws n num t i = row x p own before ls simple.FirstValue ws (ty.Stream a ∷ []) (Plain (ty.Stream (x.bare a)) ∷ []) n a (Plain (x.bare a)) tt (rows.first (x.bare a)) (stream-sort x a, tt) refl num t i
  applied-does _ _ _ (is.rest a) ws n num t i = row x p own before ls simple.RestValues ws (ty.Stream a ∷ []) (Plain (ty.Stream (x.bare a)) ∷ []) n (ty.Stream a) (Plain (ty.Stream (x.bare a))) tt (rows.rest (x.bare a)) (stream-sort x a, tt) (stream-sort x a) num t i
  applied-does _ _ _ (is.catenate_arrays a) ws n num t i = row x p own before ls simple.ACatenate ws (ty.Arr a ∷ ty.Arr a ∷ []) (Plain (ty.Arr (x.bare a)) ∷ Plain (ty.Arr (x.bare a)) ∷ []) n (ty.Arr a) (Plain (ty.Arr (x.bare a))) tt (rows.catenate-arrays (x.bare a)) (array-sort x a, (array-sort x a, tt)) (array-sort x a) num t i
  applied-does _ _ _ (is.catenate_streams a) ws n num t i = row x p own before ls simple.ACatenate ws (ty.Stream a ∷ ty.Stream a ∷ []) (Plain (ty.Stream (x.bare a)) ∷ Plain (ty.Stream (x.bare a)) ∷ []) n (ty.Stream a) (Plain (ty.Stream (x.bare a))) tt (rows.catenate-streams (x.bare a)) (stream-sort x a, (stream-sort x a, tt)) (stream-sort x a) num t i
  applied-does _ _ _ (is.a_record ms few) ws n num t i = record-does x p own before ls ms ws n num t i
  applied-does _ _ _ (is.union ms tag m there) ws n num t i = union-does x p own before ls ms tag m ws n there num t i
  applied-does _ _ _ (is.field ms place m there) ws n num t i = field-does x p own before ls ms place m ws n there num t i
  applied-does _ _ _ (is.change ms place places tys h) ws n num t i = change-does x p own before ls ms (place ∷ places) tys ws n h num t i
  applied-does _ _ _ (is.is_tag ms tag m there) ws n num t i = is-tag-does x p own before ls ms tag ws n num t i
