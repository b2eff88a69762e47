-- The rows of operations take the types of their operands, and give the types of their results.
use Rattle.std.proofs.Common.{◌≡◌, ℕ, suc, ◌⊎◌, inl, inr, List, [], ◌∷◌, length, Some, refl, sym, ap, subst, ◌∙◌, arith}
use Rattle.std.specs.Prelude.{MatchOption}
use Rattle.flow_value.specs.declared.ty.Ty.{Ty}
use Rattle.flow_value.specs.declared.ty.Ty.TheVariants as ty
use Rattle.flow_value.specs.declared.operation.Scalar1.TheVariants as unary
use Rattle.flow_value.specs.declared.operation.Scalar2.{Scalar2}
use Rattle.flow_value.specs.declared.operation.Scalar2.TheVariants as two
use Rattle.if1_graph.specs.declared.op.Simple.{Simple}
use Rattle.if1_graph.specs.declared.op.Simple.TheVariants as simple
use Rattle.if1_graph.specs.Tables.{at_port}
use Rattle.if1_graph.specs.Rows.{row_of, output_of}
use Rattle.if1_graph.specs.Types.{Sort, Plain, Many}
use Rattle.if1_graph.specs.Ports.{count_from}
use Rattle.if1_graph.specs.Typing.{Known, Fits, IsCarried, HasElements, IsSequence, IfCarried}
use Rattle.lowering.specs.declared.feed.Carried.{Carried}
use Rattle.lowering_meaning.specs.FittingTreesFitting.{IsArithmetic, IsEquality, IsOrder}
use Rattle.lowered_ready.specs.Ports.{AreFilled}
use Rattle.lowered_ready.proofs.RuleSorting.{AreFit, first-ports}

-- what a node knows that has these at its ports
abbrev pub Has : List Sort → Known → Type 0
Has ss k = (port : ℕ) → k.at port ≡ at_port port ss

-- operands of these sorts give this one
abbrev pub Takes : Simple → List Sort → Sort → Type 0
Takes op ss s =
    ((k : Known) → Has ss k → AreFit k op 1 ss × MatchOption (output_of op 1) ⊥ (λ want. Fits k want s))
    × ((sort : Carried → Sort) (k : Known) (outs : List Carried) → AreFilled sort k (length (row_of op).operands) (row_of op).rest outs (count_from 1 (length ss)))

abbrev int : Sort
int = Plain ty.Int

abbrev bool : Sort
bool = Plain ty.Bool

abbrev char : Sort
char = Plain ty.Char

-- what a port carries has elements
carried : (k : Known) (port : ℕ) (s : Sort) (P : Sort → Type 0) → k.at port ≡ Some s → P s → IsCarried (k.at port) P
carried k port s P e h = subst (λ o. IsCarried o P) (sym e) h

-- ---- scalars

pub negated : Takes (simple.One unary.Neg) (int ∷ []) int
negated = (λ k a. ((refl, tt), refl), λ o k x. first-ports 1)

pub absolute : Takes (simple.One unary.Abs) (int ∷ []) int
absolute = (λ k a. ((refl, tt), refl), λ o k x. first-ports 1)

pub inverted : Takes (simple.One unary.Not) (bool ∷ []) bool
inverted = (λ k a. ((refl, tt), refl), λ o k x. first-ports 1)

pub int-of-int : Takes (simple.One unary.Int) (int ∷ []) int
int-of-int = (λ k a. ((inl refl, tt), refl), λ o k x. first-ports 1)

pub int-of-bool : Takes (simple.One unary.Int) (bool ∷ []) int
int-of-bool = (λ k a. ((inr (inl refl), tt), refl), λ o k x. first-ports 1)

pub int-of-char : Takes (simple.One unary.Int) (char ∷ []) int
int-of-char = (λ k a. ((inr (inr refl), tt), refl), λ o k x. first-ports 1)

pub bool-of-bool : Takes (simple.One unary.Bool) (bool ∷ []) bool
bool-of-bool = (λ k a. ((inr refl, tt), refl), λ o k x. first-ports 1)

pub bool-of-int : Takes (simple.One unary.Bool) (int ∷ []) bool
bool-of-int = (λ k a. ((inl refl, tt), refl), λ o k x. first-ports 1)

pub char-of-char : Takes (simple.One unary.Char) (char ∷ []) char
char-of-char = (λ k a. ((inr refl, tt), refl), λ o k x. first-ports 1)

pub char-of-int : Takes (simple.One unary.Char) (int ∷ []) char
char-of-int = (λ k a. ((inl refl, tt), refl), λ o k x. first-ports 1)

pub is-error : (t : Ty) → Takes (simple.One unary.IsError) (Plain t ∷ []) bool
is-error t = (λ k a. (((t, refl), tt), refl), λ o k x. first-ports 1)

pub arithmetic : (f : Scalar2) → IsArithmetic f → Takes (simple.Two f) (int ∷ int ∷ []) int
arithmetic two.Plus h = (λ k a. ((inl refl, (((ty.Int, refl), a 1), tt)), ((ty.Int, refl), a 1)), λ o k x. first-ports 2)
arithmetic two.Minus h = (λ k a. ((refl, (refl, tt)), refl), λ o k x. first-ports 2)
arithmetic two.Times h = (λ k a. ((inl refl, (((ty.Int, refl), a 1), tt)), ((ty.Int, refl), a 1)), λ o k x. first-ports 2)
arithmetic two.Div h = (λ k a. ((refl, (refl, tt)), refl), λ o k x. first-ports 2)
arithmetic two.Mod h = (λ k a. ((refl, (refl, tt)), refl), λ o k x. first-ports 2)
arithmetic two.Max h = (λ k a. ((refl, (refl, tt)), refl), λ o k x. first-ports 2)
arithmetic two.Min h = (λ k a. ((refl, (refl, tt)), refl), λ o k x. first-ports 2)
arithmetic two.Equal h = absurd h
arithmetic two.NotEqual h = absurd h
arithmetic two.Less h = absurd h
arithmetic two.LessEqual h = absurd h

pub either : Takes (simple.Two two.Plus) (bool ∷ bool ∷ []) bool
either = (λ k a. ((inr refl, (((ty.Bool, refl), a 1), tt)), ((ty.Bool, refl), a 1)), λ o k x. first-ports 2)

pub both : Takes (simple.Two two.Times) (bool ∷ bool ∷ []) bool
both = (λ k a. ((inr refl, (((ty.Bool, refl), a 1), tt)), ((ty.Bool, refl), a 1)), λ o k x. first-ports 2)

abbrev pub IsScalarSort : Sort → Type 0
IsScalarSort s = (s ≡ Plain ty.Int) ⊎ ((s ≡ Plain ty.Bool) ⊎ ((s ≡ Plain ty.Char) ⊎ (s ≡ Plain ty.Null)))

pub equality : (f : Scalar2) (t : Ty) → IsEquality f → IsScalarSort (Plain t) → Takes (simple.Two f) (Plain t ∷ Plain t ∷ []) bool
equality f t (inl e) h = subst (λ f. Takes (simple.Two f) (Plain t ∷ Plain t ∷ []) bool) (sym e) (λ k a. ((h, (((t, refl), a 1), tt)), refl), λ o k x. first-ports 2)
equality f t (inr e) h = subst (λ f. Takes (simple.Two f) (Plain t ∷ Plain t ∷ []) bool) (sym e) (λ k a. ((h, (((t, refl), a 1), tt)), refl), λ o k x. first-ports 2)

abbrev pub IsOrderedSort : Sort → Type 0
IsOrderedSort s = (s ≡ Plain ty.Int) ⊎ (s ≡ Plain ty.Char)

pub order : (f : Scalar2) (t : Ty) → IsOrder f → IsOrderedSort (Plain t) → Takes (simple.Two f) (Plain t ∷ Plain t ∷ []) bool
order f t (inl e) h = subst (λ f. Takes (simple.Two f) (Plain t ∷ Plain t ∷ []) bool) (sym e) (λ k a. ((h, (((t, refl), a 1), tt)), refl), λ o k x. first-ports 2)
order f t (inr e) h = subst (λ f. Takes (simple.Two f) (Plain t ∷ Plain t ∷ []) bool) (sym e) (λ k a. ((h, (((t, refl), a 1), tt)), refl), λ o k x. first-ports 2)

pub an-error : (t : Ty) → Takes simple.Error [] (Plain t)
an-error t = (λ k a. (tt, (t, refl)), λ o k x. first-ports 0)

-- ---- arrays and streams

-- all of one type
abbrev pub AreSame : Sort → List Sort → Type 0
AreSame s [] = Unit {0}
AreSame s (x ∷ xs) = (x ≡ s) × AreSame s xs

-- elements from port 2 on
fit-elements : (k : Known) (t : Ty) (place : ℕ) (ss : List Sort) → k.at 2 ≡ Some (Plain t) → AreSame (Plain t) ss → AreFit k simple.ABuild (suc (suc place)) ss
fit-elements k t place [] e h = tt
fit-elements k t place (s ∷ ss) e h = (((t, h.0), e ∙ ap Some (sym h.0)), fit-elements k t (suc place) ss e h.1)

-- an array or a stream of elements, behind its lower bound
pub built : (t : Ty) (ss : List Sort) (s : Sort) → AreSame (Plain t) ss → IsSequence t s → Takes simple.ABuild (int ∷ ss) s
built t [] s h q = (λ k a. ((refl, tt), (t, q, subst (λ o. IfCarried o (λ element. element ≡ Plain t)) (sym (a 2)) tt)), λ o k x. (1, omega arith, first-ports 1))
built t (x ∷ ss) s h q = (
  λ k a.
      let e = a 2 ∙ ap Some h.0 in
      ((refl, fit-elements k t 0 (x ∷ ss) e h), (t, q, subst (λ o. IfCarried o (λ element. element ≡ Plain t)) (sym e) refl)),
  λ o k y. (suc (suc (length ss)), omega arith, first-ports (suc (suc (length ss)))),
)

pub fill : (t : Ty) → Takes simple.AFill (int ∷ int ∷ Plain t ∷ []) (Plain (ty.Arr t))
fill t = (λ k a. ((refl, (refl, ((t, refl), tt))), (t, refl, a 3)), λ o k x. first-ports 3)

pub element : (t : Ty) → Takes simple.AElement (Plain (ty.Arr t) ∷ int ∷ []) (Plain t)
element t = (λ k a. (((t, refl), (refl, tt)), (t, refl, carried k 1 (Plain (ty.Arr t)) (HasElements t) (a 1) (inl (inl refl)))), λ o k x. first-ports 2)

pub update : (t : Ty) → Takes simple.AReplace (Plain (ty.Arr t) ∷ int ∷ Plain t ∷ []) (Plain (ty.Arr t))
update t = (
  λ k a. (((t, refl), (refl, ((t, refl, carried k 1 (Plain (ty.Arr t)) (HasElements t) (a 1) (inl (inl refl))), tt))), ((ty.Arr t, refl), a 1)),
  λ o k x. first-ports 3,
)

pub add-high : (t : Ty) → Takes simple.AAddH (Plain (ty.Arr t) ∷ Plain t ∷ []) (Plain (ty.Arr t))
add-high t = (
  λ k a. (((t, inl refl), ((t, refl, carried k 1 (Plain (ty.Arr t)) (HasElements t) (a 1) (inl (inl refl))), tt)), ((ty.Arr t, refl), a 1)),
  λ o k x. first-ports 2,
)

pub append : (t : Ty) → Takes simple.AAddH (Plain (ty.Stream t) ∷ Plain t ∷ []) (Plain (ty.Stream t))
append t = (
  λ k a. (((t, inr refl), ((t, refl, carried k 1 (Plain (ty.Stream t)) (HasElements t) (a 1) (inl (inr refl))), tt)), ((ty.Stream t, refl), a 1)),
  λ o k x. first-ports 2,
)

pub add-low : (t : Ty) → Takes simple.AAddL (Plain (ty.Arr t) ∷ Plain t ∷ []) (Plain (ty.Arr t))
add-low t = (
  λ k a. (((t, refl), ((t, refl, carried k 1 (Plain (ty.Arr t)) (HasElements t) (a 1) (inl (inl refl))), tt)), ((ty.Arr t, refl), a 1)),
  λ o k x. first-ports 2,
)

pub remove-high : (t : Ty) → Takes simple.ARemH (Plain (ty.Arr t) ∷ []) (Plain (ty.Arr t))
remove-high t = (λ k a. (((t, refl), tt), ((ty.Arr t, refl), a 1)), λ o k x. first-ports 1)

pub remove-low : (t : Ty) → Takes simple.ARemL (Plain (ty.Arr t) ∷ []) (Plain (ty.Arr t))
remove-low t = (λ k a. (((t, refl), tt), ((ty.Arr t, refl), a 1)), λ o k x. first-ports 1)

pub set-low : (t : Ty) → Takes simple.ASetL (Plain (ty.Arr t) ∷ int ∷ []) (Plain (ty.Arr t))
set-low t = (λ k a. (((t, refl), (refl, tt)), ((ty.Arr t, refl), a 1)), λ o k x. first-ports 2)

pub adjust : (t : Ty) → Takes simple.AAdjust (Plain (ty.Arr t) ∷ int ∷ int ∷ []) (Plain (ty.Arr t))
adjust t = (λ k a. (((t, refl), (refl, (refl, tt))), ((ty.Arr t, refl), a 1)), λ o k x. first-ports 3)

pub limit-low : (t : Ty) → Takes simple.ALimL (Plain (ty.Arr t) ∷ []) int
limit-low t = (λ k a. (((t, refl), tt), refl), λ o k x. first-ports 1)

pub limit-high : (t : Ty) → Takes simple.ALimH (Plain (ty.Arr t) ∷ []) int
limit-high t = (λ k a. (((t, refl), tt), refl), λ o k x. first-ports 1)

pub size : (t : Ty) (s : Sort) → IsSequence t s → Takes simple.ASize (s ∷ []) int
size t s q = (λ k a. (((t, q), tt), refl), λ o k x. first-ports 1)

pub is-empty : (t : Ty) → Takes simple.AIsEmpty (Plain (ty.Stream t) ∷ []) bool
is-empty t = (λ k a. (((t, inr refl), tt), refl), λ o k x. first-ports 1)

pub first : (t : Ty) → Takes simple.FirstValue (Plain (ty.Stream t) ∷ []) (Plain t)
first t = (λ k a. (((t, refl), tt), (t, refl, carried k 1 (Plain (ty.Stream t)) (HasElements t) (a 1) (inl (inr refl)))), λ o k x. first-ports 1)

pub rest : (t : Ty) → Takes simple.RestValues (Plain (ty.Stream t) ∷ []) (Plain (ty.Stream t))
rest t = (λ k a. (((t, refl), tt), ((ty.Stream t, refl), a 1)), λ o k x. first-ports 1)

pub catenate-arrays : (t : Ty) → Takes simple.ACatenate (Plain (ty.Arr t) ∷ Plain (ty.Arr t) ∷ []) (Plain (ty.Arr t))
catenate-arrays t = (
  λ k a. (((t, inl refl), (((ty.Arr t, refl), a 1), tt)), ((ty.Arr t, refl), a 1)),
  λ o k x. (2, omega arith, first-ports 2),
)

pub catenate-streams : (t : Ty) → Takes simple.ACatenate (Plain (ty.Stream t) ∷ Plain (ty.Stream t) ∷ []) (Plain (ty.Stream t))
catenate-streams t = (
  λ k a. (((t, inr refl), (((ty.Stream t, refl), a 1), tt)), ((ty.Stream t, refl), a 1)),
  λ o k x. (2, omega arith, first-ports 2),
)

-- ---- multiples

pub range : Takes simple.RangeGenerate (int ∷ int ∷ []) (Many ty.Int)
range = (λ k a. ((refl, (refl, tt)), refl), λ o k x. first-ports 2)

pub gathered : (t : Ty) (s : Sort) → IsSequence t s → Takes simple.AGather (int ∷ Many t ∷ []) s
gathered t s q = (λ k a. ((refl, ((t, refl), tt)), (t, q, a 2)), λ o k x. inl (first-ports 2))

pub gathered-masked : (t : Ty) (s : Sort) → IsSequence t s → Takes simple.AGather (int ∷ Many t ∷ Many ty.Bool ∷ []) s
gathered-masked t s q = (λ k a. ((refl, ((t, refl), (refl, tt))), (t, q, a 2)), λ o k x. inr (first-ports 3))

pub final : (t : Ty) → Takes simple.FinalValue (Many t ∷ []) (Plain t)
final t = (λ k a. (((t, refl), tt), (t, refl, carried k 1 (Many t) (HasElements t) (a 1) (inr refl))), λ o k x. inl (first-ports 1))

pub final-masked : (t : Ty) → Takes simple.FinalValue (Many t ∷ Many ty.Bool ∷ []) (Plain t)
final-masked t = (λ k a. (((t, refl), (refl, tt)), (t, refl, carried k 1 (Many t) (HasElements t) (a 1) (inr refl))), λ o k x. inr (first-ports 2))
