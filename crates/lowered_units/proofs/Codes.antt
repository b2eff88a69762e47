-- Opcodes, and the types that ports want, by rows.
use Rattle.std.proofs.Common.{◌≡◌, ℕ, zero, suc, ◌≤◌, Bool, true, false, List, [], ◌∷◌, map, slice_get, Option, Some, None, refl, ap, ◌∙◌, arith}
use Rattle.std.specs.Prelude.{All, if◌then◌else◌}
use Rattle.flow_value.specs.declared.operation.Scalar1.TheVariants as unary
use Rattle.flow_value.specs.declared.operation.Scalar2.TheVariants as two
use Rattle.if1_graph.specs.declared.graph.Graph.{Graph}
use Rattle.if1_graph.specs.declared.graph.Graph.TheViews.{out-Graph}
use Rattle.if1_graph.specs.declared.op.Grouping.{Grouping}
use Rattle.if1_graph.specs.declared.op.Grouping.TheVariants as grouping
use Rattle.if1_graph.specs.declared.op.Simple.{Simple}
use Rattle.if1_graph.specs.declared.op.Simple.TheVariants as simple
use Rattle.if1_graph.specs.declared.op.Compound.{Compound}
use Rattle.if1_graph.specs.declared.op.Compound.TheVariants as compound
use Rattle.if1_graph.specs.declared.row.Want.{Want}
use Rattle.if1_graph.specs.declared.row.Want.TheVariants as want
use Rattle.if1_graph.specs.declared.row.Rest.{Rest}
use Rattle.if1_graph.specs.declared.row.Rest.TheVariants as rest
use Rattle.if1_graph.specs.Ops.{simple_at, compound_at}
use Rattle.if1_graph.specs.Rows.{Operand, row_of, of_rest, operand_of}
use Rattle.if1_graph.specs.Tables.{◌>>=◌, or_else}
use Rattle.if1_graph.specs.Units.{greatest, results}
use Rattle.graph_meaning.specs.Networks as net
use Rattle.graph_meaning.specs.Networks.{number_or_zero, part}
use Rattle.graph_meaning.specs.Forms as form
use Rattle.lowered_units.specs.Networks.{nth, form_of}
use Rattle.lowered_units.specs.Units.{simple_code, compound_code}
use Rattle.lowered_units.proofs.Built.{IsPlainRow, AreParts}
use Rattle.lowered_units.proofs.Literals.{IsValueWant}

pub simple-is : (op : Simple) → simple_at (simple_code op) ≡ Some op
simple-is (simple.One unary.Neg) = refl
simple-is (simple.One unary.Abs) = refl
simple-is (simple.One unary.Not) = refl
simple-is (simple.One unary.Int) = refl
simple-is (simple.One unary.Bool) = refl
simple-is (simple.One unary.Char) = refl
simple-is (simple.One unary.IsError) = refl
simple-is (simple.Two two.Plus) = refl
simple-is (simple.Two two.Minus) = refl
simple-is (simple.Two two.Times) = refl
simple-is (simple.Two two.Div) = refl
simple-is (simple.Two two.Mod) = refl
simple-is (simple.Two two.Max) = refl
simple-is (simple.Two two.Min) = refl
simple-is (simple.Two two.Equal) = refl
simple-is (simple.Two two.NotEqual) = refl
simple-is (simple.Two two.Less) = refl
simple-is (simple.Two two.LessEqual) = refl
simple-is (simple.Reduce grouping.Free) = refl
simple-is (simple.Reduce grouping.Left) = refl
simple-is (simple.Reduce grouping.Right) = refl
simple-is (simple.Reduce grouping.Tree) = refl
simple-is op = refl

pub no-compound : (op : Simple) → compound_at (simple_code op) ≡ None
no-compound (simple.One unary.Neg) = refl
no-compound (simple.One unary.Abs) = refl
no-compound (simple.One unary.Not) = refl
no-compound (simple.One unary.Int) = refl
no-compound (simple.One unary.Bool) = refl
no-compound (simple.One unary.Char) = refl
no-compound (simple.One unary.IsError) = refl
no-compound (simple.Two two.Plus) = refl
no-compound (simple.Two two.Minus) = refl
no-compound (simple.Two two.Times) = refl
no-compound (simple.Two two.Div) = refl
no-compound (simple.Two two.Mod) = refl
no-compound (simple.Two two.Max) = refl
no-compound (simple.Two two.Min) = refl
no-compound (simple.Two two.Equal) = refl
no-compound (simple.Two two.NotEqual) = refl
no-compound (simple.Two two.Less) = refl
no-compound (simple.Two two.LessEqual) = refl
no-compound (simple.Reduce grouping.Free) = refl
no-compound (simple.Reduce grouping.Left) = refl
no-compound (simple.Reduce grouping.Right) = refl
no-compound (simple.Reduce grouping.Tree) = refl
no-compound op = refl

pub compound-is : (c : Compound) → compound_at (compound_code c) ≡ Some c
compound-is compound.ForAll = refl
compound-is compound.Select = refl
compound-is compound.TagCase = refl
compound-is compound.LoopA = refl
compound-is compound.LoopB = refl

pub no-simple : (c : Compound) → simple_at (compound_code c) ≡ None
no-simple compound.ForAll = refl
no-simple compound.Select = refl
no-simple compound.TagCase = refl
no-simple compound.LoopA = refl
no-simple compound.LoopB = refl

-- ---- wants

is_name : Want → Bool
is_name want.Function = true
is_name want.Reduction = true
is_name w = false

no_names : List Operand → Bool
no_names [] = true
no_names (o ∷ os) = if is_name o.1 then false else no_names os

rest_name : Rest → Bool
rest_name (rest.More how w) = is_name w
rest_name r = false

record HasNoName (op : Simple) : Type 0 where
  operands : no_names (row_of op).operands ≡ true
  others : rest_name (row_of op).rest ≡ false

plain-row : (op : Simple) → IsPlainRow op → HasNoName op
unfolding is_name no_names rest_name
plain-row simple.Call h = absurd h
plain-row (simple.Reduce g) h = absurd h
plain-row (simple.One unary.Neg) h = record { operands = refl; others = refl }
plain-row (simple.One unary.Abs) h = record { operands = refl; others = refl }
plain-row (simple.One unary.Not) h = record { operands = refl; others = refl }
plain-row (simple.One unary.Int) h = record { operands = refl; others = refl }
plain-row (simple.One unary.Bool) h = record { operands = refl; others = refl }
plain-row (simple.One unary.Char) h = record { operands = refl; others = refl }
plain-row (simple.One unary.IsError) h = record { operands = refl; others = refl }
plain-row (simple.Two two.Plus) h = record { operands = refl; others = refl }
plain-row (simple.Two two.Minus) h = record { operands = refl; others = refl }
plain-row (simple.Two two.Times) h = record { operands = refl; others = refl }
plain-row (simple.Two two.Div) h = record { operands = refl; others = refl }
plain-row (simple.Two two.Mod) h = record { operands = refl; others = refl }
plain-row (simple.Two two.Max) h = record { operands = refl; others = refl }
plain-row (simple.Two two.Min) h = record { operands = refl; others = refl }
plain-row (simple.Two two.Equal) h = record { operands = refl; others = refl }
plain-row (simple.Two two.NotEqual) h = record { operands = refl; others = refl }
plain-row (simple.Two two.Less) h = record { operands = refl; others = refl }
plain-row (simple.Two two.LessEqual) h = record { operands = refl; others = refl }
plain-row op h = record { operands = refl; others = refl }

value-want : (w : Want) → is_name w ≡ false → IsValueWant (Some w)
unfolding is_name
value-want want.Function h = absurd cc
value-want want.Reduction h = absurd cc
value-want w h = tt

abbrev pub wanted : Option Operand → Option Want
wanted o = o >>= λ operand. Some operand.1

rest-want : (r : Rest) (port : ℕ) → rest_name r ≡ false → IsValueWant (wanted (of_rest r port))
unfolding rest_name
rest-want rest.Nothing port h = tt
rest-want rest.Mask port h = tt
rest-want (rest.More how w) port h = value-want w h
rest-want rest.Arguments port h = tt
rest-want rest.Fields port h = tt
rest-want rest.NewFields port h = tt

listed-want : (os : List Operand) (place : ℕ) (r : Option Operand) → no_names os ≡ true → IsValueWant (wanted r) → IsValueWant (wanted (or_else (slice_get os place) r))
unfolding no_names
listed-want [] place r h k = k
listed-want (o ∷ os) zero r h k = value-want o.1 (first (is_name o.1) h)
  where
    first : (b : Bool) → (if b then false else no_names os) ≡ true → b ≡ false
    first true e = absurd cc
    first false e = refl
listed-want (o ∷ os) (suc place) r h k = listed-want os place r (later (is_name o.1) h) k
  where
    later : (b : Bool) → (if b then false else no_names os) ≡ true → no_names os ≡ true
    later true e = absurd cc
    later false e = e

-- a row that is not named by a literal wants values
pub plain-want : (op : Simple) (port : ℕ) → IsPlainRow op → IsValueWant (wanted (operand_of op port))
plain-want op zero h = tt
plain-want op (suc place) h =
    let n = plain-row op h in
    listed-want (row_of op).operands place (of_rest (row_of op).rest (suc place)) n.operands (rest-want (row_of op).rest (suc place) n.others)

pub call-want : (j : ℕ) → IsValueWant (wanted (operand_of simple.Call (suc (suc j))))
call-want j = tt

pub reduce-want : (g : Grouping) (j : ℕ) → IsValueWant (wanted (operand_of (simple.Reduce g) (suc (suc j))))
reduce-want g zero = tt
reduce-want g (suc j) = tt

-- ---- forms of compound nodes

abbrev pub number_in : Graph → ℕ
number_in g = (out-Graph g).number

part-is : (gs : List Graph) (k : ℕ) → part gs k ≡ nth (map number_in gs) k
part-is [] k = none k
  where
    none : (k : ℕ) → 0 ≡ nth [] k
    none zero = refl
    none (suc k) = refl
part-is (g ∷ gs) zero = refl
part-is (g ∷ gs) (suc k) = part-is gs k

parts-are : (gs : List Graph) (arms : List ℕ) → map (part gs) arms ≡ map (nth (map number_in gs)) arms
parts-are gs [] = refl
parts-are gs (k ∷ ks) = ap (λ x. x ∷ map (part gs) ks) (part-is gs k) ∙ ap (λ l. nth (map number_in gs) k ∷ l) (parts-are gs ks)

all-outs : (gs : List Graph) (outs : ℕ) → All (λ k. k ≡ outs) (map results gs) → greatest (map results gs) ≤ outs
all-outs [] outs h = omega arith
all-outs (g ∷ gs) outs h = omega (arith, h 0 0 (omega arith), all-outs gs outs (λ k d i. h (suc k) d (omega (arith, i))))

pub form-is : (c : Compound) (gs : List Graph) (arms : List ℕ) (given outs : ℕ) → AreParts c (map results gs) given outs → net.form_of c gs arms ≡ form_of c (map number_in gs) arms given outs
form-is compound.Select (s ∷ a ∷ b ∷ []) arms given outs h = ap (form.Select (number_in s) (number_in a ∷ number_in b ∷ [])) (omega (arith, h.0, h.1))
form-is compound.TagCase (g ∷ gs) arms given outs h =
    ap (λ l. form.TagCase l (greatest (map results (g ∷ gs)))) (parts-are (g ∷ gs) arms) ∙ ap (form.TagCase (map (nth (map number_in (g ∷ gs))) arms)) (omega (arith, h.0, all-outs gs outs h.1))
form-is compound.ForAll (g ∷ b ∷ r ∷ []) arms given outs h =
    ap (λ k. form.ForAll (number_in g) (number_in b) (number_in r) k (results r)) h.0 ∙ ap (form.ForAll (number_in g) (number_in b) (number_in r) given) h.1
form-is compound.LoopA (i ∷ x ∷ b ∷ r ∷ []) arms given outs h = ap (form.LoopA (number_in i) (number_in x) (number_in b) (number_in r)) h
form-is compound.LoopB (i ∷ x ∷ b ∷ r ∷ []) arms given outs h = ap (form.LoopB (number_in i) (number_in x) (number_in b) (number_in r)) h
form-is c gs arms given outs h = absurd h
