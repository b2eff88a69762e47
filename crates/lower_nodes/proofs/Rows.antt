-- Constants and operations by their rows.
use Rattle.std.proofs.Common.{◌≡◌, ℕ, List, ◌∷◌, map, Some, refl, sym, ap}
use Rattle.if1_graph.specs.declared.op.Simple.{Simple}
use Rattle.sisal_tree.specs.declared.expr.Constant.{Constant}
use Rattle.sisal_tree.specs.declared.expr.Constant.TheVariants as constant
use Rattle.sisal_tree.specs.declared.expr.Direction.{Direction}
use Rattle.loop_folds.specs.declared.folding.Folding.{Folding}
use Rattle.loop_folds.specs.declared.folding.Folding.TheVariants as folding
use Rattle.type_table.specs.declared.form.Form.{Form}
use Rattle.typed_tree.specs.declared.expr.Source.{Source}
use Rattle.typed_tree.specs.declared.expr.Source.TheVariants as source
use Rattle.value_ops.specs.declared.operation.Operation.{Operation}
use Rattle.value_ops.specs.declared.operation.Operation.TheVariants as operation
use Rattle.lowering.specs.declared.feed.Feed.TheVariants.{Literal}
use Rattle.lowering.specs.declared.feed.Carried.TheVariants.{One}
use Rattle.lowering.specs.declared.feed.Wire.{Wire}
use Rattle.lowering.specs.Feeds.{wire}
use Rattle.lowering.specs.Graphs.{only}
use Rattle.lowering.specs.Operations.{row_lowered, constant_lowered}
use Rattle.lowering.specs.Choices.{applied}
use Rattle.lowering.specs.Loops.{Bound, bound_of, fold_lowered}
use Rattle.lower_nodes.specs.Rows.{plain_row}
use Rattle.lower_nodes.specs.Bounds.{first_bound, reduced}

-- a constant other than a text
pub plain_constant : (c : Constant) (ts : List ℕ) → ((s : List ℕ) → c ≡ constant.Quoted s → ⊥) → constant_lowered c ts ≡ only (map (λ t. wire (Literal c) (One t)) ts)
plain_constant (constant.Integer n) ts h = refl
plain_constant (constant.Letter n) ts h = refl
plain_constant (constant.Quoted s) ts h = absurd (h s refl)
plain_constant constant.True ts h = refl
plain_constant constant.False ts h = refl
plain_constant constant.Nil ts h = refl

some_same : {a b : Simple} → Some a ≡ Some b → a ≡ b
some_same {a} {b} h = cc

pub plain_is : (forms : List Form) (op : Operation) (s : Simple) (ws : List Wire) (ts : List ℕ) → Some s ≡ plain_row op → applied forms op ws ts ≡ row_lowered s ws ts
plain_is forms (operation.Unary f) s ws ts h = ap (λ k. row_lowered k ws ts) (sym (some_same h))
plain_is forms (operation.Binary f) s ws ts h = ap (λ k. row_lowered k ws ts) (sym (some_same h))
plain_is forms (operation.Swapped f) s ws ts h = absurd cc
plain_is forms operation.Error s ws ts h = ap (λ k. row_lowered k ws ts) (sym (some_same h))
plain_is forms operation.Array s ws ts h = ap (λ k. row_lowered k ws ts) (sym (some_same h))
plain_is forms operation.EmptyArray s ws ts h = absurd cc
plain_is forms operation.Stream s ws ts h = absurd cc
plain_is forms operation.Fill s ws ts h = ap (λ k. row_lowered k ws ts) (sym (some_same h))
plain_is forms operation.Element s ws ts h = ap (λ k. row_lowered k ws ts) (sym (some_same h))
plain_is forms operation.Update s ws ts h = ap (λ k. row_lowered k ws ts) (sym (some_same h))
plain_is forms operation.AddHigh s ws ts h = ap (λ k. row_lowered k ws ts) (sym (some_same h))
plain_is forms operation.AddLow s ws ts h = ap (λ k. row_lowered k ws ts) (sym (some_same h))
plain_is forms operation.RemoveHigh s ws ts h = ap (λ k. row_lowered k ws ts) (sym (some_same h))
plain_is forms operation.RemoveLow s ws ts h = ap (λ k. row_lowered k ws ts) (sym (some_same h))
plain_is forms operation.SetLow s ws ts h = ap (λ k. row_lowered k ws ts) (sym (some_same h))
plain_is forms operation.Adjust s ws ts h = ap (λ k. row_lowered k ws ts) (sym (some_same h))
plain_is forms operation.LimitLow s ws ts h = ap (λ k. row_lowered k ws ts) (sym (some_same h))
plain_is forms operation.LimitHigh s ws ts h = ap (λ k. row_lowered k ws ts) (sym (some_same h))
plain_is forms operation.Size s ws ts h = ap (λ k. row_lowered k ws ts) (sym (some_same h))
plain_is forms operation.IsEmpty s ws ts h = ap (λ k. row_lowered k ws ts) (sym (some_same h))
plain_is forms operation.Catenate s ws ts h = ap (λ k. row_lowered k ws ts) (sym (some_same h))
plain_is forms operation.First s ws ts h = ap (λ k. row_lowered k ws ts) (sym (some_same h))
plain_is forms operation.Rest s ws ts h = ap (λ k. row_lowered k ws ts) (sym (some_same h))
plain_is forms operation.Record s ws ts h = ap (λ k. row_lowered k ws ts) (sym (some_same h))
plain_is forms (operation.Union tag) s ws ts h = absurd cc
plain_is forms (operation.Field f) s ws ts h = absurd cc
plain_is forms (operation.Change ps) s ws ts h = absurd cc
plain_is forms (operation.IsTag tag) s ws ts h = absurd cc

-- a fold that is a reduction
pub reduced_is : (b : Bound) (f : Folding) (d : Direction) (ms : List Wire) (t : ℕ) → (f ≡ folding.Array → ⊥) → (f ≡ folding.Stream → ⊥) → (f ≡ folding.Last → ⊥)
    → fold_lowered b f d ms t ≡ reduced f d ms t
reduced_is b folding.Array d ms t x y z = absurd (x refl)
reduced_is b folding.Stream d ms t x y z = absurd (y refl)
reduced_is b folding.Last d ms t x y z = absurd (z refl)
reduced_is b folding.Sum d ms t x y z = refl
reduced_is b folding.Product d ms t x y z = refl
reduced_is b folding.Least d ms t x y z = refl
reduced_is b folding.Greatest d ms t x y z = refl
reduced_is b folding.CatenateArrays d ms t x y z = refl
reduced_is b folding.CatenateStreams d ms t x y z = refl

-- the bound hangs on the first generator alone
pub bound_is : (forms : List Form) (s : Source) (ss : List Source) (ws : List Wire) → bound_of forms (s ∷ ss) ws ≡ first_bound forms s ws
bound_is forms source.Range ss ws = refl
bound_is forms source.Elements ss ws = refl
bound_is forms source.Indexed ss ws = refl
