-- The calls that are built in, by name (SISAL Language Reference Manual 1.2, operations on numbers, arrays and streams).
use Rattle.std.specs.Prelude.{ℕ, List, [], ◌∷◌, codes}
use Rattle.typed_tree.specs.declared.built_in.BuiltIn.{BuiltIn}
use Rattle.typed_tree.specs.declared.built_in.BuiltIn.TheVariants.{Mod, Abs, Max, Min, ArrayFill, ArrayAddHigh, ArrayAddLow, ArrayRemoveHigh, ArrayRemoveLow, ArraySetLow, ArrayAdjust, ArrayLimitLow, ArrayLimitHigh, ArraySize, StreamAppend, StreamSize, StreamEmpty, StreamFirst, StreamRest}

abbrev pub built_ins : List (List ℕ × BuiltIn)
built_ins =
    (codes "mod", Mod) ∷ (codes "abs", Abs) ∷ (codes "max", Max) ∷ (codes "min", Min)
    ∷ (codes "array_fill", ArrayFill)
    ∷ (codes "array_addh", ArrayAddHigh) ∷ (codes "array_addl", ArrayAddLow)
    ∷ (codes "array_remh", ArrayRemoveHigh) ∷ (codes "array_reml", ArrayRemoveLow)
    ∷ (codes "array_setl", ArraySetLow) ∷ (codes "array_adjust", ArrayAdjust)
    ∷ (codes "array_liml", ArrayLimitLow) ∷ (codes "array_limh", ArrayLimitHigh) ∷ (codes "array_size", ArraySize)
    ∷ (codes "stream_append", StreamAppend) ∷ (codes "stream_size", StreamSize) ∷ (codes "stream_empty", StreamEmpty)
    ∷ (codes "stream_first", StreamFirst) ∷ (codes "stream_rest", StreamRest)
    ∷ []
