-- Examples of the errors of scalar nodes: all of them compute.
use Rattle.std.proofs.Common.{refl}
use Rattle.graph_examples.specs.ScalarErrors.{AreScalarErrors, AreForeignScalars}

pub scalar-errors : AreScalarErrors
scalar-errors =
    record {
      sum_too_great = refl;
      sum_too_small = refl;
      difference_too_great = refl;
      difference_too_small = refl;
      product_too_great = refl;
      product_too_small = refl;
      quotient_too_great = refl;
      negative_too_great = refl;
      absolute_too_great = refl;
      quotient_by_zero = refl;
      remainder_by_zero = refl;
      boolean_above = refl;
      boolean_below = refl;
      character_above = refl;
      character_below = refl;
      error_itself = refl;
    }

pub foreign-scalars : AreForeignScalars
foreign-scalars =
    record {
      sum = refl;
      difference = refl;
      product = refl;
      quotient = refl;
      remainder = refl;
      greater = refl;
      lesser = refl;
      equal = refl;
      equal_arrays = refl;
      not_equal = refl;
      less = refl;
      less_or_equal = refl;
      negative = refl;
      absolute = refl;
      other_boolean = refl;
      integer = refl;
      boolean = refl;
      character = refl;
    }
