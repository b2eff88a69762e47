-- Examples of what nodes give, row by row, and a loop.
use Rattle.std.proofs.Common.{◌≡◌, ℕ, zero, suc, true, false, List, [], ◌∷◌, None, refl}
use Rattle.if1_graph.specs.declared.op.Grouping.{Grouping}
use Rattle.graph_meaning.specs.Carried.{Carried}
use Rattle.graph_meaning.specs.Forms.{Form, LoopB, Next, Enter, Starting, Testing, Turning}
use Rattle.graph_meaning.specs.Demand.{leads_to, dem}
use Rattle.graph_examples.specs.RowExamples.{AreScalarRows, AreListRows, AreRecordRows, AreFoldRows, AreLoopRows, endless}
use Rattle.graph_examples.proofs.Outs.{lists, out-record}

pub scalar-rows : AreScalarRows
scalar-rows =
    record {
      sum = refl;
      either = refl;
      difference = refl;
      product = refl;
      both = refl;
      quotient = refl;
      remainder = refl;
      remainder_of_the_least = refl;
      negative = refl;
      absolute = refl;
      greater = refl;
      lesser = refl;
      equal = refl;
      equal_nulls = refl;
      not_equal = refl;
      less = refl;
      less_or_equal = refl;
      other_boolean = refl;
      integer = refl;
      integer_of_true = refl;
      boolean = refl;
      character = refl;
      nothing_done = refl;
    }

pub list-rows : AreListRows
list-rows =
    record {
      built = refl;
      stream_built = refl;
      filled = refl;
      filled_with_none = refl;
      element = simp lists;
      replaced = simp lists;
      added_to = simp lists;
      added_to_stream = simp lists;
      added_below = simp lists;
      without_last = simp lists;
      without_first = simp lists;
      set = simp lists;
      adjusted = simp lists;
      adjusted_to_none = simp lists;
      lower_bound = simp lists;
      last_index = simp lists;
      last_index_of_none = simp lists;
      size = simp lists;
      emptiness = simp lists;
      in_a_row = simp lists;
      streams_in_a_row = simp lists;
      first = simp lists;
      rest = simp lists;
    }

pub record-rows : AreRecordRows
record-rows =
    record {
      record_built = refl;
      union_built = refl;
      each_field = simp out-record;
      field_replaced = simp out-record;
    }

pub fold-rows : (g : Grouping) → AreFoldRows g
fold-rows g =
    record {
      range = refl;
      range_of_none = refl;
      scattered = simp lists;
      scattered_stream = simp lists;
      gathered = refl;
      gathered_kept = refl;
      gathered_failing = refl;
      stream_gathered = refl;
      last = refl;
      last_kept = refl;
      last_failing = refl;
      sum = refl;
      sum_kept = refl;
      sum_failing = refl;
      product_kept = refl;
      least_kept = refl;
      greatest_kept = refl;
      catenation = simp lists;
      sum_of_none = refl;
      product_of_none = refl;
      catenation_of_none = refl;
      streams_of_none = refl;
      sum_past_the_word = refl;
    }

-- ---- a loop that never ends

abbrev form : Form
form = LoopB 1 2 1 1 2

module _ (v : Carried) where
  abbrev from : ℕ → Next → Type 0
  from n next = leads_to n endless form (v ∷ []) next ≡ None

  -- before a test, and before a turn
  abbrev Stays : ℕ → Type 0
  Stays n =
      ((before : List (List Carried)) → from n (Enter false 2 (v ∷ v ∷ []) (Testing ((v ∷ []) ∷ before))))
      × ((before : List (List Carried)) → from n (Enter true 1 (v ∷ v ∷ []) (Turning ((v ∷ []) ∷ before))))

  stays : (n : ℕ) → Stays n
  stays zero = ((λ b. refl), (λ b. refl))
  stays (suc n) = let s = stays n in ((λ b. s.1 b), (λ b. s.0 ((v ∷ []) ∷ b)))

  starts : (n : ℕ) → from n (Enter false 1 (v ∷ []) Starting)
  starts zero = refl
  starts (suc n) = (stays n).0 []

  never-ends : (n : ℕ) → dem n endless 0 (v ∷ []) ≡ None
  never-ends n = rw starts

pub loop-rows : AreLoopRows
loop-rows =
    record {
      first_from_1 = (20, refl);
      last_from_1 = (20, refl);
      first_from_30 = (20, refl);
      last_from_30 = (20, refl);
      never = never-ends;
    }
