-- Nodes on arrays and streams whose operands are no errors, and that give one: an example for each cause of each row (IF1
-- manual M-170, simple nodes). What needs 4,194,304 elements is told of every list of that length.
use Rattle.std.specs.Prelude.{◌≡◌, ◌++◌, ℕ, ℤ, pos, true, List, [], ◌∷◌, length}
use Rattle.flow_value.specs.declared.cause.Cause.TheVariants.{Bounds, Empty, Size, Explicit}
use Rattle.flow_value.specs.declared.value.Val.{Val}
use Rattle.if1_graph.specs.declared.op.Simple.TheVariants.{ABuild, AFill, AElement, AReplace, AAddH, AAddL, ARemH, ARemL, ASetL, AAdjust, ALimL, ALimH, ASize, AIsEmpty, ACatenate, FirstValue, RestValues}
use Rattle.graph_meaning.specs.Carried.{Carried, Value}
use Rattle.graph_examples.specs.Words.{num, greatest, least, int, bool, array, stream, Fails, FailsAsStream}

-- the most elements that there may be
abbrev pub most : ℕ
most = 4194304

-- a list of values, each at a port of its own
abbrev pub ports : List Val → List Carried
ports [] = []
ports (v ∷ vs) = Value v ∷ ports vs

pub record AreListsTooLong : Type 0 where
  pub built_array : (vs : List Val) → length vs ≡ 4194305 → Fails ABuild (int (pos 1) ∷ ports vs) Size
  pub built_stream : (vs : List Val) → length vs ≡ 4194305 → FailsAsStream ABuild (int (pos 1) ∷ ports vs) Size
  pub filled : (v : Val) → Fails AFill (int (pos 1) ∷ int (pos 4194305) ∷ Value v ∷ []) Size
  pub array_added_to : (lo : ℤ) (v : Val) (vs : List Val) → length vs ≡ most → Fails AAddH (array lo vs ∷ Value v ∷ []) Size
  pub stream_added_to : (v : Val) (vs : List Val) → length vs ≡ most → Fails AAddH (stream vs ∷ Value v ∷ []) Size
  pub added_below : (lo : ℤ) (v : Val) (vs : List Val) → length vs ≡ most → Fails AAddL (array lo vs ∷ Value v ∷ []) Size
  pub arrays_in_a_row : (lo from : ℤ) (vs ws : List Val) → length (vs ++ ws) ≡ 4194305 → Fails ACatenate (array lo vs ∷ array from ws ∷ []) Size
  pub streams_in_a_row : (vs ws : List Val) → length (vs ++ ws) ≡ 4194305 → Fails ACatenate (stream vs ∷ stream ws ∷ []) Size

-- a lower bound or a last index that does not fit 64 signed bits
pub record AreBoundsTooGreat : Type 0 where
  pub built : Fails ABuild (int greatest ∷ int (pos 5) ∷ int (pos 7) ∷ []) Bounds
  pub built_of_none : Fails ABuild (int least ∷ []) Bounds
  -- no 64 bits hold such operands
  pub filled : Fails AFill (int (pos 9223372036854775808) ∷ int (pos 9223372036854775808) ∷ bool true ∷ []) Bounds
  pub added_to : Fails AAddH (array greatest (num 5 ∷ []) ∷ int (pos 7) ∷ []) Bounds
  pub added_below : Fails AAddL (array least (num 5 ∷ []) ∷ int (pos 7) ∷ []) Bounds
  pub without_last : Fails ARemH (array least (num 5 ∷ []) ∷ []) Bounds
  pub without_first : Fails ARemL (array greatest (num 5 ∷ []) ∷ []) Bounds
  pub set_too_high : Fails ASetL (array (pos 3) (num 5 ∷ num 7 ∷ []) ∷ int greatest ∷ []) Bounds
  pub set_too_low : Fails ASetL (array (pos 3) [] ∷ int least ∷ []) Bounds
  pub in_a_row : Fails ACatenate (array greatest (num 5 ∷ []) ∷ array (pos 1) (num 7 ∷ []) ∷ []) Bounds

-- an index that is none, or places that are none
pub record AreIndicesOutside : Type 0 where
  pub element_above : Fails AElement (array (pos 3) (num 5 ∷ num 7 ∷ []) ∷ int (pos 5) ∷ []) Bounds
  pub element_below : Fails AElement (array (pos 3) (num 5 ∷ num 7 ∷ []) ∷ int (pos 2) ∷ []) Bounds
  pub element_of_none : Fails AElement (array (pos 3) [] ∷ int (pos 3) ∷ []) Bounds
  pub replaced_above : Fails AReplace (array (pos 3) (num 5 ∷ num 7 ∷ []) ∷ int (pos 5) ∷ int (pos 0) ∷ []) Bounds
  pub replaced_below : Fails AReplace (array (pos 3) (num 5 ∷ num 7 ∷ []) ∷ int (pos 2) ∷ int (pos 0) ∷ []) Bounds
  pub adjusted_below : Fails AAdjust (array (pos 3) (num 5 ∷ num 7 ∷ []) ∷ int (pos 2) ∷ int (pos 4) ∷ []) Bounds
  pub adjusted_above : Fails AAdjust (array (pos 3) (num 5 ∷ num 7 ∷ []) ∷ int (pos 3) ∷ int (pos 5) ∷ []) Bounds
  pub adjusted_backwards : Fails AAdjust (array (pos 3) (num 5 ∷ num 7 ∷ []) ∷ int (pos 5) ∷ int (pos 3) ∷ []) Bounds

-- an element of a list without elements
pub record AreListsEmpty : Type 0 where
  pub without_last : Fails ARemH (array (pos 3) [] ∷ []) Empty
  pub without_first : Fails ARemL (array (pos 3) [] ∷ []) Empty
  pub first : Fails FirstValue (stream [] ∷ []) Empty
  pub rest : Fails RestValues (stream [] ∷ []) Empty

-- operands of a kind that the row does not have
pub record AreForeignLists : Type 0 where
  pub built : Fails ABuild (bool true ∷ int (pos 5) ∷ []) Explicit
  pub filled_from_a_boolean : Fails AFill (bool true ∷ int (pos 1) ∷ int (pos 5) ∷ []) Explicit
  pub filled_to_a_boolean : Fails AFill (int (pos 1) ∷ bool true ∷ int (pos 5) ∷ []) Explicit
  pub element_of_a_stream : Fails AElement (stream (num 5 ∷ []) ∷ int (pos 1) ∷ []) Explicit
  pub element_at_a_boolean : Fails AElement (array (pos 3) (num 5 ∷ []) ∷ bool true ∷ []) Explicit
  pub replaced_in_a_stream : Fails AReplace (stream (num 5 ∷ []) ∷ int (pos 1) ∷ int (pos 0) ∷ []) Explicit
  pub replaced_at_a_boolean : Fails AReplace (array (pos 3) (num 5 ∷ []) ∷ bool true ∷ int (pos 0) ∷ []) Explicit
  pub added_to : Fails AAddH (int (pos 3) ∷ int (pos 7) ∷ []) Explicit
  pub added_below : Fails AAddL (stream (num 5 ∷ []) ∷ int (pos 7) ∷ []) Explicit
  pub without_last : Fails ARemH (stream (num 5 ∷ []) ∷ []) Explicit
  pub without_first : Fails ARemL (stream (num 5 ∷ []) ∷ []) Explicit
  pub set : Fails ASetL (stream (num 5 ∷ []) ∷ int (pos 1) ∷ []) Explicit
  pub set_to_a_boolean : Fails ASetL (array (pos 3) (num 5 ∷ []) ∷ bool true ∷ []) Explicit
  pub adjusted : Fails AAdjust (stream (num 5 ∷ []) ∷ int (pos 1) ∷ int (pos 1) ∷ []) Explicit
  pub adjusted_from_a_boolean : Fails AAdjust (array (pos 3) (num 5 ∷ []) ∷ bool true ∷ int (pos 3) ∷ []) Explicit
  pub adjusted_to_a_boolean : Fails AAdjust (array (pos 3) (num 5 ∷ []) ∷ int (pos 3) ∷ bool true ∷ []) Explicit
  pub lower_bound : Fails ALimL (stream (num 5 ∷ []) ∷ []) Explicit
  pub last_index : Fails ALimH (stream (num 5 ∷ []) ∷ []) Explicit
  pub size : Fails ASize (int (pos 3) ∷ []) Explicit
  pub emptiness : Fails AIsEmpty (int (pos 3) ∷ []) Explicit
  pub stream_behind_array : Fails ACatenate (array (pos 1) (num 5 ∷ []) ∷ stream (num 7 ∷ []) ∷ []) Explicit
  pub array_behind_stream : Fails ACatenate (stream (num 5 ∷ []) ∷ array (pos 1) (num 7 ∷ []) ∷ []) Explicit
  pub integer_behind_array : Fails ACatenate (array (pos 1) (num 5 ∷ []) ∷ int (pos 7) ∷ []) Explicit
  pub integer_in_a_row : Fails ACatenate (int (pos 5) ∷ array (pos 1) (num 7 ∷ []) ∷ []) Explicit
  pub first : Fails FirstValue (array (pos 1) (num 5 ∷ []) ∷ []) Explicit
  pub rest : Fails RestValues (array (pos 1) (num 5 ∷ []) ∷ []) Explicit
