-- Examples of the errors of nodes on arrays, streams and records, in the order of the table of what each node gives.
use Rattle.std.proofs.Common.{◌≡◌, ◌∙◌, ◌++◌, suc, ℤ, pos, ◌-ℤ◌, List, [], ◌∷◌, length, refl, ap, append-nil}
use Rattle.std.proofs.lemmas.List.{length-append, length-replicate}
use Rattle.flow_value.specs.Aggregates.{array_val, stream_val}
use Rattle.flow_value.specs.declared.cause.Cause.TheVariants as cause
use Rattle.flow_value.specs.declared.value.Val.{Val}
use Rattle.flow_value.specs.declared.value.Val.TheVariants as val
use Rattle.if1_graph.specs.declared.op.Simple.TheVariants as simple
use Rattle.value_ops.specs.Aggregates.{places}
use Rattle.graph_meaning.specs.Carried.{Carried, Value, vals}
use Rattle.graph_examples.specs.Words.{int, Fails}
use Rattle.graph_examples.specs.ListErrors.{ports, AreListsTooLong, AreBoundsTooGreat, AreIndicesOutside, AreListsEmpty, AreForeignLists}
use Rattle.graph_examples.specs.RecordErrors.{AreForeignRecords}
use Rattle.graph_examples.proofs.Outs.{lists, out-int, out-record}

-- ---- too many elements

pub array-too-long : (lo : ℤ) (vs : List Val) → length vs ≡ 4194305 → array_val lo vs ≡ val.Err cause.Size
array-too-long lo vs e = rw e

pub stream-too-long : (vs : List Val) → length vs ≡ 4194305 → stream_val vs ≡ val.Err cause.Size
stream-too-long vs e = rw e

one-behind : (v : Val) (vs : List Val) → length vs ≡ 4194304 → length (vs ++ v ∷ []) ≡ 4194305
one-behind v vs e = rw (length-append, e)

pub as-long : (vs ws : List Val) → length (vs ++ ws) ≡ 4194305 → length (vs ++ (ws ++ [])) ≡ 4194305
as-long vs ws e = ap (λ zs. length (vs ++ zs)) (append-nil ws) ∙ e

vals-ports : (vs : List Val) → vals (ports vs) ≡ vs
vals-ports [] = refl
vals-ports (v ∷ vs) = ap (λ ws. v ∷ ws) (vals-ports vs)

pub gives : {v w : Val} → v ≡ w → ◌≡◌ {A = List Carried} (Value v ∷ []) (Value w ∷ [])
gives e = ap (λ v. Value v ∷ []) e

fill-too-long : (v : Val) (lo hi : ℤ) → places lo hi ≡ 4194305 → Fails simple.AFill (int lo ∷ int hi ∷ Value v ∷ []) cause.Size
fill-too-long v lo hi e = gives (array-too-long lo _ (length-replicate (places lo hi) v ∙ e))

pub lists-too-long : AreListsTooLong
lists-too-long =
    record {
      built_array = λ vs e. gives (ap (array_val (pos 1)) (vals-ports vs) ∙ array-too-long (pos 1) vs e);
      built_stream = λ vs e. gives (ap stream_val (vals-ports vs) ∙ stream-too-long vs e);
      filled = λ v. fill-too-long v (pos 1) (pos 4194305) refl;
      array_added_to = λ lo v vs e. simp lists (gives (array-too-long lo (vs ++ v ∷ []) (one-behind v vs e)));
      stream_added_to = λ v vs e. simp lists (gives (stream-too-long (vs ++ v ∷ []) (one-behind v vs e)));
      added_below = λ lo v vs e. simp lists (gives (array-too-long (lo -ℤ pos 1) (v ∷ vs) (ap suc e)));
      arrays_in_a_row = λ lo from vs ws e. simp lists (gives (array-too-long lo (vs ++ (ws ++ [])) (as-long vs ws e)));
      streams_in_a_row = λ vs ws e. simp lists (gives (stream-too-long (vs ++ (ws ++ [])) (as-long vs ws e)));
    }

pub bounds-too-great : AreBoundsTooGreat
bounds-too-great =
    record {
      built = refl;
      built_of_none = refl;
      filled = refl;
      added_to = simp lists;
      added_below = simp lists;
      without_last = simp lists;
      without_first = simp lists;
      set_too_high = simp lists;
      set_too_low = simp lists;
      in_a_row = simp lists;
    }

pub indices-outside : AreIndicesOutside
indices-outside =
    record {
      element_above = simp lists;
      element_below = simp lists;
      element_of_none = simp lists;
      replaced_above = simp lists;
      replaced_below = simp lists;
      adjusted_below = simp lists;
      adjusted_above = simp lists;
      adjusted_backwards = simp lists;
    }

pub lists-empty : AreListsEmpty
lists-empty = record { without_last = simp lists; without_first = simp lists; first = simp lists; rest = simp lists }

pub foreign-lists : AreForeignLists
foreign-lists =
    record {
      built = refl;
      filled_from_a_boolean = refl;
      filled_to_a_boolean = refl;
      element_of_a_stream = simp lists;
      element_at_a_boolean = simp lists;
      replaced_in_a_stream = simp lists;
      replaced_at_a_boolean = simp lists;
      added_to = simp out-int;
      added_below = simp lists;
      without_last = simp lists;
      without_first = simp lists;
      set = simp lists;
      set_to_a_boolean = simp lists;
      adjusted = simp lists;
      adjusted_from_a_boolean = simp lists;
      adjusted_to_a_boolean = simp lists;
      lower_bound = simp lists;
      last_index = simp lists;
      size = simp out-int;
      emptiness = simp out-int;
      stream_behind_array = simp lists;
      array_behind_stream = simp lists;
      integer_behind_array = simp (lists, out-int);
      integer_in_a_row = simp (lists, out-int);
      first = simp lists;
      rest = simp lists;
    }

-- ---- records

pub foreign-records : AreForeignRecords
foreign-records =
    record {
      union_of_two = refl;
      union_of_none = refl;
      fields_of_an_integer = simp out-int;
      field_past_the_last = simp out-record;
      replaced_in_an_integer = simp out-int;
      replaced_past_the_last = simp out-record;
    }
