-- What is read at types belongs to them.
use Rattle.std.specs.Prelude.{ℕ, List}
use Rattle.flow_value.specs.declared.ty.Ty.{Ty}
use Rattle.flow_value.specs.declared.value.Val.{Val}
use Rattle.value_text.specs.Grammar.{reads_value}
use Rattle.typed_rows.specs.Rows.{Of, AreOf}
use Rattle.mean_call.specs.Words.{AreRead}

-- a text spells only values of the type
abbrev pub IsReadOfType : Type 0
IsReadOfType = (text : List ℕ) (t : Ty) (v : Val) → reads_value text t v → Of t v

-- so it is of words, one for each type
abbrev pub AreWordsOfTypes : Type 0
AreWordsOfTypes = (words : List (List ℕ)) (types : List Ty) (values : List Val) → AreRead words types values → AreOf types values
