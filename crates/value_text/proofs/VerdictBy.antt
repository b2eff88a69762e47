-- What the look at a whole text beside a number says of its fault.
use Rattle.std.proofs.Common.{◌≡◌, ℕ, ◌-◌, List, length, Option, Some, None, sym, ap, ◌∙◌}
use Rattle.std.specs.Option.{unwrap_or}
use Rattle.std.specs.Prelude.{Result, Err}
use Rattle.flow_value.specs.declared.value.Val.{Val}
use Rattle.value_text.specs.declared.fault.ValueFault.{ValueFault}
use Rattle.flow_value.specs.declared.ty.Ty.{Ty}
use Rattle.value_text.specs.Tokens.{past_blanks}
use Rattle.value_text.specs.Forms.{IsValueText}
use Rattle.value_text.specs.Faults.{PastLimits, MisfitAt}
use Rattle.value_text.specs.Surveying.{Look, look}
use Rattle.value_text.specs.Numbered.{Numbered, StandsFor}
use Rattle.value_text.specs.ReadingBy.{text_value_by}
use Rattle.value_text.specs.SurveyingBy.{look_by}
use Rattle.value_text.proofs.Alike.{text_alike_by}
use Rattle.value_text.proofs.LooksAlike.{look_alike}
use Rattle.value_text.proofs.Verdict.{too_large, wrong_shape}

seen : (ts : Numbered) (n : ℕ) (ty : Ty) (bytes : List ℕ) (o : Option Look) → StandsFor ts n ty → look_by ts 64 (Some n) (past_blanks bytes) ≡ o → look 64 (Some ty) (past_blanks bytes) ≡ o
seen ts n ty bytes o h e = (λ j. sym (look_alike ts 64 (Some n) (Some ty) (h 65)) j (past_blanks bytes)) ∙ e

pub too_large_by : (ts : Numbered) (n : ℕ) (bytes : List ℕ) → IsValueText bytes → look_by ts 64 (Some n) (past_blanks bytes) ≡ None → (ty : Ty) → StandsFor ts n ty → PastLimits bytes
too_large_by ts n bytes v e ty h = too_large bytes ty v (seen ts n ty bytes None h e)

pub wrong_shape_by : (ts : Numbered) (n : ℕ) (bytes : List ℕ) (found : Option ℕ) (rest : List ℕ) → IsValueText bytes → text_value_by bytes ts n ≡ None → look_by ts 64 (Some n) (past_blanks bytes) ≡ Some (found, rest)
    → (ty : Ty) → StandsFor ts n ty → MisfitAt bytes ty (length bytes - unwrap_or found 0)
wrong_shape_by ts n bytes found rest v unread e ty h =
    wrong_shape bytes ty found rest v (sym (text_alike_by ts n ty bytes h) ∙ unread) (seen ts n ty bytes (Some (found, rest)) h e)

pub same_fault : (e f : ValueFault) → ◌≡◌ {A = Result Val ValueFault} (Err e) (Err f) → e ≡ f
same_fault e f h = cc
