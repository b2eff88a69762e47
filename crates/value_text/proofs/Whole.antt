-- Reading a whole text is its grammar.
use Rattle.std.proofs.Common.{◌≡◌, ℕ, suc, Bool, true, false, cond, List, [], ◌∷◌, Option, Some, None, refl, sym, ap, subst, ◌∙◌}
use Rattle.std.proofs.lemmas.Option.{same_Some, cond_some}
use Rattle.flow_value.specs.declared.value.Val.{Val}
use Rattle.flow_value.specs.declared.ty.Ty.{Ty}
use Rattle.value_text.specs.Tokens.{◌>>=◌, past_blanks}
use Rattle.value_text.specs.Reading.{value_in, part_in, at_end, text_value, is_nil}
use Rattle.value_text.specs.Grammar.{PartAt, reads_value}
use Rattle.value_text.proofs.Steps.{bind_some}
use Rattle.value_text.proofs.Levels.{part_sound}
use Rattle.value_text.proofs.Complete.{part_complete}

nil_is : (xs : List ℕ) → is_nil xs ≡ true → xs ≡ []
nil_is [] e = refl
nil_is (x ∷ xs) e = absurd cc

pub text_sound : (text : List ℕ) (ty : Ty) (v : Val) → text_value text ty ≡ Some v → reads_value text ty v
text_sound text ty v e =
    let b = bind_some (value_in 63 ty (past_blanks text)) at_end v e in
    let g = cond_some (is_nil (past_blanks b.0.1)) b.0.0 v b.2 in
    let p : PartAt 64 ty (past_blanks text) b.0.0 b.0.1 = part_sound 64 ty (past_blanks text) b.0.0 b.0.1 b.1 in
    record { rest = b.0.1; spelled = subst (λ (x : Val). PartAt 64 ty (past_blanks text) x b.0.1) g.1 p; ended = nil_is (past_blanks b.0.1) g.0 }

pub text_complete : (text : List ℕ) (ty : Ty) (v : Val) → reads_value text ty v → text_value text ty ≡ Some v
text_complete text ty v h =
    let e : value_in 63 ty (past_blanks text) ≡ Some (v, h.rest) = part_complete 64 ty (past_blanks text) v h.rest h.spelled in
    rw (e, h.ended) refl

-- a text is read as one value at a type
pub text_once : (text : List ℕ) (ty : Ty) (v w : Val) → reads_value text ty v → reads_value text ty w → v ≡ w
text_once text ty v w h k = same_Some v w (sym (text_complete text ty v h) ∙ text_complete text ty w k)
