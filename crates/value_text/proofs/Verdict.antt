-- What the look at a whole text says of its fault.
use Rattle.std.proofs.Common.{◌≡◌, ℕ, ◌-◌, Bool, true, false, cond, List, [], ◌∷◌, length, Option, Some, None, refl, sym, ap, subst, ◌∙◌}
use Rattle.std.specs.Option.{unwrap_or}
use Rattle.std.proofs.lemmas.Option.{none-some, same_Some, some_pair_parts}
use Rattle.flow_value.specs.declared.value.Val.{Val}
use Rattle.flow_value.specs.declared.ty.Ty.{Ty}
use Rattle.value_text.specs.Tokens.{past_blanks}
use Rattle.value_text.specs.Reading.{text_value}
use Rattle.value_text.specs.Grammar.{PartAt, reads_value}
use Rattle.value_text.specs.Forms.{Form, Spells, SpellsForm, IsValueText}
use Rattle.value_text.specs.Faults.{is_within, misfit, PastLimits, MisfitAt}
use Rattle.value_text.specs.Surveying.{Look, look}
use Rattle.value_text.proofs.Looks.{look_form}
use Rattle.value_text.proofs.Fits.{fits}
use Rattle.value_text.proofs.Whole.{text_complete}

none_looked : (w : Bool) (x : Look) → cond w (Some x) None ≡ None → w ≡ false
none_looked true x e = absurd cc
none_looked false x e = refl

pub some_looked : (w : Bool) (x y : Look) → cond w (Some x) None ≡ Some y → (w ≡ true) × (x ≡ y)
some_looked true x y e = (refl, same_Some x y e)
some_looked false x y e = absurd cc

pub too_large : (bytes : List ℕ) (ty : Ty) → IsValueText bytes → look 64 (Some ty) (past_blanks bytes) ≡ None → PastLimits bytes
too_large bytes ty v e = record {
  spelled = v;
  past = λ f h. none_looked (is_within f 64) (misfit f (Some ty) (length (past_blanks bytes)), h.rest) (sym (look_form f 64 (Some ty) (past_blanks bytes) h.rest h.spelled) ∙ e);
}

-- where nothing is amiss, the text is read
read_after_all : (bytes : List ℕ) (ty : Ty) (f : Form) → SpellsForm bytes f → is_within f 64 ≡ true → misfit f (Some ty) (length (past_blanks bytes)) ≡ None → text_value bytes ty ≡ None → ⊥
read_after_all bytes ty f h w m e =
    let v = fits f 64 ty (length (past_blanks bytes)) (past_blanks bytes) h.rest h.spelled w m in
    let r : reads_value bytes ty v.0 = record { rest = h.rest; spelled = v.1; ended = h.ended } in
    none-some v.0 (sym e ∙ text_complete bytes ty v.0 r)

pub wrong_shape : (bytes : List ℕ) (ty : Ty) (found : Option ℕ) (rest : List ℕ) → IsValueText bytes → text_value bytes ty ≡ None → look 64 (Some ty) (past_blanks bytes) ≡ Some (found, rest) → MisfitAt bytes ty (length bytes - unwrap_or found 0)
wrong_shape bytes ty found rest v unread e = record { spelled = v; within = λ f h. (looked f h).0; place = λ f h. placed f h found (looked f h).1 (looked f h).0 }
  where
    looked : (f : Form) → SpellsForm bytes f → (is_within f 64 ≡ true) × (misfit f (Some ty) (length (past_blanks bytes)) ≡ found)
    looked f h =
        let p = some_looked (is_within f 64) (misfit f (Some ty) (length (past_blanks bytes)), h.rest) (found, rest) (sym (look_form f 64 (Some ty) (past_blanks bytes) h.rest h.spelled) ∙ e) in
        (p.0, ap (λ (x : Look). x.0) p.1)

    placed : (f : Form) → SpellsForm bytes f → (o : Option ℕ) → misfit f (Some ty) (length (past_blanks bytes)) ≡ o → is_within f 64 ≡ true → (left : ℕ) × (misfit f (Some ty) (length (past_blanks bytes)) ≡ Some left) × (length bytes - unwrap_or o 0 ≡ length bytes - left)
    placed f h None m w = absurd (read_after_all bytes ty f h w m unread)
    placed f h (Some left) m w = (left, m, refl)
