-- A table with one form more.
use Rattle.std.proofs.Common.{◌≡◌, ℕ, ◌+◌, ◌<◌, ◌≤◌, ◌⊎◌, inl, inr, Bool, true, false, List, [], ◌∷◌, ◌++◌, All, length, map, slice_get, Option, Some, None, IfSome, IsNone, refl, sym, ap, ◌∙◌, subst, arith, position, append_assoc, if◌then◌else◌}
use Rattle.std.specs.List.{list_any}
use Rattle.std.proofs.lemmas.List.Elements.{All-push}
use Rattle.type_table.specs.declared.form.Form.{Form}
use Rattle.type_table.specs.Forms.{form_depth}
use Rattle.type_table.specs.Tables.{depths_onto, depths, basic_forms, AddsAtMost, HasMember, IsOver, IsWell, IsTable}
use Rattle.type_table.specs.Keys.{key_of, has_key, with_form}
use Rattle.type_table.proofs.Lists.{which, IsEarlier, IsLast}
use Rattle.type_table.proofs.Codes.{is_absent}

onto_more : (ds : List ℕ) (fs : List Form) (f : Form) → depths_onto ds (fs ++ f ∷ []) ≡ depths_onto ds fs ++ form_depth (depths_onto ds fs) f ∷ []
onto_more ds [] f = refl
onto_more ds (g ∷ fs) f = onto_more (ds ++ form_depth ds g ∷ []) fs f

pub depths_more : (fs : List Form) (f : Form) → depths (fs ++ f ∷ []) ≡ depths fs ++ form_depth (depths fs) f ∷ []
depths_more fs f = onto_more [] fs f

pub well_more : (fs : List Form) (f : Form) → IsWell fs → IsOver (length fs) f → HasMember f → position (has_key (key_of f)) fs ≡ None → form_depth (depths fs) f ≤ 64 → IsWell (fs ++ f ∷ [])
well_more fs f w over member absent shallow = record {
  once = λ k m g a b. once k m g (which fs f k g a) (which fs f m g b);
  after_parts = λ k g a. after k g (which fs f k g a);
  members = λ k g a. filled k g (which fs f k g a);
  shallow = subst (All (λ d. d ≤ 64)) (sym (depths_more fs f)) (All-push (λ d. d ≤ 64) (depths fs) (form_depth (depths fs) f) w.shallow shallow);
}
  where
    once : (k m : ℕ) (g : Form) → IsEarlier fs k g ⊎ IsLast fs f k g → IsEarlier fs m g ⊎ IsLast fs f m g → k ≡ m
    once k m g (inl a) (inl b) = w.once k m g a.is b.is
    once k m g (inl a) (inr b) = absurd (is_absent f fs k absent (a.is ∙ ap Some (sym b.is)))
    once k m g (inr a) (inl b) = absurd (is_absent f fs m absent (b.is ∙ ap Some (sym a.is)))
    once k m g (inr a) (inr b) = a.place ∙ sym b.place

    after : (k : ℕ) (g : Form) → IsEarlier fs k g ⊎ IsLast fs f k g → IsOver k g
    after k g (inl a) = w.after_parts k g a.is
    after k g (inr a) = subst (λ n. IsOver n g) (sym a.place) (subst (IsOver (length fs)) a.is over)

    filled : (k : ℕ) (g : Form) → IsEarlier fs k g ⊎ IsLast fs f k g → HasMember g
    filled k g (inl a) = w.members k g a.is
    filled k g (inr a) = subst HasMember a.is member

pub adds_at_most : (fs : List Form) (f : Form) → AddsAtMost fs f (with_form fs f)
adds_at_most fs f = by (list_any (has_key (key_of f)) fs)
  where
    by : (b : Bool) → AddsAtMost fs f (if b then fs else fs ++ f ∷ [])
    by true = inl refl
    by false = inr refl

-- a table that grows is one
pub table_more : (fs gs : List Form) (f : Form) → IsTable fs → AddsAtMost fs f gs → IsWell gs → IsTable gs
table_more fs gs f t (inl same) w = record { rest = t.rest; basics = same ∙ t.basics; well = w }
table_more fs gs f t (inr more) w = record {
  rest = t.rest ++ f ∷ [];
  basics = more ∙ ap (λ l. l ++ f ∷ []) t.basics ∙ append_assoc basic_forms t.rest (f ∷ []);
  well = w;
}
