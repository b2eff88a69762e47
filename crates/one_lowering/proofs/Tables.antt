-- What a table tells of its types, another tells of them by their other numbers.
use Rattle.std.proofs.Common.{◌≡◌, ℕ, List, map, length, Option, Some, None, option_map, slice_get, refl, sym, ap, ◌∙◌}
use Rattle.std.proofs.lemmas.List.{length-map}
use Rattle.std.proofs.lemmas.Option.{slice_get-map}
use Rattle.type_table.specs.declared.form.Form.{Form}
use Rattle.type_table.specs.declared.form.Form.TheVariants as form
use Rattle.type_table.specs.declared.form.Member.{Member}
use Rattle.type_table.specs.Tables.{members_if, members_at}
use Rattle.lowering.specs.declared.feed.Carried.{Carried}
use Rattle.lowering.specs.declared.feed.Carried.TheVariants.{One, Many, Callee}
use Rattle.lowering.specs.Choices.{element_in, is_array_form, type_in, element_of, is_array, tag_count, content_of, type_of}
use Rattle.one_lowering.specs.Moves.{moved_member, moved_form, Moves}
use Rattle.one_lowering.proofs.Moved.{moved}

module _ (to : ℕ → ℕ) (forms others : List Form) (moves : Moves to forms others) where
  members-moved : (o : Option Form) → members_if (option_map (moved_form to) o) ≡ map (moved_member to) (members_if o)
  members-moved None = refl
  members-moved (Some form.Boolean) = refl
  members-moved (Some form.Character) = refl
  members-moved (Some form.Integer) = refl
  members-moved (Some form.Null) = refl
  members-moved (Some (form.Array t)) = refl
  members-moved (Some (form.Stream t)) = refl
  members-moved (Some (form.Record ms)) = refl
  members-moved (Some (form.Union ms)) = refl

  members-at : (t : ℕ) → members_at others (to t) ≡ map (moved_member to) (members_at forms t)
  members-at t = ap members_if (moves.form t) ∙ members-moved (slice_get forms t)

  pub tags-moved : (t : ℕ) → tag_count others (to t) ≡ tag_count forms t
  tags-moved t = ap length (members-at t) ∙ length-map (members_at forms t) (moved_member to)

  pub content-moved : (t tag : ℕ) → content_of others (to t) tag ≡ to (content_of forms t tag)
  content-moved t tag = ap (λ l. type_in (slice_get l tag)) (members-at t) ∙ ap type_in (slice_get-map (moved_member to) (members_at forms t) tag) ∙ by (slice_get (members_at forms t) tag)
    where
      by : (o : Option Member) → type_in (option_map (moved_member to) o) ≡ to (type_in o)
      by None = sym moves.booleans
      by (Some m) = refl

  pub element-moved : (t : ℕ) → element_of others (to t) ≡ to (element_of forms t)
  element-moved t = ap element_in (moves.form t) ∙ by (slice_get forms t)
    where
      by : (o : Option Form) → element_in (option_map (moved_form to) o) ≡ to (element_in o)
      by None = sym moves.booleans
      by (Some form.Boolean) = sym moves.booleans
      by (Some form.Character) = sym moves.booleans
      by (Some form.Integer) = sym moves.booleans
      by (Some form.Null) = sym moves.booleans
      by (Some (form.Array t)) = refl
      by (Some (form.Stream t)) = refl
      by (Some (form.Record ms)) = sym moves.booleans
      by (Some (form.Union ms)) = sym moves.booleans

  pub array-moved : (t : ℕ) → is_array others (to t) ≡ is_array forms t
  array-moved t = ap is_array_form (moves.form t) ∙ by (slice_get forms t)
    where
      by : (o : Option Form) → is_array_form (option_map (moved_form to) o) ≡ is_array_form o
      by None = refl
      by (Some form.Boolean) = refl
      by (Some form.Character) = refl
      by (Some form.Integer) = refl
      by (Some form.Null) = refl
      by (Some (form.Array t)) = refl
      by (Some (form.Stream t)) = refl
      by (Some (form.Record ms)) = refl
      by (Some (form.Union ms)) = refl

  pub type-moved : (c : Carried) → type_of (moved to c) ≡ to (type_of c)
  type-moved (One t) = refl
  type-moved (Many t) = refl
  type-moved (Callee f) = sym moves.booleans
