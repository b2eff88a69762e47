-- The types of the contents of a union's tags, by the arm to which they lead.
use Rattle.std.specs.Prelude.{ℕ, ◌==◌, Bool, false, List, [], ◌∷◌, Option, Some, None, is_some, if◌then◌else◌}
use Rattle.if1_graph.specs.Tables.{◌>>=◌}
use Rattle.if1_types.specs.Shapes.{Key}
use Rattle.if1_types.specs.Forms.{list_form_at}
use Rattle.if1_types.specs.Skips.{first_in, rest_in}
use Rattle.if1_fits.specs.Views.{are_same}
use Rattle.if1_typing.specs.declared.site.Content.{Content}
use Rattle.if1_typing.specs.declared.site.Content.TheVariants.{Any, One, Never}

-- one more tag, whose type may not be known
abbrev pub with_tag : Content → Option ℕ → Content
with_tag c None = Never
with_tag Any (Some k) = One k
with_tag (One m) (Some k) = if m == k then One m else Never
with_tag Never (Some k) = Never

module _ (ks : List Key) where
  abbrev pub first_at : Option ℕ → Option ℕ
  first_at l = l >>= λ l. first_in (list_form_at ks l)

  abbrev pub rest_at : Option ℕ → Option ℕ
  rest_at l = l >>= λ l. rest_in (list_form_at ks l)

  -- the tags of a list in order, with the arm of each
  abbrev pub content_from : Content → Option ℕ → List ℕ → ℕ → Content
  content_from c l [] arm = c
  content_from c l (a ∷ others) arm = content_from (if a == arm then with_tag c (first_at l) else c) (rest_at l) others arm

-- a type is that of each tag
abbrev pub content_fits : Content → Option ℕ → Bool
content_fits Any v = is_some v
content_fits (One k) v = are_same (Some k) v
content_fits Never v = false
