-- Names from a level on, and names that a turn renews.
use Rattle.std.proofs.Common.{◌≡◌, ◌+◌, ◌⊎◌, inl, inr, ℕ, min, List, [], ◌∷◌, ◌++◌, length, drop, slice_get, Option, Some, refl, sym, ap, ◌∙◌, append_assoc, arith}
use Rattle.std.proofs.lemmas.List.{drop_more, drop_all}
use Rattle.std.proofs.lemmas.Option.{slice_get_within, get_or_from_slice_get}
use mathlib.Core.Logic.{dite}
use native.Mathlib.Decide.{dec_le}
use Rattle.lowering.specs.declared.feed.Wire.{Wire}
use Rattle.lowering.specs.Loops.{renew}

pub next_name : (ws here : List Wire) (i : ℕ) (w : Wire) → Some w ≡ slice_get here i → (ws ++ w ∷ []) ++ drop (i + 1) here ≡ ws ++ drop i here
next_name ws here i w is =
    let lt = slice_get_within here i w (sym is) in
    append_assoc ws (w ∷ []) (drop (i + 1) here)
    ∙ ap (λ k. ws ++ k) (ap (λ v. v ∷ drop (i + 1) here) (sym (get_or_from_slice_get here i w w (sym is))) ∙ sym (drop_more here i w lt))

none_renewed : (ds : List (Option ℕ)) (ws own : List Wire) → (ds ≡ []) ⊎ (ws ≡ []) → own ≡ renew ds ws own
none_renewed [] ws own h = refl
none_renewed (d ∷ ds) [] own h = refl
none_renewed (d ∷ ds) (w ∷ ws) own (inl e) = absurd cc
none_renewed (d ∷ ds) (w ∷ ws) own (inr e) = absurd cc

pub nothing_renewed : (ds : List (Option ℕ)) (ws own : List Wire) (left : ℕ) → left ≡ min (length ds) (length ws) → own ≡ renew (drop left ds) (drop left ws) own
nothing_renewed ds ws own left e = none_renewed (drop left ds) (drop left ws) own ends
  where
    ends : (drop left ds ≡ []) ⊎ (drop left ws ≡ [])
    ends = dite (dec_le (length ds) left) (λ le. inl (drop_all left ds le)) (λ gt. inr (drop_all left ws (omega (arith, e, gt))))
