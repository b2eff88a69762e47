-- Names that come into force and are undone, and definitions one after another.
use Rattle.std.proofs.Common.{◌≡◌, ℕ, List, [], ◌++◌, take, length, sym, ap, ◌∙◌, append-nil, append_assoc}
use Rattle.std.proofs.lemmas.List.{take_at}
use Rattle.lowering.specs.declared.feed.Wire.{Wire}
use Rattle.lowered_data.specs.Scopes.{Scopes, scopes, with_names, first_names}
use Rattle.lower_exprs.specs.Phrased.{Grows}

pub no_names : (s : Scopes) → Grows s s
no_names s = record { more = []; is = ap (λ h. scopes h s.marks) (sym (append-nil s.here)) }

pub more_names : (s t u : Scopes) (ws : List Wire) → Grows s t → u ≡ with_names t ws → Grows s u
more_names s t u ws g e = record { more = g.more ++ ws; is = e ∙ ap (λ k. with_names k ws) g.is ∙ ap (λ h. scopes h s.marks) (append_assoc s.here g.more ws) }

-- names that were undone
pub undone : (s t u : Scopes) (n : ℕ) → Grows s t → n ≡ length s.here → u ≡ first_names n t → u ≡ s
undone s t u n g l e = e ∙ ap (first_names n) g.is ∙ ap (λ h. scopes h s.marks) (taken n s.here g.more l)
  where
    taken : (n : ℕ) (xs ys : List Wire) → n ≡ length xs → take n (xs ++ ys) ≡ xs
    taken n xs ys l = take_at xs ys n (sym l)
