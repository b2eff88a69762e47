-- What is written of a line.
use Rattle.std.proofs.Common.{◌≡◌, ℕ, List, [], ◌∷◌, ◌++◌, refl, sym, ap, ◌∙◌, append_assoc}
use Rattle.if1_graph.specs.LineParts.{Part}
use Rattle.if1_graph.specs.Spelling.{part_text, after_blanks}

pub after_blanks_append : (ps qs : List Part) → after_blanks (ps ++ qs) ≡ after_blanks ps ++ after_blanks qs
after_blanks_append [] qs = refl
after_blanks_append (p ∷ ps) qs =
    ap (λ t. 32 ∷ part_text p ++ t) (after_blanks_append ps qs)
    ∙ ap (λ t. 32 ∷ t) (sym (append_assoc (part_text p) (after_blanks ps) (after_blanks qs)))

-- parts written one after the other
pub written_both : (old mid new : List ℕ) (ps qs : List Part) → mid ≡ old ++ after_blanks ps → new ≡ mid ++ after_blanks qs → new ≡ old ++ after_blanks (ps ++ qs)
written_both old mid new ps qs e f =
    f
    ∙ ap (λ t. t ++ after_blanks qs) e
    ∙ append_assoc old (after_blanks ps) (after_blanks qs)
    ∙ ap (λ t. old ++ t) (sym (after_blanks_append ps qs))
