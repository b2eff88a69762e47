use Rattle.text_ready.proofs.laws.units_of_texts_are_ready.Goals as goal

pub returns : goal.returns
returns c = λ bytes u p v h deep table few t.
    c.translated_units_are_ready.ensures p v (c.programs_of_texts_fit.ensures bytes u p h deep table) (c.programs_of_texts_are_covered.ensures bytes u p h) few t
