use Rattle.text_meaning.proofs.laws.marked_units_of_texts_are_ready.Goals as goal

pub returns : goal.returns
returns c = λ bytes u p v t.
    let fit = c.programs_of_texts_fit.ensures bytes u p t.text t.shallow t.types in
    let ready = c.units_of_texts_are_ready.ensures bytes u p v t.text t.shallow t.types t.within t.translated in
    (c.marks_made_keep_units_ready.ensures v ready (c.translated_units_are_normal.ensures p v fit t.translated)).0
