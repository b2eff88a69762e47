-- The search for the first bad byte: what is still to come decides the whole.
use Rattle.std.proofs.Common.{◌≡◌, ℕ, zero, suc, ◌+◌, ◌-◌, ◌<◌, ◌≤◌, Bool, true, false, ◌&&◌, List, [], ◌∷◌, ◌++◌, length, take, drop, get_or, Option, Some, None, refl, sym, ap, subst, ◌∙◌, append_assoc, append-nil, arith}
use Rattle.std.proofs.lemmas.List.{take_more}
use Rattle.std.proofs.lemmas.Bool.{both_ways, and_parts}
use Rattle.value_text.specs.Tokens.{past_blanks}
use Rattle.value_text.specs.Forms.{Form, Spells, SpellsForm, IsValueText, FirstBad}
use Rattle.value_text.specs.declared.spelling.Enclosure.{Enclosure}
use Rattle.value_text.specs.declared.spelling.Mode.{Mode}
use Rattle.value_text.specs.declared.spelling.Mode.TheVariants as mode
use Rattle.value_text.specs.declared.spelling.Move.{Move}
use Rattle.value_text.specs.declared.spelling.Move.TheVariants as move
use Rattle.value_text.specs.Machine.{innermost, is_closed, next, may_end, Rest, Goes, Refuses, LeadsOn}
use Rattle.value_text.proofs.Follows.{next_only, next_sound}
use Rattle.value_text.proofs.Ends.{goes_on, ends_only, ends_sound}

module _ (m : Mode) (nest : List Enclosure) (c : ℕ) where
  goes_only : (x : Move) → next m (innermost nest) c ≡ x → (s : List ℕ) → Rest m nest (c ∷ s) → Goes x nest s
  goes_only x e s h = subst (λ (y : Move). Goes y nest s) e (next_only m nest c s h)

  goes_sound : (x : Move) → next m (innermost nest) c ≡ x → (s : List ℕ) → Goes x nest s → Rest m nest (c ∷ s)
  goes_sound x e s h = next_sound m nest c s (subst (λ (y : Move). Goes y nest s) (sym e) h)

  pub leads_to : (r : Mode) → next m (innermost nest) c ≡ move.To r → LeadsOn m nest c r nest
  leads_to r e = record { only = goes_only (move.To r) e; sound = goes_sound (move.To r) e }

  pub leads_in : (a : Enclosure) (r : Mode) → next m (innermost nest) c ≡ move.Open a r → LeadsOn m nest c r (a ∷ nest)
  leads_in a r e = record { only = goes_only (move.Open a r) e; sound = goes_sound (move.Open a r) e }

  pub refused : next m (innermost nest) c ≡ move.Bad → Refuses m nest c
  refused e s h = goes_only move.Bad e s h

pub leads_out : (m : Mode) (nest : List Enclosure) (c : ℕ) (a : Enclosure) (rest : List Enclosure) → nest ≡ a ∷ rest → next m (innermost nest) c ≡ move.Close → LeadsOn m nest c mode.Ended rest
leads_out m nest c a rest e h =
    let g : next m (innermost (a ∷ rest)) c ≡ move.Close = subst (λ (x : List Enclosure). next m (innermost x) c ≡ move.Close) e h in
    subst (λ (x : List Enclosure). LeadsOn m x c mode.Ended rest) (sym e) (record { only = goes_only m (a ∷ rest) c move.Close g; sound = goes_sound m (a ∷ rest) c move.Close g })

pub refused_close : (m : Mode) (nest : List Enclosure) (c : ℕ) → nest ≡ [] → next m (innermost nest) c ≡ move.Close → Refuses m nest c
refused_close m nest c e h =
    let g : next m (innermost []) c ≡ move.Close = subst (λ (x : List Enclosure). next m (innermost x) c ≡ move.Close) e h in
    subst (λ (x : List Enclosure). Refuses m x c) (sym e) (λ s k. goes_only m [] c move.Close g s k)

-- After the first i bytes, a text makes a value text of them exactly where it may follow.
pub record Reached (text : List ℕ) (i : ℕ) (m : Mode) (nest : List Enclosure) : Type 0 where
  pub only : (s : List ℕ) → IsValueText (take i text ++ s) → Rest m nest s
  pub sound : (s : List ℕ) → Rest m nest s → IsValueText (take i text ++ s)

pub at_start : (text : List ℕ) → Reached text 0 mode.Wanted []
at_start text = record { only = from_text; sound = to_text }
  where
    from_text : (s : List ℕ) → IsValueText s → Rest mode.Wanted [] s
    from_text s (f, h) = (f, h.rest, h.spelled, h.ended)

    to_text : (s : List ℕ) → Rest mode.Wanted [] s → IsValueText s
    to_text s (f, r, h, k) = (f, record { rest = r; spelled = h; ended = k })

longer : (text : List ℕ) (i : ℕ) (s : List ℕ) → i < length text → take (i + 1) text ++ s ≡ take i text ++ get_or text i 0 ∷ s
longer text i s h = ap (λ (x : List ℕ). x ++ s) (take_more text i 0 h) ∙ append_assoc (take i text) (get_or text i 0 ∷ []) s

pub one_more : (text : List ℕ) (i : ℕ) (m r : Mode) (nest inner : List Enclosure) → i < length text → Reached text i m nest → LeadsOn m nest (get_or text i 0) r inner → Reached text (i + 1) r inner
one_more text i m r nest inner lt h l = record {
  only = λ s v. l.only s (h.only (get_or text i 0 ∷ s) (subst IsValueText (longer text i s lt) v));
  sound = λ s v. subst IsValueText (sym (longer text i s lt)) (h.sound (get_or text i 0 ∷ s) (l.sound s v));
}

some_text : (text : List ℕ) (i : ℕ) (m : Mode) (nest : List Enclosure) → Reached text i m nest → (s : List ℕ) × IsValueText (take i text ++ s)
some_text text i m nest h = let g = goes_on m nest in (g.0, h.sound g.0 g.1)

take_drop : (text : List ℕ) (i : ℕ) → take i text ++ drop i text ≡ text
take_drop [] zero = refl
take_drop [] (suc i) = refl
take_drop (x ∷ text) zero = refl
take_drop (x ∷ text) (suc i) = ap (λ (y : List ℕ). x ∷ y) (take_drop text i)

pub bad_byte : (text : List ℕ) (i : ℕ) (m : Mode) (nest : List Enclosure) → i < length text → Reached text i m nest → Refuses m nest (get_or text i 0) → FirstBad text i
bad_byte text i m nest lt h r = record {
  within = omega (arith, lt);
  before = some_text text i m nest h;
  after = λ _ s v. none s v;
  whole = λ v. none (drop (i + 1) text) (subst IsValueText (sym (take_drop text (i + 1))) v);
}
  where
    none : (s : List ℕ) → IsValueText (take (i + 1) text ++ s) → ⊥
    none s v = r s (h.only (get_or text i 0 ∷ s) (subst IsValueText (longer text i s lt) v))

whole_text : (text : List ℕ) (i : ℕ) → length text ≤ i → take i text ++ [] ≡ text
whole_text [] zero h = refl
whole_text [] (suc i) h = refl
whole_text (x ∷ text) zero h = absurd (omega (arith, h))
whole_text (x ∷ text) (suc i) h = ap (λ (y : List ℕ). x ∷ y) (whole_text text i (omega (arith, h)))

pub is_text : (text : List ℕ) (i : ℕ) (m : Mode) (nest : List Enclosure) → length text ≤ i → Reached text i m nest → is_closed nest ≡ true → may_end m ≡ true → IsValueText text
is_text text i m nest le h e f = subst IsValueText (whole_text text i le) (h.sound [] (subst (λ (x : List Enclosure). Rest m x []) (sym (closed nest e)) (ends_sound m f)))
  where
    closed : (nest : List Enclosure) → is_closed nest ≡ true → nest ≡ []
    closed [] e = refl
    closed (a ∷ nest) e = absurd cc

pub cut_short : (text : List ℕ) (i : ℕ) (m : Mode) (nest : List Enclosure) → i ≡ length text → Reached text i m nest → ((is_closed nest ≡ true) → (may_end m ≡ true) → ⊥) → FirstBad text (length text)
cut_short text i m nest e h never = record {
  within = omega arith;
  before = subst (λ (k : ℕ). (s : List ℕ) × IsValueText (take k text ++ s)) e (some_text text i m nest h);
  after = λ lt. absurd (omega (arith, lt));
  whole = λ v. let p = ends_only m nest (h.only [] (subst IsValueText (sym (whole_text text i (omega (arith, e)))) v)) in never p.0 p.1;
}
