-- The pass goes by places one after another.
use Rattle.std.proofs.Common.{◌≡◌, ◌∙◌, List, [], ◌∷◌, ◌++◌, map, drop, sym, ap, subst, append-nil, append_assoc}
use Rattle.std.proofs.lemmas.List.{map-append}
use Rattle.std.proofs.lemmas.List.Elements.{Contains-append_left, Contains-append_right}
use Rattle.if1_graph.specs.declared.graph.Unit1.{Unit1}
use Rattle.if1_graph.specs.Units.{Place}
use Rattle.may_take.specs.Looked.{flags_at}
use Rattle.mark_units.specs.declared.begin.Pass.{Pass}
use Rattle.mark_units.specs.declared.note.Note.{Note}
use Rattle.mark_units.specs.Notes.{AreNotes, none, more}
use Rattle.mark_units.specs.Walked.{AllFlags, AreNext, WentBy}

pub notes-append : {u : Unit1} {ps qs : List Place} {ns ms : List Note} → AreNotes u ps ns → AreNotes u qs ms → AreNotes u (ps ++ qs) (ns ++ ms)
notes-append none b = b
notes-append {u} {qs = qs} {ms = ms} (more {p = p} {ps = ps} {ns = xs} {ms = ys} one rest) b =
    subst (AreNotes u (p ∷ (ps ++ qs))) (sym (append_assoc xs ys ms)) (more one (notes-append rest b))

module _ (u : Unit1) (ps qs : List Place) (flags rest : AllFlags) where
  -- the first of them come next, and then the others
  pub first-next : AreNext u (ps ++ qs) flags rest → AreNext u ps flags (map (flags_at u) qs ++ rest)
  first-next n =
      record {
        are = n.are ∙ (ap (λ fs. fs ++ rest) (map-append (flags_at u) ps qs) ∙ append_assoc (map (flags_at u) ps) (map (flags_at u) qs) rest);
        shapes = λ p c. n.shapes p (Contains-append_left ps qs p c);
        markable = λ p c. n.markable p (Contains-append_left ps qs p c);
      }

  pub others-next : AreNext u (ps ++ qs) flags rest → (left : AllFlags) → left ≡ map (flags_at u) qs ++ rest → AreNext u qs left rest
  others-next n left e =
      record {
        are = e;
        shapes = λ p c. n.shapes p (Contains-append_right ps qs p c);
        markable = λ p c. n.markable p (Contains-append_right ps qs p c);
      }

-- what was noted so far, where these places are still to come
pub record HasNoted (u : Unit1) (all to_come : List Place) (old now : Pass) : Type 0 where
  pub added : List Note
  pub notes : now.notes ≡ old.notes ++ added
  pub are : (later : List Note) → AreNotes u to_come later → AreNotes u all (added ++ later)

pub noted-none : (u : Unit1) (ps : List Place) (old : Pass) → HasNoted u ps ps old old
noted-none u ps old = record { added = []; notes = sym (append-nil old.notes); are = λ later h. h }

pub noted-more : {u : Unit1} {all ps qs : List Place} {flags rest : AllFlags} {old now new : Pass} → HasNoted u all (ps ++ qs) old now → WentBy u ps flags rest now new → HasNoted u all qs old new
noted-more {u} {all = all} {old = old} h w =
    record {
      added = h.added ++ w.added;
      notes = w.notes ∙ (ap (λ ns. ns ++ w.added) h.notes ∙ append_assoc old.notes h.added w.added);
      are = λ later l. subst (AreNotes u all) (sym (append_assoc h.added w.added later)) (h.are (w.added ++ later) (notes-append w.are l));
    }

pub noted-all : {u : Unit1} {all : List Place} {flags rest : AllFlags} {old now : Pass} → HasNoted u all [] old now → drop now.at flags ≡ rest → WentBy u all flags rest old now
noted-all {u} {all = all} h left =
    record {
      left = left;
      added = h.added;
      notes = h.notes;
      are = subst (AreNotes u all) (append-nil h.added) (h.are [] none);
    }
