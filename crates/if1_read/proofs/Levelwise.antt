-- The graphs of levels that end, one after another from the unit inwards.
use Rattle.std.proofs.Common.{◌≡◌, ℕ, Bool, true, false, List, [], ◌∷◌, ◌++◌, map, reverse, length, Option, Some, None, inl, inr, refl, sym, ap, ◌∙◌}
use Rattle.std.specs.Prelude.{Contains, ◌==◌}
use Rattle.std.proofs.lemmas.Bool.{eqb-true, eqb-false}
use Rattle.std.specs.List.{flat_map}
use Rattle.std.proofs.lemmas.List.{reverse-append, nil_from_length}
use Rattle.std.proofs.lemmas.List.Elements.{Contains-append_left, Contains-append_right, Contains-append_cases}
use Rattle.if1_read.specs.declared.fault.Fault.{Fault}
use Rattle.if1_read.specs.declared.judge.Known.{Known}
use Rattle.if1_read.specs.declared.level.Level.{Level}
use Rattle.if1_read.specs.declared.machine.Machine.{Machine}
use Rattle.if1_read.specs.Known.{IsTableSound}
use Rattle.if1_read.specs.Least.{earlier, least}
use Rattle.if1_read.specs.Pages.{Rules, sheet_faults}
use Rattle.if1_read.specs.Rulings.{rules_of}
use Rattle.if1_read.specs.Sheets.{sheet_of, sheets_around}
use Rattle.if1_read.specs.Whole.{named_at_end}
use Rattle.if1_read.proofs.Firsts.{same_least, first_then}

turned : (fs gs : List Fault) (f : Fault) → Contains (fs ++ gs) f → Contains (gs ++ fs) f
turned fs gs f c = elim (Contains-append_cases fs gs f c) [
  | inl d ↦ Contains-append_right gs fs f d
  | inr d ↦ Contains-append_left gs fs f d
]

either_first : (fs gs : List Fault) → least (fs ++ gs) ≡ least (gs ++ fs)
either_first fs gs = same_least (fs ++ gs) (gs ++ fs) (turned fs gs) (turned gs fs)

around_more : (ls : List Level) (l : Level) → sheets_around (ls ++ l ∷ []) ≡ sheet_of l ∷ sheets_around ls
around_more ls l = ap (map sheet_of) (reverse-append ls (l ∷ []))

abbrev pub around_faults : Rules → List Level → List Fault
around_faults r ls = flat_map (sheet_faults r) (sheets_around ls)

level_more : (r : Rules) (ls : List Level) (l : Level) → least (around_faults r ls ++ sheet_faults r (sheet_of l)) ≡ least (around_faults r (ls ++ l ∷ []))
level_more r ls l = either_first (around_faults r ls) (sheet_faults r (sheet_of l)) ∙ ap (λ ss. least (flat_map (sheet_faults r) ss)) (sym (around_more ls l))

-- what is named when these levels have ended
pub record HaveEnded (k : Known) (ls : List Level) (before after : Option Fault) : Type 0 where
  pub clean : after ≡ None → before ≡ None
  pub found : IsTableSound k.table → after ≡ earlier before (least (around_faults (rules_of k) ls))

pub one_more : (k : Known) (ls : List Level) (l : Level) (before first after : Option Fault) → HaveEnded k ls before first → (after ≡ None → first ≡ None) →
    (IsTableSound k.table → after ≡ earlier first (least (sheet_faults (rules_of k) (sheet_of l)))) → HaveEnded k (ls ++ l ∷ []) before after
one_more k ls l before first after h clean found = record {
  clean = λ none. h.clean (clean none);
  found = λ sound.
      let r = rules_of k in
      found sound
      ∙ (ap (λ (o : Option Fault). earlier o (least (sheet_faults r (sheet_of l)))) (h.found sound)
      ∙ (first_then before (around_faults r ls) (sheet_faults r (sheet_of l)) ∙ ap (earlier before) (level_more r ls l)));
}

-- what is named when the graphs of all levels have ended
pub all_named : (k : Known) (m : Machine) (first after : Option Fault) → first ≡ earlier m.first (least (sheet_faults (rules_of k) (sheet_of m.level))) →
    after ≡ earlier first (least (around_faults (rules_of k) m.outer.items)) → named_at_end k m ≡ after
all_named k m first after level around =
    let r = rules_of k in
    sym (around ∙ (ap (λ (o : Option Fault). earlier o (least (around_faults r m.outer.items))) level ∙ first_then m.first (sheet_faults r (sheet_of m.level)) (around_faults r m.outer.items)))

pub no_some : (o : Option Fault) → ((f : Fault) → o ≡ Some f → ⊥) → o ≡ None
no_some None h = refl
no_some (Some f) h = absurd (h f refl)

pub none_open : {A : Type 0} (xs : List A) (n : ℕ) (b : Bool) → n ≡ length xs → b ≡ (n == 0) → b ≡ true → xs ≡ []
none_open xs n b count is e = nil_from_length xs (sym count ∙ eqb-true n 0 (sym is ∙ e))

pub some_open : {A : Type 0} (xs : List A) (n : ℕ) (b : Bool) → n ≡ length xs → b ≡ (n == 0) → b ≡ false → xs ≡ [] → ⊥
some_open xs n b count is e none = eqb-false n 0 (sym is ∙ e) (count ∙ ap length none)
