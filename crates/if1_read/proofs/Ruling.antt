-- What is known of a unit rules as its types and functions say.
use Rattle.std.proofs.Common.{◌≡◌, ℕ, Bool, true, false, List, Option, Some, None, if◌then◌else◌, refl, sym, ap, ◌∙◌, true≢false}
use Rattle.std.specs.Prelude.{is_some}
use Rattle.if1_graph.specs.declared.graph.TypeEntry.{TypeEntry}
use Rattle.if1_graph.specs.Types.{entry_at}
use Rattle.if1_graph.specs.Formed.{IsType, HasReal}
use Rattle.if1_read.specs.declared.fault.Kind.{Kind}
use Rattle.if1_read.specs.declared.fault.Kind.TheVariants.{Unknown, Real}
use Rattle.if1_read.specs.declared.judge.Known.{Known}
use Rattle.if1_read.specs.declared.table.Table.{Table}
use Rattle.if1_read.specs.Faults.{want_of}
use Rattle.if1_read.specs.Known.{IsTableSound}
use Rattle.if1_read.specs.Marks.{is_marked}
use Rattle.if1_read.specs.Pages.{Lit}
use Rattle.if1_read.specs.Ruled.{TypeSays, ImportSays, IsLitWrong, AreRules}
use Rattle.if1_read.specs.Rulings.{type_absent, type_wrong, lit_fault, rules_of}
use Rattle.if1_read.proofs.Marking.{marked}

module _ (t : Table) (sound : IsTableSound t) (exact : (l : ℕ) → is_marked t.types t.reals l ≡ true → HasReal t.types l) where
  not_real : (l : ℕ) → is_marked t.types t.reals l ≡ false → ¬ HasReal t.types l
  not_real l e r = true≢false (sym (marked t.types t.reals sound.marks l r) ∙ e)

  says_if : (l : ℕ) (b m : Bool) → is_some (entry_at t.types l) ≡ b → is_marked t.types t.reals l ≡ m → TypeSays t.types l (if b then (if m then Some Real else None) else Some Unknown)
  says_if l true true e h = exact l h
  says_if l true false e h = (e, not_real l h)
  says_if l false m e h = λ there. true≢false (sym there ∙ e)

  type_says : (l : ℕ) → TypeSays t.types l (type_wrong t l)
  type_says l = says_if l (is_some (entry_at t.types l)) (is_marked t.types t.reals l) refl refl

  import_if : (l : ℕ) (b : Bool) → is_some (entry_at t.types l) ≡ b → ImportSays t.types l (if b then None else Some Unknown)
  import_if l true e = e
  import_if l false e = λ h. true≢false (sym h ∙ e)

  import_says : (l : ℕ) → ImportSays t.types l (type_absent t l)
  import_says l = import_if l (is_some (entry_at t.types l)) refl

  wrong_if : (names : List (List ℕ)) (ns : List (ℕ × ℕ)) (l : Lit) (k : Kind) (m : Bool) (p : Option TypeEntry) → is_marked t.types t.reals l.ty ≡ m → entry_at t.types l.ty ≡ p →
      (if m then None else lit_fault names (want_of ns l.node l.port) l.text p) ≡ Some k → IsLitWrong t.types names ns l k
  wrong_if names ns l k true p e f h = absurd cc
  wrong_if names ns l k false None e f h = absurd cc
  wrong_if names ns l k false (Some en) e f h = record { entry = en; found = f; free = not_real l.ty e; wrong = h }

  right_if : (names : List (List ℕ)) (ns : List (ℕ × ℕ)) (l : Lit) (k : Kind) (m : Bool) → is_marked t.types t.reals l.ty ≡ m → (w : IsLitWrong t.types names ns l k) →
      (if m then None else lit_fault names (want_of ns l.node l.port) l.text (Some w.entry)) ≡ Some k
  right_if names ns l k true e w = absurd (w.free (exact l.ty e))
  right_if names ns l k false e w = w.wrong

-- with marks exactly where reals are held
pub rulings : (k : Known) → IsTableSound k.table → ((l : ℕ) → is_marked k.table.types k.table.reals l ≡ true → HasReal k.table.types l) → AreRules k.table.types k.names (rules_of k)
rulings k sound exact = record {
  on_types = type_says k.table sound exact;
  on_imports = import_says k.table sound exact;
  lits = λ ns l j e. wrong_if k.table sound exact k.names ns l j (is_marked k.table.types k.table.reals l.ty) (entry_at k.table.types l.ty) refl refl e;
  lits_all = λ ns l j w.
      ap (λ (o : Option TypeEntry). if is_marked k.table.types k.table.reals l.ty then None else lit_fault k.names (want_of ns l.node l.port) l.text o) w.found
      ∙ right_if k.table sound exact k.names ns l j (is_marked k.table.types k.table.reals l.ty) refl w;
}
