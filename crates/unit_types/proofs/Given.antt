-- The functions that are given by the first items and those of the others.
use Rattle.std.proofs.Common.{◌≡◌, ℕ, ◌+◌, Bool, true, false, not, List, [], ◌∷◌, ◌++◌, drop, length, ◌≤◌, map, cond, refl, sym, ap, subst, ◌∙◌, append_assoc}
use Rattle.std.proofs.lemmas.List.{map-append, append-nil}
use Rattle.std.proofs.lemmas.List.Elements.{All-push}
use Rattle.std.specs.List.{filter}
use Rattle.sisal_tree.specs.declared.expr.Expr.{Expr}
use Rattle.sisal_tree.specs.declared.unit.Header.{Header}
use Rattle.sisal_tree.specs.declared.unit.FunKind.{FunKind}
use Rattle.sisal_tree.specs.declared.unit.FunKind.TheVariants as fun
use Rattle.sisal_tree.specs.declared.unit.FunDef.{FunDef}
use Rattle.sisal_tree.specs.declared.unit.Item.{Item}
use Rattle.sisal_tree.specs.declared.unit.Item.TheVariants as item
use Rattle.typed_tree.specs.Typing.{names_of}
use Rattle.typed_tree.specs.Units.{is_given}
use Rattle.typed_tree.specs.Faults.{functions, given_names}
use Rattle.unit_types.specs.declared.header.Signature.{Signature}
use Rattle.unit_types.specs.Headings.{heading_of, heading_in, has_body, given_as, given_functions, given_by, HaveResults}
use Rattle.unit_types.specs.Headers.{AreGiven}
use Rattle.unit_types.proofs.Places.{map_twice}

pub given_cons : (i : Item) (is : List Item) → given_functions (i ∷ is) ≡ given_by i ++ given_functions is
given_cons (item.Alias d) is = refl
given_cons (item.Function f) is = by (is_given f) (filter is_given (functions is))
  where
    by : (b : Bool) (fs : List FunDef) → cond b (f ∷ fs) fs ≡ cond b (f ∷ []) [] ++ fs
    by true fs = refl
    by false fs = refl

-- those of one item more
pub more_given : {B : Type 0} (f : FunDef → B) (old new whole : List B) (x : Item) (here rest : List Item) → here ≡ x ∷ rest → new ≡ old ++ map f (given_by x)
    → old ++ map f (given_functions here) ≡ whole → new ++ map f (given_functions rest) ≡ whole
more_given f old new whole x here rest e n w =
    ap (λ l. l ++ map f (given_functions rest)) n
    ∙ append_assoc old (map f (given_by x)) (map f (given_functions rest))
    ∙ ap (λ l. old ++ l) (sym (map-append f (given_by x) (given_functions rest)) ∙ ap (map f) (sym (given_cons x rest) ∙ ap given_functions (sym e)))
    ∙ w

-- ---- kinds of functions

-- one function more that has a result
pub results_more : (k : FunKind) (s : Signature) (functions : List Signature) → 1 ≤ length s.results → HaveResults functions → HaveResults (functions ++ given_as k s)
results_more fun.Forward s functions h all = subst HaveResults (sym (append-nil functions)) all
results_more fun.Global s functions h all = All-push (λ s. 1 ≤ length s.results) functions s all h
results_more (fun.Defined es) s functions h all = All-push (λ s. 1 ≤ length s.results) functions s all h

pub given_kind : {A : Type 0} (f : FunDef) (a : A) → given_as f.kind a ≡ a ∷ [] → is_given f ≡ true
given_kind {A} f a e = by f.line f.header f.kind e
  where
    by : (l : ℕ) (h : Header) (k : FunKind) → given_as k a ≡ a ∷ [] → is_given (record { line = l; header = h; kind = k }) ≡ true
    by l h fun.Forward e = absurd cc
    by l h fun.Global e = refl
    by l h (fun.Defined es) e = refl

pub forward_kind : (f : FunDef) → not (is_given f) ≡ true → f.kind ≡ fun.Forward
forward_kind f e = by f.line f.header f.kind e
  where
    by : (l : ℕ) (h : Header) (k : FunKind) → not (is_given (record { line = l; header = h; kind = k })) ≡ true → k ≡ fun.Forward
    by l h fun.Forward e = refl
    by l h fun.Global e = absurd cc
    by l h (fun.Defined es) e = absurd cc

pub defined_given : (f : FunDef) (es : List Expr) → f.kind ≡ fun.Defined es → is_given f ≡ true
defined_given f es e = by f.line f.header f.kind e
  where
    by : (l : ℕ) (h : Header) (k : FunKind) → k ≡ fun.Defined es → is_given (record { line = l; header = h; kind = k }) ≡ true
    by l h fun.Forward e = absurd cc
    by l h fun.Global e = refl
    by l h (fun.Defined ds) e = refl

pub body_of : (k : FunKind) → has_body k ≡ true → (es : List Expr) × (k ≡ fun.Defined es)
body_of fun.Forward e = absurd cc
body_of fun.Global e = absurd cc
body_of (fun.Defined es) e = (es, refl)

-- ---- names of functions that are given

pub names_given : (fs : List FunDef) → names_of (map (λ f. f.header.name) fs) ≡ map (λ f. f.header.name.name) fs
names_given fs = map_twice (λ n. n.name) (λ f. f.header.name) fs

-- by headings
pub names_headed : (ss : List Signature) (fs : List FunDef) → map heading_in ss ≡ map heading_of fs → map (λ s. s.name) ss ≡ map (λ f. f.header.name.name) fs
names_headed ss fs e = sym (map_twice (λ h. h.name) heading_in ss) ∙ ap (map (λ h. h.name)) e ∙ map_twice (λ h. h.name) heading_of fs

pub given_none : (items : List Item) (functions : List Signature) → functions ≡ [] → AreGiven items 0 functions
given_none items functions e = record { before = []; whole = refl; named = sym (ap (map (λ s. s.name)) e) }

names_joined : (old new : List Signature) (fs : List FunDef) → map heading_in new ≡ map heading_in old ++ map heading_of fs → map (λ s. s.name) new ≡ map (λ s. s.name) old ++ map (λ f. f.header.name.name) fs
names_joined old new fs e =
    sym (map_twice (λ h. h.name) heading_in new)
    ∙ ap (map (λ h. h.name)) e
    ∙ map-append (λ h. h.name) (map heading_in old) (map heading_of fs)
    ∙ (λ i. map_twice (λ h. h.name) heading_in old i ++ map_twice (λ h. h.name) heading_of fs i)

pub given_after : (items : List Item) (n : ℕ) (x : Item) (old new : List Signature) → drop n items ≡ x ∷ drop (n + 1) items → map heading_in new ≡ map heading_in old ++ map heading_of (given_by x)
    → AreGiven items n old → AreGiven items (n + 1) new
given_after items n x old new e h g = record {
  before = g.before ++ map (λ f. f.header.name) (given_by x);
  whole = sym (more_given (λ f. f.header.name) g.before (g.before ++ map (λ f. f.header.name) (given_by x)) (given_names items) x (drop n items) (drop (n + 1) items) e refl (sym g.whole));
  named = map-append (λ n. n.name) g.before (map (λ f. f.header.name) (given_by x))
      ∙ (λ i. g.named i ++ names_given (given_by x) i)
      ∙ sym (names_joined old new (given_by x) h);
}
