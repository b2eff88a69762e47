-- What lines say in a graph, with their numbers.
use Rattle.std.proofs.Common.{◌≡◌, ℕ, suc, ◌<◌, ◌≤◌, Bool, true, false, List, [], ◌∷◌, ◌++◌, map, Option, Some, None, ◌⊎◌, inl, inr, if◌then◌else◌, refl, sym, ap, subst, ◌∙◌, arith}
use Rattle.std.specs.Prelude.{◌==◌, Contains}
use Rattle.std.proofs.lemmas.Bool.{eq-eqb, eqb-true}
use Rattle.std.proofs.lemmas.Bool.Decides.{eqb_tells}
use Rattle.if1_graph.specs.declared.line.Line.{Line}
use Rattle.if1_graph.specs.declared.line.Line.TheVariants as line
use Rattle.if1_read.specs.Faults.{Layer, next, layers_from, home, with_some, told, is_line, own}
use Rattle.if1_read.specs.Rows.{by_line}
use Rattle.if1_read.proofs.Walking.{Lined, some_append}
use Rattle.if1_read.proofs.Same.{contains_cases, contains_none}
use Rattle.if1_read.proofs.Accepted.{Rises, flat, rise}

abbrev pub lined : {A : Type 0} → (Line → List Layer → Option A) → List Layer → List Lined → List (ℕ × A)
lined f os [] = []
lined f os (l ∷ ls) = with_some (by_line l.0 (f l.1 os)) (lined f (next l.0 l.1 os) ls)

pub lined_append : {A : Type 0} (f : Line → List Layer → Option A) (os : List Layer) (xs ys : List Lined) →
    lined f os (xs ++ ys) ≡ lined f os xs ++ lined f (layers_from os xs) ys
lined_append f os [] ys = refl
lined_append f os (x ∷ xs) ys =
    let os2 = next x.0 x.1 os in
    ap (with_some (by_line x.0 (f x.1 os))) (lined_append f os2 xs ys) ∙ some_append (by_line x.0 (f x.1 os)) (lined f os2 xs) (lined f (layers_from os2 xs) ys)

without_line : {A : Type 0} (n : ℕ) (o : Option A) (xs : List (ℕ × A)) (ys : List A) → map (λ x. x.1) xs ≡ ys → map (λ x. x.1) (with_some (by_line n o) xs) ≡ with_some o ys
without_line n None xs ys e = e
without_line n (Some a) xs ys e = ap (λ zs. a ∷ zs) e

pub lined_told : {A : Type 0} (f : Line → List Layer → Option A) (os : List Layer) (xs : List Lined) → map (λ x. x.1) (lined f os xs) ≡ told f os xs
lined_told f os [] = refl
lined_told f os (x ∷ xs) = without_line x.0 (f x.1 os) (lined f (next x.0 x.1 os) xs) (told f (next x.0 x.1 os) xs) (lined_told f (next x.0 x.1 os) xs)

-- ---- one of the lines

pub record Parts {X : Type 0} (xs : List X) (x : X) : Type 0 where
  pub front : List X
  pub back : List X
  pub is : xs ≡ front ++ x ∷ back

pub contains_parts : {X : Type 0} (xs : List X) (x : X) → Contains xs x → Parts xs x
contains_parts [] x h = absurd (contains_none x h)
contains_parts (y ∷ xs) x h = elim (contains_cases y xs x h) [
  | inl e ↦ record { front = []; back = xs; is = ap (λ z. z ∷ xs) e }
  | inr c ↦ let r = contains_parts xs x c in record { front = y ∷ r.front; back = r.back; is = ap (λ zs. y ∷ zs) r.is }
]

-- the line that says the one between these
pub record Says {A : Type 0} (f : Line → List Layer → Option A) (os : List Layer) (ls : List Lined) (front : List (ℕ × A)) (x : ℕ × A) : Type 0 where
  pub before : List Lined
  pub line : Line
  pub after : List Lined
  pub is : ls ≡ before ++ (x.0, line) ∷ after
  pub says : f line (layers_from os before) ≡ Some x.1
  pub earlier : lined f os before ≡ front

module _ {A : Type 0} (f : Line → List Layer → Option A) where
  later : (os : List Layer) (y : Lined) (ls : List Lined) (front : List (ℕ × A)) (x : ℕ × A) (o : Option A) → f y.1 os ≡ o → Says f (next y.0 y.1 os) ls front x →
      Says f os (y ∷ ls) (with_some (by_line y.0 o) front) x
  later os y ls front x o e s = record {
    before = y ∷ s.before;
    line = s.line;
    after = s.after;
    is = ap (λ zs. y ∷ zs) s.is;
    says = s.says;
    earlier = ap (λ o. with_some (by_line y.0 o) (lined f (next y.0 y.1 os) s.before)) e ∙ ap (with_some (by_line y.0 o)) s.earlier;
  }

  this : (os : List Layer) (y : Lined) (ls : List Lined) (x : ℕ × A) (a : A) → f y.1 os ≡ Some a → y.0 ≡ x.0 → a ≡ x.1 → Says f os (y ∷ ls) [] x
  this os y ls x a e n v = record {
    before = [];
    line = y.1;
    after = ls;
    is = ap (λ (m : ℕ). (m, y.1) ∷ ls) n;
    says = e ∙ ap Some v;
    earlier = refl;
  }

  says_if : (y : Lined) (ls : List Lined) (os : List Layer) → ((front : List (ℕ × A)) (x : ℕ × A) (back : List (ℕ × A)) → lined f (next y.0 y.1 os) ls ≡ front ++ x ∷ back → Says f (next y.0 y.1 os) ls front x) →
      (front : List (ℕ × A)) (x : ℕ × A) (back : List (ℕ × A)) (o : Option A) → f y.1 os ≡ o →
      with_some (by_line y.0 o) (lined f (next y.0 y.1 os) ls) ≡ front ++ x ∷ back → Says f os (y ∷ ls) front x
  says_if y ls os ih front x back None e h = later os y ls front x None e (ih front x back h)
  says_if y ls os ih [] x back (Some a) e h = let same : (y.0, a) ≡ x = cc in this os y ls x a e (ap (λ (z : ℕ × A). z.0) same) (ap (λ (z : ℕ × A). z.1) same)
  says_if y ls os ih (z ∷ front) x back (Some a) e h =
      let same : (y.0, a) ≡ z = cc in
      let rest : lined f (next y.0 y.1 os) ls ≡ front ++ x ∷ back = cc in
      subst (λ (w : ℕ × A). Says f os (y ∷ ls) (w ∷ front) x) same (later os y ls front x (Some a) e (ih front x back rest))

  pub says_at : (ls : List Lined) (os : List Layer) (front : List (ℕ × A)) (x : ℕ × A) (back : List (ℕ × A)) → lined f os ls ≡ front ++ x ∷ back → Says f os ls front x
  says_at [] os [] x back e = absurd cc
  says_at [] os (y ∷ front) x back e = absurd cc
  says_at (y ∷ ls) os front x back e = says_if y ls os (λ front x back e. says_at ls (next y.0 y.1 os) front x back e) front x back (f y.1 os) refl e

  pub lined_middle : (os : List Layer) (before : List Lined) (n : ℕ) (l : Line) (after : List Lined) (a : A) → f l (layers_from os before) ≡ Some a →
      lined f os (before ++ (n, l) ∷ after) ≡ lined f os before ++ (n, a) ∷ lined f (next n l (layers_from os before)) after
  lined_middle os before n l after a e =
      lined_append f os before ((n, l) ∷ after)
      ∙ ap (λ o. lined f os before ++ with_some (by_line n o) (lined f (next n l (layers_from os before)) after)) e

-- ---- graphs to which no line belongs

abbrev pub Free : ℕ → List Layer → Type 0
Free h [] = Unit {0}
Free h ((None, c) ∷ os) = Free h os
Free h ((Some g, c) ∷ os) = (g ≡ h → ⊥) × Free h os

abbrev pub NoNumber : ℕ → List Lined → Type 0
NoNumber h [] = Unit {0}
NoNumber h (x ∷ xs) = (x.0 ≡ h → ⊥) × NoNumber h xs

pub not_before : (h lo : ℕ) (xs : List Lined) (hi : ℕ) → h ≤ lo → Rises lo xs hi → NoNumber h xs
not_before h lo xs hi le (flat n) = tt
not_before h lo xs hi le (rise {hi = h2} {ls = rest} n k l lt r) = (λ e. absurd (omega (arith, e, lt, le)), not_before h k rest h2 (omega (arith, lt, le)) r)

free_tail : (h : ℕ) (o : Option ℕ) (c : ℕ) (os : List Layer) → Free h ((o, c) ∷ os) → Free h os
free_tail h None c os f = f
free_tail h (Some g) c os f = f.1

free_here : (h : ℕ) (o : Option ℕ) (c : ℕ) (os : List Layer) → Free h ((o, c) ∷ os) → o ≡ Some h → ⊥
free_here h None c os f e = cc
free_here h (Some g) c os f e = let same : g ≡ h = cc in f.0 same

pub free_home : (h : ℕ) (l : Line) (os : List Layer) → Free h os → home l os ≡ Some h → ⊥
free_home h (line.Node label op before name) (o ∷ os) f e = free_here h o.0 o.1 os f e
free_home h (line.Edge from out node port ty takes name) (o ∷ os) f e = free_here h o.0 o.1 os f e
free_home h (line.Literal node port ty text name) (o ∷ os) f e = free_here h o.0 o.1 os f e
free_home h (line.Close label op count assoc before name) (o ∷ p ∷ os) f e = free_here h p.0 p.1 os (free_tail h o.0 o.1 (p ∷ os) f) e
free_home h l os f e = absurd cc

free_count : (h : ℕ) (o : Option ℕ) (c d : ℕ) (os : List Layer) → Free h ((o, c) ∷ os) → Free h ((o, d) ∷ os)
free_count h None c d os f = f
free_count h (Some g) c d os f = f

pub free_next : (h n : ℕ) (l : Line) (os : List Layer) → (n ≡ h → ⊥) → Free h os → Free h (next n l os)
free_next h n (line.Function exported fun name) (o ∷ []) ne f = (ne, tt)
free_next h n (line.Import ty name) (o ∷ []) ne f = tt
free_next h n (line.Subgraph name) (o ∷ p ∷ os) ne f = (ne, free_tail h o.0 o.1 (p ∷ os) f)
free_next h n (line.Open rest) ((Some g, c) ∷ os) ne f = f
free_next h n (line.Close label op count assoc before name) (o ∷ p ∷ os) ne f = free_tail h o.0 o.1 (p ∷ os) f
free_next h n l os ne f = f

own_none : {A : Type 0} (f : Line → Option A) (h : ℕ) (l : Line) (o : Option ℕ) → (o ≡ Some h → ⊥) → (if is_line h o then f l else None) ≡ None
own_none f h l None ne = refl
own_none f h l (Some g) ne = elim (eqb_tells g h) [ inl e ↦ absurd (ne (ap Some e.1)) | inr e ↦ ap (λ b. if b then f l else None) e.0 ]

pub own_other : {A : Type 0} (f : Line → Option A) (h : ℕ) (l : Line) (os : List Layer) → (home l os ≡ Some h → ⊥) → own f h l os ≡ None
own_other f h l os ne = own_none f h l (home l os) ne

pub own_mine : {A : Type 0} (f : Line → Option A) (h : ℕ) (l : Line) (os : List Layer) → home l os ≡ Some h → own f h l os ≡ f l
own_mine f h l os e = ap (λ o. if is_line h o then f l else None) e ∙ ap (λ b. if b then f l else None) (eq-eqb h h refl)

own_if : {A : Type 0} (f : Line → Option A) (h : ℕ) (l : Line) (a : A) (o : Option ℕ) → (if is_line h o then f l else None) ≡ Some a → (o ≡ Some h) × (f l ≡ Some a)
own_if f h l a None e = absurd cc
own_if f h l a (Some g) e = elim (eqb_tells g h) [
  | inl t ↦ (ap Some t.1, sym (ap (λ b. if b then f l else None) t.0) ∙ e)
  | inr t ↦ let no : None ≡ Some a = sym (ap (λ b. if b then f l else None) t.0) ∙ e in absurd cc
]

pub own_some : {A : Type 0} (f : Line → Option A) (h : ℕ) (l : Line) (os : List Layer) (a : A) → own f h l os ≡ Some a → (home l os ≡ Some h) × (f l ≡ Some a)
own_some f h l os a e = own_if f h l a (home l os) e

pub free_lined : {A : Type 0} (f : Line → Option A) (h : ℕ) (os : List Layer) (xs : List Lined) → Free h os → NoNumber h xs → lined (own f h) os xs ≡ []
free_lined f h os [] free not = refl
free_lined f h os (x ∷ xs) free not =
    ap (λ o. with_some (by_line x.0 o) (lined (own f h) (next x.0 x.1 os) xs)) (own_other f h x.1 os (free_home h x.1 os free))
    ∙ free_lined f h (next x.0 x.1 os) xs (free_next h x.0 x.1 os not.0 free) not.1
