-- Labels that stand a second time, and the other faults of a graph that ends.
use Rattle.std.proofs.Common.{◌≡◌, ℕ, Bool, true, false, ◌||◌, List, [], ◌∷◌, ◌++◌, map, Option, Some, None, ◌⊎◌, inl, inr, if◌then◌else◌, refl, sym, ap, subst, ◌∙◌}
use Rattle.std.specs.Prelude.{◌==◌, Contains}
use Rattle.std.specs.List.{list_any}
use Rattle.std.proofs.lemmas.Bool.{eq-eqb}
use Rattle.std.proofs.lemmas.Bool.Decides.{eqb_tells}
use Rattle.if1_read.specs.declared.fault.Kind.{Kind}
use Rattle.if1_read.specs.declared.fault.Kind.TheVariants.{Bad}
use Rattle.if1_read.specs.declared.fault.Fault.{Fault}
use Rattle.if1_read.specs.Faults.{with_some}
use Rattle.if1_read.specs.Least.{found, noted}
use Rattle.if1_read.specs.Pages.{Lit, Rules, is_among, again, wrong_lits}
use Rattle.if1_read.proofs.Same.{contains_here, contains_later, contains_cases, contains_none}

-- ---- elements

or_right : (a : Bool) → (a || true) ≡ true
or_right true = refl
or_right false = refl

pub among_has : (l : ℕ) (ls : List ℕ) → Contains ls l → is_among l ls ≡ true
among_has l [] c = absurd (contains_none l c)
among_has l (m ∷ ls) c = elim (contains_cases m ls l c) [
  | inl e ↦ ap (λ b. b || is_among l ls) (eq-eqb m l e)
  | inr d ↦ ap (λ b. (m == l) || b) (among_has l ls d) ∙ or_right (m == l)
]

pub among_contains : (l : ℕ) (ls : List ℕ) → is_among l ls ≡ true → Contains ls l
among_contains l [] e = absurd cc
among_contains l (m ∷ ls) e = elim (eqb_tells m l) [
  | inl t ↦ subst (λ (x : ℕ). Contains (m ∷ ls) x) t.1 (contains_here m ls)
  | inr t ↦ contains_later m ls l (among_contains l ls (sym (ap (λ b. b || is_among l ls) t.0) ∙ e))
]

-- ---- repeats

abbrev pub bad_at : ℕ → Fault
bad_at n = record { line = n; kind = Bad }

module _ {A : Type 0} (f : A → ℕ) where
  abbrev pub labels : List (ℕ × A) → List ℕ
  labels xs = map (λ x. f x.1) xs

  pub record Repeats (seen : List ℕ) (xs : List (ℕ × A)) (e : Fault) : Type 0 where
    pub front : List (ℕ × A)
    pub item : ℕ × A
    pub back : List (ℕ × A)
    pub is : xs ≡ front ++ item ∷ back
    pub fault : e ≡ bad_at item.0
    pub label : Contains seen (f item.1) ⊎ Contains (labels front) (f item.1)

  later_same : (seen : List ℕ) (x : ℕ × A) (xs : List (ℕ × A)) (e : Fault) → Repeats seen xs e → Repeats seen (x ∷ xs) e
  later_same seen x xs e r = record {
    front = x ∷ r.front;
    item = r.item;
    back = r.back;
    is = ap (λ zs. x ∷ zs) r.is;
    fault = r.fault;
    label = elim r.label [ inl c ↦ inl c | inr c ↦ inr (contains_later (f x.1) (labels r.front) (f r.item.1) c) ];
  }

  later_seen : (seen : List ℕ) (x : ℕ × A) (xs : List (ℕ × A)) (e : Fault) → Repeats (f x.1 ∷ seen) xs e → Repeats seen (x ∷ xs) e
  later_seen seen x xs e r = record {
    front = x ∷ r.front;
    item = r.item;
    back = r.back;
    is = ap (λ zs. x ∷ zs) r.is;
    fault = r.fault;
    label =
        elim r.label [
          | inl c ↦ elim (contains_cases (f x.1) seen (f r.item.1) c) [
            | inl s ↦ inr (subst (λ (l : ℕ). Contains (labels (x ∷ r.front)) l) s (contains_here (f x.1) (labels r.front)))
            | inr d ↦ inl d
          ]
          | inr c ↦ inr (contains_later (f x.1) (labels r.front) (f r.item.1) c)
        ];
  }

  again_if : (b : Bool) (seen : List ℕ) (x : ℕ × A) (xs : List (ℕ × A)) (e : Fault) → is_among (f x.1) seen ≡ b →
      ((ls : List ℕ) → Contains (again f ls xs) e → Repeats ls xs e) →
      Contains (if b then bad_at x.0 ∷ again f seen xs else again f (f x.1 ∷ seen) xs) e → Repeats seen (x ∷ xs) e
  again_if true seen x xs e is ih c = elim (contains_cases (bad_at x.0) (again f seen xs) e c) [
    | inl s ↦ record { front = []; item = x; back = xs; is = refl; fault = sym s; label = inl (among_contains (f x.1) seen is) }
    | inr d ↦ later_same seen x xs e (ih seen d)
  ]
  again_if false seen x xs e is ih c = later_seen seen x xs e (ih (f x.1 ∷ seen) c)

  pub repeats : (seen : List ℕ) (xs : List (ℕ × A)) (e : Fault) → Contains (again f seen xs) e → Repeats seen xs e
  repeats seen [] e c = absurd (contains_none e c)
  repeats seen (x ∷ xs) e c = again_if (is_among (f x.1) seen) seen x xs e refl (λ ls d. repeats ls xs e d) c

  has_if : (b : Bool) (seen : List ℕ) (x : ℕ × A) (xs : List (ℕ × A)) (e : Fault) → is_among (f x.1) seen ≡ b →
      Contains (again f seen xs) e → Contains (again f (f x.1 ∷ seen) xs) e → Contains (if b then bad_at x.0 ∷ again f seen xs else again f (f x.1 ∷ seen) xs) e
  has_if true seen x xs e is c d = contains_later (bad_at x.0) (again f seen xs) e c
  has_if false seen x xs e is c d = d

  pub repeated : (front : List (ℕ × A)) (item : ℕ × A) (back : List (ℕ × A)) (seen : List ℕ) → Contains seen (f item.1) ⊎ Contains (labels front) (f item.1) →
      Contains (again f seen (front ++ item ∷ back)) (bad_at item.0)
  repeated [] item back seen (inl c) =
      subst (λ (b : Bool). Contains (if b then bad_at item.0 ∷ again f seen back else again f (f item.1 ∷ seen) back) (bad_at item.0)) (sym (among_has (f item.1) seen c))
      (contains_here (bad_at item.0) (again f seen back))
  repeated [] item back seen (inr c) = absurd (contains_none (f item.1) c)
  repeated (y ∷ front) item back seen h =
      let rest = front ++ item ∷ back in
      let seen_more : Contains (f y.1 ∷ seen) (f item.1) ⊎ Contains (labels front) (f item.1) = elim h [
        | inl c ↦ inl (contains_later (f y.1) seen (f item.1) c)
        | inr c ↦ elim (contains_cases (f y.1) (labels front) (f item.1) c) [
          | inl s ↦ inl (subst (λ (l : ℕ). Contains (f y.1 ∷ seen) l) s (contains_here (f y.1) seen))
          | inr d ↦ inr d
        ]
      ] in
      seen_if (is_among (f y.1) seen) y front item back seen refl h (repeated front item back (f y.1 ∷ seen) seen_more) (λ g. repeated front item back seen g)
    where
      seen_if : (b : Bool) (y : ℕ × A) (front : List (ℕ × A)) (item : ℕ × A) (back : List (ℕ × A)) (seen : List ℕ) → is_among (f y.1) seen ≡ b →
          Contains seen (f item.1) ⊎ Contains (labels (y ∷ front)) (f item.1) → Contains (again f (f y.1 ∷ seen) (front ++ item ∷ back)) (bad_at item.0) →
          (Contains seen (f item.1) ⊎ Contains (labels front) (f item.1) → Contains (again f seen (front ++ item ∷ back)) (bad_at item.0)) →
          Contains (if b then bad_at y.0 ∷ again f seen (front ++ item ∷ back) else again f (f y.1 ∷ seen) (front ++ item ∷ back)) (bad_at item.0)
      seen_if true y front item back seen is h c ih =
          let g : Contains seen (f item.1) ⊎ Contains (labels front) (f item.1) = elim h [
            | inl d ↦ inl d
            | inr d ↦ elim (contains_cases (f y.1) (labels front) (f item.1) d) [
              | inl s ↦ inl (subst (λ (l : ℕ). Contains seen l) s (among_contains (f y.1) seen is))
              | inr e ↦ inr e
            ]
          ] in
          contains_later (bad_at y.0) (again f seen (front ++ item ∷ back)) (bad_at item.0) (ih g)
      seen_if false y front item back seen is h c ih = c

-- ---- literals, and what is noted of a line

pub record WrongLit (r : Rules) (ns : List (ℕ × ℕ)) (xs : List (ℕ × Lit)) (e : Fault) : Type 0 where
  pub item : ℕ × Lit
  pub among : Contains xs item
  pub wrong : r.lit_wrong ns item.1 ≡ Some e.kind
  pub at : e.line ≡ item.0

found_cases : (n : ℕ) (o : Option Kind) (fs : List Fault) (e : Fault) → Contains (with_some (found n o) fs) e → ((o ≡ Some e.kind) × (e.line ≡ n)) ⊎ Contains fs e
found_cases n None fs e c = inr c
found_cases n (Some k) fs e c = elim (contains_cases (record { line = n; kind = k }) fs e c) [
  | inl s ↦ inl (ap (λ (x : Fault). Some x.kind) s, sym (ap (λ (x : Fault). x.line) s))
  | inr d ↦ inr d
]

pub wrong_lit : (r : Rules) (ns : List (ℕ × ℕ)) (xs : List (ℕ × Lit)) (e : Fault) → Contains (wrong_lits r ns xs) e → WrongLit r ns xs e
wrong_lit r ns [] e c = absurd (contains_none e c)
wrong_lit r ns (x ∷ xs) e c = elim (found_cases x.0 (r.lit_wrong ns x.1) (wrong_lits r ns xs) e c) [
  | inl h ↦ record { item = x; among = contains_here x xs; wrong = h.0; at = h.1 }
  | inr d ↦ let s = wrong_lit r ns xs e d in record { item = s.item; among = contains_later x xs s.item s.among; wrong = s.wrong; at = s.at }
]

later_found : (n : ℕ) (o : Option Kind) (fs : List Fault) (e : Fault) → Contains fs e → Contains (with_some (found n o) fs) e
later_found n None fs e c = c
later_found n (Some k) fs e c = contains_later (record { line = n; kind = k }) fs e c

pub lit_wrongly : (r : Rules) (ns : List (ℕ × ℕ)) (xs : List (ℕ × Lit)) (x : ℕ × Lit) (k : Kind) → Contains xs x → r.lit_wrong ns x.1 ≡ Some k →
    Contains (wrong_lits r ns xs) (record { line = x.0; kind = k })
lit_wrongly r ns [] x k c e = absurd (contains_none x c)
lit_wrongly r ns (y ∷ xs) x k c e = elim (contains_cases y xs x c) [
  | inl s ↦
      let here : r.lit_wrong ns y.1 ≡ Some k = ap (λ (z : ℕ × Lit). r.lit_wrong ns z.1) s ∙ e in
      let f : Fault = record { line = y.0; kind = k } in
      let at : f ≡ record { line = x.0; kind = k } = ap (λ (z : ℕ × Lit). record { line = z.0; kind = k }) s in
      subst (λ (g : Fault). Contains (wrong_lits r ns (y ∷ xs)) g) at
      (subst (λ (o : Option Kind). Contains (with_some (found y.0 o) (wrong_lits r ns xs)) f) (sym here) (contains_here f (wrong_lits r ns xs)))
  | inr d ↦ later_found y.0 (r.lit_wrong ns y.1) (wrong_lits r ns xs) (record { line = x.0; kind = k }) (lit_wrongly r ns xs x k d e)
]

pub noted_is : (n : ℕ) (o : Option Kind) (e : Fault) → Contains (noted n o) e → (o ≡ Some e.kind) × (e.line ≡ n)
noted_is n None e c = absurd (contains_none e c)
noted_is n (Some k) e c = elim (contains_cases (record { line = n; kind = k }) [] e c) [
  | inl s ↦ (ap (λ (x : Fault). Some x.kind) s, sym (ap (λ (x : Fault). x.line) s))
  | inr d ↦ absurd (contains_none e d)
]

pub noted_has : (n : ℕ) (o : Option Kind) (k : Kind) → o ≡ Some k → Contains (noted n o) (record { line = n; kind = k })
noted_has n o k e = subst (λ (o : Option Kind). Contains (noted n o) (record { line = n; kind = k })) (sym e) (contains_here (record { line = n; kind = k }) [])
