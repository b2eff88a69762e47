-- Names that stand twice in a list.
use Rattle.std.proofs.Common.{◌≡◌, ◌⊎◌, inl, inr, ℕ, zero, suc, List, [], ◌∷◌, ◌++◌, Option, Some, None, get_or, slice_get, refl, sym, ap, subst, ◌∙◌, arith}
use Rattle.std.specs.Prelude.{Contains, if◌then◌else◌, Bool, true, false, nat_eq}
use Rattle.std.proofs.lemmas.Bool.{eqb-true}
use Rattle.std.proofs.lemmas.List.{append_assoc, map-append}
use Rattle.std.proofs.lemmas.List.Elements.{Contains-append_left, Contains-append_right}
use Rattle.std.proofs.lemmas.Option.{same_Some, slice_get_within, slice_get-get_or}
use Rattle.std.proofs.lemmas.Grind.{flat_map-append}
use Rattle.name_scope.specs.Newest.{newest}
use Rattle.sisal_tree.specs.declared.unit.Named.{Named}
use Rattle.sisal_tree.specs.declared.expr.Def.{Def, out-Def}
use Rattle.typed_tree.specs.Breaks as breaks
use Rattle.typed_tree.specs.Breaks.{IsTwice, twice, later, named_in}
use Rattle.value_names.specs.Scopes.{twice_if, twice_onto}
use Rattle.typing_laws.specs.Defining.{named_targets, targets_in}
use Rattle.breaking_laws.specs.PartLaws.{TwiceLaw}
use Rattle.breaking_laws.proofs.FTables.{contains_first}

-- ---- elements

pub contains_cases : {A : Type 0} (x : A) (xs : List A) (y : A) → Contains (x ∷ xs) y → (x ≡ y) ⊎ Contains xs y
contains_cases x xs y (zero, lt, e) = inl e
contains_cases x xs y (suc i, lt, e) = inr (i, omega (arith, lt), e)

pub contains_none : {A : Type 0} (y : A) → Contains [] y → ⊥
contains_none y c = let n = c.1 in omega (arith, n)

pub contains_only : {A : Type 0} (x y : A) → Contains (x ∷ []) y → x ≡ y
contains_only x y c = elim (contains_cases x [] y c) [ inl e ↦ e | inr d ↦ absurd (contains_none y d) ]

pub contains_at : {A : Type 0} (xs : List A) (i : ℕ) (x : A) → slice_get xs i ≡ Some x → Contains xs x
contains_at xs i x e = let lt = slice_get_within xs i x e in (i, lt, same_Some (get_or xs i x) x (sym (slice_get-get_or xs i x lt) ∙ e))

-- ---- names that stand twice

pub twice_more : (ns ms : List Named) (line : ℕ) → IsTwice ns line → IsTwice (ns ++ ms) line
twice_more _ ms _ (twice {m = m} {ns = ns} c e) = twice (Contains-append_left ns ms m c) e
twice_more _ ms line (later {ns = ns} p) = later (twice_more ns ms line p)

pub twice_behind : (ms ns : List Named) (line : ℕ) → IsTwice ns line → IsTwice (ms ++ ns) line
twice_behind [] ns line p = p
twice_behind (m ∷ ms) ns line p = later (twice_behind ms ns line p)

pub twice_within : (before : List Named) (m n : Named) (ns : List Named) → Contains before m → m.name ≡ n.name → IsTwice (before ++ (n ∷ ns)) n.line
twice_within [] m n ns c e = absurd (contains_none m c)
twice_within (b ∷ before) m n ns c e = elim (contains_cases b before m c) [
  | inl same ↦ twice (Contains-append_right before (n ∷ ns) n (contains_first n ns)) (ap (λ x. x.name) same ∙ e)
  | inr c ↦ later (twice_within before m n ns c e)
]

-- names that were seen are among those before
abbrev AreSeen : List Named → List (ℕ × Unit {0}) → Type 0
AreSeen before seen = (x : ℕ) (u : Unit {0}) → newest x seen ≡ Some u → (m : Named) × Contains before m × (m.name ≡ x)

seen_more : (before : List Named) (seen : List (ℕ × Unit {0})) (n : Named) → AreSeen before seen → AreSeen (before ++ (n ∷ [])) ((n.name, tt) ∷ seen)
seen_more before seen n p = λ x u e. by x u (nat_eq x n.name) refl e
  where
    by : (x : ℕ) (u : Unit {0}) (b : Bool) → nat_eq x n.name ≡ b → (if b then Some tt else newest x seen) ≡ Some u → (m : Named) × Contains (before ++ (n ∷ [])) m × (m.name ≡ x)
    by x u true t e = (n, Contains-append_right before (n ∷ []) n (contains_first n []), sym (eqb-true x n.name t))
    by x u false t e = let r = p x u e in (r.0, Contains-append_left before (n ∷ []) r.0 r.1, r.2)

twice_sound : (before : List Named) (seen : List (ℕ × Unit {0})) (ns : List Named) (line : ℕ) → AreSeen before seen → twice_onto seen ns ≡ Some line → IsTwice (before ++ ns) line
twice_sound before seen [] line p e = absurd cc
twice_sound before seen (n ∷ ns) line p e =
    by (newest n.name seen) refl (λ later. subst (λ l. IsTwice l line) (append_assoc before (n ∷ []) ns) (twice_sound (before ++ (n ∷ [])) ((n.name, tt) ∷ seen) ns line (seen_more before seen n p) later)) e
  where
    by : (o : Option (Unit {0})) → newest n.name seen ≡ o → (twice_onto ((n.name, tt) ∷ seen) ns ≡ Some line → IsTwice (before ++ (n ∷ ns)) line)
        → twice_if o n.line (twice_onto ((n.name, tt) ∷ seen) ns) ≡ Some line → IsTwice (before ++ (n ∷ ns)) line
    by None here rest e = rest e
    by (Some u) here rest e = let r = p n.name u here in subst (λ l. IsTwice (before ++ (n ∷ ns)) l) (same_Some n.line line e) (twice_within before r.0 n ns r.1 r.2)

pub stands_twice : TwiceLaw
stands_twice ns line e = record { is_rule = refl; twice = twice_sound [] [] ns line (λ x u e. absurd cc) e }

-- ---- targets

pub targets_named : (ds : List Def) → targets_in ds ≡ named_in (breaks.targets_in ds)
targets_named [] = refl
targets_named (d ∷ ds) =
    ap (λ l. named_targets (out-Def d).targets ++ l) (targets_named ds) ∙ sym (map-append (λ x. x.name) (out-Def d).targets (breaks.targets_in ds))

pub targets_more : (ds es : List Def) → named_in (breaks.targets_in (ds ++ es)) ≡ named_in (breaks.targets_in ds) ++ named_in (breaks.targets_in es)
targets_more ds es =
    ap named_in (flat_map-append (λ d. (out-Def d).targets) ds es) ∙ map-append (λ x. x.name) (breaks.targets_in ds) (breaks.targets_in es)
