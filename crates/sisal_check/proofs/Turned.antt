-- What a turn sees before its definitions, as the names in force have it.
use Rattle.std.proofs.Common.{◌≡◌, ℕ, ◌+◌, ◌<◌, ◌≤◌, ltb, Bool, true, false, List, [], ◌∷◌, ◌++◌, map, Option, Some, None, refl, sym, ap, subst, ◌∙◌, arith}
use Rattle.std.specs.Prelude.{if◌then◌else◌}
use Rattle.std.proofs.lemmas.Bool.{ltb-true, lt-ltb}
use Rattle.std.proofs.lemmas.List.{append_assoc}
use Rattle.name_scope.specs.Newest.{newest}
use Rattle.sisal_tree.specs.declared.unit.Named.{Named}
use Rattle.value_names.specs.declared.value.Value.{Value}
use Rattle.value_names.specs.declared.value.Meaning.{Meaning}
use Rattle.value_names.specs.declared.value.Meaning.TheVariants.{Later}
use Rattle.value_names.specs.Names.{Names}
use Rattle.value_names.specs.Scopes.{under_old, old_name, not_yet, hidden, hidden_if, loop_value, place_in_loop, place_from}
use Rattle.typing_laws.specs.Turns.{AreBelow, loop_names, later, later_names, in_turn, renewals}
use Rattle.typing_laws.specs.Looping.{IsAround}
use Rattle.breaking_laws.proofs.PDefs.{newest_append, newest_outside, below_newest}
use Rattle.sisal_check.proofs.Defined.{loop_levels}

abbrev with_olds : List (ℕ × Value) → Names → Names
with_olds loop s = record { names = s.names; olds = loop ++ s.olds; height = s.height }

pub under_is : (level : ℕ) (xs : List Named) (ts : List ℕ) (s : Names) → under_old level xs ts s ≡ with_olds (loop_names level xs ts) s
under_is level [] ts s = refl
under_is level (x ∷ xs) [] s = refl
under_is level (x ∷ xs) (t ∷ ts) s =
    under_is (level + 1) xs ts (old_name level x.name t s)
    ∙ ap (λ l. record { names = s.names; olds = l; height = s.height }) (sym (append_assoc (loop_names (level + 1) xs ts) ((x.name, record { level = level; ty = t }) ∷ []) s.olds))

-- what a name of the loop is among all old names
pub loop_is : (first : ℕ) (xs : List Named) (ts : List ℕ) (outer : List (ℕ × Value)) (x : ℕ) → AreBelow first outer → loop_value first (newest x (loop_names first xs ts ++ outer)) ≡ newest x (loop_names first xs ts)
loop_is first xs ts outer x below = by (newest x (loop_names first xs ts)) refl
  where
    kept : (v : Value) (b : Bool) → ltb v.level first ≡ b → first ≤ v.level → (if b then None else Some v) ≡ Some v
    kept v true t le = absurd (let lt = ltb-true v.level first t in omega (arith, lt, le))
    kept v false t le = refl

    gone : (v : Value) (b : Bool) → ltb v.level first ≡ b → v.level < first → (if b then None else Some v) ≡ None
    gone v true t lt = refl
    gone v false t lt = absurd (let truth : true ≡ false = sym (lt-ltb v.level first lt) ∙ t in let no_way : ⊥ = cc in no_way)

    out : (o : Option Value) → newest x outer ≡ o → loop_value first o ≡ None
    out None h = refl
    out (Some v) h = gone v (ltb v.level first) refl (below_newest first x outer v below h)

    by : (o : Option Value) → newest x (loop_names first xs ts) ≡ o → loop_value first (newest x (loop_names first xs ts ++ outer)) ≡ newest x (loop_names first xs ts)
    by (Some v) h =
        ap (loop_value first) (newest_append x (loop_names first xs ts) outer v h) ∙ kept v (ltb v.level first) refl (loop_levels first xs ts x v h) ∙ sym h
    by None h = ap (loop_value first) (newest_outside x (loop_names first xs ts) outer h) ∙ out (newest x outer) refl ∙ sym h

hidden_is : (x : ℕ) (o : Option Value) (s : Names) → hidden_if o x s ≡ record { names = later x o ++ s.names; olds = s.olds; height = s.height }
hidden_is x None s = refl
hidden_is x (Some v) s = refl

pub begun_is : (first : ℕ) (loop_xs : List Named) (ts : List ℕ) (xs : List Named) (s : Names) → AreBelow first s.olds → not_yet first xs (under_old first loop_xs ts s) ≡ in_turn (loop_names first loop_xs ts) xs s
begun_is first loop_xs ts [] s below = under_is first loop_xs ts s
begun_is first loop_xs ts (x ∷ xs) s below =
    let loop : List (ℕ × Value) = loop_names first loop_xs ts in
    ap (hidden first x.name) (begun_is first loop_xs ts xs s below)
    ∙ ap (λ o. hidden_if o x.name (in_turn loop xs s)) (loop_is first loop_xs ts s.olds x.name below)
    ∙ hidden_is x.name (newest x.name loop) (in_turn loop xs s)
    ∙ ap (λ l. record { names = l; olds = loop ++ s.olds; height = s.height }) (sym (append_assoc (later x.name (newest x.name loop)) (later_names loop xs) s.names))

-- names came only on top
above_by : (x : ℕ) (o : Option Value) (s : Names) (old : Names) → IsAround old s → IsAround old (hidden_if o x s)
above_by x None s old p = p
above_by x (Some v) s old p = record { more = (x, Later) ∷ p.more; others = p.others; names = ap (λ l. (x, Later) ∷ l) p.names; olds = p.olds }

pub begun_around : (first : ℕ) (loop_xs : List Named) (ts : List ℕ) (xs : List Named) (s : Names) → IsAround s (not_yet first xs (under_old first loop_xs ts s))
begun_around first loop_xs ts [] s = subst (IsAround s) (sym (under_is first loop_xs ts s)) (record { more = []; others = loop_names first loop_xs ts; names = refl; olds = refl })
begun_around first loop_xs ts (x ∷ xs) s =
    let t : Names = not_yet first xs (under_old first loop_xs ts s) in above_by x.name (loop_value first (newest x.name t.olds)) t s (begun_around first loop_xs ts xs s)

-- no level is taken
height_by : (x : ℕ) (o : Option Value) (s : Names) → (hidden_if o x s).height ≡ s.height
height_by x None s = refl
height_by x (Some v) s = refl

pub begun_height : (first : ℕ) (loop_xs : List Named) (ts : List ℕ) (xs : List Named) (s : Names) → (not_yet first xs (under_old first loop_xs ts s)).height ≡ s.height
begun_height first loop_xs ts [] s = ap (λ t. t.height) (under_is first loop_xs ts s)
begun_height first loop_xs ts (x ∷ xs) s =
    let t : Names = not_yet first xs (under_old first loop_xs ts s) in height_by x.name (loop_value first (newest x.name t.olds)) t ∙ begun_height first loop_xs ts xs s

pub renewed_is : (first : ℕ) (loop_xs : List Named) (ts : List ℕ) (all xs : List Named) (s : Names) → AreBelow first s.olds
    → map (λ t. place_in_loop first t.name (in_turn (loop_names first loop_xs ts) all s)) xs ≡ renewals first (loop_names first loop_xs ts) xs
renewed_is first loop_xs ts all [] s below = refl
renewed_is first loop_xs ts all (x ∷ xs) s below =
    ap (λ o. place_from first o ∷ map (λ t. place_in_loop first t.name (in_turn (loop_names first loop_xs ts) all s)) xs) (loop_is first loop_xs ts s.olds x.name below)
    ∙ ap (λ l. place_from first (newest x.name (loop_names first loop_xs ts)) ∷ l) (renewed_is first loop_xs ts all xs s below)

-- ---- the beginning of a turn

pub begun : (first : ℕ) (loop_xs loop_ys xs ys : List Named) (ts us : List ℕ) (old new : Names) → new ≡ not_yet first ys (under_old first loop_ys us old) → loop_ys ≡ loop_xs → us ≡ ts → ys ≡ xs
    → new ≡ not_yet first xs (under_old first loop_xs ts old)
begun first loop_xs loop_ys xs ys ts us old new e p q r =
    e ∙ ap (λ l. not_yet first ys (under_old first l us old)) p ∙ ap (λ l. not_yet first ys (under_old first loop_xs l old)) q ∙ ap (λ l. not_yet first l (under_old first loop_xs ts old)) r

pub places_are : (first : ℕ) (loop_xs xs ys : List Named) (ts : List ℕ) (old new : Names) (places : List (Option ℕ)) → new ≡ not_yet first xs (under_old first loop_xs ts old) → ys ≡ xs
    → places ≡ map (λ t. place_in_loop first t.name new) ys → AreBelow first old.olds → places ≡ renewals first (loop_names first loop_xs ts) xs
places_are first loop_xs xs ys ts old new places is same e below =
    e ∙ ap (λ s. map (λ t. place_in_loop first t.name s) ys) (is ∙ begun_is first loop_xs ts xs old below) ∙ ap (map (λ t. place_in_loop first t.name (in_turn (loop_names first loop_xs ts) xs old))) same
    ∙ renewed_is first loop_xs ts xs xs old below
