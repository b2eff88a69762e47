-- What one seat's new view leaves as it was.
use Rattle.std.proofs.Common.{◌≡◌, ℕ, ◌<◌, ◌≢◌, List, set, sym, ap, ◌∙◌, subst, ⊎_elim, None, Some}
use mathlib.Core.Option.{some, some-injective}
use lib.ListN.{get_elem?}
use Rattle.atomic_table.specs.Table.{State}
use Rattle.atomic_table.proofs.Lists.{at_set}
use Rattle.fire_lock.specs.declared.view.View.{View}
use Rattle.fire_lock.specs.declared.view.Place.{Place}
use Rattle.fire_lock.specs.Rules.{In, Fits, Kept}
use Rattle.fire_lock.proofs.Lists.{not_none}

module _ {M E R : Type 0} where
  -- each number has one seat
  abbrev pub Single : List (View M E R) → Type 0
  Single vs = (i j n : ℕ) (v w : View M E R) → get_elem? vs i ≡ some v → get_elem? vs j ≡ some w → In v n → In w n → i ≡ j

  -- what held of each seat still does, where one has a new view
  pub seats_stay : (P : ℕ → View M E R → Type 0) (vs : List (View M E R)) (id : ℕ) (w : View M E R) → P id w → ((j : ℕ) (x : View M E R) → j ≢ id → get_elem? vs j ≡ some x → P j x)
      → (j : ℕ) (x : View M E R) → get_elem? (set vs id w) j ≡ some x → P j x
  seats_stay P vs id w mine others j x e = ⊎_elim (λ (t : (j ≡ id) × (w ≡ x)). subst (λ (z : ℕ × View M E R). P z.0 z.1) (λ i. (sym t.0 i, t.1 i)) mine)
      (λ (t : (j ≢ id) × (get_elem? vs j ≡ some x)). others j x t.0 t.1) (at_set vs id j w x e)

  -- numbers of a new view that the old one had still have one seat
  pub single_set : (vs : List (View M E R)) (id : ℕ) (v w : View M E R) → get_elem? vs id ≡ some v → ((n : ℕ) → In w n → In v n) → Single vs → Single (set vs id w)
  single_set vs id v w at less one i j n x y a b p q = let f = back i x a p in let g = back j y b q in one i j n f.0 g.0 f.1 g.1 f.2 g.2
    where
      back : (i : ℕ) (x : View M E R) → get_elem? (set vs id w) i ≡ some x → In x n → (x' : View M E R) × (get_elem? vs i ≡ some x') × In x' n
      back i x e = seats_stay (λ i x. In x n → (x' : View M E R) × (get_elem? vs i ≡ some x') × In x' n) vs id w (λ p. (v, at, less n p)) (λ i x _ e p. (x, e, p)) i x e

  -- a seat that has no turn isn't the holder
  pub holds_not : (starts : M → Type 0) (plays : M → ℕ → E → R → M → Type 0) (passes : ℕ) (origin : M) (s : State (Place M E R) (View M E R)) (b : Kept starts plays passes origin s)
      (id : ℕ) (v : View M E R) → get_elem? s.views id ≡ some v → v.turn ≡ None → b.held ≡ 1 → b.holder ≢ id
  holds_not starts plays passes origin s b id v at off h same = let o = b.owner h in
      not_none v.turn b.now off (ap (λ (y : View M E R). y.turn) (some-injective _ _ (sym at ∙ (ap (get_elem? s.views) (sym same) ∙ o.1))) ∙ o.2)

  -- the rule of a table with the same history, words and slot, and other views
  pub other_views : (starts : M → Type 0) (plays : M → ℕ → E → R → M → Type 0) (passes : ℕ) (origin : M) (s t : State (Place M E R) (View M E R)) (b : Kept starts plays passes origin s)
      → t.words ≡ s.words → t.homes ≡ s.homes
      → (b.held ≡ 1 → (v : View M E R) × (get_elem? t.views b.holder ≡ some v) × (v.turn ≡ Some b.now) × (v.from < v.until))
      → ((j : ℕ) (v : View M E R) → get_elem? t.views j ≡ some v → Fits b.log origin b.now b.held b.holder passes j v)
      → Single t.views → Kept starts plays passes origin t
  other_views starts plays passes origin s t b words homes owner each single = record {
    log = b.log;
    now = b.now;
    held = b.held;
    holder = b.holder;
    counts = b.counts;
    words = words ∙ b.words;
    bit = b.bit;
    began = b.began;
    led = b.led;
    home = λ z. let h = b.home z in (h.0, homes ∙ h.1, h.2);
    owner = owner;
    each = each;
    single = single;
    all = b.all;
  }
