-- Ways are found.
use Rattle.std.proofs.Common.{◌≡◌, ℕ, true, ◌&&◌, List, [], ◌∷◌, Contains, ◌⊎◌, inl, inr, sym, subst}
use Rattle.std.proofs.lemmas.Bool.{or_cases, or_left, or_right, and_parts, and_from}
use Rattle.if1_marks.proofs.Lists.{here-or-there, in-none}
use Rattle.if1_marks.specs.Ways.{Links, Leads, link, on, leads_by}
use Rattle.if1_marks.specs.Laws.{AreWaysFound}

module _ (links : Links) where
  abbrev By : List ℕ → ℕ → ℕ → Type 0
  By ks l m = leads_by links ks l m ≡ true

  abbrev Split : ℕ → List ℕ → ℕ → ℕ → Type 0
  Split k ks l m = By ks l m ⊎ (By ks l k × By ks k m)

  split : (k : ℕ) (ks : List ℕ) (l m : ℕ) → By (k ∷ ks) l m → Split k ks l m
  split k ks l m h =
      elim (or_cases (leads_by links ks l m) (leads_by links ks l k && leads_by links ks k m) h) [
        | inl a ↦ inl a
        | inr b ↦ inr (and_parts (leads_by links ks l k) (leads_by links ks k m) b)
      ]

  straight : (k : ℕ) (ks : List ℕ) (l m : ℕ) → By ks l m → By (k ∷ ks) l m
  straight k ks l m h = or_left (leads_by links ks l m) (leads_by links ks l k && leads_by links ks k m) h

  around : (k : ℕ) (ks : List ℕ) (l m : ℕ) → By ks l k → By ks k m → By (k ∷ ks) l m
  around k ks l m a b = or_right (leads_by links ks l m) (leads_by links ks l k && leads_by links ks k m) (and_from (leads_by links ks l k) (leads_by links ks k m) a b)

  pub by-sound : (ks : List ℕ) (l m : ℕ) → By ks l m → Leads links l m
  by-sound [] l m h = link h
  by-sound (k ∷ ks) l m h =
      elim (split k ks l m h) [
        | inl a ↦ by-sound ks l m a
        | inr b ↦ on (by-sound ks l k b.0) (by-sound ks k m b.1)
      ]

  by-link : (ks : List ℕ) (l m : ℕ) → links l m ≡ true → By ks l m
  by-link [] l m h = h
  by-link (k ∷ ks) l m h = straight k ks l m (by-link ks l m h)

  to-it : (k : ℕ) (ks : List ℕ) (l : ℕ) → Split k ks l k → By ks l k
  to-it k ks l (inl a) = a
  to-it k ks l (inr b) = b.0

  from-it : (k : ℕ) (ks : List ℕ) (m : ℕ) → Split k ks k m → By ks k m
  from-it k ks m (inl a) = a
  from-it k ks m (inr b) = b.1

  -- ways by these numbers are put together at one of them
  by-on : (ks : List ℕ) (n : ℕ) → Contains ks n → (l m : ℕ) → By ks l n → By ks n m → By ks l m
  by-on [] n h l m a b = in-none n h
  by-on (k ∷ ks) n h l m a b =
      elim (here-or-there k ks n h) [
        | inl e ↦ at (subst (λ x. By (k ∷ ks) l x) (sym e) a) (subst (λ x. By (k ∷ ks) x m) (sym e) b)
        | inr later ↦ go (by-on ks n later) (split k ks l n a) (split k ks n m b)
      ]
    where
      at : By (k ∷ ks) l k → By (k ∷ ks) k m → By (k ∷ ks) l m
      at x y = around k ks l m (to-it k ks l (split k ks l k x)) (from-it k ks m (split k ks k m y))

      go : ((p q : ℕ) → By ks p n → By ks n q → By ks p q) → Split k ks l n → Split k ks n m → By (k ∷ ks) l m
      go put (inl x) (inl y) = straight k ks l m (put l m x y)
      go put (inl x) (inr y) = around k ks l m (put l k x y.0) y.1
      go put (inr x) (inl y) = around k ks l m x.0 (put k m x.1 y)
      go put (inr x) (inr y) = around k ks l m x.0 y.1

  end-there : (ks : List ℕ) → ((l m : ℕ) → links l m ≡ true → Contains ks m) → {l m : ℕ} → Leads links l m → Contains ks m
  end-there ks h (link {l = l} {m = m} e) = h l m e
  end-there ks h (on a b) = end-there ks h b

  pub by-complete : (ks : List ℕ) → ((l m : ℕ) → links l m ≡ true → Contains ks m) → {l m : ℕ} → Leads links l m → By ks l m
  by-complete ks h (link {l = l} {m = m} e) = by-link ks l m e
  by-complete ks h (on {l = l} {m = m} {n = n} a b) = by-on ks m (end-there ks h a) l n (by-complete ks h a) (by-complete ks h b)

pub ways-found : AreWaysFound
ways-found links ks h l m = (by-sound links ks l m, by-complete links ks h)
