-- The first member of a list that has a property is one.
use Rattle.std.proofs.Common.{◌≡◌, ◌++◌, List, [], ◌∷◌, All, sym, subst, ◌∙◌}
use Rattle.std.proofs.lemmas.List.Elements.{All-head, All-tail}
use Rattle.mark_check.specs.Entries.{IsFirst}

module _ {A : Type 0} (P : A → Type 0) where
  heads : (x y : A) (xs ys : List A) → x ∷ xs ≡ y ∷ ys → x ≡ y
  heads x y xs ys e = cc

  tails : (x y : A) (xs ys : List A) → x ∷ xs ≡ y ∷ ys → xs ≡ ys
  tails x y xs ys e = cc

  same_place : (b : List A) (x : A) (a : List A) (c : List A) (y : A) (d : List A) → b ++ x ∷ a ≡ c ++ y ∷ d → P x → P y → All (λ z. ¬ P z) b → All (λ z. ¬ P z) c → x ≡ y
  same_place [] x a [] y d e p q n m = heads x y a d e
  same_place [] x a (z ∷ c) y d e p q n m = absurd (All-head (λ z. ¬ P z) z c m (subst P (heads x z a (c ++ y ∷ d) e) p))
  same_place (z ∷ b) x a [] y d e p q n m = absurd (All-head (λ z. ¬ P z) z b n (subst P (sym (heads z y (b ++ x ∷ a) d e)) q))
  same_place (z ∷ b) x a (w ∷ c) y d e p q n m = same_place b x a c y d (tails z w (b ++ x ∷ a) (c ++ y ∷ d) e) p q (All-tail (λ z. ¬ P z) z b n) (All-tail (λ z. ¬ P z) w c m)

  pub first_one : (xs : List A) (x y : A) → IsFirst P xs x → IsFirst P xs y → x ≡ y
  first_one xs x y f g = same_place f.before x f.after g.before y g.after (sym f.is ∙ g.is) f.holds g.holds f.none g.none
