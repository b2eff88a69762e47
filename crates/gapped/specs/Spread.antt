-- Items with fillers before them.
use Rattle.std.specs.Prelude.{◌≡◌, ℕ, List, [], ◌∷◌, ◌++◌, replicate}

-- with so many fillers before each as these numbers say; where there is no number, with none
abbrev pub spread : {A : Type 0} → (filler : A) → (gaps : List ℕ) → List A → List A
spread f [] xs = xs
spread f (k ∷ ks) [] = []
spread f (k ∷ ks) (x ∷ xs) = replicate k f ++ (x ∷ spread f ks xs)

-- each of these numbers is 0
abbrev pub AreNone : List ℕ → Type 0
AreNone [] = Unit {0}
AreNone (k ∷ ks) = (k ≡ 0) × AreNone ks
