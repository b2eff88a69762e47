-- What holds of each element of lists that are put together.
use Rattle.std.proofs.Common.{◌≡◌, ℕ, Bool, true, false, List, [], ◌∷◌, ◌++◌, map, if◌then◌else◌, refl, ap, ◌∙◌}
use Rattle.std.specs.Prelude.{filter, All}
use Rattle.std.specs.List.{flat_map}
use Rattle.std.proofs.lemmas.List.Elements.{All-nil, All-cons, All-head, All-tail, All-append}

module _ {A : Type 0} (P : A → Type 0) where
  pub all_left : (xs ys : List A) → All P (xs ++ ys) → All P xs
  all_left [] ys h = All-nil P
  all_left (x ∷ xs) ys h = All-cons P x xs (All-head P x (xs ++ ys) h) (all_left xs ys (All-tail P x (xs ++ ys) h))

  pub all_right : (xs ys : List A) → All P (xs ++ ys) → All P ys
  all_right [] ys h = h
  all_right (x ∷ xs) ys h = all_right xs ys (All-tail P x (xs ++ ys) h)

  pub all_parts : {B : Type 0} (f : B → List A) (xs : List B) → All P (flat_map f xs) → All (λ x. All P (f x)) xs
  all_parts f [] h = All-nil (λ x. All P (f x))
  all_parts f (x ∷ xs) h =
      All-cons (λ x. All P (f x)) x xs (all_left (f x) (flat_map f xs) h) (all_parts f xs (all_right (f x) (flat_map f xs) h))

  pub all_joined : {B : Type 0} (f : B → List A) (xs : List B) → All (λ x. All P (f x)) xs → All P (flat_map f xs)
  all_joined f [] h = All-nil P
  all_joined f (x ∷ xs) h =
      All-append P (f x) (flat_map f xs) (All-head (λ x. All P (f x)) x xs h) (all_joined f xs (All-tail (λ x. All P (f x)) x xs h))

  pub all_named : {B : Type 0} (f : B → A) (xs : List B) → All P (map f xs) → All (λ x. P (f x)) xs
  all_named f [] h = All-nil (λ x. P (f x))
  all_named f (x ∷ xs) h =
      All-cons (λ x. P (f x)) x xs (All-head P (f x) (map f xs) h) (all_named f xs (All-tail P (f x) (map f xs) h))

pub all_pass : {A : Type 0} (p : A → Bool) (xs : List A) → All (λ x. p x ≡ true) xs → filter p xs ≡ xs
all_pass p [] h = refl
all_pass p (x ∷ xs) h =
    let here : p x ≡ true = All-head (λ x. p x ≡ true) x xs h in
    ap (λ b. if b then x ∷ filter p xs else filter p xs) here ∙ ap (λ ys. x ∷ ys) (all_pass p xs (All-tail (λ x. p x ≡ true) x xs h))

pub none_pass : {A : Type 0} (p : A → Bool) (xs : List A) → All (λ x. p x ≡ false) xs → filter p xs ≡ []
none_pass p [] h = refl
none_pass p (x ∷ xs) h =
    let here : p x ≡ false = All-head (λ x. p x ≡ false) x xs h in
    ap (λ b. if b then x ∷ filter p xs else filter p xs) here ∙ none_pass p xs (All-tail (λ x. p x ≡ false) x xs h)

pub same_each : {A : Type 0} (f : A → A) (xs : List A) → All (λ x. f x ≡ x) xs → map f xs ≡ xs
same_each f [] h = refl
same_each f (x ∷ xs) h =
    ap (λ y. y ∷ map f xs) (All-head (λ x. f x ≡ x) x xs h) ∙ ap (λ ys. x ∷ ys) (same_each f xs (All-tail (λ x. f x ≡ x) x xs h))
