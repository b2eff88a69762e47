-- Steps of the walk: what comes next, and graphs inside.
use Rattle.std.proofs.Common.{◌≡◌, ◌<◌, ℕ, List, [], ◌∷◌, ◌++◌, map, length, All, refl, sym, ap, ap₂, subst, ◌∙◌, append-nil, append_assoc}
use Rattle.std.specs.Prelude.{Result, Ok, Err, IfOk, OnOk, Option, Some, None}
use Rattle.lowering.specs.declared.feed.Feed.TheVariants.{Port}
use Rattle.lowering.specs.declared.feed.Carried.TheVariants.{One}
use Rattle.std.proofs.lemmas.Result.{IfOk-weaker}
use Rattle.lowering.specs.declared.feed.Wire.{Wire}
use Rattle.lowering.specs.Feeds.{wire, into}
use Rattle.lowering.specs.Graphs.{Lowering, andthen}
use Rattle.lowered_data.specs.declared.made.Made.{Made}
use Rattle.lowered_data.specs.declared.made.Around.{Around}
use Rattle.lowered_data.specs.Scopes.{Scopes, scopes, with_names, entered, IsInside}
use Rattle.lowered_data.specs.States.{IsMade, IsPart, AreParts, places_in, opened, around_of}
use Rattle.lowered_data.proofs.Laws.{andthen_made}
use Rattle.lowered_data.proofs.Parts.{no_parts, first_part, first_place, places_within, opened_there}
use Rattle.lower_nodes.proofs.Walks.{Going, with_values}
use Rattle.lower_exprs.specs.Phrased.{with_content}

pub then_as : {E : Type 0} (r : Result (List Wire) E) (f : Lowering) (g : List Wire → Lowering) (a b d : Made) (vs : List Wire)
    → IsMade f a b vs → IfOk r (λ ws. IsMade (g vs) b d ws) → IfOk r (λ ws. IsMade (andthen f g) a d ws)
then_as r f g a b d vs q h = IfOk-weaker r (λ (ws : List Wire). IsMade (g vs) b d ws) (λ (ws : List Wire). IsMade (andthen f g) a d ws) (λ ws p. andthen_made f g a b d vs ws q p) h

-- ---- graphs inside

-- a graph that begins in names that are entered
pub inside_of : (s t : Scopes) → t ≡ entered s → IsInside t
inside_of s t e = record { before = s; more = []; is = e ∙ ap (λ h. scopes h (entered s).marks) (sym (append-nil (map into s.here))) }

pub inside_with : (s t : Scopes) (more : List Wire) → t ≡ with_names (entered s) more → IsInside t
inside_with s t more e = record { before = s; more = more; is = e }

pub as_entered : (s t : Scopes) → t ≡ entered s → t ≡ with_names (entered s) []
as_entered s t e = e ∙ ap (λ h. scopes h (entered s).marks) (sym (append-nil (map into s.here)))

-- what was made in a graph that was opened
pub in_open : (f : Lowering) (a o b : Made) (vs : List Wire) → o ≡ opened a → IsMade f o b vs → IsMade f (opened a) b vs
in_open f a o b vs e p = subst (λ (k : Made). IsMade f k b vs) e p

pub stands : (f : Lowering) (a o b : Made) (vs : List Wire) (around : Around) → o ≡ opened a → around ≡ around_of a → IsMade f o b vs → around.place < length b.graphs
stands f a o b vs around e is p = subst (λ (n : ℕ). n < length b.graphs) (ap (λ (k : Around). k.place) (sym is)) (opened_there f a b vs (in_open f a o b vs e p))

-- ---- three graphs

pub three_parts : (f g h : Lowering) (a b c d : Made) → IsPart f a b → IsPart g b c → IsPart h c d → AreParts (f ∷ g ∷ h ∷ []) a d
three_parts f g h a b c d p q r = first_part f (g ∷ h ∷ []) a b d p (first_part g (h ∷ []) b c d q (first_part h [] c d d r (no_parts d)))

pub three_places : (f g h : Lowering) (a b c d : Made) (x y z : ℕ) → IsPart f a b → IsPart g b c → IsPart h c d
    → x ≡ length a.graphs → y ≡ length b.graphs → z ≡ length c.graphs → x ∷ y ∷ z ∷ [] ≡ places_in a (f ∷ g ∷ h ∷ [])
three_places f g h a b c d x y z p q r ex ey ez =
    ap (λ k. k ∷ y ∷ z ∷ []) ex ∙ ap₂ (λ k l. length a.graphs ∷ k ∷ l ∷ []) ey ez
    ∙ ap (λ l. length a.graphs ∷ length b.graphs ∷ l) (sym (first_place h [] c d r))
    ∙ ap (λ l. length a.graphs ∷ l) (sym (first_place g (h ∷ []) b c q))
    ∙ sym (first_place f (g ∷ h ∷ []) a b p)

pub three_within : (f g h : Lowering) (a b c d : Made) (x y z : ℕ) → IsPart f a b → IsPart g b c → IsPart h c d
    → x ≡ length a.graphs → y ≡ length b.graphs → z ≡ length c.graphs → All (λ k. k < length d.graphs) (x ∷ y ∷ z ∷ [])
three_within f g h a b c d x y z p q r ex ey ez =
    subst (λ (ps : List ℕ). All (λ k. k < length d.graphs) ps) (sym (three_places f g h a b c d x y z p q r ex ey ez))
    (places_within (f ∷ g ∷ h ∷ []) a d (three_parts f g h a b c d p q r))

-- ---- the content of a union

pub content_names : Option ℕ → List Wire
content_names None = []
content_names (Some t) = wire (Port 0 0 1) (One t) ∷ []

pub content_is : (s : Scopes) (content : Option ℕ) → scopes (with_content content (entered s).here) (entered s).marks ≡ with_names (entered s) (content_names content)
unfolding content_names
content_is s None = ap (λ h. scopes h (entered s).marks) (sym (append-nil (map into s.here)))
content_is s (Some t) = refl

-- nothing is made yet
pub begun_with : (f : Lowering) (a : Made) (vs : List Wire) → vs ≡ [] → Going f f a a vs
begun_with f a vs e = record { goes = λ after ws p. with_values f a after (vs ++ ws) ws (ap (λ k. k ++ ws) e) p }

-- names behind those of a part
pub more_inside : (s t u : Scopes) (own more : List Wire) → t ≡ with_names (entered s) own → u ≡ with_names t more → u ≡ with_names (entered s) (own ++ more)
more_inside s t u own more e f = f ∙ ap (λ (k : Scopes). with_names k more) e ∙ ap (λ h. scopes h (entered s).marks) (append_assoc (map into s.here) own more)

-- what holds anyway
pub on_ok_always : {X E : Type 0} (r : Result X E) (P : Type 0) → P → OnOk r P
on_ok_always (Ok x) P p = p
on_ok_always (Err e) P p = tt
