-- Lists that loops go over.
use Rattle.std.proofs.Common.{◌≡◌, ◌<◌, ◌≤◌, ℕ, zero, suc, ◌+◌, List, [], ◌∷◌, ◌++◌, map, length, get_or, set, take, drop, refl, sym, ap, ◌∙◌, append_assoc, arith}
use Rattle.std.specs.Prelude.{slice_index}
use Rattle.std.proofs.lemmas.List.{drop_more}
use Rattle.lowering.specs.declared.feed.Feed.TheVariants.{Port}
use Rattle.lowering.specs.declared.feed.Carried.{Carried}
use Rattle.lowering.specs.declared.feed.Carried.TheVariants.{One}
use Rattle.lowering.specs.declared.feed.Wire.{Wire}
use Rattle.lowering.specs.Feeds.{wire, outside, outsides, one_carried, carried, with_new, distinct}
use Rattle.lowering.specs.Graphs.{ports}

-- one more item changed in place
pub map_more : {X : Type 0} (f : X → X) (xs : List X) (i : ℕ) (d : X) → i < length xs
    → set (map f (take i xs) ++ drop i xs) i (f (get_or (map f (take i xs) ++ drop i xs) i d)) ≡ map f (take (suc i) xs) ++ drop (suc i) xs
map_more f [] i d lt = absurd (omega (arith, lt))
map_more f (x ∷ xs) zero d lt = refl
map_more f (x ∷ xs) (suc i) d lt = ap (λ ys. f x ∷ ys) (map_more f xs i d (omega (arith, lt)))

pub distinct_append : (ks xs ys : List Wire) → distinct ks (xs ++ ys) ≡ distinct (distinct ks xs) ys
distinct_append ks [] ys = refl
distinct_append ks (x ∷ xs) ys = distinct_append (with_new ks x) xs ys

pub outsides_append : (xs ys : List Wire) → outsides (xs ++ ys) ≡ outsides xs ++ outsides ys
outsides_append [] ys = refl
outsides_append (x ∷ xs) ys = ap (λ k. outside x.ty x.feed ++ k) (outsides_append xs ys) ∙ sym (append_assoc (outside x.ty x.feed) (outsides xs) (outsides ys))

-- what some wires use, and then others
pub uses_append : (ks xs ys : List Wire) → distinct ks (outsides (xs ++ ys)) ≡ distinct (distinct ks (outsides xs)) (outsides ys)
uses_append ks xs ys = ap (distinct ks) (outsides_append xs ys) ∙ distinct_append ks (outsides xs) (outsides ys)

pub one_more : (ks : List Wire) (w : Wire) (ws : List Wire) → distinct ks (outsides (w ∷ ws)) ≡ distinct (distinct ks (outside w.ty w.feed)) (outsides ws)
one_more ks w ws = distinct_append ks (outside w.ty w.feed) (outsides ws)

pub carried_more : (cs : List Carried) (w : Wire) (ws : List Wire) → cs ++ carried (w ∷ ws) ≡ (cs ++ one_carried w.feed w.ty) ++ carried ws
carried_more cs w ws = sym (append_assoc cs (one_carried w.feed w.ty) (carried ws))

-- what a loop has still to go over
pub rest_is : {X : Type 0} (xs : List X) (i : ℕ) (x : X) → i < length xs → x ≡ get_or xs i x → drop i xs ≡ x ∷ drop (i + 1) xs
rest_is xs i x lt is = drop_more xs i x lt ∙ ap (λ y. y ∷ drop (i + 1) xs) (sym is)

pub ports_more : (node port i : ℕ) (ts : List ℕ) (ws all : List Wire) → i < length ts → ws ++ ports node (port + i) (map One (drop i ts)) ≡ all
    → (ws ++ wire (Port 0 node (port + i)) (One (slice_index ts i)) ∷ []) ++ ports node (port + (i + 1)) (map One (drop (i + 1) ts)) ≡ all
ports_more node port i ts ws all lt h =
    let w = wire (Port 0 node (port + i)) (One (slice_index ts i)) in
    let next : port + (i + 1) ≡ suc (port + i) = omega arith in
    append_assoc ws (w ∷ []) (ports node (port + (i + 1)) (map One (drop (i + 1) ts)))
    ∙ ap (λ n. ws ++ w ∷ ports node n (map One (drop (i + 1) ts))) next
    ∙ ap (λ us. ws ++ ports node (port + i) (map One us)) (sym (drop_more ts i 0 lt))
    ∙ h

pub carried_ports_more : (node port i : ℕ) (ts : List Carried) (t : Carried) (ws all : List Wire) → i < length ts → t ≡ get_or ts i t → ws ++ ports node (port + i) (drop i ts) ≡ all
    → (ws ++ wire (Port 0 node (port + i)) t ∷ []) ++ ports node (port + (i + 1)) (drop (i + 1) ts) ≡ all
carried_ports_more node port i ts t ws all lt is h =
    let w = wire (Port 0 node (port + i)) t in
    let next : port + (i + 1) ≡ suc (port + i) = omega arith in
    append_assoc ws (w ∷ []) (ports node (port + (i + 1)) (drop (i + 1) ts))
    ∙ ap (λ n. ws ++ w ∷ ports node n (drop (i + 1) ts)) next
    ∙ ap (λ us. ws ++ ports node (port + i) us) (sym (rest_is ts i t lt is))
    ∙ h

pub map_next : {X : Type 0} (f : X → X) (xs now : List X) (i : ℕ) (old new : X) → i < length xs → now ≡ map f (take i xs) ++ drop i xs → old ≡ get_or now i old → new ≡ f old
    → set now i new ≡ map f (take (i + 1) xs) ++ drop (i + 1) xs
map_next f xs now i old new lt e o n =
    let step : i + 1 ≡ suc i = omega arith in
    ap (set now i) (n ∙ ap f o)
    ∙ ap (λ ys. set ys i (f (get_or ys i old))) e
    ∙ map_more f xs i old lt
    ∙ ap (λ k. map f (take k xs) ++ drop k xs) (sym step)

pub first_of : {X : Type 0} (xs : List X) (x : X) → 1 ≤ length xs → x ≡ get_or xs 0 x → xs ≡ x ∷ drop 1 xs
first_of [] x le is = absurd (omega (arith, le))
first_of (y ∷ ys) x le is = ap (λ z. z ∷ ys) (sym is)
