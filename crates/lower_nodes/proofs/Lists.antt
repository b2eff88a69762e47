-- Lists that loops make.
use Rattle.std.proofs.Common.{◌≡◌, ◌≢◌, ◌<◌, ◌≤◌, ◌⊎◌, inl, inr, ℕ, zero, suc, ◌+◌, ◌-◌, Bool, nat_eq, min, List, [], ◌∷◌, ◌++◌, map, length, get_or, set, take, drop, replicate, refl, sym, ap, ap₂, ◌∙◌, append_assoc, arith, if◌then◌else◌}
use Rattle.std.proofs.lemmas.List.{take_more, drop_more, drop_all, map-append}
use Rattle.std.proofs.lemmas.Bool.{eq-eqb, ne_eqb}
use mathlib.Core.Logic.{dite}
use native.Mathlib.Decide.{dec_le}
use Rattle.type_table.specs.declared.form.Form.{Form}
use Rattle.typed_tree.specs.declared.expr.Choice.{Choice}
use Rattle.typed_tree.specs.declared.expr.Case.{Case}
use Rattle.meaning.specs.Meaning.{arm_place}
use Rattle.lowering.specs.declared.feed.Feed.TheVariants.{Port}
use Rattle.lowering.specs.declared.feed.Carried.{Carried}
use Rattle.lowering.specs.declared.feed.Wire.{Wire}
use Rattle.lowering.specs.Feeds.{wire}
use Rattle.lowering.specs.Operations.{absent, absents, reversed, at_place, changed}
use Rattle.lowering.specs.Choices.{tag_named, arms_from_tag, arms_of, two_arms}
use Rattle.if1_graph.specs.Units.{greatest}
use Rattle.lowering.specs.Loops.{own_inputs, take_up}
use Rattle.lower_nodes.specs.Rows.{tags_named, first_or_second}

pub reversed_snoc : (xs : List Wire) (w : Wire) → reversed (xs ++ w ∷ []) ≡ w ∷ reversed xs
reversed_snoc [] w = refl
reversed_snoc (x ∷ xs) w = ap (λ ys. ys ++ x ∷ []) (reversed_snoc xs w)

pub reversed_more : (turned left before : List Wire) (w : Wire) → before ≡ left ++ w ∷ [] → (turned ++ w ∷ []) ++ reversed left ≡ turned ++ reversed before
reversed_more turned left before w e = append_assoc turned (w ∷ []) (reversed left) ∙ ap (λ ys. turned ++ ys) (sym (reversed_snoc left w) ∙ ap reversed (sym e))

pub absents_more : (n : ℕ) → absents n ++ absent ∷ [] ≡ absents (n + 1)
absents_more zero = refl
absents_more (suc n) =
    let step : suc n + 1 ≡ suc (n + 1) = omega arith in
    ap (λ ws. absent ∷ ws) (absents_more n) ∙ ap absents (sym step)

-- one more item of a list that is made from another
pub map_snoc : {X Y : Type 0} (f : X → Y) (xs : List X) (i : ℕ) (d : X) → i < length xs → map f (take i xs) ++ f (get_or xs i d) ∷ [] ≡ map f (take (i + 1) xs)
map_snoc f xs i d lt = sym (map-append f (take i xs) (get_or xs i d ∷ [])) ∙ ap (map f) (sym (take_more xs i d lt))

-- ---- tables by place

pub table : {X : Type 0} → (ℕ → X) → ℕ → ℕ → List X
table f p zero = []
table f p (suc n) = f p ∷ table f (suc p) n

table_same : {X : Type 0} (f g : ℕ → X) (p n : ℕ) → ((q : ℕ) → p ≤ q → g q ≡ f q) → table g p n ≡ table f p n
unfolding table
table_same f g p zero h = refl
table_same f g p (suc n) h = ap₂ (λ x xs. x ∷ xs) (h p (omega arith)) (table_same f g (suc p) n (λ q le. h q (omega (arith, le))))

-- one more place is known
table_set : {X : Type 0} (f g : ℕ → X) (x : ℕ) (w : X) → g x ≡ w → ((q : ℕ) → q ≢ x → g q ≡ f q) → (p n : ℕ) → p ≤ x → table g p n ≡ set (table f p n) (x - p) w
unfolding table
table_set f g x w at other p zero le = refl
table_set f g x w at other p (suc n) le = dite (dec_le x p) here (later (table_set f g x w at other (suc p) n))
  where
    here : x ≤ p → g p ∷ table g (suc p) n ≡ set (f p ∷ table f (suc p) n) (x - p) w
    here ge =
        let same : p ≡ x = omega (arith, le, ge) in
        let none : 0 ≡ x - p = omega (arith, le, ge) in
        ap₂ (λ y ys. y ∷ ys) (ap g same ∙ at) (table_same f g (suc p) n (λ q lq. other q (omega (arith, lq, ge))))
        ∙ ap (λ k. set (f p ∷ table f (suc p) n) k w) none

    later : (suc p ≤ x → table g (suc p) n ≡ set (table f (suc p) n) (x - suc p) w) → (x ≤ p → ⊥) → g p ∷ table g (suc p) n ≡ set (f p ∷ table f (suc p) n) (x - p) w
    later rest gt =
        let up : suc p ≤ x = omega (arith, le, gt) in
        let down : suc (x - suc p) ≡ x - p = omega (arith, up) in
        ap₂ (λ y ys. y ∷ ys) (other p (omega (arith, up))) (rest up) ∙ ap (λ k. set (f p ∷ table f (suc p) n) k w) down

table_put : {X : Type 0} (f g : ℕ → X) (x : ℕ) (w : X) → g x ≡ w → ((q : ℕ) → q ≢ x → g q ≡ f q) → (n : ℕ) → table g 0 n ≡ set (table f 0 n) x w
table_put f g x w at other n =
    let e : x - 0 ≡ x = omega arith in
    table_set f g x w at other 0 n (omega arith) ∙ ap (λ k. set (table f 0 n) k w) e

table_const : {X : Type 0} (a : X) (p n : ℕ) → table (λ q. a) p n ≡ replicate n a
unfolding table
table_const a p zero = refl
table_const a p (suc n) = ap (λ xs. a ∷ xs) (table_const a (suc p) n)

pub set_past : {X : Type 0} (xs : List X) (i : ℕ) (x : X) → length xs ≤ i → set xs i x ≡ xs
set_past [] i x le = refl
set_past (y ∷ ys) zero x le = absurd (omega (arith, le))
set_past (y ∷ ys) (suc i) x le = ap (λ k. y ∷ k) (set_past ys i x (omega (arith, le)))

table_snoc : {X : Type 0} (f : ℕ → X) (p n : ℕ) → table f p n ++ f (p + n) ∷ [] ≡ table f p (n + 1)
unfolding table
table_snoc f p zero = let e : p + 0 ≡ p = omega arith in ap (λ k. f k ∷ []) e
table_snoc f p (suc n) =
    let e : p + suc n ≡ suc p + n = omega arith in
    let step : suc (n + 1) ≡ suc n + 1 = omega arith in
    ap (λ k. f p ∷ (table f (suc p) n ++ f k ∷ [])) e ∙ ap (λ k. f p ∷ k) (table_snoc f (suc p) n) ∙ ap (table f p) step

-- ---- ports of changed fields

changed_is : (p n : ℕ) (xs : List ℕ) (ws : List Wire) → changed p n xs ws ≡ table (λ q. at_place q xs ws) p n
unfolding table
changed_is p zero xs ws = refl
changed_is p (suc n) xs ws = ap (λ k. at_place p xs ws ∷ k) (changed_is (suc p) n xs ws)

place_none : (q : ℕ) (xs : List ℕ) (ws : List Wire) → (xs ≡ []) ⊎ (ws ≡ []) → at_place q xs ws ≡ absent
place_none q [] ws h = refl
place_none q (x ∷ xs) [] h = refl
place_none q (x ∷ xs) (w ∷ ws) (inl e) = absurd cc
place_none q (x ∷ xs) (w ∷ ws) (inr e) = absurd cc

blank : (p n : ℕ) → table (λ q. absent) p n ≡ absents n
unfolding table
blank p zero = refl
blank p (suc n) = ap (λ ws. absent ∷ ws) (blank (suc p) n)

pub nothing_changed : (n left : ℕ) (xs : List ℕ) (ws : List Wire) → left ≡ min (length xs) (length ws) → absents n ≡ changed 0 n (drop left xs) (drop left ws)
nothing_changed n left xs ws e =
    sym (changed_is 0 n (drop left xs) (drop left ws) ∙ table_same (λ q. absent) (λ q. at_place q (drop left xs) (drop left ws)) 0 n (λ q le. place_none q (drop left xs) (drop left ws) ends) ∙ blank 0 n)
  where
    ends : (drop left xs ≡ []) ⊎ (drop left ws ≡ [])
    ends = dite (dec_le (length xs) left) (λ le. inl (drop_all left xs le)) (λ gt. inr (drop_all left ws (omega (arith, e, gt))))

at_this : (x : ℕ) (xs : List ℕ) (w : Wire) (ws : List Wire) → at_place x (x ∷ xs) (w ∷ ws) ≡ w
at_this x xs w ws = ap (λ (b : Bool). if b then w else at_place x xs ws) (eq-eqb x x refl)

at_other : (x : ℕ) (xs : List ℕ) (w : Wire) (ws : List Wire) (q : ℕ) → q ≢ x → at_place q (x ∷ xs) (w ∷ ws) ≡ at_place q xs ws
at_other x xs w ws q ne = ap (λ (b : Bool). if b then w else at_place q xs ws) (ne_eqb x q (λ e. ne (sym e)))

pub one_changed : (n : ℕ) (xs : List ℕ) (ws : List Wire) (left : ℕ) (v w : Wire) → left < length xs → left < length ws → w ≡ v → v ≡ get_or ws left v
    → set (changed 0 n (drop (left + 1) xs) (drop (left + 1) ws)) (get_or xs left 0) w ≡ changed 0 n (drop left xs) (drop left ws)
one_changed n xs ws left v w lx lw e is =
    let x = get_or xs left 0 in
    let us = drop (left + 1) xs in
    let vs = drop (left + 1) ws in
    sym
    (ap₂ (changed 0 n) (drop_more xs left 0 lx) (drop_more ws left v lw ∙ ap (λ k. k ∷ vs) (sym is ∙ sym e))
    ∙ changed_is 0 n (x ∷ us) (w ∷ vs)
    ∙ table_put (λ q. at_place q us vs) (λ q. at_place q (x ∷ us) (w ∷ vs)) x w (at_this x us w vs) (at_other x us w vs) n
    ∙ ap (λ k. set k x w) (sym (changed_is 0 n us vs)))

-- ---- arms of tags, and tags of arms

arms_is : (c : Case) (p n : ℕ) → arms_from_tag c p n ≡ table (λ q. arm_place c.choices c.others q) p n
unfolding table
arms_is c p zero = refl
arms_is c p (suc n) = ap (λ k. arm_place c.choices c.others p ∷ k) (arms_is c (suc p) n)

tags_is : (p n : ℕ) (cs : List Choice) → tags_named p n cs ≡ table (λ q. tag_named q cs) p n
unfolding table
tags_is p zero cs = refl
tags_is p (suc n) cs = ap (λ k. tag_named p cs ∷ k) (tags_is (suc p) n cs)

-- the arms of tags by the choices from one on
pub arms_by : ℕ → List Choice → ℕ → List ℕ
arms_by others cs n = table (λ q. arm_place cs others q) 0 n

pub tags_by : List Choice → ℕ → List ℕ
tags_by cs n = table (λ q. tag_named q cs) 0 n

pub no_choice_arms : (others n left : ℕ) (cs : List Choice) → length cs ≤ left → replicate n others ≡ arms_by others (drop left cs) n
unfolding arms_by
no_choice_arms others n left cs le = sym (ap (λ k. table (λ q. arm_place k others q) 0 n) (drop_all left cs le) ∙ table_const others 0 n)

pub no_choice_tags : (n left : ℕ) (cs : List Choice) → length cs ≤ left → replicate n 0 ≡ tags_by (drop left cs) n
unfolding tags_by
no_choice_tags n left cs le = sym (ap (λ k. table (λ q. tag_named q k) 0 n) (drop_all left cs le) ∙ table_const 0 0 n)

arm_step : (others : ℕ) (c : Choice) (cs : List Choice) (n : ℕ) → arms_by others (c ∷ cs) n ≡ set (arms_by others cs n) c.tag c.arm
unfolding arms_by
arm_step others c cs n =
    table_put (λ q. arm_place cs others q) (λ q. arm_place (c ∷ cs) others q) c.tag c.arm
    (ap (λ (b : Bool). if b then c.arm else arm_place cs others c.tag) (eq-eqb c.tag c.tag refl))
    (λ q ne. ap (λ (b : Bool). if b then c.arm else arm_place cs others q) (ne_eqb c.tag q (λ e. ne (sym e)))) n

tag_step : (c : Choice) (cs : List Choice) (n : ℕ) → tags_by (c ∷ cs) n ≡ set (tags_by cs n) c.arm c.tag
unfolding tags_by
tag_step c cs n =
    table_put (λ q. tag_named q cs) (λ q. tag_named q (c ∷ cs)) c.arm c.tag
    (ap (λ (b : Bool). if b then c.tag else tag_named c.arm cs) (eq-eqb c.arm c.arm refl))
    (λ q ne. ap (λ (b : Bool). if b then c.tag else tag_named q cs) (ne_eqb c.arm q (λ e. ne (sym e)))) n

pub one_arm : (others : ℕ) (cs : List Choice) (left n : ℕ) (c : Choice) → left < length cs → c ≡ get_or cs left c
    → set (arms_by others (drop (left + 1) cs) n) c.tag c.arm ≡ arms_by others (drop left cs) n
one_arm others cs left n c lt is =
    sym (ap (λ k. arms_by others k n) (drop_more cs left c lt ∙ ap (λ k. k ∷ drop (left + 1) cs) (sym is)) ∙ arm_step others c (drop (left + 1) cs) n)

pub one_tag : (cs : List Choice) (left n : ℕ) (c : Choice) → left < length cs → c ≡ get_or cs left c
    → set (tags_by (drop (left + 1) cs) n) c.arm c.tag ≡ tags_by (drop left cs) n
one_tag cs left n c lt is =
    sym (ap (λ k. tags_by k n) (drop_more cs left c lt ∙ ap (λ k. k ∷ drop (left + 1) cs) (sym is)) ∙ tag_step c (drop (left + 1) cs) n)

pub all_arms : (c : Case) (n : ℕ) → arms_by c.others c.choices n ≡ arms_of c n
unfolding arms_by
all_arms c n = sym (arms_is c 0 n)

pub all_tags : (cs : List Choice) (n : ℕ) → tags_by cs n ≡ tags_named 0 n cs
unfolding tags_by
all_tags cs n = sym (tags_is 0 n cs)

-- ---- two arms

two_is : (tag p n : ℕ) → first_or_second tag p n ≡ table (λ q. if nat_eq q tag then 0 else 1) p n
unfolding table
two_is tag p zero = refl
two_is tag p (suc n) = ap (λ k. (if nat_eq p tag then 0 else 1) ∷ k) (two_is tag (suc p) n)

pub two_more : (tag n : ℕ) → first_or_second tag 0 n ++ (if nat_eq n tag then 0 else 1) ∷ [] ≡ first_or_second tag 0 (n + 1)
two_more tag n =
    let e : n ≡ 0 + n = omega arith in
    ap₂ (λ k m. k ++ (if nat_eq m tag then 0 else 1) ∷ []) (two_is tag 0 n) e ∙ table_snoc (λ q. if nat_eq q tag then 0 else 1) 0 n ∙ sym (two_is tag 0 (n + 1))

pub two_same : (forms : List Form) (tag p n : ℕ) → first_or_second tag p n ≡ two_arms forms tag p n
two_same forms tag p zero = refl
two_same forms tag p (suc n) = ap (λ k. (if nat_eq p tag then 0 else 1) ∷ k) (two_same forms tag (suc p) n)

-- own inputs one after another
pub inputs_more : (f : Carried → Carried) (port i : ℕ) (ts : List Carried) (t : Carried) (ws all : List Wire) → i < length ts → t ≡ get_or ts i t → ws ++ own_inputs (port + i) (map f (drop i ts)) ≡ all
    → (ws ++ wire (Port 0 0 (port + i)) (f t) ∷ []) ++ own_inputs (port + (i + 1)) (map f (drop (i + 1) ts)) ≡ all
inputs_more f port i ts t ws all lt is h =
    let w = wire (Port 0 0 (port + i)) (f t) in
    let rest = map f (drop (i + 1) ts) in
    let next : port + (i + 1) ≡ suc (port + i) = omega arith in
    append_assoc ws (w ∷ []) (own_inputs (port + (i + 1)) rest)
    ∙ ap (λ n. ws ++ w ∷ own_inputs n rest) next
    ∙ ap (λ us. ws ++ own_inputs (port + i) (map f us)) (sym (drop_more ts i t lt ∙ ap (λ k. k ∷ drop (i + 1) ts) (sym is)))
    ∙ h

pub took_all : (n : ℕ) (ws : List Wire) → length ws ≤ n → take_up n ws ≡ ws
took_all zero [] le = refl
took_all zero (w ∷ ws) le = absurd (omega (arith, le))
took_all (suc n) [] le = refl
took_all (suc n) (w ∷ ws) le = ap (λ k. w ∷ k) (took_all n ws (omega (arith, le)))

pub below_greatest : (xs : List ℕ) (k : ℕ) → get_or xs k 0 ≤ greatest xs
below_greatest [] k = omega arith
below_greatest (x ∷ xs) zero = omega arith
below_greatest (x ∷ xs) (suc k) = let h = below_greatest xs k in omega (arith, h)

pub absents_length : (n : ℕ) → length (absents n) ≡ n
absents_length zero = refl
absents_length (suc n) = ap suc (absents_length n)
