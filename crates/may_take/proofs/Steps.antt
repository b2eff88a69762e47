-- Steps of the look at a graph.
use Rattle.std.proofs.Common.{◌≡◌, ◌∙◌, ℕ, zero, suc, ◌+◌, ◌<◌, ◌≤◌, Bool, false, ◌&&◌, IsTrue, List, [], ◌∷◌, ◌++◌, map, take, drop, length, get_or, slice_get, slice_index_or, Some, All, Contains, refl, sym, ap, subst, arith, append-nil, append_assoc}
use Rattle.std.specs.List.{flat_map}
use Rattle.std.proofs.lemmas.List.{map-append, take_more, get_or-map}
use Rattle.std.proofs.lemmas.Option.{slice_get-get_or}
use Rattle.std.proofs.lemmas.Grind.{flat_map-append}
use Rattle.if1_graph.specs.declared.graph.Edge.{Edge}
use Rattle.if1_graph.specs.declared.graph.Graph.{Graph}
use Rattle.if1_graph.specs.declared.graph.Graph.TheViews.{out-Graph}
use Rattle.if1_graph.specs.declared.graph.Node.{Node, out-Node}
use Rattle.if1_graph.specs.declared.graph.Origin.{Origin}
use Rattle.if1_graph.specs.declared.graph.Origin.TheVariants.{Port, Lit}
use Rattle.if1_graph.specs.declared.graph.Unit1.{Unit1}
use Rattle.if1_graph.specs.Units.{levels, most_levels, Function, Inside, Place, each_from, places_of}
use Rattle.if1_marks.specs.Given.{inside, is_consuming, is_consumed_by, consumes_node}
use Rattle.if1_marks.specs.Given as given
use Rattle.if1_marks.specs.Owned.{users, is_owned}
use Rattle.may_take.specs.declared.flags.Asked.{Asked}
use Rattle.may_take.specs.declared.functions.Functions.{Functions}
use Rattle.may_take.specs.declared.inputs.Inputs.{Inputs}
use Rattle.may_take.specs.declared.looking.Looked.{Looked}
use Rattle.may_take.specs.declared.looking.LookedNodes.{LookedNodes}
use Rattle.may_take.specs.declared.uses.NodeUse.{NodeUse}
use Rattle.may_take.specs.Ports.{inside_by}
use Rattle.may_take.specs.Around.{insides}
use Rattle.may_take.specs.Owned.{Stand, AsFunction, is_owned_at}
use Rattle.may_take.specs.Uses.{is_consumed_inside, is_consumed, Tells}
use Rattle.may_take.specs.Looked.{does_ask, is_asked, flags_by, node_places, node_levels, stand_in, IsUse, IsLooked, AreLooked, AreNodesLooked}
use Rattle.may_take.proofs.Nodes.{inner-is, outer-is}
use Rattle.may_take.proofs.Owning.{part-owned}
use Rattle.may_take.proofs.Placing.{each-more, places-are, part-below}
use Rattle.may_take.proofs.Seen.{mapped-more}

map-same : {A B : Type 0} (f g : A → B) → ((x : A) → f x ≡ g x) → (xs : List A) → map f xs ≡ map g xs
map-same f g e [] = refl
map-same f g e (x ∷ xs) = ap (λ y. y ∷ map f xs) (e x) ∙ ap (λ ys. g x ∷ ys) (map-same f g e xs)

-- ---- graphs one after another

pub insides-are : (u : Unit1) (f : Functions) (gs : List Graph) (rs : List Looked) → AreLooked u f gs rs → insides rs ≡ map (inside u.types) gs
insides-are u f [] [] l = refl
insides-are u f [] (r ∷ rs) l = absurd (omega (arith, l.fit))
insides-are u f (g ∷ gs) [] l = absurd (omega (arith, l.fit))
insides-are u f (g ∷ gs) (r ∷ rs) l =
    ap (λ i. i ∷ insides rs) (l.each 0 g r refl refl).inputs
    ∙ ap (λ is. inside u.types g ∷ is) (insides-are u f gs rs (record { fit = omega (arith, l.fit); each = λ k h s a b. l.each (suc k) h s a b }))

pub none-looked : (u : Unit1) (f : Functions) (rs : List Looked) → rs ≡ [] → AreLooked u f [] rs
none-looked u f rs e = record { fit = ap length e; each = λ k g r a b. absurd (got-none k g a) }
  where
    got-none : (k : ℕ) (g : Graph) → slice_get [] k ≡ Some g → ⊥
    got-none zero g a = cc
    got-none (suc k) g a = cc

pub looked-more : (u : Unit1) (f : Functions) (gs : List Graph) (g : Graph) (rs new : List Looked) (r : Looked) → AreLooked u f gs rs → IsLooked u f g r → new ≡ rs ++ r ∷ [] → AreLooked u f (gs ++ g ∷ []) new
looked-more u f gs g rs new r l one e = subst (AreLooked u f (gs ++ g ∷ [])) (sym e) (push gs rs l)
  where
    last : (k : ℕ) (h : Graph) (s : Looked) → slice_get (g ∷ []) k ≡ Some h → slice_get (r ∷ []) k ≡ Some s → IsLooked u f h s
    last zero h s a b = let eh : g ≡ h = cc in let es : r ≡ s = cc in subst (λ h. IsLooked u f h s) eh (subst (λ s. IsLooked u f g s) es one)
    last (suc zero) h s a b = absurd cc
    last (suc (suc k)) h s a b = absurd cc

    push : (gs : List Graph) (rs : List Looked) → AreLooked u f gs rs → AreLooked u f (gs ++ g ∷ []) (rs ++ r ∷ [])
    push [] [] l = record { fit = refl; each = last }
    push [] (s ∷ rs) l = absurd (omega (arith, l.fit))
    push (h ∷ gs) [] l = absurd (omega (arith, l.fit))
    push (h ∷ gs) (s ∷ rs) l =
        let tail = push gs rs (record { fit = omega (arith, l.fit); each = λ k x y a b. l.each (suc k) x y a b }) in
        record { fit = ap suc tail.fit; each = both tail }
      where
        both : AreLooked u f (gs ++ g ∷ []) (rs ++ r ∷ []) → (k : ℕ) (x : Graph) (y : Looked) → slice_get (h ∷ (gs ++ g ∷ [])) k ≡ Some x → slice_get (s ∷ (rs ++ r ∷ [])) k ≡ Some y → IsLooked u f x y
        both tail zero x y a b = l.each 0 x y a b
        both tail (suc k) x y a b = tail.each k x y a b

-- the part that comes next
pub part-at : (u : Unit1) (f : Functions) (gs : List Graph) (rs : List Looked) (k : ℕ) (s : Graph) (r : Looked) (rest : List Looked) → AreLooked u f gs rs → drop k rs ≡ r ∷ rest → k < length gs → s ≡ get_or gs k s → IsLooked u f s r
part-at u f gs rs k s r rest l e h is = l.each k s r (slice_get-get_or gs k s h ∙ ap Some (sym is)) (got rs k e)
  where
    got : (rs : List Looked) (k : ℕ) → drop k rs ≡ r ∷ rest → slice_get rs k ≡ Some r
    got [] zero e = absurd (let z : 0 ≡ length (r ∷ rest) = ap length e in omega (arith, z))
    got [] (suc k) e = absurd (let z : 0 ≡ length (r ∷ rest) = ap length e in omega (arith, z))
    got (x ∷ xs) zero e = ap (λ zs. slice_get zs 0) e
    got (x ∷ xs) (suc k) e = got xs k e

pub less-left : (rs : List Looked) (k : ℕ) (r : Looked) (rest : List Looked) → drop k rs ≡ r ∷ rest → rest ≡ drop (k + 1) rs
less-left [] zero r rest e = absurd (let z : 0 ≡ length (r ∷ rest) = ap length e in omega (arith, z))
less-left [] (suc k) r rest e = absurd (let z : 0 ≡ length (r ∷ rest) = ap length e in omega (arith, z))
less-left (x ∷ xs) zero r rest e = sym (ap (drop 1) e)
less-left (x ∷ xs) (suc k) r rest e = less-left xs k r rest e ∙ ap (λ i. drop i (x ∷ xs)) (let z : suc (k + 1) ≡ suc k + 1 = omega arith in z)

pub here : {A : Type 0} (xs ys : List A) (i : ℕ) (x : A) → xs ≡ ys → i < length xs → x ≡ get_or xs i x → Contains ys x
here xs ys i x same h is = subst (λ zs. Contains zs x) same (i, h, sym is)

-- ---- flags

pub flag-more : (a : Asked) (g : Graph) (st : Stand) (k : Edge → Bool) (consuming : List Bool) (edges : List Edge) → edges ≡ (out-Graph g).edges → consuming ≡ map k (out-Graph g).edges →
    (i : ℕ) (e : Edge) → i < length edges → e ≡ get_or edges i e → (old new : List Bool) (b o : Bool) →
    old ≡ map (λ e. is_asked a (k e) && is_owned_at st g (users g e.from) e.from) (take i (out-Graph g).edges) →
    o ≡ is_owned_at st g (users g e.from) e.from → b ≡ (is_asked a (slice_index_or consuming i false) && o) → new ≡ old ++ b ∷ [] →
    new ≡ map (λ e. is_asked a (k e) && is_owned_at st g (users g e.from) e.from) (take (i + 1) (out-Graph g).edges)
flag-more a g st k consuming edges same flags i e h is old new b o was owned both added =
    added
    ∙ (ap (λ fs. fs ++ b ∷ []) was
    ∙ (ap (λ x. map (λ e. is_asked a (k e) && is_owned_at st g (users g e.from) e.from) (take i (out-Graph g).edges) ++ x ∷ []) (both ∙ (ap (λ fs. is_asked a (slice_index_or fs i false) && o) flags ∙ (ap (λ x. is_asked a x && o) (get_or-map k (out-Graph g).edges i e false lt ∙ ap k (sym at)) ∙ ap (λ x. is_asked a (k e) && x) owned)))
    ∙ (sym (map-append (λ e. is_asked a (k e) && is_owned_at st g (users g e.from) e.from) (take i (out-Graph g).edges) (e ∷ []))
    ∙ ap (map (λ e. is_asked a (k e) && is_owned_at st g (users g e.from) e.from)) (ap (λ x. take i (out-Graph g).edges ++ x ∷ []) at ∙ sym (take_more (out-Graph g).edges i e lt)))))
  where
    lt : i < length (out-Graph g).edges
    lt = subst (λ es. i < length es) same h

    at : e ≡ get_or (out-Graph g).edges i e
    at = is ∙ ap (λ (es : List Edge). get_or es i e) same

-- ---- the flags of a part

module _ (u : Unit1) (f : Functions) (g : Graph) (n : Node) (rs : List Looked) (looked : AreLooked u f (out-Node n).subs rs) (h : NodeUse) (known : IsUse f g n (insides rs) h) (tells : Tells u f) (asks : IsTrue (does_ask f.asked)) (more : ℕ) where
  part-flags : (k : ℕ) (s : Graph) (r : Looked) → IsLooked u f s r → levels s ≤ more →
      map (λ e. is_asked f.asked (is_consuming u s e) && is_owned_at (stand_in h k) s (users s e.from) e.from) (out-Graph s).edges ∷ r.inside.items ≡ map (flags_by f.asked u) (places_of more (Inside g n k) s)
  part-flags k s r l small =
      ap (λ fs. fs ∷ r.inside.items)
      (map-same (λ e. is_asked f.asked (is_consuming u s e) && is_owned_at (stand_in h k) s (users s e.from) e.from) (λ e. is_asked f.asked (is_consuming u s e) && is_owned u (record { graph = s; home = Inside g n k }) e.from)
      (λ e. ap (λ b. is_asked f.asked (is_consuming u s e) && b) (part-owned u f g n (insides rs) (insides-are u f (out-Node n).subs rs looked) h known s k e.from)) (out-Graph s).edges)
      ∙ (ap (λ fs. flags_by f.asked u (record { graph = s; home = Inside g n k }) ∷ fs) (l.inside tells asks more small)
      ∙ ap (map (flags_by f.asked u)) (sym (places-are more (Inside g n k) s)))

  -- with those of one more part
  pub part-more : (k : ℕ) (s : Graph) (r : Looked) → k < length (out-Node n).subs → s ≡ get_or (out-Node n).subs k s → node_levels n ≤ suc more → IsLooked u f s r →
      (initial old new : List (List Bool)) → old ≡ initial ++ map (flags_by f.asked u) (each_from (λ k s. places_of more (Inside g n k) s) 0 (take k (out-Node n).subs)) →
      new ≡ old ++ (map (λ e. is_asked f.asked (is_consuming u s e) && is_owned_at (stand_in h k) s (users s e.from) e.from) (out-Graph s).edges ∷ r.inside.items) →
      new ≡ initial ++ map (flags_by f.asked u) (each_from (λ k s. places_of more (Inside g n k) s) 0 (take (k + 1) (out-Node n).subs))
  part-more k s r lt is deep l initial old new was added =
      let there : Contains (out-Node n).subs s = (k, lt, sym is) in
      let here = places_of more (Inside g n k) s in
      let before = each_from (λ k s. places_of more (Inside g n k) s) 0 (take k (out-Node n).subs) in
      added
      ∙ (ap (λ fs. old ++ fs) (part-flags k s r l (part-below n more deep s there))
      ∙ (ap (λ fs. fs ++ map (flags_by f.asked u) here) was
      ∙ (append_assoc initial (map (flags_by f.asked u) before) (map (flags_by f.asked u) here)
      ∙ (ap (λ fs. initial ++ fs) (sym (map-append (flags_by f.asked u) before here))
      ∙ ap (λ ps. initial ++ map (flags_by f.asked u) ps)
      (ap (λ t. before ++ places_of more (Inside g n k) t) is
      ∙ sym (each-more (λ k s. places_of more (Inside g n k) s) k (out-Node n).subs s lt))))))

-- ---- one more node

all-first : {A : Type 0} (P : A → Type 0) (xs : List A) (x : A) → All P (xs ++ x ∷ []) → All P xs × P x
all-first P [] x h = ((λ k d lt. absurd (omega (arith, lt))), h 0 x (omega arith))
all-first P (y ∷ ys) x h =
    let r = all-first P ys x (λ k d lt. h (suc k) d (omega (arith, lt))) in
    (front r.0, r.1)
  where
    front : All P ys → All P (y ∷ ys)
    front rest zero d lt = h 0 d (omega arith)
    front rest (suc k) d lt = rest k d (omega (arith, lt))

pub node-more : (u : Unit1) (f : Functions) (g : Graph) (n : Node) (rs : List Looked) → AreLooked u f (out-Node n).subs rs → (h : NodeUse) → IsUse f g n (insides rs) h →
    (old new : LookedNodes) → new.uses.items ≡ old.uses.items ++ h ∷ [] →
    (Tells u f → IsTrue (does_ask f.asked) → (more : ℕ) → node_levels n ≤ suc more → new.inside.items ≡ old.inside.items ++ map (flags_by f.asked u) (node_places more g n)) →
    (ns : List Node) → AreNodesLooked u f g ns old → AreNodesLooked u f g (ns ++ n ∷ []) new
node-more u f g n rs looked h known old new uses inside ns before =
    let same = insides-are u f (out-Node n).subs rs looked in
    record {
      inner = ap (map is_consumed_inside) uses ∙ mapped-more is_consumed_inside (is_consumed_by u) old.uses.items ns h n before.inner (inner-is u f g n (insides rs) same h known);
      uses = λ tells. ap (map (is_consumed f.inputs.items)) uses
          ∙ mapped-more (is_consumed f.inputs.items) (λ n. consumes_node u g (Some n)) old.uses.items ns h n (before.uses tells) (outer-is u f g n (insides rs) same h known tells);
      inside = λ tells asks more deep.
          let d = all-first (λ n. node_levels n ≤ suc more) ns n deep in
          inside tells asks more d.1
          ∙ (ap (λ fs. fs ++ map (flags_by f.asked u) (node_places more g n)) (before.inside tells asks more d.0)
          ∙ (sym (map-append (flags_by f.asked u) (flat_map (node_places more g) ns) (node_places more g n))
          ∙ ap (map (flags_by f.asked u)) (ap (λ ps. flat_map (node_places more g) ns ++ ps) (sym (append-nil (node_places more g n))) ∙ sym (flat_map-append (node_places more g) ns (n ∷ [])))));
    }

-- ---- a function

function-owned : (u : Unit1) (g : Graph) (i : Inputs) → inside_by i ≡ inside u.types g → (k : ℕ) (from : Origin) →
    is_owned_at (AsFunction i.given) g (users g from) from ≡ is_owned u (record { graph = g; home = Function k }) from
function-owned u g i e k (Lit text) = refl
function-owned u g i e k (Port zero port) = ap (λ (x : given.Inside). x.is_given port) e
function-owned u g i e k (Port (suc l) port) = refl

pub function-more : (u : Unit1) (f : Functions) (g : Graph) (r : Looked) → IsLooked u f g r → Tells u f → IsTrue (does_ask f.asked) → levels g ≤ most_levels → (own : List Bool) →
    own ≡ map (λ e. is_asked f.asked (is_consuming u g e) && is_owned_at (AsFunction r.inputs.given) g (users g e.from) e.from) (out-Graph g).edges →
    (old pushed new : List (List Bool)) → pushed ≡ old ++ own ∷ [] → new ≡ pushed ++ r.inside.items → (k : ℕ) → new ≡ old ++ map (flags_by f.asked u) (places_of most_levels (Function k) g)
function-more u f g r l tells asks flat own is old pushed new one all k =
    all
    ∙ (ap (λ fs. fs ++ r.inside.items) one
    ∙ (append_assoc old (own ∷ []) r.inside.items
    ∙ ap (λ fs. old ++ fs)
    (ap (λ x. x ∷ r.inside.items)
    (is
    ∙ map-same (λ e. is_asked f.asked (is_consuming u g e) && is_owned_at (AsFunction r.inputs.given) g (users g e.from) e.from) (λ e. is_asked f.asked (is_consuming u g e) && is_owned u (record { graph = g; home = Function k }) e.from)
    (λ e. ap (λ b. is_asked f.asked (is_consuming u g e) && b) (function-owned u g r.inputs l.inputs k e.from)) (out-Graph g).edges)
    ∙ (ap (λ fs. flags_by f.asked u (record { graph = g; home = Function k }) ∷ fs) (l.inside tells asks most_levels flat)
    ∙ ap (map (flags_by f.asked u)) (sym (places-are most_levels (Function k) g))))))

pub functions-more : (F : Place → List Bool) (gs : List Graph) (i : ℕ) (g : Graph) → i < length gs → g ≡ get_or gs i g → (old new : List (List Bool)) →
    old ≡ map F (each_from (λ k g. places_of most_levels (Function k) g) 0 (take i gs)) → ((k : ℕ) → new ≡ old ++ map F (places_of most_levels (Function k) g)) →
    new ≡ map F (each_from (λ k g. places_of most_levels (Function k) g) 0 (take (i + 1) gs))
functions-more F gs i g lt is old new was added =
    let before = each_from (λ k g. places_of most_levels (Function k) g) 0 (take i gs) in
    added i
    ∙ (ap (λ fs. fs ++ map F (places_of most_levels (Function i) g)) was
    ∙ (sym (map-append F before (places_of most_levels (Function i) g))
    ∙ ap (map F)
    (ap (λ x. before ++ places_of most_levels (Function i) x) is
    ∙ sym (each-more (λ k g. places_of most_levels (Function k) g) i gs g lt))))
