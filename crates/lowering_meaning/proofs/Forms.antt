-- What the source gives, what a phrase becomes gives, and fires at most eight times as often as the source takes steps: how phrases
-- are put together.
use Rattle.std.proofs.Common.{◌≡◌, ℕ, suc, ◌+◌, ◌*◌, ◌≤◌, List, [], ◌∷◌, ◌++◌, map, length, Some, refl, sym, ap, ◌∙◌, subst, arith, append_assoc, append-nil}
use Rattle.flow_value.specs.declared.value.Val.{Val}
use Rattle.flow_value.specs.declared.ty.Ty.{Ty}
use Rattle.type_table.specs.declared.form.Form.{Form}
use Rattle.typed_rows.specs.Rows.{AreOf}
use Rattle.meaning.specs.Timed.{given, plus, andthen}
use Rattle.meaning.specs.Meaning.{Gives as Means, all_of, defined, body_of}
use Rattle.lowering_meaning.proofs.Told.{Telling}
use Rattle.graph_meaning.specs.Demand.{Network}
use Rattle.typed_tree.specs.Types.{IsNumber, AreNumbers}
use Rattle.lowering.specs.declared.feed.Carried.{Carried}
use Rattle.lowering.specs.declared.feed.Carried.TheVariants.{One}
use Rattle.lowering.specs.declared.feed.Wire.{Wire}
use Rattle.lowering.specs.Feeds.{into}
use Rattle.lowering.specs.declared.graph.Lowered.{Lowered}
use Rattle.lowering.specs.Graphs.{Lowering, only, joined, ports, uses, used}
use Rattle.lowering.specs.Graphs as graphs
use Rattle.lowering.specs.Operations.{Lowers, all_lowered, defs_lowered, body_lowered}
use Rattle.lowering_meaning.proofs.Timed.{plus-some, then-some, given-is}
use Rattle.lowering_meaning.proofs.Wires.{AllWires, both-wires, left-wires, right-wires, weaker-wires, used-joined, FromNames, from-more, names-from, MadeFrom}
use Rattle.lowering_meaning.proofs.Sites.{Site, AllCarry, Placed, Done, done-only, done-both, done-more, carry-both, placed-left, placed-right}

-- ---- values of types

pub of-both : (ts us : List Ty) (vs ws : List Val) → AreOf ts vs → AreOf us ws → AreOf (ts ++ us) (vs ++ ws)
of-both [] us [] ws a b = b
of-both (t ∷ ts) us (v ∷ vs) ws a b = (a.0, of-both ts us vs ws a.1 b)
of-both [] us (v ∷ vs) ws a b = absurd a
of-both (t ∷ ts) us [] ws a b = absurd a

pub of-length : (ts : List Ty) (vs : List Val) → AreOf ts vs → length ts ≡ length vs
of-length [] [] a = refl
of-length (t ∷ ts) (v ∷ vs) a = ap suc (of-length ts vs a.1)
of-length [] (v ∷ vs) a = absurd a
of-length (t ∷ ts) [] a = absurd a

-- what is given on values of these types is of these types
abbrev pub Typed : List Ty → Means → List Ty → Type 0
Typed γ h tys = (names vs : List Val) (i : ℕ) → AreOf γ names → h names ≡ Some (vs, i) → AreOf tys vs

pub nil-typed : (γ : List Ty) → Typed γ (all_of []) []
nil-typed γ names vs i o e = subst (AreOf []) (given-is [] vs i e).0 tt

pub cons-typed : (γ : List Ty) (h : Means) (hs : List Means) (tys others : List Ty) → Typed γ h tys → Typed γ (all_of hs) others → Typed γ (all_of (h ∷ hs)) (tys ++ others)
cons-typed γ h hs tys others a b names vs i o e =
    let x = then-some (h names) _ vs i e in
    let y = then-some (all_of hs names) _ vs x.k x.second in
    let z = given-is (x.mid ++ y.mid) vs y.k y.second in
    subst (AreOf (tys ++ others)) z.0 (of-both tys others x.mid y.mid (a names x.mid x.j o x.first) (b names y.mid y.j o y.first))

pub nil-defs-typed : (γ : List Ty) → Typed γ (defined []) (γ ++ [])
nil-defs-typed γ names vs i o e = subst (λ ts. AreOf ts vs) (sym (append-nil γ)) (subst (AreOf γ) (given-is names vs i e).0 o)

pub cons-defs-typed : (γ : List Ty) (h : List Means) (hs : List (List Means)) (tys δ : List Ty) → Typed γ (all_of h) tys → Typed (γ ++ tys) (defined hs) ((γ ++ tys) ++ δ) → Typed γ (defined (h ∷ hs)) (γ ++ (tys ++ δ))
cons-defs-typed γ h hs tys δ a b names vs i o e =
    let x = then-some (all_of h names) _ vs i e in
    subst (λ ts. AreOf ts vs) (append_assoc γ tys δ) (b (names ++ x.mid) vs x.k (of-both γ tys names x.mid o (a names x.mid x.j o x.first)) x.second)

pub then-typed : (γ mids tys : List Ty) (h : Means) (k : List Val → Means) → Typed γ h mids → ((names : List Val) → AreOf γ names → Typed mids (k names) tys) → Typed γ (λ names. andthen (h names) (k names)) tys
then-typed γ mids tys h k a b names vs i o e =
    let x = then-some (h names) (k names) vs i e in
    b names o x.mid vs x.k (a names x.mid x.j o x.first) x.second

-- ---- what phrases use

pub from-both : (env : List Wire) (a b : Lowered) → MadeFrom env a → MadeFrom env b → MadeFrom env (joined a b)
from-both env a b x y =
    both-wires (FromNames env) (used (joined a b).nodes) b.values
    (used-joined (FromNames env) a.nodes b.nodes (left-wires _ (used a.nodes) a.values x) (left-wires _ (used b.nodes) b.values y))
    (right-wires _ (used b.nodes) b.values y)

pub values-from : (env : List Wire) (a : Lowered) → MadeFrom env a → AllWires (FromNames env) a.values
values-from env a x = right-wires _ (used a.nodes) a.values x

-- more names, which come from these
pub from-fewer : (env more : List Wire) (a : Lowered) → AllWires (FromNames env) more → MadeFrom more a → MadeFrom env a
from-fewer env more a h x = weaker-wires (FromNames more) (FromNames env) (from-more env more h) (uses a) x

abbrev pub Free : Lowers → Type 0
Free g = (env : List Wire) (k q : ℕ) → MadeFrom env (g env k q)

-- a phrase that sees these names and these wires beside them
abbrev pub FreeOn : (List Wire → List Wire → Lowering) → Type 0
FreeOn f = (env ws : List Wire) (k q : ℕ) → AllWires (FromNames env) ws → MadeFrom env (f env ws k q)

pub then-free : (g : Lowers) (f : List Wire → List Wire → Lowering) → Free g → FreeOn f → Free (λ env. graphs.andthen (g env) (f env))
then-free g f a b env k q =
    let m = g env k q in
    from-both env m (f env m.values (k + length m.nodes) (q + length m.graphs)) (a env k q) (b env m.values (k + length m.nodes) (q + length m.graphs) (values-from env m (a env k q)))

-- ---- types of wires

-- what is carried is a value of this type, by its number
abbrev pub HasType : List Form → List (List ℕ) → Carried → Ty → Type 0
HasType forms spellings (One n) t = IsNumber forms spellings n t
HasType forms spellings _ t = ⊥

abbrev pub WiresOf : List Form → List (List ℕ) → List Ty → List Wire → Type 0
WiresOf forms spellings [] [] = Unit {0}
WiresOf forms spellings (t ∷ ts) (w ∷ ws) = HasType forms spellings w.ty t × WiresOf forms spellings ts ws
WiresOf forms spellings _ _ = ⊥

pub wires-both : (forms : List Form) (spellings : List (List ℕ)) (ts us : List Ty) (vs ws : List Wire) → WiresOf forms spellings ts vs → WiresOf forms spellings us ws → WiresOf forms spellings (ts ++ us) (vs ++ ws)
wires-both forms spellings [] us [] ws a b = b
wires-both forms spellings (t ∷ ts) us (v ∷ vs) ws a b = (a.0, wires-both forms spellings ts us vs ws a.1 b)
wires-both forms spellings [] us (v ∷ vs) ws a b = absurd a
wires-both forms spellings (t ∷ ts) us [] ws a b = absurd a

pub wires-into : (forms : List Form) (spellings : List (List ℕ)) (ts : List Ty) (ws : List Wire) → WiresOf forms spellings ts ws → WiresOf forms spellings ts (map into ws)
wires-into forms spellings [] [] a = tt
wires-into forms spellings (t ∷ ts) (w ∷ ws) a = (a.0, wires-into forms spellings ts ws a.1)
wires-into forms spellings [] (w ∷ ws) a = absurd a
wires-into forms spellings (t ∷ ts) [] a = absurd a

pub ports-wired : (forms : List Form) (spellings : List (List ℕ)) (n port : ℕ) (ns : List ℕ) (tys : List Ty) → AreNumbers forms spellings ns tys → WiresOf forms spellings tys (ports n port (map One ns))
ports-wired forms spellings n port [] [] a = tt
ports-wired forms spellings n port (k ∷ ns) (t ∷ tys) a = (a.0, ports-wired forms spellings n (suc port) ns tys a.1)
ports-wired forms spellings n port [] (t ∷ tys) a = absurd a
ports-wired forms spellings n port (k ∷ ns) [] a = absurd a

-- where the names in force have wires of their types, so have the values
abbrev pub Wired : List Form → List (List ℕ) → List Ty → Lowers → List Ty → Type 0
Wired forms spellings γ g tys = (env : List Wire) (k q : ℕ) → WiresOf forms spellings γ env → WiresOf forms spellings tys (g env k q).values

module _ (u : Network) (number : ℕ → ℕ) (shape : Telling) (forms : List Form) (spellings : List (List ℕ)) where
  -- wherever a phrase stands, on these values of the names it gives these values, with at most so many firings
  abbrev pub Draws : List Ty → Lowers → List Val → List Val → ℕ → Type 0
  Draws γ g names vs limit = (s : Site) (k q : ℕ) (env : List Wire) → WiresOf forms spellings γ env → AllCarry u number shape s env names → Placed u number shape s k q (g env k q) → Done u number shape s k (g env k q) vs limit

  pub record Runs (γ : List Ty) (g : Lowers) (names vs : List Val) (slack most : ℕ) : Type 0 where
    pub limit : ℕ
    pub bound : slack + limit ≤ most
    pub draws : Draws γ g names vs limit

  -- What the source gives on values of these types, the phrase gives. With so much it stays below eight a step and so much.
  pub record Drawn (γ : List Ty) (slack credit : ℕ) (g : Lowers) (h : Means) : Type 0 where
    pub free : Free g
    pub runs : (names vs : List Val) (i : ℕ) → AreOf γ names → h names ≡ Some (vs, i) → Runs γ g names vs slack (credit + 8 * i)

  pub drawn-as : (γ : List Ty) (slack credit : ℕ) (g g' : Lowers) (h h' : Means) → ((env : List Wire) → g' env ≡ g env) → ((names : List Val) → h' names ≡ h names) → Drawn γ slack credit g h → Drawn γ slack credit g' h'
  drawn-as γ slack credit g g' h h' eg eh d = record {
    free = λ env k q. subst (λ f. MadeFrom env (f k q)) (sym (eg env)) (d.free env k q);
    runs = λ names vs i o e.
        let r = d.runs names vs i o (sym (eh names) ∙ e) in
        record {
          limit = r.limit;
          bound = r.bound;
          draws = λ s k q env e a pl. subst (λ f. Done u number shape s k (f k q) vs r.limit) (sym (eg env)) (r.draws s k q env e a (subst (λ f. Placed u number shape s k q (f k q)) (eg env) pl));
        };
  }

  -- an expression takes a step more than what it is made of
  pub step-drawn : (γ : List Ty) (g : Lowers) (h : Means) → Drawn γ 0 7 g h → Drawn γ 1 0 g (λ names. plus 1 (h names))
  step-drawn γ g h d = record {
    free = d.free;
    runs = λ names vs i o e.
        let x = plus-some 1 (h names) vs i e in
        let r = d.runs names vs x.0 o x.1 in
        record { limit = r.limit; bound = omega (arith, r.bound, x.2); draws = r.draws };
  }

  -- ---- lists of phrases

  pub nil-drawn : (γ : List Ty) → Drawn γ 0 0 (all_lowered []) (all_of [])
  nil-drawn γ = record {
    free = λ env k q. tt;
    runs = λ names vs i o e. record {
      limit = 0;
      bound = omega arith;
      draws = λ s k q env w a pl. subst (λ ws. Done u number shape s k (all_lowered [] env k q) ws 0) (given-is [] vs i e).0 (done-only u number shape s k (all_lowered [] env k q) [] refl tt);
    };
  }

  -- a phrase before others
  pub join-drawn : (γ : List Ty) (some slack : ℕ) (g : Lowers) (gs : List Lowers) (h t : Means) → Drawn γ some 0 g h → Drawn γ slack 0 (all_lowered gs) t
      → Drawn γ (some + slack) 0 (all_lowered (g ∷ gs)) (λ names. andthen (h names) (λ vs. andthen (t names) (λ ws. given (vs ++ ws))))
  join-drawn γ some slack g gs h t a b = record {
    free = λ env k q.
        let m = g env k q in
        let n = all_lowered gs env (k + length m.nodes) (q + length m.graphs) in
        let x = a.free env k q in
        let y = b.free env (k + length m.nodes) (q + length m.graphs) in
        let l : Lowered = only (m.values ++ n.values) (k + length m.nodes + length n.nodes) (q + length m.graphs + length n.graphs) in
        from-both env m (joined n l) x (from-both env n l y (both-wires (FromNames env) m.values n.values (values-from env m x) (values-from env n y)));
    runs = λ names vs i o e.
        let x = then-some (h names) _ vs i e in
        let y = then-some (t names) (λ ws. given (x.mid ++ ws)) vs x.k x.second in
        let z = given-is (x.mid ++ y.mid) vs y.k y.second in
        let r = a.runs names x.mid x.j o x.first in
        let w = b.runs names y.mid y.j o y.first in
        record {
          limit = r.limit + w.limit;
          bound = omega (arith, r.bound, w.bound, x.sum, y.sum, z.1);
          draws = λ s k q env e c pl. subst (λ ws. Done u number shape s k (all_lowered (g ∷ gs) env k q) ws (r.limit + w.limit)) z.0 (listed env k q s x.mid y.mid r.limit w.limit e c pl r.draws w.draws);
        };
  }
    where
      listed : (env : List Wire) (k q : ℕ) (s : Site) {names : List Val} (vs ws : List Val) (i j : ℕ) → WiresOf forms spellings γ env → AllCarry u number shape s env names → Placed u number shape s k q (all_lowered (g ∷ gs) env k q)
          → Draws γ g names vs i → Draws γ (all_lowered gs) names ws j → Done u number shape s k (all_lowered (g ∷ gs) env k q) (vs ++ ws) (i + j)
      listed env k q s vs ws i j e c pl dg dgs =
          let m = g env k q in
          let n = all_lowered gs env (k + length m.nodes) (q + length m.graphs) in
          let l : Lowered = only (m.values ++ n.values) (k + length m.nodes + length n.nodes) (q + length m.graphs + length n.graphs) in
          let z = dg s k q env e c (placed-left u number shape s k q m (joined n l) pl) in
          let pl' = placed-right u number shape s k q m (joined n l) pl in
          let w = dgs s (k + length m.nodes) (q + length m.graphs) env e c (placed-left u number shape s (k + length m.nodes) (q + length m.graphs) n l pl') in
          let t = done-only u number shape s (k + length m.nodes + length n.nodes) l (vs ++ ws) refl (carry-both u number shape s m.values vs n.values ws z.held w.held) in
          done-more u number shape s k (joined m (joined n l)) (vs ++ ws) (i + (j + 0)) (i + j) (done-both u number shape s k m (joined n l) vs (vs ++ ws) i (j + 0) z (done-both u number shape s (k + length m.nodes) n l ws (vs ++ ws) j 0 w t)) (omega arith)

  pub less-drawn : (γ : List Ty) (some slack credit more : ℕ) (g : Lowers) (h : Means) → slack ≤ some → credit ≤ more → Drawn γ some credit g h → Drawn γ slack more g h
  less-drawn γ some slack credit more g h le lm b = record { free = b.free; runs = λ names vs i o e. let r = b.runs names vs i o e in record { limit = r.limit; bound = omega (arith, r.bound, le, lm); draws = r.draws } }

  pub cons-drawn : (γ : List Ty) (slack : ℕ) (g : Lowers) (gs : List Lowers) (h : Means) (hs : List Means) → Drawn γ 1 0 g h → Drawn γ slack 0 (all_lowered gs) (all_of hs) → Drawn γ (suc slack) 0 (all_lowered (g ∷ gs)) (all_of (h ∷ hs))
  cons-drawn γ slack g gs h hs a b = less-drawn γ (1 + slack) (suc slack) 0 0 (all_lowered (g ∷ gs)) (all_of (h ∷ hs)) (omega arith) (omega arith) (join-drawn γ 1 slack g gs h (all_of hs) a b)

  -- what is given on values of the types is given by another
  pub drawn-when : (γ : List Ty) (slack credit : ℕ) (g : Lowers) (h k : Means) → Drawn γ slack credit g h → ((names vs : List Val) (i : ℕ) → AreOf γ names → k names ≡ Some (vs, i) → h names ≡ Some (vs, i)) → Drawn γ slack credit g k
  drawn-when γ slack credit g h k d w = record { free = d.free; runs = λ names vs i o e. d.runs names vs i o (w names vs i o e) }

  -- ---- one after the other

  -- what stands behind, which sees the names and what comes before it
  pub record RunsOn (γ mids : List Ty) (f : List Wire → List Wire → Lowering) (names vs rs : List Val) (slack most : ℕ) : Type 0 where
    pub limit : ℕ
    pub bound : slack + limit ≤ most
    pub draws : (s : Site) (k q : ℕ) (env ws : List Wire) → WiresOf forms spellings γ env → WiresOf forms spellings mids ws → AllCarry u number shape s env names → AllCarry u number shape s ws vs → Placed u number shape s k q (f env ws k q) → Done u number shape s k (f env ws k q) rs limit

  abbrev pub DrawnOn : List Ty → List Ty → ℕ → ℕ → (List Wire → List Wire → Lowering) → (List Val → Means) → Type 0
  DrawnOn γ mids slack credit f h = (names vs rs : List Val) (j : ℕ) → AreOf γ names → AreOf mids vs → h names vs ≡ Some (rs, j) → RunsOn γ mids f names vs rs slack (credit + 8 * j)

  pub then-drawn : (γ mids : List Ty) (some slack credit : ℕ) (g : Lowers) (h : Means) (f : List Wire → List Wire → Lowering) (k : List Val → Means)
      → Drawn γ some 0 g h → Typed γ h mids → Wired forms spellings γ g mids → FreeOn f → DrawnOn γ mids slack credit f k
      → Drawn γ slack credit (λ env. graphs.andthen (g env) (f env)) (λ names. andthen (h names) (k names))
  then-drawn γ mids some slack credit g h f k a t wr fr b = record {
    free = then-free g f a.free fr;
    runs = λ names vs i o e.
        let x = then-some (h names) (k names) vs i e in
        let r = a.runs names x.mid x.j o x.first in
        let w = b names x.mid vs x.k o (t names x.mid x.j o x.first) x.second in
        record {
          limit = r.limit + w.limit;
          bound = omega (arith, r.bound, w.bound, x.sum);
          draws = λ s n q env e c pl.
              let m = g env n q in
              let l = f env m.values (n + length m.nodes) (q + length m.graphs) in
              let z = r.draws s n q env e c (placed-left u number shape s n q m l pl) in
              done-both u number shape s n m l x.mid vs r.limit w.limit z (w.draws s (n + length m.nodes) (q + length m.graphs) env m.values e (wr env n q e) c z.held (placed-right u number shape s n q m l pl));
        };
  }

  -- what stands behind sees what comes before it alone
  pub on-drawn : (γ mids : List Ty) (some slack credit : ℕ) (g : Lowers) (h : Means) → Drawn mids (some + slack) credit g h → DrawnOn γ mids slack credit (λ env ws. g ws) (λ names. h)
  on-drawn γ mids some slack credit g h d names vs rs j o m e =
      let r = d.runs vs rs j m e in
      record { limit = r.limit; bound = omega (arith, r.bound); draws = λ s k q env ws d e a b pl. r.draws s k q ws e b pl }

  -- ---- definitions

  pub nil-defs-drawn : (γ : List Ty) → Drawn γ 0 0 (defs_lowered []) (defined [])
  nil-defs-drawn γ = record {
    free = λ env k q. names-from env;
    runs = λ names vs i o e. record {
      limit = 0;
      bound = omega arith;
      draws = λ s k q env w a pl. subst (λ ws. Done u number shape s k (defs_lowered [] env k q) ws 0) (given-is names vs i e).0 (done-only u number shape s k (defs_lowered [] env k q) names refl a);
    };
  }

  pub cons-defs-drawn : (γ tys : List Ty) (some : ℕ) (g : List Lowers) (gs : List (List Lowers)) (h : List Means) (hs : List (List Means))
      → Drawn γ some 0 (all_lowered g) (all_of h) → Typed γ (all_of h) tys → Wired forms spellings γ (all_lowered g) tys → Drawn (γ ++ tys) 0 0 (defs_lowered gs) (defined hs) → Drawn γ 0 0 (defs_lowered (g ∷ gs)) (defined (h ∷ hs))
  cons-defs-drawn γ tys some g gs h hs a t wr b =
      then-drawn γ tys some 0 0 (all_lowered g) (all_of h) (λ env vs. defs_lowered gs (env ++ vs)) (λ names vs. defined hs (names ++ vs)) a t wr
      (λ env ws k q w. from-fewer env (env ++ ws) (defs_lowered gs (env ++ ws) k q) (both-wires (FromNames env) env ws (names-from env) w) (b.free (env ++ ws) k q))
      (λ names vs rs j o m e.
      let r = b.runs (names ++ vs) rs j (of-both γ tys names vs o m) e in
      record { limit = r.limit; bound = r.bound; draws = λ s k q env ws e f c d pl. r.draws s k q (env ++ ws) (wires-both forms spellings γ tys env ws e f) (carry-both u number shape s env names ws vs c d) pl })

  pub body-drawn : (γ δ : List Ty) (some : ℕ) (ds : List (List Lowers)) (gs : List Lowers) (es : List (List Means)) (hs : List Means)
      → Drawn γ 0 0 (defs_lowered ds) (defined es) → Typed γ (defined es) (γ ++ δ) → Wired forms spellings γ (defs_lowered ds) (γ ++ δ) → Drawn (γ ++ δ) some 0 (all_lowered gs) (all_of hs) → Drawn γ 0 0 (body_lowered ds gs) (body_of es hs)
  body-drawn γ δ some ds gs es hs a t wr b =
      then-drawn γ (γ ++ δ) 0 0 0 (defs_lowered ds) (defined es) (λ env ws. all_lowered gs ws) (λ names. all_of hs) a t wr
      (λ env ws k q w. from-fewer env ws (all_lowered gs ws k q) w (b.free ws k q))
      (on-drawn γ (γ ++ δ) some 0 0 (all_lowered gs) (all_of hs) (drawn-less γ δ some gs hs b))
    where
      drawn-less : (γ δ : List Ty) (some : ℕ) (gs : List Lowers) (hs : List Means) → Drawn (γ ++ δ) some 0 (all_lowered gs) (all_of hs) → Drawn (γ ++ δ) (some + 0) 0 (all_lowered gs) (all_of hs)
      drawn-less γ δ some gs hs b = record { free = b.free; runs = λ names vs i o e. let r = b.runs names vs i o e in record { limit = r.limit; bound = omega (arith, r.bound); draws = r.draws } }
