-- What does not read the value at a level gives the same whatever that value is.
use Rattle.std.proofs.Common.{◌≡◌, ◌<◌, ℕ, zero, suc, pos, Bool, true, false, ◌||◌, List, [], ◌∷◌, ◌++◌, map, length, take, drop, set, inl, inr, nat_eq, slice_get, slice_set, if◌then◌else◌, nat_lt, arith, refl, sym, ap, subst, ◌∙◌, append_assoc, append-nil}
use Rattle.std.proofs.lemmas.Bool.{cases_lt, eqb-false}
use Rattle.std.proofs.lemmas.List.{length-take, set_past}
use Rattle.std.proofs.Math.Seq.{drop-append_seam}
use Rattle.flow_value.specs.declared.value.Val.{Val}
use Rattle.flow_value.specs.declared.value.Val.TheOpen.{Val-F}
use Rattle.flow_value.specs.declared.value.Val.TheViews.{out-Val}
use Rattle.value_ops.specs.Operations.{op_value}
use Rattle.typed_tree.specs.declared.expr.TypedExpr.{TypedExpr, roll-TypedExpr}
use Rattle.typed_tree.specs.declared.expr.TypedKind.{TypedKind}
use Rattle.typed_tree.specs.declared.expr.TypedKind.TheViews.{roll-TypedKind}
use Rattle.typed_tree.specs.declared.expr.TypedKind.TheOpen.{TypedKind-F, TypedExpr-F}
use Rattle.typed_tree.specs.declared.expr.TypedKind.TheFolds.{map-TypedKind, map-TypedExpr, fold-roll-TypedKind, fold-roll-TypedExpr, ind-TypedExpr}
use Rattle.typed_tree.specs.declared.expr.Case.{Case}
use Rattle.typed_tree.specs.declared.expr.Product.{Product}
use Rattle.typed_tree.specs.declared.expr.Source.{Source}
use Rattle.typed_tree.specs.declared.expr.Turns.{Turns}
use Rattle.meaning.specs.declared.words.Test.{Test}
use Rattle.meaning.specs.declared.words.Test.TheVariants as test
use Rattle.meaning.specs.declared.sources.Places.{Places}
use Rattle.meaning.specs.declared.sources.Places.TheVariants as places
use Rattle.meaning.specs.Timed.{Timed, given, plus, andthen}
use Rattle.meaning.specs.Words.{value_at, test_of, goes_on}
use Rattle.meaning.specs.Sources.{places_of, lower_of}
use Rattle.meaning.specs.Meaning.{Gives, all_of, defined, body_of, chosen, arm_in, arm_place, arm_of, each, environments, at_place, folded, over, Members, member, renew, turned, turn, turns, members, unless_failed, looped, kind_gives, calls, meaning, kind_meaning}
use Rattle.source_meaning.specs.Pending.{Program}
use Rattle.source_meaning.specs.Reads.{form_reads, expr_reads, reads, kind_reads, list_reads, defs_read}
use Rattle.source_meaning.proofs.Laws.{given_then, then_same, then_then}
use Rattle.source_meaning.proofs.Grows.{meaning_is, layer_is}

-- ---- booleans

neither_first : (a b : Bool) → (a || b) ≡ false → a ≡ false
neither_first false b h = refl
neither_first true b h = h

neither_second : (a b : Bool) → (a || b) ≡ false → b ≡ false
neither_second false b h = h
neither_second true b h = absurd (cc)

then_both : {A B : Type 0} (a b : Timed A) (f g : A → Timed B) → a ≡ b → ((x : A) → f x ≡ g x) → andthen a f ≡ andthen b g
then_both a b f g h k = ap (λ t. andthen t f) h ∙ then_same b f g k

-- the value at another level
other_at : (xs : List Val) (a b : Val) (ys : List Val) (x : ℕ) → (x ≡ length xs → ⊥) → value_at (xs ++ a ∷ ys) x ≡ value_at (xs ++ b ∷ ys) x
other_at [] a b ys zero h = absurd (h refl)
other_at [] a b ys (suc x) h = refl
other_at (z ∷ xs) a b ys zero h = refl
other_at (z ∷ xs) a b ys (suc x) h = other_at xs a b ys x (λ e. h (ap suc e))

other_value : (xs : List Val) (a b : Val) (ys : List Val) (x : ℕ) → nat_eq x (length xs) ≡ false → value_at (xs ++ a ∷ ys) x ≡ value_at (xs ++ b ∷ ys) x
other_value xs a b ys x h = other_at xs a b ys x (eqb-false x (length xs) h)

-- whether an expression reads a level, by its form
expr_reads_is : (l : ℕ) (e : TypedExpr) → reads l e ≡ kind_reads l e.kind
expr_reads_is l e = fold-roll-TypedExpr Bool Bool (form_reads l) expr_reads (record { line = e.line; types = e.types; kind = e.kind })

module _ (xs : List Val) where
  -- a list in whose place behind xs another value may stand
  abbrev pub Blind : Gives → Type 0
  Blind g = (a b : Val) (ys : List Val) → g (xs ++ a ∷ ys) ≡ g (xs ++ b ∷ ys)

  abbrev pub BlindAll : List Gives → Type 0
  BlindAll [] = Unit {0}
  BlindAll (g ∷ gs) = Blind g × BlindAll gs

  abbrev pub BlindDefs : List (List Gives) → Type 0
  BlindDefs [] = Unit {0}
  BlindDefs (d ∷ ds) = BlindAll d × BlindDefs ds

  behind : (a : Val) (ys us : List Val) → (xs ++ a ∷ ys) ++ us ≡ xs ++ a ∷ (ys ++ us)
  behind a ys us = append_assoc xs (a ∷ ys) us

  -- what stands behind the names
  left_behind : (a : Val) (ys us : List Val) → drop (length (xs ++ a ∷ ys)) (xs ++ a ∷ (ys ++ us)) ≡ us
  left_behind a ys us = ap (drop (length (xs ++ a ∷ ys))) (sym (behind a ys us)) ∙ drop-append_seam (xs ++ a ∷ ys) us

  -- the same of names with more behind them
  blind_behind : (g : Gives) → Blind g → (a b : Val) (ys us : List Val) → g ((xs ++ a ∷ ys) ++ us) ≡ g ((xs ++ b ∷ ys) ++ us)
  blind_behind g h a b ys us = ap g (behind a ys us) ∙ h a b (ys ++ us) ∙ ap g (sym (behind b ys us))

  pub all_blind : (gs : List Gives) → BlindAll gs → Blind (all_of gs)
  all_blind [] h a b ys = refl
  all_blind (g ∷ gs) h a b ys =
      then_both _ _ (λ vs. andthen (all_of gs (xs ++ a ∷ ys)) (λ ws. given (vs ++ ws))) (λ vs. andthen (all_of gs (xs ++ b ∷ ys)) (λ ws. given (vs ++ ws))) (h.0 a b ys)
      (λ vs. ap (λ t. andthen t (λ ws. given (vs ++ ws))) (all_blind gs h.1 a b ys))

  -- definitions, and what goes on behind them
  pub defined_blind : {B : Type 0} (ds : List (List Gives)) → BlindDefs ds → (a b : Val) (ys : List Val) (F G : List Val → Timed B)
      → ((us : List Val) → F (xs ++ a ∷ (ys ++ us)) ≡ G (xs ++ b ∷ (ys ++ us))) → andthen (defined ds (xs ++ a ∷ ys)) F ≡ andthen (defined ds (xs ++ b ∷ ys)) G
  defined_blind [] h a b ys F G k =
      given_then (xs ++ a ∷ ys) F
      ∙ ap (λ l. F (xs ++ a ∷ l)) (sym (append-nil ys)) ∙ k [] ∙ ap (λ l. G (xs ++ b ∷ l)) (append-nil ys)
      ∙ sym (given_then (xs ++ b ∷ ys) G)
  defined_blind (d ∷ ds) h a b ys F G k =
      then_then (all_of d (xs ++ a ∷ ys)) (λ vs. defined ds ((xs ++ a ∷ ys) ++ vs)) F
      ∙ then_both _ _ (λ vs. andthen (defined ds ((xs ++ a ∷ ys) ++ vs)) F) (λ vs. andthen (defined ds ((xs ++ b ∷ ys) ++ vs)) G) (all_blind d h.0 a b ys)
      (λ vs.
      ap (λ e. andthen (defined ds e) F) (behind a ys vs)
      ∙ defined_blind ds h.1 a b (ys ++ vs) F G
      (λ us. ap (λ l. F (xs ++ a ∷ l)) (append_assoc ys vs us) ∙ k (vs ++ us) ∙ ap (λ l. G (xs ++ b ∷ l)) (sym (append_assoc ys vs us)))
      ∙ ap (λ e. andthen (defined ds e) G) (sym (behind b ys vs)))
      ∙ sym (then_then (all_of d (xs ++ b ∷ ys)) (λ vs. defined ds ((xs ++ b ∷ ys) ++ vs)) G)

  body_blind : (ds : List (List Gives)) (gs : List Gives) → BlindDefs ds → BlindAll gs → Blind (body_of ds gs)
  body_blind ds gs h k a b ys = defined_blind ds h a b ys (all_of gs) (all_of gs) (λ us. all_blind gs k a b (ys ++ us))

  chosen_same : (n : ℕ) (t : Test) (a b c d : Timed (List Val)) → a ≡ c → b ≡ d → chosen n t a b ≡ chosen n t c d
  chosen_same n t a b c d h k = ap (λ x. chosen n t x b) h ∙ ap (λ x. chosen n t c x) k

  -- ---- `tagcase`

  content_blind : (g : Gives) → Blind g → (c : Bool) (v a b : Val) (ys : List Val) → g (if c then (xs ++ a ∷ ys) ++ v ∷ [] else xs ++ a ∷ ys) ≡ g (if c then (xs ++ b ∷ ys) ++ v ∷ [] else xs ++ b ∷ ys)
  content_blind g h true v a b ys = blind_behind g h a b ys (v ∷ [])
  content_blind g h false v a b ys = h a b ys

  arm_in_blind : (c : Case) (n : ℕ) (gs : List Gives) → BlindAll gs → (at place : ℕ) (v : Val) → Blind (arm_in c n (slice_get gs at) place v)
  arm_in_blind c n [] h at place v a b ys = refl
  arm_in_blind c n (g ∷ gs) h zero place v a b ys = content_blind g h.0 (nat_lt place c.named) v a b ys
  arm_in_blind c n (g ∷ gs) h (suc at) place v a b ys = arm_in_blind c n gs h.1 at place v a b ys

  arm_blind : (c : Case) (n : ℕ) (gs : List Gives) → BlindAll gs → (v : Val-F Val) → Blind (arm_of c n gs v)
  arm_blind c n gs h (Val-F.Uni tag v) a b ys = arm_in_blind c n gs h (arm_place c.choices c.others tag) (arm_place c.choices c.others tag) v a b ys
  arm_blind c n gs h (Val-F.Err x) a b ys = refl
  arm_blind c n gs h (Val-F.Int x) a b ys = refl
  arm_blind c n gs h (Val-F.Bool x) a b ys = refl
  arm_blind c n gs h (Val-F.Char x) a b ys = refl
  arm_blind c n gs h Val-F.Null a b ys = refl
  arm_blind c n gs h (Val-F.Arr x) a b ys = refl
  arm_blind c n gs h (Val-F.Rec x) a b ys = refl
  arm_blind c n gs h (Val-F.Stream x) a b ys = refl

  arms_blind : (ds : List (List Gives)) → BlindDefs ds → BlindAll (map all_of ds)
  arms_blind [] h = tt
  arms_blind (d ∷ ds) h = (all_blind d h.0, arms_blind ds h.1)

  -- ---- loops

  places_blind : (g : Gives) → Blind g → (ss : List Source) (bs : List Val) (count left : ℕ) (a b : Val) (ys : List Val)
      → each (at_place g) (environments ss bs (xs ++ a ∷ ys) count left) ≡ each (at_place g) (environments ss bs (xs ++ b ∷ ys) count left)
  places_blind g h ss bs count zero a b ys = refl
  places_blind g h ss bs count (suc left) a b ys =
      then_both _ _ (λ row. andthen (each (at_place g) (environments ss bs (xs ++ a ∷ ys) count left)) (λ rows. given (row ∷ rows))) (λ row. andthen (each (at_place g) (environments ss bs (xs ++ b ∷ ys) count left)) (λ rows. given (row ∷ rows)))
      (ap (plus 1) (blind_behind g h a b ys _))
      (λ row. ap (λ t. andthen t (λ rows. given (row ∷ rows))) (places_blind g h ss bs count left a b ys))

  over_blind : (q : Product) (k : ℕ) (g : Gives) → Blind g → (bs : List Val) (m : Places) → Blind (over q k g bs m)
  over_blind q k g h bs (places.Count m) a b ys = ap (λ t. andthen t (folded q.clauses (lower_of bs))) (places_blind g h q.sources bs m m a b ys)
  over_blind q k g h bs (places.Failed c) a b ys = refl

  turned_blind : (t : Turns) (ds : List (List Gives)) → BlindDefs ds → (a b : Val) (ys l : List Val) → turned t ds (xs ++ a ∷ ys) l ≡ turned t ds (xs ++ b ∷ ys) l
  turned_blind t ds h a b ys l =
      let T : List Val → Timed (List Val) = λ e. andthen (defined ds e) (λ all. given (renew t.renewed (drop (length e) all) l)) in
      let F : Val → List Val → Timed (List Val) = λ c all. given (renew t.renewed (drop (length (xs ++ c ∷ (ys ++ l))) all) l) in
      ap T (behind a ys l)
      ∙ defined_blind ds h a b (ys ++ l) (F a) (F b)
      (λ us. ap (λ e. given (renew t.renewed e l)) (left_behind a (ys ++ l) us ∙ sym (left_behind b (ys ++ l) us)))
      ∙ ap T (sym (behind b ys l))

  turn_same : (t : Test) (m k : List Val → Timed Members) (x y : Gives) (l : List Val) → ((v : List Val) → m v ≡ k v) → x l ≡ y l → turn m x l t ≡ turn k y l t
  turn_same test.Yes m k x y l h i = ap (plus 1) (then_both (x l) (y l) _ _ i (λ v. ap (λ s. andthen s (λ s. given (member l s))) (h v)))
  turn_same test.No m k x y l h i = refl
  turn_same (test.Failed c) m k x y l h i = refl

  turns_same : (n : ℕ) (u : Bool) (tests : Gives) (next : List Val → Gives) (e f : List Val) → ((l : List Val) → tests (e ++ l) ≡ tests (f ++ l)) → ((l : List Val) → next e l ≡ next f l)
      → (l : List Val) → turns n u tests next e l ≡ turns n u tests next f l
  turns_same zero u tests next e f h i l = refl
  turns_same (suc n) u tests next e f h i l =
      then_both _ _ (λ ts. turn (turns n u tests next e) (next e) l (goes_on u (test_of ts))) (λ ts. turn (turns n u tests next f) (next f) l (goes_on u (test_of ts))) (h l)
      (λ ts. turn_same (goes_on u (test_of ts)) (turns n u tests next e) (turns n u tests next f) (next e) (next f) l (turns_same n u tests next e f h i) (i l))

  members_same : (n : ℕ) (first u : Bool) (tests : Gives) (next : List Val → Gives) (e f : List Val) → ((l : List Val) → tests (e ++ l) ≡ tests (f ++ l)) → ((l : List Val) → next e l ≡ next f l)
      → (l : List Val) → members n first u tests next e l ≡ members n first u tests next f l
  members_same n true u tests next e f h i l = turns_same n u tests next e f h i l
  members_same n false u tests next e f h i l = turn_same test.Yes (turns n u tests next e) (turns n u tests next f) (next e) (next f) l (turns_same n u tests next e f h i) (i l)

  each_same : (g h : Gives) → ((m : List Val) → g m ≡ h m) → (ms : List (List Val)) → each g ms ≡ each h ms
  each_same g h k [] = refl
  each_same g h k (m ∷ ms) =
      then_both (g m) (h m) (λ row. andthen (each g ms) (λ rows. given (row ∷ rows))) (λ row. andthen (each h ms) (λ rows. given (row ∷ rows))) (k m)
      (λ row. ap (λ t. andthen t (λ rows. given (row ∷ rows))) (each_same g h k ms))

  looped_blind : (n : ℕ) (t : Turns) (k : ℕ) (tests : Gives) (ds : List (List Gives)) (values : Gives) → Blind tests → BlindDefs ds → Blind values
      → (a b : Val) (ys l : List Val) → looped n t k tests (turned t ds) values (xs ++ a ∷ ys) l ≡ looped n t k tests (turned t ds) values (xs ++ b ∷ ys) l
  looped_blind n t k tests ds values h i j a b ys l =
      then_both _ _ (λ s. andthen (each (λ m. values ((xs ++ a ∷ ys) ++ m)) s.lists) (λ rows. unless_failed k s.failure (folded t.clauses (pos 1) rows)))
      (λ s. andthen (each (λ m. values ((xs ++ b ∷ ys) ++ m)) s.lists) (λ rows. unless_failed k s.failure (folded t.clauses (pos 1) rows)))
      (members_same n t.is_first t.is_until tests (turned t ds) (xs ++ a ∷ ys) (xs ++ b ∷ ys) (blind_behind tests h a b ys) (turned_blind t ds i a b ys) l)
      (λ s. ap (λ r. andthen r (λ rows. unless_failed k s.failure (folded t.clauses (pos 1) rows))) (each_same (λ m. values ((xs ++ a ∷ ys) ++ m)) (λ m. values ((xs ++ b ∷ ys) ++ m)) (blind_behind values j a b ys) s.lists))

  -- ---- one form, from its parts

  abbrev Is : ℕ → Program → TypedExpr → Type 0
  Is n p e = reads (length xs) e ≡ false → Blind (meaning n p e)

  abbrev KindIs : ℕ → Program → TypedKind → Type 0
  KindIs n p x = kind_reads (length xs) x ≡ false → (k : ℕ) → Blind (kind_meaning n p x k)

  abbrev Proved : ℕ → Program → Type 0
  Proved n p = (e : TypedExpr) × Is n p e

  abbrev KindProved : ℕ → Program → Type 0
  KindProved n p = (x : TypedKind) × KindIs n p x

  -- the parts, what they give, and whether they read the level
  abbrev G : (n : ℕ) (p : Program) → List (Proved n p) → List Gives
  G n p es = map (meaning n p) (map (λ e. e.0) es)

  abbrev H : (n : ℕ) (p : Program) → List (List (Proved n p)) → List (List Gives)
  H n p ds = map (map (meaning n p)) (map (map (λ e. e.0)) ds)

  abbrev R : (n : ℕ) (p : Program) → List (Proved n p) → Bool
  R n p es = list_reads (length xs) (map (λ e. e.0) es)

  abbrev RD : (n : ℕ) (p : Program) → List (List (Proved n p)) → Bool
  RD n p ds = defs_read (length xs) (map (map (λ e. e.0)) ds)

  parts_blind : (n : ℕ) (p : Program) (es : List (Proved n p)) → list_reads (length xs) (map (λ e. e.0) es) ≡ false → BlindAll (map (meaning n p) (map (λ e. e.0) es))
  parts_blind n p [] h = tt
  parts_blind n p (e ∷ es) h = (e.1 (neither_first (reads (length xs) e.0) (R n p es) h), parts_blind n p es (neither_second (reads (length xs) e.0) (R n p es) h))

  lists_blind : (n : ℕ) (p : Program) (ds : List (List (Proved n p))) → defs_read (length xs) (map (map (λ e. e.0)) ds) ≡ false → BlindDefs (map (map (meaning n p)) (map (map (λ e. e.0)) ds))
  lists_blind n p [] h = tt
  lists_blind n p (d ∷ ds) h = (parts_blind n p d (neither_first (R n p d) (RD n p ds) h), lists_blind n p ds (neither_second (R n p d) (RD n p ds) h))

  abbrev bare : (n : ℕ) (p : Program) → TypedKind-F (KindProved n p) (Proved n p) → TypedKind-F TypedKind TypedExpr
  bare n p y = map-TypedKind (KindProved n p) (Proved n p) TypedKind TypedExpr (λ x. x.0) (λ e. e.0) y

  abbrev given_parts : (n : ℕ) (p : Program) → TypedKind-F TypedKind TypedExpr → TypedKind-F (ℕ → Gives) Gives
  given_parts n p x = map-TypedKind TypedKind TypedExpr (ℕ → Gives) Gives (kind_meaning n p) (meaning n p) x

  abbrev read_parts : TypedKind-F TypedKind TypedExpr → TypedKind-F Bool Bool
  read_parts x = map-TypedKind TypedKind TypedExpr Bool Bool (kind_reads (length xs)) (reads (length xs)) x

  form_blind : (n : ℕ) (p : Program) (y : TypedKind-F (KindProved n p) (Proved n p)) → form_reads (length xs) (read_parts (bare n p y)) ≡ false → (k : ℕ) → Blind (kind_gives n (calls n p) (given_parts n p (bare n p y)) k)
  form_blind n p (TypedKind-F.Constant c) h k a b ys = refl
  form_blind n p (TypedKind-F.Value x) h k a b ys = ap (λ v. given (v ∷ [])) (other_value xs a b ys x h)
  form_blind n p (TypedKind-F.Group es) h k a b ys = all_blind (G n p es) (parts_blind n p es h) a b ys
  form_blind n p (TypedKind-F.Call f es) h k a b ys = ap (λ t. andthen t (calls n p f)) (all_blind (G n p es) (parts_blind n p es h) a b ys)
  form_blind n p (TypedKind-F.Apply o es) h k a b ys = ap (λ t. andthen t (λ vs. given (op_value o vs ∷ []))) (all_blind (G n p es) (parts_blind n p es h) a b ys)
  form_blind n p (TypedKind-F.Let ds es) h k a b ys = body_blind (H n p ds) (G n p es) (lists_blind n p ds (neither_first (RD n p ds) (R n p es) h)) (parts_blind n p es (neither_second (RD n p ds) (R n p es) h)) a b ys
  form_blind n p (TypedKind-F.If ts us ns) h k a b ys =
      let q : (R n p us || R n p ns) ≡ false = neither_second (R n p ts) (R n p us || R n p ns) h in
      let F : List Val → List Val → Timed (List Val) = λ env vs. chosen k (test_of vs) (all_of (G n p us) env) (all_of (G n p ns) env) in
      then_both (all_of (G n p ts) (xs ++ a ∷ ys)) (all_of (G n p ts) (xs ++ b ∷ ys)) (F (xs ++ a ∷ ys)) (F (xs ++ b ∷ ys)) (all_blind (G n p ts) (parts_blind n p ts (neither_first (R n p ts) (R n p us || R n p ns) h)) a b ys)
      (λ vs. chosen_same k (test_of vs) _ _ _ _ (all_blind (G n p us) (parts_blind n p us (neither_first (R n p us) (R n p ns) q)) a b ys) (all_blind (G n p ns) (parts_blind n p ns (neither_second (R n p us) (R n p ns) q)) a b ys))
  form_blind n p (TypedKind-F.Case c us arms) h k a b ys =
      let F : List Val → List Val → Timed (List Val) = λ env vs. arm_of c k (map all_of (H n p arms)) (out-Val (value_at vs 0)) env in
      then_both (all_of (G n p us) (xs ++ a ∷ ys)) (all_of (G n p us) (xs ++ b ∷ ys)) (F (xs ++ a ∷ ys)) (F (xs ++ b ∷ ys)) (all_blind (G n p us) (parts_blind n p us (neither_first (R n p us) (RD n p arms) h)) a b ys)
      (λ vs. arm_blind c k (map all_of (H n p arms)) (arms_blind (H n p arms) (lists_blind n p arms (neither_second (R n p us) (RD n p arms) h))) (out-Val (value_at vs 0)) a b ys)
  form_blind n p (TypedKind-F.Product q bs ds es) h k a b ys =
      let r : (RD n p ds || R n p es) ≡ false = neither_second (R n p bs) (RD n p ds || R n p es) h in
      let body : Blind (body_of (H n p ds) (G n p es)) = body_blind (H n p ds) (G n p es) (lists_blind n p ds (neither_first (RD n p ds) (R n p es) r)) (parts_blind n p es (neither_second (RD n p ds) (R n p es) r)) in
      let F : List Val → List Val → Timed (List Val) = λ env vs. plus (length q.sources) (over q k (body_of (H n p ds) (G n p es)) vs (places_of q.sources vs) env) in
      then_both (all_of (G n p bs) (xs ++ a ∷ ys)) (all_of (G n p bs) (xs ++ b ∷ ys)) (F (xs ++ a ∷ ys)) (F (xs ++ b ∷ ys)) (all_blind (G n p bs) (parts_blind n p bs (neither_first (R n p bs) (RD n p ds || R n p es) h)) a b ys)
      (λ vs. ap (plus (length q.sources)) (over_blind q k (body_of (H n p ds) (G n p es)) body vs (places_of q.sources vs) a b ys))
  form_blind n p (TypedKind-F.Initial t fs ts ds es) h k a b ys =
      let q : (R n p ts || (RD n p ds || R n p es)) ≡ false = neither_second (RD n p fs) (R n p ts || (RD n p ds || R n p es)) h in
      let r : (RD n p ds || R n p es) ≡ false = neither_second (R n p ts) (RD n p ds || R n p es) q in
      let L : List Val → List Val → Timed (List Val) = looped n t k (all_of (G n p ts)) (turned t (H n p ds)) (all_of (G n p es)) in
      let i : (l : List Val) → L (xs ++ a ∷ ys) l ≡ L (xs ++ b ∷ ys) l =
      looped_blind n t k (all_of (G n p ts)) (H n p ds) (all_of (G n p es)) (all_blind (G n p ts) (parts_blind n p ts (neither_first (R n p ts) (RD n p ds || R n p es) q))) (lists_blind n p ds (neither_first (RD n p ds) (R n p es) r)) (all_blind (G n p es) (parts_blind n p es (neither_second (RD n p ds) (R n p es) r))) a b ys in
      defined_blind (H n p fs) (lists_blind n p fs (neither_first (RD n p fs) (R n p ts || (RD n p ds || R n p es)) h)) a b ys (λ all. L (xs ++ a ∷ ys) (drop (length (xs ++ a ∷ ys)) all)) (λ all. L (xs ++ b ∷ ys) (drop (length (xs ++ b ∷ ys)) all))
      (λ us. ap (L (xs ++ a ∷ ys)) (left_behind a ys us) ∙ i us ∙ ap (L (xs ++ b ∷ ys)) (sym (left_behind b ys us)))

  -- ---- the whole tree

  kind_step : (n : ℕ) (p : Program) (y : TypedKind-F (KindProved n p) (Proved n p)) → KindIs n p (roll-TypedKind (bare n p y))
  kind_step n p y h k a b ys =
      layer_is n p (bare n p y) k (xs ++ a ∷ ys)
      ∙ form_blind n p y (sym (fold-roll-TypedKind Bool Bool (form_reads (length xs)) expr_reads (bare n p y)) ∙ h) k a b ys
      ∙ sym (layer_is n p (bare n p y) k (xs ++ b ∷ ys))

  expr_step : (n : ℕ) (p : Program) (e : TypedExpr) → KindIs n p e.kind → Is n p e
  expr_step n p e i h a b ys =
      meaning_is n p e (xs ++ a ∷ ys) ∙ ap (plus 1) (i (sym (expr_reads_is (length xs) e) ∙ h) (length e.types) a b ys) ∙ sym (meaning_is n p e (xs ++ b ∷ ys))

  whole_step : (n : ℕ) (p : Program) (y : TypedExpr-F (KindProved n p) (Proved n p)) → Is n p (roll-TypedExpr (map-TypedExpr (KindProved n p) (Proved n p) TypedKind TypedExpr (λ x. x.0) (λ e. e.0) y))
  whole_step n p y = expr_step n p (roll-TypedExpr (map-TypedExpr (KindProved n p) (Proved n p) TypedKind TypedExpr (λ x. x.0) (λ e. e.0) y)) y.kind.1

  pub meaning_blind : (n : ℕ) (p : Program) (e : TypedExpr) → Is n p e
  meaning_blind n p =
      ind-TypedExpr (KindIs n p) (Is n p) (λ x y is. subst (λ z. KindIs n p (roll-TypedKind z)) is (kind_step n p y)) (λ x y is. subst (λ z. Is n p (roll-TypedExpr z)) is (whole_step n p y))

module _ {X : Type 0} where
  -- a list around a place
  around : (l : ℕ) (ys : List X) → l < length ys → (a : X) × ((zs : List X) × (ys ≡ take l ys ++ a ∷ zs) × ((w : X) → set ys l w ≡ take l ys ++ w ∷ zs))
  around l [] lt = absurd (omega (arith, lt))
  around zero (y ∷ ys) lt = (y, (ys, refl, λ w. refl))
  around (suc l) (y ∷ ys) lt =
      let r = around l ys (omega (arith, lt)) in
      (r.0, (r.1.0, ap (λ k. y ∷ k) r.1.1, λ w. ap (λ k. y ∷ k) (r.1.2 w)))

-- an expression that does not read a level
pub unread_is_free : (n : ℕ) (p : Program) (l : ℕ) (e : TypedExpr) → reads l e ≡ false → (env : List Val) (v : Val) → meaning n p e (slice_set env l v) ≡ meaning n p e env
unread_is_free n p l e h env v =
    elim (cases_lt l (length env)) [
      | inl lt ↦ let place = around l env lt in
          let at : length (take l env) ≡ l = simp length-take (omega (arith, lt)) in
          ap (meaning n p e) (place.1.2 v) ∙ meaning_blind (take l env) n p e (ap (λ i. reads i e) at ∙ h) v place.0 place.1.0 ∙ ap (meaning n p e) (sym place.1.1)
      | inr ge ↦ ap (meaning n p e) (set_past env l v ge)
    ]
