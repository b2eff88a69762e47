-- The blocks of code that is made.
use Rattle.std.proofs.Common.{◌≡◌, ℕ, zero, suc, ◌+◌, ◌-◌, ◌<◌, ◌≤◌, eqb, ltb, if◌then◌else◌, Bool, true, false, List, [], ◌∷◌, ◌++◌, length, get_or, inl, inr, refl, sym, ap, ◌∙◌, subst, arith}
use Rattle.std.proofs.lemmas.Bool.{eq-eqb, ltb-false, ltb-true}
use Rattle.std.proofs.lemmas.List.{length-append}
use Rattle.graph_meaning.specs.Demand.{Vertex, Network}
use Rattle.graph_meaning.specs.Entered.{IsIn}
use Rattle.run_code.specs.Cells.{cells_at}
use Rattle.run_code.specs.Coded.{Layout}
use Rattle.run_code.specs.Made.{Line, OfResults, Plan, ends_at, entry_from, function_lines, functions_lines, functions_size, graph_code, line, room_of}
use Rattle.run_code.specs.Steps.{Return}
use Rattle.run_laws.specs.Inside.{Stays}
use Rattle.run_made.proofs.Inside.{graph-stays}
use Rattle.run_made.proofs.Lengths.{graph-long}
use Rattle.run_made.proofs.Lying.{eqb-sound}
use Rattle.run_made.proofs.Making.{entry-within}
use Rattle.run_made.proofs.Staying.{AllStay, cells-inside, ends-inside, stay-both}
use Rattle.run_made.specs.Plans.{IsRightPlan, Weighing, laid, last_line}
use Rattle.unit_whole.proofs.Lines.{lines-even}
use Rattle.unit_whole.specs.Blocks.{DoPlacesStandInBlocks, IsInBlock, function_at}
use Rattle.unit_whole.specs.Even.{AllEven, IsEven, IsStepEven}

-- ---- lists by place

get-first : (xs ys : List Line) (i : ℕ) → i < length xs → get_or (xs ++ ys) i last_line ≡ get_or xs i last_line
get-first [] ys i lt = absurd (omega (arith, lt))
get-first (x ∷ xs) ys zero lt = refl
get-first (x ∷ xs) ys (suc i) lt = get-first xs ys i (omega (arith, lt))

get-rest : (xs ys : List Line) (j : ℕ) → get_or (xs ++ ys) (length xs + j) last_line ≡ get_or ys j last_line
get-rest [] ys j = ap (λ k. get_or ys k last_line) (omega arith)
get-rest (x ∷ xs) ys j =
    let e : suc (length xs) + j ≡ suc (length xs + j) = omega arith in
    ap (λ k. get_or (x ∷ (xs ++ ys)) k last_line) e ∙ get-rest xs ys j

stays-there : (X : Layout) (room begin end a : ℕ) (ls : List Line) → AllStay X room begin end a ls → (i : ℕ) → i < length ls → Stays X room begin end (a + i) (get_or ls i last_line).step
stays-there X room begin end a [] h i lt = absurd (omega (arith, lt))
stays-there X room begin end a (l ∷ ls) h zero lt = let z : a ≡ a + 0 = omega arith in subst (λ pc. Stays X room begin end pc l.step) z h.0
stays-there X room begin end a (l ∷ ls) h (suc i) lt =
    let z : suc a + i ≡ a + suc i = omega arith in
    subst (λ pc. Stays X room begin end pc (get_or ls i last_line).step) z (stays-there X room begin end (suc a) ls h.1 i (omega (arith, lt)))

even-there : (P : Plan) (functions : List ℕ) (n : ℕ) (ls : List Line) → AllEven P functions n ls → (i : ℕ) → i < length ls → IsStepEven P functions n (get_or ls i last_line).origin (get_or ls i last_line).step
even-there P functions n [] h i lt = absurd (omega (arith, lt))
even-there P functions n (l ∷ ls) h zero lt = h.0
even-there P functions n (l ∷ ls) h (suc i) lt = even-there P functions n ls h.1 i (omega (arith, lt))

module _ (P : Plan) (W : Weighing) (u : Network) (order : ℕ → List Vertex) (functions : List ℕ) (n : ℕ) (right : IsRightPlan P W u order functions n) (even : IsEven P functions) where
  abbrev X : Layout
  X = laid P W u order functions n

  block-long : (f a : ℕ) → IsIn f functions → length (function_lines P n f a) ≡ suc (P.size f)
  block-long f a in_f =
      let one = graph-long P W u order functions right.sized n (room_of P f) (cells_at 0 (P.params f)) f a (P.params f) (right.graphs f in_f).1 in
      let both = length-append (graph_code P n (room_of P f) (cells_at 0 (P.params f)) f a (P.params f)) (line (OfResults f) (Return (ends_at P (cells_at 0 (P.params f)) f (P.params f))) ∷ []) in
      omega (arith, one, both)

  block-stays : (f a : ℕ) → IsIn f functions → AllStay X (room_of P f) a (a + suc (P.size f)) a (function_lines P n f a)
  block-stays f a in_f =
      let room = room_of P f in
      let args = cells_at 0 (P.params f) in
      let lays = (right.graphs f in_f).1 in
      let long = graph-long P W u order functions right.sized n room args f a (P.params f) lays in
      let ins = cells-inside room 0 (P.params f) (omega arith) in
      let end = a + suc (P.size f) in
      stay-both X room a end a (a + P.size f) (graph_code P n room args f a (P.params f)) (line (OfResults f) (Return (ends_at P args f (P.params f))) ∷ []) (omega (arith, long))
      (graph-stays P W u order functions X.code X.weigh room a end right.sized n args f a (P.params f) (omega arith) lays ins (omega arith) (omega arith))
      (ends-inside X room a end P right.sized args f (P.params f) ins (omega arith), tt)

  -- ---- along the functions

  -- in the block of one of these, the first of which begins at a place
  record IsAt (fs : List ℕ) (a pc : ℕ) (l : Line) : Type 0 where
    pub function : ℕ
    pub begin : ℕ
    pub is_in : IsIn function functions
    pub after : a ≤ begin
    pub from : begin ≤ pc
    pub before : pc < begin + suc (P.size function)
    pub ends : begin + suc (P.size function) ≤ a + functions_size P fs
    pub same : (t : ℕ) → begin ≤ t → t < begin + suc (P.size function) → function_at P fs a t ≡ function
    pub stays : Stays X (room_of P function) begin (begin + suc (P.size function)) pc l.step
    pub steady : IsStepEven P functions (length (P.results function)) l.origin l.step

  in-first : (f : ℕ) (fs : List ℕ) (a t : ℕ) → t < a + suc (P.size f) → function_at P (f ∷ fs) a t ≡ f
  in-first f fs a t lt = go (ltb t (a + suc (P.size f))) refl
    where
      go : (b : Bool) → ltb t (a + suc (P.size f)) ≡ b → (if b then f else function_at P fs (a + suc (P.size f)) t) ≡ f
      go true e = refl
      go false e = let le = ltb-false t (a + suc (P.size f)) e in absurd (omega (arith, le, lt))

  in-rest : (f : ℕ) (fs : List ℕ) (a t : ℕ) → a + suc (P.size f) ≤ t → function_at P (f ∷ fs) a t ≡ function_at P fs (a + suc (P.size f)) t
  in-rest f fs a t le = go (ltb t (a + suc (P.size f))) refl
    where
      go : (b : Bool) → ltb t (a + suc (P.size f)) ≡ b → (if b then f else function_at P fs (a + suc (P.size f)) t) ≡ function_at P fs (a + suc (P.size f)) t
      go true e = let lt = ltb-true t (a + suc (P.size f)) e in absurd (omega (arith, le, lt))
      go false e = refl

  later : (f : ℕ) (fs : List ℕ) (a pc : ℕ) (l : Line) → IsAt fs (a + suc (P.size f)) pc l → IsAt (f ∷ fs) a pc l
  later f fs a pc l h =
      let after = h.after in
      let ends = h.ends in
      record {
        function = h.function;
        begin = h.begin;
        is_in = h.is_in;
        after = omega (arith, after);
        from = h.from;
        before = h.before;
        ends = omega (arith, ends);
        same = λ t a_t b_t. in-rest f fs a t (omega (arith, after, a_t)) ∙ h.same t a_t b_t;
        stays = h.stays;
        steady = h.steady;
      }

  place-at : (fs : List ℕ) (a : ℕ) → ((f : ℕ) → IsIn f fs → IsIn f functions) → (i : ℕ) → i < functions_size P fs → IsAt fs a (a + i) (get_or (functions_lines P n fs a) i last_line)
  place-at [] a of i lt = absurd (omega (arith, lt))
  place-at (f ∷ fs) a of i lt = go (ltb i (suc (P.size f))) refl (λ j lt. place-at fs (a + suc (P.size f)) (λ g h. of g (inr h)) j lt)
    where
      here : List Line
      here = function_lines P n f a

      rest : List Line
      rest = functions_lines P n fs (a + suc (P.size f))

      go : (b : Bool) → ltb i (suc (P.size f)) ≡ b → ((j : ℕ) → j < functions_size P fs → IsAt fs (a + suc (P.size f)) ((a + suc (P.size f)) + j) (get_or rest j last_line)) → IsAt (f ∷ fs) a (a + i) (get_or (here ++ rest) i last_line)
      go true e others =
          let in_f = of f (inl refl) in
          let long = block-long f a in_f in
          let below = ltb-true i (suc (P.size f)) e in
          let there : i < length here = omega (arith, long, below) in
          subst (IsAt (f ∷ fs) a (a + i)) (sym (get-first here rest i there)) (record {
            function = f;
            begin = a;
            is_in = in_f;
            after = omega arith;
            from = omega arith;
            before = omega (arith, below);
            ends = omega arith;
            same = λ t a_t b_t. in-first f fs a t b_t;
            stays = stays-there X (room_of P f) a (a + suc (P.size f)) a here (block-stays f a in_f) i there;
            steady = even-there P functions (length (P.results f)) here (lines-even P functions even n f a) i there;
          })
      go false e others =
          let le = ltb-false i (suc (P.size f)) e in
          let long = block-long f a (of f (inl refl)) in
          let j = i - suc (P.size f) in
          let split : length here + j ≡ i = omega (arith, long, le) in
          let at : (a + suc (P.size f)) + j ≡ a + i = omega (arith, le) in
          subst (λ k. IsAt (f ∷ fs) a (a + i) (get_or (here ++ rest) k last_line)) split
          (subst (IsAt (f ∷ fs) a (a + i)) (sym (get-rest here rest j)) (subst (λ pc. IsAt (f ∷ fs) a pc (get_or rest j last_line)) at (later f fs a ((a + suc (P.size f)) + j) (get_or rest j last_line) (others j (omega (arith, le, lt))))))

  all-long : (fs : List ℕ) (a : ℕ) → ((f : ℕ) → IsIn f fs → IsIn f functions) → length (functions_lines P n fs a) ≡ functions_size P fs
  all-long [] a of = refl
  all-long (f ∷ fs) a of =
      let one = block-long f a (of f (inl refl)) in
      let more = all-long fs (a + suc (P.size f)) (λ g h. of g (inr h)) in
      let both = length-append (function_lines P n f a) (functions_lines P n fs (a + suc (P.size f))) in
      omega (arith, one, more, both)

  -- the entry of a function is in its first block
  entry-at : (fs : List ℕ) (a f : ℕ) → IsIn f fs → (a ≤ entry_from P fs a f) × (function_at P fs a (entry_from P fs a f) ≡ f)
  entry-at [] a f h = absurd h
  entry-at (g ∷ gs) a f h = go (eqb g f) refl h (λ i. entry-at gs (a + suc (P.size g)) f i)
    where
      other : eqb g f ≡ false → f ≡ g → ⊥
      other e s = let t = eq-eqb g f (sym s) in let z : true ≡ false = sym t ∙ e in cc

      go : (b : Bool) → eqb g f ≡ b → IsIn f (g ∷ gs)
          → (IsIn f gs → (a + suc (P.size g) ≤ entry_from P gs (a + suc (P.size g)) f) × (function_at P gs (a + suc (P.size g)) (entry_from P gs (a + suc (P.size g)) f) ≡ f))
          → (a ≤ (if b then a else entry_from P gs (a + suc (P.size g)) f)) × (function_at P (g ∷ gs) a (if b then a else entry_from P gs (a + suc (P.size g)) f) ≡ f)
      go true e h rest = (omega arith, in-first g gs a a (omega arith) ∙ eqb-sound g f e)
      go false e (inl s) rest = absurd (other e s)
      go false e (inr h) rest =
          let x = rest h in
          let le = x.0 in
          (omega (arith, le), in-rest g gs a (entry_from P gs (a + suc (P.size g)) f) le ∙ x.1)

pub places-in-blocks : DoPlacesStandInBlocks
places-in-blocks P W u order functions n right even = (
  (λ pc lt.
      let z : 0 + pc ≡ pc = omega arith in
      as-block (subst (λ k. IsAt P W u order functions n right even functions 0 k (get_or (functions_lines P n functions 0) pc last_line)) z (place-at P W u order functions n right even functions 0 (λ f h. h) pc lt))),
  (λ f in_f.
      let e = right.entries f in_f in
      let x = entry-at P W u order functions n right even functions 0 f in_f in
      let y = entry-within P functions 0 f in_f in
      (omega (arith, e, y), ap (function_at P functions 0) e ∙ x.1)),
  all-long P W u order functions n right even functions 0 (λ f h. h),
)
  where
    as-block : {pc : ℕ} {l : Line} → IsAt P W u order functions n right even functions 0 pc l → IsInBlock P W u order functions n pc l
    as-block h =
        let ends = h.ends in
        record { function = h.function; begin = h.begin; is_in = h.is_in; from = h.from; before = h.before; ends = omega (arith, ends); same = h.same; stays = h.stays; even = h.steady }
