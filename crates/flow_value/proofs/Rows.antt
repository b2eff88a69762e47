-- A row's places, as a list of its items between empty places.
use Rattle.std.proofs.Common.{◌≡◌, ℕ, zero, suc, ◌+◌, ◌-◌, ◌<◌, ◌≤◌, true, false, List, [], ◌∷◌, ◌++◌, map, length, take, drop, set, get_or, replicate, Option, Some, None, refl, sym, ap, ◌∙◌, arith, take_at, length-append, length-set}
use Rattle.std.proofs.lemmas.List.{length-map}
use Rattle.flow_value.specs.Places.{somes, IsFilled, IsRun, packed}
use Rattle.flow_value.specs.Rows.{shape, is_here, items_of, places_of, IsRow}
use Rattle.flow_value.specs.declared.block.Block.{Block}
use Rattle.flow_value.specs.declared.row.Row.{Row}

flags_none : (X : Type 0) (b : ℕ) → let none : Option X = None in map is_here (replicate b none) ≡ replicate b false
flags_none X zero = refl
flags_none X (suc b) = ap (λ l. false ∷ l) (flags_none X b)

somes_none : (X : Type 0) (b : ℕ) → let none : Option X = None in somes (replicate b none) ≡ []
somes_none X zero = refl
somes_none X (suc b) = somes_none X b

length_none : (X : Type 0) (b : ℕ) → let none : Option X = None in length (replicate b none) ≡ b
length_none X zero = refl
length_none X (suc b) = ap suc (length_none X b)

module _ {X : Type 0} where
  abbrev laid : ℕ → List X → ℕ → List (Option X)
  laid a xs b = replicate a None ++ (map Some xs ++ replicate b None)

  none_left : (xs : List X) → length xs ≡ 0 → xs ≡ []
  none_left [] e = refl
  none_left (x ∷ xs) e = absurd (omega arith)

  -- places of this shape are so many items between empty places
  unpack : (cs : List (Option X)) (a n b : ℕ) → map is_here cs ≡ shape a n b → (xs : List X) × ((length xs ≡ n) × (cs ≡ laid a xs b))
  unpack [] zero zero zero e = ([], (refl, refl))
  unpack [] zero zero (suc b) e = cc
  unpack [] zero (suc n) b e = cc
  unpack [] (suc a) n b e = cc
  unpack (None ∷ cs) (suc a) n b e =
      let rest : map is_here cs ≡ shape a n b = cc in let r = unpack cs a n b rest in
      (r.0, (r.1.0, ap (λ l. None ∷ l) r.1.1))
  unpack (None ∷ cs) zero (suc n) b e = cc
  unpack (None ∷ cs) zero zero (suc b) e =
      let rest : map is_here cs ≡ shape 0 0 b = cc in let r = unpack cs 0 0 b rest in
      ([], (refl, ap (λ l. None ∷ l) (r.1.1 ∙ ap (λ xs. laid 0 xs b) (none_left r.0 r.1.0))))
  unpack (None ∷ cs) zero zero zero e = cc
  unpack (Some x ∷ cs) (suc a) n b e = cc
  unpack (Some x ∷ cs) zero (suc n) b e =
      let rest : map is_here cs ≡ shape 0 n b = cc in let r = unpack cs 0 n b rest in
      (x ∷ r.0, (ap suc r.1.0, ap (λ l. Some x ∷ l) r.1.1))
  unpack (Some x ∷ cs) zero zero (suc b) e = cc
  unpack (Some x ∷ cs) zero zero zero e = cc

  flags-laid : (a : ℕ) (xs : List X) (b : ℕ) → map is_here (laid a xs b) ≡ shape a (length xs) b
  flags-laid (suc a) xs b = ap (λ l. false ∷ l) (flags-laid a xs b)
  flags-laid zero (x ∷ xs) b = ap (λ l. true ∷ l) (flags-laid zero xs b)
  flags-laid zero [] b = flags_none X b

  somes-laid : (a : ℕ) (xs : List X) (b : ℕ) → somes (laid a xs b) ≡ xs
  somes-laid (suc a) xs b = somes-laid a xs b
  somes-laid zero (x ∷ xs) b = ap (λ l. x ∷ l) (somes-laid zero xs b)
  somes-laid zero [] b = somes_none X b

  length-laid : (a : ℕ) (xs : List X) (b : ℕ) → length (laid a xs b) ≡ a + length xs + b
  length-laid (suc a) xs b = omega (arith, length-laid a xs b)
  length-laid zero (x ∷ xs) b = omega (arith, length-laid zero xs b)
  length-laid zero [] b = omega (arith, length_none X b)

  no_items : (a b n : ℕ) → n ≡ a + b → let none : Option X = None in replicate n none ≡ laid a [] b
  no_items zero b n e = let same : n ≡ b = omega arith in ap (λ k. replicate k None) same
  no_items (suc a) b zero e = absurd (omega arith)
  no_items (suc a) b (suc n) e = ap (λ l. None ∷ l) (no_items a b n (omega arith))

  -- one place is read, and written
  blank-behind : (a : ℕ) (xs : List X) (b k : ℕ) → k ≡ a + length xs → get_or (laid a xs (suc b)) k None ≡ None
  blank-behind (suc a) xs b zero e = absurd (omega arith)
  blank-behind (suc a) xs b (suc k) e = blank-behind a xs b k (omega arith)
  blank-behind zero (y ∷ xs) b zero e = absurd (omega arith)
  blank-behind zero (y ∷ xs) b (suc k) e = blank-behind zero xs b k (omega arith)
  blank-behind zero [] b zero e = refl
  blank-behind zero [] b (suc k) e = absurd (omega arith)

  put-behind : (a : ℕ) (xs : List X) (b : ℕ) (x : X) (k : ℕ) → k ≡ a + length xs → set (laid a xs (suc b)) k (Some x) ≡ laid a (xs ++ x ∷ []) b
  put-behind (suc a) xs b x zero e = absurd (omega arith)
  put-behind (suc a) xs b x (suc k) e = ap (λ l. None ∷ l) (put-behind a xs b x k (omega arith))
  put-behind zero (y ∷ xs) b x zero e = absurd (omega arith)
  put-behind zero (y ∷ xs) b x (suc k) e = ap (λ l. Some y ∷ l) (put-behind zero xs b x k (omega arith))
  put-behind zero [] b x zero e = refl
  put-behind zero [] b x (suc k) e = absurd (omega arith)

  blank-before : (a : ℕ) (xs : List X) (b : ℕ) → get_or (laid (suc a) xs b) a None ≡ None
  blank-before zero xs b = refl
  blank-before (suc a) xs b = blank-before a xs b

  put-before : (a : ℕ) (xs : List X) (b : ℕ) (x : X) → set (laid (suc a) xs b) a (Some x) ≡ laid a (x ∷ xs) b
  put-before zero xs b x = refl
  put-before (suc a) xs b x = ap (λ l. None ∷ l) (put-before a xs b x)

  item-before : (a : ℕ) (xs : List X) (b : ℕ) (x : X) → get_or (laid a (x ∷ xs) b) a None ≡ Some x
  item-before zero xs b x = refl
  item-before (suc a) xs b x = item-before a xs b x

  take-before : (a : ℕ) (xs : List X) (b : ℕ) (x : X) → set (laid a (x ∷ xs) b) a None ≡ laid (suc a) xs b
  take-before zero xs b x = refl
  take-before (suc a) xs b x = ap (λ l. None ∷ l) (take-before a xs b x)

  item-behind : (a : ℕ) (xs : List X) (b : ℕ) (x : X) (k : ℕ) → k ≡ a + length xs → get_or (laid a (xs ++ x ∷ []) b) k None ≡ Some x
  item-behind (suc a) xs b x zero e = absurd (omega arith)
  item-behind (suc a) xs b x (suc k) e = item-behind a xs b x k (omega arith)
  item-behind zero (y ∷ xs) b x zero e = absurd (omega arith)
  item-behind zero (y ∷ xs) b x (suc k) e = item-behind zero xs b x k (omega arith)
  item-behind zero [] b x zero e = refl
  item-behind zero [] b x (suc k) e = absurd (omega arith)

  take-behind : (a : ℕ) (xs : List X) (b : ℕ) (x : X) (k : ℕ) → k ≡ a + length xs → set (laid a (xs ++ x ∷ []) b) k None ≡ laid a xs (suc b)
  take-behind (suc a) xs b x zero e = absurd (omega arith)
  take-behind (suc a) xs b x (suc k) e = ap (λ l. None ∷ l) (take-behind a xs b x k (omega arith))
  take-behind zero (y ∷ xs) b x zero e = absurd (omega arith)
  take-behind zero (y ∷ xs) b x (suc k) e = ap (λ l. Some y ∷ l) (take-behind zero xs b x k (omega arith))
  take-behind zero [] b x zero e = refl
  take-behind zero [] b x (suc k) e = absurd (omega arith)

  item-at : (a : ℕ) (xs : List X) (b p : ℕ) → p < length xs → (y : X) × (get_or (laid a xs b) (a + p) None ≡ Some y)
  item-at (suc a) xs b p lt = let on = item-at a xs b p lt in let next : suc a + p ≡ suc (a + p) = omega arith in (on.0, ap (λ k. get_or (laid (suc a) xs b) k None) next ∙ on.1)
  item-at zero [] b p lt = absurd (omega arith)
  item-at zero (y ∷ xs) b zero lt = (y, refl)
  item-at zero (y ∷ xs) b (suc p) lt =
      let on = item-at zero xs b p (omega arith) in let next : zero + suc p ≡ suc (zero + p) = omega arith in
      (on.0, ap (λ k. get_or (laid zero (y ∷ xs) b) k None) next ∙ on.1)

  put-at : (a : ℕ) (xs : List X) (b : ℕ) (x : X) (p k : ℕ) → k ≡ a + p → p < length xs → set (set (laid a xs b) k None) k (Some x) ≡ laid a (set xs p x) b
  put-at (suc a) xs b x p zero e lt = absurd (omega arith)
  put-at (suc a) xs b x p (suc k) e lt = ap (λ l. None ∷ l) (put-at a xs b x p k (omega arith) lt)
  put-at zero [] b x p k e lt = absurd (omega arith)
  put-at zero (y ∷ xs) b x zero zero e lt = refl
  put-at zero (y ∷ xs) b x zero (suc k) e lt = absurd (omega arith)
  put-at zero (y ∷ xs) b x (suc p) zero e lt = absurd (omega arith)
  put-at zero (y ∷ xs) b x (suc p) (suc k) e lt = ap (λ l. Some y ∷ l) (put-at zero xs b x p k (omega arith) (omega arith))

  blank-again : (cs : List (Option X)) (k : ℕ) → get_or (set cs k None) k None ≡ None
  blank-again [] k = refl
  blank-again (c ∷ cs) zero = refl
  blank-again (c ∷ cs) (suc k) = blank-again cs k

  drop-laid : (a : ℕ) (xs : List X) (b : ℕ) → drop a (laid a xs b) ≡ map Some xs ++ replicate b None
  drop-laid zero xs b = refl
  drop-laid (suc a) xs b = drop-laid a xs b

  run-laid : (a : ℕ) (xs : List X) (b n : ℕ) → n ≡ length xs → take n (drop a (laid a xs b)) ≡ map Some xs
  run-laid a xs b n e = ap (take n) (drop-laid a xs b) ∙ take_at (map Some xs) (replicate b None) n (omega (arith, length-map xs Some))

  pub same_values : (xs ys : List X) → map Some xs ≡ map Some ys → xs ≡ ys
  same_values [] [] e = refl
  same_values [] (y ∷ ys) e = cc
  same_values (x ∷ xs) [] e = cc
  same_values (x ∷ xs) (y ∷ ys) e =
      let first : x ≡ y = cc in let rest : map Some xs ≡ map Some ys = cc in let on = same_values xs ys rest in (λ i. first i ∷ on i)

  cut_last : (xs : List X) → 0 < length xs → (us : List X) × ((x : X) × (xs ≡ us ++ x ∷ []))
  cut_last [] h = absurd (omega arith)
  cut_last (x ∷ []) h = ([], (x, refl))
  cut_last (x ∷ y ∷ xs) h = let on = cut_last (y ∷ xs) (omega arith) in (x ∷ on.0, (on.1.0, ap (λ l. x ∷ l) on.1.1))

  cut_first : (xs : List X) → 0 < length xs → (x : X) × ((us : List X) × (xs ≡ x ∷ us))
  cut_first [] h = absurd (omega arith)
  cut_first (x ∷ xs) h = (x, (xs, refl))

  same_item : {x y : X} → Some x ≡ Some y → x ≡ y
  same_item e = cc

  -- a row is read, and made
  unlaid : (r : Row X) → IsRow r → (r.block.places ≡ laid r.first (items_of r) (r.room - (r.first + r.len))) × (length (items_of r) ≡ r.len)
  unlaid r h =
      let b = r.room - (r.first + r.len) in let u = unpack r.block.places r.first r.len b h.places in
      let is : items_of r ≡ u.0 = ap somes u.1.1 ∙ somes-laid r.first u.0 b in
      (u.1.1 ∙ ap (λ xs. laid r.first xs b) (sym is), ap length is ∙ u.1.0)

  pub count_is : (r : Row X) → IsRow r → length (items_of r) ≡ r.len
  count_is r h = (unlaid r h).1

  relaid : (r : Row X) (xs : List X) (b : ℕ) → r.block.room ≡ r.room → r.block.places ≡ laid r.first xs b → length xs ≡ r.len → b ≡ r.room - (r.first + r.len) → r.first + r.len ≤ places_of r → IsRow r × (items_of r ≡ xs)
  relaid r xs b block is count rest fits = (
    record { block = block; places = ap (map is_here) is ∙ flags-laid r.first xs b ∙ (λ i. shape r.first (count i) (rest i)); fits = fits },
    ap somes is ∙ somes-laid r.first xs b,
  )

  pub no_item : (r : Row X) → IsRow r → r.len ≡ 0 → items_of r ≡ []
  no_item r h e = none_left (items_of r) ((unlaid r h).1 ∙ e)

  pub row_long : (r : Row X) → IsRow r → length r.block.places ≡ r.room
  row_long r h =
      let b = r.room - (r.first + r.len) in let u = unlaid r h in let count = u.1 in let fits = h.fits in let all = length-laid r.first (items_of r) b in
      ap length u.0 ∙ omega arith

  -- the block with something else in one place
  abbrev pub changed : Row X → ℕ → Option X → Block X
  changed r k c = record r.block { places = set r.block.places k c }

  -- an item is put behind the last
  pub blank_behind : (r : Row X) → IsRow r → r.first + r.len < places_of r → (r.first + r.len < length r.block.places) × (get_or r.block.places (r.first + r.len) None ≡ None)
  blank_behind r h room =
      let b = r.room - (r.first + r.len + 1) in let u = unlaid r h in let count = u.1 in let long = row_long r h in let more : r.room - (r.first + r.len) ≡ suc b = omega arith in
      (omega arith, ap (λ l. get_or l (r.first + r.len) None) (u.0 ∙ ap (laid r.first (items_of r)) more) ∙ blank-behind r.first (items_of r) b (r.first + r.len) (omega arith))

  pub puts_last : (r : Row X) → IsRow r → r.first + r.len < places_of r → (x : X)
      → let new = record r { len = r.len + 1; block = changed r (r.first + r.len) (Some x) } in IsRow new × (items_of new ≡ items_of r ++ x ∷ [])
  puts_last r h room x =
      let b = r.room - (r.first + r.len + 1) in let u = unlaid r h in let count = u.1 in let k = r.first + r.len in let xs = items_of r in let more : r.room - k ≡ suc b = omega arith in
      relaid (record r { len = r.len + 1; block = changed r k (Some x) }) (xs ++ x ∷ []) b h.block
      (ap (λ l. set l k (Some x)) (u.0 ∙ ap (laid r.first xs) more) ∙ put-behind r.first xs b x k (omega arith)) (omega (arith, length-append xs (x ∷ []))) (omega arith) (omega arith)

  -- and before the first
  pub blank_before : (r : Row X) → IsRow r → 0 < r.first → (r.first - 1 < length r.block.places) × (get_or r.block.places (r.first - 1) None ≡ None)
  blank_before r h some =
      let b = r.room - (r.first + r.len) in let u = unlaid r h in let long = row_long r h in let fits = h.fits in let more : r.first ≡ suc (r.first - 1) = omega arith in
      (omega arith, ap (λ l. get_or l (r.first - 1) None) (u.0 ∙ ap (λ n. laid n (items_of r) b) more) ∙ blank-before (r.first - 1) (items_of r) b)

  pub puts_first : (r : Row X) → IsRow r → 0 < r.first → (x : X)
      → let new = record r { first = r.first - 1; len = r.len + 1; block = changed r (r.first - 1) (Some x) } in IsRow new × (items_of new ≡ x ∷ items_of r)
  puts_first r h some x =
      let k = r.first - 1 in let b = r.room - (r.first + r.len) in let u = unlaid r h in let count = u.1 in let fits = h.fits in let xs = items_of r in let more : r.first ≡ suc k = omega arith in
      relaid (record r { first = k; len = r.len + 1; block = changed r k (Some x) }) (x ∷ xs) b h.block
      (ap (λ l. set l k (Some x)) (u.0 ∙ ap (λ n. laid n xs b) more) ∙ put-before k xs b x) (omega arith) (omega arith) (omega arith)

  -- the last item is taken
  pub last_is : (r : Row X) → IsRow r → 0 < r.len → IsFilled r.block.places (r.first + (r.len - 1))
  last_is r h some =
      let k = r.first + (r.len - 1) in let b = r.room - (r.first + r.len) in let u = unlaid r h in let count = u.1 in let e = cut_last (items_of r) (omega arith) in let us = e.0 in let x = e.1.0 in
      let one = ap length e.1.1 in let long = length-append us (x ∷ []) in
      (x, ap (λ l. get_or l k None) (u.0 ∙ ap (λ l. laid r.first l b) e.1.1) ∙ item-behind r.first us b x k (omega arith))

  pub takes_last : (r : Row X) → IsRow r → 0 < r.len → (y : X) → get_or r.block.places (r.first + (r.len - 1)) None ≡ Some y
      → let new = record r { len = r.len - 1; block = changed r (r.first + (r.len - 1)) None } in IsRow new × (items_of r ≡ items_of new ++ y ∷ [])
  takes_last r h some y got =
      let k = r.first + (r.len - 1) in let b = r.room - (r.first + r.len) in let u = unlaid r h in let count = u.1 in let fits = h.fits in let e = cut_last (items_of r) (omega arith) in let us = e.0 in let x = e.1.0 in
      let one = ap length e.1.1 in let long = length-append us (x ∷ []) in let at : k ≡ r.first + length us = omega arith in let is = u.0 ∙ ap (λ l. laid r.first l b) e.1.1 in
      let new = record r { len = r.len - 1; block = changed r k None } in
      let made = relaid new us (suc b) h.block (ap (λ l. set l k None) is ∙ take-behind r.first us b x k at) (omega arith) (omega arith) (omega arith) in
      let same = same_item (sym (item-behind r.first us b x k at) ∙ ap (λ l. get_or l k None) (sym is) ∙ got) in
      (made.0, e.1.1 ∙ (λ i. sym made.1 i ++ same i ∷ []))

  -- the first item is taken
  pub first_is : (r : Row X) → IsRow r → 0 < r.len → IsFilled r.block.places r.first
  first_is r h some =
      let b = r.room - (r.first + r.len) in let u = unlaid r h in let count = u.1 in let e = cut_first (items_of r) (omega arith) in
      (e.0, ap (λ l. get_or l r.first None) (u.0 ∙ ap (λ l. laid r.first l b) e.1.1) ∙ item-before r.first e.1.0 b e.0)

  pub takes_first : (r : Row X) → IsRow r → 0 < r.len → (y : X) → get_or r.block.places r.first None ≡ Some y
      → let new = record r { first = r.first + 1; len = r.len - 1; block = changed r r.first None } in IsRow new × (items_of r ≡ y ∷ items_of new)
  takes_first r h some y got =
      let b = r.room - (r.first + r.len) in let u = unlaid r h in let count = u.1 in let fits = h.fits in let e = cut_first (items_of r) (omega arith) in let us = e.1.0 in let x = e.0 in
      let one = ap length e.1.1 in let is = u.0 ∙ ap (λ l. laid r.first l b) e.1.1 in let more : suc r.first ≡ r.first + 1 = omega arith in
      let new = record r { first = r.first + 1; len = r.len - 1; block = changed r r.first None } in
      let made = relaid new us b h.block (ap (λ l. set l r.first None) is ∙ take-before r.first us b x ∙ ap (λ n. laid n us b) more) (omega arith) (omega arith) (omega arith) in
      let same = same_item (sym (item-before r.first us b x) ∙ ap (λ l. get_or l r.first None) (sym is) ∙ got) in
      (made.0, e.1.1 ∙ (λ i. same i ∷ sym made.1 i))

  -- an item is taken, and another put in its place
  pub item_is : (r : Row X) → IsRow r → (p : ℕ) → p < r.len → IsFilled r.block.places (r.first + p)
  item_is r h p lt =
      let u = unlaid r h in let count = u.1 in let at = item-at r.first (items_of r) (r.room - (r.first + r.len)) p (omega arith) in
      (at.0, ap (λ l. get_or l (r.first + p) None) u.0 ∙ at.1)

  pub blank_again : (r : Row X) → IsRow r → (p : ℕ) → p < r.len
      → (r.first + p < length (set r.block.places (r.first + p) None)) × (get_or (set r.block.places (r.first + p) None) (r.first + p) None ≡ None)
  blank_again r h p lt =
      let k = r.first + p in let long = row_long r h in let same = length-set r.block.places k None in let fits = h.fits in
      (omega arith, blank-again r.block.places k)

  pub puts_again : (r : Row X) → IsRow r → (p : ℕ) → p < r.len → (x : X)
      → let new = record r { block = record r.block { places = set (set r.block.places (r.first + p) None) (r.first + p) (Some x) } } in IsRow new × (items_of new ≡ set (items_of r) p x)
  puts_again r h p lt x =
      let k = r.first + p in let b = r.room - (r.first + r.len) in let u = unlaid r h in let count = u.1 in let xs = items_of r in
      let new = record r { block = record r.block { places = set (set r.block.places k None) k (Some x) } } in
      relaid new (set xs p x) b h.block (ap (λ l. set (set l k None) k (Some x)) u.0 ∙ put-at r.first xs b x p k refl (omega arith)) (length-set xs p x ∙ count) refl h.fits

  -- the items are one run
  pub items_are : (r : Row X) → IsRow r → take r.len (drop r.first r.block.places) ≡ map Some (items_of r)
  items_are r h = let u = unlaid r h in ap (λ l. take r.len (drop r.first l)) u.0 ∙ run-laid r.first (items_of r) (r.room - (r.first + r.len)) r.len (sym u.1)

  pub is_run : (r : Row X) → IsRow r → IsRun r.block.places r.first r.len
  is_run r h = let long = row_long r h in let fits = h.fits in (omega arith, (items_of r, items_are r h))

  -- a `Vec` is a row whose items begin at its first place
  pub packs : (r : Row X) (xs : List X) → r.block.room ≡ r.room → r.block.places ≡ packed xs r.room → r.first ≡ 0 → r.len ≡ length xs → r.len ≤ places_of r → IsRow r × (items_of r ≡ xs)
  packs r xs block is front count fits =
      relaid r xs (r.room - length xs) block (is ∙ ap (λ n. laid n xs (r.room - length xs)) (sym front)) (sym count) (omega arith) (omega arith)

  pub is_packed : (r : Row X) → IsRow r → r.first ≡ 0 → r.block.places ≡ packed (somes r.block.places) r.room
  is_packed r h front = let u = unlaid r h in let xs = items_of r in let count = u.1 in
      let rest : r.room - (r.first + r.len) ≡ r.room - length xs = omega arith in
      u.0 ∙ ap (λ n. laid n xs (r.room - (r.first + r.len))) front ∙ ap (λ n. map Some xs ++ replicate n None) rest

  -- an empty row may begin at any place
  pub begins : (r : Row X) → IsRow r → r.len ≡ 0 → (f : ℕ) → f ≤ places_of r → IsRow (record r { first = f }) × (items_of r ≡ [])
  begins r h none f fits =
      let u = unlaid r h in let within = h.fits in let all = u.0 ∙ ap (λ l. laid r.first l (r.room - (r.first + r.len))) (no_item r h none) ∙ sym (no_items r.first (r.room - (r.first + r.len)) r.room (omega arith)) in
      ((relaid (record r { first = f }) [] (r.room - f) h.block (all ∙ no_items f (r.room - f) r.room (omega arith)) (sym none) (omega arith) (omega arith)).0, no_item r h none)

  -- while the items move to the first places, k of them are there, and the others still behind a places
  abbrev pub slid : ℕ → List X → ℕ → ℕ → List (Option X)
  slid k xs a b = map Some (take k xs) ++ laid a (drop k xs) b

  slid-item : (k : ℕ) (xs : List X) (a b j : ℕ) → k < length xs → j ≡ a + k → (x : X) × (get_or (slid k xs a b) j None ≡ Some x)
  slid-item k [] a b j lt e = absurd (omega arith)
  slid-item zero (y ∷ ys) a b j lt e = let at : j ≡ a = omega arith in (y, ap (λ i. get_or (laid a (y ∷ ys) b) i None) at ∙ item-before a ys b y)
  slid-item (suc k) (y ∷ ys) a b zero lt e = absurd (omega arith)
  slid-item (suc k) (y ∷ ys) a b (suc j) lt e = slid-item k ys a b j (omega arith) (omega arith)

  slid-blank : (k : ℕ) (xs : List X) (a b j : ℕ) → 0 < a → k < length xs → j ≡ a + k → (k < length (set (slid k xs a b) j None)) × (get_or (set (slid k xs a b) j None) k None ≡ None)
  slid-blank k [] a b j some lt e = absurd (omega arith)
  slid-blank zero (y ∷ ys) zero b j some lt e = absurd (omega arith)
  slid-blank zero (y ∷ ys) (suc a) b zero some lt e = absurd (omega arith)
  slid-blank zero (y ∷ ys) (suc a) b (suc j) some lt e = (omega arith, refl)
  slid-blank (suc k) (y ∷ ys) a b zero some lt e = absurd (omega arith)
  slid-blank (suc k) (y ∷ ys) a b (suc j) some lt e = let on = slid-blank k ys a b j some (omega arith) (omega arith) in (omega (arith, on.0), on.1)

  slid-next : (k : ℕ) (xs : List X) (a b j : ℕ) (x : X) → 0 < a → k < length xs → j ≡ a + k → get_or (slid k xs a b) j None ≡ Some x
      → set (set (slid k xs a b) j None) k (Some x) ≡ slid (suc k) xs a b
  slid-next k [] a b j x some lt e got = absurd (omega arith)
  slid-next zero (y ∷ ys) zero b j x some lt e got = absurd (omega arith)
  slid-next zero (y ∷ ys) (suc a) b j x some lt e got =
      let at : j ≡ suc a = omega arith in
      let same : y ≡ x = same_item (sym (item-before (suc a) ys b y) ∙ ap (λ i. get_or (laid (suc a) (y ∷ ys) b) i None) (sym at) ∙ got) in
      ap (λ i. set (set (laid (suc a) (y ∷ ys) b) i None) 0 (Some x)) at ∙ ap (λ l. set l 0 (Some x)) (take-before (suc a) ys b y) ∙ ap (λ z. Some z ∷ laid (suc a) ys b) (sym same)
  slid-next (suc k) (y ∷ ys) a b zero x some lt e got = absurd (omega arith)
  slid-next (suc k) (y ∷ ys) a b (suc j) x some lt e got = ap (λ l. Some y ∷ l) (slid-next k ys a b j x some (omega arith) (omega arith) got)

  take_whole : (xs : List X) (n : ℕ) → length xs ≤ n → take n xs ≡ xs
  take_whole [] zero le = refl
  take_whole [] (suc n) le = refl
  take_whole (x ∷ xs) zero le = absurd (omega arith)
  take_whole (x ∷ xs) (suc n) le = ap (λ l. x ∷ l) (take_whole xs n (omega arith))

  drop_whole : (xs : List X) (n : ℕ) → length xs ≤ n → drop n xs ≡ []
  drop_whole [] zero le = refl
  drop_whole [] (suc n) le = refl
  drop_whole (x ∷ xs) zero le = absurd (omega arith)
  drop_whole (x ∷ xs) (suc n) le = drop_whole xs n (omega arith)

  -- what the row of these items is while they move
  pub record IsSliding (old now : Row X) (k : ℕ) : Type 0 where
    pub row : IsRow old
    pub fields : (now.first ≡ old.first) × ((now.len ≡ old.len) × ((now.room ≡ old.room) × (now.block.room ≡ old.block.room)))
    pub few : k ≤ old.len
    pub some : 0 < old.first
    pub places : now.block.places ≡ slid k (items_of old) old.first (old.room - (old.first + old.len))

  pub slides : (old : Row X) → IsRow old → 0 < old.first → IsSliding old old 0
  slides old h some = record { row = h; fields = (refl, (refl, (refl, refl))); few = omega arith; some = some; places = (unlaid old h).0 }

  pub slid_is : (old now : Row X) (k : ℕ) → IsSliding old now k → k < now.len → IsFilled now.block.places (now.first + k)
  slid_is old now k h lt =
      let count = (unlaid old h.row).1 in let same = h.fields.1.0 in let at = h.fields.0 in
      let on = slid-item k (items_of old) old.first (old.room - (old.first + old.len)) (now.first + k) (omega arith) (omega arith) in
      (on.0, ap (λ l. get_or l (now.first + k) None) h.places ∙ on.1)

  pub slid_open : (old now : Row X) (k : ℕ) → IsSliding old now k → k < now.len
      → (k < length (set now.block.places (now.first + k) None)) × (get_or (set now.block.places (now.first + k) None) k None ≡ None)
  slid_open old now k h lt =
      let count = (unlaid old h.row).1 in let same = h.fields.1.0 in let at = h.fields.0 in
      let on = slid-blank k (items_of old) old.first (old.room - (old.first + old.len)) (now.first + k) h.some (omega arith) (omega arith) in
      (omega (arith, on.0, ap (λ l. length (set l (now.first + k) None)) h.places), ap (λ l. get_or (set l (now.first + k) None) k None) h.places ∙ on.1)

  pub slides_on : (old now : Row X) (k : ℕ) → IsSliding old now k → k < now.len → (x : X) → get_or now.block.places (now.first + k) None ≡ Some x
      → IsSliding old (record now { block = record now.block { places = set (set now.block.places (now.first + k) None) k (Some x) } }) (k + 1)
  slides_on old now k h lt x got =
      let count = (unlaid old h.row).1 in let same = h.fields.1.0 in let at = h.fields.0 in let xs = items_of old in let b = old.room - (old.first + old.len) in
      let next : suc k ≡ k + 1 = omega arith in
      let on = slid-next k xs old.first b (now.first + k) x h.some (omega arith) (omega arith) (ap (λ l. get_or l (now.first + k) None) (sym h.places) ∙ got) in
      record {
        row = h.row;
        fields = h.fields;
        few = omega arith;
        some = h.some;
        places = ap (λ l. set (set l (now.first + k) None) k (Some x)) h.places ∙ on ∙ ap (λ n. slid n xs old.first b) next;
      }

  pub settles : (old now : Row X) (k : ℕ) → IsSliding old now k → now.len ≤ k → let new = record now { first = 0 } in IsRow new × (items_of new ≡ items_of old)
  settles old now k h all =
      let count = (unlaid old h.row).1 in let same = h.fields.1.0 in let xs = items_of old in let b = old.room - (old.first + old.len) in let fits = h.row.fits in let room = h.fields.1.1.0 in
      let done : slid k xs old.first b ≡ laid 0 xs (old.first + b) =
      ap (λ l. map Some l ++ laid old.first (drop k xs) b) (take_whole xs k (omega arith)) ∙ ap (λ l. map Some xs ++ laid old.first l b) (drop_whole xs k (omega arith))
      ∙ ap (λ l. map Some xs ++ l) (sym (no_items old.first b (old.first + b) refl)) in
      relaid (record now { first = 0 }) xs (old.first + b) (h.fields.1.1.1 ∙ h.row.block ∙ sym room) (h.places ∙ done) (count ∙ sym same) (omega arith) (omega arith)
