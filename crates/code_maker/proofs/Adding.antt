-- Each step that is added is its line, with its setting.
use Rattle.std.proofs.Common.{◌≡◌, ℕ, zero, suc, ◌+◌, ◌-◌, ◌^◌, ◌<◌, ◌≤◌, ltb, if◌then◌else◌, Bool, true, false, List, [], ◌∷◌, ◌++◌, map, length, get_or, refl, sym, ap, ◌∙◌, subst}
use Rattle.std.proofs.lemmas.List.{append-nil, length-map}
use Rattle.node_ops.specs.Operands.{shape_of}
use Rattle.flow_value.specs.declared.operands.Shape.{Shape}
use Rattle.if1_graph.specs.declared.op.Simple.{Simple}
use Rattle.run_code.specs.Cells.{cells_at}
use Rattle.run_code.specs.Collections.{sifts_in}
use Rattle.run_code.specs.Made.{Origin, Plan, line}
use Rattle.run_code.specs.Steps as made
use Rattle.run_store.specs.Stored.{Looks}
use Rattle.plan_data.specs.Settings.{Cells_of, takes_all}
use Rattle.plan_data.specs.Settled.{setting}
use Rattle.step_code.specs.declared.code.Code.{Code}
use Rattle.step_code.specs.declared.step.Collect.{Collect}
use Rattle.step_code.specs.declared.step.Counted.{Counted}
use Rattle.step_code.specs.declared.step.Written.{Written}
use Rattle.step_code.specs.declared.step.Step.TheVariants as step
use Rattle.gapped.specs.Spread.{spread}
use Rattle.gapped.proofs.Spreading.{map-spread}
use Rattle.step_code.specs.declared.code.Operand.TheVariants as operand
use Rattle.step_code.specs.declared.step.SparseRow.{SparseRow}
use Rattle.step_code.specs.declared.step.Written.TheVariants as written
use Rattle.step_code.specs.Laid.{collect_in, counted_by, puts_of, row_of, shape_in, taken_all}
use Rattle.step_code.specs.Reading.{gapped, is_kept, mode_in, operand_in, so_many}
use Rattle.plan_data.specs.declared.plan.Handled.{Handled}
use Rattle.plan_data.specs.declared.plan.Port.{Port}
use Rattle.plan_data.specs.declared.plan.PlanData.{PlanData}
use Rattle.plan_data.specs.Parts.{IsFormed, mode_by, mode_of}
use Rattle.code_maker.specs.declared.draft.Draft.{Draft}
use Rattle.code_maker.specs.declared.seats.Seat.{Seat}
use Rattle.code_maker.specs.Seats.{at_seat, at_seats, laid, looked_at, seat_at, seats_at, sifts_among, with_mode}
use Rattle.code_maker.specs.Sparse.{IsUnfilled}
use Rattle.code_maker.specs.Grows.{AreNamed, ArePlain, Begins, Grows, IsRoomOf, IsToldOf, read_as}
use Rattle.code_maker.proofs.Reading.{kept-by, looked-read, more-read, operand-is, operands-are, plain-one, ports-kept, ports-plain, ports-read, puts-none, read-one, sifts-are, sifts-long, taken-same, unmarked}
use Rattle.code_maker.proofs.Growing.{collects-named, collects-there, grows-one, operands-named, operands-there, targets-named, targets-there}

either-way : (b : Bool) (n : ℕ) → (if b then n else n) ≡ n
either-way true n = refl
either-way false n = refl

looked-long : (i n : ℕ) → length (looked_at i n) ≡ n
looked-long i zero = refl
looked-long i (suc n) = ap suc (looked-long (suc i) n)

-- what was added for ports is named
ports-named : (D : PlanData) → IsFormed D → (old new : Draft) (code : Code) (args : List Seat) (first : ℕ) (xs : List Port) (i n : ℕ) → Begins D new code → new.operands ≡ old.operands ++ map (laid D args first) xs → i ≡ length old.operands → n ≡ length xs
    → 0 < length D.literals → AreNamed code i n
ports-named D formed old new code args first xs i n h b i_is n_is some =
    let os = map (laid D args first) xs in
    let long = n_is ∙ sym (length-map xs (laid D args first)) in
    let there : so_many i n code.operands ≡ os = operands-named D old new code os i n h b i_is long in
    record {
      there = operands-there D old new code os i n h b i_is long;
      long = ap length there ∙ sym long;
      plain = subst (ArePlain code) (sym there) (ports-plain D formed code h.literals some args first xs);
    }

module _ (D : PlanData) (P : Plan) (old new : Draft) (o : Origin) (lives owns : Cells_of) where
  pub count-grows : new.steps ≡ old.steps ++ step.Count ∷ [] → new.operands ≡ old.operands → new.targets ≡ old.targets → new.collects ≡ old.collects
      → Grows D P old new (line o made.Count ∷ []) (setting [] [] lives owns ∷ [])
  count-grows a b c d =
      grows-one D P old new step.Count (line o made.Count) (setting [] [] lives owns) [] [] [] a (b ∙ sym (append-nil old.operands)) (c ∙ sym (append-nil old.targets)) (d ∙ sym (append-nil old.collects))
      (λ code h. record { step = refl; modes = refl; puts = λ k. refl; keeps = λ k. refl; told = tt; knit = λ some. tt })

module _ (D : PlanData) (formed : IsFormed D) (P : Plan) (old new : Draft) (o : Origin) (lives owns : Cells_of) where
  pub fire-grows : (args : List Seat) (first : ℕ) (xs : List Port) (row : Simple) (shape : Shape) (writes : Written) (copies : Counted) (out w : ℕ) (i n : ℕ) → IsToldOf D P row writes copies w (map mode_of xs) o → new.steps ≡ old.steps ++ step.Fire row writes shape i n out w (2 ^ 32 - 1) copies ∷ [] → new.operands ≡ old.operands ++ map (laid D args first) xs → new.targets ≡ old.targets → new.collects ≡ old.collects
      → i ≡ length old.operands → n ≡ length xs → Grows D P old new (line o (made.Fire row (shape_of shape) (at_seats D (seats_at args first xs)) out w) ∷ []) (setting (map mode_of xs) [] lives owns ∷ [])
  fire-grows args first xs row shape writes copies out w i n told a b c d i_is n_is =
      let os = map (laid D args first) xs in
      grows-one D P old new (step.Fire row writes shape i n out w (2 ^ 32 - 1) copies) (line o (made.Fire row (shape_of shape) (at_seats D (seats_at args first xs)) out w)) (setting (map mode_of xs) [] lives owns) os [] [] a b (c ∙ sym (append-nil old.targets)) (d ∙ sym (append-nil old.collects))
      (λ code h.
      let there : so_many i n code.operands ≡ os = operands-named D old new code os i n h b i_is (n_is ∙ sym (length-map xs (laid D args first))) in
      record {
        step = ap (λ l. made.Fire row (shape_of shape) (map (operand_in code) l) out w) there ∙ ap (λ l. made.Fire row (shape_of shape) l out w) (operands-are D formed code h.literals args first xs);
        modes = ap (λ l. read_as (map (mode_in code) l) (at_seats D (seats_at args first xs))) there ∙ ports-read D formed code h.literals args first xs;
        puts = λ k. refl;
        told = told;
        knit = λ some. ports-named D formed old new code args first xs i n h b i_is n_is some;
        keeps = λ k.
            let marks : length code.marks ≤ 2 ^ 32 - 1 = subst (λ ms. length ms ≤ 2 ^ 32 - 1) (sym h.marks) formed.marks in
            kept-by (so_many (2 ^ 32 - 1) w code.marks) (unmarked (2 ^ 32 - 1) w code.marks marks) out k;
      })

  -- what fills a port that nothing fills is the first literal
  unfilled-laid : (args : List Seat) (first : ℕ) (f : Port) → IsUnfilled f → laid D args first f ≡ operand.Literal 0
  unfilled-laid args first f h = ap (λ z. with_mode D f.handled (seat_at args first z)) h.literal ∙ ap operand.Literal (either-way (ltb 0 (length D.literals)) 0)

  pub sparse-grows : (args : List Seat) (first : ℕ) (f : Port) (ks : List ℕ) (xs : List Port) (row : SparseRow) (out : ℕ) (copies : Bool) (g i n : ℕ) → IsUnfilled f → length ks ≡ length xs
      → IsToldOf D P (row_of row) written.Nothing (counted_by copies) 1 (map mode_of (spread f ks xs)) o → new.steps ≡ old.steps ++ step.Sparse row g i n out copies ∷ [] → new.operands ≡ old.operands ++ map (laid D args first) xs → new.targets ≡ old.targets ++ ks → new.collects ≡ old.collects
      → i ≡ length old.operands → n ≡ length xs → g ≡ length old.targets
      → Grows D P old new (line o (made.Fire (row_of row) (shape_in row) (at_seats D (seats_at args first (spread f ks xs))) out 1) ∷ []) (setting (map mode_of (spread f ks xs)) [] lives owns ∷ [])
  sparse-grows args first f ks xs row out copies g i n unfilled even told a b c d i_is n_is g_is =
      let os = map (laid D args first) xs in
      let all = spread f ks xs in
      let long = n_is ∙ sym (length-map xs (laid D args first)) in
      grows-one D P old new (step.Sparse row g i n out copies) (line o (made.Fire (row_of row) (shape_in row) (at_seats D (seats_at args first all)) out 1)) (setting (map mode_of all) [] lives owns) os ks [] a b c (d ∙ sym (append-nil old.collects))
      (λ code h.
      let there : so_many i n code.operands ≡ os = operands-named D old new code os i n h b i_is long in
      let here : so_many g n code.targets ≡ ks = targets-named D old new code ks g n h c g_is (n_is ∙ sym even) in
      let whole : gapped code g i n ≡ map (laid D args first) all =
      ap (λ z. spread (operand.Literal 0) z (so_many i n code.operands)) here
      ∙ (ap (λ z. spread (operand.Literal 0) ks z) there ∙ (ap (λ z. spread z ks os) (sym (unfilled-laid args first f unfilled)) ∙ sym (map-spread (laid D args first) f ks xs))) in
      record {
        step = ap (λ l. made.Fire (row_of row) (shape_in row) (map (operand_in code) l) out 1) whole ∙ ap (λ l. made.Fire (row_of row) (shape_in row) l out 1) (operands-are D formed code h.literals args first all);
        modes = ap (λ l. read_as (map (mode_in code) l) (at_seats D (seats_at args first all))) whole ∙ ports-read D formed code h.literals args first all;
        puts = λ k. refl;
        told = told;
        knit = λ some.
            record {
              there = operands-there D old new code os i n h b i_is long;
              numbers = targets-there D old new code ks g n h c g_is (n_is ∙ sym even);
              plain = subst (ArePlain code) (sym whole) (ports-plain D formed code h.literals some args first all);
            };
        keeps = λ k. refl;
      })

  pub call-grows : (args : List Seat) (first : ℕ) (xs : List Port) (entry size room out w : ℕ) (i n : ℕ) → IsRoomOf D P room o → new.steps ≡ old.steps ++ step.Call entry size room i n out w ∷ [] → new.operands ≡ old.operands ++ map (laid D args first) xs → new.targets ≡ old.targets → new.collects ≡ old.collects
      → i ≡ length old.operands → n ≡ length xs → Grows D P old new (line o (made.Call entry size (at_seats D (seats_at args first xs)) out w) ∷ []) (setting (map mode_of xs) [] lives owns ∷ [])
  call-grows args first xs entry size room out w i n room_is a b c d i_is n_is =
      let os = map (laid D args first) xs in
      grows-one D P old new (step.Call entry size room i n out w) (line o (made.Call entry size (at_seats D (seats_at args first xs)) out w)) (setting (map mode_of xs) [] lives owns) os [] [] a b (c ∙ sym (append-nil old.targets)) (d ∙ sym (append-nil old.collects))
      (λ code h.
      let there : so_many i n code.operands ≡ os = operands-named D old new code os i n h b i_is (n_is ∙ sym (length-map xs (laid D args first))) in
      record {
        step = ap (λ l. made.Call entry size (map (operand_in code) l) out w) there ∙ ap (λ l. made.Call entry size l out w) (operands-are D formed code h.literals args first xs);
        modes = ap (λ l. read_as (map (mode_in code) l) (at_seats D (seats_at args first xs))) there ∙ ports-read D formed code h.literals args first xs;
        puts = λ k. refl;
        told = tt;
        knit = λ some. (ports-named D formed old new code args first xs i n h b i_is n_is some, room_is);
        keeps = λ k. refl;
      })

  pub return-grows : (args : List Seat) (first : ℕ) (xs : List Port) (i n : ℕ) → new.steps ≡ old.steps ++ step.Return i n ∷ [] → new.operands ≡ old.operands ++ map (laid D args first) xs → new.targets ≡ old.targets → new.collects ≡ old.collects
      → i ≡ length old.operands → n ≡ length xs → Grows D P old new (line o (made.Return (at_seats D (seats_at args first xs))) ∷ []) (setting (map mode_of xs) [] lives owns ∷ [])
  return-grows args first xs i n a b c d i_is n_is =
      let os = map (laid D args first) xs in
      grows-one D P old new (step.Return i n) (line o (made.Return (at_seats D (seats_at args first xs)))) (setting (map mode_of xs) [] lives owns) os [] [] a b (c ∙ sym (append-nil old.targets)) (d ∙ sym (append-nil old.collects))
      (λ code h.
      let there : so_many i n code.operands ≡ os = operands-named D old new code os i n h b i_is (n_is ∙ sym (length-map xs (laid D args first))) in
      record {
        step = ap (λ l. made.Return (map (operand_in code) l)) there ∙ ap (λ l. made.Return l) (operands-are D formed code h.literals args first xs);
        modes = ap (λ l. read_as (map (mode_in code) l) (at_seats D (seats_at args first xs))) there ∙ ports-read D formed code h.literals args first xs;
        puts = λ k. refl;
        told = tt;
        knit = λ some. ports-named D formed old new code args first xs i n h b i_is n_is some;
        keeps = λ k. refl;
      })

  pub move-grows : (args : List Seat) (first : ℕ) (xs : List Port) (out w next : ℕ) (i n : ℕ) → new.steps ≡ old.steps ++ step.Move i n out w next ∷ [] → new.operands ≡ old.operands ++ map (laid D args first) xs → new.targets ≡ old.targets → new.collects ≡ old.collects
      → i ≡ length old.operands → n ≡ length xs → Grows D P old new (line o (made.Move (at_seats D (seats_at args first xs)) out w next) ∷ []) (setting (map mode_of xs) [] lives owns ∷ [])
  move-grows args first xs out w next i n a b c d i_is n_is =
      let os = map (laid D args first) xs in
      grows-one D P old new (step.Move i n out w next) (line o (made.Move (at_seats D (seats_at args first xs)) out w next)) (setting (map mode_of xs) [] lives owns) os [] [] a b (c ∙ sym (append-nil old.targets)) (d ∙ sym (append-nil old.collects))
      (λ code h.
      let there : so_many i n code.operands ≡ os = operands-named D old new code os i n h b i_is (n_is ∙ sym (length-map xs (laid D args first))) in
      record {
        step = ap (λ l. made.Move (map (operand_in code) l) out w next) there ∙ ap (λ l. made.Move l out w next) (operands-are D formed code h.literals args first xs);
        modes = ap (λ l. read_as (map (mode_in code) l) (at_seats D (seats_at args first xs))) there ∙ ports-read D formed code h.literals args first xs;
        puts = λ k. refl;
        told = tt;
        knit = λ some. ports-named D formed old new code args first xs i n h b i_is n_is some;
        keeps = λ k. refl;
      })

  pub branch-grows : (h : Handled) (s : Seat) (ts : List ℕ) (i n out w next : ℕ) → new.steps ≡ old.steps ++ step.Branch (with_mode D h s) i n out w next ∷ [] → new.operands ≡ old.operands → new.targets ≡ old.targets ++ ts → new.collects ≡ old.collects → i ≡ length old.targets → n ≡ length ts
      → Grows D P old new (line o (made.Branch (at_seat D s) ts out w next) ∷ []) (setting (mode_by h ∷ []) [] lives owns ∷ [])
  branch-grows h s ts i n out w next a b c d i_is n_is =
      grows-one D P old new (step.Branch (with_mode D h s) i n out w next) (line o (made.Branch (at_seat D s) ts out w next)) (setting (mode_by h ∷ []) [] lives owns) [] ts [] a (b ∙ sym (append-nil old.operands)) c (d ∙ sym (append-nil old.collects))
      (λ code g. record {
        step = ap (λ q. made.Branch q (so_many i n code.targets) out w next) (operand-is D formed code g.literals h s) ∙ ap (λ q. made.Branch (at_seat D s) q out w next) (targets-named D old new code ts i n g c i_is n_is);
        modes = read-one D formed code g.literals h s [] [] [] refl;
        puts = λ k. refl;
        told = tt;
        knit = λ some. (plain-one D formed code g.literals some h s, targets-there D old new code ts i n g c i_is n_is);
        keeps = λ k. refl;
      })

  true-kept : (k : ℕ) → get_or (true ∷ []) k true ≡ true
  true-kept zero = refl
  true-kept (suc k) = refl

  pub tag-grows : (h : Handled) (s : Seat) (ts : List ℕ) (i n content out w next : ℕ) → new.steps ≡ old.steps ++ step.Tag (with_mode D h s) i n content true out w next ∷ [] → new.operands ≡ old.operands → new.targets ≡ old.targets ++ ts → new.collects ≡ old.collects → i ≡ length old.targets → n ≡ length ts
      → Grows D P old new (line o (made.Tag (at_seat D s) ts content out w next) ∷ []) (setting (mode_by h ∷ []) [] lives owns ∷ [])
  tag-grows h s ts i n content out w next a b c d i_is n_is =
      grows-one D P old new (step.Tag (with_mode D h s) i n content true out w next) (line o (made.Tag (at_seat D s) ts content out w next)) (setting (mode_by h ∷ []) [] lives owns) [] ts [] a (b ∙ sym (append-nil old.operands)) c (d ∙ sym (append-nil old.collects))
      (λ code g. record {
        step = ap (λ q. made.Tag q (so_many i n code.targets) content out w next) (operand-is D formed code g.literals h s) ∙ ap (λ q. made.Tag (at_seat D s) q content out w next) (targets-named D old new code ts i n g c i_is n_is);
        modes = read-one D formed code g.literals h s [] [] [] refl;
        puts = λ k. refl;
        told = tt;
        knit = λ some. (plain-one D formed code g.literals some h s, targets-there D old new code ts i n g c i_is n_is);
        keeps = λ k. kept-by (true ∷ []) true-kept content k;
      })

  pub test-grows : (h : Handled) (s : Seat) (turn leave out w next : ℕ) → new.steps ≡ old.steps ++ step.Test (with_mode D h s) turn leave out w next ∷ [] → new.operands ≡ old.operands → new.targets ≡ old.targets → new.collects ≡ old.collects
      → Grows D P old new (line o (made.Test (at_seat D s) turn leave out w next) ∷ []) (setting (mode_by h ∷ []) [] lives owns ∷ [])
  test-grows h s turn leave out w next a b c d =
      grows-one D P old new (step.Test (with_mode D h s) turn leave out w next) (line o (made.Test (at_seat D s) turn leave out w next)) (setting (mode_by h ∷ []) [] lives owns) [] [] [] a (b ∙ sym (append-nil old.operands)) (c ∙ sym (append-nil old.targets)) (d ∙ sym (append-nil old.collects))
      (λ code g. record {
        step = ap (λ q. made.Test q turn leave out w next) (operand-is D formed code g.literals h s);
        modes = read-one D formed code g.literals h s [] [] [] refl;
        puts = λ k. refl;
        told = tt;
        knit = λ some. plain-one D formed code g.literals some h s;
        keeps = λ k. refl;
      })

  pub begin-grows : (args : List Seat) (first : ℕ) (xs : List Port) (cs : List Collect) (out next : ℕ) (i n j k : ℕ) → new.steps ≡ old.steps ++ step.Keep true j k i n out next ∷ [] → new.operands ≡ old.operands ++ map (laid D args first) xs → new.targets ≡ old.targets → new.collects ≡ old.collects ++ sifts_among cs
      → i ≡ length old.operands → n ≡ length xs → j ≡ length old.collects → k ≡ length (sifts_among cs)
      → Grows D P old new (line o (made.Keep true (sifts_in (map collect_in cs)) (at_seats D (seats_at args first xs)) out next) ∷ []) (setting (map mode_of xs) [] lives owns ∷ [])
  begin-grows args first xs cs out next i n j k a b c d i_is n_is j_is k_is =
      let os = map (laid D args first) xs in
      grows-one D P old new (step.Keep true j k i n out next) (line o (made.Keep true (sifts_in (map collect_in cs)) (at_seats D (seats_at args first xs)) out next)) (setting (map mode_of xs) [] lives owns) os [] (sifts_among cs) a b (c ∙ sym (append-nil old.targets)) d
      (λ code h.
      let there : so_many i n code.operands ≡ os = operands-named D old new code os i n h b i_is (n_is ∙ sym (length-map xs (laid D args first))) in
      let here : so_many j k code.collects ≡ sifts_among cs = collects-named D old new code (sifts_among cs) j k h d j_is k_is in
      record {
        step = ap (λ l. made.Keep true (map collect_in l) (map (operand_in code) (so_many i n code.operands)) out next) here
            ∙ (ap (λ l. made.Keep true l (map (operand_in code) (so_many i n code.operands)) out next) (sifts-are cs)
            ∙ (ap (λ l. made.Keep true (sifts_in (map collect_in cs)) (map (operand_in code) l) out next) there
            ∙ ap (λ l. made.Keep true (sifts_in (map collect_in cs)) l out next) (operands-are D formed code h.literals args first xs)));
        modes = ap (λ l. read_as (l ++ []) (at_seats D (seats_at args first xs))) (ap (map (mode_in code)) there) ∙ (ap (λ l. read_as l (at_seats D (seats_at args first xs))) (append-nil (map (mode_in code) os)) ∙ ports-read D formed code h.literals args first xs);
        puts = λ q. ap (λ l. get_or (map puts_of l) q false) here ∙ puts-none cs q;
        told = tt;
        knit = λ some. (ports-named D formed old new code args first xs i n h b i_is n_is some, collects-there D old new code (sifts_among cs) j k h d j_is k_is);
        keeps = λ k. refl;
      })

  pub keep-grows : (args : List Seat) (first : ℕ) (xs : List Port) (cs : List Collect) (out next : ℕ) (i n j k : ℕ) → new.steps ≡ old.steps ++ step.Keep false j k i n out next ∷ [] → new.operands ≡ old.operands ++ map (laid D args first) xs → new.targets ≡ old.targets → new.collects ≡ old.collects ++ sifts_among cs
      → i ≡ length old.operands → n ≡ length xs → j ≡ length old.collects → k ≡ length (sifts_among cs)
      → Grows D P old new (line o (made.Keep false (sifts_in (map collect_in cs)) (at_seats D (seats_at args first xs)) out next) ∷ []) (setting (map mode_of xs ++ takes_all (length (sifts_in (map collect_in cs)))) [] lives owns ∷ [])
  keep-grows args first xs cs out next i n j k a b c d i_is n_is j_is k_is =
      let os = map (laid D args first) xs in
      grows-one D P old new (step.Keep false j k i n out next) (line o (made.Keep false (sifts_in (map collect_in cs)) (at_seats D (seats_at args first xs)) out next)) (setting (map mode_of xs ++ takes_all (length (sifts_in (map collect_in cs)))) [] lives owns) os [] (sifts_among cs) a b (c ∙ sym (append-nil old.targets)) d
      (λ code h.
      let there : so_many i n code.operands ≡ os = operands-named D old new code os i n h b i_is (n_is ∙ sym (length-map xs (laid D args first))) in
      let here : so_many j k code.collects ≡ sifts_among cs = collects-named D old new code (sifts_among cs) j k h d j_is k_is in
      record {
        step = ap (λ l. made.Keep false (map collect_in l) (map (operand_in code) (so_many i n code.operands)) out next) here
            ∙ (ap (λ l. made.Keep false l (map (operand_in code) (so_many i n code.operands)) out next) (sifts-are cs)
            ∙ (ap (λ l. made.Keep false (sifts_in (map collect_in cs)) (map (operand_in code) l) out next) there
            ∙ ap (λ l. made.Keep false (sifts_in (map collect_in cs)) l out next) (operands-are D formed code h.literals args first xs)));
        modes = ap (λ l. read_as (map (mode_in code) l ++ taken_all k) (at_seats D (seats_at args first xs) ++ cells_at (out + length (at_seats D (seats_at args first xs))) (length (sifts_in (map collect_in cs))))) there
            ∙ (more-read D formed code h.literals args first xs (taken_all k) (taken_all k) (cells_at (out + length (at_seats D (seats_at args first xs))) (length (sifts_in (map collect_in cs)))) refl
            ∙ ap (λ q. read_as (map mode_of xs ++ q) (at_seats D (seats_at args first xs) ++ cells_at (out + length (at_seats D (seats_at args first xs))) (length (sifts_in (map collect_in cs))))) (taken-same k ∙ ap takes_all (k_is ∙ sifts-long cs)));
        puts = λ q. ap (λ l. get_or (map puts_of l) q false) here ∙ puts-none cs q;
        told = tt;
        knit = λ some. (ports-named D formed old new code args first xs i n h b i_is n_is some, collects-there D old new code (sifts_among cs) j k h d j_is k_is);
        keeps = λ k. refl;
      })

  pub put-grows : (args : List Seat) (first : ℕ) (xs : List Port) (cs : List Collect) (out next : ℕ) (i n j k : ℕ) → new.steps ≡ old.steps ++ step.Add j k i n out next ∷ [] → new.operands ≡ old.operands ++ map (laid D args first) xs → new.targets ≡ old.targets → new.collects ≡ old.collects ++ cs
      → i ≡ length old.operands → n ≡ length xs → j ≡ length old.collects → k ≡ length cs
      → Grows D P old new (line o (made.Add (map collect_in cs) (at_seats D (seats_at args first xs)) out next) ∷ []) (setting (map mode_of xs ++ takes_all (length cs)) (map puts_of cs) lives owns ∷ [])
  put-grows args first xs cs out next i n j k a b c d i_is n_is j_is k_is =
      let os = map (laid D args first) xs in
      grows-one D P old new (step.Add j k i n out next) (line o (made.Add (map collect_in cs) (at_seats D (seats_at args first xs)) out next)) (setting (map mode_of xs ++ takes_all (length cs)) (map puts_of cs) lives owns) os [] cs a b (c ∙ sym (append-nil old.targets)) d
      (λ code h.
      let there : so_many i n code.operands ≡ os = operands-named D old new code os i n h b i_is (n_is ∙ sym (length-map xs (laid D args first))) in
      let here : so_many j k code.collects ≡ cs = collects-named D old new code cs j k h d j_is k_is in
      record {
        step = ap (λ l. made.Add (map collect_in l) (map (operand_in code) (so_many i n code.operands)) out next) here
            ∙ (ap (λ l. made.Add (map collect_in cs) (map (operand_in code) l) out next) there
            ∙ ap (λ l. made.Add (map collect_in cs) l out next) (operands-are D formed code h.literals args first xs));
        modes = ap (λ l. read_as (map (mode_in code) l ++ taken_all k) (at_seats D (seats_at args first xs) ++ cells_at out (length (map collect_in cs)))) there
            ∙ (more-read D formed code h.literals args first xs (taken_all k) (taken_all k) (cells_at out (length (map collect_in cs))) refl
            ∙ ap (λ q. read_as (map mode_of xs ++ q) (at_seats D (seats_at args first xs) ++ cells_at out (length (map collect_in cs)))) (taken-same k ∙ ap takes_all k_is));
        puts = λ q. ap (λ l. get_or (map puts_of l) q false) here;
        told = tt;
        knit = λ some. (ports-named D formed old new code args first xs i n h b i_is n_is some, collects-there D old new code cs j k h d j_is k_is);
        keeps = λ k. refl;
      })

  pub spread-grows : (args : List Seat) (first : ℕ) (xs : List Port) (cs : List Collect) (to turns out w next : ℕ) (i n j k : ℕ) → new.steps ≡ old.steps ++ step.Spread i n j k to turns out w next ∷ [] → new.operands ≡ old.operands ++ map (laid D args first) xs → new.targets ≡ old.targets → new.collects ≡ old.collects ++ cs
      → i ≡ length old.operands → n ≡ length xs → j ≡ length old.collects → k ≡ length cs
      → Grows D P old new (line o (made.Spread (at_seats D (seats_at args first xs)) (map collect_in cs) to turns out w next) ∷ []) (setting (map mode_of xs) [] lives owns ∷ [])
  spread-grows args first xs cs to turns out w next i n j k a b c d i_is n_is j_is k_is =
      let os = map (laid D args first) xs in
      grows-one D P old new (step.Spread i n j k to turns out w next) (line o (made.Spread (at_seats D (seats_at args first xs)) (map collect_in cs) to turns out w next)) (setting (map mode_of xs) [] lives owns) os [] cs a b (c ∙ sym (append-nil old.targets)) d
      (λ code h.
      let there : so_many i n code.operands ≡ os = operands-named D old new code os i n h b i_is (n_is ∙ sym (length-map xs (laid D args first))) in
      let here : so_many j k code.collects ≡ cs = collects-named D old new code cs j k h d j_is k_is in
      record {
        step = ap (λ l. made.Spread (map (operand_in code) (so_many i n code.operands)) (map collect_in l) to turns out w next) here
            ∙ (ap (λ l. made.Spread (map (operand_in code) l) (map collect_in cs) to turns out w next) there
            ∙ ap (λ l. made.Spread l (map collect_in cs) to turns out w next) (operands-are D formed code h.literals args first xs));
        modes = ap (λ l. read_as (map (mode_in code) l) (at_seats D (seats_at args first xs))) there ∙ ports-read D formed code h.literals args first xs;
        puts = λ q. refl;
        told = tt;
        knit = λ some. (ports-named D formed old new code args first xs i n h b i_is n_is some, collects-there D old new code cs j k h d j_is k_is);
        keeps = λ q. kept-by (map is_kept (so_many i n code.operands)) (λ m. ap (λ l. get_or (map is_kept l) m true) there ∙ ports-kept D args first xs m) to q;
      })

  pub each-grows : (many from count turn leave i : ℕ) → new.steps ≡ old.steps ++ step.Each i many from count (2 ^ 32 - 1) turn leave ∷ [] → new.operands ≡ old.operands ++ looked_at from many → new.targets ≡ old.targets → new.collects ≡ old.collects → i ≡ length old.operands
      → Grows D P old new (line o (made.Each many from count turn leave) ∷ []) (setting [] [] lives owns ∷ [])
  each-grows many from count turn leave i a b c d i_is =
      grows-one D P old new (step.Each i many from count (2 ^ 32 - 1) turn leave) (line o (made.Each many from count turn leave)) (setting [] [] lives owns) (looked_at from many) [] [] a b (c ∙ sym (append-nil old.targets)) (d ∙ sym (append-nil old.collects))
      (λ code h.
      let there : so_many i many code.operands ≡ looked_at from many = operands-named D old new code (looked_at from many) i many h b i_is (sym (looked-long from many)) in
      record {
        step = refl;
        modes = ap (λ l. Looks ∷ read_as (map (mode_in code) l) (cells_at from many)) there ∙ ap (λ l. Looks ∷ l) (looked-read D formed code h.literals from many);
        puts = λ k. refl;
        told = tt;
        knit = λ some. (operands-there D old new code (looked_at from many) i many h b i_is (sym (looked-long from many)), there);
        keeps = λ k.
            let marks : length code.marks ≤ 2 ^ 32 - 1 = subst (λ ms. length ms ≤ 2 ^ 32 - 1) (sym h.marks) formed.marks in
            kept-by (so_many (2 ^ 32 - 1) many code.marks) (unmarked (2 ^ 32 - 1) many code.marks marks) (suc count) k;
      })
