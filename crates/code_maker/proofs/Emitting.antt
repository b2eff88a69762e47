-- The parts of a graph's code, one behind another.
use Rattle.std.proofs.Common.{◌≡◌, ℕ, zero, suc, ◌+◌, ◌<◌, if◌then◌else◌, Bool, true, false, List, [], ◌∷◌, ◌++◌, map, drop, length, get_or, inl, inr, refl, sym, ap, ◌∙◌, subst, arith, append_assoc}
use Rattle.std.proofs.lemmas.List.{append-nil, length-map}
use Rattle.graph_meaning.specs.Carried.{Unfilled}
use Rattle.graph_meaning.specs.Forms as form
use Rattle.graph_meaning.specs.Demand.{Source, Vertex, Whole}
use Rattle.ordered_meaning.specs.Taking.{first_port, taken_by}
use Rattle.node_ops.specs.Operands.{shape_of}
use Rattle.flow_value.specs.declared.operands.Shape.{Shape}
use Rattle.if1_graph.specs.declared.op.Simple.{Simple}
use Rattle.run_code.specs.Cells as cells
use Rattle.run_code.specs.Cells.{cells_at, own_cells, picked}
use Rattle.run_code.specs.Coded.{operand}
use Rattle.run_code.specs.Collections as collections
use Rattle.run_code.specs.Collections.{sifts_in}
use Rattle.run_code.specs.Made.{Line, OfInputs, OfNode, OfNothing, OfResults, OfRows, Origin, Plan, arm_code, arms_at, arms_code, end_at, ends_at, function_lines, functions_lines, graph_code, kind_code, kind_size, line, loop_code, nodes_code, parts_code, placed, stand}
use Rattle.run_code.specs.Steps.{Add, Branch, Call, Count, Each, Fire, Keep, Move, Return, Spread, Step, Tag, Test}
use Rattle.run_made.specs.Plans.{last_line}
use Rattle.run_store.specs.Effects.{reads_of}
use Rattle.run_store.specs.Ports.{copies_of}
use Rattle.run_store.specs.Stored.{Looks, Mode, Takes}
use Rattle.plan_data.specs.Settings.{Cells_of, Shares, cells_where, either_of, gives, live_behind, live_in, modes_at, none_of, own_behind, own_in, range_of, result_modes, sifts_of, takes_all}
use Rattle.plan_data.specs.Settled.{Setting, arms_settings, function_settings, functions_settings, graph_settings, kind_settings, last_setting, nodes_settings, part_settings, parts_settings, setting}
use Rattle.plan_data.specs.declared.plan.LoopParts.{LoopParts}
use Rattle.plan_data.specs.declared.plan.Port.{Port}
use Rattle.plan_data.specs.declared.plan.PlanData.{PlanData}
use Rattle.plan_data.specs.declared.plan.PlanNode.{PlanNode}
use Rattle.plan_data.specs.declared.plan.Work.{Work}
use Rattle.plan_data.specs.declared.plan.Work.TheVariants as work
use Rattle.plan_data.specs.Parts.{IsFormed, IsWhole, count_true, extent_in, first_given, graph_collects, graph_refolded, graph_results, kind_of, mode_of, picks_of, size_in, table_of, work_steps}
use Rattle.plan_data.specs.Stands.{AreFed, IsHandled, IsNode, Stands}
use Rattle.step_code.specs.declared.step.Collect.{Collect}
use Rattle.step_code.specs.declared.step.Counted.{Counted}
use Rattle.step_code.specs.declared.step.Written.{Written}
use Rattle.step_code.specs.declared.code.Code.{Code}
use Rattle.step_code.specs.declared.step.Step as step_of
use Rattle.step_code.specs.declared.step.Step.TheVariants as step
use Rattle.step_code.specs.Laid.{collect_in, handling_of, puts_of}
use Rattle.code_maker.specs.declared.draft.Draft.{Draft}
use Rattle.code_maker.specs.declared.seats.Seat.{Seat}
use Rattle.code_maker.specs.declared.seats.Seat.TheVariants as seat
use Rattle.code_maker.specs.Grows.{AreLaid, Begins, Grows, IsLaid, IsRoomOf, IsToldOf, read_as}
use Rattle.code_maker.specs.Makes.{AreKnit, AreTold, ArmMade, ArmsMade, FirstMade, FunctionMade, FunctionsMade, GraphMade, IsCodeOf, NodeMade, NodesMade, PartsMade, RowsMade, TurnsMade, loop_work, one_if}
use Rattle.code_maker.specs.Seats.{at_seat, at_seats, cells_from, copied_ports, first_seat, own_seats, seat_at, seats_at, stand_from, starts_from}
use Rattle.code_maker.proofs.Growing.{grows-none, grows-then}
use Rattle.code_maker.proofs.Standing.{cells-are, end-is, ends-are, fed-are, many-copied, modes-copied, own-are, picked-are, seats-then, stand-are, starts-are, with-cells, work-is}

-- ---- along several equations

along2 : {A B : Type 0} (R : A → B → Type 0) (a a' : A) (b b' : B) → a ≡ a' → b ≡ b' → R a b → R a' b'
along2 R a a' b b' e f h = subst (λ x. R x b') e (subst (R a) f h)

along3 : {A B C : Type 0} (R : A → B → C → Type 0) (a a' : A) (b b' : B) (c c' : C) → a ≡ a' → b ≡ b' → c ≡ c' → R a b c → R a' b' c'
along3 R a a' b b' c c' e f g h = along2 (λ x y. R x y c') a a' b b' e f (subst (R a b) g h)

along4 : {A B C D : Type 0} (R : A → B → C → D → Type 0) (a a' : A) (b b' : B) (c c' : C) (d d' : D) → a ≡ a' → b ≡ b' → c ≡ c' → d ≡ d' → R a b c d → R a' b' c' d'
along4 R a a' b b' c c' d d' e f g k h = along3 (λ x y z. R x y z d') a a' b b' c c' e f g (subst (R a b c) k h)

-- ---- other lists of what is copied that tell the same

puts-laid : (D : PlanData) (P : Plan) (code : Code) (xs : List step_of.Step) (l : Line) (ms : List Mode) (bs bs' : List Bool) (lives owns : Cells_of) → ((i : ℕ) → get_or bs i false ≡ get_or bs' i false)
    → AreLaid D P code xs (l ∷ []) (setting ms bs lives owns ∷ []) → AreLaid D P code xs (l ∷ []) (setting ms bs' lives owns ∷ [])
puts-laid D P code [] l ms bs bs' lives owns same h = absurd h
puts-laid D P code (x ∷ xs) l ms bs bs' lives owns same h = (record { step = h.0.step; modes = h.0.modes; puts = λ i. h.0.puts i ∙ same i; keeps = h.0.keeps; told = h.0.told; knit = h.0.knit }, h.1)

puts-line : (D : PlanData) (P : Plan) (b c : Draft) (l : Line) (ms : List Mode) (bs bs' : List Bool) (lives owns : Cells_of) → ((i : ℕ) → get_or bs i false ≡ get_or bs' i false)
    → Grows D P b c (l ∷ []) (setting ms bs lives owns ∷ []) → Grows D P b c (l ∷ []) (setting ms bs' lives owns ∷ [])
puts-line D P b c l ms bs bs' lives owns same h =
    record {
      steps = (h.steps.0, h.steps.1, λ code begins. puts-laid D P code h.steps.0 l ms bs bs' lives owns same (h.steps.2 code begins));
      operands = h.operands;
      targets = h.targets;
      collects = h.collects;
    }

-- ---- a graph, and the step behind it

module _ (D : PlanData) (P : Plan) (S : Shares) (formed : IsFormed D) (stands : Stands D P S) where
  pub ends-line : (a b : Draft) (o : Origin) (F : List cells.Operand → Step) (M : List Mode → List Mode) (g : ℕ) (args : List Seat) (up : ℕ) (puts : List Bool) (lives owns : Cells_of) (ports : List Port) → ports ≡ graph_results D g
      → Grows D P a b (line o (F (at_seats D (seats_at args up ports))) ∷ []) (setting (M (map mode_of ports)) puts lives owns ∷ [])
      → Grows D P a b (line o (F (ends_at P (at_seats D args) g up)) ∷ []) (setting (M (result_modes P S g)) puts lives owns ∷ [])
  ends-line a b o F M g args up puts lives owns ports ports_are h =
      along2 (λ q m. Grows D P a b (line o (F q) ∷ []) (setting (M m) puts lives owns ∷ [])) (at_seats D (seats_at args up ports)) (ends_at P (at_seats D args) g up)
      (map mode_of ports) (result_modes P S g) (ap (λ xs. at_seats D (seats_at args up xs)) ports_are ∙ ends-are D formed P S stands g args up) (ap (map mode_of) ports_are ∙ sym (stands.modes g)) h

  pub end-line : (a b : Draft) (F : cells.Operand → Step) (g : ℕ) (args : List Seat) (up : ℕ) (lives owns : Cells_of) (from : Seat) → from ≡ first_seat args up (graph_results D g)
      → Grows D P a b (line OfNothing (F (at_seat D from)) ∷ []) (setting (Looks ∷ []) [] lives owns ∷ [])
      → Grows D P a b (line OfNothing (F (end_at P (at_seats D args) g up)) ∷ []) (setting (Looks ∷ []) [] lives owns ∷ [])
  end-line a b F g args up lives owns from from_is h =
      subst (λ q. Grows D P a b (line OfNothing (F q) ∷ []) (setting (Looks ∷ []) [] lives owns ∷ [])) (ap (at_seat D) from_is ∙ end-is D formed P S stands g args up) h

module _ (D : PlanData) (formed : IsFormed D) (room levels : ℕ) where
  pub arm-made : (args : List Seat) (g t w next lo up : ℕ) (a b c : Draft) (ports : List Port) → ports ≡ graph_results D g → GraphMade D room levels args g t up a b
      → ((P : Plan) (o : Origin) (lives owns : Cells_of) → Grows D P b c (line o (Move (at_seats D (seats_at args up ports)) lo w next) ∷ []) (setting (map mode_of ports) [] lives owns ∷ []))
      → ArmMade D room levels args g t w next lo up a c
  arm-made args g t w next lo up a b c ports ports_are made last P S keep hold stands =
      let xs = at_seats D args in
      let lives = live_behind P S keep xs g up in
      let owns = own_behind P S hold xs g up in
      grows-then D P a b c (graph_code P levels room xs g t up) (line (OfResults g) (Move (ends_at P xs g up) lo w next) ∷ []) (graph_settings P S levels keep hold xs g up) (setting (result_modes P S g) [] lives owns ∷ [])
      (made P S keep hold stands) (ends-line D P S formed stands b c (OfResults g) (λ q. Move q lo w next) (λ m. m) g args up [] lives owns ports ports_are (last P (OfResults g) lives owns))

  pub first-made : (args : List Seat) (p : LoopParts) (t starts mid : ℕ) (a b c : Draft) (ports : List Port) (cs : List Collect) → ports ≡ graph_results D p.init → cs ≡ graph_collects D p.returns → GraphMade D room levels args p.init t mid a b
      → ((P : Plan) (o : Origin) (lives owns : Cells_of) → Grows D P b c (line o (Keep true (sifts_in (map collect_in cs)) (at_seats D (seats_at args mid ports)) mid starts) ∷ []) (setting (map mode_of ports) [] lives owns ∷ []))
      → FirstMade D room levels args p t starts mid a c
  first-made args p t starts mid a b c ports cs ports_are cs_are made last P S keep hold stands =
      let xs = at_seats D args in
      let lives = live_behind P S keep xs p.init mid in
      let owns = own_behind P S hold xs p.init mid in
      let one = ends-line D P S formed stands b c (OfResults p.init) (λ q. Keep true (sifts_in (map collect_in cs)) q mid starts) (λ m. m) p.init args mid [] lives owns ports ports_are (last P (OfResults p.init) lives owns) in
      grows-then D P a b c (graph_code P levels room xs p.init t mid) (line (OfResults p.init) (Keep true (sifts_in (P.collects p.returns)) (ends_at P xs p.init mid) mid starts) ∷ []) (graph_settings P S levels keep hold xs p.init mid) (setting (result_modes P S p.init) [] lives owns ∷ [])
      (made P S keep hold stands) (subst (λ ks. Grows D P b c (line (OfResults p.init) (Keep true ks (ends_at P xs p.init mid) mid starts) ∷ []) (setting (result_modes P S p.init) [] lives owns ∷ [])) (ap (λ l. sifts_in (map collect_in l)) cs_are ∙ ap sifts_in (sym (stands.collects p.returns))) one)

  pub turns-made : (x : List Seat) (p : LoopParts) (turn tests leave w next lo mid top : ℕ) (a b c d e : Draft) (ports : List Port) (cs : List Collect) (told : Seat) → ports ≡ graph_results D p.body → cs ≡ graph_collects D p.returns → told ≡ first_seat x top (graph_results D p.test) → GraphMade D room levels x p.body turn top a b
      → ((P : Plan) (o : Origin) (lives owns : Cells_of) → Grows D P b c (line o (Keep false (sifts_in (map collect_in cs)) (at_seats D (seats_at x top ports)) mid tests) ∷ []) (setting (map mode_of ports ++ takes_all (length (sifts_in (map collect_in cs)))) [] lives owns ∷ []))
      → GraphMade D room levels x p.test tests top c d
      → ((P : Plan) (o : Origin) (lives owns : Cells_of) → Grows D P d e (line o (Test (at_seat D told) turn leave lo w next) ∷ []) (setting (Looks ∷ []) [] lives owns ∷ []))
      → TurnsMade D room levels x p turn tests leave w next lo mid top a e
  turns-made x p turn tests leave w next lo mid top a b c d e ports cs told ports_are cs_are told_is body keep_ test last P S keep hold keeps holds stands =
      let xs = at_seats D x in
      let lives = live_behind P S keep xs p.body top in
      let owns = own_behind P S hold xs p.body top in
      let lives' = live_behind P S keeps xs p.test top in
      let owns' = own_behind P S holds xs p.test top in
      let kept : sifts_in (map collect_in cs) ≡ sifts_in (P.collects p.returns) = ap (λ l. sifts_in (map collect_in l)) cs_are ∙ ap sifts_in (sym (stands.collects p.returns)) in
      let one = ends-line D P S formed stands b c (OfResults p.body) (λ q. Keep false (sifts_in (map collect_in cs)) q mid tests) (λ m. m ++ takes_all (length (sifts_in (map collect_in cs)))) p.body x top [] lives owns ports ports_are (keep_ P (OfResults p.body) lives owns) in
      let two = subst (λ ks. Grows D P b c (line (OfResults p.body) (Keep false ks (ends_at P xs p.body top) mid tests) ∷ []) (setting (result_modes P S p.body ++ takes_all (length ks)) [] lives owns ∷ [])) kept one in
      let three = end-line D P S formed stands d e (λ q. Test q turn leave lo w next) p.test x top lives' owns' told told_is (last P OfNothing lives' owns') in
      let mb = graph_code P levels room xs p.body turn top in
      let kb = line (OfResults p.body) (Keep false (sifts_in (P.collects p.returns)) (ends_at P xs p.body top) mid tests) in
      let mt = graph_code P levels room xs p.test tests top in
      let kt = line OfNothing (Test (end_at P xs p.test top) turn leave lo w next) in
      let sb = graph_settings P S levels keep hold xs p.body top in
      let st = graph_settings P S levels keeps holds xs p.test top in
      let ob = setting (result_modes P S p.body ++ takes_all (sifts_of P p.returns)) [] lives owns in
      let ot = setting (Looks ∷ []) [] lives' owns' in
      grows-then D P a c e (mb ++ (kb ∷ [])) (mt ++ (kt ∷ [])) (sb ++ (ob ∷ [])) (st ++ (ot ∷ []))
      (grows-then D P a b c mb (kb ∷ []) sb (ob ∷ []) (body P S keep hold stands) two)
      (grows-then D P c d e mt (kt ∷ []) st (ot ∷ []) (test P S keeps holds stands) three)

  pub rows-made : (x : List Seat) (body r t turns into up : ℕ) (a b c : Draft) (ports : List Port) (cs : List Collect) → ports ≡ graph_results D body → cs ≡ graph_collects D r → GraphMade D room levels x body t up a b
      → ((P : Plan) (o : Origin) (lives owns : Cells_of) → Grows D P b c (line o (Add (map collect_in cs) (at_seats D (seats_at x up ports)) into turns) ∷ []) (setting (map mode_of ports ++ takes_all (length cs)) (map puts_of cs) lives owns ∷ []))
      → RowsMade D room levels x body r t turns into up a c
  rows-made x body r t turns into up a b c ports cs ports_are cs_are made last P S keep hold stands =
      let xs = at_seats D x in
      let lives = live_behind P S keep xs body up in
      let owns = own_behind P S hold xs body up in
      let k = length (P.collects r) in
      let long : length cs ≡ k = ap length cs_are ∙ sym (ap length (stands.collects r) ∙ length-map (graph_collects D r) collect_in) in
      let one = ends-line D P S formed stands b c (OfRows body r) (λ q. Add (map collect_in cs) q into turns) (λ m. m ++ takes_all (length cs)) body x up (map puts_of cs) lives owns ports ports_are (last P (OfRows body r) lives owns) in
      let two = along2 (λ ks n. Grows D P b c (line (OfRows body r) (Add ks (ends_at P xs body up) into turns) ∷ []) (setting (result_modes P S body ++ takes_all n) (map puts_of cs) lives owns ∷ []))
      (map collect_in cs) (P.collects r) (length cs) k (ap (map collect_in) cs_are ∙ sym (stands.collects r)) long one in
      let three = puts-line D P b c (line (OfRows body r) (Add (P.collects r) (ends_at P xs body up) into turns)) (result_modes P S body ++ takes_all k) (map puts_of cs) (S.puts r) lives owns
      (λ q. ap (λ l. get_or (map puts_of l) q false) cs_are ∙ sym (stands.puts r q)) two in
      grows-then D P a b c (graph_code P levels room xs body t up) (line (OfRows body r) (Add (P.collects r) (ends_at P xs body up) into turns) ∷ []) (graph_settings P S levels keep hold xs body up) (setting (result_modes P S body ++ takes_all k) (S.puts r) lives owns ∷ [])
      (made P S keep hold stands) three

  -- ---- a part, and what stands behind it

  part-then : (P : Plan) (a b c : Draft) (ms : List Line) (l : Line) (ls : List Line) (ss ts : List Setting) → Grows D P a b (ms ++ (l ∷ [])) ss → Grows D P b c ls ts → Grows D P a c (ms ++ (l ∷ ls)) (ss ++ ts)
  part-then P a b c ms l ls ss ts f g = subst (λ q. Grows D P a c q (ss ++ ts)) (append_assoc ms (l ∷ []) ls) (grows-then D P a b c (ms ++ (l ∷ [])) ls ss ts f g)

  pub select-made : (own : List Seat) (s : ℕ) (gs : List ℕ) (place begin w next lo mid : ℕ) (a b c d : Draft) (chosen : Seat) → chosen ≡ first_seat own mid (graph_results D s) → begin ≡ suc (place + size_in D s)
      → GraphMade D room levels own s place mid a b
      → ((P : Plan) (o : Origin) (lives owns : Cells_of) → Grows D P b c (line o (Branch (at_seat D chosen) (starts_from D gs begin) lo w next) ∷ []) (setting (Looks ∷ []) [] lives owns ∷ []))
      → ArmsMade D room levels own gs begin w next lo mid c d
      → (m : Mode) → PartsMade D room levels m own (Whole (form.Select s gs w)) place w next lo mid a d
  select-made own s gs place begin w next lo mid a b c d chosen chosen_is begin_is made branch arms m P S keep hold given stands m_is =
      let xs = at_seats D own in
      let make = graph_code P levels in
      let k = either_of keep (cells_where (λ p. true) xs) in
      let h = either_of hold (cells_where given xs) in
      let lives = live_behind P S k xs s mid in
      let owns = own_behind P S h xs s mid in
      let begins : begin ≡ suc (place + P.size s) = begin_is ∙ ap (λ q. suc (place + q)) (sym (stands.sizes s)) in
      let one = end-line D P S formed stands b c (λ q. Branch q (starts_from D gs begin) lo w next) s own mid lives owns chosen chosen_is (branch P OfNothing lives owns) in
      let two = subst (λ q. Grows D P b c (line OfNothing (Branch (end_at P xs s mid) q lo w next) ∷ []) (setting (Looks ∷ []) [] lives owns ∷ []))
      (starts-are D gs begin P make room stands.sizes ∙ ap (arms_at P make room gs) begins) one in
      let three = subst (λ q. Grows D P c d (arms_code P make room xs gs q w next lo mid) (arms_settings P S (graph_settings P S levels) keep hold xs gs mid)) begins (arms P S keep hold stands) in
      let l = line OfNothing (Branch (end_at P xs s mid) (arms_at P make room gs (suc (place + P.size s))) lo w next) in
      part-then P a c d (make room xs s place mid) l (arms_code P make room xs gs (suc (place + P.size s)) w next lo mid)
      (graph_settings P S levels k h xs s mid ++ (setting (Looks ∷ []) [] lives owns ∷ [])) (arms_settings P S (graph_settings P S levels) keep hold xs gs mid)
      (grows-then D P a b c (make room xs s place mid) (l ∷ []) (graph_settings P S levels k h xs s mid) (setting (Looks ∷ []) [] lives owns ∷ []) (made P S k h stands) two) three

  content-are : (own : List Seat) (mid : ℕ) → at_seats D (seat.Cell mid ∷ drop 1 own) ≡ cells.At mid ∷ drop 1 (at_seats D own)
  content-are [] mid = refl
  content-are (x ∷ xs) mid = refl

  union-is : (own : List Seat) → at_seat D (get_or own 0 (seat.Literal 0)) ≡ get_or (at_seats D own) 0 (cells.Lit Unfilled)
  union-is [] = ap cells.Lit formed.unfilled
  union-is (x ∷ xs) = refl

  pub tag-made : (own inputs : List Seat) (from : Seat) (gs : List ℕ) (m : Mode) (place begin w next lo mid up : ℕ) (a b c : Draft) → begin ≡ suc place → up ≡ suc mid → inputs ≡ seat.Cell mid ∷ drop 1 own → from ≡ get_or own 0 (seat.Literal 0)
      → ((P : Plan) (o : Origin) (lives owns : Cells_of) → Grows D P a b (line o (Tag (at_seat D from) (starts_from D gs begin) mid lo w next) ∷ []) (setting (m ∷ []) [] lives owns ∷ []))
      → ArmsMade D room levels inputs gs begin w next lo up b c
      → PartsMade D room levels m own (Whole (form.TagCase gs w)) place w next lo mid a c
  tag-made own inputs from gs m place begin w next lo mid up a b c begin_is up_is inputs_are from_is tag arms P S keep hold given stands m_is =
      let xs = at_seats D own in
      let make = graph_code P levels in
      let lives = either_of keep (cells_where (λ p. true) xs) in
      let owns = either_of hold (cells_where given xs) in
      let one = along3 (λ q ts n. Grows D P a b (line OfNothing (Tag q ts mid lo w next) ∷ []) (setting (n ∷ []) [] lives owns ∷ []))
      (at_seat D from) (get_or xs 0 (cells.Lit Unfilled)) (starts_from D gs begin) (arms_at P make room gs (suc place)) m (if given 1 then Takes else Looks)
      (ap (at_seat D) from_is ∙ union-is own) (starts-are D gs begin P make room stands.sizes ∙ ap (arms_at P make room gs) begin_is) (sym m_is) (tag P OfNothing lives owns) in
      let two = along3 (λ ys q n. Grows D P b c (arms_code P make room ys gs q w next lo n) (arms_settings P S (graph_settings P S levels) keep hold ys gs n))
      (at_seats D inputs) (cells.At mid ∷ drop 1 xs) begin (suc place) up (suc mid) (ap (at_seats D) inputs_are ∙ content-are own mid) begin_is up_is (arms P S keep hold stands) in
      grows-then D P a b c (line OfNothing (Tag (get_or xs 0 (cells.Lit Unfilled)) (arms_at P make room gs (suc place)) mid lo w next) ∷ []) (arms_code P make room (cells.At mid ∷ drop 1 xs) gs (suc place) w next lo (suc mid))
      (setting ((if given 1 then Takes else Looks) ∷ []) [] lives owns ∷ []) (arms_settings P S (graph_settings P S levels) keep hold (cells.At mid ∷ drop 1 xs) gs (suc mid)) one two

  -- ---- loops

  fed-long : (P : Plan) (S : Shares) (g : ℕ) (xs : List Port) (os : List Source) → AreFed D P S g xs os → length xs ≡ length os
  fed-long P S g [] [] e = refl
  fed-long P S g (x ∷ xs) (o ∷ os) e = ap suc (fed-long P S g xs os e.1)
  fed-long P S g [] (o ∷ os) e = absurd e
  fed-long P S g (x ∷ xs) [] e = absurd e

  many-results : (P : Plan) (S : Shares) → Stands D P S → (g : ℕ) → length (graph_results D g) ≡ length (P.results g)
  many-results P S stands g = fed-long P S g (graph_results D g) (P.results g) (stands.results g)

  many-collects : (P : Plan) (S : Shares) → Stands D P S → (r : ℕ) → length (graph_collects D r) ≡ length (P.collects r)
  many-collects P S stands r = sym (ap length (stands.collects r) ∙ length-map (graph_collects D r) collect_in)

  -- the turns, and what stands behind them
  turns-then : (P : Plan) (a b c : Draft) (mb : List Line) (kb : Line) (mt : List Line) (kt : Line) (ls : List Line) (sb st ss : List Setting)
      → Grows D P a b ((mb ++ (kb ∷ [])) ++ (mt ++ (kt ∷ []))) (sb ++ st) → Grows D P b c ls ss → Grows D P a c (mb ++ (kb ∷ (mt ++ (kt ∷ ls)))) (sb ++ (st ++ ss))
  turns-then P a b c mb kb mt kt ls sb st ss f g =
      along2 (λ q r. Grows D P a c q r) (((mb ++ (kb ∷ [])) ++ (mt ++ (kt ∷ []))) ++ ls) (mb ++ (kb ∷ (mt ++ (kt ∷ ls)))) ((sb ++ st) ++ ss) (sb ++ (st ++ ss))
      (append_assoc (mb ++ (kb ∷ [])) (mt ++ (kt ∷ [])) ls ∙ (append_assoc mb (kb ∷ []) ((mt ++ (kt ∷ [])) ++ ls) ∙ ap (λ q. mb ++ (kb ∷ q)) (append_assoc mt (kt ∷ []) ls)))
      (append_assoc sb st ss) (grows-then D P a b c ((mb ++ (kb ∷ [])) ++ (mt ++ (kt ∷ []))) ls (sb ++ st) ss f g)

  module _ (P : Plan) (S : Shares) (stands : Stands D P S) (keep hold : Cells_of) (p : LoopParts) (own : List Seat) (place w next lo mid : ℕ) where
    -- the cells and places of a loop
    abbrev values : ℕ
    values = length (P.results p.init)

    abbrev many : ℕ
    many = length (P.collects p.returns)

    abbrev kept : ℕ
    kept = sifts_of P p.returns

    abbrev top : ℕ
    top = mid + (values + many)

    abbrev tests_at : (turn : ℕ) → ℕ
    tests_at turn = suc (turn + P.size p.body)

    abbrev leave_at : (turn : ℕ) → ℕ
    leave_at turn = suc (tests_at turn + P.size p.test)

    -- the lines of a loop whose first values lead to a place, where some lines stand
    loop-lines : (begin : List Line) (begins : List Setting) (starts turn : ℕ) (lent all : List Seat) (starts' turn' tests leave top' : ℕ) (a b c d e : Draft)
        → starts' ≡ starts → turn' ≡ turn → tests ≡ tests_at turn → leave ≡ leave_at turn → top' ≡ top
        → lent ≡ own ++ cells_from mid values → at_seats D all ≡ at_seats D own ++ stand P (P.collects p.returns) (mid + values) mid
        → FirstMade D room levels own p place starts' mid a b → Grows D P b c begin begins → TurnsMade D room levels lent p turn' tests leave w next lo mid top' c d
        → ArmMade D room levels all (graph_refolded D p.returns) leave w next lo top' d e
        → Grows D P a e (loop_code P (graph_code P levels) room (at_seats D own) p.init p.test p.body p.returns begin starts turn place w next lo mid values many)
        (part_settings P S (graph_settings P S levels) keep hold (at_seats D own) p.init mid (result_modes P S p.init) []
        ++ (begins
        ++ (part_settings P S (graph_settings P S levels) (either_of keep (range_of (mid + values) kept)) (either_of hold (range_of (mid + values) kept)) (at_seats D own ++ cells_at mid values) p.body top (result_modes P S p.body ++ takes_all kept) []
        ++ (part_settings P S (graph_settings P S levels) (either_of keep (range_of mid (values + kept))) (either_of hold (range_of mid (values + kept))) (at_seats D own ++ cells_at mid values) p.test top (Looks ∷ []) []
        ++ part_settings P S (graph_settings P S levels) keep hold (at_seats D own ++ stand P (P.collects p.returns) (mid + values) mid) (P.refolded p.returns) top (result_modes P S (P.refolded p.returns)) []))))
    loop-lines begin begins starts turn lent all starts' turn' tests leave top' a b c d e starts_is turn_is tests_is leave_is top_is lent_is all_is first early turns arm =
        let xs = at_seats D own in
        let make = graph_code P levels in
        let settles = graph_settings P S levels in
        let x = xs ++ cells_at mid values in
        let y = xs ++ stand P (P.collects p.returns) (mid + values) mid in
        let k1 = either_of keep (range_of (mid + values) kept) in
        let h1 = either_of hold (range_of (mid + values) kept) in
        let k2 = either_of keep (range_of mid (values + kept)) in
        let h2 = either_of hold (range_of mid (values + kept)) in
        let i_line = λ (q : ℕ). line (OfResults p.init) (Keep true (sifts_in (P.collects p.returns)) (ends_at P xs p.init mid) mid q) in
        let b_lines = λ (z : List cells.Operand) (q t : ℕ). make room z p.body q t in
        let b_line = λ (z : List cells.Operand) (q t : ℕ). line (OfResults p.body) (Keep false (sifts_in (P.collects p.returns)) (ends_at P z p.body t) mid q) in
        let t_lines = λ (z : List cells.Operand) (q t : ℕ). make room z p.test q t in
        let t_line = λ (z : List cells.Operand) (q l t : ℕ). line OfNothing (Test (end_at P z p.test t) q l lo w next) in
        let b_set = λ (z : List cells.Operand) (t : ℕ). part_settings P S settles k1 h1 z p.body t (result_modes P S p.body ++ takes_all kept) [] in
        let t_set = λ (z : List cells.Operand) (t : ℕ). part_settings P S settles k2 h2 z p.test t (Looks ∷ []) [] in
        let one = subst (λ q. Grows D P a b (make room xs p.init place mid ++ (i_line q ∷ [])) (part_settings P S settles keep hold xs p.init mid (result_modes P S p.init) [])) starts_is (first P S keep hold stands) in
        let lents : at_seats D lent ≡ x = ap (at_seats D) lent_is ∙ with-cells D own mid values in
        let two = subst (λ z. Grows D P c d ((b_lines z turn (top) ++ (b_line z (tests_at turn) top ∷ [])) ++ (t_lines z (tests_at turn) top ++ (t_line z turn (leave_at turn) top ∷ []))) (b_set z top ++ t_set z top)) lents
        (along4 (λ q t l u. Grows D P c d ((b_lines (at_seats D lent) q u ++ (b_line (at_seats D lent) t u ∷ [])) ++ (t_lines (at_seats D lent) t u ++ (t_line (at_seats D lent) q l u ∷ []))) (b_set (at_seats D lent) u ++ t_set (at_seats D lent) u))
        turn' turn tests (tests_at turn) leave (leave_at turn) top' top turn_is tests_is leave_is top_is (turns P S k1 h1 k2 h2 stands)) in
        let three = along4 (λ z g l u. Grows D P d e (arm_code P make room z g l w next lo u) (part_settings P S settles keep hold z g u (result_modes P S g) []))
        (at_seats D all) y (graph_refolded D p.returns) (P.refolded p.returns) leave (leave_at turn) top' top all_is (sym (stands.refolded p.returns)) leave_is top_is (arm P S keep hold stands) in
        part-then P a b e (make room xs p.init place mid) (i_line starts) (begin ++ (b_lines x turn top ++ (b_line x (tests_at turn) top ∷ (t_lines x (tests_at turn) top ++ (t_line x turn (leave_at turn) top ∷ arm_code P make room y (P.refolded p.returns) (leave_at turn) w next lo top)))))
        (part_settings P S settles keep hold xs p.init mid (result_modes P S p.init) [])
        (begins ++ (b_set x top ++ (t_set x top ++ part_settings P S settles keep hold y (P.refolded p.returns) top (result_modes P S (P.refolded p.returns)) []))) one
        (grows-then D P b c e begin (b_lines x turn top ++ (b_line x (tests_at turn) top ∷ (t_lines x (tests_at turn) top ++ (t_line x turn (leave_at turn) top ∷ arm_code P make room y (P.refolded p.returns) (leave_at turn) w next lo top)))) begins
        (b_set x top ++ (t_set x top ++ part_settings P S settles keep hold y (P.refolded p.returns) top (result_modes P S (P.refolded p.returns)) [])) early
        (turns-then P c d e (b_lines x turn top) (b_line x (tests_at turn) top) (t_lines x (tests_at turn) top) (t_line x turn (leave_at turn) top) (arm_code P make room y (P.refolded p.returns) (leave_at turn) w next lo top) (b_set x top) (t_set x top)
        (part_settings P S settles keep hold y (P.refolded p.returns) top (result_modes P S (P.refolded p.returns)) []) two three))

  pub loop-made : (early : Bool) (own lent all : List Seat) (p : LoopParts) (place w next lo mid n k begun starts turn tests leave top : ℕ) (a b c d e : Draft)
      → n ≡ length (graph_results D p.init) → k ≡ length (graph_collects D p.returns) → begun ≡ suc (place + size_in D p.init)
      → turn ≡ begun + one_if early → tests ≡ suc (turn + size_in D p.body) → leave ≡ suc (tests + size_in D p.test) → starts ≡ (if early then begun else tests) → top ≡ mid + (n + k)
      → lent ≡ own ++ cells_from mid n → all ≡ own ++ stand_from (graph_collects D p.returns) (mid + n) mid
      → FirstMade D room levels own p place starts mid a b → ((P : Plan) (o : Origin) (lives owns : Cells_of) → Grows D P b c (if early then line o Count ∷ [] else []) (if early then setting [] [] lives owns ∷ [] else []))
      → TurnsMade D room levels lent p turn tests leave w next lo mid top c d → ArmMade D room levels all (graph_refolded D p.returns) leave w next lo top d e
      → (m : Mode) → PartsMade D room levels m own (kind_of (loop_work early p) w) place w next lo mid a e
  loop-made true own lent all p place w next lo mid n k begun starts turn tests leave top a b c d e n_is k_is begun_is turn_is tests_is leave_is starts_is top_is lent_is all_is first early turns arm m P S keep hold given stands m_is =
      let ns : n ≡ length (P.results p.init) = n_is ∙ many-results P S stands p.init in
      let ks : k ≡ length (P.collects p.returns) = k_is ∙ many-collects P S stands p.returns in
      let si = stands.sizes p.init in
      let sb = stands.sizes p.body in
      let st = stands.sizes p.test in
      let starts' : starts ≡ suc (place + P.size p.init) = omega (arith, starts_is, begun_is, si) in
      let turn' : turn ≡ suc (suc (place + P.size p.init)) = omega (arith, turn_is, begun_is, si) in
      let tests' : tests ≡ suc (suc (suc (place + P.size p.init)) + P.size p.body) = omega (arith, turn', tests_is, sb) in
      let leave' : leave ≡ suc (suc (suc (suc (place + P.size p.init)) + P.size p.body) + P.size p.test) = omega (arith, tests', leave_is, st) in
      let top' : top ≡ mid + (length (P.results p.init) + length (P.collects p.returns)) = omega (arith, top_is, ns, ks) in
      let lents : lent ≡ own ++ cells_from mid (length (P.results p.init)) = lent_is ∙ ap (λ q. own ++ cells_from mid q) ns in
      let alls : at_seats D all ≡ at_seats D own ++ stand P (P.collects p.returns) (mid + length (P.results p.init)) mid =
      ap (at_seats D) all_is ∙ (seats-then D own (stand_from (graph_collects D p.returns) (mid + n) mid) ∙ (ap (λ q. at_seats D own ++ q) (stand-are D P (graph_collects D p.returns) (mid + n) mid)
      ∙ (ap (λ q. at_seats D own ++ stand P q (mid + n) mid) (sym (stands.collects p.returns)) ∙ ap (λ q. at_seats D own ++ stand P (P.collects p.returns) (mid + q) mid) ns))) in
      loop-lines P S stands keep hold p own place w next lo mid (line OfNothing Count ∷ []) (setting [] [] (either_of keep (range_of mid (length (P.results p.init) + sifts_of P p.returns))) (either_of hold (range_of mid (length (P.results p.init) + sifts_of P p.returns))) ∷ [])
      (suc (place + P.size p.init)) (suc (suc (place + P.size p.init))) lent all starts turn tests leave top a b c d e starts' turn' tests' leave' top' lents alls first
      (early P OfNothing (either_of keep (range_of mid (length (P.results p.init) + sifts_of P p.returns))) (either_of hold (range_of mid (length (P.results p.init) + sifts_of P p.returns)))) turns arm
  loop-made false own lent all p place w next lo mid n k begun starts turn tests leave top a b c d e n_is k_is begun_is turn_is tests_is leave_is starts_is top_is lent_is all_is first early turns arm m P S keep hold given stands m_is =
      let ns : n ≡ length (P.results p.init) = n_is ∙ many-results P S stands p.init in
      let ks : k ≡ length (P.collects p.returns) = k_is ∙ many-collects P S stands p.returns in
      let si = stands.sizes p.init in
      let sb = stands.sizes p.body in
      let st = stands.sizes p.test in
      let turn' : turn ≡ suc (place + P.size p.init) = omega (arith, turn_is, begun_is, si) in
      let tests' : tests ≡ suc (suc (place + P.size p.init) + P.size p.body) = omega (arith, turn', tests_is, sb) in
      let starts' : starts ≡ suc (suc (place + P.size p.init) + P.size p.body) = starts_is ∙ tests' in
      let leave' : leave ≡ suc (suc (suc (place + P.size p.init) + P.size p.body) + P.size p.test) = omega (arith, tests', leave_is, st) in
      let top' : top ≡ mid + (length (P.results p.init) + length (P.collects p.returns)) = omega (arith, top_is, ns, ks) in
      let lents : lent ≡ own ++ cells_from mid (length (P.results p.init)) = lent_is ∙ ap (λ q. own ++ cells_from mid q) ns in
      let alls : at_seats D all ≡ at_seats D own ++ stand P (P.collects p.returns) (mid + length (P.results p.init)) mid =
      ap (at_seats D) all_is ∙ (seats-then D own (stand_from (graph_collects D p.returns) (mid + n) mid) ∙ (ap (λ q. at_seats D own ++ q) (stand-are D P (graph_collects D p.returns) (mid + n) mid)
      ∙ (ap (λ q. at_seats D own ++ stand P q (mid + n) mid) (sym (stands.collects p.returns)) ∙ ap (λ q. at_seats D own ++ stand P (P.collects p.returns) (mid + q) mid) ns))) in
      loop-lines P S stands keep hold p own place w next lo mid [] [] (suc (suc (place + P.size p.init) + P.size p.body)) (suc (place + P.size p.init)) lent all starts turn tests leave top a b c d e starts' turn' tests' leave' top' lents alls first
      (early P OfNothing keep hold) turns arm

  -- ---- a ForAll

  pub for-all-made : (own lent mids all : List Seat) (g body r place w next lo mid n k turn turns leave top into up : ℕ) (a b c d e f : Draft) (ports : List Port) (cs : List Collect) → ports ≡ graph_results D g → cs ≡ graph_collects D r
      → n ≡ length (graph_results D g) → k ≡ length (graph_collects D r) → turn ≡ suc (place + size_in D g) → turns ≡ suc (turn + size_in D body) → leave ≡ suc turns
      → top ≡ mid + (n + k) → into ≡ mid + n → up ≡ suc top + n
      → lent ≡ own ++ cells_from (suc top) n → mids ≡ own ++ cells_from mid n → all ≡ mids ++ cells_from into k
      → GraphMade D room levels own g place mid a b
      → ((P : Plan) (o : Origin) (lives owns : Cells_of) → Grows D P b c (line o (Spread (at_seats D (seats_at own mid ports)) (map collect_in cs) mid turns lo w next) ∷ []) (setting (map mode_of ports) [] lives owns ∷ []))
      → RowsMade D room levels lent body r turn turns into up c d
      → ((P : Plan) (o : Origin) (lives owns : Cells_of) → Grows D P d e (line o (Each n mid top turn leave) ∷ []) (setting [] [] lives owns ∷ []))
      → ArmMade D room levels all (graph_refolded D r) leave w next lo top e f
      → (m : Mode) (given : ℕ) → PartsMade D room levels m own (Whole (form.ForAll g body r given w)) place w next lo mid a f
  for-all-made own lent mids all g body r place w next lo mid n k turn turns leave top into up a b c d e f ports cs ports_are cs_are n_is k_is turn_is turns_is leave_is top_is into_is up_is lent_is mids_are all_is made spread rows each arm m many P S keep hold given stands m_is =
      let xs = at_seats D own in
      let make = graph_code P levels in
      let settles = graph_settings P S levels in
      let N = length (P.results g) in
      let K = length (P.collects r) in
      let ns : n ≡ N = n_is ∙ many-results P S stands g in
      let ks : k ≡ K = k_is ∙ many-collects P S stands r in
      let sg = stands.sizes g in
      let sb = stands.sizes body in
      let T = suc (place + P.size g) in
      let TS = suc (T + P.size body) in
      let TOP = mid + (N + K) in
      let turn' : turn ≡ T = omega (arith, turn_is, sg) in
      let turns' : turns ≡ TS = omega (arith, turns_is, turn', sb) in
      let leave' : leave ≡ suc TS = omega (arith, leave_is, turns') in
      let top' : top ≡ TOP = omega (arith, top_is, ns, ks) in
      let into' : into ≡ mid + N = omega (arith, into_is, ns) in
      let up' : up ≡ suc TOP + N = omega (arith, up_is, top', ns) in
      let x = xs ++ cells_at (suc TOP) N in
      let y = (xs ++ cells_at mid N) ++ cells_at (mid + N) K in
      let x_is : at_seats D lent ≡ x = ap (at_seats D) lent_is ∙ (with-cells D own (suc top) n ∙ along2 (λ q z. xs ++ cells_at (suc top) n ≡ xs ++ cells_at (suc q) z) top TOP n N top' ns refl) in
      let y_is : at_seats D all ≡ y =
      ap (at_seats D) (all_is ∙ ap (λ q. q ++ cells_from into k) mids_are)
      ∙ (with-cells D (own ++ cells_from mid n) into k ∙ (ap (λ q. q ++ cells_at into k) (with-cells D own mid n)
      ∙ along3 (λ q z u. (xs ++ cells_at mid n) ++ cells_at into k ≡ (xs ++ cells_at mid q) ++ cells_at z u) n N into (mid + N) k K ns into' ks refl)) in
      let lives = live_behind P S keep xs g mid in
      let owns = own_behind P S hold xs g mid in
      let k1 = either_of keep (range_of mid (suc (N + K))) in
      let h1 = either_of hold (range_of mid (suc (N + K))) in
      let g_line = λ (ks : List collections.Collect) (q : ℕ). line (OfResults g) (Spread (ends_at P xs g mid) ks mid q lo w next) in
      let one = ends-line D P S formed stands b c (OfResults g) (λ q. Spread q (map collect_in cs) mid turns lo w next) (λ z. z) g own mid [] lives owns ports ports_are (spread P (OfResults g) lives owns) in
      let two = along2 (λ ks q. Grows D P b c (g_line ks q ∷ []) (setting (result_modes P S g) [] lives owns ∷ [])) (map collect_in cs) (P.collects r) turns TS (ap (map collect_in) cs_are ∙ sym (stands.collects r)) turns' one in
      let r_line = λ (z : List cells.Operand) (q i u : ℕ). line (OfRows body r) (Add (P.collects r) (ends_at P z body u) i q) in
      let r_set = λ (z : List cells.Operand) (u : ℕ). part_settings P S settles k1 h1 z body u (result_modes P S body ++ takes_all K) (S.puts r) in
      let three = subst (λ t. Grows D P c d (make room x body t (suc TOP + N) ++ (r_line x TS (mid + N) (suc TOP + N) ∷ [])) (r_set x (suc TOP + N))) turn'
      (along4 (λ z q i u. Grows D P c d (make room z body turn u ++ (r_line z q i u ∷ [])) (r_set z u)) (at_seats D lent) x turns TS into (mid + N) up (suc TOP + N) x_is turns' into' up' (rows P S k1 h1 stands)) in
      let four = along4 (λ q t u l. Grows D P d e (line OfNothing (Each q mid t u l) ∷ []) (setting [] [] k1 h1 ∷ [])) n N top TOP turn T leave (suc TS) ns top' turn' leave' (each P OfNothing k1 h1) in
      let five = along4 (λ z q l u. Grows D P e f (arm_code P make room z q l w next lo u) (part_settings P S settles keep hold z q u (result_modes P S q) []))
      (at_seats D all) y (graph_refolded D r) (P.refolded r) leave (suc TS) top TOP y_is (sym (stands.refolded r)) leave' top' (arm P S keep hold stands) in
      let last = arm_code P make room y (P.refolded r) (suc TS) w next lo TOP in
      let last_set = part_settings P S settles keep hold y (P.refolded r) TOP (result_modes P S (P.refolded r)) [] in
      let e_line = line OfNothing (Each N mid TOP T (suc TS)) in
      part-then P a c f (make room xs g place mid) (g_line (P.collects r) TS) (make room x body T (suc TOP + N) ++ (r_line x TS (mid + N) (suc TOP + N) ∷ (e_line ∷ last)))
      (settles keep hold xs g mid ++ (setting (result_modes P S g) [] lives owns ∷ [])) (r_set x (suc TOP + N) ++ (setting [] [] k1 h1 ∷ last_set))
      (grows-then D P a b c (make room xs g place mid) (g_line (P.collects r) TS ∷ []) (settles keep hold xs g mid) (setting (result_modes P S g) [] lives owns ∷ []) (made P S keep hold stands) two)
      (part-then P c d f (make room x body T (suc TOP + N)) (r_line x TS (mid + N) (suc TOP + N)) (e_line ∷ last) (r_set x (suc TOP + N)) (setting [] [] k1 h1 ∷ last_set) three
      (grows-then D P d e f (e_line ∷ []) last (setting [] [] k1 h1 ∷ []) last_set four five))

  -- ---- nodes

  pub fire-made : (n : PlanNode) (args : List Seat) (first : ℕ) (row : Simple) (shape : Shape) (writes : Written) (copies : Counted) (place lo : ℕ) (a b : Draft) (ports : List Port) → ports ≡ n.ins → n.work ≡ work.Plain row shape writes copies
      → ((P : Plan) (o : Origin) (lives owns : Cells_of) → IsToldOf D P row writes copies n.width (map mode_of ports) o → Grows D P a b (line o (Fire row (shape_of shape) (at_seats D (seats_at args first ports)) lo n.width) ∷ []) (setting (map mode_of ports) [] lives owns ∷ []))
      → NodeMade D room levels args first n place lo a b
  fire-made n args first row shape writes copies place lo a b ports ports_are work_is fired P S g v lives owns keep hold stands node pair =
      let xs = at_seats D (seats_at args first n.ins) in
      let modes : modes_at P S g v ≡ map mode_of n.ins = subst (λ x. IsHandled D P S g n.ins v x) work_is node.handled in
      subst (λ x. Grows D P a b (kind_code P (graph_code P levels) room g v xs (kind_of x n.width) n.width place lo) (kind_settings P S (graph_settings P S levels) g v lives owns keep hold xs (kind_of x n.width) lo)) (sym work_is)
      (along2 (λ q m. Grows D P a b (line (OfNode g v) (Fire row (shape_of shape) q lo n.width) ∷ []) (setting m [] lives owns ∷ [])) (at_seats D (seats_at args first ports)) xs (map mode_of ports) (modes_at P S g v)
      (ap (λ q. at_seats D (seats_at args first q)) ports_are) (ap (map mode_of) ports_are ∙ sym modes) (fired P (OfNode g v) lives owns (n, shape, pair, work_is, refl, ap (map mode_of) ports_are)))

  pub call-made : (n : PlanNode) (args : List Seat) (first f entry new place lo : ℕ) (a b : Draft) (ports : List Port) → ports ≡ n.ins → n.work ≡ work.Call f → entry ≡ table_of D.entries f
      → new ≡ table_of D.params f + extent_in D f
      → ((P : Plan) (o : Origin) (lives owns : Cells_of) → IsRoomOf D P new o → Grows D P a b (line o (Call entry room (at_seats D (seats_at args first ports)) lo n.width) ∷ []) (setting (map mode_of ports) [] lives owns ∷ []))
      → NodeMade D room levels args first n place lo a b
  call-made n args first f entry new place lo a b ports ports_are work_is entry_is new_is called P S g v lives owns keep hold stands node pair =
      let xs = at_seats D (seats_at args first n.ins) in
      let modes : modes_at P S g v ≡ map mode_of n.ins = subst (λ x. IsHandled D P S g n.ins v x) work_is node.handled in
      subst (λ x. Grows D P a b (kind_code P (graph_code P levels) room g v xs (kind_of x n.width) n.width place lo) (kind_settings P S (graph_settings P S levels) g v lives owns keep hold xs (kind_of x n.width) lo)) (sym work_is)
      (along3 (λ q r m. Grows D P a b (line (OfNode g v) (Call q room r lo n.width) ∷ []) (setting m [] lives owns ∷ [])) entry (P.entry f) (at_seats D (seats_at args first ports)) xs (map mode_of ports) (modes_at P S g v)
      (entry_is ∙ sym (stands.entries f)) (ap (λ q. at_seats D (seats_at args first q)) ports_are) (ap (map mode_of) ports_are ∙ sym modes) (called P (OfNode g v) lives owns (n, f, pair, work_is, new_is)))

  -- a compound node is its count, its copies and its parts
  whole-case : (P : Plan) (S : Shares) (g : ℕ) (v : Vertex) (lives owns keep hold : Cells_of) (xs : List cells.Operand) (x : Work) (w place lo : ℕ) (a d : Draft) → IsWhole x
      → Grows D P a d (line OfNothing Count ∷ (line (OfInputs g v) (Move (picked (P.picks g v) xs) (lo + w) (length (picked (P.picks g v) xs)) (suc (suc place)))
      ∷ parts_code P (graph_code P levels) room (own_cells (P.picks g v) xs (lo + w)) (kind_of x w) (suc (suc place)) w (place + kind_size P (kind_of x w)) lo ((lo + w) + length (picked (P.picks g v) xs))))
      (setting [] [] lives owns ∷ (setting (copies_of (P.picks g v)) [] lives owns
      ∷ parts_settings P S (graph_settings P S levels) keep hold (gives P S g v) (own_cells (P.picks g v) xs (lo + P.width v)) (kind_of x w) ((lo + P.width v) + length (picked (P.picks g v) xs))))
      → Grows D P a d (kind_code P (graph_code P levels) room g v xs (kind_of x w) w place lo) (kind_settings P S (graph_settings P S levels) g v lives owns keep hold xs (kind_of x w) lo)
  whole-case P S g v lives owns keep hold xs (work.Plain row shape writes copies) w place lo a d whole h = absurd whole
  whole-case P S g v lives owns keep hold xs (work.Call f) w place lo a d whole h = absurd whole
  whole-case P S g v lives owns keep hold xs (work.Select s gs) w place lo a d whole h = h
  whole-case P S g v lives owns keep hold xs (work.TagCase gs) w place lo a d whole h = h
  whole-case P S g v lives owns keep hold xs (work.LoopA p) w place lo a d whole h = h
  whole-case P S g v lives owns keep hold xs (work.LoopB p) w place lo a d whole h = h
  whole-case P S g v lives owns keep hold xs (work.ForAll e b r m) w place lo a d whole h = h

  -- what it is given, and what it copies
  whole-handled : (P : Plan) (S : Shares) (g : ℕ) (xs : List Port) (v : Vertex) (x : Work) → IsWhole x → IsHandled D P S g xs v x → (P.picks g v ≡ map picks_of xs) × ((if gives P S g v 1 then Takes else Looks) ≡ first_given xs)
  whole-handled P S g xs v (work.Plain row shape writes copies) whole h = absurd whole
  whole-handled P S g xs v (work.Call f) whole h = absurd whole
  whole-handled P S g xs v (work.Select s gs) whole h = h
  whole-handled P S g xs v (work.TagCase gs) whole h = h
  whole-handled P S g xs v (work.LoopA p) whole h = h
  whole-handled P S g xs v (work.LoopB p) whole h = h
  whole-handled P S g xs v (work.ForAll e b r m) whole h = h

  whole-node : (n : PlanNode) (args own : List Seat) (union : Mode) (first place lo up many next mid : ℕ) (a b c d : Draft) → IsWhole n.work
      → up ≡ lo + n.width → many ≡ count_true (map picks_of n.ins) → next ≡ place + work_steps D n.work → mid ≡ up + many → union ≡ first_given n.ins
      → own ≡ own_seats (map picks_of n.ins) (seats_at args first n.ins) up
      → ((P : Plan) (o : Origin) (lives owns : Cells_of) → Grows D P a b (line o Count ∷ []) (setting [] [] lives owns ∷ []))
      → ((P : Plan) (o : Origin) (lives owns : Cells_of) → Grows D P b c (line o (Move (at_seats D (seats_at args first (copied_ports n.ins))) up many (place + 2)) ∷ []) (setting (map mode_of (copied_ports n.ins)) [] lives owns ∷ []))
      → PartsMade D room levels union own (kind_of n.work n.width) (place + 2) n.width next lo mid c d
      → NodeMade D room levels args first n place lo a d
  whole-node n args own union first place lo up many next mid a b c d whole up_is many_is next_is mid_is union_is own_is count copies parts P S g v lives owns keep hold stands node pair =
      let xs = at_seats D (seats_at args first n.ins) in
      let w = n.width in
      let kind = kind_of n.work w in
      let handled = whole-handled P S g n.ins v n.work whole node.handled in
      let picks = P.picks g v in
      let froms : at_seats D (seats_at args first (copied_ports n.ins)) ≡ picked picks xs = sym (picked-are D args first n.ins) ∙ ap (λ q. picked q xs) (sym handled.0) in
      let long : many ≡ length (picked picks xs) = many_is ∙ (sym (many-copied n.ins) ∙ (sym (length-map (copied_ports n.ins) (λ x. seat_at args first x.feed)) ∙ (sym (length-map (seats_at args first (copied_ports n.ins)) (at_seat D)) ∙ ap length froms))) in
      let modes : map mode_of (copied_ports n.ins) ≡ copies_of picks = modes-copied n.ins ∙ ap copies_of (sym handled.0) in
      let twos : place + 2 ≡ suc (suc place) = omega arith in
      let ends : next ≡ place + kind_size P kind = next_is ∙ ap (λ q. place + q) (sym (work-is D formed P S stands n.work w)) in
      let mids : mid ≡ (lo + w) + length (picked picks xs) = mid_is ∙ (ap (λ q. q + many) up_is ∙ ap (λ q. (lo + w) + q) long) in
      let owns_are : at_seats D own ≡ own_cells picks xs (lo + w) =
      ap (at_seats D) own_is ∙ (own-are D (map picks_of n.ins) (seats_at args first n.ins) up ∙ (ap (λ q. own_cells q xs up) (sym handled.0) ∙ ap (λ q. own_cells picks xs q) up_is)) in
      let two = along4 (λ q u m t. Grows D P b c (line (OfInputs g v) (Move q u m t) ∷ []) (setting (map mode_of (copied_ports n.ins)) [] lives owns ∷ []))
      (at_seats D (seats_at args first (copied_ports n.ins))) (picked picks xs) up (lo + w) many (length (picked picks xs)) (place + 2) (suc (suc place)) froms up_is long twos (copies P (OfInputs g v) lives owns) in
      let two' = subst (λ m. Grows D P b c (line (OfInputs g v) (Move (picked picks xs) (lo + w) (length (picked picks xs)) (suc (suc place))) ∷ []) (setting m [] lives owns ∷ [])) modes two in
      let three = along4 (λ q t e u. Grows D P c d (parts_code P (graph_code P levels) room q kind t w e lo u) (parts_settings P S (graph_settings P S levels) keep hold (gives P S g v) q kind u))
      (at_seats D own) (own_cells picks xs (lo + w)) (place + 2) (suc (suc place)) next (place + kind_size P kind) mid ((lo + w) + length (picked picks xs)) owns_are twos ends mids
      (parts P S keep hold (gives P S g v) stands (handled.1 ∙ sym union_is)) in
      let three' = subst (λ q. Grows D P c d (parts_code P (graph_code P levels) room (own_cells picks xs (lo + w)) kind (suc (suc place)) w (place + kind_size P kind) lo ((lo + w) + length (picked picks xs)))
      (parts_settings P S (graph_settings P S levels) keep hold (gives P S g v) (own_cells picks xs (lo + q)) kind ((lo + q) + length (picked picks xs)))) (sym node.width) three in
      let l2 = line (OfInputs g v) (Move (picked picks xs) (lo + w) (length (picked picks xs)) (suc (suc place))) in
      let rest = parts_code P (graph_code P levels) room (own_cells picks xs (lo + w)) kind (suc (suc place)) w (place + kind_size P kind) lo ((lo + w) + length (picked picks xs)) in
      let rest_set = parts_settings P S (graph_settings P S levels) keep hold (gives P S g v) (own_cells picks xs (lo + P.width v)) kind ((lo + P.width v) + length (picked picks xs)) in
      whole-case P S g v lives owns keep hold xs n.work w place lo a d whole
      (grows-then D P a b d (line OfNothing Count ∷ []) (l2 ∷ rest) (setting [] [] lives owns ∷ []) (setting (copies_of picks) [] lives owns ∷ rest_set) (count P OfNothing lives owns)
      (grows-then D P b c d (l2 ∷ []) rest (setting (copies_of picks) [] lives owns ∷ []) rest_set two' three'))

  pub whole-made : (n : PlanNode) (args own : List Seat) (union : Mode) (first place lo up many next mid : ℕ) (a b c d : Draft) (ports : List Port) → ports ≡ n.ins → IsWhole n.work
      → up ≡ lo + n.width → many ≡ count_true (map picks_of ports) → next ≡ place + work_steps D n.work → mid ≡ up + many → union ≡ first_given ports
      → own ≡ own_seats (map picks_of ports) (seats_at args first ports) up
      → ((P : Plan) (o : Origin) (lives owns : Cells_of) → Grows D P a b (line o Count ∷ []) (setting [] [] lives owns ∷ []))
      → ((P : Plan) (o : Origin) (lives owns : Cells_of) → Grows D P b c (line o (Move (at_seats D (seats_at args first (copied_ports ports))) up many (place + 2)) ∷ []) (setting (map mode_of (copied_ports ports)) [] lives owns ∷ []))
      → PartsMade D room levels union own (kind_of n.work n.width) (place + 2) n.width next lo mid c d
      → NodeMade D room levels args first n place lo a d
  whole-made n args own union first place lo up many next mid a b c d ports ports_are whole up_is many_is next_is mid_is union_is own_is count copies parts =
      whole-node n args own union first place lo up many next mid a b c d whole up_is (many_is ∙ ap (λ q. count_true (map picks_of q)) ports_are) next_is mid_is (union_is ∙ ap first_given ports_are)
      (own_is ∙ ap (λ q. own_seats (map picks_of q) (seats_at args first q) up) ports_are) count
      (subst (λ q. (P : Plan) (o : Origin) (lives owns : Cells_of) → Grows D P b c (line o (Move (at_seats D (seats_at args first (copied_ports q))) up many (place + 2)) ∷ []) (setting (map mode_of (copied_ports q)) [] lives owns ∷ [])) ports_are copies) parts

  -- one node more
  pub node-more : (P : Plan) (S : Shares) (keep hold : Cells_of) → Stands D P S → (args : List Seat) (g first : ℕ) (n : PlanNode) (ns : List PlanNode) (here cell here' cell' : ℕ) (a b new : Draft)
      → here' ≡ here + work_steps D n.work → cell' ≡ cell + n.width → NodeMade D room levels args first n here cell a b
      → NodesMade D room levels P S keep hold args g first ns here' cell' b new → NodesMade D room levels P S keep hold args g first (n ∷ ns) here cell a new
  node-more P S keep hold stands args g first n ns here cell here' cell' a b new here_is cell_is made rest [] known taken are all = absurd are
  node-more P S keep hold stands args g first n ns here cell here' cell' a b new here_is cell_is made rest (v ∷ vs) known taken are all =
      let node : IsNode D P S g n v = are.0 in
      let places = placed P (at_seats D args) (P.nodes g) first in
      let make = graph_code P levels in
      let settles = graph_settings P S levels in
      let after = taken_by (S.takes g v.label) (first_port v.kind) v.ins taken in
      let lives = live_in P S keep (at_seats D args) g first known taken in
      let owns = own_in P S hold (at_seats D args) g first known taken in
      let keeps = live_in P S keep (at_seats D args) g first known after in
      let holds = own_in P S hold (at_seats D args) g first known after in
      let ins : at_seats D (seats_at args first n.ins) ≡ map (operand places) v.ins = fed-are D formed P S stands g args first n.ins v.ins node.fed in
      let one = along3 (λ q k w. Grows D P a b (kind_code P make room g v q k w here cell) (kind_settings P S settles g v lives owns keeps holds q k cell))
      (at_seats D (seats_at args first n.ins)) (map (operand places) v.ins) (kind_of n.work n.width) v.kind n.width (P.width v) ins (sym node.kind) (sym node.width) (made P S g v lives owns keeps holds stands node (all n v (inl (refl, refl)))) in
      let heres : here' ≡ here + kind_size P v.kind = here_is ∙ ap (λ q. here + q) (sym (work-is D formed P S stands n.work n.width) ∙ ap (kind_size P) (sym node.kind)) in
      let cells : cell' ≡ cell + P.width v = cell_is ∙ ap (λ q. cell + q) (sym node.width) in
      let two = along2 (λ q c. Grows D P b new (nodes_code P make room g places vs q c) (nodes_settings P S settles keep hold (at_seats D args) g first ((v.label, P.width v) ∷ known) after vs c))
      here' (here + kind_size P v.kind) cell' (cell + P.width v) heres cells (rest vs ((v.label, P.width v) ∷ known) after are.1 (λ m w h. all m w (inr h))) in
      grows-then D P a b new (kind_code P make room g v (map (operand places) v.ins) v.kind (P.width v) here cell) (nodes_code P make room g places vs (here + kind_size P v.kind) (cell + P.width v))
      (kind_settings P S settles g v lives owns keeps holds (map (operand places) v.ins) v.kind cell) (nodes_settings P S settles keep hold (at_seats D args) g first ((v.label, P.width v) ∷ known) after vs (cell + P.width v)) one two

  pub nodes-none : (P : Plan) (S : Shares) (keep hold : Cells_of) (args : List Seat) (g first here cell : ℕ) (d : Draft) → NodesMade D room levels P S keep hold args g first [] here cell d d
  nodes-none P S keep hold args g first here cell d [] known taken are all = grows-none D P d
  nodes-none P S keep hold args g first here cell d (v ∷ vs) known taken are all = absurd are

  -- one arm more
  pub arm-more : (P : Plan) (S : Shares) (keep hold : Cells_of) → Stands D P S → (args : List Seat) (g : ℕ) (gs : List ℕ) (t t' w next lo up : ℕ) (a b new : Draft) → t' ≡ t + suc (size_in D g)
      → ArmMade D room levels args g t w next lo up a b
      → Grows D P b new (arms_code P (graph_code P levels) room (at_seats D args) gs t' w next lo up) (arms_settings P S (graph_settings P S levels) keep hold (at_seats D args) gs up)
      → Grows D P a new (arms_code P (graph_code P levels) room (at_seats D args) (g ∷ gs) t w next lo up) (arms_settings P S (graph_settings P S levels) keep hold (at_seats D args) (g ∷ gs) up)
  arm-more P S keep hold stands args g gs t t' w next lo up a b new t_is made rest =
      let xs = at_seats D args in
      let make = graph_code P levels in
      let settles = graph_settings P S levels in
      let here : t' ≡ t + suc (P.size g) = t_is ∙ ap (λ q. t + suc q) (sym (stands.sizes g)) in
      grows-then D P a b new (arm_code P make room xs g t w next lo up) (arms_code P make room xs gs (t + suc (P.size g)) w next lo up) (part_settings P S settles keep hold xs g up (result_modes P S g) []) (arms_settings P S settles keep hold xs gs up)
      (made P S keep hold stands) (subst (λ q. Grows D P b new (arms_code P make room xs gs q w next lo up) (arms_settings P S settles keep hold xs gs up)) here rest)

-- ---- functions

module _ (D : PlanData) (formed : IsFormed D) (levels : ℕ) where
  pub function-made : (f room params place : ℕ) (args : List Seat) (a b c : Draft) (ports : List Port) → ports ≡ graph_results D f → room ≡ table_of D.params f + table_of D.extents f → params ≡ table_of D.params f → args ≡ cells_from 0 params
      → GraphMade D room levels args f place params a b
      → ((P : Plan) (o : Origin) (lives owns : Cells_of) → Grows D P b c (line o (Return (at_seats D (seats_at args params ports))) ∷ []) (setting (map mode_of ports) [] lives owns ∷ []))
      → FunctionMade D levels f place a c
  function-made f room params place args a b c ports ports_are room_is params_is args_are made last P S stands =
      let p_is : params ≡ P.params f = params_is ∙ sym (stands.params f) in
      let r_is : room ≡ P.params f + P.extent f = let e = stands.params f in let x = stands.extents f in omega (arith, room_is, e, x) in
      let xs_are : at_seats D args ≡ cells_at 0 (P.params f) = ap (at_seats D) args_are ∙ (cells-are D 0 params ∙ ap (cells_at 0) p_is) in
      let lives = λ (xs : List cells.Operand) (q : ℕ). live_behind P S none_of xs f q in
      let owns = λ (xs : List cells.Operand) (q : ℕ). own_behind P S none_of xs f q in
      let xs = at_seats D args in
      let one = ends-line D P S formed stands b c (OfResults f) (λ q. Return q) (λ m. m) f args params [] (lives xs params) (owns xs params) ports ports_are (last P (OfResults f) (lives xs params) (owns xs params)) in
      let two = grows-then D P a b c (graph_code P levels room xs f place params) (line (OfResults f) (Return (ends_at P xs f params)) ∷ []) (graph_settings P S levels none_of none_of xs f params) (setting (result_modes P S f) [] (lives xs params) (owns xs params) ∷ [])
      (made P S none_of none_of stands) one in
      along3 (λ r q z. Grows D P a c (graph_code P levels r z f place q ++ (line (OfResults f) (Return (ends_at P z f q)) ∷ [])) (part_settings P S (graph_settings P S levels) none_of none_of z f q (result_modes P S f) []))
      room (P.params f + P.extent f) params (P.params f) xs (cells_at 0 (P.params f)) r_is p_is xs_are two

  pub function-more : (P : Plan) (S : Shares) → Stands D P S → (f : ℕ) (fs : List ℕ) (t t' : ℕ) (a b new : Draft) → t' ≡ t + suc (size_in D f) → FunctionMade D levels f t a b
      → Grows D P b new (functions_lines P levels fs t') (functions_settings P S levels fs) → Grows D P a new (functions_lines P levels (f ∷ fs) t) (functions_settings P S levels (f ∷ fs))
  function-more P S stands f fs t t' a b new t_is made rest =
      let here : t' ≡ t + suc (P.size f) = t_is ∙ ap (λ q. t + suc q) (sym (stands.sizes f)) in
      grows-then D P a b new (function_lines P levels f t) (functions_lines P levels fs (t + suc (P.size f))) (function_settings P S levels f) (functions_settings P S levels fs) (made P S stands)
      (subst (λ q. Grows D P b new (functions_lines P levels fs q) (functions_settings P S levels fs)) here rest)

-- ---- by place

laid-at : (D : PlanData) (P : Plan) (code : Code) (xs : List step_of.Step) (ls : List Line) (ss : List Setting) → AreLaid D P code xs ls ss → (pc : ℕ) → IsLaid D P code (get_or xs pc (step.Return 0 0)) (get_or ls pc last_line) (get_or ss pc last_setting)
laid-at D P code [] [] [] h pc = record { step = refl; modes = refl; puts = λ i. refl; keeps = λ c. refl; told = tt; knit = λ some. record { there = omega arith; long = refl; plain = tt } }
laid-at D P code (x ∷ xs) (l ∷ ls) (s ∷ ss) h zero = h.0
laid-at D P code (x ∷ xs) (l ∷ ls) (s ∷ ss) h (suc pc) = laid-at D P code xs ls ss h.1 pc
laid-at D P code [] (l ∷ ls) ss h pc = absurd h
laid-at D P code [] [] (s ∷ ss) h pc = absurd h
laid-at D P code (x ∷ xs) [] ss h pc = absurd h
laid-at D P code (x ∷ xs) (l ∷ ls) [] h pc = absurd h

code-laid : (D : PlanData) (levels : ℕ) (fs : List ℕ) (d : Draft) (code : Code) → code.steps ≡ d.steps → code.operands ≡ d.operands → code.targets ≡ d.targets → code.collects ≡ d.collects → code.marks ≡ D.marks → code.literals ≡ D.literals
    → FunctionsMade D levels fs d → (P : Plan) (S : Shares) → Stands D P S
    → AreLaid D P code code.steps (functions_lines P levels fs 0) (functions_settings P S levels fs)
code-laid D levels fs d code a b c e m l made P S stands =
    let ls = functions_lines P levels fs 0 in
    let ss = functions_settings P S levels fs in
    let g = made P S stands in
    let begins : Begins D d code = record {
      operands = ([], b ∙ sym (append-nil d.operands));
      targets = ([], c ∙ sym (append-nil d.targets));
      collects = ([], e ∙ sym (append-nil d.collects));
      marks = m;
      literals = l;
    } in
    subst (λ xs. AreLaid D P code xs ls ss) (sym (a ∙ g.steps.1)) (g.steps.2 code begins)

laid-long : (D : PlanData) (P : Plan) (code : Code) (xs : List step_of.Step) (ls : List Line) (ss : List Setting) → AreLaid D P code xs ls ss → length xs ≡ length ls
laid-long D P code [] [] [] h = refl
laid-long D P code (x ∷ xs) (l ∷ ls) (s ∷ ss) h = ap suc (laid-long D P code xs ls ss h.1)
laid-long D P code [] (l ∷ ls) ss h = absurd h
laid-long D P code [] [] (s ∷ ss) h = absurd h
laid-long D P code (x ∷ xs) [] ss h = absurd h
laid-long D P code (x ∷ xs) (l ∷ ls) [] h = absurd h

pub code-made : (D : PlanData) (levels : ℕ) (fs : List ℕ) (d : Draft) (code : Code) → code.steps ≡ d.steps → code.operands ≡ d.operands → code.targets ≡ d.targets → code.collects ≡ d.collects → code.marks ≡ D.marks → code.literals ≡ D.literals
    → FunctionsMade D levels fs d → (P : Plan) (S : Shares) → Stands D P S → IsCodeOf P S levels fs code
code-made D levels fs d code a b c e m l made P S stands =
    let ss = functions_settings P S levels fs in
    let at = laid-at D P code code.steps (functions_lines P levels fs 0) ss (code-laid D levels fs d code a b c e m l made P S stands) in
    record {
      steps = λ pc. (at pc).step;
      modes = λ pc. subst (λ x. read_as (handling_of code pc).modes (reads_of x) ≡ read_as (get_or ss pc last_setting).modes (reads_of x)) (sym (at pc).step) (at pc).modes;
      puts = λ pc i. (at pc).puts i;
      keeps = λ pc i. (at pc).keeps i;
    }

pub code-told : (D : PlanData) (levels : ℕ) (fs : List ℕ) (d : Draft) (code : Code) → code.steps ≡ d.steps → code.operands ≡ d.operands → code.targets ≡ d.targets → code.collects ≡ d.collects → code.marks ≡ D.marks → code.literals ≡ D.literals
    → FunctionsMade D levels fs d → (P : Plan) (S : Shares) → Stands D P S → AreTold D P S levels fs code
code-told D levels fs d code a b c e m l made P S stands =
    record { steps = λ pc. (laid-at D P code code.steps (functions_lines P levels fs 0) (functions_settings P S levels fs) (code-laid D levels fs d code a b c e m l made P S stands) pc).told; marks = m }

pub code-knit : (D : PlanData) (levels : ℕ) (fs : List ℕ) (d : Draft) (code : Code) → code.steps ≡ d.steps → code.operands ≡ d.operands → code.targets ≡ d.targets → code.collects ≡ d.collects → code.marks ≡ D.marks → code.literals ≡ D.literals
    → FunctionsMade D levels fs d → (P : Plan) (S : Shares) → Stands D P S → 0 < length D.literals → AreKnit D P levels fs code
code-knit D levels fs d code a b c e m l made P S stands some =
    let ls = functions_lines P levels fs 0 in
    let ss = functions_settings P S levels fs in
    let laid = code-laid D levels fs d code a b c e m l made P S stands in
    record { steps = λ pc. (laid-at D P code code.steps ls ss laid pc).knit some; long = laid-long D P code code.steps ls ss laid }
