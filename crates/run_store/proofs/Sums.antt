-- Sums by other weights of the machine whose cells own their values are sums of record.
use Rattle.std.proofs.Common.{◌≡◌, ℕ, ◌+◌, Bool, true, false, List, [], length, map, refl, sym, ap, ◌∙◌, subst, arith}
use Rattle.graph_meaning.proofs.Units.{units-orderly}
use Rattle.graph_meaning.specs.Carried.{Carried}
use Rattle.graph_meaning.specs.Demand.{AreOrderly}
use Rattle.graph_meaning.specs.Networks.{network}
use Rattle.graph_meaning.specs.Storage.{GraphAdds, writing}
use Rattle.graph_meaning.specs.StorageUnits.{storage_of}
use Rattle.graph_meaning.proofs.Taken.{sound-in-order}
use Rattle.run_laws.specs.Orders.{AreInOrder}
use Rattle.run_laws.specs.Cells.{Cells, cells_at, look}
use Rattle.run_laws.specs.Machine.{State, Weigh, added, Reaches, stays, goes_on}
use Rattle.run_laws.specs.Steps.{Add, Branch, Call, Code, Count, Each, Fire, Keep, Move, Return, Spread, Step, Tag, Test}
use Rattle.run_laws.proofs.Backward.{ends-recorded}
use Rattle.run_laws.proofs.Weighing.{same-totals}
use Rattle.run_laws.specs.Facts.{Fact, Preserves}
use Rattle.run_store.proofs.Effects.{all-read, first-read}
use Rattle.run_store.proofs.Refining.{all-seen}
use Rattle.run_store.proofs.Whole.{Alike, alike, end-valued, ends-in, known-here, one-sum, start, step-valued}
use Rattle.run_store.specs.Effects.{reads_of}
use Rattle.run_store.specs.Lively.{IsLively, Live}
use Rattle.run_store.specs.Refines.{IsHandled}
use Rattle.run_store.specs.Stored.{Finished, Handling, Onward, Stored, StoredOutcome, Stuck, are_ready, where_ready}
use Rattle.run_store.specs.Sums.{AreStoreSumsRecorded, AreUnitWritesRecorded, HaveEndsSums, ReachesAdding, added_by, added_stored, comes, has_come, weighed_as}
use Rattle.run_store.specs.Whole.{ReachesStored, entered_stored, rests, walks}

-- what a step adds by what it reads
adds-read : (extra : Weigh) (x : Step) (pc base : ℕ) (cells : Cells) → added_by extra x pc (map (look cells base) (reads_of x)) ≡ added extra x pc base cells
adds-read extra (Fire row shape ins out w) pc base cells = refl
adds-read extra Count pc base cells = refl
adds-read extra (Move froms out w next) pc base cells = refl
adds-read extra (Tag union ts content out w next) pc base cells = refl
adds-read extra (Branch sel ts out w next) pc base cells = refl
adds-read extra (Test test turn leave out w next) pc base cells = refl
adds-read extra (Keep true cs froms out next) pc base cells = ap (λ z. extra pc z []) (all-read cells base froms)
adds-read extra (Keep false cs froms out next) pc base cells = ap (λ z. extra pc z []) (first-read cells base froms (cells_at (out + length froms) (length cs)))
adds-read extra (Spread froms cs to turns out w next) pc base cells = refl
adds-read extra (Each n from count turn leave) pc base cells = refl
adds-read extra (Add cs froms out next) pc base cells = ap (λ z. extra pc z []) (first-read cells base froms (cells_at out (length cs)))
adds-read extra (Call entry size args out w) pc base cells = refl
adds-read extra (Return froms) pc base cells = refl

ready-on : (b : Bool) (t : StoredOutcome) (r : Stored) → where_ready b t ≡ Onward r → b ≡ true
ready-on true t r e = refl
ready-on false t r e = absurd (clash e)
  where
    clash : Stuck ≡ Onward r → ⊥
    clash e = cc

ready-end : (b : Bool) (t : StoredOutcome) (rs : List Carried) (c n : ℕ) → where_ready b t ≡ Finished rs c n → b ≡ true
ready-end true t rs c n e = refl
ready-end false t rs c n e = absurd (clash e)
  where
    clash : Stuck ≡ Finished rs c n → ⊥
    clash e = cc

module _ (weigh extra : Weigh) (limit : ℕ) (code : Code) (handling : ℕ → Handling) (facts : ℕ → List Fact) (live own : Live)
    (handled : (pc : ℕ) → IsHandled weigh facts pc (code pc) (handling pc)) (preserves : (pc : ℕ) → Preserves facts pc (code pc)) (lively : (pc : ℕ) → IsLively live own (handling pc) pc (code pc)) where
  abbrev IsAlike : Stored → State → Type 0
  IsAlike s p = Alike weigh limit code handling facts live own handled preserves lively s p

  adds-same : (s : Stored) (p : State) → IsAlike s p → are_ready s.heap s.base (handling s.pc).modes (reads_of (code s.pc)) ≡ true → added_stored extra code handling s ≡ added extra (code p.pc) p.pc p.base p.cells
  adds-same s p a ready =
      ap (added_by extra (code s.pc) s.pc)
      (all-seen facts s.pc s.base s.heap p.cells a.fits (known-here weigh limit code handling facts live own handled preserves lively s p a) (handling s.pc).modes (reads_of (code s.pc)) (handled s.pc).paths ready)
      ∙ (adds-read extra (code s.pc) s.pc s.base p.cells
      ∙ (ap (λ z. added extra (code z) z s.base p.cells) a.pc_is ∙ ap (λ z. added extra (code p.pc) p.pc z p.cells) a.base_is))

  run-adds : (s r : Stored) (x : ℕ) → ReachesAdding weigh extra limit code handling s r x → (p : State) → IsAlike s p → (t : State) × Reaches extra limit code p t x × IsAlike r t
  run-adds _ _ _ (has_come s) p a = (p, stays p, a)
  run-adds _ _ _ (comes s t r x e b) p a =
      let y = step-valued weigh limit code handling facts live own handled preserves lively s t p a e in
      let z = run-adds t r x b y.0 y.2 in
      let same = adds-same s p a (ready-on (are_ready s.heap s.base (handling s.pc).modes (reads_of (code s.pc))) _ t e) in
      (z.0, subst (λ n. Reaches extra limit code p z.0 (n + x)) (sym same) (goes_on p y.0 z.0 x y.1 z.1), z.2)

pub sums-recorded : AreStoreSumsRecorded
sums-recorded s X handling facts live own limit is w extra coded orderly inorder f ins rs c copies sum h cells in_f many begins ends =
    let Y = weighed_as X w extra in
    let p = start s X handling facts live own limit is f ins h cells begins in
    let y = run-adds X.weigh extra limit X.code handling facts live own is.handled is.preserves is.lively (entered_stored X f h) ends.0 ends.1 ends.2 p (alike s X handling facts live own limit is f ins h cells begins) in
    let z = end-valued X.weigh limit X.code handling facts live own is.handled is.preserves is.lively ends.0 y.0 rs c copies y.2 ends.3 in
    let k = ends-in extra limit X.code p y.0 ends.1 rs c y.1 z.0 in
    let r = ends-recorded Y limit coded orderly inorder k.0 f ins rs c cells in_f many begins.hold k.1 in
    let run = r.1 in
    let one = one-sum extra limit X.code p y.0 run.0 ends.1 run.1 rs rs c c y.1 z.0 run.2 run.3 in
    let t = ends.0 in
    let last = adds-same X.weigh extra limit X.code handling facts live own is.handled is.preserves is.lively t y.0 y.2 (ready-end (are_ready t.heap t.base (handling t.pc).modes (reads_of (X.code t.pc))) _ rs c copies ends.3) in
    let total = run.4 in
    let mine = ends.4 in
    let same : r.0 ≡ sum = omega (arith, one, total, mine, last) in
    (r.2.0, subst (GraphAdds X.network w r.2.0 f ins) same r.2.3)

run-sum : (weigh extra : Weigh) (limit : ℕ) (code : Code) (handling : ℕ → Handling) (s r : Stored) → ReachesStored weigh limit code handling s r → (x : ℕ) × ReachesAdding weigh extra limit code handling s r x
run-sum weigh extra limit code handling _ _ (rests s) = (0, has_come s)
run-sum weigh extra limit code handling _ _ (walks s t r e b) = let y = run-sum weigh extra limit code handling t r b in (added_stored extra code handling s + y.0, comes s t r y.0 e y.1)

pub have-sums : HaveEndsSums
have-sums X extra handling limit s rs c copies ends =
    let y = run-sum X.weigh extra limit X.code handling s ends.0 ends.1 in (y.0 + added_stored extra X.code handling ends.0, (ends.0, y.0, y.1, ends.2, refl))

pub unit-writes : AreUnitWritesRecorded
unit-writes u X handling facts live own limit ready sound same inorder is w extra coded alike_ f ins rs c copies sum h cells in_f as_many begins ends =
    let r = sums-recorded (storage_of u) X handling facts live own limit is w extra coded (subst AreOrderly (sym same) (units-orderly u ready (sound-in-order u sound))) (subst (λ z. AreInOrder z X.order) (sym same) inorder) f ins rs c copies sum h cells in_f as_many
    begins ends in
    (r.0, (sum, same-totals (network u) w (writing (storage_of u)) alike_ r.0 f ins sum (subst (λ z. GraphAdds z w r.0 f ins sum) same r.1), refl))
