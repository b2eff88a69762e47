use Rattle.std.proofs.Common.{◌≡◌, ℕ, suc, ◌+◌, ◌-◌, length, get_or, drop, sym, ap, ◌∙◌, subst, arith}
use Rattle.std.proofs.lemmas.List.{length-set}
use Rattle.graph_meaning.specs.Entered.{IsIn}
use Rattle.plan_data.specs.Parts.{arms_steps, table_of}
use Rattle.plan_tables.specs.Above.{entry_at, tabled}
use Rattle.plan_tables.proofs.Tables.{at-place, begin-fits, entries-more, in-all}
use Rattle.plan_tables.proofs.Plans.{entry-same}
use Rattle.plan_tables.proofs.entries.entries_of.Goals as goal

pub overflow_add-begin : goal.overflow_add-begin
overflow_add-begin c =
    let fits = begin-fits (tabled c.args.graphs.now c.args.sizes.now) c.args.functions.now c.loop-place.place c.loop-place.begin c.loop-place-test.true c.loop-place.invariant.inside c.loop-place.invariant.far in
    let n = c.number_at.ensures in
    let up = c.loop-place.auto.begin-fits in
    omega (arith, fits, n, up)

pub overflow_sub-begin : goal.overflow_sub-begin
overflow_sub-begin c =
    let fits = begin-fits (tabled c.args.graphs.now c.args.sizes.now) c.args.functions.now c.loop-place.place c.loop-place.begin c.loop-place-test.true c.loop-place.invariant.inside c.loop-place.invariant.far in
    let n = c.number_at.ensures in
    omega (arith, fits, n)

pub set-requires : goal.set-requires
set-requires c =
    let some = c.loop-place-test.true in
    let inside = c.loop-place.invariant.inside in
    let there = c.requires (get_or c.args.functions.now (c.loop-place.place - 1) 0) (in-all c.args.functions.now (c.loop-place.place - 1) (omega (arith, some, inside))) in
    let long = c.loop-place.invariant.long in
    omega (arith, there, long)

pub loop-place-preserved : goal.loop-place-preserved
loop-place-preserved c =
    let fs = c.args.functions.now in
    let D = tabled c.args.graphs.now c.args.sizes.now in
    let i = c.loop-place.place - 1 in
    let f = get_or fs i 0 in
    let some = c.loop-place-test.true in
    let inside = c.loop-place.invariant.inside in
    let long = c.loop-place.invariant.long in
    let far = c.loop-place.invariant.far in
    let n = c.number_at.ensures in
    let begin = c.loop-place.begin - (c.number_at.result + 1) in
    let fits = begin-fits D fs c.loop-place.place c.loop-place.begin some inside far in
    let e : c.loop-place.place ≡ suc i = omega (arith, some) in
    let rest = at-place D fs i (omega (arith, some, inside)) in
    let size = ap (arms_steps D) rest in
    let far' = subst (λ x. c.loop-place.begin + arms_steps D (drop x fs) ≡ arms_steps D fs) e far in
    let there = c.requires f (in-all fs i (omega (arith, some, inside))) in
    let right' = subst (λ x. (h : ℕ) → IsIn h (drop x fs) → table_of c.loop-place.entries h ≡ entry_at D (drop x fs) c.loop-place.begin h) e c.loop-place.invariant.right in
    let more = entries-more D c.loop-place.entries f (drop (suc i) fs) begin c.loop-place.begin (omega (arith, there, long)) (omega (arith, fits, n)) right' in
    record {
      inside = omega (arith, inside);
      long = ap length c.set.ensures ∙ (length-set c.loop-place.entries f begin ∙ long);
      far = omega (arith, far', size, fits, n);
      right = λ h in_h.
          ap (λ x. table_of x h) c.set.ensures
          ∙ (more h (subst (IsIn h) rest in_h) ∙ ap (λ x. entry_at D x begin h) (sym rest));
    }

pub returns : goal.returns
returns c =
    λ D same f in_f.
    let fs = c.args.functions.now in
    let T = tabled c.args.graphs.now c.args.sizes.now in
    let none = c.loop-place-test.false in
    let start : c.loop-place.place ≡ 0 = omega (arith, none) in
    let right = subst (λ x. (h : ℕ) → IsIn h (drop x fs) → table_of c.loop-place.entries h ≡ entry_at T (drop x fs) c.loop-place.begin h) start c.loop-place.invariant.right in
    let far = subst (λ x. c.loop-place.begin + arms_steps T (drop x fs) ≡ arms_steps T fs) start c.loop-place.invariant.far in
    let begin : c.loop-place.begin ≡ 0 = omega (arith, far) in
    right f in_f ∙ (ap (λ q. entry_at T fs q f) begin ∙ entry-same T D (sym same) fs 0 f)
