use Rattle.std.proofs.Common.{rules, ◌≡◌, ◌+◌, List, [], ◌∷◌, ◌++◌, refl, ap, ◌∙◌}
use Rattle.flow_value.specs.declared.value.Val.{Val}
use Rattle.source_meaning.specs.declared.state.Operating.{Operating}
use Rattle.source_meaning.specs.declared.state.Frame.TheVariants as frame
use Rattle.meaning.specs.Timed.{andthen, plus}
use Rattle.source_meaning.specs.Slots.{slot_values, given_values}
use Rattle.meaning.specs.Meaning.{meaning}
use Rattle.source_meaning.specs.Pending.{rest, frame_rest}
use Rattle.source_meaning.proofs.Laws.{moves_same, passes_back}
use Rattle.source_meaning.proofs.Rests.{nil_of}
use Rattle.source_meaning.proofs.Parts.{operating_step, operating_last}
use Rattle.source_meaning.proofs.machine.advance_operating.Goals as goal

pub returns-in_ok-operand-in-Some-clause-same : goal.returns-in_ok-operand-in-Some-clause-same
returns-in_ok-operand-in-Some-clause-same c g n p =
    let env : List Val = c.args.state.now.names in
    let next : Operating = record { work = c.args.operating.work; left = c.in-Some.left; slots = c.add_slots.new.slots } in
    let h : c.args.operating.left.now ≡ c.in-Some.e.now ∷ c.in-Some.left.now = search rules in
    let hd : slot_values env c.add_slots.new.slots ≡ slot_values env c.args.operating.slots ++ given_values c.args.state.now.given = (let a = c.in_ok-add_slots.ensures c.args.state.now.names in search (rules, a)) in
    let ht : c.operand.new.state.steps ≡ c.args.state.now.steps + 1 = search rules in
    let m = c.in_ok-operand-in-Some.ensures.means n p in
    let hb : plus 1 (rest n p c.operand.new.state.frames.items c.operand.new.state.names (given_values c.operand.new.state.given)) ≡ andthen (meaning n p c.in-Some.e.now env) (frame_rest n p (rest n p c.args.state.now.frames.items) (frame.Operating next) env) = search (rules, m) in
    operating_step n p c.args.operating next (rest n p c.args.state.now.frames.items) env (given_values c.args.state.now.given) c.in-Some.e.now c.args.state.now.steps c.operand.new.state.steps _ h refl hd ht hb

pub returns-in_ok-going-in-None-clause-same : goal.returns-in_ok-going-in-None-clause-same
returns-in_ok-going-in-None-clause-same c g n p =
    let env : List Val = c.args.state.now.names in
    let h : c.args.operating.left.now ≡ [] = nil_of _ c.in-None.ensures.cases in
    let hd : slot_values env c.add_slots.new.slots ≡ slot_values env c.args.operating.slots ++ given_values c.args.state.now.given = (let a = c.in_ok-add_slots.ensures c.args.state.now.names in search (rules, a)) in
    ap (plus c.args.state.now.steps) (operating_last n p c.args.operating (rest n p c.args.state.now.frames.items) env (given_values c.args.state.now.given) (slot_values env c.add_slots.new.slots) h hd)
    ∙ c.in_ok-going-in-None.ensures.same g n p

pub returns-in_ok-going-in-None-clause-limit : goal.returns-in_ok-going-in-None-clause-limit
returns-in_ok-going-in-None-clause-limit c g p =
    let env : List Val = c.args.state.now.names in
    let h : c.args.operating.left.now ≡ [] = nil_of _ c.in-None.ensures.cases in
    let hd : slot_values env c.add_slots.new.slots ≡ slot_values env c.args.operating.slots ++ given_values c.args.state.now.given = (let a = c.in_ok-add_slots.ensures c.args.state.now.names in search (rules, a)) in
    passes_back c.args.limit _ _
    (moves_same _ _ (λ n. ap (plus c.args.state.now.steps) (operating_last n p c.args.operating (rest n p c.args.state.now.frames.items) env (given_values c.args.state.now.given) (slot_values env c.add_slots.new.slots) h hd)))
    (c.in_ok-going-in-None.ensures.limit g p)
