use Rattle.std.proofs.Common.{◌≡◌, ◌∙◌, [], map, take, sym, ap, subst}
use Rattle.lowered_units.specs.Listed.{first_number, listing}
use Rattle.lowered_units.specs.Units.{listed_node}
use Rattle.unit_build.specs.Nesting.{BeginWith}
use Rattle.unit_build.proofs.Nesting.{node-listed}
use Rattle.unit_build.proofs.nodes.node_of.Goals as goal

pub returns-in_ok-subs-in-Whole-clause-node : goal.returns-in_ok-subs-in-Whole-clause-node
returns-in_ok-subs-in-Whole-clause-node c =
    let made = c.args.made.now.items in
    let graphs = c.in-Whole.graphs in
    let begin = subst (λ a. BeginWith (listed_node c.args.label a).parts made) c.in-Whole.is c.requires in
    let numbers : map first_number (map listing c.in_ok-subs-in-Whole.subs) ≡ graphs =
    ap (λ l. map first_number (map listing l)) (c.in_ok-subs-in-Whole.ensures.front ∙ ap (λ k. take k made) c.len.ensures) ∙ begin in
    node-listed c.node_with.result c.args.label c.compound_code.result c.in_ok-subs-in-Whole.subs c.in-Whole.arms graphs c.node_with.ensures numbers
    ∙ (ap (λ k. record { label = c.args.label; op = k; parts = graphs; assoc = c.in-Whole.arms; before = []; name = [] }) c.compound_code.ensures
    ∙ ap (listed_node c.args.label) (sym c.in-Whole.is))
