use Rattle.std.proofs.Common.{◌≡◌, ℕ, rules, [], ◌∷◌, ◌++◌, ap, ◌∙◌}
use Rattle.if1_graph.specs.declared.graph.Node.{out-Node}
use Rattle.if1_read.specs.Least.{earlier, found}
use Rattle.if1_read.specs.Sheets.{marks_of, sheet_of, sheet_with_node, node_wrong}
use Rattle.if1_read.proofs.Leading.{node_of}
use Rattle.if1_read.proofs.Beginnings.{close_turns}
use Rattle.if1_read.proofs.Saying.{marks_are}
use Rattle.if1_read.proofs.machine.close_line.Goals as goal

pub returns-clause-turns : goal.returns-clause-turns
returns-clause-turns c = λ sound assoc before name.
    let outer : c.args.machine.outer.items ≡ c.pop.new.self.items ++ c.in-Some.around ∷ [] = search rules in
    let was = out-Node c.args.node in
    let made = node_of was.label was.op c.unless_wrong.result was.assoc was.before was.name in
    let marks : marks_of made ≡ (was.label, was.op) = marks_are was.label was.op c.unless_wrong.result was.assoc was.before was.name in
    let here = sheet_of c.in-Some.around in
    close_turns c.args.known.now c.args.machine c.args.line _ was.label was.op c.args.count assoc before name c.in-Some.around c.len.result c.in_ok-graphs.first
    c.after-first.result c.in_ok-level.wrong outer (c.len.ensures ∙ c.in_ok-graphs.ensures.begun) (c.in_ok-graphs.ensures.found sound)
    (c.after-first.ensures.found ∙ (λ i. earlier c.in_ok-graphs.first (found c.args.line (c.wrong_count.ensures.is i))))
    (c.in_ok-level.ensures.sheet ∙ ap (λ (x : ℕ × ℕ). sheet_with_node c.args.line x here) marks)
    (c.in_ok-level.ensures.wrong ∙ ap (λ (x : ℕ × ℕ). node_wrong x.1 here) marks) c.after.ensures.found
