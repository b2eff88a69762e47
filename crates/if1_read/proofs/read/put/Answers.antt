use Rattle.std.proofs.Common.{◌≡◌, Option, Some, refl, sym, subst, ◌∙◌, ap}
use Rattle.if1_graph.specs.declared.line.Line.{Line}
use Rattle.if1_graph.specs.declared.line.Line.TheVariants as line
use Rattle.if1_read.specs.declared.fault.Kind.{Kind}
use Rattle.if1_read.specs.declared.read.Sorted.{Sorted}
use Rattle.if1_read.specs.Least.{earlier, found}
use Rattle.if1_read.specs.Putting.{SortsOn}
use Rattle.if1_read.specs.Rows.{many_types}
use Rattle.if1_read.proofs.SortedOut.{type_put}
use Rattle.if1_read.proofs.read.put.Goals as goal

pub returns-in_ok-push-in-Some-Entry-clause-sorts : goal.returns-in_ok-push-in-Some-Entry-clause-sorts
returns-in_ok-push-in-Some-Entry-clause-sorts c =
    let x = c.in-Some-Entry in
    let s : Sorted = record { entries = c.push.new.self; lines = c.args.sorted.lines; first = c.after-in-Some-Entry.result } in
    let is : c.args.line ≡ Some (line.Entry x.label x.code x.one x.second x.name) = cc in
    subst (λ (o : Option Line). SortsOn c.args.number o c.args.sorted s) (sym is)
    (type_put c.args.number x.label x.code x.one x.second x.name c.args.sorted s
    c.in_ok-push-in-Some-Entry.ensures.items refl
    (c.after-in-Some-Entry.ensures.found
    ∙ ap (λ (k : Option Kind). earlier c.args.sorted.first (found c.args.number k)) (c.too_many-wrong.ensures.is ∙ ap many_types (c.len.ensures ∙ c.args.sorted.entries.ok.0))))
