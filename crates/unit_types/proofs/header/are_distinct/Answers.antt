use Rattle.std.proofs.Common.{◌≡◌, [], ◌+◌, ◌++◌, refl, sym, ap, ◌∙◌, drop, append_assoc}
use Rattle.typed_tree.specs.Typing.{names_of}
use Rattle.unit_types.specs.Headings.{parameters_of}
use Rattle.unit_types.proofs.Lists.{cut_at}
use Rattle.unit_types.proofs.Names.{names_more, twice_in_fields}
use Rattle.unit_types.proofs.header.are_distinct.Goals as goal

pub returns-in-Some-clause-twice : goal.returns-in-Some-clause-twice
returns-in-Some-clause-twice c = (
  refl,
  twice_in_fields c.args.fields.now c.loop-field.field-index c.field-item.result c.as_slice.result.now c.loop-field.seen c.in_ok-line.field-0 c.in-Some.line
      (cut_at c.args.fields.now c.loop-field.field-index c.field-item.result c.loop-field-test.true c.field-item.is) c.as_slice.ensures c.loop-field.invariant.named c.in_ok-line.ensures.twice c.in-Some.is,
)

pub loop-field-init : goal.loop-field-init
loop-field-init c = record {
  names = ap (λ l. l ++ parameters_of c.args.fields.now) c.new-seen.ensures;
  named = ([], sym c.new-seen.ensures, refl);
}

pub loop-field-preserved : goal.loop-field-preserved
loop-field-preserved c =
    let fields = c.args.fields.now in
    let i = c.loop-field.field-index in
    let seen = c.loop-field.seen in
    let f = c.field-item.result in
    let here = cut_at fields i f c.loop-field-test.true c.field-item.is in
    let adds : c.first_twice.new.seen ≡ seen ++ names_of f.names = c.in_ok-line.ensures.none c.in_default.is ∙ ap (λ l. seen ++ names_of l) c.as_slice.ensures in
    record {
      names = ap (λ l. l ++ parameters_of (drop (i + 1) fields)) adds
          ∙ append_assoc seen (names_of f.names) (parameters_of (drop (i + 1) fields))
          ∙ ap (λ l. seen ++ parameters_of l) (sym here)
          ∙ c.loop-field.invariant.names;
      named = names_more fields i f seen c.first_twice.new.seen here adds c.loop-field.invariant.named;
    }
