use Rattle.std.proofs.Common.{◌≡◌, ℕ, Bool, Option, ◌+◌, ◌++◌, List, map, drop, sym, ap, ap₂, ◌∙◌, append_assoc}
use Rattle.std.proofs.lemmas.List.{map-append}
use Rattle.typed_tree.specs.declared.expr.TypedExpr.{TypedExpr}
use Rattle.lowering.specs.Loops.{loop_name}
use Rattle.line_types.specs.Traces.{carried_at, collected, phrase}
use Rattle.line_walk.specs.Met.{column_at, next_column, first_flag}
use Rattle.line_walk.proofs.Lists.{next-item}
use Rattle.line_walk.proofs.Renewals.{one-column}
use Rattle.line_walk.proofs.turns.columns.Goals as goal

pub loop-e-preserved : goal.loop-e-preserved
loop-e-preserved c =
    let forms = c.args.types.now in
    let ms = c.args.multiples.now in
    let f = carried_at ms in
    let loop = loop_name c.args.around c.args.count in
    let es = c.args.es.now in
    let i = c.loop-e.e-index in
    let e = c.e-item.result in
    let flags = c.loop-e.flags.now in
    let rest = map (phrase forms) (drop (i + 1) es) in
    let old = c.loop-e.columns in
    let next = c.loop-e.invariant.0 in
    let left-is = c.loop-e.invariant.1 in
    let m = first_flag flags in
    let d = loop (phrase forms e).name in
    let mask : c.next_flag-mask.result.0 ≡ m = c.next_flag-mask.ensures.first in
    let place : c.loop_place-place.result ≡ d = c.loop_place-place.ensures ∙ ap loop c.level_of.ensures in
    let cons = next-item es i e c.loop-e-test.true c.e-item.is in
    let after = next_column c.next_flag-mask.result.0 c.loop_place-place.result next in
    let own = column_at m d next in
    let more = collected loop (next_column m d next) (drop 1 flags) rest in
    let added-one : c.add_column.new.columns ≡ old ++ map f own =
    c.in_ok-add_column.ensures next left-is ∙ ap₂ (λ (x : Option Bool) (y : Option ℕ). old ++ map f (column_at x y next)) mask place in (
      after,
      c.behind_column-left.ensures ms next left-is,
      ap (λ k. k ++ map f (collected loop after c.next_flag-mask.result.1.now rest)) added-one
          ∙ (ap (λ b. (old ++ map f own) ++ map f (collected loop after b rest)) c.next_flag-mask.ensures.rest
          ∙ (ap₂ (λ (x : Option Bool) (y : Option ℕ). (old ++ map f own) ++ map f (collected loop (next_column x y next) (drop 1 flags) rest)) mask place
          ∙ (append_assoc old (map f own) (map f more)
          ∙ (ap (λ l. old ++ l) (sym (map-append f own more))
          ∙ (ap (λ l. old ++ map f l) (sym (one-column loop next flags (phrase forms e) rest))
          ∙ (ap (λ (l : List TypedExpr). old ++ map f (collected loop next flags (map (phrase forms) l))) (sym cons) ∙ c.loop-e.invariant.2)))))),
    )
