use Rattle.std.proofs.Common.{◌∙◌, All, ◌<◌, length, sym, subst}
use Rattle.if1_components.specs.Colors.{IsCleared}
use Rattle.if1_components.proofs.Turned.{back-inside}
use Rattle.if1_components.proofs.Numbered.{numbered-more, kept-more, root-numbered}
use Rattle.if1_components.proofs.parts.number.Goals as goal

pub spread-requires-2-clause-inside : goal.spread-requires-2-clause-inside
spread-requires-2-clause-inside c = back-inside c.args.lists.now c.args.back.now c.requires.back

pub clear-requires-clause-places : goal.clear-requires-clause-places
clear-requires-clause-places c =
    subst (λ xs. All (λ x. x < length c.spread-2.new.colors) xs) (sym c.as_slice.ensures)
    (subst (λ n. All (λ x. x < n) c.in_ok-met.met) (sym (c.in_ok-spread.ensures.fit ∙ c.in_ok-met.ensures.fit)) c.in_ok-met.ensures.inside)

pub returns-clause-so_far : goal.returns-clause-so_far
returns-clause-so_far c =
    numbered-more c.args.lists.now c.args.back.now c.requires.back c.args.root c.args.numbers.now c.spread.new.colors c.spread-2.new.colors c.clear.new.colors c.in_ok-met.met c.in_ok-spread.field-0 c.requires.so_far c.requires.none c.in_ok-met.ensures c.in_ok-spread.ensures
    (subst (λ xs. IsCleared xs 1 0 c.spread-2.new.colors c.clear.new.colors) c.as_slice.ensures c.clear.ensures)

pub returns-clause-kept : goal.returns-clause-kept
returns-clause-kept c =
    kept-more c.args.lists.now c.args.back.now c.requires.back c.args.root c.args.numbers.now c.spread.new.colors c.spread-2.new.colors c.clear.new.colors c.in_ok-met.met c.in_ok-spread.field-0 c.requires.so_far c.requires.none c.in_ok-met.ensures c.in_ok-spread.ensures
    (subst (λ xs. IsCleared xs 1 0 c.spread-2.new.colors c.clear.new.colors) c.as_slice.ensures c.clear.ensures)

pub returns-clause-numbered : goal.returns-clause-numbered
returns-clause-numbered c =
    root-numbered c.args.lists.now c.args.back.now c.requires.back c.args.root c.args.numbers.now c.spread.new.colors c.spread-2.new.colors c.clear.new.colors c.in_ok-met.met c.in_ok-spread.field-0 c.requires.so_far c.requires.none c.in_ok-met.ensures c.in_ok-spread.ensures
    (subst (λ xs. IsCleared xs 1 0 c.spread-2.new.colors c.clear.new.colors) c.as_slice.ensures c.clear.ensures)
