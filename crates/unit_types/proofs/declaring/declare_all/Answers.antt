use Rattle.std.proofs.Common.{◌≡◌, ◌++◌, ◌∙◌, ◌+◌, ◌∷◌, [], map, length, sym, ap, subst, drop, arith}
use Rattle.unit_types.specs.Headings.{heading_of, heading_in, has_body, given_functions, numbering, AreOwn, HaveResults}
use Rattle.text_trees.specs.Spelled.{IsItem}
use Rattle.unit_types.proofs.Lists.{cut_at, drop_all}
use Rattle.unit_types.proofs.Given.{more_given, given_none, given_after}
use Rattle.unit_types.proofs.Declares.{declares_first, declares_all}
use Rattle.unit_types.proofs.Naming.{named_first, named_more, named_all}
use Rattle.unit_types.proofs.Faults.{passed_on}
use Rattle.unit_types.proofs.Breaking.{broken_at}
use Rattle.unit_types.proofs.declaring.declare_all.Goals as goal

pub loop-item-init : goal.loop-item-init
loop-item-init c =
    let e = c.in_ok-declaring.ensures in
    let items = c.args.items.now in
    record {
      functions = ap (λ l. map heading_in l ++ map heading_of (given_functions items)) e.functions;
      bodies = ap (λ l. l ++ map (λ f. has_body f.kind) (given_functions items)) e.bodies;
      numbers = e.numbers ∙ ap (λ l. numbering 0 [] (map (λ s. s.name) l)) (sym e.functions);
      declares = λ u is h. declares_first u items c.args.tokens.now is h c.in_ok-declaring.declaring.types c.in_ok-declaring.declaring.named c.in_ok-declaring.declaring.functions c.in_ok-declaring.declaring.announced
          e.types e.named e.functions e.announced;
      results = subst HaveResults (sym e.functions) (λ k d within. absurd (omega (arith, within)));
      given = given_none items c.in_ok-declaring.declaring.functions e.functions;
      own = subst (λ l. AreOwn c.args.spellings.now (map (λ s. s.name) l)) (sym e.functions) (record { distinct = tt; own = tt });
      names = λ sp h. named_first c.args.tokens.now items c.in_ok-declaring.declaring.types c.in_ok-declaring.declaring.named e.types e.named sp;
    }

pub declare_item-requires : goal.declare_item-requires
declare_item-requires c = subst (IsItem c.args.tokens.now (length c.args.spellings.now)) (sym c.item-item.is) (c.requires c.loop-item.item-index c.item-item.result c.loop-item-test.true)

pub loop-item-preserved : goal.loop-item-preserved
loop-item-preserved c =
    let items = c.args.items.now in
    let i = c.loop-item.item-index in
    let x = c.item-item.result in
    let here : drop i items ≡ x ∷ drop (i + 1) items = cut_at items i x c.loop-item-test.true c.item-item.is in
    record {
      functions = more_given heading_of (map heading_in c.loop-item.declaring.functions) (map heading_in c.declare_item.new.declaring.functions) (map heading_of (given_functions items)) x (drop i items) (drop (i + 1) items)
          here c.in_ok-declare_item.ensures.functions c.loop-item.invariant.functions;
      bodies = more_given (λ f. has_body f.kind) c.loop-item.declaring.bodies c.declare_item.new.declaring.bodies (map (λ f. has_body f.kind) (given_functions items)) x (drop i items) (drop (i + 1) items)
          here c.in_ok-declare_item.ensures.bodies c.loop-item.invariant.bodies;
      numbers = c.in_ok-declare_item.ensures.numbers c.loop-item.invariant.numbers;
      declares = λ u is h. c.in_ok-declare_item.ensures.declares u items i is h here (c.loop-item.invariant.declares u is h);
      results = c.in_ok-declare_item.ensures.results c.loop-item.invariant.results;
      given = given_after items i x c.loop-item.declaring.functions c.declare_item.new.declaring.functions here c.in_ok-declare_item.ensures.functions c.loop-item.invariant.given;
      own = c.in_ok-declare_item.ensures.own c.loop-item.invariant.numbers c.loop-item.invariant.own;
      names = named_more c.args.tokens.now items i x c.loop-item.declaring.types c.declare_item.new.declaring.types c.loop-item.declaring.named c.declare_item.new.declaring.named
          here c.in_ok-declare_item.ensures.names c.loop-item.invariant.names;
    }

pub returns-clause-names : goal.returns-clause-names
returns-clause-names c = named_all c.args.tokens.now c.args.items.now c.loop-item.item-index c.loop-item.declaring.types c.loop-item.declaring.named
    (drop_all c.args.items.now c.loop-item.item-index (omega arith)) c.loop-item.invariant.names

pub returns-clause-declares : goal.returns-clause-declares
returns-clause-declares c = λ u is h. declares_all u c.args.items.now c.args.tokens.now is h c.loop-item.item-index c.loop-item.declaring.types c.loop-item.declaring.named c.loop-item.declaring.functions c.loop-item.declaring.announced
    (drop_all c.args.items.now c.loop-item.item-index (omega arith)) (c.loop-item.invariant.declares u is h)

pub returns-in_err-declare_item-clause-breaks : goal.returns-in_err-declare_item-clause-breaks
returns-in_err-declare_item-clause-breaks c =
    let items = c.args.items.now in
    let i = c.loop-item.item-index in
    let x = c.item-item.result in
    let d = c.loop-item.declaring in
    passed_on c.from_residual-in_err-declare_item.result c.in_err-declare_item.field-0.0 c.from_residual-in_err-declare_item.ensures.1
    (λ rule line b. broken_at c.args.tokens.now c.args.spellings.now items i x d.types d.named d.functions d.announced rule line (cut_at items i x c.loop-item-test.true c.item-item.is)
    c.loop-item.invariant.given c.loop-item.invariant.declares b)
    (c.in_err-declare_item.ensures.breaks c.loop-item.invariant.numbers)
