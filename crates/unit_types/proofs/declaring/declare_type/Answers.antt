use Rattle.std.proofs.Common.{◌-◌, drop, length}
use Rattle.unit_types.proofs.Naming.{names_type}
use Rattle.unit_types.proofs.Reading.{denoted_here}
use Rattle.unit_types.proofs.Declares.{declares_type}
use Rattle.unit_types.proofs.Faults.{passed_on}
use Rattle.unit_types.proofs.Breaking.{type_broken, type_twice}
use Rattle.unit_types.proofs.declaring.declare_type.Goals as goal

pub returns-then-branch-clause-names : goal.returns-then-branch-clause-names
returns-then-branch-clause-names c = λ texts types h n.
    let d = c.in_ok-define.ensures.new c.if-branch.true in
    let denotes = denoted_here (drop (length c.args.declaring.now.named - c.count-known.result) c.args.declaring.now.named) c.args.declaring.now.types c.type_of.new.types c.args.tokens.now c.args.definition.now.ty.from c.args.definition.now.ty.to c.in_ok-ty.ty
    c.in_ok-ty.ensures.used c.in_ok-ty.ensures.there c.in_ok-ty.ensures.table c.in_ok-ty.ensures.denotes in
    names_type c.args.tokens.now c.args.definition.now c.args.declaring.now.types c.type_of.new.types c.args.declaring.now.named c.define.new.self c.count-known.result c.in_ok-ty.ty
    c.count-known.ensures c.in_ok-ty.ensures.used denotes d.0 d.1 texts types h n

pub returns-then-branch-clause-declares : goal.returns-then-branch-clause-declares
returns-then-branch-clause-declares c = λ u items n is h e r.
    let d = c.in_ok-define.ensures.new c.if-branch.true in
    let denotes = denoted_here (drop (length c.args.declaring.now.named - c.count-known.result) c.args.declaring.now.named) c.args.declaring.now.types c.type_of.new.types c.args.tokens.now c.args.definition.now.ty.from c.args.definition.now.ty.to c.in_ok-ty.ty
    c.in_ok-ty.ensures.used c.in_ok-ty.ensures.there c.in_ok-ty.ensures.table c.in_ok-ty.ensures.denotes in
    declares_type u items c.args.tokens.now is h n c.args.definition.now c.args.declaring.now.types c.type_of.new.types c.args.declaring.now.named c.define.new.self c.args.declaring.now.functions
    c.args.declaring.now.announced c.count-known.result c.in_ok-ty.ty e c.count-known.ensures c.in_ok-ty.ensures.used denotes d.0 d.1 r

pub returns-in_err-ty-clause-breaks : goal.returns-in_err-ty-clause-breaks
returns-in_err-ty-clause-breaks c =
    let d = c.args.declaring.now in
    passed_on c.from_residual.result c.in_err-ty.field-0.0 c.from_residual.ensures.1
    (λ rule line f spellings. type_broken c.args.tokens.now spellings d.types d.named d.functions d.announced c.args.definition.now c.count-known.result rule line c.count-known.ensures f)
    c.in_err-ty.ensures.misnames

pub returns-else-branch-clause-breaks : goal.returns-else-branch-clause-breaks
returns-else-branch-clause-breaks c = λ spellings.
    let d = c.args.declaring.now in
    let e = c.in_ok-define.ensures.old c.if-branch.false in
    type_twice c.args.tokens.now spellings d.types d.named d.functions d.announced c.args.definition.now e.0
