use Rattle.std.proofs.Common.{refl}
use Rattle.typing_laws.proofs.Later.{used_text, written_type}
use Rattle.breaking_laws.proofs.FParts.{written_misnamed}
use Rattle.sisal_check.specs.Walked.{given_of}
use Rattle.sisal_check.proofs.Forms.{passed_on}
use Rattle.sisal_check.proofs.heads.error_of.Goals as goal

pub returns-in_err-ty-clause-breaks : goal.returns-in_err-ty-clause-breaks
returns-in_err-ty-clause-breaks c =
    passed_on c.from_residual.result c.in_err-ty.field-0.0 c.from_residual.ensures.1 _ _
    (λ rule line q. written_misnamed (given_of c.args.given.now) c.args.walk.now.types c.args.written rule line c.holds.ensures q) c.in_err-ty.ensures.misnames

pub returns-clause-used : goal.returns-clause-used
returns-clause-used c = used_text (given_of c.args.given.now) c.args.walk.now.types c.denoted.new.types c.in_ok-ty.ensures.used

pub returns-clause-head : goal.returns-clause-head
returns-clause-head c = record {
  type = c.in_ok-ty.ty;
  is = refl;
  denoted = written_type (given_of c.args.given.now) c.denoted.new.types c.args.written c.in_ok-ty.ty c.in_ok-ty.ensures.there
      (λ k later spelled known a is. c.in_ok-ty.ensures.denotes k.spellings k.types k.forms later spelled known a is);
}
