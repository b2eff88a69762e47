-- Replies of commands that read no text, and replies by stages.
use Rattle.std.proofs.Common.{◌≡◌, ◌≢◌, ℕ, Bool, true, false, List, Result, Ok, Err, refl, ◌⊎◌, inl, inr}
use Rattle.mean_call.specs.declared.fault.Refusal.{Refusal}
use Rattle.mean_call.specs.declared.fault.Refusal.TheVariants as refusal
use Rattle.run_words.specs.declared.command.AgainSet.{AgainSet}
use Rattle.run_words.specs.declared.command.Command.TheVariants as command
use Rattle.run_words.specs.declared.command.CompileSet.{CompileSet}
use Rattle.run_words.specs.declared.command.MeanSet.{MeanSet}
use Rattle.run_words.specs.declared.command.RunSet.{RunSet}
use Rattle.sisal_top.specs.Answer.{Asks, Replies}
use Rattle.sisal_top.specs.Outputs.{HasNoGraphs, HasGraphs, RunsUnit, HasNoRun}
use Rattle.sisal_top.specs.RunCallTexts.{IsUnitOf as IsIf1Of}
use Rattle.if1_graph.specs.declared.graph.Unit1.{Unit1}
use Rattle.sisal_top.specs.Program.{Fits, IsBuilt, IsPlain}
use Rattle.sisal_top.specs.Status.{argument_fault, of_argument, of_refusal}
use Rattle.sisal_top.specs.declared.status.CallFault.{CallFault}
use Rattle.sisal_top.specs.declared.status.CallFault.TheVariants as call
use Rattle.sisal_top.specs.declared.status.Status.{Status}
use Rattle.sisal_top.specs.declared.status.Status.TheVariants as status
use Rattle.sisal_top.specs.declared.status.TextFault.TheVariants as text
use Rattle.answer_laws.specs.Alike.{Tells}
use Rattle.answer_laws.proofs.Sources.{MeanReply, long, bad, broken, printed, stopped}
use Rattle.answer_laws.proofs.Runners as unit
use Rattle.answer_laws.proofs.Texts as source
use Rattle.answer_laws.proofs.Graphs.{compiled}

-- the status of a fault is that which carries it
pub back : (f : CallFault) → of_argument (argument_fault f) ≡ status.Argument f
back call.Entry = refl
back (call.Count wanted given) = refl
back (call.Value k (text.BadSpelling b)) = refl
back (call.Value k (text.WrongShape b)) = refl
back (call.Value k text.TooLarge) = refl

no_memory_argument : (f : CallFault) → refusal.Argument (argument_fault f) ≢ refusal.NoMemory
no_memory_argument f e = cc

pub gen_ok : (n : ℕ) (bytes : List ℕ) (r : Result (List ℕ) Status) → Replies (command.Gen n) bytes r → Tells r → (out : List ℕ) × (r ≡ Ok out) × Asks (command.Gen n) bytes out
gen_ok n bytes (Ok out) p t = (out, refl, p)
gen_ok n bytes (Err status.Done) p t = absurd p
gen_ok n bytes (Err (status.Usage f)) p t = absurd p
gen_ok n bytes (Err status.ReadFault) p t = absurd p
gen_ok n bytes (Err status.WriteFault) p t = absurd p
gen_ok n bytes (Err status.NoMemory) p t = absurd t
gen_ok n bytes (Err (status.Syntax f)) p t = absurd p.0
gen_ok n bytes (Err (status.Typing rule line)) p t = absurd p.0
gen_ok n bytes (Err (status.If1 f)) p t = absurd p
gen_ok n bytes (Err (status.Argument f)) p t = absurd p
gen_ok n bytes (Err status.TurnLimit) p t = absurd p
gen_ok n bytes (Err status.TooLong) p t = absurd p.0
gen_ok n bytes (Err status.Later) p t = absurd p
gen_ok n bytes (Err (status.Unlinked name)) p t = absurd p

pub help_ok : (bytes : List ℕ) (r : Result (List ℕ) Status) → Replies command.Help bytes r → Tells r → (out : List ℕ) × (r ≡ Ok out) × Asks command.Help bytes out
help_ok bytes (Ok out) p t = (out, refl, p)
help_ok bytes (Err status.Done) p t = absurd p
help_ok bytes (Err (status.Usage f)) p t = absurd p
help_ok bytes (Err status.ReadFault) p t = absurd p
help_ok bytes (Err status.WriteFault) p t = absurd p
help_ok bytes (Err status.NoMemory) p t = absurd t
help_ok bytes (Err (status.Syntax f)) p t = absurd p.0
help_ok bytes (Err (status.Typing rule line)) p t = absurd p.0
help_ok bytes (Err (status.If1 f)) p t = absurd p
help_ok bytes (Err (status.Argument f)) p t = absurd p
help_ok bytes (Err status.TurnLimit) p t = absurd p
help_ok bytes (Err status.TooLong) p t = absurd p.0
help_ok bytes (Err status.Later) p t = absurd p
help_ok bytes (Err (status.Unlinked name)) p t = absurd p

pub version_ok : (bytes : List ℕ) (r : Result (List ℕ) Status) → Replies command.Version bytes r → Tells r → (out : List ℕ) × (r ≡ Ok out) × Asks command.Version bytes out
version_ok bytes (Ok out) p t = (out, refl, p)
version_ok bytes (Err status.Done) p t = absurd p
version_ok bytes (Err (status.Usage f)) p t = absurd p
version_ok bytes (Err status.ReadFault) p t = absurd p
version_ok bytes (Err status.WriteFault) p t = absurd p
version_ok bytes (Err status.NoMemory) p t = absurd t
version_ok bytes (Err (status.Syntax f)) p t = absurd p.0
version_ok bytes (Err (status.Typing rule line)) p t = absurd p.0
version_ok bytes (Err (status.If1 f)) p t = absurd p
version_ok bytes (Err (status.Argument f)) p t = absurd p
version_ok bytes (Err status.TurnLimit) p t = absurd p
version_ok bytes (Err status.TooLong) p t = absurd p.0
version_ok bytes (Err status.Later) p t = absurd p
version_ok bytes (Err (status.Unlinked name)) p t = absurd p

pub link_later : (bytes : List ℕ) (r : Result (List ℕ) Status) → Replies command.Link bytes r → Tells r → r ≡ Err status.Later
link_later bytes (Ok out) p t = absurd p
link_later bytes (Err status.Done) p t = absurd p
link_later bytes (Err (status.Usage f)) p t = absurd p
link_later bytes (Err status.ReadFault) p t = absurd p
link_later bytes (Err status.WriteFault) p t = absurd p
link_later bytes (Err status.NoMemory) p t = absurd t
link_later bytes (Err (status.Syntax f)) p t = absurd p.0
link_later bytes (Err (status.Typing rule line)) p t = absurd p.0
link_later bytes (Err (status.If1 f)) p t = absurd p
link_later bytes (Err (status.Argument f)) p t = absurd p
link_later bytes (Err status.TurnLimit) p t = absurd p
link_later bytes (Err status.TooLong) p t = absurd p.0
link_later bytes (Err status.Later) p t = refl
link_later bytes (Err (status.Unlinked name)) p t = absurd p

pub verify_later : (set : MeanSet) (bytes : List ℕ) (r : Result (List ℕ) Status) → Replies (command.Verify set) bytes r → Tells r → r ≡ Err status.Later
verify_later set bytes (Ok out) p t = absurd p
verify_later set bytes (Err status.Done) p t = absurd p
verify_later set bytes (Err (status.Usage f)) p t = absurd p
verify_later set bytes (Err status.ReadFault) p t = absurd p
verify_later set bytes (Err status.WriteFault) p t = absurd p
verify_later set bytes (Err status.NoMemory) p t = absurd t
verify_later set bytes (Err (status.Syntax f)) p t = absurd p.0
verify_later set bytes (Err (status.Typing rule line)) p t = absurd p.0
verify_later set bytes (Err (status.If1 f)) p t = absurd p
verify_later set bytes (Err (status.Argument f)) p t = absurd p
verify_later set bytes (Err status.TurnLimit) p t = absurd p
verify_later set bytes (Err status.TooLong) p t = absurd p.0
verify_later set bytes (Err status.Later) p t = refl
verify_later set bytes (Err (status.Unlinked name)) p t = absurd p

pub again_later : (set : AgainSet) (bytes : List ℕ) (r : Result (List ℕ) Status) → Replies (command.Again set) bytes r → Tells r → r ≡ Err status.Later
again_later set bytes (Ok out) p t = absurd p
again_later set bytes (Err status.Done) p t = absurd p
again_later set bytes (Err (status.Usage f)) p t = absurd p
again_later set bytes (Err status.ReadFault) p t = absurd p
again_later set bytes (Err status.WriteFault) p t = absurd p
again_later set bytes (Err status.NoMemory) p t = absurd t
again_later set bytes (Err (status.Syntax f)) p t = absurd p.0
again_later set bytes (Err (status.Typing rule line)) p t = absurd p.0
again_later set bytes (Err (status.If1 f)) p t = absurd p
again_later set bytes (Err (status.Argument f)) p t = absurd p
again_later set bytes (Err status.TurnLimit) p t = absurd p
again_later set bytes (Err status.TooLong) p t = absurd p.0
again_later set bytes (Err status.Later) p t = refl
again_later set bytes (Err (status.Unlinked name)) p t = absurd p

pub compile_later : (set : CompileSet) (bytes : List ℕ) (r : Result (List ℕ) Status) → ¬ IsBuilt set → Replies (command.Compile set) bytes r → Tells r → r ≡ Err status.Later
compile_later set bytes (Ok out) n p t = absurd (n p.0)
compile_later set bytes (Err status.Done) n p t = absurd p
compile_later set bytes (Err (status.Usage f)) n p t = absurd p
compile_later set bytes (Err status.ReadFault) n p t = absurd t
compile_later set bytes (Err status.WriteFault) n p t = absurd p
compile_later set bytes (Err status.NoMemory) n p t = absurd t
compile_later set bytes (Err (status.Syntax f)) n p t = absurd (n p.0)
compile_later set bytes (Err (status.Typing rule line)) n p t = absurd (n p.0)
compile_later set bytes (Err (status.If1 f)) n p t = absurd p
compile_later set bytes (Err (status.Argument f)) n p t = absurd p
compile_later set bytes (Err status.TurnLimit) n p t = absurd p
compile_later set bytes (Err status.TooLong) n p t = absurd (n p.0)
compile_later set bytes (Err status.Later) n p t = refl
compile_later set bytes (Err (status.Unlinked name)) n p t = absurd p

pub mean_reply : (set : MeanSet) (bytes : List ℕ) (r : Result (List ℕ) Status) → Replies (command.Mean set) bytes r → Tells r → MeanReply set bytes r
mean_reply set bytes (Ok out) p t = printed out p
mean_reply set bytes (Err status.Done) p t = absurd p
mean_reply set bytes (Err (status.Usage f)) p t = absurd p
mean_reply set bytes (Err status.ReadFault) p t = absurd t
mean_reply set bytes (Err status.WriteFault) p t = absurd p
mean_reply set bytes (Err status.NoMemory) p t = absurd t
mean_reply set bytes (Err (status.Syntax f)) p t = bad f p.1
mean_reply set bytes (Err (status.Typing rule line)) p t = broken rule line p
mean_reply set bytes (Err (status.If1 f)) p t = absurd p
mean_reply set bytes (Err (status.Argument f)) p t = stopped (refusal.Argument (argument_fault f)) (status.Argument f) (no_memory_argument f) p (back f)
mean_reply set bytes (Err status.TurnLimit) p t = stopped refusal.TurnLimit status.TurnLimit (λ e. cc e) p refl
mean_reply set bytes (Err status.TooLong) p t = long p.1
mean_reply set bytes (Err status.Later) p t = absurd p
mean_reply set bytes (Err (status.Unlinked name)) p t = stopped (refusal.Unlinked name) (status.Unlinked name) (λ e. cc e) p refl

pub if1_reply : (bytes : List ℕ) (r : Result (List ℕ) Status) → Replies command.If1 bytes r → Tells r → unit.If1Reply bytes r
if1_reply bytes (Ok out) p t = unit.printed out p.0 p.1
if1_reply bytes (Err status.Done) p t = absurd p
if1_reply bytes (Err (status.Usage f)) p t = absurd p
if1_reply bytes (Err status.ReadFault) p t = absurd t
if1_reply bytes (Err status.WriteFault) p t = absurd p
if1_reply bytes (Err status.NoMemory) p t = absurd t
if1_reply bytes (Err (status.Syntax f)) p t = absurd p.0
if1_reply bytes (Err (status.Typing rule line)) p t = absurd p.0
if1_reply bytes (Err (status.If1 f)) p t = unit.faulty f p.0 p.1
if1_reply bytes (Err (status.Argument f)) p t = absurd p
if1_reply bytes (Err status.TurnLimit) p t = absurd p
if1_reply bytes (Err status.TooLong) p t = unit.long p.1
if1_reply bytes (Err status.Later) p t = absurd p
if1_reply bytes (Err (status.Unlinked name)) p t = absurd p

-- ---- runs

true_false : (b : Bool) → b ≡ true → b ≡ false → ⊥
true_false true e f = cc
true_false false e f = cc

-- the unit of an IF1 text
if1_unit : (b : Bool) (bytes : List ℕ) (u : Unit1) → b ≡ true → RunsUnit b bytes u → Fits bytes × IsIf1Of bytes u
if1_unit true bytes u e p = p
if1_unit false bytes u e p = cc

no_run : (set : RunSet) (bytes : List ℕ) → set.if1 ≡ true → (r : Refusal) (s : Status) → r ≢ refusal.NoMemory → HasNoRun set bytes r → of_refusal r ≡ s → unit.RunReply set bytes (Err s)
no_run set bytes i r s n p e = let x = if1_unit set.if1 bytes p.unit i p.runs in unit.stopped r s p.unit n x.0 x.1 p.refused e

pub run_reply : (set : RunSet) (bytes : List ℕ) (r : Result (List ℕ) Status) → set.if1 ≡ true → IsPlain set → Replies (command.Run set) bytes r → Tells r → unit.RunReply set bytes r
run_reply set bytes (Ok out) i plain p t = let x = if1_unit set.if1 bytes p.1.unit i p.1.runs in unit.ran out p.1.unit p.1.totals x.0 x.1 p.1.given p.1.is
run_reply set bytes (Err status.Done) i plain p t = absurd p
run_reply set bytes (Err (status.Usage f)) i plain p t = absurd p
run_reply set bytes (Err status.ReadFault) i plain p t = absurd t
run_reply set bytes (Err status.WriteFault) i plain p t = absurd p
run_reply set bytes (Err status.NoMemory) i plain p t = absurd t
run_reply set bytes (Err (status.Syntax f)) i plain p t = absurd (true_false set.if1 i p.0.1)
run_reply set bytes (Err (status.Typing rule line)) i plain p t = absurd (true_false set.if1 i p.0.1)
run_reply set bytes (Err (status.If1 f)) i plain p t = unit.no_unit f p.1.0 p.1.1
run_reply set bytes (Err (status.Argument f)) i plain p t = no_run set bytes i (refusal.Argument (argument_fault f)) (status.Argument f) (no_memory_argument f) p.1 (back f)
run_reply set bytes (Err status.TurnLimit) i plain p t = no_run set bytes i refusal.TurnLimit status.TurnLimit (λ e. cc e) p.1 refl
run_reply set bytes (Err status.TooLong) i plain p t = unit.too_long p.1
run_reply set bytes (Err status.Later) i plain p t = absurd (p plain)
run_reply set bytes (Err (status.Unlinked name)) i plain p t = no_run set bytes i (refusal.Unlinked name) (status.Unlinked name) (λ e. cc e) p.1 refl

pub run_later : (set : RunSet) (bytes : List ℕ) (r : Result (List ℕ) Status) → ¬ IsPlain set → Replies (command.Run set) bytes r → Tells r → r ≡ Err status.Later
run_later set bytes (Ok out) n p t = absurd (n p.0)
run_later set bytes (Err status.Done) n p t = absurd p
run_later set bytes (Err (status.Usage f)) n p t = absurd p
run_later set bytes (Err status.ReadFault) n p t = absurd t
run_later set bytes (Err status.WriteFault) n p t = absurd p
run_later set bytes (Err status.NoMemory) n p t = absurd t
run_later set bytes (Err (status.Syntax f)) n p t = absurd (n p.0.0)
run_later set bytes (Err (status.Typing rule line)) n p t = absurd (n p.0.0)
run_later set bytes (Err (status.If1 f)) n p t = absurd (n p.0.0)
run_later set bytes (Err (status.Argument f)) n p t = absurd (n p.0)
run_later set bytes (Err status.TurnLimit) n p t = absurd (n p.0)
run_later set bytes (Err status.TooLong) n p t = absurd (n p.0)
run_later set bytes (Err status.Later) n p t = refl
run_later set bytes (Err (status.Unlinked name)) n p t = absurd (n p.0)

-- ---- graphs of a SISAL text

no_graphs : (bytes : List ℕ) (Rest : Result (List ℕ) Status → Type 0) (rule line : ℕ) → HasNoGraphs bytes rule line → source.TextReply bytes Rest (Err (status.Typing rule line))
no_graphs bytes Rest rule line (inl b) = source.broken rule line b
no_graphs bytes Rest rule line (inr o) = source.over rule line o.1

-- the unit of a SISAL text
sisal_unit : (b : Bool) (bytes : List ℕ) (u : Unit1) → b ≡ false → RunsUnit b bytes u → HasGraphs bytes u
sisal_unit false bytes u e p = p
sisal_unit true bytes u e p = cc

no_text_run : (set : RunSet) (bytes : List ℕ) → set.if1 ≡ false → (r : Refusal) (s : Status) → r ≢ refusal.NoMemory → HasNoRun set bytes r → of_refusal r ≡ s → source.TextReply bytes (source.RunRest set bytes) (Err s)
no_text_run set bytes i r s n p e = source.made (Err s) (source.stopped r s p.unit n (sisal_unit set.if1 bytes p.unit i p.runs) p.refused e)

pub text_run_reply : (set : RunSet) (bytes : List ℕ) (r : Result (List ℕ) Status) → set.if1 ≡ false → IsPlain set → Replies (command.Run set) bytes r → Tells r → source.TextReply bytes (source.RunRest set bytes) r
text_run_reply set bytes (Ok out) i plain p t = source.made (Ok out) (source.ran out p.1.unit p.1.totals (sisal_unit set.if1 bytes p.1.unit i p.1.runs) p.1.given p.1.is)
text_run_reply set bytes (Err status.Done) i plain p t = absurd p
text_run_reply set bytes (Err (status.Usage f)) i plain p t = absurd p
text_run_reply set bytes (Err status.ReadFault) i plain p t = absurd t
text_run_reply set bytes (Err status.WriteFault) i plain p t = absurd p
text_run_reply set bytes (Err status.NoMemory) i plain p t = absurd t
text_run_reply set bytes (Err (status.Syntax f)) i plain p t = source.bad f p.1
text_run_reply set bytes (Err (status.Typing rule line)) i plain p t = no_graphs bytes (source.RunRest set bytes) rule line p.1
text_run_reply set bytes (Err (status.If1 f)) i plain p t = absurd (true_false set.if1 p.0.1 i)
text_run_reply set bytes (Err (status.Argument f)) i plain p t = no_text_run set bytes i (refusal.Argument (argument_fault f)) (status.Argument f) (no_memory_argument f) p.1 (back f)
text_run_reply set bytes (Err status.TurnLimit) i plain p t = no_text_run set bytes i refusal.TurnLimit status.TurnLimit (λ e. cc e) p.1 refl
text_run_reply set bytes (Err status.TooLong) i plain p t = source.long p.1
text_run_reply set bytes (Err status.Later) i plain p t = absurd (p plain)
text_run_reply set bytes (Err (status.Unlinked name)) i plain p t = no_text_run set bytes i (refusal.Unlinked name) (status.Unlinked name) (λ e. cc e) p.1 refl

pub compile_reply : (set : CompileSet) (bytes : List ℕ) (r : Result (List ℕ) Status) → set.dot ≡ false → set.why ≡ false → set.code ≡ false → IsBuilt set → Replies (command.Compile set) bytes r → Tells r → source.TextReply bytes (source.CompileRest bytes) r
compile_reply set bytes (Ok out) d w k built p t = source.made (Ok out) (source.printed out p.1.program p.1.typed (compiled set.dot set.why set.code p.1.program out d w k p.1.is))
compile_reply set bytes (Err status.Done) d w k built p t = absurd p
compile_reply set bytes (Err (status.Usage f)) d w k built p t = absurd p
compile_reply set bytes (Err status.ReadFault) d w k built p t = absurd t
compile_reply set bytes (Err status.WriteFault) d w k built p t = absurd p
compile_reply set bytes (Err status.NoMemory) d w k built p t = absurd t
compile_reply set bytes (Err (status.Syntax f)) d w k built p t = source.bad f p.1
compile_reply set bytes (Err (status.Typing rule line)) d w k built p t = no_graphs bytes (source.CompileRest bytes) rule line p.1
compile_reply set bytes (Err (status.If1 f)) d w k built p t = absurd p
compile_reply set bytes (Err (status.Argument f)) d w k built p t = absurd p
compile_reply set bytes (Err status.TurnLimit) d w k built p t = absurd p
compile_reply set bytes (Err status.TooLong) d w k built p t = source.long p.1
compile_reply set bytes (Err status.Later) d w k built p t = absurd (p built)
compile_reply set bytes (Err (status.Unlinked name)) d w k built p t = absurd p
