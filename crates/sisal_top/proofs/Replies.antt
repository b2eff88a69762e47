-- Refusals inside the call as replies of commands, and of words.
use Rattle.std.proofs.Common.{◌≡◌, ◌≢◌, List, ℕ, Option, Result, Ok, Err, refl, subst, sym}
use Rattle.std.specs.Result.{IfErr, IsErrAnd}
use Rattle.if1_call.specs.Calls.{IsRefusedFor}
use Rattle.if1_graph.specs.declared.fault.If1Fault.{If1Fault}
use Rattle.if1_graph.specs.declared.fault.If1Fault.TheVariants as if1
use Rattle.mean_call.specs.declared.fault.ArgumentFault.TheVariants as argument
use Rattle.mean_call.specs.declared.fault.Refusal.{Refusal}
use Rattle.mean_call.specs.declared.fault.Refusal.TheVariants as refusal
use Rattle.run_words.specs.Words.{IsCommand, HasFault}
use Rattle.run_words.specs.declared.command.Command.{Command}
use Rattle.run_words.specs.declared.fault.WordFault.{WordFault}
use Rattle.run_words.specs.declared.fault.WordFault.TheVariants as word
use Rattle.value_text.specs.declared.fault.ValueFault.TheVariants as value
use Rattle.sisal_top.specs.Answer.{Answers, Gives, IsInvalid, IsStopped, IsUntyped, IsUsage, Replies}
use Rattle.sisal_top.specs.Outputs.{HasTypeFault}
use Rattle.sisal_top.specs.Program.{ReadsSisal}
use Rattle.sisal_top.specs.Refusals.{IsEarly, IsNoProgram, IsOfBytes, IsReply}
use Rattle.sisal_top.specs.Status.{if1_fault, of_refusal, of_unit, of_words}
use Rattle.sisal_top.specs.declared.status.Status.{Status}
use Rattle.sisal_top.specs.declared.status.Status.TheVariants as status
use Rattle.sisal_top.specs.declared.status.UnitFault.{UnitFault}
use Rattle.sisal_top.specs.declared.status.UnitFault.TheVariants as unit

-- what holds of a refusal holds where it is passed on
pub passed_on : {X : Type 0} (P : Status → Type 0) (f : Status) (r : Result X Status) → P f → IsErrAnd r (λ s. s ≡ f) → IfErr r P
passed_on P f (Ok x) p is = tt
passed_on P f (Err s) p is = subst P (sym is) p

pub reply_passed_on : (c : Command) (bytes : List ℕ) (f : Status) (r : Result (List ℕ) Status) → Replies c bytes (Err f) → IsErrAnd r (λ s. s ≡ f) → Replies c bytes r
reply_passed_on c bytes f (Ok printed) p is = absurd is
reply_passed_on c bytes f (Err s) p is = subst (λ t. Replies c bytes (Err t)) (sym is) p

-- ---- texts that are no program

pub no_program_reply : (c : Command) (bytes : List ℕ) (s : Status) → ReadsSisal c → ((rule line : ℕ) → HasTypeFault bytes rule line → IsUntyped c bytes rule line) → IsNoProgram bytes s → Replies c bytes (Err s)
no_program_reply c bytes status.Done reads typed p = absurd p
no_program_reply c bytes (status.Usage f) reads typed p = absurd p
no_program_reply c bytes status.ReadFault reads typed p = absurd p
no_program_reply c bytes status.WriteFault reads typed p = absurd p
no_program_reply c bytes status.NoMemory reads typed p = tt
no_program_reply c bytes (status.Syntax f) reads typed p = (reads, p)
no_program_reply c bytes (status.Typing rule line) reads typed p = typed rule line p
no_program_reply c bytes (status.If1 f) reads typed p = absurd p
no_program_reply c bytes (status.Argument f) reads typed p = absurd p
no_program_reply c bytes status.TurnLimit reads typed p = absurd p
no_program_reply c bytes status.TooLong reads typed p = absurd p
no_program_reply c bytes status.Later reads typed p = absurd p
no_program_reply c bytes (status.Unlinked name) reads typed p = absurd p

pub no_program_of_bytes : (bytes : List ℕ) (s : Status) → IsNoProgram bytes s → IsOfBytes s
no_program_of_bytes bytes status.Done p = absurd p
no_program_of_bytes bytes (status.Usage f) p = absurd p
no_program_of_bytes bytes status.ReadFault p = absurd p
no_program_of_bytes bytes status.WriteFault p = absurd p
no_program_of_bytes bytes status.NoMemory p = tt
no_program_of_bytes bytes (status.Syntax f) p = tt
no_program_of_bytes bytes (status.Typing rule line) p = tt
no_program_of_bytes bytes (status.If1 f) p = absurd p
no_program_of_bytes bytes (status.Argument f) p = absurd p
no_program_of_bytes bytes status.TurnLimit p = absurd p
no_program_of_bytes bytes status.TooLong p = absurd p
no_program_of_bytes bytes status.Later p = absurd p
no_program_of_bytes bytes (status.Unlinked name) p = absurd p

-- ---- programs and units that give no values

pub stopped_reply : (c : Command) (bytes : List ℕ) (r : Refusal) → IsStopped c bytes r → Replies c bytes (Err (of_refusal r))
stopped_reply c bytes (refusal.Unlinked name) why = why
stopped_reply c bytes (refusal.Argument argument.Entry) why = why
stopped_reply c bytes (refusal.Argument (argument.Count wanted given)) why = why
stopped_reply c bytes (refusal.Argument (argument.Value k (value.BadSpelling b))) why = why
stopped_reply c bytes (refusal.Argument (argument.Value k (value.WrongShape b))) why = why
stopped_reply c bytes (refusal.Argument (argument.Value k value.TooLarge)) why = why
stopped_reply c bytes (refusal.Argument (argument.Value k value.NoMemory)) why = tt
stopped_reply c bytes refusal.TurnLimit why = why
stopped_reply c bytes refusal.NoMemory why = tt

pub stopped_of_bytes : (r : Refusal) → IsOfBytes (of_refusal r)
stopped_of_bytes (refusal.Unlinked name) = tt
stopped_of_bytes (refusal.Argument argument.Entry) = tt
stopped_of_bytes (refusal.Argument (argument.Count wanted given)) = tt
stopped_of_bytes (refusal.Argument (argument.Value k (value.BadSpelling b))) = tt
stopped_of_bytes (refusal.Argument (argument.Value k (value.WrongShape b))) = tt
stopped_of_bytes (refusal.Argument (argument.Value k value.TooLarge)) = tt
stopped_of_bytes (refusal.Argument (argument.Value k value.NoMemory)) = tt
stopped_of_bytes refusal.TurnLimit = tt
stopped_of_bytes refusal.NoMemory = tt

-- ---- texts that are no unit of IF1

pub invalid_reply : (c : Command) (bytes : List ℕ) (f : If1Fault) → ((g : UnitFault) → IsRefusedFor bytes (if1_fault g) → IsInvalid c bytes g) → IsRefusedFor bytes f → Replies c bytes (Err (of_unit f))
invalid_reply c bytes (if1.BadLine l) h p = h (unit.BadLine l) p
invalid_reply c bytes (if1.Unknown l) h p = h (unit.Unknown l) p
invalid_reply c bytes (if1.Real l) h p = h (unit.Real l) p
invalid_reply c bytes if1.Unclosed h p = h unit.Unclosed p
invalid_reply c bytes (if1.Cycle g n) h p = h (unit.Cycle g n) p
invalid_reply c bytes (if1.Ports g n) h p = h (unit.Ports g n) p
invalid_reply c bytes (if1.TypeOf g n) h p = h (unit.TypeOf g n) p
invalid_reply c bytes (if1.Marks g n p r) h w = h (unit.Marks g n p r) w
invalid_reply c bytes (if1.TooMany l) h p = h (unit.TooMany l) p
invalid_reply c bytes if1.NoMemory h p = tt

pub invalid_of_bytes : (f : If1Fault) → IsOfBytes (of_unit f)
invalid_of_bytes (if1.BadLine l) = tt
invalid_of_bytes (if1.Unknown l) = tt
invalid_of_bytes (if1.Real l) = tt
invalid_of_bytes if1.Unclosed = tt
invalid_of_bytes (if1.Cycle g n) = tt
invalid_of_bytes (if1.Ports g n) = tt
invalid_of_bytes (if1.TypeOf g n) = tt
invalid_of_bytes (if1.Marks g n p r) = tt
invalid_of_bytes (if1.TooMany l) = tt
invalid_of_bytes if1.NoMemory = tt

-- ---- words

-- the fault of words is what they give, whatever the bytes
fault_given : (words : List (List ℕ)) (bytes : List ℕ) (f : WordFault) → (f ≢ word.NoMemory → HasFault words f) → Gives words bytes (Err (of_words f))
fault_given words bytes word.NoMemory has = tt
fault_given words bytes word.Missing has = has (λ e. cc e)
fault_given words bytes (word.Unknown k) has = has (λ e. cc e)
fault_given words bytes (word.Repeated k) has = has (λ e. cc e)
fault_given words bytes (word.NotANumber k) has = has (λ e. cc e)
fault_given words bytes (word.OutOfRange k) has = has (λ e. cc e)

pub gives_fault : (words : List (List ℕ)) (bytes : List ℕ) (f : WordFault) (r : Result (List ℕ) Status) → (f ≢ word.NoMemory → HasFault words f) → IsErrAnd r (λ s. s ≡ of_words f) → Gives words bytes r
gives_fault words bytes f (Ok printed) has is = absurd is
gives_fault words bytes f (Err s) has is = subst (λ t. Gives words bytes (Err t)) (sym is) (fault_given words bytes f has)

fault_named : (words : List (List ℕ)) (f : WordFault) → (f ≢ word.NoMemory → HasFault words f) → IsUsage words (of_words f)
fault_named words word.NoMemory has = tt
fault_named words word.Missing has = has (λ e. cc e)
fault_named words (word.Unknown k) has = has (λ e. cc e)
fault_named words (word.Repeated k) has = has (λ e. cc e)
fault_named words (word.NotANumber k) has = has (λ e. cc e)
fault_named words (word.OutOfRange k) has = has (λ e. cc e)

pub names_fault : (words : List (List ℕ)) (f : WordFault) (r : Result (List ℕ) Status) → (f ≢ word.NoMemory → HasFault words f) → IsErrAnd r (λ s. s ≡ of_words f) → IfErr r (IsUsage words)
names_fault words f r has is = passed_on (IsUsage words) (of_words f) r (fault_named words f has) is

-- what a command replies is what its words give
pub gives_reply : (words : List (List ℕ)) (bytes : List ℕ) (c : Command) (x : Result (List ℕ) Status) → IsCommand words c → Replies c bytes x → IfErr x IsReply → Gives words bytes x
gives_reply words bytes c (Ok printed) is p r = (c, is, p)
gives_reply words bytes c (Err status.Done) is p r = absurd r
gives_reply words bytes c (Err (status.Usage f)) is p r = absurd r
gives_reply words bytes c (Err status.ReadFault) is p r = (c, is, p)
gives_reply words bytes c (Err status.WriteFault) is p r = absurd r
gives_reply words bytes c (Err status.NoMemory) is p r = tt
gives_reply words bytes c (Err (status.Syntax f)) is p r = (c, is, p)
gives_reply words bytes c (Err (status.Typing rule line)) is p r = (c, is, p)
gives_reply words bytes c (Err (status.If1 f)) is p r = (c, is, p)
gives_reply words bytes c (Err (status.Argument f)) is p r = (c, is, p)
gives_reply words bytes c (Err status.TurnLimit) is p r = (c, is, p)
gives_reply words bytes c (Err status.TooLong) is p r = (c, is, p)
gives_reply words bytes c (Err status.Later) is p r = (c, is, p)
gives_reply words bytes c (Err (status.Unlinked name)) is p r = (c, is, p)

-- a refusal before which nothing was written is answered
pub refusal_answered : (words : List (List ℕ)) (bytes : List ℕ) (s : Status) (taken : Option (List ℕ)) → IsEarly s → Gives words bytes (Err s) → Answers words bytes s taken taken
refusal_answered words bytes status.Done taken early g = absurd early
refusal_answered words bytes (status.Usage f) taken early g = (g, refl)
refusal_answered words bytes status.ReadFault taken early g = (g, refl)
refusal_answered words bytes status.WriteFault taken early g = absurd early
refusal_answered words bytes status.NoMemory taken early g = (g, refl)
refusal_answered words bytes (status.Syntax f) taken early g = (g, refl)
refusal_answered words bytes (status.Typing rule line) taken early g = (g, refl)
refusal_answered words bytes (status.If1 f) taken early g = (g, refl)
refusal_answered words bytes (status.Argument f) taken early g = (g, refl)
refusal_answered words bytes status.TurnLimit taken early g = (g, refl)
refusal_answered words bytes status.TooLong taken early g = (g, refl)
refusal_answered words bytes status.Later taken early g = (g, refl)
refusal_answered words bytes (status.Unlinked name) taken early g = (g, refl)
