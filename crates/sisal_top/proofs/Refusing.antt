-- Refusals of a text and of a command.
use Rattle.std.proofs.Common.{◌≡◌, ◌≢◌, ◌⊎◌, inl, inr, List, ℕ, Result, Ok, Err, refl, subst, sym}
use Rattle.std.specs.Result.{IfErr, IsErrAnd}
use Rattle.run_words.specs.Words.{IsCommand, HasFault}
use Rattle.run_words.specs.declared.command.Command.{Command}
use Rattle.run_words.specs.declared.fault.WordFault.{WordFault}
use Rattle.run_words.specs.declared.fault.WordFault.TheVariants as word
use Rattle.run_words.proofs.Answering.{one_command, not_both}
use Rattle.sisal_lex.specs.Tokens.{tokens_of}
use Rattle.sisal_lex.specs.declared.fault.LexFault.{LexFault}
use Rattle.sisal_lex.specs.declared.fault.LexFault.TheVariants as lexer
use Rattle.sisal_lex.specs.declared.token.Tokens.{Tokens}
use Rattle.sisal_parse.specs.Faults.{DepthFault, SyntaxFault}
use Rattle.sisal_parse.specs.declared.fault.ParseFault.{ParseFault}
use Rattle.sisal_parse.specs.declared.fault.ParseFault.TheVariants as parser
use Rattle.sisal_tree.specs.declared.unit.Unit as tree
use Rattle.type_rules.specs.Faults.{IsRule}
use Rattle.type_rules.specs.declared.fault.TypeFault.{TypeFault}
use Rattle.type_rules.specs.declared.fault.TypeFault.TheVariants as checker
use Rattle.typed_tree.specs.Faults.{BreaksUnit}
use Rattle.sisal_check.specs.Texts.{IsText}
use Rattle.sisal_top.specs.Program.{AskToRead, Fits, IsUnitOf, ReadsText}
use Rattle.sisal_top.specs.Refusals.{IsCause, IsNoProgram, IsUnread}
use Rattle.sisal_top.specs.Status.{of_checker, of_lexer, of_parser, of_words}
use Rattle.sisal_top.proofs.Lengths.{fault_lined}
use Rattle.sisal_check.proofs.Lexed.{is_text}
use Rattle.sisal_top.specs.declared.status.Status.{Status}
use Rattle.sisal_top.specs.declared.status.Status.TheVariants as status

-- words that ask to read the text are no other command, and have no fault
pub reads_text : (words : List (List ℕ)) (c : Command) → AskToRead words → IsCommand words c → ReadsText c
reads_text words c r is = subst ReadsText (sym (one_command words c r.0 is r.1)) r.2

pub has_no_fault : (words : List (List ℕ)) (f : WordFault) → AskToRead words → HasFault words f → ⊥
has_no_fault words f r is = not_both words r.0 f r.1 is

-- a command that reads the text and whose words are not read for want of memory
pub not_read : (X : Type 0) (words : List (List ℕ)) (f : WordFault) (r : Result (List ℕ) Status) → AskToRead words
    → (f ≢ word.NoMemory → HasFault words f) → IsErrAnd r (λ s. s ≡ of_words f) → IfErr r (λ s. IsUnread s ⊎ X)
not_read X words f (Ok printed) run has is = tt
not_read X words word.NoMemory (Err s) run has is = inl (subst IsUnread (sym is) tt)
not_read X words word.Missing (Err s) run has is = absurd (has_no_fault words word.Missing run (has (λ e. cc e)))
not_read X words (word.Unknown k) (Err s) run has is = absurd (has_no_fault words (word.Unknown k) run (has (λ e. cc e)))
not_read X words (word.Repeated k) (Err s) run has is = absurd (has_no_fault words (word.Repeated k) run (has (λ e. cc e)))
not_read X words (word.NotANumber k) (Err s) run has is = absurd (has_no_fault words (word.NotANumber k) run (has (λ e. cc e)))
not_read X words (word.OutOfRange k) (Err s) run has is = absurd (has_no_fault words (word.OutOfRange k) run (has (λ e. cc e)))

-- a fault of the lexer is one of the bytes, where they are not too many
pub lexer_cause : {X : Type 0} (bytes : List ℕ) (f : LexFault) (r : Result X Status) → Fits bytes → (f ≡ lexer.NoMemory) ⊎ (tokens_of bytes ≡ Err f)
    → IsErrAnd r (λ s. s ≡ of_lexer f) → IfErr r (IsCause bytes)
lexer_cause bytes f (Ok x) fits fault is = tt
lexer_cause bytes lexer.NoMemory (Err s) fits fault is = subst (IsCause bytes) (sym is) tt
lexer_cause bytes lexer.TooLong (Err s) fits (inl e) is = cc
lexer_cause bytes lexer.TooLong (Err s) fits (inr e) is = absurd (fault_lined bytes lexer.TooLong e fits)
lexer_cause bytes (lexer.BadByte l) (Err s) fits (inl e) is = cc
lexer_cause bytes (lexer.BadByte l) (Err s) fits (inr e) is = subst (IsCause bytes) (sym is) (inl (lexer.BadByte l, e, refl))
lexer_cause bytes (lexer.NumberTooWide l) (Err s) fits (inl e) is = cc
lexer_cause bytes (lexer.NumberTooWide l) (Err s) fits (inr e) is = subst (IsCause bytes) (sym is) (inl (lexer.NumberTooWide l, e, refl))
lexer_cause bytes (lexer.OpenText l) (Err s) fits (inl e) is = cc
lexer_cause bytes (lexer.OpenText l) (Err s) fits (inr e) is = subst (IsCause bytes) (sym is) (inl (lexer.OpenText l, e, refl))

-- a fault of the parser is one of the bytes
pub parser_cause : {X : Type 0} (bytes : List ℕ) (tokens : Tokens) (f : ParseFault) (r : Result X Status) → tokens_of bytes ≡ Ok tokens
    → SyntaxFault tokens.list f → DepthFault tokens.list f → IsErrAnd r (λ s. s ≡ of_parser f) → IfErr r (IsCause bytes)
parser_cause bytes tokens f (Ok x) lexed syntax deep is = tt
parser_cause bytes tokens parser.NoMemory (Err s) lexed syntax deep is = subst (IsCause bytes) (sym is) tt
parser_cause bytes tokens (parser.Syntax number line) (Err s) lexed syntax deep is = subst (IsCause bytes) (sym is) (inr (tokens, lexed, syntax))
parser_cause bytes tokens (parser.TooDeep line) (Err s) lexed syntax deep is = subst (IsCause bytes) (sym is) (inr (tokens, lexed, deep))

-- a fault of the checker is one of the unit
pub checker_cause : {X : Type 0} (u : tree.Unit) (f : TypeFault) (r : Result X Status) → IsRule (λ rule line. IsText u → BreaksUnit u rule line) f → IsErrAnd r (λ s. s ≡ of_checker f)
    → IfErr r (λ s. (bytes : List ℕ) → IsUnitOf bytes u → IsNoProgram bytes s)
checker_cause u f (Ok x) breaks is = tt
checker_cause u checker.NoMemory (Err s) breaks is = λ bytes unit. subst (IsNoProgram bytes) (sym is) tt
checker_cause u (checker.Rule rule line) (Err s) breaks is = λ bytes unit. subst (IsNoProgram bytes) (sym is) (record { unit = u; is = unit; breaks = breaks (is_text bytes u.tokens u unit.lexed refl unit.spelled) })

-- a fault of the bytes is a reason for which they are no program
pub cause_no_program : (bytes : List ℕ) (s : Status) → IsCause bytes s → IsNoProgram bytes s
cause_no_program bytes status.Done c = c
cause_no_program bytes (status.Usage f) c = c
cause_no_program bytes status.ReadFault c = c
cause_no_program bytes status.WriteFault c = c
cause_no_program bytes status.NoMemory c = c
cause_no_program bytes (status.Syntax f) c = c
cause_no_program bytes (status.Typing rule line) c = absurd c
cause_no_program bytes (status.If1 f) c = c
cause_no_program bytes (status.Argument f) c = c
cause_no_program bytes status.TurnLimit c = c
cause_no_program bytes status.TooLong c = c
cause_no_program bytes status.Later c = c
cause_no_program bytes (status.Unlinked name) c = c
