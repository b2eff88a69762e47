use Rattle.std.proofs.Common.{◌≡◌, ◌≤◌, ◌+◌, ◌-◌, length, drop}
use Rattle.sisal_lex.specs.Tokens.{lexed, named}
use Rattle.sisal_lex.specs.Sound.{AreSound, AreFolded}
use Rattle.sisal_lex.proofs.Turns.{continued}
use Rattle.sisal_lex.proofs.lexer.lex.Given as goal

-- the rest of the text decides what is still to come
abbrev pub invariant-loop-at : goal.invariant-loop-at
invariant-loop-at l = record {
  within : l.at ≤ length l.text;
  lines : l.line ≤ l.at + 1;
  few : length l.names ≤ l.at;
  tokens : length l.list ≤ l.at;
  sound : AreSound (length l.names) l.list;
  folded : AreFolded l.names;
  rest : named (lexed l.text 1 0) ≡ continued l.list l.names (lexed (drop l.at l.text) l.line 0);
}

abbrev pub decreases-loop-at : goal.decreases-loop-at
decreases-loop-at l = length l.text - l.at
