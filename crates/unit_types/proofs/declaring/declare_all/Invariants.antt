use Rattle.std.proofs.Common.{◌≡◌, ◌++◌, [], ℕ, List, map, drop}
use Rattle.unit_types.specs.Headings.{heading_of, heading_in, has_body, given_functions, numbering, AreOwn, HaveResults}
use Rattle.sisal_tree.specs.declared.unit.Unit as tree
use Rattle.unit_types.specs.Headers.{IsDeclaring, AreGiven}
use Rattle.unit_types.specs.Rests.{AreTokensSpelled, AreNamed}
use Rattle.unit_types.proofs.declaring.declare_all.Given as goal

-- what is declared, with what is left to declare, is all
abbrev pub invariant-loop-item : goal.invariant-loop-item
invariant-loop-item l = record {
  functions : map heading_in l.declaring.functions ++ map heading_of (given_functions (drop l.item-index l.items)) ≡ map heading_of (given_functions l.items);
  bodies : l.declaring.bodies ++ map (λ f. has_body f.kind) (given_functions (drop l.item-index l.items)) ≡ map (λ f. has_body f.kind) (given_functions l.items);
  numbers : l.declaring.numbers ≡ numbering 0 [] (map (λ s. s.name) l.declaring.functions);
  results : HaveResults l.declaring.functions;
  own : AreOwn l.spellings (map (λ s. s.name) l.declaring.functions);
  names : (spellings : List (List ℕ)) → AreTokensSpelled spellings l.tokens → AreNamed spellings l.tokens l.items l.item-index l.declaring.types l.declaring.named;
  declares : (u : tree.Unit) → u.tokens.list ≡ l.tokens → AreTokensSpelled u.tokens.names l.tokens → IsDeclaring u l.items l.item-index l.declaring.types l.declaring.named l.declaring.functions l.declaring.announced;
  given : AreGiven l.items l.item-index l.declaring.functions;
}
