-- What headers say with types by number.
use Rattle.std.specs.Prelude.{◌≡◌, ◌≤◌, ◌+◌, ◌-◌, ℕ, List, [], ◌∷◌, ◌++◌, drop, length, map, not, All, Contains}
use Rattle.std.specs.List.{filter}
use Rattle.flow_value.specs.declared.ty.Ty.{Ty}
use Rattle.type_table.specs.declared.form.Form.{Form}
use Rattle.sisal_lex.specs.declared.token.Token.{Token}
use Rattle.sisal_tree.specs.declared.unit.Named.{Named}
use Rattle.sisal_tree.specs.declared.unit.Written.{Written}
use Rattle.sisal_tree.specs.declared.unit.Field.{Field}
use Rattle.sisal_tree.specs.declared.unit.Header.{Header}
use Rattle.sisal_tree.specs.declared.unit.Item.{Item}
use Rattle.sisal_tree.specs.declared.unit.Unit as tree
use Rattle.typed_tree.specs.Types.{AreNumbers}
use Rattle.typed_tree.specs.Typing.{Signature as TypedSignature, names_of}
use Rattle.typed_tree.specs.Units.{is_given, HasParams, HasResults, IsHeader, Declared, given, signatures, Declares, AreDeclared, AreDefined}
use Rattle.typed_tree.specs.Faults.{given_names, BreaksItems, BreaksUnit}
use Rattle.unit_types.specs.declared.header.Signature.{Signature}
use Rattle.unit_types.specs.declared.declaring.Announced.{Announced}
use Rattle.unit_types.specs.Headings.{parameters_of}
use Rattle.unit_types.specs.Rests.{AreKnown, AreTokensSpelled, AreStanding, HasNames}

module _ (u : tree.Unit) (types : List (ℕ × Ty)) (forms : List Form) where
  -- these are the types of all parameters of fields
  pub record AreParams (fields : List Field) (numbers : List ℕ) : Type 0 where
    pub params : List Ty
    pub are : HasParams u types fields (parameters_of fields) params
    pub numbered : AreNumbers forms u.tokens.names numbers params

  -- the types of the parameters up to a place
  pub record AreParamsTo (fields : List Field) (n : ℕ) (numbers : List ℕ) : Type 0 where
    pub params : List Ty
    pub numbered : AreNumbers forms u.tokens.names numbers params
    pub leads : (more : List Ty) → HasParams u types (drop n fields) (parameters_of (drop n fields)) more → HasParams u types fields (parameters_of fields) (params ++ more)

  -- these are the types of all results
  pub record AreResults (written : List Written) (numbers : List ℕ) : Type 0 where
    pub results : List Ty
    pub are : HasResults u types written results
    pub numbered : AreNumbers forms u.tokens.names numbers results

  -- the types of the results up to a place
  pub record AreResultsTo (written : List Written) (n : ℕ) (numbers : List ℕ) : Type 0 where
    pub results : List Ty
    pub numbered : AreNumbers forms u.tokens.names numbers results
    pub leads : (more : List Ty) → HasResults u types (drop n written) more → HasResults u types written (results ++ more)

  -- a header with numbers of its types says this
  pub record Says (h : Header) (s : Signature) : Type 0 where
    pub signature : TypedSignature
    pub header : IsHeader u types h signature
    pub name : s.name ≡ signature.name
    pub parameters : s.parameters ≡ signature.parameters
    pub params : AreNumbers forms u.tokens.names s.params signature.params
    pub results : AreNumbers forms u.tokens.names s.results signature.results

-- the heading and the types of a function, which stand by their numbers here
pub record IsSaid (u : tree.Unit) (forms : List Form) (known : List (ℕ × ℕ)) (s : Signature) (d : Declared) : Type 0 where
  pub line : s.line ≡ d.function.line
  pub name : s.name ≡ d.signature.name
  pub parameters : s.parameters ≡ d.signature.parameters
  pub params : AreNumbers forms u.tokens.names s.params d.signature.params
  pub results : AreNumbers forms u.tokens.names s.results d.signature.results
  -- the names of types that are known where it stands
  pub within : s.known ≤ length known
  pub types : AreKnown forms u.tokens.names (drop (length known - s.known) known) d.types

abbrev pub AreSaid : tree.Unit → List Form → List (ℕ × ℕ) → List Signature → List Declared → Type 0
AreSaid u forms known [] [] = Unit {0}
AreSaid u forms known (s ∷ ss) (d ∷ ds) = IsSaid u forms known s d × AreSaid u forms known ss ds
AreSaid u forms known _ _ = ⊥

-- the functions of which only the header is given
abbrev pub forwards : List Declared → List Declared
forwards ds = filter (λ d. not (is_given d.function)) ds

-- their headers, each with the line of the name
pub record AreAnnounced (u : tree.Unit) (forms : List Form) (known : List (ℕ × ℕ)) (announced : List Announced) (ds : List Declared) : Type 0 where
  pub said : AreSaid u forms known (map (λ a. a.signature) announced) ds
  pub lines : map (λ a. a.line) announced ≡ map (λ d. d.function.header.name.line) ds

-- a unit of these tokens and names, where each name in the text is spelled
pub record IsOf (tokens : List Token) (spellings : List (List ℕ)) (u : tree.Unit) : Type 0 where
  pub list : u.tokens.list ≡ tokens
  pub names : u.tokens.names ≡ spellings
  pub spelled : AreTokensSpelled u.tokens.names tokens

-- the items up to a place are declared
pub record IsDeclaring (u : tree.Unit) (items : List Item) (n : ℕ) (forms : List Form) (known : List (ℕ × ℕ)) (functions : List Signature) (announced : List Announced) : Type 0 where
  pub types : List (ℕ × Ty)
  pub names : HasNames u.tokens.names forms known types
  pub done : List Declared
  pub said : AreSaid u forms known functions (given done)
  pub forward : AreAnnounced u forms known announced (forwards done)
  pub leads : (ds : List Declared) → Declares u types (drop n items) ds → Declares u [] items (done ++ ds)
  pub breaks : (rule line : ℕ) → BreaksItems u types (drop n items) rule line → BreaksItems u [] items rule line

-- names of the functions that are given up to a place, where they stand
pub record AreGiven (items : List Item) (n : ℕ) (functions : List Signature) : Type 0 where
  pub before : List Named
  pub whole : given_names items ≡ before ++ given_names (drop n items)
  pub named : names_of before ≡ map (λ s. s.name) functions

-- the unit breaks a rule at this item, where those before it are declared
pub record BreaksAt (tokens : List Token) (spellings : List (List ℕ)) (x : Item) (forms : List Form) (known : List (ℕ × ℕ)) (functions : List Signature) (announced : List Announced) (rule line : ℕ) : Type 0 where
  pub breaks : (u : tree.Unit) (n : ℕ) → IsOf tokens spellings u → drop n u.items ≡ x ∷ drop (n + 1) u.items → AreGiven u.items n functions
      → IsDeclaring u u.items n forms known functions announced → BreaksUnit u rule line

-- all items are declared
pub record AreItems (u : tree.Unit) (items : List Item) (forms : List Form) (known : List (ℕ × ℕ)) (functions : List Signature) (announced : List Announced) : Type 0 where
  pub types : List (ℕ × Ty)
  pub names : HasNames u.tokens.names forms known types
  pub done : List Declared
  pub declares : Declares u [] items done
  pub said : AreSaid u forms known functions (given done)
  pub forward : AreAnnounced u forms known announced (forwards done)

-- What the type definitions and headers of a unit say, with types by number: its functions, by these headers, of which those
-- of these numbers stand after `define`.
pub record IsDeclared (u : tree.Unit) (forms : List Form) (known : List (ℕ × ℕ)) (headers : List Signature) (defines : List ℕ) : Type 0 where
  pub functions : List Declared
  pub declares : AreDeclared u functions
  -- a header is that of its definition
  pub forward : All (λ d. Contains (signatures functions) d.signature) functions
  pub said : AreSaid u forms known headers (given functions)
  pub defined : AreDefined u functions u.defines defines
  -- each number stands for a type, and the names of types by number are those of these types
  pub standing : AreStanding u.tokens.names forms
  pub types : List (ℕ × Ty)
  pub names : AreKnown forms u.tokens.names known types
