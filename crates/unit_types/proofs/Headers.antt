-- Headers with their types by number.
use Rattle.std.proofs.Common.{◌≡◌, ℕ, ◌+◌, List, [], ◌∷◌, ◌++◌, map, drop, slice_range, refl, sym, subst, append_assoc}
use Rattle.std.proofs.lemmas.List.{append-nil}
use Rattle.flow_value.specs.declared.ty.Ty.{Ty}
use Rattle.type_table.specs.declared.form.Form.{Form}
use Rattle.sisal_lex.specs.declared.token.Token.{Token}
use Rattle.sisal_tree.specs.declared.unit.Named.{Named}
use Rattle.sisal_tree.specs.declared.unit.Written.{Written}
use Rattle.sisal_tree.specs.declared.unit.Field.{Field}
use Rattle.sisal_tree.specs.declared.unit.Header.{Header}
use Rattle.sisal_tree.specs.declared.unit.Unit as tree
use Rattle.sisal_grammar.specs.Placed.{placed}
use Rattle.typed_tree.specs.Scopes.{AreDistinct}
use Rattle.typed_tree.specs.Types.{IsNumber, AreNumbers}
use Rattle.typed_tree.specs.Written.{Denotes}
use Rattle.typed_tree.specs.Units.{HasParams, no_field, a_field, HasResults, no_result, a_result}
use Rattle.unit_types.specs.declared.header.Signature.{Signature}
use Rattle.unit_types.specs.Headings.{parameters_of}
use Rattle.unit_types.specs.Rests.{IsGrown, AreKnown, AreTokensSpelled, AreStanding, IsUsed, HasNames}
use Rattle.unit_types.specs.Headers.{AreParams, AreParamsTo, AreResults, AreResultsTo, Says}
use Rattle.unit_types.proofs.Standing.{number_later}
use Rattle.unit_types.proofs.Reading.{names_later}

numbers_later : (old more : List Form) (sp : List (List ℕ)) (ns : List ℕ) (ts : List Ty) → AreNumbers old sp ns ts → AreNumbers (old ++ more) sp ns ts
numbers_later old more sp [] [] h = tt
numbers_later old more sp [] (t ∷ ts) h = absurd h
numbers_later old more sp (n ∷ ns) [] h = absurd h
numbers_later old more sp (n ∷ ns) (t ∷ ts) h = (number_later old more sp h.0, numbers_later old more sp ns ts h.1)

pub numbers_grown : (old new : List Form) (sp : List (List ℕ)) (ns : List ℕ) (ts : List Ty) → IsGrown old new → AreNumbers old sp ns ts → AreNumbers new sp ns ts
numbers_grown old new sp ns ts g h = subst (λ f. AreNumbers f sp ns ts) (sym g.is) (numbers_later old g.more sp ns ts h)

numbers_append : (forms : List Form) (sp : List (List ℕ)) (ns ms : List ℕ) (ts us : List Ty) → AreNumbers forms sp ns ts → AreNumbers forms sp ms us → AreNumbers forms sp (ns ++ ms) (ts ++ us)
numbers_append forms sp [] ms [] us h k = k
numbers_append forms sp [] ms (t ∷ ts) us h k = absurd h
numbers_append forms sp (n ∷ ns) ms [] us h k = absurd h
numbers_append forms sp (n ∷ ns) ms (t ∷ ts) us h k = (h.0, numbers_append forms sp ns ms ts us h.1 k)

numbers_same : (forms : List Form) (sp : List (List ℕ)) (k : ℕ) (a : Ty) → IsNumber forms sp k a → (names : List Named) → AreNumbers forms sp (map (λ n. k) names) (map (λ n. a) names)
numbers_same forms sp k a h [] = tt
numbers_same forms sp k a h (n ∷ ns) = (h, numbers_same forms sp k a h ns)

-- what a written type denotes, by the call that reads it
abbrev pub Denoting : (tokens : List Token) (w : Written) (old new : List Form) (known : List (ℕ × ℕ)) (k : ℕ) → Type 0
Denoting tokens w old new known k = (sp : List (List ℕ)) (types : List (ℕ × Ty)) → AreTokensSpelled sp tokens → AreStanding sp old → AreKnown old sp known types
    → (a : Ty) × Denotes sp types (slice_range (placed 0 tokens) w.from w.to) a × IsNumber new sp k a

module _ (u : tree.Unit) (types : List (ℕ × Ty)) (tokens : List Token) (is : u.tokens.list ≡ tokens) (h : AreTokensSpelled u.tokens.names tokens) (known : List (ℕ × ℕ)) where
  -- the type of a written type of the unit
  here : (w : Written) (first old new : List Form) (k : ℕ) → HasNames u.tokens.names first known types → IsUsed tokens first old → Denoting tokens w old new known k
      → (a : Ty) × Denotes u.tokens.names types (slice_range (placed 0 u.tokens.list) w.from w.to) a × IsNumber new u.tokens.names k a
  here w first old new k names used f =
      let m : HasNames u.tokens.names old known types = names_later tokens first old u.tokens.names known types used h names in
      let d : (a : Ty) × Denotes u.tokens.names types (slice_range (placed 0 tokens) w.from w.to) a × IsNumber new u.tokens.names k a = f u.tokens.names types h m.standing m.named in
      (d.0, subst (λ l. Denotes u.tokens.names types (slice_range (placed 0 l) w.from w.to) d.0) (sym is) d.1, d.2)

  pub results_first : (written : List Written) (forms : List Form) → AreResultsTo u types forms written 0 []
  results_first written forms = record { results = []; numbered = tt; leads = λ more r. r }

  pub results_more : (written : List Written) (i : ℕ) (w : Written) (first old new : List Form) (numbers : List ℕ) (k : ℕ) → drop i written ≡ w ∷ drop (i + 1) written
      → HasNames u.tokens.names first known types → IsUsed tokens first old → IsUsed tokens old new → Denoting tokens w old new known k
      → AreResultsTo u types old written i numbers → AreResultsTo u types new written (i + 1) (numbers ++ k ∷ [])
  results_more written i w first old new numbers k e names used more f r =
      let d : (a : Ty) × Denotes u.tokens.names types (slice_range (placed 0 u.tokens.list) w.from w.to) a × IsNumber new u.tokens.names k a = here w first old new k names used f in
      record {
        results = r.results ++ d.0 ∷ [];
        numbered = numbers_append new u.tokens.names numbers (k ∷ []) r.results (d.0 ∷ []) (numbers_grown old new u.tokens.names numbers r.results more.grown r.numbered) (d.2, tt);
        leads = λ ts q. subst (HasResults u types written) (sym (append_assoc r.results (d.0 ∷ []) ts))
            (r.leads (d.0 ∷ ts) (subst (λ l. HasResults u types l (d.0 ∷ ts)) (sym e) (a_result d.1 q)));
      }

  pub results_all : (written : List Written) (i : ℕ) (forms : List Form) (numbers : List ℕ) → drop i written ≡ [] → AreResultsTo u types forms written i numbers → AreResults u types forms written numbers
  results_all written i forms numbers e r = record {
    results = r.results;
    are = subst (HasResults u types written) (append-nil r.results) (r.leads [] (subst (λ l. HasResults u types l []) (sym e) no_result));
    numbered = r.numbered;
  }

  pub params_first : (fields : List Field) (forms : List Form) → AreParamsTo u types forms fields 0 []
  params_first fields forms = record { params = []; numbered = tt; leads = λ more r. r }

  pub params_more : (fields : List Field) (i : ℕ) (f : Field) (first old new : List Form) (numbers : List ℕ) (k : ℕ) → drop i fields ≡ f ∷ drop (i + 1) fields
      → HasNames u.tokens.names first known types → IsUsed tokens first old → IsUsed tokens old new → Denoting tokens f.ty old new known k
      → AreParamsTo u types old fields i numbers → AreParamsTo u types new fields (i + 1) (numbers ++ map (λ n. k) f.names)
  params_more fields i f first old new numbers k e names used more g r =
      let d : (a : Ty) × Denotes u.tokens.names types (slice_range (placed 0 u.tokens.list) f.ty.from f.ty.to) a × IsNumber new u.tokens.names k a = here f.ty first old new k names used g in
      record {
        params = r.params ++ map (λ n. d.0) f.names;
        numbered = numbers_append new u.tokens.names numbers (map (λ n. k) f.names) r.params (map (λ n. d.0) f.names)
            (numbers_grown old new u.tokens.names numbers r.params more.grown r.numbered) (numbers_same new u.tokens.names k d.0 d.2 f.names);
        leads = λ ts q. subst (HasParams u types fields (parameters_of fields)) (sym (append_assoc r.params (map (λ n. d.0) f.names) ts))
            (r.leads (map (λ n. d.0) f.names ++ ts) (subst (λ l. HasParams u types l (parameters_of l) (map (λ n. d.0) f.names ++ ts)) (sym e) (a_field d.1 q)));
      }

  pub params_all : (fields : List Field) (i : ℕ) (forms : List Form) (numbers : List ℕ) → drop i fields ≡ [] → AreParamsTo u types forms fields i numbers → AreParams u types forms fields numbers
  params_all fields i forms numbers e r = record {
    params = r.params;
    are = subst (HasParams u types fields (parameters_of fields)) (append-nil r.params) (r.leads [] (subst (λ l. HasParams u types l (parameters_of l) []) (sym e) no_field));
    numbered = r.numbered;
  }

-- the whole header
pub says : (u : tree.Unit) (types : List (ℕ × Ty)) (old new : List Form) (h : Header) (s : Signature) (fields : List Field) (written : List Written) → fields ≡ h.params → written ≡ h.results
    → s.name ≡ h.name.name → s.parameters ≡ parameters_of fields → AreDistinct (parameters_of fields)
    → IsGrown old new → AreParams u types old fields s.params → AreResults u types new written s.results → Says u types new h s
says u types old new h s fields written f w name parameters distinct g p r = record {
  signature = record { name = h.name.name; parameters = parameters_of fields; params = p.params; results = r.results };
  header = record {
    named = refl;
    params = subst (λ l. HasParams u types l (parameters_of fields) p.params) f p.are;
    distinct = distinct;
    results = subst (λ l. HasResults u types l r.results) w r.are;
  };
  name = name;
  parameters = parameters;
  params = numbers_grown old new u.tokens.names s.params p.params g p.numbered;
  results = r.numbered;
}
