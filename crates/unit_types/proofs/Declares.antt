-- The items of a unit are declared one by one.
use Rattle.std.proofs.Common.{◌≡◌, ◌≤◌, ℕ, suc, ◌+◌, ◌-◌, Bool, true, false, not, cond, List, [], ◌∷◌, ◌++◌, map, drop, length, slice_range, None, refl, sym, ap, subst, ◌∙◌, arith, append_assoc}
use Rattle.std.proofs.lemmas.List.{append-nil, map-append}
use Rattle.std.proofs.lemmas.List.Elements.{filter-append}
use Rattle.name_scope.specs.Newest.{newest}
use Rattle.flow_value.specs.declared.ty.Ty.{Ty}
use Rattle.type_table.specs.declared.form.Form.{Form}
use Rattle.type_table.specs.Tables.{basic_forms}
use Rattle.sisal_lex.specs.declared.token.Token.{Token}
use Rattle.sisal_tree.specs.declared.unit.TypeDef.{TypeDef}
use Rattle.sisal_tree.specs.declared.unit.FunDef.{FunDef}
use Rattle.sisal_tree.specs.declared.unit.FunKind.{FunKind}
use Rattle.sisal_tree.specs.declared.unit.FunKind.TheVariants as fun
use Rattle.sisal_tree.specs.declared.unit.Header.{Header}
use Rattle.sisal_tree.specs.declared.unit.Item.{Item}
use Rattle.sisal_tree.specs.declared.unit.Item.TheVariants as item
use Rattle.sisal_tree.specs.declared.unit.Unit as tree
use Rattle.sisal_grammar.specs.Placed.{placed}
use Rattle.typed_tree.specs.Types.{IsNumber}
use Rattle.typed_tree.specs.Written.{Denotes}
use Rattle.typed_tree.specs.Units.{is_given, Declared, given, Declares, no_item, a_type, a_function}
use Rattle.typed_tree.specs.Faults.{BreaksItems, after_type, after_function}
use Rattle.unit_types.specs.declared.header.Signature.{Signature}
use Rattle.unit_types.specs.declared.declaring.Announced.{Announced}
use Rattle.unit_types.specs.Headings.{given_as, announced_as}
use Rattle.unit_types.specs.Headers.{Says, IsSaid, AreSaid, forwards, AreAnnounced, IsDeclaring, AreItems}
use Rattle.unit_types.specs.Rests.{AreKnown, AreTokensSpelled, AreStanding, IsGrown, IsUsed, HasNames}
use Rattle.unit_types.proofs.Reading.{known_grown, names_later}
use Rattle.unit_types.proofs.Headers.{numbers_grown}
use Rattle.unit_types.proofs.Known.{none_known}
use Rattle.unit_types.proofs.Naming.{all_known, basic_stands}

-- ---- what is said stays said

said_grown : (u : tree.Unit) (old new : List Form) (known : List (ℕ × ℕ)) (ss : List Signature) (ds : List Declared) → IsGrown old new → AreSaid u old known ss ds → AreSaid u new known ss ds
said_grown u old new known [] [] g h = tt
said_grown u old new known [] (d ∷ ds) g h = absurd h
said_grown u old new known (s ∷ ss) [] g h = absurd h
said_grown u old new known (s ∷ ss) (d ∷ ds) g h = (
  record {
    line = h.0.line;
    name = h.0.name;
    parameters = h.0.parameters;
    params = numbers_grown old new u.tokens.names s.params d.signature.params g h.0.params;
    results = numbers_grown old new u.tokens.names s.results d.signature.results g h.0.results;
    within = h.0.within;
    types = known_grown old new u.tokens.names (drop (length known - s.known) known) d.types g h.0.types;
  },
  said_grown u old new known ss ds g h.1,
)

said_longer : (u : tree.Unit) (forms : List Form) (n : ℕ × ℕ) (known : List (ℕ × ℕ)) (ss : List Signature) (ds : List Declared) → AreSaid u forms known ss ds → AreSaid u forms (n ∷ known) ss ds
said_longer u forms n known [] [] h = tt
said_longer u forms n known [] (d ∷ ds) h = absurd h
said_longer u forms n known (s ∷ ss) [] h = absurd h
said_longer u forms n known (s ∷ ss) (d ∷ ds) h =
    let within : s.known ≤ length known = h.0.within in
    let e : length (n ∷ known) - s.known ≡ suc (length known - s.known) = omega (arith, within) in (
      record {
        line = h.0.line;
        name = h.0.name;
        parameters = h.0.parameters;
        params = h.0.params;
        results = h.0.results;
        within = omega (arith, within);
        types = subst (λ k. AreKnown forms u.tokens.names (drop k (n ∷ known)) d.types) (sym e) h.0.types;
      },
      said_longer u forms n known ss ds h.1,
    )

said_append : (u : tree.Unit) (forms : List Form) (known : List (ℕ × ℕ)) (ss ts : List Signature) (ds es : List Declared) → AreSaid u forms known ss ds → AreSaid u forms known ts es → AreSaid u forms known (ss ++ ts) (ds ++ es)
said_append u forms known [] ts [] es h k = k
said_append u forms known [] ts (d ∷ ds) es h k = absurd h
said_append u forms known (s ∷ ss) ts [] es h k = absurd h
said_append u forms known (s ∷ ss) ts (d ∷ ds) es h k = (h.0, said_append u forms known ss ts ds es h.1 k)

-- ---- functions that are given

given_as_is : {A : Type 0} (f : FunDef) (a : A) → given_as f.kind a ≡ cond (is_given f) (a ∷ []) []
given_as_is {A} f a = by f.line f.header f.kind
  where
    by : (l : ℕ) (h : Header) (k : FunKind) → given_as k a ≡ cond (is_given (record { line = l; header = h; kind = k })) (a ∷ []) []
    by l h fun.Forward = refl
    by l h fun.Global = refl
    by l h (fun.Defined es) = refl

given_append : (ds : List Declared) (d : Declared) → given (ds ++ d ∷ []) ≡ given ds ++ given (d ∷ [])
given_append [] d = refl
given_append (e ∷ ds) d = by (is_given e.function) (given ds) (given (ds ++ d ∷ [])) (given_append ds d)
  where
    by : (b : Bool) (gs hs : List Declared) → hs ≡ gs ++ given (d ∷ []) → cond b (e ∷ hs) hs ≡ cond b (e ∷ gs) gs ++ given (d ∷ [])
    by true gs hs h = ap (λ l. e ∷ l) h
    by false gs hs h = h

said_here : (u : tree.Unit) (forms : List Form) (known : List (ℕ × ℕ)) (s : Signature) (d : Declared) (b : Bool) → IsSaid u forms known s d → AreSaid u forms known (cond b (s ∷ []) []) (cond b (d ∷ []) [])
said_here u forms known s d true h = (h, tt)
said_here u forms known s d false h = tt

-- ---- functions that are announced

announced_grown : (u : tree.Unit) (old new : List Form) (known : List (ℕ × ℕ)) (ps : List Announced) (ds : List Declared) → IsGrown old new → AreAnnounced u old known ps ds → AreAnnounced u new known ps ds
announced_grown u old new known ps ds g h = record { said = said_grown u old new known (map (λ a. a.signature) ps) ds g h.said; lines = h.lines }

announced_longer : (u : tree.Unit) (forms : List Form) (n : ℕ × ℕ) (known : List (ℕ × ℕ)) (ps : List Announced) (ds : List Declared) → AreAnnounced u forms known ps ds → AreAnnounced u forms (n ∷ known) ps ds
announced_longer u forms n known ps ds h = record { said = said_longer u forms n known (map (λ a. a.signature) ps) ds h.said; lines = h.lines }

announced_append : (u : tree.Unit) (forms : List Form) (known : List (ℕ × ℕ)) (ps qs : List Announced) (ds es : List Declared) → AreAnnounced u forms known ps ds → AreAnnounced u forms known qs es
    → AreAnnounced u forms known (ps ++ qs) (ds ++ es)
announced_append u forms known ps qs ds es h k = record {
  said = subst (λ l. AreSaid u forms known l (ds ++ es)) (sym (map-append (λ a. a.signature) ps qs))
      (said_append u forms known (map (λ a. a.signature) ps) (map (λ a. a.signature) qs) ds es h.said k.said);
  lines = map-append (λ a. a.line) ps qs ∙ (λ i. h.lines i ++ k.lines i) ∙ sym (map-append (λ d. d.function.header.name.line) ds es);
}

announced_as_is : (f : FunDef) (a : Announced) → announced_as f.kind a ≡ cond (not (is_given f)) (a ∷ []) []
announced_as_is f a = by f.line f.header f.kind
  where
    by : (l : ℕ) (h : Header) (k : FunKind) → announced_as k a ≡ cond (not (is_given (record { line = l; header = h; kind = k }))) (a ∷ []) []
    by l h fun.Forward = refl
    by l h fun.Global = refl
    by l h (fun.Defined es) = refl

announced_here : (u : tree.Unit) (forms : List Form) (known : List (ℕ × ℕ)) (a : Announced) (d : Declared) (b : Bool) → a.line ≡ d.function.header.name.line → IsSaid u forms known a.signature d
    → AreAnnounced u forms known (cond b (a ∷ []) []) (cond b (d ∷ []) [])
announced_here u forms known a d true l h = record { said = (h, tt); lines = ap (λ n. n ∷ []) l }
announced_here u forms known a d false l h = record { said = tt; lines = refl }

-- ---- items

module _ (u : tree.Unit) (items : List Item) (tokens : List Token) (is : u.tokens.list ≡ tokens) (h : AreTokensSpelled u.tokens.names tokens) where
  pub declares_first : (forms : List Form) (known : List (ℕ × ℕ)) (functions : List Signature) (announced : List Announced) → forms ≡ basic_forms → known ≡ [] → functions ≡ [] → announced ≡ []
      → IsDeclaring u items 0 forms known functions announced
  declares_first forms known functions announced e n f a = record {
    types = [];
    names = record { standing = subst (AreStanding u.tokens.names) (sym e) (basic_stands u.tokens.names); named = subst (λ l. AreKnown forms u.tokens.names l []) (sym n) tt };
    done = [];
    said = subst (λ l. AreSaid u forms known l []) (sym f) tt;
    forward = subst (λ l. AreAnnounced u forms known l []) (sym a) (record { said = tt; lines = refl });
    leads = λ ds d. d;
    breaks = λ rule line b. b;
  }

  pub declares_type : (i : ℕ) (d : TypeDef) (old new : List Form) (named later : List (ℕ × ℕ)) (functions : List Signature) (announced : List Announced) (known k : ℕ) → drop i items ≡ item.Alias d ∷ drop (i + 1) items
      → known ≡ length named → IsUsed tokens old new
      → ((sp : List (List ℕ)) (types : List (ℕ × Ty)) → AreTokensSpelled sp tokens → AreStanding sp old → AreKnown old sp (drop (length named - known) named) types
      → (a : Ty) × Denotes sp types (slice_range (placed 0 tokens) d.ty.from d.ty.to) a × IsNumber new sp k a)
      → newest d.name named ≡ None → later ≡ (d.name, k) ∷ named
      → IsDeclaring u items i old named functions announced → IsDeclaring u items (i + 1) new later functions announced
  declares_type i d old new named later functions announced known k e count used denotes absent adds r =
      let sp = u.tokens.names in
      let a : (a : Ty) × Denotes sp r.types (slice_range (placed 0 tokens) d.ty.from d.ty.to) a × IsNumber new sp k a
      = denotes sp r.types h r.names.standing (subst (λ l. AreKnown old sp l r.types) (sym (all_known named known count)) r.names.named) in
      let m : HasNames sp new named r.types = names_later tokens old new sp named r.types used h r.names in
      let here : Denotes sp r.types (slice_range (placed 0 u.tokens.list) d.ty.from d.ty.to) a.0 = subst (λ l. Denotes sp r.types (slice_range (placed 0 l) d.ty.from d.ty.to) a.0) (sym is) a.1 in
      record {
        types = (d.name, a.0) ∷ r.types;
        names = record { standing = m.standing; named = subst (λ l. AreKnown new sp l ((d.name, a.0) ∷ r.types)) (sym adds) (refl, a.2, m.named) };
        done = r.done;
        said = subst (λ l. AreSaid u new l functions (given r.done)) (sym adds) (said_longer u new (d.name, k) named functions (given r.done) (said_grown u old new named functions (given r.done) used.grown r.said));
        forward = subst (λ l. AreAnnounced u new l announced (forwards r.done)) (sym adds)
            (announced_longer u new (d.name, k) named announced (forwards r.done) (announced_grown u old new named announced (forwards r.done) used.grown r.forward));
        leads = λ ds q. r.leads ds (subst (λ l. Declares u r.types l ds) (sym e) (a_type here (none_known old sp d.name named r.types r.names.named absent) q));
        breaks = λ rule line b. r.breaks rule line (subst (λ l. BreaksItems u r.types l rule line) (sym e) (after_type here (none_known old sp d.name named r.types r.names.named absent) b));
      }

  pub declares_function : (i : ℕ) (f : FunDef) (old new : List Form) (named : List (ℕ × ℕ)) (functions more : List Signature) (announced later : List Announced) (s : Signature) → drop i items ≡ item.Function f ∷ drop (i + 1) items
      → IsUsed tokens old new → ((types : List (ℕ × Ty)) → HasNames u.tokens.names old named types → Says u types new f.header s)
      → s.line ≡ f.line → s.known ≡ length named → more ≡ functions ++ given_as f.kind s → later ≡ announced ++ announced_as f.kind (record { line = f.header.name.line; signature = s })
      → IsDeclaring u items i old named functions announced → IsDeclaring u items (i + 1) new named more later
  declares_function i f old new named functions more announced later s e used says line known adds announces r =
      let sp = u.tokens.names in
      let t : Says u r.types new f.header s = says r.types r.names in
      let m : HasNames sp new named r.types = names_later tokens old new sp named r.types used h r.names in
      let d : Declared = record { function = f; types = r.types; signature = t.signature } in
      let here : IsSaid u new named s d = record {
        line = line;
        name = t.name;
        parameters = t.parameters;
        params = t.params;
        results = t.results;
        within = omega (arith, known);
        types = subst (λ l. AreKnown new sp l r.types) (sym (all_known named s.known known)) m.named;
      } in
      let before : AreSaid u new named functions (given r.done) = said_grown u old new named functions (given r.done) used.grown r.said in
      let whole : AreSaid u new named (functions ++ cond (is_given f) (s ∷ []) []) (given r.done ++ given (d ∷ []))
      = said_append u new named functions (cond (is_given f) (s ∷ []) []) (given r.done) (given (d ∷ [])) before (said_here u new named s d (is_given f) here) in
      let a : Announced = record { line = f.header.name.line; signature = s } in
      let heralds : AreAnnounced u new named (announced ++ cond (not (is_given f)) (a ∷ []) []) (forwards r.done ++ forwards (d ∷ []))
      = announced_append u new named announced (cond (not (is_given f)) (a ∷ []) []) (forwards r.done) (forwards (d ∷ []))
      (announced_grown u old new named announced (forwards r.done) used.grown r.forward) (announced_here u new named a d (not (is_given f)) refl here) in
      record {
        types = r.types;
        names = m;
        done = r.done ++ d ∷ [];
        forward = subst (λ l. AreAnnounced u new named l (forwards (r.done ++ d ∷ []))) (sym (announces ∙ ap (λ l. announced ++ l) (announced_as_is f a)))
            (subst (AreAnnounced u new named (announced ++ cond (not (is_given f)) (a ∷ []) [])) (sym (filter-append (λ d. not (is_given d.function)) r.done (d ∷ []))) heralds);
        breaks = λ rule line b. r.breaks rule line (subst (λ l. BreaksItems u r.types l rule line) (sym e) (after_function b));
        said = subst (λ l. AreSaid u new named l (given (r.done ++ d ∷ []))) (sym (adds ∙ ap (λ l. functions ++ l) (given_as_is f s)))
            (subst (AreSaid u new named (functions ++ cond (is_given f) (s ∷ []) [])) (sym (given_append r.done d)) whole);
        leads = λ ds q. subst (Declares u [] items) (sym (append_assoc r.done (d ∷ []) ds))
            (r.leads (d ∷ ds) (subst (λ l. Declares u r.types l (d ∷ ds)) (sym e) (a_function t.header q)));
      }

  -- all items
  pub declares_all : (i : ℕ) (forms : List Form) (known : List (ℕ × ℕ)) (functions : List Signature) (announced : List Announced) → drop i items ≡ [] → IsDeclaring u items i forms known functions announced
      → AreItems u items forms known functions announced
  declares_all i forms known functions announced e r = record {
    types = r.types;
    names = r.names;
    done = r.done;
    declares = subst (Declares u [] items) (append-nil r.done) (r.leads [] (subst (λ l. Declares u r.types l []) (sym e) no_item));
    said = r.said;
    forward = r.forward;
  }

-- the same of a table and of lists that are the same
pub declaring_as : {u : tree.Unit} {items : List Item} {n : ℕ} {forms table : List Form} {known named : List (ℕ × ℕ)} {functions : List Signature} {announced : List Announced} → table ≡ forms → named ≡ known
    → IsDeclaring u items n forms known functions announced → IsDeclaring u items n table named functions announced
declaring_as {u} {items} {n} {forms} {table} {known} {named} {functions} {announced} a b r =
    subst (λ x. IsDeclaring u items n x named functions announced) (sym a) (subst (λ x. IsDeclaring u items n forms x functions announced) (sym b) r)
