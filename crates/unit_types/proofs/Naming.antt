-- The names of types, item by item.
use Rattle.std.proofs.Common.{◌≡◌, ◌<◌, All, ℕ, zero, suc, ◌+◌, ◌-◌, List, [], ◌∷◌, drop, length, slice_range, None, refl, sym, ap, subst, arith}
use Rattle.name_scope.specs.Newest.{newest}
use Rattle.flow_value.specs.declared.ty.Ty.{Ty}
use Rattle.flow_value.specs.declared.ty.Ty.TheVariants as ty
use Rattle.type_table.specs.declared.form.Form.{Form}
use Rattle.type_table.specs.Tables.{basic_forms}
use Rattle.sisal_lex.specs.declared.token.Token.{Token}
use Rattle.sisal_tree.specs.declared.unit.TypeDef.{TypeDef}
use Rattle.sisal_tree.specs.declared.unit.FunDef.{FunDef}
use Rattle.sisal_tree.specs.declared.unit.Item.{Item}
use Rattle.sisal_tree.specs.declared.unit.Item.TheVariants as item
use Rattle.sisal_grammar.specs.Placed.{placed}
use Rattle.typed_tree.specs.Types.{IsNumber, boolean, character, integer, null, array}
use Rattle.typed_tree.specs.Written.{Denotes}
use Rattle.unit_types.specs.Rests.{HasEachOnce, AreKnown, AreTokensSpelled, AreStanding, IsUsed, HasNames, Names, no_item, a_type, a_function, IsNamed, AreNamed}
use Rattle.unit_types.proofs.Known.{none_known}
use Rattle.unit_types.proofs.Reading.{names_later}

pub all_known : (ns : List (ℕ × ℕ)) (known : ℕ) → known ≡ length ns → drop (length ns - known) ns ≡ ns
all_known ns known e = let z : length ns - known ≡ 0 = omega arith in ap (λ k. drop k ns) z

-- a type definition
pub names_type : (tokens : List Token) (d : TypeDef) (old new : List Form) (named later : List (ℕ × ℕ)) (known k : ℕ) → known ≡ length named → IsUsed tokens old new
    → ((sp : List (List ℕ)) (types : List (ℕ × Ty)) → AreTokensSpelled sp tokens → AreStanding sp old → AreKnown old sp (drop (length named - known) named) types
    → (a : Ty) × Denotes sp types (slice_range (placed 0 tokens) d.ty.from d.ty.to) a × IsNumber new sp k a)
    → newest d.name named ≡ None → later ≡ (d.name, k) ∷ named
    → (sp : List (List ℕ)) (types : List (ℕ × Ty)) → AreTokensSpelled sp tokens → HasNames sp old named types → IsNamed sp tokens types (item.Alias d) new later
names_type tokens d old new named later known k e used denotes absent adds sp types h n =
    let a : (a : Ty) × Denotes sp types (slice_range (placed 0 tokens) d.ty.from d.ty.to) a × IsNumber new sp k a
    = denotes sp types h n.standing (subst (λ l. AreKnown old sp l types) (sym (all_known named known e)) n.named) in
    let m : HasNames sp new named types = names_later tokens old new sp named types used h n in
    record {
      later = (d.name, a.0) ∷ types;
      names = record { standing = m.standing; named = subst (λ l. AreKnown new sp l ((d.name, a.0) ∷ types)) (sym adds) (refl, a.2, m.named) };
      leads = λ items all r. a_type a.1 (none_known old sp d.name named types n.named absent) r;
    }

-- a function
pub names_function : (tokens : List Token) (f : FunDef) (old new : List Form) (named : List (ℕ × ℕ)) → IsUsed tokens old new
    → (sp : List (List ℕ)) (types : List (ℕ × Ty)) → AreTokensSpelled sp tokens → HasNames sp old named types → IsNamed sp tokens types (item.Function f) new named
names_function tokens f old new named used sp types h n = record {
  later = types;
  names = names_later tokens old new sp named types used h n;
  leads = λ items all r. a_function r;
}

-- ---- all items

basic_stand : (sp : List (List ℕ)) (n : ℕ) → n < length basic_forms → (t : Ty) × IsNumber basic_forms sp n t
basic_stand sp zero below = (ty.Bool, boolean refl)
basic_stand sp (suc zero) below = (ty.Char, character refl)
basic_stand sp (suc (suc zero)) below = (ty.Int, integer refl)
basic_stand sp (suc (suc (suc zero))) below = (ty.Null, null refl)
basic_stand sp (suc (suc (suc (suc zero)))) below = (ty.Arr ty.Char, array {m = 1} refl (character refl))
basic_stand sp (suc (suc (suc (suc (suc n))))) below = absurd (omega arith)

basic_once : All HasEachOnce basic_forms
basic_once zero d below = tt
basic_once (suc zero) d below = tt
basic_once (suc (suc zero)) d below = tt
basic_once (suc (suc (suc zero))) d below = tt
basic_once (suc (suc (suc (suc zero)))) d below = tt
basic_once (suc (suc (suc (suc (suc n))))) d below = absurd (omega arith)

pub basic_stands : (sp : List (List ℕ)) → AreStanding sp basic_forms
basic_stands sp = record { stands = basic_stand sp; once = basic_once }

pub named_first : (tokens : List Token) (items : List Item) (forms : List Form) (known : List (ℕ × ℕ)) → forms ≡ basic_forms → known ≡ [] → (sp : List (List ℕ)) → AreNamed sp tokens items 0 forms known
named_first tokens items forms known e n sp = record {
  types = [];
  names = record { standing = subst (AreStanding sp) (sym e) (basic_stands sp); named = subst (λ l. AreKnown forms sp l []) (sym n) tt };
  leads = λ all r. r;
}

pub named_more : (tokens : List Token) (items : List Item) (i : ℕ) (x : Item) (old new : List Form) (known later : List (ℕ × ℕ)) → drop i items ≡ x ∷ drop (i + 1) items
    → ((sp : List (List ℕ)) (types : List (ℕ × Ty)) → AreTokensSpelled sp tokens → HasNames sp old known types → IsNamed sp tokens types x new later)
    → ((sp : List (List ℕ)) → AreTokensSpelled sp tokens → AreNamed sp tokens items i old known)
    → (sp : List (List ℕ)) → AreTokensSpelled sp tokens → AreNamed sp tokens items (i + 1) new later
named_more tokens items i x old new known later e step before sp h =
    let b : AreNamed sp tokens items i old known = before sp h in
    let s : IsNamed sp tokens b.types x new later = step sp b.types h b.names in
    record {
      types = s.later;
      names = s.names;
      leads = λ all r. b.leads all (subst (λ l. Names sp tokens b.types l all) (sym e) (s.leads (drop (i + 1) items) all r));
    }

pub named_all : (tokens : List Token) (items : List Item) (i : ℕ) (forms : List Form) (known : List (ℕ × ℕ)) → drop i items ≡ []
    → ((sp : List (List ℕ)) → AreTokensSpelled sp tokens → AreNamed sp tokens items i forms known)
    → (sp : List (List ℕ)) → AreTokensSpelled sp tokens → (types : List (ℕ × Ty)) × Names sp tokens [] items types × HasNames sp forms known types
named_all tokens items i forms known e before sp h =
    let b : AreNamed sp tokens items i forms known = before sp h in
    (b.types, b.leads b.types (subst (λ l. Names sp tokens b.types l b.types) (sym e) no_item), b.names)

pub names_moved : (tokens others : List Token) (items more : List Item) (forms table : List Form) (known named : List (ℕ × ℕ)) → tokens ≡ others → items ≡ more → table ≡ forms → named ≡ known
    → ((sp : List (List ℕ)) → AreTokensSpelled sp tokens → (types : List (ℕ × Ty)) × Names sp tokens [] items types × HasNames sp forms known types)
    → (sp : List (List ℕ)) → AreTokensSpelled sp others → (types : List (ℕ × Ty)) × Names sp others [] more types × HasNames sp table named types
names_moved tokens others items more forms table known named t i f n h sp s =
    let r : (types : List (ℕ × Ty)) × Names sp tokens [] items types × HasNames sp forms known types = h sp (subst (AreTokensSpelled sp) (sym t) s) in (
      r.0,
      subst (λ l. Names sp others [] l r.0) i (subst (λ l. Names sp l [] items r.0) t r.1),
      subst (λ l. HasNames sp l named r.0) (sym f) (subst (λ l. HasNames sp forms l r.0) (sym n) r.2),
    )

-- what an item does to the names, once its own state is told
pub named_as : {sp : List (List ℕ)} {tokens : List Token} {types : List (ℕ × Ty)} {i j : Item} {forms table : List Form} {known named : List (ℕ × ℕ)} → j ≡ i → table ≡ forms → named ≡ known
    → IsNamed sp tokens types i forms known → IsNamed sp tokens types j table named
named_as {sp} {tokens} {types} {i} {j} {forms} {table} {known} {named} a b c h =
    subst (λ x. IsNamed sp tokens types x table named) (sym a) (subst (λ x. IsNamed sp tokens types i x named) (sym b) (subst (λ x. IsNamed sp tokens types i forms x) (sym c) h))
