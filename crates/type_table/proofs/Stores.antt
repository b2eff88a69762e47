-- What is kept, with one form more.
use Rattle.std.proofs.Common.{◌≡◌, ℕ, ◌+◌, ◌<◌, ◌≤◌, ◌≢◌, ◌⊎◌, inl, inr, List, [], ◌∷◌, ◌++◌, All, length, map, slice_get, Option, Some, None, IfSome, refl, sym, ap, ◌∙◌, subst, arith, position, bytes_eq, get_or, max, drop, drop-cons, add-one}
use Rattle.std.specs.Option.{option_map}
use Rattle.std.specs.HashMap.{HashMap}
use Rattle.std.specs.Map.{keys_of}
use Rattle.indexmap.specs.IndexMap.{insert_entry}
use Rattle.std.proofs.lemmas.List.{map-append, length-map}
use Rattle.std.proofs.lemmas.Option.{slice_get-map, slice_get_past, same_Some, slice_get_within, get_or_from_slice_get}
use Rattle.type_table.specs.declared.form.Form.{Form}
use Rattle.type_table.specs.declared.form.Member.{Member}
use Rattle.type_table.specs.declared.store.Known.{Known}
use Rattle.type_table.specs.Forms.{deepest, form_depth, first_member, members_of}
use Rattle.type_table.specs.Tables.{depths, members_if, members_at, member_at, HasMember, IsOver, IsWell}
use Rattle.type_table.specs.Keys.{key_of, has_key}
use Rattle.type_table.specs.Kept.{forms_in, place_of, IsKept}
use Rattle.type_table.proofs.Lists.{position-map, which, none_found, insert_last}
use Rattle.type_table.proofs.Members.{IsNoted}
use Rattle.type_table.proofs.Growth.{depths_more, well_more}

module _ {K S : Type 0} {numbers : K → List ℕ} {es : List (K × Known)} {places : HashMap (ℕ × ℕ) ℕ S} (kept : IsKept numbers es places) where
  -- the place of a key
  pub key_place : (key : List ℕ) → position (λ k. bytes_eq key (numbers k)) (keys_of es) ≡ position (has_key key) (forms_in es)
  key_place key =
      sym (position-map (bytes_eq key) numbers (keys_of es))
      ∙ ap (position (bytes_eq key)) kept.keyed
      ∙ position-map (bytes_eq key) key_of (forms_in es)

  -- the depth that is kept
  pub depth_place : (k : ℕ) → option_map (λ e. e.1.depth) (slice_get es k) ≡ slice_get (depths (forms_in es)) k
  depth_place k = sym (slice_get-map (λ e. e.1.depth) es k) ∙ ap (λ ds. slice_get ds k) kept.deep

  pub depth_small : (k : ℕ) (e : K × Known) → slice_get es k ≡ Some e → e.1.depth ≤ 64
  depth_small k e h =
      let is : slice_get (depths (forms_in es)) k ≡ Some e.1.depth = sym (depth_place k) ∙ ap (option_map (λ e. e.1.depth)) h in
      let d = kept.well.shallow k 0 (slice_get_within (depths (forms_in es)) k e.1.depth is) in
      subst (λ n. n ≤ 64) (get_or_from_slice_get (depths (forms_in es)) k e.1.depth 0 is) d

  -- one form more
  pub kept_more : (key : K) (known : Known) (after : HashMap (ℕ × ℕ) ℕ S)
      → numbers key ≡ key_of known.form → known.depth ≡ form_depth (depths (forms_in es)) known.form → known.depth ≤ 64
      → position (has_key (key_of known.form)) (forms_in es) ≡ None → IsOver (length (forms_in es)) known.form → HasMember known.form
      → ((name : ℕ) → IsNoted (place_of after (length es) name) (first_member name 0 (members_of known.form)))
      → ((k name : ℕ) → k ≢ length es → place_of after k name ≡ place_of places k name)
      → IsKept numbers (es ++ (key, known) ∷ []) after
  kept_more key known after keyed deep shallow absent over member here others =
      let fs = forms_in es in
      let f = known.form in
      let e : K × Known = (key, known) in
      let forms : forms_in (es ++ e ∷ []) ≡ fs ++ f ∷ [] = map-append (λ e. e.1.form) es (e ∷ []) in
      record {
        keyed =
            ap (map numbers) (map-append (λ e. e.0) es (e ∷ []))
            ∙ map-append numbers (keys_of es) (key ∷ [])
            ∙ ap (λ l. l ++ numbers key ∷ []) kept.keyed
            ∙ ap (λ l. map key_of fs ++ l ∷ []) keyed
            ∙ sym (map-append key_of fs (f ∷ []))
            ∙ ap (map key_of) (sym forms);
        deep =
            map-append (λ e. e.1.depth) es (e ∷ [])
            ∙ ap (λ l. l ++ known.depth ∷ []) kept.deep
            ∙ ap (λ d. depths fs ++ d ∷ []) deep
            ∙ sym (depths_more fs f)
            ∙ ap depths (sym forms);
        placed = λ k name. subst (λ fs. IsNoted (place_of after k name) (member_at fs k name)) (sym forms) (placed k name);
        well = subst IsWell (sym forms) (well_more fs f kept.well over member absent (subst (λ d. d ≤ 64) deep shallow));
      }
    where
      count : length (forms_in es) ≡ length es
      count = length-map es (λ e. e.1.form)

      at_form : (gs : List Form) (k : ℕ) (o : Option Form) → slice_get gs k ≡ o → members_at gs k ≡ members_if o
      at_form gs k o h = ap members_if h

      old_one : (k name : ℕ) (g : Form) → slice_get (forms_in es ++ known.form ∷ []) k ≡ Some g → slice_get (forms_in es) k ≡ Some g
          → IsNoted (place_of after k name) (member_at (forms_in es ++ known.form ∷ []) k name)
      old_one k name g h is =
          let below : k < length (forms_in es) = slice_get_within (forms_in es) k g is in
          let apart : k ≢ length es = omega (arith, below, count) in
          let same : members_at (forms_in es) k ≡ members_at (forms_in es ++ known.form ∷ []) k = at_form (forms_in es) k (Some g) is ∙ sym (at_form (forms_in es ++ known.form ∷ []) k (Some g) h) in
          let before : IsNoted (place_of places k name) (member_at (forms_in es) k name) = kept.placed k name in
          subst (λ ms. IsNoted (place_of after k name) (first_member name 0 ms)) same
          (subst (λ o. IsNoted o (member_at (forms_in es) k name)) (sym (others k name apart)) before)

      new_one : (k name : ℕ) (g : Form) → slice_get (forms_in es ++ known.form ∷ []) k ≡ Some g → k ≡ length es → known.form ≡ g
          → IsNoted (place_of after k name) (member_at (forms_in es ++ known.form ∷ []) k name)
      new_one k name g h place is =
          subst (λ ms. IsNoted (place_of after k name) (first_member name 0 ms)) (ap members_of is ∙ sym (at_form (forms_in es ++ known.form ∷ []) k (Some g) h))
          (subst (λ n. IsNoted (place_of after n name) (first_member name 0 (members_of known.form))) (sym place) (here name))

      by : (k name : ℕ) (o : Option Form) → slice_get (forms_in es ++ known.form ∷ []) k ≡ o → IsNoted (place_of after k name) (member_at (forms_in es ++ known.form ∷ []) k name)
      by k name None h = subst (λ ms. IsNoted (place_of after k name) (first_member name 0 ms)) (sym (at_form (forms_in es ++ known.form ∷ []) k None h)) tt
      by k name (Some g) h = elim (which (forms_in es) known.form k g h) [
        | inl e ↦ old_one k name g h e.is
        | inr l ↦ new_one k name g h (l.place ∙ count) l.is
      ]

      placed : (k name : ℕ) → IsNoted (place_of after k name) (member_at (forms_in es ++ known.form ∷ []) k name)
      placed k name = by k name _ refl

-- what is kept after a key that was not there is inserted
pub record IsMore {K S : Type 0} (numbers : K → List ℕ) (new : List (K × Known)) (after : HashMap (ℕ × ℕ) ℕ S) (fs : List Form) (f : Form) : Type 0 where
  pub kept : IsKept numbers new after
  pub forms : forms_in new ≡ fs ++ f ∷ []

pub kept_after : {K S : Type 0} (numbers : K → List ℕ) (es new : List (K × Known)) (places after : HashMap (ℕ × ℕ) ℕ S) (fs : List Form) (n : ℕ) (ms : List Member) (key : K) (known : Known)
    → IsKept numbers es places → forms_in es ≡ fs → n ≡ length es → ms ≡ members_of known.form
    → numbers key ≡ key_of known.form → known.depth ≡ form_depth (depths fs) known.form → known.depth ≤ 64
    → position (has_key (key_of known.form)) fs ≡ None → IsOver (length fs) known.form → HasMember known.form
    → ((name : ℕ) → IsNoted (place_of after n name) (first_member name 0 ms))
    → ((k name : ℕ) → k ≢ n → place_of after k name ≡ place_of places k name)
    → new ≡ insert_entry (λ x y. bytes_eq (numbers x) (numbers y)) es key known → IsMore numbers new after fs known.form
kept_after {K} {S} numbers es new places after fs n ms key known kept view count members keyed deep shallow absent over member here others entries =
    let f = known.form in
    let absent_here : position (has_key (key_of f)) (forms_in es) ≡ None = ap (position (has_key (key_of f))) view ∙ absent in
    let no_key : position (λ k. bytes_eq (numbers key) (numbers k)) (keys_of es) ≡ None =
    key_place kept (numbers key) ∙ ap (λ key. position (has_key key) (forms_in es)) keyed ∙ absent_here in
    let last : new ≡ es ++ (key, known) ∷ [] =
    entries ∙ insert_last (λ x y. bytes_eq (numbers x) (numbers y)) key known es (none_found (λ k. bytes_eq (numbers key) (numbers k)) (keys_of es) no_key) in
    record {
      kept =
          subst (λ es. IsKept numbers es after) (sym last)
          (kept_more kept key known after keyed
          (deep ∙ ap (λ fs. form_depth (depths fs) f) (sym view))
          shallow absent_here
          (subst (λ fs. IsOver (length fs) f) (sym view) over)
          member
          (λ name. subst (λ n. IsNoted (place_of after n name) (first_member name 0 (members_of f))) count (subst (λ ms. IsNoted (place_of after n name) (first_member name 0 ms)) members (here name)))
          (λ k name ne. others k name (λ e. ne (e ∙ count))));
      forms = ap forms_in last ∙ map-append (λ e. e.1.form) es ((key, known) ∷ []) ∙ ap (λ fs. fs ++ f ∷ []) view;
    }

-- one member more is looked at
pub deeper : (ds : List ℕ) (ms : List Member) (i most part next total : ℕ) (d : Member) → i < length ms → part ≡ get_or ds (get_or ms i d).ty 0 → next ≡ max part most
    → max most (deepest ds (map (λ m. m.ty) (drop i ms))) ≡ total → max next (deepest ds (map (λ m. m.ty) (drop (i + 1) ms))) ≡ total
deeper ds ms i most part next total d within is now before =
    let m = get_or ms i d in
    let cut : drop i ms ≡ m ∷ drop (i + 1) ms = drop-cons ms i d within ∙ ap (λ k. m ∷ drop k ms) (sym (add-one i)) in
    let all : deepest ds (map (λ m. m.ty) (drop i ms)) ≡ max (get_or ds m.ty 0) (deepest ds (map (λ m. m.ty) (drop (i + 1) ms))) = ap (λ ms. deepest ds (map (λ m. m.ty) ms)) cut in
    omega (arith, all, is, now, before)
