-- The functions of a unit are those of its items, one after another.
use Rattle.std.proofs.Common.{◌≡◌, ℕ, zero, suc, Bool, true, false, cond, List, [], ◌∷◌, ◌++◌, map, filter, Contains, refl, sym, ap, subst, ◌∙◌, arith, ◌⊎◌, inl, inr, Some, slice_get}
use Rattle.flow_value.specs.declared.ty.Ty.{Ty}
use Rattle.sisal_tree.specs.declared.unit.Written.{Written}
use Rattle.sisal_tree.specs.declared.unit.Field.{Field}
use Rattle.sisal_tree.specs.declared.unit.Header.{Header}
use Rattle.sisal_tree.specs.declared.unit.FunDef.{FunDef}
use Rattle.sisal_tree.specs.declared.unit.Item.{Item}
use Rattle.sisal_tree.specs.declared.unit.Unit as tree
use Rattle.typed_tree.specs.Scopes.{AreDistinct}
use Rattle.typed_tree.specs.Typing.{Signature, names_of}
use Rattle.typed_tree.specs.Units.{is_given, Declared, given, signatures, written, denotes, HasParams, no_field, a_field, HasResults, no_result, a_result, IsHeader, Declares, no_item, a_type, a_function}
use Rattle.typed_tree.specs.Faults.{functions, given_names}
use Rattle.typing_unique.proofs.UOne.{one_denoted}

-- ---- elements of lists

pub first_there : {A : Type 0} (x : A) (xs : List A) → Contains (x ∷ xs) x
first_there x xs = (0, omega arith, refl)

pub later_there : {A : Type 0} (x y : A) (xs : List A) → Contains xs x → Contains (y ∷ xs) x
later_there x y xs h = (suc h.0, omega (arith, h.1), h.2)

pub there_cases : {A : Type 0} (x y : A) (xs : List A) → Contains (y ∷ xs) x → (y ≡ x) ⊎ Contains xs x
there_cases x y xs (zero, l, e) = inl e
there_cases x y xs (suc k, l, e) = inr (k, omega arith, e)

pub none_there : {A : Type 0} (x : A) → Contains [] x → ⊥
none_there x (k, l, e) = omega arith

pub map_there : {A B : Type 0} (f : A → B) (x : A) (xs : List A) → Contains xs x → Contains (map f xs) (f x)
map_there f x [] h = absurd (none_there x h)
map_there f x (y ∷ ys) h = by (there_cases x y ys h) (map_there f x ys)
  where
    by : (y ≡ x) ⊎ Contains ys x → (Contains ys x → Contains (map f ys) (f x)) → Contains (f y ∷ map f ys) (f x)
    by (inl e) rest = subst (λ z. Contains (z ∷ map f ys) (f x)) (ap f (sym e)) (first_there (f x) (map f ys))
    by (inr c) rest = later_there (f x) (f y) (map f ys) (rest c)

pub got_there : {A : Type 0} (x : A) (xs : List A) (n : ℕ) → slice_get xs n ≡ Some x → Contains xs x
got_there x [] n e = cc
got_there x (y ∷ ys) zero e = let same : y ≡ x = cc in subst (λ z. Contains (z ∷ ys) x) (sym same) (first_there x ys)
got_there x (y ∷ ys) (suc n) e = later_there x y ys (got_there x ys n e)

-- what a filter keeps
filter_if : {A : Type 0} (p : A → Bool) (x y : A) (b : Bool) (ys kept : List A) → (Contains kept x → Contains ys x) → Contains (cond b (y ∷ kept) kept) x → Contains (y ∷ ys) x
filter_if p x y true ys kept rest h = by (there_cases x y kept h)
  where
    by : (y ≡ x) ⊎ Contains kept x → Contains (y ∷ ys) x
    by (inl e) = subst (λ z. Contains (z ∷ ys) x) (sym e) (first_there x ys)
    by (inr c) = later_there x y ys (rest c)
filter_if p x y false ys kept rest h = later_there x y ys (rest h)

pub filter_there : {A : Type 0} (p : A → Bool) (x : A) (xs : List A) → Contains (filter p xs) x → Contains xs x
filter_there p x [] h = h
filter_there p x (y ∷ ys) h = filter_if p x y (p y) ys (filter p ys) (filter_there p x ys) h

keeps_if : {A : Type 0} (p : A → Bool) (x y : A) (b : Bool) (kept : List A) → (y ≡ x → b ≡ true) → (y ≡ x) ⊎ Contains kept x → Contains (cond b (y ∷ kept) kept) x
keeps_if p x y true kept q (inl e) = subst (λ z. Contains (z ∷ kept) x) (sym e) (first_there x kept)
keeps_if p x y true kept q (inr c) = later_there x y kept c
keeps_if p x y false kept q (inl e) = let no : false ≡ true = q e in cc
keeps_if p x y false kept q (inr c) = c

pub kept_there : {A : Type 0} (p : A → Bool) (x : A) (xs : List A) → p x ≡ true → Contains xs x → Contains (filter p xs) x
kept_there p x [] q h = h
kept_there p x (y ∷ ys) q h = keeps_if p x y (p y) (filter p ys) (λ e. ap p e ∙ q) (rest (there_cases x y ys h) (kept_there p x ys q))
  where
    rest : (y ≡ x) ⊎ Contains ys x → (Contains ys x → Contains (filter p ys) x) → (y ≡ x) ⊎ Contains (filter p ys) x
    rest (inl e) f = inl e
    rest (inr c) f = inr (f c)

-- ---- functions of one name

pub same_named : (ss : List Signature) (s r : Signature) → AreDistinct (map (λ s. s.name) ss) → Contains ss s → Contains ss r → s.name ≡ r.name → s ≡ r
same_named [] s r d h k e = absurd (none_there s h)
same_named (x ∷ xs) s r d h k e = by (there_cases s x xs h) (there_cases r x xs k) (λ a b. same_named xs s r d.1 a b e)
  where
    by : (x ≡ s) ⊎ Contains xs s → (x ≡ r) ⊎ Contains xs r → (Contains xs s → Contains xs r → s ≡ r) → s ≡ r
    by (inl p) (inl q) rest = sym p ∙ q
    by (inl p) (inr q) rest = absurd (d.0 (subst (Contains (map (λ s. s.name) xs)) (sym e ∙ ap (λ s. s.name) (sym p)) (map_there (λ s. s.name) r xs q)))
    by (inr p) (inl q) rest = absurd (d.0 (subst (Contains (map (λ s. s.name) xs)) (e ∙ ap (λ s. s.name) (sym q)) (map_there (λ s. s.name) s xs p)))
    by (inr p) (inr q) rest = rest p q

module _ (u : tree.Unit) where
  pub one_type : (types : List (ℕ × Ty)) (w : Written) (a b : Ty) → denotes u types w a → denotes u types w b → a ≡ b
  one_type types w a b d e = one_denoted u.tokens.names types (written u w) a b d e

  -- ---- one header

  one_params : (types : List (ℕ × Ty)) (fs : List Field) (xs ys : List ℕ) (tys others : List Ty) → HasParams u types fs xs tys → HasParams u types fs ys others
      → (xs ≡ ys) × (tys ≡ others)
  one_params types _ _ ys _ others no_field no_field = (refl, refl)
  one_params types _ _ _ _ _ (a_field {f = f} {a = a} {fs = fs} {xs = xs} {tys = tys} d p) (a_field {a = b} {xs = ys} {tys = others} e q) =
      let r = one_params types fs xs ys tys others p q in
      (ap (λ l. names_of f.names ++ l) r.0, ap (λ c. map (λ n. c) f.names ++ tys) (one_type types f.ty a b d e) ∙ ap (λ l. map (λ n. b) f.names ++ l) r.1)

  one_results : (types : List (ℕ × Ty)) (ws : List Written) (tys others : List Ty) → HasResults u types ws tys → HasResults u types ws others → tys ≡ others
  one_results types _ _ _ no_result no_result = refl
  one_results types _ _ _ (a_result {w = w} {a = a} {ws = ws} {tys = tys} d p) (a_result {a = b} {tys = others} e q) =
      ap (λ c. c ∷ tys) (one_type types w a b d e) ∙ ap (λ l. b ∷ l) (one_results types ws tys others p q)

  same_signature : (s r : Signature) → s.name ≡ r.name → s.parameters ≡ r.parameters → s.params ≡ r.params → s.results ≡ r.results → s ≡ r
  same_signature s r a b c d = λ i. record { name = a i; parameters = b i; params = c i; results = d i }

  one_header : (types : List (ℕ × Ty)) (h : Header) (s r : Signature) → IsHeader u types h s → IsHeader u types h r → s ≡ r
  one_header types h s r p q =
      let both = one_params types h.params s.parameters r.parameters s.params r.params p.params q.params in
      same_signature s r (p.named ∙ sym q.named) both.0 both.1 (one_results types h.results s.results r.results p.results q.results)

  -- ---- one list of functions

  pub one_declares : (types : List (ℕ × Ty)) (items : List Item) (ds es : List Declared) → Declares u types items ds → Declares u types items es → ds ≡ es
  one_declares types _ _ _ no_item no_item = refl
  one_declares types _ ds es (a_type {d = d} {a = a} {items = items} e n p) (a_type {a = b} f m q) =
      one_declares ((d.name, a) ∷ types) items ds es p (subst (λ c. Declares u ((d.name, c) ∷ types) items es) (one_type types d.ty b a f e) q)
  one_declares types _ _ _ (a_function {f = f} {s = s} {items = items} {ds = ds} h p) (a_function {s = r} {ds = es} k q) =
      ap (λ x. record { function = f; types = types; signature = x } ∷ ds) (one_header types f.header s r h k)
      ∙ ap (λ l. record { function = f; types = types; signature = r } ∷ l) (one_declares types items ds es p q)

  -- ---- functions of items

  names_if : (b : Bool) (d : Declared) (f : FunDef) (ds : List Declared) (fs : List FunDef) → d.signature.name ≡ f.header.name.name
      → map (λ s. s.name) (map (λ d. d.signature) ds) ≡ names_of (map (λ f. f.header.name) fs)
      → map (λ s. s.name) (map (λ d. d.signature) (cond b (d ∷ ds) ds)) ≡ names_of (map (λ f. f.header.name) (cond b (f ∷ fs) fs))
  names_if true d f ds fs e rest = ap (λ x. x ∷ map (λ s. s.name) (map (λ d. d.signature) ds)) e ∙ ap (λ l. f.header.name.name ∷ l) rest
  names_if false d f ds fs e rest = rest

  pub names_are : (types : List (ℕ × Ty)) (items : List Item) (ds : List Declared) → Declares u types items ds → map (λ s. s.name) (signatures ds) ≡ names_of (given_names items)
  names_are types _ _ no_item = refl
  names_are types _ ds (a_type {d = d} {a = a} {items = items} e n p) = names_are ((d.name, a) ∷ types) items ds p
  names_are types _ _ (a_function {f = f} {s = s} {items = items} {ds = ds} h p) =
      names_if (is_given f) (record { function = f; types = types; signature = s }) f (given ds) (filter is_given (functions items)) h.named (names_are types items ds p)

  -- a function of the items is declared
  pub record IsDeclared (ds : List Declared) (f : FunDef) : Type 0 where
    pub declared : Declared
    pub there : Contains ds declared
    pub is : declared.function ≡ f
    pub named : declared.signature.name ≡ f.header.name.name

  declared_later : (d : Declared) (ds : List Declared) (f : FunDef) → IsDeclared ds f → IsDeclared (d ∷ ds) f
  declared_later d ds f p = record { declared = p.declared; there = later_there p.declared d ds p.there; is = p.is; named = p.named }

  declared_if : (d : Declared) (ds : List Declared) (f : FunDef) (fs : List FunDef) → d.signature.name ≡ d.function.header.name.name
      → (Contains fs f → IsDeclared ds f) → (d.function ≡ f) ⊎ Contains fs f → IsDeclared (d ∷ ds) f
  declared_if d ds f fs e rest (inl q) = record { declared = d; there = first_there d ds; is = q; named = e ∙ ap (λ g. g.header.name.name) q }
  declared_if d ds f fs e rest (inr c) = declared_later d ds f (rest c)

  pub is_declared : (types : List (ℕ × Ty)) (items : List Item) (ds : List Declared) (f : FunDef) → Declares u types items ds → Contains (functions items) f → IsDeclared ds f
  is_declared types _ _ f no_item c = absurd (none_there f c)
  is_declared types _ ds f (a_type {d = d} {a = a} {items = items} e n p) c = is_declared ((d.name, a) ∷ types) items ds f p c
  is_declared types _ _ f (a_function {f = g} {s = s} {items = items} {ds = ds} h p) c =
      declared_if (record { function = g; types = types; signature = s }) ds f (functions items) h.named (is_declared types items ds f p) (there_cases f g (functions items) c)

  -- what is declared is a function of the items
  pub is_function : (types : List (ℕ × Ty)) (items : List Item) (ds : List Declared) (d : Declared) → Declares u types items ds → Contains ds d
      → Contains (functions items) d.function × (d.signature.name ≡ d.function.header.name.name)
  is_function types _ _ d no_item c = absurd (none_there d c)
  is_function types _ ds d (a_type {d = t} {a = a} {items = items} e n p) c = is_function ((t.name, a) ∷ types) items ds d p c
  is_function types _ _ d (a_function {f = g} {s = s} {items = items} {ds = ds} h p) c = by (there_cases d (record { function = g; types = types; signature = s }) ds c) (is_function types items ds d p)
    where
      by : ((record { function = g; types = types; signature = s }) ≡ d) ⊎ Contains ds d
          → (Contains ds d → Contains (functions items) d.function × (d.signature.name ≡ d.function.header.name.name))
          → Contains (g ∷ functions items) d.function × (d.signature.name ≡ d.function.header.name.name)
      by (inl q) rest =
          subst (λ d. Contains (g ∷ functions items) d.function × (d.signature.name ≡ d.function.header.name.name)) q (first_there g (functions items), h.named)
      by (inr k) rest = let r = rest k in (later_there d.function g (functions items) r.0, r.1)
