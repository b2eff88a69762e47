-- Lists of phrases, definitions, names, constants, calls and `if` obey the rules.
use Rattle.std.proofs.Common.{◌≡◌, ℕ, zero, suc, ◌+◌, ◌-◌, ◌≤◌, List, [], ◌∷◌, ◌++◌, map, length, slice_get, Some, refl, sym, ap, subst, ◌∙◌, arith}
use Rattle.std.specs.Prelude.{option_map}
use Rattle.std.proofs.lemmas.List.{length-map, append_assoc, append-nil}
use Rattle.std.proofs.lemmas.Option.{same_Some}
use Rattle.flow_value.specs.declared.ty.Ty.{Ty}
use Rattle.flow_value.specs.declared.ty.Ty.TheVariants as ty
use Rattle.flow_value.specs.declared.operation.Scalar1.TheVariants as unary
use Rattle.if1_graph.specs.declared.op.Simple.TheVariants as simple
use Rattle.if1_graph.specs.Tables.{◌>>=◌, at_port}
use Rattle.if1_graph.specs.Types.{Sort, Plain}
use Rattle.if1_graph.specs.Ports.{AreFirst, AreArguments, IsUpTo, count_from, arguments_of, results_of}
use Rattle.if1_graph.specs.Typing.{Known}
use Rattle.sisal_tree.specs.declared.expr.Constant.{Constant}
use Rattle.typed_tree.specs.Types.{AreNumbers}
use Rattle.lowering_meaning.specs.FittingTreesFitting.{Header}
use Rattle.lowering.specs.declared.feed.Feed.TheVariants.{Literal}
use Rattle.lowering.specs.declared.feed.Carried.{Carried}
use Rattle.lowering.specs.declared.feed.Carried.TheVariants.{One}
use Rattle.lowering.specs.declared.feed.Wire.{Wire}
use Rattle.lowering.specs.Feeds.{wire}
use Rattle.lowering.specs.declared.graph.Action.TheVariants.{Call}
use Rattle.lowering.specs.Graphs.{Lowering, node, only, andthen, a_node, closed_wires}
use Rattle.lowering.specs.Operations.{Lowers, integer, one, all_lowered, defs_lowered, body_lowered, wire_at, row_lowered}
use Rattle.lowering.specs.Choices.{selector_lowered}
use Rattle.lowering.specs.Phrases.{call_lowered}
use Rattle.lowering_meaning.proofs.Wired.{typed-both, typed-at, typed-ports}
use Rattle.lowered_ready.specs.Ports.{Outs, filled_from, AreGiven}
use Rattle.lowered_ready.proofs.Scopes.{Level, level, in-both, in-at, all-more}
use Rattle.lowered_ready.proofs.Made as made
use Rattle.lowered_ready.proofs.RuleSorting.{AreFit, AreSorted, closed-sorted, filled-sorted, fit-wanted, sorted, plain, plain-sorts, first-ports}
use Rattle.lowered_ready.proofs.Rows.{Takes}
use Rattle.lowered_ready.proofs.Rows as rows
use Rattle.lowered_ready.proofs.World.{World, Which, Of, In, Does, To, AllTo, to_none, to_more, DefsTo, to_no_def, to_def, Stands, row-does}
use Rattle.lowered_ready.proofs.Wholes.{sorts_of}

module _ (x : World) where
  -- ---- one after another

  pub then-does : (p : Which) (own : List Carried) (before : List Outs) (ls : List Level) (tys others : List Ty) (f : Lowering) (h : List Wire → Lowering) → Does x p own before ls (Of x tys) f
      → ((more : List Outs) (ws : List Wire) → In x (level own (before ++ more) ∷ ls) ws → Of x tys ws → Does x p own (before ++ more) ls (Of x others) (h ws)) → Does x p own before ls (Of x others) (andthen f h)
  then-does p own before ls tys others f h a b = made.then-does x.forms x.names x.sort x.at p own before ls (Of x tys) (Of x others) f h a b

  pub only-does : (p : Which) (own : List Carried) (before : List Outs) (ls : List Level) (tys : List Ty) (ws : List Wire) → In x (level own before ∷ ls) ws → Of x tys ws → Does x p own before ls (Of x tys) (only ws)
  only-does p own before ls tys ws a t = made.only-does x.forms x.names x.sort x.at p own before ls (Of x tys) ws a t

  pub more-in : (own : List Carried) (before more : List Outs) (ls : List Level) (ws : List Wire) → In x (level own before ∷ ls) ws → In x (level own (before ++ more) ∷ ls) ws
  more-in own before more ls ws a = all-more x.forms x.names own before more ls ws a

  pub both-in : (ls : List Level) (vs ws : List Wire) → In x ls vs → In x ls ws → In x ls (vs ++ ws)
  both-in ls vs ws a b = in-both x.forms x.names ls vs ws a b

  pub both-of : (vs ws : List Wire) (tys others : List Ty) → Of x tys vs → Of x others ws → Of x (tys ++ others) (vs ++ ws)
  both-of vs ws tys others a b = typed-both x.forms x.names vs ws tys others a b

  pub all-does : (γ : List Ty) (gs : List Lowers) (tys : List Ty) → AllTo x γ gs tys → To x γ tys (all_lowered gs)
  all-does _ _ _ (to_none γ) p own before ls env t a = only-does p own before ls [] [] tt tt
  all-does _ _ _ (to_more γ g gs tys others h r) p own before ls env t a =
      then-does p own before ls tys (tys ++ others) (g env) (λ vs. andthen (all_lowered gs env) (λ ws. only (vs ++ ws))) (h p own before ls env t a)
      (λ more vs av tv.
      then-does p own (before ++ more) ls others (tys ++ others) (all_lowered gs env) (λ ws. only (vs ++ ws)) (all-does γ gs others r p own (before ++ more) ls env t (more-in own before more ls env a))
      (λ later ws aw tw.
      only-does p own ((before ++ more) ++ later) ls (tys ++ others) (vs ++ ws) (both-in (level own ((before ++ more) ++ later) ∷ ls) vs ws (more-in own (before ++ more) later ls vs av) aw) (both-of vs ws tys others tv tw)))

  -- the names in force, and those that are defined
  pub defs-does : (γ : List Ty) (ds : List (List Lowers)) (δ : List Ty) → DefsTo x γ ds δ → To x γ (γ ++ δ) (defs_lowered ds)
  defs-does _ _ _ (to_no_def γ) p own before ls env t a = only-does p own before ls (γ ++ []) env a (subst (λ u. Of x u env) (sym (append-nil γ)) t)
  defs-does _ _ _ (to_def γ d ds tys others h r) p own before ls env t a =
      then-does p own before ls tys (γ ++ (tys ++ others)) (all_lowered d env) (λ vs. defs_lowered ds (env ++ vs)) (all-does γ d tys h p own before ls env t a)
      (λ more vs av tv.
      subst (λ u. Does x p own (before ++ more) ls (Of x u) (defs_lowered ds (env ++ vs))) (append_assoc γ tys others)
      (defs-does (γ ++ tys) ds others r p own (before ++ more) ls (env ++ vs) (both-of env vs γ tys t tv) (both-in (level own (before ++ more) ∷ ls) env vs (more-in own before more ls env a) av)))

  pub body-does : (γ δ tys : List Ty) (ds : List (List Lowers)) (gs : List Lowers) → DefsTo x γ ds δ → AllTo x (γ ++ δ) gs tys → To x γ tys (body_lowered ds gs)
  body-does γ δ tys ds gs d h p own before ls env t a =
      then-does p own before ls (γ ++ δ) tys (defs_lowered ds env) (all_lowered gs) (defs-does γ ds δ d p own before ls env t a)
      (λ more e ae te. all-does (γ ++ δ) gs tys h p own (before ++ more) ls e te ae)

  -- ---- names and constants

  pub name-does : (γ : List Ty) (level' : ℕ) (a : Ty) → slice_get γ level' ≡ Some a → To x γ (a ∷ []) (λ env. only (wire_at env level' ∷ []))
  name-does γ n a e p own before ls env t i = only-does p own before ls (a ∷ []) (wire_at env n ∷ []) (in-at x.forms x.names (level own before ∷ ls) env n i, tt) (typed-at x.forms x.names env γ t n a e, tt)

  pub literal-does : (γ : List Ty) (c : Constant) (n : ℕ) (a : Ty) → AreNumbers x.forms x.names (n ∷ []) (a ∷ []) → To x γ (a ∷ []) (λ env. only (wire (Literal c) (One n) ∷ []))
  literal-does γ c n a h p own before ls env t i = only-does p own before ls (a ∷ []) (wire (Literal c) (One n) ∷ []) (tt, tt) ((h.0, tt), tt)

  pub int-is : Plain (x.bare ty.Int) ≡ Plain ty.Int
  int-is = ap Plain x.sorting.int

  pub bool-is : Plain (x.bare ty.Bool) ≡ Plain ty.Bool
  bool-is = ap Plain x.sorting.bool

  pub char-is : Plain (x.bare ty.Char) ≡ Plain ty.Char
  char-is = ap Plain x.sorting.char

  -- the integer 1
  pub one-typed : Of x (ty.Int ∷ []) (one ∷ [])
  one-typed = ((x.integers, tt), tt)

  -- ---- calls

  arguments-fit : (k : Known) (all : List Ty) (i : ℕ) (args : List Ty) → arguments_of k.callee ≡ Some (map x.bare all) → ((j : ℕ) → slice_get (map x.bare args) j ≡ slice_get (map x.bare all) (i + j)) → AreFit k simple.Call (suc (suc i)) (sorts_of x args)
  arguments-fit k all i [] e h = tt
  arguments-fit k all i (a ∷ args) e h =
      let z : i + 0 ≡ i = omega arith in
      let y : suc i ≡ suc (suc i) - 1 = omega arith in (
        (x.bare a, ap (λ o. o >>= at_port (suc (suc i) - 1)) e ∙ ap (λ n. at_port n (map x.bare all)) (sym y) ∙ ap (slice_get (map x.bare all)) (sym z) ∙ sym (h 0), refl),
        arguments-fit k all (suc i) args e (λ j. let w : i + suc j ≡ suc i + j = omega arith in h (suc j) ∙ ap (slice_get (map x.bare all)) w),
      )

  results-fit : (k : Known) (all : List Ty) (i : ℕ) (ns : List ℕ) (rs : List Ty) → results_of k.callee ≡ Some (map x.bare all) → AreNumbers x.forms x.names ns rs → ((j : ℕ) → slice_get (map x.bare rs) j ≡ slice_get (map x.bare all) (i + j))
      → i + length rs ≤ length (map x.bare all) → AreGiven x.sort k simple.Call (suc i) (map One ns)
  results-fit k all i [] rs e n h l = tt
  results-fit k all i (m ∷ ns) [] e n h l = absurd n
  results-fit k all i (m ∷ ns) (r ∷ rs) e n h l =
      let z : i + 0 ≡ i = omega arith in (
        (
          subst (λ o. IsUpTo (option_map length o) (suc i)) (sym e) (omega (arith, l)),
          (x.bare r, ap (λ o. o >>= at_port (suc i)) e ∙ ap (slice_get (map x.bare all)) (sym z) ∙ sym (h 0), x.sorting.values m r n.0),
        ),
        results-fit k all (suc i) ns rs e n.1 (λ j. let w : i + suc j ≡ suc i + j = omega arith in h (suc j) ∙ ap (slice_get (map x.bare all)) w) (omega (arith, l)),
      )

  shift-all : {A : Type 0} (xs : List A) (j : ℕ) → slice_get xs j ≡ slice_get xs (0 + j)
  shift-all xs j = let z : j ≡ 0 + j = omega arith in ap (slice_get xs) z

  pub call-right : (p : Which) (f : ℕ) (h : Header) (ws : List Wire) (ns : List ℕ) → slice_get x.hs f ≡ Some h → Of x h.params ws → AreNumbers x.forms x.names ns h.results
      → made.IsRight x.forms x.names x.sort x.at p (node (Call f) ws) (record { port = 1; types = map One ns })
  call-right p f h ws ns there t num ks first own =
      let vs = closed_wires ks first own ws in
      let ss = sorts_of x h.params in
      let g = closed-sorted x.sort ks first own ws ss (sorted x.forms x.names x.hs x.bare x.sort x.sorting ws h.params ss t (plain-sorts x.forms x.names x.hs x.bare x.sort x.sorting h.params)) in
      let fun = x.sorting.callees f h there in
      let many : length ss ≡ length (map x.bare h.params) = length-map h.params (plain x.forms x.names x.hs x.bare x.sort x.sorting) ∙ sym (length-map h.params x.bare) in
      let next : suc (length ss) ≡ 1 + length (map x.bare h.params) = omega (arith, many) in
      record {
        wanted = λ k i.
            fit-wanted x.sort k simple.Call 2 vs ss g
            (arguments-fit k h.params 0 h.params (ap arguments_of (i.name ∙ ap Some fun)) (shift-all (map x.bare h.params)));
        gives = λ k i. results-fit k h.results 0 ns h.results (ap results_of (i.name ∙ ap Some fun)) num (shift-all (map x.bare h.results)) (omega (arith, length-map h.results x.bare));
        ports = λ k i.
            subst (λ o. AreArguments 1 o (1 ∷ filled_from 2 vs)) (sym (ap arguments_of (i.name ∙ ap Some fun)))
            (subst (λ l. AreFirst (1 + length (map x.bare h.params)) (1 ∷ l)) (sym (filled-sorted x.sort 2 vs ss g))
            (subst (λ n. AreFirst n (1 ∷ count_from 2 (length ss))) next (first-ports (suc (length ss)))));
        bound = tt;
        name = (map x.bare h.params, map x.bare h.results, ap Some fun);
        place = tt;
      }

  pub call-does : (γ : List Ty) (f : ℕ) (h : Header) (gs : List Lowers) (ns : List ℕ) → slice_get x.hs f ≡ Some h → AllTo x γ gs h.params → AreNumbers x.forms x.names ns h.results → To x γ h.results (call_lowered f gs ns)
  call-does γ f h gs ns there g num p own before ls env t a =
      then-does p own before ls h.params h.results (all_lowered gs env) (λ ws. a_node (Call f) ws 1 (map One ns)) (all-does γ gs h.params g p own before ls env t a)
      (λ more ws aw tw.
      made.node-does x.forms x.names x.sort x.at p own (before ++ more) ls (Of x h.results) (Call f) ws 1 (map One ns) (call-right p f h ws ns there tw num) (λ ks first shift. tt) aw
      (typed-ports x.forms x.names ns h.results num (suc (length (before ++ more))) 1))

  -- ---- `if`

  -- a row of scalars, which stands anywhere
  pub plain-stands : (p : Which) (ws : List Wire) (c : Carried) → Stands x p (simple.One unary.Int) ws c
  plain-stands p ws c = record { place = tt; one = λ k. omega arith; bound = λ ks first own. tt; name = λ ks first own. tt }

  pub selector-does : (γ : List Ty) (ts : List Lowers) → AllTo x γ ts (ty.Bool ∷ []) → To x γ (ty.Int ∷ []) (selector_lowered ts)
  selector-does γ ts h p own before ls env t a =
      then-does p own before ls (ty.Bool ∷ []) (ty.Int ∷ []) (all_lowered ts env) (λ ws. row_lowered (simple.One unary.Int) ws (integer ∷ [])) (all-does γ ts (ty.Bool ∷ []) h p own before ls env t a)
      (λ more ws aw tw.
      row-does x p own (before ++ more) ls (simple.One unary.Int) ws (Plain ty.Bool ∷ []) integer ty.Int (Plain ty.Int) (sorted x.forms x.names x.hs x.bare x.sort x.sorting ws (ty.Bool ∷ []) (Plain ty.Bool ∷ []) tw (bool-is, tt)) rows.int-of-bool int-is x.integers
      (plain-stands p ws (One integer)) aw)

  -- values of these types fill results of these sorts, however a graph is closed
  pub results-sorted : (ks : List Wire) (first own : ℕ) (ws : List Wire) (tys : List Ty) → Of x tys ws → AreSorted x.sort (closed_wires ks first own ws) (sorts_of x tys)
  results-sorted ks first own ws tys t =
      closed-sorted x.sort ks first own ws (sorts_of x tys) (sorted x.forms x.names x.hs x.bare x.sort x.sorting ws tys (sorts_of x tys) t (plain-sorts x.forms x.names x.hs x.bare x.sort x.sorting tys))

  pub sorts-plain : (tys : List Ty) (i : ℕ) (s : Sort) → slice_get (sorts_of x tys) i ≡ Some s → (t : Ty) × (s ≡ Plain t)
  sorts-plain [] i s e = absurd cc
  sorts-plain (t ∷ tys) zero s e = (x.bare t, sym (same_Some (Plain (x.bare t)) s e))
  sorts-plain (t ∷ tys) (suc i) s e = sorts-plain tys i s e
