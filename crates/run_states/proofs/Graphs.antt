-- The live graphs of a table stay those of a network, and an entered one is new.
use Rattle.std.proofs.Common.{◌≡◌, ℕ, true, List, [], ◌∷◌, Some, None, ◌⊎◌, inl, inr, refl, sym, ap, ◌∙◌, subst}
use native.Mathlib.Decide.{ℕ_discrete}
use Rattle.graph_meaning.specs.Carried.{Carried}
use Rattle.graph_meaning.specs.Entered.{Item}
use Rattle.graph_meaning.specs.Forms.{Form}
use Rattle.graph_meaning.specs.Demand.{Network, Cut, IsCut, tree}
use Rattle.graph_meaning.proofs.Ranks.{AreRanked, ranked}
use Rattle.run_states.specs.Standing.{Path, plug, State, Waiting, Within, Live, Table, IsStep, with_state, put, or_item}
use Rattle.run_states.specs.Phases.{entered_live}
use Rattle.run_states.specs.Paths.{IsWhole, EntersAt, at_first, at_step, LeadsTo, here, inside}
use Rattle.run_states.specs.Graphs.{IsGraphOf, AreGraphsOf, AreAllGraphsKept, IsEnteredNew}
use Rattle.run_states.proofs.Lookups.{put-same, put-other, some-same, some-none}
use Rattle.run_states.proofs.Items.{or-same, or-cases}
use Rattle.run_states.proofs.Entering.{entered-lives}
use Rattle.run_states.proofs.Phases.{first-is-step, entered-is-step}

module _ (cut : Cut) (u : Network) (g : ℕ) (ins : List Carried) where
  -- the graph of a live one, with the path to it
  abbrev Of : Live → Type 0
  Of x = (h : ℕ) × (is : List Carried) × LeadsTo u g ins x.path h is × IsGraphOf cut u h is x

  as-entered : (p : Path) (h : ℕ) (is : List Carried) → LeadsTo u g ins p h is → Of (entered_live cut u h is p)
  as-entered p h is a = (h, is, a, record { run = refl; labels = refl; waits = refl; last = refl })

  as-moved : (x : Live) (l : ℕ) (s : State) → Of x → Of (with_state x l s)
  as-moved x l s o = let i = o.3 in (o.0, o.1, o.2, record { run = i.run; labels = i.labels; waits = i.waits; last = i.last })

  put-graph : (table : Table) (f : ℕ) (x : Live) → AreGraphsOf cut u g ins table → Of x → AreGraphsOf cut u g ins (put table f (Some x))
  put-graph table f x all own n y is = go (ℕ_discrete n f)
    where
      go : Dec (n ≡ f) → Of y
      go (yes e) = subst Of (some-same x y (sym (ap (put table f (Some x)) e ∙ put-same table f (Some x)) ∙ is)) own
      go (no ne) = all n y (sym (put-other table f (Some x) n ne) ∙ is)

  put-none : (table : Table) (f : ℕ) → AreGraphsOf cut u g ins table → AreGraphsOf cut u g ins (put table f None)
  put-none table f all n y is = go (ℕ_discrete n f)
    where
      go : Dec (n ≡ f) → Of y
      go (yes e) = some-none y is (ap (put table f None) e ∙ put-same table f None)
      go (no ne) = all n y (sym (put-other table f None n ne) ∙ is)

  none-there : AreGraphsOf cut u g ins (λ f. None)
  none-there f x e = absurd (cannot e)
    where
      cannot : None ≡ Some x → ⊥
      cannot e = cc

pub graphs-kept : AreAllGraphsKept
graphs-kept cut u g ins =
    record {
      begun = put-graph cut u g ins (λ f. None) 0 (entered_live cut u g ins []) (none-there cut u g ins) (as-entered cut u g ins [] g ins here);
      moved = λ table f l x s all at. put-graph cut u g ins table f (with_state x l s) all (as-moved cut u g ins x l s (all f x at));
      entered = λ table f l k n x s h j is js form ks e all at path w enters.
          put-graph cut u g ins (put table n (Some (entered_live cut u j js ((l, k) ∷ x.path)))) f (with_state x l s)
          (put-graph cut u g ins table n (entered_live cut u j js ((l, k) ∷ x.path)) all (as-entered cut u g ins ((l, k) ∷ x.path) j js (inside l k e x.path h is form ks j js path w enters)))
          (as-moved cut u g ins x l s (all f x at));
      left = λ table f l n x s all at. put-graph cut u g ins (put table n None) f (with_state x l s) (put-none cut u g ins table n all) (as-moved cut u g ins x l s (all f x at));
    }

-- ---- a new graph

pub entered-step : (cut : Cut) (u : Network) → IsCut cut → AreRanked u → (h : ℕ) (is : List Carried) (l : ℕ) (form : Form) (ks : List Carried) → IsWhole u h is l form ks → (k : ℕ) (e : Item) (j : ℕ) (js : List Carried)
    → EntersAt u form ks l k e j js → IsStep (λ n. tree cut n u h is) (λ n. tree cut n u j js) l k e
entered-step cut u is-cut ready h is l form ks w _ _ _ _ (at_first j js stage e) = first-is-step cut u is-cut ready h is w.node l w.found form ks w.kind w.given j js stage e
entered-step cut u is-cut ready h is l form ks w _ _ _ _ (at_step k t j js stage c) = entered-is-step cut u is-cut ready h is w.node l w.found form ks w.kind w.given k t j js stage c

pub entered-new : IsEnteredNew
entered-new cut u is-cut orderly run c m table root f l k n x h j is js form ks e stands at vacant graph w enters was fresh =
    record {
      vacant = vacant;
      child =
          record {
            path = refl;
            entry = e;
            step = subst (λ r. IsStep r (λ n. tree cut n u j js) l k e) (sym graph.run) (entered-step cut u is-cut (ranked u orderly) h is l form ks w k e j js enters);
            entered = or-same (plug x.path e) m;
          };
      lives = entered-lives cut u is-cut (ranked u orderly) j js ((l, k) ∷ x.path) c (or_item (plug x.path e) m) made fresh;
      none = λ n h i q. not-within h i q;
    }
  where
    made : (i : Item) → or_item (plug x.path e) m i ≡ true → c i ≡ true
    made i h = go (or-cases (plug x.path e) m i h)
      where
        go : (plug x.path e ≡ i) ⊎ (m i ≡ true) → c i ≡ true
        go (inl q) = ap c (sym q) ∙ was
        go (inr q) = stands.made_claimed i q

    not-within : (h i : ℕ) → Waiting ≡ Within h i → ⊥
    not-within h i q = cc
