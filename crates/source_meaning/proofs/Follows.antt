-- What follows the values of a list.
use Rattle.std.proofs.Common.{◌≡◌, ℕ, Bool, true, false, List, [], ◌∷◌, ◌++◌, map, take, length, Option, Some, slice_get, if◌then◌else◌, sym, ap, ◌∙◌, append-nil}
use Rattle.std.specs.Prelude.{option_map}
use Rattle.std.proofs.lemmas.Option.{slice_get-map}
use Rattle.std.proofs.Math.Seq.{take-length, take-append_seam}
use Rattle.flow_value.specs.declared.value.Val.{Val}
use Rattle.typed_tree.specs.declared.expr.TypedExpr.{TypedExpr}
use Rattle.typed_tree.specs.declared.expr.Case.{Case}
use Rattle.source_meaning.specs.declared.state.After.TheVariants as after
use Rattle.source_meaning.specs.declared.state.Frame.{Frame}
use Rattle.meaning.specs.Timed.{andthen}
use Rattle.meaning.specs.Meaning.{all_of, with_content, arm_in, arm_at, meaning, meanings, definitions}
use Rattle.source_meaning.specs.Pending.{Program, Rest, finish}
use Rattle.source_meaning.proofs.Wholes.{whole}
use Rattle.source_meaning.proofs.Laws.{given_then, then_then}

-- ---- definitions

-- those without an expression bring no names
pub no_names : (n : ℕ) (p : Program) (ds : List (List TypedExpr)) (env : List Val) → definitions n p ([] ∷ ds) env ≡ definitions n p ds env
no_names n p ds env = given_then [] (λ vs. definitions n p ds (env ++ vs)) ∙ ap (definitions n p ds) (append-nil env)

-- the first of them, and then the others
pub binds : (n : ℕ) (p : Program) (d : List TypedExpr) (ds : List (List TypedExpr)) (k : Rest) (env : List Val)
    → andthen (definitions n p (d ∷ ds) env) (λ e. k e []) ≡ andthen (meanings n p d env) (λ vs. andthen (definitions n p ds (env ++ vs)) (λ e. k e []))
binds n p d ds k env = then_then (meanings n p d env) (λ vs. definitions n p ds (env ++ vs)) (λ e. k e [])

-- none are left
pub bound : (n : ℕ) (p : Program) (k : Rest) (env : List Val) → andthen (definitions n p [] env) (λ e. k e []) ≡ k env []
bound n p k env = given_then env (λ e. k e [])

-- ---- arms of a union

-- the content is cut off again
cut : (b : Bool) (v : Val) (env : List Val) (m : ℕ) → m ≡ length env → take m (if b then env ++ v ∷ [] else env) ≡ env
cut true v env m h = ap (λ i. take i (env ++ v ∷ [])) h ∙ take-append_seam env (v ∷ [])
cut false v env m h = ap (λ i. take i env) h ∙ take-length env

content_cut : (named place : ℕ) (v : Val) (env : List Val) (m : ℕ) → m ≡ length env → take m (with_content named place v env) ≡ env
content_cut named place v env m h = cut _ v env m h

arm_get : (n : ℕ) (p : Program) (arms : List (List TypedExpr)) (place : ℕ) (o : Option (List TypedExpr)) → slice_get arms place ≡ o
    → slice_get (map all_of (map (map (meaning n p)) arms)) place ≡ option_map all_of (option_map (map (meaning n p)) o)
arm_get n p arms place o h =
    slice_get-map all_of (map (map (meaning n p)) arms) place ∙ ap (option_map all_of) (slice_get-map (map (meaning n p)) arms place ∙ ap (option_map (map (meaning n p))) h)

-- the arm at a place
pub arm_is : (n : ℕ) (p : Program) (c : Case) (results : ℕ) (arms : List (List TypedExpr)) (place : ℕ) (v : Val) (env : List Val) (k : Rest) (m : ℕ) (arm : List TypedExpr) → slice_get arms place ≡ Some arm → m ≡ length env
    → andthen (meanings n p arm (with_content c.named place v env)) (finish n p (after.Unbind m) k (with_content c.named place v env))
    ≡ andthen (arm_at c results (map all_of (map (map (meaning n p)) arms)) place v env) (k env)
arm_is n p c results arms place v env k m arm e h =
    ap (λ x. andthen (meanings n p arm (with_content c.named place v env)) (k x)) (content_cut c.named place v env m h)
    ∙ sym (ap (λ o. andthen (arm_in c results o place v env) (k env)) (arm_get n p arms place (Some arm) e))

-- the same work under other names of its parts
pub whole_as : (n : ℕ) (p : Program) (s t : ℕ) (fs : List Frame) (env now vs more : List Val) → t ≡ s → now ≡ env → more ≡ vs → whole n p s fs env vs ≡ whole n p t fs now more
whole_as n p s t fs env now vs more h i j =
    sym (ap (λ x. whole n p x fs now more) h ∙ ap (λ x. whole n p s fs x more) i ∙ ap (whole n p s fs env) j)
