-- Each step of a walk keeps what the walk knows.
use Rattle.std.proofs.Common.{◌≡◌, ◌≢◌, ℕ, zero, suc, ◌+◌, ◌-◌, ◌<◌, ◌≤◌, List, [], ◌∷◌, ◌++◌, length, set, get_or, replicate, inl, inr, Contains, All, arith, refl, sym, ap, subst, ◌∙◌}
use Rattle.std.specs.List.{sum_by}
use Rattle.std.proofs.lemmas.Bool.{cases_lt, cases_eq}
use Rattle.std.proofs.lemmas.List.{length-set, length_push, length-replicate, get_or-set_same, get_or-set_other, get_or_append_left, get_or_push, get_or_default, get_or-replicate, take_at, take-append-le}
use Rattle.std.proofs.lemmas.List.Sums.{sum_by-set}
use Rattle.std.proofs.lemmas.List.Elements.{All-push, All-contains, All-nil, Contains-get_or, Contains-push, Contains-push_cases, Contains-append_left}
use Rattle.if1_graph.specs.Formed.{IsOnce}
use Rattle.if1_order.specs.declared.walk.Mark.{Mark}
use Rattle.if1_order.specs.declared.walk.Mark.TheVariants.{Fresh, Open, Done}
use Rattle.if1_order.specs.declared.walk.Walk.{Walk}
use Rattle.if1_order.specs.Walks.{Lists, feeders_of, AreInside, Leads, step, onward, Means, mark_of, IsPath, IsWalk, IsWalkTo, weight, unseen, HasMet, GoesOn, Ends}
use Rattle.if1_order.proofs.Members.{contains_here, contains_there, contains_cases, contains_none}

-- ---- lists

pub same_contained : (xs : List ℕ) {x y : ℕ} → x ≡ y → Contains xs x → Contains xs y
same_contained xs e h = subst (λ z. Contains xs z) e h

pub list_contained : {xs ys : List ℕ} (x : ℕ) → xs ≡ ys → Contains xs x → Contains ys x
list_contained x e h = subst (λ zs. Contains zs x) e h

pub once_push : (xs : List ℕ) (x : ℕ) → IsOnce xs → ¬ Contains xs x → IsOnce (xs ++ x ∷ [])
once_push [] x once new = (λ h. contains_none x h, tt)
once_push (y ∷ xs) x once new = (
  λ h. elim (Contains-push_cases xs x y h) [ inl i ↦ once.0 i | inr e ↦ new (same_contained (y ∷ xs) (sym e) (contains_here y xs)) ],
  once_push xs x once.1 (λ h. new (contains_there y xs x h)),
)

pub once_front : (xs : List ℕ) (x : ℕ) → IsOnce (xs ++ x ∷ []) → IsOnce xs × (¬ Contains xs x)
once_front [] x once = (tt, λ h. contains_none x h)
once_front (y ∷ xs) x once =
    let r = once_front xs x once.1 in (
      (λ h. once.0 (Contains-append_left xs (x ∷ []) y h), r.0),
      λ h. elim (contains_cases y xs x h) [ inl e ↦ once.0 (same_contained (xs ++ x ∷ []) (sym e) (Contains-push xs x)) | inr i ↦ r.1 i ],
    )

pub all_front : {A : Type 0} (P : A → Type 0) (xs : List A) (x : A) → All P (xs ++ x ∷ []) → All P xs
all_front P xs x h k d i =
    All-contains P (xs ++ x ∷ []) (get_or xs k d) h (Contains-append_left xs (x ∷ []) (get_or xs k d) (Contains-get_or xs k d i))

pub all_last : {A : Type 0} (P : A → Type 0) (xs : List A) (x : A) → All P (xs ++ x ∷ []) → P x
all_last P xs x h = All-contains P (xs ++ x ∷ []) x h (Contains-push xs x)

-- ---- paths

along : (lists : Lists) {a b c d : ℕ} → a ≡ c → b ≡ d → Contains (feeders_of lists a) b → Contains (feeders_of lists c) d
along lists {b = b} {c = c} e f h = same_contained (feeders_of lists c) f (subst (λ z. Contains (feeders_of lists z) b) e h)

pub path_push : (lists : Lists) (path : List ℕ) (at s : ℕ) → IsPath lists (path ++ at ∷ []) → Contains (feeders_of lists at) s →
    IsPath lists ((path ++ at ∷ []) ++ s ∷ [])
path_push lists path at s back c k h =
    let n = length_push path at in
    let m = length_push (path ++ at ∷ []) s in
    elim (cases_lt (k + 1) (length (path ++ at ∷ []))) [
      | inl lt ↦ along lists (sym (get_or_append_left (path ++ at ∷ []) (s ∷ []) 0 k (omega arith))) (sym (get_or_append_left (path ++ at ∷ []) (s ∷ []) 0 (k + 1) lt)) (back k lt)
      | inr ge ↦
          let here : length path ≡ k = omega arith in
          along lists
          (sym (get_or_append_left (path ++ at ∷ []) (s ∷ []) 0 k (omega arith) ∙ get_or_push path at 0 k here))
          (sym (get_or_push (path ++ at ∷ []) s 0 (k + 1) (omega arith)))
          c
    ]

pub path_front : (lists : Lists) (path : List ℕ) (at : ℕ) → IsPath lists (path ++ at ∷ []) → IsPath lists path
path_front lists path at back k h =
    let n = length_push path at in
    along lists (get_or_append_left path (at ∷ []) 0 k (omega arith)) (get_or_append_left path (at ∷ []) 0 (k + 1) h) (back k (omega arith))

leads_back : (lists : Lists) (path : List ℕ) → IsPath lists path → (i d j : ℕ) → j ≡ i + suc d → j < length path →
    Leads lists (get_or path j 0) (get_or path i 0)
leads_back lists path back i zero j e h =
    let f : i + 1 ≡ j = omega arith in step (along lists refl (ap (λ z. get_or path z 0) f) (back i (omega arith)))
leads_back lists path back i (suc d) j e h =
    let f : (i + suc d) + 1 ≡ j = omega arith in
    onward (along lists refl (ap (λ z. get_or path z 0) f) (back (i + suc d) (omega arith)))
    (leads_back lists path back i d (i + suc d) refl (omega arith))

-- what waits for a place that is on the path waits for itself
pub around : (lists : Lists) (path : List ℕ) (at s : ℕ) → IsPath lists (path ++ at ∷ []) → Contains (feeders_of lists at) s →
    Contains (path ++ at ∷ []) s → Leads lists s s
around lists path at s back c (i, h, e) =
    let n = length_push path at in
    let there : get_or (path ++ at ∷ []) i 0 ≡ s = get_or_default (path ++ at ∷ []) i 0 s h ∙ e in
    let top : get_or (path ++ at ∷ []) (length path) 0 ≡ at = get_or_push path at 0 (length path) refl in
    elim (cases_lt i (length path)) [
      | inl lt ↦
          let r = leads_back lists (path ++ at ∷ []) back i (length path - suc i) (length path) (omega arith) (omega arith) in
          onward c (subst (λ z. Leads lists at z) there (subst (λ z. Leads lists z (get_or (path ++ at ∷ []) i 0)) top r))
      | inr ge ↦
          let same : length path ≡ i = omega arith in
          let is : at ≡ s = sym top ∙ (ap (λ z. get_or (path ++ at ∷ []) z 0) same ∙ there) in
          step (subst (λ z. Contains (feeders_of lists z) s) is c)
    ]

-- ---- marks

means_pushed : (path order : List ℕ) (s t : ℕ) (m : Mark) → t ≢ s → Means path order t m → Means (path ++ s ∷ []) order t m
means_pushed path order s t Fresh ne w = (λ h. elim (Contains-push_cases path s t h) [ inl i ↦ w.0 i | inr e ↦ ne (sym e) ], w.1)
means_pushed path order s t Open ne w = (Contains-append_left path (s ∷ []) t w.0, w.1)
means_pushed path order s t Done ne w = (λ h. elim (Contains-push_cases path s t h) [ inl i ↦ w.0 i | inr e ↦ ne (sym e) ], w.1)

means_moved : (path order : List ℕ) (s t : ℕ) (m : Mark) → t ≢ s → Means (path ++ s ∷ []) order t m → Means path (order ++ s ∷ []) t m
means_moved path order s t Fresh ne w = (
  λ h. w.0 (Contains-append_left path (s ∷ []) t h),
  λ h. elim (Contains-push_cases order s t h) [ inl i ↦ w.1 i | inr e ↦ ne (sym e) ],
)
means_moved path order s t Open ne w = (
  elim (Contains-push_cases path s t w.0) [ inl i ↦ i | inr e ↦ absurd (ne (sym e)) ],
  λ h. elim (Contains-push_cases order s t h) [ inl i ↦ w.1 i | inr e ↦ ne (sym e) ],
)
means_moved path order s t Done ne w = (λ h. w.0 (Contains-append_left path (s ∷ []) t h), Contains-append_left order (s ∷ []) t w.1)

pub is_open : (path order : List ℕ) (t : ℕ) (m : Mark) → Means path order t m → Contains path t → m ≡ Open
is_open path order t Fresh w h = absurd (w.0 h)
is_open path order t Open w h = refl
is_open path order t Done w h = absurd (w.0 h)

marks_after : (marks : List Mark) (path order : List ℕ) (s t : ℕ) (m : Mark) → s < length marks → Means path order s m →
    (t ≢ s → Means path order t (mark_of marks t)) → Means path order t (mark_of (set marks s m) t)
marks_after marks path order s t m h here others =
    elim (cases_eq t s) [
      | inl e ↦
          let same : m ≡ mark_of (set marks s m) s = sym (get_or-set_same marks s m Fresh h) in
          subst (λ z. Means path order z (mark_of (set marks s m) z)) (sym e) (subst (λ z. Means path order s z) same here)
      | inr ne ↦ subst (λ z. Means path order t z) (sym (get_or-set_other marks s t m Fresh ne)) (others ne)
    ]

-- ---- a place is met

pub opened : (lists : Lists) (marks : List Mark) (seen path order : List ℕ) (s : ℕ) → IsWalk lists marks seen path order → s < length lists →
    mark_of marks s ≡ Fresh → IsPath lists (path ++ s ∷ []) → IsWalk lists (set marks s Open) seen (path ++ s ∷ []) order
opened lists marks seen path order s w h fresh back =
    let new : (¬ Contains path s) × (¬ Contains order s) = subst (λ m. Means path order s m) fresh (w.means s h) in
    record {
      marks_fit = length-set marks s Open ∙ w.marks_fit;
      seen_fit = w.seen_fit;
      means = λ t i.
          marks_after marks (path ++ s ∷ []) order s t Open (omega (arith, w.marks_fit)) (Contains-push path s, new.1)
          (λ ne. means_pushed path order s t (mark_of marks t) ne (w.means t i));
      seen_first = w.seen_first;
      path_in = All-push (λ t. t < length lists) path s w.path_in h;
      order_in = w.order_in;
      path_once = once_push path s w.path_once new.0;
      order_once = w.order_once;
      path_back = back;
      after = w.after;
    }

-- ---- a place goes into the order

all_seen : (lists : Lists) (marks : List Mark) (seen path order : List ℕ) (at s : ℕ) → IsWalk lists marks seen path order →
    length (feeders_of lists at) ≤ get_or seen at 0 → Contains (feeders_of lists at) s → Contains order s
all_seen lists marks seen path order at s w all (k, h, e) =
    same_contained order (get_or_default (feeders_of lists at) k 0 s h ∙ e) (w.seen_first at k (omega arith)).1

pub closed : (lists : Lists) (marks : List Mark) (seen path order : List ℕ) (at : ℕ) → IsWalk lists marks seen (path ++ at ∷ []) order →
    length (feeders_of lists at) ≤ get_or seen at 0 → IsWalk lists (set marks at Done) seen path (order ++ at ∷ [])
closed lists marks seen path order at w all =
    let h : at < length lists = all_last (λ t. t < length lists) path at w.path_in in
    let is : mark_of marks at ≡ Open = is_open (path ++ at ∷ []) order at (mark_of marks at) (w.means at h) (Contains-push path at) in
    let out : ¬ Contains order at = (subst (λ m. Means (path ++ at ∷ []) order at m) is (w.means at h)).1 in
    let off : ¬ Contains path at = (once_front path at w.path_once).1 in
    record {
      marks_fit = length-set marks at Done ∙ w.marks_fit;
      seen_fit = w.seen_fit;
      means = λ t i.
          marks_after marks path (order ++ at ∷ []) at t Done (omega (arith, w.marks_fit)) (off, Contains-push order at)
          (λ ne. means_moved path order at t (mark_of marks t) ne (w.means t i));
      seen_first = λ t k i. let r = w.seen_first t k i in (r.0, Contains-append_left order (at ∷ []) (get_or (feeders_of lists t) k 0) r.1);
      path_in = all_front (λ t. t < length lists) path at w.path_in;
      order_in = All-push (λ t. t < length lists) order at w.order_in h;
      path_once = (once_front path at w.path_once).0;
      order_once = once_push order at w.order_once out;
      path_back = path_front lists path at w.path_back;
      after = λ k s i c.
          let n = length_push order at in
          elim (cases_lt k (length order)) [
            | inl lt ↦
                list_contained s (sym (take-append-le k order (at ∷ []) (omega arith)))
                (w.after k s lt (along lists (get_or_append_left order (at ∷ []) 0 k lt) refl c))
            | inr ge ↦
                let here : length order ≡ k = omega arith in
                list_contained s (sym (take_at order (at ∷ []) k here))
                (all_seen lists marks seen (path ++ at ∷ []) order at s w all (along lists (get_or_push order at 0 k here) refl c))
          ];
    }

-- ---- a feeder is passed

pub passed : (lists : Lists) (marks : List Mark) (seen path order : List ℕ) (at n : ℕ) → IsWalk lists marks seen path order → at < length lists →
    n ≡ get_or seen at 0 → n < length (feeders_of lists at) → Contains order (get_or (feeders_of lists at) n 0) →
    IsWalk lists marks (set seen at (n + 1)) path order
passed lists marks seen path order at n w h is more done = record {
  marks_fit = w.marks_fit;
  seen_fit = length-set seen at (n + 1) ∙ w.seen_fit;
  means = w.means;
  seen_first = λ t k i.
      elim (cases_eq t at) [
        | inl e ↦
            let now : get_or (set seen at (n + 1)) t 0 ≡ n + 1 =
            ap (λ z. get_or (set seen at (n + 1)) z 0) e ∙ get_or-set_same seen at (n + 1) 0 (omega (arith, w.seen_fit)) in
            let both : (k < length (feeders_of lists at)) × Contains order (get_or (feeders_of lists at) k 0) =
            elim (cases_lt k n) [
              | inl lt ↦ w.seen_first at k (omega arith)
              | inr ge ↦ let same : n ≡ k = omega arith in (omega arith, subst (λ z. Contains order (get_or (feeders_of lists at) z 0)) same done)
            ] in
            subst (λ z. (k < length (feeders_of lists z)) × Contains order (get_or (feeders_of lists z) k 0)) (sym e) both
        | inr ne ↦ w.seen_first t k (subst (λ z. k < z) (get_or-set_other seen at t (n + 1) 0 ne) i)
      ];
  path_in = w.path_in;
  order_in = w.order_in;
  path_once = w.path_once;
  order_once = w.order_once;
  path_back = w.path_back;
  after = w.after;
}

-- ---- the start

same_at : (n t z : ℕ) → get_or (replicate n z) t z ≡ z
same_at zero t z = refl
same_at (suc n) zero z = refl
same_at (suc n) (suc t) z = same_at n t z

begun : (lists : Lists) → IsWalk lists (replicate (length lists) Fresh) (replicate (length lists) 0) [] []
begun lists = record {
  marks_fit = length-replicate (length lists) Fresh;
  seen_fit = length-replicate (length lists) 0;
  means = λ t h.
      subst (λ m. Means [] [] t m) (sym (get_or-replicate (length lists) t Fresh Fresh h)) (λ i. contains_none t i, λ i. contains_none t i);
  seen_first = λ t k h. absurd (omega (arith, same_at (length lists) t 0));
  path_in = All-nil (λ t. t < length lists);
  order_in = All-nil (λ t. t < length lists);
  path_once = tt;
  order_once = tt;
  path_back = λ k h. absurd (omega arith);
  after = λ k s h c. absurd (omega arith);
}

-- ---- how much is left

pub less_marked : (marks : List Mark) (s : ℕ) (old new : Mark) → s < length marks → mark_of marks s ≡ old →
    sum_by weight (set marks s new) + weight old ≡ sum_by weight marks + weight new
less_marked marks s old new h is = subst (λ m. sum_by weight (set marks s new) + weight m ≡ sum_by weight marks + weight new) is (sum_by-set weight marks s new Fresh h)

pub unseen_set : (lists : Lists) (seen : List ℕ) (t n : ℕ) → length seen ≡ length lists → n ≡ get_or seen t 0 → n < length (feeders_of lists t) →
    suc (unseen lists (set seen t (n + 1))) ≡ unseen lists seen
unseen_set [] seen t n fit is h = absurd (omega arith)
unseen_set (fs ∷ lists) [] t n fit is h = absurd (omega arith)
unseen_set (fs ∷ lists) (m ∷ seen) zero n fit is h = omega arith
unseen_set (fs ∷ lists) (m ∷ seen) (suc t) n fit is h = omega (arith, unseen_set lists seen t n (omega arith) is h)

-- ---- steps

same_walk : (lists : Lists) {m n : List Mark} {s t p q o r : List ℕ} → m ≡ n → s ≡ t → p ≡ q → o ≡ r → IsWalk lists m s p o → IsWalk lists n t q r
same_walk lists {m} {n} {s} {t} {p} {q} {o} {r} em es ep eo w =
    subst (λ z. IsWalk lists n t q z) eo (subst (λ z. IsWalk lists n t z o) ep (subst (λ z. IsWalk lists n z p o) es (subst (λ z. IsWalk lists z s p o) em w)))

pub begins : (lists : Lists) (w : Walk) → w.marks ≡ replicate (length lists) Fresh → w.seen ≡ replicate (length lists) 0 → w.order ≡ [] → IsWalkTo lists w []
begins lists w m s o = same_walk lists (sym m) (sym s) refl (sym o) (begun lists)

pub starts : (lists : Lists) (old new : Walk) (root : ℕ) → IsWalkTo lists old [] → old.path ≡ [] → mark_of old.marks root ≡ Fresh → root < length lists →
    new.marks ≡ set old.marks root Open → new.seen ≡ old.seen → new.path ≡ old.path → new.order ≡ old.order →
    IsWalkTo lists new (new.path ++ root ∷ [])
starts lists old new root w none fresh h m s p o =
    same_walk lists (sym m) (sym s) (ap (λ z. z ++ root ∷ []) (sym (p ∙ none))) (sym o)
    (opened lists old.marks old.seen [] old.order root w h fresh (λ k i. absurd (omega arith)))

pub goes_down : (lists : Lists) (old new : Walk) (at s : ℕ) → IsWalkTo lists old (old.path ++ at ∷ []) → AreInside lists → Contains (feeders_of lists at) s →
    mark_of old.marks s ≡ Fresh → new.marks ≡ set old.marks s Open → new.seen ≡ old.seen → new.path ≡ old.path ++ at ∷ [] → new.order ≡ old.order →
    GoesOn lists old new at s
goes_down lists old new at s w inside c fresh m e p o =
    let h : s < length lists = inside s at c in
    let fewer = less_marked old.marks s Fresh Open (omega (arith, w.marks_fit)) fresh in
    record {
      walk = same_walk lists (sym m) (sym e) (ap (λ z. z ++ s ∷ []) (sym p)) (sym o)
          (opened lists old.marks old.seen (old.path ++ at ∷ []) old.order s w h fresh (path_push lists old.path at s w.path_back c));
      less = omega (arith, ap (sum_by weight) m, ap (unseen lists) e, fewer);
      met = λ t i. elim i [
        | inl j ↦ inl (Contains-append_left new.path (s ∷ []) t (list_contained t (sym p) j))
        | inr j ↦ inr (list_contained t (sym o) j)
      ];
    }

pub passes : (lists : Lists) (old new : Walk) (at n s : ℕ) → IsWalkTo lists old (old.path ++ at ∷ []) → n ≡ get_or old.seen at 0 →
    n < length (feeders_of lists at) → s ≡ get_or (feeders_of lists at) n 0 → s < length lists → mark_of old.marks s ≡ Done → (m : ℕ) → m ≡ n + 1 →
    new.marks ≡ old.marks → new.seen ≡ set old.seen at m → new.path ≡ old.path → new.order ≡ old.order → GoesOn lists old new at at
passes lists old new at n s w is more feeder inside done next count m f p o =
    let e : new.seen ≡ set old.seen at (n + 1) = f ∙ ap (set old.seen at) count in
    let h : at < length lists = all_last (λ t. t < length lists) old.path at w.path_in in
    let in_order : Contains old.order s = (subst (λ z. Means (old.path ++ at ∷ []) old.order s z) done (w.means s inside)).1 in
    record {
      walk = same_walk lists (sym m) (sym e) (ap (λ z. z ++ at ∷ []) (sym p)) (sym o)
          (passed lists old.marks old.seen (old.path ++ at ∷ []) old.order at n w h is more (same_contained old.order feeder in_order));
      less = omega (arith, ap (sum_by weight) m, ap (unseen lists) e, unseen_set lists old.seen at n w.seen_fit is more);
      met = λ t i. elim i [
        | inl j ↦ inl (list_contained t (ap (λ z. z ++ at ∷ []) (sym p)) j)
        | inr j ↦ inr (list_contained t (sym o) j)
      ];
    }

met_left : (old_path path old_order order : List ℕ) (at t : ℕ) → order ≡ old_order ++ at ∷ [] → old_path ≡ path → HasMet (old_path ++ at ∷ []) old_order t → HasMet path order t
met_left old_path path old_order order at t o p (inl h) =
    elim (Contains-push_cases old_path at t h) [
      | inl i ↦ inl (list_contained t p i)
      | inr e ↦ inr (list_contained t (sym o) (same_contained (old_order ++ at ∷ []) e (Contains-push old_order at)))
    ]
met_left old_path path old_order order at t o p (inr h) = inr (list_contained t (sym o) (Contains-append_left old_order (at ∷ []) t h))

pub goes_up : (lists : Lists) (old new : Walk) (at next : ℕ) → IsWalkTo lists old (old.path ++ at ∷ []) →
    length (feeders_of lists at) ≤ get_or old.seen at 0 → new.marks ≡ set old.marks at Done → new.seen ≡ old.seen →
    old.path ≡ new.path ++ next ∷ [] → new.order ≡ old.order ++ at ∷ [] → GoesOn lists old new at next
goes_up lists old new at next w all m e p o =
    let h : at < length lists = all_last (λ t. t < length lists) old.path at w.path_in in
    let is = is_open (old.path ++ at ∷ []) old.order at (mark_of old.marks at) (w.means at h) (Contains-push old.path at) in
    let fewer = less_marked old.marks at Open Done (omega (arith, w.marks_fit)) is in
    record {
      walk = same_walk lists (sym m) (sym e) p (sym o) (closed lists old.marks old.seen old.path old.order at w all);
      less = omega (arith, ap (sum_by weight) m, ap (unseen lists) e, fewer);
      met = λ t i. met_left old.path (new.path ++ next ∷ []) old.order new.order at t o p i;
    }

pub ends : (lists : Lists) (old new : Walk) (at : ℕ) → IsWalkTo lists old (old.path ++ at ∷ []) →
    length (feeders_of lists at) ≤ get_or old.seen at 0 → new.marks ≡ set old.marks at Done → new.seen ≡ old.seen →
    old.path ≡ [] → new.path ≡ [] → new.order ≡ old.order ++ at ∷ [] → Ends lists old new at
ends lists old new at w all m e p q o = record {
  walk = same_walk lists (sym m) (sym e) p (sym o) (closed lists old.marks old.seen old.path old.order at w all);
  path = q;
  met = λ t i. elim (met_left old.path [] old.order new.order at t o p i) [ inl j ↦ contains_none t j | inr j ↦ j ];
}

pub is_feeder : (lists : Lists) (at n s : ℕ) → n < length (feeders_of lists at) → s ≡ get_or (feeders_of lists at) n 0 → Contains (feeders_of lists at) s
is_feeder lists at n s h e = same_contained (feeders_of lists at) (sym e) (Contains-get_or (feeders_of lists at) n 0 h)
