-- Which texts may follow a byte: what the machine says of it is right.
use Rattle.std.proofs.Common.{◌≡◌, ◌≢◌, ℕ, zero, suc, ◌+◌, ◌-◌, ◌*◌, ◌<◌, ◌≤◌, ℤ, pos, neg_ℤ, Bool, true, false, cond, not, ◌||◌, ◌&&◌, eqb, ltb, leb, List, [], ◌∷◌, ◌++◌, length, drop, get_or, drop_of_length-le, Option, Some, None, refl, sym, ap, subst, ◌∙◌, inl, inr, ◌⊎◌, arith}
use Rattle.std.specs.Prelude.{codes, nat_le}
use Rattle.std.specs.List.{list_all}
use Rattle.std.proofs.lemmas.Bool.{eqb-true, eq-eqb, cases_Bool, both_ways, not-true, not_from_false, ltb-true, ltb-false, or_parts}
use Rattle.std.proofs.lemmas.List.{drop_more}
use Rattle.flow_value.specs.declared.cause.Cause.{Cause}
use Rattle.flow_value.specs.declared.cause.Cause.TheVariants as because
use Rattle.value_text.specs.Tokens.{past_blanks, ends_row, is_blank, is_digit, is_letter, is_plain, escape_of, hex_digit}
use Rattle.value_text.specs.Grammar.{Sign, Word, Number, Integer, plain, minus, Item, itself, escaped, coded, Because, cause_word, row_value}
use Rattle.value_text.specs.Forms.{Form, Parts, none, part, Spells, SpellsParts, Items, NoCause}
use Rattle.value_text.specs.Forms as form
use Rattle.value_text.specs.declared.spelling.Enclosure.{Enclosure}
use Rattle.value_text.specs.declared.spelling.Enclosure.TheVariants as in_
use Rattle.value_text.specs.declared.spelling.Number.{Number as Kind}
use Rattle.value_text.specs.declared.spelling.Number.TheVariants as number
use Rattle.value_text.specs.declared.spelling.Word.{Word as Spelt}
use Rattle.value_text.specs.declared.spelling.Word.TheVariants as word
use Rattle.value_text.specs.declared.spelling.Quoted.{Quoted}
use Rattle.value_text.specs.declared.spelling.Quoted.TheVariants as quoted
use Rattle.value_text.specs.declared.spelling.Mode.{Mode}
use Rattle.value_text.specs.declared.spelling.Mode.TheVariants as mode
use Rattle.value_text.specs.declared.spelling.Move.{Move}
use Rattle.value_text.specs.declared.spelling.Move.TheVariants as move
use Rattle.value_text.specs.Machine.{letters_of, begin, closed_by, go_on, innermost, holds_many, Closes, Value, CauseCloses, AfterError, AfterWord, AfterNumber, WordRest, DigitsRest, NumberRest, BoundRest, CauseRest, AfterItem, ItemRest, QuotedRest, LowRest, Rest, Goes, word_of, ended, behind_error, behind_cause, after_word, behind_word, in_word, tag_behind_error, cause, cause_e, number_closed, behind_number, in_digits, in_digit, in_bound, after_item, quote_of, in_item, in_quotes, if_some, escaped as escape_leads, high as high_leads, low as low_leads, character_ended, past_blank, between, next}

pub cons_eq : {c d : ℕ} {t u : List ℕ} → c ∷ t ≡ d ∷ u → (c ≡ d) × (t ≡ u)
cons_eq e = (cc, cc)

pub other : (c d : ℕ) → eqb c d ≡ false → c ≡ d → ⊥
other c d e h = both_ways (eqb c d) e (eq-eqb c d h)

pub goes_if : (b : Bool) (m n : Move) (nest : List Enclosure) (t : List ℕ) → Goes (cond b m n) nest t → ((b ≡ true) × Goes m nest t) ⊎ ((b ≡ false) × Goes n nest t)
goes_if true m n nest t h = inl (refl, h)
goes_if false m n nest t h = inr (refl, h)

-- a byte that leads on where it is a blank
pub over : (b : Bool) (c : ℕ) (P : List ℕ → Type 0) (m : Mode) (other : Move) (nest : List Enclosure) (t : List ℕ) → is_blank c ≡ b → (P (past_blanks t) → Rest m nest t) → (is_blank c ≡ false → P (c ∷ t) → Goes other nest t) → P (cond b (past_blanks t) (c ∷ t)) → Goes (cond b (move.To m) other) nest t
over true c P m other nest t e f g h = f h
over false c P m other nest t e f g h = g e h

pub over_back : (b : Bool) (c : ℕ) (P : List ℕ → Type 0) (m : Mode) (other : Move) (nest : List Enclosure) (t : List ℕ) → is_blank c ≡ b → (Rest m nest t → P (past_blanks t)) → (is_blank c ≡ false → Goes other nest t → P (c ∷ t)) → Goes (cond b (move.To m) other) nest t → P (cond b (past_blanks t) (c ∷ t))
over_back true c P m other nest t e f g h = f h
over_back false c P m other nest t e f g h = g e h

-- ---- the first byte of a value

at_byte : (f : ℕ → Move) (c d : ℕ) (nest : List Enclosure) (t : List ℕ) → c ≡ d → Goes (f d) nest t → Goes (f c) nest t
at_byte f c d nest t e h = subst (λ (x : ℕ). Goes (f x) nest t) (sym e) h

and_two : (a b : Bool) → (a && b) ≡ true → (a ≡ true) × (b ≡ true)
and_two true b e = (refl, e)
and_two false b e = absurd cc

pub blanks_once : (r : List ℕ) → past_blanks (past_blanks r) ≡ past_blanks r
blanks_once [] = refl
blanks_once (c ∷ r) = go (is_blank c) refl (blanks_once r)
  where
    go : (b : Bool) → is_blank c ≡ b → past_blanks (past_blanks r) ≡ past_blanks r → past_blanks (cond b (past_blanks r) (c ∷ r)) ≡ cond b (past_blanks r) (c ∷ r)
    go true e h = h
    go false e h = rw e refl

pub cause_past : (c : Cause) (r t : List ℕ) → Because c (past_blanks r) t → Because c r t
cause_past c r t h = record { inner = h.inner; opened = sym (blanks_once r) ∙ h.opened; word = h.word }

pub cause_before : (c : Cause) (r t : List ℕ) → Because c r t → Because c (past_blanks r) t
cause_before c r t h = record { inner = h.inner; opened = blanks_once r ∙ h.opened; word = h.word }

pub no_cause_past : (r : List ℕ) → NoCause r → NoCause (past_blanks r)
no_cause_past r h c t b = h c t (cause_past c r t b)

pub no_cause_before : (r : List ℕ) → NoCause (past_blanks r) → NoCause r
no_cause_before r h c t b = h c t (cause_before c r t b)

word_first : (w : Spelt) (d : ℕ) (ds : List ℕ) (c : ℕ) (t r : List ℕ) (nest : List Enclosure) → Word (d ∷ ds) (c ∷ t) r → AfterWord w nest r → WordRest w ds nest t
word_first w d ds c t r nest h a = record { rest = r; spelled = (cons_eq h.spelled).1; alone = h.alone; after = a }

word_again : (w : Spelt) (d : ℕ) (ds : List ℕ) (t : List ℕ) (nest : List Enclosure) → (h : WordRest w ds nest t) → Word (d ∷ ds) (d ∷ t) h.rest
word_again w d ds t nest h = record { spelled = ap (λ (x : List ℕ). d ∷ x) h.spelled; alone = h.alone }

digits_first : (n : Kind) (k c : ℕ) (t r : List ℕ) (nest : List Enclosure) → Number k (c ∷ t) r → AfterNumber n nest (past_blanks r) → (is_digit c ≡ true) × DigitsRest n nest t
digits_first n k c t r nest h a =
    let e = cons_eq h.spelled in
    let d = and_two (is_digit h.first) (list_all is_digit h.more) h.digits in (
      subst (λ (x : ℕ). is_digit x ≡ true) (sym e.0) d.0,
      record { row = h.more; rest = r; spelled = e.1; digits = d.1; alone = h.alone; after = a },
    )

number_first : (n : Kind) (c : ℕ) (t : List ℕ) (nest : List Enclosure) → is_digit c ≡ true → DigitsRest n nest t → NumberRest n nest (c ∷ t)
number_first n c t nest e h = (row_value 0 (c ∷ h.row), h.rest, record { first = c; more = h.row; spelled = ap (λ (x : List ℕ). c ∷ x) h.spelled; digits = rw e h.digits; value = refl; alone = h.alone }, h.after)

begin_digit : (c : ℕ) (t : List ℕ) (nest : List Enclosure) → is_digit c ≡ true → DigitsRest number.Integer nest t → Goes (begin c) nest t
unfolding begin
begin_digit c t nest e h = rw e h

begin_integer : (z : ℤ) (c : ℕ) (t r : List ℕ) (nest : List Enclosure) → Integer z (c ∷ t) r → Closes nest (past_blanks r) → Goes (begin c) nest t
unfolding begin
begin_integer z c t r nest (plain n h e) k = let d = digits_first number.Integer n c t r nest h k in begin_digit c t nest d.0 d.1
begin_integer z c t r nest (minus n u o h e) k =
    let q = cons_eq o in
    at_byte begin c 45 nest t q.0 (n, r, subst (λ (x : List ℕ). Number n (past_blanks x) r) (sym q.1) h, k)

pub begin_only : (c : ℕ) (t : List ℕ) (nest : List Enclosure) (f : Form) (r : List ℕ) → Spells f (c ∷ t) r → Closes nest (past_blanks r) → Goes (begin c) nest t
unfolding begin
begin_only c t nest form.error r h k = at_byte begin c 101 nest t (cons_eq h.0.spelled).0 (word_first word.Error 101 _ c t r nest h.0 (inr (no_cause_past r h.1, k)))
begin_only c t nest (form.error_because x) r h k =
    at_byte begin c 101 nest t (cons_eq h.2.spelled).0 (word_first word.Error 101 _ c t h.0 nest h.2 (inl (x, h.1, cause_before x h.0 h.1 h.3, (r, h.4, k))))
begin_only c t nest (form.integer z) r h k = begin_integer z c t r nest h k
begin_only c t nest (form.boolean true) r h k = at_byte begin c 84 nest t (cons_eq h.spelled).0 (word_first word.Yes 84 _ c t r nest h k)
begin_only c t nest (form.boolean false) r h k = at_byte begin c 70 nest t (cons_eq h.spelled).0 (word_first word.No 70 _ c t r nest h k)
begin_only c t nest (form.character x) r h k =
    let q = cons_eq h.2 in
    at_byte begin c 39 nest t q.0 (x, h.1, subst (λ (y : List ℕ). Item 39 x y h.1) (sym q.1) h.3, (r, h.4, k))
begin_only c t nest (form.characters cs) r h k =
    let q = cons_eq h.1 in
    at_byte begin c 34 nest t q.0 (cs, r, subst (λ (y : List ℕ). Items cs y r) (sym q.1) h.2, k)
begin_only c t nest form.nil r h k = at_byte begin c 110 nest t (cons_eq h.spelled).0 (word_first word.Nil 110 _ c t r nest h k)
begin_only c t nest (form.array lo ps) r h k =
    let q = cons_eq h.3 in
    at_byte begin c 91 nest t q.0 (lo, h.1, subst (λ (y : List ℕ). Integer lo (past_blanks y) h.1) (sym q.1) h.4, (h.2, h.5, (ps, r, h.6, k)))
begin_only c t nest (form.stream ps) r h k =
    let q = cons_eq h.1 in
    at_byte begin c 123 nest t q.0 (ps, r, subst (λ (y : List ℕ). SpellsParts ps 125 (past_blanks y) r) (sym q.1) h.2, k)
begin_only c t nest (form.fields ps) r h k =
    let q = cons_eq h.1 in
    at_byte begin c 60 nest t q.0 (ps, r, subst (λ (y : List ℕ). SpellsParts ps 62 (past_blanks y) r) (sym q.1) h.2, k)
begin_only c t nest (form.union n j f) r h k =
    let q = cons_eq h.4 in
    at_byte begin c 40 nest t q.0 (n, h.1, subst (λ (y : List ℕ). Number n (past_blanks y) h.1) (sym q.1) h.5, (h.2, h.6, (f, h.3, h.8, (r, h.9, k))))

-- a value from a byte on, as one says of the byte that it is d
value_at : (c d : ℕ) (t : List ℕ) (nest : List Enclosure) → eqb c d ≡ true → Value nest (d ∷ t) → Value nest (c ∷ t)
value_at c d t nest e h = subst (λ (x : ℕ). Value nest (x ∷ t)) (sym (eqb-true c d e)) h

error_value : (t : List ℕ) (nest : List Enclosure) → WordRest word.Error (codes "rror") nest t → Value nest (101 ∷ t)
error_value t nest h = go h (word_again word.Error 101 (codes "rror") t nest h) h.after
  where
    go : (h : WordRest word.Error (codes "rror") nest t) → Word (codes "error") (101 ∷ t) h.rest → AfterError nest (past_blanks h.rest) → Value nest (101 ∷ t)
    go h w (inl (x, b, p, (r, o, k))) = (form.error_because x, r, (h.rest, b, w, cause_past x h.rest b p, o), k)
    go h w (inr (n, k)) = (form.error, h.rest, (w, no_cause_before h.rest n), k)

integer_value : (c : ℕ) (t : List ℕ) (nest : List Enclosure) → NumberRest number.Integer nest (c ∷ t) → Value nest (c ∷ t)
integer_value c t nest (n, b, h, k) = (form.integer (pos n), b, plain n h refl, k)

minus_value : (t : List ℕ) (nest : List Enclosure) → NumberRest number.Integer nest (past_blanks t) → Value nest (45 ∷ t)
minus_value t nest (n, b, h, k) = (form.integer (neg_ℤ (pos n)), b, minus n t refl h refl, k)

pub begin_sound : (c : ℕ) (t : List ℕ) (nest : List Enclosure) → Goes (begin c) nest t → Value nest (c ∷ t)
unfolding begin
begin_sound c t nest h =
    elim (goes_if (is_digit c) _ _ nest t h) [
      | inl p ↦ integer_value c t nest (number_first number.Integer c t nest p.0 p.1)
      | inr p ↦ elim (goes_if (eqb c 101) _ _ nest t p.1) [
        | inl p ↦ value_at c 101 t nest p.0 (error_value t nest p.1)
        | inr p ↦ elim (goes_if (eqb c 110) _ _ nest t p.1) [
          | inl p ↦ value_at c 110 t nest p.0 (form.nil, p.1.rest, word_again word.Nil 110 (codes "il") t nest p.1, p.1.after)
          | inr p ↦ elim (goes_if (eqb c 84) _ _ nest t p.1) [
            | inl p ↦ value_at c 84 t nest p.0 (form.boolean true, p.1.rest, word_again word.Yes 84 [] t nest p.1, p.1.after)
            | inr p ↦ elim (goes_if (eqb c 70) _ _ nest t p.1) [
              | inl p ↦ value_at c 70 t nest p.0 (form.boolean false, p.1.rest, word_again word.No 70 [] t nest p.1, p.1.after)
              | inr p ↦ elim (goes_if (eqb c 45) _ _ nest t p.1) [
                | inl p ↦ value_at c 45 t nest p.0 (minus_value t nest p.1)
                | inr p ↦ elim (goes_if (eqb c 39) _ _ nest t p.1) [
                  | inl p ↦ value_at c 39 t nest p.0 (character_value p.1)
                  | inr p ↦ elim (goes_if (eqb c 34) _ _ nest t p.1) [
                    | inl p ↦ value_at c 34 t nest p.0 (text_value p.1)
                    | inr p ↦ elim (goes_if (eqb c 91) _ _ nest t p.1) [
                      | inl p ↦ value_at c 91 t nest p.0 (array_value p.1)
                      | inr p ↦ elim (goes_if (eqb c 123) _ _ nest t p.1) [
                        | inl p ↦ value_at c 123 t nest p.0 (stream_value p.1)
                        | inr p ↦ elim (goes_if (eqb c 60) _ _ nest t p.1) [
                          | inl p ↦ value_at c 60 t nest p.0 (record_value p.1)
                          | inr p ↦ elim (goes_if (eqb c 40) _ _ nest t p.1) [
                            | inl p ↦ value_at c 40 t nest p.0 (union_value p.1)
                            | inr p ↦ absurd p.1
                          ]
                        ]
                      ]
                    ]
                  ]
                ]
              ]
            ]
          ]
        ]
      ]
    ]
  where
    character_value : ItemRest quoted.Character nest t → Value nest (39 ∷ t)
    character_value (x, b, i, (r, o, k)) = (form.character x, r, (t, b, refl, i, o), k)

    text_value : AfterItem quoted.Text nest t → Value nest (34 ∷ t)
    text_value (cs, r, i, k) = (form.characters cs, r, (t, refl, i), k)

    array_value : BoundRest (in_.Array ∷ nest) (past_blanks t) → Value nest (91 ∷ t)
    array_value (z, b, i, (d, o, (ps, r, h, k))) = (form.array z ps, r, (t, b, d, refl, i, o, h), k)

    stream_value : Closes (in_.Stream ∷ nest) (past_blanks t) → Value nest (123 ∷ t)
    stream_value (ps, r, h, k) = (form.stream ps, r, (t, refl, h), k)

    record_value : Closes (in_.Record ∷ nest) (past_blanks t) → Value nest (60 ∷ t)
    record_value (ps, r, h, k) = (form.fields ps, r, (t, refl, h), k)

    union_value : NumberRest number.Tag (in_.Union ∷ nest) (past_blanks t) → Value nest (40 ∷ t)
    union_value (n, b, i, (d, o, (f, e, h, (r, x, k)))) = (form.union n (length (past_blanks d)) f, r, (t, b, d, e, refl, i, o, refl, h, x), k)

-- ---- what is open

closing : (close c : ℕ) (e : Enclosure) (nest : List Enclosure) (t : List ℕ) → begin close ≡ move.Bad → Goes (begin c) (e ∷ nest) t → Goes (closed_by close c (begin c)) (e ∷ nest) t
closing close c e nest t bad h = go (eqb c close) refl
  where
    go : (b : Bool) → eqb c close ≡ b → Goes (cond b move.Close (begin c)) (e ∷ nest) t
    go false q = h
    go true q = absurd (subst (λ (m : Move). Goes m (e ∷ nest) t) (ap begin (eqb-true c close q) ∙ bad) h)

bad_93 : begin 93 ≡ move.Bad
unfolding begin
bad_93 = refl

bad_125 : begin 125 ≡ move.Bad
unfolding begin
bad_125 = refl

bad_62 : begin 62 ≡ move.Bad
unfolding begin
bad_62 = refl

closed_now : (close c : ℕ) (e : Enclosure) (nest : List Enclosure) (t r : List ℕ) (other : Move) → c ∷ t ≡ close ∷ r → Closes nest (past_blanks r) → Goes (closed_by close c other) (e ∷ nest) t
closed_now close c e nest t r other h k =
    let q = cons_eq h in
    let same : eqb c close ≡ true = eq-eqb c close q.0 in
    rw (same) (subst (λ (x : List ℕ). Closes nest (past_blanks x)) (sym q.1) k)

pub go_only : (nest : List Enclosure) (c : ℕ) (t : List ℕ) → Closes nest (c ∷ t) → Goes (go_on (innermost nest) c) nest t
unfolding go_on
go_only [] c t h = absurd cc
go_only (in_.Union ∷ nest) c t (r, h, k) = closed_now 41 c in_.Union nest t r move.Bad h k
go_only (in_.Array ∷ nest) c t (none, r, h, k) = closed_now 93 c in_.Array nest t r (begin c) h k
go_only (in_.Array ∷ nest) c t (part j f ps, r, h, k) = closing 93 c in_.Array nest t bad_93 (begin_only c t (in_.Array ∷ nest) f h.0 h.2 (ps, r, h.3, k))
go_only (in_.Stream ∷ nest) c t (none, r, h, k) = closed_now 125 c in_.Stream nest t r (begin c) h k
go_only (in_.Stream ∷ nest) c t (part j f ps, r, h, k) = closing 125 c in_.Stream nest t bad_125 (begin_only c t (in_.Stream ∷ nest) f h.0 h.2 (ps, r, h.3, k))
go_only (in_.Record ∷ nest) c t (none, r, h, k) = closed_now 62 c in_.Record nest t r (begin c) h k
go_only (in_.Record ∷ nest) c t (part j f ps, r, h, k) = closing 62 c in_.Record nest t bad_62 (begin_only c t (in_.Record ∷ nest) f h.0 h.2 (ps, r, h.3, k))

sign_of : (c d : ℕ) (t : List ℕ) → eqb c d ≡ true → c ∷ t ≡ d ∷ t
sign_of c d t e = ap (λ (x : ℕ). x ∷ t) (eqb-true c d e)

pub go_sound : (nest : List Enclosure) (c : ℕ) (t : List ℕ) → Goes (go_on (innermost nest) c) nest t → Closes nest (c ∷ t)
unfolding go_on
go_sound [] c t h = absurd h
go_sound (in_.Union ∷ nest) c t h =
    elim (goes_if (eqb c 41) move.Close move.Bad (in_.Union ∷ nest) t h) [
      | inl p ↦ (t, sign_of c 41 t p.0, p.1)
      | inr p ↦ absurd p.1
    ]
go_sound (in_.Array ∷ nest) c t h =
    elim (goes_if (eqb c 93) move.Close (begin c) (in_.Array ∷ nest) t h) [
      | inl p ↦ (none, t, sign_of c 93 t p.0, p.1)
      | inr p ↦ more (begin_sound c t (in_.Array ∷ nest) p.1)
    ]
  where
    more : Value (in_.Array ∷ nest) (c ∷ t) → Closes (in_.Array ∷ nest) (c ∷ t)
    more (f, u, s, (ps, r, h, k)) = (part (length (c ∷ t)) f ps, r, (u, refl, s, h), k)
go_sound (in_.Stream ∷ nest) c t h =
    elim (goes_if (eqb c 125) move.Close (begin c) (in_.Stream ∷ nest) t h) [
      | inl p ↦ (none, t, sign_of c 125 t p.0, p.1)
      | inr p ↦ more (begin_sound c t (in_.Stream ∷ nest) p.1)
    ]
  where
    more : Value (in_.Stream ∷ nest) (c ∷ t) → Closes (in_.Stream ∷ nest) (c ∷ t)
    more (f, u, s, (ps, r, h, k)) = (part (length (c ∷ t)) f ps, r, (u, refl, s, h), k)
go_sound (in_.Record ∷ nest) c t h =
    elim (goes_if (eqb c 62) move.Close (begin c) (in_.Record ∷ nest) t h) [
      | inl p ↦ (none, t, sign_of c 62 t p.0, p.1)
      | inr p ↦ more (begin_sound c t (in_.Record ∷ nest) p.1)
    ]
  where
    more : Value (in_.Record ∷ nest) (c ∷ t) → Closes (in_.Record ∷ nest) (c ∷ t)
    more (f, u, s, (ps, r, h, k)) = (part (length (c ∷ t)) f ps, r, (u, refl, s, h), k)

-- ---- behind the word `error`

paren_tag : (nest : List Enclosure) (t : List ℕ) → Closes nest (40 ∷ t) → (holds_many (innermost nest) ≡ true) × NumberRest number.Tag (in_.Union ∷ nest) (past_blanks t)
unfolding go_on begin
paren_tag [] t h = absurd cc
paren_tag (in_.Union ∷ nest) t (r, h, k) = absurd (other 40 41 refl (cons_eq h).0)
paren_tag (in_.Array ∷ nest) t h = (refl, go_only (in_.Array ∷ nest) 40 t h)
paren_tag (in_.Stream ∷ nest) t h = (refl, go_only (in_.Stream ∷ nest) 40 t h)
paren_tag (in_.Record ∷ nest) t h = (refl, go_only (in_.Record ∷ nest) 40 t h)

tag_paren : (nest : List Enclosure) (t : List ℕ) → holds_many (innermost nest) ≡ true → NumberRest number.Tag (in_.Union ∷ nest) (past_blanks t) → Closes nest (40 ∷ t)
unfolding go_on begin
tag_paren [] t e h = absurd cc
tag_paren (in_.Union ∷ nest) t e h = absurd cc
tag_paren (in_.Array ∷ nest) t e h = go_sound (in_.Array ∷ nest) 40 t h
tag_paren (in_.Stream ∷ nest) t e h = go_sound (in_.Stream ∷ nest) 40 t h
tag_paren (in_.Record ∷ nest) t e h = go_sound (in_.Record ∷ nest) 40 t h

cause_after : (c : Cause) (nest : List Enclosure) (s : List ℕ) → CauseCloses nest (past_blanks s) → AfterWord (word_of c) nest s
cause_after because.Overflow nest s h = h
cause_after because.Zero nest s h = h
cause_after because.Bounds nest s h = h
cause_after because.Empty nest s h = h
cause_after because.Size nest s h = h
cause_after because.Tag nest s h = h
cause_after because.Explicit nest s h = h

after_cause : (c : Cause) (nest : List Enclosure) (s : List ℕ) → AfterWord (word_of c) nest s → CauseCloses nest (past_blanks s)
after_cause because.Overflow nest s h = h
after_cause because.Zero nest s h = h
after_cause because.Bounds nest s h = h
after_cause because.Empty nest s h = h
after_cause because.Size nest s h = h
after_cause because.Tag nest s h = h
after_cause because.Explicit nest s h = h

cause_letters : (c : Cause) → letters_of (word_of c) ≡ cause_word c
cause_letters because.Overflow = refl
cause_letters because.Zero = refl
cause_letters because.Bounds = refl
cause_letters because.Empty = refl
cause_letters because.Size = refl
cause_letters because.Tag = refl
cause_letters because.Explicit = refl

no_digit_cause : (c : Cause) (s b u : List ℕ) (d : ℕ) (ds : List ℕ) → s ≡ cause_word c ++ u → s ≡ d ∷ ds → is_digit d ≡ true → ⊥
no_digit_cause because.Overflow s b u d ds e f g = both_ways (is_digit d) (ap is_digit (cons_eq (sym f ∙ e)).0) g
no_digit_cause because.Zero s b u d ds e f g = both_ways (is_digit d) (ap is_digit (cons_eq (sym f ∙ e)).0) g
no_digit_cause because.Bounds s b u d ds e f g = both_ways (is_digit d) (ap is_digit (cons_eq (sym f ∙ e)).0) g
no_digit_cause because.Empty s b u d ds e f g = both_ways (is_digit d) (ap is_digit (cons_eq (sym f ∙ e)).0) g
no_digit_cause because.Size s b u d ds e f g = both_ways (is_digit d) (ap is_digit (cons_eq (sym f ∙ e)).0) g
no_digit_cause because.Tag s b u d ds e f g = both_ways (is_digit d) (ap is_digit (cons_eq (sym f ∙ e)).0) g
no_digit_cause because.Explicit s b u d ds e f g = both_ways (is_digit d) (ap is_digit (cons_eq (sym f ∙ e)).0) g

solid : (c : ℕ) (t : List ℕ) → is_blank c ≡ false → past_blanks (c ∷ t) ≡ c ∷ t
solid c t e = rw e refl

cause_inside : (x : Cause) (t b : List ℕ) (nest : List Enclosure) → Word (cause_word x) (past_blanks t) b → CauseCloses nest (past_blanks b) → CauseRest nest (past_blanks t)
cause_inside x t b nest h k = inl (x, record { rest = b; spelled = h.spelled ∙ ap (λ (l : List ℕ). l ++ b) (sym (cause_letters x)); alone = h.alone; after = cause_after x nest b k })

error_only : (nest : List Enclosure) (c : ℕ) (t : List ℕ) → is_blank c ≡ false → AfterError nest (c ∷ t) → Goes (cond (eqb c 40) (move.To mode.Cause) (go_on (innermost nest) c)) nest t
error_only nest c t e (inl (x, b, h, k)) =
    let q = cons_eq (sym (solid c t e) ∙ h.opened) in
    let same : eqb c 40 ≡ true = eq-eqb c 40 q.0 in
    rw same (cause_inside x t b nest (subst (λ (y : List ℕ). Word (cause_word x) (past_blanks y) b) (sym q.1) h.word) k)
error_only nest c t e (inr (n, k)) = go (eqb c 40) refl
  where
    go : (b : Bool) → eqb c 40 ≡ b → Goes (cond b (move.To mode.Cause) (go_on (innermost nest) c)) nest t
    go true q = inr (paren_tag nest t (subst (λ (x : ℕ). Closes nest (x ∷ t)) (eqb-true c 40 q) k))
    go false q = go_only nest c t k

no_cause_here : (c : ℕ) (t : List ℕ) → is_blank c ≡ false → eqb c 40 ≡ false → NoCause (c ∷ t)
no_cause_here c t e q x u h = both_ways (eqb c 40) q (eq-eqb c 40 (cons_eq (sym (solid c t e) ∙ h.opened)).0)

no_cause_tag : (t : List ℕ) (k : ℕ) (b : List ℕ) → Number k (past_blanks t) b → NoCause (40 ∷ t)
no_cause_tag t k b n x u h =
    let q = cons_eq {c = 40} {d = 40} {t = t} {u = h.inner} h.opened in
    let w : Word (cause_word x) (past_blanks t) u = subst (λ (y : List ℕ). Word (cause_word x) (past_blanks y) u) (sym q.1) h.word in
    no_digit_cause x (past_blanks t) b u n.first (n.more ++ b) w.spelled n.spelled (and_two (is_digit n.first) (list_all is_digit n.more) n.digits).0

paren_error : (nest : List Enclosure) (t : List ℕ) → CauseRest nest (past_blanks t) → AfterError nest (40 ∷ t)
paren_error nest t (inl (x, h)) = inl (x, h.rest, record { inner = t; opened = refl; word = record { spelled = h.spelled ∙ ap (λ (l : List ℕ). l ++ h.rest) (cause_letters x); alone = h.alone } }, after_cause x nest h.rest h.after)
paren_error nest t (inr (e, h)) = inr (no_cause_tag t h.0 h.1 h.2, tag_paren nest t e h)

error_sound : (nest : List Enclosure) (c : ℕ) (t : List ℕ) → is_blank c ≡ false → Goes (cond (eqb c 40) (move.To mode.Cause) (go_on (innermost nest) c)) nest t → AfterError nest (c ∷ t)
error_sound nest c t e h =
    elim (goes_if (eqb c 40) (move.To mode.Cause) (go_on (innermost nest) c) nest t h) [
      | inl p ↦ subst (λ (x : ℕ). AfterError nest (x ∷ t)) (sym (eqb-true c 40 p.0)) (paren_error nest t p.1)
      | inr p ↦ inr (no_cause_here c t e p.0, go_sound nest c t p.1)
    ]

error_end_only : (nest : List Enclosure) (c : ℕ) (t : List ℕ) → AfterError nest (past_blanks (c ∷ t)) → Goes (behind_error (innermost nest) c) nest t
unfolding behind_error
error_end_only nest c t h = over (is_blank c) c (AfterError nest) mode.ErrorEnded _ nest t refl (λ k. k) (λ e k. error_only nest c t e k) h

error_end_sound : (nest : List Enclosure) (c : ℕ) (t : List ℕ) → Goes (behind_error (innermost nest) c) nest t → AfterError nest (past_blanks (c ∷ t))
unfolding behind_error
error_end_sound nest c t h = over_back (is_blank c) c (AfterError nest) mode.ErrorEnded _ nest t refl (λ k. k) (λ e k. error_sound nest c t e k) h

-- ---- one sign

sign_only : (d c : ℕ) (m : Mode) (nest : List Enclosure) (t : List ℕ) (Q : List ℕ → Type 0) → (Q t → Rest m nest t) → (r : List ℕ) → c ∷ t ≡ d ∷ r → Q r → Goes (cond (eqb c d) (move.To m) move.Bad) nest t
sign_only d c m nest t Q f r h k =
    let q = cons_eq h in
    let same : eqb c d ≡ true = eq-eqb c d q.0 in
    rw same (f (subst Q (sym q.1) k))

sign_back : (d c : ℕ) (m : Mode) (nest : List Enclosure) (t : List ℕ) (Q : List ℕ → Type 0) → (Rest m nest t → Q t) → Goes (cond (eqb c d) (move.To m) move.Bad) nest t → (r : List ℕ) × Sign d (c ∷ t) r × Q r
sign_back d c m nest t Q f h =
    elim (goes_if (eqb c d) (move.To m) move.Bad nest t h) [
      | inl p ↦ (t, sign_of c d t p.0, f p.1)
      | inr p ↦ absurd p.1
    ]

-- ---- behind words

cause_end_only : (nest : List Enclosure) (c : ℕ) (t : List ℕ) → CauseCloses nest (past_blanks (c ∷ t)) → Goes (behind_cause c) nest t
unfolding behind_cause
cause_end_only nest c t h = over (is_blank c) c (CauseCloses nest) mode.CauseEnded _ nest t refl (λ k. k) (λ e k. sign_only 41 c mode.Ended nest t (λ (x : List ℕ). Closes nest (past_blanks x)) (λ l. l) k.0 k.1 k.2) h

cause_end_sound : (nest : List Enclosure) (c : ℕ) (t : List ℕ) → Goes (behind_cause c) nest t → CauseCloses nest (past_blanks (c ∷ t))
unfolding behind_cause
cause_end_sound nest c t h = over_back (is_blank c) c (CauseCloses nest) mode.CauseEnded _ nest t refl (λ k. k) (λ e k. sign_back 41 c mode.Ended nest t (λ (x : List ℕ). Closes nest (past_blanks x)) (λ l. l) k) h

ended_only : (nest : List Enclosure) (c : ℕ) (t : List ℕ) → Closes nest (past_blanks (c ∷ t)) → Goes (ended (innermost nest) c) nest t
unfolding ended
ended_only nest c t h = over (is_blank c) c (Closes nest) mode.Ended _ nest t refl (λ k. k) (λ e k. go_only nest c t k) h

ended_sound : (nest : List Enclosure) (c : ℕ) (t : List ℕ) → Goes (ended (innermost nest) c) nest t → Closes nest (past_blanks (c ∷ t))
unfolding ended
ended_sound nest c t h = over_back (is_blank c) c (Closes nest) mode.Ended _ nest t refl (λ k. k) (λ e k. go_sound nest c t k) h

after_only : (w : Spelt) (nest : List Enclosure) (c : ℕ) (t : List ℕ) → AfterWord w nest (c ∷ t) → Goes (after_word w (innermost nest) c) nest t
after_only word.Error nest c t h = error_end_only nest c t h
after_only word.Nil nest c t h = ended_only nest c t h
after_only word.Yes nest c t h = ended_only nest c t h
after_only word.No nest c t h = ended_only nest c t h
after_only word.Overflow nest c t h = cause_end_only nest c t h
after_only word.Zero nest c t h = cause_end_only nest c t h
after_only word.Bounds nest c t h = cause_end_only nest c t h
after_only word.Empty nest c t h = cause_end_only nest c t h
after_only word.Size nest c t h = cause_end_only nest c t h
after_only word.Tag nest c t h = cause_end_only nest c t h
after_only word.Explicit nest c t h = cause_end_only nest c t h

after_sound : (w : Spelt) (nest : List Enclosure) (c : ℕ) (t : List ℕ) → Goes (after_word w (innermost nest) c) nest t → AfterWord w nest (c ∷ t)
after_sound word.Error nest c t h = error_end_sound nest c t h
after_sound word.Nil nest c t h = ended_sound nest c t h
after_sound word.Yes nest c t h = ended_sound nest c t h
after_sound word.No nest c t h = ended_sound nest c t h
after_sound word.Overflow nest c t h = cause_end_sound nest c t h
after_sound word.Zero nest c t h = cause_end_sound nest c t h
after_sound word.Bounds nest c t h = cause_end_sound nest c t h
after_sound word.Empty nest c t h = cause_end_sound nest c t h
after_sound word.Size nest c t h = cause_end_sound nest c t h
after_sound word.Tag nest c t h = cause_end_sound nest c t h
after_sound word.Explicit nest c t h = cause_end_sound nest c t h

behind_only : (w : Spelt) (nest : List Enclosure) (c : ℕ) (t : List ℕ) → ends_row (c ∷ t) ≡ true → AfterWord w nest (c ∷ t) → Goes (behind_word w (innermost nest) c) nest t
unfolding behind_word
behind_only w nest c t e h = rw (not-true (is_digit c || is_letter c) e) (after_only w nest c t h)

behind_sound : (w : Spelt) (nest : List Enclosure) (c : ℕ) (t : List ℕ) → Goes (behind_word w (innermost nest) c) nest t → (ends_row (c ∷ t) ≡ true) × AfterWord w nest (c ∷ t)
unfolding behind_word
behind_sound w nest c t h =
    elim (goes_if (is_digit c || is_letter c) move.Bad (after_word w (innermost nest) c) nest t h) [
      | inl p ↦ absurd p.1
      | inr p ↦ (not_from_false (is_digit c || is_letter c) p.0, after_sound w nest c t p.1)
    ]

word_only : (w : Spelt) (k : ℕ) (nest : List Enclosure) (c : ℕ) (t : List ℕ) → WordRest w (drop k (letters_of w)) nest (c ∷ t) → Goes (in_word w k (innermost nest) c) nest t
unfolding in_word
word_only w k nest c t h = go (ltb k (length (letters_of w))) refl
  where
    go : (b : Bool) → ltb k (length (letters_of w)) ≡ b → Goes (cond b (cond (eqb (get_or (letters_of w) k 0) c) (move.To (mode.Word w (k + 1))) move.Bad) (behind_word w (innermost nest) c)) nest t
    go true e =
        let q = cons_eq (h.spelled ∙ ap (λ (l : List ℕ). l ++ h.rest) (drop_more (letters_of w) k 0 (ltb-true k (length (letters_of w)) e))) in
        let same : eqb (get_or (letters_of w) k 0) c ≡ true = eq-eqb (get_or (letters_of w) k 0) c (sym q.0) in
        rw same (record { rest = h.rest; spelled = q.1; alone = h.alone; after = h.after })
    go false e =
        let q : c ∷ t ≡ h.rest = h.spelled ∙ ap (λ (l : List ℕ). l ++ h.rest) (drop_of_length-le (letters_of w) (ltb-false k (length (letters_of w)) e)) in
        behind_only w nest c t (ap ends_row q ∙ h.alone) (subst (AfterWord w nest) (sym q) h.after)

word_sound : (w : Spelt) (k : ℕ) (nest : List Enclosure) (c : ℕ) (t : List ℕ) → Goes (in_word w k (innermost nest) c) nest t → WordRest w (drop k (letters_of w)) nest (c ∷ t)
unfolding in_word
word_sound w k nest c t h = go (ltb k (length (letters_of w))) refl h
  where
    inside : ltb k (length (letters_of w)) ≡ true → Goes (cond (eqb (get_or (letters_of w) k 0) c) (move.To (mode.Word w (k + 1))) move.Bad) nest t → WordRest w (drop k (letters_of w)) nest (c ∷ t)
    inside e l =
        elim (goes_if (eqb (get_or (letters_of w) k 0) c) _ _ nest t l) [
          | inl p ↦ record { rest = p.1.rest; spelled = rw (drop_more (letters_of w) k 0 (ltb-true k (length (letters_of w)) e), eqb-true _ _ p.0) (ap (λ (x : List ℕ). c ∷ x) p.1.spelled); alone = p.1.alone; after = p.1.after }
          | inr p ↦ absurd p.1
        ]

    behind : ltb k (length (letters_of w)) ≡ false → (ends_row (c ∷ t) ≡ true) × AfterWord w nest (c ∷ t) → WordRest w (drop k (letters_of w)) nest (c ∷ t)
    behind e l = record { rest = c ∷ t; spelled = rw (drop_of_length-le (letters_of w) (ltb-false k (length (letters_of w)) e)) refl; alone = l.0; after = l.1 }

    go : (b : Bool) → ltb k (length (letters_of w)) ≡ b → Goes (cond b (cond (eqb (get_or (letters_of w) k 0) c) (move.To (mode.Word w (k + 1))) move.Bad) (behind_word w (innermost nest) c)) nest t → WordRest w (drop k (letters_of w)) nest (c ∷ t)
    go true e l = inside e l
    go false e l = behind e (behind_sound w nest c t l)

-- ---- behind `error` and a parenthesis

letter_gone : (w : Spelt) (d : ℕ) (ds : List ℕ) (nest : List Enclosure) (c : ℕ) (t : List ℕ) → (h : WordRest w (d ∷ ds) nest (c ∷ t)) → (c ≡ d) × WordRest w ds nest t
letter_gone w d ds nest c t h = let q = cons_eq h.spelled in (q.0, record { rest = h.rest; spelled = q.1; alone = h.alone; after = h.after })

letter_back : (w : Spelt) (d : ℕ) (ds : List ℕ) (nest : List Enclosure) (c : ℕ) (t : List ℕ) → eqb c d ≡ true → WordRest w ds nest t → WordRest w (d ∷ ds) nest (c ∷ t)
letter_back w d ds nest c t e h = record { rest = h.rest; spelled = rw (eqb-true c d e) (ap (λ (x : List ℕ). d ∷ x) h.spelled); alone = h.alone; after = h.after }

cause_only : (nest : List Enclosure) (c : ℕ) (t : List ℕ) → CauseRest nest (c ∷ t) → Goes (cause (innermost nest) c) nest t
unfolding cause
cause_only nest c t (inl (because.Overflow, h)) = let g = letter_gone word.Overflow 111 (codes "verflow") nest c t h in at_byte (cause (innermost nest)) c 111 nest t g.0 g.1
cause_only nest c t (inl (because.Zero, h)) = let g = letter_gone word.Zero 122 (codes "ero") nest c t h in at_byte (cause (innermost nest)) c 122 nest t g.0 g.1
cause_only nest c t (inl (because.Bounds, h)) = let g = letter_gone word.Bounds 98 (codes "ounds") nest c t h in at_byte (cause (innermost nest)) c 98 nest t g.0 g.1
cause_only nest c t (inl (because.Empty, h)) = let g = letter_gone word.Empty 101 (codes "mpty") nest c t h in at_byte (cause (innermost nest)) c 101 nest t g.0 (inl g.1)
cause_only nest c t (inl (because.Size, h)) = let g = letter_gone word.Size 115 (codes "ize") nest c t h in at_byte (cause (innermost nest)) c 115 nest t g.0 g.1
cause_only nest c t (inl (because.Tag, h)) = let g = letter_gone word.Tag 116 (codes "ag") nest c t h in at_byte (cause (innermost nest)) c 116 nest t g.0 g.1
cause_only nest c t (inl (because.Explicit, h)) = let g = letter_gone word.Explicit 101 (codes "xplicit") nest c t h in at_byte (cause (innermost nest)) c 101 nest t g.0 (inr g.1)
cause_only nest c t (inr (e, (k, b, n, a))) =
    let d = digits_first number.Tag k c t b (in_.Union ∷ nest) n a in
    rw (d.0, e) d.1

cause_sound : (nest : List Enclosure) (c : ℕ) (t : List ℕ) → Goes (cause (innermost nest) c) nest t → CauseRest nest (c ∷ t)
unfolding cause
cause_sound nest c t h =
    elim (goes_if (is_digit c) _ _ nest t h) [
      | inl p ↦ elim (goes_if (holds_many (innermost nest)) _ _ nest t p.1) [
        | inl q ↦ inr (q.0, number_first number.Tag c t (in_.Union ∷ nest) p.0 q.1)
        | inr q ↦ absurd q.1
      ]
      | inr p ↦ elim (goes_if (eqb c 111) _ _ nest t p.1) [
        | inl p ↦ inl (because.Overflow, letter_back word.Overflow 111 (codes "verflow") nest c t p.0 p.1)
        | inr p ↦ elim (goes_if (eqb c 122) _ _ nest t p.1) [
          | inl p ↦ inl (because.Zero, letter_back word.Zero 122 (codes "ero") nest c t p.0 p.1)
          | inr p ↦ elim (goes_if (eqb c 98) _ _ nest t p.1) [
            | inl p ↦ inl (because.Bounds, letter_back word.Bounds 98 (codes "ounds") nest c t p.0 p.1)
            | inr p ↦ elim (goes_if (eqb c 115) _ _ nest t p.1) [
              | inl p ↦ inl (because.Size, letter_back word.Size 115 (codes "ize") nest c t p.0 p.1)
              | inr p ↦ elim (goes_if (eqb c 116) _ _ nest t p.1) [
                | inl p ↦ inl (because.Tag, letter_back word.Tag 116 (codes "ag") nest c t p.0 p.1)
                | inr p ↦ elim (goes_if (eqb c 101) _ _ nest t p.1) [
                  | inl p ↦ with_e p.0 p.1
                  | inr p ↦ absurd p.1
                ]
              ]
            ]
          ]
        ]
      ]
    ]
  where
    with_e : eqb c 101 ≡ true → Rest mode.CauseE nest t → CauseRest nest (c ∷ t)
    with_e e (inl l) = inl (because.Empty, letter_back word.Empty 101 (codes "mpty") nest c t e l)
    with_e e (inr l) = inl (because.Explicit, letter_back word.Explicit 101 (codes "xplicit") nest c t e l)

cause_e_only : (nest : List Enclosure) (c : ℕ) (t : List ℕ) → Rest mode.CauseE nest (c ∷ t) → Goes (cause_e c) nest t
unfolding cause_e
cause_e_only nest c t (inl h) = let g = letter_gone word.Empty 109 (codes "pty") nest c t h in at_byte cause_e c 109 nest t g.0 g.1
cause_e_only nest c t (inr h) = let g = letter_gone word.Explicit 120 (codes "plicit") nest c t h in at_byte cause_e c 120 nest t g.0 g.1

cause_e_sound : (nest : List Enclosure) (c : ℕ) (t : List ℕ) → Goes (cause_e c) nest t → Rest mode.CauseE nest (c ∷ t)
unfolding cause_e
cause_e_sound nest c t h =
    elim (goes_if (eqb c 109) _ _ nest t h) [
      | inl p ↦ inl (letter_back word.Empty 109 (codes "pty") nest c t p.0 p.1)
      | inr p ↦ elim (goes_if (eqb c 120) _ _ nest t p.1) [
        | inl p ↦ inr (letter_back word.Explicit 120 (codes "plicit") nest c t p.0 p.1)
        | inr p ↦ absurd p.1
      ]
    ]

-- ---- numbers

closed_only : (n : Kind) (nest : List Enclosure) (c : ℕ) (t : List ℕ) → AfterNumber n nest (c ∷ t) → Goes (number_closed n (innermost nest) c) nest t
closed_only number.Integer nest c t h = go_only nest c t h
closed_only number.Bound nest c t (r, h, k) = sign_only 58 c mode.Ended nest t (λ (x : List ℕ). Closes nest (past_blanks x)) (λ l. l) r h k
closed_only number.Tag nest c t (r, h, k) = sign_only 58 c mode.Wanted nest t (λ (x : List ℕ). Value nest (past_blanks x)) (λ l. l) r h k

closed_sound : (n : Kind) (nest : List Enclosure) (c : ℕ) (t : List ℕ) → Goes (number_closed n (innermost nest) c) nest t → AfterNumber n nest (c ∷ t)
closed_sound number.Integer nest c t h = go_sound nest c t h
closed_sound number.Bound nest c t h = sign_back 58 c mode.Ended nest t (λ (x : List ℕ). Closes nest (past_blanks x)) (λ l. l) h
closed_sound number.Tag nest c t h = sign_back 58 c mode.Wanted nest t (λ (x : List ℕ). Value nest (past_blanks x)) (λ l. l) h

number_end_only : (n : Kind) (nest : List Enclosure) (c : ℕ) (t : List ℕ) → AfterNumber n nest (past_blanks (c ∷ t)) → Goes (behind_number n (innermost nest) c) nest t
unfolding behind_number
number_end_only n nest c t h = over (is_blank c) c (AfterNumber n nest) (mode.NumberEnded n) _ nest t refl (λ k. k) (λ e k. closed_only n nest c t k) h

number_end_sound : (n : Kind) (nest : List Enclosure) (c : ℕ) (t : List ℕ) → Goes (behind_number n (innermost nest) c) nest t → AfterNumber n nest (past_blanks (c ∷ t))
unfolding behind_number
number_end_sound n nest c t h = over_back (is_blank c) c (AfterNumber n nest) (mode.NumberEnded n) _ nest t refl (λ k. k) (λ e k. closed_sound n nest c t k) h

digits_only : (n : Kind) (nest : List Enclosure) (c : ℕ) (t : List ℕ) → DigitsRest n nest (c ∷ t) → Goes (in_digits n (innermost nest) c) nest t
unfolding in_digits
digits_only n nest c t h = go h.row h.spelled h.digits
  where
    go : (row : List ℕ) → c ∷ t ≡ row ++ h.rest → list_all is_digit row ≡ true → Goes (in_digits n (innermost nest) c) nest t
    go [] e d =
        let alone : ends_row (c ∷ t) ≡ true = ap ends_row e ∙ h.alone in
        let neither = or_parts (is_digit c) (is_letter c) (not-true (is_digit c || is_letter c) alone) in
        rw (neither.0, neither.1) (number_end_only n nest c t (subst (λ (x : List ℕ). AfterNumber n nest (past_blanks x)) (sym e) h.after))
    go (x ∷ row) e d =
        let q = cons_eq e in
        let p = and_two (is_digit x) (list_all is_digit row) d in
        let same : is_digit c ≡ true = ap is_digit q.0 ∙ p.0 in
        rw same (record { row = row; rest = h.rest; spelled = q.1; digits = p.1; alone = h.alone; after = h.after })

digits_sound : (n : Kind) (nest : List Enclosure) (c : ℕ) (t : List ℕ) → Goes (in_digits n (innermost nest) c) nest t → DigitsRest n nest (c ∷ t)
unfolding in_digits
digits_sound n nest c t h =
    elim (goes_if (is_digit c) _ _ nest t h) [
      | inl p ↦ record { row = c ∷ p.1.row; rest = p.1.rest; spelled = ap (λ (x : List ℕ). c ∷ x) p.1.spelled; digits = rw p.0 p.1.digits; alone = p.1.alone; after = p.1.after }
      | inr p ↦ elim (goes_if (is_letter c) _ _ nest t p.1) [
        | inl q ↦ absurd q.1
        | inr q ↦ record { row = []; rest = c ∷ t; spelled = refl; digits = refl; alone = rw (p.0, q.0) refl; after = number_end_sound n nest c t q.1 }
      ]
    ]

digit_only : (n : Kind) (nest : List Enclosure) (c : ℕ) (t : List ℕ) → NumberRest n nest (c ∷ t) → Goes (in_digit n c) nest t
unfolding in_digit
digit_only n nest c t (k, b, h, a) = let d = digits_first n k c t b nest h a in rw d.0 d.1

digit_sound : (n : Kind) (nest : List Enclosure) (c : ℕ) (t : List ℕ) → Goes (in_digit n c) nest t → NumberRest n nest (c ∷ t)
unfolding in_digit
digit_sound n nest c t h =
    elim (goes_if (is_digit c) _ _ nest t h) [
      | inl p ↦ number_first n c t nest p.0 p.1
      | inr p ↦ absurd p.1
    ]

bound_only : (nest : List Enclosure) (c : ℕ) (t : List ℕ) → BoundRest nest (c ∷ t) → Goes (in_bound c) nest t
unfolding in_bound
bound_only nest c t (z, b, plain n h e, a) = let d = digits_first number.Bound n c t b nest h a in rw d.0 d.1
bound_only nest c t (z, b, minus n u o h e, a) =
    let q = cons_eq o in
    at_byte in_bound c 45 nest t q.0 (n, b, subst (λ (x : List ℕ). Number n (past_blanks x) b) (sym q.1) h, a)

bound_sound : (nest : List Enclosure) (c : ℕ) (t : List ℕ) → Goes (in_bound c) nest t → BoundRest nest (c ∷ t)
unfolding in_bound
bound_sound nest c t h =
    elim (goes_if (is_digit c) _ _ nest t h) [
      | inl p ↦ as_plain (number_first number.Bound c t nest p.0 p.1)
      | inr p ↦ elim (goes_if (eqb c 45) _ _ nest t p.1) [
        | inl q ↦ as_minus q.0 q.1
        | inr q ↦ absurd q.1
      ]
    ]
  where
    as_plain : NumberRest number.Bound nest (c ∷ t) → BoundRest nest (c ∷ t)
    as_plain (n, b, i, a) = (pos n, b, plain n i refl, a)

    as_minus : eqb c 45 ≡ true → NumberRest number.Bound nest (past_blanks t) → BoundRest nest (c ∷ t)
    as_minus e (n, b, i, a) = (neg_ℤ (pos n), b, minus n t (sign_of c 45 t e) i refl, a)

-- ---- between quotes

goes_after : (q : Quoted) (nest : List Enclosure) (t : List ℕ) → AfterItem q nest t → Rest (after_item q) nest t
goes_after quoted.Character nest t h = h
goes_after quoted.Text nest t h = h

after_goes : (q : Quoted) (nest : List Enclosure) (t : List ℕ) → Rest (after_item q) nest t → AfterItem q nest t
after_goes quoted.Character nest t h = h
after_goes quoted.Text nest t h = h

item_plain : (quote c x : ℕ) (t b : List ℕ) → eqb c 92 ≡ false → Item quote x (c ∷ t) b → (is_plain quote c ≡ true) × (b ≡ t)
item_plain quote c x t b e (itself p h) = let q = cons_eq h in (subst (λ (y : ℕ). is_plain quote y ≡ true) (sym q.0) p, sym q.1)
item_plain quote c x t b e (escaped d p h) = absurd (other c 92 e (cons_eq h).0)
item_plain quote c x t b e (coded high low n p d v h) = absurd (other c 92 e (cons_eq h).0)

item_only : (q : Quoted) (nest : List Enclosure) (c : ℕ) (t : List ℕ) → ItemRest q nest (c ∷ t) → Goes (in_item q c) nest t
unfolding in_item
item_only q nest c t h = go (eqb c 92) refl h
  where
    go : (b : Bool) → eqb c 92 ≡ b → ItemRest q nest (c ∷ t) → Goes (cond b (move.To (mode.Escape q)) (cond (is_plain (quote_of q) c) (move.To (after_item q)) move.Bad)) nest t
    go true e h = subst (λ (x : ℕ). ItemRest q nest (x ∷ t)) (eqb-true c 92 e) h
    go false e (x, b, i, a) =
        let p = item_plain (quote_of q) c x t b e i in
        rw p.0 (goes_after q nest t (subst (AfterItem q nest) p.1 a))

item_sound : (q : Quoted) (nest : List Enclosure) (c : ℕ) (t : List ℕ) → Goes (in_item q c) nest t → ItemRest q nest (c ∷ t)
unfolding in_item
item_sound q nest c t h =
    elim (goes_if (eqb c 92) _ _ nest t h) [
      | inl p ↦ subst (λ (x : ℕ). ItemRest q nest (x ∷ t)) (sym (eqb-true c 92 p.0)) p.1
      | inr p ↦ elim (goes_if (is_plain (quote_of q) c) _ _ nest t p.1) [
        | inl r ↦ (c, t, itself r.0 refl, after_goes q nest t r.1)
        | inr r ↦ absurd r.1
      ]
    ]

no_item_34 : (t : List ℕ) (nest : List Enclosure) → Goes (in_item quoted.Text 34) nest t → ⊥
unfolding in_item
no_item_34 t nest h = h

quoted_only : (q : Quoted) (nest : List Enclosure) (c : ℕ) (t : List ℕ) → QuotedRest q nest (c ∷ t) → Goes (in_quotes q c) nest t
unfolding in_quotes
quoted_only quoted.Character nest c t h = item_only quoted.Character nest c t h
quoted_only quoted.Text nest c t ([], r, h, k) = sign_more 34 c t r h k
  where
    sign_more : (d c : ℕ) (t r : List ℕ) → c ∷ t ≡ d ∷ r → Closes nest (past_blanks r) → Goes (cond (eqb c d) (move.To mode.Ended) (in_item quoted.Text c)) nest t
    sign_more d c t r h k =
        let q = cons_eq h in
        let same : eqb c d ≡ true = eq-eqb c d q.0 in
        rw same (subst (λ (x : List ℕ). Closes nest (past_blanks x)) (sym q.1) k)
quoted_only quoted.Text nest c t (x ∷ cs, r, h, k) = go (eqb c 34) refl (item_only quoted.Text nest c t (x, h.0, h.1, (cs, r, h.2, k)))
  where
    go : (b : Bool) → eqb c 34 ≡ b → Goes (in_item quoted.Text c) nest t → Goes (cond b (move.To mode.Ended) (in_item quoted.Text c)) nest t
    go false e l = l
    go true e l = absurd (no_item_34 t nest (subst (λ (y : ℕ). Goes (in_item quoted.Text y) nest t) (eqb-true c 34 e) l))

quoted_sound : (q : Quoted) (nest : List Enclosure) (c : ℕ) (t : List ℕ) → Goes (in_quotes q c) nest t → QuotedRest q nest (c ∷ t)
unfolding in_quotes
quoted_sound quoted.Character nest c t h = item_sound quoted.Character nest c t h
quoted_sound quoted.Text nest c t h =
    elim (goes_if (eqb c 34) _ _ nest t h) [
      | inl p ↦ ([], t, sign_of c 34 t p.0, p.1)
      | inr p ↦ more (item_sound quoted.Text nest c t p.1)
    ]
  where
    more : ItemRest quoted.Text nest (c ∷ t) → QuotedRest quoted.Text nest (c ∷ t)
    more (x, b, i, (cs, r, js, k)) = (x ∷ cs, r, (b, i, js), k)

plain_92 : (quote : ℕ) → is_plain quote 92 ≡ false
plain_92 quote = refl

tail_eq : {c d : ℕ} {t u : List ℕ} → c ∷ t ≡ d ∷ u → t ≡ u
tail_eq e = (cons_eq e).1

none_some : (x : ℕ) → None ≡ Some x → ⊥
none_some x e = cc

some_goes : (o : Option ℕ) (x : ℕ) (m : Move) (nest : List Enclosure) (t : List ℕ) → o ≡ Some x → Goes m nest t → Goes (if_some o m) nest t
some_goes o x m nest t e h = rw e h

escape_only : (q : Quoted) (nest : List Enclosure) (c : ℕ) (t : List ℕ) → ItemRest q nest (92 ∷ c ∷ t) → Goes (escape_leads q c) nest t
unfolding escape_leads
escape_only q nest c t h = go (eqb c 120) refl h
  where
    by_item : (x : ℕ) (b : List ℕ) → eqb c 120 ≡ false → Item (quote_of q) x (92 ∷ c ∷ t) b → AfterItem q nest b → Goes (if_some (escape_of c) (move.To (after_item q))) nest t
    by_item x b e (itself p h) a = absurd (both_ways (is_plain (quote_of q) 92) (plain_92 (quote_of q)) (subst (λ (y : ℕ). is_plain (quote_of q) y ≡ true) (sym (cons_eq h).0) p))
    by_item x b e (escaped d p h) a =
        let r = cons_eq (tail_eq h) in
        some_goes (escape_of c) x (move.To (after_item q)) nest t (ap escape_of r.0 ∙ p) (goes_after q nest t (subst (AfterItem q nest) (sym r.1) a))
    by_item x b e (coded high low n p d v h) a = absurd (other c 120 e (cons_eq (tail_eq h)).0)

    go : (b : Bool) → eqb c 120 ≡ b → ItemRest q nest (92 ∷ c ∷ t) → Goes (cond b (move.To (mode.High q)) (if_some (escape_of c) (move.To (after_item q)))) nest t
    go true e h = subst (λ (x : ℕ). ItemRest q nest (92 ∷ x ∷ t)) (eqb-true c 120 e) h
    go false e (x, b, i, a) = by_item x b e i a

escape_sound : (q : Quoted) (nest : List Enclosure) (c : ℕ) (t : List ℕ) → Goes (escape_leads q c) nest t → ItemRest q nest (92 ∷ c ∷ t)
unfolding escape_leads
escape_sound q nest c t h =
    elim (goes_if (eqb c 120) _ _ nest t h) [
      | inl p ↦ subst (λ (x : ℕ). ItemRest q nest (92 ∷ x ∷ t)) (sym (eqb-true c 120 p.0)) p.1
      | inr p ↦ by_escape (escape_of c) refl p.1
    ]
  where
    by_escape : (o : Option ℕ) → escape_of c ≡ o → Goes (if_some o (move.To (after_item q))) nest t → ItemRest q nest (92 ∷ c ∷ t)
    by_escape None e l = absurd l
    by_escape (Some x) e l = (x, t, escaped c e refl, after_goes q nest t l)

record CodedRest (h : ℕ) (s b : List ℕ) : Type 0 where
  low : ℕ
  number : ℕ
  is_high : (nat_le 48 h && nat_le h 55) ≡ true
  is_low : hex_digit low ≡ Some number
  spelled : s ≡ low ∷ b

coded_parts : (quote x h : ℕ) (s b : List ℕ) → Item quote x (92 ∷ 120 ∷ h ∷ s) b → CodedRest h s b
coded_parts quote x h s b (itself p e) = absurd (both_ways (is_plain quote 92) (plain_92 quote) (subst (λ (y : ℕ). is_plain quote y ≡ true) (sym (cons_eq e).0) p))
coded_parts quote x h s b (escaped d p e) = absurd (none_some x (ap escape_of (cons_eq (tail_eq e)).0 ∙ p))
coded_parts quote x h s b (coded high low n p d v e) =
    let q = cons_eq (tail_eq (tail_eq e)) in
    record { low = low; number = n; is_high = subst (λ (y : ℕ). (nat_le 48 y && nat_le y 55) ≡ true) (sym q.0) p; is_low = d; spelled = q.1 }

high_only : (q : Quoted) (nest : List Enclosure) (c : ℕ) (t : List ℕ) → ItemRest q nest (92 ∷ 120 ∷ c ∷ t) → Goes (high_leads q c) nest t
unfolding high_leads
high_only q nest c t (x, b, i, a) =
    let p = (coded_parts (quote_of q) x c t b i).is_high in
    rw p (c, p, (x, b, i, a))

high_sound : (q : Quoted) (nest : List Enclosure) (c : ℕ) (t : List ℕ) → Goes (high_leads q c) nest t → ItemRest q nest (92 ∷ 120 ∷ c ∷ t)
unfolding high_leads
high_sound q nest c t h =
    elim (goes_if (nat_le 48 c && nat_le c 55) _ _ nest t h) [
      | inl p ↦ again p.0 p.1
      | inr p ↦ absurd p.1
    ]
  where
    again : (nat_le 48 c && nat_le c 55) ≡ true → LowRest q nest t → ItemRest q nest (92 ∷ 120 ∷ c ∷ t)
    again e (d, f, (x, b, i, a)) =
        let p = coded_parts (quote_of q) x d t b i in
        ((c - 48) * 16 + p.number, b, coded c p.low p.number e p.is_low refl (ap (λ (y : List ℕ). 92 ∷ 120 ∷ c ∷ y) p.spelled), a)

low_only : (q : Quoted) (nest : List Enclosure) (c : ℕ) (t : List ℕ) → LowRest q nest (c ∷ t) → Goes (low_leads q c) nest t
unfolding low_leads
low_only q nest c t (d, f, (x, b, i, a)) =
    let p = coded_parts (quote_of q) x d (c ∷ t) b i in
    let r = cons_eq p.spelled in
    some_goes (hex_digit c) p.number (move.To (after_item q)) nest t (ap hex_digit r.0 ∙ p.is_low) (goes_after q nest t (subst (AfterItem q nest) (sym r.1) a))

low_sound : (q : Quoted) (nest : List Enclosure) (c : ℕ) (t : List ℕ) → Goes (low_leads q c) nest t → LowRest q nest (c ∷ t)
unfolding low_leads
low_sound q nest c t h = go (hex_digit c) refl h
  where
    go : (o : Option ℕ) → hex_digit c ≡ o → Goes (if_some o (move.To (after_item q))) nest t → LowRest q nest (c ∷ t)
    go None e l = absurd l
    go (Some n) e l = (48, refl, ((48 - 48) * 16 + n, t, coded 48 c n refl e refl refl, after_goes q nest t l))

-- ---- all modes

value_only : (nest : List Enclosure) (c : ℕ) (t : List ℕ) → Value nest (c ∷ t) → Goes (begin c) nest t
value_only nest c t (f, r, h, k) = begin_only c t nest f r h k

pub next_only : (m : Mode) (nest : List Enclosure) (c : ℕ) (t : List ℕ) → Rest m nest (c ∷ t) → Goes (next m (innermost nest) c) nest t
unfolding character_ended
next_only mode.Wanted nest c t h = over (is_blank c) c (Value nest) mode.Wanted _ nest t refl (λ k. k) (λ e k. value_only nest c t k) h
next_only mode.Ended nest c t h = over (is_blank c) c (Closes nest) mode.Ended _ nest t refl (λ k. k) (λ e k. go_only nest c t k) h
next_only (mode.Word w n) nest c t h = word_only w n nest c t h
next_only mode.ErrorEnded nest c t h = over (is_blank c) c (AfterError nest) mode.ErrorEnded _ nest t refl (λ k. k) (λ e k. error_end_only nest c t (subst (AfterError nest) (sym (solid c t e)) k)) h
next_only mode.Cause nest c t h = over (is_blank c) c (CauseRest nest) mode.Cause _ nest t refl (λ k. k) (λ e k. cause_only nest c t k) h
next_only mode.CauseE nest c t h = cause_e_only nest c t h
next_only mode.CauseEnded nest c t h = over (is_blank c) c (CauseCloses nest) mode.CauseEnded _ nest t refl (λ k. k) (λ e k. cause_end_only nest c t (subst (CauseCloses nest) (sym (solid c t e)) k)) h
next_only (mode.Digit n) nest c t h = over (is_blank c) c (NumberRest n nest) (mode.Digit n) _ nest t refl (λ k. k) (λ e k. digit_only n nest c t k) h
next_only (mode.Digits n) nest c t h = digits_only n nest c t h
next_only mode.Bound nest c t h = over (is_blank c) c (BoundRest nest) mode.Bound _ nest t refl (λ k. k) (λ e k. bound_only nest c t k) h
next_only (mode.NumberEnded n) nest c t h = over (is_blank c) c (AfterNumber n nest) (mode.NumberEnded n) _ nest t refl (λ k. k) (λ e k. number_end_only n nest c t (subst (AfterNumber n nest) (sym (solid c t e)) k)) h
next_only (mode.Item q) nest c t h = quoted_only q nest c t h
next_only mode.CharacterEnded nest c t (r, h, k) = sign_only 39 c mode.Ended nest t (λ (x : List ℕ). Closes nest (past_blanks x)) (λ l. l) r h k
next_only (mode.Escape q) nest c t h = escape_only q nest c t h
next_only (mode.High q) nest c t h = high_only q nest c t h
next_only (mode.Low q) nest c t h = low_only q nest c t h

pub next_sound : (m : Mode) (nest : List Enclosure) (c : ℕ) (t : List ℕ) → Goes (next m (innermost nest) c) nest t → Rest m nest (c ∷ t)
unfolding character_ended
next_sound mode.Wanted nest c t h = over_back (is_blank c) c (Value nest) mode.Wanted _ nest t refl (λ k. k) (λ e k. begin_sound c t nest k) h
next_sound mode.Ended nest c t h = over_back (is_blank c) c (Closes nest) mode.Ended _ nest t refl (λ k. k) (λ e k. go_sound nest c t k) h
next_sound (mode.Word w n) nest c t h = word_sound w n nest c t h
next_sound mode.ErrorEnded nest c t h = over_back (is_blank c) c (AfterError nest) mode.ErrorEnded _ nest t refl (λ k. k) (λ e k. subst (AfterError nest) (solid c t e) (error_end_sound nest c t k)) h
next_sound mode.Cause nest c t h = over_back (is_blank c) c (CauseRest nest) mode.Cause _ nest t refl (λ k. k) (λ e k. cause_sound nest c t k) h
next_sound mode.CauseE nest c t h = cause_e_sound nest c t h
next_sound mode.CauseEnded nest c t h = over_back (is_blank c) c (CauseCloses nest) mode.CauseEnded _ nest t refl (λ k. k) (λ e k. subst (CauseCloses nest) (solid c t e) (cause_end_sound nest c t k)) h
next_sound (mode.Digit n) nest c t h = over_back (is_blank c) c (NumberRest n nest) (mode.Digit n) _ nest t refl (λ k. k) (λ e k. digit_sound n nest c t k) h
next_sound (mode.Digits n) nest c t h = digits_sound n nest c t h
next_sound mode.Bound nest c t h = over_back (is_blank c) c (BoundRest nest) mode.Bound _ nest t refl (λ k. k) (λ e k. bound_sound nest c t k) h
next_sound (mode.NumberEnded n) nest c t h = over_back (is_blank c) c (AfterNumber n nest) (mode.NumberEnded n) _ nest t refl (λ k. k) (λ e k. subst (AfterNumber n nest) (solid c t e) (number_end_sound n nest c t k)) h
next_sound (mode.Item q) nest c t h = quoted_sound q nest c t h
next_sound mode.CharacterEnded nest c t h = sign_back 39 c mode.Ended nest t (λ (x : List ℕ). Closes nest (past_blanks x)) (λ l. l) h
next_sound (mode.Escape q) nest c t h = escape_sound q nest c t h
next_sound (mode.High q) nest c t h = high_sound q nest c t h
next_sound (mode.Low q) nest c t h = low_sound q nest c t h
