-- A shortest text that may follow, whatever was read; and where a value text may end.
use Rattle.std.proofs.Common.{◌≡◌, ℕ, zero, suc, ◌+◌, ◌-◌, ◌*◌, ◌<◌, ◌≤◌, ℤ, pos, Bool, true, false, cond, not, ◌||◌, ◌&&◌, eqb, ltb, leb, List, [], ◌∷◌, ◌++◌, length, drop, get_or, drop_of_length-le, Option, Some, None, refl, sym, ap, subst, ◌∙◌, inl, inr, ◌⊎◌, arith}
use Rattle.std.specs.Prelude.{codes, nat_le}
use Rattle.std.proofs.lemmas.Bool.{leb-true, le-leb, both_ways, ltb-true, ltb-false, and_parts}
use Rattle.std.proofs.lemmas.List.{drop_more}
use Rattle.flow_value.specs.declared.cause.Cause.{Cause}
use Rattle.flow_value.specs.declared.cause.Cause.TheVariants as because
use Rattle.value_text.specs.Tokens.{past_blanks, ends_row, is_blank, is_digit, is_letter, is_plain, escape_of, hex_digit}
use Rattle.value_text.specs.Grammar.{Sign, Word, Number, Integer, plain, minus, Item, itself, escaped, coded, Because, cause_word, row_value}
use Rattle.value_text.specs.Forms.{Form, Parts, none, part, Spells, SpellsParts, Items, NoCause}
use Rattle.value_text.specs.Forms as form
use Rattle.value_text.specs.declared.spelling.Enclosure.{Enclosure}
use Rattle.value_text.specs.declared.spelling.Enclosure.TheVariants as in_
use Rattle.value_text.specs.declared.spelling.Number.{Number as Kind}
use Rattle.value_text.specs.declared.spelling.Number.TheVariants as number
use Rattle.value_text.specs.declared.spelling.Word.{Word as Spelt}
use Rattle.value_text.specs.declared.spelling.Word.TheVariants as word
use Rattle.value_text.specs.declared.spelling.Quoted.{Quoted}
use Rattle.value_text.specs.declared.spelling.Quoted.TheVariants as quoted
use Rattle.value_text.specs.declared.spelling.Mode.{Mode}
use Rattle.value_text.specs.declared.spelling.Mode.TheVariants as mode
use Rattle.value_text.specs.Machine.{letters_of, Closes, Value, CauseCloses, AfterError, AfterWord, AfterNumber, WordRest, DigitsRest, NumberRest, BoundRest, CauseRest, AfterItem, ItemRest, QuotedRest, LowRest, Rest, may_end_in, may_end, is_closed}
use Rattle.value_text.proofs.Follows.{cons_eq, other}

-- what closes all that is open, with nothing in it
pub closers : List Enclosure → List ℕ
closers [] = []
closers (in_.Array ∷ nest) = 93 ∷ closers nest
closers (in_.Stream ∷ nest) = 125 ∷ closers nest
closers (in_.Record ∷ nest) = 62 ∷ closers nest
closers (in_.Union ∷ nest) = 41 ∷ closers nest

tight : (nest : List Enclosure) → past_blanks (closers nest) ≡ closers nest
unfolding closers
tight [] = refl
tight (in_.Array ∷ nest) = refl
tight (in_.Stream ∷ nest) = refl
tight (in_.Record ∷ nest) = refl
tight (in_.Union ∷ nest) = refl

row_ends : (nest : List Enclosure) → ends_row (closers nest) ≡ true
unfolding closers
row_ends [] = refl
row_ends (in_.Array ∷ nest) = refl
row_ends (in_.Stream ∷ nest) = refl
row_ends (in_.Record ∷ nest) = refl
row_ends (in_.Union ∷ nest) = refl

no_cause : (nest : List Enclosure) → NoCause (closers nest)
unfolding closers
no_cause [] c t h = nothing h.opened
  where
    nothing : [] ≡ 40 ∷ h.inner → ⊥
    nothing e = cc
no_cause (in_.Array ∷ nest) c t h = other 93 40 refl (cons_eq h.opened).0
no_cause (in_.Stream ∷ nest) c t h = other 125 40 refl (cons_eq h.opened).0
no_cause (in_.Record ∷ nest) c t h = other 62 40 refl (cons_eq h.opened).0
no_cause (in_.Union ∷ nest) c t h = other 41 40 refl (cons_eq h.opened).0

closed : (nest : List Enclosure) → Closes nest (closers nest)
unfolding closers
closed [] = refl
closed (in_.Array ∷ nest) = (none, closers nest, refl, rw (tight nest) (closed nest))
closed (in_.Stream ∷ nest) = (none, closers nest, refl, rw (tight nest) (closed nest))
closed (in_.Record ∷ nest) = (none, closers nest, refl, rw (tight nest) (closed nest))
closed (in_.Union ∷ nest) = (closers nest, refl, rw (tight nest) (closed nest))

closed_past : (nest : List Enclosure) → Closes nest (past_blanks (closers nest))
closed_past nest = rw (tight nest) (closed nest)

-- the shortest value is an empty stream
pub value_end : List Enclosure → List ℕ
value_end nest = 123 ∷ 125 ∷ closers nest

valued : (nest : List Enclosure) → Value nest (value_end nest)
unfolding value_end
valued nest = (form.stream none, closers nest, (125 ∷ closers nest, refl, refl), closed_past nest)

cause_closed : (nest : List Enclosure) → CauseCloses nest (41 ∷ closers nest)
cause_closed nest = (closers nest, refl, closed_past nest)

pub word_end : Spelt → List Enclosure → List ℕ
word_end word.Error nest = closers nest
word_end word.Nil nest = closers nest
word_end word.Yes nest = closers nest
word_end word.No nest = closers nest
word_end word.Overflow nest = 41 ∷ closers nest
word_end word.Zero nest = 41 ∷ closers nest
word_end word.Bounds nest = 41 ∷ closers nest
word_end word.Empty nest = 41 ∷ closers nest
word_end word.Size nest = 41 ∷ closers nest
word_end word.Tag nest = 41 ∷ closers nest
word_end word.Explicit nest = 41 ∷ closers nest

word_ended : (w : Spelt) (nest : List Enclosure) → (ends_row (word_end w nest) ≡ true) × AfterWord w nest (word_end w nest)
unfolding word_end
word_ended word.Error nest = (row_ends nest, rw (tight nest) (inr (no_cause nest, closed nest)))
word_ended word.Nil nest = (row_ends nest, closed_past nest)
word_ended word.Yes nest = (row_ends nest, closed_past nest)
word_ended word.No nest = (row_ends nest, closed_past nest)
word_ended word.Overflow nest = (refl, cause_closed nest)
word_ended word.Zero nest = (refl, cause_closed nest)
word_ended word.Bounds nest = (refl, cause_closed nest)
word_ended word.Empty nest = (refl, cause_closed nest)
word_ended word.Size nest = (refl, cause_closed nest)
word_ended word.Tag nest = (refl, cause_closed nest)
word_ended word.Explicit nest = (refl, cause_closed nest)

word_rest : (w : Spelt) (letters : List ℕ) (nest : List Enclosure) → WordRest w letters nest (letters ++ word_end w nest)
word_rest w letters nest = let p = word_ended w nest in record { rest = word_end w nest; spelled = refl; alone = p.0; after = p.1 }

pub number_end : Kind → List Enclosure → List ℕ
number_end number.Integer nest = closers nest
number_end number.Bound nest = 58 ∷ closers nest
number_end number.Tag nest = 58 ∷ value_end nest

number_ended : (n : Kind) (nest : List Enclosure) → (ends_row (number_end n nest) ≡ true) × AfterNumber n nest (past_blanks (number_end n nest))
unfolding number_end value_end
number_ended number.Integer nest = (row_ends nest, closed_past nest)
number_ended number.Bound nest = (refl, (closers nest, refl, closed_past nest))
number_ended number.Tag nest = (refl, (value_end nest, refl, valued nest))

digits_rest : (n : Kind) (nest : List Enclosure) → DigitsRest n nest (number_end n nest)
digits_rest n nest = let p = number_ended n nest in record { row = []; rest = number_end n nest; spelled = refl; digits = refl; alone = p.0; after = p.1 }

number_rest : (n : Kind) (nest : List Enclosure) → NumberRest n nest (48 ∷ number_end n nest)
number_rest n nest = let p = number_ended n nest in (0, number_end n nest, record { first = 48; more = []; spelled = refl; digits = refl; value = refl; alone = p.0 }, p.1)

bound_rest : (nest : List Enclosure) → BoundRest nest (48 ∷ number_end number.Bound nest)
bound_rest nest = let p = number_rest number.Bound nest in (pos p.0, p.1, plain p.0 p.2 refl, p.3)

pub item_end : Quoted → List Enclosure → List ℕ
item_end quoted.Character nest = 39 ∷ closers nest
item_end quoted.Text nest = 34 ∷ closers nest

item_ended : (q : Quoted) (nest : List Enclosure) → AfterItem q nest (item_end q nest)
unfolding item_end
item_ended quoted.Character nest = (closers nest, refl, closed_past nest)
item_ended quoted.Text nest = ([], closers nest, refl, closed_past nest)

quoted_ended : (q : Quoted) (nest : List Enclosure) → (s : List ℕ) × QuotedRest q nest s
quoted_ended quoted.Character nest = (97 ∷ item_end quoted.Character nest, (97, item_end quoted.Character nest, itself refl refl, item_ended quoted.Character nest))
quoted_ended quoted.Text nest = (item_end quoted.Text nest, item_ended quoted.Text nest)

-- some text may follow
pub goes_on : (m : Mode) (nest : List Enclosure) → (s : List ℕ) × Rest m nest s
unfolding value_end number_end closers word_end
goes_on mode.Wanted nest = (value_end nest, valued nest)
goes_on mode.Ended nest = (closers nest, closed_past nest)
goes_on (mode.Word w k) nest = (drop k (letters_of w) ++ word_end w nest, word_rest w (drop k (letters_of w)) nest)
goes_on mode.ErrorEnded nest = (closers nest, (word_ended word.Error nest).1)
goes_on mode.Cause nest = (codes "zero" ++ word_end word.Zero nest, inl (because.Zero, word_rest word.Zero (codes "zero") nest))
goes_on mode.CauseE nest = (codes "mpty" ++ word_end word.Empty nest, inl (word_rest word.Empty (codes "mpty") nest))
goes_on mode.CauseEnded nest = (41 ∷ closers nest, cause_closed nest)
goes_on (mode.Digit n) nest = (48 ∷ number_end n nest, number_rest n nest)
goes_on (mode.Digits n) nest = (number_end n nest, digits_rest n nest)
goes_on mode.Bound nest = (48 ∷ number_end number.Bound nest, bound_rest nest)
goes_on (mode.NumberEnded n) nest = (number_end n nest, (number_ended n nest).1)
goes_on (mode.Item q) nest = quoted_ended q nest
goes_on mode.CharacterEnded nest = (39 ∷ closers nest, (closers nest, refl, closed_past nest))
goes_on (mode.Escape q) nest = (110 ∷ item_end q nest, (10, item_end q nest, escaped 110 refl refl, item_ended q nest))
goes_on (mode.High q) nest = (48 ∷ 48 ∷ item_end q nest, ((48 - 48) * 16 + 0, item_end q nest, coded 48 48 0 refl refl refl refl, item_ended q nest))
goes_on (mode.Low q) nest = (48 ∷ item_end q nest, (48, refl, ((48 - 48) * 16 + 0, item_end q nest, coded 48 48 0 refl refl refl refl, item_ended q nest)))

-- ---- where a value text may end

empty : (c : ℕ) (t : List ℕ) → [] ≡ c ∷ t → ⊥
empty c t e = cc

no_number : (k : ℕ) (r : List ℕ) → Number k [] r → ⊥
no_number k r h = empty h.first (h.more ++ r) h.spelled

no_integer : (z : ℤ) (r : List ℕ) → Integer z [] r → ⊥
no_integer z r (plain n h e) = no_number n r h
no_integer z r (minus n t o h e) = empty 45 t o

no_item : (quote c : ℕ) (r : List ℕ) → Item quote c [] r → ⊥
no_item quote c r (itself p h) = empty c r h
no_item quote c r (escaped d p h) = empty 92 (d ∷ r) h
no_item quote c r (coded high low n p d v h) = empty 92 (120 ∷ high ∷ low ∷ r) h

no_value : (f : Form) (r : List ℕ) → Spells f [] r → ⊥
no_value form.error r h = empty 101 (codes "rror" ++ r) h.0.spelled
no_value (form.error_because c) r h = empty 101 (codes "rror" ++ h.0) h.2.spelled
no_value (form.integer z) r h = no_integer z r h
no_value (form.boolean true) r h = empty 84 r h.spelled
no_value (form.boolean false) r h = empty 70 r h.spelled
no_value (form.character c) r h = empty 39 h.0 h.2
no_value (form.characters cs) r h = empty 34 h.0 h.1
no_value form.nil r h = empty 110 (codes "il" ++ r) h.spelled
no_value (form.array lo ps) r h = empty 91 h.0 h.3
no_value (form.stream ps) r h = empty 123 h.0 h.1
no_value (form.fields ps) r h = empty 60 h.0 h.1
no_value (form.union n k f) r h = empty 40 h.0 h.4

no_parts : (ps : Parts) (close : ℕ) (r : List ℕ) → SpellsParts ps close [] r → ⊥
no_parts none close r h = empty close r h
no_parts (part k f ps) close r h = no_value f h.0 h.2

pub closed_at_end : (nest : List Enclosure) → Closes nest [] → is_closed nest ≡ true
closed_at_end [] h = refl
closed_at_end (in_.Union ∷ nest) (r, h, k) = absurd (empty 41 r h)
closed_at_end (in_.Array ∷ nest) (ps, r, h, k) = absurd (no_parts ps 93 r h)
closed_at_end (in_.Stream ∷ nest) (ps, r, h, k) = absurd (no_parts ps 125 r h)
closed_at_end (in_.Record ∷ nest) (ps, r, h, k) = absurd (no_parts ps 62 r h)

no_cause_closes : (nest : List Enclosure) → CauseCloses nest [] → ⊥
no_cause_closes nest (r, h, k) = empty 41 r h

error_at_end : (nest : List Enclosure) → AfterError nest [] → is_closed nest ≡ true
error_at_end nest (inl (c, b, h, k)) = absurd (empty 40 h.inner h.opened)
error_at_end nest (inr (n, k)) = closed_at_end nest k

number_at_end : (n : Kind) (nest : List Enclosure) → AfterNumber n nest [] → (is_closed nest ≡ true) × (may_end (mode.Digits n) ≡ true) × (may_end (mode.NumberEnded n) ≡ true)
number_at_end number.Integer nest h = (closed_at_end nest h, refl, refl)
number_at_end number.Bound nest (r, h, k) = absurd (empty 58 r h)
number_at_end number.Tag nest (r, h, k) = absurd (empty 58 r h)

append_empty : (xs ys : List ℕ) → [] ≡ xs ++ ys → (xs ≡ []) × (ys ≡ [])
append_empty [] ys e = (refl, sym e)
append_empty (x ∷ xs) ys e = absurd (empty x (xs ++ ys) e)

drop_all : (xs : List ℕ) (k : ℕ) → drop k xs ≡ [] → leb (length xs) k ≡ true
drop_all xs k e = go (ltb k (length xs)) refl
  where
    go : (b : Bool) → ltb k (length xs) ≡ b → leb (length xs) k ≡ true
    go true h = absurd (empty (get_or xs k 0) (drop (k + 1) xs) (sym e ∙ drop_more xs k 0 (ltb-true k (length xs) h)))
    go false h = le-leb (length xs) k (ltb-false k (length xs) h)

word_at_end : (w : Spelt) (k : ℕ) (nest : List Enclosure) → leb (length (letters_of w)) k ≡ true → AfterWord w nest [] → (is_closed nest ≡ true) × (may_end_in w k ≡ true)
word_at_end word.Error k nest e h = (error_at_end nest h, e)
word_at_end word.Nil k nest e h = (closed_at_end nest h, e)
word_at_end word.Yes k nest e h = (closed_at_end nest h, e)
word_at_end word.No k nest e h = (closed_at_end nest h, e)
word_at_end word.Overflow k nest e h = absurd (no_cause_closes nest h)
word_at_end word.Zero k nest e h = absurd (no_cause_closes nest h)
word_at_end word.Bounds k nest e h = absurd (no_cause_closes nest h)
word_at_end word.Empty k nest e h = absurd (no_cause_closes nest h)
word_at_end word.Size k nest e h = absurd (no_cause_closes nest h)
word_at_end word.Tag k nest e h = absurd (no_cause_closes nest h)
word_at_end word.Explicit k nest e h = absurd (no_cause_closes nest h)

no_word : (w : Spelt) (d : ℕ) (ds : List ℕ) (nest : List Enclosure) → WordRest w (d ∷ ds) nest [] → ⊥
no_word w d ds nest h = empty d (ds ++ h.rest) h.spelled

no_cause_rest : (nest : List Enclosure) → CauseRest nest [] → ⊥
no_cause_rest nest (inl (because.Overflow, h)) = no_word word.Overflow 111 (codes "verflow") nest h
no_cause_rest nest (inl (because.Zero, h)) = no_word word.Zero 122 (codes "ero") nest h
no_cause_rest nest (inl (because.Bounds, h)) = no_word word.Bounds 98 (codes "ounds") nest h
no_cause_rest nest (inl (because.Empty, h)) = no_word word.Empty 101 (codes "mpty") nest h
no_cause_rest nest (inl (because.Size, h)) = no_word word.Size 115 (codes "ize") nest h
no_cause_rest nest (inl (because.Tag, h)) = no_word word.Tag 116 (codes "ag") nest h
no_cause_rest nest (inl (because.Explicit, h)) = no_word word.Explicit 101 (codes "xplicit") nest h
no_cause_rest nest (inr (e, (k, b, h, a))) = no_number k b h

not_92 : (q : ℕ) (c : ℕ) (s r : List ℕ) → Item q c (92 ∷ []) r → ⊥
not_92 q c s r (itself p h) = both_ways (is_plain q 92) refl (subst (λ (y : ℕ). is_plain q y ≡ true) (sym (cons_eq h).0) p)
not_92 q c s r (escaped d p h) = empty d r (cons_eq h).1
not_92 q c s r (coded high low n p d v h) = empty 120 (high ∷ low ∷ r) (cons_eq h).1

none_some : (x : ℕ) → None ≡ Some x → ⊥
none_some x e = cc

not_120 : (q : ℕ) (c : ℕ) (s r : List ℕ) → Item q c (92 ∷ 120 ∷ []) r → ⊥
not_120 q c s r (itself p h) = both_ways (is_plain q 92) refl (subst (λ (y : ℕ). is_plain q y ≡ true) (sym (cons_eq h).0) p)
not_120 q c s r (escaped d p h) = none_some c (ap escape_of (cons_eq (cons_eq h).1).0 ∙ p)
not_120 q c s r (coded high low n p d v h) = empty high (low ∷ r) (cons_eq (cons_eq h).1).1

not_low : (q : ℕ) (c x : ℕ) (r : List ℕ) → Item q c (92 ∷ 120 ∷ x ∷ []) r → ⊥
not_low q c x r (itself p h) = both_ways (is_plain q 92) refl (subst (λ (y : ℕ). is_plain q y ≡ true) (sym (cons_eq h).0) p)
not_low q c x r (escaped d p h) = none_some c (ap escape_of (cons_eq (cons_eq h).1).0 ∙ p)
not_low q c x r (coded high low n p d v h) = empty low r (cons_eq (cons_eq (cons_eq h).1).1).1

word_over : (w : Spelt) (k : ℕ) (nest : List Enclosure) → WordRest w (drop k (letters_of w)) nest [] → (is_closed nest ≡ true) × (may_end_in w k ≡ true)
word_over w k nest h =
    let p = append_empty (drop k (letters_of w)) h.rest h.spelled in
    word_at_end w k nest (drop_all (letters_of w) k p.0) (subst (AfterWord w nest) p.1 h.after)

digits_over : (n : Kind) (nest : List Enclosure) → DigitsRest n nest [] → (is_closed nest ≡ true) × (may_end (mode.Digits n) ≡ true)
digits_over n nest h =
    let p = append_empty h.row h.rest h.spelled in
    let q = number_at_end n nest (subst (λ (x : List ℕ). AfterNumber n nest (past_blanks x)) p.1 h.after) in
    (q.0, q.1)

quoted_over : (q : Quoted) (nest : List Enclosure) → QuotedRest q nest [] → ⊥
quoted_over quoted.Character nest (c, b, i, a) = no_item 39 c b i
quoted_over quoted.Text nest ([], r, h, k) = empty 34 r h
quoted_over quoted.Text nest (c ∷ cs, r, h, k) = no_item 34 c h.0 h.1

-- where nothing follows, all is closed and the mode is one that may end
pub ends_only : (m : Mode) (nest : List Enclosure) → Rest m nest [] → (is_closed nest ≡ true) × (may_end m ≡ true)
ends_only mode.Wanted nest (f, r, h, k) = absurd (no_value f r h)
ends_only mode.Ended nest h = (closed_at_end nest h, refl)
ends_only (mode.Word w k) nest h = word_over w k nest h
ends_only mode.ErrorEnded nest h = (error_at_end nest h, refl)
ends_only mode.Cause nest h = absurd (no_cause_rest nest h)
ends_only mode.CauseE nest (inl h) = absurd (no_word word.Empty 109 (codes "pty") nest h)
ends_only mode.CauseE nest (inr h) = absurd (no_word word.Explicit 120 (codes "plicit") nest h)
ends_only mode.CauseEnded nest h = absurd (no_cause_closes nest h)
ends_only (mode.Digit n) nest (k, b, h, a) = absurd (no_number k b h)
ends_only (mode.Digits n) nest h = digits_over n nest h
ends_only mode.Bound nest (z, b, h, a) = absurd (no_integer z b h)
ends_only (mode.NumberEnded n) nest h = let q = number_at_end n nest h in (q.0, q.2)
ends_only (mode.Item q) nest h = absurd (quoted_over q nest h)
ends_only mode.CharacterEnded nest (r, h, k) = absurd (empty 39 r h)
ends_only (mode.Escape q) nest (c, b, i, a) = absurd (not_92 _ c [] b i)
ends_only (mode.High q) nest (c, b, i, a) = absurd (not_120 _ c [] b i)
ends_only (mode.Low q) nest (x, e, (c, b, i, a)) = absurd (not_low _ c x b i)

no_cause_end : NoCause []
no_cause_end c t h = empty 40 h.inner h.opened

word_may : (w : Spelt) (k : ℕ) → leb (length (letters_of w)) k ≡ true → AfterWord w [] [] → WordRest w (drop k (letters_of w)) [] []
word_may w k e h = record { rest = []; spelled = rw (drop_of_length-le (letters_of w) (leb-true (length (letters_of w)) k e)) refl; alone = refl; after = h }

word_ends : (w : Spelt) (k : ℕ) → may_end_in w k ≡ true → WordRest w (drop k (letters_of w)) [] []
word_ends word.Error k e = word_may word.Error k e (inr (no_cause_end, refl))
word_ends word.Nil k e = word_may word.Nil k e refl
word_ends word.Yes k e = word_may word.Yes k e refl
word_ends word.No k e = word_may word.No k e refl
word_ends word.Overflow k e = absurd cc
word_ends word.Zero k e = absurd cc
word_ends word.Bounds k e = absurd cc
word_ends word.Empty k e = absurd cc
word_ends word.Size k e = absurd cc
word_ends word.Tag k e = absurd cc
word_ends word.Explicit k e = absurd cc

integer_ends : DigitsRest number.Integer [] []
integer_ends = record { row = []; rest = []; spelled = refl; digits = refl; alone = refl; after = refl }

pub ends_sound : (m : Mode) → may_end m ≡ true → Rest m [] []
ends_sound mode.Ended e = refl
ends_sound mode.ErrorEnded e = inr (no_cause_end, refl)
ends_sound (mode.Word w k) e = word_ends w k e
ends_sound (mode.Digits number.Integer) e = integer_ends
ends_sound (mode.NumberEnded number.Integer) e = refl
ends_sound (mode.Digits number.Bound) e = absurd cc
ends_sound (mode.Digits number.Tag) e = absurd cc
ends_sound (mode.NumberEnded number.Bound) e = absurd cc
ends_sound (mode.NumberEnded number.Tag) e = absurd cc
ends_sound mode.Wanted e = absurd cc
ends_sound mode.Cause e = absurd cc
ends_sound mode.CauseE e = absurd cc
ends_sound mode.CauseEnded e = absurd cc
ends_sound (mode.Digit n) e = absurd cc
ends_sound mode.Bound e = absurd cc
ends_sound (mode.Item q) e = absurd cc
ends_sound mode.CharacterEnded e = absurd cc
ends_sound (mode.Escape q) e = absurd cc
ends_sound (mode.High q) e = absurd cc
ends_sound (mode.Low q) e = absurd cc
