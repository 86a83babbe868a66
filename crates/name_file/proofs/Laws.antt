-- The ways through the code: each law is one unfolding of a definition, with the facts in the form in which the code gives them.
use Rattle.std.specs.Prelude.{Option, Some, None}
use mathlib.Core.Path.{◌≡◌, refl, sym, ap, ◌∙◌}
use mathlib.Core.Bool.{Bool, true, false, not, ◌&&◌, ◌||◌}
use mathlib.Core.List.{List, [], ◌∷◌}
use native.Mathlib.Omega.{arith}
use Prim.Native.Nat.{ℕ, ◌+◌, ◌*◌, ◌-◌, ◌≤◌, ◌<◌}
use borrow.Author.Rules.{rules}
use borrow.Author.Tests.{leb-true}
use lib.Dec.{eqb, ltb, leb}
use lib.ListN.{length, get_or, drop, drop_of_length-le}
use Rattle.kit.specs.Pick.{pick}
use Rattle.kit.proofs.Laws.{yes!, no!, tests, picks, drop_next}
use Rattle.name_file.specs.Names.{new_line, turned, is_digit, is_word_byte, longer, with_digit, at_start, in_number, in_word, behind_word, byte_at, with_byte, sound_at, is_sound, is_for, is_of, word_in, one_more, find_from, wrong_from, word_for, wrong_line}
use Rattle.name_file.specs.declared.Line.{Line}
use Rattle.name_file.specs.declared.Word.{Word}
use Rattle.name_file.specs.declared.At.{At}
use Rattle.name_file.specs.declared.At.TheVariants.{Start, Number, Blank, Letters, Return, Wrong}

-- ---- numbers

both_left : (a b : Bool) → (a && b) ≡ true → a ≡ true
both_left true b h = refl
both_left false b h = h

both_right : (a b : Bool) → (a && b) ≡ true → b ≡ true
both_right true b h = h
both_right false true h = refl
both_right false false h = h

pub digit_low : (d : ℕ) → is_digit d ≡ true → 48 ≤ d
digit_low d h = leb-true 48 d (both_left (leb 48 d) (leb d 57) h)

pub digit_high : (d : ℕ) → is_digit d ≡ true → d ≤ 57
digit_high d h = leb-true d 57 (both_right (leb 48 d) (leb d 57) h)

pub digit_is : {b : Bool} (d : ℕ) → b ≡ is_digit d → b ≡ true → is_digit d ≡ true
digit_is d is h = rw (← is) h

module _ (number byte : ℕ) where
  pub longer_more : number < 4294967296 → number * 10 + (byte - 48) ≡ longer number byte
  unfolding longer
  longer_more h = yes! _ (omega tests) refl

  pub longer_full : 4294967296 ≤ number → number ≡ longer number byte
  unfolding longer
  longer_full h = no! _ (omega tests) refl

pub one_more_lem : (count : ℕ) → count < 4294967295 → count + 1 ≡ one_more count
unfolding one_more
one_more_lem count h = yes! _ (omega tests) refl

pub one_full : (count : ℕ) → 4294967295 ≤ count → count ≡ one_more count
unfolding one_more
one_full count h = no! _ (omega tests) refl

pub ruleset number_ways = (digit_low, digit_high, longer_more, longer_full, one_more_lem, one_full, rules)

-- ---- a byte of a line

pub digit_more : (line : Line) (byte : ℕ) (b : Bool) → b ≡ is_digit byte → b ≡ true → (n : ℕ) → n ≡ longer line.number byte → record { at = Number; exported = line.exported; number = n; from = 0; to = 0 } ≡ with_digit line byte
unfolding with_digit
digit_more line byte b is q n e = yes! _ (rw (← is) q) (rw e)

module _ (l : Line) (line : Line) (byte : ℕ) where
  module _ (b : Bool) (is : b ≡ is_digit byte) where
    pub digit_none : b ≡ false → l ≡ turned line Wrong → l ≡ with_digit line byte
    unfolding with_digit
    digit_none q e = no! _ (rw (← is) q) e

  pub start_return : byte ≡ 13 → l ≡ turned line Return → l ≡ at_start line byte
  unfolding at_start
  start_return h e = yes! _ (omega tests) e

  module _ (h : byte ≡ 13 → ⊥) where
    pub start_mark : (eqb byte 35 && not line.exported) ≡ true → l ≡ record { at = Start; exported = true; number = 0; from = 0; to = 0 } → l ≡ at_start line byte
    unfolding at_start
    start_mark q e = no! _ (omega tests) (yes! _ q e)

    pub start_digit : (eqb byte 35 && not line.exported) ≡ false → l ≡ with_digit line byte → l ≡ at_start line byte
    unfolding at_start
    start_digit q e = no! _ (omega tests) (no! _ q e)

  module _ (h : byte ≡ 32) where
    pub number_blank : line.number < 4294967296 → l ≡ turned line Blank → l ≡ in_number line byte
    unfolding in_number
    number_blank q e = yes! _ (omega tests) (yes! _ (omega tests) e)

    pub number_large : 4294967296 ≤ line.number → l ≡ turned line Wrong → l ≡ in_number line byte
    unfolding in_number
    number_large q e = yes! _ (omega tests) (no! _ (omega tests) e)

  pub number_digit : (byte ≡ 32 → ⊥) → l ≡ with_digit line byte → l ≡ in_number line byte
  unfolding in_number
  number_digit h e = no! _ (omega tests) e

  module _ (from to : ℕ) (b : Bool) (is : b ≡ is_word_byte byte) where
    pub word_more : b ≡ true → l ≡ record { at = Letters; exported = line.exported; number = line.number; from = from; to = to } → l ≡ in_word line byte from to
    unfolding in_word
    word_more q e = yes! _ (rw (← is) q) e

    pub word_none : b ≡ false → l ≡ turned line Wrong → l ≡ in_word line byte from to
    unfolding in_word
    word_none q e = no! _ (rw (← is) q) e

  module _ (to : ℕ) where
    pub word_return : byte ≡ 13 → l ≡ turned line Return → l ≡ behind_word line byte to
    unfolding behind_word
    word_return h e = yes! _ (omega tests) e

    pub word_on : (byte ≡ 13 → ⊥) → l ≡ in_word line byte line.from to → l ≡ behind_word line byte to
    unfolding behind_word
    word_on h e = no! _ (omega tests) e

pub ruleset line_ways = (digit_is, digit_more, digit_none, start_return, start_mark, start_digit, number_blank, number_large, number_digit, word_more, word_none, word_return, word_on, rules)

-- ---- the next byte, and the end of a line

module _ (l line : Line) (byte i to : ℕ) where
  pub byte_start : line.at ≡ Start → l ≡ at_start line byte → l ≡ with_byte line byte i to
  unfolding with_byte byte_at
  byte_start h e = e ∙ ap (λ (a : At). byte_at a line byte i to) (sym h)

  pub byte_number : line.at ≡ Number → l ≡ in_number line byte → l ≡ with_byte line byte i to
  unfolding with_byte byte_at
  byte_number h e = e ∙ ap (λ (a : At). byte_at a line byte i to) (sym h)

  pub byte_blank : line.at ≡ Blank → l ≡ in_word line byte i to → l ≡ with_byte line byte i to
  unfolding with_byte byte_at
  byte_blank h e = e ∙ ap (λ (a : At). byte_at a line byte i to) (sym h)

  pub byte_word : line.at ≡ Letters → l ≡ behind_word line byte to → l ≡ with_byte line byte i to
  unfolding with_byte byte_at
  byte_word h e = e ∙ ap (λ (a : At). byte_at a line byte i to) (sym h)

  pub byte_behind : line.at ≡ Return → l ≡ turned line Wrong → l ≡ with_byte line byte i to
  unfolding with_byte byte_at
  byte_behind h e = e ∙ ap (λ (a : At). byte_at a line byte i to) (sym h)

  pub byte_wrong : line.at ≡ Wrong → l ≡ turned line Wrong → l ≡ with_byte line byte i to
  unfolding with_byte byte_at
  byte_wrong h e = e ∙ ap (λ (a : At). byte_at a line byte i to) (sym h)

pub ruleset byte_ways = (byte_start, byte_number, byte_blank, byte_word, byte_behind, byte_wrong, rules)

module _ (r : Bool) (line : Line) where
  pub sound_start : line.at ≡ Start → r ≡ not line.exported → r ≡ is_sound line
  unfolding is_sound sound_at
  sound_start h e = e ∙ ap (λ (a : At). sound_at a line) (sym h)

  pub sound_return : line.at ≡ Return → r ≡ (ltb line.from line.to || not line.exported) → r ≡ is_sound line
  unfolding is_sound sound_at
  sound_return h e = e ∙ ap (λ (a : At). sound_at a line) (sym h)

  pub sound_word : line.at ≡ Letters → r ≡ true → r ≡ is_sound line
  unfolding is_sound sound_at
  sound_word h e = e ∙ ap (λ (a : At). sound_at a line) (sym h)

  pub sound_number : line.at ≡ Number → r ≡ false → r ≡ is_sound line
  unfolding is_sound sound_at
  sound_number h e = e ∙ ap (λ (a : At). sound_at a line) (sym h)

  pub sound_blank : line.at ≡ Blank → r ≡ false → r ≡ is_sound line
  unfolding is_sound sound_at
  sound_blank h e = e ∙ ap (λ (a : At). sound_at a line) (sym h)

  pub sound_wrong : line.at ≡ Wrong → r ≡ false → r ≡ is_sound line
  unfolding is_sound sound_at
  sound_wrong h e = e ∙ ap (λ (a : At). sound_at a line) (sym h)

module _ (line : Line) (number : ℕ) (exported b : Bool) (is : b ≡ is_for line number) where
  pub of_export : exported ≡ true → (b && line.exported) ≡ is_of line number exported
  unfolding is_of
  of_export h = yes! _ h (rw is)

  pub of_name : exported ≡ false → (b && not line.exported) ≡ is_of line number exported
  unfolding is_of
  of_name h = no! _ h (rw is)

pub ruleset end_ways = (sound_start, sound_return, sound_word, sound_number, sound_blank, sound_wrong, of_export, of_name, rules)

-- ---- the file: the invariant says that what is left makes of the line so far what the whole file makes

line_end : (byte : ℕ) → byte ≡ 10 → eqb byte 10 ≡ true
line_end byte h = omega tests

line_on : (byte : ℕ) → (byte ≡ 10 → ⊥) → eqb byte 10 ≡ false
line_on byte h = omega tests

pub find_start : (names : List ℕ) (number : ℕ) (exported : Bool) (l : Line) → l ≡ new_line → find_from (drop 0 names) 0 l number exported ≡ word_for names number exported
unfolding word_for
find_start names number exported l e = rw e

module _ (names : List ℕ) (i : ℕ) (line : Line) (number : ℕ) (exported : Bool) (T : Option Word) (inv : find_from (drop i names) i line number exported ≡ T) (b : Bool) (is : b ≡ is_of line number exported) where
  module _ (h : length names ≤ i) where
    found : pick b (Some (word_in line)) None ≡ T
    unfolding find_from
    found = rw is (rw (drop_of_length-le names {i = i} h) at inv)

    pub find_last : b ≡ true → (w : Word) → w ≡ word_in line → Some w ≡ T
    unfolding pick
    find_last q w e = ap Some e ∙ (rw q at found)

    pub find_none : b ≡ false → None ≡ T
    unfolding pick
    find_none q = rw q at found

  module _ (h : i < length names) (n : get_or names i 0 ≡ 10) where
    ended : pick b (Some (word_in line)) (find_from (drop (i + 1) names) (i + 1) new_line number exported) ≡ T
    unfolding find_from pick
    ended = rw is (rw (line_end (get_or names i 0) n) at (rw (drop_next names i 0 h) at inv))

    pub find_here : b ≡ true → (w : Word) → w ≡ word_in line → Some w ≡ T
    unfolding pick
    find_here q w e = ap Some e ∙ (rw q at ended)

    pub find_next : b ≡ false → (l : Line) → l ≡ new_line → find_from (drop (i + 1) names) (i + 1) l number exported ≡ T
    unfolding pick
    find_next q l e = rw e (rw q at ended)

pub find_on : (names : List ℕ) (i : ℕ) (line : Line) (number : ℕ) (exported : Bool) (T : Option Word) → find_from (drop i names) i line number exported ≡ T → i < length names → (get_or names i 0 ≡ 10 → ⊥) → (l : Line) → l ≡ with_byte line (get_or names i 0) i (i + 1) → find_from (drop (i + 1) names) (i + 1) l number exported ≡ T
unfolding find_from pick
find_on names i line number exported T inv h n l e = rw e (rw (line_on (get_or names i 0) n) at (rw (drop_next names i 0 h) at inv))

pub ruleset find_ways = (find_start, find_last, find_none, find_here, find_next, find_on, rules)

is_off : (b : Bool) → not b ≡ true → b ≡ false
is_off true h = sym h
is_off false h = refl

is_on_lem : (b : Bool) → not b ≡ false → b ≡ true
is_on_lem true h = refl
is_on_lem false h = sym h

pub wrong_start : (names : List ℕ) (l : Line) → l ≡ new_line → wrong_from (drop 0 names) 0 l 1 ≡ wrong_line names
unfolding wrong_line
wrong_start names l e = rw e

module _ (names : List ℕ) (i : ℕ) (line : Line) (count : ℕ) (T : Option ℕ) (inv : wrong_from (drop i names) i line count ≡ T) (b : Bool) (is : b ≡ is_sound line) where
  module _ (h : length names ≤ i) where
    last : pick b None (Some count) ≡ T
    unfolding wrong_from
    last = rw is (rw (drop_of_length-le names {i = i} h) at inv)

    pub wrong_none : b ≡ true → None ≡ T
    unfolding pick
    wrong_none q = rw q at last

    pub wrong_last : b ≡ false → Some count ≡ T
    unfolding pick
    wrong_last q = rw q at last

  module _ (h : i < length names) (n : get_or names i 0 ≡ 10) where
    line_ended : pick b (wrong_from (drop (i + 1) names) (i + 1) new_line (one_more count)) (Some count) ≡ T
    unfolding wrong_from pick
    line_ended = rw is (rw (line_end (get_or names i 0) n) at (rw (drop_next names i 0 h) at inv))

    pub wrong_here : not b ≡ true → Some count ≡ T
    unfolding pick
    wrong_here q = rw (is_off b q) at line_ended

    pub wrong_next : not b ≡ false → (l : Line) → l ≡ new_line → (c : ℕ) → c ≡ one_more count → wrong_from (drop (i + 1) names) (i + 1) l c ≡ T
    unfolding pick
    wrong_next q l e c f = rw (e, f) (rw (is_on_lem b q) at line_ended)

pub wrong_on : (names : List ℕ) (i : ℕ) (line : Line) (count : ℕ) (T : Option ℕ) → wrong_from (drop i names) i line count ≡ T → i < length names → (get_or names i 0 ≡ 10 → ⊥) → (l : Line) → l ≡ with_byte line (get_or names i 0) i (i + 1) → wrong_from (drop (i + 1) names) (i + 1) l count ≡ T
unfolding wrong_from pick
wrong_on names i line count T inv h n l e = rw e (rw (line_on (get_or names i 0) n) at (rw (drop_next names i 0 h) at inv))

pub ruleset wrong_ways = (wrong_start, wrong_none, wrong_last, wrong_here, wrong_next, wrong_on, rules)
