-- The ways through the code that tells what a line is.
use Rattle.std.specs.Prelude.{Option, None, Result, Ok, Err}
use mathlib.Core.Path.{◌≡◌, refl, ◌∙◌}
use mathlib.Core.Bool.{Bool, true, false}
use mathlib.Core.List.{List}
use native.Mathlib.Omega.{arith}
use Prim.Native.Nat.{ℕ, ◌+◌, ◌≤◌, ◌<◌}
use borrow.Author.Rules.{rules}
use lib.Dec.{eqb}
use lib.ListN.{length, get_or, drop, drop_of_length-le}
use Rattle.kit.specs.Pick.{pick}
use Rattle.kit.specs.Out.{◌&◌}
use Rattle.kit.proofs.Laws.{yes!, no!, tests, drop_next, past}
use Rattle.text.specs.Lines.{is_blank_byte, is_blank, is_comment, is_apart, is_closed, has_bracket, sized, number_then, row_in, line_of}
use Rattle.text.specs.Numbers.{number_behind}
use Rattle.text.specs.declared.lines.Why.TheVariants.{NoRow, Second}
use Rattle.parts.specs.declared.Parts.{Parts}
use Rattle.text.specs.declared.lines.Why.{Why}

-- ---- blank lines and comments

module _ (line : List ℕ) (i : ℕ) (T : Bool) (inv : is_blank (drop i line) ≡ T) where
  pub blank_end : length line ≤ i → true ≡ T
  unfolding is_blank
  blank_end h = rw (drop_of_length-le line {i = i} h) at inv

  module _ (h : i < length line) (b : Bool) (is : b ≡ is_blank_byte (get_or line i 0)) where
    turned : pick b (is_blank (drop (i + 1) line)) false ≡ T
    unfolding is_blank
    turned = rw is (rw (drop_next line i 0 h) at inv)

    pub blank_on : b ≡ true → is_blank (drop (i + 1) line) ≡ T
    unfolding pick
    blank_on q = rw q at turned

    pub blank_stop : b ≡ false → false ≡ T
    unfolding pick
    blank_stop q = rw q at turned

pub ruleset blank_ways = (blank_end, blank_on, blank_stop, rules)

module _ (line : List ℕ) where
  pub comment_empty : length line ≡ 0 → false ≡ is_comment line
  unfolding is_comment
  comment_empty h = let e : 0 ≡ get_or line 0 0 = past line 0 0 (omega arith) in rw (← e)

  pub comment_first : eqb (get_or line 0 0) 35 ≡ is_comment line
  unfolding is_comment
  comment_first = refl

-- ---- the end of a row

module _ (line : List ℕ) (at : ℕ) where
  pub apart_end : length line ≤ at → true ≡ is_apart (drop at line)
  unfolding is_apart
  apart_end h = rw (drop_of_length-le line {i = at} h)

  pub closed_past : length line ≤ at → false ≡ is_closed (drop at line)
  unfolding is_closed
  closed_past h = rw (drop_of_length-le line {i = at} h)

  module _ (h : at < length line) where
    pub apart_byte : (b : Bool) → b ≡ is_blank_byte (get_or line at 0) → b ≡ is_apart (drop at line)
    unfolding is_apart
    apart_byte b e = rw (drop_next line at 0 h) e

    pub closed_bracket : (b : Bool) → get_or line at 0 ≡ 93 → b ≡ is_apart (drop (at + 1) line) → b ≡ is_closed (drop at line)
    unfolding is_closed
    closed_bracket b q e = rw (drop_next line at 0 h) (yes! _ (omega tests) e)

    pub closed_other : (get_or line at 0 ≡ 93 → ⊥) → false ≡ is_closed (drop at line)
    unfolding is_closed
    closed_other q = rw (drop_next line at 0 h) (no! _ (omega tests) refl)

pub ruleset line_ways = (comment_empty, comment_first, apart_end, apart_byte, closed_past, closed_bracket, closed_other, rules)

module _ (line : List ℕ) (i : ℕ) (T : Bool) (inv : has_bracket (drop i line) ≡ T) where
  pub bracket_end : length line ≤ i → false ≡ T
  unfolding has_bracket
  bracket_end h = rw (drop_of_length-le line {i = i} h) at inv

  module _ (h : i < length line) where
    bracket_turn : pick (eqb (get_or line i 0) 91) true (has_bracket (drop (i + 1) line)) ≡ T
    unfolding has_bracket
    bracket_turn = rw (drop_next line i 0 h) at inv

    pub bracket_hit : get_or line i 0 ≡ 91 → true ≡ T
    bracket_hit q = yes! _ (omega tests) refl ∙ bracket_turn

    pub bracket_on : (get_or line i 0 ≡ 91 → ⊥) → has_bracket (drop (i + 1) line) ≡ T
    bracket_on q = no! _ (omega tests) refl ∙ bracket_turn

pub ruleset bracket_ways = (bracket_end, bracket_hit, bracket_on, rules)

-- ---- rows

-- the six numbers that were found, and what is left of the line behind each
module _ (line l₁ l₂ l₃ l₄ l₅ l₆ : List ℕ) (code b e x y z : ℕ) (h₁ : (code & l₁) ≡ number_behind 91 line) (h₂ : (b & l₂) ≡ number_behind 32 l₁) (h₃ : (e & l₃) ≡ number_behind 32 l₂) (h₄ : (x & l₄) ≡ number_behind 32 l₃) (h₅ : (y & l₅) ≡ number_behind 32 l₄) (h₆ : (z & l₆) ≡ number_behind 32 l₅) where
  found : pick (is_closed l₆) (pick (has_bracket l₆) (Err Second) (sized code b e x y z)) (Err NoRow) ≡ row_in line
  unfolding row_in number_then
  found = rw (← h₁) (rw (← h₂) (rw (← h₃) (rw (← h₄) (rw (← h₅) (rw (← h₆) refl)))))

  module _ {t : Bool} (closed : t ≡ is_closed l₆) where
    pub row_none : t ≡ false → Err NoRow ≡ row_in line
    row_none q = no! _ (rw (← closed) q) refl ∙ found

    module _ (q : t ≡ true) {u : Bool} (second : u ≡ has_bracket l₆) where
      pub row_second : u ≡ true → Err Second ≡ row_in line
      row_second p = yes! _ (rw (← closed) q) (yes! _ (rw (← second) p) refl) ∙ found

      pub row_sized : (r : Result (Option Parts) Why) → u ≡ false → r ≡ sized code b e x y z → r ≡ row_in line
      row_sized r p s = yes! _ (rw (← closed) q) (no! _ (rw (← second) p) s) ∙ found

pub ruleset row_ways = (row_none, row_second, row_sized, rules)

-- ---- a line

module _ (line : List ℕ) (b : Bool) (is : b ≡ is_blank line) where
  pub line_blank : b ≡ true → Ok None ≡ line_of line
  unfolding line_of
  line_blank h = yes! _ (rw (← is) h) refl

  module _ (h : b ≡ false) (d : Bool) (said : d ≡ is_comment line) where
    pub line_comment : d ≡ true → Ok None ≡ line_of line
    unfolding line_of
    line_comment q = no! _ (rw (← is) h) (yes! _ (rw (← said) q) refl)

    pub line_row : (r : Result (Option Parts) Why) → d ≡ false → r ≡ row_in line → r ≡ line_of line
    unfolding line_of
    line_row r q e = no! _ (rw (← is) h) (no! _ (rw (← said) q) e)

pub ruleset whole_ways = (line_blank, line_comment, line_row, rules)
