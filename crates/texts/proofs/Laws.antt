-- The ways through the code: each law is one unfolding of a definition, with the facts in the form in which the code gives them.
use Rattle.std.specs.Prelude.{Some, None, Result, Ok, Err, ℕ}
use mathlib.Core.Path.{◌≡◌}
use mathlib.Core.Bool.{Bool, ◌&&◌}
use mathlib.Core.List.{List}
use Prim.Native.Nat.{ℕ, ◌-◌}
use borrow.Author.Rules.{rules}
use lib.Dec.{ltb}
use Rattle.kit.specs.Out.{Out, ◌&◌}
use Rattle.texts.specs.Made.{made}
use Rattle.row_parts.specs.Parts as parts
use Rattle.texts.specs.Whole.{is_whole}
use Rattle.text.specs.declared.Wrong.{Wrong}

pub whole_is : (form : List ℕ) (h w : Bool) (rows : ℕ) → h ≡ parts.has_header form → w ≡ parts.is_whole form → rows ≡ parts.rows_in form → (h && w && ltb 0 rows) ≡ is_whole form
unfolding is_whole
whole_is form h w rows eh ew er = rw (eh, ew, er)

-- ---- a form that was made

module _ (out : List ℕ) (p : Result ℕ Wrong) (got : Out (Result ℕ Wrong) (List ℕ)) (h : (p & out) ≡ got) where
  pub made_form : (rows : ℕ) → p ≡ Ok rows → (Some rows & out) ≡ made got
  unfolding made
  made_form rows q = rw (← h, q)

  pub made_nothing : (wrong : Wrong) → p ≡ Err wrong → (None & out) ≡ made got
  unfolding made
  made_nothing wrong q = rw (← h, q)

pub ruleset made_ways = (made_form, made_nothing, rules)
