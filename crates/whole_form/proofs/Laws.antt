-- What an answer says of the bytes, in the rules' words.
use Rattle.std.specs.Prelude.{Result, Ok, Err}
use mathlib.Core.Path.{◌≡◌, refl, sym, ◌∙◌, subst}
use mathlib.Core.Bool.{Bool, true, false, ◌||◌, not}
use mathlib.Core.Option.{none, some}
use mathlib.Core.List.{List, [], ◌∷◌}
use native.Mathlib.Omega.{arith}
use Prim.Native.Nat.{ℕ, zero, suc, ◌+◌, ◌*◌, ◌<◌}
use lib.Dec.{eqb}
use lib.ListN.{length, get_or}
use Rattle.rules.specs.Tools.{when◌then◌else◌, between, only, ◌or_else◌}
use Rattle.kit.specs.Pick.{pick}
use Rattle.rules.specs.Versions.{Setting, version1, today, all, as_claimed}
use Rattle.rules.specs.Tree.{Scope, flatten, RowsRead, bad, deep, form}
use Rattle.rules.specs.Reader.{read}
use Rattle.rules.specs.Answer.{AnswerOf, refused, accepted, mark, has_header, setting_of, row_count, rows_in}
use Rattle.rules.specs.Laws.Results.{if_both}
use Rattle.headers.specs.Laws.Settings
use Rattle.headers.specs.Laws.Settings.{all_in_force, Among, here, there, among_plain}
use Rattle.read_form.specs.ReadForm.{as_answer, read_form}
use Rattle.refusal.specs.declared.Refusal.{Refusal}
use Rattle.limits.specs.Held.{setting}
use Rattle.form.specs.Header.{header_in, header_for}
use Rattle.form.specs.declared.header.BadHeader.TheVariants.{Wrong, Count}
use Rattle.whole_form.specs.Asked.{or_next, held_as, asked_from, asked_of, claimed_of}
use Rattle.whole_form.specs.Whole.{form_of}
use Rattle.whole_form.proofs.Ways.{Headed, header_rows}
use Rattle.form.specs.declared.header.BadHeader.{BadHeader}
use Rattle.whole_form.specs.declared.asked.Asked.{Asked}

-- ---- the settings by their place

pub among : (i : ℕ) → Among (setting i) all
among zero = here
among (suc zero) = there here
among (suc (suc zero)) = there (there here)
among (suc (suc (suc i))) = here

pub plain_at : (i : ℕ) → Settings.Plain (setting i)
plain_at i = among_plain all (setting i) all_in_force (among i)

-- ---- which setting

-- refusal 2 strikes
abbrev pub unsized : Setting → List ℕ → Bool
unsized s input =
    not (between 1 s.version.rows (row_count s.version input)) || not (eqb (length input) (s.version.header + 16 * row_count s.version input))

-- of settings the first of which has place k
abbrev first : Setting
first = record { version = version1; rules = today }

-- where what is read is a claimed output, or an input
module _ (claim : Bool) where
  abbrev Asks : List Setting → (k : ℕ) → List ℕ → Result Asked BadHeader → Type 0
  Asks ss k input (Ok asked) = (j : ℕ) × (asked.setting ≡ k + j) × (j < length ss) × (setting_of ss input ≡ some (get_or ss j first)) × Headed (held_as claim (get_or ss j first)) input asked.rows
  Asks ss k input (Err Wrong) = setting_of ss input ≡ none
  Asks ss k input (Err Count) = (s : Setting) × (setting_of ss input ≡ some s) × (unsized (held_as claim s) input ≡ true)

  -- both have the same header
  header_held : (s : Setting) (input : List ℕ) → has_header (held_as claim s) input ≡ has_header s input
  unfolding held_as has_header mark
  header_held s input = go claim
    where
      go : (c : Bool) → has_header (pick c (as_claimed s) s) input ≡ has_header s input
      go true = unfold pick has_header mark in refl
      go false = unfold pick in refl

  asks_next : (s : Setting) (ss : List Setting) (k : ℕ) (input : List ℕ) (a : Result Asked BadHeader) → setting_of (s ∷ ss) input ≡ setting_of ss input → Asks ss (k + 1) input a → Asks (s ∷ ss) k input a
  asks_next s ss k input (Ok asked) e (j, p, h, q, r) = (suc j, omega arith, omega arith, e ∙ q, r)
  asks_next s ss k input (Err Wrong) e w = e ∙ w
  asks_next s ss k input (Err Count) e (t, p, q) = (t, e ∙ p, q)

  asks : (ss : List Setting) (k : ℕ) (input : List ℕ) → Asks ss k input (asked_from claim k ss input)
  unfolding asked_from setting_of header_in header_for when◌then◌else◌ or_next only ◌or_else◌
  asks [] k input = refl
  asks (s ∷ ss) k input = go (has_header (held_as claim s) input) refl (asks ss (k + 1) input)
    where
      here : (b : Bool) → unsized (held_as claim s) input ≡ b → has_header (held_as claim s) input ≡ true → has_header s input ≡ true
          → Asks (s ∷ ss) k input (or_next k (header_in (held_as claim s).version input) (asked_from claim (k + 1) ss input))
      here true e h g = rw e (s, rw g, e)
      here false e h g =
          rw e (0, omega arith, omega arith, rw g, header_rows (held_as claim s) input (row_count (held_as claim s).version input) (rw h (rw e)))

      past : has_header s input ≡ false → setting_of (s ∷ ss) input ≡ setting_of ss input
      past g = rw g

      go : (b : Bool) → has_header (held_as claim s) input ≡ b → Asks ss (k + 1) input (asked_from claim (k + 1) ss input)
          → Asks (s ∷ ss) k input (or_next k (header_for (only (has_header (held_as claim s) input) (held_as claim s)) input) (asked_from claim (k + 1) ss input))
      go true e r = rw e (here (unsized (held_as claim s) input) refl e (sym (header_held s input) ∙ e))
      go false e r = rw e (asks_next s ss k input (asked_from claim (k + 1) ss input) (past (sym (header_held s input) ∙ e)) r)

pub record AskedFor (input : List ℕ) (i rows : ℕ) : Type 0 where
  pub known : i < 3
  pub asks : setting_of all input ≡ some (setting i)
  pub said : Headed (setting i) input rows

module _ (input : List ℕ) where
  pub asked_for : (i rows : ℕ) → Ok (record { setting = i; rows = rows }) ≡ asked_of input → AskedFor input i rows
  unfolding asked_of held_as pick
  asked_for i rows e = go (subst (Asks false all 0 input) (sym e) (asks false all 0 input))
    where
      go : Asks false all 0 input (Ok (record { setting = i; rows = rows })) → AskedFor input i rows
      go (j, p, h, q, r) = let same : j ≡ i = omega arith in record { known = omega arith; asks = rw same at q; said = rw same at r }

  pub asked_wrong : Err Wrong ≡ asked_of input → setting_of all input ≡ none
  unfolding asked_of
  asked_wrong e = subst (Asks false all 0 input) (sym e) (asks false all 0 input)

  pub asked_count : Err Count ≡ asked_of input → (s : Setting) × (setting_of all input ≡ some s) × (unsized s input ≡ true)
  unfolding asked_of held_as pick
  asked_count e = subst (Asks false all 0 input) (sym e) (asks false all 0 input)

-- the same of what is claimed to be an output
pub record ClaimedFor (input : List ℕ) (i rows : ℕ) : Type 0 where
  pub known : i < 3
  pub asks : setting_of all input ≡ some (setting i)
  pub said : Headed (as_claimed (setting i)) input rows

module _ (input : List ℕ) where
  pub claimed_for : (i rows : ℕ) → Ok (record { setting = i; rows = rows }) ≡ claimed_of input → ClaimedFor input i rows
  unfolding claimed_of held_as pick
  claimed_for i rows e = go (subst (Asks true all 0 input) (sym e) (asks true all 0 input))
    where
      go : Asks true all 0 input (Ok (record { setting = i; rows = rows })) → ClaimedFor input i rows
      go (j, p, h, q, r) = let same : j ≡ i = omega arith in record { known = omega arith; asks = rw same at q; said = rw same at r }

  pub claimed_wrong : Err Wrong ≡ claimed_of input → setting_of all input ≡ none
  unfolding claimed_of
  claimed_wrong e = subst (Asks true all 0 input) (sym e) (asks true all 0 input)

  pub claimed_count : Err Count ≡ claimed_of input → (s : Setting) × (setting_of all input ≡ some s) × (unsized (as_claimed s) input ≡ true)
  unfolding claimed_of held_as pick
  claimed_count e = subst (Asks true all 0 input) (sym e) (asks true all 0 input)

-- ---- a form by itself

-- a refusal carries nothing more
abbrev pub Plain : AnswerOf Scope → Type 0
Plain (refused number place carried) = carried ≡ []
Plain (accepted t) = Unit {0}

reading_plain : (x : RowsRead) → Plain (as_answer x)
unfolding as_answer
reading_plain (bad p) = refl
reading_plain (deep p) = refl
reading_plain (form t) = tt

pub form_plain : (s : Setting) (input : List ℕ) → Plain (read_form s input)
unfolding read_form
form_plain s input =
    if_both Plain (not (has_header s input)) (refused 1 0 []) _ refl
    (if_both Plain (unsized s input) (refused 2 0 []) _ refl (reading_plain (read s.rules s.version.scopes (rows_in s input))))

module _ (s : Setting) (input : List ℕ) where
  pub whole_read : (rows : ℕ) → Ok rows ≡ form_of (read_form s input) → (t : Scope) × (read_form s input ≡ accepted t) × (rows ≡ length (flatten t))
  whole_read rows e = go (read_form s input) refl e
    where
      go : (x : AnswerOf Scope) → read_form s input ≡ x → Ok rows ≡ form_of x → (t : Scope) × (read_form s input ≡ accepted t) × (rows ≡ length (flatten t))
      go (refused n p c) q e = unfold form_of in (let z : ◌≡◌ {A = ℕ} 0 1 = cc in absurd (omega arith))
      go (accepted t) q e = unfold form_of in (t, q, cc)

  pub refused_read : (why : Refusal) → Err why ≡ form_of (read_form s input) → read_form s input ≡ refused why.number why.place []
  refused_read why e = go (read_form s input) refl (form_plain s input) e
    where
      go : (x : AnswerOf Scope) → read_form s input ≡ x → Plain x → Err why ≡ form_of x → read_form s input ≡ refused why.number why.place []
      go (refused n p c) q l e = unfold form_of in (let n-is : why.number ≡ n = cc in let p-is : why.place ≡ p = cc in q ∙ rw (n-is, p-is, l))
      go (accepted t) q l e = unfold form_of in (let z : ◌≡◌ {A = ℕ} 0 1 = cc in absurd (omega arith))
