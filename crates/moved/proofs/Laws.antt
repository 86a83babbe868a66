-- The ways through the code.
use Rattle.std.specs.Prelude.{Result, Ok, Err, ℕ}
use mathlib.Core.Path.{◌≡◌, refl, sym, ap, ◌∙◌}
use mathlib.Core.Bool.{Bool, true, false, ◌&&◌, ◌||◌, not}
use mathlib.Core.List.{List, ◌++◌}
use native.Mathlib.Omega.{arith}
use Prim.Native.Nat.{ℕ, ◌+◌, ◌*◌, ◌≤◌}
use lib.Dec.{eqb, leb}
use borrow.Author.Rules.{rules}
use lib.ListN.{length, take, drop}
use Rattle.kit.specs.Out.{Out, ◌&◌}
use Rattle.rules.specs.Tools.{when◌then◌else◌, only}
use Rattle.rules.specs.Versions.{Version}
use Rattle.rules.specs.Answer.{has_header, row_count}
use Rattle.rules.specs.Laws.ToolLaws.{leb_le}
use Rattle.stores.specs.Zeros.{zero_from}
use Rattle.limits.specs.declared.Limits.{Limits}
use Rattle.limits.specs.Held.{limits_of, setting}
use Rattle.limits.proofs.Laws.{few_rows, stand_for}
use Rattle.form.specs.Header.{header_in, header_for, header_to}
use Rattle.form.specs.declared.header.BadHeader.TheVariants.{Wrong, Count}
use Rattle.moved_list.specs.Listing.{entries_in, noted, none}
use Rattle.moved_list.specs.declared.Listed.{Listed}
use Rattle.refusal.specs.declared.Refusal.{Refusal}
use Rattle.refusal.specs.declared.Told.{Told}
use Rattle.resolver.specs.Meaning.{numbers}
use Rattle.resolver.specs.Meaning as resolved
use Rattle.moved.specs.Run.{rows_asked, listed_t, before, fronts_t}
use Rattle.form.specs.declared.header.BadHeader.{BadHeader}
use Rattle.refusal.specs.declared.Refused.{Refused}

-- a right header asks for no more rows than its version may have
few_in : (v : Version) (form : List ℕ) (rows : ℕ) → header_in v form ≡ Ok rows → rows ≤ v.rows
unfolding header_in when◌then◌else◌
few_in v form rows e = go (leb 1 (row_count v form)) (leb (row_count v form) v.rows) refl (eqb (length form) (v.header + 16 * row_count v form)) e
  where
    go : (a b : Bool) → leb (row_count v form) v.rows ≡ b → (c : Bool) → (when not (a && b) || not c then Err Count else Ok (row_count v form)) ≡ Ok rows → rows ≤ v.rows
    go true true q true e = let same : row_count v form ≡ rows = cc in let low = leb_le (row_count v form) v.rows q in omega (arith, same, low)
    go true true q false e = let no_way : ◌≡◌ {A = ℕ} 0 1 = cc in absurd (omega arith)
    go true false q c e = let no_way : ◌≡◌ {A = ℕ} 0 1 = cc in absurd (omega arith)
    go false b q c e = let no_way : ◌≡◌ {A = ℕ} 0 1 = cc in absurd (omega arith)

few : (i : ℕ) (form : List ℕ) (rows : ℕ) → header_to (limits_of (setting i)) form ≡ Ok rows → rows ≤ 16383
unfolding header_to header_for only
few i form rows e = go (has_header (setting i) form) (rw (stand_for i) at e)
  where
    go : (b : Bool) → header_for (only b (setting i)) form ≡ Ok rows → rows ≤ 16383
    go true e = let low = few_in (setting i).version form rows e in let most = few_rows i in omega (arith, low, most)
    go false e = let no_way : ◌≡◌ {A = ℕ} 0 1 = cc in absurd (omega arith)

module _ (i : ℕ) (form : List ℕ) (l : Limits) (limits : l ≡ limits_of (setting i)) (h : Result ℕ BadHeader) (got : h ≡ header_to l form) where
  got_in : h ≡ header_to (limits_of (setting i)) form
  got_in = rw limits at got

  pub asked_few : (rows : ℕ) → h ≡ Ok rows → rows ≤ 16383
  asked_few rows q = few i form rows (sym got_in ∙ q)

  pub asked_rows : (rows : ℕ) → h ≡ Ok rows → rows ≡ rows_asked i form
  unfolding rows_asked
  asked_rows rows q = rw (← got_in, q)

  pub asked_wrong : h ≡ Err Wrong → 0 ≡ rows_asked i form
  unfolding rows_asked
  asked_wrong q = rw (← got_in, q)

  pub asked_count : h ≡ Err Count → 0 ≡ rows_asked i form
  unfolding rows_asked
  asked_count q = rw (← got_in, q)

pub fill_is : (form out moved apart m a m' a' : List ℕ) (r : Listed) → m ≡ zero_from moved 0 → a ≡ zero_from apart 0 → (r & m' & a') ≡ noted none m a (entries_in form out) → (r & m' & a') ≡ listed_t form out moved apart
unfolding listed_t
fill_is form out moved apart m a m' a' r hm ha h = h ∙ rw (hm, ha)

pub fronts_are : (form out moved apart m a : List ℕ) (rows : ℕ) (r : Listed) → (r & m & a) ≡ listed_t form out (take (16 * rows) moved) (take (12 * rows) apart)
    → (r & m ++ drop (16 * rows) moved & a ++ drop (12 * rows) apart) ≡ fronts_t form out moved apart rows
unfolding fronts_t before
fronts_are form out moved apart m a rows r h = rw (← h)

-- ---- what the resolver answered

module _ (answer : Result ℕ Refused) where
  pub in_accepted : (rows : ℕ) → answer ≡ Ok rows → numbers 0 rows ≡ (resolved.meaning answer).plain
  in_accepted rows q = rw q

  pub in_refused : (r : Refusal) (t : Told) → answer ≡ Err (record { refusal = r; told = t }) → numbers r.number r.place ≡ (resolved.meaning answer).plain
  in_refused r t q = rw q

pub ruleset ways = (asked_few, asked_rows, asked_wrong, asked_count, fill_is, fronts_are, in_accepted, in_refused, rules)
