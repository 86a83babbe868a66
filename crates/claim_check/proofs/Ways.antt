-- Each way through the code that clears an area or tries a condition.
use Rattle.std.specs.Prelude.{Result, Ok, Err, ⊤, ℕ}
use mathlib.Core.Path.{◌≡◌, refl, sym, ap, ◌∙◌}
use mathlib.Core.List.{List, [], ◌++◌}
use Prim.Native.Nat.{ℕ, ◌+◌, ◌*◌, ◌%◌}
use mathlib.Core.Bool.{false}
use lib.ListN.{length, take, drop, set, replicate, length-set, length-replicate}
use lib.Seq.{take_at, length-take-le}
use borrow.Author.Rules.{rules}
use Rattle.kit.specs.Out.{Out, ◌&◌}
use Rattle.names.specs.Table.{Slot, empty_slot}
use Rattle.index.specs.Indexed.{Holds}
use Rattle.index.proofs.Storey.{holds_none}
use Rattle.claim_rows.specs.Left.{rows_at}
use Rattle.claim_rows.specs.Same.{differs_t}
use Rattle.claim_scopes.specs.Entries.{laid_t}
use Rattle.claim_aliases.specs.Aliases.{Names, try_aliases_t}
use Rattle.claim_aliases.specs.Aliases as aliases
use Rattle.claim_numbers.specs.Enter.{entries_t}
use Rattle.claim_numbers.specs.Enter as numbers
use Rattle.claim_operands.specs.Operands.{try_operands_t}
use Rattle.claim_check.specs.Run.{Fit, no_t, unless_t, tried_in, fourth_t, third_t, conditions_t}
use Rattle.claim_check.specs.declared.Verdict.TheVariants.{Yes}
use Rattle.claim_check.specs.declared.Verdict.{Verdict}
use Rattle.refusal.specs.declared.Refusal.{Refusal}

-- ---- an index that was cleared

pub starts : (table : List Slot) (index index₀ : List ℕ) → index ≡ replicate (length index₀) 0 → Fit (length table) (length index₀) → Holds table index 0
starts table index index₀ e f = rw (e, f.links_are) (holds_none table index₀ f.few)

-- ---- the conditions

module _ (input claim : List ℕ) (room : ℕ) where
  pub second_breaks : (t : Result ⊤ ℕ) (row : ℕ) (v : Result Verdict Refusal) → t ≡ differs_t 0 0 (rows_at claim 0) (rows_at input 0) → t ≡ Err row → v ≡ no_t 2 row → v ≡ conditions_t input claim room
  unfolding conditions_t unless_t
  second_breaks t row v e b n = rw (← e, b) n

  pub second_passes : (t : Result ⊤ ℕ) (v : Result Verdict Refusal) → t ≡ differs_t 0 0 (rows_at claim 0) (rows_at input 0) → t ≡ Ok tt → v ≡ third_t input claim room → v ≡ conditions_t input claim room
  unfolding conditions_t unless_t
  second_passes t v e b n = rw (← e, b) n

pub ruleset seconds = (second_breaks, second_passes, rules)

-- what was tried, without the table
tried_laid : (t : Result ⊤ ℕ) (table table' : List Slot) (N : Names) → (t & table') ≡ aliases.laid_by N table → t ≡ tried_in N
unfolding aliases.laid_by tried_in
tried_laid t table table' (a & ss) e = ap first e
  where
    first : Out (Result ⊤ ℕ) (List Slot) → Result ⊤ ℕ
    first (a & b) = a

module _ (input claim : List ℕ) (table table' : List Slot) (t : Result ⊤ ℕ) (e : (t & table') ≡ aliases.laid_by (try_aliases_t (length table) 0 false [] [] (rows_at claim 0)) table) where
  tried_is : t ≡ tried_in (try_aliases_t (length table) 0 false [] [] (rows_at claim 0))
  tried_is = tried_laid t table table' (try_aliases_t (length table) 0 false [] [] (rows_at claim 0)) e

  pub third_breaks : (row : ℕ) (v : Result Verdict Refusal) → t ≡ Err row → v ≡ no_t 3 row → v ≡ third_t input claim (length table)
  unfolding third_t unless_t
  third_breaks row v b n = rw (← tried_is, b) n

  pub third_passes : (v : Result Verdict Refusal) (n : ℕ) → t ≡ Ok tt → n ≡ length table → v ≡ fourth_t input claim n → v ≡ third_t input claim (length table)
  unfolding third_t unless_t
  third_passes v n b l f = rw (← tried_is, b) (rw l at f)

pub ruleset thirds = (third_breaks, third_passes, starts, rules)

-- the slots that are used
module _ (ss table table' : List Slot) (used : ℕ) (e : (used & table') ≡ numbers.laid_by ss table) where
  used_is : used ≡ length ss
  unfolding numbers.laid_by
  used_is = ap first e
    where
      first : Out ℕ (List Slot) → ℕ
      first (a & b) = a

  slots_are : take used table' ≡ ss
  unfolding numbers.laid_by laid_t
  slots_are = let t : table' ≡ ss ++ drop (length ss) table = ap second e in rw (t, used_is) (take_at ss (drop (length ss) table) (length ss) refl)
    where
      second : Out ℕ (List Slot) → List Slot
      second (a & b) = b

module _ (input claim : List ℕ) (table table' : List Slot) (used : ℕ) (e : (used & table') ≡ numbers.laid_by (entries_t (length table) 0 false [] [] [] (rows_at claim 0)) table) (t : Result ⊤ ℕ) (w : t ≡ try_operands_t (take used table') claim used 0 false [] (rows_at claim 0) (rows_at input 0)) where
  abbrev ss : List Slot
  ss = entries_t (length table) 0 false [] [] [] (rows_at claim 0)

  fourth_is : t ≡ try_operands_t ss claim (length ss) 0 false [] (rows_at claim 0) (rows_at input 0)
  fourth_is = w ∙ ap (λ (l : List Slot). try_operands_t l claim used 0 false [] (rows_at claim 0) (rows_at input 0)) (slots_are ss table table' used e) ∙ ap (λ (n : ℕ). try_operands_t ss claim n 0 false [] (rows_at claim 0) (rows_at input 0)) (used_is ss table table' used e)

  pub fourth_breaks : (row : ℕ) (v : Result Verdict Refusal) → t ≡ Err row → v ≡ no_t 4 row → v ≡ fourth_t input claim (length table)
  unfolding fourth_t unless_t
  fourth_breaks row v b n = rw (← fourth_is, b) n

  pub fourth_passes : t ≡ Ok tt → Ok Yes ≡ fourth_t input claim (length table)
  unfolding fourth_t unless_t
  fourth_passes b = rw (← fourth_is, b)

pub ruleset fourths = (fourth_breaks, fourth_passes, starts, rules)
