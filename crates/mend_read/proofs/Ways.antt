-- The ways through the code that reads mended rows: those of the reader, on the bytes of the mended rows.
use Rattle.std.specs.Prelude.{Result, Err, ⊤}
use mathlib.Core.Path.{◌≡◌, refl, sym, ap, ◌∙◌}
use mathlib.Core.List.{List}
use native.Mathlib.Omega.{arith}
use Prim.Native.Nat.{ℕ, ◌+◌, ◌-◌, ◌/◌, ◌≤◌, ◌<◌}
use lib.ListN.{length, take, drop, replicate}
use types.Run.{OneOf}
use denote.Enum.Declared.{tag_of}
use borrow.Author.Rules.{rules}
use Rattle.kit.specs.Out.{◌&◌}
use Rattle.rows.specs.contracts.row.Row as row_type
use Rattle.rows.specs.RowAt.{row_to}
use Rattle.rows.specs.FromParts.{row_of}
use Rattle.rows.proofs.Laws.{parts_row}
use Rattle.rows.specs.declared.row.Row.{Row}
use Rattle.rows.specs.declared.row.Row.TheVariants as row
use Rattle.parts.specs.PartsAt.{parts_at}
use Rattle.limits.specs.declared.Limits.{Limits}
use Rattle.limits.specs.Held.{rules_of}
use Rattle.read_row.specs.Machine.{Outcome, on, outcome_of, position_of, read_step_t, in_root}
use Rattle.read_row.specs.declared.ReadState.{ReadState}
use Rattle.reader.specs.Machine.{read_rows_t, read_on_t, read_as_t}
use Rattle.reader.specs.ReadTo.{read_to}
use Rattle.reader.proofs.Steps
use Rattle.reader.proofs.Steps.{not_open}
use Rattle.mend_form.specs.Kept.{kept_in}
use Rattle.mend_form.specs.Filled.{mended_body_t, row_in}
use Rattle.mend_form.specs.declared.Kept.{Kept}
use Rattle.mend_form.proofs.Laws.{body_size}
use Rattle.mend_form.proofs.Rows.{in_size, parts_body}
use Rattle.reader.specs.declared.BadRows.TheVariants.{Broken, Deep}
use Rattle.reader.specs.declared.BadRows.{BadRows}

-- ---- read_next and read_rows

module _ (l : Limits) (rows : List ℕ) (k : Kept) where
  -- the row that was made is the mended form's row
  pub next_read : (i : ℕ) (this : List ℕ) → k.rows ≤ length rows / 16 → this ≡ row_in rows k i → (s : ReadState) → s.stage < 5 → (kinds : List ℕ) (o : Outcome) (next : ℕ) (kinds' : List ℕ) → (o & next & kinds') ≡ read_on_t (rules_of l.rules) l.names this 0 (length this / 16 - 0) (outcome_of s & kinds) → (o & kinds') ≡ read_step_t (rules_of l.rules) (position_of s) kinds (row_of l.names (parts_at (mended_body_t rows k) i))
  next_read i this there made s h kinds o next kinds' st =
      let size : length this ≡ 16 = ap length made ∙ in_size rows k i in
      let row : row_to l.names this 0 ≡ row_of l.names (parts_at (mended_body_t rows k) i) = parts_row l.names this 0 ∙ ap (row_of l.names) (ap (λ (x : List ℕ). parts_at x 0) made ∙ sym (parts_body rows k there i)) in
      Steps.one_read (rules_of l.rules) l.names this size s h kinds o next kinds' st ∙ ap (read_step_t (rules_of l.rules) (position_of s) kinds) row

  module _ (n : ℕ) (start : ReadState) (kinds₀ : List ℕ) (i : ℕ) (s : ReadState) (kinds : List ℕ) (inv : read_on_t (rules_of l.rules) l.names (mended_body_t rows k) i (n - i) (outcome_of s & kinds) ≡ read_on_t (rules_of l.rules) l.names (mended_body_t rows k) 1 (n - 1) (outcome_of start & kinds₀)) where
    pub next_turn : i < n → s.stage < 5 → (t : ReadState) (kinds' : List ℕ) → (outcome_of t & kinds') ≡ read_step_t (rules_of l.rules) (position_of s) kinds (row_of l.names (parts_at (mended_body_t rows k) i)) → read_on_t (rules_of l.rules) l.names (mended_body_t rows k) (i + 1) (n - (i + 1)) (outcome_of t & kinds') ≡ read_on_t (rules_of l.rules) l.names (mended_body_t rows k) 1 (n - 1) (outcome_of start & kinds₀)
    next_turn h e t kinds' st = Steps.on_turn (rules_of l.rules) l.names (mended_body_t rows k) n i s kinds _ inv h e (parts_at (mended_body_t rows k) i) refl t kinds' st

    module _ (r : outcome_of start ≡ on in_root) (x : Result ⊤ BadRows) (e : x ≡ read_as_t n (outcome_of s) i) where
      pub next_end : n ≤ i → x ≡ read_rows_t (rules_of l.rules) l.names (mended_body_t rows k) 1 (n - 1) in_root kinds₀
      next_end h =
          Steps.all_read (rules_of l.rules) l.names (mended_body_t rows k) n start r kinds₀ (outcome_of s) i kinds (Steps.on_end (rules_of l.rules) l.names (mended_body_t rows k) n i s kinds _ inv h) x e

      pub next_over : 5 ≤ s.stage → x ≡ read_rows_t (rules_of l.rules) l.names (mended_body_t rows k) 1 (n - 1) in_root kinds₀
      next_over h =
          Steps.all_read (rules_of l.rules) l.names (mended_body_t rows k) n start r kinds₀ (outcome_of s) i kinds (Steps.on_over (rules_of l.rules) l.names (mended_body_t rows k) n i s kinds _ inv h) x e

-- ---- read_mended

module _ (l : Limits) (rows : List ℕ) (k : Kept) (is : k ≡ kept_in rows) (there : k.rows ≤ length rows / 16) (first : List ℕ) (made : first ≡ row_in rows k 0) (this : Row) (g : this ≡ row_to l.names first 0) where
  body_is : mended_body_t rows k ≡ mended_body_t rows (kept_in rows)
  body_is = ap (mended_body_t rows) is

  root_is : this ≡ row_to l.names (mended_body_t rows k) 0
  root_is =
      g ∙ (parts_row l.names first 0 ∙ (ap (row_of l.names) (ap (λ (r : List ℕ). parts_at r 0) made ∙ sym (parts_body rows k there 0)) ∙ sym (parts_row l.names (mended_body_t rows k) 0)))

  pub mended_other : OneOf not_open (tag_of row_type.the_type this) → Err (Broken 0) ≡ read_to l (mended_body_t rows (kept_in rows))
  mended_other h = Steps.read_other l (mended_body_t rows k) this root_is h ∙ ap (read_to l) body_is

  module _ (kind name : ℕ) (o : this ≡ row.Open kind name) where
    pub mended_kind : (kind ≡ 0 → ⊥) → Err (Broken 0) ≡ read_to l (mended_body_t rows (kept_in rows))
    mended_kind h = Steps.read_kind l (mended_body_t rows k) this root_is kind name o h ∙ ap (read_to l) body_is

    module _ (h : kind ≡ 0) (n : ℕ) (q : n ≡ l.scopes) where
      pub mended_none : n ≡ 0 → Err (Deep 0) ≡ read_to l (mended_body_t rows (kept_in rows))
      mended_none z = Steps.read_none l (mended_body_t rows k) this root_is kind name o h n q z ∙ ap (read_to l) body_is

      pub mended_root : (n ≡ 0 → ⊥) → n ≤ 255 → (r : Result ⊤ BadRows) → r ≡ read_rows_t (rules_of l.rules) l.names (mended_body_t rows k) 1 (k.rows + k.scopes - 1) in_root (take (n - 0) (drop 0 (replicate 255 0))) → r ≡ read_to l (mended_body_t rows (kept_in rows))
      mended_root z few r e =
          let count : k.rows + k.scopes - 1 ≡ length (mended_body_t rows k) / 16 - 1 = omega (arith, body_size rows k) in
          Steps.read_root l (mended_body_t rows k) this root_is kind name o h n q z few r (e ∙ ap (λ (m : ℕ). read_rows_t (rules_of l.rules) l.names (mended_body_t rows k) 1 m in_root (take (n - 0) (drop 0 (replicate 255 0)))) count) ∙ ap (read_to l) body_is

pub ruleset next_ways = (next_turn, next_end, next_over, rules)

pub ruleset mended_ways = (mended_other, mended_kind, mended_none, mended_root, rules)
