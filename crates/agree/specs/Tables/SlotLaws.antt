-- The rows that slots name, and how many slots a scope has.
use Rattle.std.specs.Prelude.{◌≡◌, refl, ℕ, suc, ◌+◌, ◌≤◌, ◌<◌}
use Rattle.std.proofs.Common.{ap}
use Rattle.std.proofs.Math.Option.{Option, none, some}
use mathlib.Core.List.{List, [], ◌∷◌, ◌++◌}
use native.Mathlib.Omega.{arith}
use Rattle.std.proofs.Math.ListN.{length, length-append}
use Rattle.rules.specs.Rows.{Index, Num, Id}
use Rattle.rules.specs.Tree.{Declaration, Operand, ref, outer, case, Head, Fields, end, ◌▸◌, head_of, decl_rows, operand_row, operand_rows, item_rows}
use Rattle.rules.specs.Rules
use Rattle.rules.specs.Rules.{Outside, onward, Result, refused, ok, heads_decls, expand_operand, path_aliases}
use Rattle.rules.specs.Shapes.{first_name}
use Rattle.rules.proofs.Laws.Meaning.Runs.{AllNew, Grown, operand_grown}
use Rattle.rules.specs.Laws.ToolLaws.{All, done, ◌&◌, all_append, all_map}
use Rattle.rules.specs.Laws.Results.{OkR, bind_any, holds_of, if_both}
use Rattle.rules.proofs.Laws.Output.FourTimes.{head_length, paths_length}
use Rattle.rules.proofs.Laws.Output.Counts.{own}
use Rattle.names.specs.Table.{Slot, name_of, row_of}
use Rattle.write.specs.Alias.{slot_at}
use Rattle.agree.specs.Tables.Cursor.{Left, left_next}
use Rattle.agree.specs.Tables.Slots.{inserted_slot, inserted_slots, decl_slots, if_ok, operands_slots, head_slots, fields_slots}

-- ---- where

-- the slots of what is inserted for a reference name its row
pub inserted_rows : (before : List Declaration) (row : ℕ) (hs : List Head) → All (λ s. row_of s ≡ row) (inserted_slots before row hs)
unfolding inserted_slots inserted_slot
inserted_rows before row [] = done
inserted_rows before row (h ∷ hs) = refl & inserted_rows (before ++ h.decls) row hs

-- and have fresh names
pub inserted_fresh : (before : List Declaration) (row lo hi : ℕ) (hs : List Head) → AllNew lo hi hs → All (λ s. 2147483648 ≤ name_of s) (inserted_slots before row hs)
unfolding inserted_slots inserted_slot first_name Rules.fresh
inserted_fresh before row lo hi [] n = done
inserted_fresh before row lo hi (h ∷ hs) n =
    let e : first_name h.decls ≡ 2147483648 + n.0.number = rw n.0.alone n.0.named in
    let p : 2147483648 ≤ first_name h.decls = omega arith in
    p & inserted_fresh (before ++ h.decls) row lo hi hs n.1

-- the slots of DECLs name the DECLs' rows
pub decl_rows_lem : (before : List Declaration) (row : ℕ) (ds : List Declaration) → All (λ s. (row ≤ row_of s) × (row_of s < row + length ds)) (decl_slots before row ds)
unfolding decl_slots
decl_rows_lem before row [] = done
decl_rows_lem before row (d ∷ ds) =
    let p : (row ≤ row) × (row < row + suc (length ds)) = (omega arith, omega arith) in
    p & all_map _ (λ s h. (omega arith, omega arith)) (decl_rows_lem (before ++ (d ∷ [])) (row + 1) ds)

-- what holds of the slots that a step brings
all_if_ok : {A : Type 0} (P : Slot → Type 0) (m : Result A) (f : A → List Slot) → ((a : A) → m ≡ ok a → All P (f a)) → All P (if_ok m [] f)
unfolding if_ok
all_if_ok P (refused n z) f g = done
all_if_ok P (ok a) f g = g a refl

-- an operand has a row
some_operand : (o : Operand) → 0 < length (operand_row o)
unfolding operand_row
some_operand (ref space at paths z) = omega arith
some_operand (outer space up at z) = omega arith
some_operand (case name z) = omega arith

module _ (here : List Declaration) (outside : Outside) where
  -- the slots that operands bring name the operands' rows
  pub operands_rows : (before : List Declaration) (k row : ℕ) (os : List Operand) → All (λ s. (row ≤ row_of s) × (row_of s < row + length (operand_rows os))) (operands_slots here outside before k row os)
  unfolding operands_slots operand_rows
  operands_rows before k row [] = done
  operands_rows before k row (o ∷ os) =
      let l = length-append (operand_row o) (operand_rows os) in
      let g = some_operand o in
      all_if_ok _ _ _ (λ e q.
      all_append _ _ (all_map _ (λ s h. (omega arith, omega arith)) (inserted_rows before row e.inserted))
      (all_map _ (λ s h. (omega arith, omega arith)) (operands_rows (before ++ heads_decls e.inserted) e.k (row + length (operand_row o)) os)))

  -- the slots that a field brings before its DECLs name rows behind its DECLs
  pub head_rows_lem : (before : List Declaration) (k row : ℕ) (h : Head) → All (λ s. (row + 1 + length h.decls ≤ row_of s) × (row_of s < row + 1 + length h.decls + length (operand_rows h.operands))) (head_slots here outside before k row h)
  unfolding head_slots
  head_rows_lem before k row h = if_both (All _) _ _ _ done (operands_rows before k (row + 1 + length h.decls) h.operands)

  -- the slots that operands bring have fresh names
  pub operands_fresh : (before : List Declaration) (k row : ℕ) (os : List Operand) → All (λ s. 2147483648 ≤ name_of s) (operands_slots here outside before k row os)
  unfolding operands_slots
  operands_fresh before k row [] = done
  operands_fresh before k row (o ∷ os) =
      all_if_ok _ _ _ (λ e q.
      let g : Grown k e = holds_of (Grown k) (expand_operand here outside k o) e (operand_grown here outside k o) q in
      all_append _ _ (inserted_fresh before row k e.k e.inserted g.1)
      (operands_fresh (before ++ heads_decls e.inserted) e.k (row + length (operand_row o)) os))

-- and so have those of a field before its DECLs
pub head_fresh : (here : List Declaration) (outside : Outside) (before : List Declaration) (k row : ℕ) (h : Head) → All (λ s. 2147483648 ≤ name_of s) (head_slots here outside before k row h)
unfolding head_slots
head_fresh here outside before k row h = if_both (All _) _ _ _ done (operands_fresh here outside before k (row + 1 + length h.decls) h.operands)

-- all slots of fields name rows from the first field's on
pub fields_rows_lem : (here : List Declaration) (outside : Outside) (before : List Declaration) (k row : ℕ) (fs : Fields) → All (λ s. row ≤ row_of s) (fields_slots here outside before k row fs)
unfolding fields_slots
fields_rows_lem here outside before k row end = done
fields_rows_lem here outside before k row (i ▸ fs) =
    all_if_ok _ _ _ (λ e q.
    let h = head_of i in
    let ds = before ++ heads_decls e.inserted in
    all_append _ _ (all_map _ (λ s g. omega (arith, g.0)) (head_rows_lem here outside before k row h))
    (all_append _ _ (all_map _ (λ s g. omega (arith, g.0)) (decl_rows_lem ds (row + 1) h.decls))
    (all_map _ (λ s g. omega arith) (fields_rows_lem here (onward i outside) (ds ++ h.decls) e.k (row + length (item_rows i)) fs))))

-- the next slot is one that was inserted before the field, where any was
pub first_fresh : (names : List Slot) (to k : ℕ) (slots rest : List Slot) → Left names to k (slots ++ rest) → All (λ s. 2147483648 ≤ name_of s) slots → name_of (slot_at names k) < 2147483648 → length slots ≡ 0
first_fresh names to k [] rest l a h = refl
first_fresh names to k (s ∷ slots) rest l (p & a) h =
    let n = left_next names to k s (slots ++ rest) l in
    let e : name_of (slot_at names k) ≡ name_of s = ap name_of n.is in
    absurd (omega arith)

-- ---- how many

-- one slot for each inserted field
pub inserted_length : (before : List Declaration) (row : ℕ) (hs : List Head) → length (inserted_slots before row hs) ≡ length hs
unfolding inserted_slots
inserted_length before row [] = refl
inserted_length before row (h ∷ hs) = ap suc (inserted_length (before ++ h.decls) row hs)

-- one slot for each DECL
pub decl_length : (before : List Declaration) (row : ℕ) (ds : List Declaration) → length (decl_slots before row ds) ≡ length ds
unfolding decl_slots
decl_length before row [] = refl
decl_length before row (d ∷ ds) = ap suc (decl_length (before ++ (d ∷ [])) (row + 1) ds)

-- one row for each DECL
pub decl_rows_length : (ds : List Declaration) → length (decl_rows ds) ≡ length ds
unfolding decl_rows
decl_rows_length [] = refl
decl_rows_length (d ∷ ds) = ap suc (decl_rows_length ds)

-- how many slots a step brings
length_if_ok : {A : Type 0} (n : ℕ) (m : Result A) (f : A → List Slot) → ((a : A) → m ≡ ok a → length (f a) ≤ n) → length (if_ok m [] f) ≤ n
unfolding if_ok
length_if_ok n (refused i z) f g = omega arith
length_if_ok n (ok a) f g = g a refl

-- one alias for each PATH
pub aliases_length : (space : ℕ) (at : Index) (p : ℕ) (ps : List ℕ) (z k : ℕ) → length (path_aliases space at p ps z k) ≡ suc (length ps)
unfolding path_aliases
aliases_length space at p [] z k = refl
aliases_length space at p (q ∷ ps) z k = ap suc (aliases_length space (Id (Rules.fresh k)) q ps z (suc k))

module _ (here : List Declaration) (outside : Outside) where
  -- a name that is found further out inserts one field at the most
  found_heads : (space name z k n : ℕ) (o : Option (ℕ × ℕ)) → 1 ≤ n → OkR (λ e. length e.inserted ≤ n) (Rules.found_at space name z k o)
  unfolding Rules.found_at Rules.through Rules.as_it_is
  found_heads space name z k n none h = omega arith
  found_heads space name z k n (some at) h = if_both (OkR _) _ _ _ h tt

  -- an operand inserts no more fields than it has rows
  pub operand_heads : (k : ℕ) (o : Operand) → OkR (λ e. length e.inserted ≤ length (operand_row o)) (expand_operand here outside k o)
  unfolding expand_operand Rules.through Rules.as_it_is operand_row
  operand_heads k (ref space (Num n) [] z) = omega arith
  operand_heads k (ref space (Id name) [] z) = bind_any _ _ _ (λ u. if_both (OkR _) _ _ _ (omega arith) (found_heads space name z k _ _ (omega arith)))
  operand_heads k (ref space at (p ∷ ps) z) = if_both (OkR _) _ _ _ tt (omega (arith, paths_length (p ∷ ps), aliases_length space at p ps z k))
  operand_heads k (outer space up at z) = omega arith
  operand_heads k (case name z) = omega arith

  -- operands bring no more slots than they have rows
  pub operands_length : (before : List Declaration) (k row : ℕ) (os : List Operand) → length (operands_slots here outside before k row os) ≤ length (operand_rows os)
  unfolding operands_slots operand_rows
  operands_length before k row [] = omega arith
  operands_length before k row (o ∷ os) =
      length_if_ok _ _ _ (λ e q.
      let x = inserted_slots before row e.inserted in
      let y = operands_slots here outside (before ++ heads_decls e.inserted) e.k (row + length (operand_row o)) os in
      let a = length-append x y in
      let b = length-append (operand_row o) (operand_rows os) in
      let c = inserted_length before row e.inserted in
      let d : length e.inserted ≤ length (operand_row o) = holds_of (λ e. length e.inserted ≤ length (operand_row o)) (expand_operand here outside k o) e (operand_heads k o) q in
      let r = operands_length (before ++ heads_decls e.inserted) e.k (row + length (operand_row o)) os in
      omega arith)

  -- and so for a field
  head_slots_length : (before : List Declaration) (k row : ℕ) (h : Head) → length (head_slots here outside before k row h) ≤ length (operand_rows h.operands)
  unfolding head_slots
  head_slots_length before k row h = if_both (λ (l : List Slot). length l ≤ length (operand_rows h.operands)) _ _ _ (omega arith) (operands_length before k (row + 1 + length h.decls) h.operands)

-- a scope has no more slots than its fields have rows of their own
pub slots_length : (here : List Declaration) (outside : Outside) (before : List Declaration) (k row : ℕ) (fs : Fields) → length (fields_slots here outside before k row fs) ≤ own fs
unfolding fields_slots own
slots_length here outside before k row end = omega arith
slots_length here outside before k row (i ▸ fs) =
    length_if_ok _ _ _ (λ e q.
    let h = head_of i in
    let ds = before ++ heads_decls e.inserted in
    let x = head_slots here outside before k row h in
    let y = decl_slots ds (row + 1) h.decls in
    let z = fields_slots here (onward i outside) (ds ++ h.decls) e.k (row + length (item_rows i)) fs in
    let a = length-append x (y ++ z) in
    let b = length-append y z in
    let c = head_slots_length here outside before k row h in
    let d = decl_length ds (row + 1) h.decls in
    let f = decl_rows_length h.decls in
    let g = head_length h in
    let r = slots_length here (onward i outside) (ds ++ h.decls) e.k (row + length (item_rows i)) fs in
    omega arith)
