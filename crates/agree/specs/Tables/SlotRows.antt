-- The row word of a scope's slots is the row of the entries that the rules make.
use Rattle.std.specs.Prelude.{◌≡◌, refl, Bool, true, ℕ, suc, ◌+◌, length}
use Rattle.std.proofs.Math.Path.{sym}
use Rattle.std.proofs.Common.{ap, ◌∙◌, arith, add-zero}
use Rattle.std.proofs.Math.Bool.{false}
use Rattle.std.proofs.Math.Option.{Option, none, some}
use mathlib.Core.List.{List, [], ◌∷◌, ◌++◌, map, map-append}
use Rattle.rules.specs.Tools.{when◌then◌else◌}
use Rattle.rules.specs.Rows.{Row, Num, Id}
use Rattle.rules.specs.Tree.{Declaration, Operand, ref, outer, case, Head, Fields, end, ◌▸◌, Item, head_of, operand_row, item_rows}
use Rattle.rules.specs.Shapes.{here_only}
use Rattle.rules.specs.Rules.{Entry, Outside, onward, ok, Expanded, as_it_is, through, found_at, expand_operand, expand_operands, expand_head, entered, stand_in, inserted_entries, expand_fields, heads_decls}
use Rattle.rules.specs.Laws.Results.{OkR, bind_any, if_both, holds_of, ok_same, bind_inv}
use Rattle.rules.proofs.Laws.Meaning.Runs.{AllNew, head_grown}
use Rattle.rules.proofs.Laws.Meaning.EntryRows.{Served, nothing, ◌and◌, head_served}
use Rattle.names.specs.Table.{Slot, row_of}
use Rattle.names.specs.Stands.{entry_rows}
use Rattle.agree.specs.Tables.Slots.{inserted_slot, inserted_slots, decl_slots, if_ok, operands_slots, head_slots, fields_slots}
use Rattle.agree.specs.StepC.AliasAgrees.{operands_made}
use Rattle.agree.specs.StepC.HeadAgrees.{head_made, here_made}

cons_same : (a b : ℕ) (xs ys : List ℕ) → a ≡ b → xs ≡ ys → ◌≡◌ {A = List ℕ} (a ∷ xs) (b ∷ ys)
cons_same a b xs ys p q = rw (p, q)

shift : (a b : ℕ) (ns : List ℕ) → map (λ (n : ℕ). a + b + n) ns ≡ map (λ (n : ℕ). a + n) (map (λ (n : ℕ). b + n) ns)
shift a b [] = refl
shift a b (n ∷ ns) = cons_same _ _ _ _ (omega arith) (shift a b ns)

-- ---- what is inserted

-- for one operand: in the operand's first row
found_rows : (space name z k : ℕ) (o : Option (ℕ × ℕ)) → OkR (λ e. e.rows ≡ map (λ (h : Head). 0) e.inserted) (found_at space name z k o)
unfolding found_at as_it_is through
found_rows space name z k none = refl
found_rows space name z k (some at) = if_both (OkR _) _ _ _ refl tt

operand_rows_lem : (here : List Declaration) (outside : Outside) (k : ℕ) (o : Operand) → OkR (λ e. e.rows ≡ map (λ (h : Head). 0) e.inserted) (expand_operand here outside k o)
unfolding expand_operand as_it_is through
operand_rows_lem here outside k (ref space (Num n) [] z) = refl
operand_rows_lem here outside k (ref space (Id name) [] z) = bind_any _ _ _ (λ u. if_both (OkR _) _ _ _ refl (found_rows space name z k _))
operand_rows_lem here outside k (ref space at (p ∷ ps) z) = if_both (OkR _) _ _ _ tt refl
operand_rows_lem here outside k (outer space up at z) = refl
operand_rows_lem here outside k (case name z) = refl

inserted_words : (before : List Declaration) (row : ℕ) (hs : List Head) → map row_of (inserted_slots before row hs) ≡ map (λ (n : ℕ). row + n) (map (λ (h : Head). 0) hs)
unfolding inserted_slots inserted_slot
inserted_words before row [] = refl
inserted_words before row (h ∷ hs) = cons_same _ _ _ _ (sym (add-zero row)) (inserted_words (before ++ h.decls) row hs)

-- for the operands of a field, the first in that row
operands_words : (here : List Declaration) (outside : Outside) (os : List Operand) (before : List Declaration) (k row : ℕ) (E : Expanded (List Operand)) → expand_operands here outside k os ≡ ok E
    → map row_of (operands_slots here outside before k row os) ≡ map (λ (n : ℕ). row + n) E.rows
unfolding expand_operands operands_slots as_it_is if_ok
operands_words here outside [] before k row E q = rw (← ok_same _ E q)
operands_words here outside (o ∷ os) before k row E q =
    let c = operands_made here outside k o os E q in
    let ih = operands_words here outside os (before ++ heads_decls c.0.inserted) c.0.k (row + length (operand_row o)) c.1 c.3 in
    let zero-each = holds_of _ _ c.0 (operand_rows_lem here outside k o) c.2 in
    rw (← c.4, c.2)
    (map-append row_of (inserted_slots before row c.0.inserted) _
    ∙ (rw (ih, inserted_words before row c.0.inserted, ← zero-each, shift row (length (operand_row o)) c.1.rows) (sym (map-append (λ (n : ℕ). row + n) c.0.rows _))))

-- the entries of what is inserted, one for each
entries_words : {rows : List Row} (lo hi base : ℕ) (hs : List Head) (ns : List ℕ) → Served rows hs ns → AllNew lo hi hs → entry_rows (inserted_entries base hs ns) ≡ map (λ (n : ℕ). base + n) ns
unfolding inserted_entries stand_in
entries_words lo hi base _ _ nothing a = refl
entries_words lo hi base _ _ (◌and◌ {h = h} {n = n} {hs = hs} {ns = ns} s ss) a = rw a.0.alone (ap (λ (l : List ℕ). (base + n) ∷ l) (entries_words lo hi base hs ns ss a.1))

head_words : (here : List Declaration) (outside : Outside) (before : List Declaration) (k row base : ℕ) (h : Head) (e : Expanded Head) → expand_head here outside k h ≡ ok e → row + 1 + length h.decls ≡ base
    → map row_of (head_slots here outside before k row h) ≡ entry_rows (inserted_entries base e.inserted e.rows)
head_words here outside before k row base h e q b = go (here_only h.code) refl
  where
    go : (t : Bool) → here_only h.code ≡ t → map row_of (head_slots here outside before k row h) ≡ entry_rows (inserted_entries base e.inserted e.rows)
    go true c = unfold head_slots when◌then◌else◌ as_it_is inserted_entries in rw (c, ← here_made here outside k h e q c)
    go false c =
        let m = head_made here outside k h e q c in
        let s = holds_of _ _ e (head_served here outside k h) q in
        let g = holds_of _ _ e (head_grown here outside k h) q in
        unfold head_slots when◌then◌else◌ in rw (c, b)
        (operands_words here outside h.operands before k base m.0 m.1
        ∙ (ap (λ (x : Expanded Head). map (λ (n : ℕ). base + n) x.rows) m.2 ∙ sym (entries_words k e.k base e.inserted e.rows s g.1)))

-- ---- DECLs

decl_words : (before : List Declaration) (row row' : ℕ) (ds : List Declaration) → row ≡ row' → map row_of (decl_slots before row ds) ≡ entry_rows (entered row' ds)
unfolding decl_slots entered
decl_words before row row' [] e = refl
decl_words before row row' (d ∷ ds) e = cons_same _ _ _ _ e (decl_words (before ++ (d ∷ [])) (row + 1) (suc row') ds (omega arith))

-- ---- all fields

three_parts : (x y z : List Slot) (x' y' z' : List Entry) → map row_of x ≡ entry_rows x' → map row_of y ≡ entry_rows y' → map row_of z ≡ entry_rows z' → map row_of (x ++ (y ++ z)) ≡ entry_rows (x' ++ (y' ++ z'))
three_parts x y z x' y' z' p q r =
    let f : Entry → ℕ = λ (e : Entry). e.row in
    rw (map-append row_of x (y ++ z), map-append row_of y z, p, q, r) (sym (map-append f x' (y' ++ z') ∙ ap (λ (l : List ℕ). map f x' ++ l) (map-append f y' z')))

fields_entries : (here : List Declaration) (outside : Outside) (k : ℕ) (i : Item) (fs : Fields) (X : List Entry × ℕ) → expand_fields here outside k (i ▸ fs) ≡ ok X
    → (e : Expanded Head) × (r : List Entry × ℕ) × (expand_head here outside k (head_of i) ≡ ok e) × (expand_fields here (onward i outside) e.k fs ≡ ok r)
    × (X.0 ≡ inserted_entries (outside.before.row + suc (length (head_of i).decls)) e.inserted e.rows ++ (entered (suc outside.before.row) (head_of i).decls ++ r.0))
unfolding expand_fields
fields_entries here outside k i fs X q =
    let c₁ = bind_inv (expand_head here outside k (head_of i)) _ X q in
    let c₂ = bind_inv (expand_fields here (onward i outside) c₁.0.k fs) _ X c₁.2 in
    (c₁.0, c₂.0, c₁.1, c₂.1, ap (λ (x : List Entry × ℕ). x.0) (sym (ok_same _ X c₂.2)))

-- The table of a scope: its slots are in the rows of the entries.
pub slot_rows : (here : List Declaration) (outside : Outside) (before : List Declaration) (k row : ℕ) (fs : Fields) (r : List Entry × ℕ) → expand_fields here outside k fs ≡ ok r → outside.before.row ≡ row
    → map row_of (fields_slots here outside before k row fs) ≡ entry_rows r.0
unfolding fields_slots expand_fields if_ok
slot_rows here outside before k row end r q e = rw (← ok_same _ r q)
slot_rows here outside before k row (i ▸ fs) r q e =
    let c = fields_entries here outside k i fs r q in
    let ds = (head_of i).decls in
    let now = outside.before.row in
    let before' = before ++ heads_decls c.0.inserted in
    rw c.2
    (three_parts (head_slots here outside before k row (head_of i)) (decl_slots before' (row + 1) ds) _
    (inserted_entries (now + suc (length ds)) c.0.inserted c.0.rows) (entered (suc now) ds) c.1.0
    (head_words here outside before k row (now + suc (length ds)) (head_of i) c.0 c.2 (omega arith))
    (decl_words before' (row + 1) (suc now) ds (omega arith))
    (slot_rows here (onward i outside) (before' ++ ds) c.0.k (row + length (item_rows i)) fs c.1 c.3 (omega arith))
    ∙ ap entry_rows (sym c.4))
