-- The list of changes as the code makes it: piece by piece, by comparing the old bytes with the mended ones.
use Rattle.std.specs.Prelude.{List, [], ◌∷◌, ◌++◌, ℕ, zero, suc, ◌+◌, ◌*◌, ◌-◌, eqb, ltb, length, take, drop, replicate}
use Rattle.std.proofs.lemmas.List.Edits.{sets}
use Rattle.kit.specs.Pick.{pick}
use Rattle.kit.specs.Out.{Out, ◌&◌}
use Rattle.rules.specs.Answer.{same_numbers, header_bytes}
use Rattle.limits.specs.declared.Limits.{Limits}
use Rattle.limits.specs.Held.{setting_in}
use Rattle.mending.specs.Mend.{Change, list_bytes}
use Rattle.mend_form.specs.Kept.{kept_in}
use Rattle.mend_form.specs.Filled.{row_in}
use Rattle.mend_form.specs.declared.Kept.{Kept}
use Rattle.mend_list.specs.declared.Listed.{Listed}

abbrev pub listed : (size count : ℕ) → Listed
listed size count = record { size = size; count = count }

-- no bytes and no changes
abbrev pub none : Listed
none = listed 0 0

-- further changes behind those so far
unfoldable pub noted : Listed → List ℕ → List Change → Out Listed (List ℕ)
noted s l cs = listed (s.size + length (list_bytes cs)) (s.count + length cs) & sets l s.size (list_bytes cs)

-- n bytes stood at byte `at`, and m stand there now
abbrev pub change : (old : List ℕ) (at n m : ℕ) → Change
change old at n m = record { at = at; before = take n (drop at old); now = m }

-- n bytes from byte `at` on that become the n bytes of `new` from byte `to` on
unfoldable pub piece_changes : (old new : List ℕ) (at to n : ℕ) → List Change
piece_changes old new at to n = pick (same_numbers (take n (drop at old)) (take n (drop to new))) [] (change old at n n ∷ [])

-- how many bytes the part has that begins at byte j of a row, 0 where none does
unfoldable pub width_t : ℕ → ℕ
width_t j =
    pick (eqb j 0) 1 (pick (eqb j 1) 1 (pick (eqb j 2) 2 (pick (eqb j 4) 4 (pick (eqb j 8) 4 (pick (eqb j 12) 4 0)))))

-- `left` bytes from byte j on, of the row at byte a, which becomes `new`
unfoldable pub row_changes : (old new : List ℕ) (a j left : ℕ) → List Change
row_changes old new a j zero = []
row_changes old new a j (suc left) = piece_changes old new (a + j) j (width_t j) ++ row_changes old new a (j + 1) left

-- `left` rows from row i on, behind a header of this many bytes
unfoldable pub rows_changes : (header : ℕ) (old : List ℕ) → Kept → (i left : ℕ) → List Change
rows_changes header old k i zero = []
rows_changes header old k i (suc left) = row_changes old (row_in (drop header old) k i) (header + 16 * i) 0 16 ++ rows_changes header old k (i + 1) left

-- the header, in as many bytes as the longest has
unfoldable pub header_of_t : Limits → (count : ℕ) → List ℕ
header_of_t l count = sets (replicate 16 0) 0 (header_bytes (setting_in l) count)

-- byte 5, the row count, and the zeros behind it
unfoldable pub head_changes : Limits → (old new : List ℕ) → List Change
head_changes l old new =
    let behind = 6 + pick l.wide 4 2 in
    piece_changes old new 5 5 1 ++ (piece_changes old new 6 6 (behind - 6) ++ piece_changes old new behind behind (l.header - behind))

-- all that stands from byte a on becomes m bytes
unfoldable pub rest_changes : (old : List ℕ) (a m : ℕ) → List Change
rest_changes old a m = pick (eqb (length old - a) m) [] (change old a (length old - a) m ∷ [])

-- of the form, of which these rows stay
unfoldable pub all_changes : Limits → (old : List ℕ) → Kept → List Change
all_changes l old k =
    let a = l.header + 16 * k.rows in
    (head_changes l old (header_of_t l (k.rows + k.scopes)) ++ rows_changes l.header old k 0 k.rows) ++ rest_changes old a (16 * k.scopes)

-- nothing, where there is no such header, or more rows stay than a form may have
unfoldable pub changes_in : Limits → (old : List ℕ) → List Change
changes_in l old =
    let k = kept_in (drop l.header old) in
    pick (ltb l.header (6 + pick l.wide 4 2)) []
    (pick (ltb 16 l.header) [] (pick (ltb (length old) l.header) [] (pick (ltb 16383 k.rows) [] (all_changes l old k))))
