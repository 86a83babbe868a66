-- The first pass: the number of each DECL, and the scope of each OUTER.
use Rattle.std.specs.Prelude.{List, [], ◌∷◌, ℕ, zero, suc, ◌+◌, ◌%◌, eqb, set}
use Rattle.kit.specs.Pick.{pick}
use Rattle.kit.specs.Out.{Out, ◌&◌}
use Rattle.parts.specs.declared.Parts.{Parts}
use Rattle.claim_scopes.specs.Open.{row_in, open_in, here_t, open_behind_t, open_one_t}
use Rattle.claim_numbers.specs.Count.{count_before_t, number_before_t, counts_t}
use Rattle.back_notes.specs.Note.{Note, note, no_note}

-- the row of the OPEN of the scope so far out, of those that are open; 65535 where there is none
unfoldable pub out_t : List (List ℕ) → (far : ℕ) → ℕ
out_t [] far = 65535
out_t (s ∷ st) zero = row_in s % 65536
out_t (s ∷ st) (suc far) = out_t st far

-- what is noted of a row, where this many scopes are open: `number` is its own, if it is a DECL
unfoldable pub note_t : (st : List (List ℕ)) (number : ℕ) → Parts → Note
note_t st number p = pick (eqb p.code 2) (note number (here_t st % 65536)) (pick (eqb p.code 5) (note 0 (out_t st p.x)) no_note)

-- ---- as the code goes: how many scopes are open behind a row, the scopes, their counts, and the notes

abbrev pub Went : Type 0
Went = Out ℕ (Out (List (List ℕ)) (Out (List (List ℕ)) (List Note)))

unfoldable pub went_t : Out ℕ (List (List ℕ)) → (counts : List (List ℕ)) (noted : List Note) → Went
went_t (depth & scopes) counts noted = depth & scopes & counts & noted

unfoldable pub on_t : Out ℕ (List (List ℕ)) → Parts → (i : ℕ) (scopes : List (List ℕ)) (noted : List Note) (depth : ℕ) → Went
on_t (number & counts) p i scopes noted depth = went_t (open_behind_t scopes depth p i) counts (set noted i (note_t (open_in scopes depth) number p))

-- notes row i, and answers how many scopes are open behind it
unfoldable pub number_row_t : Parts → (i : ℕ) (scopes counts : List (List ℕ)) (noted : List Note) (depth : ℕ) → Went
number_row_t p i scopes counts noted depth = on_t (count_before_t counts depth p) p i scopes noted depth

-- ---- as a list: the notes of rows, the first of which is row i, where these scopes are open and these were counted

-- what is noted of rows, from row i on
unfoldable pub notes_t : (i : ℕ) (st cs : List (List ℕ)) → List Parts → List Note
notes_t i st cs [] = []
notes_t i st cs (p ∷ ps) = note_t st (number_before_t cs p) p ∷ notes_t (i + 1) (open_one_t 64 st p i) (counts_t 64 cs p) ps
