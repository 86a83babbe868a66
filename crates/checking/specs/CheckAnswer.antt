-- What the checker answers with the working areas that it is lent, and what these hold then: a table of slots, six numbers each, and an
-- index of numbers.
use Rattle.std.specs.Prelude.{Bool, ◌||◌, not, List, [], ◌∷◌, ℕ, ◌+◌, ◌*◌, eqb, ltb, length, replicate}
use Rattle.std.proofs.Math.Option.{Option, none, some}
use Rattle.clearing.specs.Cleared.{cleared}
use Rattle.rules.specs.Tools.{when◌then◌else◌, between, ◌or_else◌}
use Rattle.rules.specs.Versions.{Version, Setting}
use Rattle.rules.specs.Answer.{setting_of, row_count}
use Rattle.checking.specs.Check.{Verdict, refused, verdict_for}

-- ---- their fixed sizes: twice the version's rows, and for the index 1,024 more

-- how many slots the table needs: two for each row of the largest input
unfoldable pub slots_of : Version → ℕ
slots_of v = 2 * v.rows

-- how many numbers the index needs: 1,024 heads of chains, and a link for each slot
unfoldable pub links_of : Version → ℕ
links_of v = 1024 + slots_of v

-- ---- the answer: refusal 3 has its place behind 1 and 2 of the input

-- the answer under this setting; refusal 1, if the input's header is not that of any
unfoldable pub check_for : Option Setting → (input claim : List ℕ) (slots links : ℕ) → Verdict
check_for none input claim slots links = refused 1 0 []
check_for (some s) input claim slots links =
    let v = s.version in
    let rows = row_count v input in
    when not (between 1 v.rows rows) || not (eqb (length input) (v.header + 16 * rows)) then refused 2 0 []
    else when ltb slots (slots_of v) || ltb links (links_of v) then refused 3 0 []
    else verdict_for (some s) input claim

-- the answer to an input and a claim; `slots` and `links` are the lengths of the two areas
unfoldable pub check_answer : List Setting → (input claim : List ℕ) (slots links : ℕ) → Verdict
check_answer settings input claim slots links = check_for (setting_of settings input) input claim slots links

-- ---- the areas: after every return zero up to that size, all of them where they are shorter, and later ones unchanged

-- the setting by which the areas have their sizes: the one that the input asks for; the first, if it asks for none of these
unfoldable pub sized_by : List Setting → (input : List ℕ) → Option Setting
sized_by [] input = none
sized_by (s ∷ ss) input = setting_of (s ∷ ss) input or_else some s

-- an area after the call, if its size goes by this setting
unfoldable pub area_for : {A : Type 0} → (Version → ℕ) → Option Setting → (zero : A) → List A → List A
area_for size none zero old = old
area_for size (some s) zero old = cleared zero (size s.version) old

-- what the table of slots holds after the call
unfoldable pub table_after : List Setting → (input : List ℕ) (old : List (List ℕ)) → List (List ℕ)
table_after settings input old = area_for slots_of (sized_by settings input) (replicate 6 0) old

-- what the index holds after the call
unfoldable pub index_after : List Setting → (input old : List ℕ) → List ℕ
index_after settings input old = area_for links_of (sized_by settings input) 0 old

-- Unfolds all of this module: for a claim that antt computes.
unfoldable pub computes : Unit {0}
unfolding slots_of links_of check_for check_answer cleared sized_by area_for table_after index_after
computes = tt
