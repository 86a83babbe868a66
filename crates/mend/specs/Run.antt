-- The run as the code takes it.
use Rattle.std.specs.Prelude.{Bool, false, ◌&&◌, ◌||◌, List, ◌++◌, ℕ, ◌+◌, ◌*◌, ◌-◌, ◌%◌, eqb, leb, ltb, length, get_or, take, drop, replicate, Result, Ok, Err, ⊤}
use Rattle.std.proofs.lemmas.List.Edits.{sets}
use Rattle.kit.specs.Pick.{pick}
use Rattle.kit.specs.Out.{Out, ◌&◌}
use Rattle.rules.specs.Answer.{header_bytes}
use Rattle.limits.specs.declared.Limits.{Limits}
use Rattle.limits.specs.Held.{setting_in, limits_of, setting}
use Rattle.form_bytes.specs.Begins.{begins_as}
use Rattle.reader.specs.ReadTo.{read_to}
use Rattle.mending.specs.Mend.{list_bytes}
use Rattle.mend_form.specs.Kept.{kept_in}
use Rattle.mend_form.specs.Filled.{mended_body_t}
use Rattle.mend_form.specs.declared.Kept.{Kept}
use Rattle.mend_list.specs.Listed.{changes_in}
use Rattle.reader.specs.declared.BadRows.TheVariants as rows_read
use Rattle.reader.specs.declared.BadRows.{BadRows}
use Rattle.refusal.specs.declared.Refusal.{Refusal}

-- an answer, and the two buffers
abbrev pub Ran : Type 0
Ran = Out (Result ℕ Refusal) (Out (List ℕ) (List ℕ))

-- a refusal whose number document 01 gives, and its place
abbrev pub refused_t : (number place : ℕ) → Result ℕ Refusal
refused_t number place = Err (record { number = number; place = place })

-- ---- the setting

-- the letters, and this version
unfoldable pub letters_t : List ℕ → (version : ℕ) → Bool
letters_t l version = begins_as l version && eqb (get_or l 4 0) 0

-- whether a form begins as one of these limits does
unfoldable pub asks_t : Limits → List ℕ → Bool
asks_t l form =
    pick (ltb (length form) 8) false
    (pick (ltb (length form) l.header) false (letters_t form l.version && (eqb l.version 1 || eqb (get_or form 5 0) l.rules)))

-- the place of the setting in the list of all, 3 where there is none
unfoldable pub place_t : List ℕ → ℕ
place_t form =
    pick (asks_t (limits_of (setting 0)) form) 0
    (pick (asks_t (limits_of (setting 1)) form) 1 (pick (asks_t (limits_of (setting 2)) form) 2 3))

-- ---- the run

-- the mended form of which these rows stay
unfoldable pub new_t : Limits → (old : List ℕ) → Kept → List ℕ
new_t l old k = header_bytes (setting_in l) (k.rows + k.scopes) ++ mended_body_t (drop l.header old) k

-- puts the mended form in place of the first `long` bytes, and zeros where it is shorter
unfoldable pub in_place : (buffer : List ℕ) (long : ℕ) (form : List ℕ) → List ℕ
in_place buffer long form = sets (sets buffer 0 form) (length form) (replicate (long - length form) 0)

-- writes the list and the form
unfoldable pub write_t : Limits → (buffer : List ℕ) (long : ℕ) (list : List ℕ) → Kept → Ran
write_t l buffer long list k =
    let cs = changes_in l (take long buffer) in
    Ok (length cs) & in_place buffer long (new_t l (take long buffer) k) & sets list 0 (list_bytes cs)

-- refusals 4 and 5 for a mended form that has room; then it is written
unfoldable pub read_then : Result ⊤ BadRows → Limits → (buffer : List ℕ) (long : ℕ) (list : List ℕ) → Kept → Ran
read_then (Err (rows_read.Broken row)) l buffer long list k = refused_t 4 (row % 4294967296) & buffer & list
read_then (Err (rows_read.Deep row)) l buffer long list k = refused_t 5 (row % 4294967296) & buffer & list
read_then (Ok tt) l buffer long list k = write_t l buffer long list k

-- whether a form of this many bytes, and its list, have room
unfoldable pub room_t : Limits → (old : List ℕ) (size room space : ℕ) → Bool
room_t l old size room space = pick (ltb room size) false (leb (length (list_bytes (changes_in l old))) space)

-- refusals 3 to 5 for a form of which these rows stay; then it is written
unfoldable pub to_t : Limits → (buffer : List ℕ) (long : ℕ) (list : List ℕ) → Kept → Ran
to_t l buffer long list k =
    pick (room_t l (take long buffer) (l.header + 16 * (k.rows + k.scopes)) (length buffer) (length list))
    (read_then (read_to l (mended_body_t (drop l.header (take long buffer)) k)) l buffer long list k)
    (refused_t 3 0 & buffer & list)

-- mends a form that begins as one of these limits does
unfoldable pub made_t : Limits → (buffer : List ℕ) (long : ℕ) (list : List ℕ) → Ran
made_t l buffer long list =
    let k = kept_in (drop l.header (take long buffer)) in let rows = k.rows + k.scopes in
    pick (eqb rows 0) (refused_t 2 0 & buffer & list)
    (pick (ltb l.rows rows) (refused_t 2 0 & buffer & list) (to_t l buffer long list k))
