-- The beginning of a form can be finished by rows that can be written: `Begins` means the same of bytes.
use Rattle.std.specs.Prelude.{◌≡◌, refl, List, [], ◌∷◌, ◌++◌, map, ℕ, zero, suc, ◌^◌, ◌≤◌, ◌<◌, length, take, drop}
use Rattle.std.proofs.Common.{ap, ap₂, sym, ◌∙◌, append_assoc, append-nil, arith, take-append-drop}
use Rattle.std.proofs.Math.Option.{Option, some}
use Rattle.rules.specs.Versions.{RuleSet}
use Rattle.rules.specs.Rows.{Row, Open, decode_row, encode_row}
use Rattle.rules.specs.Tree.{Declaration, Head, Scope, flatten, fields_rows, decl_rows, head_rows}
use Rattle.rules.specs.Shapes.{first_name}
use Rattle.rules.specs.Begins.{IsForm, Begins}
use Rattle.rules.specs.Reader.{Stage, declaring, wanting, pathing, exported, between_fields, within, State, start, state, Next, wrong, on, whole}
use Rattle.rules.specs.Answer.{rows_of, rows_bytes}
use Rattle.rules.specs.Laws.ToolLaws.{Ok, All, done, ◌&◌, all_left, all_right, all_map}
use Rattle.rules.specs.Laws.RowLaws.{Written, Bytes, bytes_drop, decode_written, row_again, drop_row}
use Rattle.rules.specs.Laws.Read.Steps.{after, after_wrong, after_append}
use Rattle.rules.proofs.Laws.Read.ReadBack.{read_back}
use Rattle.rules.proofs.Laws.Read.ReadSound.{at_stage, around_rows, state_rows}
use Rattle.rules.proofs.Laws.Read.Finish.{finish, state_name}
use Rattle.rules.proofs.Laws.Read.Reached.{some_append, apart, from_wrong, Reached, reached}

-- ---- rows and their bytes

pub rows_length : (names count : ℕ) (bs : List ℕ) → length (rows_of names count bs) ≡ count
unfolding rows_of
rows_length names zero bs = refl
rows_length names (suc count) bs = ap suc (rows_length names count (drop 16 bs))

-- every row that is taken apart can be written
pub rows_written_lem : (names count : ℕ) (bs : List ℕ) → Bytes bs → All (Ok (Written names)) (rows_of names count bs)
unfolding rows_of
rows_written_lem names zero bs p = done
rows_written_lem names (suc count) bs p = decode_written names bs p & rows_written_lem names count (drop 16 bs) (bytes_drop 16 bs p)

-- and what can be written is taken apart again
pub rows_again : (names : ℕ) (rows : List Row) (rest : List ℕ) → All (Written names) rows
    → rows_of names (length rows) (rows_bytes rows ++ rest) ≡ map some rows
unfolding rows_of rows_bytes
rows_again names [] rest p = refl
rows_again names (row ∷ rows) rest (h & p) =
    let split : (encode_row row ++ rows_bytes rows) ++ rest ≡ encode_row row ++ (rows_bytes rows ++ rest) = append_assoc (encode_row row) (rows_bytes rows) rest in
    ap₂ (λ (o : Option Row) (l : List (Option Row)). o ∷ l)
    (ap (decode_row names) split ∙ row_again names row (rows_bytes rows ++ rest) h.fits h.legal)
    (ap (λ (l : List ℕ). rows_of names (length rows) (drop 16 l)) split
    ∙ ap (rows_of names (length rows)) (drop_row row (rows_bytes rows ++ rest))
    ∙ rows_again names rows rest p)

-- ---- names that stand in the rows

decls_named : (names : ℕ) (ds : List Declaration) (more : List Row) → All (Written names) (decl_rows ds ++ more) → first_name ds ≤ names
unfolding decl_rows first_name
decls_named names [] more p = omega arith
decls_named names (d ∷ ds) more (h & p) = h.legal

head_named : (names : ℕ) (h : Head) → All (Written names) (head_rows h) → first_name h.decls ≤ names
unfolding head_rows
head_named names h (f & p) = decls_named names h.decls _ p

stage_named : (names : ℕ) (h : Head) (stage : Stage) → All (Written names) (at_stage (head_rows h) stage) → first_name h.decls ≤ names
stage_named names h declaring p = head_named names h p
stage_named names h (wanting ps) p = head_named names h p
stage_named names h (pathing space at paths z left ps) p = head_named names h (all_left (head_rows h) _ p)
stage_named names h exported p = head_named names h p

state_named : (names : ℕ) (s : State) → All (Written names) (state_rows s) → state_name s ≤ names
state_named names start p = omega arith
state_named names (state a kind name before between_fields) p = omega arith
state_named names (state a kind name before (within h stage)) p =
    stage_named names h stage (all_right (Open kind name ∷ fields_rows before) (at_stage (head_rows h) stage) (all_right (around_rows a) _ p))

-- ---- what begins a form

pub all_some : (names : ℕ) (rows : List Row) → All (Ok (Written names)) (map some rows) → All (Written names) rows
all_some names [] p = done
all_some names (row ∷ rows) (h & p) = h & all_some names rows p

module _ (rules : RuleSet) (names : ℕ) where
  -- with some more rows, which can be written, they are a form
  pub record BeginsWritten (rows : List (Option Row)) : Type 0 where
    pub more : List Row
    pub written : All (Written names) more
    pub tree : Scope
    pub is_form : IsForm rules (rows ++ map some more) tree

  module _ (top : names < 2 ^ 32) where
    from_state : (rows : List Row) (s : State) → All (Written names) rows → Reached rules rows (on s) → BeginsWritten (map some rows)
    from_state rows s p h =
        let w = finish rules s h.0 in
        let low = state_named names s (rw h.1 p) in
        record {
          more = w.rest;
          written = all_map w.rest (λ row e. e names low top) w.easy;
          tree = w.tree;
          is_form = record {
            component = w.component;
            good = w.good;
            of_tree = ap (map some) w.split ∙ some_append (state_rows s) w.rest ∙ ap (λ (l : List Row). map some l ++ map some w.rest) h.1;
          };
        }

    from_next : (rows more : List Row) (n : Next) (t : Scope) → All (Written names) rows → Reached rules rows n → after rules n more ≡ whole t
        → BeginsWritten (map some rows)
    from_next rows more wrong t p h e = from_wrong (sym (after_wrong rules more) ∙ e)
    from_next rows more (on s) t p h e = from_state rows s p h
    from_next rows more (whole t') t p h e =
        record {
          more = [];
          written = done;
          tree = t';
          is_form = record { component = h.0; good = h.1; of_tree = ap (map some) h.2 ∙ sym (append-nil _) };
        }

    -- Rows that can be written and begin a form begin one whose other rows can be written too.
    pub begins_written : (rows : List (Option Row)) → All (Ok (Written names)) rows → Begins rules rows → BeginsWritten rows
    begins_written rows p b =
        let a = apart (flatten b.tree) rows b.more b.is_form.of_tree in
        let led =
        sym (after_append rules (on start) a.first a.second) ∙ ap (after rules (on start)) (sym a.split)
        ∙ read_back rules b.tree b.is_form.component b.is_form.good in
        rw a.is_first (from_next a.first a.second (after rules (on start) a.first) b.tree
        (all_some names a.first (rw a.is_first at p)) (reached rules a.first) led)

    -- So do the first rows of any input.
    pub input_begins : (count p : ℕ) (bs : List ℕ) → Bytes bs → Begins rules (take p (rows_of names count bs)) → BeginsWritten (take p (rows_of names count bs))
    input_begins count p bs b h =
        begins_written (take p (rows_of names count bs))
        (all_left (take p (rows_of names count bs)) (drop p (rows_of names count bs)) (rw (take-append-drop p (rows_of names count bs)) (rows_written_lem names count bs b))) h
