-- Step A: on the rows of fields, `enter_fields_t` does what the rules' `distinct` says.
use Rattle.std.specs.Prelude.{◌≡◌, Bool, ◌&&◌, not, get_or, set, Option as CodeOption, Some, None, Result as CodeResult, Ok, Err, ℕ, is_some}
use Rattle.std.proofs.Math.Path.{refl, sym, ap}
use Rattle.std.proofs.Common.{◌∙◌, arith, length-set}
use Rattle.std.proofs.Math.Bool.{true, false}
use Rattle.std.proofs.Math.Option.{Option, none, some, map}
use mathlib.Core.List.{List, [], ◌∷◌, ◌++◌, append_assoc, append-nil}
use Prim.Native.Nat.{ℕ, zero, suc, ◌+◌, ◌-◌, ◌/◌, ◌≤◌}
use Rattle.std.proofs.Math.Dec.{eqb}
use Rattle.std.proofs.Math.ListN.{length, length-append}
use Rattle.kit.specs.Pick.{pick}
use Rattle.kit.specs.Out.{Out, ◌&◌}
use Rattle.kit.proofs.Laws.{yes!, no! }
use Rattle.rules.specs.Tools.{when◌then◌else◌, is_just}
use Rattle.rules.specs.Rows.{Row, Close}
use Rattle.rules.specs.Tree.{Declaration, Fields, end, ◌▸◌, Item, head_of, decl_rows, flatten, fields_rows, item_rows}
use Rattle.rules.specs.Rules.{Refusal, number_of, carried_by, twice, first_place, Result, refused, ok, ◌>>=◌, find, declarations, distinct}
use Rattle.rules.specs.Laws.ToolLaws.{length_snoc, snoc_append}
use Rattle.rules.specs.Laws.Results.{no_result, ok_same}
use Rattle.rules.proofs.Laws.Output.FourTimes.{fields_size, head_length}
use Rattle.rules.proofs.Laws.Output.Counts.{own, rows_split}
use Rattle.rows.specs.RowAt.{taken, code_at}
use Rattle.form.specs.Part.{field_rows}
use Rattle.refusal.specs.Refusals.{refusal_at, tells}
use Rattle.names.specs.Table.{Slot, space_of, name_of, number_of as word_of, between, find_in}
use Rattle.names.proofs.Storey.{pushed_room, between_push}
use Rattle.plan.specs.Views.{if_decl}
use Rattle.plan.specs.Enter.{row_number, first_t, found_then, placed_slot, push_then, enter_field_t, enter_then, enter_fields_t}
use Rattle.agree.specs.Tables.Sizes.{most}
use Rattle.agree.specs.Refusals.Carried.{said_of, told_of}
use Rattle.agree.specs.Rows.At.{Is, At}
use Rattle.form.specs.Ends.{Ends}
use Rattle.agree.specs.Rows.AtLaws.{at_left, at_right, at_head, at_tail, at_fits, part_at, part_size, code_is, row_number_lem}
use Rattle.agree.specs.Tables.SlotLaws.{decl_rows_length}
use Rattle.agree.specs.Rows.ItemRows.{rest_rows, field_row, item_rows_lem, some_rows, NoDecl, no_decl_rest, not_decl_lem}
use Rattle.refusal.specs.declared.Refused.{Refused}

-- ---- slots that were entered

-- the slots have the declarations' spaces, names and places, in order
unfoldable pub EnteredAs : List Slot → List Declaration → Type 0
EnteredAs [] [] = Unit {0}
EnteredAs [] (d ∷ ds) = ⊥
EnteredAs (s ∷ ss) [] = ⊥
EnteredAs (s ∷ ss) (d ∷ ds) = (space_of s ≡ d.space) × (name_of s ≡ d.name) × (word_of s ≡ d.z) × EnteredAs ss ds

-- slots behind slots are declarations behind declarations
pub entered_append : (ss ss' : List Slot) (ds ds' : List Declaration) → EnteredAs ss ds → EnteredAs ss' ds' → EnteredAs (ss ++ ss') (ds ++ ds')
unfolding EnteredAs
entered_append [] ss' [] ds' e f = f
entered_append (s ∷ ss) ss' (d ∷ ds) ds' e f = (e.0, e.1, e.2, entered_append ss ss' ds ds' e.3 f)
entered_append [] ss' (d ∷ ds) ds' e f = elim e [ ]
entered_append (s ∷ ss) ss' [] ds' e f = elim e [ ]

-- the place of the first declaration of a name, where the rules find one
abbrev first_in : Option ℕ → (place : ℕ) → CodeOption ℕ
first_in none place = None
first_in (some n) place = Some place

-- one slot, t and u the tests on its space and its name
first_turn : (t u : Bool) (z place : ℕ) (o : Option ℕ) → pick t (pick u (Some z) (first_in o place)) (first_in o place) ≡ first_in (when t then when u then some 0 else map suc o else o) (when t && u then z else place)
unfolding pick when◌then◌else◌
first_turn true true z place o = refl
first_turn true false z place none = refl
first_turn true false z place (some n) = refl
first_turn false u z place o = refl

-- a name is found among them where the rules find it, with the place of the first
entered_first : (ss : List Slot) (ds : List Declaration) (space name : ℕ) → EnteredAs ss ds → find_in ss space name ≡ first_in (find ds space name) (first_place ds space name)
unfolding EnteredAs find_in find first_place
entered_first [] [] space name e = refl
entered_first (s ∷ ss) (d ∷ ds) space name e =
    rw (e.0, e.1, e.2, entered_first ss ds space name e.3)
    (first_turn (eqb d.space space) (eqb d.name name) d.z (first_place ds space name) (find ds space name))
entered_first [] (d ∷ ds) space name e = elim e [ ]
entered_first (s ∷ ss) [] space name e = elim e [ ]

first_known : (o : Option ℕ) (place : ℕ) → is_some (first_in o place) ≡ is_just o
first_known none place = refl
first_known (some n) place = refl

-- ---- the rules' step A, part by part

-- a refusal ends both steps
distinct_turn : {A : Type 0} (t : Bool) (x y : Result A) (f : A → Result A) (R : Result A) → R ≡ (y >>= f) → (x >>= f) ≡ x → (when t then x else R) ≡ ((when t then x else y) >>= f)
unfolding when◌then◌else◌
distinct_turn true x y f R e g = sym g
distinct_turn false x y f R e g = e

-- step A of two lists is that of the first and then that of the second
pub distinct_append : (before ds es : List Declaration) → distinct before (ds ++ es) ≡ (distinct before ds >>= λ b. distinct b es)
unfolding distinct ◌>>=◌
distinct_append before [] es = refl
distinct_append before (d ∷ ds) es =
    distinct_turn (not (eqb d.name 0) && is_just (find before d.space d.name)) (refused (twice d.space (first_place before d.space d.name)) d.z) (distinct (before ++ (d ∷ [])) ds) (λ b. distinct b es) _ (distinct_append (before ++ (d ∷ [])) ds es) refl

-- what is accepted was not refused
if_refused : {A : Type 0} (t : Bool) (n : Refusal) (z : ℕ) (m : Result A) (a : A) → (when t then refused n z else m) ≡ ok a → m ≡ ok a
unfolding when◌then◌else◌
if_refused true n z m a e = no_result n z a e
if_refused false n z m a e = e

-- what it accepts are the declarations
pub distinct_ok : (before ds r : List Declaration) → distinct before ds ≡ ok r → r ≡ before ++ ds
unfolding distinct
distinct_ok before [] r e = sym (ok_same before r e) ∙ sym (append-nil before)
distinct_ok before (d ∷ ds) r e = distinct_ok (before ++ (d ∷ [])) ds r (if_refused _ _ _ _ r e) ∙ snoc_append before d ds

-- ---- the outcome

pub record Repeated (room : ℕ) (n : Refusal) (z : ℕ) (o : Out (CodeResult ℕ Refused) (List Slot)) : Type 0 where
  pub table : List Slot
  pub answer : o ≡ (Err (record { refusal = said_of n z; told = told_of n }) & table)
  pub size : length table ≡ room

pub record AllEntered (room : ℕ) (ds : List Declaration) (o : Out (CodeResult ℕ Refused) (List Slot)) : Type 0 where
  pub table : List Slot
  pub answer : o ≡ (Ok (length ds) & table)
  pub size : length table ≡ room
  pub holds : EnteredAs (between 0 (length ds) table) ds

-- what step A comes to, where the rules say this
abbrev pub EnterIs : (room : ℕ) → Result (List Declaration) → Out (CodeResult ℕ Refused) (List Slot) → Type 0
EnterIs room (refused n z) o = Repeated room n z o
EnterIs room (ok ds) o = AllEntered room ds o

module _ (room : ℕ) where
  -- one DECL, t whether it has no name, f what the rules find by its name
  enter_turn : (t : Bool) (f : Option ℕ) (space first z : ℕ) (m : Result (List Declaration)) (o : Out (CodeResult ℕ Refused) (List Slot)) (entered : List Slot) → length entered ≡ room → EnterIs room m o → EnterIs room (when not t && is_just f then refused (twice space first) z else m) (found_then (pick t None (first_in f first)) (λ place. Err (record { refusal = refusal_at 6 z; told = tells space place }) & entered) o)
  unfolding when◌then◌else◌ pick number_of carried_by
  enter_turn true f space first z m o entered s e = e
  enter_turn false none space first z m o entered s e = e
  enter_turn false (some n) space first z m o entered s e = record { table = entered; answer = refl; size = s }

  -- a field, and then the others
  enter_then_lem : (m : Result (List Declaration)) (f : List Declaration → Result (List Declaration)) (o : Out (CodeResult ℕ Refused) (List Slot)) (g : ℕ → List Slot → Out (CodeResult ℕ Refused) (List Slot)) → EnterIs room m o → ((ds : List Declaration) (t : List Slot) → m ≡ ok ds → length t ≡ room → EnteredAs (between 0 (length ds) t) ds → EnterIs room (f ds) (g (length ds) t)) → EnterIs room (m >>= f) (enter_then o g)
  unfolding ◌>>=◌ enter_then
  enter_then_lem (refused n z) f o g e h = record { table = e.table; answer = rw e.answer; size = e.size }
  enter_then_lem (ok ds) f o g e h = rw e.answer (h ds e.table refl e.size e.holds)

  -- ---- one field

  -- where no DECL stands a field is done
  field_end_lem : (field : List ℕ) (row i left : ℕ) (rest : List Row) (entered : List Slot) (used : ℕ) → left ≡ length rest → NoDecl rest → At field i rest → enter_field_t field row i left entered used ≡ (Ok used & entered)
  unfolding enter_field_t At
  field_end_lem field row i zero rest entered used l n a = refl
  field_end_lem field row i (suc left) [] entered used l n a = absurd (omega arith)
  field_end_lem field row i (suc left) (r ∷ rest) entered used l n a = rw a.0.reads (not_decl_lem r _ _ n)

  -- the DECLs of one field
  enter_field : (field : List ℕ) (row i left : ℕ) (ds : List Declaration) (rest : List Row) (before : List Declaration) (entered : List Slot) → left ≡ length (decl_rows ds ++ rest) → NoDecl rest → At field i (decl_rows ds ++ rest) → length entered ≡ room → length before + length ds ≤ room → EnteredAs (between 0 (length before) entered) before → EnterIs room (distinct before ds) (enter_field_t field row i left entered (length before))
  unfolding decl_rows distinct enter_field_t At if_decl taken push_then EnteredAs first_t
  enter_field field row i left [] rest before entered l n a s b e =
      record { table = entered; answer = field_end_lem field row i left rest entered (length before) l n a; size = s; holds = e }
  enter_field field row i zero (d ∷ ds) rest before entered l n a s b e = absurd (omega arith)
  enter_field field row i (suc left) (d ∷ ds) rest before entered l n a s b e =
      let slot : Slot = placed_slot d.space d.name d.z (row_number row i) in
      let len : length before + 1 ≡ length (before ++ (d ∷ [])) = omega (arith, length_snoc before d) in
      rw (a.0.reads, entered_first (between 0 (length before) entered) before d.space d.name e)
      (enter_turn (eqb d.name 0) (find before d.space d.name) _ _ d.z _ _ entered s
      (rw (pushed_room entered (length before) slot (omega arith), len)
      (enter_field field row (i + 1) left ds rest (before ++ (d ∷ [])) (set entered (length before) slot) (omega arith) n a.1 (length-set entered (length before) slot ∙ s) (omega (arith, length_snoc before d))
      (rw (← len) (rw (between_push entered (length before) slot 0 (omega arith) (omega arith)) (entered_append (between 0 (length before) entered) (slot ∷ []) before (d ∷ []) e (refl, refl, refl, tt)))))))

  -- ---- all fields

  module _ (rows ends : List ℕ) (short : length rows / 16 ≤ most) where
    -- at the CLOSE step A is done
    enter_end : (p used : ℕ) (entered : List Slot) (turns : ℕ) → Is rows p Close → enter_fields_t rows ends entered p used turns ≡ (Ok used & entered)
    unfolding enter_fields_t
    enter_end p used entered zero i = refl
    enter_end p used entered (suc turns) i = sym (no! _ (rw (code_is rows p Close i) refl) refl)

    -- one turn of the loop over fields, with the places worked out
    enter_more : (i : Item) (p used : ℕ) (entered : List Slot) (turns : ℕ) → At rows p (item_rows i) → get_or ends p 0 ≡ p + length (item_rows i) → enter_fields_t rows ends entered p used (suc turns) ≡ enter_then (enter_field_t (field_rows rows ends p) p 1 (length (item_rows i) - 1) entered used) (λ n t. enter_fields_t rows ends t (p + length (item_rows i)) n turns)
    unfolding enter_fields_t
    enter_more i p used entered turns a en =
        let b : At rows p (field_row (head_of i) ∷ (decl_rows (head_of i).decls ++ rest_rows i)) = rw (item_rows_lem i) at a in
        let h = at_head rows p _ _ b in
        let f = at_fits rows p (item_rows i) (omega (arith, h.there)) a in
        let c : eqb (code_at rows p) 1 ≡ true = rw (code_is rows p _ h) refl in
        sym (yes! _ c (rw (part_size rows ends p (item_rows i) (some_rows i) en a, row_number_lem p (length (item_rows i)) (omega arith))))

    -- step A over fields: what the rules' `distinct` says, behind the declarations `before`
    pub enter_fields : (fs : Fields) (p : ℕ) (before : List Declaration) (entered : List Slot) (turns : ℕ) → At rows p (fields_rows fs ++ (Close ∷ [])) → Ends fs ends p → length (fields_rows fs) ≤ turns → length entered ≡ room → length before + length (declarations fs) ≤ room → EnteredAs (between 0 (length before) entered) before → EnterIs room (distinct before (declarations fs)) (enter_fields_t rows ends entered p (length before) turns)
    unfolding declarations flatten Ends distinct
    enter_fields end p before entered turns a en t s b e =
        record { table = entered; answer = enter_end p (length before) entered turns (at_head rows p Close [] a); size = s; holds = e }
    enter_fields (i ▸ fs) p before entered zero a en t s b e = let l = fields_size i fs in let g = some_rows i in absurd (omega arith)
    enter_fields (i ▸ fs) p before entered (suc turns) a en t s b e =
        let ds = (head_of i).decls in
        let l = length-append (item_rows i) (fields_rows fs) in
        let m = length-append ds (declarations fs) in
        let g = some_rows i in
        let a' : At rows p (item_rows i ++ (fields_rows fs ++ (Close ∷ []))) = rw append_assoc at a in
        let x = at_left rows p (item_rows i) _ a' in
        let y = at_right rows p (item_rows i) _ a' in
        let q : At (field_rows rows ends p) 0 (field_row (head_of i) ∷ (decl_rows ds ++ rest_rows i)) = rw (item_rows_lem i) at (part_at rows ends p (item_rows i) g en.0 x) in
        let len : length (item_rows i) - 1 ≡ length (decl_rows ds ++ rest_rows i) = rw (item_rows_lem i) (omega arith) in
        rw (distinct_append before ds (declarations fs), enter_more i p (length before) entered turns x en.0)
        (enter_then_lem _ _ _ _ (enter_field (field_rows rows ends p) p 1 _ ds (rest_rows i) before entered len (no_decl_rest i) (at_tail _ 0 _ _ q) s (omega arith) e)
        (λ ds' t' ok' s' e'.
        let k = ap length (distinct_ok before ds ds' ok') in
        let r = length-append before ds in
        enter_fields fs (p + length (item_rows i)) ds' t' turns y en.2 (omega arith) s' (omega arith) e'))

-- a scope has no more declarations than rows of its own
declared_rows : (fs : Fields) → length (declarations fs) ≤ own fs
unfolding declarations own
declared_rows end = omega arith
declared_rows (i ▸ fs) =
    let l = length-append (head_of i).decls (declarations fs) in
    let h = head_length (head_of i) in
    let d = decl_rows_length (head_of i).decls in
    let r = declared_rows fs in
    omega arith

-- STEP A: what `enter_fields_t` comes to on the rows of a scope's fields
pub enter_agrees : (room : ℕ) (rows ends : List ℕ) (fs : Fields) (p : ℕ) (entered : List Slot) (turns : ℕ) → length rows / 16 ≤ most → length rows / 16 ≤ room → At rows p (fields_rows fs ++ (Close ∷ [])) → Ends fs ends p → length (fields_rows fs) ≤ turns → length entered ≡ room → EnterIs room (distinct [] (declarations fs)) (enter_fields_t rows ends entered p 0 turns)
unfolding EnteredAs between
enter_agrees room rows ends fs p entered turns short fits a en t s =
    let b = at_head rows _ Close [] (at_right rows p (fields_rows fs) (Close ∷ []) a) in
    let l = rows_split fs in
    let d = declared_rows fs in
    enter_fields room rows ends short fs p [] entered turns a en t s (omega (arith, b.there)) tt

-- a name is entered where the rules find it
pub entered_known : (ds : List Declaration) (table : List Slot) → EnteredAs (between 0 (length ds) table) ds → (space name : ℕ) → is_some (find_in (between 0 (length ds) table) space name) ≡ is_just (find ds space name)
entered_known ds table e space name = rw (entered_first _ ds space name e) (first_known (find ds space name) _)
