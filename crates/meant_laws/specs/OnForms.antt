-- The same of bytes: for every prelude and every member that are read as forms, of either version and rule set, and whether or not they would be
-- accepted.
use Rattle.std.specs.Prelude.{◌≡◌, refl, Bool, true, false, List, [], ◌∷◌, ℕ, ◌+◌, ◌*◌, ◌-◌, ◌≤◌, leb, length, get_or, take, drop, Option as CodeOption, Some, None}
use Rattle.std.proofs.Common.{ap, sym, ◌∙◌, subst, arith, le-leb, length-drop, get_or-take, length-take-le}
use Rattle.std.proofs.Math.Option.{Option, none, some, map}
use Rattle.std.proofs.lemmas.List.{length-map}
use Rattle.kit.proofs.Laws.{yes!, no!, tests}
use Rattle.rules.specs.Tools.{only, ◌or_else◌}
use Rattle.rules.specs.Versions.{RuleSet, Setting, version1, version2, today, newer, all}
use Rattle.rules.specs.Rows.{bytes}
use Rattle.rules.specs.Tree.{Declaration, Scope, flatten}
use Rattle.rules.specs.Readings.{Place, walked_at}
use Rattle.rules.specs.Answer
use Rattle.rules.specs.Answer.{accepted, mark, setting_of, row_count}
use Rattle.rules.specs.Laws.ToolLaws.{All, done, ◌&◌, ok_at, and_right, leb_le, eqb-true}
use Rattle.rules.specs.Laws.Results.{some_same, no_option}
use Rattle.rules.proofs.Laws.Read.BeginsWritten.{rows_length}
use Rattle.rules.specs.Laws.Meaning.Names.{LowScope}
use Rattle.rules.proofs.Laws.InputLaws.{Usual, all_usual, setting_usual, low_read}
use Rattle.headers.specs.Laws.Settings.{headed}
use Rattle.read_form.specs.ReadForm.{read_form}
use Rattle.read_form.proofs.Laws.ReadFormLaws.{ReadAs, read_exactly, read_read}
use Rattle.places.specs.PlaceRows.{row_of_decl, row_of_operand, decl_at}
use Rattle.places.proofs.RowAt.{decl_row_of, decl_row_lem}
use Rattle.places.proofs.RowsApart.{elem_lt}
use Rattle.batching.specs.BatchReadings.{Meant, in_member, in_prelude, meant_by, member_outward, member_means}
use Rattle.batching.proofs.Laws.Carried.{Carried, counts}
use Rattle.readings.specs.Meaning.{reading_of, is_outward}
use Rattle.reading_laws.specs.Stand.{Is, At, at_elem}
use Rattle.reading_laws.specs.Meant.{Rows}
use Rattle.reading_laws.specs.OnBytes.{Within, all_within, setting_within, body, rows_fit, body_stands}
use Rattle.reading_laws.specs.Walked.{walked_row}
use Rattle.meant.specs.Part.{part_of, meant_t, row_part, chosen}
use Rattle.meant.specs.declared.Declared.TheVariants.{Member, Prelude}
use Rattle.meant_laws.specs.Told.{Told, nothing, in_member_lem, in_prelude_lem}
use Rattle.meant_laws.specs.NameRow.{name_told, walked_told}
use Rattle.meant.specs.declared.Declared.{Declared}

-- ---- a form by its bytes

-- bytes that are read as the tree `t`, by the setting that their header asks for
pub record Reads (form : List ℕ) (t : Scope) : Type 0 where
  pub setting : Setting
  pub asks : setting_of all form ≡ some setting
  pub reads : read_form setting form ≡ accepted t

-- where the rows of a form stand, by the version in byte 3
abbrev Parted : Setting → Type 0
Parted v = (form : List ℕ) → take 6 form ≡ mark v → 8 ≤ length form → part_of form ≡ body v form

third : (form : List ℕ) (v : Setting) → take 6 form ≡ mark v → get_or form 3 0 ≡ get_or (mark v) 3 0
third form v e = sym (get_or-take 6 form 3 0 (omega arith)) ∙ ap (λ (l : List ℕ). get_or l 3 0) e

first_parted : (rules : RuleSet) → Parted (record { version = version1; rules = rules })
unfolding part_of mark bytes
first_parted rules form e h = let n : get_or form 3 0 ≡ 1 = third form (record { version = version1; rules = rules }) e in sym (no! _ (omega tests) (no! _ (omega tests) refl))

second_parted : (rules : RuleSet) → Parted (record { version = version2; rules = rules })
unfolding part_of mark bytes
second_parted rules form e h = let n : get_or form 3 0 ≡ 2 = third form (record { version = version2; rules = rules }) e in sym (no! _ (omega tests) (yes! _ (omega tests) refl))

all_parted : All Parted all
all_parted = first_parted today & (second_parted today & (second_parted newer & done))

setting_of_lem : {Q : Setting → Type 0} (settings : List Setting) (form : List ℕ) (v : Setting) → All Q settings → setting_of settings form ≡ some v → Q v
unfolding setting_of only ◌or_else◌
setting_of_lem [] form v q e = no_option v e
setting_of_lem {Q} (s ∷ ss) form v (q & qs) e = go (Answer.has_header s form) e (λ r. setting_of_lem ss form v qs r)
  where
    go : (b : Bool) → (only b s or_else setting_of ss form) ≡ some v → (setting_of ss form ≡ some v → Q v) → Q v
    go true e below = subst Q (some_same s v e) q
    go false e below = below e

module _ (form : List ℕ) (t : Scope) (F : Reads form t) where
  abbrev v : Setting
  v = F.setting

  is_read : ReadAs v form t
  is_read = (read_exactly v form t).0 F.reads

  usual : Usual v
  usual = ok_at Usual (setting_of all form) v (setting_usual all form all_usual) F.asks

  within : Within v
  within = ok_at Within (setting_of all form) v (setting_within all form all_within) F.asks

  part_is : part_of form ≡ body v form
  part_is =
      let H = headed v form is_read.headed in
      let long = H.long in
      let header = within.header in
      setting_of_lem all form v all_parted F.asks form H.marked (omega (arith, long, header))

  count_is : length (flatten t) ≡ row_count v.version form
  count_is = sym (length-map (flatten t) some) ∙ (ap length is_read.is_form.of_tree ∙ rows_length v.version.names (row_count v.version form) (drop v.version.header form))

  few : row_count v.version form ≤ v.version.rows
  few = let n = row_count v.version form in leb_le n v.version.rows (and_right (leb 1 n) (leb n v.version.rows) is_read.counted)

  -- its tree's rows stand in it, and nothing behind them
  pub just_these : length (part_of form) ≡ 8 + 16 * length (flatten t)
  just_these =
      let long : length form ≡ v.version.header + 16 * row_count v.version form = eqb-true _ _ is_read.long in
      let l = length-drop (v.version.header - 8) form in
      let h = within.header in
      omega (arith, long, l, h, count_is, ap length part_is)

  pub rows_are : Rows (part_of form) t
  rows_are =
      let most = within.rows in
      record {
        stand = subst (λ (l : List ℕ). At l 0 (flatten t)) (sym part_is) (body_stands v form v.version.names (row_count v.version form) (flatten t) within.header (sym is_read.is_form.of_tree));
        fit = rows_fit (part_of form) (length (flatten t)) (omega (arith, just_these)) (omega (arith, count_is, few, most));
      }

  pub low_names : LowScope t
  low_names = low_read [] v form t usual.low (read_read v form t F.reads)

-- ---- the theorems

module _ (prelude member : List ℕ) (s m : Scope) (P : Reads prelude s) (M : Reads member m) where
  -- The name in the row of every operand of the member means what the rules say, at the row of that declaration.
  pub name_row : (p : Place) (r : ℕ) → row_of_operand m p ≡ some r → Told s m (member_means s m p) (meant_t prelude member r)
  unfolding meant_t
  name_row p r at = name_told (part_of prelude) (part_of member) s m (rows_are prelude s P) (rows_are member m M) (low_names prelude s P) (low_names member m M) p r at

  -- Whatever row of the member is read outward is that of a walked name, and means what the outward reading gives.
  pub walked_rows : (r : ℕ) → is_outward (reading_of (part_of member) r) ≡ true
      → (p : Place) × (row_of_operand m p ≡ some r) × (w : ℕ × ℕ) × (walked_at m p ≡ some w) × Told s m (member_outward s m p) (meant_t prelude member r)
  unfolding meant_t
  walked_rows r e =
      let W = walked_row (part_of member) m (low_names member m M) (rows_are member m M) (just_these member m M) r e in (
        W.0,
        W.1,
        W.2,
        W.3,
        walked_told (part_of prelude) (part_of member) s m (rows_are prelude s P) (rows_are member m M) (low_names prelude s P) (low_names member m M) W.0 r W.1 W.2 W.3,
      )

  -- Where the member is accepted inside the prelude: the row of the declaration to which the number at that place counts in their outputs.
  pub carried_row : (s' m' : Scope) (p : Place) (r : ℕ) → row_of_operand m p ≡ some r → (C : Carried s s' m m' p) → Told s m (map meant_by (counts C.u.levels C.u.operand)) (meant_t prelude member r)
  carried_row s' m' p r at C = subst (λ (o : Option Meant). Told s m o (meant_t prelude member r)) (C.means ∙ sym C.carried) (name_row p r at)

-- ---- the row itself

-- sixteen bytes of a form, which are the row of that declaration
pub record RowOf (form part : List ℕ) (row : ℕ) (d : Declaration) : Type 0 where
  pub bytes : part ≡ take 16 (drop (8 + 16 * row) (part_of form))
  pub sixteen : length part ≡ 16
  pub is : Is (part_of form) row (decl_row_of d)

-- the declaration that the rules give, and the part of the member or of the prelude that is its row
pub data Shown (prelude member : List ℕ) (s m : Scope) : Option Meant → List ℕ → Type 0 where
  no_part : Shown prelude member s m none []
  of_member : {d : Place} {part : List ℕ} (x : Declaration) (row : ℕ) → decl_at m d ≡ some x → RowOf member part row x → Shown prelude member s m (some (in_member d)) part
  of_prelude_lem : {d : Place} {part : List ℕ} (x : Declaration) (row : ℕ) → decl_at s d ≡ some x → RowOf prelude part row x → Shown prelude member s m (some (in_prelude d)) part

row_of : (form : List ℕ) (t : Scope) → Reads form t → (d : Place) (row : ℕ) → row_of_decl t d ≡ some row → (x : Declaration) × (decl_at t d ≡ some x) × RowOf form (row_part form row) row x
unfolding row_part
row_of form t F d row e =
    let D = decl_row_lem t d row e in
    let below = elem_lt (flatten t) row (decl_row_of D.0) D.2 in
    let long = just_these form t F in
    let room : 8 + 16 * row + 16 ≤ length (part_of form) = omega (arith, below, long) in
    let zeroth : 0 + row ≡ row = omega arith in
    let part : row_part form row ≡ take 16 (drop (8 + 16 * row) (part_of form)) = sym (yes! _ (le-leb _ _ room) refl) in
    let rest = length-drop (8 + 16 * row) (part_of form) in (
      D.0,
      D.1,
      record {
        bytes = part;
        sixteen = ap length part ∙ length-take-le 16 (drop (8 + 16 * row) (part_of form)) (omega (arith, rest, room));
        is = subst (λ (k : ℕ). Is (part_of form) k (decl_row_of D.0)) zeroth (at_elem (part_of form) 0 (flatten t) row (decl_row_of D.0) (rows_are form t F).stand D.2);
      },
    )

module _ (prelude member : List ℕ) (s m : Scope) (P : Reads prelude s) (M : Reads member m) where
  shown : (o : Option Meant) (d : CodeOption Declared) → Told s m o d → Shown prelude member s m o (chosen d prelude member)
  unfolding chosen
  shown none None nothing = no_part
  shown (some (in_member d)) (Some (Member row)) (in_member_lem e) = let R = row_of member m M d row e in of_member R.0 row R.1 R.2
  shown (some (in_prelude d)) (Some (Prelude row)) (in_prelude_lem e) = let R = row_of prelude s P d row e in of_prelude_lem R.0 row R.1 R.2
  shown none (Some (Member row)) x'' = elim x'' [ ]
  shown none (Some (Prelude row)) x3 = elim x3 [ ]
  shown (some (in_prelude d)) (Some (Member row)) x5 = elim x5 [ ]
  shown (some (in_prelude d)) None x6 = elim x6 [ ]
  shown (some (in_member d)) (Some (Prelude row)) x6 = elim x6 [ ]
  shown (some (in_member d)) None x7 = elim x7 [ ]

  -- What is handed back for the row of an operand is the DECL row that the rules name, sixteen bytes out of the member or out of the prelude.
  pub row_itself : (p : Place) (r : ℕ) → row_of_operand m p ≡ some r → Shown prelude member s m (member_means s m p) (chosen (meant_t prelude member r) prelude member)
  row_itself p r at = shown _ _ (name_row prelude member s m P M p r at)
