-- The sentence on bytes: in an accepted input and its output every walked name means the same declaration, and the readings on the rows of
-- both say which row that is.
use Rattle.std.specs.Prelude.{◌≡◌, refl, Bool, true, false, List, [], ◌∷◌, ℕ, ◌+◌, ◌*◌, length}
use Rattle.std.proofs.Math.Path.{ap}
use Rattle.std.proofs.Common.{sym, ◌∙◌, subst}
use Rattle.std.proofs.Math.Option.{Option, none, some, map}
use Rattle.std.proofs.Math.ListN.{get_elem?}
use Rattle.rules.specs.Tools.{◌then◌, only, ◌or_else◌}
use Rattle.rules.specs.Versions.{Setting, base, version1, today}
use Rattle.rules.specs.Rows.{Row}
use Rattle.rules.specs.Tree.{Operand, Scope, Item, head_of, flatten}
use Rattle.rules.specs.Good.{GoodScope}
use Rattle.rules.specs.Answer
use Rattle.rules.specs.Answer.{accepted, answer, output, form_bytes, setting_of}
use Rattle.rules.specs.Readings
use Rattle.rules.specs.Readings.{originals, Place, Level, Use, use_in, use_inside, use_at, walked_at}
use Rattle.rules.specs.Laws.ToolLaws.{then_some}
use Rattle.rules.specs.Laws.RowLaws.{Bytes}
use Rattle.rules.specs.Laws.Results.{some_same, no_option}
use Rattle.rules.proofs.Laws.InputLaws.{base_usual, Accepted}
use Rattle.places.specs.PlaceRows.{Placed, originals_from, Floor, floors_at, field_in, field_at, row_of_decl, row_of_operand, operand_row_at}
use Rattle.places.specs.Counting.{levels, originals_from_lem, elem_map, floors_at_lem}
use Rattle.readings.specs.Meaning.{reading_of, is_outward, meaning_of, final_meaning}
use Rattle.reading_laws.specs.Outward.{row_meant}
use Rattle.reading_laws.specs.Declared.{Declared}
use Rattle.reading_laws.specs.OnBytes
use Rattle.reading_laws.specs.OnBytes.{base_within, body}
use Rattle.reading_laws.specs.Meant.{Rows, around, around_are, outward_found}
use Rattle.reading_laws.specs.Counted.{counting_row}
use Rattle.reading_laws.specs.Walked.{walked_row}

-- ---- the operand at a place has a row

map_some : {A B : Type 0} (g : A → B) (o : Option A) (b : B) → map g o ≡ some b → (a : A) × (o ≡ some a) × (g a ≡ b)
map_some g none b e = no_option b e
map_some g (some a) b e = (a, refl, some_same (g a) b e)

row_of : (s : Scope) (p : Place) (f : Floor) (fs : List Floor) (x : Placed) (o : Operand) → floors_at s p.way ≡ some (f ∷ fs) → get_elem? (originals_from f.row f.level.fields) p.field ≡ some x
    → get_elem? (head_of x.item).operands p.at ≡ some o → row_of_operand s p ≡ some (operand_row_at x p.at)
unfolding row_of_operand field_at field_in ◌then◌
row_of s p f fs x o e₁ e₂ e₃ = rw (e₁, e₂, e₃)

pub operand_has_row : (s : Scope) (p : Place) (u : Use) → use_at s p ≡ some u → (r : ℕ) × (row_of_operand s p ≡ some r)
unfolding use_inside use_in Readings.root
operand_has_row s p u e =
    let s₁ = then_some (Readings.around p.way (Readings.root s) []) _ u e in
    let F = map_some levels (floors_at s p.way) s₁.0 (floors_at_lem s p.way ∙ s₁.1) in
    go F.0 F.1 (ap (λ (l : List Level). use_in l p.field p.at) F.2 ∙ s₁.2)
  where
    go : (fs : List Floor) → floors_at s p.way ≡ some fs → use_in (levels fs) p.field p.at ≡ some u → (r : ℕ) × (row_of_operand s p ≡ some r)
    go [] q e = no_option u e
    go (f ∷ fs) q e =
        let s₂ = then_some (get_elem? (originals f.level.fields) p.field) _ u e in
        let s₃ = then_some (get_elem? (head_of s₂.0).operands p.at) _ u s₂.2 in
        let items = ap (λ (l : List Item). get_elem? l p.field) (sym (originals_from_lem f.row f.level.fields)) in
        let X = map_some (λ (y : Placed). y.item) (get_elem? (originals_from f.row f.level.fields) p.field) s₂.0
        (sym (elem_map (λ (y : Placed). y.item) (originals_from f.row f.level.fields) p.field) ∙ (sym items ∙ s₂.1)) in
        (_, row_of s p f fs X.0 s₃.0 q X.1 (ap (λ (i : Item). get_elem? (head_of i).operands p.at) X.2 ∙ s₃.1))

-- ---- the one setting in force

abbrev the_setting : Setting
the_setting = record { version = version1; rules = today }

one_setting : (input : List ℕ) (v : Setting) → setting_of base input ≡ some v → v ≡ the_setting
unfolding setting_of only ◌or_else◌
one_setting input v e = go (Answer.has_header (the_setting) input) e
  where
    go : (b : Bool) → (only b (the_setting) or_else none) ≡ some v → v ≡ the_setting
    go true e = sym (some_same _ v e)
    go false e = no_option v e

-- its header has eight bytes
whole_body : (bs : List ℕ) (v : Setting) → v ≡ the_setting → body v bs ≡ bs
whole_body bs v e = ap (λ (u : Setting). body u bs) e

-- ---- the sentence

-- A walked name at a place: its row in the input and in the output, the declaration that is meant, and its row in both. The outward reading on
-- the input's bytes gives the one, the counting reading on the output's bytes gives the other.
pub record SameMeaning (input out : List ℕ) (before after : Scope) (p : Place) : Type 0 where
  pub reference : ℕ
  pub reference_out : ℕ
  pub declaration : Place
  pub row : ℕ
  pub row_out_lem : ℕ
  pub is_reference_lem : row_of_operand before p ≡ some reference
  pub is_reference_out : row_of_operand after p ≡ some reference_out
  pub is_declaration : row_of_decl before declaration ≡ some row
  pub is_declaration_out : row_of_decl after declaration ≡ some row_out_lem
  pub outward : row_meant (meaning_of input reference) ≡ some row
  pub counts : row_meant (final_meaning out reference_out) ≡ some row_out_lem
  -- with the scopes around the reference: how far out the declaration is, its number and its name
  pub scopes : List Floor
  pub scopes_out : List Floor
  pub are_scopes : floors_at before p.way ≡ some scopes
  pub are_scopes_out : floors_at after p.way ≡ some scopes_out
  pub declared : Declared before scopes declaration (meaning_of input reference)
  pub declared_out_lem : Declared after scopes_out declaration (final_meaning out reference_out)

module _ (input old : List ℕ) (bs : Bytes input) (out : List Row) (e : answer base input (length old) ≡ accepted out) where
  -- the input's tree and the output's
  abbrev pub trees : Accepted base input old out
  trees = OnBytes.trees base base_usual base_within input old bs out e

  the_one : trees.setting ≡ the_setting
  the_one = one_setting input trees.setting trees.asked_for

  pub rows_before : Rows input trees.before
  rows_before = subst (λ (l : List ℕ). Rows l trees.before) (whole_body input trees.setting the_one) (OnBytes.rows_before base base_usual base_within input old bs out e)

  pub rows_after_lem : Rows (output base input old) trees.after
  rows_after_lem =
      subst (λ (l : List ℕ). Rows l trees.after) (whole_body (output base input old) trees.setting the_one) (OnBytes.rows_after_lem base base_usual base_within input old bs out e)

  good_after : GoodScope trees.setting.rules trees.after
  good_after = OnBytes.good_after base base_usual base_within input old bs out e

  -- the input has its tree's rows and nothing behind them
  just_these : length input ≡ 8 + 16 * length (flatten trees.before)
  just_these = ap length (sym (whole_body input trees.setting the_one)) ∙ OnBytes.just_these base base_usual base_within input old bs out e

  -- the form's bytes alone
  pub rows_of_file : Rows (form_bytes trees.setting out) trees.after
  rows_of_file =
      subst (λ (l : List ℕ). Rows l trees.after) (whole_body (form_bytes trees.setting out) trees.setting the_one) (OnBytes.rows_of_file base base_usual base_within input old bs out e)

  -- in any bytes in which the output's rows stand
  module _ (written-bytes : List ℕ) (R : Rows written-bytes trees.after) where
    meaning_in : (p : Place) (w : ℕ × ℕ) → walked_at trees.before p ≡ some w → SameMeaning input written-bytes trees.before trees.after p
    unfolding Readings.walked_inside Readings.counting_inside ◌then◌ row_meant
    meaning_in p w walks =
        let A = trees.agree p w walks in
        let U = then_some (use_at trees.before p) _ w walks in
        let U' = then_some (use_at trees.after p) _ A.0 A.2 in
        let r = operand_has_row trees.before p U.0 U.1 in
        let r' = operand_has_row trees.after p U'.0 U'.1 in
        let O = outward_found input trees.before rows_before p r.0 r.1 trees.low w walks A.0 A.1 in
        let C = counting_row written-bytes trees.after trees.setting.rules good_after R p r'.0 r'.1 trees.numbered A.0 A.2 in
        record {
          reference = r.0;
          reference_out = r'.0;
          declaration = A.0;
          row = O.x.row;
          row_out_lem = C.x.row;
          is_reference_lem = r.1;
          is_reference_out = r'.1;
          is_declaration = O.is_row;
          is_declaration_out = C.is_row;
          outward = ap row_meant O.is;
          counts = ap row_meant C.is;
          scopes = around input trees.before rows_before p r.0 r.1;
          scopes_out = around written-bytes trees.after R p r'.0 r'.1;
          are_scopes = around_are input trees.before rows_before p r.0 r.1;
          are_scopes_out = around_are written-bytes trees.after R p r'.0 r'.1;
          declared = O;
          declared_out_lem = C;
        }

    -- by rows: whatever row of the input is read outward, it is a walked name's
    pub row_in : (r : ℕ) → is_outward (reading_of input r) ≡ true → (p : Place) × (same : SameMeaning input written-bytes trees.before trees.after p) × (same.reference ≡ r)
    row_in r walks =
        let P = walked_row input trees.before trees.low rows_before just_these r walks in
        let S = meaning_in P.0 P.2 P.3 in
        (P.0, S, some_same S.reference r (sym S.is_reference_lem ∙ P.1))

  -- For every accepted input and every walked name: the row that the counting reading gives on the output's bytes is the output's row of the
  -- declaration whose input row the outward reading gives on the input's bytes.
  pub same_meaning : (p : Place) (w : ℕ × ℕ) → walked_at trees.before p ≡ some w → SameMeaning input (output base input old) trees.before trees.after p
  same_meaning = meaning_in (output base input old) rows_after_lem

  -- The same by rows, in the output buffer and in the form's bytes alone, which are what a file gets.
  pub every_row : (r : ℕ) → is_outward (reading_of input r) ≡ true → (p : Place) × (same : SameMeaning input (output base input old) trees.before trees.after p) × (same.reference ≡ r)
  every_row = row_in (output base input old) rows_after_lem

  pub every_row_of_file : (r : ℕ) → is_outward (reading_of input r) ≡ true
      → (p : Place) × (same : SameMeaning input (form_bytes trees.setting out) trees.before trees.after p) × (same.reference ≡ r)
  every_row_of_file = row_in (form_bytes trees.setting out) rows_of_file
