-- An inserted field of an accepted run's output is seen as what it is.
use Rattle.std.specs.Prelude.{◌≡◌, Bool, true, List, [], ◌∷◌, ◌++◌, reverse, eqb, leb, get_or}
use Rattle.std.proofs.Math.Path.{refl, subst}
use Rattle.std.proofs.Common.{sym, ap, ◌∙◌}
use Rattle.std.proofs.Math.Bool.{false}
use Rattle.std.proofs.Math.Option.{Option, none, some, map}
use Prim.Native.Nat.{ℕ, suc, ◌+◌, ◌-◌, ◌<◌}
use native.Mathlib.Omega.{arith}
use Rattle.std.proofs.Math.Dec.{ltb}
use Rattle.std.proofs.Math.ListN.{length}
use borrow.Author.Tests.{ne_eqb, le-ltb, eqb-true}
use Rattle.kit.specs.Pick.{pick}
use Rattle.rules.specs.Tools.{when◌then◌else◌}
use Rattle.rules.specs.Rows.{Num, Row, Field, Decl, Ref, Outer, Export, encode, flag, number}
use Rattle.rules.specs.Tree.{Declaration, Head, decl_rows, path_rows, operand_row, operand_rows, export_rows, head_rows}
use Rattle.rules.specs.Rules.{find, fresh, outer_alias, export_alias}
use Rattle.rules.specs.Laws.Meaning.Names.{LowDecls}
use Rattle.rules.specs.Laws.ToolLaws.{eqb_same}
use Rattle.unresolving.specs.Back.{is_number, names_in}
use Rattle.unresolving.proofs.Laws.Aliases.{code_of, from_of, path_alias}
use Rattle.claim_laws.specs.RowParts.{as_parts}
use Rattle.names.specs.Table.{Slot}
use Rattle.back_notes.specs.Note.{Note, note, no_note, Noted}
use Rattle.back_notes.specs.Names.{named_t, name_of_t}
use Rattle.back_rows.specs.Alias.{alias_before_t, alias_of_t}
use Rattle.back_laws.specs.Stand.{with, with_notes}
use Rattle.back_laws.specs.Notes.{row_out, decl_notes, blank_notes, operand_notes, operands_notes, head_notes}
use Rattle.back_laws.specs.Listed.{head_n}
use Rattle.back_laws.specs.Found.{Open, Sound, outer_named}
use Rattle.back_laws.specs.Restored.{Kind, exports, leads, Shown, seen}
use Rattle.back_tree.specs.Made as made
use Rattle.back_tree.specs.Made.{Shape}
use Rattle.back_tree.specs.Named.{renamed}

-- ---- its name is found

-- names before that of insertion number b
abbrev pub Before : (b : ℕ) → List Declaration → Type 0
Before b [] = Unit {0}
Before b (d ∷ ds) = (d.name < 2147483648 + b) × Before b ds

pub low_before : (b : ℕ) (ds : List Declaration) → LowDecls ds → Before b ds
low_before b [] l = tt
low_before b (d ∷ ds) l = (let h = l.0 in omega arith, low_before b ds l.1)

pub before_append : (b : ℕ) (xs ys : List Declaration) → Before b xs → Before b ys → Before b (xs ++ ys)
before_append b [] ys p q = q
before_append b (x ∷ xs) ys p q = (p.0, before_append b xs ys p.1 q)

pub before_next : (b : ℕ) (ds : List Declaration) → Before b ds → Before (suc b) ds
before_next b [] p = tt
before_next b (d ∷ ds) p = (let h = p.0 in omega arith, before_next b ds p.1)

found_past : (b : ℕ) (past later : List Declaration) (d : Declaration) → Before b past → d.name ≡ 2147483648 + b → find (past ++ (d ∷ later)) d.space d.name ≡ some (length (names_in past d.space))
unfolding find names_in when◌then◌else◌
found_past b [] later d p e = rw (eqb_same d.space, eqb_same d.name)
found_past b (x ∷ past) later d p e = go (eqb x.space d.space) (found_past b past later d p.1 e)
  where
    other : eqb x.name d.name ≡ false
    other = let h = p.0 in ne_eqb x.name d.name (λ q. omega arith)

    go : (t : Bool) → find (past ++ (d ∷ later)) d.space d.name ≡ some (length (names_in past d.space))
        → (when t then when eqb x.name d.name then some 0 else map suc (find (past ++ (d ∷ later)) d.space d.name) else find (past ++ (d ∷ later)) d.space d.name)
        ≡ some (length (when t then x.name ∷ names_in past d.space else names_in past d.space))
    go true f = rw (other, f)
    go false f = f

is_counted : (o : Option ℕ) (n : ℕ) → o ≡ some n → (m : ℕ) → is_number o m ≡ eqb n m
unfolding is_number
is_counted o n e m = rw e

-- ---- its rows

nine_ten : (space : ℕ) → code_of space ≡ 9 → from_of space ≡ 10
unfolding code_of from_of when◌then◌else◌
nine_ten space e = go (leb space 6) e
  where
    go : (t : Bool) → ◌≡◌ {A = ℕ} (when t then 10 else 9) 9 → ◌≡◌ {A = ℕ} (when t then 6 else 10) 10
    go true e = absurd (omega arith)
    go false e = refl

not_low : (b : ℕ) → ltb (2147483648 + b) 2147483648 ≡ false
not_low b = le-ltb (2147483648 + b) 2147483648 (omega arith)

module _ (all : List Slot) (S : Sound all) (here : List Declaration) (outside : List (List Declaration)) (b k : ℕ) (ks : List ℕ) (past later : List Declaration) (O : Open all (k ∷ ks) (here ∷ outside)) (p : Before b past) where
  -- an outer alias: three rows
  module _ (space d n z : ℕ) (small : space < 13) where
    abbrev h : Head
    h = outer_alias space (fresh b) d n z

    abbrev D : Declaration
    D = record { space = space; name = fresh b; z = z }

    abbrev o : Row
    o = Outer space (Num d) (Num n) z

    abbrev value : ℕ
    value = name_of_t all (as_parts o) (note 0 (row_out (k ∷ ks) d))

    rows : reverse (renamed all (head_n k ks past h)) ≡ with o (note value (row_out (k ∷ ks) d)) ∷ (with (Decl space (fresh b) z) (note (length (names_in past space)) k) ∷ (with (Field 11 0 z) no_note ∷ []))
    unfolding renamed head_n head_rows head_notes with_notes outer_alias decl_rows decl_notes operand_rows operand_row operands_notes operand_notes export_rows blank_notes named_t as_parts encode number flag pick
    rows = refl

    sees : (l : List Noted) → 0 < length l → alias_before_t ((with o (note value (row_out (k ∷ ks) d)) ∷ (with (Decl space (fresh b) z) (note (length (names_in past space)) k) ∷ (with (Field 11 0 z) no_note ∷ []))) ++ l)
        ≡ seen here outside 3 (length l) h D (length (names_in past space)) (as_parts o) value
    unfolding alias_before_t alias_of_t as_parts encode number flag outer_alias fresh pick
    sees l f =
        let long : ltb (suc (suc (suc (length l)))) 4 ≡ false = le-ltb (suc (suc (suc (length l)))) 4 (omega arith) in
        let left : suc (suc (suc (length l))) - 3 ≡ length l = omega arith in
        rw (long, not_low b, left)

    pub shown_outer : here ≡ past ++ (D ∷ later) → Shown here outside h (reverse (renamed all (head_n k ks past h)))
    shown_outer e =
        rw rows
        (record {
          decl = D;
          alone_is = unfold outer_alias in refl;
          number = length (names_in past space);
          numbered = is_counted (find here space (fresh b)) (length (names_in past space)) (rw e (found_past b past later D p (unfold fresh in refl)));
          operand = as_parts o;
          value = value;
          kind = leads space d n z (unfold outer_alias in refl) refl (unfold as_parts encode number in outer_named all (k ∷ ks) (here ∷ outside) (as_parts o) S O small) (unfold outer_alias in refl);
          size = 2;
          long = refl;
          sees = sees;
        })

  -- an alias of an export: four rows
  module _ (space n x z : ℕ) where
    abbrev g : Head
    g = path_alias space (fresh b) (Num n) x z

    abbrev E : Declaration
    E = record { space = space; name = fresh b; z = z }

    abbrev r : Row
    r = Ref (from_of space) (Num n) 0 z

    abbrev exported : List Noted
    exported = with (Export x) no_note ∷ (with r no_note ∷ (with (Decl space (fresh b) z) (note (length (names_in past space)) k) ∷ (with (Field (code_of space) 0 z) no_note ∷ [])))

    rows_four : reverse (renamed all (head_n k ks past g)) ≡ exported
    unfolding renamed head_n head_rows head_notes with_notes path_alias export_alias decl_rows decl_notes operand_rows operand_row path_rows operands_notes operand_notes export_rows blank_notes named_t as_parts encode number flag pick
    rows_four = refl

    sees_four : (l : List Noted) → 0 < length l → alias_before_t (exported ++ l) ≡ seen here outside 4 (length l) g E (length (names_in past space)) (as_parts r) x
    unfolding alias_before_t alias_of_t as_parts encode number flag path_alias export_alias fresh pick
    sees_four l f =
        let long : ltb (suc (suc (suc (suc (length l))))) 4 ≡ false = le-ltb (suc (suc (suc (suc (length l))))) 4 (omega arith) in
        let left : suc (suc (suc (suc (length l)))) - 4 ≡ length l = omega arith in
        rw (long, not_low b, left)

    pub shown_export : here ≡ past ++ (E ∷ later) → Shown here outside g (reverse (renamed all (head_n k ks past g)))
    shown_export e =
        rw rows_four
        (record {
          decl = E;
          alone_is = unfold path_alias export_alias in refl;
          number = length (names_in past space);
          numbered = is_counted (find here space (fresh b)) (length (names_in past space)) (rw e (found_past b past later E p (unfold fresh in refl)));
          operand = as_parts r;
          value = x;
          kind = exports (from_of space) n z (unfold path_alias export_alias in refl) (unfold path_alias export_alias in refl) refl (unfold path_alias export_alias in nine_ten space);
          size = 3;
          long = refl;
          sees = sees_four;
        })

  pub shown : (h : Head) → Shape b h → here ≡ past ++ (h.decls ++ later) → Shown here outside h (reverse (renamed all (head_n k ks past h)))
  unfolding outer_alias path_alias export_alias
  shown h (made.leads space d n z small i) e =
      subst (λ (x : Head). Shown here outside x (reverse (renamed all (head_n k ks past x)))) (sym i) (shown_outer space d n z small (rw i at e))
  shown h (made.exports space n x z i) e =
      subst (λ (y : Head). Shown here outside y (reverse (renamed all (head_n k ks past y)))) (sym i) (shown_export space n x z (rw i at e))
