-- The slots that are left of a scope: the next of them, whether it is a reference's own, and the number that it has.
use Rattle.std.proofs.Math.Path.{◌≡◌, sym}
use Rattle.std.specs.Prelude.{refl, Bool, true, false, ◌⊎◌, ℕ, suc, ◌+◌, ◌≤◌, ◌<◌, eqb, get_or}
use Rattle.std.proofs.Common.{◌∙◌, inl, inr, add-zero, ne_eqb, eq-eqb}
use Rattle.std.proofs.Math.Option.{Option, some, map}
use mathlib.Core.List.{List, [], ◌∷◌, ◌++◌}
use native.Mathlib.Omega.{arith}
use Rattle.std.proofs.Math.ListN.{length}
use Rattle.kit.specs.Pick.{pick}
use Rattle.kit.proofs.Laws.{lt_or_le, yes!, no!, tests}
use Rattle.rules.specs.Tools.{when◌then◌else◌}
use Rattle.rules.specs.Tree.{Declaration, Operand, Head, Fields, end, ◌▸◌, head_of, operand_row, item_rows}
use Rattle.rules.specs.Shapes.{here_only}
use Rattle.rules.specs.Rules.{Outside, onward, Result, refused, ok, find, heads_decls, expand_operand, expand_head}
use Rattle.names.specs.Table.{Slot, row_of, past_of, empty_slot, between}
use Rattle.names.specs.Stands.{count}
use Rattle.names.proofs.Laws.{any_default, between_cons, between_nil}
use Rattle.write.specs.WriteState.{following_t}
use Rattle.write.specs.Alias.{slot_at, is_inserted_t}
use Rattle.agree.specs.Tables.Slots.{inserted_slot, inserted_slots, decl_slots, if_ok, operands_slots, head_slots, fields_slots}

-- ---- the slots that are left

-- those from k up to `to`
pub record Left (names : List Slot) (to k : ℕ) (slots : List Slot) : Type 0 where
  pub are : between k to names ≡ slots
  pub room : to ≤ length names

-- the next slot, and those left after it
pub record Next (names : List Slot) (to k : ℕ) (slot : Slot) (slots : List Slot) : Type 0 where
  pub inside : k < to
  pub is : slot_at names k ≡ slot
  pub follows : following_t names k ≡ k + 1
  pub rest : Left names to (k + 1) slots

module _ (names : List Slot) (to : ℕ) where
  pub left_next : (k : ℕ) (slot : Slot) (slots : List Slot) → Left names to k (slot ∷ slots) → Next names to k slot slots
  unfolding following_t
  left_next k slot slots l = go (lt_or_le k to)
    where
      go : ((k < to) ⊎ (to ≤ k)) → Next names to k slot slots
      go (inl h) =
          let r = l.room in
          let i : k < length names = omega arith in
          let e : (get_or names k [] ∷ between (k + 1) to names) ≡ slot ∷ slots = sym (between_cons k to names h i) ∙ l.are in
          record {
            inside = h;
            is = any_default names k empty_slot [] i ∙ cc;
            follows = sym (yes! _ (omega tests) refl);
            rest = record { are = cc; room = r };
          }
      go (inr h) =
          let e : [] ≡ slot ∷ slots = sym (between_nil k to names (omega arith)) ∙ l.are in
          let z : ◌≡◌ {A = ℕ} 0 1 = cc in
          absurd (omega arith)

  pub left_none : (k : ℕ) → Left names to k [] → to ≤ k
  left_none k l = go (lt_or_le k to)
    where
      go : ((k < to) ⊎ (to ≤ k)) → to ≤ k
      go (inl h) =
          let r = l.room in
          let e : (get_or names k [] ∷ between (k + 1) to names) ≡ [] = sym (between_cons k to names h (omega arith)) ∙ l.are in
          let z : ◌≡◌ {A = ℕ} 0 1 = cc in
          absurd (omega arith)
      go (inr h) = h

  -- past the first ones
  pub left_past : (k : ℕ) (slots rest : List Slot) → Left names to k (slots ++ rest) → Left names to (k + length slots) rest
  left_past k [] rest l = rw add-zero l
  left_past k (s ∷ slots) rest l =
      let e : k + 1 + length slots ≡ k + suc (length slots) = omega arith in
      rw e at (left_past (k + 1) slots rest (left_next k s (slots ++ rest) l).rest)

-- ---- the number of a new name

-- all names are below n
abbrev pub Under : (n : ℕ) → List Declaration → Type 0
Under n [] = Unit {0}
Under n (d ∷ ds) = (d.name < n) × Under n ds

pub under_more : (n m : ℕ) (ds : List Declaration) → n ≤ m → Under n ds → Under m ds
under_more n m [] h u = tt
under_more n m (d ∷ ds) h u = (omega arith, under_more n m ds h u.1)

pub under_append : (n : ℕ) (ds es : List Declaration) → Under n ds → Under n es → Under n (ds ++ es)
under_append n [] es u v = v
under_append n (d ∷ ds) es u v = (u.0, under_append n ds es u.1 v)

past_one : (t u : Bool) (o : Option ℕ) (n : ℕ) → u ≡ false → o ≡ some n → (when t then when u then some 0 else map suc o else o) ≡ some (pick t (suc n) n)
unfolding when◌then◌else◌ pick
past_one true u o n h e = rw (h, e)
past_one false u o n h e = e

first_one : (t u : Bool) (o : Option ℕ) → t ≡ true → u ≡ true → (when t then when u then some 0 else map suc o else o) ≡ some 0
unfolding when◌then◌else◌
first_one t u o h g = rw (h, g)

-- a declaration behind others with lower names is found by its own
pub find_new : (before : List Declaration) (d : Declaration) (after : List Declaration) → Under d.name before → find (before ++ (d ∷ after)) d.space d.name ≡ some (count d.space before)
unfolding find count
find_new [] d after u = first_one (eqb d.space d.space) (eqb d.name d.name) (find after d.space d.name) (eq-eqb d.space d.space refl) (eq-eqb d.name d.name refl)
find_new (x ∷ before) d after u =
    past_one (eqb x.space d.space) (eqb x.name d.name) (find (before ++ (d ∷ after)) d.space d.name) (count d.space before) (ne_eqb x.name d.name (omega arith)) (find_new before d after u.1)

-- ---- slots of other rows

-- none of the slots has the row
abbrev pub Apart : (row : ℕ) → List Slot → Type 0
Apart row [] = Unit {0}
Apart row (s ∷ slots) = (row_of s ≡ row → ⊥) × Apart row slots

pub apart_append : (row : ℕ) (xs ys : List Slot) → Apart row xs → Apart row ys → Apart row (xs ++ ys)
apart_append row [] ys a b = b
apart_append row (x ∷ xs) ys a b = (a.0, apart_append row xs ys a.1 b)

inserted_apart : (row : ℕ) (before : List Declaration) (row' : ℕ) (hs : List Head) → (row' ≡ row → ⊥) → Apart row (inserted_slots before row' hs)
unfolding inserted_slots inserted_slot
inserted_apart row before row' [] n = tt
inserted_apart row before row' (h ∷ hs) n = (n, inserted_apart row (before ++ h.decls) row' hs n)

pub decls_apart : (row : ℕ) (before : List Declaration) (row' : ℕ) (ds : List Declaration) → row' + length ds ≤ row → Apart row (decl_slots before row' ds)
unfolding decl_slots
decls_apart row before row' [] h = tt
decls_apart row before row' (d ∷ ds) h = (omega arith, decls_apart row (before ++ (d ∷ [])) (row' + 1) ds (omega arith))

later_apart : (row : ℕ) (before : List Declaration) (row' : ℕ) (ds : List Declaration) → row < row' → Apart row (decl_slots before row' ds)
unfolding decl_slots
later_apart row before row' [] h = tt
later_apart row before row' (d ∷ ds) h = (omega arith, later_apart row (before ++ (d ∷ [])) (row' + 1) ds (omega arith))

if_apart : {A : Type 0} (row : ℕ) (r : Result A) (f : A → List Slot) → ((a : A) → Apart row (f a)) → Apart row (if_ok r [] f)
unfolding if_ok
if_apart row (refused n z) f h = tt
if_apart row (ok a) f h = h a

choice_apart : (row : ℕ) (t : Bool) (xs : List Slot) → Apart row xs → Apart row (when t then [] else xs)
unfolding when◌then◌else◌
choice_apart row true xs a = tt
choice_apart row false xs a = a

module _ (here : List Declaration) (outside : Outside) (row : ℕ) where
  pub operands_apart : (before : List Declaration) (k row' : ℕ) (os : List Operand) → row < row' → Apart row (operands_slots here outside before k row' os)
  unfolding operands_slots
  operands_apart before k row' [] h = tt
  operands_apart before k row' (o ∷ os) h =
      if_apart row (expand_operand here outside k o) _ λ e.
      apart_append row (inserted_slots before row' e.inserted) _ (inserted_apart row before row' e.inserted (omega arith))
      (operands_apart (before ++ heads_decls e.inserted) e.k (row' + length (operand_row o)) os (omega arith))

  pub head_apart : (before : List Declaration) (k row' : ℕ) (h : Head) → row < row' → Apart row (head_slots here outside before k row' h)
  unfolding head_slots
  head_apart before k row' h l = choice_apart row (here_only h.code) _ (operands_apart before k (row' + 1 + length h.decls) h.operands (omega arith))

pub fields_apart : (here : List Declaration) (outside : Outside) (row : ℕ) (before : List Declaration) (k row' : ℕ) (fs : Fields) → row < row' → Apart row (fields_slots here outside before k row' fs)
unfolding fields_slots
fields_apart here outside row before k row' end h = tt
fields_apart here outside row before k row' (i ▸ fs) h =
    if_apart row (expand_head here outside k (head_of i)) _ λ e.
    let ds = before ++ heads_decls e.inserted in
    apart_append row (head_slots here outside before k row' (head_of i)) _ (head_apart here outside row before k row' (head_of i) h)
    (apart_append row (decl_slots ds (row' + 1) (head_of i).decls) _ (later_apart row ds (row' + 1) (head_of i).decls (omega arith))
    (fields_apart here (onward i outside) row (ds ++ (head_of i).decls) e.k (row' + length (item_rows i)) fs (omega arith)))

-- ---- is the next slot a reference's own?

module _ (names : List Slot) (here : List ℕ) (k row : ℕ) where
  pub not_inserted : (slots : List Slot) → Left names (past_of here) k slots → Apart row slots → is_inserted_t names here k row ≡ false
  unfolding is_inserted_t
  not_inserted [] l a = let h = left_none names (past_of here) k l in sym (yes! _ (omega tests) refl)
  not_inserted (s ∷ slots) l a =
      let n = left_next names (past_of here) k s slots l in
      let h = n.inside in
      sym (no! _ (omega tests) (rw n.is (sym (ne_eqb (row_of s) row a.0))))

  pub is_inserted_lem : (s : Slot) (slots : List Slot) → Left names (past_of here) k (s ∷ slots) → row_of s ≡ row → is_inserted_t names here k row ≡ true
  unfolding is_inserted_t
  is_inserted_lem s slots l e =
      let n = left_next names (past_of here) k s slots l in
      let h = n.inside in
      sym (no! _ (omega tests) (rw n.is (sym (eq-eqb (row_of s) row e))))
