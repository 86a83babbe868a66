-- The list of two forms, for every choice: empty exactly if they are equal, in order, with the right's rows; applied to the left it gives the right.
use Rattle.std.specs.Prelude.{◌≡◌, true, false, ◌↔◌, ℕ, length}
use Rattle.std.proofs.Math.Path.{refl}
use Rattle.std.proofs.Common.{ap, ap₂, sym, ◌∙◌, subst, arith}
use Rattle.std.proofs.Math.Option.{Option, none, some}
use mathlib.Core.List.{List, [], ◌∷◌, map}
use Rattle.rules.specs.Tools.{when◌then◌else◌}
use Rattle.rules.specs.Versions.{Setting, as_claimed}
use Rattle.rules.specs.Rows.{Index, Num, Id, Row, Field, Decl, Ref, Path, Outer, Case, Open, Close, Export}
use Rattle.rules.specs.Tree.{Scope, flatten}
use Rattle.rules.specs.Answer.{accepted, mark, has_header, setting_of, row_count, rows_in, form_bytes}
use Rattle.read_form.specs.ReadForm.{◌and_then◌, read_form}
use Rattle.comparing.specs.Compare.{Choice, blur_place, blur_name, blur_index, blur, form_pairs, Entry, differences, apply, both_read, compared}
use Rattle.rules.specs.Laws.ToolLaws.{ok_at, eqb-true, All}
use Rattle.rules.specs.Laws.RowLaws.{Bytes}
use Rattle.rules.proofs.Laws.Read.Reached.{unsome}
use Rattle.comparing.proofs.Laws.Sides.{form_sides, forms_alike}
use Rattle.comparing.proofs.Laws.Kinds.{Means, kinds_mean}
use Rattle.comparing.specs.Laws.WrittenAgain.{form_bytes_lem}
use Rattle.rules.proofs.Laws.InputLaws.{Usual, AllUsual, setting_usual}
use Rattle.read_form.proofs.Laws.ReadFormLaws.{no_answer, accepted_same, then_inv, ReadAs, read_exactly}
use Rattle.comparing.proofs.Laws.Lists.{InOrder, in_order, applied, none_differ, none_listed, Carried, carried}

-- ---- of two trees

module _ (c : Choice) (a b : Scope) where
  -- The list is empty exactly if the forms are equal as they count.
  pub empty_exactly : (differences c a b ≡ []) ↔ (map (blur c) (flatten a) ≡ map (blur c) (flatten b))
  unfolding differences
  empty_exactly =
      let s = form_sides c a b in (
        λ e. rw (s.all_left, s.all_right) at (none_differ c 0 0 (form_pairs c a b) s.equal e),
        λ e. none_listed 0 0 (form_pairs c a b) (forms_alike c a b e),
      )

  -- Applied to the left it gives the right, as they count.
  pub applied_right : map (blur c) (apply 0 (differences c a b) (flatten a)) ≡ map (blur c) (flatten b)
  unfolding differences
  applied_right = let s = form_sides c a b in rw (s.all_left, s.all_right) at (applied c 0 0 (form_pairs c a b) s.equal)

  -- The entries are in row order, do not overlap, and lie in the forms.
  pub ordered : InOrder 0 0 (length (flatten a)) (length (flatten b)) (differences c a b)
  unfolding differences
  ordered = let s = form_sides c a b in in_order 0 0 _ _ (form_pairs c a b) (rw s.all_left (omega arith)) (rw s.all_right (omega arith))

  -- Each has the right's rows from its first one on.
  pub carries : All (Carried (flatten b)) (differences c a b)
  unfolding differences
  carries = let s = form_sides c a b in rw s.all_right at (carried [] 0 0 (form_pairs c a b) refl)

-- ---- where nothing is ignored, all counts

abbrev pub nothing : Choice
nothing = record { places = false; fresh = false }

index_counts : (i : Index) → blur_index nothing i ≡ i
unfolding blur_index blur_name when◌then◌else◌
index_counts (Num n) = refl
index_counts (Id n) = refl

row_counts : (r : Row) → blur nothing r ≡ r
unfolding blur blur_name blur_place when◌then◌else◌
row_counts (Field code builtin z) = refl
row_counts (Decl space name z) = refl
row_counts (Ref space at paths z) = rw (index_counts at)
row_counts (Path name) = refl
row_counts (Outer space up at z) = rw (index_counts up, index_counts at)
row_counts (Case name z) = refl
row_counts (Open kind name) = refl
row_counts Close = refl
row_counts (Export name) = refl

pub all_count : (rs : List Row) → map (blur nothing) rs ≡ rs
all_count [] = refl
all_count (r ∷ rs) = ap₂ (λ (x : Row) (l : List Row). x ∷ l) (row_counts r) (all_count rs)

-- Applied to the left it gives the right, row by row.
pub applied_exactly : (a b : Scope) → apply 0 (differences nothing a b) (flatten a) ≡ flatten b
applied_exactly a b = sym (all_count _) ∙ applied_right nothing a b ∙ all_count (flatten b)

-- ---- of bytes

record BothRead (s : Setting) (left right : List ℕ) (t : Scope × Scope) : Type 0 where
  left_is : ReadAs (as_claimed s) left t.0
  right_is : ReadAs (as_claimed s) right t.1

both_read_lem : (s : Setting) (left right : List ℕ) (t : Scope × Scope) → both_read (some s) left right ≡ accepted t → BothRead s left right t
unfolding both_read
both_read_lem s left right t e =
    let f = then_inv (read_form (as_claimed s) left) _ t e in
    let g = then_inv (read_form (as_claimed s) right) _ t f.2 in
    let same : ◌≡◌ {A = Scope × Scope} (f.0, g.0) t = accepted_same _ t g.2 in
    subst (BothRead s left right) same (record { left_is = (read_exactly (as_claimed s) left f.0).0 f.1; right_is = (read_exactly (as_claimed s) right g.0).0 g.1 })

module _ (settings : List Setting) (c : Choice) (left right : List ℕ) (es : List Entry) where
  -- the setting of both headers, the trees that both are read as, and what holds of the list
  pub record Compared : Type 0 where
    pub setting : Setting
    pub left_asks : setting_of settings left ≡ some setting
    pub before : Scope
    pub after : Scope
    pub left_read : ReadAs (as_claimed setting) left before
    pub right_read : ReadAs (as_claimed setting) right after
    pub list_is : differences c before after ≡ es
    pub empty : (es ≡ []) ↔ (map (blur c) (flatten before) ≡ map (blur c) (flatten after))
    pub applies : map (blur c) (apply 0 es (flatten before)) ≡ map (blur c) (flatten after)
    pub in_rows_lem : InOrder 0 0 (length (flatten before)) (length (flatten after)) es
    pub carried_rows : All (Carried (flatten after)) es
    pub kinds : All (Means c (flatten before)) es

  -- Of every two inputs that are compared.
  pub comparison : compared settings c left right ≡ accepted es → Compared
  unfolding compared both_read
  comparison e = go (setting_of settings left) refl (then_inv (both_read (setting_of settings left) left right) _ es e)
    where
      go : (o : Option Setting) → setting_of settings left ≡ o
          → (t : Scope × Scope) × (both_read o left right ≡ accepted t) × (accepted (differences c t.0 t.1) ≡ accepted es) → Compared
      go none q w = no_answer 1 0 [] w.0 w.1
      go (some s) q w =
          let a = w.0.0 in
          let b = w.0.1 in
          let t = both_read_lem s left right w.0 w.1 in
          let same : differences c a b ≡ es = accepted_same _ es w.2 in
          record {
            setting = s;
            left_asks = q;
            before = a;
            after = b;
            left_read = t.left_is;
            right_read = t.right_is;
            list_is = same;
            empty = rw same at (empty_exactly c a b);
            applies = rw same at (applied_right c a b);
            in_rows_lem = rw same at (ordered c a b);
            carried_rows = rw same at (carries c a b);
            kinds = rw same at (kinds_mean c a b);
          }

-- Two such forms are compared.
pub is_compared : (settings : List Setting) (c : Choice) (left right : List ℕ) (s : Setting) (a b : Scope) → setting_of settings left ≡ some s
    → read_form (as_claimed s) left ≡ accepted a → read_form (as_claimed s) right ≡ accepted b → compared settings c left right ≡ accepted (differences c a b)
unfolding compared both_read ◌and_then◌
is_compared settings c left right s a b asks p q = rw (asks, p, q)

-- ---- where nothing is ignored: the very bytes

own_header : (s : Setting) (input : List ℕ) → has_header (as_claimed s) input ≡ true → has_header s input ≡ true
unfolding has_header mark
own_header s input e = e

-- a form's rows, with its header, are its bytes
read_bytes : (s : Setting) (input : List ℕ) (t : Scope) → Usual s → Bytes input → ReadAs (as_claimed s) input t → form_bytes s (flatten t) ≡ input
unfolding row_count
read_bytes s input t u p k = form_bytes_lem s input p u.header (own_header s input k.headed) _ (flatten t) (eqb-true _ _ k.long) k.is_form.of_tree

-- the setting of both headers, the left's rows, and what holds of the list
pub record Exact (left right : List ℕ) (es : List Entry) : Type 0 where
  pub setting : Setting
  pub rows : List Row
  pub left_is : form_bytes setting rows ≡ left
  pub right_is : form_bytes setting (apply 0 es rows) ≡ right
  pub equal : (es ≡ []) ↔ (left ≡ right)

-- The list is empty exactly for equal bytes, and applied to the left's rows it gives the right's bytes.
pub exact : (settings : List Setting) (left right : List ℕ) (es : List Entry) → AllUsual settings → Bytes left → Bytes right → compared settings nothing left right ≡ accepted es → Exact left right es
exact settings left right es usual p q e =
    let k = comparison settings nothing left right es e in
    let s = k.setting in
    let u : Usual s = ok_at Usual (setting_of settings left) s (setting_usual settings left usual) k.left_asks in
    let from-left = read_bytes s left k.before u p k.left_read in
    let from-right = read_bytes s right k.after u q k.right_read in
    let gives : apply 0 es (flatten k.before) ≡ flatten k.after = sym (all_count _) ∙ k.applies ∙ all_count (flatten k.after) in
    record {
      setting = s;
      rows = flatten k.before;
      left_is = from-left;
      right_is = ap (form_bytes s) gives ∙ from-right;
      equal = (
        λ n. sym from-left ∙ ap (form_bytes s) (sym (all_count (flatten k.before)) ∙ k.empty.0 n ∙ all_count (flatten k.after)) ∙ from-right,
        λ same. k.empty.1 (ap (map (blur nothing))
            (unsome (flatten k.before) (flatten k.after) (k.left_read.is_form.of_tree ∙ ap (rows_in (as_claimed s)) same ∙ sym k.right_read.is_form.of_tree))),
      );
    }
