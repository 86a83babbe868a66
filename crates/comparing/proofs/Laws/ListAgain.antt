-- The bytes of a list determine it.
use Rattle.std.specs.Prelude.{◌≡◌, refl, ℕ, zero, suc, ◌+◌, ◌*◌, ◌^◌, ◌≤◌, ◌<◌, length, take, drop, get_or, leb}
use Rattle.std.proofs.Common.{ap, ap₂, sym, ◌∙◌, arith, drop_at}
use Rattle.std.proofs.Math.Option.{some}
use mathlib.Core.List.{List, [], ◌∷◌, ◌++◌, cons≢nil}
use Rattle.std.proofs.lemmas.List.{length-map}
use Rattle.rules.specs.Versions.{Setting, as_claimed}
use Rattle.rules.specs.Rows.{value, bytes, Row}
use Rattle.rules.specs.Tree.{Scope, flatten}
use Rattle.rules.specs.Answer.{row_count, rows_of, rows_bytes}
use Rattle.comparing.specs.Compare.{Choice, Kind, opening, left_only, right_only, differing, Entry, kind_number, entry_bytes, list_bytes}
use Rattle.rules.specs.Laws.ToolLaws.{and_right, leb_le, All, done, ◌&◌}
use Rattle.rules.specs.Laws.RowLaws.{Written, value_bytes, Bytes, bytes_drop}
use Rattle.rules.proofs.Laws.Read.Reached.{unsome}
use Rattle.rules.proofs.Laws.Read.BeginsWritten.{rows_length, rows_written_lem, rows_again, all_some}
use Rattle.rules.proofs.Laws.Output.OutFits.{out_name}
use Rattle.read_form.proofs.Laws.OutputLength
use Rattle.read_form.proofs.Laws.ReadFormLaws.{ReadAs}
use Rattle.comparing.proofs.Laws.Lists.{InOrder, Carried}
use Rattle.comparing.proofs.Laws.Compared.{Compared}

-- an entry whose numbers and rows can be written
pub record FitsEntry (e : Entry) : Type 0 where
  pub left_fits : e.left < 2 ^ 32
  pub count_fits : e.count < 2 ^ 32
  pub right_fits : e.right < 2 ^ 32
  pub rows_fit : length e.rows < 2 ^ 32
  pub written : All (Written out_name) e.rows

numbered : ℕ → Kind
numbered n = get_or (opening ∷ opening ∷ left_only ∷ right_only ∷ differing ∷ []) n opening

kind_again : (k : Kind) → numbered (kind_number k) ≡ k
unfolding numbered kind_number
kind_again opening = refl
kind_again left_only = refl
kind_again right_only = refl
kind_again differing = refl

kind_small : (k : Kind) → kind_number k < 2 ^ 32
unfolding kind_number
kind_small opening = omega arith
kind_small left_only = omega arith
kind_small right_only = omega arith
kind_small differing = omega arith

-- four bytes at an offset
abbrev number_at : ℕ → List ℕ → ℕ
number_at k bs = value (take 4 (drop k bs))

-- the parts of an entry, out of the bytes that begin with it
record Begun (e : Entry) (more bs : List ℕ) : Type 0 where
  kind_is : number_at 0 bs ≡ kind_number e.kind
  left_is : number_at 4 bs ≡ e.left
  count_is : number_at 8 bs ≡ e.count
  right_is : number_at 12 bs ≡ e.right
  rows_are : number_at 16 bs ≡ length e.rows
  behind : drop 20 bs ≡ rows_bytes e.rows ++ more

begun : (e : Entry) (more : List ℕ) → FitsEntry e → Begun e more (entry_bytes e ++ more)
unfolding entry_bytes bytes
begun e more f =
    record {
      kind_is = value_bytes 4 (kind_number e.kind) (kind_small e.kind);
      left_is = value_bytes 4 e.left f.left_fits;
      count_is = value_bytes 4 e.count f.count_fits;
      right_is = value_bytes 4 e.right f.right_fits;
      rows_are = value_bytes 4 (length e.rows) f.rows_fit;
      behind = refl;
    }

record Same (e e' : Entry) (more more' : List ℕ) : Type 0 where
  entry : e ≡ e'
  others : more ≡ more'

same_entry : (e e' : Entry) (more more' bs : List ℕ) → FitsEntry e → FitsEntry e' → Begun e more bs → Begun e' more' bs → Same e e' more more'
same_entry e e' more more' bs f f' b b' =
    let n : length e.rows ≡ length e'.rows = sym b.rows_are ∙ b'.rows_are in
    let tail : rows_bytes e.rows ++ more ≡ rows_bytes e'.rows ++ more' = sym b.behind ∙ b'.behind in
    let rows : e.rows ≡ e'.rows = unsome e.rows e'.rows (
    sym (rows_again out_name e.rows more f.written) ∙ ap₂ (λ (k : ℕ) (l : List ℕ). rows_of out_name k l) n tail ∙ rows_again out_name e'.rows more' f'.written) in
    let kinds : e.kind ≡ e'.kind = sym (kind_again e.kind) ∙ ap numbered (sym b.kind_is ∙ b'.kind_is) ∙ kind_again e'.kind in
    let left : e.left ≡ e'.left = sym b.left_is ∙ b'.left_is in
    let count : e.count ≡ e'.count = sym b.count_is ∙ b'.count_is in
    let right : e.right ≡ e'.right = sym b.right_is ∙ b'.right_is in
    record {
      entry = λ i. record { kind = kinds i; left = left i; count = count i; right = right i; rows = rows i };
      others = sym (drop_at (rows_bytes e.rows) more (16 * length e.rows) (OutputLength.rows_length e.rows))
          ∙ ap₂ (λ (k : ℕ) (l : List ℕ). drop (16 * k) l) n tail ∙ drop_at (rows_bytes e'.rows) more' (16 * length e'.rows) (OutputLength.rows_length e'.rows);
    }

some_bytes : {X : Type 0} (e : Entry) (more : List ℕ) → entry_bytes e ++ more ≡ [] → X
unfolding entry_bytes bytes
some_bytes e more h = absurd (cons≢nil h)

-- Two lists with the same bytes are the same.
pub determines : (es es' : List Entry) → All FitsEntry es → All FitsEntry es' → list_bytes es ≡ list_bytes es' → es ≡ es'
unfolding list_bytes
determines [] [] f f' h = refl
determines [] (e ∷ es) f f' h = some_bytes e (list_bytes es) (sym h)
determines (e ∷ es) [] f f' h = some_bytes e (list_bytes es) h
determines (e ∷ es) (e' ∷ es') (f & fs) (f' & fs') h =
    let b : Begun e (list_bytes es) (entry_bytes e' ++ list_bytes es') = rw h at (begun e (list_bytes es) f) in
    let s = same_entry e e' (list_bytes es) (list_bytes es') (entry_bytes e' ++ list_bytes es') f f' b (begun e' (list_bytes es') f') in
    ap₂ (λ (x : Entry) (l : List Entry). x ∷ l) s.entry (determines es es' fs fs' s.others)

-- ---- a list of two forms can be written

-- where the entries lie
record Lies (m n : ℕ) (e : Entry) : Type 0 where
  in_left : e.left + e.count ≤ m
  in_right : e.right + length e.rows ≤ n

order_end : (i j m n : ℕ) (es : List Entry) → InOrder i j m n es → (i ≤ m) × (j ≤ n)
order_end i j m n [] o = o
order_end i j m n (e ∷ es) o =
    let h = order_end (e.left + e.count) (e.right + length e.rows) m n es o.2 in
    (omega (arith, h.0, o.0), omega (arith, h.1, o.1))

order_lies : (i j m n : ℕ) (es : List Entry) → InOrder i j m n es → All (Lies m n) es
order_lies i j m n [] o = done
order_lies i j m n (e ∷ es) o =
    let h = order_end (e.left + e.count) (e.right + length e.rows) m n es o.2 in
    record { in_left = h.0; in_right = h.1 } & order_lies (e.left + e.count) (e.right + length e.rows) m n es o.2

all_take : {A : Type 0} {P : A → Type 0} (n : ℕ) (xs : List A) → All P xs → All P (take n xs)
all_take zero xs a = done
all_take (suc n) [] a = done
all_take (suc n) (x ∷ xs) (h & a) = h & all_take n xs a

all_drop : {A : Type 0} {P : A → Type 0} (n : ℕ) (xs : List A) → All P xs → All P (drop n xs)
all_drop zero xs a = a
all_drop (suc n) [] a = done
all_drop (suc n) (x ∷ xs) (h & a) = all_drop n xs a

module _ (m n : ℕ) (right : List Row) (few : m < 2 ^ 32) (few' : n < 2 ^ 32) (written : All (Written out_name) right) where
  entries_fit : (es : List Entry) → All (Lies m n) es → All (Carried right) es → All FitsEntry es
  entries_fit [] done done = done
  entries_fit (e ∷ es) (h & a) (k & b) =
      let rows : All (Written out_name) e.rows = rw k at (all_take (length e.rows) (drop e.right right) (all_drop e.right right written)) in
      let one : FitsEntry e =
      record {
        left_fits = omega (arith, h.in_left);
        count_fits = omega (arith, h.in_left);
        right_fits = omega (arith, h.in_right);
        rows_fit = omega (arith, h.in_right);
        written = rows;
      } in
      one & entries_fit es a b

read_length : (s : Setting) (input : List ℕ) (t : Scope) → ReadAs (as_claimed s) input t → length (flatten t) ≤ 4 * s.version.rows
unfolding row_count
read_length s input t k =
    let count = row_count (as_claimed s).version input in
    let size : length (flatten t) ≡ count = sym (length-map (flatten t) some) ∙ ap length k.is_form.of_tree ∙ rows_length out_name count (drop s.version.header input) in
    omega (arith, size, leb_le count (4 * s.version.rows) (and_right (leb 1 count) (leb count (4 * s.version.rows)) k.counted))

read_written : (s : Setting) (input : List ℕ) (t : Scope) → Bytes input → ReadAs (as_claimed s) input t → All (Written out_name) (flatten t)
read_written s input t p k =
    all_some out_name (flatten t) (rw k.is_form.of_tree (rows_written_lem out_name (row_count (as_claimed s).version input) (drop s.version.header input) (bytes_drop s.version.header input p)))

-- A list's numbers and rows fit their bytes, so its bytes determine it.
pub list_fits : (settings : List Setting) (c : Choice) (left right : List ℕ) (es : List Entry) (k : Compared settings c left right es)
    → 4 * k.setting.version.rows < 2 ^ 32 → Bytes right → All FitsEntry es
list_fits settings c left right es k small p =
    let m = length (flatten k.before) in
    let n = length (flatten k.after) in
    let few : m < 2 ^ 32 = omega (arith, read_length k.setting left k.before k.left_read) in
    let few' : n < 2 ^ 32 = omega (arith, read_length k.setting right k.after k.right_read) in
    entries_fit m n (flatten k.after) few few' (read_written k.setting right k.after p k.right_read) es (order_lies 0 0 m n es k.in_rows_lem) k.carried_rows
