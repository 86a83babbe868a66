-- What the code answers and leaves is what the rules say.
use Rattle.std.specs.Prelude.{Result, Ok, Err, IsErrAnd}
use Rattle.std.proofs.lemmas.Result.{err_from_is_err_and}
use mathlib.Core.Path.{◌≡◌, refl, sym, ap, ◌∙◌}
use mathlib.Core.Bool.{Bool, true, false}
use mathlib.Core.Option.{some}
use mathlib.Core.List.{List, [], ◌∷◌, append-nil}
use Prim.Native.Nat.{ℕ, suc, ◌+◌, ◌*◌, ◌/◌, ◌<◌, ◌≤◌}
use native.Mathlib.Omega.{arith}
use lib.Dec.{leb, ltb}
use lib.ListN.{length, get_or, drop, length-drop, length-map}
use lib.Seq.{sets, sets-eq, drop_at}
use mir.Syntax.{w8}
use mir.Val.{Fits}
use borrow.Author.Rules.{rules}
use borrow.Author.Tests.{ltb-false, eqb-true, leb-true}
use Rattle.kit.specs.Pick.{pick}
use Rattle.kit.specs.Out.{Out, ◌&◌}
use Rattle.rules.specs.Tools.{when◌then◌else◌, between}
use Rattle.rules.specs.Versions.{Setting, all, as_claimed}
use Rattle.rules.specs.Tree.{Scope, flatten}
use Rattle.rules.specs.Answer.{AnswerOf, refused, accepted, map_answer, has_header, setting_of, row_count, rows_bytes, header_bytes, form_bytes}
use Rattle.rules.specs.Laws.ToolLaws.{done, ◌&◌ as ◌also◌, and_left, and_right}
use Rattle.rules.specs.Laws.RowLaws.{Bytes}
use Rattle.rules.proofs.Laws.Read.BeginsWritten.{rows_length}
use Rattle.rules.proofs.Laws.Output.OutBytes.{header_length}
use Rattle.headers.specs.Laws.Settings.{all_in_force, found_in}
use Rattle.read_form.specs.ReadForm.{◌and_then◌, read_form}
use Rattle.read_form.proofs.Laws.ReadFormLaws.{ReadAs, read_exactly, claimed_header}
use Rattle.comparing.specs.Compare.{Choice, Entry, differences, both_read, compared, list_bytes, listed, list_after, list_output}
use Rattle.comparing.specs.Laws.WrittenAgain.{form_bytes_lem}
use Rattle.refusal.specs.declared.Refusal.{Refusal}
use Rattle.limits.specs.Held.{setting}
use Rattle.limits.proofs.Laws.{few_rows}
use Rattle.whole_form.specs.Asked.{claimed_of}
use Rattle.whole_form.specs.Whole.{form_of}
use Rattle.whole_form.proofs.Laws.{plain_at, unsized, claimed_for, claimed_wrong, claimed_count, whole_read, refused_read}
use Rattle.matched.proofs.Ends.{At}
use Rattle.diff.specs.Meaning.{meaning, bytes_of, Says}
use Rattle.diff.specs.Run.{list_t, refusing, list_rows_t}
use Rattle.diff.proofs.Lists.{Held, at_rows, whole_list}
use Rattle.form.specs.Header.{refusal_of}
use Rattle.form.specs.declared.header.BadHeader.TheVariants.{Wrong, Count}
use Rattle.form.specs.declared.header.BadHeader.{BadHeader}
use Rattle.whole_form.specs.declared.asked.Asked.{Asked}

-- ---- a form that is read as an output of the setting at place i

module _ (i : ℕ) where
  abbrev held : Setting
  held = as_claimed (setting i)

  abbrev header : ℕ
  header = (setting i).version.header

  module _ (l : List ℕ) (t : Scope) (e : read_form held l ≡ accepted t) where
    as_read : ReadAs held l t
    as_read = (read_exactly held l t).0 e

    abbrev count : ℕ
    count = row_count held.version l

    counted : between 1 (4 * (setting i).version.rows) count ≡ true
    counted = as_read.counted

    some_rows : 1 ≤ count
    some_rows = leb-true 1 _ (and_left (leb 1 count) (leb count (4 * (setting i).version.rows)) counted)

    few : count ≤ 65532
    few = let h = leb-true _ (4 * (setting i).version.rows) (and_right (leb 1 count) (leb count (4 * (setting i).version.rows)) counted) in omega (arith, few_rows i)

    sized : length l ≡ header + 16 * count
    sized = eqb-true (length l) (header + 16 * count) as_read.long

    body_long : length (drop header l) / 16 ≡ count
    body_long = omega (arith, sized, length-drop header l)

    all_rows_lem : length (flatten t) ≡ count
    all_rows_lem = sym (length-map (flatten t) some) ∙ ap length as_read.is_form.of_tree ∙ rows_length 4294967295 count (drop header l)

    rows_at : At (drop header l) 0 (flatten t)
    rows_at = at_rows 4294967295 count (drop header l) 0 (flatten t) as_read.is_form.of_tree (omega (arith, body_long))

    rows_count : length (drop header l) / 16 ≡ length (flatten t)
    rows_count = body_long ∙ sym all_rows_lem

    rows_held_lem : Bytes l → Held (drop header l) 0 (flatten t)
    rows_held_lem b =
        let fits = (plain_at i).usual.header in
        let whole : form_bytes held (flatten t) ≡ l = form_bytes_lem held l b fits as_read.headed 4294967295 (flatten t) sized as_read.is_form.of_tree in
        let behind : drop header l ≡ rows_bytes (flatten t) =
        ap (drop header) (sym whole) ∙ unfold form_bytes in drop_at (header_bytes held (length (flatten t))) (rows_bytes (flatten t)) header (header_length held (length (flatten t)) [] fits) in
        record { more = []; holds = behind ∙ sym (append-nil (rows_bytes (flatten t))) }

-- and what its length is
module _ (i : ℕ) (l : List ℕ) (v : Result ℕ Refusal) (e : v ≡ form_of (read_form (as_claimed (setting i)) l)) (n : ℕ) (w : v ≡ Ok n) (h : ℕ) (g : h ≡ (setting i).version.header) where
  is_read : (t : Scope) × (read_form (as_claimed (setting i)) l ≡ accepted t)
  is_read = let r = whole_read (as_claimed (setting i)) l n (sym w ∙ e) in (r.0, r.1)

  pub whole_low : h ≤ length l
  whole_low = omega (arith, sized i l is_read.0 is_read.1)

  pub whole_some : h + 16 ≤ length l
  whole_some = omega (arith, sized i l is_read.0 is_read.1, some_rows i l is_read.0 is_read.1)

  pub whole_high : length l ≤ h + 1048576
  whole_high = omega (arith, sized i l is_read.0 is_read.1, few i l is_read.0 is_read.1)

-- ---- answers

-- the elements of a slice of bytes are bytes
all_bytes : (l : List ℕ) → ((i : ℕ) → Fits w8 (get_or l i 0)) → Bytes l
all_bytes [] h = done
all_bytes (b ∷ l) h =
    let f : Fits w8 b = h 0 in
    let low : b < 256 = omega arith in
    low also all_bytes l (λ i. h (suc i))

answer_in : Out (Result ℕ Refusal) (List ℕ) → Result ℕ Refusal
answer_in (a & l) = a

list_in : Out (Result ℕ Refusal) (List ℕ) → List ℕ
list_in (a & l) = l

says_refused : (x : AnswerOf (List Entry)) (why : Refusal) (list : List ℕ) → x ≡ refused why.number why.place [] → Says x list (Err why) list
unfolding meaning map_answer list_after
says_refused x why list e = rw e (record { answers = refl; leaves = refl })

-- with room, or without
says_list : (list w : List ℕ) (es : List Entry) → w ≡ list_bytes es → (a : Result ℕ Refusal) (out : List ℕ) → (a & out) ≡ pick (ltb (length list) (length w)) (refusing 3 0 & list) (Ok (length w) & sets list 0 w)
    → Says (when ltb (length list) (length w) then refused 3 0 [] else accepted es) list a out
says_list list w es p a out = go (ltb (length list) (length w)) refl
  where
    go : (b : Bool) → ltb (length list) (length w) ≡ b → (a & out) ≡ pick b (refusing 3 0 & list) (Ok (length w) & sets list 0 w) → Says (when b then refused 3 0 [] else accepted es) list a out
    go true h e = unfold pick when◌then◌else◌ in (let q : a ≡ refusing 3 0 = unfold answer_in in ap answer_in e in let r : out ≡ list = unfold list_in in ap list_in e in rw (q, r) (says_refused _ _ list refl))
    go false h e = unfold pick when◌then◌else◌ meaning map_answer bytes_of list_after in (
        let q : a ≡ Ok (length w) = unfold answer_in in ap answer_in e in
        let r : out ≡ sets list 0 w = unfold list_in in ap list_in e in
        let z : 0 + length w ≡ length w = omega arith in
        let n : length w ≤ length list = ltb-false _ _ h in
        record { answers = rw (q, p); leaves = r ∙ sets-eq w list 0 (omega arith) ∙ rw (z, p) })

-- ---- compare_as

module _ (c : Choice) (i : ℕ) (left right list : List ℕ) (asks : setting_of all left ≡ some (setting i)) where
  abbrev said : AnswerOf (List Entry)
  said = listed all c left right (length list)

  module _ (v : Result ℕ Refusal) (e : v ≡ form_of (read_form (as_claimed (setting i)) left)) where
    pub left_refused : (why : Refusal) → v ≡ Err why → (a : Result ℕ Refusal) → IsErrAnd a (λ refusal. refusal ≡ why) → Says said list a list
    left_refused why w a s = let p = err_from_is_err_and a s in rw (p.1, p.2) (says_refused _ why list (is (refused_read (as_claimed (setting i)) left why (sym w ∙ e))))
      where
        is : read_form (as_claimed (setting i)) left ≡ refused why.number why.place [] → said ≡ refused why.number why.place []
        is q = unfold listed compared both_read ◌and_then◌ in rw (asks, q)

    module _ (n : ℕ) (w : v ≡ Ok n) (v' : Result ℕ Refusal) (e' : v' ≡ form_of (read_form (as_claimed (setting i)) right)) where
      left_read : (t : Scope) × (read_form (as_claimed (setting i)) left ≡ accepted t)
      left_read = let r = whole_read (as_claimed (setting i)) left n (sym w ∙ e) in (r.0, r.1)

      pub right_refused : (why : Refusal) → v' ≡ Err why → (a : Result ℕ Refusal) → IsErrAnd a (λ refusal. refusal ≡ why) → Says said list a list
      right_refused why w' a s = let p = err_from_is_err_and a s in rw (p.1, p.2) (says_refused _ why list (is left_read.0 left_read.1 (refused_read (as_claimed (setting i)) right why (sym w' ∙ e'))))
        where
          is : (t : Scope) → read_form (as_claimed (setting i)) left ≡ accepted t → read_form (as_claimed (setting i)) right ≡ refused why.number why.place [] → said ≡ refused why.number why.place []
          is t p q = unfold listed compared both_read ◌and_then◌ in rw (asks, p, q)

      module _ (m : ℕ) (w' : v' ≡ Ok m) (h : ℕ) (g : h ≡ (setting i).version.header) where
        right_read : (t : Scope) × (read_form (as_claimed (setting i)) right ≡ accepted t)
        right_read = let r = whole_read (as_claimed (setting i)) right m (sym w' ∙ e') in (r.0, r.1)

        rows_are : (l r : List ℕ) → list_rows_t c l r list ≡ pick (ltb (length list) (length (list_t c l r))) (refusing 3 0 & list) (Ok (length (list_t c l r)) & sets list 0 (list_t c l r))
        unfolding list_rows_t
        rows_are l r = refl

        pub both_listed : ((k : ℕ) → Fits w8 (get_or right k 0)) → (a : Result ℕ Refusal) (out : List ℕ) → (a & out) ≡ list_rows_t c (drop h left) (drop h right) list → Says said list a out
        both_listed b a out q = go left_read.0 right_read.0 left_read.1 right_read.1
          where
            is_listed : (s t : Scope) → read_form (as_claimed (setting i)) left ≡ accepted s → read_form (as_claimed (setting i)) right ≡ accepted t
                → said ≡ (when ltb (length list) (length (list_bytes (differences c s t))) then refused 3 0 [] else accepted (differences c s t))
            is_listed s t p q = unfold listed compared both_read ◌and_then◌ in rw (asks, p, q)

            go : (s t : Scope) → read_form (as_claimed (setting i)) left ≡ accepted s → read_form (as_claimed (setting i)) right ≡ accepted t → Says said list a out
            go s t x y =
                let H = (setting i).version.header in
                let is : list_t c (drop H left) (drop H right) ≡ list_bytes (differences c s t) =
                whole_list c (drop H left) (drop H right) s t (rows_at i left s x) (rows_at i right t y) (rows_held_lem i right t y (all_bytes right b)) (rows_count i left s x) (rows_count i right t y) in
                let ran : (a & out) ≡ list_rows_t c (drop H left) (drop H right) list = rw g at q in
                rw (is_listed s t x y) (rw (ap length is) at (says_list list (list_t c (drop H left) (drop H right)) (differences c s t) is a out (ran ∙ rows_are (drop H left) (drop H right))))

pub ruleset as_ways = (whole_low, whole_some, whole_high, both_listed, rules)

-- ---- compare

module _ (c : Choice) (left right list : List ℕ) where
  abbrev Told : Result ℕ Refusal → List ℕ → Type 0
  Told = Says (listed all c left right (length list)) list

  pub says : (a : Result ℕ Refusal) (out : List ℕ) → Told a out → (meaning a ≡ map_answer bytes_of (listed all c left right (length list))) × (out ≡ list_output all c left right list)
  unfolding list_output
  says a out w = (w.answers, w.leaves)

  module _ (k : Result Asked BadHeader) (e : k ≡ claimed_of left) where
    none_is : k ≡ Err Wrong → listed all c left right (length list) ≡ refused 1 0 []
    none_is h = unfold listed compared both_read ◌and_then◌ in rw (claimed_wrong left (sym h ∙ e))

    unsized_is : k ≡ Err Count → listed all c left right (length list) ≡ refused 2 0 []
    unsized_is h = let g = claimed_count left (sym h ∙ e) in is g.0 g.1 (claimed_header g.0 left (found_in all left g.0 all_in_force g.1).has) g.2
      where
        is : (s : Setting) → setting_of all left ≡ some s → has_header (as_claimed s) left ≡ true → unsized (as_claimed s) left ≡ true → listed all c left right (length list) ≡ refused 2 0 []
        is s x has y = unfold listed compared both_read read_form when◌then◌else◌ ◌and_then◌ in rw (x, has, y)

    pub asked_bad : (why : BadHeader) → k ≡ Err why → (a : Result ℕ Refusal) → IsErrAnd a (λ refusal. refusal ≡ refusal_of why) → Told a list
    asked_bad why h a w = let p = err_from_is_err_and a w in rw (p.1, p.2) (go why h)
      where
        go : (bad : BadHeader) → k ≡ Err bad → Told (Err (refusal_of bad)) list
        go Wrong q = says_refused _ _ list (none_is q)
        go Count q = says_refused _ _ list (unsized_is q)

pub asked_known : (left : List ℕ) (k : Result Asked BadHeader) → k ≡ claimed_of left → (asked : Asked) → k ≡ Ok asked → setting_of all left ≡ some (setting asked.setting)
asked_known left k e asked h = (claimed_for left asked.setting asked.rows (sym h ∙ e)).asks

pub ruleset ways = (asked_known, rules)
