-- The tables start empty, the part of the output that is filled, and the run: one law for each way through the code.
use Rattle.std.specs.Prelude.{Result, Ok, Err, IsErrAnd, ⊤}
use Rattle.std.proofs.lemmas.Result.{err_from_is_err_and}
use mathlib.Core.Path.{◌≡◌, refl, sym, ap, ◌∙◌, subst}
use mathlib.Core.List.{List, [], ◌++◌, append-nil}
use native.Mathlib.Omega.{arith}
use Prim.Native.Nat.{ℕ, ◌+◌, ◌-◌, ◌/◌, ◌≤◌, ◌<◌}
use lib.ListN.{length, take, drop, replicate, length-append, length-drop, length-replicate}
use lib.Seq.{length-take-le, take_all, drop_at, drop-length}
use borrow.Author.Rules.{rules}
use Rattle.kit.specs.Out.{◌&◌}
use Rattle.kit.proofs.Laws.{yes!, no!, tests}
use Rattle.renaming.specs.Anonymous.{over}
use Rattle.names.specs.Table.{Slot, empty_slot}
use Rattle.index.specs.Indexed.{Holds}
use Rattle.index.proofs.Storey.{holds_none}
use Rattle.reader.specs.ReadTo.{read_of}
use Rattle.anonymise.specs.Seen.{slots_from, seen_in, Knows}
use Rattle.anonymise.specs.Renamed.{key_of, rows_written}
use Rattle.anonymise.specs.Run.{fault_of_rows, all_written, fill_names_t, before, read_then, run_t}
use Rattle.anonymise.proofs.Names.{seen_long}
use Rattle.anonymise.proofs.Rows.{over_is}
use Rattle.anonymise.specs.declared.run.Fault.TheVariants.{Room}
use Rattle.anonymise.specs.declared.run.Fault.{Fault}
use Rattle.reader.specs.declared.BadRows.{BadRows}

-- ---- write_form

holds_start : Holds (replicate 2048 empty_slot) (replicate 3072 0) 0
holds_start =
    let l = length-replicate 2048 empty_slot in
    let e : 1024 + length (replicate 2048 empty_slot) ≡ 3072 = omega arith in
    subst (λ (n : ℕ). Holds (replicate 2048 empty_slot) (replicate n 0) 0) e (holds_none (replicate 2048 empty_slot) (replicate 3072 0) (omega arith))

pub knows_start : Knows (replicate 2048 empty_slot) (replicate 3072 0) 0
knows_start = record { holds = holds_start; numbered = unfold seen_in slots_from in refl }

module _ (rows : List ℕ) (table : List Slot) (index : List ℕ) (used : ℕ) (k : Knows table index used) (s : seen_in table used ≡ key_of rows) where
  pub form_count : used ≡ length (key_of rows)
  form_count = sym (seen_long table index used k) ∙ ap length s

  pub form_few : used < 65536
  form_few = omega (arith, k.holds.room, k.holds.roomy.wide)

  pub form_room : used ≤ length table
  form_room = k.holds.room

  pub form_written : (out out' : List ℕ) → out' ≡ rows_written (seen_in table used) rows 0 (length rows / 16) out → out' ≡ all_written rows out
  unfolding all_written
  form_written out out' w = rw s at w

  pub form_key : (key key' : List ℕ) → key' ≡ over (seen_in table used) key → key' ≡ over (key_of rows) key
  form_key key key' w = rw s at w

-- ---- fill

-- all that stands behind the header, and nothing behind it
all_behind : (l : List ℕ) → take (length l - 8) (drop 8 l) ≡ drop 8 l
all_behind l = take_all (length l - 8) (drop 8 l) (simp length-drop (omega arith))

none_behind : (l : List ℕ) → drop (length l - 8) (drop 8 l) ≡ []
none_behind l = rw (← length-drop 8 l) (drop-length (drop 8 l))

pub few_rows : (l : List ℕ) → length l ≤ 16376 → length (take (length l - 8) (drop 8 l)) / 16 ≤ 1023
few_rows l h = rw all_behind (let n = length-drop 8 l in omega arith)

headed : (head eight body : List ℕ) → length head ≡ 8 → length eight ≡ 8 → over head (eight ++ body) ≡ head ++ body
headed head eight body h e =
    over_is head (eight ++ body) (omega (arith, length-append eight body)) ∙ ap (λ (l : List ℕ). head ++ l) (drop_at eight body (length head) (omega arith))

pub fill_done : (form front key key' body front' : List ℕ) (n : ℕ) → 8 ≤ length form → length front ≡ length form
    → n ≡ length (key_of (take (length form - 8) (drop 8 form)))
    → body ≡ all_written (take (length form - 8) (drop 8 form)) (take (length front - 8) (drop 8 front))
    → key' ≡ over (key_of (take (length form - 8) (drop 8 form))) key
    → front' ≡ over (take 8 form) (take 8 front ++ (body ++ drop (length front - 8) (drop 8 front)))
    → Ok n & front' & key' ≡ fill_names_t form front key
unfolding fill_names_t
fill_done form front key key' body front' n long same count w q p =
    let rows = all_behind form in
    let part = all_behind front in
    let body_is : body ≡ all_written (drop 8 form) (drop 8 front) = rw (rows, part) at w in
    let key_is : key' ≡ over (key_of (drop 8 form)) key = rw rows at q in
    let count_is : n ≡ length (key_of (drop 8 form)) = rw rows at count in
    let front_is : front' ≡ take 8 form ++ body =
    p ∙ (headed (take 8 form) (take 8 front) (body ++ drop (length front - 8) (drop 8 front)) (length-take-le 8 form long) (length-take-le 8 front (omega arith))
    ∙ ap (λ (l : List ℕ). take 8 form ++ l) (rw none_behind (append-nil body))) in
    rw (front_is, body_is, key_is, count_is)

-- ---- run

module _ (form out key : List ℕ) where
  pub run_short : length out < length form → Err Room & out & key ≡ run_t form out key
  unfolding run_t
  run_short h = yes! _ (omega tests) refl

  module _ (h : length form ≤ length out) (r : Result ⊤ BadRows) (w : r ≡ read_of (take (length form - 8) (drop 8 form))) where
    reads : r ≡ read_of (drop 8 form)
    reads = rw all_behind at w

    pub run_bad : (why : BadRows) → r ≡ Err why → (v : Result ℕ Fault) → IsErrAnd v (λ fault. fault ≡ fault_of_rows why) → v & out & key ≡ run_t form out key
    unfolding run_t read_then
    run_bad why e v s = let p = err_from_is_err_and v s in rw (p.1, p.2) (no! _ (omega tests) (rw (← reads, e)))

    pub run_whole : (l key' : List ℕ) (a : Result ℕ Fault) → r ≡ Ok tt → a & l & key' ≡ fill_names_t form (take (length form) out) key → a & (l ++ drop (length form) out) & key' ≡ run_t form out key
    unfolding run_t read_then before
    run_whole l key' a e v = no! _ (omega tests) (rw (← reads, e, ← v))

pub front_long : (form out : List ℕ) → length form ≤ length out → length (take (length form) out) ≡ length form
front_long form out h = length-take-le (length form) out h

pub ruleset runs = (knows_start, form_count, form_few, form_room, form_written, form_key, few_rows, fill_done, run_short, run_bad, run_whole, front_long, rules)
