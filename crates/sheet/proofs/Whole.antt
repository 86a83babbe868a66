-- The ways through the whole, under the settings in force.
use Rattle.std.specs.Prelude.{Result, Ok}
use mathlib.Core.Path.{◌≡◌, refl, ap, ap₂, sym, ◌∙◌, subst}
use mathlib.Core.Bool.{Bool, true, false, not}
use mathlib.Core.Option.{Option, none, some}
use mathlib.Core.List.{List, [], ◌++◌, map}
use native.Mathlib.Omega.{arith}
use native.Mathlib.Nat.{zero-add}
use Prim.Native.Nat.{ℕ, zero, suc, ◌+◌, ◌*◌, ◌-◌, ◌/◌, ◌≤◌, ◌<◌}
use lib.Dec.{ltb}
use lib.ListN.{length, get_or, take, drop, replicate, length-replicate, length-map}
use lib.Seq.{sets, sets-eq}
use mir.Syntax.{w8}
use mir.Val.{Fits}
use Rattle.kit.specs.Out.{◌&◌}
use Rattle.kit.proofs.Laws.{tests}
use Rattle.rules.specs.Tools.{when◌then◌else◌}
use Rattle.rules.specs.Versions.{Setting}
use Rattle.rules.specs.Rows.{Row}
use Rattle.rules.specs.Tree.{Scope, form as tree}
use Rattle.rules.specs.Reader.{read}
use Rattle.rules.specs.Rules.{resolve}
use Rattle.rules.specs.Answer.{AnswerOf, refused, accepted, setting_of, same_numbers, rows_in, answer, form_bytes}
use Rattle.rules.specs.Laws.ToolLaws.{false_not}
use Rattle.rules.specs.Laws.RowLaws.{Bytes}
use Rattle.rules.specs.Laws.Results.{ok_same, some_same}
use Rattle.rules.proofs.Laws.InputLaws.{AllUsual}
use Rattle.moving.proofs.Laws.Lists.{same_lists}
use Rattle.binding.specs.Sheet.{Slot, Binding, SheetAnswer, Run, run_of, slots_of, slots, sound_sheet, bindings, failing, answers_bytes, work_size, work_after, answer_for, sheet_answer, answers_after}
use Rattle.binding.specs.Sheet
use Rattle.binding.proofs.Laws.Runs.{Agree}
use Rattle.reading_laws.specs.OnBytes
use Rattle.reading_laws.specs.OnBytes.{AllWithin, body}
use Rattle.resolver.specs.Meaning.{numbers}
use Rattle.resolver.proofs.Bytes.{all_bytes}
use Rattle.slots.specs.Slots.{answer_to, noted, answered}
use Rattle.slots.proofs.Ways.{answers_size}
use Rattle.sheet_laws.specs.Agrees.{slots_agree}
use Rattle.sheet.specs.Meaning.{meaning, ruled}
use Rattle.clearing.specs.Cleared.{cleared}
use Rattle.sheet.specs.Run.{refused_t, is_output}
use Rattle.sheet.proofs.Runs.{agrees}
use Rattle.refusal.specs.declared.Refusal.{Refusal}

-- the size of the working area, for the settings in force
module _ (settings : List Setting) (form : List ℕ) (size : ℕ) (sized : work_size settings form ≡ size) (old new : List ℕ) where
  pub work_is : new ≡ cleared 0 size old → new ≡ work_after settings form old
  unfolding work_after cleared
  work_is e = rw sized e

  -- what is lent of the area is zero, and the rest as it was
  pub area_cleared : new ≡ replicate (length (take size old)) 0 → new ++ drop size old ≡ work_after settings form old
  unfolding work_after
  area_cleared e = rw (sized, e)

slots_count : (count : ℕ) (sheet : List ℕ) → length (slots_of count sheet) ≡ count
unfolding slots_of
slots_count zero sheet = refl
slots_count (suc count) sheet = ap suc (slots_count count (drop 12 sheet))

count_is : (sheet : List ℕ) → length (slots sheet) ≡ length sheet / 12
unfolding slots
count_is sheet = slots_count (length sheet / 12) sheet

-- ---- the slots, answered on a run's bytes

module _ (settings : List Setting) (usual : AllUsual settings) (within : AllWithin settings) (form : List ℕ) (head : ℕ) (heads : (v : Setting) → setting_of settings form ≡ some v → head ≡ v.version.header) where
  slots_of_run : Bytes form → (run : Run) → run_of settings form ≡ some run → (ss : List Slot) → map (answer_to (drop (head - 8) run.bytes)) ss ≡ bindings run.before run.after ss
  unfolding resolve
  slots_of_run bs run e ss = go (answer settings form (length area)) refl (subst (λ (r : Option Run). Agree settings form r (answer settings form (length area))) e (agrees settings usual within form head heads area bs (let l = length-replicate {A = ℕ} (work_size settings form) 0 in omega (arith, l))))
    where
      area : List ℕ
      area = replicate (work_size settings form) 0

      go : (a : AnswerOf (List Row)) → answer settings form (length area) ≡ a → Agree settings form (some run) a → map (answer_to (drop (head - 8) run.bytes)) ss ≡ bindings run.before run.after ss
      go (accepted rs) q M =
          let T = OnBytes.trees settings usual within form area bs rs q in
          let v = T.setting in
          let same : M.setting ≡ v = some_same _ _ (sym M.asked_for ∙ T.asked_for) in
          let bytes_are_lem : body v (form_bytes v rs) ≡ drop (head - 8) run.bytes = ap (λ (n : ℕ). drop (n - 8) (form_bytes v rs)) (sym (heads v T.asked_for)) ∙ ap (drop (head - 8)) (ap (λ (u : Setting). form_bytes u rs) (sym same) ∙ sym M.bytes) in
          let trees : T.before ≡ run.before = (let forms : tree T.before ≡ tree run.before = sym T.reads ∙ (ap (λ (u : Setting). read u.rules u.version.scopes (rows_in u form)) (sym same) ∙ M.reads) in cc) in
          let oks = sym T.resolves ∙ (ap₂ (λ (u : Setting) (s : Scope). resolve u.rules s) (sym same) trees ∙ M.resolves) in
          let afters : T.after ≡ run.after = ap (λ (x : Scope × ℕ). x.0) (ok_same (T.after, T.next) (run.after, M.next) oks) in
          let found = slots_agree (body v (form_bytes v rs)) T.before T.after v.rules (OnBytes.good_after settings usual within form area bs rs q) (OnBytes.rows_of_file settings usual within form area bs rs q)
          (OnBytes.rows_of_file_are settings usual within form area bs rs q) T.keeps T.numbered ss in
          ap (λ (x : List ℕ). map (answer_to x) ss) (sym bytes_are_lem) ∙ (found ∙ ap₂ (λ (b a : Scope). bindings b a ss) trees afters)
      go (refused number place carried) q M = elim M [ ]

-- ---- the answer

no_not : (b : Bool) → not b ≡ false → b ≡ true
no_not true e = refl
no_not false e = sym e

module _ (settings : List Setting) (form : List ℕ) (size : ℕ) (area : work_size settings form ≡ size) (resolved sheet answers : List ℕ) (work : ℕ) where
  abbrev A : SheetAnswer
  A = sheet_answer settings form resolved sheet (length answers) work

  says : (number : ℕ) → A ≡ refused number 0 [] → (r : Result ℕ Refusal) → r ≡ refused_t number → meaning r ≡ ruled A
  says number e r is = rw (is, e)

  leaves : (number : ℕ) → A ≡ refused number 0 [] → answers ≡ answers_after A answers
  unfolding answers_after
  leaves number e = rw e

  -- no sheet
  module _ (b : Bool) (sound : b ≡ sound_sheet sheet) (no : not b ≡ true) where
    unsound : A ≡ refused 15 0 []
    unfolding sheet_answer when◌then◌else◌
    unsound = rw (← sound, no)

    pub unsound_says : (r : Result ℕ Refusal) → r ≡ refused_t 15 → meaning r ≡ ruled A
    unsound_says r is = says 15 unsound r is

    pub unsound_leaves : answers ≡ answers_after A answers
    unsound_leaves = leaves 15 unsound

  module _ (b : Bool) (sound : b ≡ sound_sheet sheet) (so : not b ≡ false) where
    -- the working area is too small
    module _ (h : work < size) where
      small : A ≡ refused 3 0 []
      unfolding sheet_answer when◌then◌else◌
      small = let t : ltb work size ≡ true = omega tests in rw (← sound, so, area, t)

      pub small_says : (r : Result ℕ Refusal) → r ≡ refused_t 3 → meaning r ≡ ruled A
      small_says r is = says 3 small r is

      pub small_leaves : answers ≡ answers_after A answers
      small_leaves = leaves 3 small

    module _ (h : size ≤ work) where
      roomy : A ≡ answer_for (run_of settings form) resolved (slots sheet) (length answers)
      unfolding sheet_answer when◌then◌else◌
      roomy = let t : ltb work size ≡ false = omega tests in rw (← sound, so, area, t)

      -- not the resolved form of an accepted input
      module _ (s : Bool) (same : s ≡ is_output (run_of settings form) resolved) (no : not s ≡ true) where
        other : A ≡ refused 15 0 []
        unfolding answer_for is_output when◌then◌else◌
        other = roomy ∙ go (run_of settings form) (ap not (sym same) ∙ no)
          where
            go : (r : Option Run) → not (is_output r resolved) ≡ true → answer_for r resolved (slots sheet) (length answers) ≡ refused 15 0 []
            go none e = refl
            go (some run) e = rw e

        pub other_says : (r : Result ℕ Refusal) → r ≡ refused_t 15 → meaning r ≡ ruled A
        other_says r is = says 15 other r is

        pub other_leaves : answers ≡ answers_after A answers
        other_leaves = leaves 15 other

      module _ (s : Bool) (same : s ≡ is_output (run_of settings form) resolved) (its : not s ≡ false) where
        record Its : Type 0 where
          run : Run
          runs : run_of settings form ≡ some run
          bytes : resolved ≡ run.bytes
          asked : A ≡ (when ltb (length answers) (8 * (length sheet / 12)) then refused 3 0 [] else accepted (bindings run.before run.after (slots sheet)))

        it : Its
        unfolding answer_for is_output when◌then◌else◌
        it = go (run_of settings form) refl (ap not (sym same) ∙ its)
          where
            go : (r : Option Run) → run_of settings form ≡ r → not (is_output r resolved) ≡ false → Its
            go none q e = false_not (sym e)
            go (some run) q e =
                record {
                  run = run;
                  runs = q;
                  bytes = same_lists resolved run.bytes (no_not (same_numbers resolved run.bytes) e);
                  asked = roomy ∙ rw (q, e, count_is sheet);
                }

        -- no room for the answers
        module _ (all : ℕ) (sized : all ≡ 8 * (length sheet / 12)) (short : length answers < all) where
          no_room : A ≡ refused 3 0 []
          unfolding when◌then◌else◌
          no_room = let t : ltb (length answers) (8 * (length sheet / 12)) ≡ true = omega (tests, sized, short) in it.asked ∙ rw t

          pub no_room_says : (r : Result ℕ Refusal) → r ≡ refused_t 3 → meaning r ≡ ruled A
          no_room_says r is = says 3 no_room r is

          pub no_room_leaves : answers ≡ answers_after A answers
          no_room_leaves = leaves 3 no_room

        -- every slot is answered
        module _ (all : ℕ) (sized : all ≡ 8 * (length sheet / 12)) (room : all ≤ length answers) (usual : AllUsual settings) (within : AllWithin settings) (head : ℕ) (heads : (v : Setting) → setting_of settings form ≡ some v → head ≡ v.version.header)
            (fits : (i : ℕ) → Fits w8 (get_or form i 0)) (n : ℕ) (new : List ℕ) (written : (n & new) ≡ answered (drop (head - 8) resolved) sheet answers) where
          bs : List Binding
          bs = bindings it.run.before it.run.after (slots sheet)

          found : A ≡ accepted bs
          unfolding bs when◌then◌else◌
          found = let t : ltb (length answers) (8 * (length sheet / 12)) ≡ false = omega (tests, sized, room) in it.asked ∙ rw t

          noted_is : (n & new) ≡ noted 0 0 answers bs
          unfolding answered bs
          noted_is = written ∙ ap (noted 0 0 answers) (ap (λ (x : List ℕ). map (answer_to (drop (head - 8) x)) (slots sheet)) it.bytes ∙ slots_of_run settings usual within form head heads (all_bytes form fits) it.run it.runs (slots sheet))

          fitting : length (answers_bytes bs) ≤ length answers
          unfolding bs bindings
          fitting = let sizes = answers_size bs in let count = length-map (slots sheet) (Sheet.binding it.run.before it.run.after) in let c = count_is sheet in omega (arith, sizes, count, c, sized, room)

          pub answered_says : meaning (Ok n) ≡ ruled A
          unfolding noted
          answered_says = let count : n ≡ 0 + failing bs = (let w = noted_is in cc) in ap (numbers 0) (count ∙ zero-add (failing bs)) ∙ ap ruled (sym found)

          pub answered_leaves : new ≡ answers_after A answers
          unfolding noted answers_after
          answered_leaves =
              let held : new ≡ sets answers 0 (answers_bytes bs) = (let w = noted_is in cc) in
              let s = fitting in
              let z : 0 + length (answers_bytes bs) ≡ 8 * length bs = zero-add (length (answers_bytes bs)) ∙ answers_size bs in
              held ∙ (sets-eq (answers_bytes bs) answers 0 (omega (arith, s)) ∙ (ap (λ (k : ℕ). answers_bytes bs ++ drop k answers) z ∙ ap (λ (a : SheetAnswer). answers_after a answers) (sym found)))
