-- Step B's tables: one slot more, for a DECL or for something inserted, and what a step comes to.
use Rattle.std.specs.Prelude.{◌≡◌, Bool, true, false, ℕ, suc, ◌+◌, ◌%◌, ◌≤◌, ◌<◌, eqb, length, get_or, take, Ok, Err}
use Rattle.std.proofs.Math.Path.{refl, sym, ap}
use Rattle.std.proofs.Common.{◌∙◌, get_or-set_same, get_or-set_other}
use mathlib.Core.List.{List, [], ◌∷◌, ◌++◌}
use native.Mathlib.Omega.{arith}
use Rattle.std.proofs.Math.ListN.{set, length-set}
use Rattle.std.proofs.Math.Seq.{take-set-le}
use Rattle.kit.specs.Pick.{pick}
use Rattle.kit.specs.Out.{Out, ◌&◌}
use Rattle.kit.proofs.Laws.{no!, tests}
use Rattle.rules.specs.Tree.{Declaration}
use Rattle.rules.specs.Rules.{Result, refused, ok, ◌>>=◌}
use Rattle.rules.specs.Laws.ToolLaws.{eqb-true, eqb_same, false_not, length_snoc}
use Rattle.refusal.specs.declared.Refusal.{Refusal as Said}
use Rattle.refusal.specs.declared.Told.{Told}
use Rattle.names.specs.Table.{Slot, slot_of, alias_slot, between}
use Rattle.names.specs.Stands.{count, Stands}
use Rattle.names.proofs.Storey.{count_same, count_other, stands_length, stands_append, pushed_room, between_push}
use Rattle.plan.specs.Insertions.{Tables, Step, bump_t, with_counts_t, declare_with, declare_t, plan_done_t, step_then, stops}
use Rattle.plan.specs.declared.insertions.PlanState.{PlanState}
use Rattle.agree.specs.Refusals.Carried.{said_of, told_of}
use Rattle.agree.specs.Tables.Sizes.{most}

-- one more at the most
count_turn : (t : Bool) (a n : ℕ) → a ≤ n → pick t (suc a) a ≤ suc n
unfolding pick
count_turn true a n h = omega arith
count_turn false a n h = omega arith

-- no more of a space than of all
pub count_le : (space : ℕ) (ds : List Declaration) → count space ds ≤ length ds
unfolding count
count_le space [] = omega arith
count_le space (d ∷ ds) = count_turn (eqb d.space space) (count space ds) (length ds) (count_le space ds)

-- a test that fails says so
not_same : (a b : ℕ) → eqb a b ≡ false → b ≡ a → ⊥
not_same a b f e = let t : eqb a b ≡ true = rw e (eqb_same a) in false_not (sym f ∙ t)

module _ (room first : ℕ) (names₀ : List Slot) where
  -- the tables where `before` are the declarations so far, and `slots` those of this scope; below `first` they are as they were
  pub record Tab (before : List Declaration) (slots : List Slot) (used : ℕ) (names : List Slot) (counts : List ℕ) : Type 0 where
    pub size : length names ≡ room
    pub kept : take first names ≡ take first names₀
    pub next : used ≡ first + length slots
    pub holds : between first used names ≡ slots
    pub stands : Stands [] slots before
    pub width : length counts ≡ 13
    pub counted : (s : ℕ) → s < 13 → get_or counts s 0 ≡ count s before

  -- ---- one slot more

  pub record Declared (before : List Declaration) (slots : List Slot) (o : Out ℕ Tables) : Type 0 where
    pub used : ℕ
    pub names : List Slot
    pub counts : List ℕ
    pub answer : o ≡ (used & names & counts)
    pub tab : Tab before slots used names counts

  module _ (before : List Declaration) (slots : List Slot) (used : ℕ) (names : List Slot) (counts : List ℕ) (tab : Tab before slots used names counts) where
    module _ (d : Declaration) (legal : d.space < 13) where
      -- the next number of a space
      bump_is : length before < most → bump_t counts d.space ≡ (count d.space before & set counts d.space (count d.space before + 1))
      unfolding bump_t
      bump_is h =
          let w = tab.width in
          let c = tab.counted d.space legal in
          let l = count_le d.space before in
          let e : (count d.space before + 1) % 4294967296 ≡ count d.space before + 1 = omega arith in
          sym (no! _ (omega tests) (sym (rw (c, e))))

      -- the counts, one declaration on
      counted_next : (s : ℕ) → s < 13 → get_or (set counts d.space (count d.space before + 1)) s 0 ≡ count s (before ++ (d ∷ []))
      counted_next s h = go (eqb d.space s) refl
        where
          go : (t : Bool) → eqb d.space s ≡ t → get_or (set counts d.space (count d.space before + 1)) s 0 ≡ count s (before ++ (d ∷ []))
          go true e =
              let q = eqb-true d.space s e in
              let w = tab.width in
              rw (← q) (get_or-set_same counts d.space _ 0 (omega arith) ∙ sym (count_same d.space before d (eqb_same d.space) ∙ (omega arith)))
          go false e = get_or-set_other counts d.space s _ 0 (not_same d.space s e) ∙ tab.counted s h ∙ sym (count_other s before d e)

      -- a declaration entered
      pub declare_is : (row out index : ℕ) → used < room → room ≤ most → Declared (before ++ (d ∷ [])) (slots ++ (slot_of d.space d.name (count d.space before) row out index ∷ [])) (declare_t names counts used (alias_slot d.space d.name row out index))
      unfolding declare_t declare_with with_counts_t Stands
      declare_is row out index h r =
          let slot : Slot = slot_of d.space d.name (count d.space before) row out index in
          let s = tab.size in
          let n = tab.next in
          let l = stands_length [] slots before tab.stands in
          record {
            used = used + 1;
            names = set names used slot;
            counts = set counts d.space (count d.space before + 1);
            answer = rw (bump_is (omega arith), pushed_room names used slot (omega arith)) refl;
            tab =
                record {
                  size = length-set names used slot ∙ s;
                  kept = take-set-le first names used slot (omega arith) ∙ tab.kept;
                  next = omega (arith, length_snoc slots slot);
                  holds = between_push names used slot first (omega arith) (omega arith) ∙ ap (λ l. l ++ (slot ∷ [])) tab.holds;
                  stands = stands_append [] slots (slot ∷ []) before (d ∷ []) tab.stands (record { space = refl; name = refl; number = refl }, tt);
                  width = length-set counts d.space _ ∙ tab.width;
                  counted = counted_next;
                };
          }

  -- ---- steps

  module _ (entered depth far : ℕ) (early : Bool) where
    -- what is carried along, at a field's row
    abbrev pub plan_of : (at used k : ℕ) → PlanState
    plan_of at used k =
        record { at = at; entered = entered; depth = depth; used = used; fresh = 2147483648 + k; first = first; before = far; early = early }

    pub record Went (before : List Declaration) (slots : List Slot) (k at : ℕ) (o : Step) : Type 0 where
      pub used : ℕ
      pub names : List Slot
      pub counts : List ℕ
      pub answer : o ≡ (Ok (plan_of at used k) & names & counts)
      pub tab : Tab before slots used names counts

    pub record Inserted (before : List Declaration) (slots : List Slot) (k at : ℕ) (o : Out PlanState Tables) : Type 0 where
      pub used : ℕ
      pub names : List Slot
      pub counts : List ℕ
      pub answer : o ≡ (plan_of at used k & names & counts)
      pub tab : Tab before slots used names counts

    pub record Stopped (n : Said) (z : Told) (o : Step) : Type 0 where
      pub names : List Slot
      pub counts : List ℕ
      pub answer : o ≡ (Err (record { refusal = n; told = z }) & names & counts)
      pub size : length names ≡ room
      pub kept : take first names ≡ take first names₀

    -- what a step comes to, where the rules say this: the declarations, the slots and the next number
    abbrev pub StepIs : {A : Type 0} → (A → List Declaration) → (A → List Slot) → (A → ℕ) → (at : ℕ) → Result A → Step → Type 0
    StepIs D S K at (refused n z) o = Stopped (said_of n z) (told_of n) o
    StepIs D S K at (ok a) o = Went (D a) (S a) (K a) at o

    -- what was inserted: the step is done
    pub done_went : (before : List Declaration) (slots : List Slot) (k at : ℕ) (o : Out PlanState Tables) → Inserted before slots k at o → Went before slots k at (plan_done_t o)
    unfolding plan_done_t
    done_went before slots k at o i = record { used = i.used; names = i.names; counts = i.counts; answer = rw i.answer; tab = i.tab }

    -- two steps
    pub step_then_lem : {A B : Type 0} (D : A → List Declaration) (S : A → List Slot) (K : A → ℕ) (at : ℕ) (D' : B → List Declaration) (S' : B → List Slot) (K' : B → ℕ) (at' : ℕ) (m : Result A) (f : A → Result B) (o : Step) (g : List Slot → List ℕ → PlanState → Step) → StepIs D S K at m o → ((a : A) → m ≡ ok a → (used : ℕ) (names : List Slot) (counts : List ℕ) → Tab (D a) (S a) used names counts → StepIs D' S' K' at' (f a) (g names counts (plan_of at used (K a)))) → StepIs D' S' K' at' (m >>= f) (step_then o g stops)
    unfolding ◌>>=◌ step_then
    step_then_lem D S K at D' S' K' at' (refused n z) f o g s h = record { names = s.names; counts = s.counts; answer = rw s.answer; size = s.size; kept = s.kept }
    step_then_lem D S K at D' S' K' at' (ok a) f o g s h = rw s.answer (h a refl s.used s.names s.counts s.tab)

    -- a step, and more that the rules do not refuse
    pub step_on : {A : Type 0} (D : A → List Declaration) (S : A → List Slot) (K : A → ℕ) (at : ℕ) (D' : A → List Declaration) (S' : A → List Slot) (at' : ℕ) (m : Result A) (o : Step) (g : List Slot → List ℕ → PlanState → Step) → StepIs D S K at m o → ((a : A) → m ≡ ok a → (used : ℕ) (names : List Slot) (counts : List ℕ) → Tab (D a) (S a) used names counts → Went (D' a) (S' a) (K a) at' (g names counts (plan_of at used (K a)))) → StepIs D' S' K at' m (step_then o g stops)
    unfolding step_then
    step_on D S K at D' S' at' (refused n z) o g s h = record { names = s.names; counts = s.counts; answer = rw s.answer; size = s.size; kept = s.kept }
    step_on D S K at D' S' at' (ok a) o g s h = rw s.answer (h a refl s.used s.names s.counts s.tab)

    -- the same, otherwise said
    pub step_map : {A B : Type 0} (D : A → List Declaration) (S : A → List Slot) (K : A → ℕ) (D' : B → List Declaration) (S' : B → List Slot) (K' : B → ℕ) (at : ℕ) (m : Result A) (g : A → B) (o : Step) → ((a : A) → D' (g a) ≡ D a) → ((a : A) → S' (g a) ≡ S a) → ((a : A) → K' (g a) ≡ K a) → StepIs D S K at m o → StepIs D' S' K' at (m >>= λ a. ok (g a)) o
    unfolding ◌>>=◌
    step_map D S K D' S' K' at (refused n z) g o d s k w = w
    step_map D S K D' S' K' at (ok a) g o d s k w = rw (d a, s a, k a) w
