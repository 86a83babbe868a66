-- The number of a reference: the code takes it from the reference's own slots, or finds its name in the scope; the rules find it by the name that step B gave it.
use Rattle.std.specs.Prelude.{◌≡◌, ◌⊎◌, Result, Ok, Err}
use Rattle.std.proofs.Math.Path.{refl, sym}
use Rattle.std.proofs.Common.{◌∙◌, inl, inr, length-append, lt-ltb}
use Rattle.std.proofs.Math.Option.{Option, none, some}
use mathlib.Core.List.{List, [], ◌∷◌, ◌++◌, append_assoc}
use native.Mathlib.Omega.{arith}
use Rattle.std.proofs.Math.Nat.{add-zero}
use Prim.Native.Nat.{ℕ, suc, ◌+◌, ◌-◌, ◌≤◌, ◌<◌}
use Rattle.std.proofs.Math.ListN.{length}
use Rattle.kit.specs.Pick.{pick}
use Rattle.kit.proofs.Laws.{yes!, no!, tests}
use Rattle.rules.specs.Rows.{Index, Num, Id}
use Rattle.rules.specs.Tree.{Declaration, Operand, ref, outer, case, operand_row, operand_rows, path_rows}
use Rattle.rules.specs.Shapes.{declared}
use Rattle.rules.specs.Rules.{table_of, Outside, ok, Env, find, Lookup, found, absent, look_up, fresh, Expanded, as_it_is, through, expand_operand, expand_operands, heads_decls, outer_alias, export_alias, path_aliases}
use Rattle.rules.specs.Laws.Entries.{numbered, OfSpace, look_number, look_space}
use Rattle.rules.specs.Laws.Results.{ok_same, holds_of}
use Rattle.rules.proofs.Laws.Meaning.Runs.{operand_grown}
use Rattle.rows.specs.RowAt.{as_index}
use Rattle.names.specs.Table.{Slot, number_of, past_of, slots_in}
use Rattle.names.specs.Stands.{lookup_of, Opens}
use Rattle.names.proofs.Storey.{look_opens}
use Rattle.write.specs.WriteState.{following_t}
use Rattle.write.specs.Alias.{slot_at}
use Rattle.write.specs.Own.{ahead_t, looked_t, name_number_t, at_number_t, ref_number_t}
use Rattle.agree.specs.Tables.Slots.{inserted_slot, inserted_slots, if_ok, operands_slots}
use Rattle.agree.specs.Tables.SlotLaws.{inserted_length, aliases_length}
use Rattle.agree.specs.Tables.Cursor.{Left, left_next, left_past, Under, Apart, apart_append, operands_apart, find_new, not_inserted, is_inserted_lem}
use Rattle.agree.specs.Refusals.Answers.{index_in}
use Rattle.agree.specs.StepC.ChainAgrees.{new_decl, under_new, path_last, path_more}
use Rattle.agree.specs.StepC.RefAgrees.{refer_to, number_made, name_made, path_made}
use Rattle.agree.specs.StepC.AliasAgrees.{FitOperand, FitOperands, heads_append, operands_made, grown_under}
use Rattle.names.specs.declared.Absent.{Absent}
use Rattle.write.specs.declared.own.Numbered.{Numbered}

-- a number that was found in a space, and the next slot
abbrev pub answered : (space : ℕ) → Option ℕ → (alias : ℕ) → Result Numbered Absent
answered space none alias = Err (record { space = space })
answered space (some n) alias = Ok (record { number = n; alias = alias })

module _ (ds : List Declaration) (names : List Slot) (here : List ℕ) where
  -- step B made `now` of a reference, whose own slots are those between the two lists
  pub record Refers (space : ℕ) (at : Index) (paths : List ℕ) (z row : ℕ) (now : Operand) (slots rest : List Slot) : Type 0 where
    pub index : Index
    pub is : ref space index [] z ≡ now
    pub after : ℕ
    pub numbers : (alias : ℕ) → Left names (past_of here) alias slots
        → Left names (past_of here) (alias + after) rest × (ref_number_t names here alias (refer_to space at paths z row) ≡ answered space (index_in ds space index) (alias + after))

-- the slots of a chain: the last has the number that its fresh name has
module _ (ds : List Declaration) (names : List Slot) (to row space z : ℕ) where
  pub path_number : (ps : List ℕ) (p : ℕ) (at : Index) (k alias : ℕ) (before after : List Declaration) (rest : List Slot) → (0 < length ps → 7 ≤ space)
      → Left names to alias (inserted_slots before row (path_aliases space at p ps z k) ++ rest)
      → ds ≡ before ++ (heads_decls (path_aliases space at p ps z k) ++ after) → Under (fresh k) before
      → (find ds space (fresh (k + length ps)) ≡ some (number_of (slot_at names (alias + length ps)))) × (alias + length ps < to)
  unfolding inserted_slots inserted_slot export_alias declared heads_decls
  path_number [] p at k alias before after rest far st e u =
      let q = left_next names to alias _ _ (rw (path_last space at p z k) at st) in
      let e' = rw (path_last space at p z k) at e in
      let h = q.inside in
      (rw (add-zero k, add-zero alias, q.is, e') (find_new before (new_decl space k z) after u), omega arith)
  path_number (r ∷ ps) p at k alias before after rest far st e u =
      let more = path_more space at p r ps z k (far (omega arith)) in
      let q = left_next names to alias _ _ (rw more at st) in
      let e' : ds ≡ before ++ (new_decl 10 k z ∷ (heads_decls (path_aliases space (Id (fresh k)) r ps z (suc k)) ++ after)) = rw more at e in
      let ih = path_number ps r (Id (fresh k)) (suc k) (alias + 1) (before ++ (new_decl 10 k z ∷ [])) after rest (λ g. far (omega arith)) q.rest (e' ∙ sym (append_assoc before (new_decl 10 k z ∷ []) _)) (under_new 10 k z before u) in
      let a : alias + 1 + length ps ≡ alias + suc (length ps) = omega arith in
      let b : suc k + length ps ≡ k + suc (length ps) = omega arith in
      (rw (← a, ← b) ih.0, omega (arith, ih.1))

ahead_is : (names : List Slot) (k by : ℕ) → k + by < length names → ahead_t names k by ≡ k + by
unfolding ahead_t
ahead_is names k by h = sym (no! _ (omega tests) (no! _ (omega tests) refl))

follows_is : (names : List Slot) (k by : ℕ) → k + by < length names → following_t names (k + by) ≡ k + suc by
unfolding following_t
follows_is names k by h =
    let e : k + by + 1 ≡ k + suc by = omega arith in
    sym (yes! _ (omega tests) (sym e))

module _ (env : Env) (names : List Slot) (here : List ℕ) (opens : Opens names here env) (space z row : ℕ) where
  number_refers : (n : ℕ) (rest : List Slot) → Refers (table_of env) names here space (Num n) [] z row (ref space (Num n) [] z) rest rest
  unfolding ref_number_t at_number_t as_index pick
  number_refers n rest = record { index = Num n; is = refl; after = 0; numbers = λ alias l. (rw (add-zero alias) l, rw (add-zero alias)) }

  looked_is : (l : Lookup) (alias : ℕ) → OfSpace space l → looked_t (lookup_of l) alias ≡ answered space (numbered l) alias
  unfolding looked_t numbered
  looked_is (absent asked) alias same = rw same
  looked_is (found n row) alias same = refl

  -- a name that is looked up in the scope
  name_refers : (name : ℕ) (rest : List Slot) → Apart row rest → Refers (table_of env) names here space (Id name) [] z row (ref space (Id name) [] z) rest rest
  unfolding ref_number_t at_number_t name_number_t as_index pick slots_in
  name_refers name rest a =
      record {
        index = Id name;
        is = refl;
        after = 0;
        numbers = λ alias l. (rw (add-zero alias) l, rw (add-zero alias, not_inserted names here alias row rest l a, look_opens space name names here env opens, ← look_number env.entries space name) (looked_is (look_up env.entries space name) alias (look_space env.entries space name)));
      }

  outer_refers : (name k d n : ℕ) (before after : List Declaration) (rest : List Slot) → table_of env ≡ before ++ (new_decl space k z ∷ after) → Under (fresh k) before
      → Refers (table_of env) names here space (Id name) [] z row (ref space (Id (fresh k)) [] z) (inserted_slots before row (outer_alias space (fresh k) d n z ∷ []) ++ rest) rest
  unfolding ref_number_t at_number_t name_number_t as_index pick inserted_slots inserted_slot outer_alias declared
  outer_refers name k d n before after rest e u =
      record {
        index = Id (fresh k);
        is = refl;
        after = 1;
        numbers = λ alias l.
            let q = left_next names (past_of here) alias _ rest l in
            (q.rest, rw (is_inserted_lem names here alias row _ rest l refl, q.is, q.follows, e, find_new before (new_decl space k z) after u));
      }

  path_refers : (at : Index) (p : ℕ) (ps : List ℕ) (k : ℕ) (before after : List Declaration) (rest : List Slot) → (0 < length ps → 7 ≤ space)
      → table_of env ≡ before ++ (heads_decls (path_aliases space at p ps z k) ++ after) → Under (fresh k) before
      → Refers (table_of env) names here space at (p ∷ ps) z row (ref space (Id (fresh (k + length ps))) [] z) (inserted_slots before row (path_aliases space at p ps z k) ++ rest) rest
  unfolding ref_number_t pick
  path_refers at p ps k before after rest far e u =
      record {
        index = Id (fresh (k + length ps));
        is = refl;
        after = suc (length ps);
        numbers = λ alias l.
            let c = path_number (table_of env) names (past_of here) row space z ps p at k alias before after rest far l e u in
            let inside = c.1 in
            let room = l.room in
            let m : suc (length ps) - 1 ≡ length ps = omega arith in (
              rw (inserted_length before row (path_aliases space at p ps z k), aliases_length space at p ps z k) at (left_past names (past_of here) alias (inserted_slots before row (path_aliases space at p ps z k)) rest l),
              rw (lt-ltb 0 (suc (length ps)) (omega arith), m, ahead_is names alias (length ps) (omega arith), follows_is names alias (length ps) (omega arith), c.0),
            );
      }

  -- what step B makes of a reference has the number that the code finds
  pub ref_refers : (here₀ : List Declaration) (outside : Outside) (at : Index) (paths : List ℕ) (k : ℕ) (before after : List Declaration) (rest : List Slot) (e : Expanded Operand)
      → (1 < length paths → 7 ≤ space) → expand_operand here₀ outside k (ref space at paths z) ≡ ok e → Apart row rest → table_of env ≡ before ++ (heads_decls e.inserted ++ after) → Under (fresh k) before
      → Refers (table_of env) names here space at paths z row e.now (inserted_slots before row e.inserted ++ rest) rest
  unfolding as_it_is through inserted_slots
  ref_refers here₀ outside (Num n) [] k before after rest e far q a ds u = rw (← number_made here₀ outside space z k e n q) (number_refers n rest)
  ref_refers here₀ outside (Id name) [] k before after rest e far q a ds u = go (name_made here₀ outside space z k e name q)
    where
      go : ((as_it_is (ref space (Id name) [] z) k ≡ e) ⊎ ((at : ℕ × ℕ) × (through space z k (outer_alias space (fresh k) at.0 at.1 z ∷ []) ≡ e)))
          → Refers (table_of env) names here space (Id name) [] z row e.now (inserted_slots before row e.inserted ++ rest) rest
      go (inl m) = unfold as_it_is inserted_slots in rw (← m) (name_refers name rest a)
      go (inr m) = unfold through heads_decls outer_alias in rw (← m.1) (outer_refers name k m.0.0 m.0.1 before after rest (rw (← m.1) at ds) u)
  ref_refers here₀ outside at (p ∷ ps) k before after rest e far q a ds u =
      let m = path_made here₀ outside space z k e at p ps q in
      rw (← m) (path_refers at p ps k before after rest (λ h. far (omega arith)) (rw (← m) at ds) u)

-- ---- all operands of a field

module _ (ds : List Declaration) (names : List Slot) (here : List ℕ) where
  abbrev pub Goes : (row : ℕ) → Operand → (now : Operand) (slots rest : List Slot) → Type 0
  Goes row (ref space at paths z) now slots rest = Refers ds names here space at paths z row now slots rest
  Goes row (outer space up at z) now slots rest = (now ≡ outer space up at z) × (slots ≡ rest)
  Goes row (case name z) now slots rest = (now ≡ case name z) × (slots ≡ rest)

  -- step B made `now` of the operands, the first at that row, with the slots from there on
  pub data AllGo : (row : ℕ) → List Operand → (now : List Operand) (slots : List Slot) → Type 0 where
    done : {row : ℕ} {slots : List Slot} → AllGo row [] [] slots
    goes : {row : ℕ} {o now : Operand} {os nows : List Operand} {slots rest : List Slot} → Goes row o now slots rest → AllGo (row + length (operand_row o)) os nows rest → AllGo row (o ∷ os) (now ∷ nows) slots

abbrev pub NoPaths : List Operand → Type 0
NoPaths [] = Unit {0}
NoPaths (ref space at paths z ∷ os) = (paths ≡ []) × NoPaths os
NoPaths (outer space up at z ∷ os) = NoPaths os
NoPaths (case name z ∷ os) = NoPaths os

row_some : (o : Operand) (os : List Operand) → (0 < length (operand_row o)) × (length (operand_rows (o ∷ os)) ≡ length (operand_row o) + length (operand_rows os))
unfolding operand_row operand_rows
row_some (ref space at paths z) os = (omega arith, omega (arith, length-append (path_rows paths) (operand_rows os)))
row_some (outer space up at z) os = (omega arith, omega arith)
row_some (case name z) os = (omega arith, omega arith)

module _ (env : Env) (names : List Slot) (here : List ℕ) (opens : Opens names here env) where
  -- a reference that is looked up in its own scope only
  here_refers : (space : ℕ) (at : Index) (z row : ℕ) (rest : List Slot) → Apart row rest → Refers (table_of env) names here space at [] z row (ref space at [] z) rest rest
  here_refers space (Num n) z row rest a = number_refers env names here opens space z row n rest
  here_refers space (Id name) z row rest a = name_refers env names here opens space z row name rest a

  pub here_go : (os : List Operand) (row : ℕ) (rest : List Slot) → NoPaths os → ((r : ℕ) → row ≤ r → r < row + length (operand_rows os) → Apart r rest) → AllGo (table_of env) names here row os os rest
  here_go [] row rest n a = done
  here_go (ref space at paths z ∷ os) row rest n a =
      let c = row_some (ref space at paths z) os in
      let g : Goes (table_of env) names here row (ref space at paths z) (ref space at paths z) rest rest = rw n.0 (here_refers space at z row rest (a row (omega arith) (omega (arith, c.0, c.1)))) in
      goes g
      (here_go os (row + length (operand_row (ref space at paths z))) rest n.1 (λ r l g. a r (omega arith) (omega (arith, c.1))))
  here_go (outer space up at z ∷ os) row rest n a =
      let c = row_some (outer space up at z) os in
      let g : Goes (table_of env) names here row (outer space up at z) (outer space up at z) rest rest = (refl, refl) in
      goes g (here_go os (row + length (operand_row (outer space up at z))) rest n (λ r l g. a r (omega arith) (omega (arith, c.1))))
  here_go (case name z ∷ os) row rest n a =
      let c = row_some (case name z) os in
      let g : Goes (table_of env) names here row (case name z) (case name z) rest rest = (refl, refl) in
      goes g (here_go os (row + length (operand_row (case name z))) rest n (λ r l g. a r (omega arith) (omega (arith, c.1))))

  operand_goes : (here₀ : List Declaration) (outside : Outside) (o : Operand) (k row : ℕ) (before after : List Declaration) (rest : List Slot) (e : Expanded Operand)
      → FitOperand o → expand_operand here₀ outside k o ≡ ok e → Apart row rest → table_of env ≡ before ++ (heads_decls e.inserted ++ after) → Under (fresh k) before
      → Goes (table_of env) names here row o e.now (inserted_slots before row e.inserted ++ rest) rest
  unfolding expand_operand as_it_is inserted_slots
  operand_goes here₀ outside (ref space at paths z) k row before after rest e f q a ds u = ref_refers env names here opens space z row here₀ outside at paths k before after rest e f.1 q a ds u
  operand_goes here₀ outside (outer space up at z) k row before after rest e f q a ds u = rw (← ok_same _ e q) (refl, refl)
  operand_goes here₀ outside (case name z) k row before after rest e f q a ds u = rw (← ok_same _ e q) (refl, refl)

  pub expand_go : (here₀ : List Declaration) (outside : Outside) (os : List Operand) (k row : ℕ) (before after : List Declaration) (rest : List Slot) (E : Expanded (List Operand))
      → FitOperands os → expand_operands here₀ outside k os ≡ ok E → ((r : ℕ) → row ≤ r → r < row + length (operand_rows os) → Apart r rest)
      → table_of env ≡ before ++ (heads_decls E.inserted ++ after) → Under (fresh k) before
      → AllGo (table_of env) names here row os E.now (operands_slots here₀ outside before k row os ++ rest)
  unfolding expand_operands operands_slots as_it_is if_ok
  expand_go here₀ outside [] k row before after rest E f q a ds u = rw (← ok_same _ E q) done
  expand_go here₀ outside (o ∷ os) k row before after rest E f q a ds u =
      let c = operands_made here₀ outside k o os E q in
      let e = c.0 in
      let es = c.1 in
      let l = row_some o os in
      let some-row = l.0 in
      let g = holds_of _ _ e (operand_grown here₀ outside k o) c.2 in
      let later = operands_slots here₀ outside (before ++ heads_decls e.inserted) e.k (row + length (operand_row o)) os in
      let ds' : table_of env ≡ before ++ (heads_decls e.inserted ++ (heads_decls es.inserted ++ after)) = rw (← c.4, heads_append e.inserted es.inserted, append_assoc) at ds in
      rw (← c.4, c.2, append_assoc (inserted_slots before row e.inserted) later rest)
      (goes
      (operand_goes here₀ outside o k row before (heads_decls es.inserted ++ after) (later ++ rest) e f.0 c.2
      (apart_append row later rest (operands_apart here₀ outside row (before ++ heads_decls e.inserted) e.k (row + length (operand_row o)) os (omega arith)) (a row (omega arith) (omega (arith, l.1)))) ds' u)
      (expand_go here₀ outside os e.k (row + length (operand_row o)) (before ++ heads_decls e.inserted) after rest es f.1 c.3 (λ r h h'. a r (omega arith) (omega (arith, l.1)))
      (ds' ∙ sym (append_assoc before (heads_decls e.inserted) _)) (grown_under k e.k before e.inserted g.0 g.1 u)))
