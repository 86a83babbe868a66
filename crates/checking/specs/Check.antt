-- Checking a claimed output of an input: what the checker must answer (request R-4, whose clauses are quoted; 01 is document 01).
-- A claim's added fields are those that `Readings` calls inserted: with a DECL name from 2147483648 up.
use Rattle.std.specs.Prelude.{Bool, true, false, ◌&&◌, List, [], ◌∷◌, ◌++◌, map, ℕ, suc, ◌+◌, eqb, leb, length}
use Rattle.std.proofs.Math.Option.{Option, none, some}
use Rattle.rules.specs.Tools.{when◌then◌else◌, only, ◌then◌, is_just, is_in, ◌or_else◌}
use Rattle.rules.specs.Versions.{RuleSet, Setting, as_claimed}
use Rattle.rules.specs.Rows.{Index, Num, Id, Raw, raw, Row, Open, Close, encode}
use Rattle.rules.specs.Tree.{Declaration, Operand, ref, outer, case, Head, Scope, scope, Fields, end, ◌▸◌, Item, plain, holds, head_of, head_rows, item_rows, flatten}
use Rattle.rules.specs.Rules.{number_of, carried_by, Result, ok, Env, find, declarations, walk, stand_in, number_in, resolve_outer, resolve}
use Rattle.rules.specs.Answer.{AnswerOf, accepted, setting_of}
use Rattle.read_form.specs.ReadForm.{read_form}
use Rattle.rules.specs.Readings.{is_inserted, level, fields_of, Spot, original, inserted, counted}

-- "say yes exactly if .."; "a no comes with the first condition broken and the first claimed row that breaks it";
-- "an input that 01 refuses is answered with that refusal"
pub data Verdict : Type 0 where
  refused : (number place : ℕ) (carried : List ℕ) → Verdict
  no : (condition row : ℕ) → Verdict
  yes : Verdict

-- ---- condition 2: "no PATH row, the same root OPEN, and scope by scope its fields without a DECL of such a name are the input's in order,
-- equal but for PATH rows and e, x, y of REF and OUTER"

-- is it a PATH row?
unfoldable pub is_path : Raw → Bool
is_path (raw code b e x y z) = eqb code 4

-- the parts of a row, without e, x and y of REF and OUTER
unfoldable pub kept : Raw → Raw
kept (raw code b e x y z) = when is_in code (3 ∷ 5 ∷ []) then raw code b 0 0 0 z else raw code b e x y z

-- are all parts of two rows equal?
unfoldable pub same_parts : (r r' : Raw) → Bool
same_parts (raw code b e x y z) (raw code' b' e' x' y' z') =
    eqb code code' && (eqb b b' && (eqb e e' && (eqb x x' && (eqb y y' && eqb z z'))))

-- these rows without the PATH rows
unfoldable pub without_paths : List Row → List Row
without_paths [] = []
without_paths (r ∷ rs) = when is_path (encode r) then without_paths rs else r ∷ without_paths rs

-- a claimed row: of a field of the input, or of an added one
pub data Claimed : Type 0 where
  own : Row → Claimed
  added : Row → Claimed

-- the rows of a claim; all rows of an added field are added, those of a scope that it holds too
unfoldable mutual
  -- of a scope: its OPEN and its CLOSE are the input's
  pub scope_claimed : Scope → List Claimed
  scope_claimed (scope kind name fs) = own (Open kind name) ∷ (fields_claimed fs ++ (own Close ∷ []))

  -- of fields, in order
  pub fields_claimed : Fields → List Claimed
  fields_claimed end = []
  fields_claimed (i ▸ fs) = (when is_inserted (head_of i) then map added (item_rows i) else item_claimed i) ++ fields_claimed fs

  -- of a field that is not added
  pub item_claimed : Item → List Claimed
  item_claimed (plain h) = map own (head_rows h)
  item_claimed (holds h s) = map own (head_rows h) ++ scope_claimed s

-- The first claimed row that is a PATH or is not the input's next: `n` is the number of the first of these.
unfoldable pub differs : (n : ℕ) → List Claimed → List Row → Option ℕ
differs n [] [] = none
differs n [] (r ∷ rs) = some n
differs n (added c ∷ cs) rs = when is_path (encode c) then some n else differs (suc n) cs rs
differs n (own c ∷ cs) [] = some n
differs n (own c ∷ cs) (r ∷ rs) =
    when is_path (encode c) then some n
    else when same_parts (kept (encode c)) (kept (encode r)) then differs (suc n) cs rs
    else some n

-- the first claimed row that breaks condition 2
unfoldable pub condition2 : (input claim : Scope) → Option ℕ
condition2 input claim = differs 0 (scope_claimed claim) (without_paths (flatten input))

-- ---- condition 3: "every other field is an alias (codes 9 to 11), its name new in that scope and space, its operands numbers"

-- is it a number, and not a name?
unfoldable pub is_number : Index → Bool
is_number (Num n) = true
is_number (Id name) = false

-- are all numbers or names of an operand numbers?
unfoldable pub has_numbers : Operand → Bool
has_numbers (ref space at paths z) = is_number at
has_numbers (outer space up at z) = is_number up && is_number at
has_numbers (case name z) = true

-- the row of the first DECL whose name is not new; `n` is the row of the first of these, `before` are the scope's DECLs before them
unfoldable pub not_new : (n : ℕ) (before ds : List Declaration) → Option ℕ
not_new n before [] = none
not_new n before (d ∷ ds) =
    when is_just (find before d.space d.name) then some n else not_new (suc n) (before ++ (d ∷ [])) ds

-- the row of the first operand that has a name; `n` is the row of the first of these
unfoldable pub not_number : (n : ℕ) → List Operand → Option ℕ
not_number n [] = none
not_number n (o ∷ os) = when has_numbers o then not_number (suc n) os else some n

-- the first row of an added field that breaks condition 3; its FIELD is row n
unfoldable pub no_alias : (n : ℕ) (before : List Declaration) → Head → Option ℕ
no_alias n before h =
    when is_in h.code (9 ∷ 10 ∷ 11 ∷ []) then not_new (suc n) before h.decls or_else not_number (suc n + length h.decls) h.operands
    else some n

-- the first row of an added field that breaks condition 3
unfoldable mutual
  -- of a scope, whose OPEN is row n
  pub scope_added : (n : ℕ) → Scope → Option ℕ
  scope_added n (scope kind name fs) = fields_added (suc n) [] fs

  -- of fields, the first of which begins at row n; `before` are the scope's DECLs before these
  pub fields_added : (n : ℕ) (before : List Declaration) → Fields → Option ℕ
  fields_added n before end = none
  fields_added n before (i ▸ fs) =
      (when is_inserted (head_of i) then no_alias n before (head_of i) else none)
      or_else (item_added (n + length (head_rows (head_of i))) i
      or_else fields_added (n + length (item_rows i)) (before ++ (head_of i).decls) fs)

  -- of the scope that a field holds, whose OPEN is row n
  pub item_added : (n : ℕ) → Item → Option ℕ
  item_added n (plain h) = none
  item_added n (holds h s) = scope_added n s

-- the first claimed row that breaks condition 3
unfoldable pub condition3 : (claim : Scope) → Option ℕ
condition3 claim = scope_added 0 claim

-- ---- condition 4: "every operand of an input field is a number, namely .."
-- Conditions 2 and 3 have passed: without added fields the fields and operands of the claim (`now`) and of the input (`was`) go together.
-- A name is looked up as in step C, but among the claim's declarations: the input's are there, and added ones have other names.

-- the number of a REF, if it is one
unfoldable pub ref_number : Operand → Option ℕ
ref_number (ref space (Num n) paths z) = some n
ref_number (ref space (Id name) paths z) = none
ref_number (outer space up at z) = none
ref_number (case name z) = none

-- the two numbers of an OUTER, if both are numbers
unfoldable pub outer_numbers : Operand → Option (ℕ × ℕ)
outer_numbers (ref space at paths z) = none
outer_numbers (outer space (Num d) (Num n) z) = some (d, n)
outer_numbers (outer space (Num d) (Id name) z) = none
outer_numbers (outer space (Id name) at z) = none
outer_numbers (case name z) = none

-- the first of these operands
unfoldable pub first : List Operand → Option Operand
first [] = none
first (o ∷ os) = some o

-- what 01 finds, if it does not refuse
unfoldable pub found : {A : Type 0} → Result A → Option A
found (Result.refused why place) = none
found (ok a) = some a

-- both numbers there, and equal
unfoldable pub same : Option ℕ → Option ℕ → Bool
same none b = false
same (some m) none = false
same (some m) (some n) = eqb m n

-- both pairs there, and equal
unfoldable pub same_pair : Option (ℕ × ℕ) → Option (ℕ × ℕ) → Bool
same_pair none b = false
same_pair (some m) none = false
same_pair (some m) (some n) = eqb m.0 n.0 && eqb m.1 n.1

-- the field of a spot, if it is an added one
unfoldable pub if_added : Spot → Option Head
if_added (original field at) = none
if_added (inserted h) = some h

-- the added field that a number of a space reaches in its scope
unfoldable pub reached : Fields → (space n : ℕ) → Option Head
reached fs space n = counted (level [] fs) space n then if_added

-- "one added outer alias": its count and index
unfoldable pub through_outer : Fields → (space n : ℕ) → Option (ℕ × ℕ)
through_outer fs space n =
    reached fs space n then λ h. only (eqb h.code 11) h then λ h. first h.operands then outer_numbers

-- an added alias of this export, with 01's code for the space: the number of its instance
unfoldable pub through_export : Fields → (space name n : ℕ) → Option ℕ
through_export fs space name n =
    reached fs space n then λ h. only (eqb h.code (when leb space 6 then 10 else 9) && same h.export (some name)) h then λ h.
    first h.operands then ref_number

-- "exactly as many added aliases, with those export numbers and 01's spaces": the number of the first one's instance
unfoldable pub through_paths : Fields → (space p : ℕ) (ps : List ℕ) (n : ℕ) → Option ℕ
through_paths fs space p [] n = through_export fs space p n
through_paths fs space p (q ∷ ps) n = through_paths fs space q ps n then λ m. through_export fs 10 p m

-- 01's space of the instance that a path starts from
unfoldable pub instance_space : ℕ → ℕ
instance_space space = when leb space 6 then 6 else 10

-- A scope as step C sees it, by its name and its declarations alone: rows play no part here, and neither does which field is the earlier
-- one, since an input whose names come late is refused.
unfoldable pub plainly : (name : ℕ) → List Declaration → Env
plainly name ds = record { name = name; entries = stand_in 0 ds; before = [] }

-- a claimed scope, as step C sees it
unfoldable pub table : Scope → Env
table (scope kind name fs) = plainly name (declarations fs)

-- An operand of an input field, and the claimed one: `here` is the claimed scope, `outside` are those around it.
module _ (here : Scope) (outside : List Env) where
  -- "for a name found here, that declaration's number; for a name found further out, a number that reaches one added outer alias whose
  -- count and index give that declaration": `o` is what is found here
  unfoldable pub name_right : (o : Option ℕ) (space name n : ℕ) → Bool
  name_right (some m) space name n = eqb n m
  name_right none space name n = same_pair (through_outer (fields_of here) space n) (walk outside 1 space name)

  -- is `n` the right number for this reference of the input?
  unfoldable pub ref_right : (space : ℕ) (at : Index) (paths : List ℕ) (z n : ℕ) → Bool
  -- "the written digits for a written number"
  ref_right space (Num m) [] z n = eqb n m
  ref_right space (Id name) [] z n = name_right (find (declarations (fields_of here)) space name) space name n
  -- "for a reference with PATHs .. the first operand as 01 resolves it"
  ref_right space at (p ∷ ps) z n =
      same (through_paths (fields_of here) space p ps n) (found (number_in (table here).entries (instance_space space) at z))

  -- the same where the claim has a number or none
  unfoldable pub ref_now_right : (space : ℕ) (at : Index) (paths : List ℕ) (z : ℕ) → Option ℕ → Bool
  ref_now_right space at paths z none = false
  ref_now_right space at paths z (some n) = ref_right space at paths z n

  -- is the claimed operand `now` right for the operand `was` of the input?
  unfoldable pub operand_right : (was now : Operand) → Bool
  operand_right (ref space at paths z) now = ref_now_right space at paths z (ref_number now)
  -- "for a named OUTER, the numbers that denote what 01 says"; one of two numbers stays as written
  operand_right (outer space up at z) now = same_pair (outer_numbers now) (found (resolve_outer false (table here ∷ outside) 0 space up at z) then outer_numbers)
  operand_right (case name z) now = true

  -- the first claimed operand that is not right; the first is row n
  unfoldable pub not_right : (n : ℕ) (now was : List Operand) → Option ℕ
  not_right n [] was = none
  not_right n (o ∷ now) [] = none
  not_right n (o ∷ now) (w ∷ was) = when operand_right w o then not_right (suc n) now was else some n

  -- the first claimed operand of a field that is not right; its FIELD is row n
  unfoldable pub head_operands : (n : ℕ) (now was : Head) → Option ℕ
  head_operands n now was = not_right (suc n + length now.decls) now.operands was.operands

-- the first row of an operand that breaks condition 4
unfoldable mutual
  -- of a scope, whose OPEN is row n
  pub scope_operands : (n : ℕ) (now : Scope) (outside : List Env) (was : Scope) → Option ℕ
  scope_operands n (scope kind name fs) outside was = fields_operands (suc n) fs (scope kind name fs) outside (fields_of was)

  -- of fields, the first of which begins at row n; added ones are passed over
  pub fields_operands : (n : ℕ) (now : Fields) (here : Scope) (outside : List Env) (was : Fields) → Option ℕ
  fields_operands n end here outside was = none
  fields_operands n (i ▸ now) here outside end = none
  fields_operands n (i ▸ now) here outside (w ▸ was) =
      when is_inserted (head_of i) then fields_operands (n + length (item_rows i)) now here outside (w ▸ was)
      else (item_operands n i here outside w or_else fields_operands (n + length (item_rows i)) now here outside was)

  -- of a field and of the scope that it holds; its FIELD is row n
  pub item_operands : (n : ℕ) (now : Item) (here : Scope) (outside : List Env) (was : Item) → Option ℕ
  item_operands n (plain h) here outside was = head_operands here outside n h (head_of was)
  item_operands n (holds h s) here outside (plain w) = head_operands here outside n h w
  item_operands n (holds h s) here outside (holds w t) =
      head_operands here outside n h w or_else scope_operands (n + length (head_rows h)) s (table here ∷ outside) t

-- the first claimed row that breaks condition 4
unfoldable pub condition4 : (input claim : Scope) → Option ℕ
condition4 input claim = scope_operands 0 claim [] input

-- ---- the verdict

-- a no where the condition is broken at a row, else the verdict `v`
unfoldable pub unless : (condition : ℕ) → Option ℕ → Verdict → Verdict
unless condition none v = v
unless condition (some row) v = no condition row

-- conditions 2 to 4, "tried in this order"
unfoldable pub conditions : (input claim : Scope) → Verdict
conditions input claim = unless 2 (condition2 input claim) (unless 3 (condition3 claim) (unless 4 (condition4 input claim) yes))

-- condition 1, of an input that 01 accepts: "01's refusals 1, 2, 4 and 5 don't strike the claim, with names from 2147483648 up and 4,092 rows
-- allowed"; the row is the refusal's place, "0 for the header, the row count where a row is missing"
unfoldable pub of_claim : (input : Scope) → AnswerOf Scope → Verdict
of_claim input (AnswerOf.refused number place carried) = no 1 place
of_claim input (accepted claim) = conditions input claim

-- the steps' refusal of the input, or the verdict on the claim
unfoldable pub of_steps : Result (Scope × ℕ) → (input : Scope) (claim : AnswerOf Scope) → Verdict
of_steps (Result.refused why place) input claim = refused (number_of why) place (carried_by why)
of_steps (ok r) input claim = of_claim input claim

-- the input's refusal, or the verdict after its steps
unfoldable pub of_input : RuleSet → (input claim : AnswerOf Scope) → Verdict
of_input rules (AnswerOf.refused number place carried) claim = refused number place carried
of_input rules (accepted input) claim = of_steps (resolve rules input) input claim

-- the verdict under this setting: the claim is held to it too; refusal 1, if the input's header is not that of any
unfoldable pub verdict_for : Option Setting → (input claim : List ℕ) → Verdict
verdict_for none input claim = refused 1 0 []
verdict_for (some s) input claim = of_input s.rules (read_form s input) (read_form (as_claimed s) claim)

-- the verdict on a claimed output of an input
unfoldable pub verdict : List Setting → (input claim : List ℕ) → Verdict
verdict settings input claim = verdict_for (setting_of settings input) input claim

-- Unfolds all of this module: for a claim that antt computes.
unfoldable pub computes : Unit {0}
unfolding is_path kept same_parts without_paths scope_claimed differs condition2 is_number has_numbers not_new not_number no_alias scope_added condition3 ref_number outer_numbers first found same same_pair if_added reached through_outer through_export through_paths instance_space plainly table name_right ref_right ref_now_right operand_right not_right head_operands scope_operands condition4 unless conditions of_claim of_steps of_input verdict_for verdict
computes = tt
