-- Condition 4 for one operand: what the code finds of its row is what the rules say of it.
use Rattle.std.proofs.Math.Path.{◌≡◌, refl, sym, ap}
use Rattle.std.proofs.Common.{◌∙◌, lt-ltb, le-ltb, le-leb, eq-eqb, ne_eqb, eqb-true}
use Rattle.std.specs.Prelude.{Bool, ◌&&◌, ℕ, suc, ◌+◌, ◌*◌, ◌%◌, ◌<◌, ◌≤◌, eqb, leb, ltb, length, get_or, Some}
use Rattle.std.proofs.Math.Bool.{true, false}
use Rattle.std.proofs.Math.Option.{Option, none, some}
use mathlib.Core.List.{List, [], ◌∷◌, ◌++◌}
use native.Mathlib.Omega.{arith}
use Rattle.std.proofs.lemmas.Bool.{lt-leb}
use Rattle.kit.specs.Pick.{pick}
use Rattle.parts.specs.PartsAt.{parts_at}
use Rattle.parts.specs.declared.Parts.{Parts}
use Rattle.names.specs.Table.{Slot, no_scope}
use Rattle.rules.specs.Tools.{when◌then◌else◌, ◌then◌}
use Rattle.rules.specs.Versions.{top_name}
use Rattle.rules.specs.Rows.{Index, Num, Id, Row, Ref, Path, Outer, Case, encode, flag, number}
use Rattle.rules.specs.Tree.{Operand, ref, outer, case, Scope, scope, Fields, path_rows, operand_row}
use Rattle.rules.specs.Rules
use Rattle.rules.specs.Rules.{Result, ok, ◌>>=◌, Env, table_of, find, declarations, walk, number_in, nth, or_refused, in_time, late_index, up_number, resolve_outer}
use Rattle.rules.specs.Readings.{fields_of}
use Rattle.rules.specs.Laws.RowLaws.{LegalIndex}
use Rattle.rules.specs.Laws.Entries.{number_is}
use Rattle.rules.specs.Laws.Meaning.Names.{LowOperand}
use Rattle.rules.proofs.Laws.Output.Kept.{blank_operand}
use Rattle.rules.proofs.Laws.Output.Numbers.{Bare}
use Rattle.read_form.proofs.Laws.Parting.{cons_head}
use Rattle.checking.specs.Check
use Rattle.checking.specs.Check.{ref_number, found, same, same_pair, through_outer, through_paths, plainly, table, name_right, ref_right, ref_now_right, operand_right}
use Rattle.checking.proofs.Laws.Plainly.{plain_table, never_late}
use Rattle.claim_scopes.specs.Open.{open_scope_t, row_in, here_t, open_closed_t}
use Rattle.claim_scopes.specs.Entries.{look_t}
use Rattle.claim_operands.specs.Paths.{instance_space, is_number, instance_t}
use Rattle.claim_operands.specs.Reference.{own_or, further_t, name_right_t, ref_from_t, path_right_t, ref_right_t}
use Rattle.claim_operands.specs.Outer.{up_t, at_right_t, up_right_t, outer_right_t}
use Rattle.claim_operands.specs.Operands.{is_right_t}
use Rattle.claim_laws.specs.RowParts.{as_parts, all_parts}
use Rattle.claim_laws.specs.Known.{Known}
use Rattle.claim_laws.specs.Reaching.{entered, met_at, met_same, known_name, known_outer, known_paths, OpenedAs, Opened, opened_name, known_outward, named_as, known_named, OutAs, far, near, known_nth}

-- the space of an operand is one that a byte can say
abbrev pub Narrow : Operand → Type 0
Narrow (ref space at paths z) = space < 256
Narrow (outer space up at z) = space < 256
Narrow (case name z) = Unit {0}

-- which kind an operand is
abbrev kind_of : Operand → ℕ
kind_of (ref space at paths z) = 0
kind_of (outer space up at z) = 1
kind_of (case name z) = 2

-- a number that is found, beside another
number_same : (o : Option ℕ) (m : ℕ) → is_number (entered o) m ≡ same (some m) o
unfolding is_number entered same
number_same none m = refl
number_same (some n) m = refl

found_refused : (o : Option ℕ) (why : Rules.Refusal) (z : ℕ) → found (or_refused o why z) ≡ o
unfolding found or_refused
found_refused none why z = refl
found_refused (some n) why z = refl

space_of_instance : (space : ℕ) → instance_space space ≡ Check.instance_space space
unfolding instance_space Check.instance_space
space_of_instance space = go (leb space 6)
  where
    go : (b : Bool) → ◌≡◌ {A = ℕ} (pick b 6 10) (when b then 6 else 10)
    go true = unfold pick when◌then◌else◌ in refl
    go false = unfold pick when◌then◌else◌ in refl

narrow_instance : (space : ℕ) → instance_space space < 256
unfolding instance_space
narrow_instance space = go (leb space 6)
  where
    go : (b : Bool) → pick b 6 10 < 256
    go true = unfold pick in omega arith
    go false = unfold pick in omega arith

module _ (claim : List ℕ) (ss : List Slot) (used kind name k : ℕ) (cs : Fields) (K : Known (parts_at claim) ss k cs) (l : suc k < 65536) (st : List (List ℕ)) (outside : List Env) (O : Opened claim ss used st outside) where
  abbrev here : Scope
  here = scope kind name cs

  abbrev st₀ : List (List ℕ)
  st₀ = open_scope_t name k ∷ st

  -- ---- names

  own_or_lem : (o : Option ℕ) (space nm n : ℕ) (b : Bool) → b ≡ same_pair (through_outer cs space n) (walk outside 1 space nm) → own_or (entered o) n b ≡ name_right here outside o space nm n
  unfolding own_or entered name_right
  own_or_lem none space nm n b e = e
  own_or_lem (some m) space nm n b e = refl

  further_right : (space nm y z n : ℕ) → space < 256 → nm ≤ top_name → further_t ss claim used st₀ (as_parts (Ref space (Id nm) y z)) n ≡ same_pair (through_outer cs space n) (walk outside 1 space nm)
  unfolding further_t here_t open_closed_t as_parts encode number
  further_right space nm y z n w low =
      rw (known_outer claim ss used k cs space n K l w, known_outward claim ss used st outside 1 space nm O w low) (met_same (through_outer cs space n) (walk outside 1 space nm))

  name_is : (space nm y z n : ℕ) → space < 256 → nm ≤ top_name → look_t ss k (as_parts (Ref space (Id nm) y z)).b (as_parts (Ref space (Id nm) y z)).x ≡ entered (find (declarations cs) space nm)
  unfolding as_parts encode number
  name_is space nm y z n w low = known_name claim ss used k cs space nm K w low

  name_right_lem : (space nm y z n : ℕ) → space < 256 → nm ≤ top_name → name_right_t ss claim used st₀ (as_parts (Ref space (Id nm) y z)) n ≡ name_right here outside (find (declarations cs) space nm) space nm n
  unfolding name_right_t here_t
  name_right_lem space nm y z n w low =
      rw (name_is space nm y z n w low) (own_or_lem (find (declarations cs) space nm) space nm n (further_t ss claim used st₀ (as_parts (Ref space (Id nm) y z)) n) (further_right space nm y z n w low))

  -- ---- PATHs

  -- the instance that a path starts from
  number_here : (space nm z : ℕ) → found (number_in (table here).entries space (Id nm) z) ≡ find (declarations cs) space nm
  unfolding table
  number_here space nm z =
      ap found (number_is (plainly name (declarations cs)).entries space nm z ∙ rw (plain_table name (declarations cs))) ∙ found_refused (find (declarations cs) space nm) (Rules.unknown space) z

  instance_is : (at : Index) (space y z : ℕ) → LegalIndex top_name at → (m : ℕ) → instance_t ss k (as_parts (Ref space at y z)) m ≡ same (some m) (found (number_in (table here).entries (Check.instance_space space) at z))
  unfolding instance_t as_parts encode flag number pick
  instance_is (Num j) space y z low m = unfold number_in found same in refl
  instance_is (Id nm) space y z low m =
      rw (known_name claim ss used k cs (instance_space space) nm K (narrow_instance space) low.1, number_same (find (declarations cs) (instance_space space) nm) m, space_of_instance space, number_here (Check.instance_space space) nm z)

  from_same : (o p : Option ℕ) (q : Parts) → ((m : ℕ) → instance_t ss k q m ≡ same (some m) p) → ref_from_t ss claim used (entered o) k q ≡ same o p
  unfolding ref_from_t entered same
  from_same none p q f = refl
  from_same (some m) p q f = f m

  path_right : (space : ℕ) (at : Index) (p : ℕ) (ps : List ℕ) (z n : ℕ) (rest : List Row) → space < 256 → LegalIndex top_name at
      → path_right_t ss claim used k (as_parts (Ref space at (suc (length ps)) z)) (all_parts (path_rows (p ∷ ps) ++ rest)) n ≡ same (through_paths cs space p ps n) (found (number_in (table here).entries (Check.instance_space space) at z))
  unfolding path_right_t as_parts encode
  path_right space at p ps z n rest w low =
      rw (known_paths claim ss used k cs p ps rest space n K l w) (from_same (through_paths cs space p ps n) _ (as_parts (Ref space at (suc (length ps)) z)) (λ m. instance_is at space (suc (length ps)) z low m))

  -- ---- a REF

  ref_right_lem : (space : ℕ) (now at : Index) (paths : List ℕ) (z : ℕ) (rest : List Row) → space < 256 → LegalIndex top_name at
      → ref_right_t ss claim used st₀ (as_parts (Ref space now 0 z)) (as_parts (Ref space at (length paths) z)) (all_parts (path_rows paths ++ rest)) ≡ ref_now_right here outside space at paths z (ref_number (ref space now [] z))
  unfolding ref_right_t ref_now_right ref_right ref_number as_parts encode flag number pick here_t
  ref_right_lem space (Id nm) at paths z rest w low = refl
  ref_right_lem space (Num n) (Num m) [] z rest w low = refl
  ref_right_lem space (Num n) (Id nm) [] z rest w low = name_right_lem space nm 0 z n w low.1
  ref_right_lem space (Num n) at (p ∷ ps) z rest w low = rw (lt-ltb 0 (suc (length ps)) (omega arith)) (path_right space at p ps z n rest w low)

  -- ---- an OUTER

  abbrev envs : List Env
  envs = table here ∷ outside

  opened_here : Opened claim ss used st₀ envs
  opened_here = (record { k = k; name = name; fs = cs; is_scope_lem = refl; is_env = unfold table in refl; known = K }, O)

  -- the scope that it leads to
  up_is : (space : ℕ) (up at : Index) (z : ℕ) → up_t st₀ (as_parts (Outer space up at z)) ≡ named_as claim ss used 0 (found (up_number envs up 0))
  unfolding up_t as_parts encode number flag up_number found pick
  up_is space (Num d) (Num n) z = unfold named_as in ap Some (omega arith)
  up_is space (Num d) (Id nm) z = unfold named_as in ap Some (omega arith)
  up_is space (Id up) (Num n) z = known_named claim ss used st₀ envs 0 up opened_here ∙ ap (named_as claim ss used 0) (sym (found_refused (Rules.named envs up) Rules.no_such_scope 0))
  up_is space (Id up) (Id nm) z = known_named claim ss used st₀ envs 0 up opened_here ∙ ap (named_as claim ss used 0) (sym (found_refused (Rules.named envs up) Rules.no_such_scope 0))

  -- the index in it
  index_is : (s : List ℕ) (e : Env) (at : Index) (space z n : ℕ) (q : Parts) → OpenedAs claim ss used s e → space < 256 → LegalIndex top_name at → q.b ≡ space → q.y ≡ number at → ltb q.e 2 ≡ eqb (flag at) 0
      → pick (ltb q.e 2) (eqb n q.y) (is_number (look_t ss (row_in s) q.b q.y) n) ≡ same (some n) (found (number_in e.entries space at z))
  unfolding number flag pick
  index_is s e (Num j) space z n q W w low b y t = unfold number_in found same in rw (t, y)
  index_is s e (Id nm) space z n q W w low b y t =
      rw (t, b, y, opened_name claim ss used s e space nm W w low.1, number_same (find (table_of e) space nm) n, number_is e.entries space nm z, found_refused (find (table_of e) space nm) (Rules.unknown space) z)

  pair_then : (t B : Bool) (d' n' d : ℕ) (J : Option ℕ) → eqb d' d ≡ t → B ≡ same (some n') J → pick t B false ≡ same_pair (some (d', n')) (J then λ n. some (d, n))
  unfolding pick same same_pair ◌then◌
  pair_then t B d' n' d none e f = go t
    where
      go : (t : Bool) → pick t B false ≡ false
      go true = unfold pick in f
      go false = unfold pick in refl
  pair_then true B d' n' d (some n) e f = rw e f
  pair_then false B d' n' d (some n) e f = rw e

  -- how the flags say what is a name
  index_flag : (space : ℕ) (up at : Index) (z : ℕ) → ltb (as_parts (Outer space up at z)).e 2 ≡ eqb (flag at) 0
  unfolding as_parts encode flag
  index_flag space (Num d) (Num n) z = refl
  index_flag space (Num d) (Id nm) z = refl
  index_flag space (Id up) (Num n) z = refl
  index_flag space (Id up) (Id nm) z = refl

  at_right : (space : ℕ) (up at : Index) (z d' n' d : ℕ) (o : Option Env) → space < 256 → LegalIndex top_name at → OutAs claim ss used st₀ d o
      → at_right_t ss st₀ d (as_parts (Outer space up at z)) (as_parts (Outer space (Num d') (Num n') z)) ≡ same_pair (some (d', n')) (o then λ e. found (number_in e.entries space at z) then λ n. some (d, n))
  unfolding at_right_t as_parts encode number pick ◌then◌
  at_right space up at z d' n' d none w low (far h) = unfold same_pair in rw (le-leb _ _ h)
  at_right space up at z d' n' d (some e₀) w low (near e h W) =
      rw (lt-leb _ _ h) (pair_then (eqb d' d) _ d' n' d (found (number_in e.entries space at z)) refl (index_is (get_or st₀ d no_scope) e at space z n' (as_parts (Outer space up at z)) W w low refl refl (index_flag space up at z)))

  up_right : (space : ℕ) (up at : Index) (z d' n' : ℕ) (o : Option ℕ) → space < 256 → LegalIndex top_name at
      → up_right_t ss st₀ (named_as claim ss used 0 o) (as_parts (Outer space up at z)) (as_parts (Outer space (Num d') (Num n') z)) ≡ same_pair (some (d', n')) (o then λ d. nth envs d then λ e. found (number_in e.entries space at z) then λ n. some (d, n))
  unfolding up_right_t named_as ◌then◌
  up_right space up at z d' n' none w low = unfold same_pair in refl
  up_right space up at z d' n' (some d) w low = let q : 0 + d ≡ d = omega arith in rw q (at_right space up at z d' n' d (nth envs d) w low (known_nth claim ss used st₀ envs d opened_here))

  -- the two numbers that the rules say
  numbers_of : (space d : ℕ) (r : Result ℕ) (z : ℕ) → (found (r >>= λ n. ok (outer space (Num d) (Num n) z)) then Check.outer_numbers) ≡ (found r then λ n. some (d, n))
  unfolding found ◌then◌ Check.outer_numbers ◌>>=◌
  numbers_of space d (Result.refused why place) z = refl
  numbers_of space d (ok n) z = refl

  in_scope_lem : (space : ℕ) (at : Index) (d z : ℕ) (o : Option Env)
      → (found (or_refused o Rules.too_far 0 >>= λ e. in_time (late_index false e space at) z >>= λ u. number_in e.entries space at z >>= λ n. ok (outer space (Num d) (Num n) z)) then Check.outer_numbers)
      ≡ (o then λ e. found (number_in e.entries space at z) then λ n. some (d, n))
  unfolding or_refused in_time ◌>>=◌
  in_scope_lem space at d z none = unfold found ◌then◌ in refl
  in_scope_lem space at d z (some e) = rw (never_late e space at) (unfold when◌then◌else◌ ◌then◌ in numbers_of space d (number_in e.entries space at z) z)

  outer_is : (space : ℕ) (up at : Index) (z : ℕ) → (found (Rules.outer_numbers false envs 0 space up at z) then Check.outer_numbers) ≡ (found (up_number envs up 0) then λ d. nth envs d then λ e. found (number_in e.entries space at z) then λ n. some (d, n))
  unfolding Rules.outer_numbers
  outer_is space up at z = go (up_number envs up 0)
    where
      go : (r : Result ℕ)
          → (found (r >>= λ d. or_refused (nth envs d) Rules.too_far 0 >>= λ e. in_time (late_index false e space at) z >>= λ u. number_in e.entries space at z >>= λ n. ok (outer space (Num d) (Num n) z)) then Check.outer_numbers)
          ≡ (found r then λ d. nth envs d then λ e. found (number_in e.entries space at z) then λ n. some (d, n))
      go (Result.refused why place) = unfold found ◌then◌ ◌>>=◌ in refl
      go (ok d) = unfold ◌then◌ ◌>>=◌ found in in_scope_lem space at d z (nth envs d)

  -- one of the two is a name
  both_of : (space d n : ℕ) (up at : Index) (z : ℕ) → space < 256 → LegalIndex top_name at
      → up_right_t ss st₀ (up_t st₀ (as_parts (Outer space up at z))) (as_parts (Outer space up at z)) (as_parts (Outer space (Num d) (Num n) z)) ≡ same_pair (some (d, n)) (found (Rules.outer_numbers false envs 0 space up at z) then Check.outer_numbers)
  both_of space d n up at z w low = rw (up_is space up at z, outer_is space up at z) (up_right space up at z d n (found (up_number envs up 0)) w low)

  outer_right : (space : ℕ) (up' at' up at : Index) (z : ℕ) → space < 256 → LegalIndex top_name at
      → outer_right_t ss st₀ (as_parts (Outer space up at z)) (as_parts (Outer space up' at' z)) ≡ same_pair (Check.outer_numbers (outer space up' at' z)) (found (resolve_outer false envs 0 space up at z) then Check.outer_numbers)
  unfolding outer_right_t resolve_outer as_parts encode flag number Check.outer_numbers pick
  outer_right space (Id u) (Num n) up at z w low = unfold same_pair in refl
  outer_right space (Id u) (Id n) up at z w low = unfold same_pair in refl
  outer_right space (Num d) (Id n) up at z w low = unfold same_pair in refl
  outer_right space (Num d) (Num n) (Num d₀) (Num n₀) z w low = unfold found ◌then◌ same_pair in refl
  outer_right space (Num d) (Num n) (Num d₀) (Id nm) z w low = both_of space d n (Num d₀) (Id nm) z w low
  outer_right space (Num d) (Num n) (Id u₀) (Num n₀) z w low = both_of space d n (Id u₀) (Num n₀) z w low
  outer_right space (Num d) (Num n) (Id u₀) (Id nm) z w low = both_of space d n (Id u₀) (Id nm) z w low

  -- ---- any operand

  same_ref : (space : ℕ) (z s z' : ℕ) → ref space (Num 0) [] z ≡ ref s (Num 0) [] z' → (space ≡ s) × (z ≡ z')
  same_ref space z s z' e = (cc, cc)

  same_outer : (space : ℕ) (z s z' : ℕ) → outer space (Num 0) (Num 0) z ≡ outer s (Num 0) (Num 0) z' → (space ≡ s) × (z ≡ z')
  same_outer space z s z' e = (cc, cc)

  other_kind : {X : Type 0} (a b : Operand) → a ≡ b → (kind_of a ≡ kind_of b → ⊥) → X
  other_kind a b e n = absurd (n (ap kind_of e))

  ref_rule : (s : ℕ) (now at : Index) (paths : List ℕ) (z : ℕ) (rest : List Row) → s < 256 → LegalIndex top_name at
      → is_right_t ss claim used false st₀ (as_parts (Ref s now 0 z)) (all_parts (operand_row (ref s at paths z) ++ rest)) ≡ operand_right here outside (ref s at paths z) (ref s now [] z)
  unfolding is_right_t operand_right all_parts operand_row pick
  ref_rule s now at paths z rest w low = unfold as_parts encode in ref_right_lem s now at paths z rest w low

  outer_rule : (s : ℕ) (up' at' up at : Index) (z : ℕ) (rest : List Row) → s < 256 → LegalIndex top_name at
      → is_right_t ss claim used false st₀ (as_parts (Outer s up' at' z)) (all_parts (operand_row (outer s up at z) ++ rest)) ≡ operand_right here outside (outer s up at z) (outer s up' at' z)
  unfolding is_right_t operand_right all_parts operand_row pick
  outer_rule s up' at' up at z rest w low = unfold as_parts encode in outer_right s up' at' up at z w low

  case_rule : (nm z nm' z' : ℕ) (rest : List Row) → is_right_t ss claim used false st₀ (as_parts (Case nm z)) (all_parts (operand_row (case nm' z') ++ rest)) ≡ operand_right here outside (case nm' z') (case nm z)
  unfolding is_right_t operand_right all_parts operand_row as_parts encode pick
  case_rule nm z nm' z' rest = refl

  -- its row
  ref_row : (space : ℕ) (at : Index) (z : ℕ) (r : Row) → operand_row (ref space at [] z) ≡ r ∷ [] → r ≡ Ref space at 0 z
  unfolding operand_row path_rows
  ref_row space at z r p = sym (cons_head p)

  outer_row_lem : (space : ℕ) (up at : Index) (z : ℕ) (r : Row) → operand_row (outer space up at z) ≡ r ∷ [] → r ≡ Outer space up at z
  unfolding operand_row
  outer_row_lem space up at z r p = sym (cons_head p)

  case_row : (nm z : ℕ) (r : Row) → operand_row (case nm z) ≡ r ∷ [] → r ≡ Case nm z
  unfolding operand_row
  case_row nm z r p = sym (cons_head p)

  -- a claimed operand without PATHs, beside the input's
  pub operand_right_lem : (o w : Operand) (r : Row) (rest : List Row) → Bare o → operand_row o ≡ r ∷ [] → blank_operand o ≡ blank_operand w → Narrow w → LowOperand w
      → is_right_t ss claim used false st₀ (as_parts r) (all_parts (operand_row w ++ rest)) ≡ operand_right here outside w o
  unfolding blank_operand
  operand_right_lem (ref space now [] z) (ref s at paths z') r rest b p e w low =
      let q = same_ref space z s z' e in
      rw (ref_row space now z r p, q.0, q.1) (ref_rule s now at paths z' rest w low)
  operand_right_lem (ref space now (x ∷ xs) z) v r rest b p e w low = absurd b
  operand_right_lem (ref space now [] z) (outer s up at z') r rest b p e w low = other_kind _ _ e (λ q. let c : ◌≡◌ {A = ℕ} 0 1 = q in omega arith)
  operand_right_lem (ref space now [] z) (case nm z') r rest b p e w low = other_kind _ _ e (λ q. let c : ◌≡◌ {A = ℕ} 0 2 = q in omega arith)
  operand_right_lem (outer space up' at' z) (ref s at paths z') r rest b p e w low = other_kind _ _ e (λ q. let c : ◌≡◌ {A = ℕ} 1 0 = q in omega arith)
  operand_right_lem (outer space up' at' z) (outer s up at z') r rest b p e w low =
      let q = same_outer space z s z' e in
      rw (outer_row_lem space up' at' z r p, q.0, q.1) (outer_rule s up' at' up at z' rest w low.1)
  operand_right_lem (outer space up' at' z) (case nm z') r rest b p e w low = other_kind _ _ e (λ q. let c : ◌≡◌ {A = ℕ} 1 2 = q in omega arith)
  operand_right_lem (case nm z) (ref s at paths z') r rest b p e w low = other_kind _ _ e (λ q. let c : ◌≡◌ {A = ℕ} 2 0 = q in omega arith)
  operand_right_lem (case nm z) (outer s up at z') r rest b p e w low = other_kind _ _ e (λ q. let c : ◌≡◌ {A = ℕ} 2 1 = q in omega arith)
  operand_right_lem (case nm z) (case nm' z') r rest b p e w low = rw (case_row nm z r p) (case_rule nm z nm' z' rest)
