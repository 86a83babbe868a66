-- A field of an accepted run's output, with its references restored, has the shape that the tables say, and its rows can be written as an
-- input's.
use Rattle.std.specs.Prelude.{◌≡◌, true, leb}
use Rattle.std.proofs.Math.Path.{refl}
use Rattle.std.proofs.Common.{ap, sym, ◌∙◌, subst}
use Rattle.std.proofs.Math.Option.{Option, none, some}
use mathlib.Core.List.{List, [], ◌∷◌, ◌++◌}
use Prim.Native.Nat.{ℕ, suc, ◌+◌, ◌^◌, ◌≤◌, ◌<◌}
use native.Mathlib.Omega.{arith}
use Rattle.std.proofs.Math.ListN.{length}
use Rattle.rules.specs.Tools.{◌then◌, is_in}
use Rattle.rules.specs.Versions.{RuleSet, top_name}
use Rattle.rules.specs.Rows.{Index, Num, Id, Row, Decl, Ref, Path, Export, encode, flag, number}
use Rattle.rules.specs.Tree.{Declaration, Operand, ref, outer, case, Head, with_operands, decl_rows, path_rows, operand_row, operand_rows, export_rows, head_rows}
use Rattle.rules.specs.Shapes
use Rattle.rules.specs.Shapes.{Part, parts, complete}
use Rattle.rules.specs.Good.{after_operand, after_operands, GoodHead}
use Rattle.rules.specs.Rules
use Rattle.rules.specs.Rules.{Entry, ok, Env, table_of, Outside, fresh, export_alias}
use Rattle.unresolving.specs.Back.{Group, groups, restored, restored_head}
use Rattle.rules.specs.Laws.ToolLaws.{ok_at, then_some, All, done, ◌&◌, all_append, all_left, all_right, or-true, and_left, and_right, eqb-true, leb_lt, leb-true}
use Rattle.rules.specs.Laws.RowLaws
use Rattle.rules.specs.Laws.RowLaws.{LegalIndex, Written}
use Rattle.rules.specs.Laws.Results.{ok_same}
use Rattle.rules.specs.Laws.Meaning.Names.{LowDecls, LowOperand, LowOperands}
use Rattle.rules.proofs.Laws.Output.Numbers.{Bare, AllNumbered}
use Rattle.unresolving.proofs.Laws.Reached.{tables}
use Rattle.rules.proofs.Laws.Output.OutFits.{out_name}
use Rattle.unresolving.proofs.Laws.Aliases.{first_space, from_of, path_alias, Short, others, First, first}
use Rattle.unresolving.proofs.Laws.Serves.{Assigned, no_groups, kept, put, assigned}
use Rattle.unresolving.proofs.Laws.Grouped.{Grouped, by_name_lem, by_path, Split, next as next-group}
use Rattle.unresolving.proofs.Laws.Tables.{pathable, pathable_next, MayPath, untyped, untyped_next, Kind, usual, ascribes, parts_kind, next_same, fits_in, Ascribed, own, pair, ascribed_inv, ascribed_fits}
use Rattle.unresolving.proofs.Laws.Led.{Leads}
use Rattle.unresolving.proofs.Laws.Restored.{ForIt, for_it, restored_none, HeadMade, here_alone, walked}

-- ---- the shape

short_ok : (space : ℕ) (ps : List ℕ) → Short space ps → Shapes.paths_ok space (suc (length ps)) ≡ true
unfolding Shapes.paths_ok
short_ok space [] h = or-true (leb 7 space)
short_ok space (q ∷ ps) h = let l = leb_lt space 6 h in rw (leb-true {m = 7} {n = space} (omega arith))

then_is : {A B : Type 0} (o : Option A) (f : A → Option B) (a : A) (b : B) → o ≡ some a → f a ≡ some b → (o then f) ≡ some b
unfolding ◌then◌
then_is o f a b e q = rw e q

module _ (Q : ℕ → Type 0) (ds : List Declaration) (here : Env) (outside : Outside) (fz : ℕ) where
  -- the reference of a group fits where its operand did
  group_fits : (k : ℕ) (b : Head) (hs : List Head) (g : Group) (o : Operand) (ps q : List Part) → Grouped Q ds here outside k b hs g → ForIt here outside fz Q ds g o
      → untyped ps ≡ true → ((s : ℕ) → Q s → pathable s ps ≡ true) → after_operand ps o ≡ some q → after_operand ps g.was ≡ some q
  unfolding after_operand
  group_fits k b hs g o ps q (by_name_lem space name z at l four t f w i j e) F u may a = rw e (rw (F.is, e) at a)
  group_fits k b hs g o ps q (by_path space n p xs z m s h c e) F u may a =
      rw e (next_same space (length xs) (short_ok space xs h) ps u (may space m) ∙ (rw (F.is, e) at a))

  still_may : (ps : List Part) (o : Operand) (q : List Part) → ((s : ℕ) → Q s → pathable s ps ≡ true) → after_operand ps o ≡ some q → (s : ℕ) → Q s → pathable s q ≡ true
  unfolding after_operand
  still_may ps (ref space at paths z) q may e s m = ok_at _ _ q (pathable_next s _ ps (may s m)) e
  still_may ps (outer space up at z) q may e s m = ok_at _ _ q (pathable_next s _ ps (may s m)) e
  still_may ps (case name z) q may e s m = ok_at _ _ q (pathable_next s _ ps (may s m)) e

  still_untyped : (ps : List Part) (o : Operand) (q : List Part) → untyped ps ≡ true → after_operand ps o ≡ some q → untyped q ≡ true
  unfolding after_operand
  still_untyped ps (ref space at paths z) q u e = ok_at _ _ q (untyped_next _ ps u) e
  still_untyped ps (outer space up at z) q u e = ok_at _ _ q (untyped_next _ ps u) e
  still_untyped ps (case name z) q u e = ok_at _ _ q (untyped_next _ ps u) e

  restored_fits : {gs : List Group} {os os' : List Operand} (k : ℕ) (hs : List Head) (ps left : List Part) → Split Q ds here outside k hs gs → Assigned (table_of here) (tables outside) gs os os' → AllNumbered os
      → untyped ps ≡ true → ((s : ℕ) → Q s → pathable s ps ≡ true) → after_operands ps os ≡ some left → after_operands ps os' ≡ some left
  unfolding after_operands
  restored_fits k hs ps left S no_groups n u may e = e
  restored_fits k hs ps left S (kept {o = o} {os = os} a) n u may e =
      let T = then_some (after_operand ps o) (λ q. after_operands q os) left e in
      then_is _ _ T.0 left T.1 (restored_fits k hs T.0 left S a n.1 (still_untyped ps o T.0 u T.1) (still_may ps o T.0 may T.1) T.2)
  restored_fits k hs₀ ps left (next-group b hs more g gs G S) (put {o = o} {os = os} t a) n u may e =
      let T = then_some (after_operand ps o) (λ q. after_operands q os) left e in
      then_is _ _ T.0 left (group_fits k b hs g o ps T.0 G (for_it here outside fz Q ds g o n.0 t) u may T.1)
      (restored_fits _ more T.0 left S a n.1 (still_untyped ps o T.0 u T.1) (still_may ps o T.0 may T.1) T.2)

  -- ---- an export with an ascribed type

  -- the operand `o` stayed, or the reference `x` of a group took its place
  data Came (o x : Operand) : Type 0 where
    stayed : x ≡ o → Came o x
    came : (k : ℕ) (b : Head) (hs : List Head) (g : Group) → Grouped Q ds here outside k b hs g → ForIt here outside fz Q ds g o → x ≡ g.was → Came o x

  abbrev AllCame : (os xs : List Operand) → Type 0
  AllCame [] [] = Unit {0}
  AllCame [] (x ∷ xs) = ⊥
  AllCame (o ∷ os) [] = ⊥
  AllCame (o ∷ os) (x ∷ xs) = Came o x × AllCame os xs

  all_came : {gs : List Group} {os os' : List Operand} (k : ℕ) (hs : List Head) → Split Q ds here outside k hs gs → Assigned (table_of here) (tables outside) gs os os' → AllNumbered os → AllCame os os'
  all_came k hs S no_groups n = tt
  all_came k hs S (kept a) n = (stayed refl, all_came k hs S a n.1)
  all_came k hs₀ (next-group b hs more g gs G S) (put {o = o} t a) n = (came k b hs g G (for_it here outside fz Q ds g o n.0 t) refl, all_came _ more S a n.1)

  -- with PATHs it fits where it may have them
  group_own : (k : ℕ) (b : Head) (hs : List Head) (g : Group) (o : Operand) (t : ℕ) → Grouped Q ds here outside k b hs g → ForIt here outside fz Q ds g o
      → fits_in o (Shapes.r (t ∷ [])) ≡ true → fits_in g.was (Shapes.r (t ∷ [])) ≡ true
  unfolding fits_in Shapes.fits_ref
  group_own k b hs g o t (by_name_lem space name z at l four t' f w i j e) F a = rw e (rw (F.is, e) at a)
  group_own k b hs g o t (by_path space n p xs z m s h c e) F a =
      let a' = rw (F.is, e) at a in
      rw (e, and_left (is_in space (t ∷ [])) _ a') (short_ok space xs h)

  own_came : (o x : Operand) (t : ℕ) → Came o x → fits_in o (Shapes.r (t ∷ [])) ≡ true → fits_in x (Shapes.r (t ∷ [])) ≡ true
  own_came o x t (stayed e) a = rw e a
  own_came o x t (came k b hs g G F e) a = rw e (group_own k b hs g o t G F a)

  group_first : (k : ℕ) (b : Head) (hs : List Head) (g : Group) (o : Operand) → Grouped Q ds here outside k b hs g → ForIt here outside fz Q ds g o
      → Bare g.was → fits_in o (Shapes.p (9 ∷ [])) ≡ true → fits_in g.was (Shapes.p (9 ∷ [])) ≡ true
  unfolding fits_in
  group_first k b hs g o (by_name_lem space name z at l four t f w i j e) F w' a = rw e (rw (F.is, e) at a)
  group_first k b hs g o (by_path space n p xs z m s h c e) F w a = absurd (subst (λ (y : Group). Bare y.was) e w)

  first_came : (o x : Operand) → Came o x → Bare x → fits_in o (Shapes.p (9 ∷ [])) ≡ true → fits_in x (Shapes.p (9 ∷ [])) ≡ true
  first_came o x (stayed e) w a = rw e a
  first_came o x (came k b hs g G F e) w a = rw e (group_first k b hs g o G F (subst Bare e w) a)

  one_again : (t : ℕ) (o : Operand) (xs : List Operand) → Ascribed t (o ∷ []) → AllCame (o ∷ []) xs → Ascribed t xs
  one_again t o [] A c = absurd c
  one_again t o (x ∷ []) (own f) c = own (own_came o x t c.0 f)
  one_again t o (x ∷ (y ∷ xs)) A c = absurd c.1

  two_again : (t : ℕ) (o o' x x' : Operand) → Ascribed t (o ∷ (o' ∷ [])) → AllCame (o ∷ (o' ∷ [])) (x ∷ (x' ∷ [])) → Bare x → Ascribed t (x ∷ (x' ∷ []))
  two_again t o o' x x' (pair f g) c w = pair (first_came o x c.0 w f) (own_came o' x' t c.1.0 g)

  fits_bare : (a : Operand) → fits_in a (Shapes.p (9 ∷ [])) ≡ true → Bare a
  unfolding fits_in Shapes.fits_ref
  fits_bare (ref space at [] z) e = tt
  fits_bare (ref space at (m ∷ ms) z) e = let no = eqb-true (suc (length ms)) 0 (and_right (is_in space (9 ∷ [])) _ e) in absurd (omega arith)
  fits_bare (outer space up at z) e = tt
  fits_bare (case name z) e = tt

  -- of the operands `was` a run made `os`
  ascribed_restored : (t : ℕ) (was os : List Operand) (hs : List Head) → Ascribed t was → Ascribed t os → Leads ds here outside was os hs
      → AllCame os (restored (table_of here) (tables outside) os (groups (table_of here) (tables outside) hs))
      → Ascribed t (restored (table_of here) (tables outside) os (groups (table_of here) (tables outside) hs))
  ascribed_restored t (a ∷ []) os hs (own f) A L c = one_again t L.o _ (subst (Ascribed t) L.are A) (subst (λ (l : List Operand). AllCame l (restored (table_of here) (tables outside) os (groups (table_of here) (tables outside) hs))) L.are c)
  ascribed_restored t (a ∷ (a' ∷ [])) os hs (pair f g) A L c =
      let T = L (fits_bare a f) in
      let B = T.led_by in
      let xs : List Operand = restored (table_of here) (tables outside) os (groups (table_of here) (tables outside) hs) in
      let is : xs ≡ B.x ∷ (B.x' ∷ []) =
      ap (λ (l : List Operand). restored (table_of here) (tables outside) l (groups (table_of here) (tables outside) hs)) T.are ∙ B.is in
      subst (Ascribed t) (sym is)
      (two_again t T.o T.o' B.x B.x' (subst (Ascribed t) T.are A) (subst (AllCame (T.o ∷ (T.o' ∷ []))) is (subst (λ (l : List Operand). AllCame l xs) T.are c)) B.bare)
  ascribed_restored t [] os hs x4 A L c = elim x4 [ ]
  ascribed_restored t (a ∷ (a' ∷ (_ ∷ _))) os hs x17 A L c = elim x17 [ ]

-- ---- the rows

abbrev pub HeadsFit : List Head → Type 0
HeadsFit [] = Unit {0}
HeadsFit (h ∷ hs) = All (Written out_name) (head_rows h) × HeadsFit hs

-- the numbers of an alias in a path
record AliasParts (k n p : ℕ) : Type 0 where
  fresh_low : fresh k ≤ out_name
  number_low : n < 2 ^ 32
  path_low : p < 2 ^ 32

decl_low : (space name z : ℕ) → Written out_name (Decl space name z) → name ≤ out_name
decl_low space name z w = w.legal

ref_low : (space n count z : ℕ) → Written out_name (Ref space (Num n) count z) → (n < 2 ^ 32) × (space < 256) × (z < 2 ^ 32)
unfolding encode number flag
ref_low space n count z w = (w.fits.x_fits, w.fits.b_fits, w.fits.z_fits)

export_low : (p : ℕ) → Written out_name (Export p) → p < 2 ^ 32
unfolding encode
export_low p w = w.fits.x_fits

alias_parts : (space k n p z : ℕ) → All (Written out_name) (head_rows (path_alias space (fresh k) (Num n) p z)) → AliasParts k n p
unfolding path_alias export_alias head_rows decl_rows operand_rows operand_row path_rows export_rows
alias_parts space k n p z (f & d & r & x & done) =
    record { fresh_low = decl_low space (fresh k) z d; number_low = (ref_low (from_of space) n 0 z r).0; path_low = export_low p x }

path_written : (p : ℕ) → p < 2 ^ 32 → Written top_name (Path p)
unfolding encode
path_written p h = record { fits = omega arith; legal = tt }

record PathParts (k n : ℕ) (p : ℕ) (ps : List ℕ) : Type 0 where
  short : fresh (k + length ps) ≤ out_name
  number_low : n < 2 ^ 32
  paths : All (Written top_name) (path_rows (p ∷ ps))

number_same : (es : List Entry) (space n z m : ℕ) → Rules.number_in es space (Num n) z ≡ ok m → n ≡ m
unfolding Rules.number_in
number_same es space n z m e = ok_same n m e

module _ (here : Env) (outside : Outside) where
  path_parts : (space : ℕ) (n p : ℕ) (ps : List ℕ) (z k : ℕ) (at : Index) (hs : List Head) → (F : First here outside space at p ps z k hs) → HeadsFit hs → PathParts k F.n p ps
  unfolding path_rows first_space others
  path_parts space n p [] z k at hs F a =
      let A = alias_parts space k F.n p z (rw F.is at a).0 in
      let same : k + 0 ≡ k = omega arith in
      record { short = rw same A.fresh_low; number_low = A.number_low; paths = path_written p A.path_low & done }
  path_parts space n p (q ∷ ps) z k at hs F a =
      let a' = rw F.is at a in
      let A = alias_parts 10 k F.n p z a'.0 in
      let F₂ = first here outside space (Id (fresh k)) q ps z (suc k) F.more F.resolves in
      let P = path_parts space n q ps z (suc k) (Id (fresh k)) F.more F₂ a'.1 in
      let same : k + length (q ∷ ps) ≡ suc k + length ps = omega arith in
      record { short = rw same P.short; number_low = A.number_low; paths = path_written p A.path_low & P.paths }

-- a row of an output whose names are an input's
as_input : (row : Row) → Written out_name row → RowLaws.Legal top_name row → Written top_name row
as_input row w l = record { fits = w.fits; legal = l }

paths_written : (ps : List ℕ) → All (Written out_name) (path_rows ps) → All (Written top_name) (path_rows ps)
unfolding path_rows
paths_written [] a = done
paths_written (p ∷ ps) (w & a) = as_input (Path p) w tt & paths_written ps a

operand_written : (o : Operand) → LowOperand o → All (Written out_name) (operand_row o) → All (Written top_name) (operand_row o)
unfolding operand_row
operand_written (ref space at paths z) l (w & a) = as_input _ w l & paths_written paths a
operand_written (outer space up at z) l (w & done) = as_input _ w l & done
operand_written (case name z) l (w & done) = as_input _ w l & done

operands_written : (os : List Operand) → LowOperands os → All (Written out_name) (operand_rows os) → All (Written top_name) (operand_rows os)
unfolding operand_rows
operands_written [] l a = done
operands_written (o ∷ os) l a =
    all_append (operand_row o) (operand_rows os) (operand_written o l.0 (all_left (operand_row o) (operand_rows os) a)) (operands_written os l.1 (all_right (operand_row o) (operand_rows os) a))

decls_written : (ds : List Declaration) → LowDecls ds → All (Written out_name) (decl_rows ds) → All (Written top_name) (decl_rows ds)
unfolding decl_rows
decls_written [] l a = done
decls_written (d ∷ ds) l (w & a) = as_input _ w l.0 & decls_written ds l.1 a

export_written : (o : Option ℕ) → All (Written out_name) (export_rows o) → All (Written top_name) (export_rows o)
unfolding export_rows
export_written none a = done
export_written (some n) (w & done) = as_input _ w tt & done

name_written : (space name z : ℕ) → LegalIndex top_name (Id name) → space < 256 → z < 2 ^ 32 → Written top_name (Ref space (Id name) 0 z)
unfolding encode number flag
name_written space name z l s h = let low = l.1 in record { fits = omega arith; legal = l }

number_written : (space n count z : ℕ) → space < 256 → n < 2 ^ 32 → count < 2 ^ 32 → z < 2 ^ 32 → Written top_name (Ref space (Num n) count z)
unfolding encode number flag
number_written space n count z s h c t = record { fits = omega arith; legal = tt }

heads_left : (xs ys : List Head) → HeadsFit (xs ++ ys) → HeadsFit xs
heads_left [] ys a = tt
heads_left (x ∷ xs) ys a = (a.0, heads_left xs ys a.1)

heads_right : (xs ys : List Head) → HeadsFit (xs ++ ys) → HeadsFit ys
heads_right [] ys a = a
heads_right (x ∷ xs) ys a = heads_right xs ys a.1

module _ (Q : ℕ → Type 0) (ds : List Declaration) (here : Env) (outside : Outside) (fz : ℕ) where
  operand_parts : (space n z : ℕ) → All (Written out_name) (operand_row (ref space (Num n) [] z)) → (space < 256) × (z < 2 ^ 32)
  unfolding operand_row path_rows
  operand_parts space n z (w & done) = let l = ref_low space n 0 z w in (l.1, l.2)

  named_rows : (space name z : ℕ) → LegalIndex top_name (Id name) → space < 256 → z < 2 ^ 32 → All (Written top_name) (operand_row (ref space (Id name) [] z))
  unfolding operand_row path_rows
  named_rows space name z l s t = name_written space name z l s t & done

  pathed_rows : (space n p : ℕ) (ps : List ℕ) (z k : ℕ) → PathParts k n p ps → space < 256 → z < 2 ^ 32 → All (Written top_name) (operand_row (ref space (Num n) (p ∷ ps) z))
  unfolding operand_row fresh
  pathed_rows space n p ps z k P s t = let l = P.short in number_written space n (length (p ∷ ps)) z s P.number_low (omega arith) t & P.paths

  group_written : (k : ℕ) (b : Head) (hs : List Head) (g : Group) (o : Operand) → Grouped Q ds here outside k b hs g → ForIt here outside fz Q ds g o → HeadsFit (b ∷ hs)
      → All (Written out_name) (operand_row o) → All (Written top_name) (operand_row g.was)
  group_written k b hs g o (by_name_lem space name z at l four t f w i j e) F a r =
      let parts = operand_parts space F.n z (rw (F.is, e) at r) in
      rw e (named_rows space name z l parts.0 parts.1)
  group_written k b hs g o (by_path space n p ps z m s h c e) F a r =
      let parts = operand_parts space F.n z (rw (F.is, e) at r) in
      let F₁ = first here outside space (Num n) p ps z k (b ∷ hs) c in
      let P = path_parts here outside space n p ps z k (Num n) (b ∷ hs) F₁ a in
      rw (e, number_same here.entries _ n z F₁.n F₁.number) (pathed_rows space F₁.n p ps z k P parts.0 parts.1)

  restored_written : {gs : List Group} {os os' : List Operand} (k : ℕ) (hs : List Head) → Split Q ds here outside k hs gs → Assigned (table_of here) (tables outside) gs os os' → AllNumbered os → LowOperands os
      → HeadsFit hs → All (Written out_name) (operand_rows os) → All (Written top_name) (operand_rows os')
  unfolding operand_rows
  restored_written k hs S no_groups n l a r = done
  restored_written k hs S (kept {o = o} {os = os} x) n l a r =
      all_append (operand_row o) _ (operand_written o l.0 (all_left (operand_row o) (operand_rows os) r)) (restored_written k hs S x n.1 l.1 a (all_right (operand_row o) (operand_rows os) r))
  restored_written k hs₀ (next-group b hs more g gs G S) (put {o = o} {os = os} t x) n l a r =
      all_append (operand_row g.was) _
      (group_written k b hs g o G (for_it here outside fz Q ds g o n.0 t) (heads_left (b ∷ hs) more a) (all_left (operand_row o) (operand_rows os) r))
      (restored_written _ more S x n.1 l.1 (heads_right (b ∷ hs) more a) (all_right (operand_row o) (operand_rows os) r))

-- ---- a field

-- of the tables, and its rows can be written
pub record Fine (rules : RuleSet) (kind : ℕ) (h : Head) : Type 0 where
  pub good : GoodHead rules kind h
  pub rows : All (Written top_name) (head_rows h)

-- the operands of a field are those of the tables
abbrev Uses : RuleSet → Head → List Operand → Type 0
Uses rules h os = (left : List Part) × (after_operands (parts rules h.code h.builtin h.decls) os ≡ some left) × (complete left ≡ true)

module _ (rules : RuleSet) (kind : ℕ) where
  fine : (h : Head) (os os' : List Operand) → GoodHead rules kind (with_operands h os) → LowDecls h.decls → All (Written out_name) (head_rows (with_operands h os))
      → ((left : List Part) → after_operands (parts rules h.code h.builtin h.decls) os ≡ some left → complete left ≡ true → Uses rules h os')
      → (All (Written out_name) (operand_rows os) → All (Written top_name) (operand_rows os')) → Fine rules kind (with_operands h os')
  unfolding with_operands head_rows
  fine h os os' g l (f & a) fits writes =
      let U = fits g.left g.uses g.ends in
      let tail = all_right (decl_rows h.decls) (operand_rows os ++ export_rows h.export) a in
      record {
        good = record { may = g.may; built = g.built; declared = g.declared; enough_declared = g.enough_declared; left = U.0; uses = U.1; ends = U.2; exporting = g.exporting };
        rows = as_input _ f tt
            & all_append (decl_rows h.decls) _ (decls_written h.decls l (all_left (decl_rows h.decls) _ a))
            (all_append (operand_rows os') _ (writes (all_left (operand_rows os) _ tail)) (export_written h.export (all_right (operand_rows os) _ tail)));
      }

  restored_is : (here : List Declaration) (outside : List (List Declaration)) (hs : List Head) (h : Head) (os : List Operand)
      → restored_head here outside hs (with_operands h os) ≡ with_operands h (restored here outside os (groups here outside hs))
  unfolding restored_head with_operands
  restored_is here outside hs h os = refl

  none_restored : (here : Env) (outside : Outside) (h : Head) (os : List Operand) → restored (table_of here) (tables outside) os (groups (table_of here) (tables outside) []) ≡ os
  unfolding groups
  none_restored here outside h os = restored_none (λ _. Unit {0}) [] here outside os

  -- a field of an output that was made of the field `h`, with its references restored
  pub restored_fine : (ds : List Declaration) (here : Env) (outside : Outside) (b k : ℕ) (h : Head) (hs : List Head) (h' : Head) → HeadMade (MayPath rules h) ds here outside b k h hs h'
      → GoodHead rules kind h → GoodHead rules kind h' → LowDecls h.decls → HeadsFit hs → All (Written out_name) (head_rows h') → Fine rules kind (restored_head (table_of here) (tables outside) hs h')
  restored_fine ds here outside b k h hs h' (here_alone os c none_made same is low fixed) g₀ g l a r =
      rw (is, none_made, restored_is (table_of here) (tables outside) [] h os, none_restored here outside h os)
      (fine h os os (rw is at g) l (rw is at r) (λ left e f. (left, e, f)) (operands_written os low))
  restored_fine ds here outside b k h hs h' (walked os c count is low fixed numbered S P L) g₀ g l a r =
      rw (is, restored_is (table_of here) (tables outside) hs h os)
      (fine h os xs (rw is at g) l (rw is at r) (λ left e f. go left e f (parts_kind rules h.code h.builtin h.decls))
      (restored_written (MayPath rules h) ds here outside 0 b hs S A numbered low a))
    where
      xs : List Operand
      xs = restored (table_of here) (tables outside) os (groups (table_of here) (tables outside) hs)

      A : Assigned (table_of here) (tables outside) (groups (table_of here) (tables outside) hs) os xs
      A = assigned (table_of here) (tables outside) os (groups (table_of here) (tables outside) hs) P

      go : (left : List Part) → after_operands (parts rules h.code h.builtin h.decls) os ≡ some left → complete left ≡ true → Kind (parts rules h.code h.builtin h.decls) → Uses rules h xs
      go left e f (usual u) = (left, restored_fits (MayPath rules h) ds here outside 0 b hs _ left S A numbered u (λ s m. m) e, f)
      go left e f (ascribes t i) =
          let was = ascribed_inv t h.operands g₀.left (rw i at g₀.uses) g₀.ends in
          let now = ascribed_inv t os left (rw i at e) f in
          rw i (ascribed_fits t xs (ascribed_restored (MayPath rules h) ds here outside 0 t h.operands os hs was now L (all_came (MayPath rules h) ds here outside 0 b hs S A numbered)))
