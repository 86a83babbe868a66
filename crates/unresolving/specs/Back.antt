-- From a resolved form back to names: `unresolve` gives a form that resolves to it, if there is one.
-- Inserted fields are left out, and the references that they served become names and paths again. Every other number stays.
-- None of it need be believed: what `BackAnswer` gives is tested, and `Laws/Back/Answered` says that it is given whenever it can be.
use Rattle.std.specs.Prelude.{Bool, false, ◌&&◌, List, [], ◌∷◌, ◌++◌, reverse, ℕ, eqb}
use Rattle.std.proofs.Math.Option.{Option, none, some}
use Rattle.std.proofs.Math.ListN.{get_elem?}
use Rattle.rules.specs.Tools.{when◌then◌else◌, ◌then◌}
use Rattle.rules.specs.Rows.{Index, Num, Id}
use Rattle.rules.specs.Tree.{Declaration, Operand, ref, outer, case, Head, Scope, scope, Fields, end, ◌▸◌, Item, plain, holds, head_of, with_operands}
use Rattle.rules.specs.Rules.{find, declarations}
use Rattle.rules.specs.Readings.{is_inserted}

-- ---- parts of an inserted field: it has one DECL and one operand

-- the number, or 0 if there is none
unfoldable pub or_zero : Option ℕ → ℕ
or_zero none = 0
or_zero (some n) = n

-- the first of these DECLs
unfoldable pub first_decl : List Declaration → Declaration
first_decl [] = record { space = 0; name = 0; z = 0 }
first_decl (d ∷ ds) = d

-- the first of these operands
unfoldable pub first_operand : List Operand → Operand
first_operand [] = case 0 0
first_operand (o ∷ os) = o

-- the digits of an operand, of a number or a name
unfoldable pub digits : Index → ℕ
digits (Num n) = n
digits (Id n) = n

-- what a REF refers to, what an OUTER has for its index
unfoldable pub index_of : Operand → Index
index_of (ref space at paths z) = at
index_of (outer space up at z) = at
index_of (case name z) = Num 0

-- ---- what a number counts to

-- is that number what was found?
unfoldable pub is_number : Option ℕ → ℕ → Bool
is_number none n = false
is_number (some m) n = eqb m n

-- the names of a space, in order
unfoldable pub names_in : List Declaration → (space : ℕ) → List ℕ
names_in [] space = []
names_in (d ∷ ds) space = when eqb d.space space then d.name ∷ names_in ds space else names_in ds space

-- the name of the item `n` of the scope `d` further out, where `tables` are the declarations of the scopes, the innermost first
unfoldable pub name_out : (tables : List (List Declaration)) → (space d n : ℕ) → ℕ
name_out tables space d n = or_zero (get_elem? tables d then λ ds. get_elem? (names_in ds space) n)

-- ---- inserted fields in groups: those of one group served one reference

-- the DECL of the group's last field, and the reference as it was written
pub record Group : Type 0 where
  pub decl : Declaration
  pub was : Operand

-- what one inserted field served: a name further out, or a path of one
unfoldable pub served : (tables : List (List Declaration)) → Head → Operand → Operand
served tables a (outer space up at z) = ref space (Id (name_out tables space (digits up) (digits at))) [] z
served tables a (ref space at paths z) = ref (first_decl a.decls).space at (or_zero a.export ∷ []) z
served tables a (case name z) = case name z

-- a path with the export of `a` before the others
unfoldable pub lengthened : Head → Operand → Operand
lengthened a (ref space at paths z) = ref space (index_of (first_operand a.operands)) (or_zero a.export ∷ paths) z
lengthened a (outer space up at z) = outer space up at z
lengthened a (case name z) = case name z

-- these groups, the first of them with a path that is longer by the alias `a`
unfoldable pub prepend : Head → List Group → List Group
prepend a [] = []
prepend a (g ∷ gs) = record { decl = g.decl; was = lengthened a g.was } ∷ gs

-- `here` are the declarations of the scope, `outside` those of the scopes around it
module _ (here : List Declaration) (outside : List (List Declaration)) where
  -- does the operand stand on the item of that name?
  unfoldable pub stands_on : (name : ℕ) → Operand → Bool
  stands_on name (ref space at paths z) = is_number (find here space name) (digits at)
  stands_on name (outer space up at z) = false
  stands_on name (case n z) = false

  -- `b` goes on with the path of `a`: it is an alias of an export of the instance `a`, at the same place
  unfoldable pub links : (a b : Head) → Bool
  links a b =
      let d = first_decl a.decls in
      eqb a.code 9 && (eqb b.code 9 && (eqb d.space 10 && (eqb a.z b.z && stands_on d.name (first_operand b.operands))))

  -- a group of one field
  unfoldable pub alone : Head → Group
  alone a = record { decl = first_decl a.decls; was = served (here ∷ outside) a (first_operand a.operands) }

  -- inserted fields in groups, which are as long as they can be
  unfoldable pub groups : List Head → List Group
  groups [] = []
  groups (a ∷ []) = alone a ∷ []
  groups (a ∷ (b ∷ more)) = let gs = groups (b ∷ more) in when links a b then prepend a gs else alone a ∷ gs

  -- does the operand count to that DECL, from the same place?
  unfoldable pub is_for : Declaration → Operand → Bool
  is_for d (ref space at paths z) = eqb d.space space && (eqb d.z z && is_number (find here space d.name) (digits at))
  is_for d (outer space up at z) = false
  is_for d (case name z) = false

  -- each group belongs to the first operand, behind those of the groups before it, that counts to its last field
  unfoldable pub first_fit : List Operand → List Group → List Operand
  first_fit [] gs = []
  first_fit (o ∷ os) [] = o ∷ os
  first_fit (o ∷ os) (g ∷ gs) =
      let t = is_for g.decl o in
      let os' = first_fit os (when t then gs else g ∷ gs) in
      (when t then g.was else o) ∷ os'

  -- the same from the back: to the last operand, before those of the groups behind it
  unfoldable pub restored : List Operand → List Group → List Operand
  restored os gs = reverse (first_fit (reverse os) (reverse gs))

  -- a field with its operands as they were written; `waiting` are the inserted fields straight before it
  unfoldable pub restored_head : (waiting : List Head) → Head → Head
  restored_head waiting h = with_operands h (restored h.operands (groups waiting))

-- ---- a tree

-- from numbers back to names; `waiting` are the inserted fields straight before these
unfoldable mutual
  -- a scope; `outside` are the declarations of the scopes around it
  pub unresolve_scope : Scope → (outside : List (List Declaration)) → Scope
  unresolve_scope (scope kind name fs) outside = scope kind name (unresolve_fields fs (declarations fs) outside [])

  -- fields without the inserted ones among them; `here` are the declarations of their scope
  pub unresolve_fields : Fields → (here : List Declaration) (outside : List (List Declaration)) (waiting : List Head) → Fields
  unresolve_fields end here outside waiting = end
  unresolve_fields (i ▸ fs) here outside waiting =
      let t = is_inserted (head_of i) in
      let rest = unresolve_fields fs here outside (when t then waiting ++ (head_of i ∷ []) else []) in
      when t then rest else unresolve_item i here outside waiting ▸ rest

  -- a field and the scope that it holds
  pub unresolve_item : Item → (here : List Declaration) (outside : List (List Declaration)) (waiting : List Head) → Item
  unresolve_item (plain h) here outside waiting = plain (restored_head here outside waiting h)
  unresolve_item (holds h s) here outside waiting = holds (restored_head here outside waiting h) (unresolve_scope s (here ∷ outside))

-- a form with names and paths in place of its inserted aliases
unfoldable pub unresolve : Scope → Scope
unresolve s = unresolve_scope s []

-- Unfolds all of this module: for a claim that antt computes.
unfoldable pub computes : Unit {0}
unfolding or_zero first_decl first_operand digits index_of is_number names_in name_out served lengthened prepend stands_on links alone groups is_for first_fit restored restored_head unresolve_scope unresolve
computes = tt
