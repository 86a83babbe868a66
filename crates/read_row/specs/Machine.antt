-- What a row leads to as the code has it: what the rules' `Reader` holds of a state, without the tree that it makes.
use Rattle.std.specs.Prelude.{Bool, true, false, ◌&&◌, ◌||◌, not, List, ℕ, ◌+◌, ◌-◌, eqb, leb, ltb, length, get_or, set}
use Rattle.std.proofs.Math.Option.{Option, none, some}
use Rattle.kit.specs.Pick.{pick}
use Rattle.kit.specs.Out.{Out, ◌&◌}
use Rattle.rules.specs.Tools.{◌then◌}
use Rattle.rules.specs.Versions.{RuleSet}
use Rattle.rules.specs.Shapes.{Want, Part, declares, opens, allowed, builtin_ok, exports, fits_ref, fits_outer, is_case, next, may_declare}
use Rattle.rules.specs.Reader.{is_complete, is_none, same_kind}
use Rattle.wants.specs.States.{left_of}
use Rattle.shapes.specs.Starts.{parts_by, bare_parts}
use Rattle.rows.specs.declared.row.Row.{Row}
use Rattle.rows.specs.declared.row.Row.TheVariants as row
use Rattle.read_row.specs.declared.Field.{Field}
use Rattle.read_row.specs.declared.ReadState.{ReadState}

-- ---- how far the rows are read

-- how far a field is read, with what it still wants
pub data Standing : Type 0 where
  declaring : Option (List Part) → Standing
  wanting : Option (List Part) → Standing
  pathing : (left : ℕ) → Option (List Part) → Standing
  exported : Standing

-- whether a field is being read, and how far it is
pub data Current : Type 0 where
  between_fields : Current
  within : Field → Standing → Current

-- how far the rows are read: how many scopes are open, the kind of the innermost, and the field there
pub data Position : Type 0 where
  position : (depth kind : ℕ) → Current → Position

-- what a row leads to: on from a position, or the end, which is a form, a wrong row or a scope too many
pub data Outcome : Type 0 where
  on : Position → Outcome
  whole : Outcome
  wrong : Outcome
  deep : Outcome

-- ---- what the code's values stand for

-- by the number of the stage
unfoldable pub standing_of : (stage paths : ℕ) → Option (List Part) → Standing
standing_of stage paths o = pick (eqb stage 0) (declaring o) (pick (eqb stage 1) (wanting o) (pick (eqb stage 2) (pathing paths o) exported))

-- the field of a state
unfoldable pub current_in : ReadState → Current
current_in s = pick (leb s.stage 3) (within s.field (standing_of s.stage s.paths (left_of s.left))) between_fields

-- the position of a state that is not at its end
unfoldable pub position_of : ReadState → Position
position_of s = position s.depth s.kind (current_in s)

-- what a state stands for
unfoldable pub outcome_of : ReadState → Outcome
outcome_of s = pick (ltb s.stage 5) (on (position_of s)) (pick (eqb s.stage 5) whole (pick (eqb s.stage 7) deep wrong))

-- ---- a field

-- a field of which only its FIELD is read
unfoldable pub new_field : (code builtin : ℕ) → Field
new_field code builtin = record { code = code; builtin = builtin; decls = 0; name = 0 }

-- one DECL more; 2 stands for all that are more
unfoldable pub more_decls_t : ℕ → ℕ
more_decls_t decls = pick (ltb decls 2) (decls + 1) decls

-- the field with one DECL more; its first DECL gives it its name
unfoldable pub declared_t : Field → (name : ℕ) → Field
declared_t f name =
    pick (eqb f.decls 0)
    (record { code = f.code; builtin = f.builtin; decls = 1; name = name })
    (record { code = f.code; builtin = f.builtin; decls = more_decls_t f.decls; name = f.name })

-- what it wants with a DECL of this space more
unfoldable pub declared_left : RuleSet → Field → Option (List Part) → (space : ℕ) → Option (List Part)
declared_left rules f o space = pick (eqb f.decls 0) (some (parts_by rules f.code f.builtin space true)) o

-- what the field wants where it stands
unfoldable pub wanted_t : Current → Option (List Part)
wanted_t between_fields = none
wanted_t (within f (declaring o)) = o
wanted_t (within f (wanting o)) = o
wanted_t (within f (pathing left o)) = none
wanted_t (within f exported) = none

unfoldable pub is_exported : Standing → Bool
is_exported (declaring o) = false
is_exported (wanting o) = false
is_exported (pathing left o) = false
is_exported exported = true

-- has the field all that it wants?
unfoldable pub settled_t : Current → Bool
settled_t between_fields = false
settled_t (within f stage) = is_complete (wanted_t (within f stage)) && not (exports f.code) || is_exported stage

-- may a field end here without a scope of its own?
unfoldable pub may_end_t : Current → Bool
may_end_t between_fields = true
may_end_t (within f stage) = settled_t (within f stage) && is_none (opens f.code)

-- ---- what a row leads to

-- a FIELD: the field before it may end, and the scope allows this one
unfoldable pub on_field_t : Position → (code builtin : ℕ) → Outcome
on_field_t (position d k c) code builtin =
    pick (may_end_t c && (allowed k code && builtin_ok code builtin)) (on (position d k (within (new_field code builtin) (declaring (bare_parts code))))) wrong

-- a DECL: it stands before the operands, and the field may declare it
unfoldable pub on_decl_t : RuleSet → Position → (space name : ℕ) → Outcome
on_decl_t rules (position d k between_fields) space name = wrong
on_decl_t rules (position d k (within f (declaring o))) space name =
    pick (may_declare (declares f.code) f.decls space) (on (position d k (within (declared_t f name) (declaring (declared_left rules f o space))))) wrong
on_decl_t rules (position d k (within f (wanting o))) space name = wrong
on_decl_t rules (position d k (within f (pathing left o))) space name = wrong
on_decl_t rules (position d k (within f exported)) space name = wrong

-- a REF of which `paths` PATHs are still to come
unfoldable pub pathed_t : (depth kind : ℕ) → Field → (paths : ℕ) → List Part → Outcome
pathed_t d k f paths ps = pick (eqb paths 0) (on (position d k (within f (wanting (some ps))))) (on (position d k (within f (pathing paths (some ps)))))

-- on with what the field then wants, if the row was one that it wants
unfoldable pub stays : Option (List Part) → (List Part → Outcome) → Outcome
stays none go = wrong
stays (some ps) go = go ps

-- a row among the operands: what it `fits`, and what comes of it
unfoldable pub on_operand_t : Current → (fits : Want → Bool) → (Field → List Part → Outcome) → Outcome
on_operand_t between_fields fits go = wrong
on_operand_t (within f stage) fits go = stays (wanted_t (within f stage) then λ ps. next fits ps) (go f)

-- a REF, which the field wants
unfoldable pub on_ref_t : Position → (space paths : ℕ) → Outcome
on_ref_t (position d k c) space paths = on_operand_t c (λ w. fits_ref w space paths) (λ f. pathed_t d k f paths)

-- an OUTER, which the field wants
unfoldable pub on_outer_t : Position → (space : ℕ) → Outcome
on_outer_t (position d k c) space = on_operand_t c (λ w. fits_outer w space) (λ f. pathed_t d k f 0)

-- a CASE, which the field wants
unfoldable pub on_case_t : Position → Outcome
on_case_t (position d k c) = on_operand_t c is_case (λ f. pathed_t d k f 0)

-- a PATH: the REF before it has one more to come
unfoldable pub on_path_t : Position → Outcome
on_path_t (position d k between_fields) = wrong
on_path_t (position d k (within f (declaring o))) = wrong
on_path_t (position d k (within f (wanting o))) = wrong
on_path_t (position d k (within f (pathing left o))) = pick (eqb left 0) wrong (stays o (pathed_t d k f (left - 1)))
on_path_t (position d k (within f exported)) = wrong

-- may the field's EXPORT stand here?
unfoldable pub may_export_t : Current → Bool
may_export_t between_fields = false
may_export_t (within f stage) = is_complete (wanted_t (within f stage)) && exports f.code

-- the EXPORT of a field that has all its operands
unfoldable pub on_export_t : Position → Outcome
on_export_t (position d k between_fields) = wrong
on_export_t (position d k (within f stage)) = pick (may_export_t (within f stage)) (on (position d k (within f exported))) wrong

-- may a scope of this kind and name be opened here?
unfoldable pub may_open_t : Current → (kind name : ℕ) → Bool
may_open_t between_fields kind name = false
may_open_t (within f stage) kind name = settled_t (within f stage) && same_kind (opens f.code) kind && eqb name f.name

-- between two fields of a scope
unfoldable pub between_t : (depth kind : ℕ) → Outcome
between_t d k = on (position d k between_fields)

-- `kinds` holds the kind of each scope around the one at hand
unfoldable pub on_open_t : Position → (kinds : List ℕ) (kind name : ℕ) → Out Outcome (List ℕ)
on_open_t (position d k c) kinds kind name =
    pick (may_open_t c kind name)
    (pick (leb (length kinds) d) (deep & kinds) (between_t (d + 1) kind & set kinds d k))
    (wrong & kinds)

-- a CLOSE: of the root it ends the form, of any other scope the field that holds it
unfoldable pub on_close_t : Position → (kinds : List ℕ) → Outcome
on_close_t (position d k c) kinds =
    pick (may_end_t c) (pick (leb d 1) whole (between_t (d - 1) (get_or kinds (d - 1) 0))) wrong

-- what each kind of row leads to
unfoldable pub read_step_t : RuleSet → Position → (kinds : List ℕ) → Row → Out Outcome (List ℕ)
read_step_t rules p kinds (row.Field code builtin z) = on_field_t p code builtin & kinds
read_step_t rules p kinds (row.Decl space name z) = on_decl_t rules p space name & kinds
read_step_t rules p kinds (row.Ref space at paths z) = on_ref_t p space paths & kinds
read_step_t rules p kinds (row.Path name) = on_path_t p & kinds
read_step_t rules p kinds (row.Outer space up at z) = on_outer_t p space & kinds
read_step_t rules p kinds (row.Case name z) = on_case_t p & kinds
read_step_t rules p kinds (row.Open kind name) = on_open_t p kinds kind name
read_step_t rules p kinds row.Close = on_close_t p kinds & kinds
read_step_t rules p kinds (row.Export name) = on_export_t p & kinds
read_step_t rules p kinds row.Broken = wrong & kinds

-- the root is open, and nothing in it is read
abbrev pub in_root : Position
in_root = position 1 0 between_fields
