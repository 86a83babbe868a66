-- What a member's name means: the two readings, and the explainer's, with the prelude's root around the member's.
-- The member lies in the prelude's root like one more field behind all others. So places are told from the prelude's root, and those of
-- the member have that field's number before them.
use Rattle.std.specs.Prelude.{Bool, true, List, [], ◌∷◌, ℕ, length}
use Rattle.std.proofs.Math.Option.{Option, none, some, map}
use Rattle.std.proofs.Math.ListN.{get_elem?}
use Rattle.rules.specs.Tools.{when◌then◌else◌, ◌then◌}
use Rattle.rules.specs.Rows.{Index, Num, Id}
use Rattle.rules.specs.Tree.{Declaration, Operand, ref, outer, case, Scope, head_of}
use Rattle.rules.specs.Shapes.{here_only}
use Rattle.rules.specs.Good.{name_of}
use Rattle.rules.specs.Readings.{originals, Place, Level, fields_of, root, around, use_inside, declared, outward, outward_inside, is_earlier, counting_inside}
use Rattle.moving.specs.Moved.{names_to, nearest_named, instance_space}
use Rattle.rules.specs.Explainer.{items, Standing, standing_inside, explained, among_inside}

-- where a declaration stands: in the prelude, or in the member itself
pub data Meant : Type 0 where
  in_prelude : Place → Meant
  in_member : Place → Meant

-- the way to the member's root
unfoldable pub seat : (prelude : Scope) → List ℕ
seat prelude = length (originals (fields_of prelude)) ∷ []

-- whether a place is the prelude's or the member's: only the prelude's root lies around the member, and the way to it is empty
unfoldable pub placed : (way : List ℕ) (field at : ℕ) → Meant
placed [] field at = in_prelude (record { way = []; field = field; at = at })
placed (n ∷ way) field at = in_member (record { way = way; field = field; at = at })

-- the declaration at a place that is told from the prelude's root
unfoldable pub meant_by : Place → Meant
meant_by p = placed p.way p.field p.at

-- the outward reading, over the two inputs: `p` is a place of the member
unfoldable pub member_outward : (prelude member : Scope) → (p : Place) → Option Meant
member_outward prelude member p = map meant_by (outward_inside (seat prelude) (root prelude ∷ []) member p)

-- Does it stand earlier than the member's place `p`? All fields of the prelude do.
unfoldable pub meant_earlier : Meant → (p : Place) → Bool
meant_earlier (in_prelude d) p = true
meant_earlier (in_member d) p = is_earlier d p

-- the counting reading, in the two outputs
unfoldable pub member_counting : (prelude member : Scope) → (p : Place) → Option Meant
member_counting prelude member p = map meant_by (counting_inside (seat prelude) (root prelude ∷ []) member p)

-- ---- any name of a member: a walked one, or one that is looked up in one scope

-- how far out an OUTER goes
unfoldable pub out_to : (names : List ℕ) → Index → Option ℕ
out_to names (Num d) = some d
out_to names (Id name) = nearest_named names name

-- what the scope `d` further out declares
unfoldable pub declared_out : List Level → (d space name : ℕ) → Option Place
declared_out ls d space name = get_elem? ls d then λ l. declared l space name

-- What the name in an operand means, where its field has this code and the scopes around it are `ls`, with these names: outward, if it is
-- walked; in its own scope, if it is here_only_lem or the instance of a path; and the index of an OUTER in the scope that is asked for.
unfoldable pub name_in : (code : ℕ) (names : List ℕ) (ls : List Level) → Operand → Option Place
name_in code names ls (ref space (Num n) paths z) = none
name_in code names ls (ref space (Id name) [] z) = when here_only code then declared_out ls 0 space name else outward ls space name
name_in code names ls (ref space (Id name) (p ∷ ps) z) = declared_out ls 0 (instance_space space) name
name_in code names ls (outer space up (Num n) z) = none
name_in code names ls (outer space up (Id name) z) = out_to names up then λ d. declared_out ls d space name
name_in code names ls (case name z) = none

-- what the name in the operand at a place of the member means
unfoldable pub member_means : (prelude member : Scope) → (p : Place) → Option Meant
member_means prelude member p =
    map meant_by
    (use_inside (seat prelude) (root prelude ∷ []) member p then λ u. names_to p.way member (name_of prelude ∷ []) then λ names.
    name_in u.head.code names u.levels u.operand)

-- ---- the row itself

-- the DECL `at` of a field in the first of these scopes
unfoldable pub decl_in : List Level → (field at : ℕ) → Option Declaration
decl_in [] field at = none
decl_in (l ∷ ls) field at = get_elem? (originals l.fields) field then λ i. get_elem? (head_of i).decls at

-- the DECL at a place of a form
unfoldable pub decl_at : Scope → Place → Option Declaration
decl_at s p = around p.way (root s) [] then λ ls. decl_in ls p.field p.at

-- the DECL that is meant, out of the prelude's form or out of the member's
unfoldable pub meant_decl : (prelude member : Scope) → Meant → Option Declaration
meant_decl prelude member (in_prelude p) = decl_at prelude p
meant_decl prelude member (in_member p) = decl_at member p

-- ---- the explainer: every field counts, also in the way to the member's root

-- the way to the member's root, if every field of the prelude counts
unfoldable pub full_seat : (prelude : Scope) → List ℕ
full_seat prelude = length (items (fields_of prelude)) ∷ []

-- the field number `n` of the component at the end of `way`, in the member's output
unfoldable pub member_standing : (prelude member : Scope) → (way : List ℕ) (n : ℕ) → Option Standing
member_standing prelude member way n = standing_inside (full_seat prelude) (root prelude ∷ []) member way n

-- the place of a definition in either output; `base` is the way to the member's root without inserted fields
unfoldable pub among_both : (base : List ℕ) (prelude member : Scope) → (way : List ℕ) (field at : ℕ) → Option Place
among_both base prelude member [] field at = among_inside [] prelude [] field at
among_both base prelude member (n ∷ way) field at = among_inside base member way field at

-- what an outer alias of the member denotes
unfoldable pub member_denotes : (prelude member : Scope) → Standing → Option Meant
member_denotes prelude member u = map meant_by (explained u then λ d. among_both (seat prelude) prelude member d.way d.field d.at)

-- Unfolds all of this module: for a claim that antt computes.
unfoldable pub computes : Unit {0}
unfolding seat placed meant_by member_outward meant_earlier member_counting out_to declared_out name_in member_means decl_in decl_at meant_decl full_seat member_standing among_both member_denotes
computes = tt
