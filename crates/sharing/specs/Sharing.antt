-- Fewer aliases (request R-12, whose clauses are quoted): the planner's form, in which references share outer aliases.
-- The steps stay as they are. They are run on a tree in which every later reference to an outer declaration names the alias that the
-- first one in its scope will get; so step B leaves it, and step C numbers it like any other name.
use Rattle.std.specs.Prelude.{◌&&◌, List, [], ◌∷◌, ℕ, suc, ◌+◌, ◌*◌, eqb, length}
use Rattle.std.proofs.Math.Option.{Option, none, some}
use Rattle.rules.specs.Tools.{when◌then◌else◌, is_just}
use Rattle.rules.specs.Versions.{RuleSet, Setting}
use Rattle.rules.specs.Rows.{Num, Id}
use Rattle.rules.specs.Tree.{Declaration, Operand, ref, outer, case, Head, Scope, scope, Fields, end, ◌▸◌, Item, plain, holds, head_of, with_operands, flatten}
use Rattle.rules.specs.Shapes.{here_only}
use Rattle.rules.specs.Rules.{Result, find, fresh, declarations, resolve}
use Rattle.rules.specs.Answer.{Answer, refused, accepted, map_answer, resolved, setting_of, row_count, answer, output_after}
use Rattle.read_form.specs.ReadForm.{read_form, ◌and_then◌}

-- ---- what is remembered of a scope

-- A name that is declared further out, and the insertion that is its alias. In one scope a name of a space reaches one outer
-- declaration, and no other name reaches it.
pub record Served : Type 0 where
  pub space : ℕ
  pub name : ℕ
  pub k : ℕ

-- the alias of a name, if it has one already
unfoldable pub served_by : List Served → (space name : ℕ) → Option ℕ
served_by [] space name = none
served_by (s ∷ ss) space name = when eqb s.space space && eqb s.name name then some s.k else served_by ss space name

-- an operand, several, or a field: as it is now, what is remembered after it, and the next insertion
pub record Marked (A : Type 0) : Type 0 where
  pub now : A
  pub seen : List Served
  pub k : ℕ

-- ---- "in each scope, references that reach the same outer declaration share one inserted alias"

-- a name that is not declared here: the first reference will have insertion k as its alias, a later one names that
unfoldable pub mark_outer : List Served → (k space name z : ℕ) → Option ℕ → Marked Operand
mark_outer seen k space name z none =
    record { now = ref space (Id name) [] z; seen = record { space = space; name = name; k = k } ∷ seen; k = suc k }
mark_outer seen k space name z (some j) = record { now = ref space (Id (fresh j)) [] z; seen = seen; k = k }

module _ (here : List Declaration) where
  -- One operand. "Paths are not shared": each PATH is an insertion. "Written numbers keep their digits."
  unfoldable pub mark_operand : List Served → (k : ℕ) → Operand → Marked Operand
  mark_operand seen k (ref space (Num n) [] z) = record { now = ref space (Num n) [] z; seen = seen; k = k }
  mark_operand seen k (ref space (Id name) [] z) =
      when is_just (find here space name) then record { now = ref space (Id name) [] z; seen = seen; k = k }
      else mark_outer seen k space name z (served_by seen space name)
  mark_operand seen k (ref space at (p ∷ ps) z) = record { now = ref space at (p ∷ ps) z; seen = seen; k = suc (k + length ps) }
  mark_operand seen k (outer space up at z) = record { now = outer space up at z; seen = seen; k = k }
  mark_operand seen k (case name z) = record { now = case name z; seen = seen; k = k }

  -- the operands of a field, in order
  unfoldable pub mark_operands : List Served → (k : ℕ) → List Operand → Marked (List Operand)
  mark_operands seen k [] = record { now = []; seen = seen; k = k }
  mark_operands seen k (o ∷ os) =
      let m = mark_operand seen k o in
      let ms = mark_operands m.seen m.k os in
      record { now = m.now ∷ ms.now; seen = ms.seen; k = ms.k }

  -- a field: here_only_lem operands are passed over
  unfoldable pub mark_head : List Served → (k : ℕ) → Head → Marked Head
  mark_head seen k h =
      when here_only h.code then record { now = h; seen = seen; k = k }
      else let m = mark_operands seen k h.operands in record { now = with_operands h m.now; seen = m.seen; k = m.k }

  -- the next insertion after those of all fields
  unfoldable pub insertions : List Served → (k : ℕ) → Fields → ℕ
  insertions seen k end = k
  insertions seen k (i ▸ fs) = let m = mark_head seen k (head_of i) in insertions m.seen m.k fs

-- As in step C, `b` is the next insertion of the scope at this field, `k` that of the scopes inside.
unfoldable mutual
  -- a scope, and the next insertion
  pub mark_scope : Scope → (k : ℕ) → Scope × ℕ
  mark_scope (scope kind name fs) k =
      let r = mark_fields fs (declarations fs) [] k (insertions (declarations fs) [] k fs) in (scope kind name r.0, r.1)

  -- fields, in order; `seen` is what is remembered before them
  pub mark_fields : Fields → (here : List Declaration) (seen : List Served) (b k : ℕ) → Fields × ℕ
  mark_fields end here seen b k = (end, k)
  mark_fields (i ▸ fs) here seen b k =
      let m = mark_head here seen b (head_of i) in
      let r = mark_item i m.now k in
      let rs = mark_fields fs here m.seen m.k r.1 in
      (r.0 ▸ rs.0, rs.1)

  -- a field whose own rows became `h'`, with the scope that it holds
  pub mark_item : Item → Head → (k : ℕ) → Item × ℕ
  mark_item (plain h) h' k = (plain h', k)
  mark_item (holds h s) h' k = let r = mark_scope s k in (holds h' r.0, r.1)

-- the form that the steps are run on
unfoldable pub mark : Scope → Scope
mark s = (mark_scope s 0).0

-- ---- the planner

-- the form that it proposes for a tree that the steps accept
unfoldable pub propose : RuleSet → Scope → Result (Scope × ℕ)
propose rules s = resolve rules (mark s)

-- the planner's answer to an input under this setting; refusal 1, if the header is not that of any
unfoldable pub proposed : Option Setting → (input : List ℕ) → Answer
proposed none input = refused 1 0 []
proposed (some s) input = map_answer flatten (read_form s input and_then λ t. resolved (propose s.rules t))

-- the resolver's own refusal; where it accepts, what the planner proposes
unfoldable pub shared_after : Answer → List Setting → (input : List ℕ) → Answer
shared_after (refused number place carried) settings input = refused number place carried
shared_after (accepted rs) settings input = proposed (setting_of settings input) input

-- The answer to an input, as `answer` has it: the input's refusal, or the rows that are written.
unfoldable pub shared : List Setting → (input : List ℕ) (room : ℕ) → Answer
shared settings input room = shared_after (answer settings input room) settings input

-- ---- the output buffer

-- What it holds after an answer is what `output` has for such an answer: refusals 1 to 5 leave it as it was, the others zero the form's
-- part of it, and a form is written to its front with zeros behind it. Bytes beyond that part stay.
unfoldable pub shared_for : Option Setting → List Setting → (input old : List ℕ) → List ℕ
shared_for none settings input old = old
shared_for (some s) settings input old =
    output_after s (shared settings input (length old)) (s.version.header + 64 * row_count s.version input) old

-- what the output buffer holds then, where it held `old` before
unfoldable pub shared_output : List Setting → (input old : List ℕ) → List ℕ
shared_output settings input old = shared_for (setting_of settings input) settings input old

-- Unfolds all of this module: for a claim that antt computes.
unfoldable pub computes : Unit {0}
unfolding served_by mark_outer mark_operand mark_operands mark_head insertions mark_scope mark propose proposed shared_after shared shared_for shared_output
computes = tt
