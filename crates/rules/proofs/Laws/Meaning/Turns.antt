-- When a reference's turn comes in step C: all that is done before it has passed.
use Rattle.std.specs.Prelude.{◌≡◌, List, [], ◌∷◌, ℕ, suc, take}
use Rattle.std.proofs.Math.Option.{some}
use Rattle.std.proofs.Math.ListN.{get_elem?}
use Rattle.rules.specs.Tree.{Declaration, Operand, ref, outer, case, Head, Scope, scope, Fields, ◌▸◌, Item, holds, head_of}
use Rattle.rules.specs.Rules
use Rattle.rules.specs.Rules.{Before, Result, ok, Env, Outside, onward, inward, Expanded, expand_head, prepare, declarations, resolve_operands, resolve_head, resolve_inserted, resolve_item}
use Rattle.rules.proofs.Laws.Meaning.Runs.{seeing}

-- Step C of a scope has come to its field `n`, which is `i`: the fields before it have passed, with the scopes that they hold.
-- `b` is k as step B has it at the first of `fs`, `k` the next fresh number for the scopes inside; `b'` and `k'` are those at `i`, and
-- `seen` are the declarations of the fields before it.
pub data Comes (ds : List Declaration) (here : Env) : (outside : Outside) (fs : Fields) (b k n : ℕ) (i : Item) (rest : Fields) (b' k' : ℕ) (seen : Before) → Type 0 where
  at_once : {outside : Outside} {i : Item} {fs : Fields} {b k : ℕ} → Comes ds here outside (i ▸ fs) b k 0 i fs b k outside.before
  past : {outside : Outside} {i j : Item} {fs rest : Fields} {b k n b' k' : ℕ} {seen : Before} (e : Expanded Head) (new : List Head) (h : Head) (q : Item × ℕ)
      → expand_head ds outside b (head_of i) ≡ ok e → resolve_inserted here outside e.inserted ≡ ok new
      → resolve_head here outside e.now ≡ ok h → resolve_item i h here outside k ≡ ok q
      → Comes ds here (onward i outside) fs e.k q.1 n j rest b' k' seen → Comes ds here outside (i ▸ fs) b k (suc n) j rest b' k' seen

-- The run of `s` has come to the operand at that place: `here` is then the table of its scope, and `now` what step B made of it.
pub data Turn : (s : Scope) (outside : Outside) (k : ℕ) (way : List ℕ) (field at : ℕ) (here : Env) (now : Operand) → Type 0 where
  -- in this scope: steps A and B have passed, then the fields before, the field's insertions, and its operands before
  own : {kind name : ℕ} {fs : Fields} {outside : Outside} {k n o b k' : ℕ} {i : Item} {rest : Fields} {now : Operand} {seen : Before} (p : Env × ℕ) (e : Expanded Head) (new : List Head) (os : List Operand)
      → prepare name fs outside k ≡ ok p → Comes (declarations fs) p.0 outside fs k p.1 n i rest b k' seen
      → expand_head (declarations fs) (seeing outside seen) b (head_of i) ≡ ok e → resolve_inserted p.0 (seeing outside seen) e.inserted ≡ ok new
      → resolve_operands p.0 (seeing outside seen) e.now.z [] (take o e.now.operands) ≡ ok os → get_elem? e.now.operands o ≡ some now
      → Turn (scope kind name fs) outside k [] n o p.0 now
  -- in a scope that its field `n` holds: the field itself has passed
  further : {kind name : ℕ} {fs : Fields} {outside : Outside} {k n f o b k' : ℕ} {way : List ℕ} {h₀ : Head} {s : Scope} {rest : Fields} {here : Env} {now : Operand} {seen : Before}
      (p : Env × ℕ) (e : Expanded Head) (new : List Head) (h : Head)
      → prepare name fs outside k ≡ ok p → Comes (declarations fs) p.0 outside fs k p.1 n (holds h₀ s) rest b k' seen
      → expand_head (declarations fs) (seeing outside seen) b h₀ ≡ ok e → resolve_inserted p.0 (seeing outside seen) e.inserted ≡ ok new
      → resolve_head p.0 (seeing outside seen) e.now ≡ ok h
      → Turn s (inward h₀ p.0 (seeing outside seen)) k' way f o here now
      → Turn (scope kind name fs) outside k (n ∷ way) f o here now

-- the number that an operand gets at its turn, if it is a reference
abbrev pub lookup : Env → Operand → Result ℕ
lookup here (ref space at paths z) = Rules.number_in here.entries space at z
lookup here (outer space up at z) = ok 0
lookup here (case name z) = ok 0

abbrev pub place_of : Operand → ℕ
place_of (ref space at paths z) = z
place_of (outer space up at z) = z
place_of (case name z) = z
