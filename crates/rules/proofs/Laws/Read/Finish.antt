-- Every sound state can be finished: rows that complete what has been read to a well-formed tree, and that can be written.
use Rattle.std.specs.Prelude.{◌≡◌, Bool, true, ◌&&◌, ◌||◌, ℕ, zero, suc, ◌+◌, ◌^◌, ◌≤◌, ◌<◌, eqb, leb}
use Rattle.std.proofs.Math.Path.{refl, ap, sym}
use Rattle.std.proofs.Common.{◌∙◌, arith, length-append}
use Rattle.std.proofs.Math.Bool.{false, or-true}
use Rattle.std.proofs.Math.Option.{Option, none, some}
use mathlib.Core.List.{List, [], ◌∷◌, ◌++◌, append_assoc, append-nil}
use Rattle.std.proofs.Math.ListN.{length, replicate}
use Rattle.std.proofs.lemmas.List.{length-replicate}
use Rattle.rules.specs.Tools.{when◌then◌else◌, only, ◌then◌, is_in, is_just}
use Rattle.rules.specs.Versions.{RuleSet}
use Rattle.rules.specs.Rows
use Rattle.rules.specs.Rows.{Num, Row, Field, Decl, Ref, Path, Outer, Case, Open, Close, Export, encode}
use Rattle.rules.specs.Tree.{Declaration, Operand, ref, outer, case, Head, Scope, scope, Fields, end, Item, plain, holds, decl_rows, path_rows, operand_row, operand_rows, export_rows, head_rows, flatten, fields_rows, item_rows, with_operands}
use Rattle.rules.specs.Shapes
use Rattle.rules.specs.Shapes.{Want, r, p, out, cas, Part, one, opt, any, cases, variants, typed, Declares, nothing, single, several, declares, parts, opens, exports, next, complete, may_declare, enough, first_name}
use Rattle.rules.specs.Good.{MayDeclare, after_operand, after_operands, GoodHead, kind_of, GoodScope, GoodFields, GoodItem}
use Rattle.rules.specs.Reader
use Rattle.rules.specs.Reader.{Stage, declaring, wanting, pathing, exported, Current, between_fields, within, Around, root, inside, State, start, state, ◌◂◌}
use Rattle.rules.specs.Laws.ToolLaws.{Ok, ok_at, ok_map, only_ok, then_ok, if_ok_lem, and_left, and_right, or_cases, false_not, eqb-true, eqb_same, leb_le, All, done, ◌&◌, get_d_all, all_append}
use Rattle.rules.specs.Laws.Results.{if_both}
use Rattle.rules.specs.Laws.RowLaws.{Written}
use Rattle.rules.proofs.Laws.Read.ReadSound.{at_stage, current_rows, around_rows, state_rows, bare_rows, open_rows_lem, more_rows, rows_snoc, after_append, GoodOpen, Used, GoodCurrent, GoodAround, GoodState, good_snoc, used_more, more_open, exported_good}

-- ---- rows that can be written

-- a row that can be written wherever names reach to `n`
abbrev pub Easy : ℕ → Row → Type 0
Easy n row = (names : ℕ) → n ≤ names → names < 2 ^ 32 → Written names row

easy_ref : (n space : ℕ) → space ≤ 12 → Easy n (Ref space (Num 0) 0 0)
unfolding encode Rows.flag Rows.number
easy_ref n space h names m top = record { fits = omega arith; legal = tt }

easy_outer : (n space : ℕ) → space ≤ 12 → Easy n (Outer space (Num 0) (Num 0) 0)
unfolding encode Rows.flag Rows.number
easy_outer n space h names m top = record { fits = omega arith; legal = (tt, tt) }

easy_case : (n : ℕ) → Easy n (Case 0 0)
unfolding encode
easy_case n names m top = record { fits = omega arith; legal = omega arith }

easy_path : (n : ℕ) → Easy n (Path 0)
unfolding encode
easy_path n names m top = record { fits = omega arith; legal = tt }

easy_export : (n : ℕ) → Easy n (Export 0)
unfolding encode
easy_export n names m top = record { fits = omega arith; legal = tt }

easy_decl : (n space : ℕ) → space ≤ 12 → Easy n (Decl space 0 0)
unfolding encode
easy_decl n space h names m top = record { fits = omega arith; legal = omega arith }

easy_open : (n kind : ℕ) → kind ≤ 3 → Easy n (Open kind n)
unfolding encode
easy_open n kind h names m top = record { fits = omega arith; legal = omega arith }

easy_close : (n : ℕ) → Easy n Close
unfolding encode
easy_close n names m top = record { fits = omega arith; legal = tt }

-- ---- operands for what is still wanted

-- an operand that fits, if there is one
sample : Want → Operand
sample (r []) = case 0 0
sample (r (s ∷ ss)) = ref s (Num 0) [] 0
sample (p []) = case 0 0
sample (p (s ∷ ss)) = ref s (Num 0) [] 0
sample (out s) = outer s (Num 0) (Num 0) 0
sample cas = case 0 0

possible : Want → Bool
possible (r []) = false
possible (r (s ∷ ss)) = leb s 12
possible (p []) = false
possible (p (s ∷ ss)) = leb s 12
possible (out s) = leb s 12
possible cas = true

sample_fits : (w : Want) (ps : List Part) → possible w ≡ true → after_operand (one w ∷ ps) (sample w) ≡ some ps
unfolding sample possible after_operand next only Shapes.fits_ref Shapes.fits_outer Shapes.is_case Shapes.paths_ok
sample_fits (r []) ps e = false_not e
sample_fits (r (s ∷ ss)) ps e = rw (eqb_same s, or-true)
sample_fits (p []) ps e = false_not e
sample_fits (p (s ∷ ss)) ps e = rw (eqb_same s)
sample_fits (out s) ps e = rw (eqb_same s)
sample_fits cas ps e = refl

sample_easy : (n : ℕ) (w : Want) → possible w ≡ true → All (Easy n) (operand_row (sample w))
unfolding sample possible operand_row path_rows
sample_easy n (r []) e = false_not e
sample_easy n (r (s ∷ ss)) e = easy_ref n s (leb_le s 12 e) & done
sample_easy n (p []) e = false_not e
sample_easy n (p (s ∷ ss)) e = easy_ref n s (leb_le s 12 e) & done
sample_easy n (out s) e = easy_outer n s (leb_le s 12 e) & done
sample_easy n cas e = easy_case n & done

-- What must come stands first, and can be given; the rest may be left out.
fillable : List Part → Bool
fillable [] = true
fillable (one w ∷ ps) = possible w && fillable ps
fillable (opt w ∷ ps) = complete ps
fillable (any w ∷ ps) = complete ps
fillable (cases ∷ ps) = complete ps
fillable (variants ∷ ps) = complete ps
fillable (typed s ∷ []) = leb s 12
fillable (typed s ∷ q ∷ ps) = false

fill : List Part → List Operand
fill [] = []
fill (one w ∷ ps) = sample w ∷ fill ps
fill (opt w ∷ ps) = []
fill (any w ∷ ps) = []
fill (cases ∷ ps) = []
fill (variants ∷ ps) = []
fill (typed s ∷ ps) = sample (r (s ∷ [])) ∷ []

-- after an r s alone an export with an ascribed type may end
typed_fits : (s : ℕ) → (left : List Part) × (after_operand (typed s ∷ []) (sample (r (s ∷ []))) ≡ some left) × (complete left ≡ true)
unfolding sample after_operand next only when◌then◌else◌ Shapes.fits_ref Shapes.paths_ok
typed_fits s = rw (eqb_same s, or-true) (go (eqb s 9))
  where
    go : (b : Bool) → (left : List Part) × ((when (b || false) && true then some (opt (r (s ∷ [])) ∷ []) else some []) ≡ some left) × (complete left ≡ true)
    go true = unfold complete in (opt (r (s ∷ [])) ∷ [], refl, refl)
    go false = unfold complete in ([], refl, refl)

fill_ok : (ps : List Part) → fillable ps ≡ true → (left : List Part) × (after_operands ps (fill ps) ≡ some left) × (complete left ≡ true)
unfolding fill fillable after_operands complete ◌then◌
fill_ok [] e = ([], refl, refl)
fill_ok (one w ∷ ps) e =
    let f = fill_ok ps (and_right (possible w) (fillable ps) e) in
    (f.0, rw (sample_fits w ps (and_left (possible w) (fillable ps) e)) f.1, f.2)
fill_ok (opt w ∷ ps) e = (opt w ∷ ps, refl, e)
fill_ok (any w ∷ ps) e = (any w ∷ ps, refl, e)
fill_ok (cases ∷ ps) e = (cases ∷ ps, refl, e)
fill_ok (variants ∷ ps) e = (variants ∷ ps, refl, e)
fill_ok (typed s ∷ []) e = let T = typed_fits s in (T.0, rw T.1, T.2)
fill_ok (typed s ∷ q ∷ ps) e = false_not e

fill_easy : (n : ℕ) (ps : List Part) → fillable ps ≡ true → All (Easy n) (operand_rows (fill ps))
unfolding fill fillable operand_rows
fill_easy n [] e = done
fill_easy n (one w ∷ ps) e =
    all_append _ _ (sample_easy n w (and_left (possible w) (fillable ps) e)) (fill_easy n ps (and_right (possible w) (fillable ps) e))
fill_easy n (opt w ∷ ps) e = done
fill_easy n (any w ∷ ps) e = done
fill_easy n (cases ∷ ps) e = done
fill_easy n (variants ∷ ps) e = done
fill_easy n (typed s ∷ []) e = all_append _ _ (sample_easy n (r (s ∷ [])) (unfold possible in e)) done
fill_easy n (typed s ∷ q ∷ ps) e = false_not e

-- after an operand what is wanted is fillable again

complete_fillable : (ps : List Part) → complete ps ≡ true → fillable ps ≡ true
unfolding complete fillable
complete_fillable [] e = refl
complete_fillable (one w ∷ ps) e = false_not e
complete_fillable (opt w ∷ ps) e = e
complete_fillable (any w ∷ ps) e = e
complete_fillable (cases ∷ ps) e = e
complete_fillable (variants ∷ ps) e = e
complete_fillable (typed s ∷ ps) e = false_not e

complete_next : (fits : Want → Bool) (ps : List Part) → complete ps ≡ true → Ok (λ q. complete q ≡ true) (next fits ps)
unfolding complete next
complete_next fits [] e = tt
complete_next fits (one w ∷ ps) e = false_not e
complete_next fits (opt w ∷ ps) e = if_ok_lem (Ok _) _ _ _ (λ t. e) (λ f. complete_next fits ps e)
complete_next fits (any w ∷ ps) e = if_ok_lem (Ok _) _ _ _ (λ t. e) (λ f. complete_next fits ps e)
complete_next fits (cases ∷ ps) e = if_ok_lem (Ok _) _ _ _ (λ t. e) (λ f. complete_next fits ps e)
complete_next fits (variants ∷ ps) e =
    if_ok_lem (Ok _) _ _ _ (λ t. e) (λ f. if_ok_lem (Ok _) _ _ _ (λ t. e) (λ f'. complete_next fits ps e))
complete_next fits (typed s ∷ ps) e = false_not e

fillable_next : (fits : Want → Bool) (ps : List Part) → fillable ps ≡ true → Ok (λ q. fillable q ≡ true) (next fits ps)
unfolding fillable next complete
fillable_next fits [] e = tt
fillable_next fits (one w ∷ ps) e = only_ok _ _ _ (λ t. and_right (possible w) (fillable ps) e)
fillable_next fits (opt w ∷ ps) e =
    if_ok_lem (Ok _) _ _ _ (λ t. complete_fillable ps e) (λ f. ok_map _ _ (next fits ps) complete_fillable (complete_next fits ps e))
fillable_next fits (any w ∷ ps) e =
    if_ok_lem (Ok _) _ _ _ (λ t. e) (λ f. ok_map _ _ (next fits ps) complete_fillable (complete_next fits ps e))
fillable_next fits (cases ∷ ps) e =
    if_ok_lem (Ok _) _ _ _ (λ t. e) (λ f. ok_map _ _ (next fits ps) complete_fillable (complete_next fits ps e))
fillable_next fits (variants ∷ ps) e =
    if_ok_lem (Ok _) _ _ _ (λ t. e) (λ f. if_ok_lem (Ok _) _ _ _ (λ t. e)
    (λ f'. ok_map _ _ (next fits ps) complete_fillable (complete_next fits ps e)))
fillable_next fits (typed s ∷ []) e =
    if_ok_lem (Ok _) _ _ _ (λ t. if_both (λ (x : Part). fillable (x ∷ []) ≡ true) (fits (r (s ∷ []))) (opt (r (s ∷ []))) (one (r (s ∷ []))) refl (unfold possible in rw e))
    (λ f. only_ok _ _ _ (λ t. refl))
fillable_next fits (typed s ∷ q ∷ ps) e = false_not e

fillable_after : (ps : List Part) (os : List Operand) → fillable ps ≡ true → Ok (λ q. fillable q ≡ true) (after_operands ps os)
unfolding after_operands after_operand
fillable_after ps [] e = e
fillable_after ps (ref space at paths z ∷ os) e =
    then_ok _ _ _ (λ q n. fillable_after q os (ok_at _ _ q (fillable_next _ ps e) n))
fillable_after ps (outer space up at z ∷ os) e =
    then_ok _ _ _ (λ q n. fillable_after q os (ok_at _ _ q (fillable_next _ ps e) n))
fillable_after ps (case n z ∷ os) e =
    then_ok _ _ _ (λ q n. fillable_after q os (ok_at _ _ q (fillable_next _ ps e) n))

-- what each field wants is fillable

abbrev Fillable : List Part → Type 0
Fillable ps = fillable ps ≡ true

signature_fillable : (space : ℕ) → Fillable (Shapes.signature space)
unfolding Shapes.signature fillable possible complete
signature_fillable space = if_ok_lem Fillable _ _ _ (λ t. refl) (λ f. if_ok_lem Fillable _ _ _ (λ t. refl) (λ f'. refl))

ascribed_fillable : (space : ℕ) → leb space 12 ≡ true → Fillable (Shapes.ascribed space)
unfolding Shapes.ascribed fillable possible complete
ascribed_fillable space low = if_ok_lem Fillable _ _ _ (λ t. rw low) (λ f. if_ok_lem Fillable _ _ _ (λ t. rw low) (λ f'. low))

builtin_fillable : (rules : RuleSet) (e : ℕ) → Fillable (Shapes.builtin_parts rules e)
unfolding Shapes.builtin_parts fillable possible complete
builtin_fillable rules e =
    if_ok_lem Fillable _ _ _ (λ t. refl) λ f₁.
    if_ok_lem Fillable _ _ _ (λ t. refl) λ f₂.
    if_ok_lem Fillable _ _ _ (λ t. refl) λ f₃.
    if_ok_lem Fillable _ _ _ (λ t. refl) λ f₄.
    if_ok_lem Fillable _ _ _ (λ t. refl) λ f₅.
    if_ok_lem Fillable _ _ _ (λ t. refl) λ f₆.
    if_ok_lem Fillable _ _ _ (λ t. refl) λ f₇.
    if_ok_lem Fillable _ _ _ (λ t. refl) λ f₈.
    if_ok_lem Fillable _ _ _ (λ t. refl) λ f₉. refl

parts_fillable : (rules : RuleSet) (code builtin : ℕ) (ds : List Declaration) → leb (Shapes.declared ds) 12 ≡ true → Fillable (parts rules code builtin ds)
unfolding parts fillable possible complete
parts_fillable rules code builtin ds low =
    get_d_all Fillable _ code []
    (refl & refl & refl & refl & refl & if_ok_lem Fillable _ _ _ (λ t. refl) (λ f. refl) & refl & refl & refl & refl & refl & (rw low) & refl & refl & refl
    & refl & refl & refl & refl & builtin_fillable rules builtin & refl & signature_fillable (Shapes.declared ds)
    & if_ok_lem Fillable _ _ _ (λ t. rw low) (λ f. ascribed_fillable (Shapes.declared ds) low)
    & signature_fillable (Shapes.declared ds) & refl & refl & done)
    refl

-- ---- DECLs that are still to come

unfoldable pub small : List ℕ → Bool
small [] = true
small (s ∷ ss) = leb s 12 && small ss

pub declarable : Declares → Bool
declarable nothing = true
declarable (single []) = false
declarable (single (s ∷ ss)) = small (s ∷ ss)
declarable (several ss) = small ss

pub field_declarable : (code : ℕ) → declarable (declares code) ≡ true
unfolding declares declarable small
field_declarable code =
    get_d_all (λ D. declarable D ≡ true) _ code nothing
    (refl & refl & refl & refl & refl & refl & refl & refl & refl & refl & refl & refl & refl
    & refl & refl & refl & refl & refl & refl & refl & refl & refl & refl & refl & refl & refl & done)
    refl

pub small_in : (s : ℕ) (ss : List ℕ) → small ss ≡ true → is_in s ss ≡ true → leb s 12 ≡ true
unfolding small
small_in s [] e i = false_not i
small_in s (x ∷ ss) e i =
    or_cases (eqb s x) (is_in s ss) i
    (λ same. rw (eqb-true s x same) (and_left (leb x 12) (small ss) e))
    (λ more. small_in s ss (and_right (leb x 12) (small ss) e) more)

-- the space that a field declares is one of the thirteen
pub declared_small : (D : Declares) (ds : List Declaration) → declarable D ≡ true → MayDeclare D 0 ds → leb (Shapes.declared ds) 12 ≡ true
unfolding Shapes.declared declarable may_declare
declared_small D [] e g = refl
declared_small nothing (d ∷ ds) e g = false_not g.0
declared_small (single []) (d ∷ ds) e g = false_not e
declared_small (single (s ∷ ss)) (d ∷ ds) e g = small_in d.space (s ∷ ss) e g.0
declared_small (several ss) (d ∷ ds) e g = small_in d.space ss e g.0

-- the DECLs that are missing
record Declared (D : Declares) (ds : List Declaration) : Type 0 where
  new : List Declaration
  may : MayDeclare D 0 (ds ++ new)
  are_enough : enough D (length (ds ++ new)) ≡ true
  same_name : first_name (ds ++ new) ≡ first_name ds
  easy : (n : ℕ) → All (Easy n) (decl_rows new)

none_missing : (D : Declares) (ds : List Declaration) → MayDeclare D 0 ds → enough D (length ds) ≡ true → Declared D ds
unfolding decl_rows
none_missing D ds g e = record { new = []; may = rw append-nil g; are_enough = rw append-nil e; same_name = rw append-nil; easy = λ n. done }

finish_decls : (D : Declares) (ds : List Declaration) → declarable D ≡ true → MayDeclare D 0 ds → Declared D ds
unfolding declarable small may_declare enough first_name decl_rows
finish_decls nothing ds e g = none_missing nothing ds g refl
finish_decls (several ss) ds e g = none_missing (several ss) ds g refl
finish_decls (single []) ds e g = false_not e
finish_decls (single (s ∷ ss)) [] e g =
    record {
      new = record { space = s; name = 0; z = 0 } ∷ [];
      may = (rw (eqb_same s), tt);
      are_enough = refl;
      same_name = refl;
      easy = λ n. easy_decl n s (leb_le s 12 (and_left (leb s 12) (small ss) e)) & done;
    }
finish_decls (single (s ∷ ss)) (d ∷ []) e g = none_missing (single (s ∷ ss)) (d ∷ []) g refl
finish_decls (single (s ∷ ss)) (d ∷ d' ∷ ds) e g = false_not g.1.0

-- ---- rows of two lists

decls_append : (ds ds' : List Declaration) → decl_rows (ds ++ ds') ≡ decl_rows ds ++ decl_rows ds'
unfolding decl_rows
decls_append [] ds' = refl
decls_append (d ∷ ds) ds' = rw (decls_append ds ds')

paths_append : (ps ps' : List ℕ) → path_rows (ps ++ ps') ≡ path_rows ps ++ path_rows ps'
unfolding path_rows
paths_append [] ps' = refl
paths_append (n ∷ ps) ps' = rw (paths_append ps ps')

operands_append : (os os' : List Operand) → operand_rows (os ++ os') ≡ operand_rows os ++ operand_rows os'
unfolding operand_rows
operands_append [] os' = refl
operands_append (o ∷ os) os' = rw (operands_append os os', append_assoc)

-- ---- a field that is finished

-- the EXPORT that a field ends with
lastly : Bool → Option ℕ
lastly true = some 0
lastly false = none

lastly_ok : (b : Bool) → b ≡ is_just (lastly b)
unfolding lastly
lastly_ok true = refl
lastly_ok false = refl

lastly_easy : (n : ℕ) (b : Bool) → All (Easy n) (export_rows (lastly b))
unfolding lastly export_rows
lastly_easy n true = easy_export n & done
lastly_easy n false = done

paths_easy : (n count : ℕ) → All (Easy n) (path_rows (replicate count 0))
unfolding path_rows
paths_easy n zero = done
paths_easy n (suc count) = easy_path n & paths_easy n count

-- a field with more operands, and its EXPORT
abbrev with_end : Head → List Operand → Option ℕ → Head
with_end h os ex = record { code = h.code; builtin = h.builtin; z = h.z; decls = h.decls; operands = h.operands ++ os; export = ex }

head_rows_lem : (h : Head) → head_rows h ≡ Field h.code h.builtin h.z ∷ (decl_rows h.decls ++ (operand_rows h.operands ++ export_rows h.export))
unfolding head_rows
head_rows_lem h = refl

with_end_rows : (h : Head) (os : List Operand) (ex : Option ℕ) → h.export ≡ none → head_rows (with_end h os ex) ≡ head_rows h ++ (operand_rows os ++ export_rows ex)
with_end_rows h os ex x = rw (head_rows_lem (with_end h os ex), open_rows_lem h x, operands_append h.operands os) (simp append_assoc)

opens_low : (code : ℕ) → Ok (λ k. k ≤ 3) (opens code)
unfolding opens
opens_low code =
    if_ok_lem (Ok _) _ _ _ (λ t. omega arith) λ f₁.
    if_ok_lem (Ok _) _ _ _ (λ t. omega arith) λ f₂.
    if_ok_lem (Ok _) _ _ _ (λ t. omega arith) λ f₃.
    if_ok_lem (Ok _) _ _ _ (λ t. omega arith) λ f₄. tt

-- the name that an inner scope of the current field would have
abbrev pub current_name : Current → ℕ
current_name between_fields = 0
current_name (within h stage) = first_name h.decls

abbrev pub state_name : State → ℕ
state_name start = 0
state_name (state a kind name before c) = current_name c

module _ (rules : RuleSet) where
  -- a good field that begins with these rows of the field `h`
  record Finished (kind : ℕ) (h : Head) (rows : List Row) : Type 0 where
    head : Head
    good : GoodHead rules kind head
    same_name : first_name head.decls ≡ first_name h.decls
    rest : List Row
    split : head_rows head ≡ rows ++ rest
    easy : (n : ℕ) → All (Easy n) rest

  -- what a field wants can be given
  wants_fillable : (kind : ℕ) (h : Head) (ps : List Part) → GoodOpen rules kind h → Used rules h ps → fillable ps ≡ true
  wants_fillable kind h ps g u =
      let low = declared_small (declares h.code) h.decls (field_declarable h.code) g.declared in
      ok_at _ _ ps (fillable_after (parts rules h.code h.builtin h.decls) h.operands (parts_fillable rules h.code h.builtin h.decls low)) u.uses

  -- its operands and those that fill what it wants
  filled : (h : Head) (ps : List Part) → fillable ps ≡ true → Used rules h ps
      → (left : List Part) × (after_operands (parts rules h.code h.builtin h.decls) (h.operands ++ fill ps) ≡ some left) × (complete left ≡ true)
  unfolding ◌then◌
  filled h ps e u =
      let f = fill_ok ps e in (
        f.0,
        after_append (parts rules h.code h.builtin h.decls) h.operands (fill ps)
            ∙ ap (λ (o : Option (List Part)). o then λ q. after_operands q (fill ps)) u.uses
            ∙ f.1,
        f.2,
      )

  finish_wanting : (kind : ℕ) (h : Head) (ps : List Part) → GoodOpen rules kind h → h.export ≡ none → Used rules h ps → Finished kind h (head_rows h)
  finish_wanting kind h ps g x u =
      let e = wants_fillable kind h ps g u in
      let f = filled h ps e u in
      record {
        head = with_end h (fill ps) (lastly (exports h.code));
        good = record {
          may = g.may;
          built = g.built;
          declared = g.declared;
          enough_declared = u.enough_declared;
          left = f.0;
          uses = f.1;
          ends = f.2;
          exporting = lastly_ok (exports h.code);
        };
        same_name = refl;
        rest = operand_rows (fill ps) ++ export_rows (lastly (exports h.code));
        split = with_end_rows h (fill ps) (lastly (exports h.code)) x;
        easy = λ n. all_append _ _ (fill_easy n ps e) (lastly_easy n (exports h.code));
      }

  finish_head : (kind : ℕ) (h : Head) (stage : Stage) → GoodCurrent rules kind (within h stage) → Finished kind h (at_stage (head_rows h) stage)
  unfolding after_operand after_operands operand_row Reader.more with_operands
  finish_head kind h declaring g =
      let d = finish_decls (declares h.code) h.decls (field_declarable h.code) g.0.declared in
      let h' : Head = record { code = h.code; builtin = h.builtin; z = h.z; decls = h.decls ++ d.new; operands = h.operands; export = h.export } in
      let f =
      finish_wanting kind h' (parts rules h.code h.builtin (h.decls ++ d.new))
      (record { may = g.0.may; built = g.0.built; declared = d.may }) g.1.1
      (record { enough_declared = d.are_enough; uses = rw g.1.0 }) in
      record {
        head = f.head;
        good = f.good;
        same_name = f.same_name ∙ d.same_name;
        rest = decl_rows d.new ++ f.rest;
        split = f.split ∙ rw (bare_rows h g.1.0 g.1.1, bare_rows h' g.1.0 g.1.1, decls_append h.decls d.new, append_assoc);
        easy = λ n. all_append _ _ (d.easy n) (f.easy n);
      }
  finish_head kind h (wanting ps) g = finish_wanting kind h ps g.0 g.1.0 g.1.1
  finish_head kind h (pathing space at paths z left ps) g =
      let o : Operand = ref space at (paths ++ replicate left 0) z in
      let count : length (paths ++ replicate left 0) ≡ length paths + left = rw (length-append, length-replicate) in
      let f =
      finish_wanting kind (Reader.more h o) ps (more_open rules kind h o g.0) g.1.0
      (used_more rules h o g.1.1 ps g.1.2 (rw count g.1.3)) in
      record {
        head = f.head;
        good = f.good;
        same_name = f.same_name;
        rest = path_rows (replicate left 0) ++ f.rest;
        split = f.split ∙ rw (more_rows h o g.1.0, count, paths_append paths (replicate left 0)) (simp append_assoc);
        easy = λ n. all_append _ _ (paths_easy n left) (f.easy n);
      }
  finish_head kind h exported g =
      record { head = h; good = exported_good rules kind h g; same_name = refl; rest = []; split = sym (append-nil _); easy = λ n. done }

  -- ---- fields, and the scopes around them

  -- fields that begin with these rows
  record Ended (kind n : ℕ) (rows : List Row) : Type 0 where
    fields : Fields
    good : GoodFields rules fields kind
    rest : List Row
    split : fields_rows fields ≡ rows ++ rest
    easy : All (Easy n) rest

  -- a good field, with an empty scope if it opens one
  record Held (kind : ℕ) (h : Head) : Type 0 where
    item : Item
    good : GoodItem rules item kind
    rest : List Row
    split : item_rows item ≡ head_rows h ++ rest
    easy : All (Easy (first_name h.decls)) rest

  finish_item : (kind : ℕ) (h : Head) (o : Option ℕ) → GoodHead rules kind h → opens h.code ≡ o → Held kind h
  unfolding flatten
  finish_item kind h none g e = record { item = plain h; good = (g, e); rest = []; split = sym (append-nil _); easy = done }
  finish_item kind h (some k) g e =
      record {
        item = holds h (scope k (first_name h.decls) end);
        good = (g, e, refl, tt);
        rest = Open k (first_name h.decls) ∷ Close ∷ [];
        split = refl;
        easy = easy_open (first_name h.decls) k (ok_at _ _ k (opens_low h.code) e) & easy_close (first_name h.decls) & done;
      }

  finish_current : (kind : ℕ) (before : Fields) (c : Current) → GoodFields rules before kind → GoodCurrent rules kind c
      → Ended kind (current_name c) (fields_rows before ++ current_rows c)
  finish_current kind before between_fields g c = record { fields = before; good = g; rest = []; split = simp append-nil; easy = done }
  finish_current kind before (within h stage) g c =
      let f = finish_head kind h stage c in
      let i = finish_item kind f.head (opens f.head.code) f.good refl in
      record {
        fields = before ◂ i.item;
        good = good_snoc rules before i.item kind g i.good;
        rest = f.rest ++ i.rest;
        split = rw (rows_snoc before i.item, i.split, f.split) (simp append_assoc);
        easy = all_append _ _ (f.easy (first_name h.decls)) (rw f.same_name at i.easy);
      }

  -- a form that begins with these rows
  pub record Whole (n : ℕ) (rows : List Row) : Type 0 where
    pub tree : Scope
    pub component : kind_of tree ≡ 0
    pub good : GoodScope rules tree
    pub rest : List Row
    pub split : flatten tree ≡ rows ++ rest
    pub easy : All (Easy n) rest

  finish_around : (n : ℕ) (a : Around) (kind name : ℕ) (fs : Fields) → GoodAround rules a kind name → GoodFields rules fs kind
      → Whole n (around_rows a ++ (Open kind name ∷ fields_rows fs))
  unfolding flatten
  finish_around n root kind name fs g f =
      record { tree = scope kind name fs; component = g; good = f; rest = Close ∷ []; split = refl; easy = easy_close n & done }
  finish_around n (inside kind' name' before holder a) kind name fs g f =
      let i : Item = holds holder (scope kind name fs) in
      let w = finish_around n a kind' name' (before ◂ i) g.4 (good_snoc rules before i kind' g.3 (g.0, g.1, g.2, f)) in
      record {
        tree = w.tree;
        component = w.component;
        good = w.good;
        rest = Close ∷ w.rest;
        split = w.split ∙ rw (rows_snoc before i) (simp append_assoc);
        easy = easy_close n & w.easy;
      }

  pub finish : (s : State) → GoodState rules s → Whole (state_name s) (state_rows s)
  unfolding flatten
  finish start g =
      record {
        tree = scope 0 0 end;
        component = refl;
        good = tt;
        rest = Open 0 0 ∷ Close ∷ [];
        split = refl;
        easy = easy_open 0 0 (omega arith) & easy_close 0 & done;
      }
  finish (state a kind name before c) g =
      let e = finish_current kind before c g.1 g.2 in
      let w = finish_around (current_name c) a kind name e.fields g.0 e.good in
      record {
        tree = w.tree;
        component = w.component;
        good = w.good;
        rest = e.rest ++ w.rest;
        split = w.split ∙ rw e.split (simp append_assoc);
        easy = all_append _ _ e.easy w.easy;
      }
