-- The output of an accepted run is a good tree again, of the same kind, name and height: so its rows are read as that tree and no other.
use Rattle.std.specs.Prelude.{◌≡◌, Bool, eqb, leb, length}
use Rattle.std.proofs.Math.Path.{refl, ap}
use Rattle.std.proofs.Common.{sym, ◌∙◌, arith}
use Rattle.std.proofs.Math.Bool.{true, false}
use Rattle.std.proofs.Math.Option.{Option, none, some}
use mathlib.Core.List.{List, [], ◌∷◌, ◌++◌, map}
use Prim.Native.Nat.{ℕ, zero, suc, ◌≤◌}
use Rattle.rules.specs.Tools
use Rattle.rules.specs.Tools.{when◌then◌else◌, ◌then◌, is_in}
use Rattle.rules.specs.Versions.{RuleSet}
use Rattle.rules.specs.Rows.{Index, Num, Id}
use Rattle.rules.specs.Tree.{Declaration, Operand, ref, outer, case, Head, Scope, scope, Fields, end, ◌▸◌, Item, plain, holds, head_of, with_operands, flatten, form}
use Rattle.rules.specs.Shapes
use Rattle.rules.specs.Shapes.{FOUR, Part, declares, parts, opens, allowed, first_name}
use Rattle.rules.specs.Good.{after_operand, after_operands, kind_of, name_of, GoodHead, GoodScope, GoodFields, GoodItem, height, heights, height_item}
use Rattle.rules.specs.Reader.{read}
use Rattle.rules.specs.Rules
use Rattle.rules.specs.Rules.{opened, ok, Env, Outside, onward, at_root, inward, fresh, Expanded, expand_operand, expand_operands, expand_head, path_aliases, export_alias, outer_alias, resolve_operands, resolve_head, resolve_inserted, resolve_scope, resolve_fields, resolve_item, ◌before◌, resolve_inside}
use Rattle.rules.specs.Laws.ToolLaws.{ok_at, if_ok_lem, false_not, eqb_same, leb_le, then_some}
use Rattle.rules.specs.Laws.Results.{OkR, bind_ok, bind_any, holds_of, if_both, no_option, some_same}
use Rattle.rules.proofs.Laws.Output.Orderly.{orderly, parts_orderly, orderly_next, Covers, same, ended, Covered, covers_complete, same_next, pathed_low}
use Rattle.rules.proofs.Laws.Read.Finish.{field_declarable, declared_small}
use Rattle.rules.proofs.Laws.Read.ReadRight.{reads_form}

-- ---- inserted fields

-- a scope that may have any field may have these
record Admits (kind : ℕ) : Type 0 where
  nine : allowed kind 9 ≡ true
  ten : allowed kind 10 ≡ true
  eleven : allowed kind 11 ≡ true

admits : (kind code : ℕ) → allowed kind code ≡ true → Admits kind
unfolding allowed
admits zero code e = record { nine = refl; ten = refl; eleven = refl }
admits (suc zero) code e = record { nine = refl; ten = refl; eleven = refl }
admits (suc (suc zero)) code e = record { nine = refl; ten = refl; eleven = refl }
admits (suc (suc (suc zero))) code e = record { nine = refl; ten = refl; eleven = refl }
admits (suc (suc (suc (suc kind)))) code e = false_not e

then_both : {A B : Type 0} (m : Option A) (f : A → Option B) (a : A) (b : B) → m ≡ some a → f a ≡ some b → (m then f) ≡ some b
unfolding ◌then◌
then_both m f a b e g = rw e g

-- what can be exported is of FIVE or of SIX
alias_space : (space : ℕ) → leb space 12 ≡ true → is_in space (4 ∷ 6 ∷ []) ≡ false → (when leb space 6 then is_in space Shapes.FIVE else is_in space Shapes.SIX) ≡ true
unfolding when◌then◌else◌
alias_space zero low e = refl
alias_space (suc zero) low e = refl
alias_space (suc (suc zero)) low e = refl
alias_space (suc (suc (suc zero))) low e = refl
alias_space (suc (suc (suc (suc zero)))) low e = false_not (sym e)
alias_space (suc (suc (suc (suc (suc zero))))) low e = refl
alias_space (suc (suc (suc (suc (suc (suc zero)))))) low e = false_not (sym e)
alias_space (suc (suc (suc (suc (suc (suc (suc zero))))))) low e = refl
alias_space (suc (suc (suc (suc (suc (suc (suc (suc zero)))))))) low e = refl
alias_space (suc (suc (suc (suc (suc (suc (suc (suc (suc zero))))))))) low e = refl
alias_space (suc (suc (suc (suc (suc (suc (suc (suc (suc (suc zero)))))))))) low e = refl
alias_space (suc (suc (suc (suc (suc (suc (suc (suc (suc (suc (suc zero))))))))))) low e = refl
alias_space (suc (suc (suc (suc (suc (suc (suc (suc (suc (suc (suc (suc zero)))))))))))) low e = refl
alias_space (suc (suc (suc (suc (suc (suc (suc (suc (suc (suc (suc (suc (suc space))))))))))))) low e = let l = leb_le (suc (suc (suc (suc (suc (suc (suc (suc (suc (suc (suc (suc (suc space))))))))))))) 12 low in absurd (omega arith)

module _ (rules : RuleSet) where
  -- a field that holds no scope
  pub record GoodPlain (kind : ℕ) (h : Head) : Type 0 where
    pub good : GoodHead rules kind h
    pub closed : opens h.code ≡ none

  abbrev pub AllGood : ℕ → List Head → Type 0
  AllGood kind [] = Unit {0}
  AllGood kind (h ∷ hs) = GoodPlain kind h × AllGood kind hs

  all_good_append : (kind : ℕ) (xs ys : List Head) → AllGood kind xs → AllGood kind ys → AllGood kind (xs ++ ys)
  all_good_append kind [] ys p q = q
  all_good_append kind (x ∷ xs) ys p q = (p.0, all_good_append kind xs ys p.1 q)

  -- an alias of code 9, of one of SIX
  nine_good : (kind space new : ℕ) (at : Index) (name z : ℕ) → Admits kind → is_in space Shapes.SIX ≡ true → GoodPlain kind (export_alias 9 space new 10 at name z)
  unfolding export_alias after_operands after_operand Shapes.computes Tools.computes
  nine_good kind space new at name z a six =
      record {
        good = record { may = a.nine; built = refl; declared = (six, tt); enough_declared = refl; left = []; uses = refl; ends = refl; exporting = refl };
        closed = refl;
      }

  -- of code 10, of one of FIVE
  ten_good : (kind space new : ℕ) (at : Index) (name z : ℕ) → Admits kind → is_in space Shapes.FIVE ≡ true → GoodPlain kind (export_alias 10 space new 6 at name z)
  unfolding export_alias after_operands after_operand Shapes.computes Tools.computes
  ten_good kind space new at name z a five =
      record {
        good = record { may = a.ten; built = refl; declared = (five, tt); enough_declared = refl; left = []; uses = refl; ends = refl; exporting = refl };
        closed = refl;
      }

  -- of code 11, of one of FOUR
  eleven_good : (kind space new d n z : ℕ) → Admits kind → is_in space FOUR ≡ true → GoodPlain kind (outer_alias space new d n z)
  unfolding outer_alias after_operands after_operand Shapes.computes Tools.computes
  eleven_good kind space new d n z a four =
      record {
        good = record { may = a.eleven; built = refl; declared = (four, tt); enough_declared = refl; left = []; uses = rw (eqb_same space); ends = refl; exporting = refl };
        closed = refl;
      }

  aliases_good : (kind space : ℕ) (at : Index) (p : ℕ) (ps : List ℕ) (z k : ℕ) → Admits kind → leb space 12 ≡ true → is_in space (4 ∷ 6 ∷ []) ≡ false
      → AllGood kind (path_aliases space at p ps z k)
  unfolding path_aliases
  aliases_good kind space at p [] z k a low kept =
      (go (leb space 6) (alias_space space low kept), tt)
    where
      go : (b : Bool) → (when b then is_in space Shapes.FIVE else is_in space Shapes.SIX) ≡ true
          → GoodPlain kind (when b then export_alias 10 space (fresh k) 6 at p z else export_alias 9 space (fresh k) 10 at p z)
      go true e = unfold when◌then◌else◌ in ten_good kind space (fresh k) at p z a e
      go false e = unfold when◌then◌else◌ in nine_good kind space (fresh k) at p z a e
  aliases_good kind space at p (q ∷ ps) z k a low kept =
      (nine_good kind 10 (fresh k) at p z a refl, aliases_good kind space (Id (fresh k)) q ps z (suc k) a low kept)

  -- ---- step B

  abbrev Fits : {A : Type 0} → ℕ → (A → Option (List Part)) → List Part → Expanded A → Type 0
  Fits kind after left e = Covered left (after e.now) × AllGood kind e.inserted

  after_orderly : (ps : List Part) (o : Operand) (q : List Part) → orderly ps ≡ true → after_operand ps o ≡ some q → orderly q ≡ true
  unfolding after_operand
  after_orderly ps (ref space at paths z) q o e = ok_at _ _ q (orderly_next _ ps o) e
  after_orderly ps (outer space up at z) q o e = ok_at _ _ q (orderly_next _ ps o) e
  after_orderly ps (case name z) q o e = ok_at _ _ q (orderly_next _ ps o) e

  found_fits : (kind space name z k : ℕ) (o : Option (ℕ × ℕ)) (ps q : List Part) → Admits kind → after_operand ps (ref space (Id name) [] z) ≡ some q
      → OkR (Fits kind (after_operand ps) q) (Rules.found_at space name z k o)
  unfolding Rules.found_at Rules.through Rules.as_it_is after_operand
  found_fits kind space name z k none ps q a e = ((q, e, same), tt)
  found_fits kind space name z k (some at) ps q a e =
      if_ok_lem (OkR _) _ _ _ (λ four. ((q, e, same), (eleven_good kind space (fresh k) at.0 at.1 z a four, tt))) (λ f. tt)

  module _ (kind : ℕ) (a : Admits kind) (here : List Declaration) (outside : Outside) where
    operand_fits : (k : ℕ) (o : Operand) (ps q : List Part) → orderly ps ≡ true → after_operand ps o ≡ some q
        → OkR (Fits kind (after_operand ps) q) (expand_operand here outside k o)
    unfolding expand_operand Rules.through Rules.as_it_is after_operand
    operand_fits k (ref space (Num n) [] z) ps q o e = ((q, e, same), tt)
    operand_fits k (ref space (Id name) [] z) ps q o e = bind_any _ _ _ (λ u. if_both (OkR _) _ _ _ ((q, e, same), tt) (found_fits kind space name z k _ ps q a e))
    operand_fits k (ref space at (p ∷ paths) z) ps q o e =
        if_ok_lem (OkR _) _ _ _ (λ t. tt)
        (λ kept. (same_next space (length paths) ps q o e, aliases_good kind space at p paths z k a (ok_at _ _ q (pathed_low space (length paths) ps o) e) kept))
    operand_fits k (outer space up at z) ps q o e = ((q, e, same), tt)
    operand_fits k (case name z) ps q o e = ((q, e, same), tt)

    -- the operands that follow: none, if nothing is wanted any more
    later_fit : (k : ℕ) (os : List Operand) (q q' left : List Part) → Covers q q' → after_operands q os ≡ some left
        → OkR (Fits kind (after_operands q) left) (expand_operands here outside k os) → OkR (Fits kind (after_operands q') left) (expand_operands here outside k os)
    unfolding expand_operands after_operands after_operand Rules.as_it_is Shapes.next ◌then◌
    later_fit k os q q' left same e f = f
    later_fit k [] q q' left (ended c) e f = ((q', refl, rw (sym (some_same [] left e)) (ended c)), tt)
    later_fit k (ref space at paths z ∷ os) q q' left (ended c) e f = no_option left e
    later_fit k (outer space up at z ∷ os) q q' left (ended c) e f = no_option left e
    later_fit k (case name z ∷ os) q q' left (ended c) e f = no_option left e

    operands_fit : (k : ℕ) (os : List Operand) (ps left : List Part) → orderly ps ≡ true → after_operands ps os ≡ some left
        → OkR (Fits kind (after_operands ps) left) (expand_operands here outside k os)
    unfolding expand_operands after_operands Rules.as_it_is
    operands_fit k [] ps left o e = ((left, e, same), tt)
    operands_fit k (x ∷ os) ps left o e =
        let T = then_some (after_operand ps x) (λ q. after_operands q os) left e in
        bind_ok _ _ _ _ (operand_fits k x ps T.0 o T.1) (λ x' f.
        let q' = f.0.0 in
        bind_ok _ _ _ _ (later_fit x'.k os T.0 q' left f.0.2 T.2 (operands_fit x'.k os T.0 left (after_orderly ps x T.0 o T.1) T.2)) (λ xs g.
        ((g.0.0, then_both (after_operand ps x'.now) (λ q. after_operands q xs.now) q' g.0.0 f.0.1 g.0.1, g.0.2), all_good_append kind x'.inserted xs.inserted f.1 g.1)))

  -- a field as it is after a step
  record Kept (kind : ℕ) (h h' : Head) : Type 0 where
    good : GoodHead rules kind h'
    code : h'.code ≡ h.code
    decls : h'.decls ≡ h.decls

  with_operands_lem : (kind : ℕ) (h : Head) (os : List Operand) (g : GoodHead rules kind h)
      → Covered g.left (after_operands (parts rules h.code h.builtin h.decls) os) → Kept kind h (with_operands h os)
  unfolding with_operands
  with_operands_lem kind h os g e =
      record {
        good = record { may = g.may; built = g.built; declared = g.declared; enough_declared = g.enough_declared; left = e.0; uses = e.1; ends = covers_complete e.2 g.ends; exporting = g.exporting };
        code = refl;
        decls = refl;
      }

  -- ---- step C

  outer_one : (early : Bool) (es : List Env) (fz space : ℕ) (up at : Index) (z : ℕ) (ps : List Part)
      → OkR (λ o. after_operand ps o ≡ after_operand ps (outer space up at z)) (Rules.outer_numbers early es fz space up at z)
  unfolding Rules.outer_numbers after_operand
  outer_one early es fz space up at z ps = bind_any _ _ _ (λ d. bind_any _ _ _ (λ e. bind_any _ _ _ (λ u. bind_any _ _ _ (λ n. refl))))

  outer_same : (early : Bool) (es : List Env) (fz space : ℕ) (up at : Index) (z : ℕ) (ps : List Part)
      → OkR (λ o. after_operand ps o ≡ after_operand ps (outer space up at z)) (Rules.resolve_outer early es fz space up at z)
  unfolding Rules.resolve_outer
  outer_same early es fz space (Num d) (Num n) z ps = refl
  outer_same early es fz space (Num d) (Id name) z ps = outer_one early es fz space (Num d) (Id name) z ps
  outer_same early es fz space (Id name) at z ps = outer_one early es fz space (Id name) at z ps

  module _ (here : Env) (outside : Outside) where
    operands_same : (fz : ℕ) (seen : List ℕ) (os : List Operand) (ps left : List Part) → after_operands ps os ≡ some left
        → OkR (λ os'. after_operands ps os' ≡ some left) (resolve_operands here outside fz seen os)
    unfolding resolve_operands after_operands
    operands_same fz seen [] ps left e = e
    operands_same fz seen (ref space at paths z ∷ os) ps left e =
        let T = then_some (after_operand ps (ref space at paths z)) (λ q. after_operands q os) left e in
        bind_any _ _ _ (λ n. bind_ok _ _ _ _ (operands_same fz seen os T.0 left T.2)
        (λ os' g. then_both (after_operand ps (ref space (Num n) paths z)) (λ q. after_operands q os') T.0 left (unfold after_operand in T.1) g))
    operands_same fz seen (outer space up at z ∷ os) ps left e =
        let T = then_some (after_operand ps (outer space up at z)) (λ q. after_operands q os) left e in
        bind_ok _ _ _ _ (outer_same outside.early (opened here outside) fz space up at z ps) (λ o t. bind_ok _ _ _ _ (operands_same fz seen os T.0 left T.2)
        (λ os' g. then_both (after_operand ps o) (λ q. after_operands q os') T.0 left (t ∙ T.1) g))
    operands_same fz seen (case name z ∷ os) ps left e =
        let T = then_some (after_operand ps (case name z)) (λ q. after_operands q os) left e in
        if_both (OkR _) _ _ _ tt (bind_ok _ _ _ _ (operands_same fz (name ∷ seen) os T.0 left T.2) (λ os' g. then_both (after_operand ps (case name z)) (λ q. after_operands q os') T.0 left T.1 g))

    head_same : (kind : ℕ) (h : Head) → GoodHead rules kind h → OkR (Kept kind h) (resolve_head here outside h)
    unfolding resolve_head
    head_same kind h g =
        bind_ok _ _ _ _ (operands_same h.z [] h.operands (parts rules h.code h.builtin h.decls) g.left g.uses) (λ os e. with_operands_lem kind h os g (g.left, e, same))

    inserted_same : (kind : ℕ) (hs : List Head) → AllGood kind hs → OkR (AllGood kind) (resolve_inserted here outside hs)
    unfolding resolve_inserted
    inserted_same kind [] g = tt
    inserted_same kind (h ∷ hs) g =
        bind_any _ _ _ (λ u. bind_ok _ _ _ _ (head_same kind h g.0.good) (λ h' s. bind_ok _ _ _ _ (inserted_same kind hs g.1)
        (λ hs' gs. (record { good = s.good; closed = ap opens s.code ∙ g.0.closed }, gs))))

  before_good : (kind : ℕ) (hs : List Head) (fs : Fields) → AllGood kind hs → GoodFields rules fs kind → GoodFields rules (◌before◌ hs fs) kind
  unfolding ◌before◌
  before_good kind [] fs g f = f
  before_good kind (h ∷ hs) fs g f = ((g.0.good, g.0.closed), before_good kind hs fs g.1 f)

  before_height : (hs : List Head) (fs : Fields) → heights (◌before◌ hs fs) ≡ heights fs
  unfolding ◌before◌ height
  before_height [] fs = refl
  before_height (h ∷ hs) fs = omega (arith, before_height hs fs)

  -- ---- the whole walk

  -- step B of a field
  record Opened (kind : ℕ) (h : Head) (e : Expanded Head) : Type 0 where
    kept : Kept kind h e.now
    news : AllGood kind e.inserted

  pub record WellMade (s s' : Scope) : Type 0 where
    pub good : GoodScope rules s'
    pub kind : kind_of s' ≡ kind_of s
    pub name : name_of s' ≡ name_of s
    pub high : height s' ≡ height s

  record WellFields (kind : ℕ) (fs gs : Fields) : Type 0 where
    good : GoodFields rules gs kind
    high : heights gs ≡ heights fs

  record WellItem (kind : ℕ) (i j : Item) : Type 0 where
    good : GoodItem rules j kind
    high : height_item j ≡ height_item i

  pub own_good : (kind : ℕ) (i : Item) → GoodItem rules i kind → GoodHead rules kind (head_of i)
  unfolding head_of
  own_good kind (plain h) g = g.0
  own_good kind (holds h s) g = g.0

  scope_height : (kind name : ℕ) (fs gs : Fields) → heights gs ≡ heights fs → height (scope kind name gs) ≡ height (scope kind name fs)
  unfolding height
  scope_height kind name fs gs e = ap suc e

  plain_height : (h h' : Head) → height_item (plain h') ≡ height_item (plain h)
  unfolding height
  plain_height h h' = refl

  holds_height : (h h' : Head) (s s' : Scope) → height s' ≡ height s → height_item (holds h' s') ≡ height_item (holds h s)
  unfolding height
  holds_height h h' s s' e = e

  next_height : (i j : Item) (fs gs : Fields) → height_item j ≡ height_item i → heights gs ≡ heights fs → heights (j ▸ gs) ≡ heights (i ▸ fs)
  unfolding height
  next_height i j fs gs e f = rw (e, f)

  plain_opens : (h₀ h : Head) → h.code ≡ (head_of (plain h₀)).code → opens h₀.code ≡ none → opens h.code ≡ none
  unfolding head_of
  plain_opens h₀ h c o = ap opens c ∙ o

  holds_opens : (h₀ : Head) (s : Scope) (h : Head) (s' : Scope) → h.code ≡ (head_of (holds h₀ s)).code → opens h₀.code ≡ some (kind_of s) → kind_of s' ≡ kind_of s
      → opens h.code ≡ some (kind_of s')
  unfolding head_of
  holds_opens h₀ s h s' c o e = rw e (ap opens c ∙ o)

  holds_name : (h₀ : Head) (s : Scope) (h : Head) (s' : Scope) → h.decls ≡ (head_of (holds h₀ s)).decls → name_of s ≡ first_name h₀.decls → name_of s' ≡ name_of s
      → name_of s' ≡ first_name h.decls
  unfolding head_of
  holds_name h₀ s h s' d n e = e ∙ (n ∙ ap first_name (sym d))

  module _ (heap : eqb 0 rules.heap ≡ false) where
    head_fits : (kind : ℕ) (h : Head) (here : List Declaration) (outside : Outside) (k : ℕ) → GoodHead rules kind h → OkR (Opened kind h) (expand_head here outside k h)
    unfolding expand_head Rules.as_it_is
    head_fits kind h here outside k g =
        let o = parts_orderly rules heap h.code h.builtin h.decls (declared_small (declares h.code) h.decls (field_declarable h.code) g.declared) in
        if_both (OkR _) _ _ _ (record { kept = record { good = g; code = refl; decls = refl }; news = tt })
        (bind_ok _ _ _ _ (operands_fit kind (admits kind h.code g.may) here outside k h.operands _ g.left o g.uses)
        (λ e f. record { kept = with_operands_lem kind h e.now g f.0; news = f.1 }))

    mutual
      unfolding resolve_scope

      scope_well : (s : Scope) (outside : Outside) (k : ℕ) → GoodScope rules s → OkR (λ r. WellMade s r.0) (resolve_scope s outside k)
      scope_well (scope kind name fs) outside k g =
          bind_any _ _ _ (λ e. bind_ok _ _ _ _ (fields_well kind fs _ e.0 outside k e.1 g)
          (λ r w. record { good = w.good; kind = refl; name = refl; high = scope_height kind name fs r.0 w.high }))

      fields_well : (kind : ℕ) (fs : Fields) (ds : List Declaration) (here : Env) (outside : Outside) (b k : ℕ) → GoodFields rules fs kind
          → OkR (λ r. WellFields kind fs r.0) (resolve_fields fs ds here outside b k)
      fields_well kind end ds here outside b k g = record { good = tt; high = refl }
      fields_well kind (i ▸ fs) ds here outside b k g =
          bind_ok _ _ _ _ (head_fits kind (head_of i) ds outside b (own_good kind i g.0)) (λ e f.
          bind_ok _ _ _ _ (inserted_same here outside kind e.inserted f.news) (λ new gn.
          bind_ok _ _ _ _ (head_same here outside kind e.now f.kept.good) (λ h s.
          bind_ok _ _ _ _ (item_well kind i h here outside k g.0 s.good (s.code ∙ f.kept.code) (s.decls ∙ f.kept.decls)) (λ r w.
          bind_ok _ _ _ _ (fields_well kind fs ds here (onward i outside) e.k r.1 g.1) (λ rs ws.
          record {
            good = before_good kind new (r.0 ▸ rs.0) gn (w.good, ws.good);
            high = before_height new (r.0 ▸ rs.0) ∙ next_height i r.0 fs rs.0 w.high ws.high;
          })))))

      item_well : (kind : ℕ) (i : Item) (h : Head) (here : Env) (outside : Outside) (k : ℕ) → GoodItem rules i kind → GoodHead rules kind h
          → h.code ≡ (head_of i).code → h.decls ≡ (head_of i).decls → OkR (λ r. WellItem kind i r.0) (resolve_item i h here outside k)
      item_well kind (plain h₀) h here outside k g gh c d = record { good = (gh, plain_opens h₀ h c g.1); high = plain_height h₀ h }
      item_well kind (holds h₀ s) h here outside k g gh c d =
          bind_ok _ _ _ _ (scope_well s (inward h₀ here outside) k g.3) (λ r w.
          record { good = (gh, holds_opens h₀ s h r.0 c g.1 w.kind, holds_name h₀ s h r.0 d g.2 w.name, w.good); high = holds_height h₀ h s r.0 w.high })

    -- An accepted good tree gives a good tree of the same kind, name and height.
    pub well : (around : List Env) (s : Scope) (r : Scope × ℕ) → GoodScope rules s → resolve_inside rules around s ≡ ok r → WellMade s r.0
    well around s r g e = holds_of (λ (x : Scope × ℕ). WellMade s x.0) _ r (scope_well s (at_root rules around) 0 g) e

    -- So its rows are read as it, within the same number of scopes.
    pub reads_again : (scopes : ℕ) (around : List Env) (s : Scope) (r : Scope × ℕ) → kind_of s ≡ 0 → GoodScope rules s → height s ≤ scopes → resolve_inside rules around s ≡ ok r
        → read rules scopes (map some (flatten r.0)) ≡ form r.0
    reads_again scopes around s r c g low e =
        let W = well around s r g e in
        reads_form rules scopes (map some (flatten r.0)) r.0 (record { component = W.kind ∙ c; good = W.good; of_tree = refl }) (omega (arith, W.high, low))
