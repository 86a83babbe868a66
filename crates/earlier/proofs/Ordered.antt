-- The order of an accepted output, under rules that ask for earlier declarations: what an inserted outer alias denotes by the explainer's
-- reading stands before the field that holds the alias's component, and what became of a walked name counts to a definition before its field.
use Rattle.std.specs.Prelude.{◌≡◌, Bool, true, ◌||◌, not, eqb}
use Rattle.std.proofs.Math.Path.{refl, ap, subst}
use Rattle.std.proofs.Common.{sym, ◌∙◌, add-one}
use Rattle.std.proofs.Math.Bool.{false}
use Rattle.std.proofs.Math.Option.{Option, none, some, map}
use mathlib.Core.List.{List, [], ◌∷◌, ◌++◌}
use Prim.Native.Nat.{ℕ, zero, suc, ◌≤◌}
use Rattle.std.proofs.Math.ListN.{get_elem?}
use Rattle.rules.specs.Tools.{when◌then◌else◌, is_just, only, ◌then◌, is_in}
use Rattle.rules.specs.Versions.{RuleSet, top_name}
use Rattle.rules.specs.Rows.{Num, Id}
use Rattle.rules.specs.Tree.{Declaration, Operand, ref, Head, Scope, scope, Fields, end, ◌▸◌, Item, head_of}
use Rattle.rules.specs.Shapes.{FOUR, here_only}
use Rattle.rules.specs.Rules as steps
use Rattle.rules.specs.Rules.{table_of, ok, Env, Outside, at_root, fresh, find, declarations, heads_decls, resolve_inside}
use Rattle.rules.specs.Readings as readings
use Rattle.rules.specs.Readings.{is_inserted, Place, Level, level, place_from, first_named}
use Rattle.rules.specs.Explainer as explainer
use Rattle.rules.specs.Explainer.{items, enclosing, Standing, standing_in, standing_inside, Definition, explained, renumbered, reached, among_inside}
use Rattle.rules.specs.Laws.ToolLaws.{false_not, then_some, or_cases, eqb-true}
use Rattle.rules.specs.Laws.Results.{holds_of, some_same, no_option}
use Rattle.rules.specs.Laws.Meaning.Names.{LowScope}
use Rattle.rules.proofs.Laws.Meaning.Lookups as lookups
use Rattle.rules.proofs.Laws.Meaning.Lookups.{has, in_heads}
use Rattle.rules.proofs.Laws.Meaning.Runs.{seeing, inserted_decls}
use Rattle.rules.proofs.Laws.Meaning.StepB.{Made, left, aliased, walked_ref, low_operand, head_made}
use Rattle.rules.proofs.Laws.Meaning.StepC as step_c
use Rattle.rules.proofs.Laws.Meaning.StepC.{named_number, head_numbered}
use Rattle.rules.proofs.Laws.Meaning.Agree as runs
use Rattle.rules.proofs.Laws.Meaning.Unknown.{find_has, has_append, framed_tabled}
use Rattle.rules.proofs.Laws.Meaning.Early.{firsts}
use Rattle.rules.proofs.Laws.Meaning.Around.{Around}
use Rattle.rules.proofs.Laws.Meaning.Origins.{ServedBy, head_served, outer_stays, served_stays, all_in}
use Rattle.earlier.specs.Order.{StandsBefore, counts_to}
use Rattle.earlier.specs.Passing.{head_timely}
use Rattle.earlier.specs.FieldsOut.{Comes, made, kept, FieldOut, field_out}
use Rattle.earlier.proofs.Holders.{HoldersAround, defined_before, before_if, walk_ends}
use Rattle.earlier.proofs.Descent.{Here, holds_itself, Arrived, descend}

-- ---- under rules that ask for it, what passed is not late

-- a name that the scope declares
timely_here : (ds : List Declaration) (outside : Outside) (space name n : ℕ) → outside.early ≡ true → find ds space name ≡ some n → steps.late_name ds outside space name ≡ false
    → has outside.before.decls space name ≡ true
unfolding steps.late_name when◌then◌else◌
timely_here ds outside space name n early f late = before_if ds outside.before.decls space name n f (rw (early, f) at late)

-- one that it does not
timely_out : (ds : List Declaration) (outside : Outside) (space name : ℕ) → outside.early ≡ true → find ds space name ≡ none → steps.late_name ds outside space name ≡ false
    → steps.comes_later_out outside.scopes space name ≡ false
unfolding steps.late_name when◌then◌else◌
timely_out ds outside space name early f late = rw (early, f) at late

-- what is first among inserted fields is declared by them
first_declared : (hs : List Head) (space name : ℕ) → is_just (first_named (in_heads hs) space name) ≡ has (heads_decls hs) space name
unfolding in_heads heads_decls has first_named
first_declared [] space name = refl
first_declared (h ∷ hs) space name =
    ap is_just (lookups.first_of_heads h hs space name) ∙ (go (has h.decls space name) (first_declared hs space name) ∙ sym (has_append h.decls (heads_decls hs) space name))
  where
    go : (b : Bool) → is_just (first_named (in_heads hs) space name) ≡ has (heads_decls hs) space name
        → is_just (when b then some (readings.inserted h) else first_named (in_heads hs) space name) ≡ b || has (heads_decls hs) space name
    go true e = unfold when◌then◌else◌ in refl
    go false e = unfold when◌then◌else◌ in e

found_number : (o : Option ℕ) → is_just o ≡ true → (n : ℕ) × (o ≡ some n)
found_number none e = false_not e
found_number (some n) e = (n, refl)

-- ---- an inserted outer alias

four_aliasable : (space : ℕ) → is_in space FOUR ≡ true → explainer.aliasable space ≡ true
unfolding explainer.aliasable
four_aliasable space e =
    or_cases (eqb space 4) _ e (λ t. rw (eqb-true space 4 t))
    (λ e₁. or_cases (eqb space 7) _ e₁ (λ t. rw (eqb-true space 7 t))
    (λ e₂. or_cases (eqb space 9) _ e₂ (λ t. rw (eqb-true space 9 t))
    (λ e₃. or_cases (eqb space 11) _ e₃ (λ t. rw (eqb-true space 11 t)) (λ e₄. false_not e₄))))

-- what it denotes, by the explainer's reading
explained_is : (ls : List Level) (space new count index z : ℕ) (l : Level) → is_in space FOUR ≡ true → get_elem? ls count ≡ some l
    → explained (record { around = ls; head = steps.outer_alias space new count index z }) ≡ get_elem? (explainer.index_space l.way space 0 l.fields) index
unfolding explained explainer.outer_denotes explainer.denotes steps.outer_alias when◌then◌else◌ ◌then◌
explained_is ls space new count index z l four e = rw (four_aliasable space four, e)

-- the definition that is denoted stands before what these steps go through
pub record Backward (denoted : Option Definition) (steps : List ℕ) : Type 0 where
  pub d : Definition
  pub is : denoted ≡ some d
  pub before : StandsBefore d steps

-- the operand `o` of a field is a number, and counts to a definition before the field
pub record Numbered (u : Standing) (o space : ℕ) (steps : List ℕ) : Type 0 where
  pub number : ℕ
  pub z : ℕ
  pub is : get_elem? u.head.operands o ≡ some (ref space (Num number) [] z)
  pub backward : Backward (counts_to u.around space number) steps

module _ {way : List ℕ} {els : List Level} {fs : Fields} {outside : Outside} {here : Env} {out : Fields} (H : Here way els fs outside here out) (n : ℕ) (i' : Item)
    (F : FieldOut fs (declarations fs) here outside out n i') where
  -- outside the field of the input
  abbrev at_field : Outside
  at_field = seeing outside F.seen

  alias_backward : (x : Head) → ServedBy (declarations fs) at_field (head_of F.i) F.e.now x
      → Backward (explained (record { around = level way out ∷ els; head = x })) (way ++ (n ∷ []))
  alias_backward x S =
      let Q = S.served.served in
      let had : get_elem? (head_of F.i).operands S.served.o ≡ some (ref Q.space (Id Q.name) [] Q.z) = S.served.had ∙ ap {B = Option Operand} some Q.was_ref in
      let timely = holds_of _ _ F.e (head_timely (declarations fs) at_field Q.space Q.name Q.z F.b (head_of F.i) S.served.o S.walks had) F.expands in
      let E = walk_ends (H.holders (way ++ (n ∷ [])) (n ∷ []) refl) 1 Q.space Q.name Q.at Q.walks_to (timely_out (declarations fs) at_field Q.space Q.name H.early Q.absent timely) in
      let there : get_elem? (level way out ∷ els) Q.at.0 ≡ some E.l = ap (λ (c : ℕ). get_elem? (level way out ∷ els) c) (E.far ∙ add-one E.i) ∙ E.there in
      record {
        d = E.defined.0;
        is = ap (λ (h : Head). explained (record { around = level way out ∷ els; head = h })) Q.is
            ∙ (explained_is (level way out ∷ els) Q.space (fresh Q.j) Q.at.0 Q.at.1 Q.z E.l Q.four there ∙ E.defined.1);
        before = E.defined.2;
      }

  -- ---- what became of a walked name

  -- the number of a name that is declared before the field
  number_backward : (space x k : ℕ) → find (table_of here) space x ≡ some k → has (firsts n out) space x ≡ true → Backward (counts_to (level way out ∷ els) space k) (way ++ (n ∷ []))
  unfolding counts_to has
  number_backward space x k f h =
      let D = defined_before (holds_itself H n [] (λ space name e. false_not e) (way ++ (n ∷ [])) [] refl) space x k f h in
      record { d = D.0; is = D.1; before = D.2 }

  -- a name that its own scope declares
  own_before : (space name k z o : ℕ) → name ≤ top_name → find (table_of here) space name ≡ some k → steps.late_name (declarations fs) at_field space name ≡ false
      → has (firsts n out) space name ≡ true
  own_before space name k z o low f timely =
      let declared : has (declarations fs) space name ≡ true =
      sym ((framed_tabled (runs.framed H.ends way)).same space name low) ∙ (sym (find_has (table_of here) space name) ∙ ap is_just f) in
      let N = found_number (find (declarations fs) space name) (find_has (declarations fs) space name ∙ declared) in
      subst (λ (ds : List Declaration). has (ds ++ firsts n out) space name ≡ true) H.begins
      (F.earlier space name (timely_here (declarations fs) at_field space name N.0 H.early N.1 timely))

  -- what the operand `o`, a walked name, became
  abbrev Became : (o space : ℕ) → Type 0
  Became o space = Numbered (record { around = level way out ∷ els; head = head_of i' }) o space (way ++ (n ∷ []))

  name_backward : (o space name z : ℕ) → here_only (head_of F.i).code ≡ false → get_elem? (head_of F.i).operands o ≡ some (ref space (Id name) [] z)
      → head_of i' ≡ F.h → ((space name : ℕ) → has (heads_decls F.new) space name ≡ true → has (firsts n out) space name ≡ true) → Became o space
  name_backward o space name z c had is-h new =
      go M.0 M.1 M.2
    where
      low : name ≤ top_name
      low = (low_operand (head_of F.i).operands o _ F.low_head.operands had).1

      timely : steps.late_name (declarations fs) at_field space name ≡ false
      timely = holds_of _ _ F.e (head_timely (declarations fs) at_field space name z F.b (head_of F.i) o c had) F.expands

      M : (now : Operand) × (get_elem? F.e.now.operands o ≡ some now) × Made (declarations fs) at_field space name z F.b now F.e.inserted
      M = holds_of _ _ F.e (head_made (declarations fs) at_field space name z F.b (head_of F.i) o c had) F.expands

      numbered : (x : ℕ) → get_elem? F.e.now.operands o ≡ some (ref space (Id x) [] z) → ((k : ℕ) → find (table_of here) space x ≡ some k → has (firsts n out) space x ≡ true) → Became o space
      numbered x g h =
          let N = holds_of (λ (y : Head). step_c.Numbered here at_field space (Id x) [] z o y.operands) _ F.h (head_numbered here at_field space (Id x) [] z F.e.now o g) F.resolves in
          let f = named_number here.entries space x z N.0 N.1 in
          record { number = N.0; z = z; is = ap (λ (y : Head). get_elem? y.operands o) is-h ∙ N.2; backward = number_backward space x N.0 f (h N.0 f) }

      go : (now : Operand) → get_elem? F.e.now.operands o ≡ some now → Made (declarations fs) at_field space name z F.b now F.e.inserted → Became o space
      go now g (left p _) = numbered name (g ∙ ap {B = Option Operand} some p) (λ k f. own_before space name k z o low f timely)
      go now g (aliased j at f w b p a) = numbered (fresh j) (g ∙ ap {B = Option Operand} some p) (λ k f.
          new space (fresh j)
          (ap (λ (ds : List Declaration). has ds space (fresh j)) (holds_of _ _ F.new (inserted_decls here at_field F.e.inserted) F.adds)
          ∙ (sym (first_declared F.e.inserted space (fresh j)) ∙ ap is_just a)))

-- ---- a field at the end of a way

record There (way : List ℕ) (w w' : List ℕ) (ins : List Level) (fs out : Fields) (n : ℕ) (u : Standing) : Type 0 where
  ls : List Level
  around_is : ls ≡ u.around
  arrived : Arrived way w w' ins fs out ls
  i' : Item
  has_it : get_elem? (items arrived.gout) n ≡ some i'
  head_is : head_of i' ≡ u.head
  field : FieldOut arrived.gs (declarations arrived.gs) arrived.here arrived.outside arrived.gout n i'

standing_inv : (l : Level) (ls : List Level) (n : ℕ) (u : Standing) → standing_in (l ∷ ls) n ≡ some u
    → (i : Item) × (get_elem? (items l.fields) n ≡ some i) × (head_of i ≡ u.head) × (l ∷ ls ≡ u.around)
unfolding standing_in
standing_inv l ls n u e =
    let s₁ = then_some (get_elem? (items l.fields) n) _ u e in
    let same = some_same _ u s₁.2 in
    (s₁.0, s₁.1, ap (λ (x : Standing). x.head) same, ap (λ (x : Standing). x.around) same)

there : (way : List ℕ) {w' : List ℕ} {els : List Level} {fs : Fields} {outside : Outside} {here : Env} {out : Fields} → Here w' els fs outside here out → (w : List ℕ) (ins : List Level) (n : ℕ) (ls : List Level) (u : Standing)
    → enclosing way (level w' out) els ≡ some ls → standing_in ls n ≡ some u → There way w w' ins fs out n u
there way {w'} H w ins n ls u e₁ e₂ =
    let A = descend way H w ins ls e₁ in
    let S = standing_inv (level (w' ++ way) A.gout) A.els n u (ap (λ (x : List Level). standing_in x n) A.is ∙ e₂) in
    let E = A.scope.ends in
    record {
      ls = ls;
      around_is = sym A.is ∙ S.3;
      arrived = A;
      i' = S.0;
      has_it = S.1;
      head_is = S.2;
      field = field_out A.gs (declarations A.gs) A.here A.outside E.k E.k' (A.gout, E.k'') n S.0 E.low E.resolves S.1;
    }

-- ---- places with inserted fields left out

append_same : (xs : List ℕ) {ys zs : List ℕ} → xs ++ ys ≡ xs ++ zs → ys ≡ zs
append_same [] e = e
append_same (x ∷ xs) e = append_same xs cc

numbered_original : (fs : Fields) (n m : ℕ) (i : Item) → renumbered fs n ≡ some m → get_elem? (items fs) n ≡ some i → is_inserted (head_of i) ≡ false
unfolding renumbered items
numbered_original end n m i e g = no_option i g
numbered_original (i₀ ▸ fs) zero m i e g = go (is_inserted (head_of i₀)) refl e (some_same i₀ i g)
  where
    go : (b : Bool) → is_inserted (head_of i₀) ≡ b → only (not b) 0 ≡ some m → i₀ ≡ i → is_inserted (head_of i) ≡ false
    go true q e s = unfold only in no_option m e
    go false q e s = ap (λ (x : Item). is_inserted (head_of x)) (sym s) ∙ q
numbered_original (i₀ ▸ fs) (suc n) m i e g = go (is_inserted (head_of i₀)) e (λ m e. numbered_original fs n m i e g)
  where
    go : (b : Bool) → (when b then renumbered fs n else map suc (renumbered fs n)) ≡ some m → ((m : ℕ) → renumbered fs n ≡ some m → is_inserted (head_of i) ≡ false) → is_inserted (head_of i) ≡ false
    go true e f = f m (unfold when◌then◌else◌ in e)
    go false e f = inner (renumbered fs n) (unfold when◌then◌else◌ in e) f
      where
        inner : (o : Option ℕ) → map suc o ≡ some m → ((m : ℕ) → o ≡ some m → is_inserted (head_of i) ≡ false) → is_inserted (head_of i) ≡ false
        inner none e f = no_option m e
        inner (some k) e f = f k refl

-- ---- the theorems

-- a field of an accepted output, with what lies around the form
record Stands (around : Around) (s t : Scope) (way : List ℕ) (n : ℕ) (u : Standing) : Type 0 where
  at : There way around.base around.full around.ins (readings.fields_of s) (readings.fields_of t) n u
  standing : record { around = level (around.full ++ way) at.arrived.gout ∷ at.arrived.els; head = head_of at.i' } ≡ u

module _ (rules : RuleSet) (around : Around) (out-holders : HoldersAround around.full around.els around.outside) where
  stands : (s : Scope) (r : Scope × ℕ) → LowScope s → rules.early ≡ true → resolve_inside rules around.outside s ≡ ok r
      → (way : List ℕ) (n : ℕ) (u : Standing) → standing_inside around.full around.els r.0 way n ≡ some u → Stands around s r.0 way n u
  unfolding standing_inside
  stands (scope kind name fs) r low early eq way n u e =
      let E = runs.ended kind name fs (at_root rules around.outside) 0 r low.1 eq in
      let out_is : readings.fields_of r.0 ≡ E.1 = ap readings.fields_of E.3 in
      let s₁ = then_some (enclosing way (level around.full (readings.fields_of r.0)) around.els) _ u e in
      let T = there way (record { ends = E.2; early = early; begins = refl; holders = out-holders }) around.base around.ins n s₁.0 u
      (subst (λ (x : Fields). enclosing way (level around.full x) around.els ≡ some s₁.0) out_is s₁.1) s₁.2 in
      subst (λ (t : Scope). Stands around (scope kind name fs) t way n u) (sym E.3)
      (record { at = T; standing = go u (T.arrived.is ∙ T.around_is) T.head_is })
    where
      go : {ls : List Level} {h : Head} (u : Standing) → ls ≡ u.around → h ≡ u.head → record { around = ls; head = h } ≡ u
      go u a b = rw (a, b)

  module _ (s : Scope) (r : Scope × ℕ) (low : LowScope s) (early : rules.early ≡ true) (eq : resolve_inside rules around.outside s ≡ ok r) where
    -- Every inserted outer alias denotes, by the explainer's reading, a definition that stands before the field that holds the alias's
    -- component: the steps to the alias go on from the definition's component through a later field.
    pub alias_before : (way : List ℕ) (n : ℕ) (u : Standing) → standing_inside around.full around.els r.0 way n ≡ some u → is_inserted u.head ≡ true → u.head.code ≡ 11
        → Backward (explained u) ((around.full ++ way) ++ (n ∷ []))
    alias_before way n u e new code =
        let S = stands s r low early eq way n u e in
        let F = S.at.field in
        go S F F.comes
      where
        go : (S : Stands around s r.0 way n u) (F : FieldOut S.at.arrived.gs (declarations S.at.arrived.gs) S.at.arrived.here S.at.arrived.outside S.at.arrived.gout n S.at.i')
            → Comes F.f F.new F.q.0 F.h S.at.arrived.gout n S.at.i' → Backward (explained u) ((around.full ++ way) ++ (n ∷ []))
        go S F (kept a b c d g) = false_not (sym c ∙ (ap (λ (x : Standing). is_inserted x.head) S.standing ∙ new))
        go S F (made x p _ q) =
            let A = S.at.arrived in
            let o = seeing A.outside F.seen in
            let is_x : head_of S.at.i' ≡ x = unfold head_of in rw q in
            let served = holds_of _ _ F.e (head_served (declarations A.gs) o F.b (head_of F.i)) F.expands in
            let all = holds_of _ _ F.new (outer_stays A.here o (served_stays A.here o (declarations A.gs) (head_of F.i) F.e.now) F.e.inserted served) F.adds in
            let mine : ServedBy (declarations A.gs) o (head_of F.i) F.e.now x = all_in all p (ap (λ (y : Head). y.code) (sym is_x) ∙ (ap (λ (y : Standing). y.head.code) S.standing ∙ code)) in
            subst (λ (y : Standing). Backward (explained y) ((around.full ++ way) ++ (n ∷ [])))
            (ap (λ (y : Head). record { around = level (around.full ++ way) A.gout ∷ A.els; head = y }) (sym is_x) ∙ S.standing)
            (alias_backward A.scope n S.at.i' F x mine)

    -- Every walked name at `p` is in the output a number, at the operand `o` of the field `n` that stands for it there, and counts in its
    -- component to a definition that stands before that field.
    pub name_before : (way : List ℕ) (n o : ℕ) (u : Standing) (p : Place) (x : ℕ × ℕ) → standing_inside around.full around.els r.0 way n ≡ some u
        → among_inside around.base r.0 way n o ≡ some (place_from around.base p) → readings.walked_inside around.base around.ins s p ≡ some x
        → Numbered u o x.0 ((around.full ++ way) ++ (n ∷ []))
    unfolding among_inside readings.walked_inside readings.use_inside
    name_before way n o u p x e among w =
        let S = stands s r low early eq way n u e in
        let A = S.at.arrived in
        let s₁ = then_some (reached around.base way (readings.fields_of r.0)) _ _ among in
        let s₂ = then_some (renumbered s₁.0.fields n) _ _ s₁.2 in
        let l-is : s₁.0 ≡ level (around.base ++ A.v) A.gout = some_same _ _ (sym s₁.1 ∙ A.in_all) in
        let number_is : renumbered A.gout n ≡ some s₂.0 = ap (λ (l : Level). renumbered l.fields n) (sym l-is) ∙ s₂.1 in
        let place_is : record { way = s₁.0.way; field = s₂.0; at = o } ≡ place_from around.base p = some_same _ _ s₂.2 in
        let v-is : A.v ≡ p.way = append_same around.base (sym (ap (λ (l : Level). l.way) l-is) ∙ ap (λ (q : Place). q.way) place_is) in
        go S S.at.field S.at.field.comes s₂.0 number_is v-is (ap (λ (q : Place). q.field) place_is) (ap (λ (q : Place). q.at) place_is)
      where
        go : (S : Stands around s r.0 way n u) (F : FieldOut S.at.arrived.gs (declarations S.at.arrived.gs) S.at.arrived.here S.at.arrived.outside S.at.arrived.gout n S.at.i')
            → Comes F.f F.new F.q.0 F.h S.at.arrived.gout n S.at.i' → (m : ℕ) → renumbered S.at.arrived.gout n ≡ some m → S.at.arrived.v ≡ p.way → m ≡ p.field → o ≡ p.at
            → Numbered u o x.0 ((around.full ++ way) ++ (n ∷ []))
        go S F (made y a new q) m number_is v-is f-is o_is =
            let not_new = numbered_original S.at.arrived.gout n m S.at.i' number_is S.at.has_it in
            let is_y : head_of S.at.i' ≡ y = unfold head_of in rw q in
            false_not (sym not_new ∙ (ap is_inserted is_y ∙ new))
        go S F (kept a b c d new) m number_is v-is f-is o_is =
            let A = S.at.arrived in
            let field_is : F.f ≡ p.field = some_same F.f m (sym d ∙ number_is) ∙ f-is in
            let s₁ = then_some (readings.use_inside around.base around.ins s p) _ x w in
            let s₂ = then_some (readings.around p.way (level around.base (readings.fields_of s)) around.ins) _ s₁.0 s₁.1 in
            let same : s₂.0 ≡ level (around.base ++ A.v) A.gs ∷ A.around_it =
            some_same _ _ (sym s₂.1 ∙ (ap (λ (v : List ℕ). readings.around v (level around.base (readings.fields_of s)) around.ins) (sym v-is) ∙ A.in_input)) in
            let U = runs.use_inv (level (around.base ++ A.v) A.gs) A.around_it p.field p.at s₁.0 (ap (λ (v : List Level). readings.use_in v p.field p.at) (sym same) ∙ s₂.2) in
            let is-i : U.0 ≡ F.i = some_same _ _ (sym U.1 ∙ (ap (λ (f : ℕ). get_elem? (readings.originals A.gs) f) (sym field_is) ∙ F.there)) in
            let W = walked_ref s₁.0.head s₁.0.operand x s₁.2 in
            let code : here_only (head_of F.i).code ≡ false = ap (λ (j : Item). here_only (head_of j).code) (sym is-i) ∙ (ap (λ (h : Head). here_only h.code) U.3 ∙ W.2) in
            let had : get_elem? (head_of F.i).operands o ≡ some (ref x.0 (Id x.1) [] W.0) =
            ap (λ (k : ℕ). get_elem? (head_of F.i).operands k) o_is ∙ (ap (λ (j : Item). get_elem? (head_of j).operands p.at) (sym is-i) ∙ (U.2 ∙ ap {B = Option Operand} some W.1)) in
            subst (λ (y : Standing). Numbered y o x.0 ((around.full ++ way) ++ (n ∷ []))) S.standing (name_backward A.scope n S.at.i' F o x.0 x.1 W.0 code had b new)
