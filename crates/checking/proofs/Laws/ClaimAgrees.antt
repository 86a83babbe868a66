-- A claim whose fields are the input's and added aliases, and for which condition 4 holds: what its references count to is what the input's mean.
use Rattle.std.specs.Prelude.{◌≡◌, Bool, true, List, [], ◌∷◌, ◌++◌, map, ℕ, zero, suc, ◌+◌, ◌≤◌, eqb}
use Rattle.std.proofs.Math.Path.{refl}
use Rattle.std.proofs.Common.{ap, ap₂, sym, ◌∙◌, subst, add-one, arith}
use Rattle.std.proofs.Math.Bool.{false}
use Rattle.std.proofs.Math.Option.{Option, none, some}
use Rattle.std.proofs.Math.ListN.{get_elem?}
use Rattle.rules.specs.Tools.{when◌then◌else◌, only, ◌then◌, ◌or_else◌}
use Rattle.rules.specs.Versions.{top_name}
use Rattle.rules.specs.Rows.{Num, Id}
use Rattle.rules.specs.Tree.{Declaration, Operand, ref, outer, case, Head, Scope, scope, Fields, end, ◌▸◌, Item, plain, holds, head_of}
use Rattle.rules.specs.Rules.{Env, find, walk, declarations, resolve_outer}
use Rattle.rules.specs.Readings
use Rattle.rules.specs.Readings.{is_inserted, originals, Place, Level, level, Spot, original, inserted, Standing, in_original, in_inserted, standings, of_space, place, declared, outward, counted, meant, counting}
use Rattle.checking.specs.Check
use Rattle.checking.specs.Check.{ref_number, outer_numbers, same_pair, reached, through_outer, table, name_right, ref_right, operand_right, not_right, head_operands, scope_operands, fields_operands, item_operands}
use Rattle.rules.specs.Laws.ToolLaws.{false_not, and_left, and_right, eqb-true, then_some, All, done, ◌&◌, all_append}
use Rattle.read_form.proofs.Laws.Parting.{or_else_second, no_cons, cons_head, cons_tail}
use Rattle.rules.specs.Laws.Results.{no_option, some_same}
use Rattle.rules.specs.Laws.Meaning.Names.{LowOperand, LowScope, LowFields, LowItem}
use Rattle.rules.proofs.Laws.Meaning.StepB.{walked_ref, low_operand}
use Rattle.rules.proofs.Laws.Meaning.Frames.{Framed, Frames, nowhere, inside, Meets, Walks, here_meets, walks}
use Rattle.rules.proofs.Laws.Meaning.Agree
use Rattle.rules.proofs.Laws.Output.Numbers.{Bare, AllBare}
use Rattle.rules.proofs.Laws.Meaning.Written.{is_written}
use Rattle.rules.proofs.Laws.Output.Kept.{blank_operand, blank, blank_item, without, without_item}
use Rattle.checking.proofs.Laws.SameFields.{BareScope, BareFields, BareItem}
use Rattle.checking.proofs.Laws.AddedFields.{FirstOf, Added, AddedScope, AddedFields, AddedItem, added_head}
use Rattle.checking.proofs.Laws.Plainly.{plain_table}
use Rattle.checking.proofs.Laws.Beside.{Beside, beside, same_first, same_head, same_operands, pick, same_scope, no_holds, same_inside, item_operands_lem, firsts, head_not_right}

-- ---- the field that a number reaches

-- the OUTER of an outer alias is of the space of its DECL
abbrev SpotOf : (space : ℕ) → Spot → Type 0
SpotOf space (original field at) = Unit {0}
SpotOf space (inserted h) = h.code ≡ 11 → FirstOf space h.operands

abbrev StandingOf : Standing → Type 0
StandingOf s = SpotOf s.decl.space s.spot

original_of : (n m : ℕ) (ds : List Declaration) → All StandingOf (in_original n m ds)
unfolding in_original
original_of n m [] = done
original_of n m (d ∷ ds) = tt & original_of n (suc m) ds

added_of : (h : Head) → Added h → All StandingOf (in_inserted h h.decls)
unfolding in_inserted
added_of h a = subst (λ (ds : List Declaration). All StandingOf (in_inserted h ds)) (sym a.alone) (a.spaced & done)

item_of : (n : ℕ) (h : Head) (b : Bool) → is_inserted h ≡ b → (is_inserted h ≡ true → Added h) → All StandingOf (when b then in_inserted h h.decls else in_original n 0 h.decls)
unfolding when◌then◌else◌
item_of n h true e a = added_of h (a e)
item_of n h false e a = original_of n 0 h.decls

standings_of : (n : ℕ) (cs : Fields) → AddedFields cs → All StandingOf (standings n cs)
unfolding standings
standings_of n end a = done
standings_of n (i ▸ cs) a = all_append _ _ (item_of n (head_of i) (is_inserted (head_of i)) refl (λ e. added_head i (a.0 e))) (standings_of (when is_inserted (head_of i) then n else suc n) cs a.2)

spots_of : (space : ℕ) (ss : List Standing) → All StandingOf ss → All (SpotOf space) (of_space ss space)
unfolding of_space
spots_of space [] a = done
spots_of space (s ∷ ss) (h & a) = go (eqb s.decl.space space) refl (spots_of space ss a)
  where
    go : (b : Bool) → eqb s.decl.space space ≡ b → All (SpotOf space) (of_space ss space) → All (SpotOf space) (when b then s.spot ∷ of_space ss space else of_space ss space)
    go true e p = unfold when◌then◌else◌ in (subst (λ (x : ℕ). SpotOf x s.spot) (eqb-true s.decl.space space e) h & p)
    go false e p = unfold when◌then◌else◌ in p

get_all : {A : Type 0} (P : A → Type 0) (xs : List A) (n : ℕ) (x : A) → All P xs → get_elem? xs n ≡ some x → P x
get_all P [] n x a e = no_option x e
get_all P (y ∷ xs) zero x (h & a) e = subst P (some_same y x e) h
get_all P (y ∷ xs) (suc n) x (h & a) e = get_all P xs n x a e

-- a number that reaches one added outer alias
record Through (cs : Fields) (w : List ℕ) (space n d i : ℕ) : Type 0 where
  h : Head
  reaches : counted (level w cs) space n ≡ some (inserted h)
  code : h.code ≡ 11
  z : ℕ
  others : List Operand
  operands : h.operands ≡ outer space (Num d) (Num i) z ∷ others

added_spot : (s : Spot) (h : Head) → Check.if_added s ≡ some h → s ≡ inserted h
unfolding Check.if_added
added_spot (original field at) h e = no_option h e
added_spot (inserted h') h e = ap inserted (some_same h' h e)

only_some : {A : Type 0} (b : Bool) (x y : A) → only b x ≡ some y → (b ≡ true) × (x ≡ y)
unfolding only
only_some true x y e = (refl, some_same x y e)
only_some false x y e = no_option y e

outer_is : (space : ℕ) (os : List Operand) (x : ℕ × ℕ) → FirstOf space os → (Check.first os then outer_numbers) ≡ some x
    → (z : ℕ) × (others : List Operand) × (os ≡ outer space (Num x.0) (Num x.1) z ∷ others)
unfolding Check.first outer_numbers ◌then◌
outer_is space [] x f e = no_option x e
outer_is space (ref s at paths z ∷ os) x f e = no_option x e
outer_is space (outer s (Num d) (Num i) z ∷ os) x f e =
    let p = some_same (d, i) x e in
    (z, os, ap₂ (λ (s : ℕ) (y : ℕ × ℕ). outer s (Num y.0) (Num y.1) z ∷ os) f p)
outer_is space (outer s (Num d) (Id name) z ∷ os) x f e = no_option x e
outer_is space (outer s (Id name) at z ∷ os) x f e = no_option x e
outer_is space (case name z ∷ os) x f e = no_option x e

through : (cs : Fields) (w : List ℕ) (space n : ℕ) (x : ℕ × ℕ) → AddedFields cs → through_outer cs space n ≡ some x → Through cs w space n x.0 x.1
unfolding through_outer reached counted
through cs w space n x a e =
    let s₂ = then_some (reached cs space n) _ x e in
    let s₁ = then_some (only (eqb s₂.0.code 11) s₂.0) _ x s₂.2 in
    let s₃ = then_some (get_elem? (of_space (standings 0 cs) space) n) Check.if_added s₂.0 s₂.1 in
    let o = only_some (eqb s₂.0.code 11) s₂.0 s₁.0 s₁.1 in
    let at-h : get_elem? (of_space (standings 0 cs) space) n ≡ some (inserted s₁.0) = s₃.1 ∙ ap {B = Option Spot} some (added_spot s₃.0 s₂.0 s₃.2 ∙ ap inserted o.1) in
    let code : s₁.0.code ≡ 11 = ap (λ (h : Head). h.code) (sym o.1) ∙ eqb-true s₂.0.code 11 o.0 in
    let of : SpotOf space (inserted s₁.0) = get_all (SpotOf space) (of_space (standings 0 cs) space) n (inserted s₁.0) (spots_of space (standings 0 cs) (standings_of 0 cs a)) at-h in
    let O = outer_is space s₁.0.operands x (of code) s₁.2 in
    record { h = s₁.0; reaches = at-h; code = code; z = O.0; others = O.1; operands = O.2 }

-- ---- a scope of a claim

record Scoped (cs fs : Fields) (kind name : ℕ) (outside : List Env) : Type 0 where
  alike : Beside cs fs
  bare : BareFields cs
  added : AddedFields cs
  low : LowFields fs
  row : ℕ
  right : fields_operands row cs (scope kind name cs) outside fs ≡ none

-- as the input has it, as the claim has it, and as a table
framed : {cs fs : Fields} {kind name : ℕ} {outside : List Env} (w : List ℕ) → Scoped cs fs kind name outside → Framed (level w fs) (level w cs) (table (scope kind name cs))
unfolding table
framed {cs} {fs} {kind} {name} w S =
    record {
      same_way = refl;
      same_first = λ space name l. same_first cs fs 0 space name S.alike S.added S.low l;
      table = sym (plain_table name (declarations cs));
      low = S.low;
    }

-- what a name finds among the claim's declarations
claim_meets : {cs fs : Fields} {kind called : ℕ} {outside : List Env} (w : List ℕ) → Scoped cs fs kind called outside → (space name : ℕ) → name ≤ top_name
    → Meets (level w cs) space (find (declarations cs) space name) (declared (level w fs) space name)
unfolding table
claim_meets {cs} {fs} {kind} {called} w S space name low =
    subst (λ (ds : List Declaration). Meets (level w cs) space (find ds space name) (declared (level w fs) space name)) (plain_table called (declarations cs)) (here_meets (framed w S) space name low)

-- ---- the operands of a field

record OperandAt (here : Scope) (outside : List Env) (now : List Operand) (o : ℕ) (w : Operand) : Type 0 where
  x : Operand
  there : get_elem? now o ≡ some x
  same : blank_operand x ≡ blank_operand w
  right : operand_right here outside w x ≡ true

module _ (here : Scope) (outside : List Env) where
  operand_at_lem : (n : ℕ) (now was : List Operand) (o : ℕ) (w : Operand) → map blank_operand now ≡ map blank_operand was → not_right here outside n now was ≡ none → get_elem? was o ≡ some w
      → OperandAt here outside now o w
  operand_at_lem n now [] o w s e g = no_option w g
  operand_at_lem n [] (w₀ ∷ was) o w s e g = no_cons s
  operand_at_lem n (x ∷ now) (w₀ ∷ was) zero w s e g =
      subst (λ (y : Operand). OperandAt here outside (x ∷ now) 0 y) (some_same w₀ w g) (record { x = x; there = refl; same = cons_head s; right = (firsts here outside n x w₀ now was e).first })
  operand_at_lem n (x ∷ now) (w₀ ∷ was) (suc o) w s e g =
      let O = operand_at_lem (suc n) now was o w (cons_tail s) (firsts here outside n x w₀ now was e).rest g in
      record { x = O.x; there = O.there; same = O.same; right = O.right }

-- a walked name in the claim
record NumberedName (here : Scope) (outside : List Env) (x : Operand) (space name z : ℕ) : Type 0 where
  n : ℕ
  paths : List ℕ
  place_z : ℕ
  is : x ≡ ref space (Num n) paths place_z
  right : ref_right here outside space (Id name) [] z n ≡ true

same_space : (s s' z z' : ℕ) → ref s (Num 0) [] z ≡ ref s' (Num 0) [] z' → s ≡ s'
same_space s s' z z' e = cc

no_outer : {X : Type 0} (s z s' z' : ℕ) → outer s (Num 0) (Num 0) z ≡ ref s' (Num 0) [] z' → X
no_outer s z s' z' e = let c : ◌≡◌ {A = ℕ} 0 1 = cc in absurd (omega arith)

no_case : {X : Type 0} (n z s' z' : ℕ) → case n z ≡ ref s' (Num 0) [] z' → X
no_case n z s' z' e = let c : ◌≡◌ {A = ℕ} 0 1 = cc in absurd (omega arith)

numbered_name : (here : Scope) (outside : List Env) (x : Operand) (space name z : ℕ) → blank_operand x ≡ blank_operand (ref space (Id name) [] z) → operand_right here outside (ref space (Id name) [] z) x ≡ true
    → NumberedName here outside x space name z
unfolding blank_operand operand_right Check.ref_now_right ref_number
numbered_name here outside (ref s (Num n) paths z') space name z e t =
    record { n = n; paths = paths; place_z = z'; is = ap (λ (y : ℕ). ref y (Num n) paths z') (same_space s space z' z e); right = t }
numbered_name here outside (ref s (Id m) paths z') space name z e t = false_not t
numbered_name here outside (outer s up at z') space name z e t = no_outer s z' space z e
numbered_name here outside (case m z') space name z e t = no_case m z' space z e

-- ---- both readings of a walked name in its scope

pair_same : (a b : Option (ℕ × ℕ)) → same_pair a b ≡ true → (x : ℕ × ℕ) × (a ≡ some x) × (b ≡ some x)
unfolding same_pair
pair_same none b e = false_not e
pair_same (some m) none e = false_not e
pair_same (some m) (some n) e =
    (m, refl, ap₂ (λ (x y : ℕ). some (x, y)) (sym (eqb-true m.0 n.0 (and_left (eqb m.0 n.0) _ e))) (sym (eqb-true m.1 n.1 (and_right (eqb m.0 n.0) _ e))))

-- an outer alias counts on to where the walk ended
counts_on : (l : Level) (ls : List Level) (space n j d i : ℕ) (paths : List ℕ) (z : ℕ) (p : Place) (h : Head) (z' : ℕ) (os : List Operand) → d ≡ j + 1 → h.code ≡ 11 → h.operands ≡ outer space (Num d) (Num i) z' ∷ os
    → (get_elem? ls j then λ l. counted l space i then place l) ≡ some p → counted l space n ≡ some (inserted h) → counting (l ∷ ls) (ref space (Num n) paths z) ≡ some p
unfolding counting meant Readings.counted_out ◌then◌ when◌then◌else◌
counts_on l ls space n j d i paths z p h z' os far code operands there e = rw (e, code, operands, far ∙ add-one j) there

counts_here : (l : Level) (ls : List Level) (space n : ℕ) (paths : List ℕ) (z : ℕ) (p : Place) → (counted l space n then place l) ≡ some p → counting (l ∷ ls) (ref space (Num n) paths z) ≡ some p
unfolding counting
counts_here l ls space n paths z p e = Agree.meant_place (l ∷ ls) l (counted l space n) p e

outward_here : (l : Level) (ls : List Level) (space name : ℕ) (p : Place) → declared l space name ≡ some p → outward (l ∷ ls) space name ≡ some p
unfolding outward ◌or_else◌
outward_here l ls space name p e = rw e

outward_on : (l : Level) (ls : List Level) (space name : ℕ) (p : Place) → declared l space name ≡ none → outward ls space name ≡ some p → outward (l ∷ ls) space name ≡ some p
unfolding outward ◌or_else◌
outward_on l ls space name p e f = rw (e, f)

abbrev Both : (ls ls' : List Level) (space name : ℕ) → Operand → Type 0
Both ls ls' space name o = (d : Place) × (outward ls space name ≡ some d) × (counting ls' o ≡ some d)

module _ {cs fs : Fields} {kind called : ℕ} {outside : List Env} (w : List ℕ) (S : Scoped cs fs kind called outside) {ins outs : List Level} (Fs : Frames ins outs outside)
    (space name z n : ℕ) (paths : List ℕ) (z' : ℕ) (low : name ≤ top_name) where
  abbrev Agreed : Type 0
  Agreed = Both (level w fs ∷ ins) (level w cs ∷ outs) space name (ref space (Num n) paths z')

  meets_here : (m : ℕ) (o : Option Place) → declared (level w fs) space name ≡ o → Meets (level w cs) space (some m) o → n ≡ m → Agreed
  meets_here m none e q s = absurd q
  meets_here m (some p) e q s =
      (p, outward_here (level w fs) ins space name p e, counts_here (level w cs) outs space n paths z' p (ap (λ (x : ℕ). counted (level w cs) space x then place (level w cs)) s ∙ q))

  undeclared : (o : Option Place) → declared (level w fs) space name ≡ o → Meets (level w cs) space none o → declared (level w fs) space name ≡ none
  undeclared none e q = e
  undeclared (some p) e q = absurd q

  meets_further : (x : ℕ × ℕ) (o : Option Place) → declared (level w fs) space name ≡ none → outward ins space name ≡ o → Walks outs space 1 (some x) o → Through cs w space n x.0 x.1 → Agreed
  meets_further x none u e q T = absurd q
  meets_further x (some p) u e q T =
      (p, outward_on (level w fs) ins space name p u e, counts_on (level w cs) outs space n q.0 x.0 x.1 paths z' p T.h T.z T.others q.1 T.code T.operands q.2 T.reaches)

  named_right : (o : Option ℕ) → find (declarations cs) space name ≡ o → Meets (level w cs) space o (declared (level w fs) space name)
      → name_right (scope kind called cs) outside o space name n ≡ true → Agreed
  unfolding name_right
  named_right (some m) e q t = meets_here m (declared (level w fs) space name) refl q (eqb-true n m t)
  named_right none e q t =
      let X = pair_same (through_outer cs space n) (walk outside 1 space name) t in
      meets_further X.0 (outward ins space name) (undeclared (declared (level w fs) space name) refl q) refl
      (subst (λ (y : Option (ℕ × ℕ)). Walks outs space 1 y (outward ins space name)) X.2 (walks Fs 1 space name low)) (through cs w space n X.0 S.added X.1)

  ref_agreed : ref_right (scope kind called cs) outside space (Id name) [] z n ≡ true → Agreed
  unfolding ref_right
  ref_agreed t = named_right (find (declarations cs) space name) refl (claim_meets w S space name low) t

-- ---- down the way to the scope of the reference

-- the scope that a field of the claim holds
record Within (i : Item) (gs : Fields) (outside : List Env) : Type 0 where
  cs : Fields
  kind : ℕ
  name : ℕ
  holding : Readings.held i ≡ some cs
  inner : Scoped cs gs kind name outside

held_scope_lem : (n kind name : ℕ) (cs : Fields) (kind' name' : ℕ) (fs : Fields) (outside : List Env) → blank (without (scope kind name cs)) ≡ blank (scope kind' name' fs) → BareFields cs → AddedFields cs → LowFields fs
    → scope_operands n (scope kind name cs) outside (scope kind' name' fs) ≡ none → Scoped cs fs kind name outside
unfolding blank without scope_operands
held_scope_lem n kind name cs kind' name' fs outside e b a l t = record { alike = beside cs fs (same_inside _ _ _ _ _ _ e); bare = b; added = a; low = l; row = suc n; right = t }

within : (i w : Item) (gs : Fields) (n : ℕ) (here : Scope) (outside : List Env) → blank_item (without_item i) ≡ blank_item w → Readings.held w ≡ some gs → BareItem i → AddedItem i → LowItem w → item_operands n i here outside w ≡ none
    → Within i gs (table here ∷ outside)
unfolding blank without Readings.held scope_operands
within i (plain w) gs n here outside e h b a l t = no_option gs h
within (plain h₀) (holds w t) gs n here outside e h b a l r = no_holds _ _ _ e
within (holds h₀ (scope kind name cs)) (holds w (scope kind' name' fs)) gs n here outside e h b a l r =
    subst (λ (x : Fields). Within (holds h₀ (scope kind name cs)) x (table here ∷ outside)) (some_same fs gs h)
    (record {
      cs = cs;
      kind = kind;
      name = name;
      holding = refl;
      inner = held_scope_lem _ kind name cs kind' name' fs (table here ∷ outside) (same_scope _ _ _ _ e) b.1 a l.1 (or_else_second (head_operands here outside n h₀ w) _ r);
    })

-- the scope at the end of a way: `ls` are it and those around it in the input, `ls'` in the claim
record Arrived (ls ls' : List Level) : Type 0 where
  fs : Fields
  cs : Fields
  kind : ℕ
  name : ℕ
  outside : List Env
  w : List ℕ
  inner : Scoped cs fs kind name outside
  ins : List Level
  outs : List Level
  frames : Frames ins outs outside
  was : level w fs ∷ ins ≡ ls
  now : level w cs ∷ outs ≡ ls'

descend : (way : List ℕ) {cs fs : Fields} {kind name : ℕ} {outside : List Env} (w : List ℕ) → Scoped cs fs kind name outside → {ins outs : List Level} → Frames ins outs outside
    → (ls : List Level) → Readings.around way (level w fs) ins ≡ some ls → (ls' : List Level) × (Readings.around way (level w cs) outs ≡ some ls') × Arrived ls ls'
unfolding Readings.around
descend [] {cs} {fs} {kind} {name} {outside} w S {ins} {outs} Fs ls e =
    (_, refl, record { fs = fs; cs = cs; kind = kind; name = name; outside = outside; w = w; inner = S; ins = ins; outs = outs; frames = Fs; was = some_same _ ls e; now = refl })
descend (n ∷ way) {cs} {fs} {kind} {name} {outside} w S {ins} {outs} Fs ls e =
    let s₁ = then_some (get_elem? (originals fs) n) _ ls e in
    let s₂ = then_some (Readings.held s₁.0) _ ls s₁.2 in
    let P = pick (scope kind name cs) outside cs fs S.row n s₁.0 S.alike S.bare S.added S.low S.right s₁.1 in
    let W = within P.i s₁.0 s₂.0 P.row (scope kind name cs) outside P.same s₂.1 P.bare P.added P.low_item P.right in
    let I = descend way {cs = W.cs} {fs = s₂.0} {kind = W.kind} {name = W.name} (w ++ (n ∷ [])) W.inner (inside (framed w S) Fs) ls s₂.2 in
    (I.0, Agree.around_step n way (level w cs) outs P.i W.cs I.0 P.there W.holding I.1, I.2)

-- ---- at the reference

record AgreedAt (ls ls' : List Level) (f o space name : ℕ) : Type 0 where
  d : Place
  reads : outward ls space name ≡ some d
  u : Readings.Use
  there : Readings.use_in ls' f o ≡ some u
  counts : counting u.levels u.operand ≡ some d

agree_here : {cs fs : Fields} {kind called : ℕ} {outside : List Env} (w : List ℕ) → Scoped cs fs kind called outside → {ins outs : List Level} → Frames ins outs outside
    → (f o : ℕ) (u : Readings.Use) (x : ℕ × ℕ) → Readings.use_in (level w fs ∷ ins) f o ≡ some u → Readings.walked u.head u.operand ≡ some x
    → AgreedAt (level w fs ∷ ins) (level w cs ∷ outs) f o x.0 x.1
agree_here {cs} {fs} {kind} {called} {outside} w S {ins} {outs} Fs f o u x e₁ e₂ =
    let U = Agree.use_inv (level w fs) ins f o u e₁ in
    let W = walked_ref u.head u.operand x e₂ in
    let P = pick (scope kind called cs) outside cs fs S.row f U.0 S.alike S.bare S.added S.low S.right U.1 in
    let e : get_elem? (head_of U.0).operands o ≡ some (ref x.0 (Id x.1) [] W.0) = U.2 ∙ ap {B = Option Operand} some W.1 in
    let l : LowOperand (ref x.0 (Id x.1) [] W.0) = low_operand (head_of U.0).operands o _ P.low_head.operands e in
    let H = head_not_right (scope kind called cs) outside P.row (head_of P.i) (head_of U.0) (item_operands_lem P.row P.i (scope kind called cs) outside U.0 P.right) in
    let O = operand_at_lem (scope kind called cs) outside H.0 (head_of P.i).operands (head_of U.0).operands o _ (same_operands _ _ (same_head P.i U.0 P.same)) H.1 e in
    let N = numbered_name (scope kind called cs) outside O.x x.0 x.1 W.0 O.same O.right in
    let B = ref_agreed w S Fs x.0 x.1 W.0 N.n N.paths N.place_z l.1 N.right in
    record {
      d = B.0;
      reads = B.1;
      u = _;
      there = Agree.use_there (level w cs) outs f o P.i (head_of P.i) (ref x.0 (Num N.n) N.paths N.place_z) P.there refl (O.there ∙ ap {B = Option Operand} some N.is);
      counts = B.2;
    }

agree_at : {ls ls' : List Level} → Arrived ls ls' → (f o : ℕ) (u : Readings.Use) (x : ℕ × ℕ) → Readings.use_in ls f o ≡ some u → Readings.walked u.head u.operand ≡ some x
    → AgreedAt ls ls' f o x.0 x.1
agree_at {ls} {ls'} D f o u x e₁ e₂ =
    subst (λ (v : List Level). AgreedAt v ls' f o x.0 x.1) D.was
    (subst (λ (v : List Level). AgreedAt (level D.w D.fs ∷ D.ins) v f o x.0 x.1) D.now
    (agree_here D.w D.inner D.frames f o u x (ap (λ (v : List Level). Readings.use_in v f o) D.was ∙ e₁) e₂))

-- ---- numbers stay as written

refs_same : (s s' z z' : ℕ) → ref s (Num 0) [] z ≡ ref s' (Num 0) [] z' → (s ≡ s') × (z ≡ z')
refs_same s s' z z' e = (cc, cc)

outers_same : (s s' z z' : ℕ) → outer s (Num 0) (Num 0) z ≡ outer s' (Num 0) (Num 0) z' → (s ≡ s') × (z ≡ z')
outers_same s s' z z' e = (cc, cc)

no_ref : {X : Type 0} (s z s' z' : ℕ) → ref s (Num 0) [] z ≡ outer s' (Num 0) (Num 0) z' → X
no_ref s z s' z' e = let c : ◌≡◌ {A = ℕ} 0 1 = cc in absurd (omega arith)

no_case' : {X : Type 0} (n z s' z' : ℕ) → case n z ≡ outer s' (Num 0) (Num 0) z' → X
no_case' n z s' z' e = let c : ◌≡◌ {A = ℕ} 0 1 = cc in absurd (omega arith)

no_ref_case : {X : Type 0} (s z n z' : ℕ) → ref s (Num 0) [] z ≡ case n z' → X
no_ref_case s z n z' e = let c : ◌≡◌ {A = ℕ} 0 1 = cc in absurd (omega arith)

no_outer_case : {X : Type 0} (s z n z' : ℕ) → outer s (Num 0) (Num 0) z ≡ case n z' → X
no_outer_case s z n z' e = let c : ◌≡◌ {A = ℕ} 0 1 = cc in absurd (omega arith)

written_ref : (here : Scope) (outside : List Env) (x : Operand) (space n z : ℕ) → Bare x → blank_operand x ≡ ref space (Num 0) [] z → operand_right here outside (ref space (Num n) [] z) x ≡ true → x ≡ ref space (Num n) [] z
unfolding blank_operand operand_right Check.ref_now_right ref_right ref_number
written_ref here outside (ref s (Num m) [] z') space n z b e t = rw ((refs_same s space z' z e).0, (refs_same s space z' z e).1, eqb-true m n t)
written_ref here outside (ref s (Num m) (q ∷ ps) z') space n z b e t = absurd b
written_ref here outside (ref s (Id m) paths z') space n z b e t = false_not t
written_ref here outside (outer s up at z') space n z b e t = no_outer s z' space z e
written_ref here outside (case m z') space n z b e t = no_case m z' space z e

written_outer : (here : Scope) (outside : List Env) (x : Operand) (space d n z : ℕ) → blank_operand x ≡ outer space (Num 0) (Num 0) z → operand_right here outside (outer space (Num d) (Num n) z) x ≡ true → x ≡ outer space (Num d) (Num n) z
unfolding blank_operand operand_right outer_numbers same_pair Check.found resolve_outer ◌then◌
written_outer here outside (ref s at paths z') space d n z e t = no_ref s z' space z e
written_outer here outside (outer s (Num d') (Num n') z') space d n z e t =
    rw ((outers_same s space z' z e).0, (outers_same s space z' z e).1, eqb-true d' d (and_left (eqb d' d) _ t), eqb-true n' n (and_right (eqb d' d) _ t))
written_outer here outside (outer s (Num d') (Id m) z') space d n z e t = false_not t
written_outer here outside (outer s (Id m) at z') space d n z e t = false_not t
written_outer here outside (case m z') space d n z e t = no_case' m z' space z e

written_case : (x : Operand) (name z : ℕ) → blank_operand x ≡ case name z → x ≡ case name z
unfolding blank_operand
written_case (ref s at paths z') name z e = no_ref_case s z' name z e
written_case (outer s up at z') name z e = no_outer_case s z' name z e
written_case (case m z') name z e = e

-- an operand that holds numbers and no PATHs
written_is : (here : Scope) (outside : List Env) (x w : Operand) → Bare x → is_written w ≡ true → blank_operand x ≡ blank_operand w → operand_right here outside w x ≡ true → x ≡ w
unfolding is_written
written_is here outside x (ref space (Num n) [] z) b t e q = written_ref here outside x space n z b (unfold blank_operand in e) q
written_is here outside x (ref space (Num n) (p ∷ ps) z) b t e q = false_not t
written_is here outside x (ref space (Id name) paths z) b t e q = false_not t
written_is here outside x (outer space (Num d) (Num n) z) b t e q = written_outer here outside x space d n z (unfold blank_operand in e) q
written_is here outside x (outer space (Num d) (Id name) z) b t e q = false_not t
written_is here outside x (outer space (Id name) at z) b t e q = false_not t
written_is here outside x (case name z) b t e q = written_case x name z (unfold blank_operand in e)

bare_operand : (os : List Operand) (o : ℕ) (x : Operand) → AllBare os → get_elem? os o ≡ some x → Bare x
bare_operand [] o x b e = no_option x e
bare_operand (y ∷ os) zero x b e = subst Bare (some_same y x e) b.0
bare_operand (y ∷ os) (suc o) x b e = bare_operand os o x b.1 e

bare_own : (i : Item) → BareItem i → AllBare (head_of i).operands
unfolding head_of
bare_own (plain h) b = b
bare_own (holds h s) b = b.0

abbrev Stays : List Level → (f o : ℕ) → Readings.Use → Type 0
Stays ls' f o u = (u' : Readings.Use) × (Readings.use_in ls' f o ≡ some u') × (u'.operand ≡ u.operand)

stays_here : {cs fs : Fields} {kind called : ℕ} {outside : List Env} (w : List ℕ) → Scoped cs fs kind called outside → (ins outs : List Level)
    → (f o : ℕ) (u : Readings.Use) → Readings.use_in (level w fs ∷ ins) f o ≡ some u → is_written u.operand ≡ true → Stays (level w cs ∷ outs) f o u
stays_here {cs} {fs} {kind} {called} {outside} w S ins outs f o u e t =
    let U = Agree.use_inv (level w fs) ins f o u e in
    let P = pick (scope kind called cs) outside cs fs S.row f U.0 S.alike S.bare S.added S.low S.right U.1 in
    let H = head_not_right (scope kind called cs) outside P.row (head_of P.i) (head_of U.0) (item_operands_lem P.row P.i (scope kind called cs) outside U.0 P.right) in
    let O = operand_at_lem (scope kind called cs) outside H.0 (head_of P.i).operands (head_of U.0).operands o u.operand (same_operands _ _ (same_head P.i U.0 P.same)) H.1 U.2 in
    let is = written_is (scope kind called cs) outside O.x u.operand (bare_operand (head_of P.i).operands o O.x (bare_own P.i P.bare) O.there) t O.same O.right in
    (_, Agree.use_there (level w cs) outs f o P.i (head_of P.i) u.operand P.there refl (O.there ∙ ap {B = Option Operand} some is), refl)

stays_at : {ls ls' : List Level} → Arrived ls ls' → (f o : ℕ) (u : Readings.Use) → Readings.use_in ls f o ≡ some u → is_written u.operand ≡ true → Stays ls' f o u
stays_at {ls} {ls'} D f o u e t =
    subst (λ (v : List Level). Stays v f o u) D.now
    (stays_here D.w D.inner D.ins D.outs f o u (ap (λ (v : List Level). Readings.use_in v f o) D.was ∙ e) t)

-- ---- on trees

-- a claim that is the input but for its added fields and its operands, whose added fields are aliases, and for which condition 4 holds
pub record Faithful (s c : Scope) : Type 0 where
  pub low : LowScope s
  pub bare : BareScope c
  pub same : blank (without c) ≡ blank s
  pub added : AddedScope c
  pub right : Check.condition4 s c ≡ none

-- For every walked name the outward reading of the input is a declaration, and counting in the claim gives the same one.
pub claim_agrees : (s c : Scope) (p : Place) (x : ℕ × ℕ) → Faithful s c → Readings.walked_at s p ≡ some x
    → (d : Place) × (Readings.outward_reading s p ≡ some d) × (Readings.counting_reading c p ≡ some d)
unfolding Check.condition4 Readings.walked_inside Readings.use_inside
claim_agrees (scope kind name fs) (scope kind' name' cs) p x T w =
    let S = held_scope_lem 0 kind' name' cs kind name fs [] T.same T.bare T.added T.low.1 T.right in
    let s₁ = then_some (Readings.use_at (scope kind name fs) p) _ x w in
    let s₂ = then_some (Readings.around p.way (level [] fs) []) _ s₁.0 s₁.1 in
    let D = descend p.way [] S nowhere s₂.0 s₂.1 in
    let A = agree_at D.2 p.field p.at s₁.0 x s₂.2 s₁.2 in (
      A.d,
      Agree.outward_is [] [] (scope kind name fs) p s₁.0 x A.d s₁.1 s₁.2
          (ap (λ (v : List Level). outward v x.0 x.1) (Agree.use_levels s₂.0 p.field p.at s₁.0 s₂.2) ∙ A.reads),
      Agree.counting_is [] [] (scope kind' name' cs) p D.0 A.u A.d D.1 A.there A.counts,
    )

-- An operand that holds numbers and no PATHs stands unchanged at the same place of the claim.
pub claim_stays : (s c : Scope) (p : Place) (u : Readings.Use) → Faithful s c → Readings.use_at s p ≡ some u → is_written u.operand ≡ true
    → (u' : Readings.Use) × (Readings.use_at c p ≡ some u') × (u'.operand ≡ u.operand)
unfolding Check.condition4 Readings.use_inside
claim_stays (scope kind name fs) (scope kind' name' cs) p u T e t =
    let S = held_scope_lem 0 kind' name' cs kind name fs [] T.same T.bare T.added T.low.1 T.right in
    let s₁ = then_some (Readings.around p.way (level [] fs) []) _ u e in
    let D = descend p.way [] S nowhere s₁.0 s₁.1 in
    let Z = stays_at D.2 p.field p.at u s₁.2 t in
    (Z.0, Agree.use_is [] [] (scope kind' name' cs) p D.0 Z.0 D.1 Z.1, Z.2)

-- What a name finds in a scope of the claim, by counting the claim's declarations, is the declaration of that name in the input's scope: so
-- condition 4 may look names up in the claim.
pub claim_lookups : (s c : Scope) (way : List ℕ) (l : Level) (ls : List Level) → Faithful s c → Readings.around way (Readings.root s) [] ≡ some (l ∷ ls)
    → (l' : Level) × (ls' : List Level) × (Readings.around way (Readings.root c) [] ≡ some (l' ∷ ls'))
    × ((space name : ℕ) → name ≤ top_name → Meets l' space (find (declarations l'.fields) space name) (declared l space name))
unfolding Check.condition4 Readings.root
claim_lookups (scope kind name fs) (scope kind' name' cs) way l ls T e =
    let S = held_scope_lem 0 kind' name' cs kind name fs [] T.same T.bare T.added T.low.1 T.right in
    let D = descend way [] S nowhere (l ∷ ls) e in
    let A = D.2 in
    let is-l : level A.w A.fs ≡ l = cons_head A.was in (
      level A.w A.cs,
      A.outs,
      D.1 ∙ ap {B = Option (List Level)} some (sym A.now),
      λ space name low.
          subst (λ (x : Level). Meets (level A.w A.cs) space (find (declarations A.cs) space name) (declared x space name)) is-l
          (claim_meets A.w A.inner space name low),
    )
