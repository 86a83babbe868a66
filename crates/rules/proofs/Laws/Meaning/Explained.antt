-- The explainer: in every accepted run each inserted outer alias is one that the explainer allows, and denotes by the explainer's
-- reading the declaration that the outward reading of its reference gives.
-- The recursion is over the way to the alias in the output, as in Agree; there the scopes have three around (Frames), here they have a
-- fourth, the explainer's, in which every field counts.
use Rattle.std.specs.Prelude.{◌≡◌, true, false, ℕ, ◌≤◌, ◌<◌, length}
use Rattle.std.proofs.Math.Path.{refl, ap, subst}
use Rattle.std.proofs.Common.{sym, ◌∙◌, add-one, arith}
use Rattle.std.proofs.Math.Option.{Option, none, some}
use mathlib.Core.List.{List, [], ◌∷◌, ◌++◌, append_assoc, append-nil}
use Rattle.std.proofs.Math.ListN.{get_elem?}
use Rattle.rules.specs.Tools.{when◌then◌else◌, only, ◌then◌, ◌or_else◌, is_in}
use Rattle.rules.specs.Versions.{RuleSet, top_name}
use Rattle.rules.specs.Rows.{Num, Id}
use Rattle.rules.specs.Tree.{Operand, ref, Head, Scope, scope, Fields, Item, plain, holds, head_of}
use Rattle.rules.specs.Shapes.{FOUR, here_only}
use Rattle.rules.specs.Rules.{ok, Env, Outside, at_root, inward, fresh, expand_head, outer_alias, declarations, resolve_scope, resolve_item, resolve_inside}
use Rattle.rules.specs.Readings
use Rattle.rules.specs.Readings.{is_inserted, originals, Place, Level, level, Spot, inserted, place, declared, outward, counted, held}
use Rattle.rules.specs.Explainer
use Rattle.rules.specs.Explainer.{items, enclosing, Standing, standing_in, standing_inside, Definition, explained, renumbered, reached}
use Rattle.rules.proofs.Laws.Meaning.Runs.{seeing}
use Rattle.rules.specs.Laws.ToolLaws.{false_not, then_some}
use Rattle.rules.specs.Laws.Meaning.Names.{LowScope, LowItem}
use Rattle.rules.proofs.Laws.Meaning.StepB.{Made, left, aliased, low_operand, head_made}
use Rattle.rules.proofs.Laws.Meaning.StepC
use Rattle.rules.proofs.Laws.Meaning.StepC.{named_number, alias_resolved, inserted_first}
use Rattle.rules.proofs.Laws.Meaning.Frames.{pushed, Frames, inside, Walks, walks}
use Rattle.rules.proofs.Laws.Meaning.Lookups.{in_heads}
use Rattle.rules.proofs.Laws.Meaning.Agree
use Rattle.rules.proofs.Laws.Meaning.Agree.{At, Ended, Within}
use Rattle.rules.specs.Laws.Meaning.IndexSpaces.{Placed, Beside, beside, among_placed, same_definition}
use Rattle.rules.proofs.Laws.Meaning.Around.{Around}
use Rattle.rules.proofs.Laws.Meaning.Origins.{Origin, made, kept, From, from, Served, ServedBy, head_served, outer_stays, served_stays, all_in}
use Rattle.rules.specs.Laws.Results.{holds_of, some_same, ok_same, no_option}

-- ---- one scope further along a way

reached_step : (w way : List ℕ) (n m : ℕ) (fs : Fields) (l : Level) (i : Item) (gs : Fields) → get_elem? (items fs) n ≡ some i → held i ≡ some gs → renumbered fs n ≡ some m
    → reached (w ++ (m ∷ [])) way gs ≡ some l → reached w (n ∷ way) fs ≡ some l
unfolding reached ◌then◌
reached_step w way n m fs l i gs e₁ e₂ e₃ e₄ = rw (e₁, e₂, e₃) e₄

reached_snoc : (w way : List ℕ) (n m : ℕ) (fs : Fields) (l : Level) (i : Item) (gs : Fields) → reached w way fs ≡ some l
    → get_elem? (items l.fields) n ≡ some i → held i ≡ some gs → renumbered l.fields n ≡ some m → reached w (way ++ (n ∷ [])) fs ≡ some (level (l.way ++ (m ∷ [])) gs)
unfolding reached ◌then◌
reached_snoc w [] n m fs l i gs e e₁ e₂ e₃ =
    subst (λ (x : Level). get_elem? (items x.fields) n ≡ some i → held i ≡ some gs → renumbered x.fields n ≡ some m
    → reached w (n ∷ []) fs ≡ some (level (x.way ++ (m ∷ [])) gs)) (some_same (level w fs) l e) (λ a b c. rw (a, b, c)) e₁ e₂ e₃
reached_snoc w (k ∷ way) n m fs l i gs e e₁ e₂ e₃ =
    let s₁ = then_some (get_elem? (items fs) k) _ l e in
    let s₂ = then_some (held s₁.0) _ l s₁.2 in
    let s₃ = then_some (renumbered fs k) _ l s₂.2 in
    reached_step w (way ++ (n ∷ [])) k s₃.0 fs _ s₁.0 s₂.0 s₁.1 s₂.1 s₃.1 (reached_snoc (w ++ (s₃.0 ∷ [])) way n m s₂.0 l i gs s₃.2 e₁ e₂ e₃)

-- ---- at the scope of the alias

-- Of an inserted outer alias `u` of the output `t`, where `s` is the input.
pub record Explained (around : Around) (s t : Scope) (u : Standing) : Type 0 where
  pub space : ℕ
  pub new : ℕ
  pub count : ℕ
  pub index : ℕ
  pub z : ℕ
  -- it is a field of code 11 that declares an item of that space, and its OUTER is two numbers
  pub is : u.head ≡ outer_alias space new count index z
  pub of_four : is_in space FOUR ≡ true
  -- it counts from 0 at its own scope, and so at least one outward; and no further than there are scopes
  pub outward_from_here : 1 ≤ count
  pub within_open : count < length u.around
  -- the reference that it serves is a walked name of the input,
  pub serves : Place
  pub name : ℕ
  pub walks_for : Readings.walked_inside around.base around.ins s serves ≡ some (space, name)
  -- which in the output is a number that counts to this alias
  pub becomes : Readings.Use
  pub stands : Readings.use_inside around.base around.outs t serves ≡ some becomes
  pub here : Level
  pub outside : List Level
  pub number : ℕ
  pub in_scope_lem : becomes.levels ≡ here ∷ outside
  pub numbered : becomes.operand ≡ ref space (Num number) [] z
  pub names_it : counted here space number ≡ some (inserted u.head)
  -- and the declaration that the rules mean by it is what the explainer says that the alias denotes
  pub meant : Place
  pub reads : Readings.outward_inside around.base around.ins s serves ≡ some meant
  pub denoted : (explained u then around.among t) ≡ some meant

walked_is : (h : Head) (space name z : ℕ) → here_only h.code ≡ false → Readings.walked h (ref space (Id name) [] z) ≡ some (space, name)
unfolding Readings.walked only
walked_is h space name z e = rw e

explained_is : (ls : List Level) (space new count index z : ℕ) → explained (record { around = ls; head = outer_alias space new count index z }) ≡ Explainer.denotes ls space count index
unfolding explained Explainer.outer_denotes outer_alias when◌then◌else◌
explained_is ls space new count index z = refl

further : (l : Level) (ls : List Level) (space name : ℕ) (p : Place) → declared l space name ≡ none → outward ls space name ≡ some p → outward (l ∷ ls) space name ≡ some p
unfolding outward ◌or_else◌
further l ls space name p e₁ e₂ = rw e₁ e₂

-- a scope of the run on the way to the alias: what it was and is, and the scopes around it in all four views
record Here (around : Around) (s t : Scope) (fs : Fields) (outside : Outside) (here : Env) (out : Fields) : Type 0 where
  -- the way to it from the form's root, and from where that of the root begins; and with all fields
  v : List ℕ
  w : List ℕ
  v' : List ℕ
  w' : List ℕ
  ends : Ended fs outside here out
  ins : List Level
  outs : List Level
  els : List Level
  frames : Frames ins outs outside.scopes
  besides : Beside (around.among t) els outs
  in_input : Readings.around v (level around.base (Readings.fields_of s)) around.ins ≡ some (level w fs ∷ ins)
  in_output : Readings.around v (level around.base (Readings.fields_of t)) around.outs ≡ some (level w out ∷ outs)
  in_all : reached around.base v' (Readings.fields_of t) ≡ some (level w out)
  full_way : w' ≡ around.full ++ v'

-- its definitions are placed
placed : {around : Around} {s t : Scope} {fs : Fields} {outside : Outside} {here : Env} {out : Fields} → (H : Here around s t fs outside here out) → Placed (around.among t) H.w' (level H.w out)
placed {around} {t = t} {out = out} H field at m e =
    ap (λ (x : List ℕ). around.among t (record { way = x; field = field; at = at })) H.full_way
    ∙ (around.lies t H.v' field at ∙ among_placed around.base t H.v' (level H.w out) H.in_all field at m e)

module _ {around : Around} {s t : Scope} {fs : Fields} {outside : Outside} {here : Env} {out : Fields} (H : Here around s t fs outside here out) where
  -- the alias `h`, made at the field `f` for its operand number `o`
  alias_explained : (f : ℕ) (i : Item) → get_elem? (originals fs) f ≡ some i → (A : At i f 0 (declarations fs) here outside H.ends.k out) (h : Head)
      → ServedBy (declarations fs) (seeing outside A.seen) (head_of i) A.e.now h
      → Explained around s t (record { around = level H.w' out ∷ H.els; head = h })
  unfolding fresh
  alias_explained f i ei A h S =
      meets (outward H.ins space name) refl (rw Q.walks_to at (walks H.frames 1 space name low))
    where
      Q : Served (declarations fs) (seeing outside A.seen) S.served.was S.served.now h
      Q = S.served.served

      space : ℕ
      space = Q.space

      name : ℕ
      name = Q.name

      had : get_elem? (head_of i).operands S.served.o ≡ some (ref space (Id name) [] Q.z)
      had = S.served.had ∙ ap {B = Option Operand} some Q.was_ref

      low : name ≤ top_name
      low = (low_operand (head_of i).operands S.served.o _ A.low_head.operands had).1

      has : get_elem? A.e.now.operands S.served.o ≡ some (ref space (Id (fresh Q.j)) [] Q.z)
      has = S.served.has ∙ ap {B = Option Operand} some Q.now_ref

      -- its number in the table of step C
      N : StepC.Numbered here (seeing outside A.seen) space (Id (fresh Q.j)) [] Q.z S.served.o A.h.operands
      N =
          holds_of (λ (x : Head). StepC.Numbered here (seeing outside A.seen) space (Id (fresh Q.j)) [] Q.z S.served.o x.operands) _ A.h
          (StepC.head_numbered here (seeing outside A.seen) space (Id (fresh Q.j)) [] Q.z A.e.now S.served.o has) A.resolves

      M : (now : Operand) × (get_elem? A.e.now.operands S.served.o ≡ some now) × Made (declarations fs) (seeing outside A.seen) space name Q.z A.b now A.e.inserted
      M =
          holds_of _ (expand_head (declarations fs) (seeing outside A.seen) A.b (head_of i)) A.e
          (head_made (declarations fs) (seeing outside A.seen) space name Q.z A.b (head_of i) S.served.o S.walks had) A.expands

      alias : Head
      alias = outer_alias space (fresh Q.j) Q.at.0 Q.at.1 Q.z

      first_made : (now : Operand) → get_elem? A.e.now.operands S.served.o ≡ some now → Made (declarations fs) (seeing outside A.seen) space name Q.z A.b now A.e.inserted
          → (A.b ≤ Q.j) × (Readings.first_named (in_heads A.e.inserted) space (fresh Q.j) ≡ some (inserted alias))
      first_made now g (left p _) =
          let same : name ≡ fresh Q.j = cc in absurd (omega (arith, low))
      first_made now g (aliased j at f₁ w₁ b p a) =
          let same : fresh j ≡ fresh Q.j = cc in
          let same_at : at ≡ Q.at = cc in
          let same-j : j ≡ Q.j = omega arith in
          (omega arith, rw (same-j, same_at) at a)

      names : counted (level H.w out) space N.0 ≡ some (inserted h)
      names =
          let F = first_made M.0 M.1 M.2 in
          let first : Readings.first_named (in_heads A.new) space (fresh Q.j) ≡ some (inserted alias) =
          holds_of _ _ A.new (inserted_first here (seeing outside A.seen) space (fresh Q.j) alias alias (alias_resolved here (seeing outside A.seen) space (fresh Q.j) Q.at.0 Q.at.1 Q.z) A.e.inserted F.1) A.adds in
          Agree.counted_first (level H.w out) here space (fresh Q.j) N.0 (inserted alias) (Agree.framed H.ends H.w).table
          (named_number here.entries space (fresh Q.j) Q.z N.0 N.1) (A.nearest space Q.j (inserted alias) F.0 first)
          ∙ ap {B = Option Spot} (λ (x : Head). some (inserted x)) (sym Q.is)

      at_place : Place
      at_place = record { way = H.v; field = f; at = S.served.o }

      was : Readings.use_inside around.base around.ins s at_place ≡ some (record { levels = level H.w fs ∷ H.ins; head = head_of i; operand = ref space (Id name) [] Q.z })
      was = Agree.use_is around.base around.ins s at_place _ _ H.in_input (Agree.use_there (level H.w fs) H.ins f S.served.o i (head_of i) _ ei refl had)

      meets : (o : Option Place) → outward H.ins space name ≡ o → Walks H.outs space 1 (some Q.at) o → Explained around s t (record { around = level H.w' out ∷ H.els; head = h })
      meets none q m = absurd m
      meets (some p) q m =
          let far = m.1 in
          let D = same_definition (around.among t) (beside {e = level H.w' out} refl (placed H) H.besides) space Q.at.0 Q.at.1 p Q.four
          (ap (λ (c : ℕ). get_elem? (level H.w out ∷ H.outs) c then λ l. counted l space Q.at.1 then place l) (far ∙ add-one m.0) ∙ m.2) in
          record {
            space = space;
            new = fresh Q.j;
            count = Q.at.0;
            index = Q.at.1;
            z = Q.z;
            is = Q.is;
            of_four = Q.four;
            outward_from_here = omega arith;
            within_open = D.0;
            serves = at_place;
            name = name;
            walks_for = Agree.walked_at_lem around.base around.ins s at_place _ (space, name) was (walked_is (head_of i) space name Q.z S.walks);
            becomes = _;
            stands = Agree.use_is around.base around.outs t at_place _ _ H.in_output (Agree.use_there (level H.w out) H.outs f S.served.o A.q.0 A.h _ A.there A.head N.2);
            here = level H.w out;
            outside = H.outs;
            number = N.0;
            in_scope_lem = refl;
            numbered = refl;
            names_it = names;
            meant = p;
            reads = Agree.outward_is around.base around.ins s at_place _ (space, name) p was (walked_is (head_of i) space name Q.z S.walks)
                (further (level H.w fs) H.ins space name p (Agree.not_declared (level H.w fs) space name Q.absent) q);
            denoted = ap (λ (x : Head). explained (record { around = level H.w' out ∷ H.els; head = x }) then around.among t) Q.is
                ∙ (ap (λ (d : Option Definition). d then around.among t) (explained_is (level H.w' out ∷ H.els) space (fresh Q.j) Q.at.0 Q.at.1 Q.z) ∙ D.1);
          }

-- ---- down the way to the alias

-- the scope that a field of the output holds is that of the field of the input that it was
within_back : (i : Item) (h : Head) (here : Env) (outside : Outside) (k : ℕ) (q : Item × ℕ) (gs' : Fields) → LowItem i → resolve_item i h here outside k ≡ ok q → held q.0 ≡ some gs'
    → (gs : Fields) × (held i ≡ some gs) × (W : Within gs (inward (head_of i) here outside) q.0) × (W.out ≡ gs')
unfolding held resolve_scope
within_back (plain h₀) h here outside k q gs' low eq e = no_option gs' (ap (λ (p : Item × ℕ). held p.0) (ok_same (plain h, k) q eq) ∙ e)
within_back (holds h₀ (scope kind name fs)) h here outside k q gs' low eq e =
    let W = Agree.within (holds h₀ (scope kind name fs)) h fs here outside k q low refl eq in
    (fs, refl, W, some_same W.out gs' (sym W.holding ∙ e))

Aliased : (around : Around) (s t : Scope) (fs : Fields) (outside : Outside) (here : Env) (out : Fields) (way : List ℕ) → Type 0
Aliased around s t fs outside here out way =
    (H : Here around s t fs outside here out) (n : ℕ) (ls : List Level) (u : Standing) → enclosing way (level H.w' out) H.els ≡ some ls → standing_in ls n ≡ some u
    → is_inserted u.head ≡ true → u.head.code ≡ 11 → Explained around s t u

explain_here : (around : Around) (s t : Scope) (fs : Fields) (outside : Outside) (here : Env) (out : Fields) → Aliased around s t fs outside here out []
unfolding Aliased enclosing standing_in
explain_here around s t fs outside here out H n ls u e₁ e₂ new code =
    let same : (level H.w' out ∷ H.els) ≡ ls = some_same _ ls e₁ in
    let s₁ = then_some (get_elem? (items out) n) _ u (subst (λ (v : List Level). standing_in v n ≡ some u) (sym same) e₂) in
    let stands : record { around = level H.w' out ∷ H.els; head = head_of s₁.0 } ≡ u = some_same _ u s₁.2 in
    let E = H.ends in
    let F = from fs 0 (declarations fs) here outside E.k E.k' (out, E.k'') n s₁.0 E.low E.resolves s₁.1 in
    go u s₁.0 stands F F.origin new code
  where
    go : (u : Standing) (i' : Item) → record { around = level H.w' out ∷ H.els; head = head_of i' } ≡ u
        → (F : From fs 0 (declarations fs) here outside H.ends.k out n i') → Origin F.A n i' → is_inserted u.head ≡ true → u.head.code ≡ 11 → Explained around s t u
    go u i' stands F (kept a b c) new code = false_not (sym b ∙ (ap (λ (x : Standing). is_inserted x.head) stands ∙ new))
    go u i' stands F (made h p q) new code =
        let A = F.A in
        let is-h : head_of i' ≡ h = unfold head_of in rw q in
        let served = holds_of _ _ A.e (head_served (declarations fs) (seeing outside A.seen) A.b (head_of F.i)) A.expands in
        let S = holds_of _ _ A.new (outer_stays here (seeing outside A.seen) (served_stays here (seeing outside A.seen) (declarations fs) (head_of F.i) A.e.now) A.e.inserted served) A.adds in
        let mine : ServedBy (declarations fs) (seeing outside A.seen) (head_of F.i) A.e.now h = all_in S p (ap (λ (x : Head). x.code) (sym is-h) ∙ (ap (λ (x : Standing). x.head.code) stands ∙ code)) in
        subst (Explained around s t) (ap (λ (x : Head). record { around = level H.w' out ∷ H.els; head = x }) (sym is-h) ∙ stands)
        (alias_explained H F.f F.i F.there A h mine)

explain_along : (way : List ℕ) (around : Around) (s t : Scope) (fs : Fields) (outside : Outside) (here : Env) (out : Fields) → Aliased around s t fs outside here out way
unfolding Aliased enclosing
explain_along [] around s t fs outside here out H n ls u e₁ e₂ new code = explain_here around s t fs outside here out H n ls u e₁ e₂ new code
explain_along (m ∷ way) around s t fs outside here out H n ls u e₁ e₂ new code =
    let s₁ = then_some (get_elem? (items out) m) _ ls e₁ in
    let s₂ = then_some (held s₁.0) _ ls s₁.2 in
    let E = H.ends in
    let F = from fs 0 (declarations fs) here outside E.k E.k' (out, E.k'') m s₁.0 E.low E.resolves s₁.1 in
    go s₁.0 s₂.0 s₁.1 s₂.1 s₂.2 F F.origin
    (λ gs here' out' H' f₁. explain_along way around s t gs (inward (head_of F.i) here (seeing outside F.A.seen)) here' out' H' n ls u f₁ e₂ new code)
  where
    go : (i' : Item) (gs' : Fields) → get_elem? (items out) m ≡ some i' → held i' ≡ some gs' → enclosing way (level (H.w' ++ (m ∷ [])) gs') (level H.w' out ∷ H.els) ≡ some ls
        → (F : From fs 0 (declarations fs) here outside H.ends.k out m i') → Origin F.A m i'
        → ((gs : Fields) (here' : Env) (out' : Fields) (H' : Here around s t gs (inward (head_of F.i) here (seeing outside F.A.seen)) here' out') → enclosing way (level H'.w' out') H'.els ≡ some ls → Explained around s t u)
        → Explained around s t u
    go i' gs' a b c F (made h p q) below = no_option gs' (unfold held in (ap held (sym q) ∙ b))
    go i' gs' a b c F (kept p q r) below =
        let A = F.A in
        let K = within_back F.i A.h here (seeing outside A.seen) A.k A.q gs' A.low_item A.items (ap held (sym p) ∙ b) in
        let W = K.2 in
        below K.0 W.here W.out
        (record {
          v = H.v ++ (F.f ∷ []);
          w = H.w ++ (F.f ∷ []);
          v' = H.v' ++ (m ∷ []);
          w' = H.w' ++ (m ∷ []);
          ends = W.ends;
          ins = level H.w fs ∷ H.ins;
          outs = level H.w out ∷ H.outs;
          els = level H.w' out ∷ H.els;
          frames = inside (pushed (Agree.framed H.ends H.w) A.seen.decls) H.frames;
          besides = beside refl (placed H) H.besides;
          in_input = Agree.around_snoc H.v F.f (level around.base (Readings.fields_of s)) around.ins (level H.w fs) H.ins F.i K.0 H.in_input F.there K.1;
          in_output = Agree.around_snoc H.v F.f (level around.base (Readings.fields_of t)) around.outs (level H.w out) H.outs A.q.0 W.out H.in_output A.there W.holding;
          in_all = reached_snoc around.base H.v' m F.f (Readings.fields_of t) (level H.w out) i' W.out H.in_all a (b ∙ ap {B = Option Fields} some (sym K.3)) r;
          full_way = ap (λ (x : List ℕ). x ++ (m ∷ [])) H.full_way ∙ append_assoc around.full H.v' (m ∷ []);
        })
        (subst (λ (x : Fields). enclosing way (level (H.w' ++ (m ∷ [])) x) (level H.w' out ∷ H.els) ≡ some ls) (sym K.3) c)

-- ---- the theorem

-- In every accepted run each inserted outer alias is of FOUR and holds two numbers, which count from 0 at the alias's own scope, and
-- the explainer reads it as the declaration that the outward reading gives for the reference that it serves.
pub explainer_agrees : (rules : RuleSet) (around : Around) (s : Scope) (r : Scope × ℕ) → LowScope s → resolve_inside rules around.outside s ≡ ok r → (way : List ℕ) (n : ℕ) (u : Standing)
    → standing_inside around.full around.els r.0 way n ≡ some u → is_inserted u.head ≡ true → u.head.code ≡ 11 → Explained around s r.0 u
unfolding Aliased standing_inside Readings.around reached
explainer_agrees rules around (scope kind name fs) r low eq way n u e new code =
    let E = Agree.ended kind name fs (at_root rules around.outside) 0 r low.1 eq in
    let s₁ = then_some (enclosing way (level around.full (Readings.fields_of r.0)) around.els) _ u e in
    let out_is : Readings.fields_of r.0 ≡ E.1 = ap Readings.fields_of E.3 in
    explain_along way around (scope kind name fs) r.0 fs (at_root rules around.outside) E.0 E.1
    (record {
      v = [];
      w = around.base;
      v' = [];
      w' = around.full;
      ends = E.2;
      ins = around.ins;
      outs = around.outs;
      els = around.els;
      frames = around.frames;
      besides = around.besides r.0;
      in_input = refl;
      in_output = ap {B = Option (List Level)} (λ (x : Fields). some (level around.base x ∷ around.outs)) out_is;
      in_all = ap {B = Option Level} (λ (x : Fields). some (level around.base x)) out_is;
      full_way = sym (append-nil around.full);
    })
    n s₁.0 u (subst (λ (x : Fields). enclosing way (level around.full x) around.els ≡ some s₁.0) out_is s₁.1) s₁.2 new code
