-- Down the way to a component of the output: the run of its scope, the scope of the input that it was, and what stands before it.
use Rattle.std.specs.Prelude.{◌≡◌, refl, true, List, [], ◌∷◌, ◌++◌, ℕ}
use Rattle.std.proofs.Math.Path.{ap}
use Rattle.std.proofs.Common.{sym, ◌∙◌, subst, append-nil}
use Rattle.std.proofs.Math.Option.{Option, some}
use Rattle.std.proofs.Math.ListN.{get_elem?}
use Rattle.rules.specs.Tools.{◌then◌}
use Rattle.rules.specs.Tree.{Declaration, Head, scope, Fields, Item, plain, holds, head_of}
use Rattle.rules.specs.Rules.{ok, Env, Outside, inward, declarations, resolve_scope, resolve_item}
use Rattle.rules.specs.Readings as readings
use Rattle.rules.specs.Readings.{originals, Level, level, held}
use Rattle.rules.specs.Explainer.{items, enclosing, renumbered, reached}
use Rattle.rules.specs.Laws.ToolLaws.{then_some, snoc_append}
use Rattle.rules.specs.Laws.Results.{some_same, ok_same, no_option}
use Rattle.rules.specs.Laws.Meaning.Names.{LowItem}
use Rattle.rules.proofs.Laws.Meaning.Lookups.{has}
use Rattle.rules.proofs.Laws.Meaning.Runs.{seeing}
use Rattle.rules.proofs.Laws.Meaning.Agree as runs
use Rattle.rules.proofs.Laws.Meaning.Agree.{Ended, Within}
use Rattle.rules.proofs.Laws.Meaning.Early.{firsts}
use Rattle.earlier.specs.FieldsOut.{Comes, made, kept, FieldOut, field_out}
use Rattle.earlier.proofs.Holders.{Holder, inside, HoldersAround}

-- the scope that a field of the output holds is that of the field of the input that it was
within_back : (i : Item) (h : Head) (here : Env) (outside : Outside) (k : ℕ) (q : Item × ℕ) (gs' : Fields) → LowItem i → resolve_item i h here outside k ≡ ok q → held q.0 ≡ some gs'
    → (gs : Fields) × (held i ≡ some gs) × (W : Within gs (inward (head_of i) here outside) q.0) × (W.out ≡ gs')
unfolding held resolve_scope
within_back (plain h₀) h here outside k q gs' low eq e = no_option gs' (ap (λ (p : Item × ℕ). held p.0) (ok_same (plain h, k) q eq) ∙ e)
within_back (holds h₀ (scope kind name fs)) h here outside k q gs' low eq e =
    let W = runs.within (holds h₀ (scope kind name fs)) h fs here outside k q low refl eq in
    (fs, refl, W, some_same W.out gs' (sym W.holding ∙ e))

reached_step : (w way : List ℕ) (n m : ℕ) (fs : Fields) (l : Level) (i : Item) (gs : Fields) → get_elem? (items fs) n ≡ some i → held i ≡ some gs → renumbered fs n ≡ some m
    → reached (w ++ (m ∷ [])) way gs ≡ some l → reached w (n ∷ way) fs ≡ some l
unfolding reached ◌then◌
reached_step w way n m fs l i gs e₁ e₂ e₃ e₄ = rw (e₁, e₂, e₃) e₄

-- A scope of an accepted run under rules that ask for earlier declarations, with the components of the output around it. `way` leads to it
-- in the output, where every field counts.
pub record Here (way : List ℕ) (els : List Level) (fs : Fields) (outside : Outside) (here : Env) (out : Fields) : Type 0 where
  pub ends : Ended fs outside here out
  pub early : outside.early ≡ true
  pub begins : outside.before.decls ≡ []
  pub holders : HoldersAround way els outside.scopes

-- its table holds what the output defines before its field `n`
abbrev pub holds_itself : {way : List ℕ} {els : List Level} {fs : Fields} {outside : Outside} {here : Env} {out : Fields} → Here way els fs outside here out → (n : ℕ) (before : List Declaration)
    → ((space name : ℕ) → has before space name ≡ true → has (outside.before.decls ++ firsts n out) space name ≡ true)
    → (steps rest : List ℕ) → steps ≡ way ++ (n ∷ rest) → Holder steps (level way out) (record { name = here.name; entries = here.entries; before = before })
holds_itself {way} {out = out} H n before h steps rest e =
    record {
      through = n;
      rest = rest;
      towards = e;
      table = (runs.framed H.ends way).table;
      before = λ space name b. subst (λ (ds : List Declaration). has (ds ++ firsts n out) space name ≡ true) H.begins (h space name b);
    }

-- The scope at the end of a way. `v` is the way to it in the input, and `w` and `w'` are those from where the root's begin.
pub record Arrived (way : List ℕ) (w w' : List ℕ) (ins : List Level) (fs out : Fields) (ls : List Level) : Type 0 where
  pub v : List ℕ
  pub els : List Level
  pub gs : Fields
  pub outside : Outside
  pub here : Env
  pub gout : Fields
  pub is : level (w' ++ way) gout ∷ els ≡ ls
  pub scope : Here (w' ++ way) els gs outside here gout
  pub around_it : List Level
  pub in_input : readings.around v (level w fs) ins ≡ some (level (w ++ v) gs ∷ around_it)
  pub in_all : reached w way out ≡ some (level (w ++ v) gout)

-- from the scope that the field `m` of the output holds, the field `f` of the input
arrived_step : {way w w' : List ℕ} {m f : ℕ} {ins : List Level} {fs gs out out' : Fields} {ls : List Level} {i i' : Item} → get_elem? (items out) m ≡ some i' → held i' ≡ some out'
    → renumbered out m ≡ some f → get_elem? (originals fs) f ≡ some i → held i ≡ some gs
    → Arrived way (w ++ (f ∷ [])) (w' ++ (m ∷ [])) (level w fs ∷ ins) gs out' ls → Arrived (m ∷ way) w w' ins fs out ls
arrived_step {way} {w} {w'} {m} {f} {ins} {fs} {gs} {out} {out'} {ls} {i} {i'} e₁ e₂ e₃ e₄ e₅ A =
    record {
      v = f ∷ A.v;
      els = A.els;
      gs = A.gs;
      outside = A.outside;
      here = A.here;
      gout = A.gout;
      is = rw (← snoc_append w' m way) A.is;
      scope = subst (λ (x : List ℕ). Here x A.els A.gs A.outside A.here A.gout) (snoc_append w' m way) A.scope;
      around_it = A.around_it;
      in_input = runs.around_step f A.v (level w fs) ins i gs (level (w ++ (f ∷ A.v)) A.gs ∷ A.around_it) e₄ e₅ (rw (snoc_append w f A.v) at A.in_input);
      in_all = reached_step w way m f out (level (w ++ (f ∷ A.v)) A.gout) i' out' e₁ e₂ e₃ (rw (snoc_append w f A.v) at A.in_all);
    }

-- at the end of every way in the output is such a scope
pub descend : (way : List ℕ) {w' : List ℕ} {els : List Level} {fs : Fields} {outside : Outside} {here : Env} {out : Fields} → Here w' els fs outside here out → (w : List ℕ) (ins : List Level) (ls : List Level)
    → enclosing way (level w' out) els ≡ some ls → Arrived way w w' ins fs out ls
unfolding enclosing readings.around reached
descend [] {w'} {els} {fs} {outside} {here} {out} H w ins ls e =
    record {
      v = [];
      els = els;
      gs = fs;
      outside = outside;
      here = here;
      gout = out;
      is = ap (λ (x : List ℕ). level x out ∷ els) (append-nil w') ∙ some_same _ ls e;
      scope = subst (λ (x : List ℕ). Here x els fs outside here out) (sym (append-nil w')) H;
      around_it = ins;
      in_input = ap {B = Option (List Level)} (λ (x : List ℕ). some (level x fs ∷ ins)) (sym (append-nil w));
      in_all = ap {B = Option Level} (λ (x : List ℕ). some (level x out)) (sym (append-nil w));
    }
descend (m ∷ way) {w'} {els} {fs} {outside} {here} {out} H w ins ls e =
    let s₁ = then_some (get_elem? (items out) m) _ ls e in
    let s₂ = then_some (held s₁.0) _ ls s₁.2 in
    let E = H.ends in
    let F = field_out fs (declarations fs) here outside E.k E.k' (out, E.k'') m s₁.0 E.low E.resolves s₁.1 in
    go s₁.0 s₂.0 s₁.1 s₂.1 s₂.2 F F.comes (λ gs here' out' H' f₁. descend way {fs = gs} {here = here'} {out = out'} H' (w ++ (F.f ∷ [])) (level w fs ∷ ins) ls f₁)
  where
    go : (i' : Item) (gs' : Fields) → get_elem? (items out) m ≡ some i' → held i' ≡ some gs' → enclosing way (level (w' ++ (m ∷ [])) gs') (level w' out ∷ els) ≡ some ls
        → (F : FieldOut fs (declarations fs) here outside out m i') → Comes F.f F.new F.q.0 F.h out m i'
        → ((gs : Fields) (here' : Env) (out' : Fields) → Here (w' ++ (m ∷ [])) (level w' out ∷ els) gs (inward (head_of F.i) here (seeing outside F.seen)) here' out'
        → enclosing way (level (w' ++ (m ∷ [])) out') (level w' out ∷ els) ≡ some ls → Arrived way (w ++ (F.f ∷ [])) (w' ++ (m ∷ [])) (level w fs ∷ ins) gs out' ls)
        → Arrived (m ∷ way) w w' ins fs out ls
    go i' gs' a b c F (made x p new q) below = no_option gs' (unfold held in (ap held (sym q) ∙ b))
    go i' gs' a b c F (kept p q o n new) below =
        let K = within_back F.i F.h here (seeing outside F.seen) F.k F.q gs' F.low_item F.items (ap held (sym p) ∙ b) in
        let W = K.2 in
        arrived_step a (b ∙ ap {B = Option Fields} some (sym K.3)) n F.there K.1
        (below K.0 W.here W.out
        (record {
          ends = W.ends;
          early = H.early;
          begins = refl;
          holders = λ steps rest e.
              let on : steps ≡ w' ++ (m ∷ rest) = e ∙ snoc_append w' m rest in
              inside (holds_itself H m F.seen.decls F.earlier steps rest on) (H.holders steps (m ∷ rest) on);
        })
        (subst (λ (x : Fields). enclosing way (level (w' ++ (m ∷ [])) x) (level w' out ∷ els) ≡ some ls) (sym K.3) c))
