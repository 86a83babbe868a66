-- An inserted outer alias leads to an original declaration: one alias is all that there is to follow.
use Rattle.std.specs.Prelude.{◌≡◌, refl, List, [], ◌∷◌, ℕ, suc, ◌≤◌}
use Rattle.std.proofs.Common.{ap, sym, ◌∙◌, subst, add-one}
use Rattle.std.proofs.Math.Option.{Option, none, some}
use Rattle.std.proofs.Math.ListN.{get_elem?}
use Rattle.rules.specs.Tools.{◌then◌}
use Rattle.rules.specs.Versions.{RuleSet, top_name}
use Rattle.rules.specs.Rows.{Num, Id}
use Rattle.rules.specs.Tree.{Declaration, ref, outer, Head, Scope, Fields, end, ◌▸◌, Item, head_of}
use Rattle.rules.specs.Rules.{ok, Env, Outside, onward, walk, outer_alias, resolve_fields, declarations, resolve}
use Rattle.rules.specs.Readings
use Rattle.rules.specs.Readings.{Place, Level, level, Standing, Spot, original, inserted, in_inserted, in_original, standings, place, outward, counted, counted_out}
use Rattle.rules.specs.Laws.ToolLaws.{All, done, ◌&◌, all_append, all_map}
use Rattle.rules.specs.Laws.Results.{holds_of}
use Rattle.moving.proofs.Laws.ListedReadings.{counted_spot, arrived}
use Rattle.rules.specs.Laws.Meaning.Names.{LowScope, LowFields, LowOperand}
use Rattle.rules.proofs.Laws.Meaning.Runs.{Ran, ran, ran_end}
use Rattle.rules.proofs.Laws.Meaning.Lookups.{in_heads}
use Rattle.rules.proofs.Laws.Meaning.StepB.{low_operand}
use Rattle.rules.proofs.Laws.Meaning.Origins.{IfOuter, head_served, outer_stays, served_stays}
use Rattle.rules.proofs.Laws.Meaning.Frames.{Frames, Walks, walks}
use Rattle.rules.proofs.Laws.Meaning.Agree
use Rattle.rules.proofs.Laws.Meaning.Agree.{Arrived}

-- it is the alias of what the walk of a name found in the scopes around
abbrev Found : List Env → Head → Type 0
Found outside h = (space : ℕ) × (new : ℕ) × (name : ℕ) × (z : ℕ) × (at : ℕ × ℕ) × (h ≡ outer_alias space new at.0 at.1 z) × (walk outside 1 space name ≡ some at) × (name ≤ top_name)

abbrev FoundSpot : List Env → Spot → Type 0
FoundSpot outside (original field at) = Unit {0}
FoundSpot outside (inserted h) = IfOuter (Found outside) h

new_found : {i : Item} {fs : Fields} {ds : List Declaration} {here : Env} {outside : Outside} {b k : ℕ} {r : Fields × ℕ} (R : Ran i fs ds here outside b k r) → LowFields (i ▸ fs)
    → All (IfOuter (Found outside.scopes)) R.new
new_found {i} {fs} {ds} {here} {outside} {b} R low =
    all_map R.new (λ x s c. (let t = (s c).served in let q = t.served in
    let l : LowOperand (ref q.space (Id q.name) [] q.z) = subst LowOperand q.was_ref (low_operand (head_of i).operands t.o t.was low.0.operands t.had) in
    (q.space, _, q.name, q.z, q.at, q.is, q.walks_to, l.1)))
    (holds_of _ _ R.new (outer_stays here outside (λ x s. served_stays here outside ds (head_of i) R.e.now x s) R.e.inserted (holds_of _ _ R.e (head_served ds outside b (head_of i)) R.expands)) R.adds)

head_spots : (outside : List Env) (h : Head) (ds : List Declaration) → IfOuter (Found outside) h → All (λ (x : Standing). FoundSpot outside x.spot) (in_inserted h ds)
unfolding in_inserted
head_spots outside h [] p = done
head_spots outside h (d ∷ ds) p = p & head_spots outside h ds p

heads_spots : (outside : List Env) (hs : List Head) → All (IfOuter (Found outside)) hs → All (λ (x : Standing). FoundSpot outside x.spot) (in_heads hs)
unfolding in_heads
heads_spots outside [] a = done
heads_spots outside (h ∷ hs) (p & a) = all_append _ _ (head_spots outside h h.decls p) (heads_spots outside hs a)

original_spots : (outside : List Env) (n m : ℕ) (ds : List Declaration) → All (λ (x : Standing). FoundSpot outside x.spot) (in_original n m ds)
unfolding in_original
original_spots outside n m [] = done
original_spots outside n m (d ∷ ds) = tt & original_spots outside n (suc m) ds

fields_spots : (fs : Fields) (ds : List Declaration) (here : Env) (outside : Outside) (b k n : ℕ) (r : Fields × ℕ) → LowFields fs → resolve_fields fs ds here outside b k ≡ ok r
    → All (λ (x : Standing). FoundSpot outside.scopes x.spot) (standings n r.0)
unfolding standings
fields_spots end ds here outside b k n r low eq = rw (← ran_end ds here outside b k r eq) done
fields_spots (i ▸ fs) ds here outside b k n r low eq =
    let R = ran i fs ds here outside b k r eq in
    subst (All (λ (x : Standing). FoundSpot outside.scopes x.spot)) (sym (Agree.ran_standings R low.0.decls n))
    (all_append _ _ (heads_spots outside.scopes R.new (new_found R low))
    (all_append _ _ (original_spots outside.scopes n 0 (head_of i).decls) (fields_spots fs ds here (onward i outside) R.e.k R.q.1 (suc n) R.rs low.2 R.goes_on_lem)))

-- what the walk found counts to a place
walk_place : {ls ls' : List Level} {es : List Env} → Frames ls ls' es → (l : Level) (space name z : ℕ) (at : ℕ × ℕ) → name ≤ top_name → walk es 1 space name ≡ some at
    → (d : Place) × (counted_out (l ∷ ls') (outer space (Num at.0) (Num at.1) z ∷ []) ≡ some d)
unfolding counted_out
walk_place {ls} {ls'} {es} F l space name z at low e = go (outward ls space name) (subst (λ (o : Option (ℕ × ℕ)). Walks ls' space 1 o (outward ls space name)) e (walks F 1 space name low))
  where
    go : (o : Option Place) → Walks ls' space 1 (some at) o → (d : Place) × ((get_elem? (l ∷ ls') at.0 then λ x. counted x space at.1 then place x) ≡ some d)
    go none w = absurd w
    go (some d) w = (d, ap (λ (c : ℕ). get_elem? (l ∷ ls') c then λ x. counted x space at.1 then place x) (w.1 ∙ add-one w.0) ∙ w.2)

alias_operands : (l : Level) (ls : List Level) (space new z : ℕ) (at : ℕ × ℕ) → counted_out (l ∷ ls) (outer_alias space new at.0 at.1 z).operands ≡ counted_out (l ∷ ls) (outer space (Num at.0) (Num at.1) z ∷ [])
unfolding outer_alias
alias_operands l ls space new z at = refl

-- In an accepted run: a number of the output that counts to an inserted outer alias is led on to an original declaration.
pub alias_leads : (rules : RuleSet) (s : Scope) (r : Scope × ℕ) (p : Place) (ls : List Level) (l' : Level) (ls' : List Level) (space n : ℕ) (h : Head) → LowScope s → resolve rules s ≡ ok r
    → Readings.around p.way (Readings.root s) [] ≡ some ls → Readings.around p.way (Readings.root r.0) [] ≡ some (l' ∷ ls')
    → counted l' space n ≡ some (inserted h) → h.code ≡ 11 → (d : Place) × (counted_out (l' ∷ ls') h.operands ≡ some d)
alias_leads rules s r p ls l' ls' space n h low eq e e' c code = led (arrived rules s r p ls (l' ∷ ls') low eq e e')
  where
    lead : (D : Arrived ls (l' ∷ ls')) → level D.w D.out ≡ l' → D.outs ≡ ls' → Found D.outside.scopes h → (d : Place) × (counted_out (l' ∷ ls') h.operands ≡ some d)
    lead D heads tails (sp, new, name, z, at, is, walks_to, nl) =
        let W = walk_place D.frames l' sp name z at nl walks_to in
        (W.0, ap (λ (x : Head). counted_out (l' ∷ ls') x.operands) is ∙ (alias_operands l' ls' sp new z at ∙ (ap (λ (x : List Level). counted_out (l' ∷ x) (outer sp (Num at.0) (Num at.1) z ∷ [])) (sym tails) ∙ W.1)))

    led : Arrived ls (l' ∷ ls') → (d : Place) × (counted_out (l' ∷ ls') h.operands ≡ some d)
    led D =
        let heads : level D.w D.out ≡ l' = cc in
        let tails : D.outs ≡ ls' = cc in
        let spots = fields_spots D.fs (declarations D.fs) D.here D.outside D.ends.k D.ends.k' 0 (D.out, D.ends.k'') D.ends.low D.ends.resolves in
        let found : Found D.outside.scopes h = counted_spot (FoundSpot D.outside.scopes) (level D.w D.out) space n (inserted h) spots (ap (λ (x : Level). counted x space n) heads ∙ c) code in
        lead D heads tails found
