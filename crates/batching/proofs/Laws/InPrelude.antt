-- The root of an accepted prelude, as what lies around a member.
use Rattle.std.specs.Prelude.{◌≡◌, ℕ, zero, suc, ◌+◌, ◌≤◌}
use Rattle.std.proofs.Math.Path.{refl, ap, sym, subst}
use Rattle.std.proofs.Common.{◌∙◌, arith}
use Rattle.std.proofs.Math.Option.{Option, none, some}
use mathlib.Core.List.{List, [], ◌∷◌, ◌++◌}
use Rattle.std.proofs.Math.ListN.{length, get_elem?, length-map}
use Rattle.rules.specs.Tools.{◌then◌}
use Rattle.rules.specs.Versions.{RuleSet}
use Rattle.rules.specs.Tree.{Declaration, Operand, Scope, scope, flatten, Fields, end, ◌▸◌, Item, head_of, item_rows}
use Rattle.rules.specs.Rules.{Entry, decls_in, Env, table_of, Outside, at_root, onward, ok, declarations, entered, distinct, expand_fields, prepare, resolve_scope, resolve_fields, resolve_inside}
use Rattle.batching.specs.Batch.{entered_fields, root_of}
use Rattle.rules.specs.Readings
use Rattle.rules.specs.Readings.{originals, Place, Level, level, Use, root, fields_of}
use Rattle.rules.specs.Explainer.{Definition, renumbered, reached, among_inside}
use Rattle.batching.specs.BatchReadings.{seat, full_seat, among_both}
use Rattle.rules.specs.Laws.Meaning.Names.{LowScope, LowFields}
use Rattle.rules.proofs.Laws.Meaning.Runs
use Rattle.rules.proofs.Laws.Meaning.Runs.{ran, ran_end}
use Rattle.rules.specs.Laws.Entries.{decls_append, entered_decls}
use Rattle.rules.proofs.Laws.Meaning.Lookups
use Rattle.rules.proofs.Laws.Meaning.Lookups.{has}
use Rattle.rules.proofs.Laws.Meaning.Unknown.{framed_tabled}
use Rattle.rules.proofs.Laws.Meaning.Early
use Rattle.rules.proofs.Laws.Meaning.Early.{firsts, Timed}
use Rattle.rules.proofs.Laws.Meaning.Frames.{Framed, Frames, nowhere, inside}
use Rattle.rules.proofs.Laws.Meaning.Agree
use Rattle.rules.specs.Laws.Meaning.IndexSpaces.{Beside, top_level, beside, among_placed}
use Rattle.rules.proofs.Laws.Meaning.Around.{Around}
use Rattle.rules.proofs.Laws.Output.Counts.{own, scope_split, fields_count}
use Rattle.rules.specs.Laws.Results.{holds_of, bind_inv, ok_same}

-- ---- the entries of a root are its declarations

fields_decls : (row : ℕ) (fs : Fields) → decls_in (entered_fields row fs) ≡ declarations fs
unfolding entered_fields declarations
fields_decls row end = refl
fields_decls row (i ▸ fs) =
    decls_append (entered (suc row) (head_of i).decls) (entered_fields (row + length (item_rows i)) fs)
    ∙ rw (entered_decls (suc row) (head_of i).decls, fields_decls (row + length (item_rows i)) fs)

-- ---- the member's seat is the same in the output

originals_count : (fs : Fields) (ds : List Declaration) (here : Env) (outside : Outside) (b k : ℕ) (r : Fields × ℕ) → LowFields fs → resolve_fields fs ds here outside b k ≡ ok r
    → length (originals r.0) ≡ length (originals fs)
originals_count end ds here outside b k r low e = rw (← ran_end ds here outside b k r e)
originals_count (i ▸ fs) ds here outside b k r low e =
    let R = ran i fs ds here outside b k r e in
    rw (
      Agree.ran_originals R low.0.decls,
      Lookups.originals_original i fs (Lookups.low_original (head_of i) low.0.decls),
    )
    (ap suc (originals_count fs ds here (onward i outside) R.e.k R.q.1 R.rs low.2 R.goes_on_lem))

-- ---- all of a root is earlier

root_before : (t : Scope) → (root_of t).before ≡ table_of (root_of t)
unfolding root_of
root_before (scope kind name fs) = sym (fields_decls 1 fs)

all_firsts : (fs : Fields) → LowFields fs → firsts (length (originals fs)) fs ≡ declarations fs
unfolding firsts originals declarations
all_firsts end low = refl
all_firsts (i ▸ fs) low =
    ap (λ (is : List Item). firsts (length is) (i ▸ fs)) (Lookups.originals_original i fs (Lookups.low_original (head_of i) low.0.decls))
    ∙ ap (λ (ds : List Declaration). (head_of i).decls ++ ds) (all_firsts fs low.2)

-- ---- of an accepted prelude

module _ (rules : RuleSet) (s : Scope) (r : Scope × ℕ) (low : LowScope s) (e : resolve_inside rules [] s ≡ ok r) where
  pub same_seat : seat r.0 ≡ seat s
  unfolding seat
  same_seat = go s low e
    where
      go : (s : Scope) → LowScope s → resolve_inside rules [] s ≡ ok r → length (originals (fields_of r.0)) ∷ [] ≡ length (originals (fields_of s)) ∷ []
      go (scope kind name fs) low e =
          let E = Agree.ended kind name fs (at_root rules []) 0 r low.1 e in
          ap (λ (t : Scope). length (originals (fields_of t)) ∷ []) E.3
          ∙ ap (λ (n : ℕ). n ∷ []) (originals_count fs (declarations fs) E.0 (at_root rules []) E.2.k E.2.k' (E.1, E.2.k'') low.1 E.2.resolves)

  -- its root in the three views of the readings
  pub framed_root : Framed (root s) (root r.0) (root_of r.0)
  unfolding root root_of
  framed_root = go s low e
    where
      go : (s : Scope) → LowScope s → resolve_inside rules [] s ≡ ok r → Framed (root s) (root r.0) (root_of r.0)
      go (scope kind name fs) low e =
          let E = Agree.ended kind name fs (at_root rules []) 0 r low.1 e in
          subst (λ (t : Scope). Framed (level [] fs) (root t) (root_of t)) (sym E.3)
          (record { same_way = refl; same_first = (Agree.framed E.2 []).same_first; table = sym (fields_decls 1 E.1); low = low.1 })

  -- the member stands behind all its fields
  pub timed_root : (steps rest : List ℕ) → steps ≡ seat s ++ rest → Timed steps (root s) (root_of r.0)
  unfolding seat root
  timed_root steps rest towards =
      record {
        n = length (originals (fields_of s));
        rest = rest;
        towards = towards;
        low = framed_root.low;
        same = (framed_tabled framed_root).same;
        earlier = λ space name l.
            ap (λ (ds : List Declaration). has ds space name) (root_before r.0)
            ∙ ((framed_tabled framed_root).same space name l ∙ ap (λ (ds : List Declaration). has ds space name) (sym (all_firsts (fields_of s) framed_root.low)));
      }

  -- it has no more declarations than the prelude has rows
  pub few_declared : length (root_of r.0).entries ≤ length (flatten s)
  unfolding root_of
  few_declared = go s low e
    where
      go : (s : Scope) → LowScope s → resolve_inside rules [] s ≡ ok r → length (root_of r.0).entries ≤ length (flatten s)
      go (scope kind name fs) low e =
          let E = Agree.ended kind name fs (at_root rules []) 0 r low.1 e in
          let count = holds_of _ _ E.2.t (fields_count (declarations fs) (at_root rules []) E.2.k fs) E.2.expands in
          let same : table_of (root_of r.0) ≡ decls_in E.2.t.0 =
          ap (λ (t : Scope). table_of (root_of t)) E.3 ∙ (fields_decls 1 E.1 ∙ ((Agree.framed E.2 []).table ∙ ap decls_in E.2.table)) in
          omega (arith, count.1, ap length same, length-map (root_of r.0).entries (λ (x : Entry). x.decl), length-map E.2.t.0 (λ (x : Entry). x.decl), scope_split kind name fs)

  -- and in the explainer's
  pub root_beside : (t : Scope) → Beside (λ d. among_both (seat s) r.0 t d.way d.field d.at) (root r.0 ∷ []) (root r.0 ∷ [])
  unfolding root among_both reached
  root_beside t = beside refl (λ field at m q. among_placed [] r.0 [] (level [] (fields_of r.0)) refl field at m q) top_level

  pub member_lies : (t : Scope) (way : List ℕ) (field at : ℕ) → among_both (seat s) r.0 t (full_seat r.0 ++ way) field at ≡ among_inside (seat s) t way field at
  unfolding among_both full_seat
  member_lies t way field at = refl

  -- all that lies around a member
  abbrev pub inside_prelude : Around
  inside_prelude =
      record {
        base = seat s;
        full = full_seat r.0;
        ins = root s ∷ [];
        outs = root r.0 ∷ [];
        els = root r.0 ∷ [];
        outside = root_of r.0 ∷ [];
        among = λ t d. among_both (seat s) r.0 t d.way d.field d.at;
        frames = inside framed_root nowhere;
        times = λ steps rest e. Early.inside (timed_root steps rest e) Early.nowhere;
        besides = root_beside;
        lies = member_lies;
      }

-- ---- its declarations are those of the table that steps A and B of the prelude leave

pub prepared_name : (name : ℕ) (fs : Fields) (outside : Outside) (k : ℕ) (p : Env × ℕ) → prepare name fs outside k ≡ ok p → p.0.name ≡ name
unfolding prepare
prepared_name name fs outside k p e =
    let s₁ = bind_inv (distinct [] (declarations fs)) _ p e in
    let s₂ = bind_inv (expand_fields s₁.0 outside k fs) _ p s₁.2 in
    sym (ap (λ (x : Env × ℕ). x.0.name) (ok_same _ p s₂.2))

pub root_prepared : (rules : RuleSet) (kind name : ℕ) (fs : Fields) (q : Scope × ℕ) → resolve_inside rules [] (scope kind name fs) ≡ ok q
    → (p : Env × ℕ) × (prepare name fs (at_root rules []) 0 ≡ ok p) × ((root_of q.0).name ≡ p.0.name) × (table_of (root_of q.0) ≡ table_of p.0)
unfolding resolve_scope root_of
root_prepared rules kind name fs q e =
    let s₁ = bind_inv (prepare name fs (at_root rules []) 0) _ q e in
    let p = s₁.0 in
    let s₂ = bind_inv (resolve_fields fs (declarations fs) p.0 (at_root rules []) 0 p.1) _ q s₁.2 in
    let P = Runs.prepared name fs (at_root rules []) 0 p s₁.1 in
    let out_is : q.0 ≡ scope kind name s₂.0.0 = sym (ap (λ (x : Scope × ℕ). x.0) (ok_same _ q s₂.2)) in
    let table : declarations s₂.0.0 ≡ table_of p.0 = Runs.table_is_output fs (declarations fs) p.0 (at_root rules []) 0 p.1 s₂.0 P.0 s₂.1 P.1 ∙ ap decls_in (sym P.2) in (
      p,
      s₁.1,
      ap (λ (t : Scope). (root_of t).name) out_is ∙ sym (prepared_name name fs (at_root rules []) 0 p s₁.1),
      ap (λ (t : Scope). table_of (root_of t)) out_is ∙ (fields_decls 1 s₂.0.0 ∙ table),
    )

-- ---- which operands are walked does not depend on what lies around

abbrev used : List Level → Item → Operand → Option Use
used ls i x = some (record { levels = ls; head = head_of i; operand = x })

abbrev walked_in : (f o : ℕ) → Option (List Level) → Option (ℕ × ℕ)
walked_in f o ks = (ks then λ ls. Readings.use_in ls f o) then λ u. Readings.walked u.head u.operand

walked_anywhere : (way : List ℕ) (f o : ℕ) (w w' : List ℕ) (fs : Fields) (ls ls' : List Level) → walked_in f o (Readings.around way (level w fs) ls) ≡ walked_in f o (Readings.around way (level w' fs) ls')
unfolding Readings.around Readings.use_in ◌then◌
walked_anywhere [] f o w w' fs ls ls' = go (get_elem? (originals fs) f)
  where
    at_item : (w : List ℕ) (ls : List Level) → Item → Option Use
    at_item w ls i = get_elem? (head_of i).operands o then used (level w fs ∷ ls) i

    operand : (i : Item) (x : Option Operand)
        → ((x then used (level w fs ∷ ls) i) then λ u. Readings.walked u.head u.operand) ≡ ((x then used (level w' fs ∷ ls') i) then λ u. Readings.walked u.head u.operand)
    operand i none = refl
    operand i (some x) = refl

    go : (i : Option Item) → ((i then at_item w ls) then λ u. Readings.walked u.head u.operand) ≡ ((i then at_item w' ls') then λ u. Readings.walked u.head u.operand)
    go none = refl
    go (some i) = operand i (get_elem? (head_of i).operands o)
walked_anywhere (n ∷ way) f o w w' fs ls ls' =
    go (get_elem? (originals fs) n) (λ gs. walked_anywhere way f o (w ++ (n ∷ [])) (w' ++ (n ∷ [])) gs (level w fs ∷ ls) (level w' fs ∷ ls'))
  where
    below : (w : List ℕ) (ls : List Level) → Fields → Option (List Level)
    below w ls gs = Readings.around way (level (w ++ (n ∷ [])) gs) (level w fs ∷ ls)

    holding : (h : Option Fields) → ((gs : Fields) → walked_in f o (below w ls gs) ≡ walked_in f o (below w' ls' gs)) → walked_in f o (h then below w ls) ≡ walked_in f o (h then below w' ls')
    holding none g = refl
    holding (some gs) g = g gs

    go : (i : Option Item) → ((gs : Fields) → walked_in f o (below w ls gs) ≡ walked_in f o (below w' ls' gs))
        → walked_in f o (i then λ j. Readings.held j then below w ls) ≡ walked_in f o (i then λ j. Readings.held j then below w' ls')
    go none g = refl
    go (some i) g = holding (Readings.held i) g

pub walked_inside_lem : (base : List ℕ) (ls : List Level) (s : Scope) (p : Place) → Readings.walked_inside base ls s p ≡ Readings.walked_at s p
unfolding Readings.walked_inside Readings.use_inside
walked_inside_lem base ls s p = walked_anywhere p.way p.field p.at base [] (fields_of s) ls []
