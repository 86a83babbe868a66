-- A field, with the scope that it may hold.
use Rattle.std.specs.Prelude.{◌≡◌, true, List, [], ◌∷◌, ◌++◌, ℕ, ◌+◌, ◌/◌, ◌≤◌, ◌<◌, eqb, get_or, Ok}
use Rattle.std.proofs.Math.Path.{refl, sym}
use Rattle.std.proofs.Common.{ap, ◌∙◌, append_assoc, append-nil}
use native.Mathlib.Omega.{arith}
use Rattle.std.proofs.Math.ListN.{length, length-append}
use Rattle.kit.specs.Pick.{pick}
use Rattle.kit.specs.Out.{◌&◌}
use Rattle.rules.specs.Versions.{RuleSet}
use Rattle.rules.specs.Rows.{Row}
use Rattle.rules.specs.Tree.{Declaration, Head, Scope, scope, Item, plain, holds, head_of, head_rows, flatten, item_rows}
use Rattle.rules.specs.Good.{GoodItem, height_item, height}
use Rattle.rules.specs.Rules.{table_of, Outside, opened, inward, Result, refused, ok, ◌>>=◌, Env, fresh, Expanded, expand_head, heads_decls, resolve_scope, resolve_item}
use Rattle.rules.specs.Laws.Meaning.Names.{LowHead, LowScope, DeclScope}
use Rattle.rules.proofs.Laws.Output.FourTimes.{inner, item_size}
use Rattle.rows.specs.RowAt.{code_at}
use Rattle.form.specs.Part.{field_rows}
use Rattle.names.specs.Table.{Slot, past_of, innermost_t}
use Rattle.write.specs.declared.alias.WriteState.{WriteState}
use Rattle.write.specs.WriteState.{arrived_t, at_depth_t, after_scope_t}
use Rattle.write.specs.Own.{Wrote₂, wrote_then₂}
use Rattle.walk.specs.Scopes.{wrote_then₃, stops₃, write_head_t, field_walk_t, scope_walk_t}
use Rattle.agree.specs.Tables.Sizes.{Sizes, Fits}
use Rattle.agree.specs.Rows.At.{At, put_all}
use Rattle.agree.specs.Rows.AtLaws.{at_right, at_head, at_fits, part_at, part_size, code_is}
use Rattle.form.specs.Ends.{Inside, EndsIn}
use Rattle.agree.specs.Rows.ItemRows.{inside_rows, some_rows}
use Rattle.agree.specs.Tables.Slots.{decl_slots, head_slots}
use Rattle.agree.specs.Fit.Spaces.{SpacesHead}
use Rattle.agree.specs.StepC.WriteAgrees.{heads_rows, put_then_lem}
use Rattle.agree.specs.Tables.Cursor.{Left, Under, Apart}
use Rattle.agree.specs.Refusals.Answers.{Says}
use Rattle.agree.specs.StepC.AliasAgrees.{Stops}
use Rattle.agree.specs.StepC.OwnAgrees.{own_on}
use Rattle.agree.specs.StepC.HeadAgrees.{head_says, Asked, head_agrees}
use Rattle.agree.specs.Fit.FitAgrees.{item_fit}
use Rattle.agree.specs.Walk.WalkStates.{Ready, FieldGone, says_then₃, says_field, item_says, ScopeGoes, ItemGoes}

-- the rows of an item are those of its field and of the scope in it
item_split : (i : Item) → item_rows i ≡ head_rows (head_of i) ++ inside_rows i
unfolding flatten head_of inside_rows
item_split (plain h) = sym (append-nil (head_rows h))
item_split (holds h s) = refl

inside_stops : (i : Item) → Stops (inside_rows i)
unfolding inside_rows flatten
inside_stops (plain h) = tt
inside_stops (holds h (scope kind name fs)) = (kind, name, refl)

-- where there are rows, the first is there
pub at_starts : (form : List ℕ) (p : ℕ) (xs : List Row) → 0 < length xs → At form p xs → p < length form / 16
unfolding At
at_starts form p [] l h = absurd (omega arith)
at_starts form p (x ∷ xs) l h = h.0.there

-- what step C makes of a field that holds a scope, from its scope on
unfoldable inside_says : (h₀ : Head) (t : Scope) (env : Env) (outside : Outside) (k : ℕ) (h : Head) (new : List Head) → Result (List Head × (Item × ℕ))
inside_says h₀ t env outside k h new = resolve_scope t (inward h₀ env outside) k >>= λ r. ok (new, (holds h r.0, r.1))

inside_is : (h₀ : Head) (t : Scope) (env : Env) (outside : Outside) (k : ℕ) (h : Head) (new : List Head) → (resolve_item (holds h₀ t) h env outside k >>= λ r. ok (new, r)) ≡ inside_says h₀ t env outside k h new
unfolding inside_says resolve_scope
inside_is h₀ t env outside k h new = go (resolve_scope t (inward h₀ env outside) k)
  where
    go : (m : Result (Scope × ℕ)) → ◌≡◌ {A = Result (List Head × (Item × ℕ))} (◌>>=◌ {B = Item × ℕ} m (λ r. ok (holds h r.0, r.1)) >>= λ r. ok (new, r)) (m >>= λ r. ok (new, (holds h r.0, r.1)))
    go (refused n z) = unfold ◌>>=◌ in refl
    go (ok r) = unfold ◌>>=◌ in refl

module _ (rules : RuleSet) (heap : rules.heap < 13) (sizes : Sizes) (rows ends : List ℕ) (short : Fits sizes rows) where
  -- the field up to its scope
  item_head : (i : Item) (kind b k more height : ℕ) (here₀ : List Declaration) (env : Env) (outside : Outside) (before after : List Declaration) (e : Expanded Head) (rest : List Slot) (entered names : List Slot) (scopes : List (List ℕ)) (out : List ℕ) (s : WriteState)
      → outside.early ≡ s.early → (s.early ≡ true → LowHead (head_of i)) → At rows s.at (item_rows i) → get_or ends s.at 0 ≡ s.at + length (item_rows i) → GoodItem rules i kind → SpacesHead (head_of i)
      → expand_head here₀ outside b (head_of i) ≡ ok e
      → Left names (past_of (innermost_t scopes s.depth)) s.next (head_slots here₀ outside before b s.at (head_of i) ++ (decl_slots (before ++ heads_decls e.inserted) (s.at + 1) (head_of i).decls ++ rest))
      → ((r : ℕ) → s.at ≤ r → r < s.at + length (head_rows (head_of i)) → Apart r rest)
      → table_of env ≡ before ++ (heads_decls e.inserted ++ ((head_of i).decls ++ after)) → Under (fresh b) before → s.alias ≡ s.next → s.seen ≡ 0
      → Ready sizes entered names scopes s (opened env outside) height more k
      → Says (head_says env outside e) (Asked (head_of i) s entered out (length e.inserted)) (write_head_t (field_rows rows ends s.at) entered names scopes out s)
  item_head i kind b k more height here₀ env outside before after e rest entered names scopes out s same low_head at noted good spaces x l a ds u al sn ready =
      let sm = some_rows i in
      let h = head_of i in
      let split = item_split i in
      let n = item_size i in
      let first = at_starts rows s.at (item_rows i) sm at in
      let w = at_fits rows s.at (item_rows i) (omega arith) at in
      let room = ready.room in
      let deep = ready.deep in
      head_agrees env outside here₀ h (field_rows rows ends s.at) names scopes (inside_rows i) (inside_stops i) (rw split at (part_at rows ends s.at (item_rows i) sm noted at))
      (part_size rows ends s.at (item_rows i) sm noted at ∙ ap length split) (item_fit rules i kind spaces good) s entered out b before after rest e x l a ds u (record { same = same; around = ready.earlier }) low_head ready.envs (omega arith) al sn (omega arith) (omega arith)

  pub item_plain : (h : Head) → ItemGoes rules sizes rows ends (plain h)
  unfolding item_says field_walk_t resolve_scope ◌>>=◌ wrote_then₂ pick flatten head_of inner height_item
  item_plain h allowed kind b k here₀ env outside before after e rest entered names scopes out s same at_row deep at code noted inside good spaces low low_head low_item x l a ds u al sn ready =
      says_field (head_says env outside e) (λ p. ok (p.0, (plain p.1, k))) _ _ (write_head_t (field_rows rows ends s.at) entered names scopes out s) _ names
      (item_head (plain h) kind b k 0 0 here₀ env outside before after e rest entered names scopes out s same low_head at noted good spaces x l a ds u al sn ready)
      (λ p q O. rw (O.is, code) (
        record {
          gone = record {
            state = arrived_t (own_on s O.to (s.next + length e.inserted + length h.decls) O.alias O.seen) (s.at + length (head_rows h));
            entered' = O.table;
            names' = names;
            after = O.after;
            is = refl;
            arrived = refl;
            fresh = ready.fresh;
            wrote = O.wrote;
            room = O.size ∙ ready.room;
            size = ready.size;
            kept = refl;
          };
          used = refl;
          passes = refl;
          asks = refl;
        },
        omega arith,
      ))

  -- at an OPEN
  open_code : (t : Scope) (p : ℕ) → At rows p (flatten t) → eqb (code_at rows p) 7 ≡ true
  unfolding flatten
  open_code (scope kind name fs) p at = rw (code_is rows p _ (at_head rows p _ _ at)) refl

  -- the scope that a field holds, with what was written before it
  item_inside : (h h' : Head) (t : Scope) (new : List Head) → ScopeGoes rules sizes rows ends t → (allowed n k : ℕ) (env : Env) (outside : Outside) (entered names : List Slot) (scopes : List (List ℕ)) (out : List ℕ) (s : WriteState) (w : Wrote₂)
      → outside.early ≡ s.early → outside.before.row ≡ s.at → height t ≤ allowed → At rows (s.at + length (head_rows h)) (flatten t) → EndsIn t ends (s.at + length (head_rows h)) → Rattle.rules.specs.Good.GoodScope rules t → DeclScope t → (s.early ≡ true → LowScope t)
      → Ready sizes entered names scopes s (opened env outside) (height t) (length (flatten t)) k
      → (O : Asked h s entered out n (new, h') w)
      → let T = arrived_t (own_on s O.to (s.next + n + length h.decls) O.alias O.seen) (s.at + length (head_rows h)) in
      Says (inside_says h t env outside k h' new)
      (λ x w. FieldGone sizes s names out (s.at + (length (head_rows h) + length (flatten t))) (s.next + n + length h.decls) x.1.1 (heads_rows x.0 ++ item_rows x.1.0) w × (x.1.1 ≤ k + length (flatten t)))
      (wrote_then₃ (scope_walk_t rows ends allowed O.table names scopes O.after (at_depth_t T s.depth)) (λ u e m o. Ok (after_scope_t T u) & e & m & o) stops₃)
  unfolding wrote_then₃ flatten inside_says
  item_inside h h' t new goes allowed n k env outside entered names scopes out s w same at_row deep at inside good low low_scope ready O =
      let T = arrived_t (own_on s O.to (s.next + n + length h.decls) O.alias O.seen) (s.at + length (head_rows h)) in
      let r' : Ready sizes O.table names scopes (at_depth_t T s.depth) (opened env outside) (height t) (length (flatten t)) k =
      record { room = O.size ∙ ready.room; size = ready.size; depths = ready.depths; envs = ready.envs; below = ready.below; deep = ready.deep; slots = ready.slots; numbers = ready.numbers; fresh = ready.fresh; earlier = ready.earlier } in
      says_then₃ (resolve_scope t (inward h env outside) k) (λ r. ok (new, (holds h' r.0, r.1))) _ _ (scope_walk_t rows ends allowed O.table names scopes O.after (at_depth_t T s.depth)) _
      (goes allowed k (inward h env outside) O.table names scopes O.after (at_depth_t T s.depth) same refl (omega arith) deep at inside good low low_scope r')
      (λ r q G. rw G.0.is (
        record {
          gone = record {
            state = after_scope_t T G.0.state;
            entered' = G.0.entered';
            names' = G.0.names';
            after = G.0.after;
            is = refl;
            arrived = G.0.arrived ∙ (omega arith);
            fresh = G.0.fresh;
            wrote = G.0.wrote ∙ sym (ap (put_all out s.to) (sym (append_assoc (heads_rows new) (head_rows h') (flatten r.0))) ∙ put_then_lem out s.to (heads_rows new ++ head_rows h') (flatten r.0) O.to O.after O.wrote);
            room = G.0.room;
            size = G.0.size;
            kept = G.0.kept;
          };
          used = refl;
          passes = refl;
          asks = refl;
        },
        G.1,
      ))

  pub item_holds : (h : Head) (t : Scope) → ScopeGoes rules sizes rows ends t → ItemGoes rules sizes rows ends (holds h t)
  unfolding item_says field_walk_t wrote_then₂ pick flatten head_of inner height_item Inside
  item_holds h t goes allowed kind b k here₀ env outside before after e rest entered names scopes out s same at_row deep at code noted inside good spaces low low_head low_item x l a ds u al sn ready =
      let at' = at_right rows s.at (head_rows h) (flatten t) at in
      let size = length-append (head_rows h) (flatten t) in
      says_field (head_says env outside e) _ _ _ (write_head_t (field_rows rows ends s.at) entered names scopes out s) _ names
      (item_head (holds h t) kind b k (length (flatten t)) (height t) here₀ env outside before after e rest entered names scopes out s same low_head at noted good spaces x l a ds u al sn ready)
      (λ p q O. rw (O.is, open_code t (s.at + length (head_rows h)) at', inside_is h t env outside k p.1 p.0, size)
      (item_inside h p.1 t p.0 goes allowed (length e.inserted) k env outside entered names scopes out s _ same at_row deep at' inside good.3 low low_item ready O))
