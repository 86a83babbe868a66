-- A member inside a root that stands in the table: what the walk leaves of it, and what is answered, are what the rules say.
use Rattle.std.specs.Prelude.{◌≡◌, refl, ℕ, ◌+◌, ◌-◌, ◌*◌, ◌/◌, ◌≤◌, length, take, replicate, is_some, Result as CodeResult, Ok, Err}
use Rattle.std.proofs.Math.Path.{sym, ap, subst}
use Rattle.std.proofs.Common.{◌∙◌, get_or-set_same}
use Rattle.std.proofs.Math.Bool.{true}
use Rattle.std.proofs.Math.Option.{Option, none, some}
use mathlib.Core.List.{List, [], ◌∷◌, ◌++◌, map}
use native.Mathlib.Omega.{arith}
use Rattle.std.proofs.Math.Dec.{leb}
use Rattle.std.proofs.Math.ListN.{drop, length-set}
use Rattle.std.proofs.lemmas.List.{length-replicate}
use Rattle.kit.specs.Out.{◌&◌}
use Rattle.kit.proofs.Laws.{tests}
use Rattle.rules.specs.Tools.{when◌then◌else◌, is_just}
use Rattle.rules.specs.Versions.{Version, Setting, top_name}
use Rattle.rules.specs.Tree.{Declaration, Scope, scope, flatten}
use Rattle.rules.specs.Good.{height}
use Rattle.rules.specs.Readings.{fields_of}
use Rattle.rules.specs.Begins.{IsForm}
use Rattle.rules.specs.Rules.{Env, table_of, find, resolve_inside}
use Rattle.rules.specs.Answer as rules
use Rattle.rules.specs.Answer.{accepted, map_answer, row_count, rows_of, resolved, answer_inside, output_after, output_inside}
use Rattle.rules.specs.Laws.RowLaws.{Bytes, bytes_drop}
use Rattle.rules.proofs.Laws.Read.ReadRight.{reads_form}
use Rattle.rules.specs.Laws.Meaning.Names.{low_scope}
use Rattle.rules.proofs.Laws.Meaning.ReadNames.{read_low}
use Rattle.read_form.specs.ReadForm.{◌and_then◌}
use Rattle.batching.specs.Batch.{inside_answer, inside_output}
use Rattle.refusal.specs.declared.Refusal.{Refusal}
use Rattle.refusal.specs.Refusals.{untold}
use Rattle.form.specs.MarkEnds.{ends_to}
use Rattle.form.specs.Ends.{Ends, EndsIn}
use Rattle.form.proofs.EndsStorey.{ends_to_right}
use Rattle.names.specs.Table.{Slot, no_scope, scope_of, row_of, between}
use Rattle.names.specs.Stands.{found_of, Stands, entry_rows, Envs, Below}
use Rattle.names.proofs.Storey.{find_stands, envs_push, below_push}
use Rattle.agree.specs.Tables.Sizes.{most, Sizes, Fits}
use Rattle.agree.specs.Rows.AtLaws.{at_form}
use Rattle.agree.specs.Tables.Earlier.{Knows, Come, Earlier}
use Rattle.agree.specs.Walk.RootAgrees.{Begun, inside_agrees}
use Rattle.whole_form.specs.Whole.{form_of}
use Rattle.resolver.specs.Meaning.{meaning, ruled}
use Rattle.resolver.specs.Admit.{admit}
use Rattle.resolver.specs.Run.{Ran, fill_t, before, finish_t}
use Rattle.resolver.proofs.Admits.{left_in, Admitted, admitted, admit_early, whole_is, refused_is, answer_inside_lem, output_inside_lem}
use Rattle.resolver.proofs.Root.{Able, Walks, seen}
use Rattle.resolver.proofs.Agrees.{Says, body_rows, body_form, tree_says}
use Rattle.member_laws.specs.Within.{inner, one_open, walk_inside}
use Rattle.refusal.specs.declared.Refused.{Refused}

-- a root that stands in the first `used` slots of a table, and has come to its end: all that it declares stands before a member
pub record Seated (root : Env) (names : List Slot) (name used : ℕ) : Type 0 where
  pub name_is : name ≡ root.name
  pub stands : Stands [] (between 0 used names) (table_of root)
  pub rows : map row_of (between 0 used names) ≡ entry_rows root.entries
  pub come : root.before ≡ table_of root

-- there is a slot for each row of the member behind the root's, and an end
pub record RoomsIn (v : Version) (used : ℕ) (es : List ℕ) (en ns : List Slot) : Type 0 where
  pub ends : v.rows ≤ length es
  pub entered : v.rows ≤ length en
  pub names : used + v.rows ≤ length ns
  pub entered_narrow : length en ≤ most
  pub names_narrow : length ns ≤ most

-- ---- the walk

-- slots that are declarations hold them
found_just : (o : Option ℕ) → is_some (found_of o) ≡ is_just o
found_just none = refl
found_just (some n) = refl

knows_stands : (slots : List Slot) (ds : List Declaration) → Stands [] slots ds → Knows slots ds
knows_stands slots ds st space name l = ap is_some (find_stands space name slots ds st) ∙ found_just (find ds space name)

module _ (s : Setting) (able : Able s) (some_scope : 1 ≤ s.version.scopes) (root : Env) (name used : ℕ) (ends : List ℕ) (entered names : List Slot) (seated : Seated root names name used) (rooms : RoomsIn s.version used ends entered names) where
  sizes : Sizes
  sizes = record { entered = length entered; names = length names; scopes = s.version.scopes }

  abbrev scopes : List (List ℕ)
  scopes = one_open s.version.scopes name used

  long : length (replicate s.version.scopes no_scope) ≡ s.version.scopes
  long = length-replicate s.version.scopes no_scope

  -- all of the root's slots stand before the member
  come : Come names (scope_of name 0 used 0) used root.before
  come = record { from = omega arith; within = omega arith; knows = rw seated.come (knows_stands (between 0 used names) (table_of root) seated.stands) }

  module _ (rows : List ℕ) (all : Bytes rows) (few : length rows / 16 ≤ s.version.rows) (t : Scope) (f : IsForm s.rules (rows_of top_name (length rows / 16) rows) t) (low : height t ≤ s.version.scopes - 1) where
    fits : Fits sizes rows
    unfolding sizes
    fits =
        let a = able.shallow in
        record { short = omega (arith, rooms.entered); entered = rooms.entered_narrow; names = rooms.names_narrow; scopes = omega arith }

    ends_in_lem : EndsIn t (ends_to s.version.scopes rows ends) 0
    unfolding EndsIn
    ends_in_lem = go t (ends_to_right s.version.scopes top_name rows ends t f.of_tree (omega arith) (omega (arith, rooms.ends)) (omega (arith, able.few)))
      where
        go : (x : Scope) → Ends (fields_of x) (ends_to s.version.scopes rows ends) 1 → EndsIn x (ends_to s.version.scopes rows ends) 0
        go (scope kind name fs) h = h

    begun : Begun sizes entered names scopes used 1 s.rules.early (root ∷ []) t
    unfolding sizes Envs Below Earlier
    begun =
        let at = at_form top_name rows all (omega arith) (flatten t) (sym f.of_tree) in
        let count = at.1 in
        let open-room = long in
        let n = seated.name_is in
        record {
          room = refl;
          size = refl;
          depths = length-set (replicate s.version.scopes no_scope) 0 (scope_of name 0 used 0) ∙ long;
          envs = subst (λ (x : ℕ). Envs names scopes 1 (record { name = x; entries = root.entries; before = root.before } ∷ [])) n
              (envs_push (replicate s.version.scopes no_scope) 0 name 0 used 0 (omega arith) names root.entries root.before [] (omega arith) (omega (arith, rooms.names)) seated.stands seated.rows tt);
          below = below_push (replicate s.version.scopes no_scope) 0 name 0 used 0 (omega arith) used (omega arith) tt;
          deep = omega arith;
          slots = omega (arith, rooms.names);
          numbers = omega (arith, able.few);
          fresh = refl;
          earlier = λ e. rw (get_or-set_same (replicate s.version.scopes no_scope) 0 (scope_of name 0 used 0) no_scope (omega arith)) (come, tt);
        }

    pub inside_walks : (out : List ℕ) → 64 * (length rows / 16) ≤ length out → Walks (resolve_inside s.rules (root ∷ []) t) out (walk_inside s name used rows ends entered names out)
    unfolding walk_inside
    inside_walks out room =
        let at = at_form top_name rows all (omega arith) (flatten t) (sym f.of_tree) in
        let count = at.1 in
        let names-low = read_low s.rules s.version.scopes top_name (length rows / 16) rows t (omega arith) (reads_form s.rules s.version.scopes (rows_of top_name (length rows / 16) rows) t f (omega arith)) in
        seen (resolve_inside s.rules (root ∷ []) t) out _
        (inside_agrees s.rules able.heap sizes rows (ends_to s.version.scopes rows ends) t fits at.0 ends_in_lem f.good (low_scope t names-low) (λ e. names-low)
        (root ∷ []) (s.version.scopes - 1) used 1 entered names scopes low begun out (omega arith))

-- ---- the answer

module _ (s : Setting) (root : Env) (input : List ℕ) (room : ℕ) (why : Refusal) (e : Err why ≡ form_of (admit (left_in (root ∷ []) s) input room)) where
  admits : (admit (left_in (root ∷ []) s) input room ≡ rules.refused why.number why.place []) × (why.number ≤ 5)
  admits = refused_is (admit (left_in (root ∷ []) s) input room) why (admit_early (left_in (root ∷ []) s) input room) e

  refuses : inside_answer s root input room ≡ rules.refused why.number why.place []
  unfolding ◌and_then◌ map_answer
  refuses = answer_inside_lem (root ∷ []) s input room ∙ rw admits.0

  pub inside_early : meaning (Err (record { refusal = why; told = untold })) ≡ ruled (inside_answer s root input room)
  inside_early = rw refuses

  pub inside_stays : (old : List ℕ) → length old ≡ room → old ≡ inside_output s root input old
  unfolding output_after when◌then◌else◌
  inside_stays old l =
      let low = admits.1 in
      let t : leb why.number 5 ≡ true = omega tests in
      sym (output_inside_lem (root ∷ []) s input old ∙ rw (l, refuses, t))

able_inner : (s : Setting) → Able s → Able (inner s)
able_inner s a =
    let u = a.usual in
    record { usual = record { low = u.low; heap = u.heap; header = u.header; countable = u.countable; few = u.few }; heap = a.heap; top = a.top; few = a.few; shallow = omega (arith, a.shallow) }

-- the header that is put does not tell how many scopes may be open
fills_alike : (s : Setting) (walk : List ℕ → _) (front : List ℕ) → fill_t s walk front ≡ fill_t (inner s) walk front
unfolding fill_t finish_t rules.header_bytes rules.mark
fills_alike s walk front = refl

leaves_alike : (s : Setting) (x : rules.Answer) (input old : List ℕ) → output_after (inner s) x (s.version.header + 64 * row_count (inner s).version input) old ≡ output_after s x (s.version.header + 64 * row_count s.version input) old
unfolding output_after row_count rules.form_bytes rules.header_bytes rules.mark
leaves_alike s (rules.refused number place carried) input old = refl
leaves_alike s (accepted rows) input old = refl

module _ (s : Setting) (able : Able s) (some_scope : 1 ≤ s.version.scopes) (root : Env) (name used : ℕ) (ends : List ℕ) (entered names : List Slot) (seated : Seated root names name used) (rooms : RoomsIn s.version used ends entered names)
    (input old : List ℕ) (all : Bytes input) (rows : ℕ) (whole : Ok rows ≡ form_of (admit (left_in (root ∷ []) s) input (length old))) where
  tree : (t : Scope) × (admit (inner s) input (length old) ≡ accepted t) × (rows ≡ length (flatten t))
  tree = whole_is (admit (inner s) input (length old)) rows whole

  fine : Admitted (inner s) input (length old) tree.0
  fine = admitted (inner s) input (length old) tree.0 tree.1

  count : rows ≡ row_count (inner s).version input
  count = tree.2 ∙ fine.count

  walked : (out : List ℕ) → 64 * row_count (inner s).version input ≤ length out → Walks (resolve_inside s.rules (root ∷ []) tree.0) out (walk_inside s name used (drop s.version.header input) ends entered names out)
  walked out room =
      let b = body_rows (inner s) (able_inner s able) input old tree.0 fine in
      inside_walks s able some_scope root name used ends entered names seated rooms (drop s.version.header input) (bytes_drop s.version.header input all) (omega (arith, fine.few)) tree.0 (body_form (inner s) (able_inner s able) input old tree.0 fine) fine.low out (omega arith)

  abbrev share : ℕ
  share = s.version.header + 64 * row_count (inner s).version input

  counted : (a : CodeResult ℕ Refused) (k : List ℕ) → a & k ≡ fill_t s (walk_inside s name used (drop s.version.header input) ends entered names) (take share old)
      → (meaning a ≡ ruled (inside_answer s root input (length old))) × (k ++ drop share old ≡ inside_output s root input old)
  unfolding ◌and_then◌ before
  counted a k e =
      let x = map_answer flatten (resolved (resolve_inside s.rules (root ∷ []) tree.0)) in
      let w = walk_inside s name used (drop s.version.header input) ends entered names in
      let said : Says (inner s) (row_count (inner s).version input) old x (a & (k ++ drop share old)) =
      subst (λ (y : Ran). Says (inner s) (row_count (inner s).version input) old x (before y (drop share old))) (sym (e ∙ fills_alike s w (take share old))) (tree_says (inner s) (able_inner s able) input old tree.0 fine (root ∷ []) w walked) in
      let one : inside_answer s root input (length old) ≡ x = answer_inside_lem (root ∷ []) s input (length old) ∙ rw tree.1 in
      (said.0 ∙ ap ruled (sym one), said.1 ∙ (leaves_alike s x input old ∙ sym (output_inside_lem (root ∷ []) s input old ∙ rw one)))

  pub inside_agrees_all : (a : CodeResult ℕ Refused) (k : List ℕ) → a & k ≡ fill_t s (walk_inside s name used (drop s.version.header input) ends entered names) (take (s.version.header + 64 * rows) old)
      → (meaning a ≡ ruled (inside_answer s root input (length old))) × (k ++ drop (s.version.header + 64 * rows) old ≡ inside_output s root input old)
  inside_agrees_all a k e =
      let c = counted a k (subst (λ (n : ℕ). a & k ≡ fill_t s (walk_inside s name used (drop s.version.header input) ends entered names) (take (s.version.header + 64 * n) old)) count e) in
      (c.0, subst (λ (n : ℕ). k ++ drop (s.version.header + 64 * n) old ≡ inside_output s root input old) (sym count) c.1)
