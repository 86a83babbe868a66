-- Of every output of a setting in force the restored form is the one that the rules give.
use mathlib.Core.Path.{◌≡◌, refl, sym, ap, ◌∙◌, subst}
use mathlib.Core.Bool.{Bool, true, false}
use mathlib.Core.Option.{Option, none, some}
use mathlib.Core.List.{List, [], ◌∷◌, ◌++◌, append-nil, append_assoc}
use native.Mathlib.Omega.{arith}
use Prim.Native.Nat.{ℕ, zero, suc, ◌+◌, ◌-◌, ◌*◌, ◌/◌, ◌≤◌, ◌<◌}
use lib.ListN.{length, take, drop, replicate, length-append, length-take, length-drop, length-replicate, length-map, take-append-drop}
use lib.Seq.{sets, drop_at, length-take-le}
use Rattle.kit.specs.Out.{Out, ◌&◌}
use Rattle.rules.specs.Versions.{Setting, top_name, as_claimed}
use Rattle.rules.specs.Rows.{Row}
use Rattle.rules.specs.Tree.{Scope, flatten, form}
use Rattle.rules.specs.Good.{height, GoodScope}
use Rattle.rules.specs.Reader.{read}
use Rattle.rules.specs.Rules.{ok, resolve, resolve_inside}
use Rattle.rules.specs.Answer
use Rattle.rules.specs.Answer.{accepted, setting_of, row_count, rows_in, answer, answer_in, form_bytes, header_bytes, rows_bytes}
use Rattle.rules.specs.Laws.ToolLaws.{All}
use Rattle.rules.specs.Laws.RowLaws.{Written, Bytes}
use Rattle.rules.specs.Laws.Results.{some_same}
use Rattle.rules.proofs.Laws.Read.BeginsWritten.{rows_length}
use Rattle.rules.specs.Laws.Meaning.Names.{LowScope}
use Rattle.rules.proofs.Laws.Output.Well.{well}
use Rattle.rules.proofs.Laws.Output.Numbers.{NumberedScope}
use Rattle.rules.proofs.Laws.Output.OutFits.{out_name}
use Rattle.rules.proofs.Laws.Output.OutBytes.{header_length, header_drop}
use Rattle.rules.proofs.Laws.InputLaws.{Usual, Accepted, readings, is_form}
use Rattle.read_form.specs.ReadForm.{read_form}
use Rattle.read_form.proofs.Laws.ReadFormLaws.{read_exactly, read_read, accepted_same, ours_read}
use Rattle.unresolving.specs.Back.{unresolve}
use Rattle.unresolving.specs.BackAnswer.{outcome, tree_of, read_claim, back}
use Rattle.unresolving.proofs.Laws.WentBack.{went_back}
use Rattle.unresolving.proofs.Laws.Answered.{back_right, back_bytes, back_is, Ran, ran_on}
use Rattle.matched.proofs.Ends.{At}
use Rattle.diff.proofs.Lists.{at_rows}
use Rattle.claim_laws.specs.OnBytes.{rows_count}
use Rattle.limits.specs.Held.{setting}
use Rattle.back_notes.specs.Note.{Note}
use Rattle.back_rows.specs.Restore.{Wrote}
use Rattle.back_laws.specs.Restored.{put_rows}
use Rattle.back_tree.specs.Made.{MadeScope, made}
use Rattle.back_tree.specs.Few.{decls_scope, few_declared}
use Rattle.back_tree.specs.Put.{set_middle, put_all}
use Rattle.back_tree.specs.OnRows.{rows_back}
use Rattle.unresolve.specs.Restored.{noted_t, restore_rows_t, headed_t, restore_t}
use Rattle.unresolve.specs.Run.{alone}
use Rattle.unresolve.proofs.Resolves.{alone_one}
use Rattle.unresolve.proofs.Alone.{Fit}

-- ---- tools

front_drop : (n : ℕ) (xs ys : List ℕ) → n ≤ length xs → drop n (xs ++ ys) ≡ drop n xs ++ ys
front_drop zero xs ys h = refl
front_drop (suc n) [] ys h = absurd (omega arith)
front_drop (suc n) (x ∷ xs) ys h = front_drop n xs ys (omega arith)

at_of : Out ℕ (List ℕ) → ℕ
at_of (at & a) = at

area_of_lem : Out ℕ (List ℕ) → List ℕ
area_of_lem (at & a) = a

module _ (i : ℕ) (F : Fit (setting i)) where
  abbrev one : Setting
  one = setting i

  abbrev header : ℕ
  header = (setting i).version.header

  abbrev most : ℕ
  most = (setting i).version.rows

  U : Usual (setting i)
  U = F.settled.usual.0

  -- ---- what is known of an output's tree

  record Known (claim : List ℕ) (t : Scope) : Type 0 where
    good : GoodScope (setting i).rules t
    made_by : MadeScope t
    numbered : NumberedScope t
    deep : height t ≤ 64
    declared : decls_scope t ≤ most
    four : length (flatten t) ≤ 4 * most
    restored_few : length (flatten (unresolve t)) ≤ most
    bytes : claim ≡ form_bytes one (flatten t)

  -- an output of an input of that setting
  record Made-of (claim input : List ℕ) : Type 0 where
    out : List Row
    old : List ℕ
    run : Accepted (alone i) input old out
    in_force : run.setting ≡ one
    bytes : claim ≡ form_bytes one out

  made_of : (claim input : List ℕ) → Bytes input → outcome (alone i) input ≡ some claim → Made-of claim input
  unfolding answer Answer.answer_inside Answer.answer_for
  made_of claim input bs e =
      let R = ran_on (alone i) claim input e in
      let v-is : R.v ≡ one = sym (alone_one one input R.v R.asked) in
      let n = header + 64 * row_count one.version input in
      let blank : List ℕ = replicate n 0 in
      let room : length blank ≡ n = length-replicate n 0 in
      let asks : setting_of (alone i) input ≡ some one = R.asked ∙ ap {B = Option Setting} some v-is in
      let answers : answer_in [] one input n ≡ accepted R.out = subst (λ (x : Setting). answer_in [] x input (x.version.header + 64 * row_count x.version input) ≡ accepted R.out) v-is R.answers in
      let A = readings (alone i) (U, tt) input blank bs R.out (rw (asks, room) answers) in
      record { out = R.out; old = blank; run = A; in_force = sym (alone_one one input A.setting A.asked_for); bytes = R.is ∙ ap (λ (x : Setting). form_bytes x R.out) v-is }

  again_read : (claim input : List ℕ) (M : Made-of claim input) → read_form (as_claimed one) claim ≡ accepted M.run.after
  again_read claim input M =
      let v = M.run.setting in
      let reads : read_form (as_claimed v) (form_bytes v M.out) ≡ accepted M.run.after = ours_read (alone i) input M.old M.out M.run in
      subst (λ (x : List ℕ). read_form (as_claimed one) x ≡ accepted M.run.after) (sym M.bytes)
      (subst (λ (x : Setting). read_form (as_claimed x) (form_bytes x M.out) ≡ accepted M.run.after) M.in_force reads)

  -- what the rules give an input for is read
  pub given_read : (claim x : List ℕ) → back (alone i) claim ≡ some x → (t : Scope) × (read_form (as_claimed one) claim ≡ accepted t)
  given_read claim x e =
      let M = made_of claim x (back_bytes (alone i) claim x e) (back_right (alone i) claim x e) in
      (M.run.after, again_read claim x M)

  known : (claim input : List ℕ) → Made-of claim input → (t : Scope) → read_form (as_claimed one) claim ≡ accepted t → Known claim t
  unfolding resolve
  known claim input M t reads = of M.run M.in_force M.bytes (again_read claim input M)
    where
      of : {old : List ℕ} {out : List Row} (A : Accepted (alone i) input old out) → A.setting ≡ one → claim ≡ form_bytes one out → read_form (as_claimed one) claim ≡ accepted A.after → Known claim t
      of {old} {out} A s c again =
          let v = A.setting in
          let r : Scope × ℕ = (A.after, A.next) in
          let G = is_form [] v input A.before r A.usual A.reads A.resolves in
          let W = well v.rules A.usual.heap [] A.before r G.0.good A.resolves in
          let fits : All (Written out_name) (flatten A.after) = subst (All (Written out_name)) (sym A.of_tree) A.fit in
          let B = went_back v.rules A.usual.heap A.before r G.0.good A.low fits A.resolves in
          let M = made v.rules A.usual.heap A.before r G.0.good A.low A.resolves in
          let D = few_declared v.rules A.before r A.resolves in
          let same : A.after ≡ t = accepted_same A.after t (sym again ∙ reads) in
          let rows : length (flatten A.after) ≡ length out = ap length A.of_tree in
          let four : length out ≤ 4 * row_count one.version input = subst (λ (x : Setting). length out ≤ 4 * row_count x.version input) s A.four in
          let counted : row_count one.version input ≤ most = subst (λ (x : Setting). row_count x.version input ≤ x.version.rows) s A.counted in
          let few : length (flatten A.before) ≤ most = subst (λ (x : Setting). length (flatten A.before) ≤ x.version.rows) s A.few in
          let low : height A.before ≤ one.version.scopes = subst (λ (x : Setting). height A.before ≤ x.version.scopes) s G.1 in
          let good : GoodScope one.rules A.after = subst (λ (x : Setting). GoodScope x.rules A.after) s W.good in
          let size = B.size in
          subst (Known claim) same
          (record {
            good = good;
            made_by = M;
            numbered = A.numbered;
            deep = omega (arith, W.high, F.deep);
            declared = omega arith;
            four = omega arith;
            restored_few = omega arith;
            bytes = c ∙ ap (form_bytes one) (sym A.of_tree);
          })

  -- ---- what is put in the area

  -- the header before the rows
  header_put : (front xs : List ℕ) (rs : List Row) → length front ≡ header → length rs ≤ most → length xs ≡ 16 * (most - length rs) → (at : ℕ) (a : List ℕ)
      → (at & a) ≡ headed_t i front (most - length rs & xs ++ (rows_bytes rs ++ [])) → drop at a ≡ form_bytes one rs
  unfolding headed_t form_bytes at_of area_of_lem
  header_put front xs rs f few x at a e =
      let n : ℕ = length rs in
      let to : ℕ = 16 * (most - n) in
      let is-n : most - (most - n) ≡ n = omega arith in
      let R : List ℕ = rows_bytes rs ++ [] in
      let whole : front ++ (xs ++ R) ≡ (front ++ xs) ++ R = sym (append_assoc front xs R) in
      let both : length (front ++ xs) ≡ header + to = omega (arith, length-append front xs) in
      let Q : List ℕ = drop to (front ++ xs) in
      let q : length Q ≡ header = omega (arith, length-drop to (front ++ xs)) in
      let H : List ℕ = header_bytes one n in
      let h : length H ≡ header = header_length one n [] U.header in
      let behind : drop to (front ++ (xs ++ R)) ≡ Q ++ R = ap (drop to) whole ∙ front_drop to (front ++ xs) R (omega arith) in
      let headed : sets (Q ++ R) 0 H ≡ H ++ R = set_middle [] Q R H 0 refl (q ∙ sym h) in
      let before : length (take to (front ++ (xs ++ R))) ≡ to = length-take-le to (front ++ (xs ++ R)) (omega (arith, length-append front (xs ++ R), length-append xs R)) in
      let at_is : at ≡ to = ap at_of e ∙ rw is-n in
      let a-is : a ≡ take to (front ++ (xs ++ R)) ++ sets (drop to (front ++ (xs ++ R))) 0 H = ap area_of_lem e ∙ rw is-n in
      rw (at_is, a-is, behind, headed) (drop_at (take to (front ++ (xs ++ R))) (H ++ R) to before ∙ rw (append-nil (rows_bytes rs)))

  -- in notes and a table that have room for an output
  module _ (slots : ℕ) (noted : List Note) (slots-fit : most ≤ slots) (notes_fit : 4 * most ≤ length noted) where
    module _ (claim : List ℕ) (t : Scope) (reads : read_form (as_claimed one) claim ≡ accepted t) (K : Known claim t) where
      abbrev body : List ℕ
      body = drop header claim

      abbrev u : List Row
      u = flatten (unresolve t)

      body_is : body ≡ rows_bytes (flatten t)
      unfolding form_bytes
      body_is = ap (drop header) K.bytes ∙ header_drop one (length (flatten t)) (rows_bytes (flatten t)) U.header

      count : length body / 16 ≡ length (flatten t)
      count = rows_count (as_claimed one) claim t reads

      stands : At body 0 (flatten t)
      unfolding row_count
      stands =
          let R = (read_exactly (as_claimed one) claim t).0 reads in
          let n : length (flatten t) ≡ row_count one.version claim = sym (length-map (flatten t) some) ∙ ap length R.is_form.of_tree ∙ rows_length out_name (row_count one.version claim) body in
          at_rows out_name (row_count one.version claim) body 0 (flatten t) R.is_form.of_tree (count ∙ n ∙ omega arith)

      restored_rows : (out : List ℕ) → restore_rows_t slots noted body out ≡ put_rows u (length out / 16 & out)
      unfolding restore_rows_t noted_t
      restored_rows out =
          rows_back one.rules t K.good (omega (arith, K.four, F.few)) K.deep body stands body_is count noted slots (omega (arith, K.four)) (omega (arith, K.declared)) K.made_by K.numbered (length out / 16) out

      restored_form : (area a : List ℕ) (at : ℕ) → length area ≡ header + 16 * most → (at & a) ≡ restore_t i slots noted body area → drop at a ≡ form_bytes one u
      unfolding restore_t
      restored_form area a at long e =
          let few = K.restored_few in
          let n : ℕ = length u in
          let out : List ℕ = drop header area in
          let room : length out ≡ 16 * most = omega (arith, length-drop header area) in
          let cut : ℕ = 16 * (most - n) in
          let xs : List ℕ = take cut out in
          let ys : List ℕ = drop cut out in
          let rows : length out / 16 ≡ most = omega arith in
          let x : length xs ≡ cut = length-take-le cut out (omega arith) in
          let y : length ys ≡ 16 * n = omega (arith, length-drop cut out) in
          let split : out ≡ xs ++ (ys ++ []) = sym (take-append-drop cut out) ∙ ap (λ (z : List ℕ). xs ++ z) (sym (append-nil ys)) in
          let put : restore_rows_t slots noted body out ≡ (most - n & xs ++ (rows_bytes u ++ [])) =
          restored_rows out ∙ ap (λ (k : ℕ). put_rows u (k & out)) rows ∙ ap (λ (z : List ℕ). put_rows u (most & z)) split ∙ put_all u most xs ys [] few x y in
          header_put (take header area) xs u (length-take-le header area (omega arith)) few x at a (e ∙ ap (headed_t i (take header area)) put)

    -- THE FORM that is restored is the one that the rules give, if they give one.
    pub given_restored : (claim x : List ℕ) (t : Scope) → read_form (as_claimed one) claim ≡ accepted t → back (alone i) claim ≡ some x → (area a : List ℕ) (at : ℕ) → length area ≡ header + 16 * most
        → (at & a) ≡ restore_t i slots noted (drop header claim) area → drop at a ≡ x
    unfolding read_claim tree_of
    given_restored claim x t reads e area a at long w =
        let B = back_is (alone i) claim x e in
        let v-is = alone_one one claim B.0 B.2 in
        let K = known claim x (made_of claim x (back_bytes (alone i) claim x e) (back_right (alone i) claim x e)) t reads in
        let tree : read_claim one claim ≡ some t = ap tree_of (read_read (as_claimed one) claim t reads) in
        let tree' : read_claim one claim ≡ some B.1 = subst (λ (s : Setting). read_claim s claim ≡ some B.1) (sym v-is) B.3 in
        let same : t ≡ B.1 = some_same t B.1 (sym tree ∙ tree') in
        let x_is : x ≡ form_bytes one (flatten (unresolve t)) = B.4 ∙ ap (λ (s : Setting). form_bytes s (flatten (unresolve B.1))) (sym v-is) ∙ ap (λ (s : Scope). form_bytes one (flatten (unresolve s))) (sym same) in
        restored_form claim t reads K area a at long w ∙ sym x_is
