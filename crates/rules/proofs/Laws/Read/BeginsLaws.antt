-- What begins a form, and what does not.
use Rattle.std.specs.Prelude.{◌≡◌, List, [], ◌∷◌, ◌++◌, map, ℕ, ◌≤◌, take, drop}
use Rattle.std.proofs.Common.{ap, sym, ◌∙◌, append_assoc, append-nil, take-append-drop, take-take}
use Rattle.std.proofs.Math.Option.{Option, some}
use Rattle.rules.specs.Laws.ToolLaws.{snoc_append}
use Rattle.rules.specs.Versions.{RuleSet}
use Rattle.rules.specs.Rows.{Row}
use Rattle.rules.specs.Tree.{Scope, flatten}
use Rattle.rules.specs.Reader.{State, start, Next, wrong, on, whole}
use Rattle.rules.specs.Laws.Read.Steps.{after, after_wrong, after_append}
use Rattle.rules.proofs.Laws.Read.ReadBack.{read_back}
use Rattle.rules.proofs.Laws.Read.ReadSound.{state_rows}
use Rattle.rules.proofs.Laws.Read.Finish.{finish}
use Rattle.rules.specs.Begins.{IsForm, Begins}
use Rattle.rules.proofs.Laws.Read.Reached.{some_append, unsome, unmap, from_wrong, from_on, Reached}

module _ (rules : RuleSet) where
  pub begins_form : (rows : List Row) (s : State) → Reached rules rows (on s) → Begins rules (map some rows)
  begins_form rows s h =
      let w = finish rules s h.0 in
      record {
        more = map some w.rest;
        tree = w.tree;
        is_form = record {
          component = w.component;
          good = w.good;
          of_tree = ap (map some) w.split ∙ some_append (state_rows s) w.rest ∙ ap (λ (l : List Row). map some l ++ map some w.rest) h.1;
        };
      }

  pub begins_whole : (rows : List Row) (t : Scope) → Reached rules rows (whole t) → Begins rules (map some rows)
  begins_whole rows t h =
      record {
        more = [];
        tree = t;
        is_form = record { component = h.0; good = h.1; of_tree = ap (map some) h.2 ∙ sym (append-nil _) };
      }

  -- a row that leads to nothing right
  pub begins_none : (rows : List Row) (row : Option Row) → ((x : Row) → row ≡ some x → after rules (on start) (rows ++ (x ∷ [])) ≡ wrong)
      → ¬ Begins rules (map some rows ++ (row ∷ []))
  begins_none rows row breaks b =
      let u = unmap (flatten b.tree) rows row b.more (b.is_form.of_tree ∙ snoc_append (map some rows) row b.more) in
      let all : flatten b.tree ≡ (rows ++ (u.x ∷ [])) ++ u.rest = u.split ∙ sym (snoc_append rows u.x u.rest) in
      from_wrong (
      sym (after_wrong rules u.rest)
      ∙ ap (λ (n : Next). after rules n u.rest) (sym (breaks u.x u.is_x))
      ∙ sym (after_append rules (on start) (rows ++ (u.x ∷ [])) u.rest)
      ∙ ap (after rules (on start)) (sym all)
      ∙ read_back rules b.tree b.is_form.component b.is_form.good
      )

  pub no_form : (rows : List Row) (s : State) → after rules (on start) rows ≡ on s → (t : Scope) → ¬ IsForm rules (map some rows) t
  no_form rows s e t f =
      from_on (sym e ∙ ap (after rules (on start)) (sym (unsome (flatten t) rows f.of_tree)) ∙ read_back rules t f.component f.good)

  pub begins_less : (rows : List (Option Row)) (m n : ℕ) → m ≤ n → Begins rules (take n rows) → Begins rules (take m rows)
  begins_less rows m n h b =
      let cut : take n rows ≡ take m rows ++ drop m (take n rows) =
      sym (take-append-drop m (take n rows)) ∙ ap (λ (l : List (Option Row)). l ++ drop m (take n rows)) (take-take m n rows h) in
      record {
        more = drop m (take n rows) ++ b.more;
        tree = b.tree;
        is_form = record {
          component = b.is_form.component;
          good = b.is_form.good;
          of_tree = b.is_form.of_tree ∙ ap (λ (l : List (Option Row)). l ++ b.more) cut ∙ append_assoc (take m rows) (drop m (take n rows)) b.more;
        };
      }

  -- a form's first rows begin it
  pub form_begins : (rows : List (Option Row)) (t : Scope) (n : ℕ) → IsForm rules rows t → Begins rules (take n rows)
  form_begins rows t n f =
      record {
        more = drop n rows;
        tree = t;
        is_form = record { component = f.component; good = f.good; of_tree = f.of_tree ∙ sym (take-append-drop n rows) };
      }
