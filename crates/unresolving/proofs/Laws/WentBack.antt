-- All that holds of what `unresolve` gives for the output of an accepted form.
use Rattle.std.specs.Prelude.{◌≡◌, false, List, [], ◌∷◌, ℕ, eqb, length}
use Rattle.std.proofs.Common.{sym, ◌∙◌}
use Rattle.rules.specs.Versions.{RuleSet, top_name}
use Rattle.rules.specs.Rows.{Row}
use Rattle.rules.specs.Tree.{Scope, flatten}
use Rattle.rules.specs.Good.{height, kind_of, name_of, GoodScope}
use Rattle.rules.specs.Rules.{ok, resolve}
use Rattle.unresolving.specs.Back.{unresolve}
use Rattle.rules.specs.Laws.ToolLaws.{All, done, ◌&◌}
use Rattle.rules.specs.Laws.RowLaws.{Written}
use Rattle.rules.specs.Laws.Meaning.Names.{LowScope}
use Rattle.rules.proofs.Laws.Meaning.ReadNames.{LegalRows, low_scope}
use Rattle.rules.proofs.Laws.Output.Well.{well}
use Rattle.rules.proofs.Laws.Output.OutFits.{out_name}
use Rattle.unresolving.proofs.Laws.Returns.{returns}
use Rattle.unresolving.proofs.Laws.Forms.{returned_form}
use Rattle.unresolving.proofs.Laws.Sizes.{same_rows}

legal_rows : (rs : List Row) → All (Written top_name) rs → LegalRows rs
legal_rows [] done = tt
legal_rows (r ∷ rs) (w & a) = (w.legal, legal_rows rs a)

-- `u` is a form with an input's names; it has the kind, the name, the height and the number of rows of `s`, and the same output; its rows
-- can be written
pub record WentBack (rules : RuleSet) (s u : Scope) (r : Scope × ℕ) : Type 0 where
  pub resolves : resolve rules u ≡ ok r
  pub good : GoodScope rules u
  pub low : LowScope u
  pub kind : kind_of u ≡ kind_of s
  pub name : name_of u ≡ name_of s
  pub high : height u ≡ height s
  pub size : length (flatten u) ≡ length (flatten s)
  pub rows : All (Written top_name) (flatten u)

pub went_back : (rules : RuleSet) → eqb 0 rules.heap ≡ false → (s : Scope) (r : Scope × ℕ) → GoodScope rules s → LowScope s → All (Written out_name) (flatten r.0) → resolve rules s ≡ ok r
    → WentBack rules s (unresolve r.0) r
unfolding resolve
went_back rules heap s r good low fits e =
    let W = well rules heap [] s r good e in
    let F = returned_form rules heap s r good low W.good fits e in
    let again : resolve rules (unresolve r.0) ≡ ok r = returns rules heap s r good low e in
    let low' : LowScope (unresolve r.0) = low_scope (unresolve r.0) (legal_rows (flatten (unresolve r.0)) F.rows) in
    record {
      resolves = again;
      good = F.good;
      low = low';
      kind = F.kind ∙ W.kind;
      name = F.name ∙ W.name;
      high = sym (well rules heap [] (unresolve r.0) r F.good again).high ∙ W.high;
      size = same_rows rules s (unresolve r.0) r low low' e again;
      rows = F.rows;
    }
