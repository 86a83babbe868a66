-- The rows that are marked for sharing are walked without asking for earlier declarations. Fresh names stand in their operands, of which
-- the walk under that rule says nothing; and the rule refuses none of them: their form was accepted, and what is proposed for it is
-- accepted then, so leaving the question out changes no row.
use Rattle.std.specs.Prelude.{◌≡◌, ℕ}
use mathlib.Core.List.{[]}
use Rattle.rules.specs.Versions.{RuleSet, Setting, today}
use Rattle.rules.specs.Tree.{Head, Scope, scope, Fields, end, ◌▸◌, Item, plain, holds}
use Rattle.rules.specs.Shapes.{builtin_parts, parts}
use Rattle.rules.specs.Good.{GoodHead, GoodScope, GoodFields, GoodItem}
use Rattle.rules.specs.Rules.{ok, resolve}
use Rattle.rules.proofs.Laws.Meaning.Stricter.{relaxed_rules, stricter}
use Rattle.sharing.specs.Sharing.{mark, propose}

-- The setting that they are walked by: the same version with rule set 0. Of a rule set the walk takes no more than whether it asks for
-- earlier declarations.
abbrev pub relaxed : Setting → Setting
relaxed s = record { version = s.version; rules = today }

module _ (rules : RuleSet) where
  -- what is proposed is what the steps make of the marked tree without that question
  pub proposed_relaxed : (t : Scope) (q : Scope × ℕ) → propose rules t ≡ ok q → resolve (relaxed_rules rules) (mark t) ≡ ok q
  unfolding propose resolve
  proposed_relaxed t q e = stricter rules [] (mark t) q e

  -- a form is one without it too
  good_head : (kind : ℕ) (h : Head) → GoodHead rules kind h → GoodHead (relaxed_rules rules) kind h
  unfolding parts builtin_parts
  good_head kind h g =
      record {
        may = g.may;
        built = g.built;
        declared = g.declared;
        enough_declared = g.enough_declared;
        left = g.left;
        uses = g.uses;
        ends = g.ends;
        exporting = g.exporting;
      }

  mutual
    pub good_relaxed : (s : Scope) → GoodScope rules s → GoodScope (relaxed_rules rules) s
    good_relaxed (scope kind name fs) g = good_fields kind fs g

    good_fields : (kind : ℕ) (fs : Fields) → GoodFields rules fs kind → GoodFields (relaxed_rules rules) fs kind
    good_fields kind end g = tt
    good_fields kind (i ▸ fs) g = (good_item kind i g.0, good_fields kind fs g.1)

    good_item : (kind : ℕ) (i : Item) → GoodItem rules i kind → GoodItem (relaxed_rules rules) i kind
    good_item kind (plain h) g = (good_head kind h g.0, g.1)
    good_item kind (holds h s) g = (good_head kind h g.0, g.1, g.2, good_relaxed s g.3)
