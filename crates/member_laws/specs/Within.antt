-- The walk over a form whose root lies inside another root, as the code takes it: that root's slots stand first in the table.
use Rattle.std.specs.Prelude.{List, ℕ, ◌-◌, set, replicate}
use Rattle.rules.specs.Versions.{Setting}
use Rattle.form.specs.MarkEnds.{ends_to}
use Rattle.names.specs.Table.{Slot, no_scope, scope_of}
use Rattle.write.specs.WriteState.{Wrote}
use Rattle.walk.specs.Scopes.{scope_walk_t, start_in}
use Rattle.resolver.specs.Run.{seen_of}

-- the same with one scope fewer: a form inside a root is held to that
abbrev pub inner : Setting → Setting
inner s =
    record {
      version =
          record {
            number = s.version.number;
            header = s.version.header;
            counting = s.version.counting;
            names = s.version.names;
            rows = s.version.rows;
            scopes = s.version.scopes - 1;
          };
      rules = s.rules;
    }

-- the scopes that may be open, of which one is: it has this name and the first `used` slots
abbrev pub one_open : (most name used : ℕ) → List (List ℕ)
one_open most name used = set (replicate most no_scope) 0 (scope_of name 0 used 0)

-- the walk over a form inside one scope of this name, whose declarations are the first `used` slots
unfoldable pub walk_inside : Setting → (name used : ℕ) (rows ends : List ℕ) (entered names : List Slot) (out : List ℕ) → Wrote
walk_inside s name used rows ends entered names out =
    let most = s.version.scopes in
    seen_of (scope_walk_t rows (ends_to most rows ends) (most - 1) entered names (one_open most name used) out (start_in used 1 s.rules.early))
