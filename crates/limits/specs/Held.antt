-- What a form is held to: the code's limits, and the rules' setting that they stand for.
use Rattle.std.specs.Prelude.{true, false, List, [], ◌∷◌, ℕ, eqb, get_or}
use Rattle.kit.specs.Pick.{pick}
use Rattle.rules.specs.Versions.{RuleSet, Setting, version1, today, all}
use Rattle.limits.specs.declared.Limits.{Limits}

-- the rule set of a number
abbrev pub rules_of : ℕ → RuleSet
rules_of n = record { number = n; heap = pick (eqb n 0) 9 4; early = pick (eqb n 0) false true }

-- the setting that limits stand for
unfoldable pub setting_in : Limits → Setting
setting_in l =
    record {
      version = record { number = l.version; header = l.header; counting = pick l.wide 4 2; names = l.names; rows = l.rows; scopes = l.scopes };
      rules = rules_of l.rules;
    }

-- the limits of a setting
abbrev pub limits_of : Setting → Limits
limits_of s =
    record {
      version = s.version.number;
      header = s.version.header;
      wide = eqb s.version.counting 4;
      names = s.version.names;
      rows = s.version.rows;
      scopes = s.version.scopes;
      rules = s.rules.number;
    }

-- the settings by their place in the list of all; the first where there is none
abbrev pub setting : ℕ → Setting
setting i = get_or all i (record { version = version1; rules = today })
