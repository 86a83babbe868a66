-- Which setting a header asks for, by its place in the list of all: the rules' `setting_of`, and then the tests of refusal 2.
use Rattle.std.specs.Prelude.{Bool, true, false, List, [], ◌∷◌, ℕ, ◌+◌, Result, Ok, Err}
use Rattle.rules.specs.Tools.{only}
use Rattle.rules.specs.Versions.{Setting, all, as_claimed}
use Rattle.rules.specs.Answer.{has_header}
use Rattle.kit.specs.Pick.{pick}
use Rattle.form.specs.Header.{header_for}
use Rattle.form.specs.declared.header.BadHeader.TheVariants.{Wrong, Count}
use Rattle.form.specs.declared.header.BadHeader.{BadHeader}
use Rattle.whole_form.specs.declared.asked.Asked.{Asked}

-- what the header says if it is that of the setting at place i, and else this
unfoldable pub or_next : (i : ℕ) → Result ℕ BadHeader → Result Asked BadHeader → Result Asked BadHeader
or_next i (Ok rows) else = Ok (record { setting = i; rows = rows })
or_next i (Err Wrong) else = else
or_next i (Err Count) else = Err Count

-- the setting to read a claimed output by, or an input
unfoldable pub held_as : (claim : Bool) → Setting → Setting
held_as claim s = pick claim (as_claimed s) s

-- of these settings, the first of which has place i
unfoldable pub asked_from : (claim : Bool) (i : ℕ) → List Setting → List ℕ → Result Asked BadHeader
asked_from claim i [] input = Err Wrong
asked_from claim i (s ∷ ss) input =
    or_next i (header_for (only (has_header (held_as claim s) input) (held_as claim s)) input) (asked_from claim (i + 1) ss input)

-- of an input
unfoldable pub asked_of : List ℕ → Result Asked BadHeader
asked_of input = asked_from false 0 all input

-- of what is claimed to be an output, which may have four times the rows
unfoldable pub claimed_of : List ℕ → Result Asked BadHeader
claimed_of input = asked_from true 0 all input
