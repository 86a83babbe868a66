-- What a file is that the resolver refuses.
use Rattle.std.specs.Prelude.{Bool, ℕ, eqb, ltb}
use Rattle.kit.specs.Pick.{pick}
use Rattle.known.specs.declared.file.Known.{Known}
use Rattle.known.specs.declared.file.Known.TheVariants.{NoForm, Whole, Resolved, Broken}

-- by the refusal's number: 1 is of the header, 2 to 5 of the form, 6 to 12 of its names
unfoldable pub known_of : (number : ℕ) (resolved : Bool) → Known
known_of number resolved =
    pick (eqb number 1) NoForm
    (pick (ltb 5 number) Whole
    (pick resolved Resolved
    Broken))
