-- Document 01's number and place for what the rules return; of an input that is given, how many rows it says it has. Nothing is
-- told besides.
use Rattle.rules.specs.Versions.{Version, version1}
use Rattle.rules.specs.Answer.{row_count}
use Rattle.unresolving.specs.BackAnswer.{Returned, refused, given}
use Rattle.refusal.specs.Refusals.{untold}
use Rattle.resolver.specs.Meaning.{Said, saying, numbers}

-- where forms of this version are given
unfoldable pub returned_in : Version → Returned → Said
returned_in v (refused number place) = saying (numbers number place) untold
returned_in v (given bytes) = saying (numbers 0 (row_count v bytes)) untold

-- the same for version 1
unfoldable pub returned : Returned → Said
returned = returned_in version1
