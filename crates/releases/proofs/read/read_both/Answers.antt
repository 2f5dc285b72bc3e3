-- A whole board and list are the paper's, their value made as it is read.
use Rattle.std.proofs.Common.{◌∙◌}
use Rattle.paper.specs.Run.{read_both}
use Rattle.text.specs.Reading.{whole_held}
use Rattle.releases.specs.Packed.{packed_both}
use Rattle.releases.proofs.read.read_both.Goals as goal

pub returns : goal.returns
returns c = c.whole.ensures ∙ whole_held packed_both read_both _
