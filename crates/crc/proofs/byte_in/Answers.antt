-- Four shifts and four more are eight. Assumes nothing.
use mathlib.Core.Path.{◌∙◌, ap}
use Rattle.crc.specs.Crc.{byte_in, times}
use Rattle.crc.proofs.byte_in.Goals as goal

pub returns : goal.returns
unfolding byte_in times
returns c = c.half_out-2.ensures ∙ ap (times 4) c.half_out.ensures
