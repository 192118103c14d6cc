-- `put`: as much of the row as there is room for, laid over the front. Assumes nothing.
use mathlib.Core.Path.{refl}
use Rattle.encoding.proofs.Encoding.{put_is}
use Rattle.encoding.proofs.put.Goals as goal

pub returns : goal.returns
returns c = record { count = refl; few = c.requires; stored = put_is _ _ _ _ c.min-fits.ensures c.copy_from_slice.ensures.after }
