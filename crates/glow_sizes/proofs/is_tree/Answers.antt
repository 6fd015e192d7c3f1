use Rattle.glow_member_sizes.specs.Spelling.{least_real}
use Rattle.glow_sizes.proofs.Fits.{fits_by}
use Rattle.glow_sizes.proofs.is_tree.Goals as goal

pub returns : goal.returns
returns c = fits_by least_real _ _ _ _ _ c.measure.ensures
