use Rattle.glow_sizes.proofs.Places.{cap-few, cap-many}
use Rattle.glow_sizes.proofs.few.Goals as goal

pub returns-then-n-le-MOST_NUMBERS : goal.returns-then-n-le-MOST_NUMBERS
returns-then-n-le-MOST_NUMBERS c = cap-few _ c.if-n-le-MOST_NUMBERS.true

pub returns-else-n-le-MOST_NUMBERS : goal.returns-else-n-le-MOST_NUMBERS
returns-else-n-le-MOST_NUMBERS c = cap-many _ c.if-n-le-MOST_NUMBERS.false
