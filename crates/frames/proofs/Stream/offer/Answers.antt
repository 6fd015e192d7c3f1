use Rattle.frames.proofs.Laws.{feeds-consumed}
use Rattle.frames.proofs.Stream.offer.Goals as goal

pub slice_bounds-rest-count : goal.slice_bounds-rest-count
slice_bounds-rest-count g c = feeds-consumed _ _ _ c.feed-fed.ensures

pub slice_bounds-rest-start : goal.slice_bounds-rest-start
slice_bounds-rest-start g c = feeds-consumed _ _ _ c.feed-fed.ensures
