use Rattle.entries.proofs.Slices.{part_inside}
use Rattle.nibrocate.proofs.part.part.Goals as goal

pub slice_bounds-result-count : goal.slice_bounds-result-count
slice_bounds-result-count c = (part_inside c.part_text-p.ensures.part).0

pub slice_bounds-result-start : goal.slice_bounds-result-start
slice_bounds-result-start c = (part_inside c.part_text-p.ensures.part).0

pub slice_bounds-result-end : goal.slice_bounds-result-end
slice_bounds-result-end c = (part_inside c.part_text-p.ensures.part).1
