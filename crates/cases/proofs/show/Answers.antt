use Rattle.std.proofs.Common.{sym, length-take-le}
use Rattle.layout.proofs.Relied.{call_written}
use Rattle.cases.proofs.show.Goals as goal

pub slice_bounds-out-end : goal.slice_bounds-out-end
slice_bounds-out-end c = call_written c.in-Ok.ensures

pub slice_bounds-print_pages-end : goal.slice_bounds-print_pages-end
slice_bounds-print_pages-end c = sym (length-take-le _ _ (call_written c.in-Ok.ensures))
