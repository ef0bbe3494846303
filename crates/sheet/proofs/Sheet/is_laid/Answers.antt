-- `sheet::Sheet::is_laid` meets its contract.
use Rattle.sheet.proofs.Whole.{prefix_long, no_text, no_marks, laid_is}
use Rattle.sheet.proofs.Sheet.is_laid.Goals as goal

pub slice_bounds-is_text-end : goal.slice_bounds-is_text-end
slice_bounds-is_text-end c = search prefix_long

pub slice_bounds-is_text-end-2 : goal.slice_bounds-is_text-end-2
slice_bounds-is_text-end-2 c = search prefix_long

pub slice_bounds-is_text-end-3 : goal.slice_bounds-is_text-end-3
slice_bounds-is_text-end-3 c = search prefix_long

pub slice_bounds-is_text-end-4 : goal.slice_bounds-is_text-end-4
slice_bounds-is_text-end-4 c = search prefix_long

pub returns-then-not-is_text : goal.returns-then-not-is_text
returns-then-not-is_text c = search no_text

pub slice_bounds-are_marks-length : goal.slice_bounds-are_marks-length
slice_bounds-are_marks-length c = search prefix_long

pub returns-then-not-are_marks : goal.returns-then-not-are_marks
returns-then-not-are_marks c = search no_marks

pub slice_bounds-are_cells-end : goal.slice_bounds-are_cells-end
slice_bounds-are_cells-end c = search prefix_long

pub slice_bounds-are_cells-end-2 : goal.slice_bounds-are_cells-end-2
slice_bounds-are_cells-end-2 c = search prefix_long

pub slice_bounds-are_cells-end-3 : goal.slice_bounds-are_cells-end-3
slice_bounds-are_cells-end-3 c = search prefix_long

pub returns : goal.returns
returns c = search laid_is
