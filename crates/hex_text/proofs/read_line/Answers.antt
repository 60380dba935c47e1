-- Behind the pairs with a space after each stands the last pair of a line of pairs, or the line is empty or not hex and its end is
-- found from there on.
use Rattle.std.proofs.Common.{refl, sym, arith}
use lib.Seq.{length-take-le}
use Rattle.hex_text.proofs.Lines.{empty-fits}
use Rattle.hex_text.proofs.Ends.{index-within, last_within, pair-within, pair_end, pair-pairs, found-end, found-empty, found-other}
use Rattle.hex_text.proofs.read_line.Goals as goal

pub slice_bounds-rest-count : goal.slice_bounds-rest-count
slice_bounds-rest-count c = last_within _ _ c.skip_pairs-last.ensures

pub slice_bounds-rest-start : goal.slice_bounds-rest-start
slice_bounds-rest-start c = last_within _ _ c.skip_pairs-last.ensures

-- the last pair stands behind the others
pub overflow_add-end : goal.overflow_add-end
overflow_add-end c = omega (arith, pair-within _ _ c.skip_pairs-last.ensures c.if-is_last_pair.ensures)

pub slice_bounds-read_pairs-end : goal.slice_bounds-read_pairs-end
slice_bounds-read_pairs-end c = sym (length-take-le _ c.args.text.now (pair-within _ _ c.skip_pairs-last.ensures c.if-is_last_pair.ensures))

pub read_pairs-line-requires : goal.read_pairs-line-requires
read_pairs-line-requires c =
    rw (pair_end _ _ c.skip_pairs-last.ensures c.if-is_last_pair.ensures) (pair-pairs _ _ c.skip_pairs-last.ensures c.if-is_last_pair.ensures)

pub returns-then-is_last_pair : goal.returns-then-is_last_pair
returns-then-is_last_pair c =
    let end = pair_end _ _ c.skip_pairs-last.ensures c.if-is_last_pair.ensures in
    let read = rw end at c.read_pairs-line.ensures in
    (end, read.0, read.1)

-- no last pair stands there
pub overflow_add-end-2 : goal.overflow_add-end-2
overflow_add-end-2 c = omega (arith, found-end _ _ c.skip_pairs-last.ensures _ c.find_line_feed.ensures, index-within c.args.text.now)

pub returns-then-end-eq0 : goal.returns-then-end-eq0
returns-then-end-eq0 c =
    let end = found-end _ _ c.skip_pairs-last.ensures _ c.find_line_feed.ensures in
    let none = empty-fits c.args.block.now in
    rw (found-empty _ _ c.skip_pairs-last.ensures c.if-is_last_pair.ensures (omega arith)) (end, none.0, none.1)

pub returns : goal.returns
returns c =
    let end = found-end _ _ c.skip_pairs-last.ensures _ c.find_line_feed.ensures in
    rw (found-other _ _ c.skip_pairs-last.ensures c.if-is_last_pair.ensures (λ none. c.if-end-eq0.false (omega arith))) (end, refl, refl)
