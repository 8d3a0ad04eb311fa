use mathlib.Core.Path.{sym, ◌∙◌}
use Rattle.text_xml_in.proofs.Scanned.{scan_start, scan_small, scan_depth, scan_byte, scan_off, scan_next, scan_end, scan_short}
use mathlib.Core.Path.{ap}
use mathlib.Core.Bool.{not}
use Rattle.text_xml_in.proofs.scan.scan.Goals as goal

pub loop-i-init : goal.loop-i-init
loop-i-init c = scan_start _ _ c.requires

pub fits-requires : goal.fits-requires
fits-requires c = scan_small c.loop-i.invariant

pub shape_of-row-then-not-fits : goal.shape_of-row-then-not-fits
shape_of-row-then-not-fits c = c.loop-i.invariant.held.long ∙ sym c.requires

pub returns-then-not-fits : goal.returns-then-not-fits
returns-then-not-fits c = scan_off c.loop-i.invariant c.loop-i-test.true c.byte-c.ensures c.innermost.ensures c.fits.ensures (ap not c.if-not-fits.true) c.refused.ensures

pub hold-low-requires : goal.hold-low-requires
hold-low-requires c = record { scans = c.loop-i.invariant; byte = scan_byte c.loop-i.invariant c.loop-i-test.true c.byte-c.ensures c.innermost.ensures c.fits.ensures (ap not c.if-not-fits.false) }

pub depth_on-d-requires : goal.depth_on-d-requires
depth_on-d-requires c = scan_depth c.loop-i.invariant c.loop-i-test.true

pub number_on-v-requires : goal.number_on-v-requires
number_on-v-requires c = scan_small c.loop-i.invariant

pub loop-i-preserved : goal.loop-i-preserved
loop-i-preserved c = scan_next c.loop-i.invariant _ c.hold-low.ensures c.stage_on-q.ensures c.number_on-v.ensures c.depth_on-d.ensures

pub shape_of-row-then-ends : goal.shape_of-row-then-ends
shape_of-row-then-ends c = c.loop-i.invariant.held.long ∙ sym c.requires

pub returns-then-ends : goal.returns-then-ends
returns-then-ends c = scan_end c.loop-i.invariant c.loop-i-test.false c.ends.ensures c.if-ends.true

pub shape_of-row : goal.shape_of-row
shape_of-row c = c.loop-i.invariant.held.long ∙ sym c.requires

pub returns : goal.returns
returns c = scan_short c.loop-i.invariant c.loop-i-test.false c.ends.ensures c.if-ends.false c.refused-2.ensures
