-- So far it is the peak of the angles passed. Assumes nothing.
use Prim.Native.Nat.{◌-◌}
use mathlib.Core.Path.{◌≡◌, ap, ◌∙◌}
use native.Mathlib.Omega.{arith}
use Rattle.levers.specs.Levers.{lever, peak_up_to}
use Rattle.levers.specs.Sines.{angle_count}
use Rattle.levers.proofs.Peak.{peak_none, peak_more, peak_within}
use Rattle.levers.proofs.tables.Levers.peak.Goals as goal

pub loop-i-init : goal.loop-i-init
loop-i-init c = peak_none _

pub greater_of-first-requires : goal.greater_of-first-requires
greater_of-first-requires c =
    let gz = lever c.args.self.now.kn c.args.self.now.off in
    (omega (arith, c.loop-i.invariant, peak_within gz (c.loop-i.i - 1), c.loop-i-test.true), omega (arith, c.loop-i-test.true))

pub loop-i-preserved : goal.loop-i-preserved
loop-i-preserved c =
    let gz = lever c.args.self.now.kn c.args.self.now.off in
    peak_more gz c.loop-i.i (omega arith) c.loop-i.invariant c.greater_of-first.ensures

pub returns : goal.returns
returns c =
    let gz = lever c.args.self.now.kn c.args.self.now.off in
    let all : c.loop-i.i - 1 ≡ angle_count - 1 = omega arith in
    c.loop-i.invariant ∙ ap (peak_up_to gz) all
