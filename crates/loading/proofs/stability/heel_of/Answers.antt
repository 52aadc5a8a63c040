-- The outcome goes by three tests. Assumes nothing.
use mathlib.Core.Path.{◌≡◌}
use lib.IntN.{nat_abs}
use Rattle.arithmetic.proofs.Crossing.{heard, back_is}
use Rattle.loading.specs.Private.Steady.{above_zero}
use Rattle.loading.proofs.Heels.{unstable, upright, heeled, beyond}
use Rattle.loading.proofs.stability.heel_of.Goals as goal
use Rattle.loading.proofs.stability.heel_of.Goals.{After-above_zero-height, After-magnitude-moment}

height : (c : After-above_zero-height) → c.above_zero-height.result ≡ above_zero c.args.gm
height c = heard above_zero c.ranges.gm c.above_zero-height.ensures

moment : (c : After-magnitude-moment) → c.magnitude-moment.result ≡ nat_abs c.args.my
moment c = heard nat_abs c.ranges.my c.magnitude-moment.ensures

pub returns-then-height-eq0 : goal.returns-then-height-eq0
returns-then-height-eq0 c =
    let s = c.args in
    unstable s.weight _ 0 s.gm s.my (height (goal.at.returns-then-height-eq0 c).After-above_zero-height) c.if-height-eq0.true

pub returns-then-moment-eq0 : goal.returns-then-moment-eq0
returns-then-moment-eq0 c =
    let s = c.args in
    upright s.weight _ _ s.gm s.my (height (goal.at.returns-then-moment-eq0 c).After-above_zero-height) c.if-height-eq0.false (moment (goal.at.returns-then-moment-eq0 c).After-magnitude-moment) c.if-moment-eq0.true

pub returns-then-moment-righting : goal.returns-then-moment-righting
returns-then-moment-righting c =
    rw (back_is c.ranges.my)
    (heeled c.args.weight _ _ c.args.gm c.args.my (height (goal.at.returns-then-moment-righting c).After-above_zero-height) c.if-height-eq0.false (moment (goal.at.returns-then-moment-righting c).After-magnitude-moment) c.if-moment-eq0.false c.if-moment-righting.true)

pub returns : goal.returns
returns c =
    let s = c.args in
    beyond s.weight _ _ s.gm s.my (height (goal.at.returns c).After-above_zero-height) c.if-height-eq0.false (moment (goal.at.returns c).After-magnitude-moment) c.if-moment-eq0.false c.if-moment-righting.false
