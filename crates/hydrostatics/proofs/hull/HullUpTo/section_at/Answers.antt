-- The station's half-breadths up to the waterline stand one after another, and are summed where they stand. Assumes nothing.
use Prim.Native.Nat.{◌+◌, ◌-◌, ◌*◌}
use mathlib.Core.Path.{◌∙◌}
use native.Mathlib.Omega.{arith}
use Rattle.hydrostatics.proofs.Stations.{station_area, station_moment, station_summable, station_balanced, station_last}
use Rattle.hydrostatics.proofs.hull.HullUpTo.section_at.Goals as goal

pub curve_sum-area-requires : goal.curve_sum-area-requires
curve_sum-area-requires c =
    let keel = c.args.i * (c.args.self.now.particulars.m + 1) in
    station_summable c.args.self.now.in_range c.requires c.args.self.now.has_row.0 c.args.self.now.has_row.1 (keel + c.args.self.now.waterline + 1 - keel) (omega arith)

pub moment_sum-moment-requires : goal.moment_sum-moment-requires
moment_sum-moment-requires c =
    let keel = c.args.i * (c.args.self.now.particulars.m + 1) in
    station_balanced c.args.self.now.in_range c.requires c.args.self.now.has_row.0 c.args.self.now.has_row.1 (keel + c.args.self.now.waterline + 1 - keel) (omega arith)

pub returns : goal.returns
returns c =
    let keel = c.args.i * (c.args.self.now.particulars.m + 1) in
    let count = keel + c.args.self.now.waterline + 1 - keel in
    record {
      area_is = c.curve_sum-area.ensures ∙ station_area c.args.self.now.in_range c.requires c.args.self.now.has_row.0 c.args.self.now.has_row.1 count (omega arith);
      moment_is = c.moment_sum-moment.ensures ∙ station_moment c.args.self.now.in_range c.requires c.args.self.now.has_row.0 c.args.self.now.has_row.1 count (omega arith);
      half_breadth_is = station_last c.args.self.now.in_range c.requires c.args.self.now.has_row.0 c.args.self.now.has_row.1 count (omega arith);
    }
