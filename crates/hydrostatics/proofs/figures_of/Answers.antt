-- Each number is converted exactly, and the units are what their bits say. Assumes nothing.
use Rattle.hydrostatics.specs.Display.{figures_of}
use Rattle.hydrostatics.proofs.Shown.{thousand, million}
use Rattle.hydrostatics.proofs.figures_of.Goals as goal

pub returns : goal.returns
unfolding figures_of
returns c = rw (c.divided-7.ensures, c.divided-6.ensures, c.divided-5.ensures, c.divided-4.ensures, c.divided-3.ensures, c.divided-2.ensures, c.divided.ensures, thousand, million)
